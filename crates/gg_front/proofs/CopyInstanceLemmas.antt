-- Two instances of one module in a flat circuit: the signals of the one are those of the other, with other numbers.
use Rattle.std.proofs.Common.{◌≡◌, ℕ, ◌+◌, ◌-◌, ◌<◌, ◌≤◌, List, [], ◌∷◌, length, map, get_or, Bool, Option, Some, None, sym, ap, ap₂, ◌∙◌, subst, subst₂, arith, inl, inr, ◌⊎◌, lit≤}
use Rattle.std.specs.Prelude.{Contains, slice_get, slice_index_or, codes}
use Rattle.std.proofs.lemmas.List.{get_or_default, get_or-map, ext_get_or, length-map}
use Rattle.std.proofs.lemmas.List.Elements.{Contains-get_or}
use Rattle.std.proofs.lemmas.Option.{get_or_from_slice_get, slice_get-get_or}
use Rattle.gg_bits.specs.declared.types.Kind.TheVariants.{UInt}
use Rattle.gg_bits.specs.Shape.{Shape}
use Rattle.gg_ast.specs.inside.Names.{AreNamesOfCircuit}
use Rattle.gg_ast.specs.declared.module.Direction.{Direction}
use Rattle.gg_ast.specs.declared.module.Direction.TheVariants as direction
use Rattle.gg_ast.specs.Places.{place_of}
use Rattle.gg_ast.specs.Tree.{CircuitTree, module_names}
use Rattle.gg_flat.specs.declared.memory.Latency.{Latency}
use Rattle.gg_flat.specs.declared.memory.Memory.{Memory}
use Rattle.gg_flat.specs.declared.piece.Driver.TheVariants.{Held}
use Rattle.gg_flat.specs.declared.piece.Register.{Register}
use Rattle.gg_flat_tree.specs.declared.tree.InstancePort.{InstancePort}
use Rattle.gg_flat.specs.Circuit.{FlatCircuit, signal_shapes, driver_at}
use Rattle.gg_flat.specs.Line.{shape_at}
use Rattle.gg_flat.specs.Reads.{NamesSignal, RegisterNames}
use Rattle.gg_flat_tree.specs.Scoped.{IsScoped, IsInputOf}
use Rattle.gg_flat_tree.specs.Tree.{InstanceTree, IsTree, Holds, instance_at, memory_at, path_at, joined}
use Rattle.gg_flat.proofs.ListLemmas.{some-item}
use Rattle.gg_elab_sites.specs.Sites.{Site, module_at, sites_of}
use Rattle.gg_elab_sites.specs.Flat.{stop_paths, Answers, FlatSignal, flat_signal, FlatMemory, flat_signals, flat_memories, memories_at}
use Rattle.gg_elab_sites.specs.IsFlat.{IsFlat, IsMemoryOf, memory_paths, top_ports, count_before, is_register}
use Rattle.gg_elab_sites.specs.Known.{types_of}
use Rattle.gg_elab_sites.specs.Signals.{Cause, Answered, Own, cause_of_port, field_name}
use Rattle.gg_elab_sites.proofs.AmongLemmas.{Element, element-at, MadeOf, from-map, from-flat_map}
use Rattle.gg_elab_tree.proofs.WellFormedLemmas.BankFieldLemmas.{AnswerAmong, answer-among}
use Rattle.gg_elab_tree.specs.IsTreeOf.{IsTreeOf, IsPortFor, Pairwise, clocks_held, signal_paths, signal_ports, memories_of}
use Rattle.gg_elab_tree.proofs.HeldMemoryLemmas.{memory-count, memory-number, memory-place}
use Rattle.gg_elab_tree.proofs.NamesLemmas.CauseLemmas.{IsNamed}
use Rattle.gg_elab_tree.proofs.DriverLemmas.{own-cases, port-own-cause}
use Rattle.gg_elab_tree.proofs.InstanceLemmas.{signals_in, stands, ranges, instance-for}
use Rattle.gg_elab_tree.proofs.OwnLemmas.{own_in, placed-known, Pairwise-at}
use Rattle.gg_elab_tree.proofs.PairwiseLemmas.{Pairwise-length}
use Rattle.gg_elab_tree.proofs.PlaceLemmas.{Placed, within}
use Rattle.gg_elab_tree.proofs.RangeLemmas.{Ranges, count_to, placed-count}
use Rattle.gg_elab_tree.proofs.ScopeOfTreeLemmas.{HasApartNames}
use Rattle.gg_elab_tree.proofs.TreeLemmas.{HasDistinctPaths, HasPlainNames, no_own, no_port, port-at, path-is}
use Rattle.gg_elab_tree.proofs.VisibleLemmas.{HasKnownNames}
use Rattle.gg_part.specs.Moved.{IsMoved, moved_port, shifted, unclocked_memory, unclocked_register}
use Rattle.gg_part.specs.Copies.{Start, IsCopy, HasCopies}
use Rattle.gg_front.proofs.LikeSites.{AreLikeSignals, AreLikeMemories}
use Rattle.gg_front.proofs.CopyBelowLemmas.{sites_like, instance-moved, own-clocks, clocks-moved, parent-moved, stop-moved}
use Rattle.gg_front.proofs.CopyLemmas.{HasSomeNames, signals-like, memories-like}
use Rattle.gg_front.proofs.CopyLineLemmas.{SamePaths}
use Rattle.gg_front.proofs.CopyDriverLemmas.{Stretch, AtInput, driver-moved, held-copied, memory-copied, none, path-there, paths-same, shapes-same, stretch-at, stretch-inside, stretch-map, stretch-paths}
use Rattle.gg_front.proofs.CopyFieldLemmas.{AnswerParts, answer-parts, there-of, own-there, bank-there, reader-there, writer-there}
use Rattle.gg_front.proofs.CopyPlaceLemmas.{AreRanked, placed-stretch}
use Rattle.gg_front.proofs.CopyClockLemmas.{clocks-alike}
use Rattle.gg_front.proofs.CopyClosedLemmas.{driver-in, register-in}
use Rattle.gg_front.proofs.CopyInputLemmas.{input-there, input-here}
use Rattle.gg_front.proofs.CopyInsideLemmas.{memory-inside}
use Rattle.gg_flat.specs.Renaming.{numbers_by, renamed_driver, renamed_memory, renamed_register, signals_by}

-- a register for where there is none
abbrev some_register : Register
some_register = record { ty = record { kind = UInt; width = 1; positive = lit≤ tt; bounded = lit≤ tt }; reset = None; next = None; clock = None }

abbrev port_made : ℕ → Bool → InstancePort
port_made signal goes = record { signal = signal; is_input = goes }

Pairwise-weaker : {A B : Type 0} (R S : A → B → Type 0) → ((x : A) (y : B) → R x y → S x y) → (xs : List A) (ys : List B) → Pairwise R xs ys → Pairwise S xs ys
Pairwise-weaker R S h [] [] p = tt
Pairwise-weaker R S h [] (y ∷ ys) p = absurd p
Pairwise-weaker R S h (x ∷ xs) [] p = absurd p
Pairwise-weaker R S h (x ∷ xs) (y ∷ ys) p = (h x y p.0, Pairwise-weaker R S h xs ys p.1)

module _ (circuit : CircuitTree) (flat : FlatCircuit) (tree : InstanceTree) (top : ℕ) (known_top : place_of circuit.name (module_names circuit) ≡ Some top) (is_flat : IsFlat circuit flat) (is_tree : IsTreeOf circuit tree) (distinct : HasDistinctPaths circuit) (plain : HasPlainNames circuit) (names : HasApartNames circuit) (known : HasKnownNames circuit) (are_names : AreNamesOfCircuit circuit) (fits : IsTree flat tree) (scoped : IsScoped flat tree)
    (rank : ℕ → ℕ) (ranked : AreRanked circuit.modules rank) (rank_top : rank top ≤ length circuit.modules) (some : HasSomeNames circuit.modules) where
  abbrev Stands : ℕ → Site → Type 0
  Stands k x = Placed (length circuit.modules) circuit.modules (sites_of circuit) k x

  abbrev below : Site → List Site
  below x = within (length circuit.modules) circuit.modules x

  abbrev from_site : ℕ → ℕ
  from_site k = count_to (signals_in circuit) (sites_of circuit) k

  abbrev all : List FlatSignal
  all = flat_signals (types_of circuit) circuit.modules (sites_of circuit)

  abbrev start : ℕ → Start
  start k =
      record {
        signals = from_site k;
        registers = count_before is_register all (from_site k);
        memories = count_to (memories_at circuit.modules) (sites_of circuit) k;
      }

  module _ (i j : ℕ) (u v : Site) (at_i : Stands i u) (at_j : Stands j v) (same : u.number ≡ v.number) where
    abbrev p : List FlatSignal
    p = flat_signals (types_of circuit) circuit.modules (below u)

    abbrev q : List FlatSignal
    q = flat_signals (types_of circuit) circuit.modules (below v)

    like : Pairwise (AreLikeSignals (types_of circuit) circuit.modules u v) p q
    like = signals-like circuit.modules some u v (types_of circuit) (below u) (below v) (sites_like circuit flat tree top known_top is_flat is_tree distinct plain names rank ranked rank_top some i j u v at_i at_j same)

    one : Stretch all (from_site i) p
    one = placed-stretch (signals_in circuit) (length circuit.modules) circuit.modules (sites_of circuit) i u at_i

    other : Stretch all (from_site j) q
    other = placed-stretch (signals_in circuit) (length circuit.modules) circuit.modules (sites_of circuit) j v at_j

    pub size-same : length p ≡ length q
    size-same = Pairwise-length (AreLikeSignals (types_of circuit) circuit.modules u v) p q like

    end-i : from_site (i + length (below u)) ≡ from_site i + length p
    end-i = placed-count (length circuit.modules) circuit.modules (sites_of circuit) (signals_in circuit) i u at_i

    end-j : from_site (j + length (below v)) ≡ from_site j + length q
    end-j = placed-count (length circuit.modules) circuit.modules (sites_of circuit) (signals_in circuit) j v at_j

    there-in : (s : ℕ) → IsInputOf tree j (from_site j + s) → IsInputOf tree i (from_site i + s)
    there-in s input = input-there circuit flat tree top known_top is_flat is_tree distinct plain names known are_names i j u v at_i at_j same s input

    here-in : (s : ℕ) → s < length p → AtInput (types_of circuit) circuit.modules u (get_or p s none).path → IsInputOf tree i (from_site i + s)
    here-in s lt at =
        input-here circuit flat tree top known_top is_flat is_tree distinct plain names known are_names i u at_i s (get_or p s none).path
        (path-there (types_of circuit) circuit.modules u v all (memories_of circuit) (top_ports circuit.modules (place_of circuit.name (module_names circuit))) (stop_paths circuit.modules (sites_of circuit)) flat is_flat distinct.of_signals (from_site i) (from_site j) p q one other like (from_site i) p one s lt) at

    -- ---- memories

    abbrev from_memory : ℕ → ℕ
    from_memory k = count_to (memories_at circuit.modules) (sites_of circuit) k

    abbrev mp : List FlatMemory
    mp = flat_memories circuit.modules (below u)

    abbrev mq : List FlatMemory
    mq = flat_memories circuit.modules (below v)

    banks-like : Pairwise (AreLikeMemories u v) mp mq
    banks-like = memories-like circuit.modules some u v (below u) (below v) (sites_like circuit flat tree top known_top is_flat is_tree distinct plain names rank ranked rank_top some i j u v at_i at_j same)

    banks-same : SamePaths (memory_paths (memories_of circuit)) u.path v.path (from_memory i) (from_memory j) (length mp)
    banks-same =
        stretch-paths (λ (x : FlatMemory). x.path) u.path v.path (memories_of circuit) (from_memory i) (from_memory j) mp mq
        (placed-stretch (memories_at circuit.modules) (length circuit.modules) circuit.modules (sites_of circuit) i u at_i)
        (placed-stretch (memories_at circuit.modules) (length circuit.modules) circuit.modules (sites_of circuit) j v at_j)
        (Pairwise-weaker (AreLikeMemories u v) (λ (x y : FlatMemory). IsMoved u.path v.path x.path y.path) (λ x y l. l.path) mp mq banks-like)

    abbrev IsThere : List (List ℕ) → ℕ → ℕ → List ℕ → Type 0
    IsThere paths first count path = (k : ℕ) × (k < count) × (slice_get paths (first + k) ≡ Some path)

    abbrev registers_before : ℕ → ℕ
    registers_before first = count_before is_register all first

    signals-there : (w : List ℕ) → Contains (map (λ (y : FlatSignal). y.path) p) w → IsThere (signal_paths circuit) (from_site i) (length p) w
    signals-there w c =
        let t = there-of (signal_paths circuit) (from_site i) (map (λ (y : FlatSignal). y.path) p) (stretch-map (λ (y : FlatSignal). y.path) all (from_site i) p one) w c in
        (t.0, omega (arith, t.1, length-map p (λ (y : FlatSignal). y.path)), t.2)

    -- the memory that a reader's answer comes from, and its address and its enable, are the instance's
    fields : (s place : ℕ) (latency : Latency) (m addr en : List ℕ) → s < length p → (get_or p s none).drive ≡ Answers m place latency addr en
        → IsThere (memory_paths (memories_of circuit)) (from_memory i) (length mp) m × (IsThere (signal_paths circuit) (from_site i) (length p) addr × IsThere (signal_paths circuit) (from_site i) (length p) en)
    fields s place latency m addr en lt is = (memory, (own said.0 addr a.addr_is, own said.1 en a.en_is))
      where
        x : MadeOf (λ z y. Contains (signals_in circuit z) y) (below u) (get_or p s none)
        x = from-flat_map (signals_in circuit) (below u) (get_or p s none) (Contains-get_or p s none lt)

        o : MadeOf (λ z y. flat_signal circuit.modules x.of z ≡ y) (own_in circuit x.of) (get_or p s none)
        o = from-map (flat_signal circuit.modules x.of) (own_in circuit x.of) (get_or p s none) x.made

        a : AnswerParts x.of o.of.cause m place latency addr en
        a = answer-parts circuit.modules x.of o.of.name o.of.cause m place latency addr en (ap (λ (y : FlatSignal). y.drive) o.made ∙ is)

        bank : AnswerAmong (module_at circuit.modules x.of.number).statements a.said a.at a.late o.of
        bank = answer-among (types_of circuit) x.of.number (module_at circuit.modules x.of.number) o.of a.said a.port a.at a.late o.among a.is

        memory : IsThere (memory_paths (memories_of circuit)) (from_memory i) (length mp) m
        memory =
            let c = bank-there circuit.modules (below u) x.of bank.bank x.among bank.listed in
            let t = there-of (memory_paths (memories_of circuit)) (from_memory i) (map (λ (y : FlatMemory). y.path) mp)
            (stretch-map (λ (y : FlatMemory). y.path) (memories_of circuit) (from_memory i) mp (placed-stretch (memories_at circuit.modules) (length circuit.modules) circuit.modules (sites_of circuit) i u at_i))
            m (subst (λ (w : List ℕ). Contains (map (λ (y : FlatMemory). y.path) mp) w) (sym (a.path ∙ ap (joined x.of.path) bank.is)) c) in
            (t.0, omega (arith, t.1, length-map mp (λ (y : FlatMemory). y.path)), t.2)

        own : {name : List ℕ} → (k : ℕ) × (k < length (own_in circuit x.of)) × ((get_or (own_in circuit x.of) k no_own).name ≡ name) → (w : List ℕ) → w ≡ joined x.of.path name → IsThere (signal_paths circuit) (from_site i) (length p) w
        own (k, inside, named) w e =
            signals-there w
            (subst (λ (z : List ℕ). Contains (map (λ (y : FlatSignal). y.path) p) z) (ap (joined x.of.path) named ∙ sym e)
            (own-there (types_of circuit) circuit.modules (below u) x.of (get_or (own_in circuit x.of) k no_own) x.among (Contains-get_or (own_in circuit x.of) k no_own inside)))

        said : ((k : ℕ) × (k < length (own_in circuit x.of)) × ((get_or (own_in circuit x.of) k no_own).name ≡ field_name a.said a.port (codes "addr"))) × ((k : ℕ) × (k < length (own_in circuit x.of)) × ((get_or (own_in circuit x.of) k no_own).name ≡ field_name a.said a.port (codes "en")))
        said = go (own-cases circuit flat tree top known_top is_flat is_tree distinct plain names known are_names x.of o.among.0 o.among.1)
          where
            cause : (get_or (own_in circuit x.of) o.among.0 no_own).cause ≡ Answered a.said a.port a.at a.late
            cause = ap (λ (y : Own). y.cause) (get_or_default (own_in circuit x.of) o.among.0 no_own o.of o.among.1 ∙ o.among.2) ∙ a.is

            no-port : {B : Type 0} (way : Direction) → cause_of_port way ≡ Answered a.said a.port a.at a.late → B
            no-port direction.Input e = absurd (cc)
            no-port direction.Output e = absurd (cc)

            go : (o.among.0 < length (signal_ports (module_at circuit.modules x.of.number))) ⊎ IsNamed (λ name. (k : ℕ) × (k < length (own_in circuit x.of)) × ((get_or (own_in circuit x.of) k no_own).name ≡ name)) (get_or (own_in circuit x.of) o.among.0 no_own).cause
                → ((k : ℕ) × (k < length (own_in circuit x.of)) × ((get_or (own_in circuit x.of) k no_own).name ≡ field_name a.said a.port (codes "addr"))) × ((k : ℕ) × (k < length (own_in circuit x.of)) × ((get_or (own_in circuit x.of) k no_own).name ≡ field_name a.said a.port (codes "en")))
            go (inl lt) =
                let port = some-item (signal_ports (module_at circuit.modules x.of.number)) o.among.0 lt in
                no-port (get_or (signal_ports (module_at circuit.modules x.of.number)) o.among.0 port).direction
                (sym (port-own-cause circuit flat tree top known_top is_flat is_tree distinct plain names known are_names x.of o.among.0 no_own port lt) ∙ cause)
            go (inr named) = subst (λ (c : Cause). IsNamed (λ name. (k : ℕ) × (k < length (own_in circuit x.of)) × ((get_or (own_in circuit x.of) k no_own).name ≡ name)) c) cause named

    -- the driver of each signal but the inputs moves
    pub driver-copied : (s : ℕ) → s < length p → ¬ IsInputOf tree i (from_site i + s)
        → driver_at flat (from_site j + s) ≡ renamed_driver (numbers_by (shifted (from_site i) (from_site j)) (shifted (registers_before (from_site i)) (registers_before (from_site j))) (shifted (from_memory i) (from_memory j))) (driver_at flat (from_site i + s))
    driver-copied s lt inner =
        elim (driver-moved (types_of circuit) circuit.modules u v all (memories_of circuit) (top_ports circuit.modules (place_of circuit.name (module_names circuit))) (stop_paths circuit.modules (sites_of circuit)) flat is_flat distinct.of_signals (from_site i) (from_site j) p q one other like (from_memory i) (from_memory j) (length mp) distinct.of_memories banks-same fields s lt here there) [
          | inl at ↦ absurd (inner (here-in s lt at))
          | inr e ↦ e
        ]
      where
        here : (t : ℕ) → NamesSignal (driver_at flat (from_site i + s)) t → (from_site i ≤ t) × (t < from_site i + length p)
        here t names =
            let r = driver-in circuit flat tree top known_top is_flat is_tree distinct fits scoped i u at_i (from_site i + s) t (omega arith, omega (arith, lt, end-i)) inner names in
            (r.0, omega (arith, r.1, end-i))

        there : (t : ℕ) → NamesSignal (driver_at flat (from_site j + s)) t → (from_site j ≤ t) × (t < from_site j + length p)
        there t names =
            let r = driver-in circuit flat tree top known_top is_flat is_tree distinct fits scoped j v at_j (from_site j + s) t (omega arith, omega (arith, lt, end-j, size-same)) (λ input. inner (there-in s input)) names in
            (r.0, omega (arith, r.1, end-j, size-same))

    -- ---- the instance at place j is a copy of that at place i

    abbrev to_there : ℕ → ℕ
    to_there s = shifted (from_site i) (from_site j) s

    tells : Ranges (length circuit.modules) circuit.modules (signals_in circuit) (sites_of circuit) tree
    tells = ranges circuit tree top known_top is_tree distinct.of_sites

    begin-i : (instance_at tree i).first ≡ from_site i
    begin-i = tells.begins i (placed-known circuit i u at_i)

    stop-i : (instance_at tree i).end ≡ from_site i + length p
    stop-i = tells.ends i u at_i ∙ end-i

    stop-j : (instance_at tree j).end ≡ from_site j + length q
    stop-j = tells.ends j v at_j ∙ end-j

    -- a signal of the instance, by its place in the instance
    record InPlace (s : ℕ) : Type 0 where
      pub place : ℕ
      pub inside : place < length p
      pub here : from_site i + place ≡ s
      pub there : from_site j + place ≡ to_there s

    in-place : (s : ℕ) → Holds (instance_at tree i) s → InPlace s
    in-place s h = record { place = s - from_site i; inside = omega (arith, h.0, h.1, begin-i, stop-i); here = omega (arith, h.0, begin-i); there = omega arith }

    path-copied : (s : ℕ) → Holds (instance_at tree i) s → IsMoved (path_at tree.paths i) (path_at tree.paths j) (path_at flat.paths s) (path_at flat.paths (to_there s))
    path-copied s h =
        let k = in-place s h in
        let l = (paths-same (types_of circuit) circuit.modules u v all (memories_of circuit) (top_ports circuit.modules (place_of circuit.name (module_names circuit))) (stop_paths circuit.modules (sites_of circuit)) flat is_flat distinct.of_signals (from_site i) (from_site j) p q one other like).at k.place k.inside in
        record {
          rest = l.0;
          one =
              ap₂ (λ (ps : List (List ℕ)) (n : ℕ). path_at ps n) is_flat.paths (sym k.here)
              ∙ get_or_from_slice_get (signal_paths circuit) (from_site i + k.place) (joined u.path l.0) [] l.1
              ∙ ap (λ (a : List ℕ). joined a l.0) (sym (path-is circuit flat tree top known_top is_flat is_tree distinct i u at_i));
          other =
              ap₂ (λ (ps : List (List ℕ)) (n : ℕ). path_at ps n) is_flat.paths (sym k.there)
              ∙ get_or_from_slice_get (signal_paths circuit) (from_site j + k.place) (joined v.path l.0) [] l.2
              ∙ ap (λ (a : List ℕ). joined a l.0) (sym (path-is circuit flat tree top known_top is_flat is_tree distinct j v at_j));
        }

    shape-copied : (s : ℕ) → Holds (instance_at tree i) s → shape_at (signal_shapes flat) (to_there s) ≡ shape_at (signal_shapes flat) s
    shape-copied s h =
        let k = in-place s h in
        ap₂ (λ (shapes : List Shape) (n : ℕ). shape_at shapes n) is_flat.shapes (sym k.there)
        ∙ shapes-same (types_of circuit) circuit.modules u v all (memories_of circuit) (top_ports circuit.modules (place_of circuit.name (module_names circuit))) (stop_paths circuit.modules (sites_of circuit)) flat is_flat distinct.of_signals (from_site i) (from_site j) p q one other like k.place k.inside
        ∙ sym (ap₂ (λ (shapes : List Shape) (n : ℕ). shape_at shapes n) is_flat.shapes (sym k.here))

    driver-at : (s : ℕ) → Holds (instance_at tree i) s → ¬ IsInputOf tree i s
        → driver_at flat (to_there s) ≡ renamed_driver (numbers_by (shifted (from_site i) (from_site j)) (shifted (registers_before (from_site i)) (registers_before (from_site j))) (shifted (from_memory i) (from_memory j))) (driver_at flat s)
    driver-at s h inner =
        let k = in-place s h in
        ap (driver_at flat) (sym k.there)
        ∙ driver-copied k.place k.inside (λ input. inner (subst (λ (n : ℕ). IsInputOf tree i n) k.here input))
        ∙ ap (λ (n : ℕ). renamed_driver (numbers_by (shifted (from_site i) (from_site j)) (shifted (registers_before (from_site i)) (registers_before (from_site j))) (shifted (from_memory i) (from_memory j))) (driver_at flat n)) k.here

    abbrev register_there : ℕ → ℕ
    register_there r = shifted (registers_before (from_site i)) (registers_before (from_site j)) r

    -- a register is the same but for its clock, and follows the same Clock input of its site
    register-again : (s r : ℕ) (any : Register) → Holds (instance_at tree i) s → ¬ IsInputOf tree i s → driver_at flat s ≡ Held r
        → (unclocked_register (slice_index_or flat.registers (register_there r) any) ≡ unclocked_register (renamed_register (signals_by to_there) (slice_index_or flat.registers r any))) × (get_or (clocks_held all) (register_there r) None ≡ get_or (clocks_held all) r None)
    register-again s r any h inner held =
        elim (held-copied (types_of circuit) circuit.modules u v all (memories_of circuit) (top_ports circuit.modules (place_of circuit.name (module_names circuit))) (stop_paths circuit.modules (sites_of circuit)) flat is_flat distinct.of_signals (from_site i) (from_site j) p q one other like (from_memory i) (from_memory j) (length mp) distinct.of_memories banks-same fields k.place r k.inside held-here any here there) [
          | inl at ↦ absurd (inner (subst (λ (n : ℕ). IsInputOf tree i n) k.here (here-in k.place k.inside at)))
          | inr e ↦ (e.again, e.there ∙ sym e.here)
        ]
      where
        k : InPlace s
        k = in-place s h

        held-here : driver_at flat (from_site i + k.place) ≡ Held r
        held-here = ap (driver_at flat) k.here ∙ held

        inner-here : ¬ IsInputOf tree i (from_site i + k.place)
        inner-here input = inner (subst (λ (n : ℕ). IsInputOf tree i n) k.here input)

        moved_number : ℕ
        moved_number = shifted (registers_before (from_site i)) (registers_before (from_site j)) r

        held-there : driver_at flat (from_site j + k.place) ≡ Held moved_number
        held-there =
            driver-copied k.place k.inside inner-here
            ∙ ap (renamed_driver (numbers_by (shifted (from_site i) (from_site j)) (shifted (registers_before (from_site i)) (registers_before (from_site j))) (shifted (from_memory i) (from_memory j)))) held-here

        here : r < length flat.registers → (t : ℕ) → RegisterNames (slice_index_or flat.registers r any) t → (from_site i ≤ t) × (t < from_site i + length p)
        here within t names =
            let i_in = register-in circuit flat tree top known_top is_flat is_tree distinct fits scoped i u at_i (from_site i + k.place) r t (slice_index_or flat.registers r any) (omega arith, omega (arith, k.inside, end-i)) inner-here held-here (slice_get-get_or flat.registers r any within) names in
            (i_in.0, omega (arith, i_in.1, end-i))

        there : moved_number < length flat.registers → (t : ℕ) → RegisterNames (slice_index_or flat.registers moved_number any) t → (from_site j ≤ t) × (t < from_site j + length p)
        there within t names =
            let j_in = register-in circuit flat tree top known_top is_flat is_tree distinct fits scoped j v at_j (from_site j + k.place) moved_number t (slice_index_or flat.registers moved_number any) (omega arith, omega (arith, k.inside, end-j, size-same)) (λ input. inner-here (there-in k.place input)) held-there (slice_get-get_or flat.registers moved_number any within) names in
            (j_in.0, omega (arith, j_in.1, end-j, size-same))

    register-clock : (s r : ℕ) → Holds (instance_at tree i) s → ¬ IsInputOf tree i s → driver_at flat s ≡ Held r → slice_index_or tree.register_clocks (register_there r) None ≡ slice_index_or tree.register_clocks r None
    register-clock s r h inner held =
        ap (λ (l : List (Option ℕ)). get_or l (register_there r) None) is_tree.register_clocks
        ∙ (register-again s r some_register h inner held).1
        ∙ sym (ap (λ (l : List (Option ℕ)). get_or l r None) is_tree.register_clocks)

    memory-at : (m : ℕ) (any : Memory) → from_memory i ≤ m → m < from_memory i + length mp → unclocked_memory (slice_index_or flat.memories (shifted (from_memory i) (from_memory j) m) any) ≡ unclocked_memory (renamed_memory (signals_by to_there) (slice_index_or flat.memories m any))
    memory-at m any low high =
        ap (λ (n : ℕ). unclocked_memory (slice_index_or flat.memories n any)) (sym there)
        ∙ memory-copied (types_of circuit) circuit.modules u v all (memories_of circuit) (top_ports circuit.modules (place_of circuit.name (module_names circuit))) (stop_paths circuit.modules (sites_of circuit)) flat is_flat distinct.of_signals (from_site i) (from_site j) p q one other like (from_memory i) (from_memory j) (length mp) distinct.of_memories banks-same fields
        x.element y.element _ _ same_bank is_here is_there readers writers
        ∙ ap (λ (n : ℕ). unclocked_memory (renamed_memory (signals_by to_there) (slice_index_or flat.memories n any))) here
      where
        k : ℕ
        k = m - from_memory i

        inside : k < length mp
        inside = omega (arith, low, high)

        inside_there : k < length mq
        inside_there = omega (arith, inside, Pairwise-length (AreLikeMemories u v) mp mq banks-like)

        here : from_memory i + k ≡ m
        here = omega (arith, low)

        there : from_memory j + k ≡ shifted (from_memory i) (from_memory j) m
        there = omega arith

        x : Element mp k
        x = element-at mp k inside

        y : Element mq k
        y = element-at mq k inside_there

        same_bank : AreLikeMemories u v x.element y.element
        same_bank = subst₂ (λ a b. AreLikeMemories u v a b) (x.is x.element) (y.is y.element) (Pairwise-at (AreLikeMemories u v) mp mq k x.element y.element banks-like inside)

        at-i : Stretch (memories_of circuit) (from_memory i) mp
        at-i = placed-stretch (memories_at circuit.modules) (length circuit.modules) circuit.modules (sites_of circuit) i u at_i

        at-j : Stretch (memories_of circuit) (from_memory j) mq
        at-j = placed-stretch (memories_at circuit.modules) (length circuit.modules) circuit.modules (sites_of circuit) j v at_j

        is_here : IsMemoryOf (signal_paths circuit) x.element (slice_index_or flat.memories (from_memory i + k) any)
        is_here =
            subst (λ (z : FlatMemory). IsMemoryOf (signal_paths circuit) z (slice_index_or flat.memories (from_memory i + k) any)) (stretch-at (memories_of circuit) (from_memory i) mp at-i k x.element inside ∙ x.is x.element)
            (is_flat.memories (from_memory i + k) x.element any (omega (arith, inside, stretch-inside (memories_of circuit) (from_memory i) mp at-i)))

        is_there : IsMemoryOf (signal_paths circuit) y.element (slice_index_or flat.memories (from_memory j + k) any)
        is_there =
            subst (λ (z : FlatMemory). IsMemoryOf (signal_paths circuit) z (slice_index_or flat.memories (from_memory j + k) any)) (stretch-at (memories_of circuit) (from_memory j) mq at-j k y.element inside_there ∙ y.is y.element)
            (is_flat.memories (from_memory j + k) y.element any (omega (arith, inside_there, stretch-inside (memories_of circuit) (from_memory j) mq at-j)))

        readers : (port word : List ℕ) → Contains x.element.bank.readers port → Contains (codes "addr" ∷ codes "en" ∷ codes "data" ∷ []) word → IsThere (signal_paths circuit) (from_site i) (length p) (field_name x.element.path port word)
        readers port word c w = signals-there (field_name x.element.path port word) (reader-there (types_of circuit) circuit.modules (below u) x.element x.among port word c w)

        writers : (port word : List ℕ) → Contains x.element.bank.writers port → Contains (codes "addr" ∷ codes "en" ∷ codes "data" ∷ codes "mask" ∷ []) word → IsThere (signal_paths circuit) (from_site i) (length p) (field_name x.element.path port word)
        writers port word c w = signals-there (field_name x.element.path port word) (writer-there (types_of circuit) circuit.modules (below u) x.element x.among port word c w)

    -- the ports of a memory follow the same Clock inputs of its instance
    memory-clocks : (m : ℕ) → m < length tree.memories → from_memory i ≤ m → m < from_memory i + length mp → (memory_at tree (shifted (from_memory i) (from_memory j) m)).clocks ≡ (memory_at tree m).clocks
    memory-clocks m lt low high =
        subst₂ (λ (a b : ℕ). (memory_at tree b).clocks ≡ (memory_at tree a).clocks) here there
        (clocks-alike circuit tree top known_top is_tree u v (from_memory i + k) (from_memory j + k) x.element y.element
        (omega (arith, here, lt)) (omega (arith, inside_there, stretch-inside (memories_of circuit) (from_memory j) mq at-j, memory-count circuit tree top known_top is_tree))
        (stretch-at (memories_of circuit) (from_memory i) mp at-i k x.element inside ∙ x.is x.element)
        (stretch-at (memories_of circuit) (from_memory j) mq at-j k y.element inside_there ∙ y.is y.element)
        (subst₂ (λ a b. AreLikeMemories u v a b) (x.is x.element) (y.is y.element) (Pairwise-at (AreLikeMemories u v) mp mq k x.element y.element banks-like inside)))
      where
        k : ℕ
        k = m - from_memory i

        inside : k < length mp
        inside = omega (arith, low, high)

        inside_there : k < length mq
        inside_there = omega (arith, inside, Pairwise-length (AreLikeMemories u v) mp mq banks-like)

        here : from_memory i + k ≡ m
        here = omega (arith, low)

        there : from_memory j + k ≡ shifted (from_memory i) (from_memory j) m
        there = omega arith

        x : Element mp k
        x = element-at mp k inside

        y : Element mq k
        y = element-at mq k inside_there

        at-i : Stretch (memories_of circuit) (from_memory i) mp
        at-i = placed-stretch (memories_at circuit.modules) (length circuit.modules) circuit.modules (sites_of circuit) i u at_i

        at-j : Stretch (memories_of circuit) (from_memory j) mq
        at-j = placed-stretch (memories_at circuit.modules) (length circuit.modules) circuit.modules (sites_of circuit) j v at_j

    -- ---- ports and paths of memories

    ports-i : Pairwise (IsPortFor circuit u) (signal_ports (module_at circuit.modules u.number)) (instance_at tree i).ports
    ports-i = (instance-for circuit tree top known_top is_tree distinct.of_sites i u at_i).ports

    ports-j : Pairwise (IsPortFor circuit v) (signal_ports (module_at circuit.modules u.number)) (instance_at tree j).ports
    ports-j = subst (λ (k : ℕ). Pairwise (IsPortFor circuit v) (signal_ports (module_at circuit.modules k)) (instance_at tree j).ports) (sym same) (instance-for circuit tree top known_top is_tree distinct.of_sites j v at_j).ports

    port-count : length (instance_at tree i).ports ≡ length (instance_at tree j).ports
    port-count =
        sym (Pairwise-length (IsPortFor circuit u) (signal_ports (module_at circuit.modules u.number)) (instance_at tree i).ports ports-i)
        ∙ Pairwise-length (IsPortFor circuit v) (signal_ports (module_at circuit.modules u.number)) (instance_at tree j).ports ports-j

    port-copied : (k : ℕ) (d : InstancePort) → k < length (instance_at tree j).ports → get_or (instance_at tree j).ports k d ≡ moved_port to_there (get_or (instance_at tree i).ports k d)
    port-copied k d lt =
        let lt' : k < length (instance_at tree i).ports = omega (arith, lt, port-count) in
        let there = port-at circuit flat tree top known_top is_flat is_tree distinct plain j v at_j k d lt in
        let here = port-at circuit flat tree top known_top is_flat is_tree distinct plain i u at_i k d lt' in
        let known_port : k < length (signal_ports (module_at circuit.modules u.number)) = omega (arith, lt', Pairwise-length (IsPortFor circuit u) (signal_ports (module_at circuit.modules u.number)) (instance_at tree i).ports ports-i) in
        let port = some-item (signal_ports (module_at circuit.modules u.number)) k known_port in
        let goes_there = (Pairwise-at (IsPortFor circuit v) (signal_ports (module_at circuit.modules u.number)) (instance_at tree j).ports k port d ports-j known_port).goes in
        let goes_here = (Pairwise-at (IsPortFor circuit u) (signal_ports (module_at circuit.modules u.number)) (instance_at tree i).ports k port d ports-i known_port).goes in
        ap₂ (λ (s : ℕ) (b : Bool). port_made s b) (omega (arith, here.0, there.0)) (goes_there ∙ sym goes_here)

    ports-copied : (instance_at tree j).ports ≡ map (λ port. moved_port to_there port) (instance_at tree i).ports
    ports-copied =
        ext_get_or no_port (instance_at tree j).ports (map (λ port. moved_port to_there port) (instance_at tree i).ports) (sym port-count ∙ sym (length-map (instance_at tree i).ports (λ port. moved_port to_there port)))
        (λ k lt. port-copied k no_port lt ∙ sym (get_or-map (λ port. moved_port to_there port) (instance_at tree i).ports k no_port no_port (omega (arith, lt, port-count))))

    memory-path-copied : (m : ℕ) → from_memory i ≤ m → m < from_memory i + length mp → IsMoved (path_at tree.paths i) (path_at tree.paths j) (path_at tree.memory_paths m) (path_at tree.memory_paths (shifted (from_memory i) (from_memory j) m))
    memory-path-copied m low high =
        let l = banks-same.at (m - from_memory i) (omega (arith, low, high)) in
        let here : from_memory i + (m - from_memory i) ≡ m = omega (arith, low) in
        let there : from_memory j + (m - from_memory i) ≡ shifted (from_memory i) (from_memory j) m = omega arith in
        record {
          rest = l.0;
          one =
              ap₂ (λ (ps : List (List ℕ)) (n : ℕ). path_at ps n) is_tree.memory_names (sym here)
              ∙ get_or_from_slice_get (memory_paths (memories_of circuit)) (from_memory i + (m - from_memory i)) (joined u.path l.0) [] l.1
              ∙ ap (λ (a : List ℕ). joined a l.0) (sym (path-is circuit flat tree top known_top is_flat is_tree distinct i u at_i));
          other =
              ap₂ (λ (ps : List (List ℕ)) (n : ℕ). path_at ps n) is_tree.memory_names (sym there)
              ∙ get_or_from_slice_get (memory_paths (memories_of circuit)) (from_memory j + (m - from_memory i)) (joined v.path l.0) [] l.2
              ∙ ap (λ (a : List ℕ). joined a l.0) (sym (path-is circuit flat tree top known_top is_flat is_tree distinct j v at_j));
        }

    pub is-copy : IsCopy flat tree i j (start i) (start j)
    is-copy = record {
      size = omega (arith, stop-i, stop-j, size-same);
      path = path-copied;
      shape = shape-copied;
      driver = driver-at;
      register = λ s r any h inner held. (register-again s r any h inner held).0;
      register_clock = register-clock;
      ports = ports-copied;
      instance = instance-moved circuit flat tree top known_top is_flat is_tree distinct plain names rank ranked rank_top some i j u v at_i at_j same;
      parent = parent-moved circuit flat tree top known_top is_flat is_tree distinct plain names rank ranked rank_top some i j u v at_i at_j same;
      memory_path = λ m lt lies. let h = memory-inside circuit tree top known_top is_tree distinct i u at_i m lt lies in memory-path-copied m h.0 h.1;
      memory = λ m any lt lies. let h = memory-inside circuit tree top known_top is_tree distinct i u at_i m lt lies in memory-at m any h.0 h.1;
      memory_clocks = λ m lt lies. let h = memory-inside circuit tree top known_top is_tree distinct i u at_i m lt lies in memory-clocks m lt h.0 h.1;
      own_clocks = own-clocks circuit flat tree top known_top is_flat is_tree distinct plain names rank ranked rank_top some i j u v at_i at_j same;
      clocks = clocks-moved circuit flat tree top known_top is_flat is_tree distinct plain names rank ranked rank_top some i j u v at_i at_j same;
      stop = stop-moved circuit flat tree top known_top is_flat is_tree distinct plain names rank ranked rank_top some i j u v at_i at_j same;
    }

  pub has-copies : HasCopies flat tree
  has-copies = record {
    number = λ m lt. memory-number circuit tree top known_top is_tree distinct.of_sites distinct.of_memories m lt (memory-place circuit tree top known_top is_tree m lt);
    start = start;
    first = λ k lt. (ranges circuit tree top known_top is_tree distinct.of_sites).begins k (omega (arith, lt, (ranges circuit tree top known_top is_tree distinct.of_sites).same));
    copy = λ i j lt lt' same.
        let x = stands circuit tree top known_top i (omega (arith, lt, (ranges circuit tree top known_top is_tree distinct.of_sites).same)) in
        let y = stands circuit tree top known_top j (omega (arith, lt', (ranges circuit tree top known_top is_tree distinct.of_sites).same)) in
        is-copy i j x.0 y.0 x.1 y.1
        (sym (instance-for circuit tree top known_top is_tree distinct.of_sites i x.0 x.1).number ∙ same ∙ (instance-for circuit tree top known_top is_tree distinct.of_sites j y.0 y.1).number);
  }
