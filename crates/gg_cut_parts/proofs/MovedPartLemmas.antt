-- The moved part of a unit is the part of another unit of its host, and the two pieces are alike.
use Rattle.std.proofs.Common.{◌≡◌, ℕ, zero, suc, ◌+◌, ◌<◌, List, [], ◌∷◌, ◌++◌, Option, None, length, map, get_or, take, drop, refl, sym, ◌∙◌, ap, ap₂, subst, subst₂, inl, inr, arith}
use Rattle.std.specs.Prelude.{◌↔◌, AllPairs, Contains}
use Rattle.std.proofs.lemmas.List.{length-append, length-map, get_or-append-add, get_or-map, get_or_append_left, get_or_default, map-append, same_lists}
use Rattle.std.proofs.lemmas.List.Elements.{Contains-get_or}
use Rattle.std.proofs.Math.Seq.{drop-append_seam, take-append_seam}
use Rattle.gg_bits.specs.Shape.{shape}
use Rattle.gg_flat.specs.declared.memory.Memory.{Memory}
use Rattle.gg_flat.specs.declared.memory.Reader.{Reader}
use Rattle.gg_flat.specs.declared.memory.Writer.{Writer}
use Rattle.gg_flat.specs.declared.piece.Driver.{Driver}
use Rattle.gg_flat.specs.declared.piece.Driver.TheVariants.{Input, Held, MemoryWord, ReadRegister, Computed}
use Rattle.gg_flat.specs.declared.piece.Register.{Register}
use Rattle.gg_flat.specs.declared.piece.Signal.{Signal}
use Rattle.gg_flat.specs.Circuit.{FlatCircuit, signal_shapes, driver_at, readers_at, reader_at}
use Rattle.gg_flat_tree.specs.Clocked.{clock_at}
use Rattle.gg_flat.specs.Line.{shape_at, value_at}
use Rattle.gg_flat.specs.Reads.{NamesSignal}
use Rattle.gg_flat.specs.WellFormed.{IsClock, IsClockedMemory}
use Rattle.gg_flat.proofs.ListLemmas.{once-apart, Contains-map}
use Rattle.gg_part.specs.KeepsToTree.{KeepsToTree}
use Rattle.gg_part.specs.Moved.{unclocked_reader, unclocked_register, unclocked_memory, unclocked_writer}
use Rattle.gg_part.proofs.MovedLemmas.{from-moved}
use Rattle.gg_order.specs.Design.{Ordered}
use Rattle.gg_part.specs.declared.part.Clocking.{Clocking}
use Rattle.gg_part.specs.declared.part.Part.{Part}
use Rattle.gg_part.specs.Building.{Holds, AreHeld}
use Rattle.gg_part.specs.inside.Clocking.{AreTimed, IsTimed, LeadsTo, PortsFollow, clocks_of_ports}
use Rattle.gg_flat.specs.InOrder.{IsInOrder}
use Rattle.gg_part.specs.Part.{IsPart, IsFrom, IsRegisterFrom, IsMemoryFrom, RegisterBelow, MemoryBelow, in_whole}
use Rattle.gg_cut_plan.specs.declared.listed.Listed.{Listed}
use Rattle.gg_cut_plan.specs.Alike.{IsAlike}
use Rattle.gg_cut_plan.specs.Plan.{channels_to, signals_of, Takes, HasMemory, machine_clocks}
use Rattle.gg_cut_split.proofs.ClosedLemmas.ListLemmas.{map-cases}
use Rattle.gg_cut_split.specs.inside.Again.{IsUnitAgain, HasSignal, again_at, cut_wires}
use Rattle.gg_cut_parts.specs.inside.Domains.{AreUnitClocks}
use Rattle.gg_cut_parts.proofs.DomainTimes.{register-same, ports-same}
use Rattle.gg_cut_parts.specs.inside.MovedPart.{IsUnitPart, IsUnitShare, AreGivens, IsMovedPiece, IsMovedPart}
use Rattle.gg_cut_parts.proofs.MovedUnitLemmas.{among-has, counterpart-one, counterparts-once, counterpart-driver, has-memory, held-by, registers-within, register-there, memories-within, memory-there, counterparts-within, counterpart-of}
use Rattle.gg_flat.specs.Renaming.{numbers_by, renamed_driver, renamed_memory, renamed_reader, renamed_register, renamed_writer}

-- ---- things that are one but for clocks

module _ {X : Type 0} (plain other named : X → X) (clock_of : X → Option ℕ) (led : Option ℕ → Option ℕ) (same : (own there : X) → plain there ≡ plain (other own) → clock_of there ≡ led (clock_of own) → there ≡ named own) where
  abbrev rest : {Y : Type 0} → List Y → List Y
  rest [] = []
  rest (y ∷ ys) = ys

  -- items that are those of a list but for their clocks, which are led on, are those that are named
  all-led : (own there : List X) → map plain there ≡ map plain (map other own) → map clock_of there ≡ map led (map clock_of own) → there ≡ map named own
  all-led [] [] e f = refl
  all-led [] (t ∷ ts) e f = absurd (cc)
  all-led (o ∷ os) [] e f = absurd (cc)
  all-led (o ∷ os) (t ∷ ts) e f =
      ap₂ (λ (x : X) (xs : List X). x ∷ xs)
      (same o t (ap (λ l. get_or l 0 (plain t)) e) (ap (λ (l : List (Option ℕ)). get_or l 0 (clock_of t)) f))
      (all-led os ts (ap rest e) (ap rest f))

-- two joined lists are the same only if both of their parts are
fronts-same : {Y : Type 0} (xs us ys vs : List Y) → length xs ≡ length us → xs ++ ys ≡ us ++ vs → xs ≡ us
fronts-same xs us ys vs count e = sym (take-append_seam xs ys) ∙ ap₂ (λ n l. take n l) count e ∙ take-append_seam us vs

backs-same : {Y : Type 0} (xs us ys vs : List Y) → length xs ≡ length us → xs ++ ys ≡ us ++ vs → ys ≡ vs
backs-same xs us ys vs count e = sym (drop-append_seam xs ys) ∙ ap₂ (λ n l. drop n l) count e ∙ drop-append_seam us vs

register-led : (globals : List ℕ) (other clocks : List (Option ℕ)) (own there : Register) → unclocked_register there ≡ unclocked_register (renamed_register (in_whole globals other) own) → there.clock ≡ clock_at clocks own.clock → there ≡ renamed_register (in_whole globals clocks) own
register-led globals other clocks own there e f =
    ap (λ (r : Register). let c : Register = record r { clock = there.clock } in c) e
    ∙ ap (λ (clock : Option ℕ). let c : Register = record (renamed_register (in_whole globals clocks) own) { clock = clock } in c) f

module _ (globals : List ℕ) (other clocks : List (Option ℕ)) (own there : Memory) (e : unclocked_memory there ≡ unclocked_memory (renamed_memory (in_whole globals other) own)) where
  abbrev made : Memory → List Reader → List Writer → Memory
  made m readers writers = record { word = m.word; depth = m.depth; latency = m.latency; readers = readers; writers = writers }

  readers-plain : map (λ reader. unclocked_reader reader) there.readers ≡ map (λ reader. unclocked_reader reader) (map (λ reader. renamed_reader (in_whole globals other) reader) own.readers)
  readers-plain = ap (λ (m : Memory). m.readers) e

  writers-plain : map (λ writer. unclocked_writer writer) there.writers ≡ map (λ writer. unclocked_writer writer) (map (λ writer. renamed_writer (in_whole globals other) writer) own.writers)
  writers-plain = ap (λ (m : Memory). m.writers) e

  readers-count : length there.readers ≡ length own.readers
  readers-count =
      sym (length-map there.readers (λ (reader : Reader). unclocked_reader reader)) ∙ ap length readers-plain
      ∙ length-map (map (λ (reader : Reader). renamed_reader (in_whole globals other) reader) own.readers) (λ (reader : Reader). unclocked_reader reader) ∙ length-map own.readers (λ (reader : Reader). renamed_reader (in_whole globals other) reader)

  writers-count : length there.writers ≡ length own.writers
  writers-count =
      sym (length-map there.writers (λ (writer : Writer). unclocked_writer writer)) ∙ ap length writers-plain
      ∙ length-map (map (λ (writer : Writer). renamed_writer (in_whole globals other) writer) own.writers) (λ (writer : Writer). unclocked_writer writer) ∙ length-map own.writers (λ (writer : Writer). renamed_writer (in_whole globals other) writer)

  pub ports-count : length (clocks_of_ports there) ≡ length (clocks_of_ports own)
  ports-count =
      length-append (map (λ (r : Reader). r.clock) there.readers) (map (λ (w : Writer). w.clock) there.writers)
      ∙ ap₂ (λ m n. m + n) (length-map there.readers (λ (r : Reader). r.clock) ∙ readers-count ∙ sym (length-map own.readers (λ (r : Reader). r.clock)))
      (length-map there.writers (λ (w : Writer). w.clock) ∙ writers-count ∙ sym (length-map own.writers (λ (w : Writer). w.clock)))
      ∙ sym (length-append (map (λ (r : Reader). r.clock) own.readers) (map (λ (w : Writer). w.clock) own.writers))

  reader-same : (a b : Reader) → unclocked_reader b ≡ unclocked_reader (renamed_reader (in_whole globals other) a) → b.clock ≡ clock_at clocks a.clock → b ≡ renamed_reader (in_whole globals clocks) a
  reader-same a b h f =
      ap (λ (r : Reader). let c : Reader = record r { clock = b.clock } in c) h
      ∙ ap (λ (clock : Option ℕ). let c : Reader = record (renamed_reader (in_whole globals clocks) a) { clock = clock } in c) f

  writer-same : (a b : Writer) → unclocked_writer b ≡ unclocked_writer (renamed_writer (in_whole globals other) a) → b.clock ≡ clock_at clocks a.clock → b ≡ renamed_writer (in_whole globals clocks) a
  writer-same a b h f =
      ap (λ (r : Writer). let c : Writer = record r { clock = b.clock } in c) h
      ∙ ap (λ (clock : Option ℕ). let c : Writer = record (renamed_writer (in_whole globals clocks) a) { clock = clock } in c) f

  -- a memory that is another but for its clocks, which are led on, is that one with other names
  pub memory-led : clocks_of_ports there ≡ map (clock_at clocks) (clocks_of_ports own) → there ≡ renamed_memory (in_whole globals clocks) own
  memory-led led =
      ap (λ (m : Memory). made m there.readers there.writers) e
      ∙ ap₂ (made (renamed_memory (in_whole globals clocks) own))
      (all-led (λ (r : Reader). unclocked_reader r) (λ r. renamed_reader (in_whole globals other) r) (λ r. renamed_reader (in_whole globals clocks) r) (λ (r : Reader). r.clock) (clock_at clocks) reader-same own.readers there.readers readers-plain
      (fronts-same (map (λ (r : Reader). r.clock) there.readers) (map (clock_at clocks) (map (λ (r : Reader). r.clock) own.readers)) (map (λ (w : Writer). w.clock) there.writers) (map (clock_at clocks) (map (λ (w : Writer). w.clock) own.writers)) count joined))
      (all-led (λ (w : Writer). unclocked_writer w) (λ w. renamed_writer (in_whole globals other) w) (λ w. renamed_writer (in_whole globals clocks) w) (λ (w : Writer). w.clock) (clock_at clocks) writer-same own.writers there.writers writers-plain
      (backs-same (map (λ (r : Reader). r.clock) there.readers) (map (clock_at clocks) (map (λ (r : Reader). r.clock) own.readers)) (map (λ (w : Writer). w.clock) there.writers) (map (clock_at clocks) (map (λ (w : Writer). w.clock) own.writers)) count joined))
    where
      count : length (map (λ (r : Reader). r.clock) there.readers) ≡ length (map (clock_at clocks) (map (λ (r : Reader). r.clock) own.readers))
      count =
          length-map there.readers (λ (r : Reader). r.clock) ∙ readers-count ∙ sym (length-map own.readers (λ (r : Reader). r.clock))
          ∙ sym (length-map (map (λ (r : Reader). r.clock) own.readers) (clock_at clocks))

      joined : map (λ (r : Reader). r.clock) there.readers ++ map (λ (w : Writer). w.clock) there.writers ≡ map (clock_at clocks) (map (λ (r : Reader). r.clock) own.readers) ++ map (clock_at clocks) (map (λ (w : Writer). w.clock) own.writers)
      joined = led ∙ map-append (clock_at clocks) (map (λ (r : Reader). r.clock) own.readers) (map (λ (w : Writer). w.clock) own.writers)

-- ---- ports that follow clocks

module _ (clocks ports : List (Option ℕ)) (own there : Memory) (follow : PortsFollow ports own) (count : length (clocks_of_ports there) ≡ length (clocks_of_ports own)) (leads : (p : ℕ) → p < length (clocks_of_ports there) → LeadsTo clocks (get_or (clocks_of_ports there) p None) (get_or ports p None)) where
  pub ports-led : clocks_of_ports there ≡ map (clock_at clocks) (clocks_of_ports own)
  ports-led =
      same_lists (clocks_of_ports there) (map (clock_at clocks) (clocks_of_ports own)) (count ∙ sym (length-map (clocks_of_ports own) (clock_at clocks)))
      (λ p d lt.
      let low : p < length (clocks_of_ports own) = omega (arith, lt, count) in
      get_or_default (clocks_of_ports there) p d None lt
      ∙ sym (leads p lt).leads
      ∙ ap (clock_at clocks) (sym (follow p low))
      ∙ sym (get_or-map (clock_at clocks) (clocks_of_ports own) p None d low))

  known : (p : ℕ) → p < length (clocks_of_ports own) → IsClock (length clocks) (get_or (clocks_of_ports own) p None)
  known p low = subst (IsClock (length clocks)) (sym (follow p low)) (leads p (omega (arith, low, count))).known

  pub ports-clocked : IsClockedMemory (length clocks) own
  ports-clocked = record {
    readers = λ k d lt.
        let low : k < length (map (λ (r : Reader). r.clock) own.readers) = omega (arith, lt, length-map own.readers (λ (r : Reader). r.clock)) in
        let whole = length-append (map (λ (r : Reader). r.clock) own.readers) (map (λ (w : Writer). w.clock) own.writers) in
        subst (IsClock (length clocks))
        (get_or_append_left (map (λ (r : Reader). r.clock) own.readers) (map (λ (w : Writer). w.clock) own.writers) None k low ∙ get_or-map (λ (r : Reader). r.clock) own.readers k d None lt)
        (known k (omega (arith, low, whole)));
    writers = λ k d lt.
        let wide = length-map own.writers (λ (w : Writer). w.clock) in
        let whole = length-append (map (λ (r : Reader). r.clock) own.readers) (map (λ (w : Writer). w.clock) own.writers) in
        subst (IsClock (length clocks))
        (get_or-append-add (map (λ (r : Reader). r.clock) own.readers) (map (λ (w : Writer). w.clock) own.writers) k None ∙ get_or-map (λ (w : Writer). w.clock) own.writers k d None lt)
        (known (length (map (λ (r : Reader). r.clock) own.readers) + k) (omega (arith, lt, wide, whole)));
  }

-- ---- lists

shapes-same : {X : Type 0} (at : ℕ → X) (f : ℕ → ℕ) (xs : List ℕ) → ((s : ℕ) → Contains xs s → at (f s) ≡ at s) → map at xs ≡ map at (map f xs)
shapes-same at f xs same =
    same_lists (map at xs) (map at (map f xs)) (length-map xs at ∙ sym (length-map xs f) ∙ sym (length-map (map f xs) at))
    (λ k d below.
    let lt : k < length xs = omega (arith, below, length-map xs at) in
    get_or-map at xs k 0 d lt ∙ sym (same (value_at xs k) (Contains-get_or xs k 0 lt)) ∙ ap at (sym (get_or-map f xs k 0 0 lt)) ∙ sym (get_or-map at (map f xs) k 0 d (omega (arith, lt, length-map xs f))))

-- ---- the part

module _ (design : Ordered) (listed : Listed) (clocking : Clocking) (m n : ℕ) (leader : Part) (again : IsUnitAgain design listed m n) (own_givens givens : List ℕ) (cut : IsUnitPart design listed clocking m own_givens leader) (mine : AreGivens design listed m own_givens) (theirs : AreGivens design listed n givens) (signals banks : List ℕ) (share : IsUnitShare design listed n signals banks) (ascend : AllPairs (λ a b. a < b) (map again.memories leader.memories))
    (keeps : KeepsToTree design.circuit design.tree) (units : AreUnitClocks design listed clocking)
    (timed : AreTimed design.circuit (map (again_at design listed m n) leader.globals) (signals_of (cut_wires design listed) (channels_to (cut_wires design listed) n)) (map again.memories leader.memories) (machine_clocks design.tree listed n) clocking.registers clocking.ports) where
  abbrev to : ℕ → ℕ
  to = again_at design listed m n

  abbrev globals : List ℕ
  globals = map (again_at design listed m n) leader.globals

  abbrev held : List ℕ
  held = map again.registers leader.held

  abbrev own_banks : List ℕ
  own_banks = map again.memories leader.memories

  abbrev clocks : List (Option ℕ)
  clocks = machine_clocks design.tree listed n

  -- ---- the registers that the other unit holds

  -- the signals that the other unit takes are the counterparts of those that this one takes
  taken-again : (s : ℕ) → HasSignal design listed m s → Contains (signals_of (cut_wires design listed) (channels_to (cut_wires design listed) n)) (to s) → Contains (signals_of (cut_wires design listed) (channels_to (cut_wires design listed) m)) s
  taken-again s h c =
      let at = map-cases to (signals_of (cut_wires design listed) (channels_to (cut_wires design listed) m)) (to s) (subst (λ (l : List ℕ). Contains l (to s)) again.ins c) in
      let t = value_at (signals_of (cut_wires design listed) (channels_to (cut_wires design listed) m)) at.place in
      let there = Contains-get_or (signals_of (cut_wires design listed) (channels_to (cut_wires design listed) m)) at.place 0 at.within in
      let same : t ≡ s = counterpart-one design listed clocking m n leader again own_givens cut t s (inr there) h (at.holds 0) in
      subst (Contains (signals_of (cut_wires design listed) (channels_to (cut_wires design listed) m))) same there

  taken-there : (s : ℕ) → Contains (signals_of (cut_wires design listed) (channels_to (cut_wires design listed) m)) s → Contains (signals_of (cut_wires design listed) (channels_to (cut_wires design listed) n)) (to s)
  taken-there s c = subst (λ (l : List ℕ). Contains l (to s)) (sym again.ins) (Contains-map to (signals_of (cut_wires design listed) (channels_to (cut_wires design listed) m)) s c)

  -- which register a driver is that of, by its counterpart
  held-back : (d : Driver) (r : ℕ) → renamed_driver (numbers_by to again.registers again.memories) d ≡ Held r → (k : ℕ) × (d ≡ Held k) × (again.registers k ≡ r)
  held-back (Input place) r e = absurd (cc)
  held-back (Held k) r e = (k, refl, cc)
  held-back (MemoryWord a b c d) r e = absurd (cc)
  held-back (ReadRegister a b) r e = absurd (cc)
  held-back (Computed line) r e = absurd (cc)

  held-again : AreHeld design.circuit globals (signals_of (cut_wires design listed) (channels_to (cut_wires design listed) n)) held
  held-again = record {
    every = λ t r chosen holds.
        let at = map-cases to leader.globals t chosen in
        let s = value_at leader.globals at.place in
        let among = Contains-get_or leader.globals at.place 0 at.within in
        let same : to s ≡ t = at.holds 0 in
        by r s among (subst (λ (x : ℕ). Holds design.circuit (signals_of (cut_wires design listed) (channels_to (cut_wires design listed) n)) x r) (sym same) holds) (among-has design listed clocking m n leader again own_givens cut s among);
    sound = λ r c.
        let at = map-cases again.registers leader.held r c in
        let k = value_at leader.held at.place in
        let h = cut.held.sound k (Contains-get_or leader.held at.place 0 at.within) in
        let has = among-has design listed clocking m n leader again own_givens cut h.signal h.chosen in
        record {
          signal = to h.signal;
          chosen = Contains-map to leader.globals h.signal h.chosen;
          holds = record {
            inside = λ taken. h.holds.inside (taken-again h.signal has taken);
            holds = at-made h.signal k r has h.holds.inside h.holds.holds (at.holds 0);
          };
        };
  }
    where
      at-made : (s k r : ℕ) → HasSignal design listed m s → ¬ Takes (cut_wires design listed) m s → driver_at design.circuit s ≡ Held k → again.registers k ≡ r → driver_at design.circuit (to s) ≡ Held r
      at-made s k r (inr taken) own is e = absurd (own taken)
      at-made s k r (inl made) own is e = again.driver s made ∙ ap (renamed_driver (numbers_by to again.registers again.memories)) is ∙ ap Held e

      by : (r s : ℕ) → Contains leader.globals s → Holds design.circuit (signals_of (cut_wires design listed) (channels_to (cut_wires design listed) n)) (to s) r → HasSignal design listed m s → Contains (map again.registers leader.held) r
      by r s among holds (inr taken) = absurd (holds.inside (taken-there s taken))
      by r s among holds (inl made) =
          let back = held-back (driver_at design.circuit s) r (sym (again.driver s made) ∙ holds.holds) in
          let outside : Contains (signals_of (cut_wires design listed) (channels_to (cut_wires design listed) m)) s → ⊥ = λ taken. holds.inside (taken-there s taken) in
          subst (Contains (map again.registers leader.held)) back.2
          (Contains-map again.registers leader.held back.0 (cut.held.every s back.0 among (record { inside = outside; holds = back.1 })))

  -- ---- what the registers and ports of the other unit follow

  -- a register of the other unit follows the Clock input that its counterpart follows
  register-led-on : (r : ℕ) (any : Register) → r < length leader.held → LeadsTo (machine_clocks design.tree listed n) (get_or design.circuit.registers (again.registers (value_at leader.held r)) any).clock (get_or leader.piece.registers r any).clock
  register-led-on r any lt =
      let here = Contains-get_or leader.held r 0 lt in
      let by = held-by design listed clocking m n leader again own_givens cut (value_at leader.held r) here in
      let own = cut.timed.register r any lt in
      subst (LeadsTo (machine_clocks design.tree listed n) (get_or design.circuit.registers (again.registers (value_at leader.held r)) any).clock)
      (register-same design listed keeps m n again clocking units by.signal (value_at leader.held r) by.made by.is ∙ sym own)
      (timed.register (again.registers (value_at leader.held r)) any (held-again.sound (again.registers (value_at leader.held r)) (Contains-map again.registers leader.held (value_at leader.held r) here)))

  port-led-on : (k : ℕ) (any : Memory) → k < length leader.memories → (p : ℕ) → p < length (clocks_of_ports (get_or design.circuit.memories (again.memories (value_at leader.memories k)) any))
      → LeadsTo (machine_clocks design.tree listed n) (get_or (clocks_of_ports (get_or design.circuit.memories (again.memories (value_at leader.memories k)) any)) p None) (get_or (get_or clocking.ports (value_at leader.memories k) []) p None)
  port-led-on k any lt p low =
      let here = Contains-get_or leader.memories k 0 lt in
      subst (λ (l : List (Option ℕ)). LeadsTo (machine_clocks design.tree listed n) (get_or (clocks_of_ports (get_or design.circuit.memories (again.memories (value_at leader.memories k)) any)) p None) (get_or l p None))
      (ports-same design listed keeps m n again clocking units (value_at leader.memories k) (has-memory design listed clocking m n leader again own_givens cut k lt))
      (timed.port (again.memories (value_at leader.memories k)) p any (Contains-map again.memories leader.memories (value_at leader.memories k) here) low)

  memory-count : (k : ℕ) (any : Memory) → k < length leader.memories → length (clocks_of_ports (get_or design.circuit.memories (again.memories (value_at leader.memories k)) any)) ≡ length (clocks_of_ports (get_or leader.piece.memories k any))
  memory-count k any lt = ports-count globals leader.clocks clocks (get_or leader.piece.memories k any) (get_or design.circuit.memories (again.memories (value_at leader.memories k)) any) (memory-there design listed clocking m n leader again own_givens cut k any any lt)

  module _ (piece : FlatCircuit) (moved : IsMovedPiece design.circuit leader.piece (map (again_at design listed m n) leader.globals) givens piece) where
    driver-same : (s : ℕ) → driver_at piece s ≡ driver_at leader.piece s
    driver-same s = ap (λ (l : List Signal). get_or (map (λ (signal : Signal). signal.driver) l) s (Input 0)) moved.signals

    register-from : (r : ℕ) → r < length (map again.registers leader.held) → IsRegisterFrom design.circuit piece globals held clocks r
    register-from r below =
        let lt : r < length leader.held = omega (arith, below, length-map leader.held again.registers) in
        let inside : r < length leader.piece.registers = omega (arith, lt, cut.is.register_count) in
        let at : value_at held r ≡ again.registers (value_at leader.held r) = get_or-map again.registers leader.held r 0 0 lt in
        let same : (any other : Register) → get_or leader.piece.registers r other ≡ get_or piece.registers r any = λ any other. get_or_default leader.piece.registers r other any inside ∙ ap (λ (l : List Register). get_or l r any) (sym moved.registers) in
        record {
          within = registers-within design listed clocking m n leader again own_givens cut r 0 below;
          is = λ any other.
              ap (λ (k : ℕ). get_or design.circuit.registers k other) at
              ∙ register-led globals leader.clocks clocks (get_or leader.piece.registers r other) (get_or design.circuit.registers (again.registers (value_at leader.held r)) other) (register-there design listed clocking m n leader again own_givens cut r other other lt) (sym (register-led-on r other lt).leads)
              ∙ ap (λ (x : Register). renamed_register (in_whole globals clocks) x) (same any other);
          below = λ any.
              subst (λ (x : Register). RegisterBelow (length globals) x) (same any any)
              (λ t names. let old = (cut.is.register_from r lt).below any t names in omega (arith, old, length-map leader.globals to));
          clocked = λ any. subst (λ (x : Register). IsClock (length clocks) x.clock) (same any any) (register-led-on r any lt).known;
        }

    memory-from : (k : ℕ) → k < length (map again.memories leader.memories) → IsMemoryFrom design.circuit piece globals own_banks clocks k
    memory-from k below =
        let lt : k < length leader.memories = omega (arith, below, length-map leader.memories again.memories) in
        let inside : k < length leader.piece.memories = omega (arith, lt, cut.is.memory_count) in
        let at : value_at own_banks k ≡ again.memories (value_at leader.memories k) = get_or-map again.memories leader.memories k 0 0 lt in
        let from = cut.is.memory_from k lt in
        let wide : length leader.globals ≡ length globals = sym (length-map leader.globals to) in
        let same : (any other : Memory) → get_or leader.piece.memories k other ≡ get_or piece.memories k any = λ any other. get_or_default leader.piece.memories k other any inside ∙ ap (λ (l : List Memory). get_or l k any) (sym moved.memories) in
        let ports = get_or clocking.ports (value_at leader.memories k) [] in
        record {
          within = memories-within design listed clocking m n leader again own_givens cut k 0 below;
          is = λ any other.
              ap (λ (j : ℕ). get_or design.circuit.memories j other) at
              ∙ memory-led globals leader.clocks clocks (get_or leader.piece.memories k other) (get_or design.circuit.memories (again.memories (value_at leader.memories k)) other) (memory-there design listed clocking m n leader again own_givens cut k other other lt)
              (ports-led clocks ports (get_or leader.piece.memories k other) (get_or design.circuit.memories (again.memories (value_at leader.memories k)) other) (cut.timed.port k other lt) (memory-count k other lt) (port-led-on k other lt))
              ∙ ap (λ (x : Memory). renamed_memory (in_whole globals clocks) x) (same any other);
          below = λ any. subst₂ (λ (w : ℕ) (x : Memory). MemoryBelow w x) wide (same any any) (from.below any);
          clocked = λ any.
              subst (λ (x : Memory). IsClockedMemory (length clocks) x) (same any any)
              (ports-clocked clocks ports (get_or leader.piece.memories k any) (get_or design.circuit.memories (again.memories (value_at leader.memories k)) any) (cut.timed.port k any lt) (memory-count k any lt) (port-led-on k any lt));
          given = λ r place known e.
              let readers : readers_at piece k ≡ readers_at leader.piece k = ap (λ (l : List Memory). get_or (map (λ (x : Memory). x.readers) l) k []) moved.memories in
              from.given r place (subst (λ (l : List Reader). r < length l) readers known)
              (ap (λ (l : List Reader). driver_at leader.piece (reader_at l r).word) (sym readers) ∙ sym (driver-same (reader_at (readers_at piece k) r).word) ∙ e);
        }

    is-part : IsPart design.circuit piece globals held own_banks clocks
    is-part = record {
      count = ap length moved.signals ∙ cut.is.count ∙ sym (length-map leader.globals to);
      within = λ s lt. counterparts-within design listed clocking m n leader again own_givens cut signals banks share s 0 lt;
      once = counterparts-once design listed clocking m n leader again own_givens cut;
      paths = moved.paths;
      types =
          ap (map (λ (signal : Signal). shape signal.ty)) moved.signals ∙ cut.is.types
          ∙ shapes-same (shape_at (signal_shapes design.circuit)) to leader.globals (λ s c. again.shape s (among-has design listed clocking m n leader again own_givens cut s c));
      drivers = λ s below.
          let lt : s < length leader.globals = omega (arith, below, length-map leader.globals to) in
          let from = from-moved design.circuit leader.piece leader.globals leader.held leader.memories to again.registers again.memories s lt (counterpart-driver design listed clocking m n leader again own_givens cut s lt) (driver_at leader.piece s) refl (cut.is.drivers s lt) in
          subst (IsFrom piece.ins globals held own_banks s (driver_at design.circuit (value_at globals s))) (sym (driver-same s))
          (subst (λ (l : List ℕ). IsFrom l globals held own_banks s (driver_at design.circuit (value_at globals s)) (driver_at leader.piece s)) (sym moved.ins) from);
      ins = λ place below.
          let lt : place < length leader.piece.ins = omega (arith, below, ap length moved.ins) in
          let at : value_at piece.ins place ≡ value_at leader.piece.ins place = ap (λ (l : List ℕ). value_at l place) moved.ins in
          let h = cut.is.ins place lt in
          (omega (arith, at, h.0, length-map leader.globals to), driver-same (value_at piece.ins place) ∙ ap (driver_at leader.piece) at ∙ h.1);
      outs = λ place lt. moved.outs_within place 0 lt;
      clock_count = moved.clocks ∙ cut.is.clock_count ∙ ap (λ (l : List (Option ℕ)). length l) cut.clocks ∙ sym again.own_clocks;
      register_count = ap (λ (l : List Register). length l) moved.registers ∙ cut.is.register_count ∙ sym (length-map leader.held again.registers);
      register_from = register-from;
      memory_count = ap (λ (l : List Memory). length l) moved.memories ∙ cut.is.memory_count ∙ sym (length-map leader.memories again.memories);
      memories_once = λ i j d less lt e. absurd (omega (arith, ascend i j d less lt, e));
      memory_from = memory-from;
    }

    -- ---- what the plan asks for

    is-timed : IsTimed piece held own_banks clocking.registers clocking.ports
    is-timed = record {
      register = λ r any below.
          let lt : r < length leader.held = omega (arith, below, length-map leader.held again.registers) in
          let by = held-by design listed clocking m n leader again own_givens cut (value_at leader.held r) (Contains-get_or leader.held r 0 lt) in
          ap (λ (l : List Register). (get_or l r any).clock) moved.registers
          ∙ cut.timed.register r any lt
          ∙ sym (register-same design listed keeps m n again clocking units by.signal (value_at leader.held r) by.made by.is)
          ∙ ap (λ k. get_or clocking.registers k None) (sym (get_or-map again.registers leader.held r 0 0 lt));
      port = λ k any below.
          let lt : k < length leader.memories = omega (arith, below, length-map leader.memories again.memories) in
          subst₂ (λ (l : List (Option ℕ)) (x : Memory). PortsFollow l x)
          (sym (ports-same design listed keeps m n again clocking units (value_at leader.memories k) (has-memory design listed clocking m n leader again own_givens cut k lt)) ∙ ap (λ j. get_or clocking.ports j []) (sym (get_or-map again.memories leader.memories k 0 0 lt)))
          (ap (λ (l : List Memory). get_or l k any) (sym moved.memories))
          (cut.timed.port k any lt);
    }

    in-order : IsInOrder piece
    in-order a b reads =
        cut.ordered a b
        (record {
          signal = omega (arith, reads.signal, ap length moved.signals);
          names = subst (λ (d : Driver). NamesSignal d b) (driver-same a) reads.names;
        })

    signals-are : (t : ℕ) → Contains globals t ↔ HasSignal design listed n t
    signals-are t = (forth, counterpart-of design listed clocking m n leader again own_givens cut signals banks share t)
      where
        forth : Contains globals t → HasSignal design listed n t
        forth c =
            let at = map-cases to leader.globals t c in
            subst (HasSignal design listed n) (at.holds 0) (again.has (value_at leader.globals at.place) (among-has design listed clocking m n leader again own_givens cut (value_at leader.globals at.place) (Contains-get_or leader.globals at.place 0 at.within)))

    ins-are : map (value_at globals) piece.ins ≡ signals_of (cut_wires design listed) (channels_to (cut_wires design listed) n)
    ins-are =
        ap (map (value_at globals)) moved.ins
        ∙ same_lists (map (value_at globals) leader.piece.ins) (map to (map (value_at leader.globals) leader.piece.ins)) (length-map leader.piece.ins (value_at globals) ∙ sym (length-map leader.piece.ins (value_at leader.globals)) ∙ sym (length-map (map (value_at leader.globals) leader.piece.ins) to))
        (λ k d below.
        let lt : k < length leader.piece.ins = omega (arith, below, length-map leader.piece.ins (value_at globals)) in
        let inside = (cut.is.ins k lt).0 in
        get_or-map (value_at globals) leader.piece.ins k 0 d lt
        ∙ get_or-map to leader.globals (value_at leader.piece.ins k) 0 0 inside
        ∙ ap to (sym (get_or-map (value_at leader.globals) leader.piece.ins k 0 0 lt))
        ∙ sym (get_or-map to (map (value_at leader.globals) leader.piece.ins) k 0 d (omega (arith, lt, length-map leader.piece.ins (value_at leader.globals)))))
        ∙ ap (map to) cut.ins
        ∙ sym again.ins

    -- ---- the two pieces

    -- both give the same of their signals
    gives-there : (s : ℕ) → Contains leader.piece.outs s → Contains piece.outs s
    gives-there s c =
        let inside : s < length leader.globals = subst (λ (k : ℕ). k < length leader.globals) (get-same leader.piece.outs c) (cut.is.outs c.0 c.1) in
        let given = (mine (value_at leader.globals s)).0 (subst (λ (l : List ℕ). Contains l (value_at leader.globals s)) cut.outs (Contains-map (value_at leader.globals) leader.piece.outs s c)) in
        let other = (theirs (to (value_at leader.globals s))).1 ((again.outs (value_at leader.globals s) (among-has design listed clocking m n leader again own_givens cut (value_at leader.globals s) (Contains-get_or leader.globals s 0 inside))).0 given) in
        let at = map-cases (value_at globals) piece.outs (to (value_at leader.globals s)) (subst (λ (l : List ℕ). Contains l (to (value_at leader.globals s))) (sym moved.outs) other) in
        let same : value_at piece.outs at.place ≡ s =
        once-apart globals 0 (counterparts-once design listed clocking m n leader again own_givens cut) (value_at piece.outs at.place) s (moved.outs_within at.place 0 at.within) (omega (arith, inside, length-map leader.globals to))
        (at.holds 0 ∙ sym (get_or-map to leader.globals s 0 0 inside)) in
        subst (Contains piece.outs) same (Contains-get_or piece.outs at.place 0 at.within)
      where
        get-same : (xs : List ℕ) (c : Contains xs s) → value_at xs c.0 ≡ s
        get-same xs c = let h = get_or-any xs c.0 s c.1 in h ∙ c.2
          where
            get_or-any : (xs : List ℕ) (k s : ℕ) → k < length xs → value_at xs k ≡ get_or xs k s
            get_or-any [] k s lt = absurd (omega (arith, lt))
            get_or-any (x ∷ xs) zero s lt = refl
            get_or-any (x ∷ xs) (suc k) s lt = get_or-any xs k s (omega (arith, lt))

    gives-back : (s : ℕ) → Contains piece.outs s → Contains leader.piece.outs s
    gives-back s c =
        let within : s < length globals = subst (λ (k : ℕ). k < length globals) c.2 (moved.outs_within c.0 s c.1) in
        let inside : s < length leader.globals = omega (arith, within, length-map leader.globals to) in
        let g = value_at leader.globals s in
        let given = subst (λ (l : List ℕ). Contains l (value_at globals s)) moved.outs (Contains-map (value_at globals) piece.outs s c) in
        let back = (mine g).1 ((again.outs g (among-has design listed clocking m n leader again own_givens cut g (Contains-get_or leader.globals s 0 inside))).1 ((theirs (to g)).0 (subst (Contains givens) (get_or-map to leader.globals s 0 0 inside) given))) in
        let at = map-cases (value_at leader.globals) leader.piece.outs g (subst (λ (l : List ℕ). Contains l g) (sym cut.outs) back) in
        let same : value_at leader.piece.outs at.place ≡ s = once-apart leader.globals 0 cut.is.once (value_at leader.piece.outs at.place) s (cut.is.outs at.place at.within) inside (at.holds 0) in
        subst (Contains leader.piece.outs) same (Contains-get_or leader.piece.outs at.place 0 at.within)

    pub moved-alike : IsAlike leader.piece piece
    moved-alike = record {
      signals = sym moved.signals;
      clocks = sym moved.clocks;
      registers = sym moved.registers;
      memories = sym moved.memories;
      ins = sym moved.ins;
      outs = λ s. (gives-there s, gives-back s);
    }

  pub moved-part : (part : Part) → banks ≡ map again.memories leader.memories → IsMovedPart design.circuit leader (map (again_at design listed m n) leader.globals) (map again.registers leader.held) (map again.memories leader.memories) givens (machine_clocks design.tree listed n) part → IsUnitPart design listed clocking n givens part
  moved-part part same moved =
      let part_is = is-part part.piece moved.piece in
      record {
        is =
            subst (λ (l : List ℕ). IsPart design.circuit part.piece l part.held part.memories part.clocks) (sym moved.signals)
            (subst (λ (l : List ℕ). IsPart design.circuit part.piece globals l part.memories part.clocks) (sym moved.registers)
            (subst (λ (l : List ℕ). IsPart design.circuit part.piece globals held l part.clocks) (sym moved.memories)
            (subst (λ (l : List (Option ℕ)). IsPart design.circuit part.piece globals held own_banks l) (sym moved.follows) part_is)));
        clocks = moved.follows;
        timed =
            subst (λ (l : List ℕ). IsTimed part.piece l part.memories clocking.registers clocking.ports) (sym moved.registers)
            (subst (λ (l : List ℕ). IsTimed part.piece held l clocking.registers clocking.ports) (sym moved.memories) (is-timed part.piece moved.piece));
        signals = λ t. subst (λ (l : List ℕ). Contains l t ↔ HasSignal design listed n t) (sym moved.signals) (signals-are part.piece moved.piece t);
        ins = ap (λ (l : List ℕ). map (value_at l) part.piece.ins) moved.signals ∙ ins-are part.piece moved.piece;
        outs = ap (λ (l : List ℕ). map (value_at l) part.piece.outs) moved.signals ∙ moved.piece.outs;
        held =
            subst (λ (l : List ℕ). AreHeld design.circuit l (signals_of (cut_wires design listed) (channels_to (cut_wires design listed) n)) part.held) (sym moved.signals)
            (subst (λ (l : List ℕ). AreHeld design.circuit globals (signals_of (cut_wires design listed) (channels_to (cut_wires design listed) n)) l) (sym moved.registers) held-again);
        memories = λ k. subst (λ (l : List ℕ). Contains l k ↔ HasMemory design.tree listed n k) (same ∙ sym moved.memories) (share.banks k);
        ordered = in-order part.piece moved.piece;
      }
