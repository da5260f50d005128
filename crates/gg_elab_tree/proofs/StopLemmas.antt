-- The stops of a circuit's tree by their places: each has an own signal of its site, which is no port and no field of a memory.
use Rattle.std.proofs.Common.{◌≡◌, ◌≢◌, ◌⊎◌, inl, inr, ℕ, suc, ◌+◌, ◌-◌, ◌<◌, ◌≤◌, List, ◌∷◌, ◌++◌, Some, None, length, get_or, map, refl, sym, ap, ap₂, ◌∙◌, subst, subst₂, arith, append_assoc, length-append, take_all}
use Rattle.std.specs.Prelude.{filter_map, flat_map, Contains, AllPairs}
use Rattle.std.proofs.lemmas.Bool.{cases_lt}
use Rattle.std.proofs.lemmas.List.{length-map, get_or-map, get_or_default}
use Rattle.std.proofs.lemmas.List.Concat.{get_or-flat_map}
use Rattle.std.proofs.lemmas.Option.{same_Some}
use Rattle.std.proofs.Math.Seq.{get_or-append-add}
use Rattle.gg_ast.specs.declared.statement.Stmt.{Stmt}
use Rattle.gg_ast.specs.Places.{place_of}
use Rattle.gg_ast.specs.Tree.{CircuitTree, module_names}
use Rattle.gg_flat.specs.Circuit.{FlatCircuit}
use Rattle.gg_flat_tree.specs.declared.tree.InstancePort.{InstancePort}
use Rattle.gg_flat_tree.specs.declared.tree.StopInstance.{StopInstance}
use Rattle.gg_flat_tree.specs.Scoped.{IsFieldOf, IsPort, IsStop, stop_signals}
use Rattle.gg_flat_tree.specs.Tree.{InstanceTree, IsInnermost, instance_at, joined, stop_at}
use Rattle.gg_elab_sites.specs.Sites.{Site, module_at, sites_of}
use Rattle.gg_elab_sites.specs.Clocks.{clock_of}
use Rattle.gg_elab_sites.specs.IsFlat.{IsFlat}
use Rattle.gg_elab_sites.specs.Known.{types_of}
use Rattle.gg_elab_sites.specs.Signals.{Own, OwnStop, own_of_kind, own_of_port, own_stops, stop_signal, memory_signals}
use Rattle.gg_elab_tree.specs.IsTreeOf.{HeldStop, IsPortFor, IsStopFor, IsTreeOf, Pairwise, held_stop, held_stops, signal_paths, signal_ports}
use Rattle.gg_elab_tree.proofs.NamesLemmas.CauseLemmas.{port-count}
use Rattle.gg_elab_tree.proofs.ElementLemmas.{element}
use Rattle.gg_elab_tree.proofs.FieldLemmas.{FieldName, memory-field}
use Rattle.gg_elab_tree.proofs.HeldMemoryLemmas.{memory-place}
use Rattle.gg_elab_tree.proofs.InstanceLemmas.{signals_in, path-place, stands, instance-for}
use Rattle.gg_elab_tree.proofs.NamesLemmas.JoinLemmas.{dot-within}
use Rattle.gg_elab_tree.proofs.OwnLemmas.{own_in, own-count, own-place, placed-known, count-next, Pairwise-at}
use Rattle.gg_elab_tree.proofs.PairwiseLemmas.{Pairwise-length}
use Rattle.gg_elab_tree.proofs.PlaceLemmas.{Placed}
use Rattle.gg_elab_tree.proofs.RangeLemmas.{count_to, count-le, Owner, owner, placed-at, placed-same}
use Rattle.gg_elab_tree.proofs.ScopeOfTreeLemmas.{FieldsInRow, HasApartNames, fields-in-row, own-is-innermost, site-there}
use Rattle.gg_elab_tree.proofs.StopOwnLemmas.{stop-dotless}
use Rattle.gg_elab_tree.proofs.TreeLemmas.{HasDistinctPaths, HasPlainNames, no_own, port-at}

-- the stops of the module of a site
abbrev pub stops_in : CircuitTree → Site → List OwnStop
stops_in circuit x = own_stops (module_at circuit.modules x.number).statements

-- the own signals of a site before its stops
abbrev pub before_stops : CircuitTree → Site → List Own
before_stops circuit x = filter_map own_of_port (module_at circuit.modules x.number).ports ++ flat_map (λ (s : Stmt). own_of_kind (types_of circuit) x.number s.kind) (module_at circuit.modules x.number).statements

own-parts : (circuit : CircuitTree) (x : Site) → own_in circuit x ≡ before_stops circuit x ++ map stop_signal (stops_in circuit x)
own-parts circuit x =
    sym (append_assoc (filter_map own_of_port (module_at circuit.modules x.number).ports) (flat_map (λ (s : Stmt). own_of_kind (types_of circuit) x.number s.kind) (module_at circuit.modules x.number).statements) (map stop_signal (stops_in circuit x)))

-- The stop at a place of the tree: the site that has it, and which of its stops it is.
pub record AskedPlace (circuit : CircuitTree) (tree : InstanceTree) (j : ℕ) : Type 0 where
  pub holder : ℕ
  pub site : Site
  pub placed : Placed (length circuit.modules) circuit.modules (sites_of circuit) holder site
  pub offset : ℕ
  pub own : OwnStop
  pub known : offset < length (stops_in circuit site)
  pub is_own : (d : OwnStop) → get_or (stops_in circuit site) offset d ≡ own
  pub counted : j ≡ count_to (held_stops circuit.modules) (sites_of circuit) holder + offset
  pub is_for : IsStopFor circuit site own (stop_at tree j)

module _ (circuit : CircuitTree) (tree : InstanceTree) (top : ℕ) (known_top : place_of circuit.name (module_names circuit) ≡ Some top) (is : IsTreeOf circuit tree) where
  pub stop-count : length (flat_map (held_stops circuit.modules) (sites_of circuit)) ≡ length tree.stops
  stop-count = Pairwise-length (λ (h : HeldStop) (stop : StopInstance). IsStopFor circuit h.site h.said stop) (flat_map (held_stops circuit.modules) (sites_of circuit)) tree.stops is.stops

  pub asked-place : (j : ℕ) → j < length tree.stops → AskedPlace circuit tree j
  asked-place j lt = record {
    holder = o.place;
    site = x;
    placed = p;
    offset = q;
    own = found.0;
    known = known;
    is_own = found.1;
    counted = omega (arith, o.from);
    is_for = subst (λ (h : HeldStop). IsStopFor circuit h.site h.said (stop_at tree j)) (held_is (held_stop x found.0)) (at (held_stop x found.0));
  }
    where
      inside : j < length (flat_map (held_stops circuit.modules) (sites_of circuit))
      inside = omega (arith, lt, stop-count)

      o : Owner (held_stops circuit.modules) (sites_of circuit) j
      o = owner (held_stops circuit.modules) (sites_of circuit) j inside

      x : Site
      x = (stands circuit tree top known_top o.place o.known).0

      p : Placed (length circuit.modules) circuit.modules (sites_of circuit) o.place x
      p = (stands circuit tree top known_top o.place o.known).1

      here : get_or (sites_of circuit) o.place x ≡ x
      here = placed-at (length circuit.modules) circuit.modules (sites_of circuit) o.place x x p

      q : ℕ
      q = j - count_to (held_stops circuit.modules) (sites_of circuit) o.place

      next : count_to (held_stops circuit.modules) (sites_of circuit) (suc o.place) ≡ count_to (held_stops circuit.modules) (sites_of circuit) o.place + length (stops_in circuit x)
      next =
          count-next (held_stops circuit.modules) (sites_of circuit) o.place x o.known
          ∙ ap (λ (y : Site). count_to (held_stops circuit.modules) (sites_of circuit) o.place + length (held_stops circuit.modules y)) here
          ∙ ap (λ n. count_to (held_stops circuit.modules) (sites_of circuit) o.place + n) (length-map (stops_in circuit x) (held_stop x))

      known : j - count_to (held_stops circuit.modules) (sites_of circuit) o.place < length (stops_in circuit x)
      known = omega (arith, o.from, o.to, next)

      found : (y : OwnStop) × ((d : OwnStop) → get_or (stops_in circuit x) (j - count_to (held_stops circuit.modules) (sites_of circuit) o.place) d ≡ y)
      found = let e = element (stops_in circuit x) (j - count_to (held_stops circuit.modules) (sites_of circuit) o.place) known in (e.0, e.2)

      held_is : (d : HeldStop) → get_or (flat_map (held_stops circuit.modules) (sites_of circuit)) j d ≡ held_stop x found.0
      held_is d =
          let back : j ≡ count_to (held_stops circuit.modules) (sites_of circuit) o.place + (j - count_to (held_stops circuit.modules) (sites_of circuit) o.place) = omega (arith, o.from) in
          let fits : length (held_stops circuit.modules (get_or (sites_of circuit) o.place x)) ≡ length (stops_in circuit x) = ap (λ (y : Site). length (held_stops circuit.modules y)) here ∙ length-map (stops_in circuit x) (held_stop x) in
          ap (λ i. get_or (flat_map (held_stops circuit.modules) (sites_of circuit)) i d) back
          ∙ get_or-flat_map (held_stops circuit.modules) (sites_of circuit) o.place (j - count_to (held_stops circuit.modules) (sites_of circuit) o.place) x d o.known (omega (arith, known, fits))
          ∙ ap (λ (y : Site). get_or (held_stops circuit.modules y) (j - count_to (held_stops circuit.modules) (sites_of circuit) o.place) d) here
          ∙ get_or-map (held_stop x) (stops_in circuit x) (j - count_to (held_stops circuit.modules) (sites_of circuit) o.place) found.0 d known
          ∙ ap (held_stop x) (found.1 found.0)

      at : (d : HeldStop) → IsStopFor circuit (get_or (flat_map (held_stops circuit.modules) (sites_of circuit)) j d).site (get_or (flat_map (held_stops circuit.modules) (sites_of circuit)) j d).said (stop_at tree j)
      at d = Pairwise-at (λ (h : HeldStop) (stop : StopInstance). IsStopFor circuit h.site h.said stop) (flat_map (held_stops circuit.modules) (sites_of circuit)) tree.stops j d (record { instance = 0; signal = 0; clock = None }) is.stops inside

module _ (circuit : CircuitTree) (flat : FlatCircuit) (tree : InstanceTree) (top : ℕ) (known_top : place_of circuit.name (module_names circuit) ≡ Some top) (is_flat : IsFlat circuit flat) (is_tree : IsTreeOf circuit tree) (distinct : HasDistinctPaths circuit) (plain : HasPlainNames circuit) (names : HasApartNames circuit) where
  abbrev Stands : ℕ → Site → Type 0
  Stands k x = Placed (length circuit.modules) circuit.modules (sites_of circuit) k x

  abbrev from_site : ℕ → ℕ
  from_site k = count_to (signals_in circuit) (sites_of circuit) k

  some-stop : (j : ℕ) → j < length tree.stops → AskedPlace circuit tree j
  some-stop j lt = asked-place circuit tree top known_top is_tree j lt

  -- own signals with the same number are of the same site
  same-site : (k h : ℕ) (x y : Site) → Stands k x → Stands h y → (a b : ℕ) → a < length (own_in circuit x) → b < length (own_in circuit y) → from_site k + a ≡ from_site h + b → k ≡ h
  same-site k h x y p q a b inside within same = go (cases_lt k h) (cases_lt h k)
    where
      go : (k < h) ⊎ (h ≤ k) → (h < k) ⊎ (k ≤ h) → k ≡ h
      go (inl sooner) which = absurd (omega (arith, same, inside, own-count circuit k x p, count-le (signals_in circuit) (sites_of circuit) (suc k) h (omega (arith, sooner))))
      go (inr ge) (inl later) = absurd (omega (arith, same, within, own-count circuit h y q, count-le (signals_in circuit) (sites_of circuit) (suc h) k (omega (arith, later))))
      go (inr ge) (inr le) = omega (arith, ge, le)

  -- the own signal of a stop, behind all others of its site
  abbrev pub offset_of : {j : ℕ} → AskedPlace circuit tree j → ℕ
  offset_of p = length (before_stops circuit p.site) + p.offset

  own-inside : {j : ℕ} (p : AskedPlace circuit tree j) → offset_of p < length (own_in circuit p.site)
  own-inside p =
      let size : length (own_in circuit p.site) ≡ length (before_stops circuit p.site) + length (stops_in circuit p.site) =
      ap (λ (l : List Own). length l) (own-parts circuit p.site) ∙ length-append (before_stops circuit p.site) (map stop_signal (stops_in circuit p.site)) ∙ ap (λ n. length (before_stops circuit p.site) + n) (length-map (stops_in circuit p.site) stop_signal) in
      omega (arith, p.known, size)

  own-is : {j : ℕ} (p : AskedPlace circuit tree j) (d : Own) → get_or (own_in circuit p.site) (offset_of p) d ≡ stop_signal p.own
  own-is p d =
      ap (λ (l : List Own). get_or l (offset_of p) d) (own-parts circuit p.site)
      ∙ get_or-append-add (before_stops circuit p.site) (map stop_signal (stops_in circuit p.site)) p.offset d
      ∙ get_or-map stop_signal (stops_in circuit p.site) p.offset p.own d p.known
      ∙ ap stop_signal (p.is_own p.own)

  pub holder-of : (j : ℕ) (p : AskedPlace circuit tree j) → (stop_at tree j).instance ≡ p.holder
  holder-of j p = same_Some (stop_at tree j).instance p.holder (sym p.is_for.holder.is ∙ path-place circuit tree top known_top is_tree distinct.of_sites p.holder p.site p.placed)

  pub signal-of : (j : ℕ) (p : AskedPlace circuit tree j) → (stop_at tree j).signal ≡ from_site p.holder + offset_of p
  signal-of j p =
      same_Some (stop_at tree j).signal (from_site p.holder + offset_of p)
      (sym p.is_for.signal.is
      ∙ ap (λ (o : Own). place_of (joined p.site.path o.name) (signal_paths circuit)) (sym (own-is p no_own))
      ∙ own-place circuit p.holder p.site p.placed distinct.of_signals (offset_of p) no_own (own-inside p))

  no-port : (j : ℕ) (p : AskedPlace circuit tree j) (k : ℕ) → ¬ IsPort tree k (stop_at tree j).signal
  no-port j p k port = omega (arith, counted, at.0, inside, behind, same_from)
    where
      x : Site
      x = (site-there circuit flat tree top known_top is_flat is_tree distinct plain names k port.known).0

      q : Stands k x
      q = (site-there circuit flat tree top known_top is_flat is_tree distinct plain names k port.known).1

      i : ℕ
      i = port.listed.0

      at : ((get_or (instance_at tree k).ports i port.port).signal ≡ from_site k + i) × (i < length (own_in circuit x))
      at = port-at circuit flat tree top known_top is_flat is_tree distinct plain k x q i port.port port.listed.1

      counted : (get_or (instance_at tree k).ports i port.port).signal ≡ from_site p.holder + offset_of p
      counted = ap (λ (y : InstancePort). y.signal) port.listed.2 ∙ port.is ∙ signal-of j p

      same : k ≡ p.holder
      same = same-site k p.holder x p.site q p.placed i (offset_of p) at.1 (own-inside p) (sym at.0 ∙ counted)

      same_from : from_site k ≡ from_site p.holder
      same_from = ap from_site same

      site : x ≡ p.site
      site = placed-same (length circuit.modules) circuit.modules (sites_of circuit) k x p.site q (subst (λ n. Stands n p.site) (sym same) p.placed)

      h : Pairwise (IsPortFor circuit x) (signal_ports (module_at circuit.modules x.number)) (instance_at tree k).ports
      h = (instance-for circuit tree top known_top is_tree distinct.of_sites k x q).ports

      inside : i < length (filter_map own_of_port (module_at circuit.modules p.site.number).ports)
      inside =
          let ports = ap (λ (y : Site). length (filter_map own_of_port (module_at circuit.modules y.number).ports)) site in
          omega (arith, port.listed.1, Pairwise-length (IsPortFor circuit x) (signal_ports (module_at circuit.modules x.number)) (instance_at tree k).ports h, port-count (module_at circuit.modules x.number).ports, ports)

      behind : length (before_stops circuit p.site) ≡ length (filter_map own_of_port (module_at circuit.modules p.site.number).ports) + length (flat_map (λ (s : Stmt). own_of_kind (types_of circuit) p.site.number s.kind) (module_at circuit.modules p.site.number).statements)
      behind = length-append (filter_map own_of_port (module_at circuit.modules p.site.number).ports) (flat_map (λ (s : Stmt). own_of_kind (types_of circuit) p.site.number s.kind) (module_at circuit.modules p.site.number).statements)

  no-field : (j : ℕ) (p : AskedPlace circuit tree j) (i : ℕ) → i < length tree.memories → ¬ IsFieldOf flat tree i (stop_at tree j).signal
  no-field j p i lt has =
      dotless (subst (λ (o : Own). Contains o.name 46) (sym same_own) (subst (λ name. Contains name 46) (sym named.is) (dot-within row.place.own.name (named.port ++ 46 ∷ named.field))))
    where
      row : FieldsInRow circuit flat tree top known_top is_flat is_tree distinct plain names i
      row = fields-in-row circuit flat tree top known_top is_flat is_tree distinct plain names i lt (memory-place circuit tree top known_top is_tree i lt)

      f : ℕ
      f = has.0

      inside : f < length (memory_signals row.place.own.name (Some row.place.own.bank))
      inside = omega (arith, has.1, row.size)

      counted : from_site row.place.holder + (row.start + f) ≡ from_site p.holder + offset_of p
      counted = sym (row.number f (stop_at tree j).signal inside) ∙ has.2 ∙ signal-of j p

      same : row.place.holder ≡ p.holder
      same = same-site row.place.holder p.holder row.place.site p.site row.place.placed p.placed (row.start + f) (offset_of p) (row.inside f inside) (own-inside p) counted

      site : row.place.site ≡ p.site
      site = placed-same (length circuit.modules) circuit.modules (sites_of circuit) row.place.holder row.place.site p.site row.place.placed (subst (λ n. Stands n p.site) (sym same) p.placed)

      place : row.start + f ≡ offset_of p
      place = let from : from_site row.place.holder ≡ from_site p.holder = ap from_site same in omega (arith, counted, from)

      same_own : stop_signal p.own ≡ get_or (memory_signals row.place.own.name (Some row.place.own.bank)) f no_own
      same_own = sym (own-is p no_own) ∙ ap₂ (λ (y : Site) (n : ℕ). get_or (own_in circuit y) n no_own) (sym site) (sym place) ∙ row.is f no_own inside

      named : FieldName row.place.own.name row.place.own.bank (get_or (memory_signals row.place.own.name (Some row.place.own.bank)) f no_own).name
      named = memory-field row.place.own.name row.place.own.bank f no_own inside

      dotless : ¬ Contains (stop_signal p.own).name 46
      dotless = stop-dotless (module_at circuit.modules p.site.number).statements (stop_signal p.own) (record { stop = p.own; among = (p.offset, p.known, p.is_own p.own); is = refl })

  pub stop-of : (j : ℕ) → j < length tree.stops → IsStop flat tree j
  stop-of j lt =
      let p = some-stop j lt in
      record {
        own = subst₂ (IsInnermost tree) (sym (holder-of j p)) (sym (signal-of j p)) (own-is-innermost circuit flat tree top known_top is_flat is_tree distinct plain names p.holder p.site p.placed (offset_of p) (own-inside p));
        no_port = no-port j p;
        no_field = no-field j p;
      }

  -- ---- a stop of a site, by its place there

  stops-next : (k : ℕ) (x : Site) → Stands k x → count_to (held_stops circuit.modules) (sites_of circuit) (suc k) ≡ count_to (held_stops circuit.modules) (sites_of circuit) k + length (stops_in circuit x)
  stops-next k x p =
      count-next (held_stops circuit.modules) (sites_of circuit) k x (placed-known circuit k x p)
      ∙ ap (λ (y : Site). count_to (held_stops circuit.modules) (sites_of circuit) k + length (held_stops circuit.modules y)) (placed-at (length circuit.modules) circuit.modules (sites_of circuit) k x x p)
      ∙ ap (λ n. count_to (held_stops circuit.modules) (sites_of circuit) k + n) (length-map (stops_in circuit x) (held_stop x))

  -- The stop at this place of a site's stops is in the tree.
  record StopOf (k : ℕ) (x : Site) (q : ℕ) : Type 0 where
    place : ℕ
    known : place < length tree.stops
    asked : AskedPlace circuit tree place
    holder : asked.holder ≡ k
    site : asked.site ≡ x
    offset : asked.offset ≡ q

  stop-at-site : (k : ℕ) (x : Site) → Stands k x → (q : ℕ) → q < length (stops_in circuit x) → StopOf k x q
  stop-at-site k x p q lt = record {
    place = count_to (held_stops circuit.modules) (sites_of circuit) k + q;
    known = known;
    asked = a;
    holder = holder;
    site = placed-same (length circuit.modules) circuit.modules (sites_of circuit) k a.site x (subst (λ n. Stands n a.site) holder a.placed) p;
    offset = let same : count_to (held_stops circuit.modules) (sites_of circuit) a.holder ≡ count_to (held_stops circuit.modules) (sites_of circuit) k = ap (count_to (held_stops circuit.modules) (sites_of circuit)) holder in omega (arith, a.counted, same);
  }
    where
      total : count_to (held_stops circuit.modules) (sites_of circuit) (length (sites_of circuit)) ≡ length tree.stops
      total =
          ap (λ (l : List Site). length (flat_map (held_stops circuit.modules) l)) (take_all (length (sites_of circuit)) (sites_of circuit) (omega arith))
          ∙ stop-count circuit tree top known_top is_tree

      known : count_to (held_stops circuit.modules) (sites_of circuit) k + q < length tree.stops
      known = omega (arith, lt, stops-next k x p, total, count-le (held_stops circuit.modules) (sites_of circuit) (suc k) (length (sites_of circuit)) (omega (arith, placed-known circuit k x p)))

      a : AskedPlace circuit tree (count_to (held_stops circuit.modules) (sites_of circuit) k + q)
      a = some-stop (count_to (held_stops circuit.modules) (sites_of circuit) k + q) known

      holder : a.holder ≡ k
      holder = go (cases_lt a.holder k) (cases_lt k a.holder)
        where
          go : (a.holder < k) ⊎ (k ≤ a.holder) → (k < a.holder) ⊎ (a.holder ≤ k) → a.holder ≡ k
          go (inl sooner) which = absurd (omega (arith, a.counted, a.known, stops-next a.holder a.site a.placed, count-le (held_stops circuit.modules) (sites_of circuit) (suc a.holder) k (omega (arith, sooner))))
          go (inr ge) (inl later) = absurd (omega (arith, a.counted, lt, stops-next k x p, count-le (held_stops circuit.modules) (sites_of circuit) (suc k) a.holder (omega (arith, later))))
          go (inr ge) (inr le) = omega (arith, ge, le)

  -- a stop stands again at each site of its module
  pub stop-again : (j : ℕ) (p : AskedPlace circuit tree j) (k : ℕ) (x : Site) → Stands k x → p.site.number ≡ x.number → Contains tree.stops (record { instance = k; signal = from_site k + offset_of p; clock = (stop_at tree j).clock })
  stop-again j p k x at same = (s.place, s.known, get_or_default tree.stops s.place made (record { instance = 0; signal = 0; clock = None }) s.known ∙ is)
    where
      inside : p.offset < length (stops_in circuit x)
      inside = subst (λ n. p.offset < length (own_stops (module_at circuit.modules n).statements)) same p.known

      s : StopOf k x p.offset
      s = stop-at-site k x at p.offset inside

      made : StopInstance
      made = record { instance = k; signal = from_site k + offset_of p; clock = (stop_at tree j).clock }

      own : s.asked.own ≡ p.own
      own =
          sym (s.asked.is_own p.own)
          ∙ ap₂ (λ (y : Site) (n : ℕ). get_or (stops_in circuit y) n p.own) s.site s.offset
          ∙ ap (λ n. get_or (own_stops (module_at circuit.modules n).statements) p.offset p.own) (sym same)
          ∙ p.is_own p.own

      instance : (stop_at tree s.place).instance ≡ k
      instance = holder-of s.place s.asked ∙ s.holder

      before : length (before_stops circuit s.asked.site) ≡ length (before_stops circuit p.site)
      before =
          ap (λ (y : Site). length (before_stops circuit y)) s.site
          ∙ ap (λ n. length (filter_map own_of_port (module_at circuit.modules n).ports ++ flat_map (λ (t : Stmt). own_of_kind (types_of circuit) n t.kind) (module_at circuit.modules n).statements)) (sym same)

      signal : (stop_at tree s.place).signal ≡ from_site k + offset_of p
      signal = let from : from_site s.asked.holder ≡ from_site k = ap from_site s.holder in omega (arith, signal-of s.place s.asked, from, before, s.offset)

      clock : (stop_at tree s.place).clock ≡ (stop_at tree j).clock
      clock =
          s.asked.is_for.clock
          ∙ ap₂ (λ (y : Site) (o : OwnStop). clock_of (module_at circuit.modules y.number) o.asked.clock) s.site own
          ∙ ap (λ n. clock_of (module_at circuit.modules n) p.own.asked.clock) (sym same)
          ∙ sym p.is_for.clock

      is : stop_at tree s.place ≡ made
      is = λ i. record { instance = instance i; signal = signal i; clock = clock i }

  stop-number : (j : ℕ) (d : ℕ) (lt : j < length tree.stops) → get_or (stop_signals tree) j d ≡ from_site (some-stop j lt).holder + offset_of (some-stop j lt)
  stop-number j d lt = get_or-map (λ (stop : StopInstance). stop.signal) tree.stops j (record { instance = 0; signal = 0; clock = None }) d lt ∙ signal-of j (some-stop j lt)

  pub stops_once-of : AllPairs (λ a b. a ≢ b) (stop_signals tree)
  stops_once-of i j d before inside same = omega (arith, one.counted, other.counted, before, offsets, counts)
    where
      known : j < length tree.stops
      known = omega (arith, inside, length-map tree.stops (λ (stop : StopInstance). stop.signal))

      first : i < length tree.stops
      first = omega (arith, before, known)

      one : AskedPlace circuit tree i
      one = some-stop i first

      other : AskedPlace circuit tree j
      other = some-stop j known

      equal : from_site one.holder + offset_of one ≡ from_site other.holder + offset_of other
      equal = sym (stop-number i d first) ∙ same ∙ stop-number j d known

      holder : one.holder ≡ other.holder
      holder = same-site one.holder other.holder one.site other.site one.placed other.placed (offset_of one) (offset_of other) (own-inside one) (own-inside other) equal

      site : one.site ≡ other.site
      site = placed-same (length circuit.modules) circuit.modules (sites_of circuit) one.holder one.site other.site one.placed (subst (λ n. Stands n other.site) (sym holder) other.placed)

      counts : count_to (held_stops circuit.modules) (sites_of circuit) one.holder ≡ count_to (held_stops circuit.modules) (sites_of circuit) other.holder
      counts = ap (count_to (held_stops circuit.modules) (sites_of circuit)) holder

      offsets : one.offset ≡ other.offset
      offsets =
          let from : from_site one.holder ≡ from_site other.holder = ap from_site holder in
          let size : length (before_stops circuit one.site) ≡ length (before_stops circuit other.site) = ap (λ (y : Site). length (before_stops circuit y)) site in
          omega (arith, equal, from, size)
