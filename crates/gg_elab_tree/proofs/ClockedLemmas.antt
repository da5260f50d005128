-- A circuit has the clocks of its tree.
use Rattle.std.proofs.Common.{◌≡◌, ℕ, zero, suc, ◌+◌, ◌<◌, List, [], ◌++◌, Option, Some, None, length, get_or, map, sym, ap, ap₂, ◌∙◌, subst, subst₂, arith, slice_get, slice_index_or}
use Rattle.std.specs.Prelude.{All}
use Rattle.std.proofs.lemmas.List.{get_or-map, map-append}
use Rattle.std.proofs.lemmas.List.Elements.{All-map}
use Rattle.std.proofs.lemmas.Option.{slice_get-get_or, same_Some}
use Rattle.std.proofs.lemmas.Simd.{map-map}
use Rattle.gg_ast.specs.Places.{place_of}
use Rattle.gg_ast.specs.Tree.{CircuitTree, module_names}
use Rattle.gg_flat.specs.Circuit.{FlatCircuit, driver_at, readers_at}
use Rattle.gg_flat_tree.specs.inside.Clocked.{AreParentsBefore}
use Rattle.gg_flat_tree.specs.Clocked.{IsClockOf, IsClocked, clock_at, clocks_from, port_clocks, through_parent, top_clocks}
use Rattle.gg_flat_tree.specs.Scoped.{writers_at}
use Rattle.gg_flat_tree.specs.Tree.{InstanceTree, IsInnermost, instance_at, memory_at, stop_at}
use Rattle.gg_flat.specs.WellFormed.{IsClock}
use Rattle.gg_flat.specs.declared.memory.Memory.{Memory}
use Rattle.gg_flat.specs.declared.memory.Reader.{Reader}
use Rattle.gg_flat.specs.declared.memory.Writer.{Writer}
use Rattle.gg_flat.specs.declared.piece.Driver.TheVariants.{Held}
use Rattle.gg_flat.specs.declared.piece.Register.{Register}
use Rattle.gg_flat.proofs.ListLemmas.{some-item}
use Rattle.gg_flat_tree.proofs.TopClockLemmas.{top_clocks-only}
use Rattle.gg_types.specs.Clocks.{clock_inputs}
use Rattle.gg_elab_sites.specs.Sites.{Site, module_at, site_below, sites_of, top_site}
use Rattle.gg_elab_sites.specs.Clocks.{clock_of, own_clocks, port_clock, site_clocks}
use Rattle.gg_elab_sites.specs.Flat.{FlatMemory, FlatSignal, Outside, drive_of, flat_memory, flat_signal, flat_signals}
use Rattle.gg_elab_sites.specs.IsFlat.{IsFlat, IsMemoryOf, bindings_of, count_before, drive_at, is_outside, is_register, reader_of, signals_of, top_ports, writer_of}
use Rattle.gg_flat.specs.Line.{shape_at}
use Rattle.gg_elab_sites.specs.Known.{types_of}
use Rattle.gg_elab_sites.specs.Signals.{Own}
use Rattle.gg_elab_sites.proofs.FollowLemmas.{around-length, given-below, input_count, port-below, term-below}
use Rattle.gg_elab_tree.specs.IsTreeOf.{IsTreeOf, memories_of, signal_paths}
use Rattle.gg_elab_tree.proofs.HeldMemoryLemmas.{MemoryPlace, memory-place}
use Rattle.gg_elab_tree.proofs.InstanceLemmas.{held_at-place, instance-for, ranges, signals_in, top_placed, top_parent}
use Rattle.gg_elab_tree.proofs.OwnLemmas.{own_in, own-inside, own-signal, placed-known}
use Rattle.gg_elab_tree.proofs.PlaceLemmas.{Placed}
use Rattle.gg_elab_tree.proofs.RangeLemmas.{Ranges, count_to, placed-at}
use Rattle.gg_elab_tree.proofs.WellFormedLemmas.RegisterClockLemmas.{HoldsAs, clocks-at, clocks-count, held-as, held-follows}
use Rattle.gg_elab_tree.proofs.StopLemmas.{asked-place, holder-of}
use Rattle.gg_elab_tree.proofs.ScopeOfTreeLemmas.{HasApartNames}
use Rattle.gg_elab_tree.proofs.TreeLemmas.{HasDistinctPaths, HasPlainNames, OwnPlace, flat-memory-count, holder-is, memory-is, no_own, number-is, own-place-of}

module _ (circuit : CircuitTree) (flat : FlatCircuit) (tree : InstanceTree) (top : ℕ) (known_top : place_of circuit.name (module_names circuit) ≡ Some top) (is_flat : IsFlat circuit flat) (is_tree : IsTreeOf circuit tree) (distinct : HasDistinctPaths circuit) (plain : HasPlainNames circuit) (names : HasApartNames circuit) where
  abbrev Stands : ℕ → Site → Type 0
  Stands k x = Placed (length circuit.modules) circuit.modules (sites_of circuit) k x

  abbrev signals : List FlatSignal
  signals = flat_signals (types_of circuit) circuit.modules (sites_of circuit)

  tells : Ranges (length circuit.modules) circuit.modules (signals_in circuit) (sites_of circuit) tree
  tells = ranges circuit tree top known_top is_tree distinct.of_sites

  -- ---- instances

  -- an instance's Clock inputs follow what its site's do
  own-is : (k : ℕ) (x : Site) → Stands k x → (instance_at tree k).clocks ≡ own_clocks circuit.modules x
  own-is k x p = (instance-for circuit tree top known_top is_tree distinct.of_sites k x p).clocks

  -- and there are as many as its module has
  own-length : (k : ℕ) (x : Site) → Stands k x → length (instance_at tree k).clocks ≡ input_count (module_at circuit.modules x.number)
  own-length k x p = ap (λ (l : List (Option ℕ)). length l) (own-is k x p) ∙ around-length circuit.modules x.number x.steps

  -- one of the module's Clock inputs is one of the instance's
  here-is : (k : ℕ) (x : Site) → Stands k x → (clock : Option ℕ) → IsClock (input_count (module_at circuit.modules x.number)) clock → IsClockOf tree k clock
  here-is k x p clock h = subst (λ n. IsClock n clock) (sym (own-length k x p)) h

  parents-before : AreParentsBefore tree
  parents-before k above lt is = (tells.under k above (omega (arith, lt, tells.same)) is).before

  instances-follow : (k above : ℕ) → k < length tree.instances → (instance_at tree k).parent ≡ Some above → All (IsClockOf tree above) (instance_at tree k).clocks
  instances-follow k above lt is =
      let u = tells.under k above (omega (arith, lt, tells.same)) is in
      subst (λ (l : List (Option ℕ)). All (IsClockOf tree above) l) (sym (own-is k (site_below u.outer u.held) u.at_place))
      (subst (λ n. All (IsClock n) (own_clocks circuit.modules (site_below u.outer u.held))) (sym (own-length above u.outer u.at_outer)) (given-below (module_at circuit.modules u.outer.number) u.held.name (module_at circuit.modules u.held.number)))

  -- ---- the circuit's clocks

  ports_known : top_ports circuit.modules (place_of circuit.name (module_names circuit)) ≡ (module_at circuit.modules top).ports
  ports_known = ap (top_ports circuit.modules) known_top

  counted : flat.clocks ≡ input_count (module_at circuit.modules top)
  counted = is_flat.clocks ∙ ap (λ ports. length (clock_inputs ports)) ports_known

  top-is : (instance_at tree 0).clocks ≡ clocks_from 0 flat.clocks
  top-is = own-is 0 (top_site top) (top_placed circuit tree top known_top) ∙ ap (clocks_from 0) (sym counted)

  abbrev made : ℕ → List (Option ℕ)
  made k = site_clocks circuit.modules (get_or (sites_of circuit) k (top_site top))

  made-is : (k : ℕ) (x : Site) → Stands k x → made k ≡ site_clocks circuit.modules x
  made-is k x p = ap (site_clocks circuit.modules) (placed-at (length circuit.modules) circuit.modules (sites_of circuit) k x (top_site top) p)

  made-step : (k : ℕ) → k < length tree.instances → made k ≡ through_parent made (instance_at tree k).parent (instance_at tree k).clocks
  made-step zero lt =
      made-is 0 (top_site top) (top_placed circuit tree top known_top)
      ∙ sym (own-is 0 (top_site top) (top_placed circuit tree top known_top))
      ∙ ap (λ o. through_parent made o (instance_at tree 0).clocks) (sym (top_parent circuit tree top known_top is_tree distinct.of_sites))
  made-step (suc k) lt =
      let h = held_at-place circuit tree top known_top k (omega (arith, lt, tells.same)) in
      let u = h.under in
      made-is (suc k) (site_below u.outer u.held) u.at_place
      ∙ ap₂ (λ (above own : List (Option ℕ)). map (clock_at above) own) (sym (made-is h.above u.outer u.at_outer)) (sym (own-is (suc k) (site_below u.outer u.held) u.at_place))
      ∙ ap (λ o. through_parent made o (instance_at tree (suc k)).clocks) (sym (tells.parent (suc k) h.above u))

  -- the Clock inputs of an instance lead to the clocks of its site
  leads-to : (k : ℕ) (x : Site) → Stands k x → top_clocks tree k ≡ site_clocks circuit.modules x
  leads-to k x p =
      sym (top_clocks-only tree parents-before made made-step (suc k) k (omega arith) (omega (arith, placed-known circuit k x p, tells.same)))
      ∙ made-is k x p

  -- ---- registers

  registers-counted : length tree.register_clocks ≡ length flat.registers
  registers-counted = ap (λ (l : List (Option ℕ)). length l) is_tree.register_clocks ∙ clocks-count signals ∙ sym is_flat.register_count

  -- The register that an own signal of an instance holds follows a Clock input of the instance, and what this leads to.
  record Following (k r : ℕ) : Type 0 where
    own : IsClockOf tree k (slice_index_or tree.register_clocks r None)
    within : r < length flat.registers
    clocked : (any : Register) → (get_or flat.registers r any).clock ≡ clock_at (top_clocks tree k) (slice_index_or tree.register_clocks r None)

  following : (k s r : ℕ) → IsInnermost tree k s → driver_at flat s ≡ Held r → Following k r
  following k s r inner is = record {
    own = subst (IsClockOf tree k) (sym listed) (here-is k o.site o.placed h.own follows.0);
    within = h.within;
    clocked = λ any. h.clocked any ∙ follows.1 ∙ ap₂ clock_at (sym (leads-to k o.site o.placed)) (sym listed);
  }
    where
      o : OwnPlace circuit flat tree top known_top is_flat is_tree distinct plain k s
      o = own-place-of circuit flat tree top known_top is_flat is_tree distinct plain k s inner

      own : Own
      own = get_or (own_in circuit o.site) o.offset no_own

      at : ℕ
      at = count_to (signals_in circuit) (sites_of circuit) k + o.offset

      inside : count_to (signals_in circuit) (sites_of circuit) k + o.offset < length signals
      inside = own-inside circuit k o.site o.placed o.offset o.known

      known : s < length signals
      known = omega (arith, inside, o.counted)

      drive : drive_at signals s ≡ drive_of circuit.modules o.site own.name own.cause
      drive =
          ap (drive_at signals) o.counted
          ∙ get_or-map (λ (y : FlatSignal). y.drive) signals (count_to (signals_in circuit) (sites_of circuit) k + o.offset) (flat_signal circuit.modules o.site no_own) Outside inside
          ∙ ap (λ (y : FlatSignal). y.drive) (own-signal circuit k o.site o.placed o.offset (flat_signal circuit.modules o.site no_own) no_own o.known)

      h : HoldsAs flat.registers (count_before is_register signals s) (drive_at signals s) r
      h = held-as (bindings_of (types_of circuit) signals (memories_of circuit)) flat.registers (count_before is_outside signals s) (count_before is_register signals s) (shape_at (map (λ (x : FlatSignal). x.shape) signals) s) (drive_at signals s) (driver_at flat s) r (is_flat.drivers s known) is

      follows : IsClock (input_count (module_at circuit.modules o.site.number)) h.own × (h.clock ≡ clock_at (site_clocks circuit.modules o.site) h.own)
      follows = held-follows circuit.modules o.site h.own h.clock own.name own.cause (record { scope = h.holding.scope; reset = h.holding.reset; next = h.holding.next; is = sym drive ∙ h.holding.is })

      listed : slice_index_or tree.register_clocks r None ≡ h.own
      listed = ap₂ (λ (l : List (Option ℕ)) (n : ℕ). get_or l n None) is_tree.register_clocks h.number_is ∙ clocks-at signals s h.own h.clock None known h.holding

  -- ---- memories

  some-memory : (j : ℕ) → j < length tree.memories → MemoryPlace circuit tree j
  some-memory j lt = memory-place circuit tree top known_top is_tree j lt

  ports-follow : (j : ℕ) → j < length tree.memories → (p : MemoryPlace circuit tree j) → All (IsClockOf tree (memory_at tree j).instance) (memory_at tree j).clocks
  ports-follow j lt p =
      subst₂ (λ (n : ℕ) (l : List (Option ℕ)). All (IsClockOf tree n) l) (sym (holder-is circuit flat tree top known_top is_flat is_tree distinct plain j p)) (sym p.is_for.clocks)
      (All-map (IsClockOf tree p.holder) (port_clock (module_at circuit.modules p.site.number) p.own.name) (p.own.bank.readers ++ p.own.bank.writers)
      (λ k d lt. here-is p.holder p.site p.placed (port_clock (module_at circuit.modules p.site.number) p.own.name (get_or (p.own.bank.readers ++ p.own.bank.writers) k d)) (port-below (module_at circuit.modules p.site.number) p.own.name (get_or (p.own.bank.readers ++ p.own.bank.writers) k d))))

  ports-lead : (j : ℕ) → j < length tree.memories → (p : MemoryPlace circuit tree j) → port_clocks flat (memory_at tree j).memory ≡ map (clock_at (top_clocks tree (memory_at tree j).instance)) (memory_at tree j).clocks
  ports-lead j lt p =
      ap (port_clocks flat) (number-is circuit flat tree top known_top is_flat is_tree distinct plain j lt p)
      ∙ ap₂ (λ (rs : List Reader) (ws : List Writer). map (λ (reader : Reader). reader.clock) rs ++ map (λ (writer : Writer). writer.clock) ws) readers writers
      ∙ ap₂ (λ (xs ys : List (Option ℕ)). xs ++ ys) (map-map (λ (reader : Reader). reader.clock) (reader_of (signal_paths circuit) said) p.own.bank.readers) (map-map (λ (writer : Writer). writer.clock) (writer_of (signal_paths circuit) said) p.own.bank.writers)
      ∙ sym (map-append said.clock p.own.bank.readers p.own.bank.writers)
      ∙ sym (map-map (clock_at (site_clocks circuit.modules p.site)) said.own_clock (p.own.bank.readers ++ p.own.bank.writers))
      ∙ ap₂ (λ (clocks own : List (Option ℕ)). map (clock_at clocks) own) (sym (leads-to p.holder p.site p.placed)) (sym p.is_for.clocks)
      ∙ ap (λ n. map (clock_at (top_clocks tree n)) (memory_at tree j).clocks) (sym (holder-is circuit flat tree top known_top is_flat is_tree distinct plain j p))
    where
      said : FlatMemory
      said = flat_memory circuit.modules p.site p.own

      there : j < length flat.memories
      there = omega (arith, lt, flat-memory-count circuit flat tree top known_top is_flat is_tree distinct plain)

      memory : Memory
      memory = some-item flat.memories j there

      is_memory : IsMemoryOf (signals_of signals).paths (flat_memory circuit.modules p.site p.own) (get_or flat.memories j memory)
      is_memory = memory-is circuit flat tree top known_top is_flat is_tree distinct plain j lt p memory

      readers : readers_at flat j ≡ map (reader_of (signal_paths circuit) said) p.own.bank.readers
      readers = get_or-map (λ (m : Memory). m.readers) flat.memories j memory [] there ∙ is_memory.readers

      writers : writers_at flat j ≡ map (writer_of (signal_paths circuit) said) p.own.bank.writers
      writers = get_or-map (λ (m : Memory). m.writers) flat.memories j memory [] there ∙ is_memory.writers

  -- ---- stops

  stops-follow : (j : ℕ) → j < length tree.stops → IsClockOf tree (stop_at tree j).instance (stop_at tree j).clock
  stops-follow j lt =
      let p = asked-place circuit tree top known_top is_tree j lt in
      subst₂ (IsClockOf tree) (sym (holder-of circuit flat tree top known_top is_flat is_tree distinct plain names j p)) (sym p.is_for.clock)
      (here-is p.holder p.site p.placed (clock_of (module_at circuit.modules p.site.number) p.own.asked.clock) (term-below (module_at circuit.modules p.site.number) p.own.asked.clock))

  -- ---- all of it

  slice-or : (registers : List Register) (r : ℕ) (register : Register) → r < length registers → slice_get registers r ≡ Some register → get_or registers r register ≡ register
  slice-or registers r register lt is = same_Some (get_or registers r register) register (sym (slice_get-get_or registers r register lt) ∙ is)

  -- a circuit has the clocks of its tree
  pub clocked-of : IsClocked flat tree
  clocked-of = record {
    count = ap (λ (l : List (List ℕ)). length l) is_tree.clocks ∙ sym is_flat.clocks;
    top = top-is;
    instances = instances-follow;
    register_count = registers-counted;
    register_known = λ k s r inner is. (following k s r inner is).own;
    registers = λ k s r register inner is listed.
        let f = following k s r inner is in
        sym (ap (λ (y : Register). y.clock) (slice-or flat.registers r register f.within listed)) ∙ f.clocked register;
    port_known = λ j lt. ports-follow j lt (some-memory j lt);
    ports = λ j lt. ports-lead j lt (some-memory j lt);
    stops = stops-follow;
  }
