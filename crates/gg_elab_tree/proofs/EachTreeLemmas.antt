-- Each circuit has a tree: every path that it names is one of its sites, its signals or its memories.
use Rattle.std.proofs.Common.{◌≡◌, ◌⊎◌, inl, inr, ℕ, ◌+◌, List, [], ◌∷◌, ◌++◌, length, map, Option, Some, None, refl, sym, ap, ◌∙◌, subst}
use Rattle.std.specs.Prelude.{Contains, filter_map, flat_map}
use Rattle.std.proofs.lemmas.List.Elements.{Contains-append_right}
use Rattle.std.proofs.lemmas.Option.{slice_get-get_or}
use Rattle.gg_ast.specs.declared.module.Port.{Port}
use Rattle.gg_ast.specs.declared.statement.Stmt.{Stmt}
use Rattle.gg_ast.specs.Places.{place_of}
use Rattle.gg_ast.specs.Tree.{CircuitTree, module_names}
use Rattle.gg_ast.proofs.NamePlaces.{place_of-lacks}
use Rattle.gg_flat_tree.specs.declared.tree.Instance.{Instance}
use Rattle.gg_flat_tree.specs.declared.tree.InstancePort.{InstancePort}
use Rattle.gg_flat_tree.specs.declared.tree.MemoryInstance.{MemoryInstance}
use Rattle.gg_flat_tree.specs.declared.tree.StopInstance.{StopInstance}
use Rattle.gg_flat_tree.specs.Tree.{InstanceTree, joined}
use Rattle.gg_flat.proofs.ListLemmas.{here, further, Contains-map}
use Rattle.gg_types.specs.Clocks.{clock_inputs}
use Rattle.gg_elab_sites.specs.Sites.{Outer, Site, module_at, sites_of}
use Rattle.gg_elab_sites.specs.Clocks.{clock_of, own_clocks}
use Rattle.gg_elab_sites.specs.Flat.{FlatMemory, FlatSignal, flat_signal, flat_signals, memories_at, signals_at}
use Rattle.gg_elab_sites.specs.IsFlat.{memory_paths, top_ports}
use Rattle.gg_elab_sites.specs.Known.{types_of}
use Rattle.gg_elab_sites.specs.Signals.{OwnStop, own_of_kind, own_of_port, own_signals, own_stops, statement_signals, stop_signal}
use Rattle.gg_elab_sites.proofs.AmongLemmas.{from-flat_map, from-map, in-flat_map}
use Rattle.gg_elab_tree.specs.IsTreeOf.{AreInstances, HeldMemory, HeldStop, IsAt, IsInstanceFor, IsMemoryAt, IsMemoryFor, IsParent, IsPortFor, IsStopFor, IsTreeOf, Pairwise, clocks_held, held_memories, held_memory, held_stop, held_stops, is_input, memories_of, signal_count, signal_paths, signal_ports, site_paths, sites_within}
use Rattle.gg_elab_tree.proofs.ThereLemmas.{HolderAmong, outer-there, signal-there}

-- ---- places and lists

at-place : (paths : List (List ℕ)) (path : List ℕ) → Contains paths path → (place : ℕ) × IsAt paths path place
at-place paths path h = by (place_of path paths) refl
  where
    by : (o : Option ℕ) → place_of path paths ≡ o → (place : ℕ) × IsAt paths path place
    by (Some place) e = (place, record { is = e })
    by None e = absurd (place_of-lacks path paths e h.0 (slice_get-get_or paths h.0 path h.1 ∙ ap Some h.2))

-- each item has a part, so the list has a list of parts
each-made : {A B : Type 0} (R : A → B → Type 0) (xs : List A) → ((x : A) → Contains xs x → (y : B) × R x y) → (ys : List B) × Pairwise R xs ys
each-made R [] make = ([], tt)
each-made R (x ∷ xs) make =
    let first = make x (here x xs) in
    let rest = each-made R xs (λ y h. make y (further x xs y h)) in
    (first.0 ∷ rest.0, (first.1, rest.1))

module _ (circuit : CircuitTree) where
  abbrev all : List Site
  all = sites_of circuit

  -- ---- paths

  site-path : (site : Site) → Contains all site → Contains (site_paths circuit) site.path
  site-path site h = Contains-map (λ (s : Site). s.path) all site h

  memory-path : (site : Site) (said : FlatMemory) → Contains all site → Contains (memories_at circuit.modules site) said → Contains (memory_paths (memories_of circuit)) said.path
  memory-path site said h own = Contains-map (λ (m : FlatMemory). m.path) (memories_of circuit) said (in-flat_map (memories_at circuit.modules) all site said h own)

  -- a stop's signal is one of its module's own, behind what is declared
  stop-path : (site : Site) (said : OwnStop) → Contains all site → Contains (own_stops (module_at circuit.modules site.number).statements) said → Contains (signal_paths circuit) (joined site.path said.name)
  stop-path site said h own =
      let m = module_at circuit.modules site.number in
      let types = types_of circuit in
      let declared = flat_map (λ (s : Stmt). own_of_kind types site.number s.kind) m.statements in
      let stops = map stop_signal (own_stops m.statements) in
      let stated : Contains (statement_signals types site.number m.statements) (stop_signal said) =
      Contains-append_right declared stops (stop_signal said) (Contains-map stop_signal (own_stops m.statements) said own) in
      let had : Contains (own_signals types site.number m) (stop_signal said) = Contains-append_right (filter_map own_of_port m.ports) (statement_signals types site.number m.statements) (stop_signal said) stated in
      Contains-map (λ (s : FlatSignal). s.path) (flat_signals types circuit.modules all) (flat_signal circuit.modules site (stop_signal said))
      (in-flat_map (signals_at types circuit.modules) all site (flat_signal circuit.modules site (stop_signal said)) h (Contains-map (flat_signal circuit.modules site) (own_signals types site.number m) (stop_signal said) had))

  -- ---- instances

  parent : (site : Site) → Contains all site → (found : Option ℕ) × IsParent circuit site.outer found
  parent site h = by (outer-there circuit site h)
    where
      by : (site.outer ≡ None) ⊎ HolderAmong all site → (found : Option ℕ) × IsParent circuit site.outer found
      by (inl none) = (None, subst (λ (o : Option Outer). IsParent circuit o None) (sym none) tt)
      by (inr holder) =
          let at = at-place (site_paths circuit) holder.outer.path holder.there in
          (Some at.0, subst (λ (o : Option Outer). IsParent circuit o (Some at.0)) (sym holder.is) at.1)

  port : (site : Site) → Contains all site → (said : Port) → Contains (signal_ports (module_at circuit.modules site.number)) said → (found : InstancePort) × IsPortFor circuit site said found
  port site h said own =
      let at = at-place (signal_paths circuit) (joined site.path said.name) (signal-there circuit site said h own) in
      (record { signal = at.0; is_input = is_input said.direction }, record { signal = at.1; goes = refl })

  number : (site : Site) → Contains all site → (said : FlatMemory) → Contains (memories_at circuit.modules site) said → (m : ℕ) × IsMemoryAt circuit said m
  number site h said own =
      let at = at-place (memory_paths (memories_of circuit)) said.path (memory-path site said h own) in
      (at.0, record { number = at.1 })

  instance : (first : ℕ) (site : Site) → Contains all site → (made : Instance) × IsInstanceFor circuit first site made
  instance first site h =
      let above = parent site h in
      let ports = each-made (IsPortFor circuit site) (signal_ports (module_at circuit.modules site.number)) (port site h) in
      let memories = each-made (IsMemoryAt circuit) (memories_at circuit.modules site) (number site h) in (
        record {
          parent = above.0;
          «module» = site.number;
          first = first;
          end = first + signal_count circuit (sites_within circuit site);
          ports = ports.0;
          memories = memories.0;
          clocks = own_clocks circuit.modules site;
        },
        record { parent = above.1; number = refl; begins = refl; ends = refl; ports = ports.1; memories = memories.1; clocks = refl },
      )

  instances : (first : ℕ) (sites : List Site) → ((site : Site) → Contains sites site → Contains all site) → (made : List Instance) × AreInstances circuit first sites made
  instances first [] known = ([], tt)
  instances first (site ∷ sites) known =
      let one = instance first site (known site (here site sites)) in
      let rest = instances (first + length (signals_at (types_of circuit) circuit.modules site)) sites (λ s h. known s (further site sites s h)) in
      (one.0 ∷ rest.0, (one.1, rest.1))

  -- ---- memories and stops

  held : (h : HeldMemory) → Contains (flat_map (held_memories circuit.modules) all) h → (made : MemoryInstance) × IsMemoryFor circuit h.site h.said made
  held h among =
      let site = from-flat_map (held_memories circuit.modules) all h among in
      let said = from-map (held_memory site.of) (memories_at circuit.modules site.of) h site.made in
      subst (λ (x : HeldMemory). (made : MemoryInstance) × IsMemoryFor circuit x.site x.said made) said.made
      (let at = at-place (site_paths circuit) site.of.path (site-path site.of site.among) in
      let own = at-place (memory_paths (memories_of circuit)) said.of.path (memory-path site.of said.of site.among said.among) in (
        record {
          instance = at.0;
          memory = own.0;
          ports = said.of.bank.readers ++ said.of.bank.writers;
          clocks = map said.of.own_clock (said.of.bank.readers ++ said.of.bank.writers);
        },
        record { holder = at.1; number = own.1; ports = refl; clocks = refl },
      ))

  stopped : (h : HeldStop) → Contains (flat_map (held_stops circuit.modules) all) h → (made : StopInstance) × IsStopFor circuit h.site h.said made
  stopped h among =
      let site = from-flat_map (held_stops circuit.modules) all h among in
      let said = from-map (held_stop site.of) (own_stops (module_at circuit.modules site.of.number).statements) h site.made in
      subst (λ (x : HeldStop). (made : StopInstance) × IsStopFor circuit x.site x.said made) said.made
      (let at = at-place (site_paths circuit) site.of.path (site-path site.of site.among) in
      let own = at-place (signal_paths circuit) (joined site.of.path said.of.name) (stop-path site.of said.of site.among said.among) in (
        record { instance = at.0; signal = own.0; clock = clock_of (module_at circuit.modules site.of.number) said.of.asked.clock },
        record { holder = at.1; signal = own.1; clock = refl },
      ))

  -- ---- the tree

  pub tree-there : (tree : InstanceTree) × IsTreeOf circuit tree
  tree-there =
      let made = instances 0 all (λ site h. h) in
      let memories = each-made (λ (h : HeldMemory) (m : MemoryInstance). IsMemoryFor circuit h.site h.said m) (flat_map (held_memories circuit.modules) all) held in
      let stops = each-made (λ (h : HeldStop) (s : StopInstance). IsStopFor circuit h.site h.said s) (flat_map (held_stops circuit.modules) all) stopped in (
        record {
          paths = site_paths circuit;
          instances = made.0;
          memory_paths = memory_paths (memories_of circuit);
          memories = memories.0;
          clocks = clock_inputs (top_ports circuit.modules (place_of circuit.name (module_names circuit)));
          register_clocks = clocks_held (flat_signals (types_of circuit) circuit.modules all);
          stops = stops.0;
        },
        record { paths = refl; instances = made.1; memory_names = refl; memories = memories.1; clocks = refl; register_clocks = refl; stops = stops.1 },
      )
