-- The whole flat circuit: its signals, then its memories, then its ports, its stops and its clocks.
use Rattle.std.proofs.Common.{◌≡◌, ℕ, ◌<◌, List, [], ◌∷◌, ◌++◌, length, map, take, get_or, ◌+◌, append_assoc, Option, Some, refl, sym, ap, ◌∙◌, subst, arith}
use Rattle.std.specs.Prelude.{slice_index_or, All}
use Rattle.std.proofs.lemmas.List.{get_or_append_left, get_or_push, length-append, length-map, map-append, take_more}
use Rattle.std.proofs.Common.{below_more}
use Rattle.gg_ast.specs.declared.module.Direction.TheVariants as direction
use Rattle.std.proofs.lemmas.List.Elements.{filter_map-append}
use Rattle.std.proofs.lemmas.Simd.{map-map}
use Rattle.gg_ast.specs.declared.module.Direction.{Direction}
use Rattle.gg_ast.specs.declared.module.Port.{Port}
use Rattle.gg_ast.specs.Tree.{ModuleTree}
use Rattle.gg_elab_sites.specs.Sites.{Site, module_at, all_sites, sites_from}
use Rattle.gg_flat.specs.declared.memory.Memory.{Memory}
use Rattle.gg_bits.specs.Shape.{Shape, shape}
use Rattle.gg_flat.specs.declared.piece.Driver.TheVariants.{Input}
use Rattle.gg_flat.specs.declared.piece.Register.{Register}
use Rattle.gg_flat.specs.declared.piece.Signal.{Signal}
use Rattle.gg_flat.specs.Circuit.{FlatCircuit, signal_shapes, driver_at}
use Rattle.gg_flat.specs.Line.{shape_at, HasType}
use Rattle.gg_flat.specs.WellFormed.{IsRegister}
use Rattle.gg_elab_tree.specs.inside.Fitting.{FitsDriver, AreFitting}
use Rattle.gg_elab.specs.inside.Building.{IsSoFar, HasMemories}
use Rattle.gg_flat_tree.specs.Tree.{joined}
use Rattle.gg_types.specs.Clocks.{clock_inputs}
use Rattle.gg_elab_sites.specs.declared.digest.Digest.{Digest}
use Rattle.gg_elab_sites.specs.declared.sites.Place.{Place}
use Rattle.gg_elab_sites.specs.declared.stops.OwnStop as kept_stop
use Rattle.gg_elab_sites.specs.Flat.{FlatSignal, FlatMemory, flat_signals, flat_memories, stop_paths, stop_paths_at}
use Rattle.gg_elab_sites.specs.IsFlat.{IsFlatOf, IsMemoryOf, signals_of, memory_paths, number_of, port_name, port_names, top_ports}
use Rattle.gg_elab_sites.specs.Meaning.{Signals, Bindings}
use Rattle.gg_elab_sites.specs.Signals.{OwnStop, Types}
use Rattle.gg_elab_sites.specs.inside.Views.{IsDigest, own_stop_of, site_of}
use Rattle.gg_elab_sites.proofs.FlatLemmas.{one_more}

-- what a circuit's names stand for by its types, its signals and the paths of its memories
abbrev bound : Types → Signals → List (List ℕ) → Bindings
bound types signals memories = record { types = types; signals = signals; memories = memories }

pub whole : (types : Types) (all : List FlatSignal) (banks : List FlatMemory) (ports : List Port) (stops : List (List ℕ)) (table : Signals) (memories : List (List ℕ)) (one two three last : FlatCircuit) (inputs : ℕ) → table ≡ signals_of all → memories ≡ memory_paths banks → IsSoFar (bound types table memories) all one inputs → HasMemories table.paths banks one two → three.ins ≡ two.ins ++ map (number_of table.paths) (port_names direction.Input ports) → three.outs ≡ two.outs ++ map (number_of table.paths) (port_names direction.Output ports) → three ≡ record two { ins = three.ins; outs = three.outs } → last ≡ record three { outs = three.outs ++ map (number_of table.paths) stops; clocks = length (clock_inputs ports) } → IsFlatOf types all banks ports stops last
whole types all banks ports stops table memories one two three last inputs same listed far has ins outs rest ends =
    let so = subst (λ (t : Signals). IsSoFar (bound types t (memory_paths banks)) all one inputs) same (subst (λ (m : List (List ℕ)). IsSoFar (bound types table m) all one inputs) listed far) in
    let numbers : table.paths ≡ (signals_of all).paths = ap (λ (t : Signals). t.paths) same in
    let no_ins : two.ins ≡ [] = ap (λ (f : FlatCircuit). f.ins) has.rest ∙ far.no_ins in
    let no_outs : two.outs ≡ [] = ap (λ (f : FlatCircuit). f.outs) has.rest ∙ far.no_outs in
    let outputs : three.outs ≡ map (number_of table.paths) (port_names direction.Output ports) = outs ∙ ap (λ l. l ++ map (number_of table.paths) (port_names direction.Output ports)) no_outs in
    let is : last ≡ record one { memories = two.memories; ins = three.ins; outs = three.outs ++ map (number_of table.paths) stops; clocks = length (clock_inputs ports) } =
    ends
    ∙ ap (λ (f : FlatCircuit). record f { outs = three.outs ++ map (number_of table.paths) stops; clocks = length (clock_inputs ports) }) rest
    ∙ ap (λ (f : FlatCircuit). record f { ins = three.ins; outs = three.outs ++ map (number_of table.paths) stops; clocks = length (clock_inputs ports) }) has.rest in
    subst (λ (f : FlatCircuit). IsFlatOf types all banks ports stops f) (sym is) (record {
      paths = so.paths;
      shapes = so.shapes;
      drivers = so.drivers;
      register_count = so.register_count;
      memory_count = has.count;
      memories = λ m said any lt. subst (λ (p : List (List ℕ)). IsMemoryOf p (slice_index_or banks m said) (slice_index_or two.memories m any)) numbers (has.each m said any lt);
      ins = ins ∙ ap (λ l. l ++ map (number_of table.paths) (port_names direction.Input ports)) no_ins ∙ ap (λ p. map (number_of p) (port_names direction.Input ports)) numbers;
      outs =
          ap (λ l. l ++ map (number_of table.paths) stops) outputs
          ∙ sym (map-append (number_of table.paths) (port_names direction.Output ports) stops)
          ∙ ap (λ p. map (number_of p) (port_names direction.Output ports ++ stops)) numbers;
      clocks = refl;
    })

-- ---- memories

-- the memories that were added to an old circuit are those of the new one
pub memories-own : (paths : List (List ℕ)) (said : List FlatMemory) (old new : FlatCircuit) → HasMemories paths said old new → HasMemories paths said new new
memories-own paths said old new h = record { rest = refl; count = h.count; each = h.each }

pub memories-on : (paths : List (List ℕ)) (said all : List FlatMemory) (one two three : FlatCircuit) → HasMemories paths said one two → HasMemories paths all two three → HasMemories paths all one three
memories-on paths said all one two three h g = record {
  rest = g.rest ∙ ap (λ (f : FlatCircuit). record f { memories = three.memories }) h.rest;
  count = g.count;
  each = g.each;
}

-- one more memory
pub memories-push : (paths : List (List ℕ)) (said : List FlatMemory) (x : FlatMemory) (base old new : FlatCircuit) (memory : Memory) → HasMemories paths said base old → new ≡ record old { memories = old.memories ++ memory ∷ [] } → IsMemoryOf paths x memory → HasMemories paths (said ++ x ∷ []) base new
memories-push paths said x base old new memory h is of = record {
  rest = is ∙ ap (λ (f : FlatCircuit). record f { memories = old.memories ++ memory ∷ [] }) h.rest ∙ ap (λ (l : List Memory). record base { memories = l }) (sym items);
  count = ap (λ (l : List Memory). length l) items ∙ omega (arith, length-append old.memories (memory ∷ []), length-append said (x ∷ []), h.count);
  each = λ m other any lt. below_more (λ (m : ℕ). IsMemoryOf paths (slice_index_or (said ++ x ∷ []) m other) (slice_index_or new.memories m any)) (length said) (before other any) (last other any) m (omega (arith, lt, length-append said (x ∷ [])));
}
  where
    items : new.memories ≡ old.memories ++ memory ∷ []
    items = ap (λ (f : FlatCircuit). f.memories) is

    place : (m : ℕ) (other : FlatMemory) (any : Memory) (y : FlatMemory) (z : Memory) → slice_index_or (said ++ x ∷ []) m other ≡ y → slice_index_or new.memories m any ≡ z → IsMemoryOf paths y z → IsMemoryOf paths (slice_index_or (said ++ x ∷ []) m other) (slice_index_or new.memories m any)
    place m other any y z a b k = subst (λ (s : FlatMemory). IsMemoryOf paths s (slice_index_or new.memories m any)) (sym a) (subst (λ (s : Memory). IsMemoryOf paths y s) (sym b) k)

    before : (other : FlatMemory) (any : Memory) (m : ℕ) → m < length said → IsMemoryOf paths (slice_index_or (said ++ x ∷ []) m other) (slice_index_or new.memories m any)
    before other any m lt =
        place m other any _ _ (get_or_append_left said (x ∷ []) other m lt)
        (ap (λ (l : List Memory). slice_index_or l m any) items ∙ get_or_append_left old.memories (memory ∷ []) any m (omega (arith, lt, h.count)))
        (h.each m other any lt)

    last : (other : FlatMemory) (any : Memory) → IsMemoryOf paths (slice_index_or (said ++ x ∷ []) (length said) other) (slice_index_or new.memories (length said) any)
    last other any =
        place (length said) other any x memory (get_or_push said x other (length said) refl)
        (ap (λ (l : List Memory). slice_index_or l (length said) any) items ∙ get_or_push old.memories memory any (length said) h.count) of

-- ---- the top

pub with_top : (types : Types) (modules : List ModuleTree) (o : Option ℕ) (top : ℕ) (sites : List Site) (ports : List Port) (flat : FlatCircuit) → o ≡ Some top → sites ≡ all_sites modules top → ports ≡ (module_at modules top).ports → IsFlatOf types (flat_signals types modules sites) (flat_memories modules sites) ports (stop_paths modules sites) flat → IsFlatOf types (flat_signals types modules (sites_from modules o)) (flat_memories modules (sites_from modules o)) (top_ports modules o) (stop_paths modules (sites_from modules o)) flat
with_top types modules o top sites ports flat is same own h =
    subst (λ (x : Option ℕ). IsFlatOf types (flat_signals types modules (sites_from modules x)) (flat_memories modules (sites_from modules x)) (top_ports modules x) (stop_paths modules (sites_from modules x)) flat) (sym is)
    (subst (λ (l : List Site). IsFlatOf types (flat_signals types modules l) (flat_memories modules l) (module_at modules top).ports (stop_paths modules l) flat) same
    (subst (λ (l : List Port). IsFlatOf types (flat_signals types modules sites) (flat_memories modules sites) l (stop_paths modules sites) flat) own h))

-- ---- ports

-- the numbers of the ports' names, with one more port
pub names-more : (paths : List (List ℕ)) (way : Direction) (before now after : List ℕ) (ports : List Port) (i : ℕ) (p : Port) → i < length ports → p ≡ get_or ports i p → now ≡ before ++ map (number_of paths) (port_names way (take i ports)) → after ≡ now ++ map (number_of paths) (port_names way (p ∷ [])) → after ≡ before ++ map (number_of paths) (port_names way (take (i + 1) ports))
names-more paths way before now after ports i p lt is so step =
    let one = map (number_of paths) (port_names way (p ∷ [])) in
    step
    ∙ ap (λ l. l ++ one) so
    ∙ append_assoc before (map (number_of paths) (port_names way (take i ports))) one
    ∙ ap (λ l. before ++ l) (sym (map-append (number_of paths) (port_names way (take i ports)) (port_names way (p ∷ []))))
    ∙ ap (λ l. before ++ map (number_of paths) l) (sym (filter_map-append (port_name way) (take i ports) (p ∷ [])))
    ∙ ap (λ l. before ++ map (number_of paths) (port_names way l)) (ap (λ y. take i ports ++ y ∷ []) is ∙ sym (take_more ports i p lt))

-- ---- stops

-- the numbers of the stops of the sites up to the next one
pub stops-more : (modules : List ModuleTree) (types : Types) (paths : List (List ℕ)) (base old new : FlatCircuit) (places : List Place) (i : ℕ) (p : Place) (digest : Digest) → i < length places → p ≡ get_or places i p → IsDigest types modules p.number digest → old ≡ record base { outs = base.outs ++ map (number_of paths) (stop_paths modules (map site_of (take i places))) } → new ≡ record old { outs = old.outs ++ map (λ (stop : kept_stop.OwnStop). number_of paths (joined p.path stop.name)) digest.stops.items } → new ≡ record base { outs = base.outs ++ map (number_of paths) (stop_paths modules (map site_of (take (i + 1) places))) }
stops-more modules types paths base old new places i p digest lt is d h added =
    added
    ∙ ap (λ (f : FlatCircuit). record f { outs = f.outs ++ next }) h
    ∙ ap (λ (l : List ℕ). record base { outs = l }) (append_assoc base.outs before next ∙ ap (λ l. base.outs ++ l) (ap (λ l. before ++ l) numbers ∙ joined_up))
  where
    before : List ℕ
    before = map (number_of paths) (stop_paths modules (map site_of (take i places)))

    next : List ℕ
    next = map (λ (stop : kept_stop.OwnStop). number_of paths (joined p.path stop.name)) digest.stops.items

    here : stop_paths_at modules (site_of p) ≡ map (λ (stop : kept_stop.OwnStop). joined p.path stop.name) digest.stops.items
    here = ap (map (λ (stop : OwnStop). joined p.path stop.name)) (sym d.stops) ∙ map-map (λ (stop : OwnStop). joined p.path stop.name) own_stop_of digest.stops.items

    numbers : next ≡ map (number_of paths) (stop_paths_at modules (site_of p))
    numbers = sym (ap (map (number_of paths)) here ∙ map-map (number_of paths) (λ (stop : kept_stop.OwnStop). joined p.path stop.name) digest.stops.items)

    joined_up : before ++ map (number_of paths) (stop_paths_at modules (site_of p)) ≡ map (number_of paths) (stop_paths modules (map site_of (take (i + 1) places)))
    joined_up =
        sym (map-append (number_of paths) (stop_paths modules (map site_of (take i places))) (stop_paths_at modules (site_of p)))
        ∙ ap (map (number_of paths)) (sym (one_more (stop_paths_at modules) places i p lt is))

-- ---- what may be connected

pub fitting_whole : (types : Types) (all : List FlatSignal) (table : Signals) (memories : List (List ℕ)) (one three : FlatCircuit) (inputs : ℕ) → table ≡ signals_of all → IsSoFar (bound types table memories) all one inputs → three.signals ≡ one.signals → three.registers ≡ one.registers → AreFitting three
fitting_whole types all table memories one three inputs same far signals registers =
    let shapes : signal_shapes three ≡ table.shapes = ap (λ (l : List Signal). map (λ x. shape x.ty) l) signals ∙ far.shapes ∙ sym (ap (λ (t : Signals). t.shapes) same) in
    let count : length three.signals ≡ length all =
    ap (λ (l : List Signal). length l) signals ∙ sym (length-map one.signals (λ (x : Signal). shape x.ty)) ∙ ap (λ (l : List Shape). length l) far.shapes ∙ length-map all (λ (x : FlatSignal). x.shape) in
    let listed : signal_shapes three ≡ map (λ (x : FlatSignal). x.shape) all = shapes ∙ ap (λ (t : Signals). t.shapes) same in
    record {
      drivers = λ s lt.
          subst (λ (l : List Shape). FitsDriver l (shape_at (signal_shapes three) s) (driver_at three s)) (sym shapes)
          (subst (λ (l : List Shape). FitsDriver table.shapes (shape_at l s) (driver_at three s)) (sym listed)
          (subst (λ (l : List Signal). FitsDriver table.shapes (shape_at (map (λ (x : FlatSignal). x.shape) all) s) (slice_index_or (map (λ x. x.driver) l) s (Input 0))) (sym signals)
          (far.fitting s (omega (arith, lt, count)))));
      registers = subst (λ (l : List Shape). All (IsRegister (HasType l)) three.registers) (sym shapes) (subst (λ (l : List Register). All (IsRegister (HasType table.shapes)) l) (sym registers) far.registers_fit);
    }
