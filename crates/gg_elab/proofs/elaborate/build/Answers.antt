use Rattle.std.proofs.Common.{◌≡◌, ℕ, ◌<◌, List, [], ◌++◌, map, length, get_or, sym, ap, ◌∙◌, subst, arith}
use Rattle.std.proofs.lemmas.List.{length-map, get_or_default}
use Rattle.gg_ast.specs.Tree.{ModuleTree, CircuitTree, module_names, empty_module}
use Rattle.gg_ast.specs.Places.{place_of}
use Rattle.gg_ast.proofs.NamePlaces.{place_of-below}
use Rattle.gg_elab_sites.specs.Sites.{Site, module_at, sites_of}
use Rattle.gg_flat.specs.Circuit.{FlatCircuit}
use Rattle.gg_elab_sites.specs.Known.{types_of}
use Rattle.gg_elab_sites.specs.inside.Views.{site_of, table_bindings, table_signals}
use Rattle.gg_elab_sites.specs.declared.sites.Place.{Place}
use Rattle.gg_elab.specs.inside.Building.{IsSoFar, HasMemories}
use Rattle.gg_types.specs.Clocks.{clock_inputs}
use Rattle.gg_elab_sites.specs.Flat.{FlatSignal, flat_signals, flat_memories, stop_paths}
use Rattle.gg_elab_sites.specs.IsFlat.{signals_of, memory_paths, number_of, top_ports}
use Rattle.gg_elab.proofs.WholeLemmas.{whole, with_top, fitting_whole}
use Rattle.gg_elab_tree.proofs.TreeJoinLemmas.{sites-of, is-some}
use Rattle.gg_elab_sites.specs.Signals.{Types}
use Rattle.gg_elab_sites.specs.Meaning.{Signals}
use Rattle.gg_elab_sites.proofs.NameLemmas.{Differ}
use Rattle.gg_elab.proofs.elaborate.build.Goals as goal

abbrev signal_paths_of : Types → List ModuleTree → List Site → List (List ℕ)
signal_paths_of types modules sites = (signals_of (flat_signals types modules sites)).paths

pub places-requires-clause-top : goal.places-requires-clause-top
places-requires-clause-top c =
    let circuit = c.args.typed.now.circuit in
    omega (arith, place_of-below circuit.name (module_names circuit) c.args.top c.requires.top, length-map circuit.modules (λ (m : ModuleTree). m.name))

pub bounds-modules-top : goal.bounds-modules-top
bounds-modules-top c =
    let circuit = c.args.typed.now.circuit in
    let same : length c.modules-modules.result.now ≡ length circuit.modules = ap (λ (l : List ModuleTree). length l) (c.modules-modules.ensures ∙ ap (λ (k : CircuitTree). k.modules) (c.circuit.ensures.circuit ∙ c.names.ensures.names)) in
    omega (arith, place_of-below circuit.name (module_names circuit) c.args.top c.requires.top, length-map circuit.modules (λ (m : ModuleTree). m.name), same)

pub returns-clause-flat : goal.returns-clause-flat
returns-clause-flat c =
    let circuit = c.args.typed.now.circuit in
    let modules = circuit.modules in
    let types = types_of circuit in
    let places = c.in_ok-places.places.items in
    let table = c.in_ok-table.table in
    let all = flat_signals types modules (map site_of places) in
    let banks = flat_memories modules (map site_of places) in
    let one = c.add_sites.new.piece in
    let two = c.add_all_memories.new.piece in
    let three = c.add_ports.new.piece in
    let same : table_signals table ≡ signals_of all = c.in_ok-table.ensures.signals ∙ ap (λ (l : List Place). signals_of (flat_signals types modules (map site_of l))) c.as_slice.ensures.value in
    let listed : table.memories ≡ memory_paths banks = c.in_ok-table.ensures.memories ∙ ap (λ (l : List Place). memory_paths (flat_memories modules (map site_of l))) c.as_slice.ensures.value in
    let far : IsSoFar (table_bindings types table) all one c.in_ok-add_sites.ensures.0 =
    subst (λ (l : List Place). IsSoFar (table_bindings types table) (flat_signals types modules (map site_of l)) one c.in_ok-add_sites.ensures.0) c.as_slice-2.ensures.value c.in_ok-add_sites.ensures.1 in
    let has : HasMemories table.paths banks one two =
    subst (λ (l : List Place). HasMemories table.paths (flat_memories modules (map site_of l)) one two) c.as_slice-3.ensures.value c.in_ok-add_all_memories.ensures in
    let below : c.args.top < length modules = omega (arith, place_of-below circuit.name (module_names circuit) c.args.top c.requires.top, length-map modules (λ (m : ModuleTree). m.name)) in
    let body : c.index-modules-top.result ≡ module_at modules c.args.top =
    c.index-modules-top.is ∙ ap (λ (ms : List ModuleTree). get_or ms c.args.top c.index-modules-top.result) (c.modules-modules.ensures ∙ ap (λ (k : CircuitTree). k.modules) (c.circuit.ensures.circuit ∙ c.names.ensures.names))
    ∙ get_or_default modules c.args.top c.index-modules-top.result (empty_module 0 []) below in
    let ends : c.set_clocks.new.self ≡ record three { outs = three.outs ++ map (number_of table.paths) (stop_paths modules (map site_of places)); clocks = length (clock_inputs c.ports-ports.result.now) } =
    c.set_clocks.ensures
    ∙ ap (λ n. record c.add_stops.new.piece { clocks = n }) c.in_ok-clock_count.ensures
    ∙ ap (λ (f : FlatCircuit). record f { clocks = length (clock_inputs c.ports-ports.result.now) }) c.in_ok-add_stops.ensures
    ∙ ap (λ (l : List Place). record three { outs = three.outs ++ map (number_of table.paths) (stop_paths modules (map site_of l)); clocks = length (clock_inputs c.ports-ports.result.now) }) c.as_slice-4.ensures.value in
    with_top types modules (place_of circuit.name (module_names circuit)) c.args.top (map site_of places) c.ports-ports.result.now c.set_clocks.new.self c.requires.top c.in_ok-places.ensures.sites (c.ports-ports.ensures ∙ ap (λ (m : ModuleTree). m.ports) body)
    (whole types all banks c.ports-ports.result.now (stop_paths modules (map site_of places)) (table_signals table) table.memories one two three c.set_clocks.new.self c.in_ok-add_sites.ensures.0 same listed far has c.in_ok-add_ports.ensures.ins c.in_ok-add_ports.ensures.outs c.in_ok-add_ports.ensures.rest ends)

pub returns-clause-fits : goal.returns-clause-fits
returns-clause-fits c =
    let circuit = c.args.typed.now.circuit in
    let modules = circuit.modules in
    let types = types_of circuit in
    let places = c.in_ok-places.places.items in
    let table = c.in_ok-table.table in
    let all = flat_signals types modules (map site_of places) in
    let one = c.add_sites.new.piece in
    let two = c.add_all_memories.new.piece in
    let three = c.add_ports.new.piece in
    let same : table_signals table ≡ signals_of all = c.in_ok-table.ensures.signals ∙ ap (λ (l : List Place). signals_of (flat_signals types modules (map site_of l))) c.as_slice.ensures.value in
    let far : IsSoFar (table_bindings types table) all one c.in_ok-add_sites.ensures.0 =
    subst (λ (l : List Place). IsSoFar (table_bindings types table) (flat_signals types modules (map site_of l)) one c.in_ok-add_sites.ensures.0) c.as_slice-2.ensures.value c.in_ok-add_sites.ensures.1 in
    let signals : c.set_clocks.new.self.signals ≡ three.signals = ap (λ (f : FlatCircuit). f.signals) c.set_clocks.ensures ∙ ap (λ (f : FlatCircuit). f.signals) c.in_ok-add_stops.ensures in
    let registers : c.set_clocks.new.self.registers ≡ three.registers = ap (λ (f : FlatCircuit). f.registers) c.set_clocks.ensures ∙ ap (λ (f : FlatCircuit). f.registers) c.in_ok-add_stops.ensures in
    fitting_whole types all (table_signals table) table.memories one c.set_clocks.new.self c.in_ok-add_sites.ensures.0 same far
    (signals ∙ ap (λ (f : FlatCircuit). f.signals) c.in_ok-add_ports.ensures.rest ∙ ap (λ (f : FlatCircuit). f.signals) c.in_ok-add_all_memories.ensures.rest)
    (registers ∙ ap (λ (f : FlatCircuit). f.registers) c.in_ok-add_ports.ensures.rest ∙ ap (λ (f : FlatCircuit). f.registers) c.in_ok-add_all_memories.ensures.rest)

pub tree_of-requires-clause-top : goal.tree_of-requires-clause-top
tree_of-requires-clause-top c =
    let circuit = c.args.typed.now.circuit in
    is-some (place_of circuit.name (module_names circuit)) c.args.top c.requires.top

pub tree_of-requires-clause-sites : goal.tree_of-requires-clause-sites
tree_of-requires-clause-sites c =
    let circuit = c.args.typed.now.circuit in
    subst (λ (l : List Place). map site_of l ≡ sites_of circuit) (sym c.as_slice-5.ensures.value)
    (sites-of circuit.modules (place_of circuit.name (module_names circuit)) c.args.top (map site_of c.in_ok-places.places.items) c.requires.top c.in_ok-places.ensures.sites)

pub tree_of-requires-clause-signals : goal.tree_of-requires-clause-signals
tree_of-requires-clause-signals c =
    let circuit = c.args.typed.now.circuit in
    let modules = circuit.modules in
    let types = types_of circuit in
    let places = c.in_ok-places.places.items in
    let sites = sites-of modules (place_of circuit.name (module_names circuit)) c.args.top (map site_of places) c.requires.top c.in_ok-places.ensures.sites in
    let same : table_signals c.in_ok-table.table ≡ signals_of (flat_signals types modules (map site_of places)) = c.in_ok-table.ensures.signals ∙ ap (λ (l : List Place). signals_of (flat_signals types modules (map site_of l))) c.as_slice.ensures.value in
    ap (λ (s : Signals). s.paths) same ∙ ap (λ (l : List Site). signal_paths_of types modules l) sites

pub tree_of-requires-clause-memories : goal.tree_of-requires-clause-memories
tree_of-requires-clause-memories c =
    let circuit = c.args.typed.now.circuit in
    let modules = circuit.modules in
    let places = c.in_ok-places.places.items in
    let sites = sites-of modules (place_of circuit.name (module_names circuit)) c.args.top (map site_of places) c.requires.top c.in_ok-places.ensures.sites in
    c.in_ok-table.ensures.memories ∙ ap (λ (l : List Place). memory_paths (flat_memories modules (map site_of l))) c.as_slice.ensures.value
    ∙ ap (λ (l : List Site). memory_paths (flat_memories modules l)) sites

pub table_of-requires-clause-signals : goal.table_of-requires-clause-signals
table_of-requires-clause-signals c =
    let circuit = c.args.typed.now.circuit in
    let modules = circuit.modules in
    let sites = sites-of modules (place_of circuit.name (module_names circuit)) c.args.top (map site_of c.in_ok-places.places.items) c.requires.top c.in_ok-places.ensures.sites in
    subst (λ (l : List Place). Differ (map (λ (x : FlatSignal). x.path) (flat_signals (types_of circuit) modules (map site_of l)))) (sym c.as_slice.ensures.value)
    (subst (λ (l : List Site). Differ (map (λ (x : FlatSignal). x.path) (flat_signals (types_of circuit) modules (l)))) (sym sites) c.distinct.ensures.signals)

pub table_of-requires-clause-memories : goal.table_of-requires-clause-memories
table_of-requires-clause-memories c =
    let circuit = c.args.typed.now.circuit in
    let modules = circuit.modules in
    let sites = sites-of modules (place_of circuit.name (module_names circuit)) c.args.top (map site_of c.in_ok-places.places.items) c.requires.top c.in_ok-places.ensures.sites in
    subst (λ (l : List Place). Differ (memory_paths (flat_memories modules (map site_of l)))) (sym c.as_slice.ensures.value)
    (subst (λ (l : List Site). Differ (memory_paths (flat_memories modules (l)))) (sym sites) c.distinct.ensures.memories)

pub add_sites-requires-clause-distinct : goal.add_sites-requires-clause-distinct
add_sites-requires-clause-distinct c =
    let circuit = c.args.typed.now.circuit in
    let modules = circuit.modules in
    let sites = sites-of modules (place_of circuit.name (module_names circuit)) c.args.top (map site_of c.in_ok-places.places.items) c.requires.top c.in_ok-places.ensures.sites in
    subst (λ (l : List Place). Differ (map (λ (x : FlatSignal). x.path) (flat_signals (types_of circuit) modules (map site_of l)))) (sym c.as_slice-2.ensures.value)
    (subst (λ (l : List Site). Differ (map (λ (x : FlatSignal). x.path) (flat_signals (types_of circuit) modules (l)))) (sym sites) c.distinct.ensures.signals)

pub tree_of-requires-clause-ports : goal.tree_of-requires-clause-ports
tree_of-requires-clause-ports c =
    let circuit = c.args.typed.now.circuit in
    let modules = circuit.modules in
    let below : c.args.top < length modules = omega (arith, place_of-below circuit.name (module_names circuit) c.args.top c.requires.top, length-map modules (λ (m : ModuleTree). m.name)) in
    let body : c.index-modules-top.result ≡ module_at modules c.args.top =
    c.index-modules-top.is ∙ ap (λ (ms : List ModuleTree). get_or ms c.args.top c.index-modules-top.result) (c.modules-modules.ensures ∙ ap (λ (k : CircuitTree). k.modules) (c.circuit.ensures.circuit ∙ c.names.ensures.names))
    ∙ get_or_default modules c.args.top c.index-modules-top.result (empty_module 0 []) below in
    c.ports-ports.ensures ∙ ap (λ (m : ModuleTree). m.ports) body ∙ ap (top_ports modules) (sym c.requires.top)
