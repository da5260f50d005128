-- The names of the plan's machines by their numbers.
use Rattle.std.proofs.Common.{◌≡◌, ℕ, suc, ◌+◌, ◌-◌, ◌<◌, ◌≤◌, List, [], ◌++◌, None, length, map, codes, get_or, take, drop, sym, ◌∙◌, ap, arith}
use Rattle.std.specs.Prelude.{is_none}
use Rattle.std.proofs.lemmas.List.{get_or-append-add, get_or-drop, get_or-map, get_or_append_left, length-append, length-map, length-take-le, take-append-drop}
use Rattle.gg_flat.specs.Line.{value_at}
use Rattle.gg_flat_tree.specs.Tree.{path_at}
use Rattle.gg_order.specs.Design.{Ordered}
use Rattle.gg_partfile.specs.declared.request.BridgeEntry.{BridgeEntry}
use Rattle.gg_partfile.specs.declared.request.Request.{Request}
use Rattle.gg_cut_plan.specs.declared.listed.Listed.{Listed}
use Rattle.gg_cut_plan.specs.Listed.{listed_of, instance_of}
use Rattle.gg_cut_plan.specs.Plan.{entry_at, machine_names, open_tray_names}
use Rattle.gg_cut_plan.specs.Ports.{Bridges, undriven, unseen, first_bridge, giver_of, keeper_of, machine_end, open_ins, open_outs, output_count, plan_bridges}
use Rattle.gg_bits.specs.Lists.{count_below}
use Rattle.gg_cut_plan.proofs.PortLemmas.{giver-open, keeper-open, tray-few}
use Rattle.gg_cut_reference.proofs.FittingLemmas.OpenLemmas.{ins-count, in-place, outs-count, out-place, stop-before}

-- ---- three lists

module _ (units sources trays : List (List ℕ)) where
  at-unit : (n : ℕ) → n < length units → path_at (units ++ sources ++ trays) n ≡ path_at units n
  at-unit n lt = get_or_append_left (units ++ sources) trays [] n (omega (arith, lt, length-append units sources)) ∙ get_or_append_left units sources [] n lt

  at-source : (k : ℕ) → k < length sources → path_at (units ++ sources ++ trays) (length units + k) ≡ path_at sources k
  at-source k lt = get_or_append_left (units ++ sources) trays [] (length units + k) (omega (arith, lt, length-append units sources)) ∙ get_or-append-add units sources k []

  at-tray : (k : ℕ) → path_at (units ++ sources ++ trays) (length units + length sources + k) ≡ path_at trays k
  at-tray k =
      let place : length units + length sources + k ≡ length (units ++ sources) + k = omega (arith, length-append units sources) in
      ap (path_at (units ++ sources ++ trays)) place ∙ get_or-append-add (units ++ sources) trays k []

-- ---- the plan's

module _ (design : Ordered) (request : Request) where
  abbrev listed : Listed
  listed = listed_of design.tree request

  abbrev bridges : Bridges
  bridges = plan_bridges design.circuit design.tree request

  abbrev in_name : ℕ → List ℕ
  in_name s = codes "in:" ++ path_at design.circuit.paths s

  abbrev out_name : ℕ → List ℕ
  out_name s = codes "out:" ++ path_at design.circuit.paths s

  abbrev halt_name : ℕ → List ℕ
  halt_name s = codes "halt:" ++ path_at design.circuit.paths s

  abbrev bridge_name : BridgeEntry → List ℕ
  bridge_name entry = codes "bridge:" ++ entry.name

  abbrev units : List (List ℕ)
  units = request.units ++ map (path_at design.tree.memory_paths) listed.memories

  abbrev sources : List (List ℕ)
  sources = map in_name (open_ins design.circuit request)

  abbrev trays : List (List ℕ)
  trays = open_tray_names design request

  abbrev outs : List ℕ
  outs = open_outs design.circuit (output_count design) request

  abbrev stops : List ℕ
  stops = drop (output_count design) design.circuit.outs

  units-count : suc (length units) ≡ bridges.first
  units-count =
      omega (
        arith,
        length-append request.units (map (path_at design.tree.memory_paths) listed.memories),
        length-map listed.memories (path_at design.tree.memory_paths),
        length-map request.units (instance_of design.tree),
      )

  sources-count : length sources ≡ count_below (undriven bridges) bridges.ins
  sources-count = length-map (open_ins design.circuit request) in_name ∙ sym (ins-count design.circuit design.tree request)

  trays-count : length trays ≡ count_below (unseen bridges) bridges.outs
  trays-count = omega (arith, length-append (map out_name outs) (map halt_name stops), length-map outs out_name, length-map stops halt_name, outs-count design.circuit design.tree request)

  front-count : suc (length (units ++ sources ++ trays)) ≡ first_bridge bridges
  front-count = omega (arith, units-count, sources-count, trays-count, length-append units sources, length-append (units ++ sources) trays)

  pub names-count : length (machine_names design request listed) ≡ machine_end bridges
  names-count = omega (arith, front-count, length-append (units ++ sources ++ trays) (map bridge_name request.bridges), length-map request.bridges bridge_name)

  -- names before those of the bridges
  at-front : (n : ℕ) → n < length (units ++ sources ++ trays) → path_at (machine_names design request listed) (suc n) ≡ path_at (units ++ sources ++ trays) n
  at-front n lt = get_or_append_left (units ++ sources ++ trays) (map bridge_name request.bridges) [] n lt

  pub bridge-named : (k : ℕ) → k < length request.bridges → path_at (machine_names design request listed) (first_bridge bridges + k) ≡ codes "bridge:" ++ (entry_at request.bridges k).name
  bridge-named k lt =
      let place : first_bridge bridges + k ≡ suc (length (units ++ sources ++ trays) + k) = omega (arith, front-count) in
      ap (path_at (machine_names design request listed)) place
      ∙ get_or-append-add (units ++ sources ++ trays) (map bridge_name request.bridges) k []
      ∙ get_or-map bridge_name request.bridges k (record { name = []; sees = []; drives = [] }) [] lt

  -- the source of an input that no bridge drives
  pub source-named : (p : ℕ) → p < length design.circuit.ins → bridges.driver p ≡ None → path_at (machine_names design request listed) (giver_of bridges p) ≡ codes "in:" ++ path_at design.circuit.paths (value_at design.circuit.ins p)
  source-named p lt none =
      let k = count_below (undriven bridges) p in
      let placed = in-place design.circuit design.tree request p lt (ap is_none none) in
      let within : k < length sources = let low = placed.within in omega (arith, low, length-map (open_ins design.circuit request) in_name) in
      let number : giver_of bridges p ≡ suc (length units + k) = omega (arith, giver-open bridges p none, units-count) in
      ap (path_at (machine_names design request listed)) number
      ∙ at-front (length units + k) (omega (arith, within, length-append units sources, length-append (units ++ sources) trays))
      ∙ at-source units sources trays k within
      ∙ get_or-map in_name (open_ins design.circuit request) k 0 [] placed.within
      ∙ ap in_name placed.is

  -- the name of the tray of an out-signal that no bridge sees is that at its place among the trays
  at-keeper : (p : ℕ) → p < length design.circuit.outs → bridges.viewer p ≡ None → path_at (machine_names design request listed) (keeper_of bridges p) ≡ path_at trays (count_below (unseen bridges) p)
  at-keeper p lt none =
      let k = count_below (unseen bridges) p in
      let number : keeper_of bridges p ≡ suc (length units + length sources + k) = omega (arith, keeper-open bridges p none, units-count, sources-count) in
      ap (path_at (machine_names design request listed)) number
      ∙ at-front (length units + length sources + k) (omega (arith, tray-few bridges p lt none, number, front-count))
      ∙ at-tray units sources trays k

  pub output-named : (p : ℕ) → p < length design.circuit.outs → p < output_count design → bridges.viewer p ≡ None → path_at (machine_names design request listed) (keeper_of bridges p) ≡ codes "out:" ++ path_at design.circuit.paths (value_at design.circuit.outs p)
  output-named p lt less none =
      let k = count_below (unseen bridges) p in
      let placed = out-place design.circuit design.tree request p less (ap is_none none) in
      at-keeper p lt none
      ∙ get_or_append_left (map out_name outs) (map halt_name stops) [] k (let within = placed.within in omega (arith, within, length-map outs out_name))
      ∙ get_or-map out_name outs k 0 [] placed.within
      ∙ ap out_name placed.is

  pub stop-named : (p : ℕ) → p < length design.circuit.outs → output_count design ≤ p → bridges.viewer p ≡ None → path_at (machine_names design request listed) (keeper_of bridges p) ≡ codes "halt:" ++ path_at design.circuit.paths (value_at design.circuit.outs p)
  stop-named p lt ge none =
      let k : ℕ = p - output_count design in
      let whole : output_count design + k ≡ p = omega (arith, ge) in
      let counted = length-take-le (output_count design) design.circuit.outs (omega arith) in
      let both = sym (length-append (take (output_count design) design.circuit.outs) stops) ∙ ap length (take-append-drop (output_count design) design.circuit.outs) in
      let inside : k < length stops = omega (arith, lt, ge, counted, both) in
      let place : length outs + k ≡ length (map out_name outs) + k = omega (arith, length-map outs out_name) in
      at-keeper p lt none
      ∙ ap (λ q. path_at trays (count_below (unseen bridges) q)) (sym whole)
      ∙ ap (path_at trays) (stop-before design.circuit design.tree request k ∙ place)
      ∙ get_or-append-add (map out_name outs) (map halt_name stops) k []
      ∙ get_or-map halt_name stops k 0 [] inside
      ∙ ap halt_name (get_or-drop (output_count design) design.circuit.outs k 0)
      ∙ ap (λ q. halt_name (get_or design.circuit.outs q 0)) whole

  -- the hub, a unit or a listed memory
  pub unit-named : (n : ℕ) → suc n < bridges.first → path_at (machine_names design request listed) (suc n) ≡ path_at (request.units ++ map (path_at design.tree.memory_paths) listed.memories) n
  unit-named n less =
      let inside : n < length units = omega (arith, less, units-count) in
      at-front n (omega (arith, inside, length-append units sources, length-append (units ++ sources) trays)) ∙ at-unit units sources trays n inside
