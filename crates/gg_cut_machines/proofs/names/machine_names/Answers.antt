use Rattle.std.proofs.Common.{◌≡◌, ◌-◌, ◌<◌, ◌+◌, [], ◌∷◌, ◌++◌, List, ℕ, codes, length, map, take, drop, refl, sym, ◌∙◌, ap, ap₂, arith}
use Rattle.std.proofs.lemmas.List.{length-append, length-drop, take_all}
use Rattle.gg_flat_tree.specs.Tree.{InstanceTree, path_at}
use Rattle.gg_partfile.specs.declared.request.BridgeEntry.{BridgeEntry}
use Rattle.gg_cut_plan.specs.declared.listed.Listed.{Listed}
use Rattle.gg_cut_plan.specs.Ports.{open_ins, open_outs, output_count, ports_of, undriven, unseen}
use Rattle.gg_cut_split.specs.inside.Ends.{at_places}
use Rattle.gg_cut_machines.proofs.NameLemmas.{ins-open, names-joined, names-same, open-few, outs-open, ports-named}
use Rattle.gg_cut_machines.proofs.names.machine_names.Goals as goal

take-front : (xs ys : List ℕ) (n : ℕ) → n ≡ length xs → take n (xs ++ ys) ≡ xs
take-front [] ys n e = ap (λ k. take k ys) e
take-front (x ∷ xs) ys n e = ap (λ k. take k (x ∷ (xs ++ ys))) e ∙ ap (λ l. x ∷ l) (take-front xs ys (length xs) refl)

drop-front : (xs ys : List ℕ) (n : ℕ) → n ≡ length xs → drop n (xs ++ ys) ≡ ys
drop-front [] ys n e = ap (λ k. drop k ys) e
drop-front (x ∷ xs) ys n e = ap (λ k. drop k (x ∷ (xs ++ ys))) e ∙ drop-front xs ys (length xs) refl

pub returns : goal.returns
returns c =
    let draft = c.args.draft.now in
    let design = draft.design.now in
    let request = draft.request.now in
    let is = c.requires in
    let f = c.piece-piece.ensures.circuit in
    let ins =
    c.as_slice-ins.ensures ∙ is.ends.ins ∙ ap (λ (l : Listed). at_places (undriven (ports_of design.circuit design.tree l request.bridges)) design.circuit.ins) is.listed ∙ ins-open design request in
    let outs =
    c.as_slice-outs.ensures ∙ is.ends.outs ∙ ap (λ (l : Listed). at_places (unseen (ports_of design.circuit design.tree l request.bridges)) design.circuit.outs) is.listed ∙ outs-open design request in
    let many = ap length c.stops.ensures ∙ ap (λ (t : InstanceTree). length t.stops) c.tree-tree.ensures.tree in
    let left = length-drop (output_count design) design.circuit.outs in
    let outputs : c.saturating_sub-outputs.result ≡ length (open_outs design.circuit (output_count design) request) =
    omega (arith, c.saturating_sub-outputs.ensures, ap length outs, length-append (open_outs design.circuit (output_count design) request) (drop (output_count design) design.circuit.outs), many, left, open-few design request) in
    names-joined c.in_ok-hub.hub _ _ _ _ _ _ c.push_units.new.names.items c.push_memories.new.names.items c.push_ports.new.names.items c.push_ports-2.new.names.items c.push_ports-3.new.names.items c.push_bridges.new.names.items c.push.new.self.items
    (c.in_ok-push.ensures.items ∙ ap (λ l. l ++ c.in_ok-hub.hub ∷ []) c.new-names.ensures.items) c.in_ok-push_units.ensures c.in_ok-push_memories.ensures c.in_ok-push_ports.ensures c.in_ok-push_ports-2.ensures c.in_ok-push_ports-3.ensures c.in_ok-push_bridges.ensures
    ∙ names-same c.in_ok-hub.hub (codes "hub:") _ _ _ _ _ _ _ _ _ _ _ _ (c.in_ok-hub.ensures {u = tt}) c.as_slice-units.ensures
    (ap (λ (t : InstanceTree). map (path_at t.memory_paths) c.as_slice-memories.result.now) c.tree-tree.ensures.tree ∙ ap (map (path_at design.tree.memory_paths)) c.as_slice-memories.ensures)
    (ports-named c.piece-piece.result.now design.circuit f (codes "in:") c.as_slice-ins.result.now (open_ins design.circuit request) ins)
    (ports-named c.piece-piece.result.now design.circuit f (codes "out:") (take c.saturating_sub-outputs.result c.as_slice-outs.result.now) (open_outs design.circuit (output_count design) request)
    (ap (take c.saturating_sub-outputs.result) outs ∙ take-front (open_outs design.circuit (output_count design) request) (drop (output_count design) design.circuit.outs) c.saturating_sub-outputs.result outputs))
    (ports-named c.piece-piece.result.now design.circuit f (codes "halt:") (take (length c.as_slice-outs.result.now - c.saturating_sub-outputs.result) (drop c.saturating_sub-outputs.result c.as_slice-outs.result.now)) (drop (output_count design) design.circuit.outs)
    (take_all (length c.as_slice-outs.result.now - c.saturating_sub-outputs.result) (drop c.saturating_sub-outputs.result c.as_slice-outs.result.now) (let rest = length-drop c.saturating_sub-outputs.result c.as_slice-outs.result.now in omega (arith, rest))
    ∙ ap (drop c.saturating_sub-outputs.result) outs ∙ drop-front (open_outs design.circuit (output_count design) request) (drop (output_count design) design.circuit.outs) c.saturating_sub-outputs.result outputs))
    (ap (map (λ (e : BridgeEntry). codes "bridge:" ++ e.name)) c.as_slice-entries.ensures)
