use Rattle.std.proofs.Common.{◌<◌, ℕ, List, length, map, ◌∙◌, ap, arith}
use Rattle.gg_flat_tree.specs.Tree.{path_at}
use Rattle.gg_cut_plan.specs.Bridges.{model_named}
use Rattle.gg_cut_plan.specs.Plan.{port_place, wire_at}
use Rattle.gg_cut_machines.proofs.bridges.bridge_body.Goals as goal

pub port_places-requires-clause-few : goal.port_places-requires-clause-few
port_places-requires-clause-few c = omega (arith, c.requires.sees, ap length c.as_slice.ensures)

pub port_places-requires-2-clause-few : goal.port_places-requires-2-clause-few
port_places-requires-2-clause-few c = omega (arith, c.requires.drives, ap length c.as_slice-2.ensures)

pub returns-clause-body : goal.returns-clause-body
returns-clause-body c =
    let paths = c.args.piece.now.paths in
    let wires = c.args.wires.now in
    record {
      name = c.in_ok-name.ensures.cases;
      model = ap (model_named c.args.models.now) c.in_ok-name.ensures.cases ∙ c.in_ok-model.ensures {u = tt};
      ins = c.in_ok-seen.ensures.places ∙ ap (λ (l : List (List ℕ)). map (λ k. port_place l (path_at paths (wire_at wires k).signal)) c.args.ins.now) c.as_slice.ensures;
      outs = c.in_ok-driven.ensures.places ∙ ap (λ (l : List (List ℕ)). map (λ k. port_place l (path_at paths (wire_at wires k).signal)) c.args.outs.now) c.as_slice-2.ensures;
    }
