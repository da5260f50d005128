-- What a bridge does, by its entry.
-- Source: ICCAD 2019 (bridges: models in the host's own code that stand at a target's ports).
use Rattle.std.specs.Prelude.{◌≡◌, List, ℕ, Some, map}
use Rattle.gg_flat_tree.specs.Tree.{path_at}
use Rattle.gg_partfile.specs.declared.request.BridgeEntry.{BridgeEntry}
use Rattle.gg_cut_plan.specs.declared.plan.BridgeBody.{BridgeBody}
use Rattle.gg_cut_plan.specs.declared.wires.Wire.{Wire}
use Rattle.gg_cut_plan.specs.Bridges.{Models, model_named}
use Rattle.gg_cut_plan.specs.Plan.{port_place, wire_at}

-- the body of a bridge that takes and gives these channels: the entry's name and model, and the places of the ports that the channels
-- are named by
pub record IsModelled (paths : List (List ℕ)) (models : Models) (entry : BridgeEntry) (wires : List Wire) (taken given : List ℕ) (bridge : BridgeBody) : Type 0 where
  pub name : bridge.name ≡ entry.name
  pub model : model_named models bridge.name ≡ Some bridge.model
  pub ins : bridge.ins ≡ map (λ c. port_place entry.sees (path_at paths (wire_at wires c).signal)) taken
  pub outs : bridge.outs ≡ map (λ c. port_place entry.drives (path_at paths (wire_at wires c).signal)) given
