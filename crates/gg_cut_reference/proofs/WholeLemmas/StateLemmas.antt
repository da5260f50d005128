-- The state in which the whole starts: that of the reference circuit, and zeros of the models.
use Rattle.std.proofs.Common.{◌≡◌, List, [], ◌∷◌, refl, ◌∙◌, ap}
use Rattle.gg_flat.specs.Circuit.{FlatCircuit}
use Rattle.gg_flat.specs.State.{State, IsState, opening}
use Rattle.gg_flat.proofs.StateLemmas.{IsState-opening}
use Rattle.gg_partfile.specs.declared.request.BridgeEntry.{BridgeEntry}
use Rattle.gg_bridge.specs.All.{joined_state}
use Rattle.gg_bridge.proofs.StateLemmas.{opening-joined, state-joined}
use Rattle.gg_bridge.specs.Ports.{front_of, seen_at, driven_at, joined_at}
use Rattle.gg_cut_plan.specs.Bridges.{Models, model_of}
use Rattle.gg_cut_reference.specs.whole.Whole.{states_with, with_bridges}

pub zeros-with : (models : Models) (one : FlatCircuit) (entries : List BridgeEntry) → states_with models (opening one) entries ≡ opening (with_bridges models one entries)
zeros-with models one [] = refl
zeros-with models one (entry ∷ entries) =
    ap (λ (state : State). states_with models state entries) (opening-joined one (front_of entry.name) (model_of models entry) (seen_at one entry.sees) (driven_at one entry.drives))
    ∙ zeros-with models (joined_at one entry.name (model_of models entry) entry.sees entry.drives) entries

pub states-with : (models : Models) (one : FlatCircuit) (state : State) (entries : List BridgeEntry) → IsState one state → IsState (with_bridges models one entries) (states_with models state entries)
states-with models one state [] is = is
states-with models one state (entry ∷ entries) is =
    states-with models (joined_at one entry.name (model_of models entry) entry.sees entry.drives) (joined_state state (opening (model_of models entry))) entries
    (state-joined one (front_of entry.name) (model_of models entry) (seen_at one entry.sees) (driven_at one entry.drives) state (opening (model_of models entry)) is (IsState-opening (model_of models entry)))
