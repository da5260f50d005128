-- More on Fitting: what no promise of the program reaches.
-- Source: ICCAD 2019 (bridges: models in the host's own code that stand at a target's ports).
use Rattle.std.specs.Prelude.{◌≡◌, ◌≢◌, ℕ, ◌<◌, List, ◌++◌, codes, true, Some, All, length, map, flat_map, slice_index_or, AllPairs, Contains}
use Rattle.gg_flat.specs.Circuit.{FlatCircuit, signal_shapes}
use Rattle.gg_flat.specs.Line.{shape_at}
use Rattle.gg_cut_plan.specs.Models.{model_names}
use Rattle.gg_flat_tree.specs.Tree.{path_at}
use Rattle.gg_partfile.specs.declared.request.BridgeEntry.{BridgeEntry}
use Rattle.gg_bridge.specs.inside.All.{Attached}
use Rattle.gg_cut_plan.specs.Channels.{channel_names}
use Rattle.gg_cut_plan.specs.Bridges.{Models, model_named, model_of, port_shape, fit_ports, shapes_at}

-- An entry names a model, its ports are outputs and inputs, and they have the model's types.
pub record IsFitting (circuit : FlatCircuit) (outs : List ℕ) (models : Models) (entry : BridgeEntry) : Type 0 where
  pub model : FlatCircuit
  pub known : Contains (model_names models) entry.name
  pub named : model_named models entry.name ≡ Some model
  -- each port that it sees is one of the outputs, and each port that it drives an input
  pub seen : (i : ℕ) → i < length entry.sees → Contains (channel_names circuit outs) (path_at entry.sees i)
  pub driven : (i : ℕ) → i < length entry.drives → Contains (channel_names circuit circuit.ins) (path_at entry.drives i)
  pub seen_types : fit_ports circuit entry.sees (shapes_at model model.ins) ≡ true
  pub driven_types : fit_ports circuit entry.drives (shapes_at model model.outs) ≡ true

-- All entries fit, no two have one name, and no port is listed twice.
pub record AreFitting (circuit : FlatCircuit) (outs : List ℕ) (models : Models) (entries : List BridgeEntry) : Type 0 where
  pub each : (k : ℕ) (any : BridgeEntry) → k < length entries → IsFitting circuit outs models (slice_index_or entries k any)
  pub names : AllPairs (λ a b. a ≢ b) (map (λ entry. entry.name) entries)
  pub sees : AllPairs (λ a b. a ≢ b) (flat_map (λ entry. entry.sees) entries)
  pub drives : AllPairs (λ a b. a ≢ b) (flat_map (λ entry. entry.drives) entries)

-- ---- at the ports of a circuit

-- The bridge of an entry at the ports of a circuit. The ports have these signals there.
abbrev pub attached_of : (seen_at driven_at : List ℕ → ℕ) → Models → BridgeEntry → Attached
attached_of seen_at driven_at models entry =
    record {
      front = codes "bridge:" ++ (entry.name ++ codes ".");
      model = model_of models entry;
      sees = map seen_at entry.sees;
      drives = map driven_at entry.drives;
    }

-- The ports of `circuit` have these signals in the circuit `one`, with their types. No path there begins as the paths of bridges do.
pub record ArePortsAt (circuit : FlatCircuit) (outs : List ℕ) (one : FlatCircuit) (seen_at driven_at : List ℕ → ℕ) : Type 0 where
  pub seen : (port : List ℕ) → Contains (channel_names circuit outs) port → (seen_at port < length one.signals) × (port_shape circuit port ≡ Some (shape_at (signal_shapes one) (seen_at port)))
  pub driven : (port : List ℕ) → Contains (channel_names circuit circuit.ins) port → Contains one.ins (driven_at port) × (port_shape circuit port ≡ Some (shape_at (signal_shapes one) (driven_at port)))
  -- no two inputs have one signal
  pub once : (a b : List ℕ) → Contains (channel_names circuit circuit.ins) a → Contains (channel_names circuit circuit.ins) b → driven_at a ≡ driven_at b → a ≡ b
  pub fresh : (s : ℕ) (rest : List ℕ) → s < length one.signals → path_at one.paths s ≢ codes "bridge:" ++ rest
