-- More on Whole: what no promise of the program reaches.
-- Source: ICCAD 2019 (bridges: models in the host's own code that stand at a target's ports, so that target and models together are one
-- simulated system); FIRRTL Specification, "Connects".
use Rattle.std.specs.Prelude.{◌≡◌, ℕ, ◌<◌, ◌≤◌, ◌+◌, List, [], ◌∷◌, ⊤, length, map, sum, take, slice_index_or, unwrap_or}
use Rattle.std.specs.List.{range_with_len}
use Rattle.gg_flat.specs.Circuit.{FlatCircuit}
use Rattle.gg_flat.specs.Line.{value_at}
use Rattle.gg_flat.specs.Run.{Start, column}
use Rattle.gg_flat_tree.specs.Tree.{path_at}
use Rattle.gg_part.specs.PartRun.{part_rows}
use Rattle.gg_order.specs.Design.{Ordered}
use Rattle.gg_partfile.specs.declared.request.BridgeEntry.{BridgeEntry}
use Rattle.gg_partfile.specs.declared.request.Request.{Request}
use Rattle.gg_bridge.specs.inside.Ports.{CanStand}
use Rattle.gg_bridge.specs.Ports.{joined_at}
use Rattle.gg_cut_plan.specs.Bridges.{Models, model_of}
use Rattle.gg_cut_plan.specs.Direct.{plan_hub}
use Rattle.gg_cut_plan.specs.Listed.{place_of}
use Rattle.gg_cut_plan.specs.Plan.{entry_at}
use Rattle.gg_cut_plan.specs.Ports.{open_ins}
use Rattle.gg_cut_plan.specs.Solves.{AreRows, model_start}
use Rattle.gg_cut_reference.specs.Links.{taken_as}
use Rattle.gg_cut_reference.specs.Made.{plan_reference}

-- ---- what has to hold

-- Each bridge can be at its ports in the circuit with the bridges before it.
abbrev pub CanStandAll : Models → FlatCircuit → List BridgeEntry → Type 0
CanStandAll models one [] = ⊤
CanStandAll models one (entry ∷ entries) =
    CanStand one entry.name (model_of models entry) entry.sees entry.drives
    × CanStandAll models (joined_at one entry.name (model_of models entry) entry.sees entry.drives) entries

-- ---- a run of the whole

-- the signal of the circuit with a path; 0 if none has it
abbrev pub signal_called : FlatCircuit → List ℕ → ℕ
signal_called circuit name = unwrap_or (place_of circuit.paths name) 0

-- the signal of the reference circuit that a bridge sees at an output: the output's pipe, if it has one, otherwise the output
abbrev pub bridge_signal : Ordered → Request → List ℕ → ℕ
bridge_signal design request name = taken_as (plan_hub design.circuit design.tree request) (signal_called design.circuit name)

-- the signal of the input with this name, which a bridge drives
abbrev pub driven_signal : Ordered → List ℕ → ℕ
driven_signal design name = signal_called design.circuit name

-- the number of the first signal of the model of entry k, in the whole
abbrev pub model_first : Ordered → Request → Models → ℕ → ℕ
model_first design request models k = length (plan_reference design request).signals + sum (map (λ entry. length (model_of models entry).signals) (take k request.bridges))

-- the numbers of all signals of the model of entry k, in the whole
abbrev pub model_signals : Ordered → Request → Models → ℕ → List ℕ
model_signals design request models k = range_with_len (model_first design request models k) (length (model_of models (entry_at request.bridges k)).signals)

-- the rows of the reference circuit, in the rows of the whole
abbrev pub reference_rows : Ordered → Request → List (List ℕ) → List (List ℕ)
reference_rows design request rows = part_rows (range_with_len 0 (length (plan_reference design request).signals)) rows

-- The model of entry k runs on what its bridge sees, with zeros at the start's cycle, and what the bridge drives has the columns of the
-- model's out-signals.
pub record RunsModel (design : Ordered) (request : Request) (models : Models) (start : Start) (end : ℕ) (rows : List (List ℕ)) (k : ℕ) (entry : BridgeEntry) : Type 0 where
  pub run : AreRows (model_of models entry) (model_start (model_of models entry) start) (map (λ name. column rows (bridge_signal design request name)) entry.sees) end (part_rows (model_signals design request models k) rows)
  pub driven : (i : ℕ) → i < length entry.drives
      → column rows (driven_signal design (path_at entry.drives i)) ≡ column (part_rows (model_signals design request models k) rows) (value_at (model_of models entry).outs i)

-- In rows of the whole the reference circuit runs on the columns that its inputs have there, and each model runs. An input that no bridge
-- drives has the column that is given for it.
pub record RunsWhole (design : Ordered) (request : Request) (models : Models) (start : Start) (columns : List (List ℕ)) (end : ℕ) (rows : List (List ℕ)) : Type 0 where
  pub reference : AreRows (plan_reference design request) start (map (column rows) (plan_reference design request).ins) end (reference_rows design request rows)
  pub fed : (p t : ℕ) → p < length (open_ins design.circuit request) → start.cycle ≤ t → t < end → value_at (column rows (value_at (open_ins design.circuit request) p)) t ≡ value_at (slice_index_or columns p []) t
  pub each : (k : ℕ) → k < length request.bridges → RunsModel design request models start end rows k (entry_at request.bridges k)
