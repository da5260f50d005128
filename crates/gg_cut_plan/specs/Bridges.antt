-- What is wrong with the bridges of a request, for a circuit and the models that are known.
-- Source: ICCAD 2019 (bridges: models in the host's own code that stand at a target's ports); the numbers of faults and their order
-- are this program's own.
use Rattle.std.specs.Prelude.{ℕ, List, [], ◌∷◌, ◌++◌, Bool, true, false, not, ◌&&◌, ◌||◌, ◌==◌, if◌then◌else◌, Option, Some, None, option_map, option_and_then, length, map, take, slice_get, ◌-◌}
use Rattle.gg_bits.specs.Shape.{Shape}
use Rattle.gg_bits.specs.declared.types.Kind.{Kind}
use Rattle.gg_bits.specs.declared.types.Kind.TheVariants.{UInt, SInt}
use Rattle.gg_flat.specs.Line.{shape_at}
use Rattle.gg_flat.specs.Circuit.{FlatCircuit, signal_shapes, no_circuit}
use Rattle.gg_cut_plan.specs.Models.{model_names, model_circuits}
use Rattle.gg_partfile.specs.declared.request.BridgeEntry.{BridgeEntry}
use Rattle.gg_cut_plan.specs.declared.fault.CutFault.{CutFault}
use Rattle.gg_cut_plan.specs.declared.fault.CutFault.TheVariants.{UnknownBridge, WrongPort, UnfitBridge}
use Rattle.gg_cut_plan.specs.Listed.{is_among, place_of}
use Rattle.gg_cut_plan.specs.Channels.{channel_names}

-- Models that are handed in, each with its name.
abbrev pub Models : Type 0
Models = List (List ℕ × FlatCircuit)

-- ---- shapes

-- whether two kinds are the same
abbrev pub same_kind : Kind → Kind → Bool
same_kind UInt UInt = true
same_kind UInt SInt = false
same_kind SInt UInt = false
same_kind SInt SInt = true

-- whether two shapes have the same kind and the same width
abbrev pub same_shape : Shape → Shape → Bool
same_shape a b = same_kind a.kind b.kind && (a.width == b.width)

-- whether there is a shape, and it is this one
abbrev pub is_of_shape : Option Shape → Shape → Bool
is_of_shape None b = false
is_of_shape (Some a) b = same_shape a b

-- the shape of the signal with a path, if there is one
abbrev pub port_shape : FlatCircuit → List ℕ → Option Shape
port_shape circuit port = option_map (shape_at (signal_shapes circuit)) (place_of circuit.paths port)

-- whether these are the shapes of the ports, equally many and in order
abbrev pub fit_ports : FlatCircuit → List (List ℕ) → List Shape → Bool
fit_ports circuit [] [] = true
fit_ports circuit [] (b ∷ bs) = false
fit_ports circuit (port ∷ ports) [] = false
fit_ports circuit (port ∷ ports) (b ∷ bs) = is_of_shape (port_shape circuit port) b && fit_ports circuit ports bs

-- the shapes of these signals of a model
abbrev pub shapes_at : FlatCircuit → List ℕ → List Shape
shapes_at model signals = map (shape_at (signal_shapes model)) signals

-- ---- the faults of an entry

-- a name that isn't known, or that an earlier entry has
abbrev pub unknown_bridge : (known earlier : List (List ℕ)) → List ℕ → Option (List ℕ)
unknown_bridge known earlier name = if not (is_among known name) || is_among earlier name then Some name else None

-- the first of these ports that isn't among the names, or that is listed before
abbrev pub wrong_port : (names earlier : List (List ℕ)) → List (List ℕ) → Option (List ℕ)
wrong_port names earlier [] = None
wrong_port names earlier (port ∷ ports) = if not (is_among names port) || is_among earlier port then Some port else wrong_port names (earlier ++ port ∷ []) ports

-- the first model with this name, if there is one
abbrev pub model_named : Models → List ℕ → Option FlatCircuit
model_named models name = option_and_then (slice_get (model_circuits models)) (place_of (model_names models) name)

-- a model, or an empty circuit where there is none
abbrev pub model_or : Option FlatCircuit → FlatCircuit
model_or None = no_circuit
model_or (Some model) = model

-- the model with an entry's name; an empty circuit if none has it
abbrev pub model_of : Models → BridgeEntry → FlatCircuit
model_of models entry = model_or (model_named models entry.name)

-- whether an entry's ports have the shapes of the model's signals
abbrev pub fits_model : FlatCircuit → BridgeEntry → Option FlatCircuit → Bool
fits_model circuit entry None = false
fits_model circuit entry (Some model) = fit_ports circuit entry.sees (shapes_at model model.ins) && fit_ports circuit entry.drives (shapes_at model model.outs)

-- the entry's name, if its ports don't have the shapes of its model's signals, or no model has the name
abbrev pub unfit_bridge : FlatCircuit → Models → BridgeEntry → Option (List ℕ)
unfit_bridge circuit models entry = if fits_model circuit entry (model_named models entry.name) then None else Some entry.name

-- ---- all entries

-- what the earlier entries list
pub record Before : Type 0 where
  pub names : List (List ℕ)
  pub sees : List (List ℕ)
  pub drives : List (List ℕ)

-- what is listed before the first entry
abbrev pub none_before : Before
none_before = record { names = []; sees = []; drives = [] }

-- what is listed before the next entry: also what this entry lists
abbrev pub before_next : Before → BridgeEntry → Before
before_next before entry = record { names = before.names ++ entry.name ∷ []; sees = before.sees ++ entry.sees; drives = before.drives ++ entry.drives }

-- The faults of an entry: its name, its ports, and whether they fit its model. `outs` are the top's outputs.
abbrev pub own_faults : FlatCircuit → (outs : List ℕ) → Models → Before → BridgeEntry → List (Option CutFault)
own_faults circuit outs models before entry =
    option_map UnknownBridge (unknown_bridge (model_names models) before.names entry.name)
    ∷ option_map WrongPort (wrong_port (channel_names circuit outs) before.sees entry.sees)
    ∷ option_map WrongPort (wrong_port (channel_names circuit circuit.ins) before.drives entry.drives)
    ∷ option_map UnfitBridge (unfit_bridge circuit models entry)
    ∷ []

-- the faults of all entries, entry by entry
abbrev pub faults_after : FlatCircuit → (outs : List ℕ) → Models → Before → List BridgeEntry → List (Option CutFault)
faults_after circuit outs models before [] = []
faults_after circuit outs models before (entry ∷ entries) = own_faults circuit outs models before entry ++ faults_after circuit outs models (before_next before entry) entries

-- The faults of the bridges of a request. The top's outputs are the first of the circuit's out-signals, and its stops come after them.
abbrev pub bridge_faults : FlatCircuit → (stops : ℕ) → Models → List BridgeEntry → List (Option CutFault)
bridge_faults circuit stops models entries = faults_after circuit (take (length circuit.outs - stops) circuit.outs) models none_before entries
