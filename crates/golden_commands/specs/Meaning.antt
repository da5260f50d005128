-- The meaning of a circuit, a partition and a trace.
-- Source: this program's own, by the crates that read these files (gg_front, gg_partfile, gg_trace) and check a request (gg_cut_plan).
use Rattle.std.specs.Prelude.{ℕ, List}
use Rattle.gg_cut_plan.specs.Held.{AreHeldOnce}
use Rattle.gg_flat.specs.Circuit.{FlatCircuit}
use Rattle.gg_front.specs.Meaning.{MeansDesign}
use Rattle.gg_part.specs.KeepsToTree.{KeepsToTree}
use Rattle.gg_order.specs.Design.{IsDesign, Ordered}
use Rattle.gg_partfile.specs.declared.request.Request.{Request}
use Rattle.gg_cut_reference.specs.Made.{AllHeld, plan_reference}
use Rattle.gg_snap.specs.declared.text.row.Row.{Row}
use Rattle.gg_snap.specs.text.Table.{rows_of}
use Rattle.golden_commands.specs.Partition.{Cuts, Known}
use Rattle.golden_commands.specs.RunText.{Feeds}

-- A design, a request, and the columns of the top's inputs that no bridge drives for some cycles.
pub record Meaning : Type 0 where
  pub design : Ordered
  pub request : Request
  pub cycles : ℕ
  pub columns : List (List ℕ)

-- this design, this request, and these columns for this many cycles
abbrev pub meaning_of : Ordered → Request → (cycles : ℕ) → (columns : List (List ℕ)) → Meaning
meaning_of design request cycles columns = record { design = design; request = request; cycles = cycles; columns = columns }

-- The bytes of a circuit, a partition and a trace mean this.
pub record IsMeaning (known : Known) (circuit partition trace : List ℕ) (meant : Meaning) : Type 0 where
  pub means : MeansDesign circuit meant.design
  pub cuts : Cuts known meant.design partition meant.request
  pub feeds : Feeds meant.design.circuit meant.request trace meant.cycles meant.columns

-- `IsMeaning` for `save` and `resume`. The design keeps to its tree, and exactly one signal holds each register. (This is so for each design that
-- `golden` reads.)
pub record AreMeant (known : Known) (circuit partition trace : List ℕ) (meant : Meaning) : Type 0 where
  pub is : IsMeaning known circuit partition trace meant
  pub designed : IsDesign meant.design
  pub keeps : KeepsToTree meant.design.circuit meant.design.tree
  pub held : AreHeldOnce meant.design.circuit
  pub whole : AllHeld meant.design.circuit

-- the circuit with the saved state: the design's, with a register for each pipe of the request
abbrev pub meant_reference : Meaning → FlatCircuit
meant_reference meant = plan_reference meant.design meant.request

-- the values of a snapshot of it, in the order of the lines
abbrev pub meant_values : Meaning → List Row
meant_values meant = rows_of (meant_reference meant) meant.design.tree
