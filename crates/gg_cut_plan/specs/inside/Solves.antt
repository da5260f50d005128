-- More on Solves: what no promise of the program reaches.
-- Source: MEMOCODE 2009 (a network of machines has the streams of the synchronous circuit that it was cut from; a token at the start
-- comes before what a producer gives).
use Rattle.std.specs.Prelude.{◌≡◌, ℕ, ◌<◌, ◌≤◌, List, [], ◌==◌, unwrap_or, length, map, take, slice_index_or, All}
use Rattle.gg_flat.specs.Line.{value_at}
use Rattle.gg_flat.specs.Run.{Start, column}
use Rattle.std.specs.List.{range_with_len}
use Rattle.gg_part.specs.PartRun.{part_start}
use Rattle.gg_part.specs.declared.part.Part.{Part}
use Rattle.gg_cut_plan.specs.declared.plan.BridgeBody.{BridgeBody}
use Rattle.gg_cut_plan.specs.declared.plan.Body.{Body}
use Rattle.gg_cut_plan.specs.declared.plan.Body.TheVariants.{Cut, Memory, Source, Tray, Bridge}
use Rattle.gg_cut_plan.specs.declared.plan.Machine.{Machine}
use Rattle.gg_cut_plan.specs.declared.plan.Plan.{Plan}
use Rattle.gg_cut_plan.specs.Listed.{first_place}
use Rattle.gg_cut_plan.specs.Solves.{AreRows, model_start, streams}

-- The part has a run on these columns of its inputs, from its part of a start up to cycle `end`, and in each such run its outputs have
-- these columns.
pub record GivesColumns (part : Part) (start : Start) (end : ℕ) (ins outs : List (List ℕ)) : Type 0 where
  pub rows : List (List ℕ)
  pub run : AreRows part.piece (part_start part.held part.memories part.clocks start) ins end rows
  pub gives : (others : List (List ℕ)) → AreRows part.piece (part_start part.held part.memories part.clocks start) ins end others → map (column others) part.piece.outs ≡ outs

-- A column has the values of another in the cycles below `end`, starting at the start's cycle.
abbrev pub AgreesFrom : Start → ℕ → List ℕ → List ℕ → Type 0
AgreesFrom start end values out = (t : ℕ) → start.cycle ≤ t → t < end → value_at out t ≡ value_at values t

-- the columns of what a bridge sees, in its model's order, from the columns of the channels that it takes, which are at these places
abbrev pub in_order : List ℕ → List (List ℕ) → List (List ℕ)
in_order places ins = map (λ p. slice_index_or ins (unwrap_or (first_place (λ q. q == p) places) 0) []) (range_with_len 0 (length places))

-- The bridge's model has a run on these columns, with zeros at the start's cycle, and in each such run the channels that the bridge gives
-- have these columns.
pub record GivesSaid (bridge : BridgeBody) (start : Start) (end : ℕ) (ins outs : List (List ℕ)) : Type 0 where
  pub rows : List (List ℕ)
  pub run : AreRows bridge.model (model_start bridge.model start) (in_order bridge.ins ins) end rows
  pub gives : (others : List (List ℕ)) → AreRows bridge.model (model_start bridge.model start) (in_order bridge.ins ins) end others → map (λ place. column others (value_at bridge.model.outs place)) bridge.outs ≡ outs

-- How a machine answers: its outputs are the outputs of its piece's run on its inputs. Each output of a source has the values of its column, starting
-- at the start's cycle. A tray has no output. A bridge says what its model says.
abbrev pub Answers : Body → Start → ℕ → List (List ℕ) → List (List ℕ) → List (List ℕ) → Type 0
Answers (Cut part) start end given ins outs = GivesColumns part start end ins outs
Answers (Memory part) start end given ins outs = GivesColumns part start end ins outs
Answers (Source place) start end given ins outs = All (AgreesFrom start end (slice_index_or given place [])) outs
Answers Tray start end given ins outs = outs ≡ []
Answers (Bridge bridge) start end given ins outs = GivesSaid bridge start end ins outs

-- the lists of these channels, in this order; an empty one for a channel that has none
abbrev pub lists_of : List (List ℕ) → List ℕ → List (List ℕ)
lists_of lists channels = map (λ c. slice_index_or lists c []) channels

-- The lists, which the channels' producers give from a start up to cycle `end`, solve the plan: there is one for each channel, and what
-- each machine gives is its answer to what it takes. `given` has a column for each top input that no bridge drives, and `token` the token of each pipe.
pub record Solves (plan : Plan) (start : Start) (token : ℕ → ℕ) (given : List (List ℕ)) (end : ℕ) (lists : List (List ℕ)) : Type 0 where
  pub count : length lists ≡ length plan.channels
  pub each : (m : ℕ) (any : Machine) → m < length plan.machines → Answers (slice_index_or plan.machines m any).body start end given (map (take end) (lists_of (streams start.cycle token plan.channels lists) (slice_index_or plan.machines m any).ins)) (lists_of lists (slice_index_or plan.machines m any).outs)
