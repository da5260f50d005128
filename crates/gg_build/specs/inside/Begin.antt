-- Where the machines and the channels of a plan begin.
-- Source: MEMOCODE 2009 (a network of the parts of a circuit, each with its part of the state; a channel with a token at the start).
use Rattle.std.specs.Prelude.{◌≡◌, ℕ, ◌<◌, List, [], Option, Some, None, true, length, slice_index_or}
use Rattle.gg_flat.specs.Clock.{Ratio}
use Rattle.gg_flat.specs.Line.{value_at}
use Rattle.gg_flat.specs.Run.{Start}
use Rattle.gg_flat.specs.State.{State, opening}
use Rattle.gg_part.specs.PartRun.{part_ratios, part_state}
use Rattle.gg_part.specs.declared.part.Part.{Part}
use Rattle.gg_cut_plan.specs.declared.plan.Body.{Body}
use Rattle.gg_cut_plan.specs.declared.plan.Body.TheVariants.{Cut, Memory, Source, Tray, Bridge}
use Rattle.gg_cut_plan.specs.declared.plan.Channel.{Channel}
use Rattle.gg_node.specs.Machine.{no_state}
use Rattle.gg_build.specs.declared.begin.Begin.{Begin}

-- the state that a part begins with: its part of a state of the circuit, or zeros
abbrev pub state_from : Part → Option State → State
state_from part None = opening part.piece
state_from part (Some state) = part_state part.held part.memories state

-- where a part begins, if the circuit's clocks have these ratios
abbrev pub part_begin : List Ratio → Begin → Part → Start
part_begin ratios begin part = record { cycle = begin.cycle; state = state_from part begin.state; ratios = part_ratios part.clocks ratios }

-- where a machine begins, if the circuit's clocks have these ratios
abbrev pub starts_of : List Ratio → Begin → Body → Start
starts_of ratios begin (Cut part) = part_begin ratios begin part
starts_of ratios begin (Memory part) = part_begin ratios begin part
starts_of ratios begin (Source place) = record { cycle = begin.cycle; state = no_state; ratios = [] }
starts_of ratios begin Tray = record { cycle = begin.cycle; state = no_state; ratios = [] }
starts_of ratios begin (Bridge bridge) = record { cycle = begin.cycle; state = opening bridge.model; ratios = [] }

-- The list has the tokens of the channels that have a pipe; `token` has the token of each signal's pipe.
abbrev pub AreTokens : List Channel → (token : ℕ → ℕ) → List ℕ → Type 0
AreTokens channels token tokens = (c : ℕ) (any : Channel) → c < length channels → (slice_index_or channels c any).pipe ≡ true → value_at tokens c ≡ token (slice_index_or channels c any).signal
