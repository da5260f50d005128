-- What the machines of a cut take and give, by a run of the reference circuit, from any start.
-- Source: MEMOCODE 2009 (the values of each channel, cycle by cycle; a token at the start comes before them).
use Rattle.std.specs.Prelude.{◌==◌, ℕ, ◌+◌, Option, None, Some, length}
use Rattle.gg_flat.specs.Line.{value_at}
use Rattle.gg_flat.specs.Run.{Start, clocked_start}
use Rattle.gg_flat.specs.State.{State}
use Rattle.gg_order.specs.Design.{Ordered}
use Rattle.gg_partfile.specs.declared.request.Request.{Request}
use Rattle.gg_cut_plan.specs.Clocks.{ratios_of}
use Rattle.gg_cut_plan.specs.Listed.{first_place}
use Rattle.gg_cut_plan.specs.Direct.{Hub, plan_hub}
use Rattle.gg_cut_reference.specs.Links.{pipes_of}
use Rattle.gg_cut_reference.specs.Made.{plan_reference}

-- ---- where a run starts

-- the start of the whole run of a request: cycle 0, with zeros, and the ratios of the clocks
abbrev pub plan_start : Ordered → Request → Start
plan_start design request = clocked_start (plan_reference design request) (ratios_of design.tree request)

-- ---- the token of a pipe

-- the value of the register of the pipe at place k, which comes after the registers of the circuit; 0 if there is no
-- pipe
abbrev pub token_or : Hub → State → Option ℕ → ℕ
token_or hub state None = 0
token_or hub state (Some k) = value_at state.registers (length hub.circuit.registers + k)

-- the value of the register of the pipe of signal s in a state of the reference circuit; 0 if the signal has no pipe
abbrev pub token_of : Hub → State → ℕ → ℕ
token_of hub state s = token_or hub state (first_place (λ p. p == s) (pipes_of hub))

-- `token_of` for the cut of a request
abbrev pub plan_token : Ordered → Request → State → ℕ → ℕ
plan_token design request state s = token_of (plan_hub design.circuit design.tree request) state s
