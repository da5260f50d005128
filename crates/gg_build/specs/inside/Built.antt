-- More on Built: definitions that no promise of the program reaches.
-- Source: MEMOCODE 2009 (a synchronous circuit as a network of its parts, with the circuit's own streams); ICCAD
-- 2019 (units and memories of a target as models of their own, with sources for its inputs and sinks for its outputs).
use Rattle.std.specs.Prelude.{◌≡◌, ℕ, ◌^◌, ◌<◌, List, [], length}
use Rattle.gg_flat.specs.Clock.{Ratio}
use Rattle.gg_flat.specs.Line.{value_at}
use Rattle.gg_flat.specs.Run.{Start, clocked_start, opening_start}
use Rattle.gg_part.specs.PartRun.{part_ratios}
use Rattle.gg_cut_plan.specs.declared.plan.Body.{Body}
use Rattle.gg_cut_plan.specs.declared.plan.Body.TheVariants.{Cut, Memory, Source, Tray, Bridge}
use Rattle.gg_cut_plan.specs.declared.plan.Plan.{Plan}
use Rattle.gg_node.specs.Machine.{no_state}
use Rattle.gg_net.specs.Network.{IsAtIn, IsAtOut, Kind}
use Rattle.gg_build.specs.plan.Built.{machine_in, wires_of_plan}

-- ---- the network

-- Machine m of the network, which has this kind, has an in for each channel that the plan's machine m takes and an out
-- for each channel that it gives, in the plan's order. Each channel is connected there. Numbers of 32 bits suffice for
-- ins and outs.
pub record IsListedAt (token : ℕ → ℕ) (plan : Plan) (m : ℕ) (kind : Kind) : Type 0 where
  pub ins : length (machine_in plan m).ins ≡ kind.ins
  pub into : (i : ℕ) → i < kind.ins → IsAtIn (wires_of_plan token plan) m i (value_at (machine_in plan m).ins i)
  pub outs : length (machine_in plan m).outs ≡ kind.outs
  pub from : (o : ℕ) → o < kind.outs → IsAtOut (wires_of_plan token plan) m o (value_at (machine_in plan m).outs o)
  pub few : (kind.ins < 2 ^ 32) × (kind.outs < 2 ^ 32)

-- ---- zeros

-- the tokens that pipes open with at cycle 0
abbrev pub no_token : ℕ → ℕ
no_token s = 0

-- where a machine begins at cycle 0, with zeros, if the circuit's clocks have these ratios
abbrev pub opening_of : List Ratio → Body → Start
opening_of ratios (Cut part) = clocked_start part.piece (part_ratios part.clocks ratios)
opening_of ratios (Memory part) = clocked_start part.piece (part_ratios part.clocks ratios)
opening_of ratios (Source place) = record { cycle = 0; state = no_state; ratios = [] }
opening_of ratios Tray = record { cycle = 0; state = no_state; ratios = [] }
opening_of ratios (Bridge bridge) = opening_start bridge.model
