-- The network of a plan on a trace: where the steps of a file lead it, and what is then printed or reported.
-- Source: this program's own.
use Rattle.std.specs.Prelude.{◌≡◌, ℕ, List, Option, flat_map, length, map, take}
use Rattle.std.specs.List.{range_with_len}
use Rattle.gg_flat.specs.Line.{value_at}
use Rattle.gg_flat.specs.Streams.{Flow}
use Rattle.gg_flat_tree.specs.Tree.{InstanceTree, path_at}
use Rattle.gg_cut_plan.specs.Bridges.{Models}
use Rattle.gg_cut_plan.specs.declared.plan.Plan.{Plan}
use Rattle.gg_net.specs.declared.event.Event.{Event}
use Rattle.gg_net.specs.Kept.{Kept, list_at}
use Rattle.gg_net.specs.Network.{Network, puts, entered, takes}
use Rattle.gg_net.specs.markings.Goes.{Stopped}
use Rattle.gg_net.specs.markings.Steps.{Steps, StopsAt}
use Rattle.gg_build.specs.Build.{IsOpeningOf, flow_along}
use Rattle.gg_replay.specs.steps_file.Naming.{Naming}
use Rattle.gg_replay.specs.ReplayText.{channel_line}
use Rattle.gg_io.specs.Said.{Said}
use Rattle.golden_commands.specs.Replay.{port_names, stopped_by}
use Rattle.golden_commands.specs.declared.case.Case.{Case}
use Rattle.golden_commands.specs.declared.case.Fed.{Fed}

-- ---- names

-- the names of a plan's channels, machines and ports
abbrev pub plan_naming : Plan → InstanceTree → Naming
plan_naming plan tree =
    record {
      channels = map (λ channel. channel.name) plan.channels;
      machines = map (λ machine. machine.name) plan.machines;
      ports = map (port_names tree plan.listed) (range_with_len 0 (length plan.machines));
    }

-- the names of a case's plan
abbrev pub case_naming : Case → Naming
case_naming case = plan_naming case.cut.plan case.design.tree

-- ---- lines

-- the name of channel c of a plan
abbrev pub name_in : Plan → ℕ → List ℕ
name_in plan c = path_at (map (λ channel. channel.name) plan.channels) c

-- the width of the channel with number c; 0 if there is none
abbrev pub width_in : Plan → ℕ → ℕ
width_in plan c = value_at (map (λ channel. channel.ty.width) plan.channels) c

-- the line of channel c, if the channels carry the values of this flow
abbrev pub net_line : Plan → Flow → Network → ℕ → List ℕ
net_line plan flow net c = channel_line (name_in plan c) (width_in plan c) (puts net c) (takes net c) (take (entered net c) (list_at flow.lists c))

-- the lines of all channels
abbrev pub net_text : Plan → Flow → Network → List ℕ
net_text plan flow net = flat_map (net_line plan flow net) (range_with_len 0 (length plan.channels))

-- ---- steps

-- the flow of the plan's network on the trace, with these models
abbrev pub fed_flow : Models → Fed → Flow
fed_flow models fed = flow_along fed.case.design fed.case.cut.request models fed.case.cut.plan fed.trace.columns fed.trace.rows

-- A network is the plan's before its first cycle, and carries the values of this flow.
pub record Opened (fed : Fed) (flow : Flow) (opening : Network) : Type 0 where
  pub opens : IsOpeningOf fed.case.design fed.case.cut.request fed.case.cut.plan fed.trace.columns fed.trace.rows opening
  pub kept : Kept flow opening

-- The text of the network that these steps lead to.
pub record IsNetText (fed : Fed) (flow : Flow) (events : List (Option Event)) (text : List ℕ) : Type 0 where
  pub opening : Network
  pub opened : Opened fed flow opening
  pub net : Network
  pub steps : Steps opening events net
  pub is : text ≡ net_text fed.case.cut.plan flow net

-- This is reported for these steps, which stop at one.
pub record TellsStop (fed : Fed) (flow : Flow) (naming : Naming) (events : List (Option Event)) (said : Said) : Type 0 where
  pub opening : Network
  pub opened : Opened fed flow opening
  -- the network before the step that is refused
  pub net : Network
  pub stopped : Stopped
  pub stops : StopsAt 1 opening events net stopped
  pub is : said ≡ stopped_by naming events stopped
