-- The text of a plan: the lines of its machines, then the lines of its channels.
-- Source: this program's own, as the lines are (CheckText). A plan names machines and channels by their numbers, a
-- line names them by their names.
use Rattle.std.specs.Prelude.{ℕ, List, ◌++◌, flat_map, map}
use Rattle.gg_bits.specs.Shape.{shape}
use Rattle.gg_flat_tree.specs.Tree.{path_at}
use Rattle.gg_cut_plan.specs.declared.plan.Channel.{Channel}
use Rattle.gg_cut_plan.specs.declared.plan.Machine.{Machine}
use Rattle.gg_cut_plan.specs.declared.plan.Plan.{Plan}
use Rattle.gg_cut_reference.specs.text.CheckText.{channel_line, machine_line}

-- the names of machines, in order
abbrev pub machine_names : List Machine → List (List ℕ)
machine_names machines = map (λ machine. machine.name) machines

-- the names of channels, in order
abbrev pub channel_names : List Channel → List (List ℕ)
channel_names channels = map (λ channel. channel.name) channels

-- the line of a machine: its name, and the number of its host
abbrev pub line_of_machine : Machine → List ℕ
line_of_machine machine = machine_line machine.name machine.host

-- the line of a channel, if machines and channels have these names
abbrev pub line_of_channel : List (List ℕ) → List (List ℕ) → Channel → List ℕ
line_of_channel machines channels channel =
    channel_line channel.name (path_at machines channel.producer) (path_at machines channel.consumer) (shape channel.ty) channel.capacity channel.pipe (map (path_at channels) channel.needs)

-- the text of a plan: all machines, then all channels
abbrev pub plan_text : Plan → List ℕ
plan_text plan = flat_map line_of_machine plan.machines ++ flat_map (line_of_channel (machine_names plan.machines) (channel_names plan.channels)) plan.channels
