-- The meaning of a circuit, a partition and a trace, the file of steps, and the text that `replay` writes.
-- Sources: MEMOCODE 2009 (the k-th token of each channel is the value of its signal in cycle k, in any order of steps).
-- The lines and the forms of a steps file are this program's own.
use Rattle.std.specs.Prelude.{◌≡◌, ◌↔◌, ℕ, ◌+◌, ◌-◌, ◌*◌, ◌<◌, List, [], None, Option, Result, Ok, Err, flat_map, if◌then◌else◌, length, map, slice_index_or, take}
use Rattle.std.specs.List.{range_with_len}
use Rattle.gg_flat.specs.Circuit.{signal_shapes}
use Rattle.gg_flat.specs.Line.{shape_at, value_at}
use Rattle.gg_flat.specs.Run.{column}
use Rattle.gg_flat_tree.specs.Tree.{InstanceTree, memory_at, path_at}
use Rattle.gg_order.specs.Design.{Ordered}
use Rattle.gg_partfile.specs.declared.request.Request.{Request}
use Rattle.gg_cut_plan.specs.Direct.{is_piped, plan_wires}
use Rattle.gg_cut_plan.specs.Ports.{machine_end, plan_bridges}
use Rattle.gg_cut_plan.specs.Machines.{first_memory, is_memory}
use Rattle.gg_cut_plan.specs.Listed.{listed_of}
use Rattle.gg_cut_plan.specs.Plan.{machine_names, wire_at}
use Rattle.gg_cut_plan.specs.Solves.{stream}
use Rattle.gg_cut_plan.specs.declared.listed.Listed.{Listed}
use Rattle.gg_cut_plan.specs.declared.wires.Wire.{Wire}
use Rattle.gg_cut_reference.specs.text.CheckText.{channel_name}
use Rattle.gg_net.specs.declared.event.Event.{Event}
use Rattle.gg_net.specs.markings.Marking.{Layout, Marking, opening_marking, marked_entered, marked_puts, marked_takes}
use Rattle.gg_net.specs.markings.Goes.{Stopped, replayed_from}
use Rattle.gg_net.specs.markings.Measure.{all_dues}
use Rattle.gg_build.specs.plan.CutLayout.{IsLayoutOf}
use Rattle.gg_trace.specs.Fields.{text_lines}
use Rattle.gg_replay.specs.steps_file.Naming.{Naming}
use Rattle.gg_replay.specs.steps_file.Spelling.{IsLengthened}
use Rattle.gg_replay.specs.steps_file.Steps.{steps_of}
use Rattle.gg_replay.specs.steps_file.Cause.{cause_text}
use Rattle.gg_replay.specs.ReplayText.{channel_line}
use Rattle.gg_io.specs.Said.{Said}
use Rattle.gg_bits.specs.Limits.{steps_limit}
use Rattle.golden_commands.specs.Lines.{step_fault}
use Rattle.gg_io.specs.Order.{File}
use Rattle.golden_commands.specs.Meaning.{IsMeaning, Meaning}
use Rattle.golden_commands.specs.Partition.{Known}
use Rattle.golden_commands.specs.RunText.{IsRunBy}

-- ---- the meaning of a circuit, a partition and a trace

-- The meaning of the files, the run on the columns of the reference circuit with the models of the bridges, and the layout of the request's cut.
pub record Setting : Type 0 where
  pub meant : Meaning
  pub rows : List (List ℕ)
  pub layout : Layout

-- The bytes of a circuit, a partition and a trace mean this. `capacity` is the capacity of the channels that the request doesn't name.
pub record IsSetting (known : Known) (circuit partition trace : List ℕ) (capacity : ℕ) (setting : Setting) : Type 0 where
  pub is : IsMeaning known circuit partition trace setting.meant
  pub run : IsRunBy setting.meant.design setting.meant.request known.models setting.meant.columns setting.meant.cycles setting.rows
  pub laid : IsLayoutOf setting.meant.design setting.meant.request capacity setting.meant.cycles setting.layout

-- ---- names

-- the names of a machine's ports, by number: for a listed memory first its readers' and then its writers', otherwise none
abbrev pub port_names : InstanceTree → Listed → ℕ → List (List ℕ)
port_names tree listed m = if is_memory listed m then (memory_at tree (value_at listed.memories (m - first_memory listed))).ports else []

-- the names that the steps of a cut can use
abbrev pub naming_by : Ordered → Request → Listed → List Wire → Naming
naming_by design request listed wires =
    record {
      channels = map (channel_name design.circuit wires) (range_with_len 0 (length wires));
      machines = map (path_at (machine_names design request listed)) (range_with_len 0 (machine_end (plan_bridges design.circuit design.tree request)));
      ports = map (port_names design.tree listed) (range_with_len 0 (machine_end (plan_bridges design.circuit design.tree request)));
    }

-- the names of a request's cut, with the channels of its plan
abbrev pub naming_of : Ordered → Request → Naming
naming_of design request = naming_by design request (listed_of design.tree request) (plan_wires design.circuit design.tree request)

-- ---- where the steps lead

-- the steps of a file, done one after another from the opening marking: where they lead, or the first that is refused
abbrev pub replayed : Setting → (steps : List ℕ) → Result Marking Stopped
replayed setting steps = replayed_from setting.layout 1 (opening_marking setting.layout 0) (steps_of (naming_of setting.meant.design setting.meant.request) steps)

-- each step of the file may be done
abbrev pub AreDone : Known → (circuit partition trace : List ℕ) (capacity : ℕ) (steps : List ℕ) → Type 0
AreDone known circuit partition trace capacity steps =
    (setting : Setting) × IsSetting known circuit partition trace capacity setting × ((marking : Marking) × (replayed setting steps ≡ Ok marking))

-- what is reported for a refused step: its number, counted from 1, and the cause, with the names of the cut
abbrev pub stopped_by : Naming → (events : List (Option Event)) → Stopped → Said
stopped_by naming events stopped = step_fault stopped.step (cause_text naming (slice_index_or events (stopped.step - 1) None) stopped.cause)

-- what is reported for a refused step, with the names of the setting's cut
abbrev pub stopped_said : Setting → (steps : List ℕ) → Stopped → Said
stopped_said setting steps stopped = stopped_by (naming_of setting.meant.design setting.meant.request) (steps_of (naming_of setting.meant.design setting.meant.request) steps) stopped

-- this is reported for steps if one of them is refused
abbrev pub TellsSteps : Known → (circuit partition trace : List ℕ) (capacity : ℕ) (steps : List ℕ) → Said → Type 0
TellsSteps known circuit partition trace capacity steps said =
    (setting : Setting) × IsSetting known circuit partition trace capacity setting
    × ((stopped : Stopped) × (replayed setting steps ≡ Err stopped) × (said ≡ stopped_said setting steps stopped))

-- a steps file: accepted if each of its steps may be done, one after another
abbrev pub steps_file_for : Known → (circuit partition trace : List ℕ) (capacity : ℕ) (name : List ℕ) → File
steps_file_for known circuit partition trace capacity name =
    record { name = name; limit = steps_limit; accepts = AreDone known circuit partition trace capacity; refuses = TellsSteps known circuit partition trace capacity }

-- ---- how many steps there are

-- The number of all steps. In each cycle there are two for each channel, one for each machine, and one for each port
-- that is served.
abbrev pub all_steps : Setting → ℕ
all_steps setting = setting.meant.cycles * (2 * length setting.layout.links + length setting.layout.turns + all_dues setting.layout)

-- Some line can be added to a steps file: each step of the longer file may be done.
abbrev pub CanGoOn : Known → (circuit partition trace : List ℕ) (capacity : ℕ) (steps : List ℕ) → Type 0
CanGoOn known circuit partition trace capacity steps =
    (line : List ℕ) × (longer : List ℕ) × IsLengthened steps line longer × AreDone known circuit partition trace capacity longer

-- A line can be added to a steps file exactly if the file has fewer lines than there are steps.
abbrev pub GoesOnUntilAll : Known → (circuit partition trace : List ℕ) (capacity : ℕ) (steps : List ℕ) → Type 0
GoesOnUntilAll known circuit partition trace capacity steps =
    (setting : Setting) → IsSetting known circuit partition trace capacity setting
    → (length (text_lines steps) < all_steps setting) ↔ CanGoOn known circuit partition trace capacity steps

-- ---- the text

-- The line of channel c: its counts, and the tokens that have entered it so far. They are the first values of its signal in
-- the run, and before them the token 0 if the channel has a pipe.
abbrev pub channel_told : Setting → Marking → List Wire → ℕ → List ℕ
channel_told setting marking wires c =
    channel_line (channel_name setting.meant.design.circuit wires c) (shape_at (signal_shapes setting.meant.design.circuit) (wire_at wires c).signal).width
    (marked_puts setting.layout marking c) (marked_takes setting.layout marking c)
    (take (marked_entered setting.layout marking c) (stream 0 0 (is_piped setting.meant.design.circuit setting.meant.request (wire_at wires c).signal) (column setting.rows (wire_at wires c).signal)))

-- the lines of all channels
abbrev pub lines_told : Setting → Marking → List Wire → List ℕ
lines_told setting marking wires = flat_map (channel_told setting marking wires) (range_with_len 0 (length wires))

-- a line for each channel, in their order
abbrev pub replay_text : Setting → Marking → List ℕ
replay_text setting marking =
    lines_told setting marking (plan_wires setting.meant.design.circuit setting.meant.design.tree setting.meant.request)

-- the text of `replay`, for the marking that the steps lead to
abbrev pub IsReplayText : Known → (circuit partition trace : List ℕ) (capacity : ℕ) (steps text : List ℕ) → Type 0
IsReplayText known circuit partition trace capacity steps text =
    (setting : Setting) × IsSetting known circuit partition trace capacity setting
    × ((marking : Marking) × (replayed setting steps ≡ Ok marking) × (text ≡ replay_text setting marking))

-- This is the text of the steps, and a line can be added to them exactly if they are fewer than all.
pub record IsReplayOf (known : Known) (circuit partition trace : List ℕ) (capacity : ℕ) (steps text : List ℕ) : Type 0 where
  pub text_is : IsReplayText known circuit partition trace capacity steps text
  pub goes_on : GoesOnUntilAll known circuit partition trace capacity steps
