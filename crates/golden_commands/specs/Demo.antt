-- The text that `demo` writes: the summary of the run of the circuit that it makes.
-- Source: this program's own. gg_rows has the three texts and the lines.
use Rattle.std.specs.Prelude.{◌≡◌, ℕ, List, [], length}
use Rattle.gg_rows.specs.CircuitText.{demo_circuit}
use Rattle.gg_rows.specs.PartitionText.{demo_partition}
use Rattle.gg_rows.specs.SummaryText.{demo_summary}
use Rattle.gg_rows.specs.TraceText.{demo_trace}
use Rattle.gg_cut_reference.specs.whole.Whole.{plan_circuit}
use Rattle.gg_rows.specs.Sums.{output_column}
use Rattle.golden_commands.specs.Partition.{to_run}
use Rattle.golden_commands.specs.Replay.{IsSetting, Setting, all_steps}

-- The capacity of the channels that the partition doesn't name: the other commands' default. A demo's partition names all of its channels.
abbrev pub demo_capacity : ℕ
demo_capacity = 2

-- the circuit, the partition and the trace of a demo mean this, where no model is known
abbrev pub IsDemoSetting : (seed size : ℕ) → Setting → Type 0
IsDemoSetting seed size setting = IsSetting (to_run []) (demo_circuit size) (demo_partition size) (demo_trace seed size) demo_capacity setting

-- The summary in a setting: how many machines, channels and steps there are, and the columns of the first two out-signals, y and z, in the run. It is
-- the circuit's own run, because a demo's partition has no pipe and no bridge. Its clock has an edge in each cycle, because the partition gives no
-- clocks.
abbrev pub setting_summary : (seed size : ℕ) → Setting → List ℕ
setting_summary seed size setting =
    demo_summary seed size (length setting.layout.turns) (length setting.layout.links) (all_steps setting)
    (output_column (plan_circuit setting.meant.design setting.meant.request []) setting.rows 0) (output_column (plan_circuit setting.meant.design setting.meant.request []) setting.rows 1)

-- the summary of the demo of this seed and size
abbrev pub IsDemoText : (seed size : ℕ) (text : List ℕ) → Type 0
IsDemoText seed size text = (setting : Setting) × IsDemoSetting seed size setting × (text ≡ setting_summary seed size setting)
