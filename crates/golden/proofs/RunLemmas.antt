-- The orders of the commands.
use Rattle.std.proofs.Common.{ℕ, List, [], Option, None, Some}
use Rattle.gg_io.specs.Order.{IsExact, IsUnique, Load, Order}
use Rattle.gg_words.specs.declared.command.Cmd.{Cmd}
use Rattle.gg_words.specs.declared.command.Cmd.TheVariants.{Run, Replay, Check, Demo, Save, Resume}
use Rattle.gg_cut_plan.specs.Bridges.{Models}
use Rattle.golden_commands.specs.Commands.{Asked, asked_by, known_of, order_behind, order_by, order_of}
use Rattle.golden_commands.specs.Partition.{Known, partition_file_for, to_run}
use Rattle.golden.proofs.FrontLemmas.{NoFaultAccepted, circuit_file-exact}
use Rattle.golden_commands.proofs.PartitionLemmas.{DesignsAgree, FileApart, OneKey, partition_file-exact, partition_file-unique}
use Rattle.golden.proofs.ResumedLemmas.{NoSnapFault, OneCycle, OneSnapFault, PlansCanSave, snap_file-exact, snap_file-unique}
use Rattle.golden.proofs.SavedLemmas.{saved_file-exact, saved_file-unique}
use Rattle.golden_commands.proofs.SettingLemmas.{steps_file-exact, steps_file-unique}
use Rattle.golden_commands.proofs.TextLemmas.{OneFlat}
use Rattle.golden.proofs.TraceLemmas.{NoFault, OneFirstFault, trace_file-exact, trace_file-unique}

module _ (models : Models) (designs : DesignsAgree) (apart : FileApart) (key : OneKey) (agree : OneFlat) (once : OneFirstFault) (none : NoFault)
    (can : PlansCanSave) (right : NoSnapFault) (cycle : OneCycle) (first : OneSnapFault) where
  behind-exact : (command : Cmd) (c p : List ℕ) → IsExact (order_behind models command c p)
  behind-exact (Run circuit partition trace capacity workers mono) c p = (trace_file-exact agree once none c p trace, λ t. tt)
  behind-exact (Replay circuit partition trace steps capacity) c p = (trace_file-exact agree once none c p trace, λ t. (steps_file-exact (to_run models) designs c p t capacity steps, λ s. tt))
  behind-exact (Check circuit partition capacity) c p = tt
  behind-exact (Demo seed size workers) c p = tt
  behind-exact (Save circuit partition trace at capacity workers) c p = (saved_file-exact models designs agree once none c p at trace, λ t. tt)
  behind-exact (Resume circuit partition trace snap capacity workers) c p =
      (trace_file-exact agree once none c p trace, λ t. (snap_file-exact models designs can right cycle first c p t snap, λ s. tt))

  behind-unique : (command : Cmd) (c p : List ℕ) → IsUnique (order_behind models command c p)
  behind-unique (Run circuit partition trace capacity workers mono) c p = (trace_file-unique agree once none c p trace, λ t. tt)
  behind-unique (Replay circuit partition trace steps capacity) c p = (trace_file-unique agree once none c p trace, λ t. (steps_file-unique (to_run models) designs c p t capacity steps, λ s. tt))
  behind-unique (Check circuit partition capacity) c p = tt
  behind-unique (Demo seed size workers) c p = tt
  behind-unique (Save circuit partition trace at capacity workers) c p = (saved_file-unique models designs agree once none c p at trace, λ t. tt)
  behind-unique (Resume circuit partition trace snap capacity workers) c p =
      (trace_file-unique agree once none c p trace, λ t. (snap_file-unique models designs can right cycle first c p t snap, λ s. tt))

  by-exact : (known : Known) → NoFaultAccepted → (asked : Option Asked) (next : (c p : List ℕ) → Order) → ((c p : List ℕ) → IsExact (next c p)) → IsExact (order_by known asked next)
  by-exact known never (Some asked) next behind = (circuit_file-exact never asked.circuit, λ c. (partition_file-exact known designs apart key c asked.partition, behind c))
  by-exact known never None next behind = behind [] []

  pub order-exact : NoFaultAccepted → (command : Cmd) → IsExact (order_of models command)
  order-exact never command = by-exact (known_of models command) never (asked_by command) (order_behind models command) (behind-exact command)

  pub order-unique : (command : Cmd) (asked : Asked) (circuit : List ℕ) → IsUnique (Load (partition_file_for (known_of models command) circuit asked.partition) (order_behind models command circuit))
  order-unique command asked circuit = (partition_file-unique (known_of models command) designs apart key circuit asked.partition, behind-unique command circuit)
