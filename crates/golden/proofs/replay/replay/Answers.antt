use Rattle.std.proofs.Common.{refl}
use Rattle.gg_io.specs.Ends.{loads_of}
use Rattle.gg_io.specs.Order.{Load, Write}
use Rattle.gg_io.proofs.EndingLemmas.{exit-is, loads-on}
use Rattle.gg_words.specs.declared.command.Cmd.TheVariants.{Replay}
use Rattle.golden_commands.specs.Commands.{asking}
use Rattle.golden_commands.specs.Replay.{IsReplayOf, steps_file_for}
use Rattle.golden_commands.specs.Partition.{to_run}
use Rattle.golden_commands.proofs.CaseLemmas.{fed-ends, fed-stops}
use Rattle.golden_commands.proofs.FedLemmas.{given}
use Rattle.golden_commands.proofs.HandedLemmas.{has-bridges}
use Rattle.golden.proofs.CallLemmas.{fed-refused}
use Rattle.golden.proofs.SteppedLemmas.{read-told}
use Rattle.golden.proofs.replay.replay.Goals as goal

pub replay_steps-requires-clause-fed : goal.replay_steps-requires-clause-fed
replay_steps-requires-clause-fed g c κs within = let read = c.in_ok-fed.ensures.read in (read.read.circuit, read.read.partition, read.bytes, c.args.words.now.capacity, read.is)

pub replay_steps-requires-clause-bridges : goal.replay_steps-requires-clause-bridges
replay_steps-requires-clause-bridges g c κs within =
    let read = c.in_ok-fed.ensures.read in
    let fed = c.in_ok-fed.fed in
    let case = fed.case in
    let capacity = c.args.words.now.capacity in
    has-bridges g.B.Bridge.piece g.B.Bridge.state c.args.bridges.items c.args.models.now c.requires.handed c.requires.bridges case.design case.cut.request capacity case.cut.plan fed.trace.columns fed.trace.rows _ _
    (given (to_run c.args.models.now) read.read.circuit read.read.partition read.bytes capacity fed read.is)

pub returns-in_err-fed-clause-did : goal.returns-in_err-fed-clause-did
returns-in_err-fed-clause-did g c =
    let words = c.args.words.now in
    let known = to_run c.args.models.now in
    let loads = loads_of g.S.Shelf c.args.shelf.now c.read_fed.new.shelf in
    let asked = asking words.circuit.now words.partition.now words.capacity in
    fed-refused (Replay words.circuit.now words.partition.now words.trace.now c.args.steps.now words.capacity) asked words.trace.now c.in_err-fed.field-0.0
    (λ said. fed-stops loads asked words.trace.now (λ b p t. Load (steps_file_for known b p t words.capacity c.args.steps.now) (λ s. Write (IsReplayOf known b p t words.capacity s))))
    refl (exit-is c.from_residual.ensures.1) c.in_err-fed.ensures.refused

pub returns-clause-did : goal.returns-clause-did
returns-clause-did g c =
    let capacity = c.args.words.now.capacity in
    let known = to_run c.args.models.now in
    let read = c.in_ok-fed.ensures.read in
    record {
      ended =
          fed-ends (loads-on c.replay_steps.new.shelf c.read_fed.ensures.shelf) {next = λ b p t. Load (steps_file_for known b p t capacity c.args.steps.now) (λ s. Write (IsReplayOf known b p t capacity s))} read
          (c.replay_steps.ensures.ended read.read.circuit read.read.partition read.bytes capacity read.is);
      network = read-told c.read_fed.ensures.shelf.files_stay read (c.replay_steps.ensures.network read.read.circuit read.read.partition read.bytes capacity read.is);
    }
