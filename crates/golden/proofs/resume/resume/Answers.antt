use Rattle.std.proofs.Common.{refl}
use Rattle.gg_io.specs.Ends.{loads_of}
use Rattle.gg_io.specs.Order.{Load, Write}
use Rattle.gg_io.proofs.EndingLemmas.{exit-is, loads-on}
use Rattle.gg_words.specs.declared.command.Cmd.TheVariants.{Resume}
use Rattle.golden_commands.specs.Commands.{asking}
use Rattle.golden_commands.specs.Partition.{to_save}
use Rattle.golden_commands.specs.Resumed.{IsResumedText, snap_file_for}
use Rattle.golden_commands.proofs.CaseLemmas.{fed-ends, fed-stops}
use Rattle.golden.proofs.CallLemmas.{fed-refused}
use Rattle.golden.proofs.resume.resume.Goals as goal

pub resume_fed-requires-clause-fed : goal.resume_fed-requires-clause-fed
resume_fed-requires-clause-fed g c κs within = let read = c.in_ok-fed.ensures.read in (read.read.circuit, read.read.partition, read.bytes, c.args.words.now.capacity, read.is)

pub returns-in_err-fed-clause-did : goal.returns-in_err-fed-clause-did
returns-in_err-fed-clause-did g c =
    let words = c.args.words.now in
    let known = to_save c.args.tools.now.models.now in
    let loads = loads_of g.S.Shelf c.args.shelf.now c.read_fed.new.shelf in
    let asked = asking words.circuit.now words.partition.now words.capacity in
    fed-refused (Resume words.circuit.now words.partition.now words.trace.now c.args.snap.now words.capacity c.args.workers) asked words.trace.now c.in_err-fed.field-0.0
    (λ said. fed-stops loads asked words.trace.now (λ b p t. Load (snap_file_for known b p t c.args.snap.now) (λ s. Write (IsResumedText known b p t s))))
    refl (exit-is c.from_residual.ensures.1) c.in_err-fed.ensures.refused

pub returns-clause-did : goal.returns-clause-did
returns-clause-did g c =
    let known = to_save c.args.tools.now.models.now in
    let read = c.in_ok-fed.ensures.read in
    record {
      ended =
          fed-ends (loads-on c.resume_fed.new.shelf c.read_fed.ensures.shelf) {next = λ b p t. Load (snap_file_for known b p t c.args.snap.now) (λ s. Write (IsResumedText known b p t s))} read
          (c.resume_fed.ensures.ended read.read.circuit read.read.partition read.bytes c.args.words.now.capacity read.is);
      network = tt;
    }
