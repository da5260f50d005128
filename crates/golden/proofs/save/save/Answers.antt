use Rattle.std.proofs.Common.{refl}
use Rattle.gg_io.specs.Ends.{loads_of}
use Rattle.gg_io.proofs.EndingLemmas.{exit-is}
use Rattle.gg_words.specs.declared.command.Cmd.TheVariants.{Save}
use Rattle.golden_commands.specs.Commands.{asking}
use Rattle.golden.proofs.CallLemmas.{fed-refused}
use Rattle.golden.proofs.UptoLemmas.{saved-ends, saved-stops}
use Rattle.golden.proofs.save.save.Goals as goal

pub save_fed-requires-clause-fed : goal.save_fed-requires-clause-fed
save_fed-requires-clause-fed g c κs within = let read = c.in_ok-fed.ensures.read in (read.read.circuit, read.read.partition, read.bytes, c.args.words.now.capacity, read.is)

pub returns-in_err-fed-clause-did : goal.returns-in_err-fed-clause-did
returns-in_err-fed-clause-did g c =
    let words = c.args.words.now in
    let asked = asking words.circuit.now words.partition.now words.capacity in
    fed-refused (Save words.circuit.now words.partition.now words.trace.now c.args.at words.capacity c.args.workers) asked words.trace.now c.in_err-fed.field-0.0
    (λ said. saved-stops (loads_of g.S.Shelf c.args.shelf.now c.read_fed.new.shelf) asked c.args.at words.trace.now) refl (exit-is c.from_residual.ensures.1) c.in_err-fed.ensures.refused

pub returns-clause-did : goal.returns-clause-did
returns-clause-did g c =
    let read = c.in_ok-fed.ensures.read in
    record {
      ended = saved-ends c.args.at c.from.result read c.from.ensures (c.save_fed.ensures.ended read.read.circuit read.read.partition read.bytes c.args.words.now.capacity read.is);
      network = tt;
    }
