use Rattle.std.proofs.Common.{refl}
use Rattle.gg_io.specs.Ends.{loads_of}
use Rattle.gg_io.specs.Order.{Write}
use Rattle.gg_io.proofs.EndingLemmas.{IfRefused-map, exit-is, loads-on, only-ends, stopped-ends}
use Rattle.golden_commands.specs.Check.{IsCutTextOf}
use Rattle.golden_commands.specs.Commands.{asking}
use Rattle.golden_commands.specs.Partition.{to_run}
use Rattle.golden_commands.proofs.CaseLemmas.{case-ends, case-stops}
use Rattle.golden.proofs.check.check.Goals as goal

pub returns-in_err-case-clause-did : goal.returns-in_err-case-clause-did
returns-in_err-case-clause-did g c =
    record {
      ended =
          stopped-ends refl (exit-is c.from_residual.ensures.1)
          (IfRefused-map
          (λ said. case-stops (loads_of g.S.Shelf c.args.shelf.now c.read_case.new.shelf) (asking c.args.circuit.now c.args.partition.now c.args.capacity) (λ b p. Write (IsCutTextOf b p c.args.capacity)))
          c.in_err-case.field-0.0 c.in_err-case.ensures.refused);
      network = tt;
    }

pub returns-clause-did : goal.returns-clause-did
returns-clause-did g c =
    let read = c.in_ok-case.ensures.read in
    record {
      ended =
          case-ends (loads-on c.read_case.new.shelf c.read_case.ensures.shelf) {next = λ b p. Write (IsCutTextOf b p c.args.capacity)} read
          (only-ends c.check_case.result (c.check_case.ensures.prints (to_run c.args.models.now) read.circuit read.partition c.args.capacity read.is));
      network = tt;
    }
