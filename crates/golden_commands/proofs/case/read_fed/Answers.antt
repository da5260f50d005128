use Rattle.std.proofs.Common.{inl, arith}
use Rattle.golden_commands.specs.Commands.{asking}
use Rattle.gg_io.specs.Ends.{loads_of}
use Rattle.gg_io.specs.Order.{Load, Write}
use Rattle.golden_commands.specs.Run.{trace_file_for}
use Rattle.gg_io.proofs.EndingLemmas.{can-before, loads-on, exit-is, IfRefused-map}
use Rattle.golden_commands.proofs.CaseLemmas.{case-can, case-later, case-stops}
use Rattle.golden_commands.proofs.ReadingLemmas.{trace-can, trace-refused}
use Rattle.golden_commands.proofs.WholePortLemmas.{fed-columns}
use Rattle.golden_commands.proofs.case.read_fed.Goals as goal

pub returns-in_err-case-clause-refused : goal.returns-in_err-case-clause-refused
returns-in_err-case-clause-refused g c =
    rw (exit-is c.from_residual.ensures.1) (IfRefused-map (λ said. case-stops (loads_of g.S.Shelf c.args.shelf.now c.read_case.new.shelf) (asking c.args.words.now.circuit.now c.args.words.now.partition.now c.args.words.now.capacity) (λ b p. Load (trace_file_for b p c.args.words.now.trace.now) (λ t. Write (λ text. Unit {0})))) c.in_err-case.field-0.0 c.in_err-case.ensures.refused)

pub returns-in_err-inputs-clause-refused : goal.returns-in_err-inputs-clause-refused
returns-in_err-inputs-clause-refused g c =
    let read = c.in_ok-case.ensures.read in
    rw (exit-is c.from_residual-in_err-inputs.ensures.1)
    (IfRefused-map
    (λ said h. case-later (loads-on c.read_inputs.new.shelf c.read_case.ensures.shelf) (λ b p. Load (trace_file_for b p c.args.words.now.trace.now) (λ t. Write (λ text. Unit {0}))) read (inl (trace-refused (loads_of g.S.Shelf c.read_case.new.shelf c.read_inputs.new.shelf) read.is.means.means read.is.cuts.asks said h)))
    c.in_err-inputs.field-0.0 c.in_err-inputs.ensures.refused)

pub returns-clause-read : goal.returns-clause-read
returns-clause-read g c =
    let read = c.in_ok-case.ensures.read in
    let accepted = c.in_ok-inputs.ensures.accepted in
    record {
      read = read;
      bytes = accepted.0;
      at_trace = can-before (loads-on c.read_inputs.new.shelf c.read_case.ensures.shelf) (trace-can c.in_ok-case.case.design.circuit c.in_ok-case.case.cut.request accepted.1);
      is = record {
        case = read.is;
        feeds = accepted.2;
        most = omega (arith, c.rows.ensures.limit, c.rows.ensures.count);
        columns = let case = c.in_ok-case.case in fed-columns case.design case.cut.request c.args.models.now (case-can read.is) accepted.0 c.in_ok-inputs.inputs.rows c.in_ok-inputs.inputs.columns accepted.2.feeds c.in_ok-inputs.ensures.widths;
      };
    }
