use Rattle.std.proofs.Common.{refl}
use Rattle.golden_commands.specs.Commands.{asking}
use Rattle.gg_io.specs.Ends.{loads_of, puts_of}
use Rattle.gg_io.specs.Order.{Write}
use Rattle.gg_words.specs.declared.command.Cmd.TheVariants.{Run}
use Rattle.golden_commands.specs.Partition.{to_run}
use Rattle.golden_commands.specs.Run.{IsTextOf}
use Rattle.gg_build.specs.Build.{circuit_order}
use Rattle.golden_commands.specs.RunText.{run_text}
use Rattle.golden_commands.proofs.CaseLemmas.{case-ordered, fed-ends, fed-stops}
use Rattle.golden_commands.proofs.FedLemmas.{given, network-text-of, run-text-of}
use Rattle.golden_commands.proofs.HandedLemmas.{has-bridges}
use Rattle.golden.proofs.OnlyLemmas.{network-only}
use Rattle.golden_commands.proofs.PartitionLemmas.{designs-agree}
use Rattle.gg_io.proofs.EndingLemmas.{exit-is, loads-on, printed-ends}
use Rattle.golden_commands.proofs.TextLemmas.{only-text}
use Rattle.golden.proofs.CallLemmas.{fed-refused, printed-whole}
use Rattle.golden.proofs.run.run.Goals as goal

pub print_text-requires-clause-fed : goal.print_text-requires-clause-fed
print_text-requires-clause-fed g c κs within = let read = c.in_ok-fed.ensures.read in (read.read.circuit, read.read.partition, read.bytes, c.args.words.now.capacity, read.is)

pub print_text-requires-clause-bridges : goal.print_text-requires-clause-bridges
print_text-requires-clause-bridges g c κs within =
    let read = c.in_ok-fed.ensures.read in
    let fed = c.in_ok-fed.fed in
    let case = fed.case in
    let models = c.args.tools.now.models.now in
    let capacity = c.args.words.now.capacity in
    has-bridges g.B.Bridge.piece g.B.Bridge.state c.args.bridges.items models c.requires.handed c.requires.bridges case.design case.cut.request capacity case.cut.plan fed.trace.columns fed.trace.rows _ _
    (given (to_run models) read.read.circuit read.read.partition read.bytes capacity fed read.is)

pub returns-in_err-fed-clause-did : goal.returns-in_err-fed-clause-did
returns-in_err-fed-clause-did g c =
    let words = c.args.words.now in
    let loads = loads_of g.S.Shelf c.args.shelf.now c.read_fed.new.shelf in
    let asked = asking words.circuit.now words.partition.now words.capacity in
    fed-refused (Run words.circuit.now words.partition.now words.trace.now words.capacity c.args.workers c.args.mono) asked words.trace.now c.in_err-fed.field-0.0
    (λ said. fed-stops loads asked words.trace.now (λ b p t. Write (IsTextOf (to_run c.args.tools.now.models.now) b p t))) refl (exit-is c.from_residual.ensures.1) c.in_err-fed.ensures.refused

pub returns-clause-did : goal.returns-clause-did
returns-clause-did g c =
    let models = c.args.tools.now.models.now in
    let fed = c.in_ok-fed.fed in
    let read = c.in_ok-fed.ensures.read in
    let agree = designs-agree c.one_meaning.ensures.flat c.one_meaning.ensures.tree in
    let prints = c.print_text.ensures.prints in
    record {
      ended =
          fed-ends (loads-on c.read_fed.new.shelf c.read_fed.ensures.shelf) {next = λ b p t. Write (IsTextOf (to_run models) b p t)} read
          (printed-ends _ c.print_text.result
          (record {
            is = run-text-of read.is prints.0 prints.1;
            only =
                only-text agree c.run_once.ensures.from (to_run models) read.read.circuit read.read.partition read.bytes
                fed.case.design fed.case.cut.request (circuit_order fed.case.design fed.case.cut.request models) (case-ordered read.read.is) read.read.is.means read.read.is.cuts.asks
                fed.trace.rows fed.trace.columns prints.0 prints.1 read.is.feeds;
          })
          prints.2);
      network = λ off done.
          let own = c.print_text.ensures.network off in
          let printed = run_text fed.case.design fed.case.cut.request own.0 fed.trace.rows in
          let puts = puts_of g.K.Sink c.args.out.now c.print_text.new.out in
          let whole = printed-whole puts.before puts.after puts.failed printed c.print_text.result own.2 own.3 done in
          record {
            circuit_bytes = read.read.circuit;
            partition_bytes = read.read.partition;
            trace_bytes = read.bytes;
            at_circuit = read.read.at_circuit;
            at_partition = read.read.at_partition;
            at_trace = read.at_trace;
            text = printed;
            written = whole.0;
            of_run = run-text-of read.is own.0 own.1;
            of_network = record {
              is = network-text-of read.is own.0 whole.1;
              only = network-only (to_run models) agree read.read.circuit read.read.partition read.bytes c.args.words.now.capacity fed read.is own.0 own.1;
            };
          };
    }
