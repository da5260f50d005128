use Rattle.std.proofs.Common.{inl}
use Rattle.gg_io.specs.Ends.{loads_of}
use Rattle.gg_io.specs.Order.{Load, Write}
use Rattle.golden_commands.specs.Partition.{partition_file_for}
use Rattle.gg_io.proofs.EndingLemmas.{can-before, later-stops, loads-on, exit-is, IfRefused-map}
use Rattle.golden_commands.proofs.PartitionLemmas.{partition-can, partition-refused}
use Rattle.golden_commands.proofs.case.read_case.Goals as goal

pub returns-in_err-design-clause-refused : goal.returns-in_err-design-clause-refused
returns-in_err-design-clause-refused g c =
    rw (exit-is c.from_residual.ensures.1) (IfRefused-map (λ said h. inl h) c.in_err-design.field-0.0 c.in_err-design.ensures.refused)

pub returns-in_err-cut-clause-refused : goal.returns-in_err-cut-clause-refused
returns-in_err-cut-clause-refused g c =
    let accepted = c.in_ok-design.ensures.accepted in
    rw (exit-is c.from_residual-in_err-cut.ensures.1)
    (IfRefused-map
    (λ said h. later-stops (loads-on c.read_cut.new.shelf c.load_circuit.ensures.shelf) (λ b. Load (partition_file_for (record { models = c.args.models.now; saves = c.args.saves }) b c.args.partition.now) (λ p. Write (λ text. Unit {0}))) accepted.0 accepted.1 accepted.2.means.text (inl (partition-refused (loads_of g.S.Shelf c.load_circuit.new.shelf c.read_cut.new.shelf) accepted.2 said h)))
    c.in_err-cut.field-0.0 c.in_err-cut.ensures.refused)

pub returns-clause-read : goal.returns-clause-read
returns-clause-read g c =
    let accepted = c.in_ok-design.ensures.accepted in
    let cut = c.in_ok-cut.ensures.accepted in
    record {
      circuit = accepted.0;
      partition = cut.0;
      at_circuit = accepted.1;
      at_partition = can-before (loads-on c.read_cut.new.shelf c.load_circuit.ensures.shelf) (partition-can cut.1);
      is = record {
        means = accepted.2;
        designed = record { formed = c.piece.ensures.formed; ordered = c.order.ensures.ordered };
        keeps = c.in_ok-design.ensures.keeps;
        held = c.in_ok-design.ensures.held;
        whole = c.in_ok-design.ensures.whole;
        cuts = cut.2;
        handed = c.requires.handed;
        bounded = c.requires.capacity;
        planned = c.in_ok-cut.ensures.planned;
      };
    }
