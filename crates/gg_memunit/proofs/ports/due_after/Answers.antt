use Rattle.std.proofs.Common.{◌<◌, Some, length, ap, sym, ◌∙◌, arith}
use Rattle.gg_node.specs.inside.Machine.{port_number}
use Rattle.gg_memunit.specs.inside.MemoryUnit.{count_by}
use Rattle.gg_memunit.proofs.PortLemmas.{number_at, count_ports, none_past}
use Rattle.gg_memunit.proofs.ports.due_after.Goals as goal

pub returns-then-served-count : goal.returns-then-served-count
returns-then-served-count c = sym (ap port_number (none_past c.args.latency c.args.readers.now c.args.writers.now c.args.served (omega (arith, c.if-served-count.true, c.count.ensures))))

pub number-requires-clause-place : goal.number-requires-clause-place
number-requires-clause-place c = omega (arith, c.if-served-count.false, c.count.ensures, count_ports c.args.latency c.args.readers.now c.args.writers.now)

pub returns : goal.returns
returns c =
    let below : c.args.served < count_by c.args.latency (length c.args.readers.now) (length c.args.writers.now) = omega (arith, c.if-served-count.false, c.count.ensures, count_ports c.args.latency c.args.readers.now c.args.writers.now) in
    ap (λ n. Some n) c.number.ensures ∙ sym (number_at c.args.latency c.args.readers.now c.args.writers.now c.args.served below)
