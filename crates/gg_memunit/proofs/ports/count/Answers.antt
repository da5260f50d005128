use Rattle.std.proofs.Common.{length, ap, sym, ◌∙◌}
use Rattle.gg_memunit.specs.inside.MemoryUnit.{count_by}
use Rattle.gg_memunit.proofs.PortLemmas.{count_ports}
use Rattle.gg_memunit.proofs.ports.count.Goals as goal

pub returns-in-Zero : goal.returns-in-Zero
returns-in-Zero c =
    let r = c.args.readers.now in
    let w = c.args.writers.now in
    sym (count_ports c.args.latency r w ∙ ap (λ latency. count_by latency (length r) (length w)) c.in-Zero.is)

pub returns-in-One : goal.returns-in-One
returns-in-One c =
    let r = c.args.readers.now in
    let w = c.args.writers.now in
    sym (count_ports c.args.latency r w ∙ ap (λ latency. count_by latency (length r) (length w)) c.in-One.is)
