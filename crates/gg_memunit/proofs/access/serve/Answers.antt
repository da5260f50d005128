use Rattle.std.proofs.Common.{◌-◌, ◌≤◌, length, ap, ◌∙◌, arith}
use Rattle.gg_flat.specs.Served.{after_access}
use Rattle.gg_memunit.proofs.PortLemmas.{writer-access}
use Rattle.gg_memunit.proofs.access.serve.Goals as goal

pub returns-else-port-readers : goal.returns-else-port-readers
returns-else-port-readers c =
    let readers = c.args.memory.now.readers in
    let writers = c.args.memory.now.writers in
    let above : length readers ≤ c.args.port = omega (arith, c.if-port-readers.false, ap length c.as_slice-readers.ensures) in
    c.serve_writer.ensures.served (c.args.port - length readers)
    ∙ ap (after_access c.args.edges.now c.args.inputs.now c.args.bank.now) (writer-access c.as_slice-readers.result.now readers c.as_slice-writers.result.now writers c.args.port c.as_slice-readers.ensures c.as_slice-writers.ensures above)
