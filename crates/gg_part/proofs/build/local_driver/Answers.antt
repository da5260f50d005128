use Rattle.std.proofs.Common.{sym, subst}
use Rattle.gg_flat.specs.Line.{value_at}
use Rattle.gg_part.specs.Part.{IsFrom}
use Rattle.gg_part.proofs.BackLemmas.{driver-from, table-back}
use Rattle.gg_part.proofs.build.local_driver.Goals as goal

pub returns : goal.returns
returns c =
    let frame = c.args.frame.now in
    let by = c.local-by.result in
    λ ins s. subst (IsFrom ins frame.globals frame.held frame.memories s c.args.driver.now) (sym c.in_ok-own.ensures)
    (driver-from frame.globals frame.held frame.memories (value_at by.signals.now) (value_at by.registers.now) (value_at by.memories.now)
    (table-back frame.globals by.signals.now c.local-by.ensures.signals) (table-back frame.held by.registers.now c.local-by.ensures.registers) (table-back frame.memories by.memories.now c.local-by.ensures.memories)
    ins s by.clock c.args.driver.now c.requires.inside c.requires.signals c.requires.registers c.requires.memories)
