use Rattle.std.proofs.Common.{sym, ◌∙◌}
use Rattle.gg_program.proofs.CycleLemmas.{DoneWith-before, DoneWith-all}
use Rattle.gg_program.proofs.slots.Slots.reach.Goals as goal

pub returns-then-takes_all-clause-done : goal.returns-then-takes_all-clause-done
returns-then-takes_all-clause-done g c =
    DoneWith-all c.args.piece.now c.args.signal c.args.self.now c.rest.new.self c.requires.formed c.requires.known c.requires.cycle.held.count (c.takes_all.ensures c.if-takes_all.true) c.rest.ensures.done

pub returns-else-not-is_done-clause-done : goal.returns-else-not-is_done-clause-done
returns-else-not-is_done-clause-done g c =
    DoneWith-before c.args.piece.now c.args.state.now c.args.signal c.args.self.now c.requires.cycle (sym c.is_done.ensures ∙ c.if-not-is_done.false)
