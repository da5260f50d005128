use Rattle.gg_tape.proofs.TellLemmas.{TellsTo-ref}
use Rattle.gg_tape.proofs.tell.tell_node.Goals as goal

pub returns-then-is_passed : goal.returns-then-is_passed
returns-then-is_passed c =
    let passed = c.is_passed.ensures c.if-is_passed.true in
    record { told = TellsTo-ref _ _ _ _ _ passed.0 passed.1 }
