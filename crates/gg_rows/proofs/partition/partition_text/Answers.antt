use Rattle.std.proofs.lemmas.Result.{IfOk-weaker}
use Rattle.gg_rows.proofs.partition.partition_text.Goals as goal

pub returns : goal.returns
returns c = IfOk-weaker c.format.result _ _ (λ text e. rw (c.in_ok-units.ensures, c.in_ok-even.ensures, c.in_ok-odd.ensures, c.in_ok-capacities.ensures) at e) c.format.ensures.ok
