use Rattle.std.proofs.Common.{arith}
use Rattle.gg_rows.proofs.FrameLemmas.{same-end}
use Rattle.gg_rows.proofs.WindowLemmas.{none-above, then-within}
use Rattle.gg_rows.proofs.window.run_window.Goals as goal

pub run_by-requires-clause-within : goal.run_by-requires-clause-within
run_by-requires-clause-within g c = omega (arith, c.requires.within, same-end c.args.net c.in-Ok.net c.in-Ok.ensures.within.frame)

pub run_by-requires-clause-none_above : goal.run_by-requires-clause-none_above
run_by-requires-clause-none_above g c = λ κs outlive. none-above c.args.upto c.args.net c.in-Ok.net c.in-Ok.ensures.within c.requires.none_above

pub returns-in-Ok-clause-within : goal.returns-in-Ok-clause-within
returns-in-Ok-clause-within g c = then-within c.args.upto c.args.net c.in-Ok.net c.run_by.new.net c.in-Ok.ensures.within c.run_by.ensures.frame c.run_by.ensures.bounds
