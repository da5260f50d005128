use Rattle.std.proofs.Common.{◌≡◌, take}
use Rattle.std.specs.Prelude.{fold}
use Rattle.gg_flat.specs.Served.{written}
use Rattle.gg_order.proofs.runs.bank.write_words.Given as goal

abbrev pub invariant-loop-w : goal.invariant-loop-w
invariant-loop-w l = l.words ≡ fold (written l.edges l.signals) l.initial.words (take l.w l.writers)
