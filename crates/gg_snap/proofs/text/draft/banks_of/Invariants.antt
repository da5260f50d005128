use Rattle.std.proofs.Common.{◌≡◌}
use Rattle.gg_snap.proofs.text.draft.banks_of.Given as goal

abbrev pub invariant-loop-bank : goal.invariant-loop-bank
invariant-loop-bank l = l.banks.items ≡ l.yielded
