use Rattle.std.proofs.Common.{◌≡◌, [], replicate}
use Rattle.gg_cut_split.proofs.pile.piles.Given as goal

abbrev pub invariant-loop : goal.invariant-loop
invariant-loop l = l.piles.items ≡ replicate l.counter []
