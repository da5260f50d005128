use Rattle.std.proofs.Common.{sym, ◌∙◌}
use Rattle.golden_commands.proofs.whole.joined_with.Goals as goal

pub joined_by-requires-clause-at : goal.joined_by-requires-clause-at
joined_by-requires-clause-at c = sym c.place_of.ensures ∙ c.in-Some.is
