use Rattle.std.proofs.Common.{◌≡◌, [], drop}
use Rattle.gg_read_row.specs.inside.Reading.{more_names_at}
use Rattle.gg_read_row.proofs.cursor.all_names.Given as goal

abbrev pub invariant-loop-token : goal.invariant-loop-token
invariant-loop-token l = more_names_at [] l.tokens ≡ more_names_at l.names.items (drop l.token-index l.tokens)
