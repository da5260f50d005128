use Rattle.std.proofs.Common.{length}
use Rattle.gg_cut_routes.specs.inside.Tables.{direct_by}
use Rattle.gg_cut_routes.proofs.StraightTables.{EntriesTo}
use Rattle.gg_cut_routes.proofs.straight.straight_of.Given as goal

abbrev pub invariant-loop-place : goal.invariant-loop-place
invariant-loop-place l = EntriesTo (direct_by l.piece l.numbering l.sides l.origins l.named l.direct) (length l.piece.signals) l.wires l.place l.straight.items
