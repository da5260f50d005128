use Rattle.std.proofs.Common.{map}
use Rattle.serde_json.specs.View.{view}
use Rattle.gg_partfile.proofs.ListSteps.{ReadsItems}
use Rattle.gg_partfile.proofs.lists.each.Given as goal

abbrev pub invariant-loop-item : goal.invariant-loop-item
invariant-loop-item g l = ReadsItems g.T.FromValue.reads (map view l.items) l.item-index l.found.items
