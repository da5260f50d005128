use Rattle.std.proofs.Common.{◌≡◌}
use Rattle.serde_json.specs.View.{members_view}
use Rattle.gg_partfile.specs.Shapes.{each_member}
use Rattle.gg_partfile.proofs.ListSteps.{behind}
use Rattle.gg_partfile.proofs.lists.each_member.Given as goal

abbrev pub invariant-loop-key : goal.invariant-loop-key
invariant-loop-key g l = record {
  next : (goal.iterator-loop-key g).can_next l.key-iterator;
  finite : (goal.iterator-loop-key g).is_finite l.key-iterator;
  reads : behind l.found.items (each_member g.T.FromValue.reads (members_view l.key-iterator)) ≡ each_member g.T.FromValue.reads (members_view l.members.entries);
}
