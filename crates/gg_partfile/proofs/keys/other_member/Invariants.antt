use Rattle.std.proofs.Common.{◌≡◌, map}
use Rattle.serde_json.specs.View.{members_view}
use Rattle.gg_partfile.specs.Shapes.{other_member}
use Rattle.gg_partfile.proofs.keys.other_member.Given as goal

abbrev pub invariant-loop-key : goal.invariant-loop-key
invariant-loop-key l = record {
  next : (goal.iterator-loop-key).can_next l.key-iterator;
  finite : (goal.iterator-loop-key).is_finite l.key-iterator;
  other : other_member (map (λ k. k.now) l.keys) (members_view l.key-iterator) ≡ other_member (map (λ k. k.now) l.keys) (members_view l.members.entries);
}
