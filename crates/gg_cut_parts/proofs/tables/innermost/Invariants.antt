use Rattle.std.proofs.Common.{◌≡◌, ℕ, ◌<◌, length}
use Rattle.gg_flat.specs.Line.{value_at}
use Rattle.gg_flat_tree.specs.Tree.{Holds, instance_at}
use Rattle.gg_cut_parts.specs.inside.Innermost.{IsLast}
use Rattle.gg_cut_parts.proofs.tables.innermost.Given as goal

abbrev pub invariant-loop-place : goal.invariant-loop-place
invariant-loop-place l =
    record {
      count : length l.places.items ≡ l.count;
      last : (s k : ℕ) → k < l.place → Holds (instance_at l.tree k) s → IsLast l.tree l.place s (value_at l.places.items s);
    }
