use Rattle.std.proofs.Common.{rules}
use Rattle.std.specs.Ordering.{is_lt, nat_cmp}
use Rattle.std.specs.Cmp.Lexicographic.{slice_cmp}
use Rattle.std.proofs.lemmas.List.Sorted.{answers_always}
use Rattle.gg_snap.specs.declared.text.row.Row.{Row}
use Rattle.gg_snap.proofs.TextLemmas.SortLemmas.{order, sorted-by_path}
use Rattle.gg_snap.proofs.text.table.sorted.Goals as goal

pub returns : goal.returns
returns c = sorted-by_path c.args.rows.items c.sort_unstable_by.new.self.items c.sort_unstable_by.ensures.permutation (c.sort_unstable_by.ensures.sorted (λ (x y : Row). is_lt (slice_cmp nat_cmp x.path y.path)) order (answers_always _ _ _ (λ f a r g h. search rules))) c.requires
