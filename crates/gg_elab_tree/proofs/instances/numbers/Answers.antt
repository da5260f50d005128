use Rattle.std.proofs.Common.{◌≡◌, ℕ, ◌+◌, List, ◌++◌, ◌∷◌, [], take, subst, sym, ap, ◌∙◌, arith}
use Rattle.std.specs.Prelude.{Contains}
use Rattle.std.proofs.lemmas.List.Elements.{All-contains}
use Rattle.gg_flat_tree.specs.Tree.{joined}
use Rattle.gg_elab_sites.specs.declared.digest.OwnMemory.{OwnMemory}
use Rattle.gg_elab_tree.specs.IsTreeOf.{IsAt, Pairwise}
use Rattle.gg_elab_tree.specs.inside.TreeParts.{IsNumberAt}
use Rattle.gg_elab_tree.proofs.TreePartLemmas.{Pairwise-next}
use Rattle.gg_elab_tree.proofs.instances.numbers.Goals as goal

pub loop-own-preserved : goal.loop-own-preserved
loop-own-preserved c =
    let R = IsNumberAt c.args.paths.now c.args.outer.now in
    let number : IsNumberAt c.args.paths.now c.args.outer.now c.own-item.result c.place_at-number.result = subst (λ (path : List ℕ). IsAt c.args.paths.now path c.place_at-number.result) c.in_ok-path.ensures c.place_at-number.ensures in
    let next = Pairwise-next (IsNumberAt c.args.paths.now c.args.outer.now) c.args.memories.now c.loop-own.own-index c.own-item.result c.loop-own.numbers.items c.place_at-number.result (omega arith) c.own-item.is c.loop-own.invariant number in
    let items : c.push_reserved.new.self.items ≡ c.loop-own.numbers.items ++ c.place_at-number.result ∷ [] = c.push_reserved.ensures.items ∙ ap (λ (l : List ℕ). l ++ c.place_at-number.result ∷ []) c.reserve.ensures.items in
    subst (λ (l : List ℕ). Pairwise (IsNumberAt c.args.paths.now c.args.outer.now) (take (c.loop-own.own-index + 1) c.args.memories.now) l) (sym items) next

pub place_at-number-requires : goal.place_at-number-requires
place_at-number-requires c = record {
  there = subst (Contains c.args.paths.now) (sym c.in_ok-path.ensures)
      (All-contains (λ (own : OwnMemory). Contains c.args.paths.now (joined c.args.outer.now own.name.now)) c.args.memories.now c.own-item.result c.requires.there (c.loop-own.own-index, omega arith, sym c.own-item.is));
}
