use Rattle.std.proofs.Common.{ap, ◌∙◌, ◌++◌, ◌∷◌, [], List, ℕ, map, take, arith}
use Rattle.gg_flat_tree.specs.Tree.{path_at}
use Rattle.gg_cut_reference.specs.text.CheckText.{spaced}
use Rattle.gg_cut_reference.specs.inside.PlanText.{channel_names}
use Rattle.gg_cut_reference.proofs.TextLemmas.LineLemmas.{spaced-more}
use Rattle.gg_cut_reference.proofs.text.needs.spaced.Goals as goal

pub loop-need-preserved : goal.loop-need-preserved
loop-need-preserved c =
    let f : ℕ → List ℕ = path_at (channel_names c.args.channels.now) in
    c.in_ok-push_str-2.ensures.bytes
    ∙ ap (λ (l : List ℕ). l ++ c.channel_name.result.now) (c.in_ok-push_str.ensures.bytes ∙ ap (λ (l : List ℕ). l ++ 32 ∷ []) c.loop-need.invariant)
    ∙ ap (λ (l : List ℕ). (spaced (map f (take c.loop-need.need-index c.args.needs.now)) ++ 32 ∷ []) ++ l) c.channel_name.ensures
    ∙ spaced-more f c.args.needs.now c.loop-need.need-index 0 (omega (arith, c.loop-need-test.true))
