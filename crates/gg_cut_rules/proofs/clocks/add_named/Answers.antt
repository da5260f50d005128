use Rattle.std.proofs.Common.{rules, ◌≡◌, ℕ, ◌+◌, List, ◌++◌, ◌∷◌, [], get_or, sym, ◌∙◌, ap, subst}
use Rattle.std.specs.Prelude.{Contains}
use Rattle.std.proofs.lemmas.Option.{same_Some, slice_get-get_or}
use Rattle.gg_flat.specs.Clock.{Ratio}
use Rattle.gg_cut_plan.specs.inside.Named.{AreNamed}
use Rattle.gg_cut_rules.proofs.NamedLemmas.{named-again, named-more}
use Rattle.gg_cut_rules.proofs.clocks.add_named.Goals as goal

pub returns-in_ok-push-in-Ok : goal.returns-in_ok-push-in-Ok
returns-in_ok-push-in-Ok c =
    λ clocks i lt found are.
    let pair = c.args.pair.now in
    let names = c.args.names.now in
    let copy : c.in_ok-clone.field-0 ≡ pair.0 = c.in_ok-clone.ensures.cases in
    named-more clocks i names c.args.ratios.now.items pair lt (same_Some (get_or clocks i pair) pair (sym (slice_get-get_or clocks i pair lt) ∙ found)) are c.add.new.self c.push.new.self.items
    (subst (λ (l : List ℕ). Contains names l → ⊥) copy c.in-Ok.ensures.fresh)
    (c.in-Ok.ensures.ok ∙ ap (λ (l : List ℕ). names ++ l ∷ []) copy)
    (c.in_ok-push-in-Ok.ensures.items ∙ ap (λ (r : Ratio). c.args.ratios.now.items ++ r ∷ []) c.ratio_with-ratio.ensures)

pub returns-in-Err-Doubled : goal.returns-in-Err-Doubled
returns-in-Err-Doubled c =
    λ clocks i lt found are.
    let pair = c.args.pair.now in
    let names = c.args.names.now in
    let copy : c.in_ok-clone.field-0 ≡ pair.0 = c.in_ok-clone.ensures.cases in
    let there : Contains names pair.0 = subst (Contains names) copy (search rules) in
    subst (λ (l : List (List ℕ)). AreNamed clocks (i + 1) l c.args.ratios.now.items) (sym c.in-Err-Doubled.ensures.err)
    (named-again clocks i names c.args.ratios.now.items pair lt (same_Some (get_or clocks i pair) pair (sym (slice_get-get_or clocks i pair lt) ∙ found)) are there)
