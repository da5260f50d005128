use Rattle.std.proofs.Common.{◌≡◌, ◌++◌, ◌∙◌, List, ℕ, Some, None, ap, ap₂, sym, subst}
use Rattle.std.specs.Prelude.{Option, MatchOption}
use Rattle.gg_cut_plan.proofs.CounterpartLemmas.{behind, not-behind}
use Rattle.gg_cut_rules.proofs.counterparts.rest_behind.Goals as goal

pub returns-in-Some : goal.returns-in-Some
returns-in-Some c =
    let found = c.in-Some.ensures.cases in
    let is : c.args.path.now ≡ c.args.unit.now ++ c.in-Some.rest.now =
    sym c.as_str.ensures ∙ found.1.1 ∙ ap₂ (λ a b. a ++ b) c.as_str-2.ensures (sym found.2) in
    subst (λ (known : Option (List ℕ)). MatchOption c.dotted.result (known ≡ None) (λ rest. known ≡ Some rest.now)) (sym (behind c.args.unit.now c.args.path.now c.in-Some.rest.now is)) c.dotted.ensures

pub returns-in-None : goal.returns-in-None
returns-in-None c =
    not-behind c.args.unit.now c.args.path.now (λ rest is. c.in-None.ensures.cases rest (c.as_str.ensures ∙ is ∙ ap (λ unit. unit ++ rest) (sym c.as_str-2.ensures)))
