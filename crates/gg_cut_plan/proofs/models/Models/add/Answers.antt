use Rattle.std.proofs.Common.{refl, sym, ◌∙◌}
use Rattle.indexmap.proofs.CallerLemmas.{insert_entry-new}
use Rattle.gg_cut_plan.proofs.ModelLemmas.{found-name, missing-name, none-found}
use Rattle.gg_cut_plan.proofs.models.Models.add.Goals as goal

pub returns-then-contains_key-clause-doubled : goal.returns-then-contains_key-clause-doubled
returns-then-contains_key-clause-doubled c =
    rw (← c.self.view_is) (λ _. found-name _ _ (sym c.contains_key.ensures ∙ c.if-contains_key.true), λ _. refl)

pub returns-in-Ok-clause-ok : goal.returns-in-Ok-clause-ok
returns-in-Ok-clause-ok c =
    rw (← c.self.view_is) (c.in-Ok.ensures.entries ∙ insert_entry-new _ c.self.inside.pieces _ _ (none-found _ (sym c.contains_key.ensures ∙ c.if-contains_key.false)))

pub returns-in-Ok-clause-fresh : goal.returns-in-Ok-clause-fresh
returns-in-Ok-clause-fresh c = rw (← c.self.view_is) (missing-name _ _ (sym c.contains_key.ensures ∙ c.if-contains_key.false))

pub returns-in-Ok-clause-doubled : goal.returns-in-Ok-clause-doubled
returns-in-Ok-clause-doubled c =
    rw (← c.self.view_is) (λ e. absurd (cc), λ member. absurd (missing-name _ _ (sym c.contains_key.ensures ∙ c.if-contains_key.false) member))

pub returns-clause-doubled : goal.returns-clause-doubled
returns-clause-doubled c =
    rw (← c.self.view_is) (λ e. absurd (cc), λ member. absurd (missing-name _ _ (sym c.contains_key.ensures ∙ c.if-contains_key.false) member))
