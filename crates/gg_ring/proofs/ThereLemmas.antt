-- The one seat that puts and the one that takes stay there.
use Rattle.std.proofs.Common.{◌≡◌, ◌≢◌, ℕ, zero, suc, Bool, true, List, [], ◌∷◌, ◌++◌, length, set, refl, sym, ap, ◌∙◌}
use mathlib.Core.Option.{some, some-injective, some-ne-none}
use lib.ListN.{get_elem?}
use Rattle.atomic_table.proofs.Lists.{set_else, at_longer, at_last}
use Rattle.gg_ring.specs.declared.rule.View.{View}
use Rattle.gg_ring.specs.inside.Rule.{There}

-- a seat's view is changed, and it may do what it could
pub there-set : (may : View → Bool) (views : List View) (id p : ℕ) (v w : View) → get_elem? views id ≡ some v → (may v ≡ true → may w ≡ true) → There may views p → There may (set views id w) p
there-set may [] id p v w at keep there = absurd (some-ne-none v (sym at))
there-set may (x ∷ views) zero zero v w at keep there = (w, refl, keep (ap may (sym (some-injective x v at) ∙ some-injective x there.0 there.1) ∙ there.2))
there-set may (x ∷ views) zero (suc p) v w at keep there = there
there-set may (x ∷ views) (suc id) zero v w at keep there = there
there-set may (x ∷ views) (suc id) (suc p) v w at keep there = there-set may views id p v w at keep there

-- a seat gets a view that may do so
pub there-here : (may : View → Bool) (views : List View) (id : ℕ) (v w : View) → get_elem? views id ≡ some v → may w ≡ true → There may (set views id w) id
there-here may [] id v w at is = absurd (some-ne-none v (sym at))
there-here may (x ∷ views) zero v w at is = (w, refl, is)
there-here may (x ∷ views) (suc id) v w at is = there-here may views id v w at is

-- another seat's view is changed
pub there-else : (may : View → Bool) (views : List View) (id p : ℕ) (w : View) → p ≢ id → There may views p → There may (set views id w) p
there-else may views id p w apart there = (there.0, set_else views id p w apart ∙ there.1, there.2)

-- a seat is added
pub there-longer : (may : View → Bool) (views : List View) (added : View) (p : ℕ) → There may views p → There may (views ++ added ∷ []) p
there-longer may views added p there = (there.0, at_longer views (added ∷ []) p there.0 there.1, there.2)

pub there-last : (may : View → Bool) (views : List View) (added : View) → may added ≡ true → There may (views ++ added ∷ []) (length views)
there-last may views added is = (added, at_last views added (length views) refl, is)
