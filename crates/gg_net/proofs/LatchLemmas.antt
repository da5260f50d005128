-- Latches and flags: what one more token changes, and what is empty after a cycle.
use Rattle.std.proofs.Common.{◌≡◌, ℕ, zero, suc, ◌<◌, List, [], ◌∷◌, Option, None, Some, true, false, length, refl, sym, ap, subst, ◌∙◌, ⊎_elim, arith, get_or-set_same, get_or-set_other, true≢false}
use Rattle.std.specs.Prelude.{All, Contains, IsSome, slice_set, slice_index_or, replicate}
use Rattle.std.proofs.lemmas.Bool.{cases_eq}
use Rattle.std.proofs.lemmas.Option.{same_Some, none-some}
use Rattle.std.proofs.Math.ListN.{get_or-map}
use Rattle.gg_flat.specs.Line.{value_at}
use Rattle.gg_node.specs.Machine.{latch_at, flag_at, latched_value, latched_values, first_empty, empty_or}
use Rattle.gg_node.proofs.EmptyLemmas.{filled, empty-after}

-- ---- latches

-- a latch that holds a token holds its value
pub has-value : (latch : Option ℕ) → IsSome latch → latch ≡ Some (latched_value latch)
has-value None some = absurd (true≢false (sym some))
has-value (Some value) some = refl

-- a latch that holds a token exists
pub latch-within : (latches : List (Option ℕ)) (i value : ℕ) → latch_at latches i ≡ Some value → i < length latches
latch-within [] i value is = absurd (none-some value is)
latch-within (latch ∷ latches) zero value is = omega arith
latch-within (latch ∷ latches) (suc i) value is = let within : i < length latches = latch-within latches i value is in omega arith

-- a latch that holds a token still does after another token was put
pub latch-grows : (latches : List (Option ℕ)) (i value j : ℕ) → i < length latches → IsSome (latch_at latches j) → IsSome (latch_at (slice_set latches i (Some value)) j)
latch-grows latches i value j below some =
    ⊎_elim
    (λ same. subst IsSome (sym (ap (latch_at (slice_set latches i (Some value))) same ∙ get_or-set_same latches i (Some value) None below)) refl)
    (λ other. subst IsSome (sym (get_or-set_other latches i j (Some value) None other)) some)
    (cases_eq j i)

-- the value in a latch is at its place among the latched values
pub value-latched : (latches : List (Option ℕ)) (i value : ℕ) → latch_at latches i ≡ Some value → value_at (latched_values latches) i ≡ value
value-latched latches i value is = get_or-map latched_value latches i None ∙ ap latched_value is

-- ---- the first empty one of some ins

-- if none of the ins is empty, each has its token
pub all-filled : (latches : List (Option ℕ)) (ins : List ℕ) → first_empty latches ins ≡ None → All (λ i. IsSome (latch_at latches i)) ins
all-filled latches [] none k d below = absurd (omega arith)
all-filled latches (i ∷ ins) none zero d below = subst IsSome (sym (filled (latch_at latches i) i (first_empty latches ins) none).0) refl
all-filled latches (i ∷ ins) none (suc k) d below = all-filled latches ins (filled (latch_at latches i) i (first_empty latches ins) none).1 k d (omega arith)

-- if each of the ins has its token, none is empty
pub none-empty : (latches : List (Option ℕ)) (ins : List ℕ) → All (λ i. IsSome (latch_at latches i)) ins → first_empty latches ins ≡ None
none-empty latches [] all = refl
none-empty latches (i ∷ ins) all = by (latch_at latches i) (all zero 0 (omega arith)) (none-empty latches ins (λ k d below. all (suc k) d (omega arith)))
  where
    by : (latch : Option ℕ) → IsSome latch → first_empty latches ins ≡ None → empty_or latch i (first_empty latches ins) ≡ None
    by None some none = absurd (true≢false (sym some))
    by (Some value) some none = none

-- the first in that is empty is one of the ins
pub first-among : (latches : List (Option ℕ)) (ins : List ℕ) (i : ℕ) → first_empty latches ins ≡ Some i → Contains ins i
first-among latches [] i is = absurd (none-some i is)
first-among latches (j ∷ ins) i is = by (latch_at latches j) (λ rest. first-among latches ins i rest) is
  where
    by : (latch : Option ℕ) → (first_empty latches ins ≡ Some i → Contains ins i) → empty_or latch j (first_empty latches ins) ≡ Some i → Contains (j ∷ ins) i
    by None among is = (0, omega arith, same_Some j i is)
    by (Some value) among is = let has : Contains ins i = among is in (suc has.0, omega (arith, has.1), has.2)

-- if none of the ins is empty, none is empty after one more token
pub missing-grows : (latches : List (Option ℕ)) (i value : ℕ) (ins : List ℕ) → i < length latches → first_empty latches ins ≡ None → first_empty (slice_set latches i (Some value)) ins ≡ None
missing-grows latches i value ins below none =
    none-empty (slice_set latches i (Some value)) ins (λ k d within. latch-grows latches i value (slice_index_or ins k d) below (all-filled latches ins none k d within))

-- ---- after a cycle

pub no-latch : (n i value : ℕ) → latch_at (replicate n None) i ≡ Some value → ⊥
no-latch n i value is = none-some value (sym (empty-after n i) ∙ is)

pub no-flag : (n o : ℕ) → flag_at (replicate n false) o ≡ true → ⊥
no-flag zero o is = true≢false (sym is)
no-flag (suc n) zero is = true≢false (sym is)
no-flag (suc n) (suc o) is = no-flag n o is
