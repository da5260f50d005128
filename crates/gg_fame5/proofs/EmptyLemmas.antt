-- Empty latches, counted.
use Rattle.std.proofs.Common.{◌≡◌, ℕ, zero, suc, ◌+◌, ◌<◌, List, [], ◌∷◌, Option, None, Some, length, replicate, refl, ap, ◌∙◌, arith}
use Rattle.std.specs.Prelude.{All, slice_set}
use Rattle.gg_node.specs.Machine.{latch_at, latched_value, empty_or, first_empty}
use Rattle.gg_fame5.specs.inside.Lane.{one_if_empty, empty_count}

pub all-empty : (n : ℕ) → empty_count (replicate n None) ≡ n
all-empty zero = refl
all-empty (suc n) = omega (arith, all-empty n)

-- if none is counted, each latch holds a token
none-empty : (latches : List (Option ℕ)) (i : ℕ) → empty_count latches ≡ 0 → i < length latches → latch_at latches i ≡ Some (latched_value (latch_at latches i))
none-empty [] i none below = absurd (omega (arith, below))
none-empty (None ∷ latches) zero none below = absurd (omega (arith, none))
none-empty (Some value ∷ latches) zero none below = refl
none-empty (latch ∷ latches) (suc i) none below = none-empty latches i (omega (arith, none)) (omega (arith, below))

pub none-missing : (latches : List (Option ℕ)) (ins : List ℕ) → empty_count latches ≡ 0 → All (λ i. i < length latches) ins → first_empty latches ins ≡ None
none-missing latches [] none known = refl
none-missing latches (i ∷ ins) none known =
    ap (λ latch. empty_or latch i (first_empty latches ins)) (none-empty latches i none (known 0 i (omega arith)))
    ∙ none-missing latches ins none (λ k d below. known (suc k) d (omega (arith, below)))

-- an empty latch that gets a token
pub one-less : (latches : List (Option ℕ)) (place token : ℕ) → place < length latches → latch_at latches place ≡ None → empty_count latches ≡ empty_count (slice_set latches place (Some token)) + 1
one-less [] place token below empty = absurd (omega (arith, below))
one-less (latch ∷ latches) zero token below empty = let one : one_if_empty latch ≡ 1 = ap one_if_empty empty in omega (arith, one)
one-less (latch ∷ latches) (suc place) token below empty = omega (arith, one-less latches place token (omega (arith, below)) empty)
