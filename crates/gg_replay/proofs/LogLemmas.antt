-- A list of lists whose parts are shown by a function, as the items of a `Vec`.
use Rattle.std.proofs.Common.{◌≡◌, ℕ, ◌<◌, List, [], ◌∷◌, ◌++◌, length, map, sym, ap, ◌∙◌, arith}
use Rattle.std.specs.Prelude.{slice_set, slice_index_or}
use Rattle.std.proofs.lemmas.List.{map-set, get_or-map, length-map}

-- one of the parts has one more item
pub one-pushed : {X : Type 0} (shown : X → List ℕ) (parts : List X) (log : List (List ℕ)) (i token : ℕ) (old new : X) → map shown parts ≡ log → i < length log → old ≡ slice_index_or parts i old → shown new ≡ shown old ++ token ∷ []
    → map shown (slice_set parts i new) ≡ slice_set log i (slice_index_or log i [] ++ token ∷ [])
one-pushed shown parts log i token old new view within is more =
    let there : i < length parts = omega (arith, within, ap length view, length-map parts shown) in
    let same : shown old ≡ slice_index_or log i [] = ap shown is ∙ sym (get_or-map shown parts i old [] there) ∙ ap (λ (l : List (List ℕ)). slice_index_or l i []) view in
    map-set shown parts i new
    ∙ ap (λ l. slice_set l i (shown new)) view
    ∙ ap (λ l. slice_set log i l) (more ∙ ap (λ l. l ++ token ∷ []) same)
