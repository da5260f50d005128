-- The type data of a name, by the name's place.
use Rattle.std.proofs.Common.{◌≡◌, ℕ, zero, suc, ◌+◌, ◌<◌, ◌≤◌, Bool, true, false, List, [], ◌∷◌, ◌++◌, length, length-append, take, get_or, Option, Some, None, refl, sym, ap, ◌∙◌, if◌then◌else◌, arith}
use Rattle.std.specs.Option.{option_map}
use Rattle.std.specs.Str.{bytes_eq}
use Rattle.gg_ast.specs.Places.{place_of}
use Rattle.gg_types.specs.declared.sort.Own.{Own}
use Rattle.gg_types.specs.inside.Named.{owned}
use Rattle.gg_bits.specs.Lists.{find_word}

-- the list's entry at a place, if there is one
abbrev pub entry_at : List Own → Option ℕ → Option (Option Own)
entry_at ts None = None
entry_at [] (Some k) = None
entry_at (t ∷ ts) (Some zero) = Some (Some t)
entry_at (t ∷ ts) (Some (suc k)) = entry_at ts (Some k)

entry_at-next : (t : Own) (ts : List Own) (o : Option ℕ) → entry_at (t ∷ ts) (option_map (λ k. k + 1) o) ≡ entry_at ts o
entry_at-next t ts None = refl
entry_at-next t ts (Some k) = let e : k + 1 ≡ suc k = omega arith in ap (λ j. entry_at (t ∷ ts) (Some j)) e

entry_at-empty : (o : Option ℕ) → entry_at [] o ≡ None
entry_at-empty None = refl
entry_at-empty (Some k) = refl

pub entry-placed : (name : List ℕ) (ds : List (List ℕ)) (ts : List Own) → find_word name (owned ds ts) ≡ entry_at ts (place_of name ds)
entry-placed name [] ts = refl
entry-placed name (d ∷ ds) [] = sym (entry_at-empty (place_of name (d ∷ ds)))
entry-placed name (d ∷ ds) (t ∷ ts) = go (bytes_eq name d) refl (entry-placed name ds ts)
  where
    go : (b : Bool) → bytes_eq name d ≡ b → find_word name (owned ds ts) ≡ entry_at ts (place_of name ds) → find_word name ((d, Some t) ∷ owned ds ts) ≡ entry_at (t ∷ ts) (place_of name (d ∷ ds))
    go true e rest =
        ap (λ b. if b then Some (Some t) else find_word name (owned ds ts)) e
        ∙ sym (ap (λ b. entry_at (t ∷ ts) (if b then Some 0 else option_map (λ k. k + 1) (place_of name ds))) e)
    go false e rest =
        ap (λ b. if b then Some (Some t) else find_word name (owned ds ts)) e
        ∙ rest ∙ sym (entry_at-next t ts (place_of name ds))
        ∙ sym (ap (λ b. entry_at (t ∷ ts) (if b then Some 0 else option_map (λ k. k + 1) (place_of name ds))) e)

pub entry_at-there : (ts : List Own) (k : ℕ) (d : Own) → k < length ts → entry_at ts (Some k) ≡ Some (Some (get_or ts k d))
entry_at-there [] k d lt = absurd (omega arith)
entry_at-there (t ∷ ts) zero d lt = refl
entry_at-there (t ∷ ts) (suc k) d lt = entry_at-there ts k d (omega arith)

pub entry_at-past : (ts : List Own) (k : ℕ) → length ts ≤ k → entry_at ts (Some k) ≡ None
entry_at-past [] k le = refl
entry_at-past (t ∷ ts) zero le = absurd (omega arith)
entry_at-past (t ∷ ts) (suc k) le = entry_at-past ts k (omega arith)

abbrev rest_of : {A : Type 0} → List A → List A
rest_of [] = []
rest_of (x ∷ xs) = xs

pub owned-empty : (ds : List (List ℕ)) → owned ds [] ≡ []
owned-empty [] = refl
owned-empty (d ∷ ds) = refl

-- the names with their type data, with one more entry
pub owned-push : (ds : List (List ℕ)) (ts : List Own) (t : Own) (name : List ℕ) → take (length ts + 1) ds ≡ take (length ts) ds ++ name ∷ [] → owned ds (ts ++ t ∷ []) ≡ owned ds ts ++ (name, Some t) ∷ []
owned-push [] ts t name next = absurd (omega (arith, ap length next ∙ length-append (take (length ts) []) (name ∷ []), nothing (length ts), nothing (length ts + 1)))
  where
    nothing : (n : ℕ) → length (take {A = List ℕ} n []) ≡ 0
    nothing zero = refl
    nothing (suc n) = refl
owned-push (d ∷ ds) [] t name next = same (cc)
  where
    same : d ≡ name → (d, Some t) ∷ owned ds [] ≡ (name, Some t) ∷ []
    same e = ap (λ x. (x, Some t) ∷ owned ds []) e ∙ ap (λ l. (name, Some t) ∷ l) (owned-empty ds)
owned-push (d ∷ ds) (u ∷ us) t name next =
    let more : suc (length us) + 1 ≡ suc (length us + 1) = omega arith in
    let e : take (length us + 1) ds ≡ take (length us) ds ++ name ∷ [] = ap rest_of (sym (ap (λ n. take n (d ∷ ds)) more) ∙ next) in
    ap (λ l. (d, Some u) ∷ l) (owned-push ds us t name e)
