-- Laws of the place of a name in a list of distinct names.
use Rattle.std.proofs.Common.{◌≡◌, ◌≢◌, ℕ, zero, suc, ◌+◌, ◌<◌, List, [], ◌∷◌, length, Bool, true, false, refl, sym, ap, ◌∙◌, subst, arith, Option, None, Some}
use Rattle.std.specs.Prelude.{slice_get, slice_index_or, option_map, if◌then◌else◌, Contains, AllPairs}
use Rattle.std.specs.Bool.{Decides}
use Rattle.std.specs.Str.{bytes_eq}
use Rattle.std.proofs.lemmas.Slice.Eq.{bytes_eq-Decides}
use Rattle.gg_ast.specs.Places.{place_of}

-- no two of the names are the same
abbrev pub Differ : List (List ℕ) → Type 0
Differ names = AllPairs (λ a b. a ≢ b) names

pub Differ-tail : (n : List ℕ) (ns : List (List ℕ)) → Differ (n ∷ ns) → Differ ns
Differ-tail n ns d = λ i j e lt within. d (suc i) (suc j) e (omega arith) (omega arith)

-- a place with a name is in the list
pub slice_get-at : (ns : List (List ℕ)) (name : List ℕ) (k : ℕ) → slice_get ns k ≡ Some name → (k < length ns) × (slice_index_or ns k name ≡ name)
slice_get-at [] name k h = absurd (cc)
slice_get-at (n ∷ ns) name zero h = (omega arith, cc)
slice_get-at (n ∷ ns) name (suc k) h = let r = slice_get-at ns name k h in (omega arith, r.1)

-- a test that decides a fact is true if the fact holds, and false if it doesn't
test_true : (b : Bool) {P : Type 0} → Decides b P → P → b ≡ true
test_true b d p = d.1 p

test_false : (b : Bool) (P : Type 0) → Decides b P → (P → ⊥) → b ≡ false
test_false true P d differs = absurd (differs (d.0 refl))
test_false false P d differs = refl

-- in a list of distinct names, the place of a name is where it stands
pub place_of-at : (names : List (List ℕ)) (name : List ℕ) (k : ℕ) → slice_get names k ≡ Some name → Differ names → place_of name names ≡ Some k
place_of-at [] name k h d = absurd (cc)
place_of-at (n ∷ ns) name zero h d =
    let same : name ≡ n = cc in
    rw (test_true (bytes_eq name n) (bytes_eq-Decides name n) same) refl
place_of-at (n ∷ ns) name (suc k) h d =
    let at = slice_get-at ns name k h in
    let later : slice_index_or (n ∷ ns) 0 name ≢ slice_index_or (n ∷ ns) (suc k) name = d 0 (suc k) name (omega arith) (omega arith) in
    let differs : name ≡ n → ⊥ = λ same. later (sym same ∙ sym at.1) in
    let turned : k + 1 ≡ suc k = omega arith in
    rw (test_false (bytes_eq name n) (name ≡ n) (bytes_eq-Decides name n) differs, place_of-at ns name k h (Differ-tail n ns d)) (ap Some turned)

-- a name that isn't in the list has no place
pub place_of-missing : (names : List (List ℕ)) (name : List ℕ) → ¬ Contains names name → place_of name names ≡ None
place_of-missing [] name lacks = refl
place_of-missing (n ∷ ns) name lacks =
    let differs : name ≡ n → ⊥ = λ same. lacks (0, omega arith, sym same) in
    let rest = place_of-missing ns name (λ h. lacks (suc h.0, omega (arith, h.1), h.2)) in
    rw (test_false (bytes_eq name n) (name ≡ n) (bytes_eq-Decides name n) differs, rest) refl

-- the place of a name is in the list, and the name stands there
pub place_of-path : (names : List (List ℕ)) (name : List ℕ) (k : ℕ) → place_of name names ≡ Some k → (k < length names) × (slice_index_or names k [] ≡ name)
place_of-path [] name k h = absurd (cc)
place_of-path (n ∷ ns) name k h = go (bytes_eq name n) (bytes_eq-Decides name n) (place_of name ns) (place_of-path ns name) h
  where
    go : (b : Bool) → Decides b (name ≡ n) → (o : Option ℕ) → ((j : ℕ) → o ≡ Some j → (j < length ns) × (slice_index_or ns j [] ≡ name)) → (if b then Some 0 else option_map (λ i. i + 1) o) ≡ Some k → (k < length (n ∷ ns)) × (slice_index_or (n ∷ ns) k [] ≡ name)
    go true d o rest e = let start : zero ≡ k = cc in subst (λ i. (i < length (n ∷ ns)) × (slice_index_or (n ∷ ns) i [] ≡ name)) start (omega arith, sym (d.0 refl))
    go false d None rest e = absurd (cc)
    go false d (Some j) rest e =
        let turned : j + 1 ≡ k = cc in
        let further : suc j ≡ k = omega arith in
        let r = rest j refl in
        subst (λ i. (i < length (n ∷ ns)) × (slice_index_or (n ∷ ns) i [] ≡ name)) further (omega (arith, r.0), r.1)
