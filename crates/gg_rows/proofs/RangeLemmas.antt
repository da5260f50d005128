-- Texts of numbers in a row, one after another.
use Rattle.std.proofs.Common.{◌≡◌, ℕ, ◌+◌, zero, suc, List, [], ◌∷◌, ◌++◌, map, refl, sym, ap, ◌∙◌, append_assoc, arith}
use Rattle.std.proofs.lemmas.List.{append-nil}
use Rattle.std.specs.List.{range_with_len, flat_map, join_by}

-- the text of one more number
pub flat-more : (f : ℕ → List ℕ) (a n j : ℕ) → a + n ≡ j → flat_map f (range_with_len a (suc n)) ≡ flat_map f (range_with_len a n) ++ f j
flat-more f a zero j e =
    let same : a ≡ j = omega (arith, e) in
    append-nil (f a) ∙ ap f same
flat-more f a (suc n) j e =
    let next : a + 1 + n ≡ j = omega (arith, e) in
    ap (λ t. f a ++ t) (flat-more f (a + 1) n j next) ∙ sym (append_assoc (f a) (flat_map f (range_with_len (a + 1) n)) (f j))

-- a text is longer by the line of the next number
pub line-more : (f : ℕ → List ℕ) (a n m j : ℕ) (front text line longer : List ℕ) → text ≡ front ++ flat_map f (range_with_len a n) → m ≡ suc n → a + n ≡ j → line ≡ f j
    → longer ≡ text ++ line → longer ≡ front ++ flat_map f (range_with_len a m)
line-more f a n m j front text line longer so_far one place is e =
    e ∙ ap (λ t. t ++ line) so_far ∙ append_assoc front (flat_map f (range_with_len a n)) line ∙ ap (λ t. front ++ (flat_map f (range_with_len a n) ++ t)) is
    ∙ ap (λ t. front ++ t) (sym (flat-more f a n j place)) ∙ ap (λ k. front ++ flat_map f (range_with_len a k)) (sym one)

-- texts that are the same, one by one, are the same when they are joined
pub joined-same : {X Y : Type 0} (f : X → List ℕ) (g : Y → List ℕ) (between : List ℕ) (xs : List X) (ys : List Y) → map f xs ≡ map g ys → join_by f between xs ≡ join_by g between ys
joined-same f g between xs ys e = sym (joined-map f between xs) ∙ ap (join_by (λ t. t) between) e ∙ joined-map g between ys
  where
    flat-map : {X : Type 0} (f : X → List ℕ) (between : List ℕ) (xs : List X) → flat_map (λ t. between ++ t) (map f xs) ≡ flat_map (λ x. between ++ f x) xs
    flat-map f between [] = refl
    flat-map f between (x ∷ xs) = ap (λ t. between ++ f x ++ t) (flat-map f between xs)

    joined-map : {X : Type 0} (f : X → List ℕ) (between : List ℕ) (xs : List X) → join_by (λ t. t) between (map f xs) ≡ join_by f between xs
    joined-map f between [] = refl
    joined-map f between (x ∷ xs) = ap (λ t. f x ++ t) (flat-map f between xs)
