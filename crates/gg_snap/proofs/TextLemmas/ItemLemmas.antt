-- Lines that are there or not, one for each place, and what one more line tells.
use Rattle.std.proofs.Common.{◌≡◌, ℕ, zero, suc, ◌<◌, ◌^◌, List, [], ◌∷◌, ◌++◌, length, take, drop, get_or, refl, sym, ap, ◌∙◌, subst, arith, ◌⊎◌, inl, inr}
use Rattle.std.specs.Prelude.{⊤}
use Rattle.gg_snap.specs.text.Lines.{line_of}
use Rattle.gg_snap.specs.inside.Places.{Place, IsLineOfNone}

-- a line that isn't there, or one that is
pub data Item : Type 0 where
  Off : Item
  On : List ℕ → Item

-- the lines that are there
abbrev pub texts : List Item → List (List ℕ)
texts [] = []
texts (Off ∷ xs) = texts xs
texts (On line ∷ xs) = line ∷ texts xs

-- a line is that of a value of a place
pub record IsLineOf (place : Place) (line : List ℕ) : Type 0 where
  pub value : ℕ
  pub some : 0 < value
  pub fits : value < 2 ^ place.row.width
  pub is : line ≡ line_of place.row place.address value

-- these items are of these places
abbrev pub Are : List Place → List Item → Type 0
Are [] [] = ⊤
Are [] (x ∷ xs) = ⊥
Are (p ∷ ps) [] = ⊥
Are (p ∷ ps) (Off ∷ xs) = Are ps xs
Are (p ∷ ps) (On line ∷ xs) = IsLineOf p line × Are ps xs

-- a line is that of a value of one of these places
abbrev pub HasLine : List Place → List ℕ → Type 0
HasLine [] line = ⊥
HasLine (p ∷ ps) line = IsLineOf p line ⊎ HasLine ps line

-- no line is of a value of both places
abbrev pub IsApart : Place → Place → Type 0
IsApart p q = (v w : ℕ) → line_of p.row p.address v ≡ line_of q.row q.address w → ⊥

abbrev pub ApartFrom : Place → List Place → Type 0
ApartFrom p [] = ⊤
ApartFrom p (q ∷ qs) = IsApart p q × ApartFrom p qs

abbrev pub AllApart : List Place → Type 0
AllApart [] = ⊤
AllApart (p ∷ ps) = ApartFrom p ps × AllApart ps

-- each item has one behind it, or is one, that is there
abbrev pub IsTight : List Item → Type 0
IsTight [] = ⊤
IsTight (x ∷ xs) = (0 < length (texts (x ∷ xs))) × IsTight xs

-- ---- appending

pub texts-append : (xs ys : List Item) → texts (xs ++ ys) ≡ texts xs ++ texts ys
texts-append [] ys = refl
texts-append (Off ∷ xs) ys = texts-append xs ys
texts-append (On line ∷ xs) ys = ap (λ ls. line ∷ ls) (texts-append xs ys)

pub Are-append : (ps qs : List Place) (xs ys : List Item) → Are ps xs → Are qs ys → Are (ps ++ qs) (xs ++ ys)
Are-append [] qs [] ys a b = b
Are-append [] qs (x ∷ xs) ys a b = absurd a
Are-append (p ∷ ps) qs [] ys a b = absurd a
Are-append (p ∷ ps) qs (Off ∷ xs) ys a b = Are-append ps qs xs ys a b
Are-append (p ∷ ps) qs (On line ∷ xs) ys a b = (a.0, Are-append ps qs xs ys a.1 b)

HasLine-left : (ps qs : List Place) (line : List ℕ) → HasLine ps line → HasLine (ps ++ qs) line
HasLine-left [] qs line h = absurd h
HasLine-left (p ∷ ps) qs line (inl h) = inl h
HasLine-left (p ∷ ps) qs line (inr h) = inr (HasLine-left ps qs line h)

-- a list with an item behind it that is there is tight
pub tight-push : (xs : List Item) (line : List ℕ) → IsTight (xs ++ On line ∷ [])
tight-push [] line = (omega arith, tt)
tight-push (Off ∷ xs) line = (some xs line, tight-push xs line)
  where
    some : (xs : List Item) (line : List ℕ) → 0 < length (texts (xs ++ On line ∷ []))
    some [] line = omega arith
    some (Off ∷ xs) line = some xs line
    some (On l ∷ xs) line = omega arith
tight-push (On l ∷ xs) line = (omega arith, tight-push xs line)

-- ---- one more line

pub first-text : (ps : List Place) (xs : List Item) (line : List ℕ) (rest : List (List ℕ)) → Are ps xs → texts xs ≡ line ∷ rest → HasLine ps line
first-text [] [] line rest are e = cc
first-text [] (x ∷ xs) line rest are e = absurd are
first-text (p ∷ ps) [] line rest are e = absurd are
first-text (p ∷ ps) (Off ∷ xs) line rest are e = inr (first-text ps xs line rest are e)
first-text (p ∷ ps) (On l ∷ xs) line rest are e = inl (subst (IsLineOf p) (ap (λ (ls : List (List ℕ)). get_or ls 0 []) e) are.0)

first-of : (ps : List Place) (xs : List Item) (ls : List (List ℕ)) → Are ps xs → texts xs ≡ ls → 0 < length ls → HasLine ps (get_or ls 0 [])
first-of ps xs [] are e some = absurd (omega (arith, some))
first-of ps xs (l ∷ ls) are e some = first-text ps xs l ls are e

pub none-else : (p : Place) (qs : List Place) (line : List ℕ) → ApartFrom p qs → IsLineOf p line → HasLine qs line → ⊥
none-else p [] line apart is has = has
none-else p (q ∷ qs) line apart is (inl h) = apart.0 is.value h.value (sym is.is ∙ h.is)
none-else p (q ∷ qs) line apart is (inr h) = none-else p qs line apart.1 is h

with-head : (ls : List (List ℕ)) (n : ℕ) (l : List ℕ) (rest : List (List ℕ)) → take (suc n) ls ≡ l ∷ rest → (more : List (List ℕ)) × (ls ≡ l ∷ more)
with-head [] n l rest e = absurd cc
with-head (m ∷ ls) n l rest e = (ls, ap (λ x. x ∷ ls) (ap (λ (xs : List (List ℕ)). get_or xs 0 []) e))

front-text : (ps : List Place) (xs : List Item) (n : ℕ) (m : List ℕ) (rest : List (List ℕ)) → Are ps xs → 0 < n → take n (m ∷ rest) ≡ texts xs → HasLine ps m
front-text ps xs zero m rest are some e = absurd (omega (arith, some))
front-text ps xs (suc n) m rest are some e = first-text ps xs m (take n rest) are (sym e)

-- Two lists of items of one list of places, the first of which is tight, and more items of further places. If all lines of the first
-- are also the first ones there, and one more line follows, then that is the line of a further place.
pub one-more : (ps qs : List Place) (xs ys zs : List Item) → Are ps xs → Are ps ys → Are qs zs → AllApart (ps ++ qs) → IsTight xs
    → length (texts xs) < length (texts (ys ++ zs)) → take (length (texts xs)) (texts (ys ++ zs)) ≡ texts xs → HasLine qs (get_or (texts (ys ++ zs)) (length (texts xs)) [])
one-more [] qs [] [] zs a b c apart tight more same = first-of qs zs (texts zs) c refl more
one-more [] qs [] (y ∷ ys) zs a b c apart tight more same = absurd b
one-more [] qs (x ∷ xs) ys zs a b c apart tight more same = absurd a
one-more (p ∷ ps) qs [] ys zs a b c apart tight more same = absurd a
one-more (p ∷ ps) qs (Off ∷ xs) [] zs a b c apart tight more same = absurd b
one-more (p ∷ ps) qs (On l ∷ xs) [] zs a b c apart tight more same = absurd b
one-more (p ∷ ps) qs (Off ∷ xs) (Off ∷ ys) zs a b c apart tight more same = one-more ps qs xs ys zs a b c apart.1 tight.1 more same
one-more (p ∷ ps) qs (On l ∷ xs) (On m ∷ ys) zs a b c apart tight more same =
    one-more ps qs xs ys zs a.1 b.1 c apart.1 tight.1 (omega (arith, more)) (ap (λ (ls : List (List ℕ)). drop 1 ls) same)
one-more (p ∷ ps) qs (On l ∷ xs) (Off ∷ ys) zs a b c apart tight more same =
    let h = with-head (texts (ys ++ zs)) (length (texts xs)) l (texts xs) same in
    absurd (none-else p (ps ++ qs) l apart.0 a.0 (first-text (ps ++ qs) (ys ++ zs) l h.0 (Are-append ps qs ys zs b c) h.1))
one-more (p ∷ ps) qs (Off ∷ xs) (On m ∷ ys) zs a b c apart tight more same =
    absurd (none-else p (ps ++ qs) m apart.0 b.0 (HasLine-left ps qs m (front-text ps xs (length (texts xs)) m (texts (ys ++ zs)) a tight.0 same)))

-- a line that is of none of these places is of none
pub none-has : (ps : List Place) (line : List ℕ) → IsLineOfNone line ps → HasLine ps line → ⊥
none-has [] line none has = has
none-has (p ∷ ps) line none (inl h) = none.0 h.value h.some h.fits h.is
none-has (p ∷ ps) line none (inr h) = none-has ps line none.1 h
