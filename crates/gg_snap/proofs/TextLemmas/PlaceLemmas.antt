-- The lines of a state, place by place.
use Rattle.std.proofs.Common.{◌≡◌, ℕ, zero, suc, ◌+◌, ◌<◌, ◌^◌, List, [], ◌∷◌, ◌++◌, Bool, true, false, cond, refl, sym, ap, ap₂, ◌∙◌, arith, append_assoc}
use Rattle.std.specs.Prelude.{⊤, ◌==◌}
use Rattle.std.specs.List.{flat_map, range_with_len}
use Rattle.std.proofs.lemmas.List.{append-nil}
use Rattle.std.proofs.lemmas.Bool.Decides.{nat_tests}
use Rattle.gg_flat.specs.State.{State}
use Rattle.gg_snap.specs.declared.text.row.Row.{Row}
use Rattle.gg_snap.specs.text.Lines.{line_of, shown, value_lines, value_of}
use Rattle.gg_snap.specs.inside.Draft.{with_value}
use Rattle.gg_snap.specs.inside.Places.{Place, places, places_from}
use Rattle.gg_snap.proofs.TextLemmas.ItemLemmas.{Item, Off, On, texts, Are, IsApart, ApartFrom, AllApart}

-- the value of a place
abbrev pub value_at_place : State → Place → ℕ
value_at_place state p = value_of state p.row.at p.address

-- the lines of these places
abbrev pub place_lines : State → List Place → List (List ℕ)
place_lines state [] = []
place_lines state (p ∷ ps) = shown p.row p.address (value_at_place state p) ++ place_lines state ps

-- ---- they are those of the rows

pub lines-append : (s : State) (ps qs : List Place) → place_lines s (ps ++ qs) ≡ place_lines s ps ++ place_lines s qs
lines-append s [] qs = refl
lines-append s (p ∷ ps) qs =
    ap (λ ls. shown p.row p.address (value_at_place s p) ++ ls) (lines-append s ps qs)
    ∙ sym (append_assoc (shown p.row p.address (value_at_place s p)) (place_lines s ps) (place_lines s qs))

lines-from : (s : State) (row : Row) (a n : ℕ) → flat_map (λ address. shown row address (value_of s row.at address)) (range_with_len a n) ≡ place_lines s (places_from row a n)
lines-from s row a zero = refl
lines-from s row a (suc n) = ap (λ ls. shown row a (value_of s row.at a) ++ ls) (lines-from s row (a + 1) n)

pub lines-of-rows : (s : State) (rows : List Row) → value_lines s rows ≡ place_lines s (places rows)
lines-of-rows s [] = refl
lines-of-rows s (row ∷ rows) =
    ap₂ (λ xs ys. xs ++ ys) (lines-from s row 0 row.count) (lines-of-rows s rows)
    ∙ sym (lines-append s (places_from row 0 row.count) (places rows))

-- ---- items

abbrev pub items : State → List Place → List Item
items s [] = []
items s (p ∷ ps) = cond (value_at_place s p == 0) Off (On (line_of p.row p.address (value_at_place s p))) ∷ items s ps

item-text : (b : Bool) (l : List ℕ) (xs : List Item) → cond b [] (l ∷ []) ++ texts xs ≡ texts (cond b Off (On l) ∷ xs)
item-text true l xs = refl
item-text false l xs = refl

pub lines-texts : (s : State) (ps : List Place) → place_lines s ps ≡ texts (items s ps)
lines-texts s [] = refl
lines-texts s (p ∷ ps) =
    ap (λ ls. shown p.row p.address (value_at_place s p) ++ ls) (lines-texts s ps)
    ∙ item-text (value_at_place s p == 0) (line_of p.row p.address (value_at_place s p)) (items s ps)

pub items-append : (s : State) (ps qs : List Place) → items s (ps ++ qs) ≡ items s ps ++ items s qs
items-append s [] qs = refl
items-append s (p ∷ ps) qs = ap (λ xs. cond (value_at_place s p == 0) Off (On (line_of p.row p.address (value_at_place s p))) ∷ xs) (items-append s ps qs)

-- each value fits its place
abbrev pub AreFit : State → List Place → Type 0
AreFit s [] = ⊤
AreFit s (p ∷ ps) = (value_at_place s p < 2 ^ p.row.width) × AreFit s ps

pub some-by_test : (v : ℕ) → (v == 0) ≡ false → 0 < v
some-by_test v e = grind (arith, nat_tests)

item-is : (p : Place) (ps : List Place) (xs : List Item) (v : ℕ) (b : Bool) → (v == 0) ≡ b → v < 2 ^ p.row.width → Are ps xs → Are (p ∷ ps) (cond b Off (On (line_of p.row p.address v)) ∷ xs)
item-is p ps xs v true e fits are = are
item-is p ps xs v false e fits are = (record { value = v; some = some-by_test v e; fits = fits; is = refl }, are)

pub are-items : (s : State) (ps : List Place) → AreFit s ps → Are ps (items s ps)
are-items s [] fit = tt
are-items s (p ∷ ps) fit = item-is p ps (items s ps) (value_at_place s p) (value_at_place s p == 0) refl fit.0 (are-items s ps fit.1)

-- ---- values that are 0, or the same in another state

abbrev pub AreZero : State → List Place → Type 0
AreZero s [] = ⊤
AreZero s (p ∷ ps) = (value_at_place s p ≡ 0) × AreZero s ps

abbrev pub AreSame : State → State → List Place → Type 0
AreSame s t [] = ⊤
AreSame s t (p ∷ ps) = (value_at_place s p ≡ value_at_place t p) × AreSame s t ps

pub lines-zero : (s : State) (ps : List Place) → AreZero s ps → place_lines s ps ≡ []
lines-zero s [] z = refl
lines-zero s (p ∷ ps) z = ap (λ v. shown p.row p.address v ++ place_lines s ps) z.0 ∙ lines-zero s ps z.1

pub lines-same : (s t : State) (ps : List Place) → AreSame s t ps → place_lines s ps ≡ place_lines t ps
lines-same s t [] same = refl
lines-same s t (p ∷ ps) same = ap₂ (λ v ls. shown p.row p.address v ++ ls) same.0 (lines-same s t ps same.1)

pub zero-same : (s t : State) (ps : List Place) → AreSame s t ps → AreZero s ps → AreZero t ps
zero-same s t [] same z = tt
zero-same s t (p ∷ ps) same z = (sym same.0 ∙ z.0, zero-same s t ps same.1 z.1)

pub zero-behind : (s : State) (ps qs : List Place) → AreZero s (ps ++ qs) → AreZero s qs
zero-behind s [] qs z = z
zero-behind s (p ∷ ps) qs z = zero-behind s ps qs z.1

pub fit-front : (s : State) (ps qs : List Place) → AreFit s (ps ++ qs) → AreFit s ps
fit-front s [] qs fit = tt
fit-front s (p ∷ ps) qs fit = (fit.0, fit-front s ps qs fit.1)

pub fit-behind : (s : State) (ps qs : List Place) → AreFit s (ps ++ qs) → AreFit s qs
fit-behind s [] qs fit = fit
fit-behind s (p ∷ ps) qs fit = fit-behind s ps qs fit.1

shown-by : (row : Row) (a v : ℕ) (b : Bool) → (v == 0) ≡ b → 0 < v → cond b [] (line_of row a v ∷ []) ≡ line_of row a v ∷ []
shown-by row a v true e some = absurd (let none : v ≡ 0 = grind (arith, nat_tests) in omega (arith, none, some))
shown-by row a v false e some = refl

pub shown-some : (row : Row) (a v : ℕ) → 0 < v → shown row a v ≡ line_of row a v ∷ []
shown-some row a v some = shown-by row a v (v == 0) refl some

item-some : (row : Row) (a v : ℕ) (b : Bool) → (v == 0) ≡ b → 0 < v → (xs : List Item) → cond b Off (On (line_of row a v)) ∷ xs ≡ On (line_of row a v) ∷ xs
item-some row a v true e some xs = absurd (let none : v ≡ 0 = grind (arith, nat_tests) in omega (arith, none, some))
item-some row a v false e some xs = refl

-- a place whose value isn't 0 is there
pub items-one : (t : State) (p : Place) (v : ℕ) → value_at_place t p ≡ v → 0 < v → items t (p ∷ []) ≡ On (line_of p.row p.address v) ∷ []
items-one t p v is some =
    ap (λ w. cond (w == 0) Off (On (line_of p.row p.address w)) ∷ []) is ∙ item-some p.row p.address v (v == 0) refl some []

-- ---- one value more

pub line-added : (s t : State) (front back : List Place) (p : Place) (v : ℕ) → AreSame s t front → AreSame s t back → AreZero s (p ∷ back) → value_at_place t p ≡ v → 0 < v
    → place_lines t (front ++ p ∷ back) ≡ place_lines s (front ++ p ∷ back) ++ line_of p.row p.address v ∷ []
line-added s t front back p v same after none is some =
    lines-append t front (p ∷ back)
    ∙ ap₂ (λ xs ys. xs ++ ys) (sym (lines-same s t front same)) here
    ∙ ap (λ xs. xs ++ line_of p.row p.address v ∷ []) (sym before)
  where
    here : place_lines t (p ∷ back) ≡ line_of p.row p.address v ∷ []
    here =
        ap₂ (λ w ls. shown p.row p.address w ++ ls) is (sym (lines-same s t back after) ∙ lines-zero s back none.1)
        ∙ append-nil (shown p.row p.address v)
        ∙ shown-some p.row p.address v some

    before : place_lines s (front ++ p ∷ back) ≡ place_lines s front
    before = lines-append s front (p ∷ back) ∙ ap (λ ls. place_lines s front ++ ls) (lines-zero s (p ∷ back) none) ∙ append-nil (place_lines s front)

-- ---- two places

-- Two places have no line in common, and a value at one of them changes nothing at the other.
pub record AreTwo (p q : Place) : Type 0 where
  pub lines : IsApart p q
  pub one : (s : State) (v : ℕ) → value_at_place (with_value s p.row.at p.address v) q ≡ value_at_place s q
  pub other : (s : State) (v : ℕ) → value_at_place (with_value s q.row.at q.address v) p ≡ value_at_place s p

abbrev pub TwoFrom : Place → List Place → Type 0
TwoFrom p [] = ⊤
TwoFrom p (q ∷ qs) = AreTwo p q × TwoFrom p qs

abbrev pub AllTwo : List Place → Type 0
AllTwo [] = ⊤
AllTwo (p ∷ ps) = TwoFrom p ps × AllTwo ps

apart-from : (p : Place) (qs : List Place) → TwoFrom p qs → ApartFrom p qs
apart-from p [] two = tt
apart-from p (q ∷ qs) two = (two.0.lines, apart-from p qs two.1)

pub all-apart : (ps : List Place) → AllTwo ps → AllApart ps
all-apart [] two = tt
all-apart (p ∷ ps) two = (apart-from p ps two.0, all-apart ps two.1)

same-behind : (p : Place) (qs : List Place) (s : State) (v : ℕ) → TwoFrom p qs → AreSame s (with_value s p.row.at p.address v) qs
same-behind p [] s v two = tt
same-behind p (q ∷ qs) s v two = (sym (two.0.one s v), same-behind p qs s v two.1)

from-middle : (p q : Place) (front back : List Place) → TwoFrom q (front ++ p ∷ back) → AreTwo q p
from-middle p q [] back two = two.0
from-middle p q (r ∷ front) back two = from-middle p q front back two.1

pub same-front : (p : Place) (front back : List Place) (s : State) (v : ℕ) → AllTwo (front ++ p ∷ back) → AreSame s (with_value s p.row.at p.address v) front
same-front p [] back s v two = tt
same-front p (q ∷ front) back s v two = (sym ((from-middle p q front back two.0).other s v), same-front p front back s v two.1)

pub same-back : (p : Place) (front back : List Place) (s : State) (v : ℕ) → AllTwo (front ++ p ∷ back) → AreSame s (with_value s p.row.at p.address v) back
same-back p [] back s v two = same-behind p back s v two.0
same-back p (q ∷ front) back s v two = same-back p front back s v two.1

TwoFrom-append : (p : Place) (qs rs : List Place) → TwoFrom p qs → TwoFrom p rs → TwoFrom p (qs ++ rs)
TwoFrom-append p [] rs a b = b
TwoFrom-append p (q ∷ qs) rs a b = (a.0, TwoFrom-append p qs rs a.1 b)

-- places of two lists, each of which differs from each of the other
abbrev pub EachTwo : List Place → List Place → Type 0
EachTwo [] qs = ⊤
EachTwo (p ∷ ps) qs = TwoFrom p qs × EachTwo ps qs

pub AllTwo-append : (ps qs : List Place) → AllTwo ps → AllTwo qs → EachTwo ps qs → AllTwo (ps ++ qs)
AllTwo-append [] qs a b c = b
AllTwo-append (p ∷ ps) qs a b c = (TwoFrom-append p ps qs a.0 c.0, AllTwo-append ps qs a.1 b c.1)

pub TwoFrom-joined : (p : Place) (qs rs : List Place) → TwoFrom p qs → TwoFrom p rs → TwoFrom p (qs ++ rs)
TwoFrom-joined = TwoFrom-append
