-- Lines of two places differ.
use Rattle.std.proofs.Common.{◌≡◌, ◌≢◌, ℕ, zero, suc, ◌+◌, ◌<◌, ◌^◌, List, [], ◌∷◌, ◌++◌, get_or, drop, decimal, refl, sym, ap, ap₂, ◌∙◌, subst, arith, append_assoc, ◌⊎◌, inl, inr}
use Rattle.std.specs.Prelude.{All, Contains}
use Rattle.std.proofs.lemmas.List.{append_cancel_left}
use Rattle.std.proofs.lemmas.List.Elements.{All-head, All-tail}
use Rattle.std.proofs.lemmas.Fmt.{decimal_is_IsNumeral}
use Rattle.std.specs.Str.Parse.{digits_value}
use Rattle.gg_flat.specs.Circuit.{FlatCircuit}
use Rattle.gg_flat.proofs.ListLemmas.{here, further}
use Rattle.gg_trace.specs.Printing.{hex_digits, digit_count}
use Rattle.gg_snap.specs.declared.text.row.At.{At}
use Rattle.gg_snap.specs.declared.text.row.At.TheVariants.{Register, Read, Words}
use Rattle.gg_snap.specs.declared.text.row.Kind.{Kind}
use Rattle.gg_snap.specs.declared.text.row.Kind.TheVariants as kind
use Rattle.gg_snap.specs.declared.text.row.Row.{Row}
use Rattle.gg_snap.specs.text.Known.{AllDiffer, DiffersFrom, Differ, IsAt, HasNo, IsElsewhere, IsKnown, IsPlain}
use Rattle.gg_snap.specs.text.Lines.{address_text, head_of, kind_word, line_of, tail_of, value_of}
use Rattle.gg_snap.specs.inside.Draft.{with_value}
use Rattle.gg_snap.specs.inside.Places.{places, places_from}
use Rattle.gg_snap.proofs.TextLemmas.DraftLemmas.{set-beside, set-elsewhere}
use Rattle.gg_snap.proofs.TextLemmas.FeedLemmas.{decimal-no}
use Rattle.gg_snap.proofs.TextLemmas.PlaceLemmas.{AllTwo, AllTwo-append, AreTwo, EachTwo, TwoFrom, TwoFrom-joined}

-- ---- texts up to a blank

no-tail : (b x : ℕ) (xs : List ℕ) → HasNo b (x ∷ xs) → HasNo b xs
no-tail b x xs free c = free (further x xs b c)

-- two texts without a blank are one, if they stand before a blank in one text
pub blank-cut : (xs ys s t : List ℕ) → HasNo 32 xs → HasNo 32 ys → xs ++ 32 ∷ s ≡ ys ++ 32 ∷ t → xs ≡ ys
blank-cut [] [] s t p q e = refl
blank-cut [] (y ∷ ys) s t p q e =
    let same : 32 ≡ y = ap (λ (l : List ℕ). get_or l 0 0) e in
    absurd (q (subst (λ b. Contains (y ∷ ys) b) (sym same) (here y ys)))
blank-cut (x ∷ xs) [] s t p q e =
    let same : x ≡ 32 = ap (λ (l : List ℕ). get_or l 0 0) e in
    absurd (p (subst (λ b. Contains (x ∷ xs) b) same (here x xs)))
blank-cut (x ∷ xs) (y ∷ ys) s t p q e =
    ap₂ (λ b l. b ∷ l) (ap (λ (l : List ℕ). get_or l 0 0) e) (blank-cut xs ys s t (no-tail 32 x xs p) (no-tail 32 y ys q) (ap (λ (l : List ℕ). drop 1 l) e))

pub same-decimal : (a b : ℕ) → a < 2 ^ 64 → b < 2 ^ 64 → decimal a ≡ decimal b → a ≡ b
same-decimal a b low high e = sym (decimal_is_IsNumeral a low).1 ∙ ap (λ ds. digits_value 10 ds) e ∙ (decimal_is_IsNumeral b high).1

-- ---- rows

words-apart : (k l : Kind) (xs ys : List ℕ) → kind_word k ++ xs ≡ kind_word l ++ ys → k ≡ l
words-apart kind.Register kind.Register xs ys e = refl
words-apart kind.Register kind.Read xs ys e = absurd (let n : 103 ≡ 97 = ap (λ (t : List ℕ). get_or t 2 0) e in omega arith)
words-apart kind.Register kind.Pipe xs ys e = absurd (let n : 114 ≡ 112 = ap (λ (t : List ℕ). get_or t 0 0) e in omega arith)
words-apart kind.Register kind.Memory xs ys e = absurd (let n : 114 ≡ 109 = ap (λ (t : List ℕ). get_or t 0 0) e in omega arith)
words-apart kind.Read kind.Register xs ys e = absurd (let n : 97 ≡ 103 = ap (λ (t : List ℕ). get_or t 2 0) e in omega arith)
words-apart kind.Read kind.Read xs ys e = refl
words-apart kind.Read kind.Pipe xs ys e = absurd (let n : 114 ≡ 112 = ap (λ (t : List ℕ). get_or t 0 0) e in omega arith)
words-apart kind.Read kind.Memory xs ys e = absurd (let n : 114 ≡ 109 = ap (λ (t : List ℕ). get_or t 0 0) e in omega arith)
words-apart kind.Pipe kind.Register xs ys e = absurd (let n : 112 ≡ 114 = ap (λ (t : List ℕ). get_or t 0 0) e in omega arith)
words-apart kind.Pipe kind.Read xs ys e = absurd (let n : 112 ≡ 114 = ap (λ (t : List ℕ). get_or t 0 0) e in omega arith)
words-apart kind.Pipe kind.Pipe xs ys e = refl
words-apart kind.Pipe kind.Memory xs ys e = absurd (let n : 112 ≡ 109 = ap (λ (t : List ℕ). get_or t 0 0) e in omega arith)
words-apart kind.Memory kind.Register xs ys e = absurd (let n : 109 ≡ 114 = ap (λ (t : List ℕ). get_or t 0 0) e in omega arith)
words-apart kind.Memory kind.Read xs ys e = absurd (let n : 109 ≡ 114 = ap (λ (t : List ℕ). get_or t 0 0) e in omega arith)
words-apart kind.Memory kind.Pipe xs ys e = absurd (let n : 109 ≡ 112 = ap (λ (t : List ℕ). get_or t 0 0) e in omega arith)
words-apart kind.Memory kind.Memory xs ys e = refl

head-front : (row : Row) (tail : List ℕ) → head_of row ++ tail ≡ kind_word row.kind ++ (row.path ++ 32 ∷ tail)
head-front row tail =
    append_assoc (kind_word row.kind) (row.path ++ 32 ∷ []) tail
    ∙ ap (λ t. kind_word row.kind ++ t) (append_assoc row.path (32 ∷ []) tail)

-- texts that begin with the heads of two rows that differ are two
pub heads-apart : (one other : Row) (s t : List ℕ) → IsPlain one.path → IsPlain other.path → (one.kind ≢ other.kind) ⊎ (one.path ≢ other.path) → head_of one ++ s ≡ head_of other ++ t → ⊥
heads-apart one other s t p q differ e = by differ
  where
    same : kind_word one.kind ++ (one.path ++ 32 ∷ s) ≡ kind_word other.kind ++ (other.path ++ 32 ∷ t)
    same = sym (head-front one s) ∙ e ∙ head-front other t

    kinds : one.kind ≡ other.kind
    kinds = words-apart one.kind other.kind (one.path ++ 32 ∷ s) (other.path ++ 32 ∷ t) same

    paths : one.path ≡ other.path
    paths = blank-cut one.path other.path s t p.0 q.0
        (append_cancel_left (kind_word one.kind) (one.path ++ 32 ∷ s) (other.path ++ 32 ∷ t) (same ∙ ap (λ k. kind_word k ++ (other.path ++ 32 ∷ t)) (sym kinds)))

    by : (one.kind ≢ other.kind) ⊎ (one.path ≢ other.path) → ⊥
    by (inl k) = k kinds
    by (inr r) = r paths

pub elsewhere-back : (at other : At) → IsElsewhere at other → IsElsewhere other at
elsewhere-back (Register r) (Register q) apart = λ e. apart (sym e)
elsewhere-back (Register r) (Read n q) apart = tt
elsewhere-back (Register r) (Words n) apart = tt
elsewhere-back (Read m r) (Register q) apart = tt
elsewhere-back (Read m r) (Read n q) apart = λ e. apart (sym e.0, sym e.1)
elsewhere-back (Read m r) (Words n) apart = tt
elsewhere-back (Words m) (Register q) apart = tt
elsewhere-back (Words m) (Read n q) apart = tt
elsewhere-back (Words m) (Words n) apart = λ e. apart (sym e)

-- places of two rows that differ
two-rows : (one other : Row) (a b : ℕ) → IsPlain one.path → IsPlain other.path → Differ one other → AreTwo (record { row = one; address = a }) (record { row = other; address = b })
two-rows one other a b p q differ = record {
  lines = λ v w e. heads-apart one other (tail_of one a v) (tail_of other b w) p q differ.named e;
  one = λ s v. set-elsewhere s one.at other.at a v b differ.apart;
  other = λ s v. set-elsewhere s other.at one.at b v a (elsewhere-back one.at other.at differ.apart);
}

-- two addresses of one memory
address-apart : (row : Row) (m a b v w : ℕ) → row.at ≡ Words m → a < 2 ^ 64 → b < 2 ^ 64 → a ≢ b → line_of row a v ≡ line_of row b w → ⊥
address-apart row m a b v w is low high apart e =
    apart (same-decimal a b low high (blank-cut (decimal a) (decimal b) (hex_digits (digit_count row.width) v ++ 10 ∷ []) (hex_digits (digit_count row.width) w ++ 10 ∷ []) (decimal-no 32 a (omega arith)) (decimal-no 32 b (omega arith)) texts))
  where
    tails : tail_of row a v ≡ tail_of row b w
    tails = append_cancel_left (head_of row) (tail_of row a v) (tail_of row b w) e

    tail-is : (c x : ℕ) → tail_of row c x ≡ decimal c ++ 32 ∷ (hex_digits (digit_count row.width) x ++ 10 ∷ [])
    tail-is c x =
        ap (λ at. address_text at c ++ (hex_digits (digit_count row.width) x ++ 10 ∷ [])) is
        ∙ append_assoc (decimal c) (32 ∷ []) (hex_digits (digit_count row.width) x ++ 10 ∷ [])

    texts : decimal a ++ 32 ∷ (hex_digits (digit_count row.width) v ++ 10 ∷ []) ≡ decimal b ++ 32 ∷ (hex_digits (digit_count row.width) w ++ 10 ∷ [])
    texts = sym (tail-is a v) ∙ tails ∙ tail-is b w

two-addresses : (row : Row) (m a b : ℕ) → row.at ≡ Words m → a < 2 ^ 64 → b < 2 ^ 64 → a ≢ b → AreTwo (record { row = row; address = a }) (record { row = row; address = b })
two-addresses row m a b is low high apart = record {
  lines = λ v w e. address-apart row m a b v w is low high apart e;
  one = λ s v. subst (λ at. value_of (with_value s at a v) at b ≡ value_of s at b) (sym is) (set-beside s m a v b apart);
  other = λ s v. subst (λ at. value_of (with_value s at b v) at a ≡ value_of s at a) (sym is) (set-beside s m b v a (λ e. apart (sym e)));
}

-- ---- all places of a row, and of a table

memory-from : (row : Row) (m c a n : ℕ) → row.at ≡ Words m → c < a → a + n < 2 ^ 64 → TwoFrom (record { row = row; address = c }) (places_from row a n)
memory-from row m c a zero is less few = tt
memory-from row m c a (suc n) is less few =
    (two-addresses row m c a is (omega (arith, less, few)) (omega (arith, few)) (λ e. omega (arith, less, e)), memory-from row m c (a + 1) n is (omega (arith, less)) (omega (arith, few)))

memory-all : (row : Row) (m a n : ℕ) → row.at ≡ Words m → a + n < 2 ^ 64 → AllTwo (places_from row a n)
memory-all row m a zero is few = tt
memory-all row m a (suc n) is few = (memory-from row m a (a + 1) n is (omega arith) (omega (arith, few)), memory-all row m (a + 1) n is (omega (arith, few)))

one-place : (row : Row) (n : ℕ) → n ≡ 1 → AllTwo (places_from row 0 n)
one-place row n e = subst (λ k. AllTwo (places_from row 0 k)) (sym e) (tt, tt)

row-all : (circuit : FlatCircuit) (row : Row) (at : At) → row.at ≡ at → IsAt circuit row.width row.count at → row.count < 2 ^ 32 → AllTwo (places_from row 0 row.count)
row-all circuit row (Register r) is h few = one-place row row.count h.1
row-all circuit row (Read m r) is h few = one-place row row.count h.2
row-all circuit row (Words m) is h few = memory-all row m 0 row.count is (omega (arith, few))

two-from-row : (one other : Row) (a b n : ℕ) → IsPlain one.path → IsPlain other.path → Differ one other → TwoFrom (record { row = one; address = a }) (places_from other b n)
two-from-row one other a b zero p q differ = tt
two-from-row one other a b (suc n) p q differ = (two-rows one other a b p q differ, two-from-row one other a (b + 1) n p q differ)

two-from-rows : (circuit : FlatCircuit) (one : Row) (a : ℕ) (rows : List Row) → IsPlain one.path → All (IsKnown circuit) rows → DiffersFrom one rows → TwoFrom (record { row = one; address = a }) (places rows)
two-from-rows circuit one a [] p known differ = tt
two-from-rows circuit one a (row ∷ rows) p known differ =
    TwoFrom-joined (record { row = one; address = a }) (places_from row 0 row.count) (places rows)
    (two-from-row one row a 0 row.count p (All-head (IsKnown circuit) row rows known).plain differ.0)
    (two-from-rows circuit one a rows p (All-tail (IsKnown circuit) row rows known) differ.1)

each-two : (circuit : FlatCircuit) (one : Row) (a n : ℕ) (rows : List Row) → IsPlain one.path → All (IsKnown circuit) rows → DiffersFrom one rows → EachTwo (places_from one a n) (places rows)
each-two circuit one a zero rows p known differ = tt
each-two circuit one a (suc n) rows p known differ = (two-from-rows circuit one a rows p known differ, each-two circuit one (a + 1) n rows p known differ)

pub places-two : (circuit : FlatCircuit) (rows : List Row) → All (IsKnown circuit) rows → AllDiffer rows → AllTwo (places rows)
places-two circuit [] known differ = tt
places-two circuit (row ∷ rows) known differ =
    let first = All-head (IsKnown circuit) row rows known in
    let others = All-tail (IsKnown circuit) row rows known in
    AllTwo-append (places_from row 0 row.count) (places rows) (row-all circuit row row.at refl first.at first.few) (places-two circuit rows others differ.1) (each-two circuit row 0 row.count rows first.plain others differ.0)

-- what follows the head of a row in a line
pub head-rest : (row : Row) (line word path one two : List ℕ) → word ≡ kind_word row.kind → path ≡ row.path → line ≡ word ++ one → one ≡ path ++ two → line ≡ kind_word row.kind ++ (row.path ++ two)
head-rest row line word path one two w p first second = first ∙ ap (λ t. t ++ one) w ∙ ap (λ t. kind_word row.kind ++ t) (second ∙ ap (λ t. t ++ two) p)

pub after-head : (row : Row) (line two rest : List ℕ) → line ≡ kind_word row.kind ++ (row.path ++ two) → line ≡ head_of row ++ rest → two ≡ 32 ∷ rest
after-head row line two rest is head =
    append_cancel_left row.path two (32 ∷ rest) (append_cancel_left (kind_word row.kind) (row.path ++ two) (row.path ++ 32 ∷ rest) (sym is ∙ head ∙ head-front row rest))

pub before-head : (row : Row) (line two rest : List ℕ) → line ≡ kind_word row.kind ++ (row.path ++ two) → two ≡ 32 ∷ rest → line ≡ head_of row ++ rest
before-head row line two rest is e = is ∙ ap (λ t. kind_word row.kind ++ (row.path ++ t)) e ∙ sym (head-front row rest)
