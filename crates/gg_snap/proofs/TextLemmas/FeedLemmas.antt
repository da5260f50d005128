-- The lines of a text that is made of lines.
use Rattle.std.proofs.Common.{◌≡◌, ◌≢◌, ℕ, zero, suc, ◌+◌, ◌/◌, ◌%◌, ◌<◌, ◌≤◌, ◌^◌, List, [], ◌∷◌, ◌++◌, codes, decimal, Bool, true, false, cond, refl, sym, ap, ◌∙◌, subst, arith, append_assoc, ◌⊎◌, inl, inr}
use Rattle.std.specs.Prelude.{⊤, All, Contains, nat_lt, ◌==◌}
use Rattle.std.specs.Char.{digit_char}
use Rattle.std.specs.Fmt.{digit_glyph, digits, digits_onto}
use Rattle.std.specs.List.{concat, flat_map, range_with_len}
use Rattle.std.proofs.lemmas.Bool.Decides.{nat_tests}
use Rattle.std.proofs.lemmas.List.Elements.{All-head, All-tail}
use Rattle.gg_flat.specs.State.{State}
use Rattle.gg_flat.proofs.ListLemmas.{Contains-cases, here, further}
use Rattle.gg_trace.specs.Printing.{hex_digits, digit_count}
use Rattle.gg_snap.specs.declared.text.row.At.{At}
use Rattle.gg_snap.specs.declared.text.row.At.TheVariants.{Register, Read, Words}
use Rattle.gg_snap.specs.declared.text.row.Kind.{Kind}
use Rattle.gg_snap.specs.declared.text.row.Kind.TheVariants as kind
use Rattle.gg_snap.specs.declared.text.row.Row.{Row}
use Rattle.gg_snap.specs.text.Known.{HasNo, IsPlain}
use Rattle.gg_snap.specs.text.Lines.{address_text, cycle_line, first_line, head_of, kind_word, line_of, row_lines, shown, snap_lines, snap_text, value_lines, value_of}
use Rattle.gg_snap.specs.text.Standing.{pieces, with_byte}

-- ---- texts without a line feed

pub no-nil : (b : ℕ) → HasNo b []
no-nil b c = omega (arith, c.1)

no-cons : (b x : ℕ) (xs : List ℕ) → x ≢ b → HasNo b xs → HasNo b (x ∷ xs)
no-cons b x xs ne free c = by (Contains-cases x b xs c)
  where
    by : (x ≡ b) ⊎ Contains xs b → ⊥
    by (inl e) = ne e
    by (inr d) = free d

-- each byte of a text is another one
abbrev pub AreOther : ℕ → List ℕ → Type 0
AreOther b [] = ⊤
AreOther b (x ∷ xs) = (x ≢ b) × AreOther b xs

pub free-no : (b : ℕ) (xs : List ℕ) → AreOther b xs → HasNo b xs
free-no b [] other = no-nil b
free-no b (x ∷ xs) other = no-cons b x xs other.0 (free-no b xs other.1)

pub no-append : (b : ℕ) (xs ys : List ℕ) → HasNo b xs → HasNo b ys → HasNo b (xs ++ ys)
no-append b [] ys p q = q
no-append b (x ∷ xs) ys p q = no-cons b x (xs ++ ys) (λ e. p (subst (λ c. Contains (x ∷ xs) c) e (here x xs))) (no-append b xs ys (λ c. p (further x xs b c)) q)

-- a number has only digits
pub decimal-no : (b n : ℕ) → b < 48 → HasNo b (decimal n)
unfolding digits
decimal-no b n low = onto-no 64 n [] (no-nil b)
  where
    digit-is : (d : ℕ) (t : Bool) → cond t (48 + d) (87 + d) ≢ b
    digit-is d true e = omega (arith, low, e)
    digit-is d false e = omega (arith, low, e)

    either : (t : Bool) (xs ys : List ℕ) → HasNo b xs → HasNo b ys → HasNo b (cond t xs ys)
    either true xs ys p q = p
    either false xs ys p q = q

    onto-no : (k n : ℕ) (acc : List ℕ) → HasNo b acc → HasNo b (digits_onto k 10 false n acc)
    onto-no zero n acc free = free
    onto-no (suc k) n acc free =
        let next = digit_glyph false (n % 10) ∷ acc in
        let more : HasNo b next = no-cons b (digit_glyph false (n % 10)) acc (digit-is (n % 10) (nat_lt (n % 10) 10)) free in
        either (n / 10 == 0) next (digits_onto k 10 false (n / 10) next) more (onto-no k (n / 10) next more)

-- a line: a text without a line feed, and one behind it
pub record IsLine (line : List ℕ) : Type 0 where
  pub front : List ℕ
  pub free : HasNo 10 front
  pub is : line ≡ front ++ 10 ∷ []

abbrev pub AreLines : List (List ℕ) → Type 0
AreLines [] = ⊤
AreLines (l ∷ ls) = IsLine l × AreLines ls

lines-append : (xs ys : List (List ℕ)) → AreLines xs → AreLines ys → AreLines (xs ++ ys)
lines-append [] ys a b = b
lines-append (x ∷ xs) ys a b = (a.0, lines-append xs ys a.1 b)

first-piece : (front rest : List ℕ) → HasNo 10 front → pieces (front ++ 10 ∷ rest) ≡ (front ++ 10 ∷ []) ∷ pieces rest
first-piece [] rest free = refl
first-piece (x ∷ front) rest free = by (first-piece front rest (λ c. free (further x front 10 c))) (x == 10) refl
  where
    by : pieces (front ++ 10 ∷ rest) ≡ (front ++ 10 ∷ []) ∷ pieces rest → (t : Bool) → (x == 10) ≡ t → cond t ((x ∷ []) ∷ pieces (front ++ 10 ∷ rest)) (with_byte x (pieces (front ++ 10 ∷ rest))) ≡ (x ∷ (front ++ 10 ∷ [])) ∷ pieces rest
    by later true e = absurd (free (let same : x ≡ 10 = grind (arith, nat_tests) in subst (λ c. Contains (x ∷ front) c) same (here x front)))
    by later false e = ap (with_byte x) later

-- a text that begins with a line has it as its first line
line-piece : (line rest : List ℕ) → IsLine line → pieces (line ++ rest) ≡ line ∷ pieces rest
line-piece line rest is =
    ap (λ t. pieces (t ++ rest)) is.is
    ∙ ap pieces (append_assoc is.front (10 ∷ []) rest)
    ∙ first-piece is.front rest is.free
    ∙ ap (λ x. x ∷ pieces rest) (sym is.is)

-- a text of lines has them as its lines
pub lines-pieces : (ls : List (List ℕ)) → AreLines ls → pieces (concat ls) ≡ ls
lines-pieces [] are = refl
lines-pieces (l ∷ ls) are = line-piece l (concat ls) are.0 ∙ ap (λ xs. l ∷ xs) (lines-pieces ls are.1)

-- ---- the lines of a snapshot

digit-no : (d : ℕ) → d < 16 → digit_char d ≢ 10
digit-no d h e = absurd (let low : 48 ≤ digit_char d = grind (arith, nat_tests) in omega (arith, low, e))

hex-no : (k value : ℕ) → HasNo 10 (hex_digits k value)
hex-no zero value = no-nil 10
hex-no (suc k) value =
    let d = value / 16 ^ k % 16 in
    let small : d < 16 = omega arith in
    no-cons 10 (digit_char d) (hex_digits k value) (digit-no d small) (hex-no k value)

word-no : (k : Kind) → HasNo 10 (kind_word k)
word-no kind.Register = free-no 10 (codes "reg ") (λ e. omega (arith, e), (λ e. omega (arith, e), (λ e. omega (arith, e), (λ e. omega (arith, e), tt))))
word-no kind.Read = free-no 10 (codes "read ") (λ e. omega (arith, e), (λ e. omega (arith, e), (λ e. omega (arith, e), (λ e. omega (arith, e), (λ e. omega (arith, e), tt)))))
word-no kind.Pipe = free-no 10 (codes "pipe ") (λ e. omega (arith, e), (λ e. omega (arith, e), (λ e. omega (arith, e), (λ e. omega (arith, e), (λ e. omega (arith, e), tt)))))
word-no kind.Memory = free-no 10 (codes "mem ") (λ e. omega (arith, e), (λ e. omega (arith, e), (λ e. omega (arith, e), (λ e. omega (arith, e), tt))))

no-blank : HasNo 10 (32 ∷ [])
no-blank = free-no 10 (32 ∷ []) (λ e. omega (arith, e), tt)

address-no : (at : At) (a : ℕ) → HasNo 10 (address_text at a)
address-no (Register r) a = no-nil 10
address-no (Read m r) a = no-nil 10
address-no (Words m) a = no-append 10 (decimal a) (32 ∷ []) (decimal-no 10 a (omega arith)) no-blank

value-line : (row : Row) (a v : ℕ) → HasNo 10 row.path → IsLine (line_of row a v)
value-line row a v free = record {
  front = head_of row ++ (address_text row.at a ++ hex_digits (digit_count row.width) v);
  free = no-append 10 (head_of row) (address_text row.at a ++ hex_digits (digit_count row.width) v)
      (no-append 10 (kind_word row.kind) (row.path ++ 32 ∷ []) (word-no row.kind) (no-append 10 row.path (32 ∷ []) free no-blank))
      (no-append 10 (address_text row.at a) (hex_digits (digit_count row.width) v) (address-no row.at a) (hex-no (digit_count row.width) v));
  is =
      ap (λ t. head_of row ++ t) (sym (append_assoc (address_text row.at a) (hex_digits (digit_count row.width) v) (10 ∷ [])))
      ∙ sym (append_assoc (head_of row) (address_text row.at a ++ hex_digits (digit_count row.width) v) (10 ∷ []));
}

shown-lines : (row : Row) (a v : ℕ) → HasNo 10 row.path → AreLines (shown row a v)
shown-lines row a v free = by (v == 0)
  where
    by : (t : Bool) → AreLines (cond t [] (line_of row a v ∷ []))
    by true = tt
    by false = (value-line row a v free, tt)

row-lines-from : (s : State) (row : Row) (a n : ℕ) → HasNo 10 row.path → AreLines (flat_map (λ address. shown row address (value_of s row.at address)) (range_with_len a n))
row-lines-from s row a zero free = tt
row-lines-from s row a (suc n) free =
    lines-append (shown row a (value_of s row.at a)) (flat_map (λ address. shown row address (value_of s row.at address)) (range_with_len (a + 1) n))
    (shown-lines row a (value_of s row.at a) free) (row-lines-from s row (a + 1) n free)

-- the path of a row has no blank and no line feed
abbrev pub IsPlainRow : Row → Type 0
IsPlainRow row = IsPlain row.path

are-lines : (s : State) (rows : List Row) → All IsPlainRow rows → AreLines (value_lines s rows)
are-lines s [] plain = tt
are-lines s (row ∷ rows) plain =
    lines-append (row_lines s row) (value_lines s rows) (row-lines-from s row 0 row.count (All-head IsPlainRow row rows plain).1) (are-lines s rows (All-tail IsPlainRow row rows plain))

cycle-is-line : (cycle : ℕ) → IsLine (cycle_line cycle)
cycle-is-line cycle = record {
  front = codes "cycle " ++ decimal cycle;
  free = no-append 10 (codes "cycle ") (decimal cycle) (free-no 10 (codes "cycle ") (λ e. omega (arith, e), (λ e. omega (arith, e), (λ e. omega (arith, e), (λ e. omega (arith, e), (λ e. omega (arith, e), (λ e. omega (arith, e), tt))))))) (decimal-no 10 cycle (omega arith));
  is = refl;
}

first-is-line : IsLine first_line
first-is-line = record {
  front = codes "golden snapshot 1";
  free = free-no 10 (codes "golden snapshot 1") (λ e. omega (arith, e), (λ e. omega (arith, e), (λ e. omega (arith, e), (λ e. omega (arith, e), (λ e. omega (arith, e), (λ e. omega (arith, e), (λ e. omega (arith, e), (λ e. omega (arith, e), (λ e. omega (arith, e), (λ e. omega (arith, e), (λ e. omega (arith, e), (λ e. omega (arith, e), (λ e. omega (arith, e), (λ e. omega (arith, e), (λ e. omega (arith, e), (λ e. omega (arith, e), (λ e. omega (arith, e), tt)))))))))))))))));
  is = refl;
}

-- a text of a snapshot has the lines of which it is made, if no path has a line feed; it has the first two in any case
pub snap-pieces : (rows : List Row) (cycle : ℕ) (s : State) → All IsPlainRow rows → pieces (snap_text rows cycle s) ≡ snap_lines rows cycle s
snap-pieces rows cycle s plain =
    lines-pieces (snap_lines rows cycle s) (first-is-line, (cycle-is-line cycle, are-lines s rows plain))

pub snap-begins : (rows : List Row) (cycle : ℕ) (s : State) → pieces (snap_text rows cycle s) ≡ first_line ∷ cycle_line cycle ∷ pieces (concat (value_lines s rows))
snap-begins rows cycle s =
    line-piece first_line (cycle_line cycle ++ concat (value_lines s rows)) first-is-line
    ∙ ap (λ ls. first_line ∷ ls) (line-piece (cycle_line cycle) (concat (value_lines s rows)) (cycle-is-line cycle))
