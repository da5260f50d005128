-- A word of a line is a name if it has no dash, and each name is such a word.
use Rattle.std.proofs.Common.{◌≡◌, ℕ, List, [], ◌∷◌, ◌++◌, Bool, true, false, ◌==◌, ◌||◌, refl, sym, ap, ◌∙◌, subst}
use Rattle.std.specs.Prelude.{◌↔◌}
use Rattle.std.specs.Int.{is_in_range}
use Rattle.std.specs.List.{list_all, list_any}
use Rattle.std.proofs.lemmas.List.{append-nil}
use Rattle.std.proofs.lemmas.List.Folds.{list_all-append}
use Rattle.std.proofs.lemmas.List.Sums.{AllPass-from_list_all, list_all-from_AllPass}
use Rattle.std.proofs.lemmas.Bool.{eqb-true, and_parts, and_from, or_parts}
use Rattle.gg_lex.specs.Bytes.{is_word_byte, is_tail_byte}
use Rattle.gg_lex.specs.Tokens.{IsWord}
use Rattle.gg_ast.specs.Names.{IsName, begins_name, is_name_byte}

abbrev is_dash : ℕ → Bool
is_dash b = b == 45

-- a byte of a word's tail may be in a name, unless it is a dash
letter : (digit upper lower dash underscore dollar : Bool) → ((upper || lower) || dash) ≡ true → dash ≡ false → ((((digit || upper) || lower) || underscore) || dollar) ≡ true
letter digit upper lower true underscore dollar h n = absurd (cc)
letter true upper lower false underscore dollar h n = refl
letter false true lower false underscore dollar h n = refl
letter false false true false underscore dollar h n = refl
letter false false false false underscore dollar h n = absurd (cc)

tail-bytes : (bs : List ℕ) → list_all is_tail_byte bs ≡ true → list_any is_dash bs ≡ false → list_all is_name_byte bs ≡ true
tail-bytes [] h n = refl
tail-bytes (b ∷ bs) h n =
    let p = and_parts (is_tail_byte b) (list_all is_tail_byte bs) h in
    let q = or_parts (is_dash b) (list_any is_dash bs) n in
    and_from (is_name_byte b) (list_all is_name_byte bs) (letter (is_in_range 48 57 b) (is_in_range 65 90 b) (is_in_range 97 122 b) (is_dash b) (b == 95) (b == 36) p.0 q.0) (tail-bytes bs p.1 q.1)

no-dash-behind : (xs ys : List ℕ) → list_any is_dash (xs ++ ys) ≡ false → list_any is_dash ys ≡ false
no-dash-behind [] ys h = h
no-dash-behind (x ∷ xs) ys h = no-dash-behind xs ys (or_parts (is_dash x) (list_any is_dash (xs ++ ys)) h).1

parts-named : (first : ℕ) (body tail : List ℕ) → begins_name first ≡ true → list_all is_name_byte body ≡ true → list_all is_tail_byte tail ≡ true → list_any is_dash (body ++ tail) ≡ false → IsName (first ∷ (body ++ tail))
parts-named first body tail starts b t none =
    and_from (begins_name first) (list_all is_name_byte (body ++ tail)) starts
    (list_all-append is_name_byte body tail ∙ and_from (list_all is_name_byte body) (list_all is_name_byte tail) b (tail-bytes tail t (no-dash-behind body tail none)))

name : (text : List ℕ) → IsWord text × (list_any is_dash text ≡ false) → IsName text
name text ((first, body, tail, is, starts, b, t), none) =
    let all : list_any is_dash (first ∷ (body ++ tail)) ≡ false = subst (λ (x : List ℕ). list_any is_dash x ≡ false) is none in
    subst IsName (sym is) (parts-named first body tail starts (list_all-from_AllPass is_word_byte body b) (list_all-from_AllPass is_tail_byte tail t) (or_parts (is_dash first) (list_any is_dash (body ++ tail)) all).1)

no_dash_byte : (p : ℕ → Bool) (b : ℕ) (v : Bool) → b == 45 ≡ v → p 45 ≡ false → p b ≡ true → v ≡ false
no_dash_byte p b false e n h = refl
no_dash_byte p b true e n h = let same : b ≡ 45 = eqb-true b 45 e in absurd (cc)

no_dash : (bs : List ℕ) → list_all is_name_byte bs ≡ true → list_any is_dash bs ≡ false
no_dash [] h = refl
no_dash (b ∷ bs) h =
    let p = and_parts (is_name_byte b) (list_all is_name_byte bs) h in
    ap (λ v. v || list_any is_dash bs) (no_dash_byte is_name_byte b (is_dash b) refl refl p.0) ∙ no_dash bs p.1

word : (text : List ℕ) → IsName text → IsWord text × (list_any is_dash text ≡ false)
word [] h = absurd (cc)
word (b ∷ bs) h =
    let p = and_parts (begins_name b) (list_all is_name_byte bs) h in (
      (b, bs, [], ap (λ l. b ∷ l) (sym (append-nil bs)), p.0, AllPass-from_list_all is_word_byte bs p.1, AllPass-from_list_all is_tail_byte [] refl),
      ap (λ v. v || list_any is_dash bs) (no_dash_byte begins_name b (is_dash b) refl refl p.0) ∙ no_dash bs p.1,
    )

pub name-word : (text : List ℕ) → IsName text ↔ (IsWord text × (list_any is_dash text ≡ false))
name-word text = (word text, name text)
