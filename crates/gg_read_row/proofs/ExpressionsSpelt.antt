-- An expression that is read is spelt so.
use Rattle.std.proofs.Common.{◌≡◌, ℕ, zero, suc, List, [], ◌∷◌, Bool, true, false, Option, None, Some, IsTrue, ◌⊎◌, inl, inr, ⊎_elim, refl, sym, ap, ◌∙◌, subst, arith}
use Rattle.std.proofs.lemmas.Bool.{eqb-true}
use Rattle.std.specs.Prelude.{if◌then◌else◌, codes, ◌==◌}
use Rattle.std.proofs.lemmas.Option.{same_Some}
use Rattle.gg_bits.specs.declared.types.Kind.{Kind}
use Rattle.gg_bits.specs.declared.types.Kind.TheVariants as kind
use Rattle.gg_bits.specs.declared.ops.Op1.{Op1}
use Rattle.gg_bits.specs.declared.ops.Op2.{Op2}
use Rattle.gg_bits.specs.declared.ops.OpN.{OpN}
use Rattle.gg_bits.specs.declared.ops.OpN.TheVariants.{Pad, Shl, Shr, Bits, Head, Tail}
use Rattle.gg_lex.specs.declared.token.Tok.{Tok}
use Rattle.gg_lex.specs.declared.token.Tok.TheVariants.{Word, Number, Text, Symbol}
use Rattle.gg_lex.specs.declared.token.Symbol.TheVariants.{Comma, Dot, OpenParen, CloseParen, Less, Greater}
use Rattle.gg_ast.specs.declared.expression.Literal.{Literal}
use Rattle.gg_ast.specs.declared.expression.Radix.{Radix}
use Rattle.gg_ast.specs.declared.expression.Radix.TheVariants.{Binary, Octal, Decimal, Hexadecimal}
use Rattle.gg_ast.specs.declared.expression.Reference.{Reference}
use Rattle.gg_ast.specs.declared.expression.Reference.TheVariants as reference
use Rattle.gg_ast.specs.declared.module.GroundType.{GroundType}
use Rattle.gg_ast.specs.declared.module.GroundType.TheVariants as plain_type
use Rattle.gg_ast.specs.Term.{Term, NamedTerm, ConstantTerm, UnaryTerm, BinaryTerm, FixedTerm, MuxTerm}
use Rattle.gg_ast.specs.declared.words.Operation.{Operation}
use Rattle.gg_ast.specs.declared.words.Operation.TheVariants.{Unary, Binary as Binary2, Fixed, Mux}
use Rattle.gg_read_row.specs.declared.digits.Digits.{Digits}
use Rattle.gg_bits.specs.Spelling.{text1, text2, text_const}
use Rattle.gg_ast.specs.Words.{kind_text}
use Rattle.gg_ast.specs.inside.Words.{operation_of}
use Rattle.gg_ast.specs.Names.{IsName}
use Rattle.gg_read_row.specs.Forms.{IsNatural, SpellsReference, SpellsType, SpellsLiteral, SpellsNumber, SpellsWithRadix, SpellsParameters, SpellsExpr, are_digits, signed, number_token, letter_of}
use Rattle.gg_read_row.specs.inside.Reading.{◌>>=◌, symbol_at, word_at, name_at, natural_at, third_at, second_at, reference_at, width_at, kind_at, ground_type, type_at, checked_digits, signed_digits, radix_of, text_digits, zero_radix, radix_or_decimal, split_radix, number_digits, digits_at, literal_of, literal_at, operation_at, one_parameter_at, two_parameters_at, parameters_at, is_second, unary_at, binary_at, fixed_at, mux_at, operands_at, call_at, expr_at}
use Rattle.gg_read_row.proofs.Leaves.{bound, chosen, not_chosen, symbol_at-spells, word_at-spells, name_at-spells, natural_at-spells}
use Rattle.gg_read_row.proofs.WordLaws.{operation_text, operation_of-spells}

-- ---- references

third-spells : (a b : List ℕ) (ts rest : List Tok) (r : Reference) (o : Option (List Tok)) → IsName a → IsName b → symbol_at Dot ts ≡ o → third_at a b ts ≡ Some (r, rest) → SpellsReference r (Word a ∷ (Symbol Dot ∷ (Word b ∷ ts))) rest
third-spells a b ts rest r None na nb e h =
    let go : List Tok → Option (Reference × List Tok) = λ t. name_at t >>= λ c. Some (reference.FieldOf a b c.0, c.1) in
    let stop : Option (Reference × List Tok) = Some (reference.PortOf a b, ts) in
    let same = same_Some (reference.PortOf a b, ts) (r, rest) (sym (not_chosen (symbol_at Dot ts) go stop e) ∙ h) in
    subst (λ (p : Reference × List Tok). SpellsReference p.0 (Word a ∷ (Symbol Dot ∷ (Word b ∷ ts))) p.1) same (na, nb, refl)
third-spells a b ts rest r (Some t) na nb e h =
    let go : List Tok → Option (Reference × List Tok) = λ t. name_at t >>= λ c. Some (reference.FieldOf a b c.0, c.1) in
    let stop : Option (Reference × List Tok) = Some (reference.PortOf a b, ts) in
    let n = bound (name_at t) (λ c. Some (reference.FieldOf a b c.0, c.1)) (r, rest) (sym (chosen (symbol_at Dot ts) go stop t e) ∙ h) in
    let word = name_at-spells t n.0.0 n.0.1 n.1 in
    let tail : ts ≡ Symbol Dot ∷ (Word n.0.0 ∷ n.0.1) = symbol_at-spells Dot ts t e ∙ ap (λ l. Symbol Dot ∷ l) word.1 in
    subst (λ (p : Reference × List Tok). SpellsReference p.0 (Word a ∷ (Symbol Dot ∷ (Word b ∷ ts))) p.1) (same_Some (reference.FieldOf a b n.0.0, n.0.1) (r, rest) n.2)
    (na, nb, word.0, ap (λ l. Word a ∷ (Symbol Dot ∷ (Word b ∷ l))) tail)

second-spells : (a : List ℕ) (ts rest : List Tok) (r : Reference) (o : Option (List Tok)) → IsName a → symbol_at Dot ts ≡ o → second_at a ts ≡ Some (r, rest) → SpellsReference r (Word a ∷ ts) rest
second-spells a ts rest r None na e h =
    let go : List Tok → Option (Reference × List Tok) = λ t. name_at t >>= λ b. third_at a b.0 b.1 in
    let stop : Option (Reference × List Tok) = Some (reference.Local a, ts) in
    let same = same_Some (reference.Local a, ts) (r, rest) (sym (not_chosen (symbol_at Dot ts) go stop e) ∙ h) in
    subst (λ (p : Reference × List Tok). SpellsReference p.0 (Word a ∷ ts) p.1) same (na, refl)
second-spells a ts rest r (Some t) na e h =
    let go : List Tok → Option (Reference × List Tok) = λ t. name_at t >>= λ b. third_at a b.0 b.1 in
    let stop : Option (Reference × List Tok) = Some (reference.Local a, ts) in
    let n = bound (name_at t) (λ b. third_at a b.0 b.1) (r, rest) (sym (chosen (symbol_at Dot ts) go stop t e) ∙ h) in
    let word = name_at-spells t n.0.0 n.0.1 n.1 in
    let tail : Symbol Dot ∷ (Word n.0.0 ∷ n.0.1) ≡ ts = sym (symbol_at-spells Dot ts t e ∙ ap (λ l. Symbol Dot ∷ l) word.1) in
    subst (λ l. SpellsReference r (Word a ∷ l) rest) tail (third-spells a n.0.0 n.0.1 rest r (symbol_at Dot n.0.1) na word.0 refl n.2)

pub reference-spells : (ts rest : List Tok) (r : Reference) → reference_at ts ≡ Some (r, rest) → SpellsReference r ts rest
reference-spells ts rest r h =
    let n = bound (name_at ts) (λ a. second_at a.0 a.1) (r, rest) h in
    let word = name_at-spells ts n.0.0 n.0.1 n.1 in
    subst (λ l. SpellsReference r l rest) (sym word.1) (second-spells n.0.0 n.0.1 rest r (symbol_at Dot n.0.1) word.0 refl n.2)

-- ---- types and literals

-- the tokens `< n >`
record SpellsWidth (n : ℕ) (ts rest : List Tok) : Type 0 where
  digits : List ℕ
  natural : IsNatural digits n
  spelt : ts ≡ Symbol Less ∷ (Number digits ∷ (Symbol Greater ∷ rest))

width-spells : (ts rest : List Tok) (n : ℕ) → width_at ts ≡ Some (n, rest) → SpellsWidth n ts rest
width-spells ts rest n h =
    let open_ = bound (symbol_at Less ts) (λ t. natural_at t >>= λ n. symbol_at Greater n.1 >>= λ u. Some (n.0, u)) (n, rest) h in
    let number = bound (natural_at open_.0) (λ n. symbol_at Greater n.1 >>= λ u. Some (n.0, u)) (n, rest) open_.2 in
    let close = bound (symbol_at Greater number.0.1) (λ u. Some (number.0.0, u)) (n, rest) number.2 in
    let digits = natural_at-spells open_.0 number.0.0 number.0.1 number.1 in
    let same = same_Some (number.0.0, close.0) (n, rest) close.2 in
    record {
      digits = digits.0;
      natural = subst (λ (p : ℕ × List Tok). IsNatural digits.0 p.0) same digits.1;
      spelt = symbol_at-spells Less ts open_.0 open_.1 ∙ ap (λ l. Symbol Less ∷ l) (digits.2 ∙ ap (λ l. Number digits.0 ∷ l) (symbol_at-spells Greater number.0.1 close.0 close.1))
          ∙ ap (λ (p : ℕ × List Tok). Symbol Less ∷ (Number digits.0 ∷ (Symbol Greater ∷ p.1))) same;
    }

kind_by : (ts rest : List Tok) (k : Kind) (o : Option (List Tok)) → word_at (codes "UInt") ts ≡ o → kind_at ts ≡ Some (k, rest) → ts ≡ Word (kind_text k) ∷ rest
kind_by ts rest k (Some t) e h =
    let go : List Tok → Option (Kind × List Tok) = λ t. Some (kind.UInt, t) in
    let other : Option (Kind × List Tok) = word_at (codes "SInt") ts >>= λ t. Some (kind.SInt, t) in
    let same = same_Some (kind.UInt, t) (k, rest) (sym (chosen (word_at (codes "UInt") ts) go other t e) ∙ h) in
    word_at-spells (codes "UInt") ts t e ∙ ap (λ (p : Kind × List Tok). Word (kind_text p.0) ∷ p.1) same
kind_by ts rest k None e h =
    let go : List Tok → Option (Kind × List Tok) = λ t. Some (kind.UInt, t) in
    let sint : List Tok → Option (Kind × List Tok) = λ t. Some (kind.SInt, t) in
    let other : Option (Kind × List Tok) = word_at (codes "SInt") ts >>= sint in
    let w = bound (word_at (codes "SInt") ts) sint (k, rest) (sym (not_chosen (word_at (codes "UInt") ts) go other e) ∙ h) in
    word_at-spells (codes "SInt") ts w.0 w.1 ∙ ap (λ (p : Kind × List Tok). Word (kind_text p.0) ∷ p.1) (same_Some (kind.SInt, w.0) (k, rest) w.2)

kind-spells : (ts rest : List Tok) (k : Kind) → kind_at ts ≡ Some (k, rest) → ts ≡ Word (kind_text k) ∷ rest
kind-spells ts rest k h = kind_by ts rest k (word_at (codes "UInt") ts) refl h

wide : (k : Kind) (width : ℕ) (ts t rest : List Tok) → ts ≡ Word (kind_text k) ∷ t → SpellsWidth width t rest → SpellsType (ground_type k width) ts rest
wide kind.UInt width ts t rest e w = (w.digits, w.natural, e ∙ ap (λ l. Word (codes "UInt") ∷ l) w.spelt)
wide kind.SInt width ts t rest e w = (w.digits, w.natural, e ∙ ap (λ l. Word (codes "SInt") ∷ l) w.spelt)

type_by : (ts rest : List Tok) (ty : GroundType) (o : Option (List Tok)) → word_at (codes "Clock") ts ≡ o → type_at ts ≡ Some (ty, rest) → SpellsType ty ts rest
type_by ts rest ty (Some t) e h =
    let go : List Tok → Option (GroundType × List Tok) = λ t. Some (plain_type.Clock, t) in
    let other : Option (GroundType × List Tok) = kind_at ts >>= λ k. width_at k.1 >>= λ w. Some (ground_type k.0 w.0, w.1) in
    let same = same_Some (plain_type.Clock, t) (ty, rest) (sym (chosen (word_at (codes "Clock") ts) go other t e) ∙ h) in
    subst (λ (p : GroundType × List Tok). SpellsType p.0 ts p.1) same (word_at-spells (codes "Clock") ts t e)
type_by ts rest ty None e h =
    let go : List Tok → Option (GroundType × List Tok) = λ t. Some (plain_type.Clock, t) in
    let other : Option (GroundType × List Tok) = kind_at ts >>= λ k. width_at k.1 >>= λ w. Some (ground_type k.0 w.0, w.1) in
    let k = bound (kind_at ts) (λ k. width_at k.1 >>= λ w. Some (ground_type k.0 w.0, w.1)) (ty, rest) (sym (not_chosen (word_at (codes "Clock") ts) go other e) ∙ h) in
    let w = bound (width_at k.0.1) (λ w. Some (ground_type k.0.0 w.0, w.1)) (ty, rest) k.2 in
    subst (λ (p : GroundType × List Tok). SpellsType p.0 ts p.1) (same_Some (ground_type k.0.0 w.0.0, w.0.1) (ty, rest) w.2)
    (wide k.0.0 w.0.0 ts k.0.1 w.0.1 (kind-spells ts k.0.1 k.0.0 k.1) (width-spells k.0.1 w.0.1 w.0.0 w.1))

pub type-spells : (ts rest : List Tok) (ty : GroundType) → type_at ts ≡ Some (ty, rest) → SpellsType ty ts rest
type-spells ts rest ty h = type_by ts rest ty (word_at (codes "Clock") ts) refl h

-- the bytes are the digits d, of this radix, with a `-` before them if d is negative
record AreSigned (radix : Radix) (bytes : List ℕ) (d : Digits) : Type 0 where
  same : d.radix ≡ radix
  digits : IsTrue (are_digits radix d.digits)
  spelt : bytes ≡ signed d.negative d.digits

checked_by : (radix : Radix) (negative : Bool) (bs : List ℕ) (d : Digits) (b : Bool) → are_digits radix bs ≡ b → (if b then Some (record { radix = radix; negative = negative; digits = bs }) else None) ≡ Some d → (d.radix ≡ radix) × (d.negative ≡ negative) × (d.digits ≡ bs) × IsTrue (are_digits radix d.digits)
checked_by radix negative bs d true e h =
    let same = same_Some (record { radix = radix; negative = negative; digits = bs }) d h in (
      sym (ap (λ (x : Digits). x.radix) same),
      sym (ap (λ (x : Digits). x.negative) same),
      sym (ap (λ (x : Digits). x.digits) same),
      subst (λ (x : Digits). IsTrue (are_digits radix x.digits)) same e,
    )
checked_by radix negative bs d false e h = absurd (cc)

signed_by : (radix : Radix) (b : ℕ) (bs : List ℕ) (d : Digits) (t : Bool) → (b == 45) ≡ t → (if t then checked_digits radix true bs else checked_digits radix false (b ∷ bs)) ≡ Some d → AreSigned radix (b ∷ bs) d
signed_by radix b bs d true e h =
    let c = checked_by radix true bs d (are_digits radix bs) refl h in
    let minus : b ≡ 45 = grind arith in
    record { same = c.0; digits = c.3; spelt = ap (λ x. x ∷ bs) minus ∙ ap (λ l. 45 ∷ l) (sym c.2) ∙ ap (λ n. signed n d.digits) (sym c.1) }
signed_by radix b bs d false e h =
    let c = checked_by radix false (b ∷ bs) d (are_digits radix (b ∷ bs)) refl h in
    record { same = c.0; digits = c.3; spelt = sym c.2 ∙ ap (λ n. signed n d.digits) (sym c.1) }

signed-spells : (radix : Radix) (bs : List ℕ) (d : Digits) → signed_digits radix bs ≡ Some d → AreSigned radix bs d
signed-spells radix [] d h = absurd (cc)
signed-spells radix (b ∷ bs) d h = signed_by radix b bs d (b == 45) refl h

-- the token that spells these digits of a literal
abbrev SpellsDigits : Digits → Tok → Type 0
SpellsDigits d t = SpellsNumber d.radix d.negative d.digits t

-- a text that is the first byte of a radix and then digits spells the digits
radix_byte : (b : ℕ) (bs : List ℕ) (radix : Radix) (d : Digits) → radix_of b ≡ Some radix → AreSigned radix bs d → SpellsDigits d (Text (b ∷ bs))
radix_byte b bs radix d e s =
    record { digits_are = subst (λ r. IsTrue (are_digits r d.digits)) (sym s.same) s.digits; spelt = inl (with_radix (b == 98) (b == 111) (b == 104) refl refl refl e ∙ ap (λ r. number_token r (signed d.negative d.digits)) (sym s.same)) }
  where
    with_radix : (x y z : Bool) → (b == 98) ≡ x → (b == 111) ≡ y → (b == 104) ≡ z
        → (if x then Some Binary else (if y then Some Octal else (if z then Some Hexadecimal else None))) ≡ Some radix → Text (b ∷ bs) ≡ number_token radix (signed d.negative d.digits)
    with_radix true y z p q r f = let at : b ≡ 98 = grind arith in ap (λ n. Text (n ∷ bs)) at ∙ ap (λ l. Text (98 ∷ l)) s.spelt ∙ ap (λ k. number_token k (signed d.negative d.digits)) (same_Some Binary radix f)
    with_radix false true z p q r f = let at : b ≡ 111 = grind arith in ap (λ n. Text (n ∷ bs)) at ∙ ap (λ l. Text (111 ∷ l)) s.spelt ∙ ap (λ k. number_token k (signed d.negative d.digits)) (same_Some Octal radix f)
    with_radix false false true p q r f = let at : b ≡ 104 = grind arith in ap (λ n. Text (n ∷ bs)) at ∙ ap (λ l. Text (104 ∷ l)) s.spelt ∙ ap (λ k. number_token k (signed d.negative d.digits)) (same_Some Hexadecimal radix f)
    with_radix false false false p q r f = absurd (cc)

-- the letter behind a `0` is the radix' own
zero_radix-is : (b : ℕ) (radix : Radix) → zero_radix b ≡ Some radix → b ≡ letter_of radix
zero_radix-is b radix e = by (b == 100) (b == 98) (b == 111) (b == 104) refl refl refl refl e
  where
    by : (w x y z : Bool) → (b == 100) ≡ w → (b == 98) ≡ x → (b == 111) ≡ y → (b == 104) ≡ z
        → (if w then Some Decimal else (if x then Some Binary else (if y then Some Octal else (if z then Some Hexadecimal else None)))) ≡ Some radix → b ≡ letter_of radix
    by true x y z o p q r f = eqb-true b 100 o ∙ ap letter_of (same_Some Decimal radix f)
    by false true y z o p q r f = eqb-true b 98 p ∙ ap letter_of (same_Some Binary radix f)
    by false false true z o p q r f = eqb-true b 111 q ∙ ap letter_of (same_Some Octal radix f)
    by false false false true o p q r f = eqb-true b 104 r ∙ ap letter_of (same_Some Hexadecimal radix f)
    by false false false false o p q r f = absurd (cc)

-- bytes are `0`, the letter of their radix and the digits behind it, or decimal and digits as a whole
abbrev IsSplit : List ℕ → Radix × List ℕ → Type 0
IsSplit bs parts = (bs ≡ 48 ∷ letter_of parts.0 ∷ parts.1) ⊎ ((parts.0 ≡ Decimal) × (parts.1 ≡ bs))

split_radix-is : (bs : List ℕ) → IsSplit bs (split_radix bs)
split_radix-is [] = inr (refl, refl)
split_radix-is (b ∷ []) = inr (refl, refl)
split_radix-is (b ∷ letter ∷ bs) = by (b == 48) refl
  where
    behind : (o : Option Radix) → b ≡ 48 → zero_radix letter ≡ o → IsSplit (b ∷ letter ∷ bs) (radix_or_decimal o (b ∷ letter ∷ bs) bs)
    behind None first e = inr (refl, refl)
    behind (Some radix) first e = inl (ap (λ x. x ∷ letter ∷ bs) first ∙ ap (λ x. 48 ∷ x ∷ bs) (zero_radix-is letter radix e))

    by : (t : Bool) → (b == 48) ≡ t → IsSplit (b ∷ letter ∷ bs) (if t then radix_or_decimal (zero_radix letter) (b ∷ letter ∷ bs) bs else (Decimal, b ∷ letter ∷ bs))
    by true e = behind (zero_radix letter) (eqb-true b 48 e) refl
    by false e = inr (refl, refl)

-- behind a `-`: the digits of a negative number
below_zero : (bs : List ℕ) (parts : Radix × List ℕ) (d : Digits) → IsSplit bs parts → checked_digits parts.0 true parts.1 ≡ Some d → SpellsDigits d (Number (45 ∷ bs))
below_zero bs (radix, digits) d split h =
    let c = checked_by radix true digits d (are_digits radix digits) refl h in
    let token = Number (45 ∷ bs) in
    let here : SpellsNumber radix true d.digits token =
    record {
      digits_are = c.3;
      spelt = ⊎_elim
          (λ with. inr (45 ∷ bs, inl (ap (λ l. 45 ∷ l) with ∙ ap (λ l. 45 ∷ 48 ∷ letter_of radix ∷ l) (sym c.2)), refl))
          (λ plain. inl (ap (λ l. Number (45 ∷ l)) (sym plain.1 ∙ sym c.2) ∙ ap (λ r. number_token r (45 ∷ d.digits)) (sym plain.0)))
          split;
    } in
    subst (λ r. SpellsNumber r d.negative d.digits token) (sym c.0) (subst (λ n. SpellsNumber radix n d.digits token) (sym c.1) here)

-- without a `-` in front: the digits may have one
not_below : (bs : List ℕ) (parts : Radix × List ℕ) (d : Digits) → IsSplit bs parts → signed_digits parts.0 parts.1 ≡ Some d → SpellsDigits d (Number bs)
not_below bs (radix, digits) d split h =
    let s = signed-spells radix digits d h in
    let here : SpellsNumber radix d.negative d.digits (Number bs) =
    record {
      digits_are = s.digits;
      spelt = ⊎_elim
          (λ with. inr (bs, signs d.negative d.digits (with ∙ ap (λ l. 48 ∷ letter_of radix ∷ l) s.spelt), refl))
          (λ plain. inl (ap Number (sym plain.1 ∙ s.spelt) ∙ ap (λ r. number_token r (signed d.negative d.digits)) (sym plain.0)))
          split;
    } in
    subst (λ r. SpellsNumber r d.negative d.digits (Number bs)) (sym s.same) here
  where
    signs : (negative : Bool) (ds : List ℕ) → bs ≡ 48 ∷ letter_of radix ∷ signed negative ds → SpellsWithRadix radix negative ds bs
    signs true ds e = inr e
    signs false ds e = e

number-spells : (bs : List ℕ) (d : Digits) → number_digits bs ≡ Some d → SpellsDigits d (Number bs)
number-spells [] d h = absurd (cc)
number-spells (b ∷ bs) d h = by (b == 45) refl h
  where
    by : (t : Bool) → (b == 45) ≡ t → (if t then checked_digits (split_radix bs).0 true (split_radix bs).1 else signed_digits (split_radix (b ∷ bs)).0 (split_radix (b ∷ bs)).1) ≡ Some d → SpellsDigits d (Number (b ∷ bs))
    by true e f = subst (λ x. SpellsDigits d (Number (x ∷ bs))) (sym (eqb-true b 45 e)) (below_zero bs (split_radix bs) d (split_radix-is bs) f)
    by false e f = not_below (b ∷ bs) (split_radix (b ∷ bs)) d (split_radix-is (b ∷ bs)) f

digits-spells : (ts rest : List Tok) (d : Digits) → digits_at ts ≡ Some (d, rest) → (t : Tok) × SpellsDigits d t × (ts ≡ t ∷ rest)
digits-spells [] rest d h = absurd (cc)
digits-spells (Word w ∷ ts) rest d h = absurd (cc)
digits-spells (Symbol m ∷ ts) rest d h = absurd (cc)
digits-spells (Number w ∷ ts) rest d h =
    let n = bound (number_digits w) (λ d. Some (d, ts)) (d, rest) h in
    let same = same_Some (n.0, ts) (d, rest) n.2 in
    (Number w, subst (λ (p : Digits × List Tok). SpellsDigits p.0 (Number w)) same (number-spells w n.0 n.1), ap (λ (p : Digits × List Tok). Number w ∷ p.1) same)
digits-spells (Text [] ∷ ts) rest d h = absurd (cc)
digits-spells (Text (b ∷ bs) ∷ ts) rest d h =
    let n = bound (text_digits (b ∷ bs)) (λ d. Some (d, ts)) (d, rest) h in
    let r = bound (radix_of b) (λ radix. signed_digits radix bs) n.0 n.1 in
    let same = same_Some (n.0, ts) (d, rest) n.2 in
    (Text (b ∷ bs), subst (λ (p : Digits × List Tok). SpellsDigits p.0 (Text (b ∷ bs))) same (radix_byte b bs r.0 n.0 r.1 (signed-spells r.0 bs n.0 r.2)), ap (λ (p : Digits × List Tok). Text (b ∷ bs) ∷ p.1) same)

literal-spells : (ts rest : List Tok) (l : Literal) → literal_at ts ≡ Some (l, rest) → SpellsLiteral l ts rest
literal-spells ts rest l h =
    let k = bound (kind_at ts) (λ k. width_at k.1 >>= λ w. symbol_at OpenParen w.1 >>= λ t. digits_at t >>= λ d. symbol_at CloseParen d.1 >>= λ u. Some (literal_of k.0 w.0 d.0, u)) (l, rest) h in
    let w = bound (width_at k.0.1) (λ w. symbol_at OpenParen w.1 >>= λ t. digits_at t >>= λ d. symbol_at CloseParen d.1 >>= λ u. Some (literal_of k.0.0 w.0 d.0, u)) (l, rest) k.2 in
    let o = bound (symbol_at OpenParen w.0.1) (λ t. digits_at t >>= λ d. symbol_at CloseParen d.1 >>= λ u. Some (literal_of k.0.0 w.0.0 d.0, u)) (l, rest) w.2 in
    let d = bound (digits_at o.0) (λ d. symbol_at CloseParen d.1 >>= λ u. Some (literal_of k.0.0 w.0.0 d.0, u)) (l, rest) o.2 in
    let c = bound (symbol_at CloseParen d.0.1) (λ u. Some (literal_of k.0.0 w.0.0 d.0.0, u)) (l, rest) d.2 in
    let width = width-spells k.0.1 w.0.1 w.0.0 w.1 in
    let number = digits-spells o.0 d.0.1 d.0.0 d.1 in
    let inner : o.0 ≡ number.0 ∷ (Symbol CloseParen ∷ c.0) = number.2 ∙ ap (λ l. number.0 ∷ l) (symbol_at-spells CloseParen d.0.1 c.0 c.1) in
    subst (λ (p : Literal × List Tok). SpellsLiteral p.0 ts p.1) (same_Some (literal_of k.0.0 w.0.0 d.0.0, c.0) (l, rest) c.2) (
      width.digits,
      number.0,
      width.natural,
      number.1,
      kind-spells ts k.0.1 k.0.0 k.1 ∙ ap (λ x. Word (kind_text k.0.0) ∷ x) (width.spelt ∙ ap (λ x. Symbol Less ∷ (Number width.digits ∷ (Symbol Greater ∷ x))) (symbol_at-spells OpenParen w.0.1 o.0 o.1 ∙ ap (λ x. Symbol OpenParen ∷ x) inner)),
    )

-- ---- operations

pub record SpellsParameter (n : ℕ) (ts rest : List Tok) : Type 0 where
  pub digits : List ℕ
  pub natural : IsNatural digits n
  pub spelt : ts ≡ Symbol Comma ∷ (Number digits ∷ (Symbol CloseParen ∷ rest))

pub one_parameter-spells : (ts rest : List Tok) (n : ℕ) → one_parameter_at ts ≡ Some (n, rest) → SpellsParameter n ts rest
one_parameter-spells ts rest n h =
    let comma = bound (symbol_at Comma ts) (λ t. natural_at t >>= λ n. symbol_at CloseParen n.1 >>= λ u. Some (n.0, u)) (n, rest) h in
    let number = bound (natural_at comma.0) (λ n. symbol_at CloseParen n.1 >>= λ u. Some (n.0, u)) (n, rest) comma.2 in
    let close = bound (symbol_at CloseParen number.0.1) (λ u. Some (number.0.0, u)) (n, rest) number.2 in
    let digits = natural_at-spells comma.0 number.0.0 number.0.1 number.1 in
    let same = same_Some (number.0.0, close.0) (n, rest) close.2 in
    record {
      digits = digits.0;
      natural = subst (λ (p : ℕ × List Tok). IsNatural digits.0 p.0) same digits.1;
      spelt = symbol_at-spells Comma ts comma.0 comma.1 ∙ ap (λ l. Symbol Comma ∷ l) (digits.2 ∙ ap (λ l. Number digits.0 ∷ l) (symbol_at-spells CloseParen number.0.1 close.0 close.1))
          ∙ ap (λ (p : ℕ × List Tok). Symbol Comma ∷ (Number digits.0 ∷ (Symbol CloseParen ∷ p.1))) same;
    }

two_parameters-spells : (ts rest : List Tok) (n m : ℕ) → two_parameters_at ts ≡ Some ((n, m), rest) → SpellsParameters Bits n m ts rest
two_parameters-spells ts rest n m h =
    let comma = bound (symbol_at Comma ts) (λ t. natural_at t >>= λ n. symbol_at Comma n.1 >>= λ u. natural_at u >>= λ m. symbol_at CloseParen m.1 >>= λ v. Some ((n.0, m.0), v)) ((n, m), rest) h in
    let high = bound (natural_at comma.0) (λ n. symbol_at Comma n.1 >>= λ u. natural_at u >>= λ m. symbol_at CloseParen m.1 >>= λ v. Some ((n.0, m.0), v)) ((n, m), rest) comma.2 in
    let again = bound (symbol_at Comma high.0.1) (λ u. natural_at u >>= λ m. symbol_at CloseParen m.1 >>= λ v. Some ((high.0.0, m.0), v)) ((n, m), rest) high.2 in
    let low = bound (natural_at again.0) (λ m. symbol_at CloseParen m.1 >>= λ v. Some ((high.0.0, m.0), v)) ((n, m), rest) again.2 in
    let close = bound (symbol_at CloseParen low.0.1) (λ v. Some ((high.0.0, low.0.0), v)) ((n, m), rest) low.2 in
    let x = natural_at-spells comma.0 high.0.0 high.0.1 high.1 in
    let y = natural_at-spells again.0 low.0.0 low.0.1 low.1 in
    let inner : again.0 ≡ Number y.0 ∷ (Symbol CloseParen ∷ close.0) = y.2 ∙ ap (λ l. Number y.0 ∷ l) (symbol_at-spells CloseParen low.0.1 close.0 close.1) in
    subst (λ (p : (ℕ × ℕ) × List Tok). SpellsParameters Bits p.0.0 p.0.1 ts p.1) (same_Some ((high.0.0, low.0.0), close.0) ((n, m), rest) close.2)
    (x.0, y.0, x.1, y.1, symbol_at-spells Comma ts comma.0 comma.1 ∙ ap (λ l. Symbol Comma ∷ l) (x.2 ∙ ap (λ l. Number x.0 ∷ l) (symbol_at-spells Comma high.0.1 again.0 again.1 ∙ ap (λ l. Symbol Comma ∷ l) inner)))

-- one parameter, and no second: 0 in its place
record OneParameter (ts rest : List Tok) (n m : ℕ) : Type 0 where
  spelt : SpellsParameter n ts rest
  none : m ≡ 0

abbrev alone : (ℕ × List Tok) → Option ((ℕ × ℕ) × List Tok)
alone n = Some ((n.0, 0), n.1)

one_only : (ts rest : List Tok) (n m : ℕ) → (one_parameter_at ts >>= alone) ≡ Some ((n, m), rest) → OneParameter ts rest n m
one_only ts rest n m h =
    let p = bound (one_parameter_at ts) alone ((n, m), rest) h in
    let same = same_Some ((p.0.0, 0), p.0.1) ((n, m), rest) p.2 in
    record {
      spelt = subst (λ (q : (ℕ × ℕ) × List Tok). SpellsParameter q.0.0 ts q.1) same (one_parameter-spells ts p.0.1 p.0.0 p.1);
      none = sym (ap (λ (q : (ℕ × ℕ) × List Tok). q.0.1) same);
    }

parameters-spells : (o : OpN) (ts rest : List Tok) (n m : ℕ) → parameters_at o ts ≡ Some ((n, m), rest) → SpellsParameters o n m ts rest
parameters-spells Bits ts rest n m h = two_parameters-spells ts rest n m h
parameters-spells Pad ts rest n m h = let p = one_only ts rest n m h in (p.spelt.digits, p.spelt.natural, p.none, p.spelt.spelt)
parameters-spells Shl ts rest n m h = let p = one_only ts rest n m h in (p.spelt.digits, p.spelt.natural, p.none, p.spelt.spelt)
parameters-spells Shr ts rest n m h = let p = one_only ts rest n m h in (p.spelt.digits, p.spelt.natural, p.none, p.spelt.spelt)
parameters-spells Head ts rest n m h = let p = one_only ts rest n m h in (p.spelt.digits, p.spelt.natural, p.none, p.spelt.spelt)
parameters-spells Tail ts rest n m h = let p = one_only ts rest n m h in (p.spelt.digits, p.spelt.natural, p.none, p.spelt.spelt)

abbrev literal_term : (Literal × List Tok) → Option (Term × List Tok)
literal_term l = Some (ConstantTerm l.0, l.1)

abbrev reference_term : (Reference × List Tok) → Option (Term × List Tok)
reference_term r = Some (NamedTerm r.0, r.1)

-- what `sub` reads is spelt so
abbrev IsSound : (List Tok → Option (Term × List Tok)) → Type 0
IsSound sub = (ts rest : List Tok) (e : Term) → sub ts ≡ Some (e, rest) → SpellsExpr e ts rest

module _ (sub : List Tok → Option (Term × List Tok)) (sound : IsSound sub) where
  -- an operand and the bracket or comma after it
  operand-close : (t : List Tok) (a : Term × List Tok) (u : List Tok) → sub t ≡ Some a → symbol_at CloseParen a.1 ≡ Some u → SpellsExpr a.0 t (Symbol CloseParen ∷ u)
  operand-close t a u e f = subst (λ l. SpellsExpr a.0 t l) (symbol_at-spells CloseParen a.1 u f) (sound t a.1 a.0 e)

  operand-comma : (t : List Tok) (a : Term × List Tok) (u : List Tok) → sub t ≡ Some a → symbol_at Comma a.1 ≡ Some u → SpellsExpr a.0 t (Symbol Comma ∷ u)
  operand-comma t a u e f = subst (λ l. SpellsExpr a.0 t l) (symbol_at-spells Comma a.1 u f) (sound t a.1 a.0 e)

  unary-spells : (o : Op1) (t rest : List Tok) (e : Term) → unary_at sub o t ≡ Some (e, rest) → SpellsExpr e (Word (text1 o) ∷ (Symbol OpenParen ∷ t)) rest
  unary-spells o t rest e h =
      let a = bound (sub t) (λ a. symbol_at CloseParen a.1 >>= λ t. Some (UnaryTerm o a.0, t)) (e, rest) h in
      let u = bound (symbol_at CloseParen a.0.1) (λ t. Some (UnaryTerm o a.0.0, t)) (e, rest) a.2 in
      subst (λ (p : Term × List Tok). SpellsExpr p.0 (Word (text1 o) ∷ (Symbol OpenParen ∷ t)) p.1) (same_Some (UnaryTerm o a.0.0, u.0) (e, rest) u.2)
      (t, refl, operand-close t a.0 u.0 a.1 u.1)

  binary-spells : (o : Op2) (t rest : List Tok) (e : Term) → binary_at sub o t ≡ Some (e, rest) → SpellsExpr e (Word (text2 o) ∷ (Symbol OpenParen ∷ t)) rest
  binary-spells o t rest e h =
      let a = bound (sub t) (λ a. symbol_at Comma a.1 >>= λ t. sub t >>= λ b. symbol_at CloseParen b.1 >>= λ u. Some (BinaryTerm o a.0 b.0, u)) (e, rest) h in
      let u = bound (symbol_at Comma a.0.1) (λ t. sub t >>= λ b. symbol_at CloseParen b.1 >>= λ u. Some (BinaryTerm o a.0.0 b.0, u)) (e, rest) a.2 in
      let b = bound (sub u.0) (λ b. symbol_at CloseParen b.1 >>= λ u. Some (BinaryTerm o a.0.0 b.0, u)) (e, rest) u.2 in
      let v = bound (symbol_at CloseParen b.0.1) (λ u. Some (BinaryTerm o a.0.0 b.0.0, u)) (e, rest) b.2 in
      subst (λ (p : Term × List Tok). SpellsExpr p.0 (Word (text2 o) ∷ (Symbol OpenParen ∷ t)) p.1) (same_Some (BinaryTerm o a.0.0 b.0.0, v.0) (e, rest) v.2)
      (t, u.0, refl, operand-comma t a.0 u.0 a.1 u.1, operand-close u.0 b.0 v.0 b.1 v.1)

  fixed-spells : (o : OpN) (t rest : List Tok) (e : Term) → fixed_at sub o t ≡ Some (e, rest) → SpellsExpr e (Word (text_const o) ∷ (Symbol OpenParen ∷ t)) rest
  fixed-spells o t rest e h =
      let a = bound (sub t) (λ a. parameters_at o a.1 >>= λ p. Some (FixedTerm o a.0 p.0.0 p.0.1, p.1)) (e, rest) h in
      let p = bound (parameters_at o a.0.1) (λ p. Some (FixedTerm o a.0.0 p.0.0 p.0.1, p.1)) (e, rest) a.2 in
      subst (λ (p : Term × List Tok). SpellsExpr p.0 (Word (text_const o) ∷ (Symbol OpenParen ∷ t)) p.1) (same_Some (FixedTerm o a.0.0 p.0.0.0 p.0.0.1, p.0.1) (e, rest) p.2)
      (t, a.0.1, refl, sound t a.0.1 a.0.0 a.1, parameters-spells o a.0.1 p.0.1 p.0.0.0 p.0.0.1 p.1)

  mux-spells : (t rest : List Tok) (e : Term) → mux_at sub t ≡ Some (e, rest) → SpellsExpr e (Word (codes "mux") ∷ (Symbol OpenParen ∷ t)) rest
  mux-spells t rest e h =
      let c = bound (sub t) (λ c. symbol_at Comma c.1 >>= λ t. sub t >>= λ a. symbol_at Comma a.1 >>= λ u. sub u >>= λ b. symbol_at CloseParen b.1 >>= λ v. Some (MuxTerm c.0 a.0 b.0, v)) (e, rest) h in
      let u = bound (symbol_at Comma c.0.1) (λ t. sub t >>= λ a. symbol_at Comma a.1 >>= λ u. sub u >>= λ b. symbol_at CloseParen b.1 >>= λ v. Some (MuxTerm c.0.0 a.0 b.0, v)) (e, rest) c.2 in
      let a = bound (sub u.0) (λ a. symbol_at Comma a.1 >>= λ u. sub u >>= λ b. symbol_at CloseParen b.1 >>= λ v. Some (MuxTerm c.0.0 a.0 b.0, v)) (e, rest) u.2 in
      let v = bound (symbol_at Comma a.0.1) (λ u. sub u >>= λ b. symbol_at CloseParen b.1 >>= λ v. Some (MuxTerm c.0.0 a.0.0 b.0, v)) (e, rest) a.2 in
      let b = bound (sub v.0) (λ b. symbol_at CloseParen b.1 >>= λ v. Some (MuxTerm c.0.0 a.0.0 b.0, v)) (e, rest) v.2 in
      let w = bound (symbol_at CloseParen b.0.1) (λ v. Some (MuxTerm c.0.0 a.0.0 b.0.0, v)) (e, rest) b.2 in
      subst (λ (p : Term × List Tok). SpellsExpr p.0 (Word (codes "mux") ∷ (Symbol OpenParen ∷ t)) p.1) (same_Some (MuxTerm c.0.0 a.0.0 b.0.0, w.0) (e, rest) w.2)
      (t, u.0, v.0, refl, operand-comma t c.0 u.0 c.1 u.1, operand-comma u.0 a.0 v.0 a.1 v.1, operand-close v.0 b.0 w.0 b.1 w.1)

  operands-spells : (o : Operation) (t rest : List Tok) (e : Term) → operands_at sub o t ≡ Some (e, rest) → SpellsExpr e (Word (operation_text o) ∷ (Symbol OpenParen ∷ t)) rest
  operands-spells (Unary o) t rest e h = unary-spells o t rest e h
  operands-spells (Binary2 o) t rest e h = binary-spells o t rest e h
  operands-spells (Fixed o) t rest e h = fixed-spells o t rest e h
  operands-spells Mux t rest e h = mux-spells t rest e h

  call-spells : (ts rest : List Tok) (e : Term) → call_at sub ts ≡ Some (e, rest) → SpellsExpr e ts rest
  call-spells [] rest e h = absurd (cc)
  call-spells (Number w ∷ ts) rest e h = absurd (cc)
  call-spells (Text w ∷ ts) rest e h = absurd (cc)
  call-spells (Symbol m ∷ ts) rest e h = absurd (cc)
  call-spells (Word w ∷ ts) rest e h =
      let o = bound (operation_at (Word w ∷ ts)) (λ o. symbol_at OpenParen o.1 >>= λ t. operands_at sub o.0 t) (e, rest) h in
      let named = bound (operation_of w) (λ k. Some (k, ts)) o.0 o.1 in
      let open_ = bound (symbol_at OpenParen o.0.1) (λ t. operands_at sub o.0.0 t) (e, rest) o.2 in
      let same = same_Some (named.0, ts) o.0 named.2 in
      let word : w ≡ operation_text o.0.0 = operation_of-spells w named.0 named.1 ∙ ap (λ (p : Operation × List Tok). operation_text p.0) same in
      let tail : ts ≡ Symbol OpenParen ∷ open_.0 = ap (λ (p : Operation × List Tok). p.1) same ∙ symbol_at-spells OpenParen o.0.1 open_.0 open_.1 in
      let tokens : Word (operation_text o.0.0) ∷ (Symbol OpenParen ∷ open_.0) ≡ Word w ∷ ts = sym (ap (λ x. Word x ∷ ts) word ∙ ap (λ l. Word (operation_text o.0.0) ∷ l) tail) in
      subst (λ l. SpellsExpr e l rest) tokens (operands-spells o.0.0 open_.0 rest e open_.2)

  form_by : (ts rest : List Tok) (e : Term) (x y : Bool) → (if x then call_at sub ts else (if y then (literal_at ts >>= literal_term) else (reference_at ts >>= reference_term))) ≡ Some (e, rest) → SpellsExpr e ts rest
  form_by ts rest e true y h = call-spells ts rest e h
  form_by ts rest e false true h =
      let l = bound (literal_at ts) literal_term (e, rest) h in
      subst (λ (p : Term × List Tok). SpellsExpr p.0 ts p.1) (same_Some (ConstantTerm l.0.0, l.0.1) (e, rest) l.2) (literal-spells ts l.0.1 l.0.0 l.1)
  form_by ts rest e false false h =
      let r = bound (reference_at ts) reference_term (e, rest) h in
      subst (λ (p : Term × List Tok). SpellsExpr p.0 ts p.1) (same_Some (NamedTerm r.0.0, r.0.1) (e, rest) r.2) (reference-spells ts r.0.1 r.0.0 r.1)

-- an expression that is read is spelt so
pub expr-spells : (n : ℕ) → IsSound (expr_at n)
expr-spells zero ts rest e h = absurd (cc)
expr-spells (suc n) ts rest e h = form_by (expr_at n) (expr-spells n) ts rest e (is_second OpenParen ts) (is_second Less ts) h
