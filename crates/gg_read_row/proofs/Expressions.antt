-- An expression that is spelt is read.
use Rattle.std.proofs.Common.{◌≡◌, ℕ, zero, suc, ◌<◌, ◌≤◌, List, [], ◌∷◌, length, Bool, true, false, Option, None, Some, IsTrue, inl, inr, ⊎_elim, refl, sym, ap, ◌∙◌, subst, arith}
use Rattle.std.specs.Prelude.{if◌then◌else◌, codes, is_some, ◌==◌}
use Rattle.std.specs.List.{list_all}
use Rattle.std.proofs.lemmas.Bool.{and_parts}
use Rattle.gg_bits.specs.declared.types.Kind.{Kind}
use Rattle.gg_bits.specs.declared.types.Kind.TheVariants as kind
use Rattle.gg_bits.specs.declared.ops.Op1.{Op1}
use Rattle.gg_bits.specs.declared.ops.Op2.{Op2}
use Rattle.gg_bits.specs.declared.ops.OpN.{OpN}
use Rattle.gg_bits.specs.declared.ops.OpN.TheVariants.{Pad, Shl, Shr, Bits, Head, Tail}
use Rattle.gg_lex.specs.declared.token.Tok.{Tok}
use Rattle.gg_lex.specs.declared.token.Tok.TheVariants.{Word, Number, Symbol}
use Rattle.gg_lex.specs.declared.token.Symbol.{Symbol as Mark}
use Rattle.gg_lex.specs.declared.token.Symbol.TheVariants.{Comma, Dot, OpenParen, CloseParen, Less, Greater}
use Rattle.gg_ast.specs.declared.expression.Literal.{Literal}
use Rattle.gg_ast.specs.declared.expression.Radix.{Radix}
use Rattle.gg_ast.specs.declared.expression.Radix.TheVariants.{Binary, Octal, Decimal, Hexadecimal}
use Rattle.gg_ast.specs.declared.expression.Reference.{Reference}
use Rattle.gg_ast.specs.declared.expression.Reference.TheVariants as reference
use Rattle.gg_ast.specs.declared.module.GroundType.{GroundType}
use Rattle.gg_ast.specs.declared.module.GroundType.TheVariants as plain_type
use Rattle.gg_ast.specs.Term.{Term, NamedTerm, ConstantTerm, UnaryTerm, BinaryTerm, FixedTerm, MuxTerm}
use Rattle.gg_ast.specs.declared.words.Operation.{Operation}
use Rattle.gg_ast.specs.declared.words.Operation.TheVariants.{Unary, Binary as Binary2, Fixed, Mux}
use Rattle.gg_bits.specs.Spelling.{text1, text2, text_const}
use Rattle.gg_ast.specs.Words.{kind_text}
use Rattle.gg_ast.specs.inside.Words.{operation_of}
use Rattle.gg_read_row.specs.Forms.{IsNatural, SpellsReference, SpellsType, SpellsLiteral, SpellsNumber, SpellsWithRadix, SpellsParameters, SpellsExpr, are_digits, signed, number_token, letter_of, is_digit_of}
use Rattle.gg_read_row.specs.inside.Reading.{◌>>=◌, symbol_at, name_at, natural_at, third_at, second_at, reference_at, width_at, kind_at, type_at, checked_digits, signed_digits, zero_radix, radix_or_decimal, split_radix, number_digits, digits_at, literal_of, literal_at, one_parameter_at, parameters_at, is_second, unary_at, binary_at, fixed_at, mux_at, operands_at, call_at, form_at, expr_at}
use Rattle.gg_read_row.proofs.Leaves.{goes_on, not_chosen, name_at-here, natural_at-here, is_true}
use Rattle.gg_read_row.proofs.WordLaws.{operation_of-here}

-- what may follow an expression: no token that would continue it
pub record Ends (rest : List Tok) : Type 0 where
  pub no_dot : symbol_at Dot rest ≡ None
  pub no_open : symbol_at OpenParen rest ≡ None
  pub no_less : symbol_at Less rest ≡ None

-- ---- what is spelt is read

pub reference-read : (r : Reference) (ts rest : List Tok) → symbol_at Dot rest ≡ None → SpellsReference r ts rest → reference_at ts ≡ Some (r, rest)
reference-read (reference.Local a) ts rest ends h =
    rw h.1 (goes_on (name_at (Word a ∷ rest)) (λ n. second_at n.0 n.1) (a, rest) (name_at-here a rest h.0)
    ∙ not_chosen (symbol_at Dot rest) (λ t. name_at t >>= λ b. third_at a b.0 b.1) (Some (reference.Local a, rest)) ends)
reference-read (reference.PortOf a b) ts rest ends h =
    rw h.2 (goes_on (name_at (Word a ∷ (Symbol Dot ∷ (Word b ∷ rest)))) (λ n. second_at n.0 n.1) (a, Symbol Dot ∷ (Word b ∷ rest)) (name_at-here a _ h.0)
    ∙ goes_on (name_at (Word b ∷ rest)) (λ n. third_at a n.0 n.1) (b, rest) (name_at-here b rest h.1)
    ∙ not_chosen (symbol_at Dot rest) (λ t. name_at t >>= λ c. Some (reference.FieldOf a b c.0, c.1)) (Some (reference.PortOf a b, rest)) ends)
reference-read (reference.FieldOf a b c) ts rest ends h =
    rw h.3 (goes_on (name_at (Word a ∷ (Symbol Dot ∷ (Word b ∷ (Symbol Dot ∷ (Word c ∷ rest)))))) (λ n. second_at n.0 n.1) (a, Symbol Dot ∷ (Word b ∷ (Symbol Dot ∷ (Word c ∷ rest)))) (name_at-here a _ h.0)
    ∙ goes_on (name_at (Word b ∷ (Symbol Dot ∷ (Word c ∷ rest)))) (λ n. third_at a n.0 n.1) (b, Symbol Dot ∷ (Word c ∷ rest)) (name_at-here b _ h.1)
    ∙ goes_on (name_at (Word c ∷ rest)) (λ n. Some (reference.FieldOf a b n.0, n.1)) (c, rest) (name_at-here c rest h.2))

width-read : (digits : List ℕ) (n : ℕ) (rest : List Tok) → IsNatural digits n → width_at (Symbol Less ∷ (Number digits ∷ (Symbol Greater ∷ rest))) ≡ Some (n, rest)
width-read digits n rest h =
    goes_on (natural_at (Number digits ∷ (Symbol Greater ∷ rest))) (λ m. symbol_at Greater m.1 >>= λ u. Some (m.0, u)) (n, Symbol Greater ∷ rest) (natural_at-here digits n _ h)

pub type-read : (ty : GroundType) (ts rest : List Tok) → SpellsType ty ts rest → type_at ts ≡ Some (ty, rest)
type-read plain_type.Clock ts rest h = rw h refl
type-read (plain_type.UInt width) ts rest h =
    rw h.2 (goes_on (width_at (Symbol Less ∷ (Number h.0 ∷ (Symbol Greater ∷ rest)))) (λ w. Some (plain_type.UInt w.0, w.1)) (width, rest) (width-read h.0 width rest h.1))
type-read (plain_type.SInt width) ts rest h =
    rw h.2 (goes_on (width_at (Symbol Less ∷ (Number h.0 ∷ (Symbol Greater ∷ rest)))) (λ w. Some (plain_type.SInt w.0, w.1)) (width, rest) (width-read h.0 width rest h.1))

pub one_parameter-read : (digits : List ℕ) (n : ℕ) (rest : List Tok) → IsNatural digits n → one_parameter_at (Symbol Comma ∷ (Number digits ∷ (Symbol CloseParen ∷ rest))) ≡ Some (n, rest)
one_parameter-read digits n rest h =
    goes_on (natural_at (Number digits ∷ (Symbol CloseParen ∷ rest))) (λ m. symbol_at CloseParen m.1 >>= λ u. Some (m.0, u)) (n, Symbol CloseParen ∷ rest) (natural_at-here digits n _ h)

parameters-read : (o : OpN) (n m : ℕ) (ts rest : List Tok) → SpellsParameters o n m ts rest → parameters_at o ts ≡ Some ((n, m), rest)
parameters-read Bits n m ts rest h =
    rw h.4 (goes_on (natural_at (Number h.0 ∷ (Symbol Comma ∷ (Number h.1 ∷ (Symbol CloseParen ∷ rest))))) (λ a. symbol_at Comma a.1 >>= λ u. natural_at u >>= λ b. symbol_at CloseParen b.1 >>= λ v. Some ((a.0, b.0), v)) (n, Symbol Comma ∷ (Number h.1 ∷ (Symbol CloseParen ∷ rest))) (natural_at-here h.0 n _ h.2)
    ∙ goes_on (natural_at (Number h.1 ∷ (Symbol CloseParen ∷ rest))) (λ b. symbol_at CloseParen b.1 >>= λ v. Some ((n, b.0), v)) (m, Symbol CloseParen ∷ rest) (natural_at-here h.1 m _ h.3))
parameters-read Pad n m ts rest h = rw (h.3, h.2) (goes_on (one_parameter_at (Symbol Comma ∷ (Number h.0 ∷ (Symbol CloseParen ∷ rest)))) (λ a. Some ((a.0, 0), a.1)) (n, rest) (one_parameter-read h.0 n rest h.1))
parameters-read Shl n m ts rest h = rw (h.3, h.2) (goes_on (one_parameter_at (Symbol Comma ∷ (Number h.0 ∷ (Symbol CloseParen ∷ rest)))) (λ a. Some ((a.0, 0), a.1)) (n, rest) (one_parameter-read h.0 n rest h.1))
parameters-read Shr n m ts rest h = rw (h.3, h.2) (goes_on (one_parameter_at (Symbol Comma ∷ (Number h.0 ∷ (Symbol CloseParen ∷ rest)))) (λ a. Some ((a.0, 0), a.1)) (n, rest) (one_parameter-read h.0 n rest h.1))
parameters-read Head n m ts rest h = rw (h.3, h.2) (goes_on (one_parameter_at (Symbol Comma ∷ (Number h.0 ∷ (Symbol CloseParen ∷ rest)))) (λ a. Some ((a.0, 0), a.1)) (n, rest) (one_parameter-read h.0 n rest h.1))
parameters-read Tail n m ts rest h = rw (h.3, h.2) (goes_on (one_parameter_at (Symbol Comma ∷ (Number h.0 ∷ (Symbol CloseParen ∷ rest)))) (λ a. Some ((a.0, 0), a.1)) (n, rest) (one_parameter-read h.0 n rest h.1))

-- the digits of a literal pass the reader's check
checked-read : (radix : Radix) (negative : Bool) (digits : List ℕ) → IsTrue (are_digits radix digits) → checked_digits radix negative digits ≡ Some (record { radix = radix; negative = negative; digits = digits })
checked-read radix negative digits h = ap (λ b. if b then Some (record { radix = radix; negative = negative; digits = digits }) else None) (is_true (are_digits radix digits) h)

not_minus : (radix : Radix) (b : ℕ) → is_digit_of radix b ≡ true → (b == 45) ≡ false
not_minus Binary b h = grind arith
not_minus Octal b h = grind arith
not_minus Decimal b h = grind arith
not_minus Hexadecimal b h = grind arith

signed-read : (radix : Radix) (negative : Bool) (digits : List ℕ) → IsTrue (are_digits radix digits) → signed_digits radix (signed negative digits) ≡ Some (record { radix = radix; negative = negative; digits = digits })
signed-read radix true digits h = checked-read radix true digits h
signed-read radix false [] h = absurd (cc)
signed-read radix false (b ∷ bs) h =
    ap (λ t. if t then checked_digits radix true bs else checked_digits radix false (b ∷ bs)) (not_minus radix b (and_parts (is_digit_of radix b) (list_all (is_digit_of radix) bs) (is_true (are_digits radix (b ∷ bs)) h)).0)
    ∙ checked-read radix false (b ∷ bs) h

-- a decimal digit is the letter of no radix, so decimal digits are not split
digit_no_letter : (b : ℕ) → is_digit_of Decimal b ≡ true → zero_radix b ≡ None
digit_no_letter b digit = rw (no_d, no_b, no_o, no_h) refl
  where
    no_d : (b == 100) ≡ false
    no_d = grind arith

    no_b : (b == 98) ≡ false
    no_b = grind arith

    no_o : (b == 111) ≡ false
    no_o = grind arith

    no_h : (b == 104) ≡ false
    no_h = grind arith

decimal_split : (bs : List ℕ) → IsTrue (are_digits Decimal bs) → split_radix bs ≡ (Decimal, bs)
decimal_split [] h = refl
decimal_split (b ∷ []) h = refl
decimal_split (b ∷ c ∷ bs) h = by (b == 48)
  where
    second : is_digit_of Decimal c ≡ true
    second =
        let all = and_parts (is_digit_of Decimal b) (list_all (is_digit_of Decimal) (c ∷ bs)) (is_true (are_digits Decimal (b ∷ c ∷ bs)) h) in
        (and_parts (is_digit_of Decimal c) (list_all (is_digit_of Decimal) bs) all.1).0

    by : (t : Bool) → (if t then radix_or_decimal (zero_radix c) (b ∷ c ∷ bs) bs else (Decimal, b ∷ c ∷ bs)) ≡ (Decimal, b ∷ c ∷ bs)
    by true = ap (λ (o : Option Radix). radix_or_decimal o (b ∷ c ∷ bs) bs) (digit_no_letter c second)
    by false = refl

zero_radix-here : (radix : Radix) → zero_radix (letter_of radix) ≡ Some radix
zero_radix-here Binary = refl
zero_radix-here Octal = refl
zero_radix-here Decimal = refl
zero_radix-here Hexadecimal = refl

split_radix-here : (radix : Radix) (bs : List ℕ) → split_radix (48 ∷ letter_of radix ∷ bs) ≡ (radix, bs)
split_radix-here radix bs = ap (λ (o : Option Radix). radix_or_decimal o (48 ∷ letter_of radix ∷ bs) bs) (zero_radix-here radix)

-- the parts of a number, once they are known
below-read : (bs digits : List ℕ) (radix : Radix) → split_radix bs ≡ (radix, digits) → number_digits (45 ∷ bs) ≡ checked_digits radix true digits
below-read bs digits radix e = ap (λ (p : Radix × List ℕ). checked_digits p.0 true p.1) e

above-read : (b : ℕ) (bs digits : List ℕ) (radix : Radix) → (b == 45) ≡ false → split_radix (b ∷ bs) ≡ (radix, digits) → number_digits (b ∷ bs) ≡ signed_digits radix digits
above-read b bs digits radix plain e =
    ap (λ t. if t then checked_digits (split_radix bs).0 true (split_radix bs).1 else signed_digits (split_radix (b ∷ bs)).0 (split_radix (b ∷ bs)).1) plain
    ∙ ap (λ (p : Radix × List ℕ). signed_digits p.0 p.1) e

module _ (radix : Radix) (digits : List ℕ) (are : IsTrue (are_digits radix digits)) where
  with_radix-read : (negative : Bool) (bytes : List ℕ) → SpellsWithRadix radix negative digits bytes → number_digits bytes ≡ Some (record { radix = radix; negative = negative; digits = digits })
  with_radix-read false bytes e = rw e (above-read 48 (letter_of radix ∷ digits) digits radix refl (split_radix-here radix digits) ∙ signed-read radix false digits are)
  with_radix-read true bytes (inl e) = rw e (below-read (48 ∷ letter_of radix ∷ digits) digits radix (split_radix-here radix digits) ∙ checked-read radix true digits are)
  with_radix-read true bytes (inr e) = rw e (above-read 48 (letter_of radix ∷ 45 ∷ digits) (45 ∷ digits) radix refl (split_radix-here radix (45 ∷ digits)) ∙ signed-read radix true digits are)

decimal-read : (negative : Bool) (digits : List ℕ) → IsTrue (are_digits Decimal digits) → number_digits (signed negative digits) ≡ Some (record { radix = Decimal; negative = negative; digits = digits })
decimal-read true digits h = below-read digits digits Decimal (decimal_split digits h) ∙ checked-read Decimal true digits h
decimal-read false [] h = absurd (cc)
decimal-read false (b ∷ bs) h =
    above-read b bs (b ∷ bs) Decimal (not_minus Decimal b (and_parts (is_digit_of Decimal b) (list_all (is_digit_of Decimal) bs) (is_true (are_digits Decimal (b ∷ bs)) h)).0) (decimal_split (b ∷ bs) h)
    ∙ signed-read Decimal false (b ∷ bs) h

token-read : (radix : Radix) (negative : Bool) (digits : List ℕ) (rest : List Tok) → IsTrue (are_digits radix digits) → digits_at (number_token radix (signed negative digits) ∷ rest) ≡ Some (record { radix = radix; negative = negative; digits = digits }, rest)
token-read Binary negative digits rest h = ap (λ o. o >>= λ d. Some (d, rest)) (signed-read Binary negative digits h)
token-read Octal negative digits rest h = ap (λ o. o >>= λ d. Some (d, rest)) (signed-read Octal negative digits h)
token-read Decimal negative digits rest h = ap (λ o. o >>= λ d. Some (d, rest)) (decimal-read negative digits h)
token-read Hexadecimal negative digits rest h = ap (λ o. o >>= λ d. Some (d, rest)) (signed-read Hexadecimal negative digits h)

digits-read : (radix : Radix) (negative : Bool) (digits : List ℕ) (number : Tok) (rest : List Tok) → SpellsNumber radix negative digits number → digits_at (number ∷ rest) ≡ Some (record { radix = radix; negative = negative; digits = digits }, rest)
digits-read radix negative digits number rest h =
    ⊎_elim
    (λ token. ap (λ t. digits_at (t ∷ rest)) token ∙ token-read radix negative digits rest h.digits_are)
    (λ with. ap (λ t. digits_at (t ∷ rest)) with.2 ∙ ap (λ o. o >>= λ d. Some (d, rest)) (with_radix-read radix digits h.digits_are negative with.0 with.1))
    h.spelt

kind-read : (k : Kind) (rest : List Tok) → kind_at (Word (kind_text k) ∷ rest) ≡ Some (k, rest)
kind-read kind.UInt rest = refl
kind-read kind.SInt rest = refl

literal-read : (l : Literal) (ts rest : List Tok) → SpellsLiteral l ts rest → literal_at ts ≡ Some (l, rest)
literal-read l ts rest h =
    let number = h.1 in
    let behind_kind = Symbol Less ∷ (Number h.0 ∷ (Symbol Greater ∷ (Symbol OpenParen ∷ (number ∷ (Symbol CloseParen ∷ rest))))) in
    let behind_width = Symbol OpenParen ∷ (number ∷ (Symbol CloseParen ∷ rest)) in
    rw h.4 (goes_on (kind_at (Word (kind_text l.kind) ∷ behind_kind)) (λ k. width_at k.1 >>= λ w. symbol_at OpenParen w.1 >>= λ t. digits_at t >>= λ d. symbol_at CloseParen d.1 >>= λ u. Some (literal_of k.0 w.0 d.0, u)) (l.kind, behind_kind) (kind-read l.kind behind_kind)
    ∙ goes_on (width_at behind_kind) (λ w. symbol_at OpenParen w.1 >>= λ t. digits_at t >>= λ d. symbol_at CloseParen d.1 >>= λ u. Some (literal_of l.kind w.0 d.0, u)) (l.width, behind_width) (width-read h.0 l.width behind_width h.2)
    ∙ goes_on (digits_at (number ∷ (Symbol CloseParen ∷ rest))) (λ d. symbol_at CloseParen d.1 >>= λ u. Some (literal_of l.kind l.width d.0, u)) (record { radix = l.radix; negative = l.negative; digits = l.digits }, Symbol CloseParen ∷ rest) (digits-read l.radix l.negative l.digits number _ h.3))

-- ---- operations

call-read : (sub : List Tok → Option (Term × List Tok)) (word : List ℕ) (o : Operation) (t : List Tok) → operation_of word ≡ Some o → call_at sub (Word word ∷ (Symbol OpenParen ∷ t)) ≡ operands_at sub o t
call-read sub word o t e =
    let step : Operation → Option (Operation × List Tok) = λ k. Some (k, Symbol OpenParen ∷ t) in
    let next : (Operation × List Tok) → Option (Term × List Tok) = λ k. symbol_at OpenParen k.1 >>= λ u. operands_at sub k.0 u in
    ap (λ (f : Option Operation). (f >>= step) >>= next) e

module _ (sub : List Tok → Option (Term × List Tok)) where
  unary-read : (o : Op1) (a : Term) (t rest : List Tok) → sub t ≡ Some (a, Symbol CloseParen ∷ rest) → unary_at sub o t ≡ Some (UnaryTerm o a, rest)
  unary-read o a t rest e = goes_on (sub t) (λ x. symbol_at CloseParen x.1 >>= λ u. Some (UnaryTerm o x.0, u)) (a, Symbol CloseParen ∷ rest) e

  binary-read : (o : Op2) (a b : Term) (t u rest : List Tok) → sub t ≡ Some (a, Symbol Comma ∷ u) → sub u ≡ Some (b, Symbol CloseParen ∷ rest) → binary_at sub o t ≡ Some (BinaryTerm o a b, rest)
  binary-read o a b t u rest e f =
      goes_on (sub t) (λ x. symbol_at Comma x.1 >>= λ v. sub v >>= λ y. symbol_at CloseParen y.1 >>= λ w. Some (BinaryTerm o x.0 y.0, w)) (a, Symbol Comma ∷ u) e
      ∙ goes_on (sub u) (λ y. symbol_at CloseParen y.1 >>= λ w. Some (BinaryTerm o a y.0, w)) (b, Symbol CloseParen ∷ rest) f

  fixed-read : (o : OpN) (a : Term) (n m : ℕ) (t u rest : List Tok) → sub t ≡ Some (a, u) → SpellsParameters o n m u rest → fixed_at sub o t ≡ Some (FixedTerm o a n m, rest)
  fixed-read o a n m t u rest e h =
      goes_on (sub t) (λ x. parameters_at o x.1 >>= λ p. Some (FixedTerm o x.0 p.0.0 p.0.1, p.1)) (a, u) e
      ∙ goes_on (parameters_at o u) (λ p. Some (FixedTerm o a p.0.0 p.0.1, p.1)) ((n, m), rest) (parameters-read o n m u rest h)

  mux-read : (c a b : Term) (t u v rest : List Tok) → sub t ≡ Some (c, Symbol Comma ∷ u) → sub u ≡ Some (a, Symbol Comma ∷ v) → sub v ≡ Some (b, Symbol CloseParen ∷ rest) → mux_at sub t ≡ Some (MuxTerm c a b, rest)
  mux-read c a b t u v rest e f g =
      goes_on (sub t) (λ x. symbol_at Comma x.1 >>= λ p. sub p >>= λ y. symbol_at Comma y.1 >>= λ q. sub q >>= λ z. symbol_at CloseParen z.1 >>= λ w. Some (MuxTerm x.0 y.0 z.0, w)) (c, Symbol Comma ∷ u) e
      ∙ goes_on (sub u) (λ y. symbol_at Comma y.1 >>= λ q. sub q >>= λ z. symbol_at CloseParen z.1 >>= λ w. Some (MuxTerm c y.0 z.0, w)) (a, Symbol Comma ∷ v) f
      ∙ goes_on (sub v) (λ z. symbol_at CloseParen z.1 >>= λ w. Some (MuxTerm c a z.0, w)) (b, Symbol CloseParen ∷ rest) g

pub ends_close : (rest : List Tok) → Ends (Symbol CloseParen ∷ rest)
ends_close rest = record { no_dot = refl; no_open = refl; no_less = refl }

pub ends_comma : (rest : List Tok) → Ends (Symbol Comma ∷ rest)
ends_comma rest = record { no_dot = refl; no_open = refl; no_less = refl }

parameters-end : (o : OpN) (n m : ℕ) (ts rest : List Tok) → SpellsParameters o n m ts rest → Ends ts
parameters-end Bits n m ts rest h = subst Ends (sym h.4) (ends_comma _)
parameters-end Pad n m ts rest h = subst Ends (sym h.3) (ends_comma _)
parameters-end Shl n m ts rest h = subst Ends (sym h.3) (ends_comma _)
parameters-end Shr n m ts rest h = subst Ends (sym h.3) (ends_comma _)
parameters-end Head n m ts rest h = subst Ends (sym h.3) (ends_comma _)
parameters-end Tail n m ts rest h = subst Ends (sym h.3) (ends_comma _)

-- if the tokens after the first don't begin with this symbol, it isn't the second of them
is_second-none : (m : Mark) (t : Tok) (ts : List Tok) → symbol_at m ts ≡ None → is_second m (t ∷ ts) ≡ false
is_second-none m t ts e = ap (λ o. is_some o) e

as_reference : (sub : List Tok → Option (Term × List Tok)) (ts : List Tok) (r : Reference) (rest : List Tok) → is_second OpenParen ts ≡ false → is_second Less ts ≡ false → reference_at ts ≡ Some (r, rest) → form_at sub ts ≡ Some (NamedTerm r, rest)
as_reference sub ts r rest a b e =
    ap (λ x. if x then call_at sub ts else (if is_second Less ts then (literal_at ts >>= λ l. Some (ConstantTerm l.0, l.1)) else (reference_at ts >>= λ k. Some (NamedTerm k.0, k.1)))) a
    ∙ ap (λ x. if x then (literal_at ts >>= λ l. Some (ConstantTerm l.0, l.1)) else (reference_at ts >>= λ k. Some (NamedTerm k.0, k.1))) b
    ∙ ap (λ o. o >>= λ k. Some (NamedTerm k.0, k.1)) e

no_second : (r : Reference) (ts rest : List Tok) → Ends rest → SpellsReference r ts rest → (is_second OpenParen ts ≡ false) × (is_second Less ts ≡ false)
no_second (reference.Local a) ts rest ends h = rw h.1 (is_second-none OpenParen (Word a) rest ends.no_open, is_second-none Less (Word a) rest ends.no_less)
no_second (reference.PortOf a b) ts rest ends h = rw h.2 (refl, refl)
no_second (reference.FieldOf a b c) ts rest ends h = rw h.3 (refl, refl)

-- an expression has at least one token, so the rest is shorter
reference-shorter : (r : Reference) (ts rest : List Tok) → SpellsReference r ts rest → length rest < length ts
reference-shorter (reference.Local a) ts rest h = let e = ap length h.1 in omega arith
reference-shorter (reference.PortOf a b) ts rest h = let e = ap length h.2 in omega arith
reference-shorter (reference.FieldOf a b c) ts rest h = let e = ap length h.3 in omega arith

parameters-shorter : (o : OpN) (n m : ℕ) (ts rest : List Tok) → SpellsParameters o n m ts rest → length rest < length ts
parameters-shorter Bits n m ts rest h = let e = ap length h.4 in omega arith
parameters-shorter Pad n m ts rest h = let e = ap length h.3 in omega arith
parameters-shorter Shl n m ts rest h = let e = ap length h.3 in omega arith
parameters-shorter Shr n m ts rest h = let e = ap length h.3 in omega arith
parameters-shorter Head n m ts rest h = let e = ap length h.3 in omega arith
parameters-shorter Tail n m ts rest h = let e = ap length h.3 in omega arith

pub expr-shorter : (e : Term) (ts rest : List Tok) → SpellsExpr e ts rest → length rest < length ts
expr-shorter (NamedTerm r) ts rest h = reference-shorter r ts rest h
expr-shorter (ConstantTerm l) ts rest h = let e = ap length h.4 in omega arith
expr-shorter (UnaryTerm o a) ts rest h = let e = ap length h.1 in let f = expr-shorter a h.0 (Symbol CloseParen ∷ rest) h.2 in omega arith
expr-shorter (BinaryTerm o a b) ts rest h =
    let e = ap length h.2 in
    let f = expr-shorter a h.0 (Symbol Comma ∷ h.1) h.3 in
    let g = expr-shorter b h.1 (Symbol CloseParen ∷ rest) h.4 in
    omega arith
expr-shorter (FixedTerm o a n m) ts rest h =
    let e = ap length h.2 in
    let f = expr-shorter a h.0 h.1 h.3 in
    let g = parameters-shorter o n m h.1 rest h.4 in
    omega arith
expr-shorter (MuxTerm c a b) ts rest h =
    let e = ap length h.3 in
    let f = expr-shorter c h.0 (Symbol Comma ∷ h.1) h.4 in
    let g = expr-shorter a h.1 (Symbol Comma ∷ h.2) h.5 in
    let i = expr-shorter b h.2 (Symbol CloseParen ∷ rest) h.6 in
    omega arith

as_call : (sub : List Tok → Option (Term × List Tok)) (word : List ℕ) (o : Operation) (t : List Tok) (x : Term × List Tok) → operation_of word ≡ Some o → operands_at sub o t ≡ Some x → form_at sub (Word word ∷ (Symbol OpenParen ∷ t)) ≡ Some x
as_call sub word o t x named read = call-read sub word o t named ∙ read

as_literal : (sub : List Tok → Option (Term × List Tok)) (l : Literal) (ts rest : List Tok) → SpellsLiteral l ts rest → form_at sub ts ≡ Some (ConstantTerm l, rest)
as_literal sub l ts rest h =
    let e : literal_at ts ≡ Some (l, rest) = literal-read l ts rest h in
    let second : (is_second OpenParen ts ≡ false) × (is_second Less ts ≡ true) = rw h.4 (refl, refl) in
    ap (λ x. if x then call_at sub ts else (if is_second Less ts then (literal_at ts >>= λ k. Some (ConstantTerm k.0, k.1)) else (reference_at ts >>= λ k. Some (NamedTerm k.0, k.1)))) second.0
    ∙ ap (λ x. if x then (literal_at ts >>= λ k. Some (ConstantTerm k.0, k.1)) else (reference_at ts >>= λ k. Some (NamedTerm k.0, k.1))) second.1
    ∙ ap (λ o. o >>= λ k. Some (ConstantTerm k.0, k.1)) e

-- an expression that is spelt is read, if there are at least as many levels as tokens
pub expr-read : (e : Term) (ts rest : List Tok) (n : ℕ) → SpellsExpr e ts rest → Ends rest → length ts ≤ n → expr_at n ts ≡ Some (e, rest)
expr-read e ts rest zero h ends size = absurd (omega (arith, expr-shorter e ts rest h))
expr-read (NamedTerm r) ts rest (suc n) h ends size =
    let no = no_second r ts rest ends h in
    as_reference (expr_at n) ts r rest no.0 no.1 (reference-read r ts rest ends.no_dot h)
expr-read (ConstantTerm l) ts rest (suc n) h ends size = as_literal (expr_at n) l ts rest h
expr-read (UnaryTerm o a) ts rest (suc n) h ends size =
    let e = ap length h.1 in
    rw h.1 (as_call (expr_at n) (text1 o) (Unary o) h.0 (UnaryTerm o a, rest) (operation_of-here (Unary o))
    (unary-read (expr_at n) o a h.0 rest (expr-read a h.0 (Symbol CloseParen ∷ rest) n h.2 (ends_close rest) (omega arith))))
expr-read (BinaryTerm o a b) ts rest (suc n) h ends size =
    let e = ap length h.2 in
    let f = expr-shorter a h.0 (Symbol Comma ∷ h.1) h.3 in
    rw h.2 (as_call (expr_at n) (text2 o) (Binary2 o) h.0 (BinaryTerm o a b, rest) (operation_of-here (Binary2 o))
    (binary-read (expr_at n) o a b h.0 h.1 rest (expr-read a h.0 (Symbol Comma ∷ h.1) n h.3 (ends_comma h.1) (omega arith)) (expr-read b h.1 (Symbol CloseParen ∷ rest) n h.4 (ends_close rest) (omega arith))))
expr-read (FixedTerm o a p q) ts rest (suc n) h ends size =
    let e = ap length h.2 in
    rw h.2 (as_call (expr_at n) (text_const o) (Fixed o) h.0 (FixedTerm o a p q, rest) (operation_of-here (Fixed o))
    (fixed-read (expr_at n) o a p q h.0 h.1 rest (expr-read a h.0 h.1 n h.3 (parameters-end o p q h.1 rest h.4) (omega arith)) h.4))
expr-read (MuxTerm c a b) ts rest (suc n) h ends size =
    let e = ap length h.3 in
    let f = expr-shorter c h.0 (Symbol Comma ∷ h.1) h.4 in
    let g = expr-shorter a h.1 (Symbol Comma ∷ h.2) h.5 in
    rw h.3 (as_call (expr_at n) (codes "mux") Mux h.0 (MuxTerm c a b, rest) (operation_of-here Mux)
    (mux-read (expr_at n) c a b h.0 h.1 h.2 rest (expr-read c h.0 (Symbol Comma ∷ h.1) n h.4 (ends_comma h.1) (omega arith)) (expr-read a h.1 (Symbol Comma ∷ h.2) n h.5 (ends_comma h.2) (omega arith)) (expr-read b h.2 (Symbol CloseParen ∷ rest) n h.6 (ends_close rest) (omega arith))))

pub ends_end : Ends []
ends_end = record { no_dot = refl; no_open = refl; no_less = refl }
