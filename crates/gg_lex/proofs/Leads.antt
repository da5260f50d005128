-- The first byte of a token tells whether it is a word, a number, a text or a symbol.
use Rattle.std.proofs.Common.{◌≡◌, ℕ, zero, suc, ◌<◌, ◌≤◌, true, false, eqb, List, [], ◌∷◌, length, get_or, take, sym, ap, ◌∙◌, subst, ⊎_elim, refl, arith, length-take-le}
use Rattle.std.specs.Char.{is_ascii_digit}
use Rattle.std.proofs.lemmas.Bool.{false≢true, both_ways, or_right, or_left, eq-eqb, cases_eq, cases_lt, MatchBool-at_false, ne_eqb}
use Rattle.std.proofs.lemmas.Bool.Decides.{nat_tests}
use Rattle.gg_lex.specs.Bytes.{starts_word}
use Rattle.gg_lex.specs.inside.Bytes.{begins_number}
use Rattle.gg_lex.specs.Tokens.{IsToken, IsFirst, BeginsNoToken, IsDecimal, IsRadixNumber, IsNumber, spelling}
use Rattle.gg_lex.specs.inside.Fronts.{IsLongest, HasNoFront, LeadsSymbol, IsFrontOfTwo}
use Rattle.gg_lex.proofs.Numbers.{radix_long}
use Rattle.gg_lex.specs.declared.token.TokenKind.{TokenKind}
use Rattle.gg_lex.specs.declared.token.TokenKind.TheVariants as kinds
use Rattle.gg_lex.specs.declared.token.Symbol.{Symbol}
use Rattle.gg_lex.specs.declared.token.Symbol.TheVariants.{Connect}

-- the bytes with which a token of the kind may begin
abbrev pub Leads : TokenKind → ℕ → Type 0
Leads kinds.Word b = starts_word b ≡ true
Leads kinds.Number b = begins_number b ≡ true
Leads kinds.Text b = b ≡ 34
Leads (kinds.Symbol symbol) b = get_or (spelling symbol) 0 0 ≡ b

leads_decimal : (b : ℕ) (bs : List ℕ) → IsDecimal (b ∷ bs) → begins_number b ≡ true
leads_decimal b bs number =
    ⊎_elim
    (λ sign. or_left (eqb b 45) (is_ascii_digit b) (eq-eqb b 45 sign))
    (λ plain. or_right (eqb b 45) (is_ascii_digit b) ((MatchBool-at_false _ _ (ne_eqb b 45 plain) number).1 0 b (omega arith)))
    (cases_eq b 45)

leads_radix : (b : ℕ) (bs : List ℕ) → IsRadixNumber (b ∷ bs) → begins_number b ≡ true
leads_radix b bs number =
    ⊎_elim
    (λ plain. let first : b ≡ 48 = cc in ap begins_number first)
    (λ signed. ⊎_elim (λ inner. let first : b ≡ 48 = cc in ap begins_number first) (λ outer. let first : b ≡ 45 = cc in ap begins_number first) signed)
    number.spelt

leads_number : (b : ℕ) (bs : List ℕ) → IsNumber (b ∷ bs) → begins_number b ≡ true
leads_number b bs number = ⊎_elim (leads_decimal b bs) (leads_radix b bs) number

pub leads : (kind : TokenKind) (b : ℕ) (bs : List ℕ) → IsToken kind (b ∷ bs) → Leads kind b
leads kinds.Word b bs (first, body, tail, spelt, starts, all, all_tail) =
    let same : b ≡ first = cc in
    ap starts_word same ∙ starts
leads kinds.Number b bs number = leads_number b bs number
leads kinds.Text b bs (quoted, spelt, is_quoted) = cc
leads (kinds.Symbol symbol) b bs spelt = sym (ap (λ (l : List ℕ). get_or l 0 0) spelt)

-- no token is empty
pub no_empty : (kind : TokenKind) → IsToken kind [] → ⊥
no_empty kinds.Word (first, body, tail, spelt, starts, all, all_tail) = cc
no_empty kinds.Number number = ⊎_elim (λ decimal. decimal) (λ radix. omega (arith, radix_long [] radix)) number
no_empty kinds.Text (quoted, spelt, is_quoted) = cc
no_empty (kinds.Symbol symbol) spelt = no_empty_symbol symbol spelt
  where
    no_empty_symbol : (s : Symbol) → [] ≡ spelling s → ⊥
    no_empty_symbol Connect e = cc
    no_empty_symbol _ e = cc

symbol_starts_no_word : (s : Symbol) → starts_word (get_or (spelling s) 0 0) ≡ false
symbol_starts_no_word Connect = refl
symbol_starts_no_word _ = refl

symbol_begins_no_number : (s : Symbol) → begins_number (get_or (spelling s) 0 0) ≡ false
symbol_begins_no_number Connect = refl
symbol_begins_no_number _ = refl

symbol_is_no_quote : (s : Symbol) → get_or (spelling s) 0 0 ≡ 34 → ⊥
symbol_is_no_quote Connect e = omega (arith, e)
symbol_is_no_quote _ e = omega (arith, e)

number_starts_no_word : (b : ℕ) → begins_number b ≡ true → starts_word b ≡ false
number_starts_no_word b number = grind (arith, nat_tests)

pub only_word : (b : ℕ) → starts_word b ≡ true → (other : TokenKind) → Leads other b → other ≡ kinds.Word
only_word b word kinds.Word lead = refl
only_word b word kinds.Number lead = absurd (both_ways _ (number_starts_no_word b lead) word)
only_word b word kinds.Text lead = absurd (false≢true (ap starts_word (sym lead) ∙ word))
only_word b word (kinds.Symbol s) lead = absurd (both_ways _ (symbol_starts_no_word s) (ap starts_word lead ∙ word))

pub only_number : (b : ℕ) → begins_number b ≡ true → (other : TokenKind) → Leads other b → other ≡ kinds.Number
only_number b number kinds.Word lead = absurd (both_ways _ (number_starts_no_word b number) lead)
only_number b number kinds.Number lead = refl
only_number b number kinds.Text lead = absurd (false≢true (ap begins_number (sym lead) ∙ number))
only_number b number (kinds.Symbol s) lead = absurd (both_ways _ (symbol_begins_no_number s) (ap begins_number lead ∙ number))

pub only_text : (b : ℕ) → b ≡ 34 → (other : TokenKind) → Leads other b → other ≡ kinds.Text
only_text b quote kinds.Word lead = absurd (false≢true (ap starts_word (sym quote) ∙ lead))
only_text b quote kinds.Number lead = absurd (false≢true (ap begins_number (sym quote) ∙ lead))
only_text b quote kinds.Text lead = refl
only_text b quote (kinds.Symbol s) lead = absurd (symbol_is_no_quote s (lead ∙ quote))

spelling_short : (s : Symbol) → length (spelling s) ≤ 2
spelling_short Connect = omega arith
spelling_short _ = omega arith

take_one : (bs : List ℕ) → 0 < length bs → take 1 bs ≡ get_or bs 0 0 ∷ []
take_one [] nonempty = absurd (omega arith)
take_one (b ∷ bs) nonempty = refl

-- a token at the front of some bytes may begin with their first byte
leads_front : (kind : TokenKind) (bs : List ℕ) (m : ℕ) → 0 < length bs → IsToken kind (take m bs) → Leads kind (get_or bs 0 0)
leads_front kind [] m nonempty token = absurd (omega arith)
leads_front kind (b ∷ bs) zero nonempty token = absurd (no_empty kind token)
leads_front kind (b ∷ bs) (suc m) nonempty token = leads kind b (take m bs) token

-- if only one kind of token may begin with the first byte, the longest token of this kind is the first token
pub first_of_kind : (kind : TokenKind) (bs : List ℕ) (n : ℕ) → 0 < length bs → ((other : TokenKind) → Leads other (get_or bs 0 0) → other ≡ kind) → IsLongest (IsToken kind) bs n → IsFirst kind bs n
first_of_kind kind bs n nonempty only found = record {
  within = found.within;
  token = found.has;
  longest = λ other m within token. found.longest m within (subst (λ (k : TokenKind). IsToken k (take m bs)) (only other (leads_front other bs m nonempty token)) token);
}

pub none_of_kind : (kind : TokenKind) (bs : List ℕ) → 0 < length bs → ((other : TokenKind) → Leads other (get_or bs 0 0) → other ≡ kind) → HasNoFront (IsToken kind) bs → BeginsNoToken bs
none_of_kind kind bs nonempty only none other m within token =
    none m within (subst (λ (k : TokenKind). IsToken k (take m bs)) (only other (leads_front other bs m nonempty token)) token)

module _ (bs : List ℕ) (first : LeadsSymbol bs) where
  -- if the first byte may only begin a symbol, each token at the front is a symbol
  spells_symbol : (kind : TokenKind) (m : ℕ) → IsToken kind (take m bs) → (s : Symbol) × (take m bs ≡ spelling s)
  spells_symbol kind m token = by_lead kind token (leads_front kind bs m first.nonempty token)
    where
      by_lead : (k : TokenKind) → IsToken k (take m bs) → Leads k (get_or bs 0 0) → (s : Symbol) × (take m bs ≡ spelling s)
      by_lead kinds.Word t lead = absurd (both_ways _ first.no_word lead)
      by_lead kinds.Number t lead = absurd (both_ways _ first.no_number lead)
      by_lead kinds.Text t lead = absurd (first.no_text lead)
      by_lead (kinds.Symbol s) t lead = (s, t)

  short : (kind : TokenKind) (m : ℕ) → m ≤ length bs → IsToken kind (take m bs) → m ≤ 2
  short kind m within token =
      let spelt = spells_symbol kind m token in
      omega (arith, length-take-le m bs within, ap length spelt.1, spelling_short spelt.0)

  at_most_one : ((s : Symbol) → IsFrontOfTwo bs s → ⊥) → (kind : TokenKind) (m : ℕ) → m ≤ length bs → IsToken kind (take m bs) → m ≤ 1
  at_most_one none kind m within token =
      ⊎_elim
      (λ one. omega arith)
      (λ two. let exact : m ≡ 2 = omega (arith, short kind m within token) in let spelt = spells_symbol kind m token in absurd (none spelt.0 (omega arith, subst (λ (n : ℕ). take n bs ≡ spelling spelt.0) exact spelt.1)))
      (cases_lt m 2)

  pub first_of_two : (s : Symbol) → IsFrontOfTwo bs s → IsFirst (kinds.Symbol s) bs 2
  first_of_two s front = record { within = front.0; token = front.1; longest = λ other m within token. short other m within token }

  pub first_of_one : (s : Symbol) → ((u : Symbol) → IsFrontOfTwo bs u → ⊥) → spelling s ≡ get_or bs 0 0 ∷ [] → IsFirst (kinds.Symbol s) bs 1
  first_of_one s none spelt = record {
    within = omega (arith, first.nonempty);
    token = take_one bs first.nonempty ∙ sym spelt;
    longest = λ other m within token. at_most_one none other m within token;
  }

  pub no_first : ((u : Symbol) → IsFrontOfTwo bs u → ⊥) → ((u : Symbol) → spelling u ≡ get_or bs 0 0 ∷ [] → ⊥) → BeginsNoToken bs
  no_first none none_of_one kind zero within token = no_empty kind token
  no_first none none_of_one kind (suc m) within token =
      let one : suc m ≡ 1 = omega (arith, at_most_one none kind (suc m) within token) in
      let spelt = spells_symbol kind (suc m) token in
      none_of_one spelt.0 (sym (sym (take_one bs first.nonempty) ∙ ap (λ (n : ℕ). take n bs) (sym one) ∙ spelt.1))
