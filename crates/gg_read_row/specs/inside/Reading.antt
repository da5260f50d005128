-- What a reader of tokens finds, by trying the forms one after another: the row that they spell, or nothing. The
-- contracts of the readers use these functions, and it is proved that these find just what is spelt.
-- Source: FIRRTL Specification, "Grammar"; how the forms are tried is this program's own.
use Rattle.std.specs.Prelude.{◌≡◌, ℕ, zero, suc, Bool, true, false, ◌||◌, ◌++◌, List, [], ◌∷◌, Option, None, Some, Result, Ok, Err, length, is_some, codes, ◌==◌, if◌then◌else◌}
use Rattle.std.specs.Str.{bytes_eq}
use Rattle.std.specs.Str.Parse.{digits_value}
use Rattle.gg_bits.specs.declared.types.Kind.{Kind}
use Rattle.gg_bits.specs.declared.types.Kind.TheVariants as kind
use Rattle.gg_bits.specs.declared.ops.Op1.{Op1}
use Rattle.gg_bits.specs.declared.ops.Op2.{Op2}
use Rattle.gg_bits.specs.declared.ops.OpN.{OpN}
use Rattle.gg_bits.specs.declared.ops.OpN.TheVariants.{Pad, Shl, Shr, Bits, Head, Tail}
use Rattle.gg_lex.specs.declared.token.Tok.{Tok}
use Rattle.gg_lex.specs.declared.token.Tok.TheVariants.{Word, Number, Text, Symbol}
use Rattle.gg_lex.specs.declared.token.Symbol.{Symbol as Mark}
use Rattle.gg_lex.specs.declared.token.Symbol.TheVariants.{Connect, Arrow, Colon, Comma, Dot, OpenParen, CloseParen, Less, Greater, Equals}
use Rattle.gg_lex.specs.Tokens.{spelling}
use Rattle.gg_ast.specs.declared.expression.Literal.{Literal}
use Rattle.gg_ast.specs.declared.expression.Radix.{Radix}
use Rattle.gg_ast.specs.declared.expression.Radix.TheVariants.{Binary, Octal, Decimal, Hexadecimal}
use Rattle.gg_ast.specs.declared.expression.Reference.{Reference}
use Rattle.gg_ast.specs.declared.expression.Reference.TheVariants as reference
use Rattle.gg_ast.specs.Term.{Term, NamedTerm, ConstantTerm, UnaryTerm, BinaryTerm, FixedTerm, MuxTerm}
use Rattle.gg_ast.specs.declared.statement.Argument.{Argument}
use Rattle.gg_ast.specs.declared.statement.Argument.TheVariants as given
use Rattle.gg_ast.specs.declared.statement.MemoryField.{MemoryField}
use Rattle.gg_ast.specs.declared.statement.MemoryField.TheVariants as field
use Rattle.gg_ast.specs.declared.statement.ReadUnderWrite.{ReadUnderWrite}
use Rattle.gg_ast.specs.declared.statement.ReadUnderWrite.TheVariants as under_write
use Rattle.gg_read_row.specs.declared.cursor.RowFault.{RowFault}
use Rattle.gg_read_row.specs.declared.cursor.RowFault.TheVariants.{NoForm, NoMemory}
use Rattle.gg_ast.specs.declared.words.Operation.{Operation}
use Rattle.gg_ast.specs.declared.words.Operation.TheVariants.{Unary, Binary as Binary2, Fixed, Mux}
use Rattle.gg_ast.specs.declared.words.FieldWord.{FieldWord}
use Rattle.gg_ast.specs.declared.words.FieldWord.TheVariants as field_word
use Rattle.gg_ast.specs.declared.words.Keyword.{Keyword}
use Rattle.gg_ast.specs.declared.words.Keyword.TheVariants as keyword
use Rattle.gg_ast.specs.declared.statement.Report.{Report}
use Rattle.gg_ast.specs.Row.{Row, VersionRow, CircuitRow, ModuleRow, PortRow, WireRow, NodeRow, RegisterRow, RegisterResetRow, RegisterOpenRow, ResetRow, InstanceRow, MemoryRow, FieldRow, ConnectRow, InvalidRow, SkipRow, StopRow, ReportRow}
use Rattle.gg_read_row.specs.declared.digits.Digits.{Digits}
use Rattle.gg_ast.specs.Names.{is_name}
use Rattle.gg_read_row.specs.Forms.{is_natural, are_digits}
use Rattle.gg_ast.specs.inside.Words.{operation_of, keyword_of}
use Rattle.gg_ast.specs.declared.module.GroundType.{GroundType}
use Rattle.gg_ast.specs.declared.module.GroundType.TheVariants as plain_type

infixl 10 ◌>>=◌
-- continues with what was found, if something was
abbrev pub ◌>>=◌ : {A B : Type 0} → Option A → (A → Option B) → Option B
None >>= next = None
(Some x) >>= next = next x

-- nothing was read: there is nothing, or an allocation failed, which says nothing of the tokens
abbrev pub Misses : {A : Type 0} → RowFault → Option A → Type 0
Misses NoForm found = found ≡ None
Misses NoMemory found = Unit {0}

-- a reader found this: it returns `result`, and leaves the tokens `left`
abbrev pub Reads : {A B : Type 0} → (A → B) → Result A RowFault → List Tok → Option (B × List Tok) → Type 0
Reads view (Ok value) left found = found ≡ Some (view value, left)
Reads view (Err fault) left found = Misses fault found

-- a reader that passes over tokens found this
abbrev pub Passes : Result (Unit {0}) RowFault → List Tok → Option (List Tok) → Type 0
Passes (Ok value) left found = found ≡ Some left
Passes (Err fault) left found = Misses fault found

-- what is left after this symbol, if it is the first token
abbrev pub symbol_at : Mark → List Tok → Option (List Tok)
symbol_at mark [] = None
symbol_at mark (Symbol other ∷ ts) = if bytes_eq (spelling other) (spelling mark) then Some ts else None
symbol_at mark (Word w ∷ ts) = None
symbol_at mark (Number w ∷ ts) = None
symbol_at mark (Text w ∷ ts) = None

-- what is left after this word, if it is the first token
abbrev pub word_at : List ℕ → List Tok → Option (List Tok)
word_at word [] = None
word_at word (Word w ∷ ts) = if bytes_eq w word then Some ts else None
word_at word (Number w ∷ ts) = None
word_at word (Text w ∷ ts) = None
word_at word (Symbol mark ∷ ts) = None

-- a name, if it is the first token, and what is left after it
abbrev pub name_at : List Tok → Option (List ℕ × List Tok)
name_at [] = None
name_at (Word w ∷ ts) = if is_name w then Some (w, ts) else None
name_at (Number w ∷ ts) = None
name_at (Text w ∷ ts) = None
name_at (Symbol mark ∷ ts) = None

-- the number of these digits; none if they are no natural number
abbrev pub natural_of : List ℕ → Option ℕ
natural_of digits = if is_natural digits then Some (digits_value 10 digits) else None

-- a natural number, if it is the first token, and what is left after it
abbrev pub natural_at : List Tok → Option (ℕ × List Tok)
natural_at [] = None
natural_at (Word w ∷ ts) = None
natural_at (Number w ∷ ts) = natural_of w >>= λ n. Some (n, ts)
natural_at (Text w ∷ ts) = None
natural_at (Symbol mark ∷ ts) = None

-- nothing, if no token is left
abbrev pub end_at : List Tok → Option (List Tok)
end_at [] = Some []
end_at (t ∷ ts) = None

-- a reader of something other than tokens found this
abbrev pub Finds : {A B : Type 0} → (A → B) → Result A RowFault → Option B → Type 0
Finds view (Ok value) found = found ≡ Some (view value)
Finds view (Err fault) found = Misses fault found

-- what `first` makes of what was found, if something was; otherwise the other
abbrev pub choose : {A B : Type 0} → Option A → (A → B) → B → B
choose None first other = other
choose (Some x) first other = first x

-- x, or x.y, or x.y.z
abbrev pub third_at : List ℕ → List ℕ → List Tok → Option (Reference × List Tok)
third_at a b ts = choose (symbol_at Dot ts) (λ t. name_at t >>= λ c. Some (reference.FieldOf a b c.0, c.1)) (Some (reference.PortOf a b, ts))

-- x, or x.y, or x.y.z, when x was read
abbrev pub second_at : List ℕ → List Tok → Option (Reference × List Tok)
second_at a ts = choose (symbol_at Dot ts) (λ t. name_at t >>= λ b. third_at a b.0 b.1) (Some (reference.Local a, ts))

-- x, or x.y, or x.y.z
abbrev pub reference_at : List Tok → Option (Reference × List Tok)
reference_at ts = name_at ts >>= λ a. second_at a.0 a.1

-- < n >
abbrev pub width_at : List Tok → Option (ℕ × List Tok)
width_at ts = symbol_at Less ts >>= λ t. natural_at t >>= λ n. symbol_at Greater n.1 >>= λ u. Some (n.0, u)

-- UInt or SInt
abbrev pub kind_at : List Tok → Option (Kind × List Tok)
kind_at ts = choose (word_at (codes "UInt") ts) (λ t. Some (kind.UInt, t)) (word_at (codes "SInt") ts >>= λ t. Some (kind.SInt, t))

-- the type of this kind and width
abbrev pub ground_type : Kind → ℕ → GroundType
ground_type kind.UInt width = plain_type.UInt width
ground_type kind.SInt width = plain_type.SInt width

-- UInt<n>, SInt<n> or Clock
abbrev pub type_at : List Tok → Option (GroundType × List Tok)
type_at ts = choose (word_at (codes "Clock") ts) (λ t. Some (plain_type.Clock, t)) (kind_at ts >>= λ k. width_at k.1 >>= λ w. Some (ground_type k.0 w.0, w.1))

-- the digits of a literal's number
abbrev pub checked_digits : Radix → Bool → List ℕ → Option Digits
checked_digits radix negative digits = if are_digits radix digits then Some (record { radix = radix; negative = negative; digits = digits }) else None

-- the digits of a literal's number, with or without a `-` before them
abbrev pub signed_digits : Radix → List ℕ → Option Digits
signed_digits radix [] = None
signed_digits radix (b ∷ bs) = if b == 45 then checked_digits radix true bs else checked_digits radix false (b ∷ bs)

-- the radix that a text's first letter names: `b`, `o` or `h`, and not `d`
abbrev pub radix_of : ℕ → Option Radix
radix_of b = if b == 98 then Some Binary else (if b == 111 then Some Octal else (if b == 104 then Some Hexadecimal else None))

-- a text in quotes: the letter of a radix, then the digits with or without a `-`
abbrev pub text_digits : List ℕ → Option Digits
text_digits [] = None
text_digits (b ∷ bs) = radix_of b >>= λ radix. signed_digits radix bs

-- the radix that this letter names after a `0`
abbrev pub zero_radix : ℕ → Option Radix
zero_radix b = if b == 100 then Some Decimal else radix_of b

-- the radix of a number and its digits: those after `0` and a letter, or all of the bytes, in decimal
abbrev pub radix_or_decimal : Option Radix → List ℕ → List ℕ → Radix × List ℕ
radix_or_decimal None all digits = (Decimal, all)
radix_or_decimal (Some radix) all digits = (radix, digits)

-- the radix of a number, and its digits without the `0` and the letter that named the radix
abbrev pub split_radix : List ℕ → Radix × List ℕ
split_radix [] = (Decimal, [])
split_radix (b ∷ []) = (Decimal, b ∷ [])
split_radix (b ∷ letter ∷ digits) = if b == 48 then radix_or_decimal (zero_radix letter) (b ∷ letter ∷ digits) digits else (Decimal, b ∷ letter ∷ digits)

-- the digits of a literal's number; a `-` may be before the radix or before the digits, but not before both
abbrev pub number_digits : List ℕ → Option Digits
number_digits [] = None
number_digits (b ∷ bs) =
    if b == 45 then checked_digits (split_radix bs).0 true (split_radix bs).1
    else signed_digits (split_radix (b ∷ bs)).0 (split_radix (b ∷ bs)).1

-- a literal's number, written as a number or as a text, and what is left after it
abbrev pub digits_at : List Tok → Option (Digits × List Tok)
digits_at [] = None
digits_at (Word w ∷ ts) = None
digits_at (Number w ∷ ts) = number_digits w >>= λ d. Some (d, ts)
digits_at (Text w ∷ ts) = text_digits w >>= λ d. Some (d, ts)
digits_at (Symbol mark ∷ ts) = None

-- the literal of this kind and width, with these digits
abbrev pub literal_of : Kind → ℕ → Digits → Literal
literal_of kind width d = record { kind = kind; width = width; radix = d.radix; negative = d.negative; digits = d.digits }

-- UInt<n>(number) or SInt<n>(number), whether or not the number fits the width
abbrev pub literal_at : List Tok → Option (Literal × List Tok)
literal_at ts = kind_at ts >>= λ k. width_at k.1 >>= λ w. symbol_at OpenParen w.1 >>= λ t. digits_at t >>= λ d. symbol_at CloseParen d.1 >>= λ u. Some (literal_of k.0 w.0 d.0, u)

-- the operation that the first token names
abbrev pub operation_at : List Tok → Option (Operation × List Tok)
operation_at [] = None
operation_at (Word w ∷ ts) = operation_of w >>= λ o. Some (o, ts)
operation_at (Number w ∷ ts) = None
operation_at (Text w ∷ ts) = None
operation_at (Symbol mark ∷ ts) = None

-- the parameters of an operation, and its closing bracket
abbrev pub one_parameter_at : List Tok → Option (ℕ × List Tok)
one_parameter_at ts = symbol_at Comma ts >>= λ t. natural_at t >>= λ n. symbol_at CloseParen n.1 >>= λ u. Some (n.0, u)

-- , n , m and the closing bracket
abbrev pub two_parameters_at : List Tok → Option ((ℕ × ℕ) × List Tok)
two_parameters_at ts =
    symbol_at Comma ts >>= λ t. natural_at t >>= λ n. symbol_at Comma n.1 >>= λ u. natural_at u >>= λ m. symbol_at CloseParen m.1 >>= λ v. Some ((n.0, m.0), v)

-- the parameters of an operation, and its closing bracket: two for `bits`; for any other one, with 0 as the second
abbrev pub parameters_at : OpN → List Tok → Option ((ℕ × ℕ) × List Tok)
parameters_at Bits ts = two_parameters_at ts
parameters_at Pad ts = one_parameter_at ts >>= λ n. Some ((n.0, 0), n.1)
parameters_at Shl ts = one_parameter_at ts >>= λ n. Some ((n.0, 0), n.1)
parameters_at Shr ts = one_parameter_at ts >>= λ n. Some ((n.0, 0), n.1)
parameters_at Head ts = one_parameter_at ts >>= λ n. Some ((n.0, 0), n.1)
parameters_at Tail ts = one_parameter_at ts >>= λ n. Some ((n.0, 0), n.1)

-- the token after the next is this symbol
abbrev pub is_second : Mark → List Tok → Bool
is_second mark [] = false
is_second mark (t ∷ ts) = is_some (symbol_at mark ts)

-- the operands of an operation, its parameters and its closing bracket; `sub` reads one operand
module _ (sub : List Tok → Option (Term × List Tok)) where
  -- the operand and the closing bracket of an operation on one value
  abbrev pub unary_at : Op1 → List Tok → Option (Term × List Tok)
  unary_at o ts = sub ts >>= λ a. symbol_at CloseParen a.1 >>= λ t. Some (UnaryTerm o a.0, t)

  -- two operands, and the closing bracket
  abbrev pub binary_at : Op2 → List Tok → Option (Term × List Tok)
  binary_at o ts = sub ts >>= λ a. symbol_at Comma a.1 >>= λ t. sub t >>= λ b. symbol_at CloseParen b.1 >>= λ u. Some (BinaryTerm o a.0 b.0, u)

  -- an operand, the parameters of the operation, and the closing bracket
  abbrev pub fixed_at : OpN → List Tok → Option (Term × List Tok)
  fixed_at o ts = sub ts >>= λ a. parameters_at o a.1 >>= λ p. Some (FixedTerm o a.0 p.0.0 p.0.1, p.1)

  -- a condition, two operands, and the closing bracket
  abbrev pub mux_at : List Tok → Option (Term × List Tok)
  mux_at ts =
      sub ts >>= λ c. symbol_at Comma c.1 >>= λ t. sub t >>= λ a. symbol_at Comma a.1 >>= λ u. sub u >>= λ b. symbol_at CloseParen b.1 >>= λ v. Some (MuxTerm c.0 a.0 b.0, v)

  -- what any operation has after its opening bracket
  abbrev pub operands_at : Operation → List Tok → Option (Term × List Tok)
  operands_at (Unary o) ts = unary_at o ts
  operands_at (Binary2 o) ts = binary_at o ts
  operands_at (Fixed o) ts = fixed_at o ts
  operands_at Mux ts = mux_at ts

  -- the word of an operation, an opening bracket, and what the operation has after it
  abbrev pub call_at : List Tok → Option (Term × List Tok)
  call_at ts = operation_at ts >>= λ o. symbol_at OpenParen o.1 >>= λ t. operands_at o.0 t

  -- an expression: an operation, a literal or a reference
  abbrev pub form_at : List Tok → Option (Term × List Tok)
  form_at ts =
      if is_second OpenParen ts then call_at ts
      else (if is_second Less ts then (literal_at ts >>= λ l. Some (ConstantTerm l.0, l.1)) else (reference_at ts >>= λ r. Some (NamedTerm r.0, r.1)))

-- an expression with operations nested at most this deep
abbrev pub expr_at : ℕ → List Tok → Option (Term × List Tok)
expr_at zero ts = None
expr_at (suc depth) ts = form_at (expr_at depth) ts

-- an expression, with operations nested to any depth
abbrev pub expression_at : List Tok → Option (Term × List Tok)
expression_at ts = expr_at (length ts) ts

-- an expression up to the end
abbrev pub last_expression_at : List Tok → Option Term
last_expression_at ts = expression_at ts >>= λ e. end_at e.1 >>= λ u. Some e.0

-- what follows the first word of a line
abbrev pub version_at : List Tok → Option Row
version_at ts =
    word_at (codes "version") ts >>= λ t. natural_at t >>= λ a. symbol_at Dot a.1 >>= λ u. natural_at u >>= λ b. symbol_at Dot b.1 >>= λ v. natural_at v >>= λ c. end_at c.1 >>= λ w.
    Some (VersionRow a.0 b.0 c.0)

-- NAME :
abbrev pub header_at : List Tok → Option (List ℕ)
header_at ts = name_at ts >>= λ n. symbol_at Colon n.1 >>= λ t. end_at t >>= λ u. Some n.0

-- NAME : TYPE
abbrev pub declared_at : List Tok → Option ((List ℕ × GroundType) × List Tok)
declared_at ts = name_at ts >>= λ n. symbol_at Colon n.1 >>= λ t. type_at t >>= λ ty. Some ((n.0, ty.0), ty.1)

-- NAME : TYPE up to the end
abbrev pub last_declared_at : List Tok → Option (List ℕ × GroundType)
last_declared_at ts = declared_at ts >>= λ d. end_at d.1 >>= λ u. Some d.0

-- NAME = EXPR up to the end, after `node`
abbrev pub node_at : List Tok → Option Row
node_at ts = name_at ts >>= λ n. symbol_at Equals n.1 >>= λ t. last_expression_at t >>= λ e. Some (NodeRow n.0 e)

-- => ( CONDITION , INIT )
abbrev pub reset_at : List Tok → Option ((Term × Term) × List Tok)
reset_at ts =
    symbol_at Arrow ts >>= λ t. symbol_at OpenParen t >>= λ u. expression_at u >>= λ c. symbol_at Comma c.1 >>= λ v. expression_at v >>= λ i. symbol_at CloseParen i.1 >>= λ w.
    Some ((c.0, i.0), w)

-- => ( CONDITION , INIT ) up to the end, after `reset`
abbrev pub reset_row_at : List Tok → Option Row
reset_row_at ts = reset_at ts >>= λ r. end_at r.1 >>= λ u. Some (ResetRow r.0.0 r.0.1)

-- ( reset => ( CONDITION , INIT ) ) after `with :`
abbrev pub inline_reset_at : List ℕ → GroundType → Term → List Tok → Option Row
inline_reset_at name ty clock ts =
    symbol_at OpenParen ts >>= λ t. word_at (codes "reset") t >>= λ u. reset_at u >>= λ r. symbol_at CloseParen r.1 >>= λ v. end_at v >>= λ w.
    Some (RegisterResetRow name ty clock r.0.0 r.0.1)

-- what may follow a register's clock
abbrev pub with_at : List ℕ → GroundType → Term → List Tok → Option Row
with_at name ty clock ts =
    word_at (codes "with") ts >>= λ t. symbol_at Colon t >>= λ u. choose (end_at u) (λ v. Some (RegisterOpenRow name ty clock)) (inline_reset_at name ty clock u)

-- the row of a register with this name, type and clock, from what follows the clock: nothing, or what begins with `with`
abbrev pub clocked_at : List ℕ → GroundType → Term → List Tok → Option Row
clocked_at name ty clock ts = choose (end_at ts) (λ u. Some (RegisterRow name ty clock)) (with_at name ty clock ts)

-- NAME : TYPE , CLOCK and what may follow, after `reg`
abbrev pub register_at : List Tok → Option Row
register_at ts = declared_at ts >>= λ d. symbol_at Comma d.1 >>= λ t. expression_at t >>= λ c. clocked_at d.0.0 d.0.1 c.0 c.1

-- , CONDITION , INIT up to the end
abbrev pub last_pair_at : List Tok → Option (Term × Term)
last_pair_at ts = symbol_at Comma ts >>= λ t. expression_at t >>= λ c. symbol_at Comma c.1 >>= λ u. last_expression_at u >>= λ i. Some (c.0, i)

-- NAME : TYPE , CLOCK , CONDITION , INIT up to the end, after `regreset`
abbrev pub regreset_at : List Tok → Option Row
regreset_at ts =
    declared_at ts >>= λ d. symbol_at Comma d.1 >>= λ t. expression_at t >>= λ c. last_pair_at c.1 >>= λ p. Some (RegisterResetRow d.0.0 d.0.1 c.0 p.0 p.1)

-- NAME of MODULE up to the end, after `inst`
abbrev pub instance_at : List Tok → Option Row
instance_at ts = name_at ts >>= λ n. word_at (codes "of") n.1 >>= λ t. name_at t >>= λ m. end_at m.1 >>= λ u. Some (InstanceRow n.0 m.0)

-- nothing, or : NAME
abbrev pub label_at : List Tok → Option (Option (List ℕ))
label_at ts = choose (end_at ts) (λ u. Some None) (symbol_at Colon ts >>= λ t. name_at t >>= λ n. end_at n.1 >>= λ u. Some (Some n.0))

-- ( CLOCK , CONDITION , CODE ) and possibly : NAME, up to the end, after `stop`
abbrev pub stop_at : List Tok → Option Row
stop_at ts =
    symbol_at OpenParen ts >>= λ t. expression_at t >>= λ c. symbol_at Comma c.1 >>= λ u. expression_at u >>= λ e. one_parameter_at e.1 >>= λ n. label_at n.1 >>= λ l.
    Some (StopRow c.0 e.0 n.0 l)

-- a text in quotes, if it is the first token, and what is left after it
abbrev pub text_at : List Tok → Option (List ℕ × List Tok)
text_at [] = None
text_at (Word w ∷ ts) = None
text_at (Number w ∷ ts) = None
text_at (Text w ∷ ts) = Some (w, ts)
text_at (Symbol mark ∷ ts) = None

-- an expression or a text
abbrev pub argument_at : List Tok → Option (Argument × List Tok)
argument_at ts = choose (text_at ts) (λ t. Some (given.Text t.0, t.1)) (expression_at ts >>= λ e. Some (given.Value e.0, e.1))

-- the arguments read so far, then at most n more, and the closing bracket
abbrev pub arguments_at : ℕ → List Argument → List Tok → Option (List Argument × List Tok)
arguments_at zero before ts = None
arguments_at (suc n) before ts =
    argument_at ts >>= λ a. choose (symbol_at Comma a.1) (λ t. arguments_at n (before ++ a.0 ∷ []) t) (symbol_at CloseParen a.1 >>= λ u. Some (before ++ a.0 ∷ [], u))

-- the result of one turn of reading arguments: more follow, or these are all
abbrev pub TakesArgument : Result Bool RowFault → List Argument → List Tok → List Argument → List Tok → Type 0
TakesArgument (Ok true) before ts after left = (n : ℕ) → arguments_at (suc n) before ts ≡ arguments_at n after left
TakesArgument (Ok false) before ts after left = (n : ℕ) → arguments_at (suc n) before ts ≡ Some (after, left)
TakesArgument (Err fault) before ts after left = (n : ℕ) → Misses fault (arguments_at (suc n) before ts)

-- ( ARGUMENTS ) and possibly : NAME, up to the end, after `printf`, `assert`, `assume` or `cover`
abbrev pub report_at : Report → List Tok → Option Row
report_at word ts = symbol_at OpenParen ts >>= λ t. arguments_at (length t) [] t >>= λ a. label_at a.1 >>= λ l. Some (ReportRow word a.0 l)

-- the names read so far, then more up to the end
abbrev pub more_names_at : List (List ℕ) → List Tok → Option (List (List ℕ))
more_names_at before [] = Some before
more_names_at before (Word w ∷ ts) = if is_name w then more_names_at (before ++ w ∷ []) ts else None
more_names_at before (Number w ∷ ts) = None
more_names_at before (Text w ∷ ts) = None
more_names_at before (Symbol mark ∷ ts) = None

-- one or more names, up to the end
abbrev pub names_at : List Tok → Option (List (List ℕ))
names_at [] = None
names_at (t ∷ ts) = more_names_at [] (t ∷ ts)

-- the result of one token: a name, so that more may follow, or none
abbrev pub TakesName : Result (Unit {0}) RowFault → List (List ℕ) → Tok → List (List ℕ) → Type 0
TakesName (Ok value) before t after = (ts : List Tok) → more_names_at before (t ∷ ts) ≡ more_names_at after ts
TakesName (Err fault) before t after = (ts : List Tok) → Misses fault (more_names_at before (t ∷ ts))

-- a type up to the end
abbrev pub last_type_at : List Tok → Option GroundType
last_type_at ts = type_at ts >>= λ ty. end_at ty.1 >>= λ u. Some ty.0

-- a natural number up to the end
abbrev pub last_natural_at : List Tok → Option ℕ
last_natural_at ts = natural_at ts >>= λ n. end_at n.1 >>= λ u. Some n.0

-- old, new or undefined
abbrev pub read_under_write_at : List Tok → Option (ReadUnderWrite × List Tok)
read_under_write_at ts =
    choose (word_at (codes "old") ts) (λ t. Some (under_write.Old, t))
    (choose (word_at (codes "new") ts) (λ t. Some (under_write.New, t)) (word_at (codes "undefined") ts >>= λ t. Some (under_write.Undefined, t)))

-- one of these words up to the end
abbrev pub last_read_under_write_at : List Tok → Option ReadUnderWrite
last_read_under_write_at ts = read_under_write_at ts >>= λ w. end_at w.1 >>= λ u. Some w.0

-- the memory's field with this word, by the tokens after `=>`
abbrev pub field_at : FieldWord → List Tok → Option MemoryField
field_at field_word.DataType ts = last_type_at ts >>= λ ty. Some (field.DataType ty)
field_at field_word.Depth ts = last_natural_at ts >>= λ n. Some (field.Depth n)
field_at field_word.ReadLatency ts = last_natural_at ts >>= λ n. Some (field.ReadLatency n)
field_at field_word.WriteLatency ts = last_natural_at ts >>= λ n. Some (field.WriteLatency n)
field_at field_word.Reader ts = names_at ts >>= λ names. Some (field.Readers names)
field_at field_word.Writer ts = names_at ts >>= λ names. Some (field.Writers names)
field_at field_word.ReadUnderWrite ts = last_read_under_write_at ts >>= λ w. Some (field.ReadUnderWrite w)

-- => and what the field with this word has, up to the end
abbrev pub field_row_at : FieldWord → List Tok → Option Row
field_row_at word ts = symbol_at Arrow ts >>= λ t. field_at word t >>= λ f. Some (FieldRow f)

-- module NAME :
abbrev pub public_at : List Tok → Option Row
public_at ts = word_at (codes "module") ts >>= λ t. header_at t >>= λ name. Some (ModuleRow name)

-- SINK , SOURCE
abbrev pub connect_at : List Tok → Option Row
connect_at ts = reference_at ts >>= λ r. symbol_at Comma r.1 >>= λ t. last_expression_at t >>= λ e. Some (ConnectRow r.0 e)

-- SINK
abbrev pub invalidate_at : List Tok → Option Row
invalidate_at ts = reference_at ts >>= λ r. end_at r.1 >>= λ u. Some (InvalidRow r.0)

-- the row that begins with this keyword, by the tokens after it
abbrev pub body_at : Keyword → List Tok → Option Row
body_at keyword.Version ts = version_at ts
body_at keyword.Circuit ts = header_at ts >>= λ name. Some (CircuitRow name)
body_at keyword.Module ts = header_at ts >>= λ name. Some (ModuleRow name)
body_at (keyword.Port direction) ts = last_declared_at ts >>= λ d. Some (PortRow direction d.0 d.1)
body_at keyword.Wire ts = last_declared_at ts >>= λ d. Some (WireRow d.0 d.1)
body_at keyword.Node ts = node_at ts
body_at keyword.Register ts = register_at ts
body_at keyword.Reset ts = reset_row_at ts
body_at keyword.Instance ts = instance_at ts
body_at keyword.Memory ts = header_at ts >>= λ name. Some (MemoryRow name)
body_at (keyword.Field word) ts = field_row_at word ts
body_at keyword.Skip ts = end_at ts >>= λ u. Some SkipRow
body_at keyword.Stop ts = stop_at ts
body_at (keyword.Report word) ts = report_at word ts
body_at keyword.Public ts = public_at ts
body_at keyword.Connect ts = connect_at ts
body_at keyword.Invalidate ts = invalidate_at ts
body_at keyword.Regreset ts = regreset_at ts

-- the keyword that the first token names
abbrev pub keyword_at : List Tok → Option (Keyword × List Tok)
keyword_at [] = None
keyword_at (Word w ∷ ts) = keyword_of w >>= λ k. Some (k, ts)
keyword_at (Number w ∷ ts) = None
keyword_at (Text w ∷ ts) = None
keyword_at (Symbol mark ∷ ts) = None

-- SINK <= SOURCE, or SINK is invalid
abbrev pub invalid_at : Reference → List Tok → Option Row
invalid_at sink ts = word_at (codes "is") ts >>= λ t. word_at (codes "invalid") t >>= λ u. end_at u >>= λ v. Some (InvalidRow sink)

-- after a sink: <= SOURCE, or is invalid
abbrev pub driven_at : Reference → List Tok → Option Row
driven_at sink ts = choose (symbol_at Connect ts) (λ t. last_expression_at t >>= λ e. Some (ConnectRow sink e)) (invalid_at sink ts)

-- SINK <= SOURCE, or SINK is invalid, up to the end
abbrev pub connection_at : List Tok → Option Row
connection_at ts = reference_at ts >>= λ r. driven_at r.0 r.1

-- the two tokens after the next are `is invalid`
abbrev pub is_invalid : List Tok → Bool
is_invalid [] = false
is_invalid (t ∷ ts) = is_some (word_at (codes "is") ts >>= λ u. word_at (codes "invalid") u)

-- the line is a connection, so that its first word is a name, even if a statement may begin with that word
abbrev pub is_connection : List Tok → Bool
is_connection ts = (is_second Connect ts || is_second Dot ts) || is_invalid ts

-- the row that the tokens of a line spell
abbrev pub row_at : List Tok → Option Row
row_at ts = if is_connection ts then connection_at ts else (keyword_at ts >>= λ k. body_at k.0 k.1)
