-- The forms of a line: which tokens spell which row (FIRRTL Specification, "Grammar"). Each definition goes by cases on
-- what is spelt. If more may follow, the definition is on two lists: the tokens, and the rest after it.
use Rattle.std.specs.Prelude.{◌≡◌, ◌⊎◌, ℕ, ◌^◌, Bool, true, false, ◌&&◌, IsTrue, List, [], ◌∷◌, Option, None, Some, ◌==◌, nat_lt, ◌||◌, codes}
use Rattle.std.specs.List.{list_all}
use Rattle.std.specs.Char.{is_ascii_digit, is_ascii_hexdigit}
use Rattle.std.specs.Str.Parse.{digits_value}
use Rattle.gg_bits.specs.declared.ops.OpN.{OpN}
use Rattle.gg_bits.specs.declared.ops.OpN.TheVariants.{Pad, Shl, Shr, Bits, Head, Tail}
use Rattle.gg_lex.specs.declared.token.Tok.{Tok}
use Rattle.gg_lex.specs.declared.token.Tok.TheVariants.{Word, Number, Text, Symbol}
use Rattle.gg_lex.specs.declared.token.Symbol.TheVariants.{Connect, Arrow, Colon, Comma, Dot, OpenParen, CloseParen, Less, Greater, Equals}
use Rattle.gg_ast.specs.declared.expression.Literal.{Literal}
use Rattle.gg_ast.specs.declared.expression.Radix.{Radix}
use Rattle.gg_ast.specs.declared.expression.Radix.TheVariants.{Binary, Octal, Decimal, Hexadecimal}
use Rattle.gg_ast.specs.declared.expression.Reference.{Reference}
use Rattle.gg_ast.specs.declared.expression.Reference.TheVariants as reference
use Rattle.gg_ast.specs.declared.module.GroundType.{GroundType}
use Rattle.gg_ast.specs.declared.module.GroundType.TheVariants as plain_type
use Rattle.gg_ast.specs.Names.{IsName}
use Rattle.gg_ast.specs.Row.{Row, VersionRow, CircuitRow, ModuleRow, PortRow, WireRow, NodeRow, RegisterRow, RegisterResetRow, RegisterOpenRow, ResetRow, InstanceRow, MemoryRow, FieldRow, ConnectRow, InvalidRow, SkipRow, StopRow, ReportRow}
use Rattle.gg_ast.specs.Term.{Term, NamedTerm, ConstantTerm, UnaryTerm, BinaryTerm, FixedTerm, MuxTerm}
use Rattle.gg_ast.specs.declared.statement.Argument.{Argument}
use Rattle.gg_ast.specs.declared.statement.Argument.TheVariants as given
use Rattle.gg_ast.specs.declared.statement.MemoryField.{MemoryField}
use Rattle.gg_ast.specs.declared.statement.MemoryField.TheVariants as field
use Rattle.gg_bits.specs.Spelling.{text1, text2, text_const}
use Rattle.gg_ast.specs.Words.{kind_text, direction_text, report_text, read_under_write_text}

-- the digits of a radix, of either case
abbrev pub is_digit_of : Radix → ℕ → Bool
is_digit_of Binary b = b == 48 || b == 49
is_digit_of Octal b = nat_lt 47 b && nat_lt b 56
is_digit_of Decimal b = is_ascii_digit b
is_digit_of Hexadecimal b = is_ascii_hexdigit b

-- one or more digits of the radix, and nothing more
abbrev pub are_digits : Radix → List ℕ → Bool
are_digits radix [] = false
are_digits radix (d ∷ ds) = list_all (is_digit_of radix) (d ∷ ds)

-- decimal digits without a sign, of a number that is at most 4,294,967,295
abbrev pub is_natural : List ℕ → Bool
is_natural digits = are_digits Decimal digits && nat_lt (digits_value 10 digits) (2 ^ 32)

-- n is the natural number with these digits
pub record IsNatural (digits : List ℕ) (n : ℕ) : Type 0 where
  pub decimal : IsTrue (is_natural digits)
  pub value : digits_value 10 digits ≡ n

-- x, or x.y, or x.y.z
abbrev pub SpellsReference : Reference → List Tok → List Tok → Type 0
SpellsReference (reference.Local a) ts rest = IsName a × (ts ≡ Word a ∷ rest)
SpellsReference (reference.PortOf a b) ts rest = IsName a × IsName b × (ts ≡ Word a ∷ (Symbol Dot ∷ (Word b ∷ rest)))
SpellsReference (reference.FieldOf a b c) ts rest =
    IsName a × IsName b × IsName c × (ts ≡ Word a ∷ (Symbol Dot ∷ (Word b ∷ (Symbol Dot ∷ (Word c ∷ rest)))))

-- UInt<n>, SInt<n> or Clock
abbrev pub SpellsType : GroundType → List Tok → List Tok → Type 0
SpellsType (plain_type.UInt width) ts rest =
    (digits : List ℕ) × IsNatural digits width × (ts ≡ Word (codes "UInt") ∷ (Symbol Less ∷ (Number digits ∷ (Symbol Greater ∷ rest))))
SpellsType (plain_type.SInt width) ts rest =
    (digits : List ℕ) × IsNatural digits width × (ts ≡ Word (codes "SInt") ∷ (Symbol Less ∷ (Number digits ∷ (Symbol Greater ∷ rest))))
SpellsType plain_type.Clock ts rest = ts ≡ Word (codes "Clock") ∷ rest

-- digits, with or without a `-` before them
abbrev pub signed : Bool → List ℕ → List ℕ
signed true digits = 45 ∷ digits
signed false digits = digits

-- a literal's number without the letter of a radix before it, which is decimal, or as a text that begins with the letter
abbrev pub number_token : Radix → List ℕ → Tok
number_token Binary digits = Text (98 ∷ digits)
number_token Octal digits = Text (111 ∷ digits)
number_token Decimal digits = Number digits
number_token Hexadecimal digits = Text (104 ∷ digits)

-- the byte of a radix's letter: `b`, `o`, `d` or `h`
abbrev pub letter_of : Radix → ℕ
letter_of Binary = 98
letter_of Octal = 111
letter_of Decimal = 100
letter_of Hexadecimal = 104

-- a number with its radix: `0`, the letter of the radix, the digits; a `-` is before the `0` or before the digits
abbrev pub SpellsWithRadix : Radix → Bool → List ℕ → List ℕ → Type 0
SpellsWithRadix radix false digits bytes = bytes ≡ 48 ∷ letter_of radix ∷ digits
SpellsWithRadix radix true digits bytes = (bytes ≡ 45 ∷ 48 ∷ letter_of radix ∷ digits) ⊎ (bytes ≡ 48 ∷ letter_of radix ∷ 45 ∷ digits)

-- a literal's number, of digits of its radix
pub record SpellsNumber (radix : Radix) (negative : Bool) (digits : List ℕ) (token : Tok) : Type 0 where
  pub digits_are : IsTrue (are_digits radix digits)
  pub spelt : (token ≡ number_token radix (signed negative digits)) ⊎ ((bytes : List ℕ) × SpellsWithRadix radix negative digits bytes × (token ≡ Number bytes))

-- UInt<n>("h1f"), UInt<n>(0h1f), SInt<n>(-3) and the like
abbrev pub SpellsLiteral : Literal → List Tok → List Tok → Type 0
SpellsLiteral l ts rest =
    (width : List ℕ) × (number : Tok) × IsNatural width l.width × SpellsNumber l.radix l.negative l.digits number
    × (ts ≡ Word (kind_text l.kind) ∷ (Symbol Less ∷ (Number width ∷ (Symbol Greater ∷ (Symbol OpenParen ∷ (number ∷ (Symbol CloseParen ∷ rest)))))))

-- the parameters of an operation, and its closing bracket: two for `bits`, one for any other
abbrev pub SpellsParameters : OpN → ℕ → ℕ → List Tok → List Tok → Type 0
SpellsParameters Bits n m ts rest =
    (high : List ℕ) × (low : List ℕ) × IsNatural high n × IsNatural low m
    × (ts ≡ Symbol Comma ∷ (Number high ∷ (Symbol Comma ∷ (Number low ∷ (Symbol CloseParen ∷ rest)))))
SpellsParameters Pad n m ts rest = (digits : List ℕ) × IsNatural digits n × (m ≡ 0) × (ts ≡ Symbol Comma ∷ (Number digits ∷ (Symbol CloseParen ∷ rest)))
SpellsParameters Shl n m ts rest = (digits : List ℕ) × IsNatural digits n × (m ≡ 0) × (ts ≡ Symbol Comma ∷ (Number digits ∷ (Symbol CloseParen ∷ rest)))
SpellsParameters Shr n m ts rest = (digits : List ℕ) × IsNatural digits n × (m ≡ 0) × (ts ≡ Symbol Comma ∷ (Number digits ∷ (Symbol CloseParen ∷ rest)))
SpellsParameters Head n m ts rest = (digits : List ℕ) × IsNatural digits n × (m ≡ 0) × (ts ≡ Symbol Comma ∷ (Number digits ∷ (Symbol CloseParen ∷ rest)))
SpellsParameters Tail n m ts rest = (digits : List ℕ) × IsNatural digits n × (m ≡ 0) × (ts ≡ Symbol Comma ∷ (Number digits ∷ (Symbol CloseParen ∷ rest)))

-- an expression: a reference, a literal, or the word of an operation with its operands and parameters in brackets
abbrev pub SpellsExpr : Term → List Tok → List Tok → Type 0
SpellsExpr (NamedTerm r) ts rest = SpellsReference r ts rest
SpellsExpr (ConstantTerm l) ts rest = SpellsLiteral l ts rest
SpellsExpr (UnaryTerm o a) ts rest =
    (t : List Tok) × (ts ≡ Word (text1 o) ∷ (Symbol OpenParen ∷ t)) × SpellsExpr a t (Symbol CloseParen ∷ rest)
SpellsExpr (BinaryTerm o a b) ts rest =
    (t : List Tok) × (u : List Tok) × (ts ≡ Word (text2 o) ∷ (Symbol OpenParen ∷ t)) × SpellsExpr a t (Symbol Comma ∷ u) × SpellsExpr b u (Symbol CloseParen ∷ rest)
SpellsExpr (FixedTerm o a n m) ts rest =
    (t : List Tok) × (u : List Tok) × (ts ≡ Word (text_const o) ∷ (Symbol OpenParen ∷ t)) × SpellsExpr a t u × SpellsParameters o n m u rest
SpellsExpr (MuxTerm c a b) ts rest =
    (t : List Tok) × (u : List Tok) × (v : List Tok) × (ts ≡ Word (codes "mux") ∷ (Symbol OpenParen ∷ t))
    × SpellsExpr c t (Symbol Comma ∷ u) × SpellsExpr a u (Symbol Comma ∷ v) × SpellsExpr b v (Symbol CloseParen ∷ rest)

-- reset => ( CONDITION , INIT )
abbrev pub SpellsReset : Term → Term → List Tok → List Tok → Type 0
SpellsReset condition init ts rest =
    (t : List Tok) × (u : List Tok) × (ts ≡ Word (codes "reset") ∷ (Symbol Arrow ∷ (Symbol OpenParen ∷ t)))
    × SpellsExpr condition t (Symbol Comma ∷ u) × SpellsExpr init u (Symbol CloseParen ∷ rest)

-- nothing, or : NAME
abbrev pub SpellsLabel : Option (List ℕ) → List Tok → Type 0
SpellsLabel None ts = ts ≡ []
SpellsLabel (Some name) ts = IsName name × (ts ≡ Symbol Colon ∷ (Word name ∷ []))

-- an expression or a text
abbrev pub SpellsArgument : Argument → List Tok → List Tok → Type 0
SpellsArgument (given.Value e) ts rest = SpellsExpr e ts rest
SpellsArgument (given.Text text) ts rest = ts ≡ Text text ∷ rest

-- one or more arguments, commas between them, and the closing bracket
abbrev pub SpellsArguments : List Argument → List Tok → List Tok → Type 0
SpellsArguments [] ts rest = ⊥
SpellsArguments (a ∷ []) ts rest = SpellsArgument a ts (Symbol CloseParen ∷ rest)
SpellsArguments (a ∷ (b ∷ more)) ts rest = (t : List Tok) × SpellsArgument a ts (Symbol Comma ∷ t) × SpellsArguments (b ∷ more) t rest

-- NAME : TYPE , CLOCK after this word
abbrev pub SpellsRegister : List ℕ → List ℕ → GroundType → Term → List Tok → List Tok → Type 0
SpellsRegister word name ty clock ts rest =
    (t : List Tok) × (u : List Tok) × IsName name × (ts ≡ Word word ∷ (Word name ∷ (Symbol Colon ∷ t))) × SpellsType ty t (Symbol Comma ∷ u) × SpellsExpr clock u rest

-- reg NAME : TYPE , CLOCK with : ( reset => ( CONDITION , INIT ) )
abbrev pub SpellsRegisterWith : List ℕ → GroundType → Term → Term → Term → List Tok → Type 0
SpellsRegisterWith name ty clock condition init ts =
    (t : List Tok) × SpellsRegister (codes "reg") name ty clock ts (Word (codes "with") ∷ (Symbol Colon ∷ (Symbol OpenParen ∷ t)))
    × SpellsReset condition init t (Symbol CloseParen ∷ [])

-- regreset NAME : TYPE , CLOCK , CONDITION , INIT
abbrev pub SpellsRegreset : List ℕ → GroundType → Term → Term → Term → List Tok → Type 0
SpellsRegreset name ty clock condition init ts =
    (t : List Tok) × (u : List Tok) × SpellsRegister (codes "regreset") name ty clock ts (Symbol Comma ∷ t) × SpellsExpr condition t (Symbol Comma ∷ u) × SpellsExpr init u []

-- SINK <= SOURCE
abbrev pub SpellsConnection : Reference → Term → List Tok → Type 0
SpellsConnection sink source ts = (t : List Tok) × SpellsReference sink ts (Symbol Connect ∷ t) × SpellsExpr source t []

-- connect SINK , SOURCE
abbrev pub SpellsConnect : Reference → Term → List Tok → Type 0
SpellsConnect sink source ts =
    (t : List Tok) × (u : List Tok) × (ts ≡ Word (codes "connect") ∷ t) × SpellsReference sink t (Symbol Comma ∷ u) × SpellsExpr source u []

-- SINK is invalid
abbrev pub SpellsInvalid : Reference → List Tok → Type 0
SpellsInvalid sink ts = SpellsReference sink ts (Word (codes "is") ∷ (Word (codes "invalid") ∷ []))

-- invalidate SINK
abbrev pub SpellsInvalidate : Reference → List Tok → Type 0
SpellsInvalidate sink ts = (t : List Tok) × (ts ≡ Word (codes "invalidate") ∷ t) × SpellsReference sink t []

-- names up to the end
abbrev pub SpellsMoreNames : List (List ℕ) → List Tok → Type 0
SpellsMoreNames [] ts = ts ≡ []
SpellsMoreNames (n ∷ more) ts = (t : List Tok) × IsName n × (ts ≡ Word n ∷ t) × SpellsMoreNames more t

-- one or more names, up to the end
abbrev pub SpellsNames : List (List ℕ) → List Tok → Type 0
SpellsNames [] ts = ⊥
SpellsNames (n ∷ more) ts = SpellsMoreNames (n ∷ more) ts

-- a field of a memory: its word, `=>`, and what it says (FIRRTL Specification, "Memories")
abbrev pub SpellsField : MemoryField → List Tok → Type 0
SpellsField (field.DataType ty) ts = (t : List Tok) × (ts ≡ Word (codes "data-type") ∷ (Symbol Arrow ∷ t)) × SpellsType ty t []
SpellsField (field.Depth n) ts = (digits : List ℕ) × IsNatural digits n × (ts ≡ Word (codes "depth") ∷ (Symbol Arrow ∷ (Number digits ∷ [])))
SpellsField (field.ReadLatency n) ts =
    (digits : List ℕ) × IsNatural digits n × (ts ≡ Word (codes "read-latency") ∷ (Symbol Arrow ∷ (Number digits ∷ [])))
SpellsField (field.WriteLatency n) ts =
    (digits : List ℕ) × IsNatural digits n × (ts ≡ Word (codes "write-latency") ∷ (Symbol Arrow ∷ (Number digits ∷ [])))
SpellsField (field.Readers names) ts = (t : List Tok) × (ts ≡ Word (codes "reader") ∷ (Symbol Arrow ∷ t)) × SpellsNames names t
SpellsField (field.Writers names) ts = (t : List Tok) × (ts ≡ Word (codes "writer") ∷ (Symbol Arrow ∷ t)) × SpellsNames names t
SpellsField (field.ReadUnderWrite word) ts = ts ≡ Word (codes "read-under-write") ∷ (Symbol Arrow ∷ (Word (read_under_write_text word) ∷ []))

-- the tokens of a line spell the row
abbrev pub SpellsRow : Row → List Tok → Type 0
SpellsRow (VersionRow a b c) ts =
    (x : List ℕ) × (y : List ℕ) × (z : List ℕ) × IsNatural x a × IsNatural y b × IsNatural z c
    × (ts ≡ Word (codes "FIRRTL") ∷ (Word (codes "version") ∷ (Number x ∷ (Symbol Dot ∷ (Number y ∷ (Symbol Dot ∷ (Number z ∷ [])))))))
SpellsRow (CircuitRow name) ts = IsName name × (ts ≡ Word (codes "circuit") ∷ (Word name ∷ (Symbol Colon ∷ [])))
SpellsRow (ModuleRow name) ts =
    IsName name × ((ts ≡ Word (codes "module") ∷ (Word name ∷ (Symbol Colon ∷ []))) ⊎ (ts ≡ Word (codes "public") ∷ (Word (codes "module") ∷ (Word name ∷ (Symbol Colon ∷ [])))))
SpellsRow (PortRow direction name ty) ts =
    (t : List Tok) × IsName name × (ts ≡ Word (direction_text direction) ∷ (Word name ∷ (Symbol Colon ∷ t))) × SpellsType ty t []
SpellsRow (WireRow name ty) ts =
    (t : List Tok) × IsName name × (ts ≡ Word (codes "wire") ∷ (Word name ∷ (Symbol Colon ∷ t))) × SpellsType ty t []
SpellsRow (NodeRow name value) ts =
    (t : List Tok) × IsName name × (ts ≡ Word (codes "node") ∷ (Word name ∷ (Symbol Equals ∷ t))) × SpellsExpr value t []
SpellsRow (RegisterRow name ty clock) ts = SpellsRegister (codes "reg") name ty clock ts []
SpellsRow (RegisterResetRow name ty clock condition init) ts = SpellsRegisterWith name ty clock condition init ts ⊎ SpellsRegreset name ty clock condition init ts
SpellsRow (RegisterOpenRow name ty clock) ts = SpellsRegister (codes "reg") name ty clock ts (Word (codes "with") ∷ (Symbol Colon ∷ []))
SpellsRow (ResetRow condition init) ts = SpellsReset condition init ts []
SpellsRow (InstanceRow name m) ts =
    IsName name × IsName m × (ts ≡ Word (codes "inst") ∷ (Word name ∷ (Word (codes "of") ∷ (Word m ∷ []))))
SpellsRow (MemoryRow name) ts = IsName name × (ts ≡ Word (codes "mem") ∷ (Word name ∷ (Symbol Colon ∷ [])))
SpellsRow (FieldRow f) ts = SpellsField f ts
SpellsRow (ConnectRow sink source) ts = SpellsConnection sink source ts ⊎ SpellsConnect sink source ts
SpellsRow (InvalidRow sink) ts = SpellsInvalid sink ts ⊎ SpellsInvalidate sink ts
SpellsRow SkipRow ts = ts ≡ Word (codes "skip") ∷ []
SpellsRow (StopRow clock condition code label) ts =
    (t : List Tok) × (u : List Tok) × (digits : List ℕ) × (v : List Tok) × (ts ≡ Word (codes "stop") ∷ (Symbol OpenParen ∷ t))
    × SpellsExpr clock t (Symbol Comma ∷ u) × SpellsExpr condition u (Symbol Comma ∷ (Number digits ∷ (Symbol CloseParen ∷ v))) × IsNatural digits code × SpellsLabel label v
SpellsRow (ReportRow word arguments label) ts =
    (t : List Tok) × (u : List Tok) × (ts ≡ Word (report_text word) ∷ (Symbol OpenParen ∷ t)) × SpellsArguments arguments t u × SpellsLabel label u
