-- A row that the tokens of a line spell is read.
use Rattle.std.proofs.Common.{◌≡◌, ℕ, zero, suc, ◌<◌, ◌≤◌, List, [], ◌∷◌, ◌++◌, length, Bool, true, false, Option, None, Some, inl, inr, refl, ap, ◌∙◌, arith, append_assoc}
use Rattle.std.specs.Prelude.{if◌then◌else◌, codes, is_some}
use Rattle.std.specs.Str.{bytes_eq}
use Rattle.gg_lex.specs.declared.token.Tok.{Tok}
use Rattle.gg_lex.specs.declared.token.Tok.TheVariants.{Word, Number, Symbol}
use Rattle.gg_lex.specs.declared.token.Symbol.TheVariants.{Connect, Arrow, Colon, Comma, Dot, OpenParen, CloseParen, Equals}
use Rattle.gg_ast.specs.declared.expression.Reference.{Reference}
use Rattle.gg_ast.specs.declared.expression.Reference.TheVariants as reference
use Rattle.gg_ast.specs.declared.module.GroundType.{GroundType}
use Rattle.gg_ast.specs.declared.statement.Report.{Report}
use Rattle.gg_ast.specs.Row.{Row, VersionRow, CircuitRow, ModuleRow, PortRow, WireRow, NodeRow, RegisterRow, RegisterResetRow, RegisterOpenRow, ResetRow, InstanceRow, MemoryRow, FieldRow, ConnectRow, InvalidRow, SkipRow, StopRow, ReportRow}
use Rattle.gg_ast.specs.Term.{Term, NamedTerm, ConstantTerm, UnaryTerm, BinaryTerm, FixedTerm, MuxTerm}
use Rattle.gg_ast.specs.declared.statement.Argument.{Argument}
use Rattle.gg_ast.specs.declared.statement.Argument.TheVariants as given
use Rattle.gg_ast.specs.declared.words.Keyword.{Keyword}
use Rattle.gg_ast.specs.declared.words.Keyword.TheVariants as keyword
use Rattle.gg_ast.specs.Words.{direction_text}
use Rattle.gg_ast.specs.Names.{IsName}
use Rattle.gg_read_row.specs.Forms.{IsNatural, SpellsReference, SpellsType, SpellsExpr, SpellsReset, SpellsLabel, SpellsArgument, SpellsArguments, SpellsRegister, SpellsRegreset, SpellsConnect, SpellsInvalidate, SpellsRow}
use Rattle.gg_read_row.specs.inside.Reading.{◌>>=◌, choose, symbol_at, word_at, name_at, natural_at, end_at, type_at, reference_at, one_parameter_at, text_at, expression_at, last_expression_at, version_at, header_at, declared_at, last_declared_at, node_at, reset_at, clocked_at, public_at, last_pair_at, instance_at, label_at, stop_at, argument_at, arguments_at, report_at, field_at, body_at, keyword_at, driven_at, connection_at, is_invalid, is_connection, row_at}
use Rattle.gg_read_row.proofs.FieldLaws.{word_of, field-read}
use Rattle.gg_read_row.proofs.Leaves.{goes_on, not_chosen, name_at-here, natural_at-here}
use Rattle.gg_read_row.proofs.WordLaws.{keyword_text, keyword_of-here}
use Rattle.gg_read_row.proofs.Expressions.{Ends, ends_end, ends_comma, ends_close, expr-read, expr-shorter, type-read, reference-read, one_parameter-read}

ends_word : (w : List ℕ) (rest : List Tok) → Ends (Word w ∷ rest)
ends_word w rest = record { no_dot = refl; no_open = refl; no_less = refl }

expression-read : (e : Term) (ts rest : List Tok) → SpellsExpr e ts rest → Ends rest → expression_at ts ≡ Some (e, rest)
expression-read e ts rest h ends = expr-read e ts rest (length ts) h ends (omega arith)

last-read : (e : Term) (ts : List Tok) → SpellsExpr e ts [] → last_expression_at ts ≡ Some e
last-read e ts h = goes_on (expression_at ts) (λ x. end_at x.1 >>= λ u. Some x.0) (e, []) (expression-read e ts [] h ends_end)

-- ---- connections

driven-by : (sink : Reference) (ts rest : List Tok) (row : Row) → is_connection ts ≡ true → symbol_at Dot rest ≡ None → SpellsReference sink ts rest → driven_at sink rest ≡ Some row → row_at ts ≡ Some row
driven-by sink ts rest row is ends h e =
    ap (λ b. if b then connection_at ts else (keyword_at ts >>= λ k. body_at k.0 k.1)) is
    ∙ goes_on (reference_at ts) (λ r. driven_at r.0 r.1) (sink, rest) (reference-read sink ts rest ends h) ∙ e

connects : (sink : Reference) (ts t : List Tok) → SpellsReference sink ts (Symbol Connect ∷ t) → is_connection ts ≡ true
connects (reference.Local a) ts t h = rw h.1 refl
connects (reference.PortOf a b) ts t h = rw h.2 refl
connects (reference.FieldOf a b c) ts t h = rw h.3 refl

is_undriven : (sink : Reference) (ts : List Tok) → SpellsReference sink ts (Word (codes "is") ∷ (Word (codes "invalid") ∷ [])) → is_connection ts ≡ true
is_undriven (reference.Local a) ts h = rw h.1 refl
is_undriven (reference.PortOf a b) ts h = rw h.2 refl
is_undriven (reference.FieldOf a b c) ts h = rw h.3 refl

connect-read : (sink : Reference) (e : Term) (ts t : List Tok) → SpellsReference sink ts (Symbol Connect ∷ t) → SpellsExpr e t [] → row_at ts ≡ Some (ConnectRow sink e)
connect-read sink e ts t h i =
    driven-by sink ts (Symbol Connect ∷ t) (ConnectRow sink e) (connects sink ts t h) refl h (goes_on (last_expression_at t) (λ x. Some (ConnectRow sink x)) e (last-read e t i))

-- ---- lines with a keyword

-- the tokens after the first one are not `is invalid` if the second of them isn't `invalid`
not_invalid : (t : Tok) (n : List ℕ) (rest : List Tok) → word_at (codes "invalid") rest ≡ None → is_invalid (t ∷ (Word n ∷ rest)) ≡ false
not_invalid t n rest e = by (bytes_eq n (codes "is"))
  where
    by : (b : Bool) → is_some ((if b then Some rest else None) >>= λ u. word_at (codes "invalid") u) ≡ false
    by true = ap (λ o. is_some o) e
    by false = refl

keyword-read : (k : Keyword) (t : List Tok) (row : Row) → is_connection (Word (keyword_text k) ∷ t) ≡ false → body_at k t ≡ Some row → row_at (Word (keyword_text k) ∷ t) ≡ Some row
keyword-read k t row other e =
    let tagged : Keyword → Option (Keyword × List Tok) = λ k. Some (k, t) in
    let next : (Keyword × List Tok) → Option Row = λ k. body_at k.0 k.1 in
    ap (λ b. if b then connection_at (Word (keyword_text k) ∷ t) else (keyword_at (Word (keyword_text k) ∷ t) >>= next)) other
    ∙ ap (λ (o : Option Keyword). (o >>= tagged) >>= next) (keyword_of-here k) ∙ e

named : (w n : List ℕ) (rest : List Tok) → word_at (codes "invalid") rest ≡ None → is_connection (Word w ∷ (Word n ∷ rest)) ≡ false
named w n rest e = not_invalid (Word w) n rest e

declared-read : (name : List ℕ) (ty : GroundType) (t rest : List Tok) → IsName name → SpellsType ty t rest → declared_at (Word name ∷ (Symbol Colon ∷ t)) ≡ Some ((name, ty), rest)
declared-read name ty t rest n h =
    goes_on (name_at (Word name ∷ (Symbol Colon ∷ t))) (λ n. symbol_at Colon n.1 >>= λ t. type_at t >>= λ ty. Some ((n.0, ty.0), ty.1)) (name, Symbol Colon ∷ t) (name_at-here name _ n)
    ∙ goes_on (type_at t) (λ ty. Some ((name, ty.0), ty.1)) (ty, rest) (type-read ty t rest h)

last_declared-read : (name : List ℕ) (ty : GroundType) (t : List Tok) → IsName name → SpellsType ty t [] → last_declared_at (Word name ∷ (Symbol Colon ∷ t)) ≡ Some (name, ty)
last_declared-read name ty t n h =
    goes_on (declared_at (Word name ∷ (Symbol Colon ∷ t))) (λ d. end_at d.1 >>= λ u. Some d.0) ((name, ty), []) (declared-read name ty t [] n h)

header-read : (name : List ℕ) → IsName name → header_at (Word name ∷ (Symbol Colon ∷ [])) ≡ Some name
header-read name n = goes_on (name_at (Word name ∷ (Symbol Colon ∷ []))) (λ n. symbol_at Colon n.1 >>= λ t. end_at t >>= λ u. Some n.0) (name, Symbol Colon ∷ []) (name_at-here name _ n)

version-read : (x y z : List ℕ) (a b c : ℕ) → IsNatural x a → IsNatural y b → IsNatural z c → version_at (Word (codes "version") ∷ (Number x ∷ (Symbol Dot ∷ (Number y ∷ (Symbol Dot ∷ (Number z ∷ [])))))) ≡ Some (VersionRow a b c)
version-read x y z a b c p q r =
    goes_on (natural_at (Number x ∷ (Symbol Dot ∷ (Number y ∷ (Symbol Dot ∷ (Number z ∷ [])))))) (λ a. symbol_at Dot a.1 >>= λ u. natural_at u >>= λ b. symbol_at Dot b.1 >>= λ v. natural_at v >>= λ c. end_at c.1 >>= λ w. Some (VersionRow a.0 b.0 c.0)) (a, Symbol Dot ∷ (Number y ∷ (Symbol Dot ∷ (Number z ∷ [])))) (natural_at-here x a _ p)
    ∙ goes_on (natural_at (Number y ∷ (Symbol Dot ∷ (Number z ∷ [])))) (λ b. symbol_at Dot b.1 >>= λ v. natural_at v >>= λ c. end_at c.1 >>= λ w. Some (VersionRow a b.0 c.0)) (b, Symbol Dot ∷ (Number z ∷ [])) (natural_at-here y b _ q)
    ∙ goes_on (natural_at (Number z ∷ [])) (λ c. end_at c.1 >>= λ w. Some (VersionRow a b c.0)) (c, []) (natural_at-here z c _ r)

node-read : (name : List ℕ) (e : Term) (t : List Tok) → IsName name → SpellsExpr e t [] → node_at (Word name ∷ (Symbol Equals ∷ t)) ≡ Some (NodeRow name e)
node-read name e t n h =
    goes_on (name_at (Word name ∷ (Symbol Equals ∷ t))) (λ n. symbol_at Equals n.1 >>= λ t. last_expression_at t >>= λ e. Some (NodeRow n.0 e)) (name, Symbol Equals ∷ t) (name_at-here name _ n)
    ∙ goes_on (last_expression_at t) (λ e. Some (NodeRow name e)) e (last-read e t h)

-- a reset is read from what follows the word `reset`
reset-read : (c i : Term) (t u rest : List Tok) → SpellsExpr c t (Symbol Comma ∷ u) → SpellsExpr i u (Symbol CloseParen ∷ rest) → reset_at (Symbol Arrow ∷ (Symbol OpenParen ∷ t)) ≡ Some ((c, i), rest)
reset-read c i t u rest p q =
    goes_on (expression_at t) (λ c. symbol_at Comma c.1 >>= λ v. expression_at v >>= λ i. symbol_at CloseParen i.1 >>= λ w. Some ((c.0, i.0), w)) (c, Symbol Comma ∷ u) (expression-read c t _ p (ends_comma u))
    ∙ goes_on (expression_at u) (λ i. symbol_at CloseParen i.1 >>= λ w. Some ((c, i.0), w)) (i, Symbol CloseParen ∷ rest) (expression-read i u _ q (ends_close rest))

register-read : (name : List ℕ) (ty : GroundType) (clock : Term) (ts rest : List Tok) (row : Row) → Ends rest → SpellsRegister (codes "reg") name ty clock ts rest → clocked_at name ty clock rest ≡ Some row → row_at ts ≡ Some row
register-read name ty clock ts rest row ends h e =
    rw h.3 (keyword-read keyword.Register (Word name ∷ (Symbol Colon ∷ h.0)) row (named (codes "reg") name (Symbol Colon ∷ h.0) refl)
    (goes_on (declared_at (Word name ∷ (Symbol Colon ∷ h.0))) (λ d. symbol_at Comma d.1 >>= λ t. expression_at t >>= λ c. clocked_at d.0.0 d.0.1 c.0 c.1) ((name, ty), Symbol Comma ∷ h.1) (declared-read name ty h.0 (Symbol Comma ∷ h.1) h.2 h.4)
    ∙ goes_on (expression_at h.1) (λ c. clocked_at name ty c.0 c.1) (clock, rest) (expression-read clock h.1 rest h.5 ends) ∙ e))

inline-read : (name : List ℕ) (ty : GroundType) (clock c i : Term) (t : List Tok) → SpellsReset c i t (Symbol CloseParen ∷ []) → clocked_at name ty clock (Word (codes "with") ∷ (Symbol Colon ∷ (Symbol OpenParen ∷ t))) ≡ Some (RegisterResetRow name ty clock c i)
inline-read name ty clock c i t h =
    rw h.2 (goes_on (reset_at (Symbol Arrow ∷ (Symbol OpenParen ∷ h.0))) (λ r. symbol_at CloseParen r.1 >>= λ v. end_at v >>= λ w. Some (RegisterResetRow name ty clock r.0.0 r.0.1)) ((c, i), Symbol CloseParen ∷ []) (reset-read c i h.0 h.1 (Symbol CloseParen ∷ []) h.3 h.4))

reset_row-read : (c i : Term) (ts : List Tok) → SpellsReset c i ts [] → row_at ts ≡ Some (ResetRow c i)
reset_row-read c i ts h =
    rw h.2 (keyword-read keyword.Reset (Symbol Arrow ∷ (Symbol OpenParen ∷ h.0)) (ResetRow c i) refl
    (goes_on (reset_at (Symbol Arrow ∷ (Symbol OpenParen ∷ h.0))) (λ r. end_at r.1 >>= λ u. Some (ResetRow r.0.0 r.0.1)) ((c, i), []) (reset-read c i h.0 h.1 [] h.3 h.4)))

instance-read : (name m : List ℕ) → IsName name → IsName m → instance_at (Word name ∷ (Word (codes "of") ∷ (Word m ∷ []))) ≡ Some (InstanceRow name m)
instance-read name m p q =
    goes_on (name_at (Word name ∷ (Word (codes "of") ∷ (Word m ∷ [])))) (λ n. word_at (codes "of") n.1 >>= λ t. name_at t >>= λ m. end_at m.1 >>= λ u. Some (InstanceRow n.0 m.0)) (name, Word (codes "of") ∷ (Word m ∷ [])) (name_at-here name _ p)
    ∙ goes_on (name_at (Word m ∷ [])) (λ m. end_at m.1 >>= λ u. Some (InstanceRow name m.0)) (m, []) (name_at-here m _ q)

label-read : (label : Option (List ℕ)) (ts : List Tok) → SpellsLabel label ts → label_at ts ≡ Some label
label-read None ts h = rw h refl
label-read (Some name) ts h = rw h.1 (goes_on (name_at (Word name ∷ [])) (λ n. end_at n.1 >>= λ u. Some (Some n.0)) (name, []) (name_at-here name _ h.0))

stop-read : (c e : Term) (n : ℕ) (label : Option (List ℕ)) (t u v : List Tok) (digits : List ℕ) → SpellsExpr c t (Symbol Comma ∷ u) → SpellsExpr e u (Symbol Comma ∷ (Number digits ∷ (Symbol CloseParen ∷ v))) → IsNatural digits n → SpellsLabel label v → stop_at (Symbol OpenParen ∷ t) ≡ Some (StopRow c e n label)
stop-read c e n label t u v digits p q r s =
    goes_on (expression_at t) (λ c. symbol_at Comma c.1 >>= λ u. expression_at u >>= λ e. one_parameter_at e.1 >>= λ n. label_at n.1 >>= λ l. Some (StopRow c.0 e.0 n.0 l)) (c, Symbol Comma ∷ u) (expression-read c t _ p (ends_comma u))
    ∙ goes_on (expression_at u) (λ e. one_parameter_at e.1 >>= λ n. label_at n.1 >>= λ l. Some (StopRow c e.0 n.0 l)) (e, Symbol Comma ∷ (Number digits ∷ (Symbol CloseParen ∷ v))) (expression-read e u _ q (ends_comma _))
    ∙ goes_on (one_parameter_at (Symbol Comma ∷ (Number digits ∷ (Symbol CloseParen ∷ v)))) (λ n. label_at n.1 >>= λ l. Some (StopRow c e n.0 l)) (n, v) (one_parameter-read digits n v r)
    ∙ goes_on (label_at v) (λ l. Some (StopRow c e n l)) label (label-read label v s)

-- an expression doesn't begin with a text
first_word : (e : Term) (ts rest : List Tok) → SpellsExpr e ts rest → text_at ts ≡ None
first_word (NamedTerm (reference.Local a)) ts rest h = rw h.1 refl
first_word (NamedTerm (reference.PortOf a b)) ts rest h = rw h.2 refl
first_word (NamedTerm (reference.FieldOf a b c)) ts rest h = rw h.3 refl
first_word (ConstantTerm l) ts rest h = rw h.4 refl
first_word (UnaryTerm o a) ts rest h = rw h.1 refl
first_word (BinaryTerm o a b) ts rest h = rw h.2 refl
first_word (FixedTerm o a n m) ts rest h = rw h.2 refl
first_word (MuxTerm c a b) ts rest h = rw h.3 refl

argument-read : (a : Argument) (ts rest : List Tok) → Ends rest → SpellsArgument a ts rest → argument_at ts ≡ Some (a, rest)
argument-read (given.Text x) ts rest ends h = rw h refl
argument-read (given.Value e) ts rest ends h =
    let text : (List ℕ × List Tok) → Option (Argument × List Tok) = λ t. Some (given.Text t.0, t.1) in
    let other : Option (Argument × List Tok) = expression_at ts >>= λ e. Some (given.Value e.0, e.1) in
    not_chosen (text_at ts) text other (first_word e ts rest h)
    ∙ goes_on (expression_at ts) (λ e. Some (given.Value e.0, e.1)) (e, rest) (expression-read e ts rest h ends)

argument-shorter : (a : Argument) (ts rest : List Tok) → SpellsArgument a ts rest → length rest < length ts
argument-shorter (given.Text x) ts rest h = let e = ap length h in omega arith
argument-shorter (given.Value e) ts rest h = expr-shorter e ts rest h

-- the arguments, once the closing bracket was read
abbrev closed_with : List Argument → List Tok → Option (List Argument × List Tok)
closed_with args u = Some (args, u)

-- one turn, where an argument is spelt and the tokens after it are `left`
argument-turn : (n : ℕ) (before : List Argument) (a : Argument) (ts left : List Tok) → argument_at ts ≡ Some (a, left)
    → arguments_at (suc n) before ts ≡ choose (symbol_at Comma left) (λ t. arguments_at n (before ++ a ∷ []) t) (symbol_at CloseParen left >>= closed_with (before ++ a ∷ []))
argument-turn n before a ts left e =
    goes_on (argument_at ts) (λ a. choose (symbol_at Comma a.1) (λ t. arguments_at n (before ++ a.0 ∷ []) t) (symbol_at CloseParen a.1 >>= closed_with (before ++ a.0 ∷ []))) (a, left) e

arguments-read : (args : List Argument) (n : ℕ) (before : List Argument) (ts rest : List Tok) → SpellsArguments args ts rest → length ts ≤ n → arguments_at n before ts ≡ Some (before ++ args, rest)
arguments-read [] n before ts rest h size = absurd h
arguments-read (a ∷ []) zero before ts rest h size = absurd (omega (arith, argument-shorter a ts (Symbol CloseParen ∷ rest) h))
arguments-read (a ∷ []) (suc n) before ts rest h size = argument-turn n before a ts (Symbol CloseParen ∷ rest) (argument-read a ts _ (ends_close rest) h)
arguments-read (a ∷ (b ∷ more)) zero before ts rest h size = absurd (omega (arith, argument-shorter a ts (Symbol Comma ∷ h.0) h.1))
arguments-read (a ∷ (b ∷ more)) (suc n) before ts rest h size =
    let shorter = argument-shorter a ts (Symbol Comma ∷ h.0) h.1 in
    argument-turn n before a ts (Symbol Comma ∷ h.0) (argument-read a ts _ (ends_comma h.0) h.1)
    ∙ arguments-read (b ∷ more) n (before ++ a ∷ []) h.0 rest h.2 (omega arith)
    ∙ ap (λ (l : List Argument). Some (l, rest)) (append_assoc before (a ∷ []) (b ∷ more))

report-read : (word : Report) (args : List Argument) (label : Option (List ℕ)) (t u : List Tok) → SpellsArguments args t u → SpellsLabel label u → report_at word (Symbol OpenParen ∷ t) ≡ Some (ReportRow word args label)
report-read word args label t u p q =
    goes_on (arguments_at (length t) [] t) (λ a. label_at a.1 >>= λ l. Some (ReportRow word a.0 l)) (args, u) (arguments-read args (length t) [] t u p (omega arith))
    ∙ goes_on (label_at u) (λ l. Some (ReportRow word args l)) label (label-read label u q)

-- ---- the second spelling

-- a line whose second token begins a reference, and isn't followed by `invalid`, begins with no sink
no_sink : (w : List ℕ) (sink : Reference) (t rest : List Tok) → word_at (codes "invalid") rest ≡ None → SpellsReference sink t rest → is_connection (Word w ∷ t) ≡ false
no_sink w (reference.Local a) t rest e h = rw h.1 (named w a rest e)
no_sink w (reference.PortOf a b) t rest e h = rw h.2 (named w a _ refl)
no_sink w (reference.FieldOf a b c) t rest e h = rw h.3 (named w a _ refl)

public-read : (name : List ℕ) → IsName name → public_at (Word (codes "module") ∷ (Word name ∷ (Symbol Colon ∷ []))) ≡ Some (ModuleRow name)
public-read name n = goes_on (header_at (Word name ∷ (Symbol Colon ∷ []))) (λ n. Some (ModuleRow n)) name (header-read name n)

sink_and_source-read : (sink : Reference) (source : Term) (ts : List Tok) → SpellsConnect sink source ts → row_at ts ≡ Some (ConnectRow sink source)
sink_and_source-read sink source ts h =
    rw h.2 (keyword-read keyword.Connect h.0 (ConnectRow sink source) (no_sink (codes "connect") sink h.0 (Symbol Comma ∷ h.1) refl h.3)
    (goes_on (reference_at h.0) (λ r. symbol_at Comma r.1 >>= λ t. last_expression_at t >>= λ e. Some (ConnectRow r.0 e)) (sink, Symbol Comma ∷ h.1) (reference-read sink h.0 (Symbol Comma ∷ h.1) refl h.3)
    ∙ goes_on (last_expression_at h.1) (λ e. Some (ConnectRow sink e)) source (last-read source h.1 h.4)))

invalidate-read : (sink : Reference) (ts : List Tok) → SpellsInvalidate sink ts → row_at ts ≡ Some (InvalidRow sink)
invalidate-read sink ts h =
    rw h.1 (keyword-read keyword.Invalidate h.0 (InvalidRow sink) (no_sink (codes "invalidate") sink h.0 [] refl h.2)
    (goes_on (reference_at h.0) (λ r. end_at r.1 >>= λ u. Some (InvalidRow r.0)) (sink, []) (reference-read sink h.0 [] refl h.2)))

last_pair-read : (c i : Term) (t u : List Tok) → SpellsExpr c t (Symbol Comma ∷ u) → SpellsExpr i u [] → last_pair_at (Symbol Comma ∷ t) ≡ Some (c, i)
last_pair-read c i t u p q =
    goes_on (expression_at t) (λ c. symbol_at Comma c.1 >>= λ v. last_expression_at v >>= λ i. Some (c.0, i)) (c, Symbol Comma ∷ u) (expression-read c t _ p (ends_comma u))
    ∙ goes_on (last_expression_at u) (pair_with c) i (last-read i u q)
  where
    pair_with : Term → Term → Option (Term × Term)
    pair_with x y = Some (x, y)

regreset-read : (name : List ℕ) (ty : GroundType) (clock c i : Term) (ts : List Tok) → SpellsRegreset name ty clock c i ts → row_at ts ≡ Some (RegisterResetRow name ty clock c i)
regreset-read name ty clock c i ts h = from h.2
  where
    from : SpellsRegister (codes "regreset") name ty clock ts (Symbol Comma ∷ h.0) → row_at ts ≡ Some (RegisterResetRow name ty clock c i)
    from r =
        rw r.3 (keyword-read keyword.Regreset (Word name ∷ (Symbol Colon ∷ r.0)) (RegisterResetRow name ty clock c i) (named (codes "regreset") name (Symbol Colon ∷ r.0) refl)
        (goes_on (declared_at (Word name ∷ (Symbol Colon ∷ r.0))) (λ d. symbol_at Comma d.1 >>= λ t. expression_at t >>= λ x. last_pair_at x.1 >>= λ p. Some (RegisterResetRow d.0.0 d.0.1 x.0 p.0 p.1)) ((name, ty), Symbol Comma ∷ r.1) (declared-read name ty r.0 (Symbol Comma ∷ r.1) r.2 r.4)
        ∙ goes_on (expression_at r.1) (λ x. last_pair_at x.1 >>= λ p. Some (RegisterResetRow name ty x.0 p.0 p.1)) (clock, Symbol Comma ∷ h.0) (expression-read clock r.1 (Symbol Comma ∷ h.0) r.5 (ends_comma h.0))
        ∙ goes_on (last_pair_at (Symbol Comma ∷ h.0)) (λ p. Some (RegisterResetRow name ty clock p.0 p.1)) (c, i) (last_pair-read c i h.0 h.1 h.3 h.4)))

-- a row that is spelt is read
pub row-read : (row : Row) (ts : List Tok) → SpellsRow row ts → row_at ts ≡ Some row
row-read (VersionRow a b c) ts h = rw h.6 (keyword-read keyword.Version (Word (codes "version") ∷ (Number h.0 ∷ (Symbol Dot ∷ (Number h.1 ∷ (Symbol Dot ∷ (Number h.2 ∷ [])))))) (VersionRow a b c) refl (version-read h.0 h.1 h.2 a b c h.3 h.4 h.5))
row-read (CircuitRow name) ts h =
    rw h.1 (keyword-read keyword.Circuit (Word name ∷ (Symbol Colon ∷ [])) (CircuitRow name) (named (codes "circuit") name (Symbol Colon ∷ []) refl) (goes_on (header_at (Word name ∷ (Symbol Colon ∷ []))) (λ n. Some (CircuitRow n)) name (header-read name h.0)))
row-read (ModuleRow name) ts (n, inl is) =
    rw is (keyword-read keyword.Module (Word name ∷ (Symbol Colon ∷ [])) (ModuleRow name) (named (codes "module") name (Symbol Colon ∷ []) refl) (goes_on (header_at (Word name ∷ (Symbol Colon ∷ []))) (λ n. Some (ModuleRow n)) name (header-read name n)))
row-read (ModuleRow name) ts (n, inr is) =
    rw is (keyword-read keyword.Public (Word (codes "module") ∷ (Word name ∷ (Symbol Colon ∷ []))) (ModuleRow name) refl (public-read name n))
row-read (PortRow direction name ty) ts h =
    rw h.2 (keyword-read (keyword.Port direction) (Word name ∷ (Symbol Colon ∷ h.0)) (PortRow direction name ty) (named (direction_text direction) name (Symbol Colon ∷ h.0) refl)
    (goes_on (last_declared_at (Word name ∷ (Symbol Colon ∷ h.0))) (λ d. Some (PortRow direction d.0 d.1)) (name, ty) (last_declared-read name ty h.0 h.1 h.3)))
row-read (WireRow name ty) ts h =
    rw h.2 (keyword-read keyword.Wire (Word name ∷ (Symbol Colon ∷ h.0)) (WireRow name ty) (named (codes "wire") name (Symbol Colon ∷ h.0) refl)
    (goes_on (last_declared_at (Word name ∷ (Symbol Colon ∷ h.0))) (λ d. Some (WireRow d.0 d.1)) (name, ty) (last_declared-read name ty h.0 h.1 h.3)))
row-read (NodeRow name value) ts h =
    rw h.2 (keyword-read keyword.Node (Word name ∷ (Symbol Equals ∷ h.0)) (NodeRow name value) (named (codes "node") name (Symbol Equals ∷ h.0) refl) (node-read name value h.0 h.1 h.3))
row-read (RegisterRow name ty clock) ts h = register-read name ty clock ts [] (RegisterRow name ty clock) ends_end h refl
row-read (RegisterResetRow name ty clock condition init) ts (inr h) = regreset-read name ty clock condition init ts h
row-read (RegisterResetRow name ty clock condition init) ts (inl h) =
    register-read name ty clock ts _ (RegisterResetRow name ty clock condition init) (ends_word (codes "with") _) h.1 (inline-read name ty clock condition init h.0 h.2)
row-read (RegisterOpenRow name ty clock) ts h = register-read name ty clock ts _ (RegisterOpenRow name ty clock) (ends_word (codes "with") _) h refl
row-read (ResetRow condition init) ts h = reset_row-read condition init ts h
row-read (InstanceRow name m) ts h =
    rw h.2 (keyword-read keyword.Instance (Word name ∷ (Word (codes "of") ∷ (Word m ∷ []))) (InstanceRow name m) (named (codes "inst") name (Word (codes "of") ∷ (Word m ∷ [])) refl) (instance-read name m h.0 h.1))
row-read (MemoryRow name) ts h =
    rw h.1 (keyword-read keyword.Memory (Word name ∷ (Symbol Colon ∷ [])) (MemoryRow name) (named (codes "mem") name (Symbol Colon ∷ []) refl) (goes_on (header_at (Word name ∷ (Symbol Colon ∷ []))) (λ n. Some (MemoryRow n)) name (header-read name h.0)))
row-read (FieldRow f) ts h =
    let read = field-read f ts h in
    rw read.1 (keyword-read (keyword.Field (word_of f)) (Symbol Arrow ∷ read.0) (FieldRow f) refl (goes_on (field_at (word_of f) read.0) (λ x. Some (FieldRow x)) f read.2))
row-read (ConnectRow sink source) ts (inl h) = connect-read sink source ts h.0 h.1 h.2
row-read (ConnectRow sink source) ts (inr h) = sink_and_source-read sink source ts h
row-read (InvalidRow sink) ts (inr h) = invalidate-read sink ts h
row-read (InvalidRow sink) ts (inl h) = driven-by sink ts (Word (codes "is") ∷ (Word (codes "invalid") ∷ [])) (InvalidRow sink) (is_undriven sink ts h) refl h refl
row-read SkipRow ts h = rw h (keyword-read keyword.Skip [] SkipRow refl refl)
row-read (StopRow clock condition code label) ts h =
    rw h.4 (keyword-read keyword.Stop (Symbol OpenParen ∷ h.0) (StopRow clock condition code label) refl (stop-read clock condition code label h.0 h.1 h.3 h.2 h.5 h.6 h.7 h.8))
row-read (ReportRow word arguments label) ts h =
    rw h.2 (keyword-read (keyword.Report word) (Symbol OpenParen ∷ h.0) (ReportRow word arguments label) refl (report-read word arguments label h.0 h.1 h.3 h.4))
