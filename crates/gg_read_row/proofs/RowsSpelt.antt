-- A row that is read is spelt so.
use Rattle.std.proofs.Common.{◌≡◌, ℕ, zero, suc, List, [], ◌∷◌, ◌++◌, length, Bool, true, false, Option, None, Some, inl, inr, refl, sym, ap, ◌∙◌, subst, append_assoc}
use Rattle.std.specs.Prelude.{if◌then◌else◌, codes}
use Rattle.std.proofs.lemmas.Option.{same_Some}
use Rattle.gg_lex.specs.declared.token.Tok.{Tok}
use Rattle.gg_lex.specs.declared.token.Tok.TheVariants.{Word, Number, Text, Symbol}
use Rattle.gg_lex.specs.declared.token.Symbol.TheVariants.{Connect, Arrow, Colon, Comma, Dot, OpenParen, CloseParen, Equals}
use Rattle.gg_ast.specs.declared.expression.Reference.{Reference}
use Rattle.gg_ast.specs.declared.module.GroundType.{GroundType}
use Rattle.gg_ast.specs.declared.statement.Report.{Report}
use Rattle.gg_ast.specs.Row.{Row, VersionRow, CircuitRow, ModuleRow, PortRow, WireRow, NodeRow, RegisterRow, RegisterResetRow, RegisterOpenRow, ResetRow, InstanceRow, MemoryRow, FieldRow, ConnectRow, InvalidRow, SkipRow, StopRow, ReportRow}
use Rattle.gg_ast.specs.Term.{Term}
use Rattle.gg_ast.specs.declared.statement.Argument.{Argument}
use Rattle.gg_ast.specs.declared.statement.Argument.TheVariants as given
use Rattle.gg_ast.specs.declared.words.FieldWord.{FieldWord}
use Rattle.gg_ast.specs.declared.words.Keyword.{Keyword}
use Rattle.gg_ast.specs.declared.words.Keyword.TheVariants as keyword
use Rattle.gg_ast.specs.Words.{direction_text, report_text}
use Rattle.gg_ast.specs.inside.Words.{field_text, keyword_of}
use Rattle.gg_ast.specs.Names.{IsName}
use Rattle.gg_read_row.specs.Forms.{SpellsReference, SpellsType, SpellsExpr, SpellsReset, SpellsLabel, SpellsArgument, SpellsArguments, SpellsRegister, SpellsRow}
use Rattle.gg_read_row.specs.inside.Reading.{◌>>=◌, choose, symbol_at, word_at, name_at, natural_at, end_at, type_at, reference_at, one_parameter_at, text_at, expression_at, last_expression_at, version_at, header_at, declared_at, last_declared_at, node_at, reset_at, reset_row_at, inline_reset_at, with_at, clocked_at, register_at, instance_at, public_at, connect_at, invalidate_at, last_pair_at, regreset_at, label_at, stop_at, argument_at, arguments_at, report_at, field_at, field_row_at, body_at, keyword_at, invalid_at, driven_at, connection_at, is_connection, row_at}
use Rattle.gg_read_row.proofs.Leaves.{bound, ended, chosen, not_chosen, symbol_at-spells, word_at-spells, name_at-spells, natural_at-spells, end_at-spells, text_at-spells}
use Rattle.gg_read_row.proofs.FieldLaws.{field-spells}
use Rattle.gg_read_row.proofs.WordLaws.{keyword_text, keyword_of-spells}
use Rattle.gg_read_row.proofs.ExpressionsSpelt.{reference-spells, type-spells, one_parameter-spells, expr-spells}

expression-spells : (ts rest : List Tok) (e : Term) → expression_at ts ≡ Some (e, rest) → SpellsExpr e ts rest
expression-spells ts rest e h = expr-spells (length ts) ts rest e h

last-spells : (ts : List Tok) (e : Term) → last_expression_at ts ≡ Some e → SpellsExpr e ts []
last-spells ts e h =
    let x = bound (expression_at ts) (λ e. end_at e.1 >>= λ u. Some e.0) e h in
    let stop = ended x.0.1 x.0.0 e x.2 in
    subst (λ r. SpellsExpr e ts r) stop.0 (subst (λ f. SpellsExpr f ts x.0.1) stop.1 (expression-spells ts x.0.1 x.0.0 x.1))

-- ---- connections

invalid-spells : (sink : Reference) (ts rest : List Tok) (row : Row) → SpellsReference sink ts rest → invalid_at sink rest ≡ Some row → SpellsRow row ts
invalid-spells sink ts rest row h e =
    let is = bound (word_at (codes "is") rest) (λ t. word_at (codes "invalid") t >>= λ u. end_at u >>= λ v. Some (InvalidRow sink)) row e in
    let invalid = bound (word_at (codes "invalid") is.0) (λ u. end_at u >>= λ v. Some (InvalidRow sink)) row is.2 in
    let stop = ended invalid.0 (InvalidRow sink) row invalid.2 in
    let tail : rest ≡ Word (codes "is") ∷ (Word (codes "invalid") ∷ []) =
    word_at-spells (codes "is") rest is.0 is.1 ∙ ap (λ l. Word (codes "is") ∷ l) (word_at-spells (codes "invalid") is.0 invalid.0 invalid.1 ∙ ap (λ l. Word (codes "invalid") ∷ l) stop.0) in
    subst (λ r. SpellsRow r ts) stop.1 (inl (subst (λ l. SpellsReference sink ts l) tail h))

driven-spells : (sink : Reference) (ts rest : List Tok) (row : Row) (o : Option (List Tok)) → symbol_at Connect rest ≡ o → SpellsReference sink ts rest → driven_at sink rest ≡ Some row → SpellsRow row ts
driven-spells sink ts rest row None c h e =
    let go : List Tok → Option Row = λ t. last_expression_at t >>= λ e. Some (ConnectRow sink e) in
    invalid-spells sink ts rest row h (sym (not_chosen (symbol_at Connect rest) go (invalid_at sink rest) c) ∙ e)
driven-spells sink ts rest row (Some t) c h e =
    let go : List Tok → Option Row = λ t. last_expression_at t >>= λ e. Some (ConnectRow sink e) in
    let x = bound (last_expression_at t) (λ e. Some (ConnectRow sink e)) row (sym (chosen (symbol_at Connect rest) go (invalid_at sink rest) t c) ∙ e) in
    subst (λ r. SpellsRow r ts) (same_Some (ConnectRow sink x.0) row x.2) (inl (t, subst (λ l. SpellsReference sink ts l) (symbol_at-spells Connect rest t c) h, last-spells t x.0 x.1))

connection-spells : (ts : List Tok) (row : Row) → connection_at ts ≡ Some row → SpellsRow row ts
connection-spells ts row e =
    let r = bound (reference_at ts) (λ r. driven_at r.0 r.1) row e in
    driven-spells r.0.0 ts r.0.1 row (symbol_at Connect r.0.1) refl (reference-spells ts r.0.1 r.0.0 r.1) r.2

-- ---- what follows a keyword

-- NAME : TYPE, and the rest
record SpellsDeclared (name : List ℕ) (ty : GroundType) (ts rest : List Tok) : Type 0 where
  named : IsName name
  t : List Tok
  tokens : ts ≡ Word name ∷ (Symbol Colon ∷ t)
  typed : SpellsType ty t rest

declared-spells : (ts rest : List Tok) (name : List ℕ) (ty : GroundType) → declared_at ts ≡ Some ((name, ty), rest) → SpellsDeclared name ty ts rest
declared-spells ts rest name ty h =
    let n = bound (name_at ts) (λ n. symbol_at Colon n.1 >>= λ t. type_at t >>= λ ty. Some ((n.0, ty.0), ty.1)) ((name, ty), rest) h in
    let c = bound (symbol_at Colon n.0.1) (λ t. type_at t >>= λ ty. Some ((n.0.0, ty.0), ty.1)) ((name, ty), rest) n.2 in
    let y = bound (type_at c.0) (λ ty. Some ((n.0.0, ty.0), ty.1)) ((name, ty), rest) c.2 in
    let word = name_at-spells ts n.0.0 n.0.1 n.1 in
    subst (λ (p : (List ℕ × GroundType) × List Tok). SpellsDeclared p.0.0 p.0.1 ts p.1) (same_Some ((n.0.0, y.0.0), y.0.1) ((name, ty), rest) y.2)
    (record { named = word.0; t = c.0; tokens = word.1 ∙ ap (λ l. Word n.0.0 ∷ l) (symbol_at-spells Colon n.0.1 c.0 c.1); typed = type-spells c.0 y.0.1 y.0.0 y.1 })

last_declared-spells : (ts : List Tok) (d : List ℕ × GroundType) → last_declared_at ts ≡ Some d → SpellsDeclared d.0 d.1 ts []
last_declared-spells ts d h =
    let x = bound (declared_at ts) (λ d. end_at d.1 >>= λ u. Some d.0) d h in
    let stop = ended x.0.1 x.0.0 d x.2 in
    subst (λ r. SpellsDeclared d.0 d.1 ts r) stop.0 (subst (λ (p : List ℕ × GroundType). SpellsDeclared p.0 p.1 ts x.0.1) stop.1 (declared-spells ts x.0.1 x.0.0.0 x.0.0.1 x.1))

header-spells : (ts : List Tok) (name : List ℕ) → header_at ts ≡ Some name → IsName name × (ts ≡ Word name ∷ (Symbol Colon ∷ []))
header-spells ts name h =
    let n = bound (name_at ts) (λ n. symbol_at Colon n.1 >>= λ t. end_at t >>= λ u. Some n.0) name h in
    let c = bound (symbol_at Colon n.0.1) (λ t. end_at t >>= λ u. Some n.0.0) name n.2 in
    let stop = ended c.0 n.0.0 name c.2 in
    let word = name_at-spells ts n.0.0 n.0.1 n.1 in
    (subst IsName stop.1 word.0, word.1 ∙ ap (λ l. Word n.0.0 ∷ l) (symbol_at-spells Colon n.0.1 c.0 c.1 ∙ ap (λ l. Symbol Colon ∷ l) stop.0) ∙ ap (λ x. Word x ∷ (Symbol Colon ∷ [])) stop.1)

version-spells : (ts : List Tok) (row : Row) → version_at ts ≡ Some row → SpellsRow row (Word (codes "FIRRTL") ∷ ts)
version-spells ts row h =
    let w = bound (word_at (codes "version") ts) (λ t. natural_at t >>= λ a. symbol_at Dot a.1 >>= λ u. natural_at u >>= λ b. symbol_at Dot b.1 >>= λ v. natural_at v >>= λ c. end_at c.1 >>= λ w. Some (VersionRow a.0 b.0 c.0)) row h in
    let a = bound (natural_at w.0) (λ a. symbol_at Dot a.1 >>= λ u. natural_at u >>= λ b. symbol_at Dot b.1 >>= λ v. natural_at v >>= λ c. end_at c.1 >>= λ w. Some (VersionRow a.0 b.0 c.0)) row w.2 in
    let d = bound (symbol_at Dot a.0.1) (λ u. natural_at u >>= λ b. symbol_at Dot b.1 >>= λ v. natural_at v >>= λ c. end_at c.1 >>= λ w. Some (VersionRow a.0.0 b.0 c.0)) row a.2 in
    let b = bound (natural_at d.0) (λ b. symbol_at Dot b.1 >>= λ v. natural_at v >>= λ c. end_at c.1 >>= λ w. Some (VersionRow a.0.0 b.0 c.0)) row d.2 in
    let f = bound (symbol_at Dot b.0.1) (λ v. natural_at v >>= λ c. end_at c.1 >>= λ w. Some (VersionRow a.0.0 b.0.0 c.0)) row b.2 in
    let c = bound (natural_at f.0) (λ c. end_at c.1 >>= λ w. Some (VersionRow a.0.0 b.0.0 c.0)) row f.2 in
    let stop = ended c.0.1 (VersionRow a.0.0 b.0.0 c.0.0) row c.2 in
    let x = natural_at-spells w.0 a.0.0 a.0.1 a.1 in
    let y = natural_at-spells d.0 b.0.0 b.0.1 b.1 in
    let z = natural_at-spells f.0 c.0.0 c.0.1 c.1 in
    let third : f.0 ≡ Number z.0 ∷ [] = z.2 ∙ ap (λ l. Number z.0 ∷ l) stop.0 in
    let second : d.0 ≡ Number y.0 ∷ (Symbol Dot ∷ (Number z.0 ∷ [])) = y.2 ∙ ap (λ l. Number y.0 ∷ l) (symbol_at-spells Dot b.0.1 f.0 f.1 ∙ ap (λ l. Symbol Dot ∷ l) third) in
    let first : w.0 ≡ Number x.0 ∷ (Symbol Dot ∷ (Number y.0 ∷ (Symbol Dot ∷ (Number z.0 ∷ [])))) = x.2 ∙ ap (λ l. Number x.0 ∷ l) (symbol_at-spells Dot a.0.1 d.0 d.1 ∙ ap (λ l. Symbol Dot ∷ l) second) in
    subst (λ r. SpellsRow r (Word (codes "FIRRTL") ∷ ts)) stop.1 (x.0, y.0, z.0, x.1, y.1, z.1, ap (λ l. Word (codes "FIRRTL") ∷ l) (word_at-spells (codes "version") ts w.0 w.1 ∙ ap (λ l. Word (codes "version") ∷ l) first))

node-spells : (ts : List Tok) (row : Row) → node_at ts ≡ Some row → SpellsRow row (Word (codes "node") ∷ ts)
node-spells ts row h =
    let n = bound (name_at ts) (λ n. symbol_at Equals n.1 >>= λ t. last_expression_at t >>= λ e. Some (NodeRow n.0 e)) row h in
    let q = bound (symbol_at Equals n.0.1) (λ t. last_expression_at t >>= λ e. Some (NodeRow n.0.0 e)) row n.2 in
    let e = bound (last_expression_at q.0) (λ e. Some (NodeRow n.0.0 e)) row q.2 in
    let word = name_at-spells ts n.0.0 n.0.1 n.1 in
    subst (λ r. SpellsRow r (Word (codes "node") ∷ ts)) (same_Some (NodeRow n.0.0 e.0) row e.2)
    (q.0, word.0, ap (λ l. Word (codes "node") ∷ l) (word.1 ∙ ap (λ l. Word n.0.0 ∷ l) (symbol_at-spells Equals n.0.1 q.0 q.1)), last-spells q.0 e.0 e.1)

-- a reset that is read after the word `reset` is spelt so
reset-spells : (ts rest : List Tok) (c i : Term) → reset_at ts ≡ Some ((c, i), rest) → SpellsReset c i (Word (codes "reset") ∷ ts) rest
reset-spells ts rest c i h =
    let a = bound (symbol_at Arrow ts) (λ t. symbol_at OpenParen t >>= λ u. expression_at u >>= λ c. symbol_at Comma c.1 >>= λ v. expression_at v >>= λ i. symbol_at CloseParen i.1 >>= λ w. Some ((c.0, i.0), w)) ((c, i), rest) h in
    let o = bound (symbol_at OpenParen a.0) (λ u. expression_at u >>= λ c. symbol_at Comma c.1 >>= λ v. expression_at v >>= λ i. symbol_at CloseParen i.1 >>= λ w. Some ((c.0, i.0), w)) ((c, i), rest) a.2 in
    let x = bound (expression_at o.0) (λ c. symbol_at Comma c.1 >>= λ v. expression_at v >>= λ i. symbol_at CloseParen i.1 >>= λ w. Some ((c.0, i.0), w)) ((c, i), rest) o.2 in
    let m = bound (symbol_at Comma x.0.1) (λ v. expression_at v >>= λ i. symbol_at CloseParen i.1 >>= λ w. Some ((x.0.0, i.0), w)) ((c, i), rest) x.2 in
    let y = bound (expression_at m.0) (λ i. symbol_at CloseParen i.1 >>= λ w. Some ((x.0.0, i.0), w)) ((c, i), rest) m.2 in
    let z = bound (symbol_at CloseParen y.0.1) (λ w. Some ((x.0.0, y.0.0), w)) ((c, i), rest) y.2 in
    subst (λ (p : (Term × Term) × List Tok). SpellsReset p.0.0 p.0.1 (Word (codes "reset") ∷ ts) p.1) (same_Some ((x.0.0, y.0.0), z.0) ((c, i), rest) z.2) (
      o.0,
      m.0,
      ap (λ l. Word (codes "reset") ∷ l) (symbol_at-spells Arrow ts a.0 a.1 ∙ ap (λ l. Symbol Arrow ∷ l) (symbol_at-spells OpenParen a.0 o.0 o.1)),
      subst (λ l. SpellsExpr x.0.0 o.0 l) (symbol_at-spells Comma x.0.1 m.0 m.1) (expression-spells o.0 x.0.1 x.0.0 x.1),
      subst (λ l. SpellsExpr y.0.0 m.0 l) (symbol_at-spells CloseParen y.0.1 z.0 z.1) (expression-spells m.0 y.0.1 y.0.0 y.1),
    )

reset_row-spells : (ts : List Tok) (row : Row) → reset_row_at ts ≡ Some row → SpellsRow row (Word (codes "reset") ∷ ts)
reset_row-spells ts row h =
    let r = bound (reset_at ts) (λ r. end_at r.1 >>= λ u. Some (ResetRow r.0.0 r.0.1)) row h in
    let stop = ended r.0.1 (ResetRow r.0.0.0 r.0.0.1) row r.2 in
    subst (λ x. SpellsRow x (Word (codes "reset") ∷ ts)) stop.1 (subst (λ l. SpellsReset r.0.0.0 r.0.0.1 (Word (codes "reset") ∷ ts) l) stop.0 (reset-spells ts r.0.1 r.0.0.0 r.0.0.1 r.1))

-- what follows the clock of a register, if the tokens in `all` before it spell the register
module _ (name : List ℕ) (ty : GroundType) (clock : Term) (all : List Tok) where
  inline-spells : (ts u t : List Tok) (row : Row) → SpellsRegister (codes "reg") name ty clock all ts → ts ≡ Word (codes "with") ∷ u → u ≡ Symbol Colon ∷ t → inline_reset_at name ty clock t ≡ Some row → SpellsRow row all
  inline-spells ts u t row h with_ colon e =
      let o = bound (symbol_at OpenParen t) (λ t. word_at (codes "reset") t >>= λ u. reset_at u >>= λ r. symbol_at CloseParen r.1 >>= λ v. end_at v >>= λ w. Some (RegisterResetRow name ty clock r.0.0 r.0.1)) row e in
      let w = bound (word_at (codes "reset") o.0) (λ u. reset_at u >>= λ r. symbol_at CloseParen r.1 >>= λ v. end_at v >>= λ w. Some (RegisterResetRow name ty clock r.0.0 r.0.1)) row o.2 in
      let r = bound (reset_at w.0) (λ r. symbol_at CloseParen r.1 >>= λ v. end_at v >>= λ w. Some (RegisterResetRow name ty clock r.0.0 r.0.1)) row w.2 in
      let c = bound (symbol_at CloseParen r.0.1) (λ v. end_at v >>= λ w. Some (RegisterResetRow name ty clock r.0.0.0 r.0.0.1)) row r.2 in
      let stop = ended c.0 (RegisterResetRow name ty clock r.0.0.0 r.0.0.1) row c.2 in
      let tail : ts ≡ Word (codes "with") ∷ (Symbol Colon ∷ (Symbol OpenParen ∷ o.0)) = with_ ∙ ap (λ l. Word (codes "with") ∷ l) (colon ∙ ap (λ l. Symbol Colon ∷ l) (symbol_at-spells OpenParen t o.0 o.1)) in
      let inner : SpellsReset r.0.0.0 r.0.0.1 o.0 r.0.1 = subst (λ l. SpellsReset r.0.0.0 r.0.0.1 l r.0.1) (sym (word_at-spells (codes "reset") o.0 w.0 w.1)) (reset-spells w.0 r.0.1 r.0.0.0 r.0.0.1 r.1) in
      let closed : r.0.1 ≡ Symbol CloseParen ∷ [] = symbol_at-spells CloseParen r.0.1 c.0 c.1 ∙ ap (λ l. Symbol CloseParen ∷ l) stop.0 in
      subst (λ x. SpellsRow x all) stop.1 (inl (o.0, subst (λ l. SpellsRegister (codes "reg") name ty clock all l) tail h, subst (λ l. SpellsReset r.0.0.0 r.0.0.1 o.0 l) closed inner))

  with-by : (ts u t : List Tok) (row : Row) (o : Option (List Tok)) → end_at t ≡ o → SpellsRegister (codes "reg") name ty clock all ts → ts ≡ Word (codes "with") ∷ u → u ≡ Symbol Colon ∷ t → choose (end_at t) (λ v. Some (RegisterOpenRow name ty clock)) (inline_reset_at name ty clock t) ≡ Some row → SpellsRow row all
  with-by ts u t row None x h with_ colon e =
      inline-spells ts u t row h with_ colon (sym (not_chosen (end_at t) (λ v. Some (RegisterOpenRow name ty clock)) (inline_reset_at name ty clock t) x) ∙ e)
  with-by ts u t row (Some v) x h with_ colon e =
      let same = same_Some (RegisterOpenRow name ty clock) row (sym (chosen (end_at t) (λ v. Some (RegisterOpenRow name ty clock)) (inline_reset_at name ty clock t) v x) ∙ e) in
      let tail : ts ≡ Word (codes "with") ∷ (Symbol Colon ∷ []) = with_ ∙ ap (λ l. Word (codes "with") ∷ l) (colon ∙ ap (λ l. Symbol Colon ∷ l) (end_at-spells t v x)) in
      subst (λ r. SpellsRow r all) same (subst (λ l. SpellsRegister (codes "reg") name ty clock all l) tail h)

  with-spells : (ts : List Tok) (row : Row) → SpellsRegister (codes "reg") name ty clock all ts → with_at name ty clock ts ≡ Some row → SpellsRow row all
  with-spells ts row h e =
      let w = bound (word_at (codes "with") ts) (λ t. symbol_at Colon t >>= λ u. choose (end_at u) (λ v. Some (RegisterOpenRow name ty clock)) (inline_reset_at name ty clock u)) row e in
      let c = bound (symbol_at Colon w.0) (λ u. choose (end_at u) (λ v. Some (RegisterOpenRow name ty clock)) (inline_reset_at name ty clock u)) row w.2 in
      with-by ts w.0 c.0 row (end_at c.0) refl h (word_at-spells (codes "with") ts w.0 w.1) (symbol_at-spells Colon w.0 c.0 c.1) c.2

  clocked-spells : (ts : List Tok) (row : Row) (o : Option (List Tok)) → end_at ts ≡ o → SpellsRegister (codes "reg") name ty clock all ts → clocked_at name ty clock ts ≡ Some row → SpellsRow row all
  clocked-spells ts row None x h e = with-spells ts row h (sym (not_chosen (end_at ts) (λ u. Some (RegisterRow name ty clock)) (with_at name ty clock ts) x) ∙ e)
  clocked-spells ts row (Some v) x h e =
      let same = same_Some (RegisterRow name ty clock) row (sym (chosen (end_at ts) (λ u. Some (RegisterRow name ty clock)) (with_at name ty clock ts) v x) ∙ e) in
      subst (λ r. SpellsRow r all) same (subst (λ l. SpellsRegister (codes "reg") name ty clock all l) (end_at-spells ts v x) h)

register-spells : (ts : List Tok) (row : Row) → register_at ts ≡ Some row → SpellsRow row (Word (codes "reg") ∷ ts)
register-spells ts row h =
    let d = bound (declared_at ts) (λ d. symbol_at Comma d.1 >>= λ t. expression_at t >>= λ c. clocked_at d.0.0 d.0.1 c.0 c.1) row h in
    let m = bound (symbol_at Comma d.0.1) (λ t. expression_at t >>= λ c. clocked_at d.0.0.0 d.0.0.1 c.0 c.1) row d.2 in
    let c = bound (expression_at m.0) (λ c. clocked_at d.0.0.0 d.0.0.1 c.0 c.1) row m.2 in
    let known = declared-spells ts d.0.1 d.0.0.0 d.0.0.1 d.1 in
    let register : SpellsRegister (codes "reg") d.0.0.0 d.0.0.1 c.0.0 (Word (codes "reg") ∷ ts) c.0.1 =
    (known.t, m.0, known.named, ap (λ l. Word (codes "reg") ∷ l) known.tokens, subst (λ l. SpellsType d.0.0.1 known.t l) (symbol_at-spells Comma d.0.1 m.0 m.1) known.typed, expression-spells m.0 c.0.1 c.0.0 c.1) in
    clocked-spells d.0.0.0 d.0.0.1 c.0.0 (Word (codes "reg") ∷ ts) c.0.1 row (end_at c.0.1) refl register c.2

instance-spells : (ts : List Tok) (row : Row) → instance_at ts ≡ Some row → SpellsRow row (Word (codes "inst") ∷ ts)
instance-spells ts row h =
    let n = bound (name_at ts) (λ n. word_at (codes "of") n.1 >>= λ t. name_at t >>= λ m. end_at m.1 >>= λ u. Some (InstanceRow n.0 m.0)) row h in
    let o = bound (word_at (codes "of") n.0.1) (λ t. name_at t >>= λ m. end_at m.1 >>= λ u. Some (InstanceRow n.0.0 m.0)) row n.2 in
    let m = bound (name_at o.0) (λ m. end_at m.1 >>= λ u. Some (InstanceRow n.0.0 m.0)) row o.2 in
    let stop = ended m.0.1 (InstanceRow n.0.0 m.0.0) row m.2 in
    let word = name_at-spells ts n.0.0 n.0.1 n.1 in
    let other = name_at-spells o.0 m.0.0 m.0.1 m.1 in
    subst (λ r. SpellsRow r (Word (codes "inst") ∷ ts)) stop.1
    (word.0, other.0, ap (λ l. Word (codes "inst") ∷ l) (word.1 ∙ ap (λ l. Word n.0.0 ∷ l) (word_at-spells (codes "of") n.0.1 o.0 o.1 ∙ ap (λ l. Word (codes "of") ∷ l) (other.1 ∙ ap (λ l. Word m.0.0 ∷ l) stop.0))))

label-by : (ts : List Tok) (label : Option (List ℕ)) (o : Option (List Tok)) → end_at ts ≡ o → label_at ts ≡ Some label → SpellsLabel label ts
label-by ts label (Some v) x e =
    let other : Option (Option (List ℕ)) = symbol_at Colon ts >>= λ t. name_at t >>= λ n. end_at n.1 >>= λ u. Some (Some n.0) in
    let none : List Tok → Option (Option (List ℕ)) = λ u. Some None in
    subst (λ l. SpellsLabel l ts) (same_Some None label (sym (chosen (end_at ts) none other v x) ∙ e)) (end_at-spells ts v x)
label-by ts label None x e =
    let other : Option (Option (List ℕ)) = symbol_at Colon ts >>= λ t. name_at t >>= λ n. end_at n.1 >>= λ u. Some (Some n.0) in
    let none : List Tok → Option (Option (List ℕ)) = λ u. Some None in
    let c = bound (symbol_at Colon ts) (λ t. name_at t >>= λ n. end_at n.1 >>= λ u. Some (Some n.0)) label (sym (not_chosen (end_at ts) none other x) ∙ e) in
    let n = bound (name_at c.0) (λ n. end_at n.1 >>= λ u. Some (Some n.0)) label c.2 in
    let stop = ended n.0.1 (Some n.0.0) label n.2 in
    let word = name_at-spells c.0 n.0.0 n.0.1 n.1 in
    subst (λ l. SpellsLabel l ts) stop.1 (word.0, symbol_at-spells Colon ts c.0 c.1 ∙ ap (λ l. Symbol Colon ∷ l) (word.1 ∙ ap (λ l. Word n.0.0 ∷ l) stop.0))

label-spells : (ts : List Tok) (label : Option (List ℕ)) → label_at ts ≡ Some label → SpellsLabel label ts
label-spells ts label e = label-by ts label (end_at ts) refl e

stop-spells : (ts : List Tok) (row : Row) → stop_at ts ≡ Some row → SpellsRow row (Word (codes "stop") ∷ ts)
stop-spells ts row h =
    let o = bound (symbol_at OpenParen ts) (λ t. expression_at t >>= λ c. symbol_at Comma c.1 >>= λ u. expression_at u >>= λ e. one_parameter_at e.1 >>= λ n. label_at n.1 >>= λ l. Some (StopRow c.0 e.0 n.0 l)) row h in
    let c = bound (expression_at o.0) (λ c. symbol_at Comma c.1 >>= λ u. expression_at u >>= λ e. one_parameter_at e.1 >>= λ n. label_at n.1 >>= λ l. Some (StopRow c.0 e.0 n.0 l)) row o.2 in
    let m = bound (symbol_at Comma c.0.1) (λ u. expression_at u >>= λ e. one_parameter_at e.1 >>= λ n. label_at n.1 >>= λ l. Some (StopRow c.0.0 e.0 n.0 l)) row c.2 in
    let e = bound (expression_at m.0) (λ e. one_parameter_at e.1 >>= λ n. label_at n.1 >>= λ l. Some (StopRow c.0.0 e.0 n.0 l)) row m.2 in
    let n = bound (one_parameter_at e.0.1) (λ n. label_at n.1 >>= λ l. Some (StopRow c.0.0 e.0.0 n.0 l)) row e.2 in
    let l = bound (label_at n.0.1) (λ l. Some (StopRow c.0.0 e.0.0 n.0.0 l)) row n.2 in
    let p = one_parameter-spells e.0.1 n.0.1 n.0.0 n.1 in
    subst (λ r. SpellsRow r (Word (codes "stop") ∷ ts)) (same_Some (StopRow c.0.0 e.0.0 n.0.0 l.0) row l.2) (
      o.0,
      m.0,
      p.digits,
      n.0.1,
      ap (λ x. Word (codes "stop") ∷ x) (symbol_at-spells OpenParen ts o.0 o.1),
      subst (λ x. SpellsExpr c.0.0 o.0 x) (symbol_at-spells Comma c.0.1 m.0 m.1) (expression-spells o.0 c.0.1 c.0.0 c.1),
      subst (λ x. SpellsExpr e.0.0 m.0 x) p.spelt (expression-spells m.0 e.0.1 e.0.0 e.1),
      p.natural,
      label-spells n.0.1 l.0 l.1,
    )

argument-by : (ts rest : List Tok) (a : Argument) (o : Option (List ℕ × List Tok)) → text_at ts ≡ o → argument_at ts ≡ Some (a, rest) → SpellsArgument a ts rest
argument-by ts rest a (Some x) t e =
    let text : (List ℕ × List Tok) → Option (Argument × List Tok) = λ t. Some (given.Text t.0, t.1) in
    let other : Option (Argument × List Tok) = expression_at ts >>= λ e. Some (given.Value e.0, e.1) in
    subst (λ (p : Argument × List Tok). SpellsArgument p.0 ts p.1) (same_Some (given.Text x.0, x.1) (a, rest) (sym (chosen (text_at ts) text other x t) ∙ e)) (text_at-spells ts x.0 x.1 t)
argument-by ts rest a None t e =
    let text : (List ℕ × List Tok) → Option (Argument × List Tok) = λ t. Some (given.Text t.0, t.1) in
    let other : Option (Argument × List Tok) = expression_at ts >>= λ e. Some (given.Value e.0, e.1) in
    let x = bound (expression_at ts) (λ e. Some (given.Value e.0, e.1)) (a, rest) (sym (not_chosen (text_at ts) text other t) ∙ e) in
    subst (λ (p : Argument × List Tok). SpellsArgument p.0 ts p.1) (same_Some (given.Value x.0.0, x.0.1) (a, rest) x.2) (expression-spells ts x.0.1 x.0.0 x.1)

-- the arguments read so far, and those that are spelt after them
record SpellsMore (before all : List Argument) (ts rest : List Tok) : Type 0 where
  first : Argument
  more : List Argument
  whole : all ≡ before ++ (first ∷ more)
  spelt : SpellsArguments (first ∷ more) ts rest

abbrev last_argument : List Argument → List Tok → Option (List Argument × List Tok)
last_argument args u = Some (args, u)

more-by : (n : ℕ) (before all : List Argument) (a : Argument) (ts left rest : List Tok) (o : Option (List Tok)) → ((b al : List Argument) (us rs : List Tok) → arguments_at n b us ≡ Some (al, rs) → SpellsMore b al us rs)
    → symbol_at Comma left ≡ o → SpellsArgument a ts left → choose (symbol_at Comma left) (λ t. arguments_at n (before ++ a ∷ []) t) (symbol_at CloseParen left >>= last_argument (before ++ a ∷ [])) ≡ Some (all, rest) → SpellsMore before all ts rest
more-by n before all a ts left rest (Some t) ih c h e =
    let m = ih (before ++ a ∷ []) all t rest (sym (chosen (symbol_at Comma left) (λ t. arguments_at n (before ++ a ∷ []) t) (symbol_at CloseParen left >>= last_argument (before ++ a ∷ [])) t c) ∙ e) in
    record { first = a; more = m.first ∷ m.more; whole = m.whole ∙ append_assoc before (a ∷ []) (m.first ∷ m.more); spelt = (t, subst (λ l. SpellsArgument a ts l) (symbol_at-spells Comma left t c) h, m.spelt) }
more-by n before all a ts left rest None ih c h e =
    let x = bound (symbol_at CloseParen left) (last_argument (before ++ a ∷ [])) (all, rest) (sym (not_chosen (symbol_at Comma left) (λ t. arguments_at n (before ++ a ∷ []) t) (symbol_at CloseParen left >>= last_argument (before ++ a ∷ [])) c) ∙ e) in
    let same = same_Some (before ++ a ∷ [], x.0) (all, rest) x.2 in
    subst (λ (p : List Argument × List Tok). SpellsMore before p.0 ts p.1) same (record { first = a; more = []; whole = refl; spelt = subst (λ l. SpellsArgument a ts l) (symbol_at-spells CloseParen left x.0 x.1) h })

arguments-spells : (n : ℕ) (before all : List Argument) (ts rest : List Tok) → arguments_at n before ts ≡ Some (all, rest) → SpellsMore before all ts rest
arguments-spells zero before all ts rest e = absurd (cc)
arguments-spells (suc n) before all ts rest e =
    let a = bound (argument_at ts) (λ a. choose (symbol_at Comma a.1) (λ t. arguments_at n (before ++ a.0 ∷ []) t) (symbol_at CloseParen a.1 >>= last_argument (before ++ a.0 ∷ []))) (all, rest) e in
    more-by n before all a.0.0 ts a.0.1 rest (symbol_at Comma a.0.1) (arguments-spells n) refl (argument-by ts a.0.1 a.0.0 (text_at ts) refl a.1) a.2

report-spells : (word : Report) (ts : List Tok) (row : Row) → report_at word ts ≡ Some row → SpellsRow row (Word (report_text word) ∷ ts)
report-spells word ts row h =
    let o = bound (symbol_at OpenParen ts) (λ t. arguments_at (length t) [] t >>= λ a. label_at a.1 >>= λ l. Some (ReportRow word a.0 l)) row h in
    let a = bound (arguments_at (length o.0) [] o.0) (λ a. label_at a.1 >>= λ l. Some (ReportRow word a.0 l)) row o.2 in
    let l = bound (label_at a.0.1) (λ l. Some (ReportRow word a.0.0 l)) row a.2 in
    let m = arguments-spells (length o.0) [] a.0.0 o.0 a.0.1 a.1 in
    subst (λ r. SpellsRow r (Word (report_text word) ∷ ts)) (same_Some (ReportRow word a.0.0 l.0) row l.2)
    (o.0, a.0.1, ap (λ x. Word (report_text word) ∷ x) (symbol_at-spells OpenParen ts o.0 o.1), subst (λ x. SpellsArguments x o.0 a.0.1) (sym m.whole) m.spelt, label-spells a.0.1 l.0 l.1)

field_row-spells : (word : FieldWord) (ts : List Tok) (row : Row) → field_row_at word ts ≡ Some row → SpellsRow row (Word (field_text word) ∷ ts)
field_row-spells word ts row h =
    let a = bound (symbol_at Arrow ts) (λ t. field_at word t >>= λ f. Some (FieldRow f)) row h in
    let f = bound (field_at word a.0) (λ f. Some (FieldRow f)) row a.2 in
    subst (λ r. SpellsRow r (Word (field_text word) ∷ ts)) (same_Some (FieldRow f.0) row f.2)
    (field-spells word a.0 (Word (field_text word) ∷ ts) f.0 (ap (λ l. Word (field_text word) ∷ l) (symbol_at-spells Arrow ts a.0 a.1)) f.1)

-- ---- the second spelling

public-spells : (ts : List Tok) (row : Row) → public_at ts ≡ Some row → SpellsRow row (Word (codes "public") ∷ ts)
public-spells ts row h =
    let w = bound (word_at (codes "module") ts) (λ t. header_at t >>= λ name. Some (ModuleRow name)) row h in
    let n = bound (header_at w.0) (λ name. Some (ModuleRow name)) row w.2 in
    let x = header-spells w.0 n.0 n.1 in
    subst (λ r. SpellsRow r (Word (codes "public") ∷ ts)) (same_Some (ModuleRow n.0) row n.2)
    (x.0, inr (ap (λ l. Word (codes "public") ∷ l) (word_at-spells (codes "module") ts w.0 w.1 ∙ ap (λ l. Word (codes "module") ∷ l) x.1)))

connect-spells : (ts : List Tok) (row : Row) → connect_at ts ≡ Some row → SpellsRow row (Word (codes "connect") ∷ ts)
connect-spells ts row h =
    let r = bound (reference_at ts) (λ r. symbol_at Comma r.1 >>= λ t. last_expression_at t >>= λ e. Some (ConnectRow r.0 e)) row h in
    let c = bound (symbol_at Comma r.0.1) (λ t. last_expression_at t >>= λ e. Some (ConnectRow r.0.0 e)) row r.2 in
    let e = bound (last_expression_at c.0) (λ e. Some (ConnectRow r.0.0 e)) row c.2 in
    subst (λ x. SpellsRow x (Word (codes "connect") ∷ ts)) (same_Some (ConnectRow r.0.0 e.0) row e.2)
    (inr (ts, c.0, refl, subst (λ l. SpellsReference r.0.0 ts l) (symbol_at-spells Comma r.0.1 c.0 c.1) (reference-spells ts r.0.1 r.0.0 r.1), last-spells c.0 e.0 e.1))

invalidate-spells : (ts : List Tok) (row : Row) → invalidate_at ts ≡ Some row → SpellsRow row (Word (codes "invalidate") ∷ ts)
invalidate-spells ts row h =
    let r = bound (reference_at ts) (λ r. end_at r.1 >>= λ u. Some (InvalidRow r.0)) row h in
    let stop = ended r.0.1 (InvalidRow r.0.0) row r.2 in
    subst (λ x. SpellsRow x (Word (codes "invalidate") ∷ ts)) stop.1 (inr (ts, refl, subst (λ l. SpellsReference r.0.0 ts l) stop.0 (reference-spells ts r.0.1 r.0.0 r.1)))

-- the tokens `, CONDITION , INIT`
record SpellsPair (condition init : Term) (ts : List Tok) : Type 0 where
  t : List Tok
  u : List Tok
  tokens : ts ≡ Symbol Comma ∷ t
  first : SpellsExpr condition t (Symbol Comma ∷ u)
  last : SpellsExpr init u []

last_pair-spells : (ts : List Tok) (p : Term × Term) → last_pair_at ts ≡ Some p → SpellsPair p.0 p.1 ts
last_pair-spells ts p h =
    let m = bound (symbol_at Comma ts) (λ t. expression_at t >>= λ c. symbol_at Comma c.1 >>= λ u. last_expression_at u >>= λ i. Some (c.0, i)) p h in
    let c = bound (expression_at m.0) (λ c. symbol_at Comma c.1 >>= λ u. last_expression_at u >>= λ i. Some (c.0, i)) p m.2 in
    let n = bound (symbol_at Comma c.0.1) (λ u. last_expression_at u >>= λ i. Some (c.0.0, i)) p c.2 in
    let i = bound (last_expression_at n.0) (λ i. Some (c.0.0, i)) p n.2 in
    subst (λ (q : Term × Term). SpellsPair q.0 q.1 ts) (same_Some (c.0.0, i.0) p i.2) (record {
      t = m.0;
      u = n.0;
      tokens = symbol_at-spells Comma ts m.0 m.1;
      first = subst (λ l. SpellsExpr c.0.0 m.0 l) (symbol_at-spells Comma c.0.1 n.0 n.1) (expression-spells m.0 c.0.1 c.0.0 c.1);
      last = last-spells n.0 i.0 i.1;
    })

regreset-spells : (ts : List Tok) (row : Row) → regreset_at ts ≡ Some row → SpellsRow row (Word (codes "regreset") ∷ ts)
regreset-spells ts row h =
    let d = bound (declared_at ts) (λ d. symbol_at Comma d.1 >>= λ t. expression_at t >>= λ c. last_pair_at c.1 >>= λ p. Some (RegisterResetRow d.0.0 d.0.1 c.0 p.0 p.1)) row h in
    let m = bound (symbol_at Comma d.0.1) (λ t. expression_at t >>= λ c. last_pair_at c.1 >>= λ p. Some (RegisterResetRow d.0.0.0 d.0.0.1 c.0 p.0 p.1)) row d.2 in
    let c = bound (expression_at m.0) (λ c. last_pair_at c.1 >>= λ p. Some (RegisterResetRow d.0.0.0 d.0.0.1 c.0 p.0 p.1)) row m.2 in
    let p = bound (last_pair_at c.0.1) (λ p. Some (RegisterResetRow d.0.0.0 d.0.0.1 c.0.0 p.0 p.1)) row c.2 in
    let known = declared-spells ts d.0.1 d.0.0.0 d.0.0.1 d.1 in
    let pair = last_pair-spells c.0.1 p.0 p.1 in
    let all = Word (codes "regreset") ∷ ts in
    let register : SpellsRegister (codes "regreset") d.0.0.0 d.0.0.1 c.0.0 all c.0.1 =
    (known.t, m.0, known.named, ap (λ l. Word (codes "regreset") ∷ l) known.tokens, subst (λ l. SpellsType d.0.0.1 known.t l) (symbol_at-spells Comma d.0.1 m.0 m.1) known.typed, expression-spells m.0 c.0.1 c.0.0 c.1) in
    subst (λ x. SpellsRow x all) (same_Some (RegisterResetRow d.0.0.0 d.0.0.1 c.0.0 p.0.0 p.0.1) row p.2)
    (inr (pair.t, pair.u, subst (λ l. SpellsRegister (codes "regreset") d.0.0.0 d.0.0.1 c.0.0 all l) pair.tokens register, pair.first, pair.last))

body-spells : (k : Keyword) (ts : List Tok) (row : Row) → body_at k ts ≡ Some row → SpellsRow row (Word (keyword_text k) ∷ ts)
body-spells keyword.Version ts row h = version-spells ts row h
body-spells keyword.Circuit ts row h =
    let n = bound (header_at ts) (λ name. Some (CircuitRow name)) row h in
    let x = header-spells ts n.0 n.1 in
    subst (λ r. SpellsRow r (Word (codes "circuit") ∷ ts)) (same_Some (CircuitRow n.0) row n.2) (x.0, ap (λ l. Word (codes "circuit") ∷ l) x.1)
body-spells keyword.Module ts row h =
    let n = bound (header_at ts) (λ name. Some (ModuleRow name)) row h in
    let x = header-spells ts n.0 n.1 in
    subst (λ r. SpellsRow r (Word (codes "module") ∷ ts)) (same_Some (ModuleRow n.0) row n.2) (x.0, inl (ap (λ l. Word (codes "module") ∷ l) x.1))
body-spells (keyword.Port direction) ts row h =
    let d = bound (last_declared_at ts) (λ d. Some (PortRow direction d.0 d.1)) row h in
    let x = last_declared-spells ts d.0 d.1 in
    subst (λ r. SpellsRow r (Word (direction_text direction) ∷ ts)) (same_Some (PortRow direction d.0.0 d.0.1) row d.2) (x.t, x.named, ap (λ l. Word (direction_text direction) ∷ l) x.tokens, x.typed)
body-spells keyword.Wire ts row h =
    let d = bound (last_declared_at ts) (λ d. Some (WireRow d.0 d.1)) row h in
    let x = last_declared-spells ts d.0 d.1 in
    subst (λ r. SpellsRow r (Word (codes "wire") ∷ ts)) (same_Some (WireRow d.0.0 d.0.1) row d.2) (x.t, x.named, ap (λ l. Word (codes "wire") ∷ l) x.tokens, x.typed)
body-spells keyword.Node ts row h = node-spells ts row h
body-spells keyword.Register ts row h = register-spells ts row h
body-spells keyword.Reset ts row h = reset_row-spells ts row h
body-spells keyword.Instance ts row h = instance-spells ts row h
body-spells keyword.Memory ts row h =
    let n = bound (header_at ts) (λ name. Some (MemoryRow name)) row h in
    let x = header-spells ts n.0 n.1 in
    subst (λ r. SpellsRow r (Word (codes "mem") ∷ ts)) (same_Some (MemoryRow n.0) row n.2) (x.0, ap (λ l. Word (codes "mem") ∷ l) x.1)
body-spells (keyword.Field word) ts row h = field_row-spells word ts row h
body-spells keyword.Skip ts row h =
    let stop = ended ts SkipRow row h in
    subst (λ r. SpellsRow r (Word (codes "skip") ∷ ts)) stop.1 (ap (λ l. Word (codes "skip") ∷ l) stop.0)
body-spells keyword.Stop ts row h = stop-spells ts row h
body-spells (keyword.Report word) ts row h = report-spells word ts row h
body-spells keyword.Public ts row h = public-spells ts row h
body-spells keyword.Connect ts row h = connect-spells ts row h
body-spells keyword.Invalidate ts row h = invalidate-spells ts row h
body-spells keyword.Regreset ts row h = regreset-spells ts row h

keyword-spells : (ts : List Tok) (row : Row) → (keyword_at ts >>= λ k. body_at k.0 k.1) ≡ Some row → SpellsRow row ts
keyword-spells [] row h = absurd (cc)
keyword-spells (Number w ∷ ts) row h = absurd (cc)
keyword-spells (Text w ∷ ts) row h = absurd (cc)
keyword-spells (Symbol m ∷ ts) row h = absurd (cc)
keyword-spells (Word w ∷ ts) row h =
    let k = bound (keyword_at (Word w ∷ ts)) (λ k. body_at k.0 k.1) row h in
    let n = bound (keyword_of w) (λ k. Some (k, ts)) k.0 k.1 in
    let same = same_Some (n.0, ts) k.0 n.2 in
    let tokens : Word (keyword_text k.0.0) ∷ k.0.1 ≡ Word w ∷ ts =
    sym (ap (λ x. Word x ∷ ts) (keyword_of-spells w n.0 n.1) ∙ ap (λ (p : Keyword × List Tok). Word (keyword_text p.0) ∷ p.1) same) in
    subst (λ l. SpellsRow row l) tokens (body-spells k.0.0 k.0.1 row k.2)

row-by : (ts : List Tok) (row : Row) (b : Bool) → (if b then connection_at ts else (keyword_at ts >>= λ k. body_at k.0 k.1)) ≡ Some row → SpellsRow row ts
row-by ts row true h = connection-spells ts row h
row-by ts row false h = keyword-spells ts row h

-- a row that is read is spelt so
pub row-spells : (ts : List Tok) (row : Row) → row_at ts ≡ Some row → SpellsRow row ts
row-spells ts row h = row-by ts row (is_connection ts) h
