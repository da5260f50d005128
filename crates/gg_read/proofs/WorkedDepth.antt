-- A text with 257 nested brackets, worked by hand: it spells a circuit, and its third line is at fault.
--
--      1  circuit T :
--      2    module T :
--      3      node x =not(not(.. not(a)..))
use Rattle.std.proofs.Common.{◌≡◌, ℕ, zero, suc, inl, inr, Bool, false, ◌==◌, List, [], ◌∷◌, ◌++◌, length, take, codes, refl, ap, arith, lit≤}
use Rattle.std.proofs.Math.Dec.{eqb-suc-zero}
use Rattle.gg_bits.specs.declared.ops.Op1.TheVariants.{Not}
use Rattle.gg_lex.specs.Lines.{AreTokens}
use Rattle.gg_lex.specs.declared.token.Tok.{Tok}
use Rattle.gg_lex.specs.declared.token.Tok.TheVariants.{Word, Symbol}
use Rattle.gg_lex.specs.declared.token.Symbol.TheVariants as mark
use Rattle.gg_lex.proofs.WorkedLines.{word, one, ended}
use Rattle.gg_ast.specs.declared.expression.Reference.TheVariants.{Local}
use Rattle.gg_ast.specs.declared.statement.StmtKind.TheVariants.{Node}
use Rattle.gg_ast.specs.Row.{numbered, CircuitRow, ModuleRow, NodeRow}
use Rattle.gg_ast.specs.Term.{Term, NamedTerm, UnaryTerm}
use Rattle.gg_ast.specs.Tree.{CircuitTree}
use Rattle.gg_read_row.specs.Forms.{SpellsExpr}
use Rattle.gg_read.specs.declared.text.ReadFault.TheVariants.{TooDeep}
use Rattle.gg_read.specs.Text.{AfterCircuit, InPorts, InStatements, opened, closed, IsTooDeep, IsForm, Spells, HasReadFault}
use Rattle.gg_read.proofs.WorkedForms.{text_of, holding, form, shallow}

-- n times `not(`, and these tokens after it
opening : ℕ → List Tok → List Tok
opening zero ts = ts
opening (suc n) ts = Word (codes "not") ∷ (Symbol mark.OpenParen ∷ opening n ts)

opening_text : ℕ → List ℕ → List ℕ
opening_text zero bytes = bytes
opening_text (suc n) bytes = 110 ∷ (111 ∷ (116 ∷ (40 ∷ opening_text n bytes)))

-- n times `)`, and these tokens after it
closing : ℕ → List Tok → List Tok
closing zero ts = ts
closing (suc n) ts = closing n (Symbol mark.CloseParen ∷ ts)

closing_text : ℕ → List ℕ → List ℕ
closing_text zero bytes = bytes
closing_text (suc n) bytes = closing_text n (41 ∷ bytes)

nested : ℕ → Term
nested zero = NamedTerm (Local (codes "a"))
nested (suc n) = UnaryTerm Not (nested n)

nested_tokens : ℕ → List Tok
nested_tokens n = opening n (Word (codes "a") ∷ closing n [])

nested_text : ℕ → List ℕ
nested_text n = opening_text n (codes "a" ++ closing_text n [])

spelt : (n : ℕ) (rest : List Tok) → SpellsExpr (nested n) (opening n (Word (codes "a") ∷ closing n rest)) rest
unfolding nested opening closing
spelt zero rest = (refl, refl)
spelt (suc n) rest = (opening n (Word (codes "a") ∷ closing n (Symbol mark.CloseParen ∷ rest)), refl, spelt n (Symbol mark.CloseParen ∷ rest))

-- a bracket has bytes, and isn't a word, a number, a text or a symbol of two characters
bracket_tests : (bytes : List ℕ) → (length (40 ∷ bytes) == 0) ∷ false ∷ false ∷ false ∷ false ∷ [] ≡ false ∷ false ∷ false ∷ false ∷ false ∷ []
bracket_tests bytes = ap (λ (b : Bool). b ∷ false ∷ false ∷ false ∷ false ∷ []) (eqb-suc-zero (length bytes))

closing_lexed : (n : ℕ) {ts : List Tok} {bytes : List ℕ} → AreTokens ts bytes → AreTokens (closing n ts) (closing_text n bytes)
unfolding closing closing_text
closing_lexed zero lexed = lexed
closing_lexed (suc n) {bytes = bytes} lexed = closing_lexed n (one (bracket_tests bytes) refl lexed)

opening_lexed : (n : ℕ) {ts : List Tok} {bytes : List ℕ} → AreTokens ts bytes → AreTokens (opening n ts) (opening_text n bytes)
unfolding opening opening_text
opening_lexed zero lexed = lexed
opening_lexed (suc n) {bytes = bytes} lexed = word refl refl (one (bracket_tests (opening_text n bytes)) refl (opening_lexed n lexed))

-- how many tokens n times `not(` has
twice : ℕ → ℕ
twice zero = 0
twice (suc n) = suc (suc (twice n))

all_open : (n : ℕ) (ts : List Tok) → (opened (take (twice n) (opening n ts)) ≡ n) × (closed (take (twice n) (opening n ts)) ≡ 0)
unfolding opening twice
all_open zero ts = (refl, refl)
all_open (suc n) ts = let more = all_open n ts in (omega (arith, more.0), more.1)

abbrev line : List Tok
line = Word (codes "node") ∷ Word (codes "x") ∷ Symbol mark.Equals ∷ nested_tokens 257

abbrev line_text : List ℕ
line_text = codes "    node x =" ++ nested_text 257

abbrev header : List Tok
header = Word (codes "circuit") ∷ Word (codes "T") ∷ Symbol mark.Colon ∷ []

abbrev begun : List Tok
begun = Word (codes "module") ∷ Word (codes "T") ∷ Symbol mark.Colon ∷ []

abbrev text : List ℕ
text = text_of (codes "circuit T :" ∷ codes "  module T :" ∷ line_text ∷ [])

abbrev circuit : CircuitTree
circuit = record {
  line = 1;
  name = codes "T";
  modules = record {
    line = 2;
    name = codes "T";
    ports = [];
    statements = record { line = 3; kind = Node (codes "x") (nested 257) } ∷ [];
  } ∷ [];
}

lexed : AreTokens line line_text
unfolding nested_tokens nested_text opening opening_text closing_text
lexed = word refl refl (word refl refl (one refl refl (opening_lexed 257 (word refl refl (closing_lexed 257 (ended tt))))))

too_deep : IsTooDeep line
unfolding nested_tokens
too_deep = let all = all_open 257 (Word (codes "a") ∷ closing 257 []) in (suc (suc (suc (twice 257))), omega (arith, all.0, all.1))

node : IsForm InPorts (holding line) (NodeRow (codes "x") (nested 257)) InStatements
unfolding nested_tokens
node = record { whole = refl; spelt = (nested_tokens 257, refl, refl, spelt 257 []); there = refl }

text_spells : Spells text circuit
unfolding lib.Utf8.encode nested_text opening_text closing_text
text_spells = record {
  utf8 = (text, (refl, refl));
  held = holding header ∷ holding begun ∷ holding line ∷ [];
  tokens = (word refl refl (word refl refl (one refl refl (ended tt))), (word refl refl (word refl refl (one refl refl (ended tt))), (lexed, tt)));
  last = InStatements;
  rows = numbered 1 (CircuitRow (codes "T")) ∷ numbered 2 (ModuleRow (codes "T")) ∷ numbered 3 (NodeRow (codes "x") (nested 257)) ∷ [];
  read = inr (CircuitRow (codes "T"), AfterCircuit, _, form refl refl, refl, inr (ModuleRow (codes "T"), InPorts, _, form refl refl, refl, inr (NodeRow (codes "x") (nested 257), InStatements, _, node, refl, (refl, refl))));
  whole = tt;
  circuit_rows = refl;
}

text_at_fault : HasReadFault text (TooDeep 3)
unfolding lib.Utf8.encode nested_text opening_text closing_text
text_at_fault = (
  (text, (refl, refl)),
  (
    holding line,
    record {
      before = holding header ∷ holding begun ∷ [];
      tokens = (word refl refl (word refl refl (one refl refl (ended tt))), (word refl refl (word refl refl (one refl refl (ended tt))), tt));
      rows = numbered 1 (CircuitRow (codes "T")) ∷ numbered 2 (ModuleRow (codes "T")) ∷ [];
      place = InPorts;
      read = inr (CircuitRow (codes "T"), AfterCircuit, _, form refl refl, refl, inr (ModuleRow (codes "T"), InPorts, _, form refl refl, refl, (refl, refl)));
      shallow = (shallow header (lit≤ tt), (shallow begun (lit≤ tt), tt));
      number = refl;
      fault = inl (line_text, refl, lexed, inl too_deep);
    },
    too_deep,
  ),
)
