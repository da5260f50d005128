-- A text in both spellings, worked by hand, and a fault line of the second:
--
--      1  FIRRTL version 4.0.0
--      2  circuit T :
--      3    public module T :
--      4      input k : Clock
--      5      output o : UInt<8>
--      6      regreset r : UInt<8>, k, UInt<1>(0h0), r ; both spellings
--      7      connect o, r
--      8      r <= UInt<8>(0b101)
use Rattle.std.proofs.Common.{ℕ, false, inl, inr, List, [], ◌∷◌, Some, codes, refl, lit≤}
use Rattle.std.specs.Str.Lines.{lines}
use Rattle.gg_bits.specs.declared.types.Kind.TheVariants.{UInt}
use Rattle.gg_lex.specs.declared.token.Tok.{Tok}
use Rattle.gg_lex.specs.declared.token.Tok.TheVariants.{Word, Number, Symbol}
use Rattle.gg_lex.specs.declared.token.Symbol.TheVariants as mark
use Rattle.gg_lex.proofs.WorkedLines.{word, one, two, number, ended}
use Rattle.gg_ast.specs.declared.expression.Radix.TheVariants.{Binary, Hexadecimal}
use Rattle.gg_ast.specs.declared.expression.Reference.TheVariants.{Local}
use Rattle.gg_ast.specs.declared.module.Direction.TheVariants.{Input, Output}
use Rattle.gg_ast.specs.declared.module.GroundType.TheVariants as ty
use Rattle.gg_ast.specs.declared.statement.StmtKind.TheVariants.{Register, Connect}
use Rattle.gg_ast.specs.Row.{Numbered, numbered, VersionRow, CircuitRow, ModuleRow, PortRow, RegisterResetRow, ConnectRow}
use Rattle.gg_ast.specs.Term.{Term, NamedTerm, ConstantTerm}
use Rattle.gg_ast.specs.Tree.{CircuitTree}
use Rattle.gg_read.specs.declared.text.ReadFault.TheVariants.{Syntax}
use Rattle.gg_read.specs.Text.{AtStart, AfterVersion, AfterCircuit, InPorts, InStatements, LineTokens, AreLineTokens, AreRows, Spells, HasReadFault}
use Rattle.gg_read.proofs.WorkedForms.{text_of, holding, form, no_row, shallow}

abbrev text : List ℕ
text = text_of (codes "FIRRTL version 4.0.0" ∷ codes "circuit T :" ∷ codes "  public module T :" ∷ codes "    input k : Clock" ∷ codes "    output o : UInt<8>" ∷ codes "    regreset r : UInt<8>, k, UInt<1>(0h0), r ; both spellings" ∷ codes "    connect o, r" ∷ codes "    r <= UInt<8>(0b101)" ∷ [])

abbrev zero : Term
zero = ConstantTerm (record { kind = UInt; width = 1; radix = Hexadecimal; negative = false; digits = codes "0" })

abbrev five : Term
five = ConstantTerm (record { kind = UInt; width = 8; radix = Binary; negative = false; digits = codes "101" })

abbrev circuit : CircuitTree
circuit = record {
  line = 2;
  name = codes "T";
  modules = record {
    line = 3;
    name = codes "T";
    ports = record { line = 4; name = codes "k"; direction = Input; ty = ty.Clock } ∷ record { line = 5; name = codes "o"; direction = Output; ty = ty.UInt 8 } ∷ [];
    statements =
        record { line = 6; kind = Register (codes "r") (ty.UInt 8) (NamedTerm (Local (codes "k"))) (Some (record { line = 6; condition = zero; init = NamedTerm (Local (codes "r")) })) }
        ∷ record { line = 7; kind = Connect (Local (codes "o")) (NamedTerm (Local (codes "r"))) } ∷ record { line = 8; kind = Connect (Local (codes "r")) five } ∷ [];
  } ∷ [];
}

-- the tokens of each line
abbrev version : List Tok
version = Word (codes "FIRRTL") ∷ Word (codes "version") ∷ Number (codes "4") ∷ Symbol mark.Dot ∷ Number (codes "0") ∷ Symbol mark.Dot ∷ Number (codes "0") ∷ []

abbrev header : List Tok
header = Word (codes "circuit") ∷ Word (codes "T") ∷ Symbol mark.Colon ∷ []

abbrev begun : List Tok
begun = Word (codes "public") ∷ Word (codes "module") ∷ Word (codes "T") ∷ Symbol mark.Colon ∷ []

abbrev clock : List Tok
clock = Word (codes "input") ∷ Word (codes "k") ∷ Symbol mark.Colon ∷ Word (codes "Clock") ∷ []

abbrev port : List Tok
port = Word (codes "output") ∷ Word (codes "o") ∷ Symbol mark.Colon ∷ Word (codes "UInt") ∷ Symbol mark.Less ∷ Number (codes "8") ∷ Symbol mark.Greater ∷ []

abbrev register : List Tok
register = Word (codes "regreset") ∷ Word (codes "r") ∷ Symbol mark.Colon ∷ Word (codes "UInt") ∷ Symbol mark.Less ∷ Number (codes "8") ∷ Symbol mark.Greater ∷ Symbol mark.Comma ∷ Word (codes "k") ∷ Symbol mark.Comma ∷ Word (codes "UInt") ∷ Symbol mark.Less ∷ Number (codes "1") ∷ Symbol mark.Greater ∷ Symbol mark.OpenParen ∷ Number (codes "0h0") ∷ Symbol mark.CloseParen ∷ Symbol mark.Comma ∷ Word (codes "r") ∷ []

abbrev connected : List Tok
connected = Word (codes "connect") ∷ Word (codes "o") ∷ Symbol mark.Comma ∷ Word (codes "r") ∷ []

abbrev driven : List Tok
driven = Word (codes "r") ∷ Symbol mark.Connect ∷ Word (codes "UInt") ∷ Symbol mark.Less ∷ Number (codes "8") ∷ Symbol mark.Greater ∷ Symbol mark.OpenParen ∷ Number (codes "0b101") ∷ Symbol mark.CloseParen ∷ []

-- the lines' tokens and rows, each apart: under `unfolding` they take ten times as long to check
abbrev held : List LineTokens
held = holding version ∷ holding header ∷ holding begun ∷ holding clock ∷ holding port ∷ holding register ∷ holding connected ∷ holding driven ∷ []

tokens : AreLineTokens (lines text) held
tokens = (word refl refl (word refl refl (number refl refl (one refl refl (number refl refl (one refl refl (number refl refl (ended tt))))))), (word refl refl (word refl refl (one refl refl (ended tt))), (word refl refl (word refl refl (word refl refl (one refl refl (ended tt)))), (word refl refl (word refl refl (one refl refl (word refl refl (ended tt)))), (word refl refl (word refl refl (one refl refl (word refl refl (one refl refl (number refl refl (one refl refl (ended tt))))))), (word refl refl (word refl refl (one refl refl (word refl refl (one refl refl (number refl refl (one refl refl (one refl refl (word refl refl (one refl refl (word refl refl (one refl refl (number refl refl (one refl refl (one refl refl (number refl refl (one refl refl (one refl refl (word refl refl (ended refl))))))))))))))))))), (word refl refl (word refl refl (one refl refl (word refl refl (ended tt)))), (word refl refl (two refl (lit≤ tt) refl (word refl refl (one refl refl (number refl refl (one refl refl (one refl refl (number refl refl (one refl refl (ended tt))))))))), tt))))))))

abbrev rows : List Numbered
rows = numbered 1 (VersionRow 4 0 0) ∷ numbered 2 (CircuitRow (codes "T")) ∷ numbered 3 (ModuleRow (codes "T")) ∷ numbered 4 (PortRow Input (codes "k") ty.Clock) ∷ numbered 5 (PortRow Output (codes "o") (ty.UInt 8)) ∷ numbered 6 (RegisterResetRow (codes "r") (ty.UInt 8) (NamedTerm (Local (codes "k"))) zero (NamedTerm (Local (codes "r")))) ∷ numbered 7 (ConnectRow (Local (codes "o")) (NamedTerm (Local (codes "r")))) ∷ numbered 8 (ConnectRow (Local (codes "r")) five) ∷ []

read : AreRows AtStart 1 held rows InStatements
read = inr (VersionRow 4 0 0, AfterVersion, _, form refl refl, refl, inr (CircuitRow (codes "T"), AfterCircuit, _, form refl refl, refl, inr (ModuleRow (codes "T"), InPorts, _, form refl refl, refl, inr (PortRow Input (codes "k") ty.Clock, InPorts, _, form refl refl, refl, inr (PortRow Output (codes "o") (ty.UInt 8), InPorts, _, form refl refl, refl, inr (RegisterResetRow (codes "r") (ty.UInt 8) (NamedTerm (Local (codes "k"))) zero (NamedTerm (Local (codes "r"))), InStatements, _, form refl refl, refl, inr (ConnectRow (Local (codes "o")) (NamedTerm (Local (codes "r"))), InStatements, _, form refl refl, refl, inr (ConnectRow (Local (codes "r")) five, InStatements, _, form refl refl, refl, (refl, refl)))))))))

text_spells : Spells text circuit
unfolding lib.Utf8.encode
text_spells = record {
  utf8 = (text, (refl, refl));
  held = held;
  tokens = tokens;
  last = InStatements;
  rows = rows;
  read = read;
  whole = tt;
  circuit_rows = refl;
}

-- `connect` wants a comma
abbrev bare : List Tok
bare = Word (codes "connect") ∷ Word (codes "o") ∷ Word (codes "r") ∷ []

abbrev no_comma_text : List ℕ
no_comma_text = text_of (codes "circuit T :" ∷ codes "public module T :" ∷ codes "connect o r" ∷ [])

no_comma : HasReadFault no_comma_text (Syntax 3)
unfolding lib.Utf8.encode
no_comma = (
  (no_comma_text, (refl, refl)),
  (
    holding bare,
    record {
      before = holding header ∷ holding begun ∷ [];
      tokens = (word refl refl (word refl refl (one refl refl (ended tt))), (word refl refl (word refl refl (word refl refl (one refl refl (ended tt)))), tt));
      rows = numbered 1 (CircuitRow (codes "T")) ∷ numbered 2 (ModuleRow (codes "T")) ∷ [];
      place = InPorts;
      read = inr (CircuitRow (codes "T"), AfterCircuit, _, form refl refl, refl, inr (ModuleRow (codes "T"), InPorts, _, form refl refl, refl, (refl, refl)));
      shallow = (shallow header (lit≤ tt), (shallow begun (lit≤ tt), tt));
      number = refl;
      fault = inl (codes "connect o r", refl, word refl refl (word refl refl (word refl refl (ended tt))), inr (no_row refl));
    },
    shallow bare (lit≤ tt),
    refl,
  ),
)
