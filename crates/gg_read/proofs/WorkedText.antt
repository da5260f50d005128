-- A whole text and the circuit that it spells, worked by hand, with the number of each line:
--
--      1  circuit T :
--      2    module T :
--      3      output o : UInt<8>
--      4
--      5      ; nothing drives it
--      6      o is invalid
use Rattle.std.proofs.Common.{ℕ, inl, inr, List, [], ◌∷◌, codes, refl}
use Rattle.gg_lex.specs.declared.token.Tok.{Tok}
use Rattle.gg_lex.specs.declared.token.Tok.TheVariants.{Word, Number, Symbol}
use Rattle.gg_lex.specs.declared.token.Symbol.TheVariants as mark
use Rattle.gg_lex.proofs.WorkedLines.{word, one, number, ended}
use Rattle.gg_ast.specs.declared.expression.Reference.TheVariants.{Local}
use Rattle.gg_ast.specs.declared.module.Direction.TheVariants.{Output}
use Rattle.gg_ast.specs.declared.module.GroundType.TheVariants.{UInt}
use Rattle.gg_ast.specs.declared.statement.StmtKind.TheVariants.{Invalid}
use Rattle.gg_ast.specs.Row.{numbered, CircuitRow, ModuleRow, PortRow, InvalidRow}
use Rattle.gg_ast.specs.Tree.{CircuitTree}
use Rattle.gg_read.specs.Text.{AfterCircuit, InPorts, InStatements, Spells}
use Rattle.gg_read.proofs.WorkedForms.{text_of, holding, form}

abbrev text : List ℕ
text = text_of (codes "circuit T :" ∷ codes "  module T :" ∷ codes "    output o : UInt<8>" ∷ codes "" ∷ codes "    ; nothing drives it" ∷ codes "    o is invalid" ∷ [])

abbrev circuit : CircuitTree
circuit = record {
  line = 1;
  name = codes "T";
  modules = record {
    line = 2;
    name = codes "T";
    ports = record { line = 3; name = codes "o"; direction = Output; ty = UInt 8 } ∷ [];
    statements = record { line = 6; kind = Invalid (Local (codes "o")) } ∷ [];
  } ∷ [];
}

-- the tokens of each line
abbrev header : List Tok
header = Word (codes "circuit") ∷ Word (codes "T") ∷ Symbol mark.Colon ∷ []

abbrev begun : List Tok
begun = Word (codes "module") ∷ Word (codes "T") ∷ Symbol mark.Colon ∷ []

abbrev port : List Tok
port = Word (codes "output") ∷ Word (codes "o") ∷ Symbol mark.Colon ∷ Word (codes "UInt") ∷ Symbol mark.Less ∷ Number (codes "8") ∷ Symbol mark.Greater ∷ []

abbrev driven : List Tok
driven = Word (codes "o") ∷ Word (codes "is") ∷ Word (codes "invalid") ∷ []

text_spells : Spells text circuit
unfolding lib.Utf8.encode
text_spells = record {
  utf8 = (text, (refl, refl));
  held = holding header ∷ holding begun ∷ holding port ∷ holding [] ∷ holding [] ∷ holding driven ∷ [];
  tokens = (
    word refl refl (word refl refl (one refl refl (ended tt))),
    (
      word refl refl (word refl refl (one refl refl (ended tt))),
      (
        word refl refl (word refl refl (one refl refl (word refl refl (one refl refl (number refl refl (one refl refl (ended tt))))))),
        (ended tt, (ended refl, (word refl refl (word refl refl (word refl refl (ended tt))), tt))),
      ),
    ),
  );
  last = InStatements;
  rows =
      numbered 1 (CircuitRow (codes "T")) ∷ numbered 2 (ModuleRow (codes "T")) ∷ numbered 3 (PortRow Output (codes "o") (UInt 8)) ∷ numbered 6 (InvalidRow (Local (codes "o"))) ∷ [];
  read =
      inr (
        CircuitRow (codes "T"),
        AfterCircuit,
        _,
        form refl refl,
        refl,
        inr (
          ModuleRow (codes "T"),
          InPorts,
          _,
          form refl refl,
          refl,
          inr (
            PortRow Output (codes "o") (UInt 8),
            InPorts,
            _,
            form refl refl,
            refl,
            inl (
              (refl, refl),
              inl (
                (refl, refl),
                inr (InvalidRow (Local (codes "o")), InStatements, _, form refl refl, refl, (refl, refl)),
              ),
            ),
          ),
        ),
      );
  whole = tt;
  circuit_rows = refl;
}
