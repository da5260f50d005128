-- Texts with a memory, worked by hand: the circuit that one spells, and fault lines of others.
--
--      1  circuit T :
--      2    module T :
--      3      mem m :
--      4        data-type => UInt<8>
--      5        depth => 16
--      6        read-latency => 0
--      7        write-latency => 1
--      8        reader => r s
--      9        writer => w
--     10        read-under-write => new
--     11        depth => 4
use Rattle.std.proofs.Common.{ℕ, inl, inr, List, [], ◌∷◌, codes, refl, lit≤}
use Rattle.gg_lex.specs.declared.token.Tok.{Tok}
use Rattle.gg_lex.specs.declared.token.Tok.TheVariants.{Word, Number, Symbol}
use Rattle.gg_lex.specs.declared.token.Symbol.TheVariants as mark
use Rattle.gg_lex.proofs.WorkedLines.{word, one, two, number, ended}
use Rattle.gg_ast.specs.declared.module.GroundType.TheVariants.{UInt}
use Rattle.gg_ast.specs.declared.statement.MemoryField.TheVariants.{DataType, Depth, ReadLatency, WriteLatency, Readers, Writers, ReadUnderWrite}
use Rattle.gg_ast.specs.declared.statement.ReadUnderWrite.TheVariants.{New}
use Rattle.gg_ast.specs.declared.statement.StmtKind.TheVariants.{Memory}
use Rattle.gg_ast.specs.Row.{numbered, CircuitRow, ModuleRow, MemoryRow, FieldRow, SkipRow}
use Rattle.gg_ast.specs.Tree.{CircuitTree}
use Rattle.gg_read.specs.declared.text.ReadFault.TheVariants.{Syntax, Outside}
use Rattle.gg_read.specs.Text.{AfterCircuit, InPorts, InFields, InStatements, Spells, HasReadFault}
use Rattle.gg_read.proofs.WorkedForms.{text_of, holding, form, no_row, no_place, shallow}

abbrev text : List ℕ
text = text_of (codes "circuit T :" ∷ codes "  module T :" ∷ codes "    mem m :" ∷ codes "      data-type => UInt<8>" ∷ codes "      depth => 16" ∷ codes "      read-latency => 0" ∷ codes "      write-latency => 1" ∷ codes "      reader => r s" ∷ codes "      writer => w" ∷ codes "      read-under-write => new" ∷ codes "      depth => 4" ∷ [])

abbrev circuit : CircuitTree
circuit = record {
  line = 1;
  name = codes "T";
  modules = record {
    line = 2;
    name = codes "T";
    ports = [];
    statements = record {
      line = 3;
      kind = Memory (codes "m") (record { line = 4; kind = DataType (UInt 8) } ∷ record { line = 5; kind = Depth 16 } ∷ record { line = 6; kind = ReadLatency 0 } ∷ record { line = 7; kind = WriteLatency 1 } ∷ record { line = 8; kind = Readers (codes "r" ∷ (codes "s" ∷ [])) } ∷ record { line = 9; kind = Writers (codes "w" ∷ []) } ∷ record { line = 10; kind = ReadUnderWrite New } ∷ record { line = 11; kind = Depth 4 } ∷ []);
    } ∷ [];
  } ∷ [];
}

-- the tokens of each line
abbrev header : List Tok
header = Word (codes "circuit") ∷ Word (codes "T") ∷ Symbol mark.Colon ∷ []

abbrev begun : List Tok
begun = Word (codes "module") ∷ Word (codes "T") ∷ Symbol mark.Colon ∷ []

abbrev memory : List Tok
memory = Word (codes "mem") ∷ Word (codes "m") ∷ Symbol mark.Colon ∷ []

abbrev data_type : List Tok
data_type = Word (codes "data-type") ∷ Symbol mark.Arrow ∷ Word (codes "UInt") ∷ Symbol mark.Less ∷ Number (codes "8") ∷ Symbol mark.Greater ∷ []

abbrev depth : List Tok
depth = Word (codes "depth") ∷ Symbol mark.Arrow ∷ Number (codes "16") ∷ []

abbrev read_latency : List Tok
read_latency = Word (codes "read-latency") ∷ Symbol mark.Arrow ∷ Number (codes "0") ∷ []

abbrev write_latency : List Tok
write_latency = Word (codes "write-latency") ∷ Symbol mark.Arrow ∷ Number (codes "1") ∷ []

abbrev readers : List Tok
readers = Word (codes "reader") ∷ Symbol mark.Arrow ∷ Word (codes "r") ∷ Word (codes "s") ∷ []

abbrev writers : List Tok
writers = Word (codes "writer") ∷ Symbol mark.Arrow ∷ Word (codes "w") ∷ []

abbrev under_write : List Tok
under_write = Word (codes "read-under-write") ∷ Symbol mark.Arrow ∷ Word (codes "new") ∷ []

abbrev second_depth : List Tok
second_depth = Word (codes "depth") ∷ Symbol mark.Arrow ∷ Number (codes "4") ∷ []

abbrev skips : List Tok
skips = Word (codes "skip") ∷ []

abbrev reset : List Tok
reset = Word (codes "reset") ∷ Symbol mark.Arrow ∷ Symbol mark.OpenParen ∷ Word (codes "a") ∷ Symbol mark.Comma ∷ Word (codes "a") ∷ Symbol mark.CloseParen ∷ []

abbrev both : List Tok
both = Word (codes "readwriter") ∷ Symbol mark.Arrow ∷ Word (codes "r") ∷ []

-- a memory at the end of the text, with a field that comes twice
memory_spelt : Spells text circuit
unfolding lib.Utf8.encode
memory_spelt = record {
  utf8 = (text, (refl, refl));
  held = holding header ∷ holding begun ∷ holding memory ∷ holding data_type ∷ holding depth ∷ holding read_latency ∷ holding write_latency ∷ holding readers ∷ holding writers ∷ holding under_write ∷ holding second_depth ∷ [];
  tokens = (
    word refl refl (word refl refl (one refl refl (ended tt))),
    (
      word refl refl (word refl refl (one refl refl (ended tt))),
      (
        word refl refl (word refl refl (one refl refl (ended tt))),
        (
          word refl refl (two refl (lit≤ tt) refl (word refl refl (one refl refl (number refl refl (one refl refl (ended tt)))))),
          (
            word refl refl (two refl (lit≤ tt) refl (number refl refl (ended tt))),
            (
              word refl refl (two refl (lit≤ tt) refl (number refl refl (ended tt))),
              (
                word refl refl (two refl (lit≤ tt) refl (number refl refl (ended tt))),
                (
                  word refl refl (two refl (lit≤ tt) refl (word refl refl (word refl refl (ended tt)))),
                  (
                    word refl refl (two refl (lit≤ tt) refl (word refl refl (ended tt))),
                    (
                      word refl refl (two refl (lit≤ tt) refl (word refl refl (ended tt))),
                      (
                        word refl refl (two refl (lit≤ tt) refl (number refl refl (ended tt))),
                        tt,
                      ),
                    ),
                  ),
                ),
              ),
            ),
          ),
        ),
      ),
    ),
  );
  last = InFields;
  rows =
      numbered 1 (CircuitRow (codes "T"))
      ∷ numbered 2 (ModuleRow (codes "T"))
      ∷ numbered 3 (MemoryRow (codes "m"))
      ∷ numbered 4 (FieldRow (DataType (UInt 8)))
      ∷ numbered 5 (FieldRow (Depth 16))
      ∷ numbered 6 (FieldRow (ReadLatency 0))
      ∷ numbered 7 (FieldRow (WriteLatency 1))
      ∷ numbered 8 (FieldRow (Readers (codes "r" ∷ (codes "s" ∷ []))))
      ∷ numbered 9 (FieldRow (Writers (codes "w" ∷ [])))
      ∷ numbered 10 (FieldRow (ReadUnderWrite New))
      ∷ numbered 11 (FieldRow (Depth 4)) ∷ [];
  read =
      inr (
        CircuitRow (codes "T"),
        AfterCircuit,
        _,
        form refl refl,
        refl,
        inr (
          ModuleRow (codes "T"),
          InPorts,
          _,
          form refl refl,
          refl,
          inr (
            MemoryRow (codes "m"),
            InFields,
            _,
            form refl refl,
            refl,
            inr (
              FieldRow (DataType (UInt 8)),
              InFields,
              _,
              form refl refl,
              refl,
              inr (
                FieldRow (Depth 16),
                InFields,
                _,
                form refl refl,
                refl,
                inr (
                  FieldRow (ReadLatency 0),
                  InFields,
                  _,
                  form refl refl,
                  refl,
                  inr (
                    FieldRow (WriteLatency 1),
                    InFields,
                    _,
                    form refl refl,
                    refl,
                    inr (
                      FieldRow (Readers (codes "r" ∷ (codes "s" ∷ []))),
                      InFields,
                      _,
                      form refl refl,
                      refl,
                      inr (
                        FieldRow (Writers (codes "w" ∷ [])),
                        InFields,
                        _,
                        form refl refl,
                        refl,
                        inr (
                          FieldRow (ReadUnderWrite New),
                          InFields,
                          _,
                          form refl refl,
                          refl,
                          inr (
                            FieldRow (Depth 4),
                            InFields,
                            _,
                            form refl refl,
                            refl,
                            (refl, refl),
                          ),
                        ),
                      ),
                    ),
                  ),
                ),
              ),
            ),
          ),
        ),
      );
  whole = tt;
  circuit_rows = refl;
}

-- a reset is not valid after a memory's line
abbrev reset_behind_memory_text : List ℕ
reset_behind_memory_text = text_of (codes "circuit T :" ∷ codes "  module T :" ∷ codes "    mem m :" ∷ codes "      reset => (a, a)" ∷ [])

reset_behind_memory : HasReadFault reset_behind_memory_text (Syntax 4)
unfolding lib.Utf8.encode
reset_behind_memory = (
  (reset_behind_memory_text, (refl, refl)),
  (
    holding reset,
    record {
      before = holding header ∷ holding begun ∷ holding memory ∷ [];
      tokens = (
        word refl refl (word refl refl (one refl refl (ended tt))),
        (
          word refl refl (word refl refl (one refl refl (ended tt))),
          (
            word refl refl (word refl refl (one refl refl (ended tt))),
            tt,
          ),
        ),
      );
      rows = numbered 1 (CircuitRow (codes "T")) ∷ numbered 2 (ModuleRow (codes "T")) ∷ numbered 3 (MemoryRow (codes "m")) ∷ [];
      place = InFields;
      read =
          inr (
            CircuitRow (codes "T"),
            AfterCircuit,
            _,
            form refl refl,
            refl,
            inr (
              ModuleRow (codes "T"),
              InPorts,
              _,
              form refl refl,
              refl,
              inr (
                MemoryRow (codes "m"),
                InFields,
                _,
                form refl refl,
                refl,
                (refl, refl),
              ),
            ),
          );
      shallow = (
        shallow header (lit≤ tt),
        (
          shallow begun (lit≤ tt),
          (
            shallow memory (lit≤ tt),
            tt,
          ),
        ),
      );
      number = refl;
      fault = inl (codes "      reset => (a, a)", refl, word refl refl (two refl (lit≤ tt) refl (one refl refl (word refl refl (one refl refl (word refl refl (one refl refl (ended tt))))))), inr (no_place refl refl));
    },
    shallow reset (lit≤ tt),
    refl,
  ),
)

-- a field is not valid after a statement
abbrev field_behind_statement_text : List ℕ
field_behind_statement_text = text_of (codes "circuit T :" ∷ codes "  module T :" ∷ codes "    mem m :" ∷ codes "    skip" ∷ codes "      depth => 16" ∷ [])

field_behind_statement : HasReadFault field_behind_statement_text (Syntax 5)
unfolding lib.Utf8.encode
field_behind_statement = (
  (field_behind_statement_text, (refl, refl)),
  (
    holding depth,
    record {
      before = holding header ∷ holding begun ∷ holding memory ∷ holding skips ∷ [];
      tokens = (
        word refl refl (word refl refl (one refl refl (ended tt))),
        (
          word refl refl (word refl refl (one refl refl (ended tt))),
          (
            word refl refl (word refl refl (one refl refl (ended tt))),
            (
              word refl refl (ended tt),
              tt,
            ),
          ),
        ),
      );
      rows =
          numbered 1 (CircuitRow (codes "T"))
          ∷ numbered 2 (ModuleRow (codes "T"))
          ∷ numbered 3 (MemoryRow (codes "m"))
          ∷ numbered 4 SkipRow ∷ [];
      place = InStatements;
      read =
          inr (
            CircuitRow (codes "T"),
            AfterCircuit,
            _,
            form refl refl,
            refl,
            inr (
              ModuleRow (codes "T"),
              InPorts,
              _,
              form refl refl,
              refl,
              inr (
                MemoryRow (codes "m"),
                InFields,
                _,
                form refl refl,
                refl,
                inr (
                  SkipRow,
                  InStatements,
                  _,
                  form refl refl,
                  refl,
                  (refl, refl),
                ),
              ),
            ),
          );
      shallow = (
        shallow header (lit≤ tt),
        (
          shallow begun (lit≤ tt),
          (
            shallow memory (lit≤ tt),
            (
              shallow skips (lit≤ tt),
              tt,
            ),
          ),
        ),
      );
      number = refl;
      fault = inl (codes "      depth => 16", refl, word refl refl (two refl (lit≤ tt) refl (number refl refl (ended tt))), inr (no_place refl refl));
    },
    shallow depth (lit≤ tt),
    refl,
  ),
)

-- `readwriter` is outside of the language
abbrev readwriter_is_outside_text : List ℕ
readwriter_is_outside_text = text_of (codes "circuit T :" ∷ codes "  module T :" ∷ codes "    mem m :" ∷ codes "      readwriter => r" ∷ [])

readwriter_is_outside : HasReadFault readwriter_is_outside_text (Outside 4 (codes "readwriter"))
unfolding lib.Utf8.encode
readwriter_is_outside = (
  (readwriter_is_outside_text, (refl, refl)),
  (
    holding both,
    record {
      before = holding header ∷ holding begun ∷ holding memory ∷ [];
      tokens = (
        word refl refl (word refl refl (one refl refl (ended tt))),
        (
          word refl refl (word refl refl (one refl refl (ended tt))),
          (
            word refl refl (word refl refl (one refl refl (ended tt))),
            tt,
          ),
        ),
      );
      rows = numbered 1 (CircuitRow (codes "T")) ∷ numbered 2 (ModuleRow (codes "T")) ∷ numbered 3 (MemoryRow (codes "m")) ∷ [];
      place = InFields;
      read =
          inr (
            CircuitRow (codes "T"),
            AfterCircuit,
            _,
            form refl refl,
            refl,
            inr (
              ModuleRow (codes "T"),
              InPorts,
              _,
              form refl refl,
              refl,
              inr (
                MemoryRow (codes "m"),
                InFields,
                _,
                form refl refl,
                refl,
                (refl, refl),
              ),
            ),
          );
      shallow = (
        shallow header (lit≤ tt),
        (
          shallow begun (lit≤ tt),
          (
            shallow memory (lit≤ tt),
            tt,
          ),
        ),
      );
      number = refl;
      fault = inl (codes "      readwriter => r", refl, word refl refl (two refl (lit≤ tt) refl (word refl refl (ended tt))), inr (no_row refl));
    },
    shallow both (lit≤ tt),
    refl,
  ),
)
