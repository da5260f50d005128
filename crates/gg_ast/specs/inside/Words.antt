-- More on Words: what no promise of the program reaches.
use Rattle.std.specs.Prelude.{ℕ, List, [], ◌∷◌, Option, None, Some, codes, option_map, if◌then◌else◌}
use Rattle.std.specs.Option.{option_or}
use Rattle.std.specs.Str.{bytes_eq}
use Rattle.gg_bits.specs.Lists.{find_word}
use Rattle.gg_bits.specs.inside.Spelling.{named1, named2, named_const}
use Rattle.gg_ast.specs.declared.module.Direction.TheVariants as direction
use Rattle.gg_ast.specs.declared.statement.ReadUnderWrite.{ReadUnderWrite}
use Rattle.gg_ast.specs.declared.statement.Report.{Report}
use Rattle.gg_ast.specs.declared.statement.Report.TheVariants as report
use Rattle.gg_ast.specs.declared.words.Operation.{Operation}
use Rattle.gg_ast.specs.declared.words.Operation.TheVariants.{Unary, Binary, Fixed, Mux}
use Rattle.gg_ast.specs.declared.words.FieldWord.{FieldWord}
use Rattle.gg_ast.specs.declared.words.FieldWord.TheVariants as field
use Rattle.gg_ast.specs.declared.words.Keyword.{Keyword}
use Rattle.gg_ast.specs.declared.words.Keyword.TheVariants as keyword

-- the first word of a memory's field
abbrev pub field_text : FieldWord → List ℕ
field_text field.DataType = codes "data-type"
field_text field.Depth = codes "depth"
field_text field.ReadLatency = codes "read-latency"
field_text field.WriteLatency = codes "write-latency"
field_text field.Reader = codes "reader"
field_text field.Writer = codes "writer"
field_text field.ReadUnderWrite = codes "read-under-write"

-- the operation that a word names
abbrev pub operation_of : List ℕ → Option Operation
operation_of word =
    option_or (option_map Unary (named1 word))
    (option_or (option_map Binary (named2 word))
    (option_or (option_map Fixed (named_const word)) (if bytes_eq word (codes "mux") then Some Mux else None)))

-- the first words of some lines that are not connections
abbrev pub head_words : List (List ℕ × Keyword)
head_words =
    (codes "FIRRTL", keyword.Version) ∷ ((codes "circuit", keyword.Circuit) ∷ ((codes "module", keyword.Module) ∷ ((codes "input", keyword.Port direction.Input)
    ∷ ((codes "output", keyword.Port direction.Output) ∷ ((codes "wire", keyword.Wire) ∷ ((codes "node", keyword.Node) ∷ ((codes "reg", keyword.Register) ∷ [])))))))

-- the first words of other lines that are not connections
abbrev pub tail_words : List (List ℕ × Keyword)
tail_words =
    (codes "reset", keyword.Reset) ∷ ((codes "inst", keyword.Instance) ∷ ((codes "mem", keyword.Memory) ∷ ((codes "skip", keyword.Skip) ∷ ((codes "stop", keyword.Stop)
    ∷ ((codes "printf", keyword.Report report.Printf) ∷ ((codes "assert", keyword.Report report.Assert) ∷ ((codes "assume", keyword.Report report.Assume) ∷ ((codes "cover", keyword.Report report.Cover) ∷ []))))))))

-- the first words of a memory's fields
abbrev pub field_words : List (List ℕ × Keyword)
field_words =
    (codes "data-type", keyword.Field field.DataType) ∷ ((codes "depth", keyword.Field field.Depth) ∷ ((codes "read-latency", keyword.Field field.ReadLatency)
    ∷ ((codes "write-latency", keyword.Field field.WriteLatency) ∷ ((codes "reader", keyword.Field field.Reader) ∷ ((codes "writer", keyword.Field field.Writer)
    ∷ ((codes "read-under-write", keyword.Field field.ReadUnderWrite) ∷ []))))))

-- the first words of the second spelling
abbrev pub second_words : List (List ℕ × Keyword)
second_words =
    (codes "public", keyword.Public) ∷ ((codes "connect", keyword.Connect) ∷ ((codes "invalidate", keyword.Invalidate) ∷ ((codes "regreset", keyword.Regreset) ∷ [])))

-- the keyword that the first word of a line names, in either spelling; none for any other word
abbrev pub keyword_of : List ℕ → Option Keyword
keyword_of word =
    option_or (option_or (option_or (find_word word head_words) (find_word word tail_words)) (find_word word field_words)) (find_word word second_words)
