-- How the words of the grammar are written, and what each names (FIRRTL Specification, "Grammar"). How operations are
-- written is defined in gg_bits.
use Rattle.std.specs.Prelude.{ℕ, List, codes}
use Rattle.gg_bits.specs.declared.types.Kind.{Kind}
use Rattle.gg_bits.specs.declared.types.Kind.TheVariants as kind
use Rattle.gg_ast.specs.declared.module.Direction.{Direction}
use Rattle.gg_ast.specs.declared.module.Direction.TheVariants as direction
use Rattle.gg_ast.specs.declared.statement.ReadUnderWrite.{ReadUnderWrite}
use Rattle.gg_ast.specs.declared.statement.ReadUnderWrite.TheVariants as under_write
use Rattle.gg_ast.specs.declared.statement.Report.{Report}
use Rattle.gg_ast.specs.declared.statement.Report.TheVariants as report

-- how a kind is written in a type or a literal
abbrev pub kind_text : Kind → List ℕ
kind_text kind.UInt = codes "UInt"
kind_text kind.SInt = codes "SInt"

-- the first word of a port's line
abbrev pub direction_text : Direction → List ℕ
direction_text direction.Input = codes "input"
direction_text direction.Output = codes "output"

-- the first word of a statement that reports something
abbrev pub report_text : Report → List ℕ
report_text report.Printf = codes "printf"
report_text report.Assert = codes "assert"
report_text report.Assume = codes "assume"
report_text report.Cover = codes "cover"

-- the word after `read-under-write =>`
abbrev pub read_under_write_text : ReadUnderWrite → List ℕ
read_under_write_text under_write.Old = codes "old"
read_under_write_text under_write.New = codes "new"
read_under_write_text under_write.Undefined = codes "undefined"
