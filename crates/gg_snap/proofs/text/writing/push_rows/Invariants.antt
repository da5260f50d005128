use Rattle.std.proofs.Common.{◌≡◌, ◌++◌, string_bytes, take}
use Rattle.std.specs.List.{concat}
use Rattle.gg_snap.specs.text.Lines.{value_lines}
use Rattle.gg_snap.proofs.text.writing.push_rows.Given as goal

abbrev pub invariant-loop-row : goal.invariant-loop-row
invariant-loop-row l = string_bytes l.text ≡ string_bytes l.initial.text ++ concat (value_lines l.state (take l.row-index l.rows))
