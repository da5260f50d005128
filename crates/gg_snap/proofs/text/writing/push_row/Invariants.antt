use Rattle.std.proofs.Common.{◌≡◌, ◌++◌, string_bytes}
use Rattle.std.specs.List.{concat, flat_map, range_with_len}
use Rattle.gg_snap.specs.text.Lines.{shown, value_of}
use Rattle.gg_snap.proofs.text.writing.push_row.Given as goal

abbrev pub invariant-loop-address : goal.invariant-loop-address
invariant-loop-address l = string_bytes l.text ≡ string_bytes l.initial.text ++ concat (flat_map (λ a. shown l.row a (value_of l.state l.row.at a)) (range_with_len 0 l.address))
