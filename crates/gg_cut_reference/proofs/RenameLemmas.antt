-- What is named by a list of numbers, named again by another function, is named by the list of the other numbers.
use Rattle.std.proofs.Common.{◌≡◌, ℕ, ◌<◌, List, [], length, map, sym}
use Rattle.std.specs.Prelude.{Option}
use Rattle.std.proofs.lemmas.List.{get_or-map}
use Rattle.gg_flat.specs.declared.line.Node.{Node}
use Rattle.gg_flat.specs.declared.memory.Memory.{Memory}
use Rattle.gg_flat.specs.declared.piece.Register.{Register}
use Rattle.gg_flat.specs.Line.{value_at}
use Rattle.gg_part.specs.Part.{NamesBelow, RegisterBelow, MemoryBelow, in_whole}
use Rattle.gg_part.proofs.MovedLemmas.{line-moved, register-moved, memory-moved}
use Rattle.gg_flat.specs.Renaming.{renamed_line, renamed_memory, renamed_register, signals_by}

module _ (globals : List ℕ) (to : ℕ → ℕ) where
  pub value-by : (s : ℕ) → s < length globals → to (value_at globals s) ≡ value_at (map to globals) s
  value-by s lt = sym (get_or-map to globals s 0 0 lt)

  pub line-by : (line : List Node) → NamesBelow (length globals) line → renamed_line to (renamed_line (value_at globals) line) ≡ renamed_line (value_at (map to globals)) line
  line-by line below = sym (line-moved to globals [] line below)

  pub register-by : (clocks : List (Option ℕ)) (register : Register) → RegisterBelow (length globals) register → renamed_register (signals_by to) (renamed_register (in_whole globals clocks) register) ≡ renamed_register (in_whole (map to globals) clocks) register
  register-by clocks register below = sym (register-moved to globals clocks register below)

  pub memory-by : (clocks : List (Option ℕ)) (memory : Memory) → MemoryBelow (length globals) memory → renamed_memory (signals_by to) (renamed_memory (in_whole globals clocks) memory) ≡ renamed_memory (in_whole (map to globals) clocks) memory
  memory-by clocks memory below = sym (memory-moved to globals clocks memory below)
