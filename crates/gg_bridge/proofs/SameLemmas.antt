-- Where numbers stand for themselves, what is renamed stays as it is.
use Rattle.std.proofs.Common.{◌≡◌, ℕ, ◌<◌, List, length, get_or, ◌∙◌}
use Rattle.std.specs.Prelude.{Option}
use Rattle.gg_flat.specs.declared.line.Node.{Node}
use Rattle.gg_flat.specs.declared.memory.Memory.{Memory}
use Rattle.gg_flat.specs.declared.piece.Register.{Register}
use Rattle.gg_flat_tree.specs.Clocked.{clock_at}
use Rattle.gg_flat.specs.Line.{value_at}
use Rattle.gg_flat.specs.WellFormed.{IsClock, IsClockedMemory}
use Rattle.gg_part.specs.Part.{in_whole, NamesBelow, RegisterBelow, MemoryBelow}
use Rattle.gg_flat.specs.inside.Renaming.{same_numbers}
use Rattle.gg_flat.specs.Renaming.{renamed_line, renamed_memory, renamed_register}
use Rattle.gg_flat.proofs.RenamedLineLaws as lines
use Rattle.gg_flat.proofs.RenamedLaws as things

module _ (globals : List ℕ) (same : (s : ℕ) → s < length globals → value_at globals s ≡ s) where
  pub line-same : (line : List Node) → NamesBelow (length globals) line → renamed_line (value_at globals) line ≡ line
  line-same line below = lines.line-agree (value_at globals) (λ s. s) line (λ s named. same s (below s named)) ∙ lines.line-same line

module _ (globals : List ℕ) (same : (s : ℕ) → s < length globals → value_at globals s ≡ s) (clocks : List (Option ℕ)) (kept : (clock : Option ℕ) → IsClock (length clocks) clock → clock_at clocks clock ≡ clock) where
  pub register-same : (register : Register) → RegisterBelow (length globals) register → IsClock (length clocks) register.clock → renamed_register (in_whole globals clocks) register ≡ register
  register-same register below is =
      things.register-agree (in_whole globals clocks) same_numbers register (λ s named. same s (below s named)) (kept register.clock is) ∙ things.register-same register

  pub memory-same : (memory : Memory) → MemoryBelow (length globals) memory → IsClockedMemory (length clocks) memory → renamed_memory (in_whole globals clocks) memory ≡ memory
  memory-same memory below are =
      things.memory-agree (in_whole globals clocks) same_numbers memory
      (things.memory-weaken (λ s. s < length globals) (things.AgreeAt (in_whole globals clocks) same_numbers) memory same below)
      (record { readers = λ k d lt. kept (get_or memory.readers k d).clock (are.readers k d lt); writers = λ k d lt. kept (get_or memory.writers k d).clock (are.writers k d lt) })
      ∙ things.memory-same memory
