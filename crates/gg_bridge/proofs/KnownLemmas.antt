-- What a well-formed circuit names is its own.
use Rattle.std.proofs.Common.{ℕ, ◌<◌, length, get_or, arith}
use Rattle.std.proofs.lemmas.List.{length-map}
use Rattle.std.proofs.lemmas.Option.{slice_get-get_or}
use Rattle.gg_bits.specs.Shape.{shape}
use Rattle.gg_flat.specs.declared.piece.Register.{Register}
use Rattle.gg_flat.specs.declared.piece.Signal.{Signal}
use Rattle.gg_flat.specs.declared.memory.Memory.{Memory}
use Rattle.gg_flat.specs.Circuit.{FlatCircuit}
use Rattle.gg_flat.specs.WellFormed.{IsWellFormed}
use Rattle.gg_order.proofs.ReadLemmas.{register-names_within}
use Rattle.gg_part.specs.Part.{RegisterBelow, MemoryBelow}

module _ (circuit : FlatCircuit) (formed : IsWellFormed circuit) where
  pub register-below : (r : ℕ) (any : Register) → r < length circuit.registers → RegisterBelow (length circuit.signals) (get_or circuit.registers r any)
  register-below r any lt s names =
      register-names_within circuit r s (get_or circuit.registers r any) formed (slice_get-get_or circuit.registers r any lt) names

  pub memory-below : (m : ℕ) (any : Memory) → m < length circuit.memories → MemoryBelow (length circuit.signals) (get_or circuit.memories m any)
  memory-below m any lt =
      let is = formed.memories m any lt in
      let count = length-map circuit.signals (λ (signal : Signal). shape signal.ty) in
      record {
        readers = λ r d low. let fields = is.readers r d low in (omega (arith, fields.address.0, count), omega (arith, fields.enable.0, count), omega (arith, fields.output.0, count));
        writers = λ w d low. let fields = is.writers w d low in (omega (arith, fields.address.0, count), omega (arith, fields.enable.0, count), omega (arith, fields.input.0, count), omega (arith, fields.masked.0, count));
      }
