-- What the data of a memory's readers depend on. The rows of a memory's piece are settled in one way.
use Rattle.std.proofs.Common.{◌≡◌, ℕ, zero, suc, ◌<◌, List, [], ◌∷◌, ◌⊎◌, inl, inr, length, refl, sym, ◌∙◌, ap, subst, arith}
use Rattle.std.specs.Prelude.{All, Contains, None}
use Rattle.std.proofs.lemmas.List.{length-map}
use Rattle.std.proofs.lemmas.Grind.{same_number_lists}
use Rattle.gg_bits.specs.Shape.{Shape, shape}
use Rattle.gg_flat.specs.declared.memory.Latency.{Latency}
use Rattle.gg_flat.specs.declared.memory.Latency.TheVariants.{Zero, One}
use Rattle.gg_flat.specs.declared.memory.Reader.{Reader}
use Rattle.gg_flat.specs.declared.memory.Memory.{Memory}
use Rattle.gg_flat.specs.Line.{value_at, shape_at}
use Rattle.gg_flat.specs.Circuit.{FlatCircuit, signal_shapes, reader_at}
use Rattle.gg_flat.specs.State.{State}
use Rattle.gg_flat.specs.Settled.{Settled, driver_value}
use Rattle.gg_flat.specs.Depends.{SettlesOnce, AreAlike, DependsOn}
use Rattle.gg_flat.specs.Memory.{LooksAmong, read_word, bank_at}
use Rattle.gg_flat.specs.WellFormed.{reader_driver}
use Rattle.gg_node.specs.Machine.{needs_at}
use Rattle.gg_memunit.specs.MemoryUnit.{IsMemoryPiece, needs_by, needs_of}
use Rattle.gg_memunit.proofs.UnitLemmas.{of-sole, in-value, out-value, out-count, needs-are}

-- what the data of a reader needs are in-signals
needs-low : (latency : Latency) (n i : ℕ) (reader : Reader) → LooksAmong n reader → Contains (needs_by latency reader) i → i < n
needs-low Zero n i reader looks (zero, lt, is) = subst (λ s. s < n) is looks.0
needs-low Zero n i reader looks (suc zero, lt, is) = subst (λ s. s < n) is looks.1
needs-low Zero n i reader looks (suc (suc k), lt, is) = absurd (omega (arith, lt))
needs-low (One under) n i reader looks has = absurd (omega (arith, has.1))

-- the driver of a reader's data gives the same in two rows that agree on what the data needs
driver-agrees : (latency : Latency) (state : State) (inputs others v w : List ℕ) (sink : Shape) (o : ℕ) (reader : Reader) → ((i : ℕ) → Contains (needs_by latency reader) i → value_at v i ≡ value_at w i)
    → driver_value state inputs v sink (reader_driver latency 0 o reader) ≡ driver_value state others w sink (reader_driver latency 0 o reader)
driver-agrees Zero state inputs others v w sink o reader same =
    ap (λ a. read_word (bank_at state.banks 0).words a (value_at v reader.en)) (same reader.addr (0, omega arith, refl))
    ∙ ap (read_word (bank_at state.banks 0).words (value_at w reader.addr)) (same reader.en (1, omega arith, refl))
driver-agrees (One under) state inputs others v w sink o reader same = refl

-- signal s is one of the out-signals
pub record IsOutOf (piece : FlatCircuit) (s : ℕ) : Type 0 where
  pub place : ℕ
  pub within : place < length piece.outs
  pub is : value_at piece.outs place ≡ s

module _ (piece : FlatCircuit) (memory : Memory) (is : IsMemoryPiece piece) (only : piece.memories ≡ memory ∷ []) where
  -- two rows of one state give an out-signal the same value, if their inputs agree on what it needs
  out-agrees : (state : State) (inputs others v w : List ℕ) → Settled piece state inputs v → Settled piece state others w → (o : ℕ) → o < length memory.readers → AreAlike (needs_at (needs_of piece.memories) o) inputs others → value_at v (value_at piece.outs o) ≡ value_at w (value_at piece.outs o)
  out-agrees state inputs others v w sv sw o below alike =
      let reader = reader_at memory.readers o in
      let looks = of-sole (λ (memory : Memory). All (LooksAmong (length piece.ins)) memory.readers) piece.memories memory only is.readers o (record { addr = 0; en = 0; word = 0; clock = None }) below in
      out-value piece memory is only state inputs v sv o below
      ∙ driver-agrees memory.latency state inputs others v w (shape_at (signal_shapes piece) reader.word) o reader (λ i has.
      let low : i < length piece.ins = needs-low memory.latency (length piece.ins) i reader looks has in
      in-value piece memory is only state inputs v sv i low
      ∙ alike i (subst (λ (l : List ℕ). Contains l i) (sym (needs-are piece memory is only o below)) has)
      ∙ sym (in-value piece memory is only state others w sw i low))
      ∙ sym (out-value piece memory is only state others w sw o below)

  -- an out depends only on the ins that it needs
  pub memory-suffices : (o : ℕ) → o < length piece.outs → DependsOn piece (value_at piece.outs o) (needs_at (needs_of piece.memories) o)
  memory-suffices o lt = λ state inputs others v w sv sw alike. out-agrees state inputs others v w sv sw o (omega (arith, lt, out-count piece memory is only)) alike

  -- if each signal is an in-signal or an out-signal, there is at most one settled row
  pub memory-once : ((s : ℕ) → s < length piece.signals → (s < length piece.ins) ⊎ IsOutOf piece s) → SettlesOnce piece
  memory-once each = λ state inputs v w sv sw.
      same_number_lists v w (sv.typed.count ∙ sym sw.typed.count) (λ s lt. by state inputs v w sv sw s (each s (omega (arith, lt, sv.typed.count, length-map piece.signals (λ signal. shape signal.ty)))))
    where
      by : (state : State) (inputs v w : List ℕ) → Settled piece state inputs v → Settled piece state inputs w → (s : ℕ) → (s < length piece.ins) ⊎ IsOutOf piece s → value_at v s ≡ value_at w s
      by state inputs v w sv sw s (inl low) = in-value piece memory is only state inputs v sv s low ∙ sym (in-value piece memory is only state inputs w sw s low)
      by state inputs v w sv sw s (inr out) =
          subst (λ x. value_at v x ≡ value_at w x) out.is
          (out-agrees state inputs inputs v w sv sw out.place (omega (arith, out.within, out-count piece memory is only)) (λ place has. refl))
