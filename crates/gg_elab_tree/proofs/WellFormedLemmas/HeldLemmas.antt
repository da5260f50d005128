-- In the flat circuit of a circuit each register is held by exactly one signal.
use Rattle.std.proofs.Common.{◌≡◌, ℕ, ◌<◌, List, length, map, true, refl, sym, ap, ◌∙◌, arith}
use Rattle.std.specs.Prelude.{count_by, slice_index_or}
use Rattle.std.proofs.lemmas.List.{length-map, take_all}
use Rattle.gg_bits.specs.Shape.{Shape, shape}
use Rattle.gg_ast.specs.declared.module.Port.{Port}
use Rattle.gg_flat.specs.declared.memory.Latency.TheVariants as latency
use Rattle.gg_flat.specs.declared.piece.Driver.{Driver}
use Rattle.gg_flat.specs.declared.piece.Driver.TheVariants.{Held}
use Rattle.gg_flat.specs.declared.piece.Register.{Register}
use Rattle.gg_flat.specs.Circuit.{FlatCircuit, driver_at}
use Rattle.gg_flat.specs.Line.{shape_at}
use Rattle.gg_elab_sites.specs.Flat.{Drive, Outside, Gets, Holds, Answers, FlatSignal, FlatMemory}
use Rattle.gg_elab_sites.specs.IsFlat.{IsDrivenBy, IsFlatOf, bindings_of, signals_of, is_outside, is_register, drive_at, count_before}
use Rattle.gg_elab_sites.specs.Meaning.{Bindings}
use Rattle.gg_elab_sites.specs.Signals.{Types}
use Rattle.gg_elab_sites.proofs.PassingLemmas.{passing, passed-at, Passes, passing-at, passing-count}
use Rattle.gg_elab_tree.specs.Held.{AreHeldOnce}

module _ (bindings : Bindings) (registers : List Register) (inputs states : ℕ) (sink : Shape) where
  -- a signal that holds a register is a register's, and its number is the count of registers before it
  held-number : (drive : Drive) (driver : Driver) (r : ℕ) → IsDrivenBy bindings registers inputs states sink drive driver → driver ≡ Held r → (is_register drive ≡ true) × (states ≡ r)
  held-number Outside driver r h is = absurd (cc)
  held-number (Gets scope c) driver r h is = absurd (let e = h.computed in cc)
  held-number (Holds scope reset next own clock) driver r h is = (refl, let e = h.held in cc)
  held-number (Answers memory place latency.Zero addr en) driver r h is = absurd (cc)
  held-number (Answers memory place (latency.One under) addr en) driver r h is = absurd (cc)

  -- a register's signal holds the register with the count of registers before it
  holds-number : (drive : Drive) (driver : Driver) → IsDrivenBy bindings registers inputs states sink drive driver → is_register drive ≡ true → driver ≡ Held states
  holds-number Outside driver h is = absurd (cc)
  holds-number (Gets scope c) driver h is = absurd (cc)
  holds-number (Holds scope reset next own clock) driver h is = h.held
  holds-number (Answers memory place late addr en) driver h is = absurd (cc)

module _ (types : Types) (all : List FlatSignal) (banks : List FlatMemory) (ports : List Port) (stops : List (List ℕ)) (flat : FlatCircuit) (is : IsFlatOf types all banks ports stops flat) where
  abbrev drives : List Drive
  drives = map (λ x. x.drive) all

  drive-count : length drives ≡ length all
  drive-count = length-map all (λ (x : FlatSignal). x.drive)

  signal-count : length flat.signals ≡ length all
  signal-count = sym (length-map flat.signals (λ signal. shape signal.ty)) ∙ ap length is.shapes ∙ length-map all (λ (x : FlatSignal). x.shape)

  -- the number of the register that a signal holds, and that it holds it
  number-at : (s r : ℕ) → s < length all → driver_at flat s ≡ Held r → (is_register (drive_at all s) ≡ true) × (count_before is_register all s ≡ r)
  number-at s r lt holds =
      held-number (bindings_of types all banks) flat.registers (count_before is_outside all s) (count_before is_register all s) (shape_at (signals_of all).shapes s)
      (drive_at all s) (driver_at flat s) r (is.drivers s lt) holds

  holds-at : (s : ℕ) → s < length all → is_register (drive_at all s) ≡ true → driver_at flat s ≡ Held (count_before is_register all s)
  holds-at s lt passes =
      holds-number (bindings_of types all banks) flat.registers (count_before is_outside all s) (count_before is_register all s) (shape_at (signals_of all).shapes s)
      (drive_at all s) (driver_at flat s) (is.drivers s lt) passes

  -- a register's signal is the place behind as many others as stand before it
  place-of : (s : ℕ) → s < length all → is_register (drive_at all s) ≡ true → slice_index_or (passing is_register 0 drives) (count_before is_register all s) 0 ≡ s
  place-of s lt passes = (passed-at is_register drives 0 s Outside 0 (omega (arith, lt, drive-count)) passes).1 ∙ omega arith

  pub held-once : AreHeldOnce flat
  held-once r lt = record {
    signal = p.place;
    within = omega (arith, inside, signal-count);
    holds = holds-at p.place inside (p.passes Outside) ∙ ap Held p.before;
    only = λ s below holds.
        let known : s < length all = omega (arith, below, signal-count) in
        let h = number-at s r known holds in
        sym (place-of s known h.0)
        ∙ ap (λ k. slice_index_or (passing is_register 0 drives) k 0) (h.1 ∙ sym p.before)
        ∙ place-of p.place inside (p.passes Outside);
  }
    where
      total : count_by is_register drives ≡ length flat.registers
      total = sym (ap (count_by is_register) (take_all (length all) drives (omega (arith, drive-count)))) ∙ sym is.register_count

      p : Passes is_register drives 0 r (slice_index_or (passing is_register 0 drives) r 0)
      p = passing-at is_register drives 0 r 0 (omega (arith, lt, total, passing-count is_register drives 0))

      inside : p.place < length all
      inside = omega (arith, p.inside, drive-count)
