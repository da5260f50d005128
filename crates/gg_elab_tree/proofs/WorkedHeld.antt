-- A flat circuit with one register, whose first signal holds it; and near misses.
use Rattle.std.proofs.Common.{◌≡◌, ℕ, zero, suc, ◌<◌, [], ◌∷◌, ◌++◌, None, refl, sym, ◌∙◌, arith, lit≤}
use Rattle.gg_bits.specs.declared.types.Kind.TheVariants.{UInt}
use Rattle.gg_bits.specs.declared.types.Ty.{Ty}
use Rattle.gg_flat.specs.declared.line.Op.TheVariants.{Ref}
use Rattle.gg_flat.specs.declared.piece.Driver.{Driver}
use Rattle.gg_flat.specs.declared.piece.Driver.TheVariants.{Held, Computed}
use Rattle.gg_flat.specs.Circuit.{FlatCircuit, driver_at}
use Rattle.gg_elab_tree.specs.Held.{AreHeldOnce}

abbrev one : Ty
one = record { kind = UInt; width = 1; positive = lit≤ tt; bounded = lit≤ tt }

-- one register, with a second signal that has this driver
abbrev circuit : Driver → FlatCircuit
circuit second =
    record {
      paths = [];
      signals = record { ty = one; driver = Held 0 } ∷ record { ty = one; driver = second } ∷ [];
      registers = record { ty = one; reset = None; next = None; clock = None } ∷ [];
      memories = [];
      ins = [];
      outs = [];
      clocks = 0;
    }

abbrev follower : FlatCircuit
follower = circuit (Computed (record { ty = one; op = Ref 0 } ∷ []))

first-holds : (s : ℕ) → s < 2 → driver_at follower s ≡ Held 0 → s ≡ 0
first-holds zero lt is = refl
first-holds (suc zero) lt is = absurd (cc)
first-holds (suc (suc s)) lt is = absurd (omega (arith, lt))

held : AreHeldOnce follower
held zero lt = record { signal = 0; within = lit≤ tt; holds = refl; only = first-holds }
held (suc r) lt = absurd (omega (arith, lt))

-- a second signal that holds the register is one too many
twice : AreHeldOnce (circuit (Held 0)) → ⊥
twice h =
    let one = h 0 (lit≤ tt) in
    let same : 0 ≡ 1 = one.only 0 (lit≤ tt) refl ∙ sym (one.only 1 (lit≤ tt) refl) in
    omega (arith, same)

-- a register that no signal holds isn't held
unheld : AreHeldOnce (record follower { registers = follower.registers ++ follower.registers }) → ⊥
unheld h = none (h 1 (lit≤ tt)).signal (h 1 (lit≤ tt)).within (h 1 (lit≤ tt)).holds
  where
    none : (s : ℕ) → s < 2 → driver_at follower s ≡ Held 1 → ⊥
    none zero lt is = cc
    none (suc zero) lt is = cc
    none (suc (suc s)) lt is = omega (arith, lt)
