-- Units worked by hand: what their out-signals reach and need, and lists that aren't needs.
use Rattle.std.proofs.Common.{◌≡◌, ℕ, zero, suc, ◌<◌, List, [], ◌∷◌, refl, sym, subst, inl, inr, ◌⊎◌, arith, lit<}
use Rattle.std.specs.Prelude.{slice_index_or, Contains}
use Rattle.gg_bits.specs.declared.ops.Op2.TheVariants.{Xor}
use Rattle.gg_flat.specs.declared.line.Op.TheVariants.{Ref, Two}
use Rattle.gg_flat.specs.declared.memory.UnderWrite.TheVariants.{New}
use Rattle.gg_flat.specs.declared.piece.Driver.TheVariants.{Input, Computed}
use Rattle.gg_flat.specs.Line.{value_at}
use Rattle.gg_flat.specs.Circuit.{FlatCircuit}
use Rattle.gg_flat.specs.Reads.{Reads, Reaches}
use Rattle.gg_flat.proofs.WorkedCircuits.{eight, node}
use Rattle.gg_flat.proofs.WorkedForms.{only, both, same}
use Rattle.gg_flat.proofs.WorkedMemories.{ports, late, copy, signal}
use Rattle.gg_order.specs.needs.Needs.{AreNeeds}
use Rattle.gg_order.proofs.NeedsLemmas.ReachLemmas.{along-reaches}

-- Signals 0 and 1 are the inputs `x` and `k`, 2 and 3 the outputs `p`, which is `x`, and `q`, which is `xor(x, k)`.
abbrev pub unit : FlatCircuit
unit =
    record {
      paths = (120 ∷ []) ∷ (107 ∷ []) ∷ (112 ∷ []) ∷ (113 ∷ []) ∷ [];
      signals =
          signal eight (Input 0) ∷ signal eight (Input 1) ∷ copy eight 0
          ∷ signal eight (Computed (node eight (Ref 0) ∷ node eight (Ref 1) ∷ node eight (Two Xor 0 1) ∷ [])) ∷ [];
      registers = [];
      memories = [];
      ins = 0 ∷ 1 ∷ [];
      outs = 2 ∷ 3 ∷ [];
      clocks = 0;
    }

p-x : Reaches unit 2 0
p-x = record { path = 0 ∷ []; reads = (record { signal = lit< tt; names = (0, lit< tt, refl) }, refl) }

q-x : Reaches unit 3 0
q-x = record { path = 0 ∷ []; reads = (record { signal = lit< tt; names = (0, lit< tt, refl) }, refl) }

pub q-k : Reaches unit 3 1
q-k = record { path = 1 ∷ []; reads = (record { signal = lit< tt; names = (1, lit< tt, refl) }, refl) }

-- the signals that `p` reaches: `x` and itself
abbrev pub In : ℕ → Type 0
In zero = Unit {0}
In (suc zero) = ⊥
In (suc (suc zero)) = Unit {0}
In (suc (suc (suc s))) = ⊥

-- a line that copies signal a reads only a
pub copies : (a s : ℕ) → Contains (Ref a ∷ []) (Ref s) → a ≡ s
copies a s (zero, lt, is) = same a s is
copies a s (suc k, lt, is) = absurd (omega arith)

pub in-closed : (x y : ℕ) → In x → Reads unit x y → In y
in-closed zero y at reads = absurd reads.names
in-closed (suc zero) y at reads = absurd at
in-closed (suc (suc zero)) y at reads = subst In (copies 0 y reads.names) tt
in-closed (suc (suc (suc x))) y at reads = absurd at

-- `p` doesn't reach `k`
pub p-k : ¬ Reaches unit 2 1
p-k to = along-reaches unit In in-closed 2 1 tt to

-- `p` needs `x` alone
p-needs : AreNeeds unit 2 (0 ∷ [])
p-needs =
    record {
      ascending = λ i j d lt within. absurd (omega arith);
      exact = λ place. (
        λ has. only (λ i. slice_index_or (0 ∷ []) i place ≡ place → (place < 2) × Reaches unit 2 (value_at unit.ins place)) (λ is. subst (λ (s : ℕ). (s < 2) × Reaches unit 2 (value_at unit.ins s)) is (lit< tt, p-x)) has.0 has.1 has.2,
        λ h. both (λ i. Reaches unit 2 (value_at unit.ins i) → Contains (0 ∷ []) i) (λ to. (0, lit< tt, refl)) (λ to. absurd (p-k to)) place h.0 h.1,
      );
    }

-- it doesn't need both
p-both : ¬ AreNeeds unit 2 (0 ∷ 1 ∷ [])
p-both needs = p-k ((needs.exact 1).0 (1, lit< tt, refl)).1

-- `q` needs both, and not `x` alone
q-alone : ¬ AreNeeds unit 3 (0 ∷ [])
q-alone needs =
    let alone : List ℕ = 0 ∷ [] in
    let has = (needs.exact 1).1 (lit< tt, q-k) in
    only (λ i. slice_index_or alone i 1 ≡ 1 → ⊥) (λ is. absurd (omega (arith, is))) has.0 has.1 has.2

-- needs stand in ascending order
q-late : ¬ AreNeeds unit 3 (1 ∷ 0 ∷ [])
q-late needs = absurd (omega (arith, needs.ascending 0 1 0 (lit< tt) (lit< tt)))

-- ---- memories

-- the output of a reader of latency 0 reaches the input that is its address
word-address : Reaches ports 2 0
word-address =
    record {
      path = 6 ∷ 4 ∷ 0 ∷ [];
      reads = (
        record { signal = lit< tt; names = (0, lit< tt, refl) },
        (
          record { signal = lit< tt; names = inl refl },
          (record { signal = lit< tt; names = (0, lit< tt, refl) }, refl),
        ),
      );
    }

-- and the input that enables it
word-enable : Reaches ports 3 1
word-enable =
    record {
      path = 9 ∷ 8 ∷ 1 ∷ [];
      reads = (
        record { signal = lit< tt; names = (0, lit< tt, refl) },
        (
          record { signal = lit< tt; names = inr refl },
          (record { signal = lit< tt; names = (0, lit< tt, refl) }, refl),
        ),
      );
    }

-- the output of a late reader reaches no input: just its data and itself
abbrev Late : ℕ → Type 0
Late s = (s ≡ 3) ⊎ (s ≡ 6)

late-closed : (x y : ℕ) → Late x → Reads (late New) x y → Late y
late-closed x y (inl is) reads = let at : Reads (late New) 3 y = subst (λ (s : ℕ). Reads (late New) s y) is reads in inr (sym (copies 6 y at.names))
late-closed x y (inr is) reads = let at : Reads (late New) 6 y = subst (λ (s : ℕ). Reads (late New) s y) is reads in absurd at.names

late-none : AreNeeds (late New) 3 []
late-none =
    record {
      ascending = λ i j d lt within. absurd (omega arith);
      exact = λ place. (
        λ has. absurd (omega (arith, has.1)),
        λ h. absurd (none place h.0 (along-reaches (late New) Late late-closed 3 (value_at (late New).ins place) (inl refl) h.1)),
      );
    }
  where
    none : (place : ℕ) → place < 3 → Late (value_at (0 ∷ 1 ∷ 2 ∷ []) place) → ⊥
    none zero lt (inl is) = omega (arith, is)
    none zero lt (inr is) = omega (arith, is)
    none (suc zero) lt (inl is) = omega (arith, is)
    none (suc zero) lt (inr is) = omega (arith, is)
    none (suc (suc zero)) lt (inl is) = omega (arith, is)
    none (suc (suc zero)) lt (inr is) = omega (arith, is)
    none (suc (suc (suc place))) lt is = omega (arith, lt)
