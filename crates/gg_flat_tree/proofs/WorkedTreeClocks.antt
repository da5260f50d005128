-- The clocks of a small circuit are those of its tree, and with one flaw each they are not.
--
-- The top has the Clock inputs `c` and `d`. Its instance `u` has the Clock inputs `a`, which is connected to `d`, and `b`,
-- which is connected to `c`, and a register `s` that follows `b`. The instance `v` in `u` has a Clock input, which is
-- connected to `a`, and a register `r` that follows it.
use Rattle.std.proofs.Common.{◌≡◌, ◌≢◌, ℕ, zero, suc, ◌<◌, ◌≤◌, List, [], ◌∷◌, Option, Some, None, refl, sym, ap, subst, arith, lit<, lit≤}
use Rattle.std.specs.Prelude.{All, slice_get, slice_index_or}
use Rattle.gg_flat.specs.declared.piece.Driver.TheVariants.{Held}
use Rattle.gg_flat.specs.declared.piece.Register.{Register}
use Rattle.gg_flat_tree.specs.declared.tree.Instance.{Instance}
use Rattle.gg_flat.specs.Circuit.{FlatCircuit, driver_at}
use Rattle.gg_flat_tree.specs.Clocked.{IsClocked, IsClockOf, clock_at, top_clocks}
use Rattle.gg_flat_tree.specs.Tree.{InstanceTree, IsInnermost, Holds, instance_at, parent_place}
use Rattle.gg_flat.proofs.WorkedForms.{only, both, apart}
use Rattle.gg_flat.proofs.WorkedCircuits.{eight}

abbrev register : Option ℕ → Register
register clock = record { ty = eight; reset = None; next = None; clock = clock }

-- `u.s` and `u.v.r`, whose registers follow these clocks
abbrev with : Option ℕ → Option ℕ → FlatCircuit
with first second =
    record {
      paths = (117 ∷ 46 ∷ 115 ∷ []) ∷ (117 ∷ 46 ∷ 118 ∷ 46 ∷ 114 ∷ []) ∷ [];
      signals = record { ty = eight; driver = Held 0 } ∷ record { ty = eight; driver = Held 1 } ∷ [];
      registers = register first ∷ register second ∷ [];
      memories = [];
      ins = [];
      outs = [];
      clocks = 2;
    }

abbrev circuit : FlatCircuit
circuit = with (Some 0) (Some 1)

abbrev instance : Option ℕ → ℕ → List (Option ℕ) → Instance
instance parent first clocks = record { parent = parent; «module» = first; first = first; end = 2; ports = []; memories = []; clocks = clocks }

-- the Clock inputs of `u` follow these of the top
abbrev tree_with : List (Option ℕ) → InstanceTree
tree_with of_u =
    record {
      paths = [] ∷ (117 ∷ []) ∷ (117 ∷ 46 ∷ 118 ∷ []) ∷ [];
      instances = instance None 0 (Some 0 ∷ Some 1 ∷ []) ∷ instance (Some 0) 0 of_u ∷ instance (Some 1) 1 (Some 0 ∷ []) ∷ [];
      memory_paths = [];
      memories = [];
      clocks = (99 ∷ []) ∷ (100 ∷ []) ∷ [];
      register_clocks = Some 1 ∷ Some 0 ∷ [];
      stops = [];
    }

abbrev tree : InstanceTree
tree = tree_with (Some 1 ∷ Some 0 ∷ [])

-- ---- from an instance up

of-u : top_clocks tree 1 ≡ Some 1 ∷ Some 0 ∷ []
of-u = refl

of-v : top_clocks tree 2 ≡ Some 1 ∷ []
of-v = refl

same : {a b : ℕ} → Some a ≡ Some b → a ≡ b
same e = ap parent_place e

-- the Clock input of `v` isn't the top's of the same number
near-own-number : top_clocks tree 2 ≢ Some 0 ∷ []
near-own-number e = apart 1 0 refl (same (ap (λ l. slice_index_or l 0 None) e))

-- ---- the instance that each signal belongs to

none-some : {k : ℕ} {A : Type 0} → None ≡ Some k → A
none-some e = absurd (cc)

inner-u : IsInnermost tree 1 0
inner-u = record { known = lit< tt; holds = (lit≤ tt, lit< tt); deeper = deeper }
  where
    deeper : (i : ℕ) → i < 3 → (instance_at tree i).parent ≡ Some 1 → ¬ Holds (instance_at tree i) 0
    deeper zero lt is = none-some is
    deeper (suc zero) lt is = absurd (apart 0 1 refl (same is))
    deeper (suc (suc zero)) lt is = λ h. let low : 1 ≤ 0 = h.0 in absurd (omega (arith, low))
    deeper (suc (suc (suc i))) lt is = absurd (omega arith)

-- what holds of `u.s` in `u` and of `u.v.r` in `v` holds of each signal in the instance that it belongs to
by-signals : (P : ℕ → ℕ → Type 0) → P 1 0 → P 2 1 → (k s : ℕ) → IsInnermost tree k s → P k s
by-signals P first second zero s is = absurd (is.deeper 1 (lit< tt) refl is.holds)
by-signals P first second (suc zero) zero is = first
by-signals P first second (suc zero) (suc s) is = absurd (is.deeper 2 (lit< tt) refl (omega arith, is.holds.1))
by-signals P first second (suc (suc zero)) zero is = let low : 1 ≤ 0 = is.holds.0 in absurd (omega (arith, low))
by-signals P first second (suc (suc zero)) (suc zero) is = second
by-signals P first second (suc (suc zero)) (suc (suc s)) is = let past : suc (suc s) < 2 = is.holds.1 in absurd (omega (arith, past))
by-signals P first second (suc (suc (suc k))) s is = let past : suc (suc (suc k)) < 3 = is.known in absurd (omega (arith, past))

held : {a b : ℕ} → Held a ≡ Held b → a ≡ b
held e = cc

-- ---- the clocks

above-known : (k above : ℕ) → k < 3 → (instance_at tree k).parent ≡ Some above → All (IsClockOf tree above) (instance_at tree k).clocks
above-known zero above lt is = none-some is
above-known (suc zero) above lt is = subst (λ p. All (IsClockOf tree p) (instance_at tree 1).clocks) (same is) (λ i d inside. both (λ j. IsClockOf tree 0 (slice_index_or (instance_at tree 1).clocks j d)) (lit< tt) (lit< tt) i inside)
above-known (suc (suc zero)) above lt is = subst (λ p. All (IsClockOf tree p) (instance_at tree 2).clocks) (same is) (λ i d inside. only (λ j. IsClockOf tree 1 (slice_index_or (instance_at tree 2).clocks j d)) (lit< tt) i inside)
above-known (suc (suc (suc k))) above lt is = absurd (omega arith)

-- register r of the instance at place k follows the clock that its own Clock input leads to
abbrev Follows : ℕ → ℕ → Type 0
Follows k s = (r : ℕ) (found : Register) → driver_at circuit s ≡ Held r → slice_get circuit.registers r ≡ Some found → found.clock ≡ clock_at (top_clocks tree k) (slice_index_or tree.register_clocks r None)

abbrev clock_in : Option Register → Option ℕ
clock_in None = None
clock_in (Some found) = found.clock

pub clocked : IsClocked circuit tree
clocked = record {
  count = refl;
  top = refl;
  instances = above-known;
  register_count = refl;
  register_known = λ k s r inner is.
      by-signals (λ k s. (r : ℕ) → driver_at circuit s ≡ Held r → IsClockOf tree k (slice_index_or tree.register_clocks r None))
      (λ r is. subst (λ n. IsClockOf tree 1 (slice_index_or tree.register_clocks n None)) (held is) (lit< tt))
      (λ r is. subst (λ n. IsClockOf tree 2 (slice_index_or tree.register_clocks n None)) (held is) (lit< tt))
      k s inner r is;
  registers = λ k s r found inner is there.
      by-signals Follows
      (λ r found is there. subst (λ n. slice_get circuit.registers n ≡ Some found → found.clock ≡ clock_at (top_clocks tree 1) (slice_index_or tree.register_clocks n None)) (held is) (λ e. sym (ap clock_in e)) there)
      (λ r found is there. subst (λ n. slice_get circuit.registers n ≡ Some found → found.clock ≡ clock_at (top_clocks tree 2) (slice_index_or tree.register_clocks n None)) (held is) (λ e. sym (ap clock_in e)) there)
      k s inner r found is there;
  port_known = λ j lt. absurd (omega arith);
  ports = λ j lt. absurd (omega arith);
  stops = λ j lt. absurd (omega arith);
}

-- ---- flaws

-- a register under the wrong one of two clocks
wrong-clock : ¬ IsClocked (with (Some 1) (Some 1)) tree
wrong-clock is = apart 1 0 refl (same (is.registers 1 0 0 (register (Some 1)) inner-u refl refl))

-- a Clock input of `u` that would follow a third one of the top
no-third : ¬ IsClocked circuit (tree_with (Some 2 ∷ Some 0 ∷ []))
no-third is = let past : 2 < 2 = is.instances 1 0 (lit< tt) refl 0 None (lit< tt) in absurd (omega (arith, past))

-- a circuit with a clock that the top doesn't have
one-more : ¬ IsClocked (record circuit { clocks = 3 }) tree
one-more is = apart 2 3 refl is.count
