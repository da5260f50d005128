-- The unit `a` of a circuit of two units, driven by hand: its out `p` is the in `x`, and its out `q` is `xor(x, k)`.
use Rattle.std.proofs.Common.{◌≡◌, ℕ, zero, suc, ◌<◌, List, [], ◌∷◌, Option, Some, None, Bool, true, false, refl, ap, ◌∙◌, arith, lit<}
use Rattle.std.specs.Prelude.{Contains, IsSome, slice_index_or}
use Rattle.gg_bits.specs.Shape.{Fits, uint}
use Rattle.gg_bits.specs.Meaning.{extended}
use Rattle.gg_flat.specs.Line.{shape_at, value_at}
use Rattle.gg_flat.specs.Circuit.{signal_shapes, driver_at}
use Rattle.gg_flat.specs.Settled.{Settled, driver_value}
use Rattle.gg_flat.proofs.WorkedForms.{only, both, four}
use Rattle.gg_node.specs.Machine.{Machine, latch_at, missing, no_state}
use Rattle.gg_node.specs.Token.{AgreesOn, IsToken}
use Rattle.gg_node.specs.inside.Step.{MayFire, MayFinish}
use Rattle.gg_node.specs.Step.{with_latch, finished}
use Rattle.gg_program.specs.Programmed.{Programmed}
use Rattle.gg_order.proofs.NeedsLemmas.WorkedUnits.{unit}
use Rattle.gg_fame5.specs.Machine.{unit_machine}
use Rattle.gg_fame5.specs.inside.Machine.{opening_unit}

-- `p` needs `x` alone, `q` needs both
abbrev pub program : Programmed
program = record { circuit = unit; needs = (0 ∷ []) ∷ (0 ∷ 1 ∷ []) ∷ [] }

abbrev a : List (Option ℕ) → List Bool → Machine
a latches flags = unit_machine program [] 0 no_state latches flags

opens : opening_unit program [] ≡ a (None ∷ None ∷ []) (false ∷ false ∷ [])
opens = refl

-- ---- nothing may be given before `x` is there, and then only `p`

p-wants-x : missing (a (None ∷ None ∷ []) (false ∷ false ∷ [])) 0 ≡ Some 0
p-wants-x = refl

p-not-before : MayFire (a (None ∷ None ∷ []) (false ∷ false ∷ [])) 0 → ⊥
p-not-before may = let is : ◌≡◌ {A = Option ℕ} (Some 0) None = may.needed in cc

has-x : with_latch (a (None ∷ None ∷ []) (false ∷ false ∷ [])) 0 5 ≡ a (Some 5 ∷ None ∷ []) (false ∷ false ∷ [])
has-x = refl

p-with-x : MayFire (a (Some 5 ∷ None ∷ []) (false ∷ false ∷ [])) 0
p-with-x = record { there = lit< tt; clear = refl; needed = refl; known = tt }

q-wants-k : missing (a (Some 5 ∷ None ∷ []) (false ∷ false ∷ [])) 1 ≡ Some 1
q-wants-k = refl

q-not-with-x : MayFire (a (Some 5 ∷ None ∷ []) (false ∷ false ∷ [])) 1 → ⊥
q-not-with-x may = let is : ◌≡◌ {A = Option ℕ} (Some 1) None = may.needed in cc

q-not-with-k : MayFire (a (None ∷ Some 3 ∷ []) (false ∷ false ∷ [])) 1 → ⊥
q-not-with-k may = let is : ◌≡◌ {A = Option ℕ} (Some 0) None = may.needed in cc

q-with-both : MayFire (a (Some 5 ∷ Some 3 ∷ []) (true ∷ false ∷ [])) 1
q-with-both = record { there = lit< tt; clear = refl; needed = refl; known = tt }

-- no out gives two tokens in a cycle
p-not-twice : MayFire (a (Some 5 ∷ None ∷ []) (true ∷ false ∷ [])) 0 → ⊥
p-not-twice may = let is : true ≡ false = may.clear in cc

-- ---- the tokens: the token of `p` is 5 whatever `k` will be, the token of `q` is `xor(5, 3)`

in-has : (needs : List ℕ) (latches : List (Option ℕ)) (inputs signals : List ℕ) (i value : ℕ) → i < 2 → Contains needs i → Settled unit no_state inputs signals → AgreesOn needs latches inputs → latch_at latches i ≡ Some value → value_at signals i ≡ value
in-has needs latches inputs signals i value below has is agrees holds =
    both (λ i. value_at signals i ≡ value_at inputs i) (is.driven 0 (lit< tt)) (is.driven 1 (lit< tt)) i below ∙ agrees i value has holds

token-p : IsToken (a (Some 5 ∷ None ∷ []) (false ∷ false ∷ [])) 0 5
token-p inputs signals is agrees = is.driven 2 (lit< tt) ∙ ap (extended (uint 8) 8) (in-has (0 ∷ []) (Some 5 ∷ None ∷ []) inputs signals 0 5 (lit< tt) (0, lit< tt, refl) is agrees refl)

token-q : IsToken (a (Some 5 ∷ Some 3 ∷ []) (true ∷ false ∷ [])) 1 6
token-q inputs signals is agrees =
    is.driven 3 (lit< tt)
    ∙ ap (λ x. driver_value no_state inputs (x ∷ value_at signals 1 ∷ []) (uint 8) (driver_at unit 3)) (in-has (0 ∷ 1 ∷ []) (Some 5 ∷ Some 3 ∷ []) inputs signals 0 5 (lit< tt) (0, lit< tt, refl) is agrees refl)
    ∙ ap (λ k. driver_value no_state inputs (5 ∷ k ∷ []) (uint 8) (driver_at unit 3)) (in-has (0 ∷ 1 ∷ []) (Some 5 ∷ Some 3 ∷ []) inputs signals 1 3 (lit< tt) (1, lit< tt, refl) is agrees refl)

-- a row of this cycle, to show that no other value is the token of `p`
row : Settled unit no_state (5 ∷ 0 ∷ []) (5 ∷ 0 ∷ 5 ∷ 5 ∷ [])
row =
    record {
      typed = record { count = refl; fits = four (λ i. Fits (shape_at (signal_shapes unit) i) (value_at (5 ∷ 0 ∷ 5 ∷ 5 ∷ []) i)) (lit< tt) (lit< tt) (lit< tt) (lit< tt) };
      driven = four (λ s. value_at (5 ∷ 0 ∷ 5 ∷ 5 ∷ []) s ≡ driver_value no_state (5 ∷ 0 ∷ []) (5 ∷ 0 ∷ 5 ∷ 5 ∷ []) (shape_at (signal_shapes unit) s) (driver_at unit s)) refl refl refl refl;
    }

not-with-zero : IsToken (a (Some 5 ∷ None ∷ []) (false ∷ false ∷ [])) 0 0 → ⊥
not-with-zero token = omega (arith, token (5 ∷ 0 ∷ []) (5 ∷ 0 ∷ 5 ∷ 5 ∷ []) row agrees)
  where
    agrees : AgreesOn (0 ∷ []) (Some 5 ∷ None ∷ []) (5 ∷ 0 ∷ [])
    agrees i value has holds = only (λ k. (i : ℕ) → slice_index_or (0 ∷ []) k i ≡ i → latch_at (Some 5 ∷ None ∷ []) i ≡ Some value → value_at (5 ∷ 0 ∷ []) i ≡ value) (λ i is holds. at i is holds) has.0 has.1 i has.2 holds
      where
        at : (i : ℕ) → 0 ≡ i → latch_at (Some 5 ∷ None ∷ []) i ≡ Some value → value_at (5 ∷ 0 ∷ []) i ≡ value
        at zero is holds = cc
        at (suc i) is holds = absurd (omega arith)

-- ---- the cycle is finished with all tokens, and nothing of it is left

not-without-k : MayFinish (a (Some 5 ∷ None ∷ []) (true ∷ true ∷ [])) → ⊥
not-without-k may = let is : false ≡ true = may.latched 1 None (lit< tt) in cc

not-without-q : MayFinish (a (Some 5 ∷ Some 3 ∷ []) (true ∷ false ∷ [])) → ⊥
not-without-q may = let is : false ≡ true = may.fired 1 true (lit< tt) in cc

with-all : MayFinish (a (Some 5 ∷ Some 3 ∷ []) (true ∷ true ∷ []))
with-all =
    record {
      fired = λ k d below. both (λ k. slice_index_or (true ∷ true ∷ []) k d ≡ true) refl refl k below;
      served = refl;
      latched = λ k d below. both (λ k. IsSome (slice_index_or (Some 5 ∷ Some 3 ∷ []) k d)) refl refl k below;
      below = lit< tt;
    }

cleaned : finished (a (Some 5 ∷ Some 3 ∷ []) (true ∷ true ∷ [])) no_state ≡ unit_machine program [] 1 no_state (None ∷ None ∷ []) (false ∷ false ∷ [])
cleaned = refl
