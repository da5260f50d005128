-- Whether a stop acts, stop by stop.
use Rattle.std.proofs.Common.{◌≡◌, ℕ, zero, suc, ◌<◌, List, [], ◌∷◌, true, false, length, drop, refl, sym, ap, ap₂, ◌∙◌, inl, inr, ◌⊎◌, arith}
use Rattle.std.specs.Prelude.{Some, ◌&&◌, ◌||◌, ◌==◌}
use Rattle.std.proofs.lemmas.Bool.{cases_Bool, eq-eqb, eqb-true, or_left}
use Rattle.std.proofs.Math.Bool.{and-true}
use Rattle.std.proofs.Math.Seq.{drop-nil}
use Rattle.gg_flat.specs.Line.{value_at}
use Rattle.gg_flat.specs.Clock.{Ratio, edges_at, ticks}
use Rattle.gg_trace.specs.Last.{acts}

-- no condition, no stop
pub acts-none : (ratios : List Ratio) (t : ℕ) → acts ratios t [] ≡ false
acts-none [] t = refl
acts-none (ratio ∷ ratios) t = refl

-- stop k acts, or one behind it
pub acts-at : (ratios : List Ratio) (t : ℕ) (conditions : List ℕ) (k : ℕ) → k < length conditions
    → acts (drop k ratios) t (drop k conditions) ≡ (((value_at conditions k == 1) && ticks (edges_at ratios t) (Some k)) || acts (drop (suc k) ratios) t (drop (suc k) conditions))
acts-at ratios t [] k lt = absurd (omega (arith, lt))
acts-at [] t (condition ∷ conditions) zero lt = ap (λ b. b || acts [] t conditions) (sym (and-true (condition == 1)))
acts-at (ratio ∷ ratios) t (condition ∷ conditions) zero lt = refl
acts-at [] t (condition ∷ conditions) (suc k) lt =
    ap (λ rs. acts rs t (drop k conditions)) (sym (drop-nil {A = Ratio} k))
    ∙ acts-at [] t conditions k (omega (arith, lt))
    ∙ ap (λ rs. ((value_at conditions k == 1) && true) || acts rs t (drop (suc k) conditions)) (drop-nil {A = Ratio} (suc k))
acts-at (ratio ∷ ratios) t (condition ∷ conditions) (suc k) lt = acts-at ratios t conditions k (omega (arith, lt))

module _ (ratios : List Ratio) (t : ℕ) (conditions : List ℕ) (k : ℕ) (lt : k < length conditions) where
  -- its condition is 1, and its clock has an edge
  pub acts-now : value_at conditions k ≡ 1 → ticks (edges_at ratios t) (Some k) ≡ true → acts (drop k ratios) t (drop k conditions) ≡ true
  acts-now is edge =
      acts-at ratios t conditions k lt
      ∙ or_left ((value_at conditions k == 1) && ticks (edges_at ratios t) (Some k)) (acts (drop (suc k) ratios) t (drop (suc k) conditions)) (ap₂ (λ a b. a && b) (eq-eqb (value_at conditions k) 1 is) edge)

  -- its condition isn't 1, or its clock has no edge
  pub acts-later : (value_at conditions k ≡ 1 → ticks (edges_at ratios t) (Some k) ≡ false) → acts (drop (suc k) ratios) t (drop (suc k) conditions) ≡ acts (drop k ratios) t (drop k conditions)
  acts-later quiet = sym (acts-at ratios t conditions k lt ∙ ap (λ b. b || acts (drop (suc k) ratios) t (drop (suc k) conditions)) (go (cases_Bool (value_at conditions k == 1))))
    where
      go : ((value_at conditions k == 1) ≡ true) ⊎ ((value_at conditions k == 1) ≡ false) → ((value_at conditions k == 1) && ticks (edges_at ratios t) (Some k)) ≡ false
      go (inl is) = ap₂ (λ a b. a && b) is (quiet (eqb-true (value_at conditions k) 1 is))
      go (inr not) = ap (λ a. a && ticks (edges_at ratios t) (Some k)) not
