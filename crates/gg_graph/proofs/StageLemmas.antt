-- The stages of nodes, and lists that grow by one node.
use Rattle.std.proofs.Common.{◌≡◌, ◌≢◌, ℕ, ◌<◌, List, [], ◌∷◌, ◌++◌, length, set, take, refl, sym, ap, ◌∙◌, subst, inl, inr, ◌⊎◌, arith, below_more, length-append}
use Rattle.std.specs.Prelude.{Contains, AllPairs, sum_by}
use Rattle.std.proofs.lemmas.Bool.{cases_lt}
use Rattle.std.proofs.lemmas.List.{get_or-set_same, get_or-set_other, get_or_append_left, get_or_push, get_or_default, get_or_past, take-append-le, take_all}
use Rattle.std.proofs.lemmas.List.Elements.{Contains-push_cases}
use Rattle.std.proofs.lemmas.List.Sums.{sum_by-set}
use Rattle.gg_graph.specs.Graph.{node_at}
use Rattle.gg_graph.specs.inside.Walk.{stage_at, weight, StandsAfter}
use Rattle.gg_graph.specs.declared.state.Stage.{Stage}
use Rattle.gg_graph.specs.declared.state.Stage.TheVariants.{New}

-- ---- stages

-- a node that isn't new is one of the nodes that have stages
pub stage-within : (stages : List Stage) (s : ℕ) → stage_at stages s ≢ New → s < length stages
stage-within stages s old =
    elim (cases_lt s (length stages)) [ inl lt ↦ lt | inr ge ↦ absurd (old (get_or_past stages s New ge)) ]

pub stage_set-same : (stages : List Stage) (s : ℕ) (x : Stage) → s < length stages → stage_at (set stages s x) s ≡ x
stage_set-same stages s x lt = get_or-set_same stages s x New lt

-- a node whose stage is another than that of the changed node keeps its stage
pub stage_set-other : (stages : List Stage) (s t : ℕ) (x y z : Stage) → stage_at stages t ≡ y → stage_at stages s ≡ z → z ≢ y → stage_at (set stages t x) s ≡ z
stage_set-other stages s t x y z at_t at_s differ =
    get_or-set_other stages t s x New (λ same. differ (sym at_s ∙ ap (stage_at stages) same ∙ at_t)) ∙ at_s

-- after a change, a node is the changed one with the new stage, or another one with its old stage
pub stage_set-cases : (stages : List Stage) (s t : ℕ) (x z : Stage) → t < length stages → stage_at (set stages t x) s ≡ z → ((s ≡ t) × (x ≡ z)) ⊎ ((s ≢ t) × (stage_at stages s ≡ z))
stage_set-cases stages s t x z lt is =
    elim (cases_lt s t) [
      | inl less ↦ let differ : s ≢ t = λ e. omega (arith, less, e) in inr (differ, sym (get_or-set_other stages t s x New differ) ∙ is)
      | inr ge ↦ elim (cases_lt t s) [
        | inl more ↦ let differ : s ≢ t = λ e. omega (arith, more, e) in inr (differ, sym (get_or-set_other stages t s x New differ) ∙ is)
        | inr le ↦ let same : s ≡ t = omega (arith, ge, le) in inl (same, sym (stage_set-same stages t x lt) ∙ ap (stage_at (set stages t x)) (sym same) ∙ is)
      ]
    ]

-- a node that goes on to a later stage leaves less to do
pub weight-smaller : (stages : List Stage) (s : ℕ) (x y : Stage) → s < length stages → stage_at stages s ≡ y → weight x < weight y → sum_by weight (set stages s x) < sum_by weight stages
weight-smaller stages s x y lt at less =
    omega (arith, sum_by-set weight stages s x New lt, ap weight at, less)

-- ---- a list with one more node

pub contains_cases : (xs : List ℕ) (y s : ℕ) → Contains (xs ++ y ∷ []) s → Contains xs s ⊎ (s ≡ y)
contains_cases xs y s h = elim (Contains-push_cases xs y s h) [ inl old ↦ inl old | inr new ↦ inr (sym new) ]

pub contains_at : (xs : List ℕ) (i : ℕ) → i < length xs → Contains xs (node_at xs i)
contains_at xs i lt = (i, lt, get_or_default xs i (node_at xs i) 0 lt)

-- the last node of a list of different nodes isn't among those before it
pub last-new : (xs : List ℕ) (y : ℕ) → AllPairs (λ a b. a ≢ b) (xs ++ y ∷ []) → ¬ Contains xs y
last-new xs y once h =
    once h.0 (length xs) y h.1 (omega (arith, length-append xs (y ∷ [])))
    (get_or_append_left xs (y ∷ []) y h.0 h.1 ∙ h.2 ∙ sym (get_or_push xs y y (length xs) refl))

pub once-pop : (xs : List ℕ) (y : ℕ) → AllPairs (λ a b. a ≢ b) (xs ++ y ∷ []) → AllPairs (λ a b. a ≢ b) xs
once-pop xs y once i j d lt within same =
    once i j d lt (omega (arith, within, length-append xs (y ∷ [])))
    (get_or_append_left xs (y ∷ []) d i (omega arith) ∙ same ∙ sym (get_or_append_left xs (y ∷ []) d j within))

pub after-push : (Edge : ℕ → ℕ → Type 0) (xs : List ℕ) (y : ℕ) → StandsAfter Edge xs → ((t : ℕ) → Edge y t → Contains xs t) → StandsAfter Edge (xs ++ y ∷ [])
after-push Edge xs y old own i t lt edge =
    below_more (λ (k : ℕ). Edge (node_at (xs ++ y ∷ []) k) t → Contains (take k (xs ++ y ∷ [])) t) (length xs)
    (λ k less r. subst (λ (l : List ℕ). Contains l t) (sym (take-append-le k xs (y ∷ []) (omega arith))) (old k t less (subst (λ (a : ℕ). Edge a t) (get_or_append_left xs (y ∷ []) 0 k less) r)))
    (λ r. subst (λ (l : List ℕ). Contains l t) (sym (take-append-le (length xs) xs (y ∷ []) (omega arith) ∙ take_all (length xs) xs (omega arith))) (own t (subst (λ (a : ℕ). Edge a t) (get_or_push xs y 0 (length xs) refl) r)))
    i (omega (arith, lt, length-append xs (y ∷ []))) edge
