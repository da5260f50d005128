-- Lanes that are made one after another.
use Rattle.std.proofs.Common.{◌≡◌, ℕ, ◌+◌, List, [], ◌∷◌, ◌++◌, Some, length, map, sym, ◌∙◌, ap, ap₂, arith}
use Rattle.std.specs.Prelude.{slice_index_or}
use Rattle.std.specs.List.{range_with_len}
use Rattle.std.proofs.lemmas.List.FromFn.{length-map-range_with_len, map-range_with_len_more}
use Rattle.gg_flat.specs.Clock.{Ratio}
use Rattle.gg_flat.specs.Circuit.{FlatCircuit}
use Rattle.gg_flat.specs.State.{State}
use Rattle.gg_flat.specs.Streams.{state_in}
use Rattle.gg_fame5.specs.inside.Lane.{Laned, started_lane}

-- the lanes of the first n threads
abbrev pub lanes_to : FlatCircuit → List (List ℕ) → List (List Ratio) → List State → ℕ → ℕ → List Laned
lanes_to circuit outs ratios states cycle n = map (λ t. started_lane circuit (Some (slice_index_or outs t [])) (slice_index_or ratios t []) (state_in states t) cycle) (range_with_len 0 n)

pub lanes-count : (circuit : FlatCircuit) (outs : List (List ℕ)) (ratios : List (List Ratio)) (states : List State) (cycle n : ℕ) → length (lanes_to circuit outs ratios states cycle n) ≡ n
lanes-count circuit outs ratios states cycle n = length-map-range_with_len (λ t. started_lane circuit (Some (slice_index_or outs t [])) (slice_index_or ratios t []) (state_in states t) cycle) 0 n

-- one lane more
pub lanes-more : (circuit : FlatCircuit) (outs : List (List ℕ)) (ratios : List (List Ratio)) (states : List State) (cycle n : ℕ) (before after : List Laned) (state : State) → before ≡ lanes_to circuit outs ratios states cycle n → state ≡ state_in states n → after ≡ before ++ started_lane circuit (Some (slice_index_or outs (length before) [])) (slice_index_or ratios (length before) []) state cycle ∷ [] → after ≡ lanes_to circuit outs ratios states cycle (n + 1)
lanes-more circuit outs ratios states cycle n before after state are is more =
    more
    ∙ ap (λ (k : ℕ). before ++ started_lane circuit (Some (slice_index_or outs k [])) (slice_index_or ratios k []) state cycle ∷ []) count
    ∙ ap₂ (λ (l : List Laned) (s : State). l ++ started_lane circuit (Some (slice_index_or outs n [])) (slice_index_or ratios n []) s cycle ∷ []) are is
    ∙ sym (map-range_with_len_more (λ t. started_lane circuit (Some (slice_index_or outs t [])) (slice_index_or ratios t []) (state_in states t) cycle) 0 n n (omega arith))
  where
    count : length before ≡ n
    count = ap (λ (l : List Laned). length l) are ∙ lanes-count circuit outs ratios states cycle n
