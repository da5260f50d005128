-- The rows of a run from a start on, and the text of these rows, are one.
use Rattle.std.proofs.Common.{◌≡◌, ℕ, zero, suc, ◌+◌, ◌<◌, ◌≤◌, List, [], ◌∷◌, ◌++◌, map, drop, refl, sym, ap, ap₂, ◌∙◌, arith}
use Rattle.gg_flat.specs.Circuit.{FlatCircuit}
use Rattle.gg_flat.specs.Clock.{Ratio}
use Rattle.gg_flat.specs.Line.{value_at}
use Rattle.gg_flat.specs.Order.{IsOrder}
use Rattle.gg_flat.specs.Run.{IsRunFrom, Start, column, row_at, since}
use Rattle.gg_flat.specs.declared.ports.Port.{Port}
use Rattle.gg_order.proofs.RunsLemmas.SinceLemmas.{row-dropped}
use Rattle.gg_order.proofs.RunsLemmas.UniqueLemmas.{IsRunFrom-once}
use Rattle.gg_net.proofs.StateLemmas.{column-at}
use Rattle.gg_trace.specs.Last.{acts, halts, row_count}
use Rattle.gg_trace.specs.Printing.{row_line, text_from}
use Rattle.gg_trace.specs.Table.{row_of}
use Rattle.gg_trace.proofs.LastLaws.{rows-agree}

-- columns that agree in each cycle of a text have one text
text-agrees : (ports : List Port) (one other : List (List ℕ)) (begin n : ℕ) → ((k : ℕ) → k < n → row_of one (begin + k) ≡ row_of other (begin + k)) → text_from ports one begin n ≡ text_from ports other begin n
text-agrees ports one other begin zero same = refl
text-agrees ports one other begin (suc n) same =
    ap₂ (λ (front row : List ℕ). front ++ row) (text-agrees ports one other begin n (λ k lt. same k (omega (arith, lt)))) (ap (row_line ports (begin + n)) (same n (omega arith)))

-- two lists of rows of which those from the start's cycle on are a run from the start
module _ (circuit : FlatCircuit) (order : List ℕ) (ordered : IsOrder circuit order) (start : Start) (columns : List (List ℕ)) (n : ℕ) (rows others : List (List ℕ))
    (run : IsRunFrom circuit start columns (since start.cycle n) (drop start.cycle rows)) (ran : IsRunFrom circuit start columns (since start.cycle n) (drop start.cycle others)) where
  row-same : (t : ℕ) → start.cycle ≤ t → row_at rows t ≡ row_at others t
  row-same t le =
      sym (row-dropped start.cycle t rows le)
      ∙ ap (λ (l : List (List ℕ)). row_at l (since start.cycle t)) (IsRunFrom-once circuit order start columns (since start.cycle n) (drop start.cycle rows) (drop start.cycle others) ordered run ran)
      ∙ row-dropped start.cycle t others le

  values-same : (signals : List ℕ) (t : ℕ) → start.cycle ≤ t → row_of (map (column rows) signals) t ≡ row_of (map (column others) signals) t
  values-same [] t le = refl
  values-same (s ∷ signals) t le =
      ap₂ (λ (value : ℕ) (values : List ℕ). value ∷ values) (column-at rows s t ∙ ap (λ (row : List ℕ). value_at row s) (row-same t le) ∙ sym (column-at others s t)) (values-same signals t le)

  -- as many rows to the first stop that acts
  pub counts-from : (clocks : List Ratio) (stops : List ℕ) (m : ℕ)
      → row_count (λ k. halts clocks (map (column rows) stops) (start.cycle + k)) m ≡ row_count (λ k. halts clocks (map (column others) stops) (start.cycle + k)) m
  counts-from clocks stops m =
      (rows-agree (λ k. halts clocks (map (column rows) stops) (start.cycle + k)) (λ k. halts clocks (map (column others) stops) (start.cycle + k)) m
      (λ k lt. ap (acts clocks (start.cycle + k)) (values-same stops (start.cycle + k) (omega arith)))).1

  -- and the same text
  pub texts-from : (ports : List Port) (outs : List ℕ) (m : ℕ) → text_from ports (map (column rows) outs) start.cycle m ≡ text_from ports (map (column others) outs) start.cycle m
  texts-from ports outs m = text-agrees ports (map (column rows) outs) (map (column others) outs) start.cycle m (λ k lt. values-same outs (start.cycle + k) (omega arith))
