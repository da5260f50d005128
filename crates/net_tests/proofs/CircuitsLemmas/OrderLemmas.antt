-- Signals whose order of evaluation is the order of their numbers: each reads only earlier ones.
use Rattle.std.proofs.Common.{◌≡◌, ℕ, ◌<◌, List, map, sym, ◌∙◌, subst, arith}
use Rattle.std.specs.Prelude.{Contains, false, not, bytes_eq}
use Rattle.std.specs.List.{range_with_len}
use Rattle.std.proofs.lemmas.Bool.{not-false}
use Rattle.std.proofs.lemmas.List.FromFn.{get_or-map-range_with_len, length-map-range_with_len, take-map-range_with_len}
use Rattle.std.proofs.lemmas.Slice.Eq.{bytes_eq-Decides}
use Rattle.gg_flat.specs.Circuit.{FlatCircuit}
use Rattle.gg_flat.specs.Line.{value_at}
use Rattle.gg_flat.specs.Order.{IsOrder}
use Rattle.gg_flat.specs.Reads.{Reads}
use Rattle.gg_flat.specs.InOrder.{IsInOrder}

-- the first numbers, from 0
abbrev counted : ℕ → List ℕ
counted n = map (λ i. i) (range_with_len 0 n)

-- what is among the first k numbers is below k
among-first : (k b : ℕ) → Contains (counted k) b → b < k
among-first k b (j, lt, is) =
    let below : j < k = omega (arith, lt, length-map-range_with_len (λ (i : ℕ). i) 0 k) in
    let at = get_or-map-range_with_len (λ (i : ℕ). i) 0 k j j b below (omega arith) in
    omega (arith, below, at, is)

module _ (circuit : FlatCircuit) (n : ℕ) (ordered : IsOrder circuit (counted n)) where
  at-place : (a b : ℕ) → Reads circuit a b → Contains (counted n) a → b < a
  at-place a b reads (k, lt, is) =
      let below : k < n = omega (arith, lt, length-map-range_with_len (λ (i : ℕ). i) 0 n) in
      let same : k ≡ a = sym (get_or-map-range_with_len (λ (i : ℕ). i) 0 n k k a below (omega arith)) ∙ is in
      let value : value_at (counted n) k ≡ a = get_or-map-range_with_len (λ (i : ℕ). i) 0 n k k 0 below (omega arith) ∙ same in
      let before = ordered.after k b lt (subst (λ (x : ℕ). Reads circuit x b) (sym value) reads) in
      let first = among-first k b (subst (λ (xs : List ℕ). Contains xs b) (take-map-range_with_len (λ (i : ℕ). i) 0 n k (omega (arith, below))) before) in
      omega (arith, first, same)

  in-order : IsInOrder circuit
  in-order = λ a b reads. at-place a b reads (ordered.every a reads.signal)

-- the order was compared with these numbers, and isn't unlike them
alike : (order numbers counts : List ℕ) → false ≡ not (bytes_eq order numbers) → numbers ≡ counts → order ≡ counts
alike order numbers counts told is = (bytes_eq-Decides order numbers).0 (not-false (bytes_eq order numbers) (sym told)) ∙ is

pub counted-in-order : (circuit piece : FlatCircuit) (n : ℕ) (order list numbers : List ℕ) → piece ≡ circuit → list ≡ order → false ≡ not (bytes_eq list numbers) → numbers ≡ counted n
    → IsOrder circuit order → IsInOrder piece
counted-in-order circuit piece n order list numbers same is told counts ordered =
    in-order piece n (subst (λ (c : FlatCircuit). IsOrder c (counted n)) (sym same) (subst (IsOrder circuit) (sym is ∙ alike list numbers (counted n) told counts) ordered))
