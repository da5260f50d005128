-- The numbers of a circuit whose signals are in order are an order of evaluation.
use Rattle.std.proofs.Common.{◌≡◌, ℕ, ◌+◌, ◌<◌, length, sym, ◌∙◌, subst, arith}
use Rattle.std.specs.List.{range_with_len}
use Rattle.std.proofs.lemmas.List.{get_or-take, get_or_default, length-take}
use Rattle.std.proofs.lemmas.List.FromFn.{get_or-range_with_len, length-range_with_len}
use Rattle.gg_flat.specs.Line.{value_at}
use Rattle.gg_flat.specs.Circuit.{FlatCircuit}
use Rattle.gg_flat.specs.Reads.{Reads}
use Rattle.gg_flat.specs.Order.{IsOrder}
use Rattle.gg_flat.specs.InOrder.{IsInOrder}

at-number : (n i : ℕ) → i < n → value_at (range_with_len 0 n) i ≡ i
at-number n i lt = get_or-range_with_len 0 n i 0 lt ∙ (let same : 0 + i ≡ i = omega arith in same)

pub IsOrder-numbers : (circuit : FlatCircuit) → IsInOrder circuit → IsOrder circuit (range_with_len 0 (length circuit.signals))
IsOrder-numbers circuit inside =
    let n = length circuit.signals in
    let numbers = range_with_len 0 n in
    let count : length numbers ≡ n = length-range_with_len 0 n in
    record {
      signals = λ i lt. subst (λ s. s < n) (sym (at-number n i (omega (arith, lt, count)))) (omega (arith, lt, count));
      once = λ i j d lt within same.
          let first : value_at numbers i ≡ i = at-number n i (omega (arith, lt, within, count)) in
          let second : value_at numbers j ≡ j = at-number n j (omega (arith, within, count)) in
          let equal : i ≡ j = sym first ∙ get_or_default numbers i 0 d (omega (arith, lt, within)) ∙ same ∙ get_or_default numbers j d 0 within ∙ second in
          omega (arith, lt, equal);
      every = λ s lt. (s, omega (arith, lt, count), get_or_default numbers s s 0 (omega (arith, lt, count)) ∙ at-number n s lt);
      after = λ i s lt reads.
          let known : i < n = omega (arith, lt, count) in
          let below : s < i = inside i s (subst (λ a. Reads circuit a s) (at-number n i known) reads) in
          (s, omega (arith, below, lt, length-take i numbers), get_or-take i numbers s s below ∙ get_or_default numbers s s 0 (omega (arith, below, lt)) ∙ at-number n s (omega (arith, below, known)));
    }
