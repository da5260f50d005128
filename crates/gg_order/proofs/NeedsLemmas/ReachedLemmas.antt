-- A walk from the back of an order to its front marks just what a signal reaches.
use Rattle.std.proofs.Common.{◌≡◌, ℕ, ◌+◌, ◌<◌, List, length, Bool, true, refl, sym, subst, inl, inr, arith}
use Rattle.std.proofs.lemmas.Bool.{cases_lt}
use Rattle.gg_flat.specs.Line.{value_at}
use Rattle.gg_flat.specs.Circuit.{FlatCircuit}
use Rattle.gg_flat.specs.Reads.{Reads}
use Rattle.gg_flat.specs.Order.{IsOrder}
use Rattle.gg_flat.proofs.OrderLemmas.{read-before, place-of}
use Rattle.gg_order.specs.Marks.{is_marked}
use Rattle.gg_order.specs.inside.Walk.{MarksReached, IsClosed, IsWalk, ReadsMarked}
use Rattle.gg_order.proofs.NeedsLemmas.ReachLemmas.{Reaches-on, along-reaches}

-- one step of the walk: the signal at place k is looked at
pub IsWalk-step : (circuit : FlatCircuit) (order : List ℕ) (out k n : ℕ) (before after : List Bool) → IsOrder circuit order → k < length order → n ≡ k + 1 → length after ≡ length circuit.signals → ReadsMarked circuit (value_at order k) before after → IsWalk circuit order out n before → IsWalk circuit order out k after
IsWalk-step circuit order out k n before after o within next count step walk =
    record {
      count = count;
      only = λ s is. elim (step.only s is) [ inl was ↦ walk.only s was | inr h ↦ Reaches-on circuit out (value_at order k) s (walk.only (value_at order k) h.0) h.1 ];
      itself = step.kept out walk.itself;
      closed = λ j s le lt is reads. elim (cases_lt k j) [
        | inl less ↦ step.kept s (walk.closed j s (omega (arith, less, next)) lt (was j less lt is) reads)
        | inr not ↦
            let same : j ≡ k = omega (arith, le, not) in
            let at : Reads circuit (value_at order k) s = subst (λ (x : ℕ). Reads circuit (value_at order x) s) same reads in
            step.read s (own (subst (λ (x : ℕ). is_marked after (value_at order x) ≡ true) same is)) at
      ];
    }
  where
    -- a signal that the order has further on was marked before
    was : (j : ℕ) → k < j → j < length order → is_marked after (value_at order j) ≡ true → is_marked before (value_at order j) ≡ true
    was j less lt is = elim (step.only (value_at order j) is) [
      | inl h ↦ h
      | inr h ↦
          let at = read-before circuit order k (value_at order k) (value_at order j) o within refl h.1 in
          absurd (o.once at.place j 0 (omega (arith, at.before, less)) lt at.is)
    ]

    own : is_marked after (value_at order k) ≡ true → is_marked before (value_at order k) ≡ true
    own is = elim (step.only (value_at order k) is) [ inl h ↦ h | inr h ↦ h.0 ]

-- at the front of the order exactly what the signal reaches is marked
pub MarksReached-walk : (circuit : FlatCircuit) (order : List ℕ) (out k : ℕ) (marks : List Bool) → IsOrder circuit order → k ≡ 0 → IsWalk circuit order out k marks → MarksReached circuit out marks
MarksReached-walk circuit order out k marks o front walk s =
    (walk.only s, λ to. along-reaches circuit (λ (x : ℕ). is_marked marks x ≡ true) closed out s walk.itself to)
  where
    closed : IsClosed circuit marks
    closed a b is reads =
        let at = place-of circuit order a o reads.signal in
        walk.closed at.place b (omega (arith, front)) at.within (subst (λ (x : ℕ). is_marked marks x ≡ true) (sym at.is) is) (subst (λ (x : ℕ). Reads circuit x b) (sym at.is) reads)
