-- The pass from the last signal to the first: each out-signal of a group marks just what it reaches.
use Rattle.std.proofs.Common.{◌≡◌, ℕ, zero, suc, ◌+◌, ◌^◌, ◌<◌, ◌==◌, ◌↔◌, List, length, replicate, Bool, true, false, true≢false, refl, sym, ◌∙◌, ap, subst, inl, inr, arith, below_more}
use Rattle.std.specs.List.{range_with_len}
use Rattle.std.specs.Int.{bit_at}
use Rattle.std.proofs.lemmas.List.{length-map, length-replicate}
use Rattle.std.proofs.lemmas.List.FromFn.{length-range_with_len, get_or-range_with_len}
use Rattle.std.proofs.lemmas.Nat.Bits.{bit_at-zero, bit_at-pow_same, bit_at-pow_other}
use Rattle.gg_flat.specs.Line.{value_at}
use Rattle.gg_flat.specs.Circuit.{FlatCircuit}
use Rattle.gg_flat.specs.Reads.{Reaches}
use Rattle.gg_flat.specs.InOrder.{IsInOrder}
use Rattle.gg_flat.proofs.NumberLemmas.{IsOrder-numbers}
use Rattle.gg_order.specs.Marks.{is_marked}
use Rattle.gg_order.specs.inside.Walk.{IsWalk, ReadsMarked}
use Rattle.gg_order.proofs.NeedsLemmas.ReachLemmas.{Reaches-itself}
use Rattle.gg_order.proofs.NeedsLemmas.ReachedLemmas.{IsWalk-step, MarksReached-walk}
use Rattle.gg_order.specs.inside.NeedsMarks.{marks_of, Adds}
use Rattle.gg_order.specs.inside.Walk.{AreOwn, AreReached, HandsOn}
use Rattle.gg_order.proofs.NeedsLemmas.AddLemmas.{bit-unmarked}

-- ---- the out-signals' own marks

pub AreOwn-none : (group : List ℕ) (count k : ℕ) (marks : List ℕ) → marks ≡ replicate count 0 → k ≡ 0 → AreOwn group count k marks
AreOwn-none group count k marks none front =
    record {
      total = ap (λ (l : List ℕ). length l) none ∙ length-replicate count 0;
      own = λ place s lt. absurd (omega (arith, lt, front));
      none = λ place s le. bit-unmarked place marks s (ap (λ (n : ℕ). bit_at n place) (ap (λ (l : List ℕ). value_at l s) none ∙ empty count s) ∙ bit_at-zero place);
    }
  where
    empty : (n s : ℕ) → value_at (replicate n 0) s ≡ 0
    empty zero s = refl
    empty (suc n) zero = refl
    empty (suc n) (suc s) = empty n s

pub AreOwn-more : (group : List ℕ) (count k added signal : ℕ) (before after : List ℕ) → added ≡ 2 ^ k → signal ≡ value_at group k → Adds added (λ s. signal ≡ s) before after → AreOwn group count k before → AreOwn group count (k + 1) after
AreOwn-more group count k added signal before after power is adds h =
    record {
      total = adds.count ∙ h.total;
      own = λ place s lt. below_more (λ (p : ℕ). (is_marked (marks_of p after) s ≡ true) ↔ (value_at group p ≡ s)) k (λ p less. old p s less) (new s) place lt;
      none = λ place s le. subst (λ (l : List Bool). is_marked l s ≡ false) (sym (adds.kept place (other place (λ same. absurd (omega (arith, same, le)))))) (h.none place s (omega (arith, le)));
    }
  where
    other : (place : ℕ) → (place ≡ k → ⊥) → bit_at added place ≡ 0
    other place apart = ap (λ (n : ℕ). bit_at n place) power ∙ bit_at-pow_other k place apart

    old : (place s : ℕ) → place < k → (is_marked (marks_of place after) s ≡ true) ↔ (value_at group place ≡ s)
    old place s less =
        subst (λ (l : List Bool). (is_marked l s ≡ true) ↔ (value_at group place ≡ s)) (sym (adds.kept place (other place (λ same. absurd (omega (arith, same, less)))))) (h.own place s less)

    new : (s : ℕ) → (is_marked (marks_of k after) s ≡ true) ↔ (value_at group k ≡ s)
    new s =
        let m = adds.given k (ap (λ (n : ℕ). bit_at n k) power ∙ bit_at-pow_same k) in (
          λ marked. elim (m.only s marked) [
            | inl was ↦ absurd (true≢false (sym was ∙ h.none k s (omega arith)))
            | inr same ↦ sym is ∙ same
          ],
          λ same. m.marked s (is ∙ same),
        )

-- ---- the pass

-- the signals from k on have handed their marks on
pub record AreWalks (circuit : FlatCircuit) (group : List ℕ) (k : ℕ) (marks : List ℕ) : Type 0 where
  pub count : length marks ≡ length circuit.signals
  pub each : (place : ℕ) → place < length group → IsWalk circuit (range_with_len 0 (length circuit.signals)) (value_at group place) k (marks_of place marks)

pub AreWalks-start : (circuit : FlatCircuit) (group : List ℕ) (n k : ℕ) (marks : List ℕ) → n ≡ length group → k ≡ length circuit.signals → AreOwn group (length circuit.signals) n marks → AreWalks circuit group k marks
AreWalks-start circuit group n k marks all back h =
    record {
      count = h.total;
      each = λ place within.
          let out = value_at group place in
          record {
            count = length-map marks (λ (set : ℕ). bit_at set place == 1) ∙ h.total;
            only = λ s is. subst (Reaches circuit out) ((h.own place s (omega (arith, within, all))).0 is) (Reaches-itself circuit out);
            itself = (h.own place out (omega (arith, within, all))).1 refl;
            closed = λ j s le lt. absurd (omega (arith, le, lt, back, length-range_with_len 0 (length circuit.signals)));
          };
    }

pub AreWalks-step : (circuit : FlatCircuit) (group : List ℕ) (k n : ℕ) (before after : List ℕ) → IsInOrder circuit → k < length circuit.signals → n ≡ k + 1 → HandsOn circuit k before after → AreWalks circuit group n before → AreWalks circuit group k after
AreWalks-step circuit group k n before after ordered within next hands h =
    let numbers = range_with_len 0 (length circuit.signals) in
    let total : length numbers ≡ length circuit.signals = length-range_with_len 0 (length circuit.signals) in
    let at : value_at numbers k ≡ k = get_or-range_with_len 0 (length circuit.signals) k 0 within ∙ (let same : 0 + k ≡ k = omega arith in same) in
    let count : length after ≡ length circuit.signals = hands.count ∙ h.count in
    record {
      count = count;
      each = λ place lt.
          IsWalk-step circuit numbers (value_at group place) k n (marks_of place before) (marks_of place after) (IsOrder-numbers circuit ordered) (omega (arith, within, total)) next
          (length-map after (λ (set : ℕ). bit_at set place == 1) ∙ count)
          (subst (λ (x : ℕ). ReadsMarked circuit x (marks_of place before) (marks_of place after)) (sym at) (hands.each place))
          (h.each place lt);
    }

pub AreWalks-end : (circuit : FlatCircuit) (group : List ℕ) (k : ℕ) (marks : List ℕ) → IsInOrder circuit → k ≡ 0 → AreWalks circuit group k marks → AreReached circuit group marks
AreWalks-end circuit group k marks ordered front h =
    record {
      count = h.count;
      each = λ place within. MarksReached-walk circuit (range_with_len 0 (length circuit.signals)) (value_at group place) k (marks_of place marks) (IsOrder-numbers circuit ordered) front (h.each place within);
    }
