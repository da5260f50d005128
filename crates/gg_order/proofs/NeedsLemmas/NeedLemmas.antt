-- The needs of out-signals, one out-signal after another.
use Rattle.std.proofs.Common.{◌≡◌, ℕ, ◌<◌, ◌≤◌, List, [], ◌∷◌, ◌++◌, length, get_or, sym, subst, arith, below_more}
use Rattle.std.proofs.lemmas.List.{get_or_append_left, length-append}
use Rattle.std.proofs.Math.Seq.{get_or-append_seam}
use Rattle.gg_flat.specs.Line.{value_at}
use Rattle.gg_flat.specs.Circuit.{FlatCircuit}
use Rattle.gg_order.specs.needs.Needs.{AreNeeds}
use Rattle.gg_order.specs.needs.Needs.{AreNeedsOfOuts}
use Rattle.gg_order.specs.inside.Groups.{AreNeedsSoFar}

pub AreNeedsSoFar-push : (circuit : FlatCircuit) (needs : List (List ℕ)) (own : List ℕ) (n : ℕ) → n ≡ length needs → n < length circuit.outs → AreNeeds circuit (value_at circuit.outs n) own → AreNeedsSoFar circuit needs → AreNeedsSoFar circuit (needs ++ own ∷ [])
AreNeedsSoFar-push circuit needs own n count some is h =
    record {
      within = omega (arith, length-append needs (own ∷ []), count, some);
      each = λ out lt. below_more (λ (k : ℕ). AreNeeds circuit (value_at circuit.outs k) (get_or (needs ++ own ∷ []) k [])) n
          (λ k less. subst (AreNeeds circuit (value_at circuit.outs k)) (sym (get_or_append_left needs (own ∷ []) [] k (omega (arith, less, count)))) (h.each k (omega (arith, less, count))))
          (subst (λ (k : ℕ). AreNeeds circuit (value_at circuit.outs n) (get_or (needs ++ own ∷ []) k [])) (sym count) (subst (AreNeeds circuit (value_at circuit.outs n)) (sym (get_or-append_seam needs own [] [])) is))
          out (omega (arith, lt, length-append needs (own ∷ []), count));
    }

pub AreNeedsOfOuts-all : (circuit : FlatCircuit) (needs : List (List ℕ)) → length circuit.outs ≤ length needs → AreNeedsSoFar circuit needs → AreNeedsOfOuts circuit needs
AreNeedsOfOuts-all circuit needs all h =
    record {
      count = omega (arith, all, h.within);
      each = λ out lt. h.each out (omega (arith, lt, all));
    }
