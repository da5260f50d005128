-- No copy is missed: the number of signals is enough for each chain.
use Rattle.std.proofs.Common.{◌≡◌, ℕ, zero, suc, ◌<◌, ◌≤◌, List, Bool, true, false, Option, Some, None, length, sym, ◌∙◌, ap, subst, refl, arith}
use Rattle.std.specs.Prelude.{◌||◌, if◌then◌else◌, option_and_then}
use Rattle.gg_flat.specs.Line.{value_at}
use Rattle.gg_flat.specs.Reads.{NamesSignal, Reads}
use Rattle.gg_flat.specs.Order.{IsOrder}
use Rattle.gg_flat.proofs.OrderLemmas.{read-before, place-of}
use Rattle.gg_flat.specs.Circuit.{FlatCircuit, driver_at}
use Rattle.gg_flat.specs.WellFormed.{IsWellFormed}
use Rattle.gg_order.proofs.ReadLemmas.{names_within}
use Rattle.gg_cut_plan.specs.Direct.{bare_of, Hub, is_taken, is_own, origin_within, origin, copied}
use Rattle.gg_cut_plan.proofs.OriginLemmas.{bare-driver, copied-is}

-- what a driver is a bare reference to is a signal
pub bare-known : (circuit : FlatCircuit) → IsWellFormed circuit → (s t : ℕ) → s < length circuit.signals → bare_of (driver_at circuit s) ≡ Some t → t < length circuit.signals
bare-known circuit formed s t lt e =
    let bare = bare-driver (driver_at circuit s) t e in
    names_within circuit s t formed lt (subst (λ d. NamesSignal d t) (sym bare.is) (0, omega arith, bare.op))

module _ (hub : Hub) (order : List ℕ) (ordered : IsOrder hub.circuit order) where
  pub copy-reads : (s t : ℕ) → s < length hub.circuit.signals → copied hub.circuit s ≡ Some t → Reads hub.circuit s t
  copy-reads s t lt e =
      let is = copied-is hub.circuit s t e in
      record { signal = lt; names = subst (λ d. NamesSignal d t) (sym is.bare.is) (0, omega arith, is.bare.op) }

  -- a chain from a signal at place p has at most p + 1 signals
  pub stable : (n p s : ℕ) → p < length order → value_at order p ≡ s → p < n → origin_within hub n s ≡ origin_within hub (suc n) s
  stable zero p s inside at less = absurd (omega (arith, less))
  stable (suc n) p s inside at less = by (is_taken hub s) (is_own hub s) (copied hub.circuit s) refl refl refl (λ q t lt is low. stable n q t lt is low)
    where
      open-by : (k : ℕ) (taken own : Bool) (to : Option ℕ) → is_taken hub s ≡ taken → is_own hub s ≡ own → copied hub.circuit s ≡ to → origin_within hub (suc k) s ≡ (if taken then (if hub.piped s then None else Some s) else (if own then option_and_then (origin_within hub k) to else None))
      open-by k taken own to a b c =
          ap (λ x. if x then (if hub.piped s then None else Some s) else (if is_own hub s then option_and_then (origin_within hub k) (copied hub.circuit s) else None)) a
          ∙ ap (λ x. if taken then (if hub.piped s then None else Some s) else (if x then option_and_then (origin_within hub k) (copied hub.circuit s) else None)) b
          ∙ ap (λ x. if taken then (if hub.piped s then None else Some s) else (if own then option_and_then (origin_within hub k) x else None)) c

      by : (taken own : Bool) (to : Option ℕ) → is_taken hub s ≡ taken → is_own hub s ≡ own → copied hub.circuit s ≡ to → ((q t : ℕ) → q < length order → value_at order q ≡ t → q < n → origin_within hub n t ≡ origin_within hub (suc n) t) → origin_within hub (suc n) s ≡ origin_within hub (suc (suc n)) s
      by true own to a b c rest = open-by n true own to a b c ∙ sym (open-by (suc n) true own to a b c)
      by false false to a b c rest = open-by n false false to a b c ∙ sym (open-by (suc n) false false to a b c)
      by false true None a b c rest = open-by n false true None a b c ∙ sym (open-by (suc n) false true None a b c)
      by false true (Some t) a b c rest =
          let lt = subst (λ u. u < length hub.circuit.signals) at (ordered.signals p inside) in
          let before = read-before hub.circuit order p s t ordered inside at (copy-reads s t lt c) in
          let low = before.before in
          open-by n false true (Some t) a b c
          ∙ rest before.place t before.within before.is (omega (arith, low, less))
          ∙ sym (open-by (suc n) false true (Some t) a b c)

  -- The origins one after the other: that of a signal is told by those of the signals before it.
  pub origin-step : length order ≤ length hub.circuit.signals → (s : ℕ) → s < length hub.circuit.signals → origin hub s ≡ (if is_taken hub s then (if hub.piped s then None else Some s) else (if is_own hub s then option_and_then (origin hub) (copied hub.circuit s) else None))
  origin-step few s lt =
      let at = place-of hub.circuit order s ordered lt in
      let within = at.within in
      stable (length hub.circuit.signals) at.place s at.within at.is (omega (arith, within, few))
