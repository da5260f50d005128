-- What a signal reaches comes before it in an order of evaluation, and what it reaches in a part it reaches in the whole circuit.
use Rattle.std.proofs.Common.{◌≡◌, ℕ, ◌<◌, List, length, refl, sym, ◌∙◌, subst, inl, inr, ◌⊎◌, arith, Option}
use Rattle.std.proofs.lemmas.List.{get_or_default}
use Rattle.gg_flat.specs.Line.{value_at}
use Rattle.gg_flat.specs.Circuit.{FlatCircuit, driver_at}
use Rattle.gg_flat.specs.Reads.{Reads, Reaches}
use Rattle.gg_flat.specs.Order.{IsOrder}
use Rattle.gg_flat.proofs.OrderLemmas.{read-before}
use Rattle.gg_flat.proofs.ListLemmas.{once-apart}
use Rattle.gg_order.proofs.NeedsLemmas.ReachLemmas.{Reaches-itself, Reaches-on, along-reaches}
use Rattle.gg_part.specs.Part.{IsPart}
use Rattle.gg_part.proofs.AlongLemmas.{named-in}
use Rattle.gg_build.specs.plan.Built.{place_in}
use Rattle.gg_build.proofs.PlanLemmas.NumberLemmas.{placed}

-- ---- places in an order

module _ (circuit : FlatCircuit) (order : List ℕ) (ordered : IsOrder circuit order) where
  -- a signal that is read comes before the signal that reads it
  read-lower : (a b : ℕ) → Reads circuit a b → place_in order b < place_in order a
  read-lower a b reads =
      let at = placed order a (ordered.every a reads.signal) in
      let before = read-before circuit order (place_in order a) a b ordered at.within at.is reads in
      let there = placed order b (before.place, before.within, get_or_default order before.place b 0 before.within ∙ before.is) in
      let same : place_in order b ≡ before.place = once-apart order 0 ordered.once (place_in order b) before.place there.within before.within (there.is ∙ sym before.is) in
      omega (arith, same, before.before)

  -- a signal that is reached is the signal itself, or comes before it
  pub reach-lower : (a b : ℕ) → Reaches circuit a b → (a ≡ b) ⊎ (place_in order b < place_in order a)
  reach-lower a b to = along-reaches circuit (λ (x : ℕ). (a ≡ x) ⊎ (place_in order x < place_in order a)) closed a b (inl refl) to
    where
      closed : (x y : ℕ) → (a ≡ x) ⊎ (place_in order x < place_in order a) → Reads circuit x y → (a ≡ y) ⊎ (place_in order y < place_in order a)
      closed x y (inl same) reads = inr (read-lower a y (subst (λ (s : ℕ). Reads circuit s y) (sym same) reads))
      closed x y (inr less) reads = let lower = read-lower x y reads in inr (omega (arith, less, lower))

-- ---- parts

module _ (whole part : FlatCircuit) (globals held memories : List ℕ) (clocks : List (Option ℕ)) (is : IsPart whole part globals held memories clocks) where
  -- x is a signal of the part, and a reaches it in the whole circuit
  record IsReachedIn (a x : ℕ) : Type 0 where
    within : x < length globals
    reached : Reaches whole (value_at globals a) (value_at globals x)

  pub reach-in : (a b : ℕ) → a < length globals → Reaches part a b → Reaches whole (value_at globals a) (value_at globals b)
  reach-in a b known to = (along-reaches part (λ (x : ℕ). IsReachedIn a x) closed a b (record { within = known; reached = Reaches-itself whole (value_at globals a) }) to).reached
    where
      closed : (x y : ℕ) → IsReachedIn a x → Reads part x y → IsReachedIn a y
      closed x y at reads =
          let named = named-in part.ins globals held memories x y (driver_at whole (value_at globals x)) (driver_at part x) (is.drivers x at.within) reads.names in
          record {
            within = named.within;
            reached = Reaches-on whole (value_at globals a) (value_at globals x) (value_at globals y) at.reached (record { signal = is.within x at.within; names = named.named });
          }
