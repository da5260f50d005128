-- A tray tells the values of its channel, as long as it keeps them.
use Rattle.std.proofs.Common.{◌≡◌, ℕ, ◌-◌, ◌+◌, ◌<◌, ◌≤◌, List, Option, None, Some, Bool, true, length, refl, sym, ap, subst, ◌∙◌, ⊎_elim, arith}
use Rattle.std.specs.Prelude.{if◌then◌else◌, ◌&&◌, nat_lt, slice_get}
use Rattle.std.proofs.lemmas.Bool.{cases_lt, le-leb, lt-leb, lt-ltb, le-ltb}
use Rattle.std.proofs.lemmas.Option.{slice_get-get_or, none-some, same_Some}
use Rattle.gg_flat.specs.Line.{value_at}
use Rattle.gg_flat.specs.Streams.{Flow}
use Rattle.gg_node.specs.Machine.{KeepsLast, Behaviour, Machine, first_kept, kept_value}
use Rattle.gg_net.specs.Network.{Network, wire_at, consumer_of}
use Rattle.gg_net.specs.Kept.{list_at, HasKept, Keeps, Kept}
use Rattle.gg_net.proofs.MayLemmas.{consumer-there}

module _ (list : List ℕ) (begin rows : ℕ) (machine : Machine) (has : HasKept list begin rows machine.cycle machine.kept) where
  first-is : first_kept machine ≡ has.base
  first-is = omega (arith, has.between.held)

  abbrev kept-if : Bool → Bool → ℕ → Option ℕ
  kept-if from below t = if from && below then slice_get machine.kept (t - first_kept machine) else None

  told : (t : ℕ) → has.base ≤ t → t < machine.cycle → kept_value machine t ≡ Some (value_at list t)
  told t ge lt =
      let place = t - first_kept machine in
      let within : place < length machine.kept = omega (arith, ge, lt, has.between.held, first-is) in
      ap (λ b. kept-if b (nat_lt t machine.cycle) t) (le-leb (first_kept machine) t (omega (arith, ge, first-is)))
      ∙ ap (λ b. kept-if true b t) (lt-ltb t machine.cycle lt)
      ∙ slice_get-get_or machine.kept place 0 within
      ∙ ap Some (has.between.tokens place within ∙ ap (value_at list) (omega (arith, ge, first-is)))

  none-before : (t : ℕ) → t < has.base → kept_value machine t ≡ None
  none-before t lt = ap (λ b. kept-if b (nat_lt t machine.cycle) t) (lt-leb (first_kept machine) t (omega (arith, lt, first-is)))

  none-after : (t : ℕ) → has.base ≤ t → machine.cycle ≤ t → kept_value machine t ≡ None
  none-after t ge le =
      ap (λ b. kept-if b (nat_lt t machine.cycle) t) (le-leb (first_kept machine) t (omega (arith, ge, first-is)))
      ∙ ap (λ b. kept-if true b t) (le-ltb t machine.cycle le)

  -- the last `rows` values are kept, from the beginning on
  pub tells : (t : ℕ) → begin ≤ t → t < machine.cycle → machine.cycle ≤ t + rows → kept_value machine t ≡ Some (value_at list t)
  tells t begun lt near =
      told t
      (⊎_elim
      (λ (few : length machine.kept < rows). omega (arith, begun, has.whole few))
      (λ (full : rows ≤ length machine.kept). omega (arith, near, full, has.between.held))
      (cases_lt (length machine.kept) rows))
      lt

  -- no others are
  pub tells-only : (t value : ℕ) → kept_value machine t ≡ Some value → (begin ≤ t) × (t < machine.cycle) × (machine.cycle ≤ t + rows) × (value ≡ value_at list t)
  tells-only t value is =
      ⊎_elim
      (λ (lt : t < has.base). absurd (none-some value (sym (none-before t lt) ∙ is)))
      (λ (ge : has.base ≤ t). ⊎_elim
      (λ (lt : t < machine.cycle). (omega (arith, ge, has.begun), lt, omega (arith, ge, has.between.held, has.between.room), same_Some value (value_at list t) (sym is ∙ told t ge lt)))
      (λ (le : machine.cycle ≤ t). absurd (none-some value (sym (none-after t ge le) ∙ is)))
      (cases_lt t machine.cycle))
      (cases_lt t has.base)

module _ (flow : Flow) (net : Network) (kept : Kept flow net) (c rows : ℕ) (known : c < length net.wires) (is : (consumer_of net c).behaviour ≡ KeepsLast rows) where
  pub tray-keeps : HasKept (list_at flow.lists c) flow.begin rows (consumer_of net c).cycle (consumer_of net c).kept
  tray-keeps =
      let machine : Machine = consumer_of net c in
      subst (λ (b : Behaviour). Keeps b flow.begin (list_at flow.lists c) machine.cycle machine.kept) is
      ((kept.machines (wire_at net.wires c).consumer (consumer-there flow net kept c known)).kept c known refl)
