-- Tables that are filled item by item.
use Rattle.std.proofs.Common.{◌≡◌, ℕ, suc, ◌+◌, ◌<◌, List, length, get_or, set, take, Bool, true, false, refl, sym, ◌∙◌, ap, ap₂, subst, Some, None, inl, inr, ◌⊎◌, eq-eqb, arith}
use Rattle.std.specs.Prelude.{Option, ◌&&◌, ◌==◌, nat_le, nat_lt, slice_index_or, AllPairs}
use Rattle.std.proofs.lemmas.Bool.{cases_eq, ne_eqb}
use Rattle.std.proofs.lemmas.List.{get_or-set_same, get_or-set_other, length-set, take_more, length-take-le, get_or-take, get_or_default}
use Rattle.gg_flat.specs.Line.{value_at}
use Rattle.gg_flat_tree.specs.Tree.{InstanceTree}
use Rattle.gg_cut_plan.specs.declared.wires.Wire.{Wire}
use Rattle.gg_cut_plan.specs.Machines.{memory_after}
use Rattle.gg_cut_plan.specs.Listed.{first_place, unit_or_hub, has_signal, memory_or}
use Rattle.gg_cut_plan.proofs.OwnerLemmas.{push-place, first_place-push}
use Rattle.gg_cut_split.specs.inside.Spread.{claimed, IsChannelBelow}
use Rattle.gg_cut_split.proofs.ClosedLemmas.PlaceLemmas.{place-none}

-- ---- owners of signals

-- the signals from `first` on, before signal i, belong to the machine; the others are as they were
pub record ClaimedTo (first i machine : ℕ) (old owners : List ℕ) : Type 0 where
  pub count : length owners ≡ length old
  pub claims : (s : ℕ) → value_at owners s ≡ claimed (nat_le first s && nat_lt s i) machine (value_at old s)

pub ClaimedTo-end : (first i end machine : ℕ) (old owners : List ℕ) → ClaimedTo first i machine old owners → i ≡ end → (s : ℕ) → value_at owners s ≡ claimed (nat_le first s && nat_lt s end) machine (value_at old s)
ClaimedTo-end first i end machine old owners before same s = before.claims s ∙ ap (λ n. claimed (nat_le first s && nat_lt s n) machine (value_at old s)) same

-- each signal belongs to the first of the units before place i that has it, else to the hub
pub record OwnedTo (tree : InstanceTree) (units : List ℕ) (i : ℕ) (old owners : List ℕ) : Type 0 where
  pub count : length owners ≡ length old
  pub owns : (s : ℕ) → value_at owners s ≡ unit_or_hub (first_place (has_signal tree s) (take i units))

pub OwnedTo-more : (tree : InstanceTree) (units : List ℕ) (i : ℕ) (old owners new : List ℕ) → i < length units → OwnedTo tree units i old owners → length new ≡ length owners → ((s : ℕ) → value_at new s ≡ claimed (has_signal tree s (value_at units i)) (suc i) (value_at owners s)) → OwnedTo tree units (i + 1) old new
OwnedTo-more tree units i old owners new lt before count claims =
    record {
      count = count ∙ before.count;
      owns = λ s.
          claims s
          ∙ ap (claimed (has_signal tree s (value_at units i)) (suc i)) (before.owns s)
          ∙ step (has_signal tree s (value_at units i)) (first_place (has_signal tree s) (take i units))
          ∙ ap unit_or_hub
          (sym
          (ap (first_place (has_signal tree s)) (take_more units i 0 lt)
          ∙ first_place-push (has_signal tree s) (take i units) (value_at units i)
          ∙ ap (λ n. push-place (first_place (has_signal tree s) (take i units)) n (has_signal tree s (value_at units i))) (length-take-le i units (omega (arith, lt)))));
    }
  where
    step : (b : Bool) (found : Option ℕ) → claimed b (suc i) (unit_or_hub found) ≡ unit_or_hub (push-place found i b)
    step true None = refl
    step true (Some j) = refl
    step false None = refl
    step false (Some j) = refl

-- ---- channels of signals

-- each signal has its channel among those before c
pub record MarkedTo (wires : List Wire) (c : ℕ) (old channels : List (Option ℕ)) : Type 0 where
  pub count : length channels ≡ length old
  pub marks : (s : ℕ) → IsChannelBelow wires c s (slice_index_or channels s None)

-- ---- machines of memories

-- the listed memories before place i have their machines' numbers
pub record NumberedTo (memories : List ℕ) (units i : ℕ) (old found : List ℕ) : Type 0 where
  pub count : length found ≡ length old
  pub numbers : (place : ℕ) → value_at found place ≡ memory_or units (value_at old place) (first_place (λ j. j == place) (take i memories))

pub NumberedTo-more : (memories : List ℕ) (units i : ℕ) (old found : List ℕ) → i < length memories → AllPairs (λ a b. a < b) memories → value_at memories i < length found → NumberedTo memories units i old found → NumberedTo memories units (i + 1) old (set found (value_at memories i) (memory_after units + i))
NumberedTo-more memories units i old found lt ascending within before =
    record { count = length-set found (value_at memories i) (memory_after units + i) ∙ before.count; numbers = λ place. by place (cases_eq place (value_at memories i)) }
  where
    now : (place : ℕ) → first_place (λ j. j == place) (take (i + 1) memories) ≡ push-place (first_place (λ j. j == place) (take i memories)) i (value_at memories i == place)
    now place =
        ap (first_place (λ j. j == place)) (take_more memories i 0 lt)
        ∙ first_place-push (λ j. j == place) (take i memories) (value_at memories i)
        ∙ ap (λ n. push-place (first_place (λ j. j == place) (take i memories)) n (value_at memories i == place)) (length-take-le i memories (omega (arith, lt)))

    none-before : first_place (λ j. j == value_at memories i) (take i memories) ≡ None
    none-before =
        place-none (λ j. j == value_at memories i) (take i memories)
        (λ k d inside.
        let less : k < i = omega (arith, inside, length-take-le i memories (omega (arith, lt))) in
        let up = ascending k i d less lt in
        let read = get_or-take i memories k d less in
        let same = get_or_default memories i d 0 lt in
        ne_eqb (get_or (take i memories) k d) (value_at memories i) (λ e. absurd (omega (arith, up, read, e, same))))

    kept : (found : Option ℕ) (n : ℕ) → push-place found n false ≡ found
    kept None n = refl
    kept (Some j) n = refl

    by : (place : ℕ) → (place ≡ value_at memories i) ⊎ (place ≡ value_at memories i → ⊥) → value_at (set found (value_at memories i) (memory_after units + i)) place ≡ memory_or units (value_at old place) (first_place (λ j. j == place) (take (i + 1) memories))
    by place (inl same) =
        subst (λ p. value_at (set found (value_at memories i) (memory_after units + i)) p ≡ memory_or units (value_at old p) (first_place (λ j. j == p) (take (i + 1) memories))) (sym same)
        (get_or-set_same found (value_at memories i) (memory_after units + i) 0 within
        ∙ ap (memory_or units (value_at old (value_at memories i)))
        (sym (now (value_at memories i) ∙ ap₂ (λ f b. push-place f i b) none-before (eq-eqb (value_at memories i) (value_at memories i) refl))))
    by place (inr other) =
        get_or-set_other found (value_at memories i) place (memory_after units + i) 0 other
        ∙ before.numbers place
        ∙ ap (memory_or units (value_at old place))
        (sym (now place ∙ ap (λ b. push-place (first_place (λ j. j == place) (take i memories)) i b) (ne_eqb (value_at memories i) place (λ e. absurd (other (sym e)))) ∙ kept (first_place (λ j. j == place) (take i memories)) i))
