-- A unit has what a copy of it has: all parts of `IsUnitAgain`.
use Rattle.std.proofs.Common.{◌≡◌, ℕ, ◌≤◌, subst, arith}
use Rattle.std.specs.Prelude.{◌↔◌, Contains}
use Rattle.gg_part.specs.Copies.{Start}
use Rattle.gg_part.specs.Moved.{shifted}
use Rattle.gg_order.specs.Design.{Ordered}
use Rattle.gg_cut_plan.specs.declared.listed.Listed.{Listed}
use Rattle.gg_cut_plan.specs.Machines.{unit_number}
use Rattle.gg_cut_plan.specs.Plan.{channels_from, givens_of}
use Rattle.gg_cut_split.specs.inside.Again.{IsUnitAgain, HasSignal, again_at, cut_wires, unit_first}
use Rattle.gg_cut_split.proofs.AgainLemmas.AtAgainLemmas.{held-behind, shifted-back}
use Rattle.gg_cut_split.proofs.AgainLemmas.BankLemmas.{banks-too, memory-too}
use Rattle.gg_cut_split.proofs.AgainLemmas.ChannelAgainLemmas.{channels-over}
use Rattle.gg_cut_split.proofs.AgainLemmas.ClockAgainLemmas.{register-clock-too, memory-clocks-too, own-clocks-too}
use Rattle.gg_cut_split.proofs.AgainLemmas.Pair.{ArePair, AreChannelsOver, turned}
use Rattle.gg_cut_split.proofs.AgainLemmas.PairLemmas.{start_of}
use Rattle.gg_cut_split.proofs.AgainLemmas.SignalLemmas.{has-held, has-too, driver-too, register-too}
use Rattle.gg_cut_split.proofs.AgainLemmas.TakenAgainLemmas.{ins}

module _ (design : Ordered) (listed : Listed) (u v : ℕ) (one other : Start) (pair : ArePair design listed u v (start_of design.tree listed u one) (start_of design.tree listed v other)) where
  -- the starts of the two units
  abbrev from : Start
  from = start_of design.tree listed u one

  abbrev to : Start
  to = start_of design.tree listed v other

  channels : AreChannelsOver design listed u v (start_of design.tree listed u one) (start_of design.tree listed v other)
  channels = channels-over design listed u v from to pair

  channels-back : AreChannelsOver design listed v u (start_of design.tree listed v other) (start_of design.tree listed u one)
  channels-back = channels-over design listed v u to from (turned pair)

  behind : (s : ℕ) → HasSignal design listed (unit_number u) s → unit_first design.tree listed (unit_number u) ≤ s
  behind s has = held-behind design listed u v from to pair s (has-held design listed u v from to pair channels s has)

  has-back : (t : ℕ) → HasSignal design listed (unit_number v) t → (s : ℕ) × HasSignal design listed (unit_number u) s × (again_at design listed (unit_number u) (unit_number v) s ≡ t)
  has-back t has =
      let low = held-behind design listed v u to from (turned pair) t (has-held design listed v u to from (turned pair) channels-back t has) in
      (again_at design listed (unit_number v) (unit_number u) t, has-too design listed v u to from (turned pair) channels-back t has, shifted-back to.signals from.signals t low)

  outs-too : (s : ℕ) → HasSignal design listed (unit_number u) s
      → Contains (givens_of (cut_wires design listed) (channels_from (cut_wires design listed) (unit_number u))) s ↔ Contains (givens_of (cut_wires design listed) (channels_from (cut_wires design listed) (unit_number v))) (again_at design listed (unit_number u) (unit_number v) s)
  outs-too s has = (
    channels.given s,
    λ h. subst (Contains (givens_of (cut_wires design listed) (channels_from (cut_wires design listed) (unit_number u)))) (shifted-back from.signals to.signals s (behind s has)) (channels-back.given (again_at design listed (unit_number u) (unit_number v) s) h),
  )

  pub unit-again : IsUnitAgain design listed (unit_number u) (unit_number v)
  unit-again =
      record {
        registers = shifted one.registers other.registers;
        memories = shifted one.memories other.memories;
        units = (omega arith, (let lt = pair.there.known in omega (arith, lt)), omega arith, (let lt = pair.back.known in omega (arith, lt)));
        behind = behind;
        has = has-too design listed u v from to pair channels;
        back = has-back;
        ins = ins design listed u v from to pair;
        outs = outs-too;
        shape = λ s has. pair.copy.shape s (has-held design listed u v from to pair channels s has);
        driver = driver-too design listed u v from to pair channels;
        register = register-too design listed u v from to pair channels;
        banks = banks-too design listed u v from to pair;
        memory = memory-too design listed u v from to pair;
        register_clock = register-clock-too design listed u v from to pair channels;
        memory_clocks = memory-clocks-too design listed u v from to pair;
        own_clocks = own-clocks-too design listed u v from to pair;
      }
