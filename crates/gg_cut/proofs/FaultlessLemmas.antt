-- What a request without a fault says of its capacities, and which fault is the first.
use Rattle.std.proofs.Common.{◌≡◌, ℕ, zero, suc, ◌^◌, ◌<◌, ◌≤◌, List, [], ◌∷◌, ◌++◌, Bool, true, false, refl, sym, ◌∙◌, ap, inl, inr, Some, None, arith}
use Rattle.std.specs.Prelude.{cond, ◌||◌, ◌==◌, nat_lt, All, Option}
use Rattle.std.proofs.lemmas.Bool.{ltb-false, or_parts}
use Rattle.gg_bits.specs.Limits.{capacity_limit}
use Rattle.gg_order.specs.Design.{Ordered}
use Rattle.gg_partfile.specs.declared.request.Request.{Request}
use Rattle.gg_cut_plan.specs.declared.fault.CutFault.{CutFault}
use Rattle.gg_cut_plan.specs.declared.fault.CutFault.TheVariants.{OutOfRange}
use Rattle.gg_cut_plan.specs.Listed.{listed_of}
use Rattle.gg_cut_plan.specs.Channels.{capacity_of}
use Rattle.gg_cut_plan.specs.Direct.{plan_signals}
use Rattle.gg_cut_plan.specs.Fault.{IsTold, entry_faults, channel_faults, pipe_faults, clock_faults, out_of_range, range_fault, first_fault}
use Rattle.gg_bits.specs.Lists.{or_else, first_of}
use Rattle.gg_cut_plan.proofs.FindLemmas.{none-map, first-append}
use Rattle.gg_cut_split.proofs.ClosedLemmas.FaultlessLemmas as closed
use Rattle.gg_cut.specs.Made.{IsCapacity}

-- ---- capacities

in-range : (capacities : List (List ℕ × ℕ)) → out_of_range capacities ≡ None → All (λ pair. pair.1 < 2 ^ 32) capacities
in-range [] none = λ k d lt. absurd (omega arith)
in-range (pair ∷ capacities) none = by ((pair.1 == 0) || nat_lt capacity_limit pair.1) refl none (in-range capacities)
  where
    by : (b : Bool) → ((pair.1 == 0) || nat_lt capacity_limit pair.1) ≡ b → cond b (Some pair) (out_of_range capacities) ≡ None → (out_of_range capacities ≡ None → All (λ pair. pair.1 < 2 ^ 32) capacities) → All (λ pair. pair.1 < 2 ^ 32) (pair ∷ capacities)
    by true e none rest = absurd (cc)
    by false e none rest = first
      where
        small : pair.1 ≤ capacity_limit
        small = ltb-false capacity_limit pair.1 (or_parts (pair.1 == 0) (nat_lt capacity_limit pair.1) e).1

        first : All (λ pair. pair.1 < 2 ^ 32) (pair ∷ capacities)
        first zero d lt = omega (arith, small)
        first (suc k) d lt = rest none k d (omega arith)

pub capacities-small : (capacities : List (List ℕ × ℕ)) → range_fault capacities ≡ None → All (λ pair. pair.1 < 2 ^ 32) capacities
capacities-small capacities none = in-range capacities (none-map (λ pair. OutOfRange pair.0 pair.1) (out_of_range capacities) none)

pub capacity-sound : (capacities : List (List ℕ × ℕ)) (default : ℕ) (name : List ℕ) → range_fault capacities ≡ None → IsCapacity default → IsCapacity (capacity_of capacities default name)
capacity-sound capacities default name none own = closed.capacity-is (λ n. IsCapacity n) (λ n some few. (some, few)) capacities default name none own

-- ---- the faults of channels and of pipes

module _ (design : Ordered) (request : Request) where
  abbrev of_entries : List (Option CutFault)
  of_entries = entry_faults design.tree request

  abbrev of_channels : List (Option CutFault)
  of_channels = channel_faults design.circuit request (listed_of design.tree request) (plan_signals design.circuit design.tree request)

  abbrev of_pipes : List (Option CutFault)
  of_pipes = pipe_faults design.circuit request (plan_signals design.circuit design.tree request)

  abbrev of_clocks : List (Option CutFault)
  of_clocks = clock_faults design.tree request

  -- a fault of the entries is the first of all
  pub entries-told : (cause : CutFault) → IsTold (first_of (entry_faults design.tree request)) cause → IsTold (first_fault design request) cause
  entries-told cause (inl memory) = inl memory
  entries-told cause (inr told) =
      inr (first-append of_entries (of_channels ++ (of_pipes ++ of_clocks)) ∙ ap (λ f. or_else f (first_of (of_channels ++ (of_pipes ++ of_clocks)))) told)

  module _ (none : first_of (entry_faults design.tree request) ≡ None) where
    -- if the entries have no fault, the first fault is that of the channels, else that of the pipes, and else that of the clocks
    later-first : or_else (first_of of_channels) (or_else (first_of of_pipes) (first_of of_clocks)) ≡ first_fault design request
    later-first =
        ap (or_else (first_of of_channels)) (sym (first-append of_pipes of_clocks))
        ∙ sym (first-append of_channels (of_pipes ++ of_clocks))
        ∙ ap (λ f. or_else f (first_of (of_channels ++ (of_pipes ++ of_clocks)))) (sym none)
        ∙ sym (first-append of_entries (of_channels ++ (of_pipes ++ of_clocks)))

    pub channels-told : (cause : CutFault) → IsTold (first_of (channel_faults design.circuit request (listed_of design.tree request) (plan_signals design.circuit design.tree request))) cause → IsTold (first_fault design request) cause
    channels-told cause (inl memory) = inl memory
    channels-told cause (inr told) = inr (sym later-first ∙ ap (λ f. or_else f (or_else (first_of of_pipes) (first_of of_clocks))) told)

    module _ (some : first_of (channel_faults design.circuit request (listed_of design.tree request) (plan_signals design.circuit design.tree request)) ≡ None) where
      last-first : or_else (first_of of_pipes) (first_of of_clocks) ≡ first_fault design request
      last-first = ap (λ f. or_else f (or_else (first_of of_pipes) (first_of of_clocks))) (sym some) ∙ later-first

      pub pipes-told : (cause : CutFault) → IsTold (first_of (pipe_faults design.circuit request (plan_signals design.circuit design.tree request))) cause → IsTold (first_fault design request) cause
      pipes-told cause (inl memory) = inl memory
      pipes-told cause (inr told) = inr (sym last-first ∙ ap (λ f. or_else f (first_of of_clocks)) told)

      pub clocks-first : first_of (pipe_faults design.circuit request (plan_signals design.circuit design.tree request)) ≡ None → first_of (clock_faults design.tree request) ≡ first_fault design request
      clocks-first good = ap (λ f. or_else f (first_of of_clocks)) (sym good) ∙ last-first
