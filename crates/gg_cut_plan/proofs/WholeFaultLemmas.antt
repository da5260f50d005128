-- The faults of a request with those of its bridges behind them.
use Rattle.std.proofs.Common.{◌≡◌, length, sym, ap, Option, Some, None}
use Rattle.gg_order.specs.Design.{Ordered}
use Rattle.gg_partfile.specs.declared.request.Request.{Request}
use Rattle.gg_cut_plan.specs.declared.fault.CutFault.{CutFault}
use Rattle.gg_cut_plan.specs.Bridges.{Models, bridge_faults}
use Rattle.gg_cut_plan.specs.Fault.{IsTold, first_fault, first_fault_with}
use Rattle.gg_bits.specs.Lists.{or_else, first_of}
use Rattle.gg_cut_plan.proofs.FindLemmas.{told-first, none-first, none-second}

module _ (design : Ordered) (models : Models) (request : Request) where
  abbrev of_bridges : Option CutFault
  of_bridges = first_of (bridge_faults design.circuit (length design.tree.stops) models request.bridges)

  -- without another fault, the first is that of the bridges
  pub bridges-first : first_fault design request ≡ None → of_bridges ≡ first_fault_with design models request
  bridges-first none = sym (ap (λ fault. or_else fault of_bridges) none)

  -- another fault comes before those of the bridges
  pub others-first : (fault : CutFault) → first_fault design request ≡ Some fault → first_fault_with design models request ≡ Some fault
  others-first fault found = ap (λ f. or_else f of_bridges) found

  pub others-told : (cause : CutFault) → IsTold (first_fault design request) cause → IsTold (first_fault_with design models request) cause
  others-told cause told = told-first (first_fault design request) of_bridges cause told

  -- where there is no fault, there is none of either
  pub faultless-others : first_fault_with design models request ≡ None → first_fault design request ≡ None
  faultless-others none = none-first (first_fault design request) of_bridges none

  pub faultless-bridges : first_fault_with design models request ≡ None → of_bridges ≡ None
  faultless-bridges none = none-second (first_fault design request) of_bridges none
