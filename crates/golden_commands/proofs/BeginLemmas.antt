-- The run of a request begins where the network of its plan begins with zeros.
use Rattle.std.proofs.Common.{◌≡◌, ℕ, List, sym, ap, subst}
use Rattle.gg_flat.specs.Run.{IsRunFrom, Start, clocked_start}
use Rattle.gg_flat.specs.State.{State}
use Rattle.gg_order.specs.Design.{Ordered}
use Rattle.gg_partfile.specs.declared.request.Request.{Request}
use Rattle.gg_cut_plan.specs.Bridges.{Models}
use Rattle.gg_cut_plan.specs.Clocks.{ratios_of}
use Rattle.gg_cut_plan.specs.Solves.{AreRows}
use Rattle.gg_cut_reference.specs.Follows.{plan_start}
use Rattle.gg_cut_reference.specs.Made.{plan_reference}
use Rattle.gg_cut_reference.proofs.StartLemmas.{opening-rows}
use Rattle.gg_cut_reference.specs.whole.Whole.{plan_begin, plan_circuit}
use Rattle.gg_cut_reference.proofs.WholeLemmas.StateLemmas.{zeros-with}
use Rattle.golden_commands.specs.RunText.{IsRunBy}

module _ (design : Ordered) (request : Request) (models : Models) where
  zeros-begin : plan_begin design request models (plan_start design request) ≡ clocked_start (plan_circuit design request models) (ratios_of design.tree request)
  zeros-begin =
      ap (λ (state : State). let start : Start = record { cycle = 0; state = state; ratios = ratios_of design.tree request } in start) (zeros-with models (plan_reference design request) request.bridges)

  module _ (columns : List (List ℕ)) (n : ℕ) (rows : List (List ℕ)) where
    pub run-of : AreRows (plan_circuit design request models) (plan_begin design request models (plan_start design request)) columns n rows → IsRunBy design request models columns n rows
    run-of are = subst (λ (start : Start). IsRunFrom (plan_circuit design request models) start columns n rows) zeros-begin are.run

    pub rows-of : IsRunBy design request models columns n rows → AreRows (plan_circuit design request models) (plan_begin design request models (plan_start design request)) columns n rows
    rows-of run =
        subst (λ (start : Start). AreRows (plan_circuit design request models) start columns n rows) (sym zeros-begin)
        (opening-rows (plan_circuit design request models) (ratios_of design.tree request) columns n rows run)
