-- The first cycle in which a stop ends the run of a plan's network.
use Rattle.std.proofs.Common.{◌≡◌, ℕ, ◌-◌, List, Bool, true, false, length, subst, arith}
use Rattle.std.specs.Prelude.{Some, None, Ok}
use Rattle.gg_flat.specs.Clock.{Ratio}
use Rattle.gg_flat.specs.Run.{Start}
use Rattle.gg_flat.specs.Streams.{Flow}
use Rattle.gg_flat.specs.declared.ports.Port.{Port}
use Rattle.gg_build.specs.Build.{IsToRunFrom}
use Rattle.gg_cut_plan.specs.declared.plan.Plan.{Plan}
use Rattle.gg_net.specs.Network.{Network}
use Rattle.gg_cut_reference.specs.whole.Whole.{plan_circuit}
use Rattle.gg_rows.specs.inside.Printed.{IsFirst, SeesStop, ends_run}
use Rattle.gg_rows.specs.Printed.{plan_stops}
use Rattle.gg_rows.specs.inside.Rows.{run_row}
use Rattle.gg_rows.specs.inside.Taken.{Ran}
use Rattle.gg_rows.proofs.StopLemmas.{saw-first, saw-none}

module _ {plan : Plan} {start : Start} {columns : List (List ℕ)} {n : ℕ} {flow : Flow} (run : IsToRunFrom plan start columns n flow) (ports : List Port) (stops : List Ratio) (shown cycles : ℕ)
    (follows : stops ≡ plan_stops run.design run.request) (behind : shown ≡ length ports) {opening : Network} {first before after : ℕ} where
  ran-so : (all whole : Bool) → all ≡ whole → Ran (SeesStop stops shown cycles) (run_row run) opening first 0 (n - 0) before after (Ok all)
      → Ran (SeesStop (plan_stops run.design run.request) (length ports) cycles) (run_row run) opening first 0 (n - 0) before after (Ok whole)
  ran-so all whole is ran =
      subst (λ (a : Bool). Ran (SeesStop (plan_stops run.design run.request) (length ports) cycles) (run_row run) opening first 0 (n - 0) before after (Ok a)) is
      (subst (λ (s : ℕ). Ran (SeesStop (plan_stops run.design run.request) s cycles) (run_row run) opening first 0 (n - 0) before after (Ok all)) behind
      (subst (λ (ratios : List Ratio). Ran (SeesStop ratios shown cycles) (run_row run) opening first 0 (n - 0) before after (Ok all)) follows ran))

  pub stopped-none : (all : Bool) → all ≡ true → Ran (SeesStop stops shown cycles) (run_row run) opening first 0 (n - 0) before after (Ok all)
      → IsFirst (ends_run (plan_stops run.design run.request) (plan_circuit run.design run.request run.models) ports run.rows cycles) n None
  stopped-none all is ran =
      saw-none (plan_stops run.design run.request) (plan_circuit run.design run.request run.models) ports run.rows cycles n run.given.run.count before (omega arith) (ran-so all true is ran).took

  pub stopped-first : (all : Bool) → all ≡ false → Ran (SeesStop stops shown cycles) (run_row run) opening first 0 (n - 0) before after (Ok all)
      → IsFirst (ends_run (plan_stops run.design run.request) (plan_circuit run.design run.request run.models) ports run.rows cycles) n (Some after)
  stopped-first all is ran =
      saw-first (plan_stops run.design run.request) (plan_circuit run.design run.request run.models) ports run.rows cycles n run.given.run.count before (omega arith) (ran-so all false is ran).took
