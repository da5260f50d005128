use Rattle.std.proofs.Common.{◌≡◌, ◌∙◌, ℕ, List, [], None, subst, sym}
use Rattle.gg_cut_plan.specs.Bridges.{Models}
use Rattle.gg_cut_plan.specs.Fault.{first_fault_with}
use Rattle.golden_commands.specs.Handed.{AreHandedIn}
use Rattle.golden_commands.proofs.HandedLemmas.{none-handed}
use Rattle.gg_cut_plan.specs.Plan.{IsPlan}
use Rattle.gg_rows.specs.PartitionText.{demo_partition}
use Rattle.gg_partfile.specs.Partition.{IsPartition}
use Rattle.gg_partfile.specs.declared.request.Request.{Request}
use Rattle.golden_commands.specs.Demo.{demo_capacity}
use Rattle.golden_commands.specs.Partition.{Cuts, to_run}
use Rattle.golden.proofs.demo.demo_cut.Goals as goal

pub returns-clause-cuts : goal.returns-clause-cuts
returns-clause-cuts c =
    let text = demo_partition c.args.size in
    let asks : IsPartition text c.in_ok-request.request = subst (λ (b : List ℕ). IsPartition b c.in_ok-request.request) (c.as_bytes-bytes.ensures.value ∙ c.in_ok-text.ensures) c.in_ok-request.ensures.asks in
    subst (λ (r : Request). Cuts (to_run []) c.args.design.now text r) (sym c.in_ok-cut.ensures.request) (record { asks = asks; faultless = subst (λ (m : Models). first_fault_with c.args.design.now m c.in_ok-request.request ≡ None) c.new.ensures c.in_ok-cut.ensures.faultless; alone = λ off. absurd (cc) })

pub returns-clause-planned : goal.returns-clause-planned
returns-clause-planned c = subst (λ (m : Models). IsPlan c.args.design.now c.in_ok-cut.cut.request m demo_capacity c.in_ok-cut.cut.plan) c.new.ensures
    (subst (λ (r : Request). IsPlan c.args.design.now r c.new.result demo_capacity c.in_ok-cut.cut.plan) (sym c.in_ok-cut.ensures.request) c.in_ok-cut.ensures.planned)

pub cut_request-requires-clause-handed : goal.cut_request-requires-clause-handed
cut_request-requires-clause-handed c = subst AreHandedIn (sym c.new.ensures) none-handed
