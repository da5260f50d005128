use Rattle.std.proofs.Common.{ℕ, List, inr, subst, sym}
use Rattle.std.proofs.lemmas.Result.{IfErr-weaker, IfOk-weaker}
use Rattle.gg_cut_plan.specs.Plan.{IsPlan}
use Rattle.gg_partfile.specs.Partition.{IsPartition}
use Rattle.gg_partfile.specs.declared.request.Request.{Request}
use Rattle.golden_commands.specs.Partition.{Known}
use Rattle.golden_commands.specs.declared.partition.Cut.{Cut}
use Rattle.gg_io.proofs.EndingLemmas.{exit-is, IfRefused-map}
use Rattle.golden_commands.proofs.PartitionLemmas.{allowed-refused, cuts-allowed, file-refused, request-refused}
use Rattle.golden_commands.proofs.partition.read_cut.Goals as goal

pub returns-in_err-request-clause-refused : goal.returns-in_err-request-clause-refused
returns-in_err-request-clause-refused g c =
    let known : Known = record { models = c.args.models.now; saves = c.args.saves } in
    rw (exit-is c.from_residual-in_err-request.ensures.1)
    (IfRefused-map
    (λ said h. inr (
      c.in_ok-bytes.bytes.items,
      record { held = c.in_ok-bytes.ensures.held; within = c.in_ok-bytes.ensures.within },
      file-refused known c.args.design.now c.in_ok-bytes.bytes.items c.as_slice.result.now said c.as_slice.ensures.value h,
    ))
    c.in_err-request.field-0.0 c.in_err-request.ensures.refused)

pub returns-in_err-cut-clause-refused : goal.returns-in_err-cut-clause-refused
returns-in_err-cut-clause-refused g c =
    let known : Known = record { models = c.args.models.now; saves = c.args.saves } in
    rw (exit-is c.from_residual-in_err-cut.ensures.1)
    (IfRefused-map
    (λ said h. inr (
      c.in_ok-bytes.bytes.items,
      record { held = c.in_ok-bytes.ensures.held; within = c.in_ok-bytes.ensures.within },
      request-refused known c.args.design.now c.in_ok-bytes.bytes.items c.as_slice.result.now c.in_ok-request.request said c.as_slice.ensures.value c.in_ok-request.ensures.asks h,
    ))
    c.in_err-cut.field-0.0 c.in_err-cut.ensures.refused)

pub returns-clause-accepted : goal.returns-clause-accepted
returns-clause-accepted g c =
    let known : Known = record { models = c.args.models.now; saves = c.args.saves } in
    let bytes = c.in_ok-bytes.bytes.items in
    let asks : IsPartition bytes c.in_ok-request.request = subst (λ (b : List ℕ). IsPartition b c.in_ok-request.request) c.as_slice.ensures.value c.in_ok-request.ensures.asks in
    cuts-allowed known c.args.design.now bytes c.in_ok-request.request c.in_ok-cut.cut asks c.in_ok-cut.ensures.request c.in_ok-cut.ensures.faultless c.allowed.result
    (record { held = c.in_ok-bytes.ensures.held; within = c.in_ok-bytes.ensures.within }) c.allowed.ensures.same c.allowed.ensures.alone

pub returns-clause-planned : goal.returns-clause-planned
returns-clause-planned g c =
    IfOk-weaker c.allowed.result _ _
    (λ own same. subst (λ (cut : Cut). IsPlan c.args.design.now cut.request c.args.models.now c.args.capacity cut.plan) (sym same)
    (subst (λ (r : Request). IsPlan c.args.design.now r c.args.models.now c.args.capacity c.in_ok-cut.cut.plan) (sym c.in_ok-cut.ensures.request) c.in_ok-cut.ensures.planned))
    c.allowed.ensures.same

pub returns-clause-refused : goal.returns-clause-refused
returns-clause-refused g c =
    let known : Known = record { models = c.args.models.now; saves = c.args.saves } in
    IfErr-weaker c.allowed.result _ _
    (λ ending. IfRefused-map
    (λ said h. inr (
      c.in_ok-bytes.bytes.items,
      record { held = c.in_ok-bytes.ensures.held; within = c.in_ok-bytes.ensures.within },
      allowed-refused known c.args.design.now c.in_ok-bytes.bytes.items c.as_slice.result.now c.in_ok-request.request c.in_ok-cut.cut said c.as_slice.ensures.value c.in_ok-request.ensures.asks c.in_ok-cut.ensures.request c.in_ok-cut.ensures.faultless h,
    ))
    ending)
    c.allowed.ensures.refused
