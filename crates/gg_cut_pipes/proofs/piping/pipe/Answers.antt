use Rattle.std.proofs.Common.{◌≡◌, ◌++◌, ◌<◌, ◌≤◌, ◌+◌, List, length, sym, ◌∙◌, ap, ap₂, subst, arith}
use Rattle.std.specs.Prelude.{All}
use Rattle.std.specs.List.{range_with_len}
use Rattle.gg_flat.specs.Circuit.{FlatCircuit}
use Rattle.gg_flat.specs.Order.{IsOrder}
use Rattle.gg_flat.specs.WellFormed.{IsWellFormed}
use Rattle.gg_order.specs.Design.{IsDesign}
use Rattle.gg_cut_plan.specs.declared.plan.Channel.{Channel}
use Rattle.gg_cut_plan.specs.Direct.{plan_hub}
use Rattle.gg_cut_reference.specs.Links.{pipes_of}
use Rattle.gg_cut_reference.specs.Made.{plan_reference}
use Rattle.gg_cut_pipes.specs.inside.Tables.{piped_places, piped_signals}
use Rattle.gg_cut_reference.proofs.PlanLemmas.{plan-formed, plan-ordered}
use Rattle.gg_cut_pipes.proofs.PipingLemmas.{few-pipes, known-places, pipes-are}
use Rattle.gg_cut_pipes.proofs.piping.pipe.Goals as goal

pub pipes_in-requires-clause-known : goal.pipes_in-requires-clause-known
pipes_in-requires-clause-known c =
    let design = c.args.design.now in
    let ready : IsDesign design = record { formed = c.piece.ensures.formed; ordered = c.order.ensures.ordered } in
    subst (λ (l : List Channel). All (λ s. s < length c.signals-count.result.now) (piped_places l)) (sym c.as_slice.ensures)
    (subst (λ n. All (λ s. s < n) (piped_places c.args.plan.now.channels)) (sym (ap length (c.signals-count.ensures ∙ ap (λ (one : FlatCircuit). one.signals) c.piece.ensures.circuit))) (known-places design c.args.plan.now ready c.requires))

pub pipes_in-requires-clause-few : goal.pipes_in-requires-clause-few
pipes_in-requires-clause-few c =
    let few = c.requires.few in
    let same = ap length (c.signals-count.ensures ∙ ap (λ (one : FlatCircuit). one.signals) c.piece.ensures.circuit) in
    let bound : length c.signals-count.result.now ≤ 4294967296 = omega (arith, few, same) in
    bound

pub order_of-requires : goal.order_of-requires
order_of-requires c =
    let few = few-pipes c.args.design.now c.args.plan.now c.requires in
    let count = ap length (c.in_ok-pipes.ensures ∙ ap₂ piped_signals (ap length (c.signals-count.ensures ∙ ap (λ (one : FlatCircuit). one.signals) c.piece.ensures.circuit)) c.as_slice.ensures) in
    let long = c.len.ensures in
    let bound : length c.args.design.now.circuit.signals + c.len.result ≤ 4294967296 = omega (arith, few, count, long) in
    bound

pub new-requires-clause-formed : goal.new-requires-clause-formed
new-requires-clause-formed c =
    let can = c.requires in
    let design = c.args.design.now in
    let plan = c.args.plan.now in
    let ready : IsDesign design = record { formed = c.piece.ensures.formed; ordered = c.order.ensures.ordered } in
    subst IsWellFormed (sym (c.in_ok-circuit.ensures can)) (plan-formed design can.request ready can.keeps can.held can.none can.fresh)

pub new-requires-clause-ordered : goal.new-requires-clause-ordered
new-requires-clause-ordered c =
    let can = c.requires in
    let design = c.args.design.now in
    let plan = c.args.plan.now in
    let ready : IsDesign design = record { formed = c.piece.ensures.formed; ordered = c.order.ensures.ordered } in
    let count : length c.in_ok-pipes.pipes.items ≡ length (pipes_of (plan_hub design.circuit design.tree can.request)) = ap length (c.in_ok-pipes.ensures ∙ ap₂ piped_signals (ap length (c.signals-count.ensures ∙ ap (λ (one : FlatCircuit). one.signals) c.piece.ensures.circuit)) c.as_slice.ensures ∙ pipes-are design plan ready can) in
    let long : c.len.result ≡ length c.in_ok-pipes.pipes.items = (let e = c.len.ensures in omega (arith, e)) in
    subst (λ (one : FlatCircuit). IsOrder one c.in_ok-order.order) (sym (c.in_ok-circuit.ensures can))
    (subst (IsOrder (plan_reference design can.request)) (sym (c.in_ok-order.ensures ∙ ap (λ k. range_with_len (length design.circuit.signals) k ++ design.order) (long ∙ count)))
    (plan-ordered design can.request ready can.keeps can.held can.none))

pub returns-clause-order : goal.returns-clause-order
returns-clause-order c = λ can.
    let design = c.args.design.now in
    let plan = c.args.plan.now in
    let ready : IsDesign design = record { formed = c.piece.ensures.formed; ordered = c.order.ensures.ordered } in
    let count : length c.in_ok-pipes.pipes.items ≡ length (pipes_of (plan_hub design.circuit design.tree can.request)) = ap length (c.in_ok-pipes.ensures ∙ ap₂ piped_signals (ap length (c.signals-count.ensures ∙ ap (λ (one : FlatCircuit). one.signals) c.piece.ensures.circuit)) c.as_slice.ensures ∙ pipes-are design plan ready can) in
    let long : c.len.result ≡ length c.in_ok-pipes.pipes.items = (let e = c.len.ensures in omega (arith, e)) in
    c.new.ensures.order ∙ c.in_ok-order.ensures ∙ ap (λ k. range_with_len (length design.circuit.signals) k ++ design.order) (long ∙ count)

pub returns-clause-circuit : goal.returns-clause-circuit
returns-clause-circuit c = λ can. c.new.ensures.circuit ∙ c.in_ok-circuit.ensures can
