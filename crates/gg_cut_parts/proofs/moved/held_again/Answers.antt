use Rattle.std.proofs.Common.{◌≡◌, ◌<◌, length, map, get_or, ◌∙◌, ap, subst, arith}
use Rattle.std.proofs.lemmas.List.{length-replicate, get_or_default}
use Rattle.std.proofs.lemmas.Result.{IfOk-weaker}
use Rattle.gg_flat.specs.Line.{value_at}
use Rattle.gg_cut_parts.specs.inside.MovedPart.{HasAgain}
use Rattle.gg_cut_parts.proofs.RegisterLemmas.{again-none, held-again}
use Rattle.gg_cut_parts.proofs.moved.held_again.Goals as goal

pub loop-place-init : goal.loop-place-init
loop-place-init c = record { count = ap length c.in_ok-table.ensures ∙ length-replicate (length c.registers.result.now) 0 ∙ ap length c.registers.ensures; has = λ registers hold. again-none c.args.whole.now c.args.part.now c.args.globals.now registers c.in_ok-table.table.items }

pub loop-place-preserved : goal.loop-place-preserved
loop-place-preserved c = record { count = c.put_register.ensures.table ∙ c.loop-place.invariant.count; has = λ registers hold. c.put_register.ensures.put registers hold (c.loop-place.invariant.has registers hold) }

pub picked-requires : goal.picked-requires
picked-requires c = λ k d below.
    let held = c.as_slice.result.now in
    let lt : k < length c.args.part.now.held = omega (arith, below, ap length c.as_slice.ensures) in
    let within = (c.requires.part.register_from k lt).within in
    let at : get_or held k d ≡ value_at c.args.part.now.held k = get_or_default held k d 0 below ∙ ap (λ l. value_at l k) c.as_slice.ensures in
    omega (arith, within, at, c.loop-place.invariant.count, ap length c.deref.ensures.value)

pub returns : goal.returns
returns c =
    let part = c.args.part.now in
    let whole = c.args.whole.now in
    IfOk-weaker c.picked.result _ _
    (λ held is. λ registers ins are same hold.
    is ∙ ap (λ l. map (value_at l) c.as_slice.result.now) c.deref.ensures.value ∙ ap (map (value_at c.loop-place.table.items)) c.as_slice.ensures
    ∙ held-again whole part c.args.globals.now c.requires.part c.loop-place.table.items ins registers are same
    (subst (λ n. HasAgain part registers c.loop-place.table.items n) (let done : c.loop-place.place ≡ length part.globals = omega (arith, c.loop-place-test.false, c.loop-place.auto.place-end, c.requires.count) in done) (c.loop-place.invariant.has registers hold)))
    c.picked.ensures
