use Rattle.std.proofs.Common.{length, ap, arith}
use Rattle.gg_io.proofs.EndingLemmas.{exit-is}
use Rattle.gg_rows.specs.inside.Rows.{AreTraysOf}
use Rattle.gg_rows.proofs.StopLemmas.{stops-for-memory}
use Rattle.gg_rows.proofs.StoppedLemmas.{stopped-first, stopped-none}
use Rattle.gg_rows.proofs.stopping.run_to_stop.Goals as goal

pub run_rows-requires-clause-outs : goal.run_rows-requires-clause-outs
run_rows-requires-clause-outs g c = omega (arith, c.in_ok-values.ensures.len, c.requires.trays, ap length c.as_mut_slice.ensures.value)

pub run_rows-requires-clause-can : goal.run_rows-requires-clause-can
run_rows-requires-clause-can g c = omega (arith, c.requires.shown, c.in_ok-values.ensures.len, ap length c.as_mut_slice.ensures.value)

pub returns-in_err-net-clause-refused : goal.returns-in_err-net-clause-refused
returns-in_err-net-clause-refused g c = rw (exit-is c.from_residual-in_err-net.ensures.1) (stops-for-memory c.args.stops.now c.args.shown c.args.cycles _ _ c.in_err-net.field-0.0 c.in_err-net.ensures.went)

pub returns-then-whole-clause-first : goal.returns-then-whole-clause-first
returns-then-whole-clause-first g c =
    λ plan start columns n ports run opens from same behind follows.
    let counted : AreTraysOf run c.args.trays.first (length c.as_mut_slice.result.now) =
    record { begin = same.begin; many = omega (arith, c.in_ok-values.ensures.len, same.many, ap length c.as_mut_slice.ensures.value) } in
    stopped-none run ports c.args.stops.now c.args.shown c.args.cycles follows behind c.in_ok-net.whole c.if-whole.true
    (c.in_ok-net.ensures.ran plan start columns n run opens from counted)

pub returns-clause-first : goal.returns-clause-first
returns-clause-first g c =
    λ plan start columns n ports run opens from same behind follows.
    let counted : AreTraysOf run c.args.trays.first (length c.as_mut_slice.result.now) =
    record { begin = same.begin; many = omega (arith, c.in_ok-values.ensures.len, same.many, ap length c.as_mut_slice.ensures.value) } in
    stopped-first run ports c.args.stops.now c.args.shown c.args.cycles follows behind c.in_ok-net.whole (grind (arith, c.if-whole.false))
    (c.in_ok-net.ensures.ran plan start columns n run opens from counted)

pub returns-then-whole-clause-stands : goal.returns-then-whole-clause-stands
returns-then-whole-clause-stands g c = λ e. c.in_ok-net.ensures.out.stands c.if-whole.true
