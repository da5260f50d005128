use Rattle.std.proofs.Common.{◌<◌, ◌+◌, length, set, sym, subst, arith}
use Rattle.gg_flat.specs.Line.{value_at}
use Rattle.gg_cut_parts.specs.inside.MovedPart.{HasAgain}
use Rattle.gg_cut_parts.proofs.RegisterLemmas.{again-put, again-left, register-listed}
use Rattle.gg_cut_parts.proofs.moved.put_register.Goals as goal

pub returns-in-Some-clause-put : goal.returns-in-Some-clause-put
returns-in-Some-clause-put c = λ registers hold before.
    let part = c.args.part.now in
    let place = c.args.place in
    let own = c.in-Some.own in
    let lt : place < length part.globals = omega (arith, c.requires.place, c.requires.count) in
    let listed = register-listed c.args.whole.now part c.args.globals.now c.requires.part place own lt c.in-Some.ensures.holds in
    let within = (c.requires.part.register_from own listed).within in
    subst (λ held. HasAgain part registers (set c.args.table.now.items (value_at held own) c.held_or_none.result) (place + 1)) (sym c.as_slice.ensures)
    (again-put c.args.whole.now part c.args.globals.now c.args.table.now.items place own c.held_or_none.result registers c.requires.place c.in-Some.ensures.holds c.held_or_none.ensures (omega (arith, within, c.requires.table)) hold before)

pub returns-in-None-clause-put : goal.returns-in-None-clause-put
returns-in-None-clause-put c = λ registers hold before. again-left c.args.whole.now c.args.part.now c.args.globals.now c.args.table.now.items c.args.place registers c.in-None.ensures.none before
