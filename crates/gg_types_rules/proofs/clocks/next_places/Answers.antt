use Rattle.std.proofs.Common.{[], ◌∷◌, ◌++◌, take, sym, ap, subst, ◌∙◌, arith}
use Rattle.std.proofs.lemmas.List.{take_more}
use Rattle.gg_types.specs.inside.Places.{TellsNext}
use Rattle.gg_types.proofs.ClockLemmas.{own-tells, follow-tells}
use Rattle.gg_types_rules.proofs.clocks.next_places.Goals as goal

pub loop-statement-init : goal.loop-statement-init
loop-statement-init c =
    own-tells c.args.ways.now c.in_ok-next.next.items (c.in_ok-next.ensures.len ∙ c.len.ensures) (λ k lt. c.in_ok-next.ensures.own k (omega (arith, lt, c.len.ensures)))

pub loop-statement-preserved : goal.loop-statement-preserved
loop-statement-preserved c =
    let xs = c.args.statements.now in
    let i = c.loop-statement.statement-index in
    let s = c.statement-item.result in
    let more = follow-tells c.args.ways.now (take i xs) s c.loop-statement.next.items c.loop-statement.invariant in
    let grown = ap (λ x. take i xs ++ x ∷ []) c.statement-item.is ∙ sym (take_more xs i s c.loop-statement-test.true) in
    subst (λ l. TellsNext c.args.ways.now l c.follow.new.next.items) grown (subst (TellsNext c.args.ways.now (take i xs ++ s ∷ [])) (sym c.follow.ensures) more)
