-- Each turn of the loop takes one of the arguments that may still come.
use Rattle.std.proofs.Common.{◌≡◌, ◌<◌, ◌+◌, ◌-◌, ◌∙◌, Ok, true, false, sym, ap, subst, arith}
use Rattle.gg_read_row.specs.inside.Reading.{Misses, arguments_at, TakesArgument}
use Rattle.gg_read_row.proofs.Depth.{arguments_at-level}
use Rattle.gg_read_row.proofs.stops.arguments.Goals as goal

pub returns-in-Err : goal.returns-in-Err
returns-in-Err c =
    let left : 0 < c.len-turn-end.result - c.loop-turn._turn = omega arith in
    let level = c.loop-turn.invariant ∙ arguments_at-level (c.len-turn-end.result - c.loop-turn._turn) c.loop-turn.arguments c.loop-turn.cursor left in
    subst (λ o. Misses c.in-Err.fault o) (sym level) (c.in-Err.ensures (c.len-turn-end.result - c.loop-turn._turn - 1))

pub returns-in-Ok-false : goal.returns-in-Ok-false
returns-in-Ok-false c =
    let left : 0 < c.len-turn-end.result - c.loop-turn._turn = omega arith in
    let turn : TakesArgument (Ok false) c.loop-turn.arguments c.loop-turn.cursor c.next_argument.new.arguments c.next_argument.new.cursor =
    subst (λ b. TakesArgument (Ok b) c.loop-turn.arguments c.loop-turn.cursor c.next_argument.new.arguments c.next_argument.new.cursor) c.in-Ok-false.field-0-test c.in-Ok-false.ensures in
    c.loop-turn.invariant ∙ arguments_at-level (c.len-turn-end.result - c.loop-turn._turn) c.loop-turn.arguments c.loop-turn.cursor left
    ∙ turn (c.len-turn-end.result - c.loop-turn._turn - 1)

pub loop-turn-preserved : goal.loop-turn-preserved
loop-turn-preserved c =
    let left : 0 < c.len-turn-end.result - c.loop-turn._turn = omega arith in
    let next : c.len-turn-end.result - c.loop-turn._turn - 1 ≡ c.len-turn-end.result - (c.loop-turn._turn + 1) = omega arith in
    let turn : TakesArgument (Ok true) c.loop-turn.arguments c.loop-turn.cursor c.next_argument.new.arguments c.next_argument.new.cursor =
    subst (λ b. TakesArgument (Ok b) c.loop-turn.arguments c.loop-turn.cursor c.next_argument.new.arguments c.next_argument.new.cursor) c.in-Ok-true.field-0-test c.in-Ok-true.ensures in
    c.loop-turn.invariant ∙ arguments_at-level (c.len-turn-end.result - c.loop-turn._turn) c.loop-turn.arguments c.loop-turn.cursor left
    ∙ turn (c.len-turn-end.result - c.loop-turn._turn - 1)
    ∙ ap (λ n. arguments_at n c.next_argument.new.arguments c.next_argument.new.cursor) next
