use Rattle.std.proofs.Common.{◌<◌, ◌++◌, string_bytes, sym, ap, ◌∙◌, subst, arith}
use Rattle.std.specs.Char.{digit_char}
use Rattle.gg_trace.proofs.PrintLaws.{digit_is_ascii, push_digit}
use Rattle.gg_replay.proofs.line.push_digits.Goals as goal

pub loop-place-preserved : goal.loop-place-preserved
loop-place-preserved c =
    let some : 0 < c.loop-place.place = omega arith in
    let ascii = subst (λ ch. ch < 128) (sym c.digit_of.ensures) (digit_is_ascii _ (omega (arith, c.digit_at.ensures))) in
    let longer = c.in_ok-push.ensures.bytes ∙ ap (λ bytes. string_bytes c.loop-place.line ++ bytes) (c.in_ok-push.ensures.ascii ascii) in
    push_digit (string_bytes c.loop-place.line) (string_bytes c.push.new.self) _ c.loop-place.place c.args.value c.digit_of.result some (c.digit_of.ensures ∙ ap digit_char c.digit_at.ensures) longer c.loop-place.invariant
