use Rattle.std.proofs.Common.{◌<◌, ◌++◌, string_bytes, sym, ap, ◌∙◌, subst, arith}
use Rattle.gg_trace.proofs.PrintLaws.{digit_is_ascii, push_digit}
use Rattle.gg_snap.proofs.text.writing.push_digits.Goals as goal

pub loop-place-preserved : goal.loop-place-preserved
loop-place-preserved c =
    let some : 0 < c.loop-place.place = omega arith in
    let ascii = subst (λ ch. ch < 128) (sym c.digit_of.ensures) (digit_is_ascii _ (omega arith)) in
    let longer = c.in_ok-push.ensures.bytes ∙ ap (λ bytes. string_bytes c.loop-place.text ++ bytes) (c.in_ok-push.ensures.ascii ascii) in
    (omega arith, push_digit (string_bytes c.loop-place.text) (string_bytes c.push.new.self) _ c.loop-place.place c.args.value c.digit_of.result some c.digit_of.ensures longer c.loop-place.invariant.1)
