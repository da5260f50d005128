use Rattle.std.proofs.Common.{decimal, sym, ap, ◌∙◌, subst, arith}
use Rattle.std.specs.Str.{IsUtf8}
use Rattle.std.specs.Result.{result_ok}
use Rattle.std.proofs.lemmas.Fmt.{parse-decimal, IsAscii-decimal}
use Rattle.std.proofs.lemmas.Str.{IsUtf8-from_ascii}
use Rattle.gg_snap.proofs.text.parsing.number_of.Goals as goal

pub returns-in_default : goal.returns-in_default
returns-in_default c = λ n few is. absurd (c.in_default.ensures.cases.0 (subst IsUtf8 (sym is) (IsUtf8-from_ascii (decimal n) (IsAscii-decimal n (omega (arith, few))))))

pub returns : goal.returns
returns c = λ n few is.
    c.ok.ensures.value ∙ ap result_ok (parse-decimal 32 n c.in-Ok.text.now c.parse.result few (omega (arith, few)) (c.in-Ok.ensures.cases.0 ∙ is) c.parse.ensures.value.0)
