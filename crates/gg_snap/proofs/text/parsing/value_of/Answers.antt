use Rattle.std.proofs.Common.{sym, ap, ◌∙◌, subst}
use Rattle.std.specs.Str.{IsUtf8}
use Rattle.std.specs.Result.{result_ok}
use Rattle.std.proofs.lemmas.Str.{IsUtf8-from_ascii}
use Rattle.gg_trace.specs.Printing.{hex_digits, digit_count}
use Rattle.gg_snap.proofs.TextLemmas.ParseLemmas.{hex-ascii, parse-hex}
use Rattle.gg_snap.proofs.text.parsing.value_of.Goals as goal

pub returns-in_default : goal.returns-in_default
returns-in_default c = λ width value some narrow fits is. absurd (c.in_default.ensures.cases.0 (subst IsUtf8 (sym is) (IsUtf8-from_ascii (hex_digits (digit_count width) value) (hex-ascii (digit_count width) value))))

pub returns : goal.returns
returns c = λ width value some narrow fits is.
    c.ok.ensures.value ∙ ap result_ok (parse-hex width value c.in-Ok.text.now c.from_str_radix.result some narrow fits (c.in-Ok.ensures.cases.0 ∙ is) c.from_str_radix.ensures.value)
