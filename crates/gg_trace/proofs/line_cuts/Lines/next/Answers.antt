use Rattle.std.proofs.Common.{◌≡◌, length, arith, ap, sym, ◌∙◌}
use Rattle.std.proofs.lemmas.Bool.Decides.{nat_tests}
use Rattle.std.proofs.lemmas.List.{nil_from_length}
use Rattle.gg_trace.specs.Fields.{text_lines}
use Rattle.gg_trace.proofs.LineLaws.{text_lines-nil}
use Rattle.gg_trace.proofs.line_cuts.Lines.next.Goals as goal

pub returns-then-is_empty : goal.returns-then-is_empty
returns-then-is_empty c =
    let none : length c.self.inside.rest.now ≡ 0 = grind (arith, nat_tests) in
    let e = ap text_lines (nil_from_length _ none) ∙ text_lines-nil in
    (sym c.self.view_is ∙ e, sym c.self.view_is ∙ e)
