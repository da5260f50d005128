use Rattle.std.proofs.Common.{List, ap, ◌∙◌, arith}
use Rattle.std.proofs.lemmas.List.{length-drop, take_all}
use Rattle.std.specs.Prelude.{drop}
use Rattle.std.specs.List.{prefix_len}
use Rattle.gg_cut_plan.specs.declared.plan.Machine.{Machine}
use Rattle.gg_rows.specs.inside.Trays.{is_inner, is_tray}
use Rattle.gg_rows.proofs.CountLemmas.{inner-count, tray-count}
use Rattle.gg_rows.proofs.trays.trays_of.Goals as goal

pub returns-clause-first : goal.returns-clause-first
returns-clause-first c = λ design request models default is. c.inner_len-first.ensures.length ∙ ap (prefix_len is_inner) c.as_slice-machines.ensures ∙ inner-count design request models default c.args.plan.now is

pub returns-clause-count : goal.returns-clause-count
returns-clause-count c = λ design request models default is.
    c.trays_len-count.ensures
    ∙ ap (prefix_len is_tray) (take_all _ (drop c.inner_len-first.result c.as_slice-machines.result.now) (omega (arith, length-drop c.inner_len-first.result c.as_slice-machines.result.now)))
    ∙ ap (λ (l : List Machine). prefix_len is_tray (drop c.inner_len-first.result l)) c.as_slice-machines.ensures
    ∙ tray-count design request models default c.args.plan.now is c.inner_len-first.result (returns-clause-first c design request models default is)
