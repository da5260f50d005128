use Rattle.std.proofs.Common.{false, refl, sym, ◌∙◌}
use Rattle.gg_io.specs.inside.Endings.{said_by}
use Rattle.gg_words.specs.declared.command.Cmd.TheVariants.{Replay, Run}
use Rattle.golden.proofs.CallLemmas.{status-answered}
use Rattle.golden.proofs.PromisedLemmas.{promised}
use Rattle.golden.proofs.SteppedLemmas.{told-reported}
use Rattle.golden.proofs.call.golden_with.Goals as goal

pub returns-clause-promised : goal.returns-clause-promised
returns-clause-promised g c =
    let ended = c.command-ended.ensures in
    let status = c.status_of.ensures.status in
    let line = c.status_of.ensures.line in
    promised (status-answered status ended.ended line) (c.refusals_are_exact.ensures.exact _) c.one_meaning.ensures.once c.one_answer.ensures.request (c.refusals_are_exact.ensures.unique _) c.refusals_are_exact.ensures.unread (c.resumed_runs_go_on.ensures.accepted _) (c.resumed_runs_go_on.ensures.texts _)
    (λ circuit partition trace capacity workers asks done. ended.network (Run circuit partition trace capacity workers false) asks refl (sym status ∙ done))
    (λ circuit partition trace steps capacity asks. told-reported (said_by c.command-ended.result) status line (ended.network (Replay circuit partition trace steps capacity) asks))
