use Rattle.std.proofs.Common.{List, ℕ, refl, ◌∙◌, subst}
use Rattle.gg_io.specs.inside.Endings.{PrintsOn, PrintsText, Stops}
use Rattle.gg_io.proofs.EndingLemmas.{IfRefused-map, exit-is}
use Rattle.golden_commands.proofs.PartitionLemmas.{designs-agree}
use Rattle.golden.proofs.UptoLemmas.{upto-case, upto-gives}
use Rattle.golden.proofs.save.save_upto.Goals as goal

pub text_upto-requires-clause-case : goal.text_upto-requires-clause-case
text_upto-requires-clause-case g c κs within =
    let r = c.requires.fed in
    (c.args.tools.now.models.now, r.0, r.1, r.3, upto-case r.5 r.7)

pub text_upto-requires-clause-run : goal.text_upto-requires-clause-run
text_upto-requires-clause-run g c κs within =
    let d = c.one_meaning.ensures in
    let r = c.requires.fed in
    let gives = upto-gives c.args.tools.now.models.now (designs-agree d.flat d.tree) r.0 r.1 r.2 r.3 r.4 r.5 c.args.at c.args.fed.now r.7 c.args.cycles r.6 in
    gives.replay

pub returns-in_err-text-clause-ended : goal.returns-in_err-text-clause-ended
returns-in_err-text-clause-ended g c = λ circuit partition trace capacity whole is same of.
    let d = c.one_meaning.ensures in
    let gives = upto-gives c.args.tools.now.models.now (designs-agree d.flat d.tree) circuit partition trace capacity whole is c.args.at c.args.fed.now of c.args.cycles same in
    Stops c.in_err-text.field-0.0 (exit-is c.from_residual.ensures.1) (IfRefused-map (λ said h. gives.tells said (h gives.replay)) c.in_err-text.field-0.0 c.in_err-text.ensures.refused) refl

pub returns-clause-ended : goal.returns-clause-ended
returns-clause-ended g c = λ circuit partition trace capacity whole is same of.
    let d = c.one_meaning.ensures in
    let gives = upto-gives c.args.tools.now.models.now (designs-agree d.flat d.tree) circuit partition trace capacity whole is c.args.at c.args.fed.now of c.args.cycles same in
    let read = c.in_ok-text.ensures in
    PrintsText _ (gives.saves (read.none gives.replay) read.within)
    (subst (λ (text : List ℕ). PrintsOn g.K.Sink c.args.out.now c.put.new.out text c.put.result) (c.as_bytes.ensures ∙ read.text gives.replay) c.put.ensures.prints)
