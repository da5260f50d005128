use Rattle.std.proofs.Common.{ap, ◌∙◌, refl, subst}
use Rattle.gg_cut_plan.specs.Bridges.{Models}
use Rattle.gg_io.specs.Ends.{loads_of, puts_of}
use Rattle.gg_io.proofs.EndingLemmas.{exit-is}
use Rattle.golden_commands.specs.Bridges.{models_in}
use Rattle.golden_commands.specs.inside.Outcome.{Did}
use Rattle.golden.proofs.CallLemmas.{did-want}
use Rattle.golden.proofs.call.do_handed.Goals as goal

pub returns-in_err-models-clause-did : goal.returns-in_err-models-clause-did
returns-in_err-models-clause-did g c = did-want c.args.cmd.now refl (exit-is c.from_residual.ensures.1)

pub returns-clause-did : goal.returns-clause-did
returns-clause-did g c =
    subst (λ (models : Models). Did models c.args.cmd.now (loads_of g.S.Shelf c.args.shelf.now c.do_command.new.shelf) (puts_of g.K.Sink c.args.out.now c.do_command.new.out) c.do_command.result)
    (c.in_ok-models.ensures.models.are ∙ ap (models_in g.B.Bridge.piece) c.as_slice.ensures.value) c.do_command.ensures.did
