use Rattle.std.proofs.Common.{subst}
use Rattle.gg_io.proofs.EndingLemmas.{IfRefused-map, exit-is}
use Rattle.golden_commands.specs.inside.Runs.{FindsStop, Halted, Short}
use Rattle.golden.proofs.UptoLemmas.{wants-so}
use Rattle.golden.proofs.save.text_upto.Goals as goal

pub run_upto-requires-clause-run : goal.run_upto-requires-clause-run
run_upto-requires-clause-run g c κs within = c.requires.run

pub returns-in_err-net-clause-refused : goal.returns-in_err-net-clause-refused
returns-in_err-net-clause-refused g c = rw (exit-is c.from_residual.ensures.1) (wants-so _ c.in_err-net.field-0.0 c.in_err-net.ensures.refused)

pub returns-in-Some-clause-refused : goal.returns-in-Some-clause-refused
returns-in-Some-clause-refused g c =
    IfRefused-map (λ said is replay. Halted c.in-Some.stop (subst (FindsStop c.args.fed.now replay c.args.cycles) c.in-Some.is (c.in_ok-net.ensures.first replay)) is) c.end_few.result c.end_few.ensures

pub returns-then-cycles-at-clause-refused : goal.returns-then-cycles-at-clause-refused
returns-then-cycles-at-clause-refused g c =
    IfRefused-map (λ said is replay. Short (subst (FindsStop c.args.fed.now replay c.args.cycles) c.in_default.is (c.in_ok-net.ensures.first replay)) c.if-cycles-at.true is) c.end_few-then-cycles-at.result c.end_few-then-cycles-at.ensures

pub text_of-requires-clause-case : goal.text_of-requires-clause-case
text_of-requires-clause-case g c κs within = c.requires.case

pub text_of-requires-clause-run : goal.text_of-requires-clause-run
text_of-requires-clause-run g c κs within =
    let replay = c.requires.run in
    (replay, c.in_ok-net.ensures.stands c.in_default.is replay)

pub returns-clause-none : goal.returns-clause-none
returns-clause-none g c = λ replay. subst (FindsStop c.args.fed.now replay c.args.cycles) c.in_default.is (c.in_ok-net.ensures.first replay)

pub returns-clause-text : goal.returns-clause-text
returns-clause-text g c = λ replay. c.in_ok-text.ensures replay (c.in_ok-net.ensures.stands c.in_default.is replay)
