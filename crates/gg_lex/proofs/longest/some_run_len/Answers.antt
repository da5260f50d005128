use Rattle.gg_lex.specs.inside.Bytes.{is_in_class}
use Rattle.gg_lex.proofs.Numbers.{longest_run, no_run}
use Rattle.gg_lex.proofs.longest.some_run_len.Goals as goal

pub returns-then-run-eq0 : goal.returns-then-run-eq0
returns-then-run-eq0 c = no_run (is_in_class c.args.class) c.args.bytes.now _ c.run_len-run.ensures.length c.if-run-eq0.true

pub returns-else-run-eq0 : goal.returns-else-run-eq0
returns-else-run-eq0 c = longest_run (is_in_class c.args.class) c.args.bytes.now _ c.run_len-run.ensures.length c.if-run-eq0.false
