use Rattle.std.proofs.Common.{◌≡◌, drop, false}
use Rattle.clap.specs.Simple.{app_of, new_app}
use Rattle.clap.specs.declared.builder.command.Command.TheViews.{out-Command}
use Rattle.gg_words.specs.inside.Line.{with_rules}
use Rattle.gg_words.proofs.line.command.Given as goal

abbrev pub invariant-loop-kind : goal.invariant-loop-kind
invariant-loop-kind l = record {
  is : with_rules (app_of l.command) (drop l.kind-index l.arguments) ≡ with_rules (new_app l.name) l.arguments;
  local : (out-Command l.command).has_globals ≡ false;
}
