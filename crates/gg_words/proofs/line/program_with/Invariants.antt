use Rattle.std.proofs.Common.{◌≡◌, drop, false}
use Rattle.clap.specs.Simple.{app_of}
use Rattle.clap.specs.declared.builder.command.Command.TheViews.{out-Command}
use Rattle.gg_words.specs.inside.Line.{bare_app, with_commands}
use Rattle.gg_words.proofs.line.program_with.Given as goal

abbrev pub invariant-loop-line : goal.invariant-loop-line
invariant-loop-line l = record {
  is : with_commands (app_of l.program) (drop l.line-index l.commands) ≡ with_commands bare_app l.commands;
  local : (out-Command l.program).has_globals ≡ false;
}
