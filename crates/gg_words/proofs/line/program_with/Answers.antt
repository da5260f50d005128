use Rattle.std.proofs.Common.{ap, ap₂, ◌∙◌, ◌||◌}
use Rattle.clap.specs.Simple.{Shape, app_of, with_subcommand}
use Rattle.gg_words.specs.inside.Line.{bare_app, with_commands}
use Rattle.gg_words.proofs.LineLaws.{commands-next}
use Rattle.gg_words.proofs.line.program_with.Goals as goal

pub loop-line-preserved : goal.loop-line-preserved
loop-line-preserved c =
    let commands = c.args.commands.now in
    let before = c.loop-line.invariant in
    let own = c.in_ok-line_command.ensures in
    let added = c.in_ok-program.ensures in
    record {
      is = commands-next commands c.loop-line.line-index _ (app_of c.loop-line.program) (app_of c.in_ok-program.program) (with_commands bare_app commands) c.loop-line-test.true
          (added.shape own.local ∙ ap (λ (s : Shape). with_subcommand (app_of c.loop-line.program) s) own.shape) before.is;
      local = added.globals ∙ ap₂ (λ a b. a || b) before.local own.local;
    }
