use Rattle.std.proofs.Common.{◌≡◌, ◌⊎◌, sym, subst}
use Rattle.clap.specs.Kinds.{IsAmong}
use Rattle.clap.specs.Faults.{fault_of}
use Rattle.clap.specs.Simple.{app_of, subcommand_rows_of}
use Rattle.clap.specs.Values.{kind_of}
use Rattle.clap.specs.declared.error.kind.ErrorKind.{ErrorKind}
use Rattle.clap.specs.declared.error.kind.ErrorKind.TheVariants as kind
use Rattle.gg_words.specs.Line.{golden_app}
use Rattle.gg_words.specs.inside.Meaning.{HasWords}
use Rattle.gg_words.specs.Meaning.{texts}
use Rattle.gg_words.proofs.ReadLaws.{answers-so, found-if-app, refused-if-app, taken-if-app}
use Rattle.gg_words.proofs.reading.read_words.Goals as goal

pub command_of-requires : goal.command_of-requires
command_of-requires c =
    let app = app_of c.in_ok-line.line in
    let words = texts c.args.words.now in
    subst HasWords (sym (found-if-app app words c.in-Ok.matches c.in_ok-line.ensures c.in-Ok.ensures.matches))
    (c.words_are_given.ensures words (taken-if-app app words c.in_ok-line.ensures c.in-Ok.ensures.kinds))

pub refusal_of-requires : goal.refusal_of-requires
refusal_of-requires c =
    let words = texts c.args.words.now in
    subst (λ (k : ErrorKind). (k ≡ kind.OutOfMemory) ⊎ IsAmong k (fault_of golden_app words)) (sym c.kind.ensures)
    (refused-if-app (app_of c.in_ok-line.line) words (kind_of c.in-Err.error) c.in_ok-line.ensures c.in-Err.ensures.kinds)

pub returns-in-Ok : goal.returns-in-Ok
returns-in-Ok c =
    let app = app_of c.in_ok-line.line in
    let words = texts c.args.words.now in
    answers-so words (subcommand_rows_of c.in-Ok.matches) c.command_of.result (taken-if-app app words c.in_ok-line.ensures c.in-Ok.ensures.kinds)
    (found-if-app app words c.in-Ok.matches c.in_ok-line.ensures c.in-Ok.ensures.matches) c.command_of.ensures
