use Rattle.std.proofs.Common.{ap, sym, ◌∙◌}
use Rattle.clap.specs.Simple.{app_of}
use Rattle.clap.specs.Values.{kind_of}
use Rattle.gg_words.specs.Meaning.{texts}
use Rattle.gg_words.specs.Unexpected.{is_for_word}
use Rattle.gg_words.proofs.KindLaws.{expected-if-taken, unexpected-if-for-word}
use Rattle.gg_words.proofs.reading.has_unexpected.Goals as goal

pub returns-in-Ok : goal.returns-in-Ok
returns-in-Ok c = sym (expected-if-taken (app_of c.in_ok-golden_line.field-0) (texts c.args.words.now) c.in_ok-golden_line.ensures c.in-Ok.ensures.kinds)

pub returns : goal.returns
returns c =
    c.is_for_word.ensures ∙ ap is_for_word c.kind.ensures
    ∙ unexpected-if-for-word (app_of c.in_ok-golden_line.field-0) (texts c.args.words.now) (kind_of c.in-Err.error) c.in_ok-golden_line.ensures
    (λ e. c.in_default.not-OutOfMemory (c.kind.ensures ∙ e)) c.in-Err.ensures.kinds
