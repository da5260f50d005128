use Rattle.std.proofs.Common.{◌∙◌, sym}
use Rattle.gg_words.specs.Meaning.{texts}
use Rattle.gg_words.proofs.UnexpectedLaws.{expected-at-first, expected-up-to, more-words, some-word, unexpected-at}
use Rattle.gg_words.proofs.reading.unexpected_word.Goals as goal

pub loop-place-init : goal.loop-place-init
loop-place-init c = record { in_range = some-word c.args.words.now c.requires; first = expected-at-first (texts c.args.words.now) }

pub loop-place-preserved : goal.loop-place-preserved
loop-place-preserved c =
    let before = c.loop-place.invariant in
    let here = sym c.in_ok-has_unexpected.ensures ∙ c.if-not-branch.true in
    record {
      in_range = more-words c.args.words.now c.loop-place.place c.requires before.in_range here;
      first = expected-up-to c.args.words.now c.loop-place.place before.first here;
    }

pub returns : goal.returns
returns c =
    unexpected-at c.args.words.now c.loop-place.place c.index-words-place.result c.as_str.result.now c.requires c.loop-place.invariant.in_range c.loop-place.invariant.first
    (sym c.in_ok-has_unexpected.ensures ∙ c.if-not-branch.false) c.index-words-place.is c.as_str.ensures.value
