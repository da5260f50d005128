use Rattle.std.proofs.Common.{◌∙◌, sym}
use Rattle.gg_words.specs.Meaning.{texts}
use Rattle.gg_words.proofs.KindLaws.{among-others, for-word}
use Rattle.gg_words.proofs.reading.refusal_of.Goals as goal

pub unexpected-requires : goal.unexpected-requires
unexpected-requires c =
    let among = among-others (texts c.args.words.now) c.args.kind c.in_default.not-OutOfMemory c.requires in
    sym (for-word (texts c.args.words.now) c.args.kind among) ∙ sym c.is_for_word.ensures ∙ c.if-is_for_word.true

pub returns-in_default-2 : goal.returns-in_default-2
returns-in_default-2 c =
    let among = among-others (texts c.args.words.now) c.args.kind c.in_default.not-OutOfMemory c.requires in
    (among, sym (for-word (texts c.args.words.now) c.args.kind among) ∙ sym c.is_for_word.ensures ∙ c.if-is_for_word.false)
