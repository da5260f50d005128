use Rattle.std.proofs.lemmas.List.{take_rest}
use Rattle.gg_lex.proofs.Words.{longest_word}
use Rattle.gg_lex.proofs.longest.word_len.Goals as goal

pub returns : goal.returns
returns c =
    let bs = c.args.bytes.now in
    longest_word bs _ _ c.requires.nonempty c.requires.begins
    (rw take_rest at c.run_len-body.ensures.length)
    (simp take_rest at c.run_len.ensures.length)
