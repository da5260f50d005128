use Rattle.std.proofs.lemmas.List.{take_rest}
use Rattle.gg_lex.proofs.Quotes.{longest_text, no_text}
use Rattle.gg_lex.proofs.longest.text_len.Goals as goal

pub returns-in-Some : goal.returns-in-Some
returns-in-Some c =
    longest_text c.args.bytes.now _ c.requires.nonempty c.requires.begins (simp take_rest at c.in-Some.ensures)

pub returns-in-None : goal.returns-in-None
returns-in-None c =
    no_text c.args.bytes.now c.requires.nonempty c.requires.begins (simp take_rest at c.in-None.ensures)
