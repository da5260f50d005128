use Rattle.gg_lex.specs.declared.token.TokenKind.TheVariants.{Word}
use Rattle.gg_lex.proofs.Leads.{first_of_kind, only_word}
use Rattle.gg_lex.proofs.fronts.first_word.Goals as goal

pub returns : goal.returns
returns c =
    first_of_kind Word c.args.bytes.now _ c.requires.nonempty (only_word _ c.requires.begins) c.word_len.ensures
