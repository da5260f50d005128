use Rattle.gg_lex.specs.declared.token.TokenKind.TheVariants.{Text}
use Rattle.gg_lex.proofs.Leads.{first_of_kind, none_of_kind, only_text}
use Rattle.gg_lex.proofs.fronts.first_text.Goals as goal

pub returns-in-Some : goal.returns-in-Some
returns-in-Some c =
    first_of_kind Text c.args.bytes.now _ c.requires.nonempty (only_text _ c.requires.begins) c.in-Some.ensures

pub returns-in-None : goal.returns-in-None
returns-in-None c =
    none_of_kind Text c.args.bytes.now c.requires.nonempty (only_text _ c.requires.begins) c.in-None.ensures
