use Rattle.gg_lex.specs.declared.token.TokenKind.TheVariants.{Number}
use Rattle.gg_lex.proofs.Leads.{first_of_kind, none_of_kind, only_number}
use Rattle.gg_lex.proofs.fronts.first_number.Goals as goal

pub returns-in-Some : goal.returns-in-Some
returns-in-Some c =
    first_of_kind Number c.args.bytes.now _ c.requires.nonempty (only_number _ c.requires.begins) c.in-Some.ensures

pub returns-in-None : goal.returns-in-None
returns-in-None c =
    none_of_kind Number c.args.bytes.now c.requires.nonempty (only_number _ c.requires.begins) c.in-None.ensures
