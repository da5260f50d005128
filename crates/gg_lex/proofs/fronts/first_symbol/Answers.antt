use Rattle.gg_lex.proofs.Leads.{first_of_two, first_of_one, no_first}
use Rattle.gg_lex.proofs.fronts.first_symbol.Goals as goal

pub returns-in-Some : goal.returns-in-Some
returns-in-Some c = first_of_two _ c.requires _ c.in-Some.ensures.found

pub returns-in-Some-symbol_of_one : goal.returns-in-Some-symbol_of_one
returns-in-Some-symbol_of_one c = first_of_one _ c.requires _ c.in_default.ensures.none c.in-Some-symbol_of_one.ensures.found

pub returns-in-None : goal.returns-in-None
returns-in-None c = no_first _ c.requires c.in_default.ensures.none c.in-None.ensures.none
