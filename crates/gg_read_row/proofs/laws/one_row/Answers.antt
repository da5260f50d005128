use Rattle.std.proofs.Common.{sym, ◌∙◌}
use Rattle.std.proofs.lemmas.Option.{same_Some}
use Rattle.gg_read_row.proofs.RowLaws.{spelt-row_at}
use Rattle.gg_read_row.proofs.laws.one_row.Goals as goal

pub returns : goal.returns
returns c = λ row other ts h i. same_Some row other (sym (spelt-row_at ts row h) ∙ spelt-row_at ts other i)
