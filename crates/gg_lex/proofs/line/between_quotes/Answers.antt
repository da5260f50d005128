use Rattle.gg_lex.proofs.Cuts.{cut_behind_quote}
use Rattle.gg_lex.proofs.line.between_quotes.Goals as goal

pub split_at-requires : goal.split_at-requires
split_at-requires c = cut_behind_quote _ c.utf8.text c.requires
