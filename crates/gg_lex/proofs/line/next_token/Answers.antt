use Rattle.gg_lex.proofs.Cuts.{cut_blanks, cut_token}
use Rattle.gg_lex.proofs.line.next_token.Goals as goal

pub split_at-requires : goal.split_at-requires
split_at-requires c = cut_blanks _ _ _ c.utf8.rest c.as_bytes.ensures.value c.run_len-blanks.ensures.length

pub split_at-requires-in-Some : goal.split_at-requires-in-Some
split_at-requires-in-Some c = cut_token _ _ _ _ c.as_bytes-2.ensures.utf8 c.as_bytes-2.ensures.value c.in-Some.ensures
