use Rattle.std.proofs.Common.{sym, ◌∙◌, true≢false}
use Rattle.std.proofs.lemmas.Bool.Decides.{Decides-eqb}
use Rattle.std.proofs.lemmas.Slice.Eq.{starts_is}
use Rattle.gg_snap.proofs.text.cutting.strip.Goals as goal

pub returns-then-not-starts_with : goal.returns-then-not-starts_with
returns-then-not-starts_with c = λ rest e.
    true≢false (sym ((starts_is Decides-eqb c.args.text.now c.args.front.now c.starts_with.result c.starts_with.ensures.value).1 rest e) ∙ c.if-not-starts_with.true)
