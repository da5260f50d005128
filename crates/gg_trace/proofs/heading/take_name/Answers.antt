use Rattle.std.proofs.Common.{refl, sym, ◌∙◌, ap, false, get_or, length, ◌<◌, arith}
use Rattle.std.proofs.lemmas.List.{get_or_read}
use Rattle.gg_trace.proofs.heading.take_name.Goals as goal

pub returns-then-index : goal.returns-then-index
returns-then-index c =
    let named = c.in_ok-place.ensures in
    let within : c.in_ok-place.place < length c.args.named.now.items = omega (arith, named.within, c.requires.size, c.args.named.now.ok.0) in (
      refl,
      λ i is. ap (λ k. get_or c.args.named.now.items k false) (c.requires.distinct i c.in_ok-place.place is.within named.within (is.is ∙ sym named.is))
          ∙ sym (get_or_read c.args.named.now.items c.in_ok-place.place c.index.result.now within c.index.ensures false) ∙ c.if-index.true,
    )
