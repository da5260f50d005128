use Rattle.std.proofs.Common.{◌≡◌, ◌+◌, ◌-◌, ◌<◌, ◌==◌, length, ap, ◌∙◌}
use Rattle.std.specs.Prelude.{if◌then◌else◌}
use Rattle.gg_flat.specs.Line.{value_at}
use Rattle.gg_cut_split.specs.inside.Ends.{number_by}
use Rattle.gg_cut_split.proofs.NumberLemmas.{count-next, push-more}
use Rattle.gg_cut_split.proofs.ends.numbers_by.Goals as goal

pub loop-place-preserved : goal.loop-place-preserved
loop-place-preserved c =
    let takers = c.args.takers.now in
    let n = c.loop-place.place in
    let inside : n < length takers = c.loop-place-test.true in
    let number : c.number_at.result ≡ number_by c.args.own c.args.bridge takers n =
    c.number_at.ensures ∙ ap (λ x. if value_at takers n == 0 then x else c.args.bridge + (value_at takers n - 1)) c.loop-place.invariant.1 in (
      push-more c.loop-place.numbers.items c.push.new.self.items (number_by c.args.own c.args.bridge takers) n c.number_at.result c.loop-place.invariant.0 c.in_ok-push.ensures.items number,
      ap (λ t. c.loop-place.next + t) c.one_if-next.ensures.one ∙ count-next takers n c.loop-place.next c.args.own c.loop-place.invariant.1,
    )
