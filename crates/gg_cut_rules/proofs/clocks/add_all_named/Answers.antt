use Rattle.std.proofs.Common.{Some, sym, ◌∙◌, ap}
use Rattle.std.proofs.lemmas.Option.{slice_get-get_or}
use Rattle.gg_cut_rules.proofs.NamedLemmas.{ranges-at}
use Rattle.gg_cut_rules.proofs.clocks.add_all_named.Goals as goal

pub add_named-requires-clause-range : goal.add_named-requires-clause-range
add_named-requires-clause-range c = ranges-at c.args.clocks.now c.loop-pair.pair-index c.pair-item.result c.requires.range c.loop-pair-test.true (sym c.pair-item.is)

pub loop-pair-preserved : goal.loop-pair-preserved
loop-pair-preserved c =
    let clocks = c.args.clocks.now in
    let k = c.loop-pair.pair-index in
    let pair = c.pair-item.result in
    c.in_ok-add_named.ensures clocks k c.loop-pair-test.true (slice_get-get_or clocks k pair c.loop-pair-test.true ∙ ap Some (sym c.pair-item.is)) c.loop-pair.invariant
