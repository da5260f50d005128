use Rattle.std.proofs.Common.{◌≡◌, ◌+◌, Some, None, sym, subst, map}
use Rattle.serde_json.specs.View.{view}
use Rattle.gg_partfile.proofs.ListSteps.{ReadsItems, values-more, values-stop}
use Rattle.gg_partfile.proofs.lists.each.Goals as goal

pub returns-in-None : goal.returns-in-None
returns-in-None g c =
    let reads = g.T.FromValue.reads in
    let none : reads (view c.item-item.result) ≡ None = cc (c.in_ok-read.ensures) in
    values-stop reads c.args.items.now c.loop-item.item-index c.item-item.result c.loop-item.found.items c.loop-item-test.true c.item-item.is none c.loop-item.invariant

pub loop-item-preserved : goal.loop-item-preserved
loop-item-preserved g c =
    let reads = g.T.FromValue.reads in
    let some : reads (view c.item-item.result) ≡ Some c.in-Some.read = cc (c.in_ok-read.ensures) in
    subst (ReadsItems reads (map view c.args.items.now) (c.loop-item.item-index + 1)) (sym c.in_ok-push-in-Some.ensures.items)
    (values-more reads c.args.items.now c.loop-item.item-index c.item-item.result c.in-Some.read c.loop-item.found.items c.loop-item-test.true c.item-item.is some c.loop-item.invariant)
