use Rattle.std.proofs.Common.{List, Option, ℕ, length, sym, ◌∙◌, ap, subst, arith}
use Rattle.gg_cut_split.specs.inside.Spread.{AreChannels}
use Rattle.gg_cut_split.proofs.PartingLemmas.{ends-known, owners-known, wires-known, order-known, each-signals}
use Rattle.gg_cut_split.proofs.parting.signals_of.Goals as goal

pub channels_of-requires-clause-few : goal.channels_of-requires-clause-few
channels_of-requires-clause-few c = omega (arith, c.requires.whole.can.few, ap length (c.deref-wires.ensures.value ∙ c.requires.beginning.channels))

pub channels_of-requires-clause-known : goal.channels_of-requires-clause-known
channels_of-requires-clause-known c =
    let whole = c.args.whole.now in
    wires-known whole.piece.now whole.tree.now whole.order.now whole.listed.now whole.entries.now c.requires.whole.can c.deref-wires.result.now _ (c.deref-wires.ensures.value ∙ c.requires.beginning.channels) (ap length c.signals.ensures)

pub spread-requires-clause-ends : goal.spread-requires-clause-ends
spread-requires-clause-ends c =
    let whole = c.args.whole.now in
    ends-known whole.piece.now whole.tree.now whole.listed.now whole.entries.now c.requires.whole.can.fitting c.requires.whole.can.apart c.deref-wires.result.now c.args.count (c.deref-wires.ensures.value ∙ c.requires.beginning.channels) c.requires.count

pub spread-requires-clause-owned : goal.spread-requires-clause-owned
spread-requires-clause-owned c =
    let whole = c.args.whole.now in
    owners-known whole.piece.now whole.tree.now whole.listed.now whole.entries.now c.requires.whole.can.fitting c.requires.whole.can.apart c.args.beginning.now.holders.items c.deref.result.now c.args.count c.deref.ensures.value c.requires.count c.requires.beginning.holder

pub spread-requires-clause-same : goal.spread-requires-clause-same
spread-requires-clause-same c = ap length c.deref-2.ensures.value ∙ c.in_ok-channels.ensures.count ∙ ap length c.signals.ensures ∙ sym (ap length c.deref.ensures.value ∙ c.requires.beginning.holders_many)

pub spread-requires-clause-marked : goal.spread-requires-clause-marked
spread-requires-clause-marked c = subst (λ (l : List (Option ℕ)). AreChannels c.deref-wires.result.now l) (sym c.deref-2.ensures.value) c.in_ok-channels.ensures.channels

pub spread-requires-clause-known : goal.spread-requires-clause-known
spread-requires-clause-known c =
    let whole = c.args.whole.now in
    order-known whole.piece.now whole.tree.now whole.order.now whole.listed.now whole.entries.now c.requires.whole.can c.args.beginning.now.holders.items c.deref.result.now c.deref.ensures.value c.requires.beginning.holders_many

pub returns : goal.returns
returns c =
    let whole = c.args.whole.now in
    each-signals whole.piece.now whole.tree.now whole.order.now whole.listed.now whole.entries.now c.requires.whole.can
    c.args.beginning.now.holders.items c.deref.result.now c.in_ok-channels.channels.items c.deref-2.result.now c.deref-wires.result.now c.args.count c.in_ok-lists.lists.items c.deref.ensures.value c.deref-2.ensures.value (c.deref-wires.ensures.value ∙ c.requires.beginning.channels)
    c.requires.beginning.holder
    c.in_ok-channels.ensures.channels (c.in_ok-channels.ensures.count ∙ ap length c.signals.ensures) c.in_ok-lists.ensures
