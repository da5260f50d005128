use Rattle.std.proofs.Common.{◌≡◌, ◌<◌, ◌∙◌, List, length, get_or, sym, ap, ap₂, arith}
use Rattle.std.proofs.lemmas.List.{get_or-map}
use Rattle.gg_flat.specs.declared.piece.Signal.{Signal}
use Rattle.gg_flat.specs.Circuit.{driver_at}
use Rattle.gg_cut_pipes.specs.inside.Tables.{held_by}
use Rattle.gg_cut_pipes.proofs.TableLemmas.{holding-none, holding-more}
use Rattle.gg_cut_pipes.proofs.fill.mark_holders.Goals as goal

pub loop-place-init : goal.loop-place-init
loop-place-init c = holding-none c.args.one.now c.args.makers.now c.args.holders.now

pub mark_holder-requires : goal.mark_holder-requires
mark_holder-requires c = λ r held.
    let one = c.args.one.now in
    let k = c.loop-place.place in
    let own = c.index-signals-place.result in
    let lt : k < length one.signals = (let low = c.loop-place-test.true in let same = ap length c.signals-place-end.ensures in omega (arith, low, same)) in
    let is : (get_or c.signals.result.now k own).driver ≡ driver_at one k = ap (λ (l : List Signal). (get_or l k own).driver) c.signals.ensures ∙ sym (get_or-map (λ (s : Signal). s.driver) one.signals k own _ lt) in
    let known = c.requires.known k r lt (sym is ∙ held) in
    omega (arith, known, c.loop-place.invariant.count)

pub loop-place-preserved : goal.loop-place-preserved
loop-place-preserved c =
    let one = c.args.one.now in
    let k = c.loop-place.place in
    let own = c.index-signals-place.result in
    let lt : k < length one.signals = (let low = c.loop-place-test.true in let same = ap length c.signals-place-end.ensures in omega (arith, low, same)) in
    let is : (get_or c.signals.result.now k own).driver ≡ driver_at one k = ap (λ (l : List Signal). (get_or l k own).driver) c.signals.ensures ∙ sym (get_or-map (λ (s : Signal). s.driver) one.signals k own _ lt) in
    holding-more one c.args.makers.now k c.args.holders.now c.loop-place.holders _ c.requires.once lt (λ r held. (let known = c.requires.known k r lt held in omega (arith, known, c.loop-place.invariant.count))) c.loop-place.invariant
    (c.mark_holder.ensures ∙ ap₂ (λ m d. held_by m d c.loop-place.holders) c.number_at-maker.ensures is)
