use Rattle.std.proofs.Common.{◌≡◌, ◌<◌, ◌∙◌, ℕ, List, length, sym, ap, subst}
use Rattle.std.specs.Prelude.{All}
use Rattle.gg_flat.specs.Line.{value_at}
use Rattle.gg_cut_plan.specs.Listed.{first_place, unit_or_hub, owner_of, has_signal}
use Rattle.gg_cut_plan.proofs.KnownLemmas.{parents-before}
use Rattle.gg_cut_split.proofs.PartingLemmas.{outputs-held, outputs-known}
use Rattle.gg_cut_split.proofs.beginning.begin.Goals as goal

pub owners_of-requires-clause-parents : goal.owners_of-requires-clause-parents
owners_of-requires-clause-parents c = parents-before c.args.whole.now.piece.now c.args.whole.now.tree.now c.requires.can.fitting

pub channels-requires-clause-known : goal.channels-requires-clause-known
channels-requires-clause-known c =
    let same = c.deref-2.ensures.value in
    subst (λ (l : List ℕ). All (λ s. s < length l) c.args.whole.now.piece.now.outs) (sym same)
    (outputs-known c.args.whole.now.piece.now c.args.whole.now.tree.now c.args.whole.now.order.now c.args.whole.now.listed.now c.args.whole.now.entries.now c.requires.can c.in_ok-holders.holders.items (c.in_ok-holders.ensures.count ∙ ap length c.signals.ensures))

pub channels-requires-clause-holders : goal.channels-requires-clause-holders
channels-requires-clause-holders c =
    let same = c.deref-2.ensures.value in
    subst (λ (l : List ℕ). All (λ s. value_at l s ≡ owner_of c.args.whole.now.piece.now c.args.whole.now.tree.now c.args.whole.now.listed.now s) c.args.whole.now.piece.now.outs) (sym same)
    (outputs-held c.args.whole.now.piece.now c.args.whole.now.tree.now c.args.whole.now.order.now c.args.whole.now.listed.now c.args.whole.now.entries.now c.requires.can c.in_ok-holders.holders.items
    (λ s. c.in_ok-holders.ensures.owners s ∙ ap (λ (l : List ℕ). unit_or_hub (first_place (has_signal c.args.whole.now.tree.now s) l)) c.as_slice-units.ensures))
