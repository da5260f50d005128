use Rattle.std.proofs.Common.{◌≢◌, ◌<◌, List, ℕ, length, sym, ◌∙◌, ap, subst}
use Rattle.std.specs.Prelude.{filter, All, AllPairs}
use Rattle.std.proofs.lemmas.List.{length-map}
use Rattle.std.proofs.lemmas.List.FromFn.{length-range_with_len}
use Rattle.gg_cut_plan.specs.declared.plan.Channel.{Channel}
use Rattle.gg_cut_pipes.specs.inside.Tables.{piped_places}
use Rattle.gg_cut_pipes.proofs.TableLemmas.{tables-made}
use Rattle.gg_cut_pipes.proofs.fill.tables_of.Goals as goal

pub table_of-requires-clause-known : goal.table_of-requires-clause-known
table_of-requires-clause-known c =
    subst (λ (l : List ℕ). All (λ s. s < length c.signals-count.result.now) l) (sym (c.deref.ensures.value ∙ c.in_ok-places.ensures))
    (subst (λ n. All (λ s. s < n) (piped_places c.args.channels.now)) (sym (ap length c.signals-count.ensures)) c.requires.places)

pub table_of-requires-clause-once : goal.table_of-requires-clause-once
table_of-requires-clause-once c = subst (AllPairs (λ a b. a ≢ b)) (sym (c.deref.ensures.value ∙ c.in_ok-places.ensures)) c.requires.places_once

pub table_of-requires-clause-values : goal.table_of-requires-clause-values
table_of-requires-clause-values c =
    let chosen = filter (λ (channel : Channel). channel.pipe) c.args.channels.now in
    ap length (c.deref-2.ensures.value ∙ c.in_ok-takers.ensures)
    ∙ length-map chosen (λ (channel : Channel). channel.consumer) ∙ sym (length-map chosen (λ (channel : Channel). channel.signal))
    ∙ sym (ap length (c.deref.ensures.value ∙ c.in_ok-places.ensures))

pub table_of-requires-2-clause-values : goal.table_of-requires-2-clause-values
table_of-requires-2-clause-values c = ap length (c.deref-3.ensures.value ∙ c.in_ok-numbers.ensures) ∙ length-range_with_len (length c.signals-count.result.now) (length c.args.pipes.now)

pub returns : goal.returns
returns c =
    tables-made c.args.one.now c.args.channels.now c.args.pipes.now c.args.owned.now (length c.signals-count.result.now) c.deref.result.now c.deref-2.result.now c.deref-3.result.now c.in_ok-takers-2.takers.items c.in_ok-numbers-2.numbers.items c.in_ok-makers.makers.items c.deref-4.result.now c.in_ok-holders.holders.items _
    (ap length c.signals-count.ensures) (c.deref.ensures.value ∙ c.in_ok-places.ensures) (c.deref-2.ensures.value ∙ c.in_ok-takers.ensures) (c.deref-3.ensures.value ∙ c.in_ok-numbers.ensures) c.in_ok-takers-2.ensures c.in_ok-numbers-2.ensures c.in_ok-makers.ensures c.deref-4.ensures.value c.in_ok-holders.ensures
    c.from.ensures c.from-2.ensures (c.in_ok-keepers.ensures ∙ c.as_slice.ensures) c.from-3.ensures c.from-4.ensures
