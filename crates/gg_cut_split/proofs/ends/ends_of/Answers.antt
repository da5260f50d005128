use Rattle.std.proofs.Common.{◌<◌, ◌^◌, ◌∙◌, ap, length, subst}
use Rattle.gg_bits.specs.Lists.{count_below}
use Rattle.gg_cut_plan.specs.inside.Machines.{Counts, count_end}
use Rattle.gg_cut_split.specs.inside.Ends.{is_open}
use Rattle.gg_cut_split.proofs.EndsLemmas.{counts-made}
use Rattle.gg_cut_split.proofs.ends.ends_of.Goals as goal

pub ends_by-requires-clause-numbers : goal.ends_by-requires-clause-numbers
ends_by-requires-clause-numbers c =
    let design = c.args.design.now in
    let takers = c.in_ok-takers.takers in
    c.in_ok-numbering.ensures.numbers
    ∙ counts-made design.circuit design.tree c.args.listed.now c.args.entries.now takers.drivers.items takers.viewers.items (c.in_ok-takers.ensures {u = tt}) c.open_count-sources.result c.open_count-trays.result
    (c.open_count-sources.ensures.count ∙ ap (λ l. count_below (is_open l) (length l)) c.deref.ensures.value) (c.open_count-trays.ensures.count ∙ ap (λ l. count_below (is_open l) (length l)) c.deref-2.ensures.value)

pub ends_by-requires-clause-few : goal.ends_by-requires-clause-few
ends_by-requires-clause-few c =
    let design = c.args.design.now in
    let takers = c.in_ok-takers.takers in
    subst (λ (n : Counts). count_end n < 2 ^ 32)
    (counts-made design.circuit design.tree c.args.listed.now c.args.entries.now takers.drivers.items takers.viewers.items (c.in_ok-takers.ensures {u = tt}) c.open_count-sources.result c.open_count-trays.result
    (c.open_count-sources.ensures.count ∙ ap (λ l. count_below (is_open l) (length l)) c.deref.ensures.value) (c.open_count-trays.ensures.count ∙ ap (λ l. count_below (is_open l) (length l)) c.deref-2.ensures.value))
    c.in_ok-numbering.ensures.few
