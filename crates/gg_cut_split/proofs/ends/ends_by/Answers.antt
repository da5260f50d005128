use Rattle.std.proofs.Common.{◌≡◌, ℕ, suc, ◌+◌, ◌<◌, ◌^◌, List, length, map, sym, ◌∙◌, ap, subst}
use Rattle.std.specs.List.{range_with_len}
use Rattle.gg_flat.specs.Circuit.{FlatCircuit}
use Rattle.gg_cut_plan.specs.Ports.{first_bridge, first_kept_tray, ports_of}
use Rattle.gg_cut_plan.specs.inside.Machines.{Counts, bridge_after, tray_after}
use Rattle.gg_cut_split.specs.inside.Ends.{at_places, is_open, number_by}
use Rattle.gg_cut_split.proofs.EndsLemmas.{ends-made, givers-small, keepers-small}
use Rattle.gg_cut_split.proofs.ends.ends_by.Goals as goal

pub numbers_by-requires-clause-within : goal.numbers_by-requires-clause-within
numbers_by-requires-clause-within c =
    let design = c.args.design.now in
    let b = ports_of design.circuit design.tree c.args._listed.now c.args._entries.now in
    let drivers = c.args.takers.now.drivers.items in
    let first : c.first_source.result ≡ b.first = c.first_source.ensures ∙ ap (λ (n : Counts). suc n.units + n.memories) c.requires.numbers in
    let bridge : c.first_bridge-bridge.result ≡ first_bridge b = c.first_bridge-bridge.ensures ∙ ap (λ (n : Counts). bridge_after n.units n.memories n.sources n.trays) c.requires.numbers in
    subst (λ (l : List ℕ). (p : ℕ) → p < length l → number_by c.first_source.result c.first_bridge-bridge.result l p < 2 ^ 32) (sym c.deref.ensures.value)
    (subst (λ s. (p : ℕ) → p < length drivers → number_by s c.first_bridge-bridge.result drivers p < 2 ^ 32) (sym first)
    (subst (λ k. (p : ℕ) → p < length drivers → number_by b.first k drivers p < 2 ^ 32) (sym bridge)
    (givers-small design.circuit design.tree c.args._listed.now c.args._entries.now drivers c.args.takers.now.viewers.items c.requires.takers c.requires.few)))

pub numbers_by-requires-2-clause-within : goal.numbers_by-requires-2-clause-within
numbers_by-requires-2-clause-within c =
    let design = c.args.design.now in
    let b = ports_of design.circuit design.tree c.args._listed.now c.args._entries.now in
    let viewers = c.args.takers.now.viewers.items in
    let tray : c.first_tray.result ≡ first_kept_tray b = c.first_tray.ensures ∙ ap (λ (n : Counts). tray_after n.units n.memories n.sources) c.requires.numbers in
    let bridge : c.first_bridge-bridge.result ≡ first_bridge b = c.first_bridge-bridge.ensures ∙ ap (λ (n : Counts). bridge_after n.units n.memories n.sources n.trays) c.requires.numbers in
    subst (λ (l : List ℕ). (p : ℕ) → p < length l → number_by c.first_tray.result c.first_bridge-bridge.result l p < 2 ^ 32) (sym c.deref-2.ensures.value)
    (subst (λ s. (p : ℕ) → p < length viewers → number_by s c.first_bridge-bridge.result viewers p < 2 ^ 32) (sym tray)
    (subst (λ k. (p : ℕ) → p < length viewers → number_by (first_kept_tray b) k viewers p < 2 ^ 32) (sym bridge)
    (keepers-small design.circuit design.tree c.args._listed.now c.args._entries.now c.args.takers.now.drivers.items viewers c.requires.takers c.requires.few)))

pub returns : goal.returns
returns c =
    let design = c.args.design.now in
    let b = ports_of design.circuit design.tree c.args._listed.now c.args._entries.now in
    let drivers = c.args.takers.now.drivers.items in
    let viewers = c.args.takers.now.viewers.items in
    let first : c.first_source.result ≡ b.first = c.first_source.ensures ∙ ap (λ (n : Counts). suc n.units + n.memories) c.requires.numbers in
    let tray : c.first_tray.result ≡ first_kept_tray b = c.first_tray.ensures ∙ ap (λ (n : Counts). tray_after n.units n.memories n.sources) c.requires.numbers in
    let bridge : c.first_bridge-bridge.result ≡ first_bridge b = c.first_bridge-bridge.ensures ∙ ap (λ (n : Counts). bridge_after n.units n.memories n.sources n.trays) c.requires.numbers in
    ends-made design.circuit design.tree c.args._listed.now c.args._entries.now drivers viewers c.requires.takers
    (record { numbering = c.args.numbering; givers = c.in_ok-givers.givers; keepers = c.in_ok-keepers.keepers; ins = c.in_ok-ins.ins; outs = c.in_ok-outs.outs })
    c.requires.numbers c.requires.few
    (c.in_ok-givers.ensures {u = tt} ∙ ap (λ (l : List ℕ). map (number_by c.first_source.result c.first_bridge-bridge.result l) (range_with_len 0 (length l))) c.deref.ensures.value
    ∙ ap (λ s. map (number_by s c.first_bridge-bridge.result drivers) (range_with_len 0 (length drivers))) first ∙ ap (λ k. map (number_by b.first k drivers) (range_with_len 0 (length drivers))) bridge)
    (c.in_ok-keepers.ensures {u = tt} ∙ ap (λ (l : List ℕ). map (number_by c.first_tray.result c.first_bridge-bridge.result l) (range_with_len 0 (length l))) c.deref-2.ensures.value
    ∙ ap (λ s. map (number_by s c.first_bridge-bridge.result viewers) (range_with_len 0 (length viewers))) tray ∙ ap (λ k. map (number_by (first_kept_tray b) k viewers) (range_with_len 0 (length viewers))) bridge)
    (c.in_ok-ins.ensures {u = tt} ∙ ap (λ (l : List ℕ). at_places (is_open l) c.ins.result.now) c.deref-3.ensures.value ∙ ap (at_places (is_open drivers)) (c.ins.ensures ∙ ap (λ (k : FlatCircuit). k.ins) c.piece-piece.ensures.circuit))
    (c.in_ok-outs.ensures {u = tt} ∙ ap (λ (l : List ℕ). at_places (is_open l) c.outs.result.now) c.deref-4.ensures.value ∙ ap (at_places (is_open viewers)) (c.outs.ensures ∙ ap (λ (k : FlatCircuit). k.outs) c.piece-piece.ensures.circuit))
