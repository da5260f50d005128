use Rattle.std.proofs.Common.{◌≡◌, ◌<◌, ◌≤◌, ◌^◌, List, ℕ, map, sym, ◌∙◌, ap, ap₂, subst}
use Rattle.std.specs.Prelude.{All}
use Rattle.gg_part.specs.Moved.{shifted}
use Rattle.gg_part.specs.declared.part.Part.{Part}
use Rattle.gg_cut_plan.specs.declared.wires.Wire.{Wire}
use Rattle.gg_cut_plan.specs.Direct.{routes}
use Rattle.gg_cut_plan.specs.Plan.{channels_from, clock_home, givens_of, machine_clocks}
use Rattle.gg_cut_parts.proofs.DomainTimes.{home-known}
use Rattle.gg_cut_split.specs.inside.Again.{again_at}
use Rattle.gg_cut_parts.specs.inside.Draft.{draft_hub}
use Rattle.gg_cut_parts.proofs.MachineLemmas.{from-below}
use Rattle.gg_cut_parts.proofs.DraftFollowerLemmas.{ready, follows, all-behind, all-few, held-is, part-in, globals-within}
use Rattle.gg_cut_parts.proofs.moved.moved_part.Goals as goal

-- ---- the first signals

pub first_signal-from-requires-clause-unit : goal.first_signal-from-requires-clause-unit
first_signal-from-requires-clause-unit c = c.requires.again.units.0

pub first_signal-from-requires-clause-below : goal.first_signal-from-requires-clause-below
first_signal-from-requires-clause-below c = c.requires.again.units.1

pub first_signal-to-requires-clause-unit : goal.first_signal-to-requires-clause-unit
first_signal-to-requires-clause-unit c = c.requires.again.units.2

pub first_signal-to-requires-clause-below : goal.first_signal-to-requires-clause-below
first_signal-to-requires-clause-below c = c.requires.again.units.3

-- ---- the numbers

pub moved_numbers-requires-clause-behind : goal.moved_numbers-requires-clause-behind
moved_numbers-requires-clause-behind c =
    subst (λ (l : List ℕ). All (λ s. c.first_signal-from.result ≤ s) l) (sym c.as_slice.ensures)
    (all-behind c.args.machine.now c.requires.machine (record { formed = c.piece-whole.ensures.formed; ordered = c.order.ensures.ordered }) c.args.first c.args.leader.now c.requires.again c.requires.leader c.requires.timed c.requires.ascend c.first_signal-from.result c.first_signal-from.ensures)

pub moved_numbers-requires-clause-few : goal.moved_numbers-requires-clause-few
moved_numbers-requires-clause-few c =
    subst (λ (l : List ℕ). All (λ s. shifted c.first_signal-from.result c.first_signal-to.result s < 2 ^ 32) l) (sym c.as_slice.ensures)
    (all-few c.args.machine.now c.requires.machine (record { formed = c.piece-whole.ensures.formed; ordered = c.order.ensures.ordered }) c.args.first c.args.leader.now c.requires.again c.requires.leader c.requires.timed c.requires.ascend
    c.piece-whole.result.now c.first_signal-from.result c.first_signal-to.result c.piece-whole.ensures.circuit c.signal_count.ensures.few c.first_signal-from.ensures c.first_signal-to.ensures)

pub held_again-requires-clause-part : goal.held_again-requires-clause-part
held_again-requires-clause-part c =
    part-in c.args.machine.now c.requires.machine (record { formed = c.piece-whole.ensures.formed; ordered = c.order.ensures.ordered }) c.args.first c.args.leader.now c.requires.again c.requires.leader c.requires.timed c.requires.ascend c.piece-whole.result.now c.piece-whole.ensures.circuit

pub held_again-requires-clause-within : goal.held_again-requires-clause-within
held_again-requires-clause-within c =
    let machine = c.args.machine.now in
    let leader = c.args.leader.now in
    let numbers : c.in_ok-globals.globals.items ≡ map (again_at machine.draft.now.design.now machine.draft.now.listed c.args.first machine.number) leader.globals =
    c.in_ok-globals.ensures {u = tt} ∙ ap (map (shifted c.first_signal-from.result c.first_signal-to.result)) c.as_slice.ensures ∙ ap₂ (λ a b. map (shifted a b) leader.globals) c.first_signal-from.ensures c.first_signal-to.ensures in
    globals-within machine c.requires.machine (record { formed = c.piece-whole.ensures.formed; ordered = c.order.ensures.ordered }) c.args.first leader c.requires.again c.requires.leader c.requires.timed c.requires.ascend c.piece-whole.result.now c.deref.result.now c.piece-whole.ensures.circuit (c.deref.ensures.value ∙ numbers)

pub givens-requires : goal.givens-requires
givens-requires c =
    let machine = c.args.machine.now in
    from-below c.wires.result.now machine.number machine.outs.now (c.requires.machine.share.gives ∙ ap (λ (w : List Wire). channels_from w machine.number) (sym (c.wires.ensures ∙ c.requires.machine.draft.wires)))

-- ---- the piece

pub moved_piece-requires-clause-within : goal.moved_piece-requires-clause-within
moved_piece-requires-clause-within c =
    let machine = c.args.machine.now in
    let leader = c.args.leader.now in
    let draft = machine.draft.now in
    let numbers : c.in_ok-globals.globals.items ≡ map (again_at draft.design.now draft.listed c.args.first machine.number) leader.globals =
    c.in_ok-globals.ensures {u = tt} ∙ ap (map (shifted c.first_signal-from.result c.first_signal-to.result)) c.as_slice.ensures ∙ ap₂ (λ a b. map (shifted a b) leader.globals) c.first_signal-from.ensures c.first_signal-to.ensures in
    let hub = draft_hub draft in
    let gives : c.deref-3.result.now ≡ givens_of (routes hub) (channels_from (routes hub) machine.number) =
    c.deref-3.ensures.value ∙ c.in_ok-outs.ensures {u = tt} ∙ ap (λ (w : List Wire). givens_of w machine.outs.now) (c.wires.ensures ∙ c.requires.machine.draft.wires) ∙ ap (givens_of (routes hub)) c.requires.machine.share.gives in
    (ready machine c.requires.machine (record { formed = c.piece-whole.ensures.formed; ordered = c.order.ensures.ordered }) c.args.first leader c.requires.again c.requires.leader c.requires.timed c.requires.ascend c.piece-whole.result.now c.deref-2.result.now c.deref-3.result.now c.piece-whole.ensures.circuit (c.deref-2.ensures.value ∙ numbers) gives).within

pub moved_piece-requires-clause-once : goal.moved_piece-requires-clause-once
moved_piece-requires-clause-once c =
    let machine = c.args.machine.now in
    let leader = c.args.leader.now in
    let draft = machine.draft.now in
    let numbers : c.in_ok-globals.globals.items ≡ map (again_at draft.design.now draft.listed c.args.first machine.number) leader.globals =
    c.in_ok-globals.ensures {u = tt} ∙ ap (map (shifted c.first_signal-from.result c.first_signal-to.result)) c.as_slice.ensures ∙ ap₂ (λ a b. map (shifted a b) leader.globals) c.first_signal-from.ensures c.first_signal-to.ensures in
    let hub = draft_hub draft in
    let gives : c.deref-3.result.now ≡ givens_of (routes hub) (channels_from (routes hub) machine.number) =
    c.deref-3.ensures.value ∙ c.in_ok-outs.ensures {u = tt} ∙ ap (λ (w : List Wire). givens_of w machine.outs.now) (c.wires.ensures ∙ c.requires.machine.draft.wires) ∙ ap (givens_of (routes hub)) c.requires.machine.share.gives in
    (ready machine c.requires.machine (record { formed = c.piece-whole.ensures.formed; ordered = c.order.ensures.ordered }) c.args.first leader c.requires.again c.requires.leader c.requires.timed c.requires.ascend c.piece-whole.result.now c.deref-2.result.now c.deref-3.result.now c.piece-whole.ensures.circuit (c.deref-2.ensures.value ∙ numbers) gives).once

pub moved_piece-requires-clause-outs : goal.moved_piece-requires-clause-outs
moved_piece-requires-clause-outs c =
    let machine = c.args.machine.now in
    let leader = c.args.leader.now in
    let draft = machine.draft.now in
    let numbers : c.in_ok-globals.globals.items ≡ map (again_at draft.design.now draft.listed c.args.first machine.number) leader.globals =
    c.in_ok-globals.ensures {u = tt} ∙ ap (map (shifted c.first_signal-from.result c.first_signal-to.result)) c.as_slice.ensures ∙ ap₂ (λ a b. map (shifted a b) leader.globals) c.first_signal-from.ensures c.first_signal-to.ensures in
    let hub = draft_hub draft in
    let gives : c.deref-3.result.now ≡ givens_of (routes hub) (channels_from (routes hub) machine.number) =
    c.deref-3.ensures.value ∙ c.in_ok-outs.ensures {u = tt} ∙ ap (λ (w : List Wire). givens_of w machine.outs.now) (c.wires.ensures ∙ c.requires.machine.draft.wires) ∙ ap (givens_of (routes hub)) c.requires.machine.share.gives in
    (ready machine c.requires.machine (record { formed = c.piece-whole.ensures.formed; ordered = c.order.ensures.ordered }) c.args.first leader c.requires.again c.requires.leader c.requires.timed c.requires.ascend c.piece-whole.result.now c.deref-2.result.now c.deref-3.result.now c.piece-whole.ensures.circuit (c.deref-2.ensures.value ∙ numbers) gives).givens_known

pub returns : goal.returns
returns c =
    let machine = c.args.machine.now in
    let leader = c.args.leader.now in
    let draft = machine.draft.now in
    let numbers : c.in_ok-globals.globals.items ≡ map (again_at draft.design.now draft.listed c.args.first machine.number) leader.globals =
    c.in_ok-globals.ensures {u = tt} ∙ ap (map (shifted c.first_signal-from.result c.first_signal-to.result)) c.as_slice.ensures ∙ ap₂ (λ a b. map (shifted a b) leader.globals) c.first_signal-from.ensures c.first_signal-to.ensures in
    let hub = draft_hub draft in
    let gives : c.deref-3.result.now ≡ givens_of (routes hub) (channels_from (routes hub) machine.number) =
    c.deref-3.ensures.value ∙ c.in_ok-outs.ensures {u = tt} ∙ ap (λ (w : List Wire). givens_of w machine.outs.now) (c.wires.ensures ∙ c.requires.machine.draft.wires) ∙ ap (givens_of (routes hub)) c.requires.machine.share.gives in
    let held = held-is machine c.requires.machine (record { formed = c.piece-whole.ensures.formed; ordered = c.order.ensures.ordered }) c.args.first leader c.requires.again c.requires.leader c.requires.timed c.requires.ascend c.piece-whole.result.now c.deref.result.now c.in_ok-held.held.items c.piece-whole.ensures.circuit (c.deref.ensures.value ∙ numbers) (c.in_ok-held.ensures {u = tt}) in
    let home : c.clocks-own.result.now ≡ machine_clocks draft.design.now.tree draft.listed machine.number =
    c.clocks-own.ensures ∙ c.requires.machine.domains.clocks (clock_home draft.listed machine.number) (home-known draft.design.now.tree draft.listed c.requires.machine.draft.keeps.fitting.top.there c.requires.machine.draft.apart.known machine.number) in
    let part : Part = record { piece = c.in_ok-piece.piece; globals = c.from.result; held = c.from-2.result; memories = c.in_ok-memories.memories; clocks = c.from-3.result } in
    follows machine c.requires.machine (record { formed = c.piece-whole.ensures.formed; ordered = c.order.ensures.ordered }) c.args.first leader c.requires.again c.requires.leader c.requires.timed c.requires.ascend c.piece-whole.result.now c.deref-2.result.now c.deref-3.result.now c.piece-whole.ensures.circuit (c.deref-2.ensures.value ∙ numbers) gives
    part (c.in_ok-piece.ensures {u = tt}) (c.from.ensures ∙ sym c.deref-2.ensures.value) (c.from-2.ensures ∙ held)
    (c.in_ok-memories.ensures {u = tt}) (c.from-3.ensures ∙ c.in_ok-clocks.ensures.items ∙ home)
