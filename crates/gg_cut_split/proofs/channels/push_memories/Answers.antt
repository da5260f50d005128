use Rattle.std.proofs.Common.{◌∙◌, ◌+◌, ◌<◌, ℕ, List, length, refl, ap, subst}
use Rattle.gg_flat.specs.Line.{value_at}
use Rattle.gg_cut_plan.specs.Machines.{first_memory, memory_after}
use Rattle.gg_cut_plan.specs.Channels.{field_wires}
use Rattle.gg_cut_split.proofs.NumberedLemmas.{numbered-pushed, memory-step, memory-read}
use Rattle.gg_cut_split.proofs.channels.push_memories.Goals as goal

pub loop-place-preserved : goal.loop-place-preserved
loop-place-preserved c =
    let listed = c.args.listed.now in
    let place = c.loop-place.place in
    let within : place < length listed.memories = subst (λ (l : List ℕ). place < length l) c.as_slice-memories.ensures c.loop-place-test.true in
    let known = c.requires.known place 0 within in
    let memory = c.index-memories-memories.result in
    numbered-pushed (field_wires c.args.piece.now c.args.tree.now listed.units) (first_memory listed) listed.memories place 0 c.args.wires.now.items c.loop-place.wires.items c.push_fields.new.wires.items within
    (memory-step c.args.piece.now c.args.tree.now listed c.args.owners.now place (value_at listed.memories place) (first_memory listed) c.memory.result memory (value_at c.args.owners.now memory.instance)
    c.loop-place.wires.items c.push_fields.new.wires.items c.requires.fitting known c.requires.owners (memory-read c.args.tree.now c.memories.result.now c.as_slice-memories.result.now listed.memories place memory c.as_slice-memories.ensures known c.memories.ensures c.index-memories-memories.is)
    refl (c.memory.ensures ∙ ap (λ n. memory_after n + place) c.requires.units) c.in_ok-push_fields.ensures)
    c.loop-place.invariant
