use Rattle.gg_cut_pipes.specs.declared.tables.Tables.{Tables}
use Rattle.std.proofs.Common.{refl, ◌≡◌, ◌<◌, ◌+◌, ℕ, List, length, take, get_or, ◌∙◌, ap, ap₂, arith}
use Rattle.gg_flat.specs.declared.memory.Memory.{Memory}
use Rattle.gg_flat.specs.Line.{value_at}
use Rattle.gg_bits.specs.Lists.{by_number}
use Rattle.gg_cut_pipes.specs.inside.Tables.{seen_in}
use Rattle.gg_cut_pipes.proofs.BuildLemmas.{number-more, memories-grow}
use Rattle.gg_flat.specs.Renaming.{renamed_memory, signals_by}
use Rattle.gg_cut_pipes.proofs.made.add_memories.Goals as goal

pub loop-place-preserved : goal.loop-place-preserved
loop-place-preserved c =
    let one = c.args.one.now in
    let tables = c.args.tables.now in
    let k = c.loop-place.place in
    let own = c.index-memories-place.result in
    let lt : k < length one.memories = (let low = c.loop-place-test.true in let same = ap length c.memories-place-end.ensures in omega (arith, low, same)) in
    let f = λ (r : ℕ) (memory : Memory). renamed_memory (signals_by (seen_in tables (value_at tables.keepers r))) memory in
    let read : own ≡ get_or one.memories k own = c.index-memories-place.is ∙ ap (λ (l : List Memory). get_or l k own) c.memories.ensures in
    memories-grow c.args.piece.now c.loop-place.piece c.add_memory.new.self (by_number f 0 (take k one.memories)) (by_number f 0 (take (k + 1) one.memories)) c.in_ok-memory.memory (f k (get_or one.memories k own))
    c.in_ok-add_memory.ensures.ok c.loop-place.invariant
    (c.in_ok-memory.ensures ∙ ap₂ (λ (t : Tables) (memory : Memory). renamed_memory (signals_by (seen_in t c.by.result.machine)) memory) c.by.ensures.tables refl
    ∙ ap₂ (λ m (memory : Memory). renamed_memory (signals_by (seen_in tables m)) memory) (c.by.ensures.machine ∙ c.number_at-machine.ensures ∙ ap (λ (l : List ℕ). value_at l k) c.as_slice.ensures) read)
    (number-more f one.memories k own lt)
