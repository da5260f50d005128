use Rattle.std.proofs.Common.{◌<◌, ◌≤◌, ◌++◌, [], ◌∷◌, ℕ, List, Option, length, map, take, get_or, sym, ap, ap₂, ◌∙◌, append_assoc, arith}
use Rattle.std.proofs.lemmas.List.{map_more, take_all, append-nil}
use Rattle.gg_flat.specs.declared.memory.Reader.{Reader}
use Rattle.gg_flat.specs.declared.memory.Writer.{Writer}
use Rattle.gg_cut_parts.proofs.whole.clocks_of_memory.Goals as goal

pub loop-reader-preserved : goal.loop-reader-preserved
loop-reader-preserved c =
    let i = c.loop-reader.reader-index in
    let readers = c.args.memory.now.readers in
    let lt : i < length readers = omega (arith, ap (λ (l : List Reader). length l) c.as_slice-reader-items.ensures) in
    c.in_ok-push.ensures.items ∙ ap₂ (λ (l : List (Option ℕ)) (xs : List Reader). l ++ (get_or xs c.loop-reader.reader-index _).clock ∷ []) c.loop-reader.invariant c.as_slice-reader-items.ensures
    ∙ sym (map_more (λ (reader : Reader). reader.clock) readers i _ lt)

pub loop-writer-init : goal.loop-writer-init
loop-writer-init c =
    let readers = c.args.memory.now.readers in
    let all : length readers ≤ c.loop-reader.reader-index = omega (arith, ap (λ (l : List Reader). length l) c.as_slice-reader-items.ensures) in
    c.loop-reader.invariant ∙ ap (map (λ (reader : Reader). reader.clock)) (take_all c.loop-reader.reader-index readers all) ∙ sym (append-nil (map (λ (reader : Reader). reader.clock) readers))

pub loop-writer-preserved : goal.loop-writer-preserved
loop-writer-preserved c =
    let i = c.loop-writer.writer-index in
    let readers = c.args.memory.now.readers in
    let writers = c.args.memory.now.writers in
    let lt : i < length writers = omega (arith, ap (λ (l : List Writer). length l) c.as_slice-writer-items.ensures) in
    c.in_ok-push-2.ensures.items ∙ ap₂ (λ (l : List (Option ℕ)) (xs : List Writer). l ++ (get_or xs c.loop-writer.writer-index _).clock ∷ []) c.loop-writer.invariant c.as_slice-writer-items.ensures
    ∙ append_assoc (map (λ (reader : Reader). reader.clock) readers) (map (λ (writer : Writer). writer.clock) (take i writers)) _ ∙ ap (λ (l : List (Option ℕ)). map (λ (reader : Reader). reader.clock) c.args.memory.now.readers ++ l) (sym (map_more (λ (writer : Writer). writer.clock) writers i _ lt))
