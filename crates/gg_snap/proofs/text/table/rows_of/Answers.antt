use Rattle.std.proofs.Common.{◌≡◌, ◌++◌, List, length, sym, ap, ap₂, ◌∙◌, subst, append_assoc}
use Rattle.std.specs.Prelude.{◌≢◌, AllPairs}
use Rattle.gg_flat_tree.specs.Tree.{InstanceTree}
use Rattle.gg_snap.specs.declared.text.row.Row.{Row}
use Rattle.gg_snap.specs.text.Table.{by_path, memory_rows, pipe_rows, read_rows, register_rows}
use Rattle.gg_snap.proofs.TextLemmas.SortLemmas.{AreDistinct, own-distinct}
use Rattle.gg_snap.proofs.TextLemmas.TableLemmas.{memories-distinct, pipes-distinct, reads-distinct, registers-distinct, table-known}
use Rattle.gg_snap.proofs.text.table.rows_of.Goals as goal

pub sorted-rows-requires : goal.sorted-rows-requires
sorted-rows-requires c =
    let paths = subst (λ (t : InstanceTree). length t.memory_paths ≡ length t.memories) c.tree-tree.ensures.tree c.memory_count.ensures.paths in
    let apart = subst (λ (t : InstanceTree). AllPairs (λ a b. a ≢ b) t.memory_paths) c.tree-tree.ensures.tree c.memory_count.ensures.distinct in
    let is = c.in_ok-registers.ensures ∙ ap register_rows c.piece-piece.ensures.circuit in
    own-distinct c.in_ok-registers.registers.items (subst AreDistinct (sym is) (registers-distinct c.args.design.now.circuit c.args.design.now.tree c.piece-piece.ensures.formed c.requires paths apart))

pub sorted-reads-requires : goal.sorted-reads-requires
sorted-reads-requires c =
    let paths = subst (λ (t : InstanceTree). length t.memory_paths ≡ length t.memories) c.tree-tree.ensures.tree c.memory_count.ensures.paths in
    let apart = subst (λ (t : InstanceTree). AllPairs (λ a b. a ≢ b) t.memory_paths) c.tree-tree.ensures.tree c.memory_count.ensures.distinct in
    let is = c.in_ok-reads.ensures ∙ ap read_rows c.piece-piece.ensures.circuit in
    own-distinct c.in_ok-reads.reads.items (subst AreDistinct (sym is) (reads-distinct c.args.design.now.circuit c.args.design.now.tree c.piece-piece.ensures.formed c.requires paths apart))

pub sorted-pipes-requires : goal.sorted-pipes-requires
sorted-pipes-requires c =
    let paths = subst (λ (t : InstanceTree). length t.memory_paths ≡ length t.memories) c.tree-tree.ensures.tree c.memory_count.ensures.paths in
    let apart = subst (λ (t : InstanceTree). AllPairs (λ a b. a ≢ b) t.memory_paths) c.tree-tree.ensures.tree c.memory_count.ensures.distinct in
    let is = c.in_ok-pipes.ensures ∙ ap pipe_rows c.piece-piece.ensures.circuit in
    own-distinct c.in_ok-pipes.pipes.items (subst AreDistinct (sym is) (pipes-distinct c.args.design.now.circuit c.args.design.now.tree c.piece-piece.ensures.formed c.requires paths apart))

pub sorted-memories-requires : goal.sorted-memories-requires
sorted-memories-requires c =
    let paths = subst (λ (t : InstanceTree). length t.memory_paths ≡ length t.memories) c.tree-tree.ensures.tree c.memory_count.ensures.paths in
    let apart = subst (λ (t : InstanceTree). AllPairs (λ a b. a ≢ b) t.memory_paths) c.tree-tree.ensures.tree c.memory_count.ensures.distinct in
    let is = c.in_ok-memories.ensures.rows ∙ ap₂ memory_rows c.piece-piece.ensures.circuit c.tree-tree.ensures.tree in
    own-distinct c.in_ok-memories.memories.items (subst AreDistinct (sym is) (memories-distinct c.args.design.now.circuit c.args.design.now.tree c.piece-piece.ensures.formed c.requires paths apart))

joined : (a b c d x y z : List Row) → x ≡ a ++ b → y ≡ x ++ c → z ≡ y ++ d → z ≡ a ++ (b ++ (c ++ d))
joined a b c d x y z p q r = r ∙ ap (λ l. l ++ d) (q ∙ ap (λ l. l ++ c) p ∙ append_assoc a b c) ∙ append_assoc a (b ++ c) d ∙ ap (λ l. a ++ l) (append_assoc b c d)

pub returns-clause-known : goal.returns-clause-known
returns-clause-known c =
    let circuit = c.args.design.now.circuit in
    let paths = subst (λ (t : InstanceTree). length t.memory_paths ≡ length t.memories) c.tree-tree.ensures.tree c.memory_count.ensures.paths in
    let apart = subst (λ (t : InstanceTree). AllPairs (λ a b. a ≢ b) t.memory_paths) c.tree-tree.ensures.tree c.memory_count.ensures.distinct in
    let registers = c.sorted-rows.ensures ∙ ap by_path (c.in_ok-registers.ensures ∙ ap register_rows c.piece-piece.ensures.circuit) in
    let reads = c.sorted-reads.ensures ∙ ap by_path (c.in_ok-reads.ensures ∙ ap read_rows c.piece-piece.ensures.circuit) in
    let pipes = c.sorted-pipes.ensures ∙ ap by_path (c.in_ok-pipes.ensures ∙ ap pipe_rows c.piece-piece.ensures.circuit) in
    let made = c.in_ok-memories.ensures.rows ∙ ap₂ memory_rows c.piece-piece.ensures.circuit c.tree-tree.ensures.tree in
    let memories = c.sorted-memories.ensures ∙ ap by_path made in
    let is =
    joined c.sorted-rows.result.items c.sorted-reads.result.items c.sorted-pipes.result.items c.sorted-memories.result.items c.append.new.self.items c.append-2.new.self.items c.append-3.new.self.items c.in_ok-append.ensures.items c.in_ok-append-2.ensures.items c.in_ok-append-3.ensures.items
    ∙ ap₂ (λ a b. a ++ b) registers (ap₂ (λ a b. a ++ b) reads (ap₂ (λ a b. a ++ b) pipes memories)) in
    table-known circuit c.args.design.now.tree c.piece-piece.ensures.formed c.requires paths apart c.append-3.new.self.items c.in_ok-memories.memories.items is made c.in_ok-memories.ensures.few
