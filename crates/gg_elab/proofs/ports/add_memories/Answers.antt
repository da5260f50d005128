use Rattle.std.proofs.Common.{List, ◌++◌, map, take, subst, arith}
use Rattle.std.proofs.lemmas.List.{take_all}
use Rattle.gg_elab.specs.inside.Building.{HasMemories, memory_of}
use Rattle.gg_elab_sites.specs.Flat.{FlatMemory}
use Rattle.gg_elab_sites.specs.declared.digest.OwnMemory.{OwnMemory}
use Rattle.gg_elab_sites.proofs.FlatLemmas.{seam}
use Rattle.gg_elab.proofs.WholeLemmas.{memories-push}
use Rattle.gg_elab.proofs.ports.add_memories.Goals as goal

pub loop-own-preserved : goal.loop-own-preserved
loop-own-preserved c = λ said h.
    let paths = c.args.site.now.table.now.paths in
    let all = c.args.memories.now in
    let i = c.loop-own.own-index in
    let f = memory_of c.args.site.now in
    subst (λ (l : List FlatMemory). HasMemories paths l c.args.piece.now c.add_memory.new.self) (seam f said all i c.own-item.result (omega arith) c.own-item.is)
    (memories-push paths (said ++ map f (take i all)) (f c.own-item.result) c.args.piece.now c.loop-own.piece c.add_memory.new.self c.in_ok-made.made (c.loop-own.invariant said h) c.in_ok-add_memory.ensures.ok c.in_ok-made.ensures)

pub returns : goal.returns
returns c = λ said h.
    let f = memory_of c.args.site.now in
    subst (λ (l : List OwnMemory). HasMemories c.args.site.now.table.now.paths (said ++ map f l) c.args.piece.now c.loop-own.piece) (take_all c.loop-own.own-index c.args.memories.now (omega arith)) (c.loop-own.invariant said h)
