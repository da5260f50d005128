use Rattle.std.proofs.Common.{◌+◌, set, sym, subst, arith}
use Rattle.gg_flat.specs.Line.{value_at}
use Rattle.gg_cut_split.proofs.TableLemmas.{NumberedTo, NumberedTo-more}
use Rattle.gg_cut_split.proofs.tables.number_memories.Goals as goal

pub loop-number-preserved : goal.loop-number-preserved
loop-number-preserved c =
    subst (λ n. NumberedTo c.args.memories.now c.args.numbering.now.units (c.loop-number.number + 1) c.args.found.now (set c.loop-number.found (value_at c.args.memories.now c.loop-number.number) n)) (sym c.memory.ensures)
    (NumberedTo-more c.args.memories.now c.args.numbering.now.units c.loop-number.number c.args.found.now c.loop-number.found c.loop-number-test.true c.requires.ascending
    (let known = c.requires.known c.loop-number.number 0 c.loop-number-test.true in omega (arith, known, c.loop-number.invariant.count)) c.loop-number.invariant)
