use Rattle.std.proofs.Common.{◌∙◌, sym, true, arith}
use Rattle.std.proofs.lemmas.List.{length-set}
use Rattle.gg_cut_plan.proofs.ChainLemmas.{above-more, above-end}
use Rattle.gg_cut_rules.proofs.overlap.mark_above.Goals as goal

pub chain-smaller : goal.chain-smaller
chain-smaller c = c.requires.parents c.chain.node c.in-Some.parent c.chain.invariant.within (sym c.in-Some.ensures)

pub chain-preserved : goal.chain-preserved
chain-preserved c =
    let parent = sym c.in-Some.ensures in
    let lower = c.requires.parents c.chain.node c.in-Some.parent c.chain.invariant.within parent in
    record {
      within = omega (arith, lower, c.chain.invariant.within);
      count = length-set c.chain.marks c.chain.node true ∙ c.chain.invariant.count;
      same = λ k.
          above-more c.args.tree.now c.requires.parents c.chain.marks c.chain.node c.in-Some.parent k c.chain.invariant.within (omega (arith, c.chain.invariant.within, c.chain.invariant.count)) parent
          ∙ c.chain.invariant.same k;
    }

pub returns-in-None-clause-above : goal.returns-in-None-clause-above
returns-in-None-clause-above c = λ k.
    above-end c.args.tree.now c.requires.parents c.chain.marks c.chain.node k c.chain.invariant.within (omega (arith, c.chain.invariant.within, c.chain.invariant.count)) (sym c.in-None.ensures)
    ∙ c.chain.invariant.same k
