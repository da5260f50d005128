use Rattle.std.proofs.Common.{◌∙◌, sym, arith}
use Rattle.gg_cut_plan.proofs.ChainLemmas.{marked-here, unmarked-up, unmarked-top}
use Rattle.gg_cut_rules.proofs.overlap.lies_in_marked.Goals as goal

pub returns-then-marks-node : goal.returns-then-marks-node
returns-then-marks-node c = λ units are.
    marked-here c.args.tree.now c.requires.parents units c.args.marks.now c.chain.node are c.chain.invariant.within c.if-marks-node.true ∙ sym (c.chain.invariant.same units are)

pub chain-smaller : goal.chain-smaller
chain-smaller c = c.requires.parents c.chain.node c.in-Some.parent c.chain.invariant.within (sym c.in-Some.ensures)

pub chain-preserved : goal.chain-preserved
chain-preserved c =
    let parent = sym c.in-Some.ensures in
    let lower = c.requires.parents c.chain.node c.in-Some.parent c.chain.invariant.within parent in
    record {
      within = omega (arith, lower, c.chain.invariant.within);
      same = λ units are.
          c.chain.invariant.same units are ∙ unmarked-up c.args.tree.now c.requires.parents units c.args.marks.now c.chain.node c.in-Some.parent are c.chain.invariant.within c.if-marks-node.false parent;
    }

pub returns-in-None : goal.returns-in-None
returns-in-None c = λ units are.
    unmarked-top c.args.tree.now c.requires.parents units c.args.marks.now c.chain.node are c.chain.invariant.within c.if-marks-node.false (sym c.in-None.ensures) ∙ sym (c.chain.invariant.same units are)
