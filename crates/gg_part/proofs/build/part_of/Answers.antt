use Rattle.std.proofs.Common.{sym, subst}
use Rattle.std.specs.Prelude.{All, Contains}
use Rattle.gg_part.proofs.PartLemmas.{AreTimed-frame, IsChoice-frame}
use Rattle.gg_part.proofs.build.part_of.Goals as goal

pub add_all-requires-clause-chosen : goal.add_all-requires-clause-chosen
add_all-requires-clause-chosen c =
    IsChoice-frame c.args.whole.now c.args.globals.now c.args.ins.now c.args.outs.now c.args.memories.now c.in_ok-frame.frame.globals c.in_ok-frame.frame.ins c.in_ok-frame.frame.memories
    c.in_ok-frame.ensures.globals c.in_ok-frame.ensures.ins c.in_ok-frame.ensures.memories c.requires.chosen

pub add_all-requires-clause-outs : goal.add_all-requires-clause-outs
add_all-requires-clause-outs c =
    subst (λ l. All (λ s. Contains l s) c.args.outs.now) (sym c.in_ok-frame.ensures.globals) c.requires.chosen.outs

pub add_all-requires-clause-timed : goal.add_all-requires-clause-timed
add_all-requires-clause-timed c =
    AreTimed-frame c.args.whole.now c.args.globals.now c.args.ins.now c.args.memories.now c.in_ok-frame.frame.globals c.in_ok-frame.frame.ins c.in_ok-frame.frame.memories c.args.clocks.now c.in_ok-frame.frame.clocks
    c.args.clocking.now.registers c.args.clocking.now.ports c.in_ok-frame.ensures.globals c.in_ok-frame.ensures.ins c.in_ok-frame.ensures.memories c.in_ok-frame.ensures.clocks c.requires.timed
