-- proofs/bank/read_words/Answers.antt
use Rattle.std.proofs.Common.{◌≡◌, length, arith, subst}
use Rattle.gg_order.proofs.RunsLemmas.LateLemmas.{Found, Found-all}
use Rattle.gg_order.proofs.runs.bank.read_words.Goals as goal

pub returns : goal.returns
returns c =
    let all : c.loop-r.r ≡ length c.args.readers.now = omega arith in
    Found-all _ _ _ _ _ _ c.requires.count (subst (λ k. Found c.args.edges.now c.args.signals.now c.args.words.now c.args.readers.now c.args.reads.now k c.loop-r.reads) all c.loop-r.invariant)
