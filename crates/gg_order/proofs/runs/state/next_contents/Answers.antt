use Rattle.std.proofs.Common.{◌≡◌, length, arith, subst, sym}
use Rattle.gg_flat.specs.Memory.{AreBanks}
use Rattle.gg_flat.proofs.BankLemmas.{AreBanks-next}
use Rattle.gg_order.proofs.RunsLemmas.LateLemmas.{BanksSoFar, BanksSoFar-all}
use Rattle.gg_order.proofs.runs.state.next_contents.Goals as goal

pub returns-clause-next : goal.returns-clause-next
returns-clause-next c =
    let all : c.loop-m.m ≡ length c.args.memories.now = omega arith in
    BanksSoFar-all _ _ _ _ _ c.requires.banks (subst (λ k. BanksSoFar c.args.edges.now c.args.signals.now c.args.memories.now c.args.banks.now k c.loop-m.banks) all c.loop-m.invariant)

pub returns-clause-typed : goal.returns-clause-typed
returns-clause-typed c =
    let all : c.loop-m.m ≡ length c.args.memories.now = omega arith in
    let is = BanksSoFar-all _ _ _ _ _ c.requires.banks (subst (λ k. BanksSoFar c.args.edges.now c.args.signals.now c.args.memories.now c.args.banks.now k c.loop-m.banks) all c.loop-m.invariant) in
    subst (AreBanks c.args.memories.now) (sym is) (AreBanks-next c.args.edges.now c.args.signals.now c.args.memories.now c.args.banks.now c.requires.memories c.requires.banks)
