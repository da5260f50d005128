use Rattle.std.proofs.Common.{rules}
use Rattle.golden_fifo.proofs.FifoLemmas.{fifo-answer-by}
use Rattle.golden_fifo.proofs.fifo.FifoBridge.answer.Goals as goal

pub returns-clause-next : goal.returns-clause-next
returns-clause-next c =
    let fifo = c.args.self.now in
    fifo-answer-by fifo.bit fifo.ty fifo.first fifo.second fifo.third fifo.fourth c.args.seen.now
    c.next-first.result c.next-second.result c.next-third.result c.next-self-inside.result
    (search rules) (search rules) (search rules) (search rules)
