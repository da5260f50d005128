use Rattle.gg_elab_sites.proofs.CountLemmas.{signals-are}
use Rattle.gg_elab_sites.proofs.counts.signal_total.Goals as goal

pub returns : goal.returns
returns c = signals-are c.args.circuit.now.modules c.args.own.now c.in_ok-signals.signals.items c.args.place c.gather_at-total.result c.in_ok-signals.ensures (λ i. (c.type_inv.own i).fits) c.requires.place c.gather_at-total.ensures
