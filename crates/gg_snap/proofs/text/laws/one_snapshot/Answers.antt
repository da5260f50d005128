use Rattle.gg_snap.proofs.TextLemmas.OneLemmas.{no-fault, one-cycle, one-fault, one-snap}
use Rattle.gg_snap.proofs.text.laws.one_snapshot.Goals as goal

pub returns : goal.returns
returns c = record {
  once = one-snap;
  cycle = one-cycle;
  apart = no-fault;
  first = one-fault;
}
