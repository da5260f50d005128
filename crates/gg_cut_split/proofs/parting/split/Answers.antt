use Rattle.std.proofs.Common.{length, ap, arith}
use Rattle.gg_flat.specs.Circuit.{FlatCircuit}
use Rattle.gg_cut_split.proofs.PartingLemmas.{can-split, ends-at, shares-of}
use Rattle.gg_cut_split.proofs.parting.split.Goals as goal

pub split_all-requires : goal.split_all-requires
split_all-requires c =
    let counted = c.signal_count.ensures.few in
    let same = ap (λ (circuit : FlatCircuit). length circuit.signals) c.piece.ensures.circuit in
    record {
      can = can-split c.args.design.now c.piece-2.result.now c.tree.result.now c.order.result.now c.args.listed.now c.args.entries.now c.piece-2.ensures.circuit c.tree.ensures.tree c.order.ensures.order
          (record { formed = c.piece.ensures.formed; ordered = c.order.ensures.ordered }) c.requires.keeps c.requires.apart (omega (arith, counted, same));
      ends = ends-at c.args.design.now c.piece-2.result.now c.tree.result.now c.args.listed.now c.args.entries.now c.args.ends.now c.piece-2.ensures.circuit c.tree.ensures.tree c.requires.ends;
    }

pub returns-clause-shares : goal.returns-clause-shares
returns-clause-shares c =
    shares-of c.args.design.now c.piece-2.result.now c.tree.result.now c.order.result.now c.args.listed.now c.args.entries.now c.in_ok-split.split.shares c.piece-2.ensures.circuit c.tree.ensures.tree c.order.ensures.order c.in_ok-split.ensures.shares
