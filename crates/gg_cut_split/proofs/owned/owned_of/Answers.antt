use Rattle.std.proofs.Common.{length, ap, arith}
use Rattle.gg_flat.specs.Circuit.{FlatCircuit}
use Rattle.gg_cut_split.proofs.PartingLemmas.{can-split, ends-at}
use Rattle.gg_cut_split.proofs.owned.owned_of.Goals as goal

pub owned_in-requires : goal.owned_in-requires
owned_in-requires c =
    let counted = c.signal_count.ensures.few in
    let same = ap (λ (circuit : FlatCircuit). length circuit.signals) c.piece.ensures.circuit in
    record {
      can = can-split c.args.design.now c.piece-2.result.now c.tree.result.now c.order.result.now c.args.listed.now c.args.entries.now c.piece-2.ensures.circuit c.tree.ensures.tree c.order.ensures.order
          (record { formed = c.piece.ensures.formed; ordered = c.order.ensures.ordered }) c.requires.keeps c.requires.apart (omega (arith, counted, same));
      ends = ends-at c.args.design.now c.piece-2.result.now c.tree.result.now c.args.listed.now c.args.entries.now c.args.ends.now c.piece-2.ensures.circuit c.tree.ensures.tree c.requires.ends;
    }
