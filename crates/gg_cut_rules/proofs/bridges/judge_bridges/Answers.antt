use Rattle.std.proofs.Common.{◌<◌, List, ℕ, length, take, sym, subst, ap, ◌∙◌}
use Rattle.std.specs.Prelude.{All}
use Rattle.gg_flat.specs.declared.piece.Signal.{Signal}
use Rattle.gg_cut_plan.proofs.BridgeLemmas.{known-ins, known-first}
use Rattle.gg_cut_rules.proofs.bridges.judge_bridges.Goals as goal

pub marks_of-requires : goal.marks_of-requires
marks_of-requires c =
    subst (λ (outs : List ℕ). All (λ s. s < length c.signals-count.result.now) (take c.saturating_sub.result outs)) (sym c.outs-outs.ensures)
    (subst (λ (signals : List Signal). All (λ s. s < length signals) (take c.saturating_sub.result c.args.piece.now.outs)) (sym c.signals-count.ensures) (known-first c.args.piece.now c.requires.formed c.saturating_sub.result))

pub marks_of-requires-2 : goal.marks_of-requires-2
marks_of-requires-2 c =
    subst (λ (ins : List ℕ). All (λ s. s < length c.signals-count.result.now) ins) (sym c.ins-ins.ensures)
    (subst (λ (signals : List Signal). All (λ s. s < length signals) c.args.piece.now.ins) (sym c.signals-count.ensures) (known-ins c.args.piece.now c.requires.formed))

pub entries_stand-requires-clause-sides : goal.entries_stand-requires-clause-sides
entries_stand-requires-clause-sides c =
    record {
      known_outs = subst (λ (outs : List ℕ). All (λ s. s < length c.args.piece.now.signals) (take c.saturating_sub.result outs)) (sym c.outs-outs.ensures) (known-first c.args.piece.now c.requires.formed c.saturating_sub.result);
      marked_outs = c.in_ok-marks_of.ensures.marks;
      many_outs = c.in_ok-marks_of.ensures.count ∙ ap length c.signals-count.ensures;
      inputs = c.ins-ins.ensures;
      known_ins = subst (λ (ins : List ℕ). All (λ s. s < length c.args.piece.now.signals) ins) (sym c.ins-ins.ensures) (known-ins c.args.piece.now c.requires.formed);
      marked_ins = c.in_ok-marks_of-2.ensures.marks;
      many_ins = c.in_ok-marks_of-2.ensures.count ∙ ap length c.signals-count.ensures;
    }
