use Rattle.std.proofs.Common.{List, sym, ◌∙◌, subst, ap, length, map, replicate}
use Rattle.gg_flat.specs.declared.piece.Register.{Register}
use Rattle.gg_flat.specs.declared.memory.Memory.{Memory}
use Rattle.gg_flat.specs.Line.{AreTyped}
use Rattle.gg_flat.specs.Circuit.{register_shapes}
use Rattle.gg_flat.specs.Memory.{opening_bank, AreBanks}
use Rattle.gg_flat.proofs.StateLemmas.{IsState-opening}
use Rattle.gg_order.proofs.runs.state.State.new.Goals as goal

pub returns-clause-typed : goal.returns-clause-typed
returns-clause-typed c =
    let piece = c.args.piece.now in
    let opening = IsState-opening piece in
    record {
      typed = subst (AreTyped (register_shapes piece)) (sym (c.in_ok-registers.ensures ∙ ap (λ (l : List Register). replicate (length l) 0) c.registers.ensures)) opening.typed;
      held = subst (AreBanks piece.memories) (sym (c.in_ok-banks.ensures ∙ ap (λ (l : List Memory). map (λ memory. opening_bank memory) l) c.memories.ensures)) opening.held;
    }
