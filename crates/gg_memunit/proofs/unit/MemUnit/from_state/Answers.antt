use Rattle.std.proofs.Common.{None, false, length, map, ap, sym, ◌∙◌}
use Rattle.std.proofs.lemmas.List.{length-replicate}
use Rattle.gg_node.specs.Machine.{latched_value}
use Rattle.gg_memunit.proofs.UnitLemmas.{tokens-none, no-registers, held-first}
use Rattle.gg_memunit.proofs.unit.MemUnit.from_state.Goals as goal

pub invariant_of-result : goal.invariant_of-result
invariant_of-result c =
    let piece = c.args.piece in
    let zeros = c.in_ok-inputs.ensures.inputs in
    let empty = c.in_ok-inputs.ensures.latches in
    let clear = c.in_ok-inputs.ensures.flags in
    record {
      memory = c.requires.memory;
      none = no-registers piece c.args.state c.requires.memory c.requires.state;
      one = c.requires.state.held.count ∙ c.requires.memory.one;
      held = held-first piece c.args.state c.requires.memory c.requires.state;
      ins = ap length empty ∙ length-replicate (length piece.ins) None;
      outs = ap length clear ∙ length-replicate (length piece.outs) false;
      tokens = zeros ∙ tokens-none (length piece.ins) ∙ sym (ap (map latched_value) empty);
    }
