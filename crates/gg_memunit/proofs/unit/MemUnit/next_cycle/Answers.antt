use Rattle.std.proofs.Common.{rules, ◌≡◌, None, false, length, replicate, ap, sym, subst, ◌∙◌}
use Rattle.std.proofs.lemmas.List.{length-replicate}
use Rattle.gg_bits.specs.Limits.{cycle_limit}
use Rattle.gg_flat.specs.declared.memory.Memory.{Memory}
use Rattle.gg_flat.specs.Memory.{read_count, bank_at}
use Rattle.gg_flat.specs.State.{State}
use Rattle.gg_node.specs.Token.{IsNextState}
use Rattle.gg_memunit.specs.MemoryUnit.{memory_machine}
use Rattle.gg_memunit.proofs.UnitLemmas.{sole, of-sole, of-first, next-is, tokens-cleared}
use Rattle.gg_memunit.proofs.unit.MemUnit.next_cycle.Goals as goal

pub invariant_of-self : goal.invariant_of-self
invariant_of-self c =
    let unit = c.self.inside in
    let kept = c.self.invariant in
    let zeros : c.fill.new.self.items ≡ replicate (length unit.inputs.items) 0 = search rules in
    let empty : c.clean.new.latches.items ≡ replicate (length unit.latches.items) None = search rules in
    let clear : c.clean.new.flags.items ≡ replicate (length unit.flags.items) false = search rules in
    record {
      memory = kept.memory;
      none = kept.none;
      one = kept.one;
      held = kept.held;
      ins = ap length empty ∙ length-replicate (length unit.latches.items) None ∙ kept.ins;
      outs = ap length clear ∙ length-replicate (length unit.flags.items) false ∙ kept.outs;
      tokens = tokens-cleared unit.inputs.items c.fill.new.self.items unit.latches.items c.clean.new.latches.items kept.tokens zeros empty;
    }

pub returns-clause-next : goal.returns-clause-next
returns-clause-next c =
    let unit = c.self.inside in
    let kept = c.self.invariant in
    let only = sole unit.piece.memories kept.memory.one in
    let bank = bank_at unit.state.banks 0 in
    let held = of-sole (λ (memory : Memory). length bank.reads ≡ read_count memory.latency memory.readers) unit.piece.memories only.0 only.1 kept.held in
    subst (λ machine. IsNextState machine unit.state) c.self.view_is
    (subst (λ (state : State). IsNextState (memory_machine unit.piece unit.timing.ratios cycle_limit unit.timing.tick state unit.served unit.latches.items unit.flags.items) state) (sym (of-first unit.state kept.none kept.one))
    (next-is unit.piece only.0 kept.memory only.1 unit.timing.ratios cycle_limit unit.timing.tick unit.served bank unit.latches.items unit.flags.items held))
