use Rattle.std.proofs.Common.{◌≡◌, ℕ, ◌+◌, length, ap, sym, subst, ◌∙◌, arith}
use Rattle.std.specs.Prelude.{All}
use Rattle.gg_bits.specs.Limits.{cycle_limit}
use Rattle.gg_flat.specs.declared.memory.Memory.{Memory}
use Rattle.gg_flat.specs.Clock.{edges_at}
use Rattle.gg_flat.specs.Memory.{Bank, bank_at, read_count}
use Rattle.gg_flat.specs.State.{State}
use Rattle.gg_flat.specs.Served.{after_access}
use Rattle.gg_node.specs.inside.Machine.{due}
use Rattle.gg_node.specs.Machine.{latched_values}
use Rattle.gg_node.specs.Step.{with_served}
use Rattle.gg_memunit.specs.inside.MemoryUnit.{access_of, state_of}
use Rattle.gg_memunit.specs.MemoryUnit.{memory_machine}
use Rattle.gg_memunit.proofs.UnitLemmas.{of-sole, of-first, of-put, reads-after, served-few, late-reader, among-ports, serve-step}
use Rattle.gg_memunit.proofs.unit.MemUnit.serve_port.Goals as goal

pub serve-requires-clause-late : goal.serve-requires-clause-late
serve-requires-clause-late c = λ below.
    let unit = c.self.inside in
    let kept = c.self.invariant in
    let memory = c.memory_of-memory.result.now in
    let only = c.memory_of-memory.ensures in
    let is-due = ap due c.self.view_is ∙ c.requires.due in
    let held = of-sole (λ (memory : Memory). length (bank_at unit.state.banks 0).reads ≡ read_count memory.latency memory.readers) unit.piece.memories memory only kept.held in
    let lent : length c.bank_mut.result.now.reads ≡ length (bank_at unit.state.banks 0).reads = ap (λ (bank : Bank). length bank.reads) c.bank_mut.ensures.value in
    omega (arith, below, held, lent, late-reader unit.piece memory kept.memory only unit.served c.args.port is-due below)

pub serve-requires-clause-port : goal.serve-requires-clause-port
serve-requires-clause-port c = among-ports c.self.inside.piece c.memory_of-memory.result.now c.self.invariant.memory c.memory_of-memory.ensures c.self.inside.served c.args.port (ap due c.self.view_is ∙ c.requires.due)

pub overflow_add-self : goal.overflow_add-self
overflow_add-self c = omega (arith, served-few c.self.inside.piece c.memory_of-memory.result.now c.self.invariant.memory c.memory_of-memory.ensures c.self.inside.served c.args.port (ap due c.self.view_is ∙ c.requires.due))

pub invariant_of-self : goal.invariant_of-self
invariant_of-self c =
    let unit = c.self.inside in
    let kept = c.self.invariant in
    let memory = c.memory_of-memory.result.now in
    let bank = bank_at unit.state.banks 0 in
    let put = of-put unit.state c.serve.new.bank kept.none kept.one in
    let count : length c.serve.new.bank.reads ≡ length bank.reads =
    ap (λ (bank : Bank). length bank.reads) c.serve.ensures ∙ reads-after c.edges-edges.result.now c.deref.result.now c.bank_mut.result.now (access_of memory.readers memory.writers c.args.port) ∙ ap (λ (bank : Bank). length bank.reads) c.bank_mut.ensures.value in
    record {
      memory = kept.memory;
      none = kept.none;
      one = ap (λ (state : State). length state.banks) put;
      held = subst (λ (n : ℕ). All (λ memory. n ≡ read_count memory.latency memory.readers) unit.piece.memories) (sym (ap (λ (state : State). length (bank_at state.banks 0).reads) put ∙ count)) kept.held;
      ins = kept.ins;
      outs = kept.outs;
      tokens = kept.tokens;
    }

pub returns : goal.returns
returns c =
    let unit = c.self.inside in
    let kept = c.self.invariant in
    let memory = c.memory_of-memory.result.now in
    let access = access_of memory.readers memory.writers c.args.port in
    let bank = bank_at unit.state.banks 0 in
    let edges = edges_at unit.timing.ratios unit.timing.tick in
    let served : c.serve.new.bank ≡ after_access edges (latched_values unit.latches.items) bank access =
    c.serve.ensures ∙ ap (λ edges. after_access edges c.deref.result.now c.bank_mut.result.now access) c.edges-edges.ensures ∙ ap (λ inputs. after_access edges inputs c.bank_mut.result.now access) (c.deref.ensures.value ∙ kept.tokens)
    ∙ ap (λ (bank : Bank). after_access edges (latched_values unit.latches.items) bank access) c.bank_mut.ensures.value in
    ap (λ (state : State). memory_machine unit.piece unit.timing.ratios cycle_limit unit.timing.tick state (unit.served + 1) unit.latches.items unit.flags.items) (of-put unit.state c.serve.new.bank kept.none kept.one ∙ ap state_of served)
    ∙ serve-step unit.piece memory kept.memory c.memory_of-memory.ensures unit.served c.args.port (ap due c.self.view_is ∙ c.requires.due) unit.timing.ratios cycle_limit unit.timing.tick bank unit.latches.items unit.flags.items
    ∙ ap (λ (state : State). with_served (memory_machine unit.piece unit.timing.ratios cycle_limit unit.timing.tick state unit.served unit.latches.items unit.flags.items)) (sym (of-first unit.state kept.none kept.one))
    ∙ ap with_served c.self.view_is
