use Rattle.std.proofs.Common.{◌≡◌, ◌<◌, None, length, refl, ap, sym, subst, ◌∙◌, arith}
use Rattle.gg_bits.specs.Limits.{cycle_limit}
use Rattle.gg_flat.specs.Circuit.{reader_at}
use Rattle.gg_flat.specs.Line.{value_at}
use Rattle.gg_flat.specs.Memory.{found_word}
use Rattle.gg_node.specs.Machine.{latched_values, missing}
use Rattle.gg_node.specs.Token.{IsToken}
use Rattle.gg_flat.specs.State.{State}
use Rattle.gg_memunit.specs.MemoryUnit.{memory_machine}
use Rattle.gg_memunit.specs.inside.MemoryUnit.{state_of}
use Rattle.gg_memunit.proofs.UnitLemmas.{of-bank, out-count, same-token, late-token, looks-among}
use Rattle.gg_memunit.proofs.unit.MemUnit.value.Goals as goal

pub returns-in-Zero : goal.returns-in-Zero
returns-in-Zero c =
    let unit = c.self.inside in
    let kept = c.self.invariant in
    let memory = c.memory_of-memory.result.now in
    let only = c.memory_of-memory.ensures in
    let bank = c.bank_of-bank.result.now in
    let as-bank : memory_machine unit.piece unit.timing.ratios cycle_limit unit.timing.tick (state_of bank) unit.served unit.latches.items unit.flags.items ≡ c.args.self.now =
    ap (λ (state : State). memory_machine unit.piece unit.timing.ratios cycle_limit unit.timing.tick state unit.served unit.latches.items unit.flags.items) (sym (of-bank unit.state bank kept.none c.bank_of-bank.ensures)) ∙ c.self.view_is in
    let place = c.args.place in
    let below : place < length memory.readers = omega (arith, c.requires.there, ap (λ machine. length machine.flags) c.self.view_is, kept.outs, out-count unit.piece memory kept.memory only) in
    let reader = reader_at memory.readers place in
    let looks = looks-among unit.piece memory kept.memory only (length unit.piece.ins) refl place (record { addr = 0; en = 0; word = 0; clock = None }) below in
    let needed = ap (λ machine. missing machine place) c.self.view_is ∙ c.requires.needed in
    let found : c.find.result ≡ found_word (latched_values unit.latches.items) bank.words reader =
    c.find.ensures ∙ ap (λ readers. found_word c.deref.result.now bank.words (reader_at readers place)) c.as_slice.ensures ∙ ap (λ inputs. found_word inputs bank.words reader) (c.deref.ensures.value ∙ kept.tokens) in
    subst (λ value. IsToken c.args.self.now place value) (sym found)
    (subst (λ machine. IsToken machine place (found_word (latched_values unit.latches.items) bank.words reader)) as-bank
    (same-token unit.piece memory kept.memory only unit.timing.ratios cycle_limit unit.timing.tick unit.served bank unit.latches.items unit.flags.items place below c.in-Zero.is looks.0 looks.1 needed))

pub returns-in-One : goal.returns-in-One
returns-in-One c =
    let unit = c.self.inside in
    let kept = c.self.invariant in
    let memory = c.memory_of-memory.result.now in
    let only = c.memory_of-memory.ensures in
    let bank = c.bank_of-bank.result.now in
    let as-bank : memory_machine unit.piece unit.timing.ratios cycle_limit unit.timing.tick (state_of bank) unit.served unit.latches.items unit.flags.items ≡ c.args.self.now =
    ap (λ (state : State). memory_machine unit.piece unit.timing.ratios cycle_limit unit.timing.tick state unit.served unit.latches.items unit.flags.items) (sym (of-bank unit.state bank kept.none c.bank_of-bank.ensures)) ∙ c.self.view_is in
    let place = c.args.place in
    let below : place < length memory.readers = omega (arith, c.requires.there, ap (λ machine. length machine.flags) c.self.view_is, kept.outs, out-count unit.piece memory kept.memory only) in
    subst (λ value. IsToken c.args.self.now place value) (sym (ap (λ reads. value_at reads place) c.reads.ensures))
    (subst (λ machine. IsToken machine place (value_at bank.reads place)) as-bank
    (late-token unit.piece memory kept.memory only unit.timing.ratios cycle_limit unit.timing.tick unit.served bank unit.latches.items unit.flags.items place below c.in-One.field-0 c.in-One.is))
