use Rattle.std.proofs.Common.{◌≡◌, ◌<◌, length, map, sym, ◌∙◌, ap, subst}
use Rattle.std.specs.Prelude.{All}
use Rattle.gg_flat.specs.Circuit.{FlatCircuit}
use Rattle.gg_flat.specs.Line.{value_at}
use Rattle.gg_part.specs.inside.Building.{AreRegisters, AreMemories}
use Rattle.gg_part.proofs.BuildLemmas.{AreSignals-same}
use Rattle.gg_part.proofs.PartLemmas.{IsPart-made}
use Rattle.gg_part.proofs.build.add_all.Goals as goal

pub returns-clause-part : goal.returns-clause-part
returns-clause-part c =
    let whole = c.args.whole.now in
    let globals = c.args.frame.now.globals in
    let ins = c.args.frame.now.ins in
    let held = c.args.frame.now.held in
    let memories = c.args.frame.now.memories in
    let piece = c.set_clocks.new.self in
    let clocks_only = c.set_clocks.ensures in
    let registers_only = c.in_ok-add_registers.ensures.only in
    let memories_only = c.in_ok-add_memories.ensures.only in
    let ins_only = c.in_ok-add_ins.ensures.only in
    let outs_only = c.in_ok-add_outs.ensures.only in
    let paths : piece.paths ≡ c.add_signals.new.piece.paths = ap (λ (p : FlatCircuit). p.paths) clocks_only ∙ ap (λ (p : FlatCircuit). p.paths) outs_only ∙ ap (λ (p : FlatCircuit). p.paths) ins_only ∙ ap (λ (p : FlatCircuit). p.paths) memories_only ∙ ap (λ (p : FlatCircuit). p.paths) registers_only in
    let signals : piece.signals ≡ c.add_signals.new.piece.signals = ap (λ (p : FlatCircuit). p.signals) clocks_only ∙ ap (λ (p : FlatCircuit). p.signals) outs_only ∙ ap (λ (p : FlatCircuit). p.signals) ins_only ∙ ap (λ (p : FlatCircuit). p.signals) memories_only ∙ ap (λ (p : FlatCircuit). p.signals) registers_only in
    let registers : piece.registers ≡ c.add_registers.new.piece.registers = ap (λ (p : FlatCircuit). p.registers) clocks_only ∙ ap (λ (p : FlatCircuit). p.registers) outs_only ∙ ap (λ (p : FlatCircuit). p.registers) ins_only ∙ ap (λ (p : FlatCircuit). p.registers) memories_only in
    let banks : piece.memories ≡ c.add_memories.new.piece.memories = ap (λ (p : FlatCircuit). p.memories) clocks_only ∙ ap (λ (p : FlatCircuit). p.memories) outs_only ∙ ap (λ (p : FlatCircuit). p.memories) ins_only in
    let own_ins : piece.ins ≡ c.add_ins.new.piece.ins = ap (λ (p : FlatCircuit). p.ins) clocks_only ∙ ap (λ (p : FlatCircuit). p.ins) outs_only in
    let outs : piece.outs ≡ c.add_outs.new.piece.outs = ap (λ (p : FlatCircuit). p.outs) clocks_only in
    IsPart-made whole piece globals ins held memories c.args.frame.now.clocks c.requires.formed c.requires.chosen c.requires.held
    (AreSignals-same whole globals ins held memories (length globals) c.add_signals.new.piece piece paths signals c.in_ok-add_signals.ensures.signals)
    (subst (AreRegisters whole globals held c.args.frame.now.clocks (length held)) (sym registers) c.in_ok-add_registers.ensures.registers)
    (subst (AreMemories whole globals memories c.args.frame.now.clocks (length memories)) (sym banks) c.in_ok-add_memories.ensures.memories)
    (ap (map (value_at globals)) own_ins ∙ c.in_ok-add_ins.ensures.ins ∙ c.as_slice.ensures)
    (subst (λ l. All (λ s. s < length globals) l) (sym own_ins) c.in_ok-add_ins.ensures.below)
    (subst (λ l. All (λ s. s < length globals) l) (sym outs) c.in_ok-add_outs.ensures.below)
    (ap (λ (p : FlatCircuit). p.clocks) clocks_only ∙ ap length c.as_slice-2.ensures)
