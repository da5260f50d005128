use Rattle.std.proofs.Common.{◌≡◌, ◌<◌, List, ℕ, length, map, sym, ◌∙◌, ap, subst, arith}
use Rattle.std.specs.Prelude.{All}
use Rattle.gg_flat.specs.Circuit.{FlatCircuit}
use Rattle.gg_flat.specs.Line.{value_at}
use Rattle.gg_part.proofs.FrameLemmas.{length-once}
use Rattle.gg_cut_parts.proofs.moved_piece.moved_piece.Goals as goal

pub found_at-requires-clause-few : goal.found_at-requires-clause-few
found_at-requires-clause-few c = omega (arith, c.signal_count.ensures.few, length-once c.args.globals.now (length c.args.whole.now.signals) c.requires.once c.requires.within)

pub returns : goal.returns
returns c =
    let globals = c.args.globals.now in
    let piece = c.set_clocks.new.self in
    let clocks_only = c.set_clocks.ensures in
    let registers_only = c.in_ok-add_registers.ensures.only in
    let memories_only = c.in_ok-add_memories.ensures.only in
    let ins_only = c.in_ok-add_ins.ensures.only in
    let outs_only = c.in_ok-add_outs.ensures.only in
    let outs : piece.outs ≡ c.in_ok-locals.locals.items = ap (λ (p : FlatCircuit). p.outs) clocks_only ∙ c.in_ok-add_outs.ensures.outs ∙ c.deref.ensures.value in
    record {
      paths = ap (λ (p : FlatCircuit). p.paths) clocks_only ∙ ap (λ (p : FlatCircuit). p.paths) outs_only ∙ ap (λ (p : FlatCircuit). p.paths) ins_only ∙ ap (λ (p : FlatCircuit). p.paths) memories_only ∙ ap (λ (p : FlatCircuit). p.paths) registers_only ∙ c.in_ok-add_signals.ensures.paths;
      signals = ap (λ (p : FlatCircuit). p.signals) clocks_only ∙ ap (λ (p : FlatCircuit). p.signals) outs_only ∙ ap (λ (p : FlatCircuit). p.signals) ins_only ∙ ap (λ (p : FlatCircuit). p.signals) memories_only ∙ ap (λ (p : FlatCircuit). p.signals) registers_only ∙ c.in_ok-add_signals.ensures.signals;
      registers = ap (λ (p : FlatCircuit). p.registers) clocks_only ∙ ap (λ (p : FlatCircuit). p.registers) outs_only ∙ ap (λ (p : FlatCircuit). p.registers) ins_only ∙ ap (λ (p : FlatCircuit). p.registers) memories_only ∙ c.in_ok-add_registers.ensures.registers ∙ c.registers.ensures;
      memories = ap (λ (p : FlatCircuit). p.memories) clocks_only ∙ ap (λ (p : FlatCircuit). p.memories) outs_only ∙ ap (λ (p : FlatCircuit). p.memories) ins_only ∙ c.in_ok-add_memories.ensures.memories ∙ c.memories.ensures;
      ins = ap (λ (p : FlatCircuit). p.ins) clocks_only ∙ ap (λ (p : FlatCircuit). p.ins) outs_only ∙ c.in_ok-add_ins.ensures.ins ∙ c.ins.ensures;
      outs = ap (map (value_at globals)) outs ∙ c.in_ok-locals.ensures.found;
      outs_within = subst (λ (l : List ℕ). All (λ s. s < length globals) l) (sym outs) c.in_ok-locals.ensures.within;
      clocks = ap (λ (p : FlatCircuit). p.clocks) clocks_only ∙ c.clocks.ensures;
    }
