use Rattle.std.proofs.Common.{◌≢◌, List, ℕ, ◌++◌, codes, length, map, sym, ◌∙◌, ap, ap₂, subst}
use Rattle.std.specs.Prelude.{AllPairs}
use Rattle.gg_flat.specs.Circuit.{FlatCircuit}
use Rattle.gg_flat_tree.specs.Tree.{path_at}
use Rattle.gg_flat.specs.Line.{value_at}
use Rattle.gg_cut_reference.specs.Made.{seen_signal, pipe_signals, pipe_registers}
use Rattle.gg_bits.specs.Lists.{by_number}
use Rattle.gg_cut_pipes.specs.inside.Tables.{seen_in, kept_in, views_by}
use Rattle.gg_cut_reference.proofs.MadeLemmas.{length-by}
use Rattle.gg_flat.specs.Renaming.{renamed_memory, renamed_register, signals_by}
use Rattle.gg_cut_pipes.proofs.made.fill_piece.Goals as goal

pub add_pipes-requires-clause-count : goal.add_pipes-requires-clause-count
add_pipes-requires-clause-count c = ap (λ (p : FlatCircuit). length p.signals) c.in_ok-add_signals.ensures ∙ length-by (seen_signal (views_by c.args.tables.now)) 0 c.args.one.now.signals

pub add_pipes-requires-clause-distinct : goal.add_pipes-requires-clause-distinct
add_pipes-requires-clause-distinct c =
    subst (λ (l : List (List ℕ)). AllPairs (λ a b. a ≢ b) (l ++ map (λ s. codes "pipe:" ++ path_at c.args.one.now.paths s) c.args.pipes.now)) (sym (ap (λ (p : FlatCircuit). p.paths) c.in_ok-add_signals.ensures)) c.requires.distinct

pub returns : goal.returns
returns c =
    let one = c.args.one.now in
    let tables = c.args.tables.now in
    let pipes = c.args.pipes.now in
    c.set_clocks.ensures
    ∙ ap₂ (λ (p : FlatCircuit) n. let d : FlatCircuit = record p { clocks = n } in d)
    (c.in_ok-add_outs.ensures
    ∙ ap₂ (λ (p : FlatCircuit) (l : List ℕ). let d : FlatCircuit = record p { outs = p.outs ++ map (kept_in tables) l } in d)
    (c.in_ok-add_ins.ensures
    ∙ ap₂ (λ (p : FlatCircuit) (l : List ℕ). let d : FlatCircuit = record p { ins = p.ins ++ l } in d)
    (c.in_ok-add_memories.ensures
    ∙ ap (λ (p : FlatCircuit). let d : FlatCircuit = record p { memories = p.memories ++ by_number (λ m memory. renamed_memory (signals_by (seen_in tables (value_at tables.keepers m))) memory) 0 one.memories } in d)
    (c.in_ok-add_pipe_registers.ensures
    ∙ ap (λ (p : FlatCircuit). let d : FlatCircuit = record p { registers = p.registers ++ pipe_registers one.signals pipes } in d)
    (c.in_ok-add_registers.ensures
    ∙ ap (λ (p : FlatCircuit). let d : FlatCircuit = record p { registers = p.registers ++ by_number (λ r register. renamed_register (signals_by (seen_in tables (value_at tables.holders r))) register) 0 one.registers } in d)
    (c.in_ok-add_pipes.ensures
    ∙ ap (λ (p : FlatCircuit). let d : FlatCircuit = record p { paths = p.paths ++ map (λ s. codes "pipe:" ++ path_at one.paths s) pipes; signals = p.signals ++ pipe_signals one.signals (length one.registers) pipes } in d)
    c.in_ok-add_signals.ensures))))
    c.ins.ensures)
    c.outs.ensures)
    c.clocks.ensures
