use Rattle.std.proofs.Common.{◌≡◌, ◌+◌, ◌<◌, ◌++◌, length, map, ◌∙◌, ap, ap₂, arith}
use Rattle.gg_flat.specs.Circuit.{FlatCircuit}
use Rattle.gg_flat.specs.Renaming.{renamed_register, renamed_memory}
use Rattle.gg_bridge.specs.Joined.{behind_by, linked, signal_behind}
use Rattle.gg_bridge.proofs.NumberLemmas.{length-by}
use Rattle.gg_bridge.proofs.joining.made.Goals as goal

pub add_behind-requires-clause-few : goal.add_behind-requires-clause-few
add_behind-requires-clause-few c =
    let f = linked c.args.links.now.said.now c.args.links.now.drives.now c.args.links.now.ins.now in
    let long : length c.add_front.new.piece.signals ≡ length c.args.one.now.signals = ap (λ (p : FlatCircuit). length p.signals) c.in_ok-add_front.ensures ∙ length-by f 0 c.args.one.now.signals in
    let few = c.requires.few in
    let bound : length c.add_front.new.piece.signals + length c.args.model.now.signals < 4294967296 = omega (arith, long, few) in
    bound

pub returns : goal.returns
returns c =
    let one = c.args.one.now in
    let model = c.args.model.now in
    let links = c.args.links.now in
    let behind = c.args.behind.now in
    c.set_clocks.ensures
    ∙ ap₂ (λ (p : FlatCircuit) n. let d : FlatCircuit = record p { clocks = n } in d)
    (c.in_ok-add_outs.ensures
    ∙ ap (λ (p : FlatCircuit). let d : FlatCircuit = record p { outs = p.outs ++ links.outs.now } in d)
    (c.in_ok-add_ins.ensures
    ∙ ap (λ (p : FlatCircuit). let d : FlatCircuit = record p { ins = p.ins ++ links.ins.now } in d)
    (c.in_ok-move_memories.ensures
    ∙ ap (λ (p : FlatCircuit). let d : FlatCircuit = record p { memories = p.memories ++ map (λ memory. renamed_memory (behind_by behind.globals.items behind.held.items behind.memories.items) memory) model.memories } in d)
    (c.in_ok-copy_memories.ensures
    ∙ ap (λ (p : FlatCircuit). let d : FlatCircuit = record p { memories = p.memories ++ one.memories } in d)
    (c.in_ok-move_registers.ensures
    ∙ ap (λ (p : FlatCircuit). let d : FlatCircuit = record p { registers = p.registers ++ map (λ register. renamed_register (behind_by behind.globals.items behind.held.items behind.memories.items) register) model.registers } in d)
    (c.in_ok-copy_registers.ensures
    ∙ ap (λ (p : FlatCircuit). let d : FlatCircuit = record p { registers = p.registers ++ one.registers } in d)
    (c.in_ok-add_behind.ensures
    ∙ ap (λ (p : FlatCircuit). let d : FlatCircuit = record p { paths = p.paths ++ map (λ path. c.args.front.now ++ path) model.paths; signals = p.signals ++ map (signal_behind behind.globals.items behind.held.items behind.memories.items links.sees.now) model.signals } in d)
    c.in_ok-add_front.ensures)))))))
    c.clocks.ensures
