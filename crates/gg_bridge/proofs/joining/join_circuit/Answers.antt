use Rattle.std.proofs.Common.{◌≡◌, List, ℕ, ◌∙◌, ap, ap₂}
use Rattle.std.specs.Prelude.{map}
use Rattle.gg_flat.specs.Line.{value_at}
use Rattle.gg_bridge.specs.Joined.{with_model, globals_behind, held_behind, memories_behind, without}
use Rattle.gg_bridge.proofs.FormedLemmas.{whole-formed}
use Rattle.gg_bridge.proofs.joining.join_circuit.Goals as goal

pub made-requires-clause-distinct : goal.made-requires-clause-distinct
made-requires-clause-distinct c = (whole-formed c.args.one.now c.args.front.now c.args.model.now c.args.sees.now c.args.drives.now c.requires.can c.requires.formed c.requires.model.formed c.requires.model.clocks).distinct

pub returns : goal.returns
returns c =
    let one = c.args.one.now in
    let front = c.args.front.now in
    let model = c.args.model.now in
    let sees = c.args.sees.now in
    let drives = c.args.drives.now in
    let behind = c.in_ok-behind.behind in
    let said : c.deref-2.result.now ≡ map (value_at (globals_behind one model)) model.outs =
    c.deref-2.ensures.value ∙ c.in_ok-said.ensures ∙ ap₂ (λ (globals outs : List ℕ). map (value_at globals) outs) (c.deref.ensures.value ∙ c.in_ok-behind.ensures.globals) c.outs.ensures in
    let ins : c.deref-3.result.now ≡ without drives one.ins = c.deref-3.ensures.value ∙ c.in_ok-ins.ensures ∙ ap (without drives) c.ins.ensures in
    let outs : c.deref-4.result.now ≡ without sees one.outs = c.deref-4.ensures.value ∙ c.in_ok-outs.ensures ∙ ap (without sees) c.outs-2.ensures in
    c.in_ok-piece.ensures
    ∙ ap (λ globals. with_model one front model globals behind.held.items behind.memories.items sees drives c.deref-2.result.now c.deref-3.result.now c.deref-4.result.now) c.in_ok-behind.ensures.globals
    ∙ ap (λ held. with_model one front model (globals_behind one model) held behind.memories.items sees drives c.deref-2.result.now c.deref-3.result.now c.deref-4.result.now) c.in_ok-behind.ensures.held
    ∙ ap (λ memories. with_model one front model (globals_behind one model) (held_behind one model) memories sees drives c.deref-2.result.now c.deref-3.result.now c.deref-4.result.now) c.in_ok-behind.ensures.memories
    ∙ ap (λ said. with_model one front model (globals_behind one model) (held_behind one model) (memories_behind one model) sees drives said c.deref-3.result.now c.deref-4.result.now) said
    ∙ ap₂ (λ ins outs. with_model one front model (globals_behind one model) (held_behind one model) (memories_behind one model) sees drives (map (value_at (globals_behind one model)) model.outs) ins outs) ins outs
