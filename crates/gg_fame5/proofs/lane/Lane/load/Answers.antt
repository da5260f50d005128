use Rattle.std.proofs.Common.{◌≡◌, ◌+◌, ◌<◌, ◌≤◌, ℕ, List, None, length, true, sym, ap, subst, ◌∙◌, arith}
use Rattle.std.specs.Prelude.{slice_set}
use Rattle.std.proofs.lemmas.List.{get_or_default}
use Rattle.gg_flat.specs.Circuit.{FlatCircuit}
use Rattle.gg_flat.specs.Line.{value_at}
use Rattle.gg_node.specs.Machine.{latch_at}
use Rattle.gg_program.specs.Slots.{Slotted}
use Rattle.gg_program.specs.inside.Slots.{with_input}
use Rattle.gg_fame5.proofs.LaneLemmas.{IsLoading, IsLoading-skip, IsLoading-put, IsLoading-end, not-some}
use Rattle.gg_fame5.proofs.lane.Lane.load.Goals as goal
use Rattle.gg_fame5.proofs.lane.Lane.load.Goals.{in-Some, in_default}

-- slots with a value put into a signal's place
abbrev placed : Slotted → ℕ → ℕ → Slotted
placed slots s value = record { values = slice_set slots.values s value; done = slice_set slots.done s true; room = slots.room }

pub loop-i-preserved : goal.loop-i-preserved
loop-i-preserved c =
    let circuit = c.args.program.now.circuit in
    let lane = c.args.self.now in
    let slots = c.loop-i.slots in
    let i = c.loop-i.i in
    let ins : c.ins-ins.result.now ≡ circuit.ins = c.ins-ins.ensures ∙ ap (λ (k : FlatCircuit). k.ins) c.piece.ensures.circuit in
    let below : i < length circuit.ins = omega (arith, c.loop-i-test.true, ap (λ (l : List ℕ). length l) ins) in
    let there : i < length c.self.inside.latches.items = omega (arith, below, c.requires.lane.ins, ap (λ l. length l.latches) c.self.view_is) in
    let at : latch_at lane.latches i ≡ c.index.result.now = ap (λ l. latch_at l.latches i) (sym c.self.view_is) ∙ get_or_default c.self.inside.latches.items i None c.index.result.now there ∙ sym c.index.ensures in
    elim c.match-index.branch [
      | in-Some w ↦
          let put : w.put.new.self ≡ with_input circuit slots i w.in-Some.token = w.put.ensures ∙ ap (λ (l : List ℕ). placed slots (value_at l i) w.in-Some.token) ins in
          subst (IsLoading circuit lane (i + 1)) (sym w.slots-is) (IsLoading-put circuit lane i w.in-Some.token slots w.put.new.self c.piece.ensures.formed c.requires.lane below (at ∙ w.in-Some.is) put c.loop-i.invariant)
      | in_default w ↦
          subst (IsLoading circuit lane (i + 1)) (sym w.slots-is) (IsLoading-skip circuit lane i slots (not-some (latch_at lane.latches i) (λ token e. w.in_default.not-Some token (sym at ∙ e))) c.loop-i.invariant)
    ]

pub returns : goal.returns
returns c =
    let circuit = c.args.program.now.circuit in
    let ins : c.ins-ins.result.now ≡ circuit.ins = c.ins-ins.ensures ∙ ap (λ (k : FlatCircuit). k.ins) c.piece.ensures.circuit in
    let all : length circuit.ins ≤ c.loop-i.i = omega (arith, c.loop-i-test.false, ap (λ (l : List ℕ). length l) ins) in
    record { held = IsLoading-end circuit c.args.self.now c.loop-i.i c.loop-i.slots c.requires.lane all c.loop-i.invariant }
