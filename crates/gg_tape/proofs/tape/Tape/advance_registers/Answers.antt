use Rattle.std.proofs.Common.{◌≡◌, ◌<◌, ◌+◌, ℕ, List, length, get_or, sym, ◌∙◌, ap, ap₂, subst, arith}
use Rattle.std.proofs.lemmas.List.{length-map}
use Rattle.gg_bits.specs.Shape.{shape}
use Rattle.gg_flat.specs.declared.piece.Signal.{Signal}
use Rattle.gg_flat.specs.declared.piece.Register.{Register}
use Rattle.gg_flat.specs.Line.{value_at}
use Rattle.gg_flat.specs.State.{State, next_register}
use Rattle.gg_flat.proofs.AdvanceLemmas.{Advanced, Advanced-more, Advanced-all}
use Rattle.gg_tape.specs.declared.taped.TapedRegister.{TapedRegister}
use Rattle.gg_tape.specs.inside.Cells.{Celled}
use Rattle.gg_tape.specs.inside.Tape.{IsTapedRegister}
use Rattle.gg_tape.proofs.RegisterLemmas.{State-same}
use Rattle.gg_tape.proofs.tape.Tape.advance_registers.Goals as goal

pub next_value-next-requires-clause-taped : goal.next_value-next-requires-clause-taped
next_value-next-requires-clause-taped c =
    let circuit = c.args.piece.now in
    let code = c.args.self.now.code in
    let all = c.args.self.now.registers.items in
    let taped = c.index.result.now in
    let register = c.index-registers-r.result in
    let r = c.loop-r.r in
    let lt : r < length all = omega (arith, c.loop-r-test.true, c.len-r-end.ensures) in
    let read : register ≡ get_or circuit.registers r register = rw c.registers.ensures at c.index-registers-r.is in
    let known : IsTapedRegister (length circuit.signals) code (get_or all r taped) (get_or circuit.registers r register) = c.requires.tape.registers r taped register lt in
    let is : IsTapedRegister (length circuit.signals) code taped register =
    subst (λ (x : TapedRegister). IsTapedRegister (length circuit.signals) code x register) (sym c.index.ensures)
    (subst (λ (x : Register). IsTapedRegister (length circuit.signals) code (get_or all r taped) x) (sym read) known) in
    let count : length circuit.signals ≡ length c.loop-r.cells.values =
    sym (ap (λ (x : Celled). length x.values) c.loop-r.invariant.2 ∙ c.requires.signals.count ∙ length-map circuit.signals (λ (signal : Signal). shape signal.ty)) in
    subst (λ (n : ℕ). IsTapedRegister n code taped register) count is

pub loop-r-preserved : goal.loop-r-preserved
loop-r-preserved c =
    let circuit = c.args.piece.now in
    let edges = c.args.edges.now in
    let values = c.args.cells.now.values in
    let old = c.args.state.now.registers in
    let register = c.index-registers-r.result in
    let r = c.loop-r.r in
    let v = c.next_value-next.result in
    let own = c.loop-r.state.registers in
    let lt : r < length circuit.registers = omega (arith, c.loop-r-test.true, c.len-r-end.ensures, c.requires.tape.count) in
    let read : register ≡ get_or circuit.registers r register = rw c.registers.ensures at c.index-registers-r.is in
    let gives : v ≡ next_register edges values register (value_at own r) =
    c.next_value-next.ensures.value ∙ ap₂ (λ (cells : Celled) (xs : List ℕ). next_register edges cells.values register (value_at xs r)) c.loop-r.invariant.2 c.registers-in-loop-r.ensures in
    let more = Advanced-more circuit.registers edges values old r own register v lt read gives c.next_value-next.ensures.fits c.loop-r.invariant.0 in (
      subst (λ (xs : List ℕ). Advanced circuit.registers edges values old (r + 1) xs) (sym (ap (λ (x : State). x.registers) c.set_register.ensures)) more,
      ap (λ (x : State). x.banks) c.set_register.ensures ∙ c.loop-r.invariant.1,
      c.next_value-next.ensures.same ∙ c.loop-r.invariant.2,
    )

pub returns-clause-next : goal.returns-clause-next
returns-clause-next c =
    let circuit = c.args.piece.now in
    let all : c.loop-r.r ≡ length circuit.registers = omega (arith, c.loop-r-test.false, c.loop-r.auto.r-end, c.len-r-end.ensures, c.requires.tape.count) in
    let advanced = subst (λ (k : ℕ). Advanced circuit.registers c.args.edges.now c.args.cells.now.values c.args.state.now.registers k c.loop-r.state.registers) all c.loop-r.invariant.0 in
    let are = Advanced-all circuit.registers c.args.edges.now c.args.cells.now.values c.args.state.now.registers c.loop-r.state.registers (c.requires.state.count ∙ length-map circuit.registers (λ (x : Register). shape x.ty)) advanced in
    State-same are c.loop-r.invariant.1
