use Rattle.std.proofs.Common.{◌≡◌, ◌<◌, ◌+◌, ◌∷◌, [], ℕ, List, length, get_or, sym, ◌∙◌, ap, subst, arith}
use Rattle.std.proofs.lemmas.List.{length-append}
use Rattle.gg_flat.specs.declared.piece.Register.{Register}
use Rattle.gg_tape.specs.declared.taped.TapedRegister.{TapedRegister}
use Rattle.gg_tape.specs.inside.Tape.{IsTapedRegister, AreTapedRegisters}
use Rattle.gg_tape.proofs.TapeLemmas.{signals-more}
use Rattle.gg_tape.proofs.RegisterLemmas.{registers-push}
use Rattle.gg_tape.proofs.tape.Tape.add_registers.Goals as goal

pub loop-register-preserved : goal.loop-register-preserved
loop-register-preserved c =
    let circuit = c.args.piece.now in
    let old = c.loop-register.self.code in
    let new = c.tell_register.new.self in
    let all = c.loop-register.self.registers.items in
    let taped = c.in_ok-taped.taped in
    let register = c.register-item.result in
    let index = c.loop-register.register-index in
    let few : index < length circuit.registers = omega (arith, c.loop-register-test.true, ap (λ (xs : List Register). length xs) c.registers-register-items.ensures) in
    let count : length all ≡ index = c.loop-register.invariant.2 in
    let read : register ≡ get_or circuit.registers (length all) register =
    c.register-item.is ∙ ap (λ (xs : List Register). get_or xs index register) c.registers-register-items.ensures ∙ ap (λ k. get_or circuit.registers k register) (sym count) in
    let is : IsTapedRegister (length circuit.signals) new taped register = subst (λ (n : ℕ). IsTapedRegister n new taped register) c.signal_count.ensures.count c.in_ok-taped.ensures.told in
    let more = registers-push circuit old new all taped register c.in_ok-taped.ensures.grown c.loop-register.invariant.1 is (omega (arith, few, count)) read in (
      signals-more circuit old new c.loop-register.self.signals.items c.in_ok-taped.ensures.grown c.loop-register.invariant.0,
      subst (λ (xs : List TapedRegister). AreTapedRegisters circuit new xs) (sym c.in_ok-push.ensures.items) more,
      ap (λ (xs : List TapedRegister). length xs) c.in_ok-push.ensures.items ∙ length-append all (taped ∷ []) ∙ ap (λ k. k + 1) count,
      c.loop-register.invariant.3,
    )
