use Rattle.std.proofs.Common.{◌≡◌, ℕ, ◌<◌, List, ◌∷◌, ◌++◌, [], length, get_or, slice_get, Some, None, refl, sym, ◌∙◌, ap, ap₂, subst, arith}
use Rattle.std.specs.Prelude.{Contains, Option}
use Rattle.gg_flat.specs.declared.piece.Register.{Register}
use Rattle.gg_flat.specs.WellFormed.{IsClock}
use Rattle.gg_flat.specs.Named.{RegisterNamesOnly}
use Rattle.gg_part.specs.inside.Local.{own_by}
use Rattle.gg_part.specs.Part.{RegisterBelow, in_whole}
use Rattle.gg_part.proofs.BackLemmas.{LeadsBack, table-back, register-back, register-below}
use Rattle.gg_part.proofs.ClockLemmas.{leads-same}
use Rattle.std.proofs.lemmas.List.Elements.{Contains-get_or}
use Rattle.std.proofs.lemmas.Option.{slice_get-get_or}
use Rattle.gg_flat.specs.Line.{value_at}
use Rattle.gg_flat.specs.Circuit.{FlatCircuit}
use Rattle.gg_part.proofs.BuildLemmas.{AreRegisters-more, follows-more, only-registers, read-any}
use Rattle.gg_part.proofs.FrameLemmas.{register-closed, held-within}
use Rattle.gg_flat.specs.Renaming.{renamed_register}
use Rattle.gg_part.proofs.build.add_registers.Goals as goal

pub bounds-registers-number : goal.bounds-registers-number
bounds-registers-number c =
    let whole = c.args.whole.now in
    let held = c.args.frame.now.held in
    let k = c.loop-number.number-index in
    let lt : k < length held = omega (arith, ap length c.as_slice-number-items.ensures, c.loop-number-test.true) in
    let known : value_at held k < length whole.registers = held-within whole c.args.frame.now.globals c.args.frame.now.ins held c.requires.formed c.requires.chosen.within c.requires.held k 0 lt in
    omega (arith, known, ap (λ l. value_at l k) c.as_slice-number-items.ensures, ap length c.registers.ensures)

pub loop-number-preserved : goal.loop-number-preserved
loop-number-preserved c =
    let whole = c.args.whole.now in
    let frame = c.args.frame.now in
    let globals = frame.globals in
    let held = frame.held in
    let k = c.loop-number.number-index in
    let old = c.loop-number.piece in
    let new = c.add_register.new.self in
    let own = c.in_ok-own.own in
    let item = c.index-registers-number.result in
    let r = value_at c.as_slice-number-items.result.now k in
    let back : ℕ → ℕ = value_at c.local-by.result.signals.now in
    let leads_back : LeadsBack globals back = table-back globals c.local-by.result.signals.now c.local-by.ensures.signals in
    let clock : Option ℕ = get_or c.args.clocking.now.registers r None in
    let lt : k < length held = omega (arith, ap length c.as_slice-number-items.ensures, c.loop-number-test.true) in
    let same : value_at held k ≡ r = ap (λ l. value_at l k) (sym c.as_slice-number-items.ensures) in
    let known : value_at held k < length whole.registers = held-within whole globals frame.ins held c.requires.formed c.requires.chosen.within c.requires.held k 0 lt in
    let listed = subst (Contains held) same (Contains-get_or held k 0 lt) in
    let at : get_or whole.registers r item ≡ item = ap (λ l. get_or l r item) (sym c.registers.ensures) ∙ sym c.index-registers-number.is in
    let found : slice_get whole.registers r ≡ Some item = slice_get-get_or whole.registers r item (omega (arith, known, same)) ∙ ap Some at in
    let read : item ≡ get_or whole.registers (value_at held k) item = sym at ∙ ap (λ n. get_or whole.registers n item) (sym same) in
    let closed : RegisterNamesOnly (Contains globals) item = λ t named. register-closed whole globals frame.ins held frame.memories c.requires.chosen c.requires.held r t item listed found named in
    let leads = leads-same {clocks = frame.clocks} refl (ap (λ (x : Register). x.clock) at) refl (c.requires.timed.register r item (c.requires.held.sound r listed)) in
    let is : own ≡ renamed_register (own_by back clock) item =
    c.in_ok-own.ensures
    ∙ ap₂ (λ (signals : List ℕ) (clock : Option ℕ). renamed_register (own_by (value_at signals) clock) item) c.at_port-port.ensures.signals (c.at_port-port.ensures.clock ∙ ap (λ (l : List (Option ℕ)). get_or l r None) c.as_slice.ensures) in
    record {
      only = only-registers c.args.piece.now old new (old.registers ++ own ∷ []) c.in_ok-add_register.ensures.ok c.loop-number.invariant.only;
      registers = AreRegisters-more whole globals held frame.clocks k old.registers new.registers own item c.loop-number.invariant.registers (ap (λ (c : FlatCircuit). c.registers) c.in_ok-add_register.ensures.ok)
          (ap (renamed_register (in_whole globals frame.clocks)) is ∙ register-back globals back leads_back frame.clocks clock item closed leads.leads)
          (subst (RegisterBelow (length globals)) (sym is) (register-below globals back leads_back clock item closed))
          (subst (λ (x : Register). IsClock (length frame.clocks) x.clock) (sym is) leads.known) (read-any whole.registers (value_at held k) item known read);
      own = follows-more (λ (x : Register). x.clock) (λ r. get_or c.args.clocking.now.registers (value_at held r) None) old.registers new.registers k own c.loop-number.invariant.registers.counted (ap (λ (c : FlatCircuit). c.registers) c.in_ok-add_register.ensures.ok)
          (ap (λ (x : Register). x.clock) is ∙ ap (λ n. get_or c.args.clocking.now.registers n None) (sym same)) c.loop-number.invariant.own;
    }
