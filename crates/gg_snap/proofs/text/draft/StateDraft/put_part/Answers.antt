use Rattle.std.proofs.Common.{◌≡◌, ◌++◌, ℕ, List, arith, length, take, drop, ap, ap₂, sym, ◌∙◌, subst}
use Rattle.std.proofs.lemmas.List.{take_at}
use Rattle.gg_flat.specs.Memory.{Bank, bank_at}
use Rattle.gg_flat.specs.State.{State}
use Rattle.gg_snap.specs.inside.Parts.{HasPart, HasSizeOf, put}
use Rattle.gg_snap.proofs.TextLemmas.PartLemmas.{part-put}
use Rattle.gg_snap.proofs.text.draft.StateDraft.put_part.Goals as goal

pub returns-clause-part : goal.returns-clause-part
returns-clause-part c = λ whole part.
    let held = c.args.held.now in
    let memories = c.args.memories.now in
    let old = c.args.self.now in
    let registers = c.put_values.ensures ∙ ap₂ (λ (o v : List ℕ). put o held v) (c.deref_mut.ensures.value ∙ ap (λ (s : State). s.registers) c.self.view_is) c.registers.ensures in
    let banks = c.put_banks.ensures.put ∙ ap₂ (λ (o v : List Bank). put o memories v) (c.deref_mut-2.ensures.value ∙ ap (λ (s : State). s.banks) c.self.view_is) c.banks.ensures in
    let high : length c.put_values.new.old ≡ c.self.inside.registers.len = omega (arith, c.put_values.auto.old, c.deref_mut.ensures.len, c.self.inside.registers.ok.0) in
    let many : length c.put_banks.new.old ≡ c.self.inside.banks.len = omega (arith, c.put_banks.auto.old, c.deref_mut-2.ensures.len, c.self.inside.banks.ok.0) in
    let own : take c.self.inside.registers.len (c.put_values.new.old ++ drop (length c.put_values.new.old) c.self.inside.registers.items) ≡ put old.registers held c.args.state.now.registers = take_at c.put_values.new.old _ c.self.inside.registers.len high ∙ registers in
    let kept : take c.self.inside.banks.len (c.put_banks.new.old ++ drop (length c.put_banks.new.old) c.self.inside.banks.items) ≡ put old.banks memories c.args.state.now.banks = take_at c.put_banks.new.old _ c.self.inside.banks.len many ∙ banks in
    subst (λ (s : State). HasPart whole held memories old s) (sym (ap₂ (λ (r : List ℕ) (b : List Bank). record { registers = r; banks = b }) own kept))
    (part-put whole old c.args.state.now held memories c.requires.held c.requires.memories part)

pub returns-clause-sizes : goal.returns-clause-sizes
returns-clause-sizes c = λ m.
    let many : length c.put_banks.new.old ≡ c.self.inside.banks.len = omega (arith, c.put_banks.auto.old, c.deref_mut-2.ensures.len, c.self.inside.banks.ok.0) in
    let own : take c.self.inside.banks.len (c.put_banks.new.old ++ drop (length c.put_banks.new.old) c.self.inside.banks.items) ≡ c.put_banks.new.old = take_at c.put_banks.new.old _ c.self.inside.banks.len many in
    let old : c.deref_mut-2.result.now ≡ c.args.self.now.banks = c.deref_mut-2.ensures.value ∙ ap (λ (s : State). s.banks) c.self.view_is in
    subst (λ (l : List Bank). HasSizeOf (bank_at l m) (bank_at c.args.self.now.banks m)) (sym own) (subst (λ (l : List Bank). HasSizeOf (bank_at c.put_banks.new.old m) (bank_at l m)) old (c.put_banks.ensures.sizes m))
