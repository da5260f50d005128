use Rattle.gg_cut_pipes.specs.declared.tables.Tables.{Tables}
use Rattle.std.proofs.Common.{refl, ◌≡◌, ◌<◌, ◌+◌, ℕ, List, length, take, get_or, ◌∙◌, ap, ap₂, arith}
use Rattle.gg_flat.specs.declared.piece.Register.{Register}
use Rattle.gg_flat.specs.Line.{value_at}
use Rattle.gg_bits.specs.Lists.{by_number}
use Rattle.gg_cut_pipes.specs.inside.Tables.{seen_in}
use Rattle.gg_cut_pipes.proofs.BuildLemmas.{number-more, registers-grow}
use Rattle.gg_flat.specs.Renaming.{renamed_register, signals_by}
use Rattle.gg_cut_pipes.proofs.made.add_registers.Goals as goal

pub loop-place-preserved : goal.loop-place-preserved
loop-place-preserved c =
    let one = c.args.one.now in
    let tables = c.args.tables.now in
    let k = c.loop-place.place in
    let own = c.index-registers-place.result in
    let lt : k < length one.registers = (let low = c.loop-place-test.true in let same = ap length c.registers-place-end.ensures in omega (arith, low, same)) in
    let f = λ (r : ℕ) (register : Register). renamed_register (signals_by (seen_in tables (value_at tables.holders r))) register in
    let read : own ≡ get_or one.registers k own = c.index-registers-place.is ∙ ap (λ (l : List Register). get_or l k own) c.registers.ensures in
    registers-grow c.args.piece.now c.loop-place.piece c.add_register.new.self (by_number f 0 (take k one.registers)) (by_number f 0 (take (k + 1) one.registers)) c.in_ok-register.register (f k (get_or one.registers k own))
    c.in_ok-add_register.ensures.ok c.loop-place.invariant
    (c.in_ok-register.ensures ∙ ap₂ (λ (t : Tables) (register : Register). renamed_register (signals_by (seen_in t c.by.result.machine)) register) c.by.ensures.tables refl
    ∙ ap₂ (λ m (register : Register). renamed_register (signals_by (seen_in tables m)) register) (c.by.ensures.machine ∙ c.number_at-machine.ensures ∙ ap (λ (l : List ℕ). value_at l k) c.as_slice.ensures) read)
    (number-more f one.registers k own lt)
