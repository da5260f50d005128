use Rattle.std.proofs.Common.{◌<◌, length, sym, ap, subst, arith}
use Rattle.std.specs.Prelude.{All}
use Rattle.std.proofs.lemmas.List.Elements.{All-from_get_or}
use Rattle.gg_part.proofs.FrameLemmas.{length-once, held-within, ins-within}
use Rattle.gg_part.proofs.frame.frame_of.Goals as goal

pub of-requires-clause-below : goal.of-requires-clause-below
of-requires-clause-below c =
    let chosen = c.requires.chosen in
    subst (λ n. All (λ s. s < n) c.args.ins.now) (sym c.signal_count-signals.ensures.count) (ins-within c.args.globals.now c.args.ins.now (length c.args.whole.now.signals) chosen.within chosen.ins)

pub of-requires-clause-few : goal.of-requires-clause-few
of-requires-clause-few c =
    let chosen = c.requires.chosen in
    omega (arith, c.signal_count-signals.ensures.few, length-once c.args.ins.now (length c.args.whole.now.signals) chosen.ins_once (ins-within c.args.globals.now c.args.ins.now (length c.args.whole.now.signals) chosen.within chosen.ins))

pub of-requires-2-clause-below : goal.of-requires-2-clause-below
of-requires-2-clause-below c =
    let held = c.in_ok-held.ensures.held in
    subst (λ n. All (λ r. r < n) c.as_slice.result.now) (sym (ap length c.registers.ensures))
    (subst (λ xs. All (λ r. r < length c.args.whole.now.registers) xs) (sym c.as_slice.ensures.value)
    (held-within c.args.whole.now c.args.globals.now c.in_ok-ins.ins c.in_ok-held.held.items c.requires.formed c.requires.chosen.within held))

pub of-requires-2-clause-few : goal.of-requires-2-clause-few
of-requires-2-clause-few c =
    let chosen = c.requires.chosen in
    omega (arith, c.as_slice.ensures.len, c.in_ok-held.ensures.few, c.signal_count-signals.ensures.few, length-once c.args.globals.now (length c.args.whole.now.signals) chosen.once chosen.within)

pub of-requires-3-clause-few : goal.of-requires-3-clause-few
of-requires-3-clause-few c =
    let chosen = c.requires.chosen in
    omega (arith, c.signal_count-signals.ensures.few, length-once c.args.globals.now (length c.args.whole.now.signals) chosen.once chosen.within)

pub of-requires-4-clause-few : goal.of-requires-4-clause-few
of-requires-4-clause-few c =
    length-once c.args.memories.now 4294967296 c.requires.chosen.memories_once (All-from_get_or (λ m. m < 4294967296) c.args.memories.now 0 (λ i lt. (c.type_inv.memories i).fits))
