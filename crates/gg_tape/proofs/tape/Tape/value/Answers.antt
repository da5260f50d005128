use Rattle.std.proofs.Common.{◌≡◌, List, get_or, sym, ◌∙◌, ap, ap₂, subst}
use Rattle.std.proofs.lemmas.List.{get_or_default}
use Rattle.gg_bits.specs.Shape.{Fits}
use Rattle.gg_flat.specs.Line.{shape_at, value_at}
use Rattle.gg_flat.specs.Circuit.{signal_shapes}
use Rattle.gg_flat.specs.Memory.{Bank, bank_at, read_word}
use Rattle.gg_tape.specs.inside.Tape.{signals_of}
use Rattle.gg_tape.proofs.TapeLemmas.{taped-at, signal-gives, memory-gives}
use Rattle.gg_tape.proofs.tape.Tape.value.Goals as goal

pub returns-in-FromSignal-clause-value : goal.returns-in-FromSignal-clause-value
returns-in-FromSignal-clause-value c =
    let from = taped-at c.args._piece.now c.args.self.now c.args.place c.index.result.now c.requires.tape c.requires.place c.index.ensures in
    let gives = signal-gives c.args.state.now c.args.inputs.now c.args.cells.now.values _ _ _ _ _ c.in-FromSignal.signal from c.requires.source c.in-FromSignal.is in
    c.value.ensures ∙ gives.1.value_is

pub returns-in-FromSignal-clause-fits : goal.returns-in-FromSignal-clause-fits
returns-in-FromSignal-clause-fits c =
    let from = taped-at c.args._piece.now c.args.self.now c.args.place c.index.result.now c.requires.tape c.requires.place c.index.ensures in
    let gives = signal-gives c.args.state.now c.args.inputs.now c.args.cells.now.values _ _ _ _ _ c.in-FromSignal.signal from c.requires.source c.in-FromSignal.is in
    subst (Fits (shape_at (signal_shapes c.args._piece.now) (value_at (signals_of c.args.self.now) c.args.place))) (sym c.value.ensures) gives.1.fits

pub returns-in-FromMemory-clause-fits : goal.returns-in-FromMemory-clause-fits
returns-in-FromMemory-clause-fits c =
    let values = c.args.cells.now.values in
    let memory = c.in-FromMemory.memory in
    let addr = c.in-FromMemory.addr in
    let en = c.in-FromMemory.en in
    let banks = c.args.state.now.banks in
    let bank = c.index-banks-memory.result in
    let from = taped-at c.args._piece.now c.args.self.now c.args.place c.index.result.now c.requires.tape c.requires.place c.index.ensures in
    let word = memory-gives c.args.state.now c.args.inputs.now values _ _ _ _ _ memory addr en from c.requires.source c.in-FromMemory.is in
    let same : bank ≡ bank_at banks memory =
    c.index-banks-memory.is ∙ ap (λ (xs : List Bank). get_or xs memory bank) c.banks.ensures ∙ get_or_default banks memory bank _ word.memory_known in
    let is : c.word.result ≡ read_word (bank_at banks memory).words (value_at values addr) (value_at values en) =
    c.word.ensures
    ∙ ap (λ (b : Bank). read_word b.words c.value-addr.result c.value-en.result) same
    ∙ ap₂ (read_word (bank_at banks memory).words) c.value-addr.ensures c.value-en.ensures in
    subst (Fits (shape_at (signal_shapes c.args._piece.now) (value_at (signals_of c.args.self.now) c.args.place))) (sym is) word.gives.fits
