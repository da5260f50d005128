use Rattle.std.proofs.Common.{◌∷◌, ◌++◌, [], get_or, ◌∙◌, ap, ap₂}
use Rattle.gg_flat.specs.declared.piece.Signal.{Signal}
use Rattle.gg_flat.specs.Circuit.{FlatCircuit}
use Rattle.std.proofs.lemmas.List.{get_or_default}
use Rattle.gg_cut_parts.proofs.moved_piece.add_signal.Goals as goal

pub returns-in-Ok : goal.returns-in-Ok
returns-in-Ok c = λ any.
    let old = c.args.piece.now in
    let signals = c.args.other.now.signals in
    let place = c.args.place in
    let is = c.in_ok-own.ensures.cases ∙ c.index-signals-place.is ∙ ap (λ l. get_or l place c.index-signals-place.result) c.signals.ensures ∙ get_or_default signals place c.index-signals-place.result any c.requires.place in
    c.in-Ok.ensures.ok
    ∙ ap₂ (λ path (own : Signal). let d : FlatCircuit = record old { paths = old.paths ++ path ∷ []; signals = old.signals ++ own ∷ [] } in d) c.in_ok-path.ensures is
