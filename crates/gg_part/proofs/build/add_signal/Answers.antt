use Rattle.std.proofs.Common.{◌<◌, [], ◌∷◌, ◌++◌, length, get_or, ◌∙◌, ap}
use Rattle.std.proofs.lemmas.List.Elements.{All-contains}
use Rattle.gg_flat.specs.declared.piece.Signal.{Signal}
use Rattle.gg_flat.specs.Circuit.{FlatCircuit}
use Rattle.gg_part.proofs.BuildLemmas.{shape-read}
use Rattle.gg_part.proofs.build.add_signal.Goals as goal

pub returns-in-Ok : goal.returns-in-Ok
returns-in-Ok c =
    let whole = c.args.whole.now in
    let old = c.args.piece.now in
    let own : Signal = record { ty = (get_or c.signals.result.now c.args.signal c.index-signals-signal.result).ty; driver = c.in_ok-driver.driver } in
    let known = All-contains (λ s. s < length whole.signals) c.args.frame.now.globals c.args.signal c.requires.chosen.within c.requires.signal in
    record {
      own = own;
      is = c.in-Ok.ensures.ok ∙ ap (λ path. let d : FlatCircuit = record old { paths = old.paths ++ path ∷ []; signals = old.signals ++ own ∷ [] } in d) c.in_ok-path.ensures;
      typed = shape-read whole c.args.signal c.index-signals-signal.result c.signals.result.now c.signals.ensures known;
      driven = c.in_ok-driver.ensures;
    }
