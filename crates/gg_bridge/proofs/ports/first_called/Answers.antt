use Rattle.std.proofs.Common.{sym, ◌∙◌, ap, ap₂}
use Rattle.gg_bridge.specs.inside.Ports.{earlier, picked}
use Rattle.gg_bridge.proofs.CalledLemmas.{first-is, place-by, place_called}
use Rattle.gg_bridge.proofs.ports.first_called.Goals as goal

pub returns : goal.returns
returns c =
    let circuit = c.args.piece.now in
    let signals = c.args.signals.now in
    let own = c.place_by-own.ensures ∙ place-by circuit c.args.name.now c.args.places.now signals c.find.result c.requires.distinct c.requires.places c.find.ensures.found c.find.ensures.missing in
    let piped = c.place_by-piped.ensures ∙ place-by circuit c.args.pipe.now c.args.places.now signals c.find-2.result c.requires.distinct c.requires.places c.find-2.ensures.found c.find-2.ensures.missing ∙ ap (λ path. place_called circuit path signals) c.requires.pipe in
    c.picked.ensures ∙ ap (picked signals) (c.earlier.ensures ∙ ap₂ earlier own piped) ∙ sym (first-is circuit c.args.name.now signals)
