use Rattle.std.proofs.Common.{length, ap, sym, ◌∙◌, refl, arith}
use Rattle.std.specs.Prelude.{option_map}
use Rattle.std.proofs.lemmas.Option.{slice_get_read}
use Rattle.gg_elab_sites.specs.inside.Views.{connection, source_at}
use Rattle.gg_elab_sites.proofs.NameLemmas.{slice_get-at, place_of-at, place_of-missing}
use Rattle.gg_elab_sites.proofs.connections.Sinks.source.Goals as goal

pub returns-in-Some : goal.returns-in-Some
returns-in-Some c =
    let names = c.args.self.now.names in
    let sources = c.args.self.now.sources.items in
    let at = slice_get-at names c.args.name.now c.in-Some.place c.in-Some.ensures.found in
    sym (ap (source_at sources) (place_of-at names c.args.name.now c.in-Some.place c.in-Some.ensures.found c.len.ensures.distinct)
    ∙ ap (option_map connection) (slice_get_read sources (length sources) c.in-Some.place c.index.result.now refl (omega (arith, at.0, c.requires)) c.index.ensures))

pub returns-in-None : goal.returns-in-None
returns-in-None c = sym (ap (source_at c.args.self.now.sources.items) (place_of-missing c.args.self.now.names c.args.name.now c.in-None.ensures.missing))
