use Rattle.std.proofs.Common.{◌≡◌, List, [], ◌∷◌, ◌++◌, ap, ◌∙◌, rules, true, Some, None, if◌then◌else◌, ℕ}
use Rattle.std.specs.Str.{bytes_eq}
use Rattle.std.specs.Prelude.{is_some}
use Rattle.gg_ast.specs.Places.{place_of}
use Rattle.gg_elab_sites.specs.declared.connections.Source.{Source}
use Rattle.gg_bits.specs.Lists.{or_else}
use Rattle.gg_elab_sites.specs.inside.Views.{connection, source_at}
use Rattle.gg_elab_sites.proofs.ConnectionLemmas.{noted, noted-again, found-there}
use Rattle.gg_elab_sites.proofs.connections.note_sink.Goals as goal

pub returns-in-Ok-clause-noted : goal.returns-in-Ok-clause-noted
returns-in-Ok-clause-noted c = λ q.
    let names = c.args.sinks.now.names in
    let sources = c.args.sinks.now.sources.items in
    let more : c.push_reserved.new.self.items ≡ sources ++ c.args.source ∷ [] = cc in
    let named : c.add.new.self ≡ names ++ c.in_ok-name.name ∷ [] = c.in-Ok.ensures.ok in
    ap (λ (l : List Source). source_at l (place_of q c.add.new.self)) more
    ∙ ap (λ (l : List (List ℕ)). source_at (sources ++ c.args.source ∷ []) (place_of q l)) named
    ∙ noted names sources c.in_ok-name.name c.args.source c.requires q
    ∙ ap (λ (n : List ℕ). or_else (source_at sources (place_of q names)) (if bytes_eq q n then Some (connection c.args.source) else None)) c.in_ok-name.ensures

pub returns-then-is_some-clause-noted : goal.returns-then-is_some-clause-noted
returns-then-is_some-clause-noted c = λ q.
    let names = c.args.sinks.now.names in
    let sources = c.args.sinks.now.sources.items in
    let found : is_some c.find.result ≡ true = search rules in
    noted-again names sources c.in_ok-name.name (connection c.args.source) c.requires (found-there names c.in_ok-name.name c.find.result c.find.ensures.found found) q
    ∙ ap (λ (n : List ℕ). or_else (source_at sources (place_of q names)) (if bytes_eq q n then Some (connection c.args.source) else None)) c.in_ok-name.ensures
