use Rattle.std.proofs.Common.{◌≡◌, ℕ, ◌+◌, List, ◌++◌, map, take, subst, sym, ap, ◌∙◌, arith}
use Rattle.std.proofs.lemmas.List.{map-append}
use Rattle.gg_elab_sites.specs.Known.{types_of}
use Rattle.gg_elab_sites.specs.Flat.{FlatSignal, signals_at, flat_signals}
use Rattle.gg_elab_sites.specs.inside.Views.{site_of}
use Rattle.gg_elab_sites.proofs.FlatLemmas.{one_more}
use Rattle.gg_elab_sites.proofs.FreshLemmas.{parts-front}
use Rattle.gg_elab_sites.proofs.NameLemmas.{Differ}
use Rattle.gg_elab.proofs.build.add_sites.Goals as goal

pub add_site-requires : goal.add_site-requires
add_site-requires c =
    let modules = c.args.typed.now.circuit.modules in
    let types = types_of c.args.typed.now.circuit in
    let places = c.args.places.now in
    let i = c.loop-place.place-index in
    let p = c.place-item.result in
    let more : map (λ (x : FlatSignal). x.path) (flat_signals types modules (map site_of (take (i + 1) places))) ≡ c.loop-place.piece.paths ++ map (λ (x : FlatSignal). x.path) (signals_at types modules (site_of p)) =
    ap (λ (l : List FlatSignal). map (λ (x : FlatSignal). x.path) l) (one_more (signals_at types modules) places i p (omega arith) c.place-item.is)
    ∙ map-append (λ (x : FlatSignal). x.path) (flat_signals types modules (map site_of (take i places))) (signals_at types modules (site_of p))
    ∙ ap (λ (l : List (List ℕ)). l ++ map (λ (x : FlatSignal). x.path) (signals_at types modules (site_of p))) (sym c.loop-place.invariant.paths) in
    subst Differ more (parts-front (λ (x : FlatSignal). x.path) (signals_at types modules) site_of places (i + 1) c.requires.distinct)
