use Rattle.std.proofs.Common.{◌≡◌, ℕ, List, [], ◌∷◌, ◌++◌, take, map, ◌∙◌, ap, sym, subst, arith}
use Rattle.std.specs.Prelude.{Contains}
use Rattle.std.proofs.lemmas.List.{append-nil, take_all}
use Rattle.std.proofs.lemmas.Simd.{map-map}
use Rattle.gg_flat_tree.specs.Tree.{joined}
use Rattle.gg_elab.specs.inside.Building.{IsSoFarAt}
use Rattle.gg_elab_sites.specs.Flat.{FlatSignal, flat_signal, signals_at}
use Rattle.gg_elab_sites.specs.inside.Views.{own_of, site_of}
use Rattle.gg_elab_sites.specs.Known.{types_of}
use Rattle.gg_elab_sites.specs.declared.digest.Digest.{Digest}
use Rattle.gg_elab_sites.specs.declared.own.OwnSignal.{OwnSignal}
use Rattle.gg_elab_sites.proofs.FlatLemmas.{seam, signals-kept, digest-at}
use Rattle.gg_elab_sites.proofs.FreshLemmas.{next-new}
use Rattle.gg_elab_sites.proofs.NameLemmas.{Differ}
use Rattle.gg_elab.proofs.build.add_site.Goals as goal

pub loop-signal-init : goal.loop-signal-init
loop-signal-init c = (
  sym (append-nil c.args.piece.now.paths),
  λ xs h. subst (λ (l : List FlatSignal). IsSoFarAt c.args.site.now l c.args.piece.now c.args.inputs) (sym (append-nil xs)) h,
)

pub loop-signal-preserved : goal.loop-signal-preserved
loop-signal-preserved c = (
  c.in_ok-inputs.ensures.paths
      ∙ ap (λ l. l ++ joined c.args.site.now.place.now.path c.signal-item.result.name ∷ []) c.loop-signal.invariant.0
      ∙ seam (λ (o : OwnSignal). joined c.args.site.now.place.now.path o.name) c.args.piece.now.paths c.as_slice-signals.result.now c.loop-signal.signal-index c.signal-item.result (omega arith) c.signal-item.is,
  λ xs h.
      let f = λ (o : OwnSignal). flat_signal c.args.site.now.typed.now.circuit.modules (site_of c.args.site.now.place.now) (own_of o) in
      subst (λ (l : List FlatSignal). IsSoFarAt c.args.site.now l c.add_signal.new.piece c.in_ok-inputs.inputs) (seam f xs c.as_slice-signals.result.now c.loop-signal.signal-index c.signal-item.result (omega arith) c.signal-item.is)
      (c.in_ok-inputs.ensures.so_far (xs ++ map f (take c.loop-signal.signal-index c.as_slice-signals.result.now)) (c.loop-signal.invariant.1 xs h)),
)

pub add_signal-requires : goal.add_signal-requires
add_signal-requires c = λ h.
    let modules = c.args.site.now.typed.now.circuit.modules in
    let types = types_of c.args.site.now.typed.now.circuit in
    let place = c.args.site.now.place.now in
    let items = c.as_slice-signals.result.now in
    let digest = c.index-site-site.result in
    let d = digest-at types modules c.args.site.now.digests.now place.number digest c.args.site.now.told c.args.site.now.within.own c.index-site-site.is in
    let all : map (λ (x : FlatSignal). x.path) (signals_at types modules (site_of place)) ≡ map (λ (o : OwnSignal). joined place.path o.name) items =
    ap (map (λ (x : FlatSignal). x.path)) (signals-kept types modules place digest d)
    ∙ map-map (λ (x : FlatSignal). x.path) (λ (o : OwnSignal). flat_signal modules (site_of place) (own_of o)) digest.signals.items
    ∙ ap (λ (l : List OwnSignal). map (λ o. joined place.path o.name) l) (sym (c.as_slice-signals.ensures.value ∙ ap (λ (x : Digest). x.signals.items) (sym c.index-site-site.is))) in
    next-new (λ (o : OwnSignal). joined place.path o.name) c.args.piece.now.paths items c.loop-signal.signal-index c.signal-item.result
    (subst (λ (l : List (List ℕ)). Differ (c.args.piece.now.paths ++ l)) all c.requires) (omega arith) c.signal-item.is
    (subst (λ (l : List (List ℕ)). Contains l (joined place.path c.signal-item.result.name)) c.loop-signal.invariant.0 h)

pub returns : goal.returns
returns c = λ xs h.
    let modules = c.args.site.now.typed.now.circuit.modules in
    let types = types_of c.args.site.now.typed.now.circuit in
    let place = c.args.site.now.place.now in
    let items = c.as_slice-signals.result.now in
    let digest = c.index-site-site.result in
    let f = λ (o : OwnSignal). flat_signal modules (site_of place) (own_of o) in
    let d = digest-at types modules c.args.site.now.digests.now place.number digest c.args.site.now.told c.args.site.now.within.own c.index-site-site.is in
    let all : map f (take c.loop-signal.signal-index items) ≡ signals_at types modules (site_of place) =
    ap (map f) (take_all c.loop-signal.signal-index items (omega arith) ∙ c.as_slice-signals.ensures.value ∙ ap (λ (x : Digest). x.signals.items) (sym c.index-site-site.is)) ∙ sym (signals-kept types modules place digest d) in
    subst (λ (l : List FlatSignal). IsSoFarAt c.args.site.now (xs ++ l) c.loop-signal.piece c.loop-signal.inputs) all (c.loop-signal.invariant.1 xs h)
