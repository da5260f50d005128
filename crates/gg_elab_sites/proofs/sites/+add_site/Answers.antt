use Rattle.std.proofs.Common.{◌≡◌, ◌-◌, ◌<◌, List, [], ◌∷◌, ◌++◌, map, take, length, ◌∙◌, ap, sym, subst, arith}
use Rattle.std.specs.Prelude.{All}
use Rattle.std.proofs.lemmas.List.{map-append, take_all, append-nil}
use Rattle.std.proofs.lemmas.List.Elements.{All-push}
use Rattle.gg_elab_sites.specs.Sites.{Held, Site, site_below, sites, held_at}
use Rattle.gg_elab_sites.specs.inside.Views.{IsPlaceIn, site_of, held_of}
use Rattle.gg_elab_sites.specs.Known.{types_of}
use Rattle.gg_elab_sites.specs.declared.digest.Digest.{Digest}
use Rattle.gg_elab_sites.specs.declared.sites.Place.{Place}
use Rattle.gg_elab_sites.proofs.FlatLemmas.{digest-at}
use Rattle.gg_elab_sites.proofs.SiteLemmas.{Grown, grown-more, grown-all, next-site, next-place, held-below, around-below, held-more}
use Rattle.gg_elab_sites.proofs.sites.+add_site.Goals as goal

pub loop-instance-init : goal.loop-instance-init
loop-instance-init t c =
    let old = c.args.places.now.items in
    let here = c.args.here in
    let items : c.push_reserved.new.self.items ≡ old ++ here ∷ [] = cc in (
      record { is = ap (map site_of) items ∙ map-append site_of old (here ∷ []) ∙ sym (append-nil (map site_of old ++ site_of here ∷ [])) },
      λ h. subst (λ (l : List Place). All (IsPlaceIn c.args.typed.now.circuit.modules) l) (sym items) (All-push (IsPlaceIn c.args.typed.now.circuit.modules) old here h c.requires.number),
    )

pub below-requires : goal.below-requires
below-requires t c =
    let modules = c.args.typed.now.circuit.modules in
    let types = types_of c.args.typed.now.circuit in
    let here = c.args.here in
    let x = c.instance-item.result in
    let a = c.in_ok-above.ensures in
    let d = digest-at types modules c.args.digests.now here.number c.index-digests-number.result c.requires.digests c.requires.number.own c.index-digests-number.is in
    let instances : map held_of c.as_slice-instances.result.now ≡ held_at modules here.number =
    ap (map held_of) (c.as_slice-instances.ensures.value ∙ ap (λ (y : Digest). y.instances.items) (sym c.index-digests-number.is)) ∙ d.instances in
    record {
      digests = c.requires.digests;
      number = omega (arith, a.number, c.requires.number.own);
      instance = held-below modules here.number c.as_slice-instances.result.now c.loop-instance.instance-index x instances (omega arith) c.instance-item.is;
      depth = omega (arith, a.depth, c.requires.depth);
    }

pub add_site-requires : goal.add_site-requires
add_site-requires t c =
    let modules = c.args.typed.now.circuit.modules in
    let types = types_of c.args.typed.now.circuit in
    let here = c.args.here in
    let x = c.instance-item.result in
    let next = c.in_ok-next.next in
    let a = c.in_ok-above.ensures in
    let d = digest-at types modules c.args.digests.now here.number c.index-digests-number.result c.requires.digests c.requires.number.own c.index-digests-number.is in
    let instances : map held_of c.as_slice-instances.result.now ≡ held_at modules here.number =
    ap (map held_of) (c.as_slice-instances.ensures.value ∙ ap (λ (y : Digest). y.instances.items) (sym c.index-digests-number.is)) ∙ d.instances in
    let below : x.number < length modules = held-below modules here.number c.as_slice-instances.result.now c.loop-instance.instance-index x instances (omega arith) c.instance-item.is in
    let site : site_of next ≡ site_below (site_of here) (held_of x) = next-site here c.in_ok-above.above (held_of x) (site_of next) a c.in_ok-next.ensures.site in
    let clocked = next-place modules here next c.in_ok-above.above (held_of x) c.requires.number a site c.in_ok-next.ensures.own_clocks c.in_ok-next.ensures.clocks in (
      omega arith,
      (
        c.requires.digests,
        (
          record {
            own = omega (arith, below, c.in_ok-next.ensures.number);
            around = around-below next.outer c.in_ok-above.above.number (length modules) c.in_ok-next.ensures.around (omega (arith, a.number, c.requires.number.own));
            followed = clocked.0;
            led = clocked.1;
          },
          omega (arith, c.in_ok-next.ensures.depth, a.depth, c.requires.depth),
        ),
      ),
    )

pub loop-instance-preserved : goal.loop-instance-preserved
loop-instance-preserved t c =
    let modules = c.args.typed.now.circuit.modules in
    let here = c.args.here in
    let x = c.instance-item.result in
    let items = c.as_slice-instances.result.now in
    let i = c.loop-instance.instance-index in
    let levels = c.args.levels in
    let site : site_of c.in_ok-next.next ≡ site_below (site_of here) (held_of x) = next-site here c.in_ok-above.above (held_of x) (site_of c.in_ok-next.next) c.in_ok-above.ensures c.in_ok-next.ensures.site in (
      subst (λ (hs : List Held). Grown modules levels (site_of here) (map site_of c.args.places.now.items) hs (map site_of c.add_site.new.places.items)) (sym (held-more items i x (omega arith) c.instance-item.is))
          (grown-more modules levels (site_of here) (map site_of c.args.places.now.items) (map held_of (take i items)) (held_of x) (map site_of c.loop-instance.places.items) (map site_of c.add_site.new.places.items) c.loop-instance.invariant.0
          (c.in_ok-add_site.ensures.sites ∙ ap (λ (s : Site). map site_of c.loop-instance.places.items ++ sites (levels - 1) modules s) site)),
      λ h. c.in_ok-add_site.ensures.within (c.loop-instance.invariant.1 h),
    )

pub returns-clause-within : goal.returns-clause-within
returns-clause-within t c = c.loop-instance.invariant.1

pub returns-clause-sites : goal.returns-clause-sites
returns-clause-sites t c =
    let modules = c.args.typed.now.circuit.modules in
    let types = types_of c.args.typed.now.circuit in
    let here = c.args.here in
    let items = c.as_slice-instances.result.now in
    let d = digest-at types modules c.args.digests.now here.number c.index-digests-number.result c.requires.digests c.requires.number.own c.index-digests-number.is in
    let all : map held_of (take c.loop-instance.instance-index items) ≡ held_at modules here.number =
    ap (map held_of) (take_all c.loop-instance.instance-index items (omega arith) ∙ c.as_slice-instances.ensures.value ∙ ap (λ (y : Digest). y.instances.items) (sym c.index-digests-number.is)) ∙ d.instances in
    grown-all modules c.args.levels (site_of here) (map site_of c.args.places.now.items) (map site_of c.loop-instance.places.items) (omega arith)
    (subst (λ (hs : List Held). Grown modules c.args.levels (site_of here) (map site_of c.args.places.now.items) hs (map site_of c.loop-instance.places.items)) all c.loop-instance.invariant.0)
