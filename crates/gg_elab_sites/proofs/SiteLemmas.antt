-- The list of sites while it is made.
use Rattle.std.proofs.Common.{◌≡◌, ℕ, zero, suc, ◌+◌, ◌-◌, ◌<◌, List, [], ◌∷◌, ◌++◌, length, map, take, get_or, Option, Some, None, sym, ap, ◌∙◌, subst, arith, append_assoc}
use Rattle.std.specs.Prelude.{flat_map, Contains, IfSome}
use Rattle.std.proofs.lemmas.List.{flat_map_more, map-append, take_more, length-map, get_or-map}
use Rattle.gg_ast.specs.Tree.{ModuleTree}
use Rattle.gg_elab_sites.specs.Sites.{Held, Site, site_below, sites, held_at, module_at}
use Rattle.gg_elab_sites.proofs.CountLemmas.{held_by-below}
use Rattle.gg_elab_sites.proofs.PassLemmas.{numbers_of}
use Rattle.gg_flat_tree.specs.Clocked.{clock_at}
use Rattle.gg_flat_tree.specs.Tree.{joined}
use Rattle.gg_elab_sites.specs.declared.digest.Instance.{Instance}
use Rattle.gg_elab_sites.specs.declared.sites.Around.{Around}
use Rattle.gg_elab_sites.specs.declared.sites.Above.{Above}
use Rattle.gg_elab_sites.specs.declared.sites.Place.{Place}
use Rattle.gg_elab_sites.specs.Clocks.{clocks_given, own_clocks, site_clocks}
use Rattle.gg_elab_sites.specs.inside.Views.{held_of, site_of, step_of, IsAbove, IsPlaceIn}

-- The list has the sites before, then the site `here`, then those of some of the instances that it holds, down to so many levels.
pub record Grown (modules : List ModuleTree) (levels : ℕ) (here : Site) (before : List Site) (hs : List Held) (all : List Site) : Type 0 where
  pub is : all ≡ (before ++ here ∷ []) ++ flat_map (λ h. sites (levels - 1) modules (site_below here h)) hs

pub grown-more : (modules : List ModuleTree) (levels : ℕ) (here : Site) (before : List Site) (hs : List Held) (h : Held) (all new : List Site) → Grown modules levels here before hs all → new ≡ all ++ sites (levels - 1) modules (site_below here h) → Grown modules levels here before (hs ++ h ∷ []) new
grown-more modules levels here before hs h all new g is = record {
  is = is ∙ ap (λ (l : List Site). l ++ sites (levels - 1) modules (site_below here h)) g.is
      ∙ flat_map_more (λ h. sites (levels - 1) modules (site_below here h)) (before ++ here ∷ []) hs h;
}

-- with all instances of the site, the list has the sites before and the site with all below it
pub grown-all : (modules : List ModuleTree) (levels : ℕ) (here : Site) (before all : List Site) → 0 < levels → Grown modules levels here before (held_at modules here.number) all → all ≡ before ++ sites levels modules here
grown-all modules zero here before all some g = absurd (omega arith)
grown-all modules (suc levels) here before all some g =
    g.is
    ∙ ap (λ n. (before ++ here ∷ []) ++ flat_map (λ h. sites n modules (site_below here h)) (held_at modules here.number)) (omega arith)
    ∙ append_assoc before (here ∷ []) (flat_map (λ h. sites levels modules (site_below here h)) (held_at modules here.number))

-- ---- an instance of a site

-- an instance of a site, by what is needed of the site
pub next-site : (place : Place) (above : Above) (h : Held) (s : Site) → IsAbove place above
    → s ≡ record { path = joined above.path h.name; number = h.number; depth = above.depth + 1; outer = Some (record { path = above.path; number = above.number; name = h.name }); steps = record { number = above.number; name = h.name } ∷ map step_of above.steps.items }
    → s ≡ site_below (site_of place) h
next-site place above h s a e =
    let d : above.depth + 1 ≡ suc place.depth = omega (arith, a.depth) in
    e ∙ (λ i. record { path = joined (a.path i) h.name; number = h.number; depth = d i; outer = Some (record { path = a.path i; number = a.number i; name = h.name }); steps = record { number = a.number i; name = h.name } ∷ a.steps i })

-- its Clock inputs follow what they do
pub next-place : (modules : List ModuleTree) (place next : Place) (above : Above) (h : Held) → IsPlaceIn modules place → IsAbove place above → site_of next ≡ site_below (site_of place) h
    → next.own_clocks.items ≡ clocks_given (module_at modules above.number) h.name (module_at modules h.number) → next.clocks.items ≡ map (clock_at above.clocks.items) next.own_clocks.items
    → (next.own_clocks.items ≡ own_clocks modules (site_of next)) × (next.clocks.items ≡ site_clocks modules (site_of next))
next-place modules place next above h in_place a is own led =
    let followed : next.own_clocks.items ≡ clocks_given (module_at modules place.number) h.name (module_at modules h.number) = own ∙ ap (λ n. clocks_given (module_at modules n) h.name (module_at modules h.number)) a.number in (
      followed ∙ ap (own_clocks modules) (sym is),
      led ∙ ap (λ l. map (clock_at l) next.own_clocks.items) (a.clocks ∙ in_place.led) ∙ ap (map (clock_at (site_clocks modules (site_of place)))) followed ∙ ap (site_clocks modules) (sym is),
    )

-- the module of an instance is one of the circuit's
pub held-below : (modules : List ModuleTree) (k : ℕ) (items : List Instance) (i : ℕ) (x : Instance) → map held_of items ≡ held_at modules k → i < length items → x ≡ get_or items i x → x.number < length modules
held-below modules k items i x same lt is =
    held_by-below modules (module_at modules k).statements x.number
    (subst (λ (hs : List Held). Contains (numbers_of hs) x.number) same (
      i,
      omega (arith, lt, length-map items held_of, length-map (map held_of items) (λ (h : Held). h.number)),
      get_or-map (λ (h : Held). h.number) (map held_of items) i (held_of x) x.number (omega (arith, lt, length-map items held_of))
          ∙ ap (λ (h : Held). h.number) (get_or-map held_of items i x (held_of x) lt)
          ∙ ap (λ (y : Instance). y.number) (sym is),
    ))

pub around-below : (o : Option Around) (k n : ℕ) → IfSome o (λ a. a.number ≡ k) → k < n → IfSome o (λ a. a.number < n)
around-below None k n h lt = tt
around-below (Some a) k n h lt = omega (arith, h, lt)

pub held-more : (items : List Instance) (i : ℕ) (x : Instance) → i < length items → x ≡ get_or items i x → map held_of (take (i + 1) items) ≡ map held_of (take i items) ++ held_of x ∷ []
held-more items i x lt is =
    ap (map held_of) (take_more items i x lt ∙ ap (λ y. take i items ++ y ∷ []) (sym is)) ∙ map-append held_of (take i items) (x ∷ [])
