-- What the sites have of their own is listed site by site: the ranges of a tree's instances, and which of it is an instance's own.
use Rattle.std.proofs.Common.{◌≡◌, ℕ, zero, suc, ◌+◌, ◌-◌, ◌<◌, ◌≤◌, ◌⊎◌, inl, inr, List, [], ◌∷◌, ◌++◌, Some, length, take, drop, get_or, refl, sym, ap, ◌∙◌, arith, length-append, length-drop, get_or-drop, take-add, take_all}
use Rattle.std.specs.Prelude.{flat_map}
use Rattle.std.proofs.lemmas.Bool.{cases_lt}
use Rattle.std.proofs.lemmas.Grind.{flat_map-append}
use Rattle.std.proofs.Math.Seq.{take-append_seam}
use Rattle.gg_ast.specs.Tree.{ModuleTree}
use Rattle.gg_flat_tree.specs.Tree.{InstanceTree, instance_at, Holds, IsInnermost}
use Rattle.gg_elab_sites.specs.Sites.{Site, site_below, sites}
use Rattle.gg_elab_tree.proofs.PlaceLemmas.{within, within-some, Placed, Under, HeldFrom, held_from}

-- how many elements the sites before a place have
abbrev pub count_to : {X : Type 0} → (Site → List X) → List Site → ℕ → ℕ
count_to f all k = length (flat_map f (take k all))

-- ---- counts

count-add : {X : Type 0} (f : Site → List X) (all : List Site) (a b : ℕ) → count_to f all (a + b) ≡ count_to f all a + length (flat_map f (take b (drop a all)))
count-add f all a b =
    ap (λ l. length (flat_map f l)) (take-add a b all)
    ∙ ap (λ l. length l) (flat_map-append f (take a all) (take b (drop a all)))
    ∙ length-append (flat_map f (take a all)) (flat_map f (take b (drop a all)))

pub count-le : {X : Type 0} (f : Site → List X) (all : List Site) (a b : ℕ) → a ≤ b → count_to f all a ≤ count_to f all b
count-le f all a b le =
    let split : count_to f all b ≡ count_to f all (a + (b - a)) = ap (count_to f all) (omega (arith, le)) in
    omega (arith, split, count-add f all a (b - a))

-- The site that has the element at place s, with the site's own place.
pub record Owner {X : Type 0} (f : Site → List X) (all : List Site) (s : ℕ) : Type 0 where
  pub place : ℕ
  pub known : place < length all
  pub from : count_to f all place ≤ s
  pub to : s < count_to f all (suc place)

pub owner : {X : Type 0} (f : Site → List X) (all : List Site) (s : ℕ) → s < length (flat_map f all) → Owner f all s
owner f [] s lt = absurd (omega (arith, lt))
owner f (x ∷ xs) s lt = go (cases_lt s (length (f x))) (owner f xs (s - length (f x)))
  where
    sum : length (f x ++ flat_map f xs) ≡ length (f x) + length (flat_map f xs)
    sum = length-append (f x) (flat_map f xs)

    one : length (f x ++ []) ≡ length (f x) + 0
    one = length-append (f x) []

    go : (s < length (f x)) ⊎ (length (f x) ≤ s) → (s - length (f x) < length (flat_map f xs) → Owner f xs (s - length (f x))) → Owner f (x ∷ xs) s
    go (inl here) next = record { place = 0; known = omega arith; from = omega arith; to = omega (arith, here, one) }
    go (inr beyond) next =
        let o = next (omega (arith, beyond, lt, sum)) in
        let a : length (f x ++ flat_map f (take o.place xs)) ≡ length (f x) + length (flat_map f (take o.place xs)) = length-append (f x) (flat_map f (take o.place xs)) in
        let b : length (f x ++ flat_map f (take (suc o.place) xs)) ≡ length (f x) + length (flat_map f (take (suc o.place) xs)) = length-append (f x) (flat_map f (take (suc o.place) xs)) in
        record { place = suc o.place; known = omega (arith, o.known); from = omega (arith, beyond, o.from, a); to = omega (arith, beyond, o.to, b) }

-- ---- sites at their places

head : (n : ℕ) (modules : List ModuleTree) (site d : Site) (rest : List Site) → get_or (sites n modules site ++ rest) 0 d ≡ site
head zero modules site d rest = refl
head (suc n) modules site d rest = refl

module _ (deepest : ℕ) (modules : List ModuleTree) (all : List Site) where
  -- the element of a list at a place is the site that stands there
  pub placed-at : (k : ℕ) (site d : Site) → Placed deepest modules all k site → get_or all k d ≡ site
  placed-at k site d p =
      ap (λ i. get_or all i d) (omega arith)
      ∙ sym (get_or-drop k all 0 d)
      ∙ ap (λ (l : List Site). get_or l 0 d) p.is
      ∙ head (deepest - site.depth) modules site d p.rest

  pub placed-same : (k : ℕ) (one other : Site) → Placed deepest modules all k one → Placed deepest modules all k other → one ≡ other
  placed-same k one other p q = sym (placed-at k one one p) ∙ placed-at k other one q

  -- a site and all those below it end within the list
  pub placed-inside : (k : ℕ) (site : Site) → Placed deepest modules all k site → k + length (within deepest modules site) ≤ length all
  placed-inside k site p =
      let some = within-some (deepest - site.depth) modules site in
      let sum : length (drop k all) ≡ length (within deepest modules site) + length p.rest = ap (λ (l : List Site). length l) p.is ∙ length-append (within deepest modules site) p.rest in
      omega (arith, some, sum, length-drop k all)

  pub placed-count : {X : Type 0} (f : Site → List X) (k : ℕ) (site : Site) → Placed deepest modules all k site → count_to f all (k + length (within deepest modules site)) ≡ count_to f all k + length (flat_map f (within deepest modules site))
  placed-count f k site p =
      count-add f all k (length (within deepest modules site))
      ∙ ap (λ (l : List Site). count_to f all k + length (flat_map f (take (length (within deepest modules site)) l))) p.is
      ∙ ap (λ (l : List Site). count_to f all k + length (flat_map f l)) (take-append_seam (within deepest modules site) p.rest)

-- ---- the instances of a tree

-- Instances have the sites' ranges and parents.
pub record Ranges {X : Type 0} (deepest : ℕ) (modules : List ModuleTree) (f : Site → List X) (all : List Site) (tree : InstanceTree) : Type 0 where
  pub same : length tree.instances ≡ length all
  pub site : (k : ℕ) → k < length all → Site
  pub placed : (k : ℕ) (lt : k < length all) → Placed deepest modules all k (site k lt)
  pub begins : (k : ℕ) → k < length all → (instance_at tree k).first ≡ count_to f all k
  pub ends : (k : ℕ) (x : Site) → Placed deepest modules all k x → (instance_at tree k).end ≡ count_to f all (k + length (within deepest modules x))
  pub parent : (k above : ℕ) → Under deepest modules all above k → (instance_at tree k).parent ≡ Some above
  pub under : (k above : ℕ) → k < length all → (instance_at tree k).parent ≡ Some above → Under deepest modules all above k

module _ {X : Type 0} (deepest : ℕ) (modules : List ModuleTree) (f : Site → List X) (all : List Site) (tree : InstanceTree) (ranges : Ranges deepest modules f all tree) where
  -- what a site has of its own is innermost in its instance: no instance below holds it
  pub own-innermost : (k s : ℕ) → k < length all → count_to f all k ≤ s → s < count_to f all (suc k) → IsInnermost tree k s
  own-innermost k s lt from to =
      let site = ranges.site k lt in
      let placed = ranges.placed k lt in
      let some = within-some (deepest - site.depth) modules site in
      record {
        known = omega (arith, lt, ranges.same);
        holds = (omega (arith, from, ranges.begins k lt), omega (arith, to, ranges.ends k site placed, count-le f all (suc k) (k + length (within deepest modules site)) (omega (arith, some))));
        deeper = λ i known parent holds.
            let inside : i < length all = omega (arith, known, ranges.same) in
            let u = ranges.under i k inside parent in
            omega (arith, to, holds.0, ranges.begins i inside, count-le f all (suc k) i (omega (arith, u.before)));
      }

  -- what an instance below instance k holds, one with the parent k holds too
  abbrev Climbs : ℕ → Type 0
  Climbs fuel = (j k s : ℕ) (site there : Site) → j < fuel → Placed deepest modules all k site → k < j → j < k + length (within deepest modules site) → Placed deepest modules all j there → count_to f all j ≤ s → s < count_to f all (j + length (within deepest modules there)) → ((i : ℕ) → i < length tree.instances → (instance_at tree i).parent ≡ Some k → Holds (instance_at tree i) s → ⊥) → ⊥

  climb : (fuel : ℕ) → Climbs fuel
  climb zero j k s site there bound placed after inside at from to none = absurd (omega (arith, bound))
  climb (suc fuel) j k s site there bound placed after inside at from to none =
      let h = held_from deepest modules all (deepest - site.depth) k site refl placed j after inside in
      go h (cases_lt k h.above) (climb fuel)
    where
      known : j < length all
      known = let p = placed-inside deepest modules all j there at in let some = within-some (deepest - there.depth) modules there in omega (arith, p, some)

      go : (h : HeldFrom deepest modules all k j) → (k < h.above) ⊎ (h.above ≤ k) → Climbs fuel → ⊥
      go h (inl above) next =
          let u = h.under in
          let same : there ≡ site_below u.outer u.held = placed-same deepest modules all j there (site_below u.outer u.held) at u.at_place in
          let size : length (within deepest modules there) ≡ length (within deepest modules (site_below u.outer u.held)) = ap (λ (x : Site). length (within deepest modules x)) same in
          let le = count-le f all (j + length (within deepest modules there)) (h.above + length (within deepest modules u.outer)) (omega (arith, u.inside, size)) in
          let lower = count-le f all h.above j (omega (arith, u.before)) in
          next h.above k s site u.outer (omega (arith, u.before, bound)) placed above (omega (arith, u.before, inside)) u.at_outer (omega (arith, lower, from)) (omega (arith, le, to)) none
      go h (inr not_above) next =
          let here : h.above ≡ k = omega (arith, h.from_on, not_above) in
          let parent : (instance_at tree j).parent ≡ Some k = ranges.parent j h.above h.under ∙ ap Some here in
          none j (omega (arith, known, ranges.same)) parent (omega (arith, from, ranges.begins j known), omega (arith, to, ranges.ends j there at))

  -- what is innermost in an instance is among what its site has of its own
  pub innermost-own : (k s : ℕ) → IsInnermost tree k s → (count_to f all k ≤ s) × (s < count_to f all (suc k))
  innermost-own k s inner = (omega (arith, inner.holds.0, ranges.begins k known), go (cases_lt s (count_to f all (suc k))))
    where
      known : k < length all
      known = omega (arith, inner.known, ranges.same)

      placed : Placed deepest modules all k (ranges.site k known)
      placed = ranges.placed k known

      total : s < length (flat_map f all)
      total =
          let inside = placed-inside deepest modules all k (ranges.site k known) placed in
          let bound = count-le f all (k + length (within deepest modules (ranges.site k known))) (length all) inside in
          let whole : count_to f all (length all) ≡ length (flat_map f all) = ap (λ l. length (flat_map f l)) (take_all (length all) all (omega arith)) in
          omega (arith, inner.holds.1, ranges.ends k (ranges.site k known) placed, bound, whole)

      go : (s < count_to f all (suc k)) ⊎ (count_to f all (suc k) ≤ s) → s < count_to f all (suc k)
      go (inl lt) = lt
      go (inr ge) =
          let o = owner f all s total in
          let site = ranges.site k known in
          let there = ranges.site o.place o.known in
          let at = ranges.placed o.place o.known in
          let some = within-some (deepest - there.depth) modules there in
          let after : k < o.place = later o.place o.to ge in
          let inside : o.place < k + length (within deepest modules site) = earlier o.place o.from in
          absurd (climb (suc o.place) o.place k s site there (omega arith) placed after inside at o.from (omega (arith, o.to, count-le f all (suc o.place) (o.place + length (within deepest modules there)) (omega (arith, some)))) inner.deeper)
        where
          later : (i : ℕ) → s < count_to f all (suc i) → count_to f all (suc k) ≤ s → k < i
          later i to ge = pick (cases_lt k i)
            where
              pick : (k < i) ⊎ (i ≤ k) → k < i
              pick (inl lt) = lt
              pick (inr le) = absurd (omega (arith, to, ge, count-le f all (suc i) (suc k) (omega (arith, le))))

          earlier : (i : ℕ) → count_to f all i ≤ s → i < k + length (within deepest modules (ranges.site k known))
          earlier i from = pick (cases_lt i (k + length (within deepest modules (ranges.site k known))))
            where
              pick : (i < k + length (within deepest modules (ranges.site k known))) ⊎ (k + length (within deepest modules (ranges.site k known)) ≤ i) → i < k + length (within deepest modules (ranges.site k known))
              pick (inl lt) = lt
              pick (inr le) = absurd (omega (arith, from, inner.holds.1, ranges.ends k (ranges.site k known) placed, count-le f all (k + length (within deepest modules (ranges.site k known))) i le))
