-- Sites by their places: each is followed by all sites below it, and stands after the one that holds it.
use Rattle.std.proofs.Common.{◌≡◌, ℕ, zero, suc, ◌+◌, ◌-◌, ◌<◌, ◌≤◌, ◌⊎◌, inl, inr, List, [], ◌∷◌, ◌++◌, length, drop, refl, sym, ap, ◌∙◌, subst, arith, append_assoc, drop-drop, length-append}
use Rattle.std.specs.Prelude.{flat_map, Contains}
use Rattle.std.proofs.lemmas.Bool.{cases_lt}
use Rattle.std.proofs.Math.Seq.{drop-append_seam}
use Rattle.gg_ast.specs.Tree.{ModuleTree}
use Rattle.gg_elab_sites.specs.Sites.{Held, Site, site_below, sites, held_at}
use Rattle.gg_flat.proofs.ListLemmas.{further}

-- a site with all sites below it, down to the depth `deepest`
abbrev pub within : ℕ → List ModuleTree → Site → List Site
within deepest modules site = sites (deepest - site.depth) modules site

-- The site stands at this place of a list, followed by all sites below it.
pub record Placed (deepest : ℕ) (modules : List ModuleTree) (all : List Site) (place : ℕ) (site : Site) : Type 0 where
  pub rest : List Site
  pub is : drop place all ≡ within deepest modules site ++ rest
  pub deep : site.depth ≤ deepest

-- The site at a place is held by the site at `above`, and stands among the sites below that one.
pub record Under (deepest : ℕ) (modules : List ModuleTree) (all : List Site) (above place : ℕ) : Type 0 where
  pub outer : Site
  pub held : Held
  pub at_outer : Placed deepest modules all above outer
  pub at_place : Placed deepest modules all place (site_below outer held)
  pub among : Contains (held_at modules outer.number) held
  pub before : above < place
  pub inside : place + length (within deepest modules (site_below outer held)) ≤ above + length (within deepest modules outer)

-- The site at a place is held by a site that stands at `from` or after it.
pub record HeldFrom (deepest : ℕ) (modules : List ModuleTree) (all : List Site) (from place : ℕ) : Type 0 where
  pub above : ℕ
  pub from_on : from ≤ above
  pub under : Under deepest modules all above place

-- a site and those below it are at least one
pub within-some : (levels : ℕ) (modules : List ModuleTree) (site : Site) → 0 < length (sites levels modules site)
within-some zero modules site = omega arith
within-some (suc levels) modules site = omega arith

-- if two lists stand one after the other from place k on, the second follows the first
part : {A : Type 0} (all xs ys : List A) (k : ℕ) → drop k all ≡ xs ++ ys → drop (k + length xs) all ≡ ys
part all xs ys k h = sym (drop-drop (length xs) k all) ∙ ap (drop (length xs)) h ∙ drop-append_seam xs ys

module _ (deepest : ℕ) (modules : List ModuleTree) (all : List Site) where
  -- what held_from shows, of sites with n levels below them
  abbrev Known : ℕ → Type 0
  Known n = (k : ℕ) (here : Site) → n ≡ deepest - here.depth → Placed deepest modules all k here → (i : ℕ) → k < i → i < k + length (within deepest modules here) → HeldFrom deepest modules all k i

  earlier : (a b k i : ℕ) → a ≤ b → HeldFrom deepest modules all b i → HeldFrom deepest modules all a i
  earlier a b k i le h = record { above = h.above; from_on = omega (arith, le, h.from_on); under = h.under }

  -- the same of the sites below some of the site's instances
  along : (n k : ℕ) (here : Site) → Known n → n ≡ deepest - suc here.depth → suc here.depth ≤ deepest → Placed deepest modules all k here → (hs : List Held) (j : ℕ) (rest : List Site) → drop j all ≡ flat_map (λ h. sites n modules (site_below here h)) hs ++ rest → ((h : Held) → Contains hs h → Contains (held_at modules here.number) h) → j + length (flat_map (λ h. sites n modules (site_below here h)) hs) ≤ k + length (within deepest modules here) → k < j → (i : ℕ) → j ≤ i → i < j + length (flat_map (λ h. sites n modules (site_below here h)) hs) → HeldFrom deepest modules all k i
  along n k here known level room placed [] j rest is each end after i from to = absurd (omega (arith, from, to))
  along n k here known level room placed (h ∷ hs) j rest is each end after i from to =
      go (cases_lt i (j + length (sites n modules (site_below here h)))) (cases_lt j i) (along n k here known level room placed hs)
    where
      total : length (sites n modules (site_below here h) ++ flat_map (λ x. sites n modules (site_below here x)) hs) ≡ length (sites n modules (site_below here h)) + length (flat_map (λ x. sites n modules (site_below here x)) hs)
      total = length-append (sites n modules (site_below here h)) (flat_map (λ x. sites n modules (site_below here x)) hs)

      behind : drop j all ≡ sites n modules (site_below here h) ++ (flat_map (λ x. sites n modules (site_below here x)) hs ++ rest)
      behind = is ∙ append_assoc (sites n modules (site_below here h)) (flat_map (λ x. sites n modules (site_below here x)) hs) rest

      same : sites n modules (site_below here h) ≡ within deepest modules (site_below here h)
      same = ap (λ m. sites m modules (site_below here h)) level

      placed_here : Placed deepest modules all j (site_below here h)
      placed_here = record { rest = flat_map (λ x. sites n modules (site_below here x)) hs ++ rest; is = behind ∙ ap (λ (l : List Site). l ++ (flat_map (λ x. sites n modules (site_below here x)) hs ++ rest)) same; deep = room }

      size : length (sites n modules (site_below here h)) ≡ length (within deepest modules (site_below here h))
      size = ap (λ (l : List Site). length l) same

      under_here : i ≡ j → HeldFrom deepest modules all k i
      under_here e = subst (HeldFrom deepest modules all k) (sym e) (record {
        above = k;
        from_on = omega arith;
        under = record {
          outer = here;
          held = h;
          at_outer = placed;
          at_place = placed_here;
          among = each h (0, omega arith, refl);
          before = after;
          inside = omega (arith, end, total, size);
        };
      })

      go : (i < j + length (sites n modules (site_below here h))) ⊎ (j + length (sites n modules (site_below here h)) ≤ i) → (j < i) ⊎ (i ≤ j) → ((j : ℕ) (rest : List Site) → drop j all ≡ flat_map (λ h. sites n modules (site_below here h)) hs ++ rest → ((h : Held) → Contains hs h → Contains (held_at modules here.number) h) → j + length (flat_map (λ h. sites n modules (site_below here h)) hs) ≤ k + length (within deepest modules here) → k < j → (i : ℕ) → j ≤ i → i < j + length (flat_map (λ h. sites n modules (site_below here h)) hs) → HeldFrom deepest modules all k i) → HeldFrom deepest modules all k i
      go (inl lt) (inl more) next = earlier k j k i (omega (arith, after)) (known j (site_below here h) level placed_here i more (omega (arith, lt, size)))
      go (inl lt) (inr here_on) next = under_here (omega (arith, from, here_on))
      go (inr ge) which next =
          next (j + length (sites n modules (site_below here h))) rest (part all (sites n modules (site_below here h)) (flat_map (λ x. sites n modules (site_below here x)) hs ++ rest) j behind) (λ x c. each x (further h hs x c)) (omega (arith, end, total)) (omega (arith, after)) i ge (omega (arith, to, total))

  -- each site below another is held by that one, or by a site below it
  pub held_from : (n : ℕ) → Known n
  held_from zero k here level placed i after to =
      let one : length (within deepest modules here) ≡ 1 = ap (λ m. length (sites m modules here)) (sym level) in
      absurd (omega (arith, one, after, to))
  held_from (suc n) k here level placed i after to =
      let shape : within deepest modules here ≡ here ∷ flat_map (λ h. sites n modules (site_below here h)) (held_at modules here.number) = ap (λ m. sites m modules here) (sym level) in
      let size : length (within deepest modules here) ≡ suc (length (flat_map (λ h. sites n modules (site_below here h)) (held_at modules here.number))) = ap (λ (l : List Site). length l) shape in
      let stands : drop k all ≡ (here ∷ []) ++ (flat_map (λ h. sites n modules (site_below here h)) (held_at modules here.number) ++ placed.rest) = placed.is ∙ ap (λ (l : List Site). l ++ placed.rest) shape in
      along n k here (held_from n) (omega (arith, level)) (omega (arith, level)) placed (held_at modules here.number) (k + 1) placed.rest (part all (here ∷ []) (flat_map (λ h. sites n modules (site_below here h)) (held_at modules here.number) ++ placed.rest) k stands) (λ h c. c) (omega (arith, size)) (omega arith) i (omega (arith, after)) (omega (arith, to, size))
