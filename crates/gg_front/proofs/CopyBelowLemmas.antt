-- The instances below two instances of one module: the same modules, at the same distance, with the same clocks and stops.
use Rattle.std.proofs.Common.{◌≡◌, ◌≢◌, ℕ, zero, suc, ◌+◌, ◌-◌, ◌<◌, ◌≤◌, min, List, [], ◌∷◌, ◌++◌, length, length-append, take, get_or, append_assoc, Option, Some, None, refl, sym, ap, ap₂, ◌∙◌, subst, subst₂, arith, inl, inr, ◌⊎◌}
use Rattle.std.proofs.lemmas.Bool.{cases_lt}
use Rattle.std.specs.Prelude.{Contains, flat_map, option_and_then, option_map}
use Rattle.std.proofs.lemmas.List.{append_cancel_left, length-take, take-append-drop, take-append-le}
use Rattle.std.proofs.lemmas.Option.{same_Some}
use Rattle.std.proofs.lemmas.Grind.{flat_map-append}
use Rattle.std.proofs.Math.Seq.{take-append-add}
use Rattle.gg_ast.specs.Places.{place_of}
use Rattle.gg_ast.specs.Tree.{CircuitTree, module_names}
use Rattle.gg_flat_tree.specs.declared.tree.StopInstance.{StopInstance}
use Rattle.gg_flat.specs.Circuit.{FlatCircuit}
use Rattle.gg_flat_tree.specs.Tree.{InstanceTree, instance_at, joined, stop_at}
use Rattle.gg_elab_sites.specs.Sites.{Held, Outer, Site, site_below, module_at, sites, sites_of, top_site}
use Rattle.gg_elab_sites.specs.IsFlat.{IsFlat}
use Rattle.gg_elab_sites.specs.Known.{types_of}
use Rattle.gg_elab_sites.specs.Clocks.{own_clocks}
use Rattle.gg_elab_sites.proofs.FollowLemmas.{around-length, input_count}
use Rattle.gg_elab_tree.specs.IsTreeOf.{IsParent, IsTreeOf, Pairwise, site_paths}
use Rattle.gg_elab_tree.proofs.NamesLemmas.JoinLemmas.{joined-once}
use Rattle.gg_elab_tree.proofs.StopLemmas.{AskedPlace, asked-place, before_stops, holder-of, signal-of, stop-again}
use Rattle.gg_elab_tree.proofs.InstanceLemmas.{signals_in, sites-are, stands, ranges, instance-for, path-place}
use Rattle.gg_elab_tree.proofs.OwnLemmas.{placed-known, Pairwise-at}
use Rattle.gg_elab_tree.proofs.PairwiseLemmas.{Pairwise-length}
use Rattle.gg_elab_tree.proofs.PlaceLemmas.{Placed, within, within-some}
use Rattle.gg_elab_tree.proofs.RangeLemmas.{Ranges, count_to, count-le, placed-at, placed-inside, placed-same}
use Rattle.gg_elab_tree.proofs.ScopeOfTreeLemmas.{HasApartNames}
use Rattle.gg_elab_tree.proofs.TreeLemmas.{HasDistinctPaths, HasPlainNames}
use Rattle.gg_part.specs.Moved.{moved_stop, shifted}
use Rattle.gg_part.specs.Copies.{LiesIn, above}
use Rattle.gg_front.proofs.LikeSites.{AreLikeSites, AreLikeSignals}
use Rattle.gg_front.proofs.CopyLemmas.{HasSomeNames, whole-like, signals-like}
use Rattle.gg_front.proofs.CopyDriverLemmas.{Stretch, stretch-at}
use Rattle.gg_front.proofs.CopyPlaceLemmas.{AreRanked, levels-same, rank-left}
use Rattle.gg_front.proofs.CopyClockLemmas.{own-same}
use Rattle.gg_front.proofs.CopyInsideLemmas.{instance-inside}

-- what stands behind a path is told by both together
joined-left : (path a b : List ℕ) → joined path a ≡ joined path b → a ≡ b
joined-left [] a b e = e
joined-left (x ∷ path) a b e = append_cancel_left ((x ∷ path) ++ 46 ∷ []) a b (append_assoc (x ∷ path) (46 ∷ []) a ∙ e ∙ sym (append_assoc (x ∷ path) (46 ∷ []) b))

none : ¬ Contains {X = ℕ} [] 46
none c = omega (arith, c.1)

-- what holds the site that is held under this name
abbrev outer_of : Site → Held → Outer
outer_of here h = record { path = here.path; number = here.number; name = h.name }

-- the parent of an instance is where the path of what holds it stands
parent-there : (circuit : CircuitTree) (outer : Outer) (p : ℕ) (parent : Option ℕ) → place_of outer.path (site_paths circuit) ≡ Some p → IsParent circuit (Some outer) parent → parent ≡ Some p
parent-there circuit outer p None place is = absurd is
parent-there circuit outer p (Some q) place is = sym is.is ∙ place

module _ (circuit : CircuitTree) (flat : FlatCircuit) (tree : InstanceTree) (top : ℕ) (known_top : place_of circuit.name (module_names circuit) ≡ Some top) (is_flat : IsFlat circuit flat) (is_tree : IsTreeOf circuit tree) (distinct : HasDistinctPaths circuit) (plain : HasPlainNames circuit) (names : HasApartNames circuit)
    (rank : ℕ → ℕ) (ranked : AreRanked circuit.modules rank) (rank_top : rank top ≤ length circuit.modules) (some : HasSomeNames circuit.modules) where
  abbrev Stands : ℕ → Site → Type 0
  Stands k x = Placed (length circuit.modules) circuit.modules (sites_of circuit) k x

  abbrev below : Site → List Site
  below x = within (length circuit.modules) circuit.modules x

  abbrev from_site : ℕ → ℕ
  from_site k = count_to (signals_in circuit) (sites_of circuit) k

  rank-at : (k : ℕ) (x : Site) → Stands k x → rank x.number ≤ length circuit.modules - x.depth
  rank-at k x p =
      let c : Contains (sites_of circuit) x = (k, placed-known circuit k x p, placed-at (length circuit.modules) circuit.modules (sites_of circuit) k x x p) in
      let r = rank-left circuit.modules rank ranked (length circuit.modules - 0) (top_site top) x (subst (λ (l : List Site). Contains l x) (sites-are circuit tree top known_top) c) in
      omega (arith, r, rank_top)

  module _ (i j : ℕ) (u v : Site) (at_i : Stands i u) (at_j : Stands j v) (same : u.number ≡ v.number) where
    levels : below v ≡ sites (length circuit.modules - u.depth) circuit.modules v
    levels =
        levels-same circuit.modules rank ranked (length circuit.modules - v.depth) (length circuit.modules - u.depth) v (rank-at j v at_j)
        (subst (λ (n : ℕ). rank n ≤ length circuit.modules - u.depth) same (rank-at i u at_i))

    pub sites_like : Pairwise (AreLikeSites u v) (below u) (below v)
    sites_like = subst (λ (l : List Site). Pairwise (AreLikeSites u v) (below u) l) (sym levels) (whole-like circuit.modules some u v same (length circuit.modules - u.depth))

    abbrev to_there : ℕ → ℕ
    to_there s = shifted (from_site i) (from_site j) s

    tells : Ranges (length circuit.modules) circuit.modules (signals_in circuit) (sites_of circuit) tree
    tells = ranges circuit tree top known_top is_tree distinct.of_sites

    sites-stretch : (k : ℕ) (x : Site) → Stands k x → Stretch (sites_of circuit) k (below x)
    sites-stretch k x at = record {
      before = take k (sites_of circuit);
      after = at.rest;
      is = sym (take-append-drop k (sites_of circuit)) ∙ ap (λ l. take k (sites_of circuit) ++ l) at.is;
      at = length-take k (sites_of circuit) ∙ (let lt = placed-known circuit k x at in min-left k (length (sites_of circuit)) (omega (arith, lt)));
    }
      where
        min-left : (a b : ℕ) → a ≤ b → min a b ≡ a
        min-left a b le = omega (arith, le)

    below-same : length (below u) ≡ length (below v)
    below-same = Pairwise-length (AreLikeSites u v) (below u) (below v) sites_like

    -- how many signals stand before the site at a place below
    starts-at : (k : ℕ) (x : Site) → Stands k x → (n : ℕ) → n ≤ length (below x) → from_site (k + n) ≡ from_site k + length (flat_map (signals_in circuit) (take n (below x)))
    unfolding sites-stretch
    starts-at k x at n le =
        let s = sites-stretch k x at in
        ap₂ (λ (l : List Site) (i : ℕ). length (flat_map (signals_in circuit) (take (i + n) l))) s.is (sym s.at)
        ∙ ap (λ l. length (flat_map (signals_in circuit) l)) (take-append-add s.before (below x ++ s.after) n ∙ ap (λ l. s.before ++ l) (take-append-le n (below x) s.after le))
        ∙ ap length (flat_map-append (signals_in circuit) s.before (take n (below x)))
        ∙ length-append (flat_map (signals_in circuit) s.before) (flat_map (signals_in circuit) (take n (below x)))

    Pairwise-take : {A B : Type 0} (R : A → B → Type 0) (n : ℕ) (xs : List A) (ys : List B) → Pairwise R xs ys → Pairwise R (take n xs) (take n ys)
    Pairwise-take R zero [] [] h = tt
    Pairwise-take R zero [] (y ∷ ys) h = absurd h
    Pairwise-take R zero (x ∷ xs) [] h = absurd h
    Pairwise-take R zero (x ∷ xs) (y ∷ ys) h = tt
    Pairwise-take R (suc n) [] [] h = tt
    Pairwise-take R (suc n) [] (y ∷ ys) h = absurd h
    Pairwise-take R (suc n) (x ∷ xs) [] h = absurd h
    Pairwise-take R (suc n) (x ∷ xs) (y ∷ ys) h = (h.0, Pairwise-take R n xs ys h.1)

    instance-copied : (k : ℕ) → k < length (below u) → ((instance_at tree (j + k)).«module» ≡ (instance_at tree (i + k)).«module») × ((instance_at tree (j + k)).first ≡ to_there (instance_at tree (i + k)).first)
    instance-copied k lt = (
      (instance-for circuit tree top known_top is_tree distinct.of_sites (j + k) y.0 y.1).number ∙ sym numbers ∙ sym (instance-for circuit tree top known_top is_tree distinct.of_sites (i + k) x.0 x.1).number,
      omega (arith, tells.begins (i + k) lt_i, tells.begins (j + k) lt_j, starts-at i u at_i k (omega (arith, lt)), starts-at j v at_j k (omega (arith, lt, below-same)), counts),
    )
      where
        lt_v : k < length (below v)
        lt_v = omega (arith, lt, below-same)

        lt_i : i + k < length (sites_of circuit)
        lt_i = omega (arith, lt, placed-inside (length circuit.modules) circuit.modules (sites_of circuit) i u at_i)

        lt_j : j + k < length (sites_of circuit)
        lt_j = omega (arith, lt_v, placed-inside (length circuit.modules) circuit.modules (sites_of circuit) j v at_j)

        x : (z : Site) × Stands (i + k) z
        x = stands circuit tree top known_top (i + k) lt_i

        y : (z : Site) × Stands (j + k) z
        y = stands circuit tree top known_top (j + k) lt_j

        site-x : get_or (below u) k u ≡ x.0
        site-x = sym (stretch-at (sites_of circuit) i (below u) (sites-stretch i u at_i) k u lt) ∙ placed-at (length circuit.modules) circuit.modules (sites_of circuit) (i + k) x.0 u x.1

        site-y : get_or (below v) k v ≡ y.0
        site-y = sym (stretch-at (sites_of circuit) j (below v) (sites-stretch j v at_j) k v lt_v) ∙ placed-at (length circuit.modules) circuit.modules (sites_of circuit) (j + k) y.0 v y.1

        numbers : x.0.number ≡ y.0.number
        numbers = ap (λ (z : Site). z.number) (sym site-x) ∙ (Pairwise-at (AreLikeSites u v) (below u) (below v) k u v sites_like lt).number ∙ ap (λ (z : Site). z.number) site-y

        counts : length (flat_map (signals_in circuit) (take k (below u))) ≡ length (flat_map (signals_in circuit) (take k (below v)))
        counts =
            Pairwise-length (AreLikeSignals (types_of circuit) circuit.modules u v) (flat_map (signals_in circuit) (take k (below u))) (flat_map (signals_in circuit) (take k (below v)))
            (signals-like circuit.modules some u v (types_of circuit) (take k (below u)) (take k (below v)) (Pairwise-take (AreLikeSites u v) k (below u) (below v) sites_like))

    -- an instance that lies in the one lies as far behind the other
    pub instance-moved : (k : ℕ) → k < length tree.instances → LiesIn tree i k → ((instance_at tree (shifted i j k)).«module» ≡ (instance_at tree k).«module») × ((instance_at tree (shifted i j k)).first ≡ to_there (instance_at tree k).first)
    instance-moved k lt lies =
        let x = stands circuit tree top known_top k (omega (arith, lt, tells.same)) in
        let h = instance-inside circuit tree top known_top is_tree distinct i u at_i lies.levels k lies.is x.0 x.1 in
        let some_site = within-some (length circuit.modules - x.0.depth) circuit.modules x.0 in
        let here : i + (k - i) ≡ k = omega (arith, h.0) in
        let there : j + (k - i) ≡ shifted i j k = omega arith in
        subst₂ (λ (a b : ℕ). ((instance_at tree b).«module» ≡ (instance_at tree a).«module») × ((instance_at tree b).first ≡ to_there (instance_at tree a).first)) here there
        (instance-copied (k - i) (omega (arith, h.0, h.1, some_site)))

    -- ---- clocks and stops

    pub own-clocks : length (instance_at tree j).clocks ≡ length (instance_at tree i).clocks
    own-clocks =
        ap (λ (l : List (Option ℕ)). length l) (instance-for circuit tree top known_top is_tree distinct.of_sites j v at_j).clocks
        ∙ around-length circuit.modules v.number v.steps
        ∙ ap (λ n. input_count (module_at circuit.modules n)) (sym same)
        ∙ sym (around-length circuit.modules u.number u.steps)
        ∙ sym (ap (λ (l : List (Option ℕ)). length l) (instance-for circuit tree top known_top is_tree distinct.of_sites i u at_i).clocks)

    -- A site below the one instance, and the same one below the other.
    record Below (k : ℕ) : Type 0 where
      here : Site
      there : Site
      at_here : Stands k here
      at_there : Stands (shifted i j k) there
      numbers : here.number ≡ there.number
      low : i ≤ k
      inside : k - i < length (below u)
      is_here : get_or (below u) (k - i) u ≡ here
      is_there : get_or (below v) (k - i) v ≡ there

    below-at : (k : ℕ) → k < length (sites_of circuit) → LiesIn tree i k → Below k
    below-at k lt lies = record {
      here = x.0;
      there = y.0;
      at_here = x.1;
      at_there = subst (λ n. Stands n y.0) there y.1;
      numbers = ap (λ (z : Site). z.number) (sym is_here) ∙ (Pairwise-at (AreLikeSites u v) (below u) (below v) (k - i) u v sites_like inside).number ∙ ap (λ (z : Site). z.number) is_there;
      low = h.0;
      inside = inside;
      is_here = is_here;
      is_there = is_there;
    }
      where
        x : (z : Site) × Stands k z
        x = stands circuit tree top known_top k lt

        h : (i ≤ k) × (k + length (below x.0) ≤ i + length (below u))
        h = let r = instance-inside circuit tree top known_top is_tree distinct i u at_i lies.levels k lies.is x.0 x.1 in (omega (arith, r.0), omega (arith, r.1))

        inside : k - i < length (below u)
        inside = let some_site = within-some (length circuit.modules - x.0.depth) circuit.modules x.0 in omega (arith, h.0, h.1, some_site)

        here : i + (k - i) ≡ k
        here = omega (arith, h.0)

        there : j + (k - i) ≡ shifted i j k
        there = omega arith

        lt_there : j + (k - i) < length (sites_of circuit)
        lt_there = omega (arith, inside, below-same, placed-inside (length circuit.modules) circuit.modules (sites_of circuit) j v at_j)

        y : (z : Site) × Stands (j + (k - i)) z
        y = stands circuit tree top known_top (j + (k - i)) lt_there

        is_here : get_or (below u) (k - i) u ≡ x.0
        is_here =
            sym (stretch-at (sites_of circuit) i (below u) (sites-stretch i u at_i) (k - i) u inside)
            ∙ ap (λ n. get_or (sites_of circuit) n u) here
            ∙ placed-at (length circuit.modules) circuit.modules (sites_of circuit) k x.0 u x.1

        is_there : get_or (below v) (k - i) v ≡ y.0
        is_there =
            sym (stretch-at (sites_of circuit) j (below v) (sites-stretch j v at_j) (k - i) v (omega (arith, inside, below-same)))
            ∙ placed-at (length circuit.modules) circuit.modules (sites_of circuit) (j + (k - i)) y.0 v y.1

    -- below the two, what the Clock inputs of an instance follow is the same
    pub clocks-moved : (k : ℕ) → k < length tree.instances → LiesIn tree i k → k ≢ i → (instance_at tree (shifted i j k)).clocks ≡ (instance_at tree k).clocks
    clocks-moved k lt lies other =
        let b = below-at k (omega (arith, lt, tells.same)) lies in
        let least : 0 < k - i = above-least i k b.low other in
        (instance-for circuit tree top known_top is_tree distinct.of_sites (shifted i j k) b.there b.at_there).clocks
        ∙ ap (own_clocks circuit.modules) (sym b.is_there ∙ ap (λ (l : List Site). get_or l (k - i) v) levels)
        ∙ sym (own-same circuit.modules (length circuit.modules - u.depth) u v same (k - i) u v least b.inside)
        ∙ ap (own_clocks circuit.modules) b.is_here
        ∙ sym (instance-for circuit tree top known_top is_tree distinct.of_sites k b.here b.at_here).clocks
      where
        above-least : (a b : ℕ) → a ≤ b → b ≢ a → 0 < b - a
        above-least a b le differ = go (cases_lt a b)
          where
            go : (a < b) ⊎ (b ≤ a) → 0 < b - a
            go (inl lt) = omega (arith, lt)
            go (inr ge) = let is : b ≡ a = omega (arith, le, ge) in absurd (differ is)

    -- below the two, an instance lies in the same one
    pub parent-moved : (k : ℕ) → k < length tree.instances → LiesIn tree i k → k ≢ i → (instance_at tree (shifted i j k)).parent ≡ option_map (shifted i j) (instance_at tree k).parent
    parent-moved k lt lies other = go lies.levels lies.is (instance_at tree k).parent refl
      where
        b : Below k
        b = below-at k (omega (arith, lt, tells.same)) lies

        step : (p : ℕ) → (instance_at tree k).parent ≡ Some p → LiesIn tree i p → (instance_at tree (shifted i j k)).parent ≡ Some (shifted i j p)
        step p parent up =
            let under = tells.under k p (omega (arith, lt, tells.same)) parent in
            let bp = below-at p (omega (arith, lt, tells.same, under.before)) up in
            let outer : bp.here ≡ under.outer = placed-same (length circuit.modules) circuit.modules (sites_of circuit) p bp.here under.outer bp.at_here under.at_outer in
            let here : b.here ≡ site_below under.outer under.held = placed-same (length circuit.modules) circuit.modules (sites_of circuit) k b.here (site_below under.outer under.held) b.at_here under.at_place in
            let like_p = subst₂ (AreLikeSites u v) bp.is_here bp.is_there (Pairwise-at (AreLikeSites u v) (below u) (below v) (p - i) u v sites_like bp.inside) in
            let like_k = subst₂ (AreLikeSites u v) b.is_here b.is_there (Pairwise-at (AreLikeSites u v) (below u) (below v) (k - i) u v sites_like b.inside) in
            elim like_k.outer [
              | inl e ↦
                  absurd (other (same_Some k i (sym (path-place circuit tree top known_top is_tree distinct.of_sites k b.here b.at_here) ∙ ap (λ (x : Site). place_of x.path (site_paths circuit)) e.0
                  ∙ path-place circuit tree top known_top is_tree distinct.of_sites i u at_i)))
              | inr (a, c, one, two, named, s) ↦
                  let same_path : a.path ≡ bp.here.path = ap (λ (o : Outer). o.path) (same_Some a (outer_of under.outer under.held) (sym one ∙ ap (λ (x : Site). x.outer) here)) ∙ ap (λ (x : Site). x.path) (sym outer) in
                  let m = s.moved [] in
                  let n = like_p.moved [] in
                  let rests : m.rest ≡ n.rest = joined-left u.path m.rest n.rest (sym m.one ∙ ap (λ (l : List ℕ). joined l []) same_path ∙ n.one) in
                  let paths : c.path ≡ bp.there.path = (joined-once c.path bp.there.path [] [] none none (m.other ∙ ap (joined v.path) rests ∙ sym n.other)).0 in
                  parent-there circuit c (shifted i j p) (instance_at tree (shifted i j k)).parent
                  (ap (λ (l : List ℕ). place_of l (site_paths circuit)) paths ∙ path-place circuit tree top known_top is_tree distinct.of_sites (shifted i j p) bp.there bp.at_there)
                  (subst (λ (o : Option Outer). IsParent circuit o (instance_at tree (shifted i j k)).parent) two (instance-for circuit tree top known_top is_tree distinct.of_sites (shifted i j k) b.there b.at_there).parent)
            ]

        go : (levels : ℕ) → above tree levels k ≡ Some i → (o : Option ℕ) → (instance_at tree k).parent ≡ o → (instance_at tree (shifted i j k)).parent ≡ option_map (shifted i j) o
        go zero is o e = absurd (other (same_Some k i is))
        go (suc n) is None e = let never : None ≡ Some i = sym (ap (option_and_then (above tree n)) e) ∙ is in absurd (cc)
        go (suc n) is (Some p) e = step p e (record { levels = n; is = sym (ap (option_and_then (above tree n)) e) ∙ is })

    -- a stop of what lies in the one is a stop of the same in the other
    pub stop-moved : (n : ℕ) → n < length tree.stops → LiesIn tree i (stop_at tree n).instance → Contains tree.stops (moved_stop (shifted i j) to_there (stop_at tree n))
    stop-moved n lt lies = subst (λ (s : StopInstance). Contains tree.stops s) is (stop-again circuit flat tree top known_top is_flat is_tree distinct plain names n a (shifted i j a.holder) b.there b.at_there number)
      where
        a : AskedPlace circuit tree n
        a = asked-place circuit tree top known_top is_tree n lt

        holder : (stop_at tree n).instance ≡ a.holder
        holder = holder-of circuit flat tree top known_top is_flat is_tree distinct plain names n a

        b : Below a.holder
        b = below-at a.holder (placed-known circuit a.holder a.site a.placed) (subst (λ k. LiesIn tree i k) holder lies)

        site : a.site ≡ b.here
        site = placed-same (length circuit.modules) circuit.modules (sites_of circuit) a.holder a.site b.here a.placed b.at_here

        number : a.site.number ≡ b.there.number
        number = ap (λ (z : Site). z.number) site ∙ b.numbers

        start-same : from_site (shifted i j a.holder) ≡ to_there (from_site a.holder)
        start-same =
            let m = instance-moved a.holder (omega (arith, placed-known circuit a.holder a.site a.placed, tells.same)) (subst (λ k. LiesIn tree i k) holder lies) in
            sym (tells.begins (shifted i j a.holder) (placed-known circuit (shifted i j a.holder) b.there b.at_there))
            ∙ m.1
            ∙ ap to_there (tells.begins a.holder (placed-known circuit a.holder a.site a.placed))

        after : from_site i ≤ from_site a.holder
        after = count-le (signals_in circuit) (sites_of circuit) i a.holder b.low

        signal : from_site (shifted i j a.holder) + (length (before_stops circuit a.site) + a.offset) ≡ to_there (stop_at tree n).signal
        signal = omega (arith, start-same, after, signal-of circuit flat tree top known_top is_flat is_tree distinct plain names n a)

        is : (record { instance = shifted i j a.holder; signal = from_site (shifted i j a.holder) + (length (before_stops circuit a.site) + a.offset); clock = (stop_at tree n).clock }) ≡ moved_stop (shifted i j) to_there (stop_at tree n)
        is = λ w. record { instance = shifted i j (sym holder w); signal = signal w; clock = (stop_at tree n).clock }
