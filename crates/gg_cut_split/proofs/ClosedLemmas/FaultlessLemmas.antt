-- What a request without a fault lists is apart: no unit lies in another (AreApart).
use Rattle.std.proofs.Common.{◌≡◌, ◌≢◌, ℕ, zero, suc, ◌+◌, ◌<◌, ◌≤◌, List, [], ◌∷◌, ◌++◌, length, get_or, Bool, true, false, true≢false, not, refl, sym, ◌∙◌, ap, Some, None, inl, inr, ◌⊎◌, arith}
use Rattle.std.specs.Prelude.{Option, ◌||◌, ◌==◌, find, cond, if◌then◌else◌, option_map, unwrap_or, nat_lt, All, AllPairs}
use Rattle.std.specs.List.{list_any, range_with_len}
use Rattle.std.proofs.lemmas.Bool.{cases_Bool, cases_lt, lt-ltb, ltb-false, or_parts}
use Rattle.std.proofs.lemmas.List.{length-map}
use Rattle.std.proofs.lemmas.List.Folds.{list_any-append}
use Rattle.std.proofs.lemmas.List.Kept.{AllPairs-filter, AllPairs-cons}
use Rattle.std.proofs.lemmas.Slice.Eq.{bytes_eq-Decides}
use Rattle.std.proofs.lemmas.List.FromFn.{get_or-range_with_len, length-range_with_len}
use Rattle.gg_flat_tree.specs.Tree.{InstanceTree, IsTree, path_at}
use Rattle.gg_partfile.specs.declared.request.Request.{Request}
use Rattle.gg_order.specs.Design.{Ordered}
use Rattle.gg_cut_plan.specs.declared.fault.CutFault.{CutFault}
use Rattle.gg_cut_plan.specs.declared.fault.CutFault.TheVariants.{UnknownUnit, Doubled, OutOfRange, TooManyUnits, TooManyChannels, UnknownPipe, DoubledPipe}
use Rattle.gg_cut_plan.specs.declared.listed.Listed.{Listed}
use Rattle.gg_cut_plan.specs.Listed.{is_among, is_lower, is_instance_path, instance_of, place_of, lies, listed_of}
use Rattle.gg_cut_plan.specs.Channels.{channel_names, capacity_of}
use Rattle.gg_cut_plan.specs.Direct.{plan_wires, plan_signals}
use Rattle.gg_cut_plan.specs.declared.wires.Wire.{Wire}
use Rattle.gg_cut_plan.specs.Fault.{unknown_unit, overlap, overlapping, first_clash, out_of_range, range_fault, too_many_units, too_many_channels, same_path, repeated, ratio_fault, entry_faults, channel_faults, pipe_faults, clock_faults, later_faults, first_fault}
use Rattle.gg_bits.specs.Limits.{most_units, most_channels, capacity_limit}
use Rattle.gg_bits.specs.Lists.{first_of}
use Rattle.gg_cut_plan.proofs.PathLemmas.{first_place-Some}
use Rattle.gg_cut_plan.proofs.RangeLemmas.{filter-below}
use Rattle.gg_cut_plan.proofs.FindLemmas.{none-at, none-front, none-back, none-map}
use Rattle.gg_cut_split.specs.inside.Apart.{AreApart}
use Rattle.gg_cut_split.specs.inside.Apart.{AreFew}
use Rattle.gg_cut_split.proofs.ClosedLemmas.ListLemmas.{AllPairs-map}
use Rattle.std.specs.Prelude.{bytes_eq}
use Rattle.std.proofs.lemmas.List.Elements.{All-map}

-- ---- nothing is found

none-found : {A : Type 0} (test : A → Bool) (xs : List A) → find (λ x. not (test x)) xs ≡ None → All (λ x. test x ≡ true) xs
none-found test [] e = λ k d lt. absurd (omega (arith, lt))
none-found {A = A} test (x ∷ xs) e = by (cases_Bool (test x)) (λ r. none-found test xs r)
  where
    by : (test x ≡ true) ⊎ (test x ≡ false) → (find (λ x. not (test x)) xs ≡ None → All (λ x. test x ≡ true) xs) → All (λ x. test x ≡ true) (x ∷ xs)
    by (inr t) later = absurd (clash (ap (λ b. cond (not b) (Some x) (find (λ x. not (test x)) xs)) (sym t) ∙ e))
      where
        clash : Some x ≡ None → ⊥
        clash e = absurd (cc)
    by (inl t) later = all
      where
        rest : find (λ x. not (test x)) xs ≡ None
        rest = ap (λ b. cond (not b) (Some x) (find (λ x. not (test x)) xs)) (sym t) ∙ e

        all : All (λ x. test x ≡ true) (x ∷ xs)
        all zero d lt = t
        all (suc k) d lt = later rest k d (omega (arith, lt))

-- ---- no clash

pub record Unclashed (clash : List ℕ → List ℕ → Bool) (earlier paths : List (List ℕ)) : Type 0 where
  pub with-earlier : (k : ℕ) (d : List ℕ) → k < length paths → list_any (clash (get_or paths k d)) earlier ≡ false
  pub among : AllPairs (λ a b. clash b a ≡ false) paths

any-split : (test : List ℕ → Bool) (xs : List (List ℕ)) (x : List ℕ) → list_any test (xs ++ x ∷ []) ≡ false → (list_any test xs ≡ false) × (test x ≡ false)
any-split test xs x e = by (list_any test xs) refl (test x) refl
  where
    whole : (list_any test xs || (test x || false)) ≡ false
    whole = sym (list_any-append test xs (x ∷ [])) ∙ e

    by : (a : Bool) → list_any test xs ≡ a → (b : Bool) → test x ≡ b → (list_any test xs ≡ false) × (test x ≡ false)
    by false f false g = (f, g)
    by true f b g = absurd (clash (ap (λ a. a || (test x || false)) (sym f) ∙ whole))
      where
        clash : true ≡ false → ⊥
        clash e = absurd (cc)
    by false f true g = absurd (clash (ap (λ a. a || (test x || false)) (sym f) ∙ whole) g)
      where
        clash : (test x || false) ≡ false → test x ≡ true → ⊥
        clash h t = no (ap (λ b. b || false) (sym t) ∙ h)
          where
            no : true ≡ false → ⊥
            no e = absurd (cc)

unclashed : (clash : List ℕ → List ℕ → Bool) (earlier paths : List (List ℕ)) → first_clash clash earlier paths ≡ None → Unclashed clash earlier paths
unclashed clash earlier [] e = record { with-earlier = λ k d lt. absurd (omega (arith, lt)); among = λ i j d less lt. absurd (omega (arith, lt)) }
unclashed clash earlier (path ∷ paths) e = by (cases_Bool (list_any (clash path) earlier)) (λ f. unclashed clash (earlier ++ path ∷ []) paths f)
  where
    by : (list_any (clash path) earlier ≡ true) ⊎ (list_any (clash path) earlier ≡ false) → (first_clash clash (earlier ++ path ∷ []) paths ≡ None → Unclashed clash (earlier ++ path ∷ []) paths) → Unclashed clash earlier (path ∷ paths)
    by (inl t) rest = absurd (no (ap (λ b. if b then Some path else first_clash clash (earlier ++ path ∷ []) paths) (sym t) ∙ e))
      where
        no : Some path ≡ None → ⊥
        no e = absurd (cc)
    by (inr f) rest = record { with-earlier = with-earlier; among = AllPairs-cons (λ a b. clash b a ≡ false) path paths (λ k d lt. (any-split (clash (get_or paths k d)) earlier path (later.with-earlier k d lt)).1) later.among }
      where
        later : Unclashed clash (earlier ++ path ∷ []) paths
        later = rest (ap (λ b. if b then Some path else first_clash clash (earlier ++ path ∷ []) paths) (sym f) ∙ e)

        with-earlier : (k : ℕ) (d : List ℕ) → k < length (path ∷ paths) → list_any (clash (get_or (path ∷ paths) k d)) earlier ≡ false
        with-earlier zero d lt = f
        with-earlier (suc k) d lt = (any-split (clash (get_or paths k d)) earlier path (later.with-earlier k d (omega (arith, lt)))).0

-- ---- what is listed

module _ (tree : InstanceTree) where
  -- an instance path is the path of an instance below the top
  lower-place : (path : List ℕ) → is_instance_path tree path ≡ true → (0 < instance_of tree path) × (instance_of tree path < length tree.paths)
  lower-place path e = by (place_of tree.paths path) refl (ap is_lower (sym refl) ∙ e)
    where
      by : (place : Option ℕ) → place_of tree.paths path ≡ place → is_lower (place_of tree.paths path) ≡ true → (0 < instance_of tree path) × (instance_of tree path < length tree.paths)
      by None f g = absurd (clash (ap is_lower (sym f) ∙ g))
        where
          clash : false ≡ true → ⊥
          clash e = absurd (cc)
      by (Some zero) f g = absurd (clash (ap is_lower (sym f) ∙ g))
        where
          clash : false ≡ true → ⊥
          clash e = absurd (cc)
      by (Some (suc k)) f g =
          let is : instance_of tree path ≡ suc k = ap (λ p. unwrap_or p 0) f in
          let at = first_place-Some (bytes_eq path) tree.paths (suc k) f in
          (omega (arith, is), omega (arith, is, at.within))

  range-ascending : (n : ℕ) → AllPairs (λ a b. a < b) (range_with_len 0 n)
  range-ascending n i j d less lt =
      let inside : j < n = omega (arith, lt, length-range_with_len 0 n) in
      omega (arith, less, get_or-range_with_len 0 n i d (omega (arith, less, inside)), get_or-range_with_len 0 n j d inside)

  pub apart-from : (request : Request) → length tree.paths ≡ length tree.instances → unknown_unit tree request.units ≡ None → overlapping tree request.units ≡ None → AreApart tree (listed_of tree request)
  apart-from request named known apart =
      record {
        lower = All-map (λ k. 0 < k) (instance_of tree) request.units (λ k d lt. (places k d lt).0);
        known = All-map (λ k. k < length tree.instances) (instance_of tree) request.units (λ k d lt. let p = places k d lt in omega (arith, p.1, named));
        apart = AllPairs-map (λ a b. (lies tree a b ≡ false) × (lies tree b a ≡ false)) (instance_of tree) request.units (λ i j d less lt. flip (or_parts (lies tree (instance_of tree (get_or request.units j d)) (instance_of tree (get_or request.units i d))) (lies tree (instance_of tree (get_or request.units i d)) (instance_of tree (get_or request.units j d))) (clear.among i j d less lt)));
        memories = λ k d lt. (let below = filter-below (λ j. is_among request.memories (path_at tree.memory_paths j)) 0 (length tree.memories) (listed_of tree request).memories refl k d lt in omega (arith, below));
        ascending = AllPairs-filter (λ a b. a < b) (λ j. is_among request.memories (path_at tree.memory_paths j)) (range_with_len 0 (length tree.memories)) (range-ascending (length tree.memories));
      }
    where
      all : All (λ path. is_instance_path tree path ≡ true) request.units
      all = none-found (is_instance_path tree) request.units known

      places : (k : ℕ) (d : List ℕ) → k < length request.units → (0 < instance_of tree (get_or request.units k d)) × (instance_of tree (get_or request.units k d) < length tree.paths)
      places k d lt = lower-place (get_or request.units k d) (all k d lt)

      clear : Unclashed (overlap tree) [] request.units
      clear = unclashed (overlap tree) [] request.units apart

      flip : {a b : Bool} → (a ≡ false) × (b ≡ false) → (b ≡ false) × (a ≡ false)
      flip p = (p.1, p.0)

-- for a request whose entries have no fault
module _ (design : Ordered) (request : Request) (none : first_of (entry_faults design.tree request) ≡ None) where
  -- the list of their faults is without one, so each of them is none
  entries-none : (i : ℕ) → get_or (entry_faults design.tree request) i None ≡ None
  entries-none i = none-at (entry_faults design.tree request) i none

  -- each unit is an instance path
  units-known : All (λ path. is_instance_path design.tree path ≡ true) request.units
  units-known = none-found (is_instance_path design.tree) request.units (none-map UnknownUnit (unknown_unit design.tree request.units) (entries-none 0))

  pub entries-apart : IsTree design.circuit design.tree → AreApart design.tree (listed_of design.tree request)
  entries-apart fits =
      apart-from design.tree request fits.named (none-map UnknownUnit (unknown_unit design.tree request.units) (entries-none 0)) (none-map Doubled (overlapping design.tree request.units) (entries-none 2))

-- for a request without a fault
module _ (design : Ordered) (request : Request) (none : first_fault design request ≡ None) where
  abbrev listed : Listed
  listed = listed_of design.tree request

  abbrev signals : List ℕ
  signals = plan_signals design.circuit design.tree request

  abbrev of_channels : List (Option CutFault)
  of_channels = channel_faults design.circuit request listed signals

  abbrev of_pipes : List (Option CutFault)
  of_pipes = pipe_faults design.circuit request signals

  abbrev of_clocks : List (Option CutFault)
  of_clocks = clock_faults design.tree request

  pub no-entry-fault : first_of (entry_faults design.tree request) ≡ None
  no-entry-fault = none-front (entry_faults design.tree request) (of_channels ++ (of_pipes ++ of_clocks)) none

  -- nor do the channels, the pipes and the clocks have one
  later-none : first_of (later_faults design.circuit design.tree request) ≡ None
  later-none = none-back (entry_faults design.tree request) (of_channels ++ (of_pipes ++ of_clocks)) none

  last-none : first_of (of_pipes ++ of_clocks) ≡ None
  last-none = none-back of_channels (of_pipes ++ of_clocks) later-none

  pub channels-none : (i : ℕ) → get_or (channel_faults design.circuit request (listed_of design.tree request) (plan_signals design.circuit design.tree request)) i None ≡ None
  channels-none i = none-at of_channels i (none-front of_channels (of_pipes ++ of_clocks) later-none)

  pub pipes-none : (i : ℕ) → get_or (pipe_faults design.circuit request (plan_signals design.circuit design.tree request)) i None ≡ None
  pipes-none i = none-at of_pipes i (none-front of_pipes of_clocks last-none)

  -- the ratios of clocks are in range
  pub faultless-ratios : ratio_fault request.clocks ≡ None
  faultless-ratios = none-at of_clocks 1 (none-back of_pipes of_clocks last-none)

  -- each piped name is that of a channel, and none stands twice
  pub faultless-pipes : All (λ name. is_among (channel_names design.circuit (plan_signals design.circuit design.tree request)) name ≡ true) request.pipe
  faultless-pipes =
      none-found (is_among (channel_names design.circuit signals)) request.pipe (none-map UnknownPipe (find (λ name. not (is_among (channel_names design.circuit signals) name)) request.pipe) (pipes-none 0))

  pub faultless-pipes-once : AllPairs (λ a b. a ≢ b) request.pipe
  faultless-pipes-once =
      let clear = unclashed same_path [] request.pipe (none-map DoubledPipe (repeated request.pipe) (pipes-none 1)) in
      λ i j d less lt same. true≢false (sym ((bytes_eq-Decides (get_or request.pipe j d) (get_or request.pipe i d)).1 (sym same)) ∙ clear.among i j d less lt)

  pub faultless-known : All (λ path. is_instance_path design.tree path ≡ true) request.units
  faultless-known = units-known design request no-entry-fault

  pub faultless-apart : IsTree design.circuit design.tree → AreApart design.tree (listed_of design.tree request)
  faultless-apart fits = entries-apart design request no-entry-fault fits

  over : (limit n : ℕ) (m : ℕ) → (if nat_lt limit n then Some m else None) ≡ None → n ≤ limit
  over limit n m e = by (cases_lt limit n)
    where
      by : (limit < n) ⊎ (n ≤ limit) → n ≤ limit
      by (inr le) = le
      by (inl lt) = absurd (clash (ap (λ b. if b then Some m else None) (sym (lt-ltb limit n lt)) ∙ e))
        where
          clash : Some m ≡ None → ⊥
          clash e = absurd (cc)

  pub faultless-few : AreFew design.circuit design.tree request
  faultless-few =
      let wires = plan_wires design.circuit design.tree request in
      let many = over most_channels (length signals) (length signals) (none-map TooManyChannels (too_many_channels signals) (channels-none 3)) in
      let count = length-map wires (λ (w : Wire). w.signal) in
      record {
        units = over most_units (length listed.units + length listed.memories) (length listed.units + length listed.memories) (none-map TooManyUnits (too_many_units listed) (channels-none 2));
        channels = omega (arith, many, count);
      }

-- ---- capacities

-- the capacities of a request without a fault are in range
pub range-free : (design : Ordered) (request : Request) → first_fault design request ≡ None → range_fault request.capacity ≡ None
range-free design request none = channels-none design request none 1

-- what holds of each number in the range of capacities, and of the default, holds of the capacity of a channel
capacity-in-range : (P : ℕ → Type 0) → ((n : ℕ) → 0 < n → n ≤ capacity_limit → P n) → (capacities : List (List ℕ × ℕ)) (default : ℕ) (name : List ℕ) → out_of_range capacities ≡ None → P default → P (capacity_of capacities default name)
capacity-in-range P range [] default name none own = own
capacity-in-range P range (pair ∷ capacities) default name none own =
    by ((pair.1 == 0) || nat_lt capacity_limit pair.1) refl none (λ more. capacity-in-range P range capacities default name more own)
  where
    some : (n : ℕ) → (n == 0) ≡ false → 0 < n
    some zero e = absurd (cc)
    some (suc n) e = omega arith

    either : (b : Bool) → P pair.1 → P (capacity_of capacities default name) → P (unwrap_or (option_map (λ pair. pair.1) (cond b (Some pair) (find (λ pair. bytes_eq pair.0 name) capacities))) default)
    either true here rest = here
    either false here rest = rest

    by : (b : Bool) → ((pair.1 == 0) || nat_lt capacity_limit pair.1) ≡ b → cond b (Some pair) (out_of_range capacities) ≡ None → (out_of_range capacities ≡ None → P (capacity_of capacities default name)) → P (capacity_of (pair ∷ capacities) default name)
    by true e none rest = absurd (cc)
    by false e none rest =
        either (bytes_eq pair.0 name)
        (range pair.1 (some pair.1 (or_parts (pair.1 == 0) (nat_lt capacity_limit pair.1) e).0) (ltb-false capacity_limit pair.1 (or_parts (pair.1 == 0) (nat_lt capacity_limit pair.1) e).1))
        (rest none)

pub capacity-is : (P : ℕ → Type 0) → ((n : ℕ) → 0 < n → n ≤ capacity_limit → P n) → (capacities : List (List ℕ × ℕ)) (default : ℕ) (name : List ℕ) → range_fault capacities ≡ None → P default → P (capacity_of capacities default name)
capacity-is P range capacities default name none own = capacity-in-range P range capacities default name (none-map (λ pair. OutOfRange pair.0 pair.1) (out_of_range capacities) none) own
