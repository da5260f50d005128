-- A plan with few units and few channels has few machines that are no bridges: each source gives a channel, and each tray takes one.
use Rattle.std.proofs.Common.{◌≡◌, ◌≢◌, ℕ, zero, suc, ◌+◌, ◌-◌, ◌<◌, ◌≤◌, List, [], ◌∷◌, true, Option, Some, None, length, map, get_or, refl, sym, ◌∙◌, ap, subst, arith, false}
use Rattle.std.specs.Prelude.{◌==◌, is_none, All, AllPairs, Contains}
use Rattle.std.proofs.lemmas.Bool.{eqb-true, true≢false}
use Rattle.std.proofs.lemmas.List.{get_or_default, length-map}
use Rattle.std.proofs.lemmas.List.Kept.{AllPairs-cons}
use Rattle.gg_bits.specs.Lists.{count_below}
use Rattle.gg_flat.proofs.ListLemmas.{Contains-map}
use Rattle.gg_flat.specs.declared.piece.Driver.TheVariants.{Input}
use Rattle.gg_flat.specs.Circuit.{driver_at}
use Rattle.gg_flat.specs.Line.{value_at}
use Rattle.gg_order.specs.Design.{Ordered, IsDesign}
use Rattle.gg_part.specs.KeepsToTree.{KeepsToTree}
use Rattle.gg_part.proofs.FrameLemmas.{length-once}
use Rattle.gg_partfile.specs.declared.request.Request.{Request}
use Rattle.gg_cut_plan.specs.declared.wires.Wire.{Wire}
use Rattle.gg_cut_plan.specs.Listed.{listed_of}
use Rattle.gg_cut_plan.specs.Ports.{Bridges, first_bridge, first_kept_tray, giver_of, keeper_of, plan_bridges, undriven, unseen}
use Rattle.gg_cut_plan.specs.Direct.{plan_hub, plan_wires}
use Rattle.gg_cut_plan.proofs.CountLemmas.{before-found}
use Rattle.gg_cut_plan.proofs.PortLemmas.{are-bridges, giver-open, keeper-open}
use Rattle.gg_cut_plan.specs.Plan.{channels_from, channels_to, givens_of, signals_of}
use Rattle.gg_cut_plan.specs.inside.Ports.{AreBridges}
use Rattle.gg_cut_split.specs.inside.Apart.{AreApart, AreFew}
use Rattle.gg_cut_split.proofs.ClosedLemmas.OnceLemmas.{outs-once}
use Rattle.gg_cut_routes.specs.inside.Routes.{AreRoutes}
use Rattle.gg_cut_routes.proofs.RouteLemmas.{chosen-out}
use Rattle.gg_cut_routes.proofs.ChoiceLemmas.{any-wire}

-- ---- numbers that are all in a list

module _ (xs : List ℕ) (a : ℕ) where
  -- the places of the n numbers from a on
  record Places (n : ℕ) : Type 0 where
    places : List ℕ
    count : length places ≡ n
    within : All (λ q. q < length xs) places
    low : All (λ q. get_or xs q 0 < a + n) places
    once : AllPairs (λ p q. p ≢ q) places

  more : (n : ℕ) → Contains xs (a + n) → Places n → Places (suc n)
  more n h rest =
      record {
        places = h.0 ∷ rest.places;
        count = (let c = rest.count in omega (arith, c));
        within = within;
        low = low;
        once = AllPairs-cons (λ p q. p ≢ q) h.0 rest.places (λ k d lt same. other k d lt same) rest.once;
      }
    where
      is : get_or xs h.0 0 ≡ a + n
      is = get_or_default xs h.0 0 (a + n) h.1 ∙ h.2

      other : (k d : ℕ) → k < length rest.places → h.0 ≢ get_or rest.places k d
      other k d lt same =
          let below = rest.low k d lt in
          let here : get_or xs (get_or rest.places k d) 0 ≡ a + n = subst (λ q. get_or xs q 0 ≡ a + n) same is in
          absurd (omega (arith, below, here))

      within : All (λ q. q < length xs) (h.0 ∷ rest.places)
      within zero d lt = h.1
      within (suc k) d lt = rest.within k d (omega (arith, lt))

      low : All (λ q. get_or xs q 0 < a + suc n) (h.0 ∷ rest.places)
      low zero d lt = omega (arith, is)
      low (suc k) d lt = let below = rest.low k d (omega (arith, lt)) in omega (arith, below)

  places-of : (n : ℕ) → ((p : ℕ) → p < n → Contains xs (a + p)) → Places n
  places-of zero each =
      record {
        places = [];
        count = refl;
        within = λ k d lt. absurd (omega (arith, lt));
        low = λ k d lt. absurd (omega (arith, lt));
        once = λ i j d less lt. absurd (omega (arith, lt));
      }
  places-of (suc n) each = more n (each n (omega arith)) (places-of n (λ p lt. each p (omega (arith, lt))))

  pub long : (n : ℕ) → ((p : ℕ) → p < n → Contains xs (a + p)) → n ≤ length xs
  long n each =
      let at = places-of n each in
      let c = at.count in
      let fits = length-once at.places (length xs) at.once at.within in
      omega (arith, c, fits)

-- ---- numbers that are each once

module _ (ys : List ℕ) where
  -- the places of these numbers
  record PlacesOf (xs : List ℕ) : Type 0 where
    at : List ℕ
    count : length at ≡ length xs
    inside : All (λ q. q < length ys) at
    holds : (k : ℕ) → k < length xs → get_or ys (get_or at k 0) 0 ≡ get_or xs k 0
    apart : AllPairs (λ p q. p ≢ q) at

  -- one more
  place-more : (x : ℕ) (xs : List ℕ) → AllPairs (λ a b. a ≢ b) (x ∷ xs) → Contains ys x → PlacesOf xs → PlacesOf (x ∷ xs)
  place-more x xs once h rest =
      record {
        at = h.0 ∷ rest.at;
        count = ap suc rest.count;
        inside = inside;
        holds = holds;
        apart = AllPairs-cons (λ p q. p ≢ q) h.0 rest.at other rest.apart;
      }
    where
      is : get_or ys h.0 0 ≡ x
      is = get_or_default ys h.0 0 x h.1 ∙ h.2

      inside : All (λ q. q < length ys) (h.0 ∷ rest.at)
      inside zero d lt = h.1
      inside (suc k) d lt = rest.inside k d (omega (arith, lt))

      holds : (k : ℕ) → k < length (x ∷ xs) → get_or ys (get_or (h.0 ∷ rest.at) k 0) 0 ≡ get_or (x ∷ xs) k 0
      holds zero lt = is
      holds (suc k) lt = rest.holds k (omega (arith, lt))

      other : (k d : ℕ) → k < length rest.at → h.0 ≢ get_or rest.at k d
      other k d lt same =
          let low : k < length xs = omega (arith, lt, rest.count) in
          once 0 (suc k) 0 (omega arith) (omega (arith, low)) (sym is ∙ ap (λ q. get_or ys q 0) (same ∙ get_or_default rest.at k d 0 lt) ∙ rest.holds k low)

  places-for : (xs : List ℕ) → AllPairs (λ a b. a ≢ b) xs → ((k : ℕ) → k < length xs → Contains ys (get_or xs k 0)) → PlacesOf xs
  places-for [] once each =
      record {
        at = [];
        count = refl;
        inside = λ k d lt. absurd (omega (arith, lt));
        holds = λ k lt. absurd (omega (arith, lt));
        apart = λ i j d less lt. absurd (omega (arith, lt));
      }
  places-for (x ∷ xs) once each = place-more x xs once (each 0 (omega arith)) (places-for xs (λ i j d less lt. once (suc i) (suc j) d (omega (arith, less)) (omega (arith, lt))) (λ k lt. each (suc k) (omega (arith, lt))))

  pub contained-few : (xs : List ℕ) → AllPairs (λ a b. a ≢ b) xs → ((k : ℕ) → k < length xs → Contains ys (get_or xs k 0)) → length xs ≤ length ys
  contained-few xs once each =
      let p = places-for xs once each in
      let c = p.count in
      let fits = length-once p.at (length ys) p.apart p.inside in
      omega (arith, c, fits)

-- ---- machines

none-at : (o : Option ℕ) → is_none o ≡ true → o ≡ None
none-at None e = refl
none-at (Some k) e = absurd (true≢false (sym e))

module _ (design : Ordered) (request : Request) (are : AreRoutes design (listed_of design.tree request) request.bridges (plan_hub design.circuit design.tree request)) where
  abbrev wires : List Wire
  wires = plan_wires design.circuit design.tree request

  abbrev b : Bridges
  b = plan_bridges design.circuit design.tree request

  sources : count_below (undriven b) b.ins ≤ length wires
  sources =
      let fits = long (map (λ (w : Wire). w.producer) wires) b.first (count_below (undriven b) b.ins) each in
      let same = length-map wires (λ (w : Wire). w.producer) in
      omega (arith, fits, same)
    where
      each : (q : ℕ) → q < count_below (undriven b) b.ins → Contains (map (λ (w : Wire). w.producer) wires) (b.first + q)
      each q lt =
          let f = before-found (undriven b) b.ins q lt in
          let m = giver_of b f.place in
          let none = none-at (b.driver f.place) f.kept in
          let r = chosen-out wires any-wire (λ (w : Wire). w.producer == m) (λ (w : Wire). w.given) _ (are.sources f.place f.known none).one in
          subst (Contains (map (λ (w : Wire). w.producer) wires)) (eqb-true r.item.producer m r.passes ∙ giver-open b f.place none ∙ ap (λ n. b.first + n) f.is) (Contains-map (λ (w : Wire). w.producer) wires r.item r.among)

  trays : count_below (unseen b) b.outs ≤ length wires
  trays =
      let fits = long (map (λ (w : Wire). w.consumer) wires) (first_kept_tray b) (count_below (unseen b) b.outs) each in
      let same = length-map wires (λ (w : Wire). w.consumer) in
      omega (arith, fits, same)
    where
      each : (q : ℕ) → q < count_below (unseen b) b.outs → Contains (map (λ (w : Wire). w.consumer) wires) (first_kept_tray b + q)
      each q lt =
          let f = before-found (unseen b) b.outs q lt in
          let m = keeper_of b f.place in
          let none = none-at (b.viewer f.place) f.kept in
          let r = chosen-out wires any-wire (λ (w : Wire). w.consumer == m) (λ (w : Wire). w.signal) _ (are.trays f.place f.known none).one in
          subst (Contains (map (λ (w : Wire). w.consumer) wires)) (eqb-true r.item.consumer m r.passes ∙ keeper-open b f.place none ∙ ap (λ n. first_kept_tray b + n) f.is) (Contains-map (λ (w : Wire). w.consumer) wires r.item r.among)

  pub few-machines : AreFew design.circuit design.tree request → first_bridge (plan_bridges design.circuit design.tree request) ≤ 33025
  few-machines few =
      let ins = sources in
      let outs = trays in
      let units = few.units in
      let channels = few.channels in
      omega (arith, ins, outs, units, channels)

-- each top input is given by a channel, and each out-signal is taken by one, whichever machines are at them
module _ (design : Ordered) (request : Request) (is : IsDesign design) (keeps : KeepsToTree design.circuit design.tree) (apart : AreApart design.tree (listed_of design.tree request)) (are : AreRoutes design (listed_of design.tree request) request.bridges (plan_hub design.circuit design.tree request)) where
  abbrev all : List Wire
  all = plan_wires design.circuit design.tree request

  abbrev ports : Bridges
  ports = plan_bridges design.circuit design.tree request

  known : AreBridges (plan_bridges design.circuit design.tree request)
  known = are-bridges design.circuit (length design.circuit.outs - length design.tree.stops) (listed_of design.tree request) request.bridges

  given-at : (m s : ℕ) → Contains (givens_of all (channels_from all m)) s → Contains (map (λ (w : Wire). w.given) all) s
  given-at m s h =
      let r = chosen-out all any-wire (λ (w : Wire). w.producer == m) (λ (w : Wire). w.given) s h in
      subst (Contains (map (λ (w : Wire). w.given) all)) r.is (Contains-map (λ (w : Wire). w.given) all r.item r.among)

  taken-at : (m s : ℕ) → Contains (signals_of all (channels_to all m)) s → Contains (map (λ (w : Wire). w.signal) all) s
  taken-at m s h =
      let r = chosen-out all any-wire (λ (w : Wire). w.consumer == m) (λ (w : Wire). w.signal) s h in
      subst (Contains (map (λ (w : Wire). w.signal) all)) r.is (Contains-map (λ (w : Wire). w.signal) all r.item r.among)

  input-given : (p : ℕ) → p < length design.circuit.ins → Contains (map (λ (w : Wire). w.given) all) (value_at design.circuit.ins p)
  input-given p lt = by (ports.driver p) refl
    where
      by : (o : Option ℕ) → ports.driver p ≡ o → Contains (map (λ (w : Wire). w.given) all) (value_at design.circuit.ins p)
      by None e = given-at (giver_of ports p) (value_at design.circuit.ins p) (are.sources p lt e).one
      by (Some k) e = given-at (first_bridge ports + k) (value_at design.circuit.ins p) (((are.bridges k (known.drivers p k e)).gives (value_at design.circuit.ins p)).1 (p, lt, e, refl))

  output-taken : (p : ℕ) → p < length design.circuit.outs → Contains (map (λ (w : Wire). w.signal) all) (value_at design.circuit.outs p)
  output-taken p lt = by (ports.viewer p) refl
    where
      by : (o : Option ℕ) → ports.viewer p ≡ o → Contains (map (λ (w : Wire). w.signal) all) (value_at design.circuit.outs p)
      by None e = taken-at (keeper_of ports p) (value_at design.circuit.outs p) (are.trays p lt e).one
      by (Some k) e = taken-at (first_bridge ports + k) (value_at design.circuit.outs p) (((are.bridges k (known.viewers p k e)).takes (value_at design.circuit.outs p)).1 (p, lt, e, refl))

  ins-once : AllPairs (λ a b. a ≢ b) design.circuit.ins
  ins-once i j d less lt same =
      let low : i < length design.circuit.ins = omega (arith, less, lt) in
      let read = λ (p : ℕ) (inside : p < length design.circuit.ins). ap (driver_at design.circuit) (get_or_default design.circuit.ins p d 0 inside) ∙ (is.formed.ins p inside).1 in
      let both : Input i ≡ Input j = sym (read i low) ∙ ap (driver_at design.circuit) same ∙ read j lt in
      let equal : i ≡ j = cc in
      absurd (omega (arith, less, equal))

  pub few-ports : (length design.circuit.ins ≤ length all) × (length design.circuit.outs ≤ length all)
  few-ports =
      let ins = contained-few (map (λ (w : Wire). w.given) all) design.circuit.ins ins-once input-given in
      let outs = contained-few (map (λ (w : Wire). w.signal) all) design.circuit.outs (outs-once design.circuit design.tree (listed_of design.tree request) keeps.fitting keeps.scoped apart) output-taken in
      let a = length-map all (λ (w : Wire). w.given) in
      let b = length-map all (λ (w : Wire). w.signal) in
      (omega (arith, ins, a), omega (arith, outs, b))
