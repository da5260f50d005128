-- The tables of a plan make its reference circuit.
use Rattle.std.proofs.Common.{◌≡◌, ◌≢◌, ℕ, zero, suc, ◌+◌, ◌<◌, ◌⊎◌, List, [], ◌++◌, Bool, true, false, Option, Some, None, codes, length, map, get_or, refl, sym, ◌∙◌, ap, subst, inl, inr, eq-eqb, arith}
use Rattle.std.specs.Prelude.{◌&&◌, ◌==◌, ◌^◌, All, AllPairs, Contains, filter, option_map, unwrap_or, replicate}
use Rattle.std.specs.List.{list_any, range_with_len}
use Rattle.std.proofs.lemmas.Bool.{and_from, and_parts, cases_Bool, eqb-true}
use Rattle.std.proofs.lemmas.List.{length-map, get_or_default, get_or-map}
use Rattle.std.proofs.lemmas.List.Elements.{All-filter, All-map, Contains-get_or}
use Rattle.std.proofs.lemmas.List.Kept.{AllPairs-filter}
use Rattle.std.proofs.lemmas.List.FromFn.{get_or-range_with_len, length-range_with_len}
use Rattle.std.proofs.lemmas.List.Sums.{length-filter, count_by-le-length}
use Rattle.gg_flat.specs.declared.piece.Driver.TheVariants.{Input, Held}
use Rattle.gg_flat.specs.Circuit.{FlatCircuit, driver_at}
use Rattle.gg_flat.specs.Line.{value_at}
use Rattle.gg_flat_tree.specs.declared.tree.MemoryInstance.{MemoryInstance}
use Rattle.gg_flat_tree.specs.Tree.{path_at}
use Rattle.gg_flat.specs.WellFormed.{MayDrive}
use Rattle.gg_flat.proofs.ListLemmas.{Contains-filter, Contains-map, filter-cases, in-range}
use Rattle.gg_order.specs.Design.{Ordered, IsDesign}
use Rattle.gg_cut_plan.specs.declared.listed.Listed.{Listed}
use Rattle.gg_cut_plan.specs.declared.plan.Channel.{Channel}
use Rattle.gg_cut_plan.specs.declared.plan.Plan.{Plan}
use Rattle.gg_cut_plan.specs.declared.wires.Wire.{Wire}
use Rattle.gg_cut_plan.specs.Channels.{wire, wires_of}
use Rattle.gg_cut_plan.specs.Listed.{first_place, listed_of, owner_of, memory_owner}
use Rattle.gg_cut_plan.specs.Plan.{wire_at, IsInner}
use Rattle.gg_cut_plan.specs.Direct.{Hub, hub_of, routes, plan_hub, is_piped, plan_wires}
use Rattle.gg_cut_plan.proofs.PathLemmas.{first_place-Some}
use Rattle.gg_cut_plan.proofs.OriginLemmas.{any-finds, finds-any, clash}
use Rattle.gg_cut_split.specs.inside.Apart.{AreApart}
use Rattle.gg_cut_split.proofs.ClosedLemmas.FaultlessLemmas.{faultless-apart}
use Rattle.gg_cut_split.proofs.ClosedLemmas.ListLemmas.{AllPairs-map, map-cases}
use Rattle.gg_cut_split.proofs.ClosedLemmas.PlaceLemmas.{same-bool}
use Rattle.gg_cut_routes.proofs.ChoiceLemmas.{any-wire}
use Rattle.gg_cut_routes.proofs.RouteLemmas.{IsBase, routes-known, routes-once}
use Rattle.gg_cut_routes.proofs.PlanLemmas.{plan-base}
use Rattle.gg_cut_routes.proofs.RoutedLemmas.{routed-base}
use Rattle.gg_cut_split.specs.declared.owned.Owned.{Owned}
use Rattle.gg_cut_pipes.specs.declared.tables.Tables.{Tables}
use Rattle.gg_cut_reference.specs.Links.{is_carried, pipes_of, maker_of, seen_by}
use Rattle.gg_cut_reference.specs.Made.{plan_reference, reference_of, holder_of, keeper_of, holds}
use Rattle.gg_cut_reference.specs.inside.Made.{views_in}
use Rattle.gg_cut_pipes.specs.inside.CanPipe.{CanPipe}
use Rattle.gg_cut_pipes.specs.inside.Tables.{views_by, seen_in, AreOwned, AreTables, CanFill, IsFilled, piped_places, piped_signals, piped_takers}
use Rattle.gg_cut_reference.proofs.HolderLemmas.{holder-is, holds-is, keeper-is}
use Rattle.gg_cut_reference.proofs.OneLemmas.{not-input}
use Rattle.gg_cut_reference.proofs.EntryLemmas.{maker-same}
use Rattle.gg_cut_reference.proofs.SeenLemmas.{pipes-known, pipes-once}
use Rattle.gg_cut_reference.proofs.PlanLemmas.{plan-formed}
use Rattle.gg_cut_pipes.proofs.TableLemmas.{chosen-agree, few-among, piped_routes, kept-is, seen-is, makers-are}
use Rattle.gg_cut_reference.proofs.AgreeLemmas.{AreAgreed, filter-agree, reference-agree}

repeated : (n x r : ℕ) → r < n → value_at (replicate n x) r ≡ x
repeated zero x r lt = absurd (omega (arith, lt))
repeated (suc n) x zero lt = refl
repeated (suc n) x (suc r) lt = repeated n x r (omega (arith, lt))

-- the signals and the pipes are few
pub few-pipes : (design : Ordered) (plan : Plan) (can : CanPipe design plan) → length design.circuit.signals + length (piped_signals (length design.circuit.signals) plan.channels) < 2 ^ 32
few-pipes design plan can =
    let few = can.few in
    let chosen = length-filter (λ (channel : Channel). channel.pipe) plan.channels in
    let most = count_by-le-length (λ (channel : Channel). channel.pipe) plan.channels in
    let long = length-map (filter (λ (channel : Channel). channel.pipe) plan.channels) (λ (channel : Channel). channel.signal) in
    let among = few-among (piped_places plan.channels) (length design.circuit.signals) in
    omega (arith, few, chosen, most, long, among)

module _ (design : Ordered) (plan : Plan) (is : IsDesign design) (can : CanPipe design plan) where
  abbrev circuit : FlatCircuit
  circuit = design.circuit

  abbrev hub : Hub
  hub = plan_hub design.circuit design.tree can.request

  abbrev listed : Listed
  listed = listed_of design.tree can.request

  base : IsBase (plan_hub design.circuit design.tree can.request)
  base = routed-base design can.request is can.keeps can.none

  pub plan-apart : AreApart design.tree plan.listed
  plan-apart = subst (AreApart design.tree) (sym can.is.listed) (faultless-apart design can.request can.none can.keeps.fitting)

  -- ---- channels

  total : length plan.channels ≡ length (routes hub)
  total = can.is.channel_total

  -- the channel at a place
  wires-at : (c : ℕ) (w : Wire) → c < length plan.channels → wire_at (plan_wires circuit design.tree can.request) c ≡ get_or (routes hub) c w
  wires-at c w lt = get_or_default (routes hub) c (wire 0 0 0) w (omega (arith, lt, total))

  -- ---- pipes

  places-are : piped_places plan.channels ≡ map (λ (w : Wire). w.signal) (piped_routes (plan_hub design.circuit design.tree can.request))
  places-are =
      chosen-agree (λ (channel : Channel). channel.signal) (λ (w : Wire). w.signal) (λ (channel : Channel). channel.pipe) (λ (w : Wire). hub.piped w.signal) plan.channels (routes hub) total
      (λ c x w lt. let at = can.is.channel c x lt in let same = wires-at c w lt in (at.signal ∙ ap (λ (v : Wire). v.signal) same, at.pipe ∙ ap (λ (v : Wire). hub.piped v.signal) same))

  pub takers-are : piped_takers plan.channels ≡ map (λ (w : Wire). w.consumer) (piped_routes (plan_hub design.circuit design.tree can.request))
  takers-are =
      chosen-agree (λ (channel : Channel). channel.consumer) (λ (w : Wire). w.consumer) (λ (channel : Channel). channel.pipe) (λ (w : Wire). hub.piped w.signal) plan.channels (routes hub) total
      (λ c x w lt. let at = can.is.channel c x lt in let same = wires-at c w lt in (at.consumer ∙ ap (λ (v : Wire). v.consumer) same, at.pipe ∙ ap (λ (v : Wire). hub.piped v.signal) same))

  pub pipes-are : piped_signals (length design.circuit.signals) plan.channels ≡ pipes_of (plan_hub design.circuit design.tree can.request)
  pipes-are =
      ap (λ (places : List ℕ). filter (λ s. list_any (λ place. s == place) places) (range_with_len 0 (length circuit.signals))) places-are
      ∙ filter-agree (λ s. list_any (λ place. s == place) signals) (λ s. hub.piped s && is_carried hub s) 0 (length circuit.signals) (λ s lt. same-bool (list_any (λ place. s == place) signals) (hub.piped s && is_carried hub s) (only s) (back s))
    where
      signals : List ℕ
      signals = map (λ (w : Wire). w.signal) (piped_routes hub)

      only : (s : ℕ) → list_any (λ place. s == place) signals ≡ true → (hub.piped s && is_carried hub s) ≡ true
      only s e =
          let found = any-finds (λ place. s == place) signals e in
          let at = map-cases (λ (w : Wire). w.signal) (piped_routes hub) found.item found.among in
          let w = get_or (piped_routes hub) at.place any-wire in
          let kept = filter-cases (λ (v : Wire). hub.piped v.signal) (routes hub) w (Contains-get_or (piped_routes hub) at.place any-wire at.within) in
          let of = at.holds any-wire ∙ sym (eqb-true s found.item found.passes) in
          and_from (hub.piped s) (is_carried hub s) (subst (λ t. hub.piped t ≡ true) of kept.passes) (finds-any (λ (v : Wire). v.signal == s) (routes hub) w kept.among (eq-eqb w.signal s of))

      back : (s : ℕ) → (hub.piped s && is_carried hub s) ≡ true → list_any (λ place. s == place) signals ≡ true
      back s e =
          let parts = and_parts (hub.piped s) (is_carried hub s) e in
          let w = any-finds (λ (v : Wire). v.signal == s) (routes hub) parts.1 in
          let of = eqb-true w.item.signal s w.passes in
          finds-any (λ place. s == place) signals w.item.signal
          (Contains-map (λ (v : Wire). v.signal) (piped_routes hub) w.item (Contains-filter (λ (v : Wire). hub.piped v.signal) (routes hub) w.item w.among (ap hub.piped of ∙ parts.0)))
          (eq-eqb s w.item.signal (sym of))

  pub known-places : All (λ s. s < length design.circuit.signals) (piped_places plan.channels)
  known-places =
      subst (All (λ s. s < length circuit.signals)) (sym places-are)
      (All-map (λ s. s < length circuit.signals) (λ (w : Wire). w.signal) (piped_routes hub)
      (All-filter (λ (w : Wire). hub.piped w.signal) (λ (w : Wire). w.signal < length circuit.signals) (routes hub) (routes-known hub base)))

  places-once : AllPairs (λ a b. a ≢ b) (piped_places plan.channels)
  places-once =
      subst (AllPairs (λ a b. a ≢ b)) (sym places-are)
      (AllPairs-map (λ a b. a ≢ b) (λ (w : Wire). w.signal) (piped_routes hub)
      (AllPairs-filter (λ (r s : Wire). r.signal ≢ s.signal) (λ (w : Wire). hub.piped w.signal) (routes hub) (routes-once hub base)))

  pub known-pipes : All (λ s. s < length design.circuit.signals) (piped_signals (length design.circuit.signals) plan.channels)
  known-pipes = subst (All (λ s. s < length circuit.signals)) (sym pipes-are) (λ k d lt. subst (λ s. s < length circuit.signals) (sym (get_or_default (pipes_of hub) k d 0 lt)) (pipes-known hub base k lt))

  -- no path comes twice
  pub distinct-paths : AllPairs (λ a b. a ≢ b) (design.circuit.paths ++ map (λ c. codes "pipe:" ++ path_at design.circuit.paths c) (piped_signals (length design.circuit.signals) plan.channels))
  distinct-paths =
      subst (λ (pipes : List ℕ). AllPairs (λ a b. a ≢ b) (circuit.paths ++ map (λ c. codes "pipe:" ++ path_at circuit.paths c) pipes)) (sym pipes-are)
      (plan-formed design can.request is can.keeps can.held can.none can.fresh).distinct

  module _ (owned : Owned) (owns : AreOwned design plan.listed owned) where
    -- the channels before, without bridges
    abbrev plain : Hub
    plain = hub_of design.circuit design.tree (listed_of design.tree can.request) (is_piped design.circuit can.request) [] can.request.direct

    own : IsBase (hub_of design.circuit design.tree (listed_of design.tree can.request) (is_piped design.circuit can.request) [] can.request.direct)
    own = plan-base design listed (is_piped design.circuit can.request) [] can.request.direct is can.keeps (faultless-apart design can.request can.none can.keeps.fitting)

    wires-are : owned.wires ≡ wires_of design.circuit design.tree (listed_of design.tree can.request) []
    wires-are = owns.wires ∙ ap (λ (l : Listed). wires_of circuit design.tree l []) can.is.listed

    pub can-fill : CanFill design.circuit plan.channels (piped_signals (length design.circuit.signals) plan.channels) owned
    can-fill =
        record {
          places = known-places;
          places_once = places-once;
          known = known-pipes;
          once = subst (AllPairs (λ a b. a ≢ b)) (sym pipes-are) (pipes-once hub base);
          few = few-pipes design plan can;
          held = can.held;
          registers = λ s r lt held. (subst (MayDrive circuit s) held (is.formed.drivers s lt)).0;
          wires = subst (λ n. All (λ (w : Wire). w.signal < n) owned.wires) (sym owns.count) (subst (All (λ (w : Wire). w.signal < length circuit.signals)) (sym wires-are) own.known);
          wires_once = subst (AllPairs (λ (v w : Wire). v.signal ≢ w.signal)) (sym wires-are) own.once;
        }

    module _ (tables : Tables) (are : AreTables design.circuit plan.channels (piped_signals (length design.circuit.signals) plan.channels) owned tables) where
      pipes : IsFilled (pipes_of hub) (range_with_len (length circuit.signals) (length (pipes_of hub))) (length (pipes_of hub)) (replicate (length circuit.signals) 0) tables.pipes
      pipes = subst (λ (l : List ℕ). IsFilled l (range_with_len (length circuit.signals) (length l)) (length l) (replicate (length circuit.signals) 0) tables.pipes) pipes-are are.pipes

      takers : IsFilled (map (λ (r : Wire). r.signal) (piped_routes hub)) (map (λ (r : Wire). r.consumer) (piped_routes hub)) (length (map (λ (r : Wire). r.signal) (piped_routes hub))) (replicate (length circuit.signals) 0) tables.takers
      takers =
          subst (λ (l : List ℕ). IsFilled l (map (λ (r : Wire). r.consumer) (piped_routes hub)) (length l) (replicate (length circuit.signals) 0) tables.takers) places-are
          (subst (λ (l : List ℕ). IsFilled (piped_places plan.channels) l (length (piped_places plan.channels)) (replicate (length circuit.signals) 0) tables.takers) takers-are are.takers)

      -- the machine with a driver that isn't an input's
      makers : (s : ℕ) → s < length circuit.signals → ((place : ℕ) → driver_at circuit s ≢ Input place) → value_at tables.makers s ≡ maker_of hub s
      makers s lt inner =
          makers-are plain own owned.signals tables.makers
          (subst (λ (l : List Wire). IsFilled (map (λ (w : Wire). w.signal) l) (map (λ (w : Wire). w.producer) l) (length l) owned.signals tables.makers) wires-are are.makers)
          (λ s lt inner. owns.signals s lt (subst (λ (l : List Wire). IsInner l s) (sym wires-are) inner) ∙ ap (λ l. owner_of circuit design.tree l s) can.is.listed) s lt
          ∙ sym (maker-same circuit design.tree listed is.formed can.keeps.fitting can.keeps.scoped (faultless-apart design can.request can.none can.keeps.fitting) hub.piped can.request.bridges hub.direct base s inner)

      -- a machine sees a signal as it should
      seen : (m s : ℕ) → seen_in tables m s ≡ seen_by hub m s
      seen m s = seen-is hub base tables pipes (λ n. n) takers m s (λ n. refl)

      -- the machine of the signal that holds a register, or the hub
      holder : (r t : ℕ) → r < length circuit.registers → seen_in tables (value_at tables.holders r) t ≡ seen_by hub (holder_of hub r) t
      holder r t lt = by (cases_Bool (list_any test numbers))
        where
          test : ℕ → Bool
          test s = holds r (driver_at circuit s)

          numbers : List ℕ
          numbers = range_with_len 0 (length circuit.signals)

          by : (list_any test numbers ≡ true) ⊎ (list_any test numbers ≡ false) → seen_in tables (value_at tables.holders r) t ≡ seen_by hub (holder_of hub r) t
          by (inl some) =
              let found = any-finds test numbers some in
              let s = found.item in
              let low : s < length circuit.signals = below s found.among in
              let held = holds-is r (driver_at circuit s) found.passes in
              ap (λ m. seen_in tables m t) (are.holders.held s r low held ∙ makers s low (λ place e. no-held r place (sym held ∙ e))) ∙ seen (maker_of hub s) t ∙ sym (ap (λ m. seen_by hub m t) (holder-is hub can.held s r low held))
            where
              no-held : (n place : ℕ) → Held n ≡ Input place → ⊥
              no-held n place e = absurd (cc)

              below : (s : ℕ) → Contains numbers s → s < length circuit.signals
              below s h =
                  let inside = h.1 in
                  let long = length-range_with_len 0 (length circuit.signals) in
                  let low : h.0 < length circuit.signals = omega (arith, inside, long) in
                  let read = get_or-range_with_len 0 (length circuit.signals) h.0 s low in
                  let same = h.2 in
                  omega (arith, low, read, same)
          by (inr none) = ap (λ m. seen_in tables m t) first ∙ seen 0 t ∙ sym (ap (λ m. seen_by hub m t) (zeroth (first_place test numbers) refl))
            where
              free : (s : ℕ) → s < length circuit.signals → ¬ (driver_at circuit s ≡ Held r)
              free s low held = clash (list_any test numbers) (finds-any test numbers s (in-range (length circuit.signals) s low) (ap (holds r) held ∙ eq-eqb r r refl)) none

              first : value_at tables.holders r ≡ 0
              first = are.holders.rest r free ∙ repeated (length circuit.registers) 0 r lt

              zeroth : (o : Option ℕ) → first_place test numbers ≡ o → holder_of hub r ≡ 0
              zeroth None e = ap (λ o. unwrap_or (option_map (maker_of hub) o) 0) e
              zeroth (Some k) e = let at = first_place-Some test numbers k e in absurd (clash (list_any test numbers) (finds-any test numbers (value_at numbers k) (Contains-get_or numbers k 0 at.within) (at.passes 0)) none)

      keeper : (k : ℕ) → k < length circuit.memories → value_at tables.keepers k ≡ keeper_of design.tree listed k
      keeper k lt =
          let count = can.keeps.fitting.count in
          let known : k < length design.tree.memories = omega (arith, lt, count) in
          ap (λ (l : List ℕ). value_at l k) are.keepers
          ∙ owns.memories k known
          ∙ ap (λ l. memory_owner design.tree l k) can.is.listed
          ∙ sym (keeper-is circuit design.tree listed can.keeps.fitting (memory_owner design.tree listed k) k (record { place = k; known = known; is = can.keeps.copies.number k known; owner = refl }))

      agreed : AreAgreed circuit (views_by tables) (views_in circuit design.tree listed (is_piped circuit can.request) can.request.bridges can.request.direct)
      agreed =
          record {
            maker = λ s t lt named. ap (λ m. seen_in tables m t) (makers s lt (not-input (driver_at circuit s) t named)) ∙ seen (maker_of hub s) t;
            holder = λ r t register lt found named. holder r t lt;
            keeper = λ k t lt field. ap (λ m. seen_in tables m t) (keeper k lt) ∙ seen (keeper_of design.tree listed k) t;
            kept = kept-is hub base tables pipes;
          }

      pub reference-is : reference_of design.circuit (views_by tables) (piped_signals (length design.circuit.signals) plan.channels) ≡ plan_reference design can.request
      reference-is =
          ap (reference_of circuit (views_by tables)) pipes-are
          ∙ reference-agree circuit (views_by tables) (views_in circuit design.tree listed (is_piped circuit can.request) can.request.bridges can.request.direct) (pipes_of hub) agreed
