-- The machines of a plan hold all registers of the circuit.
use Rattle.std.proofs.Common.{◌≡◌, ◌≢◌, ℕ, zero, suc, ◌<◌, ◌==◌, List, [], ◌∷◌, length, map, get_or, Bool, true, false, Option, None, Some, is_some, refl, sym, ap, ◌∙◌, subst, arith, ◌⊎◌, inl, inr}
use Rattle.std.specs.Prelude.{if◌then◌else◌, ◌&&◌, ◌||◌, All, Contains, option_and_then}
use Rattle.std.specs.List.{list_any}
use Rattle.std.proofs.lemmas.Bool.{and_parts, cases_Bool, eqb-true}
use Rattle.std.proofs.lemmas.List.{get_or_default}
use Rattle.std.proofs.lemmas.List.Elements.{All-head, All-tail, Contains-append_cases}
use Rattle.gg_flat.specs.declared.memory.Latency.{Latency}
use Rattle.gg_flat.specs.declared.memory.Latency.TheVariants.{One, Zero}
use Rattle.gg_flat.specs.declared.memory.Memory as own_memory
use Rattle.gg_flat.specs.declared.memory.Reader.{Reader}
use Rattle.gg_flat.specs.declared.piece.Driver.{Driver}
use Rattle.gg_flat.specs.declared.piece.Driver.TheVariants.{Held, Input, MemoryWord, ReadRegister}
use Rattle.gg_flat.specs.Circuit.{FlatCircuit, driver_at}
use Rattle.gg_flat.specs.Line.{value_at}
use Rattle.gg_flat.specs.WellFormed.{AreDriven, IsWellFormed, reader_driver}
use Rattle.gg_flat.proofs.ListLemmas.{Contains-map}
use Rattle.gg_part.specs.declared.part.Part.{Part}
use Rattle.gg_part.specs.Part.{IsFrom, IsPart}
use Rattle.gg_part.proofs.FormedLemmas.{IsWellFormed-part}
use Rattle.gg_order.specs.Design.{IsDesign, Ordered}
use Rattle.gg_partfile.specs.declared.request.Request.{Request}
use Rattle.gg_part.specs.KeepsToTree.{KeepsToTree}
use Rattle.gg_cut_reference.specs.Made.{AllHeld}
use Rattle.gg_cut_plan.specs.Ports.{ports_of, Bridges}
use Rattle.gg_cut_plan.specs.declared.listed.Listed.{Listed}
use Rattle.gg_cut_plan.specs.declared.plan.Body.{Body}
use Rattle.gg_cut_plan.specs.declared.plan.Body.TheVariants.{Cut, Memory, Source, Tray, Bridge}
use Rattle.gg_cut_plan.specs.declared.plan.Plan.{Plan}
use Rattle.gg_cut_plan.specs.declared.wires.Wire.{Wire}
use Rattle.gg_cut_plan.specs.Bridges.{Models}
use Rattle.gg_cut_plan.specs.Channels.{numbered, input_wires}
use Rattle.gg_cut_plan.specs.Direct.{Hub, bare_of, copied, direct_of, if_plain, if_wide, is_direct, is_own, is_taken, left_by, may_be_direct, origin, origin_within, plan_hub, routes}
use Rattle.gg_cut_plan.specs.Fault.{first_fault}
use Rattle.gg_cut_plan.specs.Listed.{listed_of, owner_of}
use Rattle.gg_cut_plan.specs.Machines.{first_source}
use Rattle.gg_cut_plan.specs.Plan.{IsBody, IsPlan, MakesBy, Takes}
use Rattle.gg_cut_plan.proofs.OriginLemmas.{any-finds, clash}
use Rattle.gg_cut_plan.proofs.WireLemmas.{Each, owner-below, rest-below, rest_wires}
use Rattle.gg_cut_split.proofs.ClosedLemmas.FaultlessLemmas.{faultless-apart, faultless-few}
use Rattle.gg_cut_split.proofs.ClosedLemmas.ListLemmas.{map-cases}
use Rattle.gg_cut_routes.proofs.ChoiceLemmas.{Made, has-still, hub-has, inner-item, ins-before, item-inner, made-wire, wire-made, wire-taken}
use Rattle.gg_cut_routes.proofs.RouteLemmas.{IsBase, apart-at, same-wire}
use Rattle.gg_cut_routes.proofs.RoutedLemmas.{plan-routed, routed-base}
use Rattle.gg_build.specs.plan.Built.{machine_in, nameless}
use Rattle.gg_build.proofs.PlanLemmas.MemoryPartLemmas.{IsMemoryPart, memory-part}
use Rattle.gg_snap.specs.inside.Gathered.{IsHeldBy, held_by}

-- ---- a signal that is no copy

module _ (hub : Hub) (base : IsBase hub) (s : ℕ) (plain : copied hub.circuit s ≡ None) where
  direct-none : (w : Wire) → w.signal ≡ s → direct_of hub w ≡ None
  direct-none w e = by (may_be_direct hub w)
    where
      by : (b : Bool) → (if b then if_plain hub (option_and_then (origin hub) (copied hub.circuit w.signal)) else None) ≡ None
      by true = ap (λ (o : Option ℕ). if_plain hub (option_and_then (origin hub) o)) (ap (copied hub.circuit) e ∙ plain)
      by false = refl

  not-direct : is_direct hub s ≡ false
  not-direct = by (cases_Bool (is_direct hub s))
    where
      by : (is_direct hub s ≡ true) ⊎ (is_direct hub s ≡ false) → is_direct hub s ≡ false
      by (inr e) = e
      by (inl e) =
          let v = any-finds (λ (w : Wire). (w.signal == s) && is_some (direct_of hub w)) hub.base e in
          let parts = and_parts (v.item.signal == s) (is_some (direct_of hub v.item)) v.passes in
          absurd (clash (is_some (direct_of hub v.item)) parts.1 (ap is_some (direct-none v.item (eqb-true v.item.signal s parts.0))))

  no-origin : is_taken hub s ≡ false → (n : ℕ) → origin_within hub n s ≡ None
  no-origin free zero = refl
  no-origin free (suc n) = by (is_taken hub s) (is_own hub s) free
    where
      by : (taken own : Bool) → taken ≡ false → (if taken then (if hub.piped s then None else Some s) else (if own then option_and_then (origin_within hub n) (copied hub.circuit s) else None)) ≡ None
      by true own e = cc
      by false true e = ap (λ (o : Option ℕ). option_and_then (origin_within hub n) o) plain
      by false false e = refl

  -- the maker of a signal doesn't take it
  apart : (m : ℕ) → Made hub base m s → (w : Wire) → Contains hub.base w → w.signal ≡ s → w.consumer ≢ m
  apart m (inl own) w h e consumer = inner-item hub base s own.2 w h e
  apart m (inr given) w h e consumer =
      let own = wire-made hub base m s given in
      let same = same-wire hub base w own.wire h own.among (e ∙ sym own.is) in
      apart-at hub base w h (ap (λ (v : Wire). v.producer) same ∙ own.producer ∙ sym consumer)

  pub not-takes : (m : ℕ) → Made hub base m s → ¬ Takes (routes hub) m s
  not-takes m made taken =
      let w = wire-taken hub base m s (ins-before hub base m s taken) in
      apart m made w.wire w.among w.is w.consumer

  free : Made hub base 0 s → is_taken hub s ≡ false
  free made = by (cases_Bool (is_taken hub s))
    where
      by : (is_taken hub s ≡ true) ⊎ (is_taken hub s ≡ false) → is_taken hub s ≡ false
      by (inr e) = e
      by (inl e) =
          let v = any-finds (λ (w : Wire). (w.consumer == 0) && (w.signal == s)) hub.base e in
          let parts = and_parts (v.item.consumer == 0) (v.item.signal == s) v.passes in
          absurd (apart 0 made v.item v.among (eqb-true v.item.signal s parts.1) (eqb-true v.item.consumer 0 parts.0))

  -- its machine has it after the routing
  pub has : (m : ℕ) → Made hub base m s → MakesBy hub m s ⊎ Takes (routes hub) m s
  has zero made = hub-has hub base s (inl made) (record { direct = not-direct; gone = ap (left_by hub) (no-origin (free made) (length hub.circuit.signals)) })
  has (suc m) made = has-still hub base (suc m) s (λ e. omega (arith, e)) (inl made)

-- ---- the maker of a signal

each-at : (P : Wire → Type 0) (xs : List Wire) → Each P xs → (w : Wire) → Contains xs w → P w
each-at P [] each w h = absurd (omega (arith, h.1))
each-at P (x ∷ xs) each w (zero, lt, e) = subst P e each.0
each-at P (x ∷ xs) each w (suc place, lt, e) = each-at P xs each.1 w (place, omega (arith, lt), e)

-- signal s is an input of the circuit
abbrev IsTop : FlatCircuit → ℕ → Type 0
IsTop circuit s = (place : ℕ) × (driver_at circuit s ≡ Input place)

inputs-top : (circuit : FlatCircuit) (b : Bridges) (number : ℕ) (ins : List ℕ) → All (IsTop circuit) ins → Each (λ w. IsTop circuit w.signal) (numbered (input_wires b) number ins)
inputs-top circuit b number [] all = tt
inputs-top circuit b number (s ∷ ins) all = (All-head (IsTop circuit) s ins all, inputs-top circuit b (suc number) ins (All-tail (IsTop circuit) s ins all))

record IsMaker (hub : Hub) (base : IsBase hub) (end s : ℕ) : Type 0 where
  machine : ℕ
  made : Made hub base machine s
  below : machine < end

-- ---- a memory's machine holds none

no-holder : (latency : Latency) (r k : ℕ) (reader : Reader) (ins globals held memories : List ℕ) (s : ℕ) (driver : Driver) → IsFrom ins globals held memories s driver (reader_driver latency 0 r reader) → driver ≡ Held k → ⊥
no-holder Zero r k reader ins globals held memories s driver from e = let clash : MemoryWord (value_at memories 0) r (value_at globals reader.addr) (value_at globals reader.en) ≡ Held k = sym from.3 ∙ e in by clash
  where
    by : {m r a n k : ℕ} → MemoryWord m r a n ≡ Held k → ⊥
    by e = cc
no-holder (One under) r k reader ins globals held memories s driver from e = let clash : ReadRegister (value_at memories 0) r ≡ Held k = sym from.1 ∙ e in by clash
  where
    by : {m r k : ℕ} → ReadRegister m r ≡ Held k → ⊥
    by e = cc

module _ (whole : FlatCircuit) (k : ℕ) (part : Part) (memory : own_memory.Memory) (formed : IsWellFormed part.piece) (is : IsPart whole part.piece part.globals part.held part.memories part.clocks) (own : IsMemoryPart part memory) where
  abbrev any : Reader
  any = record { addr = 0; en = 0; word = 0; clock = None }

  word-driver : (r : ℕ) → r < length memory.readers → driver_at part.piece (get_or memory.readers r any).word ≡ reader_driver memory.latency 0 r (get_or memory.readers r any)
  word-driver r lt =
      let some : 0 < length part.piece.memories = omega (arith, ap length own.only) in
      let driven = subst (λ (l : List own_memory.Memory). AreDriven (driver_at part.piece) 0 (get_or (map (λ (x : own_memory.Memory). x.latency) l) 0 Zero) (get_or (map (λ (x : own_memory.Memory). x.readers) l) 0 [])) own.only (formed.reads 0 some) in
      subst (λ (reader : Reader). driver_at part.piece reader.word ≡ reader_driver memory.latency 0 r reader) (get_or_default memory.readers r any any lt) (driven r lt)

  -- a signal that it doesn't take holds no register
  pub no-register : (p : ℕ) → p < length part.globals → ¬ Contains part.piece.ins p → driver_at whole (value_at part.globals p) ≡ Held k → ⊥
  no-register p lt inside holds = by (Contains-append_cases part.piece.ins part.piece.outs p (own.sides p lt))
    where
      by : Contains part.piece.ins p ⊎ Contains part.piece.outs p → ⊥
      by (inl a) = inside a
      by (inr a) =
          let at = map-cases (λ (reader : Reader). reader.word) memory.readers p (subst (λ (l : List ℕ). Contains l p) own.words a) in
          let reader = get_or memory.readers at.place any in
          no-holder memory.latency at.place k reader part.piece.ins part.globals part.held part.memories p (driver_at whole (value_at part.globals p))
          (subst (IsFrom part.piece.ins part.globals part.held part.memories p (driver_at whole (value_at part.globals p))) (sym (ap (driver_at part.piece) (at.holds any)) ∙ word-driver at.place at.within) (is.drivers p lt))
          holds

module _ (design : Ordered) (request : Request) (models : Models) (default : ℕ) (plan : Plan) (planned : IsPlan design request models default plan) (is : IsDesign design) (keeps : KeepsToTree design.circuit design.tree) (none : first_fault design request ≡ None) where
  abbrev listed : Listed
  listed = listed_of design.tree request

  abbrev hub : Hub
  hub = plan_hub design.circuit design.tree request

  base : IsBase (plan_hub design.circuit design.tree request)
  base = routed-base design request is keeps none

  held-plain : (s r : ℕ) → driver_at design.circuit s ≡ Held r → copied design.circuit s ≡ None
  held-plain s r e = by (driver_at design.circuit s) e
    where
      by : (d : Driver) → d ≡ Held r → if_wide design.circuit s (bare_of d) ≡ None
      by d same = ap (λ (x : Driver). if_wide design.circuit s (bare_of x)) same

  tops : All (IsTop design.circuit) design.circuit.ins
  tops = λ k d lt. (k, ap (driver_at design.circuit) (get_or_default design.circuit.ins k d 0 lt) ∙ (is.formed.ins k lt).1)

  producer-below : (w : Wire) → Contains (plan_hub design.circuit design.tree request).base w → ¬ IsTop design.circuit w.signal → w.producer < first_source (listed_of design.tree request)
  producer-below w h inner = by (Contains-append_cases (numbered (input_wires (ports_of design.circuit design.tree listed request.bridges)) 0 design.circuit.ins) (rest_wires design.circuit design.tree listed request.bridges) w h)
    where
      by : Contains (numbered (input_wires (ports_of design.circuit design.tree (listed_of design.tree request) request.bridges)) 0 design.circuit.ins) w ⊎ Contains (rest_wires design.circuit design.tree (listed_of design.tree request) request.bridges) w → w.producer < first_source (listed_of design.tree request)
      by (inl a) = absurd (inner (each-at (λ w. IsTop design.circuit w.signal) (numbered (input_wires (ports_of design.circuit design.tree listed request.bridges)) 0 design.circuit.ins) (inputs-top design.circuit (ports_of design.circuit design.tree listed request.bridges) 0 design.circuit.ins tops) w a))
      by (inr a) = each-at (λ w. w.producer < first_source (listed_of design.tree request)) (rest_wires design.circuit design.tree listed request.bridges) (rest-below design.circuit design.tree listed request.bridges) w a

  not-top : (s r : ℕ) → driver_at design.circuit s ≡ Held r → ¬ IsTop design.circuit s
  not-top s r e top = by (sym top.1 ∙ e)
    where
      by : {place r : ℕ} → Input place ≡ Held r → ⊥
      by same = cc

  maker : (s r : ℕ) → s < length design.circuit.signals → driver_at design.circuit s ≡ Held r → IsMaker (plan_hub design.circuit design.tree request) base (first_source (listed_of design.tree request)) s
  maker s r lt e = by (cases_Bool (list_any (λ (w : Wire). w.signal == s) hub.base))
    where
      by : (list_any (λ (w : Wire). w.signal == s) hub.base ≡ true) ⊎ (list_any (λ (w : Wire). w.signal == s) hub.base ≡ false) → IsMaker (plan_hub design.circuit design.tree request) base (first_source (listed_of design.tree request)) s
      by (inr inner) = record { machine = owner_of design.circuit design.tree listed s; made = inl (lt, refl, item-inner hub base s inner); below = owner-below design.circuit design.tree listed s }
      by (inl carried) =
          let v = any-finds (λ (w : Wire). w.signal == s) hub.base carried in
          let same = eqb-true v.item.signal s v.passes in
          record { machine = v.item.producer; made = made-wire hub base v.item.producer s v.item v.among refl same; below = producer-below v.item v.among (λ top. not-top s r e (subst (IsTop design.circuit) same top)) }

  holds-in : (s r : ℕ) → driver_at design.circuit s ≡ Held r → (m : ℕ) (body : Body) → Made (plan_hub design.circuit design.tree request) base m s → m < first_source (listed_of design.tree request) → IsBody design request models (listed_of design.tree request) (plan_hub design.circuit design.tree request) m body → Contains (held_by body) r
  holds-in s r e m (Cut part) made low body =
      let plain = held-plain s r e in
      let cut = body.1 in
      cut.held.every s r ((cut.signals s).1 (has hub base s plain m made)) (record { inside = not-takes hub base s plain m made; holds = e })
  holds-in s r e m (Memory part) made low body =
      let plain = held-plain s r e in
      let cut = body.2 in
      let own = memory-part design request m part is keeps (faultless-apart design request none keeps.fitting) (plan-routed design request is keeps none) body.0 body.1 cut (faultless-few design request none) in
      let among = (cut.signals s).1 (has hub base s plain m made) in
      let at : value_at part.globals among.0 ≡ s = get_or_default part.globals among.0 0 s among.1 ∙ among.2 in
      absurd (no-register design.circuit r part own.0 (IsWellFormed-part design.circuit part.piece part.globals part.held part.memories part.clocks is.formed cut.is) cut.is own.1 among.0 among.1
      (λ inside. not-takes hub base s plain m made (subst (λ t. Takes (routes hub) m t) at (subst (λ (l : List ℕ). Contains l (value_at part.globals among.0)) cut.ins (Contains-map (value_at part.globals) part.piece.ins among.0 inside))))
      (ap (driver_at design.circuit) at ∙ e))
  holds-in s r e m (Source place) made low body = absurd (omega (arith, low, body.1))
  holds-in s r e m Tray made low body = absurd (omega (arith, low, body.0))
  holds-in s r e m (Bridge bridge) made low body = absurd (omega (arith, low, body.0))

  pub registers-held : AllHeld design.circuit → (r : ℕ) → r < length design.circuit.registers → IsHeldBy plan r
  registers-held holders r lt =
      let holder = holders r lt in
      let own = maker holder.signal r holder.within holder.holds in
      let low = own.below in
      let known : own.machine < length plan.machines = omega (arith, low, planned.machine_total) in
      record { at_machine = own.machine; known = known; holds = holds-in holder.signal r holder.holds own.machine (machine_in plan own.machine).body own.made low (planned.machine own.machine nameless known).body }
