-- What machines make and take: the machine of an instance makes what is written there, and makes or takes what is visible there.
use Rattle.std.proofs.Common.{◌≡◌, ◌≢◌, ℕ, zero, suc, ◌+◌, ◌<◌, List, [], ◌∷◌, length, map, get_or, Bool, true, false, not, refl, sym, ◌∙◌, ap, subst, Some, None, inl, inr, ◌⊎◌, eq-eqb, true-eqb, arith}
use Rattle.std.specs.Prelude.{◌||◌, ◌==◌, if◌then◌else◌, filter, Contains, All}
use Rattle.std.specs.List.{range_with_len, list_any}
use Rattle.std.proofs.lemmas.Bool.{cases_eq}
use Rattle.std.proofs.lemmas.List.{get_or_default}
use Rattle.std.proofs.lemmas.List.Elements.{Contains-append_left, Contains-append_right, Contains-get_or}
use Rattle.gg_flat_tree.specs.declared.tree.InstancePort.{InstancePort}
use Rattle.gg_flat.specs.Line.{value_at}
use Rattle.gg_flat.specs.Circuit.{FlatCircuit, readers_at}
use Rattle.gg_flat_tree.specs.Tree.{InstanceTree, IsTree, IsInnermost, instance_at, memory_at, parent_place}
use Rattle.gg_flat_tree.specs.Scoped.{IsScoped, IsPort, IsFieldOf, IsVisible, memory_fields, output_signals, stop_signals}
use Rattle.gg_flat.proofs.ListLemmas.{in-range, range-below, Contains-map, Contains-filter, filter-cases}
use Rattle.gg_partfile.specs.declared.request.BridgeEntry.{BridgeEntry}
use Rattle.gg_cut_plan.specs.Ports.{giver_of, keeper_of, ports_of}
use Rattle.gg_cut_plan.specs.declared.wires.Wire.{Wire}
use Rattle.gg_cut_plan.specs.declared.listed.Listed.{Listed}
use Rattle.gg_cut_plan.specs.Listed.{first_place, owner_of_instance, owner_of, has_field, has_signal, memory_or, unit_or_hub}
use Rattle.gg_cut_plan.specs.Machines.{first_memory}
use Rattle.gg_cut_plan.specs.Channels.{wire, wires_of, port_wire}
use Rattle.gg_cut_plan.specs.Plan.{wire_at, channels_from, signals_of, givens_of, IsInner, Takes}
use Rattle.gg_cut_plan.specs.inside.Plan.{Makes}
use Rattle.gg_cut_plan.proofs.WireLemmas.{givens-same}
use Rattle.gg_cut_split.specs.inside.Apart.{AreApart}
use Rattle.gg_cut_split.proofs.ClosedLemmas.ListLemmas.{Somewhere, map-cases}
use Rattle.gg_cut_split.proofs.ClosedLemmas.TreeLemmas.{innermost-one, innermost-known}
use Rattle.gg_cut_split.proofs.ClosedLemmas.PlaceLemmas.{IsNoUnit, place-none, owner-unit, owner-inner, owner-top, place-signal}
use Rattle.gg_cut_split.proofs.ClosedLemmas.KindLemmas.{IsPortWire, IsFieldWire, IsInto, IsWordWire, Kind, OfInput, OfPort, OfField, OfOutput, outside_unit, outside_memory, kind-of, input-wire, unit-wire, memory-wire, output-wire, word-field}
use Rattle.gg_cut_split.proofs.ClosedLemmas.NameLemmas.{port-no-field}
use Rattle.gg_cut_plan.proofs.WireLemmas.{unit-below}
use Rattle.gg_cut_split.proofs.ClosedLemmas.OnceLemmas.{IsStopSignal, out-cases, stop-field, stop-in, stop-port, top-input, top-port}

-- ---- channels by number and by what they are

abbrev any-wire : Wire
any-wire = wire 0 0 0

pub wire-among : (wires : List Wire) (c : ℕ) → c < length wires → Contains wires (wire_at wires c)
wire-among wires c lt = Contains-get_or wires c any-wire lt

pub record IsChannel (wires : List Wire) (w : Wire) : Type 0 where
  pub number : ℕ
  pub known : number < length wires
  pub is : wire_at wires number ≡ w

pub channel-of : (wires : List Wire) (w : Wire) → Contains wires w → IsChannel wires w
channel-of wires w h = record { number = h.0; known = h.1; is = get_or_default wires h.0 any-wire w h.1 ∙ h.2 }

-- the signal of a channel that passes a test is among the signals of all that pass
pub chosen-in : (wires : List Wire) (test : Wire → Bool) (w : Wire) → Contains wires w → test w ≡ true → Contains (signals_of wires (filter (λ c. test (wire_at wires c)) (range_with_len 0 (length wires)))) w.signal
chosen-in wires test w h e =
    let c = channel-of wires w h in
    subst (λ s. Contains (signals_of wires (filter (λ c. test (wire_at wires c)) (range_with_len 0 (length wires)))) s) (ap (λ (v : Wire). v.signal) c.is)
    (Contains-map (λ c. (wire_at wires c).signal) (filter (λ c. test (wire_at wires c)) (range_with_len 0 (length wires))) c.number
    (Contains-filter (λ c. test (wire_at wires c)) (range_with_len 0 (length wires)) c.number (in-range (length wires) c.number c.known) (ap test c.is ∙ e)))

-- a channel of signal s that passes the test
pub record HasWire (wires : List Wire) (test : Wire → Bool) (s : ℕ) : Type 0 where
  pub wire : Wire
  pub among : Contains wires wire
  pub passes : test wire ≡ true
  pub is : wire.signal ≡ s

pub chosen-out : (wires : List Wire) (test : Wire → Bool) (s : ℕ) → Contains (signals_of wires (filter (λ c. test (wire_at wires c)) (range_with_len 0 (length wires)))) s → HasWire wires test s
chosen-out wires test s h =
    let list = filter (λ c. test (wire_at wires c)) (range_with_len 0 (length wires)) in
    let at = map-cases (λ c. (wire_at wires c).signal) list s h in
    let c = get_or list at.place 0 in
    let kept = filter-cases (λ c. test (wire_at wires c)) (range_with_len 0 (length wires)) c (Contains-get_or list at.place 0 at.within) in
    record { wire = wire_at wires c; among = wire-among wires c (range-below (length wires) c kept.among); passes = kept.passes; is = at.holds 0 }

-- ---- decisions

-- one of these ports has signal s
pub record HasPort (ports : List InstancePort) (s : ℕ) : Type 0 where
  pub port : InstancePort
  pub among : Contains ports port
  pub is : port.signal ≡ s

pub find-port : (ports : List InstancePort) (s : ℕ) → HasPort ports s ⊎ (HasPort ports s → ⊥)
find-port [] s = inr (λ h. absurd (omega (arith, h.among.1)))
find-port (p ∷ ports) s = by (cases_eq p.signal s) (find-port ports s)
  where
    by : (p.signal ≡ s) ⊎ (p.signal ≡ s → ⊥) → HasPort ports s ⊎ (HasPort ports s → ⊥) → HasPort (p ∷ ports) s ⊎ (HasPort (p ∷ ports) s → ⊥)
    by (inl e) rest = inl (record { port = p; among = (0, omega arith, refl); is = e })
    by (inr ne) (inl h) = inl (record { port = h.port; among = (suc h.among.0, omega (arith, h.among.1), h.among.2); is = h.is })
    by (inr ne) (inr none) = inr (λ h. at h.port h.among h.is)
      where
        at : (q : InstancePort) → Contains (p ∷ ports) q → q.signal ≡ s → ⊥
        at q (zero, lt, e) is = ne (ap (λ (x : InstancePort). x.signal) e ∙ is)
        at q (suc k, lt, e) is = none (record { port = q; among = (k, omega (arith, lt), e); is = is })

-- an instance is a unit, or it isn't
pub find-unit : (units : List ℕ) (k : ℕ) → Somewhere (λ unit. k ≡ unit) units ⊎ All (λ unit. k ≢ unit) units
find-unit [] k = inr (λ i d lt. absurd (omega (arith, lt)))
find-unit (u ∷ units) k = by (cases_eq k u) (find-unit units k)
  where
    by : (k ≡ u) ⊎ (k ≡ u → ⊥) → Somewhere (λ unit. k ≡ unit) units ⊎ All (λ unit. k ≢ unit) units → Somewhere (λ unit. k ≡ unit) (u ∷ units) ⊎ All (λ unit. k ≢ unit) (u ∷ units)
    by (inl e) rest = inl (record { place = 0; within = omega arith; holds = λ d. e })
    by (inr ne) (inl s) = inl (record { place = suc s.place; within = omega (arith, s.within); holds = s.holds })
    by (inr ne) (inr none) = inr all
      where
        all : All (λ unit. k ≢ unit) (u ∷ units)
        all zero d lt = ne
        all (suc i) d lt = none i d (omega (arith, lt))

pub find-number : (xs : List ℕ) (s : ℕ) → Contains xs s ⊎ (Contains xs s → ⊥)
find-number [] s = inr (λ h. absurd (omega (arith, h.1)))
find-number (x ∷ xs) s = by (cases_eq x s) (find-number xs s)
  where
    by : (x ≡ s) ⊎ (x ≡ s → ⊥) → Contains xs s ⊎ (Contains xs s → ⊥) → Contains (x ∷ xs) s ⊎ (Contains (x ∷ xs) s → ⊥)
    by (inl e) rest = inl (0, omega arith, e)
    by (inr ne) (inl h) = inl (suc h.0, omega (arith, h.1), h.2)
    by (inr ne) (inr none) = inr (λ h. at h)
      where
        at : Contains (x ∷ xs) s → ⊥
        at (zero, lt, e) = ne e
        at (suc k, lt, e) = none (k, omega (arith, lt), e)

pub any-contains : (xs : List ℕ) (s : ℕ) → list_any (λ t. t == s) xs ≡ true → Contains xs s
any-contains [] s e = absurd (cc)
any-contains (x ∷ xs) s e = by (x == s) refl e (λ f. any-contains xs s f)
  where
    by : (b : Bool) → (x == s) ≡ b → (b || list_any (λ t. t == s) xs) ≡ true → (list_any (λ t. t == s) xs ≡ true → Contains xs s) → Contains (x ∷ xs) s
    by true f e rest = (0, omega arith, true-eqb x s (sym f))
    by false f e rest = let h = rest e in (suc h.0, omega (arith, h.1), h.2)

module _ (circuit : FlatCircuit) (tree : InstanceTree) (listed : Listed) (entries : List BridgeEntry) where
  -- a machine that gives a channel by a signal gives the channel of the signal
  pub given-out : (m s : ℕ) → Contains (givens_of (wires_of circuit tree listed entries) (channels_from (wires_of circuit tree listed entries) m)) s → HasWire (wires_of circuit tree listed entries) (λ w. w.producer == m) s
  given-out m s h =
      chosen-out (wires_of circuit tree listed entries) (λ (w : Wire). w.producer == m) s (subst (λ (l : List ℕ). Contains l s) (givens-same circuit tree listed entries (channels_from (wires_of circuit tree listed entries) m)) h)

module _ (circuit : FlatCircuit) (tree : InstanceTree) (listed : Listed) where
  -- one of these memories has the signal as a field, or none of them has
  pub find-field-in : (places : List ℕ) (s : ℕ) → Somewhere (λ j. IsFieldOf circuit tree j s) places ⊎ All (λ j. IsFieldOf circuit tree j s → ⊥) places
  find-field-in [] s = inr (λ i d lt. absurd (omega (arith, lt)))
  find-field-in (j ∷ places) s = by (find-number (memory_fields circuit (memory_at tree j).memory) s) (find-field-in places s)
    where
      by : IsFieldOf circuit tree j s ⊎ (IsFieldOf circuit tree j s → ⊥) → Somewhere (λ j. IsFieldOf circuit tree j s) places ⊎ All (λ j. IsFieldOf circuit tree j s → ⊥) places → Somewhere (λ j. IsFieldOf circuit tree j s) (j ∷ places) ⊎ All (λ j. IsFieldOf circuit tree j s → ⊥) (j ∷ places)
      by (inl h) rest = inl (record { place = 0; within = omega arith; holds = λ d. h })
      by (inr no-here) (inl s) = inl (record { place = suc s.place; within = omega (arith, s.within); holds = s.holds })
      by (inr no-here) (inr none) = inr all
        where
          all : All (λ k. IsFieldOf circuit tree k s → ⊥) (j ∷ places)
          all zero d lt = no-here
          all (suc i) d lt = none i d (omega (arith, lt))

  -- no listed memory has the signal as a field
  abbrev pub IsNoField : ℕ → Type 0
  IsNoField s = All (λ j. IsFieldOf circuit tree j s → ⊥) listed.memories

  pub no-field-place : (s : ℕ) → IsNoField s → first_place (has_field circuit tree s) listed.memories ≡ None
  no-field-place s none = place-none (has_field circuit tree s) listed.memories (λ i d lt. by (get_or listed.memories i d) (none i d lt) (has_field circuit tree s (get_or listed.memories i d)) refl)
    where
      by : (j : ℕ) → (IsFieldOf circuit tree j s → ⊥) → (b : Bool) → has_field circuit tree s j ≡ b → b ≡ false
      by j no-here true e = absurd (no-here (any-contains (memory_fields circuit (memory_at tree j).memory) s e))
      by j no-here false e = refl

module _ (circuit : FlatCircuit) (tree : InstanceTree) (listed : Listed) (fits : IsTree circuit tree) (scoped : IsScoped circuit tree) (apart : AreApart tree listed) where
  pub field-listed : (w : Wire) → (f : IsFieldWire circuit tree listed w) → IsFieldOf circuit tree (value_at listed.memories f.place) w.signal
  field-listed w f = by f.is
    where
      j : ℕ
      j = value_at listed.memories f.place

      by : IsInto (memory_fields circuit (memory_at tree j).memory) (outside_memory tree listed f.place) (first_memory listed + f.place) w
          ⊎ IsWordWire (readers_at circuit (memory_at tree j).memory) (outside_memory tree listed f.place) (first_memory listed + f.place) w → IsFieldOf circuit tree j w.signal
      by (inl into) = into.field
      by (inr word) = subst (λ s. IsFieldOf circuit tree j s) (ap (λ (v : Wire). v.signal) (sym word.is)) (word-field circuit (memory_at tree j).memory word.reader word.known)

  pub port-of : (w : Wire) → (p : IsPortWire tree listed w) → IsPort tree (value_at listed.units p.unit) w.signal
  port-of w p = record { known = apart.known p.unit 0 p.known; port = p.port; listed = p.among; is = by p.port.is_input refl }
    where
      by : (b : Bool) → p.port.is_input ≡ b → p.port.signal ≡ w.signal
      by true e = ap (λ b. (if b then wire p.port.signal (outside_unit tree listed p.unit) (suc p.unit) else wire p.port.signal (suc p.unit) (outside_unit tree listed p.unit)).signal) (sym e) ∙ ap (λ (v : Wire). v.signal) p.is
      by false e = ap (λ b. (if b then wire p.port.signal (outside_unit tree listed p.unit) (suc p.unit) else wire p.port.signal (suc p.unit) (outside_unit tree listed p.unit)).signal) (sym e) ∙ ap (λ (v : Wire). v.signal) p.is

  pub owner-signal : (k s : ℕ) → IsInnermost tree k s → IsNoField circuit tree listed s → owner_of circuit tree listed s ≡ owner_of_instance tree listed.units k
  owner-signal k s inner none =
      ap (memory_or (length listed.units) (unit_or_hub (first_place (has_signal tree s) listed.units))) (no-field-place circuit tree listed s none)
      ∙ place-signal circuit tree listed fits apart k s inner

  -- a port is no field of a listed memory
  pub port-plain : (k s : ℕ) → IsPort tree k s → IsNoField circuit tree listed s
  port-plain k s port i d lt field = port-no-field circuit tree fits scoped k (get_or listed.memories i d) s (apart.memories i d lt) port field

  -- a port belongs to the machine of its instance
  pub port-owner : (k s : ℕ) → IsPort tree k s → owner_of circuit tree listed s ≡ owner_of_instance tree listed.units k
  port-owner k s port = owner-signal k s (scoped.ports k s port).own (port-plain k s port)

  pub top-owner : (s : ℕ) → IsPort tree 0 s → owner_of circuit tree listed s ≡ 0
  top-owner s port = port-owner 0 s port ∙ owner-top circuit tree listed fits apart

  -- an out-signal is no field of a listed memory
  pub out-plain : (s : ℕ) → Contains circuit.outs s → IsNoField circuit tree listed s
  out-plain s h =
      elim (out-cases circuit tree listed fits scoped apart s h) [
        | inl out ↦ port-plain 0 s (top-port circuit tree listed fits scoped apart s (λ port. not port.is_input) out)
        | inr stop ↦ (λ i d lt field. stop-field circuit tree listed fits scoped apart (get_or listed.memories i d) s (apart.memories i d lt) stop field)
      ]

  -- so it belongs to the hub or to a unit
  pub out-owner : (i : ℕ) → i < length circuit.outs → owner_of circuit tree listed (value_at circuit.outs i) < first_memory listed
  out-owner i lt =
      let s = value_at circuit.outs i in
      let is : owner_of circuit tree listed s ≡ unit_or_hub (first_place (has_signal tree s) listed.units) =
      ap (memory_or (length listed.units) (unit_or_hub (first_place (has_signal tree s) listed.units))) (no-field-place circuit tree listed s (out-plain s (Contains-get_or circuit.outs i 0 lt))) in
      let low = unit-below (has_signal tree s) listed.units in
      omega (arith, is, low)

-- ---- what a machine makes and takes

module _ (circuit : FlatCircuit) (tree : InstanceTree) (listed : Listed) (entries : List BridgeEntry) (fits : IsTree circuit tree) (scoped : IsScoped circuit tree) (apart : AreApart tree listed) where
  abbrev wires : List Wire
  wires = wires_of circuit tree listed entries

  -- a machine makes or takes a signal
  abbrev pub Gets : ℕ → ℕ → Type 0
  Gets m s = Makes circuit tree listed (wires_of circuit tree listed entries) m s ⊎ Takes (wires_of circuit tree listed entries) m s

  pub gives : (s p c : ℕ) → Contains wires (wire s p c) → Makes circuit tree listed (wires_of circuit tree listed entries) p s
  gives s p c h = inr (subst (λ (l : List ℕ). Contains l s) (sym (givens-same circuit tree listed entries (channels_from wires p))) (chosen-in wires (λ w. w.producer == p) (wire s p c) h (eq-eqb p p refl)))

  pub takes : (s p c : ℕ) → Contains wires (wire s p c) → Takes (wires_of circuit tree listed entries) c s
  takes s p c h = chosen-in wires (λ w. w.consumer == c) (wire s p c) h (eq-eqb c c refl)

  -- a signal without a channel is the signal of no channel
  pub no-channel : (s : ℕ) (w : Wire) → IsInner (wires_of circuit tree listed entries) s → Contains wires w → w.signal ≡ s → ⊥
  no-channel s w inner h e = let c = channel-of wires w h in inner c.number c.known (ap (λ (v : Wire). v.signal) c.is ∙ e)

  -- ---- signals without a channel

  -- no channel carries the signal, and it belongs to the machine of instance k
  pub record IsOwned (s k : ℕ) : Type 0 where
    pub inner : IsInner (wires_of circuit tree listed entries) s
    pub owner : owner_of circuit tree listed s ≡ owner_of_instance tree listed.units k

  pub owned : (k s : ℕ) → IsInnermost tree k s → IsNoField circuit tree listed s → (IsStopSignal tree s → ⊥) → (IsPort tree k s → IsNoUnit circuit tree listed fits apart k × (0 < k)) → IsOwned s k
  owned k s inner none no-stop lower = record { inner = λ c lt e. at (wire_at wires c) (wire-among wires c lt) e; owner = owner-signal circuit tree listed fits scoped apart k s inner none }
    where
      port-at : (j : ℕ) → IsPort tree j s → (IsPort tree k s) × (k ≡ j)
      port-at j port = let same = innermost-one circuit tree fits k j s inner (scoped.ports j s port).own in (subst (λ i. IsPort tree i s) (sym same) port, same)

      top : IsPort tree 0 s → ⊥
      top port = let p = port-at 0 port in let low = (lower p.0).1 in omega (arith, low, p.1)

      at : (w : Wire) → Contains wires w → w.signal ≡ s → ⊥
      at w h e = by (kind-of circuit tree listed entries w h)
        where
          by : Kind circuit tree listed entries w → ⊥
          by (OfInput f) =
              top (top-port circuit tree listed fits scoped apart s (λ port. port.is_input)
              (top-input circuit tree listed fits scoped apart s (f.place, f.known, get_or_default circuit.ins f.place s 0 f.known ∙ ap (λ (v : Wire). v.signal) (sym f.is) ∙ e)))
          by (OfOutput f) =
              elim (out-cases circuit tree listed fits scoped apart s (f.place, f.known, get_or_default circuit.outs f.place s 0 f.known ∙ ap (λ (v : Wire). v.signal) (sym f.is) ∙ e)) [
                | inl out ↦ top (top-port circuit tree listed fits scoped apart s (λ port. not port.is_input) out)
                | inr stop ↦ no-stop stop
              ]
          by (OfPort p) =
              let port = port-at (value_at listed.units p.unit) (subst (IsPort tree (value_at listed.units p.unit)) e (port-of circuit tree listed fits scoped apart w p)) in
              absurd ((lower port.0).0 p.unit 0 p.known port.1)
          by (OfField f) = absurd (none f.place 0 f.known (subst (IsFieldOf circuit tree (value_at listed.memories f.place)) e (field-listed circuit tree listed fits scoped apart w f)))

  -- ---- what is visible

  -- a unit's port has a channel between the unit and the machine outside
  unit-ends : (i s : ℕ) → i < length listed.units → (h : HasPort (instance_at tree (value_at listed.units i)).ports s) → Contains wires (wire s (outside_unit tree listed i) (suc i)) ⊎ Contains wires (wire s (suc i) (outside_unit tree listed i))
  unit-ends i s lt h = by h.port.is_input refl
    where
      w : Contains wires (port_wire (outside_unit tree listed i) (suc i) h.port)
      w = unit-wire circuit tree listed entries i h.port lt h.among

      by : (b : Bool) → h.port.is_input ≡ b → Contains wires (wire s (outside_unit tree listed i) (suc i)) ⊎ Contains wires (wire s (suc i) (outside_unit tree listed i))
      by true e =
          inl (subst (λ t. Contains wires (wire t (outside_unit tree listed i) (suc i))) h.is
          (subst (λ b. Contains wires (if b then wire h.port.signal (outside_unit tree listed i) (suc i) else wire h.port.signal (suc i) (outside_unit tree listed i))) e w))
      by false e =
          inr (subst (λ t. Contains wires (wire t (suc i) (outside_unit tree listed i))) h.is
          (subst (λ b. Contains wires (if b then wire h.port.signal (outside_unit tree listed i) (suc i) else wire h.port.signal (suc i) (outside_unit tree listed i))) e w))

  -- the owner of an out-signal gives it
  out-gets : (s : ℕ) → Contains circuit.outs s → Gets (owner_of circuit tree listed s) s
  out-gets s c =
      let is : value_at circuit.outs c.0 ≡ s = get_or_default circuit.outs c.0 0 s c.1 ∙ c.2 in
      inl (subst (λ t. Makes circuit tree listed (wires_of circuit tree listed entries) (owner_of circuit tree listed t) t) is
      (gives (value_at circuit.outs c.0) (owner_of circuit tree listed (value_at circuit.outs c.0)) (keeper_of (ports_of circuit tree listed entries) c.0) (output-wire circuit tree listed entries c.0 c.1)))

  -- a top port has a channel into the hub, or out of it
  top-ends : (s : ℕ) → HasPort (instance_at tree 0).ports s → Gets 0 s
  top-ends s h = by h.port.is_input refl
    where
      by : (b : Bool) → h.port.is_input ≡ b → Gets 0 s
      by true e = at (subst (λ (l : List ℕ). Contains l s) scoped.ins (subst (λ t. Contains (map (λ (port : InstancePort). port.signal) (filter (λ port. port.is_input) (instance_at tree 0).ports)) t) h.is
          (Contains-map (λ (port : InstancePort). port.signal) (filter (λ port. port.is_input) (instance_at tree 0).ports) h.port (Contains-filter (λ port. port.is_input) (instance_at tree 0).ports h.port h.among e))))
        where
          at : Contains circuit.ins s → Gets 0 s
          at c = inr (subst (λ t. Takes (wires_of circuit tree listed entries) 0 t) (get_or_default circuit.ins c.0 0 s c.1 ∙ c.2) (takes (value_at circuit.ins c.0) (giver_of (ports_of circuit tree listed entries) c.0) 0 (input-wire circuit tree listed entries c.0 c.1)))
      by false e = at (subst (λ (l : List ℕ). Contains l s) scoped.outs (Contains-append_left (output_signals (instance_at tree 0).ports) (stop_signals tree) s (subst (λ t. Contains (map (λ (port : InstancePort). port.signal) (filter (λ port. not port.is_input) (instance_at tree 0).ports)) t) h.is
          (Contains-map (λ (port : InstancePort). port.signal) (filter (λ port. not port.is_input) (instance_at tree 0).ports) h.port (Contains-filter (λ port. not port.is_input) (instance_at tree 0).ports h.port h.among (ap not e))))))
        where
          at : Contains circuit.outs s → Gets 0 s
          at c = subst (λ m. Gets m s) (top-owner circuit tree listed fits scoped apart s (record { known = fits.top.there; port = h.port; listed = h.among; is = h.is })) (out-gets s c)

  owned-gets : (k s : ℕ) → IsInnermost tree k s → IsOwned s k → Gets (owner_of_instance tree listed.units k) s
  owned-gets k s inner o = inl (inl (innermost-known circuit tree fits k s inner, o.owner, o.inner))

  own-port : (k s : ℕ) → IsInnermost tree k s → HasPort (instance_at tree k).ports s → Gets (owner_of_instance tree listed.units k) s
  own-port k s inner h = by (find-unit listed.units k) (cases_eq k 0)
    where
      port : IsPort tree k s
      port = record { known = inner.known; port = h.port; listed = h.among; is = h.is }

      unit : (i : ℕ) → i < length listed.units → Contains wires (wire s (outside_unit tree listed i) (suc i)) ⊎ Contains wires (wire s (suc i) (outside_unit tree listed i)) → Gets (suc i) s
      unit i lt (inl w) = inr (takes s (outside_unit tree listed i) (suc i) w)
      unit i lt (inr w) = inl (gives s (suc i) (outside_unit tree listed i) w)

      by : Somewhere (λ unit. k ≡ unit) listed.units ⊎ All (λ unit. k ≢ unit) listed.units → (k ≡ 0) ⊎ (k ≡ 0 → ⊥) → Gets (owner_of_instance tree listed.units k) s
      by (inl at) q =
          let same : k ≡ value_at listed.units at.place = at.holds 0 in
          subst (λ m. Gets m s) (sym (ap (λ j. owner_of_instance tree listed.units j) same ∙ owner-unit circuit tree listed fits apart at.place at.within))
          (unit at.place at.within (unit-ends at.place s at.within (subst (λ j. HasPort (instance_at tree j).ports s) same h)))
      by (inr none) (inl zeroth) =
          subst (λ m. Gets m s) (sym (ap (λ j. owner_of_instance tree listed.units j) zeroth ∙ owner-top circuit tree listed fits apart)) (top-ends s (subst (λ j. HasPort (instance_at tree j).ports s) zeroth h))
      by (inr none) (inr ne) = owned-gets k s inner (owned k s inner (port-plain circuit tree listed fits scoped apart k s port) (λ stop. stop-port circuit tree listed fits scoped apart k s stop port) (λ p. (none, positive k ne)))
        where
          positive : (n : ℕ) → (n ≡ 0 → ⊥) → 0 < n
          positive zero f = absurd (f refl)
          positive (suc n) f = omega arith

  own-field : (k s : ℕ) → IsInnermost tree k s → Somewhere (λ j. IsFieldOf circuit tree j s) listed.memories → Gets (owner_of_instance tree listed.units k) s
  own-field k s inner at = by (memory-wire circuit tree listed entries i s at.within (at.holds 0))
    where
      i : ℕ
      i = at.place

      same : (memory_at tree (value_at listed.memories at.place)).instance ≡ k
      same = innermost-one circuit tree fits (memory_at tree (value_at listed.memories at.place)).instance k s (scoped.fields (value_at listed.memories at.place) s (apart.memories at.place 0 at.within) (at.holds 0)).own inner

      by : Contains wires (wire s (outside_memory tree listed at.place) (first_memory listed + at.place)) ⊎ Contains wires (wire s (first_memory listed + at.place) (outside_memory tree listed at.place)) → Gets (owner_of_instance tree listed.units k) s
      by (inl w) = subst (λ j. Gets (owner_of_instance tree listed.units j) s) same (inl (gives s (outside_memory tree listed at.place) (first_memory listed + at.place) w))
      by (inr w) = subst (λ j. Gets (owner_of_instance tree listed.units j) s) same (inr (takes s (first_memory listed + at.place) (outside_memory tree listed at.place) w))

  -- the machine of an instance makes or takes the instance's own signals
  pub own : (k s : ℕ) → IsInnermost tree k s → Gets (owner_of_instance tree listed.units k) s
  own k s inner = by (find-port (instance_at tree k).ports s) (find-field-in circuit tree listed listed.memories s)
    where
      by : HasPort (instance_at tree k).ports s ⊎ (HasPort (instance_at tree k).ports s → ⊥) → Somewhere (λ j. IsFieldOf circuit tree j s) listed.memories ⊎ All (λ j. IsFieldOf circuit tree j s → ⊥) listed.memories → Gets (owner_of_instance tree listed.units k) s
      by (inl h) q = own-port k s inner h
      by (inr no-port) (inl at) = own-field k s inner at
      by (inr no-port) (inr none) =
          elim (find-number (stop_signals tree) s) [
            | inl stop ↦
                subst (λ m. Gets m s) (owner-signal circuit tree listed fits scoped apart k s inner none)
                (out-gets s (subst (λ (l : List ℕ). Contains l s) scoped.outs (Contains-append_right (output_signals (instance_at tree 0).ports) (stop_signals tree) s stop)))
            | inr no-stop ↦
                owned-gets k s inner
                (owned k s inner none (λ stop. no-stop (stop-in tree s stop)) (λ p. absurd (no-port (record { port = p.port; among = p.listed; is = p.is }))))
          ]

  -- the machine of an instance makes or takes the ports of the instances that this one holds
  pub child-port : (k c s : ℕ) → (instance_at tree c).parent ≡ Some k → IsPort tree c s → Gets (owner_of_instance tree listed.units k) s
  child-port k c s parent port = by (find-unit listed.units c)
    where
      unit : (i : ℕ) → Contains wires (wire s (outside_unit tree listed i) (suc i)) ⊎ Contains wires (wire s (suc i) (outside_unit tree listed i)) → Gets (outside_unit tree listed i) s
      unit i (inl w) = inl (gives s (outside_unit tree listed i) (suc i) w)
      unit i (inr w) = inr (takes s (suc i) (outside_unit tree listed i) w)

      lower : (n : ℕ) → (instance_at tree n).parent ≡ Some k → 0 < n
      lower zero e = absurd (clash (sym fits.top.parent ∙ e))
        where
          clash : None ≡ Some k → ⊥
          clash e = absurd (cc)
      lower (suc n) e = omega arith

      by : Somewhere (λ unit. c ≡ unit) listed.units ⊎ All (λ unit. c ≢ unit) listed.units → Gets (owner_of_instance tree listed.units k) s
      by (inl at) =
          let same : c ≡ value_at listed.units at.place = at.holds 0 in
          subst (λ j. Gets (owner_of_instance tree listed.units j) s) (ap (λ j. parent_place (instance_at tree j).parent) (sym same) ∙ ap parent_place parent)
          (unit at.place (unit-ends at.place s at.within (subst (λ j. HasPort (instance_at tree j).ports s) same (record { port = port.port; among = port.listed; is = port.is }))))
      by (inr none) =
          let inner = (scoped.ports c s port).own in
          subst (λ m. Gets m s) (owner-inner circuit tree listed fits apart c k port.known parent none)
          (owned-gets c s inner (owned c s inner (port-plain circuit tree listed fits scoped apart c s port) (λ stop. stop-port circuit tree listed fits scoped apart c s stop port) (λ p. (none, lower c parent))))

  -- the machine of an instance makes or takes what is visible in the instance
  pub visible : (k t : ℕ) → IsVisible tree k t → Gets (owner_of_instance tree listed.units k) t
  visible k t (inl inner) = own k t inner
  visible k t (inr child) = child-port k child.child t child.parent child.port
