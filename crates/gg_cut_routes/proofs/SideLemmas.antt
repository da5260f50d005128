-- Sources and trays of the routed channels.
use Rattle.std.proofs.Common.{◌≡◌, ◌≢◌, ℕ, suc, ◌+◌, ◌<◌, List, length, None, Bool, true, false, sym, ◌∙◌, ap, subst, refl, inl, inr, ◌⊎◌, arith}
use Rattle.std.specs.Prelude.{if◌then◌else◌, Contains}
use Rattle.gg_flat.specs.Line.{value_at}
use Rattle.gg_flat.specs.Circuit.{FlatCircuit, readers_at}
use Rattle.gg_flat_tree.specs.Tree.{InstanceTree, instance_at, memory_at, parent_place}
use Rattle.gg_flat_tree.specs.Scoped.{memory_fields}
use Rattle.gg_partfile.specs.declared.request.BridgeEntry.{BridgeEntry}
use Rattle.gg_cut_plan.specs.declared.wires.Wire.{Wire}
use Rattle.gg_cut_plan.specs.declared.listed.Listed.{Listed}
use Rattle.gg_cut_plan.specs.Listed.{owner_of}
use Rattle.gg_cut_plan.specs.Machines.{first_memory, first_source}
use Rattle.gg_cut_plan.specs.Ports.{Bridges, giver_of, keeper_of, ports_of}
use Rattle.gg_cut_plan.specs.Channels.{wire, wires_of}
use Rattle.gg_cut_plan.proofs.PortLemmas.{giver-low, keeper-source, source-once, source-takes-none, tray-gives-none, tray-once}
use Rattle.gg_cut_plan.proofs.WireLemmas.{unit_or_hub-below, owner-below}
use Rattle.gg_cut_split.proofs.ClosedLemmas.KindLemmas.{IsInputWire, IsOutputWire, IsInto, IsWordWire, Kind, OfInput, OfPort, OfField, OfOutput, outside_unit, outside_memory, kind-of, input-wire, output-wire}
use Rattle.gg_cut_plan.specs.Direct.{Hub, routes}
use Rattle.gg_cut_routes.specs.inside.Routes.{GivesInput, TakesOutput}
use Rattle.gg_cut_routes.proofs.RouteLemmas.{IsBase, port-stays}
use Rattle.gg_cut_routes.proofs.ChoiceLemmas.{From, Same, Origin, gives-out, gives-all, takes-out, takes-in}

-- A source's only channel was that of its input; now it gives the input on at least one. A tray takes what it took.
module _ (hub : Hub) (base : IsBase hub) (m : ℕ) (other : m ≢ 0) where
  pub source-still : (w : Wire) → Contains hub.base w → w.producer ≡ m → ((v : Wire) → Contains hub.base v → v.producer ≡ m → v.signal ≡ w.signal) → ((v : Wire) → Contains hub.base v → v.consumer ≢ m) → GivesInput (routes hub) m w.signal
  source-still w h producer one none =
      record {
        none = λ s t. let v = takes-out hub base m s t in none v.wire v.among v.consumer;
        one = gives-all hub base m w other h producer;
        all = λ s t. by s (gives-out hub base m s t);
      }
    where
      by : (s : ℕ) → From hub base m s → s ≡ w.signal
      by s (Same v stays plain) = sym v.is ∙ one v.wire v.among v.producer
      by s (Origin v into) = sym v.is ∙ one v.wire v.among v.producer

  pub tray-still : (w : Wire) → Contains hub.base w → w.consumer ≡ m → ((v : Wire) → Contains hub.base v → v.consumer ≡ m → v.signal ≡ w.signal) → ((v : Wire) → Contains hub.base v → v.producer ≢ m) → TakesOutput (routes hub) m w.signal
  tray-still w h consumer one none =
      record {
        none = λ s t. by s (gives-out hub base m s t);
        one = takes-in hub base w m h (port-stays hub base w h (λ e. other (sym consumer ∙ e))) consumer;
        all = λ s t. let v = takes-out hub base m s t in sym v.is ∙ one v.wire v.among v.consumer;
      }
    where
      by : (s : ℕ) → From hub base m s → ⊥
      by s (Same v stays plain) = none v.wire v.among v.producer
      by s (Origin v into) = none v.wire v.among v.producer

module _ (circuit : FlatCircuit) (tree : InstanceTree) (listed : Listed) (entries : List BridgeEntry) where
  abbrev b : Bridges
  b = ports_of circuit tree listed entries

  -- the ends of a channel: of a top input, of an out-signal, or between other machines
  pub data Ends (w : Wire) : Type 0 where
    OfIn : IsInputWire circuit tree listed entries w → Ends w
    Inner : w.producer < first_source listed → w.consumer < first_source listed → Ends w
    OfOut : IsOutputWire circuit tree listed entries w → Ends w

  ends-of : (w : Wire) → Kind circuit tree listed entries w → Ends w
  ends-of w (OfInput f) = OfIn f
  ends-of w (OfOutput f) = OfOut f
  ends-of w (OfPort p) = subst Ends p.is (by p.port.is_input)
    where
      low : outside_unit tree listed p.unit < suc (length listed.units)
      low = unit_or_hub-below tree listed.units (parent_place (instance_at tree (value_at listed.units p.unit)).parent)

      by : (b : Bool) → Ends (if b then wire p.port.signal (outside_unit tree listed p.unit) (suc p.unit) else wire p.port.signal (suc p.unit) (outside_unit tree listed p.unit))
      by true = let known = p.known in Inner (omega (arith, low)) (omega (arith, known))
      by false = let known = p.known in Inner (omega (arith, known)) (omega (arith, low))
  ends-of w (OfField f) = by f.is
    where
      low : outside_memory tree listed f.place < suc (length listed.units)
      low = unit_or_hub-below tree listed.units (memory_at tree (value_at listed.memories f.place)).instance

      by : IsInto (memory_fields circuit (memory_at tree (value_at listed.memories f.place)).memory) (outside_memory tree listed f.place) (first_memory listed + f.place) w
          ⊎ IsWordWire (readers_at circuit (memory_at tree (value_at listed.memories f.place)).memory) (outside_memory tree listed f.place) (first_memory listed + f.place) w → Ends w
      by (inl into) = let known = f.known in Inner (omega (arith, low, into.producer)) (omega (arith, known, into.consumer))
      by (inr word) = let known = f.known in subst Ends (sym word.is) (Inner (omega (arith, known)) (omega (arith, low)))

  -- ---- an input that no bridge drives, and its source

  source-one : (p : ℕ) (v : Wire) → p < length circuit.ins → (ports_of circuit tree listed entries).driver p ≡ None → Ends v → v.producer ≡ giver_of (ports_of circuit tree listed entries) p → v.signal ≡ value_at circuit.ins p
  source-one p v lt none (OfIn f) e =
      let is = ap (λ (w : Wire). w.producer) f.is in
      ap (λ (w : Wire). w.signal) f.is ∙ ap (value_at circuit.ins) (source-once b p f.place lt none (sym is ∙ e))
  source-one p v lt none (Inner from to) e = let low = giver-low b p in absurd (omega (arith, from, e, low))
  source-one p v lt none (OfOut f) e =
      let is = ap (λ (w : Wire). w.producer) f.is in
      let own = owner-below circuit tree listed (value_at circuit.outs f.place) in
      let low = giver-low b p in
      absurd (omega (arith, is, e, own, low))

  source-none : (p : ℕ) (v : Wire) → p < length circuit.ins → (ports_of circuit tree listed entries).driver p ≡ None → Ends v → v.consumer ≢ giver_of (ports_of circuit tree listed entries) p
  source-none p v lt none (OfIn f) e = let is = ap (λ (w : Wire). w.consumer) f.is in let low = giver-low b p in omega (arith, is, e, low)
  source-none p v lt none (Inner from to) e = let low = giver-low b p in omega (arith, to, e, low)
  source-none p v lt none (OfOut f) e = source-takes-none b p f.place lt none (sym (ap (λ (w : Wire). w.consumer) f.is) ∙ e)

  -- ---- an output that no bridge sees, or a stop, and its tray

  tray-one : (p : ℕ) (v : Wire) → p < length circuit.outs → (ports_of circuit tree listed entries).viewer p ≡ None → Ends v → v.consumer ≡ keeper_of (ports_of circuit tree listed entries) p → v.signal ≡ value_at circuit.outs p
  tray-one p v lt none (OfIn f) e = let is = ap (λ (w : Wire). w.consumer) f.is in let low = keeper-source b p in absurd (omega (arith, is, e, low))
  tray-one p v lt none (Inner from to) e = let low = keeper-source b p in absurd (omega (arith, to, e, low))
  tray-one p v lt none (OfOut f) e =
      let is = ap (λ (w : Wire). w.consumer) f.is in
      ap (λ (w : Wire). w.signal) f.is ∙ ap (value_at circuit.outs) (tray-once b p f.place lt none (sym is ∙ e))

  tray-none : (p : ℕ) (v : Wire) → p < length circuit.outs → (ports_of circuit tree listed entries).viewer p ≡ None → Ends v → v.producer ≢ keeper_of (ports_of circuit tree listed entries) p
  tray-none p v lt none (OfIn f) e = tray-gives-none b p f.place lt f.known none (sym (ap (λ (w : Wire). w.producer) f.is) ∙ e)
  tray-none p v lt none (Inner from to) e = let low = keeper-source b p in omega (arith, from, e, low)
  tray-none p v lt none (OfOut f) e =
      let is = ap (λ (w : Wire). w.producer) f.is in
      let own = owner-below circuit tree listed (value_at circuit.outs f.place) in
      let low = keeper-source b p in
      omega (arith, is, e, own, low)

  module _ (hub : Hub) (base : IsBase hub) (is : hub.base ≡ wires_of circuit tree listed entries) where
    pub ends-at : (v : Wire) → Contains hub.base v → Ends v
    ends-at v h = ends-of v (kind-of circuit tree listed entries v (subst (λ (l : List Wire). Contains l v) is h))

    pub source-routes : (p : ℕ) → p < length circuit.ins → (ports_of circuit tree listed entries).driver p ≡ None → GivesInput (routes hub) (giver_of (ports_of circuit tree listed entries) p) (value_at circuit.ins p)
    source-routes p lt none =
        let m = giver_of b p in
        let w = wire (value_at circuit.ins p) m 0 in
        source-still hub base m (λ e. let low = giver-low b p in absurd (omega (arith, e, low))) w (subst (λ (l : List Wire). Contains l w) (sym is) (input-wire circuit tree listed entries p lt)) refl
        (λ v h e. source-one p v lt none (ends-at v h) e) (λ v h e. source-none p v lt none (ends-at v h) e)

    pub tray-routes : (p : ℕ) → p < length circuit.outs → (ports_of circuit tree listed entries).viewer p ≡ None → TakesOutput (routes hub) (keeper_of (ports_of circuit tree listed entries) p) (value_at circuit.outs p)
    tray-routes p lt none =
        let m = keeper_of b p in
        let w = wire (value_at circuit.outs p) (owner_of circuit tree listed (value_at circuit.outs p)) m in
        tray-still hub base m (λ e. let low = keeper-source b p in absurd (omega (arith, e, low))) w (subst (λ (l : List Wire). Contains l w) (sym is) (output-wire circuit tree listed entries p lt)) refl
        (λ v h e. tray-one p v lt none (ends-at v h) e) (λ v h e. tray-none p v lt none (ends-at v h) e)
