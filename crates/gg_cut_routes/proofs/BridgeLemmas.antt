-- Bridges of the routed channels.
use Rattle.std.proofs.Common.{◌≡◌, ◌≢◌, ℕ, ◌+◌, ◌<◌, List, true, Some, sym, ◌∙◌, ap, subst, arith, false}
use Rattle.std.specs.Prelude.{Contains}
use Rattle.gg_flat.specs.Line.{value_at}
use Rattle.gg_flat.specs.Circuit.{FlatCircuit}
use Rattle.gg_flat_tree.specs.Tree.{InstanceTree}
use Rattle.gg_partfile.specs.declared.request.BridgeEntry.{BridgeEntry}
use Rattle.gg_cut_plan.specs.declared.wires.Wire.{Wire}
use Rattle.gg_cut_plan.specs.declared.listed.Listed.{Listed}
use Rattle.gg_cut_plan.specs.Listed.{owner_of}
use Rattle.gg_cut_plan.specs.Ports.{Bridges, first_bridge, giver_of, keeper_of, ports_of}
use Rattle.gg_cut_plan.specs.Channels.{wire, wires_of}
use Rattle.gg_cut_plan.specs.Plan.{channels_to, channels_from, signals_of, givens_of}
use Rattle.gg_cut_plan.proofs.OriginLemmas.{clash}
use Rattle.gg_cut_plan.proofs.PortLemmas.{giver-at, giver-driven, keeper-at, keeper-seen}
use Rattle.gg_cut_plan.proofs.WireLemmas.{owner-below}
use Rattle.gg_cut_split.proofs.ClosedLemmas.KindLemmas.{input-wire, output-wire}
use Rattle.gg_cut_plan.specs.Direct.{Hub, giver, route, routes}
use Rattle.gg_cut_routes.specs.inside.Routes.{IsAtPorts}
use Rattle.gg_cut_routes.proofs.RouteLemmas.{IsBase, Routing, Plain, Direct, routing, giver-is, out-routes, port-stays, route-signal, plain-given, direct-producer}
use Rattle.gg_cut_routes.proofs.ChoiceLemmas.{From, Same, Origin, gives-out, gives-all, takes-out, takes-in}
use Rattle.gg_cut_routes.proofs.SideLemmas.{Ends, OfIn, Inner, OfOut, ends-at}

-- A bridge takes and gives what it did. It is silent, so no channel that it gives is direct.
module _ (circuit : FlatCircuit) (tree : InstanceTree) (listed : Listed) (entries : List BridgeEntry) (hub : Hub) (base : IsBase hub) (is : hub.base ≡ wires_of circuit tree listed entries) (k : ℕ) where
  abbrev b : Bridges
  b = ports_of circuit tree listed entries

  abbrev m : ℕ
  m = first_bridge b + k

  other : m ≢ 0
  other e = omega (arith, e)

  among : (v : Wire) → Contains (wires_of circuit tree listed entries) v → Contains hub.base v
  among v h = subst (λ (l : List Wire). Contains l v) (sym is) h

  takes-to : (s : ℕ) → Contains (signals_of (routes hub) (channels_to (routes hub) m)) s → (p : ℕ) × (p < b.outs) × (b.viewer p ≡ Some k) × (value_at circuit.outs p ≡ s)
  takes-to s t = let v = takes-out hub base m s t in by v.wire v.is v.consumer (ends-at circuit tree listed entries hub base is v.wire v.among)
    where
      by : (v : Wire) → v.signal ≡ s → v.consumer ≡ m → Ends circuit tree listed entries v → (p : ℕ) × (p < b.outs) × (b.viewer p ≡ Some k) × (value_at circuit.outs p ≡ s)
      by v signal to (OfIn f) = let here = ap (λ (w : Wire). w.consumer) f.is in absurd (omega (arith, here, to))
      by v signal to (Inner from low) = absurd (omega (arith, low, to))
      by v signal to (OfOut f) = (f.place, f.known, keeper-at b f.place k f.known (sym (ap (λ (w : Wire). w.consumer) f.is) ∙ to), sym (ap (λ (w : Wire). w.signal) f.is) ∙ signal)

  takes-from : (s : ℕ) → (p : ℕ) × (p < b.outs) × (b.viewer p ≡ Some k) × (value_at circuit.outs p ≡ s) → Contains (signals_of (routes hub) (channels_to (routes hub) m)) s
  takes-from s (p, lt, viewer, value) =
      let w = wire (value_at circuit.outs p) (owner_of circuit tree listed (value_at circuit.outs p)) (keeper_of b p) in
      let h = among w (output-wire circuit tree listed entries p lt) in
      let consumer = keeper-seen b p k viewer in
      subst (λ t. Contains (signals_of (routes hub) (channels_to (routes hub) m)) t) value (takes-in hub base w m h (port-stays hub base w h (λ e. other (sym consumer ∙ e))) consumer)

  gives-to : (s : ℕ) → Contains (givens_of (routes hub) (channels_from (routes hub) m)) s → (p : ℕ) × (p < b.ins) × (b.driver p ≡ Some k) × (value_at circuit.ins p ≡ s)
  gives-to s t = at (gives-out hub base m s t)
    where
      by : (v : Wire) → v.signal ≡ s → v.producer ≡ m → Ends circuit tree listed entries v → (p : ℕ) × (p < b.ins) × (b.driver p ≡ Some k) × (value_at circuit.ins p ≡ s)
      by v signal from (OfIn f) = (f.place, f.known, giver-at b f.place k f.known (sym (ap (λ (w : Wire). w.producer) f.is) ∙ from), sym (ap (λ (w : Wire). w.signal) f.is) ∙ signal)
      by v signal from (Inner low to) = absurd (omega (arith, low, from))
      by v signal from (OfOut f) =
          let here = ap (λ (w : Wire). w.producer) f.is in
          let own = owner-below circuit tree listed (value_at circuit.outs f.place) in
          absurd (omega (arith, here, own, from))

      at : From hub base m s → (p : ℕ) × (p < b.ins) × (b.driver p ≡ Some k) × (value_at circuit.ins p ≡ s)
      at (Same v stays plain) = by v.wire v.is v.producer (ends-at circuit tree listed entries hub base is v.wire v.among)
      at (Origin v into) = by v.wire v.is v.producer (ends-at circuit tree listed entries hub base is v.wire v.among)

  gives-from : (s : ℕ) → (p : ℕ) × (p < b.ins) × (b.driver p ≡ Some k) × (value_at circuit.ins p ≡ s) → Contains (givens_of (routes hub) (channels_from (routes hub) m)) s
  gives-from s (p, lt, driver, value) =
      let w = wire (value_at circuit.ins p) (giver_of b p) 0 in
      subst (λ t. Contains (givens_of (routes hub) (channels_from (routes hub) m)) t) value (gives-all hub base m w other (among w (input-wire circuit tree listed entries p lt)) (giver-driven b p k driver))

  module _ (silent : hub.silent m ≡ true) where
    plain : (w : Wire) → Contains (routes hub) w → w.producer ≡ m → w.given ≡ w.signal
    plain w h from =
        let r = out-routes hub base w h in
        subst (λ (v : Wire). v.given ≡ v.signal) r.is (by r.wire r.among (ap (λ (v : Wire). v.producer) r.is ∙ from) (routing hub base r.wire))
      where
        by : (v : Wire) → Contains hub.base v → (route hub v).producer ≡ m → Routing hub base v → (route hub v).given ≡ (route hub v).signal
        by v h from (Plain e) = plain-given hub base v h e ∙ sym (route-signal hub base v)
        by v h from (Direct x e d into) =
            let producer = ap (giver hub) (sym into.is) ∙ giver-is hub base into.wire into.among ∙ sym (direct-producer hub base v x e into) ∙ from in
            absurd (clash (hub.silent m) silent (subst (λ n. hub.silent n ≡ false) producer d.plain))

    pub bridge-at : IsAtPorts circuit (ports_of circuit tree listed entries) (routes hub) k
    bridge-at = record { takes = λ s. (takes-to s, takes-from s); gives = λ s. (gives-to s, gives-from s); plain = plain }
