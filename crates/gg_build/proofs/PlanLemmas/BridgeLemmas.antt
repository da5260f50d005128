-- A plan's bridge: its model, the channels that it takes and gives, and the ports that they are.
use Rattle.std.proofs.Common.{◌≡◌, ◌≢◌, ℕ, ◌+◌, ◌-◌, ◌<◌, List, [], length, map, take, get_or, Some, refl, sym, ◌∙◌, ap, subst, arith}
use Rattle.std.specs.Prelude.{All, AllPairs, Contains, ◌==◌}
use Rattle.std.proofs.lemmas.List.{get_or-take, length-map, length-take}
use Rattle.std.proofs.lemmas.List.Elements.{All-map, Contains-get_or}
use Rattle.std.proofs.lemmas.Option.{same_Some}
use Rattle.gg_flat.specs.Circuit.{FlatCircuit, signal_shapes}
use Rattle.gg_flat.specs.Line.{shape_at, value_at}
use Rattle.gg_flat_tree.specs.Tree.{path_at}
use Rattle.gg_flat.proofs.ListLemmas.{Contains-map, once-apart}
use Rattle.gg_part.proofs.FrameLemmas.{length-once}
use Rattle.gg_partfile.specs.declared.request.BridgeEntry.{BridgeEntry}
use Rattle.gg_cut_plan.specs.declared.plan.Body.TheVariants.{Bridge}
use Rattle.gg_cut_plan.specs.declared.plan.BridgeBody.{BridgeBody}
use Rattle.gg_cut_plan.specs.declared.wires.Wire.{Wire as Link}
use Rattle.gg_cut_plan.specs.Bridges.{model_named, model_of, model_or, shapes_at}
use Rattle.gg_cut_plan.specs.Channels.{wire}
use Rattle.gg_cut_plan.specs.Plan.{wire_at as link_at, channels_to, channels_from, entry_at, port_place, signals_of, givens_of}
use Rattle.gg_cut_plan.specs.Ports.{first_bridge, output_count}
use Rattle.gg_cut_reference.specs.inside.Fitting.{AreFitting, IsFitting}
use Rattle.gg_cut_reference.proofs.FittingLemmas.AttachLemmas.{fit-count, model-is}
use Rattle.gg_cut_reference.proofs.FittingLemmas.PortLemmas.{driver-has, viewer-has, viewer-is}
use Rattle.gg_cut_split.proofs.ClosedLemmas.ListLemmas.{Somewhere, map-cases, AllPairs-map}
use Rattle.gg_cut_routes.proofs.FewLemmas.{long}
use Rattle.gg_cut_routes.specs.inside.Routes.{IsAtPorts}
use Rattle.gg_bridge.specs.Model.{IsModel}
use Rattle.gg_bridge.specs.inside.Turned.{AreAllPlaces}
use Rattle.gg_bridge.specs.inside.Hosted.{ArePorts}
use Rattle.gg_cut_reference.specs.inside.Whole.{signal_called}
use Rattle.gg_build.specs.inside.Given.{Given, IsBodyAt, cut_of}
use Rattle.gg_build.proofs.PlanLemmas.GivenLemmas.{entries-fit, is-routed}
use Rattle.gg_build.proofs.PlanLemmas.ListedLemmas.{IsGivenBy, given-is, taken-is}
use Rattle.gg_build.proofs.PlanLemmas.NumberLemmas.{numbers-once}
use Rattle.gg_build.proofs.PlanLemmas.PlaceLemmas.{own-differ, place-back, port-place}
use Rattle.gg_build.proofs.PlanLemmas.SideLemmas.{link-one}

abbrev nothing : BridgeEntry
nothing = record { name = []; sees = []; drives = [] }

module _ (given : Given) (m : ℕ) (bridge : BridgeBody) (body : IsBodyAt given m (Bridge bridge)) where
  open given use {design, request, models, can, design.{circuit}}
  open cut_of design request use {bridges as b, wires}

  -- its entry
  abbrev pub place_of_entry : ℕ
  place_of_entry = m - first_bridge b

  abbrev pub entry : BridgeEntry
  entry = entry_at request.bridges place_of_entry

  abbrev path : ℕ → List ℕ
  path s = path_at circuit.paths s

  fits : AreFitting circuit (take (output_count design) circuit.outs) models request.bridges
  fits = entries-fit design request models can

  fit : IsFitting circuit (take (output_count design) circuit.outs) models entry
  fit = fits.each place_of_entry nothing body.1.known

  -- ---- its model

  pub entry-model : model_of models entry ≡ bridge.model
  entry-model = ap (λ n. model_or (model_named models n)) (sym body.1.name) ∙ ap model_or body.1.model

  named-model : fit.model ≡ bridge.model
  named-model = same_Some fit.model bridge.model (sym fit.named ∙ ap (model_named models) (sym body.1.name) ∙ body.1.model)

  pub bridge-model : IsModel bridge.model
  bridge-model = subst IsModel named-model (model-is models entry.name fit.model can.are.each fit.named)

  pub see-count : length entry.sees ≡ length bridge.model.ins
  see-count = fit-count circuit entry.sees (shapes_at fit.model fit.model.ins) fit.seen_types ∙ length-map fit.model.ins (shape_at (signal_shapes fit.model)) ∙ ap (λ (l : FlatCircuit). length l.ins) named-model

  drive-count : length entry.drives ≡ length bridge.model.outs
  drive-count = fit-count circuit entry.drives (shapes_at fit.model fit.model.outs) fit.driven_types ∙ length-map fit.model.outs (shape_at (signal_shapes fit.model)) ∙ ap (λ (l : FlatCircuit). length l.outs) named-model

  -- ---- signals and their names

  pub path-back : (s : ℕ) → s < length circuit.signals → signal_called circuit (path_at circuit.paths s) ≡ s
  path-back s lt = place-back circuit.paths s can.design_is.formed.distinct (omega (arith, lt, can.design_is.formed.named))

  path-once : (s t : ℕ) → s < length circuit.signals → t < length circuit.signals → path s ≡ path t → s ≡ t
  path-once s t ls lt same = once-apart circuit.paths [] can.design_is.formed.distinct s t (omega (arith, ls, can.design_is.formed.named)) (omega (arith, lt, can.design_is.formed.named)) same

  -- ---- what it takes

  at-ports : IsAtPorts circuit b wires place_of_entry
  at-ports = (is-routed given).bridges place_of_entry body.1.known

  number : first_bridge b + place_of_entry ≡ m
  number = omega (arith, body.0)

  -- the channel is that of an output that the bridge sees
  pub record TakesPort (c : ℕ) : Type 0 where
    pub known : c < length wires
    pub signal : (link_at wires c).signal < length circuit.signals
    pub listed : Contains entry.sees (path_at circuit.paths (link_at wires c).signal)

  pub takes-port : (c : ℕ) → Contains (channels_to wires m) c → TakesPort c
  takes-port c h = by ((at-ports.takes (link_at wires c).signal).0 (subst (λ k. Contains (signals_of wires (channels_to wires k)) (link_at wires c).signal) (sym number) (Contains-map (λ k. (link_at wires k).signal) (channels_to wires m) c h)))
    where
      low : c < length wires
      low = (taken-is wires m c h).known

      by : (p : ℕ) × (p < b.outs) × (b.viewer p ≡ Some place_of_entry) × (value_at circuit.outs p ≡ (link_at wires c).signal) → TakesPort c
      by (p, lt, viewer, value) =
          let sees = (viewer-has circuit design.tree request p place_of_entry viewer).2 in
          record {
            known = low;
            signal = (is-routed given).known c (wire 0 0 0) low;
            listed = subst (λ k. Contains entry.sees (path k)) value sees;
          }

  -- the place of the port of a channel that it takes
  abbrev pub seen_place : ℕ → ℕ
  seen_place c = port_place entry.sees (path_at circuit.paths (link_at wires c).signal)

  -- the place is one of the model's in-signals, and has the port's name
  pub record IsSeenAt (c : ℕ) : Type 0 where
    pub place : seen_place c < length bridge.model.ins
    pub among : seen_place c < length entry.sees
    pub name : path_at entry.sees (seen_place c) ≡ path_at circuit.paths (link_at wires c).signal

  pub seen-at : (c : ℕ) → Contains (channels_to wires m) c → IsSeenAt c
  seen-at c h =
      let at = port-place entry.sees (path (link_at wires c).signal) (takes-port c h).listed in
      record { place = omega (arith, at.known, see-count); among = at.known; name = at.is }

  seen-once : (c d : ℕ) → Contains (channels_to wires m) c → Contains (channels_to wires m) d → seen_place c ≡ seen_place d → c ≡ d
  seen-once c d h k same =
      let one = takes-port c h in
      let two = takes-port d k in
      let paths : path (link_at wires c).signal ≡ path (link_at wires d).signal = sym (seen-at c h).name ∙ ap (path_at entry.sees) same ∙ (seen-at d k).name in
      link-one wires c d (is-routed given).once one.known two.known (path-once (link_at wires c).signal (link_at wires d).signal one.signal two.signal paths)

  sees-differ : AllPairs (λ a b. a ≢ b) entry.sees
  sees-differ = own-differ (λ entry. entry.sees) request.bridges place_of_entry nothing fits.sees body.1.known

  -- each place has a channel
  seen-every : (place : ℕ) → place < length bridge.model.ins → Contains (map seen_place (channels_to wires m)) place
  seen-every place lt =
      subst (Contains (map seen_place (channels_to wires m))) (ap (λ s. port_place entry.sees (path s)) (at.holds 0) ∙ ap (port_place entry.sees) is-name ∙ place-back entry.sees place sees-differ inside)
      (Contains-map seen_place (channels_to wires m) (value_at (channels_to wires m) at.place) (Contains-get_or (channels_to wires m) at.place 0 at.within))
    where
      inside : place < length entry.sees
      inside = omega (arith, lt, see-count)

      name : Somewhere (λ s. path s ≡ path_at entry.sees place) (take (output_count design) circuit.outs)
      name = map-cases path (take (output_count design) circuit.outs) (path_at entry.sees place) (fit.seen place inside)

      p : ℕ
      p = name.place

      below : p < output_count design
      below = let within = name.within in omega (arith, within, length-take (output_count design) circuit.outs)

      known : p < length circuit.outs
      known = let within = name.within in omega (arith, within, length-take (output_count design) circuit.outs)

      is-name : path (value_at circuit.outs p) ≡ path_at entry.sees place
      is-name = ap path (sym (get_or-take (output_count design) circuit.outs p 0 below)) ∙ name.holds 0

      views : b.viewer p ≡ Some place_of_entry
      views = viewer-is circuit design.tree request p place_of_entry fits.sees below body.1.known (subst (Contains entry.sees) (sym is-name) (Contains-get_or entry.sees place [] inside))

      at : Somewhere (λ k. (link_at wires k).signal ≡ value_at circuit.outs p) (channels_to wires m)
      at =
          map-cases (λ k. (link_at wires k).signal) (channels_to wires m) (value_at circuit.outs p)
          (subst (λ k. Contains (signals_of wires (channels_to wires k)) (value_at circuit.outs p)) number ((at-ports.takes (value_at circuit.outs p)).1 (p, known, views, refl)))

  all-places : AreAllPlaces (length bridge.model.ins) (map seen_place (channels_to wires m))
  all-places =
      let channels = channels_to wires m in
      let places = map seen_place channels in
      let once = AllPairs-map (λ a b. a ≢ b) seen_place channels (λ i j d less lt same.
      numbers-once (λ c. (link_at wires c).consumer == m) (length wires) i j d less lt
      (seen-once (get_or channels i d) (get_or channels j d) (Contains-get_or channels i d (omega (arith, less, lt))) (Contains-get_or channels j d lt) same)) in
      let known = All-map (λ place. place < length bridge.model.ins) seen_place channels (λ i d lt. (seen-at (get_or channels i d) (Contains-get_or channels i d lt)).place) in
      let few = length-once places (length bridge.model.ins) once known in
      let many = long places 0 (length bridge.model.ins) (λ place lt. subst (Contains places) (let same : place ≡ 0 + place = omega arith in same) (seen-every place lt)) in
      record { total = omega (arith, few, many); known = known; every = seen-every; once = once }

  -- ---- what it gives

  -- the channel is that of an input that the bridge drives, and is given by the input itself
  pub record GivesPort (c : ℕ) : Type 0 where
    pub signal : (link_at wires c).signal < length circuit.signals
    pub plain : (link_at wires c).given ≡ (link_at wires c).signal
    pub listed : Contains entry.drives (path_at circuit.paths (link_at wires c).signal)

  pub gives-port : (c : ℕ) → Contains (channels_from wires m) c → GivesPort c
  gives-port c h = by ((at-ports.gives (link_at wires c).given).0 (subst (λ k. Contains (givens_of wires (channels_from wires k)) (link_at wires c).given) (sym number) (Contains-map (λ k. (link_at wires k).given) (channels_from wires m) c h)))
    where
      gives : IsGivenBy wires m c
      gives = given-is wires m c h

      plain : (link_at wires c).given ≡ (link_at wires c).signal
      plain = at-ports.plain (link_at wires c) (Contains-get_or wires c (wire 0 0 0) gives.known) (gives.producer ∙ sym number)

      by : (p : ℕ) × (p < b.ins) × (b.driver p ≡ Some place_of_entry) × (value_at circuit.ins p ≡ (link_at wires c).given) → GivesPort c
      by (p, lt, driver, value) =
          let drives = (driver-has circuit design.tree request p place_of_entry driver).1 in
          record {
            signal = (is-routed given).known c (wire 0 0 0) gives.known;
            plain = plain;
            listed = subst (λ k. Contains entry.drives (path k)) (value ∙ plain) drives;
          }

  -- the place of the port of a channel that it gives
  abbrev pub driven_place : ℕ → ℕ
  driven_place c = port_place entry.drives (path_at circuit.paths (link_at wires c).signal)

  pub record IsDrivenAt (c : ℕ) : Type 0 where
    pub place : driven_place c < length bridge.model.outs
    pub among : driven_place c < length entry.drives
    pub name : path_at entry.drives (driven_place c) ≡ path_at circuit.paths (link_at wires c).signal

  pub driven-at : (c : ℕ) → Contains (channels_from wires m) c → IsDrivenAt c
  driven-at c h =
      let at = port-place entry.drives (path (link_at wires c).signal) (gives-port c h).listed in
      record { place = omega (arith, at.known, drive-count); among = at.known; name = at.is }

  -- ---- its ports

  pub bridge-ports : ArePorts bridge.model bridge.ins bridge.outs
  bridge-ports =
      let channels = channels_from wires m in
      record {
        takes = subst (AreAllPlaces (length bridge.model.ins)) (sym body.1.ins) all-places;
        gives = subst (All (λ place. place < length bridge.model.outs)) (sym body.1.outs)
            (All-map (λ place. place < length bridge.model.outs) driven_place channels (λ i d lt. (driven-at (get_or channels i d) (Contains-get_or channels i d lt)).place));
      }
