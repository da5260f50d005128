-- What a bridge's machine does: its rows are its model's run, on what the bridge sees, and what it gives has the columns that the circuit has.
use Rattle.std.proofs.Common.{◌≡◌, ℕ, ◌-◌, ◌<◌, ◌≤◌, List, [], Option, None, false, drop, length, map, get_or, sym, ◌∙◌, ap, ap₂, subst, arith}
use Rattle.std.specs.Prelude.{Contains, replicate}
use Rattle.std.proofs.lemmas.List.{get_or-map, length-map, length-replicate}
use Rattle.std.proofs.lemmas.List.Elements.{Contains-get_or}
use Rattle.gg_flat.specs.Circuit.{FlatCircuit}
use Rattle.gg_flat.specs.Line.{value_at}
use Rattle.gg_flat.specs.Run.{column, later, row_at, since}
use Rattle.gg_flat.specs.State.{opening}
use Rattle.gg_order.proofs.RunsLemmas.SinceLemmas.{later-since, row-dropped}
use Rattle.gg_part.specs.PartRun.{part_rows}
use Rattle.gg_cut_plan.specs.declared.plan.Body.TheVariants.{Bridge}
use Rattle.gg_cut_plan.specs.declared.plan.BridgeBody.{BridgeBody}
use Rattle.gg_cut_plan.specs.Bridges.{model_of}
use Rattle.gg_cut_plan.specs.Plan.{wire_at as link_at, channels_to, channels_from, signals_of, givens_of}
use Rattle.gg_cut_plan.specs.Ports.{first_bridge}
use Rattle.gg_cut_plan.specs.Solves.{AreRows, model_start}
use Rattle.gg_cut_reference.specs.Links.{taken_as}
use Rattle.gg_cut_reference.proofs.PipeLemmas.{since-less}
use Rattle.gg_bridge.specs.Turned.{turned}
use Rattle.gg_bridge.specs.Hosted.{started_bridge}
use Rattle.gg_cut_reference.specs.inside.Whole.{RunsModel, driven_signal, model_signals, bridge_signal}
use Rattle.gg_node.specs.Machine.{Machine, needs_at}
use Rattle.gg_net.specs.Network.{kind_of}
use Rattle.gg_net.proofs.StateLemmas.{column-at}
use Rattle.gg_build.specs.inside.Given.{Given, IsBodyAt, cut_of, run_of}
use Rattle.gg_build.proofs.PlanLemmas.GivenLemmas.{runs-whole}
use Rattle.gg_build.proofs.PlanLemmas.BridgeLemmas.{bridge-model, bridge-ports, driven-at, driven_place, entry, entry-model, gives-port, path-back, seen-at, seen_place, takes-port}
use Rattle.gg_build.proofs.PlanLemmas.DoLemmas.{DoesCycles}
use Rattle.gg_build.proofs.PlanLemmas.RowLemmas.{front-value, taken-below}
use Rattle.gg_build.proofs.PlanLemmas.RunLemmas.{below}
use Rattle.gg_build.proofs.PlanLemmas.TurnedLemmas.{input-row, turned-formed, turned-free, turned-once, turned-run}

module _ (given : Given) (m : ℕ) (bridge : BridgeBody) (body : IsBodyAt given m (Bridge bridge)) where
  open given use {design, request, models, n, start, rows}
  open cut_of design request use {hub, bridges as b, wires}
  open run_of given use {count, own as reference}

  abbrev k : ℕ
  k = m - first_bridge b

  -- the rows of the model
  abbrev pub own : List (List ℕ)
  own = part_rows (model_signals design request models (m - first_bridge b)) rows

  abbrev model : FlatCircuit
  model = bridge.model

  -- what it sees, by cycle
  abbrev pub seen_columns : List (List ℕ)
  seen_columns = map (λ name. column rows (bridge_signal design request name)) (entry given m bridge body).sees

  runs-model : RunsModel design request models start n rows k (entry given m bridge body)
  runs-model = (runs-whole given).each k body.1.known

  same-model : model_of models (entry given m bridge body) ≡ bridge.model
  same-model = entry-model given m bridge body

  pub model-run : AreRows bridge.model (model_start bridge.model start) seen_columns n own
  model-run = subst (λ (l : FlatCircuit). AreRows l (model_start l start) seen_columns n own) same-model runs-model.run

  -- ---- a channel that it takes

  -- the column of the port's place is what the circuit has for the channel
  pub seen-column : (c : ℕ) → Contains (channels_to wires m) c → get_or seen_columns (seen_place given m bridge body c) [] ≡ column rows (taken_as hub (link_at wires c).signal)
  seen-column c h =
      let at = seen-at given m bridge body c h in
      let port = takes-port given m bridge body c h in
      let names = (entry given m bridge body).sees in
      let place = seen_place given m bridge body c in
      get_or-map (λ name. column rows (bridge_signal design request name)) names place [] [] at.among
      ∙ ap (λ name. column rows (bridge_signal design request name)) at.name
      ∙ ap (λ s. column rows (taken_as hub s)) (path-back given m bridge body (link_at wires c).signal port.signal)

  seen-value : (c t : ℕ) → Contains (channels_to wires m) c → start.cycle ≤ t → t < n → value_at (row_at own t) (value_at model.ins (seen_place given m bridge body c)) ≡ value_at (row_at reference t) (taken_as hub (link_at wires c).signal)
  seen-value c t h le lt =
      let at = seen-at given m bridge body c h in
      let port = takes-port given m bridge body c h in
      let place = seen_place given m bridge body c in
      let u = since start.cycle t in
      let s = taken_as hub (link_at wires c).signal in
      let there : place < length seen_columns = omega (arith, at.among, length-map (entry given m bridge body).sees (λ name. column rows (bridge_signal design request name))) in
      ap (λ (row : List ℕ). value_at row (value_at model.ins place)) (sym (row-dropped start.cycle t own le))
      ∙ input-row model (model_start model start) seen_columns (since start.cycle n) (drop start.cycle own) (bridge-model given m bridge body).formed model-run.run place u at.place (since-less start.cycle t n le lt)
      ∙ get_or-map (λ (l : List ℕ). value_at l (later start.cycle u)) seen_columns place [] 0 there
      ∙ ap₂ (λ (l : List ℕ) j. value_at l j) (seen-column c h) (later-since start.cycle t le)
      ∙ column-at rows s t
      ∙ front-value count rows t s (taken-below given (link_at wires c).signal port.signal)

  -- ---- a channel that it gives

  -- the column of the port's place is what the circuit has for the channel
  pub driven-column : (c : ℕ) → Contains (channels_from wires m) c → column own (value_at bridge.model.outs (driven_place given m bridge body c)) ≡ column rows (link_at wires c).given
  driven-column c h =
      let at = driven-at given m bridge body c h in
      let port = gives-port given m bridge body c h in
      let place = driven_place given m bridge body c in
      sym
      (ap (column rows) (port.plain ∙ sym (path-back given m bridge body (link_at wires c).signal port.signal) ∙ ap (driven_signal design) (sym at.name))
      ∙ runs-model.driven place at.among
      ∙ ap (λ (l : FlatCircuit). column own (value_at l.outs place)) same-model)

  driven-value : (c t : ℕ) → Contains (channels_from wires m) c → value_at (row_at own t) (value_at model.outs (driven_place given m bridge body c)) ≡ value_at (row_at reference t) (link_at wires c).given
  driven-value c t h =
      let port = gives-port given m bridge body c h in
      let place = driven_place given m bridge body c in
      let s = (link_at wires c).given in
      let low : s < count = below given s (subst (λ j. j < length design.circuit.signals) (sym port.plain) port.signal) in
      sym (column-at own (value_at model.outs place) t)
      ∙ ap (λ (l : List ℕ). value_at l t) (driven-column c h)
      ∙ column-at rows s t
      ∙ front-value count rows t s low

  -- ---- the machine

  abbrev ins_of : List ℕ
  ins_of = map (taken_as hub) (signals_of wires (channels_to wires m))

  abbrev outs_of : List ℕ
  outs_of = givens_of wires (channels_from wires m)

  pub bridge-does : (machine : Machine) → machine ≡ started_bridge (turned bridge.model bridge.ins bridge.outs) start.cycle (opening bridge.model) → DoesCycles start.cycle reference n ins_of outs_of (kind_of machine) (opening bridge.model) own
  bridge-does machine is =
      let piece = turned bridge.model bridge.ins bridge.outs in
      let is_model = bridge-model given m bridge body in
      let ports = bridge-ports given m bridge body in
      let to = channels_to wires m in
      let from = channels_from wires m in
      let nothing : Option ℕ = None in
      let ins_count = length-map (signals_of wires to) (taken_as hub) in
      let signals_count = length-map to (λ c. (link_at wires c).signal) in
      let outs_count = length-map from (λ c. (link_at wires c).given) in
      subst (λ (t : Machine). DoesCycles start.cycle reference n ins_of outs_of (kind_of t) (opening bridge.model) own) (sym is)
      (record {
        able = given.most;
        does =
            record {
              formed = turned-formed model bridge.ins bridge.outs is_model ports;
              once = turned-once model bridge.ins bridge.outs is_model ports;
              suffice = λ o low. turned-free model bridge.ins bridge.outs is_model ports o low (needs_at (replicate (length piece.outs) []) o);
              ins = length-replicate (length piece.ins) nothing;
              outs = length-replicate (length piece.outs) false;
              is = turned-run model bridge.ins bridge.outs is_model ports (model_start model start) seen_columns (since start.cycle n) own model-run.run;
              serves = tt;
            };
        answers = λ o t few le lt.
            let low : o < length from = omega (arith, few, outs_count) in
            let c = value_at from o in
            let place = get_or-map (driven_place given m bridge body) from o 0 0 low in
            let within : o < length bridge.outs = omega (arith, low, ap length body.1.outs, length-map from (driven_place given m bridge body)) in
            ap (value_at (row_at own t)) (get_or-map (value_at model.outs) bridge.outs o 0 0 within ∙ ap (value_at model.outs) (ap (λ (l : List ℕ). value_at l o) body.1.outs ∙ place))
            ∙ driven-value c t (Contains-get_or from o 0 low)
            ∙ ap (value_at (row_at reference t)) (sym (get_or-map (λ d. (link_at wires d).given) from o 0 0 low));
        asks = λ i t few le lt.
            let inside : i < length (signals_of wires to) = omega (arith, few, ins_count) in
            let low : i < length to = omega (arith, inside, signals_count) in
            let c = value_at to i in
            let place = get_or-map (seen_place given m bridge body) to i 0 0 low in
            let within : i < length bridge.ins = omega (arith, low, ap length body.1.ins, length-map to (seen_place given m bridge body)) in
            ap (value_at (row_at own t)) (get_or-map (value_at model.ins) bridge.ins i 0 0 within ∙ ap (value_at model.ins) (ap (λ (l : List ℕ). value_at l i) body.1.ins ∙ place))
            ∙ seen-value c t (Contains-get_or to i 0 low) le lt
            ∙ ap (value_at (row_at reference t)) (sym (get_or-map (taken_as hub) (signals_of wires to) i 0 0 inside ∙ ap (taken_as hub) (get_or-map (λ d. (link_at wires d).signal) to i 0 0 low)));
      })
