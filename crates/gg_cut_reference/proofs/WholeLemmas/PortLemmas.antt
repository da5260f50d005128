-- The ports of the circuit with the models: those of the reference circuit that no bridge has.
use Rattle.std.proofs.Common.{◌≡◌, ℕ, ◌+◌, ◌<◌, List, ◌++◌, Bool, true, false, None, length, map, get_or, take, drop, refl, sym, ◌∙◌, ap, ap₂, subst, arith}
use Rattle.std.specs.Prelude.{Contains, filter, not, ◌==◌}
use Rattle.std.specs.List.{list_any}
use Rattle.std.proofs.lemmas.List.{get_or_append_left, get_or-append-add, get_or_default, get_or-drop, get_or-map, get_or-take, length-append, length-map, length-take, length-drop, take-append-drop}
use Rattle.std.proofs.lemmas.List.Elements.{Contains-get_or, filter-append}
use Rattle.gg_flat_tree.specs.declared.tree.InstancePort.{InstancePort}
use Rattle.gg_flat_tree.specs.declared.tree.StopInstance.{StopInstance}
use Rattle.gg_flat.specs.Circuit.{FlatCircuit}
use Rattle.gg_flat_tree.specs.Scoped.{output_signals, stop_signals}
use Rattle.gg_flat_tree.specs.Tree.{instance_at, path_at, stop_at}
use Rattle.gg_flat.proofs.ListLemmas.{Contains-map, filter-cases}
use Rattle.gg_bits.proofs.PathLemmas.{found-path}
use Rattle.gg_order.specs.Design.{Ordered}
use Rattle.gg_partfile.specs.declared.request.Request.{Request}
use Rattle.gg_partfile.specs.Size.{all_driven, all_seen}
use Rattle.gg_bridge.specs.inside.All.{Attached}
use Rattle.gg_bridge.specs.Joined.{without}
use Rattle.gg_bridge.proofs.NumberLemmas.{any-is, any-has}
use Rattle.gg_cut_split.proofs.ClosedLemmas.ListLemmas.{map-cases}
use Rattle.gg_cut_plan.specs.Bridges.{Models}
use Rattle.gg_cut_plan.specs.Direct.{Hub, plan_hub}
use Rattle.gg_cut_plan.specs.Listed.{is_among}
use Rattle.gg_cut_plan.specs.Ports.{open_ins, open_outs, output_count}
use Rattle.gg_cut_plan.proofs.PathLemmas.{among-contains}
use Rattle.gg_cut_reference.specs.inside.Fitting.{attached_of}
use Rattle.gg_cut_reference.specs.Links.{taken_as}
use Rattle.gg_cut_reference.specs.Made.{plan_reference}
use Rattle.gg_cut_reference.specs.whole.Whole.{CanBridge, plan_circuit}
use Rattle.gg_cut_reference.specs.inside.Whole.{driven_signal, bridge_signal}
use Rattle.gg_cut_reference.proofs.WholeLemmas.LeftLemmas.{same-test, filter-at, filter-all, filter-map, ins-left, outs-left, same-clocks, drives-of, sees-of}
use Rattle.gg_cut_reference.proofs.WholeLemmas.NameLemmas.{image-of}
use Rattle.gg_cut_reference.proofs.WholeLemmas.PlanLemmas.{base, circuit-joined, driven-known, reference-made, seen-known, tops}
use Rattle.gg_cut_reference.proofs.WholeLemmas.SeenLemmas.{called-path, driven-at, named-called, seen-at, taken-once}

-- a signal of the outputs is that of a port
record IsPortOf (ports : List InstancePort) (s : ℕ) : Type 0 where
  pub port : InstancePort
  pub listed : Contains ports port
  pub is : port.signal ≡ s

output-listed : (ports : List InstancePort) (s : ℕ) → Contains (output_signals ports) s → IsPortOf ports s
output-listed ports s h =
    let outputs : List InstancePort = filter (λ port. not port.is_input) ports in
    let any : InstancePort = record { signal = 0; is_input = true } in
    let at = map-cases (λ (port : InstancePort). port.signal) outputs s h in
    let kept = filter-cases (λ (port : InstancePort). not port.is_input) ports (get_or outputs at.place any) (Contains-get_or outputs at.place any at.within) in
    record { port = get_or outputs at.place any; listed = kept.among; is = at.holds any }

module _ (design : Ordered) (request : Request) (models : Models) (can : CanBridge design request models) where
  abbrev hub : Hub
  hub = plan_hub design.circuit design.tree request

  abbrev one : FlatCircuit
  one = plan_reference design request

  abbrev outs : List ℕ
  outs = take (output_count design) design.circuit.outs

  abbrev boxes : List Attached
  boxes = map (attached_of (bridge_signal design request) (driven_signal design) models) request.bridges

  -- ---- inputs

  low-in : (s : ℕ) → Contains design.circuit.ins s → s < length design.circuit.signals
  low-in s h = let same = get_or_default design.circuit.ins h.0 0 s h.1 in let is = h.2 in let known = (can.design_is.formed.ins h.0 h.1).0 in omega (arith, same, is, known)

  low-out : (s : ℕ) → Contains design.circuit.outs s → s < length design.circuit.signals
  low-out s h = let same = get_or_default design.circuit.outs h.0 0 s h.1 in let is = h.2 in let known = can.design_is.formed.outs h.0 h.1 in omega (arith, same, is, known)

  driven-same : (s : ℕ) → Contains design.circuit.ins s → list_any (λ t. t == s) (map (driven_signal design) (all_driven request.bridges)) ≡ is_among (all_driven request.bridges) (path_at design.circuit.paths s)
  driven-same s h = same-test (list_any (λ t. t == s) (map (driven_signal design) (all_driven request.bridges))) (is_among (all_driven request.bridges) (path_at design.circuit.paths s)) to from
    where
      to : list_any (λ t. t == s) (map (driven_signal design) (all_driven request.bridges)) ≡ true → is_among (all_driven request.bridges) (path_at design.circuit.paths s) ≡ true
      to e =
          let image = image-of (driven_signal design) (all_driven request.bridges) s (any-is (map (driven_signal design) (all_driven request.bridges)) s e) in
          let at = driven-at hub one _ can.design_is.formed can.free (reference-made design request models can) (base design request models can) outs (tops design request models can) image.name (driven-known design request models can image.name image.among) in
          let same : at.signal ≡ s = sym (named-called hub one _ can.design_is.formed can.free (reference-made design request models can) (base design request models can) outs (tops design request models can) design.circuit.ins image.name at) ∙ image.is in
          among-contains (all_driven request.bridges) (path_at design.circuit.paths s) (subst (Contains (all_driven request.bridges)) (sym at.is ∙ ap (path_at design.circuit.paths) same) image.among)

      from : is_among (all_driven request.bridges) (path_at design.circuit.paths s) ≡ true → list_any (λ t. t == s) (map (driven_signal design) (all_driven request.bridges)) ≡ true
      from e =
          any-has (map (driven_signal design) (all_driven request.bridges)) s
          (subst (Contains (map (driven_signal design) (all_driven request.bridges))) (called-path design.circuit can.design_is.formed s (low-in s h))
          (Contains-map (driven_signal design) (all_driven request.bridges) (path_at design.circuit.paths s) (found-path (all_driven request.bridges) (path_at design.circuit.paths s) e)))

  pub plan-ins : (plan_circuit design request models).ins ≡ open_ins design.circuit request
  plan-ins =
      ap (λ (c : FlatCircuit). c.ins) (circuit-joined design request models can)
      ∙ ins-left one boxes
      ∙ ap (λ (gone : List ℕ). without gone design.circuit.ins) (drives-of (bridge_signal design request) (driven_signal design) models request.bridges)
      ∙ filter-at (λ s. not (list_any (λ t. t == s) (map (driven_signal design) (all_driven request.bridges)))) (λ s. not (is_among (all_driven request.bridges) (path_at design.circuit.paths s))) design.circuit.ins (λ s h. ap not (driven-same s h))

  -- ---- outputs

  abbrev gone : ℕ → Bool
  gone s = list_any (λ t. t == taken_as hub s) (map (bridge_signal design request) (all_seen request.bridges))

  -- what is gone is an output of one of the names
  record IsSeenAs (s : ℕ) : Type 0 where
    pub among : Contains outs s
    pub listed : Contains (all_seen request.bridges) (path_at design.circuit.paths s)

  gone-is : (s : ℕ) → Contains design.circuit.outs s → gone s ≡ true → IsSeenAs s
  gone-is s h e =
      let image = image-of (bridge_signal design request) (all_seen request.bridges) (taken_as hub s) (any-is (map (bridge_signal design request) (all_seen request.bridges)) (taken_as hub s) e) in
      let at = seen-at hub one _ can.design_is.formed can.free (reference-made design request models can) (base design request models can) outs (tops design request models can) image.name (seen-known design request models can image.name image.among) in
      let called = named-called hub one _ can.design_is.formed can.free (reference-made design request models can) (base design request models can) outs (tops design request models can) outs image.name at in
      let same = taken-once hub one _ can.design_is.formed can.free (reference-made design request models can) (base design request models can) at.signal s at.low (low-out s h) (ap (taken_as hub) (sym called) ∙ image.is) in
      record {
        among = subst (Contains outs) same at.among;
        listed = subst (Contains (all_seen request.bridges)) (sym at.is ∙ ap (path_at design.circuit.paths) same) image.among;
      }

  seen-same : (s : ℕ) → Contains outs s → gone s ≡ is_among (all_seen request.bridges) (path_at design.circuit.paths s)
  seen-same s h = same-test (gone s) (is_among (all_seen request.bridges) (path_at design.circuit.paths s)) to from
    where
      to : gone s ≡ true → is_among (all_seen request.bridges) (path_at design.circuit.paths s) ≡ true
      to e = among-contains (all_seen request.bridges) (path_at design.circuit.paths s) (gone-is s (tops design request models can s h) e).listed

      from : is_among (all_seen request.bridges) (path_at design.circuit.paths s) ≡ true → gone s ≡ true
      from e =
          any-has (map (bridge_signal design request) (all_seen request.bridges)) (taken_as hub s)
          (subst (λ k. Contains (map (bridge_signal design request) (all_seen request.bridges)) (taken_as hub k)) (called-path design.circuit can.design_is.formed s (low-out s (tops design request models can s h)))
          (Contains-map (bridge_signal design request) (all_seen request.bridges) (path_at design.circuit.paths s) (found-path (all_seen request.bridges) (path_at design.circuit.paths s) e)))

  -- ---- stops

  abbrev ports : List ℕ
  ports = output_signals (instance_at design.tree 0).ports

  abbrev stops : List ℕ
  stops = stop_signals design.tree

  counted : output_count design ≡ length ports
  counted =
      let all = ap length can.keeps.scoped.outs in
      omega (arith, all, length-append ports stops, length-map design.tree.stops (λ (stop : StopInstance). stop.signal))

  long : length design.circuit.outs ≡ length ports + length stops
  long = sym (ap length can.keeps.scoped.outs) ∙ length-append ports stops

  -- what stands before the stops is an output
  output-in : (s : ℕ) → Contains outs s → Contains ports s
  output-in s h =
      let c = output_count design in
      let low : h.0 < length ports = omega (arith, h.1, length-take c design.circuit.outs, counted) in (
        h.0,
        low,
        sym (get_or_append_left ports stops s h.0 low) ∙ ap (λ (l : List ℕ). get_or l h.0 s) can.keeps.scoped.outs ∙ sym (get_or-take c design.circuit.outs h.0 s (omega (arith, low, counted))) ∙ h.2,
      )

  -- a stop, by its place
  record IsStopOf (s : ℕ) : Type 0 where
    pub place : ℕ
    pub within : place < length design.tree.stops
    pub is : (stop_at design.tree place).signal ≡ s

  stop-in : (s : ℕ) → Contains (drop (output_count design) design.circuit.outs) s → IsStopOf s
  stop-in s h =
      let c = output_count design in
      let none : StopInstance = record { instance = 0; signal = 0; clock = None } in
      let inside : h.0 < length design.tree.stops = omega (arith, h.1, length-drop c design.circuit.outs, counted, long, length-map design.tree.stops (λ (stop : StopInstance). stop.signal)) in
      record {
        place = h.0;
        within = inside;
        is =
            sym (get_or-map (λ (stop : StopInstance). stop.signal) design.tree.stops h.0 none s inside)
            ∙ sym (get_or-append-add ports stops h.0 s)
            ∙ ap (λ (l : List ℕ). get_or l (length ports + h.0) s) can.keeps.scoped.outs
            ∙ ap (λ n. get_or design.circuit.outs (n + h.0) s) (sym counted)
            ∙ sym (get_or-drop c design.circuit.outs h.0 s)
            ∙ h.2;
      }

  port-no-stop : (s : ℕ) → IsPortOf (instance_at design.tree 0).ports s → IsStopOf s → ⊥
  port-no-stop s port stop = (can.keeps.scoped.stops stop.place stop.within).no_port 0 (record { known = can.keeps.fitting.top.there; port = port.port; listed = port.listed; is = port.is ∙ sym stop.is })

  -- an output is a port, and a stop is none
  stop-apart : (s : ℕ) → Contains outs s → Contains (drop (output_count design) design.circuit.outs) s → ⊥
  stop-apart s h k = port-no-stop s (output-listed (instance_at design.tree 0).ports s (output-in s h)) (stop-in s k)

  stop-stays : (s : ℕ) → Contains (drop (output_count design) design.circuit.outs) s → not (gone s) ≡ true
  stop-stays s h = by (gone s) refl
    where
      behind : Contains design.circuit.outs s
      behind =
          let c = output_count design in (
            c + h.0,
            omega (arith, h.1, length-drop c design.circuit.outs),
            sym (get_or-drop c design.circuit.outs h.0 s) ∙ h.2,
          )

      by : (b : Bool) → gone s ≡ b → not b ≡ true
      by true e = absurd (stop-apart s (gone-is s behind e).among h)
      by false e = refl

  pub plan-outs : (plan_circuit design request models).outs ≡ map (taken_as (plan_hub design.circuit design.tree request)) (open_outs design.circuit (output_count design) request ++ drop (output_count design) design.circuit.outs)
  plan-outs =
      ap (λ (c : FlatCircuit). c.outs) (circuit-joined design request models can)
      ∙ outs-left one boxes
      ∙ ap (λ (list : List ℕ). without list one.outs) (sees-of (bridge_signal design request) (driven_signal design) models request.bridges)
      ∙ filter-map (λ s. not (list_any (λ t. t == s) (map (bridge_signal design request) (all_seen request.bridges)))) (taken_as hub) design.circuit.outs
      ∙ ap (map (taken_as hub))
      (ap (filter (λ s. not (gone s))) (sym (take-append-drop (output_count design) design.circuit.outs))
      ∙ filter-append (λ s. not (gone s)) outs (drop (output_count design) design.circuit.outs)
      ∙ ap₂ (λ (a b : List ℕ). a ++ b) (filter-at (λ s. not (gone s)) (λ s. not (is_among (all_seen request.bridges) (path_at design.circuit.paths s))) outs (λ s h. ap not (seen-same s h)))
      (filter-all (λ s. not (gone s)) (drop (output_count design) design.circuit.outs) stop-stays))

  pub plan-clocks : (plan_circuit design request models).clocks ≡ design.circuit.clocks
  plan-clocks = ap (λ (c : FlatCircuit). c.clocks) (circuit-joined design request models can) ∙ same-clocks one boxes
