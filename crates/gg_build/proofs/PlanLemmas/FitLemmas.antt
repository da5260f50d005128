-- The machines of the network have the ins and outs that the plan lists, and what they need and serve exists.
use Rattle.std.proofs.Common.{◌≡◌, ℕ, ◌+◌, ◌<◌, List, [], None, false, length, map, refl, sym, ◌∙◌, ap, subst, arith}
use Rattle.std.specs.Prelude.{Option, All, replicate}
use Rattle.std.proofs.lemmas.List.{length-map, length-replicate, get_or-map}
use Rattle.std.proofs.lemmas.List.Elements.{All-nil, All-weaker}
use Rattle.gg_flat.specs.Line.{value_at}
use Rattle.gg_flat.specs.Run.{Start}
use Rattle.gg_order.specs.Design.{Ordered}
use Rattle.gg_part.specs.declared.part.Part.{Part}
use Rattle.gg_cut_plan.specs.declared.listed.Listed.{Listed}
use Rattle.gg_cut_plan.specs.declared.plan.Body.{Body}
use Rattle.gg_cut_plan.specs.declared.plan.Body.TheVariants.{Cut, Memory, Source, Tray, Bridge}
use Rattle.gg_cut_plan.specs.declared.wires.Wire.{Wire as Link}
use Rattle.gg_cut_plan.specs.Direct.{Hub, routes}
use Rattle.gg_cut_plan.specs.Plan.{wire_at as link_at, channels_to, channels_from, IsCutPart}
use Rattle.gg_bridge.specs.Turned.{turned}
use Rattle.gg_memunit.specs.MemoryUnit.{count_of, needs_of, ports_of}
use Rattle.gg_node.specs.Machine.{Machine, Port, machine_at, no_machine}
use Rattle.gg_node.specs.Step.{fields_of}
use Rattle.gg_net.specs.Network.{Kind, kind_of, kind_at, no_kind}
use Rattle.gg_build.specs.plan.Built.{machine_in, nameless, IsUnitOf, IsMemoryOf, IsBuilt, AreBuilt}
use Rattle.gg_build.specs.inside.Given.{Given, IsBodyAt, cut_of}
use Rattle.gg_build.proofs.PlanLemmas.BridgeLemmas.{driven_place, seen_place}
use Rattle.gg_build.proofs.PlanLemmas.GivenLemmas.{is-routed}
use Rattle.gg_build.proofs.PlanLemmas.SideLemmas.{source-at, source-takes, tray-at, tray-gives-none, tray-takes}
use Rattle.gg_build.proofs.PlanLemmas.PortLemmas.{needs-there, no-needs, needs-count, piece-needs, IsFitPort, ports-fit}
use Rattle.gg_build.proofs.PlanLemmas.WiredLemmas.{IsFitting, AreFitting}

no-ports-fields : (n : ℕ) → All (λ (port : Port). All (λ i. i < n) (fields_of port.access)) []
no-ports-fields n = All-nil (λ (port : Port). All (λ i. i < n) (fields_of port.access))

no-ports-numbers : All (λ (port : Port). port.number < 0) []
no-ports-numbers = All-nil (λ (port : Port). port.number < 0)

abbrev empty_latch : Option ℕ
empty_latch = None

-- ---- machines with a piece

module _ (design : Ordered) (listed : Listed) (hub : Hub) (m : ℕ) (part : Part) (cut : IsCutPart design listed hub m part) where
  pub ins-count : length part.piece.ins ≡ length (channels_to (routes hub) m)
  ins-count = sym (length-map part.piece.ins (value_at part.globals)) ∙ ap length cut.ins ∙ length-map (channels_to (routes hub) m) (λ c. (link_at (routes hub) c).signal)

  pub outs-count : length part.piece.outs ≡ length (channels_from (routes hub) m)
  outs-count = sym (length-map part.piece.outs (value_at part.globals)) ∙ ap length cut.outs ∙ length-map (channels_from (routes hub) m) (λ c. (link_at (routes hub) c).given)

  unit-fits : (own : Start) (machine : Machine) → IsUnitOf own part machine → IsFitting (routes hub) m (kind_of machine)
  unit-fits own machine unit =
      let piece = unit.circuit in
      let ins : length (replicate (length piece.ins) empty_latch) ≡ length part.piece.ins = length-replicate (length piece.ins) empty_latch ∙ ap length unit.alike.ins in
      subst (λ (t : Machine). IsFitting (routes hub) m (kind_of t)) (sym unit.is)
      (record {
        ins = ins ∙ ins-count;
        outs = length-replicate (length piece.outs) false ∙ ap length unit.outs ∙ outs-count;
        needs = λ o i has.
            let low = needs-there unit.needs o i has in
            let known = (((unit.exact.each o (omega (arith, low, unit.exact.count))).exact i).0 has).0 in
            omega (arith, known, ins);
        fields = no-ports-fields _;
        numbers = no-ports-numbers;
      })

  memory-fits : (own : Start) (machine : Machine) → IsMemoryOf own part machine → IsFitting (routes hub) m (kind_of machine)
  memory-fits own machine memory =
      let piece = memory.alone.piece in
      let ins = length-replicate (length piece.ins) empty_latch in
      let own_ins : length piece.ins ≡ length part.piece.ins = sym (length-map piece.ins (value_at memory.alone.globals)) ∙ ap length memory.ins in
      let own_outs : length piece.outs ≡ length part.piece.outs = sym (length-map piece.outs (value_at memory.alone.globals)) ∙ ap length memory.outs in
      let is = memory.is_memory in
      let ports = ports-fit piece.memories (length piece.ins) is.readers is.writers in
      subst (λ (t : Machine). IsFitting (routes hub) m (kind_of t)) (sym memory.is)
      (record {
        ins = ins ∙ own_ins ∙ ins-count;
        outs = length-replicate (length piece.outs) false ∙ own_outs ∙ outs-count;
        needs = λ o i has.
            let there = needs-there (needs_of piece.memories) o i has in
            let low : o < length piece.outs = omega (arith, there, needs-count piece.memories, ap length is.outs) in
            let read = piece-needs piece o i is low has in
            omega (arith, read.within, ins);
        fields = All-weaker (IsFitPort (length piece.ins) (count_of piece.memories)) (λ (port : Port). All (λ i. i < length (replicate (length piece.ins) empty_latch)) (fields_of port.access)) (λ port fit. subst (λ n. All (λ i. i < n) (fields_of port.access)) (sym ins) fit.fields) (ports_of piece.memories) ports;
        numbers = All-weaker (IsFitPort (length piece.ins) (count_of piece.memories)) (λ (port : Port). port.number < count_of piece.memories) (λ port fit. fit.number) (ports_of piece.memories) ports;
      })

-- ---- all machines

-- the kind of a machine of the network by its number
pub kind-is : (machines : List Machine) (m : ℕ) → m < length machines → kind_at (map kind_of machines) m ≡ kind_of (machine_at machines m)
kind-is machines m lt = get_or-map kind_of machines m no_machine no_kind lt

module _ (given : Given) where
  open given use {design, request, plan, columns}
  open cut_of design request use {listed, hub, wires}

  fits : (m : ℕ) (own : Start) (body : Body) (machine : Machine) → IsBodyAt given m body → IsBuilt columns (length (channels_from wires m)) own body machine → IsFitting wires m (kind_of machine)
  fits m own (Cut part) machine body built = unit-fits design listed hub m part body.1 own machine built
  fits m own (Memory part) machine body built = memory-fits design listed hub m part body.2 own machine built
  fits m own (Source place) machine body built =
      let source = source-at design request (is-routed given) m place body.0 body.1 in
      subst (λ (t : Machine). IsFitting wires m (kind_of t)) (sym built)
      (record {
        ins = sym (source-takes wires m (value_at design.circuit.ins source.port) source.gives);
        outs = length-replicate (length (channels_from wires m)) false;
        needs = λ o i has. absurd (no-needs (length (replicate (length (channels_from wires m)) false)) o i has);
        fields = no-ports-fields 0;
        numbers = no-ports-numbers;
      })
  fits m own Tray machine body built =
      let tray = tray-at design request (is-routed given) m body.0 body.1 in
      subst (λ (t : Machine). IsFitting wires m (kind_of t)) (sym built)
      (record {
        ins = sym (tray-takes wires m (value_at design.circuit.outs tray.port) tray.takes (is-routed given).once);
        outs = sym (tray-gives-none wires m (value_at design.circuit.outs tray.port) tray.takes);
        needs = λ o i has. absurd (omega (arith, has.1));
        fields = no-ports-fields 1;
        numbers = no-ports-numbers;
      })
  fits m own (Bridge bridge) machine body built =
      let piece = turned bridge.model bridge.ins bridge.outs in
      let at = body.1 in
      let ins : length bridge.ins ≡ length (channels_to wires m) = ap length at.ins ∙ length-map (channels_to wires m) (seen_place given m bridge body) in
      let outs : length bridge.outs ≡ length (channels_from wires m) = ap length at.outs ∙ length-map (channels_from wires m) (driven_place given m bridge body) in
      subst (λ (t : Machine). IsFitting wires m (kind_of t)) (sym built)
      (record {
        ins = length-replicate (length piece.ins) empty_latch ∙ length-map bridge.ins (value_at bridge.model.ins) ∙ ins;
        outs = length-replicate (length piece.outs) false ∙ length-map bridge.outs (value_at bridge.model.outs) ∙ outs;
        needs = λ o i has. absurd (no-needs (length piece.outs) o i has);
        fields = no-ports-fields _;
        numbers = no-ports-numbers;
      })

  pub fitting : (starts : Body → Start) (machines : List Machine) → AreBuilt plan starts columns machines → AreFitting wires (length plan.machines) (map kind_of machines)
  fitting starts machines built =
      record {
        total = length-map machines kind_of ∙ built.count;
        each = λ m lt.
            let own = given.planned.machine m nameless lt in
            subst (IsFitting wires m) (sym (kind-is machines m (omega (arith, lt, built.count))))
            (fits m (starts (machine_in plan m).body) (machine_in plan m).body (machine_at machines m) own.body
            (subst (λ (l : List ℕ). IsBuilt columns (length l) (starts (machine_in plan m).body) (machine_in plan m).body (machine_at machines m)) own.outs (built.each m lt)));
      }
