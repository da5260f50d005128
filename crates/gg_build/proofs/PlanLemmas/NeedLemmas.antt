-- If an out of a machine needs an in, the signal of the out's channel reaches the signal of the in's channel in the circuit.
use Rattle.std.proofs.Common.{◌≡◌, ◌≢◌, ℕ, ◌<◌, List, [], false, length, sym, ◌∙◌, ap, subst, arith}
use Rattle.std.specs.Prelude.{Contains, replicate}
use Rattle.std.proofs.lemmas.List.{length-map, get_or-map}
use Rattle.gg_flat.specs.Line.{value_at}
use Rattle.gg_flat.specs.Circuit.{FlatCircuit}
use Rattle.gg_flat.specs.Reads.{Reaches}
use Rattle.gg_flat.specs.Run.{Start}
use Rattle.gg_order.specs.Design.{Ordered}
use Rattle.gg_order.proofs.NeedsLemmas.ReachLemmas.{Reaches-itself, Reaches-on}
use Rattle.gg_part.specs.declared.part.Part.{Part}
use Rattle.gg_partfile.specs.declared.request.BridgeEntry.{BridgeEntry}
use Rattle.gg_cut_plan.specs.declared.listed.Listed.{Listed}
use Rattle.gg_cut_plan.specs.declared.plan.Body.{Body}
use Rattle.gg_cut_plan.specs.declared.plan.Body.TheVariants.{Cut, Memory, Source, Tray, Bridge}
use Rattle.gg_cut_plan.specs.declared.wires.Wire.{Wire as Link}
use Rattle.gg_cut_plan.specs.Channels.{wire}
use Rattle.gg_cut_plan.specs.Direct.{Hub, routes}
use Rattle.gg_cut_plan.specs.Plan.{wire_at as link_at, channels_to, channels_from, signals_of, givens_of, IsCutPart}
use Rattle.gg_cut_routes.specs.inside.Routes.{AreRoutes}
use Rattle.gg_bridge.specs.Turned.{turned}
use Rattle.gg_memunit.specs.MemoryUnit.{needs_of}
use Rattle.gg_node.specs.Machine.{Machine, needs_at}
use Rattle.gg_net.specs.Network.{Kind, kind_of}
use Rattle.gg_build.specs.plan.Built.{IsUnitOf, IsMemoryOf, IsBuilt}
use Rattle.std.proofs.lemmas.List.Elements.{Contains-get_or}
use Rattle.gg_build.specs.inside.Given.{Given, IsBodyAt, cut_of}
use Rattle.gg_build.proofs.PlanLemmas.GivenLemmas.{is-routed}
use Rattle.gg_build.proofs.PlanLemmas.FitLemmas.{ins-count, outs-count}
use Rattle.gg_build.proofs.PlanLemmas.ListedLemmas.{given-at, taken-at}
use Rattle.gg_build.proofs.PlanLemmas.PortLemmas.{needs-there, no-needs, needs-count, piece-needs}
use Rattle.gg_build.proofs.PlanLemmas.RankLemmas.{reach-in}

-- in the circuit, the signal by which the channel at out o of machine m is given reaches the signal of the channel at in i
abbrev pub ReachesIn : FlatCircuit → List Link → ℕ → ℕ → ℕ → Type 0
ReachesIn circuit links m o i = Reaches circuit (value_at (givens_of links (channels_from links m)) o) (value_at (signals_of links (channels_to links m)) i)

-- they are two signals
abbrev pub DiffersFrom : List Link → ℕ → ℕ → ℕ → Type 0
DiffersFrom links m o i = value_at (givens_of links (channels_from links m)) o ≢ value_at (signals_of links (channels_to links m)) i

-- the signals of a machine's outs reach those of the ins that they need, which are others
pub record HasNeeds (circuit : FlatCircuit) (links : List Link) (m : ℕ) (kind : Kind) : Type 0 where
  pub reach : (o i : ℕ) → Contains (needs_at kind.needs o) i → ReachesIn circuit links m o i
  pub apart : (o i : ℕ) → Contains (needs_at kind.needs o) i → DiffersFrom links m o i

module _ (design : Ordered) (listed : Listed) (entries : List BridgeEntry) (hub : Hub) (routed : AreRoutes design listed entries hub) (m : ℕ) (part : Part) (cut : IsCutPart design listed hub m part) where
  -- no machine takes what it gives
  part-differs : (o i : ℕ) → o < length part.piece.outs → i < length part.piece.ins → DiffersFrom (routes hub) m o i
  part-differs o i low less same =
      let from = channels_from (routes hub) m in
      let to = channels_to (routes hub) m in
      let there : o < length from = omega (arith, low, outs-count design listed hub m part cut) in
      let here : i < length to = omega (arith, less, ins-count design listed hub m part cut) in
      let given = given-at (routes hub) m o there in
      let taken = taken-at (routes hub) m i here in
      let c = value_at from o in
      let d = value_at to i in
      routed.no_echo (link_at (routes hub) c) (link_at (routes hub) d) (Contains-get_or (routes hub) c (wire 0 0 0) given.known) (Contains-get_or (routes hub) d (wire 0 0 0) taken.known) (given.producer ∙ sym taken.consumer)
      (sym (get_or-map (λ k. (link_at (routes hub) k).given) from o 0 0 there) ∙ same ∙ get_or-map (λ k. (link_at (routes hub) k).signal) to i 0 0 here)

  -- an out-signal of the part that reaches an in-signal does so in the circuit
  part-reaches : (o i : ℕ) → o < length part.piece.outs → i < length part.piece.ins → Reaches part.piece (value_at part.piece.outs o) (value_at part.piece.ins i) → ReachesIn design.circuit (routes hub) m o i
  part-reaches o i low less to =
      let whole = reach-in design.circuit part.piece part.globals part.held part.memories part.clocks cut.is (value_at part.piece.outs o) (value_at part.piece.ins i) (cut.is.outs o low) to in
      let out : value_at part.globals (value_at part.piece.outs o) ≡ value_at (givens_of (routes hub) (channels_from (routes hub) m)) o = sym (get_or-map (value_at part.globals) part.piece.outs o 0 0 low) ∙ ap (λ (l : List ℕ). value_at l o) cut.outs in
      let into : value_at part.globals (value_at part.piece.ins i) ≡ value_at (signals_of (routes hub) (channels_to (routes hub) m)) i = sym (get_or-map (value_at part.globals) part.piece.ins i 0 0 less) ∙ ap (λ (l : List ℕ). value_at l i) cut.ins in
      subst (λ (s : ℕ). Reaches design.circuit s (value_at (signals_of (routes hub) (channels_to (routes hub) m)) i)) out
      (subst (λ (s : ℕ). Reaches design.circuit (value_at part.globals (value_at part.piece.outs o)) s) into whole)

  unit-needs : (own : Start) (machine : Machine) → IsUnitOf own part machine → HasNeeds design.circuit (routes hub) m (kind_of machine)
  unit-needs own machine unit =
      subst (λ (t : Machine). HasNeeds design.circuit (routes hub) m (kind_of t)) (sym unit.is)
      (record {
        reach = λ o i has.
            let there = needs-there unit.needs o i has in
            let low : o < length part.piece.outs = omega (arith, there, unit.exact.count) in
            let need = ((unit.exact.each o low).exact i).0 has in
            part-reaches o i low need.0 need.1;
        apart = λ o i has.
            let there = needs-there unit.needs o i has in
            let low : o < length part.piece.outs = omega (arith, there, unit.exact.count) in
            part-differs o i low (((unit.exact.each o low).exact i).0 has).0;
      })

  memory-needs : (own : Start) (machine : Machine) → IsMemoryOf own part machine → HasNeeds design.circuit (routes hub) m (kind_of machine)
  memory-needs own machine memory =
      let alone = memory.alone in
      let piece = alone.piece in
      let is = memory.is_memory in
      let own_ins : length piece.ins ≡ length part.piece.ins = sym (length-map piece.ins (value_at alone.globals)) ∙ ap length memory.ins in
      let own_outs : length piece.outs ≡ length part.piece.outs = sym (length-map piece.outs (value_at alone.globals)) ∙ ap length memory.outs in
      subst (λ (t : Machine). HasNeeds design.circuit (routes hub) m (kind_of t)) (sym memory.is)
      (record {
        reach = λ o i has.
            let there = needs-there (needs_of piece.memories) o i has in
            let low : o < length piece.outs = omega (arith, there, needs-count piece.memories, ap length is.outs) in
            let read = piece-needs piece o i is low has in
            let to = Reaches-on piece (value_at piece.outs o) (value_at piece.outs o) (value_at piece.ins i) (Reaches-itself piece (value_at piece.outs o)) read.reads in
            let outer = reach-in part.piece piece alone.globals alone.held alone.memories alone.clocks memory.is_part (value_at piece.outs o) (value_at piece.ins i) (memory.is_part.outs o low) to in
            let out : value_at alone.globals (value_at piece.outs o) ≡ value_at part.piece.outs o = sym (get_or-map (value_at alone.globals) piece.outs o 0 0 low) ∙ ap (λ (l : List ℕ). value_at l o) memory.outs in
            let into : value_at alone.globals (value_at piece.ins i) ≡ value_at part.piece.ins i = sym (get_or-map (value_at alone.globals) piece.ins i 0 0 read.within) ∙ ap (λ (l : List ℕ). value_at l i) memory.ins in
            part-reaches o i (omega (arith, low, own_outs)) (omega (arith, read.within, own_ins))
            (subst (λ (s : ℕ). Reaches part.piece s (value_at part.piece.ins i)) out
            (subst (λ (s : ℕ). Reaches part.piece (value_at alone.globals (value_at piece.outs o)) s) into outer));
        apart = λ o i has.
            let there = needs-there (needs_of piece.memories) o i has in
            let low : o < length piece.outs = omega (arith, there, needs-count piece.memories, ap length is.outs) in
            let read = piece-needs piece o i is low has in
            part-differs o i (omega (arith, low, own_outs)) (omega (arith, read.within, own_ins));
      })

none-needed : (circuit : FlatCircuit) (links : List Link) (m outs : ℕ) (kind : Kind) → kind.needs ≡ replicate outs [] → HasNeeds circuit links m kind
none-needed circuit links m outs kind is =
    let none : (o i : ℕ) → Contains (needs_at kind.needs o) i → ⊥ = λ o i has. no-needs outs o i (subst (λ (l : List (List ℕ)). Contains (needs_at l o) i) is has) in
    record { reach = λ o i has. absurd (none o i has); apart = λ o i has same. none o i has }

module _ (given : Given) where
  open given use {design, request, columns}
  open cut_of design request use {listed, hub, wires}

  -- this holds for each machine of the network
  pub has-needs : (outs m : ℕ) (own : Start) (body : Body) (machine : Machine) → IsBodyAt given m body → IsBuilt columns outs own body machine → HasNeeds design.circuit wires m (kind_of machine)
  has-needs outs m own (Cut part) machine body built = unit-needs design listed request.bridges hub (is-routed given) m part body.1 own machine built
  has-needs outs m own (Memory part) machine body built = memory-needs design listed request.bridges hub (is-routed given) m part body.2 own machine built
  has-needs outs m own (Source place) machine body built = none-needed design.circuit wires m (length (replicate outs false)) (kind_of machine) (ap (λ (t : Machine). t.needs) built)
  has-needs outs m own Tray machine body built = none-needed design.circuit wires m 0 (kind_of machine) (ap (λ (t : Machine). t.needs) built)
  has-needs outs m own (Bridge bridge) machine body built =
      none-needed design.circuit wires m (length (turned bridge.model bridge.ins bridge.outs).outs) (kind_of machine) (ap (λ (t : Machine). t.needs) built)
