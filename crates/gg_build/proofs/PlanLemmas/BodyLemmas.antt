-- What a plan's units, sources and bridges are.
use Rattle.std.proofs.Common.{◌≡◌, ℕ, ◌+◌, ◌-◌, ◌^◌, ◌<◌, List, [], length, map, refl, sym, ◌∙◌, ap, arith}
use Rattle.std.proofs.lemmas.List.{get_or-map, length-map}
use Rattle.gg_flat.proofs.ListLemmas.{once-apart}
use Rattle.gg_partfile.specs.declared.request.BridgeEntry.{BridgeEntry}
use Rattle.std.specs.Prelude.{◌==◌}
use Rattle.gg_flat.specs.Line.{value_at}
use Rattle.gg_flat.specs.WellFormed.{IsWellFormed}
use Rattle.gg_flat.specs.Run.{Start}
use Rattle.gg_order.specs.Design.{Ordered}
use Rattle.gg_partfile.specs.declared.request.Request.{Request}
use Rattle.gg_part.specs.declared.part.Part.{Part}
use Rattle.gg_part.proofs.FormedLemmas.{IsWellFormed-part}
use Rattle.gg_cut_plan.specs.declared.plan.Body.TheVariants.{Cut, Source, Bridge}
use Rattle.gg_cut_plan.specs.declared.plan.Plan.{Plan}
use Rattle.gg_cut_plan.specs.Bridges.{Models, model_of}
use Rattle.gg_cut_plan.specs.declared.plan.BridgeBody.{BridgeBody}
use Rattle.gg_cut_plan.specs.Ports.{first_bridge}
use Rattle.gg_cut_plan.specs.Plan.{wire_at as link_at, entry_at}
use Rattle.gg_cut_plan.proofs.RangeLemmas.{filter-few}
use Rattle.gg_build.specs.plan.Built.{machine_in, IsGiven}
use Rattle.gg_cut_reference.proofs.WholeLemmas.PortLemmas.{plan-ins}
use Rattle.gg_build.specs.inside.Given.{Given, IsBodyAt, cut_of, given_of}
use Rattle.gg_build.proofs.PlanLemmas.BridgeLemmas.{entry-model}
use Rattle.gg_build.proofs.PlanLemmas.GivenLemmas.{are-few, are-links, body-is, entries-fit, is-routed}
use Rattle.gg_build.proofs.PlanLemmas.SideLemmas.{source-at, source-gives}

module _ (given : Given) where
  open given use {design, request, models, plan, columns, can}
  open cut_of design request use {bridges as b, wires}

  pub unit-formed : (m : ℕ) (part : Part) → IsBodyAt given m (Cut part) → IsWellFormed part.piece
  unit-formed m part body = IsWellFormed-part design.circuit part.piece part.globals part.held part.memories part.clocks can.design_is.formed body.1.is

  -- ---- sources

  pub source-some : (m place : ℕ) → m < length plan.machines → IsBodyAt given m (Source place) → 0 < length (machine_in plan m).outs
  source-some m place lt body =
      let source = source-at design request (is-routed given) m place body.0 body.1 in
      let gives = source-gives wires m (value_at design.circuit.ins source.port) source.gives in
      omega (arith, gives, ap length ((are-links given).outs m lt))

  pub source-few : (m : ℕ) → m < length plan.machines → length (machine_in plan m).outs < 2 ^ 32
  source-few m lt =
      let channels = (are-few given).channels in
      omega (arith, ap length ((are-links given).outs m lt), channels, filter-few (λ c. (link_at wires c).producer == m) 0 (length wires))

  pub source-known : (m place : ℕ) → IsBodyAt given m (Source place) → place < length columns
  source-known m place body = omega (arith, body.0, given.given.count, ap length (plan-ins design request models can))

  -- ---- bridges

  pub bridge-entry : (m : ℕ) (bridge : BridgeBody) → IsBodyAt given m (Bridge bridge) → (k : ℕ) × ((k < length request.bridges) × (bridge.name ≡ (entry_at request.bridges k).name) × (bridge.model ≡ model_of models (entry_at request.bridges k)))
  bridge-entry m bridge body = (m - first_bridge b, (body.1.known, body.1.name, sym (entry-model given m bridge body)))

  -- no two bridges have one name
  pub bridge-once : (m k : ℕ) (bridge other : BridgeBody) → IsBodyAt given m (Bridge bridge) → IsBodyAt given k (Bridge other) → bridge.name ≡ other.name → m ≡ k
  bridge-once m k bridge other one two same =
      let first = first_bridge b in
      let nothing : BridgeEntry = record { name = []; sees = []; drives = [] } in
      let names = map (λ (entry : BridgeEntry). entry.name) request.bridges in
      let count = length-map request.bridges (λ (entry : BridgeEntry). entry.name) in
      let place : m - first ≡ k - first =
      once-apart names [] (entries-fit design request models can).names (m - first) (k - first) (omega (arith, one.1.known, count)) (omega (arith, two.1.known, count))
      (get_or-map (λ (entry : BridgeEntry). entry.name) request.bridges (m - first) nothing [] one.1.known ∙ sym one.1.name ∙ same ∙ two.1.name
      ∙ sym (get_or-map (λ (entry : BridgeEntry). entry.name) request.bridges (k - first) nothing [] two.1.known)) in
      omega (arith, place, one.0, two.0)

pub attached-entry : (design : Ordered) (request : Request) (models : Models) (default : ℕ) (plan : Plan) (columns : List (List ℕ)) (n : ℕ) (start : Start) (rows : List (List ℕ)) → IsGiven design request models default plan columns n start rows → (m : ℕ) → m < length plan.machines → (bridge : BridgeBody) → (machine_in plan m).body ≡ Bridge bridge
    → (k : ℕ) × ((k < length request.bridges) × (bridge.name ≡ (entry_at request.bridges k).name) × (bridge.model ≡ model_of models (entry_at request.bridges k)))
attached-entry design request models default plan columns n start rows given m lt bridge is = bridge-entry (given_of given) m bridge (body-is (given_of given) m (Bridge bridge) lt is)
