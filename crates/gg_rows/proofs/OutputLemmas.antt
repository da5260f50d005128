-- The trays of a plan's network have the out-signals of the plan's circuit.
use Rattle.std.proofs.Common.{◌≡◌, ℕ, ◌+◌, ◌-◌, ◌<◌, ◌≤◌, List, Some, length, refl, sym, ap, ◌∙◌, arith}
use Rattle.std.proofs.lemmas.List.{get_or-map, length-map, ext_get_or}
use Rattle.gg_flat.specs.Line.{value_at}
use Rattle.gg_flat.proofs.ListLemmas.{some-item}
use Rattle.gg_flat.specs.Circuit.{FlatCircuit}
use Rattle.gg_flat.specs.Run.{Start, row_at}
use Rattle.gg_flat.specs.Streams.{Flow}
use Rattle.gg_order.specs.Design.{Ordered}
use Rattle.gg_cut_plan.specs.Direct.{Hub, plan_hub}
use Rattle.gg_cut_plan.specs.Machines.{first_source}
use Rattle.gg_cut_plan.specs.Listed.{listed_of}
use Rattle.gg_cut_plan.specs.Bridges.{Models}
use Rattle.gg_cut_plan.specs.Ports.{Bridges, first_bridge, first_kept_tray, machine_end, open_ins, plan_bridges}
use Rattle.gg_cut_plan.specs.Plan.{IsBody}
use Rattle.gg_cut_plan.specs.declared.listed.Listed.{Listed}
use Rattle.gg_cut_plan.specs.declared.plan.Body.{Body}
use Rattle.gg_cut_plan.specs.declared.plan.Body.TheVariants.{Cut, Memory, Source, Tray, Bridge}
use Rattle.gg_cut_plan.specs.declared.plan.Channel.{Channel}
use Rattle.gg_cut_plan.specs.declared.plan.Plan.{Plan}
use Rattle.gg_partfile.specs.declared.request.Request.{Request}
use Rattle.gg_cut_reference.specs.whole.Whole.{plan_circuit}
use Rattle.gg_rows.proofs.TrayLinkLemmas.{IsTrayLink, tray-link, trays-there}
use Rattle.gg_rows.proofs.CountLemmas.{trays-begin}
use Rattle.gg_node.specs.Machine.{KeepsLast, Machine, kept_value, machine_at}
use Rattle.gg_net.specs.Network.{Network, Frame, Kind, frame_of, kind_of, kind_at, wire_at, AllStandAt}
use Rattle.gg_net.specs.Kept.{Kept, list_at}
use Rattle.gg_build.specs.plan.Built.{IsBuilt, body_start, machine_in, nameless, wires_of_plan}
use Rattle.gg_bits.specs.Limits.{tray_rows}
use Rattle.gg_build.proofs.PlanLemmas.FitLemmas.{kind-is}
use Rattle.gg_build.proofs.PlanLemmas.LinkLemmas.{length-from, wire-from}
use Rattle.gg_build.specs.Build.{IsOpeningFrom, IsToRunFrom, run_token}
use Rattle.gg_rows.specs.inside.Rows.{AreTraysOf, StillHas, outputs_in, told_value}
use Rattle.gg_build.specs.StandsAt.{IsNetOfPlan}
use Rattle.gg_rows.proofs.TrayLemmas.{tray-keeps, tray-only, tray-tells}

pub opening-is-net : (plan : Plan) (start : Start) (token : ℕ → ℕ) (columns : List (List ℕ)) (n : ℕ) (net : Network) → IsOpeningFrom plan start token columns n net → IsNetOfPlan plan start token columns n net
opening-is-net plan start token columns n net is = record { machines = is.machines; built = is.built; frame = ap frame_of is.is }

pub net-stays : (plan : Plan) (start : Start) (token : ℕ → ℕ) (columns : List (List ℕ)) (n : ℕ) (old new : Network) → IsNetOfPlan plan start token columns n old → frame_of new ≡ frame_of old → IsNetOfPlan plan start token columns n new
net-stays plan start token columns n old new is same = record { machines = is.machines; built = is.built; frame = same ∙ is.frame }

-- a machine of a plan from the first tray on, before the bridges, is a tray
tray-behaves : (design : Ordered) (request : Request) (models : Models) (listed : Listed) (hub : Hub) (columns : List (List ℕ)) (outs m : ℕ) (own : Start) (body : Body) (machine : Machine) → listed ≡ listed_of design.tree request
    → first_kept_tray (plan_bridges design.circuit design.tree request) ≡ first_source listed + length (open_ins design.circuit request)
    → first_kept_tray (plan_bridges design.circuit design.tree request) ≤ m → m < first_bridge (plan_bridges design.circuit design.tree request) → IsBody design request models listed hub m body → IsBuilt columns outs own body machine
    → machine.behaviour ≡ KeepsLast tray_rows
tray-behaves design request models listed hub columns outs m own (Cut part) machine same first low high is built = absurd (omega (arith, low, first, is.0))
tray-behaves design request models listed hub columns outs m own (Memory part) machine same first low high is built = absurd (omega (arith, low, first, is.1))
tray-behaves design request models listed hub columns outs m own (Source place) machine same first low high is built = absurd (omega (arith, low, first, is.0, is.1))
tray-behaves design request models listed hub columns outs m own Tray machine same first low high is built = ap (λ (x : Machine). x.behaviour) built
tray-behaves design request models listed hub columns outs m own (Bridge bridge) machine same first low high is built = absurd (omega (arith, high, is.0))

-- ---- the tray of an output

module _ (plan : Plan) (start : Start) (columns : List (List ℕ)) (n : ℕ) (flow : Flow) (run : IsToRunFrom plan start columns n flow) (net : Network) (is : IsNetOfPlan plan start (run_token run) columns n net) (kept : Kept flow net) where
  abbrev all : FlatCircuit
  all = plan_circuit run.design run.request run.models

  abbrev outs : List ℕ
  outs = (plan_circuit run.design run.request run.models).outs

  abbrev seats : Bridges
  seats = plan_bridges run.design.circuit run.design.tree run.request

  abbrev tray : ℕ → ℕ
  tray k = first_kept_tray (plan_bridges run.design.circuit run.design.tree run.request) + k

  trays : first_kept_tray seats + length outs ≡ first_bridge seats
  trays = trays-there run.design run.request run.models run.default plan columns n start run.rows run.given

  count : length net.machines ≡ machine_end seats
  count =
      omega (
        arith,
        length-map net.machines kind_of,
        length-map is.machines kind_of,
        ap (λ (f : Frame). length f.kinds) is.frame,
        is.built.count,
        run.given.planned.machine_total,
      )

  -- there is a tray for each out-signal
  pub outs-few : first_kept_tray seats + length outs ≤ length net.machines
  outs-few = omega (arith, count, trays)

  planned-tray : (k : ℕ) → k < length outs → tray k < length plan.machines
  planned-tray k lt = omega (arith, lt, trays, run.given.planned.machine_total)

  behaves : (k : ℕ) → k < length outs → (machine_at net.machines (tray k)).behaviour ≡ KeepsLast tray_rows
  behaves k lt =
      let m = tray k in
      let there : m < length plan.machines = planned-tray k lt in
      let kinds : kind_of (machine_at net.machines m) ≡ kind_of (machine_at is.machines m) =
      sym (kind-is net.machines m (omega (arith, lt, trays, count))) ∙ ap (λ (f : Frame). kind_at f.kinds m) is.frame ∙ kind-is is.machines m (omega (arith, there, is.built.count)) in
      ap (λ (kind : Kind). kind.behaviour) kinds
      ∙ tray-behaves run.design run.request run.models (listed_of run.design.tree run.request) (plan_hub run.design.circuit run.design.tree run.request) columns (length (machine_in plan m).outs) m (body_start start (machine_in plan m).body) (machine_in plan m).body (machine_at is.machines m) refl
      (trays-begin run.design run.request) (omega arith) (omega (arith, lt, trays))
      (run.given.planned.machine m nameless there).body (is.built.each m there)

  -- the channel of a tray
  record IsTrayChannel (k c : ℕ) : Type 0 where
    known : c < length net.wires
    taken : (wire_at net.wires c).consumer ≡ tray k
    value : (t : ℕ) → t < n → value_at (list_at flow.lists c) t ≡ value_at (row_at run.rows t) (value_at all.outs k)

  tray-carries : (k c : ℕ) → IsTrayLink run.design run.request run.models run.default plan columns n start run.rows run.given k c → IsTrayChannel k c
  tray-carries k c link =
      let any : Channel = some-item plan.channels c link.known in
      let channel = run.given.planned.channel c any link.known in
      let same : net.wires ≡ wires_of_plan (run_token run) plan = ap (λ (f : Frame). f.wires) is.frame in
      record {
        known = omega (arith, link.known, ap length same, length-from (run_token run) plan 0 plan.channels);
        taken = ap (λ l. (wire_at l c).consumer) same ∙ ap (λ v. v.consumer) (wire-from (run_token run) plan 0 plan.channels c any link.known) ∙ channel.consumer ∙ link.consumer;
        value = λ t lt. ap (λ (f : Flow). value_at (list_at f.lists c) t) run.flow_is ∙ link.value t lt;
      }

  tray-channel : (k : ℕ) → k < length outs → (c : ℕ) × IsTrayChannel k c
  tray-channel k lt = let found = tray-link run.design run.request run.models run.default plan columns n start run.rows run.given k lt in (found.0, tray-carries k found.0 found.1)

  -- the values of its channel are those of the out-signal
  carried : (k c t : ℕ) → k < length outs → IsTrayChannel k c → t < n → value_at (list_at flow.lists c) t ≡ value_at (row_at run.rows t) (value_at all.outs k)
  carried k c t lt channel within = channel.value t within

  -- no machine is past the end
  within-end : (m t : ℕ) → m < length net.machines → t < (machine_at net.machines m).cycle → t < n
  within-end m t there done = omega (arith, done, (kept.machines m there).within, ap (λ (f : Frame). f.end) is.frame)

  -- the tray of an output still has the values of a window at the end of which all machines stand
  still-has : (k upto t : ℕ) (lt : k < length outs) → AllStandAt upto net → start.cycle ≤ t → t < upto → upto ≤ t + tray_rows → StillHas net (tray k) (tray-channel k lt).0 flow.begin t
  still-has k upto t lt stand from done near =
      let there : tray k < length net.machines = omega (arith, lt, trays, count) in
      let channel = (tray-channel k lt).1 in
      let at = stand (tray k) there in
      let begin : flow.begin ≡ start.cycle = ap (λ (f : Flow). f.begin) run.flow_is in
      record { there = there; known = channel.known; taken = channel.taken; rows = tray_rows; tray = behaves k lt; begun = omega (arith, begin, from); done = omega (arith, done, at); last = omega (arith, near, at) }

  -- the value of an output in a row
  output-is : (k t : ℕ) → k < length outs → value_at (outputs_in all run.rows t) k ≡ value_at (row_at run.rows t) (value_at all.outs k)
  output-is k t lt = get_or-map (value_at (row_at run.rows t)) all.outs k 0 0 lt

  -- what the tray of an output keeps and tells of a cycle of such a window
  pub keeps : (k upto t : ℕ) → k < length outs → AllStandAt upto net → start.cycle ≤ t → t < upto → upto ≤ t + tray_rows → kept_value (machine_at net.machines (tray k)) t ≡ Some (value_at (outputs_in all run.rows t) k)
  keeps k upto t lt stand from done near =
      let has = still-has k upto t lt stand from done near in
      let found = tray-channel k lt in
      tray-keeps flow net (tray k) found.0 t kept has ∙ ap Some (carried k found.0 t lt found.1 (within-end (tray k) t has.there has.done) ∙ sym (output-is k t lt))

  tells : (k upto t : ℕ) → k < length outs → AllStandAt upto net → start.cycle ≤ t → t < upto → upto ≤ t + tray_rows → told_value (machine_at net.machines (tray k)) t ≡ value_at (outputs_in all run.rows t) k
  tells k upto t lt stand from done near =
      let has = still-has k upto t lt stand from done near in
      let found = tray-channel k lt in
      tray-tells flow net (tray k) found.0 t kept has ∙ carried k found.0 t lt found.1 (within-end (tray k) t has.there has.done) ∙ sym (output-is k t lt)

  -- the tray of an output never keeps another value of a cycle
  pub keeps-only : (k t value : ℕ) → k < length outs → kept_value (machine_at net.machines (tray k)) t ≡ Some value → value ≡ value_at (outputs_in all run.rows t) k
  keeps-only k t value lt has =
      let there : tray k < length net.machines = omega (arith, lt, trays, count) in
      let found = tray-channel k lt in
      let told = tray-only flow net (tray k) found.0 tray_rows t value kept there found.1.known found.1.taken (behaves k lt) has in
      told.1 ∙ carried k found.0 t lt found.1 (within-end (tray k) t there told.0) ∙ sym (output-is k t lt)

  pub outputs-are : (first upto t : ℕ) (values : List ℕ) → AreTraysOf run first (length values) → start.cycle ≤ t → AllStandAt upto net → t < upto → upto ≤ t + tray_rows
      → ((k : ℕ) → k < length values → value_at values k ≡ told_value (machine_at net.machines (first + k)) t) → values ≡ outputs_in (plan_circuit run.design run.request run.models) run.rows t
  outputs-are first upto t values are from all_done done near told =
      ext_get_or 0 values (outputs_in all run.rows t) (are.many ∙ sym (length-map all.outs (value_at (row_at run.rows t))))
      (λ k lt.
      let low : k < length outs = omega (arith, lt, are.many) in
      told k lt ∙ ap (λ m. told_value (machine_at net.machines (m + k)) t) are.begin ∙ tells k upto t low all_done from done near)

-- what is counted of a plan's machines are its trays
pub trays-told : {plan : Plan} {start : Start} {columns : List (List ℕ)} {n : ℕ} {flow : Flow} (run : IsToRunFrom plan start columns n flow) (first count : ℕ)
    → first ≡ first_kept_tray (plan_bridges run.design.circuit run.design.tree run.request)
    → count ≡ first_bridge (plan_bridges run.design.circuit run.design.tree run.request) - first_kept_tray (plan_bridges run.design.circuit run.design.tree run.request) → AreTraysOf run first count
trays-told {plan = plan} {start = start} {columns = columns} {n = n} run first count begin many =
    record { begin = begin; many = omega (arith, many, trays-there run.design run.request run.models run.default plan columns n start run.rows run.given) }
