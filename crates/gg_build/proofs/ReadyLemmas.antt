-- The machines of a plan can be built.
use Rattle.std.proofs.Common.{◌≡◌, ◌≢◌, ℕ, ◌<◌, ◌≤◌, List, [], ◌∷◌, length, refl, sym, subst, arith}
use Rattle.std.specs.Prelude.{Option, Some, None, min, ◌==◌}
use Rattle.gg_flat.specs.Run.{Start}
use Rattle.gg_flat.specs.State.{IsState}
use Rattle.gg_flat.specs.Streams.{Flow}
use Rattle.gg_cut_plan.specs.declared.plan.Body.{Body}
use Rattle.gg_cut_plan.specs.declared.plan.BridgeBody.{BridgeBody}
use Rattle.gg_cut_plan.specs.declared.plan.Body.TheVariants.{Cut, Memory, Source, Tray, Bridge}
use Rattle.gg_cut_plan.specs.declared.plan.Plan.{Plan}
use Rattle.gg_cut_plan.specs.Direct.{routes}
use Rattle.gg_cut_plan.specs.Hosts.{machine_of, least_machine, group_of, leader_in, leader, host_of}
use Rattle.gg_cut_plan.specs.Plan.{wire_at}
use Rattle.gg_cut_plan.proofs.RangeLemmas.{filter-few}
use Rattle.gg_build.specs.plan.Built.{body_start, machine_in, nameless}
use Rattle.gg_build.specs.inside.Given.{Given, IsBodyAt, cut_of, given_of}
use Rattle.gg_build.proofs.PlanLemmas.BodyLemmas.{bridge-once, source-few, source-known, source-some, unit-formed}
use Rattle.gg_build.proofs.PlanLemmas.BridgeLemmas.{bridge-ports}
use Rattle.gg_build.proofs.PlanLemmas.GivenLemmas.{are-few, body-at, body-is, no-fault}
use Rattle.gg_build.proofs.PlanLemmas.FitLemmas.{outs-count}
use Rattle.gg_build.proofs.PlanLemmas.StandLemmas.{memory-formed, memory-chosen, memory-alone}
use Rattle.gg_build.proofs.PlanLemmas.SeenLemmas.{seen-typed}
use Rattle.gg_build.specs.declared.begin.Begin.{Begin}
use Rattle.gg_build.specs.inside.Begin.{starts_of}
use Rattle.gg_build.specs.inside.Build.{IsFaultless, IsToBegin}
use Rattle.gg_build.proofs.BeginLemmas.{machine-begins}
use Rattle.gg_build.specs.inside.Bridges.{IsOther}
use Rattle.gg_build.specs.inside.Hosts.{CanBegin, CanBuild, CanBuildAll, HaveNames, outs_at}

-- ---- hosts

least-below : (units : List (List ℕ)) (group : List (List ℕ)) (n : ℕ) → least_machine units group n ≤ n
least-below units [] n = omega arith
least-below units (path ∷ group) n = let rest = least-below units group (min (machine_of units path) n) in omega (arith, rest)

-- the number of a machine's host is at most the machine's own
host-below : (units : List (List ℕ)) (share : List (List (List ℕ))) (m : ℕ) → host_of units share m ≤ m
host-below units share m =
    let hosts = filter-few (λ k. leader units share k == k) 0 (leader units share m) in
    let first = by (group_of units share m) in
    omega (arith, hosts, first)
  where
    by : (found : Option (List (List ℕ))) → leader_in units m found ≤ m
    by None = omega arith
    by (Some group) = least-below units group m

-- ---- machines

-- a body that can begin from a start can begin from an equal one
begin-by : (starts others : Body → Start) (body : Body) → starts body ≡ others body → CanBegin others body → CanBegin starts body
begin-by starts others (Cut part) same can = subst (λ (own : Start). IsState part.piece own.state) (sym same) can
begin-by starts others (Memory part) same can = subst (λ (own : Start). IsState part.piece own.state) (sym same) can
begin-by starts others (Source place) same can = tt
begin-by starts others Tray same can = tt
begin-by starts others (Bridge bridge) same can = tt

module _ (given : Given) where
  open given use {design, request, models, plan, columns, start, can}
  open cut_of design request use {listed, hub}

  can-build : (m : ℕ) (body : Body) → m < length plan.machines → IsBodyAt given m body → CanBuild columns (outs_at plan.machines m) body
  can-build m (Cut part) lt at =
      let count = outs-count design listed hub m part at.1 in
      let channels = (are-few given).channels in
      let few = filter-few (λ c. (wire_at (routes hub) c).producer == m) 0 (length (routes hub)) in
      record { formed = unit-formed given m part at; ordered = at.1.ordered; few = omega (arith, count, few, channels) }
  can-build m (Memory part) lt at = record { formed = memory-formed given m part at; chosen = memory-chosen given m part at; alone = memory-alone given m part at }
  can-build m (Source place) lt at = record { known = source-known given m place at; some = source-some given m place lt at; few = source-few given m lt }
  can-build m Tray lt at = tt
  can-build m (Bridge bridge) lt at = bridge-ports given m bridge at

  -- a unit or a listed memory begins in its part of the start's state
  can-begin : (m : ℕ) (body : Body) → IsBodyAt given m body → CanBegin (body_start start) body
  can-begin m (Cut part) at = seen-typed design request can.design_is can.keeps given.held (no-fault given) m part at.1 start.state given.typed
  can-begin m (Memory part) at = seen-typed design request can.design_is can.keeps given.held (no-fault given) m part at.2 start.state given.typed
  can-begin m (Source place) at = tt
  can-begin m Tray at = tt
  can-begin m (Bridge bridge) at = tt

  can-build-all : (starts : Body → Start) → ((m : ℕ) → m < length plan.machines → starts (machine_in plan m).body ≡ body_start start (machine_in plan m).body) → CanBuildAll starts columns plan.machines
  can-build-all starts same =
      record {
        few = given.planned.few;
        known = λ m d lt. let low = host-below request.units request.share m in omega (arith, lt, low, (given.planned.machine m d lt).host);
        ready = λ m lt. can-build m (machine_in plan m).body lt (body-at given m lt);
        begin = λ m lt. begin-by starts (body_start start) (machine_in plan m).body (same m lt) (can-begin m (machine_in plan m).body (body-at given m lt));
        alike = λ m k lt less other same. given.planned.shared m k nameless nameless lt less other same;
      }

  -- a machine isn't that of a bridge with this name, if no such bridge has the name
  is-other : (one : Body) (name : List ℕ) → ((body : BridgeBody) → one ≡ Bridge body → body.name ≢ name) → IsOther one name
  is-other (Cut part) name apart = tt
  is-other (Memory part) name apart = tt
  is-other (Source place) name apart = tt
  is-other Tray name apart = tt
  is-other (Bridge body) name apart = apart body refl

  have-names : HaveNames plan.machines
  have-names =
      λ m k lt less other body is. is-other (machine_in plan m).body body.name (λ one first same. other (bridge-once given m k one body (body-is given m (Bridge one) lt first) (body-is given k (Bridge body) less is) same))

-- ---- the machines of a plan that is to run

module _ (plan : Plan) (begin : Begin) (columns : List (List ℕ)) (n : ℕ) (flow : Flow) (is : IsToBegin plan begin columns n flow) where
  pub all-ready : CanBuildAll (starts_of plan.ratios begin) columns plan.machines
  all-ready = can-build-all (given_of is.run.given) (starts_of plan.ratios begin) (machine-begins (given_of is.run.given) begin is.begins)

  pub all-named : HaveNames plan.machines
  all-named = have-names (given_of is.run.given)

  pub faultless : IsFaultless plan
  faultless =
      record { design = is.run.design; request = is.run.request; models = is.run.models; default = is.run.default; can = is.run.given.can; some = is.run.given.some; planned = is.run.given.planned }
