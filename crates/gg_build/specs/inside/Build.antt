-- More on Build: definitions that no promise of the program reaches.
-- Source: MEMOCODE 2009 (a synchronous circuit as a network of its parts, with the circuit's own streams); ICCAD
-- 2019 (units and memories of a target as models of their own).
use Rattle.std.specs.Prelude.{◌≡◌, ◌≢◌, ℕ, ◌<◌, List, AllPairs, Contains, length, map, unwrap_or}
use Rattle.gg_flat.specs.Circuit.{FlatCircuit}
use Rattle.gg_flat.specs.State.{State, opening}
use Rattle.gg_flat.specs.Run.{Start}
use Rattle.gg_flat.specs.Streams.{Flow}
use Rattle.gg_order.specs.Design.{Ordered}
use Rattle.gg_partfile.specs.declared.request.Request.{Request}
use Rattle.gg_cut_plan.specs.declared.plan.Plan.{Plan}
use Rattle.gg_cut_plan.specs.Bridges.{Models}
use Rattle.gg_cut_plan.specs.declared.plan.Body.TheVariants.{Bridge}
use Rattle.gg_cut_plan.specs.declared.plan.BridgeBody.{BridgeBody}
use Rattle.gg_cut_plan.specs.Plan.{IsPlan}
use Rattle.gg_cut_reference.specs.Follows.{plan_start, plan_token}
use Rattle.gg_cut_reference.specs.Made.{plan_reference}
use Rattle.gg_cut_reference.specs.whole.Whole.{CanBridge}
use Rattle.gg_net.specs.Network.{Network}
use Rattle.gg_build.specs.plan.Built.{machine_in}
use Rattle.gg_build.specs.declared.begin.Begin.{Begin}
use Rattle.gg_build.specs.inside.Begin.{AreTokens}
use Rattle.gg_build.specs.Build.{IsOpeningFrom, IsToRunFrom, run_token}

-- The plan of a design and of a request without a fault for it and for these models. The design's circuit keeps to its tree. The plan's channels may
-- hold at least one token each.
pub record IsFaultless (plan : Plan) : Type 0 where
  pub design : Ordered
  pub request : Request
  pub models : Models
  pub default : ℕ
  pub can : CanBridge design request models
  pub some : 0 < default
  pub planned : IsPlan design request models default plan

-- ---- where a run begins

-- The run begins at cycle 0 with zeros, and with the ratios that the request gives the clocks.
abbrev pub FromZeros : {plan : Plan} {start : Start} {columns : List (List ℕ)} {n : ℕ} {flow : Flow} → IsToRunFrom plan start columns n flow → Type 0
FromZeros {start = start} run = start ≡ plan_start run.design run.request

-- The plan's network can be run from cycle 0 and zeros.
pub record IsToRun (plan : Plan) (columns : List (List ℕ)) (n : ℕ) (flow : Flow) : Type 0 where
  pub start : Start
  pub run : IsToRunFrom plan start columns n flow
  pub zeros : FromZeros run

-- `begin` describes this start: its cycle, its state of the reference circuit, where no state means zeros, and the token of each channel that has a
-- pipe. The start's ratios are the plan's.
pub record Begins (design : Ordered) (request : Request) (plan : Plan) (start : Start) (begin : Begin) : Type 0 where
  pub cycle : begin.cycle ≡ start.cycle
  pub state : start.state ≡ unwrap_or begin.state (opening (plan_reference design request))
  pub tokens : AreTokens plan.channels (plan_token design request start.state) begin.tokens.items
  pub ratios : plan.ratios ≡ start.ratios

-- The plan's network can be run from the start that `begin` describes.
pub record IsToBegin (plan : Plan) (begin : Begin) (columns : List (List ℕ)) (n : ℕ) (flow : Flow) : Type 0 where
  pub start : Start
  pub run : IsToRunFrom plan start columns n flow
  pub begins : Begins run.design run.request plan start begin

-- ---- the network before its first step

-- The network is the plan's before its first cycle, with zeros, for each run that begins there.
abbrev pub BeginsWithZeros : Plan → (columns : List (List ℕ)) → (n : ℕ) → Flow → Network → Type 0
BeginsWithZeros plan columns n flow net =
    (start : Start) (run : IsToRunFrom plan start columns n flow)
    -- The run begins at cycle 0 with zeros.
    → FromZeros run
    -- The machines begin with their parts of the start, and each pipe has the token that the start's state gives its register.
    → IsOpeningFrom plan start (run_token run) columns n net

-- The network is the plan's before its first step from the start that `begin` describes, with n cycles to do in all, for each run that begins there.
abbrev pub BeginsThere : Plan → Begin → (columns : List (List ℕ)) → (n : ℕ) → Flow → Network → Type 0
BeginsThere plan begin columns n flow net =
    (start : Start) (run : IsToRunFrom plan start columns n flow)
    -- `begin` describes this start, with the tokens for the design and the request of the run.
    → Begins run.design run.request plan start begin
    -- The machines begin with their parts of the start, and each pipe has the token that the start's state gives its register.
    → IsOpeningFrom plan start (run_token run) columns n net

-- ---- bridges

-- One of these bridges has this name, the model and the state of zeros.
pub record HasBridge {B : Type 0} (piece : B → FlatCircuit) (state : B → State) (bridges : List (List ℕ × B)) (body : BridgeBody) : Type 0 where
  pub bridge : B
  pub known : Contains bridges (body.name, bridge)
  pub model : piece bridge ≡ body.model
  pub opens : state bridge ≡ opening body.model

-- The bridges have different names. Each bridge of the plan is among them, with its model and with zeros.
pub record HasBridges {B : Type 0} (piece : B → FlatCircuit) (state : B → State) (plan : Plan) (bridges : List (List ℕ × B)) : Type 0 where
  pub names : AllPairs (λ a b. a ≢ b) (map (λ pair. pair.0) bridges)
  pub each : (m : ℕ) (body : BridgeBody) → m < length plan.machines → (machine_in plan m).body ≡ Bridge body → HasBridge piece state bridges body

-- The plan has no machine of a bridge.
abbrev pub NeedsNone : Plan → Type 0
NeedsNone plan = (m : ℕ) (body : BridgeBody) → m < length plan.machines → (machine_in plan m).body ≢ Bridge body
