-- Where a network begins: each machine with its part of the start that is told, and each pipe with its token.
use Rattle.std.proofs.Common.{◌≡◌, ℕ, ◌<◌, ◌≤◌, List, [], None, Some, length, get_or, sym, ap, ap₂, subst, ◌∙◌, arith}
use Rattle.std.specs.Prelude.{Option, unwrap_or}
use Rattle.gg_flat.specs.Clock.{Ratio}
use Rattle.gg_flat.specs.Line.{value_at}
use Rattle.gg_flat.specs.Run.{Start}
use Rattle.gg_flat.specs.State.{State, opening}
use Rattle.gg_flat.specs.Streams.{Flow}
use Rattle.gg_bits.specs.Limits.{cycle_limit}
use Rattle.gg_part.specs.PartRun.{part_ratios, part_start, part_state}
use Rattle.gg_part.specs.declared.part.Part.{Part}
use Rattle.gg_cut_plan.specs.declared.plan.Body.{Body}
use Rattle.gg_cut_plan.specs.declared.plan.Body.TheVariants.{Cut, Memory, Source, Tray, Bridge}
use Rattle.gg_cut_plan.specs.declared.plan.Plan.{Plan}
use Rattle.gg_cut_plan.specs.Plan.{IsCutPart}
use Rattle.gg_cut_reference.specs.Follows.{plan_token}
use Rattle.gg_cut_reference.specs.Made.{plan_reference}
use Rattle.gg_cut_reference.proofs.StartLemmas.{part-start, start-token}
use Rattle.gg_node.specs.Machine.{Machine, machine_at, no_state}
use Rattle.gg_build.specs.plan.Built.{AreBuilt, IsBuilt, body_start, machine_in}
use Rattle.gg_build.specs.inside.Given.{Given, IsBodyAt, cut_of}
use Rattle.gg_build.proofs.PlanLemmas.GivenLemmas.{body-at}
use Rattle.gg_build.specs.declared.begin.Begin.{Begin}
use Rattle.gg_build.specs.inside.Begin.{part_begin, starts_of, state_from}
use Rattle.gg_build.specs.Build.{IsToRunFrom}
use Rattle.gg_build.specs.inside.Build.{Begins, FromZeros, IsToBegin, IsToRun}

-- ---- the machines

module _ (given : Given) (begin : Begin) (begins : Begins given.design given.request given.plan given.start begin) where
  open given use {design, request, plan, columns, start}
  open cut_of design request use {listed, hub}

  -- a part has its part of the state that is told, or of zeros
  state-begins : (m : ℕ) (part : Part) → IsCutPart design listed hub m part → (told : Option State) → start.state ≡ unwrap_or told (opening (plan_reference design request)) → state_from part told ≡ part_state part.held part.memories start.state
  state-begins m part cut None is = sym (ap (part_state part.held part.memories) is ∙ ap (λ (own : Start). own.state) (part-start design request m part cut))
  state-begins m part cut (Some state) is = ap (part_state part.held part.memories) (sym is)

  part-begins : (m : ℕ) (part : Part) → IsCutPart design listed hub m part → part_begin plan.ratios begin part ≡ part_start part.held part.memories part.clocks start
  part-begins m part cut =
      ap₂ (λ (cycle : ℕ) (state : State). record { cycle = cycle; state = state; ratios = part_ratios part.clocks plan.ratios }) begins.cycle (state-begins m part cut begin.state begins.state)
      ∙ ap (λ (ratios : List Ratio). record { cycle = start.cycle; state = part_state part.held part.memories start.state; ratios = part_ratios part.clocks ratios }) begins.ratios

  body-begins : (m : ℕ) (body : Body) → IsBodyAt given m body → starts_of plan.ratios begin body ≡ body_start start body
  body-begins m (Cut part) is = part-begins m part is.1
  body-begins m (Memory part) is = part-begins m part is.2
  body-begins m (Source place) is = ap (λ (cycle : ℕ). record { cycle = cycle; state = no_state; ratios = [] }) begins.cycle
  body-begins m Tray is = ap (λ (cycle : ℕ). record { cycle = cycle; state = no_state; ratios = [] }) begins.cycle
  body-begins m (Bridge bridge) is = ap (λ (cycle : ℕ). record { cycle = cycle; state = opening bridge.model; ratios = [] }) begins.cycle

  pub machine-begins : (m : ℕ) → m < length plan.machines → starts_of plan.ratios begin (machine_in plan m).body ≡ body_start start (machine_in plan m).body
  machine-begins m lt = body-begins m (machine_in plan m).body (body-at given m lt)

  -- so machines that begin where it is told begin with their parts of the start
  pub built-there : (machines : List Machine) → AreBuilt plan (starts_of plan.ratios begin) columns machines → AreBuilt plan (body_start start) columns machines
  built-there machines built =
      record {
        count = built.count;
        each = λ m lt. subst (λ (own : Start). IsBuilt columns (length (machine_in plan m).outs) own (machine_in plan m).body (machine_at machines m)) (machine-begins m lt) (built.each m lt);
      }

-- ---- zeros

module _ (plan : Plan) (columns : List (List ℕ)) (n : ℕ) (flow : Flow) (begin : Begin) (cycle : begin.cycle ≡ 0) (state : begin.state ≡ None) (none : begin.tokens.items ≡ []) where
  -- cycle 0, no state and no tokens tell the start of a run from zeros
  pub zeros-begin : (start : Start) (run : IsToRunFrom plan start columns n flow) → FromZeros run → Begins run.design run.request plan start begin
  zeros-begin start run zeros =
      record {
        cycle = cycle ∙ sym (ap (λ (own : Start). own.cycle) zeros);
        state = ap (λ (own : Start). own.state) zeros ∙ sym (ap (λ (told : Option State). unwrap_or told (opening (plan_reference run.design run.request))) state);
        tokens = λ c any lt piped.
            let s = (get_or plan.channels c any).signal in
            ap (λ (tokens : List ℕ). value_at tokens c) none ∙ sym (ap (λ (own : Start). plan_token run.design run.request own.state s) zeros ∙ start-token run.design run.request s);
        ratios = run.given.planned.ratios ∙ sym (ap (λ (own : Start). own.ratios) zeros);
      }

  pub run-begins : IsToRun plan columns n flow → IsToBegin plan begin columns n flow
  run-begins is = record { start = is.start; run = is.run; begins = zeros-begin is.start is.run is.zeros }

-- ---- the cycle

-- no run begins past the limit
pub begins-within : (plan : Plan) (begin : Begin) (columns : List (List ℕ)) (n : ℕ) (flow : Flow) → IsToBegin plan begin columns n flow → begin.cycle ≤ cycle_limit
begins-within plan begin columns n flow is = let begun : is.start.cycle ≤ n = is.run.given.run.begun in let most = is.run.given.most in omega (arith, is.begins.cycle, begun, most)
