-- A network can begin with a snapshot.
use Rattle.std.proofs.Common.{◌≡◌, ℕ, ◌+◌, ◌<◌, ◌≤◌, List, [], length, get_or, Some, sym, ap, ap₂, ◌∙◌, subst, arith}
use Rattle.std.specs.Prelude.{All, Option, unwrap_or}
use Rattle.std.proofs.lemmas.List.{length-map}
use Rattle.gg_bits.specs.Shape.{shape}
use Rattle.gg_flat.specs.declared.piece.Register.{Register}
use Rattle.gg_flat.specs.Circuit.{FlatCircuit}
use Rattle.gg_flat.specs.Line.{value_at}
use Rattle.gg_flat.specs.Run.{Start}
use Rattle.gg_flat.specs.State.{State, opening}
use Rattle.gg_flat.specs.Streams.{Flow}
use Rattle.gg_order.specs.Design.{Ordered}
use Rattle.gg_cut_plan.specs.declared.plan.Channel.{Channel}
use Rattle.gg_cut_plan.specs.declared.plan.Plan.{Plan}
use Rattle.gg_cut_plan.specs.Direct.{plan_hub}
use Rattle.gg_cut_plan.specs.Listed.{listed_of}
use Rattle.gg_cut_plan.specs.Plan.{IsBody}
use Rattle.gg_cut_reference.specs.Made.{plan_reference}
use Rattle.gg_cut_reference.proofs.PlanLemmas.{plan-made}
use Rattle.gg_build.specs.declared.begin.Begin.{Begin}
use Rattle.gg_build.specs.inside.Begin.{AreTokens}
use Rattle.gg_build.specs.plan.Built.{nameless}
use Rattle.gg_build.specs.inside.Build.{Begins, HasBridges, IsToBegin}
use Rattle.gg_snap.specs.inside.Gathered.{pipe_number}
use Rattle.gg_snap.specs.inside.Whole.{CanBegin}
use Rattle.gg_snap.proofs.AloneLemmas.{no-bridge, run-alone}
use Rattle.gg_snap.proofs.PlannedLemmas.{known-signals, token-is}

-- the same tokens, told by other names
pub tokens-by : (a b : List Channel) (xs ys : List ℕ) (m n : ℕ) (tokens : List ℕ) → a ≡ b → xs ≡ ys → m ≡ n → AreTokens a (λ s. value_at xs (m + pipe_number a s)) tokens → AreTokens b (λ s. value_at ys (n + pipe_number b s)) tokens
tokens-by a b xs ys m n tokens channels values held are =
    subst (λ l. AreTokens l (λ s. value_at ys (n + pipe_number l s)) tokens) channels
    (subst (λ l. AreTokens a (λ s. value_at l (n + pipe_number a s)) tokens) values
    (subst (λ k. AreTokens a (λ s. value_at xs (k + pipe_number a s)) tokens) held are))

module _ (plan : Plan) (design : Ordered) (cycle : ℕ) (state : State) (start : Start) (columns : List (List ℕ)) (n : ℕ) (flow : Flow) (can : CanBegin plan design cycle state start columns n flow) where
  -- the state has all registers of the design
  pub registers-there : length design.circuit.registers ≤ length state.registers
  registers-there =
      let given = run-alone can.run can.alone in
      let reference = plan-made can.run.design can.run.request given.design_is given.keeps given.held given.faultless in
      let long : length start.state.registers ≡ length (plan_reference can.run.design can.run.request).registers = given.typed.typed.count ∙ length-map (plan_reference can.run.design can.run.request).registers (λ (register : Register). shape register.ty) in
      omega (arith, long, reference.registers, ap (λ (s : State). length s.registers) can.in_state, ap (λ (d : Ordered). length d.circuit.registers) can.of_design)

  pub signals-there : All (λ (channel : Channel). channel.signal < length design.circuit.signals) plan.channels
  signals-there =
      subst (λ (d : Ordered). All (λ (channel : Channel). channel.signal < length d.circuit.signals) plan.channels) can.of_design
      (known-signals can.run.design can.run.request can.run.models can.run.default plan (run-alone can.run can.alone).planned (run-alone can.run can.alone).design_is (run-alone can.run can.alone).keeps (run-alone can.run can.alone).faultless)

  -- such a plan has no bridge, so none has to be handed in
  pub none-owed : {B : Type 0} (piece : B → FlatCircuit) (inside : B → State) (bridges : List (List ℕ × B)) → bridges ≡ [] → HasBridges piece inside plan bridges
  none-owed piece inside bridges e = subst (HasBridges piece inside plan) (sym e) (record {
    names = λ i j d less low. absurd (omega (arith, low));
    each = λ m body lt is.
        let own = (can.run.given.planned.machine m nameless lt).body in
        let bridge = subst (IsBody can.run.design can.run.request can.run.models (listed_of can.run.design.tree can.run.request) (plan_hub can.run.design.circuit can.run.design.tree can.run.request) m) is own in
        absurd (no-bridge can.run.design can.run.request can.run.models can.run.default plan columns n start can.run.rows can.run.given can.alone m lt bridge.0);
  })

  -- what tells the cycle, the state and the tokens of its pipes tells the start
  module _ (begin : Begin) (begun : begin.cycle ≡ cycle) (has : begin.state ≡ Some state) (tokens : AreTokens plan.channels (λ s. value_at state.registers (length design.circuit.registers + pipe_number plan.channels s)) begin.tokens.items) where
    pub begins : Begins can.run.design can.run.request plan start begin
    begins = record {
      cycle = begun ∙ sym can.at_cycle;
      state = can.in_state ∙ sym (ap (λ (told : Option State). unwrap_or told (opening (plan_reference can.run.design can.run.request))) has);
      tokens = λ c any lt pipe.
          tokens c any lt pipe
          ∙ sym (token-is can.run.design can.run.request can.run.models can.run.default plan (run-alone can.run can.alone).planned (run-alone can.run can.alone).design_is (run-alone can.run can.alone).keeps (run-alone can.run can.alone).faultless c any lt pipe start.state
          ∙ ap₂ (λ (d : Ordered) (s : State). value_at s.registers (length d.circuit.registers + pipe_number plan.channels (get_or plan.channels c any).signal)) can.of_design can.in_state);
      ratios = can.run.given.planned.ratios ∙ sym can.run.given.clocked;
    }

    pub to-begin : IsToBegin plan begin columns n flow
    to-begin = record { start = start; run = can.run; begins = begins }
