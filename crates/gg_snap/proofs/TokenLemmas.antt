-- At the end of a run the channel of each pipe has what the pipe's register has.
use Rattle.std.proofs.Common.{◌≡◌, ℕ, zero, suc, ◌+◌, ◌<◌, ◌≤◌, List, [], ◌∷◌, ◌++◌, drop, replicate, length, get_or, true, Some, sym, ap, ap₂, ◌∙◌, subst, arith, ◌⊎◌, inl, inr}
use Rattle.std.proofs.lemmas.Bool.{cases_lt}
use Rattle.std.proofs.lemmas.List.{get_or-drop, length-drop, length-map}
use Rattle.std.proofs.lemmas.List.FromFn.{get_or-map-range_with_len}
use Rattle.gg_bits.specs.Shape.{shape}
use Rattle.gg_flat.specs.declared.piece.Register.{Register}
use Rattle.gg_flat.specs.Circuit.{FlatCircuit, signal_shapes}
use Rattle.gg_flat.specs.Line.{shape_at, value_at}
use Rattle.gg_flat.specs.Run.{Start, column, since, state_at}
use Rattle.gg_flat.specs.Streams.{Flow}
use Rattle.gg_order.proofs.RunsLemmas.SinceLemmas.{since-next, since-self}
use Rattle.gg_cut_plan.specs.declared.plan.Channel.{Channel}
use Rattle.gg_cut_plan.specs.declared.plan.Plan.{Plan}
use Rattle.gg_cut_plan.specs.Direct.{plan_hub}
use Rattle.gg_cut_plan.specs.Solves.{AreRows, stream}
use Rattle.gg_cut_reference.specs.Follows.{plan_token}
use Rattle.gg_cut_reference.specs.Links.{pipes_of}
use Rattle.gg_cut_reference.specs.Made.{AllHeld, IsFresh, plan_reference}
use Rattle.gg_cut_reference.specs.inside.Reference.{IsPipeRegister}
use Rattle.gg_cut_reference.proofs.PipeLemmas.{IsPipe, after, shifted-here, shifted-high}
use Rattle.gg_cut_reference.proofs.PlanLemmas.{plan-made}
use Rattle.gg_net.specs.declared.shape.Wire.{Wire}
use Rattle.gg_net.specs.Network.{Frame, Network, queue_at, wire_at}
use Rattle.gg_net.specs.Kept.{Kept, list_at}
use Rattle.gg_net.proofs.StateLemmas.{column-at}
use Rattle.gg_build.specs.plan.Built.{first_token, wires_of_plan}
use Rattle.gg_build.proofs.PlanLemmas.LinkLemmas.{length-from, wire-from}
use Rattle.gg_build.proofs.PlanLemmas.SolvedLemmas.{stream-at}
use Rattle.gg_build.specs.Build.{IsToRunFrom, run_token}
use Rattle.gg_build.specs.StandsAt.{StandsAt}
use Rattle.gg_snap.specs.inside.Gathered.{ArePipes, IsAll, newest, newest_tokens, pipe_number}
use Rattle.gg_snap.specs.Whole.{last_state}
use Rattle.gg_snap.proofs.AloneLemmas.{run-alone}
use Rattle.gg_snap.proofs.EndLemmas.{last-token}
use Rattle.gg_snap.proofs.AllLemmas.{memories-kept}
use Rattle.gg_snap.proofs.HolderLemmas.{registers-held}
use Rattle.gg_snap.proofs.SizeLemmas.{last-typed}
use Rattle.gg_snap.proofs.PlannedLemmas.{known-signals, pipe-is, pipe-there, pipes-are, token-is}

-- The last value of a pipe's register, in a run of the reference circuit from a start: what it is at the start, or what the channel's signal
-- has in the last cycle. So it is the last value of the channel.
module _ (all : FlatCircuit) (g r s : ℕ) (pipe : IsPipe all g r s) (start : Start) (counted : length start.state.registers ≡ length all.registers) (columns : List (List ℕ)) (rows : List (List ℕ)) where
  last-value : (n : ℕ) → AreRows all start columns n rows → (start.cycle < n) ⊎ (n ≤ start.cycle) → value_at (state_at all start (drop start.cycle rows) (since start.cycle n)).registers r ≡ value_at (replicate start.cycle 0 ++ value_at start.state.registers r ∷ drop start.cycle (column rows s)) n
  last-value zero run (inl less) = absurd (omega (arith, less))
  last-value (suc t) run (inl less) =
      let le : start.cycle ≤ t = omega (arith, less) in
      ap (λ k. value_at (state_at all start (drop start.cycle rows) k).registers r) (since-next start.cycle t le)
      ∙ after all g r s pipe start counted columns (suc t) rows run t le (omega arith)
      ∙ sym (column-at rows s t)
      ∙ sym (shifted-high start.cycle (value_at start.state.registers r) t (column rows s) le)
  last-value n run (inr most) =
      let begun = run.begun in
      let same : n ≡ start.cycle = omega (arith, begun, most) in
      ap (λ k. value_at (state_at all start (drop start.cycle rows) k).registers r) (ap (since start.cycle) same ∙ since-self start.cycle)
      ∙ sym (shifted-here start.cycle (value_at start.state.registers r) (drop start.cycle (column rows s)))
      ∙ ap (value_at (replicate start.cycle 0 ++ value_at start.state.registers r ∷ drop start.cycle (column rows s))) (sym same)

module _ (plan : Plan) (start : Start) (columns : List (List ℕ)) (n : ℕ) (flow : Flow) (run : IsToRunFrom plan start columns n flow) (none : run.request.bridges ≡ []) where
  abbrev all : FlatCircuit
  all = plan_reference run.design run.request

  counts : length start.state.registers ≡ length (plan_reference run.design run.request).registers
  counts = (run-alone run none).typed.typed.count ∙ length-map all.registers (λ (register : Register). shape register.ty)

  -- ---- one pipe

  module _ (c : ℕ) (any : Channel) (lt : c < length plan.channels) (pipe : (get_or plan.channels c any).pipe ≡ true) where
    abbrev channel : Channel
    channel = get_or plan.channels c any

    abbrev number : ℕ
    number = pipe_number plan.channels (get_or plan.channels c any).signal

    abbrev pipes : List ℕ
    pipes = pipes_of (plan_hub run.design.circuit run.design.tree run.request)

    there : pipe_number plan.channels (get_or plan.channels c any).signal < length (pipes_of (plan_hub run.design.circuit run.design.tree run.request))
    there = pipe-there run.design run.request run.models run.default plan (run-alone run none).planned (run-alone run none).design_is (run-alone run none).keeps (run-alone run none).faultless c any lt pipe

    of : value_at (pipes_of (plan_hub run.design.circuit run.design.tree run.request)) (pipe_number plan.channels (get_or plan.channels c any).signal) ≡ (get_or plan.channels c any).signal
    of = pipe-is run.design run.request run.models run.default plan (run-alone run none).planned (run-alone run none).design_is (run-alone run none).keeps (run-alone run none).faultless c any lt pipe

    register-is : IsPipe (plan_reference run.design run.request) (length run.design.circuit.signals + pipe_number plan.channels (get_or plan.channels c any).signal) (length run.design.circuit.registers + pipe_number plan.channels (get_or plan.channels c any).signal) (get_or plan.channels c any).signal
    register-is =
        let reference = plan-made run.design run.request (run-alone run none).design_is (run-alone run none).keeps (run-alone run none).held (run-alone run none).faultless in
        let low = known-signals run.design run.request run.models run.default plan (run-alone run none).planned (run-alone run none).design_is (run-alone run none).keeps (run-alone run none).faultless c any lt in
        let sink = shape_at (signal_shapes run.design.circuit) (value_at pipes number) in
        record {
          known = omega (arith, there, reference.signals);
          driver = reference.pipe_driver number there;
          register = omega (arith, there, reference.registers);
          from = omega (arith, low, reference.signals);
          sink = sink;
          is = λ other. subst (IsPipeRegister (get_or all.registers (length run.design.circuit.registers + number) other) sink) of (reference.pipe_register number other there);
          shape_is = reference.shapes channel.signal low ∙ ap (shape_at (signal_shapes run.design.circuit)) (sym of);
        }

    token : plan_token run.design run.request start.state (get_or plan.channels c any).signal ≡ value_at start.state.registers (length run.design.circuit.registers + pipe_number plan.channels (get_or plan.channels c any).signal)
    token = token-is run.design run.request run.models run.default plan (run-alone run none).planned (run-alone run none).design_is (run-alone run none).keeps (run-alone run none).faultless c any lt pipe start.state

    list-is : list_at flow.lists c ≡ replicate start.cycle 0 ++ value_at start.state.registers (length run.design.circuit.registers + pipe_number plan.channels (get_or plan.channels c any).signal) ∷ drop start.cycle (column run.rows (get_or plan.channels c any).signal)
    list-is =
        ap (λ (f : Flow). list_at f.lists c) run.flow_is
        ∙ stream-at start.cycle (plan_token run.design run.request start.state) plan.channels run.rows c any lt
        ∙ ap₂ (λ token piped. stream start.cycle token piped (column run.rows channel.signal)) token pipe

    held-last : value_at (last_state run).registers (length run.design.circuit.registers + pipe_number plan.channels (get_or plan.channels c any).signal) ≡ value_at (list_at flow.lists c) n
    held-last =
        last-value all (length run.design.circuit.signals + number) (length run.design.circuit.registers + number) channel.signal register-is start counts columns run.rows n (run-alone run none).run (cases_lt start.cycle n)
        ∙ ap (λ (l : List ℕ). value_at l n) (sym list-is)

  -- ---- all pipes

  module _ (net : Network) (kept : Kept flow net) (stand : StandsAt plan start (run_token run) columns n n net) where
    pub wires : net.wires ≡ wires_of_plan (run_token run) plan
    wires = ap (λ (f : Frame). f.wires) stand.of_plan.frame

    opens : (c : ℕ) (any : Channel) → c < length plan.channels → (get_or plan.channels c any).pipe ≡ true → (wire_at net.wires c).first ≡ Some (run_token run (get_or plan.channels c any).signal)
    opens c any lt pipe =
        ap (λ l. (wire_at l c).first) wires ∙ ap (λ (w : Wire). w.first) (wire-from (run_token run) plan 0 plan.channels c any lt)
        ∙ ap (λ b. first_token b (run_token run (get_or plan.channels c any).signal)) pipe

    newest-is : (c : ℕ) (any : Channel) → c < length plan.channels → (get_or plan.channels c any).pipe ≡ true → newest (queue_at net.queues c) ≡ value_at (list_at flow.lists c) n
    newest-is c any lt pipe =
        last-token flow net kept n (ap (λ (f : Frame). f.end) (sym stand.of_plan.frame)) stand.all c (run_token run (get_or plan.channels c any).signal)
        (omega (arith, lt, ap length wires, length-from (run_token run) plan 0 plan.channels)) (opens c any lt pipe)

    tokens-held : IsFresh run.design.circuit → ArePipes plan.channels (length run.design.circuit.signals) (newest_tokens net.queues (length plan.channels)) (drop (length run.design.circuit.registers) (last_state run).registers)
    tokens-held fresh = record {
      count =
          let given = run-alone run none in
          let reference = plan-made run.design run.request given.design_is given.keeps given.held given.faultless in
          let typed = last-typed plan start columns n flow run none fresh in
          let long = typed.typed.count ∙ length-map all.registers (λ (register : Register). shape register.ty) in
          let same = ap length (pipes-are run.design run.request run.models run.default plan given.planned given.design_is given.keeps given.faultless) in
          omega (arith, length-drop (length run.design.circuit.registers) (last_state run).registers, long, reference.registers, same);
      each = λ c any lt pipe.
          get_or-drop (length run.design.circuit.registers) (last_state run).registers (pipe_number plan.channels (get_or plan.channels c any).signal) 0
          ∙ held-last c any lt pipe
          ∙ sym (newest-is c any lt pipe)
          ∙ sym (get_or-map-range_with_len (λ k. newest (queue_at net.queues k)) 0 (length plan.channels) c c 0 lt (omega arith));
    }

    pub everything : IsFresh run.design.circuit → AllHeld run.design.circuit → IsAll run.design.circuit plan net (last_state run)
    everything fresh held =
        let given = run-alone run none in
        let reference = plan-made run.design run.request given.design_is given.keeps given.held given.faultless in
        let typed = last-typed plan start columns n flow run none fresh in
        let long = typed.typed.count ∙ length-map all.registers (λ (register : Register). shape register.ty) in
        record {
          register_count = omega (arith, long, reference.registers);
          bank_count = typed.held.count ∙ reference.memories;
          registers = registers-held run.design run.request run.models run.default plan given.planned given.design_is given.keeps given.faultless held;
          memories = memories-kept run.design run.request run.models run.default plan given.planned given.keeps;
          pipes = tokens-held fresh;
        }
