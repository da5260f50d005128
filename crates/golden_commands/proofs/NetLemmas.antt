-- How the steps of a plan's network end.
use Rattle.std.proofs.Common.{◌≡◌, ℕ, ◌+◌, ◌<◌, ◌≤◌, List, [], ◌++◌, length, take, get_or, refl, sym, ap, ap₂, ◌∙◌, subst, arith}
use Rattle.std.specs.Prelude.{IfOk, MatchResult, Option, Result, Ok, Err, codes, decimal, flat_map}
use Rattle.std.specs.List.{range_with_len}
use Rattle.std.proofs.lemmas.List.{get_or-map, take_all}
use Rattle.std.proofs.lemmas.List.FromFn.{get_or-range_with_len, length-range_with_len}
use Rattle.gg_flat.specs.Run.{Start}
use Rattle.gg_flat.specs.Streams.{Flow}
use Rattle.gg_order.specs.Design.{Ordered}
use Rattle.gg_partfile.specs.declared.request.Request.{Request}
use Rattle.gg_build.specs.inside.Build.{FromZeros, IsToRun}
use Rattle.gg_build.specs.Build.{IsOpeningFrom, IsToRunFrom, run_token}
use Rattle.gg_cut_plan.specs.declared.plan.Channel.{Channel}
use Rattle.gg_cut_plan.specs.declared.plan.Plan.{Plan}
use Rattle.gg_node.specs.Machine.{machine_at}
use Rattle.gg_net.specs.declared.event.Event.{Event}
use Rattle.gg_net.specs.declared.event.StepRefusal.{StepRefusal}
use Rattle.gg_net.specs.declared.shape.Wire.{Wire}
use Rattle.gg_net.specs.Kept.{Kept, list_at}
use Rattle.gg_net.specs.inside.Net.{IsOpening}
use Rattle.gg_net.specs.Net.{opening_net}
use Rattle.gg_net.specs.Network.{Frame, Network, puts, entered, takes}
use Rattle.gg_net.specs.markings.Goes.{Stopped}
use Rattle.gg_net.specs.markings.Steps.{Steps, StopsAt}
use Rattle.gg_net.proofs.MarkingsLemmas.StepsLemmas.{steps-frame}
use Rattle.gg_cut_reference.specs.Follows.{plan_start, plan_token}
use Rattle.gg_replay.specs.inside.Log.{AreFronts, opening_log, tokens_at}
use Rattle.gg_replay.specs.ReplayText.{channel_line}
use Rattle.gg_replay.proofs.OpeningLemmas.{first-fronts}
use Rattle.gg_build.specs.plan.Built.{wires_of_plan}
use Rattle.gg_build.proofs.PlanLemmas.LinkLemmas.{length-from}
use Rattle.gg_rows.proofs.OpeningLemmas.{begins-so}
use Rattle.gg_replay.specs.steps_file.Naming.{Naming}
use Rattle.gg_io.specs.declared.endings.Ending.{Ending}
use Rattle.gg_io.specs.declared.endings.Ending.TheVariants.{NoMemory}
use Rattle.gg_io.specs.Said.{Said, line_of}
use Rattle.golden_commands.specs.Lines.{step_fault}
use Rattle.gg_io.specs.Ends.{Puts}
use Rattle.gg_io.specs.inside.Endings.{IfRefused, PrintsOrStops, Stops}
use Rattle.golden_commands.specs.Replay.{stopped_by}
use Rattle.golden_commands.specs.Replayed.{IsNetText, Opened, TellsStop, name_in, net_line, net_text, width_in}
use Rattle.golden_commands.specs.inside.Replayed.{IsToReplay, fed_start}
use Rattle.golden_commands.specs.declared.case.Fed.{Fed}
use Rattle.gg_io.proofs.EndingLemmas.{IfRefused-map}

module _ (plan : Plan) (start : Start) (columns : List (List ℕ)) (n : ℕ) (flow : Flow) (run : IsToRunFrom plan start columns n flow) (net : Network) (opens : IsOpeningFrom plan start (run_token run) columns n net) where
  -- before the first cycle a log of the tokens with which the channels open is right
  pub opening-right : start.cycle ≡ 0 → (log : List (List ℕ)) (wires : List Wire) → Kept flow net → wires ≡ net.wires → log ≡ opening_log wires → AreFronts flow net log
  opening-right zero log wires kept same is =
      let machines = opens.machines in
      let own = wires_of_plan (run_token run) plan in
      let opening = opening_net machines own n in
      let fronts : AreFronts flow opening (opening_log own) =
      first-fronts flow machines own n (ap (λ (f : Flow). f.begin) run.flow_is ∙ zero) (subst (λ (x : Network). Kept flow x) opens.is kept)
      (λ m lt. subst (λ (f : Flow). IsOpening f m (machine_at machines m)) (sym run.flow_is) (begins-so plan start columns n flow run net opens m lt)) in
      let given : log ≡ opening_log own = is ∙ ap opening_log (same ∙ ap (λ (x : Network). x.wires) opens.is) in
      subst (λ (x : Network). AreFronts flow x log) (sym opens.is) (subst (λ l. AreFronts flow opening l) (sym given) fronts)

  -- steps don't change the number of channels
  pub wires-stay : (events : List (Option Event)) (new : Network) → Steps net events new → length new.wires ≡ length plan.channels
  wires-stay events new steps =
      ap (λ (f : Frame). length f.wires) (steps-frame net events new steps) ∙ ap (λ (x : Network). length x.wires) opens.is ∙ length-from (run_token run) plan 0 plan.channels

-- a refused step is reported by its number and cause, however these are written
pub told-so : (naming : Naming) (events : List (Option Event)) (ending : Ending) (step step' : ℕ) (cause cause' : StepRefusal) → step ≡ step' → cause ≡ cause'
    → IfRefused (λ said. said ≡ stopped_by naming events (record { step = step; cause = cause })) ending
    → IfRefused (λ said. said ≡ stopped_by naming events (record { step = step'; cause = cause' })) ending
told-so naming events ending step step' cause cause' e f =
    IfRefused-map (λ said is. is ∙ ap (λ k. stopped_by naming events (record { step = k; cause = cause })) e ∙ ap (λ (x : StepRefusal). stopped_by naming events (record { step = step'; cause = x })) f) ending

-- ---- the network of a plan on a trace

-- it is to be run from zeros
pub replay-zeros : {fed : Fed} {flow : Flow} (replay : IsToReplay fed flow) → FromZeros replay.run
replay-zeros replay = ap₂ plan_start (sym replay.of_design) (sym replay.of_request)

abbrev pub replay-run : {fed : Fed} {flow : Flow} → IsToReplay fed flow → IsToRun fed.case.cut.plan fed.trace.columns fed.trace.rows flow
replay-run {fed = fed} replay = record { start = fed_start fed; run = replay.run; zeros = replay-zeros replay }

module _ (fed : Fed) (flow : Flow) (replay : IsToReplay fed flow) (net : Network) (opens : IsOpeningFrom fed.case.cut.plan (fed_start fed) (run_token replay.run) fed.trace.columns fed.trace.rows net) (kept : Kept flow net) (events : List (Option Event)) (new : Network) where
  abbrev opening_by : Ordered → Request → Type 0
  opening_by design request = IsOpeningFrom fed.case.cut.plan (fed_start fed) (plan_token design request (fed_start fed).state) fed.trace.columns fed.trace.rows net

  opened-so : Opened fed flow net
  opened-so =
      record { opens = subst (opening_by fed.case.design) replay.of_request (subst (λ (design : Ordered). opening_by design replay.run.request) replay.of_design opens); kept = kept }

  -- the text of the network is that of the steps that led to it
  pub net-goes : Steps net events new → IsNetText fed flow events (net_text fed.case.cut.plan flow new)
  net-goes steps = record { opening = net; opened = opened-so; net = new; steps = steps; is = refl }

  -- this is reported for the steps that stopped there
  net-stops : (naming : Naming) (stopped : Stopped) (said : Said) → StopsAt 1 net events new stopped → said ≡ stopped_by naming events stopped → TellsStop fed flow naming events said
  net-stops naming stopped said stops is = record { opening = net; opened = opened-so; net = new; stopped = stopped; stops = stops; is = is }

  -- so has it ended with this report, and nothing was written
  pub net-stopped : {T : Type 0} {out : Puts} (naming : Naming) (stopped : Stopped) (ending : Ending) → out.after ≡ out.before → StopsAt 1 net events new stopped
      → IfRefused (λ said. said ≡ stopped_by naming events stopped) ending → PrintsOrStops {T = T} out (IsNetText fed flow events) (TellsStop fed flow naming events) (Err ending)
  net-stopped naming stopped ending same stops says = Stops ending refl (IfRefused-map (λ said. net-stops naming stopped said stops) ending says) same

-- ---- lines

-- the line of a channel, from its name, width, counts and tokens
pub line-of : (plan : Plan) (flow : Flow) (log : List (List ℕ)) (net : Network) (c : ℕ) (channels : List Channel) (own : Channel) (name tokens : List ℕ) (width put took : ℕ)
    → channels ≡ plan.channels → c < length plan.channels → length net.wires ≡ length plan.channels → AreFronts flow net log
    → name ≡ (get_or channels c own).name → width ≡ (get_or channels c own).ty.width → put ≡ puts net c → took ≡ takes net c → tokens ≡ tokens_at log c
    → channel_line name width put took tokens ≡ net_line plan flow net c
line-of plan flow log net c channels own name tokens width put took same known wires fronts named wide puts_are takes_are tokens_are =
    let here : get_or channels c own ≡ get_or plan.channels c own = ap (λ (l : List Channel). get_or l c own) same in
    let called : name ≡ name_in plan c = named ∙ ap (λ (x : Channel). x.name) here ∙ sym (get_or-map (λ (x : Channel). x.name) plan.channels c own [] known) in
    let across : width ≡ width_in plan c = wide ∙ ap (λ (x : Channel). x.ty.width) here ∙ sym (get_or-map (λ (x : Channel). x.ty.width) plan.channels c own 0 known) in
    let given : tokens ≡ take (entered net c) (list_at flow.lists c) = tokens_are ∙ fronts.each c (omega (arith, known, wires)) in
    ap (λ x. channel_line x width put took tokens) called
    ∙ ap (λ x. channel_line (name_in plan c) x put took tokens) across
    ∙ ap (λ x. channel_line (name_in plan c) (width_in plan c) x took tokens) puts_are
    ∙ ap (λ x. channel_line (name_in plan c) (width_in plan c) (puts net c) x tokens) takes_are
    ∙ ap (λ x. channel_line (name_in plan c) (width_in plan c) (puts net c) (takes net c) x) given

-- the numbers below n, listed in order: each is at its own place
pub in-range : (i n : ℕ) → i < n → i < length (range_with_len 0 n)
in-range i n lt = omega (arith, lt, length-range_with_len 0 n)

pub at-range : (i n d : ℕ) → i < n → get_or (range_with_len 0 n) i d ≡ i
at-range i n d lt = get_or-range_with_len 0 n i d lt ∙ (let e : 0 + i ≡ i = omega arith in e)

pub whole-range : (f : ℕ → List ℕ) (i n : ℕ) → n ≤ i → flat_map f (take i (range_with_len 0 n)) ≡ flat_map f (range_with_len 0 n)
whole-range f i n le = ap (flat_map f) (take_all i (range_with_len 0 n) (omega (arith, le, length-range_with_len 0 n)))

abbrev step_said : List ℕ → Said
step_said l = record { status = 9; line = line_of l }

-- the line of a refused step
pub step-line : (front text told : List ℕ) (step : ℕ) → front ≡ codes "golden: step " ++ decimal step → text ≡ told
    → record { status = 9; line = line_of (front ++ codes ": " ++ text) } ≡ step_fault step told
step-line front text told step e same =
    ap (λ (l : List ℕ). step_said l)
    (ap (λ x. x ++ codes ": " ++ text) e ∙ ap (λ x. codes "golden: step " ++ decimal step ++ codes ": " ++ x) same)

-- what was made is reported, unless memory ran out
pub made-said : {E : Type 0} (r : Result Said E) (ending : Ending) (made whole : Said) → made ≡ whole
    → MatchResult r (λ said. IfRefused (λ given. given ≡ said) ending) (λ _. ending ≡ NoMemory) → IfOk r (λ said. said ≡ made) → IfRefused (λ said. said ≡ whole) ending
made-said (Ok said) ending made whole same ends is = IfRefused-map (λ given e. e ∙ is ∙ same) ending ends
made-said (Err error) ending made whole same ends is = subst (IfRefused (λ said. said ≡ whole)) (sym ends) tt
