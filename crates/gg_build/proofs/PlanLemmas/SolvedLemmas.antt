-- The run of the circuit that the network computes solves the network.
use Rattle.std.proofs.Common.{◌≡◌, ℕ, zero, suc, ◌+◌, ◌-◌, ◌<◌, ◌≤◌, List, [], ◌∷◌, ◌++◌, Bool, true, false, Option, Some, drop, take, length, map, get_or, refl, sym, ◌∙◌, ap, ap₂, subst, arith}
use Rattle.std.specs.Prelude.{replicate}
use Rattle.std.specs.List.{range_with_len}
use Rattle.std.proofs.lemmas.List.Elements.{All-append}
use Rattle.std.proofs.lemmas.List.{length-map, get_or-map, get_or-take, get_or_default}
use Rattle.std.proofs.lemmas.Option.{none-some, same_Some}
use Rattle.std.proofs.lemmas.Grind.{same_number_lists}
use Rattle.gg_flat.specs.Line.{value_at}
use Rattle.gg_flat.specs.State.{IsState, State, opening}
use Rattle.gg_flat.specs.Circuit.{FlatCircuit}
use Rattle.gg_flat.specs.Streams.{Flow, state_in}
use Rattle.gg_flat.specs.Run.{column, row_at}
use Rattle.gg_flat.specs.WellFormed.{IsWellFormed}
use Rattle.gg_flat.proofs.ListLemmas.{some-item}
use Rattle.gg_part.specs.PartRun.{part_rows, part_start, part_state}
use Rattle.gg_part.specs.declared.part.Part.{Part}
use Rattle.gg_part.proofs.FormedLemmas.{IsWellFormed-part}
use Rattle.gg_cut_plan.specs.declared.plan.Body.{Body}
use Rattle.gg_cut_plan.specs.declared.plan.Body.TheVariants.{Cut, Memory, Source, Tray, Bridge}
use Rattle.gg_cut_plan.specs.declared.plan.Machine as planned
use Rattle.gg_cut_plan.specs.declared.plan.Channel.{Channel}
use Rattle.gg_cut_plan.specs.Machines.{first_source}
use Rattle.gg_cut_plan.specs.Direct.{is_piped}
use Rattle.gg_cut_plan.specs.Ports.{first_bridge}
use Rattle.gg_cut_plan.specs.Plan.{wire_at as link_at, channels_to, channels_from, signals_of, givens_of, IsCutPart}
use Rattle.gg_cut_plan.specs.Solves.{AreRows, columns_of, stream, streams}
use Rattle.gg_cut_reference.specs.Links.{taken_as}
use Rattle.gg_cut_reference.specs.Made.{plan_reference, plan_seen}
use Rattle.gg_cut_reference.proofs.MachineLemmas.{map-agree}
use Rattle.gg_cut_reference.specs.inside.Whole.{model_first}
use Rattle.gg_cut_reference.proofs.PipeLemmas.{shifted-here, shifted-high, shifted-length}
use Rattle.gg_cut_reference.proofs.PlanLemmas.{plan-gives, plan-kept}
use Rattle.gg_node.specs.Machine.{Machine, machine_at, no_state}
use Rattle.gg_net.specs.Network.{wire_at, entered_by, Kind, kind_of, kind_at}
use Rattle.gg_net.specs.Kept.{in_columns, list_at, rows_at, Answers, Asks, IsSound, Solves}
use Rattle.gg_net.proofs.StateLemmas.{column-at}
use Rattle.gg_build.specs.plan.Built.{machine_in, nameless, first_token, wires_of_plan, IsBuilt, AreBuilt, body_rows, body_start, rows_of, body_state, states_of, flow_of, plan_frame}
use Rattle.gg_build.specs.inside.Given.{Given, IsBodyAt, cut_of, run_of}
use Rattle.gg_cut_reference.proofs.WholeLemmas.PortLemmas.{plan-ins}
use Rattle.gg_build.proofs.PlanLemmas.LinkLemmas.{length-wires, linked}
use Rattle.gg_build.proofs.PlanLemmas.ListedLemmas.{given-at, given-placed, taken-at, taken-placed}
use Rattle.gg_build.proofs.PlanLemmas.SideLemmas.{source-all, source-at, source-takes, tray-at, tray-gives-none, tray-takes}
use Rattle.gg_build.proofs.PlanLemmas.FitLemmas.{kind-is}
use Rattle.gg_build.proofs.PlanLemmas.SeenLemmas.{seen-part, seen-run, seen-typed}
use Rattle.gg_build.proofs.PlanLemmas.ShownLemmas.{seen-twice}
use Rattle.gg_build.proofs.PlanLemmas.BridgeLemmas.{entry-model}
use Rattle.gg_build.proofs.PlanLemmas.BridgeDoLemmas.{bridge-does}
use Rattle.gg_build.proofs.PlanLemmas.GivenLemmas.{are-links, is-routed, memory-at, no-fault, runs-whole}
use Rattle.gg_build.proofs.PlanLemmas.PlanLemmas.{plan-no-ring, plan-wired}
use Rattle.gg_build.proofs.PlanLemmas.RowLemmas.{front-column, front-rows, models-before, models_in, rows-at}
use Rattle.gg_build.proofs.PlanLemmas.RunLemmas.{below, channel-signal, column-given, column-taken, own-columns, reference-run}
use Rattle.gg_build.proofs.PlanLemmas.DoLemmas.{DoesCycles, cut-named, unit-does, memory-does}
use Rattle.gg_build.proofs.PlanLemmas.EdgeLemmas.{source-does, tray-does}

-- ---- lists and rows of a plan

-- the values of a piped channel are one more
stream-long : (begin token : ℕ) (b : Bool) (values : List ℕ) → begin ≤ length values → length (stream begin token b values) ≡ entered_by (first_token b token) (length values)
stream-long begin token true values le = shifted-length begin token values le
stream-long begin token false values le = refl

-- the first of them, from the beginning on, is the token that the channel opens with
stream-opens : (begin token : ℕ) (b : Bool) (first : ℕ) (values : List ℕ) → first_token b token ≡ Some first → first ≡ value_at (stream begin token b values) begin
stream-opens begin token true first values is = sym (shifted-here begin token (drop begin values) ∙ same_Some token first is)
stream-opens begin token false first values is = absurd (none-some first is)

-- what the producer gives in cycle t stands behind all that entered before
stream-entered : (begin token : ℕ) (b : Bool) (values : List ℕ) (t : ℕ) → begin ≤ t → value_at (stream begin token b values) (entered_by (first_token b token) t) ≡ value_at values t
stream-entered begin token true values t le = shifted-high begin token t values le
stream-entered begin token false values t le = refl

-- the list of a channel by its number
pub stream-at : (begin : ℕ) (token : ℕ → ℕ) (channels : List Channel) (rows : List (List ℕ)) (c : ℕ) (any : Channel) → c < length channels
    → list_at (streams begin token channels (map (λ channel. column rows channel.signal) channels)) c ≡ stream begin (token (get_or channels c any).signal) (get_or channels c any).pipe (column rows (get_or channels c any).signal)
stream-at begin token [] rows c any lt = absurd (omega (arith, lt))
stream-at begin token (channel ∷ channels) rows zero any lt = refl
stream-at begin token (channel ∷ channels) rows (suc c) any lt = stream-at begin token channels rows c any (omega (arith, lt))

-- ---- a plan

module _ (given : Given) (machines : List Machine) (built : AreBuilt given.plan (body_start given.start) given.columns machines) where
  open given use {design, request, models, plan, columns, n, start, rows, can}
  open cut_of design request use {listed, hub, bridges as b, wires}
  open run_of given use {own, fed, count, token}

  run : AreRows (plan_reference design request) start fed n own
  run = reference-run given

  -- ---- machines

  -- the signals of the channels that a machine takes, as it sees them, and of those that it gives
  abbrev ins_of_machine : ℕ → List ℕ
  ins_of_machine m = map (taken_as hub) (signals_of wires (channels_to wires m))

  abbrev outs_of_machine : ℕ → List ℕ
  outs_of_machine m = givens_of wires (channels_from wires m)

  in-count : (m : ℕ) → length (ins_of_machine m) ≡ length (channels_to wires m)
  in-count m = length-map (signals_of wires (channels_to wires m)) (taken_as hub) ∙ length-map (channels_to wires m) (λ c. (link_at wires c).signal)

  out-count : (m : ℕ) → length (outs_of_machine m) ≡ length (channels_from wires m)
  out-count m = length-map (channels_from wires m) (λ c. (link_at wires c).given)

  -- what a machine takes it sees behind the pipes
  abbrev seen_by_machine : ℕ → List ℕ
  seen_by_machine m = map (plan_seen design request m) (signals_of wires (channels_to wires m))

  sees-taken : (m : ℕ) → seen_by_machine m ≡ ins_of_machine m
  sees-taken m =
      let to = channels_to wires m in
      let signals = signals_of wires to in
      let long = length-map to (λ c. (link_at wires c).signal) in
      map-agree (plan_seen design request m) (taken_as hub) signals (λ i lt.
      let low : i < length to = omega (arith, lt, long) in
      let c = value_at to i in
      let at = taken-at wires m i low in
      let is : value_at signals i ≡ (link_at wires c).signal = get_or-map (λ k. (link_at wires k).signal) to i 0 0 low in
      ap (plan_seen design request m) is ∙ subst (λ k. plan_seen design request k (link_at wires c).signal ≡ taken_as hub (link_at wires c).signal) at.consumer (plan-kept design request can.design_is can.keeps given.held (no-fault given) c at.known) ∙ ap (taken_as hub) (sym is))

  -- it sees what it gives by the numbers of the design
  gives-own : (m : ℕ) → map (plan_seen design request m) (outs_of_machine m) ≡ outs_of_machine m
  gives-own m =
      let outs = outs_of_machine m in
      let from = channels_from wires m in
      let count = length-map outs (plan_seen design request m) in
      same_number_lists (map (plan_seen design request m) outs) outs count (λ o lt.
      let low : o < length outs = omega (arith, lt, count) in
      let there : o < length from = omega (arith, low, length-map from (λ c. (link_at wires c).given)) in
      let c = value_at from o in
      let at = given-at wires m o there in
      let is : value_at outs o ≡ (link_at wires c).given = get_or-map (λ k. (link_at wires k).given) from o 0 0 there in
      get_or-map (plan_seen design request m) outs o 0 0 low ∙ ap (plan_seen design request m) is
      ∙ subst (λ k. plan_seen design request k (link_at wires c).given ≡ (link_at wires c).given) at.producer (plan-gives design request can.design_is can.keeps given.held (no-fault given) c at.known) ∙ sym is)

  -- machine m, of this kind, does all cycles from this state, with these rows
  abbrev Does : ℕ → Kind → State → List (List ℕ) → Type 0
  Does m kind begins mine = DoesCycles start.cycle own n (ins_of_machine m) (outs_of_machine m) kind begins mine

  cut-does : (m : ℕ) (kind : Kind) (begins : State) (mine : List (List ℕ)) → DoesCycles start.cycle own n (seen_by_machine m) (map (plan_seen design request m) (outs_of_machine m)) kind begins mine → Does m kind begins mine
  cut-does m kind begins mine does =
      subst (λ (l : List ℕ). DoesCycles start.cycle own n l (outs_of_machine m) kind begins mine) (sees-taken m)
      (subst (λ (l : List ℕ). DoesCycles start.cycle own n (seen_by_machine m) l kind begins mine) (gives-own m) does)

  part-formed : (m : ℕ) (part : Part) → IsCutPart design listed hub m part → IsWellFormed part.piece
  part-formed m part cut = IsWellFormed-part design.circuit part.piece part.globals part.held part.memories part.clocks can.design_is.formed cut.is

  part-typed : (m : ℕ) (part : Part) → IsCutPart design listed hub m part → IsState part.piece (part_state part.held part.memories start.state)
  part-typed m part cut = seen-typed design request can.design_is can.keeps given.held (no-fault given) m part cut start.state given.typed

  part-run : (m : ℕ) (part : Part) → IsCutPart design listed hub m part
      → AreRows part.piece (part_start part.held part.memories part.clocks start) (in_columns part.piece (part_rows (map (plan_seen design request m) part.globals) own)) n (part_rows (map (plan_seen design request m) part.globals) own)
  part-run m part cut = seen-run design request can.design_is can.keeps given.held (no-fault given) m part cut start fed n own given.typed run

  -- the signals of a part are the reference circuit's
  seen-below : (m : ℕ) (part : Part) → IsCutPart design listed hub m part → (s : ℕ) → s < length part.globals → value_at (map (plan_seen design request m) part.globals) s < count
  seen-below m part cut s lt = (seen-part design request can.design_is can.keeps given.held (no-fault given) m part cut).within s (omega (arith, lt, length-map part.globals (plan_seen design request m)))

  -- so the machine's rows are those in the reference circuit
  part-rows-front : (m : ℕ) (part : Part) → IsCutPart design listed hub m part → part_rows (map (plan_seen design request m) part.globals) own ≡ part_rows (map (plan_seen design request m) part.globals) rows
  part-rows-front m part cut = sym (front-rows count rows (map (plan_seen design request m) part.globals) (λ s lt. seen-below m part cut s (omega (arith, lt, length-map part.globals (plan_seen design request m)))))

  side-low : (m : ℕ) (part : Part) → IsCutPart design listed hub m part → (s : ℕ) → s < length (part.piece.ins ++ part.piece.outs) → value_at (part.piece.ins ++ part.piece.outs) s < length part.globals
  side-low m part cut s = All-append (λ k. k < length part.globals) part.piece.ins part.piece.outs (λ i d lt. subst (λ k. k < length part.globals) (get_or_default part.piece.ins i 0 d lt) (cut.is.ins i lt).0) (λ o d lt. subst (λ k. k < length part.globals) (get_or_default part.piece.outs o 0 d lt) (cut.is.outs o lt)) s 0

  memory-rows-front : (m : ℕ) (part : Part) → IsCutPart design listed hub m part
      → part_rows (map (plan_seen design request m) (map (value_at part.globals) (part.piece.ins ++ part.piece.outs))) own ≡ part_rows (map (plan_seen design request m) (map (value_at part.globals) (part.piece.ins ++ part.piece.outs))) rows
  memory-rows-front m part cut =
      let sides = part.piece.ins ++ part.piece.outs in
      let mine = map (plan_seen design request m) part.globals in
      let same = seen-twice (plan_seen design request m) part.globals sides (side-low m part cut) in
      let long = length-map sides (value_at mine) in
      ap (λ (l : List ℕ). part_rows l own) same
      ∙ sym (front-rows count rows (map (value_at mine) sides) (λ s lt.
      let low : s < length sides = omega (arith, lt, long) in
      let inside = seen-below m part cut (value_at sides s) (side-low m part cut s low) in
      let at = get_or-map (value_at mine) sides s 0 0 low in
      subst (λ k. k < count) (sym at) inside))
      ∙ ap (λ (l : List ℕ). part_rows l rows) (sym same)

  body-does : (m outs behind : ℕ) (body : Body) (machine : Machine) → ((k : ℕ) → m ≡ first_bridge b + k → behind ≡ model_first design request models k) → IsBodyAt given m body → IsBuilt columns outs (body_start start body) body machine
      → Does m (kind_of machine) (body_state body start.state) (body_rows (plan_seen design request m) behind body rows)
  body-does m outs behind (Cut part) machine at body is =
      let cut = body.1 in
      subst (Does m (kind_of machine) (body_state (Cut part) start.state)) (part-rows-front m part cut)
      (cut-does m (kind_of machine) (body_state (Cut part) start.state) (part_rows (map (plan_seen design request m) part.globals) own)
      (unit-does part (plan_seen design request m) n own start (signals_of wires (channels_to wires m)) (outs_of_machine m) (part-formed m part cut) (cut-named design listed hub m part cut) run.count (part-run m part cut) given.most machine cut.ordered is))
  body-does m outs behind (Memory part) machine at body is =
      let cut = body.2 in
      let memory = memory-at given m part body in
      subst (Does m (kind_of machine) (body_state (Memory part) start.state)) (memory-rows-front m part cut)
      (cut-does m (kind_of machine) (body_state (Memory part) start.state) (part_rows (map (plan_seen design request m) (map (value_at part.globals) (part.piece.ins ++ part.piece.outs))) own)
      (memory-does part (plan_seen design request m) n own start (signals_of wires (channels_to wires m)) (outs_of_machine m) (part-formed m part cut) (cut-named design listed hub m part cut) run.count (part-run m part cut) given.most machine (sym cut.is.count) cut.is.clock_count memory.1.count (part-typed m part cut) is))
  body-does m outs behind (Source place) machine at body is =
      let source = source-at design request (is-routed given) m place body.0 body.1 in
      source-does start.cycle own n place columns (ins_of_machine m) (outs_of_machine m) (replicate outs false) machine
      (given.given.height place [] (let known = body.0 in omega (arith, known, given.given.count, ap length (plan-ins design request models can))))
      (in-count m ∙ source-takes wires m (value_at design.circuit.ins source.port) source.gives)
      (λ o t few le lt.
      let s = value_at design.circuit.ins source.port in
      let inside = below given s (can.design_is.formed.ins source.port source.known).0 in
      ap (λ j. value_at (column own j) t) (source-all wires m s source.gives o 0 few)
      ∙ ap (λ (l : List ℕ). value_at l t) (sym (front-column count rows s inside) ∙ ap (column rows) (sym source.input))
      ∙ (runs-whole given).fed place t body.0 le lt) is
  body-does m outs behind Tray machine at body is =
      let tray = tray-at design request (is-routed given) m body.0 body.1 in
      let s = value_at design.circuit.outs tray.port in
      tray-does start.cycle own n (ins_of_machine m) (outs_of_machine m) machine
      (in-count m ∙ tray-takes wires m s tray.takes (is-routed given).once) (out-count m ∙ tray-gives-none wires m s tray.takes) given.most is
  body-does m outs behind (Bridge bridge) machine at body is =
      let k = m - first_bridge b in
      let same : behind ≡ model_first design request models k = at k (omega (arith, body.0)) in
      let model = entry-model given m bridge body in
      subst (Does m (kind_of machine) (opening bridge.model)) (ap₂ (λ j (l : FlatCircuit). part_rows (range_with_len j (length l.signals)) rows) (sym same) model)
      (bridge-does given m bridge body machine is)

  machine-does : (m : ℕ) → m < length plan.machines → Does m (kind_at (map kind_of machines) m) (state_in (states_of plan start.state) m) (rows_at (rows_of design request plan rows) m)
  machine-does m lt =
      let mine = machine_in plan m in
      let at = given.planned.machine m nameless lt in
      let behind = count + models_in (take m plan.machines) in
      let place : (k : ℕ) → m ≡ first_bridge b + k → behind ≡ model_first design request models k =
      λ k is. ap (λ j. count + j) (ap (λ j. models_in (take j plan.machines)) is ∙ models-before given k (omega (arith, lt, is))) in
      subst (λ (kind : Kind). Does m kind (state_in (states_of plan start.state) m) (rows_at (rows_of design request plan rows) m)) (sym (kind-is machines m (omega (arith, lt, built.count))))
      (subst (λ (s : State). Does m (kind_of (machine_at machines m)) s (rows_at (rows_of design request plan rows) m)) (sym (get_or-map (λ (machine : planned.Machine). body_state machine.body start.state) plan.machines m nameless no_state lt))
      (subst (Does m (kind_of (machine_at machines m)) (body_state mine.body start.state)) (sym (rows-at (plan_seen design request) 0 count plan.machines rows m lt ∙ ap (λ k. body_rows (plan_seen design request k) behind mine.body rows) (let same : 0 + m ≡ m = omega arith in same)))
      (body-does m (length mine.outs) behind mine.body (machine_at machines m) place at.body (built.each m lt))))

  -- ---- channels

  -- whether a channel has a pipe
  abbrev piped : ℕ → Bool
  piped c = is_piped design.circuit request (link_at wires c).signal

  -- what its pipe opens with
  abbrev opens_with : ℕ → ℕ
  opens_with c = token (link_at wires c).signal

  abbrev lists : List (List ℕ)
  lists = streams start.cycle token plan.channels (columns_of plan own)

  list-is : (c : ℕ) → c < length wires → list_at lists c ≡ stream start.cycle (opens_with c) (piped c) (column own (link_at wires c).signal)
  list-is c lt =
      let known : c < length plan.channels = omega (arith, lt, (are-links given).count) in
      let any = some-item plan.channels c known in
      let channel = given.planned.channel c any known in
      stream-at start.cycle token plan.channels own c any known ∙ ap₂ (λ b s. stream start.cycle (token s) b (column own s)) channel.pipe (channel-signal given c any known)

  first-is : (c : ℕ) → c < length wires → (wire_at (wires_of_plan token plan) c).first ≡ first_token (piped c) (opens_with c)
  first-is c lt =
      let known : c < length plan.channels = omega (arith, lt, (are-links given).count) in
      let any = some-item plan.channels c known in
      let channel = given.planned.channel c any known in
      (linked token plan wires (are-links given) c lt).first any known ∙ ap₂ (λ b s. first_token b (token s)) channel.pipe (channel-signal given c any known)

  -- what the producer gives in a cycle has its place in the channel's list
  given-value : (c t : ℕ) → c < length wires → start.cycle ≤ t → value_at (row_at own t) (link_at wires c).given ≡ value_at (list_at lists c) (entered_by (wire_at (wires_of_plan token plan) c).first t)
  given-value c t lt le =
      sym (column-at own (link_at wires c).given t)
      ∙ ap (λ (l : List ℕ). value_at l t) (sym (column-given given c lt))
      ∙ sym (stream-entered start.cycle (opens_with c) (piped c) (column own (link_at wires c).signal) t le)
      ∙ ap₂ (λ (l : List ℕ) (first : Option ℕ). value_at l (entered_by first t)) (sym (list-is c lt)) (sym (first-is c lt))

  -- what the consumer sees in a cycle is the list's value
  taken-value : (c t : ℕ) → c < length wires → t < n → value_at (row_at own t) (taken_as hub (link_at wires c).signal) ≡ value_at (list_at lists c) t
  taken-value c t lt inside =
      let s = taken_as hub (link_at wires c).signal in
      let values = stream start.cycle (opens_with c) (piped c) (column own (link_at wires c).signal) in
      sym (column-at own s t)
      ∙ ap (λ (l : List ℕ). value_at l t) (sym (column-taken given c lt))
      ∙ get_or-take n values t 0 inside
      ∙ ap (λ (l : List ℕ). value_at l t) (sym (list-is c lt))

  link-there : (c : ℕ) → c < length (wires_of_plan token plan) → c < length wires
  link-there c lt = omega (arith, lt, length-wires token plan wires (are-links given))

  gives : (c t : ℕ) → c < length (wires_of_plan token plan) → start.cycle ≤ t → t < n
      → let p : ℕ = (wire_at (wires_of_plan token plan) c).producer in Answers (kind_at (map kind_of machines) p).behaviour (rows_at (rows_of design request plan rows) p) (wire_at (wires_of_plan token plan) c).out t (value_at (list_at lists c) (entered_by (wire_at (wires_of_plan token plan) c).first t))
  gives c t lt le inside =
      let known = link-there c lt in
      let link = linked token plan wires (are-links given) c known in
      let p = (link_at wires c).producer in
      let at = given-placed wires p c (record { known = known; producer = refl }) in
      let o = (wire_at (wires_of_plan token plan) c).out in
      let value = value_at (list_at lists c) (entered_by (wire_at (wires_of_plan token plan) c).first t) in
      let low : o < length (outs_of_machine p) = omega (arith, link.out, at.within, out-count p) in
      let signal : value_at (outs_of_machine p) o ≡ (link_at wires c).given =
      get_or-map (λ k. (link_at wires k).given) (channels_from wires p) o 0 0 (omega (arith, link.out, at.within)) ∙ ap (λ k. (link_at wires k).given) (ap (value_at (channels_from wires p)) link.out ∙ at.is) in
      subst (λ m. Answers (kind_at (map kind_of machines) m).behaviour (rows_at (rows_of design request plan rows) m) o t value) (sym link.producer)
      (subst (Answers (kind_at (map kind_of machines) p).behaviour (rows_at (rows_of design request plan rows) p) o t) (ap (value_at (row_at own t)) signal ∙ given-value c t known le)
      ((machine-does p ((are-links given).ends c known).0).answers o t low le inside))

  takes : (c t : ℕ) → c < length (wires_of_plan token plan) → start.cycle ≤ t → t < n
      → let q : ℕ = (wire_at (wires_of_plan token plan) c).consumer in Asks (kind_at (map kind_of machines) q).behaviour (rows_at (rows_of design request plan rows) q) (wire_at (wires_of_plan token plan) c).place t (value_at (list_at lists c) t)
  takes c t lt le inside =
      let known = link-there c lt in
      let link = linked token plan wires (are-links given) c known in
      let q = (link_at wires c).consumer in
      let at = taken-placed wires q c (record { known = known; consumer = refl }) in
      let i = (wire_at (wires_of_plan token plan) c).place in
      let low : i < length (channels_to wires q) = omega (arith, link.place, at.within) in
      let signal : value_at (ins_of_machine q) i ≡ taken_as hub (link_at wires c).signal =
      get_or-map (taken_as hub) (signals_of wires (channels_to wires q)) i 0 0 (omega (arith, low, length-map (channels_to wires q) (λ k. (link_at wires k).signal)))
      ∙ ap (taken_as hub) (get_or-map (λ k. (link_at wires k).signal) (channels_to wires q) i 0 0 low ∙ ap (λ k. (link_at wires k).signal) (ap (value_at (channels_to wires q)) link.place ∙ at.is)) in
      subst (λ m. Asks (kind_at (map kind_of machines) m).behaviour (rows_at (rows_of design request plan rows) m) i t (value_at (list_at lists c) t)) (sym link.consumer)
      (subst (Asks (kind_at (map kind_of machines) q).behaviour (rows_at (rows_of design request plan rows) q) i t) (ap (value_at (row_at own t)) signal ∙ taken-value c t known inside)
      ((machine-does q ((are-links given).ends c known).1).asks i t (omega (arith, low, in-count q)) le inside))

  -- ---- the network

  there : (m : ℕ) → m < length (map kind_of machines) → m < length plan.machines
  there m lt = omega (arith, lt, length-map machines kind_of, built.count)

  -- the flow over the reference circuit's own rows
  abbrev own_flow : List (List ℕ) → Flow
  own_flow columns =
      record {
        lists = streams start.cycle token plan.channels columns;
        runs = rows_of design request plan rows;
        begin = start.cycle;
        states = states_of plan start.state;
      }

  own-solved : Solves (own_flow (columns_of plan own)) (plan_frame token plan machines n)
  own-solved =
      record {
        begins = run.begun;
        able = λ m lt. (machine-does m (there m lt)).able;
        does = λ m lt. (machine-does m (there m lt)).does;
        long = λ c lt.
            let known = link-there c lt in
            let column_of = column own (link_at wires c).signal in
            let height : length column_of ≡ n = length-map own (λ (row : List ℕ). value_at row (link_at wires c).signal) ∙ run.count in
            let begun = run.begun in
            ap length (list-is c known) ∙ stream-long start.cycle (opens_with c) (piped c) column_of (omega (arith, begun, height))
            ∙ ap₂ (λ (first : Option ℕ) k. entered_by first k) (sym (first-is c known)) height;
        opens = λ c first lt is.
            let known = link-there c lt in
            stream-opens start.cycle (opens_with c) (piped c) first (column own (link_at wires c).signal) (sym (first-is c known) ∙ is) ∙ ap (λ (l : List ℕ). value_at l start.cycle) (sym (list-is c known));
        given = λ c lt t le inside. gives c t lt le inside;
        taken = λ c lt t le inside. takes c t lt le inside;
      }

  pub plan-solved : Solves (flow_of design request plan start rows) (plan_frame token plan machines n)
  plan-solved = subst (λ (l : List (List ℕ)). Solves (own_flow l) (plan_frame token plan machines n)) (sym (own-columns given)) own-solved

  -- the frame of the network is sound
  pub plan-sound : IsSound (flow_of design request plan start rows) (plan_frame token plan machines n)
  plan-sound =
      record {
        wired = plan-wired given token (body_start start) machines built;
        no_ring = plan-no-ring given token (body_start start) machines built;
        solves = plan-solved;
      }
