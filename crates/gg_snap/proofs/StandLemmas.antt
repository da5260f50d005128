-- At the end of a run each machine of a plan's network is in its part of the state of the circuit that the network computes.
use Rattle.std.proofs.Common.{◌≡◌, ℕ, ◌+◌, ◌<◌, List, [], ◌++◌, drop, length, map, take, refl, sym, ap, ap₂, ◌∙◌, subst, arith}
use Rattle.std.specs.Prelude.{All, Option}
use Rattle.std.proofs.lemmas.List.{get_or-map, get_or_default, length-map}
use Rattle.std.proofs.lemmas.List.Elements.{All-nil}
use Rattle.gg_bits.specs.Shape.{shape}
use Rattle.gg_flat.specs.declared.piece.Register.{Register}
use Rattle.gg_flat.specs.Circuit.{FlatCircuit}
use Rattle.gg_flat.specs.Clock.{Ratio, edges_at}
use Rattle.gg_flat_tree.specs.Clocked.{clocks_from}
use Rattle.gg_flat.specs.Line.{value_at}
use Rattle.gg_flat.specs.Run.{Start, row_at, since, state_at}
use Rattle.gg_flat.specs.State.{State}
use Rattle.gg_flat.specs.Streams.{Flow, state_in}
use Rattle.gg_flat_tree.specs.Tree.{path_at}
use Rattle.gg_part.specs.PartRun.{part_ratios, part_row, part_rows, part_start, part_state}
use Rattle.gg_part.specs.declared.part.Part.{Part}
use Rattle.gg_part.proofs.RunLemmas.{HasCounts, state-part}
use Rattle.gg_cut_plan.specs.declared.plan.Body.{Body}
use Rattle.gg_cut_plan.specs.declared.plan.Body.TheVariants.{Cut, Memory, Source, Tray, Bridge}
use Rattle.gg_cut_plan.specs.declared.plan.Machine as planned
use Rattle.gg_cut_plan.specs.declared.plan.Plan.{Plan}
use Rattle.gg_cut_plan.specs.Direct.{plan_hub}
use Rattle.gg_cut_plan.specs.Listed.{listed_of}
use Rattle.gg_cut_plan.specs.Plan.{IsBody, IsCutPart}
use Rattle.gg_cut_split.proofs.ClosedLemmas.FaultlessLemmas.{faultless-apart, faultless-few}
use Rattle.gg_cut_routes.proofs.RoutedLemmas.{plan-routed}
use Rattle.gg_cut_reference.specs.Made.{IsFresh, plan_reference, plan_seen}
use Rattle.gg_cut_reference.specs.inside.Reference.{with_paths}
use Rattle.gg_cut_reference.proofs.PlanLemmas.{plan-part}
use Rattle.gg_cut_reference.proofs.ReferenceLemmas.{drop-part, state-paths}
use Rattle.gg_node.specs.Machine.{Machine, RunsPiece, machine_at, no_state}
use Rattle.gg_net.specs.Network.{Frame, Kind, Network, frame_of, kind_at, kind_of}
use Rattle.gg_net.specs.Kept.{IsStateOf, Kept, ins_of, rows_at, run_state, served_by, start_at}
use Rattle.gg_build.specs.Build.{IsToRunFrom, run_token}
use Rattle.gg_build.specs.plan.Built.{IsBuilt, IsMemoryOf, IsUnitOf, body_rows, body_start, body_state, flow_of, machine_in, nameless, rows_of, states_of}
use Rattle.gg_build.proofs.PlanLemmas.AlikeLemmas.{state-alike}
use Rattle.gg_build.proofs.PlanLemmas.BeginLemmas.{memory-begins}
use Rattle.gg_build.proofs.PlanLemmas.FitLemmas.{kind-is}
use Rattle.gg_build.proofs.PlanLemmas.MemoryPartLemmas.{memory-part}
use Rattle.gg_build.proofs.PlanLemmas.RowLemmas.{models_in, rows-at}
use Rattle.gg_build.proofs.PlanLemmas.SeenLemmas.{seen-typed}
use Rattle.gg_build.proofs.PlanLemmas.ShownLemmas.{rows-twice, seen-twice}
use Rattle.gg_build.proofs.PlanLemmas.StateLemmas.{ratios-again}
use Rattle.gg_build.specs.StandsAt.{StandsAt}
use Rattle.gg_snap.specs.inside.Parts.{IsPartState}
use Rattle.gg_snap.specs.inside.Gathered.{AreIn, HoldsBody}
use Rattle.gg_snap.specs.Whole.{last_state}
use Rattle.gg_snap.proofs.AloneLemmas.{no-bridge, run-alone}
use Rattle.gg_snap.proofs.EndLemmas.{none-served}
use Rattle.gg_snap.proofs.SizeLemmas.{last-sizes}

is-part : (w state : State) (held memories : List ℕ) → state ≡ part_state held memories w → IsPartState w held memories state
is-part w state held memories e = record { registers = ap (λ (s : State). s.registers) e; banks = ap (λ (s : State). s.banks) e }

module _ (plan : Plan) (start : Start) (columns : List (List ℕ)) (n : ℕ) (flow : Flow) (run : IsToRunFrom plan start columns n flow) (none : run.request.bridges ≡ []) where
  abbrev all : FlatCircuit
  all = plan_reference run.design run.request

  abbrev steps : ℕ
  steps = since start.cycle n

  -- the rows from the start on
  abbrev rest : List (List ℕ)
  rest = drop start.cycle run.rows

  reference-counts : HasCounts (plan_reference run.design run.request) start.state
  reference-counts = record { registers = (run-alone run none).typed.typed.count ∙ length-map all.registers (λ (register : Register). shape register.ty); banks = (run-alone run none).typed.held.count }

  -- ---- what a part has of the state

  part-stands : (m : ℕ) (part : Part) → IsCutPart run.design (listed_of run.design.tree run.request) (plan_hub run.design.circuit run.design.tree run.request) m part
      → run_state part.piece (part_start part.held part.memories part.clocks start) (part_rows (map (plan_seen run.design run.request m) part.globals) run.rows) n ≡ part_state part.held part.memories (last_state run)
  part-stands m part cut =
      let given = run-alone run none in
      let mine = map (plan_seen run.design run.request m) part.globals in
      let begin = part_start part.held part.memories part.clocks start in
      let seen_is = plan-part run.design run.request given.design_is given.keeps given.held given.faultless m part cut in
      ap (λ (l : List (List ℕ)). state_at part.piece begin l steps) (drop-part mine run.rows start.cycle)
      ∙ sym (state-paths part.piece (map (path_at all.paths) mine) begin (part_rows mine rest) steps)
      ∙ state-part all (with_paths all part.piece mine) mine part.held part.memories part.clocks seen_is start rest reference-counts steps (omega (arith, given.run.run.count))

  -- the same of a memory that stands alone
  alone-stands : (m : ℕ) (part : Part) (machine : Machine) (cut : IsCutPart run.design (listed_of run.design.tree run.request) (plan_hub run.design.circuit run.design.tree run.request) m part) → length part.memories ≡ 1
      → (memory : IsMemoryOf (part_start part.held part.memories part.clocks start) part machine)
      → run_state memory.alone.piece (record { cycle = start.cycle; state = part_state [] part.memories start.state; ratios = part_ratios part.clocks start.ratios }) (part_rows (map (plan_seen run.design run.request m) (map (value_at part.globals) (part.piece.ins ++ part.piece.outs))) run.rows) n ≡ part_state [] part.memories (last_state run)
  alone-stands m part machine cut one memory =
      let given = run-alone run none in
      let alone = memory.alone in
      let piece = alone.piece in
      let seen = plan_seen run.design run.request m in
      let mine = map seen part.globals in
      let rows = part_rows mine run.rows in
      let outer = part_start part.held part.memories part.clocks start in
      let ratios = part_ratios part.clocks start.ratios in
      let total : length part.globals ≡ length part.piece.signals = sym cut.is.count in
      let below : (s : ℕ) → s < length alone.globals → value_at alone.globals s < length part.globals = λ s low. let known = memory.is_part.within s low in omega (arith, known, total) in
      let seen_below : (s : ℕ) → s < length alone.globals → value_at alone.globals s < length mine = λ s low. let known = below s low in omega (arith, known, length-map part.globals seen) in
      let same : part_rows (map seen (map (value_at part.globals) (part.piece.ins ++ part.piece.outs))) run.rows ≡ part_rows alone.globals rows =
      ap (λ (l : List ℕ). part_rows (map seen (map (value_at part.globals) l)) run.rows) (sym memory.globals)
      ∙ ap (λ (l : List ℕ). part_rows l run.rows) (seen-twice seen part.globals alone.globals below)
      ∙ rows-twice mine alone.globals run.rows seen_below in
      let alike : part_ratios alone.clocks ratios ≡ ratios = ap (λ (l : List (Option ℕ)). part_ratios l ratios) (memory.clocks ∙ ap (clocks_from 0) cut.is.clock_count) ∙ ratios-again part.clocks start.ratios in
      let inner = λ (state : State). memory-begins part alone state memory.is_part memory.memories memory.is_memory.alone one in
      let begin = λ (state : State) (own : List Ratio). let from : Start = record { cycle = start.cycle; state = state; ratios = own } in from in
      let typed = seen-typed run.design run.request given.design_is given.keeps given.held given.faultless m part cut start.state given.typed in
      let counts : HasCounts part.piece outer.state = record { registers = typed.typed.count ∙ length-map part.piece.registers (λ (register : Register). shape register.ty); banks = typed.held.count } in
      let long : length (drop start.cycle rows) ≡ steps = ap length (drop-part mine run.rows start.cycle) ∙ length-map rest (part_row mine) ∙ given.run.run.count in
      ap (λ (l : List (List ℕ)). state_at piece (begin (part_state [] part.memories start.state) ratios) (drop start.cycle l) steps) same
      ∙ ap (λ (l : List (List ℕ)). state_at piece (begin (part_state [] part.memories start.state) ratios) l steps) (drop-part alone.globals rows start.cycle)
      ∙ ap₂ (λ (s : State) (l : List Ratio). state_at piece (begin s l) (part_rows alone.globals (drop start.cycle rows)) steps) (sym (inner start.state)) (sym alike)
      ∙ state-part part.piece piece alone.globals alone.held alone.memories alone.clocks memory.is_part outer (drop start.cycle rows) counts steps (omega (arith, long))
      ∙ ap (part_state alone.held alone.memories) (part-stands m part cut)
      ∙ inner (last_state run)

  -- ---- the network

  module _ (net : Network) (kept : Kept flow net) (stand : StandsAt plan start (run_token run) columns n n net) where
    kept-own : Kept (flow_of run.design run.request plan start run.rows) net
    kept-own = subst (λ (f : Flow). Kept f net) run.flow_is kept

    pub count : length net.machines ≡ length plan.machines
    count = omega (arith, length-map net.machines kind_of, length-map stand.of_plan.machines kind_of, ap (λ (f : Frame). length f.kinds) stand.of_plan.frame, stand.of_plan.built.count)

    -- a machine has the kind of the one that was built
    kinds : (m : ℕ) → m < length plan.machines → kind_of (machine_at net.machines m) ≡ kind_of (machine_at stand.of_plan.machines m)
    kinds m lt =
        sym (kind-is net.machines m (omega (arith, lt, count))) ∙ ap (λ (f : Frame). kind_at f.kinds m) stand.of_plan.frame ∙ kind-is stand.of_plan.machines m (omega (arith, lt, stand.of_plan.built.count))

    -- the state of a machine that runs this piece, from this state, on these rows
    stands : (m : ℕ) (piece : FlatCircuit) (begins : State) (ratios : List Ratio) (own : List (List ℕ)) → m < length plan.machines → (machine_at net.machines m).behaviour ≡ RunsPiece piece → (kind_of (machine_at net.machines m)).ratios ≡ ratios
        → state_in (states_of plan start.state) m ≡ begins → rows_at (rows_of run.design run.request plan run.rows) m ≡ own → (machine_at net.machines m).state ≡ run_state piece (record { cycle = start.cycle; state = begins; ratios = ratios }) own n
    stands m piece begins ratios own lt runs ratios_are state rows =
        let there : m < length net.machines = omega (arith, lt, count) in
        let machine = machine_at net.machines m in
        let at = kept-own.machines m there in
        let kind : kind_at (frame_of net).kinds m ≡ kind_of machine = kind-is net.machines m there in
        let mine = rows_at (rows_of run.design run.request plan run.rows) m in
        let from : Start = start_at (flow_of run.design run.request plan start run.rows) (kind_at (frame_of net).kinds m) m in
        let ports = machine.ports in
        let served = none-served flow net kept n (ap (λ (f : Frame). f.end) (sym stand.of_plan.frame)) stand.all m there (omega (arith, there, length-map net.machines kind_of)) in
        let is_state = subst (λ b. IsStateOf b from ports mine machine.cycle machine.served machine.state) runs at.stands in
        let begin = λ (s : State) (r : List Ratio). let made : Start = record { cycle = start.cycle; state = s; ratios = r } in made in
        subst (λ k. machine.state ≡ served_by (edges_at from.ratios machine.cycle) (ins_of piece (row_at mine machine.cycle)) (run_state piece from mine machine.cycle) (take k ports)) served is_state
        ∙ ap (run_state piece from mine) (stand.all m there)
        ∙ ap₂ (λ (s : State) (r : List Ratio). run_state piece (begin s r) mine n) state (ap (λ (k : Kind). k.ratios) kind ∙ ratios_are)
        ∙ ap (λ (l : List (List ℕ)). run_state piece (begin begins ratios) l n) rows

    -- the state and the rows of a machine with this body
    state-is : (m : ℕ) (body : Body) → m < length plan.machines → (machine_in plan m).body ≡ body → state_in (states_of plan start.state) m ≡ body_state body start.state
    state-is m body lt e = get_or-map (λ (machine : planned.Machine). body_state machine.body start.state) plan.machines m nameless no_state lt ∙ ap (λ b. body_state b start.state) e

    -- the number of the first signal of a model of machine m, which counts for a bridge alone
    abbrev behind : ℕ → ℕ
    behind m = length all.signals + models_in (take m plan.machines)

    rows-are : (m : ℕ) (body : Body) → m < length plan.machines → (machine_in plan m).body ≡ body → rows_at (rows_of run.design run.request plan run.rows) m ≡ body_rows (plan_seen run.design run.request m) (length (plan_reference run.design run.request).signals + models_in (take m plan.machines)) body run.rows
    rows-are m body lt e =
        let same : 0 + m ≡ m = omega arith in
        rows-at (plan_seen run.design run.request) 0 (length all.signals) plan.machines run.rows m lt
        ∙ ap (λ k. body_rows (plan_seen run.design run.request k) (behind m) (machine_in plan m).body run.rows) same
        ∙ ap (λ b. body_rows (plan_seen run.design run.request m) (behind m) b run.rows) e

    -- the numbers of a part's registers and memories are the design's
    registers-known : (m : ℕ) (part : Part) → IsCutPart run.design (listed_of run.design.tree run.request) (plan_hub run.design.circuit run.design.tree run.request) m part → All (λ r. r < length run.design.circuit.registers) part.held
    registers-known m part cut = λ k d lt. subst (λ r. r < length run.design.circuit.registers) (get_or_default part.held k 0 d lt) (cut.is.register_from k lt).within

    memories-known : (m : ℕ) (part : Part) → IsCutPart run.design (listed_of run.design.tree run.request) (plan_hub run.design.circuit run.design.tree run.request) m part → All (λ r. r < length run.design.circuit.memories) part.memories
    memories-known m part cut = λ k d lt. subst (λ r. r < length run.design.circuit.memories) (get_or_default part.memories k 0 d lt) (cut.is.memory_from k lt).within

    unit-stands : (m : ℕ) (part : Part) → m < length plan.machines → (machine_in plan m).body ≡ Cut part → IsCutPart run.design (listed_of run.design.tree run.request) (plan_hub run.design.circuit run.design.tree run.request) m part → IsUnitOf (part_start part.held part.memories part.clocks start) part (machine_at stand.of_plan.machines m)
        → HoldsBody (last_state run) (length run.design.circuit.registers) (length run.design.circuit.memories) (Cut part) (machine_at net.machines m)
    unit-stands m part lt e cut unit =
        let piece = unit.circuit in
        let begin = part_start part.held part.memories part.clocks start in
        let own = part_rows (map (plan_seen run.design run.request m) part.globals) run.rows in
        let runs : (machine_at net.machines m).behaviour ≡ RunsPiece piece = ap (λ (k : Kind). k.behaviour) (kinds m lt) ∙ ap (λ (x : Machine). x.behaviour) unit.is in
        let ratios : (kind_of (machine_at net.machines m)).ratios ≡ begin.ratios = ap (λ (k : Kind). k.ratios) (kinds m lt) ∙ ap (λ (x : Machine). x.ratios) unit.is in
        record {
          running = record { piece = piece; is = runs };
          part = is-part (last_state run) (machine_at net.machines m).state part.held part.memories
              (stands m piece begin.state begin.ratios own lt runs ratios (state-is m (Cut part) lt e) (rows-are m (Cut part) lt e)
              ∙ state-alike piece part.piece unit.alike begin (drop start.cycle own) steps
              ∙ part-stands m part cut);
          known_registers = registers-known m part cut;
          known_memories = memories-known m part cut;
        }

    memory-stands : (m : ℕ) (part : Part) → m < length plan.machines → (machine_in plan m).body ≡ Memory part → IsCutPart run.design (listed_of run.design.tree run.request) (plan_hub run.design.circuit run.design.tree run.request) m part → length part.memories ≡ 1
        → IsMemoryOf (part_start part.held part.memories part.clocks start) part (machine_at stand.of_plan.machines m) → HoldsBody (last_state run) (length run.design.circuit.registers) (length run.design.circuit.memories) (Memory part) (machine_at net.machines m)
    memory-stands m part lt e cut one memory =
        let piece = memory.alone.piece in
        let own = part_rows (map (plan_seen run.design run.request m) (map (value_at part.globals) (part.piece.ins ++ part.piece.outs))) run.rows in
        let runs : (machine_at net.machines m).behaviour ≡ RunsPiece piece = ap (λ (k : Kind). k.behaviour) (kinds m lt) ∙ ap (λ (x : Machine). x.behaviour) memory.is in
        let ratios : (kind_of (machine_at net.machines m)).ratios ≡ part_ratios part.clocks start.ratios = ap (λ (k : Kind). k.ratios) (kinds m lt) ∙ ap (λ (x : Machine). x.ratios) memory.is in
        record {
          running = record { piece = piece; is = runs };
          part = is-part (last_state run) (machine_at net.machines m).state [] part.memories
              (stands m piece (part_state [] part.memories start.state) (part_ratios part.clocks start.ratios) own lt runs ratios (state-is m (Memory part) lt e) (rows-are m (Memory part) lt e)
              ∙ alone-stands m part (machine_at stand.of_plan.machines m) cut one memory);
          known_registers = All-nil (λ r. r < length run.design.circuit.registers);
          known_memories = memories-known m part cut;
        }

    body-stands : (m : ℕ) (body : Body) → m < length plan.machines → (machine_in plan m).body ≡ body → IsBody run.design run.request run.models (listed_of run.design.tree run.request) (plan_hub run.design.circuit run.design.tree run.request) m body → IsBuilt columns (length (machine_in plan m).outs) (body_start start body) body (machine_at stand.of_plan.machines m)
        → HoldsBody (last_state run) (length run.design.circuit.registers) (length run.design.circuit.memories) body (machine_at net.machines m)
    body-stands m (Cut part) lt e body built = unit-stands m part lt e body.1 built
    body-stands m (Memory part) lt e body built =
        let given = run-alone run none in
        let own = memory-part run.design run.request m part given.design_is given.keeps (faultless-apart run.design run.request given.faultless given.keeps.fitting) (plan-routed run.design run.request given.design_is given.keeps given.faultless) body.0 body.1 body.2 (faultless-few run.design run.request given.faultless) in
        memory-stands m part lt e body.2 own.1.count built
    body-stands m (Source place) lt e body built = tt
    body-stands m Tray lt e body built = tt
    body-stands m (Bridge bridge) lt e body built = no-bridge run.design run.request run.models run.default plan columns n start run.rows run.given none m lt body.0

    stand-all : (m : ℕ) → m < length plan.machines → HoldsBody (last_state run) (length run.design.circuit.registers) (length run.design.circuit.memories) (machine_in plan m).body (machine_at net.machines m)
    stand-all m lt = body-stands m (machine_in plan m).body lt refl ((run-alone run none).planned.machine m nameless lt).body (stand.of_plan.built.each m lt)

    pub inside : IsFresh run.design.circuit → AreIn run.design.circuit plan net (last_state run)
    inside fresh = record { sizes = last-sizes plan start columns n flow run none fresh; each = stand-all }
