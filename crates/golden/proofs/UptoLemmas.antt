-- `save`: what the network of a trace's first rows tells of the whole run.
use Rattle.std.proofs.Common.{◌≡◌, ◌≢◌, ℕ, ◌+◌, ◌-◌, ◌<◌, ◌≤◌, List, [], Bool, Option, None, Some, length, map, take, refl, sym, ap, ap₂, ◌∙◌, subst, inl, inr, ◌⊎◌, arith}
use Rattle.std.specs.Prelude.{AllPairs, Result, Ok, Err, IfOk, ◌==◌, ◌&&◌, if◌then◌else◌, drop, min, nat_lt}
use Rattle.std.proofs.lemmas.Bool.{cases_lt}
use Rattle.gg_flat.specs.Circuit.{FlatCircuit}
use Rattle.gg_flat.specs.Clock.{Ratio}
use Rattle.gg_flat.specs.Run.{Start, clocked_start, state_at}
use Rattle.gg_flat.specs.declared.ports.Port.{Port}
use Rattle.gg_order.proofs.RunsLemmas.UniqueLemmas.{IsRunFrom-once}
use Rattle.gg_order.specs.Design.{Ordered}
use Rattle.gg_partfile.specs.declared.request.BridgeEntry.{BridgeEntry}
use Rattle.gg_partfile.specs.declared.request.Request.{Request}
use Rattle.gg_cut_plan.specs.Bridges.{Models}
use Rattle.gg_cut_plan.specs.Clocks.{ratios_of}
use Rattle.gg_cut_reference.specs.Follows.{plan_start}
use Rattle.gg_cut_reference.specs.Made.{plan_reference}
use Rattle.gg_cut_plan.specs.Direct.{plan_hub}
use Rattle.gg_cut_plan.specs.Listed.{listed_of}
use Rattle.gg_cut_plan.specs.Plan.{IsBody, IsPlan}
use Rattle.gg_cut_plan.specs.declared.plan.Body.{Body}
use Rattle.gg_cut_plan.specs.declared.plan.Plan.{Plan}
use Rattle.gg_net.specs.Network.{AllStandAt}
use Rattle.gg_rows.proofs.OutputLemmas.{net-stays, opening-is-net}
use Rattle.gg_cut_reference.specs.whole.Whole.{plan_circuit}
use Rattle.gg_build.specs.inside.Build.{HasBridges}
use Rattle.gg_build.specs.Build.{IsOpeningFrom, circuit_order, circuit_rows, run_token}
use Rattle.gg_build.proofs.AlongLemmas.{given-along}
use Rattle.gg_build.specs.plan.Built.{IsGiven, nameless}
use Rattle.gg_flat.specs.State.{State}
use Rattle.gg_flat.specs.Streams.{Flow}
use Rattle.gg_flat_tree.specs.Tree.{InstanceTree}
use Rattle.gg_net.specs.Network.{Network, frame_of}
use Rattle.gg_build.specs.StandsAt.{StandsAt}
use Rattle.gg_snap.specs.Whole.{HasEnded, last_state}
use Rattle.gg_snap.specs.inside.Snap.{Snapshot}
use Rattle.gg_snap.specs.text.Standing.{IsSnap}
use Rattle.gg_rows.specs.inside.Printed.{IsFirst, ends_run, is_halt}
use Rattle.gg_rows.specs.Printed.{plan_stops}
use Rattle.gg_snap.specs.text.Lines.{snap_text}
use Rattle.gg_snap.specs.text.Table.{rows_of}
use Rattle.gg_io.specs.Ends.{Loads, Puts}
use Rattle.gg_io.specs.inside.Endings.{EndedOn, IfRefused, PrintsOrStops, StopsBy}
use Rattle.gg_io.specs.Order.{IsOnly, Load, Write}
use Rattle.gg_io.specs.Said.{Said}
use Rattle.gg_io.specs.declared.endings.Ending.{Ending}
use Rattle.gg_io.specs.declared.endings.Ending.TheVariants.{NoMemory}
use Rattle.gg_io.proofs.EndingLemmas.{judged-ends, judged-map, loads-same}
use Rattle.gg_trace.specs.Last.{acts}
use Rattle.golden_commands.specs.inside.Case.{FedRead, trace_order}
use Rattle.golden_commands.specs.Case.{IsCase, IsFed}
use Rattle.golden_commands.specs.Commands.{Asked, read_order}
use Rattle.golden_commands.specs.Lines.{few_rows}
use Rattle.golden_commands.specs.Partition.{Known, to_save}
use Rattle.golden_commands.specs.RunText.{shown_ports}
use Rattle.golden_commands.specs.inside.Replayed.{IsToReplay, fed_start}
use Rattle.golden_commands.specs.Replayed.{fed_flow}
use Rattle.golden_commands.specs.inside.Runs.{FindsStop, Halted, IsUpto, Short, TellsEarly, meant_by, text_after, upto}
use Rattle.golden_commands.specs.Saved.{CanBeSaved, HasRun, IsSavedText, TellsFew, save_limit, saved_file_for}
use Rattle.golden_commands.specs.declared.case.Fed.{Fed}
use Rattle.golden_commands.proofs.BeginLemmas.{run-of}
use Rattle.golden_commands.proofs.CaseLemmas.{case-can, case-ends, case-ordered}
use Rattle.golden_commands.proofs.FedLemmas.{fed-are, fed-rows, own-run}
use Rattle.golden.proofs.FirstLemmas.{first-alike, first-columns, first-columns-row, first-run, first-states, limit_of, none-limit, stop-limit, whole-none}
use Rattle.golden_commands.proofs.PartitionLemmas.{DesignsAgree}
use Rattle.golden.proofs.SavedLemmas.{saved-only}

-- What is told of a network of the first rows, for the whole run.
pub record UptoGives (models : Models) (circuit partition trace : List ℕ) (cycles at : ℕ) (fed : Fed) : Type 0 where
  pub replay : IsToReplay fed (fed_flow models fed)
  pub saves : FindsStop fed replay cycles None → at ≤ cycles → CanBeSaved (to_save models) circuit partition at trace × IsOnly (IsSavedText (to_save models) circuit partition at trace) (text_after fed replay)
  pub tells : (said : Said) → TellsEarly fed replay cycles at said → TellsFew (to_save models) circuit partition at trace said

module _ (models : Models) (agree : DesignsAgree) (circuit partition trace : List ℕ) (capacity : ℕ) (whole : Fed) (is : IsFed (to_save models) circuit partition trace capacity whole) (m : ℕ) (within : m ≤ whole.trace.rows) where
  abbrev design : Ordered
  design = whole.case.design

  abbrev request : Request
  request = whole.case.cut.request

  abbrev reference : FlatCircuit
  reference = plan_reference design request

  -- the circuit that the network computes
  abbrev all : FlatCircuit
  all = plan_circuit design request models

  abbrev start : Start
  start = plan_start design request

  abbrev stops : List Ratio
  stops = plan_stops design request

  abbrev ports : List Port
  ports = shown_ports design request

  abbrev n : ℕ
  n = whole.trace.rows

  -- the rows of the whole run, and those of the run of the first rows
  abbrev rows : List (List ℕ)
  rows = circuit_rows design request models whole.trace.columns n

  abbrev front : List (List ℕ)
  front = circuit_rows design request models (map (take m) whole.trace.columns) m

  abbrev halt : ℕ → Bool
  halt = is_halt stops all ports rows

  front-given : IsGiven design request models capacity whole.case.cut.plan (map (take m) whole.trace.columns) m start front
  front-given =
      given-along design request models capacity whole.case.cut.plan (map (take m) whole.trace.columns) m (case-can is.case) is.case.held is.case.planned
      is.case.bounded.0 is.case.bounded.1 (omega (arith, within, is.most)) (first-columns all n m whole.trace.columns within is.columns)

  -- the network of the first rows can be run
  abbrev run-upto : IsToReplay (upto m whole) (fed_flow models (upto m whole))
  run-upto =
      record {
        run = record { design = design; request = request; models = models; default = capacity; rows = front; given = front-given; room = is.case.bounded.1; flow_is = refl };
        of_design = refl;
        of_request = refl;
      }

  has-run : HasRun (to_save models) circuit partition trace (meant_by whole) rows
  has-run = record { are = fed-are (to_save models) circuit partition trace capacity whole is; run = own-run (to_save models) circuit partition trace capacity whole is }

  -- its rows are the first of the whole run
  front-is : front ≡ take m rows
  front-is =
      IsRunFrom-once all (circuit_order design request models) (clocked_start all (ratios_of design.tree request)) (map (take m) whole.trace.columns) m front (take m rows) (case-ordered is.case)
      (run-of design request models (map (take m) whole.trace.columns) m front front-given.run)
      (first-run all (ratios_of design.tree request) whole.trace.columns n m rows within has-run.run)

  halts-same : (t : ℕ) → t < m → is_halt stops all ports front t ≡ halt t
  halts-same t lt =
      ap (λ (r : List (List ℕ)). is_halt stops all ports r t) front-is ∙ ap (acts stops t) (first-columns-row rows m t (drop (length ports) all.outs) lt)

  first-so : (found : Option ℕ) → FindsStop (upto m whole) run-upto n found → IsFirst (ends_run stops all ports rows n) m found
  first-so found first =
      first-alike (ends_run stops all ports front n) (ends_run stops all ports rows n) m found (λ t lt. ap (λ (b : Bool). b && nat_lt (t + 1) n) (halts-same t lt)) first

  limit-is : save_limit (meant_by whole) rows ≡ limit_of halt n
  limit-is = ap (λ (k : ℕ). if k == n then n else k - 1) (sym (fed-rows (to_save models) circuit partition trace capacity whole is ports rows refl))

  saves-so : (at : ℕ) → at ≡ m → FindsStop (upto m whole) run-upto n None → CanBeSaved (to_save models) circuit partition at trace × IsOnly (IsSavedText (to_save models) circuit partition at trace) (text_after (upto m whole) run-upto)
  saves-so at same none =
      let meant = meant_by whole in
      let low : m ≤ save_limit meant rows = omega (arith, limit-is, none-limit halt n m within (first-so None none)) in
      let state : state_at reference start front m ≡ state_at reference start rows m =
      ap (λ (r : List (List ℕ)). state_at reference start r m) front-is ∙ first-states reference start rows m m (omega arith) (omega (arith, within, has-run.run.count)) in
      let only = saved-only models agree meant rows has-run m low in
      subst (λ k. CanBeSaved (to_save models) circuit partition k trace × IsOnly (IsSavedText (to_save models) circuit partition k trace) (text_after (upto m whole) run-upto)) (sym same)
      ((meant, rows, has-run, low), subst (IsOnly (IsSavedText (to_save models) circuit partition m trace)) (ap (snap_text (rows_of reference design.tree) m) (sym state)) only)

  tells-so : (at : ℕ) → (m ≡ at) ⊎ (m ≡ n) → m ≤ at → (said : Said) → TellsEarly (upto m whole) run-upto n at said → TellsFew (to_save models) circuit partition at trace said
  tells-so at which low said (Halted stop first is) =
      let limit : save_limit (meant_by whole) rows ≡ stop = limit-is ∙ stop-limit halt n m stop within (first-so (Some stop) first) in
      (meant_by whole, rows, has-run, omega (arith, limit, low, first.0), is ∙ ap (few_rows at) (sym limit))
  tells-so at (inl same) low said (Short none few is) = absurd (omega (arith, same, within, few))
  tells-so at (inr every) low said (Short none few is) =
      let limit : save_limit (meant_by whole) rows ≡ n = limit-is ∙ whole-none halt n (subst (λ k. IsFirst (ends_run stops all ports rows n) k None) every (first-so None none)) in
      (meant_by whole, rows, has-run, omega (arith, limit, few), is ∙ ap (few_rows at) (sym limit))

  gives-so : (at : ℕ) → m ≤ at → (m ≡ at) ⊎ (m ≡ n) → UptoGives models circuit partition trace n at (upto m whole)
  gives-so at low which =
      record {
        replay = run-upto;
        saves = λ none le. saves-so at (same which le) none;
        tells = tells-so at which low;
      }
    where
      same : (m ≡ at) ⊎ (m ≡ n) → at ≤ n → at ≡ m
      same (inl is) le = sym is
      same (inr is) le = omega (arith, is, le, low)

pub upto-gives : (models : Models) → DesignsAgree → (circuit partition trace : List ℕ) (capacity : ℕ) (whole : Fed) → IsFed (to_save models) circuit partition trace capacity whole → (at : ℕ) (fed : Fed) → IsUpto whole at fed → (cycles : ℕ) → cycles ≡ whole.trace.rows
    → UptoGives models circuit partition trace cycles at fed
upto-gives models agree circuit partition trace capacity whole is at fed of cycles same =
    subst (λ k. UptoGives models circuit partition trace k at fed) (sym same)
    (subst (UptoGives models circuit partition trace whole.trace.rows at) (sym of.is) (gives-so models agree circuit partition trace capacity whole is fed.trace.rows of.within at of.below of.most))

-- ---- bridges

-- the network of a plan without bridges takes none
pub none-asked : {B : Type 0} (piece : B → FlatCircuit) (state : B → State) (bridges : List (List ℕ × B)) → bridges ≡ [] → (design : Ordered) (request : Request) (models : Models) (default : ℕ) (plan : Plan) → IsPlan design request models default plan
    → request.bridges ≡ [] → HasBridges piece state plan bridges
none-asked piece state bridges none design request models default plan planned alone =
    record {
      names = subst (λ (l : List (List ℕ × _)). AllPairs (λ a b. a ≢ b) (map (λ pair. pair.0) l)) (sym none) (λ i j d less lt same. omega (arith, lt));
      each = λ m body lt is.
          let asked = (subst (λ (b : Body). IsBody design request models (listed_of design.tree request) (plan_hub design.circuit design.tree request) m b) is (planned.machine m nameless lt).body).1 in
          absurd (omega (arith, asked.known, ap (λ (l : List BridgeEntry). length l) alone));
    }

-- ---- the snapshot

-- a network that has the frame of a plan's network, and has done all of its cycles, stands at its end
pub stands-end : (plan : Plan) (start : Start) (token : ℕ → ℕ) (columns : List (List ℕ)) (n : ℕ) (opening net : Network) → IsOpeningFrom plan start token columns n opening → frame_of net ≡ frame_of opening → AllStandAt opening.end net → StandsAt plan start token columns n n net
stands-end plan start token columns n opening net opens frame all =
    let end : opening.end ≡ n = ap (λ (x : Network). x.end) opens.is in
    record {
      of_plan = net-stays plan start token columns n opening net (opening-is-net plan start token columns n opening opens) frame;
      all = subst (λ k. AllStandAt k net) end all;
      within = omega arith;
    }

module _ (fed : Fed) (flow : Flow) (replay : IsToReplay fed flow) (alone : fed.case.cut.request.bridges ≡ []) (net : Network) (cycle : ℕ) (same : cycle ≡ fed.trace.rows)
    (stands : StandsAt fed.case.cut.plan (fed_start fed) (run_token replay.run) fed.trace.columns fed.trace.rows fed.trace.rows net) where
  abbrev Ended : (start : Start) (columns : List (List ℕ)) (cycle : ℕ) → Type 0
  Ended start columns cycle = HasEnded fed.case.cut.plan fed.case.design start columns cycle flow net

  abbrev ended : Ended (fed_start fed) fed.trace.columns fed.trace.rows
  ended = record { run = replay.run; of_design = replay.of_design; alone = ap (λ (r : Request). r.bridges) replay.of_request ∙ alone; stands = stands }

  abbrev own_reference : FlatCircuit
  own_reference = plan_reference replay.run.design replay.run.request

  reference-is : plan_reference fed.case.design fed.case.cut.request ≡ own_reference
  reference-is = ap₂ plan_reference (sym replay.of_design) (sym replay.of_request)

  -- the network has ended, and the circuit is that of its run
  pub has-ended : (circuit : FlatCircuit) → circuit ≡ plan_reference fed.case.design fed.case.cut.request
      → (start : Start) × (columns : List (List ℕ)) × (ended : HasEnded fed.case.cut.plan fed.case.design start columns cycle flow net) × (circuit ≡ plan_reference ended.run.design ended.run.request)
  has-ended circuit made =
      subst (λ k. (start : Start) × (columns : List (List ℕ)) × (ended : Ended start columns k) × (circuit ≡ plan_reference ended.run.design ended.run.request)) (sym same)
      (fed_start fed, fed.trace.columns, ended, made ∙ reference-is)

  -- the text of the snapshot of the state in which it has ended
  pub after-is : (snap : Snapshot) (made : Ordered) (text : List ℕ) → snap.design ≡ made → made.circuit ≡ plan_reference fed.case.design fed.case.cut.request → made.tree ≡ fed.case.design.tree → snap.cycle ≡ cycle
      → ((start : Start) (columns : List (List ℕ)) (ended : HasEnded fed.case.cut.plan fed.case.design start columns cycle flow net) → snap.state ≡ last_state ended.run)
      → IsSnap snap.design.circuit snap.design.tree text snap.cycle snap.state → text ≡ text_after fed replay
  after-is snap made text of circuit tree at told is =
      let state : snap.state ≡ state_at own_reference (fed_start fed) replay.run.rows fed.trace.rows =
      subst (λ k. (start : Start) (columns : List (List ℕ)) (ended : Ended start columns k) → snap.state ≡ last_state ended.run) same told (fed_start fed) fed.trace.columns ended in
      is.is
      ∙ ap (λ (d : Ordered). snap_text (rows_of d.circuit d.tree) snap.cycle snap.state) of
      ∙ ap (λ (f : FlatCircuit). snap_text (rows_of f made.tree) snap.cycle snap.state) (circuit ∙ reference-is)
      ∙ ap (λ (t : InstanceTree). snap_text (rows_of own_reference t) snap.cycle snap.state) (tree ∙ ap (λ (d : Ordered). d.tree) (sym replay.of_design))
      ∙ ap (λ k. snap_text (rows_of own_reference replay.run.design.tree) k snap.state) (at ∙ same)
      ∙ ap (snap_text (rows_of own_reference replay.run.design.tree) fed.trace.rows) state

-- ---- ends

-- what is reported for the first three files is reported for those of `save`
pub saved-stops : {known : Known} (loads : Loads) {said : Said} (asked : Asked) (at : ℕ) (trace : List ℕ) → StopsBy loads (trace_order known asked trace) said
    → StopsBy loads (read_order known asked (λ c p. Load (saved_file_for known c p at trace) (λ t. Write (IsSavedText known c p at t)))) said
saved-stops loads asked at trace (inl h) = inl h
saved-stops loads asked at trace (inr (c, can, accepts, inl h)) = inr (c, can, accepts, inl h)
saved-stops loads asked at trace (inr (c, can, accepts, inr (p, can', accepts', inl (inl load)))) = inr (c, can, accepts, inr (p, can', accepts', inl (inl load)))
saved-stops loads asked at trace (inr (c, can, accepts, inr (p, can', accepts', inl (inr (t, held, tells))))) =
    inr (c, can, accepts, inr (p, can', accepts', inl (inr (t, record { held = held.held; within = held.within }, inl tells))))
saved-stops loads asked at trace (inr (c, can, accepts, inr (p, can', accepts', inr (t, can'', accepts'', h)))) = absurd h

-- the first three files were read, and the run was saved, or it couldn't be
pub saved-ends : {known : Known} {loads : Loads} {T : Type 0} {out : Puts} {r : Result T Ending} {asked : Asked} (at k : ℕ) {trace : List ℕ} {fed : Fed} (read : FedRead known loads.files asked trace fed) → k ≡ at
    → PrintsOrStops out (λ text. CanBeSaved known read.read.circuit read.read.partition k read.bytes × IsOnly (IsSavedText known read.read.circuit read.read.partition k read.bytes) text) (TellsFew known read.read.circuit read.read.partition k read.bytes) r
    → EndedOn loads out (read_order known asked (λ c p. Load (saved_file_for known c p at trace) (λ t. Write (IsSavedText known c p at t)))) r
saved-ends {known = known} {out = out} {r = r} at k {trace = trace} read same judged =
    let c = read.read.circuit in
    let p = read.read.partition in
    let own = subst (λ j. PrintsOrStops out (λ text. CanBeSaved known c p j read.bytes × IsOnly (IsSavedText known c p j read.bytes) text) (TellsFew known c p j read.bytes) r) same judged in
    case-ends loads-same {next = λ c p. Load (saved_file_for known c p at trace) (λ t. Write (IsSavedText known c p at t))} read.read
    (judged-ends {file = saved_file_for known c p at trace} {IsText = IsSavedText known c p at} (record { held = read.at_trace.held; within = read.at_trace.within }) (judged-map (λ text h. h) (λ said h. inr h) own))

-- ---- what was read

pub upto-case : {known : Known} {circuit partition trace : List ℕ} {capacity at : ℕ} {whole fed : Fed} → IsFed known circuit partition trace capacity whole → IsUpto whole at fed → IsCase known circuit partition capacity fed.case
upto-case {known = known} {circuit = circuit} {partition = partition} {capacity = capacity} is of = subst (λ (f : Fed). IsCase known circuit partition capacity f.case) (sym of.is) is.case

-- the first rows of a trace, as many as are wanted, or all
pub cut-upto : (whole : Fed) (at cycles rows : ℕ) (fed : Fed) → cycles ≡ whole.trace.rows → rows ≡ min at cycles → fed ≡ upto rows whole → IsUpto whole at fed
cut-upto whole at cycles rows fed all least is =
    let counted : fed.trace.rows ≡ rows = ap (λ (f : Fed). f.trace.rows) is in
    record {
      is = is ∙ ap (λ k. upto k whole) (sym counted);
      within = omega (arith, counted, least, all);
      below = omega (arith, counted, least);
      most = elim (cases_lt at cycles) [
        | inl lt ↦ inl (omega (arith, counted, least, lt))
        | inr le ↦ inr (omega (arith, counted, least, le, all))
      ];
    }

-- ---- how a function has ended

-- an ending for want of memory is one that a refusal may be
pub wants-so : (P : Said → Type 0) (ending : Ending) → ending ≡ NoMemory → IfRefused P ending
wants-so P ending is = subst (IfRefused P) (sym is) tt

-- what two clauses tell of a value gives a third
pub IfOk-both : {A E : Type 0} {P Q R : A → Type 0} (r : Result A E) → ((a : A) → P a → Q a → R a) → IfOk r P → IfOk r Q → IfOk r R
IfOk-both (Ok a) f p q = f a p q
IfOk-both (Err e) f p q = tt
