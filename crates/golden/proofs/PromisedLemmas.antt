-- What is promised of a call, clause by clause.
use Rattle.std.proofs.Common.{◌≡◌, ◌≢◌, ℕ, List, [], ◌≤◌, false, length, refl, ap, sym, ◌∙◌, subst, inl, inr, ◌⊎◌}
use Rattle.std.specs.Prelude.{Bool, Option, Some, Err}
use Rattle.std.specs.Io.KnownBytes.{append_known}
use Rattle.std.proofs.lemmas.Option.{same_Some}
use Rattle.gg_io.specs.Told.{Holds}
use Rattle.gg_read.specs.Text.{HasReadFault}
use Rattle.gg_read.specs.declared.text.ReadFault.{ReadFault}
use Rattle.gg_flat.specs.Circuit.{FlatCircuit}
use Rattle.gg_cut_plan.specs.Bridges.{Models}
use Rattle.gg_front.specs.Accepted.{IsAcceptedText}
use Rattle.gg_front.specs.Meaning.{Means, MeansDesign}
use Rattle.gg_front.specs.declared.fault.FrontFault.TheVariants as front
use Rattle.gg_net.specs.markings.Goes as goes
use Rattle.gg_order.specs.Design.{Ordered}
use Rattle.gg_partfile.specs.Partition.{IsPartition}
use Rattle.gg_partfile.specs.declared.request.Request.{Request}
use Rattle.gg_io.specs.Said.{Said, cannot_load}
use Rattle.gg_io.specs.Order.{Order, Load, Write, StopsAt, DueAt, IsDueAccepted, IsOnly, IsExact, IsExactFile, IsUnique, IsUniqueFile, IsJudgement, OfNone}
use Rattle.gg_io.specs.Ends.{Loads, NoneLost, Puts, Reports, Tells}
use Rattle.gg_io.proofs.EndsLemmas.{SaysDue}
use Rattle.gg_io.proofs.OrderLemmas.{IsOnlyDue, first-only, later-only}
use Rattle.gg_io.proofs.WritingLemmas.{append_known-nil}
use Rattle.gg_trace.specs.FaultText.{fault_words}
use Rattle.gg_trace.specs.Trace.{IsFirstFault}
use Rattle.gg_trace.specs.declared.faults.TraceFault.{TraceFault}
use Rattle.gg_words.specs.Meaning.{IsCommand}
use Rattle.gg_words.specs.declared.command.Cmd.{Cmd}
use Rattle.gg_words.specs.declared.command.Cmd.TheVariants.{Run, Replay, Check, Demo, Save, Resume}
use Rattle.golden_commands.specs.Commands.{Asked, asked_by, asking, known_of, order_behind, order_by, order_of, read_order, trace_of}
use Rattle.gg_bits.specs.Limits.{circuit_limit, partition_limit, snap_limit, steps_limit, trace_limit}
use Rattle.golden_commands.specs.GoesOn.{ResumedIsTheRest, SavedIsAccepted}
use Rattle.golden_commands.specs.Lines.{TellsUnread, partition_fault, trace_fault}
use Rattle.golden_commands.specs.Network.{RanNetwork}
use Rattle.golden_commands.specs.Outcome.{Answered}
use Rattle.golden_commands.specs.Partition.{HasFault, IsPartitionFor, TellsPartitionFor, partition_file_for, to_run, to_save}
use Rattle.golden_commands.specs.Promised.{JudgedAt, Promised}
use Rattle.golden_commands.specs.Replay.{IsReplayOf, IsSetting, Setting, TellsSteps, replayed, steps_file_for, stopped_said}
use Rattle.golden_commands.specs.Resumed.{CanBeResumed, HaveSamePipes, HaveSameRatios, IsRestOf}
use Rattle.golden_commands.specs.Saved.{IsSavedText, saved_file_for}
use Rattle.golden_commands.specs.Stepped.{ToldByNetwork}
use Rattle.golden_commands.specs.Run.{IsPlainText, IsTextOf, TellsCircuit, TellsTraceFor, circuit_file, trace_file_for}
use Rattle.golden_commands.specs.RunText.{fed_ports}
use Rattle.golden_commands.specs.Words.{AskForCommand, TellsUnasked}
use Rattle.golden.proofs.CauseLemmas.{Cause, ExactOrders, OneMeaning, cause, complete-status, cut-8, due-said, judged-file, lost-3, no_command-2, none-written, unasked-2, unasked-status, unwritten-4}
use Rattle.golden.proofs.KnownLemmas.{OneRequest, resume-known, run-known, run-plain, written-0}

-- if a text has a fault of reading, only this fault is reported
abbrev pub OneReading : Type 0
OneReading = (bytes : List ℕ) (fault : ReadFault) (said other : Said) → HasReadFault bytes fault → TellsUnread fault said → TellsCircuit bytes other → other ≡ said

-- at most one thing is reported for each file that follows the circuit
abbrev pub UniqueOrders : Models → Type 0
UniqueOrders models = (command : Cmd) (asked : Asked) (circuit : List ℕ) → IsUnique (Load (partition_file_for (known_of models command) circuit asked.partition) (order_behind models command circuit))

-- the order of a command that asks this of its files
reads-files : (models : Models) (command : Cmd) (asked : Asked) → asked_by command ≡ Some asked → order_of models command ≡ read_order (known_of models command) asked (order_behind models command)
reads-files models command asked asks = ap (λ (a : Option Asked). order_by (known_of models command) a (order_behind models command)) asks

-- what is promised of a call that answered this status
module _ {models : Models} {words : List (List ℕ)} {loads : Loads} {out err : Puts} {status : ℕ} (a : Answered models words loads out err status) where
  -- what has the status and the line of the call was reported
  reported-as : (said : Said) → status ≡ said.status → a.line ≡ said.line → Tells err status said
  reported-as said is e = record { is = is; reported = subst (λ (l : List ℕ). Reports err l) e a.reported }

  module _ (exact : ExactOrders models) where
    caused : Cause models loads out.failed words status a.text a.line
    caused = cause models loads out.failed exact words status a.text a.line a.outcome

    judged : IsJudgement status
        → (command : Cmd) × IsCommand words command × ((said : Said) × JudgedAt loads.files (order_of models command) said × Tells err status said)
    judged is =
        let why = judged-file models loads out.failed words status a.text a.line caused is in
        (why.0, why.1, (why.2.0, why.2.1, reported-as why.2.0 why.2.2 why.2.3))

    no_command : status ≡ 2 → (¬ AskForCommand words) × ((said : Said) × TellsUnasked words said × Tells err status said)
    no_command is =
        let why = no_command-2 models loads out.failed words status a.text a.line caused is in
        (why.0, (why.1.0, why.1.1, reported-as why.1.0 (is ∙ sym (unasked-status words why.1.0 why.1.1)) why.1.2))

    not_loaded : status ≡ 3 → (name : List ℕ) × loads.lost name × Tells err status (cannot_load name)
    not_loaded is =
        let why = lost-3 models loads out.failed words status a.text a.line caused is in
        (why.0, why.1, reported-as (cannot_load why.0) why.2 why.3)

    over : status ≡ 8 → ((name : List ℕ) × loads.cut name) × ((command : Cmd) × IsCommand words command × ((said : Said) × StopsAt loads.files OfNone loads.cut (order_of models command) said × Tells err status said))
    over is =
        let why = cut-8 models loads out.failed words status a.text a.line caused is in
        let file = why.1 in
        (why.0, (file.0, file.1, (file.2.0, file.2.1, reported-as file.2.0 file.2.2 file.2.3)))

    -- a run of known files wrote their text
    known : OneMeaning → (circuit partition trace : List ℕ) (capacity workers : ℕ) (mono : Bool) (c p t : List ℕ)
        → IsCommand words (Run circuit partition trace capacity workers mono) → status ≡ 0
        → loads.files circuit ≡ Holds c → loads.files partition ≡ Holds p → loads.files trace ≡ Holds t
        → (text : List ℕ) × (out.after ≡ append_known out.before text) × IsOnly (IsTextOf (to_run models) c p t) text
    known once circuit partition trace capacity workers mono c p t asks zero hc hp ht = (
      a.text,
      a.written,
      run-known models loads.files circuit partition trace capacity workers mono c p t a.text hc hp ht
          (written-0 models loads out.failed exact once words status a.text a.line a.outcome (Run circuit partition trace capacity workers mono) asks zero),
    )

    plain : OneMeaning → OneRequest → (circuit partition trace : List ℕ) (capacity workers : ℕ) (mono : Bool) (c p t : List ℕ) (request : Request)
        → IsCommand words (Run circuit partition trace capacity workers mono) → status ≡ 0
        → loads.files circuit ≡ Holds c → loads.files partition ≡ Holds p → loads.files trace ≡ Holds t
        → IsPartition p request → request.pipe ≡ [] → request.clocks ≡ [] → request.bridges ≡ []
        → (text : List ℕ) × (out.after ≡ append_known out.before text) × IsPlainText c t text
    plain once one circuit partition trace capacity workers mono c p t request asks zero hc hp ht is none always alone =
        let wrote = known once circuit partition trace capacity workers mono c p t asks zero hc hp ht in
        (wrote.0, wrote.1, run-plain (to_run models) one c p t wrote.0 request is none always alone wrote.2.is)

    -- a run that goes on from a saved snapshot wrote the rest
    resumed : OneMeaning → SavedIsAccepted models → ResumedIsTheRest models → NoneLost loads → (out.failed → ⊥) → (circuit partition trace snap : List ℕ) (capacity workers : ℕ) (c p q t s whole : List ℕ) (one other : Request) (at : ℕ)
        → IsCommand words (Resume circuit partition trace snap capacity workers)
        → loads.files circuit ≡ Holds c → length c ≤ circuit_limit
        → loads.files partition ≡ Holds p → length p ≤ partition_limit → IsPartitionFor (to_save models) c p → IsPartition p one
        → loads.files trace ≡ Holds t → length t ≤ trace_limit
        → loads.files snap ≡ Holds s → length s ≤ snap_limit → IsSavedText (to_save models) c q at t s
        → IsPartition q other → HaveSamePipes one other → HaveSameRatios one other → IsTextOf (to_run models) c q t whole
        → ((status ≡ 0) × ((text : List ℕ) × (out.after ≡ append_known out.before text) × IsRestOf at whole text)) ⊎ (status ≡ 5)
    resumed once accepted goes none wrote circuit partition trace snap capacity workers c p q t s whole one other at asks hc lc hp lp fits is ht lt hs ls saved own pipes ratios runs =
        by (complete-status models loads out.failed words status a.text a.line exact once a.outcome none wrote command asks due)
      where
        command : Cmd
        command = Resume circuit partition trace snap capacity workers

        can : CanBeResumed (to_save models) c p t s
        can = accepted c p q t s one other at saved fits is own pipes

        due : IsDueAccepted loads.files (order_of models (Resume circuit partition trace snap capacity workers))
        due =
            let are = can.3 in
            (c, hc, lc, are.is.means.means.text, (p, hp, lp, fits, (t, ht, lt, (can.0.design.circuit, are.is.means.means, (can.0.request, are.is.cuts.asks, (can.0.cycles, can.0.columns, are.is.feeds))), (s, hs, ls, can, tt))))

        by : (status ≡ 0) ⊎ (status ≡ 5) → ((status ≡ 0) × ((text : List ℕ) × (out.after ≡ append_known out.before text) × IsRestOf at whole text)) ⊎ (status ≡ 5)
        by (inr wanted) = inr wanted
        by (inl done) =
            let only = resume-known models loads.files circuit partition trace snap capacity workers c p t s a.text hc hp ht hs (written-0 models loads out.failed exact once words status a.text a.line a.outcome command asks done) in
            inl (done, (a.text, a.written, goes c p q t s a.text whole one other at saved fits is own pipes ratios only.is runs))

    nothing_written : status ≢ 0 → status ≢ 4 → status ≢ 5 → out.after ≡ out.before
    nothing_written x y z =
        a.written ∙ ap (append_known out.before) (none-written models loads out.failed words status a.text a.line caused x y z) ∙ append_known-nil out.before

    module _ (once : OneMeaning) (none : NoneLost loads) where
      due-told : (order : Order) (due : Said) → SaysDue loads out.failed status a.line order due
          → ((status ≡ due.status) × ((said : Said) × DueAt loads.files order said × Tells err status said)) ⊎ (status ≡ 5)
      due-told order due (inl h) = inl (h.0, (h.1.0, h.1.1, reported-as h.1.0 h.1.2 h.1.3))
      due-told order due (inr h) = inr h

      tells-due : (command : Cmd) (due : Said) → IsCommand words command → DueAt loads.files (order_of models command) due
          → ((status ≡ due.status) × ((said : Said) × DueAt loads.files (order_of models command) said × Tells err status said)) ⊎ (status ≡ 5)
      tells-due command due asks d = due-told (order_of models command) due (due-said models loads out.failed words status a.text a.line exact once a.outcome none command due asks d)

      -- if only this is due, this is what is reported
      tells-only : (command : Cmd) (due : Said) → IsCommand words command → IsOnlyDue loads.files (order_of models command) due → Tells err status due ⊎ (status ≡ 5)
      tells-only command due asks only = by (tells-due command due asks only.is)
        where
          by : ((status ≡ due.status) × ((said : Said) × DueAt loads.files (order_of models command) said × Tells err status said)) ⊎ (status ≡ 5) → Tells err status due ⊎ (status ≡ 5)
          by (inl h) = inl (subst (λ (s : Said). Tells err status s) (only.only h.1.0 h.1.1) h.1.2)
          by (inr h) = inr h

      module _ (command : Cmd) (asked : Asked) (own : asked_by command ≡ Some asked) where
        -- the order of the command is exact
        exact-read : IsExact (read_order (known_of models command) asked (order_behind models command))
        exact-read = subst (λ (o : Order). IsExact o) (reads-files models command asked own) (exact command)

        -- if only this is due of its files, this is what is reported
        tells-read : (due : Said) → IsCommand words command → IsOnlyDue loads.files (read_order (known_of models command) asked (order_behind models command)) due → Tells err status due ⊎ (status ≡ 5)
        tells-read due asks only = tells-only command due asks (subst (λ (o : Order). IsOnlyDue loads.files o due) (sym (reads-files models command asked own)) only)

      tells-unread : OneReading → (command : Cmd) (asked : Asked) (bytes : List ℕ) (fault : ReadFault) (said : Said)
          → IsCommand words command → asked_by command ≡ Some asked → loads.files asked.circuit ≡ Holds bytes → length bytes ≤ circuit_limit
          → HasReadFault bytes fault → TellsUnread fault said → Tells err status said ⊎ (status ≡ 5)
      tells-unread one command asked bytes fault said asks own told short has tells =
          tells-read command asked own said asks
          (first-only loads.files (circuit_file asked.circuit) _ bytes said (exact-read command asked own).0 told short (front.Read fault, (has, tells.0), (λ e. absurd (cc)), tells.1)
          (λ other. one bytes fault said other has tells))

      -- behind a circuit that is told and accepted
      tells-behind : (command : Cmd) (asked : Asked) (c : List ℕ) (due : Said) → IsCommand words command → asked_by command ≡ Some asked → loads.files asked.circuit ≡ Holds c → length c ≤ circuit_limit → IsAcceptedText c
          → IsOnlyDue loads.files (Load (partition_file_for (known_of models command) c asked.partition) (order_behind models command c)) due → Tells err status due ⊎ (status ≡ 5)
      tells-behind command asked c due asks own hc lc accepted later =
          tells-read command asked own due asks (later-only loads.files (circuit_file asked.circuit) (λ b. Load (partition_file_for (known_of models command) b asked.partition) (order_behind models command b)) c due (exact-read command asked own).0 hc lc accepted later)

      tells-partitioned : UniqueOrders models → (command : Cmd) (asked : Asked) (c p : List ℕ) (design : Ordered) (fault : List ℕ) → IsCommand words command → asked_by command ≡ Some asked
          → loads.files asked.circuit ≡ Holds c → length c ≤ circuit_limit → MeansDesign c design
          → loads.files asked.partition ≡ Holds p → length p ≤ partition_limit → HasFault (known_of models command) design p fault
          → Tells err status (partition_fault fault) ⊎ (status ≡ 5)
      tells-partitioned unique command asked c p design fault asks own hc lc means hp lp has =
          let said : Said = partition_fault fault in
          let refuses : TellsPartitionFor (known_of models command) c p said = (design, means, (fault, has, refl)) in
          tells-behind command asked c said asks own hc lc means.means.text
          (first-only loads.files (partition_file_for (known_of models command) c asked.partition) (order_behind models command c) p said ((exact-read command asked own).1 c).0 hp lp refuses
          (λ other h. (unique command asked c).0 p other said h refuses))

      -- behind a circuit and a partition that are told and accepted
      tells-later : (command : Cmd) (asked : Asked) (c p : List ℕ) (due : Said) → IsCommand words command → asked_by command ≡ Some asked
          → loads.files asked.circuit ≡ Holds c → length c ≤ circuit_limit → IsAcceptedText c
          → loads.files asked.partition ≡ Holds p → length p ≤ partition_limit → IsPartitionFor (known_of models command) c p
          → IsOnlyDue loads.files (order_behind models command c p) due → Tells err status due ⊎ (status ≡ 5)
      tells-later command asked c p due asks own hc lc accepted hp lp fits later =
          tells-behind command asked c due asks own hc lc accepted
          (later-only loads.files (partition_file_for (known_of models command) c asked.partition) (order_behind models command c) p due ((exact-read command asked own).1 c).0 hp lp fits later)

      -- only the fault of a trace is due, whatever follows the trace
      trace-only : (c p t trace : List ℕ) (next : List ℕ → Order) (flat : FlatCircuit) (request : Request) (fault : TraceFault) → IsExactFile (trace_file_for c p trace) → IsUniqueFile (trace_file_for c p trace)
          → Means c flat → IsPartition p request → loads.files trace ≡ Holds t → length t ≤ trace_limit → IsFirstFault (fed_ports flat request) t fault → IsOnlyDue loads.files (Load (trace_file_for c p trace) next) (trace_fault (fault_words fault))
      trace-only c p t trace next flat request fault exact_file unique_file means is ht lt first =
          let said : Said = trace_fault (fault_words fault) in
          let refuses : TellsTraceFor c p t said = (flat, means, (request, is, (fault, first, refl))) in
          first-only loads.files (trace_file_for c p trace) next t said exact_file ht lt refuses (λ other h. unique_file t other said h refuses)

      tells-traced : UniqueOrders models → (command : Cmd) (asked : Asked) (c p t trace : List ℕ) (flat : FlatCircuit) (request : Request) (fault : TraceFault)
          → IsCommand words command → asked_by command ≡ Some asked → trace_of command ≡ Some trace
          → loads.files asked.circuit ≡ Holds c → length c ≤ circuit_limit → Means c flat
          → loads.files asked.partition ≡ Holds p → length p ≤ partition_limit → IsPartitionFor (known_of models command) c p → IsPartition p request
          → loads.files trace ≡ Holds t → length t ≤ trace_limit → IsFirstFault (fed_ports flat request) t fault
          → Tells err status (trace_fault (fault_words fault)) ⊎ (status ≡ 5)
      tells-traced unique (Run circuit partition own capacity workers mono) asked c p t trace flat request fault asks files named hc lc means hp lp fits is held lt first =
          let command : Cmd = Run circuit partition own capacity workers mono in
          tells-later command asked c p (trace_fault (fault_words fault)) asks files hc lc means.text hp lp fits
          (trace-only c p t own _ flat request fault (((exact command).1 c).1 p).0 ((unique command asked c).1 p).0 means is (ap loads.files (same_Some own trace named) ∙ held) lt first)
      tells-traced unique (Replay circuit partition own steps capacity) asked c p t trace flat request fault asks files named hc lc means hp lp fits is held lt first =
          let command : Cmd = Replay circuit partition own steps capacity in
          tells-later command asked c p (trace_fault (fault_words fault)) asks files hc lc means.text hp lp fits
          (trace-only c p t own _ flat request fault (((exact command).1 c).1 p).0 ((unique command asked c).1 p).0 means is (ap loads.files (same_Some own trace named) ∙ held) lt first)
      tells-traced unique (Save circuit partition own at capacity workers) asked c p t trace flat request fault asks files named hc lc means hp lp fits is held lt first =
          let command : Cmd = Save circuit partition own at capacity workers in
          let said : Said = trace_fault (fault_words fault) in
          let refuses : TellsTraceFor c p t said = (flat, means, (request, is, (fault, first, refl))) in
          tells-later command asked c p said asks files hc lc means.text hp lp fits
          (first-only loads.files (saved_file_for (to_save models) c p at own) _ t said (((exact command).1 c).1 p).0 (ap loads.files (same_Some own trace named) ∙ held) lt (inl refuses)
          (λ other h. ((unique command asked c).1 p).0 t other said h (inl refuses)))
      tells-traced unique (Resume circuit partition own snap capacity workers) asked c p t trace flat request fault asks files named hc lc means hp lp fits is held lt first =
          let command : Cmd = Resume circuit partition own snap capacity workers in
          tells-later command asked c p (trace_fault (fault_words fault)) asks files hc lc means.text hp lp fits
          (trace-only c p t own _ flat request fault (((exact command).1 c).1 p).0 ((unique command asked c).1 p).0 means is (ap loads.files (same_Some own trace named) ∙ held) lt first)
      tells-traced unique (Check circuit partition capacity) asked c p t trace flat request fault asks files named hc lc means hp lp fits is held lt first = absurd (cc)
      tells-traced unique (Demo seed size workers) asked c p t trace flat request fault asks files named hc lc means hp lp fits is held lt first = absurd (cc)

      tells-stepped : UniqueOrders models → (circuit partition trace steps : List ℕ) (capacity : ℕ) (c p t s : List ℕ) (setting : Setting) (stopped : goes.Stopped)
          → IsCommand words (Replay circuit partition trace steps capacity)
          → loads.files circuit ≡ Holds c → length c ≤ circuit_limit
          → loads.files partition ≡ Holds p → length p ≤ partition_limit
          → loads.files trace ≡ Holds t → length t ≤ trace_limit → IsSetting (to_run models) c p t capacity setting
          → loads.files steps ≡ Holds s → length s ≤ steps_limit → replayed setting s ≡ Err stopped
          → Tells err status (stopped_said setting s stopped) ⊎ (status ≡ 5)
      tells-stepped unique circuit partition trace steps capacity c p t s setting stopped asks hc lc hp lp ht lt is hs ls stops =
          let command : Cmd = Replay circuit partition trace steps capacity in
          let asked : Asked = asking circuit partition capacity in
          let said : Said = stopped_said setting s stopped in
          let refuses : TellsSteps (to_run models) c p t capacity s said = (setting, is, (stopped, stops, refl)) in
          tells-later command asked c p said asks refl hc lc is.is.means.means.text hp lp (setting.meant.design, is.is.means, (setting.meant.request, is.is.cuts))
          (later-only loads.files (trace_file_for c p trace) (λ b. Load (steps_file_for (to_run models) c p b capacity steps) (λ x. Write (IsReplayOf (to_run models) c p b capacity x))) t said (((exact command).1 c).1 p).0 ht lt
          (setting.meant.design.circuit, is.is.means.means, (setting.meant.request, is.is.cuts.asks, (setting.meant.cycles, setting.meant.columns, is.is.feeds)))
          (first-only loads.files (steps_file_for (to_run models) c p t capacity steps) _ s said ((((exact command).1 c).1 p).1 t).0 hs ls refuses (λ other h. (((unique command asked c).1 p).1 t).0 s other said h refuses)))

    pub promised : OneMeaning → OneRequest → UniqueOrders models → OneReading → SavedIsAccepted models → ResumedIsTheRest models
        → ((circuit partition trace : List ℕ) (capacity workers : ℕ) → IsCommand words (Run circuit partition trace capacity workers false) → status ≡ 0 → RanNetwork (to_run models) loads out circuit partition trace capacity)
        → ((circuit partition trace steps : List ℕ) (capacity : ℕ) → IsCommand words (Replay circuit partition trace steps capacity) → (said : Said) × Tells err status said × ToldByNetwork (to_run models) loads.files out circuit partition trace steps capacity said)
        → Promised models words loads out err status
    promised once request unique one accepted goes network steps = record {
      outcome = a;
      run_known = known once;
      run_plain = plain once request;
      by_network = network;
      by_steps = steps;
      resumed = resumed once accepted goes;
      judged = judged;
      no_command = no_command;
      not_loaded = not_loaded;
      not_written = unwritten-4 models loads out.failed words status a.text a.line caused;
      over = over;
      nothing_written = nothing_written;
      unasked = unasked-2 models loads out.failed words status a.text a.line a.outcome;
      due = tells-due once;
      unread = λ none. tells-unread once none one;
      partitioned = λ none. tells-partitioned once none unique;
      traced = λ none. tells-traced once none unique;
      stepped = λ none. tells-stepped once none unique;
      complete = complete-status models loads out.failed words status a.text a.line exact once a.outcome;
    }
