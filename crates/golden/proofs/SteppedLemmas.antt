-- What the network tells of the steps of a file is what is told of the steps, and it tells nothing else, through all that a call does.
use Rattle.std.proofs.Common.{◌≡◌, ◌≢◌, ◌⊎◌, ℕ, List, inl, inr, sym, ap, subst, arith}
use Rattle.std.specs.Prelude.{Err, Ok, Option, Result}
use Rattle.gg_io.specs.Told.{Told}
use Rattle.gg_net.specs.declared.event.Event.{Event}
use Rattle.gg_replay.specs.steps_file.Naming.{Naming}
use Rattle.gg_replay.specs.steps_file.Steps.{steps_of}
use Rattle.gg_io.specs.Order.{CanBe, File, IsRefused}
use Rattle.gg_io.specs.Ends.{Loads, Puts, Reports, Tells}
use Rattle.gg_io.specs.inside.Endings.{IfRefused, Prints, PrintsOrStops, PrintsText, Stops, StopsBy, Wants, said_by, said_of}
use Rattle.gg_io.specs.Said.{Said, cannot_load, is_over}
use Rattle.gg_io.specs.declared.endings.Ending.{Ending}
use Rattle.gg_io.specs.declared.endings.Ending.TheVariants.{NoMemory, Refused, Unwritten}
use Rattle.gg_io.proofs.EndingLemmas.{judged-map}
use Rattle.gg_words.specs.Meaning.{IsCommand}
use Rattle.gg_words.specs.declared.command.Cmd.{Cmd}
use Rattle.golden_commands.specs.inside.Case.{FedRead, trace_order}
use Rattle.golden_commands.specs.Case.{IsFed}
use Rattle.golden_commands.specs.Commands.{Asked, asking}
use Rattle.golden_commands.specs.Lines.{circuit_fault, partition_fault, trace_fault}
use Rattle.golden_commands.specs.Partition.{Known, TellsPartitionFor, partition_file_for}
use Rattle.golden_commands.specs.inside.Replay.{IsReplayed}
use Rattle.golden_commands.specs.Replay.{TellsSteps, steps_file_for}
use Rattle.golden_commands.specs.Replayed.{IsNetText, TellsStop, case_naming, fed_flow}
use Rattle.golden_commands.specs.Run.{TellsCircuit, TellsTraceFor, circuit_file, trace_file_for}
use Rattle.golden_commands.specs.Stepped.{IsSteppedText, TellsRefusedStep, ToldByNetwork}
use Rattle.golden_commands.specs.inside.Stepped.{IsToldText, TellsToldStep, ToldBehind}
use Rattle.golden_commands.specs.Words.{AskForCommand, TellsUnasked}
use Rattle.golden_commands.specs.declared.case.Fed.{Fed}
use Rattle.golden_commands.proofs.FedLemmas.{named, stop-so, text-so}
use Rattle.golden_commands.proofs.PartitionLemmas.{DesignsAgree}
use Rattle.golden_commands.proofs.TextLemmas.{OneRun}

-- ---- bytes

module _ (known : Known) (agree : DesignsAgree) (once : OneRun) (circuit partition trace : List ℕ) (capacity : ℕ) (steps : List ℕ) where
  -- the text of the network that the steps lead to is that of the marking that they lead to
  replayed-so : (text : List ℕ) → IsSteppedText known circuit partition trace capacity steps text → IsReplayed known circuit partition trace capacity steps text
  replayed-so text told =
      let fed = told.fed in
      text-so known circuit partition trace capacity fed told.means agree once steps text
      (subst (λ (x : Naming). IsNetText fed (fed_flow known.models fed) (steps_of x steps) text) (named known circuit partition trace capacity fed told.means) told.is)

  -- what is reported for a step of the network is reported for the steps
  refused-so : (said : Said) → TellsRefusedStep known circuit partition trace capacity steps said → TellsSteps known circuit partition trace capacity steps said
  refused-so said told =
      let fed = told.fed in
      stop-so known circuit partition trace capacity fed told.means agree once steps said
      (subst (λ (x : Naming). TellsStop fed (fed_flow known.models fed) x (steps_of x steps) said) (named known circuit partition trace capacity fed told.means) told.tells)

  told-text : (text : List ℕ) → IsSteppedText known circuit partition trace capacity steps text → IsToldText known circuit partition trace capacity steps text
  told-text text told =
      let own = replayed-so text told in
      record {
        of_steps = own;
        of_network = record { is = told; only = λ other also. own.1.only other (replayed-so other also).1.is };
      }

  told-step : (said : Said) → TellsRefusedStep known circuit partition trace capacity steps said → TellsToldStep known circuit partition trace capacity steps said
  told-step said told = record { of_steps = refused-so said told; of_network = told }

  -- how the steps have ended
  pub steps-told : {T : Type 0} {out : Puts} {r : Result T Ending} (fed : Fed) (naming : Naming) (events : List (Option Event))
      → IsFed known circuit partition trace capacity fed → naming ≡ case_naming fed.case → events ≡ steps_of naming steps
      → PrintsOrStops out (IsNetText fed (fed_flow known.models fed) events) (TellsStop fed (fed_flow known.models fed) naming events) r
      → PrintsOrStops out (IsToldText known circuit partition trace capacity steps) (TellsToldStep known circuit partition trace capacity steps) r
  steps-told {out = out} {r = r} fed naming events is own spelt judged =
      judged-map
      (λ text goes. told-text text (record { fed = fed; means = is; is = goes }))
      (λ said stops. told-step said (record { fed = fed; means = is; tells = stops }))
      (subst (λ (x : Naming). PrintsOrStops out (IsNetText fed (fed_flow known.models fed) (steps_of x steps)) (TellsStop fed (fed_flow known.models fed) x (steps_of x steps)) r) own
      (subst (λ (x : List (Option Event)). PrintsOrStops out (IsNetText fed (fed_flow known.models fed) x) (TellsStop fed (fed_flow known.models fed) naming x) r) spelt judged))

-- ---- other statuses

-- A status that tells nothing of steps.
pub record IsOther (status : ℕ) : Type 0 where
  pub unwritten : status ≢ 0
  pub unstopped : status ≢ 9

-- the status of a report that has another one
other-of : {said : Said} (of : Said) → said ≡ of → IsOther of.status → IsOther said.status
other-of of is other = subst (λ (s : Said). IsOther s.status) (sym is) other

-- a load that failed, or was cut
other-3 : IsOther 3
other-3 = record { unwritten = λ e. omega (arith, e); unstopped = λ e. omega (arith, e) }

other-8 : IsOther 8
other-8 = record { unwritten = λ e. omega (arith, e); unstopped = λ e. omega (arith, e) }

-- want of memory, and a put that failed
other-5 : IsOther 5
other-5 = record { unwritten = λ e. omega (arith, e); unstopped = λ e. omega (arith, e) }

other-4 : IsOther 4
other-4 = record { unwritten = λ e. omega (arith, e); unstopped = λ e. omega (arith, e) }

-- a file that can't be loaded, or is too long
pub load-other : {lost cut over : Type 0} {said : Said} (name : List ℕ) (limit : ℕ) → (lost × (said ≡ cannot_load name)) ⊎ (cut × over × (said ≡ is_over name limit)) → IsOther said.status
load-other name limit (inl h) = other-of (cannot_load name) h.1 other-3
load-other name limit (inr h) = other-of (is_over name limit) h.2 other-8

file-other : (files : List ℕ → Told) (lost cut : List ℕ → Type 0) (file : File) (said : Said) → ((bytes : List ℕ) → file.refuses bytes said → IsOther said.status) → IsRefused files lost cut file said → IsOther said.status
file-other files lost cut file said judged (inl h) = load-other file.name file.limit h
file-other files lost cut file said judged (inr h) = judged h.0 h.2

circuit-other : (said : Said) (bytes : List ℕ) → TellsCircuit bytes said → IsOther said.status
circuit-other said bytes (fault, has, some, is) = other-of (circuit_fault _) is (record { unwritten = λ e. omega (arith, e); unstopped = λ e. omega (arith, e) })

partition-other : (known : Known) (circuit : List ℕ) (said : Said) (bytes : List ℕ) → TellsPartitionFor known circuit bytes said → IsOther said.status
partition-other known circuit said bytes (design, means, (text, has, is)) = other-of (partition_fault text) is (record { unwritten = λ e. omega (arith, e); unstopped = λ e. omega (arith, e) })

trace-other : (circuit partition : List ℕ) (said : Said) (bytes : List ℕ) → TellsTraceFor circuit partition bytes said → IsOther said.status
trace-other circuit partition said bytes (flat, means, (request, is, (fault, first, own))) = other-of (trace_fault _) own (record { unwritten = λ e. omega (arith, e); unstopped = λ e. omega (arith, e) })

-- the first three files of a command
pub files-other : (known : Known) (loads : Loads) (asked : Asked) (trace : List ℕ) (said : Said) → StopsBy loads (trace_order known asked trace) said → IsOther said.status
files-other known loads asked trace said (inl h) = file-other loads.files loads.lost loads.cut (circuit_file asked.circuit) said (circuit-other said) h
files-other known loads asked trace said (inr (c, can, accepts, inl h)) =
    file-other loads.files loads.lost loads.cut (partition_file_for known c asked.partition) said (partition-other known c said) h
files-other known loads asked trace said (inr (c, can, accepts, inr (p, can', accepts', inl h))) =
    file-other loads.files loads.lost loads.cut (trace_file_for c p trace) said (trace-other c p said) h
files-other known loads asked trace said (inr (c, can, accepts, inr (p, can', accepts', inr (t, can'', accepts'', h)))) = absurd h

-- words that ask for a command aren't refused
pub asked-other : {words : List (List ℕ)} {command : Cmd} (ending : Ending) → IsCommand words command → IfRefused (λ said. (¬ AskForCommand words) × TellsUnasked words said) ending → IsOther (said_of ending).status
asked-other {command = command} (Refused said) asks refused = absurd (refused.0 (command, asks))
asked-other Unwritten asks refused = absurd refused
asked-other NoMemory asks refused = other-5

-- how a command that was refused has ended
pub ended-other : {P : Said → Type 0} (ending : Ending) → ((said : Said) → P said → IsOther said.status) → IfRefused P ending → IsOther (said_of ending).status
ended-other (Refused said) other refused = other said refused
ended-other Unwritten other refused = absurd refused
ended-other NoMemory other refused = other-5

-- what returns this ending reports it
pub by-ending : {T : Type 0} {r : Result T Ending} {ending : Ending} → r ≡ Err ending → IsOther (said_of ending).status → IsOther (said_by r).status
by-ending {T = T} is other = subst (λ (r : Result T Ending). IsOther (said_by r).status) (sym is) other

-- ---- behind the bytes of the first three files

module _ {known : Known} {files : List ℕ → Told} {out : Puts} {circuit partition trace : List ℕ} {capacity : ℕ} {steps : List ℕ} where
  pub untold-behind : {said : Said} → IsOther said.status → ToldBehind known files out circuit partition trace capacity steps said
  untold-behind other = record { wrote = λ e. absurd (other.unwritten e); refused = λ e. absurd (other.unstopped e) }

  module _ (bytes : List ℕ) (can : CanBe files (steps_file_for known circuit partition trace capacity steps) bytes) where
    -- a text was printed, or its printing stopped
    printed-behind : {T : Type 0} (text : List ℕ) (r : Result T Ending) → IsToldText known circuit partition trace capacity bytes text → Prints out.before out.after out.failed text r
        → ToldBehind known files out circuit partition trace capacity steps (said_by r)
    printed-behind text (Ok done) told prints =
        record {
          wrote = λ e. record { steps_bytes = bytes; at_steps = can; text = text; written = prints; of_steps = told.of_steps.1; of_network = told.of_network };
          refused = λ e. absurd (omega (arith, e));
        }
    printed-behind text (Err (Refused said)) told prints = absurd prints
    printed-behind text (Err Unwritten) told prints = untold-behind other-4
    printed-behind text (Err NoMemory) told prints = untold-behind other-5

    -- a step was refused
    refused-behind : (ending : Ending) → IfRefused (TellsToldStep known circuit partition trace capacity bytes) ending → ToldBehind known files out circuit partition trace capacity steps (said_of ending)
    refused-behind (Refused said) tells =
        record {
          wrote = λ e. absurd (stopped-9 e);
          refused = λ e. record { steps_bytes = bytes; at_steps = can; of_network = tells.of_network };
        }
      where
        stopped-9 : said.status ≡ 0 → ⊥
        stopped-9 e = let is = ap (λ (s : Said). s.status) tells.of_network.tells.is in omega (arith, e, is)
    refused-behind Unwritten tells = absurd tells
    refused-behind NoMemory tells = untold-behind other-5

    pub steps-behind : {T : Type 0} {r : Result T Ending} → PrintsOrStops out (IsToldText known circuit partition trace capacity bytes) (TellsToldStep known circuit partition trace capacity bytes) r
        → ToldBehind known files out circuit partition trace capacity steps (said_by r)
    steps-behind {r = r} (PrintsText text is prints) = printed-behind text r is prints
    steps-behind {T = T} (Stops ending ends says none) = subst (λ (r : Result T Ending). ToldBehind known files out circuit partition trace capacity steps (said_by r)) (sym ends) (refused-behind ending says)
    steps-behind (Wants ends none) = untold-behind (by-ending ends other-5)

-- ---- the command

-- what reads the first three files, and then does the steps
pub read-told : {known : Known} {files rest : List ℕ → Told} {out : Puts} {circuit partition trace steps : List ℕ} {capacity : ℕ} {fed : Fed} {said : Said}
    → rest ≡ files → (read : FedRead known files (asking circuit partition capacity) trace fed)
    → ToldBehind known rest out read.read.circuit read.read.partition read.bytes capacity steps said
    → ToldByNetwork known files out circuit partition trace steps capacity said
read-told {known = known} {files = files} {out = out} {steps = steps} {capacity = capacity} {said = said} same read behind =
    let told = subst (λ (f : List ℕ → Told). ToldBehind known f out read.read.circuit read.read.partition read.bytes capacity steps said) same behind in
    record {
      wrote = λ e. record { circuit_bytes = read.read.circuit; partition_bytes = read.read.partition; trace_bytes = read.bytes; at_circuit = read.read.at_circuit; at_partition = read.read.at_partition; at_trace = read.at_trace; holds = told.wrote e };
      refused = λ e. record { circuit_bytes = read.read.circuit; partition_bytes = read.read.partition; trace_bytes = read.bytes; at_circuit = read.read.at_circuit; at_partition = read.read.at_partition; at_trace = read.at_trace; holds = told.refused e };
    }

-- what ends with another status
pub untold : {known : Known} {files : List ℕ → Told} {out : Puts} {circuit partition trace steps : List ℕ} {capacity : ℕ} {said : Said} → IsOther said.status
    → ToldByNetwork known files out circuit partition trace steps capacity said
untold other = record { wrote = λ e. absurd (other.unwritten e); refused = λ e. absurd (other.unstopped e) }

-- a call that wants memory
pub wants-other : {T : Type 0} {r : Result T Ending} → r ≡ Err NoMemory → IsOther (said_by r).status
wants-other is = by-ending is other-5

-- what a call reported
pub told-reported : {known : Known} {files : List ℕ → Told} {out err : Puts} {circuit partition trace steps : List ℕ} {capacity status : ℕ} (said : Said) → status ≡ said.status → Reports err said.line
    → ToldByNetwork known files out circuit partition trace steps capacity said
    → (said : Said) × Tells err status said × ToldByNetwork known files out circuit partition trace steps capacity said
told-reported said is reported told = (said, record { is = is; reported = reported }, told)
