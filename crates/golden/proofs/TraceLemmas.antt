-- A trace has at most one first fault, whichever circuit and request the first two files' bytes are taken to mean.
use Rattle.std.proofs.Common.{◌≡◌, ℕ, List, refl, sym, ap, ◌∙◌, subst, inl, inr}
use Rattle.gg_flat.specs.declared.ports.Port.{Port}
use Rattle.gg_flat.specs.Circuit.{FlatCircuit}
use Rattle.gg_partfile.proofs.OnceLemmas.{request-once}
use Rattle.gg_partfile.specs.declared.request.Request.{Request}
use Rattle.gg_trace.specs.FaultText.{fault_words}
use Rattle.gg_trace.specs.Trace.{Columns, IsFirstFault}
use Rattle.gg_trace.specs.declared.faults.TraceFault.{TraceFault}
use Rattle.gg_io.specs.Said.{Said}
use Rattle.golden_commands.specs.Lines.{trace_fault}
use Rattle.gg_io.specs.Order.{IsExactFile, IsUniqueFile}
use Rattle.golden_commands.specs.Run.{trace_file_for, IsTraceFor, TellsTraceFor}
use Rattle.golden_commands.specs.RunText.{fed_ports}
use Rattle.gg_io.proofs.OrderLemmas.{exact-by}
use Rattle.golden_commands.proofs.TextLemmas.{OneFlat}

-- a trace has at most one first fault
abbrev pub OneFirstFault : Type 0
OneFirstFault = (ports : List Port) (bytes : List ℕ) (one other : TraceFault) → IsFirstFault ports bytes one → IsFirstFault ports bytes other → one ≡ other

-- a trace with columns has no first fault
abbrev pub NoFault : Type 0
NoFault = (ports : List Port) (bytes : List ℕ) (n : ℕ) (columns : List (List ℕ)) (fault : TraceFault) → Columns ports bytes n columns → IsFirstFault ports bytes fault → ⊥

-- a fault for the ports of one circuit and of one request is one for those of others that are the same
pub fault-moved : (one other : FlatCircuit) (request requested : Request) → one ≡ other → request ≡ requested → (bytes : List ℕ) (fault : TraceFault) → IsFirstFault (fed_ports one request) bytes fault → IsFirstFault (fed_ports other requested) bytes fault
fault-moved one other request requested e r bytes fault first =
    subst (λ (flat : FlatCircuit). IsFirstFault (fed_ports flat requested) bytes fault) e (subst (λ (q : Request). IsFirstFault (fed_ports one q) bytes fault) r first)

module _ (agree : OneFlat) (once : OneFirstFault) (never : NoFault) (circuit partition : List ℕ) where
  pub trace-apart : (bytes : List ℕ) (said : Said) → IsTraceFor circuit partition bytes → TellsTraceFor circuit partition bytes said → ⊥
  trace-apart bytes said (one, means, (request, asks, (n, columns, feeds))) (other, means', (requested, asked, (fault, first, is))) =
      never (fed_ports one request) bytes n columns fault feeds
      (fault-moved other one requested request (agree circuit other one means' means) (request-once partition requested request asked asks) bytes fault first)

  pub trace-once : (bytes : List ℕ) (said said' : Said) → TellsTraceFor circuit partition bytes said → TellsTraceFor circuit partition bytes said' → said ≡ said'
  trace-once bytes said said' (one, means, (request, asks, (fault, first, is))) (other, means', (requested, asked, (fault', first', is'))) =
      is
      ∙ ap (λ (f : TraceFault). trace_fault (fault_words f))
      (once (fed_ports other requested) bytes fault fault' (fault-moved one other request requested (agree circuit one other means means') (request-once partition request requested asks asked) bytes fault first) first')
      ∙ sym is'

  pub trace-status : (bytes : List ℕ) (said : Said) → TellsTraceFor circuit partition bytes said → said.status ≡ 7
  trace-status bytes said (one, means, (request, asks, (fault, first, is))) = ap (λ (s : Said). s.status) is

  -- nothing is reported for a trace without a fault, and all that is reported for others has the status 7
  pub trace_file-exact : (name : List ℕ) → IsExactFile (trace_file_for circuit partition name)
  trace_file-exact name = exact-by 7 (inr (inr (inl refl))) trace-apart trace-status

  -- at most one thing is reported for a trace
  pub trace_file-unique : (name : List ℕ) → IsUniqueFile (trace_file_for circuit partition name)
  trace_file-unique name = trace-once
