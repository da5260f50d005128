-- Why a trace is refused.
use Rattle.std.proofs.Common.{◌≡◌, ◌≢◌, ℕ, List, refl, sym, subst, inl, inr}
use Rattle.gg_flat.specs.Circuit.{FlatCircuit}
use Rattle.gg_flat.specs.WellFormed.{IsWellFormed}
use Rattle.gg_flat.specs.declared.ports.Port.{Port}
use Rattle.gg_trace.specs.Ports.{HasDistinctNames}
use Rattle.gg_trace.specs.Trace.{Columns, IfFirstFault, IsFirstFault}
use Rattle.gg_trace.specs.declared.faults.TraceFault.{TraceFault}
use Rattle.gg_trace.specs.declared.faults.TraceFault.TheVariants as trace
use Rattle.gg_trace.specs.declared.faults.TraceFault.TheVariants.{Heading, RowNumber, NotHexadecimal, TooWide, FieldCount, TooManyRows}
use Rattle.gg_io.specs.Said.{Said}
use Rattle.gg_io.specs.Ends.{Loads}
use Rattle.gg_io.specs.Order.{CanBe, IsRefused}
use Rattle.golden_commands.specs.Run.{trace_file_for}
use Rattle.golden_commands.specs.inside.Run.{trace_file_of}
use Rattle.gg_front.specs.Meaning.{Means}
use Rattle.gg_io.specs.Told.{Told}
use Rattle.gg_partfile.specs.Partition.{IsPartition}
use Rattle.gg_partfile.specs.declared.request.Request.{Request}
use Rattle.golden_commands.specs.RunText.{Feeds, fed_ports}
use Rattle.golden_commands.proofs.WholePortLemmas.{fed-distinct}

-- a fault that isn't `NoMemory` is the trace's first
pub first-of : (ports : List Port) (bytes : List ℕ) (fault : TraceFault) → fault ≢ trace.NoMemory → IfFirstFault ports bytes fault → IsFirstFault ports bytes fault
first-of ports bytes (Heading f) some h = h
first-of ports bytes (RowNumber r) some h = h
first-of ports bytes (NotHexadecimal r f) some h = h
first-of ports bytes (TooWide r f) some h = h
first-of ports bytes (FieldCount r c) some h = h
first-of ports bytes (TooManyRows r) some h = h
first-of ports bytes trace.NoMemory some h = absurd (some refl)

-- the first fault of a trace for the ports that were made is the first for the inputs that no bridge drives
pub fault-of : (circuit : FlatCircuit) (request : Request) (ports : List Port) (bytes slice : List ℕ) (fault : TraceFault) → ports ≡ fed_ports circuit request → slice ≡ bytes
    → fault ≢ trace.NoMemory → IfFirstFault ports slice fault → IsFirstFault (fed_ports circuit request) bytes fault
fault-of circuit request ports bytes slice fault e f some h =
    subst (λ (p : List Port). IsFirstFault p bytes fault) e (subst (λ (b : List ℕ). IsFirstFault ports b fault) f (first-of ports slice fault some h))

-- their names differ
pub ports-distinct : (circuit : FlatCircuit) (request : Request) (ports : List Port) → ports ≡ fed_ports circuit request → IsWellFormed circuit → HasDistinctNames ports
ports-distinct circuit request ports e formed = subst (λ (p : List Port). HasDistinctNames p) (sym e) (fed-distinct circuit request formed)

-- what the trace gives these inputs is what it gives the ports that were made
pub feeds-ports : (circuit : FlatCircuit) (request : Request) (ports : List Port) (bytes slice : List ℕ) → ports ≡ fed_ports circuit request → slice ≡ bytes
    → (n : ℕ) (columns : List (List ℕ)) → Feeds circuit request bytes n columns → Columns ports slice n columns
feeds-ports circuit request ports bytes slice e f n columns feeds =
    subst (λ (p : List Port). Columns p slice n columns) (sym e) (subst (λ (b : List ℕ). Columns (fed_ports circuit request) b n columns) (sym f) feeds)

-- and the other way round
pub ports-feed : (circuit : FlatCircuit) (request : Request) (ports : List Port) (bytes slice : List ℕ) → ports ≡ fed_ports circuit request → slice ≡ bytes
    → (n : ℕ) (columns : List (List ℕ)) → Columns ports slice n columns → Feeds circuit request bytes n columns
ports-feed circuit request ports bytes slice e f n columns cols =
    subst (λ (p : List Port). Columns p bytes n columns) e (subst (λ (b : List ℕ). Columns ports b n columns) f cols)

-- what can be a trace's file for a flat circuit and a request can be one for some bytes
pub trace-can : {files : List ℕ → Told} {circuit partition : List ℕ} {name bytes : List ℕ} (flat : FlatCircuit) (request : Request) → CanBe files (trace_file_of flat request name) bytes → CanBe files (trace_file_for circuit partition name) bytes
trace-can flat request can = record { held = can.held; within = can.within }

-- a trace that is refused for a flat circuit and a request that some bytes mean is refused for these bytes
pub trace-refused : (loads : Loads) {circuit partition : List ℕ} {flat : FlatCircuit} {request : Request} {name : List ℕ} → Means circuit flat → IsPartition partition request
    → (said : Said) → IsRefused loads.files loads.lost loads.cut (trace_file_of flat request name) said → IsRefused loads.files loads.lost loads.cut (trace_file_for circuit partition name) said
trace-refused loads means asks said (inl load) = inl load
trace-refused loads {flat = flat} {request = request} means asks said (inr (bytes, can, tells)) = inr (bytes, trace-can flat request can, (flat, means, (request, asks, tells)))
