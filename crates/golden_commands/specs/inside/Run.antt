-- More on Run: definitions that no promise of the program reaches.
-- Source: this program's own, by the crates that define circuits, traces and runs.
use Rattle.std.specs.Prelude.{ℕ, List}
use Rattle.gg_flat.specs.Circuit.{FlatCircuit}
use Rattle.gg_partfile.specs.declared.request.Request.{Request}
use Rattle.gg_io.specs.Order.{File}
use Rattle.golden_commands.specs.RunText.{IsTraceOf}
use Rattle.golden_commands.specs.Run.{TellsTraceOf, trace_file}

-- the file of a trace of a circuit's inputs that no bridge drives
abbrev pub trace_file_of : (flat : FlatCircuit) (request : Request) (name : List ℕ) → File
trace_file_of flat request name = trace_file name (IsTraceOf flat request) (TellsTraceOf flat request)
