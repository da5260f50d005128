-- More on Ports: what no promise of the program reaches.
use Rattle.std.specs.Prelude.{◌≢◌, ℕ, ◌<◌, List, length}
use Rattle.gg_flat.specs.declared.ports.Port.{Port}
use Rattle.gg_trace.specs.Ports.{name_at}

-- no port has this name
abbrev pub NamesNone : List Port → List ℕ → Type 0
NamesNone ports name = (i : ℕ) → i < length ports → name_at ports i ≢ name
