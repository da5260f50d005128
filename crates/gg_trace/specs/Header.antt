-- The header of a trace.
-- Source: this program's own form; docs/FORMATS.md describes it.
use Rattle.std.specs.Prelude.{◌≡◌, ◌≢◌, ℕ, ◌<◌, zero, suc, codes, List, [], length, slice_index_or, ◌⊎◌}
use Rattle.gg_flat.specs.declared.ports.Port.{Port}
use Rattle.gg_trace.specs.Ports.{name_at, IsNamed}

-- field f of a line, or the empty text if it has no such field
abbrev pub field : List (List ℕ) → ℕ → List ℕ
field line f = slice_index_or line f []

-- field f of the header is a port's name, and no field between the first and this one is the same name
pub record IsNewName (ports : List Port) (header : List (List ℕ)) (f : ℕ) : Type 0 where
  pub port : ℕ
  pub is : IsNamed ports (field header f) port
  pub new : (g : ℕ) → 0 < g → g < f → field header g ≢ field header f

-- field f is valid at its position in a header: the first is `cycle`, and each further one is a port's name that is new
abbrev pub MayStand : List Port → List (List ℕ) → ℕ → Type 0
MayStand ports header zero = field header 0 ≡ codes "cycle"
MayStand ports header (suc f) = IsNewName ports header (suc f)

-- port i is named in the header, after the first field
pub record IsListed (ports : List Port) (header : List (List ℕ)) (i : ℕ) : Type 0 where
  pub at : ℕ
  pub behind : 0 < at
  pub within : at < length header
  pub is : field header at ≡ name_at ports i

-- A header: `cycle` and the names of all ports, each once, in any order.
pub record IsHeader (ports : List Port) (header : List (List ℕ)) : Type 0 where
  pub begins : 0 < length header
  pub each : (f : ℕ) → f < length header → MayStand ports header f
  pub all : (i : ℕ) → i < length ports → IsListed ports header i

-- Field f is the first that is invalid at its position in the header; or each field is valid, names are missing, and f
-- is the count of fields.
pub record HasHeaderFault (ports : List Port) (header : List (List ℕ)) (f : ℕ) : Type 0 where
  pub before : (g : ℕ) → g < f → MayStand ports header g
  pub here : ((f < length header) × ¬ MayStand ports header f) ⊎ ((f ≡ length header) × ¬ IsHeader ports header)
