-- Marks on signals.
use Rattle.std.specs.Prelude.{ℕ, List, Bool, false, slice_index_or}

-- whether a signal is marked; past the end it isn't
abbrev pub is_marked : List Bool → ℕ → Bool
is_marked marks s = slice_index_or marks s false
