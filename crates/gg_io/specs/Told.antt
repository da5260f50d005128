-- What is known of the file of one name.
-- Source: this program's own.
use Rattle.std.specs.Prelude.{◌≡◌, ℕ, ◌<◌, List, length, ⊤}

-- the file's contents are unknown; there is no such file; the file has these bytes
pub data Told : Type 0 where
  Untold : Told
  Missing : Told
  Holds : (bytes : List ℕ) → Told

-- a load may return these bytes: any if the contents are unknown, none if the file is missing, otherwise the file's own
abbrev pub CanHold : Told → List ℕ → Type 0
CanHold Untold bytes = ⊤
CanHold Missing bytes = ⊥
CanHold (Holds held) bytes = bytes ≡ held

-- a load may find more bytes than the limit: if the contents are unknown, or longer than the limit
abbrev pub CanBeOver : Told → ℕ → Type 0
CanBeOver Untold limit = ⊤
CanBeOver Missing limit = ⊥
CanBeOver (Holds held) limit = limit < length held
