-- What a call reports if it doesn't write its whole text: its status, and a line on the error output.
-- Source: this program's own. docs/FORMATS.md lists the lines.
use Rattle.std.specs.Prelude.{ℕ, List, [], ◌∷◌, ◌++◌, codes, decimal}

-- what is reported: a status and a line
pub record Said : Type 0 where
  pub status : ℕ
  pub line : List ℕ

-- a text with the line feed that ends a line
abbrev pub line_of : List ℕ → List ℕ
line_of text = text ++ 10 ∷ []

-- the whole text was written
abbrev pub nothing : Said
nothing = record { status = 0; line = [] }

-- the file with this name can't be loaded
abbrev pub cannot_load : List ℕ → Said
cannot_load name = record { status = 3; line = line_of (codes "golden: cannot load " ++ name) }

-- the file with this name has more bytes than this limit
abbrev pub is_over : List ℕ → ℕ → Said
is_over name limit = record { status = 8; line = line_of (codes "golden: " ++ name ++ (codes " is over " ++ decimal limit ++ codes " bytes")) }

-- the output can't be written
abbrev pub cannot_write : Said
cannot_write = record { status = 4; line = line_of (codes "golden: cannot write") }

-- an allocation failed
abbrev pub out_of_memory : Said
out_of_memory = record { status = 5; line = line_of (codes "golden: out of memory") }
