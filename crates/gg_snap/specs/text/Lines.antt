-- The lines of a snapshot.
-- Source: this program's own.
use Rattle.std.specs.Prelude.{ℕ, ◌++◌, List, [], ◌∷◌, ◌==◌, if◌then◌else◌, codes, decimal}
use Rattle.std.specs.List.{concat, flat_map, range_with_len}
use Rattle.gg_flat.specs.Line.{value_at}
use Rattle.gg_flat.specs.Memory.{bank_at}
use Rattle.gg_flat.specs.State.{State}
use Rattle.gg_trace.specs.Printing.{hex_digits, digit_count}
use Rattle.gg_snap.specs.declared.text.row.At.{At}
use Rattle.gg_snap.specs.declared.text.row.At.TheVariants.{Register, Read, Words}
use Rattle.gg_snap.specs.declared.text.row.Kind.{Kind}
use Rattle.gg_snap.specs.declared.text.row.Kind.TheVariants as kind
use Rattle.gg_snap.specs.declared.text.row.Row.{Row}

-- the word of a kind, with a blank after it
abbrev pub kind_word : Kind → List ℕ
kind_word kind.Register = codes "reg "
kind_word kind.Read = codes "read "
kind_word kind.Pipe = codes "pipe "
kind_word kind.Memory = codes "mem "

-- the value of a row at an address. Only a memory has several addresses.
abbrev pub value_of : State → At → ℕ → ℕ
value_of state (Register r) address = value_at state.registers r
value_of state (Read m r) address = value_at (bank_at state.banks m).reads r
value_of state (Words m) address = value_at (bank_at state.banks m).words address

-- the address as it is written in a line, with a blank after it; only for a memory
abbrev pub address_text : At → ℕ → List ℕ
address_text (Register r) address = []
address_text (Read m r) address = []
address_text (Words m) address = decimal address ++ 32 ∷ []

-- the first part of a row's lines: the word of its kind and its path, each with a blank after it
abbrev pub head_of : Row → List ℕ
head_of row = kind_word row.kind ++ (row.path ++ 32 ∷ [])

-- the rest of a line: the address, the value in its width, and a line feed
abbrev pub tail_of : Row → (address value : ℕ) → List ℕ
tail_of row address value = address_text row.at address ++ (hex_digits (digit_count row.width) value ++ 10 ∷ [])

-- the line of a value: the head of its row, and then the address and the value
abbrev pub line_of : Row → (address value : ℕ) → List ℕ
line_of row address value = head_of row ++ tail_of row address value

-- the line of a value that isn't 0
abbrev pub shown : Row → (address value : ℕ) → List (List ℕ)
shown row address value = if value == 0 then [] else line_of row address value ∷ []

-- the lines of a row, by address; a value 0 has none
abbrev pub row_lines : State → Row → List (List ℕ)
row_lines state row = flat_map (λ address. shown row address (value_of state row.at address)) (range_with_len 0 row.count)

-- the lines of these rows, one row after another
abbrev pub value_lines : State → List Row → List (List ℕ)
value_lines state rows = flat_map (row_lines state) rows

-- the first line of a snapshot
abbrev pub first_line : List ℕ
first_line = codes "golden snapshot 1" ++ 10 ∷ []

-- the second line: `cycle` and the number of the cycle
abbrev pub cycle_line : ℕ → List ℕ
cycle_line cycle = codes "cycle " ++ (decimal cycle ++ 10 ∷ [])

-- all lines of a snapshot: the first, the cycle, and a line for each value other than 0
abbrev pub snap_lines : List Row → (cycle : ℕ) → State → List (List ℕ)
snap_lines rows cycle state = first_line ∷ cycle_line cycle ∷ value_lines state rows

-- the text of a snapshot: its lines, one after another
abbrev pub snap_text : List Row → (cycle : ℕ) → State → List ℕ
snap_text rows cycle state = concat (snap_lines rows cycle state)
