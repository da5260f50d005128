-- Whether a bridge can be handed in together with others.
-- Source: none; the form of a name and the limit are this program's own.
use Rattle.std.specs.Prelude.{ℕ, ◌+◌, Bool, not, ◌&&◌, ◌==◌, if◌then◌else◌, List, length, map, sum, Option, Some, None, bytes_eq, nat_lt}
use Rattle.std.specs.List.{list_all, list_any}
use Rattle.gg_flat.specs.Circuit.{FlatCircuit}
use Rattle.golden_commands.specs.Handed.{is_word_byte, most_signals}
use Rattle.golden_commands.specs.declared.bridges.HandFault.{HandFault}
use Rattle.golden_commands.specs.declared.bridges.HandFault.TheVariants.{Name, Taken, TooLarge, NoMemory}

-- the name has an ASCII letter, a digit or `_`, and no other byte
abbrev pub has_name : List ℕ → Bool
has_name name = not (length name == 0) && list_all is_word_byte name

-- one of these bridges has the name
abbrev pub is_taken : {B : Type 0} → List (List ℕ × B) → List ℕ → Bool
is_taken bridges name = list_any (λ pair. bytes_eq pair.0 name) bridges

-- how many signals the models of these bridges have
abbrev pub signals_of : {B : Type 0} → (piece : B → FlatCircuit) → List (List ℕ × B) → ℕ
signals_of piece bridges = sum (map (λ pair. length (piece pair.1).signals) bridges)

-- the first reason why a bridge of this name can't be handed in together with these
abbrev pub hand_fault : {B : Type 0} → (piece : B → FlatCircuit) → List (List ℕ × B) → List ℕ → B → Option HandFault
hand_fault piece bridges name bridge =
    if not (has_name name) then Some Name
    else if is_taken bridges name then Some Taken
    else if nat_lt most_signals (signals_of piece bridges + length (piece bridge).signals) then Some TooLarge
    else None

-- which reason an error says: none if memory has run out
abbrev pub said_by : HandFault → Option HandFault
said_by Name = Some Name
said_by Taken = Some Taken
said_by TooLarge = Some TooLarge
said_by NoMemory = None
