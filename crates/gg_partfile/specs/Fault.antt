-- What is wrong with a partition file: the key that is reported.
-- Source: this program's own form; docs/FORMATS.md describes it.
use Rattle.std.specs.Prelude.{◌≡◌, ℕ, List, ◌++◌, if◌then◌else◌, Option, Some, None, is_some, codes, ◌⊎◌}
use Rattle.std.specs.Str.{IsUtf8}
use Rattle.gg_bits.specs.Lists.{or_else}
use Rattle.serde_json.specs.Data.{Data}
use Rattle.serde_json.specs.Find.{as_object}
use Rattle.serde_json.specs.Read.{read}
use Rattle.gg_partfile.specs.Keys.{keys, misshapen, unknown}
use Rattle.gg_partfile.specs.declared.fault.PartFault.{PartFault}
use Rattle.gg_partfile.specs.declared.fault.PartFault.TheVariants.{WrongKey, NoMemory}

-- what the fault says, if it has a key
abbrev pub IfKey : (List ℕ → Type 0) → PartFault → Type 0
IfKey P (WrongKey key) = P key
IfKey P NoMemory = Unit {0}

-- a fault: its code P1, and the key that is reported
abbrev pub fault_text : PartFault → List ℕ
fault_text (WrongKey key) = codes "P1 " ++ key
fault_text NoMemory = codes "out of memory"

-- the first key with a value of a wrong shape, otherwise the least unknown key
abbrev pub first_wrong : Data → Option (List ℕ)
first_wrong d = or_else (misshapen keys d) (unknown d)

-- a value that isn't an object is reported with the key `-`
abbrev pub wrong_key : Data → Option (List ℕ)
wrong_key d = if is_some (as_object d) then first_wrong d else Some (codes "-")

-- The bytes aren't a partition, and this is the key that is reported. Bytes that aren't UTF-8 aren't JSON.
abbrev pub IsRefused : List ℕ → List ℕ → Type 0
IsRefused bytes key = ((IsUtf8 bytes → read bytes ≡ None) × (key ≡ codes "-")) ⊎ ((d : Data) × IsUtf8 bytes × (read bytes ≡ Some d) × (wrong_key d ≡ Some key))
