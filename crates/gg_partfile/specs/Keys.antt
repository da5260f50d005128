-- The keys of a partition file. Each is optional. A key that isn't listed here is unknown.
-- Source: this program's own form; docs/FORMATS.md describes it.
use Rattle.std.specs.Prelude.{ℕ, List, [], ◌∷◌, Bool, true, if◌then◌else◌, Option, Some, None, is_some, map, codes}
use Rattle.serde_json.specs.Data.{Data}
use Rattle.serde_json.specs.Find.{get, as_bool}
use Rattle.gg_partfile.specs.Shapes.{texts, groups, numbers, ratios, bridges, is_one_of, other_key}

-- a key, and whether a value has its shape
pub record Key : Type 0 where
  pub name : List ℕ
  pub fits : Data → Bool

-- the keys, in the order of their checks
abbrev pub keys : List Key
keys =
    record { name = codes "units"; fits = λ d. is_some (texts d) }
    ∷ record { name = codes "share"; fits = λ d. is_some (groups d) }
    ∷ record { name = codes "memories"; fits = λ d. is_some (texts d) }
    ∷ record { name = codes "capacity"; fits = λ d. is_some (numbers d) }
    ∷ record { name = codes "direct"; fits = λ d. is_some (as_bool d) }
    ∷ record { name = codes "pipe"; fits = λ d. is_some (texts d) }
    ∷ record { name = codes "clocks"; fits = λ d. is_some (ratios d) }
    ∷ record { name = codes "bridges"; fits = λ d. is_some (bridges d) }
    ∷ []

-- the names of all keys, in the same order
abbrev pub key_names : List (List ℕ)
key_names = map (λ (key : Key). key.name) keys

-- whether a name is a key's
abbrev pub is_known : List ℕ → Bool
is_known name = is_one_of key_names name

-- the least unknown key
abbrev pub unknown : Data → Option (List ℕ)
unknown d = other_key key_names d

-- whether a value that is there has a shape
abbrev pub has_shape : (Data → Bool) → Option Data → Bool
has_shape fits None = true
has_shape fits (Some d) = fits d

-- the first of these keys with a value of another shape
abbrev pub misshapen : List Key → Data → Option (List ℕ)
misshapen [] d = None
misshapen (key ∷ rest) d = if has_shape key.fits (get key.name d) then misshapen rest d else Some key.name

-- the value under a known key
abbrev pub held : List ℕ → Data → Option Data
held name d = if is_known name then get name d else None

-- what f reads of the value under a key; `default` if the key is absent or unknown
abbrev pub or_default : {A : Type 0} → A → (Data → Option A) → Option Data → Option A
or_default default f None = Some default
or_default default f (Some d) = f d

-- what f reads of the value under this key; `default` if the key is absent
abbrev pub under : {A : Type 0} → A → (Data → Option A) → List ℕ → Data → Option A
under default f name d = or_default default f (held name d)
