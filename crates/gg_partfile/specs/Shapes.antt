-- The shapes that the values in a partition file have. What is read of a value of another shape is `None`. Which texts
-- are JSON (RFC 8259), and their values, is defined by serde_json's `read`. If a key occurs twice, its last value counts.
-- A whole number is one that `read` gives as an unsigned number of 64 bits.
use Rattle.std.specs.Prelude.{ℕ, List, [], ◌∷◌, Bool, if◌then◌else◌, Option, Some, None, option_map, option_and_then, is_some, codes, bytes_eq}
use Rattle.std.specs.List.{list_any}
use Rattle.serde_json.specs.Data.{Data, Items, no_items, item, Members, no_members, member}
use Rattle.serde_json.specs.Find.{get, as_str, as_number, as_u64, as_array, as_object}
use Rattle.gg_partfile.specs.declared.request.BridgeEntry.{BridgeEntry}

-- ---- lists

-- what f reads of each item, if it reads every item
abbrev pub each : {A : Type 0} → (Data → Option A) → Items → Option (List A)
each f no_items = Some []
each f (item d ds) = option_and_then (λ a. option_map (λ rest. a ∷ rest) (each f ds)) (f d)

-- what f reads of each item of a list; nothing of a value that isn't a list
abbrev pub list : {A : Type 0} → (Data → Option A) → Data → Option (List A)
list f d = option_and_then (each f) (as_array d)

-- a list of texts
abbrev pub texts : Data → Option (List (List ℕ))
texts d = list as_str d

-- a list of lists of texts
abbrev pub groups : Data → Option (List (List (List ℕ)))
groups d = list texts d

-- ---- numbers

-- a whole number from 0 to 2^64 - 1
abbrev pub whole : Data → Option ℕ
whole d = option_and_then as_u64 (as_number d)

-- exactly two whole numbers
abbrev pub two : Items → Option (ℕ × ℕ)
two no_items = None
two (item d no_items) = None
two (item d (item e no_items)) = option_and_then (λ m. option_map (λ n. (m, n)) (whole e)) (whole d)
two (item d (item e (item f rest))) = None

-- a list of exactly two whole numbers
abbrev pub ratio : Data → Option (ℕ × ℕ)
ratio d = option_and_then two (as_array d)

-- ---- objects

-- what f reads of each member, with the member's key, if it reads every member; they are in the order of their keys' bytes
abbrev pub each_member : {A : Type 0} → (Data → Option A) → Members → Option (List (List ℕ × A))
each_member f no_members = Some []
each_member f (member k d ms) = option_and_then (λ a. option_map (λ rest. (k, a) ∷ rest) (each_member f ms)) (f d)

-- what f reads of each member of an object, with the member's key; nothing of a value that isn't an object
abbrev pub named : {A : Type 0} → (Data → Option A) → Data → Option (List (List ℕ × A))
named f d = option_and_then (each_member f) (as_object d)

-- an object of whole numbers
abbrev pub numbers : Data → Option (List (List ℕ × ℕ))
numbers d = named whole d

-- an object of ratios, each under its name
abbrev pub ratios : Data → Option (List (List ℕ × (ℕ × ℕ)))
ratios d = named ratio d

-- whether a name is one of these
abbrev pub is_one_of : List (List ℕ) → List ℕ → Bool
is_one_of names k = list_any (λ name. bytes_eq name k) names

-- the first key of an object that isn't one of these names: members are in the order of their keys' bytes, so it is the least
abbrev pub other_member : List (List ℕ) → Members → Option (List ℕ)
other_member names no_members = None
other_member names (member k d ms) = if is_one_of names k then other_member names ms else Some k

-- the least key of an object that isn't one of these names; none for a value that isn't an object
abbrev pub other_key : List (List ℕ) → Data → Option (List ℕ)
other_key names d = option_and_then (other_member names) (as_object d)

-- ---- bridges

-- what f reads of the value under a key that has to be there
abbrev pub required : {A : Type 0} → (Data → Option A) → List ℕ → Data → Option A
required f key d = option_and_then f (get key d)

-- the keys of an entry of `bridges`; all have to be there
abbrev pub bridge_keys : List (List ℕ)
bridge_keys = codes "name" ∷ codes "sees" ∷ codes "drives" ∷ []

-- an object with exactly a name, a list of ports that the bridge sees, and a list of ports that it drives
abbrev pub bridge : Data → Option BridgeEntry
bridge d =
    if is_some (other_key bridge_keys d) then None
    else option_and_then (λ name. option_and_then (λ sees. option_map (λ drives. record { name = name; sees = sees; drives = drives }) (required texts (codes "drives") d)) (required texts (codes "sees") d)) (required as_str (codes "name") d)

-- a list of entries of bridges
abbrev pub bridges : Data → Option (List BridgeEntry)
bridges d = list bridge d
