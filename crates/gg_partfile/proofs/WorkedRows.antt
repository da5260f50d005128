-- Small partition files: what they ask for, and what is wrong with others.
use Rattle.std.proofs.Common.{◌≡◌, ℕ, List, [], ◌∷◌, true, false, true≢false, Option, Some, None, refl, sym, codes}
use Rattle.std.specs.Prelude.{option_and_then}
use Rattle.std.proofs.lemmas.Option.{same_Some}
use Rattle.serde_json.specs.Data.{Data, object, no_members}
use Rattle.serde_json.specs.Find.{as_bool}
use Rattle.serde_json.specs.Read.{read}
use Rattle.serde_json.proofs.OnLiterals.{serde_json_on_literals}
use Rattle.gg_partfile.specs.Fault.{wrong_key}
use Rattle.gg_partfile.specs.Keys.{under}
use Rattle.gg_partfile.specs.Partition.{Asks}
use Rattle.gg_partfile.specs.Request.{no_request}
use Rattle.gg_partfile.specs.Shapes.{texts, groups, numbers, ratios}

-- the key with which a text is refused, if it is
abbrev told_of : Option Data → Option (List ℕ)
told_of None = Some (codes "-")
told_of (Some d) = wrong_key d

abbrev told : List ℕ → Option (List ℕ)
told text = told_of (read text)

empty : told (codes "{}") ≡ None
unfolding serde_json_on_literals
empty = refl

whole : told (codes "{\"units\": [\"a\", \"b.c\"], \"share\": [[\"a\", \"b.c\"], []], \"memories\": [\"b.m\"], \"capacity\": {\"y\": 4, \"x\": 0}}") ≡ None
unfolding serde_json_on_literals
whole = refl

units : option_and_then (under [] texts (codes "units")) (read (codes "{\"units\": [\"a\", \"b.c\"]}")) ≡ Some (codes "a" ∷ codes "b.c" ∷ [])
unfolding serde_json_on_literals
units = refl

share : option_and_then (under [] groups (codes "share")) (read (codes "{\"share\": [[\"a\", \"b\"], []]}")) ≡ Some ((codes "a" ∷ codes "b" ∷ []) ∷ [] ∷ [])
unfolding serde_json_on_literals
share = refl

absent : option_and_then (under [] texts (codes "memories")) (read (codes "{\"units\": []}")) ≡ Some []
unfolding serde_json_on_literals
absent = refl

capacity : option_and_then (under [] numbers (codes "capacity")) (read (codes "{\"capacity\": {\"y\": 4, \"x\": 0}}")) ≡ Some ((codes "x", 0) ∷ (codes "y", 4) ∷ [])
unfolding serde_json_on_literals
capacity = refl

-- the request of an empty object, and no other
asks-nothing : Asks (object no_members) no_request
asks-nothing =
    record { object = refl; units = refl; share = refl; memories = refl; capacity = refl; direct = refl; pipe = refl; clocks = refl; bridges = refl; known = refl }

not-direct : Asks (object no_members) (record no_request { direct = true }) → ⊥
not-direct h = true≢false (sym (same_Some false true h.direct))

-- a key that isn't in the list is unknown, whatever its value
another_key : told (codes "{\"bridge\": [], \"clocks\": {\"c\": [1, 2]}}") ≡ Some (codes "bridge")
unfolding serde_json_on_literals
another_key = refl

direct : option_and_then (under false as_bool (codes "direct")) (read (codes "{\"direct\": true}")) ≡ Some true
unfolding serde_json_on_literals
direct = refl

direct_number : told (codes "{\"direct\":1}") ≡ Some (codes "direct")
unfolding serde_json_on_literals
direct_number = refl

direct_after_capacity : told (codes "{\"direct\": 1, \"capacity\": []}") ≡ Some (codes "capacity")
unfolding serde_json_on_literals
direct_after_capacity = refl

-- names in the order of the file, also one that stands there twice
pipe : option_and_then (under [] texts (codes "pipe")) (read (codes "{\"pipe\": [\"q\", \"a.k\", \"q\"]}")) ≡ Some (codes "q" ∷ codes "a.k" ∷ codes "q" ∷ [])
unfolding serde_json_on_literals
pipe = refl

no_pipe : option_and_then (under [] texts (codes "pipe")) (read (codes "{\"direct\": true}")) ≡ Some []
unfolding serde_json_on_literals
no_pipe = refl

pipe_text : told (codes "{\"pipe\":\"a.k\"}") ≡ Some (codes "pipe")
unfolding serde_json_on_literals
pipe_text = refl

pipe_number : told (codes "{\"pipe\": [\"a.k\", 1], \"zz\": 0}") ≡ Some (codes "pipe")
unfolding serde_json_on_literals
pipe_number = refl

pipe_after_direct : told (codes "{\"pipe\": 1, \"direct\": 1}") ≡ Some (codes "direct")
unfolding serde_json_on_literals
pipe_after_direct = refl

-- ratios by names in the order of their bytes, whatever the numbers
clocks : option_and_then (under [] ratios (codes "clocks")) (read (codes "{\"clocks\": {\"c2\": [4, 3], \"c1\": [0, 65536]}}")) ≡ Some ((codes "c1", (0, 65536)) ∷ (codes "c2", (4, 3)) ∷ [])
unfolding serde_json_on_literals
clocks = refl

no_clocks : option_and_then (under [] ratios (codes "clocks")) (read (codes "{\"pipe\": []}")) ≡ Some []
unfolding serde_json_on_literals
no_clocks = refl

clock_of_one_number : told (codes "{\"clocks\": {\"c\": [1]}}") ≡ Some (codes "clocks")
unfolding serde_json_on_literals
clock_of_one_number = refl

clock_as_a_text : told (codes "{\"clocks\": {\"c\": \"1/2\"}}") ≡ Some (codes "clocks")
unfolding serde_json_on_literals
clock_as_a_text = refl

clocks_after_pipe : told (codes "{\"clocks\": 1, \"pipe\": 1}") ≡ Some (codes "pipe")
unfolding serde_json_on_literals
clocks_after_pipe = refl

no_bridges : told (codes "{\"bridges\": []}") ≡ None
unfolding serde_json_on_literals
no_bridges = refl

bridge_as_a_text : told (codes "{\"bridges\": [\"echo8\"]}") ≡ Some (codes "bridges")
unfolding serde_json_on_literals
bridge_as_a_text = refl

bridges_after_clocks : told (codes "{\"bridges\": 1, \"clocks\": 1}") ≡ Some (codes "clocks")
unfolding serde_json_on_literals
bridges_after_clocks = refl

nothing : told [] ≡ Some (codes "-")
unfolding serde_json_on_literals
nothing = refl

cut_short : told (codes "{\"units\": [") ≡ Some (codes "-")
unfolding serde_json_on_literals
cut_short = refl

no_object : told (codes "[]") ≡ Some (codes "-")
unfolding serde_json_on_literals
no_object = refl

first_wrong_key : told (codes "{\"a\": 0, \"capacity\": [], \"share\": [\"x\"], \"memories\": 1}") ≡ Some (codes "share")
unfolding serde_json_on_literals
first_wrong_key = refl

no_texts : told (codes "{\"units\": [\"a\", 1]}") ≡ Some (codes "units")
unfolding serde_json_on_literals
no_texts = refl

null_key : told (codes "{\"memories\": null}") ≡ Some (codes "memories")
unfolding serde_json_on_literals
null_key = refl

least_unknown_key : told (codes "{\"zone\": 0, \"Units\": [], \"units\": []}") ≡ Some (codes "Units")
unfolding serde_json_on_literals
least_unknown_key = refl

last_stands : told (codes "{\"units\": 1, \"units\": [\"a\"]}") ≡ None
unfolding serde_json_on_literals
last_stands = refl

last_is_wrong : told (codes "{\"units\": [\"a\"], \"units\": 1}") ≡ Some (codes "units")
unfolding serde_json_on_literals
last_is_wrong = refl

largest : told (codes "{\"capacity\": {\"x\": 18446744073709551615}}") ≡ None
unfolding serde_json_on_literals
largest = refl

too_large : told (codes "{\"capacity\": {\"x\": 18446744073709551616}}") ≡ Some (codes "capacity")
unfolding serde_json_on_literals
too_large = refl

below_zero : told (codes "{\"capacity\": {\"x\": -1}}") ≡ Some (codes "capacity")
unfolding serde_json_on_literals
below_zero = refl

minus_zero : told (codes "{\"capacity\": {\"x\": -0}}") ≡ Some (codes "capacity")
unfolding serde_json_on_literals
minus_zero = refl

with_a_point : told (codes "{\"capacity\": {\"x\": 1.0}}") ≡ Some (codes "capacity")
unfolding serde_json_on_literals
with_a_point = refl

with_an_exponent : told (codes "{\"capacity\": {\"x\": 1e0}}") ≡ Some (codes "capacity")
unfolding serde_json_on_literals
with_an_exponent = refl
