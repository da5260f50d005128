-- Values and their shapes, keys and the values under them, and near misses.
use Rattle.std.proofs.Common.{◌≡◌, ℕ, List, [], ◌∷◌, true, false, Option, Some, None, refl, codes}
use Rattle.std.specs.Prelude.{option_and_then}
use Rattle.serde_json.specs.Data.{Data}
use Rattle.serde_json.specs.Find.{as_bool}
use Rattle.serde_json.specs.Read.{read}
use Rattle.serde_json.proofs.OnLiterals.{serde_json_on_literals}
use Rattle.gg_partfile.specs.Keys.{keys, key_names, misshapen, under}
use Rattle.gg_partfile.specs.Shapes.{texts, ratio, ratios, is_one_of, bridge, bridges}
use Rattle.gg_partfile.specs.declared.request.BridgeEntry.{BridgeEntry}

-- what f reads of the value that a text spells
abbrev of : {A : Type 0} → (Data → Option A) → List ℕ → Option A
of f text = option_and_then f (read text)

-- ---- truth values

truth : of as_bool (codes "true") ≡ Some true
unfolding serde_json_on_literals
truth = refl

no-truth : of as_bool (codes "1") ≡ None
unfolding serde_json_on_literals
no-truth = refl

no-truth-in-words : of as_bool (codes "\"true\"") ≡ None
unfolding serde_json_on_literals
no-truth-in-words = refl

-- ---- ratios

two-thirds : of ratio (codes "[2, 3]") ≡ Some (2, 3)
unfolding serde_json_on_literals
two-thirds = refl

-- whether a ratio is one that a clock may have isn't judged here
above-one : of ratio (codes "[4, 0]") ≡ Some (4, 0)
unfolding serde_json_on_literals
above-one = refl

one-number : of ratio (codes "[2]") ≡ None
unfolding serde_json_on_literals
one-number = refl

three-numbers : of ratio (codes "[2, 3, 4]") ≡ None
unfolding serde_json_on_literals
three-numbers = refl

not-whole : of ratio (codes "[2, 3.0]") ≡ None
unfolding serde_json_on_literals
not-whole = refl

no-list : of ratio (codes "2") ≡ None
unfolding serde_json_on_literals
no-list = refl

-- in the order of the keys' bytes
two-clocks : of ratios (codes "{\"c2\": [2, 3], \"b\": [1, 1]}") ≡ Some ((codes "b", (1, 1)) ∷ (codes "c2", (2, 3)) ∷ [])
unfolding serde_json_on_literals
two-clocks = refl

no-ratio : of ratios (codes "{\"c2\": [2, 3], \"b\": 1}") ≡ None
unfolding serde_json_on_literals
no-ratio = refl

listed-clocks : of ratios (codes "[[2, 3]]") ≡ None
unfolding serde_json_on_literals
listed-clocks = refl

-- ---- bridges

abbrev echo : BridgeEntry
echo = record { name = codes "echo8"; sees = codes "q" ∷ []; drives = codes "x" ∷ [] }

one-bridge : of bridge (codes "{\"sees\": [\"q\"], \"drives\": [\"x\"], \"name\": \"echo8\"}") ≡ Some echo
unfolding serde_json_on_literals
one-bridge = refl

without-ports : of bridge (codes "{\"name\": \"echo8\", \"sees\": []}") ≡ None
unfolding serde_json_on_literals
without-ports = refl

with-a-fourth-key : of bridge (codes "{\"name\": \"echo8\", \"sees\": [\"q\"], \"drives\": [\"x\"], \"at\": 0}") ≡ None
unfolding serde_json_on_literals
with-a-fourth-key = refl

a-port-alone : of bridge (codes "{\"name\": \"echo8\", \"sees\": \"q\", \"drives\": [\"x\"]}") ≡ None
unfolding serde_json_on_literals
a-port-alone = refl

-- in the order of the file
two-bridges : of bridges (codes "[{\"name\": \"echo8\", \"sees\": [\"q\"], \"drives\": [\"x\"]}, {\"name\": \"a\", \"sees\": [], \"drives\": []}]") ≡ Some (echo ∷ record { name = codes "a"; sees = []; drives = [] } ∷ [])
unfolding serde_json_on_literals
two-bridges = refl

one-without-a-list : of bridges (codes "{\"name\": \"echo8\", \"sees\": [\"q\"], \"drives\": [\"x\"]}") ≡ None
unfolding serde_json_on_literals
one-without-a-list = refl

-- ---- keys

the-keys : key_names ≡ codes "units" ∷ codes "share" ∷ codes "memories" ∷ codes "capacity" ∷ codes "direct" ∷ codes "pipe" ∷ codes "clocks" ∷ codes "bridges" ∷ []
the-keys = refl

-- the first of the list's keys whose value has another shape, and not the first in the file
first-in-the-list : of (misshapen keys) (codes "{\"capacity\": 0, \"share\": 0}") ≡ Some (codes "share")
unfolding serde_json_on_literals
first-in-the-list = refl

all-have-shapes : of (misshapen keys) (codes "{\"capacity\": {}, \"zone\": 0}") ≡ None
unfolding serde_json_on_literals
all-have-shapes = refl

known : of (under [] texts (codes "units")) (codes "{\"units\": [\"a\"]}") ≡ Some (codes "a" ∷ [])
unfolding serde_json_on_literals
known = refl

absent : of (under [] texts (codes "units")) (codes "{}") ≡ Some []
unfolding serde_json_on_literals
absent = refl

-- nothing is read under a key that isn't listed
not-listed : of (under false as_bool (codes "zone")) (codes "{\"zone\": true}") ≡ Some false
unfolding serde_json_on_literals
not-listed = refl

prefix-is-another : is_one_of key_names (codes "unit") ≡ false
prefix-is-another = refl
