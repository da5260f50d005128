-- A memory of two words with one reader and two writers, served by hand.
use Rattle.std.proofs.Common.{◌≡◌, ℕ, List, [], ◌∷◌, Option, Some, None, map, refl}
use Rattle.gg_flat.specs.declared.memory.UnderWrite.TheVariants.{Old, New, Undefined}
use Rattle.gg_flat.specs.declared.memory.Latency.{Latency}
use Rattle.gg_flat.specs.declared.memory.Latency.TheVariants.{Zero, One}
use Rattle.gg_flat.specs.declared.memory.Reader.{Reader}
use Rattle.gg_flat.specs.declared.memory.Writer.{Writer}
use Rattle.gg_flat.specs.State.{State}
use Rattle.gg_node.specs.Machine.{Port}
use Rattle.gg_memunit.specs.MemoryUnit.{ports_by, needs_by}
use Rattle.gg_memunit.specs.inside.MemoryUnit.{state_of, accessed_by}

abbrev r : Reader
r = record { addr = 0; en = 1; word = 10; clock = None }

abbrev w : Writer
w = record { addr = 2; en = 3; word = 4; mask = 5; clock = None }

abbrev x : Writer
x = record { addr = 6; en = 7; word = 8; mask = 9; clock = None }

abbrev ports : Latency → List Port
ports latency = ports_by latency (r ∷ []) (w ∷ x ∷ [])

-- ---- the order, by the numbers of the ports: the reader has 0, the writers 1 and 2

numbers-zero : map (λ port. port.number) (ports Zero) ≡ (1 ∷ 2 ∷ [])
numbers-zero = refl

numbers-old : map (λ port. port.number) (ports (One Old)) ≡ (0 ∷ 1 ∷ 2 ∷ [])
numbers-old = refl

numbers-new : map (λ port. port.number) (ports (One New)) ≡ (1 ∷ 2 ∷ 0 ∷ [])
numbers-new = refl

-- the data of a reader needs its address and its enable if it comes in the same cycle, and nothing if the reader is late
needs-same : needs_by Zero r ≡ (0 ∷ 1 ∷ [])
needs-same = refl

needs-late : needs_by (One New) r ≡ []
needs-late = refl

-- a state with these words and read registers
abbrev holds : List ℕ → List ℕ → State
holds words reads = state_of (record { words = words; reads = reads })

-- ---- the reader reads word 1, and both writers write it: `w` 7, `x` 8

abbrev both : List (Option ℕ)
both = Some 1 ∷ Some 1 ∷ Some 1 ∷ Some 1 ∷ Some 7 ∷ Some 1 ∷ Some 1 ∷ Some 1 ∷ Some 8 ∷ Some 1 ∷ []

served-zero : accessed_by [] both (holds (3 ∷ 4 ∷ []) []) (ports Zero) ≡ holds (3 ∷ 8 ∷ []) []
served-zero = refl

served-old : accessed_by [] both (holds (3 ∷ 4 ∷ []) (0 ∷ [])) (ports (One Old)) ≡ holds (3 ∷ 8 ∷ []) (4 ∷ [])
served-old = refl

served-undefined : accessed_by [] both (holds (3 ∷ 4 ∷ []) (0 ∷ [])) (ports (One Undefined)) ≡ holds (3 ∷ 8 ∷ []) (4 ∷ [])
served-undefined = refl

served-new : accessed_by [] both (holds (3 ∷ 4 ∷ []) (0 ∷ [])) (ports (One New)) ≡ holds (3 ∷ 8 ∷ []) (8 ∷ [])
served-new = refl

-- ---- `x` is masked, and `w` isn't enabled; the reader reads past the depth

abbrev neither : List (Option ℕ)
neither = Some 2 ∷ Some 1 ∷ Some 1 ∷ Some 0 ∷ Some 7 ∷ Some 1 ∷ Some 1 ∷ Some 1 ∷ Some 8 ∷ Some 0 ∷ []

served-neither : accessed_by [] neither (holds (3 ∷ 4 ∷ []) (5 ∷ [])) (ports (One New)) ≡ holds (3 ∷ 4 ∷ []) (0 ∷ [])
served-neither = refl
