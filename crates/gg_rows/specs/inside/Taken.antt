-- How the rows of a run were taken, one after another.
-- Source: this program's own.
use Rattle.std.specs.Prelude.{◌≡◌, ℕ, zero, suc, ◌<◌, ◌≤◌, ◌+◌, ◌⊎◌, List, Bool, true, false, Result, Ok, Err, IfErr}
use Rattle.gg_net.specs.Network.{AllStandAt}
use Rattle.gg_net.specs.Network.{Network, frame_of}
use Rattle.gg_io.specs.declared.endings.Ending.{Ending}
use Rattle.gg_io.specs.declared.endings.Ending.TheVariants.{NoMemory}
use Rattle.gg_rows.specs.Rows.{TraysKeep}
use Rattle.gg_rows.specs.inside.Window.{IsWindowOf}

-- The first n rows, starting at cycle `begin`, were taken, and after each of them it was to go on. `takes` describes the taking of a row: the value
-- before, the cycle, the row, the value after, and the answer.
abbrev pub TookTo : {T : Type 0} (takes : T → ℕ → List ℕ → T → Result Bool Ending → Type 0) (row : ℕ → List ℕ) (begin : ℕ) (before : T) (n : ℕ) (after : T) → Type 0
TookTo takes row begin before zero after = after ≡ before
TookTo {T = T} takes row begin before (suc n) after = (middle : T) × TookTo takes row begin before n middle × takes middle (begin + n) (row (begin + n)) after (Ok true)

-- How the taking of n rows, starting at cycle `begin`, has ended. `count` is the number of rows that were taken.
pub data Took {T : Type 0} (takes : T → ℕ → List ℕ → T → Result Bool Ending → Type 0) (row : ℕ → List ℕ) (begin n count : ℕ) (before after : T) (result : Result Bool Ending) : Type 0 where
  -- all of them were taken
  All : (took : TookTo takes row begin before n after) (counts : count ≡ n) (ends : result ≡ Ok true) → Took takes row begin n count before after result
  -- after t others a row was taken after which it wasn't to go on
  Last : (t : ℕ) (within : t < n) (middle : T) (took : TookTo takes row begin before t middle) (last : takes middle (begin + t) (row (begin + t)) after (Ok false)) (counts : count ≡ suc t) (ends : result ≡ Ok false) → Took takes row begin n count before after result
  -- after t others a row couldn't be taken
  Fails : (t : ℕ) (within : t < n) (middle : T) (took : TookTo takes row begin before t middle) (ending : Ending) (fails : takes middle (begin + t) (row (begin + t)) after (Err ending)) (counts : count ≡ t) (ends : result ≡ Err ending) → Took takes row begin n count before after result
  -- there was no memory for the row of the next cycle
  Wants : (within : count ≤ n) (took : TookTo takes row begin before count after) (ends : result ≡ Err NoMemory) → Took takes row begin n count before after result

-- A row of this cycle was taken by `takes`, or couldn't be taken.
pub record TakesAt {T : Type 0} (takes : T → ℕ → List ℕ → T → Result Bool Ending → Type 0) (cycle : ℕ) (before after : T) (answer : Result Bool Ending) : Type 0 where
  pub row : List ℕ
  pub took : takes before cycle row after answer

-- A row of some cycle was taken by `takes`, or couldn't be taken.
pub record TakesSome {T : Type 0} (takes : T → ℕ → List ℕ → T → Result Bool Ending → Type 0) (before after : T) (answer : Result Bool Ending) : Type 0 where
  pub cycle : ℕ
  pub row : List ℕ
  pub took : takes before cycle row after answer

-- `TakesSome`, n times in a row.
abbrev pub TookSome : {T : Type 0} (takes : T → ℕ → List ℕ → T → Result Bool Ending → Type 0) (before : T) (n : ℕ) (after : T) → Type 0
TookSome takes before zero after = after ≡ before
TookSome {T = T} takes before (suc n) after = (middle : T) × (answer : Result Bool Ending) × TookSome takes before n middle × TakesSome takes middle after answer

-- Rows were taken one after another, in the run of any network. If it failed, memory was refused, or a row couldn't be taken.
pub record WentBy {T : Type 0} (takes : T → ℕ → List ℕ → T → Result Bool Ending → Type 0) (before after : T) (result : Result Bool Ending) : Type 0 where
  pub count : ℕ
  pub took : TookSome takes before count after
  pub cause : IfErr result (λ ending. (ending ≡ NoMemory) ⊎ ((old : T) × (new : T) × TakesSome takes old new (Err ending)))

-- The rows of a network's run were taken by `takes`, starting at cycle `begin`, and they came to its trays that begin with number `first`.
pub record Ran {T : Type 0} (takes : T → ℕ → List ℕ → T → Result Bool Ending → Type 0) (row : ℕ → List ℕ) (opening : Network) (first begin n : ℕ) (before after : T) (result : Result Bool Ending) : Type 0 where
  pub count : ℕ
  pub took : Took takes row begin n count before after result
  pub kept : (t : ℕ) → t < count → TraysKeep opening first (begin + t) (row (begin + t))

-- the answer of a run without its network: whether all rows were taken, or why not
abbrev pub answer_of : {N : Type 0} → Result (N × Bool) Ending → Result Bool Ending
answer_of (Ok ran) = Ok ran.1
answer_of (Err ending) = Err ending

-- The last row that was taken is the row of a cycle not before `begun` and before `upto`. After it it wasn't to go on.
pub record IsLastOf {T : Type 0} (takes : T → ℕ → List ℕ → T → Result Bool Ending → Type 0) (begun upto : ℕ) (after : T) : Type 0 where
  pub cycle : ℕ
  pub low : begun ≤ cycle
  pub high : cycle < upto
  pub before : T
  pub last : TakesAt takes cycle before after (Ok false)

-- A run that began in cycle `begin` stopped at the row of a cycle, and all machines are at the end of this cycle's window.
pub record StopsIn {T : Type 0} (takes : T → ℕ → List ℕ → T → Result Bool Ending → Type 0) (begin end : ℕ) (net : Network) (after : T) : Type 0 where
  pub cycle : ℕ
  pub before : T
  pub last : TakesAt takes cycle before after (Ok false)
  pub upto : ℕ
  pub window : IsWindowOf begin end cycle upto
  pub stands : AllStandAt upto net

-- The network that a run from cycle `begin` returned. If all rows were taken, all machines are at the end. Otherwise they are at the end of the
-- window of the last row.
pub record IsRanOut {T : Type 0} (takes : T → ℕ → List ℕ → T → Result Bool Ending → Type 0) (begin : ℕ) (old new : Network) (after : T) (all : Bool) : Type 0 where
  pub frame : frame_of new ≡ frame_of old
  pub stands : all ≡ true → AllStandAt old.end new
  pub stopped : all ≡ false → StopsIn takes begin old.end new after
