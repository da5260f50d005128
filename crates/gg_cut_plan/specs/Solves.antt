-- When lists of values, one for each channel, solve a plan, from any start.
-- Source: MEMOCODE 2009 (a network of machines has the streams of the synchronous circuit that it was cut from; a token at the start
-- comes before what a producer gives).
use Rattle.std.specs.Prelude.{◌≡◌, ℕ, ◌<◌, ◌≤◌, ◌++◌, List, [], ◌∷◌, Bool, if◌then◌else◌, drop, length, map, replicate}
use Rattle.gg_flat.specs.Circuit.{FlatCircuit}
use Rattle.gg_flat.specs.Line.{value_at}
use Rattle.gg_flat.specs.Run.{IsRunFrom, Start, column, row_at, since}
use Rattle.gg_flat.specs.State.{opening}
use Rattle.gg_cut_plan.specs.declared.plan.Channel.{Channel}
use Rattle.gg_cut_plan.specs.declared.plan.Plan.{Plan}

-- The rows, by cycle, of a run from a start, up to cycle `end`. Before the start's cycle all values are 0.
pub record AreRows (circuit : FlatCircuit) (start : Start) (columns : List (List ℕ)) (end : ℕ) (rows : List (List ℕ)) : Type 0 where
  pub begun : start.cycle ≤ end
  pub count : length rows ≡ end
  pub before : (t s : ℕ) → t < start.cycle → value_at (row_at rows t) s ≡ 0
  pub run : IsRunFrom circuit start columns (since start.cycle end) (drop start.cycle rows)

-- the start of a model in a circuit with this start: the same cycle, with zeros
abbrev pub model_start : FlatCircuit → Start → Start
model_start model start = record { cycle = start.cycle; state = opening model; ratios = [] }

-- The values that the consumer of a channel takes, by cycle, if its producer gives these: in a piped channel they come a cycle later, and the token
-- comes in cycle `begin`.
abbrev pub stream : (begin token : ℕ) → Bool → List ℕ → List ℕ
stream begin token piped values = if piped then replicate begin 0 ++ token ∷ drop begin values else values

-- the values that the consumers of the channels take, if the producers give these; `token` has the token of each signal's pipe
abbrev pub streams : (begin : ℕ) → (token : ℕ → ℕ) → List Channel → List (List ℕ) → List (List ℕ)
streams begin token [] lists = []
streams begin token (channel ∷ channels) [] = []
streams begin token (channel ∷ channels) (list ∷ lists) = stream begin (token channel.signal) channel.pipe list ∷ streams begin token channels lists

-- the columns of the channels' signals in the rows of the whole circuit: what the producers give
abbrev pub columns_of : Plan → List (List ℕ) → List (List ℕ)
columns_of plan rows = map (λ channel. column rows channel.signal) plan.channels
