-- More on Counts: definitions that no promise of the program reaches.
-- Source: MEMOCODE 2009 (a node gives and takes one token for each channel in a cycle, gives one as soon as what it
-- depends on is there, and finishes the cycle when it has done both; a queue holds at most its bound); ICCAD 2019 for
-- memories that are served port by port.
use Rattle.std.specs.Prelude.{◌≡◌, ℕ, suc, ◌+◌, ◌*◌, ◌<◌, ◌≤◌, ◌⊎◌, ◌==◌, All, length, slice_index_or, if◌then◌else◌, ◌-◌, map, nat_lt}
use Rattle.std.specs.List.{range_with_len}
use Rattle.gg_flat.specs.Line.{value_at}
use Rattle.gg_net.specs.declared.event.Event.{Event}
use Rattle.gg_net.specs.declared.event.Event.TheVariants.{Latch, Fire, Serve, Finish}
use Rattle.gg_net.specs.Refusal.{Turn}
use Rattle.gg_net.specs.Network.{and_one}
use Rattle.gg_net.specs.markings.Marking as marks
use Rattle.gg_net.specs.markings.Marking.{Layout, Marking, link_at, turns_at}
use Rattle.gg_net.specs.markings.Counts.{dues}

-- For each channel the number of tokens that were put into it and taken from it; for each machine the number of cycles
-- that it has finished, and the number of ports that it has served since the first cycle.
pub record Counts : Type 0 where
  pub puts : ℕ → ℕ
  pub takes : ℕ → ℕ
  pub cycles : ℕ → ℕ
  pub serves : ℕ → ℕ

-- the number of tokens that a channel opens with
abbrev pub early : Layout → ℕ → ℕ
early layout c = and_one 0 (link_at layout c).piped

-- how often each step was done to come to a marking
abbrev pub counts_of : Layout → Marking → Counts
counts_of layout marking =
    record {
      puts = λ c. marks.marked_puts layout marking c;
      takes = λ c. marks.marked_takes layout marking c;
      cycles = λ m. value_at marking.cycles m;
      serves = λ m. dues layout m * value_at marking.cycles m + value_at marking.served m;
    }

-- ---- which counts can come up together

-- the token of this channel was taken in cycle k
abbrev pub WasTaken : Counts → ℕ → ℕ → Type 0
WasTaken counts k c = counts.takes c ≡ suc k

-- all channels that a machine gives have their token of cycle k
abbrev pub HasGiven : Layout → Counts → ℕ → ℕ → Type 0
HasGiven layout counts m k = (c : ℕ) → c < length layout.links → (link_at layout c).producer ≡ m → counts.puts c ≡ suc k

-- A channel's token of its producer's cycle was given, after all that it needs was taken.
pub record WasGiven (layout : Layout) (counts : Counts) (c : ℕ) : Type 0 where
  pub given : counts.puts c ≡ suc (counts.cycles (link_at layout c).producer)
  pub needed : All (WasTaken counts (counts.cycles (link_at layout c).producer)) (link_at layout c).needs

-- A machine has served its first j ports in its cycle. If there are any, it had given all its tokens, and the tokens of
-- the ports' fields were taken.
pub record HasServed (layout : Layout) (counts : Counts) (m j : ℕ) : Type 0 where
  pub count : counts.serves m ≡ dues layout m * counts.cycles m + j
  pub within : j ≤ dues layout m
  pub given : 0 < j → HasGiven layout counts m (counts.cycles m)
  pub fields : (i : ℕ) (any : Turn) → i < j → All (WasTaken counts (counts.cycles m)) (slice_index_or (turns_at layout m) i any).fields

-- No more tokens are taken from a channel than have entered it: the tokens put, and one more if the channel opens with
-- a token. The queue contains at most its capacity.
pub record Flows (counts : Counts) (first capacity c : ℕ) : Type 0 where
  pub least : counts.takes c ≤ counts.puts c + first
  pub most : counts.puts c + first ≤ counts.takes c + capacity

-- These counts can come up together. Each clause is about one channel or one machine.
pub record IsAllowed (layout : Layout) (counts : Counts) : Type 0 where
  -- no more was taken than has entered, and no more is held than the capacity
  pub flows : (c : ℕ) → c < length layout.links → Flows counts (early layout c) (link_at layout c).capacity c
  -- the token of the producer's cycle wasn't given yet, or it was and could be given
  pub puts : (c : ℕ) → c < length layout.links → (counts.puts c ≡ counts.cycles (link_at layout c).producer) ⊎ WasGiven layout counts c
  -- the token of the consumer's cycle wasn't taken yet, or it was
  pub takes : (c : ℕ) → c < length layout.links → (counts.takes c ≡ counts.cycles (link_at layout c).consumer) ⊎ (counts.takes c ≡ suc (counts.cycles (link_at layout c).consumer))
  pub serves : (m : ℕ) → m < length layout.turns → (j : ℕ) × HasServed layout counts m j
  -- nothing goes past the last cycle
  pub cycle_end : (m : ℕ) → m < length layout.turns → counts.cycles m ≤ layout.end
  pub put_end : (c : ℕ) → c < length layout.links → counts.puts c ≤ layout.end
  pub take_end : (c : ℕ) → c < length layout.links → counts.takes c ≤ layout.end
  pub serve_end : (m : ℕ) → m < length layout.turns → counts.serves m ≤ dues layout m * layout.end

-- no machine is before the first cycle, `begin`
pub record HasBegun (layout : Layout) (begin : ℕ) (counts : Counts) : Type 0 where
  pub cycles : (m : ℕ) → m < length layout.turns → begin ≤ counts.cycles m

-- ---- comparing counts

-- These counts are nowhere lower than those.
pub record AreAtMost (layout : Layout) (old new : Counts) : Type 0 where
  pub puts : (c : ℕ) → c < length layout.links → old.puts c ≤ new.puts c
  pub takes : (c : ℕ) → c < length layout.links → old.takes c ≤ new.takes c
  pub cycles : (m : ℕ) → m < length layout.turns → old.cycles m ≤ new.cycles m
  pub serves : (m : ℕ) → m < length layout.turns → old.serves m ≤ new.serves m

-- the counts agree at each channel and each machine
pub record AreSame (layout : Layout) (old new : Counts) : Type 0 where
  pub puts : (c : ℕ) → c < length layout.links → new.puts c ≡ old.puts c
  pub takes : (c : ℕ) → c < length layout.links → new.takes c ≡ old.takes c
  pub cycles : (m : ℕ) → m < length layout.turns → new.cycles m ≡ old.cycles m
  pub serves : (m : ℕ) → m < length layout.turns → new.serves m ≡ old.serves m

-- 1 at one number, otherwise 0
abbrev pub one_at : ℕ → ℕ → ℕ
one_at a b = if a == b then 1 else 0

-- how often an event puts a token into a channel, takes one from it, finishes a machine's cycle, serves a port of it
abbrev pub fires : Event → ℕ → ℕ
fires (Latch d) c = 0
fires (Fire d) c = one_at d c
fires (Serve k p) c = 0
fires (Finish k) c = 0

-- how often an event takes a token from channel c: once or not at all
abbrev pub latches : Event → ℕ → ℕ
latches (Latch d) c = one_at d c
latches (Fire d) c = 0
latches (Serve k p) c = 0
latches (Finish k) c = 0

-- how often it finishes a cycle of machine m
abbrev pub finishes : Event → ℕ → ℕ
finishes (Latch d) m = 0
finishes (Fire d) m = 0
finishes (Serve k p) m = 0
finishes (Finish k) m = one_at k m

-- how often it serves a port of machine m
abbrev pub accesses : Event → ℕ → ℕ
accesses (Latch d) m = 0
accesses (Fire d) m = 0
accesses (Serve k p) m = one_at k m
accesses (Finish k) m = 0

-- the count of an event is lower in the first than in the second
abbrev pub IsBehind : Counts → Counts → Event → Type 0
IsBehind old new (Latch c) = old.takes c < new.takes c
IsBehind old new (Fire c) = old.puts c < new.puts c
IsBehind old new (Serve m p) = old.serves m < new.serves m
IsBehind old new (Finish m) = old.cycles m < new.cycles m

-- An event raises its own count by one, and leaves all others as they are.
pub record Raises (layout : Layout) (old : Counts) (event : Event) (new : Counts) : Type 0 where
  pub puts : (c : ℕ) → c < length layout.links → new.puts c ≡ old.puts c + fires event c
  pub takes : (c : ℕ) → c < length layout.links → new.takes c ≡ old.takes c + latches event c
  pub cycles : (m : ℕ) → m < length layout.turns → new.cycles m ≡ old.cycles m + finishes event m
  pub serves : (m : ℕ) → m < length layout.turns → new.serves m ≡ old.serves m + accesses event m

-- ---- layouts

-- A network with this layout can go on: ends, needs and fields are channels and machines that exist, each channel has
-- room for a token, and there is no ring among the needs.
pub record CanRun (layout : Layout) : Type 0 where
  pub producer : (c : ℕ) → c < length layout.links → (link_at layout c).producer < length layout.turns
  pub consumer : (c : ℕ) → c < length layout.links → (link_at layout c).consumer < length layout.turns
  pub room : (c : ℕ) → c < length layout.links → 1 ≤ (link_at layout c).capacity
  -- the producer of a channel takes the channels that the channel needs
  pub needs : (c : ℕ) → c < length layout.links → All (λ d. (d < length layout.links) × ((link_at layout d).consumer ≡ (link_at layout c).producer)) (link_at layout c).needs
  -- a machine takes the channels of its ports' fields
  pub fields : (m : ℕ) → m < length layout.turns → All (λ turn. All (λ d. (d < length layout.links) × ((link_at layout d).consumer ≡ m)) turn.fields) (turns_at layout m)
  pub numbers : (m : ℕ) → m < length layout.turns → All (λ turn. turn.number < marks.port_count layout m) (turns_at layout m)
  -- each channel has a rank, and needs only channels of lower ranks, therefore there is no ring
  pub ranks : ℕ → ℕ
  pub lower : (c : ℕ) → c < length layout.links → All (λ d. ranks d < ranks c) (link_at layout c).needs

-- a marking has an entry for each machine and each channel
pub record IsMarkingOf (layout : Layout) (marking : Marking) : Type 0 where
  pub cycles : length marking.cycles ≡ length layout.turns
  pub served : length marking.served ≡ length layout.turns
  pub taken : length marking.taken ≡ length layout.links
  pub given : length marking.given ≡ length layout.links

-- the marking that these counts lead to
abbrev pub marking_by : Layout → Counts → Marking
marking_by layout counts =
    record {
      cycles = map counts.cycles (range_with_len 0 (length layout.turns));
      served = map (λ m. counts.serves m - dues layout m * counts.cycles m) (range_with_len 0 (length layout.turns));
      taken = map (λ c. nat_lt (counts.cycles (link_at layout c).consumer) (counts.takes c)) (range_with_len 0 (length layout.links));
      given = map (λ c. nat_lt (counts.cycles (link_at layout c).producer) (counts.puts c)) (range_with_len 0 (length layout.links));
    }
