-- When a step may be done, and why it is refused: one table for all steps, over facts. A network has these facts (`Step`), and so has a marking, with
-- counts of tokens in place of tokens.
-- Source: MEMOCODE 2009 (when a node may take, give and finish); ICCAD 2019 for memories that are served port by port.
-- The order of the checks is this program's.
use Rattle.std.specs.Prelude.{ℕ, ◌==◌, List, Bool, true, false, not, Option, Some, None, filter, find, nat_lt}
use Rattle.std.specs.List.{range_with_len}
use Rattle.gg_bits.specs.Lists.{or_else}
use Rattle.gg_net.specs.declared.event.Event.{Event}
use Rattle.gg_net.specs.declared.event.Event.TheVariants.{Latch, Fire, Serve, Finish}
use Rattle.gg_net.specs.declared.event.StepRefusal.{StepRefusal}
use Rattle.gg_net.specs.declared.event.StepRefusal.TheVariants.{Stranger, Ended, Latched, Fired, NoToken, NeedsInput, Full, Order, Unfired, Unserved}

-- ---- the facts of the table

-- A port that is served: its number, and the channels of its fields.
pub record Turn : Type 0 where
  pub number : ℕ
  pub fields : List ℕ

-- The facts that decide a step. Channels, machines and ports are given by their numbers.
pub record Facts : Type 0 where
  -- the numbers of channels and machines, and each machine's number of ports
  pub channels : ℕ
  pub machines : ℕ
  pub ports : ℕ → ℕ
  -- of a channel: the machines at its ends, the channels that it needs in a cycle, and the most tokens that its queue may hold
  pub producer : ℕ → ℕ
  pub consumer : ℕ → ℕ
  pub needs : ℕ → List ℕ
  pub capacity : ℕ → ℕ
  -- of a machine: whether it has cycles left, and the port that is to be served next in its cycle, if one is left
  pub below : ℕ → Bool
  pub due : ℕ → Option Turn
  -- of a channel: whether its consumer has the token of the consumer's cycle, whether its producer has given the token
  -- of the producer's cycle, and the number of tokens in its queue
  pub taken : ℕ → Bool
  pub given : ℕ → Bool
  pub held : ℕ → ℕ

-- the channels that a machine takes, by number
abbrev pub ins_of_machine : Facts → ℕ → List ℕ
ins_of_machine facts m = filter (λ c. facts.consumer c == m) (range_with_len 0 facts.channels)

-- the channels that a machine gives, by number
abbrev pub outs_of_machine : Facts → ℕ → List ℕ
outs_of_machine facts m = filter (λ c. facts.producer c == m) (range_with_len 0 facts.channels)

-- ---- the words of the table

-- a refusal, if a condition fails
abbrev pub unless : Bool → StepRefusal → Option StepRefusal
unless true refusal = None
unless false refusal = Some refusal

-- a refusal that names a channel, if there is one
abbrev pub naming : (ℕ → StepRefusal) → Option ℕ → Option StepRefusal
naming refusal None = None
naming refusal (Some c) = Some (refusal c)

-- the first of these channels that doesn't have the mark
abbrev pub first_without : (ℕ → Bool) → List ℕ → Option ℕ
first_without mark channels = find (λ c. not (mark c)) channels

-- refuses with the first of these channels that has no token in its consumer's latch
abbrev pub needing : Facts → List ℕ → Option StepRefusal
needing facts channels = naming NeedsInput (first_without facts.taken channels)

-- refuses with the first channel that the machine gives and hasn't given in its cycle
abbrev pub unfired : Facts → ℕ → Option StepRefusal
unfired facts m = naming Unfired (first_without facts.given (outs_of_machine facts m))

-- refuses if this isn't the port that is due, or if one of its fields has no token; if none is due, the refusal has the
-- number of ports
abbrev pub not_due : Facts → ℕ → ℕ → Option Turn → Option StepRefusal
not_due facts m p None = Some (Order (facts.ports m))
not_due facts m p (Some turn) = or_else (unless (turn.number == p) (Order turn.number)) (needing facts turn.fields)

-- refuses with the port that is due and not served
abbrev pub unserved : Option Turn → Option StepRefusal
unserved None = None
unserved (Some turn) = Some (Unserved turn.number)

-- ---- the table

-- `Latch`: the channel exists; its consumer has cycles left; the latch is empty; the queue holds a token
abbrev pub latch_refusal : Facts → ℕ → Option StepRefusal
latch_refusal facts c =
    or_else (unless (nat_lt c facts.channels) Stranger)
    (or_else (unless (facts.below (facts.consumer c)) Ended)
    (or_else (unless (not (facts.taken c)) Latched)
    (unless (nat_lt 0 (facts.held c)) (NoToken c))))

-- `Fire`: the channel exists; its producer has cycles left; the flag is clear; each needed channel is latched; the queue
-- is shorter than its capacity
abbrev pub fire_refusal : Facts → ℕ → Option StepRefusal
fire_refusal facts c =
    or_else (unless (nat_lt c facts.channels) Stranger)
    (or_else (unless (facts.below (facts.producer c)) Ended)
    (or_else (unless (not (facts.given c)) Fired)
    (or_else (needing facts (facts.needs c))
    (unless (nat_lt (facts.held c) (facts.capacity c)) (Full c (facts.held c))))))

-- `Serve`: the machine has the port; it has cycles left; all its channels are fired; the port is due; the port's fields are latched
abbrev pub serve_refusal : Facts → ℕ → ℕ → Option StepRefusal
serve_refusal facts m p =
    or_else (unless (nat_lt p (facts.ports m)) Stranger)
    (or_else (unless (facts.below m) Ended)
    (or_else (unfired facts m)
    (not_due facts m p (facts.due m))))

-- `Finish`: the machine exists; it has cycles left; all its channels are fired; all ports are served; all its channels
-- are latched
abbrev pub finish_refusal : Facts → ℕ → Option StepRefusal
finish_refusal facts m =
    or_else (unless (nat_lt m facts.machines) Stranger)
    (or_else (unless (facts.below m) Ended)
    (or_else (unfired facts m)
    (or_else (unserved (facts.due m))
    (needing facts (ins_of_machine facts m)))))

-- why an event is refused: the first of its conditions that fails; None if it may be done
abbrev pub refusal : Facts → Event → Option StepRefusal
refusal facts (Latch c) = latch_refusal facts c
refusal facts (Fire c) = fire_refusal facts c
refusal facts (Serve m p) = serve_refusal facts m p
refusal facts (Finish m) = finish_refusal facts m
