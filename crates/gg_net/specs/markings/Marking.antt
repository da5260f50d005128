-- Markings: how far each machine and each channel of a network is, without the values. Whether a step may be done, and
-- why not, depends only on the layout and the marking.
-- Source: Commoner, Holt, Even and Pnueli, "Marked Directed Graphs" (1971), for counts of tokens in place of tokens;
-- MEMOCODE 2009 (when a node may take, give and finish); ICCAD 2019 for memories that are served port by port.
use Rattle.std.specs.Prelude.{ℕ, suc, ◌-◌, ◌==◌, List, [], Bool, true, false, if◌then◌else◌, Option, length, map, replicate, slice_index_or, slice_set, slice_get, nat_lt}
use Rattle.std.specs.List.{range_with_len}
use Rattle.gg_net.specs.Network.{and_one}
use Rattle.gg_flat.specs.Line.{value_at}
use Rattle.gg_net.specs.declared.event.Event.{Event}
use Rattle.gg_net.specs.declared.event.Event.TheVariants.{Latch, Fire, Serve, Finish}
use Rattle.gg_net.specs.declared.event.StepRefusal.{StepRefusal}
use Rattle.gg_net.specs.Refusal.{Turn, Facts}
use Rattle.gg_net.specs.Refusal as table

-- ---- the layout

-- A channel: the machines at its ends, the most tokens that its queue may hold, the channels that it needs in a cycle,
-- and whether it opens with a token.
pub record Link : Type 0 where
  pub producer : ℕ
  pub consumer : ℕ
  pub capacity : ℕ
  pub needs : List ℕ
  pub piped : Bool

-- The channels by number. For each machine the number of ports of its memory, or 0 if it isn't a memory that is served,
-- and the ports that are served in a cycle, in their order. And the number of cycles.
pub record Layout : Type 0 where
  pub links : List Link
  pub port_counts : List ℕ
  pub turns : List (List Turn)
  pub end : ℕ

-- the channel with a number; past the end one that can't hold a token
abbrev pub link_at : Layout → ℕ → Link
link_at layout c = slice_index_or layout.links c (record { producer = 0; consumer = 0; capacity = 0; needs = []; piped = false })

-- the ports that a machine serves in a cycle, in their order; none past the end
abbrev pub turns_at : Layout → ℕ → List Turn
turns_at layout m = slice_index_or layout.turns m []

-- ---- the marking

-- The cycle of each machine, and the number of its ports that were served in it. For each channel, whether its consumer
-- has taken the token of the consumer's cycle, and whether its producer has given the token of the producer's cycle.
pub record Marking : Type 0 where
  pub cycles : List ℕ
  pub served : List ℕ
  pub taken : List Bool
  pub given : List Bool

-- whether channel c is marked; past the end it isn't
abbrev pub is_set : List Bool → ℕ → Bool
is_set marks c = slice_index_or marks c false

-- before the first cycle, of this number
abbrev pub opening_marking : Layout → ℕ → Marking
opening_marking layout begin =
    record {
      cycles = replicate (length layout.turns) begin;
      served = replicate (length layout.turns) 0;
      taken = replicate (length layout.links) false;
      given = replicate (length layout.links) false;
    }

-- the number of tokens that were put into a channel
abbrev pub marked_puts : Layout → Marking → ℕ → ℕ
marked_puts layout marking c = and_one (value_at marking.cycles (link_at layout c).producer) (is_set marking.given c)

-- the number of tokens that have entered a channel: the tokens put, and one more if it is piped
abbrev pub marked_entered : Layout → Marking → ℕ → ℕ
marked_entered layout marking c = and_one (marked_puts layout marking c) (link_at layout c).piped

-- the number of tokens that were taken: one for each cycle before the consumer's, and one more if this cycle's was taken
abbrev pub marked_takes : Layout → Marking → ℕ → ℕ
marked_takes layout marking c = and_one (value_at marking.cycles (link_at layout c).consumer) (is_set marking.taken c)

-- the number of tokens in the queue: the tokens that have entered and weren't taken
abbrev pub held : Layout → Marking → ℕ → ℕ
held layout marking c = marked_entered layout marking c - marked_takes layout marking c

-- ---- when a step is refused

-- the number of ports of a machine's memory
abbrev pub port_count : Layout → ℕ → ℕ
port_count layout m = value_at layout.port_counts m

-- the port that is to be served next in the machine's cycle; none once all are served
abbrev pub due_turn : Layout → Marking → ℕ → Option Turn
due_turn layout marking m = slice_get (turns_at layout m) (value_at marking.served m)

-- the facts that decide a step, from a layout and a marking
abbrev pub marked_facts : Layout → Marking → Facts
marked_facts layout marking =
    record {
      channels = length layout.links;
      machines = length layout.turns;
      ports = λ m. port_count layout m;
      producer = λ c. (link_at layout c).producer;
      consumer = λ c. (link_at layout c).consumer;
      needs = λ c. (link_at layout c).needs;
      capacity = λ c. (link_at layout c).capacity;
      below = λ m. nat_lt (value_at marking.cycles m) layout.end;
      due = λ m. due_turn layout marking m;
      taken = λ c. is_set marking.taken c;
      given = λ c. is_set marking.given c;
      held = λ c. held layout marking c;
    }

-- why an event is refused: the first of its conditions that fails, by the table of steps
abbrev pub marked_refusal : Layout → Marking → Event → Option StepRefusal
marked_refusal layout marking event = table.refusal (marked_facts layout marking) event

-- ---- the effect of a step

-- the marks of channels, cleared for channels with machine m at this end
abbrev pub cleared : (Link → ℕ) → Layout → ℕ → List Bool → List Bool
cleared machine_of layout m marks = map (λ c. if machine_of (link_at layout c) == m then false else is_set marks c) (range_with_len 0 (length layout.links))

-- the counts, with one more at a place
abbrev pub one_more : List ℕ → ℕ → List ℕ
one_more counts m = slice_set counts m (suc (value_at counts m))

-- The marking after an event: a token is taken or given, a port is served, or a cycle is finished. In its next cycle the machine has taken, given and
-- served nothing.
abbrev pub after : Layout → Marking → Event → Marking
after layout marking (Latch c) = record marking { taken = slice_set marking.taken c true }
after layout marking (Fire c) = record marking { given = slice_set marking.given c true }
after layout marking (Serve m p) = record marking { served = one_more marking.served m }
after layout marking (Finish m) =
    record {
      cycles = one_more marking.cycles m;
      served = slice_set marking.served m 0;
      taken = cleared (λ link. link.consumer) layout m marking.taken;
      given = cleared (λ link. link.producer) layout m marking.given;
    }
