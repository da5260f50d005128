-- The two ends of a channel in the reference circuit: the signal that gives the value in its producer, and the signal that its consumer gets. They
-- differ where the channel is direct or piped.
-- Source: MEMOCODE 2009 (channels between the nodes of a dataflow network; tokens that are there at the start).
use Rattle.std.specs.Prelude.{ℕ, List, Bool, ◌==◌, ◌&&◌, if◌then◌else◌, Option, Some, None, length, filter, find}
use Rattle.std.specs.List.{list_any, range_with_len}
use Rattle.gg_bits.specs.Lists.{number_or}
use Rattle.gg_cut_plan.specs.declared.wires.Wire.{Wire}
use Rattle.gg_cut_plan.specs.Listed.{first_place}
use Rattle.gg_cut_plan.specs.Direct.{Hub, routes}
use Rattle.gg_cut_reference.specs.Reference.{Views}

-- whether a channel carries signal s
abbrev pub is_carried : Hub → ℕ → Bool
is_carried hub s = list_any (λ r. r.signal == s) (routes hub)

-- the signals of the piped channels, by their numbers
abbrev pub pipes_of : Hub → List ℕ
pipes_of hub = filter (λ s. hub.piped s && is_carried hub s) (range_with_len 0 (length hub.circuit.signals))

-- the signal that the consumer of the channel of signal s gets: the pipe, or s itself
abbrev pub taken_as : Hub → ℕ → ℕ
taken_as hub s = number_or (length hub.circuit.signals) s (first_place (λ p. p == s) (pipes_of hub))

-- what machine m sees as signal t: what it gets if it takes the signal's channel, otherwise t itself
abbrev pub seen_by : Hub → ℕ → ℕ → ℕ
seen_by hub m t = if list_any (λ r. (r.consumer == m) && (r.signal == t)) (routes hub) then taken_as hub t else t

-- the producer of a channel, if there is one
abbrev pub maker_or : ℕ → Option Wire → ℕ
maker_or other None = other
maker_or other (Some w) = w.producer

-- the machine with a signal's driver
abbrev pub maker_of : Hub → ℕ → ℕ
maker_of hub s = maker_or (hub.owner s) (find (λ w. w.signal == s) hub.base)

-- who names what; `holder` has the machine that holds a register, and `keeper` the machine of a memory
abbrev pub views_of : Hub → (ℕ → ℕ) → (ℕ → ℕ) → Views
views_of hub holder keeper = record { maker = maker_of hub; holder = holder; keeper = keeper; seen = seen_by hub; kept = taken_as hub }
