-- More on Step: definitions that no promise of the program reaches.
-- Source: MEMOCODE 2009 (a node takes a token from each input queue once in a cycle, gives one to each output queue as
-- soon as what it depends on is there and the queue has room, and then finishes the cycle); ICCAD 2019 for memories
-- that are served port by port.
use Rattle.std.specs.Prelude.{ℕ}
use Rattle.gg_node.specs.Machine.{machine_at}
use Rattle.gg_net.specs.declared.event.Event.{Event}
use Rattle.gg_net.specs.declared.event.Event.TheVariants.{Latch, Fire, Serve, Finish}
use Rattle.gg_net.specs.Network.{Network, wire_at}

-- ---- machines of events

-- the machine that does an event: a channel's consumer takes its token, and its producer gives it
abbrev pub machine_of : Network → Event → ℕ
machine_of net (Latch c) = (wire_at net.wires c).consumer
machine_of net (Fire c) = (wire_at net.wires c).producer
machine_of net (Serve m p) = m
machine_of net (Finish m) = m

-- the cycle that the machine of an event is in
abbrev pub cycle_of : Network → Event → ℕ
cycle_of net event = (machine_at net.machines (machine_of net event)).cycle
