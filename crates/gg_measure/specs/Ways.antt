-- Networks that steps lead to. These are definitions for the crate's laws about networks, layouts and counts.
-- Source: MEMOCODE 2009 (a network goes on by steps, one node at a time; its state follows from counts).
use Rattle.std.specs.Prelude.{List, Some, map}
use Rattle.gg_net.specs.declared.event.Event.{Event}
use Rattle.gg_net.specs.Network.{Network}
use Rattle.gg_net.specs.markings.Steps.{Steps}

-- these events, one after another, lead from one network to another
abbrev pub StepsBy : Network → List Event → Network → Type 0
StepsBy old events new = Steps old (map (λ e. Some e) events) new
