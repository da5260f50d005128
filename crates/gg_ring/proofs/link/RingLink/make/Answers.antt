use Rattle.std.proofs.Common.{sym, ◌∙◌}
use Rattle.gg_ring.proofs.link.RingLink.make.Goals as goal

pub fill-requires-clause-held : goal.fill-requires-clause-held
fill-requires-clause-held g c = (c.requires.held.0, c.in_ok-ring.ensures.put.stream ∙ c.requires.held.1)

pub returns-clause-put : goal.returns-clause-put
returns-clause-put g c = let s = c.settle-put.ensures.put in let f = c.fill.ensures in
    record { stream = s.stream ∙ f.seat.1 ∙ c.in_ok-ring.ensures.put.stream; capacity = s.capacity ∙ sym c.in_ok-ring.ensures.seats.0.1 ∙ c.in_ok-ring.ensures.put.capacity; count = s.count ∙ f.counts.0; seen = s.seen; looks = s.looks }

pub returns-clause-take : goal.returns-clause-take
returns-clause-take g c = let s = c.settle-put.ensures.take in let f = c.fill.ensures in
    record { stream = s.stream ∙ f.seat.1 ∙ c.in_ok-ring.ensures.put.stream; capacity = s.capacity ∙ sym c.in_ok-ring.ensures.seats.0.1 ∙ c.in_ok-ring.ensures.put.capacity; count = s.count; seen = s.seen ∙ f.counts.0; looks = s.looks }
