-- Lists of events that lead from one marking to another.
-- Source: Commoner, Holt, Even and Pnueli, "Marked Directed Graphs" (1971) (from marking to marking, one firing after
-- another).
use Rattle.std.specs.Prelude.{◌≡◌, List, [], ◌∷◌, None, false, length, replicate}
use Rattle.gg_net.specs.declared.event.Event.{Event}
use Rattle.gg_net.specs.markings.Marking.{Layout, Marking, marked_refusal, after}

-- these events, one after another, are each free and lead from one marking to another
abbrev pub Leads : Layout → Marking → List Event → Marking → Type 0
Leads layout old [] new = new ≡ old
Leads layout old (event ∷ events) new = (marked_refusal layout old event ≡ None) × Leads layout (after layout old event) events new

-- no event can be done
abbrev pub IsStuck : Layout → Marking → Type 0
IsStuck layout marking = (event : Event) → marked_refusal layout marking event ≡ None → ⊥

-- after the last cycle
abbrev pub end_marking : Layout → Marking
end_marking layout =
    record {
      cycles = replicate (length layout.turns) layout.end;
      served = replicate (length layout.turns) 0;
      taken = replicate (length layout.links) false;
      given = replicate (length layout.links) false;
    }
