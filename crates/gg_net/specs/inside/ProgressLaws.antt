-- Which counts steps lead to, and how many steps there are.
-- Source: Commoner, Holt, Even and Pnueli, "Marked Directed Graphs" (1971) (the markings that can be reached);
-- Dijkstra, "A Discipline of Programming" (1976) (a number that each step lowers).
use Rattle.std.specs.Prelude.{◌≡◌, ◌↔◌, ℕ, suc, ◌+◌, ◌-◌, ◌*◌, ◌<◌, ◌≤◌, ◌++◌, List, [], ◌∷◌, Option, None, Ok, length}
use Rattle.gg_net.specs.declared.event.Event.{Event}
use Rattle.gg_net.specs.markings.Marking.{Layout, Marking, opening_marking, marked_refusal, after}
use Rattle.gg_net.specs.markings.Goes.{replayed_from}
use Rattle.gg_net.specs.inside.Counts.{Counts, counts_of, HasBegun, IsAllowed, AreAtMost, AreSame, Raises, CanRun, IsMarkingOf}
use Rattle.gg_net.specs.inside.Measure.{left}
use Rattle.gg_net.specs.markings.Measure.{all_dues}
use Rattle.gg_net.specs.inside.Leads.{Leads, IsStuck, end_marking}

-- ---- one step

-- Something holds of each event that may be done.
abbrev pub OfFreeEvents : (Layout → Marking → Event → Type 0) → Type 0
OfFreeEvents Holds =
    (layout : Layout) (old : Marking) (event : Event)
    -- The layout can run, and the marking is one of it, with allowed counts.
    → CanRun layout → IsMarkingOf layout old → IsAllowed layout (counts_of layout old)
    -- The event may be done.
    → marked_refusal layout old event ≡ None
    -- This holds of it.
    → Holds layout old event

-- An event that may be done raises its own count by one and no other.
abbrev pub EventsRaise : Type 0
EventsRaise = OfFreeEvents (λ layout old event. Raises layout (counts_of layout old) event (counts_of layout (after layout old event)))

-- It leaves counts that are allowed.
abbrev pub EventsKeepAllowed : Type 0
EventsKeepAllowed = OfFreeEvents (λ layout old event. IsAllowed layout (counts_of layout (after layout old event)))

-- It lowers the measure by one.
abbrev pub EventsLower : Type 0
EventsLower = OfFreeEvents (λ layout old event. suc (left layout (counts_of layout (after layout old event))) ≡ left layout (counts_of layout old))

-- ---- the opening

-- The opening is lower than all other counts that have begun.
abbrev pub OpeningIsLowest : Type 0
OpeningIsLowest =
    (layout : Layout) (begin : ℕ) (counts : Counts)
    -- The layout can run, and the beginning isn't past its end.
    → CanRun layout → begin ≤ layout.end
    -- These counts are allowed, and no machine is before the beginning.
    → IsAllowed layout counts → HasBegun layout begin counts
    -- The counts of the opening are at most these.
    → AreAtMost layout (counts_of layout (opening_marking layout begin)) counts

-- The measure of the opening is a product.
abbrev pub OpeningMeasure : Type 0
OpeningMeasure =
    (layout : Layout) (begin : ℕ)
    -- The layout can run, and the beginning isn't past its end.
    → CanRun layout → begin ≤ layout.end
    -- Each cycle that is left has two steps for each channel, one for each machine, and one for each served port.
    → left layout (counts_of layout (opening_marking layout begin))
    ≡ (layout.end - begin) * (2 * length layout.links + length layout.turns + all_dues layout)

-- ---- events one after another

-- Events lead from allowed counts to all allowed counts that are nowhere lower.
abbrev pub LeadsUp : Type 0
LeadsUp =
    (layout : Layout) (old new : Marking)
    -- The layout can run, and both markings are of it.
    → CanRun layout → IsMarkingOf layout old → IsMarkingOf layout new
    -- The counts of both are allowed, and the first counts are at most the second.
    → IsAllowed layout (counts_of layout old) → IsAllowed layout (counts_of layout new)
    → AreAtMost layout (counts_of layout old) (counts_of layout new)
    -- There are events that lead from the first to the second.
    → (events : List Event) × Leads layout old events new

-- They lead to no others.
abbrev pub LeadsOnlyUp : Type 0
LeadsOnlyUp =
    (layout : Layout) (old new : Marking) (events : List Event)
    -- The layout can run, and the first marking is one of it, with allowed counts.
    → CanRun layout → IsMarkingOf layout old → IsAllowed layout (counts_of layout old)
    -- The events lead from the first marking to the second.
    → Leads layout old events new
    -- The second is a marking of the layout, its counts are allowed, and the first counts are at most these.
    → IsMarkingOf layout new × IsAllowed layout (counts_of layout new) × AreAtMost layout (counts_of layout old) (counts_of layout new)

-- Events that can't be lengthened lead to the end, and their number is the measure.
abbrev pub StuckAtEnd : Type 0
StuckAtEnd =
    (layout : Layout) (old new : Marking) (events : List Event)
    -- The layout can run, and the first marking is one of it, with allowed counts.
    → CanRun layout → IsMarkingOf layout old → IsAllowed layout (counts_of layout old)
    -- The events lead to a marking that allows no event.
    → Leads layout old events new → IsStuck layout new
    -- It is the marking at the end, and the number of events is the measure of the first marking.
    → (new ≡ end_marking layout) × (length events ≡ left layout (counts_of layout old))

-- Exactly the counts that are allowed and have begun can be reached from the opening.
abbrev pub ReachedIfAllowed : Type 0
ReachedIfAllowed =
    (layout : Layout) (begin : ℕ) (counts : Counts)
    -- The layout can run, and the beginning isn't past its end.
    → CanRun layout → begin ≤ layout.end
    -- The counts are allowed, and no machine is before the beginning,
    → (IsAllowed layout counts × HasBegun layout begin counts)
    -- exactly if events lead from the opening to a marking with these counts.
    ↔ ((marking : Marking) × (events : List Event) × Leads layout (opening_marking layout begin) events marking
    × AreSame layout counts (counts_of layout marking))

-- ---- steps that are replayed

-- Something holds of steps that are replayed to their end.
abbrev pub OfReplayed : (Layout → ℕ → Marking → List (Option Event) → Marking → Type 0) → Type 0
OfReplayed Holds =
    (layout : Layout) (k : ℕ) (old new : Marking) (events : List (Option Event))
    -- The layout can run, and the first marking is one of it, with allowed counts.
    → CanRun layout → IsMarkingOf layout old → IsAllowed layout (counts_of layout old)
    -- The steps, the first with number `k`, are replayed from the first marking to the second.
    → replayed_from layout k old events ≡ Ok new
    -- This holds of them.
    → Holds layout k old events new

-- The number of steps and the measure after them add up to the measure before them.
abbrev pub ReplayedLower : Type 0
ReplayedLower = OfReplayed (λ layout k old events new. length events + left layout (counts_of layout new) ≡ left layout (counts_of layout old))

-- One more step can be replayed after these exactly if their number is below the measure before them.
abbrev pub ReplayedWhileLeft : Type 0
ReplayedWhileLeft =
    OfReplayed (λ layout k old events new. (length events < left layout (counts_of layout old))
    ↔ ((event : Option Event) × (next : Marking) × (replayed_from layout k old (events ++ event ∷ []) ≡ Ok next)))
