-- More on Ways: definitions that no promise of the program reaches.
-- Source: MEMOCODE 2009 (a network goes on by steps, one node at a time; its state follows from counts).
use Rattle.std.specs.Prelude.{◌≡◌, List}
use Rattle.gg_flat.specs.Streams.{Flow}
use Rattle.gg_net.specs.declared.event.Event.{Event}
use Rattle.gg_net.specs.Network.{Network, frame_of}
use Rattle.gg_net.specs.Kept.{Kept}
use Rattle.gg_net.specs.markings.Marking.{Layout, opening_marking}
use Rattle.gg_net.specs.inside.Fits.{HasLayout, marking_of}
use Rattle.gg_net.specs.inside.Counts.{Counts, AreSame, HasBegun, IsAllowed, counts_of}
use Rattle.gg_measure.specs.Ways.{StepsBy}

-- a fact about each network with the invariant of a flow, and about its layout
abbrev pub OfEachKept : (Flow → Network → Layout → Type 0) → Type 0
OfEachKept Holds = (flow : Flow) (net : Network) (layout : Layout) → Kept flow net → HasLayout (frame_of net) layout → Holds flow net layout

-- a fact about each of these networks that is before its first cycle
abbrev pub OfEachOpening : (Flow → Network → Layout → Type 0) → Type 0
OfEachOpening Holds = OfEachKept (λ flow net layout. marking_of net ≡ opening_marking layout flow.begin → Holds flow net layout)

-- how often each step of a network was done
abbrev pub counts_in : Layout → Network → Counts
counts_in layout net = counts_of layout (marking_of net)

-- these counts can come up: they are allowed and have begun
abbrev pub CanComeUp : Flow → Layout → Counts → Type 0
CanComeUp flow layout counts = IsAllowed layout counts × HasBegun layout flow.begin counts

-- steps lead from one network to another
abbrev pub LeadsTo : Network → Network → Type 0
LeadsTo old new = (events : List Event) × StepsBy old events new

-- steps lead from one network to another, which has these counts
abbrev pub LeadsToWith : Layout → Network → Counts → Network → Type 0
LeadsToWith layout old counts new = (events : List Event) × StepsBy old events new × AreSame layout counts (counts_in layout new)

-- steps lead from a network to some network with these counts
abbrev pub LeadsToCounts : Layout → Network → Counts → Type 0
LeadsToCounts layout old counts = (events : List Event) × (new : Network) × StepsBy old events new × AreSame layout counts (counts_in layout new)
