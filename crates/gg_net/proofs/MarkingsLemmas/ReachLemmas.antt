-- Allowed counts are reached, and no others.
use Rattle.std.proofs.Common.{ℕ, ◌≤◌, ◌↔◌, List, sym, arith}
use Rattle.gg_net.specs.declared.event.Event.{Event}
use Rattle.gg_net.specs.markings.Marking.{Layout, Marking, opening_marking}
use Rattle.gg_net.specs.inside.Counts.{Counts, counts_of, IsAllowed, HasBegun, AreSame, CanRun, marking_by}
use Rattle.gg_net.specs.inside.Leads.{Leads}
use Rattle.gg_net.proofs.MarkingsLemmas.CountsLemmas.{allowed-same, by-shape, by-same, by-allowed}
use Rattle.gg_net.proofs.MarkingsLemmas.EndLemmas.{reached, reaches-allowed}

pub back : (layout : Layout) (a b : Counts) → AreSame layout a b → AreSame layout b a
back layout a b same = record { puts = λ c known. sym (same.puts c known); takes = λ c known. sym (same.takes c known); cycles = λ m known. sym (same.cycles m known); serves = λ m known. sym (same.serves m known) }

pub begun-by : (layout : Layout) (begin : ℕ) (a b : Counts) → HasBegun layout begin a → AreSame layout a b → HasBegun layout begin b
begun-by layout begin a b begun same = record { cycles = λ m known. omega (arith, begun.cycles m known, same.cycles m known) }

pub reached-exactly : (layout : Layout) (begin : ℕ) (counts : Counts) → CanRun layout → begin ≤ layout.end → (IsAllowed layout counts × HasBegun layout begin counts) ↔ ((marking : Marking) × (events : List Event) × Leads layout (opening_marking layout begin) events marking × AreSame layout counts (counts_of layout marking))
reached-exactly layout begin counts can le = (
  λ both.
      let same : AreSame layout counts (counts_of layout (marking_by layout counts)) = by-same layout can counts both.0 in
      let way : (events : List Event) × Leads layout (opening_marking layout begin) events (marking_by layout counts) =
      reached layout can begin le (marking_by layout counts) (by-shape layout can counts both.0) (by-allowed layout can counts both.0) (begun-by layout begin counts (counts_of layout (marking_by layout counts)) both.1 same) in
      (marking_by layout counts, way.0, way.1, same),
  λ found.
      let same : AreSame layout (counts_of layout found.0) counts = back layout counts (counts_of layout found.0) found.3 in
      let is : IsAllowed layout (counts_of layout found.0) × HasBegun layout begin (counts_of layout found.0) = reaches-allowed layout can begin le found.1 found.0 found.2 in
      (allowed-same layout can (counts_of layout found.0) counts is.0 same, begun-by layout begin (counts_of layout found.0) counts is.1 same),
)
