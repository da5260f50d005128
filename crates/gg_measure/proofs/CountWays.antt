-- Allowed counts are reached, and no others.
use Rattle.std.proofs.Common.{◌≡◌, ◌↔◌, List, Some, map, refl, sym, subst, arith}
use Rattle.gg_flat.specs.Streams.{Flow}
use Rattle.gg_net.specs.declared.event.Event.{Event}
use Rattle.gg_net.specs.Network.{Network, frame_of}
use Rattle.gg_net.specs.Kept.{Kept}
use Rattle.gg_net.specs.markings.Marking.{Layout, Marking, opening_marking}
use Rattle.gg_net.specs.inside.Fits.{HasLayout, marking_of}
use Rattle.gg_net.specs.markings.Steps.{Steps}
use Rattle.gg_net.proofs.MarkingsLemmas.StepsLemmas.{steps-kept, steps-frame}
use Rattle.gg_net.specs.inside.Counts.{Counts, counts_of, IsAllowed, HasBegun, AreAtMost, AreSame, CanRun, marking_by}
use Rattle.gg_net.specs.inside.Leads.{Leads}
use Rattle.gg_net.proofs.MarkingsLemmas.CountsLemmas.{allowed-same, by-shape, by-same, by-allowed}
use Rattle.gg_net.proofs.MarkingsLemmas.EndLemmas.{opening-lowest}
use Rattle.gg_net.proofs.MarkingsLemmas.LeadLemmas.{leads-up}
use Rattle.gg_measure.specs.inside.At.{IsAt}
use Rattle.gg_measure.proofs.AtLemmas.{is-at, at-once}
use Rattle.gg_measure.proofs.NetLemmas.{can-run, shape-of, allowed-of, begun-of}
use Rattle.gg_measure.proofs.WayLemmas.{leads-net}
use Rattle.gg_net.proofs.MarkingsLemmas.ReachLemmas.{back, begun-by}

up-by : (layout : Layout) (old a b : Counts) → AreAtMost layout old a → AreSame layout a b → AreAtMost layout old b
up-by layout old a b le same =
    record {
      puts = λ c known. omega (arith, le.puts c known, same.puts c known);
      takes = λ c known. omega (arith, le.takes c known, same.takes c known);
      cycles = λ m known. omega (arith, le.cycles m known, same.cycles m known);
      serves = λ m known. omega (arith, le.serves m known, same.serves m known);
    }

pub made-by : (flow : Flow) (old : Network) (layout : Layout) (counts : Counts) → Kept flow old → HasLayout (frame_of old) layout → IsAllowed layout counts → AreAtMost layout (counts_of layout (marking_of old)) counts
    → (events : List Event) × (new : Network) × Steps old (map (λ e. Some e) events) new × AreSame layout counts (counts_of layout (marking_of new))
made-by flow old layout counts kept by allowed le =
    let can : CanRun layout = can-run flow old kept layout by in
    let goal : Marking = marking_by layout counts in
    let way : (events : List Event) × Leads layout (marking_of old) events goal =
    leads-up layout can goal (by-shape layout can counts allowed) (by-allowed layout can counts allowed) (marking_of old) (shape-of flow old kept layout by) (allowed-of flow old kept layout by) (up-by layout (counts_of layout (marking_of old)) counts (counts_of layout goal) le (by-same layout can counts allowed)) in
    let there : (new : Network) × Steps old (map (λ e. Some e) way.0) new × (marking_of new ≡ goal) = leads-net flow layout (frame_of old) by old way.0 goal kept refl way.1 in
    (way.0, there.0, there.1, subst (λ x. AreSame layout counts (counts_of layout x)) (sym there.2) (by-same layout can counts allowed))

-- From a network before its first cycle steps lead to one with these counts exactly if they are allowed and have begun.
pub made-exactly : (flow : Flow) (old : Network) (layout : Layout) (counts : Counts) → Kept flow old → HasLayout (frame_of old) layout → marking_of old ≡ opening_marking layout flow.begin
    → (IsAllowed layout counts × HasBegun layout flow.begin counts) ↔ ((events : List Event) × (new : Network) × Steps old (map (λ e. Some e) events) new × AreSame layout counts (counts_of layout (marking_of new)))
made-exactly flow old layout counts kept has opens = (
  λ both.
      let can : CanRun layout = can-run flow old kept layout has in
      let low : AreAtMost layout (counts_of layout (opening_marking layout flow.begin)) counts = opening-lowest layout can flow.begin (omega (arith, kept.sound.solves.begins, has.end)) counts both.0 both.1 in
      made-by flow old layout counts kept has both.0 (subst (λ (x : Marking). AreAtMost layout (counts_of layout x) counts) (sym opens) low),
  λ made.
      let new_kept : Kept flow made.1 = steps-kept flow old (map (λ e. Some e) made.0) made.1 kept made.2 in
      let new_has : HasLayout (frame_of made.1) layout = subst (λ frame. HasLayout frame layout) (sym (steps-frame old (map (λ e. Some e) made.0) made.1 made.2)) has in
      let same : AreSame layout (counts_of layout (marking_of made.1)) counts = back layout counts (counts_of layout (marking_of made.1)) made.3 in (
        allowed-same layout (can-run flow old kept layout has) (counts_of layout (marking_of made.1)) counts (allowed-of flow made.1 new_kept layout new_has) same,
        begun-by layout flow.begin (counts_of layout (marking_of made.1)) counts (begun-of flow made.1 new_kept layout new_has) same,
      ),
)

-- Steps lead from there to a network with these counts exactly if they are allowed and have begun and it is the one
-- network with them.
pub reached-exactly : (flow : Flow) (old new : Network) (layout : Layout) (counts : Counts) → Kept flow old → HasLayout (frame_of old) layout → marking_of old ≡ opening_marking layout flow.begin
    → (IsAllowed layout counts × HasBegun layout flow.begin counts × IsAt flow (frame_of old) counts new) ↔ ((events : List Event) × Steps old (map (λ e. Some e) events) new × AreSame layout counts (counts_of layout (marking_of new)))
reached-exactly flow old new layout counts kept has opens = (
  λ both.
      let made : (events : List Event) × (net : Network) × Steps old (map (λ e. Some e) events) net × AreSame layout counts (counts_of layout (marking_of net)) =
      (made-exactly flow old layout counts kept has opens).0 (both.0, both.1) in
      let one : made.1 ≡ new = at-once flow (frame_of old) kept.sound counts made.1 new (at-there made.0 made.1 made.2 made.3) both.2 in
      (made.0, subst (Steps old (map (λ e. Some e) made.0)) one made.2, subst (λ net. AreSame layout counts (counts_of layout (marking_of net))) one made.3),
  λ made.
      let both : IsAllowed layout counts × HasBegun layout flow.begin counts = (made-exactly flow old layout counts kept has opens).1 (made.0, new, made.1, made.2) in
      (both.0, both.1, at-there made.0 new made.1 made.2),
)
  where
    at-there : (events : List Event) (net : Network) → Steps old (map (λ e. Some e) events) net → AreSame layout counts (counts_of layout (marking_of net)) → IsAt flow (frame_of old) counts net
    at-there events net steps same =
        let frames : frame_of net ≡ frame_of old = steps-frame old (map (λ e. Some e) events) net steps in
        let net_kept : Kept flow net = steps-kept flow old (map (λ e. Some e) events) net kept steps in
        subst (λ frame. IsAt flow frame counts net) frames (is-at flow net net_kept layout (subst (λ frame. HasLayout frame layout) (sym frames) has) counts same)
