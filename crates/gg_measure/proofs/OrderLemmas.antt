-- Steps in two orders lead to the same network.
use Rattle.std.proofs.Common.{◌≡◌, ℕ, ◌+◌, ◌<◌, List, [], ◌∷◌, Some, length, map, sym, subst, ◌∙◌, arith}
use Rattle.std.specs.Prelude.{IsPermutation}
use Rattle.std.specs.List.{sum_by}
use Rattle.std.proofs.lemmas.List.Sums.{sum_by-cons}
use Rattle.std.proofs.lemmas.List.Sorted.{sum_by-IsPermutation}
use Rattle.gg_flat.specs.Streams.{Flow}
use Rattle.gg_net.specs.declared.event.Event.{Event}
use Rattle.gg_net.specs.Network.{Network, frame_of}
use Rattle.gg_net.specs.Kept.{Kept}
use Rattle.gg_net.specs.Step.{Step}
use Rattle.gg_net.proofs.StepLemmas.{kept-step}
use Rattle.gg_net.proofs.CountLemmas.{counted-once}
use Rattle.gg_net.specs.markings.Marking.{Layout, Marking}
use Rattle.gg_net.specs.inside.LayoutOf.{layout_of}
use Rattle.gg_net.specs.inside.Fits.{HasLayout, marking_of}
use Rattle.gg_net.specs.markings.Steps.{Steps}
use Rattle.gg_net.proofs.MarkingsLemmas.GoesLemmas.{ready-free, step-marks, step-frame}
use Rattle.gg_net.proofs.MarkingsLemmas.StepsLemmas.{steps-kept, steps-frame}
use Rattle.gg_net.proofs.MarkingsLemmas.LayoutLemmas.{has-layout}
use Rattle.gg_net.specs.inside.Counts.{Counts, counts_of, fires, latches, finishes, accesses, Raises, AreSame}
use Rattle.gg_net.proofs.MarkingsLemmas.LeadLemmas.{went, one-marking}
use Rattle.gg_measure.proofs.NetLemmas.{can-run, shape-of, allowed-of}
use Rattle.gg_measure.proofs.WayLemmas.{same-counts}

-- Each count is raised by the number of its events.
record RaisedBy (layout : Layout) (old : Counts) (events : List Event) (new : Counts) : Type 0 where
  pub puts : (c : ℕ) → c < length layout.links → new.puts c ≡ old.puts c + sum_by (λ e. fires e c) events
  pub takes : (c : ℕ) → c < length layout.links → new.takes c ≡ old.takes c + sum_by (λ e. latches e c) events
  pub cycles : (m : ℕ) → m < length layout.turns → new.cycles m ≡ old.cycles m + sum_by (λ e. finishes e m) events
  pub serves : (m : ℕ) → m < length layout.turns → new.serves m ≡ old.serves m + sum_by (λ e. accesses e m) events

module _ (flow : Flow) (layout : Layout) where
  raised : (old : Network) (events : List Event) (new : Network) → Kept flow old → HasLayout (frame_of old) layout → Steps old (map (λ e. Some e) events) new → RaisedBy layout (counts_of layout (marking_of old)) events (counts_of layout (marking_of new))
  raised old [] new kept has steps =
      subst (λ x. RaisedBy layout (counts_of layout (marking_of old)) [] (counts_of layout (marking_of x))) (sym steps)
      (record { puts = λ c known. omega arith; takes = λ c known. omega arith; cycles = λ m known. omega arith; serves = λ m known. omega arith })
  raised old (event ∷ events) new kept has steps =
      let next : Network = steps.0 in
      let step : Step old event next = steps.1 in
      let rest : RaisedBy layout (counts_of layout (marking_of next)) events (counts_of layout (marking_of new)) =
      raised next events new (kept-step flow old event next kept step) (subst (λ frame. HasLayout frame layout) (sym (step-frame old event next step)) has) steps.2 in
      let one : Raises layout (counts_of layout (marking_of old)) event (counts_of layout (marking_of next)) =
      subst (λ (x : Marking). Raises layout (counts_of layout (marking_of old)) event (counts_of layout x)) (sym (step-marks flow old kept layout has event next step))
      (went layout (can-run flow old kept layout has) (marking_of old) event (shape-of flow old kept layout has) (allowed-of flow old kept layout has) (ready-free flow old kept layout has event step.ready)).raises in
      record {
        puts = λ c known. omega (arith, rest.puts c known, one.puts c known, sum_by-cons (λ (e : Event). fires e c) event events);
        takes = λ c known. omega (arith, rest.takes c known, one.takes c known, sum_by-cons (λ (e : Event). latches e c) event events);
        cycles = λ m known. omega (arith, rest.cycles m known, one.cycles m known, sum_by-cons (λ (e : Event). finishes e m) event events);
        serves = λ m known. omega (arith, rest.serves m known, one.serves m known, sum_by-cons (λ (e : Event). accesses e m) event events);
      }

module _ (flow : Flow) (old a b : Network) (events others : List Event) (kept : Kept flow old) (one : Steps old (map (λ e. Some e) events) a) (two : Steps old (map (λ e. Some e) others) b) (permutes : IsPermutation events others) where
  abbrev layout : Layout
  layout = layout_of (frame_of old)

  has : HasLayout (frame_of old) layout
  has = has-layout (frame_of old) kept.sound.wired

  a-kept : Kept flow a
  a-kept = steps-kept flow old (map (λ e. Some e) events) a kept one

  b-kept : Kept flow b
  b-kept = steps-kept flow old (map (λ e. Some e) others) b kept two

  a-frame : frame_of a ≡ frame_of old
  a-frame = steps-frame old (map (λ e. Some e) events) a one

  b-frame : frame_of b ≡ frame_of old
  b-frame = steps-frame old (map (λ e. Some e) others) b two

  a-has : HasLayout (frame_of a) layout
  a-has = subst (λ frame. HasLayout frame layout) (sym a-frame) has

  b-has : HasLayout (frame_of b) layout
  b-has = subst (λ frame. HasLayout frame layout) (sym b-frame) has

  same : AreSame layout (counts_of layout (marking_of b)) (counts_of layout (marking_of a))
  same =
      let by_a : RaisedBy layout (counts_of layout (marking_of old)) events (counts_of layout (marking_of a)) = raised flow layout old events a kept has one in
      let by_b : RaisedBy layout (counts_of layout (marking_of old)) others (counts_of layout (marking_of b)) = raised flow layout old others b kept has two in
      record {
        puts = λ c known. omega (arith, by_a.puts c known, by_b.puts c known, sum_by-IsPermutation (λ (e : Event). fires e c) events others permutes);
        takes = λ c known. omega (arith, by_a.takes c known, by_b.takes c known, sum_by-IsPermutation (λ (e : Event). latches e c) events others permutes);
        cycles = λ m known. omega (arith, by_a.cycles m known, by_b.cycles m known, sum_by-IsPermutation (λ (e : Event). finishes e m) events others permutes);
        serves = λ m known. omega (arith, by_a.serves m known, by_b.serves m known, sum_by-IsPermutation (λ (e : Event). accesses e m) events others permutes);
      }

  pub one-end : a ≡ b
  one-end =
      let frames : frame_of a ≡ frame_of b = a-frame ∙ sym b-frame in
      counted-once flow a b a-kept b-kept frames
      (same-counts a b layout frames a-has b-has (one-marking layout (can-run flow old kept layout has) (marking_of b) (marking_of a) (shape-of flow b b-kept layout b-has) (shape-of flow a a-kept layout a-has) same))
