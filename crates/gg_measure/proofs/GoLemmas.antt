-- Steps of a network one after another: what they keep, and where they end.
use Rattle.std.proofs.Common.{◌≡◌, ℕ, suc, ◌+◌, ◌*◌, ◌<◌, ◌≤◌, max, ◌++◌, List, [], ◌∷◌, None, Bool, true, false, ◌||◌, length, refl, ap, sym, subst, ◌∙◌, inl, inr, arith, true≢false}
use Rattle.std.proofs.lemmas.Bool.{cases_lt}
use Rattle.std.proofs.lemmas.List.{length-map}
use Rattle.std.proofs.lemmas.Option.{slice_get_within}
use Rattle.std.proofs.Math.Nat.{mul-le-mul_left}
use Rattle.std.proofs.Math.ListN as exact
use Rattle.gg_node.specs.Machine.{no_machine}
use Rattle.gg_flat.specs.Streams.{Flow}
use Rattle.gg_flat.specs.Line.{value_at}
use Rattle.gg_net.specs.declared.event.Event.{Event}
use Rattle.gg_net.specs.declared.event.Event.TheVariants.{Latch, Fire, Serve, Finish}
use Rattle.gg_net.specs.Network.{Network, Frame, Kind, kind_of, kind_at, frame_of}
use Rattle.gg_net.specs.Kept.{Kept}
use Rattle.gg_net.specs.Step.{Ready, Step}
use Rattle.gg_net.specs.inside.Step.{machine_of}
use Rattle.gg_net.proofs.StepLemmas.{kept-step}
use Rattle.gg_net.proofs.TableLemmas.{latch-can, fire-can, serve-can, finish-can}
use Rattle.gg_net.proofs.ProgressLemmas.{goes-on}
use Rattle.gg_net.specs.markings.Marking.{Layout, Marking, turns_at, marked_puts, marked_takes, marked_refusal, after}
use Rattle.gg_net.specs.inside.Fits.{HasLayout, marking_of}
use Rattle.gg_net.proofs.MarkingsLemmas.CountLemmas.{cycle-at, puts-are, takes-are}
use Rattle.gg_net.proofs.MarkingsLemmas.GoesLemmas.{ready-free, step-marks, step-frame}
use Rattle.gg_net.specs.inside.Counts.{counts_of, fires, latches, finishes, accesses, IsAllowed, Raises}
use Rattle.gg_net.specs.markings.Counts.{dues}
use Rattle.gg_net.proofs.MarkingsLemmas.Free.{Free}
use Rattle.gg_net.specs.inside.Measure.{left}
use Rattle.gg_measure.specs.inside.Nets.{IsAtWork, IsIdle, StepBelow, StepsBelow, Goes, StaysWithin, dues_at, net_left}
use Rattle.gg_net.specs.Network.{AllStandAt, cycle_at}
use Rattle.gg_net.proofs.MarkingsLemmas.SumLemmas.{one-cases}
use Rattle.gg_net.proofs.MarkingsLemmas.FreeLemmas.{is-free}
use Rattle.gg_net.proofs.MarkingsLemmas.LeadLemmas.{Went, went}
use Rattle.gg_net.specs.inside.LayoutOf.{layout_of}
use Rattle.gg_net.proofs.MarkingsLemmas.LayoutLemmas.{has-layout}
use Rattle.gg_net.proofs.MarkingsLemmas.GoesLemmas.{free-ready}
use Rattle.gg_measure.proofs.NetLemmas.{can-run, shape-of, allowed-of, left-is, dues-are, serves-are}
use Rattle.gg_net.proofs.MarkingsLemmas.GoalLemmas.{goes-below, machine_by}

-- ---- the layout

-- a network that is kept has the layout made of its frame
pub laid-out : (flow : Flow) (net : Network) → Kept flow net → HasLayout (frame_of net) (layout_of (frame_of net))
laid-out flow net kept = has-layout (frame_of net) kept.sound.wired

-- ---- one step

module _ (flow : Flow) (net : Network) (kept : Kept flow net) where
  run-by : (new : Network) (layout : Layout) (event : Event) → Step net event new → HasLayout (frame_of net) layout → HasLayout (frame_of new) layout
  run-by new layout event step by = subst (λ frame. HasLayout frame layout) (sym (step-frame net event new step)) by

  -- a step lowers the measure by one
  pub step-falls : (new : Network) (event : Event) → Step net event new → suc (net_left new) ≡ net_left net
  step-falls new event step =
      let layout : Layout = layout_of (frame_of net) in
      let marking : Marking = marking_of net in
      let next : marking_of new ≡ after layout marking event = step-marks flow net kept layout (laid-out flow net kept) event new step in
      let has : Went layout marking event = went layout (can-run flow net kept layout (laid-out flow net kept)) marking event (shape-of flow net kept layout (laid-out flow net kept)) (allowed-of flow net kept layout (laid-out flow net kept)) (ready-free flow net kept layout (laid-out flow net kept) event step.ready) in
      let new_kept : Kept flow new = kept-step flow net event new kept step in
      omega (arith, left-is flow net kept layout (laid-out flow net kept), left-is flow new new_kept layout (run-by new layout event step (laid-out flow net kept)), ap (λ x. left layout (counts_of layout x)) next, has.falls)

  -- the cycle of a machine after an event that finishes no cycle
  same-cycle : (new : Network) (layout : Layout) (event : Event) → HasLayout (frame_of net) layout → Step net event new → (after layout (marking_of net) event).cycles ≡ (marking_of net).cycles → (m : ℕ) → cycle_at new m ≡ cycle_at net m
  same-cycle new layout event has step same m =
      sym (cycle-at new m) ∙ ap (λ (x : Marking). value_at x.cycles m) (step-marks flow net kept layout has event new step) ∙ ap (λ (xs : List ℕ). value_at xs m) same ∙ cycle-at net m

  same-count : (new : Network) (event : Event) → Step net event new → length new.machines ≡ length net.machines
  same-count new event step = sym (length-map new.machines kind_of) ∙ ap (λ (frame : Frame). length frame.kinds) (step-frame net event new step) ∙ length-map net.machines kind_of

  same-dues : (new : Network) (event : Event) → Step net event new → (m : ℕ) → dues_at new m ≡ dues_at net m
  same-dues new event step m =
      ap (λ (kind : Kind). length kind.ports) (sym (exact.get_or-map kind_of new.machines m no_machine) ∙ ap (λ (frame : Frame). kind_at frame.kinds m) (step-frame net event new step) ∙ exact.get_or-map kind_of net.machines m no_machine)

  work-on : (new : Network) (event : Event) (cycle m : ℕ) → (work : IsAtWork cycle m net) → Step net event new → (after (layout_of (frame_of net)) (marking_of net) event).cycles ≡ (marking_of net).cycles → IsAtWork cycle m new
  work-on new event cycle m work step same =
      record {
        there = omega (arith, work.there, same-count new event step);
        below = omega (arith, work.below, same-cycle new (layout_of (frame_of net)) event (laid-out flow net kept) step same m);
      }

  pub work-latch : (new : Network) (c cycle m : ℕ) → IsAtWork cycle m net → Step net (Latch c) new → IsAtWork cycle m new
  work-latch new c cycle m work step = work-on new (Latch c) cycle m work step refl

  pub work-fire : (new : Network) (c cycle m : ℕ) → IsAtWork cycle m net → Step net (Fire c) new → IsAtWork cycle m new
  work-fire new c cycle m work step = work-on new (Fire c) cycle m work step refl

  pub work-serve : (new : Network) (k p cycle m : ℕ) → IsAtWork cycle m net → Step net (Serve k p) new → IsAtWork cycle m new
  work-serve new k p cycle m work step = work-on new (Serve k p) cycle m work step refl

  -- ---- progress

  -- the machine of an event, in a network and in its layout
  machine-is : (layout : Layout) → HasLayout (frame_of net) layout → (event : Event) → Ready net event → machine_by layout event ≡ machine_of net event
  machine-is layout has (Latch c) ready = (has.link c (latch-can net c ready).can.0).consumer
  machine-is layout has (Fire c) ready = (has.link c (fire-can net kept.sound.wired c ready).can.0).producer
  machine-is layout has (Serve m p) ready = refl
  machine-is layout has (Finish m) ready = refl

  not-idle : (event : Event) → Ready net event → IsIdle net (machine_of net event) → ⊥
  not-idle (Latch c) ready idle = idle.latch c (latch-can net c ready).can.0 refl ready
  not-idle (Fire c) ready idle = idle.fire c (fire-can net kept.sound.wired c ready).can.0 refl ready
  not-idle (Serve m p) ready idle = idle.serve p ready
  not-idle (Finish m) ready idle = idle.finish ready

  pub machine-there : (event : Event) → Ready net event → machine_of net event < length net.machines
  machine-there (Latch c) ready = omega (arith, kept.sound.wired.consumer c (latch-can net c ready).can.0, length-map net.machines kind_of)
  machine-there (Fire c) ready = omega (arith, kept.sound.wired.producer c (fire-can net kept.sound.wired c ready).can.0, length-map net.machines kind_of)
  machine-there (Serve m p) ready = (serve-can net kept.sound.wired m p ready).there.0
  machine-there (Finish m) ready = (finish-can net kept.sound.wired m ready).there

  -- If each machine that is below a cycle is idle, and none is above it, all stand at it.
  pub all-stand : (cycle : ℕ) → cycle ≤ net.end → ((m : ℕ) → m < length net.machines → cycle_at net m ≤ cycle) → ((m : ℕ) → m < length net.machines → cycle_at net m < cycle → IsIdle net m) → AllStandAt cycle net
  all-stand cycle within most idle =
      let layout : Layout = layout_of (frame_of net) in
      let count : length layout.turns ≡ length net.machines = (laid-out flow net kept).machines ∙ length-map net.machines kind_of in
      elim (goes-below layout (can-run flow net kept layout (laid-out flow net kept)) cycle (marking_of net) (allowed-of flow net kept layout (laid-out flow net kept)) (omega (arith, within, (laid-out flow net kept).end)) (λ m known. omega (arith, cycle-at net m, most m (omega (arith, known, count))))) [
        | inl found ↦
            let ready : Ready net found.0 = free-ready flow net kept layout (laid-out flow net kept) found.0 found.1 in
            let is : machine_by layout found.0 ≡ machine_of net found.0 = machine-is layout (laid-out flow net kept) found.0 ready in
            absurd (not-idle found.0 ready (idle (machine_of net found.0) (machine-there found.0 ready) (omega (arith, found.2, ap (λ m. value_at (marking_of net).cycles m) is, cycle-at net (machine_of net found.0)))))
        | inr all ↦ λ m known. sym (cycle-at net m) ∙ all m (omega (arith, known, count))
      ]

  -- If no event is ready, all machines stand at the end.
  pub none-ready : ((event : Event) → Ready net event → ⊥) → AllStandAt net.end net
  none-ready none m known =
      elim (cases_lt (cycle_at net m) net.end) [
        | inl lt ↦ let go : (event : Event) × Ready net event = goes-on flow net m kept known lt in absurd (none go.0 go.1)
        | inr le ↦ omega (arith, le, (kept.machines m known).within)
      ]

-- ---- steps one after another

pub goes-none : (cycle : ℕ) (net : Network) → Goes cycle net false net
goes-none cycle net = record { events = []; steps = refl; none = λ is. refl; some = λ is. absurd (true≢false (sym is)) }

pub steps-then : (cycle : ℕ) (a b c : Network) (events more : List Event) → StepsBelow cycle a events b → StepsBelow cycle b more c → StepsBelow cycle a (events ++ more) c
steps-then cycle a b c [] more steps later = subst (λ x. StepsBelow cycle x more c) steps later
steps-then cycle a b c (event ∷ events) more steps later = (steps.0, steps.1, steps-then cycle steps.0 b c events more steps.2 later)

-- no steps lead nowhere
pub goes-still : (cycle : ℕ) (a b : Network) → Goes cycle a false b → b ≡ a
goes-still cycle a b goes = subst (λ es. StepsBelow cycle a es b) (goes.none refl) goes.steps

-- some steps, and then others
pub goes-then : (cycle : ℕ) (a b c : Network) (x y : Bool) → Goes cycle a x b → Goes cycle b y c → Goes cycle a (x || y) c
goes-then cycle a b c true y one two =
    record {
      events = one.events ++ two.events;
      steps = steps-then cycle a b c one.events two.events one.steps two.steps;
      none = λ is. absurd (true≢false is);
      some = λ is. longer one.events two.events (one.some refl);
    }
  where
    longer : (xs ys : List Event) → 0 < length xs → 0 < length (xs ++ ys)
    longer [] ys lt = absurd (omega (arith, lt))
    longer (event ∷ xs) ys lt = omega arith
goes-then cycle a b c false y one two = subst (λ x. Goes cycle x y c) (goes-still cycle a b one) two

-- one step
pub goes-one : (cycle : ℕ) (a b : Network) (event : Event) → Step a event b → cycle_at a (machine_of a event) < cycle → Goes cycle a true b
goes-one cycle a b event step below = record { events = event ∷ []; steps = (b, record { step = step; below = below }, refl); none = λ is. absurd (true≢false is); some = λ is. omega arith }

module _ (flow : Flow) (cycle : ℕ) where
  pub steps-kept : (a : Network) (events : List Event) (b : Network) → Kept flow a → StepsBelow cycle a events b → Kept flow b
  steps-kept a [] b kept steps = subst (Kept flow) (sym steps) kept
  steps-kept a (event ∷ events) b kept steps = steps-kept steps.0 events b (kept-step flow a event steps.0 kept steps.1.step) steps.2

  steps-fall : (a : Network) (events : List Event) (b : Network) → Kept flow a → StepsBelow cycle a events b → length events + net_left b ≡ net_left a
  steps-fall a [] b kept steps = ap (λ x. 0 + net_left x) steps ∙ (let same : 0 + net_left a ≡ net_left a = omega arith in same)
  steps-fall a (event ∷ events) b kept steps =
      omega (arith, steps-fall steps.0 events b (kept-step flow a event steps.0 kept steps.1.step) steps.2, step-falls flow a kept steps.0 event steps.1.step)

  -- steps that were done lower the measure
  pub goes-falls : (a b : Network) → Kept flow a → Goes cycle a true b → net_left b < net_left a
  goes-falls a b kept goes = omega (arith, steps-fall a goes.events b kept goes.steps, goes.some refl)

-- ---- no count passes the cycle

module _ (flow : Flow) (cycle : ℕ) where
  module _ (a b : Network) (event : Event) (kept : Kept flow a) (step : StepBelow cycle a event b) where
    abbrev layout : Layout
    layout = layout_of (frame_of a)

    b_kept : Kept flow b
    b_kept = kept-step flow a event b kept step.step

    by_b : HasLayout (frame_of b) layout
    by_b = run-by flow a kept b layout event step.step (laid-out flow a kept)

    abbrev serves_by : Network → ℕ → ℕ
    serves_by net m = (counts_of layout (marking_of net)).serves m

    next : marking_of b ≡ after layout (marking_of a) event
    next = step-marks flow a kept layout (laid-out flow a kept) event b step.step

    allowed : IsAllowed layout (counts_of layout (marking_of a))
    allowed = allowed-of flow a kept layout (laid-out flow a kept)

    none : marked_refusal layout (marking_of a) event ≡ None
    none = ready-free flow a kept layout (laid-out flow a kept) event step.step.ready

    raises : Raises layout (counts_of layout (marking_of a)) event (counts_of layout (after layout (marking_of a) event))
    raises = (went layout (can-run flow a kept layout (laid-out flow a kept)) (marking_of a) event (shape-of flow a kept layout (laid-out flow a kept)) allowed none).raises

    free : Free layout (counts_of layout (marking_of a)) event
    free = is-free layout (marking_of a) (can-run flow a kept layout (laid-out flow a kept)) allowed event none

    below : value_at (marking_of a).cycles (machine_by layout event) < cycle
    below = omega (arith, step.below, cycle-at a (machine_of a event), ap (λ m. value_at (marking_of a).cycles m) (machine-is flow a kept layout (laid-out flow a kept) event step.step.ready))

    wires-same : b.wires ≡ a.wires
    wires-same = ap (λ (frame : Frame). frame.wires) (step-frame a event b step.step)

    -- a count that an event raises was below the cycle
    finish-low : (e : Event) → Free layout (counts_of layout (marking_of a)) e → value_at (marking_of a).cycles (machine_by layout e) < cycle → (m : ℕ) → value_at (marking_of a).cycles m + finishes e m ≤ max cycle (value_at (marking_of a).cycles m)
    finish-low (Latch d) is lt m = omega arith
    finish-low (Fire d) is lt m = omega arith
    finish-low (Serve k p) is lt m = omega arith
    finish-low (Finish k) is lt m = elim (one-cases k m) [ inl here ↦ omega (arith, here.1, lt, ap (value_at (marking_of a).cycles) here.0) | inr other ↦ omega (arith, other.1) ]

    put-low : (e : Event) → Free layout (counts_of layout (marking_of a)) e → value_at (marking_of a).cycles (machine_by layout e) < cycle → (c : ℕ) → marked_puts layout (marking_of a) c + fires e c ≤ max cycle (marked_puts layout (marking_of a) c)
    put-low (Latch d) is lt c = omega arith
    put-low (Fire d) is lt c = elim (one-cases d c) [ inl here ↦ omega (arith, here.1, lt, is.clear, ap (marked_puts layout (marking_of a)) here.0) | inr other ↦ omega (arith, other.1) ]
    put-low (Serve k p) is lt c = omega arith
    put-low (Finish k) is lt c = omega arith

    take-low : (e : Event) → Free layout (counts_of layout (marking_of a)) e → value_at (marking_of a).cycles (machine_by layout e) < cycle → (c : ℕ) → marked_takes layout (marking_of a) c + latches e c ≤ max cycle (marked_takes layout (marking_of a) c)
    take-low (Latch d) is lt c = elim (one-cases d c) [ inl here ↦ omega (arith, here.1, lt, is.clear, ap (marked_takes layout (marking_of a)) here.0) | inr other ↦ omega (arith, other.1) ]
    take-low (Fire d) is lt c = omega arith
    take-low (Serve k p) is lt c = omega arith
    take-low (Finish k) is lt c = omega arith

    serve-low : (e : Event) → Free layout (counts_of layout (marking_of a)) e → value_at (marking_of a).cycles (machine_by layout e) < cycle → (m : ℕ)
        → serves_by a m + accesses e m ≤ max (dues layout m * cycle) (serves_by a m)
    serve-low (Latch d) is lt m = omega arith
    serve-low (Fire d) is lt m = omega arith
    serve-low (Serve k p) is lt m =
        elim (one-cases k m) [
          | inl here ↦ omega (
            arith,
            here.1,
            ap (serves_by a) here.0,
            ap (λ j. dues layout j * cycle) here.0,
            is.count,
            slice_get_within (turns_at layout k) is.served is.turn is.due,
            mul-le-mul_left (dues layout k) lt,
          )
          | inr other ↦ omega (arith, other.1)
        ]
    serve-low (Finish k) is lt m = omega arith

    step-within : StaysWithin cycle a b
    step-within =
        record {
          cycles = λ m known. omega (arith, cycle-at b m, cycle-at a m, ap (λ (x : Marking). value_at x.cycles m) next, raises.cycles m (omega (arith, known, (laid-out flow a kept).machines, length-map a.machines kind_of)), finish-low event free below m);
          puts = λ c known.
              omega (arith, puts-are a layout (laid-out flow a kept) c known, puts-are b layout by_b c (omega (arith, known, ap length wires-same)), ap (λ (x : Marking). marked_puts layout x c) next, raises.puts c (omega (arith, known, (laid-out flow a kept).channels)), put-low event free below c);
          takes = λ c known.
              omega (arith, takes-are a layout (laid-out flow a kept) c known, takes-are b layout by_b c (omega (arith, known, ap length wires-same)), ap (λ (x : Marking). marked_takes layout x c) next, raises.takes c (omega (arith, known, (laid-out flow a kept).channels)), take-low event free below c);
          serves = λ m known.
              let in_layout : m < length layout.turns = omega (arith, known, (laid-out flow a kept).machines, length-map a.machines kind_of) in
              omega (
                arith,
                serves-are flow a kept layout (laid-out flow a kept) m in_layout,
                serves-are flow b b_kept layout by_b m in_layout,
                ap (λ (x : Marking). (counts_of layout x).serves m) next,
                raises.serves m in_layout,
                serve-low event free below m,
                ap (λ n. n * cycle) (dues-are flow a kept layout (laid-out flow a kept) m in_layout),
              );
        }

  pub steps-within : (a : Network) (events : List Event) (b : Network) → Kept flow a → StepsBelow cycle a events b → StaysWithin cycle a b
  steps-within a [] b kept steps = subst (StaysWithin cycle a) (sym steps) (record { cycles = λ m known. omega arith; puts = λ c known. omega arith; takes = λ c known. omega arith; serves = λ m known. omega arith })
  steps-within a (event ∷ events) b kept steps =
      let one : StaysWithin cycle a steps.0 = step-within a steps.0 event kept steps.1 in
      let rest : StaysWithin cycle steps.0 b = steps-within steps.0 events b (kept-step flow a event steps.0 kept steps.1.step) steps.2 in
      let count : length steps.0.machines ≡ length a.machines = same-count flow a kept steps.0 event steps.1.step in
      let wires : length steps.0.wires ≡ length a.wires = ap (λ (frame : Frame). length frame.wires) (step-frame a event steps.0 steps.1.step) in
      let ports : (m : ℕ) → dues_at steps.0 m ≡ dues_at a m = λ m. same-dues flow a kept steps.0 event steps.1.step m in
      record {
        cycles = λ m known. omega (arith, one.cycles m known, rest.cycles m (omega (arith, known, count)));
        puts = λ c known. omega (arith, one.puts c known, rest.puts c (omega (arith, known, wires)));
        takes = λ c known. omega (arith, one.takes c known, rest.takes c (omega (arith, known, wires)));
        serves = λ m known. omega (arith, one.serves m known, rest.serves m (omega (arith, known, count)), ap (λ n. n * cycle) (ports m));
      }
