-- Steps lead to the network that comes back from workers, and the measure has fallen by at least the number of the events
-- that could be done.
use Rattle.std.proofs.Common.{◌≡◌, ◌≢◌, ℕ, suc, ◌+◌, ◌<◌, ◌≤◌, List, [], ◌∷◌, Some, length, map, refl, sym, ap, subst, ◌∙◌, arith}
use Rattle.std.specs.Prelude.{All, AllPairs, slice_index_or}
use Rattle.std.proofs.lemmas.Option.{same_Some}
use Rattle.gg_flat.specs.Streams.{Flow}
use Rattle.gg_net.specs.declared.event.Event.{Event}
use Rattle.gg_net.specs.declared.event.Event.TheVariants.{Latch, Fire, Serve, Finish}
use Rattle.gg_net.specs.Network.{Network, Frame, frame_of}
use Rattle.gg_net.specs.Kept.{Kept}
use Rattle.gg_net.specs.Refusal.{Turn}
use Rattle.gg_net.specs.Step.{facts_of, Ready}
use Rattle.gg_net.specs.inside.Step.{machine_of}
use Rattle.gg_net.proofs.RowLemmas.{ServeGoes, serve-goes}
use Rattle.gg_net.proofs.TableLemmas.{latch-can, fire-can, serve-can, finish-can}
use Rattle.gg_net.specs.markings.Marking.{Layout}
use Rattle.gg_net.specs.inside.LayoutOf.{layout_of}
use Rattle.gg_net.specs.inside.Fits.{HasLayout, marking_of}
use Rattle.gg_net.specs.markings.Steps.{Steps}
use Rattle.gg_net.proofs.MarkingsLemmas.CountLemmas.{cycle-at, puts-are, takes-are}
use Rattle.gg_net.specs.inside.Counts.{Counts, counts_of, IsAllowed, AreAtMost, fires, latches, finishes, accesses, IsBehind}
use Rattle.gg_net.specs.markings.Measure.{sum_below}
use Rattle.gg_net.specs.inside.Measure.{left_in, left_at, left}
use Rattle.gg_net.proofs.MarkingsLemmas.SumLemmas.{one-elsewhere, sum-same, sum-add, sum-one, sum-none}
use Rattle.gg_net.proofs.MarkingsLemmas.KeepLemmas.{stays-below}
use Rattle.gg_net.proofs.MarkingsLemmas.MeasureLemmas.{left-below}
use Rattle.gg_measure.specs.inside.Nets.{net_left}
use Rattle.gg_net.specs.Network.{cycle_at}
use Rattle.gg_measure.proofs.NetLemmas.{wire-there, machine-there, kind-count, allowed-of, serves-are, left-is}
use Rattle.gg_measure.proofs.GoLemmas.{laid-out}
use Rattle.gg_measure.proofs.WayLemmas.{steps-up}
use Rattle.gg_workers.specs.Work.{IsLater}

-- ---- one event

-- how much an event raises the count of another
abbrev raises_of : Event → Event → ℕ
raises_of e (Latch c) = latches e c
raises_of e (Fire c) = fires e c
raises_of e (Serve m p) = accesses e m
raises_of e (Finish m) = finishes e m

-- two events that could be done raise counts of their own
apart : (net : Network) (e f : Event) → e ≢ f → Ready net e → Ready net f → raises_of e f ≡ 0
apart net (Latch d) (Latch c) other one two = one-elsewhere d c (λ same. other (ap (λ k. Latch k) same))
apart net (Latch d) (Fire c) other one two = refl
apart net (Latch d) (Serve m p) other one two = refl
apart net (Latch d) (Finish m) other one two = refl
apart net (Fire d) (Latch c) other one two = refl
apart net (Fire d) (Fire c) other one two = one-elsewhere d c (λ same. other (ap (λ k. Fire k) same))
apart net (Fire d) (Serve m p) other one two = refl
apart net (Fire d) (Finish m) other one two = refl
apart net (Serve k q) (Latch c) other one two = refl
apart net (Serve k q) (Fire c) other one two = refl
apart net (Serve k q) (Serve m p) other one two =
    one-elsewhere k m (λ same.
    let first : ServeGoes (facts_of net) k q = serve-goes (facts_of net) k q one in
    let second : ServeGoes (facts_of net) m p = serve-goes (facts_of net) m p two in
    let turns : first.due.turn ≡ second.due.turn = same_Some first.due.turn second.due.turn (sym first.due.is ∙ ap (facts_of net).due same ∙ second.due.is) in
    let port : q ≡ p = sym first.due.number ∙ ap (λ (turn : Turn). turn.number) turns ∙ second.due.number in
    other (ap (λ j. Serve j q) same ∙ ap (λ j. Serve m j) port))
apart net (Serve k q) (Finish m) other one two = refl
apart net (Finish k) (Latch c) other one two = refl
apart net (Finish k) (Fire c) other one two = refl
apart net (Finish k) (Serve m p) other one two = refl
apart net (Finish k) (Finish m) other one two = one-elsewhere k m (λ same. other (ap (λ j. Finish j) same))

-- counts after one more event
abbrev raised : Counts → Event → Counts
raised counts e = record { puts = λ c. counts.puts c + fires e c; takes = λ c. counts.takes c + latches e c; cycles = λ m. counts.cycles m + finishes e m; serves = λ m. counts.serves m + accesses e m }

behind-still : (counts goal : Counts) (e f : Event) → raises_of e f ≡ 0 → IsBehind counts goal f → IsBehind (raised counts e) goal f
behind-still counts goal e (Latch c) none behind = omega (arith, none, behind)
behind-still counts goal e (Fire c) none behind = omega (arith, none, behind)
behind-still counts goal e (Serve m p) none behind = omega (arith, none, behind)
behind-still counts goal e (Finish m) none behind = omega (arith, none, behind)

-- what an event does in a channel, and at a machine
abbrev moved_in : Event → ℕ → ℕ
moved_in event c = fires event c + latches event c

abbrev moved_at : Event → ℕ → ℕ
moved_at event m = finishes event m + accesses event m

module _ (layout : Layout) where
  -- the channel or the machine of an event exists
  abbrev IsKnown : Event → Type 0
  IsKnown (Latch c) = c < length layout.links
  IsKnown (Fire c) = c < length layout.links
  IsKnown (Serve m p) = m < length layout.turns
  IsKnown (Finish m) = m < length layout.turns

  one-moved : (event : Event) → IsKnown event → sum_below (moved_in event) (length layout.links) + sum_below (moved_at event) (length layout.turns) ≡ 1
  one-moved (Latch d) known = omega (arith, sum-one (moved_in (Latch d)) d (length layout.links) known (λ c lt. omega arith), sum-none (moved_at (Latch d)) (length layout.turns) (λ m lt. refl))
  one-moved (Fire d) known = omega (arith, sum-one (moved_in (Fire d)) d (length layout.links) known (λ c lt. omega arith), sum-none (moved_at (Fire d)) (length layout.turns) (λ m lt. refl))
  one-moved (Serve k p) known = omega (arith, sum-none (moved_in (Serve k p)) (length layout.links) (λ c lt. refl), sum-one (moved_at (Serve k p)) k (length layout.turns) known (λ m lt. omega arith))
  one-moved (Finish k) known = omega (arith, sum-none (moved_in (Finish k)) (length layout.links) (λ c lt. refl), sum-one (moved_at (Finish k)) k (length layout.turns) known (λ m lt. omega arith))

  -- one event below a goal lowers the measure by one
  one-fallen : (counts goal : Counts) (e : Event) → IsKnown e → IsAllowed layout goal → AreAtMost layout (raised counts e) goal → suc (left layout (raised counts e)) ≡ left layout counts
  one-fallen counts goal e known allowed le =
      let n : ℕ = length layout.links in
      let k : ℕ = length layout.turns in
      let channels : sum_below (left_in layout counts) n ≡ sum_below (left_in layout (raised counts e)) n + sum_below (moved_in e) n =
      sum-same (left_in layout counts) (λ c. left_in layout (raised counts e) c + moved_in e c) n (λ c there. omega (arith, le.puts c there, le.takes c there, allowed.put_end c there, allowed.take_end c there))
      ∙ sum-add (left_in layout (raised counts e)) (moved_in e) n in
      let machines : sum_below (left_at layout counts) k ≡ sum_below (left_at layout (raised counts e)) k + sum_below (moved_at e) k =
      sum-same (left_at layout counts) (λ m. left_at layout (raised counts e) m + moved_at e m) k (λ m there. omega (arith, le.cycles m there, le.serves m there, allowed.cycle_end m there, allowed.serve_end m there))
      ∙ sum-add (left_at layout (raised counts e)) (moved_at e) k in
      omega (arith, channels, machines, one-moved e known)

  -- ---- several events

  all-fallen : (ready : List Event) (counts goal : Counts) → IsAllowed layout goal → AreAtMost layout counts goal → All IsKnown ready → All (λ e. IsBehind counts goal e) ready → AllPairs (λ e f. raises_of e f ≡ 0) ready → length ready + left layout goal ≤ left layout counts
  all-fallen [] counts goal allowed le known behind own = omega (arith, left-below layout counts goal le)
  all-fallen (e ∷ rest) counts goal allowed le known behind own =
      let next : AreAtMost layout (raised counts e) goal = stays-below layout counts (raised counts e) goal le e (behind 0 e (omega arith)) (record { puts = λ c there. refl; takes = λ c there. refl; cycles = λ m there. refl; serves = λ m there. refl }) in
      let others : length rest + left layout goal ≤ left layout (raised counts e) =
      all-fallen rest (raised counts e) goal allowed next
      (λ k d lt. known (suc k) d (omega (arith, lt)))
      (λ k d lt. behind-still counts goal e (slice_index_or rest k d) (own 0 (suc k) d (omega arith) (omega (arith, lt))) (behind (suc k) d (omega (arith, lt))))
      (λ i j d lt less. own (suc i) (suc j) d (omega (arith, lt)) (omega (arith, less))) in
      omega (arith, others, one-fallen counts goal e (known 0 e (omega arith)) allowed next)

-- ---- a network that comes back from workers

module _ (flow : Flow) (upto : ℕ) (old new : Network) (kept : Kept flow old) (later : IsLater flow upto old new) where
  abbrev layout : Layout
  layout = layout_of (frame_of old)

  has : HasLayout (frame_of old) (layout_of (frame_of old))
  has = laid-out flow old kept

  has-new : HasLayout (frame_of new) (layout_of (frame_of old))
  has-new = subst (λ frame. HasLayout frame (layout_of (frame_of old))) (sym later.frame) has

  wires-same : length new.wires ≡ length old.wires
  wires-same = ap (λ (frame : Frame). length frame.wires) later.frame

  module _ (c : ℕ) (there : c < length old.wires) where
    there-new : c < length new.wires
    there-new = omega (arith, there, wires-same)

    channel-known : c < length layout.links
    channel-known = omega (arith, there, has.channels)

  machine-known : (m : ℕ) → m < length old.machines → m < length layout.turns
  machine-known m there = omega (arith, there, has.machines, kind-count flow old kept layout has)

  up : AreAtMost layout (counts_of layout (marking_of old)) (counts_of layout (marking_of new))
  up =
      record {
        puts = λ c known. let there : c < length old.wires = wire-there flow old kept layout has c known in omega (arith, (later.counts.puts c there).up, puts-are old layout has c there, puts-are new layout has-new c (there-new c there));
        takes = λ c known. let there : c < length old.wires = wire-there flow old kept layout has c known in omega (arith, (later.counts.takes c there).up, takes-are old layout has c there, takes-are new layout has-new c (there-new c there));
        cycles = λ m known. omega (arith, (later.counts.cycles m (machine-there flow old kept layout has m known)).up, cycle-at old m, cycle-at new m);
        serves = λ m known. omega (arith, (later.counts.serves m (machine-there flow old kept layout has m known)).up, serves-are flow old kept layout has m known, serves-are flow new later.kept layout has-new m known);
      }

  pub steps-of : (events : List Event) × Steps old (map (λ e. Some e) events) new
  steps-of = steps-up flow old new layout kept later.kept later.frame has up

  behind : (e : Event) → Ready old e → cycle_at old (machine_of old e) < upto → IsBehind (counts_of layout (marking_of old)) (counts_of layout (marking_of new)) e
  behind (Latch c) ready below = let can = latch-can old c ready in omega (arith, later.done.latch c ready below, takes-are old layout has c can.can.0, takes-are new layout has-new c (there-new c can.can.0))
  behind (Fire c) ready below = let can = fire-can old kept.sound.wired c ready in omega (arith, later.done.fire c ready below, puts-are old layout has c can.can.0, puts-are new layout has-new c (there-new c can.can.0))
  behind (Serve m p) ready below = let known = machine-known m (serve-can old kept.sound.wired m p ready).there.0 in omega (arith, later.done.serve m p ready below, serves-are flow old kept layout has m known, serves-are flow new later.kept layout has-new m known)
  behind (Finish m) can below = omega (arith, later.done.finish m can below, cycle-at old m, cycle-at new m)

  known-event : (e : Event) → Ready old e → IsKnown layout e
  known-event (Latch c) ready = channel-known c (latch-can old c ready).can.0
  known-event (Fire c) ready = channel-known c (fire-can old kept.sound.wired c ready).can.0
  known-event (Serve m p) ready = machine-known m (serve-can old kept.sound.wired m p ready).there.0
  known-event (Finish m) ready = machine-known m (finish-can old kept.sound.wired m ready).there

  pub falls-by-ready : (ready : List Event) → AllPairs (λ a b. a ≢ b) ready → All (λ e. Ready old e × (cycle_at old (machine_of old e) < upto)) ready → length ready + net_left new ≤ net_left old
  falls-by-ready ready distinct could =
      let fallen : length ready + left layout (counts_of layout (marking_of new)) ≤ left layout (counts_of layout (marking_of old)) =
      all-fallen layout ready (counts_of layout (marking_of old)) (counts_of layout (marking_of new)) (allowed-of flow new later.kept layout has-new) up
      (λ k d lt. known-event (slice_index_or ready k d) (could k d lt).0)
      (λ k d lt. behind (slice_index_or ready k d) (could k d lt).0 (could k d lt).1)
      (λ i j d lt less. apart old (slice_index_or ready i d) (slice_index_or ready j d) (distinct i j d lt less) (could i d (omega (arith, lt, less))).0 (could j d less).0) in
      omega (arith, fallen, left-is flow old kept layout has, left-is flow new later.kept layout has-new)
