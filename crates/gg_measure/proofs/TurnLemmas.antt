-- The turn of a machine, event by event.
use Rattle.std.proofs.Common.{◌≡◌, ℕ, ◌+◌, ◌<◌, ◌≤◌, List, [], ◌∷◌, Option, Some, None, MatchOption, Bool, true, false, ◌||◌, MatchBool, length, refl, ap, sym, subst, ◌∙◌, inl, inr, arith, true≢false}
use Rattle.std.proofs.lemmas.Bool.{cases_lt}
use Rattle.std.proofs.lemmas.List.{length-map}
use Rattle.std.proofs.Math.ListN as exact
use Rattle.gg_flat.specs.Streams.{Flow}
use Rattle.gg_node.specs.Machine.{no_machine, machine_at}
use Rattle.gg_net.specs.declared.event.Event.{Event}
use Rattle.gg_net.specs.declared.event.Event.TheVariants.{Latch, Fire, Serve, Finish}
use Rattle.gg_net.specs.declared.shape.Wire.{Wire}
use Rattle.gg_net.specs.Network.{Network, Frame, Kind, wire_at, kind_of, kind_at, frame_of, IsAtIn, IsAtOut}
use Rattle.gg_net.specs.Kept.{Kept}
use Rattle.gg_net.specs.Step.{facts_of, Ready, Step}
use Rattle.gg_net.specs.inside.Step.{machine_of}
use Rattle.gg_net.proofs.WireLemmas.{one-in, one-out}
use Rattle.gg_net.proofs.RowLemmas.{latch-goes, fire-goes, serve-goes, finish-goes}
use Rattle.gg_net.proofs.TableLemmas.{port-there, latch-can, fire-can, serve-can, finish-can}
use Rattle.gg_net.proofs.MarkingsLemmas.GoesLemmas.{step-frame}
use Rattle.gg_measure.specs.inside.Nets.{IsAtWork, NoLatch, NoFire, NoServe, IsIdle, StepsBelow, StaysWithin, HasRun, Goes}
use Rattle.gg_net.specs.Network.{AllStandAt, cycle_at}
use Rattle.gg_measure.specs.inside.Turns.{HasTried, HasServedOne, HadTurn, HasGoneRound, NoneFound}
use Rattle.gg_measure.proofs.GoLemmas.{goes-none, goes-one, goes-then, goes-still, goes-falls, steps-kept, steps-within, all-stand, none-ready, machine-there, work-latch, work-fire, work-serve}

or-true : (x : Bool) → (x || true) ≡ true
or-true true = refl
or-true false = refl

-- ---- the channels of a machine

pub none-tried : (event_of : ℕ → Event) (IsAt : List Wire → ℕ → ℕ → ℕ → Type 0) (cycle m : ℕ) (net : Network) → IsAtWork cycle m net → HasTried event_of IsAt cycle m 0 net false net
none-tried event_of IsAt cycle m net work = record { work = work; goes = goes-none cycle net; none = λ is i c lt. absurd (omega (arith, lt)) }

-- one more was tried
one-tried : (event_of : ℕ → Event) (IsAt : List Wire → ℕ → ℕ → ℕ → Type 0) (cycle m count d : ℕ) (old net new : Network) (moved done : Bool)
    → HasTried event_of IsAt cycle m count old moved net → ((c : ℕ) → IsAt net.wires m count c → c ≡ d) → cycle_at net (machine_of net (event_of d)) < cycle → (Step net (event_of d) new → IsAtWork cycle m new)
    → MatchBool done (Step net (event_of d) new) ((new ≡ net) × (Ready net (event_of d) → ⊥)) → HasTried event_of IsAt cycle m (count + 1) old (moved || done) new
one-tried event_of IsAt cycle m count d old net new moved true tried one below on step =
    record {
      work = on step;
      goes = goes-then cycle old net new moved true tried.goes (goes-one cycle net new (event_of d) step below);
      none = λ is. absurd (true≢false (sym (or-true moved) ∙ is));
    }
one-tried event_of IsAt cycle m count d old net new moved false tried one below on both =
    subst (λ x. HasTried event_of IsAt cycle m (count + 1) old (moved || false) x) (sym both.0)
    (record {
      work = tried.work;
      goes = goes-then cycle old net net moved false tried.goes (goes-none cycle net);
      none = λ is i c lt at ready.
          elim (cases_lt i count) [
            | inl before ↦ tried.none (was-false moved is) i c before at ready
            | inr past ↦
                let same : i ≡ count = omega (arith, lt, past) in
                both.1 (subst (λ e. Ready net (event_of e)) (one c (subst (λ j. IsAt net.wires m j c) same at)) ready)
          ];
    })
  where
    was-false : (x : Bool) → (x || false) ≡ false → x ≡ false
    was-false true is = is
    was-false false is = refl

module _ (flow : Flow) (cycle m count d : ℕ) (old net new : Network) (moved done : Bool) (kept : Kept flow net) where
  pub latch-tried : HasTried (λ c. Latch c) IsAtIn cycle m count old moved net → IsAtIn net.wires m count d → MatchBool done (Step net (Latch d) new) ((new ≡ net) × (Ready net (Latch d) → ⊥)) → HasTried (λ c. Latch c) IsAtIn cycle m (count + 1) old (moved || done) new
  latch-tried tried at answer =
      one-tried (λ c. Latch c) IsAtIn cycle m count d old net new moved done tried
      (λ c here. one-in (frame_of net) kept.sound.wired c d here.known at.known (here.machine ∙ sym at.machine) (here.place ∙ sym at.place))
      (omega (arith, tried.work.below, ap (cycle_at net) at.machine))
      (λ step. work-latch flow net kept new d cycle m tried.work step) answer

  pub fire-tried : HasTried (λ c. Fire c) IsAtOut cycle m count old moved net → IsAtOut net.wires m count d → MatchBool done (Step net (Fire d) new) ((new ≡ net) × (Ready net (Fire d) → ⊥)) → HasTried (λ c. Fire c) IsAtOut cycle m (count + 1) old (moved || done) new
  fire-tried tried at answer =
      one-tried (λ c. Fire c) IsAtOut cycle m count d old net new moved done tried
      (λ c here. one-out (frame_of net) kept.sound.wired c d here.known at.known (here.machine ∙ sym at.machine) (here.out ∙ sym at.out))
      (omega (arith, tried.work.below, ap (cycle_at net) at.machine))
      (λ step. work-fire flow net kept new d cycle m tried.work step) answer

-- ---- the numbers of ins and outs stay

pub steps-frame : (cycle : ℕ) (a : Network) (events : List Event) (b : Network) → StepsBelow cycle a events b → frame_of b ≡ frame_of a
steps-frame cycle a [] b steps = ap frame_of steps
steps-frame cycle a (event ∷ events) b steps = steps-frame cycle steps.0 events b steps.2 ∙ step-frame a event steps.0 steps.1.step

module _ (cycle : ℕ) (a b : Network) (moved : Bool) (goes : Goes cycle a moved b) where
  pub goes-frame : frame_of b ≡ frame_of a
  goes-frame = steps-frame cycle a goes.events b goes.steps

  goes-kind : (m : ℕ) → kind_of (machine_at b.machines m) ≡ kind_of (machine_at a.machines m)
  goes-kind m = sym (exact.get_or-map kind_of b.machines m no_machine) ∙ ap (λ (frame : Frame). kind_at frame.kinds m) goes-frame ∙ exact.get_or-map kind_of a.machines m no_machine

  pub goes-ins : (m : ℕ) → length (machine_at b.machines m).latches ≡ length (machine_at a.machines m).latches
  goes-ins m = ap (λ (kind : Kind). kind.ins) (goes-kind m)

  pub goes-outs : (m : ℕ) → length (machine_at b.machines m).flags ≡ length (machine_at a.machines m).flags
  goes-outs m = ap (λ (kind : Kind). kind.outs) (goes-kind m)

  pub goes-count : length b.machines ≡ length a.machines
  goes-count = sym (length-map b.machines kind_of) ∙ ap (λ (frame : Frame). length frame.kinds) goes-frame ∙ length-map a.machines kind_of

-- ---- all channels of a machine were tried

module _ (flow : Flow) (cycle m count : ℕ) (old new : Network) (moved : Bool) (kept : Kept flow old) where
  new-kept : Goes cycle old moved new → Kept flow new
  new-kept goes = steps-kept flow cycle old goes.events new kept goes.steps

  pub all-latched : count ≡ length (machine_at old.machines m).latches → HasTried (λ c. Latch c) IsAtIn cycle m count old moved new → moved ≡ false → NoLatch new m
  all-latched is tried none c known at ready =
      let new_wired : (wire_at new.wires c).place < (kind_at (frame_of new).kinds (wire_at new.wires c).consumer).ins = (new-kept tried.goes).sound.wired.place c known in
      let ins : (kind_at (frame_of new).kinds (wire_at new.wires c).consumer).ins ≡ count =
      ap (λ k. (kind_at (frame_of new).kinds k).ins) at ∙ ap (λ (kind : Kind). kind.ins) (exact.get_or-map kind_of new.machines m no_machine) ∙ goes-ins cycle old new moved tried.goes m ∙ sym is in
      tried.none none (wire_at new.wires c).place c (omega (arith, new_wired, ins)) (record { known = known; machine = at; place = refl }) ready

  pub all-fired : count ≡ length (machine_at old.machines m).flags → HasTried (λ c. Fire c) IsAtOut cycle m count old moved new → moved ≡ false → NoFire new m
  all-fired is tried none c known at ready =
      let new_wired : (wire_at new.wires c).out < (kind_at (frame_of new).kinds (wire_at new.wires c).producer).outs = (new-kept tried.goes).sound.wired.out c known in
      let outs : (kind_at (frame_of new).kinds (wire_at new.wires c).producer).outs ≡ count =
      ap (λ k. (kind_at (frame_of new).kinds k).outs) at ∙ ap (λ (kind : Kind). kind.outs) (exact.get_or-map kind_of new.machines m no_machine) ∙ goes-outs cycle old new moved tried.goes m ∙ sym is in
      tried.none none (wire_at new.wires c).out c (omega (arith, new_wired, outs)) (record { known = known; machine = at; out = refl }) ready

-- ---- serving

module _ (flow : Flow) (cycle m : ℕ) (old new : Network) (kept : Kept flow old) (work : IsAtWork cycle m old) where
  pub served-one : (done : Bool) → MatchBool done ((p : ℕ) × Step old (Serve m p) new) ((new ≡ old) × NoServe old m) → MatchBool done (HasServedOne cycle m old new) ((new ≡ old) × NoServe old m)
  served-one true step =
      let goes : Goes cycle old true new = goes-one cycle old new (Serve m step.0) step.1 work.below in
      record { work = work-serve flow old kept new m step.0 cycle m work step.1; goes = goes; falls = goes-falls flow cycle old new kept goes }
  served-one false both = both

pub served-more : (cycle m : ℕ) (old net new : Network) (moved : Bool) → Goes cycle old moved net → HasServedOne cycle m net new → Goes cycle old true new
served-more cycle m old net new moved goes one = subst (λ b. Goes cycle old b new) (or-true moved) (goes-then cycle old net new moved true goes one.goes)

-- ---- the whole turn

or-false : (x y : Bool) → (x || y) ≡ false → (x ≡ false) × (y ≡ false)
or-false true y is = absurd (true≢false is)
or-false false y is = (refl, is)

module _ (flow : Flow) (cycle m : ℕ) (a b c d e : Network) (latched fired served finished : Bool)
    (ab : Goes cycle a latched b) (no_latch : latched ≡ false → NoLatch b m) (bc : Goes cycle b fired c) (no_fire : fired ≡ false → NoFire c m) (cd : Goes cycle c served d) (no_serve : NoServe d m) (work : IsAtWork cycle m d)
    (kept : Kept flow d) where
  whole : (done : Bool) → MatchBool done (Step d (Finish m) e) ((e ≡ d) × (Ready d (Finish m) → ⊥)) → HadTurn cycle m a (((latched || fired) || served) || done) e
  whole true step =
      record {
        goes = goes-then cycle a d e ((latched || fired) || served) true (goes-then cycle a c d (latched || fired) served (goes-then cycle a b c latched fired ab bc) cd) (goes-one cycle d e (Finish m) step work.below);
        idle = λ is. absurd (true≢false (sym (or-true ((latched || fired) || served)) ∙ is));
      }
  whole false both =
      record {
        goes = goes-then cycle a d e ((latched || fired) || served) false (goes-then cycle a c d (latched || fired) served (goes-then cycle a b c latched fired ab bc) cd) (subst (λ x. Goes cycle d false x) (sym both.0) (goes-none cycle d));
        idle = λ is.
            let three : ((latched || fired) || served ≡ false) × (false ≡ false) = or-false' ((latched || fired) || served) is in
            let two : ((latched || fired) ≡ false) × (served ≡ false) = or-false (latched || fired) served three.0 in
            let one : (latched ≡ false) × (fired ≡ false) = or-false latched fired two.0 in
            let bc_same : c ≡ b = goes-still cycle b c (subst (λ x. Goes cycle b x c) one.1 bc) in
            let cd_same : d ≡ c = goes-still cycle c d (subst (λ x. Goes cycle c x d) two.1 cd) in
            subst (λ x. IsIdle x m) (sym both.0)
            (record {
              latch = subst (λ x. NoLatch x m) (sym (cd_same ∙ bc_same)) (no_latch one.0);
              fire = subst (λ x. NoFire x m) (sym cd_same) (no_fire one.1);
              serve = no_serve;
              finish = both.1;
            });
      }
    where
      or-false' : (x : Bool) → (x || false) ≡ false → (x ≡ false) × (false ≡ false)
      or-false' true is = absurd (true≢false is)
      or-false' false is = (refl, refl)

  pub whole-turn : MatchBool finished (Step d (Finish m) e) ((e ≡ d) × (Ready d (Finish m) → ⊥)) → HadTurn cycle m a (((latched || fired) || served) || finished) e
  whole-turn answer = whole finished answer

-- ---- a round

pub none-round : (cycle : ℕ) (net : Network) → HasGoneRound cycle 0 net false net
none-round cycle net = record { goes = goes-none cycle net; idle = λ is m lt. absurd (omega (arith, lt)) }

pub more-round : (cycle m : ℕ) (old net new : Network) (moved done : Bool) → HasGoneRound cycle m old moved net → Goes cycle net done new → (done ≡ false → cycle_at new m < cycle → IsIdle new m) → HasGoneRound cycle (m + 1) old (moved || done) new
more-round cycle m old net new moved done round goes idle =
    record {
      goes = goes-then cycle old net new moved done round.goes goes;
      idle = λ is k lt below.
          let both : (moved ≡ false) × (done ≡ false) = or-false moved done is in
          elim (cases_lt k m) [
            | inl before ↦
                let same : new ≡ net = goes-still cycle net new (subst (λ x. Goes cycle net x new) both.1 goes) in
                subst (λ x. IsIdle x k) (sym same) (round.idle both.0 k before (subst (λ x. cycle_at x k < cycle) same below))
            | inr past ↦
                let is_m : m ≡ k = omega (arith, lt, past) in
                subst (λ j. IsIdle new j) is_m (idle both.1 (omega (arith, below, ap (cycle_at new) is_m)))
          ];
    }

-- ---- the end of a run

module _ (flow : Flow) (cycle : ℕ) (start net new : Network) (moved done : Bool) (start_kept : Kept flow start)
    (before : Goes cycle start moved net) (round : HasGoneRound cycle (length net.machines) net done new) where
  all-steps : Goes cycle start (moved || done) new
  all-steps = goes-then cycle start net new moved done before round.goes

  pub run-frame : frame_of new ≡ frame_of start
  run-frame = goes-frame cycle start new (moved || done) all-steps

  pub run-bounds : StaysWithin cycle start new
  run-bounds = steps-within flow cycle start all-steps.events new start_kept all-steps.steps

  pub has-run : HasRun cycle start new
  has-run = record { events = all-steps.events; steps = all-steps.steps }

  pub run-ends : done ≡ false → Kept flow new → cycle ≤ start.end → ((m : ℕ) → m < length start.machines → cycle_at start m ≤ cycle) → AllStandAt cycle new
  run-ends none kept within most =
      all-stand flow new kept cycle (omega (arith, within, ap (λ (frame : Frame). frame.end) (goes-frame cycle start new (moved || done) all-steps)))
      (λ m known.
      let there : m < length start.machines = omega (arith, known, goes-count cycle start new (moved || done) all-steps) in
      omega (arith, run-bounds.cycles m there, most m there))
      (λ m known below. round.idle none m (omega (arith, known, goes-count cycle net new done round.goes)) below)

-- ---- a search for an event

pub none-found : (net : Network) → NoneFound net 0 0
none-found net = record { latches = λ c lt. absurd (omega (arith, lt)); fires = λ c lt. absurd (omega (arith, lt)); serves = λ m lt. absurd (omega (arith, lt)); finishes = λ m lt. absurd (omega (arith, lt)) }

up-to : (P : ℕ → Type 0) (n : ℕ) → ((k : ℕ) → k < n → P k) → P n → (k : ℕ) → k < n + 1 → P k
up-to P n before here k lt =
    elim (cases_lt k n) [
      | inl less ↦ before k less
      | inr past ↦ let same : n ≡ k = omega (arith, lt, past) in subst P same here
    ]

pub channel-found : (net : Network) (n : ℕ) → NoneFound net n 0 → (Ready net (Latch n) → ⊥) × (Ready net (Fire n) → ⊥) → NoneFound net (n + 1) 0
channel-found net n none both =
    record {
      latches = up-to (λ k. Ready net (Latch k) → ⊥) n none.latches both.0;
      fires = up-to (λ k. Ready net (Fire k) → ⊥) n none.fires both.1;
      serves = none.serves;
      finishes = none.finishes;
    }

pub machine-found : (net : Network) (channels n : ℕ) → NoneFound net channels n → NoServe net n × (Ready net (Finish n) → ⊥) → NoneFound net channels (n + 1)
machine-found net channels n none both =
    record {
      latches = none.latches;
      fires = none.fires;
      serves = up-to (λ k. NoServe net k) n none.serves both.0;
      finishes = up-to (λ k. Ready net (Finish k) → ⊥) n none.finishes both.1;
    }

no-event : (net : Network) → NoneFound net (length net.wires) (length net.machines) → (event : Event) → Ready net event → ⊥
no-event net none (Latch c) ready = none.latches c (latch-goes (facts_of net) c ready).known ready
no-event net none (Fire c) ready = none.fires c (fire-goes (facts_of net) c ready).known ready
no-event net none (Serve m p) ready = none.serves m (port-there net m p (serve-goes (facts_of net) m p ready).port) p ready
no-event net none (Finish m) ready = none.finishes m (finish-goes (facts_of net) m ready).there ready

module _ (flow : Flow) (net : Network) (kept : Kept flow net) where
  below-end : (event : Event) → Ready net event → cycle_at net (machine_of net event) < net.end
  below-end (Latch c) ready = (latch-can net c ready).can.1
  below-end (Fire c) ready = (fire-can net kept.sound.wired c ready).can.1
  below-end (Serve m p) ready = (serve-can net kept.sound.wired m p ready).below
  below-end (Finish m) ready = (finish-can net kept.sound.wired m ready).below

  -- if an event may be done, its machine isn't at the end
  not-at-end : (event : Event) → Ready net event → AllStandAt net.end net → ⊥
  not-at-end event ready all = omega (arith, below-end event ready, all (machine_of net event) (machine-there flow net kept event ready))

  pub found-told : (answer : Option Event) → MatchOption answer (NoneFound net (length net.wires) (length net.machines)) (Ready net) → MatchOption answer (AllStandAt net.end net) (λ event. Ready net event × (AllStandAt net.end net → ⊥))
  found-told None none = none-ready flow net kept (no-event net none)
  found-told (Some event) ready = (ready, not-at-end event ready)
