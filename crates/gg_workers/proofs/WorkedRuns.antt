-- A network before and after a run, worked by hand: a source that gives 4 and 6 feeds a tray.
use Rattle.std.proofs.Common.{◌≡◌, ℕ, zero, suc, ◌+◌, ◌*◌, ◌<◌, List, [], ◌∷◌, Some, None, true, false, length, refl, ap, subst, arith, lit<}
use Rattle.std.proofs.lemmas.Option.{none-some}
use Rattle.gg_flat.specs.Line.{value_at}
use Rattle.gg_flat.proofs.WorkedForms.{only, both}
use Rattle.gg_node.specs.Machine.{Machine, machine_at, latch_at, flag_at, source_machine, tray_machine}
use Rattle.gg_net.specs.Network.{Network, Frame, wire_at, producer_of, consumer_of, puts, takes, serves, entered, queue_at, frame_of}
use Rattle.gg_net.specs.Kept.{list_at, BetweenAt, HasKept, MachineAt, NeedsChannel, Kept}
use Rattle.gg_net.specs.declared.event.Event.TheVariants.{Latch, Fire, Serve, Finish}
use Rattle.gg_net.specs.Step.{facts_of, Ready}
use Rattle.gg_net.proofs.RowLemmas.{latch-goes, fire-goes, serve-goes, finish-goes}
use Rattle.gg_net.proofs.TableLemmas.{port-there}
use Rattle.gg_net.proofs.WorkedNets.{fed, fed_wires, fed_flow, fed-wired, fed-solved, no-needs}
use Rattle.gg_workers_pass.specs.Tries.{StandsBelow}
use Rattle.gg_workers_pass.specs.Pass.{RisesTo}
use Rattle.gg_workers.specs.Work.{CountsRose, ReadyDone, IsLater}

abbrev source : ℕ → Machine
source cycle = source_machine (4 ∷ 6 ∷ []) cycle (false ∷ [])

abbrev tray : ℕ → List ℕ → Machine
tray cycle kept = tray_machine 2 2 cycle kept None

abbrev with_both : Machine → Machine → Network
with_both a b = record { machines = a ∷ b ∷ []; wires = fed_wires; queues = [] ∷ []; end = 2 }

-- each machine has done a cycle
abbrev after : Network
after = with_both (source 1) (tray 1 (4 ∷ []))

-- ---- the counts

rise : (bound : ℕ) → 0 < bound → RisesTo bound 0 1
rise bound some = record { up = omega arith; within = omega (arith, some) }

rose : CountsRose 1 fed after
rose =
    record {
      cycles = both (λ m. RisesTo 1 (machine_at fed.machines m).cycle (machine_at after.machines m).cycle) (rise 1 (lit< tt)) (rise 1 (lit< tt));
      serves = both (λ m. RisesTo (length (machine_at fed.machines m).ports * 1) (serves fed m) (serves after m)) (record { up = omega arith; within = omega arith }) (record { up = omega arith; within = omega arith });
      puts = only (λ c. RisesTo 1 (puts fed c) (puts after c)) (rise 1 (lit< tt));
      takes = only (λ c. RisesTo 1 (takes fed c) (takes after c)) (rise 1 (lit< tt));
    }

-- the source has gone past cycle 0
not-past : CountsRose 0 fed after → ⊥
not-past rose = omega (arith, (rose.cycles 0 (lit< tt)).within)

-- the source has gone back
not-back : CountsRose 2 after fed → ⊥
not-back rose = omega (arith, (rose.cycles 0 (lit< tt)).up)

-- the token in the queue was taken and forgotten
not-untaken : CountsRose 2 after (with_both (source 1) (tray 0 [])) → ⊥
not-untaken rose = omega (arith, (rose.takes 0 (lit< tt)).up)

-- ---- what could be done

may-fire : Ready fed (Fire 0)
may-fire = refl

all-done : ReadyDone 1 fed after
all-done = record { latch = latch; fire = fire; serve = serve; finish = finish }
  where
    latch : (c : ℕ) → Ready fed (Latch c) → StandsBelow 1 (consumer_of fed c) → takes fed c < takes after c
    latch zero can below = lit< tt
    latch (suc c) can below = absurd (omega (arith, (latch-goes (facts_of fed) (suc c) can).known))

    fire : (c : ℕ) → Ready fed (Fire c) → StandsBelow 1 (producer_of fed c) → puts fed c < puts after c
    fire zero can below = lit< tt
    fire (suc c) can below = absurd (omega (arith, (fire-goes (facts_of fed) (suc c) can).known))

    serve : (m p : ℕ) → Ready fed (Serve m p) → StandsBelow 1 (machine_at fed.machines m) → serves fed m < serves after m
    serve zero p can below = absurd (omega (arith, (serve-goes (facts_of fed) 0 p can).port))
    serve (suc zero) p can below = absurd (omega (arith, (serve-goes (facts_of fed) 1 p can).port))
    serve (suc (suc m)) p can below = absurd (omega (arith, port-there fed (suc (suc m)) p (serve-goes (facts_of fed) (suc (suc m)) p can).port))

    finish : (m : ℕ) → Ready fed (Finish m) → StandsBelow 1 (machine_at fed.machines m) → (machine_at fed.machines m).cycle < (machine_at after.machines m).cycle
    finish zero can below = lit< tt
    finish (suc zero) can below = lit< tt
    finish (suc (suc m)) can below = absurd (omega (arith, (finish-goes (facts_of fed) (suc (suc m)) can).there))

-- the network handed back unstepped
not-unstepped : ReadyDone 1 fed fed → ⊥
not-unstepped done = omega (arith, done.fire 0 may-fire (lit< tt))

-- below cycle 0 there is nothing to do
none-below : ReadyDone 0 fed fed
none-below =
    record {
      latch = λ c can below. absurd (omega (arith, below));
      fire = λ c can below. absurd (omega (arith, below));
      serve = λ m p can below. absurd (omega (arith, below));
      finish = λ m can below. absurd (omega (arith, below));
    }

-- ---- the network

lower : (c d : ℕ) → NeedsChannel (frame_of after) c d → value_at (0 ∷ []) d < value_at (0 ∷ []) c
lower zero d needs = absurd (no-needs 0 needs.place needs.needed)
lower (suc c) d needs = absurd (omega (arith, needs.known))

unset : (o : ℕ) → flag_at (false ∷ []) o ≡ true → ⊥
unset zero is = cc
unset (suc o) is = cc

not-to-source : (c : ℕ) → c < 1 → (wire_at fed_wires c).consumer ≡ 0 → ⊥
not-to-source zero known to = omega (arith, to)
not-to-source (suc c) known to = omega (arith, known)

source-at : MachineAt fed_flow (frame_of after) 0 (source 1)
source-at =
    record {
      kind = refl;
      begun = omega arith;
      within = omega arith;
      stands = refl;
      latched = λ c value known to has. absurd (not-to-source c known to);
      fired = λ o is. absurd (unset o is);
      served = omega arith;
      serving = λ pos. absurd (omega (arith, pos));
      fields = λ k d lt. absurd (omega (arith, lt));
      kept = λ c known to. tt;
      rest = refl;
    }

has-four : HasKept (4 ∷ 6 ∷ []) 0 2 1 (4 ∷ [])
has-four = record { base = 0; between = record { held = refl; room = omega arith; tokens = only (λ j. value_at (4 ∷ []) j ≡ value_at (4 ∷ 6 ∷ []) (0 + j)) refl }; begun = omega arith; whole = λ few. refl }

tray-at : MachineAt fed_flow (frame_of after) 1 (tray 1 (4 ∷ []))
tray-at =
    record {
      kind = refl;
      begun = omega arith;
      within = omega arith;
      stands = refl;
      latched = latched;
      fired = λ o is. absurd (clear o is);
      served = omega arith;
      serving = λ pos. absurd (omega (arith, pos));
      fields = λ k d lt. absurd (omega (arith, lt));
      kept = λ c known to. only (λ c. HasKept (list_at fed_flow.lists c) 0 2 1 (4 ∷ [])) has-four c known;
      rest = tt;
    }
  where
    latched : (c value : ℕ) → c < 1 → (wire_at fed_wires c).consumer ≡ 1 → latch_at (None ∷ []) (wire_at fed_wires c).place ≡ Some value → (1 < 2) × (value ≡ value_at (list_at fed_flow.lists c) 1)
    latched zero value known to has = absurd (none-some value has)
    latched (suc c) value known to has = absurd (omega (arith, known))

    clear : (o : ℕ) → flag_at [] o ≡ true → ⊥
    clear o is = cc

kept : Kept fed_flow after
kept =
    record {
      queues = refl;
      sound = record { wired = fed-wired; no_ring = record { ranks = 0 ∷ []; lower = lower }; solves = fed-solved };
      machines = both (λ m. MachineAt fed_flow (frame_of after) m (machine_at after.machines m)) source-at tray-at;
      channels = only (λ c. BetweenAt (list_at fed_flow.lists c) (wire_at fed_wires c).capacity (takes after c) (entered after c) (queue_at after.queues c)) (record { held = refl; room = omega arith; tokens = λ j lt. absurd (omega (arith, lt)) });
    }

later : IsLater fed_flow 1 fed after
later = record { frame = refl; kept = kept; counts = rose; done = all-done }

-- the token that the source gave is nowhere
not-dropped : IsLater fed_flow 1 fed (with_both (source 1) (tray 0 [])) → ⊥
not-dropped later = let held : 0 ≡ 1 = (later.kept.channels 0 (lit< tt)).held in omega (arith, held)

-- the tray has kept another value than the source gave
not-made-up : IsLater fed_flow 1 fed (with_both (source 1) (tray 1 (5 ∷ []))) → ⊥
not-made-up later =
    let has : HasKept (4 ∷ 6 ∷ []) 0 2 1 (5 ∷ []) = (later.kept.machines 1 (lit< tt)).kept 0 (lit< tt) refl in
    let five : 5 ≡ value_at (4 ∷ 6 ∷ []) 0 = subst (λ base. 5 ≡ value_at (4 ∷ 6 ∷ []) (base + 0)) (has.whole (lit< tt)) (has.between.tokens 0 (lit< tt)) in
    omega (arith, five)

-- it has a cycle more to do
not-longer : IsLater fed_flow 1 fed (record after { end = 3 }) → ⊥
not-longer later = let same : 3 ≡ 2 = ap (λ (frame : Frame). frame.end) later.frame in omega (arith, same)
