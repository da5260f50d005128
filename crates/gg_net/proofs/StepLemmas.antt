-- A step of a network that is kept leads to one that is kept.
use Rattle.std.proofs.Common.{◌≡◌, ◌≢◌, ℕ, zero, suc, ◌<◌, ◌≤◌, ◌++◌, List, [], ◌∷◌, Option, None, Some, true, false, length, map, drop, refl, sym, ap, subst, ◌∙◌, ⊎_elim, arith, get_or-set_same, get_or-set_other}
use Rattle.std.specs.Prelude.{slice_set, slice_get, slice_index_or, replicate}
use Rattle.std.proofs.Math.Seq.{map-set_same}
use Rattle.std.proofs.Math.ListN.{get_or-map}
use Rattle.std.proofs.lemmas.Bool.{cases_eq, cases_lt}
use Rattle.std.proofs.lemmas.List.{length-set}
use Rattle.std.proofs.lemmas.Option.{slice_get-get_or, none-some}
use Rattle.gg_flat.specs.Line.{value_at}
use Rattle.gg_flat.specs.State.{State}
use Rattle.gg_flat.specs.Streams.{Flow}
use Rattle.gg_node.specs.Machine.{Port, Machine, no_machine, machine_at, latch_at, flag_at}
use Rattle.gg_node.specs.inside.Machine.{port_number}
use Rattle.gg_node.specs.Token.{IsToken, IsNextState}
use Rattle.gg_node.specs.Step.{with_latch, with_flag, with_served, finished}
use Rattle.gg_node.proofs.EmptyLemmas.{empty-after}
use Rattle.gg_net.specs.declared.event.Event.{Event}
use Rattle.gg_net.specs.declared.event.Event.TheVariants.{Latch, Fire, Serve, Finish}
use Rattle.gg_net.specs.declared.shape.Wire.{Wire}
use Rattle.gg_net.specs.Network.{wire_at, Network, queue_at, producer_of, consumer_of, and_one, got_by, entered_by, puts, takes, entered, Kind, kind_of, frame_of}
use Rattle.gg_net.specs.Step.{front_of, after_latch, after_fire, after_serve, after_finish, Step}
use Rattle.gg_net.proofs.Can.{CanLatch, CanFire, CanServe, CanFinish}
use Rattle.gg_net.specs.Kept.{list_at, IsSound, MachineAt, BetweenAt, Kept}
use Rattle.gg_net.proofs.LatchLemmas.{has-value}
use Rattle.gg_net.proofs.WireLemmas.{one-in, one-out}
use Rattle.gg_net.proofs.TableLemmas.{latch-can, fire-can, serve-can, finish-can}
use Rattle.gg_net.proofs.MachineLemmas.{token_is, out-within, place-within, own_latch, own_fire, own_serve, own_finish}
use Rattle.gg_net.proofs.PortLemmas.{any_port}
use Rattle.gg_net.proofs.FrameLemmas.{machine-known, machine-there}
use Rattle.gg_net.proofs.ChannelLemmas.{entered-suc, between-same, front-is, taken-one, put-one}

-- ---- over plain variables

pub clear-after : (n o : ℕ) → flag_at (replicate n false) o ≡ false
clear-after zero o = refl
clear-after (suc n) zero = refl
clear-after (suc n) (suc o) = clear-after n o

pub no-port : (port : Option Port) → port_number port ≡ None → port ≡ None
no-port None is = refl
no-port (Some q) is = absurd (none-some q.number (sym is))

-- if no port is due, all are served
pub all-served : (ports : List Port) (n : ℕ) (any : Port) → n ≤ length ports → port_number (slice_get ports n) ≡ None → n ≡ length ports
all-served ports n any within none =
    ⊎_elim
    (λ (lt : n < length ports). let is : ◌≡◌ {A = Option Port} (Some (slice_index_or ports n any)) None = sym (slice_get-get_or ports n any lt) ∙ no-port (slice_get ports n) none in absurd (cc))
    (λ (le : length ports ≤ n). omega (arith, le, within))
    (cases_lt n (length ports))

-- ---- a network in which one machine was changed

module _ (flow : Flow) (net : Network) (kept : Kept flow net) where
  module _ (m : ℕ) (there : m < length net.machines) (y : Machine) (own : MachineAt flow (frame_of net) m y) (queues : List (List ℕ)) where
    abbrev changed : Network
    changed = record net { machines = slice_set net.machines m y; queues = queues }

    frame-same : frame_of changed ≡ frame_of net
    frame-same = ap (λ (kinds : List Kind). record { kinds = kinds; wires = net.wires; end = net.end }) (map-set_same kind_of net.machines m y no_machine (own.kind ∙ get_or-map kind_of net.machines m no_machine))

    machines-kept : (k : ℕ) → k < length net.machines → MachineAt flow (frame_of net) k (machine_at (slice_set net.machines m y) k)
    machines-kept k lt =
        ⊎_elim
        (λ (same : k ≡ m). subst (λ j. MachineAt flow (frame_of net) j (machine_at (slice_set net.machines m y) j)) (sym same) (subst (MachineAt flow (frame_of net) m) (sym (get_or-set_same net.machines m y no_machine there)) own))
        (λ other. subst (MachineAt flow (frame_of net) k) (sym (get_or-set_other net.machines m k y no_machine other)) (kept.machines k lt))
        (cases_eq k m)

    pub puts-same : (c : ℕ) → ((wire_at net.wires c).producer ≡ m → and_one y.cycle (flag_at y.flags (wire_at net.wires c).out) ≡ and_one (machine_at net.machines m).cycle (flag_at (machine_at net.machines m).flags (wire_at net.wires c).out)) → puts changed c ≡ puts net c
    puts-same c is =
        let given : Machine → ℕ = λ z. and_one z.cycle (flag_at z.flags (wire_at net.wires c).out) in
        ⊎_elim
        (λ (same : (wire_at net.wires c).producer ≡ m).
        ap (λ k. given (machine_at (slice_set net.machines m y) k)) same ∙ ap given (get_or-set_same net.machines m y no_machine there) ∙ is same ∙ ap (λ k. given (machine_at net.machines k)) (sym same))
        (λ other. ap given (get_or-set_other net.machines m (wire_at net.wires c).producer y no_machine other))
        (cases_eq (wire_at net.wires c).producer m)

    entered-same : (c : ℕ) → ((wire_at net.wires c).producer ≡ m → and_one y.cycle (flag_at y.flags (wire_at net.wires c).out) ≡ and_one (machine_at net.machines m).cycle (flag_at (machine_at net.machines m).flags (wire_at net.wires c).out)) → entered changed c ≡ entered net c
    entered-same c is = ap (entered_by (wire_at net.wires c).first) (puts-same c is)

    pub takes-same : (c : ℕ) → ((wire_at net.wires c).consumer ≡ m → got_by y.cycle (latch_at y.latches (wire_at net.wires c).place) ≡ got_by (machine_at net.machines m).cycle (latch_at (machine_at net.machines m).latches (wire_at net.wires c).place)) → takes changed c ≡ takes net c
    takes-same c is =
        let got : Machine → ℕ = λ z. got_by z.cycle (latch_at z.latches (wire_at net.wires c).place) in
        ⊎_elim
        (λ (same : (wire_at net.wires c).consumer ≡ m).
        ap (λ k. got (machine_at (slice_set net.machines m y) k)) same ∙ ap got (get_or-set_same net.machines m y no_machine there) ∙ is same ∙ ap (λ k. got (machine_at net.machines k)) (sym same))
        (λ other. ap got (get_or-set_other net.machines m (wire_at net.wires c).consumer y no_machine other))
        (cases_eq (wire_at net.wires c).consumer m)

    joined : length queues ≡ length net.wires → ((c : ℕ) → c < length net.wires → BetweenAt (list_at flow.lists c) (wire_at net.wires c).capacity (takes changed c) (entered changed c) (queue_at queues c)) → Kept flow changed
    joined count channels =
        record {
          queues = count;
          sound = subst (λ f. IsSound flow f) (sym frame-same) kept.sound;
          machines = λ k lt. subst (λ f. MachineAt flow f k (machine_at (slice_set net.machines m y) k)) (sym frame-same) (machines-kept k (omega (arith, lt, length-set net.machines m y)));
          channels = channels;
        }

  -- ---- each event

  kept-latch : (c : ℕ) → CanLatch net c → Kept flow (after_latch net c)
  kept-latch c can =
      let w : Wire = wire_at net.wires c in
      let m : ℕ = w.consumer in
      let x : Machine = consumer_of net c in
      let known : c < length net.wires = can.can.0 in
      let below : m < length (map kind_of net.machines) = kept.sound.wired.consumer c known in
      let there : m < length net.machines = machine-there net m below in
      let at : MachineAt flow (frame_of net) m x = kept.machines m there in
      let between : BetweenAt (list_at flow.lists c) w.capacity (takes net c) (entered net c) (queue_at net.queues c) = kept.channels c known in
      let took : takes net c ≡ x.cycle = ap (got_by x.cycle) can.empty in
      let token : front_of net c ≡ value_at (list_at flow.lists c) x.cycle = front-is (list_at flow.lists c) w.capacity (takes net c) (entered net c) (queue_at net.queues c) between can.held ∙ ap (value_at (list_at flow.lists c)) took in
      let y : Machine = with_latch x w.place (front_of net c) in
      let own : MachineAt flow (frame_of net) m y = own_latch flow (frame_of net) kept.sound m below x at c (front_of net c) known refl can.can.1 can.empty token in
      let queues : List (List ℕ) = slice_set net.queues c (drop 1 (queue_at net.queues c)) in
      let within : w.place < length x.latches = place-within flow (frame_of net) kept.sound m below x at c known refl in
      joined m there y own queues (length-set net.queues c (drop 1 (queue_at net.queues c)) ∙ kept.queues) (λ d lt. ⊎_elim
      (λ (same : d ≡ c).
      subst (λ k. BetweenAt (list_at flow.lists k) (wire_at net.wires k).capacity (takes (changed m there y own queues) k) (entered (changed m there y own queues) k) (queue_at queues k)) (sym same)
      (between-same (list_at flow.lists c) w.capacity (suc (takes net c)) (takes (changed m there y own queues) c) (entered net c) (entered (changed m there y own queues) c) (drop 1 (queue_at net.queues c)) (queue_at queues c)
      (ap (λ (z : Machine). got_by z.cycle (latch_at z.latches w.place)) (get_or-set_same net.machines m y no_machine there) ∙ ap (got_by x.cycle) (get_or-set_same x.latches w.place (Some (front_of net c)) None within) ∙ ap suc (sym took))
      (entered-same m there y own queues c (λ is. refl))
      (get_or-set_same net.queues c (drop 1 (queue_at net.queues c)) [] (omega (arith, known, kept.queues)))
      (taken-one (list_at flow.lists c) w.capacity (takes net c) (entered net c) (queue_at net.queues c) between can.held)))
      (λ (other : d ≢ c).
      between-same (list_at flow.lists d) (wire_at net.wires d).capacity (takes net d) (takes (changed m there y own queues) d) (entered net d) (entered (changed m there y own queues) d) (queue_at net.queues d) (queue_at queues d)
      (takes-same m there y own queues d (λ is. ap (got_by x.cycle) (get_or-set_other x.latches w.place (wire_at net.wires d).place (Some (front_of net c)) None (λ same. other (one-in (frame_of net) kept.sound.wired d c lt known is same)))))
      (entered-same m there y own queues d (λ is. refl))
      (get_or-set_other net.queues c d (drop 1 (queue_at net.queues c)) [] other)
      (kept.channels d lt))
      (cases_eq d c))

  kept-fire : (c token : ℕ) → CanFire net c → IsToken (producer_of net c) (wire_at net.wires c).out token → Kept flow (after_fire net c token)
  kept-fire c token can gives =
      let w : Wire = wire_at net.wires c in
      let m : ℕ = w.producer in
      let x : Machine = producer_of net c in
      let known : c < length net.wires = can.can.0 in
      let below : m < length (map kind_of net.machines) = kept.sound.wired.producer c known in
      let there : m < length net.machines = machine-there net m below in
      let at : MachineAt flow (frame_of net) m x = kept.machines m there in
      let between : BetweenAt (list_at flow.lists c) w.capacity (takes net c) (entered net c) (queue_at net.queues c) = kept.channels c known in
      let put : puts net c ≡ x.cycle = ap (and_one x.cycle) can.clear in
      let is_next : token ≡ value_at (list_at flow.lists c) (entered net c) = token_is flow (frame_of net) kept.sound m below x at c token known refl can.can.1 can.clear gives ∙ ap (λ n. value_at (list_at flow.lists c) (entered_by w.first n)) (sym put) in
      let y : Machine = with_flag x w.out in
      let own : MachineAt flow (frame_of net) m y = own_fire flow (frame_of net) kept.sound m below x at c known refl can.can.1 can.clear can.needed in
      let queues : List (List ℕ) = slice_set net.queues c (queue_at net.queues c ++ token ∷ []) in
      let within : w.out < length x.flags = out-within flow (frame_of net) kept.sound m below x at c known refl in
      joined m there y own queues (length-set net.queues c (queue_at net.queues c ++ token ∷ []) ∙ kept.queues) (λ d lt. ⊎_elim
      (λ (same : d ≡ c).
      subst (λ k. BetweenAt (list_at flow.lists k) (wire_at net.wires k).capacity (takes (changed m there y own queues) k) (entered (changed m there y own queues) k) (queue_at queues k)) (sym same)
      (between-same (list_at flow.lists c) w.capacity (takes net c) (takes (changed m there y own queues) c) (suc (entered net c)) (entered (changed m there y own queues) c) (queue_at net.queues c ++ token ∷ []) (queue_at queues c)
      (takes-same m there y own queues c (λ is. refl))
      (ap (λ (z : Machine). entered_by w.first (and_one z.cycle (flag_at z.flags w.out))) (get_or-set_same net.machines m y no_machine there) ∙ ap (λ flag. entered_by w.first (and_one x.cycle flag)) (get_or-set_same x.flags w.out true false within) ∙ entered-suc w.first x.cycle ∙ ap (λ n. suc (entered_by w.first n)) (sym put))
      (get_or-set_same net.queues c (queue_at net.queues c ++ token ∷ []) [] (omega (arith, known, kept.queues)))
      (put-one (list_at flow.lists c) w.capacity (takes net c) (entered net c) (queue_at net.queues c) token between can.room is_next)))
      (λ (other : d ≢ c).
      between-same (list_at flow.lists d) (wire_at net.wires d).capacity (takes net d) (takes (changed m there y own queues) d) (entered net d) (entered (changed m there y own queues) d) (queue_at net.queues d) (queue_at queues d)
      (takes-same m there y own queues d (λ is. refl))
      (entered-same m there y own queues d (λ is. ap (and_one x.cycle) (get_or-set_other x.flags w.out (wire_at net.wires d).out true false (λ same. other (one-out (frame_of net) kept.sound.wired d c lt known is same)))))
      (get_or-set_other net.queues c d (queue_at net.queues c ++ token ∷ []) [] other)
      (kept.channels d lt))
      (cases_eq d c))

  kept-serve : (m p : ℕ) → CanServe net m p → Kept flow (after_serve net m)
  kept-serve m p can =
      let x : Machine = machine_at net.machines m in
      let there : m < length net.machines = can.there.0 in
      let below : m < length (map kind_of net.machines) = machine-known net m there in
      let y : Machine = with_served x in
      let own : MachineAt flow (frame_of net) m y = own_serve flow (frame_of net) kept.sound m below x (kept.machines m there) p can.below can.fired can.due can.fields in
      joined m there y own net.queues kept.queues (λ d lt.
      between-same (list_at flow.lists d) (wire_at net.wires d).capacity (takes net d) (takes (changed m there y own net.queues) d) (entered net d) (entered (changed m there y own net.queues) d) (queue_at net.queues d) (queue_at net.queues d)
      (takes-same m there y own net.queues d (λ is. refl))
      (entered-same m there y own net.queues d (λ is. refl))
      refl
      (kept.channels d lt))

  kept-finish : (m : ℕ) (next : State) → CanFinish net m → IsNextState (machine_at net.machines m) next → Kept flow (after_finish net m next)
  kept-finish m next can goes =
      let x : Machine = machine_at net.machines m in
      let there : m < length net.machines = can.there in
      let below : m < length (map kind_of net.machines) = machine-known net m there in
      let at : MachineAt flow (frame_of net) m x = kept.machines m there in
      let y : Machine = finished x next in
      let whole : x.served ≡ length x.ports = all-served x.ports x.served any_port at.served can.served in
      let own : MachineAt flow (frame_of net) m y = own_finish flow (frame_of net) kept.sound m below x at next can.below can.latched whole goes in
      joined m there y own net.queues kept.queues (λ d lt.
      between-same (list_at flow.lists d) (wire_at net.wires d).capacity (takes net d) (takes (changed m there y own net.queues) d) (entered net d) (entered (changed m there y own net.queues) d) (queue_at net.queues d) (queue_at net.queues d)
      (takes-same m there y own net.queues d (λ is.
      let i : ℕ = (wire_at net.wires d).place in
      let within : i < length x.latches = place-within flow (frame_of net) kept.sound m below x at d lt is in
      ap (got_by (suc x.cycle)) (empty-after (length x.latches) i) ∙ sym (ap (got_by x.cycle) (has-value (latch_at x.latches i) (can.latched i None within)))))
      (entered-same m there y own net.queues d (λ is.
      let o : ℕ = (wire_at net.wires d).out in
      let within : o < length x.flags = out-within flow (frame_of net) kept.sound m below x at d lt is in
      ap (and_one (suc x.cycle)) (clear-after (length x.flags) o) ∙ sym (ap (and_one x.cycle) (can.fired o false within))))
      refl
      (kept.channels d lt))

-- A step of a network that is kept leads to one that is kept.
pub kept-step : (flow : Flow) (old : Network) (event : Event) (new : Network) → Kept flow old → Step old event new → Kept flow new
kept-step flow old (Latch c) new kept step = subst (Kept flow) (sym step.after) (kept-latch flow old kept c (latch-can old c step.ready))
kept-step flow old (Fire c) new kept step = subst (Kept flow) (sym step.after.after) (kept-fire flow old kept c step.after.token (fire-can old kept.sound.wired c step.ready) step.after.is)
kept-step flow old (Serve m p) new kept step = subst (Kept flow) (sym step.after) (kept-serve flow old kept m p (serve-can old kept.sound.wired m p step.ready))
kept-step flow old (Finish m) new kept step = subst (Kept flow) (sym step.after.after) (kept-finish flow old kept m step.after.state (finish-can old kept.sound.wired m step.ready) step.after.is)
