-- `Fire` of a channel puts one token into it, and no other event does.
use Rattle.std.proofs.Common.{◌≡◌, ℕ, suc, ◌-◌, ◌<◌, ◌≤◌, ◌++◌, List, [], ◌∷◌, Option, None, Some, Bool, true, false, length, refl, sym, ap, ◌∙◌, ⊎_elim, arith, get_or-set_same, get_or-set_other}
use Rattle.std.specs.Prelude.{slice_set, take}
use Rattle.std.proofs.lemmas.Bool.{cases_eq}
use Rattle.std.proofs.lemmas.List.{length-map, length-append}
use Rattle.std.proofs.Math.Seq.{take-suc}
use Rattle.gg_flat.specs.Line.{value_at}
use Rattle.gg_flat.specs.State.{State}
use Rattle.gg_flat.specs.Streams.{Flow}
use Rattle.gg_node.specs.Machine.{Machine, no_machine, machine_at, flag_at}
use Rattle.gg_node.specs.Step.{with_latch, with_flag, with_served, finished}
use Rattle.gg_net.specs.declared.event.Event.{Event}
use Rattle.gg_net.specs.declared.event.Event.TheVariants.{Latch, Fire, Serve, Finish}
use Rattle.gg_net.specs.declared.shape.Wire.{Wire}
use Rattle.gg_net.specs.Network.{Network, Frame, wire_at, queue_at, consumer_of, producer_of, and_one, entered_by, puts, entered, kind_of, frame_of}
use Rattle.gg_net.specs.Step.{Step, front_of, after_latch, after_fire, after_serve, after_finish}
use Rattle.gg_net.proofs.Can.{CanLatch, CanFire, CanServe, CanFinish}
use Rattle.gg_net.proofs.WireLemmas.{one-out}
use Rattle.gg_net.proofs.TableLemmas.{latch-can, fire-can, serve-can, finish-can}
use Rattle.gg_net.specs.Kept.{MachineAt, Kept, list_at}
use Rattle.gg_net.proofs.ChannelLemmas.{entered-suc}
use Rattle.gg_net.proofs.MachineLemmas.{out-within}
use Rattle.gg_net.proofs.MayLemmas.{consumer-there, producer-there}
use Rattle.gg_net.proofs.StepLemmas.{clear-after, kept-step}
use Rattle.gg_net.proofs.MarkingsLemmas.CountLemmas.{newest-is}
use Rattle.gg_net.proofs.MarkingsLemmas.GoesLemmas.{step-frame}

-- ---- over plain variables

-- if a number is the same for the changed machine as before, it is the same for each machine
told-same : (told : Machine → ℕ) (machines : List Machine) (m : ℕ) (y : Machine) → m < length machines → (k : ℕ) → (k ≡ m → told y ≡ told (machine_at machines m)) → told (machine_at (slice_set machines m y) k) ≡ told (machine_at machines k)
told-same told machines m y there k same =
    ⊎_elim
    (λ (is : k ≡ m). ap (λ j. told (machine_at (slice_set machines m y) j)) is ∙ ap told (get_or-set_same machines m y no_machine there) ∙ same is ∙ ap (λ j. told (machine_at machines j)) (sym is))
    (λ other. ap told (get_or-set_other machines m k y no_machine other))
    (cases_eq k m)

-- an out has given no more tokens than there are cycles to do
given-within : (cycle end : ℕ) (flag : Bool) → cycle ≤ end → (flag ≡ true → cycle < end) → and_one cycle flag ≤ end
given-within cycle end false within lt = within
given-within cycle end true within lt = omega (arith, lt refl)

module _ (flow : Flow) (net : Network) (kept : Kept flow net) where
  -- no more tokens are put than there are cycles
  pub puts-within : (c : ℕ) → c < length net.wires → puts net c ≤ net.end
  puts-within c known =
      let x : Machine = producer_of net c in
      let at : MachineAt flow (frame_of net) (wire_at net.wires c).producer x = kept.machines (wire_at net.wires c).producer (producer-there flow net kept c known) in
      given-within x.cycle net.end (flag_at x.flags (wire_at net.wires c).out) at.within (λ set. (at.fired (wire_at net.wires c).out set).0)

  module _ (d : ℕ) where
    -- how many tokens a machine has given at the channel's out
    abbrev gave : Machine → ℕ
    gave z = and_one z.cycle (flag_at z.flags (wire_at net.wires d).out)

    latch-puts : (c : ℕ) → CanLatch net c → puts (after_latch net c) d ≡ puts net d
    latch-puts c can =
        let w : Wire = wire_at net.wires c in
        told-same gave net.machines w.consumer (with_latch (consumer_of net c) w.place (front_of net c)) (consumer-there flow net kept c can.can.0) (wire_at net.wires d).producer (λ same. refl)

    serve-puts : (m p : ℕ) → CanServe net m p → puts (after_serve net m) d ≡ puts net d
    serve-puts m p can = told-same gave net.machines m (with_served (machine_at net.machines m)) can.there.0 (wire_at net.wires d).producer (λ same. refl)

    finish-puts : (m : ℕ) (next : State) → CanFinish net m → d < length net.wires → puts (after_finish net m next) d ≡ puts net d
    finish-puts m next can known =
        let x : Machine = machine_at net.machines m in
        let o : ℕ = (wire_at net.wires d).out in
        told-same gave net.machines m (finished x next) can.there (wire_at net.wires d).producer (λ same.
        let below : m < length (frame_of net).kinds = omega (arith, can.there, length-map net.machines kind_of) in
        let within : o < length x.flags = out-within flow (frame_of net) kept.sound m below x (kept.machines m can.there) d known same in
        ap (and_one (suc x.cycle)) (clear-after (length x.flags) o) ∙ sym (ap (and_one x.cycle) (can.fired o false within)))

    fire-other : (c token : ℕ) → CanFire net c → d < length net.wires → (d ≡ c → ⊥) → puts (after_fire net c token) d ≡ puts net d
    fire-other c token can known other =
        let w : Wire = wire_at net.wires c in
        let x : Machine = producer_of net c in
        told-same gave net.machines w.producer (with_flag x w.out) (producer-there flow net kept c can.can.0) (wire_at net.wires d).producer (λ same.
        ap (and_one x.cycle) (get_or-set_other x.flags w.out (wire_at net.wires d).out true false (λ out. other (one-out (frame_of net) kept.sound.wired d c known can.can.0 same out))))

  -- `Fire` of a channel puts one more token into it
  pub fire-puts : (c token : ℕ) → CanFire net c → puts (after_fire net c token) c ≡ suc (puts net c)
  fire-puts c token can =
      let w : Wire = wire_at net.wires c in
      let x : Machine = producer_of net c in
      let there : w.producer < length net.machines = producer-there flow net kept c can.can.0 in
      let below : w.producer < length (frame_of net).kinds = omega (arith, there, length-map net.machines kind_of) in
      let within : w.out < length x.flags = out-within flow (frame_of net) kept.sound w.producer below x (kept.machines w.producer there) c can.can.0 refl in
      ap (λ (z : Machine). and_one z.cycle (flag_at z.flags w.out)) (get_or-set_same net.machines w.producer (with_flag x w.out) no_machine there)
      ∙ ap (and_one x.cycle) (get_or-set_same x.flags w.out true false within)
      ∙ ap suc (sym (ap (and_one x.cycle) can.clear))

  -- ---- each event

  pub step-fires : (c : ℕ) (new : Network) → Step net (Fire c) new → puts new c ≡ suc (puts net c)
  step-fires c new step = ap (λ (n : Network). puts n c) step.after.after ∙ fire-puts c step.after.token (fire-can net kept.sound.wired c step.ready)

  pub step-others : (event : Event) (new : Network) (d : ℕ) → Step net event new → d < length net.wires → (event ≡ Fire d → ⊥) → puts new d ≡ puts net d
  step-others (Latch c) new d step known other = ap (λ (n : Network). puts n d) step.after ∙ latch-puts d c (latch-can net c step.ready)
  step-others (Fire c) new d step known other = ap (λ (n : Network). puts n d) step.after.after ∙ fire-other d c step.after.token (fire-can net kept.sound.wired c step.ready) known (λ same. other (ap Fire (sym same)))
  step-others (Serve m p) new d step known other = ap (λ (n : Network). puts n d) step.after ∙ serve-puts d m p (serve-can net kept.sound.wired m p step.ready)
  step-others (Finish m) new d step known other = ap (λ (n : Network). puts n d) step.after.after ∙ finish-puts d m step.after.state (finish-can net kept.sound.wired m step.ready) known

-- ---- the token that was given

pub entered-mono : (first : Option ℕ) (n end : ℕ) → n ≤ end → entered_by first n ≤ entered_by first end
entered-mono None n end le = le
entered-mono (Some token) n end le = omega (arith, le)

module _ (flow : Flow) (old new : Network) (kept : Kept flow old) (c : ℕ) (step : Step old (Fire c) new) where
  -- the channel's queue isn't empty
  pub one-held : 0 < length (queue_at new.queues c)
  one-held =
      let queue : List ℕ = queue_at old.queues c ++ step.after.token ∷ [] in
      let is : queue_at new.queues c ≡ queue = ap (λ (n : Network). queue_at n.queues c) step.after.after ∙ get_or-set_same old.queues c queue [] (omega (arith, (fire-can old kept.sound.wired c step.ready).can.0, kept.queues)) in
      omega (arith, ap length is, length-append (queue_at old.queues c) (step.after.token ∷ []))

  -- the tokens that have entered are the front of the channel's list, with one more: the newest of the queue
  pub front-grows : take (entered new c) (list_at flow.lists c) ≡ take (entered old c) (list_at flow.lists c) ++ value_at (queue_at new.queues c) (length (queue_at new.queues c) - 1) ∷ []
  front-grows =
      let list : List ℕ = list_at flow.lists c in
      let frame : frame_of new ≡ frame_of old = step-frame old (Fire c) new step in
      let first : Option ℕ = (wire_at old.wires c).first in
      let more : entered new c ≡ suc (entered old c) = ap (λ (f : Frame). entered_by (wire_at f.wires c).first (puts new c)) frame ∙ ap (entered_by first) (step-fires flow old kept c new step) ∙ entered-suc first (puts old c) in
      let known : c < length new.wires = omega (arith, (fire-can old kept.sound.wired c step.ready).can.0, ap (λ (f : Frame). length f.wires) frame) in
      let after : Kept flow new = kept-step flow old (Fire c) new kept step in
      let within : entered old c < length list = omega (arith, more, entered-mono (wire_at new.wires c).first (puts new c) new.end (puts-within flow new after c known), after.sound.solves.long c known) in
      let newest : value_at (queue_at new.queues c) (length (queue_at new.queues c) - 1) ≡ value_at list (entered old c) = newest-is flow new c after known one-held ∙ ap (value_at list) (omega (arith, more)) in
      ap (λ n. take n list) more ∙ take-suc list (entered old c) 0 within ∙ ap (λ token. take (entered old c) list ++ token ∷ []) (sym newest)
