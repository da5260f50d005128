-- An event of a network that is kept, if it may be done, can be done in exactly one way.
use Rattle.std.proofs.Common.{◌≡◌, ℕ, ◌<◌, length, map, refl, sym, ap, ◌∙◌}
use Rattle.gg_flat.specs.Line.{value_at}
use Rattle.gg_flat.specs.State.{State}
use Rattle.gg_flat.specs.Streams.{Flow}
use Rattle.gg_node.specs.Machine.{Machine, machine_at}
use Rattle.gg_node.specs.Token.{IsToken, IsNextState}
use Rattle.gg_net.specs.declared.event.Event.{Event}
use Rattle.gg_net.specs.declared.event.Event.TheVariants.{Latch, Fire, Serve, Finish}
use Rattle.gg_net.specs.Network.{wire_at, Network, producer_of, entered_by, kind_of, frame_of}
use Rattle.gg_net.specs.Step.{after_latch, after_fire, after_serve, after_finish, Ready, Step}
use Rattle.gg_net.proofs.Can.{CanFire, CanFinish}
use Rattle.gg_net.specs.Kept.{list_at, Kept}
use Rattle.gg_net.proofs.MachineLemmas.{token_is, token_there, next_there, next_once}
use Rattle.gg_net.proofs.PortLemmas.{any_port}
use Rattle.gg_net.proofs.FrameLemmas.{machine-known, machine-there}
use Rattle.gg_net.proofs.StepLemmas.{all-served}
use Rattle.gg_net.proofs.TableLemmas.{fire-can, finish-can}

module _ (flow : Flow) (net : Network) (kept : Kept flow net) where
  -- the value that a channel gets next
  abbrev next_value : ℕ → ℕ
  next_value c = value_at (list_at flow.lists c) (entered_by (wire_at net.wires c).first (producer_of net c).cycle)

  fire-there : (c : ℕ) → CanFire net c → IsToken (producer_of net c) (wire_at net.wires c).out (next_value c)
  fire-there c can =
      let p : ℕ = (wire_at net.wires c).producer in
      let below : p < length (map kind_of net.machines) = kept.sound.wired.producer c can.can.0 in
      token_there flow (frame_of net) kept.sound p below (producer_of net c) (kept.machines p (machine-there net p below)) c can.can.0 refl can.can.1 can.clear can.needed

  fire-is : (c token : ℕ) → CanFire net c → IsToken (producer_of net c) (wire_at net.wires c).out token → token ≡ next_value c
  fire-is c token can is =
      let p : ℕ = (wire_at net.wires c).producer in
      let below : p < length (map kind_of net.machines) = kept.sound.wired.producer c can.can.0 in
      token_is flow (frame_of net) kept.sound p below (producer_of net c) (kept.machines p (machine-there net p below)) c token can.can.0 refl can.can.1 can.clear is

  whole : (m : ℕ) → CanFinish net m → (machine_at net.machines m).served ≡ length (machine_at net.machines m).ports
  whole m can = let x : Machine = machine_at net.machines m in all-served x.ports x.served any_port (kept.machines m can.there).served can.served

  -- An event that may be done can be done.
  pub goes : (event : Event) → Ready net event → (new : Network) × Step net event new
  goes (Latch c) can = (after_latch net c, record { ready = can; after = refl })
  goes (Fire c) ready = let can : CanFire net c = fire-can net kept.sound.wired c ready in (after_fire net c (next_value c), record { ready = ready; after = record { token = next_value c; is = fire-there c can; after = refl } })
  goes (Serve m p) can = (after_serve net m, record { ready = can; after = refl })
  goes (Finish m) ready =
      let can : CanFinish net m = finish-can net kept.sound.wired m ready in
      let next : (state : State) × IsNextState (machine_at net.machines m) state = next_there flow (frame_of net) kept.sound m (machine-known net m can.there) (machine_at net.machines m) (kept.machines m can.there) can.below can.latched (whole m can) in
      (after_finish net m next.0, record { ready = ready; after = record { state = next.0; is = next.1; after = refl } })

  -- It can be done in one way only.
  pub goes-once : (event : Event) (one other : Network) → Step net event one → Step net event other → one ≡ other
  goes-once (Latch c) one other step same = step.after ∙ sym same.after
  goes-once (Fire c) one other step same =
      step.after.after
      ∙ ap (after_fire net c) (fire-is c step.after.token (fire-can net kept.sound.wired c step.ready) step.after.is ∙ sym (fire-is c same.after.token (fire-can net kept.sound.wired c same.ready) same.after.is))
      ∙ sym same.after.after
  goes-once (Serve m p) one other step same = step.after ∙ sym same.after
  goes-once (Finish m) one other step same =
      let can : CanFinish net m = finish-can net kept.sound.wired m step.ready in
      step.after.after
      ∙ ap (after_finish net m) (next_once flow (frame_of net) kept.sound m (machine-known net m can.there) (machine_at net.machines m) (kept.machines m can.there) step.after.state same.after.state can.below can.latched (whole m can) step.after.is same.after.is)
      ∙ sym same.after.after
