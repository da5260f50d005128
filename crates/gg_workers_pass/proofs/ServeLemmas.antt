-- One try in a row of tries: a serve. And the end of a cycle.
use Rattle.std.proofs.Common.{◌≡◌, ℕ, suc, ◌<◌, List, Bool, true, false, length, map, refl, sym, ap, subst, ◌∙◌, arith, get_or-set_same}
use Rattle.std.specs.Prelude.{All, slice_set}
use Rattle.std.proofs.lemmas.List.{get_or-map, length-map}
use Rattle.gg_flat.specs.Streams.{Flow}
use Rattle.gg_node.specs.Machine.{Machine, no_machine, machine_at}
use Rattle.gg_node.specs.inside.Step.{MayServe, MayFinish}
use Rattle.gg_node.specs.Step.{fields_of, with_served, finished}
use Rattle.gg_net.specs.declared.shape.ServedPort.{ServedPort}
use Rattle.gg_net.specs.Network.{Network, Kind, kind_of, Frame, frame_of}
use Rattle.gg_net.specs.Kept.{IsSound, MachineAt, Kept}
use Rattle.gg_net.specs.inside.Net.{entry_of}
use Rattle.gg_net.proofs.PortLemmas.{any_port}
use Rattle.gg_net.proofs.MachineLemmas.{own_serve}
use Rattle.gg_net.proofs.PartLemmas.{own-may-serve, own-may-finish}
use Rattle.gg_workers_pass.specs.inside.Tries.{ServeIsDue, ServeTried, FinishIsDue, FinishTriedIf}
use Rattle.gg_workers_pass.specs.inside.Rows.{with_serves, ServesTried}
use Rattle.gg_workers_pass.proofs.RowLemmas.{alone-more}

-- the fields of the ports of a machine are ins that it has
pub fields-within : (flow : Flow) (frame : Frame) → IsSound flow frame → (m : ℕ) → m < length frame.kinds → (x : Machine) → MachineAt flow frame m x → (ports : List ServedPort) → ports ≡ map entry_of x.ports → All (λ (port : ServedPort). All (λ i. i < length x.latches) port.fields) ports
fields-within flow frame sound m below x at ports are =
    let fields : All (λ port. All (λ i. i < length x.latches) (fields_of port.access)) x.ports =
    subst (λ (kind : Kind). All (λ port. All (λ i. i < kind.ins) (fields_of port.access)) kind.ports) (sym at.kind) (sound.wired.fields m below) in
    subst (All (λ (port : ServedPort). All (λ i. i < length x.latches) port.fields)) (sym are)
    (λ k d lt.
    let within : k < length x.ports = omega (arith, lt, length-map x.ports entry_of) in
    subst (λ (port : ServedPort). All (λ i. i < length x.latches) port.fields) (sym (get_or-map entry_of x.ports k any_port d within)) (fields k any_port within))

module _ (flow : Flow) (net : Network) (kept : Kept flow net) (m : ℕ) (below : m < length (map kind_of net.machines)) where
  pub may-serve : (x : Machine) → MachineAt flow (frame_of net) m x → (p : ℕ) → ServeIsDue x p → MayServe x p
  may-serve x own p may = own-may-serve flow (frame_of net) kept.sound m below x own p may.fired may.due may.fields

  pub may-finish : (x : Machine) → MachineAt flow (frame_of net) m x → x.cycle < net.end → FinishIsDue x → MayFinish x
  may-finish x own going may = own-may-finish flow (frame_of net) kept.sound m below x own going may.fired may.served may.latched

  pub serves-start : (x : Machine) → MachineAt flow (frame_of net) m x → ServesTried flow net m x x
  serves-start x own = record { machine = own; same = refl; grows = omega arith }

  -- after one more port was served
  served-yes : (x y : Machine) (p : ℕ) → ServesTried flow net m x y → x.cycle < net.end → ServeIsDue y p → ServesTried flow net m x (with_served y)
  served-yes x y p h going may =
      record {
        machine = own_serve flow (frame_of net) kept.sound m below y h.machine p (subst (λ t. t < net.end) (sym (ap (λ (z : Machine). z.cycle) h.same)) going) may.fired may.due may.fields;
        same = ap (λ (z : Machine). with_serves z (with_served y).state (suc y.served)) h.same;
        grows = omega (arith, h.grows);
      }

  pub serve-step : (x : Machine) (hosts after : List Machine) (thread : ℕ) → thread < length hosts → x.cycle < net.end → ServesTried flow net m x (machine_at hosts thread) → (b : Bool) → ServeTried hosts thread after b → ServesTried flow net m x (machine_at after thread)
  serve-step x hosts after thread within going h true t =
      subst (ServesTried flow net m x) (sym (ap (λ all. machine_at all thread) t.step ∙ get_or-set_same hosts thread (with_served (machine_at hosts thread)) no_machine within))
      (served-yes x (machine_at hosts thread) t.port h going t.due)
  serve-step x hosts after thread within going h false t = subst (ServesTried flow net m x) (sym (ap (λ all. machine_at all thread) t.same)) h

-- a port is served only if one is left
pub serves-left : (hosts after : List Machine) (thread : ℕ) → thread < length hosts → ServeTried hosts thread after true → (machine_at after thread).served ≡ suc (machine_at hosts thread).served
serves-left hosts after thread within t = ap (λ (all : List Machine). (machine_at all thread).served) t.step ∙ ap (λ (x : Machine). x.served) (get_or-set_same hosts thread (with_served (machine_at hosts thread)) no_machine within)

pub alone-serve : (first hosts after : List Machine) (thread : ℕ) → thread < length first → hosts ≡ slice_set first thread (machine_at hosts thread) → (b : Bool) → ServeTried hosts thread after b → after ≡ slice_set first thread (machine_at after thread)
alone-serve first hosts after thread within alone true t = alone-more first hosts after thread (with_served (machine_at hosts thread)) within alone t.step
alone-serve first hosts after thread within alone false t = subst (λ all. all ≡ slice_set first thread (machine_at all thread)) (sym t.same) alone

pub alone-finish : (first hosts after : List Machine) (thread : ℕ) → thread < length first → hosts ≡ slice_set first thread (machine_at hosts thread) → (tried b : Bool) → FinishTriedIf tried hosts thread after b → after ≡ slice_set first thread (machine_at after thread)
alone-finish first hosts after thread within alone true true t = alone-more first hosts after thread (finished (machine_at hosts thread) t.state) within alone t.step
alone-finish first hosts after thread within alone false b t = subst (λ all. all ≡ slice_set first thread (machine_at all thread)) (sym t.1) alone
alone-finish first hosts after thread within alone true false t = subst (λ all. all ≡ slice_set first thread (machine_at all thread)) (sym t.same) alone
