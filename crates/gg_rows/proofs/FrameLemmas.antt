-- What two networks with one frame have in common.
use Rattle.std.proofs.Common.{◌≡◌, ℕ, ◌<◌, length, sym, ap, ◌∙◌, arith}
use Rattle.std.proofs.lemmas.List.{get_or-map, length-map}
use Rattle.gg_node.specs.Machine.{no_machine, machine_at}
use Rattle.gg_net.specs.Network.{Network, Frame, Kind, frame_of, kind_of, kind_at, no_kind}
use Rattle.gg_measure.specs.inside.Nets.{dues_at}

module _ (old new : Network) (same : frame_of new ≡ frame_of old) where
  pub same-machines : length new.machines ≡ length old.machines
  same-machines = omega (arith, length-map new.machines kind_of, length-map old.machines kind_of, ap (λ (f : Frame). length f.kinds) same)

  pub same-wires : new.wires ≡ old.wires
  same-wires = ap (λ (f : Frame). f.wires) same

  pub same-end : new.end ≡ old.end
  same-end = ap (λ (f : Frame). f.end) same

  pub kind-same : (m : ℕ) → m < length old.machines → kind_of (machine_at new.machines m) ≡ kind_of (machine_at old.machines m)
  kind-same m lt =
      sym (get_or-map kind_of new.machines m no_machine no_kind (omega (arith, lt, same-machines))) ∙ ap (λ (f : Frame). kind_at f.kinds m) same
      ∙ get_or-map kind_of old.machines m no_machine no_kind lt

  pub dues-same : (m : ℕ) → m < length old.machines → dues_at new m ≡ dues_at old m
  dues-same m lt = ap (λ (k : Kind). length k.ports) (kind-same m lt)
