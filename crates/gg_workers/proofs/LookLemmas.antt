-- A look at an event: a step of one machine, or nothing.
use Rattle.std.proofs.Common.{◌≡◌, ℕ, List, Bool, false, length, sym, ap, subst, ◌∙◌}
use Rattle.gg_node.specs.Machine.{Machine}
use Rattle.gg_net.specs.declared.shape.Station.{Station}
use Rattle.gg_net.specs.Network.{Network, Kind, kind_at, frame_of}
use Rattle.gg_net.specs.inside.Net.{IsListed}
use Rattle.gg_net.specs.Kept.{MachineAt}
use Rattle.gg_flat.specs.Streams.{Flow}
use Rattle.gg_workers_pass.specs.inside.Rows.{StepsDone}

-- the station of a machine lists as many channels as the machine has ins and outs
module _ (flow : Flow) (net : Network) (m : ℕ) (station : Station) (listed : IsListed net.wires m (kind_at (frame_of net).kinds m) station) (x : Machine) (own : MachineAt flow (frame_of net) m x) where
  pub ins-listed : length station.ins ≡ length x.latches
  ins-listed = listed.ins ∙ sym (ap (λ (kind : Kind). kind.ins) own.kind)

  pub outs-listed : length station.outs ≡ length x.flags
  outs-listed = listed.outs ∙ sym (ap (λ (kind : Kind). kind.outs) own.kind)

-- nothing was done
pub nothing-done : (old new : List Machine) (thread : ℕ) (stepped : Bool) → stepped ≡ false → StepsDone old thread new stepped → new ≡ old
nothing-done old new thread stepped is done = subst (StepsDone old thread new) is done
