-- The progress of a loop over the channels or the machines of a network.
-- Source: this program's own.
use Rattle.std.specs.Prelude.{◌≡◌, ℕ, ◌<◌, List, Bool, true, false}
use Rattle.gg_net.specs.declared.event.Event.{Event}
use Rattle.gg_net.specs.declared.event.Event.TheVariants.{Latch, Fire, Finish}
use Rattle.gg_net.specs.declared.shape.Wire.{Wire}
use Rattle.gg_net.specs.Network.{Network}
use Rattle.gg_net.specs.Step.{Ready}
use Rattle.gg_measure.specs.inside.Nets.{IsAtWork, NoServe, IsIdle, Goes, net_left}
use Rattle.gg_net.specs.Network.{cycle_at}

-- The events of the channels at the first places of a machine were tried. If none was done, none can be done.
pub record HasTried (event_of : ℕ → Event) (IsAt : List Wire → ℕ → ℕ → ℕ → Type 0) (cycle m count : ℕ) (old : Network) (moved : Bool) (new : Network) : Type 0 where
  pub work : IsAtWork cycle m new
  pub goes : Goes cycle old moved new
  pub none : moved ≡ false → (i c : ℕ) → i < count → IsAt new.wires m i c → Ready new (event_of c) → ⊥

-- A machine served a port.
pub record HasServedOne (cycle m : ℕ) (old new : Network) : Type 0 where
  pub work : IsAtWork cycle m new
  pub goes : Goes cycle old true new
  pub falls : net_left new < net_left old

-- A machine's turn: latches, fires and serves, and then the attempt to finish.
pub record HadTurn (cycle m : ℕ) (old : Network) (moved : Bool) (new : Network) : Type 0 where
  pub goes : Goes cycle old moved new
  pub idle : moved ≡ false → IsIdle new m

-- The first machines had their turns. If nothing was done, each of them that is below the cycle is idle.
pub record HasGoneRound (cycle count : ℕ) (old : Network) (moved : Bool) (new : Network) : Type 0 where
  pub goes : Goes cycle old moved new
  pub idle : moved ≡ false → (m : ℕ) → m < count → cycle_at new m < cycle → IsIdle new m

-- No event of these channels can be done. None of these machines can serve a port or finish its cycle.
pub record NoneFound (net : Network) (channels machines : ℕ) : Type 0 where
  pub latches : (c : ℕ) → c < channels → Ready net (Latch c) → ⊥
  pub fires : (c : ℕ) → c < channels → Ready net (Fire c) → ⊥
  pub serves : (m : ℕ) → m < machines → NoServe net m
  pub finishes : (m : ℕ) → m < machines → Ready net (Finish m) → ⊥
