-- What goes within a bound twice goes within it.
use Rattle.std.proofs.Common.{◌≡◌, ℕ, zero, suc, ◌*◌, ◌<◌, ◌≤◌, length, refl, sym, ap, subst, ◌∙◌, arith}
use Rattle.std.specs.Prelude.{max, Result, Ok, IfOk}
use Rattle.std.proofs.lemmas.Result.{IfOk-weaker}
use Rattle.gg_flat.specs.Streams.{Flow}
use Rattle.gg_net.specs.Network as network
use Rattle.gg_net.specs.Network.{Network, frame_of}
use Rattle.gg_measure.specs.inside.Nets.{StaysWithin, dues_at}
use Rattle.gg_net.specs.Network.{cycle_at}
use Rattle.gg_workers.specs.Work.{CountsRose, IsLater}
use Rattle.gg_rows.specs.inside.Window.{GoesWithin}
use Rattle.gg_rows.proofs.FrameLemmas.{same-machines, same-wires, dues-same}

twice : (bound old middle new : ℕ) → middle ≤ max bound old → new ≤ max bound middle → new ≤ max bound old
twice bound old middle new one other = omega (arith, one, other)

-- a network that stays goes within any bound
pub stays : (bound : ℕ) (net : Network) → GoesWithin bound net net
stays bound net = record { frame = refl; bounds = record { cycles = λ m lt. omega arith; puts = λ c lt. omega arith; takes = λ c lt. omega arith; serves = λ m lt. omega arith } }

-- a network that workers have run has gone within their bound
pub later-within : (bound : ℕ) (old new : Network) → frame_of new ≡ frame_of old → CountsRose bound old new → GoesWithin bound old new
later-within bound old new same rose =
    record {
      frame = same;
      bounds = record {
        cycles = λ m lt. (rose.cycles m lt).within;
        puts = λ c lt. (rose.puts c lt).within;
        takes = λ c lt. (rose.takes c lt).within;
        serves = λ m lt. (rose.serves m lt).within;
      };
    }

pub then-within : (bound : ℕ) (old middle new : Network) → GoesWithin bound old middle → frame_of new ≡ frame_of middle → StaysWithin bound middle new → GoesWithin bound old new
then-within bound old middle new one same other =
    let machines : length middle.machines ≡ length old.machines = same-machines old middle one.frame in
    let wires : length middle.wires ≡ length old.wires = ap length (same-wires old middle one.frame) in
    record {
      frame = same ∙ one.frame;
      bounds = record {
        cycles = λ m lt. twice bound (cycle_at old m) (cycle_at middle m) (cycle_at new m) (one.bounds.cycles m lt) (other.cycles m (omega (arith, lt, machines)));
        puts = λ c lt. twice bound (network.puts old c) (network.puts middle c) (network.puts new c) (one.bounds.puts c lt) (other.puts c (omega (arith, lt, wires)));
        takes = λ c lt. twice bound (network.takes old c) (network.takes middle c) (network.takes new c) (one.bounds.takes c lt) (other.takes c (omega (arith, lt, wires)));
        serves = λ m lt.
            twice (dues_at old m * bound) (network.serves old m) (network.serves middle m) (network.serves new m) (one.bounds.serves m lt)
            (subst (λ d. network.serves new m ≤ max (d * bound) (network.serves middle m)) (dues-same old middle one.frame m lt) (other.serves m (omega (arith, lt, machines))));
      };
    }

-- no machine is above the bound afterwards
pub none-above : (bound : ℕ) (old new : Network) → GoesWithin bound old new → ((m : ℕ) → m < length old.machines → cycle_at old m ≤ bound) → (m : ℕ) → m < length new.machines → cycle_at new m ≤ bound
none-above bound old new goes low m lt =
    let there : m < length old.machines = omega (arith, lt, same-machines old new goes.frame) in
    omega (arith, goes.bounds.cycles m there, low m there)

-- workers run a network within their bound, and no workers leave it as it is
pub worked : {E : Type 0} (workers bound : ℕ) (flow : Flow) (net : Network) (r : Result Network E) → (0 < workers → IfOk r (λ new. IsLater flow bound net new)) → (workers ≡ 0 → r ≡ Ok net) → IfOk r (GoesWithin bound net)
worked zero bound flow net r later none = subst (λ x. IfOk x (GoesWithin bound net)) (sym (none refl)) (stays bound net)
worked (suc k) bound flow net r later none = IfOk-weaker r _ _ (λ new is. later-within bound net new is.frame is.counts) (later (omega arith))
