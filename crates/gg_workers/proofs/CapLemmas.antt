-- A run up to the end of a network, where more cycles were asked for.
use Rattle.std.proofs.Common.{ℕ, ◌<◌, ◌≤◌, ◌*◌, length, arith}
use Rattle.std.specs.Prelude.{Result, Ok, Err, IfOk}
use Rattle.std.proofs.Math.Nat.{mul-le-mul_left}
use Rattle.gg_flat.specs.Streams.{Flow}
use Rattle.gg_node.specs.Machine.{machine_at}
use Rattle.gg_net.specs.Network.{Network, wire_at}
use Rattle.gg_net.specs.Step.{facts_of}
use Rattle.gg_net.proofs.RowLemmas.{latch-goes, fire-goes, serve-goes, finish-goes}
use Rattle.gg_net.proofs.TableLemmas.{is-below}
use Rattle.gg_workers_pass.specs.Pass.{RisesTo}
use Rattle.gg_workers.specs.Work.{IsLater}

pub on-ok : {A B : Type 0} (r : Result A B) (P Q : A → Type 0) → ((x : A) → P x → Q x) → IfOk r P → IfOk r Q
on-ok (Ok x) P Q f p = f x p
on-ok (Err e) P Q f p = p

rises-wider : (bound wider a b : ℕ) → bound ≤ wider → RisesTo bound a b → RisesTo wider a b
rises-wider bound wider a b le rises = record { up = rises.up; within = omega (arith, le, rises.within) }

-- no machine is stepped past the end
pub is-capped : (flow : Flow) (bound upto : ℕ) (old new : Network) → bound ≤ upto → ((n : ℕ) → n < upto → n < old.end → n < bound) → IsLater flow bound old new → IsLater flow upto old new
is-capped flow bound upto old new le below is =
    record {
      frame = is.frame;
      kept = is.kept;
      counts = record {
        cycles = λ m lt. rises-wider bound upto _ _ le (is.counts.cycles m lt);
        serves = λ m lt. let ports : ℕ = length (machine_at old.machines m).ports in rises-wider (ports * bound) (ports * upto) _ _ (mul-le-mul_left {m = bound} {n = upto} ports le) (is.counts.serves m lt);
        puts = λ c lt. rises-wider bound upto _ _ le (is.counts.puts c lt);
        takes = λ c lt. rises-wider bound upto _ _ le (is.counts.takes c lt);
      };
      done = record {
        latch = λ c can low. is.done.latch c can (below _ low (is-below old (wire_at old.wires c).consumer (latch-goes (facts_of old) c can).below));
        fire = λ c can low. is.done.fire c can (below _ low (is-below old (wire_at old.wires c).producer (fire-goes (facts_of old) c can).below));
        serve = λ m p can low. is.done.serve m p can (below _ low (is-below old m (serve-goes (facts_of old) m p can).below));
        finish = λ m can low. is.done.finish m can (below _ low (is-below old m (finish-goes (facts_of old) m can).below));
      };
    }
