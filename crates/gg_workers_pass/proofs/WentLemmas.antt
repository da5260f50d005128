-- No count of a machine falls in a pass, and none rises past the cycle up to which machines are stepped.
use Rattle.std.proofs.Common.{◌≡◌, ◌+◌, ◌*◌, ℕ, suc, ◌<◌, ◌≤◌, List, Option, None, Some, Bool, true, false, length, refl, sym, ap, subst, ◌∙◌, arith, true≢false}
use Rattle.std.specs.Prelude.{IsSome}
use Rattle.std.proofs.Math.Nat.{mul-suc, mul-le-mul_left}
use Rattle.gg_flat.specs.State.{State}
use Rattle.gg_flat.specs.Streams.{Flow}
use Rattle.gg_node.specs.Machine.{Port, Machine, latch_at, flag_at}
use Rattle.gg_node.specs.Step.{AllFired, finished}
use Rattle.gg_node.specs.inside.Step.{AllLatched}
use Rattle.gg_net.specs.Network.{wire_at, and_one, got_by, entered_by, Kind, kind_of, Frame}
use Rattle.gg_net.specs.Kept.{IsSound, MachineAt}
use Rattle.gg_net.specs.inside.Parted.{takes_by}
use Rattle.gg_net.proofs.StepLemmas.{clear-after}
use Rattle.gg_net.proofs.MachineLemmas.{out-within}
use Rattle.gg_net.proofs.PartLemmas.{takes-finish}
use Rattle.gg_workers_pass.specs.Tries.{StandsBelow}
use Rattle.gg_workers_pass.specs.inside.Rows.{with_latches, with_flags, with_serves}
use Rattle.gg_workers_pass.specs.inside.Pass.{puts_by, serves_by, MachineWentOn}
use Rattle.gg_workers_pass.specs.Pass.{RisesTo}

-- ---- one count

pub rises-not : (bound a b : ℕ) → b ≡ a → RisesTo bound a b
rises-not bound a b is = record { up = omega (arith, is); within = omega (arith, is) }

pub rises-on : (bound a b c : ℕ) → RisesTo bound a b → RisesTo bound b c → RisesTo bound a c
rises-on bound a b c first then = record { up = omega (arith, first.up, then.up); within = omega (arith, first.within, then.within) }

got-rises : (n upto : ℕ) (old new : Option ℕ) → n < upto → (IsSome old → IsSome new) → RisesTo upto (got_by n old) (got_by n new)
got-rises n upto None None lt grows = rises-not upto n n refl
got-rises n upto None (Some value) lt grows = record { up = omega arith; within = omega (arith, lt) }
got-rises n upto (Some value) None lt grows = absurd (true≢false (sym (grows refl)))
got-rises n upto (Some value) (Some other) lt grows = rises-not upto (suc n) (suc n) refl

given-rises : (n upto : ℕ) (old new : Bool) → n < upto → (old ≡ true → new ≡ true) → RisesTo upto (and_one n old) (and_one n new)
given-rises n upto false false lt grows = rises-not upto n n refl
given-rises n upto false true lt grows = record { up = omega arith; within = omega (arith, lt) }
given-rises n upto true false lt grows = absurd (true≢false (sym (grows refl)))
given-rises n upto true true lt grows = rises-not upto (suc n) (suc n) refl

-- from the number of tokens that have entered a channel to the number of those that were put
pub enters-puts : (first : Option ℕ) (a b : ℕ) → entered_by first a < entered_by first b → a < b
enters-puts None a b lt = lt
enters-puts (Some token) a b lt = omega (arith, lt)

-- ---- serves

-- a machine in a later cycle, or after more ports in the same one, has served no fewer ports
pub serves-later : (ports cycle cycle' served served' : ℕ) → served ≤ ports → cycle < cycle' → ports * cycle + served ≤ ports * cycle' + served'
serves-later ports cycle cycle' served served' within lt = omega (arith, within, mul-suc ports cycle, mul-le-mul_left {m = suc cycle} {n = cycle'} ports (omega (arith, lt)))

pub serves-short : (ports cycle upto served : ℕ) → served ≤ ports → cycle < upto → ports * cycle + served ≤ ports * upto
serves-short ports cycle upto served within lt = omega (arith, within, mul-suc ports cycle, mul-le-mul_left {m = suc cycle} {n = upto} ports (omega (arith, lt)))

-- ---- one machine

module _ (frame : Frame) (m upto : ℕ) where
  pub went-nowhere : (x : Machine) → MachineWentOn frame m upto x x
  went-nowhere x =
      record {
        kind = refl;
        cycle = rises-not upto x.cycle x.cycle refl;
        takes = λ c known to. rises-not upto (takes_by frame x c) (takes_by frame x c) refl;
        puts = λ c known from. rises-not upto (puts_by frame x c) (puts_by frame x c) refl;
        serves = rises-not (length x.ports * upto) (serves_by x) (serves_by x) refl;
      }

  pub went-further : (x y z : Machine) → MachineWentOn frame m upto x y → MachineWentOn frame m upto y z → MachineWentOn frame m upto x z
  went-further x y z first then =
      record {
        kind = then.kind ∙ first.kind;
        cycle = rises-on upto x.cycle y.cycle z.cycle first.cycle then.cycle;
        takes = λ c known to. rises-on upto (takes_by frame x c) (takes_by frame y c) (takes_by frame z c) (first.takes c known to) (then.takes c known to);
        puts = λ c known from. rises-on upto (puts_by frame x c) (puts_by frame y c) (puts_by frame z c) (first.puts c known from) (then.puts c known from);
        serves =
            rises-on (length x.ports * upto) (serves_by x) (serves_by y) (serves_by z) first.serves
            (subst (λ (ports : List Port). RisesTo (length ports * upto) (serves_by y) (serves_by z)) (ap (λ (k : Kind). k.ports) first.kind) then.serves);
      }

  module _ (x y : Machine) (below : StandsBelow upto x) (kind : kind_of y ≡ kind_of x) where
    pub went-latches : y ≡ with_latches x y.latches → ((i : ℕ) → IsSome (latch_at x.latches i) → IsSome (latch_at y.latches i)) → MachineWentOn frame m upto x y
    went-latches same grows =
        record {
          kind = kind;
          cycle = rises-not upto x.cycle y.cycle (ap (λ (z : Machine). z.cycle) same);
          takes = λ c known to.
              subst (λ n. RisesTo upto (takes_by frame x c) (got_by n (latch_at y.latches (wire_at frame.wires c).place))) (sym (ap (λ (z : Machine). z.cycle) same))
              (got-rises x.cycle upto (latch_at x.latches (wire_at frame.wires c).place) (latch_at y.latches (wire_at frame.wires c).place) below (grows (wire_at frame.wires c).place));
          puts = λ c known from. rises-not upto (puts_by frame x c) (puts_by frame y c) (ap (λ z. puts_by frame z c) same);
          serves = rises-not (length x.ports * upto) (serves_by x) (serves_by y) (ap serves_by same);
        }

    pub went-fires : y ≡ with_flags x y.flags → ((o : ℕ) → flag_at x.flags o ≡ true → flag_at y.flags o ≡ true) → MachineWentOn frame m upto x y
    went-fires same grows =
        record {
          kind = kind;
          cycle = rises-not upto x.cycle y.cycle (ap (λ (z : Machine). z.cycle) same);
          takes = λ c known to. rises-not upto (takes_by frame x c) (takes_by frame y c) (ap (λ z. takes_by frame z c) same);
          puts = λ c known from.
              subst (λ n. RisesTo upto (puts_by frame x c) (and_one n (flag_at y.flags (wire_at frame.wires c).out))) (sym (ap (λ (z : Machine). z.cycle) same))
              (given-rises x.cycle upto (flag_at x.flags (wire_at frame.wires c).out) (flag_at y.flags (wire_at frame.wires c).out) below (grows (wire_at frame.wires c).out));
          serves = rises-not (length x.ports * upto) (serves_by x) (serves_by y) (ap serves_by same);
        }

    pub went-serves : y ≡ with_serves x y.state y.served → x.served ≤ y.served → y.served ≤ length y.ports → MachineWentOn frame m upto x y
    went-serves same grows within =
        let is : serves_by y ≡ length x.ports * x.cycle + y.served = ap serves_by same in
        let most : y.served ≤ length x.ports = subst (λ (ports : List Port). y.served ≤ length ports) (ap (λ (z : Machine). z.ports) same) within in
        record {
          kind = kind;
          cycle = rises-not upto x.cycle y.cycle (ap (λ (z : Machine). z.cycle) same);
          takes = λ c known to. rises-not upto (takes_by frame x c) (takes_by frame y c) (ap (λ z. takes_by frame z c) same);
          puts = λ c known from. rises-not upto (puts_by frame x c) (puts_by frame y c) (ap (λ z. puts_by frame z c) same);
          serves = record {
            up = omega (arith, is, grows);
            within = omega (arith, is, serves-short (length x.ports) x.cycle upto y.served most below);
          };
        }

  module _ (flow : Flow) (sound : IsSound flow frame) (there : m < length frame.kinds) (x : Machine) (at : MachineAt flow frame m x) (below : StandsBelow upto x) (next : State) where
    pub went-finish : kind_of (finished x next) ≡ kind_of x → AllFired x → AllLatched x → MachineWentOn frame m upto x (finished x next)
    went-finish kind fired latched =
        record {
          kind = kind;
          cycle = record { up = omega arith; within = omega (arith, below) };
          takes = λ c known to. rises-not upto (takes_by frame x c) (takes_by frame (finished x next) c) (takes-finish flow frame sound m there x at next c known to latched);
          puts = λ c known from.
              let o : ℕ = (wire_at frame.wires c).out in
              rises-not upto (puts_by frame x c) (puts_by frame (finished x next) c)
              (ap (and_one (suc x.cycle)) (clear-after (length x.flags) o) ∙ sym (ap (and_one x.cycle) (fired o false (out-within flow frame sound m there x at c known from))));
          serves = record {
            up = serves-later (length x.ports) x.cycle (suc x.cycle) x.served 0 at.served (omega arith);
            within = omega (arith, mul-le-mul_left {m = suc x.cycle} {n = upto} (length x.ports) (omega (arith, below)));
          };
        }
