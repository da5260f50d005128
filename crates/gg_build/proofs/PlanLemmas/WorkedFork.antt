-- A network with direct channels, worked by hand.
--
-- The hub has `q <= not(x)`, `u.a <= x` and `u.b <= u.s`. So `u.a` is direct, and the source of `x` gives it beside `x`; `u.b` leads from
-- unit `u` to `u` itself, and `u.s` is gone. The hub is machine 0, `u` is 1, the source is 2 and the tray of `q` is 3; the channels carry
-- `x`, `u.a`, `u.b` and `q`. What the hub and the unit do is left out (each is a tray).
use Rattle.std.proofs.Common.{◌≡◌, ℕ, zero, suc, ◌<◌, List, [], ◌∷◌, None, Bool, false, length, refl, ap, arith}
use Rattle.std.specs.Prelude.{codes}
use Rattle.gg_flat.specs.Line.{value_at}
use Rattle.gg_flat.proofs.WorkedCircuits.{eight}
use Rattle.gg_cut_plan.specs.declared.plan.Body.{Body}
use Rattle.gg_cut_plan.specs.declared.plan.Body.TheVariants.{Source, Tray}
use Rattle.gg_cut_plan.specs.declared.plan.Machine as planned
use Rattle.gg_cut_plan.specs.declared.plan.Channel.{Channel}
use Rattle.gg_cut_plan.specs.declared.plan.Plan.{Plan}
use Rattle.gg_node.specs.Machine.{Machine, no_state, source_machine}
use Rattle.gg_net.specs.declared.shape.Wire.{Wire}
use Rattle.gg_net.specs.Network.{IsAtOut, kind_of}
use Rattle.gg_build.specs.plan.Built.{IsBuilt, body_start, machine_in, wires_of_plan}
use Rattle.gg_build.specs.inside.Built.{IsListedAt, no_token}

abbrev machine : List ℕ → Body → List ℕ → List ℕ → planned.Machine
machine name body ins outs = record { name = name; host = 0; body = body; ins = ins; outs = outs }

abbrev channel : ℕ → List ℕ → ℕ → ℕ → Channel
channel s name producer consumer = record { signal = s; name = name; ty = eight; producer = producer; consumer = consumer; capacity = 1; pipe = false; needs = [] }

abbrev plan : Plan
plan =
    record {
      machines =
          machine (codes "hub:") Tray (0 ∷ []) (3 ∷ [])
          ∷ machine (codes "u") Tray (1 ∷ 2 ∷ []) (2 ∷ [])
          ∷ machine (codes "in:x") (Source 0) [] (0 ∷ 1 ∷ [])
          ∷ machine (codes "out:q") Tray (3 ∷ []) [] ∷ [];
      channels = channel 0 (codes "x") 2 0 ∷ channel 2 (codes "u.a") 2 1 ∷ channel 3 (codes "u.b") 1 1 ∷ channel 1 (codes "q") 0 3 ∷ [];
      listed = record { units = 1 ∷ []; memories = [] };
      ratios = [];
    }

abbrev joins : ℕ → ℕ → ℕ → ℕ → Wire
joins producer out consumer place = record { producer = producer; out = out; consumer = consumer; place = place; capacity = 1; first = None }

-- `x` and `u.a` lead from two outs of the source, and `u.b` leads from the only out of `u` to its second in
joined : wires_of_plan no_token plan ≡ joins 2 0 0 0 ∷ joins 2 1 1 0 ∷ joins 1 0 1 1 ∷ joins 0 0 3 0 ∷ []
joined = refl

-- ---- the source

abbrev columns : List (List ℕ)
columns = (5 ∷ 7 ∷ []) ∷ []

-- the source at its first cycle, with these flags
abbrev source : ℕ → List Bool → Machine
source cycle flags = source_machine (5 ∷ 7 ∷ []) cycle flags

-- a claim under an `abbrev`, with its arguments
record IsSourceHere (cycle : ℕ) (machine : Machine) : Type 0 where
  is : IsBuilt columns (length (machine_in plan 2).outs) (body_start (record { cycle = cycle; state = no_state; ratios = [] }) (machine_in plan 2).body) (machine_in plan 2).body machine

-- it has a flag for each of its two channels
forked : IsSourceHere 0 (source 0 (false ∷ false ∷ []))
forked = record { is = refl }

-- it begins with the cycle with which all begins
later : IsSourceHere 1 (source 1 (false ∷ false ∷ []))
later = record { is = refl }

-- another cycle is wrong
other-cycle : IsSourceHere 1 (source 0 (false ∷ false ∷ [])) → ⊥
other-cycle built = let same : 0 ≡ 1 = ap (λ (t : Machine). t.cycle) built.is in omega (arith, same)

-- one flag for both is too few
one-flag : IsSourceHere 0 (source 0 (false ∷ [])) → ⊥
one-flag built = let count : 1 ≡ 2 = ap (λ (t : Machine). length t.flags) built.is in omega (arith, count)

-- with two outs both channels stand where the plan lists them
listed : IsListedAt no_token plan 2 (kind_of (source 0 (false ∷ false ∷ [])))
listed = record { ins = refl; into = λ i lt. absurd (omega (arith, lt)); outs = refl; from = from; few = (omega arith, omega arith) }
  where
    from : (o : ℕ) → o < 2 → IsAtOut (wires_of_plan no_token plan) 2 o (value_at (0 ∷ 1 ∷ []) o)
    from zero lt = record { known = omega arith; machine = refl; out = refl }
    from (suc zero) lt = record { known = omega arith; machine = refl; out = refl }
    from (suc (suc o)) lt = absurd (omega (arith, lt))

-- with one out they don't
one-out : IsListedAt no_token plan 2 (kind_of (source 0 (false ∷ []))) → ⊥
one-out at = omega (arith, at.outs)
