-- Two threads of one program, worked by hand: the unit whose output `p` is its input `x` and whose output `q` is
-- `xor(x, k)`. The first thread gives both. The second gives `q` twice and then `p`, and has a clock of ratio 2/3.
use Rattle.std.proofs.Common.{◌≡◌, ℕ, List, [], ◌∷◌, Option, Some, None, true, false, true≢false, refl, sym, subst, arith, lit<, ◌+◌, ◌≤◌}
use Rattle.gg_flat.specs.Clock.{Ratio}
use Rattle.gg_order.proofs.NeedsLemmas.ReachLemmas.{Reaches-itself}
use Rattle.gg_order.proofs.NeedsLemmas.WorkedUnits.{unit}
use Rattle.gg_node.specs.Machine.{Machine, machine_at, missing, edges_of, no_state}
use Rattle.gg_node.specs.inside.Step.{MayFire}
use Rattle.gg_program.specs.Programmed.{Programmed}
use Rattle.gg_program.specs.inside.Unset.{assignments}
use Rattle.gg_program.specs.Slots.{Slotted}
use Rattle.gg_fame5.specs.Machine.{unit_machine}
use Rattle.gg_fame5.specs.inside.Lane.{Laned, lane_machine, started_lane, latched_lane, out_signal}
use Rattle.gg_fame5.specs.inside.Shared.{Sharing, opening_machines, unset_of, IsConeDoneOf}
use Rattle.gg_fame5.proofs.SharedLemmas.{unset-of-most}
use Rattle.gg_fame5.proofs.WorkedPair.{program}

-- which outs each thread has, and its ratios
abbrev outs : List (List ℕ)
outs = (0 ∷ 1 ∷ []) ∷ (1 ∷ 1 ∷ 0 ∷ []) ∷ []

abbrev ratios : List (List Ratio)
ratios = [] ∷ (record { m = 2; d = 3 } ∷ []) ∷ []

abbrev machines : List Machine
machines = opening_machines program outs ratios

-- the first thread is a unit of the program, the second has three outs
first : machine_at machines 0 ≡ unit_machine program [] 0 no_state (None ∷ None ∷ []) (false ∷ false ∷ [])
first = refl

second-flags : (machine_at machines 1).flags ≡ false ∷ false ∷ false ∷ []
second-flags = refl

-- the signals that the outs of the second give, and what these need
abbrev lane : Laned
lane = started_lane unit (Some (1 ∷ 1 ∷ 0 ∷ [])) (record { m = 2; d = 3 } ∷ []) no_state 0

signals : out_signal unit lane 0 ∷ out_signal unit lane 1 ∷ out_signal unit lane 2 ∷ [] ≡ 3 ∷ 3 ∷ 2 ∷ []
signals = refl

abbrev has-x : Machine
has-x = lane_machine program (latched_lane lane 0 5)

first-wants-k : missing has-x 0 ≡ Some 1
first-wants-k = refl

-- its last out is `p`, which may be given with `x` alone, and its first isn't
last-may : MayFire has-x 2
last-may = record { there = lit< tt; clear = refl; needed = refl; known = tt }

first-may-not : MayFire has-x 0 → ⊥
first-may-not may = let is : ◌≡◌ {A = Option ℕ} (Some 1) None = may.needed in cc

-- its clock has no edge in cycle 0, and one in cycle 1; the first thread has no clock
edges-first : edges_of has-x ≡ false ∷ []
edges-first = refl

edges-then : edges_of (lane_machine program (started_lane unit None (record { m = 2; d = 3 } ∷ []) no_state 1)) ≡ true ∷ []
edges-then = refl

-- ---- what has still to be evaluated

-- `x` was put for the first thread, and `p` was worked out
abbrev with-p : Slotted
with-p = record { values = 5 ∷ 0 ∷ 5 ∷ 0 ∷ []; done = true ∷ false ∷ true ∷ false ∷ []; room = 3 }

abbrev shared : Sharing
shared = record { program = program; lanes = latched_lane (started_lane unit None [] no_state 0) 0 5 ∷ latched_lane lane 0 5 ∷ []; turn = 0; slots = with-p }

-- one signal is left for it, and both for the second, whose turn it isn't
unset-first : unset_of shared 0 ≡ 1
unset-first = refl

unset-second : unset_of shared 1 ≡ 2
unset-second = refl

-- nothing is done for the second, though it has the same token in its latch
second-not-done : ¬ IsConeDoneOf shared 1 2
second-not-done done = let is : 0 ≡ 1 = done.turn in omega (arith, is)

-- nor is `q` done for the first
q-not-done : ¬ IsConeDoneOf shared 0 1
q-not-done done = true≢false (sym (done.cone 3 (Reaches-itself unit 3)))

-- slots that go over to the second thread without being cleared would have nothing left but `q`
not-kept : ¬ (unset_of shared 1 ≡ unset_of shared 0)
not-kept same = omega (arith, same)

-- `k` was put too, and `q` was worked out
abbrev with-q : Slotted
with-q = record { values = 5 ∷ 0 ∷ 5 ∷ 5 ∷ []; done = true ∷ true ∷ true ∷ true ∷ []; room = 3 }

abbrev worked-out : Sharing
worked-out = record shared { slots = with-q }

-- a call that works out `q` and counts no step isn't exact
not-uncounted : ¬ (7 + unset_of worked-out 0 ≡ 7 + unset_of shared 0)
not-uncounted same = omega (arith, same)

-- ---- a row of steps: `p`, then `q`, then `q` once more

-- by what `token_once` promises of each call, `p` and `q` take at most two steps together
both : (first then last : Sharing) (start one two : ℕ) → first.program ≡ program → then.program ≡ first.program → one + unset_of then 0 ≤ start + unset_of first 0 → two + unset_of last 0 ≤ one + unset_of then 0 → two ≤ start + 2
both first then last start one two is same p q = omega (arith, p, q, most)
  where
    most : unset_of first 0 ≤ 2
    most = subst (λ (program : Programmed). unset_of first 0 ≤ assignments program.circuit) is (unset-of-most first 0)

-- and `q` once more takes none
again : (last : Sharing) (two three : ℕ) → IsConeDoneOf last 0 1 → (IsConeDoneOf last 0 1 → three ≡ two) → three ≡ two
again last two three done still = still done
