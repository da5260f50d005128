-- Whether a try, a row of tries or a pass has done a step.
use Rattle.std.proofs.Common.{◌≡◌, ◌||◌, ◌+◌, ◌*◌, ℕ, suc, ◌<◌, ◌≤◌, List, Option, None, Some, Bool, true, false, length, sym, ap, subst, ◌∙◌, arith, length-set, get_or-set_same}
use Rattle.std.specs.Prelude.{cond, is_some, count_by, replicate, slice_set}
use Rattle.std.proofs.Math.Nat.{mul-suc}
use Rattle.std.proofs.lemmas.List.{length-replicate}
use Rattle.std.proofs.lemmas.List.Sums.{sum_by-set, count_by-le-length}
use Rattle.gg_flat.specs.State.{State}
use Rattle.gg_link.specs.Seats.{SeatState}
use Rattle.gg_node.specs.Machine.{Machine, no_machine, machine_at, latch_at, flag_at}
use Rattle.gg_node.specs.Step.{with_latch, with_flag, with_served, finished}
use Rattle.gg_workers_pass.specs.inside.Tries.{LatchTried, FireTried, ServeTried, FinishTriedIf}
use Rattle.gg_workers_pass.specs.inside.Rows.{steps_by, StepsDone}

-- ---- one step

one-more : (p f s k n : ℕ) → n ≡ suc k → p + (n + f + s) ≡ suc (p + (k + f + s))
one-more p f s k n is = omega (arith, is)

one-more-flag : (p l s k n : ℕ) → n ≡ suc k → p + (l + n + s) ≡ suc (p + (l + k + s))
one-more-flag p l s k n is = omega (arith, is)

latch-counts : (x : Machine) (place value : ℕ) → place < length x.latches → latch_at x.latches place ≡ None → steps_by (with_latch x place value) ≡ suc (steps_by x)
latch-counts x place value inside empty =
    let f : Option ℕ → ℕ = λ latch. cond (is_some latch) 1 0 in
    let latches : List (Option ℕ) = slice_set x.latches place (Some value) in
    let more : count_by is_some latches ≡ suc (count_by is_some x.latches) = omega (arith, sum_by-set f x.latches place (Some value) None inside, ap f empty) in
    ap (λ n. (n + length x.flags + length x.ports + 1) * x.cycle + (count_by is_some latches + count_by (λ flag. flag) x.flags + x.served)) (length-set x.latches place (Some value))
    ∙ one-more ((length x.latches + length x.flags + length x.ports + 1) * x.cycle) (count_by (λ flag. flag) x.flags) x.served (count_by is_some x.latches) (count_by is_some latches) more

fire-counts : (x : Machine) (place : ℕ) → place < length x.flags → flag_at x.flags place ≡ false → steps_by (with_flag x place) ≡ suc (steps_by x)
fire-counts x place inside clear =
    let f : Bool → ℕ = λ flag. cond flag 1 0 in
    let flags : List Bool = slice_set x.flags place true in
    let more : count_by (λ flag. flag) flags ≡ suc (count_by (λ flag. flag) x.flags) = omega (arith, sum_by-set f x.flags place true false inside, ap f clear) in
    ap (λ n. (length x.latches + n + length x.ports + 1) * x.cycle + (count_by is_some x.latches + count_by (λ flag. flag) flags + x.served)) (length-set x.flags place true)
    ∙ one-more-flag ((length x.latches + length x.flags + length x.ports + 1) * x.cycle) (count_by is_some x.latches) x.served (count_by (λ flag. flag) x.flags) (count_by (λ flag. flag) flags) more

past : (n c k j : ℕ) → k < n → n * c + k < n * suc c + j
past n c k j lt = omega (arith, lt, mul-suc n c)

finish-counts : (x : Machine) (next : State) → x.served ≤ length x.ports → steps_by x < steps_by (finished x next)
finish-counts x next served =
    let latches : List (Option ℕ) = replicate (length x.latches) None in
    let flags : List Bool = replicate (length x.flags) false in
    let n : ℕ = length x.latches + length x.flags + length x.ports + 1 in
    let k : ℕ = count_by is_some x.latches + count_by (λ flag. flag) x.flags + x.served in
    let j : ℕ = count_by is_some latches + count_by (λ flag. flag) flags + 0 in
    let same : length latches + length flags + length x.ports + 1 ≡ length x.latches + length x.flags + length x.ports + 1 = omega (arith, length-replicate {A = Option ℕ} (length x.latches) None, length-replicate (length x.flags) false) in
    subst (λ m. steps_by x < m * suc x.cycle + (count_by is_some latches + count_by (λ flag. flag) flags + 0)) (sym same)
    (past n x.cycle k j (omega (arith, served, count_by-le-length is_some x.latches, count_by-le-length (λ (flag : Bool). flag) x.flags)))

-- ---- a try

-- the machine of a thread after a step of it
stepped-is : (hosts after : List Machine) (thread : ℕ) (y : Machine) → thread < length hosts → after ≡ slice_set hosts thread y → machine_at after thread ≡ y
stepped-is hosts after thread y within step = ap (λ all. machine_at all thread) step ∙ get_or-set_same hosts thread y no_machine within

stepped-more : (hosts after : List Machine) (thread : ℕ) (y : Machine) → thread < length hosts → after ≡ slice_set hosts thread y → steps_by (machine_at hosts thread) < steps_by y → StepsDone hosts thread after true
stepped-more hosts after thread y within step more = subst (λ (z : Machine). steps_by (machine_at hosts thread) < steps_by z) (sym (stepped-is hosts after thread y within step)) more

less-than-next : (a b : ℕ) → b ≡ suc a → a < b
less-than-next a b is = omega (arith, is)

module _ (hosts after : List Machine) (thread : ℕ) (within : thread < length hosts) where
  abbrev x : Machine
  x = machine_at hosts thread

  pub latch-done : (place : ℕ) (p q : SeatState) (b : Bool) → place < length (machine_at hosts thread).latches → LatchTried hosts thread place p after q b → StepsDone hosts thread after b
  latch-done place p q true inside t = stepped-more hosts after thread (with_latch x place t.value) within t.step (less-than-next (steps_by x) (steps_by (with_latch x place t.value)) (latch-counts x place t.value inside t.empty))
  latch-done place p q false inside t = t.same

  pub fire-done : (place : ℕ) (p q : SeatState) (b : Bool) → place < length (machine_at hosts thread).flags → FireTried hosts thread place p after q b → StepsDone hosts thread after b
  fire-done place p q true inside t = stepped-more hosts after thread (with_flag x place) within t.step (less-than-next (steps_by x) (steps_by (with_flag x place)) (fire-counts x place inside t.clear))
  fire-done place p q false inside t = t.same

  pub serve-done : (b : Bool) → ServeTried hosts thread after b → StepsDone hosts thread after b
  serve-done true t = stepped-more hosts after thread (with_served x) within t.step (omega arith)
  serve-done false t = t.same

  pub finish-done : (tried b : Bool) → (machine_at hosts thread).served ≤ length (machine_at hosts thread).ports → FinishTriedIf tried hosts thread after b → StepsDone hosts thread after b
  finish-done true true served t = stepped-more hosts after thread (finished x t.state) within t.step (finish-counts x t.state served)
  finish-done true false served t = t.same
  finish-done false b served t = subst (StepsDone hosts thread after) (sym t.0) t.1

-- ---- several

-- steps, or none, after others
pub done-more : (first hosts after : List Machine) (thread : ℕ) (b done : Bool) → StepsDone first thread hosts b → StepsDone hosts thread after done → StepsDone first thread after (b || done)
done-more first hosts after thread false false h t = t ∙ h
done-more first hosts after thread false true h t = subst (λ all. steps_by (machine_at all thread) < steps_by (machine_at after thread)) h t
done-more first hosts after thread true false h t = subst (λ all. steps_by (machine_at first thread) < steps_by (machine_at all thread)) (sym t) h
done-more first hosts after thread true true h t = omega (arith, h, t)
