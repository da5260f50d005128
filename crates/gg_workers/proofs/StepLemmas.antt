-- Steps are counted over the machines of a host, and over several hosts.
use Rattle.std.proofs.Common.{◌≡◌, ℕ, ◌+◌, ◌*◌, ◌<◌, ◌≤◌, List, [], Bool, true, false, length, slice_index_or, slice_set, sym, ap, subst, ◌∙◌, arith}
use Rattle.std.specs.Prelude.{◌||◌, MatchBool}
use Rattle.std.proofs.lemmas.List.{map-set, set-get_or, get_or-map, length-map}
use Rattle.std.proofs.lemmas.List.Sums.{sum_by-set}
use Rattle.gg_node.specs.Machine.{Machine, no_machine, machine_at}
use Rattle.gg_workers_pass.specs.inside.Rows.{steps_by, StepsDone}
use Rattle.gg_workers.specs.declared.worker.LinkedHost.{LinkedHost}
use Rattle.gg_workers.specs.inside.Turns.{host_steps, steps_of, machines_in, StepsTold}

-- ---- one list of which an element changes

swap-more : (s t a b : ℕ) → t + a ≡ s + b → a < b → s < t
swap-more s t a b is lt = omega (arith, is, lt)

-- no fewer steps than at first
pub no-fewer : {A : Type 0} (steps : A → ℕ) (first now : A) (b : Bool) → StepsTold steps first now b → steps first ≤ steps now
no-fewer steps first now true t = omega (arith, t)
no-fewer steps first now false t = omega (arith, ap steps t)

-- more steps, or nothing new, after others
pub told-more : {A : Type 0} (steps : A → ℕ) (first now next : A) (b : Bool) → StepsTold steps first now b → steps now < steps next → steps first < steps next
told-more steps first now next b t more = omega (arith, more, no-fewer steps first now b t)

pub told-still : {A : Type 0} (steps : A → ℕ) (first now next : A) (b : Bool) → StepsTold steps first now b → next ≡ now → StepsTold steps first next b
told-still steps first now next b t same = subst (λ x. StepsTold steps first x b) (sym same) t

-- what two tellings, one after the other, tell together
pub told-then : {A : Type 0} (steps : A → ℕ) (first now next : A) (b r : Bool) → StepsTold steps first now b → StepsTold steps now next r → StepsTold steps first next (b || r)
told-then steps first now next false false told then = told-still steps first now next false told then
told-then steps first now next false true told then = told-more steps first now next false told then
told-then steps first now next true false told then = told-still steps first now next true told then
told-then steps first now next true true told then = told-more steps first now next true told then

-- ---- the machines of a host

pub host-more : (xs ys : List Machine) (t : ℕ) → t < length xs → ys ≡ slice_set xs t (machine_at ys t) → StepsDone xs t ys true → host_steps xs < host_steps ys
host-more xs ys t there alone more =
    let y : Machine = machine_at ys t in
    subst (λ l. host_steps xs < host_steps l) (sym alone)
    (swap-more (host_steps xs) (host_steps (slice_set xs t y)) (steps_by (machine_at xs t)) (steps_by y) (sum_by-set steps_by xs t y no_machine there) more)

pub told-machines : (first xs ys : List Machine) (t : ℕ) → t < length xs → ys ≡ slice_set xs t (machine_at ys t) → (b r : Bool) → StepsTold host_steps first xs b → StepsDone xs t ys r → StepsTold host_steps first ys (b || r)
told-machines first xs ys t there alone false false told done = told-still host_steps first xs ys false told done
told-machines first xs ys t there alone false true told done = told-more host_steps first xs ys false told (host-more xs ys t there alone done)
told-machines first xs ys t there alone true false told done = told-still host_steps first xs ys true told done
told-machines first xs ys t there alone true true told done = told-more host_steps first xs ys true told (host-more xs ys t there alone done)

-- ---- several hosts

module _ {H S T : Type 0} (machines : H → List Machine) (bs : List (LinkedHost H S T)) (k : ℕ) (p q : LinkedHost H S T) (inside : k < length bs) (was : (d : LinkedHost H S T) → slice_index_or bs k d ≡ p) where
  abbrev own : LinkedHost H S T → List Machine
  own b = machines b.host

  there : k < length (machines_in machines bs)
  there = omega (arith, inside, length-map bs own)

  read : slice_index_or (machines_in machines bs) k [] ≡ machines p.host
  read = get_or-map own bs k p [] inside ∙ ap own (was p)

  written : machines_in machines (slice_set bs k q) ≡ slice_set (machines_in machines bs) k (machines q.host)
  written = map-set own bs k q

  pub hosts-more : host_steps (machines p.host) < host_steps (machines q.host) → steps_of (machines_in machines bs) < steps_of (machines_in machines (slice_set bs k q))
  hosts-more more =
      subst (λ l. steps_of (machines_in machines bs) < steps_of l) (sym written)
      (swap-more (steps_of (machines_in machines bs)) (steps_of (slice_set (machines_in machines bs) k (machines q.host))) (host_steps (slice_index_or (machines_in machines bs) k [])) (host_steps (machines q.host))
      (sum_by-set host_steps (machines_in machines bs) k (machines q.host) [] there)
      (subst (λ l. host_steps l < host_steps (machines q.host)) (sym read) more))

  pub hosts-same : machines q.host ≡ machines p.host → machines_in machines (slice_set bs k q) ≡ machines_in machines bs
  hosts-same same = written ∙ ap (λ l. slice_set (machines_in machines bs) k l) (same ∙ sym read) ∙ set-get_or (machines_in machines bs) k []

  pub told-hosts : (first : List (List Machine)) (b r : Bool) → StepsTold steps_of first (machines_in machines bs) b → StepsTold host_steps (machines p.host) (machines q.host) r → StepsTold steps_of first (machines_in machines (slice_set bs k q)) (b || r)
  told-hosts first false false told done = told-still steps_of first (machines_in machines bs) (machines_in machines (slice_set bs k q)) false told (hosts-same done)
  told-hosts first false true told done = told-more steps_of first (machines_in machines bs) (machines_in machines (slice_set bs k q)) false told (hosts-more done)
  told-hosts first true false told done = told-still steps_of first (machines_in machines bs) (machines_in machines (slice_set bs k q)) true told (hosts-same done)
  told-hosts first true true told done = told-more steps_of first (machines_in machines bs) (machines_in machines (slice_set bs k q)) true told (hosts-more done)

-- ---- a worker's turns

-- One more turn. `turn` is the number of turns, `before` of those without a step that went before, `first`, `now` and `next` are
-- steps, and `idle` and `after` turns in a row without one.
pub turn-more : (turn before first now next idle after : ℕ) (b : Bool) → turn + before + 1024 * first ≤ 1024 * now + idle + 1 → idle < 1024 → idle ≤ turn → first ≤ now → StepsTold (λ n. n) now next b → MatchBool b (after ≡ 0) (after ≡ idle + 1)
    → (first ≤ next) × (turn + 1 + before + 1024 * first ≤ 1024 * next + after + 1) × (after ≤ 1024) × (after ≤ turn + 1)
turn-more turn before first now next idle after true le few low up told is = (omega (arith, up, told), omega (arith, le, few, told, is), omega (arith, is), omega (arith, is))
turn-more turn before first now next idle after false le few low up told is = (omega (arith, up, told), omega (arith, le, told, is), omega (arith, few, is), omega (arith, low, is))

-- what a pass told, of the numbers of steps
pub told-count : {A : Type 0} (steps : A → ℕ) (now next : A) (b : Bool) → StepsTold steps now next b → StepsTold (λ n. n) (steps now) (steps next) b
told-count steps now next true t = t
told-count steps now next false t = ap steps t

-- the end of all turns
pub turns-end : (turn before first now idle : ℕ) → turn + before + 1024 * first ≤ 1024 * now + idle + 1 → idle ≤ 1024 → turn + before + 1024 * first ≤ 1024 * now + 1025
turns-end turn before first now idle le few = omega (arith, le, few)

-- all turns, with the first
pub turns-all : (turns before first now last : ℕ) (b : Bool) → StepsTold (λ n. n) first now b → MatchBool b (before ≡ 0) (before ≡ 0 + 1) → turns + before + 1024 * now ≤ 1024 * last + 1025 → turns + 1024 * first ≤ 1024 * (last + 1)
turns-all turns before first now last true told is le = omega (arith, told, is, le)
turns-all turns before first now last false told is le = omega (arith, told, is, le)

pub idle-few : (before : ℕ) (b : Bool) → MatchBool b (before ≡ 0) (before ≡ 0 + 1) → before ≤ 1
idle-few before true is = omega (arith, is)
idle-few before false is = omega (arith, is)
