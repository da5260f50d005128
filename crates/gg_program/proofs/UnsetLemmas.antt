-- Signals that have still to be evaluated, counted.
use Rattle.std.proofs.Common.{◌≡◌, ◌≢◌, ◌⊎◌, ℕ, zero, suc, ◌+◌, ◌<◌, ◌≤◌, List, [], ◌∷◌, length, Bool, true, false, true≢false, nat_eq, refl, sym, ◌∙◌, ap, subst, inl, inr, arith}
use Rattle.std.specs.Prelude.{All, AllPairs, Contains}
use Rattle.std.proofs.lemmas.Bool.Decides.{Decides-eqb}
use Rattle.gg_flat.specs.declared.piece.Driver.{Driver}
use Rattle.gg_flat.specs.declared.piece.Driver.TheVariants.{Input, Held, MemoryWord, ReadRegister, Computed}
use Rattle.gg_flat.specs.Line.{value_at}
use Rattle.gg_flat.specs.Circuit.{FlatCircuit, driver_at}
use Rattle.gg_flat.specs.Reads.{Reaches}
use Rattle.gg_order.specs.Marks.{is_marked}
use Rattle.gg_program.specs.Slots.{Slotted, IsDone}
use Rattle.gg_program.specs.inside.Slots.{with_input}
use Rattle.gg_program.proofs.SearchLemmas.{mark-more}
use Rattle.gg_program.specs.inside.Search.{Searched, IsGathered}
use Rattle.gg_program.specs.inside.Right.{IsInner}
use Rattle.gg_program.specs.Unset.{is_assignment, waits, unset_among, unset}
use Rattle.gg_program.specs.inside.Unset.{assignments}
use Rattle.gg_bits.specs.Lists.{one_if, count_below}

-- ---- numbers that pass a test

-- one more number
pub count-more : (pass : ℕ → Bool) (n : ℕ) → count_below pass (n + 1) ≡ count_below pass n + one_if (pass n)
count-more pass n = let one : n + 1 ≡ suc n = omega arith in ap (count_below pass) one

abbrev except : Bool → Bool → Bool
except true b = false
except false b = b

-- the test, failed by one number too
abbrev without : (ℕ → Bool) → ℕ → ℕ → Bool
without pass x s = except (nat_eq s x) (pass s)

without-other : (pass : ℕ → Bool) (x s : ℕ) → s ≢ x → without pass x s ≡ pass s
without-other pass x s other = by (nat_eq s x) refl
  where
    by : (b : Bool) → nat_eq s x ≡ b → except (nat_eq s x) (pass s) ≡ pass s
    by true e = absurd (other ((Decides-eqb s x).0 e))
    by false e = ap (λ b. except b (pass s)) e

without-itself : (pass : ℕ → Bool) (x : ℕ) → without pass x x ≡ false
without-itself pass x = ap (λ b. except b (pass x)) ((Decides-eqb x x).1 refl)

count-untouched : (pass : ℕ → Bool) (x n : ℕ) → n ≤ x → count_below (without pass x) n ≡ count_below pass n
count-untouched pass x zero le = refl
count-untouched pass x (suc n) le =
    let rest = count-untouched pass x n (omega (arith, le)) in
    let other : n ≢ x = λ same. absurd (omega (arith, same, le)) in
    let last : one_if (without pass x n) ≡ one_if (pass n) = ap one_if (without-other pass x n other) in
    omega (arith, rest, last)

count-without : (pass : ℕ → Bool) (x n : ℕ) → x < n → pass x ≡ true → count_below pass n ≡ count_below (without pass x) n + 1
count-without pass x zero lt is = absurd (omega (arith, lt))
count-without pass x (suc n) lt is = by (nat_eq n x) refl (λ below. count-without pass x n below is)
  where
    by : (b : Bool) → nat_eq n x ≡ b → (x < n → count_below pass n ≡ count_below (without pass x) n + 1) → count_below pass (suc n) ≡ count_below (without pass x) (suc n) + 1
    by true e rest =
        let same : n ≡ x = (Decides-eqb n x).0 e in
        let none : one_if (without pass x n) ≡ 0 = ap one_if (ap (without pass x) same ∙ without-itself pass x) in
        let one : one_if (pass n) ≡ 1 = ap one_if (ap pass same ∙ is) in
        omega (arith, count-untouched pass x n (omega (arith, same)), none, one)
    by false e rest =
        let other : n ≢ x = λ same. true≢false (sym ((Decides-eqb n x).1 same) ∙ e) in
        let last : one_if (without pass x n) ≡ one_if (pass n) = ap one_if (without-other pass x n other) in
        let below : x < n = lower n x lt other in
        omega (arith, rest below, last)
      where
        lower : (n x : ℕ) → x < suc n → n ≢ x → x < n
        lower n x lt other = omega (arith, lt, other)

count-least : (pass after : ℕ → Bool) (n : ℕ) → ((s : ℕ) → after s ≡ true → pass s ≡ true) → count_below after n ≤ count_below pass n
count-least pass after zero less = omega arith
count-least pass after (suc n) less = let last = one (after n) (pass n) (less n) in omega (arith, count-least pass after n less, last)
  where
    one : (a b : Bool) → (a ≡ true → b ≡ true) → one_if a ≤ one_if b
    one false b to = omega arith
    one true b to = let is : one_if b ≡ 1 = ap one_if (to refl) in omega (arith, is)

-- distinct numbers that passed before and don't pass any more
pub count-fewer : (pass after : ℕ → Bool) (found : List ℕ) (n : ℕ) → AllPairs (λ a b. a ≢ b) found → ((s : ℕ) → Contains found s → (s < n) × (pass s ≡ true) × (after s ≡ false)) → ((s : ℕ) → after s ≡ true → pass s ≡ true) → length found + count_below after n ≤ count_below pass n
count-fewer pass after [] n once each less = omega (arith, count-least pass after n less)
count-fewer pass after (x ∷ found) n once each less =
    let first = each x (0, omega arith, refl) in
    let one = count-without pass x n first.0 first.1 in
    let rest = count-fewer (without pass x) after found n (λ i j d lt below. once (suc i) (suc j) d (omega (arith, lt)) (omega (arith, below))) others fewer in
    omega (arith, one, rest)
  where
    differs : (s : ℕ) → Contains found s → s ≢ x
    differs s has same = once 0 (suc has.0) s (omega arith) (omega (arith, has.1)) (sym same ∙ sym has.2)

    others : (s : ℕ) → Contains found s → (s < n) × (without pass x s ≡ true) × (after s ≡ false)
    others s has = let of = each s (suc has.0, omega (arith, has.1), has.2) in (of.0, without-other pass x s (differs s has) ∙ of.1, of.2)

    fewer : (s : ℕ) → after s ≡ true → without pass x s ≡ true
    fewer s is = without-other pass x s (λ same. true≢false (sym is ∙ ap after same ∙ (each x (0, omega arith, refl)).2)) ∙ less s is

one_if-most : (b : Bool) → one_if b ≤ 1
one_if-most true = omega arith
one_if-most false = omega arith

-- one number less passes, at most
count-without-most : (pass : ℕ → Bool) (x n : ℕ) → count_below pass n ≤ count_below (without pass x) n + 1
count-without-most pass x zero = omega arith
count-without-most pass x (suc n) = by (nat_eq n x) refl (count-without-most pass x n)
  where
    by : (b : Bool) → nat_eq n x ≡ b → count_below pass n ≤ count_below (without pass x) n + 1 → count_below pass (suc n) ≤ count_below (without pass x) (suc n) + 1
    by true e rest =
        let same : n ≡ x = (Decides-eqb n x).0 e in
        let most : one_if (pass n) ≤ 1 = one_if-most (pass n) in
        omega (arith, count-untouched pass x n (omega (arith, same)), most)
    by false e rest =
        let other : n ≢ x = λ same. true≢false (sym ((Decides-eqb n x).1 same) ∙ e) in
        let last : one_if (without pass x n) ≡ one_if (pass n) = ap one_if (without-other pass x n other) in
        omega (arith, rest, last)

-- numbers that passed before, and pass still or are among those that were found
count-covered : (pass after : ℕ → Bool) (found : List ℕ) (n : ℕ) → ((s : ℕ) → pass s ≡ true → (after s ≡ true) ⊎ Contains found s) → count_below pass n ≤ length found + count_below after n
count-covered pass after [] n covered = omega (arith, count-least after pass n (λ s is. still s (covered s is)))
  where
    still : (s : ℕ) → (after s ≡ true) ⊎ Contains [] s → after s ≡ true
    still s (inl is) = is
    still s (inr has) = absurd (omega (arith, has.1))
count-covered pass after (x ∷ found) n covered =
    let rest = count-covered (without pass x) after found n others in
    omega (arith, count-without-most pass x n, rest)
  where
    split : (s : ℕ) → s ≢ x → (after s ≡ true) ⊎ Contains (x ∷ found) s → (after s ≡ true) ⊎ Contains found s
    split s other (inl is) = inl is
    split s other (inr (zero, lt, is)) = absurd (other (sym is))
    split s other (inr (suc k, lt, is)) = inr (k, omega (arith, lt), is)

    others : (s : ℕ) → without pass x s ≡ true → (after s ≡ true) ⊎ Contains found s
    others s is =
        let other : s ≢ x = λ same. true≢false (sym is ∙ ap (without pass x) same ∙ without-itself pass x) in
        split s other (covered s (sym (without-other pass x s other) ∙ is))

-- ---- signals

assigned : (driver : Driver) → ((place : ℕ) → driver ≢ Input place) → is_assignment driver ≡ true
assigned (Input place) not = absurd (not place refl)
assigned (Held register) not = refl
assigned (MemoryWord memory reader addr en) not = refl
assigned (ReadRegister memory reader) not = refl
assigned (Computed line) not = refl

pub waits-inner : (circuit : FlatCircuit) (marks : List Bool) (s : ℕ) → IsInner circuit s → is_marked marks s ≡ false → waits (is_marked marks s) (driver_at circuit s) ≡ true
waits-inner circuit marks s inner not = ap (λ m. waits m (driver_at circuit s)) not ∙ assigned (driver_at circuit s) inner.inner

waits-less : (before after : Bool) (driver : Driver) → (before ≡ true → after ≡ true) → waits after driver ≡ true → waits before driver ≡ true
waits-less true after driver kept is = absurd (true≢false (sym is ∙ ap (λ m. waits m driver) (kept refl)))
waits-less false true driver kept is = absurd (true≢false (sym is))
waits-less false false driver kept is = is

-- the found signals are those that are marked now and were unset before
pub unset-found : (circuit : FlatCircuit) (out : ℕ) (first : List Bool) (search : Searched) → AllPairs (λ a b. a ≢ b) search.found → All (IsInner circuit) search.found → IsGathered circuit out first search → length search.found + unset_among circuit search.marks ≡ unset_among circuit first
unset-found circuit out first search once inner g =
    let least = count-fewer (λ s. waits (is_marked first s) (driver_at circuit s)) (λ s. waits (is_marked search.marks s) (driver_at circuit s)) search.found (length circuit.signals) once each
    (λ s. waits-less (is_marked first s) (is_marked search.marks s) (driver_at circuit s) (λ m. (g.marked s).1 (inl m))) in
    let most = count-covered (λ s. waits (is_marked first s) (driver_at circuit s)) (λ s. waits (is_marked search.marks s) (driver_at circuit s)) search.found (length circuit.signals) covered in
    omega (arith, least, most)
  where
    each : (s : ℕ) → Contains search.found s → (s < length circuit.signals) × (waits (is_marked first s) (driver_at circuit s) ≡ true) × (waits (is_marked search.marks s) (driver_at circuit s) ≡ false)
    each s has =
        let of = (g.found s).0 has in
        let is : IsInner circuit s = subst (IsInner circuit) has.2 (inner has.0 s has.1) in
        (is.known, waits-inner circuit first s is of.1, ap (λ m. waits m (driver_at circuit s)) ((g.marked s).1 (inr of.0)))

    reached : (s : ℕ) (was is : Bool) → is_marked first s ≡ was → is_marked search.marks s ≡ is → waits was (driver_at circuit s) ≡ true → (waits is (driver_at circuit s) ≡ true) ⊎ Contains search.found s
    reached s true is e f passes = absurd (true≢false (sym passes))
    reached s false false e f passes = inl passes
    reached s false true e f passes = by ((g.marked s).0 f)
      where
        by : (is_marked first s ≡ true) ⊎ Reaches circuit out s → (waits true (driver_at circuit s) ≡ true) ⊎ Contains search.found s
        by (inl m) = absurd (true≢false (sym m ∙ e))
        by (inr reaches) = inr ((g.found s).1 (reaches, e))

    covered : (s : ℕ) → waits (is_marked first s) (driver_at circuit s) ≡ true → (waits (is_marked search.marks s) (driver_at circuit s) ≡ true) ⊎ Contains search.found s
    covered s passes = reached s (is_marked first s) (is_marked search.marks s) refl refl passes

-- ---- all signals that aren't marked, from the first to the last

pub rest-step : (circuit : FlatCircuit) (marks : List Bool) (first steps k : ℕ) → IsInner circuit k → is_marked marks k ≡ false → steps ≡ first + count_below (λ s. waits (is_marked marks s) (driver_at circuit s)) k → steps + 1 ≡ first + count_below (λ s. waits (is_marked marks s) (driver_at circuit s)) (k + 1)
rest-step circuit marks first steps k inner not same =
    let one : one_if (waits (is_marked marks k) (driver_at circuit k)) ≡ 1 = ap one_if (waits-inner circuit marks k inner not) in
    omega (arith, same, one, count-more (λ s. waits (is_marked marks s) (driver_at circuit s)) k)

pub rest-skip : (circuit : FlatCircuit) (marks : List Bool) (first steps k : ℕ) → is_marked marks k ≡ true → steps ≡ first + count_below (λ s. waits (is_marked marks s) (driver_at circuit s)) k → steps ≡ first + count_below (λ s. waits (is_marked marks s) (driver_at circuit s)) (k + 1)
rest-skip circuit marks first steps k is same =
    let none : one_if (waits (is_marked marks k) (driver_at circuit k)) ≡ 0 = ap (λ m. one_if (waits m (driver_at circuit k))) is in
    omega (arith, same, none, count-more (λ s. waits (is_marked marks s) (driver_at circuit s)) k)

-- ---- inputs, and no signal

pub unset-put : (circuit : FlatCircuit) (slots : Slotted) (place input : ℕ) → value_at circuit.ins place < length slots.done → unset circuit (with_input circuit slots place input) ≤ unset circuit slots
unset-put circuit slots place input marked =
    let after = with_input circuit slots place input in
    count-least (λ s. waits (is_marked slots.done s) (driver_at circuit s)) (λ s. waits (is_marked after.done s) (driver_at circuit s)) (length circuit.signals)
    (λ s. waits-less (is_marked slots.done s) (is_marked after.done s) (driver_at circuit s) (λ is. mark-more slots.done (value_at circuit.ins place) s marked is))

-- if all signals are done, none is unset
pub unset-none : (circuit : FlatCircuit) (slots : Slotted) → ((s : ℕ) → s < length circuit.signals → IsDone slots s) → unset circuit slots ≡ 0
unset-none circuit slots all = by (length circuit.signals) all
  where
    by : (n : ℕ) → ((s : ℕ) → s < n → IsDone slots s) → count_below (λ s. waits (is_marked slots.done s) (driver_at circuit s)) n ≡ 0
    by zero done = refl
    by (suc n) done =
        let last : one_if (waits (is_marked slots.done n) (driver_at circuit n)) ≡ 0 = ap (λ m. one_if (waits m (driver_at circuit n))) (done n (omega arith)) in
        omega (arith, by n (λ s lt. done s (omega (arith, lt))), last)

-- no more is unset than there are assignments
pub unset-most : (circuit : FlatCircuit) (slots : Slotted) → unset circuit slots ≤ assignments circuit
unset-most circuit slots =
    count-least (λ s. is_assignment (driver_at circuit s)) (λ s. waits (is_marked slots.done s) (driver_at circuit s)) (length circuit.signals)
    (λ s. by (is_marked slots.done s) (driver_at circuit s))
  where
    by : (m : Bool) (driver : Driver) → waits m driver ≡ true → is_assignment driver ≡ true
    by true driver is = absurd (true≢false (sym is))
    by false driver is = is
