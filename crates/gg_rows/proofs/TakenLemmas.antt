-- Rows that were taken one after another.
use Rattle.std.proofs.Common.{◌≡◌, ℕ, zero, suc, ◌+◌, ◌<◌, ◌≤◌, List, Bool, true, false, inl, inr, ◌⊎◌, refl, sym, ◌∙◌, subst, arith}
use Rattle.std.specs.Prelude.{Result, Ok, Err, IfErr}
use Rattle.gg_io.specs.declared.endings.Ending.{Ending}
use Rattle.gg_io.specs.declared.endings.Ending.TheVariants.{NoMemory}
use Rattle.gg_rows.specs.inside.Taken.{TakesSome, Took, TookSome, TookTo, WentBy}
use Rattle.gg_rows.specs.inside.Taken.Took.{All, Last, Fails, Wants}

-- ---- whatever the rows

module _ {T : Type 0} {takes : T → ℕ → List ℕ → T → Result Bool Ending → Type 0} where
  pub went-none : {a : T} → WentBy takes a a (Ok true)
  went-none = record { count = 0; took = refl; cause = tt }

  cause-of : {old new : T} (r : Result Bool Ending) → TakesSome takes old new r → IfErr r (λ ending. (ending ≡ NoMemory) ⊎ ((old : T) × (new : T) × TakesSome takes old new (Err ending)))
  cause-of (Ok goes_on) some = tt
  cause-of {old = old} {new = new} (Err ending) some = inr (old, new, some)

  pub went-more : {a b c : T} {r : Result Bool Ending} → WentBy takes a b (Ok true) → TakesSome takes b c r → WentBy takes a c r
  went-more {b = b} {r = r} went some = record { count = suc went.count; took = (b, r, went.took, some); cause = cause-of r some }

  pub went-on-so : {a b : T} {goes_on : Bool} (all : Bool) → WentBy takes a b (Ok goes_on) → WentBy takes a b (Ok all)
  went-on-so all went = record { count = went.count; took = went.took; cause = tt }

  pub went-wants : {a b : T} → WentBy takes a b (Ok true) → WentBy takes a b (Err NoMemory)
  went-wants went = record { count = went.count; took = went.took; cause = inl refl }

  -- one run after another
  both-took : (m n : ℕ) (a b c : T) → TookSome takes a m b → TookSome takes b n c → (count : ℕ) × TookSome takes a count c
  both-took m zero a b c one same = (m, subst (TookSome takes a m) (sym same) one)
  both-took m (suc n) a b c one (middle, answer, took, last) = let front = both-took m n a b middle one took in (suc front.0, (middle, answer, front.1, last))

  pub went-then : {a b c : T} {r : Result Bool Ending} → WentBy takes a b (Ok true) → WentBy takes b c r → WentBy takes a c r
  went-then {a = a} {b = b} {c = c} one other =
      let both = both-took one.count other.count a b c one.took other.took in
      record { count = both.0; took = both.1; cause = other.cause }

-- ---- the rows of a run

module _ {T : Type 0} (takes : T → ℕ → List ℕ → T → Result Bool Ending → Type 0) (row : ℕ → List ℕ) (begin : ℕ) (before : T) where
  -- the row of a cycle, by the number of rows before it
  pub row-there : (t k : ℕ) (now later : T) (answer : Result Bool Ending) → t ≡ begin + k → takes now t (row t) later answer → takes now (begin + k) (row (begin + k)) later answer
  row-there t k now later answer there is = subst (λ c. takes now c (row c) later answer) there is

  -- one more row, and then on
  pub took-next : (t : ℕ) (middle after : T) (goes_on : Bool) → goes_on ≡ true → TookTo takes row begin before t middle → takes middle (begin + t) (row (begin + t)) after (Ok goes_on) → TookTo takes row begin before (t + 1) after
  took-next t middle after goes_on on took next =
      let one : suc t ≡ t + 1 = omega arith in
      subst (λ k. TookTo takes row begin before k after) one (middle, took, subst (λ b. takes middle (begin + t) (row (begin + t)) after (Ok b)) on next)

  -- all rows are taken
  pub took-all : (t n : ℕ) (after : T) → TookTo takes row begin before t after → t ≡ n → Took takes row begin n n before after (Ok true)
  took-all t n after took all = All (subst (λ k. TookTo takes row begin before k after) all took) refl refl

  -- a row after which it isn't to go on
  pub took-last : (t n : ℕ) (middle after : T) (goes_on : Bool) → goes_on ≡ false → t < n → TookTo takes row begin before t middle → takes middle (begin + t) (row (begin + t)) after (Ok goes_on) → Took takes row begin n (suc t) before after (Ok false)
  took-last t n middle after goes_on off lt took last = Last t lt middle took (subst (λ b. takes middle (begin + t) (row (begin + t)) after (Ok b)) off last) refl refl

  -- a row that couldn't be taken
  pub took-fails : (t n : ℕ) (middle after : T) (ending : Ending) → t < n → TookTo takes row begin before t middle → takes middle (begin + t) (row (begin + t)) after (Err ending) → (r : Result Bool Ending) → r ≡ Err ending → Took takes row begin n t before after r
  took-fails t n middle after ending lt took fails r ends = Fails t lt middle took ending fails refl ends

  -- what ended in a window ended in the run
  pub ended-within : (m n count : ℕ) (after : T) (r : Result Bool Ending) → m ≤ n → (r ≡ Ok true → ⊥) → Took takes row begin m count before after r → Took takes row begin n count before after r
  ended-within m n count after r le going (All took counts ends) = absurd (going ends)
  ended-within m n count after r le going (Last t lt middle took last counts ends) = Last t (omega (arith, lt, le)) middle took last counts ends
  ended-within m n count after r le going (Fails t lt middle took ending fails counts ends) = Fails t (omega (arith, lt, le)) middle took ending fails counts ends
  ended-within m n count after r le going (Wants within took ends) = Wants (omega (arith, within, le)) took ends

  -- what went on took all rows of the window, and no other count
  pub went-on : (n count : ℕ) (after : T) (r : Result Bool Ending) → r ≡ Ok true → Took takes row begin n count before after r → TookTo takes row begin before n after
  went-on n count after r is (All took counts ends) = took
  went-on n count after r is (Last t lt middle took last counts ends) = let h : Ok true ≡ Ok false = sym is ∙ ends in absurd (cc)
  went-on n count after r is (Fails t lt middle took ending fails counts ends) = let h : Ok true ≡ Err ending = sym is ∙ ends in absurd (cc)
  went-on n count after r is (Wants within took ends) = let h : Ok true ≡ Err NoMemory = sym is ∙ ends in absurd (cc)

  pub count-within : (n count : ℕ) (after : T) (r : Result Bool Ending) → Took takes row begin n count before after r → count ≤ n
  count-within n count after r (All took counts ends) = omega (arith, counts)
  count-within n count after r (Last t lt middle took last counts ends) = omega (arith, lt, counts)
  count-within n count after r (Fails t lt middle took ending fails counts ends) = omega (arith, lt, counts)
  count-within n count after r (Wants within took ends) = within
