-- Searches: the first of some numbers that passes a test, and the first condition that fails.
use Rattle.std.proofs.Common.{◌≡◌, ℕ, zero, suc, ◌+◌, ◌<◌, ◌≤◌, List, ◌∷◌, Option, None, Some, Bool, true, false, cond, refl, ap, sym, ◌∙◌, ⊎_elim, inl, inr, arith}
use Rattle.std.specs.Prelude.{filter, find}
use Rattle.std.specs.List.{range_with_len}
use Rattle.std.proofs.lemmas.Bool.{cases_eq, cases_Bool, true≢false}
use Rattle.gg_net.specs.declared.event.StepRefusal.{StepRefusal}
use Rattle.gg_net.specs.Refusal.{unless, naming}
use Rattle.gg_bits.specs.Lists.{or_else}

-- ---- the first of the numbers in a range that are chosen

-- a number that isn't chosen, or doesn't pass, is skipped
skips : (chosen : Bool) (p : ℕ → Bool) (a : ℕ) (rest : List ℕ) (answer : Option ℕ) → (chosen ≡ true → p a ≡ false) → find p rest ≡ answer → find p (cond chosen (a ∷ rest) rest) ≡ answer
skips false p a rest answer fails is = is
skips true p a rest answer fails is = ap (λ b. cond b (Some a) (find p rest)) (fails refl) ∙ is

pub find-none : (p q : ℕ → Bool) (a n : ℕ) → ((c : ℕ) → a ≤ c → c < a + n → q c ≡ true → p c ≡ false) → find p (filter q (range_with_len a n)) ≡ None
find-none p q a zero fails = refl
find-none p q a (suc n) fails =
    skips (q a) p a (filter q (range_with_len (a + 1) n)) None (fails a (omega arith) (omega arith))
    (find-none p q (a + 1) n (λ c le lt. fails c (omega (arith, le)) (omega (arith, lt))))

pub find-some : (p q : ℕ → Bool) (a n d : ℕ) → a ≤ d → d < a + n → q d ≡ true → p d ≡ true → ((c : ℕ) → a ≤ c → c < d → q c ≡ true → p c ≡ false) → find p (filter q (range_with_len a n)) ≡ Some d
find-some p q a zero d le lt chosen passes fails = absurd (omega (arith, le, lt))
find-some p q a (suc n) d le lt chosen passes fails =
    ⊎_elim
    (λ (same : a ≡ d).
    let rest : List ℕ = filter q (range_with_len (a + 1) n) in
    ap (λ b. find p (cond b (a ∷ rest) rest)) (ap q same ∙ chosen) ∙ ap (λ b. cond b (Some a) (find p rest)) (ap p same ∙ passes) ∙ ap Some same)
    (λ other.
    let above : a + 1 ≤ d = omega (arith, le, other) in
    skips (q a) p a (filter q (range_with_len (a + 1) n)) (Some d) (fails a (omega arith) (omega (arith, above)))
    (find-some p q (a + 1) n d above (omega (arith, lt)) chosen passes (λ c under before. fails c (omega (arith, under)) before)))
    (cases_eq a d)

-- ---- if none is found

pub some-none : {A : Type 0} (x : A) → ◌≡◌ {A = Option A} (Some x) None → ⊥
some-none x is = cc

pub found-skips : (p : ℕ → Bool) (a : ℕ) (rest : List ℕ) → find p (a ∷ rest) ≡ None → (p a ≡ false) × (find p rest ≡ None)
found-skips p a rest is =
    elim (cases_Bool (p a)) [
      | inl passes ↦ absurd (some-none a (sym (ap (λ b. cond b (Some a) (find p rest)) passes) ∙ is))
      | inr fails ↦ (fails, sym (ap (λ b. cond b (Some a) (find p rest)) fails) ∙ is)
    ]

-- no number that is chosen passes
pub chosen-fail : (p q : ℕ → Bool) (a n : ℕ) → find p (filter q (range_with_len a n)) ≡ None → (c : ℕ) → a ≤ c → c < a + n → q c ≡ true → p c ≡ false
chosen-fail p q a zero is c le lt chosen = absurd (omega (arith, le, lt))
chosen-fail p q a (suc n) is c le lt chosen =
    let rest : List ℕ = filter q (range_with_len (a + 1) n) in
    elim (cases_Bool (q a)) [
      | inl yes_a ↦
          let h : (p a ≡ false) × (find p rest ≡ None) = found-skips p a rest (sym (ap (λ b. find p (cond b (a ∷ rest) rest)) yes_a) ∙ is) in
          elim (cases_eq a c) [
            | inl same ↦ ap p (sym same) ∙ h.0
            | inr other ↦ chosen-fail p q (a + 1) n h.1 c (omega (arith, le, other)) (omega (arith, lt)) chosen
          ]
      | inr no_a ↦
          let h : find p rest ≡ None = sym (ap (λ b. find p (cond b (a ∷ rest) rest)) no_a) ∙ is in
          elim (cases_eq a c) [
            | inl same ↦ absurd (true≢false (sym chosen ∙ ap q (sym same) ∙ no_a))
            | inr other ↦ chosen-fail p q (a + 1) n h c (omega (arith, le, other)) (omega (arith, lt)) chosen
          ]
    ]

-- ---- conditions

-- a condition that holds is passed
pub passed : (holds : Bool) (refusal : StepRefusal) (later : Option StepRefusal) → holds ≡ true → or_else (unless holds refusal) later ≡ later
passed holds refusal later is = ap (λ b. or_else (unless b refusal) later) is

-- a condition that fails gives its refusal
pub failed : (holds : Bool) (refusal : StepRefusal) (later : Option StepRefusal) → holds ≡ false → or_else (unless holds refusal) later ≡ Some refusal
failed holds refusal later is = ap (λ b. or_else (unless b refusal) later) is

-- the last condition: it holds, or fails
pub holds-last : (holds : Bool) (refusal : StepRefusal) → holds ≡ true → unless holds refusal ≡ None
holds-last holds refusal is = ap (λ b. unless b refusal) is

pub fails-last : (holds : Bool) (refusal : StepRefusal) → holds ≡ false → unless holds refusal ≡ Some refusal
fails-last holds refusal is = ap (λ b. unless b refusal) is

-- if the search finds no channel, the later conditions decide; if it finds one, the refusal names it
pub names-none : (refusal : ℕ → StepRefusal) (first : Option ℕ) (later : Option StepRefusal) → first ≡ None → or_else (naming refusal first) later ≡ later
names-none refusal first later is = ap (λ o. or_else (naming refusal o) later) is

pub names-some : (refusal : ℕ → StepRefusal) (first : Option ℕ) (later : Option StepRefusal) (d : ℕ) → first ≡ Some d → or_else (naming refusal first) later ≡ Some (refusal d)
names-some refusal first later d is = ap (λ o. or_else (naming refusal o) later) is

-- if the refusals are none, the search finds no channel
pub past-named : (f : ℕ → StepRefusal) (o : Option ℕ) (later : Option StepRefusal) → or_else (naming f o) later ≡ None → (o ≡ None) × (later ≡ None)
past-named f None later is = (refl, is)
past-named f (Some d) later is = absurd (some-none (f d) is)

pub last-named : (f : ℕ → StepRefusal) (o : Option ℕ) → naming f o ≡ None → o ≡ None
last-named f None is = refl
last-named f (Some d) is = absurd (some-none (f d) is)
