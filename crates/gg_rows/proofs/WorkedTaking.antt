-- Worked rows: one that counts rows, and isn't to go on after row 2; one that can't take row 1; and one that keeps the last row, from cycle 2 on.
use Rattle.std.proofs.Common.{◌≡◌, ℕ, suc, ◌+◌, List, [], ◌∷◌, Bool, true, false, refl, subst, arith}
use Rattle.std.specs.Prelude.{Result, Ok, Err, if◌then◌else◌, nat_eq, not}
use Rattle.gg_flat.specs.Line.{value_at}
use Rattle.gg_io.specs.declared.endings.Ending.{Ending}
use Rattle.gg_io.specs.declared.endings.Ending.TheVariants.{NoMemory, Unwritten}
use Rattle.gg_rows.specs.inside.Taken.{Took, TookTo}
use Rattle.gg_rows.specs.inside.Taken.Took.{All, Last, Fails, Wants}

abbrev row : ℕ → List ℕ
row t = t ∷ []

-- it counts a row, and goes on unless it is row 2
record Counts (before cycle : ℕ) (values : List ℕ) (after : ℕ) (answer : Result Bool Ending) : Type 0 where
  counts : after ≡ suc before
  goes : answer ≡ Ok (not (nat_eq cycle 2))

-- it can't take row 1
record Refuses (before cycle : ℕ) (values : List ℕ) (after : ℕ) (answer : Result Bool Ending) : Type 0 where
  same : after ≡ before
  refuses : answer ≡ (if nat_eq cycle 1 then Err Unwritten else Ok true)

-- it keeps the first value of a row
record Keeps (before cycle : ℕ) (values : List ℕ) (after : ℕ) (answer : Result Bool Ending) : Type 0 where
  keeps : after ≡ value_at values 0
  goes : answer ≡ Ok true

two-taken : TookTo Counts row 0 0 2 2
two-taken = (1, (0, refl, record { counts = refl; goes = refl }), record { counts = refl; goes = refl })

-- of two rows all are taken, and of none
two : Took Counts row 0 2 2 0 2 (Ok true)
two = All two-taken refl refl

none : Took Counts row 0 0 0 7 7 (Ok true)
none = All refl refl refl

-- of five rows three are taken
five : Took Counts row 0 5 3 0 3 (Ok false)
five = Last 2 (omega arith) 2 two-taken (record { counts = refl; goes = refl }) refl refl

-- row 1 can't be taken
refused : Took Refuses row 0 5 1 0 0 (Err Unwritten)
refused = Fails 1 (omega arith) 0 (0, refl, record { same = refl; refuses = refl }) Unwritten (record { same = refl; refuses = refl }) refl refl

-- there was no memory for row 2
wanted : Took Counts row 0 5 2 0 2 (Err NoMemory)
wanted = Wants (omega arith) two-taken refl

-- of five rows from that of cycle 2 on one is taken
one : Took Counts row 2 5 1 0 1 (Ok false)
one = Last 0 (omega arith) 0 refl (record { counts = refl; goes = refl }) refl refl

-- two rows from that of cycle 2 on are those of cycles 2 and 3
late : Took Keeps row 2 2 2 0 3 (Ok true)
late = All (2, (0, refl, record { keeps = refl; goes = refl }), record { keeps = refl; goes = refl }) refl refl

-- ---- what isn't so

-- they aren't those of cycles 0 and 1
late-not : (count : ℕ) → Took Keeps row 2 2 count 0 1 (Ok true) → ⊥
late-not count (All (middle, took, last) counts ends) = let e : ◌≡◌ {A = ℕ} 1 3 = last.keeps in omega (arith, e)
late-not count (Last t lt middle took last counts ends) = let e : Ok true ≡ Ok false = ends in absurd (cc)
late-not count (Fails t lt middle took ending fails counts ends) = let e : Ok true ≡ Err ending = ends in absurd (cc)
late-not count (Wants within took ends) = let e : Ok true ≡ Err NoMemory = ends in absurd (cc)

-- the first three rows aren't taken so that it is to go on
three-not : (after : ℕ) → TookTo Counts row 0 0 3 after → ⊥
three-not after (middle, took, last) = let e : Ok true ≡ Ok false = last.goes in absurd (cc)

-- of five rows not all are taken
five-not : (count after : ℕ) → Took Counts row 0 5 count 0 after (Ok true) → ⊥
five-not count after (All (four, (three, took, fourth), fifth) counts ends) = three-not three took
five-not count after (Last t lt middle took last counts ends) = let e : Ok true ≡ Ok false = ends in absurd (cc)
five-not count after (Fails t lt middle took ending fails counts ends) = let e : Ok true ≡ Err ending = ends in absurd (cc)
five-not count after (Wants within took ends) = let e : Ok true ≡ Err NoMemory = ends in absurd (cc)

-- the row after which it isn't to go on is taken too, and none before it is the last
early-not : (after : ℕ) → Took Counts row 0 5 2 0 after (Ok false) → ⊥
early-not after (All took counts ends) = let e : Ok false ≡ Ok true = ends in absurd (cc)
early-not after (Last t lt middle took last counts ends) =
    let at : 0 + t ≡ 1 = omega (arith, counts) in
    let e = subst (λ (k : ℕ). ◌≡◌ {A = Result Bool Ending} (Ok false) (Ok (not (nat_eq k 2)))) at last.goes in absurd (cc)
early-not after (Fails t lt middle took ending fails counts ends) = let e : Ok false ≡ Err ending = ends in absurd (cc)
early-not after (Wants within took ends) = let e : Ok false ≡ Err NoMemory = ends in absurd (cc)

-- a row too few isn't all of them
few-not : (count : ℕ) → Took Counts row 0 2 count 0 1 (Ok true) → ⊥
few-not count (All (middle, (start, took, first), last) counts ends) =
    let begun : start ≡ 0 = took in let one : middle ≡ suc start = first.counts in let two : 1 ≡ suc middle = last.counts in absurd (omega (arith, begun, one, two))
few-not count (Last t lt middle took last counts ends) = let e : Ok true ≡ Ok false = ends in absurd (cc)
few-not count (Fails t lt middle took ending fails counts ends) = let e : Ok true ≡ Err ending = ends in absurd (cc)
few-not count (Wants within took ends) = let e : Ok true ≡ Err NoMemory = ends in absurd (cc)
