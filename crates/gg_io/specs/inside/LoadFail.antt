-- More on LoadFail: what no promise of the program reaches.
-- Source: this program's own.
use Rattle.std.specs.Prelude.{◌≡◌, ℕ, ◌+◌, ◌<◌, List, length, Option, IfSome, Result, Ok, Err, ⊤}
use Rattle.gg_io.specs.Count.{risen}
use Rattle.gg_io.specs.declared.files.LoadFail.{LoadFail}
use Rattle.gg_io.specs.declared.files.LoadFail.TheVariants.{Failed, TooLong, NoMemory}

-- the count of faults after this answer: one more after a failure, otherwise the same
abbrev pub faults_after_load : {T : Type 0} → Result T LoadFail → ℕ → ℕ
faults_after_load (Ok file) count = count
faults_after_load (Err Failed) count = risen count
faults_after_load (Err (TooLong taken)) count = count
faults_after_load (Err NoMemory) count = count

-- the count of cut loads after this answer: one more if the file was too long, otherwise the same
abbrev pub cuts_after_load : {T : Type 0} → Result T LoadFail → ℕ → ℕ
cuts_after_load (Ok file) count = count
cuts_after_load (Err Failed) count = count
cuts_after_load (Err (TooLong taken)) count = risen count
cuts_after_load (Err NoMemory) count = count

-- the answer is a failure to read, or `NoMemory`
abbrev pub IsFault : LoadFail → Type 0
IsFault Failed = ⊤
IsFault (TooLong taken) = ⊥
IsFault NoMemory = ⊤

-- the answer is a failure to read or `NoMemory`; or one byte past the limit was read and the file, where its bytes are known, is longer
-- than the limit
abbrev pub IsFaultOrOver : Option (List ℕ) → ℕ → LoadFail → Type 0
IsFaultOrOver known limit Failed = ⊤
IsFaultOrOver known limit (TooLong taken) = (taken ≡ limit + 1) × IfSome known (λ all. limit < length all)
IsFaultOrOver known limit NoMemory = ⊤
