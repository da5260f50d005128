-- More on PutFail: what no promise of the program reaches.
-- Source: this program's own.
use Rattle.std.specs.Prelude.{ℕ, Result, Ok, Err}
use Rattle.gg_io.specs.Count.{risen}
use Rattle.gg_io.specs.declared.output.PutFail.{PutFail}
use Rattle.gg_io.specs.declared.output.PutFail.TheVariants.{Failed, NoMemory}

-- the count of faults after this answer: one more after a failure, otherwise the same
abbrev pub faults_after_put : {T : Type 0} → Result T PutFail → ℕ → ℕ
faults_after_put (Ok done) count = count
faults_after_put (Err Failed) count = risen count
faults_after_put (Err NoMemory) count = count

-- the count of refused puts after this answer: one more after `NoMemory`, otherwise the same
abbrev pub refused_after_put : {T : Type 0} → Result T PutFail → ℕ → ℕ
refused_after_put (Ok done) count = count
refused_after_put (Err Failed) count = count
refused_after_put (Err NoMemory) count = risen count
