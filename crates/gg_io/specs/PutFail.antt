-- Why a put failed.
-- Source: this program's own.
use Rattle.std.specs.Prelude.{◌≡◌, ℕ, ◌≤◌, List, length, take, Option}
use Rattle.std.specs.Io.KnownBytes.{append_known}
use Rattle.gg_io.specs.Count.{Rose}
use Rattle.gg_io.specs.declared.output.PutFail.{PutFail}
use Rattle.gg_io.specs.declared.output.PutFail.TheVariants.{Failed, NoMemory}

-- What must have happened for this answer. A failure: the output's faults rose. `NoMemory`: the refused puts rose.
abbrev pub HasPutCause : (faults_before faults_now refused_before refused_now : ℕ) → PutFail → Type 0
HasPutCause faults_before faults_now refused_before refused_now Failed = Rose faults_before faults_now
HasPutCause faults_before faults_now refused_before refused_now NoMemory = Rose refused_before refused_now

-- What was written of the put's bytes with this answer: a first part of them after a failure, nothing after `NoMemory`.
-- What was written before stays, known or unknown as it was.
abbrev pub LeavesFront : (before now : Option (List ℕ)) (piece : List ℕ) → PutFail → Type 0
LeavesFront before now piece Failed = (n : ℕ) × (n ≤ length piece) × (now ≡ append_known before (take n piece))
LeavesFront before now piece NoMemory = now ≡ before
