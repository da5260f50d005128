-- Why a load failed.
-- Source: this program's own.
use Rattle.std.specs.Prelude.{◌≡◌, ℕ, ◌+◌, ⊤}
use Rattle.gg_io.specs.Count.{Rose}
use Rattle.gg_io.specs.Told.{Told, CanBeOver}
use Rattle.gg_io.specs.declared.files.LoadFail.{LoadFail}
use Rattle.gg_io.specs.declared.files.LoadFail.TheVariants.{Failed, TooLong, NoMemory}

-- What must have happened for this answer, in a load with this limit. `told` is what is known of the file. A failure: the faults of its
-- name rose. A file that is too long: the cut loads of its name rose, what is known allows it, and one byte more than the limit was read.
-- `NoMemory`: nothing in particular, any load may return it.
abbrev pub HasLoadCause : Told → (limit faults_before faults_now cuts_before cuts_now : ℕ) → LoadFail → Type 0
HasLoadCause told limit faults_before faults_now cuts_before cuts_now Failed = Rose faults_before faults_now
HasLoadCause told limit faults_before faults_now cuts_before cuts_now (TooLong taken) =
    Rose cuts_before cuts_now × CanBeOver told limit × (taken ≡ limit + 1)
HasLoadCause told limit faults_before faults_now cuts_before cuts_now NoMemory = ⊤
