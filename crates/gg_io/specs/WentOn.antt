-- What holds of a shelf and of an output after a part of a call, for any result.
-- Source: this program's own.
use Rattle.std.specs.Prelude.{◌≡◌, ℕ, ◌≤◌, List}
use Rattle.gg_io.specs.declared.files.Shelf
use Rattle.gg_io.specs.declared.output.Sink

-- A shelf after some loads: its files are the same, and its counts of faults and of cut loads haven't fallen.
pub record ShelfWentOn {S : Type 0} (shelf : Shelf.Ghosts S) (before now : S) : Type 0 where
  pub files_stay : shelf.files now ≡ shelf.files before
  pub faults_stay_or_rise : (name : List ℕ) → shelf.faults before name ≤ shelf.faults now name
  pub cuts_stay_or_rise : (name : List ℕ) → shelf.cuts before name ≤ shelf.cuts now name

-- An output after some puts: its counts of faults and of refused puts haven't fallen.
pub record SinkWentOn {K : Type 0} (sink : Sink.Ghosts K) (before now : K) : Type 0 where
  pub faults_stay_or_rise : sink.faults before ≤ sink.faults now
  pub refused_stay_or_rise : sink.refused before ≤ sink.refused now
