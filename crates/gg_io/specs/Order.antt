-- The order of a command: its files, one after another, each loaded and then checked, and then its text. It is also the order of refusals.
-- It doesn't say how a file is checked. A new fault of a file is a new case of `refuses`.
-- Source: this program's own.
use Rattle.std.specs.Prelude.{◌≡◌, ℕ, ◌<◌, ◌≤◌, List, length, ◌⊎◌}
use Rattle.gg_io.specs.Told.{Told, Holds, CanHold, CanBeOver}
use Rattle.gg_io.specs.Said.{Said, cannot_load, is_over}

-- A file of a command: its name, the most bytes that it may have, which bytes are accepted, and what is reported for
-- bytes that are refused.
pub record File : Type 1 where
  pub name : List ℕ
  pub limit : ℕ
  pub accepts : List ℕ → Type 0
  pub refuses : List ℕ → Said → Type 0

-- A command's order. Either a file is loaded, and what comes next depends on its bytes; or a text is written.
pub data Order : Type 1 where
  Load : (file : File) (next : List ℕ → Order) → Order
  Write : (IsText : List ℕ → Type 0) → Order

-- the status for refused bytes of a file: 1 for circuits, 6 for partitions, 7 for traces, 9 for steps, 10 for snapshots
abbrev pub IsJudgement : ℕ → Type 0
IsJudgement status = (status ≡ 1) ⊎ ((status ≡ 6) ⊎ ((status ≡ 7) ⊎ ((status ≡ 9) ⊎ (status ≡ 10))))

-- The text has this property, and no other text has it.
pub record IsOnly (IsText : List ℕ → Type 0) (text : List ℕ) : Type 0 where
  pub is : IsText text
  pub only : (other : List ℕ) → IsText other → other ≡ text

-- Nothing is reported for accepted bytes of a file. All that is reported for other bytes has one status, a judgement.
-- More than one line may be right: if a circuit has several loops, any of them may be reported.
pub record IsExactFile (file : File) : Type 0 where
  pub apart : (bytes : List ℕ) (said : Said) → file.accepts bytes → file.refuses bytes said → ⊥
  pub one_status : (bytes : List ℕ) (said other : Said) → file.refuses bytes said → file.refuses bytes other → said.status ≡ other.status
  pub judges : (bytes : List ℕ) (said : Said) → file.refuses bytes said → IsJudgement said.status

-- `IsExactFile` for each file of an order
abbrev pub IsExact : Order → Type 0
IsExact (Load file next) = IsExactFile file × ((bytes : List ℕ) → IsExact (next bytes))
IsExact (Write IsText) = Unit {0}

-- For the bytes of a file at most one thing is reported, including its line.
abbrev pub IsUniqueFile : File → Type 0
IsUniqueFile file = (bytes : List ℕ) (said other : Said) → file.refuses bytes said → file.refuses bytes other → said ≡ other

-- `IsUniqueFile` for each file of an order
abbrev pub IsUnique : Order → Type 0
IsUnique (Load file next) = IsUniqueFile file × ((bytes : List ℕ) → IsUnique (next bytes))
IsUnique (Write IsText) = Unit {0}

-- What is reported for the load of a file of this name that may have at most `limit` bytes. `told` is what is known of the file. `lost`
-- means that a load of it failed, and `cut` that a load of it was cut at its limit.
abbrev pub LoadReports : (told : Told) (lost cut : Type 0) (name : List ℕ) (limit : ℕ) → Said → Type 0
LoadReports told lost cut name limit said =
    -- The load failed.
    (lost × (said ≡ cannot_load name))
    -- Or it was cut, and the file can be longer.
    ⊎ (cut × CanBeOver told limit × (said ≡ is_over name limit))

-- holds of no file's name
abbrev pub OfNone : List ℕ → Type 0
OfNone name = ⊥

-- `files` has what is known of the file of each name. `lost` says of which names a load failed, and `cut` of which a load was cut at
-- its limit.
module _ (files : List ℕ → Told) where
  -- these can be the bytes of the file, and they are within its limit
  pub record CanBe (file : File) (bytes : List ℕ) : Type 0 where
    pub held : CanHold (files file.name) bytes
    pub within : length bytes ≤ file.limit

  -- this is reported for the load of the file: it failed, or the file is too long
  abbrev pub LoadSays : (lost cut : List ℕ → Type 0) → File → Said → Type 0
  LoadSays lost cut file = LoadReports (files file.name) (lost file.name) (cut file.name) file.name file.limit

  -- this is reported for the file: for its load, or for its bytes
  abbrev pub IsRefused : (lost cut : List ℕ → Type 0) → File → Said → Type 0
  IsRefused lost cut file said =
      LoadSays lost cut file said
      ⊎ ((bytes : List ℕ) × CanBe file bytes × file.refuses bytes said)

  -- Some file is refused with this report, and each file before it is accepted.
  abbrev pub StopsAt : (lost cut : List ℕ → Type 0) → Order → Said → Type 0
  StopsAt lost cut (Load file next) said =
      IsRefused lost cut file said
      ⊎ ((bytes : List ℕ) × CanBe file bytes × file.accepts bytes × StopsAt lost cut (next bytes) said)
  StopsAt lost cut (Write IsText) said = ⊥

  -- Each file is accepted, and this is the text. There is no other.
  abbrev pub IsWritten : Order → List ℕ → Type 0
  IsWritten (Load file next) text = (bytes : List ℕ) × CanBe file bytes × file.accepts bytes × IsWritten (next bytes) text
  IsWritten (Write IsText) text = IsOnly IsText text

  -- the file is known: these are its bytes
  abbrev pub IsTold : File → List ℕ → Type 0
  IsTold file bytes = files file.name ≡ Holds bytes

  -- this is reported for known bytes: they are too many, or they are refused
  abbrev pub IsDueOf : File → List ℕ → Said → Type 0
  IsDueOf file bytes said =
      ((file.limit < length bytes) × (said ≡ is_over file.name file.limit))
      ⊎ ((length bytes ≤ file.limit) × file.refuses bytes said)

  -- The files are known up to one that is refused with this report, and each file before it is accepted.
  abbrev pub DueAt : Order → Said → Type 0
  DueAt (Load file next) said = (bytes : List ℕ) × IsTold file bytes
      × (IsDueOf file bytes said ⊎ ((length bytes ≤ file.limit) × file.accepts bytes × DueAt (next bytes) said))
  DueAt (Write IsText) said = ⊥

  -- Each file is known, within its limit and accepted. Nothing may be refused then.
  abbrev pub IsDueAccepted : Order → Type 0
  IsDueAccepted (Load file next) = (bytes : List ℕ) × IsTold file bytes × (length bytes ≤ file.limit) × file.accepts bytes
      × IsDueAccepted (next bytes)
  IsDueAccepted (Write IsText) = Unit {0}
