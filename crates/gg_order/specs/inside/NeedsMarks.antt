-- Sets of marks on signals: bit i of a signal's set is the mark of the out-signal at place i of a group.
-- Source: FIRRTL Specification, "Combinational Loops" (dependency without a register); marks are this program's own.
use Rattle.std.specs.Prelude.{◌≡◌, ◌==◌, ℕ, List, Bool, length, map, nat_lt}
use Rattle.std.specs.Int.{bit_at}
use Rattle.gg_order.specs.inside.Marks.{Marks}

-- the marks of one out-signal
abbrev pub marks_of : ℕ → List ℕ → List Bool
marks_of place marks = map (λ set. bit_at set place == 1) marks

-- for each signal, whether any of its marks is set
abbrev pub any_marks : List ℕ → List Bool
any_marks marks = map (λ set. nat_lt 0 set) marks

-- A set is added to the sets of the named signals. Each out-signal in the set marks these signals too. The marks of
-- the others don't change.
pub record Adds (added : ℕ) (Named : ℕ → Type 0) (before after : List ℕ) : Type 0 where
  pub count : length after ≡ length before
  pub given : (place : ℕ) → bit_at added place ≡ 1 → Marks Named (marks_of place before) (marks_of place after)
  pub kept : (place : ℕ) → bit_at added place ≡ 0 → marks_of place after ≡ marks_of place before
