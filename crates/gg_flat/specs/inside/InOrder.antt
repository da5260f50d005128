-- More on InOrder: what no promise of the program reaches.
-- Source: Knuth, The Art of Computer Programming, volume 1, section 2.2.3, "Topological sorting".
use Rattle.std.specs.Prelude.{◌≡◌, ℕ, ◌<◌, List, length, AllPairs}
use Rattle.gg_flat.specs.Line.{value_at}

-- Signal a comes before signal b in the order.
pub record Precedes (order : List ℕ) (a b : ℕ) : Type 0 where
  pub first : ℕ
  pub second : ℕ
  pub before : first < second
  pub within : second < length order
  pub first_is : value_at order first ≡ a
  pub second_is : value_at order second ≡ b

-- the signals of the list are in the order, and come in the list as they come there
abbrev pub IsAlong : List ℕ → List ℕ → Type 0
IsAlong order globals = AllPairs (λ a b. Precedes order a b) globals
