-- The part's lines, registers and memories give in the part's row what the whole's give in the whole's row.
use Rattle.std.proofs.Common.{◌≡◌, ℕ, suc, ◌<◌, ◌≤◌, ◌*◌, ◌/◌, List, [], ◌∷◌, length, map, get_or, refl, sym, ◌∙◌, ap, inl, inr, ◌⊎◌, arith}
use Rattle.std.specs.Prelude.{Option, Some, None, Bool, true}
use Rattle.std.proofs.lemmas.Bool.{cases_lt, lt-ltb}
use Rattle.std.proofs.lemmas.List.{get_or-map, get_or_past, length-map}
use Rattle.gg_bits.specs.Shape.{Shape}
use Rattle.gg_flat.specs.declared.line.Node.{Node}
use Rattle.gg_flat.specs.declared.memory.Memory.{Memory}
use Rattle.gg_flat.specs.declared.piece.Register.{Register}
use Rattle.gg_flat.specs.Line.{value_at, connected_value}
use Rattle.gg_flat.specs.Clock.{Ratio, edge, edges_at, ticks}
use Rattle.gg_flat_tree.specs.Clocked.{clock_at}
use Rattle.gg_flat.specs.Memory.{Bank, next_bank}
use Rattle.gg_flat.specs.State.{next_register}
use Rattle.gg_part.specs.Part.{in_whole, NamesBelow, RegisterBelow, MemoryBelow}
use Rattle.gg_part.specs.PartRun.{part_row, part_ratios, ratio_at}
use Rattle.gg_flat.specs.Renaming.{renamed_line, renamed_memory, renamed_register}
use Rattle.gg_flat.proofs.RenamedLineLaws as lines
use Rattle.gg_flat.proofs.RenamedLaws as things

module _ (globals row : List ℕ) where
  -- the value of a signal in the part's row
  pub part_row-at : (s : ℕ) → s < length globals → value_at (part_row globals row) s ≡ value_at row (value_at globals s)
  part_row-at s lt = get_or-map (value_at row) globals s 0 0 lt

  pub connected-renamed : (sink : Shape) (line : List Node) → NamesBelow (length globals) line → connected_value row sink (renamed_line (value_at globals) line) ≡ connected_value (part_row globals row) sink line
  connected-renamed sink line below = lines.connected-renamed (value_at globals) row (part_row globals row) sink line (λ s named. sym (part_row-at s (below s named)))

-- What goes on in a tick: the whole's clocks have these edges, the part's those, and each clock of the part has an edge where the one that it
-- follows has one.
module _ (globals row : List ℕ) (clocks : List (Option ℕ)) (edges mine : List Bool) (same : (clock : Option ℕ) → ticks edges (clock_at clocks clock) ≡ ticks mine clock) where
  pub register-renamed : (register : Register) (own : ℕ) → RegisterBelow (length globals) register → next_register edges row (renamed_register (in_whole globals clocks) register) own ≡ next_register mine (part_row globals row) register own
  register-renamed register own below =
      things.register-value (in_whole globals clocks) row (part_row globals row) edges mine register own (λ s named. sym (part_row-at globals row s (below s named))) (same register.clock)

  pub bank-renamed : (memory : Memory) (bank : Bank) → MemoryBelow (length globals) memory → next_bank edges row (renamed_memory (in_whole globals clocks) memory) bank ≡ next_bank mine (part_row globals row) memory bank
  bank-renamed memory bank below =
      things.bank-value (in_whole globals clocks) row (part_row globals row) edges mine memory bank
      (things.memory-weaken (λ s. s < length globals) (lines.IsAlike (value_at globals) row (part_row globals row)) memory (λ s lt. sym (part_row-at globals row s lt)) below)
      (things.follows-each (things.TicksAlike (in_whole globals clocks) row (part_row globals row) edges mine) memory same)

-- ---- edges

-- without ratios each clock has an edge in each tick
each-ticks : (clock : Option ℕ) → ticks [] clock ≡ true
each-ticks None = refl
each-ticks (Some clock) = get_or_past [] clock true (omega arith)

-- so has a clock with an edge in one of one tick
edge-each : (b : ℕ) → edge (record { m = 1; d = 1 }) b ≡ true
edge-each b = lt-ltb (b * 1 / 1) (suc b * 1 / 1) (omega arith)

module _ (ratio : Ratio) (ratios : List Ratio) (b : ℕ) where
  abbrev all : List Ratio
  all = ratio ∷ ratios

  -- a clock of the whole has the edges of its ratio
  edge-at : (clock : Option ℕ) → edge (ratio_at (ratio ∷ ratios) clock) b ≡ ticks (edges_at (ratio ∷ ratios) b) clock
  edge-at None = edge-each b
  edge-at (Some k) = go (cases_lt k (length all))
    where
      go : (k < length all) ⊎ (length all ≤ k) → edge (get_or all k (record { m = 1; d = 1 })) b ≡ get_or (edges_at all b) k true
      go (inl lt) = sym (get_or-map (λ (r : Ratio). edge r b) all k (record { m = 1; d = 1 }) true lt)
      go (inr ge) =
          ap (λ (r : Ratio). edge r b) (get_or_past all k (record { m = 1; d = 1 }) ge) ∙ edge-each b
          ∙ sym (get_or_past (edges_at all b) k true (omega (arith, ge, length-map all (λ (r : Ratio). edge r b))))

-- the clocks of a part have edges where those that they follow have them
pub ticks-part : (clocks : List (Option ℕ)) (ratios : List Ratio) (b : ℕ) (clock : Option ℕ) → ticks (edges_at ratios b) (clock_at clocks clock) ≡ ticks (edges_at (part_ratios clocks ratios) b) clock
ticks-part clocks [] b clock = each-ticks (clock_at clocks clock) ∙ sym (each-ticks clock)
ticks-part clocks (ratio ∷ ratios) b None = refl
ticks-part clocks (ratio ∷ ratios) b (Some k) = go (cases_lt k (length clocks))
  where
    own : List Ratio
    own = map (ratio_at (ratio ∷ ratios)) clocks

    count : length (edges_at (map (ratio_at (ratio ∷ ratios)) clocks) b) ≡ length clocks
    count = length-map (map (ratio_at (ratio ∷ ratios)) clocks) (λ (r : Ratio). edge r b) ∙ length-map clocks (ratio_at (ratio ∷ ratios))

    go : (k < length clocks) ⊎ (length clocks ≤ k) → ticks (edges_at (ratio ∷ ratios) b) (get_or clocks k None) ≡ get_or (edges_at (map (ratio_at (ratio ∷ ratios)) clocks) b) k true
    go (inl lt) =
        sym (edge-at ratio ratios b (get_or clocks k None))
        ∙ sym (ap (λ (r : Ratio). edge r b) (get_or-map (ratio_at (ratio ∷ ratios)) clocks k None (record { m = 1; d = 1 }) lt))
        ∙ sym (get_or-map (λ (r : Ratio). edge r b) (map (ratio_at (ratio ∷ ratios)) clocks) k (record { m = 1; d = 1 }) true (omega (arith, lt, length-map clocks (ratio_at (ratio ∷ ratios)))))
    go (inr ge) =
        ap (ticks (edges_at (ratio ∷ ratios) b)) (get_or_past clocks k None ge)
        ∙ sym (get_or_past (edges_at (map (ratio_at (ratio ∷ ratios)) clocks) b) k true (omega (arith, ge, count)))
