-- Rows that were folded one after another.
use Rattle.std.proofs.Common.{◌≡◌, ℕ, zero, suc, ◌+◌, ◌<◌, ◌≤◌, List, [], length, get_or, sym, ap, ◌∙◌, subst, arith}
use Rattle.std.specs.Prelude.{Bool, true, false, Ok, Err, slice_index}
use Rattle.std.proofs.lemmas.List.{get_or-map}
use Rattle.gg_rows.specs.inside.Folded.{IsFolded}
use Rattle.gg_rows.specs.declared.fold.Fold.{Fold}
use Rattle.gg_flat.specs.Circuit.{FlatCircuit}
use Rattle.gg_flat.specs.Line.{value_at}
use Rattle.gg_flat.specs.Run.{row_at}
use Rattle.gg_io.specs.declared.endings.Ending.TheVariants.{NoMemory}
use Rattle.gg_rows.specs.inside.Rows.{outputs_in}
use Rattle.gg_rows.specs.inside.Sums.{FoldsRow, FoldsRows}
use Rattle.gg_rows.specs.Sums.{output_column}
use Rattle.gg_rows.specs.inside.Taken.{Took, TookTo}
use Rattle.gg_rows.specs.inside.Taken.Took.{All, Last, Fails, Wants}

-- a value of a row is one of its column
row-value : (circuit : FlatCircuit) (rows : List (List ℕ)) (t k : ℕ) (outs : List ℕ) → t < length rows → k < length circuit.outs → outs ≡ outputs_in circuit rows t
    → get_or outs k 0 ≡ slice_index (output_column circuit rows k) t
row-value circuit rows t k outs lt known is =
    ap (λ (l : List ℕ). get_or l k 0) is ∙ get_or-map (value_at (row_at rows t)) circuit.outs k 0 0 known
    ∙ sym (get_or-map (λ (row : List ℕ). value_at row (value_at circuit.outs k)) rows t [] 0 lt)

module _ (circuit : FlatCircuit) (rows : List (List ℕ)) (n : ℕ) (counted : length rows ≡ n) (two : 2 ≤ length circuit.outs) (before : Fold)
    (empty : (ys zs : List ℕ) → IsFolded ys zs 0 before) where
  folded-to : (k : ℕ) → k ≤ n → (after : Fold) → TookTo FoldsRow (outputs_in circuit rows) 0 before k after → FoldsRows circuit rows k after
  folded-to zero le after same = subst (FoldsRows circuit rows 0) (sym same) (empty (output_column circuit rows 0) (output_column circuit rows 1))
  folded-to (suc k) le after (middle, took, last) =
      let lt : k < length rows = omega (arith, le, counted) in
      let there : 0 + k ≡ k = omega arith in
      let is = ap (outputs_in circuit rows) there in
      last.adds (output_column circuit rows 0) (output_column circuit rows 1) k (folded-to k (omega (arith, le)) middle took)
      (row-value circuit rows k 0 (outputs_in circuit rows (0 + k)) lt (omega (arith, two)) is) (row-value circuit rows k 1 (outputs_in circuit rows (0 + k)) lt (omega (arith, two)) is)

  pub took-folds : {m count : ℕ} {after : Fold} {all : Bool} → m ≡ n → Took FoldsRow (outputs_in circuit rows) 0 m count before after (Ok all) → FoldsRows circuit rows n after
  took-folds {m = m} {after = after} whole (All took counts ends) = subst (λ k. FoldsRows circuit rows k after) whole (folded-to m (omega (arith, whole)) after took)
  took-folds whole (Last t lt middle took last counts ends) = let e : Ok false ≡ Ok true = last.goes in absurd (cc)
  took-folds {all = all} whole (Fails t lt middle took ending fails counts ends) = let e : Ok all ≡ Err ending = ends in absurd (cc)
  took-folds {all = all} whole (Wants within took ends) = let e : Ok all ≡ Err NoMemory = ends in absurd (cc)
