-- A run, row by row.
use Rattle.std.proofs.Common.{◌≡◌, ℕ, zero, suc, ◌<◌, ◌≤◌, ◌+◌, ◌-◌, inl, inr, List, [], ◌∷◌, ◌++◌, length, take, drop, refl, sym, ◌∙◌, ap, subst, arith, below_more, add-one}
use Rattle.std.proofs.lemmas.List.{get_or_append_left, get_or-append_right, length-append, length-take-le, take-append-drop}
use Rattle.std.proofs.lemmas.Bool.{cases_lt}
use Rattle.std.proofs.Math.Seq.{get_or-append_seam}
use Rattle.gg_flat.specs.Circuit.{FlatCircuit}
use Rattle.gg_flat.specs.Clock.{edges_at}
use Rattle.gg_flat.specs.State.{State, next_state}
use Rattle.gg_flat.specs.Settled.{Settled}
use Rattle.gg_flat.specs.Run.{Start, later, IsRunFrom, state_at, row_at, inputs_at}
use Rattle.gg_flat.specs.inside.Run.{after_rows}

module _ (circuit : FlatCircuit) (start : Start) where
  -- more rows don't change the states before them
  pub state_at-append : (rows others : List (List ℕ)) (t : ℕ) → t ≤ length rows → state_at circuit start (rows ++ others) t ≡ state_at circuit start rows t
  state_at-append rows others zero le = refl
  state_at-append rows others (suc t) le =
      let within : t < length rows = omega arith in
      ap (λ state. next_state (edges_at start.ratios (later start.cycle t)) circuit state (row_at (rows ++ others) t)) (state_at-append rows others t (omega arith))
      ∙ ap (next_state (edges_at start.ratios (later start.cycle t)) circuit (state_at circuit start rows t)) (get_or_append_left rows others [] t within)

  pub IsRunFrom-none : (columns : List (List ℕ)) → IsRunFrom circuit start columns 0 []
  IsRunFrom-none columns = record { count = refl; settled = λ t lt. absurd (omega arith) }

  -- the last row is the one that was pushed
  row_at-push : (rows : List (List ℕ)) (row : List ℕ) (t : ℕ) → length rows ≡ t → row_at (rows ++ row ∷ []) t ≡ row
  row_at-push rows row t count = subst (λ n. row_at (rows ++ row ∷ []) n ≡ row) count (get_or-append_seam rows row [] [])

  -- a run and the settled row of the next cycle
  pub IsRunFrom-push : (columns : List (List ℕ)) (t : ℕ) (rows : List (List ℕ)) (row : List ℕ) → IsRunFrom circuit start columns t rows → Settled circuit (state_at circuit start rows t) (inputs_at columns (later start.cycle t)) row → IsRunFrom circuit start columns (t + 1) (rows ++ row ∷ [])
  IsRunFrom-push columns t rows row run settled =
      record {
        count = omega (arith, length-append rows (row ∷ []), run.count);
        settled =
            below_more (λ n. Settled circuit (state_at circuit start (rows ++ row ∷ []) n) (inputs_at columns (later start.cycle n)) (row_at (rows ++ row ∷ []) n)) t
            (λ n lt.
            let within : n < length rows = omega (arith, lt, run.count) in
            subst (λ state. Settled circuit state (inputs_at columns (later start.cycle n)) (row_at (rows ++ row ∷ []) n)) (sym (state_at-append rows (row ∷ []) n (omega arith)))
            (subst (Settled circuit (state_at circuit start rows n) (inputs_at columns (later start.cycle n))) (sym (get_or_append_left rows (row ∷ []) [] n within)) (run.settled n lt)))
            (subst (λ state. Settled circuit state (inputs_at columns (later start.cycle t)) (row_at (rows ++ row ∷ []) t)) (sym (state_at-append rows (row ∷ []) t (omega (arith, run.count))))
            (subst (Settled circuit (state_at circuit start rows t) (inputs_at columns (later start.cycle t))) (sym (row_at-push rows row t run.count)) settled));
      }

  -- the state after the row that was pushed
  pub state_at-next : (columns : List (List ℕ)) (t : ℕ) (rows : List (List ℕ)) (row : List ℕ) (state : State) → IsRunFrom circuit start columns t rows → state ≡ state_at circuit start rows t → next_state (edges_at start.ratios (later start.cycle t)) circuit state row ≡ state_at circuit start (rows ++ row ∷ []) (t + 1)
  state_at-next columns t rows row state run is =
      ap (λ s. next_state (edges_at start.ratios (later start.cycle t)) circuit s row) (is ∙ sym (state_at-append rows (row ∷ []) t (omega (arith, run.count))))
      ∙ ap (next_state (edges_at start.ratios (later start.cycle t)) circuit (state_at circuit start (rows ++ row ∷ []) t)) (sym (row_at-push rows row t run.count))
      ∙ ap (state_at circuit start (rows ++ row ∷ [])) (sym (add-one t))

-- ---- a run that goes on where another ended

later-add : (c t : ℕ) → later c t ≡ c + t
later-add zero t = let same : t ≡ 0 + t = omega arith in same
later-add (suc c) t = let before = later-add c t in let same : suc (later c t) ≡ suc c + t = omega arith in same

later-later : (c n t : ℕ) → later (later c n) t ≡ later c (n + t)
later-later c n t = let same : later (later c n) t ≡ later c (n + t) = omega (arith, later-add (later c n) t, later-add c n, later-add c (n + t)) in same

row_at-after : (rows others : List (List ℕ)) (n t : ℕ) → length rows ≡ n → row_at (rows ++ others) (n + t) ≡ row_at others t
row_at-after rows others n t count = get_or-append_right rows others n (n + t) [] count (omega arith) ∙ ap (row_at others) (let same : n + t - n ≡ t = omega arith in same)

module _ (circuit : FlatCircuit) (start : Start) where
  -- the states of the run that goes on
  state_at-after : (rows others : List (List ℕ)) (n t : ℕ) → length rows ≡ n → t ≤ length others → state_at circuit (after_rows circuit start rows n) others t ≡ state_at circuit start (rows ++ others) (n + t)
  state_at-after rows others n zero count le =
      sym (state_at-append circuit start rows others n (omega (arith, count))) ∙ ap (state_at circuit start (rows ++ others)) (let same : n ≡ n + 0 = omega arith in same)
  state_at-after rows others n (suc t) count le =
      ap (λ u. next_state (edges_at start.ratios u) circuit (state_at circuit (after_rows circuit start rows n) others t) (row_at others t)) (later-later start.cycle n t)
      ∙ ap (λ state. next_state (edges_at start.ratios (later start.cycle (n + t))) circuit state (row_at others t)) (state_at-after rows others n t count (omega arith))
      ∙ ap (next_state (edges_at start.ratios (later start.cycle (n + t))) circuit (state_at circuit start (rows ++ others) (n + t))) (sym (row_at-after rows others n t count))
      ∙ ap (state_at circuit start (rows ++ others)) (let same : suc (n + t) ≡ n + suc t = omega arith in same)

  -- the rows of a run, followed by those of the run that goes on, are a run
  pub IsRunFrom-on : (columns : List (List ℕ)) (n more : ℕ) (rows others : List (List ℕ)) → IsRunFrom circuit start columns n rows → IsRunFrom circuit (after_rows circuit start rows n) columns more others → IsRunFrom circuit start columns (n + more) (rows ++ others)
  IsRunFrom-on columns n more rows others run on =
      record {
        count = omega (arith, length-append rows others, run.count, on.count);
        settled = λ t lt. elim (cases_lt t n) [ inl before ↦ early t before | inr behind ↦ late t (t - n) lt (omega (arith, behind)) ];
      }
    where
      At : ℕ → List ℕ → List ℕ → Type 0
      At t inputs row = Settled circuit (state_at circuit start (rows ++ others) t) inputs row

      early : (t : ℕ) → t < n → At t (inputs_at columns (later start.cycle t)) (row_at (rows ++ others) t)
      early t lt =
          subst (At t (inputs_at columns (later start.cycle t))) (sym (get_or_append_left rows others [] t (omega (arith, lt, run.count))))
          (subst (λ state. Settled circuit state (inputs_at columns (later start.cycle t)) (row_at rows t)) (sym (state_at-append circuit start rows others t (omega (arith, lt, run.count)))) (run.settled t lt))

      late : (t k : ℕ) → t < n + more → t ≡ n + k → At t (inputs_at columns (later start.cycle t)) (row_at (rows ++ others) t)
      late t k lt is =
          subst (λ u. At u (inputs_at columns (later start.cycle u)) (row_at (rows ++ others) u)) (sym is)
          (subst (At (n + k) (inputs_at columns (later start.cycle (n + k)))) (sym (row_at-after rows others n k run.count))
          (subst (λ u. At (n + k) (inputs_at columns u) (row_at others k)) (later-later start.cycle n k)
          (subst (λ state. Settled circuit state (inputs_at columns (later (later start.cycle n) k)) (row_at others k)) (state_at-after rows others n k run.count (omega (arith, lt, is, on.count))) (on.settled k (omega (arith, lt, is))))))

  -- the first rows of a run are a run, and so are the rest from the state after the first
  early-run : (columns : List (List ℕ)) (n more : ℕ) (front back : List (List ℕ)) → length front ≡ n → IsRunFrom circuit start columns (n + more) (front ++ back) → IsRunFrom circuit start columns n front
  early-run columns n more front back count run =
      record {
        count = count;
        settled = λ t lt.
            subst (Settled circuit (state_at circuit start front t) (inputs_at columns (later start.cycle t))) (get_or_append_left front back [] t (omega (arith, lt, count)))
            (subst (λ state. Settled circuit state (inputs_at columns (later start.cycle t)) (row_at (front ++ back) t)) (state_at-append circuit start front back t (omega (arith, lt, count))) (run.settled t (omega arith)));
      }

  late-run : (columns : List (List ℕ)) (n more : ℕ) (front back : List (List ℕ)) → length front ≡ n → IsRunFrom circuit start columns (n + more) (front ++ back) → IsRunFrom circuit (after_rows circuit start front n) columns more back
  late-run columns n more front back count run =
      let length_back : length back ≡ more = omega (arith, length-append front back, run.count, count) in
      record {
        count = length_back;
        settled = λ k lt.
            subst (λ state. Settled circuit state (inputs_at columns (later (later start.cycle n) k)) (row_at back k)) (sym (state_at-after front back n k count (omega (arith, lt, length_back))))
            (subst (λ u. Settled circuit (state_at circuit start (front ++ back) (n + k)) (inputs_at columns u) (row_at back k)) (sym (later-later start.cycle n k))
            (subst (Settled circuit (state_at circuit start (front ++ back) (n + k)) (inputs_at columns (later start.cycle (n + k)))) (row_at-after front back n k count) (run.settled (n + k) (omega arith))));
      }

  pub IsRunFrom-first : (columns : List (List ℕ)) (n more : ℕ) (rows : List (List ℕ)) → IsRunFrom circuit start columns (n + more) rows → IsRunFrom circuit start columns n (take n rows)
  IsRunFrom-first columns n more rows run =
      early-run columns n more (take n rows) (drop n rows) (length-take-le n rows (omega (arith, run.count))) (subst (IsRunFrom circuit start columns (n + more)) (sym (take-append-drop n rows)) run)

  pub IsRunFrom-rest : (columns : List (List ℕ)) (n more : ℕ) (rows : List (List ℕ)) → IsRunFrom circuit start columns (n + more) rows → IsRunFrom circuit (after_rows circuit start (take n rows) n) columns more (drop n rows)
  IsRunFrom-rest columns n more rows run =
      late-run columns n more (take n rows) (drop n rows) (length-take-le n rows (omega (arith, run.count))) (subst (IsRunFrom circuit start columns (n + more)) (sym (take-append-drop n rows)) run)
