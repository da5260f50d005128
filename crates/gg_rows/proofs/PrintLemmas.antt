-- Rows that were printed one after another are the text of the run.
use Rattle.std.proofs.Common.{◌≡◌, ℕ, zero, suc, ◌+◌, ◌<◌, ◌≤◌, List, [], ◌∷◌, ◌++◌, length, map, take, refl, sym, ap, ◌∙◌, subst, inl, inr, arith, append_assoc, append-nil}
use Rattle.std.specs.Prelude.{Bool, true, false, not, ◌||◌, Option, Result, Ok, Err, drop, slice_index}
use Rattle.std.specs.Io.KnownBytes.{append_known}
use Rattle.std.proofs.lemmas.List.{drop-map, get_or-map, take-map}
use Rattle.std.proofs.Math.Nat.{eq-or-lt_of_le}
use Rattle.gg_flat.specs.Circuit.{FlatCircuit}
use Rattle.gg_flat.specs.Clock.{Ratio}
use Rattle.gg_flat.specs.Line.{value_at}
use Rattle.gg_flat.specs.Run.{row_at, column}
use Rattle.gg_flat.specs.declared.ports.Port.{Port}
use Rattle.gg_trace.specs.Last.{acts, has_halted}
use Rattle.gg_trace.proofs.LastLaws.{rows-all, rows-from-zero, rows-next, rows-open, rows-reach, rows-stay}
use Rattle.gg_trace.specs.Printing.{header_line, row_line, text_from}
use Rattle.gg_trace.specs.Table.{row_of}
use Rattle.gg_io.specs.Count.{Rose}
use Rattle.gg_io.specs.declared.output.Sink
use Rattle.gg_io.specs.Ends.{IsFront}
use Rattle.gg_io.specs.inside.Endings.{Prints, PrintsOn}
use Rattle.gg_io.specs.WentOn.{SinkWentOn}
use Rattle.gg_io.specs.declared.endings.Ending.{Ending}
use Rattle.gg_io.specs.declared.endings.Ending.TheVariants.{NoMemory, Refused, Unwritten}
use Rattle.gg_io.proofs.WritingLemmas.{append_known-append, append_known-nil, on-then, prints-more, rose-earlier, stop-within}
use Rattle.gg_rows.specs.inside.Rows.{outputs_in}
use Rattle.gg_rows.specs.inside.Printed.{PrintsRow, is_halt, rows_since, rows_to, shown_columns, text_of, text_since}
use Rattle.gg_rows.specs.inside.Taken.{Took, TookSome, TookTo}
use Rattle.gg_rows.specs.inside.Taken.Took.{All, Last, Fails, Wants}

-- the outputs of a row of a run are a row of their columns
pub outputs-row : (circuit : FlatCircuit) (rows : List (List ℕ)) (t : ℕ) → t < length rows → (signals : List ℕ)
    → map (λ s. value_at (row_at rows t) s) signals ≡ row_of (map (column rows) signals) t
outputs-row circuit rows t lt [] = refl
outputs-row circuit rows t lt (s ∷ signals) =
    let head : value_at (row_at rows t) s ≡ slice_index (column rows s) t = sym (get_or-map (λ (row : List ℕ). value_at row s) rows t [] 0 lt) in
    let rest = outputs-row circuit rows t lt signals in cc

-- the first values of the outputs are a row of the columns that are shown
pub shown-row : (circuit : FlatCircuit) (ports : List Port) (rows : List (List ℕ)) (t : ℕ) (outs : List ℕ) → t < length rows → outs ≡ outputs_in circuit rows t
    → take (length ports) outs ≡ row_of (shown_columns circuit ports rows) t
shown-row circuit ports rows t outs lt is =
    ap (take (length ports)) is ∙ take-map (value_at (row_at rows t)) (length ports) circuit.outs ∙ outputs-row circuit rows t lt (take (length ports) circuit.outs)

-- the other values of the outputs are the conditions of the stops
pub halts-row : (stops : List Ratio) (circuit : FlatCircuit) (ports : List Port) (rows : List (List ℕ)) (t : ℕ) (outs : List ℕ) (halted : Bool) → t < length rows → outs ≡ outputs_in circuit rows t
    → halted ≡ acts stops t (drop (length ports) outs) → halted ≡ is_halt stops circuit ports rows t
halts-row stops circuit ports rows t outs halted lt is told =
    told ∙ ap (λ (l : List ℕ). acts stops t (drop (length ports) l)) is
    ∙ ap (acts stops t) (drop-map (value_at (row_at rows t)) (length ports) circuit.outs ∙ outputs-row circuit rows t lt (drop (length ports) circuit.outs))

-- the text of the first rows is a front part of the text of all rows
pub text-front : (ports : List Port) (columns : List (List ℕ)) (begin n t : ℕ) → t ≤ n → IsFront (text_from ports columns begin t) (text_from ports columns begin n)
text-front ports columns begin zero t le = let e : t ≡ zero = omega arith in ([], append-nil (text_from ports columns begin t) ∙ ap (text_from ports columns begin) e)
text-front ports columns begin (suc n) t le =
    elim (eq-or-lt_of_le {n = t} {m = suc n} le) [
      | inl is ↦ ([], append-nil (text_from ports columns begin t) ∙ ap (text_from ports columns begin) is)
      | inr lt ↦
          let front = text-front ports columns begin n t (omega arith) in (
            front.0 ++ row_line ports (begin + n) (row_of columns (begin + n)),
            sym (append_assoc (text_from ports columns begin t) front.0 (row_line ports (begin + n) (row_of columns (begin + n))))
                ∙ ap (λ (x : List ℕ). x ++ row_line ports (begin + n) (row_of columns (begin + n))) front.1,
          )
    ]

-- one row after a text of rows
text-more : (ports : List Port) (columns : List (List ℕ)) (begin t : ℕ) (values : List ℕ) → values ≡ row_of columns (begin + t)
    → text_from ports columns begin t ++ row_line ports (begin + t) values ≡ text_from ports columns begin (suc t)
text-more ports columns begin t values e = ap (λ (v : List ℕ). text_from ports columns begin t ++ row_line ports (begin + t) v) e

-- the rows from cycle 0 on are those of the whole run
pub rows-whole : (stops : List Ratio) (circuit : FlatCircuit) (ports : List Port) (rows : List (List ℕ)) (m n : ℕ) → m ≡ n → rows_since stops circuit ports rows 0 m ≡ rows_to stops circuit ports rows n
rows-whole stops circuit ports rows m n all = ap (rows_since stops circuit ports rows 0) all ∙ rows-from-zero (is_halt stops circuit ports rows) n

pub text-whole : (stops : List Ratio) (circuit : FlatCircuit) (ports : List Port) (rows : List (List ℕ)) (m n : ℕ) → m ≡ n → text_since stops circuit ports rows 0 m ≡ text_of stops circuit ports rows n
text-whole stops circuit ports rows m n all = ap (text_from ports (shown_columns circuit ports rows) 0) (rows-whole stops circuit ports rows m n all)

pub not-not : (b : Bool) → not (not b) ≡ b
not-not true = refl
not-not false = refl

-- if the header stops, a front part of the whole text is there
pub header-stop : (T : Type 0) (before now : Option (List ℕ)) (failed : Type 0) (ports : List Port) (columns : List (List ℕ)) (begin n : ℕ) (piece : List ℕ) (ending : Ending)
    → piece ≡ header_line ports → Prints {T = T} before now failed piece (Err ending) → Prints {T = T} before now failed (text_from ports columns begin n) (Err ending)
header-stop T before now failed ports columns begin n piece ending e prints =
    stop-within T before before now failed failed [] (header_line ports) (text_from ports columns begin n) ending (sym (append_known-nil before)) (λ x. x)
    (text-front ports columns begin n 0 (omega arith)) (subst (λ (p : List ℕ). Prints {T = T} before now failed p (Err ending)) e prints)

-- what stops is the same, whatever would have been returned
pub stop-as : (T U : Type 0) (before now : Option (List ℕ)) (failed : Type 0) (text : List ℕ) (ending : Ending) → Prints {T = U} before now failed text (Err ending) → Prints {T = T} before now failed text (Err ending)
stop-as T U before now failed text (Refused said) prints = prints
stop-as T U before now failed text Unwritten prints = prints
stop-as T U before now failed text NoMemory prints = prints

-- the output only goes on
pub sink-went : {K : Type 0} (sink : Sink.Ghosts K) (stops : List Ratio) (ports : List Port) (before after : K) (n : ℕ) → TookSome (PrintsRow sink stops ports) before n after → SinkWentOn sink before after
sink-went sink stops ports before after zero same = subst (SinkWentOn sink before) (sym same) (record { faults_stay_or_rise = omega arith; refused_stay_or_rise = omega arith })
sink-went sink stops ports before after (suc n) (middle, answer, took, last) = on-then (sink-went sink stops ports before middle n took) last.took.on

-- ---- one row after another

module _ {K : Type 0} (sink : Sink.Ghosts K) (stops : List Ratio) (circuit : FlatCircuit) (ports : List Port) (rows : List (List ℕ)) (begin n : ℕ) (counted : length rows ≡ begin + n) (before : K) where
  abbrev row : ℕ → List ℕ
  row t = outputs_in circuit rows t

  abbrev h : ℕ → Bool
  h k = is_halt stops circuit ports rows (begin + k)

  abbrev text : ℕ → List ℕ
  text k = text_from ports (shown_columns circuit ports rows) begin k

  -- The first k rows from that of cycle `begin` on are on the output, and no stop acts in them.
  record PrintedSo (after : K) (k : ℕ) : Type 0 where
    quiet : has_halted h k ≡ false
    written : (base : Option (List ℕ)) → sink.written before ≡ append_known base (text 0) → sink.written after ≡ append_known base (text k)
    on : SinkWentOn sink before after

  -- the values of the ports, and whether a stop acts
  shown : (t : ℕ) → t < n → take (length ports) (row (begin + t)) ≡ row_of (shown_columns circuit ports rows) (begin + t)
  shown t lt = shown-row circuit ports rows (begin + t) (row (begin + t)) (omega (arith, lt, counted)) refl

  halts-so : (t : ℕ) → t < n → (goes_on : Bool) → goes_on ≡ not (acts stops (begin + t) (drop (length ports) (row (begin + t)))) → h t ≡ not goes_on
  halts-so t lt goes_on is =
      let acted = acts stops (begin + t) (drop (length ports) (row (begin + t))) in
      sym (halts-row stops circuit ports rows (begin + t) (row (begin + t)) acted (omega (arith, lt, counted)) refl refl) ∙ sym (not-not acted) ∙ ap not (sym is)

  -- one more line
  line-more : (t : ℕ) → t < n → (middle after : K) → PrintedSo middle t → sink.written after ≡ append_known (sink.written middle) (row_line ports (begin + t) (take (length ports) (row (begin + t))))
      → (base : Option (List ℕ)) → sink.written before ≡ append_known base (text 0) → sink.written after ≡ append_known base (text (suc t))
  line-more t lt middle after so puts base begins =
      puts
      ∙ ap (λ (w : Option (List ℕ)). append_known w (row_line ports (begin + t) (take (length ports) (row (begin + t))))) (so.written base begins)
      ∙ append_known-append base (text t) (row_line ports (begin + t) (take (length ports) (row (begin + t))))
      ∙ ap (append_known base) (text-more ports (shown_columns circuit ports rows) begin t (take (length ports) (row (begin + t))) (shown t lt))

  took-so : (k : ℕ) → k ≤ n → (after : K) → TookTo (PrintsRow sink stops ports) row begin before k after → PrintedSo after k
  took-so zero le after same =
      record {
        quiet = refl;
        written = λ base begins. ap sink.written same ∙ begins;
        on = subst (SinkWentOn sink before) (sym same) (record { faults_stay_or_rise = omega arith; refused_stay_or_rise = omega arith });
      }
  took-so (suc k) le after (middle, took, last) =
      let so = took-so k (omega (arith, le)) middle took in
      let lt : k < n = omega (arith, le) in
      record {
        quiet = ap (λ b. b || h k) so.quiet ∙ halts-so k lt true last.goes;
        written = line-more k lt middle after so last.prints;
        on = on-then so.on last.on;
      }

  -- how the printing has ended
  pub took-prints : {count : ℕ} {after : K} {result : Result Bool Ending} → Took (PrintsRow sink stops ports) row begin n count before after result
      → (base : Option (List ℕ)) → sink.written before ≡ append_known base (text 0) → Prints base (sink.written after) (Rose (sink.faults before) (sink.faults after)) (text_since stops circuit ports rows begin n) result
  took-prints {after = after} (All took counts ends) base begins =
      let so = took-so n (omega arith) after took in
      rw ends (so.written base begins ∙ ap (λ k. append_known base (text k)) (sym (rows-all h n so.quiet)))
  took-prints {after = after} (Last t lt middle took last counts ends) base begins =
      let so = took-so t (omega (arith, lt)) middle took in
      let acts_ : has_halted h (suc t) ≡ true = ap (λ b. b || h t) so.quiet ∙ halts-so t lt false last.goes in
      let last_ = rows-stay h (suc t) n (omega (arith, lt)) acts_ ∙ rows-next h t so.quiet in
      rw ends (line-more t lt middle after so last.prints base begins ∙ ap (λ k. append_known base (text k)) (sym last_))
  took-prints {after = after} (Fails t lt middle took ending fails counts ends) base begins =
      let so = took-so t (omega (arith, lt)) middle took in
      let line = row_line ports (begin + t) (take (length ports) (row (begin + t))) in
      let whole = text_since stops circuit ports rows begin n in
      let reached = rows-reach h t n lt so.quiet in
      let front = text-front ports (shown_columns circuit ports rows) begin (rows_since stops circuit ports rows begin n) (suc t) (omega (arith, reached)) in
      rw ends
      (stop-within Bool base _ _ _ _ (text t) line whole ending (so.written base begins) (rose-earlier _ _ _ so.on.faults_stay_or_rise)
      (subst (λ (x : List ℕ). IsFront x whole) (sym (text-more ports (shown_columns circuit ports rows) begin t (take (length ports) (row (begin + t))) (shown t lt))) front)
      fails.prints)
  took-prints {count = count} {after = after} (Wants within took ends) base begins =
      let so = took-so count within after took in
      rw ends
      (text count, text-front ports (shown_columns circuit ports rows) begin (rows_since stops circuit ports rows begin n) count (rows-open h count n within so.quiet), so.written base begins)

  -- the header, and then the rows
  pub took-text : (start : K) → sink.written before ≡ append_known (sink.written start) (header_line ports) → SinkWentOn sink start before
      → {count : ℕ} {after : K} {result : Result Bool Ending} → Took (PrintsRow sink stops ports) row begin n count before after result → PrintsOn sink start after (text_since stops circuit ports rows begin n) result
  took-text start header on {result = result} took =
      prints-more Bool _ _ _ _ _ result (rose-earlier _ _ _ on.faults_stay_or_rise) (took-prints took (sink.written start) header)

  -- as many rows were printed as the run has
  pub took-count : {count : ℕ} {after : K} {all : Bool} → Took (PrintsRow sink stops ports) row begin n count before after (Ok all) → count ≡ rows_since stops circuit ports rows begin n
  took-count {after = after} (All took counts ends) = counts ∙ sym (rows-all h n (took-so n (omega arith) after took).quiet)
  took-count (Last t lt middle took last counts ends) =
      let so = took-so t (omega (arith, lt)) middle took in
      let acts_ : has_halted h (suc t) ≡ true = ap (λ b. b || h t) so.quiet ∙ halts-so t lt false last.goes in
      counts ∙ sym (rows-stay h (suc t) n (omega (arith, lt)) acts_ ∙ rows-next h t so.quiet)
  took-count {all = all} (Fails t lt middle took ending fails counts ends) = let e : Ok all ≡ Err ending = ends in absurd (cc)
  took-count {all = all} (Wants within took ends) = let e : Ok all ≡ Err NoMemory = ends in absurd (cc)
