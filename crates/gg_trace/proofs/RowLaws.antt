-- The values of a row, cell by cell.
use Rattle.std.proofs.Common.{◌≡◌, ℕ, ◌+◌, ◌^◌, ◌<◌, ◌≤◌, List, [], ◌∷◌, length, get_or, set, drop, ◌⊎◌, inl, inr, sym, ap, ◌∙◌, subst, arith, length-drop, decimal}
use Rattle.std.proofs.lemmas.List.{get_or-set_same, get_or-set_other, length-set}
use Rattle.std.proofs.lemmas.Bool.{cases_eq}
use Rattle.gg_bits.specs.Limits.{cycle_limit}
use Rattle.gg_flat.specs.declared.ports.Port.{Port}
use Rattle.gg_trace.specs.declared.faults.TraceFault.{TraceFault}
use Rattle.gg_trace.specs.declared.faults.TraceFault.TheVariants.{Heading, RowNumber, NotHexadecimal, TooWide, FieldCount, TooManyRows, NoMemory}
use Rattle.gg_trace.specs.Cells.{IsCell, IsHexadecimal, hexadecimal}
use Rattle.gg_trace.specs.Ports.{width_at}
use Rattle.gg_trace.specs.Header.{field}
use Rattle.gg_trace.specs.inside.Places.{ArePlaces, AreCells, AreValues, StopsAt, HasValueFault, HasValuesFault, PassesCycle, ReadsRow, HasRowFault}
use Rattle.gg_trace.proofs.ListLaws.{next_item}

-- the first `at` cells were read, and rest is left
pub record ReadsCells (ports : List Port) (places : List ℕ) (cells rest : List (List ℕ)) (values : List ℕ) (at : ℕ) : Type 0 where
  pub left : drop at cells ≡ rest
  pub count : length cells ≡ length places
  pub reached : at ≤ length places
  pub size : length values ≡ length ports
  pub good : AreCells ports places cells at
  pub gives : AreValues places cells values at

-- the next cell is within the row
pub next_cell : {ports : List Port} {places : List ℕ} {cells more : List (List ℕ)} {x values : List ℕ} {at : ℕ} → ReadsCells ports places cells (x ∷ more) values at → at < length places
next_cell {ports} {places} {cells} {more} {x} {values} {at} reads = omega (arith, (next_item cells more x [] at reads.left).1, reads.count)

pub reads_cell : (ports : List Port) (places : List ℕ) (cells more : List (List ℕ)) (x values : List ℕ) (at v : ℕ) → ReadsCells ports places cells (x ∷ more) values at → ArePlaces ports places
    → IsCell (width_at ports (get_or places at 0)) x → v ≡ hexadecimal x → ReadsCells ports places cells more (set values (get_or places at 0) v) (at + 1)
reads_cell ports places cells more x values at v reads are cell value = record {
  left = next.2;
  count = reads.count;
  reached = omega (arith, inside);
  size = length-set values (get_or places at 0) v ∙ reads.size;
  good = record { each = good };
  gives = record { each = gives };
}
  where
    next : (field cells at ≡ x) × (at < length cells) × (drop (at + 1) cells ≡ more)
    next = next_item cells more x [] at reads.left

    inside : at < length places
    inside = next_cell reads

    good : (g : ℕ) → g < at + 1 → IsCell (width_at ports (get_or places g 0)) (field cells g)
    good g h = by_place (cases_eq g at)
      where
        by_place : (g ≡ at) ⊎ (g ≡ at → ⊥) → IsCell (width_at ports (get_or places g 0)) (field cells g)
        by_place (inl e) = subst (λ k. IsCell (width_at ports (get_or places k 0)) (field cells k)) (sym e) (subst (IsCell (width_at ports (get_or places at 0))) (sym next.0) cell)
        by_place (inr ne) = reads.good.each g (omega arith)

    gives : (g : ℕ) → g < at + 1 → get_or (set values (get_or places at 0) v) (get_or places g 0) 0 ≡ hexadecimal (field cells g)
    gives g h = by_place (cases_eq g at)
      where
        by_place : (g ≡ at) ⊎ (g ≡ at → ⊥) → get_or (set values (get_or places at 0) v) (get_or places g 0) 0 ≡ hexadecimal (field cells g)
        by_place (inl e) =
            subst (λ k. get_or (set values (get_or places at 0) v) (get_or places k 0) 0 ≡ hexadecimal (field cells k)) (sym e)
            (get_or-set_same values (get_or places at 0) v 0 (omega (arith, reads.size, are.within at inside)) ∙ value ∙ ap hexadecimal (sym next.0))
        by_place (inr ne) =
            let before : g < at = omega arith in
            get_or-set_other values (get_or places at 0) (get_or places g 0) v 0 (are.distinct g at before inside) ∙ reads.gives.each g before

abbrev stops : (ports : List Port) (places : List ℕ) (cells more : List (List ℕ)) (x values : List ℕ) (at row r f : ℕ) → ReadsCells ports places cells (x ∷ more) values at → r ≡ row → f ≡ at + 1
    → StopsAt ports places cells row r f
stops ports places cells more x values at row r f reads is_row is_field =
    record { at = at; is_row = is_row; is_field = is_field; within = next_cell reads; before = reads.good }

-- a fault of the next cell is a fault of the row's values
pub cell_fault : (ports : List Port) (places : List ℕ) (cells more : List (List ℕ)) (x values : List ℕ) (at row : ℕ) (fault : TraceFault) → ReadsCells ports places cells (x ∷ more) values at
    → HasValueFault (width_at ports (get_or places at 0)) x row (at + 1) fault → HasValuesFault ports places cells row fault
cell_fault ports places cells more x values at row (NotHexadecimal r f) reads h =
    (stops ports places cells more x values at row r f reads h.0 h.1, λ digits. h.2 (subst IsHexadecimal (next_item cells more x [] at reads.left).0 digits))
cell_fault ports places cells more x values at row (TooWide r f) reads h = (
  stops ports places cells more x values at row r f reads h.0 h.1,
  subst (λ text. IsHexadecimal text × (2 ^ width_at ports (get_or places at 0) ≤ hexadecimal text)) (sym (next_item cells more x [] at reads.left).0) h.2,
)
cell_fault ports places cells more x values at row (Heading f) reads h = h
cell_fault ports places cells more x values at row (RowNumber r) reads h = h
cell_fault ports places cells more x values at row (FieldCount r c) reads h = h
cell_fault ports places cells more x values at row (TooManyRows r) reads h = h
cell_fault ports places cells more x values at row NoMemory reads h = h

-- if no cell is left, all cells were read
pub reads_all_cells : (ports : List Port) (places : List ℕ) (cells : List (List ℕ)) (values : List ℕ) (at : ℕ) → ReadsCells ports places cells [] values at
    → AreCells ports places cells (length places) × AreValues places cells values (length places)
reads_all_cells ports places cells values at reads =
    let ends : at ≡ length places = omega (arith, length-drop at cells, ap length reads.left, reads.count, reads.reached) in
    (subst (AreCells ports places cells) ends reads.good, subst (AreValues places cells values) ends reads.gives)

passes : (places : List ℕ) (row : ℕ) (line cells : List (List ℕ)) (first : List ℕ) → line ≡ first ∷ cells → row < cycle_limit → length line ≡ length places + 1 → first ≡ decimal row → PassesCycle places row line
passes places row line cells first e limit count is = record { limit = limit; count = count; is = ap (λ fields. field fields 0) e ∙ is }

-- a row is read if its number and its cells were read
pub row_reads : (ports : List Port) (places : List ℕ) (row : ℕ) (line cells : List (List ℕ)) (first values : List ℕ) → line ≡ first ∷ cells → row < cycle_limit → length line ≡ length places + 1 → first ≡ decimal row
    → AreCells ports places cells (length places) × AreValues places cells values (length places) → ReadsRow ports places row line values
row_reads ports places row line cells first values e limit count is read = record {
  passes = passes places row line cells first e limit count is;
  cells = subst (λ rest. AreCells ports places rest (length places)) (sym (ap (drop 1) e)) read.0;
  gives = subst (λ rest. AreValues places rest values (length places)) (sym (ap (drop 1) e)) read.1;
}

-- a fault of the row's cells is a fault of the row
pub row_fault : (ports : List Port) (places : List ℕ) (row : ℕ) (line cells : List (List ℕ)) (first : List ℕ) (fault : TraceFault) → line ≡ first ∷ cells → row < cycle_limit → length line ≡ length places + 1 → first ≡ decimal row
    → HasValuesFault ports places cells row fault → HasRowFault ports places row line fault
row_fault ports places row line cells first (NotHexadecimal r f) e limit count is h =
    (passes places row line cells first e limit count is, subst (λ rest. HasValuesFault ports places rest row (NotHexadecimal r f)) (sym (ap (drop 1) e)) h)
row_fault ports places row line cells first (TooWide r f) e limit count is h =
    (passes places row line cells first e limit count is, subst (λ rest. HasValuesFault ports places rest row (TooWide r f)) (sym (ap (drop 1) e)) h)
row_fault ports places row line cells first (Heading f) e limit count is h = absurd h
row_fault ports places row line cells first (RowNumber r) e limit count is h = absurd h
row_fault ports places row line cells first (FieldCount r c) e limit count is h = absurd h
row_fault ports places row line cells first (TooManyRows r) e limit count is h = absurd h
row_fault ports places row line cells first NoMemory e limit count is h = absurd h
