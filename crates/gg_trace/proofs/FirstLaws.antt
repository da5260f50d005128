-- A text has at most one first fault. If it has columns, it has no fault, and its columns are the only ones.
use Rattle.std.proofs.Common.{◌≡◌, ◌≢◌, ℕ, ◌^◌, ◌<◌, zero, suc, List, [], length, get_or, decimal, ◌⊎◌, inl, inr, refl, sym, ap, ◌∙◌, subst, arith}
use Rattle.std.proofs.lemmas.List.{ext_get_or}
use Rattle.std.proofs.lemmas.Bool.{cases_order}
use Rattle.gg_bits.specs.Limits.{cycle_limit}
use Rattle.gg_flat.specs.declared.ports.Port.{Port}
use Rattle.gg_trace.specs.declared.faults.TraceFault.{TraceFault}
use Rattle.gg_trace.specs.declared.faults.TraceFault.TheVariants.{Heading, RowNumber, NotHexadecimal, TooWide, FieldCount, TooManyRows, NoMemory}
use Rattle.gg_trace.specs.Cells.{IsHexadecimal, hexadecimal}
use Rattle.gg_trace.specs.Ports.{IsNamed, width_at}
use Rattle.gg_trace.specs.Header.{field, MayStand, IsHeader, HasHeaderFault}
use Rattle.gg_trace.specs.Trace.{header_of, rows_of, row_at, IsValueField, IsRow, Columns, HasValueAt, IsTooWide, HasFault, ReachesRow, ReachesValue, IsFirstFault, IfFirstFault, HaveWidths}

-- a header for the ports has no fault
header_good : (ports : List Port) (header : List (List ℕ)) (f : ℕ) → HasHeaderFault ports header f → IsHeader ports header → ⊥
header_good ports header f fault good = by_kind fault.here
  where
    by_kind : ((f < length header) × ¬ MayStand ports header f) ⊎ ((f ≡ length header) × ¬ IsHeader ports header) → ⊥
    by_kind (inl h) = h.1 (good.each f h.0)
    by_kind (inr h) = h.1 good

not_before : (ports : List Port) (header : List (List ℕ)) (f g : ℕ) → HasHeaderFault ports header f → HasHeaderFault ports header g → f < g → ⊥
not_before ports header f g here there before = by_kind here.here there.here
  where
    by_kind : ((f < length header) × ¬ MayStand ports header f) ⊎ ((f ≡ length header) × ¬ IsHeader ports header)
        → ((g < length header) × ¬ MayStand ports header g) ⊎ ((g ≡ length header) × ¬ IsHeader ports header) → ⊥
    by_kind (inl h) k = h.1 (there.before f before)
    by_kind (inr h) (inl k) = omega (arith, before, h.0, k.0)
    by_kind (inr h) (inr k) = omega (arith, before, h.0, k.0)

one_header_fault : (ports : List Port) (header : List (List ℕ)) (f g : ℕ) → HasHeaderFault ports header f → HasHeaderFault ports header g → f ≡ g
one_header_fault ports header f g here there = by_order (cases_order f g)
  where
    by_order : (f ≡ g) ⊎ ((f < g) ⊎ (g < f)) → f ≡ g
    by_order (inl e) = e
    by_order (inr (inl before)) = absurd (not_before ports header f g here there before)
    by_order (inr (inr before)) = absurd (not_before ports header g f there here before)

-- each field of a header after the first names a port
named_port : (ports : List Port) (header : List (List ℕ)) (f : ℕ) → IsHeader ports header → 0 < f → f < length header → (i : ℕ) × IsNamed ports (field header f) i
named_port ports header zero good some within = absurd (omega arith)
named_port ports header (suc f) good some within = let may = good.each (suc f) within in (may.port, may.is)

bad_digits : (ports : List Port) (bytes : List ℕ) (r f : ℕ) → IsHeader ports (header_of bytes) → HasValueAt bytes r f → ¬ IsHexadecimal (field (row_at bytes r) f)
    → IsValueField ports (header_of bytes) (row_at bytes r) f → ⊥
bad_digits ports bytes r f good at none value =
    let named = named_port ports (header_of bytes) f good at.behind at.within in
    none ((value.value named.0 named.1).digits)

bad_width : (ports : List Port) (bytes : List ℕ) (r f : ℕ) → IsTooWide ports bytes r f → IsValueField ports (header_of bytes) (row_at bytes r) f → ⊥
bad_width ports bytes r f wide value = omega (arith, wide.wide, (value.value wide.port wide.named).fits)

-- the header and the rows before the fault's row are good, and that row is not
abbrev IsAtRow : List Port → List ℕ → TraceFault → Type 0
IsAtRow ports bytes (Heading f) = Unit {0}
IsAtRow ports bytes (RowNumber r) = ReachesRow ports bytes r × (r < length (rows_of bytes)) × ¬ IsRow ports (header_of bytes) r (row_at bytes r)
IsAtRow ports bytes (NotHexadecimal r f) = ReachesRow ports bytes r × (r < length (rows_of bytes)) × ¬ IsRow ports (header_of bytes) r (row_at bytes r)
IsAtRow ports bytes (TooWide r f) = ReachesRow ports bytes r × (r < length (rows_of bytes)) × ¬ IsRow ports (header_of bytes) r (row_at bytes r)
IsAtRow ports bytes (FieldCount r c) = ReachesRow ports bytes r × (r < length (rows_of bytes)) × ¬ IsRow ports (header_of bytes) r (row_at bytes r)
IsAtRow ports bytes (TooManyRows r) = ReachesRow ports bytes r × (r < length (rows_of bytes)) × ¬ IsRow ports (header_of bytes) r (row_at bytes r)
IsAtRow ports bytes NoMemory = Unit {0}

at_row : (ports : List Port) (bytes : List ℕ) (fault : TraceFault) → IsFirstFault ports bytes fault → IsAtRow ports bytes fault
at_row ports bytes (Heading f) h = tt
at_row ports bytes (RowNumber r) h = (h.0.limit.row, h.1.0, λ good. h.1.1 good.number)
at_row ports bytes (NotHexadecimal r f) h =
    let reached = h.0.count.limit.row in
    (reached, h.1.0.row, λ good. bad_digits ports bytes r f reached.header h.1.0 h.1.1 (good.values f h.1.0.behind h.1.0.within))
at_row ports bytes (TooWide r f) h =
    (h.0.count.limit.row, h.1.0.row, λ good. bad_width ports bytes r f h.1.1 (good.values f h.1.0.behind h.1.0.within))
at_row ports bytes (FieldCount r c) h = (h.0.row, h.1.0, λ good. h.1.2 (sym h.1.1 ∙ good.count))
at_row ports bytes (TooManyRows r) h = (h.0, h.1.0, λ good. omega (arith, good.limit, h.1.1))
at_row ports bytes NoMemory h = tt

-- only one row is the first that isn't good
one_row : (ports : List Port) (bytes : List ℕ) (r s : ℕ) → ReachesRow ports bytes r × (r < length (rows_of bytes)) × ¬ IsRow ports (header_of bytes) r (row_at bytes r)
    → ReachesRow ports bytes s × (s < length (rows_of bytes)) × ¬ IsRow ports (header_of bytes) s (row_at bytes s) → r ≡ s
one_row ports bytes r s here there = by_order (cases_order r s)
  where
    by_order : (r ≡ s) ⊎ ((r < s) ⊎ (s < r)) → r ≡ s
    by_order (inl e) = e
    by_order (inr (inl before)) = absurd (here.2 (there.0.before r before))
    by_order (inr (inr before)) = absurd (there.2 (here.0.before s before))

-- a fault of a row contradicts that a later fault of the same row is reached
limit_clash : (r s : ℕ) → r ≡ s → r ≡ cycle_limit → s < cycle_limit → ⊥
limit_clash r s e limit below = omega (arith, e, limit, below)

count_clash : (bytes : List ℕ) (r s c : ℕ) → r ≡ s → length (row_at bytes r) ≡ c → c ≢ length (header_of bytes) → length (row_at bytes s) ≡ length (header_of bytes) → ⊥
count_clash bytes r s c e is other count = other (sym is ∙ ap (λ q. length (row_at bytes q)) e ∙ count)

number_clash : (bytes : List ℕ) (r s : ℕ) → r ≡ s → field (row_at bytes r) 0 ≢ decimal r → field (row_at bytes s) 0 ≡ decimal s → ⊥
number_clash bytes r s e other is = other (subst (λ q. field (row_at bytes q) 0 ≡ decimal q) (sym e) is)

value_clash : (ports : List Port) (bytes : List ℕ) (r s f g : ℕ) → r ≡ s → 0 < f → f < g → (IsValueField ports (header_of bytes) (row_at bytes r) f → ⊥) → ReachesValue ports bytes s g → ⊥
value_clash ports bytes r s f g e some before bad reached =
    bad (subst (λ q. IsValueField ports (header_of bytes) (row_at bytes q) f) (sym e) (reached.before f some before))

-- two faults of values in one row are in the same field
one_field : (ports : List Port) (bytes : List ℕ) (r s f g : ℕ) → r ≡ s → 0 < f → 0 < g → (IsValueField ports (header_of bytes) (row_at bytes r) f → ⊥) → (IsValueField ports (header_of bytes) (row_at bytes s) g → ⊥)
    → ReachesValue ports bytes r f → ReachesValue ports bytes s g → f ≡ g
one_field ports bytes r s f g e some_f some_g bad_f bad_g here there = by_order (cases_order f g)
  where
    by_order : (f ≡ g) ⊎ ((f < g) ⊎ (g < f)) → f ≡ g
    by_order (inl same) = same
    by_order (inr (inl before)) = absurd (value_clash ports bytes r s f g e some_f before bad_f there)
    by_order (inr (inr before)) = absurd (value_clash ports bytes s r g f (sym e) some_g before bad_g here)

digits_clash : (bytes : List ℕ) (r s f g : ℕ) → r ≡ s → f ≡ g → ¬ IsHexadecimal (field (row_at bytes r) f) → IsHexadecimal (field (row_at bytes s) g) → ⊥
digits_clash bytes r s f g e same none digits = none (subst (λ q. IsHexadecimal (field (row_at bytes q) f)) (sym e) (subst (λ k. IsHexadecimal (field (row_at bytes s) k)) (sym same) digits))

bad_by_digits : (ports : List Port) (bytes : List ℕ) (r f : ℕ) → IsFirstFault ports bytes (NotHexadecimal r f) → IsValueField ports (header_of bytes) (row_at bytes r) f → ⊥
bad_by_digits ports bytes r f h = bad_digits ports bytes r f h.0.count.limit.row.header h.1.0 h.1.1

bad_by_width : (ports : List Port) (bytes : List ℕ) (r f : ℕ) → IsFirstFault ports bytes (TooWide r f) → IsValueField ports (header_of bytes) (row_at bytes r) f → ⊥
bad_by_width ports bytes r f h = bad_width ports bytes r f h.1.1

-- a text has at most one first fault
pub one_first_fault : (ports : List Port) (bytes : List ℕ) (a b : TraceFault) → IsFirstFault ports bytes a → IsFirstFault ports bytes b → a ≡ b
one_first_fault ports bytes (Heading f) (Heading g) h k = ap Heading (one_header_fault ports (header_of bytes) f g h.1 k.1)
one_first_fault ports bytes (Heading f) (RowNumber s) h k = absurd (header_good ports (header_of bytes) f h.1 k.0.limit.row.header)
one_first_fault ports bytes (Heading f) (NotHexadecimal s g) h k = absurd (header_good ports (header_of bytes) f h.1 k.0.count.limit.row.header)
one_first_fault ports bytes (Heading f) (TooWide s g) h k = absurd (header_good ports (header_of bytes) f h.1 k.0.count.limit.row.header)
one_first_fault ports bytes (Heading f) (FieldCount s d) h k = absurd (header_good ports (header_of bytes) f h.1 k.0.row.header)
one_first_fault ports bytes (Heading f) (TooManyRows s) h k = absurd (header_good ports (header_of bytes) f h.1 k.0.header)
one_first_fault ports bytes (RowNumber r) (Heading g) h k = absurd (header_good ports (header_of bytes) g k.1 h.0.limit.row.header)
one_first_fault ports bytes (RowNumber r) (RowNumber s) h k =
    let e = one_row ports bytes r s (at_row ports bytes (RowNumber r) h) (at_row ports bytes (RowNumber s) k) in
    ap RowNumber e
one_first_fault ports bytes (RowNumber r) (NotHexadecimal s g) h k =
    let e = one_row ports bytes r s (at_row ports bytes (RowNumber r) h) (at_row ports bytes (NotHexadecimal s g) k) in
    absurd (number_clash bytes r s e h.1.1 k.0.number)
one_first_fault ports bytes (RowNumber r) (TooWide s g) h k =
    let e = one_row ports bytes r s (at_row ports bytes (RowNumber r) h) (at_row ports bytes (TooWide s g) k) in
    absurd (number_clash bytes r s e h.1.1 k.0.number)
one_first_fault ports bytes (RowNumber r) (FieldCount s d) h k =
    let e = one_row ports bytes r s (at_row ports bytes (RowNumber r) h) (at_row ports bytes (FieldCount s d) k) in
    absurd (count_clash bytes s r d (sym e) k.1.1 k.1.2 h.0.count)
one_first_fault ports bytes (RowNumber r) (TooManyRows s) h k =
    let e = one_row ports bytes r s (at_row ports bytes (RowNumber r) h) (at_row ports bytes (TooManyRows s) k) in
    absurd (limit_clash s r (sym e) k.1.1 h.0.limit.limit)
one_first_fault ports bytes (NotHexadecimal r f) (Heading g) h k = absurd (header_good ports (header_of bytes) g k.1 h.0.count.limit.row.header)
one_first_fault ports bytes (NotHexadecimal r f) (RowNumber s) h k =
    let e = one_row ports bytes r s (at_row ports bytes (NotHexadecimal r f) h) (at_row ports bytes (RowNumber s) k) in
    absurd (number_clash bytes s r (sym e) k.1.1 h.0.number)
one_first_fault ports bytes (NotHexadecimal r f) (NotHexadecimal s g) h k =
    let e = one_row ports bytes r s (at_row ports bytes (NotHexadecimal r f) h) (at_row ports bytes (NotHexadecimal s g) k) in
    let same = one_field ports bytes r s f g e h.1.0.behind k.1.0.behind (bad_by_digits ports bytes r f h) (bad_by_digits ports bytes s g k) h.0 k.0 in
    cc
one_first_fault ports bytes (NotHexadecimal r f) (TooWide s g) h k =
    let e = one_row ports bytes r s (at_row ports bytes (NotHexadecimal r f) h) (at_row ports bytes (TooWide s g) k) in
    let same = one_field ports bytes r s f g e h.1.0.behind k.1.0.behind (bad_by_digits ports bytes r f h) (bad_by_width ports bytes s g k) h.0 k.0 in
    absurd (digits_clash bytes r s f g e same h.1.1 k.1.1.digits)
one_first_fault ports bytes (NotHexadecimal r f) (FieldCount s d) h k =
    let e = one_row ports bytes r s (at_row ports bytes (NotHexadecimal r f) h) (at_row ports bytes (FieldCount s d) k) in
    absurd (count_clash bytes s r d (sym e) k.1.1 k.1.2 h.0.count.count)
one_first_fault ports bytes (NotHexadecimal r f) (TooManyRows s) h k =
    let e = one_row ports bytes r s (at_row ports bytes (NotHexadecimal r f) h) (at_row ports bytes (TooManyRows s) k) in
    absurd (limit_clash s r (sym e) k.1.1 h.0.count.limit.limit)
one_first_fault ports bytes (TooWide r f) (Heading g) h k = absurd (header_good ports (header_of bytes) g k.1 h.0.count.limit.row.header)
one_first_fault ports bytes (TooWide r f) (RowNumber s) h k =
    let e = one_row ports bytes r s (at_row ports bytes (TooWide r f) h) (at_row ports bytes (RowNumber s) k) in
    absurd (number_clash bytes s r (sym e) k.1.1 h.0.number)
one_first_fault ports bytes (TooWide r f) (NotHexadecimal s g) h k =
    let e = one_row ports bytes r s (at_row ports bytes (TooWide r f) h) (at_row ports bytes (NotHexadecimal s g) k) in
    let same = one_field ports bytes r s f g e h.1.0.behind k.1.0.behind (bad_by_width ports bytes r f h) (bad_by_digits ports bytes s g k) h.0 k.0 in
    absurd (digits_clash bytes s r g f (sym e) (sym same) k.1.1 h.1.1.digits)
one_first_fault ports bytes (TooWide r f) (TooWide s g) h k =
    let e = one_row ports bytes r s (at_row ports bytes (TooWide r f) h) (at_row ports bytes (TooWide s g) k) in
    let same = one_field ports bytes r s f g e h.1.0.behind k.1.0.behind (bad_by_width ports bytes r f h) (bad_by_width ports bytes s g k) h.0 k.0 in
    cc
one_first_fault ports bytes (TooWide r f) (FieldCount s d) h k =
    let e = one_row ports bytes r s (at_row ports bytes (TooWide r f) h) (at_row ports bytes (FieldCount s d) k) in
    absurd (count_clash bytes s r d (sym e) k.1.1 k.1.2 h.0.count.count)
one_first_fault ports bytes (TooWide r f) (TooManyRows s) h k =
    let e = one_row ports bytes r s (at_row ports bytes (TooWide r f) h) (at_row ports bytes (TooManyRows s) k) in
    absurd (limit_clash s r (sym e) k.1.1 h.0.count.limit.limit)
one_first_fault ports bytes (FieldCount r c) (Heading g) h k = absurd (header_good ports (header_of bytes) g k.1 h.0.row.header)
one_first_fault ports bytes (FieldCount r c) (RowNumber s) h k =
    let e = one_row ports bytes r s (at_row ports bytes (FieldCount r c) h) (at_row ports bytes (RowNumber s) k) in
    absurd (count_clash bytes r s c e h.1.1 h.1.2 k.0.count)
one_first_fault ports bytes (FieldCount r c) (NotHexadecimal s g) h k =
    let e = one_row ports bytes r s (at_row ports bytes (FieldCount r c) h) (at_row ports bytes (NotHexadecimal s g) k) in
    absurd (count_clash bytes r s c e h.1.1 h.1.2 k.0.count.count)
one_first_fault ports bytes (FieldCount r c) (TooWide s g) h k =
    let e = one_row ports bytes r s (at_row ports bytes (FieldCount r c) h) (at_row ports bytes (TooWide s g) k) in
    absurd (count_clash bytes r s c e h.1.1 h.1.2 k.0.count.count)
one_first_fault ports bytes (FieldCount r c) (FieldCount s d) h k =
    let e = one_row ports bytes r s (at_row ports bytes (FieldCount r c) h) (at_row ports bytes (FieldCount s d) k) in
    let same = sym h.1.1 ∙ ap (λ q. length (row_at bytes q)) e ∙ k.1.1 in
    cc
one_first_fault ports bytes (FieldCount r c) (TooManyRows s) h k =
    let e = one_row ports bytes r s (at_row ports bytes (FieldCount r c) h) (at_row ports bytes (TooManyRows s) k) in
    absurd (limit_clash s r (sym e) k.1.1 h.0.limit)
one_first_fault ports bytes (TooManyRows r) (Heading g) h k = absurd (header_good ports (header_of bytes) g k.1 h.0.header)
one_first_fault ports bytes (TooManyRows r) (RowNumber s) h k =
    let e = one_row ports bytes r s (at_row ports bytes (TooManyRows r) h) (at_row ports bytes (RowNumber s) k) in
    absurd (limit_clash r s e h.1.1 k.0.limit.limit)
one_first_fault ports bytes (TooManyRows r) (NotHexadecimal s g) h k =
    let e = one_row ports bytes r s (at_row ports bytes (TooManyRows r) h) (at_row ports bytes (NotHexadecimal s g) k) in
    absurd (limit_clash r s e h.1.1 k.0.count.limit.limit)
one_first_fault ports bytes (TooManyRows r) (TooWide s g) h k =
    let e = one_row ports bytes r s (at_row ports bytes (TooManyRows r) h) (at_row ports bytes (TooWide s g) k) in
    absurd (limit_clash r s e h.1.1 k.0.count.limit.limit)
one_first_fault ports bytes (TooManyRows r) (FieldCount s d) h k =
    let e = one_row ports bytes r s (at_row ports bytes (TooManyRows r) h) (at_row ports bytes (FieldCount s d) k) in
    absurd (limit_clash r s e h.1.1 k.0.limit)
one_first_fault ports bytes (TooManyRows r) (TooManyRows s) h k =
    let e = one_row ports bytes r s (at_row ports bytes (TooManyRows r) h) (at_row ports bytes (TooManyRows s) k) in
    ap TooManyRows e
one_first_fault ports bytes NoMemory b h k = absurd h.1
one_first_fault ports bytes (Heading f) NoMemory h k = absurd k.1
one_first_fault ports bytes (RowNumber r) NoMemory h k = absurd k.1
one_first_fault ports bytes (NotHexadecimal r f) NoMemory h k = absurd k.1
one_first_fault ports bytes (TooWide r f) NoMemory h k = absurd k.1
one_first_fault ports bytes (FieldCount r c) NoMemory h k = absurd k.1
one_first_fault ports bytes (TooManyRows r) NoMemory h k = absurd k.1

-- a text with columns has none of the faults
pub columns_have_no_fault :
    (ports : List Port) (bytes : List ℕ) (n : ℕ) (columns : List (List ℕ)) (fault : TraceFault) → Columns ports bytes n columns → HasFault ports bytes fault → ⊥
columns_have_no_fault ports bytes n columns (Heading f) good h = header_good ports (header_of bytes) f h good.header
columns_have_no_fault ports bytes n columns (RowNumber r) good h = h.1 ((good.rows r (omega (arith, h.0, good.count))).number)
columns_have_no_fault ports bytes n columns (NotHexadecimal r f) good h =
    bad_digits ports bytes r f good.header h.0 h.1
    ((good.rows r (omega (arith, h.0.row, good.count))).values f h.0.behind h.0.within)
columns_have_no_fault ports bytes n columns (TooWide r f) good h =
    bad_width ports bytes r f h.1
    ((good.rows r (omega (arith, h.0.row, good.count))).values f h.0.behind h.0.within)
columns_have_no_fault ports bytes n columns (FieldCount r c) good h = h.2 (sym h.1 ∙ (good.rows r (omega (arith, h.0, good.count))).count)
columns_have_no_fault ports bytes n columns (TooManyRows r) good h = omega (arith, (good.rows r (omega (arith, h.0, good.count))).limit, h.1)
columns_have_no_fault ports bytes n columns NoMemory good h = h

-- the value of a port in a row is the number in the port's field
value_of_port : (ports : List Port) (bytes : List ℕ) (n : ℕ) (columns : List (List ℕ)) (i r : ℕ) (good : Columns ports bytes n columns) → (h : i < length ports) → r < n
    → get_or (get_or columns i []) r 0 ≡ hexadecimal (field (row_at bytes r) (good.header.all i h).at)
value_of_port ports bytes n columns i r good h k =
    let listed = good.header.all i h in
    good.values r listed.at i k listed.behind listed.within (record { within = h; is = sym listed.is })

-- each value fits its port's width
pub columns_have_widths : (ports : List Port) (bytes : List ℕ) (n : ℕ) (columns : List (List ℕ)) → Columns ports bytes n columns → HaveWidths ports n columns
columns_have_widths ports bytes n columns good = record { fits = fits }
  where
    fits : (i r : ℕ) → i < length ports → r < n → get_or (get_or columns i []) r 0 < 2 ^ width_at ports i
    fits i r h k =
        let listed = good.header.all i h in
        let cell = ((good.rows r k).values listed.at listed.behind listed.within).value i (record { within = h; is = sym listed.is }) in
        subst (λ v. v < 2 ^ width_at ports i) (sym (value_of_port ports bytes n columns i r good h k)) cell.fits

-- a text has only one count of rows, and only one list of columns
pub one_count : (ports : List Port) (bytes : List ℕ) (m n : ℕ) (xs ys : List (List ℕ)) → Columns ports bytes m xs → Columns ports bytes n ys → m ≡ n
one_count ports bytes m n xs ys p q = sym p.count ∙ q.count

pub one_columns : (ports : List Port) (bytes : List ℕ) (m n : ℕ) (xs ys : List (List ℕ)) → Columns ports bytes m xs → Columns ports bytes n ys → xs ≡ ys
one_columns ports bytes m n xs ys p q = ext_get_or [] xs ys (p.width ∙ sym q.width) column
  where
    count : m ≡ n
    count = one_count ports bytes m n xs ys p q

    column : (i : ℕ) → i < length xs → get_or xs i [] ≡ get_or ys i []
    column i inside =
        let h : i < length ports = omega (arith, p.width) in
        ext_get_or 0 (get_or xs i []) (get_or ys i []) (p.height i h ∙ count ∙ sym (q.height i h))
        (λ r before. value_of_port ports bytes m xs i r p h (omega (arith, p.height i h))
        ∙ sym (q.values r (p.header.all i h).at i (omega (arith, p.height i h, count)) (p.header.all i h).behind (p.header.all i h).within (record { within = h; is = sym (p.header.all i h).is })))

-- an answer is the first fault, or `NoMemory`
pub first_or_memory : (ports : List Port) (bytes : List ℕ) (given first : TraceFault) → IfFirstFault ports bytes given → IsFirstFault ports bytes first → (given ≡ first) ⊎ (given ≡ NoMemory)
first_or_memory ports bytes (Heading f) first h k = inl (one_first_fault ports bytes (Heading f) first h k)
first_or_memory ports bytes (RowNumber r) first h k = inl (one_first_fault ports bytes (RowNumber r) first h k)
first_or_memory ports bytes (NotHexadecimal r f) first h k = inl (one_first_fault ports bytes (NotHexadecimal r f) first h k)
first_or_memory ports bytes (TooWide r f) first h k = inl (one_first_fault ports bytes (TooWide r f) first h k)
first_or_memory ports bytes (FieldCount r c) first h k = inl (one_first_fault ports bytes (FieldCount r c) first h k)
first_or_memory ports bytes (TooManyRows r) first h k = inl (one_first_fault ports bytes (TooManyRows r) first h k)
first_or_memory ports bytes NoMemory first h k = inr refl

pub columns_or_memory : (ports : List Port) (bytes : List ℕ) (n : ℕ) (columns : List (List ℕ)) (given : TraceFault) → Columns ports bytes n columns → IfFirstFault ports bytes given → given ≡ NoMemory
columns_or_memory ports bytes n columns (Heading f) good h = absurd (columns_have_no_fault ports bytes n columns (Heading f) good h.1)
columns_or_memory ports bytes n columns (RowNumber r) good h = absurd (columns_have_no_fault ports bytes n columns (RowNumber r) good h.1)
columns_or_memory ports bytes n columns (NotHexadecimal r f) good h = absurd (columns_have_no_fault ports bytes n columns (NotHexadecimal r f) good h.1)
columns_or_memory ports bytes n columns (TooWide r f) good h = absurd (columns_have_no_fault ports bytes n columns (TooWide r f) good h.1)
columns_or_memory ports bytes n columns (FieldCount r c) good h = absurd (columns_have_no_fault ports bytes n columns (FieldCount r c) good h.1)
columns_or_memory ports bytes n columns (TooManyRows r) good h = absurd (columns_have_no_fault ports bytes n columns (TooManyRows r) good h.1)
columns_or_memory ports bytes n columns NoMemory good h = refl
