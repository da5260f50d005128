-- The definitions of a trace at small texts, and at their near misses. Bytes that aren't printable characters are given by their
-- numbers: 9 is a tab, 10 a line feed, 13 a carriage return, 32 a space.
use Rattle.std.proofs.Common.{◌≡◌, ◌≢◌, ℕ, zero, suc, ◌+◌, ◌<◌, ◌^◌, ◌*◌, List, [], ◌∷◌, ◌++◌, true, false, length, get_or, codes, decimal, inr, refl, sym, ap, ◌∙◌, subst, arith, lit≤}
use Rattle.std.specs.Char.{digit_value}
use Rattle.std.proofs.lemmas.Fmt.{decimal_digit}
use Rattle.gg_bits.specs.declared.types.Kind.TheVariants.{UInt, SInt}
use Rattle.gg_flat.specs.declared.ports.Port.{Port}
use Rattle.gg_trace.specs.declared.faults.TraceFault.TheVariants.{Heading, RowNumber, NotHexadecimal, TooWide, FieldCount}
use Rattle.gg_trace.specs.Cells.{IsHexadecimal, hexadecimal, IsCell}
use Rattle.gg_trace.specs.Fields.{fields, fields_of_text, text_lines}
use Rattle.gg_trace.specs.Ports.{IsNamed, width_at}
use Rattle.gg_trace.specs.Header.{field, IsHeader, IsListed, MayStand}
use Rattle.gg_trace.specs.Trace.{row_at, IsRow, IsValueField, Columns, IsFirstFault}
use Rattle.gg_trace.specs.Printing.{trace_text}
use Rattle.gg_flat.specs.Clock.{Ratio}
use Rattle.gg_trace.specs.Last.{acts, halts, has_halted, row_count}

-- A line ends with LF or CR LF, the last with the text too; a CR that no LF follows is part of its line.
lines_of_both_ends : text_lines (97 ∷ 13 ∷ 10 ∷ 98 ∷ 10 ∷ 99 ∷ []) ≡ codes "a" ∷ codes "b" ∷ codes "c" ∷ []
unfolding text_lines
lines_of_both_ends = refl

last_return_stays : text_lines (97 ∷ 13 ∷ 10 ∷ 98 ∷ 13 ∷ []) ≡ codes "a" ∷ (98 ∷ 13 ∷ []) ∷ []
unfolding text_lines
last_return_stays = refl

one_return_goes : text_lines (97 ∷ 13 ∷ 13 ∷ 10 ∷ []) ≡ (97 ∷ 13 ∷ []) ∷ []
unfolding text_lines
one_return_goes = refl

return_within_stays : text_lines (97 ∷ 13 ∷ 98 ∷ 10 ∷ []) ≡ (97 ∷ 13 ∷ 98 ∷ []) ∷ []
unfolding text_lines
return_within_stays = refl

-- an empty line between two line ends counts; what follows the last line end doesn't count if it is empty
empty_last_piece : text_lines (97 ∷ 10 ∷ 10 ∷ []) ≡ codes "a" ∷ [] ∷ []
unfolding text_lines
empty_last_piece = refl

only_a_line_end : text_lines (10 ∷ []) ≡ [] ∷ []
unfolding text_lines
only_a_line_end = refl

no_line : text_lines [] ≡ []
unfolding text_lines
no_line = refl

-- A run of spaces and tabs parts two fields. A run at an end has an empty field beside it. An empty line has no field.
two_blanks : fields (codes "a  b") ≡ codes "a" ∷ codes "b" ∷ []
unfolding fields fields_of_text
two_blanks = refl

blank_and_tab : fields (97 ∷ 9 ∷ 32 ∷ 98 ∷ 9 ∷ 99 ∷ []) ≡ codes "a" ∷ codes "b" ∷ codes "c" ∷ []
unfolding fields fields_of_text
blank_and_tab = refl

leading_blank : fields (codes "  a") ≡ [] ∷ codes "a" ∷ []
unfolding fields fields_of_text
leading_blank = refl

last_blank : fields (codes "a ") ≡ codes "a" ∷ [] ∷ []
unfolding fields fields_of_text
last_blank = refl

blanks_alone : fields (32 ∷ 9 ∷ 32 ∷ []) ≡ [] ∷ [] ∷ []
unfolding fields fields_of_text
blanks_alone = refl

no_field : fields [] ≡ []
unfolding fields
no_field = refl

-- the port `x` of eight bits, the port `y` of four, signed, and a port with the name `cycle`, with which a header begins
abbrev x : Port
x = record { name = codes "x"; ty = record { kind = UInt; width = 8; positive = lit≤ tt; bounded = lit≤ tt } }

abbrev y : Port
y = record { name = codes "y"; ty = record { kind = SInt; width = 4; positive = lit≤ tt; bounded = lit≤ tt } }

abbrev cycle_port : Port
cycle_port = record { name = codes "cycle"; ty = record { kind = UInt; width = 1; positive = lit≤ tt; bounded = lit≤ tt } }

other_text : (one other : List ℕ) → get_or one 0 0 ≢ get_or other 0 0 → one ≢ other
other_text one other h e = h (ap (λ t. get_or t 0 0) e)

-- `cycle x` is a header of the one port x
header_x : IsHeader (x ∷ []) (codes "cycle" ∷ codes "x" ∷ [])
header_x = record { begins = lit≤ tt; each = each; all = all }
  where
    each : (f : ℕ) → f < 2 → MayStand (x ∷ []) (codes "cycle" ∷ codes "x" ∷ []) f
    each zero h = refl
    each (suc zero) h = record { port = 0; is = record { within = lit≤ tt; is = refl }; new = λ g some before. absurd (omega arith) }
    each (suc (suc f)) h = absurd (omega arith)

    all : (i : ℕ) → i < 1 → IsListed (x ∷ []) (codes "cycle" ∷ codes "x" ∷ []) i
    all zero h = record { at = 1; behind = lit≤ tt; within = lit≤ tt; is = refl }
    all (suc i) h = absurd (omega arith)

-- a port may be called `cycle`: the first field of a header isn't one of the names
header_cycle : IsHeader (cycle_port ∷ []) (codes "cycle" ∷ codes "cycle" ∷ [])
header_cycle = record { begins = lit≤ tt; each = each; all = all }
  where
    each : (f : ℕ) → f < 2 → MayStand (cycle_port ∷ []) (codes "cycle" ∷ codes "cycle" ∷ []) f
    each zero h = refl
    each (suc zero) h = record { port = 0; is = record { within = lit≤ tt; is = refl }; new = λ g some before. absurd (omega arith) }
    each (suc (suc f)) h = absurd (omega arith)

    all : (i : ℕ) → i < 1 → IsListed (cycle_port ∷ []) (codes "cycle" ∷ codes "cycle" ∷ []) i
    all zero h = record { at = 1; behind = lit≤ tt; within = lit≤ tt; is = refl }
    all (suc i) h = absurd (omega arith)

-- so a header that is `cycle` alone leaves out this port's name
not_header_cycle : IsHeader (cycle_port ∷ []) (codes "cycle" ∷ []) → ⊥
not_header_cycle h = let listed = h.all 0 (lit≤ tt) in omega (arith, listed.behind, listed.within)

-- `cycle y x` is a header of the ports x and y
header_y_x : IsHeader (x ∷ y ∷ []) (codes "cycle" ∷ codes "y" ∷ codes "x" ∷ [])
header_y_x = record { begins = lit≤ tt; each = each; all = all }
  where
    each : (f : ℕ) → f < 3 → MayStand (x ∷ y ∷ []) (codes "cycle" ∷ codes "y" ∷ codes "x" ∷ []) f
    each zero h = refl
    each (suc zero) h = record { port = 1; is = record { within = lit≤ tt; is = refl }; new = λ g some before. absurd (omega arith) }
    each (suc (suc zero)) h = record { port = 0; is = record { within = lit≤ tt; is = refl }; new = new }
      where
        new : (g : ℕ) → 0 < g → g < 2 → field (codes "cycle" ∷ codes "y" ∷ codes "x" ∷ []) g ≢ codes "x"
        new zero some before = absurd (omega arith)
        new (suc zero) some before = other_text (codes "y") (codes "x") (λ e. omega (arith, e))
        new (suc (suc g)) some before = absurd (omega arith)
    each (suc (suc (suc f))) h = absurd (omega arith)

    all : (i : ℕ) → i < 2 → IsListed (x ∷ y ∷ []) (codes "cycle" ∷ codes "y" ∷ codes "x" ∷ []) i
    all zero h = record { at = 2; behind = lit≤ tt; within = lit≤ tt; is = refl }
    all (suc zero) h = record { at = 1; behind = lit≤ tt; within = lit≤ tt; is = refl }
    all (suc (suc i)) h = absurd (omega arith)

-- the numbers of the first two rows, in decimal
zero_is : decimal 0 ≡ codes "0"
zero_is = decimal_digit 0 (lit≤ tt)

one_is : decimal 1 ≡ codes "1"
one_is = decimal_digit 1 (lit≤ tt)

-- the columns of `x` and `y` in two rows
abbrev small_values : List (List ℕ)
small_values = (10 ∷ 255 ∷ []) ∷ (15 ∷ 0 ∷ []) ∷ []

-- the text of the output trace with these columns
printed : trace_text (x ∷ y ∷ []) small_values 2
    ≡ codes "cycle x y" ++ 10 ∷ codes "0 0a f" ++ 10 ∷ codes "1 ff 0" ++ 10 ∷ []
printed = rw (zero_is, one_is) refl

-- an input trace of two rows: the names in another order than the ports, upper case, and zeros at the front
abbrev small : List ℕ
small = codes "cycle y x" ++ 10 ∷ codes "0 f 0A" ++ 10 ∷ codes "1 00 fF" ++ 10 ∷ []

is_y : (i : ℕ) → IsNamed (x ∷ y ∷ []) (codes "y") i → 1 ≡ i
is_y zero named = absurd (other_text (codes "x") (codes "y") (λ e. omega (arith, e)) named.is)
is_y (suc zero) named = refl
is_y (suc (suc i)) named = absurd (omega (arith, named.within))

is_x : (i : ℕ) → IsNamed (x ∷ y ∷ []) (codes "x") i → 0 ≡ i
is_x zero named = refl
is_x (suc zero) named = absurd (other_text (codes "y") (codes "x") (λ e. omega (arith, e)) named.is)
is_x (suc (suc i)) named = absurd (omega (arith, named.within))

digit : (width c : ℕ) → digit_value c < 16 → digit_value c < 2 ^ width → IsCell width (c ∷ [])
unfolding IsHexadecimal hexadecimal
digit width c small fits = record { digits = (lit≤ tt, (small, tt)); fits = subst (λ n. n < 2 ^ width) e fits }
  where
    e : digit_value c ≡ 0 * 16 + digit_value c
    e = omega arith

two_digits : (width b c : ℕ) → digit_value b < 16 → digit_value c < 16 → digit_value b * 16 + digit_value c < 2 ^ width → IsCell width (b ∷ c ∷ [])
unfolding IsHexadecimal hexadecimal
two_digits width b c high low fits = record { digits = (lit≤ tt, (high, (low, tt))); fits = subst (λ n. n < 2 ^ width) e fits }
  where
    e : digit_value b * 16 + digit_value c ≡ (0 * 16 + digit_value b) * 16 + digit_value c
    e = omega arith

small_columns : Columns (x ∷ y ∷ []) small 2 small_values
unfolding fields fields_of_text text_lines hexadecimal
small_columns = record { header = header_y_x; count = refl; rows = rows; width = refl; height = height; values = values }
  where
    first : (f : ℕ) → 0 < f → f < 3 → IsValueField (x ∷ y ∷ []) (codes "cycle" ∷ codes "y" ∷ codes "x" ∷ []) (codes "0" ∷ codes "f" ∷ codes "0A" ∷ []) f
    first zero some within = absurd (omega arith)
    first (suc zero) some within = record { value = λ i named. subst (λ p. IsCell (width_at (x ∷ y ∷ []) p) (codes "f")) (is_y i named) (digit 4 102 (lit≤ tt) (lit≤ tt)) }
    first (suc (suc zero)) some within = record { value = λ i named. subst (λ p. IsCell (width_at (x ∷ y ∷ []) p) (codes "0A")) (is_x i named) (two_digits 8 48 65 (lit≤ tt) (lit≤ tt) (lit≤ tt)) }
    first (suc (suc (suc f))) some within = absurd (omega arith)

    second : (f : ℕ) → 0 < f → f < 3 → IsValueField (x ∷ y ∷ []) (codes "cycle" ∷ codes "y" ∷ codes "x" ∷ []) (codes "1" ∷ codes "00" ∷ codes "fF" ∷ []) f
    second zero some within = absurd (omega arith)
    second (suc zero) some within = record { value = λ i named. subst (λ p. IsCell (width_at (x ∷ y ∷ []) p) (codes "00")) (is_y i named) (two_digits 4 48 48 (lit≤ tt) (lit≤ tt) (lit≤ tt)) }
    second (suc (suc zero)) some within = record { value = λ i named. subst (λ p. IsCell (width_at (x ∷ y ∷ []) p) (codes "fF")) (is_x i named) (two_digits 8 102 70 (lit≤ tt) (lit≤ tt) (lit≤ tt)) }
    second (suc (suc (suc f))) some within = absurd (omega arith)

    rows : (r : ℕ) → r < 2 → IsRow (x ∷ y ∷ []) (codes "cycle" ∷ codes "y" ∷ codes "x" ∷ []) r (row_at small r)
    rows zero h = record { limit = lit≤ tt; count = refl; number = sym zero_is; values = first }
    rows (suc zero) h = record { limit = lit≤ tt; count = refl; number = sym one_is; values = second }
    rows (suc (suc r)) h = absurd (omega arith)

    height : (i : ℕ) → i < 2 → length (get_or small_values i []) ≡ 2
    height zero h = refl
    height (suc zero) h = refl
    height (suc (suc i)) h = absurd (omega arith)

    values : (r f i : ℕ) → r < 2 → 0 < f → f < 3 → IsNamed (x ∷ y ∷ []) (field (codes "cycle" ∷ codes "y" ∷ codes "x" ∷ []) f) i
        → get_or (get_or small_values i []) r 0 ≡ hexadecimal (field (row_at small r) f)
    values r zero i h some within named = absurd (omega arith)
    values r (suc (suc (suc f))) i h some within named = absurd (omega arith)
    values zero (suc zero) i h some within named = subst (λ p. get_or (get_or small_values p []) 0 0 ≡ 15) (is_y i named) refl
    values zero (suc (suc zero)) i h some within named = subst (λ p. get_or (get_or small_values p []) 0 0 ≡ 10) (is_x i named) refl
    values (suc zero) (suc zero) i h some within named = subst (λ p. get_or (get_or small_values p []) 1 0 ≡ 0) (is_y i named) refl
    values (suc zero) (suc (suc zero)) i h some within named = subst (λ p. get_or (get_or small_values p []) 1 0 ≡ 255) (is_x i named) refl
    values (suc (suc r)) (suc f) i h some within named = absurd (omega arith)

-- For the port `x`: a header that leaves out its name, and under the header `cycle x` one row 0 for each fault of a row.
missing_name : IsFirstFault (x ∷ []) (codes "cycle" ++ 10 ∷ []) (Heading 1)
unfolding fields fields_of_text text_lines
missing_name = (tt, record { before = before; here = inr (refl, not_header) })
  where
    before : (g : ℕ) → g < 1 → MayStand (x ∷ []) (codes "cycle" ∷ []) g
    before zero h = refl
    before (suc g) h = absurd (omega arith)

    not_header : IsHeader (x ∷ []) (codes "cycle" ∷ []) → ⊥
    not_header h = let listed = h.all 0 (lit≤ tt) in omega (arith, listed.behind, listed.within)

abbrev one_row : List ℕ → List ℕ
one_row row = codes "cycle x" ++ 10 ∷ row ++ 10 ∷ []

wrong_number : IsFirstFault (x ∷ []) (one_row (codes "1 0")) (RowNumber 0)
unfolding fields fields_of_text text_lines
wrong_number = (
  record { limit = record { row = record { header = header_x; before = λ q h. absurd (omega arith) }; limit = lit≤ tt }; count = refl },
  (lit≤ tt, λ e. other_text (codes "1") (codes "0") (λ h. omega (arith, h)) (e ∙ zero_is)),
)

not_digits : IsFirstFault (x ∷ []) (one_row (codes "0 g")) (NotHexadecimal 0 1)
unfolding fields fields_of_text text_lines IsHexadecimal
not_digits = (
  record {
    count = record { limit = record { row = record { header = header_x; before = λ q h. absurd (omega arith) }; limit = lit≤ tt }; count = refl };
    number = sym zero_is;
    before = λ g some h. absurd (omega arith);
  },
  (record { row = lit≤ tt; behind = lit≤ tt; within = lit≤ tt }, λ h. omega (arith, h.1.0)),
)

too_wide : IsFirstFault (x ∷ []) (one_row (codes "0 100")) (TooWide 0 1)
unfolding fields fields_of_text text_lines IsHexadecimal hexadecimal
too_wide = (
  record {
    count = record { limit = record { row = record { header = header_x; before = λ q h. absurd (omega arith) }; limit = lit≤ tt }; count = refl };
    number = sym zero_is;
    before = λ g some h. absurd (omega arith);
  },
  (
    record { row = lit≤ tt; behind = lit≤ tt; within = lit≤ tt },
    record { port = 0; named = record { within = lit≤ tt; is = refl }; digits = (lit≤ tt, (lit≤ tt, (lit≤ tt, (lit≤ tt, tt)))); wide = lit≤ tt },
  ),
)

too_many_fields : IsFirstFault (x ∷ []) (one_row (codes "0 0 0")) (FieldCount 0 3)
unfolding fields fields_of_text text_lines
too_many_fields = (
  record { row = record { header = header_x; before = λ q h. absurd (omega arith) }; limit = lit≤ tt },
  (lit≤ tt, refl, λ e. omega (arith, e)),
)

-- ---- stops

-- a stop whose condition is 1 in cycle 2 ends a run of five cycles with three rows, also if it is 1 again later
stop_ends_with_its_row : row_count (halts [] ((0 ∷ 0 ∷ 1 ∷ 0 ∷ 1 ∷ []) ∷ [])) 5 ≡ 3
stop_ends_with_its_row = refl

-- the text has no row behind it, and isn't without its row
stop_is_no_row_later : row_count (halts [] ((0 ∷ 0 ∷ 1 ∷ 0 ∷ 1 ∷ []) ∷ [])) 5 ≢ 4
stop_is_no_row_later e = let said : 3 ≡ 4 = sym stop_ends_with_its_row ∙ e in omega (arith, said)

stop_is_no_row_earlier : row_count (halts [] ((0 ∷ 0 ∷ 1 ∷ 0 ∷ 1 ∷ []) ∷ [])) 5 ≢ 2
stop_is_no_row_earlier e = let said : 3 ≡ 2 = sym stop_ends_with_its_row ∙ e in omega (arith, said)

-- in the first cycle, in the last one, and in the one after the last
stop_at_once : row_count (halts [] ((1 ∷ 1 ∷ []) ∷ [])) 2 ≡ 1
stop_at_once = refl

stop_in_the_last_cycle : row_count (halts [] ((0 ∷ 1 ∷ []) ∷ [])) 2 ≡ 2
stop_in_the_last_cycle = refl

stop_behind_the_last_cycle : row_count (halts [] ((0 ∷ 0 ∷ 1 ∷ []) ∷ [])) 2 ≡ 2
stop_behind_the_last_cycle = refl

-- the earlier of two stops ends it, and two may act in one cycle
earlier_of_two_stops : row_count (halts [] ((0 ∷ 0 ∷ 1 ∷ []) ∷ (0 ∷ 1 ∷ 0 ∷ []) ∷ [])) 3 ≡ 2
earlier_of_two_stops = refl

two_stops_at_once : row_count (halts [] ((0 ∷ 1 ∷ 0 ∷ []) ∷ (0 ∷ 1 ∷ 0 ∷ []) ∷ [])) 3 ≡ 2
two_stops_at_once = refl

-- without stops, and without cycles
no_stops : row_count (halts [] []) 3 ≡ 3
no_stops = refl

no_cycles : row_count (halts [] ((1 ∷ []) ∷ [])) 0 ≡ 0
no_cycles = refl

-- whether it was halted is asked of the cycles before
not_halted_by_its_own_cycle : has_halted (halts [] ((0 ∷ 1 ∷ []) ∷ [])) 1 ≡ false
not_halted_by_its_own_cycle = refl

-- ---- stops with a clock

-- a clock with an edge in every second tick, from tick 1 on
abbrev half : Ratio
half = record { m = 1; d = 2 }

abbrev whole : Ratio
whole = record { m = 1; d = 1 }

-- A condition that is 1 from cycle 2 on: there is no edge in tick 2, and so the stop acts in tick 3.
stop_waits_for_an_edge : acts (half ∷ []) 2 (1 ∷ []) ≡ false
stop_waits_for_an_edge = refl

stop_acts_at_an_edge : acts (half ∷ []) 3 (1 ∷ []) ≡ true
stop_acts_at_an_edge = refl

stop_ends_at_an_edge : row_count (halts (half ∷ []) ((0 ∷ 0 ∷ 1 ∷ 1 ∷ []) ∷ [])) 4 ≡ 4
stop_ends_at_an_edge = refl

-- without ratios, or with an edge in each tick, the same conditions end it with three rows
stop_without_ratios : row_count (halts [] ((0 ∷ 0 ∷ 1 ∷ 1 ∷ []) ∷ [])) 4 ≡ 3
stop_without_ratios = refl

stop_at_each_edge : row_count (halts (whole ∷ []) ((0 ∷ 0 ∷ 1 ∷ 1 ∷ []) ∷ [])) 4 ≡ 3
stop_at_each_edge = refl

-- near misses: an edge is nothing without the condition, also if the condition was 1 in a tick before
edge_alone : acts (half ∷ []) 3 (0 ∷ []) ≡ false
edge_alone = refl

condition_of_a_tick_before : row_count (halts (half ∷ []) ((0 ∷ 0 ∷ 1 ∷ 0 ∷ 0 ∷ []) ∷ [])) 5 ≡ 5
condition_of_a_tick_before = refl

waiting_is_no_end : row_count (halts (half ∷ []) ((0 ∷ 0 ∷ 1 ∷ 1 ∷ []) ∷ [])) 4 ≢ 3
waiting_is_no_end e = let said : 4 ≡ 3 = sym stop_ends_at_an_edge ∙ e in omega (arith, said)

-- each stop goes by its own clock: in tick 2 only the second one may act
own_clock_has_no_edge : acts (half ∷ whole ∷ []) 2 (1 ∷ 0 ∷ []) ≡ false
own_clock_has_no_edge = refl

own_clock_has_an_edge : acts (half ∷ whole ∷ []) 2 (0 ∷ 1 ∷ []) ≡ true
own_clock_has_an_edge = refl
