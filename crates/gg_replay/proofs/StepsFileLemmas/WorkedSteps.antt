-- The definitions of a steps file and of causes at small texts, and at their near misses. Bytes that aren't printable characters
-- are given by their numbers: 9 is a tab, 10 a line feed, 11 a vertical tab, 13 a carriage return, 32 a space.
use Rattle.std.proofs.Common.{◌≡◌, ℕ, List, [], ◌∷◌, ◌++◌, None, Some, true, false, codes, length, refl, ap, lit≤, arith}
use Rattle.std.proofs.lemmas.Fmt.{decimal_digit}
use Rattle.gg_net.specs.declared.event.Event.TheVariants.{Latch, Fire, Serve, Finish}
use Rattle.gg_net.specs.declared.event.StepRefusal.TheVariants.{Stranger, NoToken, NeedsInput, Full, Order, Unfired, Unserved}
use Rattle.gg_trace.specs.Fields.{text_lines}
use Rattle.gg_replay.specs.steps_file.Naming.{Naming, first_place}
use Rattle.gg_replay.specs.steps_file.Words.{words}
use Rattle.gg_replay.specs.steps_file.Steps.{step_of, steps_of}
use Rattle.gg_replay.specs.steps_file.Cause.{cause_text}
use Rattle.gg_replay.specs.inside.Spelling.{AreUsable}
use Rattle.gg_replay.specs.steps_file.Spelling.{IsLengthened}

-- Two memories have a port `r`, at different places. Channel 2 and machine 3 have the name of an earlier one.
abbrev net : Naming
net =
    record {
      channels = codes "x" ∷ codes "u.y" ∷ codes "x" ∷ [];
      machines = codes "hub:" ∷ codes "m" ∷ codes "in:x" ∷ codes "m" ∷ codes "n" ∷ [];
      ports = [] ∷ (codes "r" ∷ codes "w" ∷ codes "r" ∷ []) ∷ [] ∷ (codes "s" ∷ []) ∷ (codes "s" ∷ codes "r" ∷ []) ∷ [];
    }

-- each form
latched : step_of net (codes "latch u.y") ≡ Some (Latch 1)
unfolding words
latched = refl

fired : step_of net (codes "fire u.y") ≡ Some (Fire 1)
unfolding words
fired = refl

served : step_of net (codes "serve m w") ≡ Some (Serve 1 1)
unfolding words
served = refl

finished : step_of net (codes "finish in:x") ≡ Some (Finish 2)
unfolding words
finished = refl

-- the first of equal names counts
first_channel : step_of net (codes "latch x") ≡ Some (Latch 0)
unfolding words
first_channel = refl

first_machine : step_of net (codes "finish m") ≡ Some (Finish 1)
unfolding words
first_machine = refl

first_port : step_of net (codes "serve m r") ≡ Some (Serve 1 0)
unfolding words
first_port = refl

-- a port is looked up in its machine
other_machine : step_of net (codes "serve n r") ≡ Some (Serve 4 1)
unfolding words
other_machine = refl

not_its_port : step_of net (codes "serve n w") ≡ None
unfolding words
not_its_port = refl

only_the_later_has_it : step_of net (codes "serve m s") ≡ None
unfolding words
only_the_later_has_it = refl

no_ports : step_of net (codes "serve hub: r") ≡ None
unfolding words
no_ports = refl

-- a name that isn't there, or that only something else has
no_channel : step_of net (codes "latch z") ≡ None
unfolding words
no_channel = refl

machine_is_no_channel : step_of net (codes "fire m") ≡ None
unfolding words
machine_is_no_channel = refl

channel_is_no_machine : step_of net (codes "finish x") ≡ None
unfolding words
channel_is_no_machine = refl

no_machine : step_of net (codes "serve z r") ≡ None
unfolding words
no_machine = refl

number_is_no_name : step_of net (codes "latch 1") ≡ None
unfolding words
number_is_no_name = refl

-- blanks: one between words, a space or a tab, and none at an end
tab_between : step_of net (codes "latch" ++ 9 ∷ codes "x") ≡ Some (Latch 0)
unfolding words
tab_between = refl

tab_and_space : step_of net (codes "serve" ++ 9 ∷ codes "m r") ≡ Some (Serve 1 0)
unfolding words
tab_and_space = refl

space_and_tab : step_of net (codes "serve m" ++ 9 ∷ codes "w") ≡ Some (Serve 1 1)
unfolding words
space_and_tab = refl

empty_line : step_of net [] ≡ None
unfolding words
empty_line = refl

blank_line : step_of net (32 ∷ []) ≡ None
unfolding words
blank_line = refl

blank_in_front : step_of net (codes " latch x") ≡ None
unfolding words
blank_in_front = refl

blank_behind : step_of net (codes "latch x ") ≡ None
unfolding words
blank_behind = refl

two_blanks : step_of net (codes "latch  x") ≡ None
unfolding words
two_blanks = refl

blank_for_a_name : step_of net (codes "latch ") ≡ None
unfolding words
blank_for_a_name = refl

two_blanks_later : step_of net (codes "serve m  w") ≡ None
unfolding words
two_blanks_later = refl

tab_line : step_of net (9 ∷ []) ≡ None
unfolding words
tab_line = refl

tab_in_front : step_of net (9 ∷ codes "latch x") ≡ None
unfolding words
tab_in_front = refl

tab_behind : step_of net (codes "latch x" ++ 9 ∷ []) ≡ None
unfolding words
tab_behind = refl

tab_then_space : step_of net (codes "latch" ++ 9 ∷ codes " x") ≡ None
unfolding words
tab_then_space = refl

two_tabs : step_of net (codes "latch" ++ 9 ∷ 9 ∷ codes "x") ≡ None
unfolding words
two_tabs = refl

vertical_tab_is_no_blank : step_of net (codes "latch" ++ 11 ∷ codes "x") ≡ None
unfolding words
vertical_tab_is_no_blank = refl

-- an empty name, which two blanks would give, is never named
nothing_is_no_name : first_place [] ([] ∷ []) ≡ None
nothing_is_no_name = refl

-- too few words, too many, and a word that is none of the four
one_word : step_of net (codes "latch") ≡ None
unfolding words
one_word = refl

one_word_more : step_of net (codes "latch x x") ≡ None
unfolding words
one_word_more = refl

finish_with_a_port : step_of net (codes "finish m w") ≡ None
unfolding words
finish_with_a_port = refl

serve_without_a_port : step_of net (codes "serve m") ≡ None
unfolding words
serve_without_a_port = refl

four_words : step_of net (codes "serve m w w") ≡ None
unfolding words
four_words = refl

other_word : step_of net (codes "take x") ≡ None
unfolding words
other_word = refl

capital : step_of net (codes "Latch x") ≡ None
unfolding words
capital = refl

-- a line that isn't UTF-8 (the byte 255 begins no character)
not_a_text : step_of net (codes "latch x" ++ 255 ∷ []) ≡ None
unfolding words
not_a_text = refl

-- files: line ends of both kinds, the last one left out or not, an empty line, and a carriage return that no line feed follows
both_line_ends : steps_of net (codes "latch x" ++ 13 ∷ 10 ∷ (codes "fire x" ++ 10 ∷ [])) ≡ Some (Latch 0) ∷ Some (Fire 0) ∷ []
unfolding words text_lines
both_line_ends = refl

without_the_last : steps_of net (codes "latch x" ++ 10 ∷ codes "fire x") ≡ Some (Latch 0) ∷ Some (Fire 0) ∷ []
unfolding words text_lines
without_the_last = refl

line_without_a_step : steps_of net (codes "latch x" ++ 10 ∷ 10 ∷ (codes "fire x" ++ 10 ∷ [])) ≡ Some (Latch 0) ∷ None ∷ Some (Fire 0) ∷ []
unfolding words text_lines
line_without_a_step = refl

return_at_the_end : steps_of net (codes "latch x" ++ 13 ∷ []) ≡ None ∷ []
unfolding words text_lines
return_at_the_end = refl

two_returns : steps_of net (codes "latch x" ++ 13 ∷ 13 ∷ 10 ∷ []) ≡ None ∷ []
unfolding words text_lines
two_returns = refl

no_lines : steps_of net [] ≡ []
unfolding words text_lines
no_lines = refl

only_a_line_end : steps_of net (10 ∷ []) ≡ None ∷ []
unfolding words text_lines
only_a_line_end = refl

-- causes
of_no_step : cause_text net None Stranger ≡ codes "Stranger"
of_no_step = refl

no_token : cause_text net (Some (Latch 1)) (NoToken 1) ≡ codes "NoToken u.y"
no_token = refl

needs : cause_text net (Some (Fire 0)) (NeedsInput 1) ≡ codes "NeedsInput u.y"
needs = refl

full : cause_text net (Some (Fire 1)) (Full 1 8) ≡ codes "Full u.y 8"
full = ap (λ digits. codes "Full u.y " ++ digits) (decimal_digit 8 (lit≤ tt))

due : cause_text net (Some (Serve 4 0)) (Order 1) ≡ codes "Order r"
due = refl

due_writer : cause_text net (Some (Serve 1 0)) (Order 1) ≡ codes "Order w"
due_writer = refl

none_due : cause_text net (Some (Serve 4 0)) (Order 2) ≡ codes "Order -"
none_due = refl

unfired : cause_text net (Some (Finish 1)) (Unfired 0) ≡ codes "Unfired x"
unfired = refl

unserved : cause_text net (Some (Finish 1)) (Unserved 1) ≡ codes "Unserved w"
unserved = refl

not_there : cause_text net (Some (Latch 7)) (NoToken 7) ≡ codes "NoToken "
not_there = refl

-- one more line: behind a line end, behind a line that lacks its end, as the first line
behind_an_end : IsLengthened (codes "latch x" ++ 10 ∷ []) (codes "fire x") (codes "latch x" ++ 10 ∷ codes "fire x")
unfolding text_lines
behind_an_end = record { added = codes "fire x"; whole = refl; few = omega arith; lines = refl }

behind_no_end : IsLengthened (codes "latch x") (codes "fire x") (codes "latch x" ++ 13 ∷ 10 ∷ codes "fire x")
unfolding text_lines
behind_no_end = record { added = 13 ∷ 10 ∷ codes "fire x"; whole = refl; few = omega arith; lines = refl }

first_line : IsLengthened [] (codes "fire x") (codes "fire x" ++ 10 ∷ [])
unfolding text_lines
first_line = record { added = codes "fire x" ++ 10 ∷ []; whole = refl; few = omega arith; lines = refl }

-- not without a line end between them, not two lines, and not with another line in front
no_end_between : IsLengthened (codes "latch x") (codes "fire x") (codes "latch xfire x") → ⊥
unfolding text_lines
no_end_between h = let e : 1 ≡ 2 = ap length h.lines in omega (arith, e)

two_lines : IsLengthened (codes "latch x") (codes "fire x") (codes "latch x" ++ 10 ∷ (codes "fire x" ++ 10 ∷ codes "fire x")) → ⊥
unfolding text_lines
two_lines h = let e : 3 ≡ 2 = ap length h.lines in omega (arith, e)

abbrev first_byte : List ℕ → ℕ
first_byte [] = 0
first_byte (b ∷ bytes) = b

line_in_front : IsLengthened (codes "latch x" ++ 10 ∷ []) (codes "fire x") (codes "fire x" ++ 10 ∷ codes "latch x") → ⊥
line_in_front h = let e : 102 ≡ 108 = ap first_byte h.whole in omega (arith, e)

-- names that can't be used: one that comes twice, one without bytes, one with a blank, one with a line feed
twice : AreUsable (codes "x" ∷ codes "x" ∷ []) → ⊥
twice h = h.differ 0 1 [] (omega arith) (omega arith) refl

no_bytes : AreUsable (codes "x" ∷ [] ∷ []) → ⊥
no_bytes h = omega (arith, h.some 1 [] (omega arith))

with_a_blank : AreUsable (codes "a b" ∷ []) → ⊥
with_a_blank h = let e : true ≡ false = h.plain 0 [] (omega arith) 1 (omega arith) in absurd (cc)

with_a_line_feed : AreUsable (codes "a\nb" ∷ []) → ⊥
with_a_line_feed h = h.inline 0 [] (omega arith) 1 (omega arith) refl
