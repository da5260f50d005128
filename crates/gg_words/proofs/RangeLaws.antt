-- The numbers of a command are in their ranges.
use Rattle.std.proofs.Common.{◌≡◌, ℕ, Bool, true, false, ◌&&◌, cond, List, length, Option, None, Some, Result, Ok, Err, refl, sym, subst, nat_lt, nat_le, arith, codes}
use Rattle.std.specs.Option.{option_map_or}
use Rattle.std.specs.Str.{all_ascii_digits, bytes_eq}
use Rattle.std.specs.Str.Parse.{digits_value}
use Rattle.std.proofs.lemmas.Bool.{and_parts, leb-true}
use Rattle.gg_bits.specs.Limits.{capacity_limit, cycle_limit}
use Rattle.clap.specs.Walk.{Row, Text, first_of}
use Rattle.clap.specs.Simple.{subcommand_of}
use Rattle.gg_words.specs.Line.{golden_app}
use Rattle.gg_words.specs.Meaning.{FoundSays, IsCommand, at_of, capacity_of, check_of, demo_of, is_set, replay_of, resume_of, run_of, save_of, seed_of, size_of, text_of, with_number, workers_of}
use Rattle.gg_words.specs.Number.{judged, number_of}
use Rattle.gg_words.specs.inside.Range.{AreInRange}
use Rattle.gg_words.specs.Range.{IsCapacity, IsWithin, greatest_seed, most_stages, most_workers}
use Rattle.gg_words.specs.declared.command.Cmd.{Cmd}
use Rattle.gg_words.specs.declared.command.Cmd.TheVariants.{Run, Replay, Check, Demo, Save, Resume}

ok-same : {X E : Type 0} (x y : X) → ◌≡◌ {A = Result X E} (Ok x) (Ok y) → x ≡ y
ok-same x y e = cc

-- a text that passes the test of a range is a number of it
within-by : (least most : ℕ) (front is : Bool) (v n : ℕ) (text : List ℕ) → (front && nat_le least v && nat_le v most) ≡ is
    → option_map_or (λ (m : ℕ). Ok m) (cond is (Some v) None) (Err text) ≡ Ok n → IsWithin least most n
within-by least most front true v n text e given =
    let outer = and_parts (front && nat_le least v) (nat_le v most) e in
    let inner = and_parts front (nat_le least v) outer.0 in
    subst (IsWithin least most) (ok-same v n given) (leb-true least v inner.1, leb-true v most outer.1)
within-by least most front false v n text e given = absurd (cc)

-- a number is in its range
judged-within : (least most : ℕ) (text : List ℕ) (n : ℕ) → judged least most text ≡ Ok n → IsWithin least most n
judged-within least most text n is =
    let v = digits_value 10 text in
    within-by least most (nat_lt 0 (length text) && all_ascii_digits text) (nat_lt 0 (length text) && all_ascii_digits text && nat_le least v && nat_le v most) v n text refl is

-- an option's number is in its range if the default is
number-within : (least most default : ℕ) → IsWithin least most default → (given : Option (List ℕ)) (n : ℕ) → number_of least most default given ≡ Ok n → IsWithin least most n
number-within least most default within None n is = subst (IsWithin least most) (ok-same default n is) within
number-within least most default within (Some text) n is = judged-within least most text n is

capacity-within : (rows : List Row) (k : ℕ) → capacity_of rows ≡ Ok k → IsCapacity k
capacity-within rows k is = number-within 1 capacity_limit 2 (omega arith, omega arith) (first_of (codes "capacity") rows) k is

workers-within : (rows : List Row) (w : ℕ) → workers_of rows ≡ Ok w → IsWithin 0 most_workers w
workers-within rows w is = number-within 0 most_workers 0 (omega arith, omega arith) (first_of (codes "workers") rows) w is

-- if a command depends on a number, the number was read, and the command is the one for this number
from-number : {P : Type 0} (r : Result ℕ Text) (next : ℕ → Result Cmd Text) (cmd : Cmd) → ((n : ℕ) → r ≡ Ok n → next n ≡ Ok cmd → P) → with_number r next ≡ Ok cmd → P
from-number (Ok n) next cmd then is = then n refl is
from-number (Err value) next cmd then is = absurd (cc)

module _ (rows : List Row) (cmd : Cmd) where
  run-within : run_of rows ≡ Ok cmd → AreInRange cmd
  run-within is =
      let made : ℕ → ℕ → Cmd =
      λ k w. Run (text_of (codes "circuit") rows) (text_of (codes "partition") rows) (text_of (codes "trace") rows) k w (is_set (codes "mono") rows) in
      from-number (capacity_of rows) (λ k. with_number (workers_of rows) (λ w. Ok (made k w))) cmd (λ k capacity.
      from-number (workers_of rows) (λ w. Ok (made k w)) cmd (λ w workers last.
      subst AreInRange (ok-same (made k w) cmd last) (capacity-within rows k capacity, workers-within rows w workers))) is

  replay-within : replay_of rows ≡ Ok cmd → AreInRange cmd
  replay-within is =
      let made : ℕ → Cmd =
      λ k. Replay (text_of (codes "circuit") rows) (text_of (codes "partition") rows) (text_of (codes "trace") rows) (text_of (codes "steps") rows) k in
      from-number (capacity_of rows) (λ k. Ok (made k)) cmd (λ k capacity last. subst AreInRange (ok-same (made k) cmd last) (capacity-within rows k capacity)) is

  check-within : check_of rows ≡ Ok cmd → AreInRange cmd
  check-within is =
      let made : ℕ → Cmd = λ k. Check (text_of (codes "circuit") rows) (text_of (codes "partition") rows) k in
      from-number (capacity_of rows) (λ k. Ok (made k)) cmd (λ k capacity last. subst AreInRange (ok-same (made k) cmd last) (capacity-within rows k capacity)) is

  demo-within : demo_of rows ≡ Ok cmd → AreInRange cmd
  demo-within is =
      from-number (seed_of rows) (λ s. with_number (size_of rows) (λ n. with_number (workers_of rows) (λ w. Ok (Demo s n w)))) cmd (λ s seed.
      from-number (size_of rows) (λ n. with_number (workers_of rows) (λ w. Ok (Demo s n w))) cmd (λ n size.
      from-number (workers_of rows) (λ w. Ok (Demo s n w)) cmd (λ w workers last.
      subst AreInRange (ok-same (Demo s n w) cmd last)
      (judged-within 0 greatest_seed (text_of (codes "seed") rows) s seed, judged-within 1 most_stages (text_of (codes "size") rows) n size, workers-within rows w workers)))) is

  save-within : save_of rows ≡ Ok cmd → AreInRange cmd
  save-within is =
      let made : ℕ → ℕ → ℕ → Cmd =
      λ a k w. Save (text_of (codes "circuit") rows) (text_of (codes "partition") rows) (text_of (codes "trace") rows) a k w in
      from-number (at_of rows) (λ a. with_number (capacity_of rows) (λ k. with_number (workers_of rows) (λ w. Ok (made a k w)))) cmd (λ a at.
      from-number (capacity_of rows) (λ k. with_number (workers_of rows) (λ w. Ok (made a k w))) cmd (λ k capacity.
      from-number (workers_of rows) (λ w. Ok (made a k w)) cmd (λ w workers last.
      subst AreInRange (ok-same (made a k w) cmd last)
      (judged-within 0 cycle_limit (text_of (codes "at") rows) a at, capacity-within rows k capacity, workers-within rows w workers)))) is

  resume-within : resume_of rows ≡ Ok cmd → AreInRange cmd
  resume-within is =
      let made : ℕ → ℕ → Cmd =
      λ k w. Resume (text_of (codes "circuit") rows) (text_of (codes "partition") rows) (text_of (codes "trace") rows) (text_of (codes "snap") rows) k w in
      from-number (capacity_of rows) (λ k. with_number (workers_of rows) (λ w. Ok (made k w))) cmd (λ k capacity.
      from-number (workers_of rows) (λ w. Ok (made k w)) cmd (λ w workers last.
      subst AreInRange (ok-same (made k w) cmd last) (capacity-within rows k capacity, workers-within rows w workers))) is

  said-within : (run replay check demo save resume : Bool)
      → cond run (Ok cmd ≡ run_of rows) (cond replay (Ok cmd ≡ replay_of rows) (cond check (Ok cmd ≡ check_of rows) (cond demo (Ok cmd ≡ demo_of rows)
      (cond save (Ok cmd ≡ save_of rows) (cond resume (Ok cmd ≡ resume_of rows) ⊥))))) → AreInRange cmd
  said-within true replay check demo save resume is = run-within (sym is)
  said-within false true check demo save resume is = replay-within (sym is)
  said-within false false true demo save resume is = check-within (sym is)
  said-within false false false true save resume is = demo-within (sym is)
  said-within false false false false true resume is = save-within (sym is)
  said-within false false false false false true is = resume-within (sym is)
  said-within false false false false false false is = absurd is

found-within : (found : Option (Text × List Row)) (cmd : Cmd) → FoundSays found (Ok cmd) → AreInRange cmd
found-within None cmd says = absurd says
found-within (Some found) cmd says =
    said-within found.1 cmd (bytes_eq found.0 (codes "run")) (bytes_eq found.0 (codes "replay")) (bytes_eq found.0 (codes "check")) (bytes_eq found.0 (codes "demo"))
    (bytes_eq found.0 (codes "save")) (bytes_eq found.0 (codes "resume")) says

pub command-within : (words : List Text) (cmd : Cmd) → IsCommand words cmd → AreInRange cmd
command-within words cmd is = found-within (subcommand_of golden_app words) cmd is.found
