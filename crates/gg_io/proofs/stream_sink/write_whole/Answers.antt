use Rattle.std.proofs.Common.{◌≡◌, ℕ, ◌+◌, ◌-◌, ◌≤◌, List, Option, ◌++◌, length, take, drop, arith, subst}
use Rattle.std.proofs.lemmas.Grind.{common_steps}
use Rattle.std.proofs.lemmas.List.{take-append-drop, take-take, drop-take}
use Rattle.std.proofs.KnownBytes.{Appends-trans}
use Rattle.std.specs.Io.KnownBytes.{Appends}
use Rattle.gg_io.proofs.stream_sink.write_whole.Goals as goal

-- the first m elements and the next n are the first m + n
take-add : (m n : ℕ) (xs : List ℕ) → take m xs ++ take n (drop m xs) ≡ take (m + n) xs
take-add m n xs =
    let within : m ≤ m + n = omega arith in
    rw (← take-take m (m + n) xs within, ← drop-take m n xs) (take-append-drop m (take (m + n) xs))

-- if there are n elements among those after the first m, n is at most the length less m
past_within : (m n : ℕ) (xs : List ℕ) → m ≤ length xs → n ≤ length (take (length xs - m) (drop m xs)) → n ≤ length xs - m
past_within m n xs h k = grind (arith, common_steps)

-- a stream that took the first m bytes, and then n of the rest, took the first m + n
took_more : (a b c : Option (List ℕ)) (m n : ℕ) (xs : List ℕ) → n ≤ length xs - m → Appends a b (take m xs)
    → Appends b c (take n (take (length xs - m) (drop m xs))) → Appends a c (take (m + n) xs)
took_more a b c m n xs h first second =
    subst (Appends a c) (take-add m n xs) (Appends-trans a b c _ _ first (rw (take-take n (length xs - m) (drop m xs) h) at second))

-- the bytes that this write took come after those written before
pub loop-done-preserved : goal.loop-done-preserved
loop-done-preserved g c =
    let before = c.loop-done.invariant in
    let within = past_within c.loop-done.done c.in-Ok.n c.args.bytes.now before.in_range c.in-Ok.ensures.bound in
    record {
      in_range = omega arith;
      written = took_more _ _ _ _ c.in-Ok.n c.args.bytes.now within before.written c.in-Ok.ensures.bytes;
    }
