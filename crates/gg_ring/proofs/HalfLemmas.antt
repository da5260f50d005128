-- A value is put together from its halves.
use Rattle.std.proofs.Common.{◌≡◌, ℕ, zero, suc, ◌+◌, ◌*◌, ◌<◌, ◌≤◌, List, [], ◌∷◌, get_or, slice_index, sym, ◌∙◌}
use Rattle.std.proofs.lemmas.Nat.{div-add-mod'}
use mathlib.Core.Option.{some, some-injective, some-ne-none}
use lib.ListN.{get_elem?}
use Rattle.gg_ring.specs.inside.Rule.{low, high, low_word, high_word, Laid}

pub joined-value : (x l h value : ℕ) → x ≡ h * 18446744073709551616 + l → l ≡ low value → h ≡ high value → x ≡ value
joined-value x l h value is lows highs = is ∙ rw (lows, highs) (div-add-mod' value 18446744073709551616)

-- the words of value k of a ring that is closed
pub laid_value : (words : List ℕ) (places head tail : ℕ) (st stream : List ℕ) (c k x : ℕ) → Laid words places st head tail → st ≡ stream → places ≡ c → head ≤ k → k < tail
    → x ≡ slice_index words (high_word c k) * 18446744073709551616 + slice_index words (low_word c k) → x ≡ slice_index stream k
laid_value words places head tail st stream c k x laid s e a b is =
    let lows : slice_index words (low_word c k) ≡ low (slice_index stream k) = rw (← e, ← s) (laid.lows k a b) in
    let highs : slice_index words (high_word c k) ≡ high (slice_index stream k) = rw (← e, ← s) (laid.highs k a b) in
    joined-value x (slice_index words (low_word c k)) (slice_index words (high_word c k)) (slice_index stream k) is lows highs

pub read_of : (l : List ℕ) (i a : ℕ) → get_elem? l i ≡ some a → get_or l i 0 ≡ a
read_of [] i a e = absurd (some-ne-none a (sym e))
read_of (x ∷ xs) zero a e = some-injective x a e
read_of (x ∷ xs) (suc i) a e = read_of xs i a e
