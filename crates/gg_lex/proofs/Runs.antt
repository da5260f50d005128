-- Runs of bytes of one class at the front of some bytes.
use Rattle.std.proofs.Common.{◌≡◌, ℕ, suc, ◌<◌, ◌≤◌, Bool, true, false, List, [], ◌∷◌, ◌++◌, length, get_or, take, ap, ◌∙◌, arith, length-take-le, get_or-take}
use Rattle.std.specs.List.{prefix_len, AllPass}
use Rattle.std.proofs.lemmas.List.Sums.{prefix_len_passes, prefix_len-le-length}

-- a byte of the class at the front makes the run longer by one; before a byte of another class the run is empty
pub prefix_len-pass : (p : ℕ → Bool) (x : ℕ) (xs : List ℕ) → p x ≡ true → prefix_len p (x ∷ xs) ≡ suc (prefix_len p xs)
prefix_len-pass p x xs passes = rw passes (omega arith)

pub prefix_len-fail : (p : ℕ → Bool) (x : ℕ) (xs : List ℕ) → p x ≡ false → prefix_len p (x ∷ xs) ≡ 0
prefix_len-fail p x xs fails = rw fails

pub AllPass-head : (p : ℕ → Bool) (x : ℕ) (xs : List ℕ) → AllPass p (x ∷ xs) → p x ≡ true
AllPass-head p x xs all = all 0 x (omega arith)

pub AllPass-tail : (p : ℕ → Bool) (x : ℕ) (xs : List ℕ) → AllPass p (x ∷ xs) → AllPass p xs
AllPass-tail p x xs all k d lt = all (suc k) d (omega arith)

-- bytes of the class at the front are no more than the run
pub length-le-prefix_len : (p : ℕ → Bool) (xs ys : List ℕ) → AllPass p xs → length xs ≤ prefix_len p (xs ++ ys)
length-le-prefix_len p [] ys all = omega arith
length-le-prefix_len p (x ∷ xs) ys all =
    omega (arith, prefix_len-pass p x (xs ++ ys) (AllPass-head p x xs all), length-le-prefix_len p xs ys (AllPass-tail p x xs all))

get_or-take_at : (p : ℕ → Bool) (n : ℕ) (xs : List ℕ) (k d : ℕ) → k < n → p (get_or xs k d) ≡ true → p (get_or (take n xs) k d) ≡ true
get_or-take_at p n xs k d lt passes = ap p (get_or-take n xs k d lt) ∙ passes

-- each byte of the run has the class
pub AllPass-take-prefix_len : (p : ℕ → Bool) (xs : List ℕ) → AllPass p (take (prefix_len p xs) xs)
AllPass-take-prefix_len p xs k d lt =
    let shorter = prefix_len-le-length p xs in
    let in_run : k < prefix_len p xs = omega (arith, length-take-le (prefix_len p xs) xs shorter) in
    get_or-take_at p (prefix_len p xs) xs k d in_run (prefix_len_passes p xs k d in_run)
