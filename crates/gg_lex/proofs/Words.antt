-- The longest word at the front of some bytes: its first byte, the run of word bytes after it, and the run of tail bytes.
use Rattle.std.proofs.Common.{◌≡◌, ℕ, zero, suc, ◌+◌, ◌<◌, ◌≤◌, true, false, List, [], ◌∷◌, ◌++◌, length, get_or, take, drop, sym, ap, ◌∙◌, subst, ⊎_elim, arith, append_assoc, take-append-drop, length-append, length-drop, length-take-le, zero-add}
use Rattle.std.proofs.Math.Seq.{take-add}
use Rattle.std.proofs.lemmas.Bool.{cases_Bool}
use Rattle.std.specs.List.{prefix_len, AllPass}
use Rattle.std.proofs.lemmas.List.Sums.{prefix_len-le-length}
use Rattle.gg_lex.specs.Bytes.{starts_word, is_word_byte, is_tail_byte}
use Rattle.gg_lex.specs.Tokens.{IsWord}
use Rattle.gg_lex.specs.inside.Fronts.{IsLongest}
use Rattle.gg_lex.proofs.Runs.{prefix_len-pass, prefix_len-fail, AllPass-head, AllPass-tail, length-le-prefix_len, AllPass-take-prefix_len}

-- how many bytes of a word are at the front, if its first byte is left out
abbrev rest_len : List ℕ → ℕ
rest_len bs = prefix_len is_word_byte bs + prefix_len is_tail_byte (drop (prefix_len is_word_byte bs) bs)

rest_len-cons : (b : ℕ) (bs : List ℕ) → is_word_byte b ≡ true → rest_len (b ∷ bs) ≡ suc (rest_len bs)
rest_len-cons b bs passes = rw (prefix_len-pass is_word_byte b bs passes) (omega arith)

rest_len-tail : (b : ℕ) (bs : List ℕ) → is_word_byte b ≡ false → rest_len (b ∷ bs) ≡ prefix_len is_tail_byte (b ∷ bs)
rest_len-tail b bs fails = rw (prefix_len-fail is_word_byte b bs fails) (zero-add _)

-- tail bytes at the front are no more than that
tail_le : (tail back : List ℕ) → AllPass is_tail_byte tail → length tail ≤ rest_len (tail ++ back)
tail_le [] back all = omega arith
tail_le (b ∷ bs) back all =
    ⊎_elim
    (λ passes. let e : rest_len (b ∷ (bs ++ back)) ≡ suc (rest_len (bs ++ back)) = rest_len-cons b (bs ++ back) passes in let shorter : length bs ≤ rest_len (bs ++ back) = tail_le bs back (AllPass-tail is_tail_byte b bs all) in omega (arith, e, shorter))
    (λ fails. let e : rest_len (b ∷ (bs ++ back)) ≡ prefix_len is_tail_byte (b ∷ (bs ++ back)) = rest_len-tail b (bs ++ back) fails in omega (arith, e, length-le-prefix_len is_tail_byte (b ∷ bs) back all))
    (cases_Bool (is_word_byte b))

-- word bytes and then tail bytes at the front are no more than that
word_le : (body tail back : List ℕ) → AllPass is_word_byte body → AllPass is_tail_byte tail → length body + length tail ≤ rest_len (body ++ (tail ++ back))
word_le [] tail back all all_tail = omega (arith, tail_le tail back all_tail)
word_le (b ∷ bs) tail back all all_tail =
    let e : rest_len (b ∷ (bs ++ (tail ++ back))) ≡ suc (rest_len (bs ++ (tail ++ back))) = rest_len-cons b (bs ++ (tail ++ back)) (AllPass-head is_word_byte b bs all) in
    let shorter : length bs + length tail ≤ rest_len (bs ++ (tail ++ back)) = word_le bs tail back (AllPass-tail is_word_byte b bs all) all_tail in
    omega (arith, e, shorter)

rest_len_le : (bs : List ℕ) → rest_len bs ≤ length bs
rest_len_le bs =
    omega (arith, prefix_len-le-length is_word_byte bs, prefix_len-le-length is_tail_byte (drop (prefix_len is_word_byte bs) bs), length-drop (prefix_len is_word_byte bs) bs)

-- a word at the front is no longer than that and its first byte
front_le : (b : ℕ) (bs : List ℕ) (m : ℕ) → m ≤ length (b ∷ bs) → IsWord (take m (b ∷ bs)) → m ≤ suc (rest_len bs)
front_le b bs zero within word = omega arith
front_le b bs (suc m) within (first, body, tail, spelt, starts, all, all_tail) =
    let same : take m bs ≡ body ++ tail = cc in
    let whole : bs ≡ body ++ (tail ++ drop m bs) = sym (take-append-drop m bs) ∙ ap (λ (l : List ℕ). l ++ drop m bs) same ∙ append_assoc body tail (drop m bs) in
    let size : length (take m bs) ≡ length body + length tail = ap length same ∙ length-append body tail in
    let most : length body + length tail ≤ rest_len bs = subst (λ (l : List ℕ). length body + length tail ≤ rest_len l) (sym whole) (word_le body tail (drop m bs) all all_tail) in
    omega (arith, size, most, length-take-le m bs (omega arith))

longest_word-cons : (b : ℕ) (bs : List ℕ) → starts_word b ≡ true → IsLongest IsWord (b ∷ bs) (suc (rest_len bs))
longest_word-cons b bs starts = record {
  within = omega (arith, rest_len_le bs);
  has = (b, take (prefix_len is_word_byte bs) bs, take (prefix_len is_tail_byte (drop (prefix_len is_word_byte bs) bs)) (drop (prefix_len is_word_byte bs) bs), ap (λ (l : List ℕ). b ∷ l) (take-add _ _ bs), starts, AllPass-take-prefix_len is_word_byte bs, AllPass-take-prefix_len is_tail_byte (drop (prefix_len is_word_byte bs) bs));
  longest = λ m within word. front_le b bs m within word;
}

-- the longest word, by the two lengths that the code finds
pub longest_word : (bs : List ℕ) (n m : ℕ) → 0 < length bs → starts_word (get_or bs 0 0) ≡ true → n ≡ prefix_len is_word_byte (drop 1 bs) → m ≡ prefix_len is_tail_byte (drop n (drop 1 bs)) → IsLongest IsWord bs (1 + n + m)
longest_word [] n m nonempty starts n_is m_is = absurd (omega arith)
longest_word (b ∷ bs) n m nonempty starts n_is m_is =
    let same : 1 + n + m ≡ suc (rest_len bs) = omega (arith, n_is, m_is ∙ ap (λ (k : ℕ). prefix_len is_tail_byte (drop k bs)) n_is) in
    subst (λ (k : ℕ). IsLongest IsWord (b ∷ bs) k) (sym same) (longest_word-cons b bs starts)
