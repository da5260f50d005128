-- The pipes of channels by the numbers of their signals.
use Rattle.std.proofs.Common.{◌≡◌, ◌≢◌, ℕ, ◌+◌, ◌<◌, ◌≤◌, List, length, map, set, get_or, Bool, true, false, true≢false, refl, sym, ap, ◌∙◌, subst, arith, ◌⊎◌, inl, inr, if◌then◌else◌, eq-eqb, eqb-true}
use Rattle.std.specs.Prelude.{◌==◌, ◌&&◌, All}
use Rattle.std.specs.List.{range_with_len}
use Rattle.std.proofs.lemmas.Bool.{and_from, and_parts, cases_Bool, cases_lt}
use Rattle.std.proofs.lemmas.List.{get_or-map, get_or-set_other, get_or-set_same, get_or_default, length-set}
use Rattle.std.proofs.lemmas.List.Folds.{list_any_at}
use Rattle.std.proofs.lemmas.List.FromFn.{get_or-map-range_with_len, length-map-range_with_len}
use Rattle.std.proofs.lemmas.Grind.{same_number_lists}
use Rattle.gg_flat.specs.Line.{value_at}
use Rattle.gg_cut_plan.specs.declared.plan.Channel.{Channel}
use Rattle.gg_cut_plan.proofs.OriginLemmas.{any-finds}
use Rattle.gg_build.specs.inside.Begin.{AreTokens}
use Rattle.gg_snap.specs.inside.Gathered.{AreApart, ArePipes, HaveNumbers, is_piped_by, pipe_number}
use Rattle.gg_snap.proofs.NumberLemmas.{below-less, chosen-is}

abbrev test : ℕ → Channel → Bool
test s channel = channel.pipe && (channel.signal == s)

-- ---- which signals have a pipe

pub piped-at : (channels : List Channel) (c : ℕ) (any : Channel) → c < length channels → (get_or channels c any).pipe ≡ true → is_piped_by channels (get_or channels c any).signal ≡ true
piped-at channels c any lt pipe =
    let channel = get_or channels c any in
    list_any_at (test channel.signal) channels c any lt (and_from channel.pipe (channel.signal == channel.signal) pipe (eq-eqb channel.signal channel.signal refl))

-- the channel of a signal that has a pipe
pub record HasChannel (channels : List Channel) (s : ℕ) : Type 0 where
  pub place : ℕ
  pub any : Channel
  pub within : place < length channels
  pub pipe : (get_or channels place any).pipe ≡ true
  pub signal : (get_or channels place any).signal ≡ s

pub channel-of : (channels : List Channel) (s : ℕ) → is_piped_by channels s ≡ true → HasChannel channels s
channel-of channels s e =
    let found = any-finds (test s) channels e in
    let parts = and_parts found.item.pipe (found.item.signal == s) found.passes in
    let at = found.among in
    record {
      place = at.0;
      any = found.item;
      within = at.1;
      pipe = ap (λ (x : Channel). x.pipe) at.2 ∙ parts.0;
      signal = ap (λ (x : Channel). x.signal) at.2 ∙ eqb-true found.item.signal s parts.1;
    }

pub piped-below : (channels : List Channel) (signals s : ℕ) → All (λ channel. channel.signal < signals) channels → is_piped_by channels s ≡ true → s < signals
piped-below channels signals s known e =
    let at = channel-of channels s e in
    subst (λ k. k < signals) at.signal (known at.place at.any at.within)

-- ---- numbers

-- what a table of all numbers has
module _ (channels : List Channel) (signals : ℕ) (numbers : List ℕ) (known : All (λ channel. channel.signal < signals) channels) (is : numbers ≡ map (pipe_number channels) (range_with_len 0 (signals + 1))) where
  pub long : length numbers ≡ signals + 1
  long = ap length is ∙ length-map-range_with_len (pipe_number channels) 0 (signals + 1)

  pub number-at : (s : ℕ) → s ≤ signals → value_at numbers s ≡ pipe_number channels s
  number-at s le = ap (λ l. value_at l s) is ∙ get_or-map-range_with_len (pipe_number channels) 0 (signals + 1) s s 0 (omega (arith, le)) (omega arith)

  pub numbers-known : All (λ channel. channel.signal < length numbers) channels
  numbers-known = λ c any lt. let low = known c any lt in omega (arith, low, long)

  pub have-numbers : HaveNumbers channels numbers (value_at numbers signals)
  have-numbers = record {
    known = numbers-known;
    is = λ s lt. number-at s (omega (arith, lt, long));
    fits = λ s pass. subst (λ n. pipe_number channels s < n) (sym (number-at signals (omega arith))) (below-less (is_piped_by channels) s signals (piped-below channels signals s known pass) pass);
  }

  pub tokens-are : (held : ℕ) (registers pipes tokens : List ℕ) → ((i : ℕ) → value_at pipes i ≡ value_at registers (held + i)) → tokens ≡ map (λ channel. value_at pipes (value_at numbers channel.signal)) channels
      → AreTokens channels (λ s. value_at registers (held + pipe_number channels s)) tokens
  tokens-are held registers pipes tokens behind same = λ c any lt pipe.
      let channel = get_or channels c any in
      let low = known c any lt in
      ap (λ l. value_at l c) same
      ∙ get_or-map (λ (x : Channel). value_at pipes (value_at numbers x.signal)) channels c any 0 lt
      ∙ ap (value_at pipes) (number-at channel.signal (omega (arith, low)))
      ∙ behind (pipe_number channels channel.signal)

-- two signals with pipes have two numbers
pub numbers-apart : (channels : List Channel) (s t : ℕ) → is_piped_by channels s ≡ true → is_piped_by channels t ≡ true → pipe_number channels s ≡ pipe_number channels t → s ≡ t
numbers-apart channels s t pass also e = by (cases_lt s t) (cases_lt t s)
  where
    by : (s < t) ⊎ (t ≤ s) → (t < s) ⊎ (s ≤ t) → s ≡ t
    by (inl less) other = absurd (omega (arith, e, below-less (is_piped_by channels) s t less pass))
    by (inr le) (inl less) = absurd (omega (arith, e, below-less (is_piped_by channels) t s less also))
    by (inr le) (inr other) = omega (arith, le, other)

-- ---- filling

-- the tokens of the first channels are at their numbers
pub record AreFilled (channels : List Channel) (tokens : List ℕ) (count : ℕ) (before pipes : List ℕ) : Type 0 where
  pub size : length pipes ≡ length before
  pub each : (c : ℕ) (any : Channel) → c < count → (get_or channels c any).pipe ≡ true → value_at pipes (pipe_number channels (get_or channels c any).signal) ≡ value_at tokens c

pub filled-none : (channels : List Channel) (tokens before : List ℕ) → AreFilled channels tokens 0 before before
filled-none channels tokens before = record { size = refl; each = λ c any lt pipe. absurd (omega (arith, lt)) }

module _ (channels : List Channel) (numbers tokens before old : List ℕ) (i : ℕ) (own : Channel) (have : HaveNumbers channels numbers (length before)) (apart : AreApart channels) (lt : i < length channels) (filled : AreFilled channels tokens i before old)
    (is : own ≡ get_or channels i own) where
  here : pipe_number channels own.signal ≡ value_at numbers own.signal
  here = sym (have.is own.signal (subst (λ (x : Channel). x.signal < length numbers) (sym is) (have.known i own lt)))

  pub fits : own.pipe ≡ true → value_at numbers own.signal < length old
  fits pipe =
      let size = filled.size in
      let low = have.fits own.signal (subst (λ (x : Channel). is_piped_by channels x.signal ≡ true) (sym is) (piped-at channels i own lt (ap (λ (x : Channel). x.pipe) (sym is) ∙ pipe))) in
      omega (arith, low, size, here)

  -- at another number than those before
  elsewhere : own.pipe ≡ true → (c : ℕ) (any : Channel) → c < i → (get_or channels c any).pipe ≡ true → pipe_number channels (get_or channels c any).signal ≢ value_at numbers own.signal
  elsewhere pipe c any less other e =
      let default = get_or_default channels i any own lt ∙ sym is in
      let mine = ap (λ (x : Channel). x.pipe) default ∙ pipe in
      let same = numbers-apart channels (get_or channels c any).signal (get_or channels i any).signal (piped-at channels c any (omega (arith, less, lt)) other) (piped-at channels i any lt mine)
      (e ∙ sym here ∙ ap (λ (x : Channel). pipe_number channels x.signal) (sym default)) in
      omega (arith, less, apart c i any (omega (arith, less, lt)) lt other mine same)

  pub filled-next : (new : List ℕ) → new ≡ (if own.pipe then set old (value_at numbers own.signal) (value_at tokens i) else old) → AreFilled channels tokens (i + 1) before new
  filled-next new added = by (cases_Bool own.pipe)
    where
      pipe-of : (any : Channel) → (get_or channels i any).pipe ≡ own.pipe
      pipe-of any = ap (λ (x : Channel). x.pipe) (get_or_default channels i any own lt ∙ sym is)

      by : (own.pipe ≡ true) ⊎ (own.pipe ≡ false) → AreFilled channels tokens (i + 1) before new
      by (inr plain) =
          let same : new ≡ old = added ∙ ap (λ b. if b then set old (value_at numbers own.signal) (value_at tokens i) else old) plain in
          record {
            size = ap length same ∙ filled.size;
            each = λ c any low pipe. ap (λ l. value_at l (pipe_number channels (get_or channels c any).signal)) same ∙ at c any low pipe (cases_lt c i);
          }
        where
          at : (c : ℕ) (any : Channel) → c < i + 1 → (get_or channels c any).pipe ≡ true → (c < i) ⊎ (i ≤ c) → value_at old (pipe_number channels (get_or channels c any).signal) ≡ value_at tokens c
          at c any low pipe (inl less) = filled.each c any less pipe
          at c any low pipe (inr le) =
              let e : c ≡ i = omega (arith, low, le) in
              absurd (true≢false (sym pipe ∙ ap (λ k. (get_or channels k any).pipe) e ∙ pipe-of any ∙ plain))
      by (inl piped) =
          let p = value_at numbers own.signal in
          let v = value_at tokens i in
          let same : new ≡ set old p v = added ∙ ap (λ b. if b then set old p v else old) piped in
          record {
            size = ap length same ∙ length-set old p v ∙ filled.size;
            each = λ c any low pipe. ap (λ l. value_at l (pipe_number channels (get_or channels c any).signal)) same ∙ at c any low pipe (cases_lt c i);
          }
        where
          at : (c : ℕ) (any : Channel) → c < i + 1 → (get_or channels c any).pipe ≡ true → (c < i) ⊎ (i ≤ c) → value_at (set old (value_at numbers own.signal) (value_at tokens i)) (pipe_number channels (get_or channels c any).signal) ≡ value_at tokens c
          at c any low pipe (inl less) =
              get_or-set_other old (value_at numbers own.signal) (pipe_number channels (get_or channels c any).signal) (value_at tokens i) 0 (elsewhere piped c any less pipe) ∙ filled.each c any less pipe
          at c any low pipe (inr le) =
              let e : c ≡ i = omega (arith, low, le) in
              let number : pipe_number channels (get_or channels c any).signal ≡ value_at numbers own.signal =
              ap (λ k. pipe_number channels (get_or channels k any).signal) e ∙ ap (λ (x : Channel). pipe_number channels x.signal) (get_or_default channels i any own lt ∙ sym is) ∙ here in
              ap (value_at (set old (value_at numbers own.signal) (value_at tokens i))) number ∙ get_or-set_same old (value_at numbers own.signal) (value_at tokens i) 0 (fits piped) ∙ ap (value_at tokens) (sym e)

-- ---- the lists of pipes

-- there is one list of the pipes' tokens
pub one-list : (channels : List Channel) (signals : ℕ) (tokens xs ys : List ℕ) → ArePipes channels signals tokens xs → ArePipes channels signals tokens ys → xs ≡ ys
one-list channels signals tokens xs ys a b =
    same_number_lists xs ys (a.count ∙ sym b.count) (λ k lt.
    let at = chosen-is (is_piped_by channels) signals k (omega (arith, lt, a.count)) in
    let own = channel-of channels at.number at.passes in
    let number : pipe_number channels (get_or channels own.place own.any).signal ≡ k = ap (pipe_number channels) own.signal ∙ at.is in
    ap (value_at xs) (sym number) ∙ a.each own.place own.any own.within own.pipe ∙ sym (ap (value_at ys) (sym number) ∙ b.each own.place own.any own.within own.pipe))

pub pipes-by : (a b : List Channel) (m n : ℕ) (one other pipes : List ℕ) → a ≡ b → m ≡ n → one ≡ other → ArePipes a m one pipes → ArePipes b n other pipes
pipes-by a b m n one other pipes channels signals tokens are =
    subst (λ l. ArePipes l n other pipes) channels (subst (λ k. ArePipes a k other pipes) signals (subst (λ t. ArePipes a m t pipes) tokens are))
