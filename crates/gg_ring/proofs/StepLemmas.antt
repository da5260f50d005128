-- Each kind of step keeps the ring's rule.
use Rattle.std.proofs.Common.{◌≡◌, ◌≢◌, ℕ, ◌+◌, ◌*◌, ◌%◌, ◌<◌, ◌≤◌, true, false, true≢false, List, [], ◌∷◌, ◌++◌, length, set, slice_index, sym, refl, ap, ◌∙◌, subst, ⊎_elim, arith, length-set}
use Rattle.std.proofs.Math.Nat.{mod-lt}
use Rattle.std.proofs.lemmas.List.{set-get_or, get_or-set_same, get_or-set_other}
use mathlib.Core.Option.{Option, some}
use mathlib.Core.Logic.{dite}
use native.Mathlib.Decide.{ℕ_discrete}
use lib.ListN.{get_elem?}
use Rattle.atomic_table.specs.Table.{State, Me, Allows, Splits, Joins, Final, Seen, opening, keeps}
use Rattle.atomic_table.proofs.Lists.{at_set, at_snoc, one_turn}
use Rattle.gg_link.proofs.ViewLemmas.{OfEach, of_each-set, at_end, only_first}
use Rattle.gg_ring.specs.declared.rule.View.{View}
use Rattle.gg_ring.specs.inside.Rule.{low_word, high_word, low, high, Laid, FitsPut, FitsTake, Fits, Holds, StandsLow, StandsHigh}
use Rattle.gg_ring.specs.inside.Views.{putter, taker, whole, spent, saw_head, stored_to, has_put, saw_tail, loaded_low, loaded_high, has_taken}
use Rattle.gg_ring.proofs.ThereLemmas.{there-set, there-here, there-else, there-longer, there-last}

-- the seat that puts looks at the head
pub loads_head : (places slots id : ℕ) (m : Me (Unit {0}) View) → m.0.puts ≡ true → m.0.takes ≡ false
    → Allows (Holds places) slots id m 0 (λ n. n) (λ n w. (w ≡ (saw_head m.0 n, m.1)) × (m.0.known_takes ≤ n) × (n ≤ m.0.put) × (m.0.put ≤ n + m.0.capacity))
loads_head places slots id m may not s h long at fits64 =
    let v = m.0 in
    let n = slice_index s.words 0 in
    let mine = ((h.fits id v at).0 may).1 in
    let is_p = ((h.fits id v at).0 may).0 in
    let laid = h.laid in
    let w : View = saw_head v n in
    let F : List ℕ → ℕ → View → Type 0 = λ ws. Fits ws places h.stream h.head h.tail h.putter h.taker in
    let same : set s.words 0 n ≡ s.words = set-get_or s.words 0 0 in
    let a = laid.head_is in let b = mine.seen in let c = laid.order in let d = mine.count in let e = laid.room in let f = mine.capacity_is in
    let new_fits : OfEach (F s.words) (set s.views id w) =
    of_each-set (F s.words) s.views id w
    ((λ _. (is_p, record { stream_is = mine.stream_is; capacity_is = f; count = d; seen = omega arith; first = mine.first; second = mine.second })), (λ t. absurd (true≢false (sym t ∙ not))), (λ a _. absurd (true≢false (sym may ∙ a))))
    (λ j u _ e. h.fits j u e) in (
      w,
      keeps,
      tt,
      record { putter = h.putter; taker = h.taker; stream = h.stream; head = h.head; tail = h.tail; laid = rw same laid; one_puts = there-set (λ u. u.puts) s.views id h.putter v w at (λ e. e) h.one_puts; one_takes = there-set (λ u. u.takes) s.views id h.taker v w at (λ e. e) h.one_takes; fits = rw same new_fits },
      (refl, omega arith, omega arith, omega arith),
    )

-- a write elsewhere than at the head, the tail and the places in use
laid_else : (ws : List ℕ) (places : ℕ) (stream : List ℕ) (head tail i x : ℕ) → Laid ws places stream head tail → 1 < i
    → ((k : ℕ) → head ≤ k → k < tail → (low_word places k ≢ i) × (high_word places k ≢ i)) → Laid (set ws i x) places stream head tail
laid_else ws places stream head tail i x laid high apart = record {
  some_place = laid.some_place;
  words_are = length-set ws i x ∙ laid.words_are;
  head_is = get_or-set_other ws i 0 x 0 (λ e. omega arith) ∙ laid.head_is;
  tail_is = get_or-set_other ws i 1 x 0 (λ e. omega arith) ∙ laid.tail_is;
  order = laid.order;
  room = laid.room;
  inside = laid.inside;
  lows = λ k a b. get_or-set_other ws i (low_word places k) x 0 (apart k a b).0 ∙ laid.lows k a b;
  highs = λ k a b. get_or-set_other ws i (high_word places k) x 0 (apart k a b).1 ∙ laid.highs k a b;
}

-- no place in use is the tail's, where there is room
apart_tail : (places head tail k : ℕ) → tail < head + places → head ≤ k → k < tail → k % places ≢ tail % places
apart_tail places head tail k room a b e = let same : k ≡ tail = one_turn k tail places (omega arith) (omega arith) e in omega arith

-- a number up to t is below it or is t
below_or : (k t : ℕ) (F : ℕ → Type 0) → k ≤ t → (k < t → F k) → F t → F k
below_or k t F le under here = dite (ℕ_discrete k t) (λ e. subst F (sym e) here) (λ ne. under (omega arith))

pub stores_low : (places slots id p c x : ℕ) (m : Me (Unit {0}) View) → m.0.put ≡ p → m.0.capacity ≡ c → m.0.puts ≡ true → m.0.takes ≡ false → m.0.put < m.0.known_takes + m.0.capacity
    → x ≡ low (slice_index m.0.stream m.0.put)
    → Allows (Holds places) slots id m (low_word c p) (λ _. x) (λ _ w. w ≡ (stored_to m.0 1, m.1))
stores_low places slots id p c x m p_is c_is may not free is s h long at fits64 =
    let v = m.0 in
    let mine = ((h.fits id v at).0 may).1 in
    let is_p = ((h.fits id v at).0 may).0 in
    let laid = h.laid in
    let w : View = stored_to v 1 in
    let b = mine.seen in let d = mine.count in let f = mine.capacity_is in
    let i = low_word c p in
    let p_tail : p ≡ h.tail = sym p_is ∙ d in
    let c_places : c ≡ places = sym c_is ∙ f in
    let i_is : i ≡ low_word places h.tail = λ k. low_word (c_places k) (p_tail k) in
    let ws = set s.words i x in
    let F : ℕ → View → Type 0 = Fits ws places h.stream h.head h.tail h.putter h.taker in
    let inside : h.tail % places < places = mod-lt h.tail laid.some_place in
    let fits_in : i < length s.words = let q = laid.words_are in omega arith in
    let low_here : StandsLow ws places h.stream h.tail = rw (← i_is) (get_or-set_same s.words i x 0 fits_in ∙ is ∙ (λ k. low (slice_index (mine.stream_is k) (d k)))) in
    let new_fits : OfEach F (set s.views id w) =
    of_each-set F s.views id w
    ((λ _. (is_p, record { stream_is = mine.stream_is; capacity_is = f; count = d; seen = b; first = λ _. low_here; second = λ z. absurd (omega arith) })), (λ t. absurd (true≢false (sym t ∙ not))), (λ a _. absurd (true≢false (sym may ∙ a))))
    (λ j u other e. ((λ p. absurd (other (((h.fits j u e).0 p).0 ∙ sym is_p))), (h.fits j u e).1, (h.fits j u e).2)) in (
      w,
      keeps,
      tt,
      record {
        putter = h.putter;
        taker = h.taker;
        stream = h.stream;
        head = h.head;
        tail = h.tail;
        laid = laid_else s.words places h.stream h.head h.tail i x laid (omega arith) (λ k y z. ((λ e. apart_tail places h.head h.tail k (omega arith) y z (omega arith)), (λ e. omega arith)));
        one_puts = there-set (λ u. u.puts) s.views id h.putter v w at (λ e. e) h.one_puts;
        one_takes = there-set (λ u. u.takes) s.views id h.taker v w at (λ e. e) h.one_takes;
        fits = new_fits;
      },
      refl,
    )

-- the other half
pub stores_high : (places slots id p c x : ℕ) (m : Me (Unit {0}) View) → m.0.put ≡ p → m.0.capacity ≡ c → m.0.puts ≡ true → m.0.takes ≡ false → m.0.put < m.0.known_takes + m.0.capacity → m.0.stored ≡ 1
    → x ≡ high (slice_index m.0.stream m.0.put)
    → Allows (Holds places) slots id m (high_word c p) (λ _. x) (λ _ w. w ≡ (stored_to m.0 2, m.1))
stores_high places slots id p c x m p_is c_is may not free half is s h long at fits64 =
    let v = m.0 in
    let mine = ((h.fits id v at).0 may).1 in
    let is_p = ((h.fits id v at).0 may).0 in
    let laid = h.laid in
    let w : View = stored_to v 2 in
    let b = mine.seen in let d = mine.count in let f = mine.capacity_is in
    let i = high_word c p in
    let p_tail : p ≡ h.tail = sym p_is ∙ d in
    let c_places : c ≡ places = sym c_is ∙ f in
    let i_is : i ≡ high_word places h.tail = λ k. high_word (c_places k) (p_tail k) in
    let ws = set s.words i x in
    let F : ℕ → View → Type 0 = Fits ws places h.stream h.head h.tail h.putter h.taker in
    let inside : h.tail % places < places = mod-lt h.tail laid.some_place in
    let fits_in : i < length s.words = let q = laid.words_are in omega arith in
    let low_here : StandsLow ws places h.stream h.tail = get_or-set_other s.words i (low_word places h.tail) x 0 (λ e. omega arith) ∙ mine.first (omega arith) in
    let high_here : StandsHigh ws places h.stream h.tail = rw (← i_is) (get_or-set_same s.words i x 0 fits_in ∙ is ∙ (λ k. high (slice_index (mine.stream_is k) (d k)))) in
    let new_fits : OfEach F (set s.views id w) =
    of_each-set F s.views id w
    ((λ _. (is_p, record { stream_is = mine.stream_is; capacity_is = f; count = d; seen = b; first = λ _. low_here; second = λ _. high_here })), (λ t. absurd (true≢false (sym t ∙ not))), (λ a _. absurd (true≢false (sym may ∙ a))))
    (λ j u other e. ((λ p. absurd (other (((h.fits j u e).0 p).0 ∙ sym is_p))), (h.fits j u e).1, (h.fits j u e).2)) in (
      w,
      keeps,
      tt,
      record {
        putter = h.putter;
        taker = h.taker;
        stream = h.stream;
        head = h.head;
        tail = h.tail;
        laid = laid_else s.words places h.stream h.head h.tail i x laid (omega arith) (λ k y z. ((λ e. omega arith), (λ e. apart_tail places h.head h.tail k (omega arith) y z (omega arith))));
        one_puts = there-set (λ u. u.puts) s.views id h.putter v w at (λ e. e) h.one_puts;
        one_takes = there-set (λ u. u.takes) s.views id h.taker v w at (λ e. e) h.one_takes;
        fits = new_fits;
      },
      refl,
    )

-- both halves are stored, so the value counts
pub stores_tail : (places slots id x : ℕ) (m : Me (Unit {0}) View) → x ≡ m.0.put + 1 → m.0.puts ≡ true → m.0.takes ≡ false → m.0.put < m.0.known_takes + m.0.capacity → m.0.stored ≡ 2
    → m.0.put < length m.0.stream
    → Allows (Holds places) slots id m 1 (λ _. x) (λ _ w. w ≡ (has_put m.0, m.1))
stores_tail places slots id x m x_is may not free both more s h long at fits64 =
    let v = m.0 in
    let mine = ((h.fits id v at).0 may).1 in
    let is_p = ((h.fits id v at).0 may).0 in
    let laid = h.laid in
    let w : View = has_put v in
    let b = mine.seen in let d = mine.count in let f = mine.capacity_is in
    let ws = set s.words 1 x in
    let F : ℕ → View → Type 0 = Fits ws places h.stream h.head (h.tail + 1) h.putter h.taker in
    let laid' : Laid ws places h.stream h.head (h.tail + 1) = record {
      some_place = laid.some_place;
      words_are = length-set s.words 1 x ∙ laid.words_are;
      head_is = get_or-set_other s.words 1 0 x 0 (λ e. omega arith) ∙ laid.head_is;
      tail_is = get_or-set_same s.words 1 x 0 (let q = laid.words_are in let r = laid.some_place in omega arith) ∙ x_is ∙ ap (λ k. k + 1) d;
      order = let q = laid.order in omega arith;
      room = omega arith;
      inside = let len : length v.stream ≡ length h.stream = ap length mine.stream_is in omega arith;
      lows = λ k y z. get_or-set_other s.words 1 (low_word places k) x 0 (λ e. omega arith)
          ∙ below_or k h.tail (StandsLow s.words places h.stream) (omega arith) (λ t. laid.lows k y t) (mine.first (omega arith));
      highs = λ k y z. get_or-set_other s.words 1 (high_word places k) x 0 (λ e. omega arith)
          ∙ below_or k h.tail (StandsHigh s.words places h.stream) (omega arith) (λ t. laid.highs k y t) (mine.second (omega arith));
    } in
    let new_fits : OfEach F (set s.views id w) =
    of_each-set F s.views id w
    ((λ _. (is_p, record { stream_is = mine.stream_is; capacity_is = f; count = ap (λ k. k + 1) d; seen = b; first = λ z. absurd (omega arith); second = λ z. absurd (omega arith) })), (λ t. absurd (true≢false (sym t ∙ not))), (λ a _. absurd (true≢false (sym may ∙ a))))
    (λ j u other e. (
      (λ p. absurd (other (((h.fits j u e).0 p).0 ∙ sym is_p))),
      (λ t. let theirs = (h.fits j u e).1 t in (
        theirs.0,
        record { stream_is = theirs.1.stream_is; capacity_is = theirs.1.capacity_is; count = theirs.1.count; seen = let q = theirs.1.seen in omega arith; first = theirs.1.first; second = theirs.1.second },
      )),
      (h.fits j u e).2,
    )) in (
      w,
      keeps,
      tt,
      record {
        putter = h.putter;
        taker = h.taker;
        stream = h.stream;
        head = h.head;
        tail = h.tail + 1;
        laid = laid';
        one_puts = there-set (λ u. u.puts) s.views id h.putter v w at (λ e. e) h.one_puts;
        one_takes = there-set (λ u. u.takes) s.views id h.taker v w at (λ e. e) h.one_takes;
        fits = new_fits;
      },
      refl,
    )

-- A seat that takes makes a step that writes nothing, and fits its new view.
looks : (places slots id i : ℕ) (then : ℕ → Me (Unit {0}) View → Type 0) (m : Me (Unit {0}) View) (to : ℕ → View) → m.0.takes ≡ true → m.0.puts ≡ false → ((n : ℕ) → ((to n).takes ≡ true) × ((to n).puts ≡ false))
    → ((s : State (Unit {0}) View) (h : Holds places s) → FitsTake places h.stream h.head h.tail m.0 → FitsTake places h.stream h.head h.tail (to (slice_index s.words i)) × then (slice_index s.words i) (to (slice_index s.words i), m.1))
    → Allows (Holds places) slots id m i (λ n. n) then
looks places slots id i then m to may not keep tells s h long at fits64 =
    let v = m.0 in
    let n = slice_index s.words i in
    let mine = ((h.fits id v at).1 may).1 in
    let is_t = ((h.fits id v at).1 may).0 in
    let w : View = to n in
    let told = tells s h mine in
    let F : ℕ → View → Type 0 = Fits s.words places h.stream h.head h.tail h.putter h.taker in
    let same : set s.words i n ≡ s.words = set-get_or s.words i 0 in
    let new_fits : OfEach F (set s.views id w) =
    of_each-set F s.views id w
    ((λ p. absurd (true≢false (sym p ∙ (keep n).1))), (λ _. (is_t, told.0)), (λ _ b. absurd (true≢false (sym (keep n).0 ∙ b))))
    (λ j u _ e. h.fits j u e) in (
      w,
      keeps,
      tt,
      record {
        putter = h.putter;
        taker = h.taker;
        stream = h.stream;
        head = h.head;
        tail = h.tail;
        laid = rw same h.laid;
        one_puts = there-set (λ u. u.puts) s.views id h.putter v w at (λ e. absurd (true≢false (sym e ∙ not))) h.one_puts;
        one_takes = there-set (λ u. u.takes) s.views id h.taker v w at (λ _. (keep n).0) h.one_takes;
        fits = rw same new_fits;
      },
      told.1,
    )

-- the seat that takes looks at the tail
pub loads_tail : (places slots id : ℕ) (m : Me (Unit {0}) View) → m.0.takes ≡ true → m.0.puts ≡ false
    → Allows (Holds places) slots id m 1 (λ n. n) (λ n w. (w ≡ (saw_tail m.0 n, m.1)) × (m.0.known_puts ≤ n) × (m.0.taken ≤ n) × (n ≤ length m.0.stream))
loads_tail places slots id m may not =
    looks places slots id 1 (λ n w. (w ≡ (saw_tail m.0 n, m.1)) × (m.0.known_puts ≤ n) × (m.0.taken ≤ n) × (n ≤ length m.0.stream)) m (saw_tail m.0) may not (λ n. (may, not)) (λ s h mine.
    let laid = h.laid in
    let a = laid.tail_is in let b = mine.seen in let c = laid.order in let d = mine.count in
    let len : length m.0.stream ≡ length h.stream = ap length mine.stream_is in let i = laid.inside in (
      record { stream_is = mine.stream_is; capacity_is = mine.capacity_is; count = d; seen = omega arith; first = mine.first; second = mine.second },
      (refl, omega arith, omega arith, omega arith),
    ))

-- the seat that takes loads the halves of a value that it has seen
pub loads_low : (places slots id t c : ℕ) (m : Me (Unit {0}) View) → m.0.taken ≡ t → m.0.capacity ≡ c → m.0.takes ≡ true → m.0.puts ≡ false → m.0.taken < m.0.known_puts
    → Allows (Holds places) slots id m (low_word c t) (λ n. n) (λ n w. (w ≡ (loaded_low m.0 n, m.1)) × (n ≡ low (slice_index m.0.stream m.0.taken)))
loads_low places slots id t c m t_is c_is may not some_left =
    looks places slots id (low_word c t) (λ n w. (w ≡ (loaded_low m.0 n, m.1)) × (n ≡ low (slice_index m.0.stream m.0.taken))) m (loaded_low m.0) may not (λ n. (may, not)) (λ s h mine.
    let a = mine.count in let b = mine.seen in
    let at_head : slice_index s.words (low_word places h.head) ≡ low (slice_index h.stream h.head) = h.laid.lows h.head (omega arith) (omega arith) in
    let here : slice_index s.words (low_word c t) ≡ low (slice_index h.stream h.head) = rw (← t_is, ← c_is, mine.capacity_is, mine.count) at_head in (
      record { stream_is = mine.stream_is; capacity_is = mine.capacity_is; count = a; seen = b; first = λ _. here; second = λ z. absurd (omega arith) },
      (refl, rw (mine.stream_is, mine.count) here),
    ))

pub loads_high : (places slots id t c : ℕ) (m : Me (Unit {0}) View) → m.0.taken ≡ t → m.0.capacity ≡ c → m.0.takes ≡ true → m.0.puts ≡ false → m.0.taken < m.0.known_puts → m.0.loaded ≡ 1
    → Allows (Holds places) slots id m (high_word c t) (λ n. n) (λ n w. (w ≡ (loaded_high m.0 n, m.1)) × (n ≡ high (slice_index m.0.stream m.0.taken)))
loads_high places slots id t c m t_is c_is may not some_left half =
    looks places slots id (high_word c t) (λ n w. (w ≡ (loaded_high m.0 n, m.1)) × (n ≡ high (slice_index m.0.stream m.0.taken))) m (loaded_high m.0) may not (λ n. (may, not)) (λ s h mine.
    let a = mine.count in let b = mine.seen in
    let at_head : slice_index s.words (high_word places h.head) ≡ high (slice_index h.stream h.head) = h.laid.highs h.head (omega arith) (omega arith) in
    let here : slice_index s.words (high_word c t) ≡ high (slice_index h.stream h.head) = rw (← t_is, ← c_is, mine.capacity_is, mine.count) at_head in (
      record { stream_is = mine.stream_is; capacity_is = mine.capacity_is; count = a; seen = b; first = λ _. mine.first (omega arith); second = λ _. here },
      (refl, rw (mine.stream_is, mine.count) here),
    ))

-- both halves are loaded, so the value counts as taken
pub stores_head : (places slots id x : ℕ) (m : Me (Unit {0}) View) → x ≡ m.0.taken + 1 → m.0.takes ≡ true → m.0.puts ≡ false → m.0.taken < m.0.known_puts → m.0.loaded ≡ 2
    → Allows (Holds places) slots id m 0 (λ _. x) (λ _ w. w ≡ (has_taken m.0, m.1))
stores_head places slots id x m x_is may not some_left both s h long at fits64 =
    let v = m.0 in
    let mine = ((h.fits id v at).1 may).1 in
    let is_t = ((h.fits id v at).1 may).0 in
    let laid = h.laid in
    let w : View = has_taken v in
    let b = mine.seen in let d = mine.count in
    let ws = set s.words 0 x in
    let F : ℕ → View → Type 0 = Fits ws places h.stream (h.head + 1) h.tail h.putter h.taker in
    let laid' : Laid ws places h.stream (h.head + 1) h.tail = record {
      some_place = laid.some_place;
      words_are = length-set s.words 0 x ∙ laid.words_are;
      head_is = get_or-set_same s.words 0 x 0 (let q = laid.words_are in omega arith) ∙ x_is ∙ ap (λ k. k + 1) d;
      tail_is = get_or-set_other s.words 0 1 x 0 (λ e. omega arith) ∙ laid.tail_is;
      order = omega arith;
      room = let q = laid.room in omega arith;
      inside = laid.inside;
      lows = λ k y z. get_or-set_other s.words 0 (low_word places k) x 0 (λ e. omega arith) ∙ laid.lows k (omega arith) z;
      highs = λ k y z. get_or-set_other s.words 0 (high_word places k) x 0 (λ e. omega arith) ∙ laid.highs k (omega arith) z;
    } in
    let new_fits : OfEach F (set s.views id w) =
    of_each-set F s.views id w (
      (λ p. absurd (true≢false (sym p ∙ not))),
      (λ _. (is_t, record { stream_is = mine.stream_is; capacity_is = mine.capacity_is; count = ap (λ k. k + 1) d; seen = b; first = λ z. absurd (omega arith); second = λ z. absurd (omega arith) })),
      (λ _ b. absurd (true≢false (sym may ∙ b))),
    )
    (λ j u other e. (
      (λ p. let theirs = (h.fits j u e).0 p in (
        theirs.0,
        record {
          stream_is = theirs.1.stream_is;
          capacity_is = theirs.1.capacity_is;
          count = theirs.1.count;
          seen = (let q = theirs.1.seen in omega arith);
          first = λ z. get_or-set_other s.words 0 (low_word places h.tail) x 0 (λ e. omega arith) ∙ theirs.1.first z;
          second = λ z. get_or-set_other s.words 0 (high_word places h.tail) x 0 (λ e. omega arith) ∙ theirs.1.second z;
        },
      )),
      (λ t. absurd (other (((h.fits j u e).1 t).0 ∙ sym is_t))),
      (h.fits j u e).2,
    )) in (
      w,
      keeps,
      tt,
      record {
        putter = h.putter;
        taker = h.taker;
        stream = h.stream;
        head = h.head + 1;
        tail = h.tail;
        laid = laid';
        one_puts = there-set (λ u. u.puts) s.views id h.putter v w at (λ e. e) h.one_puts;
        one_takes = there-set (λ u. u.takes) s.views id h.taker v w at (λ e. e) h.one_takes;
        fits = new_fits;
      },
      refl,
    )

-- ---- seats that are made, split and joined

-- the two facts about a new or a whole view that puts, and about one that takes: it has begun no value
fresh-put : (words : List ℕ) (places : ℕ) (stream : List ℕ) (head tail : ℕ) (v : View) → v.stream ≡ stream → v.capacity ≡ places → v.put ≡ tail → v.known_takes ≡ 0 → v.stored ≡ 0 → FitsPut words places stream head tail v
fresh-put words places stream head tail v a b c d e = record { stream_is = a; capacity_is = b; count = c; seen = omega arith; first = λ z. absurd (omega arith); second = λ z. absurd (omega arith) }

fresh-take : (places : ℕ) (stream : List ℕ) (head tail : ℕ) (v : View) → v.stream ≡ stream → v.capacity ≡ places → v.taken ≡ head → v.known_puts ≤ tail → v.loaded ≡ 0 → FitsTake places stream head tail v
fresh-take places stream head tail v a b c d e = record { stream_is = a; capacity_is = b; count = c; seen = d; first = λ z. absurd (omega arith); second = λ z. absurd (omega arith) }

-- a new table, before its stream is chosen
pub opens : (places : ℕ) (words : List ℕ) → 0 < places → length words ≡ 2 + 2 * places → slice_index words 0 ≡ 0 → slice_index words 1 ≡ 0 → Holds places (opening words [] (whole [] places 0 0 0))
opens places words some_place long head tail =
    let v : View = whole [] places 0 0 0 in
    let F : ℕ → View → Type 0 = Fits words places [] 0 0 0 0 in
    let one : OfEach F (v ∷ []) = of_each-set F (v ∷ []) 0 v (
      (λ _. (refl, fresh-put words places [] 0 0 v refl refl refl refl refl)),
      (λ _. (refl, fresh-take places [] 0 0 v refl refl refl (omega arith) refl)),
      (λ a _. absurd (true≢false a)),
    )
    (λ j u other e. absurd (other (only_first v u j e))) in
    record {
      putter = 0;
      taker = 0;
      stream = [];
      head = 0;
      tail = 0;
      laid = record { some_place = some_place; words_are = long; head_is = head; tail_is = tail; order = omega arith; room = omega arith; inside = omega arith; lows = λ k a b. absurd (omega arith); highs = λ k a b. absurd (omega arith) };
      one_puts = (v, refl, refl);
      one_takes = (v, refl, refl);
      fits = one;
    }

-- a whole view is split in two
split : (places id : ℕ) (v l r : View) (words : List ℕ) (homes : List (Option (Unit {0}))) (views : List View) (stream : List ℕ) (head tail : ℕ)
    → get_elem? views id ≡ some v → v.puts ≡ true → (l.puts ≡ true) × (l.takes ≡ false) → (r.puts ≡ false) × (r.takes ≡ true)
    → Laid words places stream head tail → FitsPut words places stream head tail l → FitsTake places stream head tail r
    → ((j : ℕ) (u : View) → j ≢ id → get_elem? views j ≡ some u → (u.puts ≢ true) × (u.takes ≢ true) × (u.puts ≡ false → u.takes ≡ false → u ≡ spent))
    → Holds places record { words = words; homes = homes; views = set views id l ++ r ∷ [] }
split places id v l r words homes views stream head tail at may left right laid put take others =
    let first = set views id l in
    let Old : ℕ → View → Type 0 = λ j u. (u.puts ≡ true → (j ≡ id) × FitsPut words places stream head tail u) × (u.takes ≢ true) × (u.puts ≡ false → u.takes ≡ false → u ≡ spent) in
    let old : OfEach Old first = of_each-set Old views id l
    ((λ _. (refl, put)), (λ t. true≢false (sym t ∙ left.1)), (λ a _. absurd (true≢false (sym left.0 ∙ a))))
    (λ j u other e. let none = others j u other e in ((λ p. absurd (none.0 p)), none.1, none.2)) in
    record {
      putter = id;
      taker = length first;
      stream = stream;
      head = head;
      tail = tail;
      laid = laid;
      one_puts = there-longer (λ u. u.puts) first r id (there-here (λ u. u.puts) views id v l at left.0);
      one_takes = there-last (λ u. u.takes) first r right.1;
      fits = λ j u e. ⊎_elim (λ x. let is = old j u x in (is.0, (λ t. absurd (is.1 t)), is.2))
          (λ (is : r ≡ u). (
            (λ p. absurd (true≢false (sym (ap (λ (y : View). y.puts) is ∙ p) ∙ right.0))),
            (λ t. (at_end first r u j (λ x. (old j u x).1 t) e, subst (λ (y : View). FitsTake places stream head tail y) is take)),
            (λ _ b. absurd (true≢false (sym right.1 ∙ ap (λ (y : View). y.takes) is ∙ b))),
          )) (at_snoc first r u j e);
    }

-- the whole view of an empty ring is split, with any stream
pub splits : (places id : ℕ) (v : View) (stream : List ℕ) → v.puts ≡ true → v.takes ≡ true → v.put ≡ 0 → v.taken ≡ 0 → Splits (Holds places) id v (putter stream v.capacity 0 (v.moves + 1)) (taker stream v.capacity 0 0)
splits places id v stream may may' none_put none_taken s h at =
    let l : View = putter stream v.capacity 0 (v.moves + 1) in
    let r : View = taker stream v.capacity 0 0 in
    let mine = (h.fits id v at).0 may in
    let mine' = (h.fits id v at).1 may' in
    let laid = h.laid in
    let head : h.head ≡ 0 = sym mine'.1.count ∙ none_taken in
    let tail : h.tail ≡ 0 = sym mine.1.count ∙ none_put in
    split places id v l r s.words s.homes s.views stream 0 0 at may (refl, refl) (refl, refl)
    record { some_place = laid.some_place; words_are = laid.words_are; head_is = laid.head_is ∙ head; tail_is = laid.tail_is ∙ tail; order = omega arith; room = omega arith; inside = omega arith; lows = λ k a b. absurd (omega arith); highs = λ k a b. absurd (omega arith) }
    (fresh-put s.words places stream 0 0 l refl mine.1.capacity_is refl refl refl) (fresh-take places stream 0 0 r refl mine.1.capacity_is refl (omega arith) refl)
    (λ j u other e. ((λ p. other (((h.fits j u e).0 p).0 ∙ sym mine.0)), (λ t. other (((h.fits j u e).1 t).0 ∙ sym mine'.0)), (h.fits j u e).2))

-- the whole view is split where it stands
pub splits_again : (places id : ℕ) (v : View) → v.puts ≡ true → v.takes ≡ true → Splits (Holds places) id v (putter v.stream v.capacity v.put (v.moves + 1)) (taker v.stream v.capacity v.taken v.put)
splits_again places id v may may' s h at =
    let l : View = putter v.stream v.capacity v.put (v.moves + 1) in
    let r : View = taker v.stream v.capacity v.taken v.put in
    let mine = (h.fits id v at).0 may in
    let mine' = (h.fits id v at).1 may' in
    let known : v.put ≤ h.tail = let q = mine.1.count in omega arith in
    split places id v l r s.words s.homes s.views h.stream h.head h.tail at may (refl, refl) (refl, refl) h.laid
    (fresh-put s.words places h.stream h.head h.tail l mine.1.stream_is mine.1.capacity_is mine.1.count refl refl) (fresh-take places h.stream h.head h.tail r mine.1.stream_is mine.1.capacity_is mine'.1.count known refl)
    (λ j u other e. ((λ p. other (((h.fits j u e).0 p).0 ∙ sym mine.0)), (λ t. other (((h.fits j u e).1 t).0 ∙ sym mine'.0)), (h.fits j u e).2))

-- the two seats' views are one again
pub joins : (places id : ℕ) (v : View) (other : ℕ) (u : View) → v.puts ≡ true → u.takes ≡ true → Joins (Holds places) id v other u (whole v.stream v.capacity v.put u.taken (v.moves + 1)) spent
joins places id v other u may may' s h at two at' =
    let both : View = whole v.stream v.capacity v.put u.taken (v.moves + 1) in
    let mine = (h.fits id v at).0 may in
    let views = set s.views id both in
    let was : get_elem? s.views other ≡ some u = ⊎_elim (λ x. absurd (two x.0)) (λ x. x.1) (at_set s.views id other both u at') in
    let theirs = (h.fits other u was).1 may' in
    let F : ℕ → View → Type 0 = Fits s.words places h.stream h.head h.tail id id in
    let Now : ℕ → View → Type 0 = λ j y. j ≢ other → F j y in
    let now : OfEach Now views = of_each-set Now s.views id both
    (λ _. (
      (λ _. (refl, fresh-put s.words places h.stream h.head h.tail both mine.1.stream_is mine.1.capacity_is mine.1.count refl refl)),
      (λ _. (refl, fresh-take places h.stream h.head h.tail both mine.1.stream_is mine.1.capacity_is theirs.1.count (omega arith) refl)),
      (λ a _. absurd (true≢false a)),
    ))
    (λ j y no e apart. ((λ p. absurd (no (((h.fits j y e).0 p).0 ∙ sym mine.0))), (λ t. absurd (apart (((h.fits j y e).1 t).0 ∙ sym theirs.0))), (h.fits j y e).2)) in
    record {
      putter = id;
      taker = id;
      stream = h.stream;
      head = h.head;
      tail = h.tail;
      laid = h.laid;
      one_puts = there-else (λ y. y.puts) views other id spent (λ e. two (sym e)) (there-here (λ y. y.puts) s.views id v both at refl);
      one_takes = there-else (λ y. y.takes) views other id spent (λ e. two (sym e)) (there-here (λ y. y.takes) s.views id v both at refl);
      fits = of_each-set F views other spent ((λ p. absurd (true≢false (sym p))), (λ t. absurd (true≢false (sym t))), (λ _ _. refl)) (λ j y apart e. now j y e apart);
    }

-- what the words of a closed table hold
pub closes : (places id : ℕ) (words : List ℕ) (slots : List (Unit {0})) (v : View) → v.puts ≡ true → v.takes ≡ true → Final (Seen (Holds places) id v) words slots → Laid words places v.stream v.taken v.put
closes places id words slots v may may' last =
    let s = last.0 in
    let h = last.1.0 in
    let at = last.1.1 in
    let mine = ((h.fits id v at).0 may).1 in
    let theirs = ((h.fits id v at).1 may').1 in
    rw (mine.stream_is, mine.count, theirs.count, ← last.2) h.laid
