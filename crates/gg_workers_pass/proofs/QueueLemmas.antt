-- One queue of a network: what a link is made of, and what comes back from it.
use Rattle.std.proofs.Common.{◌≡◌, ℕ, zero, suc, ◌+◌, ◌-◌, ◌<◌, ◌≤◌, ◌++◌, List, [], ◌∷◌, length, take, drop, refl, sym, ap, ◌∙◌, arith, Ok, Err, Result, MatchResult}
use Rattle.std.specs.Prelude.{slice_index_or, slice_set}
use Rattle.std.specs.VecDeque.{deque_capacity}
use Rattle.std.proofs.lemmas.List.{set-get_or}
use Rattle.std.specs.declared.collections.VecDeque.{VecDeque}
use Rattle.std.proofs.lemmas.List.{length-drop, get_or-drop, length-take-le, get_or-take, take-append-drop, ext_get_or, get_or_default}
use Rattle.gg_flat.specs.Line.{value_at}
use Rattle.gg_flat.specs.Streams.{Flow}
use Rattle.gg_link.specs.Seats.{SeatState, between, WithinCapacity}
use Rattle.gg_net.specs.Network.{Network, wire_at, takes}
use Rattle.gg_net.specs.Kept.{list_at, BetweenAt}
use Rattle.gg_net.specs.inside.Queue.{Held, held_of}
use Rattle.gg_net.specs.inside.Net.{held_at}
use Rattle.gg_workers_pass.specs.inside.Seats.{SeatCounts, with_tokens}

abbrev no_tokens : Held
no_tokens = record { tokens = []; room = 0 }

abbrev held : List ℕ → ℕ → Held
held tokens room = record { tokens = tokens; room = room }

set-twice : {A : Type 0} (xs : List A) (i : ℕ) (a b : A) → slice_set (slice_set xs i a) i b ≡ slice_set xs i b
set-twice [] i a b = refl
set-twice (x ∷ xs) zero a b = refl
set-twice (x ∷ xs) (suc i) a b = ap (λ rest. x ∷ rest) (set-twice xs i a b)

-- a queue was taken out, its tokens changed, and it was put back
pub refilled : {Z : Type 0} (queues : List Held) (c : ℕ) (was none last : Held) (before after : VecDeque ℕ Z) (tokens : List ℕ) → c < length queues → was ≡ slice_index_or queues c was → held_of before ≡ was → after.items ≡ tokens → deque_capacity after ≡ deque_capacity before → last ≡ held_of after
    → slice_set (slice_set queues c none) c last ≡ slice_set queues c (with_tokens (held_at queues c) tokens)
refilled queues c was none last before after tokens below is from items room last_is =
    set-twice queues c none last
    ∙ ap (slice_set queues c) (last_is ∙ ap (λ ts. held ts (deque_capacity after)) items ∙ ap (held tokens) (room ∙ ap (λ (q : Held). q.room) (from ∙ is ∙ get_or_default queues c was no_tokens below)))

-- either way of a result, by what it says
pub either : {A B : Type 0} (r : Result A B) (P Q P2 Q2 : Type 0) → (P → P2) → (Q → Q2) → MatchResult r (λ _. P) (λ _. Q) → MatchResult r (λ _. P2) (λ _. Q2)
either (Ok a) P Q P2 Q2 f g h = f h
either (Err b) P Q P2 Q2 f g h = g h

-- what a queue holds is the front of the rest of the list
pub held-front : (list queue : List ℕ) (capacity taken entered : ℕ) → BetweenAt list capacity taken entered queue → entered ≤ length list → (rest : List ℕ) × (drop taken list ≡ queue ++ rest)
held-front list queue capacity taken entered b short =
    let long : length (take (length queue) (drop taken list)) ≡ length queue = length-take-le (length queue) (drop taken list) (omega (arith, length-drop taken list, b.held, short)) in
    let front : take (length queue) (drop taken list) ≡ queue =
    ext_get_or 0 (take (length queue) (drop taken list)) queue long
    (λ k lt. get_or-take (length queue) (drop taken list) k 0 (rw long at lt) ∙ get_or-drop taken list k 0 ∙ sym (b.tokens k (rw long at lt))) in
    (drop (length queue) (drop taken list), sym (take-append-drop (length queue) (drop taken list)) ∙ ap (λ l. l ++ drop (length queue) (drop taken list)) front)

-- what a link hands back is the channel's queue
pub between-seats : (flow : Flow) (net : Network) (c entered taken : ℕ) (p t : SeatState) → SeatCounts flow net c entered p → SeatCounts flow net c taken t → WithinCapacity p t → entered ≤ length (list_at flow.lists c) → BetweenAt (list_at flow.lists c) (wire_at net.wires c).capacity taken entered (between p t)
between-seats flow net c entered taken p t a b closes short =
    let inner : length (drop t.count p.stream) ≡ length (list_at flow.lists c) - takes net c - t.count = rw a.stream (rw length-drop (rw length-drop refl)) in
    let long : length (between p t) ≡ p.count - t.count = length-take-le (p.count - t.count) (drop t.count p.stream) (omega (arith, inner, a.count, closes.order, short)) in
    record {
      held = omega (arith, long, a.count, b.count, closes.order);
      tokens = λ k lt.
          get_or-take (p.count - t.count) (drop t.count p.stream) k 0 (rw long at lt)
          ∙ get_or-drop t.count p.stream k 0
          ∙ ap (λ s. value_at s (t.count + k)) a.stream
          ∙ get_or-drop (takes net c) (list_at flow.lists c) (t.count + k) 0
          ∙ ap (λ j. value_at (list_at flow.lists c) j) (omega (arith, b.count));
      room = omega (arith, long, closes.room, a.capacity);
    }

-- a queue that was taken out holds what it held
pub same-before : {Z : Type 0} (queues : List Held) (c : ℕ) (was : Held) (before : VecDeque ℕ Z) → c < length queues → was ≡ slice_index_or queues c was → held_of before ≡ was → before.items ≡ (held_at queues c).tokens
same-before queues c was before below is from = ap (λ (q : Held). q.tokens) (from ∙ is ∙ get_or_default queues c was no_tokens below)

pub empty-before : {Z : Type 0} (queues : List Held) (c : ℕ) (was : Held) (before : VecDeque ℕ Z) → c < length queues → was ≡ slice_index_or queues c was → held_of before ≡ was → (held_at queues c).tokens ≡ [] → before.items ≡ []
empty-before queues c was before below is from none = same-before queues c was before below is from ∙ none

-- a queue that was put back as it was
pub restored : {Z : Type 0} (queues : List Held) (c : ℕ) (was none last : Held) (before after : VecDeque ℕ Z) → c < length queues → was ≡ slice_index_or queues c was → held_of before ≡ was → after.items ≡ before.items → deque_capacity after ≡ deque_capacity before → last ≡ held_of after
    → slice_set (slice_set queues c none) c last ≡ queues
restored queues c was none last before after below is from items room last_is =
    refilled queues c was none last before after (held_at queues c).tokens below is from (items ∙ same-before queues c was before below is from) room last_is
    ∙ set-get_or queues c no_tokens
