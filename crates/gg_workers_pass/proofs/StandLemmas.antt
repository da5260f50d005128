-- One more link is opened, or the last is closed.
use Rattle.std.proofs.Common.{◌≡◌, ◌≢◌, ℕ, suc, ◌+◌, ◌<◌, ◌≤◌, ◌++◌, List, [], ◌∷◌, length, map, refl, sym, ap, subst, ◌∙◌, ⊎_elim, arith, get_or-set_same, get_or-set_other}
use Rattle.std.specs.Prelude.{slice_index_or, slice_set}
use Rattle.std.proofs.lemmas.Bool.{cases_eq, cases_lt}
use Rattle.std.proofs.lemmas.List.{length-append, length-set, get_or_append_left, get_or_at}
use Rattle.gg_flat.specs.Line.{value_at}
use Rattle.gg_flat.specs.Streams.{Flow}
use Rattle.gg_node.specs.Machine.{Machine, machine_at}
use Rattle.gg_link.specs.Seats.{SeatState, Starts, stream_of, between, WithinCapacity}
use Rattle.gg_net.specs.declared.shape.Wire.{Wire}
use Rattle.gg_net.specs.Network.{Network, wire_at, queue_at, takes, entered, kind_of, frame_of}
use Rattle.gg_net.specs.Kept.{list_at, BetweenAt, Kept}
use Rattle.gg_net.specs.inside.Parted.{takes_by, enters_by}
use Rattle.gg_net.specs.inside.Queue.{Held}
use Rattle.gg_net.specs.inside.Net.{held_at, HasRoom}
use Rattle.gg_net.proofs.MayLemmas.{producer-there}
use Rattle.gg_net.proofs.PartLemmas.{enters-short}
use Rattle.gg_workers_pass.specs.inside.Seats.{with_tokens, emptied, MayStand, LinkSeats, Linked, AreNew}
use Rattle.gg_workers_pass.proofs.QueueLemmas.{between-seats}

abbrev no_tokens : Held
no_tokens = record { tokens = []; room = 0 }

-- an element of a list with one more
snoc-old : {A : Type 0} (xs : List A) (x d : A) (n c : ℕ) → n ≡ length xs → c < n → slice_index_or (xs ++ x ∷ []) c d ≡ slice_index_or xs c d
snoc-old xs x d n c is lt = get_or_append_left xs (x ∷ []) d c (omega (arith, is, lt))

snoc-new : {A : Type 0} (xs : List A) (x d : A) (c : ℕ) → c ≡ length xs → slice_index_or (xs ++ x ∷ []) c d ≡ x
snoc-new xs x d c is = get_or_at xs x [] d c (sym is)

-- a queue that was given other tokens keeps its room
room-with : (wires : List Wire) (queues : List Held) (n : ℕ) (tokens : List ℕ) → n < length queues → HasRoom wires queues → HasRoom wires (slice_set queues n (with_tokens (held_at queues n) tokens))
room-with wires queues n tokens below room c known =
    ⊎_elim
    (λ (here : c ≡ n). subst (λ (q : Held). (wire_at wires c).capacity ≤ q.room) (sym (ap (held_at (slice_set queues n (with_tokens (held_at queues n) tokens))) here ∙ get_or-set_same queues n (with_tokens (held_at queues n) tokens) no_tokens below))
    (subst (λ k. (wire_at wires c).capacity ≤ (held_at queues k).room) here (room c known)))
    (λ (other : c ≢ n). subst (λ (q : Held). (wire_at wires c).capacity ≤ q.room) (sym (get_or-set_other queues n c (with_tokens (held_at queues n) tokens) no_tokens other)) (room c known))
    (cases_eq c n)

held-same : (queues : List Held) (n : ℕ) (new : Held) → n < length queues → held_at (slice_set queues n new) n ≡ new
held-same queues n new below = get_or-set_same queues n new no_tokens below

held-other : (queues : List Held) (n c : ℕ) (new : Held) → c ≢ n → held_at (slice_set queues n new) c ≡ held_at queues c
held-other queues n c new other = get_or-set_other queues n c new no_tokens other

module _ {X S T : Type 0} (takes_from : X → S → Type 0) (puts_into : X → T → Type 0) (taking : S → SeatState) (putting : T → SeatState) (flow : Flow) (net : Network) (kept : Kept flow net) where
  -- ---- one more

  module _ (links : List X) (put_seats : List T) (take_seats : List S) (queues : List Held) (h : Linked takes_from puts_into taking putting flow net net.machines links put_seats take_seats queues) (n : ℕ) (n_is : n ≡ length links) (known : n < length net.wires) where
    pub between-now : BetweenAt (list_at flow.lists n) (wire_at net.wires n).capacity (takes net n) (entered net n) (held_at queues n).tokens
    between-now = h.closed n (omega (arith, n_is)) known

    producer-below : (wire_at net.wires n).producer < length (map kind_of net.machines)
    producer-below = kept.sound.wired.producer n known

    pub entered-short : entered net n ≤ length (list_at flow.lists n)
    entered-short = enters-short flow (frame_of net) kept.sound (wire_at net.wires n).producer producer-below (machine_at net.machines (wire_at net.wires n).producer) (kept.machines (wire_at net.wires n).producer (producer-there flow net kept n known)) n known refl

    pub capacity-some : 1 ≤ (wire_at net.wires n).capacity
    capacity-some = omega (arith, kept.sound.wired.some n known)

    pub queue-known : n < length queues
    queue-known = omega (arith, h.count, known)

    same-length : length (held_at queues n).tokens ≡ length (queue_at net.queues n)
    same-length = omega (arith, between-now.held, (kept.channels n known).held)

    module _ (link : X) (put : T) (take : S) (into : puts_into link put) (from : takes_from link take) (start : ℕ) (start_is : start ≡ takes net n)
        (given : Starts (putting put) (stream_of flow n start) (wire_at net.wires n).capacity (length (held_at queues n).tokens) 0) (got : Starts (taking take) (stream_of flow n start) (wire_at net.wires n).capacity 0 (length (held_at queues n).tokens)) where
      new-seats : LinkSeats takes_from puts_into taking putting flow net net.machines n link put take
      new-seats =
          record {
            into = into;
            from = from;
            given = record { stream = given.stream ∙ ap (stream_of flow n) start_is; capacity = given.capacity; count = omega (arith, given.count, between-now.held) };
            got = record { stream = got.stream ∙ ap (stream_of flow n) start_is; capacity = got.capacity; count = omega (arith, got.count) };
          }

      pub opened : Linked takes_from puts_into taking putting flow net net.machines (links ++ link ∷ []) (put_seats ++ put ∷ []) (take_seats ++ take ∷ []) (slice_set queues n (emptied (held_at queues n)))
      opened =
          let more : length (links ++ link ∷ []) ≡ suc (length links) = omega (arith, length-append links (link ∷ [])) in
          record {
            few = omega (arith, more, n_is, known);
            put_count = omega (arith, more, length-append put_seats (put ∷ []), h.put_count);
            take_count = omega (arith, more, length-append take_seats (take ∷ []), h.take_count);
            count = length-set queues n (emptied (held_at queues n)) ∙ h.count;
            room = room-with net.wires queues n [] queue-known h.room;
            linked = λ c x p t lt. ⊎_elim
                (λ (low : c < length links).
                rw (snoc-old links link x (length links) c refl low, snoc-old put_seats put p (length links) c (sym h.put_count) low, snoc-old take_seats take t (length links) c (sym h.take_count) low) (h.linked c x p t low))
                (λ (le : length links ≤ c).
                let is : c ≡ n = omega (arith, le, lt, more, n_is) in
                let seats : LinkSeats takes_from puts_into taking putting flow net net.machines c link put take = subst (λ k. LinkSeats takes_from puts_into taking putting flow net net.machines k link put take) (sym is) new-seats in
                rw (snoc-new links link x c (is ∙ n_is), snoc-new put_seats put p c (is ∙ n_is ∙ sym h.put_count), snoc-new take_seats take t c (is ∙ n_is ∙ sym h.take_count)) seats)
                (cases_lt c (length links));
            empty = λ c lt. ⊎_elim
                (λ (here : c ≡ n). ap (λ (q : Held). q.tokens) (ap (held_at (slice_set queues n (emptied (held_at queues n)))) here ∙ held-same queues n (emptied (held_at queues n)) queue-known))
                (λ (other : c ≢ n). ap (λ (q : Held). q.tokens) (held-other queues n c (emptied (held_at queues n)) other) ∙ h.empty c (omega (arith, lt, more, n_is, other)))
                (cases_eq c n);
            closed = λ c le lt.
                let other : c ≢ n = λ same. omega (arith, le, more, n_is, same) in
                subst (λ (q : Held). BetweenAt (list_at flow.lists c) (wire_at net.wires c).capacity (takes net c) (entered net c) q.tokens) (sym (held-other queues n c (emptied (held_at queues n)) other)) (h.closed c (omega (arith, le, more)) lt);
          }

      pub new-more : AreNew taking putting net n put_seats take_seats → AreNew taking putting net (suc n) (put_seats ++ put ∷ []) (take_seats ++ take ∷ [])
      new-more old =
          record {
            given = λ c p lt. ⊎_elim
                (λ (low : c < n). ap (λ s. (putting s).count) (snoc-old put_seats put p n c (n_is ∙ sym h.put_count) low) ∙ old.given c p low)
                (λ (le : n ≤ c).
                let is : c ≡ n = omega (arith, le, lt) in
                ap (λ s. (putting s).count) (snoc-new put_seats put p c (is ∙ n_is ∙ sym h.put_count)) ∙ given.count ∙ same-length ∙ ap (λ k. length (queue_at net.queues k)) (sym is))
                (cases_lt c n);
            got = λ c t lt. ⊎_elim
                (λ (low : c < n).
                let same : slice_index_or (take_seats ++ take ∷ []) c t ≡ slice_index_or take_seats c t = snoc-old take_seats take t n c (n_is ∙ sym h.take_count) low in
                (ap (λ s. (taking s).count) same ∙ (old.got c t low).0, ap (λ s. (taking s).seen) same ∙ (old.got c t low).1))
                (λ (le : n ≤ c).
                let is : c ≡ n = omega (arith, le, lt) in
                let same : slice_index_or (take_seats ++ take ∷ []) c t ≡ take = snoc-new take_seats take t c (is ∙ n_is ∙ sym h.take_count) in
                (ap (λ s. (taking s).count) same ∙ got.count, ap (λ s. (taking s).seen) same ∙ got.seen ∙ same-length ∙ ap (λ k. length (queue_at net.queues k)) (sym is)))
                (cases_lt c n);
          }

  -- ---- the last is closed

  module _ (machines : List Machine) (owned : MayStand flow net machines) (links : List X) (link : X) (put_seats : List T) (put : T) (take_seats : List S) (take : S) (queues : List Held) (h : Linked takes_from puts_into taking putting flow net machines (links ++ link ∷ []) (put_seats ++ put ∷ []) (take_seats ++ take ∷ []) queues) where
    one-more : length (links ++ link ∷ []) ≡ suc (length links)
    one-more = omega (arith, length-append links (link ∷ []))

    last-known : length links < length net.wires
    last-known = omega (arith, one-more, h.few)

    put_seats-long : length links ≡ length put_seats
    put_seats-long = omega (arith, one-more, h.put_count, length-append put_seats (put ∷ []))

    take_seats-long : length links ≡ length take_seats
    take_seats-long = omega (arith, one-more, h.take_count, length-append take_seats (take ∷ []))

    pub last-seats : LinkSeats takes_from puts_into taking putting flow net machines (length links) link put take
    last-seats =
        let seats : LinkSeats takes_from puts_into taking putting flow net machines (length links) (slice_index_or (links ++ link ∷ []) (length links) link) (slice_index_or (put_seats ++ put ∷ []) (length links) put) (slice_index_or (take_seats ++ take ∷ []) (length links) take) = h.linked (length links) link put take (omega (arith, one-more)) in
        rw (snoc-new links link link (length links) refl, snoc-new put_seats put put (length links) put_seats-long, snoc-new take_seats take take (length links) take_seats-long) at seats

    pub last-empty : (held_at queues (length links)).tokens ≡ []
    last-empty = h.empty (length links) (omega (arith, one-more))

    pub last-queue : length links < length queues
    last-queue = omega (arith, last-known, h.count)

    pub last-room : (putting put).capacity ≤ (held_at queues (length links)).room
    last-room = omega (arith, h.room (length links) last-known, last-seats.given.capacity)

    pub closed-last : WithinCapacity (putting put) (taking take) → Linked takes_from puts_into taking putting flow net machines links put_seats take_seats (slice_set queues (length links) (with_tokens (held_at queues (length links)) (between (putting put) (taking take))))
    closed-last closes =
        let n : ℕ = length links in
        let new : Held = with_tokens (held_at queues (length links)) (between (putting put) (taking take)) in
        let m : ℕ = (wire_at net.wires n).producer in
        let short : enters_by (frame_of net) (machine_at machines m) n ≤ length (list_at flow.lists n) = enters-short flow (frame_of net) kept.sound m (kept.sound.wired.producer n last-known) (machine_at machines m) (owned.each m (producer-there flow net kept n last-known)) n last-known refl in
        let here : BetweenAt (list_at flow.lists n) (wire_at net.wires n).capacity (takes_by (frame_of net) (machine_at machines (wire_at net.wires n).consumer) n) (enters_by (frame_of net) (machine_at machines m) n) (between (putting put) (taking take)) =
        between-seats flow net n (enters_by (frame_of net) (machine_at machines m) n) (takes_by (frame_of net) (machine_at machines (wire_at net.wires n).consumer) n) (putting put) (taking take) last-seats.given last-seats.got closes short in
        record {
          few = omega (arith, last-known);
          put_count = sym put_seats-long;
          take_count = sym take_seats-long;
          count = length-set queues n new ∙ h.count;
          room = room-with net.wires queues n (between (putting put) (taking take)) last-queue h.room;
          linked = λ c x p t lt.
              let seats : LinkSeats takes_from puts_into taking putting flow net machines c (slice_index_or (links ++ link ∷ []) c x) (slice_index_or (put_seats ++ put ∷ []) c p) (slice_index_or (take_seats ++ take ∷ []) c t) = h.linked c x p t (omega (arith, lt, one-more)) in
              rw (snoc-old links link x (length links) c refl lt, snoc-old put_seats put p (length links) c put_seats-long lt, snoc-old take_seats take t (length links) c take_seats-long lt) at seats;
          empty = λ c lt. ap (λ (q : Held). q.tokens) (held-other queues n c new (λ same. omega (arith, lt, same))) ∙ h.empty c (omega (arith, lt, one-more));
          closed = λ c le known. ⊎_elim
              (λ (is : c ≡ n).
              subst (λ k. BetweenAt (list_at flow.lists k) (wire_at net.wires k).capacity (takes_by (frame_of net) (machine_at machines (wire_at net.wires k).consumer) k) (enters_by (frame_of net) (machine_at machines (wire_at net.wires k).producer) k) (held_at (slice_set queues n new) k).tokens) (sym is)
              (subst (λ (q : Held). BetweenAt (list_at flow.lists n) (wire_at net.wires n).capacity (takes_by (frame_of net) (machine_at machines (wire_at net.wires n).consumer) n) (enters_by (frame_of net) (machine_at machines m) n) q.tokens) (sym (held-same queues n new last-queue)) here))
              (λ (other : c ≢ n).
              subst (λ (q : Held). BetweenAt (list_at flow.lists c) (wire_at net.wires c).capacity (takes_by (frame_of net) (machine_at machines (wire_at net.wires c).consumer) c) (enters_by (frame_of net) (machine_at machines (wire_at net.wires c).producer) c) q.tokens) (sym (held-other queues n c new other)) (h.closed c (omega (arith, le, other, one-more)) known))
              (cases_eq c n);
        }

    pub close-room : (n : ℕ) → n ≡ length links → (putting put).capacity ≤ (held_at queues n).room
    close-room n is = subst (λ k. (putting put).capacity ≤ (held_at queues k).room) (sym is) last-room

    pub close-step : (n : ℕ) → n ≡ length links → (new : List Held) → new ≡ slice_set queues n (with_tokens (held_at queues n) (between (putting put) (taking take))) → WithinCapacity (putting put) (taking take)
        → Linked takes_from puts_into taking putting flow net machines links put_seats take_seats new
    close-step n is new new_is closes =
        subst (λ qs. Linked takes_from puts_into taking putting flow net machines links put_seats take_seats qs) (sym (new_is ∙ ap (λ k. slice_set queues k (with_tokens (held_at queues k) (between (putting put) (taking take)))) is)) (closed-last closes)

-- the last of each list, by what it was before
pub unrolled : {X S T : Type 0} (takes_from : X → S → Type 0) (puts_into : X → T → Type 0) (taking : S → SeatState) (putting : T → SeatState) (flow : Flow) (net : Network) (machines : List Machine) (links rest : List X) (link : X) (put_seats put_seats_rest : List T) (put : T) (take_seats take_seats_rest : List S) (take : S) (queues : List Held)
    → links ≡ rest ++ link ∷ [] → put_seats ≡ put_seats_rest ++ put ∷ [] → take_seats ≡ take_seats_rest ++ take ∷ []
    → Linked takes_from puts_into taking putting flow net machines links put_seats take_seats queues → Linked takes_from puts_into taking putting flow net machines (rest ++ link ∷ []) (put_seats_rest ++ put ∷ []) (take_seats_rest ++ take ∷ []) queues
unrolled takes_from puts_into taking putting flow net machines links rest link put_seats put_seats_rest put take_seats take_seats_rest take queues is put_seats_are take_seats_are h =
    subst (λ l. Linked takes_from puts_into taking putting flow net machines l (put_seats_rest ++ put ∷ []) (take_seats_rest ++ take ∷ []) queues) is
    (subst (λ l. Linked takes_from puts_into taking putting flow net machines links l (take_seats_rest ++ take ∷ []) queues) put_seats_are
    (subst (λ l. Linked takes_from puts_into taking putting flow net machines links put_seats l queues) take_seats_are h))

-- one more link, by the lists before and after
module _ {X S T : Type 0} (takes_from : X → S → Type 0) (puts_into : X → T → Type 0) (taking : S → SeatState) (putting : T → SeatState) (flow : Flow) (net : Network) (kept : Kept flow net) (wires : List Wire) (here : wires ≡ net.wires) (starts : List ℕ) (counted : (c : ℕ) → c < length wires → value_at starts c ≡ takes net c)
    (links : List X) (put_seats : List T) (take_seats : List S) (queues : List Held) (h : Linked takes_from puts_into taking putting flow net net.machines links put_seats take_seats queues) (n : ℕ) (n_is : n ≡ length links) (low : n < length wires) where
  known : n < length net.wires
  known = omega (arith, low, ap length here)

  same-capacity : (wire_at wires n).capacity ≡ (wire_at net.wires n).capacity
  same-capacity = ap (λ ws. (wire_at ws n).capacity) here

  pub open-between : (x : ℕ) × BetweenAt (list_at flow.lists n) (wire_at wires n).capacity (value_at starts n) x (held_at queues n).tokens × (x ≤ length (list_at flow.lists n))
  open-between = (
    entered net n,
    subst (λ k. BetweenAt (list_at flow.lists n) k (value_at starts n) (entered net n) (held_at queues n).tokens) (sym same-capacity)
        (subst (λ k. BetweenAt (list_at flow.lists n) (wire_at net.wires n).capacity k (entered net n) (held_at queues n).tokens) (sym (counted n low))
        (between-now takes_from puts_into taking putting flow net kept links put_seats take_seats queues h n n_is known)),
    entered-short takes_from puts_into taking putting flow net kept links put_seats take_seats queues h n n_is known,
  )

  module _ (link : X) (put : T) (take : S) (into : puts_into link put) (from : takes_from link take)
      (given : Starts (putting put) (stream_of flow n (value_at starts n)) (wire_at wires n).capacity (length (held_at queues n).tokens) 0) (got : Starts (taking take) (stream_of flow n (value_at starts n)) (wire_at wires n).capacity 0 (length (held_at queues n).tokens))
      (links' : List X) (links_are : links' ≡ links ++ link ∷ []) (put_seats' : List T) (put_seats_are : put_seats' ≡ put_seats ++ put ∷ []) (take_seats' : List S) (take_seats_are : take_seats' ≡ take_seats ++ take ∷ []) where
    given-here : Starts (putting put) (stream_of flow n (value_at starts n)) (wire_at net.wires n).capacity (length (held_at queues n).tokens) 0
    given-here = subst (λ k. Starts (putting put) (stream_of flow n (value_at starts n)) k (length (held_at queues n).tokens) 0) same-capacity given

    got-here : Starts (taking take) (stream_of flow n (value_at starts n)) (wire_at net.wires n).capacity 0 (length (held_at queues n).tokens)
    got-here = subst (λ k. Starts (taking take) (stream_of flow n (value_at starts n)) k 0 (length (held_at queues n).tokens)) same-capacity got

    pub open-step : (queues' : List Held) → queues' ≡ slice_set queues n (emptied (held_at queues n)) → Linked takes_from puts_into taking putting flow net net.machines links' put_seats' take_seats' queues'
    open-step queues' are =
        subst (λ l. Linked takes_from puts_into taking putting flow net net.machines l put_seats' take_seats' queues') (sym links_are)
        (subst (λ l. Linked takes_from puts_into taking putting flow net net.machines (links ++ link ∷ []) l take_seats' queues') (sym put_seats_are)
        (subst (λ l. Linked takes_from puts_into taking putting flow net net.machines (links ++ link ∷ []) (put_seats ++ put ∷ []) l queues') (sym take_seats_are)
        (subst (λ l. Linked takes_from puts_into taking putting flow net net.machines (links ++ link ∷ []) (put_seats ++ put ∷ []) (take_seats ++ take ∷ []) l) (sym are)
        (opened takes_from puts_into taking putting flow net kept links put_seats take_seats queues h n n_is known link put take into from (value_at starts n) (counted n low) given-here got-here))))

    pub open-more : length links' ≡ n + 1
    open-more = omega (arith, ap length links_are, length-append links (link ∷ []), n_is)

    pub open-new : AreNew taking putting net (length links) put_seats take_seats → AreNew taking putting net (length links') put_seats' take_seats'
    open-new old =
        subst (λ k. AreNew taking putting net k put_seats' take_seats') (sym open-more)
        (subst (λ l. AreNew taking putting net (n + 1) l take_seats') (sym put_seats_are)
        (subst (λ l. AreNew taking putting net (n + 1) (put_seats ++ put ∷ []) l) (sym take_seats_are)
        (subst (λ k. AreNew taking putting net k (put_seats ++ put ∷ []) (take_seats ++ take ∷ [])) (omega arith)
        (new-more takes_from puts_into taking putting flow net kept links put_seats take_seats queues h n n_is known link put take into from (value_at starts n) (counted n low) given-here got-here
        (subst (λ k. AreNew taking putting net k put_seats take_seats) (sym n_is) old)))))
