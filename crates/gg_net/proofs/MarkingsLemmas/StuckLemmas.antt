-- If no event can be done that leads from allowed counts towards higher ones, the counts are the same.
use Rattle.std.proofs.Common.{◌≡◌, ℕ, zero, suc, ◌+◌, ◌*◌, ◌<◌, ◌≤◌, [], length, refl, ap, ◌∙◌, inl, inr, arith}
use Rattle.std.proofs.Math.Nat.{mul-le-mul_left}
use Rattle.std.specs.Prelude.{All, slice_index_or}
use Rattle.std.proofs.lemmas.Bool.{cases_lt}
use Rattle.std.proofs.lemmas.Option.{slice_get-get_or}
use Rattle.gg_net.specs.Refusal.{Turn}
use Rattle.gg_net.specs.markings.Marking.{Layout, link_at, turns_at}
use Rattle.gg_net.specs.inside.Counts.{Counts, early, WasTaken, HasGiven, HasServed, IsAllowed, AreAtMost, AreSame, CanRun}
use Rattle.gg_net.specs.markings.Counts.{dues}
use Rattle.gg_net.proofs.MarkingsLemmas.Free.{FreeLatch, FreeFire, FreeServe, FreeFinish}
use Rattle.gg_net.proofs.MarkingsLemmas.EarlyLemmas.{early-few}

any_turn : Turn
any_turn = record { number = 0; fields = [] }

module _ (layout : Layout) (can : CanRun layout) (a b : Counts) (low : IsAllowed layout a) (high : IsAllowed layout b) (le : AreAtMost layout a b)
    (no_latch : (c : ℕ) → a.takes c < b.takes c → FreeLatch layout a c → ⊥) (no_fire : (c : ℕ) → a.puts c < b.puts c → FreeFire layout a c → ⊥)
    (no_serve : (m p : ℕ) → a.serves m < b.serves m → FreeServe layout a m p → ⊥) (no_finish : (m : ℕ) → a.cycles m < b.cycles m → FreeFinish layout a m → ⊥) where
  -- a channel of which more is to be taken, whose consumer has not taken in its cycle, holds no token
  no-token : (c : ℕ) → c < length layout.links → a.takes c < b.takes c → a.takes c ≡ a.cycles (link_at layout c).consumer → a.puts c + early layout c ≡ a.takes c
  no-token c known more at =
      elim (cases_lt (a.takes c) (a.puts c + early layout c)) [
        | inl held ↦ absurd (no_latch c more (record { known = known; below = omega (arith, at, more, high.take_end c known); clear = at; held = held }))
        | inr none ↦ omega (arith, none, (low.flows c known).least)
      ]

  module _ (k : ℕ) (behind : (m : ℕ) → m < length layout.turns → a.cycles m < b.cycles m → k ≤ a.cycles m) where
    -- few were taken and more are to be: the consumer has not taken in its cycle
    takes-at : (c : ℕ) → c < length layout.links → a.takes c < b.takes c → a.takes c ≤ k → a.takes c ≡ a.cycles (link_at layout c).consumer
    takes-at c known more few =
        elim (low.takes c known) [
          | inl at ↦ at
          | inr past ↦ elim (cases_lt (a.cycles (link_at layout c).consumer) (b.cycles (link_at layout c).consumer)) [
            | inl lt ↦ absurd (omega (arith, past, few, behind (link_at layout c).consumer (can.consumer c known) lt))
            | inr over ↦ absurd (omega (arith, past, over, more, high.takes c known))
          ]
        ]

    puts-at : (c : ℕ) → c < length layout.links → a.puts c < b.puts c → a.puts c ≤ k → a.puts c ≡ a.cycles (link_at layout c).producer
    puts-at c known more few =
        elim (low.puts c known) [
          | inl at ↦ at
          | inr past ↦ elim (cases_lt (a.cycles (link_at layout c).producer) (b.cycles (link_at layout c).producer)) [
            | inl lt ↦ absurd (omega (arith, past.given, few, behind (link_at layout c).producer (can.producer c known) lt))
            | inr over ↦ elim (high.puts c known) [
              | inl at ↦ absurd (omega (arith, past.given, over, more, at))
              | inr was ↦ absurd (omega (arith, past.given, over, more, was.given))
            ]
          ]
        ]

    -- there is room in a channel to which more is to be put
    has-room : (c : ℕ) → c < length layout.links → a.puts c < b.puts c → a.puts c ≤ k → a.puts c + early layout c < a.takes c + (link_at layout c).capacity
    has-room c known more few =
        elim (cases_lt (a.puts c + early layout c) (a.takes c + (link_at layout c).capacity)) [
          | inl room ↦ room
          | inr full ↦
              let later : a.takes c < b.takes c = omega (arith, full, more, (high.flows c known).most) in
              let some : a.takes c < a.puts c + early layout c = omega (arith, full, can.room c known) in
              absurd (omega (arith, some, no-token c known later (takes-at c known later (omega (arith, some, few, early-few (link_at layout c).piped)))))
        ]

    -- what a channel needs was taken, if what is needed was put
    needed-at : (c : ℕ) → c < length layout.links → a.puts c < b.puts c → a.puts c ≤ k
        → ((d : ℕ) → d < length layout.links → can.ranks d < can.ranks c → a.puts d < b.puts d → k < a.puts d)
        → All (WasTaken a (a.cycles (link_at layout c).producer)) (link_at layout c).needs
    needed-at c known more few before =
        λ i any lt.
        let d : ℕ = slice_index_or (link_at layout c).needs i any in
        let p : ℕ = (link_at layout c).producer in
        let is : (d < length layout.links) × ((link_at layout d).consumer ≡ p) = can.needs c known i any lt in
        let at : a.puts c ≡ a.cycles p = puts-at c known more few in
        let a_same : a.cycles (link_at layout d).consumer ≡ a.cycles p = ap a.cycles is.1 in
        let b_same : b.cycles (link_at layout d).consumer ≡ b.cycles p = ap b.cycles is.1 in
        elim (low.takes d is.0) [
          | inr taken ↦ omega (arith, taken, a_same)
          | inl empty ↦
              let later : a.takes d < b.takes d =
              elim (high.puts c known) [
                | inl up ↦ omega (arith, up, more, at, empty, a_same, b_same, high.takes d is.0)
                | inr was ↦ omega (arith, was.given, was.needed i any lt, more, at, empty, a_same)
              ] in
              let none : a.puts d + early layout d ≡ a.takes d = no-token d is.0 later empty in
              absurd (omega (arith, before d is.0 (can.lower c known i any lt) (omega (arith, none, later, (high.flows d is.0).least)), none, empty, a_same, at, few))
        ]

    -- each channel has its token of cycle k, by the ranks
    puts-by : (r c : ℕ) → c < length layout.links → can.ranks c < r → a.puts c < b.puts c → k < a.puts c
    puts-by zero c known lt more = absurd (omega (arith, lt))
    puts-by (suc r) c known lt more =
        elim (cases_lt k (a.puts c)) [
          | inl past ↦ past
          | inr few ↦
              let at : a.puts c ≡ a.cycles (link_at layout c).producer = puts-at c known more few in
              absurd (no_fire c more (record {
                known = known;
                below = omega (arith, at, more, high.put_end c known);
                clear = at;
                needed = needed-at c known more few (λ d d_known less later. puts-by r d d_known (omega (arith, less, lt)) later);
                room = has-room c known more few;
              }))
        ]

    puts-past : (c : ℕ) → c < length layout.links → a.puts c < b.puts c → k < a.puts c
    puts-past c known more = puts-by (suc (can.ranks c)) c known (omega arith) more

    takes-past : (c : ℕ) → c < length layout.links → a.takes c < b.takes c → k < a.takes c
    takes-past c known more =
        elim (cases_lt k (a.takes c)) [
          | inl past ↦ past
          | inr few ↦
              let none : a.puts c + early layout c ≡ a.takes c = no-token c known more (takes-at c known more few) in
              absurd (omega (arith, none, few, puts-past c known (omega (arith, none, more, (high.flows c known).least))))
        ]

    -- a machine that is to finish more cycles has finished cycle k
    module _ (m : ℕ) (known : m < length layout.turns) (more : a.cycles m < b.cycles m) (few : a.cycles m ≤ k) where
      all-given : HasGiven layout a m (a.cycles m)
      all-given c c_known is =
          elim (low.puts c c_known) [
            | inl at ↦
                let a_same : a.cycles (link_at layout c).producer ≡ a.cycles m = ap a.cycles is in
                let b_same : b.cycles (link_at layout c).producer ≡ b.cycles m = ap b.cycles is in
                let later : a.puts c < b.puts c =
                elim (high.puts c c_known) [
                  | inl up ↦ omega (arith, at, up, a_same, b_same, more)
                  | inr was ↦ omega (arith, at, was.given, a_same, b_same, more)
                ] in
                absurd (omega (arith, puts-past c c_known later, at, a_same, few))
            | inr was ↦ was.given ∙ ap (λ n. suc (a.cycles n)) is
          ]

      all-taken : (c : ℕ) → c < length layout.links → (link_at layout c).consumer ≡ m → a.takes c ≡ suc (a.cycles m)
      all-taken c c_known is =
          elim (low.takes c c_known) [
            | inl at ↦
                let a_same : a.cycles (link_at layout c).consumer ≡ a.cycles m = ap a.cycles is in
                let b_same : b.cycles (link_at layout c).consumer ≡ b.cycles m = ap b.cycles is in
                let later : a.takes c < b.takes c = omega (arith, at, a_same, b_same, more, high.takes c c_known) in
                absurd (omega (arith, takes-past c c_known later, at, a_same, few))
            | inr was ↦ was ∙ ap (λ n. suc (a.cycles n)) is
          ]

      below : a.cycles m < layout.end
      below = omega (arith, more, high.cycle_end m known)

      not-finished : ⊥
      not-finished =
          let has : (j : ℕ) × HasServed layout a m j = low.serves m known in
          let goal : (j : ℕ) × HasServed layout b m j = high.serves m known in
          elim (cases_lt has.0 (dues layout m)) [
            | inl lt ↦
                no_serve m (slice_index_or (turns_at layout m) has.0 any_turn).number (omega (arith, has.1.count, goal.1.count, lt, mul-le-mul_left (dues layout m) more)) (record {
                  known = known;
                  below = below;
                  given = all-given;
                  served = has.0;
                  count = has.1.count;
                  turn = slice_index_or (turns_at layout m) has.0 any_turn;
                  due = slice_get-get_or (turns_at layout m) has.0 any_turn lt;
                  number = refl;
                  fields = λ i any i_lt. let is : (slice_index_or (slice_index_or (turns_at layout m) has.0 any_turn).fields i any < length layout.links) × ((link_at layout (slice_index_or (slice_index_or (turns_at layout m) has.0 any_turn).fields i any)).consumer ≡ m) = can.fields m known has.0 any_turn lt i any i_lt in all-taken (slice_index_or (slice_index_or (turns_at layout m) has.0 any_turn).fields i any) is.0 is.1;
                })
            | inr all ↦
                no_finish m more (record {
                  known = known;
                  below = below;
                  given = all-given;
                  served = omega (arith, has.1.count, has.1.within, all);
                  taken = all-taken;
                })
          ]

    cycles-past : (m : ℕ) → m < length layout.turns → a.cycles m < b.cycles m → k < a.cycles m
    cycles-past m known more =
        elim (cases_lt k (a.cycles m)) [
          | inl past ↦ past
          | inr few ↦ absurd (not-finished m known more few)
        ]

  -- a machine that is to finish more cycles has finished any number of them
  past-all : (k m : ℕ) → m < length layout.turns → a.cycles m < b.cycles m → k ≤ a.cycles m
  past-all zero m known more = omega arith
  past-all (suc k) m known more = cycles-past k (past-all k) m known more

  same-cycles : (m : ℕ) → m < length layout.turns → b.cycles m ≡ a.cycles m
  same-cycles m known =
      elim (cases_lt (a.cycles m) (b.cycles m)) [
        | inl more ↦ absurd (omega (arith, past-all (suc layout.end) m known more, low.cycle_end m known))
        | inr over ↦ omega (arith, over, le.cycles m known)
      ]

  same-puts : (c : ℕ) → c < length layout.links → b.puts c ≡ a.puts c
  same-puts c known =
      elim (cases_lt (a.puts c) (b.puts c)) [
        | inl more ↦ absurd (omega (arith, puts-past layout.end (past-all layout.end) c known more, low.put_end c known))
        | inr over ↦ omega (arith, over, le.puts c known)
      ]

  same-takes : (c : ℕ) → c < length layout.links → b.takes c ≡ a.takes c
  same-takes c known =
      elim (cases_lt (a.takes c) (b.takes c)) [
        | inl more ↦ absurd (omega (arith, takes-past layout.end (past-all layout.end) c known more, low.take_end c known))
        | inr over ↦ omega (arith, over, le.takes c known)
      ]

  same-serves : (m : ℕ) → m < length layout.turns → b.serves m ≡ a.serves m
  same-serves m known =
      let has : (j : ℕ) × HasServed layout a m j = low.serves m known in
      let goal : (j : ℕ) × HasServed layout b m j = high.serves m known in
      let cycle : b.cycles m ≡ a.cycles m = same-cycles m known in
      let product : dues layout m * b.cycles m ≡ dues layout m * a.cycles m = ap (λ n. dues layout m * n) cycle in
      elim (cases_lt (a.serves m) (b.serves m)) [
        | inr over ↦ omega (arith, over, le.serves m known)
        | inl more ↦
            let lt : has.0 < goal.0 = omega (arith, more, has.1.count, goal.1.count, product) in
            let due : has.0 < dues layout m = omega (arith, lt, goal.1.within) in
            absurd (no_serve m (slice_index_or (turns_at layout m) has.0 any_turn).number more (record {
              known = known;
              below = elim (cases_lt (a.cycles m) layout.end) [
                | inl below ↦ below
                | inr over ↦
                    let at : a.cycles m ≡ layout.end = omega (arith, over, low.cycle_end m known) in
                    absurd (omega (arith, lt, goal.1.count, product, ap (λ n. dues layout m * n) at, high.serve_end m known))
              ];
              given = λ c c_known is. omega (arith, goal.1.given (omega (arith, lt)) c c_known is, same-puts c c_known, cycle);
              served = has.0;
              count = has.1.count;
              turn = slice_index_or (turns_at layout m) has.0 any_turn;
              due = slice_get-get_or (turns_at layout m) has.0 any_turn due;
              number = refl;
              fields = λ i any i_lt.
                  let d : ℕ = slice_index_or (slice_index_or (turns_at layout m) has.0 any_turn).fields i any in
                  let is : (d < length layout.links) × ((link_at layout d).consumer ≡ m) = can.fields m known has.0 any_turn due i any i_lt in
                  let taken : b.takes d ≡ suc (b.cycles m) = goal.1.fields has.0 any_turn lt i any i_lt in
                  omega (arith, taken, same-takes d is.0, cycle);
            }))
      ]

  pub stuck-same : AreSame layout a b
  stuck-same = record { puts = same-puts; takes = same-takes; cycles = same-cycles; serves = same-serves }
