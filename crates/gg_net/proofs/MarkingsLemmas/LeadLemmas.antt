-- Where lists of events lead.
use Rattle.std.proofs.Common.{◌≡◌, ℕ, zero, suc, ◌+◌, ◌-◌, ◌*◌, ◌<◌, List, [], ◌∷◌, Option, Some, None, Bool, true, false, length, refl, ap, sym, subst, ◌∙◌, inl, inr, arith}
use Rattle.std.specs.Prelude.{◌⊎◌, ◌&&◌, nat_lt}
use Rattle.std.specs.Option.{is_none}
use Rattle.std.proofs.lemmas.Bool.{cases_eq, cases_Bool, and_parts, and_cases, ltb-true, ltb-false, true≢false}
use Rattle.std.proofs.lemmas.List.{ext_get_or}
use Rattle.gg_flat.specs.Line.{value_at}
use Rattle.gg_net.specs.declared.event.Event.{Event}
use Rattle.gg_net.specs.declared.event.Event.TheVariants.{Latch, Fire, Serve, Finish}
use Rattle.gg_net.specs.Refusal.{Turn}
use Rattle.gg_net.specs.markings.Marking.{Layout, Marking, link_at, is_set, due_turn, marked_refusal, after}
use Rattle.gg_net.specs.Network.{and_one}
use Rattle.gg_net.proofs.MarkingsLemmas.ChangeLemmas.{same-parts}
use Rattle.gg_net.specs.inside.Counts.{Counts, counts_of, IsAllowed, AreAtMost, AreSame, IsBehind, Raises, CanRun, IsMarkingOf}
use Rattle.gg_net.specs.markings.Counts.{dues}
use Rattle.gg_net.proofs.MarkingsLemmas.Free.{FreeServe, Free}
use Rattle.gg_net.specs.inside.Measure.{left}
use Rattle.gg_net.specs.inside.Leads.{Leads}
use Rattle.gg_net.proofs.MarkingsLemmas.KeepLemmas.{keeps-allowed, stays-below}
use Rattle.gg_net.proofs.MarkingsLemmas.StuckLemmas.{stuck-same}
use Rattle.gg_net.proofs.MarkingsLemmas.FreeLemmas.{is-free, free-is, due-is}
use Rattle.gg_net.proofs.MarkingsLemmas.RaiseLemmas.{raises-after, shape-after}
use Rattle.gg_net.proofs.MarkingsLemmas.MeasureLemmas.{left-falls, left-below}

-- ---- a search below a number

any-below : (t : ℕ → Bool) (n : ℕ) → ((c : ℕ) × (c < n) × (t c ≡ true)) ⊎ ((c : ℕ) → c < n → t c ≡ false)
any-below t zero = inr (λ c lt. absurd (omega (arith, lt)))
any-below t (suc n) =
    elim (cases_Bool (t n)) [
      | inl passes ↦ inl (n, omega arith, passes)
      | inr fails ↦ elim (any-below t n) [
        | inl found ↦ inl (found.0, omega (arith, found.1), found.2)
        | inr none ↦ inr (λ c lt. elim (cases_eq c n) [ inl same ↦ ap t same ∙ fails | inr other ↦ none c (omega (arith, lt, other)) ])
      ]
    ]

none-is : {A : Type 0} (o : Option A) → is_none o ≡ true → o ≡ None
none-is None is = refl
none-is (Some x) is = absurd (true≢false (sym is))

-- a test of two parts that fails, although both hold
not-both : {A : Type 0} (o : Option A) (a b : ℕ) → (is_none o && nat_lt a b) ≡ false → o ≡ None → a < b → ⊥
not-both o a b fails none lt =
    elim (and_cases (is_none o) (nat_lt a b) fails) [
      | inl no_one ↦ true≢false (sym (ap is_none none) ∙ no_one)
      | inr over ↦ omega (arith, lt, ltb-false a b over)
    ]

abbrev number_of : Option Turn → ℕ
number_of None = 0
number_of (Some turn) = turn.number

-- ---- counts beside one another

pub at-most-self : (layout : Layout) (counts : Counts) → AreAtMost layout counts counts
at-most-self layout counts = record { puts = λ c known. omega arith; takes = λ c known. omega arith; cycles = λ m known. omega arith; serves = λ m known. omega arith }

pub at-most-raised : (layout : Layout) (old : Counts) (event : Event) (new goal : Counts) → Raises layout old event new → AreAtMost layout new goal → AreAtMost layout old goal
at-most-raised layout old event new goal raises le =
    record {
      puts = λ c known. omega (arith, raises.puts c known, le.puts c known);
      takes = λ c known. omega (arith, raises.takes c known, le.takes c known);
      cycles = λ m known. omega (arith, raises.cycles m known, le.cycles m known);
      serves = λ m known. omega (arith, raises.serves m known, le.serves m known);
    }

-- ---- markings with the same counts

one-mark : (n : ℕ) (a b : Bool) → and_one n a ≡ and_one n b → a ≡ b
one-mark n true true is = refl
one-mark n true false is = absurd (omega (arith, is))
one-mark n false true is = absurd (omega (arith, is))
one-mark n false false is = refl

module _ (layout : Layout) (can : CanRun layout) (a b : Marking) (a_shape : IsMarkingOf layout a) (b_shape : IsMarkingOf layout b) (same : AreSame layout (counts_of layout a) (counts_of layout b)) where
  one-cycle : (m : ℕ) → m < length layout.turns → value_at b.cycles m ≡ value_at a.cycles m
  one-cycle m known = same.cycles m known

  pub one-marking : b ≡ a
  one-marking =
      same-parts b a
      (ext_get_or 0 b.cycles a.cycles (b_shape.cycles ∙ sym a_shape.cycles) (λ m lt. one-cycle m (omega (arith, lt, b_shape.cycles))))
      (ext_get_or 0 b.served a.served (b_shape.served ∙ sym a_shape.served) (λ m lt.
      let known : m < length layout.turns = omega (arith, lt, b_shape.served) in
      omega (arith, same.serves m known, ap (λ n. dues layout m * n) (one-cycle m known))))
      (ext_get_or false b.taken a.taken (b_shape.taken ∙ sym a_shape.taken) (λ c lt.
      let known : c < length layout.links = omega (arith, lt, b_shape.taken) in
      one-mark (value_at a.cycles (link_at layout c).consumer) (is_set b.taken c) (is_set a.taken c) (ap (λ n. and_one n (is_set b.taken c)) (sym (one-cycle (link_at layout c).consumer (can.consumer c known))) ∙ same.takes c known)))
      (ext_get_or false b.given a.given (b_shape.given ∙ sym a_shape.given) (λ c lt.
      let known : c < length layout.links = omega (arith, lt, b_shape.given) in
      one-mark (value_at a.cycles (link_at layout c).producer) (is_set b.given c) (is_set a.given c) (ap (λ n. and_one n (is_set b.given c)) (sym (one-cycle (link_at layout c).producer (can.producer c known))) ∙ same.puts c known)))

-- ---- a step

-- what holds of a marking after an event
pub record Went (layout : Layout) (old : Marking) (event : Event) : Type 0 where
  pub shape : IsMarkingOf layout (after layout old event)
  pub allowed : IsAllowed layout (counts_of layout (after layout old event))
  pub raises : Raises layout (counts_of layout old) event (counts_of layout (after layout old event))
  pub falls : suc (left layout (counts_of layout (after layout old event))) ≡ left layout (counts_of layout old)

module _ (layout : Layout) (can : CanRun layout) where
  pub went : (old : Marking) (event : Event) → IsMarkingOf layout old → IsAllowed layout (counts_of layout old) → marked_refusal layout old event ≡ None → Went layout old event
  went old event shape allowed is =
      let free : Free layout (counts_of layout old) event = is-free layout old can allowed event is in
      let raises : Raises layout (counts_of layout old) event (counts_of layout (after layout old event)) = raises-after layout old shape event free in
      let next : IsAllowed layout (counts_of layout (after layout old event)) = keeps-allowed layout (counts_of layout old) (counts_of layout (after layout old event)) event can allowed free raises in
      record {
        shape = shape-after layout old shape event;
        allowed = next;
        raises = raises;
        falls = left-falls layout (counts_of layout old) (counts_of layout (after layout old event)) event next free raises;
      }

  -- ---- towards a goal

  module _ (marking : Marking) (goal : Counts) (allowed : IsAllowed layout (counts_of layout marking)) (high : IsAllowed layout goal) (le : AreAtMost layout (counts_of layout marking) goal) where
    abbrev counts : Counts
    counts = counts_of layout marking

    abbrev can_latch : ℕ → Bool
    can_latch c = is_none (marked_refusal layout marking (Latch c)) && nat_lt (counts.takes c) (goal.takes c)

    abbrev can_fire : ℕ → Bool
    can_fire c = is_none (marked_refusal layout marking (Fire c)) && nat_lt (counts.puts c) (goal.puts c)

    abbrev due_of : ℕ → ℕ
    due_of m = number_of (due_turn layout marking m)

    abbrev can_serve : ℕ → Bool
    can_serve m = is_none (marked_refusal layout marking (Serve m (due_of m))) && nat_lt (counts.serves m) (goal.serves m)

    abbrev can_finish : ℕ → Bool
    can_finish m = is_none (marked_refusal layout marking (Finish m)) && nat_lt (counts.cycles m) (goal.cycles m)

    due-of : (m p : ℕ) → FreeServe layout counts m p → due_of m ≡ p
    due-of m p free = ap number_of (due-is layout marking can m p free) ∙ free.number

    -- some event can be done that the goal has too, or the goal is reached
    pub next-event : ((event : Event) × (marked_refusal layout marking event ≡ None) × IsBehind counts goal event) ⊎ AreSame layout counts goal
    next-event =
        elim (any-below can_latch (length layout.links)) [
          | inl found ↦ let both : (is_none (marked_refusal layout marking (Latch found.0)) ≡ true) × (nat_lt (counts.takes found.0) (goal.takes found.0) ≡ true) = and_parts (is_none (marked_refusal layout marking (Latch found.0))) (nat_lt (counts.takes found.0) (goal.takes found.0)) found.2 in inl (Latch found.0, none-is (marked_refusal layout marking (Latch found.0)) both.0, ltb-true (counts.takes found.0) (goal.takes found.0) both.1)
          | inr no_latch ↦ elim (any-below can_fire (length layout.links)) [
            | inl found ↦ let both : (is_none (marked_refusal layout marking (Fire found.0)) ≡ true) × (nat_lt (counts.puts found.0) (goal.puts found.0) ≡ true) = and_parts (is_none (marked_refusal layout marking (Fire found.0))) (nat_lt (counts.puts found.0) (goal.puts found.0)) found.2 in inl (Fire found.0, none-is (marked_refusal layout marking (Fire found.0)) both.0, ltb-true (counts.puts found.0) (goal.puts found.0) both.1)
            | inr no_fire ↦ elim (any-below can_serve (length layout.turns)) [
              | inl found ↦ let both : (is_none (marked_refusal layout marking (Serve found.0 (due_of found.0))) ≡ true) × (nat_lt (counts.serves found.0) (goal.serves found.0) ≡ true) = and_parts (is_none (marked_refusal layout marking (Serve found.0 (due_of found.0)))) (nat_lt (counts.serves found.0) (goal.serves found.0)) found.2 in inl (Serve found.0 (due_of found.0), none-is (marked_refusal layout marking (Serve found.0 (due_of found.0))) both.0, ltb-true (counts.serves found.0) (goal.serves found.0) both.1)
              | inr no_serve ↦ elim (any-below can_finish (length layout.turns)) [
                | inl found ↦ let both : (is_none (marked_refusal layout marking (Finish found.0)) ≡ true) × (nat_lt (counts.cycles found.0) (goal.cycles found.0) ≡ true) = and_parts (is_none (marked_refusal layout marking (Finish found.0))) (nat_lt (counts.cycles found.0) (goal.cycles found.0)) found.2 in inl (Finish found.0, none-is (marked_refusal layout marking (Finish found.0)) both.0, ltb-true (counts.cycles found.0) (goal.cycles found.0) both.1)
                | inr no_finish ↦
                    inr (stuck-same layout can counts goal allowed high le
                    (λ c more free. not-both (marked_refusal layout marking (Latch c)) (counts.takes c) (goal.takes c) (no_latch c free.known) (free-is layout marking can (Latch c) free) more)
                    (λ c more free. not-both (marked_refusal layout marking (Fire c)) (counts.puts c) (goal.puts c) (no_fire c free.known) (free-is layout marking can (Fire c) free) more)
                    (λ m p more free. not-both (marked_refusal layout marking (Serve m (due_of m))) (counts.serves m) (goal.serves m) (no_serve m free.known) (ap (λ q. marked_refusal layout marking (Serve m q)) (due-of m p free) ∙ free-is layout marking can (Serve m p) free) more)
                    (λ m more free. not-both (marked_refusal layout marking (Finish m)) (counts.cycles m) (goal.cycles m) (no_finish m free.known) (free-is layout marking can (Finish m) free) more))
              ]
            ]
          ]
        ]

  -- ---- lists of events

  -- what a list of events keeps
  pub leads-kept : (old : Marking) (events : List Event) (new : Marking) → IsMarkingOf layout old → IsAllowed layout (counts_of layout old) → Leads layout old events new
      → IsMarkingOf layout new × IsAllowed layout (counts_of layout new) × (length events + left layout (counts_of layout new) ≡ left layout (counts_of layout old)) × AreAtMost layout (counts_of layout old) (counts_of layout new)
  leads-kept old [] new shape allowed leads =
      (subst (IsMarkingOf layout) (sym leads) shape, subst (λ marking. IsAllowed layout (counts_of layout marking)) (sym leads) allowed, ap (λ marking. 0 + left layout (counts_of layout marking)) leads ∙ (let same : 0 + left layout (counts_of layout old) ≡ left layout (counts_of layout old) = omega arith in same), subst (λ marking. AreAtMost layout (counts_of layout old) (counts_of layout marking)) (sym leads) (at-most-self layout (counts_of layout old)))
  leads-kept old (event ∷ events) new shape allowed leads =
      let step : Went layout old event = went old event shape allowed leads.0 in
      let rest : IsMarkingOf layout new × IsAllowed layout (counts_of layout new) × (length events + left layout (counts_of layout new) ≡ left layout (counts_of layout (after layout old event))) × AreAtMost layout (counts_of layout (after layout old event)) (counts_of layout new) =
      leads-kept (after layout old event) events new step.shape step.allowed leads.1 in
      (rest.0, rest.1, omega (arith, rest.2, step.falls), at-most-raised layout (counts_of layout old) event (counts_of layout (after layout old event)) (counts_of layout new) step.raises rest.3)

  module _ (goal : Marking) (goal_shape : IsMarkingOf layout goal) (high : IsAllowed layout (counts_of layout goal)) where
    reaches : (n : ℕ) (old : Marking) → IsMarkingOf layout old → IsAllowed layout (counts_of layout old) → AreAtMost layout (counts_of layout old) (counts_of layout goal) → left layout (counts_of layout old) ≡ n + left layout (counts_of layout goal)
        → (events : List Event) × Leads layout old events goal
    reaches zero old shape allowed le count =
        elim (next-event old (counts_of layout goal) allowed high le) [
          | inl found ↦
              let step : Went layout old found.0 = went old found.0 shape allowed found.1 in
              absurd (omega (arith, count, step.falls, left-below layout (counts_of layout (after layout old found.0)) (counts_of layout goal) (stays-below layout (counts_of layout old) (counts_of layout (after layout old found.0)) (counts_of layout goal) le found.0 found.2 step.raises)))
          | inr same ↦ ([], one-marking layout can old goal shape goal_shape same)
        ]
    reaches (suc n) old shape allowed le count =
        elim (next-event old (counts_of layout goal) allowed high le) [
          | inl found ↦
              let step : Went layout old found.0 = went old found.0 shape allowed found.1 in
              let rest : (events : List Event) × Leads layout (after layout old found.0) events goal =
              reaches n (after layout old found.0) step.shape step.allowed
              (stays-below layout (counts_of layout old) (counts_of layout (after layout old found.0)) (counts_of layout goal) le found.0 found.2 step.raises)
              (omega (arith, count, step.falls)) in
              (found.0 ∷ rest.0, (found.1, rest.1))
          | inr same ↦ ([], one-marking layout can old goal shape goal_shape same)
        ]

    -- from allowed counts to allowed counts that are nowhere lower there is a list of events
    pub leads-up : (old : Marking) → IsMarkingOf layout old → IsAllowed layout (counts_of layout old) → AreAtMost layout (counts_of layout old) (counts_of layout goal) → (events : List Event) × Leads layout old events goal
    leads-up old shape allowed le =
        reaches (left layout (counts_of layout old) - left layout (counts_of layout goal)) old shape allowed le (omega (arith, left-below layout (counts_of layout old) (counts_of layout goal) le))
