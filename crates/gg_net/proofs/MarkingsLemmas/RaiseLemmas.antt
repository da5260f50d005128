-- An event that may be done in a marking raises its own count by one, and no other.
use Rattle.std.proofs.Common.{◌≡◌, ◌≢◌, ℕ, suc, ◌+◌, ◌*◌, ◌<◌, List, Bool, true, false, length, ap, sym, ◌∙◌, inl, inr, arith, get_or-set_same, get_or-set_other}
use Rattle.std.specs.Prelude.{◌==◌, slice_set, if◌then◌else◌}
use Rattle.std.proofs.lemmas.Bool.{cases_eq, eq-eqb, ne_eqb}
use Rattle.std.proofs.lemmas.List.{length-set}
use Rattle.std.proofs.lemmas.List.FromFn.{length-map-range_with_len, get_or-map-range_with_len}
use Rattle.gg_flat.specs.Line.{value_at}
use Rattle.gg_net.specs.declared.event.Event.{Event}
use Rattle.gg_net.specs.declared.event.Event.TheVariants.{Latch, Fire, Serve, Finish}
use Rattle.gg_net.specs.markings.Marking.{Layout, Marking, Link, link_at, is_set, one_more, cleared, after}
use Rattle.gg_net.specs.Network.{and_one}
use Rattle.gg_net.specs.inside.Counts.{Counts, counts_of, one_at, Raises, IsMarkingOf}
use Rattle.gg_net.specs.markings.Counts.{dues}
use Rattle.gg_net.proofs.MarkingsLemmas.Free.{FreeLatch, FreeFire, FreeServe, FreeFinish, Free}
use Rattle.gg_net.proofs.MarkingsLemmas.SumLemmas.{one-here, one-elsewhere}

-- ---- entries

module _ (machine_of : Link → ℕ) (layout : Layout) (m : ℕ) (marks : List Bool) (c : ℕ) (known : c < length layout.links) where
  cleared-at : is_set (cleared machine_of layout m marks) c ≡ (if machine_of (link_at layout c) == m then false else is_set marks c)
  cleared-at = get_or-map-range_with_len (λ d. if machine_of (link_at layout d) == m then false else is_set marks d) 0 (length layout.links) c c false known (omega arith)

  cleared-own : machine_of (link_at layout c) ≡ m → is_set (cleared machine_of layout m marks) c ≡ false
  cleared-own same = cleared-at ∙ ap (λ (b : Bool). if b then false else is_set marks c) (eq-eqb (machine_of (link_at layout c)) m same)

  cleared-other : machine_of (link_at layout c) ≢ m → is_set (cleared machine_of layout m marks) c ≡ is_set marks c
  cleared-other other = cleared-at ∙ ap (λ (b : Bool). if b then false else is_set marks c) (ne_eqb (machine_of (link_at layout c)) m other)

-- the count of a channel whose machine, of the same cycle, has its mark as before
same-count : (n k : ℕ) (a b : Bool) → n ≡ k → a ≡ b → and_one n a ≡ and_one k b
same-count n k a b same mark = ap (λ i. and_one i a) same ∙ ap (and_one k) mark

module _ (layout : Layout) (marking : Marking) (shape : IsMarkingOf layout marking) where
  abbrev old : Counts
  old = counts_of layout marking

  abbrev new : Event → Counts
  new event = counts_of layout (after layout marking event)

  -- ---- Latch

  module _ (d : ℕ) (free : FreeLatch layout old d) where
    latch-there : d < length marking.taken
    latch-there = omega (arith, free.known, shape.taken)

    raise-takes : (c : ℕ) → (new (Latch d)).takes c ≡ old.takes c + one_at d c
    raise-takes c =
        elim (cases_eq d c) [
          | inl same ↦
              let set : is_set (slice_set marking.taken d true) c ≡ true = ap (is_set (slice_set marking.taken d true)) (sym same) ∙ get_or-set_same marking.taken d true false latch-there in
              let was : old.takes c ≡ value_at marking.cycles (link_at layout c).consumer = ap (λ e. old.takes e) (sym same) ∙ free.clear ∙ ap (λ e. value_at marking.cycles (link_at layout e).consumer) same in
              let is : (new (Latch d)).takes c ≡ suc (value_at marking.cycles (link_at layout c).consumer) = ap (and_one (value_at marking.cycles (link_at layout c).consumer)) set in
              omega (arith, was, is, one-here d c same)
          | inr other ↦
              let is : (new (Latch d)).takes c ≡ old.takes c = ap (and_one (value_at marking.cycles (link_at layout c).consumer)) (get_or-set_other marking.taken d c true false (λ e. other (sym e))) in
              omega (arith, is, one-elsewhere d c other)
        ]

    pub raises-latch : Raises layout old (Latch d) (new (Latch d))
    raises-latch =
        record {
          puts = λ c known. omega arith;
          takes = λ c known. raise-takes c;
          cycles = λ m known. omega arith;
          serves = λ m known. omega arith;
        }

  -- ---- Fire

  module _ (d : ℕ) (free : FreeFire layout old d) where
    fire-there : d < length marking.given
    fire-there = omega (arith, free.known, shape.given)

    raise-puts : (c : ℕ) → (new (Fire d)).puts c ≡ old.puts c + one_at d c
    raise-puts c =
        elim (cases_eq d c) [
          | inl same ↦
              let set : is_set (slice_set marking.given d true) c ≡ true = ap (is_set (slice_set marking.given d true)) (sym same) ∙ get_or-set_same marking.given d true false fire-there in
              let was : old.puts c ≡ value_at marking.cycles (link_at layout c).producer = ap (λ e. old.puts e) (sym same) ∙ free.clear ∙ ap (λ e. value_at marking.cycles (link_at layout e).producer) same in
              let is : (new (Fire d)).puts c ≡ suc (value_at marking.cycles (link_at layout c).producer) = ap (and_one (value_at marking.cycles (link_at layout c).producer)) set in
              omega (arith, was, is, one-here d c same)
          | inr other ↦
              let is : (new (Fire d)).puts c ≡ old.puts c = ap (and_one (value_at marking.cycles (link_at layout c).producer)) (get_or-set_other marking.given d c true false (λ e. other (sym e))) in
              omega (arith, is, one-elsewhere d c other)
        ]

    pub raises-fire : Raises layout old (Fire d) (new (Fire d))
    raises-fire =
        record {
          puts = λ c known. raise-puts c;
          takes = λ c known. omega arith;
          cycles = λ m known. omega arith;
          serves = λ m known. omega arith;
        }

  -- ---- Serve

  module _ (k p : ℕ) (free : FreeServe layout old k p) where
    raise-serves : (m : ℕ) → m < length layout.turns → (new (Serve k p)).serves m ≡ old.serves m + one_at k m
    raise-serves m known =
        elim (cases_eq k m) [
          | inl same ↦
              let is : value_at (one_more marking.served k) m ≡ suc (value_at marking.served m) =
              ap (value_at (one_more marking.served k)) (sym same) ∙ get_or-set_same marking.served k (suc (value_at marking.served k)) 0 (omega (arith, known, same, shape.served)) ∙ ap (λ n. suc (value_at marking.served n)) same in
              omega (arith, is, one-here k m same)
          | inr other ↦
              let is : value_at (one_more marking.served k) m ≡ value_at marking.served m = get_or-set_other marking.served k m (suc (value_at marking.served k)) 0 (λ e. other (sym e)) in
              omega (arith, is, one-elsewhere k m other)
        ]

    pub raises-serve : Raises layout old (Serve k p) (new (Serve k p))
    raises-serve =
        record {
          puts = λ c known. omega arith;
          takes = λ c known. omega arith;
          cycles = λ m known. omega arith;
          serves = λ m known. raise-serves m known;
        }

  -- ---- Finish

  module _ (k : ℕ) (free : FreeFinish layout old k) where
    finish-there : k < length marking.cycles
    finish-there = omega (arith, free.known, shape.cycles)

    cycle-own : (m : ℕ) → m ≡ k → value_at (one_more marking.cycles k) m ≡ suc (value_at marking.cycles m)
    cycle-own m same = ap (value_at (one_more marking.cycles k)) same ∙ get_or-set_same marking.cycles k (suc (value_at marking.cycles k)) 0 finish-there ∙ ap (λ n. suc (value_at marking.cycles n)) (sym same)

    cycle-other : (m : ℕ) → m ≢ k → value_at (one_more marking.cycles k) m ≡ value_at marking.cycles m
    cycle-other m other = get_or-set_other marking.cycles k m (suc (value_at marking.cycles k)) 0 other

    finish-takes : (c : ℕ) → c < length layout.links → (new (Finish k)).takes c ≡ old.takes c
    finish-takes c known =
        let q : ℕ = (link_at layout c).consumer in
        elim (cases_eq q k) [
          | inl same ↦
              same-count (value_at (one_more marking.cycles k) q) (suc (value_at marking.cycles q)) (is_set (cleared (λ link. link.consumer) layout k marking.taken) c) false (cycle-own q same) (cleared-own (λ link. link.consumer) layout k marking.taken c known same)
              ∙ ap (λ n. suc (value_at marking.cycles n)) same ∙ sym (free.taken c known same)
          | inr other ↦ same-count (value_at (one_more marking.cycles k) q) (value_at marking.cycles q) (is_set (cleared (λ link. link.consumer) layout k marking.taken) c) (is_set marking.taken c) (cycle-other q other) (cleared-other (λ link. link.consumer) layout k marking.taken c known other)
        ]

    finish-puts : (c : ℕ) → c < length layout.links → (new (Finish k)).puts c ≡ old.puts c
    finish-puts c known =
        let q : ℕ = (link_at layout c).producer in
        elim (cases_eq q k) [
          | inl same ↦
              same-count (value_at (one_more marking.cycles k) q) (suc (value_at marking.cycles q)) (is_set (cleared (λ link. link.producer) layout k marking.given) c) false (cycle-own q same) (cleared-own (λ link. link.producer) layout k marking.given c known same)
              ∙ ap (λ n. suc (value_at marking.cycles n)) same ∙ sym (free.given c known same)
          | inr other ↦ same-count (value_at (one_more marking.cycles k) q) (value_at marking.cycles q) (is_set (cleared (λ link. link.producer) layout k marking.given) c) (is_set marking.given c) (cycle-other q other) (cleared-other (λ link. link.producer) layout k marking.given c known other)
        ]

    finish-cycles : (m : ℕ) → (new (Finish k)).cycles m ≡ old.cycles m + one_at k m
    finish-cycles m =
        elim (cases_eq m k) [
          | inl same ↦ omega (arith, cycle-own m same, one-here k m (sym same))
          | inr other ↦ omega (arith, cycle-other m other, one-elsewhere k m (λ e. other (sym e)))
        ]

    finish-serves : (m : ℕ) → m < length layout.turns → (new (Finish k)).serves m ≡ old.serves m
    finish-serves m known =
        elim (cases_eq m k) [
          | inl same ↦
              let none : value_at (slice_set marking.served k 0) m ≡ 0 = ap (value_at (slice_set marking.served k 0)) same ∙ get_or-set_same marking.served k 0 0 (omega (arith, free.known, shape.served)) in
              let product : dues layout m * value_at (one_more marking.cycles k) m ≡ dues layout m * suc (value_at marking.cycles m) = ap (λ n. dues layout m * n) (cycle-own m same) in
              let full : old.serves m ≡ dues layout m * old.cycles m + dues layout m = ap (λ n. old.serves n) same ∙ free.served ∙ ap (λ n. dues layout n * old.cycles n + dues layout n) (sym same) in
              omega (arith, none, product, full)
          | inr other ↦
              let still : value_at (slice_set marking.served k 0) m ≡ value_at marking.served m = get_or-set_other marking.served k m 0 0 other in
              let product : dues layout m * value_at (one_more marking.cycles k) m ≡ dues layout m * value_at marking.cycles m = ap (λ n. dues layout m * n) (cycle-other m other) in
              omega (arith, still, product)
        ]

    pub raises-finish : Raises layout old (Finish k) (new (Finish k))
    raises-finish =
        record {
          puts = λ c known. omega (arith, finish-puts c known);
          takes = λ c known. omega (arith, finish-takes c known);
          cycles = λ m known. finish-cycles m;
          serves = λ m known. omega (arith, finish-serves m known);
        }

  pub raises-after : (event : Event) → Free layout old event → Raises layout old event (new event)
  raises-after (Latch c) free = raises-latch c free
  raises-after (Fire c) free = raises-fire c free
  raises-after (Serve m p) free = raises-serve m p free
  raises-after (Finish m) free = raises-finish m free

  -- a marking after an event has as many entries
  pub shape-after : (event : Event) → IsMarkingOf layout (after layout marking event)
  shape-after (Latch c) = record { cycles = shape.cycles; served = shape.served; taken = length-set marking.taken c true ∙ shape.taken; given = shape.given }
  shape-after (Fire c) = record { cycles = shape.cycles; served = shape.served; taken = shape.taken; given = length-set marking.given c true ∙ shape.given }
  shape-after (Serve m p) = record { cycles = shape.cycles; served = length-set marking.served m (suc (value_at marking.served m)) ∙ shape.served; taken = shape.taken; given = shape.given }
  shape-after (Finish m) =
      record {
        cycles = length-set marking.cycles m (suc (value_at marking.cycles m)) ∙ shape.cycles;
        served = length-set marking.served m 0 ∙ shape.served;
        taken = length-map-range_with_len (λ c. if (link_at layout c).consumer == m then false else is_set marking.taken c) 0 (length layout.links);
        given = length-map-range_with_len (λ c. if (link_at layout c).producer == m then false else is_set marking.given c) 0 (length layout.links);
      }
