-- An event that may be done keeps counts allowed.
use Rattle.std.proofs.Common.{◌≡◌, ℕ, suc, ◌+◌, ◌*◌, ◌<◌, List, length, refl, ap, sym, subst, ◌∙◌, inl, inr, arith}
use Rattle.std.proofs.Math.Nat.{mul-le-mul_left}
use Rattle.std.specs.Prelude.{All, slice_index_or}
use Rattle.std.proofs.lemmas.Bool.{cases_lt}
use Rattle.std.proofs.lemmas.Option.{slice_get_within, get_or_from_slice_get}
use Rattle.gg_net.specs.declared.event.Event.{Event}
use Rattle.gg_net.specs.declared.event.Event.TheVariants.{Latch, Fire, Serve, Finish}
use Rattle.gg_net.specs.Refusal.{Turn}
use Rattle.gg_net.specs.markings.Marking.{Layout, link_at, turns_at}
use Rattle.gg_net.specs.inside.Counts.{Counts, WasTaken, WasGiven, HasServed, IsAllowed, AreAtMost, IsBehind, Raises, CanRun}
use Rattle.gg_net.specs.markings.Counts.{dues}
use Rattle.gg_net.proofs.MarkingsLemmas.Free.{FreeLatch, FreeFire, FreeServe, FreeFinish, Free}
use Rattle.gg_net.proofs.MarkingsLemmas.SumLemmas.{one-cases}

-- ---- what an event leaves

module _ (layout : Layout) (old new : Counts) (can : CanRun layout)
    (puts-stay : (c : ℕ) → c < length layout.links → old.puts c ≡ suc (old.cycles (link_at layout c).producer) → new.puts c ≡ old.puts c)
    (takes-stay : (c : ℕ) → c < length layout.links → old.takes c ≡ suc (old.cycles (link_at layout c).consumer) → new.takes c ≡ old.takes c) where
  -- tokens that a machine has taken in its cycle stay taken
  taken-on : (m : ℕ) (channels : List ℕ) → new.cycles m ≡ old.cycles m → All (λ d. (d < length layout.links) × ((link_at layout d).consumer ≡ m)) channels → All (WasTaken old (old.cycles m)) channels → All (WasTaken new (new.cycles m)) channels
  taken-on m channels same known taken =
      λ i any lt.
      let d : ℕ = slice_index_or channels i any in
      let is : (d < length layout.links) × ((link_at layout d).consumer ≡ m) = known i any lt in
      takes-stay d is.0 (taken i any lt ∙ ap (λ k. suc (old.cycles k)) (sym is.1)) ∙ taken i any lt ∙ ap suc (sym same)

  pub given-on : (c : ℕ) → c < length layout.links → new.cycles (link_at layout c).producer ≡ old.cycles (link_at layout c).producer → WasGiven layout old c → WasGiven layout new c
  given-on c known same was =
      record {
        given = puts-stay c known was.given ∙ was.given ∙ ap suc (sym same);
        needed = taken-on (link_at layout c).producer (link_at layout c).needs same (can.needs c known) was.needed;
      }

  -- a machine that has served its first j ports, and neither serves nor finishes
  pub served-on : (m j : ℕ) → m < length layout.turns → new.cycles m ≡ old.cycles m → new.serves m ≡ old.serves m → HasServed layout old m j → HasServed layout new m j
  served-on m j known same serves has =
      record {
        count = serves ∙ has.count ∙ ap (λ k. dues layout m * k + j) (sym same);
        within = has.within;
        given = λ some c in_range is. puts-stay c in_range (has.given some c in_range is ∙ ap (λ k. suc (old.cycles k)) (sym is)) ∙ has.given some c in_range is ∙ ap suc (sym same);
        fields = λ i any lt. taken-on m (slice_index_or (turns_at layout m) i any).fields same (can.fields m known i any (omega (arith, lt, has.within))) (has.fields i any lt);
      }

module _ (layout : Layout) (old new : Counts) (can : CanRun layout) (allowed : IsAllowed layout old) where
  -- ---- Latch

  module _ (d : ℕ) (free : FreeLatch layout old d) (raises : Raises layout old (Latch d) new) where
    latch-at : (c : ℕ) → d ≡ c → FreeLatch layout old c
    latch-at c same = subst (FreeLatch layout old) same free

    latch-puts : (c : ℕ) → c < length layout.links → old.puts c ≡ suc (old.cycles (link_at layout c).producer) → new.puts c ≡ old.puts c
    latch-puts c known is = omega (arith, raises.puts c known)

    latch-takes : (c : ℕ) → c < length layout.links → old.takes c ≡ suc (old.cycles (link_at layout c).consumer) → new.takes c ≡ old.takes c
    latch-takes c known is = elim (one-cases d c) [
      | inl here ↦ absurd (omega (arith, (latch-at c here.0).clear, is))
      | inr other ↦ omega (arith, raises.takes c known, other.1)
    ]

    latch-cycles : (m : ℕ) → m < length layout.turns → new.cycles m ≡ old.cycles m
    latch-cycles m known = omega (arith, raises.cycles m known)

    pub keeps-latch : IsAllowed layout new
    keeps-latch =
        record {
          flows = λ c known. elim (one-cases d c) [
            | inl here ↦ record { least = omega (arith, (latch-at c here.0).held, raises.puts c known, raises.takes c known, here.1); most = omega (arith, (allowed.flows c known).most, raises.puts c known, raises.takes c known) }
            | inr other ↦ record { least = omega (arith, (allowed.flows c known).least, raises.puts c known, raises.takes c known, other.1); most = omega (arith, (allowed.flows c known).most, raises.puts c known, raises.takes c known) }
          ];
          puts = λ c known. elim (allowed.puts c known) [
            | inl is ↦ inl (omega (arith, is, raises.puts c known, latch-cycles (link_at layout c).producer (can.producer c known)))
            | inr was ↦ inr (given-on layout old new can latch-puts latch-takes c known (latch-cycles (link_at layout c).producer (can.producer c known)) was)
          ];
          takes = λ c known. elim (one-cases d c) [
            | inl here ↦ inr (omega (arith, (latch-at c here.0).clear, raises.takes c known, here.1, latch-cycles (link_at layout c).consumer (can.consumer c known)))
            | inr other ↦ elim (allowed.takes c known) [
              | inl is ↦ inl (omega (arith, is, raises.takes c known, other.1, latch-cycles (link_at layout c).consumer (can.consumer c known)))
              | inr is ↦ inr (omega (arith, is, raises.takes c known, other.1, latch-cycles (link_at layout c).consumer (can.consumer c known)))
            ]
          ];
          serves = λ m known. let has : (j : ℕ) × HasServed layout old m j = allowed.serves m known in (has.0, served-on layout old new can latch-puts latch-takes m has.0 known (latch-cycles m known) (omega (arith, raises.serves m known)) has.1);
          cycle_end = λ m known. omega (arith, allowed.cycle_end m known, latch-cycles m known);
          put_end = λ c known. omega (arith, allowed.put_end c known, raises.puts c known);
          take_end = λ c known. elim (one-cases d c) [
            | inl here ↦ omega (arith, (latch-at c here.0).clear, (latch-at c here.0).below, raises.takes c known, here.1)
            | inr other ↦ omega (arith, allowed.take_end c known, raises.takes c known, other.1)
          ];
          serve_end = λ m known. omega (arith, allowed.serve_end m known, raises.serves m known);
        }

  -- ---- Fire

  module _ (d : ℕ) (free : FreeFire layout old d) (raises : Raises layout old (Fire d) new) where
    fire-at : (c : ℕ) → d ≡ c → FreeFire layout old c
    fire-at c same = subst (FreeFire layout old) same free

    fire-puts : (c : ℕ) → c < length layout.links → old.puts c ≡ suc (old.cycles (link_at layout c).producer) → new.puts c ≡ old.puts c
    fire-puts c known is = elim (one-cases d c) [
      | inl here ↦ absurd (omega (arith, (fire-at c here.0).clear, is))
      | inr other ↦ omega (arith, raises.puts c known, other.1)
    ]

    fire-takes : (c : ℕ) → c < length layout.links → old.takes c ≡ suc (old.cycles (link_at layout c).consumer) → new.takes c ≡ old.takes c
    fire-takes c known is = omega (arith, raises.takes c known)

    fire-cycles : (m : ℕ) → m < length layout.turns → new.cycles m ≡ old.cycles m
    fire-cycles m known = omega (arith, raises.cycles m known)

    pub keeps-fire : IsAllowed layout new
    keeps-fire =
        record {
          flows = λ c known. elim (one-cases d c) [
            | inl here ↦ record { least = omega (arith, (allowed.flows c known).least, raises.puts c known, raises.takes c known); most = omega (arith, (fire-at c here.0).room, raises.puts c known, raises.takes c known, here.1) }
            | inr other ↦ record { least = omega (arith, (allowed.flows c known).least, raises.puts c known, raises.takes c known, other.1); most = omega (arith, (allowed.flows c known).most, raises.puts c known, raises.takes c known, other.1) }
          ];
          puts = λ c known.
              let same : new.cycles (link_at layout c).producer ≡ old.cycles (link_at layout c).producer = fire-cycles (link_at layout c).producer (can.producer c known) in
              elim (one-cases d c) [
                | inl here ↦ inr (record {
                  given = omega (arith, (fire-at c here.0).clear, raises.puts c known, here.1, same);
                  needed = taken-on layout old new can fire-puts fire-takes (link_at layout c).producer (link_at layout c).needs same (can.needs c known) (fire-at c here.0).needed;
                })
                | inr other ↦ elim (allowed.puts c known) [
                  | inl is ↦ inl (omega (arith, is, raises.puts c known, other.1, same))
                  | inr was ↦ inr (given-on layout old new can fire-puts fire-takes c known same was)
                ]
              ];
          takes = λ c known. elim (allowed.takes c known) [
            | inl is ↦ inl (omega (arith, is, raises.takes c known, fire-cycles (link_at layout c).consumer (can.consumer c known)))
            | inr is ↦ inr (omega (arith, is, raises.takes c known, fire-cycles (link_at layout c).consumer (can.consumer c known)))
          ];
          serves = λ m known. let has : (j : ℕ) × HasServed layout old m j = allowed.serves m known in (has.0, served-on layout old new can fire-puts fire-takes m has.0 known (fire-cycles m known) (omega (arith, raises.serves m known)) has.1);
          cycle_end = λ m known. omega (arith, allowed.cycle_end m known, fire-cycles m known);
          put_end = λ c known. elim (one-cases d c) [
            | inl here ↦ omega (arith, (fire-at c here.0).clear, (fire-at c here.0).below, raises.puts c known, here.1)
            | inr other ↦ omega (arith, allowed.put_end c known, raises.puts c known, other.1)
          ];
          take_end = λ c known. omega (arith, allowed.take_end c known, raises.takes c known);
          serve_end = λ m known. omega (arith, allowed.serve_end m known, raises.serves m known);
        }

  -- ---- Serve

  module _ (k p : ℕ) (free : FreeServe layout old k p) (raises : Raises layout old (Serve k p) new) where
    serve-at : (m : ℕ) → k ≡ m → FreeServe layout old m p
    serve-at m same = subst (λ n. FreeServe layout old n p) same free

    serve-puts : (c : ℕ) → c < length layout.links → old.puts c ≡ suc (old.cycles (link_at layout c).producer) → new.puts c ≡ old.puts c
    serve-puts c known is = omega (arith, raises.puts c known)

    serve-takes : (c : ℕ) → c < length layout.links → old.takes c ≡ suc (old.cycles (link_at layout c).consumer) → new.takes c ≡ old.takes c
    serve-takes c known is = omega (arith, raises.takes c known)

    serve-cycles : (m : ℕ) → m < length layout.turns → new.cycles m ≡ old.cycles m
    serve-cycles m known = omega (arith, raises.cycles m known)

    -- the machine that serves
    one-more : (m : ℕ) → m < length layout.turns → (at : FreeServe layout old m p) → new.serves m ≡ suc (old.serves m) → HasServed layout new m (suc at.served)
    one-more m known at more =
        let has : (j : ℕ) × HasServed layout old m j = allowed.serves m known in
        let j_is : has.0 ≡ at.served = omega (arith, has.1.count, at.count) in
        let same : new.cycles m ≡ old.cycles m = serve-cycles m known in
        let within : at.served < dues layout m = slice_get_within (turns_at layout m) at.served at.turn at.due in
        record {
          count = omega (arith, more, at.count, ap (λ n. dues layout m * n) same);
          within = within;
          given = λ some c in_range is. omega (arith, at.given c in_range is, raises.puts c in_range, same);
          fields = λ i any lt.
              taken-on layout old new can serve-puts serve-takes m (slice_index_or (turns_at layout m) i any).fields same (can.fields m known i any (omega (arith, lt, within)))
              (elim (cases_lt i at.served) [
                | inl before ↦ has.1.fields i any (omega (arith, before, j_is))
                | inr past ↦
                    let is : i ≡ at.served = omega (arith, lt, past) in
                    subst (λ (t : Turn). All (WasTaken old (old.cycles m)) t.fields) (sym (ap (λ n. slice_index_or (turns_at layout m) n any) is ∙ get_or_from_slice_get (turns_at layout m) at.served at.turn any at.due)) at.fields
              ]);
        }

    pub keeps-serve : IsAllowed layout new
    keeps-serve =
        record {
          flows = λ c known. record { least = omega (arith, (allowed.flows c known).least, raises.puts c known, raises.takes c known); most = omega (arith, (allowed.flows c known).most, raises.puts c known, raises.takes c known) };
          puts = λ c known. elim (allowed.puts c known) [
            | inl is ↦ inl (omega (arith, is, raises.puts c known, serve-cycles (link_at layout c).producer (can.producer c known)))
            | inr was ↦ inr (given-on layout old new can serve-puts serve-takes c known (serve-cycles (link_at layout c).producer (can.producer c known)) was)
          ];
          takes = λ c known. elim (allowed.takes c known) [
            | inl is ↦ inl (omega (arith, is, raises.takes c known, serve-cycles (link_at layout c).consumer (can.consumer c known)))
            | inr is ↦ inr (omega (arith, is, raises.takes c known, serve-cycles (link_at layout c).consumer (can.consumer c known)))
          ];
          serves = λ m known. elim (one-cases k m) [
            | inl here ↦ (suc (serve-at m here.0).served, one-more m known (serve-at m here.0) (omega (arith, raises.serves m known, here.1)))
            | inr other ↦ let has : (j : ℕ) × HasServed layout old m j = allowed.serves m known in (has.0, served-on layout old new can serve-puts serve-takes m has.0 known (serve-cycles m known) (omega (arith, raises.serves m known, other.1)) has.1)
          ];
          cycle_end = λ m known. omega (arith, allowed.cycle_end m known, serve-cycles m known);
          put_end = λ c known. omega (arith, allowed.put_end c known, raises.puts c known);
          take_end = λ c known. omega (arith, allowed.take_end c known, raises.takes c known);
          serve_end = λ m known. elim (one-cases k m) [
            | inl here ↦
                let at : FreeServe layout old m p = serve-at m here.0 in
                omega (arith, at.count, raises.serves m known, here.1, slice_get_within (turns_at layout m) at.served at.turn at.due, mul-le-mul_left (dues layout m) at.below)
            | inr other ↦ omega (arith, allowed.serve_end m known, raises.serves m known, other.1)
          ];
        }

  -- ---- Finish

  module _ (k : ℕ) (free : FreeFinish layout old k) (raises : Raises layout old (Finish k) new) where
    finish-at : (m : ℕ) → k ≡ m → FreeFinish layout old m
    finish-at m same = subst (FreeFinish layout old) same free

    finish-puts : (c : ℕ) → c < length layout.links → old.puts c ≡ suc (old.cycles (link_at layout c).producer) → new.puts c ≡ old.puts c
    finish-puts c known is = omega (arith, raises.puts c known)

    finish-takes : (c : ℕ) → c < length layout.links → old.takes c ≡ suc (old.cycles (link_at layout c).consumer) → new.takes c ≡ old.takes c
    finish-takes c known is = omega (arith, raises.takes c known)

    pub keeps-finish : IsAllowed layout new
    keeps-finish =
        record {
          flows = λ c known. record { least = omega (arith, (allowed.flows c known).least, raises.puts c known, raises.takes c known); most = omega (arith, (allowed.flows c known).most, raises.puts c known, raises.takes c known) };
          puts = λ c known.
              let m : ℕ = (link_at layout c).producer in
              elim (one-cases k m) [
                | inl here ↦ inl (omega (arith, (finish-at m here.0).given c known refl, raises.puts c known, raises.cycles m (can.producer c known), here.1))
                | inr other ↦ elim (allowed.puts c known) [
                  | inl is ↦ inl (omega (arith, is, raises.puts c known, raises.cycles m (can.producer c known), other.1))
                  | inr was ↦ inr (given-on layout old new can finish-puts finish-takes c known (omega (arith, raises.cycles m (can.producer c known), other.1)) was)
                ]
              ];
          takes = λ c known.
              let m : ℕ = (link_at layout c).consumer in
              elim (one-cases k m) [
                | inl here ↦ inl (omega (arith, (finish-at m here.0).taken c known refl, raises.takes c known, raises.cycles m (can.consumer c known), here.1))
                | inr other ↦ elim (allowed.takes c known) [
                  | inl is ↦ inl (omega (arith, is, raises.takes c known, raises.cycles m (can.consumer c known), other.1))
                  | inr is ↦ inr (omega (arith, is, raises.takes c known, raises.cycles m (can.consumer c known), other.1))
                ]
              ];
          serves = λ m known. elim (one-cases k m) [
            | inl here ↦
                let next : new.cycles m ≡ suc (old.cycles m) = omega (arith, raises.cycles m known, here.1) in (
                  0,
                  record {
                    count = omega (arith, (finish-at m here.0).served, raises.serves m known, ap (λ n. dues layout m * n) next);
                    within = omega arith;
                    given = λ some. absurd (omega (arith, some));
                    fields = λ i any lt. absurd (omega (arith, lt));
                  },
                )
            | inr other ↦ let has : (j : ℕ) × HasServed layout old m j = allowed.serves m known in (has.0, served-on layout old new can finish-puts finish-takes m has.0 known (omega (arith, raises.cycles m known, other.1)) (omega (arith, raises.serves m known)) has.1)
          ];
          cycle_end = λ m known. elim (one-cases k m) [
            | inl here ↦ omega (arith, (finish-at m here.0).below, raises.cycles m known, here.1)
            | inr other ↦ omega (arith, allowed.cycle_end m known, raises.cycles m known, other.1)
          ];
          put_end = λ c known. omega (arith, allowed.put_end c known, raises.puts c known);
          take_end = λ c known. omega (arith, allowed.take_end c known, raises.takes c known);
          serve_end = λ m known. omega (arith, allowed.serve_end m known, raises.serves m known);
        }

-- An event that may be done keeps counts allowed.
pub keeps-allowed : (layout : Layout) (old new : Counts) (event : Event) → CanRun layout → IsAllowed layout old → Free layout old event → Raises layout old event new → IsAllowed layout new
keeps-allowed layout old new (Latch c) can allowed free raises = keeps-latch layout old new can allowed c free raises
keeps-allowed layout old new (Fire c) can allowed free raises = keeps-fire layout old new can allowed c free raises
keeps-allowed layout old new (Serve m p) can allowed free raises = keeps-serve layout old new can allowed m p free raises
keeps-allowed layout old new (Finish m) can allowed free raises = keeps-finish layout old new can allowed m free raises

-- ---- counts beside one another

module _ (layout : Layout) (old new goal : Counts) (le : AreAtMost layout old goal) where
  -- an event whose count is lower than in the goal does not pass it
  pub stays-below : (event : Event) → IsBehind old goal event → Raises layout old event new → AreAtMost layout new goal
  stays-below (Latch d) behind raises =
      record {
        puts = λ c known. omega (arith, le.puts c known, raises.puts c known);
        takes = λ c known. elim (one-cases d c) [
          | inl here ↦ omega (arith, subst (λ e. old.takes e < goal.takes e) here.0 behind, raises.takes c known, here.1)
          | inr other ↦ omega (arith, le.takes c known, raises.takes c known, other.1)
        ];
        cycles = λ m known. omega (arith, le.cycles m known, raises.cycles m known);
        serves = λ m known. omega (arith, le.serves m known, raises.serves m known);
      }
  stays-below (Fire d) behind raises =
      record {
        puts = λ c known. elim (one-cases d c) [
          | inl here ↦ omega (arith, subst (λ e. old.puts e < goal.puts e) here.0 behind, raises.puts c known, here.1)
          | inr other ↦ omega (arith, le.puts c known, raises.puts c known, other.1)
        ];
        takes = λ c known. omega (arith, le.takes c known, raises.takes c known);
        cycles = λ m known. omega (arith, le.cycles m known, raises.cycles m known);
        serves = λ m known. omega (arith, le.serves m known, raises.serves m known);
      }
  stays-below (Serve k p) behind raises =
      record {
        puts = λ c known. omega (arith, le.puts c known, raises.puts c known);
        takes = λ c known. omega (arith, le.takes c known, raises.takes c known);
        cycles = λ m known. omega (arith, le.cycles m known, raises.cycles m known);
        serves = λ m known. elim (one-cases k m) [
          | inl here ↦ omega (arith, subst (λ n. old.serves n < goal.serves n) here.0 behind, raises.serves m known, here.1)
          | inr other ↦ omega (arith, le.serves m known, raises.serves m known, other.1)
        ];
      }
  stays-below (Finish k) behind raises =
      record {
        puts = λ c known. omega (arith, le.puts c known, raises.puts c known);
        takes = λ c known. omega (arith, le.takes c known, raises.takes c known);
        cycles = λ m known. elim (one-cases k m) [
          | inl here ↦ omega (arith, subst (λ n. old.cycles n < goal.cycles n) here.0 behind, raises.cycles m known, here.1)
          | inr other ↦ omega (arith, le.cycles m known, raises.cycles m known, other.1)
        ];
        serves = λ m known. omega (arith, le.serves m known, raises.serves m known);
      }
