-- The opening and the end.
use Rattle.std.proofs.Common.{◌≡◌, ℕ, ◌+◌, ◌-◌, ◌*◌, ◌<◌, ◌≤◌, List, None, false, length, refl, ap, sym, ◌∙◌, inl, inr, arith}
use Rattle.std.proofs.Math.Nat.{mul-le-mul_left}
use Rattle.std.specs.Prelude.{◌⊎◌, replicate}
use Rattle.std.proofs.lemmas.List.{length-replicate, get_or-replicate}
use Rattle.gg_flat.specs.Line.{value_at}
use Rattle.gg_net.specs.declared.event.Event.{Event}
use Rattle.gg_net.specs.markings.Marking.{Layout, Marking, link_at, marked_puts, held, opening_marking, marked_refusal}
use Rattle.gg_net.specs.Network.{and_one}
use Rattle.gg_net.specs.inside.Counts.{Counts, counts_of, early, HasServed, IsAllowed, HasBegun, AreAtMost, CanRun, IsMarkingOf}
use Rattle.gg_net.specs.markings.Counts.{dues}
use Rattle.gg_net.specs.inside.Measure.{left, left_in, left_at}
use Rattle.gg_net.specs.markings.Measure.{all_dues, sum_below}
use Rattle.gg_net.specs.inside.Leads.{Leads, IsStuck, end_marking}
use Rattle.gg_net.proofs.MarkingsLemmas.EarlyLemmas.{entered-is, early-few}
use Rattle.gg_net.proofs.MarkingsLemmas.SumLemmas.{mul-over, sum-same, sum-add, sum-equal, sum-times}
use Rattle.gg_net.proofs.MarkingsLemmas.LeadLemmas.{next-event, leads-kept, leads-up, one-marking}

-- all machines stand at the same cycle, with nothing served, taken or given in it
abbrev level : Layout → ℕ → Marking
level layout k =
    record {
      cycles = replicate (length layout.turns) k;
      served = replicate (length layout.turns) 0;
      taken = replicate (length layout.links) false;
      given = replicate (length layout.links) false;
    }

module _ (layout : Layout) (can : CanRun layout) where
  -- ---- machines at the same cycle

  module _ (k : ℕ) where
    abbrev counts : Counts
    counts = counts_of layout (level layout k)

    pub level-shape : IsMarkingOf layout (level layout k)
    level-shape =
        record {
          cycles = length-replicate (length layout.turns) k;
          served = length-replicate (length layout.turns) 0;
          taken = length-replicate (length layout.links) false;
          given = length-replicate (length layout.links) false;
        }

    level-cycle : (m : ℕ) → m < length layout.turns → counts.cycles m ≡ k
    level-cycle m known = get_or-replicate (length layout.turns) m k 0 known

    level-puts : (c : ℕ) → c < length layout.links → counts.puts c ≡ k
    level-puts c known =
        ap (and_one (value_at (replicate (length layout.turns) k) (link_at layout c).producer)) (get_or-replicate (length layout.links) c false false known)
        ∙ level-cycle (link_at layout c).producer (can.producer c known)

    level-takes : (c : ℕ) → c < length layout.links → counts.takes c ≡ k
    level-takes c known =
        ap (and_one (value_at (replicate (length layout.turns) k) (link_at layout c).consumer)) (get_or-replicate (length layout.links) c false false known)
        ∙ level-cycle (link_at layout c).consumer (can.consumer c known)

    level-serves : (m : ℕ) → m < length layout.turns → counts.serves m ≡ dues layout m * k
    level-serves m known =
        let none : value_at (replicate (length layout.turns) 0) m ≡ 0 = get_or-replicate (length layout.turns) m 0 0 known in
        omega (arith, none, ap (λ n. dues layout m * n) (level-cycle m known))

    pub level-allowed : k ≤ layout.end → IsAllowed layout counts
    level-allowed le =
        record {
          flows = λ c known. record { least = omega (arith, level-puts c known, level-takes c known); most = omega (arith, level-puts c known, level-takes c known, early-few (link_at layout c).piped, can.room c known) };
          puts = λ c known. inl (level-puts c known ∙ sym (level-cycle (link_at layout c).producer (can.producer c known)));
          takes = λ c known. inl (level-takes c known ∙ sym (level-cycle (link_at layout c).consumer (can.consumer c known)));
          serves = λ m known. (
            0,
            record {
              count = omega (arith, level-serves m known, ap (λ n. dues layout m * n) (level-cycle m known));
              within = omega arith;
              given = λ some. absurd (omega (arith, some));
              fields = λ i any lt. absurd (omega (arith, lt));
            },
          );
          cycle_end = λ m known. omega (arith, level-cycle m known, le);
          put_end = λ c known. omega (arith, level-puts c known, le);
          take_end = λ c known. omega (arith, level-takes c known, le);
          serve_end = λ m known. omega (arith, level-serves m known, mul-le-mul_left (dues layout m) le);
        }

  -- ---- the opening

  module _ (begin : ℕ) (le : begin ≤ layout.end) where
    abbrev opening : Counts
    opening = counts_of layout (opening_marking layout begin)

    pub opening-allowed : IsAllowed layout opening
    opening-allowed = level-allowed begin le

    pub opening-lowest : (new : Counts) → IsAllowed layout new → HasBegun layout begin new → AreAtMost layout opening new
    opening-lowest new allowed begun =
        record {
          puts = λ c known. elim (allowed.puts c known) [
            | inl is ↦ omega (arith, level-puts begin c known, is, begun.cycles (link_at layout c).producer (can.producer c known))
            | inr was ↦ omega (arith, level-puts begin c known, was.given, begun.cycles (link_at layout c).producer (can.producer c known))
          ];
          takes = λ c known. omega (arith, level-takes begin c known, allowed.takes c known, begun.cycles (link_at layout c).consumer (can.consumer c known));
          cycles = λ m known. omega (arith, level-cycle begin m known, begun.cycles m known);
          serves = λ m known.
              let has : (j : ℕ) × HasServed layout new m j = allowed.serves m known in
              omega (arith, level-serves begin m known, has.1.count, mul-le-mul_left (dues layout m) (begun.cycles m known));
        }

    -- counts that are nowhere lower than those of the opening have begun
    pub opening-begun : (new : Counts) → AreAtMost layout opening new → HasBegun layout begin new
    opening-begun new le_new = record { cycles = λ m known. omega (arith, level-cycle begin m known, le_new.cycles m known) }

    pub opening-left : left layout opening ≡ (layout.end - begin) * (2 * length layout.links + length layout.turns + all_dues layout)
    opening-left = by (layout.end - begin) refl
      where
        by : (n : ℕ) → layout.end - begin ≡ n → left layout opening ≡ n * (2 * length layout.links + length layout.turns + all_dues layout)
        by n is =
            let whole : layout.end ≡ begin + n = omega (arith, is, le) in
            let channels : sum_below (left_in layout opening) (length layout.links) ≡ length layout.links * (2 * n) =
            sum-equal (left_in layout opening) (2 * n) (length layout.links) (λ c known. omega (arith, level-puts begin c known, level-takes begin c known, is)) in
            let machines : sum_below (left_at layout opening) (length layout.turns) ≡ sum_below (λ m. n) (length layout.turns) + sum_below (λ m. dues layout m * n) (length layout.turns) =
            sum-same (left_at layout opening) (λ m. n + dues layout m * n) (length layout.turns) (λ m known. omega (arith, level-cycle begin m known, level-serves begin m known, is, ap (λ k. dues layout m * k) whole, mul-over (dues layout m) begin n))
            ∙ sum-add (λ m. n) (λ m. dues layout m * n) (length layout.turns) in
            omega (arith, channels, machines, sum-equal (λ m. n) n (length layout.turns) (λ m known. refl), sum-times (dues layout) n (length layout.turns))

  -- ---- the end

  pub end-allowed : IsAllowed layout (counts_of layout (end_marking layout))
  end-allowed = level-allowed layout.end (omega arith)

  pub end-highest : (old : Counts) → IsAllowed layout old → AreAtMost layout old (counts_of layout (end_marking layout))
  end-highest old allowed =
      record {
        puts = λ c known. omega (arith, level-puts layout.end c known, allowed.put_end c known);
        takes = λ c known. omega (arith, level-takes layout.end c known, allowed.take_end c known);
        cycles = λ m known. omega (arith, level-cycle layout.end m known, allowed.cycle_end m known);
        serves = λ m known. omega (arith, level-serves layout.end m known, allowed.serve_end m known);
      }

  pub end-left : left layout (counts_of layout (end_marking layout)) ≡ 0
  end-left =
      let end : Counts = counts_of layout (end_marking layout) in
      omega (
        arith,
        sum-equal (left_in layout end) 0 (length layout.links) (λ c known. omega (arith, level-puts layout.end c known, level-takes layout.end c known)),
        sum-equal (left_at layout end) 0 (length layout.turns) (λ m known. omega (arith, level-cycle layout.end m known, level-serves layout.end m known)),
      )

  -- ---- progress

  -- some event can be done, or this is the end
  pub goes-or-ends : (marking : Marking) → IsMarkingOf layout marking → IsAllowed layout (counts_of layout marking) → ((event : Event) × (marked_refusal layout marking event ≡ None)) ⊎ (end_marking layout ≡ marking)
  goes-or-ends marking shape allowed =
      elim (next-event layout can marking (counts_of layout (end_marking layout)) allowed end-allowed (end-highest (counts_of layout marking) allowed)) [
        | inl found ↦ inl (found.0, found.1)
        | inr same ↦ inr (one-marking layout can marking (end_marking layout) shape (level-shape layout.end) same)
      ]

  -- ---- what is reached

  pub reached : (begin : ℕ) → begin ≤ layout.end → (marking : Marking) → IsMarkingOf layout marking → IsAllowed layout (counts_of layout marking) → HasBegun layout begin (counts_of layout marking) → (events : List Event) × Leads layout (opening_marking layout begin) events marking
  reached begin le marking shape allowed begun = leads-up layout can marking shape allowed (opening_marking layout begin) (level-shape begin) (opening-allowed begin le) (opening-lowest begin le (counts_of layout marking) allowed begun)

  pub reaches-allowed : (begin : ℕ) → begin ≤ layout.end → (events : List Event) (marking : Marking) → Leads layout (opening_marking layout begin) events marking → IsAllowed layout (counts_of layout marking) × HasBegun layout begin (counts_of layout marking)
  reaches-allowed begin le events marking leads =
      let kept : IsMarkingOf layout marking × IsAllowed layout (counts_of layout marking) × (length events + left layout (counts_of layout marking) ≡ left layout (counts_of layout (opening_marking layout begin))) × AreAtMost layout (counts_of layout (opening_marking layout begin)) (counts_of layout marking) =
      leads-kept layout can (opening_marking layout begin) events marking (level-shape begin) (opening-allowed begin le) leads in
      (kept.1, opening-begun begin le (counts_of layout marking) kept.3)

  -- what a list of events leads to
  pub leads-only : (old new : Marking) (events : List Event) → IsMarkingOf layout old → IsAllowed layout (counts_of layout old) → Leads layout old events new → IsMarkingOf layout new × IsAllowed layout (counts_of layout new) × AreAtMost layout (counts_of layout old) (counts_of layout new)
  leads-only old new events shape allowed leads =
      let kept : IsMarkingOf layout new × IsAllowed layout (counts_of layout new) × (length events + left layout (counts_of layout new) ≡ left layout (counts_of layout old)) × AreAtMost layout (counts_of layout old) (counts_of layout new) =
      leads-kept layout can old events new shape allowed leads in
      (kept.0, kept.1, kept.3)

  -- a list that can't be lengthened has as many events as the measure at its beginning, and leads to the end
  pub stuck-ends : (old : Marking) (events : List Event) (marking : Marking) → IsMarkingOf layout old → IsAllowed layout (counts_of layout old) → Leads layout old events marking → IsStuck layout marking → (marking ≡ end_marking layout) × (length events ≡ left layout (counts_of layout old))
  stuck-ends old events marking shape allowed leads stuck =
      let kept : IsMarkingOf layout marking × IsAllowed layout (counts_of layout marking) × (length events + left layout (counts_of layout marking) ≡ left layout (counts_of layout old)) × AreAtMost layout (counts_of layout old) (counts_of layout marking) =
      leads-kept layout can old events marking shape allowed leads in
      elim (goes-or-ends marking kept.0 kept.1) [
        | inl found ↦ absurd (stuck found.0 found.1)
        | inr end ↦ (sym end, omega (arith, kept.2, ap (λ x. left layout (counts_of layout x)) end, end-left))
      ]

  -- at the end each channel holds what it opened with
  pub end-held : (c : ℕ) → c < length layout.links → held layout (end_marking layout) c ≡ early layout c
  end-held c known = omega (arith, level-puts layout.end c known, level-takes layout.end c known, entered-is (marked_puts layout (end_marking layout) c) (link_at layout c).piped)
