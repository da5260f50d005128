-- A goal for machines that are below a cycle: all machines at that cycle, and no other count higher than before.
use Rattle.std.proofs.Common.{◌≡◌, ℕ, suc, ◌*◌, ◌<◌, ◌≤◌, max, List, None, length, ap, sym, inl, inr, arith}
use Rattle.std.proofs.Math.Nat.{mul-le-mul_left}
use Rattle.std.specs.Prelude.{◌⊎◌, All, slice_index_or}
use Rattle.std.proofs.lemmas.Bool.{cases_lt}
use Rattle.gg_net.specs.declared.event.Event.{Event}
use Rattle.gg_net.specs.declared.event.Event.TheVariants.{Latch, Fire, Serve, Finish}
use Rattle.gg_net.specs.markings.Marking.{Layout, Marking, link_at, turns_at, marked_refusal}
use Rattle.gg_net.specs.inside.Counts.{Counts, counts_of, WasTaken, HasServed, IsAllowed, AreAtMost, IsBehind, CanRun}
use Rattle.gg_net.specs.markings.Counts.{dues}
use Rattle.gg_net.proofs.MarkingsLemmas.Free.{Free}
use Rattle.gg_net.proofs.MarkingsLemmas.EarlyLemmas.{early-few}
use Rattle.gg_net.proofs.MarkingsLemmas.FreeLemmas.{is-free}
use Rattle.gg_net.proofs.MarkingsLemmas.LeadLemmas.{next-event}

module _ (layout : Layout) (can : CanRun layout) (upto : ℕ) (a : Counts) (allowed : IsAllowed layout a) (within : upto ≤ layout.end) (below : (m : ℕ) → m < length layout.turns → a.cycles m ≤ upto) where
  abbrev goal : Counts
  goal =
      record {
        puts = λ c. max upto (a.puts c);
        takes = λ c. max upto (a.takes c);
        cycles = λ m. upto;
        serves = λ m. max (dues layout m * upto) (a.serves m);
      }

  goal-taken : (k : ℕ) (channels : List ℕ) → k ≡ upto → All (WasTaken a k) channels → All (WasTaken goal upto) channels
  goal-taken k channels same taken = λ i any lt. let was : a.takes (slice_index_or channels i any) ≡ suc k = taken i any lt in omega (arith, was, same)

  pub goal-above : AreAtMost layout a goal
  goal-above = record { puts = λ c known. omega arith; takes = λ c known. omega arith; cycles = below; serves = λ m known. omega arith }

  pub goal-allowed : IsAllowed layout goal
  goal-allowed =
      record {
        flows = λ c known. record { least = omega (arith, (allowed.flows c known).least); most = omega (arith, (allowed.flows c known).most, early-few (link_at layout c).piped, can.room c known) };
        puts = λ c known. elim (allowed.puts c known) [
          | inl is ↦ inl (omega (arith, is, below (link_at layout c).producer (can.producer c known)))
          | inr was ↦ elim (cases_lt (a.cycles (link_at layout c).producer) upto) [
            | inl lt ↦ inl (omega (arith, was.given, lt))
            | inr over ↦
                let at : a.cycles (link_at layout c).producer ≡ upto = omega (arith, over, below (link_at layout c).producer (can.producer c known)) in
                inr (record { given = omega (arith, was.given, at); needed = goal-taken (a.cycles (link_at layout c).producer) (link_at layout c).needs at was.needed })
          ]
        ];
        takes = λ c known. elim (allowed.takes c known) [
          | inl is ↦ inl (omega (arith, is, below (link_at layout c).consumer (can.consumer c known)))
          | inr is ↦ elim (cases_lt (a.cycles (link_at layout c).consumer) upto) [
            | inl lt ↦ inl (omega (arith, is, lt))
            | inr over ↦ inr (omega (arith, is, over, below (link_at layout c).consumer (can.consumer c known)))
          ]
        ];
        serves = λ m known.
            let has : (j : ℕ) × HasServed layout a m j = allowed.serves m known in
            elim (cases_lt (a.cycles m) upto) [
              | inl lt ↦ (
                0,
                record {
                  count = omega (arith, has.1.count, has.1.within, mul-le-mul_left (dues layout m) lt);
                  within = omega arith;
                  given = λ some. absurd (omega (arith, some));
                  fields = λ i any i_lt. absurd (omega (arith, i_lt));
                },
              )
              | inr over ↦
                  let at : a.cycles m ≡ upto = omega (arith, over, below m known) in (
                    has.0,
                    record {
                      count = omega (arith, has.1.count, ap (λ n. dues layout m * n) at);
                      within = has.1.within;
                      given = λ some c c_known is. omega (arith, has.1.given some c c_known is, at);
                      fields = λ i any i_lt. goal-taken (a.cycles m) (slice_index_or (turns_at layout m) i any).fields at (has.1.fields i any i_lt);
                    },
                  )
            ];
        cycle_end = λ m known. within;
        put_end = λ c known. omega (arith, within, allowed.put_end c known);
        take_end = λ c known. omega (arith, within, allowed.take_end c known);
        serve_end = λ m known. omega (arith, mul-le-mul_left (dues layout m) within, allowed.serve_end m known);
      }

-- the machine of an event
abbrev pub machine_by : Layout → Event → ℕ
machine_by layout (Latch c) = (link_at layout c).consumer
machine_by layout (Fire c) = (link_at layout c).producer
machine_by layout (Serve m p) = m
machine_by layout (Finish m) = m

-- Some event of a machine below a cycle can be done, or all machines stand at that cycle.
module _ (layout : Layout) (can : CanRun layout) (upto : ℕ) (marking : Marking) (allowed : IsAllowed layout (counts_of layout marking)) (within : upto ≤ layout.end) (below : (m : ℕ) → m < length layout.turns → (counts_of layout marking).cycles m ≤ upto) where
  abbrev counts : Counts
  counts = counts_of layout marking

  -- an event that the goal has too is of a machine below the cycle
  is-below : (event : Event) → Free layout counts event → IsBehind counts (goal layout can upto counts allowed within below) event → counts.cycles (machine_by layout event) < upto
  is-below (Latch c) free behind = omega (arith, free.clear, behind)
  is-below (Fire c) free behind = omega (arith, free.clear, behind)
  is-below (Serve m p) free behind =
      elim (cases_lt (counts.cycles m) upto) [
        | inl lt ↦ lt
        | inr over ↦ absurd (omega (arith, behind, free.count, mul-le-mul_left (dues layout m) over))
      ]
  is-below (Finish m) free behind = behind

  pub goes-below : ((event : Event) × (marked_refusal layout marking event ≡ None) × (counts.cycles (machine_by layout event) < upto)) ⊎ ((m : ℕ) → m < length layout.turns → counts.cycles m ≡ upto)
  goes-below =
      elim (next-event layout can marking (goal layout can upto counts allowed within below) allowed (goal-allowed layout can upto counts allowed within below) (goal-above layout can upto counts allowed within below)) [
        | inl found ↦ inl (found.0, found.1, is-below found.0 (is-free layout marking can allowed found.0 found.1) found.2)
        | inr same ↦ inr (λ m known. sym (same.cycles m known))
      ]
