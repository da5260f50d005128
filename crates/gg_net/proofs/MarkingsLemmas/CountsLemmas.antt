-- Each allowed counts are those of a marking.
use Rattle.std.proofs.Common.{◌≡◌, ℕ, suc, ◌-◌, ◌*◌, ◌<◌, List, false, length, ap, sym, ◌∙◌, inl, inr, arith}
use Rattle.std.specs.Prelude.{◌⊎◌, All, nat_lt, slice_index_or}
use Rattle.std.proofs.lemmas.Bool.{lt-ltb, le-ltb}
use Rattle.std.proofs.lemmas.List.FromFn.{length-map-range_with_len, get_or-map-range_with_len}
use Rattle.gg_flat.specs.Line.{value_at}
use Rattle.gg_net.specs.markings.Marking.{Layout, link_at, turns_at, is_set}
use Rattle.gg_net.specs.Network.{and_one}
use Rattle.gg_net.specs.inside.Counts.{Counts, counts_of, WasTaken, HasServed, IsAllowed, AreSame, CanRun, IsMarkingOf, marking_by}
use Rattle.gg_net.specs.markings.Counts.{dues}

-- counts that agree with allowed counts are allowed
module _ (layout : Layout) (can : CanRun layout) (a b : Counts) (allowed : IsAllowed layout a) (same : AreSame layout a b) where
  taken-same : (m : ℕ) (channels : List ℕ) → m < length layout.turns → All (λ d. (d < length layout.links) × ((link_at layout d).consumer ≡ m)) channels → All (WasTaken a (a.cycles m)) channels → All (WasTaken b (b.cycles m)) channels
  taken-same m channels known are taken = λ i any lt.
      let d : ℕ = slice_index_or channels i any in
      let is : (d < length layout.links) × ((link_at layout d).consumer ≡ m) = are i any lt in
      let was : a.takes d ≡ suc (a.cycles m) = taken i any lt in
      omega (arith, was, same.takes d is.0, same.cycles m known)

  pub allowed-same : IsAllowed layout b
  allowed-same =
      record {
        flows = λ c known. record { least = omega (arith, (allowed.flows c known).least, same.puts c known, same.takes c known); most = omega (arith, (allowed.flows c known).most, same.puts c known, same.takes c known) };
        puts = λ c known. elim (allowed.puts c known) [
          | inl is ↦ inl (omega (arith, is, same.puts c known, same.cycles (link_at layout c).producer (can.producer c known)))
          | inr was ↦ inr (record { given = omega (arith, was.given, same.puts c known, same.cycles (link_at layout c).producer (can.producer c known)); needed = taken-same (link_at layout c).producer (link_at layout c).needs (can.producer c known) (can.needs c known) was.needed })
        ];
        takes = λ c known. elim (allowed.takes c known) [
          | inl is ↦ inl (omega (arith, is, same.takes c known, same.cycles (link_at layout c).consumer (can.consumer c known)))
          | inr is ↦ inr (omega (arith, is, same.takes c known, same.cycles (link_at layout c).consumer (can.consumer c known)))
        ];
        serves = λ m known.
            let has : (j : ℕ) × HasServed layout a m j = allowed.serves m known in (
              has.0,
              record {
                count = omega (arith, has.1.count, same.serves m known, ap (λ n. dues layout m * n) (same.cycles m known));
                within = has.1.within;
                given = λ some c c_known is. omega (arith, has.1.given some c c_known is, same.puts c c_known, same.cycles m known);
                fields = λ i any lt. taken-same m (slice_index_or (turns_at layout m) i any).fields known (can.fields m known i any (omega (arith, lt, has.1.within))) (has.1.fields i any lt);
              },
            );
        cycle_end = λ m known. omega (arith, allowed.cycle_end m known, same.cycles m known);
        put_end = λ c known. omega (arith, allowed.put_end c known, same.puts c known);
        take_end = λ c known. omega (arith, allowed.take_end c known, same.takes c known);
        serve_end = λ m known. omega (arith, allowed.serve_end m known, same.serves m known);
      }

-- ---- the marking of allowed counts

-- a count that is the cycle or one more is the cycle and its mark
marked : (n k : ℕ) → (k ≡ n) ⊎ (k ≡ suc n) → and_one n (nat_lt n k) ≡ k
marked n k is = elim is [ inl same ↦ ap (and_one n) (le-ltb n k (omega (arith, same))) ∙ sym same | inr more ↦ ap (and_one n) (lt-ltb n k (omega (arith, more))) ∙ sym more ]

module _ (layout : Layout) (can : CanRun layout) (counts : Counts) (allowed : IsAllowed layout counts) where
  pub by-shape : IsMarkingOf layout (marking_by layout counts)
  by-shape =
      record {
        cycles = length-map-range_with_len counts.cycles 0 (length layout.turns);
        served = length-map-range_with_len (λ m. counts.serves m - dues layout m * counts.cycles m) 0 (length layout.turns);
        taken = length-map-range_with_len (λ c. nat_lt (counts.cycles (link_at layout c).consumer) (counts.takes c)) 0 (length layout.links);
        given = length-map-range_with_len (λ c. nat_lt (counts.cycles (link_at layout c).producer) (counts.puts c)) 0 (length layout.links);
      }

  cycle-by : (m : ℕ) → m < length layout.turns → value_at (marking_by layout counts).cycles m ≡ counts.cycles m
  cycle-by m known = get_or-map-range_with_len counts.cycles 0 (length layout.turns) m m 0 known (omega arith)

  put-cases : (c : ℕ) → c < length layout.links → (counts.puts c ≡ counts.cycles (link_at layout c).producer) ⊎ (counts.puts c ≡ suc (counts.cycles (link_at layout c).producer))
  put-cases c known = elim (allowed.puts c known) [ inl is ↦ inl is | inr was ↦ inr was.given ]

  pub by-same : AreSame layout counts (counts_of layout (marking_by layout counts))
  by-same =
      record {
        puts = λ c known.
            let p : ℕ = (link_at layout c).producer in
            ap (λ n. and_one n (is_set (marking_by layout counts).given c)) (cycle-by p (can.producer c known))
            ∙ ap (and_one (counts.cycles p)) (get_or-map-range_with_len (λ d. nat_lt (counts.cycles (link_at layout d).producer) (counts.puts d)) 0 (length layout.links) c c false known (omega arith))
            ∙ marked (counts.cycles p) (counts.puts c) (put-cases c known);
        takes = λ c known.
            let q : ℕ = (link_at layout c).consumer in
            ap (λ n. and_one n (is_set (marking_by layout counts).taken c)) (cycle-by q (can.consumer c known))
            ∙ ap (and_one (counts.cycles q)) (get_or-map-range_with_len (λ d. nat_lt (counts.cycles (link_at layout d).consumer) (counts.takes d)) 0 (length layout.links) c c false known (omega arith))
            ∙ marked (counts.cycles q) (counts.takes c) (allowed.takes c known);
        cycles = λ m known. cycle-by m known;
        serves = λ m known.
            let has : (j : ℕ) × HasServed layout counts m j = allowed.serves m known in
            let served : value_at (marking_by layout counts).served m ≡ counts.serves m - dues layout m * counts.cycles m = get_or-map-range_with_len (λ k. counts.serves k - dues layout k * counts.cycles k) 0 (length layout.turns) m m 0 known (omega arith) in
            omega (arith, served, has.1.count, ap (λ n. dues layout m * n) (cycle-by m known));
      }

  pub by-allowed : IsAllowed layout (counts_of layout (marking_by layout counts))
  by-allowed = allowed-same layout can counts (counts_of layout (marking_by layout counts)) allowed by-same
