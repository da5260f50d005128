-- The machines at the ports of the top, by tables of which bridge has each port.
use Rattle.std.proofs.Common.{◌≡◌, ℕ, zero, suc, ◌+◌, ◌-◌, ◌<◌, ◌≤◌, List, [], ◌∷◌, ◌++◌, length, map, Bool, true, false, ◌==◌, eq-eqb, true-eqb, nat_lt, Option, Some, None, refl, sym, ◌∙◌, ap, ap₂, arith}
use Rattle.std.specs.Prelude.{cond, filter, is_none, if◌then◌else◌}
use Rattle.std.specs.List.{range_with_len}
use Rattle.std.proofs.lemmas.Bool.{lt-ltb}
use Rattle.std.proofs.lemmas.List.{length-map, map-append}
use Rattle.std.proofs.lemmas.List.FromFn.{get_or-map-range_with_len, map-range_with_len_more, length-range_with_len}
use Rattle.gg_bits.specs.Lists.{count_below, one_if, number_or}
use Rattle.gg_flat.specs.Line.{value_at}
use Rattle.gg_flat.specs.Circuit.{FlatCircuit}
use Rattle.gg_flat_tree.specs.Tree.{InstanceTree, path_at}
use Rattle.gg_partfile.specs.declared.request.BridgeEntry.{BridgeEntry}
use Rattle.gg_cut_plan.specs.declared.listed.Listed.{Listed}
use Rattle.gg_cut_plan.specs.Ports.{Bridges, undriven, unseen, first_bridge, first_kept_tray, giver_of, keeper_of, lister, ports_of}
use Rattle.gg_cut_plan.proofs.CountLemmas.{before-same}
use Rattle.gg_cut_plan.proofs.RangeLemmas.{filter-more}
use Rattle.gg_cut_split.specs.inside.Ends.{AreTakers, at_places, entry_ports, is_open, number_by, one_more}

-- ---- one port

pub open-test : (o : Option ℕ) (v : ℕ) → v ≡ one_more o → (v == 0) ≡ is_none o
open-test None v is = eq-eqb v 0 is
open-test (Some k) v is = by (v == 0) refl
  where
    by : (t : Bool) → (v == 0) ≡ t → t ≡ false
    by true e = let zero : v ≡ 0 = true-eqb v 0 (sym e) in absurd (omega (arith, zero, is))
    by false e = refl

number-as : (own bridge p : ℕ) (takers : List ℕ) (keeps : ℕ → Bool) (o : Option ℕ) → value_at takers p ≡ one_more o → count_below (is_open takers) p ≡ count_below keeps p → number_by own bridge takers p ≡ number_or bridge (own + count_below keeps p) o
number-as own bridge p takers keeps None is same =
    ap (λ t. if t then own + count_below (is_open takers) p else bridge + (value_at takers p - 1)) (open-test None (value_at takers p) is) ∙ ap (λ n. own + n) same
number-as own bridge p takers keeps (Some k) is same =
    ap (λ t. if t then own + count_below (is_open takers) p else bridge + (value_at takers p - 1)) (open-test (Some k) (value_at takers p) is) ∙ (let e : bridge + (value_at takers p - 1) ≡ bridge + k = omega (arith, is) in e)

-- one more, as at a step of a loop
pub count-next : (takers : List ℕ) (n next own : ℕ) → next ≡ own + count_below (is_open takers) n → next + (if value_at takers n == 0 then 1 else 0) ≡ own + count_below (is_open takers) (n + 1)
count-next takers n next own is = by (value_at takers n == 0) ∙ (let e : suc n ≡ n + 1 = omega arith in ap (λ k. own + count_below (is_open takers) k) e)
  where
    by : (t : Bool) → next + (if t then 1 else 0) ≡ own + (count_below (is_open takers) n + one_if t)
    by true = omega (arith, is)
    by false = omega (arith, is)

pub push-more : (old new : List ℕ) (f : ℕ → ℕ) (n v : ℕ) → old ≡ map f (range_with_len 0 n) → new ≡ old ++ v ∷ [] → v ≡ f n → new ≡ map f (range_with_len 0 (n + 1))
push-more old new f n v was made is =
    made ∙ ap (λ l. l ++ v ∷ []) was ∙ ap (λ x. map f (range_with_len 0 n) ++ x ∷ []) is ∙ sym (map-range_with_len_more f 0 n n (omega arith))

-- ---- all ports

module _ (b : Bridges) (drivers viewers : List ℕ) (takers : AreTakers b drivers viewers) where
  pub drivers-open : (n : ℕ) → n ≤ b.ins → count_below (is_open drivers) n ≡ count_below (undriven b) n
  drivers-open n le = before-same (is_open drivers) (undriven b) n (λ p lt. open-test (b.driver p) (value_at drivers p) (takers.driver p (omega (arith, lt, le))))

  pub viewers-open : (n : ℕ) → n ≤ b.outs → count_below (is_open viewers) n ≡ count_below (unseen b) n
  viewers-open n le = before-same (is_open viewers) (unseen b) n (λ p lt. open-test (b.viewer p) (value_at viewers p) (takers.viewer p (omega (arith, lt, le))))

  pub giver-by : (p : ℕ) → p < b.ins → number_by b.first (first_bridge b) drivers p ≡ giver_of b p
  giver-by p lt = number-as b.first (first_bridge b) p drivers (undriven b) (b.driver p) (takers.driver p lt) (drivers-open p (omega (arith, lt)))

  pub keeper-by : (p : ℕ) → p < b.outs → number_by (first_kept_tray b) (first_bridge b) viewers p ≡ keeper_of b p
  keeper-by p lt = number-as (first_kept_tray b) (first_bridge b) p viewers (unseen b) (b.viewer p) (takers.viewer p lt) (viewers-open p (omega (arith, lt)))

-- what a list by a function of the places has
pub numbers-many : (f : ℕ → ℕ) (n : ℕ) (numbers : List ℕ) → numbers ≡ map f (range_with_len 0 n) → length numbers ≡ n
numbers-many f n numbers is = ap (λ (l : List ℕ). length l) is ∙ length-map (range_with_len 0 n) f ∙ length-range_with_len 0 n

pub number-there : (f : ℕ → ℕ) (n p : ℕ) (numbers : List ℕ) → numbers ≡ map f (range_with_len 0 n) → p < n → value_at numbers p ≡ f p
number-there f n p numbers is lt = ap (λ (l : List ℕ). value_at l p) is ∙ get_or-map-range_with_len f 0 n p p 0 lt (omega arith)

-- ---- the entries of a cut

viewer-taken : (t : Bool) (o : Option ℕ) → (if t then one_more o else 0) ≡ one_more (if t then o else None)
viewer-taken true o = refl
viewer-taken false o = refl

-- tables of takers by a circuit's ports are those of the cut
pub takers-made : (circuit piece : FlatCircuit) (tree : InstanceTree) (listed : Listed) (entries : List BridgeEntry) (ins outs : List ℕ) (n k : ℕ) (drivers viewers : List ℕ) → piece ≡ circuit
    → ins ≡ piece.ins → outs ≡ piece.outs → n ≡ length ins → k ≡ length circuit.outs - length tree.stops
    → length drivers ≡ length ins → ((p : ℕ) → p < length ins → value_at drivers p ≡ (if nat_lt p n then one_more (lister (entry_ports false) entries (path_at piece.paths (value_at ins p))) else 0))
    → length viewers ≡ length outs → ((p : ℕ) → p < length outs → value_at viewers p ≡ (if nat_lt p k then one_more (lister (entry_ports true) entries (path_at piece.paths (value_at outs p))) else 0))
    → AreTakers (ports_of circuit tree listed entries) drivers viewers
takers-made circuit piece tree listed entries ins outs n k drivers viewers f i o many few driven drive viewed view =
    record {
      ins = driven ∙ ap (λ (l : List ℕ). length l) i ∙ ap (λ (c : FlatCircuit). length c.ins) f;
      outs = viewed ∙ ap (λ (l : List ℕ). length l) o ∙ ap (λ (c : FlatCircuit). length c.outs) f;
      driver = λ p lt.
          let inside : p < length ins = omega (arith, lt, ap (λ (l : List ℕ). length l) i, ap (λ (c : FlatCircuit). length c.ins) f) in
          drive p inside
          ∙ ap (λ t. if t then one_more (lister (entry_ports false) entries (path_at piece.paths (value_at ins p))) else 0) (lt-ltb p n (omega (arith, inside, many)))
          ∙ ap (λ (l : List ℕ). one_more (lister (entry_ports false) entries (path_at piece.paths (value_at l p)))) i
          ∙ ap (λ (c : FlatCircuit). one_more (lister (entry_ports false) entries (path_at c.paths (value_at c.ins p)))) f;
      viewer = λ p lt.
          let inside : p < length outs = omega (arith, lt, ap (λ (l : List ℕ). length l) o, ap (λ (c : FlatCircuit). length c.outs) f) in
          let outputs = length circuit.outs - length tree.stops in
          view p inside
          ∙ ap (λ m. if nat_lt p m then one_more (lister (entry_ports true) entries (path_at piece.paths (value_at outs p))) else 0) few
          ∙ ap (λ (l : List ℕ). if nat_lt p outputs then one_more (lister (entry_ports true) entries (path_at piece.paths (value_at l p))) else 0) o
          ∙ ap (λ (c : FlatCircuit). if nat_lt p outputs then one_more (lister (entry_ports true) entries (path_at c.paths (value_at c.outs p))) else 0) f
          ∙ viewer-taken (nat_lt p outputs) (lister (entry_ports true) entries (path_at circuit.paths (value_at circuit.outs p)));
    }

-- ---- the ports that no bridge has

-- one port more, open or not
pub open-next : (keeps : ℕ → Bool) (signals : List ℕ) (n : ℕ) (old new : List ℕ) → old ≡ map (value_at signals) (filter keeps (range_with_len 0 n)) → new ≡ old ++ (if keeps n then value_at signals n ∷ [] else []) → new ≡ map (value_at signals) (filter keeps (range_with_len 0 (n + 1)))
open-next keeps signals n old new was made =
    made ∙ ap (λ l. l ++ (if keeps n then value_at signals n ∷ [] else [])) was
    ∙ sym (ap (map (value_at signals)) (filter-more keeps n) ∙ map-append (value_at signals) (filter keeps (range_with_len 0 n)) (if keeps n then n ∷ [] else []) ∙ ap (λ l. map (value_at signals) (filter keeps (range_with_len 0 n)) ++ l) (by (keeps n)))
  where
    by : (b : Bool) → map (value_at signals) (if b then n ∷ [] else []) ≡ (if b then value_at signals n ∷ [] else [])
    by true = refl
    by false = refl

-- tests that agree keep the same places
pub places-same : (keeps test : ℕ → Bool) (signals : List ℕ) → ((p : ℕ) → p < length signals → keeps p ≡ test p) → at_places keeps signals ≡ at_places test signals
places-same keeps test signals same = ap (map (value_at signals)) (filter-below keeps test 0 (length signals) (λ p low lt. same p (omega (arith, lt))))
  where
    filter-below : (f g : ℕ → Bool) (a n : ℕ) → ((p : ℕ) → a ≤ p → p < a + n → f p ≡ g p) → filter f (range_with_len a n) ≡ filter g (range_with_len a n)
    filter-below f g a zero same = refl
    filter-below f g a (suc n) same = ap₂ (λ b rest. cond b (a ∷ rest) rest) (same a (omega arith) (omega arith)) (filter-below f g (a + 1) n (λ p low lt. same p (omega (arith, low)) (omega (arith, lt))))
