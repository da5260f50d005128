-- The machines at the ports of a top: which they are, and that a source or a tray has one port.
use Rattle.std.proofs.Common.{◌≡◌, ℕ, ◌+◌, ◌-◌, ◌<◌, ◌≤◌, List, [], length, nat_lt, Bool, true, false, Option, Some, None, if◌then◌else◌, refl, ◌∙◌, ap, ap₂, arith}
use Rattle.std.specs.Prelude.{is_none}
use Rattle.gg_bits.specs.Lists.{count_below, number_or}
use Rattle.gg_flat.specs.Line.{value_at}
use Rattle.gg_flat.specs.Circuit.{FlatCircuit}
use Rattle.gg_flat_tree.specs.Tree.{InstanceTree, path_at}
use Rattle.gg_partfile.specs.declared.request.BridgeEntry.{BridgeEntry}
use Rattle.gg_cut_plan.specs.Listed.{is_among}
use Rattle.gg_cut_plan.specs.declared.listed.Listed.{Listed}
use Rattle.gg_cut_plan.specs.Machines.{first_source}
use Rattle.gg_cut_plan.specs.Ports.{Bridges, undriven, unseen, first_kept_tray, first_bridge, machine_end, giver_of, keeper_of, lister, bridges_of, ports_of}
use Rattle.gg_cut_plan.specs.inside.Ports.{AreBridges}
use Rattle.gg_cut_plan.proofs.CountLemmas.{before-all, before-once, before-strict}
use Rattle.gg_cut_plan.proofs.PathLemmas.{first_place-Some}

-- ---- which machines they are

module _ (b : Bridges) where
  -- an input comes from no machine before the sources
  pub giver-low : (p : ℕ) → b.first ≤ giver_of b p
  giver-low p = by (b.driver p)
    where
      by : (o : Option ℕ) → b.first ≤ number_or (first_bridge b) (b.first + count_below (undriven b) p) o
      by None = omega arith
      by (Some k) = omega arith

  -- an output goes to no machine before the trays
  pub keeper-low : (p : ℕ) → first_kept_tray b ≤ keeper_of b p
  keeper-low p = by (b.viewer p)
    where
      by : (o : Option ℕ) → first_kept_tray b ≤ number_or (first_bridge b) (first_kept_tray b + count_below (unseen b) p) o
      by None = omega arith
      by (Some k) = omega arith

  pub keeper-source : (p : ℕ) → b.first ≤ keeper_of b p
  keeper-source p = let high = keeper-low p in omega (arith, high)

  pub machine-high : b.first ≤ machine_end b
  machine-high = omega arith

  -- an input that no bridge drives comes from a source
  pub giver-open : (p : ℕ) → b.driver p ≡ None → giver_of b p ≡ b.first + count_below (undriven b) p
  giver-open p none = ap (number_or (first_bridge b) (b.first + count_below (undriven b) p)) none

  pub giver-driven : (p k : ℕ) → b.driver p ≡ Some k → giver_of b p ≡ first_bridge b + k
  giver-driven p k some = ap (number_or (first_bridge b) (b.first + count_below (undriven b) p)) some

  -- an output that no bridge sees, and a stop, goes to a tray
  pub keeper-open : (p : ℕ) → b.viewer p ≡ None → keeper_of b p ≡ first_kept_tray b + count_below (unseen b) p
  keeper-open p none = ap (number_or (first_bridge b) (first_kept_tray b + count_below (unseen b) p)) none

  pub keeper-seen : (p k : ℕ) → b.viewer p ≡ Some k → keeper_of b p ≡ first_bridge b + k
  keeper-seen p k some = ap (number_or (first_bridge b) (first_kept_tray b + count_below (unseen b) p)) some

  -- a source comes before the trays
  pub source-few : (p : ℕ) → p < b.ins → b.driver p ≡ None → giver_of b p < first_kept_tray b
  source-few p lt none = let up = before-strict (undriven b) p b.ins (ap is_none none) lt in omega (arith, up, giver-open p none)

  -- a tray comes before the bridges
  pub tray-few : (p : ℕ) → p < b.outs → b.viewer p ≡ None → keeper_of b p < first_bridge b
  tray-few p lt none = let up = before-strict (unseen b) p b.outs (ap is_none none) lt in omega (arith, up, keeper-open p none)

module _ (b : Bridges) (are : AreBridges b) where
  pub giver-few : (p : ℕ) → p < b.ins → giver_of b p < machine_end b
  giver-few p lt = by (b.driver p) refl
    where
      by : (o : Option ℕ) → b.driver p ≡ o → giver_of b p < machine_end b
      by None e = let low = source-few b p lt e in omega (arith, low)
      by (Some k) e = let among = are.drivers p k e in omega (arith, among, giver-driven b p k e)

  pub keeper-few : (p : ℕ) → p < b.outs → keeper_of b p < machine_end b
  keeper-few p lt = by (b.viewer p) refl
    where
      by : (o : Option ℕ) → b.viewer p ≡ o → keeper_of b p < machine_end b
      by None e = let low = tray-few b p lt e in omega (arith, low)
      by (Some k) e = let among = are.viewers p k e in omega (arith, among, keeper-seen b p k e)

-- ---- a port that no bridge has shares its machine with none

module _ (b : Bridges) where
  pub source-once : (p q : ℕ) → p < b.ins → b.driver p ≡ None → giver_of b q ≡ giver_of b p → q ≡ p
  source-once p q lt none same = by (b.driver q) refl
    where
      by : (o : Option ℕ) → b.driver q ≡ o → q ≡ p
      by None e = before-once (undriven b) q p (ap is_none e) (ap is_none none) (let at = giver-open b p none in let other = giver-open b q e in omega (arith, same, at, other))
      by (Some k) e = absurd (let low = source-few b p lt none in omega (arith, low, same, giver-driven b q k e))

  pub tray-once : (p q : ℕ) → p < b.outs → b.viewer p ≡ None → keeper_of b q ≡ keeper_of b p → q ≡ p
  tray-once p q lt none same = by (b.viewer q) refl
    where
      by : (o : Option ℕ) → b.viewer q ≡ o → q ≡ p
      by None e = before-once (unseen b) q p (ap is_none e) (ap is_none none) (let at = keeper-open b p none in let other = keeper-open b q e in omega (arith, same, at, other))
      by (Some k) e = absurd (let low = tray-few b p lt none in omega (arith, low, same, keeper-seen b q k e))

  -- no source takes an output, and no tray gives an input
  pub source-takes-none : (p q : ℕ) → p < b.ins → b.driver p ≡ None → keeper_of b q ≡ giver_of b p → ⊥
  source-takes-none p q lt none same = absurd (let low = source-few b p lt none in let high = keeper-low b q in omega (arith, low, high, same))

  pub tray-gives-none : (p q : ℕ) → p < b.outs → q < b.ins → b.viewer p ≡ None → giver_of b q ≡ keeper_of b p → ⊥
  tray-gives-none p q lt inside none same = by (b.driver q) refl
    where
      by : (o : Option ℕ) → b.driver q ≡ o → ⊥
      by None e = absurd (let low = source-few b q inside e in let high = keeper-low b p in omega (arith, low, high, same))
      by (Some k) e = absurd (let low = tray-few b p lt none in omega (arith, low, same, giver-driven b q k e))

-- ---- a bridge's ports

-- the machine of a port tells which bridge has it
module _ (b : Bridges) where
  pub giver-at : (p k : ℕ) → p < b.ins → giver_of b p ≡ first_bridge b + k → b.driver p ≡ Some k
  giver-at p k lt same = by (b.driver p) refl
    where
      by : (o : Option ℕ) → b.driver p ≡ o → b.driver p ≡ Some k
      by None e = absurd (let low = source-few b p lt e in omega (arith, low, same))
      by (Some j) e = e ∙ ap Some (let at = giver-driven b p j e in omega (arith, at, same))

  pub keeper-at : (p k : ℕ) → p < b.outs → keeper_of b p ≡ first_bridge b + k → b.viewer p ≡ Some k
  keeper-at p k lt same = by (b.viewer p) refl
    where
      by : (o : Option ℕ) → b.viewer p ≡ o → b.viewer p ≡ Some k
      by None e = absurd (let low = tray-few b p lt e in omega (arith, low, same))
      by (Some j) e = e ∙ ap Some (let at = keeper-seen b p j e in omega (arith, at, same))

-- ---- the bridges of entries

lister-known : (ports : BridgeEntry → List (List ℕ)) (entries : List BridgeEntry) (path : List ℕ) (k : ℕ) → lister ports entries path ≡ Some k → k < length entries
lister-known ports entries path k found = (first_place-Some (λ entry. is_among (ports entry) path) entries k found).within

pub are-bridges : (circuit : FlatCircuit) (outputs : ℕ) (listed : Listed) (entries : List BridgeEntry) → AreBridges (bridges_of circuit outputs listed entries)
are-bridges circuit outputs listed entries =
    record {
      drivers = λ p k found. lister-known (λ entry. entry.drives) entries (path_at circuit.paths (value_at circuit.ins p)) k found;
      viewers = λ p k found. by (nat_lt p outputs) (lister (λ entry. entry.sees) entries (path_at circuit.paths (value_at circuit.outs p))) k (lister-known (λ entry. entry.sees) entries (path_at circuit.paths (value_at circuit.outs p)) k) found;
    }
  where
    by : (b : Bool) (o : Option ℕ) (k : ℕ) → (o ≡ Some k → k < length entries) → (if b then o else None) ≡ Some k → k < length entries
    by true o k known found = known found
    by false o k known found = absurd (cc)

-- ---- without a bridge

module _ (circuit : FlatCircuit) (tree : InstanceTree) (listed : Listed) where
  abbrev b : Bridges
  b = ports_of circuit tree listed []

  pub unseen-plain : (p : ℕ) → (ports_of circuit tree listed []).viewer p ≡ None
  unseen-plain p = by (nat_lt p (length circuit.outs - length tree.stops))
    where
      by : (t : Bool) → ◌≡◌ {A = Option ℕ} (if t then None else None) None
      by true = refl
      by false = refl

  in-count : (n : ℕ) → count_below (undriven b) n ≡ n
  in-count n = before-all (undriven b) n (λ p. refl)

  out-count : (n : ℕ) → count_below (unseen b) n ≡ n
  out-count n = before-all (unseen b) n (λ p. ap is_none (unseen-plain p))

  -- each input has its source, and each out-signal its tray
  pub giver-plain : (p : ℕ) → giver_of (ports_of circuit tree listed []) p ≡ first_source listed + p
  giver-plain p = ap (λ n. first_source listed + n) (in-count p)

  pub keeper-plain : (p : ℕ) → keeper_of (ports_of circuit tree listed []) p ≡ first_source listed + length circuit.ins + p
  keeper-plain p = keeper-open b p (unseen-plain p) ∙ ap₂ (λ i n. first_source listed + i + n) (in-count (length circuit.ins)) (out-count p)

  pub end-plain : machine_end (ports_of circuit tree listed []) ≡ first_source listed + length circuit.ins + length circuit.outs
  end-plain = let ins = in-count (length circuit.ins) in let outs = out-count (length circuit.outs) in omega (arith, ins, outs)
