-- Bridges whose ports are the circuit's own can be at its ports one after the other.
use Rattle.std.proofs.Common.{◌≡◌, ◌≢◌, ℕ, zero, suc, ◌+◌, ◌-◌, ◌<◌, ◌≤◌, List, [], ◌∷◌, ◌++◌, length, get_or, sym, ◌∙◌, ap, inl, inr, ◌⊎◌, arith}
use Rattle.std.specs.Prelude.{AllPairs, Contains, flat_map}
use Rattle.std.proofs.lemmas.List.{get_or-append-add, get_or_append_left, get_or_default, length-append}
use Rattle.std.proofs.lemmas.List.Elements.{Contains-append_left, Contains-append_right, Contains-get_or}
use Rattle.std.proofs.lemmas.Bool.{cases_lt}
use Rattle.gg_flat.specs.Line.{value_at, shape_at}
use Rattle.gg_flat.specs.Circuit.{FlatCircuit, signal_shapes}
use Rattle.gg_flat_tree.specs.Tree.{path_at}
use Rattle.gg_flat.specs.WellFormed.{IsWellFormed}
use Rattle.gg_bridge.specs.inside.All.{Attached, with_bridge, CanAttach, CanAttachAll, CanAttachEach}
use Rattle.gg_bridge.proofs.NumberLemmas.{left-in}
use Rattle.gg_bridge.proofs.AtLemmas.{long, shape-old, path-old, path-new}
use Rattle.gg_bridge.proofs.AllLemmas.{bridge-formed}

-- no item of the first list is one of the second
cross : (xs ys : List ℕ) (s : ℕ) → AllPairs (λ a b. a ≢ b) (xs ++ ys) → Contains xs s → Contains ys s → ⊥
cross xs ys s once (i, lt, is) (j, less, also) =
    once i (length xs + j) s (omega (arith, lt)) (omega (arith, less, length-append xs ys))
    (get_or_append_left xs ys s i lt ∙ is ∙ sym (get_or-append-add xs ys j s ∙ also))

-- the items of the second list differ
pub second-once : (xs ys : List ℕ) → AllPairs (λ a b. a ≢ b) (xs ++ ys) → AllPairs (λ a b. a ≢ b) ys
second-once xs ys once i j d less lt same =
    once (length xs + i) (length xs + j) d (omega (arith, less)) (omega (arith, lt, length-append xs ys)) (get_or-append-add xs ys i d ∙ same ∙ sym (get_or-append-add xs ys j d))

-- what one of the bridges drives is among what they all drive
among-all : (bridges : List Attached) (k : ℕ) (any : Attached) (s : ℕ) → k < length bridges → Contains (get_or bridges k any).drives s → Contains (flat_map (λ bridge. bridge.drives) bridges) s
among-all [] k any s lt has = absurd (omega (arith, lt))
among-all (bridge ∷ bridges) zero any s lt has = Contains-append_left bridge.drives (flat_map (λ bridge. bridge.drives) bridges) s has
among-all (bridge ∷ bridges) (suc k) any s lt has = Contains-append_right bridge.drives (flat_map (λ bridge. bridge.drives) bridges) s (among-all bridges k any s (omega (arith, lt)) has)

module _ (one : FlatCircuit) (formed : IsWellFormed one) (bridge other : Attached) (can : CanAttach one bridge) (also : CanAttach one other) (apart : (s : ℕ) → Contains bridge.drives s → Contains other.drives s → ⊥) (fronts : (a b : List ℕ) → bridge.front ++ a ≢ other.front ++ b) where
  abbrev both : FlatCircuit
  both = with_bridge one bridge

  many : length both.signals ≡ length one.signals + length bridge.model.signals
  many = long one bridge.front bridge.model bridge.sees bridge.drives

  shape : (s : ℕ) → s < length one.signals → shape_at (signal_shapes both) s ≡ shape_at (signal_shapes one) s
  shape = shape-old one bridge.front bridge.model bridge.sees bridge.drives

  drive-low : (i : ℕ) → i < length other.drives → value_at other.drives i < length one.signals
  drive-low i lt =
      let there = also.can.driven i lt in
      let known = (formed.ins there.0 there.1).0 in
      let same = get_or_default one.ins there.0 0 (value_at other.drives i) there.1 in
      let is = there.2 in
      omega (arith, known, same, is)

  named-again : length one.paths ≡ length one.signals
  named-again = formed.named

  fresh : (s i : ℕ) → s < length both.signals → i < length other.model.signals → path_at both.paths s ≢ other.front ++ path_at other.model.paths i
  fresh s i lt less = by (cases_lt s (length one.signals))
    where
      by : (s < length one.signals) ⊎ (length one.signals ≤ s) → path_at both.paths s ≢ other.front ++ path_at other.model.paths i
      by (inl low) same = also.can.fresh s i low less (sym (path-old one bridge.front bridge.model bridge.sees bridge.drives s (omega (arith, low, formed.named))) ∙ same)
      by (inr high) same =
          let j = s - length one.signals in
          let inside : j < length bridge.model.paths = omega (arith, lt, many, high, can.model.formed.named) in
          let at : length one.paths + j ≡ s = omega (arith, high, formed.named) in
          fronts (path_at bridge.model.paths j) (path_at other.model.paths i) (sym (path-new one bridge.front bridge.model bridge.sees bridge.drives j inside) ∙ ap (path_at both.paths) at ∙ same)

  pub still-can : CanAttach both other
  still-can =
      record {
        can = record {
          seen_count = also.can.seen_count;
          seen = λ i lt. let known = also.can.seen i lt in omega (arith, known, many);
          seen_type = λ i lt. shape (value_at other.sees i) (also.can.seen i lt) ∙ also.can.seen_type i lt;
          driven_count = also.can.driven_count;
          driven = λ i lt. left-in bridge.drives one.ins (value_at other.drives i) (also.can.driven i lt) (λ h. apart (value_at other.drives i) h (Contains-get_or other.drives i 0 lt));
          driven_type = λ i lt. shape (value_at other.drives i) (drive-low i lt) ∙ also.can.driven_type i lt;
          once = also.can.once;
          fresh = fresh;
        };
        model = also.model;
      }

pub each-can : (one : FlatCircuit) (bridges : List Attached) → IsWellFormed one → CanAttachEach one bridges → CanAttachAll one bridges
each-can one [] formed can = tt
each-can one (bridge ∷ bridges) formed can =
    let first : CanAttach one bridge = can.each 0 bridge (omega arith) in (
      first,
      each-can (with_bridge one bridge) bridges (bridge-formed one bridge first formed)
          (record {
            each = λ k any lt. still-can one formed bridge (get_or bridges k any) first (can.each (suc k) any (omega (arith, lt)))
                (λ s a b. cross bridge.drives (flat_map (λ b. b.drives) bridges) s can.once a (among-all bridges k any s lt b))
                (can.apart 0 (suc k) any (omega arith) (omega (arith, lt)));
            once = second-once bridge.drives (flat_map (λ b. b.drives) bridges) can.once;
            apart = λ j k any less lt. can.apart (suc j) (suc k) any (omega (arith, less)) (omega (arith, lt));
          }),
    )
