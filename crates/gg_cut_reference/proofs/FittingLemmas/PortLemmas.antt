-- Which bridge has a port: the entry that lists it.
use Rattle.std.proofs.Common.{◌≡◌, ◌≢◌, ℕ, zero, suc, ◌+◌, ◌-◌, ◌<◌, List, [], ◌∷◌, ◌++◌, length, Bool, true, false, nat_lt, if◌then◌else◌, Some, None, refl, sym, ◌∙◌, ap, arith}
use Rattle.std.specs.Prelude.{AllPairs, Contains, flat_map, is_none, option_map}
use Rattle.std.proofs.lemmas.Bool.{lt-ltb, ltb-true, not-false}
use Rattle.std.proofs.lemmas.List.{get_or_append_left, get_or-append-add, length-append}
use Rattle.gg_flat.specs.Line.{value_at}
use Rattle.gg_flat.specs.Circuit.{FlatCircuit}
use Rattle.gg_flat_tree.specs.Tree.{InstanceTree, path_at}
use Rattle.gg_bits.proofs.PathLemmas.{found-path}
use Rattle.gg_partfile.specs.Size.{all_driven, all_seen}
use Rattle.gg_partfile.specs.declared.request.BridgeEntry.{BridgeEntry}
use Rattle.gg_partfile.specs.declared.request.Request.{Request}
use Rattle.gg_cut_plan.specs.Listed.{is_among}
use Rattle.gg_cut_plan.specs.Plan.{entry_at}
use Rattle.gg_cut_plan.specs.Ports.{lister, plan_bridges}
use Rattle.gg_cut_plan.proofs.PathLemmas.{first_place-Some, among-contains}
use Rattle.gg_cut_reference.proofs.FittingLemmas.OpenLemmas.{lister-none}

-- ---- lists of paths

pub back-once : (xs ys : List (List ℕ)) → AllPairs (λ a b. a ≢ b) (xs ++ ys) → AllPairs (λ a b. a ≢ b) ys
back-once xs ys once i j d less lt same =
    once (length xs + i) (length xs + j) d (omega (arith, less)) (omega (arith, lt, length-append xs ys)) (get_or-append-add xs ys i d ∙ same ∙ sym (get_or-append-add xs ys j d))

-- no path is in both of two lists
pub apart-once : (xs ys : List (List ℕ)) (path : List ℕ) → AllPairs (λ a b. a ≢ b) (xs ++ ys) → Contains xs path → Contains ys path → ⊥
apart-once xs ys path once a b =
    once a.0 (length xs + b.0) path (let low = a.1 in omega (arith, low)) (let high = b.1 in omega (arith, high, length-append xs ys))
    (get_or_append_left xs ys path a.0 a.1 ∙ a.2 ∙ sym (get_or-append-add xs ys b.0 path ∙ b.2))

-- ---- the entry that lists a path

module _ (ports : BridgeEntry → List (List ℕ)) where
  pub lister-has : (entries : List BridgeEntry) (path : List ℕ) (k : ℕ) → lister ports entries path ≡ Some k → (k < length entries) × Contains (ports (entry_at entries k)) path
  lister-has entries path k found =
      let at = first_place-Some (λ entry. is_among (ports entry) path) entries k found in
      (at.within, found-path (ports (entry_at entries k)) path (at.passes (record { name = []; sees = []; drives = [] })))

  pub lister-is : (entries : List BridgeEntry) (path : List ℕ) (k : ℕ) → AllPairs (λ a b. a ≢ b) (flat_map ports entries) → k < length entries → Contains (ports (entry_at entries k)) path → lister ports entries path ≡ Some k
  lister-is [] path k once lt h = absurd (omega (arith, lt))
  lister-is (entry ∷ entries) path zero once lt h = ap (λ b. if b then Some 0 else option_map suc (lister ports entries path)) (among-contains (ports entry) path h)
  lister-is (entry ∷ entries) path (suc k) once lt h = by (is_among (ports entry) path) refl (lister-is entries path k (back-once (ports entry) (flat_map ports entries) once) (omega (arith, lt)) h)
    where
      by : (b : Bool) → is_among (ports entry) path ≡ b → lister ports entries path ≡ Some k → (if b then Some 0 else option_map suc (lister ports entries path)) ≡ Some (suc k)
      by false e rest = ap (option_map suc) rest
      by true e rest =
          let among : is_among (flat_map ports entries) path ≡ true = not-false (is_among (flat_map ports entries) path) (sym (lister-none ports entries path) ∙ ap is_none rest) in
          absurd (apart-once (ports entry) (flat_map ports entries) path once (found-path (ports entry) path e) (found-path (flat_map ports entries) path among))

-- ---- the bridges of a request

module _ (circuit : FlatCircuit) (tree : InstanceTree) (request : Request) where
  abbrev outputs : ℕ
  outputs = length circuit.outs - length tree.stops

  pub driver-has : (p k : ℕ) → (plan_bridges circuit tree request).driver p ≡ Some k → (k < length request.bridges) × Contains (entry_at request.bridges k).drives (path_at circuit.paths (value_at circuit.ins p))
  driver-has p k found = lister-has (λ entry. entry.drives) request.bridges (path_at circuit.paths (value_at circuit.ins p)) k found

  pub driver-is : (p k : ℕ) → AllPairs (λ a b. a ≢ b) (all_driven request.bridges) → k < length request.bridges → Contains (entry_at request.bridges k).drives (path_at circuit.paths (value_at circuit.ins p)) → (plan_bridges circuit tree request).driver p ≡ Some k
  driver-is p k once lt h = lister-is (λ entry. entry.drives) request.bridges (path_at circuit.paths (value_at circuit.ins p)) k once lt h

  pub viewer-has : (p k : ℕ) → (plan_bridges circuit tree request).viewer p ≡ Some k → (p < outputs) × (k < length request.bridges) × Contains (entry_at request.bridges k).sees (path_at circuit.paths (value_at circuit.outs p))
  viewer-has p k found = by (nat_lt p outputs) refl found
    where
      by : (b : Bool) → nat_lt p outputs ≡ b → (if b then lister (λ entry. entry.sees) request.bridges (path_at circuit.paths (value_at circuit.outs p)) else None) ≡ Some k
          → (p < outputs) × (k < length request.bridges) × Contains (entry_at request.bridges k).sees (path_at circuit.paths (value_at circuit.outs p))
      by true e is = let has = lister-has (λ entry. entry.sees) request.bridges (path_at circuit.paths (value_at circuit.outs p)) k is in (ltb-true p outputs e, has.0, has.1)
      by false e is = absurd (cc)

  pub viewer-is : (p k : ℕ) → AllPairs (λ a b. a ≢ b) (all_seen request.bridges) → p < outputs → k < length request.bridges → Contains (entry_at request.bridges k).sees (path_at circuit.paths (value_at circuit.outs p)) → (plan_bridges circuit tree request).viewer p ≡ Some k
  viewer-is p k once low lt h =
      ap (λ t. if t then lister (λ entry. entry.sees) request.bridges (path_at circuit.paths (value_at circuit.outs p)) else None) (lt-ltb p outputs low)
      ∙ lister-is (λ entry. entry.sees) request.bridges (path_at circuit.paths (value_at circuit.outs p)) k once lt h
