-- The ports that no bridge has, by their numbers and places.
use Rattle.std.proofs.Common.{◌≡◌, ℕ, suc, ◌+◌, ◌-◌, ◌<◌, ◌≤◌, List, [], ◌∷◌, ◌++◌, length, take, drop, Bool, true, false, not, if◌then◌else◌, Option, Some, None, refl, sym, ◌∙◌, ap, subst, inl, inr, ◌⊎◌, arith}
use Rattle.std.specs.Prelude.{◌||◌, is_none, option_map, flat_map, bytes_eq}
use Rattle.std.proofs.lemmas.Bool.{cases_lt, lt-ltb, le-ltb}
use Rattle.std.proofs.lemmas.List.{get_or-append-add, get_or-drop, get_or-take, get_or_append_left, length-append, length-take-le, take-append-drop}
use Rattle.std.proofs.lemmas.List.Folds.{list_any-append}
use Rattle.gg_flat.specs.Line.{value_at}
use Rattle.gg_flat.specs.Circuit.{FlatCircuit}
use Rattle.gg_flat_tree.specs.Tree.{InstanceTree, path_at}
use Rattle.gg_partfile.specs.Size.{all_driven, all_seen}
use Rattle.gg_partfile.specs.declared.request.BridgeEntry.{BridgeEntry}
use Rattle.gg_partfile.specs.declared.request.Request.{Request}
use Rattle.gg_cut_plan.specs.Listed.{is_among}
use Rattle.gg_cut_plan.specs.Ports.{Bridges, undriven, unseen, lister, plan_bridges, open_ins, open_outs}
use Rattle.gg_bits.specs.Lists.{count_below}
use Rattle.gg_cut_plan.proofs.CountLemmas.{before-same, before-behind, filter-count, filter-place, IsAt}

none-more : (o : Option ℕ) → is_none (option_map suc o) ≡ is_none o
none-more None = refl
none-more (Some k) = refl

-- no entry lists a path that isn't among all that they list
pub lister-none : (ports : BridgeEntry → List (List ℕ)) (entries : List BridgeEntry) (path : List ℕ) → is_none (lister ports entries path) ≡ not (is_among (flat_map ports entries) path)
lister-none ports [] path = refl
lister-none ports (entry ∷ entries) path = by (is_among (ports entry) path) (lister-none ports entries path) ∙ ap not (sym (list_any-append (bytes_eq path) (ports entry) (flat_map ports entries)))
  where
    by : (b : Bool) → is_none (lister ports entries path) ≡ not (is_among (flat_map ports entries) path) → is_none (if b then Some 0 else option_map suc (lister ports entries path)) ≡ not (b || is_among (flat_map ports entries) path)
    by true rest = refl
    by false rest = none-more (lister ports entries path) ∙ rest

module _ (circuit : FlatCircuit) (tree : InstanceTree) (request : Request) where
  abbrev bridges : Bridges
  bridges = plan_bridges circuit tree request

  abbrev outputs : ℕ
  outputs = length circuit.outs - length tree.stops

  abbrev in_test : ℕ → Bool
  in_test s = not (is_among (all_driven request.bridges) (path_at circuit.paths s))

  abbrev out_test : ℕ → Bool
  out_test s = not (is_among (all_seen request.bridges) (path_at circuit.paths s))

  -- ---- inputs

  pub undriven-is : (p : ℕ) → undriven bridges p ≡ in_test (value_at circuit.ins p)
  undriven-is p = lister-none (λ entry. entry.drives) request.bridges (path_at circuit.paths (value_at circuit.ins p))

  ins-before : (n : ℕ) → count_below (undriven bridges) n ≡ count_below (λ p. in_test (value_at circuit.ins p)) n
  ins-before n = before-same (undriven bridges) (λ p. in_test (value_at circuit.ins p)) n (λ p lt. undriven-is p)

  pub ins-count : count_below (undriven bridges) (length circuit.ins) ≡ length (open_ins circuit request)
  ins-count = ins-before (length circuit.ins) ∙ filter-count in_test circuit.ins 0

  pub in-place : (p : ℕ) → p < length circuit.ins → undriven bridges p ≡ true → IsAt (open_ins circuit request) (count_below (undriven bridges) p) 0 (value_at circuit.ins p)
  in-place p lt e = subst (λ n. IsAt (open_ins circuit request) n 0 (value_at circuit.ins p)) (sym (ins-before p)) (filter-place in_test circuit.ins 0 p lt (sym (undriven-is p) ∙ e))

  -- ---- outputs

  few : outputs ≤ length circuit.outs
  few = omega arith

  pub unseen-is : (p : ℕ) → p < outputs → unseen bridges p ≡ out_test (value_at circuit.outs p)
  unseen-is p lt =
      ap (λ t. is_none (if t then lister (λ entry. entry.sees) request.bridges (path_at circuit.paths (value_at circuit.outs p)) else None)) (lt-ltb p outputs lt)
      ∙ lister-none (λ entry. entry.sees) request.bridges (path_at circuit.paths (value_at circuit.outs p))

  pub stop-unseen : (p : ℕ) → outputs ≤ p → unseen bridges p ≡ true
  stop-unseen p ge = ap (λ t. is_none (if t then lister (λ entry. entry.sees) request.bridges (path_at circuit.paths (value_at circuit.outs p)) else None)) (le-ltb p outputs ge)

  first-test : (p : ℕ) → p < outputs → unseen bridges p ≡ out_test (value_at (take outputs circuit.outs) p)
  first-test p lt = unseen-is p lt ∙ ap out_test (sym (get_or-take outputs circuit.outs p 0 lt))

  outs-before : (n : ℕ) → n ≤ outputs → count_below (unseen bridges) n ≡ count_below (λ p. out_test (value_at (take outputs circuit.outs) p)) n
  outs-before n le = before-same (unseen bridges) (λ p. out_test (value_at (take outputs circuit.outs) p)) n (λ p lt. first-test p (omega (arith, lt, le)))

  outputs-count : count_below (unseen bridges) outputs ≡ length (open_outs circuit outputs request)
  outputs-count =
      outs-before outputs (omega arith)
      ∙ ap (count_below (λ p. out_test (value_at (take outputs circuit.outs) p))) (sym (length-take-le outputs circuit.outs few))
      ∙ filter-count out_test (take outputs circuit.outs) 0

  pub stop-before : (k : ℕ) → count_below (unseen bridges) (outputs + k) ≡ length (open_outs circuit outputs request) + k
  stop-before k = before-behind (unseen bridges) outputs k (λ p ge lt. stop-unseen p ge) ∙ ap (λ n. n + k) outputs-count

  pub outs-count : count_below (unseen bridges) (length circuit.outs) ≡ length (open_outs circuit outputs request) + length (drop outputs circuit.outs)
  outs-count =
      let counted = length-take-le outputs circuit.outs few in
      let both = sym (length-append (take outputs circuit.outs) (drop outputs circuit.outs)) ∙ ap length (take-append-drop outputs circuit.outs) in
      let all : length circuit.outs ≡ outputs + length (drop outputs circuit.outs) = omega (arith, counted, both) in
      ap (count_below (unseen bridges)) all ∙ stop-before (length (drop outputs circuit.outs))

  pub out-place : (p : ℕ) → p < outputs → unseen bridges p ≡ true → IsAt (open_outs circuit outputs request) (count_below (unseen bridges) p) 0 (value_at circuit.outs p)
  out-place p lt e =
      subst (λ s. IsAt (open_outs circuit outputs request) (count_below (unseen bridges) p) 0 s) (get_or-take outputs circuit.outs p 0 lt)
      (subst (λ n. IsAt (open_outs circuit outputs request) n 0 (value_at (take outputs circuit.outs) p)) (sym (outs-before p (omega (arith, lt))))
      (filter-place out_test (take outputs circuit.outs) 0 p (omega (arith, lt, length-take-le outputs circuit.outs few)) (sym (first-test p lt) ∙ e)))

  -- the outputs that no bridge sees, and the stops behind them
  pub outs-place : (p : ℕ) → p < length circuit.outs → unseen bridges p ≡ true → IsAt (open_outs circuit outputs request ++ drop outputs circuit.outs) (count_below (unseen bridges) p) 0 (value_at circuit.outs p)
  outs-place p lt e = by (cases_lt p outputs)
    where
      by : (p < outputs) ⊎ (outputs ≤ p) → IsAt (open_outs circuit outputs request ++ drop outputs circuit.outs) (count_below (unseen bridges) p) 0 (value_at circuit.outs p)
      by (inl less) =
          let at = out-place p less e in
          record {
            within = let low = at.within in omega (arith, low, length-append (open_outs circuit outputs request) (drop outputs circuit.outs));
            is = get_or_append_left (open_outs circuit outputs request) (drop outputs circuit.outs) 0 (count_below (unseen bridges) p) at.within ∙ at.is;
          }
      by (inr ge) =
          let k : ℕ = p - outputs in
          let whole : outputs + k ≡ p = omega (arith, ge) in
          let number : count_below (unseen bridges) p ≡ length (open_outs circuit outputs request) + k = ap (count_below (unseen bridges)) (sym whole) ∙ stop-before k in
          let counted = length-take-le outputs circuit.outs few in
          let both = sym (length-append (take outputs circuit.outs) (drop outputs circuit.outs)) ∙ ap length (take-append-drop outputs circuit.outs) in
          record {
            within = omega (arith, number, lt, ge, counted, both, length-append (open_outs circuit outputs request) (drop outputs circuit.outs));
            is =
                ap (value_at (open_outs circuit outputs request ++ drop outputs circuit.outs)) number
                ∙ get_or-append-add (open_outs circuit outputs request) (drop outputs circuit.outs) k 0
                ∙ get_or-drop outputs circuit.outs k 0
                ∙ ap (value_at circuit.outs) whole;
          }
