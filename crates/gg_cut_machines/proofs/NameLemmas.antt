-- The names of the machines of a plan, as one list.
use Rattle.std.proofs.Common.{◌≡◌, ℕ, zero, suc, ◌+◌, ◌-◌, ◌<◌, ◌≤◌, List, [], ◌∷◌, ◌++◌, length, map, take, drop, codes, Bool, true, false, not, refl, sym, ◌∙◌, ap, ap₂, subst, append_assoc, arith}
use Rattle.std.specs.Prelude.{cond, filter, is_none}
use Rattle.std.specs.List.{range_with_len}
use Rattle.std.proofs.lemmas.List.{append-nil, get_or-take, get_or_append_left, length-append, length-drop, length-take-le, take-append-drop}
use Rattle.std.proofs.lemmas.List.Sums.{count_by-le-length, length-filter}
use Rattle.gg_flat.specs.Circuit.{FlatCircuit}
use Rattle.gg_flat.specs.Line.{value_at}
use Rattle.gg_flat_tree.specs.Tree.{path_at}
use Rattle.gg_order.specs.Design.{Ordered}
use Rattle.gg_partfile.specs.Size.{all_driven, all_seen}
use Rattle.gg_partfile.specs.declared.request.Request.{Request}
use Rattle.gg_cut_plan.specs.Listed.{is_among}
use Rattle.gg_cut_plan.specs.Ports.{Bridges, open_ins, open_outs, output_count, plan_bridges, undriven, unseen}
use Rattle.gg_cut_reference.proofs.FittingLemmas.OpenLemmas.{stop-unseen, undriven-is, unseen-is}
use Rattle.gg_cut_split.specs.inside.Ends.{at_places}

-- ---- the items at the places that pass a test

kept-all : (ys : List ℕ) → filter (λ s. true) ys ≡ ys
kept-all [] = refl
kept-all (y ∷ ys) = ap (λ l. y ∷ l) (kept-all ys)

-- they are the items of a list that pass another, if the tests agree, and the items behind, if these all pass
places-kept : (keeps test : ℕ → Bool) (all xs ys : List ℕ) (n : ℕ) → ((k : ℕ) → k < length (xs ++ ys) → value_at all (n + k) ≡ value_at (xs ++ ys) k)
    → ((k : ℕ) → k < length xs → keeps (n + k) ≡ test (value_at xs k)) → ((k : ℕ) → length xs ≤ k → k < length (xs ++ ys) → keeps (n + k) ≡ true)
    → map (value_at all) (filter keeps (range_with_len n (length (xs ++ ys)))) ≡ filter test xs ++ ys
places-kept keeps test all [] [] n read same behind = refl
places-kept keeps test all [] (y ∷ ys) n read same behind =
    ap (λ b. map (value_at all) (cond b (n ∷ filter keeps (range_with_len (n + 1) (length ys))) (filter keeps (range_with_len (n + 1) (length ys))))) here
    ∙ ap₂ (λ v l. v ∷ l) item
    (places-kept keeps test all [] ys (n + 1) (λ k lt. ap (value_at all) (next k) ∙ read (suc k) (omega (arith, lt))) (λ k lt. absurd (omega (arith, lt))) (λ k le lt. ap keeps (next k) ∙ behind (suc k) (omega arith) (omega (arith, lt))))
  where
    first : n + 0 ≡ n
    first = omega arith

    here : keeps n ≡ true
    here = subst (λ k. keeps k ≡ true) first (behind 0 (omega arith) (omega arith))

    item : value_at all n ≡ y
    item = subst (λ k. value_at all k ≡ y) first (read 0 (omega arith))

    next : (k : ℕ) → (n + 1) + k ≡ n + suc k
    next k = omega arith
places-kept keeps test all (x ∷ xs) ys n read same behind =
    ap (λ b. map (value_at all) (cond b (n ∷ filter keeps (range_with_len (n + 1) (length (xs ++ ys)))) (filter keeps (range_with_len (n + 1) (length (xs ++ ys)))))) here
    ∙ by (test x)
    (places-kept keeps test all xs ys (n + 1) (λ k lt. ap (value_at all) (next k) ∙ read (suc k) (omega (arith, lt))) (λ k lt. ap keeps (next k) ∙ same (suc k) (omega (arith, lt))) (λ k le lt. ap keeps (next k) ∙ behind (suc k) (omega (arith, le)) (omega (arith, lt))))
  where
    first : n + 0 ≡ n
    first = omega arith

    here : keeps n ≡ test x
    here = subst (λ k. keeps k ≡ test x) first (same 0 (omega arith))

    item : value_at all n ≡ x
    item = subst (λ k. value_at all k ≡ x) first (read 0 (omega arith))

    next : (k : ℕ) → (n + 1) + k ≡ n + suc k
    next k = omega arith

    by : (b : Bool) → map (value_at all) (filter keeps (range_with_len (n + 1) (length (xs ++ ys)))) ≡ filter test xs ++ ys
        → map (value_at all) (cond b (n ∷ filter keeps (range_with_len (n + 1) (length (xs ++ ys)))) (filter keeps (range_with_len (n + 1) (length (xs ++ ys))))) ≡ cond b (x ∷ filter test xs) (filter test xs) ++ ys
    by true rest = ap₂ (λ v l. v ∷ l) item rest
    by false rest = rest

module _ (design : Ordered) (request : Request) where
  abbrev b : Bridges
  b = plan_bridges design.circuit design.tree request

  abbrev outputs : ℕ
  outputs = output_count design

  abbrev in_test : ℕ → Bool
  in_test s = not (is_among (all_driven request.bridges) (path_at design.circuit.paths s))

  abbrev out_test : ℕ → Bool
  out_test s = not (is_among (all_seen request.bridges) (path_at design.circuit.paths s))

  zero-more : (k : ℕ) → 0 + k ≡ k
  zero-more k = omega arith

  -- the inputs that no bridge drives
  pub ins-open : at_places (undriven (plan_bridges design.circuit design.tree request)) design.circuit.ins ≡ open_ins design.circuit request
  ins-open =
      let ins = design.circuit.ins in
      ap (λ (l : List ℕ). map (value_at ins) (filter (undriven b) (range_with_len 0 (length l)))) (sym (append-nil ins))
      ∙ places-kept (undriven b) in_test ins ins [] 0 (λ k lt. ap (value_at ins) (zero-more k) ∙ ap (λ (l : List ℕ). value_at l k) (sym (append-nil ins)))
      (λ k lt. ap (undriven b) (zero-more k) ∙ undriven-is design.circuit design.tree request k) (λ k le lt. absurd (omega (arith, le, lt, ap (λ (l : List ℕ). length l) (append-nil ins))))
      ∙ append-nil (filter in_test ins)

  -- no more outputs are open than there are
  pub open-few : length (open_outs design.circuit (output_count design) request) ≤ output_count design
  open-few =
      let front = take outputs design.circuit.outs in
      let chosen = length-filter out_test front in
      let few = count_by-le-length out_test front in
      omega (arith, chosen, few, length-take-le outputs design.circuit.outs (omega arith))

  -- the outputs that no bridge sees, and the stops behind them
  pub outs-open : at_places (unseen (plan_bridges design.circuit design.tree request)) design.circuit.outs ≡ open_outs design.circuit (output_count design) request ++ drop (output_count design) design.circuit.outs
  outs-open =
      let outs = design.circuit.outs in
      let front = take outputs outs in
      let stops = drop outputs outs in
      let whole = take-append-drop outputs outs in
      let many = length-take-le outputs outs (omega arith) in
      ap (λ (l : List ℕ). map (value_at outs) (filter (unseen b) (range_with_len 0 (length l)))) (sym whole)
      ∙ places-kept (unseen b) out_test outs front stops 0 (λ k lt. ap (value_at outs) (zero-more k) ∙ ap (λ (l : List ℕ). value_at l k) (sym whole))
      (λ k lt.
      let low : k < outputs = omega (arith, lt, many) in
      ap (unseen b) (zero-more k) ∙ unseen-is design.circuit design.tree request k low ∙ ap out_test (sym (get_or-take outputs outs k 0 low)))
      (λ k le lt. stop-unseen design.circuit design.tree request (0 + k) (omega (arith, le, many)))

-- ---- all names

-- lists that are added one behind another to one name; the fourth and the fifth are one list of what they are to be
pub names-joined : (hub : List ℕ) (a b c d e f : List (List ℕ)) (one two three four five six first : List (List ℕ)) → first ≡ hub ∷ [] → one ≡ first ++ a → two ≡ one ++ b → three ≡ two ++ c → four ≡ three ++ d → five ≡ four ++ e → six ≡ five ++ f → six ≡ hub ∷ (a ++ b ++ c ++ (d ++ e) ++ f)
names-joined hub a b c d e f one two three four five six first s p q r t u v =
    v ∙ ap (λ l. l ++ f) (u ∙ ap (λ l. l ++ e) (t ∙ ap (λ l. l ++ d) (r ∙ ap (λ l. l ++ c) (q ∙ ap (λ l. l ++ b) (p ∙ ap (λ l. l ++ a) s)))))
    ∙ ap (λ l. hub ∷ (l ++ f)) (append_assoc (a ++ b ++ c) d e)

pub names-same : (h hub : List ℕ) (a b c d e f units memories given taken stops entries : List (List ℕ)) → h ≡ hub → a ≡ units → b ≡ memories → c ≡ given → d ≡ taken → e ≡ stops → f ≡ entries
    → h ∷ (a ++ b ++ c ++ (d ++ e) ++ f) ≡ hub ∷ (units ++ memories ++ given ++ (taken ++ stops) ++ entries)
names-same h hub a b c d e f units memories given taken stops entries p q r s t u v =
    ap₂ (λ x l. x ∷ l) p (ap₂ (λ x y. x ++ y) (ap₂ (λ x y. x ++ y) (ap₂ (λ x y. x ++ y) (ap₂ (λ x y. x ++ y) q r) s) (ap₂ (λ x y. x ++ y) t u)) v)

-- the lists of names by equal circuits and signals
module _ (piece circuit : FlatCircuit) (same : piece ≡ circuit) where
  pub ports-named : (word : List ℕ) (some signals : List ℕ) → some ≡ signals → map (λ s. word ++ path_at piece.paths s) some ≡ map (λ s. word ++ path_at circuit.paths s) signals
  ports-named word some signals is = ap (λ (k : FlatCircuit). map (λ s. word ++ path_at k.paths s) some) same ∙ ap (map (λ s. word ++ path_at circuit.paths s)) is
