-- The lines of a text, and those of a snapshot.
use Rattle.std.proofs.Common.{◌≡◌, ℕ, suc, ◌+◌, ◌<◌, ◌≤◌, List, [], ◌∷◌, length, take, drop, get_or, Bool, true, false, cond, Some, None, refl, sym, ap, ◌∙◌, subst, arith}
use Rattle.std.specs.Prelude.{◌==◌}
use Rattle.std.specs.List.{concat}
use Rattle.std.proofs.lemmas.List.{take_all, length-take-le}
use Rattle.gg_bits.specs.Limits.{cycle_limit}
use Rattle.gg_flat.specs.Circuit.{FlatCircuit}
use Rattle.gg_flat.specs.State.{IsState, State, opening}
use Rattle.gg_flat_tree.specs.Tree.{InstanceTree}
use Rattle.gg_flat.proofs.StateLemmas.{IsState-opening}
use Rattle.gg_snap.specs.text.Lines.{cycle_line, first_line, value_lines}
use Rattle.gg_snap.specs.text.Table.{rows_of}
use Rattle.gg_snap.specs.inside.Places.{Ends}
use Rattle.gg_snap.specs.text.Standing.{CanStand, IsFirstFault, IsSnap, Lacks, Stops, pieces, with_byte}
use Rattle.gg_snap.specs.inside.Heading.{IsHeadingFault, NoLine, NotFirst, NoSecond, NotSecond}

-- ---- a text is its lines, one after another

with_byte-concat : (b : ℕ) (ls : List (List ℕ)) → concat (with_byte b ls) ≡ b ∷ concat ls
with_byte-concat b [] = refl
with_byte-concat b (l ∷ ls) = refl

pub pieces-whole : (text : List ℕ) → concat (pieces text) ≡ text
pieces-whole [] = refl
pieces-whole (b ∷ text) = by (pieces-whole text) (b == 10)
  where
    by : concat (pieces text) ≡ text → (t : Bool) → concat (cond t ((b ∷ []) ∷ pieces text) (with_byte b (pieces text))) ≡ b ∷ text
    by whole true = ap (λ t. b ∷ t) whole
    by whole false = with_byte-concat b (pieces text) ∙ ap (λ t. b ∷ t) whole

with_byte-length : (b : ℕ) (ls : List (List ℕ)) → length (with_byte b ls) ≤ suc (length ls)
with_byte-length b [] = omega arith
with_byte-length b (l ∷ ls) = omega arith

-- a text has no more lines than bytes
pub pieces-few : (text : List ℕ) → length (pieces text) ≤ length text
pieces-few [] = omega arith
pieces-few (b ∷ text) = by (pieces-few text) (b == 10)
  where
    by : length (pieces text) ≤ length text → (t : Bool) → length (cond t ((b ∷ []) ∷ pieces text) (with_byte b (pieces text))) ≤ suc (length text)
    by few true = omega (arith, few)
    by few false = omega (arith, few, with_byte-length b (pieces text))

first : {A : Type 0} (x y d : A) (xs ys : List A) → x ∷ xs ≡ y ∷ ys → x ≡ y
first x y d xs ys e = ap (λ (l : List _). get_or l 0 d) e

module _ (circuit : FlatCircuit) (tree : InstanceTree) (bytes : List ℕ) where
  -- ---- the first two lines

  can-none : CanStand circuit tree bytes 0
  can-none = record {
    cycle = 0;
    state = opening circuit;
    within = omega arith;
    typed = IsState-opening circuit;
    there = omega arith;
    enough = omega arith;
    same = refl;
  }

  can-first : (more : List (List ℕ)) → pieces bytes ≡ first_line ∷ more → CanStand circuit tree bytes 1
  can-first more cut = record {
    cycle = 0;
    state = opening circuit;
    within = omega arith;
    typed = IsState-opening circuit;
    there = omega (arith, ap length cut);
    enough = omega arith;
    same = ap (take 1) cut;
  }

  pub heading-fault : (line : ℕ) → IsHeadingFault bytes line → IsFirstFault circuit tree bytes line
  heading-fault line (NoLine is none) = Lacks (is ∙ ap suc (sym none)) (omega (arith, none)) (subst (CanStand circuit tree bytes) (sym none) can-none)
  heading-fault line (NotFirst is piece more cut other) =
      Stops 0 is (omega (arith, ap length cut)) can-none
      (λ can. other (first piece first_line [] [] [] (ap (take 1) (sym cut) ∙ can.same)))
  heading-fault line (NoSecond is cut) =
      Lacks (is ∙ ap (λ ls. suc (length ls)) (sym cut)) (omega (arith, ap length cut)) (subst (CanStand circuit tree bytes) (ap length (sym cut)) (can-first [] cut))
  heading-fault line (NotSecond is piece more cut other) =
      Stops 1 is (omega (arith, ap length cut)) (can-first (piece ∷ more) cut)
      (λ can. other can.cycle can.within (ap (λ (l : List (List ℕ)). get_or l 1 []) (ap (take 2) (sym cut) ∙ can.same)))

  -- ---- the others

  module _ (cycle : ℕ) (rest : List ℕ) (within : cycle ≤ cycle_limit) (cut : pieces bytes ≡ first_line ∷ cycle_line cycle ∷ pieces rest) (state : State) (typed : IsState circuit state) where
    pub read-all : Ends circuit (rows_of circuit tree) rest state None → IsSnap circuit tree bytes cycle state
    read-all all = record {
      within = within;
      typed = typed;
      is = sym (pieces-whole bytes) ∙ ap concat (cut ∙ ap (λ ls. first_line ∷ cycle_line cycle ∷ ls) all);
    }

    stops-at : (k : ℕ) → Ends circuit (rows_of circuit tree) rest state (Some k) → CanStand circuit tree bytes (suc (suc (suc k))) → ⊥
    stops-at k ends can =
        ends.2 can.state can.typed (omega (arith, can.enough))
        (ap (λ (ls : List (List ℕ)). drop 2 ls) (ap (take (suc (suc (suc k)))) (sym cut) ∙ can.same))

    stands-at : (k : ℕ) → Ends circuit (rows_of circuit tree) rest state (Some k) → CanStand circuit tree bytes (suc (suc k))
    stands-at k ends =
        let lines = value_lines state (rows_of circuit tree) in
        let size : length lines ≡ k = ap length (sym ends.1) ∙ length-take-le k (pieces rest) (omega (arith, ends.0)) in
        record {
          cycle = cycle;
          state = state;
          within = within;
          typed = typed;
          there = omega (arith, ends.0, ap length cut);
          enough = omega (arith, size);
          same =
              ap (take (suc (suc k))) cut
              ∙ ap (λ ls. first_line ∷ cycle_line cycle ∷ ls) (ends.1 ∙ sym (take_all k lines (omega (arith, size))));
        }

    pub read-stops : (k : ℕ) → Ends circuit (rows_of circuit tree) rest state (Some k) → (line : ℕ) → line ≡ k + 3 → IsFirstFault circuit tree bytes line
    read-stops k ends line is =
        Stops (suc (suc k)) (omega (arith, is)) (omega (arith, ends.0, ap length cut)) (stands-at k ends) (stops-at k ends)

    pub few-lines : (k : ℕ) → Ends circuit (rows_of circuit tree) rest state (Some k) → k < length rest
    few-lines k ends = omega (arith, ends.0, pieces-few rest)
