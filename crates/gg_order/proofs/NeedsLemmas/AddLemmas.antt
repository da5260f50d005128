-- Laws of sets of marks.
use Rattle.std.proofs.Common.{◌≡◌, ◌≢◌, ◌==◌, ℕ, zero, suc, ◌+◌, ◌<◌, ◌≤◌, List, [], ◌∷◌, ◌++◌, length, map, take, set, Bool, true, false, true≢false, nat_eq, nat_lt, refl, sym, ◌∙◌, ap, subst, inl, inr, ◌⊎◌, arith}
use Rattle.std.specs.Prelude.{slice_index_or, bit_or}
use Rattle.std.specs.Int.{bit_at}
use Rattle.std.proofs.lemmas.List.{get_or-set_same, get_or-set_other, length-set, take_more}
use Rattle.std.proofs.lemmas.Nat.Bits.{bit_at-zero, bit_at-lt, bit_at_or}
use Rattle.std.proofs.lemmas.Bool.Decides.{Decides-eqb, Decides-ltb}
use Rattle.gg_flat.specs.declared.line.Node.{Node}
use Rattle.gg_flat.specs.declared.line.Op.TheVariants.{Ref}
use Rattle.gg_flat.specs.Line.{value_at}
use Rattle.gg_flat.specs.Reads.{Names}
use Rattle.gg_flat.proofs.NameLemmas.{Names-push, Names-new, Names-push_cases}
use Rattle.gg_order.specs.Marks.{is_marked}
use Rattle.gg_order.proofs.MarkLemmas.{Marks-none, Marks-then}
use Rattle.gg_order.specs.inside.NeedsMarks.{marks_of, any_marks, Adds}

-- ---- the marks of one out-signal

mark-at : (place : ℕ) (marks : List ℕ) (s : ℕ) → is_marked (marks_of place marks) s ≡ (bit_at (value_at marks s) place == 1)
mark-at place [] s = ap (λ (n : ℕ). n == 1) (sym (bit_at-zero place))
mark-at place (x ∷ marks) zero = refl
mark-at place (x ∷ marks) (suc s) = mark-at place marks s

pub bit-marked : (place : ℕ) (marks : List ℕ) (s : ℕ) → bit_at (value_at marks s) place ≡ 1 → is_marked (marks_of place marks) s ≡ true
bit-marked place marks s is = mark-at place marks s ∙ (Decides-eqb (bit_at (value_at marks s) place) 1).1 is

pub bit-unmarked : (place : ℕ) (marks : List ℕ) (s : ℕ) → bit_at (value_at marks s) place ≡ 0 → is_marked (marks_of place marks) s ≡ false
bit-unmarked place marks s is = mark-at place marks s ∙ ap (λ (n : ℕ). n == 1) is

-- a signal has a mark if its set isn't 0
any-at : (marks : List ℕ) (s : ℕ) → is_marked (any_marks marks) s ≡ nat_lt 0 (value_at marks s)
any-at [] s = refl
any-at (x ∷ marks) zero = refl
any-at (x ∷ marks) (suc s) = any-at marks s

pub any-some : (marks : List ℕ) (s : ℕ) → 0 < value_at marks s → is_marked (any_marks marks) s ≡ true
any-some marks s some = any-at marks s ∙ (Decides-ltb 0 (value_at marks s)).1 some

pub any-none : (marks : List ℕ) (s : ℕ) → value_at marks s ≤ 0 → is_marked (any_marks marks) s ≡ false
any-none marks s none = any-at marks s ∙ by (nat_lt 0 (value_at marks s)) refl
  where
    by : (b : Bool) → nat_lt 0 (value_at marks s) ≡ b → nat_lt 0 (value_at marks s) ≡ false
    by true e = let some = (Decides-ltb 0 (value_at marks s)).0 e in absurd (omega (arith, some, none))
    by false e = e

pub any-marked : (place : ℕ) (marks : List ℕ) (s : ℕ) → is_marked (marks_of place marks) s ≡ true → is_marked (any_marks marks) s ≡ true
any-marked place marks s is = any-some marks s (some (value_at marks s) ((Decides-eqb (bit_at (value_at marks s) place) 1).0 (sym (mark-at place marks s) ∙ is)))
  where
    some : (n : ℕ) → bit_at n place ≡ 1 → 0 < n
    some zero one = absurd (omega (arith, one, bit_at-zero place))
    some (suc n) one = omega arith

-- a bit is 1 or 0
pub bit-cases : (n place : ℕ) → (bit_at n place ≡ 1) ⊎ (bit_at n place ≡ 0)
bit-cases n place = by (bit_at n place) (bit_at-lt n place)
  where
    by : (b : ℕ) → b < 2 → (b ≡ 1) ⊎ (b ≡ 0)
    by zero lt = inr refl
    by (suc zero) lt = inl refl
    by (suc (suc b)) lt = absurd (omega arith)

-- ---- a set is added to that of one signal

same-map : (f : ℕ → Bool) (xs : List ℕ) (i v : ℕ) → f v ≡ f (value_at xs i) → map f (set xs i v) ≡ map f xs
same-map f [] i v e = refl
same-map f (x ∷ xs) zero v e = ap (λ (b : Bool). b ∷ map f xs) e
same-map f (x ∷ xs) (suc i) v e = ap (λ (l : List Bool). f x ∷ l) (same-map f xs i v e)

pub Adds-one : (added signal : ℕ) (marks : List ℕ) → signal < length marks → Adds added (λ s. signal ≡ s) marks (set marks signal (bit_or (value_at marks signal) added))
Adds-one added signal marks within =
    record {
      count = length-set marks signal sum;
      given = λ place is. record {
        kept = λ s h. kept place is s h (nat_eq s signal) refl;
        marked = λ s e. subst (λ (t : ℕ). is_marked (marks_of place after) t ≡ true) e (here place is);
        only = λ s h. only place s h (nat_eq s signal) refl;
      };
      kept = λ place is. same-map (λ (n : ℕ). bit_at n place == 1) marks signal sum
          (ap (λ (n : ℕ). n == 1) (let own : bit_at sum place ≡ bit_at (value_at marks signal) place = omega (arith, bit_at_or (value_at marks signal) added place, is) in own));
    }
  where
    sum : ℕ
    sum = bit_or (value_at marks signal) added

    after : List ℕ
    after = set marks signal sum

    here : (place : ℕ) → bit_at added place ≡ 1 → is_marked (marks_of place after) signal ≡ true
    here place is =
        bit-marked place after signal (ap (λ (n : ℕ). bit_at n place) (get_or-set_same marks signal sum 0 within)
        ∙ (let one : bit_at sum place ≡ 1 = omega (arith, bit_at_or (value_at marks signal) added place, is, bit_at-lt (value_at marks signal) place) in one))

    beside : (place s : ℕ) → s ≢ signal → is_marked (marks_of place after) s ≡ is_marked (marks_of place marks) s
    beside place s other = mark-at place after s ∙ ap (λ (n : ℕ). bit_at n place == 1) (get_or-set_other marks signal s sum 0 other) ∙ sym (mark-at place marks s)

    kept : (place : ℕ) → bit_at added place ≡ 1 → (s : ℕ) → is_marked (marks_of place marks) s ≡ true → (b : Bool) → nat_eq s signal ≡ b → is_marked (marks_of place after) s ≡ true
    kept place is s h true e = subst (λ (t : ℕ). is_marked (marks_of place after) t ≡ true) (sym ((Decides-eqb s signal).0 e)) (here place is)
    kept place is s h false e = beside place s (λ same. true≢false (sym ((Decides-eqb s signal).1 same) ∙ e)) ∙ h

    only : (place s : ℕ) → is_marked (marks_of place after) s ≡ true → (b : Bool) → nat_eq s signal ≡ b → (is_marked (marks_of place marks) s ≡ true) ⊎ (signal ≡ s)
    only place s h true e = inr (sym ((Decides-eqb s signal).0 e))
    only place s h false e = inl (sym (beside place s (λ same. true≢false (sym ((Decides-eqb s signal).1 same) ∙ e))) ∙ h)

-- ---- several signals

pub Adds-none : (added : ℕ) (P : ℕ → Type 0) (marks : List ℕ) → ((s : ℕ) → P s → ⊥) → Adds added P marks marks
Adds-none added P marks none =
    record { count = refl; given = λ place is. Marks-none P (marks_of place marks) none; kept = λ place is. refl }

pub Adds-then : (added : ℕ) (P Q R : ℕ → Type 0) (a b c : List ℕ) → ((s : ℕ) → P s → R s) → ((s : ℕ) → Q s → R s) → ((s : ℕ) → R s → P s ⊎ Q s) → Adds added P a b → Adds added Q b c → Adds added R a c
Adds-then added P Q R a b c from_p from_q cases first second =
    record {
      count = second.count ∙ first.count;
      given = λ place is. Marks-then P Q R (marks_of place a) (marks_of place b) (marks_of place c) from_p from_q cases (first.given place is) (second.given place is);
      kept = λ place is. second.kept place is ∙ first.kept place is;
    }

-- a set is added to what one more node names
pub Adds-node : (added : ℕ) (nodes : List Node) (i : ℕ) (n : Node) (a b c : List ℕ) → i < length nodes → n ≡ slice_index_or nodes i n → Adds added (Names (take i nodes)) a b → Adds added (λ s. n.op ≡ Ref s) b c → Adds added (Names (take (i + 1) nodes)) a c
Adds-node added nodes i n a b c lt is first second =
    let more : take (i + 1) nodes ≡ take i nodes ++ n ∷ [] = take_more nodes i n lt ∙ ap (λ (m : Node). take i nodes ++ m ∷ []) (sym is) in
    subst (λ (l : List Node). Adds added (Names l) a c) (sym more)
    (Adds-then added (Names (take i nodes)) (λ s. n.op ≡ Ref s) (Names (take i nodes ++ n ∷ [])) a b c
    (λ s h. Names-push (take i nodes) n s h) (λ s h. Names-new (take i nodes) n s h) (λ s h. Names-push_cases (take i nodes) n s h) first second)
