-- Marks on signals with a list of those that were found, signal by signal.
use Rattle.std.proofs.Common.{◌≡◌, ◌≢◌, ℕ, ◌+◌, ◌<◌, ◌≤◌, List, [], ◌∷◌, ◌++◌, length, take, set, replicate, Bool, true, false, true≢false, nat_eq, refl, sym, ◌∙◌, ap, subst, inl, inr, ◌⊎◌, ◌↔◌, arith, append_assoc}
use Rattle.std.specs.Prelude.{AllPairs, Contains, slice_index_or}
use Rattle.std.proofs.lemmas.Bool.{cases_lt}
use Rattle.std.proofs.lemmas.Bool.Decides.{Decides-eqb}
use Rattle.std.proofs.lemmas.List.{append-nil, get_or_default, get_or_past, get_or-replicate, get_or-set_same, get_or-set_other, length-append, length-replicate, length-set, take_more}
use Rattle.std.proofs.lemmas.List.Elements.{Contains-append_left, Contains-append_right, Contains-append_cases}
use Rattle.std.proofs.lemmas.List.Quantifiers.{all_pairs_push}
use Rattle.std.proofs.lemmas.Map.Made.{IsDistinct-from_AllPairs}
use Rattle.std.proofs.lemmas.Map.Steps.{length-le_from_distinct_below}
use Rattle.std.proofs.lemmas.Map.Views.{Contains-from_any}
use Rattle.gg_flat.specs.declared.line.Node.{Node}
use Rattle.gg_flat.specs.declared.line.Op.{Op}
use Rattle.gg_flat.specs.declared.line.Op.TheVariants.{Ref}
use Rattle.gg_flat.specs.Line.{value_at}
use Rattle.gg_flat.specs.Reads.{Names}
use Rattle.gg_flat.proofs.NameLemmas.{Contains-one, Names-push, Names-new, Names-push_cases}
use Rattle.gg_order.specs.Marks.{is_marked}
use Rattle.gg_program.specs.inside.Search.{Searched, IsListed, IsFull, Finds}

-- ---- marks

-- a marked signal stays marked when another one is marked
pub mark-more : (marks : List Bool) (signal s : ℕ) → signal < length marks → is_marked marks s ≡ true → is_marked (set marks signal true) s ≡ true
mark-more marks signal s known is = by (nat_eq s signal) refl
  where
    by : (b : Bool) → nat_eq s signal ≡ b → is_marked (set marks signal true) s ≡ true
    by true e = ap (is_marked (set marks signal true)) ((Decides-eqb s signal).0 e) ∙ get_or-set_same marks signal true false known
    by false e = get_or-set_other marks signal s true false (λ same. true≢false (sym ((Decides-eqb s signal).1 same) ∙ e)) ∙ is

-- a signal that is marked after one was marked is that one, or was marked before
pub mark-cases : (marks : List Bool) (signal s : ℕ) → is_marked (set marks signal true) s ≡ true → (is_marked marks s ≡ true) ⊎ (signal ≡ s)
mark-cases marks signal s is = by (nat_eq s signal) refl
  where
    by : (b : Bool) → nat_eq s signal ≡ b → (is_marked marks s ≡ true) ⊎ (signal ≡ s)
    by true e = inr (sym ((Decides-eqb s signal).0 e))
    by false e = inl (sym (get_or-set_other marks signal s true false (λ same. true≢false (sym ((Decides-eqb s signal).1 same) ∙ e))) ∙ is)

-- a marked signal is below the number of marks
pub marked-within : (marks : List Bool) (s : ℕ) → is_marked marks s ≡ true → s < length marks
marked-within marks s is = elim (cases_lt s (length marks)) [
  | inl lt ↦ lt
  | inr le ↦ absurd (true≢false (sym is ∙ get_or_past marks s false le))
]

-- a signal that isn't marked in the end wasn't marked before
pub unmarked-before : (a b : List Bool) (s : ℕ) → (is_marked a s ≡ true → is_marked b s ≡ true) → is_marked b s ≡ false → is_marked a s ≡ false
unmarked-before a b s kept not = by (is_marked a s) refl
  where
    by : (m : Bool) → is_marked a s ≡ m → is_marked a s ≡ false
    by true is = absurd (true≢false (sym (kept is) ∙ not))
    by false is = is

-- ---- what is listed

pub IsListed-push : (marks : List Bool) (found : List ℕ) (signal : ℕ) → signal < length marks → is_marked marks signal ≡ false → IsListed marks found → IsListed (set marks signal true) (found ++ signal ∷ [])
IsListed-push marks found signal known not h =
    record {
      marked = λ s has. elim (Contains-append_cases found (signal ∷ []) s has) [
        | inl old ↦ mark-more marks signal s known (h.marked s old)
        | inr new ↦ subst (λ (x : ℕ). is_marked (set marks signal true) x ≡ true) (Contains-one signal s new) (get_or-set_same marks signal true false known)
      ];
      once = all_pairs_push (λ (a b : ℕ). a ≢ b) found signal h.once (λ i d lt same.
          true≢false (sym (h.marked signal (i, lt, get_or_default found i signal d lt ∙ same)) ∙ not));
    }

-- marks that are all set
pub IsFull-replicate : (n : ℕ) → IsFull (replicate n true)
IsFull-replicate n s lt = get_or-replicate n s true false (omega (arith, lt, length-replicate n true))

pub IsListed-full : (marks : List Bool) (found : List ℕ) (n : ℕ) → n ≡ length marks → IsListed marks found → IsListed (replicate n true) found
IsListed-full marks found n count h =
    record {
      marked = λ s has. IsFull-replicate n s (omega (arith, count, marked-within marks s (h.marked s has), length-replicate n true));
      once = h.once;
    }

-- no more signals are listed than there are marks
pub IsListed-most : (marks : List Bool) (found : List ℕ) → IsListed marks found → length found ≤ length marks
IsListed-most marks found h =
    length-le_from_distinct_below found (length marks) (IsDistinct-from_AllPairs Decides-eqb found h.once)
    (λ q any. marked-within marks q (h.marked q (Contains-from_any (λ x y e. (Decides-eqb x y).0 e) q found any)))

-- if a signal isn't marked, fewer signals are listed than there are marks
pub IsListed-room : (marks : List Bool) (found : List ℕ) (signal : ℕ) → signal < length marks → is_marked marks signal ≡ false → IsListed marks found → length found < length marks
IsListed-room marks found signal known not h =
    let most = IsListed-most (set marks signal true) (found ++ signal ∷ []) (IsListed-push marks found signal known not h) in
    omega (arith, most, length-append found (signal ∷ []), length-set marks signal true)

-- ---- one signal is found

pub Finds-marked : (search : Searched) (signal : ℕ) → is_marked search.marks signal ≡ true → Finds (λ s. signal ≡ s) search search
Finds-marked search signal is =
    record {
      count = refl;
      more = [];
      grown = sym (append-nil search.found);
      fresh = λ s h. absurd (omega (arith, h.1));
      marked = λ s. (λ m. inl m, λ e. elim e [ inl m ↦ m | inr h ↦ absurd (omega (arith, h.1)) ]);
      named = λ s e. subst (λ (x : ℕ). is_marked search.marks x ≡ true) e is;
    }

pub Finds-new : (marks : List Bool) (found : List ℕ) (signal : ℕ) → signal < length marks → is_marked marks signal ≡ false → Finds (λ s. signal ≡ s) (record { marks = marks; found = found }) (record { marks = set marks signal true; found = found ++ signal ∷ [] })
Finds-new marks found signal known not =
    record {
      count = length-set marks signal true;
      more = signal ∷ [];
      grown = refl;
      fresh = λ s h. let same : signal ≡ s = Contains-one signal s h in (same, subst (λ (x : ℕ). is_marked marks x ≡ false) same not);
      marked = λ s. (
        λ m. elim (mark-cases marks signal s m) [ inl was ↦ inl was | inr same ↦ inr (0, omega arith, same) ],
        λ e. elim e [ inl was ↦ mark-more marks signal s known was | inr h ↦ itself s (Contains-one signal s h) ],
      );
      named = itself;
    }
  where
    itself : (s : ℕ) → signal ≡ s → is_marked (set marks signal true) s ≡ true
    itself s same = subst (λ (x : ℕ). is_marked (set marks signal true) x ≡ true) same (get_or-set_same marks signal true false known)

-- ---- one after another

pub Finds-then : (P Q R : ℕ → Type 0) (a b c : Searched) → ((s : ℕ) → P s → R s) → ((s : ℕ) → Q s → R s) → ((s : ℕ) → R s → P s ⊎ Q s) → Finds P a b → Finds Q b c → Finds R a c
Finds-then P Q R a b c from_p from_q cases first second =
    record {
      count = second.count ∙ first.count;
      more = first.more ++ second.more;
      grown = second.grown ∙ ap (λ (l : List ℕ). l ++ second.more) first.grown ∙ append_assoc a.found first.more second.more;
      fresh = λ s h. elim (Contains-append_cases first.more second.more s h) [
        | inl old ↦ (from_p s (first.fresh s old).0, (first.fresh s old).1)
        | inr new ↦ (from_q s (second.fresh s new).0, unmarked-before a.marks b.marks s (λ m. (first.marked s).1 (inl m)) (second.fresh s new).1)
      ];
      marked = λ s. (to s, from s);
      named = λ s r. elim (cases s r) [ inl p ↦ (second.marked s).1 (inl (first.named s p)) | inr q ↦ second.named s q ];
    }
  where
    to : (s : ℕ) → is_marked c.marks s ≡ true → (is_marked a.marks s ≡ true) ⊎ Contains (first.more ++ second.more) s
    to s m = elim ((second.marked s).0 m) [
      | inl was ↦ elim ((first.marked s).0 was) [ inl old ↦ inl old | inr h ↦ inr (Contains-append_left first.more second.more s h) ]
      | inr h ↦ inr (Contains-append_right first.more second.more s h)
    ]

    from : (s : ℕ) → (is_marked a.marks s ≡ true) ⊎ Contains (first.more ++ second.more) s → is_marked c.marks s ≡ true
    from s (inl was) = (second.marked s).1 (inl ((first.marked s).1 (inl was)))
    from s (inr h) = elim (Contains-append_cases first.more second.more s h) [
      | inl old ↦ (second.marked s).1 (inl ((first.marked s).1 (inr old)))
      | inr new ↦ (second.marked s).1 (inr new)
    ]

-- `Finds` holds for a condition if it holds for an equivalent one
pub Finds-same : (P Q : ℕ → Type 0) (a b : Searched) → ((s : ℕ) → P s → Q s) → ((s : ℕ) → Q s → P s) → Finds P a b → Finds Q a b
Finds-same P Q a b to from finds =
    record {
      count = finds.count;
      more = finds.more;
      grown = finds.grown;
      fresh = λ s h. let of = finds.fresh s h in (to s of.0, of.1);
      marked = finds.marked;
      named = λ s q. finds.named s (from s q);
    }

same-signal : (a b : ℕ) → Ref a ≡ Ref b → a ≡ b
same-signal a b is = cc

-- the signals that one more node names
pub Finds-node : (nodes : List Node) (i : ℕ) (n : Node) (a b c : Searched) → i < length nodes → n ≡ slice_index_or nodes i n → Finds (Names (take i nodes)) a b → Finds (λ s. n.op ≡ Ref s) b c → Finds (Names (take (i + 1) nodes)) a c
Finds-node nodes i n a b c lt is first second =
    let more : take (i + 1) nodes ≡ take i nodes ++ n ∷ [] = take_more nodes i n lt ∙ ap (λ (m : Node). take i nodes ++ m ∷ []) (sym is) in
    subst (λ (l : List Node). Finds (Names l) a c) (sym more)
    (Finds-then (Names (take i nodes)) (λ s. n.op ≡ Ref s) (Names (take i nodes ++ n ∷ [])) a b c
    (λ s h. Names-push (take i nodes) n s h) (λ s h. Names-new (take i nodes) n s h) (λ s h. Names-push_cases (take i nodes) n s h) first second)

-- an operation that is a reference to a signal names it alone
pub Finds-op : (op : Op) (signal : ℕ) (a b : Searched) → op ≡ Ref signal → Finds (λ s. signal ≡ s) a b → Finds (λ s. op ≡ Ref s) a b
Finds-op op signal a b is finds = Finds-same (λ s. signal ≡ s) (λ s. op ≡ Ref s) a b (λ s same. is ∙ ap Ref same) (λ s h. same-signal signal s (sym is ∙ h)) finds

-- both signals of a read of latency 0
pub Finds-both : (addr en : ℕ) (a b c : Searched) → Finds (λ s. addr ≡ s) a b → Finds (λ s. en ≡ s) b c → Finds (λ s. (addr ≡ s) ⊎ (en ≡ s)) a c
Finds-both addr en a b c first second = Finds-then (λ s. addr ≡ s) (λ s. en ≡ s) (λ s. (addr ≡ s) ⊎ (en ≡ s)) a b c (λ s e. inl e) (λ s e. inr e) (λ s h. h) first second

-- a listed signal is below the number of marks
pub IsListed-within : (marks : List Bool) (found : List ℕ) (place : ℕ) → place < length found → IsListed marks found → value_at found place < length marks
IsListed-within marks found place lt h = marked-within marks (value_at found place) (h.marked (value_at found place) (place, lt, get_or_default found place (value_at found place) 0 lt))

-- the same signals in another order
pub IsListed-moved : (marks : List Bool) (found moved : List ℕ) → ((s : ℕ) → Contains moved s ↔ Contains found s) → AllPairs (λ a b. a ≢ b) moved → IsListed marks found → IsListed marks moved
IsListed-moved marks found moved same once h = record { marked = λ s has. h.marked s ((same s).0 has); once = once }
