-- The first item of a list that fails a test, item by item.
use Rattle.std.proofs.Common.{◌≡◌, ℕ, zero, suc, ◌+◌, ◌<◌, List, [], ◌∷◌, ◌++◌, length, get_or, drop, Bool, true, false, refl, sym, ◌∙◌, ap, ap₂, inl, inr, Some, None, add-one, drop-cons, append_assoc, arith}
use Rattle.std.specs.Prelude.{Option, find, cond, option_map, not, if◌then◌else◌}
use Rattle.std.specs.List.{list_any}
use Rattle.gg_cut_plan.specs.declared.fault.CutFault.{CutFault}
use Rattle.gg_cut_plan.specs.declared.fault.CutFault.TheVariants.{Doubled}
use Rattle.std.proofs.lemmas.List.{length-append, append-nil}
use Rattle.gg_cut_plan.specs.Listed.{is_among}
use Rattle.gg_cut_plan.specs.Fault.{first_clash, same_path, repeated, unshared, IsTold}
use Rattle.gg_bits.specs.Lists.{or_else, first_of}
use Rattle.gg_partfile.specs.Size.{entries}

-- the items from place i on are the item at place i and those after it
pub rest-at : {A : Type 0} (xs : List A) (i : ℕ) (x : A) → i < length xs → x ≡ get_or xs i x → drop i xs ≡ x ∷ drop (i + 1) xs
rest-at xs i x lt read = drop-cons xs i x lt ∙ ap₂ (λ y l. y ∷ l) (sym read) (ap (λ n. drop n xs) (sym (add-one i)))

-- ---- clashes

pub first_clash-append : (clash : List ℕ → List ℕ → Bool) (earlier xs ys : List (List ℕ)) → first_clash clash earlier (xs ++ ys) ≡ or_else (first_clash clash earlier xs) (first_clash clash (earlier ++ xs) ys)
first_clash-append clash earlier [] ys = ap (λ l. first_clash clash l ys) (sym (append-nil earlier))
first_clash-append clash earlier (x ∷ xs) ys =
    by (list_any (clash x) earlier) (first_clash-append clash (earlier ++ x ∷ []) xs ys ∙ ap (λ l. or_else (first_clash clash (earlier ++ x ∷ []) xs) (first_clash clash l ys)) (append_assoc earlier (x ∷ []) xs))
  where
    by : (b : Bool) → first_clash clash (earlier ++ x ∷ []) (xs ++ ys) ≡ or_else (first_clash clash (earlier ++ x ∷ []) xs) (first_clash clash (earlier ++ x ∷ xs) ys)
        → (if b then Some x else first_clash clash (earlier ++ x ∷ []) (xs ++ ys)) ≡ or_else (if b then Some x else first_clash clash (earlier ++ x ∷ []) xs) (first_clash clash (earlier ++ x ∷ xs) ys)
    by true rest = refl
    by false rest = rest

-- ---- faults that are reported

pub or_else-map : {A B : Type 0} (f : A → B) (a b : Option A) → option_map f (or_else a b) ≡ or_else (option_map f a) (option_map f b)
or_else-map f None b = refl
or_else-map f (Some x) b = refl

-- a fault reported of the first is one of both; where the first has none, the fault of both is the second's
pub told-first : (a b : Option CutFault) (cause : CutFault) → IsTold a cause → IsTold (or_else a b) cause
told-first a b cause (inl memory) = inl memory
told-first a b cause (inr is) = inr (ap (λ f. or_else f b) is)

-- a fault reported of one is reported of an equal one
pub told-same : (a b : Option CutFault) (cause : CutFault) → a ≡ b → IsTold a cause → IsTold b cause
told-same a b cause same (inl memory) = inl memory
told-same a b cause same (inr is) = inr (sym same ∙ is)

-- ---- lists of faults

pub none-first : {A : Type 0} (a b : Option A) → or_else a b ≡ None → a ≡ None
none-first None b e = refl
none-first (Some x) b e = absurd (cc)

pub none-second : {A : Type 0} (a b : Option A) → or_else a b ≡ None → b ≡ None
none-second None b e = e
none-second (Some x) b e = absurd (cc)

-- where a list has no fault, none of it is one
pub none-at : {A : Type 0} (faults : List (Option A)) (i : ℕ) → first_of faults ≡ None → get_or faults i None ≡ None
none-at [] i e = refl
none-at (fault ∷ faults) zero e = none-first fault (first_of faults) e
none-at (fault ∷ faults) (suc i) e = none-at faults i (none-second fault (first_of faults) e)

-- the first fault of two lists, one behind the other
pub first-append : {A : Type 0} (one other : List (Option A)) → first_of (one ++ other) ≡ or_else (first_of one) (first_of other)
first-append [] other = refl
first-append (None ∷ one) other = first-append one other
first-append (Some fault ∷ one) other = refl

pub none-front : {A : Type 0} (one other : List (Option A)) → first_of (one ++ other) ≡ None → first_of one ≡ None
none-front one other e = none-first (first_of one) (first_of other) (sym (first-append one other) ∙ e)

pub none-back : {A : Type 0} (one other : List (Option A)) → first_of (one ++ other) ≡ None → first_of other ≡ None
none-back one other e = none-second (first_of one) (first_of other) (sym (first-append one other) ∙ e)

-- ---- lists of lists

pub find-same : {A : Type 0} (test other : A → Bool) (xs : List A) → ((x : A) → test x ≡ other x) → find test xs ≡ find other xs
find-same test other [] same = refl
find-same test other (x ∷ xs) same = ap₂ (λ b rest. cond b (Some x) rest) (same x) (find-same test other xs same)

pub unshared-same : (set units : List (List ℕ)) (share : List (List (List ℕ))) → ((path : List ℕ) → is_among set path ≡ is_among units path) → unshared set share ≡ unshared units share
unshared-same set units [] same = refl
unshared-same set units (group ∷ share) same =
    ap₂ or_else (find-same (λ path. not (is_among set path)) (λ path. not (is_among units path)) group (λ path. ap not (same path))) (unshared-same set units share same)

entries-at : (share : List (List (List ℕ))) (i : ℕ) (group : List (List ℕ)) → i < length share → group ≡ get_or share i group → entries (drop i share) ≡ group ++ entries (drop (i + 1) share)
entries-at share i group lt read = ap entries (rest-at share i group lt read)

pub clash-at : (share : List (List (List ℕ))) (i : ℕ) (group seen : List (List ℕ)) → i < length share → group ≡ get_or share i group → repeated (entries share) ≡ first_clash same_path seen (entries (drop i share)) → repeated (entries share) ≡ or_else (first_clash same_path seen group) (first_clash same_path (seen ++ group) (entries (drop (i + 1) share)))
clash-at share i group seen lt read so_far =
    so_far ∙ ap (first_clash same_path seen) (entries-at share i group lt read) ∙ first_clash-append same_path seen group (entries (drop (i + 1) share))

pub clash-stop : (share : List (List (List ℕ))) (i : ℕ) (group seen : List (List ℕ)) (cause : CutFault) → i < length share → group ≡ get_or share i group → repeated (entries share) ≡ first_clash same_path seen (entries (drop i share)) → IsTold (option_map Doubled (first_clash same_path seen group)) cause → IsTold (option_map Doubled (repeated (entries share))) cause
clash-stop share i group seen cause lt read so_far told =
    let rest = first_clash same_path (seen ++ group) (entries (drop (i + 1) share)) in
    told-same (or_else (option_map Doubled (first_clash same_path seen group)) (option_map Doubled rest)) (option_map Doubled (repeated (entries share))) cause
    (sym (or_else-map Doubled (first_clash same_path seen group) rest) ∙ ap (option_map Doubled) (sym (clash-at share i group seen lt read so_far)))
    (told-first (option_map Doubled (first_clash same_path seen group)) (option_map Doubled rest) cause told)

pub none-map : {A B : Type 0} (f : A → B) (a : Option A) → option_map f a ≡ None → a ≡ None
none-map f None e = refl
none-map f (Some x) e = absurd (cc)

-- the groups before place i have no clash, and their entries stand in `seen`
pub record SeenGroups (share : List (List (List ℕ))) (i : ℕ) (seen : List (List ℕ)) : Type 0 where
  pub clash : repeated (entries share) ≡ first_clash same_path seen (entries (drop i share))
  pub total : length seen + length (entries (drop i share)) ≡ length (entries share)

pub SeenGroups-more : (share : List (List (List ℕ))) (i : ℕ) (group seen new : List (List ℕ)) → i < length share → group ≡ get_or share i group → SeenGroups share i seen → option_map (λ path. Doubled path) (first_clash same_path seen group) ≡ None → new ≡ seen ++ group → SeenGroups share (i + 1) new
SeenGroups-more share i group seen new lt read before none is =
    record {
      clash = clash-at share i group seen lt read before.clash ∙ ap (λ f. or_else f (first_clash same_path (seen ++ group) (entries (drop (i + 1) share)))) (none-map (λ path. Doubled path) (first_clash same_path seen group) none)
          ∙ ap (λ l. first_clash same_path l (entries (drop (i + 1) share))) (sym is);
      total = omega (arith, before.total, ap length is, length-append seen group, ap length (entries-at share i group lt read), length-append group (entries (drop (i + 1) share)));
    }
