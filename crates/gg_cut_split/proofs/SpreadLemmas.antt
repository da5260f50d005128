-- Lists, one for each machine, that are filled number by number.
use Rattle.std.proofs.Common.{◌≡◌, ℕ, ◌+◌, ◌<◌, List, [], ◌∷◌, ◌++◌, length, map, get_or, set, Bool, true, false, refl, sym, ◌∙◌, ap, ap₂, subst, inl, inr, ◌⊎◌, eq-eqb, arith}
use Rattle.std.specs.Prelude.{◌==◌, if◌then◌else◌, filter}
use Rattle.std.specs.List.{range_with_len}
use Rattle.std.proofs.lemmas.Bool.{cases_eq, ne_eqb}
use Rattle.std.proofs.lemmas.List.{get_or-set_same, get_or-set_other, length-set, append-nil, map-append}
use Rattle.gg_flat.specs.Line.{value_at}
use Rattle.gg_flat_tree.specs.Tree.{InstanceTree, memory_at}
use Rattle.gg_cut_plan.proofs.RangeLemmas.{filter-more}
use Rattle.gg_cut_split.specs.inside.Spread.{AreLists, IsPut, memories_below}

-- the number if the test passes, else nothing
abbrev pub put-if : Bool → ℕ → List ℕ
put-if b number = if b then number ∷ [] else []

nothing : (b : Bool) (number : ℕ) → b ≡ false → put-if b number ≡ []
nothing b number e = ap (λ t. put-if t number) e

pub IsPut-set : (lists new : List (List ℕ)) (machine number : ℕ) → machine < length lists → new ≡ set lists machine (get_or lists machine [] ++ number ∷ []) → IsPut (λ m. machine == m) number lists new
IsPut-set lists new machine number lt is = subst (IsPut (λ m. machine == m) number lists) (sym is) put
  where
    value : List ℕ
    value = get_or lists machine [] ++ number ∷ []

    by : (m : ℕ) → (m ≡ machine) ⊎ (m ≡ machine → ⊥) → get_or (set lists machine (get_or lists machine [] ++ number ∷ [])) m [] ≡ get_or lists m [] ++ put-if (machine == m) number
    by m (inl same) =
        subst (λ k. get_or (set lists machine (get_or lists machine [] ++ number ∷ [])) k [] ≡ get_or lists k [] ++ put-if (machine == k) number) (sym same)
        (get_or-set_same lists machine (get_or lists machine [] ++ number ∷ []) [] lt ∙ ap (λ b. get_or lists machine [] ++ put-if b number) (sym (eq-eqb machine machine refl)))
    by m (inr other) =
        get_or-set_other lists machine m (get_or lists machine [] ++ number ∷ []) [] other
        ∙ sym (append-nil (get_or lists m []))
        ∙ ap (λ l. get_or lists m [] ++ l) (sym (nothing (machine == m) number (ne_eqb machine m (λ e. other (sym e)))))

    put : IsPut (λ m. machine == m) number lists (set lists machine (get_or lists machine [] ++ number ∷ []))
    put = record { many = length-set lists machine (get_or lists machine [] ++ number ∷ []); each = λ m inside. by m (cases_eq m machine) }

-- ---- lists

pub AreLists-more : (f g : ℕ → List ℕ) (test : ℕ → Bool) (number count : ℕ) (lists new : List (List ℕ)) → AreLists f count lists → IsPut test number lists new → ((m : ℕ) → g m ≡ f m ++ put-if (test m) number) → AreLists g count new
AreLists-more f g test number count lists new before put next =
    record {
      many = put.many ∙ before.many;
      each = λ m inside. put.each m (omega (arith, inside, before.many)) ∙ ap (λ l. l ++ put-if (test m) number) (before.each m inside) ∙ sym (next m);
    }

-- one more number, put into its machine's list
pub AreLists-channel : (machine : ℕ → ℕ) (i place count : ℕ) (lists new : List (List ℕ)) → place ≡ machine i → AreLists (λ m. filter (λ c. machine c == m) (range_with_len 0 i)) count lists → IsPut (λ m. place == m) i lists new → AreLists (λ m. filter (λ c. machine c == m) (range_with_len 0 (i + 1))) count new
AreLists-channel machine i place count lists new at before put =
    AreLists-more (λ m. filter (λ c. machine c == m) (range_with_len 0 i)) (λ m. filter (λ c. machine c == m) (range_with_len 0 (i + 1))) (λ m. place == m) i count lists new before put
    (λ m. filter-more (λ c. machine c == m) i ∙ ap (λ p. filter (λ c. machine c == m) (range_with_len 0 i) ++ put-if (p == m) i) (sym at))

-- one more memory, put into its machine's list
pub AreLists-memory : (tree : InstanceTree) (owners : List ℕ) (i machine number count : ℕ) (lists new : List (List ℕ)) → machine ≡ value_at owners i → number ≡ (memory_at tree i).memory → AreLists (memories_below tree owners i) count lists → IsPut (λ m. machine == m) number lists new → AreLists (memories_below tree owners (i + 1)) count new
AreLists-memory tree owners i machine number count lists new at is before put =
    AreLists-more (memories_below tree owners i) (memories_below tree owners (i + 1)) (λ m. machine == m) number count lists new before put
    (λ m.
    ap (map (λ place. (memory_at tree place).memory)) (filter-more (λ place. value_at owners place == m) i)
    ∙ map-append (λ place. (memory_at tree place).memory) (filter (λ place. value_at owners place == m) (range_with_len 0 i)) (put-if (value_at owners i == m) i)
    ∙ ap (λ l. memories_below tree owners i m ++ l) (pushed (value_at owners i == m))
    ∙ ap₂ (λ a n. memories_below tree owners i m ++ put-if (a == m) n) (sym at) (sym is))
  where
    pushed : (b : Bool) → map (λ place. (memory_at tree place).memory) (put-if b i) ≡ put-if b (memory_at tree i).memory
    pushed true = refl
    pushed false = refl
