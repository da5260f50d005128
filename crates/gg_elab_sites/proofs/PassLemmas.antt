-- One pass over the modules, and what is known of their values on the way.
use Rattle.std.proofs.Common.{◌≡◌, ◌≢◌, ℕ, zero, suc, ◌+◌, ◌<◌, ◌≤◌, List, [], ◌∷◌, length, get_or, take, set, map, refl, sym, ap, ◌∙◌, subst, inl, inr, eqb, arith}
use Rattle.std.specs.Prelude.{Contains, AllPairs}
use Rattle.std.proofs.lemmas.List.{get_or-take, length-take, get_or_default, get_or-set_same, get_or-set_other}
use Rattle.std.proofs.Math.ListN.{length-set}
use Rattle.std.proofs.lemmas.Map.Steps.{length-le_from_distinct_below}
use Rattle.std.proofs.lemmas.Map.Keys.{IsDistinct-from_apart}
use Rattle.std.proofs.lemmas.Map.Views.{Contains-from_any}
use Rattle.std.proofs.lemmas.Bool.{ne_eqb, eqb-true}
use Rattle.gg_ast.specs.declared.statement.Stmt.{Stmt}
use Rattle.gg_ast.specs.Tree.{ModuleTree}
use Rattle.gg_graph.specs.inside.Graph.{IsOrderOf}
use Rattle.gg_graph.proofs.ListLemmas.{below-more, below-all}
use Rattle.gg_flat.proofs.ListLemmas.{further}
use Rattle.gg_elab_sites.specs.declared.pass.Gathering.{Gathering}
use Rattle.gg_elab_sites.specs.Sites.{Held, held_by, held_at, module_at}
use Rattle.gg_elab_sites.specs.inside.Sites.{HoldsModule}
use Rattle.gg_elab_sites.specs.inside.Graph.{gathered, gathered_over, value_below}

-- the places of the modules of these instances
abbrev pub numbers_of : List Held → List ℕ
numbers_of hs = map (λ h. h.number) hs

-- without instances, what is gathered is what the module has of its own
pub gathered_over-none : (how : Gathering) (value : ℕ → ℕ) (own : ℕ) (hs : List Held) → ((t : ℕ) → ¬ Contains (numbers_of hs) t) → gathered_over how value own hs ≡ own
gathered_over-none how value own [] none = refl
gathered_over-none how value own (h ∷ hs) none = absurd (none h.number (0, omega arith, refl))

-- what is gathered is the same if the values of all modules that are held are the same
pub gathered_over-same : (how : Gathering) (f g : ℕ → ℕ) (own : ℕ) (hs : List Held) → ((t : ℕ) → Contains (numbers_of hs) t → f t ≡ g t) → gathered_over how f own hs ≡ gathered_over how g own hs
gathered_over-same how f g own [] same = refl
gathered_over-same how f g own (h ∷ hs) same =
    let here : f h.number ≡ g h.number = same h.number (0, omega arith, refl) in
    gathered_over-same how f g (gathered how own (f h.number)) hs (λ t later. same t (further h.number (numbers_of hs) t later))
    ∙ ap (λ v. gathered_over how g (gathered how own v) hs) here

-- The first i modules of the order have their values, with all below them down to i - 1 levels or more; the others have what
-- they have of their own.
pub record IsGathered (how : Gathering) (modules : List ModuleTree) (own order : List ℕ) (i : ℕ) (values : List ℕ) : Type 0 where
  pub count : length values ≡ length own
  pub done : (k levels : ℕ) → Contains (take i order) k → i ≤ suc levels → get_or values k 0 ≡ value_below how modules (λ j. get_or own j 0) levels k
  pub left : (k : ℕ) → ¬ Contains (take i order) k → get_or values k 0 ≡ get_or own k 0

-- the next module of an order isn't among those before it
once : (order : List ℕ) (i : ℕ) → AllPairs (λ a b. a ≢ b) order → i < length order → ¬ Contains (take i order) (get_or order i 0)
once order i distinct lt (k, within, is) =
    let less : k < i = omega (arith, within, length-take i order) in
    distinct k i (get_or order i 0) less lt
    (sym (get_or-take i order k (get_or order i 0) less) ∙ is ∙ get_or_default order i 0 (get_or order i 0) lt)

-- what a module gathers from the modules that it holds is its value
value_next : (how : Gathering) (modules : List ModuleTree) (own order : List ℕ) (i : ℕ) (values : List ℕ) (k levels : ℕ) → IsGathered how modules own order i values → ((t : ℕ) → HoldsModule modules k t → Contains (take i order) t) → ¬ Contains (take i order) k → i + 1 ≤ suc levels → gathered_over how (λ j. get_or values j 0) (get_or values k 0) (held_at modules k) ≡ value_below how modules (λ j. get_or own j 0) levels k
value_next how modules own order i values k zero h after new le =
    gathered_over-none how (λ j. get_or values j 0) (get_or values k 0) (held_at modules k) (λ t holds. nothing t (after t holds))
    ∙ h.left k new
  where
    nothing : (t : ℕ) → ¬ Contains (take i order) t
    nothing t c = absurd (omega (arith, c.1, length-take i order))
value_next how modules own order i values k (suc levels) h after new le =
    gathered_over-same how (λ j. get_or values j 0) (value_below how modules (λ j. get_or own j 0) levels) (get_or values k 0) (held_at modules k)
    (λ t holds. h.done t levels (after t holds) (omega (arith, le)))
    ∙ ap (λ v. gathered_over how (value_below how modules (λ j. get_or own j 0) levels) v (held_at modules k)) (h.left k new)

pub gathered-more : (how : Gathering) (modules : List ModuleTree) (own order : List ℕ) (i : ℕ) (values : List ℕ) → length own ≡ length modules → IsOrderOf (HoldsModule modules) (length modules) order → i < length order → IsGathered how modules own order i values → IsGathered how modules own order (i + 1) (set values (get_or order i 0) (gathered_over how (λ j. get_or values j 0) (get_or values (get_or order i 0) 0) (held_at modules (get_or order i 0))))
gathered-more how modules own order i values all o lt h =
    let k = get_or order i 0 in
    let new : ¬ Contains (take i order) k = once order i o.once lt in
    let v = gathered_over how (λ j. get_or values j 0) (get_or values k 0) (held_at modules k) in
    let within : k < length values = omega (arith, o.nodes i lt, all, h.count) in
    record {
      count = length-set values k v ∙ h.count;
      done = λ j levels c le. elim (below-more order i j lt c) [
        | inl old ↦
            get_or-set_other values k j v 0 (λ (same : j ≡ k). new (subst (λ (m : ℕ). Contains (take i order) m) same old))
            ∙ h.done j levels old (omega (arith, le))
        | inr same ↦
            ap (λ m. get_or (set values k v) m 0) same
            ∙ get_or-set_same values k v 0 within
            ∙ value_next how modules own order i values k levels h (λ t holds. o.after i t lt holds) new le
            ∙ ap (λ m. value_below how modules (λ j. get_or own j 0) levels m) (sym same)
      ];
      left = λ j none.
          get_or-set_other values k j v 0 (λ (same : j ≡ k). none (last_of order i j lt same))
          ∙ h.left j (λ c. none (first_of order i j lt c));
    }
  where
    first_of : (order : List ℕ) (i j : ℕ) → i < length order → Contains (take i order) j → Contains (take (i + 1) order) j
    first_of order i j lt (k, within, is) =
        let less : k < i = omega (arith, within, length-take i order) in
        (k, omega (arith, less, lt, length-take (i + 1) order), get_or-take (i + 1) order k j (omega (arith, less)) ∙ sym (get_or-take i order k j less) ∙ is)

    last_of : (order : List ℕ) (i j : ℕ) → i < length order → j ≡ get_or order i 0 → Contains (take (i + 1) order) j
    last_of order i j lt same =
        (i, omega (arith, lt, length-take (i + 1) order), get_or-take (i + 1) order i j (omega arith) ∙ get_or_default order i j 0 lt ∙ sym same)

-- an order has no more places than there are modules
order_length : (modules : List ModuleTree) (order : List ℕ) → IsOrderOf (HoldsModule modules) (length modules) order → length order ≤ length modules
order_length modules order o =
    length-le_from_distinct_below order (length modules)
    (IsDistinct-from_apart eqb order (λ i j d lt within. ne_eqb (get_or order i d) (get_or order j d) (o.once i j d lt within)))
    (λ q any. below q (Contains-from_any eqb-true q order any))
  where
    below : (q : ℕ) → Contains order q → q < length modules
    below q (k, lt, is) = subst (λ (m : ℕ). m < length modules) (get_or_default order k 0 q lt ∙ is) (o.nodes k lt)

-- at the end of the order each module has its value
pub gathered-all : (how : Gathering) (modules : List ModuleTree) (own order values : List ℕ) → IsOrderOf (HoldsModule modules) (length modules) order → IsGathered how modules own order (length order) values → (k levels : ℕ) → k < length modules → length modules ≤ suc levels → get_or values k 0 ≡ value_below how modules (λ j. get_or own j 0) levels k
gathered-all how modules own order values o h k levels lt le =
    h.done k levels (below-all order (length order) k (omega arith) (o.every k lt)) (omega (arith, order_length modules order o, le))

-- what is gathered, with equal values and statements in place of those of the modules
pub gathered-lent : (how : Gathering) (modules : List ModuleTree) (values lent : List ℕ) (k own found : ℕ) (statements : List Stmt) → found ≡ gathered_over how (λ j. get_or lent j 0) own (held_by modules statements) → lent ≡ values → statements ≡ (module_at modules k).statements → found ≡ gathered_over how (λ j. get_or values j 0) own (held_at modules k)
gathered-lent how modules values lent k own found statements is same held =
    is
    ∙ ap (λ (l : List ℕ). gathered_over how (λ j. get_or l j 0) own (held_by modules statements)) same
    ∙ ap (λ (ss : List Stmt). gathered_over how (λ j. get_or values j 0) own (held_by modules ss)) held

pub gathered-from : (how : Gathering) (modules : List ModuleTree) (values lent : List ℕ) (k own found : ℕ) (statements : List Stmt) → found ≡ gathered_over how (λ j. get_or lent j 0) own (held_by modules statements) → lent ≡ values → own ≡ get_or values k 0 → statements ≡ (module_at modules k).statements → found ≡ gathered_over how (λ j. get_or values j 0) (get_or values k 0) (held_at modules k)
gathered-from how modules values lent k own found statements is same mine held =
    gathered-lent how modules values lent k own found statements is same held
    ∙ ap (λ (o : ℕ). gathered_over how (λ j. get_or values j 0) o (held_at modules k)) mine
