-- No port is a field of a memory, and no signal is a field of two memories: by the paths of the signals.
use Rattle.std.proofs.Common.{◌≡◌, ◌≢◌, ℕ, ◌<◌, List, [], ◌∷◌, ◌++◌, length, refl, sym, ◌∙◌, ap, subst, append_assoc, arith}
use Rattle.std.specs.Prelude.{Contains}
use Rattle.std.proofs.lemmas.List.{append_cancel_left}
use Rattle.gg_flat.specs.Circuit.{FlatCircuit}
use Rattle.gg_flat_tree.specs.Tree.{InstanceTree, IsTree, joined, path_at, memory_at}
use Rattle.gg_flat_tree.specs.Scoped.{IsScoped, IsPort, IsFieldOf}
use Rattle.gg_flat.proofs.ListLemmas.{further, once-apart}
use Rattle.gg_cut_split.proofs.ClosedLemmas.TreeLemmas.{innermost-one}

-- ---- paths

pub dot-in : (q m : List ℕ) → Contains (q ++ 46 ∷ m) 46
dot-in [] m = (0, omega arith, refl)
dot-in (b ∷ q) m = further b (q ++ 46 ∷ m) 46 (dot-in q m)

pub same-head : {a b : ℕ} {xs ys : List ℕ} → a ∷ xs ≡ b ∷ ys → a ≡ b
same-head e = cc

pub same-tail : {a b : ℕ} {xs ys : List ℕ} → a ∷ xs ≡ b ∷ ys → xs ≡ ys
same-tail e = cc

-- equal lists have the same up to the first dot
first-dot : (n m r q : List ℕ) → ¬ Contains n 46 → ¬ Contains m 46 → n ++ 46 ∷ r ≡ m ++ 46 ∷ q → n ≡ m
first-dot [] [] r q a b e = refl
first-dot [] (y ∷ m) r q a b e = absurd (b (0, omega arith, sym (same-head e)))
first-dot (x ∷ n) [] r q a b e = absurd (a (0, omega arith, same-head e))
first-dot (x ∷ n) (y ∷ m) r q a b e =
    by (same-head e) (first-dot n m r q (λ h. a (further x n 46 h)) (λ h. b (further y m 46 h)) (same-tail e))
  where
    by : x ≡ y → n ≡ m → x ∷ n ≡ y ∷ m
    by e f = cc

-- a path joined with a name and then with a rest is the path joined with the name, a dot and the rest
below-within : (p n r : List ℕ) → joined p n ≢ [] → joined (joined p n) r ≡ joined p (n ++ 46 ∷ r)
below-within [] [] r some = absurd (some refl)
below-within [] (x ∷ n) r some = refl
below-within (b ∷ p) n r some = append_assoc (b ∷ p) (46 ∷ n) (46 ∷ r)

joined-same : (p n m : List ℕ) → joined p n ≡ joined p m → n ≡ m
joined-same [] n m e = e
joined-same (b ∷ p) n m e = same-tail (append_cancel_left (b ∷ p) (46 ∷ n) (46 ∷ m) e)

-- ---- signals

module _ (circuit : FlatCircuit) (tree : InstanceTree) (fits : IsTree circuit tree) (scoped : IsScoped circuit tree) where
  -- a memory's path isn't the top's
  pub named : (j : ℕ) → j < length tree.memories → path_at tree.memory_paths j ≢ []
  named j lt e = scoped.apart 0 j fits.top.there lt (fits.top.path ∙ sym e)

  -- the path of a field: the path p of the memory's instance, the memory's name, a dot and a rest
  pub record IsFieldPath (j s : ℕ) (p : List ℕ) : Type 0 where
    pub name : List ℕ
    pub plain : ¬ Contains name 46
    pub memory : path_at tree.memory_paths j ≡ joined p name
    pub rest : List ℕ
    pub is : path_at circuit.paths s ≡ joined p (name ++ 46 ∷ rest)

  field-path : (j s : ℕ) → j < length tree.memories → IsFieldOf circuit tree j s → IsFieldPath j s (path_at tree.paths (memory_at tree j).instance)
  field-path j s lt field =
      let p = path_at tree.paths (memory_at tree j).instance in
      let below = (fits.held j lt).path in
      let within = (scoped.fields j s lt field).path in
      record {
        name = below.name;
        plain = below.plain;
        memory = below.is;
        rest = within.rest;
        is = within.is ∙ ap (λ l. joined l within.rest) below.is ∙ below-within p below.name within.rest (λ e. named j lt (below.is ∙ e));
      }

  -- a port is no field of a memory
  pub port-no-field : (k j s : ℕ) → j < length tree.memories → IsPort tree k s → IsFieldOf circuit tree j s → ⊥
  port-no-field k j s lt port field =
      let own = scoped.ports k s port in
      let same = innermost-one circuit tree fits k (memory_at tree j).instance s own.own (scoped.fields j s lt field).own in
      let path = field-path j s lt field in
      let p = path_at tree.paths (memory_at tree j).instance in
      let short : path_at circuit.paths s ≡ joined p own.path.name = own.path.is ∙ ap (λ i. joined (path_at tree.paths i) own.path.name) same in
      let equal = joined-same p own.path.name (path.name ++ 46 ∷ path.rest) (sym short ∙ path.is) in
      own.path.plain (subst (λ (l : List ℕ). Contains l 46) (sym equal) (dot-in path.name path.rest))

  -- a signal is a field of one memory only
  pub field-one : (i j s : ℕ) → i < length tree.memories → j < length tree.memories → IsFieldOf circuit tree i s → IsFieldOf circuit tree j s → i ≡ j
  field-one i j s li lj a b =
      let same = innermost-one circuit tree fits (memory_at tree i).instance (memory_at tree j).instance s (scoped.fields i s li a).own (scoped.fields j s lj b).own in
      let p = path_at tree.paths (memory_at tree j).instance in
      let x = field-path i s li a in
      let y = field-path j s lj b in
      let left : path_at circuit.paths s ≡ joined p (x.name ++ 46 ∷ x.rest) = x.is ∙ ap (λ k. joined (path_at tree.paths k) (x.name ++ 46 ∷ x.rest)) same in
      let names = first-dot x.name y.name x.rest y.rest x.plain y.plain (joined-same p (x.name ++ 46 ∷ x.rest) (y.name ++ 46 ∷ y.rest) (sym left ∙ y.is)) in
      let paths : path_at tree.memory_paths i ≡ path_at tree.memory_paths j =
      x.memory ∙ ap (λ k. joined (path_at tree.paths k) x.name) same ∙ ap (joined p) names ∙ sym y.memory in
      one i j paths li lj
    where
      one : (i j : ℕ) → path_at tree.memory_paths i ≡ path_at tree.memory_paths j → i < length tree.memories → j < length tree.memories → i ≡ j
      one i j e li lj = once-apart tree.memory_paths [] fits.memory_distinct i j (omega (arith, li, fits.memory_named)) (omega (arith, lj, fits.memory_named)) e
