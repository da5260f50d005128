-- The clocks of the circuit that Clock inputs lead to: each instance's by its parent's.
use Rattle.std.proofs.Common.{◌≡◌, ◌⊎◌, inl, inr, ℕ, zero, suc, ◌+◌, ◌<◌, ◌≤◌, List, [], ◌∷◌, ◌++◌, Option, Some, None, length, get_or, map, refl, sym, ap, ◌∙◌, arith}
use Rattle.std.proofs.lemmas.Bool.{cases_lt}
use Rattle.std.proofs.lemmas.List.{get_or_append_left, get_or_default, get_or_push}
use Rattle.gg_flat_tree.specs.declared.tree.Instance.{Instance}
use Rattle.gg_flat_tree.specs.inside.Clocked.{AreParentsBefore}
use Rattle.gg_flat_tree.specs.Clocked.{clock_at, clocks_up, through_parent, top_clocks}
use Rattle.gg_flat_tree.specs.Tree.{InstanceTree, instance_at}

module _ (tree : InstanceTree) (before : AreParentsBefore tree) where
  -- one level more than there are instances before changes nothing
  level-more : (n k : ℕ) → k ≤ n → k < length tree.instances → clocks_up tree (suc n) k ≡ clocks_up tree n k
  level-more zero k le lt = go (instance_at tree k).parent refl
    where
      go : (o : Option ℕ) → (instance_at tree k).parent ≡ o → through_parent (clocks_up tree 0) o (instance_at tree k).clocks ≡ (instance_at tree k).clocks
      go None is = refl
      go (Some above) is = absurd (omega (arith, before k above lt is, le))
  level-more (suc n) k le lt = go (instance_at tree k).parent refl (level-more n)
    where
      go : (o : Option ℕ) → (instance_at tree k).parent ≡ o → ((above : ℕ) → above ≤ n → above < length tree.instances → clocks_up tree (suc n) above ≡ clocks_up tree n above) → through_parent (clocks_up tree (suc n)) o (instance_at tree k).clocks ≡ through_parent (clocks_up tree n) o (instance_at tree k).clocks
      go None is next = refl
      go (Some above) is next =
          let low = before k above lt is in
          ap (λ (l : List (Option ℕ)). map (clock_at l) (instance_at tree k).clocks) (next above (omega (arith, low, le)) (omega (arith, low, lt)))

  by-levels : (n k : ℕ) → n ≡ length tree.instances → k < length tree.instances → clocks_up tree n k ≡ through_parent (clocks_up tree n) (instance_at tree k).parent (instance_at tree k).clocks
  by-levels zero k is lt = absurd (omega (arith, is, lt))
  by-levels (suc n) k is lt = go (instance_at tree k).parent refl
    where
      go : (o : Option ℕ) → (instance_at tree k).parent ≡ o → through_parent (clocks_up tree n) o (instance_at tree k).clocks ≡ through_parent (clocks_up tree (suc n)) o (instance_at tree k).clocks
      go None same = refl
      go (Some above) same =
          let low = before k above lt same in
          ap (λ (l : List (Option ℕ)). map (clock_at l) (instance_at tree k).clocks) (sym (level-more n above (omega (arith, low, lt, is)) (omega (arith, low, lt))))

  -- what an instance's Clock inputs lead to, by what those of its parent lead to
  pub top_clocks-step : (k : ℕ) → k < length tree.instances → top_clocks tree k ≡ through_parent (top_clocks tree) (instance_at tree k).parent (instance_at tree k).clocks
  top_clocks-step k lt = by-levels (length tree.instances) k refl lt

  -- lists that are made like this are the same
  pub top_clocks-only : (made : ℕ → List (Option ℕ)) → ((k : ℕ) → k < length tree.instances → made k ≡ through_parent made (instance_at tree k).parent (instance_at tree k).clocks) → (n k : ℕ) → k < n → k < length tree.instances → made k ≡ top_clocks tree k
  top_clocks-only made each zero k low lt = absurd (omega (arith, low))
  top_clocks-only made each (suc n) k low lt = each k lt ∙ go (instance_at tree k).parent refl (top_clocks-only made each n) ∙ sym (top_clocks-step k lt)
    where
      go : (o : Option ℕ) → (instance_at tree k).parent ≡ o → ((above : ℕ) → above < n → above < length tree.instances → made above ≡ top_clocks tree above) → through_parent made o (instance_at tree k).clocks ≡ through_parent (top_clocks tree) o (instance_at tree k).clocks
      go None is next = refl
      go (Some above) is next =
          let less = before k above lt is in
          ap (λ (l : List (Option ℕ)). map (clock_at l) (instance_at tree k).clocks) (next above (omega (arith, less, low)) (omega (arith, less, lt)))

  -- an instance that stands at a place
  here-is : (i : ℕ) (instance : Instance) → i < length tree.instances → instance ≡ get_or tree.instances i instance → instance ≡ instance_at tree i
  here-is i instance lt is = is ∙ get_or_default tree.instances i instance (record { parent = None; «module» = 0; first = 0; end = 0; ports = []; memories = []; clocks = [] }) lt

  -- its parent has its clocks already, if all instances before it have
  pub parent-before : (done : List (List (Option ℕ))) (i : ℕ) (instance : Instance) → length done ≡ i → i < length tree.instances → instance ≡ get_or tree.instances i instance → (above : ℕ) → instance.parent ≡ Some above → above < length done
  parent-before done i instance size lt is above parent =
      let low = before i above lt (ap (λ (x : Instance). x.parent) (sym (here-is i instance lt is)) ∙ parent) in
      omega (arith, low, size)

  -- one more instance
  pub clocks-next : (done : List (List (Option ℕ))) (i : ℕ) (instance : Instance) (next : List (Option ℕ)) → length done ≡ i → i < length tree.instances → instance ≡ get_or tree.instances i instance → next ≡ through_parent (λ parent. get_or done parent []) instance.parent instance.clocks → ((k : ℕ) → k < i → get_or done k [] ≡ top_clocks tree k) → (k : ℕ) → k < i + 1 → get_or (done ++ next ∷ []) k [] ≡ top_clocks tree k
  clocks-next done i instance next size lt is made each k low = go (cases_lt k i)
    where
      same : instance ≡ instance_at tree i
      same = here-is i instance lt is

      led : (o : Option ℕ) → (instance_at tree i).parent ≡ o → through_parent (λ parent. get_or done parent []) o (instance_at tree i).clocks ≡ through_parent (top_clocks tree) o (instance_at tree i).clocks
      led None e = refl
      led (Some above) e = ap (λ (l : List (Option ℕ)). map (clock_at l) (instance_at tree i).clocks) (each above (before i above lt e))

      go : (k < i) ⊎ (i ≤ k) → get_or (done ++ next ∷ []) k [] ≡ top_clocks tree k
      go (inl lower) = get_or_append_left done (next ∷ []) [] k (omega (arith, lower, size)) ∙ each k lower
      go (inr ge) =
          let here : k ≡ i = omega (arith, ge, low) in
          get_or_push done next [] k (omega (arith, here, size))
          ∙ made
          ∙ ap (λ (x : Instance). through_parent (λ parent. get_or done parent []) x.parent x.clocks) same
          ∙ led (instance_at tree i).parent refl
          ∙ sym (top_clocks-step i lt)
          ∙ ap (top_clocks tree) (sym here)
