-- Which instances lie in a unit: those that belong to its machine.
use Rattle.std.proofs.Common.{◌≡◌, ℕ, zero, suc, ◌<◌, ◌≤◌, length, get_or, Bool, true, false, true≢false, refl, sym, ◌∙◌, ap, subst, Some, inl, inr, ◌⊎◌, arith}
use Rattle.std.proofs.lemmas.List.{get_or_default}
use Rattle.std.proofs.lemmas.Option.{same_Some}
use Rattle.std.specs.Prelude.{option_and_then}
use Rattle.gg_flat.specs.Line.{value_at}
use Rattle.gg_flat.specs.Circuit.{FlatCircuit}
use Rattle.gg_flat_tree.specs.Tree.{InstanceTree, IsTree}
use Rattle.gg_part.specs.Copies.{LiesIn, above}
use Rattle.gg_cut_plan.specs.declared.listed.Listed.{Listed}
use Rattle.gg_cut_plan.specs.Listed.{lies, owner_of_instance, unit_or_hub}
use Rattle.gg_cut_plan.specs.Machines.{unit_number}
use Rattle.gg_cut_split.specs.inside.Apart.{AreApart}
use Rattle.gg_cut_split.proofs.ClosedLemmas.TreeLemmas.{Climbs, climbs}
use Rattle.gg_cut_split.proofs.ClosedLemmas.PlaceLemmas.{place-is, owner-within}

module _ (circuit : FlatCircuit) (tree : InstanceTree) (fits : IsTree circuit tree) where
  lies-in-by : (fuel k i : ℕ) → k ≤ fuel → k < length tree.instances → lies tree k i ≡ true → LiesIn tree i k
  lies-in-by zero k i le lt e = by (climbs circuit tree fits k i lt e)
    where
      by : (k ≡ i) ⊎ Climbs circuit tree fits k i → LiesIn tree i k
      by (inl same) = record { levels = 0; is = ap Some same }
      by (inr c) = let before = c.before in absurd (omega (arith, before, le))
  lies-in-by (suc fuel) k i le lt e = by (climbs circuit tree fits k i lt e) (λ q l m n. lies-in-by fuel q i l m n)
    where
      by : (k ≡ i) ⊎ Climbs circuit tree fits k i → ((q : ℕ) → q ≤ fuel → q < length tree.instances → lies tree q i ≡ true → LiesIn tree i q) → LiesIn tree i k
      by (inl same) rest = record { levels = 0; is = ap Some same }
      by (inr c) rest =
          let before = c.before in
          let up = rest c.parent (omega (arith, before, le)) (omega (arith, before, lt)) c.lies in
          record { levels = suc up.levels; is = ap (λ parent. option_and_then (above tree up.levels) parent) c.is ∙ up.is }

  -- an instance that lies in another has it above itself
  pub lies-in : (k i : ℕ) → k < length tree.instances → lies tree k i ≡ true → LiesIn tree i k
  lies-in k i lt e = lies-in-by k k i (omega arith) lt e

  -- of two instances in which a third lies, one lies in the other
  lies-both : (fuel k a b : ℕ) → k ≤ fuel → k < length tree.instances → lies tree k a ≡ true → lies tree k b ≡ true → (lies tree a b ≡ true) ⊎ (lies tree b a ≡ true)
  lies-both zero k a b le lt p q = by (climbs circuit tree fits k a lt p)
    where
      by : (k ≡ a) ⊎ Climbs circuit tree fits k a → (lies tree a b ≡ true) ⊎ (lies tree b a ≡ true)
      by (inl same) = inl (subst (λ i. lies tree i b ≡ true) same q)
      by (inr c) = let before = c.before in absurd (omega (arith, before, le))
  lies-both (suc fuel) k a b le lt p q = by (climbs circuit tree fits k a lt p) (climbs circuit tree fits k b lt q) (λ i l m n o. lies-both fuel i a b l m n o)
    where
      by : (k ≡ a) ⊎ Climbs circuit tree fits k a → (k ≡ b) ⊎ Climbs circuit tree fits k b → ((i : ℕ) → i ≤ fuel → i < length tree.instances → lies tree i a ≡ true → lies tree i b ≡ true → (lies tree a b ≡ true) ⊎ (lies tree b a ≡ true)) → (lies tree a b ≡ true) ⊎ (lies tree b a ≡ true)
      by (inl same) d rest = inl (subst (λ i. lies tree i b ≡ true) same q)
      by (inr c) (inl same) rest = inr (subst (λ i. lies tree i a ≡ true) same p)
      by (inr c) (inr d) rest =
          let before = c.before in
          let one : c.parent ≡ d.parent = same_Some c.parent d.parent (sym c.is ∙ d.is) in
          rest c.parent (omega (arith, before, le)) (omega (arith, before, lt)) c.lies (subst (λ i. lies tree i b ≡ true) (sym one) d.lies)

module _ (circuit : FlatCircuit) (tree : InstanceTree) (listed : Listed) (fits : IsTree circuit tree) (apart : AreApart tree listed) where
  -- an instance that lies in a unit belongs to its machine
  pub lies-owner : (k u : ℕ) → k < length tree.instances → u < length listed.units → lies tree k (value_at listed.units u) ≡ true → owner_of_instance tree listed.units k ≡ unit_number u
  lies-owner k u known lt e =
      ap unit_or_hub
      (place-is (λ unit. lies tree k unit) listed.units u lt (λ d. here d) (λ j d less. earlier j d less (lies tree k (get_or listed.units j d)) refl))
    where
      here : (d : ℕ) → lies tree k (get_or listed.units u d) ≡ true
      here d = subst (λ unit. lies tree k unit ≡ true) (get_or_default listed.units u 0 d lt) e

      earlier : (j d : ℕ) → j < u → (b : Bool) → lies tree k (get_or listed.units j d) ≡ b → b ≡ false
      earlier j d less false is = refl
      earlier j d less true is = by (lies-both circuit tree fits k k (get_or listed.units j d) (get_or listed.units u d) (omega arith) known is (here d))
        where
          by : (lies tree (get_or listed.units j d) (get_or listed.units u d) ≡ true) ⊎ (lies tree (get_or listed.units u d) (get_or listed.units j d) ≡ true) → true ≡ false
          by (inl p) = absurd (true≢false (sym p ∙ (apart.apart j u d less lt).0))
          by (inr p) = absurd (true≢false (sym p ∙ (apart.apart j u d less lt).1))

  -- and the other way
  pub owner-lies : (k u : ℕ) → owner_of_instance tree listed.units k ≡ unit_number u → lies tree k (value_at listed.units u) ≡ true
  owner-lies k u e = (owner-within circuit tree listed fits apart k u e).1

  pub owner-in : (k u : ℕ) → k < length tree.instances → owner_of_instance tree listed.units k ≡ unit_number u → LiesIn tree (value_at listed.units u) k
  owner-in k u lt e = lies-in circuit tree fits k (value_at listed.units u) lt (owner-lies k u e)
