-- Homes: a unit is one, and no other instance that lies in it is.
use Rattle.std.proofs.Common.{◌≡◌, ◌≢◌, ℕ, zero, suc, ◌<◌, ◌≤◌, length, Bool, true, false, Option, Some, None, refl, sym, ◌∙◌, ap, subst, inl, inr, ◌⊎◌, eq-eqb, arith}
use Rattle.std.specs.Prelude.{◌==◌, option_and_then}
use Rattle.std.proofs.lemmas.Bool.{cases_lt, eqb-true}
use Rattle.std.proofs.lemmas.List.{get_or_default}
use Rattle.std.proofs.lemmas.List.Elements.{Contains-get_or}
use Rattle.std.proofs.lemmas.Option.{same_Some}
use Rattle.gg_flat.specs.Circuit.{FlatCircuit}
use Rattle.gg_flat.specs.Line.{value_at}
use Rattle.gg_flat_tree.specs.Tree.{InstanceTree, IsTree, instance_at}
use Rattle.gg_part.specs.Copies.{LiesIn, above}
use Rattle.gg_cut_plan.specs.declared.listed.Listed.{Listed}
use Rattle.gg_cut_plan.specs.Listed.{lies}
use Rattle.gg_cut_plan.specs.inside.Listed.{ParentsBefore}
use Rattle.gg_cut_plan.proofs.ChainLemmas.{lies-self}
use Rattle.gg_cut_plan.proofs.KnownLemmas.{parents-before}
use Rattle.gg_cut_plan.proofs.OriginLemmas.{Finds, any-finds, clash, finds-any}
use Rattle.gg_cut_split.specs.inside.Apart.{AreApart}
use Rattle.gg_cut_split.proofs.ClosedLemmas.TreeLemmas.{lies-up}
use Rattle.gg_cut_split.specs.inside.Again.{AreHomes}

module _ (circuit : FlatCircuit) (tree : InstanceTree) (fits : IsTree circuit tree) where
  parents : ParentsBefore tree
  parents = parents-before circuit tree fits

  -- an instance that has another above itself lies in that one
  pub lies-of : (levels k i : ℕ) → k < length tree.instances → above tree levels k ≡ Some i → lies tree k i ≡ true
  lies-of zero k i lt is = subst (λ j. lies tree k j ≡ true) (same_Some k i is) (lies-self tree parents k lt)
  lies-of (suc n) k i lt is = by (instance_at tree k).parent refl (lies-of n)
    where
      by : (o : Option ℕ) → (instance_at tree k).parent ≡ o → ((p i : ℕ) → p < length tree.instances → above tree n p ≡ Some i → lies tree p i ≡ true) → lies tree k i ≡ true
      by None e rest = let never : None ≡ Some i = sym (ap (option_and_then (above tree n)) e) ∙ is in absurd (cc)
      by (Some p) e rest =
          let low = parents k p lt e in
          lies-up circuit tree fits k p i lt e (rest p i (omega (arith, low, lt)) (sym (ap (option_and_then (above tree n)) e) ∙ is))

module _ (circuit : FlatCircuit) (tree : InstanceTree) (listed : Listed) (fits : IsTree circuit tree) (apart : AreApart tree listed) (is_home : ℕ → Bool) (homes : AreHomes listed is_home) (u : ℕ) (lt : u < length listed.units) where
  abbrev unit : ℕ
  unit = value_at listed.units u

  pub home-unit : is_home (value_at listed.units u) ≡ true
  home-unit = homes unit ∙ finds-any (λ k. unit == k) listed.units unit (Contains-get_or listed.units u 0 lt) (eq-eqb unit unit refl)

  pub home-none : (x : ℕ) → LiesIn tree (value_at listed.units u) x → x ≢ value_at listed.units u → is_home x ≡ false
  home-none x inside other = by (is_home x) refl
    where
      at : Finds (λ k. x == k) listed.units → ⊥
      at found = order (cases_lt w u) (cases_lt u w)
        where
          w : ℕ
          w = found.among.0

          same : value_at listed.units w ≡ x
          same = get_or_default listed.units w 0 found.item found.among.1 ∙ found.among.2 ∙ sym (eqb-true x found.item found.passes)

          deep : lies tree (value_at listed.units w) unit ≡ true
          deep =
              subst (λ k. lies tree k unit ≡ true) (sym same)
              (lies-of circuit tree fits inside.levels x unit (subst (λ k. k < length tree.instances) same (apart.known w 0 found.among.1)) inside.is)

          order : (w < u) ⊎ (u ≤ w) → (u < w) ⊎ (w ≤ u) → ⊥
          order (inl less) q = clash (lies tree (value_at listed.units w) unit) deep (apart.apart w u 0 less lt).0
          order (inr ge) (inl less) = clash (lies tree (value_at listed.units w) unit) deep (apart.apart u w 0 less found.among.1).1
          order (inr ge) (inr le) = let e : w ≡ u = omega (arith, ge, le) in other (sym same ∙ ap (value_at listed.units) e)

      by : (b : Bool) → is_home x ≡ b → is_home x ≡ false
      by false e = e
      by true e = absurd (at (any-finds (λ k. x == k) listed.units (sym (homes x) ∙ e)))
