-- The machine of an instance, and of a signal, by the instance.
use Rattle.std.proofs.Common.{◌≡◌, ◌≢◌, ℕ, zero, suc, ◌<◌, List, [], ◌∷◌, length, get_or, Bool, true, false, refl, sym, ◌∙◌, ap, ap₂, subst, Some, None, arith}
use Rattle.std.specs.Prelude.{Option, ◌||◌, if◌then◌else◌, option_map, nat_le, nat_lt, All}
use Rattle.std.proofs.lemmas.Bool.{ne_eqb, le-leb, lt-ltb, leb-true, ltb-true, and_parts, and_from}
use Rattle.std.proofs.lemmas.List.Elements.{All-tail, All-head}
use Rattle.gg_flat.specs.Line.{value_at}
use Rattle.gg_flat.specs.Circuit.{FlatCircuit}
use Rattle.gg_flat_tree.specs.Tree.{InstanceTree, IsTree, IsInnermost, instance_at}
use Rattle.gg_cut_plan.specs.Listed.{lies, first_place, unit_or_hub, owner_of_instance, has_signal}
use Rattle.gg_cut_plan.specs.inside.Listed.{ParentsBefore}
use Rattle.gg_cut_plan.specs.declared.listed.Listed.{Listed}
use Rattle.gg_cut_plan.proofs.ChainLemmas.{lies-parent, lies-alone, lies-self}
use Rattle.gg_cut_plan.proofs.KnownLemmas.{parents-before}
use Rattle.gg_cut_plan.proofs.PathLemmas.{first_place-Some}
use Rattle.gg_cut_split.specs.inside.Apart.{AreApart}
use Rattle.gg_cut_split.proofs.ClosedLemmas.TreeLemmas.{above, lies-holder}

-- ---- first places

pub place-among : {A : Type 0} (p q : A → Bool) (xs : List A) → All (λ x. p x ≡ q x) xs → first_place p xs ≡ first_place q xs
place-among p q [] same = refl
place-among p q (x ∷ xs) same =
    ap₂ (λ b rest. if b then Some 0 else option_map suc rest) (All-head (λ y. p y ≡ q y) x xs same) (place-among p q xs (All-tail (λ y. p y ≡ q y) x xs same))

pub place-is : {A : Type 0} (test : A → Bool) (xs : List A) (i : ℕ) → i < length xs → ((d : A) → test (get_or xs i d) ≡ true) → ((j : ℕ) (d : A) → j < i → test (get_or xs j d) ≡ false) → first_place test xs ≡ Some i
place-is test [] i lt here earlier = absurd (omega (arith, lt))
place-is test (x ∷ xs) zero lt here earlier = ap (λ b. if b then Some 0 else option_map suc (first_place test xs)) (here x)
place-is test (x ∷ xs) (suc i) lt here earlier =
    ap₂ (λ b rest. if b then Some 0 else option_map suc rest) (earlier 0 x (omega arith))
    (place-is test xs i (omega (arith, lt)) here (λ j d less. earlier (suc j) d (omega (arith, less))))

pub place-none : {A : Type 0} (test : A → Bool) (xs : List A) → All (λ x. test x ≡ false) xs → first_place test xs ≡ None
place-none test [] none = refl
place-none test (x ∷ xs) none =
    ap₂ (λ b rest. if b then Some 0 else option_map suc rest) (All-head (λ y. test y ≡ false) x xs none) (place-none test xs (All-tail (λ y. test y ≡ false) x xs none))

pub same-bool : (a b : Bool) → (a ≡ true → b ≡ true) → (b ≡ true → a ≡ true) → a ≡ b
same-bool true b f g = sym (f refl)
same-bool false true f g = g refl
same-bool false false f g = refl

-- ---- machines of instances

module _ (circuit : FlatCircuit) (tree : InstanceTree) (listed : Listed) (fits : IsTree circuit tree) (apart : AreApart tree listed) where
  before : ParentsBefore tree
  before = parents-before circuit tree fits

  -- instance k isn't a unit
  abbrev pub IsNoUnit : ℕ → Type 0
  IsNoUnit k = All (λ unit. k ≢ unit) listed.units

  -- a unit is its own machine
  pub owner-unit : (i : ℕ) → i < length listed.units → owner_of_instance tree listed.units (value_at listed.units i) ≡ suc i
  owner-unit i lt =
      ap unit_or_hub
      (place-is (λ unit. lies tree (value_at listed.units i) unit) listed.units i lt
      (λ d. subst (λ unit. lies tree (value_at listed.units i) unit ≡ true) (same d) (lies-self tree before (value_at listed.units i) (apart.known i 0 lt)))
      (λ j d less. subst (λ unit. lies tree unit (get_or listed.units j d) ≡ false) (sym (same d)) (apart.apart j i d less lt).1))
    where
      same : (d : ℕ) → value_at listed.units i ≡ get_or listed.units i d
      same d = read listed.units i d lt
        where
          read : (xs : List ℕ) (i d : ℕ) → i < length xs → get_or xs i 0 ≡ get_or xs i d
          read [] i d lt = absurd (omega (arith, lt))
          read (x ∷ xs) zero d lt = refl
          read (x ∷ xs) (suc i) d lt = read xs i d (omega (arith, lt))

  -- an instance that isn't a unit belongs to its parent's machine
  pub owner-inner : (k p : ℕ) → k < length tree.instances → (instance_at tree k).parent ≡ Some p → IsNoUnit k → owner_of_instance tree listed.units k ≡ owner_of_instance tree listed.units p
  owner-inner k p lt parent none =
      ap unit_or_hub
      (place-among (λ unit. lies tree k unit) (λ unit. lies tree p unit) listed.units
      (λ i d inside. lies-parent tree before k p (get_or listed.units i d) lt parent ∙ ap (λ b. b || lies tree p (get_or listed.units i d)) (ne_eqb k (get_or listed.units i d) (none i d inside))))

  -- the top belongs to the hub
  pub owner-top : owner_of_instance tree listed.units 0 ≡ 0
  owner-top =
      ap unit_or_hub
      (place-none (λ unit. lies tree 0 unit) listed.units
      (λ i d inside. lies-alone tree before 0 (get_or listed.units i d) fits.top.there fits.top.parent ∙ ne_eqb 0 (get_or listed.units i d) (λ same. let low = apart.lower i d inside in absurd (omega (arith, low, same)))))

  -- the units that have a signal are those in which its innermost instance lies
  pub place-signal : (k s : ℕ) → IsInnermost tree k s → unit_or_hub (first_place (has_signal tree s) listed.units) ≡ owner_of_instance tree listed.units k
  place-signal k s inner = ap unit_or_hub (place-among (has_signal tree s) (λ unit. lies tree k unit) listed.units (λ i d inside. one (get_or listed.units i d) (apart.known i d inside)))
    where
      one : (unit : ℕ) → unit < length tree.instances → has_signal tree s unit ≡ lies tree k unit
      one unit lt =
          same-bool (has_signal tree s unit) (lies tree k unit)
          (λ e. let p = and_parts (nat_le (instance_at tree unit).first s) (nat_lt s (instance_at tree unit).end) e in
          lies-holder circuit tree fits k s unit inner lt (leb-true (instance_at tree unit).first s p.0, ltb-true s (instance_at tree unit).end p.1))
          (λ e. let h = (above circuit tree fits k unit inner.known e).holds s inner.holds in
          and_from (nat_le (instance_at tree unit).first s) (nat_lt s (instance_at tree unit).end) (le-leb (instance_at tree unit).first s h.0) (lt-ltb s (instance_at tree unit).end h.1))

  -- an instance that belongs to machine i + 1 lies in unit i
  pub owner-within : (k i : ℕ) → owner_of_instance tree listed.units k ≡ suc i → (i < length listed.units) × (lies tree k (value_at listed.units i) ≡ true)
  owner-within k i e = by (first_place (λ unit. lies tree k unit) listed.units) refl e
    where
      by : (found : Option ℕ) → first_place (λ unit. lies tree k unit) listed.units ≡ found → unit_or_hub found ≡ suc i → (i < length listed.units) × (lies tree k (value_at listed.units i) ≡ true)
      by None f e = absurd (omega (arith, e))
      by (Some j) f e =
          let same : j ≡ i = omega (arith, e) in
          let at = first_place-Some (λ unit. lies tree k unit) listed.units j f in
          subst (λ n. (n < length listed.units) × (lies tree k (value_at listed.units n) ≡ true)) same (at.within, at.passes 0)

  -- the parent of a unit doesn't belong to the unit
  pub owner-outside : (i p : ℕ) → i < length listed.units → (instance_at tree (value_at listed.units i)).parent ≡ Some p → owner_of_instance tree listed.units p ≢ suc i
  owner-outside i p lt parent e =
      let lower = before (value_at listed.units i) p (apart.known i 0 lt) parent in
      let inside = owner-within p i e in
      let up = above circuit tree fits p (value_at listed.units i) (omega (arith, lower, apart.known i 0 lt)) inside.1 in
      absurd (omega (arith, up.low, lower))
