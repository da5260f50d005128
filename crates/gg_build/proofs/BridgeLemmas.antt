-- Bridges by their names, while the machines of a plan take them.
use Rattle.std.proofs.Common.{◌≡◌, ◌≢◌, ℕ, ◌+◌, ◌<◌, ◌⊎◌, inl, inr, true, false, true≢false, List, [], ◌∷◌, ◌++◌, Some, length, map, get_or, refl, sym, ap, subst, ◌∙◌, arith}
use Rattle.std.specs.Prelude.{AllPairs, Contains, nat_eq}
use Rattle.std.specs.Cmp.Lexicographic.{pointwise, bytes_decides}
use Rattle.std.specs.HashMap.{UpdatesBy}
use Rattle.std.proofs.lemmas.Bool.{cases_Bool}
use Rattle.std.proofs.lemmas.List.{get_or-map, get_or_default, length-map}
use Rattle.std.proofs.lemmas.List.Elements.{Contains-append_left, Contains-push, Contains-push_cases}
use Rattle.gg_flat.specs.Circuit.{FlatCircuit}
use Rattle.gg_flat.specs.State.{State}
use Rattle.gg_cut_plan.specs.declared.plan.Body.{Body}
use Rattle.gg_cut_plan.specs.declared.plan.Body.TheVariants.{Cut, Memory, Source, Tray, Bridge}
use Rattle.gg_cut_plan.specs.declared.plan.Machine as planned
use Rattle.gg_cut_plan.specs.declared.plan.Plan.{Plan}
use Rattle.gg_build.specs.plan.Built.{machine_in}
use Rattle.gg_build.specs.inside.Bridges.{Table, AreApart, HasOwn, HasSame, KeepsOthers, TellsBridges, bridge_named}
use Rattle.gg_build.specs.inside.Build.{HasBridges}
use Rattle.gg_build.specs.inside.Hosts.{AreAllApart, HaveBridges, first_body}

-- ---- a table of bridges

-- whether two names are the same
name-cases : (a b : List ℕ) → (a ≡ b) ⊎ (a ≡ b → ⊥)
name-cases a b = by (cases_Bool (pointwise nat_eq a b))
  where
    by : (pointwise nat_eq a b ≡ true) ⊎ (pointwise nat_eq a b ≡ false) → (a ≡ b) ⊎ (a ≡ b → ⊥)
    by (inl same) = inl ((bytes_decides a b).0 same)
    by (inr differs) = inr (λ e. true≢false (sym ((bytes_decides a b).1 e) ∙ differs))

module _ {B : Type 0} where
  abbrev named : List ℕ → B → List ℕ × B
  named name bridge = (name, bridge)

  abbrev names_of : List (List ℕ × B) → List (List ℕ)
  names_of bridges = map (λ (pair : List ℕ × B). pair.0) bridges

  -- of bridges with different names no two have one name
  one-named : (bridges : List (List ℕ × B)) → AllPairs (λ a b. a ≢ b) (names_of bridges) → (p q : List ℕ × B) → Contains bridges p → Contains bridges q → p.0 ≡ q.0 → p ≡ q
  one-named bridges apart p q has other same = there has.0 other.0 same-place has.1 has.2 other.2
    where
      name-at : (k : ℕ) (pair : List ℕ × B) → k < length bridges → get_or bridges k pair ≡ pair → get_or (names_of bridges) k [] ≡ pair.0
      name-at k pair lt is = get_or-map (λ (pair : List ℕ × B). pair.0) bridges k pair [] lt ∙ ap (λ (pair : List ℕ × B). pair.0) is

      differ : (i j : ℕ) (a b : List ℕ × B) → i < j → j < length bridges → get_or bridges i a ≡ a → get_or bridges j b ≡ b → a.0 ≡ b.0 → ⊥
      differ i j a b less lt first second is =
          apart i j [] less (omega (arith, lt, length-map bridges (λ (pair : List ℕ × B). pair.0))) (name-at i a (omega (arith, less, lt)) first ∙ is ∙ sym (name-at j b lt second))

      apart-by : (has.0 < other.0 → ⊥) → (other.0 < has.0 → ⊥) → has.0 ≡ other.0
      apart-by not_less not_more = omega (arith, not_less, not_more)

      same-place : has.0 ≡ other.0
      same-place = apart-by (λ less. differ has.0 other.0 p q less other.1 has.2 other.2 same) (λ less. differ other.0 has.0 q p less has.1 other.2 has.2 (sym same))

      there : (i j : ℕ) → i ≡ j → i < length bridges → get_or bridges i p ≡ p → get_or bridges j q ≡ q → p ≡ q
      there i j e lt one two = sym one ∙ get_or_default bridges i p q lt ∙ ap (λ k. get_or bridges k q) e ∙ two

  -- While bridges are put into a table, the last first: each is still among those left, or in the table.
  pub record ArePut (all left : List (List ℕ × B)) (table : Table B) : Type 0 where
    pub within : (p : List ℕ × B) → Contains left p → Contains all p
    pub put : (name : List ℕ) (bridge : B) → Contains all (named name bridge) → Contains left (named name bridge) ⊎ (bridge_named table name ≡ Some bridge)

  pub put-start : (all : List (List ℕ × B)) (table : Table B) → ArePut all all table
  put-start all table = record { within = λ p has. has; put = λ name bridge has. inl has }

  -- what an update of a table finds under its name, and under another
  updated : (old new : Table B) (name : List ℕ) (bridge : B) → UpdatesBy (pointwise nat_eq) (pointwise nat_eq name) old new (Some bridge) → bridge_named new name ≡ Some bridge
  updated old new name bridge is = is.1

  unchanged : (old new : Table B) (name other : List ℕ) (bridge : B) → UpdatesBy (pointwise nat_eq) (pointwise nat_eq name) old new (Some bridge) → name ≢ other → bridge_named new other ≡ bridge_named old other
  unchanged old new name other bridge is ne = is.2 other (by (cases_Bool (pointwise nat_eq name other)))
    where
      by : (pointwise nat_eq name other ≡ true) ⊎ (pointwise nat_eq name other ≡ false) → pointwise nat_eq name other ≡ false
      by (inl same) = absurd (ne ((bytes_decides name other).0 same))
      by (inr differs) = differs

  pub put-more : (all old new : List (List ℕ × B)) (table grown : Table B) (name : List ℕ) (bridge : B) → AllPairs (λ a b. a ≢ b) (names_of all) → old ≡ new ++ named name bridge ∷ []
      → UpdatesBy (pointwise nat_eq) (pointwise nat_eq name) table grown (Some bridge) → ArePut all old table → ArePut all new grown
  put-more all old new table grown name bridge apart is update was =
      record {
        within = λ p has. was.within p (before p has);
        put = λ key own has. next key own has (was.put key own has);
      }
    where
      before : (p : List ℕ × B) → Contains new p → Contains old p
      before p has = subst (λ (l : List (List ℕ × B)). Contains l p) (sym is) (Contains-append_left new (named name bridge ∷ []) p has)

      here : Contains all (named name bridge)
      here = was.within (named name bridge) (subst (λ (l : List (List ℕ × B)). Contains l (named name bridge)) (sym is) (Contains-push new (named name bridge)))

      -- the last one is in the table now
      last : (key : List ℕ) (own : B) → named name bridge ≡ named key own → bridge_named grown key ≡ Some own
      last key own e =
          subst (λ (p : List ℕ × B). bridge_named grown p.0 ≡ Some p.1) e (updated table grown name bridge update)

      left : (key : List ℕ) (own : B) → Contains new (named key own) ⊎ (named name bridge ≡ named key own) → Contains new (named key own) ⊎ (bridge_named grown key ≡ Some own)
      left key own (inl has) = inl has
      left key own (inr e) = inr (last key own e)

      -- one that was in the table stays there
      stays : (key : List ℕ) (own : B) → Contains all (named key own) → bridge_named table key ≡ Some own → (name ≡ key) ⊎ (name ≡ key → ⊥) → bridge_named grown key ≡ Some own
      stays key own has found (inl same) = last key own (one-named all apart (named name bridge) (named key own) here has same)
      stays key own has found (inr ne) = unchanged table grown name key bridge update ne ∙ found

      next : (key : List ℕ) (own : B) → Contains all (named key own) → Contains old (named key own) ⊎ (bridge_named table key ≡ Some own) → Contains new (named key own) ⊎ (bridge_named grown key ≡ Some own)
      next key own has (inl there) = left key own (Contains-push_cases new (named name bridge) (named key own) (subst (λ (l : List (List ℕ × B)). Contains l (named key own)) is there))
      next key own has (inr found) = inr (stays key own has found (name-cases name key))

  pub put-end : (all left : List (List ℕ × B)) (table : Table B) → length left ≡ 0 → ArePut all left table → TellsBridges all table
  put-end all left table none are = λ name bridge has. by name bridge (are.put name bridge has)
    where
      by : (name : List ℕ) (bridge : B) → Contains left (named name bridge) ⊎ (bridge_named table name ≡ Some bridge) → bridge_named table name ≡ Some bridge
      by name bridge (inl there) = absurd (omega (arith, there.1, none))
      by name bridge (inr found) = found

-- ---- hosts

module _ {B : Type 0} where
  pub same-start : (body : Body) (table : Table B) → HasSame table table body
  same-start (Cut part) table = tt
  same-start (Memory part) table = tt
  same-start (Source place) table = tt
  same-start Tray table = tt
  same-start (Bridge body) table = refl

  -- a bridge that isn't taken is still the one that was there at first
  pub same-still : (own other : Body) (first old new : Table B) → AreApart own other → KeepsOthers own old new → HasSame first old other → HasSame first new other
  same-still own (Cut part) first old new apart keeps same = tt
  same-still own (Memory part) first old new apart keeps same = tt
  same-still own (Source place) first old new apart keeps same = tt
  same-still own Tray first old new apart keeps same = tt
  same-still own (Bridge body) first old new apart keeps same = keeps body.name (apart body refl) ∙ same

module _ {B : Type 0} (piece : B → FlatCircuit) (state : B → State) where
  -- a bridge that isn't taken stays
  told-still : (own other : Body) (old new : Table B) → AreApart own other → KeepsOthers own old new → HasOwn piece state old other → HasOwn piece state new other
  told-still own (Cut part) old new apart keeps told = tt
  told-still own (Memory part) old new apart keeps told = tt
  told-still own (Source place) old new apart keeps told = tt
  told-still own Tray old new apart keeps told = tt
  told-still own (Bridge body) old new apart keeps told =
      record { bridge = told.bridge; known = keeps body.name (apart body refl) ∙ told.known; model = told.model; opens = told.opens }

  -- one host more has its bridge
  pub bridges-left : (machines : List planned.Machine) (members : List (List ℕ)) (h : ℕ) (old new : Table B) → h < length members → AreAllApart machines members → KeepsOthers (first_body machines members h) old new
      → HaveBridges piece state old machines members h → HaveBridges piece state new machines members (h + 1)
  bridges-left machines members h old new low apart keeps have =
      λ k from lt. told-still (first_body machines members h) (first_body machines members k) old new (apart h k (omega (arith, from)) lt) keeps (have k (omega (arith, from)) lt)

  -- a table of the bridges that are handed in has those of the plan
  pub bridge-told : (plan : Plan) (bridges : List (List ℕ × B)) (table : Table B) → HasBridges piece state plan bridges → TellsBridges bridges table → (m : ℕ) (body : Body) → m < length plan.machines → (machine_in plan m).body ≡ body → HasOwn piece state table body
  bridge-told plan bridges table has tells m (Cut part) lt is = tt
  bridge-told plan bridges table has tells m (Memory part) lt is = tt
  bridge-told plan bridges table has tells m (Source place) lt is = tt
  bridge-told plan bridges table has tells m Tray lt is = tt
  bridge-told plan bridges table has tells m (Bridge body) lt is =
      let own = has.each m body lt is in
      record { bridge = own.bridge; known = tells body.name own.bridge own.known; model = own.model; opens = own.opens }
