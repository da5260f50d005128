-- What a direct channel is, and which machine gives a routed channel.
use Rattle.std.proofs.Common.{◌≡◌, ℕ, suc, ◌<◌, List, [], ◌∷◌, Bool, true, false, not, Option, Some, None, get_or, sym, ◌∙◌, ap, subst, inl, inr, ◌⊎◌, refl, arith}
use Rattle.std.specs.Prelude.{◌++◌, ◌&&◌, ◌||◌, ◌==◌, if◌then◌else◌, cond, find, Contains, All, filter, option_and_then}
use Rattle.std.specs.List.{list_any}
use Rattle.std.proofs.lemmas.Bool.{cases_Bool, and_parts, eqb-true, not-true}
use Rattle.std.proofs.lemmas.List.Elements.{All-contains, All-filter, All-map, Contains-get_or}
use Rattle.gg_cut_plan.specs.declared.wires.Wire.{Wire}
use Rattle.gg_cut_plan.specs.Direct.{Hub, made, named_by, origin, copied, may_be_direct, direct_of, if_plain, giver, giver_or, is_gone, route, route_by, routes}
use Rattle.gg_cut_plan.proofs.OriginLemmas.{some-clash, same-value, clash}

-- what is found in a list
pub record IsFound {A : Type 0} (test : A → Bool) (xs : List A) : Type 0 where
  pub item : A
  pub among : Contains xs item
  pub passes : test item ≡ true
  pub is : find test xs ≡ Some item

pub find-some : {A : Type 0} (test : A → Bool) (xs : List A) → list_any test xs ≡ true → IsFound test xs
find-some test [] e = absurd (clash false e refl)
find-some test (x ∷ xs) e = by (cases_Bool (test x)) (λ h. find-some test xs h)
  where
    by : (test x ≡ true) ⊎ (test x ≡ false) → (list_any test xs ≡ true → IsFound test xs) → IsFound test (x ∷ xs)
    by (inl p) rest = record { item = x; among = (0, omega arith, refl); passes = p; is = ap (λ b. cond b (Some x) (find test xs)) p }
    by (inr p) rest =
        let f = rest (sym (ap (λ b. b || list_any test xs) p) ∙ e) in
        record { item = f.item; among = (suc f.among.0, omega (arith, f.among.1), f.among.2); passes = f.passes; is = ap (λ b. cond b (Some x) (find test xs)) p ∙ f.is }

-- nothing is found but an item that passes
pub found-in : {A : Type 0} (test : A → Bool) (xs : List A) (x : A) → find test xs ≡ Some x → Contains xs x × (test x ≡ true)
found-in test [] x e = absurd (some-clash x None e refl)
found-in {A = A} test (y ∷ ys) x e = by (test y) refl e (λ f. found-in test ys x f)
  where
    once : Some y ≡ Some x → y ≡ x
    once e = cc

    by : (b : Bool) → test y ≡ b → cond b (Some y) (find test ys) ≡ Some x → (find test ys ≡ Some x → Contains ys x × (test x ≡ true)) → Contains (y ∷ ys) x × (test x ≡ true)
    by true p e rest = let same : y ≡ x = once e in ((0, omega arith, same), ap test (sym same) ∙ p)
    by false p e rest = let later = rest e in ((suc later.0.0, omega (arith, later.0.1), later.0.2), later.1)

module _ (hub : Hub) where
  -- what a channel is that may be direct
  pub record MayBeDirect (w : Wire) : Type 0 where
    pub producer : w.producer ≡ 0
    pub unnamed : list_any (λ t. w.signal == t) (named_by hub (made hub) ++ hub.stops) ≡ false

  may-be : (w : Wire) → may_be_direct hub w ≡ true → MayBeDirect w
  may-be w e =
      let parts = and_parts (hub.direct && (w.producer == 0)) (not (list_any (λ t. w.signal == t) (named_by hub (made hub) ++ hub.stops))) e in
      record {
        producer = eqb-true w.producer 0 (and_parts hub.direct (w.producer == 0) parts.0).1;
        unnamed = not-true (list_any (λ t. w.signal == t) (named_by hub (made hub) ++ hub.stops)) parts.1;
      }

  -- what a direct channel is
  pub record IsDirect (w : Wire) (x : ℕ) : Type 0 where
    pub may : MayBeDirect w
    pub next : ℕ
    pub is : copied hub.circuit w.signal ≡ Some next
    pub from : origin hub next ≡ Some x
    pub plain : hub.silent (giver hub x) ≡ false

  pub direct-is : (w : Wire) (x : ℕ) → direct_of hub w ≡ Some x → IsDirect w x
  direct-is w x e = by (may_be_direct hub w) refl e
    where
      tail : (t y : ℕ) (b : Bool) → may_be_direct hub w ≡ true → copied hub.circuit w.signal ≡ Some t → origin hub t ≡ Some y → hub.silent (giver hub y) ≡ b → (if b then None else Some y) ≡ Some x → IsDirect w x
      tail t y true may c d f e = absurd (some-clash x None e refl)
      tail t y false may c d f e =
          let same = same-value y x (Some y) refl e in
          record { may = may-be w may; next = t; is = c; from = d ∙ e; plain = subst (λ z. hub.silent (giver hub z) ≡ false) same f }

      end : (t : ℕ) (o : Option ℕ) → may_be_direct hub w ≡ true → copied hub.circuit w.signal ≡ Some t → origin hub t ≡ o → if_plain hub o ≡ Some x → IsDirect w x
      end t None may c d e = absurd (some-clash x None e refl)
      end t (Some y) may c d e = tail t y (hub.silent (giver hub y)) may c d refl e

      from : (to : Option ℕ) → may_be_direct hub w ≡ true → copied hub.circuit w.signal ≡ to → if_plain hub (option_and_then (origin hub) to) ≡ Some x → IsDirect w x
      from None may c e = absurd (some-clash x None e refl)
      from (Some t) may c e = end t (origin hub t) may c refl e

      by : (may : Bool) → may_be_direct hub w ≡ may → (if may then if_plain hub (option_and_then (origin hub) (copied hub.circuit w.signal)) else None) ≡ Some x → IsDirect w x
      by true may e = from (copied hub.circuit w.signal) may refl e
      by false may e = absurd (some-clash x None e refl)

  -- a channel by which the machine gave the signal before the routing
  pub record IsFromBase (m s : ℕ) : Type 0 where
    pub wire : Wire
    pub among : Contains hub.base wire
    pub producer : wire.producer ≡ m
    pub is : wire.signal ≡ s

  -- each machine but the hub gives a routed channel by a signal that it gave before
  abbrev IsFrom : Wire → Type 0
  IsFrom r = 0 < r.producer → IsFromBase r.producer r.given

  route-from : (w : Wire) → Contains hub.base w → w.given ≡ w.signal → (o : Option ℕ) → IsFrom (route_by hub w o)
  route-from w h same None some = record { wire = w; among = h; producer = refl; is = sym same }
  route-from w h same (Some x) some = by (find (λ (v : Wire). v.signal == x) hub.base) refl some
    where
      by : (o : Option Wire) → find (λ (v : Wire). v.signal == x) hub.base ≡ o → 0 < giver_or o → IsFromBase (giver hub x) x
      by None e low = absurd (omega (arith, low))
      by (Some v) e low =
          let at = found-in (λ (v : Wire). v.signal == x) hub.base v e in
          record { wire = v; among = at.0; producer = sym (ap giver_or e); is = eqb-true v.signal x at.1 }

  pub routed-from : All (λ w. w.given ≡ w.signal) hub.base → (r : Wire) → Contains (routes hub) r → 0 < r.producer → IsFromBase r.producer r.given
  routed-from plain r h =
      All-contains IsFrom (routes hub) r
      (All-map IsFrom (route hub) (filter (λ w. not (is_gone hub w.signal)) hub.base)
      (All-filter (λ (w : Wire). not (is_gone hub w.signal)) (λ w. IsFrom (route hub w)) hub.base
      (λ k d lt. route-from (get_or hub.base k d) (Contains-get_or hub.base k d lt) (plain k d lt) (direct_of hub (get_or hub.base k d)))))
      h
