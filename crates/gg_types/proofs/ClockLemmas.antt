-- The list of the places that drivers lead to: how each statement changes it, and many steps at once by squaring.
use Rattle.std.proofs.Common.{◌≡◌, ◌≢◌, ℕ, zero, suc, ◌+◌, ◌/◌, ◌%◌, ◌<◌, Bool, true, false, List, [], ◌∷◌, ◌++◌, length, get_or, map, slice_index, slice_set, Option, Some, None, refl, sym, ap, subst, ◌∙◌, if◌then◌else◌, true≢false, unwrap_or, inl, inr, eqb, eqb-true, arith}
use Rattle.std.proofs.lemmas.List.{length-set, get_or-set_same, get_or-set_other, length-map, get_or-map}
use Rattle.std.proofs.lemmas.Slice.Eq.{bytes_eq-Decides}
use Rattle.std.proofs.lemmas.Bool.{eqb-false}
use Rattle.std.proofs.lemmas.Bool.Decides.{eqb_tells}
use Rattle.std.specs.Str.{bytes_eq}
use Rattle.std.proofs.lemmas.Option.{none-some}
use Rattle.gg_ast.specs.declared.statement.Stmt.{Stmt}
use Rattle.gg_types.specs.declared.way.Way.{Way}
use Rattle.gg_types.specs.declared.way.Way.TheVariants.{FromOutside, FromDriver, Nowhere}
use Rattle.gg_types.specs.Clocks.{is_followed, is_outside, driven_by, led_on, lead_from, lead_of, next_of, stay_or, followed, leads}
use Rattle.gg_types.specs.inside.Named.{flag_at}
use Rattle.gg_bits.specs.Lists.{find_word}
use Rattle.gg_types.specs.inside.Places.{ArePlaces, TellsNext, Reaches, place_in, next_at, next_place, set_next, with_driven, iterate, way_at}
use Rattle.gg_types.proofs.PlaceLemmas.{same_bytes, place-within, place-same, way-placed, placed-way}

if_same : {A : Type 0} (b : Bool) (x : A) → (if b then x else x) ≡ x
if_same true x = refl
if_same false x = refl

-- ---- drivers

-- before any statement each name leads to its own place
pub own-tells : (ways : List (List ℕ × Way)) (next : List ℕ) → length next ≡ length ways → ((k : ℕ) → k < length ways → slice_index next k ≡ k) → TellsNext ways [] next
own-tells ways next len own = record {
  places = record { length_is = len; within = λ k lt. subst (λ j. j < length ways) (sym (own k lt)) lt };
  told = λ name k u. own k (place-within name ways k u) ∙ sym (if_same (is_followed (find_word name ways)) k);
}

lead_from-push : (name : List ℕ) (so_far : Option (List ℕ)) (xs : List Stmt) (s : Stmt) → lead_from name so_far (xs ++ s ∷ []) ≡ led_on name (lead_from name so_far xs) (driven_by s.kind)
lead_from-push name so_far [] s = refl
lead_from-push name so_far (x ∷ xs) s = lead_from-push name (led_on name so_far (driven_by x.kind)) xs s

next_at-within : (ways : List (List ℕ × Way)) (place : ℕ) (o : Option (List ℕ)) → place < length ways → next_at ways place o < length ways
next_at-within ways place None lt = lt
next_at-within ways place (Some name) lt = go (place_in name ways) refl
  where
    go : (p : Option ℕ) → place_in name ways ≡ p → unwrap_or (place_in name ways) place < length ways
    go None u = subst (λ p. unwrap_or p place < length ways) (sym u) lt
    go (Some j) u = subst (λ p. unwrap_or p place < length ways) (sym u) (place-within name ways j u)

-- where a name leads after one more statement
after : (ways : List (List ℕ × Way)) (before : List Stmt) (s : Stmt) (name : List ℕ) (place : ℕ) → next_place ways (before ++ s ∷ []) name place ≡ (if is_followed (find_word name ways) then next_at ways place (led_on name (lead_of name before) (driven_by s.kind)) else place)
after ways before s name place = ap (λ l. if is_followed (find_word name ways) then next_at ways place l else place) (lead_from-push name None before s)

kept : (ways : List (List ℕ × Way)) (before : List Stmt) (s : Stmt) (next : List ℕ) → TellsNext ways before next → ((name : List ℕ) (place : ℕ) → place_in name ways ≡ Some place → next_place ways before name place ≡ next_place ways (before ++ s ∷ []) name place) → TellsNext ways (before ++ s ∷ []) next
kept ways before s next tells same = record { places = tells.places; told = λ name k u. tells.told name k u ∙ same name k u }

-- the places, changed by what a statement drives, say where names lead after that statement
pub follow-tells : (ways : List (List ℕ × Way)) (before : List Stmt) (s : Stmt) (next : List ℕ) → TellsNext ways before next → TellsNext ways (before ++ s ∷ []) (with_driven ways next (driven_by s.kind))
follow-tells ways before s next tells = go (driven_by s.kind) refl
  where
    Place : List ℕ → ℕ → Option (List ℕ × Option (List ℕ)) → ℕ
    Place name k o = if is_followed (find_word name ways) then next_at ways k (led_on name (lead_of name before) o) else k

    go : (o : Option (List ℕ × Option (List ℕ))) → driven_by s.kind ≡ o → TellsNext ways (before ++ s ∷ []) (with_driven ways next o)
    go None is = kept ways before s next tells (λ name k u. sym (after ways before s name k ∙ ap (Place name k) is))
    go (Some d) is = at (place_in d.0 ways) refl
      where
        -- any other name than the driven one leads where it did
        other : (name : List ℕ) (k : ℕ) → bytes_eq name d.0 ≡ false → next_place ways before name k ≡ next_place ways (before ++ s ∷ []) name k
        other name k e = sym (after ways before s name k ∙ ap (Place name k) is ∙ ap (λ b. if is_followed (find_word name ways) then next_at ways k (if b then d.1 else lead_of name before) else k) e)

        at : (p : Option ℕ) → place_in d.0 ways ≡ p → TellsNext ways (before ++ s ∷ []) (set_next ways next d p)
        at None v = kept ways before s next tells (λ name k u. by name k u (bytes_eq name d.0) refl)
          where
            by : (name : List ℕ) (k : ℕ) → place_in name ways ≡ Some k → (b : Bool) → bytes_eq name d.0 ≡ b → next_place ways before name k ≡ next_place ways (before ++ s ∷ []) name k
            by name k u false e = other name k e
            by name k u true e = absurd (none-some k (sym v ∙ ap (λ n. place_in n ways) (sym (same_bytes name d.0 e)) ∙ u))
        at (Some p) v = role (is_followed (find_word d.0 ways)) refl
          where
            lt : p < length ways
            lt = place-within d.0 ways p v

            role : (b : Bool) → is_followed (find_word d.0 ways) ≡ b → TellsNext ways (before ++ s ∷ []) (if b then slice_set next p (next_at ways p d.1) else next)
            role false r = kept ways before s next tells (λ name k u. by name k (bytes_eq name d.0) refl)
              where
                by : (name : List ℕ) (k : ℕ) (b : Bool) → bytes_eq name d.0 ≡ b → next_place ways before name k ≡ next_place ways (before ++ s ∷ []) name k
                by name k false e = other name k e
                by name k true e =
                    let f : is_followed (find_word name ways) ≡ false = ap (λ n. is_followed (find_word n ways)) (same_bytes name d.0 e) ∙ r in
                    ap (λ b. if b then next_at ways k (lead_of name before) else k) f
                    ∙ sym (ap (λ b. if b then next_at ways k (lead_of name (before ++ s ∷ [])) else k) f)
            role true r = record {
              places = record {
                length_is = length-set next p (next_at ways p d.1) ∙ tells.places.length_is;
                within = λ k klt. within k klt;
              };
              told = λ name k u. told name k u (bytes_eq name d.0) refl;
            }
              where
                bound : p < length next
                bound = omega (arith, lt, tells.places.length_is)

                within : (k : ℕ) → k < length ways → slice_index (slice_set next p (next_at ways p d.1)) k < length ways
                within k klt = elim (eqb_tells k p) [
                  | inl e ↦ subst (λ j. j < length ways) (sym (ap (slice_index (slice_set next p (next_at ways p d.1))) e.1 ∙ get_or-set_same next p (next_at ways p d.1) 0 bound)) (next_at-within ways p d.1 lt)
                  | inr ne ↦ subst (λ j. j < length ways) (sym (get_or-set_other next p k (next_at ways p d.1) 0 ne.1)) (tells.places.within k klt)
                ]

                told : (name : List ℕ) (k : ℕ) → place_in name ways ≡ Some k → (b : Bool) → bytes_eq name d.0 ≡ b → slice_index (slice_set next p (next_at ways p d.1)) k ≡ next_place ways (before ++ s ∷ []) name k
                told name k u false e =
                    let ne : k ≢ p = λ k-is. true≢false (sym ((bytes_eq-Decides name d.0).1 (place-same name d.0 ways p (u ∙ ap Some k-is) v)) ∙ e) in
                    get_or-set_other next p k (next_at ways p d.1) 0 ne ∙ tells.told name k u ∙ other name k e
                told name k u true e =
                    let same : name ≡ d.0 = same_bytes name d.0 e in
                    let there : Some k ≡ Some p = sym u ∙ ap (λ n. place_in n ways) same ∙ v in
                    let k-is : k ≡ p = cc in
                    let f : is_followed (find_word name ways) ≡ true = ap (λ n. is_followed (find_word n ways)) same ∙ r in
                    ap (slice_index (slice_set next p (next_at ways p d.1))) k-is
                    ∙ get_or-set_same next p (next_at ways p d.1) 0 bound
                    ∙ ap (λ j. next_at ways j d.1) (sym k-is)
                    ∙ sym (after ways before s name k ∙ ap (Place name k) is
                    ∙ ap (λ b. if is_followed (find_word name ways) then next_at ways k (if b then d.1 else lead_of name before) else k) e
                    ∙ ap (λ b. if b then next_at ways k d.1 else k) f)

-- ---- steps

pub at-map : (n : ℕ) (first second : List ℕ) → ArePlaces n first → (k : ℕ) → k < n → slice_index (map (slice_index second) first) k ≡ slice_index second (slice_index first k)
at-map n first second f k lt = get_or-map (slice_index second) first k 0 0 (omega (arith, f.length_is))

pub map-places : (n : ℕ) (first second : List ℕ) → ArePlaces n first → ArePlaces n second → ArePlaces n (map (slice_index second) first)
map-places n first second f s = record {
  length_is = length-map first (slice_index second) ∙ f.length_is;
  within = λ k lt. subst (λ j. j < n) (sym (at-map n first second f k lt)) (s.within (slice_index first k) (f.within k lt));
}

-- m + m steps are m double steps
halved : (n : ℕ) (jump : List ℕ) → ArePlaces n jump → (m x : ℕ) → x < n → iterate (m + m) jump x ≡ iterate m (map (slice_index jump) jump) x
halved n jump j zero x lt = refl
halved n jump j (suc m) x lt =
    let twice : suc m + suc m ≡ suc (suc (m + m)) = omega arith in
    ap (λ c. iterate c jump x) twice
    ∙ halved n jump j m (slice_index jump (slice_index jump x)) (j.within (slice_index jump x) (j.within x lt))
    ∙ ap (iterate m (map (slice_index jump) jump)) (sym (at-map n jump jump j x lt))

-- a turn of the squaring doesn't change the place that all steps lead to
pub squared : (n left k all : ℕ) (jump reached : List ℕ) (odd : Bool) → ArePlaces n jump → ArePlaces n reached → odd ≡ eqb (left % 2) 1 → k < n → all ≡ iterate left jump (slice_index reached k) → all ≡ iterate (left / 2) (map (slice_index jump) jump) (slice_index (if odd then map (slice_index jump) reached else reached) k)
squared n left k all jump reached true j r is lt h =
    let one : left % 2 ≡ 1 = eqb-true (left % 2) 1 (sym is) in
    let count : left ≡ suc (left / 2 + left / 2) = omega (arith, one) in
    h ∙ ap (λ c. iterate c jump (slice_index reached k)) count
    ∙ halved n jump j (left / 2) (slice_index jump (slice_index reached k)) (j.within (slice_index reached k) (r.within k lt))
    ∙ ap (iterate (left / 2) (map (slice_index jump) jump)) (sym (at-map n reached jump r k lt))
squared n left k all jump reached false j r is lt h =
    let two : left % 2 ≡ 1 → ⊥ = eqb-false (left % 2) 1 (sym is) in
    let count : left ≡ left / 2 + left / 2 = omega (arith, two) in
    h ∙ ap (λ c. iterate c jump (slice_index reached k)) count
    ∙ halved n jump j (left / 2) (slice_index reached k) (r.within k lt)

pub if-places : (n : ℕ) (jump reached : List ℕ) (odd : Bool) → ArePlaces n jump → ArePlaces n reached → ArePlaces n (if odd then map (slice_index jump) reached else reached)
if-places n jump reached true j r = map-places n reached jump r j
if-places n jump reached false j r = r

-- ---- names and places

followed-not-outside : (o : Option Way) → is_followed o ≡ true → is_outside o ≡ false
followed-not-outside None h = refl
followed-not-outside (Some FromOutside) h = absurd (true≢false (sym h))
followed-not-outside (Some FromDriver) h = refl
followed-not-outside (Some Nowhere) h = refl

module _ (ways : List (List ℕ × Way)) (statements : List Stmt) where
  undeclared-stays : (n : ℕ) (name : List ℕ) → find_word name ways ≡ None → followed ways statements n name ≡ name
  undeclared-stays zero name none = refl
  undeclared-stays (suc n) name none =
      ap (λ o. followed ways statements n (stay_or name (if is_followed o then lead_of name statements else None))) none ∙ undeclared-stays n name none

  stays : (n : ℕ) (next : List ℕ) (k : ℕ) → slice_index next k ≡ k → iterate n next k ≡ k
  stays zero next k h = refl
  stays (suc n) next k h = ap (iterate n next) h ∙ stays n next k h

  -- What is said of each declared name as of its place, and is `nothing` of the others and of names that lead on.
  pub record IsSaid {X : Type 0} (nothing : X) (of_name : List ℕ → X) (of_place : ℕ → X) : Type 0 where
    pub placed : (name : List ℕ) (k : ℕ) → place_in name ways ≡ Some k → of_name name ≡ of_place k
    pub undeclared : (name : List ℕ) → place_in name ways ≡ None → of_name name ≡ nothing
    pub leads_on : (name : List ℕ) → is_followed (find_word name ways) ≡ true → of_name name ≡ nothing

  module _ {X : Type 0} (nothing : X) (of_name : List ℕ → X) (of_place : ℕ → X) (said : IsSaid nothing of_name of_place) where
    -- it is the same of where n steps from a name lead, and of where n steps from the name's place do
    follows : (next : List ℕ) → TellsNext ways statements next → (n : ℕ) (name : List ℕ) (k : ℕ) → place_in name ways ≡ Some k → of_name (followed ways statements n name) ≡ of_place (iterate n next k)
    follows next tells zero name k u = said.placed name k u
    follows next tells (suc n) name k u = go (is_followed (find_word name ways)) refl (lead_of name statements) refl (follows next tells n)
      where
        go : (b : Bool) → is_followed (find_word name ways) ≡ b → (o : Option (List ℕ)) → lead_of name statements ≡ o → ((q : List ℕ) (j : ℕ) → place_in q ways ≡ Some j → of_name (followed ways statements n q) ≡ of_place (iterate n next j)) → of_name (followed ways statements n (stay_or name (next_of ways statements name))) ≡ of_place (iterate n next (slice_index next k))
        go false t o v rest =
            let here : slice_index next k ≡ k = tells.told name k u ∙ ap (λ b. if b then next_at ways k (lead_of name statements) else k) t in
            ap (λ b. of_name (followed ways statements n (stay_or name (if b then lead_of name statements else None)))) t
            ∙ rest name k u ∙ ap (λ j. of_place (iterate n next j)) (sym here)
        go true t None v rest =
            let here : slice_index next k ≡ k = tells.told name k u ∙ ap (λ b. if b then next_at ways k (lead_of name statements) else k) t ∙ ap (next_at ways k) v in
            ap (λ b. of_name (followed ways statements n (stay_or name (if b then lead_of name statements else None)))) t
            ∙ ap (λ o. of_name (followed ways statements n (stay_or name o))) v
            ∙ rest name k u ∙ ap (λ j. of_place (iterate n next j)) (sym here)
        go true t (Some q) v rest = at (place_in q ways) refl
          where
            leads-on : of_name (followed ways statements n (stay_or name (next_of ways statements name))) ≡ of_name (followed ways statements n q)
            leads-on =
                ap (λ b. of_name (followed ways statements n (stay_or name (if b then lead_of name statements else None)))) t
                ∙ ap (λ o. of_name (followed ways statements n (stay_or name o))) v

            next-is : slice_index next k ≡ unwrap_or (place_in q ways) k
            next-is = tells.told name k u ∙ ap (λ b. if b then next_at ways k (lead_of name statements) else k) t ∙ ap (next_at ways k) v

            at : (p : Option ℕ) → place_in q ways ≡ p → of_name (followed ways statements n (stay_or name (next_of ways statements name))) ≡ of_place (iterate n next (slice_index next k))
            at (Some j) w = leads-on ∙ rest q j w ∙ ap (λ i. of_place (iterate n next i)) (sym (next-is ∙ ap (λ p. unwrap_or p k) w))
            at None w =
                let here : slice_index next k ≡ k = next-is ∙ ap (λ p. unwrap_or p k) w in
                leads-on
                ∙ ap of_name (undeclared-stays n q (way-placed q ways w))
                ∙ said.undeclared q w
                ∙ sym (said.leads_on name t)
                ∙ said.placed name k u
                ∙ sym (ap (λ i. of_place (iterate n next i)) here ∙ ap of_place (stays n next k here))

    -- a list of what is said of the places that are reached tells it of where names lead
    pub reached-told : (next reached : List ℕ) (told : List X) → TellsNext ways statements next → Reaches (length ways) next reached → told ≡ map of_place reached → (name : List ℕ) (k : ℕ) → place_in name ways ≡ Some k → get_or told k nothing ≡ of_name (followed ways statements (length ways) name)
    reached-told next reached told tells reaches is name k u =
        let lt : k < length reached = omega (arith, place-within name ways k u, reaches.places.length_is, tells.places.length_is) in
        let below : k < length next = omega (arith, place-within name ways k u, tells.places.length_is) in
        ap (λ l. get_or l k nothing) is
        ∙ get_or-map of_place reached k 0 nothing lt
        ∙ ap of_place (reaches.steps k below)
        ∙ sym (follows next tells (length ways) name k u)

    pub undeclared-told : (name : List ℕ) → place_in name ways ≡ None → nothing ≡ of_name (followed ways statements (length ways) name)
    undeclared-told name u = sym (ap of_name (undeclared-stays (length ways) name (way-placed name ways u)) ∙ said.undeclared name u)

  outside-said : IsSaid false (λ name. is_outside (find_word name ways)) (λ place. is_outside (way_at ways place))
  outside-said = record {
    placed = λ name k u. ap is_outside (placed-way name ways k u);
    undeclared = λ name u. ap is_outside (way-placed name ways u);
    leads_on = λ name t. followed-not-outside (find_word name ways) t;
  }

  -- the flags of the places that are reached tell which names lead to an input port
  pub traced : (next reached : List ℕ) (flags : List Bool) → TellsNext ways statements next → Reaches (length ways) next reached → flags ≡ map (λ (place : ℕ). is_outside (way_at ways place)) reached → (name : List ℕ) → flag_at flags (place_in name ways) ≡ leads ways statements name
  traced next reached flags tells reaches is name = go (place_in name ways) refl
    where
      go : (p : Option ℕ) → place_in name ways ≡ p → flag_at flags (place_in name ways) ≡ leads ways statements name
      go None u = ap (flag_at flags) u ∙ undeclared-told false (λ name. is_outside (find_word name ways)) (λ place. is_outside (way_at ways place)) outside-said name u
      go (Some k) u = ap (flag_at flags) u ∙ reached-told false (λ name. is_outside (find_word name ways)) (λ place. is_outside (way_at ways place)) outside-said next reached flags tells reaches is name k u
