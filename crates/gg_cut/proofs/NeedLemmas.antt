-- The needs of channels.
use Rattle.std.proofs.Common.{◌≡◌, ◌≢◌, ℕ, ◌+◌, ◌<◌, List, [], length, map, get_or, true-eqb, eq-eqb, sym, ◌∙◌, ap, subst, arith}
use Rattle.std.specs.Prelude.{◌==◌, All, AllPairs, Contains}
use Rattle.std.specs.List.{range_with_len}
use Rattle.std.proofs.lemmas.List.{get_or-map, get_or_default, length-map}
use Rattle.std.proofs.lemmas.List.Elements.{Contains-get_or}
use Rattle.std.proofs.lemmas.List.FromFn.{length-range_with_len, get_or-range_with_len}
use Rattle.gg_flat.specs.Line.{value_at}
use Rattle.gg_flat.proofs.ListLemmas.{Contains-filter, filter-cases, numbers-up, once-apart}
use Rattle.gg_order.specs.needs.Needs.{AreNeeds, AreNeedsOfOuts}
use Rattle.gg_part.specs.declared.part.Part.{Part}
use Rattle.gg_cut_plan.specs.declared.plan.Body.{Body}
use Rattle.gg_cut_plan.specs.declared.plan.Body.TheVariants.{Cut, Memory}
use Rattle.gg_cut_plan.specs.declared.plan.Machine.{Machine}
use Rattle.gg_cut_plan.specs.declared.wires.Wire.{Wire}
use Rattle.gg_cut_plan.specs.Plan.{wire_at, channels_to, channels_from, IsNeed, AreNeedsOf, NeedsIn}
use Rattle.gg_cut.specs.inside.Made.{IsServed, ArePartNeeds, ArePut, AreGiven}

-- ---- the channels that a machine gives

pub given-ascending : (wires : List Wire) (m : ℕ) (channels : List ℕ) → channels ≡ channels_from wires m → AllPairs (λ a b. a < b) channels
given-ascending wires m channels is = subst (λ (l : List ℕ). AllPairs (λ a b. a < b) l) (sym is) (numbers-up (λ c. (wire_at wires c).producer == m) (length wires))

pub given-once : (wires : List Wire) (m : ℕ) (channels : List ℕ) → channels ≡ channels_from wires m → AllPairs (λ a b. a ≢ b) channels
given-once wires m channels is = λ i j d lt inside same. let less = given-ascending wires m channels is i j d lt inside in absurd (omega (arith, less, same))

taken-ascending : (wires : List Wire) (m : ℕ) (channels : List ℕ) → channels ≡ channels_to wires m → AllPairs (λ a b. a < b) channels
taken-ascending wires m channels is = subst (λ (l : List ℕ). AllPairs (λ a b. a < b) l) (sym is) (numbers-up (λ c. (wire_at wires c).consumer == m) (length wires))

given-there : (wires : List Wire) (m : ℕ) (channels : List ℕ) → channels ≡ channels_from wires m → (c : ℕ) → c < length wires → (wire_at wires c).producer ≡ m → Contains channels c
given-there wires m channels is c lt gives =
    let among : Contains (range_with_len 0 (length wires)) c = (c, omega (arith, lt, length-range_with_len 0 (length wires)), get_or-range_with_len 0 (length wires) c c lt ∙ (let same : 0 + c ≡ c = omega arith in same)) in
    subst (λ (l : List ℕ). Contains l c) (sym is) (Contains-filter (λ k. (wire_at wires k).producer == m) (range_with_len 0 (length wires)) c among (eq-eqb (wire_at wires c).producer m gives))

given-by : (wires : List Wire) (m : ℕ) (channels : List ℕ) → channels ≡ channels_from wires m → (i : ℕ) → i < length channels → (wire_at wires (value_at channels i)).producer ≡ m
given-by wires m channels is i lt =
    let c = value_at channels i in
    let kept = filter-cases (λ k. (wire_at wires k).producer == m) (range_with_len 0 (length wires)) c (subst (λ (l : List ℕ). Contains l c) is (Contains-get_or channels i 0 lt)) in
    true-eqb (wire_at wires c).producer m (sym kept.passes)

-- ---- lists

map-ascending : (values places : List ℕ) → AllPairs (λ a b. a < b) values → AllPairs (λ a b. a < b) places → All (λ p. p < length values) places → AllPairs (λ a b. a < b) (map (value_at values) places)
map-ascending values places up along within = λ i j d lt inside.
    let high : j < length places = omega (arith, inside, length-map places (value_at values)) in
    let first = get_or-map (value_at values) places i 0 d (omega (arith, lt, high)) in
    let second = get_or-map (value_at values) places j 0 d high in
    let less = up (value_at places i) (value_at places j) 0 (along i j 0 lt high) (within j 0 high) in
    omega (arith, first, second, less)

-- ---- the needs of a part's out-signals

-- the places that out-signals need are places of ins
pub places-within : (wires : List Wire) (part : Part) (ins outs : List ℕ) (lists : List (List ℕ)) → IsServed wires part ins outs → AreNeedsOfOuts part.piece lists → (i : ℕ) → i < length outs → All (λ place. place < length ins) (get_or lists i [])
places-within wires part ins outs lists served all i lt = λ k d inside.
    let count : length part.piece.ins ≡ length ins = sym (length-map part.piece.ins (value_at part.globals)) ∙ ap length served.ins ∙ length-map ins (λ c. (wire_at wires c).signal) in
    let total : length part.piece.outs ≡ length outs = sym (length-map part.piece.outs (value_at part.globals)) ∙ ap length served.outs ∙ length-map outs (λ c. (wire_at wires c).given) in
    let places = get_or lists i [] in
    let needs = all.each i (omega (arith, lt, total)) in
    let known = ((needs.exact (get_or places k d)).0 (Contains-get_or places k d inside)).0 in
    omega (arith, known, count)

pub part-told : (wires : List Wire) (part : Part) (ins outs : List ℕ) (m : ℕ) (lists before table : List (List ℕ)) → IsServed wires part ins outs → ins ≡ channels_to wires m → outs ≡ channels_from wires m → AreNeedsOfOuts part.piece lists → ArePut ins outs lists before (length outs) table
    → (c : ℕ) → c < length wires → (wire_at wires c).producer ≡ m → ArePartNeeds part ins (wire_at wires c).given (get_or table c [])
part-told wires part ins outs m lists before table served taken given all put c known gives =
    let has = given-there wires m outs given c known gives in
    let i = has.0 in
    let here : value_at outs i ≡ c = get_or_default outs i 0 c has.1 ∙ has.2 in
    let places = get_or lists i [] in
    let total : length part.piece.outs ≡ length outs = sym (length-map part.piece.outs (value_at part.globals)) ∙ ap length served.outs ∙ length-map outs (λ c. (wire_at wires c).given) in
    let inside : i < length part.piece.outs = omega (arith, has.1, total) in
    let own = value_at part.piece.outs i in
    let needs = all.each i inside in
    let told : get_or table c [] ≡ map (value_at ins) places = ap (λ k. get_or table k []) (sym here) ∙ put.put i has.1 in
    let signal : value_at part.globals own ≡ (wire_at wires c).given =
    sym (get_or-map (value_at part.globals) part.piece.outs i 0 0 inside) ∙ ap (λ l. value_at l i) served.outs ∙ get_or-map (λ k. (wire_at wires k).given) outs i 0 0 has.1 ∙ ap (λ k. (wire_at wires k).given) here in
    record {
      ascending = subst (λ (l : List ℕ). AllPairs (λ a b. a < b) l) (sym told) (map-ascending ins places (taken-ascending wires m ins taken) needs.ascending (places-within wires part ins outs lists served all i has.1));
      needs = λ out lt same.
          let joined : own ≡ out = once-apart part.globals 0 served.once own out (served.known i inside) lt (signal ∙ sym same) in
          subst (λ (l : List ℕ). AreNeedsOf part ins out l) (sym told)
          (subst (λ (o : ℕ). AreNeedsOf part ins o (map (value_at ins) places)) joined (needs-at own places needs));
    }
  where
    needs-at : (own : ℕ) (places : List ℕ) → AreNeeds part.piece own places → AreNeedsOf part ins own (map (value_at ins) places)
    needs-at own places needs need = (to, from)
      where
        to : Contains (map (value_at ins) places) need → IsNeed part ins own need
        to has =
            let inside : has.0 < length places = omega (arith, has.1, length-map places (value_at ins)) in
            let place = value_at places has.0 in
            let known = (needs.exact place).0 (Contains-get_or places has.0 0 inside) in
            record {
              place = place;
              known = known.0;
              is = sym (get_or-map (value_at ins) places has.0 0 need inside) ∙ has.2;
              reached = known.1;
            }

        from : IsNeed part ins own need → Contains (map (value_at ins) places) need
        from is =
            let has = (needs.exact is.place).1 (is.known, is.reached) in
            (has.0, omega (arith, has.1, length-map places (value_at ins)), get_or-map (value_at ins) places has.0 is.place need has.1 ∙ ap (value_at ins) has.2 ∙ is.is)

-- the needs of a channel that machine m doesn't give stay as they were
pub others-left : (wires : List Wire) (ins outs : List ℕ) (m : ℕ) (lists before table : List (List ℕ)) → outs ≡ channels_from wires m → ArePut ins outs lists before (length outs) table → (c : ℕ) → (wire_at wires c).producer ≢ m → get_or table c [] ≡ get_or before c []
others-left wires ins outs m lists before table given put c other =
    put.others c (λ i lt same. other (ap (λ k. (wire_at wires k).producer) (sym same) ∙ given-by wires m outs given i lt))

-- ---- machines

pub given-cut : (machine : Machine) (w : Wire) (part : Part) (ins told : List ℕ) → machine.body ≡ Cut part → ins ≡ machine.ins → ArePartNeeds part ins w.given told → AreGiven machine w told
given-cut machine w part ins told is same needs =
    record {
      ascending = needs.ascending;
      needs = subst (λ (b : Body). NeedsIn b machine.ins w.given told) (sym is) (subst (λ (l : List ℕ). NeedsIn (Cut part) l w.given told) same needs.needs);
    }

pub given-memory : (machine : Machine) (w : Wire) (part : Part) (ins told : List ℕ) → machine.body ≡ Memory part → ins ≡ machine.ins → ArePartNeeds part ins w.given told → AreGiven machine w told
given-memory machine w part ins told is same needs =
    record {
      ascending = needs.ascending;
      needs = subst (λ (b : Body). NeedsIn b machine.ins w.given told) (sym is) (subst (λ (l : List ℕ). NeedsIn (Memory part) l w.given told) same needs.needs);
    }
