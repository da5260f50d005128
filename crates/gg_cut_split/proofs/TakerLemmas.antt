-- Tables by signals: which bridge has each port.
use Rattle.std.proofs.Common.{◌≡◌, ℕ, zero, suc, ◌+◌, ◌-◌, ◌<◌, ◌≤◌, List, [], ◌∷◌, length, get_or, take, drop, replicate, Bool, true, false, refl, sym, ◌∙◌, ap, Some, None, arith}
use Rattle.std.specs.Prelude.{Option, option_map, bytes_eq, ◌||◌, if◌then◌else◌}
use Rattle.std.proofs.lemmas.List.Folds.{list_any_more}
use Rattle.std.proofs.lemmas.Slice.Eq.{bytes_eq-Decides}
use Rattle.gg_flat.specs.Line.{value_at}
use Rattle.gg_partfile.specs.declared.request.BridgeEntry.{BridgeEntry}
use Rattle.gg_cut_plan.specs.Listed.{is_among}
use Rattle.gg_cut_plan.specs.Ports.{lister}
use Rattle.gg_cut_plan.proofs.FindLemmas.{rest-at}
use Rattle.gg_cut_split.specs.inside.Ends.{one_more, entry_ports}

pub eq-back : (a b : List ℕ) → bytes_eq a b ≡ bytes_eq b a
eq-back a b = by (bytes_eq a b) refl (bytes_eq b a) refl
  where
    by : (x : Bool) → bytes_eq a b ≡ x → (y : Bool) → bytes_eq b a ≡ y → x ≡ y
    by true e true f = refl
    by false e false f = refl
    by true e false f = sym ((bytes_eq-Decides b a).1 (sym ((bytes_eq-Decides a b).0 e))) ∙ f
    by false e true f = sym e ∙ (bytes_eq-Decides a b).1 (sym ((bytes_eq-Decides b a).0 f))

-- ---- one port more, from the front

put-cases : (a t : Bool) (number old : ℕ) → (if t then number else (if a then number else old)) ≡ (if (a || t) then number else old)
put-cases true true number old = refl
put-cases true false number old = refl
put-cases false true number old = refl
put-cases false false number old = refl

pub put-more : (ports : List (List ℕ)) (i : ℕ) (port path : List ℕ) (number old before new : ℕ) → i < length ports → port ≡ get_or ports i port
    → before ≡ (if is_among (take i ports) path then number else old) → new ≡ (if bytes_eq port path then number else before) → new ≡ (if is_among (take (i + 1) ports) path then number else old)
put-more ports i port path number old before new lt read was set =
    let a = is_among (take i ports) path in
    let joined : is_among (take (i + 1) ports) path ≡ (a || bytes_eq port path) =
    list_any_more (bytes_eq path) ports i port lt ∙ ap (λ x. a || bytes_eq path x) (sym read) ∙ ap (λ x. a || x) (eq-back path port) in
    set ∙ ap (λ x. if bytes_eq port path then number else x) was ∙ put-cases a (bytes_eq port path) number old ∙ ap (λ b. if b then number else old) (sym joined)

-- ---- nothing yet

-- a list of zeros has no other number
pub zeros : (count s : ℕ) → value_at (replicate count 0) s ≡ 0
zeros zero s = refl
zeros (suc count) zero = refl
zeros (suc count) (suc s) = zeros count s

pub all-dropped : {A : Type 0} (xs : List A) (n : ℕ) → length xs ≤ n → drop n xs ≡ []
all-dropped [] zero le = refl
all-dropped [] (suc n) le = refl
all-dropped (x ∷ xs) zero le = absurd (omega (arith, le))
all-dropped (x ∷ xs) (suc n) le = all-dropped xs n (omega (arith, le))

-- ---- one entry more, from the back

-- one more than a place behind this many others
abbrev pub one_behind : ℕ → Option ℕ → ℕ
one_behind base None = 0
one_behind base (Some k) = base + suc k

pub behind-none : (o : Option ℕ) → one_behind 0 o ≡ one_more o
behind-none None = refl
behind-none (Some k) = omega arith

pub taker-more : (seen : Bool) (entries : List BridgeEntry) (step : ℕ) (entry : BridgeEntry) (path : List ℕ) (old new : ℕ) → step < length entries → entry ≡ get_or entries (length entries - 1 - step) entry
    → old ≡ one_behind (length entries - step) (lister (entry_ports seen) (drop (length entries - step) entries) path)
    → new ≡ (if is_among (entry_ports seen entry) path then length entries - 1 - step + 1 else old)
    → new ≡ one_behind (length entries - (step + 1)) (lister (entry_ports seen) (drop (length entries - (step + 1)) entries) path)
taker-more seen entries step entry path old new lt read was set =
    let i = length entries - (step + 1) in
    let rest = lister (entry_ports seen) (drop (length entries - step) entries) path in
    let same : length entries - 1 - step ≡ i = omega (arith, lt) in
    let next : i + 1 ≡ length entries - step = omega (arith, lt) in
    let here : drop i entries ≡ entry ∷ drop (length entries - step) entries =
    rest-at entries i entry (omega (arith, lt)) (read ∙ ap (λ k. get_or entries k entry) same) ∙ ap (λ k. entry ∷ drop k entries) next in
    set ∙ ap (λ x. if is_among (entry_ports seen entry) path then length entries - 1 - step + 1 else x) was
    ∙ by (is_among (entry_ports seen entry) path) i rest (omega (arith, lt)) (omega (arith, lt))
    ∙ sym (ap (λ l. one_behind i (lister (entry_ports seen) l path)) here)
  where
    by : (b : Bool) (i : ℕ) (rest : Option ℕ) → length entries - 1 - step + 1 ≡ i + 1 → length entries - step ≡ i + 1 → (if b then length entries - 1 - step + 1 else one_behind (length entries - step) rest) ≡ one_behind i (if b then Some 0 else option_map suc rest)
    by true i rest e f = omega (arith, e)
    by false i None e f = refl
    by false i (Some k) e f = omega (arith, f)

-- at first no entry has a port
pub no-taker : (seen : Bool) (entries : List BridgeEntry) (path : List ℕ) (count s value : ℕ) → value ≡ value_at (replicate count 0) s → value ≡ one_behind (length entries - 0) (lister (entry_ports seen) (drop (length entries - 0) entries) path)
no-taker seen entries path count s value is =
    is ∙ zeros count s ∙ ap (λ l. one_behind (length entries - 0) (lister (entry_ports seen) l path)) (sym (all-dropped entries (length entries - 0) (omega arith)))

pub taken-as : (b : Bool) (x y : ℕ) → x ≡ y → (if b then x else 0) ≡ (if b then y else 0)
taken-as true x y e = e
taken-as false x y e = refl
