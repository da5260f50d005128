-- The first machine of a host, and the numbers of hosts.
use Rattle.std.proofs.Common.{◌≡◌, ℕ, zero, suc, ◌+◌, ◌-◌, ◌<◌, ◌≤◌, List, [], ◌∷◌, ◌++◌, length, map, get_or, drop, Bool, true, false, true≢false, true-eqb, refl, sym, ◌∙◌, ap, ap₂, Some, None, min, ⊎_elim, below_more, arith}
use Rattle.std.specs.Prelude.{Option, filter, cond, ◌==◌, if◌then◌else◌, ◌||◌, find}
use Rattle.std.specs.List.{list_any, range_with_len}
use Rattle.std.proofs.lemmas.List.{get_or-map, get_or_default, get_or_push, get_or_append_left, length-append}
use Rattle.std.proofs.lemmas.Bool.{cases_lt}
use Rattle.gg_flat.specs.Line.{value_at}
use Rattle.gg_cut_plan.specs.Hosts.{machine_of, least_machine, group_of, leader_in, leader, host_of}
use Rattle.gg_cut_plan.proofs.FindLemmas.{rest-at}
use Rattle.gg_cut_plan.proofs.RangeLemmas.{filter-more}

-- ---- the least machine of a list

-- the least of the list's machines and n is at most n
pub least-below : (units : List (List ℕ)) (group : List (List ℕ)) (n : ℕ) → least_machine units group n ≤ n
least-below units [] n = omega arith
least-below units (path ∷ group) n = let rest = least-below units group (min (machine_of units path) n) in omega (arith, rest)

-- the least of the list's machines and n is the same for each n from one of these machines on
pub least-member : (units : List (List ℕ)) (group : List (List ℕ)) (m n : ℕ) → list_any (λ path. machine_of units path == m) group ≡ true → m ≤ n → least_machine units group n ≡ least_machine units group m
least-member units [] m n among le = absurd (true≢false (sym among))
least-member units (path ∷ group) m n among le = by (machine_of units path) (machine_of units path == m) refl (λ k above rest. least-member units group m k rest above) among
  where
    by : (a : ℕ) (b : Bool) → (a == m) ≡ b → ((k : ℕ) → m ≤ k → list_any (λ path. machine_of units path == m) group ≡ true → least_machine units group k ≡ least_machine units group m) → (b || list_any (λ path. machine_of units path == m) group) ≡ true → least_machine units group (min a n) ≡ least_machine units group (min a m)
    by a true e rest some =
        let same : a ≡ m = true-eqb a m (sym e) in
        let joined : min a n ≡ min a m = omega (arith, same, le) in
        ap (least_machine units group) joined
    by a false e rest some = ⊎_elim
        (λ low. let joined : min a n ≡ min a m = omega (arith, low, le) in ap (least_machine units group) joined)
        (λ high. let joined : min a m ≡ m = omega (arith, high) in rest (min a n) (omega (arith, high, le)) some ∙ sym (ap (least_machine units group) joined))
        (cases_lt a m)

-- a machine of a list gets the least of the list's machines, whichever number the search began with
pub led : (units group : List (List ℕ)) (m n least old new : ℕ) → m ≤ n → least ≡ least_machine units group n → new ≡ (if list_any (λ path. machine_of units path == m) group then least else old) → new ≡ (if list_any (λ path. machine_of units path == m) group then least_machine units group m else old)
led units group m n least old new le is set = set ∙ by (list_any (λ path. machine_of units path == m) group) refl
  where
    by : (b : Bool) → list_any (λ path. machine_of units path == m) group ≡ b → (if b then least else old) ≡ (if b then least_machine units group m else old)
    by true e = is ∙ least-member units group m n e le
    by false e = refl

-- ---- leaders

pub leader-cons : (units group : List (List ℕ)) (share : List (List (List ℕ))) (m : ℕ) → leader units (group ∷ share) m ≡ (if list_any (λ path. machine_of units path == m) group then least_machine units group m else leader units share m)
leader-cons units group share m = by (list_any (λ path. machine_of units path == m) group)
  where
    by : (b : Bool) → leader_in units m (cond b (Some group) (find (λ group. list_any (λ path. machine_of units path == m) group) share)) ≡ (if b then least_machine units group m else leader units share m)
    by true = refl
    by false = refl

-- one list more, before those that were gone through
pub leader-more : (units : List (List ℕ)) (share : List (List (List ℕ))) (step m : ℕ) (group : List (List ℕ)) (old new : ℕ) → step < length share → group ≡ get_or share (length share - 1 - step) group → old ≡ leader units (drop (length share - step) share) m → new ≡ (if list_any (λ path. machine_of units path == m) group then least_machine units group m else old) → new ≡ leader units (drop (length share - (step + 1)) share) m
leader-more units share step m group old new lt read was set =
    let i = length share - (step + 1) in
    let same : length share - 1 - step ≡ i = omega arith in
    let next : i + 1 ≡ length share - step = omega arith in
    let here : drop i share ≡ group ∷ drop (length share - step) share =
    rest-at share i group (omega arith) (read ∙ ap (λ k. get_or share k group) same) ∙ ap (λ k. group ∷ drop k share) next in
    set ∙ ap (λ x. if list_any (λ path. machine_of units path == m) group then least_machine units group m else x) was
    ∙ sym (leader-cons units group (drop (length share - step) share) m)
    ∙ ap (λ l. leader units l m) (sym here)

pub leader-below : (units : List (List ℕ)) (share : List (List (List ℕ))) (m : ℕ) → leader units share m ≤ m
leader-below units share m = by (group_of units share m)
  where
    by : (found : Option (List (List ℕ))) → leader_in units m found ≤ m
    by None = omega arith
    by (Some group) = least-below units group m

-- ---- hosts

pub count-more : (leaders : List ℕ) (n total : ℕ) → total ≡ length (filter (λ k. value_at leaders k == k) (range_with_len 0 n)) → total + (if value_at leaders n == n then 1 else 0) ≡ length (filter (λ k. value_at leaders k == k) (range_with_len 0 (n + 1)))
count-more leaders n total is =
    ap (λ t. t + (if value_at leaders n == n then 1 else 0)) is
    ∙ by (value_at leaders n == n)
    ∙ sym (ap length (filter-more (λ k. value_at leaders k == k) n) ∙ length-append (filter (λ k. value_at leaders k == k) (range_with_len 0 n)) (if value_at leaders n == n then n ∷ [] else []))
  where
    by : (b : Bool) → length (filter (λ k. value_at leaders k == k) (range_with_len 0 n)) + (if b then 1 else 0) ≡ length (filter (λ k. value_at leaders k == k) (range_with_len 0 n)) + length (if b then n ∷ [] else [])
    by true = refl
    by false = refl

-- the counts of leaders before each number, and one more
pub counts-more : (leaders before new : List ℕ) (n total : ℕ) → length before ≡ n → total ≡ length (filter (λ k. value_at leaders k == k) (range_with_len 0 n)) → ((m : ℕ) → m < n → value_at before m ≡ length (filter (λ k. value_at leaders k == k) (range_with_len 0 m))) → new ≡ before ++ total ∷ [] → (m : ℕ) → m < n + 1 → value_at new m ≡ length (filter (λ k. value_at leaders k == k) (range_with_len 0 m))
counts-more leaders before new n total count is each made =
    below_more (λ m. value_at new m ≡ length (filter (λ k. value_at leaders k == k) (range_with_len 0 m))) n
    (λ m lt. ap (λ l. value_at l m) made ∙ get_or_append_left before (total ∷ []) 0 m (omega (arith, lt, count)) ∙ each m lt)
    (ap (λ l. value_at l n) made ∙ get_or_push before total 0 n count ∙ is)

-- tests that agree on the numbers pass the same of them
filter-agree : (f g : ℕ → Bool) (a n : ℕ) → ((k : ℕ) → k < a + n → f k ≡ g k) → filter f (range_with_len a n) ≡ filter g (range_with_len a n)
filter-agree f g a zero same = refl
filter-agree f g a (suc n) same =
    ap₂ (λ b l. cond b (a ∷ l) l) (same a (omega arith)) (filter-agree f g (a + 1) n (λ k lt. same k (omega arith)))

-- each leader is below the number of machines
pub leaders-below : (units : List (List ℕ)) (share : List (List (List ℕ))) (leaders : List ℕ) → ((m : ℕ) → m < length leaders → value_at leaders m ≡ leader units share m) → (n k d : ℕ) → n ≡ length leaders → k < length leaders → get_or leaders k d < n
leaders-below units share leaders are n k d is lt =
    let at : get_or leaders k d ≡ value_at leaders k = get_or_default leaders k d 0 lt in
    omega (arith, at, are k lt, leader-below units share k)

pub host-at : (units : List (List ℕ)) (share : List (List (List ℕ))) (leaders before hosts : List ℕ) → ((m : ℕ) → m < length leaders → value_at leaders m ≡ leader units share m) → ((m : ℕ) → m < length leaders → value_at before m ≡ length (filter (λ k. value_at leaders k == k) (range_with_len 0 m))) → hosts ≡ map (value_at before) leaders → (m : ℕ) → m < length leaders → value_at hosts m ≡ host_of units share m
host-at units share leaders before hosts are counts is m lt =
    let first = leader units share m in
    let below : first ≤ m = leader-below units share m in
    ap (λ l. value_at l m) is ∙ get_or-map (value_at before) leaders m 0 0 lt ∙ ap (value_at before) (are m lt)
    ∙ counts first (omega (arith, below))
    ∙ ap length (filter-agree (λ k. value_at leaders k == k) (λ k. leader units share k == k) 0 first (λ k inside. ap (λ x. x == k) (are k (omega (arith, below, inside)))))
