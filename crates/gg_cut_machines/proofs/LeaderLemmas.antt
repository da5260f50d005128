-- The first machine of a host is its own first machine, and machines with one host have one first machine.
use Rattle.std.proofs.Common.{◌≡◌, ℕ, zero, suc, ◌+◌, ◌-◌, ◌<◌, ◌≤◌, List, [], ◌∷◌, ◌++◌, length, get_or, Bool, true, false, true≢false, refl, sym, ◌∙◌, ap, subst, Some, None, inl, inr, ◌⊎◌, eq-eqb, arith}
use Rattle.std.specs.Prelude.{Option, Contains, bytes_eq, filter, find, not, ◌==◌, if◌then◌else◌}
use Rattle.std.specs.List.{list_any, range_with_len}
use Rattle.std.proofs.lemmas.Bool.{cases_lt}
use Rattle.std.proofs.lemmas.List.{length-append}
use Rattle.std.proofs.lemmas.List.Elements.{Contains-append_right}
use Rattle.gg_flat.proofs.ListLemmas.{here, further}
use Rattle.gg_order.specs.Design.{Ordered}
use Rattle.gg_partfile.specs.declared.request.Request.{Request}
use Rattle.gg_cut_plan.specs.declared.fault.CutFault.TheVariants.{UnknownUnit, Doubled}
use Rattle.gg_cut_plan.specs.Fault.{first_clash, same_path, repeated, unshared, entry_faults, first_fault}
use Rattle.gg_partfile.specs.Size.{entries}
use Rattle.gg_cut_plan.specs.Hosts.{machine_of, least_machine, group_of, leader_in, leader, host_of}
use Rattle.gg_cut_plan.specs.Listed.{is_among, place_of, unit_or_hub}
use Rattle.gg_cut_plan.proofs.FindLemmas.{first_clash-append, none-at, none-map}
use Rattle.gg_cut_plan.proofs.PathLemmas.{first_place-Some}
use Rattle.gg_cut_plan.proofs.RangeLemmas.{filter-more}
use Rattle.gg_cut_split.proofs.ClosedLemmas.FaultlessLemmas.{no-entry-fault}
use Rattle.gg_cut_split.proofs.AgainLemmas.GroupLemmas.{HasUnit, has-unit, unit-tested, least-in, fresh, unit-one, either-none, entries-in, entry-known, find-some}
use Rattle.gg_cut_machines.proofs.HostLemmas.{leader-cons, least-member, least-below}

-- ---- first machines

-- a list of `share` has the unit of a machine
record IsListed (units : List (List ℕ)) (share : List (List (List ℕ))) (m : ℕ) : Type 0 where
  pub group : List (List ℕ)
  pub among : Contains share group
  pub has : HasUnit units group m

-- the first machine of a host is the machine itself, or that of a unit of a list
leader-listed : (units : List (List ℕ)) (share : List (List (List ℕ))) (m : ℕ) → (leader units share m ≡ m) ⊎ IsListed units share (leader units share m)
leader-listed units share m = by (group_of units share m) refl
  where
    by : (found : Option (List (List ℕ))) → group_of units share m ≡ found → (leader_in units m found ≡ m) ⊎ IsListed units share (leader_in units m found)
    by None e = inl refl
    by (Some group) e =
        let at = find-some (λ group. list_any (λ path. machine_of units path == m) group) share group e in
        inr (record { group = group; among = at.0; has = least-in units group m (has-unit units group m at.1) })

pub leader-twice : (units earlier : List (List ℕ)) (share : List (List (List ℕ))) (m : ℕ) → first_clash same_path earlier (entries share) ≡ None → unshared units share ≡ None → leader units share (leader units share m) ≡ leader units share m
leader-twice units earlier [] m once known = refl
leader-twice units earlier (group ∷ share) m once known =
    by (list_any (λ path. machine_of units path == m) group) refl
    (leader-twice units (earlier ++ group) share m rest (either-none (find (λ path. not (is_among units path)) group) (unshared units share) known).1)
  where
    rest : first_clash same_path (earlier ++ group) (entries share) ≡ None
    rest = (either-none (first_clash same_path earlier group) (first_clash same_path (earlier ++ group) (entries share)) (sym (first_clash-append same_path earlier group (entries share)) ∙ once)).1

    -- the first list and a later one have no machine in common
    clash : (k : ℕ) → HasUnit units group k → IsListed units share k → ⊥
    clash k one at =
        let same = unit-one units one.path at.has.path
        (entry-known units (group ∷ share) group one.path known (here group share) one.among)
        (entry-known units (group ∷ share) at.group at.has.path known (further group share at.group at.among) at.has.among)
        (one.is ∙ sym at.has.is) in
        fresh (earlier ++ group) (entries share) one.path at.has.path rest (Contains-append_right earlier group one.path one.among) (entries-in share at.group at.has.path at.among at.has.among) same

    within : (k : ℕ) → list_any (λ path. machine_of units path == k) group ≡ true → leader units (group ∷ share) k ≡ least_machine units group k
    within k t = leader-cons units group share k ∙ ap (λ b. if b then least_machine units group k else leader units share k) t

    beyond : (k : ℕ) → list_any (λ path. machine_of units path == k) group ≡ false → leader units (group ∷ share) k ≡ leader units share k
    beyond k f = leader-cons units group share k ∙ ap (λ b. if b then least_machine units group k else leader units share k) f

    outside : (k : ℕ) (b : Bool) → list_any (λ path. machine_of units path == k) group ≡ b → (k ≡ m) ⊎ IsListed units share k → list_any (λ path. machine_of units path == m) group ≡ false → list_any (λ path. machine_of units path == k) group ≡ false
    outside k false e at f = e
    outside k true e (inl same) f = absurd (true≢false (sym (subst (λ j. list_any (λ path. machine_of units path == j) group ≡ true) same e) ∙ f))
    outside k true e (inr at) f = absurd (clash k (has-unit units group k e) at)

    by : (b : Bool) → list_any (λ path. machine_of units path == m) group ≡ b → leader units share (leader units share m) ≡ leader units share m → leader units (group ∷ share) (leader units (group ∷ share) m) ≡ leader units (group ∷ share) m
    by true t later =
        let least = least_machine units group m in
        let tested = unit-tested units group least (least-in units group m (has-unit units group m t)) in
        ap (leader units (group ∷ share)) (within m t)
        ∙ within least tested ∙ sym (least-member units group least m tested (least-below units group m)) ∙ sym (within m t)
    by false f later =
        ap (leader units (group ∷ share)) (beyond m f)
        ∙ beyond (leader units share m) (outside (leader units share m) (list_any (λ path. machine_of units path == leader units share m) group) refl (leader-listed units share m) f)
        ∙ later ∙ sym (beyond m f)

-- ---- machines behind the units are the first of their hosts

machine-few : (units : List (List ℕ)) (path : List ℕ) → machine_of units path ≤ length units
machine-few units path = by (place_of units path) refl
  where
    by : (o : Option ℕ) → place_of units path ≡ o → unit_or_hub o ≤ length units
    by None e = omega arith
    by (Some u) e = let within = (first_place-Some (λ other. bytes_eq path other) units u e).within in omega (arith, within)

pub leader-high : (units : List (List ℕ)) (share : List (List (List ℕ))) (m : ℕ) → length units < m → leader units share m ≡ m
leader-high units share m lt = by (group_of units share m) refl
  where
    by : (found : Option (List (List ℕ))) → group_of units share m ≡ found → leader_in units m found ≡ m
    by None e = refl
    by (Some group) e =
        let at = find-some (λ group. list_any (λ path. machine_of units path == m) group) share group e in
        let has = has-unit units group m at.1 in
        let few = machine-few units has.path in
        let is = has.is in
        absurd (omega (arith, lt, few, is))

-- ---- a request without a fault

module _ (design : Ordered) (request : Request) (none : first_fault design request ≡ None) where
  entry-none : (i : ℕ) → get_or (entry_faults design.tree request) i None ≡ None
  entry-none i = none-at (entry_faults design.tree request) i (no-entry-fault design request none)

  pub leaders-first : (m : ℕ) → leader request.units request.share (leader request.units request.share m) ≡ leader request.units request.share m
  leaders-first m = leader-twice request.units [] request.share m (none-map Doubled (repeated (entries request.share)) (entry-none 3)) (none-map UnknownUnit (unshared request.units request.share) (entry-none 1))

-- ---- hosts

count-up : (test : ℕ → Bool) (a more : ℕ) → length (filter test (range_with_len 0 a)) ≤ length (filter test (range_with_len 0 (a + more)))
count-up test a zero = let same : a + 0 ≡ a = omega arith in subst (λ n. length (filter test (range_with_len 0 a)) ≤ length (filter test (range_with_len 0 n))) (sym same) (omega arith)
count-up test a (suc more) =
    let before = count-up test a more in
    let next : (a + more) + 1 ≡ a + suc more = omega arith in
    let last : length (filter test (range_with_len 0 ((a + more) + 1))) ≡ length (filter test (range_with_len 0 (a + more))) + length (if test (a + more) then (a + more) ∷ [] else []) = ap length (filter-more test (a + more)) ∙ length-append (filter test (range_with_len 0 (a + more))) (if test (a + more) then (a + more) ∷ [] else []) in
    let whole : length (filter test (range_with_len 0 (a + suc more))) ≡ length (filter test (range_with_len 0 ((a + more) + 1))) = ap (λ n. length (filter test (range_with_len 0 n))) (sym next) in
    omega (arith, before, last, whole)

-- more numbers pass a test before b than before a, if a passes and is less
count-more : (test : ℕ → Bool) (a b : ℕ) → test a ≡ true → a < b → length (filter test (range_with_len 0 a)) < length (filter test (range_with_len 0 b))
count-more test a b t lt =
    let up = count-up test (a + 1) (b - (a + 1)) in
    let same : (a + 1) + (b - (a + 1)) ≡ b = omega (arith, lt) in
    let whole : length (filter test (range_with_len 0 ((a + 1) + (b - (a + 1))))) ≡ length (filter test (range_with_len 0 b)) = ap (λ n. length (filter test (range_with_len 0 n))) same in
    let here : length (filter test (range_with_len 0 (a + 1))) ≡ length (filter test (range_with_len 0 a)) + 1 = ap length (filter-more test a) ∙ length-append (filter test (range_with_len 0 a)) (if test a then a ∷ [] else []) ∙ ap (λ b. length (filter test (range_with_len 0 a)) + length (if b then a ∷ [] else [])) t in
    omega (arith, up, whole, here)

-- machines with one host have one first machine, if each first machine is its own
pub one-host : (units : List (List ℕ)) (share : List (List (List ℕ))) (m n : ℕ) → ((k : ℕ) → leader units share (leader units share k) ≡ leader units share k) → host_of units share m ≡ host_of units share n → leader units share m ≡ leader units share n
one-host units share m n twice same = by (cases_lt (leader units share m) (leader units share n)) (cases_lt (leader units share n) (leader units share m))
  where
    led : (k : ℕ) → (leader units share (leader units share k) == leader units share k) ≡ true
    led k = eq-eqb (leader units share (leader units share k)) (leader units share k) (twice k)

    by : (leader units share m < leader units share n) ⊎ (leader units share n ≤ leader units share m) → (leader units share n < leader units share m) ⊎ (leader units share m ≤ leader units share n) → leader units share m ≡ leader units share n
    by (inl lt) other = let more = count-more (λ k. leader units share k == k) (leader units share m) (leader units share n) (led m) lt in absurd (omega (arith, more, same))
    by (inr le) (inl lt) = let more = count-more (λ k. leader units share k == k) (leader units share n) (leader units share m) (led n) lt in absurd (omega (arith, more, same))
    by (inr le) (inr ge) = omega (arith, le, ge)
