-- Two machines that have the same first machine of their host are units of one list of `share`.
use Rattle.std.proofs.Common.{◌≡◌, ◌≢◌, ℕ, suc, ◌<◌, ◌≤◌, List, [], ◌∷◌, ◌++◌, length, get_or, Bool, true, false, true≢false, true-eqb, eq-eqb, refl, sym, ◌∙◌, ap, subst, Some, None, inl, inr, ◌⊎◌, min, arith}
use Rattle.std.specs.Prelude.{Option, Contains, find, cond, not, ◌==◌, ◌||◌, if◌then◌else◌, bytes_eq}
use Rattle.std.specs.List.{list_any}
use Rattle.std.proofs.lemmas.Bool.{cases_lt}
use Rattle.std.proofs.lemmas.List.Elements.{Contains-append_left, Contains-append_right}
use Rattle.std.proofs.lemmas.List.Folds.{list_any_at}
use Rattle.std.proofs.lemmas.Option.{same_Some}
use Rattle.std.proofs.lemmas.Slice.Eq.{bytes_eq-Decides}
use Rattle.gg_flat_tree.specs.Tree.{InstanceTree, path_at}
use Rattle.gg_flat.proofs.ListLemmas.{here, further, Contains-cases}
use Rattle.gg_cut_plan.specs.Fault.{first_clash, same_path, unshared, module_of, other_in, other_module}
use Rattle.gg_bits.specs.Lists.{or_else}
use Rattle.gg_partfile.specs.Size.{entries}
use Rattle.gg_cut_plan.specs.Hosts.{machine_of, least_machine, group_of, leader_in, leader}
use Rattle.gg_cut_plan.specs.Listed.{is_among, place_of, unit_or_hub}
use Rattle.gg_cut_plan.proofs.FindLemmas.{first_clash-append}
use Rattle.gg_cut_plan.proofs.PathLemmas.{first_place-Some, first_place-None}

-- ---- what is found

pub find-some : {A : Type 0} (test : A → Bool) (xs : List A) (x : A) → find test xs ≡ Some x → Contains xs x × (test x ≡ true)
find-some test [] x e = absurd (cc)
find-some {A = A} test (y ∷ xs) x e = by (test y) refl e (λ f. find-some test xs x f)
  where
    by : (b : Bool) → test y ≡ b → cond b (Some y) (find test xs) ≡ Some x → (find test xs ≡ Some x → Contains xs x × (test x ≡ true)) → Contains (y ∷ xs) x × (test x ≡ true)
    by true t e rest = let same = same_Some y x e in subst (λ z. Contains (y ∷ xs) z × (test z ≡ true)) same (here y xs, t)
    by false t e rest = let r = rest e in (further y xs x r.0, r.1)

pub find-none : {A : Type 0} (test : A → Bool) (xs : List A) (x : A) → find test xs ≡ None → Contains xs x → test x ≡ false
find-none test [] x e h = absurd (omega (arith, h.1))
find-none {A = A} test (y ∷ xs) x e h = by (test y) refl e (λ f g. find-none test xs x f g) (Contains-cases y x xs h)
  where
    by : (b : Bool) → test y ≡ b → cond b (Some y) (find test xs) ≡ None → (find test xs ≡ None → Contains xs x → test x ≡ false) → (y ≡ x) ⊎ Contains xs x → test x ≡ false
    by true t e rest h = absurd (cc)
    by false t e rest (inl same) = subst (λ z. test z ≡ false) same t
    by false t e rest (inr more) = rest e more

none-failing : {A : Type 0} (test : A → Bool) (xs : List A) (x : A) → find (λ y. not (test y)) xs ≡ None → Contains xs x → test x ≡ true
none-failing test xs x e h = by (test x) (find-none (λ y. not (test y)) xs x e h)
  where
    by : (b : Bool) → not b ≡ false → b ≡ true
    by true e = refl
    by false e = absurd (cc)

pub either-none : {A : Type 0} (a b : Option A) → or_else a b ≡ None → (a ≡ None) × (b ≡ None)
either-none None b e = (refl, e)
either-none (Some x) b e = absurd (cc)

-- ---- entries of `share`

-- no path of those before stands among paths without a clash
pub fresh : (earlier paths : List (List ℕ)) (p q : List ℕ) → first_clash same_path earlier paths ≡ None → Contains earlier p → Contains paths q → p ≢ q
fresh earlier [] p q e h k = absurd (omega (arith, k.1))
fresh earlier (x ∷ xs) p q e h k = by (list_any (same_path x) earlier) refl e (Contains-cases x q xs k) (λ f r. fresh (earlier ++ x ∷ []) xs p q f (Contains-append_left earlier (x ∷ []) p h) r)
  where
    by : (b : Bool) → list_any (same_path x) earlier ≡ b → (if b then Some x else first_clash same_path (earlier ++ x ∷ []) xs) ≡ None → (x ≡ q) ⊎ Contains xs q → (first_clash same_path (earlier ++ x ∷ []) xs ≡ None → Contains xs q → p ≢ q) → p ≢ q
    by true t e at rest = absurd (cc)
    by false t e (inr more) rest = rest e more
    by false t e (inl same) rest = λ one.
        let equal : x ≡ get_or earlier h.0 p = same ∙ sym one ∙ sym h.2 in
        true≢false (sym (list_any_at (same_path x) earlier h.0 p h.1 ((bytes_eq-Decides x (get_or earlier h.0 p)).1 equal)) ∙ t)

pub entries-in : (share : List (List (List ℕ))) (group : List (List ℕ)) (path : List ℕ) → Contains share group → Contains group path → Contains (entries share) path
entries-in [] group path h k = absurd (omega (arith, h.1))
entries-in (g ∷ share) group path h k = by (Contains-cases g group share h) (λ r. entries-in share group path r k)
  where
    by : (g ≡ group) ⊎ Contains share group → (Contains share group → Contains (entries share) path) → Contains (entries (g ∷ share)) path
    by (inl same) rest = Contains-append_left g (entries share) path (subst (λ (l : List (List ℕ)). Contains l path) (sym same) k)
    by (inr more) rest = Contains-append_right g (entries share) path (rest more)

-- each entry is among the units
pub entry-known : (units : List (List ℕ)) (share : List (List (List ℕ))) (group : List (List ℕ)) (path : List ℕ) → unshared units share ≡ None → Contains share group → Contains group path → is_among units path ≡ true
entry-known units [] group path e h k = absurd (omega (arith, h.1))
entry-known units (g ∷ share) group path e h k = by (Contains-cases g group share h) (λ f r. entry-known units share group path f r k)
  where
    parts : (find (λ path. not (is_among units path)) g ≡ None) × (unshared units share ≡ None)
    parts = either-none (find (λ path. not (is_among units path)) g) (unshared units share) e

    by : (g ≡ group) ⊎ Contains share group → (unshared units share ≡ None → Contains share group → is_among units path ≡ true) → is_among units path ≡ true
    by (inl same) rest = none-failing (is_among units) g path parts.0 (subst (λ (l : List (List ℕ)). Contains l path) (sym same) k)
    by (inr more) rest = rest parts.1 more

-- the entries of a list are instances of one module
pub entries-one : (tree : InstanceTree) (share : List (List (List ℕ))) (group : List (List ℕ)) (p q : List ℕ) → other_module tree share ≡ None → Contains share group → Contains group p → Contains group q → module_of tree p ≡ module_of tree q
entries-one tree [] group p q e h a b = absurd (omega (arith, h.1))
entries-one tree (g ∷ share) group p q e h a b = by (Contains-cases g group share h) (λ f r. entries-one tree share group p q f r a b)
  where
    parts : (other_in tree g ≡ None) × (other_module tree share ≡ None)
    parts = either-none (other_in tree g) (other_module tree share) e

    first : (path : List ℕ) → Contains g path → module_of tree path ≡ module_of tree (path_at g 0)
    first path k =
        true-eqb (module_of tree path) (module_of tree (path_at g 0))
        (sym (none-failing (λ path. module_of tree path == module_of tree (path_at g 0)) g path parts.0 k))

    by : (g ≡ group) ⊎ Contains share group → (other_module tree share ≡ None → Contains share group → module_of tree p ≡ module_of tree q) → module_of tree p ≡ module_of tree q
    by (inl same) rest =
        first p (subst (λ (l : List (List ℕ)). Contains l p) (sym same) a)
        ∙ sym (first q (subst (λ (l : List (List ℕ)). Contains l q) (sym same) b))
    by (inr more) rest = rest parts.1 more

-- ---- units by their paths

-- the path is that of the unit at a place
pub record IsUnitPath (units : List (List ℕ)) (path : List ℕ) : Type 0 where
  pub place : ℕ
  pub known : place < length units
  pub is : path_at units place ≡ path
  pub machine : machine_of units path ≡ suc place

pub unit-path : (units : List (List ℕ)) (path : List ℕ) → is_among units path ≡ true → IsUnitPath units path
unit-path units path e = by (place_of units path) refl
  where
    by : (found : Option ℕ) → place_of units path ≡ found → IsUnitPath units path
    by None f = absurd (true≢false (sym e ∙ first_place-None (bytes_eq path) units f))
    by (Some k) f =
        let at = first_place-Some (bytes_eq path) units k f in
        record { place = k; known = at.within; is = sym ((bytes_eq-Decides path (path_at units k)).0 (at.passes [])); machine = ap unit_or_hub f }

-- units of one machine have one path
pub unit-one : (units : List (List ℕ)) (p q : List ℕ) → is_among units p ≡ true → is_among units q ≡ true → machine_of units p ≡ machine_of units q → p ≡ q
unit-one units p q a b e =
    let x = unit-path units p a in
    let y = unit-path units q b in
    let same : x.place ≡ y.place = omega (arith, sym x.machine ∙ e ∙ y.machine) in
    sym x.is ∙ ap (path_at units) same ∙ y.is

-- ---- lists that have the unit of a machine

pub record HasUnit (units group : List (List ℕ)) (m : ℕ) : Type 0 where
  pub path : List ℕ
  pub among : Contains group path
  pub is : machine_of units path ≡ m

pub has-unit : (units group : List (List ℕ)) (m : ℕ) → list_any (λ path. machine_of units path == m) group ≡ true → HasUnit units group m
has-unit units [] m e = absurd (cc)
has-unit units (p ∷ group) m e = by (machine_of units p == m) refl e (λ f. has-unit units group m f)
  where
    by : (b : Bool) → (machine_of units p == m) ≡ b → (b || list_any (λ path. machine_of units path == m) group) ≡ true → (list_any (λ path. machine_of units path == m) group ≡ true → HasUnit units group m) → HasUnit units (p ∷ group) m
    by true t e rest = record { path = p; among = here p group; is = true-eqb (machine_of units p) m (sym t) }
    by false t e rest = let r = rest e in record { path = r.path; among = further p group r.path r.among; is = r.is }

pub unit-tested : (units group : List (List ℕ)) (m : ℕ) → HasUnit units group m → list_any (λ path. machine_of units path == m) group ≡ true
unit-tested units group m h =
    list_any_at (λ path. machine_of units path == m) group h.among.0 h.path h.among.1
    (eq-eqb (machine_of units (get_or group h.among.0 h.path)) m (ap (machine_of units) h.among.2 ∙ h.is))

-- the least machine of a list and one more number is that number, or the machine of one of the list's units
least-unit : (units group : List (List ℕ)) (n : ℕ) → (least_machine units group n ≡ n) ⊎ HasUnit units group (least_machine units group n)
least-unit units [] n = inl refl
least-unit units (p ∷ group) n = by (least-unit units group (min (machine_of units p) n)) (cases_lt (machine_of units p) n)
  where
    least : ℕ
    least = least_machine units group (min (machine_of units p) n)

    by : (least_machine units group (min (machine_of units p) n) ≡ min (machine_of units p) n) ⊎ HasUnit units group (least_machine units group (min (machine_of units p) n)) → (machine_of units p < n) ⊎ (n ≤ machine_of units p) → (least_machine units (p ∷ group) n ≡ n) ⊎ HasUnit units (p ∷ group) (least_machine units (p ∷ group) n)
    by (inr h) order = inr (record { path = h.path; among = further p group h.path h.among; is = h.is })
    by (inl e) (inl lt) = inr (record { path = p; among = here p group; is = omega (arith, e, lt) })
    by (inl e) (inr le) = inl (omega (arith, e, le))

pub least-in : (units group : List (List ℕ)) (m : ℕ) → HasUnit units group m → HasUnit units group (least_machine units group m)
least-in units group m h = by (least-unit units group m)
  where
    by : (least_machine units group m ≡ m) ⊎ HasUnit units group (least_machine units group m) → HasUnit units group (least_machine units group m)
    by (inl e) = subst (HasUnit units group) (sym e) h
    by (inr k) = k

-- ---- one list

-- a list of `share` has the units of both machines
pub record AreInOneList (units : List (List ℕ)) (share : List (List (List ℕ))) (m n : ℕ) : Type 0 where
  pub group : List (List ℕ)
  pub among : Contains share group
  pub one : HasUnit units group m
  pub other : HasUnit units group n

abbrev tests : List (List ℕ) → ℕ → List (List ℕ) → Bool
tests units m group = list_any (λ path. machine_of units path == m) group

-- the lists of two machines that both have the unit of one machine are one list
lists-one : (units : List (List ℕ)) (earlier : List (List ℕ)) (share : List (List (List ℕ))) (m n least : ℕ) (g h : List (List ℕ)) → first_clash same_path earlier (entries share) ≡ None → unshared units share ≡ None → group_of units share m ≡ Some g → group_of units share n ≡ Some h → HasUnit units g least → HasUnit units h least → AreInOneList units share m n
lists-one units earlier [] m n least g h once known a b x y = absurd (cc)
lists-one units earlier (group ∷ share) m n least g h once known a b x y =
    by (tests units m group) (tests units n group) refl refl a b
    (λ e f. lists-one units (earlier ++ group) share m n least g h rest (either-none (find (λ path. not (is_among units path)) group) (unshared units share) known).1 e f x y)
  where
    rest : first_clash same_path (earlier ++ group) (entries share) ≡ None
    rest = (either-none (first_clash same_path earlier group) (first_clash same_path (earlier ++ group) (entries share)) (sym (first_clash-append same_path earlier group (entries share)) ∙ once)).1

    -- the first list and a later one have no machine in common
    clash : (k : List (List ℕ)) → Contains share k → HasUnit units group least → HasUnit units k least → ⊥
    clash k among one other =
        let same = unit-one units one.path other.path
        (entry-known units (group ∷ share) group one.path known (here group share) one.among)
        (entry-known units (group ∷ share) k other.path known (further group share k among) other.among)
        (one.is ∙ sym other.is) in
        fresh (earlier ++ group) (entries share) one.path other.path rest (Contains-append_right earlier group one.path one.among) (entries-in share k other.path among other.among) same

    by : (b c : Bool) → tests units m group ≡ b → tests units n group ≡ c → cond b (Some group) (group_of units share m) ≡ Some g → cond c (Some group) (group_of units share n) ≡ Some h → (group_of units share m ≡ Some g → group_of units share n ≡ Some h → AreInOneList units share m n) → AreInOneList units (group ∷ share) m n
    by true true t u e f later = record { group = group; among = here group share; one = has-unit units group m t; other = has-unit units group n u }
    by true false t u e f later =
        let at = find-some (tests units n) share h f in
        absurd (clash h at.0 (subst (λ l. HasUnit units l least) (sym (same_Some group g e)) x) y)
    by false true t u e f later =
        let at = find-some (tests units m) share g e in
        absurd (clash g at.0 (subst (λ l. HasUnit units l least) (sym (same_Some group h f)) y) x)
    by false false t u e f later =
        let r = later e f in
        record { group = r.group; among = further group share r.group r.among; one = r.one; other = r.other }

-- two machines with the same first machine of their host are units of one list
pub one-list : (units : List (List ℕ)) (share : List (List (List ℕ))) (m n : ℕ) → unshared units share ≡ None → first_clash same_path [] (entries share) ≡ None → m ≢ n → leader units share m ≡ leader units share n → AreInOneList units share m n
one-list units share m n known once differ same = by (group_of units share m) (group_of units share n) refl refl same
  where
    -- a machine without a list is in no list of another
    alone : (a b : ℕ) (g : List (List ℕ)) → group_of units share a ≡ None → group_of units share b ≡ Some g → a ≡ least_machine units g b → ⊥
    alone a b g e f led =
        let at = find-some (tests units b) share g f in
        let has = subst (HasUnit units g) (sym led) (least-in units g b (has-unit units g b at.1)) in
        true≢false (sym (unit-tested units g a has) ∙ find-none (tests units a) share g e at.0)

    by : (a b : Option (List (List ℕ))) → group_of units share m ≡ a → group_of units share n ≡ b → leader_in units m a ≡ leader_in units n b → AreInOneList units share m n
    by None None e f led = absurd (differ led)
    by None (Some g) e f led = absurd (alone m n g e f led)
    by (Some g) None e f led = absurd (alone n m g f e (sym led))
    by (Some g) (Some h) e f led =
        let one = least-in units g m (has-unit units g m (find-some (tests units m) share g e).1) in
        let other = least-in units h n (has-unit units h n (find-some (tests units n) share h f).1) in
        lists-one units [] share m n (least_machine units g m) g h once known e f one (subst (HasUnit units h) (sym led) other)
