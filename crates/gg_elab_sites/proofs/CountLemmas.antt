-- What is counted along the graph of modules is what is counted over the sites.
use Rattle.std.proofs.Common.{◌≡◌, ◌≢◌, ℕ, zero, suc, ◌+◌, ◌-◌, ◌<◌, ◌≤◌, ◌^◌, min, max, List, [], ◌∷◌, length, get_or, drop, map, Option, Some, None, refl, sym, ap, ◌∙◌, subst, arith, true, false, true≢false, Bool, if◌then◌else◌, ◌||◌, inl, inr, ◌⊎◌, eq-eqb, replicate}
use Rattle.std.specs.Prelude.{fold, sum_by, Contains, nat_eq, nat_lt, is_some, option_map}
use Rattle.std.specs.List.{flat_map, cons_option}
use Rattle.std.proofs.lemmas.List.{length-map, length-drop, get_or-map, get_or-replicate}
use Rattle.std.proofs.lemmas.List.Sums.{sum_by-append, sum_by-cons, fold-append}
use Rattle.std.proofs.lemmas.Bool.{cases_lt, or_right}
use Rattle.std.proofs.lemmas.Bool.Decides.{nat_tests}
use Rattle.std.proofs.Math.Seq.{drop-cons}
use Rattle.gg_ast.specs.declared.statement.Stmt.{Stmt}
use Rattle.gg_ast.specs.declared.statement.StmtKind.{StmtKind}
use Rattle.gg_ast.specs.declared.statement.StmtKind.TheVariants as says
use Rattle.gg_ast.specs.Places.{place_of}
use Rattle.gg_ast.specs.Tree.{ModuleTree, names_of, empty_module}
use Rattle.gg_ast.proofs.NamePlaces.{place_of-below}
use Rattle.gg_elab_sites.specs.declared.pass.Gathering.{Gathering}
use Rattle.gg_elab_sites.specs.declared.pass.Gathering.TheVariants.{Sum, Height, Least}
use Rattle.gg_elab_sites.specs.Counts.{capped, deepest, words_in, deep_in, deep_or, deep_from, is_reached}
use Rattle.gg_elab_sites.specs.inside.Counts.{deep_place, deep_places, deep_at}
use Rattle.gg_elab_sites.specs.inside.Graph.{gathered_over, value_below}
use Rattle.gg_elab_sites.specs.Sites.{Site, Held, held, held_by, held_by_kind, held_at, module_at, site_below, sites, top_site, all_sites}
use Rattle.gg_elab_sites.proofs.PassLemmas.{numbers_of, gathered_over-same}

-- the sites of these instances of a site, each with all below it
abbrev pub sites_under : ℕ → List ModuleTree → Site → List Held → List Site
sites_under levels modules here hs = flat_map (λ h. sites levels modules (site_below here h)) hs

-- what each module has of its own, capped
abbrev pub cap : (ℕ → ℕ) → ℕ → ℕ
cap own k = capped (own k)

abbrev pub at_site : (ℕ → ℕ) → Site → ℕ
at_site own s = own s.number

-- ---- what modules have of their own may be given in two ways

held_by_kind-below : (modules : List ModuleTree) (kind : StmtKind) (h : Held) → held_by_kind modules kind ≡ Some h → h.number < length modules
held_by_kind-below modules (says.Wire name ty) h e = absurd (cc)
held_by_kind-below modules (says.Node name value) h e = absurd (cc)
held_by_kind-below modules (says.Register name ty clock reset) h e = absurd (cc)
held_by_kind-below modules (says.Instance name of_module) h e = go (place_of of_module (names_of modules)) refl e
  where
    number : Option Held → ℕ
    number None = 0
    number (Some x) = x.number

    go : (p : Option ℕ) → place_of of_module (names_of modules) ≡ p → option_map (held name) p ≡ Some h → h.number < length modules
    go None is e = absurd (cc)
    go (Some i) is e =
        let same : h.number ≡ i = ap number (sym e) in
        omega (arith, same, place_of-below of_module (names_of modules) i is, length-map modules (λ (m : ModuleTree). m.name))
held_by_kind-below modules (says.Memory name fields) h e = absurd (cc)
held_by_kind-below modules (says.Connect sink source) h e = absurd (cc)
held_by_kind-below modules (says.Invalid sink) h e = absurd (cc)
held_by_kind-below modules says.Skip h e = absurd (cc)
held_by_kind-below modules (says.Stop clock condition code label) h e = absurd (cc)
held_by_kind-below modules (says.Report word arguments label) h e = absurd (cc)

first-below : (modules : List ModuleTree) (kind : StmtKind) (o : Option Held) (rest : List Held) (t : ℕ) → held_by_kind modules kind ≡ o → ((u : ℕ) → Contains (numbers_of rest) u → u < length modules) → Contains (numbers_of (cons_option o rest)) t → t < length modules
first-below modules kind None rest t is below c = below t c
first-below modules kind (Some h) rest t is below (zero, lt, same) = subst (λ (n : ℕ). n < length modules) same (held_by_kind-below modules kind h is)
first-below modules kind (Some h) rest t is below (suc k, lt, same) = below t (k, omega (arith, lt), same)

pub held_by-below : (modules : List ModuleTree) (ss : List Stmt) (t : ℕ) → Contains (numbers_of (held_by modules ss)) t → t < length modules
held_by-below modules [] t c = absurd (omega (arith, c.1))
held_by-below modules (s ∷ ss) t c =
    first-below modules s.kind (held_by_kind modules s.kind) (held_by modules ss) t refl (held_by-below modules ss) c

-- if two functions give the same for what each module has of its own, the values with all below are the same
pub value-same : (how : Gathering) (modules : List ModuleTree) (f g : ℕ → ℕ) → ((k : ℕ) → k < length modules → f k ≡ g k) → (levels k : ℕ) → k < length modules → value_below how modules f levels k ≡ value_below how modules g levels k
value-same how modules f g same zero k lt = same k lt
value-same how modules f g same (suc levels) k lt =
    gathered_over-same how (value_below how modules f levels) (value_below how modules g levels) (f k) (held_at modules k)
    (λ t c. value-same how modules f g same levels t (held_by-below modules (module_at modules k).statements t c))
    ∙ ap (λ v. gathered_over how (value_below how modules g levels) v (held_at modules k)) (same k lt)

-- ---- sums

capped-add : (a b m : ℕ) → min (min a m + min b m) m ≡ min (a + b) m
capped-add a b m = omega arith

sum-under : (modules : List ModuleTree) (own : ℕ → ℕ) (levels : ℕ) (here : Site) → ((s : Site) → value_below Sum modules (cap own) levels s.number ≡ capped (sum_by (at_site own) (sites levels modules s))) → (a : ℕ) (hs : List Held) → gathered_over Sum (value_below Sum modules (cap own) levels) (capped a) hs ≡ capped (a + sum_by (at_site own) (sites_under levels modules here hs))
sum-under modules own levels here below a [] = ap capped (omega arith)
sum-under modules own levels here below a (h ∷ hs) =
    let one = sum_by (at_site own) (sites levels modules (site_below here h)) in
    let rest = sum_by (at_site own) (sites_under levels modules here hs) in
    ap (λ v. gathered_over Sum (value_below Sum modules (cap own) levels) (capped (capped a + v)) hs) (below (site_below here h))
    ∙ ap (λ v. gathered_over Sum (value_below Sum modules (cap own) levels) v hs) (capped-add a one (2 ^ 64 - 1))
    ∙ sum-under modules own levels here below (a + one) hs
    ∙ ap capped (omega (arith, sum_by-append (at_site own) (sites levels modules (site_below here h)) (sites_under levels modules here hs)))

-- the sum over the sites is the sum along the graph
pub sum-is : (modules : List ModuleTree) (own : ℕ → ℕ) (levels : ℕ) (here : Site) → value_below Sum modules (cap own) levels here.number ≡ capped (sum_by (at_site own) (sites levels modules here))
sum-is modules own zero here = ap capped (omega (arith, sum_by-cons (at_site own) here []))
sum-is modules own (suc levels) here =
    sum-under modules own levels here (sum-is modules own levels) (own here.number) (held_at modules here.number)
    ∙ ap capped (sym (sum_by-cons (at_site own) here (sites_under levels modules here (held_at modules here.number))))

-- ---- depths

abbrev deeper : ℕ → Site → ℕ
deeper n s = max n s.depth

abbrev no_depth : ℕ → ℕ
no_depth k = 0

-- the greatest of a and of how deep each of these instances reaches, if their parent is at depth d
abbrev depths_from : List ModuleTree → ℕ → ℕ → ℕ → List Held → ℕ
depths_from modules levels d a hs = fold (λ n h. max n (capped (suc d + value_below Height modules no_depth levels h.number))) a hs

height-step : (m acc d b x : ℕ) → max (max (min acc m) (min (d + b) m)) (min (suc d + x) m) ≡ max (min acc m) (min (d + max b (min (x + 1) m)) m)
height-step m acc d b x = omega arith

height-shift : (modules : List ModuleTree) (levels d acc b : ℕ) (hs : List Held) → depths_from modules levels d (max (capped acc) (capped (d + b))) hs ≡ max (capped acc) (capped (d + gathered_over Height (value_below Height modules no_depth levels) b hs))
height-shift modules levels d acc b [] = refl
height-shift modules levels d acc b (h ∷ hs) =
    let x = value_below Height modules no_depth levels h.number in
    ap (λ v. depths_from modules levels d v hs) (height-step (2 ^ 64 - 1) acc d b x)
    ∙ height-shift modules levels d acc (max b (capped (x + 1))) hs

height-under : (modules : List ModuleTree) (levels : ℕ) (here : Site) → ((acc : ℕ) (s : Site) → capped (fold deeper acc (sites levels modules s)) ≡ max (capped acc) (capped (s.depth + value_below Height modules no_depth levels s.number))) → (acc : ℕ) (hs : List Held) → capped (fold deeper acc (sites_under levels modules here hs)) ≡ depths_from modules levels here.depth (capped acc) hs
height-under modules levels here below acc [] = refl
height-under modules levels here below acc (h ∷ hs) =
    ap capped (fold-append deeper acc (sites levels modules (site_below here h)) (sites_under levels modules here hs))
    ∙ height-under modules levels here below (fold deeper acc (sites levels modules (site_below here h))) hs
    ∙ ap (λ v. depths_from modules levels here.depth v hs) (below acc (site_below here h))

cap_max : (m acc d : ℕ) → min (max acc d) m ≡ max (min acc m) (min (d + 0) m)
cap_max m acc d = omega arith

-- the depth of the deepest site is the depth of the given site plus the height of the graph below it
pub height-is : (modules : List ModuleTree) (levels acc : ℕ) (here : Site) → capped (fold deeper acc (sites levels modules here)) ≡ max (capped acc) (capped (here.depth + value_below Height modules no_depth levels here.number))
height-is modules zero acc here = cap_max (2 ^ 64 - 1) acc here.depth
height-is modules (suc levels) acc here =
    height-under modules levels here (height-is modules levels) (max acc here.depth) (held_at modules here.number)
    ∙ ap (λ v. depths_from modules levels here.depth v (held_at modules here.number)) (cap_max (2 ^ 64 - 1) acc here.depth)
    ∙ height-shift modules levels here.depth acc 0 (held_at modules here.number)

-- ---- the least

abbrev pub lesser : (ℕ → ℕ) → ℕ → Site → ℕ
lesser own n s = min n (own s.number)

min-assoc : (a b c : ℕ) → min (min a b) c ≡ min a (min b c)
min-assoc a b c = omega arith

least-shift : (value : ℕ → ℕ) (acc b : ℕ) (hs : List Held) → gathered_over Least value (min acc b) hs ≡ min acc (gathered_over Least value b hs)
least-shift value acc b [] = refl
least-shift value acc b (h ∷ hs) =
    ap (λ v. gathered_over Least value v hs) (min-assoc acc b (value h.number))
    ∙ least-shift value acc (min b (value h.number)) hs

least-under : (modules : List ModuleTree) (own : ℕ → ℕ) (levels : ℕ) (here : Site) → ((acc : ℕ) (s : Site) → fold (lesser own) acc (sites levels modules s) ≡ min acc (value_below Least modules own levels s.number)) → (acc : ℕ) (hs : List Held) → fold (lesser own) acc (sites_under levels modules here hs) ≡ gathered_over Least (value_below Least modules own levels) acc hs
least-under modules own levels here below acc [] = refl
least-under modules own levels here below acc (h ∷ hs) =
    fold-append (lesser own) acc (sites levels modules (site_below here h)) (sites_under levels modules here hs)
    ∙ least-under modules own levels here below (fold (lesser own) acc (sites levels modules (site_below here h))) hs
    ∙ ap (λ v. gathered_over Least (value_below Least modules own levels) v hs) (below acc (site_below here h))

-- the least over the sites is the least along the graph
pub least-is : (modules : List ModuleTree) (own : ℕ → ℕ) (levels acc : ℕ) (here : Site) → fold (lesser own) acc (sites levels modules here) ≡ min acc (value_below Least modules own levels here.number)
least-is modules own zero acc here = refl
least-is modules own (suc levels) acc here =
    least-under modules own levels here (least-is modules own levels) (min acc (own here.number)) (held_at modules here.number)
    ∙ least-shift (value_below Least modules own levels) acc (own here.number) (held_at modules here.number)

-- ---- which module has the first memory that is too deep

least-start : (own : ℕ → ℕ) (acc : ℕ) (all : List Site) → fold (lesser own) acc all ≤ acc
least-start own acc [] = omega arith
least-start own acc (s ∷ all) = omega (arith, least-start own (min acc (own s.number)) all)

least-below : (own : ℕ → ℕ) (acc : ℕ) (all : List Site) (j : ℕ) → is_reached all j ≡ true → fold (lesser own) acc all ≤ own j
least-below own acc [] j h = absurd (true≢false (sym h))
least-below own acc (s ∷ all) j h = go (nat_eq s.number j) refl h (λ r. least-below own (min acc (own s.number)) all j r)
  where
    go : (b : Bool) → nat_eq s.number j ≡ b → (b || is_reached all j) ≡ true → (is_reached all j ≡ true → fold (lesser own) (min acc (own s.number)) all ≤ own j) → fold (lesser own) (min acc (own s.number)) all ≤ own j
    go true is h later =
        let same : s.number ≡ j = grind (arith, nat_tests) in
        omega (arith, least-start own (min acc (own s.number)) all, ap own same)
    go false is h later = later h

-- the least is attained: it is what a module that is reached has of its own
record Attained (own : ℕ → ℕ) (reached : ℕ → Bool) (m : ℕ) : Type 0 where
  pub place : ℕ
  pub reaches : reached place ≡ true
  pub is : m ≡ own place

least-attained : (own : ℕ → ℕ) (acc : ℕ) (all : List Site) → (fold (lesser own) acc all ≡ acc) ⊎ Attained own (is_reached all) (fold (lesser own) acc all)
least-attained own acc [] = inl refl
least-attained own acc (s ∷ all) =
    elim (least-attained own (min acc (own s.number)) all) [
      | inl start ↦ elim (cases_lt acc (own s.number)) [
        | inl lt ↦ inl (start ∙ omega arith)
        | inr ge ↦ inr (record { place = s.number; reaches = here s.number (is_reached all s.number); is = start ∙ omega arith })
      ]
      | inr a ↦ inr (record { place = a.place; reaches = or_right (nat_eq s.number a.place) (is_reached all a.place) a.reaches; is = a.is })
    ]
  where
    here : (n : ℕ) (b : Bool) → (nat_eq n n || b) ≡ true
    here n b = ap (λ x. x || b) (eq-eqb n n refl)

-- the place of a module if it has a memory that is too deep, else a number that isn't a place
abbrev deep_number : List ModuleTree → ℕ → ℕ
deep_number modules k = deep_place k (module_at modules k).statements

deep-here : (modules : List ModuleTree) (k : ℕ) (reached : ℕ → Bool) (m : ℕ) → m < 2 ^ 64 - 1 → Attained (deep_number modules) reached m → m ≡ k → (reached k ≡ true) × (is_some (deep_in (module_at modules k).statements) ≡ true)
deep-here modules k reached m few a same = go (is_some (deep_in (module_at modules a.place).statements)) refl a.is
  where
    go : (b : Bool) → is_some (deep_in (module_at modules a.place).statements) ≡ b → m ≡ (if b then a.place else 2 ^ 64 - 1) → (reached k ≡ true) × (is_some (deep_in (module_at modules k).statements) ≡ true)
    go true is e =
        let place : a.place ≡ k = sym e ∙ same in
        (subst (λ (p : ℕ). reached p ≡ true) place a.reaches, subst (λ (p : ℕ). is_some (deep_in (module_at modules p).statements) ≡ true) place is)
    go false is e = absurd (omega (arith, e, few))

deep_at-past : (modules : List ModuleTree) (m : ℕ) → length modules ≤ m → deep_at modules m ≡ None
deep_at-past modules m le = go (nat_lt m (length modules)) refl
  where
    go : (b : Bool) → nat_lt m (length modules) ≡ b → (if b then deep_in (module_at modules m).statements else None) ≡ None
    go true is = absurd (let less : m < length modules = grind (arith, nat_tests) in omega arith)
    go false is = refl

deep_at-within : (modules : List ModuleTree) (m : ℕ) → m < length modules → deep_at modules m ≡ deep_in (module_at modules m).statements
deep_at-within modules m lt = go (nat_lt m (length modules)) refl
  where
    go : (b : Bool) → nat_lt m (length modules) ≡ b → (if b then deep_in (module_at modules m).statements else None) ≡ deep_in (module_at modules m).statements
    go true is = refl
    go false is = absurd (let more : length modules ≤ m = grind (arith, nat_tests) in omega arith)

deep-first : (modules : List ModuleTree) (reached : ℕ → Bool) (m : ℕ) → length modules < 2 ^ 32 → ((j : ℕ) → reached j ≡ true → m ≤ deep_number modules j) → ((m ≡ 2 ^ 64 - 1) ⊎ Attained (deep_number modules) reached m) → (k : ℕ) (rest : List ModuleTree) → drop k modules ≡ rest → k ≤ m → deep_from reached k rest ≡ deep_at modules m
deep-first modules reached m few low att k [] is le = sym (deep_at-past modules m (omega (arith, le, ended modules k is)))
  where
    ended : (ms : List ModuleTree) (k : ℕ) → drop k ms ≡ [] → length ms ≤ k
    ended ms k e = omega (arith, length-drop k ms, ap length e)
deep-first modules reached m few low att k (n ∷ rest) is le =
    let lt : k < length modules = omega (arith, length-drop k modules, ap length is) in
    let split : get_or modules k (empty_module 0 []) ∷ drop (suc k) modules ≡ n ∷ rest = sym (drop-cons modules k (empty_module 0 []) lt) ∙ is in
    let own : module_at modules k ≡ n = cc in
    let next : drop (suc k) modules ≡ rest = cc in
    go lt own (reached k) (deep_in n.statements) refl refl (λ more. deep-first modules reached m few low att (suc k) rest next more)
  where
    past : k < length modules → ((reached k ≡ true) → (is_some (deep_in (module_at modules k).statements) ≡ true) → ⊥) → suc k ≤ m
    past lt none = elim (cases_lt k m) [
      | inl less ↦ less
      | inr ge ↦
          let same : m ≡ k = omega (arith, ge, le) in
          absurd (elim att [
            | inl end ↦ omega (arith, end, same, lt, few)
            | inr a ↦ let h : (reached k ≡ true) × (is_some (deep_in (module_at modules k).statements) ≡ true) = deep-here modules k reached m (omega (arith, same, lt, few)) a same in none h.0 h.1
          ])
    ]

    go : k < length modules → module_at modules k ≡ n → (b : Bool) (d : Option ℕ) → reached k ≡ b → deep_in n.statements ≡ d → (suc k ≤ m → deep_from reached (suc k) rest ≡ deep_at modules m) → deep_or b d (deep_from reached (suc k) rest) ≡ deep_at modules m
    go lt own true (Some depth) r e later =
        let there : deep_in (module_at modules k).statements ≡ Some depth = ap (λ (x : ModuleTree). deep_in x.statements) own ∙ e in
        let number : deep_number modules k ≡ k = ap (λ (o : Option ℕ). if is_some o then k else 2 ^ 64 - 1) there in
        let same : m ≡ k = omega (arith, low k r, number, le) in
        sym (ap (deep_at modules) same ∙ deep_at-within modules k lt ∙ there)
    go lt own true None r e later =
        later (past lt (λ a b. true≢false (sym b ∙ ap (λ (x : ModuleTree). is_some (deep_in x.statements)) own ∙ ap is_some e)))
    go lt own false d r e later = later (past lt (λ a b. true≢false (sym a ∙ r)))

pub deep-is : (modules : List ModuleTree) (top : ℕ) → length modules < 2 ^ 32 → value_below Least modules (deep_number modules) (length modules) top ≤ 2 ^ 64 - 1 → deep_from (is_reached (all_sites modules top)) 0 modules ≡ deep_at modules (value_below Least modules (deep_number modules) (length modules) top)
deep-is modules top few small =
    let all = all_sites modules top in
    let v = value_below Least modules (deep_number modules) (length modules) top in
    let least : fold (lesser (deep_number modules)) (2 ^ 64 - 1) all ≡ v =
    least-is modules (deep_number modules) (length modules) (2 ^ 64 - 1) (top_site top) ∙ omega (arith, small) in
    deep-first modules (is_reached all) v few
    (λ j r. subst (λ (n : ℕ). n ≤ deep_number modules j) least (least-below (deep_number modules) (2 ^ 64 - 1) all j r))
    (subst (λ (n : ℕ). (n ≡ 2 ^ 64 - 1) ⊎ Attained (deep_number modules) (is_reached all) n) least (least-attained (deep_number modules) (2 ^ 64 - 1) all))
    0 modules refl (omega arith)

pub deep_places-at : (k : ℕ) (modules : List ModuleTree) (i : ℕ) → i < length modules → get_or (deep_places k modules) i 0 ≡ deep_place (k + i) (module_at modules i).statements
deep_places-at k [] i lt = absurd (omega (arith, lt))
deep_places-at k (m ∷ ms) zero lt = ap (λ n. deep_place n m.statements) (omega arith)
deep_places-at k (m ∷ ms) (suc i) lt =
    deep_places-at (suc k) ms i (omega (arith, lt)) ∙ ap (λ n. deep_place n (module_at ms i).statements) (omega arith)

-- ---- instances

ones : (all : List Site) → sum_by (at_site (λ k. 1)) all ≡ length all
ones [] = refl
ones (s ∷ all) = sum_by-cons (at_site (λ k. 1)) s all ∙ omega (arith, ones all)

pub instances-are : (modules : List ModuleTree) (top levels : ℕ) → length modules ≡ suc levels → gathered_over Sum (value_below Sum modules (λ k. 1) levels) 0 (held_at modules top) ≡ capped (length (all_sites modules top) - 1)
instances-are modules top levels e =
    sum-under modules (λ k. 1) levels (top_site top) (sum-is modules (λ k. 1) levels) 0 (held_at modules top)
    ∙ ap capped (omega (arith, ones (sites_under levels modules (top_site top) (held_at modules top)), ap (λ n. length (sites n modules (top_site top))) e))

-- ---- what the passes give

pub depth-is : (modules : List ModuleTree) (zeros : List ℕ) (top found : ℕ) → zeros ≡ replicate (length modules) 0 → top < length modules → found ≡ value_below Height modules (λ i. get_or zeros i 0) (length modules) top → found < 2 ^ 64 → found ≡ capped (deepest (all_sites modules top))
depth-is modules zeros top found z lt is small =
    let v = value_below Height modules no_depth (length modules) top in
    let same : found ≡ v =
    is ∙ value-same Height modules (λ i. get_or zeros i 0) no_depth (λ k within. ap (λ (l : List ℕ). get_or l k 0) z ∙ get_or-replicate (length modules) k 0 0 within) (length modules) top lt in
    omega (arith, same, small, height-is modules (length modules) 0 (top_site top))

pub signals-are : (modules : List ModuleTree) (own copy : List ℕ) (top found : ℕ) → copy ≡ own → ((i : ℕ) → get_or own i 0 < 2 ^ 64) → top < length modules → found ≡ value_below Sum modules (λ i. get_or copy i 0) (length modules) top → found ≡ capped (sum_by (λ (s : Site). get_or own s.number 0) (all_sites modules top))
signals-are modules own copy top found same small lt is =
    is
    ∙ value-same Sum modules (λ i. get_or copy i 0) (cap (λ i. get_or own i 0)) (λ k within. ap (λ (l : List ℕ). get_or l k 0) same ∙ omega (arith, small k)) (length modules) top lt
    ∙ sum-is modules (λ i. get_or own i 0) (length modules) (top_site top)

pub words-are : (modules : List ModuleTree) (words : List ℕ) (top found : ℕ) → words ≡ map (λ m. capped (words_in m)) modules → top < length modules → found ≡ value_below Sum modules (λ i. get_or words i 0) (length modules) top → found ≡ capped (sum_by (λ (s : Site). words_in (module_at modules s.number)) (all_sites modules top))
words-are modules words top found same lt is =
    is
    ∙ value-same Sum modules (λ i. get_or words i 0) (cap (λ i. words_in (module_at modules i))) (λ k within. ap (λ (l : List ℕ). get_or l k 0) same ∙ get_or-map (λ (m : ModuleTree). capped (words_in m)) modules k (empty_module 0 []) 0 within) (length modules) top lt
    ∙ sum-is modules (λ i. words_in (module_at modules i)) (length modules) (top_site top)

pub deep-found : (modules : List ModuleTree) (places : List ℕ) (top found : ℕ) (depth : Option ℕ) → length modules < 2 ^ 32 → places ≡ deep_places 0 modules → top < length modules → found ≡ value_below Least modules (λ i. get_or places i 0) (length modules) top → found < 2 ^ 64 → depth ≡ deep_at modules found → depth ≡ deep_from (is_reached (all_sites modules top)) 0 modules
deep-found modules places top found depth few same lt is small at =
    let v = value_below Least modules (deep_number modules) (length modules) top in
    let least : found ≡ v =
    is ∙ value-same Least modules (λ i. get_or places i 0) (deep_number modules) (λ k within. ap (λ (l : List ℕ). get_or l k 0) same ∙ deep_places-at 0 modules k within ∙ ap (λ n. deep_place n (module_at modules k).statements) (omega arith)) (length modules) top lt in
    at ∙ ap (deep_at modules) least ∙ sym (deep-is modules top few (omega (arith, least, small)))

pub length-deep_places : (k : ℕ) (modules : List ModuleTree) → length (deep_places k modules) ≡ length modules
length-deep_places k [] = refl
length-deep_places k (m ∷ ms) = ap suc (length-deep_places (suc k) ms)

pub instances-found : (modules : List ModuleTree) (ones totals : List ℕ) (top found : ℕ) → ones ≡ replicate (length modules) 1 → top < length modules → ((k levels : ℕ) → k < length modules → length modules ≤ suc levels → get_or totals k 0 ≡ value_below Sum modules (λ i. get_or ones i 0) levels k) → found ≡ gathered_over Sum (λ k. get_or totals k 0) 0 (held_at modules top) → found ≡ capped (length (all_sites modules top) - 1)
instances-found modules ones totals top found same lt values is =
    let levels = length modules - 1 in
    let e : length modules ≡ suc levels = omega arith in
    is
    ∙ gathered_over-same Sum (λ k. get_or totals k 0) (value_below Sum modules (λ k. 1) levels) 0 (held_at modules top)
    (λ t c. let within : t < length modules = held_by-below modules (module_at modules top).statements t c in
    values t levels within (omega (arith, e))
    ∙ value-same Sum modules (λ i. get_or ones i 0) (λ k. 1) (λ k inside. ap (λ (l : List ℕ). get_or l k 0) same ∙ get_or-replicate (length modules) k 1 0 inside) levels t within)
    ∙ instances-are modules top levels e
