-- The trays of a plan are found.
use Rattle.std.proofs.Common.{◌≡◌, ◌∙◌, ℕ, zero, suc, ◌+◌, ◌-◌, ◌<◌, ◌≤◌, List, [], ◌∷◌, Bool, true, false, length, get_or, refl, ap, arith}
use Rattle.std.specs.Prelude.{cond, drop}
use Rattle.std.specs.List.{prefix_len}
use Rattle.std.proofs.lemmas.List.{drop_all, get_or-drop, length-drop}
use Rattle.gg_order.specs.Design.{Ordered}
use Rattle.gg_partfile.specs.declared.request.Request.{Request}
use Rattle.gg_cut_plan.specs.Bridges.{Models}
use Rattle.gg_cut_plan.specs.Direct.{Hub, plan_hub}
use Rattle.gg_cut_plan.specs.Listed.{listed_of}
use Rattle.gg_cut_plan.specs.Machines.{first_source}
use Rattle.gg_cut_plan.specs.Plan.{IsBody, IsPlan}
use Rattle.gg_cut_plan.specs.Ports.{first_bridge, first_kept_tray, open_ins, plan_bridges}
use Rattle.gg_cut_plan.specs.declared.listed.Listed.{Listed}
use Rattle.gg_cut_plan.specs.declared.plan.Body.{Body}
use Rattle.gg_cut_plan.specs.declared.plan.Body.TheVariants.{Cut, Memory, Source, Tray, Bridge}
use Rattle.gg_cut_plan.specs.declared.plan.Plan.{Plan}
use Rattle.gg_cut_reference.proofs.FittingLemmas.OpenLemmas.{ins-count}
use Rattle.gg_rows.specs.inside.Trays.{body_is_inner, body_is_tray, is_inner, is_tray}

-- ---- how many items at the front pass a test

pub front-len : {A : Type 0} (test : A → Bool) (n : ℕ) (xs : List A) → n ≤ length xs → ((m : ℕ) (any : A) → m < n → test (get_or xs m any) ≡ true) → ((any : A) → n < length xs → test (get_or xs n any) ≡ false) → prefix_len test xs ≡ n
front-len test n [] le passes ends = omega (arith, le)
front-len test zero (x ∷ xs) le passes ends = ap (λ (t : Bool). cond t (1 + prefix_len test xs) 0) (ends x (omega arith))
front-len test (suc n) (x ∷ xs) le passes ends =
    ap (λ (t : Bool). cond t (1 + prefix_len test xs) 0) (passes 0 x (omega arith))
    ∙ ap (λ k. 1 + k) (front-len test n xs (omega (arith, le)) (λ m any lt. passes (suc m) any (omega (arith, lt))) (λ any lt. ends any (omega (arith, lt))))
    ∙ (let same : 1 + n ≡ suc n = omega arith in same)

-- the next item passes, or doesn't, or there is none
pub len-more : {A : Type 0} (test : A → Bool) (n : ℕ) (xs : List A) (x : A) → n < length xs → get_or xs n x ≡ x → test x ≡ true → prefix_len test (drop n xs) ≡ 1 + prefix_len test (drop (suc n) xs)
len-more test n [] x lt is passes = absurd (omega (arith, lt))
len-more test zero (y ∷ xs) x lt is passes = ap (λ (t : Bool). cond t (1 + prefix_len test xs) 0) (ap test is ∙ passes)
len-more test (suc n) (y ∷ xs) x lt is passes = len-more test n xs x (omega (arith, lt)) is passes

pub len-ends : {A : Type 0} (test : A → Bool) (n : ℕ) (xs : List A) (x : A) → n < length xs → get_or xs n x ≡ x → test x ≡ false → prefix_len test (drop n xs) ≡ 0
len-ends test n [] x lt is fails = absurd (omega (arith, lt))
len-ends test zero (y ∷ xs) x lt is fails = ap (λ (t : Bool). cond t (1 + prefix_len test xs) 0) (ap test is ∙ fails)
len-ends test (suc n) (y ∷ xs) x lt is fails = len-ends test n xs x (omega (arith, lt)) is fails

pub len-none : {A : Type 0} (test : A → Bool) (n : ℕ) (xs : List A) → length xs ≤ n → prefix_len test (drop n xs) ≡ 0
len-none test n xs le = ap (prefix_len test) (drop_all n xs le)

-- ---- those of a plan

-- the trays begin behind the sources
pub trays-begin : (design : Ordered) (request : Request) → first_kept_tray (plan_bridges design.circuit design.tree request) ≡ first_source (listed_of design.tree request) + length (open_ins design.circuit request)
trays-begin design request = ap (λ n. first_source (listed_of design.tree request) + n) (ins-count design.circuit design.tree request)

module _ (design : Ordered) (request : Request) (models : Models) (listed : Listed) (hub : Hub) (same : listed ≡ listed_of design.tree request) where
  -- what machine m is, by its number
  inner-below : (m : ℕ) (body : Body) → m < first_kept_tray (plan_bridges design.circuit design.tree request) → IsBody design request models listed hub m body → body_is_inner body ≡ true
  inner-below m (Cut part) lt is = refl
  inner-below m (Memory part) lt is = refl
  inner-below m (Source place) lt is = refl
  inner-below m Tray lt is = absurd (omega (arith, lt, is.0))
  inner-below m (Bridge bridge) lt is = absurd (omega (arith, lt, is.0))

  inner-behind : (m : ℕ) (body : Body) → first_kept_tray (plan_bridges design.circuit design.tree request) ≤ m → IsBody design request models listed hub m body → body_is_inner body ≡ false
  inner-behind m (Cut part) le is = absurd (omega (arith, le, trays-begin design request, is.0, ap (λ (l : Listed). first_source l) same))
  inner-behind m (Memory part) le is = absurd (omega (arith, le, trays-begin design request, is.1, ap (λ (l : Listed). first_source l) same))
  inner-behind m (Source place) le is = absurd (omega (arith, le, trays-begin design request, is.0, is.1, ap (λ (l : Listed). first_source l) same))
  inner-behind m Tray le is = refl
  inner-behind m (Bridge bridge) le is = refl

  tray-within : (m : ℕ) (body : Body) → first_kept_tray (plan_bridges design.circuit design.tree request) ≤ m → m < first_bridge (plan_bridges design.circuit design.tree request) → IsBody design request models listed hub m body → body_is_tray body ≡ true
  tray-within m (Cut part) le lt is = absurd (omega (arith, le, trays-begin design request, is.0, ap (λ (l : Listed). first_source l) same))
  tray-within m (Memory part) le lt is = absurd (omega (arith, le, trays-begin design request, is.1, ap (λ (l : Listed). first_source l) same))
  tray-within m (Source place) le lt is = absurd (omega (arith, le, trays-begin design request, is.0, is.1, ap (λ (l : Listed). first_source l) same))
  tray-within m Tray le lt is = refl
  tray-within m (Bridge bridge) le lt is = absurd (omega (arith, lt, is.0))

  tray-below : (m : ℕ) (body : Body) → m < first_kept_tray (plan_bridges design.circuit design.tree request) → IsBody design request models listed hub m body → body_is_tray body ≡ false
  tray-below m (Cut part) lt is = refl
  tray-below m (Memory part) lt is = refl
  tray-below m (Source place) lt is = refl
  tray-below m Tray lt is = absurd (omega (arith, lt, is.0))
  tray-below m (Bridge bridge) lt is = refl

  tray-behind : (m : ℕ) (body : Body) → first_bridge (plan_bridges design.circuit design.tree request) ≤ m → IsBody design request models listed hub m body → body_is_tray body ≡ false
  tray-behind m (Cut part) le is = refl
  tray-behind m (Memory part) le is = refl
  tray-behind m (Source place) le is = refl
  tray-behind m Tray le is = absurd (omega (arith, le, is.1))
  tray-behind m (Bridge bridge) le is = refl

module _ (design : Ordered) (request : Request) (models : Models) (default : ℕ) (plan : Plan) (is : IsPlan design request models default plan) where
  abbrev listed : Listed
  listed = listed_of design.tree request

  abbrev hub : Hub
  hub = plan_hub design.circuit design.tree request

  total : first_bridge (plan_bridges design.circuit design.tree request) ≤ length plan.machines
  total = omega (arith, is.machine_total)

  pub inner-count : prefix_len is_inner plan.machines ≡ first_kept_tray (plan_bridges design.circuit design.tree request)
  inner-count =
      front-len is_inner (first_kept_tray (plan_bridges design.circuit design.tree request)) plan.machines (omega (arith, total))
      (λ m any lt. inner-below design request models listed hub refl m (get_or plan.machines m any).body lt (is.machine m any (omega (arith, lt, total))).body)
      (λ any lt.
      let m = first_kept_tray (plan_bridges design.circuit design.tree request) in
      inner-behind design request models listed hub refl m (get_or plan.machines m any).body (omega arith) (is.machine m any lt).body)

  pub tray-count : (first : ℕ) → first ≡ first_kept_tray (plan_bridges design.circuit design.tree request) → prefix_len is_tray (drop first plan.machines) ≡ first_bridge (plan_bridges design.circuit design.tree request) - first_kept_tray (plan_bridges design.circuit design.tree request)
  tray-count first same =
      let b = plan_bridges design.circuit design.tree request in
      let long = length-drop first plan.machines in
      front-len is_tray (first_bridge b - first_kept_tray b) (drop first plan.machines) (omega (arith, total, long, same))
      (λ m any lt.
      ap is_tray (get_or-drop first plan.machines m any)
      ∙ tray-within design request models listed hub refl (first + m) (get_or plan.machines (first + m) any).body (omega (arith, same)) (omega (arith, same, lt)) (is.machine (first + m) any (omega (arith, lt, same, total))).body)
      (λ any lt.
      let m = first_bridge b - first_kept_tray b in
      ap is_tray (get_or-drop first plan.machines m any)
      ∙ tray-behind design request models listed hub refl (first + m) (get_or plan.machines (first + m) any).body (omega (arith, same)) (is.machine (first + m) any (omega (arith, lt, long))).body)
