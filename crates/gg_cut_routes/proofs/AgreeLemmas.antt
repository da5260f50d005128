-- The routed channels depend on which in-channels of the hub are piped, and on nothing else of the pipes.
use Rattle.std.proofs.Common.{◌≡◌, ℕ, zero, suc, Bool, true, false, not, List, Option, Some, None, length, map, refl, ◌∙◌, ap, ap₂}
use Rattle.std.specs.Prelude.{◌&&◌, ◌||◌, ◌==◌, if◌then◌else◌, filter, is_some, option_and_then}
use Rattle.std.specs.List.{list_any}
use Rattle.std.proofs.Math.Path.{fun_ext}
use Rattle.gg_flat.specs.Circuit.{FlatCircuit}
use Rattle.gg_flat_tree.specs.Tree.{InstanceTree}
use Rattle.gg_partfile.specs.declared.request.BridgeEntry.{BridgeEntry}
use Rattle.gg_cut_plan.specs.declared.listed.Listed.{Listed}
use Rattle.gg_cut_plan.specs.declared.wires.Wire.{Wire}
use Rattle.gg_cut_plan.specs.Direct.{Hub, hub_of, is_taken, is_own, made, named_by, copied, origin_within, origin, if_plain, may_be_direct, direct_of, is_direct, kept, is_number, has_left, left_by, is_gone, route_by, route, routes}

module _ (circuit : FlatCircuit) (tree : InstanceTree) (listed : Listed) (entries : List BridgeEntry) (direct : Bool) (p q : ℕ → Bool) (agree : (s : ℕ) → is_taken (hub_of circuit tree listed p entries direct) s ≡ true → p s ≡ q s) where
  abbrev one : Hub
  one = hub_of circuit tree listed p entries direct

  abbrev other : Hub
  other = hub_of circuit tree listed q entries direct

  within-same : (n s : ℕ) → origin_within one n s ≡ origin_within other n s
  within-same zero s = refl
  within-same (suc n) s = by (is_taken one s) refl (fun_ext (within-same n))
    where
      by : (taken : Bool) → is_taken one s ≡ taken → origin_within one n ≡ origin_within other n
          → (if taken then (if p s then None else Some s) else (if is_own one s then option_and_then (origin_within one n) (copied circuit s) else None))
          ≡ (if taken then (if q s then None else Some s) else (if is_own one s then option_and_then (origin_within other n) (copied circuit s) else None))
      by true is rest = ap (λ b. if b then None else Some s) (agree s is)
      by false is rest = ap (λ (from : ℕ → Option ℕ). if is_own one s then option_and_then from (copied circuit s) else None) rest

  origins : origin one ≡ origin other
  origins = fun_ext (λ s. within-same (length circuit.signals) s)

  plain-same : (found : Option ℕ) → if_plain one found ≡ if_plain other found
  plain-same None = refl
  plain-same (Some x) = refl

  direct-same : (w : Wire) → direct_of one w ≡ direct_of other w
  direct-same w =
      ap (λ (from : ℕ → Option ℕ). if may_be_direct one w then if_plain one (option_and_then from (copied circuit w.signal)) else None) origins
      ∙ ap (λ (found : Option ℕ). if may_be_direct one w then found else None) (plain-same (option_and_then (origin other) (copied circuit w.signal)))

  directs-same : (s : ℕ) → is_direct one s ≡ is_direct other s
  directs-same s = ap (λ (from : Wire → Option ℕ). list_any (λ w. (w.signal == s) && is_some (from w)) one.base) (fun_ext direct-same)

  kept-same : kept one ≡ kept other
  kept-same =
      ap₂ (λ (from : ℕ → Option ℕ) (past : ℕ → Bool). filter (λ s. not (is_own one s && is_some (from s)) && not (past s)) (made one)) origins (fun_ext directs-same)

  left-same : (x : ℕ) → has_left one x ≡ has_left other x
  left-same x =
      ap₂ (λ (from : Wire → Option ℕ) (ends : ℕ → Option ℕ). list_any (λ w. is_number x (from w)) one.base && not (list_any (λ t. is_number x (ends t)) (named_by one (kept one)))) (fun_ext direct-same) origins
      ∙ ap (λ (stays : List ℕ). list_any (λ w. is_number x (direct_of other w)) one.base && not (list_any (λ t. is_number x (origin other t)) (named_by one stays))) kept-same

  by-same : (found : Option ℕ) → left_by one found ≡ left_by other found
  by-same None = refl
  by-same (Some x) = left-same x

  pub gone-same : (s : ℕ) → is_gone (hub_of circuit tree listed p entries direct) s ≡ is_gone (hub_of circuit tree listed q entries direct) s
  gone-same s = by-same (origin one s) ∙ ap (λ (from : ℕ → Option ℕ). left_by other (from s)) origins

  led-same : (w : Wire) (found : Option ℕ) → route_by one w found ≡ route_by other w found
  led-same w None = refl
  led-same w (Some x) = refl

  route-same : (w : Wire) → route one w ≡ route other w
  route-same w = led-same w (direct_of one w) ∙ ap (route_by other w) (direct-same w)

  pub routes-agree : routes (hub_of circuit tree listed p entries direct) ≡ routes (hub_of circuit tree listed q entries direct)
  routes-agree = ap₂ (λ (to : Wire → Wire) (leaves : ℕ → Bool). map to (filter (λ w. not (leaves w.signal)) one.base)) (fun_ext route-same) (fun_ext gone-same)
