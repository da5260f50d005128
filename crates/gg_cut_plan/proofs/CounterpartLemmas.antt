-- What follows a unit's path in a path; and memories without counterparts.
use Rattle.std.proofs.Common.{◌≡◌, ◌≢◌, ℕ, List, [], ◌∷◌, ◌++◌, Bool, true, false, true-eqb, eq-eqb, refl, sym, ◌∙◌, ap, ap₂, Some, None}
use Rattle.std.specs.Prelude.{Option, find, cond, not, ◌==◌, if◌then◌else◌}
use Rattle.std.specs.List.{list_any}
use Rattle.gg_cut_plan.specs.Listed.{is_among}
use Rattle.gg_cut_plan.specs.Fault.{dotted, rest_behind, lacks_counterpart, lacks_in, unmatched}
use Rattle.gg_cut_plan.proofs.ChainLemmas.{any-same}

pub behind : (unit path rest : List ℕ) → path ≡ unit ++ rest → rest_behind unit path ≡ dotted rest
behind unit path rest is = ap (rest_behind unit) is ∙ ahead unit rest
  where
    ahead : (unit rest : List ℕ) → rest_behind unit (unit ++ rest) ≡ dotted rest
    ahead [] rest = refl
    ahead (a ∷ unit) rest = ap (λ (b : Bool). if b then rest_behind unit (unit ++ rest) else None) (eq-eqb a a refl) ∙ ahead unit rest

pub not-behind : (unit path : List ℕ) → ((rest : List ℕ) → path ≢ unit ++ rest) → rest_behind unit path ≡ None
not-behind [] path lacks = absurd (lacks path refl)
not-behind (a ∷ unit) [] lacks = refl
not-behind (a ∷ unit) (b ∷ path) lacks = by (a == b) refl (λ more. not-behind unit path more)
  where
    by : (t : Bool) → (a == b) ≡ t → (((rest : List ℕ) → path ≢ unit ++ rest) → rest_behind unit path ≡ None) → (if t then rest_behind unit path else None) ≡ None
    by false e next = refl
    by true e next = next (λ rest is. lacks rest (ap₂ (λ x l. x ∷ l) (sym (true-eqb a b (sym e))) is))

find-same : (test other : List ℕ → Bool) (xs : List (List ℕ)) → ((x : List ℕ) → test x ≡ other x) → find test xs ≡ find other xs
find-same test other [] same = refl
find-same test other (x ∷ xs) same = ap₂ (λ b rest. cond b (Some x) rest) (same x) (find-same test other xs same)

-- the first memory without a counterpart can be found with any set that has the same paths
pub unmatched-same : (set memories : List (List ℕ)) (share : List (List (List ℕ))) → ((path : List ℕ) → is_among set path ≡ is_among memories path) → find (λ path. list_any (lacks_in set path) share) memories ≡ unmatched memories share
unmatched-same set memories share same =
    find-same (λ path. list_any (lacks_in set path) share) (λ path. list_any (lacks_in memories path) share) memories (λ path.
    any-same (lacks_in set path) (lacks_in memories path) share (λ group.
    any-same (λ unit. lacks_counterpart set group (rest_behind unit path)) (λ unit. lacks_counterpart memories group (rest_behind unit path)) group (λ unit. by group (rest_behind unit path))))
  where
    by : (group : List (List ℕ)) (rest : Option (List ℕ)) → lacks_counterpart set group rest ≡ lacks_counterpart memories group rest
    by group None = refl
    by group (Some rest) = any-same (λ unit. not (is_among set (unit ++ rest))) (λ unit. not (is_among memories (unit ++ rest))) group (λ unit. ap not (same (unit ++ rest)))
