-- In a circuit within the limits no site has 2^32 stops.
use Rattle.std.proofs.Common.{◌≡◌, ◌⊎◌, inl, inr, ℕ, zero, suc, ◌+◌, ◌-◌, ◌<◌, ◌≤◌, ◌^◌, Bool, true, false, List, [], ◌∷◌, length, map, Option, Some, None, refl, sym, ap, ◌∙◌, subst, arith, lit<, length-append, if◌then◌else◌}
use Rattle.std.specs.Prelude.{Contains, filter_map, flat_map, min, nat_lt}
use Rattle.std.specs.List.{sum_by}
use Rattle.std.proofs.lemmas.Bool.{cases_lt}
use Rattle.std.proofs.lemmas.Bool.Decides.{nat_tests}
use Rattle.std.proofs.lemmas.List.{get_or_past, length-map}
use Rattle.std.proofs.lemmas.List.Sums.{sum_by-cons}
use Rattle.gg_ast.specs.declared.statement.Stmt.{Stmt}
use Rattle.gg_ast.specs.Places.{place_of}
use Rattle.gg_ast.specs.Tree.{CircuitTree, ModuleTree, empty_module, module_names}
use Rattle.gg_elab_sites.specs.declared.counts.Counts.{Counts}
use Rattle.gg_elab_sites.specs.declared.counts.Excess.{Excess}
use Rattle.gg_elab_sites.specs.declared.counts.Measure.TheVariants as measures
use Rattle.gg_elab_sites.specs.Counts.{counts_of, excess_of, first_excess}
use Rattle.gg_elab_sites.specs.Sites.{Site, all_sites, module_at, sites_from, sites_of}
use Rattle.gg_flat.specs.Line.{value_at}
use Rattle.gg_flat.proofs.ListLemmas.{Contains-cases}
use Rattle.gg_elab_sites.specs.Known.{types_of}
use Rattle.gg_elab_sites.specs.Signals.{Types, own_of_kind, own_of_port, own_signals, own_stops, statement_signals, stop_signal}
use Rattle.gg_elab.specs.Limits.{excess_over, own_counts}

-- what one item adds to a sum is at most the sum
at-most-sum : {A : Type 0} (f : A → ℕ) (xs : List A) (x : A) → Contains xs x → f x ≤ sum_by f xs
at-most-sum f [] x h = absurd (omega (arith, h.1))
at-most-sum f (y ∷ ys) x h = by (Contains-cases y x ys h) (λ rest. at-most-sum f ys x rest)
  where
    by : (y ≡ x) ⊎ Contains ys x → (Contains ys x → f x ≤ sum_by f ys) → f x ≤ sum_by f (y ∷ ys)
    by (inl same) more = omega (arith, ap f same, sum_by-cons f y ys)
    by (inr rest) more = omega (arith, more rest, sum_by-cons f y ys)

counted : (types : Types) (from : ℕ) (ms : List ModuleTree) (k : ℕ) → k < length ms → value_at (own_counts types from ms) k ≡ length (own_signals types (from + k) (module_at ms k))
counted types from [] k lt = absurd (omega (arith, lt))
counted types from (m ∷ ms) zero lt = ap (λ n. length (own_signals types n m)) (let same : from ≡ from + 0 = omega arith in same)
counted types from (m ∷ ms) (suc k) lt =
    counted types (suc from) ms k (omega (arith, lt)) ∙ ap (λ n. length (own_signals types n (module_at ms k))) (let same : suc from + k ≡ from + suc k = omega arith in same)

stops-own : (types : Types) (k : ℕ) (m : ModuleTree) → length (own_stops m.statements) ≤ length (own_signals types k m)
stops-own types k m =
    let declared = flat_map (λ (s : Stmt). own_of_kind types k s.kind) m.statements in
    omega (arith, length-append (filter_map own_of_port m.ports) (statement_signals types k m.statements), length-append declared (map stop_signal (own_stops m.statements)), length-map (own_stops m.statements) stop_signal)

-- the signals are within their limit
signals-within : (c : Counts) → first_excess c ≡ None → c.signals ≤ 200000
signals-within c e = go (nat_lt 32 c.depth) (nat_lt 200000 c.signals) refl _ e
  where
    go : (deep many : Bool) → nat_lt 200000 c.signals ≡ many → (rest : Option Excess) → (if deep then excess_of measures.Depth c.depth else (if many then excess_of measures.Signals c.signals else rest)) ≡ None → c.signals ≤ 200000
    go true many is rest e = absurd (cc)
    go false true is rest e = absurd (cc)
    go false false is rest e = grind (arith, nat_tests)

uncapped : (n most : ℕ) → 200000 < most → min n most ≤ 200000 → n ≤ 200000
uncapped n most lt le = omega (arith, lt, le)

module _ (types : Types) (modules : List ModuleTree) where
  few-among : (all : List Site) → sum_by (λ (s : Site). value_at (own_counts types 0 modules) s.number) all ≤ 200000 → (site : Site) → Contains all site → length (own_stops (module_at modules site.number).statements) < 2 ^ 32
  few-among all most site h = go (cases_lt site.number (length modules))
    where
      bound : 200000 < 2 ^ 32
      bound = lit< tt

      go : (site.number < length modules) ⊎ (length modules ≤ site.number) → length (own_stops (module_at modules site.number).statements) < 2 ^ 32
      go (inl lt) =
          let one : value_at (own_counts types 0 modules) site.number ≤ sum_by (λ (s : Site). value_at (own_counts types 0 modules) s.number) all = at-most-sum (λ (s : Site). value_at (own_counts types 0 modules) s.number) all site h in
          let is = counted types 0 modules site.number lt in
          let same : 0 + site.number ≡ site.number = omega arith in
          let own : length (own_stops (module_at modules site.number).statements) ≤ length (own_signals types (0 + site.number) (module_at modules site.number)) = stops-own types (0 + site.number) (module_at modules site.number) in
          omega (arith, one, is, own, most, bound)
      go (inr ge) = subst (λ (m : ModuleTree). length (own_stops m.statements) < 2 ^ 32) (sym (get_or_past modules site.number (empty_module 0 []) ge)) (omega arith)

  few-from : (top : Option ℕ) → excess_over types modules top ≡ None → (site : Site) → Contains (sites_from modules top) site → length (own_stops (module_at modules site.number).statements) < 2 ^ 32
  few-from None e site h = absurd (omega (arith, h.1))
  few-from (Some top) e site h =
      few-among (all_sites modules top) (uncapped (sum_by (λ (s : Site). value_at (own_counts types 0 modules) s.number) (all_sites modules top)) (2 ^ 64 - 1) (lit< tt) (signals-within (counts_of modules (own_counts types 0 modules) top) e)) site h

pub few-within : (circuit : CircuitTree) → excess_over (types_of circuit) circuit.modules (place_of circuit.name (module_names circuit)) ≡ None → (site : Site) → Contains (sites_of circuit) site → length (own_stops (module_at circuit.modules site.number).statements) < 2 ^ 32
few-within circuit = few-from (types_of circuit) circuit.modules (place_of circuit.name (module_names circuit))
