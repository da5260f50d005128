-- An accepted circuit has few signals: what F15 counts are the signals of its flat circuit.
use Rattle.std.proofs.Common.{◌≡◌, ◌⊎◌, inl, inr, ℕ, zero, suc, ◌+◌, ◌-◌, ◌<◌, ◌≤◌, ◌^◌, Bool, true, false, List, [], ◌∷◌, length, Option, Some, None, refl, sym, ap, ◌∙◌, arith, lit<, length-append, if◌then◌else◌}
use Rattle.std.specs.Prelude.{min, nat_lt}
use Rattle.std.specs.List.{sum_by}
use Rattle.std.proofs.lemmas.Bool.{cases_lt}
use Rattle.std.proofs.lemmas.Bool.Decides.{nat_tests}
use Rattle.std.proofs.lemmas.List.{get_or_past, length-map}
use Rattle.std.proofs.lemmas.List.Sums.{sum_by-cons}
use Rattle.gg_bits.specs.Shape.{shape}
use Rattle.gg_ast.specs.Places.{place_of}
use Rattle.gg_ast.specs.Tree.{ModuleTree, empty_module, module_at, module_names}
use Rattle.gg_elab_sites.specs.declared.counts.Counts.{Counts}
use Rattle.gg_elab_sites.specs.declared.counts.Excess.{Excess}
use Rattle.gg_elab_sites.specs.declared.counts.Measure.TheVariants as measures
use Rattle.gg_elab_sites.specs.Counts.{counts_of, excess_of, first_excess}
use Rattle.gg_elab_sites.specs.Sites.{Site, all_sites, sites_from}
use Rattle.gg_flat.specs.Circuit.{FlatCircuit}
use Rattle.gg_flat.specs.Line.{value_at}
use Rattle.gg_flat.specs.declared.piece.Signal.{Signal}
use Rattle.gg_elab_sites.specs.Flat.{FlatSignal, flat_signal, flat_signals, signals_at}
use Rattle.gg_elab_sites.specs.Known.{types_of}
use Rattle.gg_elab_sites.specs.Signals.{Types, own_signals}
use Rattle.gg_elab.specs.Limits.{excess_over, own_counts}
use Rattle.gg_front.specs.Meaning.{Means}

-- ---- what is counted

-- the count of a module at a place is that of its own signals
counted : (types : Types) (from : ℕ) (ms : List ModuleTree) (k : ℕ) → k < length ms → value_at (own_counts types from ms) k ≡ length (own_signals types (from + k) (module_at ms k))
counted types from [] k lt = absurd (omega (arith, lt))
counted types from (m ∷ ms) zero lt = ap (λ n. length (own_signals types n m)) (let same : from ≡ from + 0 = omega arith in same)
counted types from (m ∷ ms) (suc k) lt =
    counted types (suc from) ms k (omega (arith, lt)) ∙ ap (λ n. length (own_signals types n (module_at ms k))) (let same : suc from + k ≡ from + suc k = omega arith in same)

counts-all : (types : Types) (from : ℕ) (ms : List ModuleTree) → length (own_counts types from ms) ≡ length ms
counts-all types from [] = refl
counts-all types from (m ∷ ms) = ap suc (counts-all types (suc from) ms)

module _ (types : Types) (modules : List ModuleTree) where
  -- a site has as many signals as its module's count says; past the last module there are none
  at-site : (site : Site) → length (signals_at types modules site) ≡ value_at (own_counts types 0 modules) site.number
  at-site site = length-map (own_signals types site.number (module_at modules site.number)) (flat_signal modules site) ∙ by (cases_lt site.number (length modules))
    where
      by : (site.number < length modules) ⊎ (length modules ≤ site.number) → length (own_signals types site.number (module_at modules site.number)) ≡ value_at (own_counts types 0 modules) site.number
      by (inl lt) = sym (counted types 0 modules site.number lt ∙ ap (λ n. length (own_signals types n (module_at modules site.number))) (let same : 0 + site.number ≡ site.number = omega arith in same))
      by (inr ge) =
          let past : length (own_counts types 0 modules) ≤ site.number = omega (arith, ge, counts-all types 0 modules) in
          ap (λ (m : ModuleTree). length (own_signals types site.number m)) (get_or_past modules site.number (empty_module 0 []) ge) ∙ sym (get_or_past (own_counts types 0 modules) site.number 0 past)

  over-sites : (all : List Site) → length (flat_signals types modules all) ≡ sum_by (λ (s : Site). value_at (own_counts types 0 modules) s.number) all
  over-sites [] = refl
  over-sites (site ∷ all) =
      let count = λ (s : Site). value_at (own_counts types 0 modules) s.number in
      let both = length-append (signals_at types modules site) (flat_signals types modules all) in
      let one = at-site site in
      let rest = over-sites all in
      let whole = sum_by-cons count site all in
      omega (arith, both, one, rest, whole)

-- ---- the limit

-- the signals are within their limit
within : (c : Counts) → first_excess c ≡ None → c.signals ≤ 200000
within c e = go (nat_lt 32 c.depth) (nat_lt 200000 c.signals) refl _ e
  where
    go : (deep many : Bool) → nat_lt 200000 c.signals ≡ many → (rest : Option Excess) → (if deep then excess_of measures.Depth c.depth else (if many then excess_of measures.Signals c.signals else rest)) ≡ None → c.signals ≤ 200000
    go true many is rest e = absurd (cc)
    go false true is rest e = absurd (cc)
    go false false is rest e = grind (arith, nat_tests)

uncapped : (n most : ℕ) → 200000 < most → min n most ≤ 200000 → n ≤ 200000
uncapped n most lt le = omega (arith, lt, le)

few-from : (types : Types) (modules : List ModuleTree) (top : Option ℕ) → excess_over types modules top ≡ None → length (flat_signals types modules (sites_from modules top)) ≤ 200000
few-from types modules None e = omega arith
few-from types modules (Some top) e =
    let sum = sum_by (λ (s : Site). value_at (own_counts types 0 modules) s.number) (all_sites modules top) in
    let few : sum ≤ 200000 = uncapped sum (2 ^ 64 - 1) (lit< tt) (within (counts_of modules (own_counts types 0 modules) top) e) in
    let same = over-sites types modules (all_sites modules top) in
    omega (arith, few, same)

-- the bytes of a circuit's file mean a flat circuit with at most so many signals
pub few-signals : (bytes : List ℕ) (flat : FlatCircuit) → Means bytes flat → length flat.signals ≤ 200000
few-signals bytes flat means =
    let circuit = means.text.circuit in
    let all = flat_signals (types_of circuit) circuit.modules (sites_from circuit.modules (place_of circuit.name (module_names circuit))) in
    let few = few-from (types_of circuit) circuit.modules (place_of circuit.name (module_names circuit)) means.text.accepted.within in
    let shapes = ap length means.flattened.shapes in
    let own = length-map flat.signals (λ (s : Signal). shape s.ty) in
    let theirs = length-map all (λ (x : FlatSignal). x.shape) in
    omega (arith, few, shapes, own, theirs)
