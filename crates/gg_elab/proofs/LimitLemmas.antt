-- How many signals each module has of its own, and what is answered about the limits.
use Rattle.std.proofs.Common.{◌≡◌, ℕ, suc, ◌+◌, ◌<◌, List, [], ◌∷◌, length, map, get_or, Option, Some, refl, sym, ap, ◌∙◌, arith}
use Rattle.std.proofs.lemmas.List.{length-map}
use Rattle.gg_ast.specs.Tree.{ModuleTree}
use Rattle.gg_elab_sites.specs.declared.counts.Counts.{Counts}
use Rattle.gg_elab_sites.specs.declared.counts.Excess.{Excess}
use Rattle.gg_elab_sites.specs.Counts.{counts_of, first_excess}
use Rattle.gg_elab_sites.specs.Sites.{module_at}
use Rattle.gg_elab_sites.specs.declared.digest.Digest.{Digest}
use Rattle.gg_elab.specs.Limits.{own_counts, excess_over}
use Rattle.gg_elab_sites.specs.Signals.{Types, own_signals}
use Rattle.gg_elab_sites.specs.inside.Views.{own_of, AreDigests}

counted-from : (types : Types) (k : ℕ) (rest : List ModuleTree) (ds : List Digest) → length ds ≡ length rest → ((j : ℕ) (any : Digest) → j < length rest → length (get_or ds j any).signals.items ≡ length (own_signals types (k + j) (module_at rest j))) → map (λ d. length d.signals.items) ds ≡ own_counts types k rest
counted-from types k [] [] count each = refl
counted-from types k [] (d ∷ ds) count each = absurd (omega (arith, count))
counted-from types k (m ∷ ms) [] count each = absurd (omega (arith, count))
counted-from types k (m ∷ ms) (d ∷ ds) count each =
    let one : length d.signals.items ≡ length (own_signals types k m) = each 0 d (omega arith) ∙ ap (λ n. length (own_signals types n m)) (omega arith) in
    let more : map (λ (x : Digest). length x.signals.items) ds ≡ own_counts types (suc k) ms =
    counted-from types (suc k) ms ds (omega (arith, count)) (λ j any lt. each (suc j) any (omega (arith, lt)) ∙ ap (λ n. length (own_signals types n (module_at ms j))) (omega arith)) in
    λ i. one i ∷ more i

pub counted : (types : Types) (modules : List ModuleTree) (ds : List Digest) → AreDigests types modules ds → map (λ d. length d.signals.items) ds ≡ own_counts types 0 modules
counted types modules ds h =
    counted-from types 0 modules ds h.count (λ j any lt.
    sym (length-map (get_or ds j any).signals.items own_of) ∙ ap (λ l. length l) (h.each j any lt).signals ∙ ap (λ n. length (own_signals types n (module_at modules j))) (omega arith))

-- the first excess of the counts is the first excess of the circuit
pub excess-found : (types : Types) (modules : List ModuleTree) (o : Option ℕ) (top : ℕ) (own : List ℕ) (counts : Counts) (found : Option Excess) → o ≡ Some top → own ≡ own_counts types 0 modules → counts ≡ counts_of modules own top → found ≡ first_excess counts → excess_over types modules o ≡ found
excess-found types modules o top own counts found is same counts_are found_is =
    ap (excess_over types modules) is
    ∙ ap (λ l. first_excess (counts_of modules l top)) (sym same)
    ∙ ap first_excess (sym counts_are)
    ∙ sym found_is
