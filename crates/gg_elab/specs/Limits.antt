-- Which count of a circuit is above its limit, if any.
-- Source: this program's own; the counts and the limits are gg_elab_sites's.
use Rattle.std.specs.Prelude.{ℕ, suc, List, [], ◌∷◌, Option, Some, None, length}
use Rattle.gg_ast.specs.Tree.{ModuleTree}
use Rattle.gg_elab_sites.specs.declared.counts.Excess.{Excess}
use Rattle.gg_elab_sites.specs.Counts.{counts_of, first_excess}
use Rattle.gg_elab_sites.specs.Signals.{Types, own_signals}

-- the number of own signals of each of these modules; the first is at place k
abbrev pub own_counts : Types → ℕ → List ModuleTree → List ℕ
own_counts types k [] = []
own_counts types k (m ∷ ms) = length (own_signals types k m) ∷ own_counts types (suc k) ms

-- the first count above its limit, if there is a top
abbrev pub excess_over : Types → List ModuleTree → Option ℕ → Option Excess
excess_over types modules None = None
excess_over types modules (Some top) = first_excess (counts_of modules (own_counts types 0 modules) top)
