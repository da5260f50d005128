-- A circuit by hand, with its sites and counts; and for some counts, the first that is above its limit:
--
--      1  circuit T :
--      2    module T :
--      3      inst m of M
--      4      inst x of Missing
--      5      mem w :
--      6        depth => 4
--      7    module M :
--      8      inst a of L
--      9      inst b of L
--     10    module L :
--     11      mem v :
--     12        depth => 65537
--     13    module U :
--     14      mem u :
--     15        depth => 70000
use Rattle.std.proofs.Common.{◌≡◌, ◌≢◌, ℕ, List, [], ◌∷◌, Some, None, codes, refl, arith}
use Rattle.std.specs.Prelude.{map, length}
use Rattle.gg_ast.specs.declared.statement.Field.{Field}
use Rattle.gg_ast.specs.declared.statement.MemoryField.TheVariants as field
use Rattle.gg_ast.specs.declared.statement.Stmt.{Stmt}
use Rattle.gg_ast.specs.declared.statement.StmtKind.{StmtKind}
use Rattle.gg_ast.specs.declared.statement.StmtKind.TheVariants as says
use Rattle.gg_ast.specs.Tree.{ModuleTree, CircuitTree}
use Rattle.gg_elab_sites.specs.declared.counts.Counts.{Counts}
use Rattle.gg_elab_sites.specs.declared.counts.Measure.TheVariants.{Depth, Signals, Memory, Words, Instances}
use Rattle.gg_elab_sites.specs.Sites.{Site, sites_of}
use Rattle.gg_elab_sites.specs.Counts.{counts_of, first_excess, excess_of}

abbrev on : ℕ → StmtKind → Stmt
on line kind = record { line = line; kind = kind }

abbrev deep : ℕ → ℕ → List Field
deep line n = record { line = line; kind = field.Depth n } ∷ []

abbrev module_of : ℕ → List ℕ → List Stmt → ModuleTree
module_of line name statements = record { line = line; name = name; ports = []; statements = statements }

abbrev modules : List ModuleTree
modules =
    module_of 2 (codes "T") (on 3 (says.Instance (codes "m") (codes "M")) ∷ on 4 (says.Instance (codes "x") (codes "Missing")) ∷ on 5 (says.Memory (codes "w") (deep 6 4)) ∷ [])
    ∷ module_of 7 (codes "M") (on 8 (says.Instance (codes "a") (codes "L")) ∷ on 9 (says.Instance (codes "b") (codes "L")) ∷ [])
    ∷ module_of 10 (codes "L") (on 11 (says.Memory (codes "v") (deep 12 65537)) ∷ [])
    ∷ module_of 13 (codes "U") (on 14 (says.Memory (codes "u") (deep 15 70000)) ∷ [])
    ∷ []

abbrev circuit : CircuitTree
circuit = record { line = 1; name = codes "T"; modules = modules }

-- ---- its sites

paths : map (λ (s : Site). s.path) (sites_of circuit) ≡ [] ∷ codes "m" ∷ codes "m.a" ∷ codes "m.b" ∷ []
paths = refl

numbers : map (λ (s : Site). s.number) (sites_of circuit) ≡ 0 ∷ 1 ∷ 2 ∷ 2 ∷ []
numbers = refl

depths : map (λ (s : Site). s.depth) (sites_of circuit) ≡ 0 ∷ 1 ∷ 2 ∷ 2 ∷ []
depths = refl

-- an instance of a module that isn't there has no site, and neither has a module that the top doesn't reach
four_sites : length (sites_of circuit) ≡ 4
four_sites = refl

-- ---- its counts, where T has 3 signals of its own, M 5 and L 7; U's memory, which the top doesn't reach, doesn't count

counted : counts_of modules (3 ∷ 5 ∷ 7 ∷ 11 ∷ []) 0 ≡ record { depth = 2; signals = 22; memory = Some 65537; words = 131078; instances = 3 }
counted = refl

-- words are counted for each site, not once for each module
not_once : (counts_of modules (3 ∷ 5 ∷ 7 ∷ 11 ∷ []) 0).words ≢ 65541
not_once e = omega (arith, e)

-- U, as a top of its own, has one site, and its own memory
other_top : counts_of modules (3 ∷ 5 ∷ 7 ∷ 11 ∷ []) 3 ≡ record { depth = 0; signals = 11; memory = Some 70000; words = 70000; instances = 0 }
other_top = refl

-- ---- limits

abbrev of : ℕ → ℕ → ℕ → ℕ → Counts
of depth signals words instances = record { depth = depth; signals = signals; memory = None; words = words; instances = instances }

just_within : first_excess (of 32 200000 1048576 1000000) ≡ None
just_within = refl

too_deep : first_excess (of 33 200001 1048577 1000001) ≡ excess_of Depth 33
too_deep = refl

too_many_signals : first_excess (of 32 262144 1048577 1000001) ≡ excess_of Signals 262144
too_many_signals = refl

deep_memory : first_excess (counts_of modules (3 ∷ 5 ∷ 7 ∷ 11 ∷ []) 0) ≡ excess_of Memory 65537
deep_memory = refl

too_many_words : first_excess (of 32 200000 1114112 1000001) ≡ excess_of Words 1114112
too_many_words = refl

too_many_instances : first_excess (of 32 0 0 8589934590) ≡ excess_of Instances 8589934590
too_many_instances = refl
