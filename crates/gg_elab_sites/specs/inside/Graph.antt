-- The counts along the graph of modules, where each module's count is made from the counts of the modules that it holds.
-- Source: Knuth, The Art of Computer Programming, volume 1, section 2.3.2 (functions of the nodes of a tree).
use Rattle.std.specs.Prelude.{ℕ, zero, suc, ◌+◌, min, max, List, fold}
use Rattle.gg_ast.specs.Tree.{ModuleTree}
use Rattle.gg_elab_sites.specs.declared.pass.Gathering.{Gathering}
use Rattle.gg_elab_sites.specs.declared.pass.Gathering.TheVariants.{Sum, Height, Least}
use Rattle.gg_elab_sites.specs.Counts.{capped}
use Rattle.gg_elab_sites.specs.Sites.{Held, held_at}

-- a module's value, combined with the value of an instance that it holds
abbrev pub gathered : Gathering → ℕ → ℕ → ℕ
gathered Sum a b = capped (a + b)
gathered Height a b = max a (capped (b + 1))
gathered Least a b = min a b

-- a module's value, combined with the values of these instances, each by its module
abbrev pub gathered_over : Gathering → (ℕ → ℕ) → ℕ → List Held → ℕ
gathered_over how value own instances = fold (λ a h. gathered how a (value h.number)) own instances

-- the value of the module at place k, combined with the values of all modules below it down to this many levels
abbrev pub value_below : Gathering → List ModuleTree → (ℕ → ℕ) → ℕ → ℕ → ℕ
value_below how modules own zero k = own k
value_below how modules own (suc levels) k =
    gathered_over how (value_below how modules own levels) (own k) (held_at modules k)
