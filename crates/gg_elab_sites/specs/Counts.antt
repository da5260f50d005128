-- What is counted over the sites of a circuit, and the limits.
-- Source: FIRRTL Specification, "Instances", "Memories" (depth). The limits are this program's. A count saturates at
-- 2^64 - 1.
use Rattle.std.specs.Prelude.{ℕ, suc, ◌-◌, ◌^◌, min, max, Bool, true, false, List, [], ◌∷◌, Option, Some, None, length, fold, slice_index_or, nat_lt, nat_eq, if◌then◌else◌}
use Rattle.std.specs.List.{sum_by, list_any}
use Rattle.gg_types.specs.Fields.{depth_said}
use Rattle.gg_ast.specs.declared.statement.Field.{Field}
use Rattle.gg_ast.specs.declared.statement.Stmt.{Stmt}
use Rattle.gg_ast.specs.declared.statement.StmtKind.{StmtKind}
use Rattle.gg_ast.specs.declared.statement.StmtKind.TheVariants as says
use Rattle.gg_ast.specs.Tree.{ModuleTree}
use Rattle.gg_elab_sites.specs.declared.counts.Counts.{Counts}
use Rattle.gg_elab_sites.specs.declared.counts.Excess.{Excess}
use Rattle.gg_elab_sites.specs.declared.counts.Measure.{Measure}
use Rattle.gg_elab_sites.specs.declared.counts.Measure.TheVariants.{Depth, Signals, Memory, Words, Instances}
use Rattle.gg_elab_sites.specs.Sites.{Site, module_at, all_sites}

-- a count, which saturates at the greatest value of its type
abbrev pub capped : ℕ → ℕ
capped n = min n (2 ^ 64 - 1)

-- ---- memories

-- the first value, if there is one, otherwise the second
abbrev pub first_of : Option ℕ → ℕ → ℕ
first_of None other = other
first_of (Some n) other = n

-- a memory's depth: of the first field that has one; 0 if none has
abbrev pub depth_of_fields : List Field → ℕ
depth_of_fields [] = 0
depth_of_fields (f ∷ fs) = first_of (depth_said f.kind) (depth_of_fields fs)

-- the words of a statement: a memory's depth
abbrev pub words_of_kind : StmtKind → ℕ
words_of_kind (says.Wire name ty) = 0
words_of_kind (says.Node name value) = 0
words_of_kind (says.Register name ty clock reset) = 0
words_of_kind (says.Instance name of_module) = 0
words_of_kind (says.Memory name fields) = depth_of_fields fields
words_of_kind (says.Connect sink source) = 0
words_of_kind (says.Invalid sink) = 0
words_of_kind says.Skip = 0
words_of_kind (says.Stop clock condition code label) = 0
words_of_kind (says.Report word arguments label) = 0

-- the words of a module's own memories
abbrev pub words_in : ModuleTree → ℕ
words_in m = sum_by (λ (s : Stmt). words_of_kind s.kind) m.statements

-- the depth of the first memory that has more than 65,536 words
abbrev pub deep_in : List Stmt → Option ℕ
deep_in [] = None
deep_in (s ∷ ss) = if nat_lt 65536 (words_of_kind s.kind) then Some (words_of_kind s.kind) else deep_in ss

-- the depth if the module is reached and there is one, otherwise what follows
abbrev pub deep_or : Bool → Option ℕ → Option ℕ → Option ℕ
deep_or true (Some depth) later = Some depth
deep_or true None later = later
deep_or false depth later = later

-- the depth of the first memory that is too deep in a reached module; the first of these modules is at place k
abbrev pub deep_from : (ℕ → Bool) → ℕ → List ModuleTree → Option ℕ
deep_from reached k [] = None
deep_from reached k (m ∷ ms) = deep_or (reached k) (deep_in m.statements) (deep_from reached (suc k) ms)

-- ---- counts over sites

-- one of the sites is of the module at place k
abbrev pub is_reached : List Site → ℕ → Bool
is_reached all k = list_any (λ s. nat_eq s.number k) all

-- the depth of the deepest site
abbrev pub deepest : List Site → ℕ
deepest all = fold (λ n s. max n s.depth) 0 all

-- The counts over these sites, where `own` has the number of each module's own signals: the depth of the deepest
-- site, the signals, the depth of the first memory in the text that is too deep, the words, and the instances, which
-- are all sites but the top.
abbrev pub counts_over : List ModuleTree → List ℕ → List Site → Counts
counts_over modules own all =
    record {
      depth = capped (deepest all);
      signals = capped (sum_by (λ s. slice_index_or own s.number 0) all);
      memory = deep_from (is_reached all) 0 modules;
      words = capped (sum_by (λ s. words_in (module_at modules s.number)) all);
      instances = capped (length all - 1);
    }

-- the counts of the module at a place as the top
abbrev pub counts_of : List ModuleTree → List ℕ → ℕ → Counts
counts_of modules own k = counts_over modules own (all_sites modules k)

-- ---- limits

-- this count of this measure, as one that is above its limit
abbrev pub excess_of : Measure → ℕ → Option Excess
excess_of measure count = Some (record { measure = measure; count = count })

-- a memory that is too deep, otherwise what follows
abbrev pub memory_or : Option ℕ → Option Excess → Option Excess
memory_or None other = other
memory_or (Some depth) other = excess_of Memory depth

-- the first count above its limit: 32, 200,000, 65,536, 1,048,576 and 1,000,000
abbrev pub first_excess : Counts → Option Excess
first_excess c =
    if nat_lt 32 c.depth then excess_of Depth c.depth
    else (if nat_lt 200000 c.signals then excess_of Signals c.signals
    else memory_or c.memory
    (if nat_lt 1048576 c.words then excess_of Words c.words
    else (if nat_lt 1000000 c.instances then excess_of Instances c.instances else None)))
