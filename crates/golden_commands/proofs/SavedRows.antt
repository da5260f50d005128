-- How far a run may be saved, and how many rows are left, by hand.
use Rattle.std.proofs.Common.{◌≡◌, ℕ, List, [], ◌∷◌, None, Some, codes, refl, arith}
use Rattle.std.specs.Prelude.{false}
use Rattle.std.specs.Fmt.{digits}
use Rattle.gg_flat.specs.Circuit.{FlatCircuit}
use Rattle.gg_flat_tree.specs.Tree.{InstanceTree}
use Rattle.gg_partfile.specs.declared.request.Request.{Request}
use Rattle.golden_commands.specs.Lines.{few_rows}
use Rattle.golden_commands.specs.Meaning.{Meaning, meaning_of}
use Rattle.golden_commands.specs.Resumed.{rest_rows}
use Rattle.golden_commands.specs.Saved.{save_limit}

-- a top with one stop, whose condition is signal 0
abbrev tree : InstanceTree
tree =
    record {
      paths = [] ∷ [];
      instances = record { parent = None; «module» = 0; first = 0; end = 1; ports = []; memories = []; clocks = Some 0 ∷ [] } ∷ [];
      memory_paths = [];
      memories = [];
      clocks = codes "clock" ∷ [];
      register_clocks = [];
      stops = record { instance = 0; signal = 0; clock = Some 0 } ∷ [];
    }

abbrev circuit : FlatCircuit
circuit = record { paths = []; signals = []; registers = []; memories = []; ins = []; outs = 0 ∷ []; clocks = 1 }

abbrev request : Request
request = record { units = []; share = []; memories = []; capacity = []; direct = false; pipe = []; clocks = []; bridges = [] }

-- of four cycles
abbrev meant : Meaning
meant = meaning_of (record { circuit = circuit; tree = tree; order = [] }) request 4 []

-- the condition in four cycles
abbrev conditions : (a b c d : ℕ) → List (List ℕ)
conditions a b c d = (a ∷ []) ∷ (b ∷ []) ∷ (c ∷ []) ∷ (d ∷ []) ∷ []

-- no stop acts
all-saved : save_limit meant (conditions 0 0 0 0) ≡ 4
all-saved = refl

-- one acts in cycle 2, which has the last row
to-stop : save_limit meant (conditions 0 0 1 0) ≡ 2
to-stop = refl

-- one acts in the last cycle
to-last : save_limit meant (conditions 0 0 0 1) ≡ 4
to-last = refl

at-first : save_limit meant (conditions 1 0 0 0) ≡ 0
at-first = refl

-- near misses: no state after a stop, and not only those before it
near-behind : save_limit meant (conditions 0 0 1 0) ≡ 3 → ⊥
near-behind e = omega (arith, e)

near-before : save_limit meant (conditions 0 0 1 0) ≡ 1 → ⊥
near-before e = omega (arith, e)

-- from cycle 1 to the stop two rows are left, from cycle 3 on one
left-to-stop : rest_rows meant 1 (conditions 0 0 1 0) ≡ 2
left-to-stop = refl

left-behind : rest_rows meant 3 (conditions 0 0 1 0) ≡ 1
left-behind = refl

left-none : rest_rows meant 4 (conditions 0 0 0 0) ≡ 0
left-none = refl

-- what is reported
told-few : (few_rows 5 4).line ≡ codes "golden: snapshot: S2 5 4\n"
unfolding digits
told-few = refl
