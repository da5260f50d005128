-- The partition of a demo: all stages are units, the even ones on one host and the odd ones on another, and each channel
-- has room for one token.
-- Source: this program's own. The form is JSON (RFC 8259), and a channel is named by the path of its signal.
use Rattle.std.specs.Prelude.{ℕ, ◌+◌, ◌*◌, ◌/◌, List, ◌++◌, codes, flat_map}
use Rattle.std.specs.List.{range_with_len, join_by}
use Rattle.gg_rows.specs.CircuitText.{stage}

-- the name of a stage between two `"`
abbrev pub quoted_stage : ℕ → List ℕ
quoted_stage i = codes "\"" ++ (stage i ++ codes "\"")

-- a list of stages in brackets: this many, starting at `first`, each `step` after the one before
abbrev pub stage_list : (first step count : ℕ) → List ℕ
stage_list first step count = codes "[" ++ (join_by (λ k. quoted_stage (first + step * k)) (codes ",") (range_with_len 0 count) ++ codes "]")

-- the capacities of the channels of a stage, with a comma before each
abbrev pub stage_capacities : ℕ → List ℕ
stage_capacities i = codes ",\"" ++ (stage i ++ (codes ".a\":1,\"" ++ (stage i ++ (codes ".p\":1,\"" ++ (stage i ++ codes ".q\":1")))))

-- the capacities of all channels, in braces
abbrev pub capacities : ℕ → List ℕ
capacities size = codes "{\"x\":1,\"y\":1,\"z\":1" ++ flat_map stage_capacities (range_with_len 0 size) ++ codes "}"

-- The text of the partition of the circuit with this many stages.
abbrev pub demo_partition : (size : ℕ) → List ℕ
demo_partition size = codes "{\"units\":" ++ (stage_list 0 1 size
    ++ (codes ",\"share\":[" ++ (stage_list 0 2 ((size + 1) / 2) ++ (codes "," ++ (stage_list 1 2 (size / 2)
    ++ (codes "],\"capacity\":" ++ (capacities size ++ codes "}\n")))))))
