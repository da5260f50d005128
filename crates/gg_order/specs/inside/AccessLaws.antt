-- A memory that serves its accesses one by one.
-- Source: FIRRTL Specification, "Memories".
use Rattle.std.specs.Prelude.{◌≡◌, ℕ, ◌+◌, ◌<◌, List, Bool, length, slice_index_or}
use Rattle.gg_bits.specs.Shape.{shape}
use Rattle.gg_flat.specs.Memory.{Bank, IsBank}
use Rattle.gg_flat.specs.Served.{Access, after_access}
use Rattle.gg_flat.specs.inside.Served.{Brings, due_list, after_accesses}
use Rattle.gg_flat.specs.declared.memory.Memory.{Memory}

-- A memory that serves one more access then holds what that access leaves.
abbrev pub ServesOneMore : Type 0
ServesOneMore =
    (edges : List Bool) (signals : List ℕ) (memory : Memory) (bank : Bank) (j : ℕ) (any : Access)
    -- Access j is due.
    → j < length (due_list memory)
    -- After j + 1 accesses the memory holds what access j leaves of what it held after j.
    → after_accesses edges signals memory bank (j + 1)
    ≡ after_access edges signals (after_accesses edges signals memory bank j) (slice_index_or (due_list memory) j any)

-- An access leaves the counts and types of a memory as they are.
abbrev pub AccessKeepsBank : Type 0
AccessKeepsBank =
    (edges : List Bool) (signals : List ℕ) (memory : Memory) (bank : Bank) (access : Access)
    -- The memory holds as many words and read registers as it has, each of its type.
    → IsBank memory bank
    -- What the access writes, if it does, is of the type of a word.
    → Brings signals (shape memory.word) access
    -- The memory does so after the access too.
    → IsBank memory (after_access edges signals bank access)
