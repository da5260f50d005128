-- The steps of a machine: when each may be done, and how it changes the machine.
-- Source: MEMOCODE 2009 (a node takes a token for each input, gives one for each output when what it needs is there,
-- and finishes the cycle when it has done both); ICCAD 2019 for memories that are served port by port.
use Rattle.std.specs.Prelude.{◌≡◌, ℕ, suc, ◌++◌, List, [], ◌∷◌, Option, Some, None, true, false, IsSome, All, length, drop, replicate, slice_set, slice_get, nat_lt, if◌then◌else◌}
use Rattle.gg_flat.specs.State.{State}
use Rattle.gg_flat.specs.Served.{Access, ByReader, ByWriter}
use Rattle.gg_node.specs.Machine.{Behaviour, RunsPiece, GivesColumn, KeepsLast, Port, Machine, edges_of, latch_at, latched_value}
use Rattle.gg_node.specs.Token.{accessed}

-- ---- how each step changes the machine

-- the machine with a token in the latch of an in
abbrev pub with_latch : Machine → ℕ → ℕ → Machine
with_latch machine i value = record machine { latches = slice_set machine.latches i (Some value) }

-- the machine with the flag of an out set
abbrev pub with_flag : Machine → ℕ → Machine
with_flag machine o = record machine { flags = slice_set machine.flags o true }

-- the machine after one more access
abbrev pub with_served : Machine → Machine
with_served machine = record machine { state = accessed (edges_of machine) machine.latches machine.state (slice_get machine.ports machine.served); served = suc machine.served }

-- these values with one more; if there are `rows` already, without the oldest
abbrev pub kept_with : ℕ → List ℕ → ℕ → List ℕ
kept_with rows kept value = if nat_lt (length kept) rows then kept ++ value ∷ [] else drop 1 kept ++ value ∷ []

-- the values kept after a cycle; a machine that keeps values adds the token of its only in
abbrev pub kept_after : Behaviour → List (Option ℕ) → List ℕ → List ℕ
kept_after (RunsPiece piece) latches kept = kept
kept_after (GivesColumn column) latches kept = kept
kept_after (KeepsLast rows) latches kept = kept_with rows kept (latched_value (latch_at latches 0))

-- the machine in its next cycle, with this state, all latches empty and all flags clear
abbrev pub finished : Machine → State → Machine
finished machine next =
    record machine {
      cycle = suc machine.cycle;
      state = next;
      served = 0;
      latches = replicate (length machine.latches) None;
      flags = replicate (length machine.flags) false;
      kept = kept_after machine.behaviour machine.latches machine.kept;
    }

-- ---- when each step may be done

-- all outs have given their tokens
abbrev pub AllFired : Machine → Type 0
AllFired machine = All (λ flag. flag ≡ true) machine.flags

-- the ins that an access uses
abbrev pub fields_of : Access → List ℕ
fields_of (ByReader r reader) = reader.addr ∷ reader.en ∷ []
fields_of (ByWriter w writer) = writer.addr ∷ writer.en ∷ writer.word ∷ writer.mask ∷ []

-- each in that a port uses has its token
abbrev pub HasFields : List (Option ℕ) → Port → Type 0
HasFields latches port = All (λ i. IsSome (latch_at latches i)) (fields_of port.access)
