-- Requests for the same pipes, worked by hand: whatever else they ask for, they have one reference circuit, if they have no fault.
use Rattle.std.proofs.Common.{◌≡◌, ℕ, List, [], ◌∷◌, Bool, true, false, Some, None, refl}
use Rattle.std.specs.Prelude.{codes, length, map}
use Rattle.gg_flat.specs.declared.line.Op.TheVariants.{Ref}
use Rattle.gg_flat.specs.declared.piece.Driver.TheVariants.{MemoryWord, Computed}
use Rattle.gg_flat.specs.Circuit.{driver_at}
use Rattle.gg_flat_tree.specs.Tree.{InstanceTree}
use Rattle.gg_flat.proofs.WorkedCircuits.{eight, node}
use Rattle.gg_order.specs.Design.{Ordered}
use Rattle.gg_partfile.specs.declared.request.Request.{Request}
use Rattle.gg_partfile.specs.Request.{no_request}
use Rattle.gg_cut_plan.specs.declared.fault.CutFault.TheVariants.{UnknownPipe}
use Rattle.gg_cut_plan.specs.Fault.{first_fault}
use Rattle.gg_cut_plan.proofs.WorkedPair.{circuit, tree, input, output}
use Rattle.gg_cut_reference.specs.Made.{plan_reference, plan_seen}
use Rattle.gg_cut_reference.proofs.WorkedReference.{stored}

-- ---- two units that feed each other; signals: 0 x, 1 q, 2 a.x, 3 a.k, 4 a.p, 5 a.q, 6 b.m, 7 b.n

abbrev design : Ordered
design = record { circuit = circuit; tree = tree; order = 0 ∷ 2 ∷ 4 ∷ 6 ∷ 7 ∷ 3 ∷ 5 ∷ 1 ∷ [] }

abbrev asked : List (List ℕ) → List (List ℕ) → Bool → Request
asked units pipe direct = record no_request { units = units; pipe = pipe; direct = direct }

abbrev a_and_b : List (List ℕ)
a_and_b = codes "a" ∷ codes "b" ∷ []

abbrev b_and_a : List (List ℕ)
b_and_a = codes "b" ∷ codes "a" ∷ []

-- the units in another order, the pipes in another order, direct channels
other-order : plan_reference design (asked b_and_a (codes "b.m" ∷ codes "a.k" ∷ []) true) ≡ plan_reference design (asked a_and_b (codes "a.k" ∷ codes "b.m" ∷ []) false)
other-order = refl

-- `b` isn't a unit; its port `b.m` has no channel then, and is named as it is in both
fewer-units : plan_reference design (asked (codes "a" ∷ []) (codes "q" ∷ codes "a.k" ∷ []) false) ≡ plan_reference design (asked a_and_b (codes "a.k" ∷ codes "q" ∷ []) false)
fewer-units = refl

-- the top's own ports have channels in each cut
no-units : plan_reference design (asked [] (codes "x" ∷ codes "q" ∷ []) false) ≡ plan_reference design (asked a_and_b (codes "q" ∷ codes "x" ∷ []) true)
no-units = refl

no-faults : map (first_fault design) (asked b_and_a (codes "b.m" ∷ codes "a.k" ∷ []) true ∷ asked (codes "a" ∷ []) (codes "q" ∷ codes "a.k" ∷ []) false ∷ asked [] (codes "x" ∷ codes "q" ∷ []) false ∷ asked a_and_b (codes "q" ∷ codes "x" ∷ []) true ∷ []) ≡ None ∷ None ∷ None ∷ None ∷ []
no-faults = refl

-- Where `a` isn't a unit, `a.k` is no channel. So that request has a fault, and the one circuit has no pipe.
lacks-unit : first_fault design (asked (codes "b" ∷ []) (codes "a.k" ∷ []) false) ≡ Some (UnknownPipe (codes "a.k"))
lacks-unit = refl

lacks-pipe : map (λ units. length (plan_reference design (asked units (codes "a.k" ∷ []) false)).signals) ((codes "b" ∷ []) ∷ (codes "a" ∷ []) ∷ a_and_b ∷ []) ≡ 8 ∷ 9 ∷ 9 ∷ []
lacks-pipe = refl

-- A channel that its hub takes and gives on: `b.n` is piped, and the hub's copy of it, `a.k`, names the pipe, if `a` is a unit or not.
copies-pipe : map (λ units. driver_at (plan_reference design (asked units (codes "b.n" ∷ []) false)) 3) ((codes "b" ∷ []) ∷ a_and_b ∷ []) ≡ Computed (node eight (Ref 8) ∷ []) ∷ Computed (node eight (Ref 8) ∷ []) ∷ []
copies-pipe = refl

-- an input's pipe is seen within the instance only, and an output's just outside of it only: `a.k` in `a`, `b.n` in the hub
seen : map (λ m. plan_seen design (asked a_and_b (codes "a.k" ∷ codes "b.n" ∷ []) false) m 3) (0 ∷ 1 ∷ 2 ∷ []) ≡ 3 ∷ 8 ∷ 3 ∷ []
seen = refl

seen-out : map (λ m. plan_seen design (asked a_and_b (codes "a.k" ∷ codes "b.n" ∷ []) false) m 7) (0 ∷ 1 ∷ 2 ∷ []) ≡ 9 ∷ 7 ∷ 7 ∷ []
seen-out = refl

-- ---- a memory; signals: 0 x, 1 m.r.addr, 2 m.r.en, 3 m.r.data, 4 y

abbrev stored_tree : InstanceTree
stored_tree =
    record {
      paths = [] ∷ [];
      instances = record { parent = None; «module» = 0; first = 0; end = 5; ports = input 0 ∷ output 4 ∷ []; memories = 0 ∷ []; clocks = [] } ∷ [];
      memory_paths = codes "m" ∷ [];
      memories = record { instance = 0; memory = 0; ports = codes "r" ∷ []; clocks = [] } ∷ [];
      clocks = [];
      register_clocks = [];
      stops = [];
    }

abbrev stored_design : Ordered
stored_design = record { circuit = stored; tree = stored_tree; order = 0 ∷ 1 ∷ 2 ∷ 3 ∷ 4 ∷ [] }

abbrev listing : List (List ℕ) → List (List ℕ) → Request
listing memories pipe = record no_request { memories = memories; pipe = pipe }

-- listed or not
memory-or-not : plan_reference stored_design (listing [] (codes "y" ∷ codes "x" ∷ [])) ≡ plan_reference stored_design (listing (codes "m" ∷ []) (codes "x" ∷ codes "y" ∷ []))
memory-or-not = refl

memory-faults : map (first_fault stored_design) (listing [] (codes "y" ∷ codes "x" ∷ []) ∷ listing (codes "m" ∷ []) (codes "x" ∷ codes "y" ∷ []) ∷ []) ≡ None ∷ None ∷ []
memory-faults = refl

-- its fields are channels only if it is listed
lacks-memory : first_fault stored_design (listing [] (codes "m.r.addr" ∷ [])) ≡ Some (UnknownPipe (codes "m.r.addr"))
lacks-memory = refl

address-piped : map (λ memories. driver_at (plan_reference stored_design (listing memories (codes "m.r.addr" ∷ []))) 3) ((codes "m" ∷ []) ∷ [] ∷ []) ≡ MemoryWord 0 0 5 2 ∷ MemoryWord 0 0 1 2 ∷ []
address-piped = refl
