-- Instances that hold others, and memories: worked by hand.
--
-- The top has the output `o`; its instances `u`, `v` and `w` of module Cell have each the output `o`, a memory `m` with one
-- reader `r` and one writer `s`, and an instance `in` of module Part with the output `o`; the top has an instance `x` of Part too.
use Rattle.std.proofs.Common.{◌≡◌, ℕ, ◌+◌, List, [], ◌∷◌, ◌++◌, Some, None, true, false, refl}
use Rattle.std.specs.Prelude.{codes, map}
use Rattle.gg_flat.specs.declared.memory.Latency.TheVariants.{Zero}
use Rattle.gg_flat.specs.declared.memory.Memory.{Memory}
use Rattle.gg_flat_tree.specs.declared.tree.Instance.{Instance}
use Rattle.gg_flat_tree.specs.declared.tree.MemoryInstance.{MemoryInstance}
use Rattle.gg_flat.specs.Circuit.{FlatCircuit}
use Rattle.gg_flat_tree.specs.Tree.{InstanceTree}
use Rattle.gg_flat.proofs.WorkedCircuits.{eight}
use Rattle.gg_partfile.specs.declared.request.Request.{Request}
use Rattle.gg_partfile.specs.Request.{no_request}
use Rattle.gg_cut_plan.specs.declared.fault.CutFault.TheVariants.{Doubled, UnknownMemory, Unmatched}
use Rattle.gg_cut_plan.specs.declared.listed.Listed.{Listed}
use Rattle.gg_cut_plan.specs.Listed.{listed_of, owner_of, lies}
use Rattle.gg_cut_plan.specs.Channels.{wire, wires_of, channel_names}
use Rattle.gg_cut_plan.specs.inside.Channels.{channel_signals}
use Rattle.gg_cut_plan.specs.Hosts.{host_of}
use Rattle.gg_cut_plan.specs.Fault.{fault_in}
use Rattle.gg_cut_plan.proofs.WorkedPair.{output}

-- the paths of a cell's signals, after the cell's own path
abbrev cell_paths : List ℕ → List (List ℕ)
cell_paths cell = map (λ name. cell ++ codes name) (".o" ∷ ".m.r.addr" ∷ ".m.r.en" ∷ ".m.r.data" ∷ ".m.s.addr" ∷ ".m.s.en" ∷ ".m.s.data" ∷ ".m.s.mask" ∷ ".in.o" ∷ [])

-- a cell's memory, whose fields begin at this signal
abbrev cell_memory : ℕ → Memory
cell_memory s = record { word = eight; depth = 4; latency = Zero; readers = record { addr = s; en = s + 1; word = s + 2; clock = None } ∷ []; writers = record { addr = s + 3; en = s + 4; word = s + 5; mask = s + 6; clock = None } ∷ [] }

abbrev pub circuit : FlatCircuit
circuit =
    record {
      paths = codes "o" ∷ (cell_paths (codes "u") ++ cell_paths (codes "v") ++ cell_paths (codes "w") ++ codes "x.o" ∷ []);
      signals = [];
      registers = [];
      memories = cell_memory 2 ∷ cell_memory 11 ∷ cell_memory 20 ∷ [];
      ins = [];
      outs = 0 ∷ [];
      clocks = 0;
    }

abbrev cell : ℕ → ℕ → Instance
cell s m = record { parent = Some 0; «module» = 1; first = s; end = s + 9; ports = output s ∷ []; memories = m ∷ []; clocks = [] }

abbrev inner : ℕ → ℕ → Instance
inner above s = record { parent = Some above; «module» = 2; first = s; end = s + 1; ports = output s ∷ []; memories = []; clocks = [] }

abbrev held : ℕ → ℕ → MemoryInstance
held k m = record { instance = k; memory = m; ports = codes "r" ∷ codes "s" ∷ []; clocks = [] }

abbrev pub tree : InstanceTree
tree =
    record {
      paths = [] ∷ codes "u" ∷ codes "u.in" ∷ codes "v" ∷ codes "v.in" ∷ codes "w" ∷ codes "w.in" ∷ codes "x" ∷ [];
      instances =
          record { parent = None; «module» = 0; first = 0; end = 29; ports = output 0 ∷ []; memories = []; clocks = [] }
          ∷ cell 1 0 ∷ inner 1 9 ∷ cell 10 1 ∷ inner 3 18 ∷ cell 19 2 ∷ inner 5 27 ∷ inner 0 28 ∷ [];
      memory_paths = codes "u.m" ∷ codes "v.m" ∷ codes "w.m" ∷ [];
      memories = held 1 0 ∷ held 3 1 ∷ held 5 2 ∷ [];
      clocks = [];
      register_clocks = [];
      stops = [];
    }

abbrev asks : List (List ℕ) → List (List (List ℕ)) → List (List ℕ) → Request
asks units share memories = record no_request { units = units; share = share; memories = memories; capacity = [] }

-- ---- what lies in what

inside : lies tree 2 1 ∷ lies tree 2 2 ∷ lies tree 1 2 ∷ lies tree 4 1 ∷ lies tree 6 0 ∷ lies tree 0 0 ∷ [] ≡ true ∷ true ∷ false ∷ false ∷ true ∷ true ∷ []
inside = refl

-- ---- owners

-- a unit within a cell whose memory is listed, and another cell that is a unit
abbrev nested : Listed
nested = listed_of tree (asks (codes "v" ∷ codes "u.in" ∷ []) [] (codes "v.m" ∷ codes "u.m" ∷ []))

nested-listed : nested ≡ record { units = 3 ∷ 2 ∷ []; memories = 0 ∷ 1 ∷ [] }
nested-listed = refl

-- `o`, `u.o`, `u.m.r.data`, `u.in.o`, `v.o`, `v.m.s.mask`, `v.in.o`, `w.m.r.addr`, `x.o`
nested-owners : map (owner_of circuit tree nested) (0 ∷ 1 ∷ 4 ∷ 9 ∷ 10 ∷ 17 ∷ 18 ∷ 20 ∷ 28 ∷ []) ≡ 0 ∷ 0 ∷ 3 ∷ 2 ∷ 1 ∷ 4 ∷ 1 ∷ 0 ∷ 0 ∷ []
nested-owners = refl

-- The fields of `u.m` are given by the hub, those of `v.m` by the unit `v`.
nested-wires : wires_of circuit tree nested [] ≡
    wire 10 1 0 ∷ wire 9 2 0
    ∷ wire 2 0 3 ∷ wire 3 0 3 ∷ wire 4 3 0 ∷ wire 5 0 3 ∷ wire 6 0 3 ∷ wire 7 0 3 ∷ wire 8 0 3
    ∷ wire 11 1 4 ∷ wire 12 1 4 ∷ wire 13 4 1 ∷ wire 14 1 4 ∷ wire 15 1 4 ∷ wire 16 1 4 ∷ wire 17 1 4
    ∷ wire 0 0 5 ∷ []
nested-wires = refl

nested-names : channel_names circuit (channel_signals circuit tree (listed_of tree (asks (codes "u.in" ∷ []) [] (codes "w.m" ∷ []))))
    ≡ codes "u.in.o" ∷ codes "w.m.r.addr" ∷ codes "w.m.r.en" ∷ codes "w.m.r.data" ∷ codes "w.m.s.addr" ∷ codes "w.m.s.en" ∷ codes "w.m.s.data" ∷ codes "w.m.s.mask" ∷ codes "o" ∷ []
nested-names = refl

-- ---- hosts

-- the hub, two units that share a host, a third alone, and what comes after them
two-share : map (host_of (codes "w" ∷ codes "u" ∷ codes "v" ∷ []) ((codes "v" ∷ codes "w" ∷ []) ∷ [])) (0 ∷ 1 ∷ 2 ∷ 3 ∷ 4 ∷ []) ≡ 0 ∷ 1 ∷ 2 ∷ 1 ∷ 3 ∷ []
two-share = refl

-- three share one; an empty list is no host
three-share : map (host_of (codes "x" ∷ codes "u" ∷ codes "v" ∷ codes "w" ∷ []) ([] ∷ (codes "w" ∷ codes "u" ∷ codes "v" ∷ []) ∷ [])) (0 ∷ 1 ∷ 2 ∷ 3 ∷ 4 ∷ 5 ∷ []) ≡ 0 ∷ 1 ∷ 2 ∷ 2 ∷ 2 ∷ 3 ∷ []
three-share = refl

-- ---- faults

holds-earlier : fault_in circuit tree (asks (codes "u.in" ∷ codes "v" ∷ codes "u" ∷ []) [] []) ≡ Some (Doubled (codes "u"))
holds-earlier = refl

lies-in-earlier : fault_in circuit tree (asks (codes "u" ∷ codes "v" ∷ codes "u.in" ∷ []) [] []) ≡ Some (Doubled (codes "u.in"))
lies-in-earlier = refl

-- a unit may lie beside another of the same module, at another depth
beside : fault_in circuit tree (asks (codes "u.in" ∷ codes "x" ∷ []) ((codes "x" ∷ codes "u.in" ∷ []) ∷ []) []) ≡ None
beside = refl

memory-twice : fault_in circuit tree (asks [] [] (codes "u.m" ∷ codes "v.m" ∷ codes "u.m" ∷ [])) ≡ Some (Doubled (codes "u.m"))
memory-twice = refl

an-instance : fault_in circuit tree (asks [] [] (codes "u.m" ∷ codes "u.in" ∷ [])) ≡ Some (UnknownMemory (codes "u.in"))
an-instance = refl

-- the memory of a unit that shares a host has no counterpart; the memory of a unit that shares none needs none
unmatched-one : fault_in circuit tree (asks (codes "u" ∷ codes "v" ∷ codes "w" ∷ []) ((codes "v" ∷ codes "u" ∷ []) ∷ []) (codes "w.m" ∷ codes "u.m" ∷ [])) ≡ Some (Unmatched (codes "u.m"))
unmatched-one = refl

matched : fault_in circuit tree (asks (codes "u" ∷ codes "v" ∷ codes "w" ∷ []) ((codes "v" ∷ codes "u" ∷ []) ∷ []) (codes "w.m" ∷ codes "u.m" ∷ codes "v.m" ∷ [])) ≡ None
matched = refl

-- two of three units have their memories listed
unmatched-three : fault_in circuit tree (asks (codes "u" ∷ codes "v" ∷ codes "w" ∷ []) ((codes "u" ∷ codes "v" ∷ codes "w" ∷ []) ∷ []) (codes "v.m" ∷ codes "u.m" ∷ [])) ≡ Some (Unmatched (codes "v.m"))
unmatched-three = refl

-- units that share a host need no counterpart for the memory of a cell in which they lie
within-parent : fault_in circuit tree (asks (codes "u.in" ∷ codes "v.in" ∷ []) ((codes "u.in" ∷ codes "v.in" ∷ []) ∷ []) (codes "u.m" ∷ [])) ≡ None
within-parent = refl
