-- A listed memory with two readers and two writers, with its plan in full.
--
-- The top has the inputs `a` and `v`, the outputs `o0` and `o1` and a memory `m` of latency 0 with the readers `r` and `s` and the
-- writers `w` and `x`; its signals are those of gg_flat's WorkedMemories, with paths in full.
use Rattle.std.proofs.Common.{◌≡◌, false, ◌≢◌, ℕ, ◌<◌, List, [], ◌∷◌, None, set, refl, arith, lit<, lit≤}
use Rattle.std.specs.Prelude.{codes, slice_index_or, Contains, ◌↔◌}
use Rattle.gg_bits.specs.declared.ops.Op1.TheVariants.{Not}
use Rattle.gg_bits.specs.declared.ops.OpN.TheVariants.{Bits}
use Rattle.gg_flat.specs.declared.line.Op.TheVariants.{Ref, Literal, One, Fix}
use Rattle.gg_flat.specs.declared.memory.Latency.TheVariants.{Zero}
use Rattle.gg_flat.specs.declared.piece.Driver.TheVariants.{Input, MemoryWord, Computed}
use Rattle.gg_flat.specs.Circuit.{FlatCircuit, driver_at, reader_at, readers_at}
use Rattle.gg_flat.specs.Memory.{WritesAmong}
use Rattle.gg_flat_tree.specs.Scoped.{writers_at}
use Rattle.gg_flat.specs.WellFormed.{IsClock}
use Rattle.gg_flat_tree.specs.Tree.{InstanceTree, memory_at}
use Rattle.gg_flat.proofs.WorkedCircuits.{one, eight, node, value}
use Rattle.gg_flat.proofs.WorkedMemories.{two, high, signal, copy, ports, ports_order}
use Rattle.gg_flat.proofs.WorkedForms.{only, both}
use Rattle.gg_order.specs.Design.{Ordered}
use Rattle.gg_part.specs.Part.{IsPart, IsMemoryFrom}
use Rattle.gg_part.specs.inside.Part.{ReadsAmong}
use Rattle.gg_part.specs.declared.part.Part.{Part}
use Rattle.gg_bits.specs.declared.types.Ty.{Ty}
use Rattle.gg_partfile.specs.declared.request.Request.{Request}
use Rattle.gg_partfile.specs.Request.{no_request}
use Rattle.gg_cut_plan.specs.declared.plan.Body.TheVariants.{Cut, Memory, Source, Tray}
use Rattle.gg_cut_plan.specs.declared.plan.Machine.{Machine}
use Rattle.gg_cut_plan.specs.declared.plan.Channel.{Channel}
use Rattle.gg_cut_plan.specs.declared.plan.Plan.{Plan}
use Rattle.gg_cut_plan.specs.declared.listed.Listed.{Listed}
use Rattle.gg_cut_plan.specs.declared.wires.Wire.{Wire}
use Rattle.gg_cut_plan.specs.Direct.{Hub, plan_hub}
use Rattle.gg_cut_plan.specs.Listed.{listed_of, memory_owner}
use Rattle.gg_cut_plan.specs.Channels.{wires_of, capacity_of}
use Rattle.gg_cut_plan.specs.Plan.{IsPlan, IsMachine, IsChannel, IsCutPart, HasMemory, wire_at}
use Rattle.gg_cut_plan.proofs.WorkedPair.{input, output}
use Rattle.gg_cut.proofs.WorkedTests.{each-below, ascending, names-below, has-needs, extra-need, lacks-need}
use Rattle.gg_cut.proofs.WorkedHosts.{unshared}
use Rattle.gg_cut.proofs.WorkedParts.{is-part, is-part-with, is-cut-part}

abbrev pub circuit : FlatCircuit
circuit =
    record ports {
      paths =
          codes "a" ∷ codes "v" ∷ codes "o0" ∷ codes "o1" ∷ codes "m.r.addr" ∷ codes "m.r.en"
          ∷ codes "m.r.data" ∷ codes "m.s.addr" ∷ codes "m.s.en" ∷ codes "m.s.data" ∷ codes "m.w.addr" ∷ codes "m.w.en"
          ∷ codes "m.w.data" ∷ codes "m.w.mask" ∷ codes "m.x.addr" ∷ codes "m.x.en" ∷ codes "m.x.data" ∷ codes "m.x.mask" ∷ [];
    }

abbrev pub tree : InstanceTree
tree =
    record {
      paths = [] ∷ [];
      instances = record { parent = None; «module» = 0; first = 0; end = 18; ports = input 0 ∷ input 1 ∷ output 2 ∷ output 3 ∷ []; memories = 0 ∷ []; clocks = [] } ∷ [];
      memory_paths = codes "m" ∷ [];
      memories = record { instance = 0; memory = 0; ports = codes "r" ∷ codes "s" ∷ codes "w" ∷ codes "x" ∷ []; clocks = [] } ∷ [];
      clocks = [];
      register_clocks = [];
      stops = [];
    }

abbrev pub design : Ordered
design = record { circuit = circuit; tree = tree; order = ports_order }

abbrev pub request : Request
request = record no_request { units = []; share = []; memories = codes "m" ∷ []; capacity = [] }

abbrev pub listed : Listed
listed = listed_of tree request

-- the hub is machine 0, `m` is 1, the sources of `a` and `v` are 2 and 3, the trays of `o0` and `o1` are 4 and 5
abbrev pub wires : List Wire
wires = wires_of circuit tree listed []

abbrev pub routed : Hub
routed = plan_hub circuit tree request

-- ---- the parts

-- all signals, in their order; the data of the readers come from `m`
abbrev pub hub : Part
hub =
    record {
      piece =
          record {
            paths = codes "a" ∷ codes "v" ∷ codes "m.r.addr" ∷ codes "m.r.en" ∷ codes "m.r.data" ∷ codes "m.s.addr"
                ∷ codes "m.s.en" ∷ codes "m.s.data" ∷ codes "m.w.addr" ∷ codes "m.w.en" ∷ codes "m.w.data" ∷ codes "m.w.mask"
                ∷ codes "m.x.addr" ∷ codes "m.x.en" ∷ codes "m.x.data" ∷ codes "m.x.mask" ∷ codes "o0" ∷ codes "o1" ∷ [];
            signals =
                signal two (Input 0) ∷ signal eight (Input 1) ∷ copy two 0 ∷ high
                ∷ signal eight (Input 2) ∷ copy two 0 ∷ signal one (Computed (node eight (Ref 1) ∷ node one (Fix Bits 0 0 0) ∷ [])) ∷ signal eight (Input 3)
                ∷ copy two 0 ∷ high ∷ copy eight 1 ∷ high
                ∷ copy two 0 ∷ high ∷ signal eight (Computed (node eight (Ref 1) ∷ node eight (One Not 0) ∷ [])) ∷ high
                ∷ copy eight 4 ∷ copy eight 7 ∷ [];
            registers = [];
            memories = [];
            ins = 0 ∷ 1 ∷ 4 ∷ 7 ∷ [];
            outs = 2 ∷ 3 ∷ 5 ∷ 6 ∷ 8 ∷ 9 ∷ 10 ∷ 11 ∷ 12 ∷ 13 ∷ 14 ∷ 15 ∷ 16 ∷ 17 ∷ [];
            clocks = 0;
          };
      globals = 0 ∷ 1 ∷ 4 ∷ 5 ∷ 6 ∷ 7 ∷ 8 ∷ 9 ∷ 10 ∷ 11 ∷ 12 ∷ 13 ∷ 14 ∷ 15 ∷ 16 ∷ 17 ∷ 2 ∷ 3 ∷ [];
      held = [];
      memories = [];
      clocks = [];
    }

-- the fields of `m`, and no other signal
abbrev pub memory : Part
memory =
    record {
      piece =
          record {
            paths = codes "m.r.addr" ∷ codes "m.r.en" ∷ codes "m.r.data" ∷ codes "m.s.addr" ∷ codes "m.s.en" ∷ codes "m.s.data"
                ∷ codes "m.w.addr" ∷ codes "m.w.en" ∷ codes "m.w.data" ∷ codes "m.w.mask" ∷ codes "m.x.addr" ∷ codes "m.x.en"
                ∷ codes "m.x.data" ∷ codes "m.x.mask" ∷ [];
            signals =
                signal two (Input 0) ∷ signal one (Input 1) ∷ signal eight (MemoryWord 0 0 0 1) ∷ signal two (Input 2)
                ∷ signal one (Input 3) ∷ signal eight (MemoryWord 0 1 3 4) ∷ signal two (Input 4) ∷ signal one (Input 5)
                ∷ signal eight (Input 6) ∷ signal one (Input 7) ∷ signal two (Input 8) ∷ signal one (Input 9)
                ∷ signal eight (Input 10) ∷ signal one (Input 11) ∷ [];
            registers = [];
            memories =
                record {
                  word = eight;
                  depth = 3;
                  latency = Zero;
                  readers = record { addr = 0; en = 1; word = 2; clock = None } ∷ record { addr = 3; en = 4; word = 5; clock = None } ∷ [];
                  writers = record { addr = 6; en = 7; word = 8; mask = 9; clock = None } ∷ record { addr = 10; en = 11; word = 12; mask = 13; clock = None } ∷ [];
                }
                ∷ [];
            ins = 0 ∷ 1 ∷ 3 ∷ 4 ∷ 6 ∷ 7 ∷ 8 ∷ 9 ∷ 10 ∷ 11 ∷ 12 ∷ 13 ∷ [];
            outs = 2 ∷ 5 ∷ [];
            clocks = 0;
          };
      globals = 4 ∷ 5 ∷ 6 ∷ 7 ∷ 8 ∷ 9 ∷ 10 ∷ 11 ∷ 12 ∷ 13 ∷ 14 ∷ 15 ∷ 16 ∷ 17 ∷ [];
      held = [];
      memories = 0 ∷ [];
      clocks = [];
    }

hub-part : IsPart circuit hub.piece hub.globals [] [] []
hub-part =
    is-part circuit hub.piece hub.globals refl refl refl refl refl refl
    ((lit< tt, refl), ((lit< tt, refl), ((names-below 18 (node two (Ref 0) ∷ []) refl, refl), ((names-below 18 (node one (Literal (value 1)) ∷ []) refl, refl), ((lit< tt, refl), ((names-below 18 (node two (Ref 0) ∷ []) refl, refl), ((names-below 18 (node eight (Ref 1) ∷ node one (Fix Bits 0 0 0) ∷ []) refl, refl), ((lit< tt, refl), ((names-below 18 (node two (Ref 0) ∷ []) refl, refl), ((names-below 18 (node one (Literal (value 1)) ∷ []) refl, refl), ((names-below 18 (node eight (Ref 1) ∷ []) refl, refl), ((names-below 18 (node one (Literal (value 1)) ∷ []) refl, refl), ((names-below 18 (node two (Ref 0) ∷ []) refl, refl), ((names-below 18 (node one (Literal (value 1)) ∷ []) refl, refl), ((names-below 18 (node eight (Ref 1) ∷ node eight (One Not 0) ∷ []) refl, refl), ((names-below 18 (node one (Literal (value 1)) ∷ []) refl, refl), ((names-below 18 (node eight (Ref 4) ∷ []) refl, refl), ((names-below 18 (node eight (Ref 7) ∷ []) refl, refl), tt))))))))))))))))))
    ((lit< tt, refl), ((lit< tt, refl), ((lit< tt, refl), ((lit< tt, refl), tt)))) refl refl refl

memory-from : (m : ℕ) → m < 1 → IsMemoryFrom circuit memory.piece memory.globals memory.memories [] m
memory-from =
    only (IsMemoryFrom circuit memory.piece memory.globals memory.memories []) (record {
      within = lit< tt;
      is = λ any other. refl;
      below = λ any. record {
        readers = λ i d lt. both (λ k. ReadsAmong 14 (slice_index_or (readers_at memory.piece 0) k d)) (lit< tt, lit< tt, lit< tt) (lit< tt, lit< tt, lit< tt) i lt;
        writers = λ i d lt. both (λ k. WritesAmong 14 (slice_index_or (writers_at memory.piece 0) k d)) (lit< tt, lit< tt, lit< tt, lit< tt) (lit< tt, lit< tt, lit< tt, lit< tt) i lt;
      };
      clocked = λ any. record {
        readers = λ i d lt. both (λ k. IsClock 0 (slice_index_or (readers_at memory.piece 0) k d).clock) tt tt i lt;
        writers = λ i d lt. both (λ k. IsClock 0 (slice_index_or (writers_at memory.piece 0) k d).clock) tt tt i lt;
      };
      given = λ r place lt. both (λ k. driver_at memory.piece (reader_at (readers_at memory.piece 0) k).word ≢ Input place) (λ same. cc) (λ same. cc) r lt;
    })

memory-part : IsPart circuit memory.piece memory.globals [] (0 ∷ []) []
memory-part =
    is-part-with circuit memory.piece memory.globals [] (0 ∷ []) refl refl refl refl refl refl
    ((lit< tt, refl), ((lit< tt, refl), ((lit< tt, lit< tt, lit< tt, refl), ((lit< tt, refl), ((lit< tt, refl), ((lit< tt, lit< tt, lit< tt, refl), ((lit< tt, refl), ((lit< tt, refl), ((lit< tt, refl), ((lit< tt, refl), ((lit< tt, refl), ((lit< tt, refl), ((lit< tt, refl), ((lit< tt, refl), tt))))))))))))))
    ((lit< tt, refl), ((lit< tt, refl), ((lit< tt, refl), ((lit< tt, refl), ((lit< tt, refl), ((lit< tt, refl), ((lit< tt, refl), ((lit< tt, refl), ((lit< tt, refl), ((lit< tt, refl), ((lit< tt, refl), ((lit< tt, refl), tt)))))))))))) refl refl (λ r lt. absurd (omega arith)) refl refl memory-from

-- the hub has no memory, and `m` has its own
hub-memories : (k : ℕ) → Contains [] k ↔ HasMemory tree listed 0 k
hub-memories k = (λ at. absurd (omega (arith, at.1)), λ h. absurd (none h.place h.known h.owner))
  where
    none : (place : ℕ) → place < 1 → memory_owner tree listed place ≡ 0 → ⊥
    none = only (λ place. memory_owner tree listed place ≡ 0 → ⊥) (λ is. omega (arith, is))

own-memories : (k : ℕ) → Contains (0 ∷ []) k ↔ HasMemory tree listed 1 k
own-memories k = (
  λ at. only (λ i. slice_index_or (0 ∷ []) i k ≡ k → HasMemory tree listed 1 k) (λ is. record { place = 0; known = lit< tt; is = is; owner = refl }) at.0 at.1 at.2,
  λ h. only (λ place. (memory_at tree place).memory ≡ k → Contains (0 ∷ []) k) (λ is. (0, lit< tt, is)) h.place h.known h.is,
)

hub-cut : IsCutPart design listed routed 0 hub
hub-cut = is-cut-part design listed routed 0 hub hub-part refl refl refl refl refl refl refl refl hub-memories refl

memory-cut : IsCutPart design listed routed 1 memory
memory-cut = is-cut-part design listed routed 1 memory memory-part refl refl refl refl refl refl refl refl own-memories refl

-- ---- the plan

abbrev pub hub_ins : List ℕ
hub_ins = 0 ∷ 1 ∷ 4 ∷ 7 ∷ []

abbrev pub memory_ins : List ℕ
memory_ins = 2 ∷ 3 ∷ 5 ∷ 6 ∷ 8 ∷ 9 ∷ 10 ∷ 11 ∷ 12 ∷ 13 ∷ 14 ∷ 15 ∷ []

abbrev pub machines : List Machine
machines =
    record { name = codes "hub:"; host = 0; body = Cut hub; ins = hub_ins; outs = 2 ∷ 3 ∷ 5 ∷ 6 ∷ 8 ∷ 9 ∷ 10 ∷ 11 ∷ 12 ∷ 13 ∷ 14 ∷ 15 ∷ 16 ∷ 17 ∷ [] }
    ∷ record { name = codes "m"; host = 1; body = Memory memory; ins = memory_ins; outs = 4 ∷ 7 ∷ [] }
    ∷ record { name = codes "in:a"; host = 2; body = Source 0; ins = []; outs = 0 ∷ [] }
    ∷ record { name = codes "in:v"; host = 3; body = Source 1; ins = []; outs = 1 ∷ [] }
    ∷ record { name = codes "out:o0"; host = 4; body = Tray; ins = 16 ∷ []; outs = [] }
    ∷ record { name = codes "out:o1"; host = 5; body = Tray; ins = 17 ∷ []; outs = [] } ∷ []

abbrev channel : ℕ → List ℕ → Ty → ℕ → ℕ → List ℕ → Channel
channel s name ty producer consumer needs =
    record { signal = s; name = name; ty = ty; producer = producer; consumer = consumer; capacity = 2; pipe = false; needs = needs }

-- a channel that always carries a 1 needs nothing
abbrev pub channels : List Channel
channels =
    channel 0 (codes "a") two 2 0 []
    ∷ channel 1 (codes "v") eight 3 0 []
    ∷ channel 4 (codes "m.r.addr") two 0 1 (0 ∷ [])
    ∷ channel 5 (codes "m.r.en") one 0 1 []
    ∷ channel 6 (codes "m.r.data") eight 1 0 (2 ∷ 3 ∷ [])
    ∷ channel 7 (codes "m.s.addr") two 0 1 (0 ∷ [])
    ∷ channel 8 (codes "m.s.en") one 0 1 (1 ∷ [])
    ∷ channel 9 (codes "m.s.data") eight 1 0 (5 ∷ 6 ∷ [])
    ∷ channel 10 (codes "m.w.addr") two 0 1 (0 ∷ [])
    ∷ channel 11 (codes "m.w.en") one 0 1 []
    ∷ channel 12 (codes "m.w.data") eight 0 1 (1 ∷ [])
    ∷ channel 13 (codes "m.w.mask") one 0 1 []
    ∷ channel 14 (codes "m.x.addr") two 0 1 (0 ∷ [])
    ∷ channel 15 (codes "m.x.en") one 0 1 []
    ∷ channel 16 (codes "m.x.data") eight 0 1 (1 ∷ [])
    ∷ channel 17 (codes "m.x.mask") one 0 1 []
    ∷ channel 2 (codes "o0") eight 0 4 (4 ∷ [])
    ∷ channel 3 (codes "o1") eight 0 5 (7 ∷ []) ∷ []

abbrev pub plan : Plan
plan = record { machines = machines; channels = channels; listed = listed; ratios = [] }

is-machine : (m : ℕ) (any : Machine) → m < 6 → IsMachine design request [] listed routed m (slice_index_or machines m any)
is-machine m any =
    each-below (λ k. IsMachine design request [] listed routed k (slice_index_or machines k any)) 6 (
      record { name = refl; host = refl; body = (lit< tt, hub-cut); ins = refl; outs = refl },
      (
        record { name = refl; host = refl; body = (lit≤ tt, lit< tt, memory-cut); ins = refl; outs = refl },
        (
          record { name = refl; host = refl; body = (lit< tt, refl); ins = refl; outs = refl },
          (
            record { name = refl; host = refl; body = (lit< tt, refl); ins = refl; outs = refl },
            (
              record { name = refl; host = refl; body = (lit≤ tt, lit< tt); ins = refl; outs = refl },
              (record { name = refl; host = refl; body = (lit≤ tt, lit< tt); ins = refl; outs = refl }, tt),
            ),
          ),
        ),
      ),
    ) m

is-channel : (c : ℕ) (any : Channel) → c < 18 → IsChannel design (capacity_of [] 2) (λ s. false) machines (wire_at wires c) (slice_index_or channels c any)
is-channel c any =
    each-below (λ k. IsChannel design (capacity_of [] 2) (λ s. false) machines (wire_at wires k) (slice_index_or channels k any)) 18 (
      record { signal = refl; name = refl; type = refl; producer = refl; consumer = refl; bound = refl; pipe = refl; ascending = ascending [] refl; needs = λ other. refl },
      (
        record { signal = refl; name = refl; type = refl; producer = refl; consumer = refl; bound = refl; pipe = refl; ascending = ascending [] refl; needs = λ other. refl },
        (
          record { signal = refl; name = refl; type = refl; producer = refl; consumer = refl; bound = refl; pipe = refl; ascending = ascending (0 ∷ []) refl; needs = λ other. has-needs hub hub_ins 4 (0 ∷ []) refl },
          (
            record { signal = refl; name = refl; type = refl; producer = refl; consumer = refl; bound = refl; pipe = refl; ascending = ascending [] refl; needs = λ other. has-needs hub hub_ins 5 [] refl },
            (
              record { signal = refl; name = refl; type = refl; producer = refl; consumer = refl; bound = refl; pipe = refl; ascending = ascending (2 ∷ 3 ∷ []) refl; needs = λ other. has-needs memory memory_ins 6 (2 ∷ 3 ∷ []) refl },
              (
                record { signal = refl; name = refl; type = refl; producer = refl; consumer = refl; bound = refl; pipe = refl; ascending = ascending (0 ∷ []) refl; needs = λ other. has-needs hub hub_ins 7 (0 ∷ []) refl },
                (
                  record { signal = refl; name = refl; type = refl; producer = refl; consumer = refl; bound = refl; pipe = refl; ascending = ascending (1 ∷ []) refl; needs = λ other. has-needs hub hub_ins 8 (1 ∷ []) refl },
                  (
                    record { signal = refl; name = refl; type = refl; producer = refl; consumer = refl; bound = refl; pipe = refl; ascending = ascending (5 ∷ 6 ∷ []) refl; needs = λ other. has-needs memory memory_ins 9 (5 ∷ 6 ∷ []) refl },
                    (
                      record { signal = refl; name = refl; type = refl; producer = refl; consumer = refl; bound = refl; pipe = refl; ascending = ascending (0 ∷ []) refl; needs = λ other. has-needs hub hub_ins 10 (0 ∷ []) refl },
                      (
                        record { signal = refl; name = refl; type = refl; producer = refl; consumer = refl; bound = refl; pipe = refl; ascending = ascending [] refl; needs = λ other. has-needs hub hub_ins 11 [] refl },
                        (
                          record { signal = refl; name = refl; type = refl; producer = refl; consumer = refl; bound = refl; pipe = refl; ascending = ascending (1 ∷ []) refl; needs = λ other. has-needs hub hub_ins 12 (1 ∷ []) refl },
                          (
                            record { signal = refl; name = refl; type = refl; producer = refl; consumer = refl; bound = refl; pipe = refl; ascending = ascending [] refl; needs = λ other. has-needs hub hub_ins 13 [] refl },
                            (
                              record { signal = refl; name = refl; type = refl; producer = refl; consumer = refl; bound = refl; pipe = refl; ascending = ascending (0 ∷ []) refl; needs = λ other. has-needs hub hub_ins 14 (0 ∷ []) refl },
                              (
                                record { signal = refl; name = refl; type = refl; producer = refl; consumer = refl; bound = refl; pipe = refl; ascending = ascending [] refl; needs = λ other. has-needs hub hub_ins 15 [] refl },
                                (
                                  record { signal = refl; name = refl; type = refl; producer = refl; consumer = refl; bound = refl; pipe = refl; ascending = ascending (1 ∷ []) refl; needs = λ other. has-needs hub hub_ins 16 (1 ∷ []) refl },
                                  (
                                    record { signal = refl; name = refl; type = refl; producer = refl; consumer = refl; bound = refl; pipe = refl; ascending = ascending [] refl; needs = λ other. has-needs hub hub_ins 17 [] refl },
                                    (
                                      record { signal = refl; name = refl; type = refl; producer = refl; consumer = refl; bound = refl; pipe = refl; ascending = ascending (4 ∷ []) refl; needs = λ other. has-needs hub hub_ins 2 (4 ∷ []) refl },
                                      (record { signal = refl; name = refl; type = refl; producer = refl; consumer = refl; bound = refl; pipe = refl; ascending = ascending (7 ∷ []) refl; needs = λ other. has-needs hub hub_ins 3 (7 ∷ []) refl }, tt),
                                    ),
                                  ),
                                ),
                              ),
                            ),
                          ),
                        ),
                      ),
                    ),
                  ),
                ),
              ),
            ),
          ),
        ),
      ),
    ) c

pub is-plan : IsPlan design request [] 2 plan
is-plan = record { listed = refl; ratios = refl; machine_total = refl; few = lit< tt; channel_total = refl; machine = is-machine; channel = is-channel; shared = unshared machines refl }

-- ---- what is no plan of the cut

abbrev any_machine : Machine
any_machine = record { name = []; host = 0; body = Tray; ins = []; outs = [] }

abbrev any_channel : Channel
any_channel = channel 0 [] eight 0 0 []

-- a reader's data needs its enable too, and nothing of the other reader or of a writer
without-enable : ¬ IsPlan design request [] 2 (record { machines = machines; channels = set channels 4 (channel 6 (codes "m.r.data") eight 1 0 (2 ∷ [])); listed = listed; ratios = [] })
without-enable is = lacks-need memory memory_ins 2 (2 ∷ []) 3 refl refl refl ((is.channel 4 any_channel (lit< tt)).needs any_machine 2 (lit< tt) refl)

with-writer : ¬ IsPlan design request [] 2 (record { machines = machines; channels = set channels 4 (channel 6 (codes "m.r.data") eight 1 0 (2 ∷ 3 ∷ 8 ∷ [])); listed = listed; ratios = [] })
with-writer is = extra-need memory memory_ins 2 (2 ∷ 3 ∷ 8 ∷ []) 8 refl refl refl ((is.channel 4 any_channel (lit< tt)).needs any_machine 2 (lit< tt) refl)

-- a listed memory's machine isn't a `Cut`, as the hub's is
as-cut : ¬ IsPlan design request [] 2 (record { machines = set machines 1 (record { name = codes "m"; host = 1; body = Cut memory; ins = memory_ins; outs = 4 ∷ 7 ∷ [] }); channels = channels; listed = listed; ratios = [] })
as-cut is = let body = (is.machine 1 any_machine (lit< tt)).body in absurd (omega (arith, body.0))

-- the hub doesn't have the memory
abbrev keeping : Part
keeping = record { piece = record hub.piece { memories = memory.piece.memories }; globals = hub.globals; held = []; memories = 0 ∷ []; clocks = [] }

hub-keeps : ¬ IsPlan design request [] 2 (record { machines = set machines 0 (record { name = codes "hub:"; host = 0; body = Cut keeping; ins = hub_ins; outs = 2 ∷ 3 ∷ 5 ∷ 6 ∷ 8 ∷ 9 ∷ 10 ∷ 11 ∷ 12 ∷ 13 ∷ 14 ∷ 15 ∷ 16 ∷ 17 ∷ [] }); channels = channels; listed = listed; ratios = [] })
hub-keeps is = let body = (is.machine 0 any_machine (lit< tt)).body in let at = (hub-memories 0).1 ((body.1.memories 0).0 (0, lit< tt, refl)) in absurd (omega (arith, at.1))
