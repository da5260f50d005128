-- Two units that feed each other in one cycle: what is listed, the channels, the hosts and the faults, worked by hand.
--
-- The top has the input `x` and the output `q`, an instance `a` of module A with the inputs `x` and `k` and the outputs `p` and
-- `q`, and an instance `b` of module B with the input `m` and the output `n`. A's `p` is its `x`, its `q` is `xor(x, k)`; B's
-- `n` is its `m` one bit to the left. The top connects `a.x` to `x`, `a.k` to `b.n`, `b.m` to `a.p` and `q` to `a.q`.
use Rattle.std.proofs.Common.{◌≡◌, ℕ, List, [], ◌∷◌, Some, None, true, false, refl, arith}
use Rattle.std.specs.Prelude.{codes, map, replicate}
use Rattle.gg_bits.specs.declared.ops.Op2.TheVariants.{Xor}
use Rattle.gg_bits.specs.declared.ops.OpN.TheVariants.{Bits, Shl}
use Rattle.gg_flat.specs.declared.line.Op.TheVariants.{Ref, Two, Fix}
use Rattle.gg_flat.specs.declared.piece.Driver.TheVariants.{Input, Computed}
use Rattle.gg_flat_tree.specs.declared.tree.InstancePort.{InstancePort}
use Rattle.gg_flat.specs.Circuit.{FlatCircuit}
use Rattle.gg_flat_tree.specs.Tree.{InstanceTree}
use Rattle.gg_flat.proofs.WorkedCircuits.{eight, nine, node}
use Rattle.gg_flat.proofs.WorkedMemories.{signal, copy}
use Rattle.gg_partfile.specs.declared.request.Request.{Request}
use Rattle.gg_partfile.specs.Request.{no_request}
use Rattle.gg_cut_plan.specs.declared.fault.CutFault.TheVariants.{UnknownUnit, Doubled, OtherModule, UnknownMemory, UnknownChannel, OutOfRange, UnknownPipe, DoubledPipe, UnknownClock, WrongRatio}
use Rattle.gg_cut_plan.specs.declared.listed.Listed.{Listed}
use Rattle.gg_cut_plan.specs.Listed.{listed_of, owner_of}
use Rattle.gg_cut_plan.specs.declared.numbering.Role.TheVariants.{Source, Tray, Bridge}
use Rattle.gg_cut_plan.specs.inside.Machines.{IsRole}
use Rattle.gg_cut_plan.specs.Machines.{first_unit, first_memory, first_source}
use Rattle.gg_cut_plan.specs.Ports.{first_kept_tray, machine_end, ports_of}
use Rattle.gg_cut_plan.specs.inside.Ports.{counts_of}
use Rattle.gg_cut_plan.specs.Clocks.{ratios_of}
use Rattle.gg_cut_plan.specs.Channels.{wire, wires_of, channel_names, capacity_of}
use Rattle.gg_cut_plan.specs.inside.Channels.{channel_signals}
use Rattle.gg_cut_plan.specs.Direct.{plan_signals, plan_wires}
use Rattle.gg_cut_plan.specs.Fault.{fault_in, too_many_units}

abbrev pub input : ℕ → InstancePort
input s = record { signal = s; is_input = true }

abbrev pub output : ℕ → InstancePort
output s = record { signal = s; is_input = false }

abbrev pub circuit : FlatCircuit
circuit =
    record {
      paths = codes "x" ∷ codes "q" ∷ codes "a.x" ∷ codes "a.k" ∷ codes "a.p" ∷ codes "a.q" ∷ codes "b.m" ∷ codes "b.n" ∷ [];
      signals =
          signal eight (Input 0) ∷ copy eight 5
          ∷ copy eight 0 ∷ copy eight 7 ∷ copy eight 2
          ∷ signal eight (Computed (node eight (Ref 2) ∷ node eight (Ref 3) ∷ node eight (Two Xor 0 1) ∷ []))
          ∷ copy eight 4
          ∷ signal eight (Computed (node eight (Ref 6) ∷ node nine (Fix Shl 0 1 0) ∷ node eight (Fix Bits 1 7 0) ∷ [])) ∷ [];
      registers = [];
      memories = [];
      ins = 0 ∷ [];
      outs = 1 ∷ [];
      clocks = 0;
    }

abbrev pub tree : InstanceTree
tree =
    record {
      paths = [] ∷ codes "a" ∷ codes "b" ∷ [];
      instances =
          record { parent = None; «module» = 2; first = 0; end = 8; ports = input 0 ∷ output 1 ∷ []; memories = []; clocks = [] }
          ∷ record { parent = Some 0; «module» = 0; first = 2; end = 6; ports = input 2 ∷ input 3 ∷ output 4 ∷ output 5 ∷ []; memories = []; clocks = [] }
          ∷ record { parent = Some 0; «module» = 1; first = 6; end = 8; ports = input 6 ∷ output 7 ∷ []; memories = []; clocks = [] } ∷ [];
      memory_paths = [];
      memories = [];
      clocks = [];
      register_clocks = [];
      stops = [];
    }

-- a request for these units and lists that share a host
abbrev pub asks : List (List ℕ) → List (List (List ℕ)) → Request
asks units share = record no_request { units = units; share = share; memories = []; capacity = [] }

abbrev pub both_units : Request
both_units = asks (codes "a" ∷ codes "b" ∷ []) []

abbrev pub listed : Listed
listed = listed_of tree both_units

-- ---- what is listed, and who owns what

units-listed : listed ≡ record { units = 1 ∷ 2 ∷ []; memories = [] }
units-listed = refl

-- units are listed in the order of the request
units-reversed : (listed_of tree (asks (codes "b" ∷ codes "a" ∷ []) [])).units ≡ 2 ∷ 1 ∷ []
units-reversed = refl

owners : map (owner_of circuit tree listed) (0 ∷ 1 ∷ 2 ∷ 3 ∷ 4 ∷ 5 ∷ 6 ∷ 7 ∷ []) ≡ 0 ∷ 0 ∷ 1 ∷ 1 ∷ 1 ∷ 1 ∷ 2 ∷ 2 ∷ []
owners = refl

-- ---- the channels

-- the hub is machine 0, `a` and `b` are 1 and 2, the source of `x` is 3, the tray of `q` is 4
wires : wires_of circuit tree listed [] ≡ wire 0 3 0 ∷ wire 2 0 1 ∷ wire 3 0 1 ∷ wire 4 1 0 ∷ wire 5 1 0 ∷ wire 6 0 2 ∷ wire 7 2 0 ∷ wire 1 0 4 ∷ []
wires = refl

numbers : first_unit ∷ first_memory listed ∷ first_source listed ∷ first_kept_tray (ports_of circuit tree listed []) ∷ machine_end (ports_of circuit tree listed []) ∷ [] ≡ 1 ∷ 3 ∷ 3 ∷ 4 ∷ 5 ∷ []
numbers = refl

the-source : IsRole (counts_of listed (ports_of circuit tree listed [])) 3 (Source 0)
the-source = (omega arith, refl)

-- nor is it the tray, which comes behind it
no-tray : ¬ IsRole (counts_of listed (ports_of circuit tree listed [])) 3 (Tray 0)
no-tray is = absurd (omega (arith, is.1))

the-tray : IsRole (counts_of listed (ports_of circuit tree listed [])) 4 (Tray 0)
the-tray = (omega arith, refl)

no-bridge : ¬ IsRole (counts_of listed (ports_of circuit tree listed [])) 5 (Bridge 0)
no-bridge is = absurd (omega (arith, is.0))

names : channel_names circuit (channel_signals circuit tree listed) ≡ codes "x" ∷ codes "a.x" ∷ codes "a.k" ∷ codes "a.p" ∷ codes "a.q" ∷ codes "b.m" ∷ codes "b.n" ∷ codes "q" ∷ []
names = refl

-- asked for direct channels: `a.x` comes from the source, `a.k` from `b`, `b.m` and `q` from `a`
abbrev pub direct_units : Request
direct_units = record both_units { direct = true }

direct-wires : plan_wires circuit tree direct_units ≡ record { signal = 2; given = 0; producer = 3; consumer = 1 } ∷ record { signal = 3; given = 7; producer = 2; consumer = 1 } ∷ record { signal = 6; given = 4; producer = 1; consumer = 2 } ∷ record { signal = 1; given = 5; producer = 1; consumer = 4 } ∷ []
direct-wires = refl

-- not asked for: all channels stay
plain-wires : plan_wires circuit tree both_units ≡ wires_of circuit tree listed []
plain-wires = refl

direct-names : channel_names circuit (plan_signals circuit tree direct_units) ≡ codes "a.x" ∷ codes "a.k" ∷ codes "b.m" ∷ codes "q" ∷ []
direct-names = refl

-- the empty partition: the channels from the source and to the tray
alone : wires_of circuit tree (listed_of tree (asks [] [])) [] ≡ wire 0 1 0 ∷ wire 1 0 2 ∷ []
alone = refl

capacities : map (capacity_of ((codes "a.x", 7) ∷ (codes "q", 1) ∷ []) 2) (codes "a.x" ∷ codes "a.k" ∷ codes "q" ∷ []) ≡ 7 ∷ 2 ∷ 1 ∷ []
capacities = refl

-- ---- faults

accepted : fault_in circuit tree both_units ≡ None
accepted = refl

-- what isn't in `units` is reported before units of different modules
unknown-share : fault_in circuit tree (asks (codes "a" ∷ []) ((codes "a" ∷ codes "b" ∷ []) ∷ [])) ≡ Some (UnknownUnit (codes "b"))
unknown-share = refl

other-module : fault_in circuit tree (asks (codes "a" ∷ codes "b" ∷ []) ((codes "a" ∷ codes "b" ∷ []) ∷ [])) ≡ Some (OtherModule (codes "b"))
other-module = refl

-- the top is no unit
the-top : fault_in circuit tree (asks ([] ∷ []) []) ≡ Some (UnknownUnit [])
the-top = refl

a-signal : fault_in circuit tree (asks (codes "a.x" ∷ []) []) ≡ Some (UnknownUnit (codes "a.x"))
a-signal = refl

twice : fault_in circuit tree (asks (codes "a" ∷ codes "b" ∷ codes "a" ∷ []) []) ≡ Some (Doubled (codes "a"))
twice = refl

-- an entry that names nothing is reported before one that stands twice, wherever it is
unknown-first : fault_in circuit tree (asks (codes "a" ∷ codes "a" ∷ codes "c" ∷ []) []) ≡ Some (UnknownUnit (codes "c"))
unknown-first = refl

twice-shared : fault_in circuit tree (asks (codes "a" ∷ codes "b" ∷ []) ((codes "b" ∷ []) ∷ (codes "a" ∷ codes "b" ∷ []) ∷ [])) ≡ Some (Doubled (codes "b"))
twice-shared = refl

no-memory : fault_in circuit tree (record both_units { memories = codes "a" ∷ [] }) ≡ Some (UnknownMemory (codes "a"))
no-memory = refl

-- a port of an instance that isn't a unit is no channel
no-channel : fault_in circuit tree (record (asks (codes "a" ∷ []) []) { capacity = (codes "a.x", 3) ∷ (codes "b.m", 1) ∷ [] }) ≡ Some (UnknownChannel (codes "b.m"))
no-channel = refl

-- nor is a channel that left; one that is direct is
channel-left : fault_in circuit tree (record direct_units { capacity = (codes "a.k", 3) ∷ (codes "b.n", 1) ∷ [] }) ≡ Some (UnknownChannel (codes "b.n"))
channel-left = refl

channel-there : fault_in circuit tree (record both_units { capacity = (codes "a.k", 3) ∷ (codes "b.n", 1) ∷ [] }) ≡ None
channel-there = refl

-- an unknown channel is reported before a capacity out of range
range-last : fault_in circuit tree (record both_units { capacity = (codes "a.x", 0) ∷ (codes "oo", 1) ∷ [] }) ≡ Some (UnknownChannel (codes "oo"))
range-last = refl

nothing : fault_in circuit tree (record both_units { capacity = (codes "a.k", 4096) ∷ (codes "a.x", 0) ∷ [] }) ≡ Some (OutOfRange (codes "a.x") 0)
nothing = refl

over : fault_in circuit tree (record both_units { capacity = (codes "a.k", 4097) ∷ (codes "a.x", 0) ∷ [] }) ≡ Some (OutOfRange (codes "a.k") 4097)
over = refl

-- ---- pipes

abbrev pub piped_units : List (List ℕ) → Request
piped_units pipe = record both_units { pipe = pipe }

pipe-known : fault_in circuit tree (piped_units (codes "q" ∷ codes "a.k" ∷ codes "x" ∷ [])) ≡ None
pipe-known = refl

pipe-unknown : fault_in circuit tree (piped_units (codes "zz" ∷ [])) ≡ Some (UnknownPipe (codes "zz"))
pipe-unknown = refl

-- the first in the order of the file
pipe-first : fault_in circuit tree (piped_units (codes "a.k" ∷ codes "zz" ∷ codes "oo" ∷ [])) ≡ Some (UnknownPipe (codes "zz"))
pipe-first = refl

pipe-twice : fault_in circuit tree (piped_units (codes "q" ∷ codes "q" ∷ [])) ≡ Some (DoubledPipe (codes "q"))
pipe-twice = refl

-- a name that is no channel's is reported before one that stands twice, wherever it is
pipe-unknown-first : fault_in circuit tree (piped_units (codes "q" ∷ codes "q" ∷ codes "zz" ∷ [])) ≡ Some (UnknownPipe (codes "zz"))
pipe-unknown-first = refl

-- capacities come before pipes
pipe-last : fault_in circuit tree (record (piped_units (codes "zz" ∷ [])) { capacity = (codes "a.x", 0) ∷ [] }) ≡ Some (OutOfRange (codes "a.x") 0)
pipe-last = refl

-- with direct channels: a channel into the hub that is piped is no origin, so it stays; its copies are no channels
pipe-stays : fault_in circuit tree (record direct_units { pipe = codes "b.n" ∷ [] }) ≡ None
pipe-stays = refl

piped-wires : plan_wires circuit tree (record direct_units { pipe = codes "b.n" ∷ [] }) ≡ record { signal = 2; given = 0; producer = 3; consumer = 1 } ∷ wire 3 0 1 ∷ record { signal = 6; given = 4; producer = 1; consumer = 2 } ∷ wire 7 2 0 ∷ record { signal = 1; given = 5; producer = 1; consumer = 4 } ∷ []
piped-wires = refl

-- a channel that is direct may be piped; the channel that left for it isn't one any more
pipe-direct : fault_in circuit tree (record direct_units { pipe = codes "a.k" ∷ [] }) ≡ None
pipe-direct = refl

-- ---- clocks

-- the same with two Clock inputs of the top
abbrev pub timed : InstanceTree
timed = record tree { clocks = codes "c1" ∷ codes "c2" ∷ [] }

abbrev pub timed_units : List (List ℕ × (ℕ × ℕ)) → Request
timed_units clocks = record both_units { clocks = clocks }

clock-known : fault_in circuit timed (timed_units ((codes "c1", (1, 1)) ∷ (codes "c2", (2, 3)) ∷ [])) ≡ None
clock-known = refl

clock-unknown : fault_in circuit timed (timed_units ((codes "x", (1, 1)) ∷ [])) ≡ Some (UnknownClock (codes "x"))
clock-unknown = refl

-- all names come before the first ratio
clock-first : fault_in circuit timed (timed_units ((codes "c2", (4, 3)) ∷ (codes "c3", (1, 1)) ∷ [])) ≡ Some (UnknownClock (codes "c3"))
clock-first = refl

-- more edges than ticks, no edge, the most ticks, and one more
ratio-above : fault_in circuit timed (timed_units ((codes "c1", (1, 2)) ∷ (codes "c2", (4, 3)) ∷ [])) ≡ Some (WrongRatio (codes "c2") 4 3)
ratio-above = refl

ratio-none : fault_in circuit timed (timed_units ((codes "c1", (0, 1)) ∷ [])) ≡ Some (WrongRatio (codes "c1") 0 1)
ratio-none = refl

ratio-most : fault_in circuit timed (timed_units ((codes "c1", (1, 65535)) ∷ [])) ≡ None
ratio-most = refl

ratio-past : fault_in circuit timed (timed_units ((codes "c1", (1, 65536)) ∷ [])) ≡ Some (WrongRatio (codes "c1") 1 65536)
ratio-past = refl

-- behind the pipes
clock-last : fault_in circuit timed (record (timed_units ((codes "x", (0, 0)) ∷ [])) { pipe = codes "q" ∷ codes "q" ∷ [] }) ≡ Some (DoubledPipe (codes "q"))
clock-last = refl

-- a clock that isn't named has an edge in each tick
ratios : ratios_of timed (timed_units ((codes "c2", (2, 3)) ∷ [])) ≡ record { m = 1; d = 1 } ∷ record { m = 2; d = 3 } ∷ []
ratios = refl

-- ---- limits

limit : (too_many_units (record { units = replicate 200 1; memories = replicate 56 1 })) ≡ None
limit = refl

past-limit : (too_many_units (record { units = replicate 200 1; memories = replicate 57 1 })) ≡ Some 257
past-limit = refl
