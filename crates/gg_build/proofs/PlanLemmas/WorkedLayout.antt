-- The layout of a cut, worked by hand: a listed memory with one late reader, given whole; the turns of two readers and two writers;
-- and what is no layout.
--
-- The top has the input `a`, the output `o` and a memory `m` whose only reader `r` has the address `a` and is always enabled; `o`
-- is its data. Signals 0 and 1 are `a` and `o`; 2, 3 and 4 are the reader's address, enable and data. The hub is machine 0, `m` is
-- 1, the source of `a` is 2 and the tray of `o` is 3; the channels are, from 0 on: `a`, `m.r.addr`, `m.r.en`, `m.r.data`, `o`.
use Rattle.std.proofs.Common.{◌≡◌, ℕ, zero, suc, ◌<◌, List, [], ◌∷◌, None, true, false, true≢false, set, refl, sym, ap, subst, inl, inr, ◌⊎◌, arith, lit<}
use Rattle.std.specs.Prelude.{codes, length, map, slice_index_or, Contains, AllPairs}
use Rattle.std.proofs.lemmas.List.Kept.{AllPairs-cons}
use Rattle.std.proofs.lemmas.List.Elements.{All-nil}
use Rattle.gg_flat.specs.declared.memory.UnderWrite.TheVariants.{Old, New}
use Rattle.gg_flat.specs.declared.memory.Latency.{Latency}
use Rattle.gg_flat.specs.declared.memory.Latency.TheVariants.{Zero, One}
use Rattle.gg_flat.specs.declared.memory.Memory.{Memory}
use Rattle.gg_flat.specs.declared.piece.Driver.TheVariants.{Input, MemoryWord, ReadRegister}
use Rattle.gg_flat.specs.Line.{value_at}
use Rattle.gg_flat.specs.Circuit.{FlatCircuit, driver_at}
use Rattle.gg_flat.specs.Reads.{NamesSignal}
use Rattle.gg_flat_tree.specs.Tree.{InstanceTree}
use Rattle.gg_flat.proofs.WorkedCircuits.{eight}
use Rattle.gg_flat.proofs.WorkedMemories.{two, high, signal, copy, ports}
use Rattle.gg_flat.proofs.WorkedForms.{five, same}
use Rattle.gg_order.specs.Design.{Ordered}
use Rattle.gg_partfile.specs.declared.request.Request.{Request}
use Rattle.gg_partfile.specs.Request.{no_request}
use Rattle.gg_cut_plan.specs.declared.listed.Listed.{Listed}
use Rattle.gg_cut_plan.specs.declared.wires.Wire.{Wire}
use Rattle.gg_cut_plan.specs.Listed.{listed_of}
use Rattle.gg_cut_plan.specs.Channels.{wire, wires_of}
use Rattle.gg_cut_plan.specs.Direct.{plan_wires}
use Rattle.gg_cut_plan.proofs.WorkedPair.{input, output}
use Rattle.gg_cut_reference.specs.text.CheckText.{AreChannelNeeds, IsPathInside, NeedsChannel}
use Rattle.gg_net.specs.Refusal.{Turn}
use Rattle.gg_net.specs.markings.Marking.{Link, Layout, link_at}
use Rattle.gg_build.specs.plan.CutLayout.{IsChannelLink, IsLayoutOf, machine_ports, machine_turns, memory_turns}

abbrev late : Memory
late = record { word = eight; depth = 3; latency = One Old; readers = record { addr = 2; en = 3; word = 4; clock = None } ∷ []; writers = [] }

abbrev circuit : FlatCircuit
circuit =
    record {
      paths = codes "a" ∷ codes "o" ∷ codes "m.r.addr" ∷ codes "m.r.en" ∷ codes "m.r.data" ∷ [];
      signals = signal two (Input 0) ∷ copy eight 4 ∷ copy two 0 ∷ high ∷ signal eight (ReadRegister 0 0) ∷ [];
      registers = [];
      memories = late ∷ [];
      ins = 0 ∷ [];
      outs = 1 ∷ [];
      clocks = 0;
    }

abbrev tree : InstanceTree
tree =
    record {
      paths = [] ∷ [];
      instances = record { parent = None; «module» = 0; first = 0; end = 5; ports = input 0 ∷ output 1 ∷ []; memories = 0 ∷ []; clocks = [] } ∷ [];
      memory_paths = codes "m" ∷ [];
      memories = record { instance = 0; memory = 0; ports = codes "r" ∷ []; clocks = [] } ∷ [];
      clocks = [];
      register_clocks = [];
      stops = [];
    }

abbrev design : Ordered
design = record { circuit = circuit; tree = tree; order = 0 ∷ 2 ∷ 3 ∷ 4 ∷ 1 ∷ [] }

abbrev request : Request
request = record no_request { units = []; share = []; memories = codes "m" ∷ []; capacity = (codes "m.r.addr", 5) ∷ [] }

abbrev listed : Listed
listed = listed_of tree request

abbrev wires : List Wire
wires = plan_wires circuit tree request

-- ---- the layout

abbrev link : ℕ → ℕ → ℕ → List ℕ → Link
link producer consumer capacity needs = record { producer = producer; consumer = consumer; capacity = capacity; needs = needs; piped = false }

abbrev turn : ℕ → List ℕ → Turn
turn number fields = record { number = number; fields = fields }

-- the address needs `a`, and `o` needs the data; the data needs nothing, since the reader is late; `m` has one port, its
-- reader, and serves it
abbrev layout : Layout
layout =
    record {
      links = link 2 0 2 [] ∷ link 0 1 5 (0 ∷ []) ∷ link 0 1 2 [] ∷ link 1 0 2 [] ∷ link 0 3 2 (3 ∷ []) ∷ [];
      port_counts = 0 ∷ 1 ∷ 0 ∷ 0 ∷ [];
      turns = [] ∷ (turn 0 (1 ∷ 2 ∷ []) ∷ []) ∷ [] ∷ [] ∷ [];
      end = 3;
    }

-- ---- paths of one step

-- a path doesn't go on from a signal that is taken
stops : (taken : List ℕ) (s t : ℕ) (path : List ℕ) → Contains taken s → IsPathInside circuit taken s path t → s ≡ t
stops taken s t [] has is = is
stops taken s t (next ∷ path) has is = absurd (is.0 has)

-- nor does it go on from a signal that reads nothing
reads-none : (taken : List ℕ) (s t : ℕ) (path : List ℕ) → ((next : ℕ) → NamesSignal (driver_at circuit s) next → ⊥) → IsPathInside circuit taken s path t → s ≡ t
reads-none taken s t [] none is = is
reads-none taken s t (next ∷ path) none is = absurd (none next is.1.names)

-- a signal that reads only one signal, which is taken, reaches itself and that one
reads-one : (taken : List ℕ) (s r t : ℕ) (path : List ℕ) → ((next : ℕ) → NamesSignal (driver_at circuit s) next → r ≡ next) → Contains taken r → IsPathInside circuit taken s path t → (s ≡ t) ⊎ (r ≡ t)
reads-one taken s r t [] one has is = inl is
reads-one taken s r t (next ∷ path) one has is =
    inr (stops taken r t path has (subst (λ x. IsPathInside circuit taken x path t) (let back : next ≡ r = let e = one next is.1.names in omega (arith, e) in back) is.2))

neither : (a b t : ℕ) → (a ≡ t → ⊥) → (b ≡ t → ⊥) → (a ≡ t) ⊎ (b ≡ t) → ⊥
neither a b t first second (inl is) = first is
neither a b t first second (inr is) = second is

-- the hub takes `a` and the data
abbrev hub_takes : List ℕ
hub_takes = 0 ∷ 4 ∷ []

address-free : Contains hub_takes 2 → ⊥
address-free (zero, lt, is) = absurd (omega (arith, is))
address-free (suc zero, lt, is) = absurd (omega (arith, is))
address-free (suc (suc k), lt, is) = absurd (omega (arith, lt))

output-free : Contains hub_takes 1 → ⊥
output-free (zero, lt, is) = absurd (omega (arith, is))
output-free (suc zero, lt, is) = absurd (omega (arith, is))
output-free (suc (suc k), lt, is) = absurd (omega (arith, lt))

address-reads : (next : ℕ) → NamesSignal (driver_at circuit 2) next → 0 ≡ next
address-reads next (zero, lt, is) = same 0 next is
address-reads next (suc k, lt, is) = absurd (omega (arith, lt))

output-reads : (next : ℕ) → NamesSignal (driver_at circuit 1) next → 4 ≡ next
output-reads next (zero, lt, is) = same 4 next is
output-reads next (suc k, lt, is) = absurd (omega (arith, lt))

enable-reads : (next : ℕ) → NamesSignal (driver_at circuit 3) next → ⊥
enable-reads next (zero, lt, is) = absurd (cc)
enable-reads next (suc k, lt, is) = absurd (omega (arith, lt))

-- ---- needs

no-pairs : AllPairs (λ a b. a < b) []
no-pairs i j d less lt = absurd (omega (arith, lt))

one-pair : (x : ℕ) → AllPairs (λ a b. a < b) (x ∷ [])
one-pair x = AllPairs-cons (λ a b. a < b) x [] (All-nil (λ b. x < b)) no-pairs

none : {A : Type 0} (d : ℕ) → Contains [] d → A
none d has = absurd (omega (arith, has.1))

is-one : (x d : ℕ) → Contains (x ∷ []) d → x ≡ d
is-one x d (zero, lt, is) = is
is-one x d (suc k, lt, is) = absurd (omega (arith, lt))

needs-a : AreChannelNeeds circuit listed wires 0 []
needs-a = record { ascending = no-pairs; each = λ d. (none d, λ needs. let made = needs.made in absurd (omega (arith, made))) }

address-needs-a : NeedsChannel circuit listed wires 1 0
address-needs-a = record { made = lit< tt; known = lit< tt; taken = refl; path = 0 ∷ []; reads = (address-free, record { signal = lit< tt; names = (0, lit< tt, refl) }, refl) }

address-only : (d : ℕ) → d < 5 → NeedsChannel circuit listed wires 1 d → Contains (0 ∷ []) d
address-only =
    five (λ d. NeedsChannel circuit listed wires 1 d → Contains (0 ∷ []) d)
    (λ needs. (0, lit< tt, refl))
    (λ needs. let taken = needs.taken in absurd (omega (arith, taken)))
    (λ needs. let taken = needs.taken in absurd (omega (arith, taken)))
    (λ needs. absurd (neither 2 0 4 (λ is. omega (arith, is)) (λ is. omega (arith, is)) (reads-one hub_takes 2 0 4 needs.path address-reads (0, lit< tt, refl) needs.reads)))
    (λ needs. let taken = needs.taken in absurd (omega (arith, taken)))

needs-address : AreChannelNeeds circuit listed wires 1 (0 ∷ [])
needs-address =
    record {
      ascending = one-pair 0;
      each = λ d. (λ has. subst (NeedsChannel circuit listed wires 1) (is-one 0 d has) address-needs-a, λ needs. address-only d needs.known needs);
    }

enable-none : (d : ℕ) → d < 5 → NeedsChannel circuit listed wires 2 d → Contains [] d
enable-none =
    five (λ d. NeedsChannel circuit listed wires 2 d → Contains [] d)
    (λ needs. let is = reads-none hub_takes 3 0 needs.path enable-reads needs.reads in absurd (omega (arith, is)))
    (λ needs. let taken = needs.taken in absurd (omega (arith, taken)))
    (λ needs. let taken = needs.taken in absurd (omega (arith, taken)))
    (λ needs. let is = reads-none hub_takes 3 4 needs.path enable-reads needs.reads in absurd (omega (arith, is)))
    (λ needs. let taken = needs.taken in absurd (omega (arith, taken)))

needs-enable : AreChannelNeeds circuit listed wires 2 []
needs-enable = record { ascending = no-pairs; each = λ d. (none d, λ needs. enable-none d needs.known needs) }

data-none : (d : ℕ) → d < 5 → NeedsChannel circuit listed wires 3 d → Contains [] d
data-none =
    five (λ d. NeedsChannel circuit listed wires 3 d → Contains [] d)
    (λ needs. let taken = needs.taken in absurd (omega (arith, taken)))
    (λ needs. let is = reads-none (2 ∷ 3 ∷ []) 4 2 needs.path (λ next named. named) needs.reads in absurd (omega (arith, is)))
    (λ needs. let is = reads-none (2 ∷ 3 ∷ []) 4 3 needs.path (λ next named. named) needs.reads in absurd (omega (arith, is)))
    (λ needs. let taken = needs.taken in absurd (omega (arith, taken)))
    (λ needs. let taken = needs.taken in absurd (omega (arith, taken)))

needs-data : AreChannelNeeds circuit listed wires 3 []
needs-data = record { ascending = no-pairs; each = λ d. (none d, λ needs. data-none d needs.known needs) }

output-needs-data : NeedsChannel circuit listed wires 4 3
output-needs-data = record { made = lit< tt; known = lit< tt; taken = refl; path = 4 ∷ []; reads = (output-free, record { signal = lit< tt; names = (0, lit< tt, refl) }, refl) }

output-only : (d : ℕ) → d < 5 → NeedsChannel circuit listed wires 4 d → Contains (3 ∷ []) d
output-only =
    five (λ d. NeedsChannel circuit listed wires 4 d → Contains (3 ∷ []) d)
    (λ needs. absurd (neither 1 4 0 (λ is. omega (arith, is)) (λ is. omega (arith, is)) (reads-one hub_takes 1 4 0 needs.path output-reads (1, lit< tt, refl) needs.reads)))
    (λ needs. let taken = needs.taken in absurd (omega (arith, taken)))
    (λ needs. let taken = needs.taken in absurd (omega (arith, taken)))
    (λ needs. (0, lit< tt, refl))
    (λ needs. let taken = needs.taken in absurd (omega (arith, taken)))

needs-output : AreChannelNeeds circuit listed wires 4 (3 ∷ [])
needs-output =
    record {
      ascending = one-pair 3;
      each = λ d. (λ has. subst (NeedsChannel circuit listed wires 4) (is-one 3 d has) output-needs-data, λ needs. output-only d needs.known needs);
    }

-- ---- the whole

is-layout : IsLayoutOf design request 2 3 layout
is-layout =
    record {
      channels = refl;
      link = five (λ c. IsChannelLink design request 2 listed wires c (link_at layout c))
          (record { producer = refl; consumer = refl; capacity = refl; needs = needs-a; piped = refl })
          (record { producer = refl; consumer = refl; capacity = refl; needs = needs-address; piped = refl })
          (record { producer = refl; consumer = refl; capacity = refl; needs = needs-enable; piped = refl })
          (record { producer = refl; consumer = refl; capacity = refl; needs = needs-data; piped = refl })
          (record { producer = refl; consumer = refl; capacity = refl; needs = needs-output; piped = refl });
      ports = refl;
      turns = refl;
      end = refl;
    }

-- ---- the same with a pipe

abbrev piping : Request
piping = record request { pipe = codes "m.r.addr" ∷ [] }

abbrev with_pipe : Layout
with_pipe = record layout { links = set layout.links 1 (record { producer = 0; consumer = 1; capacity = 5; needs = 0 ∷ []; piped = true }) }

-- the address' channel opens with a token, and needs what it needs without the pipe
pipe-layout : IsLayoutOf design piping 2 3 with_pipe
pipe-layout =
    record {
      channels = refl;
      link = five (λ c. IsChannelLink design piping 2 listed wires c (link_at with_pipe c))
          (record { producer = refl; consumer = refl; capacity = refl; needs = needs-a; piped = refl })
          (record { producer = refl; consumer = refl; capacity = refl; needs = needs-address; piped = refl })
          (record { producer = refl; consumer = refl; capacity = refl; needs = needs-enable; piped = refl })
          (record { producer = refl; consumer = refl; capacity = refl; needs = needs-data; piped = refl })
          (record { producer = refl; consumer = refl; capacity = refl; needs = needs-output; piped = refl });
      ports = refl;
      turns = refl;
      end = refl;
    }

without-token : ¬ IsLayoutOf design piping 2 3 layout
without-token is = absurd (true≢false (sym (is.link 1 (lit< tt)).piped))

-- ---- what is no layout

-- a channel that the request names has the request's capacity, and not the default
with-default : ¬ IsLayoutOf design request 2 3 (record layout { links = set layout.links 1 (link 0 1 2 (0 ∷ [])) })
with-default is = let capacity = (is.link 1 (lit< tt)).capacity in absurd (omega (arith, capacity))

-- a channel without a pipe opens without a token
with-token : ¬ IsLayoutOf design request 2 3 with_pipe
with-token is = absurd (true≢false (is.link 1 (lit< tt)).piped)

-- no need may be left out
without-need : ¬ IsLayoutOf design request 2 3 (record layout { links = set layout.links 1 (link 0 1 5 []) })
without-need is = none 0 (((is.link 1 (lit< tt)).needs.each 0).1 address-needs-a)

-- a late reader's data doesn't need its address
late-need : ¬ IsLayoutOf design request 2 3 (record layout { links = set layout.links 3 (link 1 0 2 (1 ∷ [])) })
late-need is = none 1 (data-none 1 (lit< tt) (((is.link 3 (lit< tt)).needs.each 1).0 (0, lit< tt, refl)))

-- a late reader is served
without-turn : ¬ IsLayoutOf design request 2 3 (record layout { turns = [] ∷ [] ∷ [] ∷ [] ∷ [] })
without-turn is = let count : 0 ≡ 1 = ap (λ (turns : List (List Turn)). length (slice_index_or turns 1 [])) is.turns in absurd (omega (arith, count))

-- and it is one of the ports
without-port : ¬ IsLayoutOf design request 2 3 (record layout { port_counts = 0 ∷ 0 ∷ 0 ∷ 0 ∷ [] })
without-port is = let count : 0 ≡ 1 = ap (λ (counts : List ℕ). value_at counts 1) is.ports in absurd (omega (arith, count))

-- ---- the same with direct channels

abbrev straight : Request
straight = record request { direct = true }

-- `m.r.addr` comes straight from the source of `a`, and `a` leaves; `o` is a copy of what a memory gives, so the hub still gives it
straight-channels : plan_wires circuit tree straight ≡ record { signal = 2; given = 0; producer = 2; consumer = 1 } ∷ wire 3 0 1 ∷ wire 4 1 0 ∷ wire 1 0 3 ∷ []
straight-channels = refl

-- the turn has the numbers of the channels that are left
straight-turns : memory_turns circuit (plan_wires circuit tree straight) 0 ≡ turn 0 (0 ∷ 1 ∷ []) ∷ []
straight-turns = refl

-- ---- a reader of the same cycle

-- the same memory with latency 0, whose data needs the address and the enable of the same cycle: it has a port, and serves none
abbrev same_cycle : FlatCircuit
same_cycle =
    record circuit {
      signals = signal two (Input 0) ∷ copy eight 4 ∷ copy two 0 ∷ high ∷ signal eight (MemoryWord 0 0 2 3) ∷ [];
      memories = record { word = eight; depth = 3; latency = Zero; readers = record { addr = 2; en = 3; word = 4; clock = None } ∷ []; writers = [] } ∷ [];
    }

one-port : map (machine_ports same_cycle tree listed) (0 ∷ 1 ∷ 2 ∷ 3 ∷ []) ≡ 0 ∷ 1 ∷ 0 ∷ 0 ∷ []
one-port = refl

no-turn : map (machine_turns same_cycle tree listed (wires_of same_cycle tree listed [])) (0 ∷ 1 ∷ 2 ∷ 3 ∷ []) ≡ [] ∷ [] ∷ [] ∷ [] ∷ []
no-turn = refl

-- ---- turns of two readers and two writers

-- gg_flat's circuit of two readers and two writers, with this latency: signals 4 to 17 are their fields. After the channels of the
-- inputs come those of the fields, in their order.
abbrev with_latency : Latency → FlatCircuit
with_latency latency =
    record ports {
      memories =
          record {
            word = eight;
            depth = 3;
            latency = latency;
            readers = record { addr = 4; en = 5; word = 6; clock = None } ∷ record { addr = 7; en = 8; word = 9; clock = None } ∷ [];
            writers = record { addr = 10; en = 11; word = 12; mask = 13; clock = None } ∷ record { addr = 14; en = 15; word = 16; mask = 17; clock = None } ∷ [];
          }
          ∷ [];
    }

abbrev turns_with : Latency → List Turn
turns_with latency = memory_turns (with_latency latency) (wires_of (with_latency latency) tree listed []) 0

abbrev first_reader : Turn
first_reader = turn 0 (2 ∷ 3 ∷ [])

abbrev second_reader : Turn
second_reader = turn 1 (5 ∷ 6 ∷ [])

abbrev first_writer : Turn
first_writer = turn 2 (8 ∷ 9 ∷ 10 ∷ 11 ∷ [])

abbrev second_writer : Turn
second_writer = turn 3 (12 ∷ 13 ∷ 14 ∷ 15 ∷ [])

-- each of the four readers and writers is a port, whatever the latency
ports-zero : machine_ports (with_latency Zero) tree listed 1 ≡ 4
ports-zero = refl

ports-new : machine_ports (with_latency (One New)) tree listed 1 ≡ 4
ports-new = refl

-- readers of the same cycle aren't served
turns-zero : turns_with Zero ≡ first_writer ∷ second_writer ∷ []
turns-zero = refl

turns-old : turns_with (One Old) ≡ first_reader ∷ second_reader ∷ first_writer ∷ second_writer ∷ []
turns-old = refl

turns-new : turns_with (One New) ≡ first_writer ∷ second_writer ∷ first_reader ∷ second_reader ∷ []
turns-new = refl
