-- Requests for pipes, worked by hand: the circuit that the network computes, by which signals machines see its values, and what
-- trays keep.
use Rattle.std.proofs.Common.{◌≡◌, ℕ, ◌+◌, List, [], ◌∷◌, ◌++◌, Bool, true, false, refl, lit<, arith}
use Rattle.std.specs.Prelude.{◌==◌, codes, length, map, drop, take}
use Rattle.std.specs.List.{range_with_len}
use Rattle.gg_bits.specs.declared.ops.Op1.TheVariants.{Not}
use Rattle.gg_flat.specs.declared.line.Op.TheVariants.{Ref, One}
use Rattle.gg_flat.specs.declared.piece.Driver.TheVariants.{Input, Computed}
use Rattle.gg_flat.specs.Line.{value_at}
use Rattle.gg_flat.specs.Circuit.{FlatCircuit, driver_at}
use Rattle.gg_flat.specs.Run.{Start, column}
use Rattle.gg_flat.specs.inside.Along.{rows_along}
use Rattle.gg_flat.specs.Along.{rows_from}
use Rattle.gg_flat.proofs.WorkedCircuits.{eight, node}
use Rattle.gg_flat.proofs.WorkedMemories.{signal, copy}
use Rattle.gg_order.specs.Design.{Ordered}
use Rattle.gg_partfile.specs.declared.request.Request.{Request}
use Rattle.gg_cut_plan.specs.declared.plan.Channel.{Channel}
use Rattle.gg_cut_plan.specs.declared.wires.Wire.{Wire}
use Rattle.gg_cut_plan.specs.Channels.{wire}
use Rattle.gg_cut_plan.specs.Direct.{Hub, routes, plan_hub}
use Rattle.gg_cut_plan.specs.Solves.{AreRows, stream, streams}
use Rattle.gg_cut_plan.proofs.WorkedPair.{circuit, tree, both_units}
use Rattle.gg_cut_reference.specs.Links.{pipes_of, seen_by}
use Rattle.gg_cut_reference.specs.Made.{holder_of, reference, plan_reference, plan_seen}
use Rattle.gg_cut_reference.specs.Follows.{plan_token}

-- ---- two units that feed each other; signals: 0 x, 1 q, 2 a.x, 3 a.k, 4 a.p, 5 a.q, 6 b.m, 7 b.n

abbrev design : Ordered
design = record { circuit = circuit; tree = tree; order = 0 ∷ 2 ∷ 4 ∷ 6 ∷ 7 ∷ 3 ∷ 5 ∷ 1 ∷ [] }

abbrev asked : List (List ℕ) → Bool → Request
asked pipe direct = record both_units { pipe = pipe; direct = direct }

-- the columns of a circuit's outputs, where x is 0f and 81; its first signals are the design's
abbrev outputs : FlatCircuit → List (List ℕ)
outputs all = map (column (rows_along all (drop 8 (range_with_len 0 (length all.signals)) ++ design.order) ((15 ∷ 129 ∷ []) ∷ []) 2)) all.outs

-- what the tray of `q` keeps
abbrev kept : List (List ℕ) → Bool → List (List ℕ)
kept pipe direct = outputs (plan_reference design (asked pipe direct))

-- without a pipe, `q` is 11 and 83
unpiped : kept [] false ≡ (17 ∷ 131 ∷ []) ∷ []
unpiped = refl

-- `a.k` piped: 0f and 9f
piped-k : kept (codes "a.k" ∷ []) false ≡ (15 ∷ 159 ∷ []) ∷ []
piped-k = refl

-- `q` piped: 00 and 11
piped-q : kept (codes "q" ∷ []) false ≡ (0 ∷ 17 ∷ []) ∷ []
piped-q = refl

-- `x` piped: all is a cycle late
piped-x : kept (codes "x" ∷ []) false ≡ (0 ∷ 17 ∷ []) ∷ []
piped-x = refl

-- two pipes on one way count both, and one that isn't on it has no effect on it
piped-twice : kept (codes "a.k" ∷ codes "b.m" ∷ []) false ≡ (15 ∷ 129 ∷ []) ∷ []
piped-twice = refl

piped-both : kept (codes "q" ∷ codes "a.k" ∷ []) false ≡ (0 ∷ 15 ∷ []) ∷ []
piped-both = refl

-- pipes stand in the order of the signals, not of the channels or of the request
pipes-ordered : map (λ pipe. pipes_of (plan_hub circuit tree (asked pipe false))) ((codes "q" ∷ codes "a.k" ∷ []) ∷ (codes "a.k" ∷ codes "q" ∷ []) ∷ []) ≡ (1 ∷ 3 ∷ []) ∷ (1 ∷ 3 ∷ []) ∷ []
pipes-ordered = refl

channels-ordered : map (λ (r : Wire). r.signal) (routes (plan_hub circuit tree (asked (codes "q" ∷ codes "a.k" ∷ []) false))) ≡ 0 ∷ 2 ∷ 3 ∷ 4 ∷ 5 ∷ 6 ∷ 7 ∷ 1 ∷ []
channels-ordered = refl

paths-ordered : drop 8 (plan_reference design (asked (codes "a.k" ∷ codes "q" ∷ []) false)).paths ≡ codes "pipe:q" ∷ codes "pipe:a.k" ∷ []
paths-ordered = refl

-- a name of no channel makes no pipe; nor does one that a channel's name begins with
no-channel : map (λ name. length (plan_reference design (asked (name ∷ []) false)).signals) (codes "zz" ∷ codes "a" ∷ codes "a.k" ∷ []) ≡ 8 ∷ 8 ∷ 9 ∷ []
no-channel = refl

-- unit `a` sees the pipe of `a.k`; the hub, which gives it, sees `a.k`, and unit `b` sees what it gives
seen : map (λ m. plan_seen design (asked (codes "a.k" ∷ []) false) m 3) (0 ∷ 1 ∷ []) ++ plan_seen design (asked (codes "a.k" ∷ []) false) 2 7 ∷ [] ≡ 3 ∷ 8 ∷ 7 ∷ []
seen = refl

-- ---- as direct channels

-- `a.k` is direct: `b` gives it by `b.n`, and unit `a` sees the pipe
direct-k : kept (codes "a.k" ∷ []) true ≡ (15 ∷ 159 ∷ []) ∷ []
direct-k = refl

direct-seen : map (λ m. plan_seen design (asked (codes "a.k" ∷ []) true) m 3) (0 ∷ 1 ∷ []) ++ plan_seen design (asked (codes "a.k" ∷ []) true) 2 7 ∷ [] ≡ 3 ∷ 8 ∷ 7 ∷ []
direct-seen = refl

-- `b.n` is piped: it stays, and the hub's copy of it, `a.k`, copies the pipe
direct-n : kept (codes "b.n" ∷ []) true ≡ (15 ∷ 159 ∷ []) ∷ []
direct-n = refl

copies-pipe : driver_at (plan_reference design (asked (codes "b.n" ∷ []) true)) 3 ≡ Computed (node eight (Ref 8) ∷ [])
copies-pipe = refl

-- ---- a fork

-- `x` goes to units 1 and 2, which give it to the outputs `p` and `q`: signals 0 x, 1 u.a, 2 v.a, 3 u.b, 4 v.b, 5 p, 6 q
abbrev forked : ℕ → Hub
forked c =
    record {
      circuit = record {
        paths = codes "x" ∷ codes "u.a" ∷ codes "v.a" ∷ codes "u.b" ∷ codes "v.b" ∷ codes "p" ∷ codes "q" ∷ codes "r" ∷ [];
        signals = signal eight (Input 0) ∷ copy eight 0 ∷ copy eight 0 ∷ copy eight 1 ∷ copy eight 2 ∷ copy eight 3 ∷ copy eight 4 ∷ signal eight (Computed (node eight (Ref 0) ∷ node eight (One Not 0) ∷ [])) ∷ [];
        registers = [];
        memories = [];
        ins = 0 ∷ [];
        outs = 5 ∷ 6 ∷ 7 ∷ [];
        clocks = 0;
      };
      owner = value_at (0 ∷ 1 ∷ 2 ∷ 1 ∷ 2 ∷ 0 ∷ 0 ∷ 0 ∷ []);
      base = wire 0 3 0 ∷ wire 1 0 1 ∷ wire 2 0 2 ∷ wire 3 1 0 ∷ wire 4 2 0 ∷ wire 5 0 4 ∷ wire 6 0 5 ∷ wire 7 0 6 ∷ [];
      held = [];
      stops = [];
      silent = λ m. false;
      piped = λ s. s == c;
      direct = true;
    }

abbrev fork : ℕ → FlatCircuit
fork c = reference (forked c) (holder_of (forked c)) (λ k. 0)

-- u.a piped: `p` is a cycle late, and `q` and the hub's own `r` are not
fork-u : map (column (rows_along (fork 1) (8 ∷ 0 ∷ 1 ∷ 2 ∷ 3 ∷ 4 ∷ 5 ∷ 6 ∷ 7 ∷ []) ((15 ∷ 129 ∷ []) ∷ []) 2)) (fork 1).outs ≡ (0 ∷ 15 ∷ []) ∷ (15 ∷ 129 ∷ []) ∷ (240 ∷ 126 ∷ []) ∷ []
fork-u = refl

fork-seen : seen_by (forked 1) 1 1 ∷ seen_by (forked 1) 2 2 ∷ seen_by (forked 1) 0 0 ∷ [] ≡ 8 ∷ 2 ∷ 0 ∷ []
fork-seen = refl

-- `x` piped: all is late, and nothing is direct but what units give
fork-x : map (column (rows_along (fork 0) (8 ∷ 0 ∷ 1 ∷ 2 ∷ 3 ∷ 4 ∷ 5 ∷ 6 ∷ 7 ∷ []) ((15 ∷ 129 ∷ []) ∷ []) 2)) (fork 0).outs ≡ (0 ∷ 15 ∷ []) ∷ (0 ∷ 15 ∷ []) ∷ (255 ∷ 240 ∷ []) ∷ []
fork-x = refl

fork-routes : routes (forked 0) ≡ wire 0 3 0 ∷ wire 1 0 1 ∷ wire 2 0 2 ∷ record { signal = 5; given = 3; producer = 1; consumer = 4 } ∷ record { signal = 6; given = 4; producer = 2; consumer = 5 } ∷ wire 7 0 6 ∷ []
fork-routes = refl

-- ---- what consumers take

abbrev channel : ℕ → Bool → Channel
channel s pipe = record { signal = s; name = []; ty = eight; producer = 1; consumer = 2; capacity = 1; pipe = pipe; needs = [] }

abbrev two : List Channel
two = channel 0 true ∷ channel 1 false ∷ []

taken : streams 0 (λ s. 0) two ((5 ∷ 7 ∷ []) ∷ (1 ∷ 2 ∷ []) ∷ []) ≡ (0 ∷ 5 ∷ 7 ∷ []) ∷ (1 ∷ 2 ∷ []) ∷ []
taken = refl

-- a pipe of a channel without a value is not empty
taken-none : streams 0 (λ s. 0) two ([] ∷ [] ∷ []) ≡ (0 ∷ []) ∷ [] ∷ []
taken-none = refl

-- from cycle 2 on, with the token 9; a channel without a pipe has none
taken-late : streams 2 (λ s. 9 + s) two ((0 ∷ 0 ∷ 5 ∷ 7 ∷ []) ∷ (0 ∷ 0 ∷ 1 ∷ 2 ∷ []) ∷ []) ≡ (0 ∷ 0 ∷ 9 ∷ 5 ∷ 7 ∷ []) ∷ (0 ∷ 0 ∷ 1 ∷ 2 ∷ []) ∷ []
taken-late = refl

-- the token comes in the cycle of the start, not in the one before it
not-before : ¬ (stream 2 9 true (0 ∷ 0 ∷ 5 ∷ 7 ∷ []) ≡ 0 ∷ 9 ∷ 0 ∷ 5 ∷ 7 ∷ [])
not-before is = absurd (cc)

-- ---- a run from cycle 2 in which the pipe of `q` has 9

abbrev late : Start
late = record { cycle = 2; state = record { registers = 9 ∷ []; banks = [] }; ratios = [] }

abbrev all : FlatCircuit
all = plan_reference design (asked (codes "q" ∷ []) false)

-- its rows by cycle, where x is 0f and 81 in cycles 2 and 3; signal 8 is the pipe
abbrev late-rows : List (List ℕ)
late-rows = [] ∷ [] ∷ rows_from all (8 ∷ design.order) late ((0 ∷ 0 ∷ 15 ∷ 129 ∷ []) ∷ []) 2

-- the tray of `q` gets 9 in cycle 2 and then what `q` had there
late-q : map (column late-rows) (1 ∷ all.outs) ≡ (0 ∷ 0 ∷ 17 ∷ 131 ∷ []) ∷ (0 ∷ 0 ∷ 9 ∷ 17 ∷ []) ∷ []
late-q = refl

late-taken : take 4 (stream 2 (plan_token design (asked (codes "q" ∷ []) false) late.state 1) true (column late-rows 1)) ≡ column late-rows 8
late-taken = refl

-- Each pipe's token is its own register's, which come in the order of the pipes. A signal without a pipe has 0.
tokens : map (plan_token design (asked (codes "q" ∷ codes "a.k" ∷ []) false) (record { registers = 9 ∷ 4 ∷ []; banks = [] })) (1 ∷ 3 ∷ 5 ∷ []) ≡ 9 ∷ 4 ∷ 0 ∷ []
tokens = refl

-- rows with a value before the start aren't those of a run from it
not-rows : (columns rows : List (List ℕ)) (end : ℕ) → ¬ AreRows all late columns end ([] ∷ (5 ∷ []) ∷ rows)
not-rows columns rows end is = absurd (omega (arith, is.before 1 0 (lit< tt)))
