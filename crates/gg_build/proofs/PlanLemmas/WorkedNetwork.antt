-- The channels of the network of a plan, worked by hand: two units that feed each other in one cycle, and the same with a pipe in one of
-- the channels, so that one of them gets the other's value a cycle later. Then the same from a start, and a unit with clocks of its own.
--
-- The plan is the one of gg_cut_plan's WorkedPair: the hub is machine 0, `a` and `b` are 1 and 2, the source of `x` is 3 and the tray
-- of `q` is 4; the channels carry `x`, `a.x`, `a.k`, `a.p`, `a.q`, `b.m`, `b.n` and `q`. What the machines do is left out (each is
-- a tray), since the channels don't depend on it.
use Rattle.std.proofs.Common.{◌≡◌, ℕ, List, [], ◌∷◌, Bool, true, false, Option, None, Some, get_or, refl, ap, arith}
use Rattle.std.specs.Prelude.{codes}
use Rattle.gg_flat.specs.inside.Along.{rows_along}
use Rattle.gg_flat.specs.Along.{rows_from}
use Rattle.gg_flat.specs.Clock.{Ratio}
use Rattle.gg_flat.specs.Run.{Start}
use Rattle.gg_flat.specs.Streams.{Flow}
use Rattle.gg_flat.proofs.WorkedCircuits.{eight}
use Rattle.gg_order.specs.Design.{Ordered}
use Rattle.gg_partfile.specs.declared.request.Request.{Request}
use Rattle.gg_part.specs.declared.part.Part.{Part}
use Rattle.gg_cut_plan.specs.declared.plan.Body.TheVariants.{Cut, Tray}
use Rattle.gg_cut_plan.specs.declared.plan.Machine as planned
use Rattle.gg_cut_plan.specs.declared.plan.Channel.{Channel}
use Rattle.gg_cut_plan.specs.declared.plan.Plan.{Plan}
use Rattle.gg_cut_plan.proofs.WorkedPair as pair
use Rattle.gg_fame5.specs.inside.Machine as dataflow
use Rattle.gg_cut_reference.specs.Follows.{plan_start, plan_token}
use Rattle.gg_node.specs.Machine.{Machine}
use Rattle.gg_cut_reference.specs.Made.{plan_reference, plan_seen}
use Rattle.gg_net.specs.declared.shape.Wire.{Wire}
use Rattle.gg_net.specs.Kept.{Solves}
use Rattle.gg_build.specs.plan.Built.{IsUnitOf, body_rows, body_start, flow_of, place_in, plan_frame, wires_of_plan}
use Rattle.gg_build.specs.inside.Built.{no_token, opening_of}

abbrev machine : List ℕ → List ℕ → List ℕ → planned.Machine
machine name ins outs = record { name = name; host = 0; body = Tray; ins = ins; outs = outs }

abbrev channel : ℕ → List ℕ → ℕ → ℕ → ℕ → Bool → Channel
channel s name producer consumer capacity pipe =
    record { signal = s; name = name; ty = eight; producer = producer; consumer = consumer; capacity = capacity; pipe = pipe; needs = [] }

-- the plan, with a pipe in `a.k` or without
abbrev plan : Bool → Plan
plan pipe =
    record {
      machines =
          machine (codes "hub:") (0 ∷ 3 ∷ 4 ∷ 6 ∷ []) (1 ∷ 2 ∷ 5 ∷ 7 ∷ [])
          ∷ machine (codes "a") (1 ∷ 2 ∷ []) (3 ∷ 4 ∷ [])
          ∷ machine (codes "b") (5 ∷ []) (6 ∷ [])
          ∷ machine (codes "in:x") [] (0 ∷ [])
          ∷ machine (codes "out:q") (7 ∷ []) [] ∷ [];
      channels =
          channel 0 (codes "x") 3 0 1 false
          ∷ channel 2 (codes "a.x") 0 1 7 false
          ∷ channel 3 (codes "a.k") 0 1 1 pipe
          ∷ channel 4 (codes "a.p") 1 0 1 false
          ∷ channel 5 (codes "a.q") 1 0 1 false
          ∷ channel 6 (codes "b.m") 0 2 1 false
          ∷ channel 7 (codes "b.n") 2 0 1 false
          ∷ channel 1 (codes "q") 0 4 1 false ∷ [];
      listed = record { units = 1 ∷ 2 ∷ []; memories = [] };
      ratios = [];
    }

abbrev joins : Option ℕ → ℕ → ℕ → ℕ → ℕ → ℕ → Wire
joins first producer out consumer place capacity = record { producer = producer; out = out; consumer = consumer; place = place; capacity = capacity; first = first }

-- `b.n` leads from the only out of `b` to the last in of the hub, and the others likewise
joined : wires_of_plan no_token (plan false) ≡ joins None 3 0 0 0 1 ∷ joins None 0 0 1 0 7 ∷ joins None 0 1 1 1 1 ∷ joins None 1 0 0 1 1 ∷ joins None 1 1 0 2 1 ∷ joins None 0 2 2 0 1 ∷ joins None 2 0 0 3 1 ∷ joins None 0 3 4 0 1 ∷ []
joined = refl

-- with a pipe, `a.k` opens with the token 0; the others open empty
piped : wires_of_plan no_token (plan true) ≡ joins None 3 0 0 0 1 ∷ joins None 0 0 1 0 7 ∷ joins (Some 0) 0 1 1 1 1 ∷ joins None 1 0 0 1 1 ∷ joins None 1 1 0 2 1 ∷ joins None 0 2 2 0 1 ∷ joins None 2 0 0 3 1 ∷ joins None 0 3 4 0 1 ∷ []
piped = refl

last-in : place_in (0 ∷ 3 ∷ 4 ∷ 6 ∷ []) 6 ≡ 3
last-in = refl

-- ---- what the channels carry in two cycles, where `a.k` has a pipe: `x` is 0f and 81

abbrev design : Ordered
design = record { circuit = pair.circuit; tree = pair.tree; order = [] }

abbrev request : Request
request = pair.piped_units (codes "a.k" ∷ [])

-- the pipe, signal 8, comes first in the order
abbrev rows : List (List ℕ)
rows = rows_along (plan_reference design request) (8 ∷ 0 ∷ 2 ∷ 4 ∷ 6 ∷ 7 ∷ 3 ∷ 5 ∷ 1 ∷ []) ((15 ∷ 129 ∷ []) ∷ []) 2

abbrev flow : Flow
flow = flow_of design request (plan true) (plan_start design request) rows

-- a 0 stands before the values of `a.k`, which are those of `b.n`; `q` is 0f and 9f
carried : flow.lists ≡ (15 ∷ 129 ∷ []) ∷ (15 ∷ 129 ∷ []) ∷ (0 ∷ 30 ∷ 2 ∷ []) ∷ (15 ∷ 129 ∷ []) ∷ (15 ∷ 159 ∷ []) ∷ (15 ∷ 129 ∷ []) ∷ (30 ∷ 2 ∷ []) ∷ (15 ∷ 159 ∷ []) ∷ []
carried = refl

-- a part with these signals; its piece doesn't matter here
abbrev part : List ℕ → Part
part globals = record { piece = pair.circuit; globals = globals; held = []; memories = []; clocks = [] }

-- unit `a` sees the pipe in place of `a.k`
unit-rows : body_rows (plan_seen design request 1) 8 (Cut (part (2 ∷ 3 ∷ 4 ∷ 5 ∷ []))) rows ≡ (15 ∷ 0 ∷ 15 ∷ 15 ∷ []) ∷ (129 ∷ 30 ∷ 129 ∷ 159 ∷ []) ∷ []
unit-rows = refl

-- the hub, which gives `a.k`, sees `a.k` itself
hub-rows : body_rows (plan_seen design request 0) 8 (Cut (part (3 ∷ 7 ∷ []))) rows ≡ (30 ∷ 30 ∷ []) ∷ (2 ∷ 2 ∷ []) ∷ []
hub-rows = refl

-- ---- near misses: the same with other lists for `a.k`

-- the lists of the channels, with this one for `a.k`, solve the network
record AreSolving (pipe : Bool) (values : List ℕ) : Type 0 where
  solves : Solves (record flow { lists = (15 ∷ 129 ∷ []) ∷ (15 ∷ 129 ∷ []) ∷ values ∷ (15 ∷ 129 ∷ []) ∷ (15 ∷ 159 ∷ []) ∷ (15 ∷ 129 ∷ []) ∷ (30 ∷ 2 ∷ []) ∷ (15 ∷ 159 ∷ []) ∷ [] }) (plan_frame no_token (plan pipe) [] 2)

-- a pipe that opens empty
no-token : AreSolving true (30 ∷ 2 ∷ []) → ⊥
no-token are = omega (arith, are.solves.long 2 (omega arith))

-- a pipe that opens with two tokens
two-tokens : AreSolving true (0 ∷ 0 ∷ 30 ∷ 2 ∷ []) → ⊥
two-tokens are = omega (arith, are.solves.long 2 (omega arith))

-- a pipe that opens with another token
other-token : AreSolving true (1 ∷ 30 ∷ 2 ∷ []) → ⊥
other-token are = omega (arith, are.solves.opens 2 0 (omega arith) refl)

-- a token without a pipe
no-pipe : AreSolving false (0 ∷ 30 ∷ 2 ∷ []) → ⊥
no-pipe are = omega (arith, are.solves.long 2 (omega arith))

-- ---- from a start: cycle 1, with 7 in the pipe; `x` is 0f, 81 and 0f

abbrev begin : Start
begin = record { cycle = 1; state = record { registers = 7 ∷ []; banks = [] }; ratios = [] }

-- no cycle before the start is run, so row 0 has no values
abbrev late_rows : List (List ℕ)
late_rows = [] ∷ rows_from (plan_reference design request) (8 ∷ 0 ∷ 2 ∷ 4 ∷ 6 ∷ 7 ∷ 3 ∷ 5 ∷ 1 ∷ []) begin ((15 ∷ 129 ∷ 15 ∷ []) ∷ []) 2

abbrev late_flow : Flow
late_flow = flow_of design request (plan true) begin late_rows

-- the pipe opens with 7
opened : wires_of_plan (plan_token design request begin.state) (plan true) ≡ joins None 3 0 0 0 1 ∷ joins None 0 0 1 0 7 ∷ joins (Some 7) 0 1 1 1 1 ∷ joins None 1 0 0 1 1 ∷ joins None 1 1 0 2 1 ∷ joins None 0 2 2 0 1 ∷ joins None 2 0 0 3 1 ∷ joins None 0 3 4 0 1 ∷ []
opened = refl

-- before cycle 1 all is 0; then 7 stands before the values of `a.k`, which are those of `b.n`; `q` is 86 and 0d
late-carried : late_flow.lists ≡ (0 ∷ 129 ∷ 15 ∷ []) ∷ (0 ∷ 129 ∷ 15 ∷ []) ∷ (0 ∷ 7 ∷ 2 ∷ 30 ∷ []) ∷ (0 ∷ 129 ∷ 15 ∷ []) ∷ (0 ∷ 134 ∷ 13 ∷ []) ∷ (0 ∷ 129 ∷ 15 ∷ []) ∷ (0 ∷ 2 ∷ 30 ∷ []) ∷ (0 ∷ 134 ∷ 13 ∷ []) ∷ []
late-carried = refl

late-begin : late_flow.begin ≡ 1
late-begin = refl

-- a network whose pipe opens with the token of cycle 0 isn't solved by that
record IsLateWith (token : ℕ → ℕ) : Type 0 where
  solves : Solves late_flow (plan_frame token (plan true) [] 3)

zero-token : IsLateWith no_token → ⊥
zero-token late = omega (arith, late.solves.opens 2 0 (omega arith) refl)

-- ---- a unit whose Clock inputs follow the circuit's clocks the other way round; clock 0 has all edges, clock 1 two in three ticks

abbrev crossed : Part
crossed = record { piece = pair.circuit; globals = []; held = []; memories = []; clocks = Some 1 ∷ Some 0 ∷ [] }

abbrev all : Ratio
all = record { m = 1; d = 1 }

abbrev two_thirds : Ratio
two_thirds = record { m = 2; d = 3 }

-- its own clocks have the ratios of the clocks that they follow
own-clocks : (opening_of (all ∷ two_thirds ∷ []) (Cut crossed)).ratios ≡ two_thirds ∷ all ∷ []
own-clocks = refl

started-clocks : (body_start (record begin { ratios = all ∷ two_thirds ∷ [] }) (Cut crossed)).ratios ≡ two_thirds ∷ all ∷ []
started-clocks = refl

-- without ratios it has none
no-clocks : (opening_of [] (Cut crossed)).ratios ≡ []
no-clocks = refl

-- the ratios of the circuit's clocks of the same numbers are wrong
record IsCrossedWith (ratios : List Ratio) : Type 0 where
  needs : List (List ℕ)
  unit : IsUnitOf (opening_of (all ∷ two_thirds ∷ []) (Cut crossed)) crossed (dataflow.opening_unit (record { circuit = pair.circuit; needs = needs }) ratios)

same-numbers : IsCrossedWith (all ∷ two_thirds ∷ []) → ⊥
same-numbers crossing = let d : 1 ≡ 3 = ap (λ (t : Machine). (get_or t.ratios 0 all).d) crossing.unit.is in omega (arith, d)
