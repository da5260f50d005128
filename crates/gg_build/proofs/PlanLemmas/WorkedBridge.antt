-- Two echoes behind a circuit, worked by hand: where their rows stand in those of the whole, and where their machines begin.
--
-- The circuit has two signals, and each echo two of its own, its in-signal and its out-signal. What the hub does is left out (it is a
-- tray).
use Rattle.std.proofs.Common.{◌≡◌, ℕ, List, [], ◌∷◌, refl, ap, arith}
use Rattle.std.specs.Prelude.{codes}
use Rattle.gg_flat.specs.Line.{value_at}
use Rattle.gg_flat.specs.Run.{Start, row_at}
use Rattle.gg_flat.proofs.WorkedCircuits.{eight}
use Rattle.gg_cut_plan.specs.declared.plan.Body.{Body}
use Rattle.gg_cut_plan.specs.declared.plan.Body.TheVariants.{Tray, Bridge}
use Rattle.gg_cut_plan.specs.declared.plan.BridgeBody.{BridgeBody}
use Rattle.gg_cut_plan.specs.declared.plan.Machine as planned
use Rattle.gg_bridge.specs.Turned.{turned}
use Rattle.gg_bridge.specs.inside.Echo.{echo_piece, echo_state}
use Rattle.gg_bridge.specs.Hosted.{started_bridge}
use Rattle.gg_node.specs.Machine.{Machine}
use Rattle.gg_net.specs.Kept.{rows_at}
use Rattle.gg_build.specs.plan.Built.{IsBuilt, body_start, rows_from}

abbrev echo : List ℕ → BridgeBody
echo name = record { name = name; model = echo_piece eight; ins = 0 ∷ []; outs = 0 ∷ [] }

abbrev machine : List ℕ → Body → planned.Machine
machine name body = record { name = name; host = 0; body = body; ins = []; outs = [] }

abbrev machines : List planned.Machine
machines = machine (codes "hub:") Tray ∷ machine (codes "bridge:e") (Bridge (echo (codes "e"))) ∷ machine (codes "bridge:f") (Bridge (echo (codes "f"))) ∷ []

-- ---- rows

-- the row of one cycle
abbrev rows : List (List ℕ)
rows = (1 ∷ 2 ∷ 3 ∷ 4 ∷ 5 ∷ 6 ∷ []) ∷ []

abbrev found : List (List (List ℕ))
found = rows_from (λ m s. s) 0 2 machines rows

-- the second echo's signals stand behind those of the first
behind : found ≡ [] ∷ ((3 ∷ 4 ∷ []) ∷ []) ∷ ((5 ∷ 6 ∷ []) ∷ []) ∷ []
behind = refl

-- they aren't those of the first
not-first : found ≡ [] ∷ ((3 ∷ 4 ∷ []) ∷ []) ∷ ((3 ∷ 4 ∷ []) ∷ []) ∷ [] → ⊥
not-first is = let same : 5 ≡ 3 = ap (λ l. value_at (row_at (rows_at l 2) 0) 0) is in omega (arith, same)

-- ---- where a machine begins

-- all begins with cycle 2, and a register of the circuit has 9
abbrev start : Start
start = record { cycle = 2; state = record { registers = 9 ∷ []; banks = [] }; ratios = [] }

-- a claim under an `abbrev`, with its arguments
record IsEchoHere (machine : Machine) : Type 0 where
  is : IsBuilt [] 1 (body_start start (Bridge (echo (codes "e")))) (Bridge (echo (codes "e"))) machine

-- an echo begins there with zeros
zeros : IsEchoHere (started_bridge (turned (echo_piece eight) (0 ∷ []) (0 ∷ [])) 2 (echo_state 0))
zeros = record { is = refl }

-- it doesn't take what the circuit's register has
no-part : IsEchoHere (started_bridge (turned (echo_piece eight) (0 ∷ []) (0 ∷ [])) 2 (echo_state 9)) → ⊥
no-part built = let same : 9 ≡ 0 = ap (λ (t : Machine). value_at t.state.registers 0) built.is in omega (arith, same)
