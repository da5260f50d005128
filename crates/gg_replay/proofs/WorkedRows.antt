-- Lines, logs and stops worked by hand.
use Rattle.std.proofs.Common.{◌≡◌, ℕ, zero, suc, ◌<◌, List, [], ◌∷◌, Some, None, true, false, refl, ap, length, arith, lit<, codes, get_or}
use Rattle.gg_node.specs.Machine.{Machine, KeepsLast, no_state}
use Rattle.gg_net.specs.declared.shape.Wire.{Wire}
use Rattle.gg_net.specs.declared.event.Event.TheVariants.{Fire}
use Rattle.gg_net.specs.Step.{Step}
use Rattle.gg_net.specs.markings.Steps.{IsStep}
use Rattle.gg_flat.specs.Line.{value_at}
use Rattle.gg_flat.specs.Streams.{Flow}
use Rattle.gg_net.specs.declared.event.StepRefusal.TheVariants.{Stranger}
use Rattle.gg_net.specs.Network.{Network, entered}
use Rattle.gg_replay.specs.inside.Log.{AreFronts, opening_log}
use Rattle.gg_replay.specs.inside.Stopping.{IsStop}
use Rattle.gg_replay.specs.declared.fault.ReplayFault.TheVariants.{Refused}
use Rattle.gg_replay.specs.ReplayText.{channel_line}
use Rattle.std.specs.Fmt.{digits}

-- ---- lines

one-bit : channel_line (codes "reset") 1 1 1 (1 ∷ []) ≡ codes "reset 1/1 1\n"
unfolding digits
one-bit = refl

eight-bits : channel_line (codes "out") 8 2 1 (0 ∷ 0 ∷ []) ≡ codes "out 2/1 00 00\n"
unfolding digits
eight-bits = refl

-- nine bits have three digits; letters are in lower case; the first token comes first
nine-bits : channel_line (codes "mem.r") 9 12 10 (1 ∷ 427 ∷ 16 ∷ []) ≡ codes "mem.r 12/10 001 1ab 010\n"
unfolding digits
nine-bits = refl

no-token : channel_line (codes "x") 4 1 0 [] ≡ codes "x 1/0\n"
unfolding digits
no-token = refl

-- before the first step, a channel that opens with a token
opens-with-zero : channel_line (codes "a.k") 8 0 0 (0 ∷ []) ≡ codes "a.k 0/0 00\n"
unfolding digits
opens-with-zero = refl

-- ---- logs: machine 0 is in cycle 2, and has given its token of that cycle at out 0, and not at out 1

abbrev giver : Machine
giver = record { behaviour = KeepsLast 4; limit = 4; ratios = []; needs = [] ∷ [] ∷ []; port_count = 0; ports = []; cycle = 2; state = no_state; served = 0; latches = []; flags = true ∷ false ∷ []; kept = [] }

abbrev wires : List Wire
wires = record { producer = 0; out = 0; consumer = 0; place = 0; capacity = 3; first = None } ∷ record { producer = 0; out = 1; consumer = 0; place = 1; capacity = 3; first = None } ∷ []

abbrev net : Network
net = record { machines = giver ∷ []; wires = wires; queues = [] ∷ [] ∷ []; end = 4 }

abbrev flow : Flow
flow = record { lists = (5 ∷ 6 ∷ 7 ∷ 8 ∷ []) ∷ (1 ∷ 2 ∷ 3 ∷ 4 ∷ []) ∷ []; runs = [] ∷ []; begin = 0; states = no_state ∷ [] }

fronts : AreFronts flow net ((5 ∷ 6 ∷ 7 ∷ []) ∷ (1 ∷ 2 ∷ []) ∷ [])
fronts = record { count = refl; each = each }
  where
    each : (c : ℕ) → c < 2 → get_or ((5 ∷ 6 ∷ 7 ∷ []) ∷ (1 ∷ 2 ∷ []) ∷ []) c [] ≡ lib.ListN.take (entered net c) (get_or flow.lists c [])
    each zero lt = refl
    each (suc zero) lt = refl
    each (suc (suc c)) lt = absurd (omega (arith, lt))

-- the log must have the token of the machine's cycle just if the flag is set, and its tokens are the first of the channel's list
not-short : AreFronts flow net ((5 ∷ 6 ∷ []) ∷ (1 ∷ 2 ∷ []) ∷ []) → ⊥
not-short fronts = omega (arith, ap length (fronts.each 0 (lit< tt)))

not-long : AreFronts flow net ((5 ∷ 6 ∷ 7 ∷ []) ∷ (1 ∷ 2 ∷ 3 ∷ []) ∷ []) → ⊥
not-long fronts = omega (arith, ap length (fronts.each 1 (lit< tt)))

not-reversed : AreFronts flow net ((7 ∷ 6 ∷ 5 ∷ []) ∷ (1 ∷ 2 ∷ []) ∷ []) → ⊥
not-reversed fronts = omega (arith, ap (λ tokens. value_at tokens 0) (fronts.each 0 (lit< tt)))

-- channel 1 opens with a token, which comes before those that were put

abbrev piped : Network
piped = record net { wires = record { producer = 0; out = 0; consumer = 0; place = 0; capacity = 3; first = None } ∷ record { producer = 0; out = 1; consumer = 0; place = 1; capacity = 3; first = Some 1 } ∷ [] }

piped-fronts : AreFronts flow piped ((5 ∷ 6 ∷ 7 ∷ []) ∷ (1 ∷ 2 ∷ 3 ∷ []) ∷ [])
piped-fronts = record { count = refl; each = each }
  where
    each : (c : ℕ) → c < 2 → get_or ((5 ∷ 6 ∷ 7 ∷ []) ∷ (1 ∷ 2 ∷ 3 ∷ []) ∷ []) c [] ≡ lib.ListN.take (entered piped c) (get_or flow.lists c [])
    each zero lt = refl
    each (suc zero) lt = refl
    each (suc (suc c)) lt = absurd (omega (arith, lt))

not-without-first : AreFronts flow piped ((5 ∷ 6 ∷ 7 ∷ []) ∷ (1 ∷ 2 ∷ []) ∷ []) → ⊥
not-without-first fronts = omega (arith, ap length (fronts.each 1 (lit< tt)))

-- before the first cycle a log has the tokens with which channels open
opened : opening_log piped.wires ≡ [] ∷ (1 ∷ []) ∷ []
opened = refl

-- ---- stops

first-stranger : IsStop net (None ∷ []) net (Refused 1 Stranger)
first-stranger = record { done = 0; steps = refl; event = None; next = refl; number = refl; refused = refl }

-- steps are counted from 1, not from 0
not-from-zero : IsStop net (None ∷ []) net (Refused 0 Stranger) → ⊥
not-from-zero stop = omega (arith, stop.number)

-- the second step is refused, after one that is done
abbrev gone : Machine
gone = record giver { flags = true ∷ true ∷ [] }

abbrev after : Network
after = record { machines = gone ∷ []; wires = wires; queues = [] ∷ (3 ∷ []) ∷ []; end = 4 }

second-stops : (step : Step net (Fire 1) after) → IsStop net (Some (Fire 1) ∷ None ∷ Some (Fire 0) ∷ []) after (Refused 2 Stranger)
second-stops step = record { done = 1; steps = (after, step, refl); event = None; next = refl; number = refl; refused = refl }

-- a line that is no step is never done
not-passed : IsStep net None net → ⊥
not-passed step = step
