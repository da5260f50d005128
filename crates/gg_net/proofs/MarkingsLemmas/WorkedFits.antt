-- Layouts of networks worked by hand: which layout a network has, what its marking is, and which layouts it doesn't have.
use Rattle.std.proofs.Common.{◌≡◌, ℕ, zero, suc, ◌+◌, ◌<◌, List, [], ◌∷◌, Option, Some, None, Bool, true, false, refl, sym, subst, arith, lit<}
use Rattle.std.specs.Prelude.{slice_index_or, slice_get}
use Rattle.std.proofs.lemmas.Option.{same_Some}
use Rattle.gg_flat.specs.Served.{ByReader}
use Rattle.gg_flat.specs.Circuit.{no_circuit}
use Rattle.gg_node.specs.Machine.{RunsPiece, KeepsLast, Port, Machine, no_state, source_machine, tray_machine}
use Rattle.gg_net.specs.declared.event.Event.{Event}
use Rattle.gg_net.specs.declared.event.Event.TheVariants.{Latch, Fire}
use Rattle.gg_net.specs.declared.event.StepRefusal.{StepRefusal}
use Rattle.gg_net.specs.declared.event.StepRefusal.TheVariants.{Stranger, Fired}
use Rattle.gg_net.specs.Network.{Network, Frame, frame_of, kind_at, wire_at}
use Rattle.gg_net.specs.Step.{Step, after_latch, after_fire}
use Rattle.gg_net.specs.Refusal.{Turn}
use Rattle.gg_net.specs.markings.Marking.{Layout, opening_marking, link_at, turns_at, marked_puts, held, after}
use Rattle.gg_net.specs.markings.Steps.{StepRefused, StopsAt}
use Rattle.gg_net.specs.inside.Fits.{IsLinkOf, IsTurnOf, AreTurnsOf, HasLayout, marking_of}

-- no ports, no turns
no-turns : (frame : Frame) (m : ℕ) → AreTurnsOf frame m [] []
no-turns frame m = record { count = refl; each = λ i port turn lt. absurd (omega (arith, lt)) }

-- ---- a counter: the hub 0, a source 1, a tray 2; channel 0 goes from the source to the hub, channel 1 from the hub to the tray

abbrev hub : Option ℕ → Bool → Machine
hub latch flag = record { behaviour = RunsPiece no_circuit; limit = 10; ratios = []; needs = [] ∷ []; port_count = 0; ports = []; cycle = 0; state = no_state; served = 0; latches = latch ∷ []; flags = flag ∷ []; kept = [] }

abbrev net : Option ℕ → Bool → Bool → List ℕ → List ℕ → Network
net latch flag fired to_hub to_tray =
    record {
      machines = hub latch flag ∷ source_machine (5 ∷ 6 ∷ []) 0 (fired ∷ []) ∷ tray_machine 2 2 0 [] None ∷ [];
      wires = record { producer = 1; out = 0; consumer = 0; place = 0; capacity = 1; first = None } ∷ record { producer = 0; out = 0; consumer = 2; place = 0; capacity = 1; first = None } ∷ [];
      queues = to_hub ∷ to_tray ∷ [];
      end = 2;
    }

abbrev opens : Network
opens = net None false false [] []

abbrev counter : Layout
counter =
    record {
      links = (record { producer = 1; consumer = 0; capacity = 1; needs = []; piped = false }) ∷ (record { producer = 0; consumer = 2; capacity = 1; needs = []; piped = false }) ∷ [];
      port_counts = 0 ∷ 0 ∷ 0 ∷ [];
      turns = [] ∷ [] ∷ [] ∷ [];
      end = 2;
    }

counter-fits : HasLayout (frame_of opens) counter
counter-fits = record { machines = refl; channels = refl; end = refl; ports = refl; link = links; turns = turns }
  where
    links : (c : ℕ) → c < 2 → IsLinkOf (frame_of opens) c (link_at counter c)
    links zero lt = record { producer = refl; consumer = refl; capacity = refl; piped = refl; needs = refl; taken = λ k any below. absurd (omega (arith, below)) }
    links (suc zero) lt = record { producer = refl; consumer = refl; capacity = refl; piped = refl; needs = refl; taken = λ k any below. absurd (omega (arith, below)) }
    links (suc (suc c)) lt = absurd (omega (arith, lt))

    turns : (m : ℕ) → m < 3 → AreTurnsOf (frame_of opens) m (kind_at (frame_of opens).kinds m).ports (turns_at counter m)
    turns zero lt = no-turns (frame_of opens) 0
    turns (suc zero) lt = no-turns (frame_of opens) 1
    turns (suc (suc zero)) lt = no-turns (frame_of opens) 2
    turns (suc (suc (suc m))) lt = absurd (omega (arith, lt))

    ins : (c d : ℕ) → c < d → d < 2 → (wire_at opens.wires c).consumer ≡ (wire_at opens.wires d).consumer → (wire_at opens.wires c).place < (wire_at opens.wires d).place
    ins zero zero before lt same = absurd (omega (arith, before))
    ins zero (suc zero) before lt same = absurd (omega (arith, same))
    ins (suc c) zero before lt same = absurd (omega (arith, before))
    ins (suc c) (suc zero) before lt same = absurd (omega (arith, before))
    ins c (suc (suc d)) before lt same = absurd (omega (arith, lt))

    outs : (c d : ℕ) → c < d → d < 2 → (wire_at opens.wires c).producer ≡ (wire_at opens.wires d).producer → (wire_at opens.wires c).out < (wire_at opens.wires d).out
    outs zero zero before lt same = absurd (omega (arith, before))
    outs zero (suc zero) before lt same = absurd (omega (arith, same))
    outs (suc c) zero before lt same = absurd (omega (arith, before))
    outs (suc c) (suc zero) before lt same = absurd (omega (arith, before))
    outs c (suc (suc d)) before lt same = absurd (omega (arith, lt))

opens-so : marking_of opens ≡ opening_marking counter 0
opens-so = refl

-- the source's token is given, then taken: the marks are set, whatever the token
given-so : marking_of (after_fire opens 0 5) ≡ after counter (marking_of opens) (Fire 0)
given-so = refl

taken-so : marking_of (after_latch (net None false true (5 ∷ []) []) 0) ≡ record { cycles = 0 ∷ 0 ∷ 0 ∷ []; served = 0 ∷ 0 ∷ 0 ∷ []; taken = true ∷ false ∷ []; given = true ∷ false ∷ [] }
taken-so = refl

one-put : marked_puts counter (marking_of (net None false true (5 ∷ []) [])) 0 ≡ 1
one-put = refl

one-held : held counter (marking_of (net None false true (5 ∷ []) [])) 0 ≡ 1
one-held = refl

none-held : held counter (marking_of (net (Some 5) false true [] [])) 0 ≡ 0
none-held = refl

-- ---- steps: the source's token is given, and can't be given again

abbrev given : Network
given = net None false true (5 ∷ []) []

gives : Step opens (Fire 0) given
gives = record { ready = refl; after = record { token = 5; is = refl; after = refl } }

stops-twice : StopsAt 1 opens (Some (Fire 0) ∷ Some (Fire 0) ∷ Some (Latch 0) ∷ []) given (record { step = 2; cause = Fired })
stops-twice = record { done = 1; steps = (given, gives, refl); event = Some (Fire 0); next = refl; number = refl; refused = refl }

stops-at-none : StopsAt 1 opens (None ∷ []) opens (record { step = 1; cause = Stranger })
stops-at-none = record { done = 0; steps = refl; event = None; next = refl; number = refl; refused = refl }

-- a step isn't refused for a cause that it doesn't have, and the number of the stop is that of the refused step
not-so : StopsAt 1 opens (Some (Fire 0) ∷ []) opens (record { step = 1; cause = Fired }) → ⊥
not-so stops = by stops.done stops.number stops.event stops.next stops.refused
  where
    by : (done : ℕ) → 1 ≡ 1 + done → (event : Option Event) → slice_get (Some (Fire 0) ∷ []) done ≡ Some event → StepRefused opens event Fired → ⊥
    by zero number event next refused =
        let so : ◌≡◌ {A = Option StepRefusal} None (Some Fired) = subst (λ e. StepRefused opens e Fired) (sym (same_Some (Some (Fire 0)) event next)) refused in
        cc
    by (suc done) number event next refused = omega (arith, number)

not-another-number : (stops : StopsAt 1 opens (None ∷ []) opens (record { step = 2; cause = Stranger })) → ⊥
not-another-number stops = by stops.done stops.number stops.event stops.next
  where
    by : (done : ℕ) → 2 ≡ 1 + done → (event : Option Event) → slice_get (None ∷ []) done ≡ Some event → ⊥
    by zero number event next = omega (arith, number)
    by (suc done) number event next = let is : ◌≡◌ {A = Option (Option Event)} None (Some event) = next in cc

-- a greater capacity makes another layout
not-longer : HasLayout (frame_of opens) (record counter { links = (record { producer = 1; consumer = 0; capacity = 2; needs = []; piped = false }) ∷ (record { producer = 0; consumer = 2; capacity = 1; needs = []; piped = false }) ∷ [] }) → ⊥
not-longer has = let is : ◌≡◌ {A = ℕ} 2 1 = (has.link 0 (lit< tt)).capacity in omega (arith, is)

-- ---- needs and fields: machine 0 needs its ins 1 and 0, in this order, for its out, and one of its five ports has them as fields

abbrev reader : Port
reader = record { number = 4; access = ByReader 0 (record { addr = 1; en = 0; word = 2; clock = None }) }

abbrev needy : Frame
needy =
    record {
      kinds = record { behaviour = RunsPiece no_circuit; limit = 10; ratios = []; needs = (1 ∷ 0 ∷ []) ∷ []; port_count = 5; ports = reader ∷ []; ins = 2; outs = 1 }
          ∷ record { behaviour = KeepsLast 2; limit = 10; ratios = []; needs = [] ∷ [] ∷ []; port_count = 0; ports = []; ins = 1; outs = 2 }
          ∷ [];
      wires = record { producer = 1; out = 0; consumer = 0; place = 0; capacity = 1; first = None }
          ∷ record { producer = 1; out = 1; consumer = 0; place = 1; capacity = 1; first = None }
          ∷ record { producer = 0; out = 0; consumer = 1; place = 0; capacity = 1; first = None }
          ∷ [];
      end = 2;
    }

-- the layout with these needs and these fields
abbrev with_these : List ℕ → List ℕ → Layout
with_these needs fields =
    record {
      links = (record { producer = 1; consumer = 0; capacity = 1; needs = []; piped = false }) ∷ (record { producer = 1; consumer = 0; capacity = 1; needs = []; piped = false }) ∷ (record { producer = 0; consumer = 1; capacity = 1; needs = needs; piped = false }) ∷ [];
      port_counts = 5 ∷ 0 ∷ [];
      turns = ((record { number = 4; fields = fields }) ∷ []) ∷ [] ∷ [];
      end = 2;
    }

needy-fits : HasLayout needy (with_these (1 ∷ 0 ∷ []) (1 ∷ 0 ∷ []))
needy-fits = record { machines = refl; channels = refl; end = refl; ports = refl; link = links; turns = turns }
  where
    both : (k any : ℕ) → k < 2 → (slice_index_or (1 ∷ 0 ∷ []) k any < 3) × ((wire_at needy.wires (slice_index_or (1 ∷ 0 ∷ []) k any)).consumer ≡ 0)
    both zero any lt = (lit< tt, refl)
    both (suc zero) any lt = (lit< tt, refl)
    both (suc (suc k)) any lt = absurd (omega (arith, lt))

    links : (c : ℕ) → c < 3 → IsLinkOf needy c (link_at (with_these (1 ∷ 0 ∷ []) (1 ∷ 0 ∷ [])) c)
    links zero lt = record { producer = refl; consumer = refl; capacity = refl; piped = refl; needs = refl; taken = λ k any below. absurd (omega (arith, below)) }
    links (suc zero) lt = record { producer = refl; consumer = refl; capacity = refl; piped = refl; needs = refl; taken = λ k any below. absurd (omega (arith, below)) }
    links (suc (suc zero)) lt = record { producer = refl; consumer = refl; capacity = refl; piped = refl; needs = refl; taken = both }
    links (suc (suc (suc c))) lt = absurd (omega (arith, lt))

    own : (i : ℕ) (port : Port) (turn : Turn) → i < 1 → IsTurnOf needy 0 (slice_index_or (reader ∷ []) i port) (slice_index_or ((record { number = 4; fields = 1 ∷ 0 ∷ [] }) ∷ []) i turn)
    own zero port turn lt = record { number = refl; fields = refl; taken = both }
    own (suc i) port turn lt = absurd (omega (arith, lt))

    turns : (m : ℕ) → m < 2 → AreTurnsOf needy m (kind_at needy.kinds m).ports (turns_at (with_these (1 ∷ 0 ∷ []) (1 ∷ 0 ∷ [])) m)
    turns zero lt = record { count = refl; each = own }
    turns (suc zero) lt = no-turns needy 1
    turns (suc (suc m)) lt = absurd (omega (arith, lt))

    ins : (c d : ℕ) → c < d → d < 3 → (wire_at needy.wires c).consumer ≡ (wire_at needy.wires d).consumer → (wire_at needy.wires c).place < (wire_at needy.wires d).place
    ins c zero before lt same = absurd (omega (arith, before))
    ins zero (suc zero) before lt same = lit< tt
    ins (suc c) (suc zero) before lt same = absurd (omega (arith, before))
    ins zero (suc (suc zero)) before lt same = absurd (omega (arith, same))
    ins (suc zero) (suc (suc zero)) before lt same = absurd (omega (arith, same))
    ins (suc (suc c)) (suc (suc zero)) before lt same = absurd (omega (arith, before))
    ins c (suc (suc (suc d))) before lt same = absurd (omega (arith, lt))

    outs : (c d : ℕ) → c < d → d < 3 → (wire_at needy.wires c).producer ≡ (wire_at needy.wires d).producer → (wire_at needy.wires c).out < (wire_at needy.wires d).out
    outs c zero before lt same = absurd (omega (arith, before))
    outs zero (suc zero) before lt same = lit< tt
    outs (suc c) (suc zero) before lt same = absurd (omega (arith, before))
    outs zero (suc (suc zero)) before lt same = absurd (omega (arith, same))
    outs (suc zero) (suc (suc zero)) before lt same = absurd (omega (arith, same))
    outs (suc (suc c)) (suc (suc zero)) before lt same = absurd (omega (arith, before))
    outs c (suc (suc (suc d))) before lt same = absurd (omega (arith, lt))

-- not a layout: the same needs in another order, one need too few, and the fields in another order
not-other-needs : HasLayout needy (with_these (0 ∷ 1 ∷ []) (1 ∷ 0 ∷ [])) → ⊥
not-other-needs has = let is : ◌≡◌ {A = List ℕ} (0 ∷ 1 ∷ []) (1 ∷ 0 ∷ []) = (has.link 2 (lit< tt)).needs in cc

not-fewer-needs : HasLayout needy (with_these (1 ∷ []) (1 ∷ 0 ∷ [])) → ⊥
not-fewer-needs has = let is : ◌≡◌ {A = List ℕ} (1 ∷ []) (1 ∷ 0 ∷ []) = (has.link 2 (lit< tt)).needs in cc

not-other-fields : HasLayout needy (with_these (1 ∷ 0 ∷ []) (0 ∷ 1 ∷ [])) → ⊥
not-other-fields has =
    let is : ◌≡◌ {A = List ℕ} (0 ∷ 1 ∷ []) (1 ∷ 0 ∷ []) = ((has.turns 0 (lit< tt)).each 0 reader (record { number = 0; fields = [] }) (lit< tt)).fields in cc

-- not a layout: a count of the served ports alone, and no counts at all
not-those-served-alone : HasLayout needy (record (with_these (1 ∷ 0 ∷ []) (1 ∷ 0 ∷ [])) { port_counts = 1 ∷ 0 ∷ [] }) → ⊥
not-those-served-alone has = let is : ◌≡◌ {A = List ℕ} (1 ∷ 0 ∷ []) (5 ∷ 0 ∷ []) = has.ports in cc

not-without-counts : HasLayout needy (record (with_these (1 ∷ 0 ∷ []) (1 ∷ 0 ∷ [])) { port_counts = [] }) → ⊥
not-without-counts has = let is : ◌≡◌ {A = List ℕ} [] (5 ∷ 0 ∷ []) = has.ports in cc
