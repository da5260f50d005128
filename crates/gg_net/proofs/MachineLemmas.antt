-- One machine of a network that is kept: its tokens and its next state are those of its rows, and each of its steps
-- leaves it a machine that may stand at its place.
use Rattle.std.proofs.Common.{◌≡◌, ℕ, zero, suc, ◌<◌, ◌≤◌, ◌++◌, List, [], ◌∷◌, Option, None, Some, Bool, true, false, length, take, drop, refl, sym, ap, subst, ◌∙◌, ⊎_elim, arith, get_or-set_same, get_or-set_other, true≢false}
use Rattle.std.specs.Prelude.{All, Contains, IsSome, slice_index_or, slice_set, slice_get, replicate, if◌then◌else◌}
use Rattle.std.proofs.lemmas.Bool.{cases_eq, cases_lt, lt-ltb, le-ltb}
use Rattle.std.proofs.lemmas.List.{length-set, length-map, length-append, length-drop, length-replicate, get_or-map, ext_get_or, take_all}
use Rattle.std.proofs.lemmas.List.Elements.{All-append}
use Rattle.std.proofs.lemmas.Option.{same_Some, slice_get_within, get_or_from_slice_get, none-some}
use Rattle.std.proofs.Math.Seq.{take-suc}
use Rattle.gg_flat.specs.Line.{value_at}
use Rattle.gg_flat.specs.Clock.{Ratio, edges_at}
use Rattle.gg_flat.specs.Circuit.{FlatCircuit}
use Rattle.gg_flat.specs.State.{State, next_state}
use Rattle.gg_flat.specs.Settled.{Settled}
use Rattle.gg_flat.specs.Depends.{AreAlike}
use Rattle.gg_flat.specs.Run.{Start, row_at}
use Rattle.gg_flat.specs.Streams.{Flow}
use Rattle.gg_node.specs.Machine.{Behaviour, RunsPiece, GivesColumn, KeepsLast, Port, Machine, edges_of, latch_at, flag_at, latched_value, latched_values, first_empty, needs_at, missing}
use Rattle.gg_node.specs.inside.Machine.{port_number, due}
use Rattle.gg_node.specs.Token.{AgreesOn, IsToken, IsTokenOf, IsNextState, IsNextOf, accessed}
use Rattle.gg_node.specs.Step.{with_latch, with_flag, with_served, finished, kept_with, kept_after, fields_of, HasFields, AllFired}
use Rattle.gg_node.specs.inside.Step.{AllLatched}
use Rattle.gg_net.specs.Network.{wire_at, IsAtIn, entered_by, Kind, kind_at, Frame}
use Rattle.gg_net.specs.inside.Readings.{fields_at, due_fields}
use Rattle.gg_net.specs.Kept.{list_at, rows_at, start_at, ins_of, run_state, served_one, served_by, RunsRows, Runs, Answers, Asks, ServesRows, IsSound, IsStateOf, HasKept, Keeps, KeepsNone, MachineAt}
use Rattle.gg_net.proofs.LatchLemmas.{has-value, latch-within, latch-grows, value-latched, all-filled, missing-grows, no-latch, no-flag}
use Rattle.gg_net.proofs.WireLemmas.{one-in}
use Rattle.gg_net.proofs.StateLemmas.{run_state-next, settled-at, accessed-is, served-next}
use Rattle.gg_net.proofs.ChannelLemmas.{taken-one, put-one}

-- ---- over plain variables

one : {X : Type 0} (P : X → Type 0) (x : X) → P x → All P (x ∷ [])
one P x p zero d below = p
one P x p (suc k) d below = absurd (omega arith)

none-of-none : {X : Type 0} (P : X → Type 0) (xs : List X) → All P (take 0 xs)
none-of-none P xs k d below = absurd (omega arith)

-- if a number is due, its port exists
pub due-port : (port : Option Port) (p : ℕ) → port_number port ≡ Some p → (q : Port) × (port ≡ Some q)
due-port None p is = absurd (none-some p is)
due-port (Some q) p is = (q, refl)

-- a tray's values, with one more
kept-more : (list kept : List ℕ) (begin rows cycle value : ℕ) → 0 < rows → HasKept list begin rows cycle kept → value ≡ value_at list cycle → HasKept list begin rows (suc cycle) (kept_with rows kept value)
kept-more list kept begin rows cycle value some has is =
    let give : Bool → List ℕ = λ few. if few then kept ++ value ∷ [] else drop 1 kept ++ value ∷ [] in
    ⊎_elim
    (λ (lt : length kept < rows). subst (HasKept list begin rows (suc cycle)) (sym (ap give (lt-ltb (length kept) rows lt)))
    (record { base = has.base; between = put-one list rows has.base cycle kept value has.between lt is; begun = has.begun; whole = λ few. has.whole lt }))
    (λ (le : rows ≤ length kept).
    let less : length (drop 1 kept) < rows = omega (arith, le, some, has.between.room, length-drop 1 kept) in
    subst (HasKept list begin rows (suc cycle)) (sym (ap give (le-ltb (length kept) rows le)))
    (record {
      base = suc has.base;
      between = put-one list rows (suc has.base) cycle (drop 1 kept) value (taken-one list rows has.base cycle kept has.between (omega (arith, le, some))) less is;
      begun = omega (arith, has.begun);
      whole = λ few. absurd (omega (arith, few, le, some, length-append (drop 1 kept) (value ∷ []), length-drop 1 kept));
    }))
    (cases_lt (length kept) rows)

-- the state of a machine is determined by its rows
pub state-once : (b : Behaviour) (start : Start) (ports : List Port) (rows : List (List ℕ)) (cycle served : ℕ) (one other : State) → IsStateOf b start ports rows cycle served one → IsStateOf b start ports rows cycle served other → one ≡ other
state-once (RunsPiece piece) start ports rows cycle served one other is same = is ∙ sym same
state-once (GivesColumn column) start ports rows cycle served one other is same = is ∙ sym same
state-once (KeepsLast most) start ports rows cycle served one other is same = is ∙ sym same

module _ (flow : Flow) (frame : Frame) (sound : IsSound flow frame) (m : ℕ) (below : m < length frame.kinds) where
  abbrev kind : Kind
  kind = kind_at frame.kinds m

  abbrev rows : List (List ℕ)
  rows = rows_at flow.runs m

  abbrev start : Start
  start = start_at flow kind m

  -- the channel's value is the one that the machine's rows ask for at its in
  pub asks : (c t : ℕ) → c < length frame.wires → (wire_at frame.wires c).consumer ≡ m → flow.begin ≤ t → t < frame.end → Asks kind.behaviour rows (wire_at frame.wires c).place t (value_at (list_at flow.lists c) t)
  asks c t known is le lt = subst (λ q. Asks (kind_at frame.kinds q).behaviour (rows_at flow.runs q) (wire_at frame.wires c).place t (value_at (list_at flow.lists c) t)) is (sound.solves.taken c known t le lt)

  -- the channel's value is the one that the machine's rows give at its out
  pub answers : (c t : ℕ) → c < length frame.wires → (wire_at frame.wires c).producer ≡ m → flow.begin ≤ t → t < frame.end → Answers kind.behaviour rows (wire_at frame.wires c).out t (value_at (list_at flow.lists c) (entered_by (wire_at frame.wires c).first t))
  answers c t known is le lt = subst (λ p. Answers (kind_at frame.kinds p).behaviour (rows_at flow.runs p) (wire_at frame.wires c).out t (value_at (list_at flow.lists c) (entered_by (wire_at frame.wires c).first t))) is (sound.solves.given c known t le lt)

  -- a machine that runs a piece has rows that are a run of the piece
  pub does : (piece : FlatCircuit) → kind.behaviour ≡ RunsPiece piece → RunsRows piece kind start rows frame.end
  does piece is = subst (λ b. Runs b kind start rows frame.end) is (sound.solves.does m below)

  module _ (x : Machine) (at : MachineAt flow frame m x) where
    pub behaviour-is : kind.behaviour ≡ x.behaviour
    behaviour-is = sym (ap (λ (k : Kind). k.behaviour) at.kind)

    ports-is : kind.ports ≡ x.ports
    ports-is = sym (ap (λ (k : Kind). k.ports) at.kind)

    ratios-is : kind.ratios ≡ x.ratios
    ratios-is = sym (ap (λ (k : Kind). k.ratios) at.kind)

    needs-is : kind.needs ≡ x.needs
    needs-is = sym (ap (λ (k : Kind). k.needs) at.kind)

    ins-is : length x.latches ≡ kind.ins
    ins-is = ap (λ (k : Kind). k.ins) at.kind

    outs-is : length x.flags ≡ kind.outs
    outs-is = ap (λ (k : Kind). k.outs) at.kind

    -- the row of the cycle
    abbrev row : List ℕ
    row = row_at rows x.cycle

    -- ---- tokens and states

    -- a token in a latch is the in-signal's value in the row
    in-value : (piece : FlatCircuit) → kind.behaviour ≡ RunsPiece piece → (i value : ℕ) → latch_at x.latches i ≡ Some value → value_at (ins_of piece row) i ≡ value
    in-value piece is i value has =
        let held : i < length x.latches = latch-within x.latches i value has in
        let within : i < kind.ins = omega (arith, held, ins-is) in
        let c : ℕ = (sound.wired.into m i below within).0 in
        let at_in : IsAtIn frame.wires m i c = (sound.wired.into m i below within).1 in
        let token : (x.cycle < frame.end) × (value ≡ value_at (list_at flow.lists c) x.cycle) = at.latched c value at_in.known at_in.machine (subst (λ j. latch_at x.latches j ≡ Some value) (sym at_in.place) has) in
        let asked : value_at row (value_at piece.ins (wire_at frame.wires c).place) ≡ value_at (list_at flow.lists c) x.cycle = subst (λ b. Asks b rows (wire_at frame.wires c).place x.cycle (value_at (list_at flow.lists c) x.cycle)) is (asks c x.cycle at_in.known at_in.machine at.begun token.0) in
        let count : kind.ins ≡ length piece.ins = (does piece is).ins in
        get_or-map (value_at row) piece.ins i 0 0 (omega (arith, within, count))
        ∙ ap (λ j. value_at row (value_at piece.ins j)) (sym at_in.place)
        ∙ asked
        ∙ sym token.1

    -- the row is settled in the machine's state
    settled : (piece : FlatCircuit) → kind.behaviour ≡ RunsPiece piece → x.cycle < frame.end → x.state ≡ run_state piece start rows x.cycle → Settled piece x.state (ins_of piece row) row
    settled piece is lt state =
        subst (λ s. Settled piece s (ins_of piece row) row) (sym state) (settled-at piece start rows x.cycle frame.end at.begun lt (does piece is).is)

    -- the channel's value is the out's value in the row
    answer-by : (b : Behaviour) (c : ℕ) → kind.behaviour ≡ b → c < length frame.wires → (wire_at frame.wires c).producer ≡ m → x.cycle < frame.end → Answers b rows (wire_at frame.wires c).out x.cycle (value_at (list_at flow.lists c) (entered_by (wire_at frame.wires c).first x.cycle))
    answer-by b c is known from lt = subst (λ b. Answers b rows (wire_at frame.wires c).out x.cycle (value_at (list_at flow.lists c) (entered_by (wire_at frame.wires c).first x.cycle))) is (answers c x.cycle known from at.begun lt)

    -- the state of a piece of which no port was served
    unserved-state : (piece : FlatCircuit) → x.served ≡ 0 → IsStateOf (RunsPiece piece) start x.ports rows x.cycle x.served x.state → x.state ≡ run_state piece start rows x.cycle
    unserved-state piece none stands = stands ∙ ap (λ n. served_by (edges_at kind.ratios x.cycle) (ins_of piece row) (run_state piece start rows x.cycle) (take n x.ports)) none

    token-by : (b : Behaviour) (c value : ℕ) → kind.behaviour ≡ b → c < length frame.wires → (wire_at frame.wires c).producer ≡ m → x.cycle < frame.end → x.served ≡ 0 → IsStateOf b start x.ports rows x.cycle x.served x.state → IsTokenOf b x (wire_at frame.wires c).out value
        → value ≡ value_at (list_at flow.lists c) (entered_by (wire_at frame.wires c).first x.cycle)
    token-by (RunsPiece piece) c value is known from lt none stands token =
        sym (token (ins_of piece row) row (settled piece is lt (unserved-state piece none stands)) (λ i v needed has. in-value piece is i v has)) ∙ answer-by (RunsPiece piece) c is known from lt
    token-by (GivesColumn column) c value is known from lt none stands token =
        sym token ∙ answer-by (GivesColumn column) c is known from lt
    token-by (KeepsLast kept) c value is known from lt none stands token = absurd token

    -- while an out hasn't given its token, no port was served
    unserved : (o : ℕ) → o < length x.flags → flag_at x.flags o ≡ false → x.served ≡ 0
    unserved o within clear =
        ⊎_elim (λ (lt : 0 < x.served). absurd (true≢false (sym (at.serving lt o false within) ∙ clear))) (λ (le : x.served ≤ 0). omega (arith, le)) (cases_lt 0 x.served)

    pub out-within : (c : ℕ) → c < length frame.wires → (wire_at frame.wires c).producer ≡ m → (wire_at frame.wires c).out < length x.flags
    out-within c known is =
        let within : (wire_at frame.wires c).out < kind.outs = subst (λ p. (wire_at frame.wires c).out < (kind_at frame.kinds p).outs) is (sound.wired.out c known) in
        omega (arith, within, outs-is)

    pub place-within : (c : ℕ) → c < length frame.wires → (wire_at frame.wires c).consumer ≡ m → (wire_at frame.wires c).place < length x.latches
    place-within c known is =
        let within : (wire_at frame.wires c).place < kind.ins = subst (λ q. (wire_at frame.wires c).place < (kind_at frame.kinds q).ins) is (sound.wired.place c known) in
        omega (arith, within, ins-is)

    -- The token of an out is the channel's value.
    pub token_is : (c value : ℕ) → c < length frame.wires → (wire_at frame.wires c).producer ≡ m → x.cycle < frame.end → flag_at x.flags (wire_at frame.wires c).out ≡ false → IsToken x (wire_at frame.wires c).out value → value ≡ value_at (list_at flow.lists c) (entered_by (wire_at frame.wires c).first x.cycle)
    token_is c value known from lt clear token =
        token-by x.behaviour c value behaviour-is known from lt (unserved (wire_at frame.wires c).out (out-within c known from) clear) at.stands token

    -- inputs that agree with the tokens are those of the row, at the ins that an out needs
    alike : (piece : FlatCircuit) → kind.behaviour ≡ RunsPiece piece → (o : ℕ) (inputs : List ℕ) → missing x o ≡ None → AgreesOn (needs_at x.needs o) x.latches inputs → AreAlike (needs_at kind.needs o) inputs (ins_of piece row)
    alike piece is o inputs none agrees i needed =
        let among : Contains (needs_at x.needs o) i = subst (λ needs. Contains (needs_at needs o) i) needs-is needed in
        let some : IsSome (latch_at x.latches i) = subst (λ j. IsSome (latch_at x.latches j)) among.2 (all-filled x.latches (needs_at x.needs o) none among.0 i among.1) in
        let has : latch_at x.latches i ≡ Some (latched_value (latch_at x.latches i)) = has-value (latch_at x.latches i) some in
        agrees i (latched_value (latch_at x.latches i)) among has ∙ sym (in-value piece is i (latched_value (latch_at x.latches i)) has)

    there-by : (b : Behaviour) (c : ℕ) → kind.behaviour ≡ b → c < length frame.wires → (wire_at frame.wires c).producer ≡ m → x.cycle < frame.end → x.served ≡ 0 → missing x (wire_at frame.wires c).out ≡ None → IsStateOf b start x.ports rows x.cycle x.served x.state
        → IsTokenOf b x (wire_at frame.wires c).out (value_at (list_at flow.lists c) (entered_by (wire_at frame.wires c).first x.cycle))
    there-by (RunsPiece piece) c is known from lt none needed stands = λ inputs signals settles agrees.
        let o : ℕ = (wire_at frame.wires c).out in
        let within : o < length piece.outs = omega (arith, out-within c known from, outs-is, (does piece is).outs) in
        (does piece is).suffice o within x.state inputs (ins_of piece row) signals row settles (settled piece is lt (unserved-state piece none stands)) (alike piece is o inputs needed agrees)
        ∙ answer-by (RunsPiece piece) c is known from lt
    there-by (GivesColumn column) c is known from lt none needed stands = answer-by (GivesColumn column) c is known from lt
    there-by (KeepsLast most) c is known from lt none needed stands = answer-by (KeepsLast most) c is known from lt

    -- The channel's value is the token of an out that may give it.
    pub token_there : (c : ℕ) → c < length frame.wires → (wire_at frame.wires c).producer ≡ m → x.cycle < frame.end → flag_at x.flags (wire_at frame.wires c).out ≡ false → missing x (wire_at frame.wires c).out ≡ None
        → IsToken x (wire_at frame.wires c).out (value_at (list_at flow.lists c) (entered_by (wire_at frame.wires c).first x.cycle))
    token_there c known from lt clear needed = there-by x.behaviour c behaviour-is known from lt (unserved (wire_at frame.wires c).out (out-within c known from) clear) needed at.stands

    -- the tokens are the inputs of the row
    inputs-latched : (piece : FlatCircuit) → kind.behaviour ≡ RunsPiece piece → AllLatched x → ins_of piece row ≡ latched_values x.latches
    inputs-latched piece is all =
        let count : kind.ins ≡ length piece.ins = (does piece is).ins in
        ext_get_or 0 (ins_of piece row) (latched_values x.latches) (length-map piece.ins (value_at row) ∙ sym count ∙ sym ins-is ∙ sym (length-map x.latches latched_value)) (λ i lt.
        let within : i < length x.latches = omega (arith, lt, length-map piece.ins (value_at row), count, ins-is) in
        let has : latch_at x.latches i ≡ Some (latched_value (latch_at x.latches i)) = has-value (latch_at x.latches i) (all i None within) in
        in-value piece is i (latched_value (latch_at x.latches i)) has ∙ sym (value-latched x.latches i (latched_value (latch_at x.latches i)) has))

    -- the row is settled with the tokens as its inputs
    latched-settled : (piece : FlatCircuit) → kind.behaviour ≡ RunsPiece piece → x.cycle < frame.end → AllLatched x → x.state ≡ run_state piece start rows x.cycle → Settled piece x.state (latched_values x.latches) row
    latched-settled piece is lt all state = subst (λ inputs. Settled piece x.state inputs row) (inputs-latched piece is all) (settled piece is lt state)

    next-by : (b : Behaviour) (ps : List Port) (next : State) → kind.behaviour ≡ b → x.ports ≡ ps → x.cycle < frame.end → AllLatched x → x.served ≡ length x.ports → IsStateOf b start x.ports rows x.cycle x.served x.state → IsNextOf b ps x next → IsStateOf b start x.ports rows (suc x.cycle) 0 next
    next-by (RunsPiece piece) [] next is ports lt all whole stands goes =
        let state : x.state ≡ run_state piece start rows x.cycle = unserved-state piece (whole ∙ ap length ports) stands in
        goes row (latched-settled piece is lt all state) ∙ ap (λ (ratios : List Ratio). next_state (edges_at ratios x.cycle) piece x.state row) (sym ratios-is) ∙ ap (λ s. next_state (edges_at kind.ratios x.cycle) piece s row) state ∙ sym (run_state-next piece start rows x.cycle at.begun)
    next-by (RunsPiece piece) (p ∷ ps) next is ports lt all whole stands goes =
        let serves : ServesRows piece start rows frame.end (p ∷ ps) = subst (ServesRows piece start rows frame.end) (ports-is ∙ ports) (does piece is).serves in
        goes ∙ stands
        ∙ ap (served_by (edges_at kind.ratios x.cycle) (ins_of piece row) (run_state piece start rows x.cycle)) (take_all x.served x.ports (omega (arith, whole)) ∙ ports)
        ∙ serves x.cycle at.begun lt
    next-by (GivesColumn column) ps next is ports lt all whole stands goes = goes ∙ stands
    next-by (KeepsLast kept) ps next is ports lt all whole stands goes = goes ∙ stands

    -- The next state is the one to which the rows lead.
    pub next_is : (next : State) → x.cycle < frame.end → AllLatched x → x.served ≡ length x.ports → IsNextState x next → IsStateOf x.behaviour start x.ports rows (suc x.cycle) 0 next
    next_is next lt all whole goes = next-by x.behaviour x.ports next behaviour-is refl lt all whole at.stands goes

    goes-by : (b : Behaviour) (ps : List Port) → kind.behaviour ≡ b → x.ports ≡ ps → x.cycle < frame.end → AllLatched x → x.served ≡ length x.ports → IsStateOf b start x.ports rows x.cycle x.served x.state → (next : State) × IsNextOf b ps x next
    goes-by (RunsPiece piece) [] is ports lt all whole stands =
        (next_state (edges_of x) piece x.state row, λ signals settles. ap (next_state (edges_of x) piece x.state) ((does piece is).once x.state (latched_values x.latches) row signals (latched-settled piece is lt all (unserved-state piece (whole ∙ ap length ports) stands)) settles))
    goes-by (RunsPiece piece) (p ∷ ps) is ports lt all whole stands = (x.state, refl)
    goes-by (GivesColumn column) ps is ports lt all whole stands = (x.state, refl)
    goes-by (KeepsLast most) ps is ports lt all whole stands = (x.state, refl)

    -- A machine that may finish its cycle has a next state.
    pub next_there : x.cycle < frame.end → AllLatched x → x.served ≡ length x.ports → (next : State) × IsNextState x next
    next_there lt all whole = goes-by x.behaviour x.ports behaviour-is refl lt all whole at.stands

    -- It has only one.
    pub next_once : (one other : State) → x.cycle < frame.end → AllLatched x → x.served ≡ length x.ports → IsNextState x one → IsNextState x other → one ≡ other
    next_once one other lt all whole is same = state-once x.behaviour start x.ports rows (suc x.cycle) 0 one other (next_is one lt all whole is) (next_is other lt all whole same)

    -- ---- steps

    -- After a token was latched, the machine may stand at its place.
    pub own_latch : (c value : ℕ) → c < length frame.wires → (wire_at frame.wires c).consumer ≡ m → x.cycle < frame.end → latch_at x.latches (wire_at frame.wires c).place ≡ None → value ≡ value_at (list_at flow.lists c) x.cycle
        → MachineAt flow frame m (with_latch x (wire_at frame.wires c).place value)
    own_latch c value known is lt empty token =
        let i : ℕ = (wire_at frame.wires c).place in
        let within : i < length x.latches = place-within c known is in
        record {
          kind = ap (λ n. record { behaviour = x.behaviour; limit = x.limit; ratios = x.ratios; needs = x.needs; port_count = x.port_count; ports = x.ports; ins = n; outs = length x.flags }) (length-set x.latches i (Some value)) ∙ at.kind;
          begun = at.begun;
          within = at.within;
          stands = at.stands;
          latched = λ d v there to has. ⊎_elim
              (λ (same : (wire_at frame.wires d).place ≡ i).
              let one : d ≡ c = one-in frame sound.wired d c there known (to ∙ sym is) same in
              let value_is : value ≡ v = same_Some value v (sym (get_or-set_same x.latches i (Some value) None within) ∙ ap (latch_at (slice_set x.latches i (Some value))) (sym same) ∙ has) in
              (lt, sym value_is ∙ token ∙ ap (λ k. value_at (list_at flow.lists k) x.cycle) (sym one)))
              (λ other. at.latched d v there to (sym (get_or-set_other x.latches i (wire_at frame.wires d).place (Some value) None other) ∙ has))
              (cases_eq (wire_at frame.wires d).place i);
          fired = λ o flag. ((at.fired o flag).0, missing-grows x.latches i value (needs_at x.needs o) within (at.fired o flag).1);
          served = at.served;
          serving = at.serving;
          fields = λ k d lt j e there. latch-grows x.latches i value (slice_index_or (fields_of (slice_index_or (take x.served x.ports) k d).access) j e) within (at.fields k d lt j e there);
          kept = at.kept;
          rest = at.rest;
        }

    -- After a token was given, the machine may stand at its place.
    pub own_fire : (c : ℕ) → c < length frame.wires → (wire_at frame.wires c).producer ≡ m → x.cycle < frame.end → flag_at x.flags (wire_at frame.wires c).out ≡ false → missing x (wire_at frame.wires c).out ≡ None
        → MachineAt flow frame m (with_flag x (wire_at frame.wires c).out)
    own_fire c known is lt clear needed =
        let o : ℕ = (wire_at frame.wires c).out in
        let within : o < length x.flags = out-within c known is in
        record {
          kind = ap (λ n. record { behaviour = x.behaviour; limit = x.limit; ratios = x.ratios; needs = x.needs; port_count = x.port_count; ports = x.ports; ins = length x.latches; outs = n }) (length-set x.flags o true) ∙ at.kind;
          begun = at.begun;
          within = at.within;
          stands = at.stands;
          latched = at.latched;
          fired = λ p flag. ⊎_elim
              (λ (same : p ≡ o). (lt, ap (missing x) same ∙ needed))
              (λ other. at.fired p (sym (get_or-set_other x.flags o p true false other) ∙ flag))
              (cases_eq p o);
          served = at.served;
          serving = λ pos. let none : x.served ≡ 0 = unserved o within clear in absurd (omega (arith, pos, none));
          fields = at.fields;
          kept = at.kept;
          rest = at.rest;
        }

    -- a machine without a piece serves no port
    no-port : kind.ports ≡ [] → (q : Port) → slice_get x.ports x.served ≡ Some q → ⊥
    no-port none q port = let within : x.served < length x.ports = slice_get_within x.ports x.served q port in omega (arith, within, ap length none, ap length ports-is)

    stands-served : (b : Behaviour) (q : Port) → kind.behaviour ≡ b → slice_get x.ports x.served ≡ Some q → first_empty x.latches (fields_of q.access) ≡ None → IsStateOf b start x.ports rows x.cycle x.served x.state
        → IsStateOf b start x.ports rows x.cycle (suc x.served) (accessed (edges_of x) x.latches x.state (slice_get x.ports x.served))
    stands-served (RunsPiece piece) q is port none stands =
        let inputs : List ℕ = ins_of piece row in
        ap (accessed (edges_of x) x.latches x.state) port
        ∙ accessed-is (edges_of x) x.latches inputs x.state q (λ k d lt.
        let i : ℕ = slice_index_or (fields_of q.access) k d in
        let has : latch_at x.latches i ≡ Some (latched_value (latch_at x.latches i)) = has-value (latch_at x.latches i) (all-filled x.latches (fields_of q.access) none k d lt) in
        value-latched x.latches i (latched_value (latch_at x.latches i)) has ∙ sym (in-value piece is i (latched_value (latch_at x.latches i)) has))
        ∙ ap (λ (ratios : List Ratio). served_one (edges_at ratios x.cycle) inputs x.state q) (sym ratios-is)
        ∙ ap (λ s. served_one (edges_at kind.ratios x.cycle) inputs s q) stands
        ∙ sym (served-next (edges_at kind.ratios x.cycle) inputs (run_state piece start rows x.cycle) x.ports x.served q port)
    stands-served (GivesColumn column) q is port none stands = absurd (no-port (subst (λ b. Runs b kind start rows frame.end) is (sound.solves.does m below)).1 q port)
    stands-served (KeepsLast kept) q is port none stands = absurd (no-port (subst (λ b. Runs b kind start rows frame.end) is (sound.solves.does m below)).1 q port)

    -- After a port was served, the machine may stand at its place.
    pub own_serve : (p : ℕ) → x.cycle < frame.end → AllFired x → due x ≡ Some p → first_empty x.latches (due_fields x) ≡ None → MachineAt flow frame m (with_served x)
    own_serve p lt fired due none =
        let q : Port = (due-port (slice_get x.ports x.served) p due).0 in
        let port : slice_get x.ports x.served ≡ Some q = (due-port (slice_get x.ports x.served) p due).1 in
        let within : x.served < length x.ports = slice_get_within x.ports x.served q port in
        let filled : first_empty x.latches (fields_of q.access) ≡ None = subst (λ (o : Option Port). first_empty x.latches (fields_at o) ≡ None) port none in
        record {
          kind = at.kind;
          begun = at.begun;
          within = at.within;
          stands = stands-served x.behaviour q behaviour-is port filled at.stands;
          latched = at.latched;
          fired = at.fired;
          served = omega (arith, within);
          serving = λ pos. fired;
          fields =
              subst (All (HasFields x.latches)) (sym (take-suc x.ports x.served q within ∙ ap (λ (r : Port). take x.served x.ports ++ r ∷ []) (get_or_from_slice_get x.ports x.served q q port)))
              (All-append (HasFields x.latches) (take x.served x.ports) (q ∷ []) at.fields (one (HasFields x.latches) q (all-filled x.latches (fields_of q.access) filled)));
          kept = at.kept;
          rest = at.rest;
        }

    kept-by : (b : Behaviour) (c : ℕ) → kind.behaviour ≡ b → c < length frame.wires → (wire_at frame.wires c).consumer ≡ m → AllLatched x → x.cycle < frame.end → Keeps b flow.begin (list_at flow.lists c) x.cycle x.kept → Keeps b flow.begin (list_at flow.lists c) (suc x.cycle) (kept_after b x.latches x.kept)
    kept-by (RunsPiece piece) c is known to all lt keeps = tt
    kept-by (GivesColumn column) c is known to all lt keeps = tt
    kept-by (KeepsLast most) c is known to all lt keeps =
        let runs : Runs (KeepsLast most) kind start rows frame.end = subst (λ b. Runs b kind start rows frame.end) is (sound.solves.does m below) in
        let lone : kind.ins ≡ 1 = runs.0 in
        let within : (wire_at frame.wires c).place < length x.latches = place-within c known to in
        let first : (wire_at frame.wires c).place ≡ 0 = omega (arith, within, ins-is, lone) in
        let has : latch_at x.latches 0 ≡ Some (latched_value (latch_at x.latches 0)) = has-value (latch_at x.latches 0) (all 0 None (omega (arith, ins-is, lone))) in
        kept-more (list_at flow.lists c) x.kept flow.begin most x.cycle (latched_value (latch_at x.latches 0)) (runs.2 (omega (arith, lt))) keeps
        (at.latched c (latched_value (latch_at x.latches 0)) known to (ap (latch_at x.latches) first ∙ has)).1

    rest-by : (b : Behaviour) → KeepsNone b x.kept → KeepsNone b (kept_after b x.latches x.kept)
    rest-by (RunsPiece piece) none = none
    rest-by (GivesColumn column) none = none
    rest-by (KeepsLast most) none = tt

    -- After the cycle was finished, the machine may stand at its place.
    pub own_finish : (next : State) → x.cycle < frame.end → AllLatched x → x.served ≡ length x.ports → IsNextState x next → MachineAt flow frame m (finished x next)
    own_finish next lt all whole goes =
        record {
          kind =
              ap (λ n. record { behaviour = x.behaviour; limit = x.limit; ratios = x.ratios; needs = x.needs; port_count = x.port_count; ports = x.ports; ins = n; outs = length (replicate (length x.flags) false) }) (length-replicate (length x.latches) None)
              ∙ ap (λ n. record { behaviour = x.behaviour; limit = x.limit; ratios = x.ratios; needs = x.needs; port_count = x.port_count; ports = x.ports; ins = length x.latches; outs = n }) (length-replicate (length x.flags) false)
              ∙ at.kind;
          begun = omega (arith, at.begun);
          within = omega (arith, lt);
          stands = next_is next lt all whole goes;
          latched = λ c v known to has. absurd (no-latch (length x.latches) (wire_at frame.wires c).place v has);
          fired = λ o flag. absurd (no-flag (length x.flags) o flag);
          served = omega arith;
          serving = λ pos. absurd (omega (arith, pos));
          fields = none-of-none (HasFields (replicate (length x.latches) None)) x.ports;
          kept = λ c known to. kept-by x.behaviour c behaviour-is known to all lt (at.kept c known to);
          rest = rest-by x.behaviour at.rest;
        }
