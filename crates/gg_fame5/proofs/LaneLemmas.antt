-- A lane of a program, and slots that hold it.
use Rattle.std.proofs.Common.{◌≡◌, ◌≢◌, ◌↔◌, ℕ, ◌+◌, ◌<◌, ◌≤◌, List, Option, None, Some, Bool, true, false, true≢false, nat_eq, length, replicate, refl, sym, ap, subst, ◌∙◌, inl, inr, arith}
use Rattle.std.specs.Prelude.{IsSome, Contains, slice_set}
use Rattle.std.proofs.lemmas.Bool.{cases_lt}
use Rattle.std.proofs.lemmas.Bool.Decides.{Decides-eqb}
use Rattle.std.proofs.lemmas.List.{get_or-set_same, get_or-set_other, get_or_past, length-replicate, length-set, length-map}
use Rattle.std.proofs.lemmas.Option.{none-some}
use Rattle.gg_bits.specs.Shape.{Fits}
use Rattle.gg_flat.specs.Clock.{Ratio}
use Rattle.gg_flat.specs.Line.{shape_at, value_at}
use Rattle.gg_flat.specs.Circuit.{FlatCircuit}
use Rattle.gg_flat.specs.WellFormed.{IsWellFormed}
use Rattle.gg_flat.specs.State.{State, IsState}
use Rattle.gg_flat.specs.Settled.{in_shapes}
use Rattle.gg_node.specs.Machine.{latch_at, latched_value, needs_at, first_empty, missing}
use Rattle.gg_node.proofs.EmptyLemmas.{empty-after}
use Rattle.gg_order.specs.needs.Needs.{AreNeedsOfOuts}
use Rattle.gg_program.specs.Programmed.{Programmed}
use Rattle.gg_program.specs.Slots.{Slotted, NoneDone, HasInput, HasNeeded, DoneWith, inputs_in}
use Rattle.gg_program.specs.inside.Slots.{with_input}
use Rattle.gg_program.specs.Right.{InCycle}
use Rattle.gg_program.proofs.SearchLemmas.{mark-more, mark-cases}
use Rattle.gg_program.proofs.RightLemmas.{ins-once, inputs-put}
use Rattle.gg_program.proofs.EvaluateLemmas.{values-count}
use Rattle.gg_program.proofs.CycleLemmas.{InCycle-put}
use Rattle.gg_fame5.specs.inside.Fork.{out_of, out_count, AreOuts}
use Rattle.gg_fame5.specs.inside.Lane.{Laned, lane_machine, HaveTokens, IsLane, Hold, latched_lane, fired_lane}
use Rattle.gg_fame5.proofs.ForkLemmas.{needs-chosen}
use Rattle.gg_fame5.proofs.TokenLemmas.{has-token, tokens-latched, empty-latch, latched-at}

-- ---- no token is latched

pub IsLane-empty : (circuit : FlatCircuit) (outs : Option (List ℕ)) (ratios : List Ratio) (cycle : ℕ) (state : State) (n m : ℕ) → AreOuts circuit outs → IsState circuit state → n ≡ length circuit.ins → m ≡ out_count (length circuit.outs) outs → IsLane circuit (record { outs = outs; ratios = ratios; cycle = cycle; state = state; latches = replicate n None; flags = replicate m false })
IsLane-empty circuit outs ratios cycle state n m known typed ins each =
    record {
      known = known;
      typed = typed;
      ins = length-replicate n None ∙ ins;
      outs = length-replicate m false ∙ each;
      fit = λ i value is. absurd (none-some value (sym (empty-after n i) ∙ is));
    }

pub Hold-empty : (circuit : FlatCircuit) (slots : Slotted) (outs : Option (List ℕ)) (ratios : List Ratio) (cycle : ℕ) (state : State) (n : ℕ) (flags : List Bool) → InCycle circuit state slots → NoneDone slots → Hold circuit slots (record { outs = outs; ratios = ratios; cycle = cycle; state = state; latches = replicate n None; flags = flags })
Hold-empty circuit slots outs ratios cycle state n flags in_cycle none =
    record {
      cycle = in_cycle;
      put = λ i within. (λ has. absurd (none (value_at circuit.ins i) has), λ some. absurd (empty-latch (latch_at (replicate n None) i) (empty-after n i) some));
      tokens = λ i value is. absurd (none-some value (sym (empty-after n i) ∙ is));
    }

-- ---- the outs of the program

pub missing-of : (program : Programmed) (lane : Laned) (place : ℕ) → IsLane program.circuit lane → place < length lane.flags → first_empty lane.latches (needs_at program.needs (out_of lane.outs place)) ≡ missing (lane_machine program lane) place
missing-of program lane place is below = ap (first_empty lane.latches) (sym (needs-chosen program.needs (length program.circuit.outs) lane.outs place (omega (arith, below, is.outs))))

-- ---- a token is latched

pub IsLane-latched : (piece : FlatCircuit) (lane : Laned) (place token : ℕ) → place < length lane.latches → Fits (shape_at (in_shapes piece) place) token → IsLane piece lane → IsLane piece (latched_lane lane place token)
IsLane-latched piece lane place token below fits is =
    record {
      known = is.known;
      typed = is.typed;
      ins = length-set lane.latches place (Some token) ∙ is.ins;
      outs = is.outs;
      fit = λ i value has. by i value has (nat_eq i place) refl;
    }
  where
    same-token : (value : ℕ) → Some token ≡ Some value → token ≡ value
    same-token value e = cc

    by : (i value : ℕ) → latch_at (slice_set lane.latches place (Some token)) i ≡ Some value → (b : Bool) → nat_eq i place ≡ b → Fits (shape_at (in_shapes piece) i) value
    by i value has true e =
        let at : i ≡ place = (Decides-eqb i place).0 e in
        let here : latch_at (slice_set lane.latches place (Some token)) place ≡ Some value = ap (latch_at (slice_set lane.latches place (Some token))) (sym at) ∙ has in
        let is_token : token ≡ value = same-token value (sym (get_or-set_same lane.latches place (Some token) None below) ∙ here) in
        subst (λ (k : ℕ). Fits (shape_at (in_shapes piece) k) value) (sym at) (subst (Fits (shape_at (in_shapes piece) place)) is_token fits)
    by i value has false e =
        let other : i ≢ place = λ same. true≢false (sym ((Decides-eqb i place).1 same) ∙ e) in
        is.fit i value (sym (get_or-set_other lane.latches place i (Some token) None other) ∙ has)

pub Hold-latched : (piece : FlatCircuit) (slots after : Slotted) (lane : Laned) (place token : ℕ) → IsWellFormed piece → IsLane piece lane → Hold piece slots lane → place < length lane.latches → after ≡ with_input piece slots place token → InCycle piece lane.state after → inputs_in piece after.values ≡ slice_set (inputs_in piece slots.values) place token → Hold piece after (latched_lane lane place token)
Hold-latched piece slots after lane place token formed is held below put cycle inputs =
    record {
      cycle = cycle;
      put = λ i within. (to i within, from i within);
      tokens =
          subst (HaveTokens (slice_set lane.latches place (Some token))) (sym inputs)
          (tokens-latched lane.latches (inputs_in piece slots.values) place token (is.ins ∙ sym (length-map piece.ins (λ s. value_at slots.values s))) below held.tokens);
    }
  where
    there : place < length piece.ins
    there = omega (arith, below, is.ins)

    marked : value_at piece.ins place < length slots.done
    marked = omega (arith, (formed.ins place there).0, held.cycle.held.count)

    to : (i : ℕ) → i < length piece.ins → HasInput piece after i → IsSome (latch_at (slice_set lane.latches place (Some token)) i)
    to i within has = elim (mark-cases slots.done (value_at piece.ins place) (value_at piece.ins i) (subst (λ (s : Slotted). HasInput piece s i) put has)) [
      | inl old ↦ (latched-at lane.latches place token i below).1 (inl ((held.put i within).0 old))
      | inr same ↦ (latched-at lane.latches place token i below).1 (inr (ins-once piece place i formed there within same))
    ]

    from : (i : ℕ) → i < length piece.ins → IsSome (latch_at (slice_set lane.latches place (Some token)) i) → HasInput piece after i
    from i within some = subst (λ (s : Slotted). HasInput piece s i) (sym put) (elim ((latched-at lane.latches place token i below).0 some) [
      | inl old ↦ mark-more slots.done (value_at piece.ins place) (value_at piece.ins i) marked ((held.put i within).1 old)
      | inr same ↦ subst (λ (x : ℕ). HasInput piece (with_input piece slots place token) x) same (get_or-set_same slots.done (value_at piece.ins place) true false marked)
    ])

-- if the latch is empty, the input wasn't put
pub free-latch : (piece : FlatCircuit) (slots : Slotted) (lane : Laned) (place : ℕ) → place < length piece.ins → latch_at lane.latches place ≡ None → Hold piece slots lane → ¬ HasInput piece slots place
free-latch piece slots lane place below empty held has = empty-latch (latch_at lane.latches place) empty ((held.put place below).0 has)

-- ---- a flag is set

pub IsLane-fired : (piece : FlatCircuit) (lane : Laned) (place : ℕ) → IsLane piece lane → IsLane piece (fired_lane lane place)
IsLane-fired piece lane place is = record { known = is.known; typed = is.typed; ins = is.ins; outs = length-set lane.flags place true ∙ is.outs; fit = is.fit }

pub Hold-fired : (piece : FlatCircuit) (slots : Slotted) (lane : Laned) (place : ℕ) → Hold piece slots lane → Hold piece slots (fired_lane lane place)
Hold-fired piece slots lane place held = record { cycle = held.cycle; put = held.put; tokens = held.tokens }

-- ---- a token is worked out

-- if none of the ins that an out needs is empty, the needed inputs were put
pub needed-put : (program : Programmed) (slots : Slotted) (lane : Laned) (out : ℕ) → AreNeedsOfOuts program.circuit program.needs → out < length program.circuit.outs → Hold program.circuit slots lane → first_empty lane.latches (needs_at program.needs out) ≡ None → HasNeeded program.circuit slots (value_at program.circuit.outs out)
needed-put program slots lane out needs below held none place within reaches =
    let latches = lane.latches in
    let has : Contains (needs_at program.needs out) place = ((needs.each out below).exact place).1 (within, reaches) in
    let token : latch_at latches place ≡ Some (latched_value (latch_at latches place)) = subst (λ i. latch_at latches i ≡ Some (latched_value (latch_at latches i))) has.2 (has-token latches (needs_at program.needs out) none has.0 place has.1) in
    (held.put place within).1 (subst (λ (l : Option ℕ). IsSome l) (sym token) refl)

pub Hold-read : (piece : FlatCircuit) (slots after : Slotted) (lane : Laned) (out : ℕ) → Hold piece slots lane → HasNeeded piece slots out → DoneWith piece out slots after → InCycle piece lane.state after → inputs_in piece after.values ≡ inputs_in piece slots.values → Hold piece after lane
Hold-read piece slots after lane out held needed done cycle same =
    record {
      cycle = cycle;
      put = λ i within. (
        λ has. elim (done.only (value_at piece.ins i) has) [
          | inl old ↦ (held.put i within).0 old
          | inr more ↦ elim more [ inl reaches ↦ (held.put i within).0 (needed i within reaches) | inr all ↦ (held.put i within).0 (all i within) ]
        ],
        λ some. done.done (value_at piece.ins i) (inl ((held.put i within).1 some)),
      );
      tokens = subst (HaveTokens lane.latches) (sym same) held.tokens;
    }

-- ---- slots are made to hold a lane

-- the first k inputs are there if they have tokens
pub record IsLoading (piece : FlatCircuit) (lane : Laned) (k : ℕ) (slots : Slotted) : Type 0 where
  pub cycle : InCycle piece lane.state slots
  pub put : (i : ℕ) → i < length piece.ins → HasInput piece slots i ↔ (IsSome (latch_at lane.latches i) × (i < k))
  pub tokens : (i value : ℕ) → i < k → latch_at lane.latches i ≡ Some value → value_at (inputs_in piece slots.values) i ≡ value

pub IsLoading-start : (piece : FlatCircuit) (lane : Laned) (slots : Slotted) → InCycle piece lane.state slots → NoneDone slots → IsLoading piece lane 0 slots
IsLoading-start piece lane slots cycle none =
    record {
      cycle = cycle;
      put = λ i within. (λ has. absurd (none (value_at piece.ins i) has), λ e. absurd (omega (arith, e.1)));
      tokens = λ i value lt is. absurd (omega (arith, lt));
    }

pub IsLoading-skip : (piece : FlatCircuit) (lane : Laned) (k : ℕ) (slots : Slotted) → latch_at lane.latches k ≡ None → IsLoading piece lane k slots → IsLoading piece lane (k + 1) slots
IsLoading-skip piece lane k slots empty h =
    record {
      cycle = h.cycle;
      put = λ i within. (
        λ has. let of = (h.put i within).0 has in (of.0, omega (arith, of.1)),
        λ e. (h.put i within).1 (e.0, before i e.1 (λ same. empty-latch (latch_at lane.latches k) empty (subst (λ (x : ℕ). IsSome (latch_at lane.latches x)) same e.0))),
      );
      tokens = λ i value lt is. h.tokens i value (before i lt (λ same. none-some value (sym empty ∙ ap (latch_at lane.latches) (sym same) ∙ is))) is;
    }
  where
    before : (i : ℕ) → i < k + 1 → i ≢ k → i < k
    before i lt other = omega (arith, lt, other)

pub IsLoading-step : (piece : FlatCircuit) (lane : Laned) (k token : ℕ) (slots after : Slotted) → IsWellFormed piece → IsLane piece lane → k < length lane.latches → latch_at lane.latches k ≡ Some token → after ≡ with_input piece slots k token → inputs_in piece after.values ≡ slice_set (inputs_in piece slots.values) k token → InCycle piece lane.state after → IsLoading piece lane k slots → IsLoading piece lane (k + 1) after
IsLoading-step piece lane k token slots after formed is below full put inputs cycle h =
    record {
      cycle = cycle;
      put = λ i within. (to i within, from i within);
      tokens = λ i value lt has. by i value lt has (nat_eq i k) refl;
    }
  where
    there : k < length piece.ins
    there = omega (arith, below, is.ins)

    marked : value_at piece.ins k < length slots.done
    marked = omega (arith, (formed.ins k there).0, h.cycle.held.count)

    to : (i : ℕ) → i < length piece.ins → HasInput piece after i → IsSome (latch_at lane.latches i) × (i < k + 1)
    to i within has = elim (mark-cases slots.done (value_at piece.ins k) (value_at piece.ins i) (subst (λ (s : Slotted). HasInput piece s i) put has)) [
      | inl old ↦ let of = (h.put i within).0 old in (of.0, omega (arith, of.1))
      | inr same ↦ let at : k ≡ i = ins-once piece k i formed there within same in (subst (λ (x : ℕ). IsSome (latch_at lane.latches x)) at (subst (λ (l : Option ℕ). IsSome l) (sym full) refl), omega (arith, at))
    ]

    from : (i : ℕ) → i < length piece.ins → IsSome (latch_at lane.latches i) × (i < k + 1) → HasInput piece after i
    from i within e = subst (λ (s : Slotted). HasInput piece s i) (sym put) (elim (cases_lt i k) [
      | inl less ↦ mark-more slots.done (value_at piece.ins k) (value_at piece.ins i) marked ((h.put i within).1 (e.0, less))
      | inr ge ↦ let at : k ≡ i = omega (arith, ge, e.1) in subst (λ (x : ℕ). HasInput piece (with_input piece slots k token) x) at (get_or-set_same slots.done (value_at piece.ins k) true false marked)
    ])

    some-same : (value other : ℕ) → Some value ≡ Some other → value ≡ other
    some-same value other e = cc

    by : (i value : ℕ) → i < k + 1 → latch_at lane.latches i ≡ Some value → (b : Bool) → nat_eq i k ≡ b → value_at (inputs_in piece after.values) i ≡ value
    by i value lt has true e =
        let at : i ≡ k = (Decides-eqb i k).0 e in
        let here : k < length (inputs_in piece slots.values) = omega (arith, there, length-map piece.ins (λ s. value_at slots.values s)) in
        ap (λ (l : List ℕ). value_at l i) inputs ∙ ap (value_at (slice_set (inputs_in piece slots.values) k token)) at ∙ get_or-set_same (inputs_in piece slots.values) k token 0 here ∙ some-same token value (sym full ∙ ap (latch_at lane.latches) (sym at) ∙ has)
    by i value lt has false e =
        let other : i ≢ k = λ same. true≢false (sym ((Decides-eqb i k).1 same) ∙ e) in
        ap (λ (l : List ℕ). value_at l i) inputs ∙ get_or-set_other (inputs_in piece slots.values) k i token 0 other ∙ h.tokens i value (omega (arith, lt, other)) has

-- the next input wasn't put yet
pub IsLoading-free : (piece : FlatCircuit) (lane : Laned) (k : ℕ) (slots : Slotted) → k < length piece.ins → IsLoading piece lane k slots → ¬ HasInput piece slots k
IsLoading-free piece lane k slots below h has = let of = (h.put k below).0 has in absurd (omega (arith, of.1))

pub not-some : (latch : Option ℕ) → ((value : ℕ) → latch ≢ Some value) → latch ≡ None
not-some None not = refl
not-some (Some value) not = absurd (not value refl)

-- one more token is put
pub IsLoading-put : (piece : FlatCircuit) (lane : Laned) (k token : ℕ) (slots after : Slotted) → IsWellFormed piece → IsLane piece lane → k < length piece.ins → latch_at lane.latches k ≡ Some token → after ≡ with_input piece slots k token → IsLoading piece lane k slots → IsLoading piece lane (k + 1) after
IsLoading-put piece lane k token slots after formed is below full put h =
    IsLoading-step piece lane k token slots after formed is (omega (arith, below, is.ins)) full put
    (ap (λ (s : Slotted). inputs_in piece s.values) put ∙ inputs-put piece slots.values k token formed below (values-count piece slots.values h.cycle.held.typed))
    (subst (InCycle piece lane.state) (sym put) (InCycle-put piece lane.state slots k token formed below (is.fit k token full) (IsLoading-free piece lane k slots below h) h.cycle))
    h

pub IsLoading-end : (piece : FlatCircuit) (lane : Laned) (k : ℕ) (slots : Slotted) → IsLane piece lane → length piece.ins ≤ k → IsLoading piece lane k slots → Hold piece slots lane
IsLoading-end piece lane k slots is all h =
    record {
      cycle = h.cycle;
      put = λ i within. (λ has. ((h.put i within).0 has).0, λ some. (h.put i within).1 (some, omega (arith, within, all)));
      tokens = λ i value has. h.tokens i value (inside i value has) has;
    }
  where
    inside : (i value : ℕ) → latch_at lane.latches i ≡ Some value → i < k
    inside i value has = elim (cases_lt i (length lane.latches)) [
      | inl lt ↦ omega (arith, lt, is.ins, all)
      | inr le ↦ absurd (none-some value (sym (get_or_past lane.latches i None le) ∙ has))
    ]
