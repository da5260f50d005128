-- Machines worked by hand: what they are after some steps, and which values are their tokens.
use Rattle.std.proofs.Common.{◌≡◌, ℕ, zero, suc, ◌<◌, [], ◌∷◌, Some, None, Bool, true, false, refl, sym, ap, subst, ◌∙◌, arith}
use Rattle.std.specs.Prelude.{Contains, ⊤}
use Rattle.std.proofs.lemmas.Option.{none-some}
use Rattle.gg_flat.specs.declared.line.Op.TheVariants.{Ref}
use Rattle.gg_flat.specs.declared.piece.Driver.TheVariants.{Input, Computed}
use Rattle.gg_bits.specs.Shape.{Fits, uint}
use Rattle.gg_bits.specs.Meaning.{extended}
use Rattle.gg_flat.specs.Line.{shape_at, value_at}
use Rattle.gg_flat.specs.Circuit.{FlatCircuit, signal_shapes, driver_at}
use Rattle.gg_flat.specs.State.{State}
use Rattle.gg_flat.specs.Settled.{Settled, driver_value}
use Rattle.gg_flat.proofs.WorkedCircuits.{eight, node}
use Rattle.gg_node.specs.Machine.{RunsPiece, Machine, latch_at, latched_value, missing, no_state, source_machine, tray_machine, kept_value}
use Rattle.gg_node.specs.Token.{IsToken, IsNextState}
use Rattle.gg_node.specs.inside.Step.{MayFire, MayFinish}
use Rattle.gg_node.specs.Step.{with_latch, with_flag, finished}

-- ---- a tray of two rows over three cycles

abbrev tray : Machine
tray = tray_machine 2 10 0 [] None

abbrev tray-after-one : Machine
tray-after-one = finished (with_latch tray 0 1) no_state

abbrev tray-after-two : Machine
tray-after-two = finished (with_latch tray-after-one 0 2) no_state

abbrev tray-after-three : Machine
tray-after-three = finished (with_latch tray-after-two 0 3) no_state

kept-one : tray-after-one ≡ tray_machine 2 10 1 (1 ∷ []) None
kept-one = refl

kept-two : tray-after-two ≡ tray_machine 2 10 2 (1 ∷ 2 ∷ []) None
kept-two = refl

-- with two values already, the oldest goes
kept-three : tray-after-three ≡ tray_machine 2 10 3 (2 ∷ 3 ∷ []) None
kept-three = refl

not-oldest : tray-after-three ≡ tray_machine 2 10 3 (1 ∷ 2 ∷ []) None → ⊥
not-oldest is = omega (arith, ap (λ machine. value_at machine.kept 0) is)

-- it tells the values of cycles 1 and 2; that of cycle 0 is forgotten, and cycle 3 isn't finished
tells-second : kept_value tray-after-three 1 ≡ Some 2
tells-second = refl

tells-third : kept_value tray-after-three 2 ≡ Some 3
tells-third = refl

forgets-first : kept_value tray-after-three 0 ≡ None
forgets-first = refl

told-first : kept_value tray-after-two 0 ≡ Some 1
told-first = refl

not-yet : kept_value tray-after-three 3 ≡ None
not-yet = refl

-- a tray that begins at cycle 7 has no value of a cycle before
abbrev late-tray : Machine
late-tray = finished (with_latch (tray_machine 2 10 7 [] None) 0 5) no_state

tells-late : kept_value late-tray 7 ≡ Some 5
tells-late = refl

not-before : kept_value late-tray 6 ≡ None
not-before = refl

-- it can't finish without a token
abbrev IsClear : Bool → Type 0
IsClear false = ⊤
IsClear true = ⊥

not-without : MayFinish tray → ⊥
not-without may = subst IsClear (may.latched 0 None (omega arith)) tt

-- ---- a source of two values

abbrev source : Machine
source = source_machine (4 ∷ 6 ∷ []) 0 (false ∷ [])

gives-first : IsToken source 0 4
gives-first = refl

not-second : IsToken source 0 6 → ⊥
not-second is = omega (arith, is)

flag-clears : finished (with_flag source 0) no_state ≡ source_machine (4 ∷ 6 ∷ []) 1 (false ∷ [])
flag-clears = refl

-- a source of two outs gives the same value at each, and has a flag for each
abbrev fork : Machine
fork = source_machine (4 ∷ 6 ∷ []) 0 (false ∷ false ∷ [])

gives-at-both : IsToken (with_flag fork 0) 1 4
gives-at-both = refl

one-left : MayFire (with_flag fork 0) 1
one-left = record { there = omega arith; clear = refl; needed = refl; known = omega arith }

not-twice : MayFire (with_flag fork 0) 0 → ⊥
not-twice may = subst IsClear (sym may.clear) tt

gives-second : IsToken (finished (with_flag source 0) no_state) 0 6
gives-second = refl

-- ---- a unit of two ins and one out: the out `p` is the in `a`, and a register takes the in `b`

abbrev pair : FlatCircuit
pair =
    record {
      paths = (97 ∷ []) ∷ (98 ∷ []) ∷ (112 ∷ []) ∷ [];
      signals = record { ty = eight; driver = Input 0 } ∷ record { ty = eight; driver = Input 1 } ∷ record { ty = eight; driver = Computed (node eight (Ref 0) ∷ []) } ∷ [];
      registers = record { ty = eight; reset = None; next = Some (node eight (Ref 1) ∷ []); clock = None } ∷ [];
      memories = [];
      ins = 0 ∷ 1 ∷ [];
      outs = 2 ∷ [];
      clocks = 0;
    }

abbrev holds : ℕ → State
holds v = record { registers = v ∷ []; banks = [] }

abbrev unit : Machine
unit = record { behaviour = RunsPiece pair; limit = 10; ratios = []; needs = (0 ∷ []) ∷ []; port_count = 0; ports = []; cycle = 0; state = holds 3; served = 0; latches = None ∷ None ∷ []; flags = false ∷ []; kept = [] }

-- the out needs only `a`
needs-a : missing unit 0 ≡ Some 0
needs-a = refl

no-more : missing (with_latch unit 0 5) 0 ≡ None
no-more = refl

has-a : Contains {X = ℕ} (0 ∷ []) 0
has-a = (0, omega arith, refl)

token-is-a : IsToken (with_latch unit 0 5) 0 5
token-is-a inputs signals is agrees = is.driven 2 (omega arith) ∙ ap (extended (uint 8) 8) (is.driven 0 (omega arith) ∙ agrees 0 5 has-a refl)

-- a row of this cycle, to show that no other value is the token
row-fits : (i : ℕ) → i < 3 → Fits (shape_at (signal_shapes pair) i) (value_at (5 ∷ 0 ∷ 5 ∷ []) i)
row-fits zero below = omega arith
row-fits (suc zero) below = omega arith
row-fits (suc (suc zero)) below = omega arith
row-fits (suc (suc (suc i))) below = absurd (omega arith)

row-driven : (s : ℕ) → s < 3 → value_at (5 ∷ 0 ∷ 5 ∷ []) s ≡ driver_value (holds 3) (5 ∷ 0 ∷ []) (5 ∷ 0 ∷ 5 ∷ []) (shape_at (signal_shapes pair) s) (driver_at pair s)
row-driven zero below = refl
row-driven (suc zero) below = refl
row-driven (suc (suc zero)) below = refl
row-driven (suc (suc (suc i))) below = absurd (omega arith)

row-settled : Settled pair (holds 3) (5 ∷ 0 ∷ []) (5 ∷ 0 ∷ 5 ∷ [])
row-settled = record { typed = record { count = refl; fits = row-fits }; driven = row-driven }

row-agrees : (i value : ℕ) → Contains {X = ℕ} (0 ∷ []) i → latch_at (Some 5 ∷ None ∷ []) i ≡ Some value → value_at (5 ∷ 0 ∷ []) i ≡ value
row-agrees zero value has is = ap latched_value is
row-agrees (suc zero) value has is = absurd (none-some value is)
row-agrees (suc (suc i)) value has is = absurd (none-some value is)

not-another : IsToken (with_latch unit 0 5) 0 6 → ⊥
not-another is = omega (arith, is (5 ∷ 0 ∷ []) (5 ∷ 0 ∷ 5 ∷ []) row-settled row-agrees)

-- with both ins, the register takes `b`, and nothing of this cycle is left
abbrev latched-both : Machine
latched-both = with_flag (with_latch (with_latch unit 0 5) 1 9) 0

next-is-b : IsNextState latched-both (holds 9)
next-is-b signals is = sym (ap (λ v. holds (extended (uint 8) 8 v)) (is.driven 1 (omega arith)))

cleaned : finished latched-both (holds 9) ≡ record unit { cycle = 1; state = holds 9 }
cleaned = refl
