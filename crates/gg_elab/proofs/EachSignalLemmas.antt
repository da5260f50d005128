-- Each signal of a circuit has a driver, and a register if it holds one, if the shapes of the circuit's signals are those of types.
use Rattle.std.proofs.Common.{◌≡◌, ℕ, ◌+◌, ◌<◌, List, [], ◌∷◌, ◌++◌, length, Option, Some, None, refl, sym, subst, append_assoc, if◌then◌else◌, arith}
use Rattle.std.specs.Prelude.{MatchOption, ⊤}
use Rattle.std.proofs.lemmas.List.{append-nil}
use Rattle.gg_bits.specs.Shape.{Shape}
use Rattle.gg_ast.specs.declared.statement.Reset as given
use Rattle.gg_flat.specs.declared.line.Node.{Node}
use Rattle.gg_flat.specs.declared.memory.Latency.{Latency}
use Rattle.gg_flat.specs.declared.memory.Latency.TheVariants as latencies
use Rattle.gg_flat.specs.declared.piece.Driver.{Driver}
use Rattle.gg_flat.specs.declared.piece.Driver.TheVariants.{Input, Held, Computed}
use Rattle.gg_flat.specs.declared.piece.Register.{Register}
use Rattle.gg_flat.specs.declared.piece.Reset as kept
use Rattle.gg_flat.specs.Circuit.{FlatCircuit, no_circuit}
use Rattle.gg_flat.specs.Line.{HasType, IsSource, shape_at}
use Rattle.gg_flat.specs.WellFormed.{IsReset}
use Rattle.gg_elab_tree.specs.inside.Fitting.{FitsDriver, IsFitting}
use Rattle.gg_elab_sites.specs.Connection.{Connection}
use Rattle.gg_elab_sites.specs.Flat.{Answers, Drive, FlatSignal, Gets, Holds, Outside, Scope}
use Rattle.gg_elab_sites.specs.IsFlat.{HasNext, HasReset, answer, number_of}
use Rattle.gg_elab_sites.specs.Meaning.{Bindings, Context, in_scope}
use Rattle.gg_elab.specs.inside.Building.{IsMade, IsSoFar, is_input_driver, with_made}
use Rattle.gg_elab.proofs.BuildLemmas.{so_far-more}
use Rattle.gg_elab.proofs.EachLineLemmas.{connected, taken, tested}
use Rattle.gg_elab.proofs.SizedLemmas.{AreFlatSized, IsSized, type_of}

-- what a reader answers is no line
answer-fits : (shapes : List Shape) (sink : Shape) (latency : Latency) (memory reader addr en : ℕ) → FitsDriver shapes sink (answer latency memory reader addr en)
answer-fits shapes sink latencies.Zero memory reader addr en = tt
answer-fits shapes sink (latencies.One under) memory reader addr en = tt

module _ (bindings : Bindings) (even : length bindings.signals.paths ≡ length bindings.signals.shapes) (sized : (s : ℕ) → s < length bindings.signals.shapes → IsSized (shape_at bindings.signals.shapes s)) where
  -- ---- one signal

  -- a driver and a register, if there is one, for a signal with this drive
  record HasDriver (inputs states : ℕ) (sink : Shape) (drive : Drive) : Type 0 where
    driver : Driver
    register : Option Register
    made : IsMade bindings inputs states sink drive driver register
    fits : IsFitting bindings.signals.shapes sink driver register

  module _ (scope : Scope) (sink : Shape) (s : IsSized sink) where
    abbrev w : Context
    w = in_scope bindings scope

    asked : (reset : Option given.Reset) → (made : Option kept.Reset) × HasReset w sink reset made × MatchOption made ⊤ (IsReset (HasType bindings.signals.shapes) sink)
    asked None = (None, refl, tt)
    asked (Some reset) =
        let condition = tested w even sized reset.condition in
        let init = taken w even sized sink s reset.init in
        (Some (record { condition = condition.0; init = init.0 }), (condition.1, init.1), record { condition = condition.2; init = init.2 })

    followed : (next : Option Connection) → (made : Option (List Node)) × HasNext w sink next made × MatchOption made ⊤ (IsSource (HasType bindings.signals.shapes) sink)
    followed None = (None, refl, tt)
    followed (Some c) = let line = connected w even sized sink s (Some c) in (Some line.0, line.1, line.2)

  driven : (inputs states : ℕ) (sink : Shape) → IsSized sink → (drive : Drive) → HasDriver inputs states sink drive
  driven inputs states sink s Outside = record { driver = Input inputs; register = None; made = (refl, refl); fits = (tt, tt) }
  driven inputs states sink s (Gets scope c) =
      let line = connected (in_scope bindings scope) even sized sink s c in
      record { driver = Computed line.0; register = None; made = (record { line = line.0; computed = refl; stands = line.1 }, refl); fits = (line.2, tt) }
  driven inputs states sink s (Holds scope reset next own clock) =
      let first = asked scope sink s reset in
      let onward = followed scope sink s next in
      record {
        driver = Held states;
        register = Some (record { ty = type_of sink s; reset = first.0; next = onward.0; clock = clock });
        made = (refl, record { typed = refl; reset_is = first.1; next_is = onward.1; clocked = refl });
        fits = (tt, record { reset = first.2; next = onward.2 });
      }
  driven inputs states sink s (Answers memory place latency addr en) =
      let number = number_of bindings.memories memory in
      let a = number_of bindings.signals.paths addr in
      let e = number_of bindings.signals.paths en in
      record { driver = answer latency number place a e; register = None; made = (refl, refl); fits = (answer-fits bindings.signals.shapes sink latency number place a e, tt) }

  -- ---- all signals

  -- a flat circuit with these signals so far
  pub record Built (xs : List FlatSignal) : Type 0 where
    pub flat : FlatCircuit
    pub inputs : ℕ
    pub so_far : IsSoFar bindings xs flat inputs

  pub none-built : Built []
  none-built =
      record {
        flat = no_circuit;
        inputs = 0;
        so_far = record {
          paths = refl;
          shapes = refl;
          drivers = λ s lt. absurd (omega (arith, lt));
          register_count = refl;
          input_count = refl;
          fitting = λ s lt. absurd (omega (arith, lt));
          registers_fit = λ i d lt. absurd (omega (arith, lt));
          no_memories = refl;
          no_ins = refl;
          no_outs = refl;
        };
      }

  more-built : (xs : List FlatSignal) (x : FlatSignal) → IsSized x.shape → Built xs → Built (xs ++ x ∷ [])
  more-built xs x s built =
      let d = driven built.inputs (length built.flat.registers) x.shape s x.drive in
      record {
        flat = with_made built.flat x.path (type_of x.shape s) d.driver d.register;
        inputs = if is_input_driver d.driver then built.inputs + 1 else built.inputs;
        so_far = so_far-more bindings xs x built.flat built.inputs (if is_input_driver d.driver then built.inputs + 1 else built.inputs) x.path (type_of x.shape s) d.driver d.register built.so_far refl refl d.made d.fits refl;
      }

  pub all-built : (before rest : List FlatSignal) → AreFlatSized rest → Built before → Built (before ++ rest)
  all-built before [] h built = subst Built (sym (append-nil before)) built
  all-built before (x ∷ rest) h built = subst Built (append_assoc before (x ∷ []) rest) (all-built (before ++ x ∷ []) rest h.1 (more-built before x h.0 built))
