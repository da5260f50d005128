-- Registers: what is added to a tape changes none of those before it, and what the instructions of their lines give.
use Rattle.std.proofs.Common.{◌≡◌, ◌≢◌, ℕ, ◌<◌, ◌≤◌, ◌+◌, List, [], ◌∷◌, ◌++◌, length, get_or, refl, sym, ◌∙◌, ap, ap₂, subst, arith, below_more}
use Rattle.std.specs.Prelude.{Bool, true, false, Option, Some, None, MatchOption, ⊤, max, ◌==◌, if◌then◌else◌}
use Rattle.std.proofs.Math.Nat.{le-max_left, le-max_right}
use Rattle.std.proofs.lemmas.Bool.Decides.{Decides-eqb}
use Rattle.std.proofs.lemmas.List.{get_or_default, get_or_at, get_or_append_left, length-append}
use Rattle.gg_bits.specs.Shape.{Shape, shape}
use Rattle.gg_flat.specs.declared.line.Node.{Node}
use Rattle.gg_flat.specs.declared.piece.Register.{Register}
use Rattle.gg_flat.specs.declared.piece.Reset.{Reset}
use Rattle.gg_flat.specs.Line.{IsSource, line_value, connected_value}
use Rattle.gg_flat.specs.inside.Line.{HasValue}
use Rattle.gg_flat.specs.Circuit.{FlatCircuit}
use Rattle.gg_flat.specs.Memory.{Bank}
use Rattle.gg_flat.specs.State.{State, connected_or, reset_or}
use Rattle.gg_flat.specs.WellFormed.{IsReset}
use Rattle.gg_order.specs.runs.Room.{next_length, reset_length}
use Rattle.gg_tape.specs.declared.code.Stretch.{Stretch}
use Rattle.gg_tape.specs.declared.code.Code.{Code}
use Rattle.gg_tape.specs.declared.taped.TapedReset.{TapedReset}
use Rattle.gg_tape.specs.declared.taped.TapedRegister.{TapedRegister}
use Rattle.gg_tape.specs.inside.Instruction.{small}
use Rattle.gg_tape.specs.inside.Cells.{Celled}
use Rattle.gg_tape.specs.inside.Tape.{Grows, TellsFor, IsTapedNext, TellsReset, IsTapedReset, IsTapedRegister, AreTapedRegisters, CanTell, CanConnect}
use Rattle.gg_tape.proofs.CodeLemmas.{line-more, for-more, for-can}

-- ---- more code

next-more : (n : ℕ) (old new : Code) (sink : Shape) (taped : Option Stretch) (next : Option (List Node)) → Grows old new → IsTapedNext n old sink taped next → IsTapedNext n new sink taped next
next-more n old new sink None next grows is = is
next-more n old new sink (Some stretch) next grows is = (is.0, is.1, for-more n old new sink stretch is.0 grows is.2)

pub reset-more : (n : ℕ) (old new : Code) (sink : Shape) (taped : Option TapedReset) (reset : Option Reset) → Grows old new → IsTapedReset n old sink taped reset → IsTapedReset n new sink taped reset
reset-more n old new sink None reset grows is = is
reset-more n old new sink (Some taped) reset grows is =
    let own : Reset = is.0 in
    let lines : TellsReset n old sink taped own = is.2 in
    (own, is.1, record { condition = line-more n old new taped.condition own.condition grows lines.condition; init = for-more n old new sink taped.init own.init grows lines.init })

register-more : (n : ℕ) (old new : Code) (taped : TapedRegister) (register : Register) → Grows old new → IsTapedRegister n old taped register → IsTapedRegister n new taped register
register-more n old new taped register grows is =
    record {
      clock = is.clock;
      reset = reset-more n old new (shape register.ty) taped.reset register.reset grows is.reset;
      next = next-more n old new (shape register.ty) taped.next register.next grows is.next;
    }

-- one register more
pub registers-push : (circuit : FlatCircuit) (old new : Code) (all : List TapedRegister) (taped : TapedRegister) (register : Register) → Grows old new → AreTapedRegisters circuit old all → IsTapedRegister (length circuit.signals) new taped register → length all < length circuit.registers → register ≡ get_or circuit.registers (length all) register
    → AreTapedRegisters circuit new (all ++ taped ∷ [])
registers-push circuit old new all taped register grows are is lt read = λ r t x within.
    let P : ℕ → Type 0 = λ r. IsTapedRegister (length circuit.signals) new (get_or (all ++ taped ∷ []) r t) (get_or circuit.registers r x) in
    let below : (k : ℕ) → k < length all → P k = λ k before.
    subst (λ (y : TapedRegister). IsTapedRegister (length circuit.signals) new y (get_or circuit.registers k x)) (sym (get_or_append_left all (taped ∷ []) t k before))
    (register-more (length circuit.signals) old new (get_or all k t) (get_or circuit.registers k x) grows (are k t x before)) in
    let here : P (length all) =
    subst (λ (y : TapedRegister). IsTapedRegister (length circuit.signals) new y (get_or circuit.registers (length all) x)) (sym (get_or_at all taped [] t (length all) refl))
    (subst (λ (y : Register). IsTapedRegister (length circuit.signals) new taped y) (read ∙ get_or_default circuit.registers (length all) register x lt) is) in
    below_more P (length all) below here r (count-more all taped r within)
  where
    count-more : (all : List TapedRegister) (taped : TapedRegister) (r : ℕ) → r < length (all ++ taped ∷ []) → r < length all + 1
    count-more all taped r within = subst (λ (k : ℕ). r < k) (length-append all (taped ∷ [])) within

-- ---- connections

-- What the instructions of a connection require, and that its value is the register's.
pub record GivesNext (code : Code) (sink : Shape) (stretch : Stretch) (cells : Celled) (next : Option (List Node)) : Type 0 where
  pub line : List Node
  pub can : CanConnect code stretch cells line
  pub sink_is : small stretch.sink ≡ sink
  pub gives : (own : ℕ) → connected_value cells.values (small stretch.sink) line ≡ connected_or cells.values sink next own

pub next-gives : (code : Code) (sink : Shape) (stretch : Stretch) (cells : Celled) (next : Option (List Node)) → IsTapedNext (length cells.values) code sink (Some stretch) next → MatchOption next ⊤ (IsSource (HasValue cells.values) sink) → next_length next ≤ cells.room → GivesNext code sink stretch cells next
next-gives code sink stretch cells next is source room =
    let line : List Node = is.0 in
    let at : next ≡ Some line = is.1 in
    let tells : TellsFor (length cells.values) code sink stretch line = is.2 in
    let own_source : IsSource (HasValue cells.values) sink line = subst (λ (o : Option (List Node)). MatchOption o ⊤ (IsSource (HasValue cells.values) sink)) at source in
    record {
      line = line;
      can = for-can code sink stretch cells line tells own_source (subst (λ (o : Option (List Node)). next_length o ≤ cells.room) at room);
      sink_is = tells.sink_is;
      gives = λ own. ap (λ s. connected_value cells.values s line) tells.sink_is ∙ sym (ap (λ (o : Option (List Node)). connected_or cells.values sink o own) at);
    }

-- ---- resets

-- What the instructions of a reset require, and which value it gives the register.
pub record GivesReset (code : Code) (sink : Shape) (taped : TapedReset) (cells : Celled) (reset : Option Reset) : Type 0 where
  pub own : Reset
  pub condition : CanTell code taped.condition cells own.condition
  pub init : CanConnect code taped.init cells own.init
  pub sink_is : small taped.init.sink ≡ sink
  pub set : (other : ℕ) → line_value cells.values own.condition ≡ 1 → connected_value cells.values (small taped.init.sink) own.init ≡ reset_or cells.values sink reset other
  pub unset : (other : ℕ) → line_value cells.values own.condition ≢ 1 → other ≡ reset_or cells.values sink reset other

if-one : (v a b : ℕ) → v ≡ 1 → (if v == 1 then a else b) ≡ a
if-one v a b is = ap (λ x. if x == 1 then a else b) is

if-other : (v a b : ℕ) → v ≢ 1 → (if v == 1 then a else b) ≡ b
if-other v a b other = by (v == 1) refl
  where
    by : (x : Bool) → (v == 1) ≡ x → (if x then a else b) ≡ b
    by true is = absurd (other ((Decides-eqb v 1).0 is))
    by false is = refl

pub reset-gives : (code : Code) (sink : Shape) (taped : TapedReset) (cells : Celled) (reset : Option Reset) → IsTapedReset (length cells.values) code sink (Some taped) reset → MatchOption reset ⊤ (IsReset (HasValue cells.values) sink) → reset_length reset ≤ cells.room → GivesReset code sink taped cells reset
reset-gives code sink taped cells reset is may room =
    let own : Reset = is.0 in
    let at : reset ≡ Some own = is.1 in
    let lines : TellsReset (length cells.values) code sink taped own = is.2 in
    let known : IsReset (HasValue cells.values) sink own = subst (λ (o : Option Reset). MatchOption o ⊤ (IsReset (HasValue cells.values) sink)) at may in
    let long : max (length own.condition) (length own.init) ≤ cells.room = subst (λ (o : Option Reset). reset_length o ≤ cells.room) at room in
    record {
      own = own;
      condition = record { tells = lines.condition; line_is = known.condition.line; room = omega (arith, long, le-max_left (length own.condition) (length own.init)) };
      init = for-can code sink taped.init cells own.init lines.init known.init (omega (arith, long, le-max_right (length own.condition) (length own.init)));
      sink_is = lines.init.sink_is;
      set = λ other one.
          ap (λ s. connected_value cells.values s own.init) lines.init.sink_is
          ∙ sym (if-one (line_value cells.values own.condition) (connected_value cells.values sink own.init) other one)
          ∙ sym (ap (λ (o : Option Reset). reset_or cells.values sink o other) at);
      unset = λ other none.
          sym (if-other (line_value cells.values own.condition) (connected_value cells.values sink own.init) other none)
          ∙ sym (ap (λ (o : Option Reset). reset_or cells.values sink o other) at);
    }

-- ---- states

abbrev the-state : List ℕ → List Bank → State
the-state registers banks = record { registers = registers; banks = banks }

-- two that have the same registers and banks are the same
pub State-same : {r s : List ℕ} {a b : List Bank} → r ≡ s → a ≡ b → the-state r a ≡ the-state s b
State-same registers banks = ap₂ the-state registers banks
