-- What the registers of a circuit follow, in the order of the signals.
use Rattle.std.proofs.Common.{◌≡◌, ℕ, zero, suc, ◌+◌, ◌<◌, cond, List, [], ◌∷◌, ◌++◌, Option, Some, None, length, take, get_or, map, refl, sym, ap, ◌∙◌, subst, arith, length-append}
use Rattle.std.proofs.lemmas.List.Sums.{sum_by-cons}
use Rattle.std.proofs.Math.Seq.{get_or-append-add}
use Rattle.gg_ast.specs.declared.statement.Reset.{Reset}
use Rattle.gg_ast.specs.Tree.{ModuleTree}
use Rattle.gg_bits.specs.Shape.{Shape}
use Rattle.gg_flat_tree.specs.Clocked.{clock_at}
use Rattle.gg_flat.specs.WellFormed.{IsClock}
use Rattle.gg_flat.specs.declared.memory.Latency.{Latency}
use Rattle.gg_flat.specs.declared.memory.Latency.TheVariants.{Zero, One}
use Rattle.gg_flat.specs.declared.piece.Driver.{Driver}
use Rattle.gg_flat.specs.declared.piece.Driver.TheVariants.{Held}
use Rattle.gg_flat.specs.declared.piece.Register.{Register}
use Rattle.gg_elab_sites.specs.Sites.{Outer, Site, module_at}
use Rattle.gg_elab_sites.specs.Clocks.{clock_of, site_clocks}
use Rattle.gg_elab_sites.specs.Connection.{Connection}
use Rattle.gg_elab_sites.specs.Flat.{Drive, Outside, Gets, Holds, Answers, FlatSignal, Scope, drive_of, input_drive}
use Rattle.gg_elab_sites.specs.IsFlat.{IsDrivenBy, answer, count_before, drive_at, is_register, number_of}
use Rattle.gg_elab_sites.specs.Meaning.{Bindings}
use Rattle.gg_elab_sites.specs.Signals.{Cause, FromOutside, Connected, Expressed, Kept, Answered}
use Rattle.gg_elab_sites.proofs.FollowLemmas.{input_count, term-below}
use Rattle.gg_elab_tree.specs.IsTreeOf.{clock_held, clocks_held}

-- ---- one for each register

held-length : (d : Drive) → length (clock_held d) ≡ cond (is_register d) 1 0
held-length Outside = refl
held-length (Gets scope c) = refl
held-length (Holds scope reset next own clock) = refl
held-length (Answers memory place latency addr en) = refl

pub clocks-count : (all : List FlatSignal) → length (clocks_held all) ≡ count_before is_register all (length all)
clocks-count [] = refl
clocks-count (x ∷ xs) =
    let sum = length-append (clock_held x.drive) (clocks_held xs) in
    let counted = sum_by-cons (λ d. cond (is_register d) 1 0) x.drive (take (length xs) (map (λ (y : FlatSignal). y.drive) xs)) in
    omega (arith, sum, counted, held-length x.drive, clocks-count xs)

-- A drive is that of a register, with what it follows.
pub record IsHolding (drive : Drive) (own clock : Option ℕ) : Type 0 where
  pub scope : Scope
  pub reset : Option Reset
  pub next : Option Connection
  pub is : drive ≡ Holds scope reset next own clock

-- what a register follows stands after as many as there are registers before it
pub clocks-at : (all : List FlatSignal) (s : ℕ) (own clock d : Option ℕ) → s < length all → IsHolding (drive_at all s) own clock → get_or (clocks_held all) (count_before is_register all s) d ≡ own
clocks-at [] s own clock d lt h = absurd (omega (arith, lt))
clocks-at (x ∷ xs) zero own clock d lt h = rw h.is refl
clocks-at (x ∷ xs) (suc s) own clock d lt h =
    let counted = sum_by-cons (λ d. cond (is_register d) 1 0) x.drive (take s (map (λ (y : FlatSignal). y.drive) xs)) in
    let same : count_before is_register (x ∷ xs) (suc s) ≡ length (clock_held x.drive) + count_before is_register xs s = omega (arith, counted, held-length x.drive) in
    ap (λ n. get_or (clock_held x.drive ++ clocks_held xs) n d) same
    ∙ get_or-append-add (clock_held x.drive) (clocks_held xs) (count_before is_register xs s) d
    ∙ clocks-at xs s own clock d (omega (arith, lt)) (record { scope = h.scope; reset = h.reset; next = h.next; is = h.is })

-- ---- the driver of a register

-- A driver holds a register's state: its drive says so, and the register follows the clock of the circuit that it says.
pub record HoldsAs (registers : List Register) (states : ℕ) (drive : Drive) (number : ℕ) : Type 0 where
  pub own : Option ℕ
  pub clock : Option ℕ
  pub holding : IsHolding drive own clock
  pub number_is : number ≡ states
  pub within : number < length registers
  pub clocked : (any : Register) → (get_or registers number any).clock ≡ clock

no-answer : (latency : Latency) (memory place addr en r : ℕ) → answer latency memory place addr en ≡ Held r → ⊥
no-answer Zero memory place addr en r e = cc
no-answer (One under) memory place addr en r e = cc

pub held-as : (bindings : Bindings) (registers : List Register) (inputs states : ℕ) (sink : Shape) (drive : Drive) (driver : Driver) (r : ℕ) → IsDrivenBy bindings registers inputs states sink drive driver → driver ≡ Held r → HoldsAs registers states drive r
held-as bindings registers inputs states sink Outside driver r h e = absurd (cc)
held-as bindings registers inputs states sink (Gets scope c) driver r h e = absurd (let k = h.computed in cc)
held-as bindings registers inputs states sink (Answers memory place latency addr en) driver r h e = absurd (no-answer latency (number_of bindings.memories memory) place (number_of bindings.signals.paths addr) (number_of bindings.signals.paths en) r (sym h ∙ e))
held-as bindings registers inputs states sink (Holds scope reset next own clock) driver r h e =
    let held : Held r ≡ Held states = sym e ∙ h.held in
    let same : r ≡ states = cc in
    record {
      own = own;
      clock = clock;
      holding = record { scope = scope; reset = reset; next = next; is = refl };
      number_is = same;
      within = omega (arith, same, h.within);
      clocked = λ any. ap (λ n. (get_or registers n any).clock) same ∙ (h.register any).clocked;
    }

-- ---- what a register's site says

abbrev own_or : Option ℕ → Drive → Option ℕ
own_or d Outside = d
own_or d (Gets scope c) = d
own_or d (Holds scope reset next own clock) = own
own_or d (Answers memory place latency addr en) = d

abbrev clock_or : Option ℕ → Drive → Option ℕ
clock_or d Outside = d
clock_or d (Gets scope c) = d
clock_or d (Holds scope reset next own clock) = clock
clock_or d (Answers memory place latency addr en) = d

module _ (modules : List ModuleTree) (site : Site) (own clock : Option ℕ) where
  -- it follows a Clock input of its site, and the clock that this one leads to
  abbrev Follows : Type 0
  Follows = IsClock (input_count (module_at modules site.number)) own × (clock ≡ clock_at (site_clocks modules site) own)

  no-input : (outer : Option Outer) (name : List ℕ) → IsHolding (input_drive modules outer name) own clock → ⊥
  no-input None name h = let is = h.is in cc
  no-input (Some outer) name h = let is = h.is in cc

  pub held-follows : (name : List ℕ) (cause : Cause) → IsHolding (drive_of modules site name cause) own clock → Follows
  held-follows name FromOutside h = absurd (no-input site.outer name h)
  held-follows name Connected h = let is = h.is in absurd (cc)
  held-follows name (Expressed value) h = let is = h.is in absurd (cc)
  held-follows name (Answered memory port place latency) h = let is = h.is in absurd (cc)
  held-follows name (Kept written reset) h =
      let same : clock_of (module_at modules site.number) written ≡ own = ap (own_or own) h.is in (
        subst (IsClock (input_count (module_at modules site.number))) same (term-below (module_at modules site.number) written),
        sym (ap (clock_or clock) h.is) ∙ ap (clock_at (site_clocks modules site)) same,
      )
