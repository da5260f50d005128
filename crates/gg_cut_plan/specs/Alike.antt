-- Units that one host can run, a thread each.
-- Source: FAME-5 (one model of several equal units, with the state of each); ICCAD 2019 (duplicate instances that share one
-- host unit).
use Rattle.std.specs.Prelude.{◌≡◌, ◌↔◌, ℕ, Contains}
use Rattle.gg_flat.specs.Circuit.{FlatCircuit}
use Rattle.gg_cut_plan.specs.declared.plan.Body.{Body}
use Rattle.gg_cut_plan.specs.declared.plan.Body.TheVariants.{Cut, Memory, Source, Tray, Bridge}

-- Two pieces are one, except for their paths and for how their out-signals are listed: both list the same signals, but maybe in another order, or a
-- signal more often.
pub record IsAlike (one other : FlatCircuit) : Type 0 where
  pub signals : one.signals ≡ other.signals
  pub clocks : one.clocks ≡ other.clocks
  pub registers : one.registers ≡ other.registers
  pub memories : one.memories ≡ other.memories
  pub ins : one.ins ≡ other.ins
  pub outs : (s : ℕ) → Contains one.outs s ↔ Contains other.outs s

-- a body is a unit with a piece like this one
abbrev pub IsLike : FlatCircuit → Body → Type 0
IsLike one (Cut part) = IsAlike one part.piece
IsLike one (Memory part) = ⊥
IsLike one (Source place) = ⊥
IsLike one Tray = ⊥
IsLike one (Bridge bridge) = ⊥

-- two bodies are units with pieces that are alike
abbrev pub AreAlike : Body → Body → Type 0
AreAlike (Cut part) other = IsLike part.piece other
AreAlike (Memory part) other = ⊥
AreAlike (Source place) other = ⊥
AreAlike Tray other = ⊥
AreAlike (Bridge bridge) other = ⊥
