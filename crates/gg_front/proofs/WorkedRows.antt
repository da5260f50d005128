-- First faults, and which faults agree, worked by hand.
--
--      1  circuit A :
--      2  module B :
--      3  output o : UInt<0>
--
-- It has no top (F1), `o` has no connection (F5), and a width of 0 (F10).
use Rattle.std.proofs.Common.{◌≡◌, ℕ, List, [], ◌∷◌, codes, refl, inl, inr}
use Rattle.gg_ast.specs.declared.module.Direction.TheVariants.{Output}
use Rattle.gg_ast.specs.declared.module.GroundType.TheVariants.{UInt}
use Rattle.gg_ast.specs.declared.module.Port.{Port}
use Rattle.gg_ast.specs.Tree.{ModuleTree, CircuitTree}
use Rattle.gg_shape.specs.declared.fault.Fault.{Fault}
use Rattle.gg_shape.specs.declared.fault.Fault.TheVariants.{MissingTop, Unconnected, WrongWidth, ModuleRing, OverLimit, Loop}
use Rattle.gg_shape.specs.declared.fault.Limit.TheVariants.{Depth}
use Rattle.gg_read.specs.declared.text.ReadFault.TheVariants as unread
use Rattle.gg_front.specs.inside.Agreement.{AreAlike, Agree}
use Rattle.gg_front.specs.inside.Fault.{IsUnread}
use Rattle.gg_front.specs.Fault.{IsFirstFault, OfShape}
use Rattle.gg_front.specs.declared.fault.FrontFault.TheVariants as front
use Rattle.gg_front.proofs.AgreementLemmas.{first-alike}

abbrev o : Port
o = record { line = 3; direction = Output; name = codes "o"; ty = UInt 0 }

abbrev b : ModuleTree
b = record { line = 2; name = codes "B"; ports = o ∷ []; statements = [] }

abbrev a : CircuitTree
a = record { line = 1; name = codes "A"; modules = b ∷ [] }

-- the fault of the least number comes first
no-top : IsFirstFault a (MissingTop (codes "A"))
no-top = OfShape (inl refl)

-- a fault that is neither a ring nor a loop is alike only to itself
same : (other : Fault) → AreAlike (MissingTop (codes "A")) other → MissingTop (codes "A") ≡ other
same other (inl is) = is
same other (inr (inl r)) = let e : MissingTop (codes "A") ≡ ModuleRing r.modules = r.one_is in absurd (cc)
same other (inr (inr l)) = let e : MissingTop (codes "A") ≡ Loop l.paths = l.one_is in absurd (cc)

-- the other faults of the circuit don't come first
not-unconnected : IsFirstFault a (Unconnected 3 (codes "o")) → ⊥
not-unconnected h = let e : MissingTop (codes "A") ≡ Unconnected 3 (codes "o") = same (Unconnected 3 (codes "o")) (first-alike a (MissingTop (codes "A")) (Unconnected 3 (codes "o")) no-top h) in absurd (cc)

not-width : IsFirstFault a (WrongWidth 3 0) → ⊥
not-width h = let e : MissingTop (codes "A") ≡ WrongWidth 3 0 = same (WrongWidth 3 0) (first-alike a (MissingTop (codes "A")) (WrongWidth 3 0) no-top h) in absurd (cc)

-- any two loops agree; a loop and an exceeded limit don't
loops : Agree (front.Fault (Loop (codes "x" ∷ []))) (front.Fault (Loop (codes "y" ∷ [])))
loops = inr (inr (record { paths = codes "x" ∷ []; others = codes "y" ∷ []; one_is = refl; other_is = refl }))

loop-is-no-count : Agree (front.Fault (Loop [])) (front.Fault (OverLimit Depth 33)) → ⊥
loop-is-no-count (inl is) = absurd (cc)
loop-is-no-count (inr (inl r)) = let e : Loop [] ≡ ModuleRing r.modules = r.one_is in absurd (cc)
loop-is-no-count (inr (inr l)) = let e : OverLimit Depth 33 ≡ Loop l.others = l.other_is in absurd (cc)

-- a want of memory isn't told as a fault of reading
not-memory : (bytes : List ℕ) → IsUnread bytes (front.Read unread.NoMemory) → ⊥
not-memory bytes told = told.1 refl
