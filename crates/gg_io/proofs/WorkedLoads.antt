-- A command that loads the file p and then the file t. Only the load of t failed.
use Rattle.std.proofs.Common.{◌≡◌, ◌≤◌, ℕ, ◌+◌, List, [], ◌∷◌, inl, inr, ap, refl, codes, get_or, arith}
use Rattle.std.specs.Prelude.{bytes_eq, if◌then◌else◌}
use Rattle.gg_io.specs.Told.{Untold}
use Rattle.gg_io.specs.Said.{Said, cannot_load}
use Rattle.gg_io.specs.Order.{File, Order, Load, Write, StopsAt}
use Rattle.gg_io.specs.Ends.{Loads, loads_of}
use Rattle.gg_io.specs.declared.files.Shelf

-- how many of these names are this one
abbrev times : List (List ℕ) → List ℕ → ℕ
times [] name = 0
times (one ∷ more) name = (if bytes_eq one name then 1 else 0) + times more name

-- a shelf of files of which nothing is known, that notes the names of its failed loads
abbrev noting : Shelf.Ghosts (List (List ℕ))
noting = record { files = λ shelf name. Untold; faults = λ shelf name. times shelf name; cuts = λ shelf name. 0 }

abbrev loads : Loads
loads = loads_of noting [] (codes "t" ∷ [])

abbrev file : List ℕ → File
file name = record { name = name; limit = 9; accepts = λ bytes. Unit {0}; refuses = λ bytes said. ⊥ }

abbrev order : Order
order = Load (file (codes "p")) (λ p. Load (file (codes "t")) (λ t. Write (λ text. Unit {0})))

-- it may be reported that t can't be loaded
tells-t : StopsAt loads.files loads.lost loads.cut order (cannot_load (codes "t"))
tells-t = inr ([], record { held = tt; within = omega arith }, tt, inl (inl (inl (omega arith, refl))))

-- but not that p can't be loaded
not-p : StopsAt loads.files loads.lost loads.cut order (cannot_load (codes "p")) → ⊥
not-p (inl (inl (inl h))) = let rose : 1 ≤ 0 = h.0 in absurd (omega (arith, rose))
not-p (inl (inl (inr h))) = let e : 3 ≡ 8 = ap (λ (said : Said). said.status) h.2 in absurd (omega (arith, e))
not-p (inl (inr h)) = absurd h.2
not-p (inr (bytes, can, accepts, inl (inl (inl h)))) = let e : 112 ≡ 116 = ap (λ (said : Said). get_or said.line 20 0) h.1 in absurd (omega (arith, e))
not-p (inr (bytes, can, accepts, inl (inl (inr h)))) = let e : 3 ≡ 8 = ap (λ (said : Said). said.status) h.2 in absurd (omega (arith, e))
not-p (inr (bytes, can, accepts, inl (inr h))) = absurd h.2
not-p (inr (bytes, can, accepts, inr (other, can', accepts', none))) = absurd none
