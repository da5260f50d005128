-- More on Repetitions: what no promise of the program reaches.
use Rattle.std.specs.Prelude.{◌≡◌, List, [], Result, Ok, Err, Some}
use Rattle.gg_shape_names.specs.declared.fault.Repetition.{Repetition}
use Rattle.gg_shape_names.specs.declared.fault.NamesFault.{NamesFault}
use Rattle.gg_shape_names.specs.declared.fault.NamesFault.TheVariants.{Repeated, NoMemory}
use Rattle.gg_shape_names.specs.Along.{first}

-- ---- answers

-- a fault is the first repetition; `NoMemory` says nothing of them
abbrev pub Names : List Repetition → NamesFault → Type 0
Names all (Repeated repetition) = first all ≡ Some repetition
Names all NoMemory = Unit {0}

-- Ok exactly if no name comes twice, otherwise the first that does
abbrev pub Tells : {A : Type 0} → List Repetition → Result A NamesFault → Type 0
Tells all (Ok _) = all ≡ []
Tells all (Err fault) = Names all fault
