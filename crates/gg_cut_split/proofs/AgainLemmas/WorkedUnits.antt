-- Two units that have the same, and units that don't: worked by hand.
--
-- The top has the input `x` and the outputs `p` and `q`; its instances `u` and `v` have each the input `a` and the output `s`. `u.s` is
-- `u.a`. The top connects `u.a` and `v.a` to `x`, `p` to `u.s` and `q` to `v.s`.
use Rattle.std.proofs.Common.{◌≡◌, ℕ, List, [], ◌∷◌, length, map, Some, None, refl, ap, inr, arith, lit<}
use Rattle.std.specs.Prelude.{codes}
use Rattle.gg_bits.specs.declared.ops.Op1.TheVariants.{Not}
use Rattle.gg_flat.specs.declared.line.Node.{Node}
use Rattle.gg_flat.specs.declared.line.Op.TheVariants.{Ref, One}
use Rattle.gg_flat.specs.declared.piece.Driver.{Driver}
use Rattle.gg_flat.specs.declared.piece.Driver.TheVariants.{Input, Held, MemoryWord, ReadRegister, Computed}
use Rattle.gg_flat.specs.Circuit.{driver_at}
use Rattle.gg_flat_tree.specs.Tree.{InstanceTree}
use Rattle.gg_flat.proofs.WorkedCircuits.{eight, node}
use Rattle.gg_flat.proofs.WorkedMemories.{signal, copy}
use Rattle.gg_part.specs.Moved.{shifted}
use Rattle.gg_order.specs.Design.{Ordered}
use Rattle.gg_cut_plan.specs.declared.listed.Listed.{Listed}
use Rattle.gg_cut_plan.specs.Plan.{channels_to, channels_from, signals_of, givens_of}
use Rattle.gg_cut_plan.proofs.WorkedCells as cells
use Rattle.gg_cut_plan.proofs.WorkedPair as two
use Rattle.gg_cut_split.specs.inside.Again.{IsUnitAgain, again_at, cut_wires}
use Rattle.gg_flat.specs.Renaming.{numbers_by, renamed_driver}

abbrev tree : InstanceTree
tree =
    record {
      paths = [] ∷ codes "u" ∷ codes "v" ∷ [];
      instances =
          record { parent = None; «module» = 1; first = 0; end = 7; ports = two.input 0 ∷ two.output 1 ∷ two.output 2 ∷ []; memories = []; clocks = [] }
          ∷ record { parent = Some 0; «module» = 0; first = 3; end = 5; ports = two.input 3 ∷ two.output 4 ∷ []; memories = []; clocks = [] }
          ∷ record { parent = Some 0; «module» = 0; first = 5; end = 7; ports = two.input 5 ∷ two.output 6 ∷ []; memories = []; clocks = [] } ∷ [];
      memory_paths = [];
      memories = [];
      clocks = [];
      register_clocks = [];
      stops = [];
    }

-- the design where `v.s` has this line
abbrev with : List Node → Ordered
with line =
    record {
      circuit =
          record {
            paths = codes "x" ∷ codes "p" ∷ codes "q" ∷ codes "u.a" ∷ codes "u.s" ∷ codes "v.a" ∷ codes "v.s" ∷ [];
            signals = signal eight (Input 0) ∷ copy eight 4 ∷ copy eight 6 ∷ copy eight 0 ∷ copy eight 3 ∷ copy eight 0 ∷ signal eight (Computed line) ∷ [];
            registers = [];
            memories = [];
            ins = 0 ∷ [];
            outs = 1 ∷ 2 ∷ [];
            clocks = 0;
          };
      tree = tree;
      order = 0 ∷ 3 ∷ 4 ∷ 5 ∷ 6 ∷ 1 ∷ 2 ∷ [];
    }

abbrev design : Ordered
design = with (node eight (Ref 5) ∷ [])

abbrev listed : Listed
listed = record { units = 1 ∷ 2 ∷ []; memories = [] }

-- ---- what is the same

-- the machines of `u` and `v` are 1 and 2
numbers : map (again_at design listed 1 2) (3 ∷ 4 ∷ []) ≡ 5 ∷ 6 ∷ []
numbers = refl

taken : signals_of (cut_wires design listed) (channels_to (cut_wires design listed) 2) ≡ map (again_at design listed 1 2) (signals_of (cut_wires design listed) (channels_to (cut_wires design listed) 1))
taken = refl

given : givens_of (cut_wires design listed) (channels_from (cut_wires design listed) 2) ≡ map (again_at design listed 1 2) (givens_of (cut_wires design listed) (channels_from (cut_wires design listed) 1))
given = refl

driven : driver_at design.circuit 6 ≡ renamed_driver (numbers_by (again_at design listed 1 2) (shifted 0 0) (shifted 0 0)) (driver_at design.circuit 4)
driven = refl

-- ---- what is not

-- how long the line of a driver is; 0 if it has none
abbrev size : Driver → ℕ
size (Input place) = 0
size (Held r) = 0
size (MemoryWord m r addr en) = 0
size (ReadRegister m r) = 0
size (Computed line) = length line

-- another line: `v.s` is the complement of `v.a`
abbrev turned : Ordered
turned = with (node eight (Ref 5) ∷ node eight (One Not 0) ∷ [])

other-line : ¬ IsUnitAgain turned listed 1 2
other-line is = absurd (omega (arith, ap size (is.driver 4 (inr (0, lit< tt, refl)))))

-- other ports: the units of two modules, of which one takes two signals, the other one
other-module : ¬ IsUnitAgain (record { circuit = two.circuit; tree = two.tree; order = [] }) two.listed 1 2
other-module is = absurd (omega (arith, ap length is.ins))

-- Of two cells only the first has its memory listed, so it alone takes what is read.
other-memory : ¬ IsUnitAgain (record { circuit = cells.circuit; tree = cells.tree; order = [] }) (record { units = 1 ∷ 3 ∷ []; memories = 0 ∷ [] }) 1 2
other-memory is = absurd (omega (arith, ap length is.ins))

-- the hub is no unit, though a unit is
no-unit : ¬ IsUnitAgain design listed 0 1
no-unit is = let low = is.units.0 in absurd (omega (arith, low))
