-- Stops and clocks by hand. The clocks of the top are passed down under other names, and exchanged:
--
--      1  circuit S :
--      2    module Low :
--      3      input k : Clock
--      4      input x : UInt<1>
--      5      stop(k, x, 1)
--      6    module Mid :
--      7      input a : Clock
--      8      input b : Clock
--      9      input x : UInt<1>
--     10      inst low of Low
--     11      wire w : Clock
--     12      w <= a
--     13      low.k <= w
--     14      low.x <= x
--     15      stop(b, x, 2) : middle
--     16    module S :
--     17      input c : Clock
--     18      input x : UInt<1>
--     19      input d : Clock
--     20      output y : UInt<1>
--     21      stop(c, x, 3)
--     22      inst mid of Mid
--     23      mid.a <= d
--     24      mid.b <= c
--     25      mid.x <= x
--     26      reg r : UInt<1>, d
--     27      y <= r
--     28      stop(d, r, 4)
use Rattle.std.proofs.Common.{◌≡◌, ◌≢◌, ℕ, List, [], ◌∷◌, Option, map, None, Some, codes, refl, sym, ap, ◌∙◌, arith}
use Rattle.std.proofs.lemmas.Option.{same_Some}
use Rattle.std.specs.Prelude.{slice_index_or}
use Rattle.std.specs.Fmt.{digits}
use Rattle.gg_bits.specs.Shape.{uint}
use Rattle.gg_ast.specs.declared.expression.Reference.TheVariants.{Local, PortOf}
use Rattle.gg_ast.specs.declared.module.Direction.TheVariants as direction
use Rattle.gg_ast.specs.declared.module.GroundType.TheVariants as types
use Rattle.gg_ast.specs.declared.statement.StmtKind.TheVariants as says
use Rattle.gg_ast.specs.Term.{Term, NamedTerm}
use Rattle.gg_ast.specs.Tree.{ModuleTree, CircuitTree}
use Rattle.gg_elab_sites.specs.Sites.{sites_of}
use Rattle.gg_elab_sites.specs.Clocks.{own_clocks, site_clocks}
use Rattle.gg_elab_sites.specs.Connection.{ConnectedTo}
use Rattle.gg_elab_sites.specs.Flat.{Outside, Gets, Holds, FlatSignal, flat_signals, stop_paths}
use Rattle.gg_elab_sites.specs.Signals.{Types}
use Rattle.gg_elab_sites.proofs.WorkedParts.{on, port}

abbrev of : List ℕ → Term
of name = NamedTerm (Local name)

abbrev low : ModuleTree
low = record {
  line = 2;
  name = codes "Low";
  ports = port 3 (codes "k") direction.Input types.Clock ∷ port 4 (codes "x") direction.Input (types.UInt 1) ∷ [];
  statements = on 5 (says.Stop (of (codes "k")) (of (codes "x")) 1 None) ∷ [];
}

abbrev mid : ModuleTree
mid = record {
  line = 6;
  name = codes "Mid";
  ports = port 7 (codes "a") direction.Input types.Clock ∷ port 8 (codes "b") direction.Input types.Clock ∷ port 9 (codes "x") direction.Input (types.UInt 1) ∷ [];
  statements =
      on 10 (says.Instance (codes "low") (codes "Low"))
      ∷ on 11 (says.Wire (codes "w") types.Clock)
      ∷ on 12 (says.Connect (Local (codes "w")) (of (codes "a")))
      ∷ on 13 (says.Connect (PortOf (codes "low") (codes "k")) (of (codes "w")))
      ∷ on 14 (says.Connect (PortOf (codes "low") (codes "x")) (of (codes "x")))
      ∷ on 15 (says.Stop (of (codes "b")) (of (codes "x")) 2 (Some (codes "middle")))
      ∷ [];
}

abbrev top : ModuleTree
top = record {
  line = 16;
  name = codes "S";
  ports =
      port 17 (codes "c") direction.Input types.Clock
      ∷ port 18 (codes "x") direction.Input (types.UInt 1)
      ∷ port 19 (codes "d") direction.Input types.Clock
      ∷ port 20 (codes "y") direction.Output (types.UInt 1)
      ∷ [];
  statements =
      on 21 (says.Stop (of (codes "c")) (of (codes "x")) 3 None)
      ∷ on 22 (says.Instance (codes "mid") (codes "Mid"))
      ∷ on 23 (says.Connect (PortOf (codes "mid") (codes "a")) (of (codes "d")))
      ∷ on 24 (says.Connect (PortOf (codes "mid") (codes "b")) (of (codes "c")))
      ∷ on 25 (says.Connect (PortOf (codes "mid") (codes "x")) (of (codes "x")))
      ∷ on 26 (says.Register (codes "r") (types.UInt 1) (of (codes "d")) None)
      ∷ on 27 (says.Connect (Local (codes "y")) (of (codes "r")))
      ∷ on 28 (says.Stop (of (codes "d")) (of (codes "r")) 4 None)
      ∷ [];
}

abbrev pub circuit : CircuitTree
circuit = record { line = 1; name = codes "S"; modules = low ∷ mid ∷ top ∷ [] }

-- each name is known, with the type UInt<1>
abbrev known : Types
known k r = Some (uint 1)

abbrev all : List FlatSignal
all = flat_signals known circuit.modules (sites_of circuit)

-- ---- stops

-- stops are numbered in their module, and come behind its other signals and before those of its instances
paths : map (λ (x : FlatSignal). x.path) all ≡ codes "x" ∷ codes "y" ∷ codes "r" ∷ codes "stop:0" ∷ codes "stop:1" ∷ codes "mid.x" ∷ codes "mid.stop:0" ∷ codes "mid.low.x" ∷ codes "mid.low.stop:0" ∷ []
unfolding digits
paths = refl

stops : stop_paths circuit.modules (sites_of circuit) ≡ codes "stop:0" ∷ codes "stop:1" ∷ codes "mid.stop:0" ∷ codes "mid.low.stop:0" ∷ []
unfolding digits
stops = refl

differ : codes "mid.stop:0" ≢ codes "mid.stop:2"
differ e = let last : ◌≡◌ {A = ℕ} 48 50 = ap (λ (l : List ℕ). slice_index_or l 9 0) e in omega arith

-- they aren't numbered over the whole circuit
near-over-all : stop_paths circuit.modules (sites_of circuit) ≢ codes "stop:0" ∷ codes "stop:1" ∷ codes "mid.stop:2" ∷ codes "mid.low.stop:3" ∷ []
near-over-all e = differ (ap (λ (l : List (List ℕ)). slice_index_or l 2 []) (sym stops ∙ e))

-- a stop's signal is its condition, and a register follows the clock of the circuit that its Clock input leads to
drives : map (λ (x : FlatSignal). x.drive) all
    ≡ Outside
    ∷ Gets (record { path = []; number = 2 }) (Some (ConnectedTo (of (codes "r"))))
    ∷ Holds (record { path = []; number = 2 }) None None (Some 1) (Some 1)
    ∷ Gets (record { path = []; number = 2 }) (Some (ConnectedTo (of (codes "x"))))
    ∷ Gets (record { path = []; number = 2 }) (Some (ConnectedTo (of (codes "r"))))
    ∷ Gets (record { path = []; number = 2 }) (Some (ConnectedTo (of (codes "x"))))
    ∷ Gets (record { path = codes "mid"; number = 1 }) (Some (ConnectedTo (of (codes "x"))))
    ∷ Gets (record { path = codes "mid"; number = 1 }) (Some (ConnectedTo (of (codes "x"))))
    ∷ Gets (record { path = codes "mid.low"; number = 0 }) (Some (ConnectedTo (of (codes "x"))))
    ∷ []
unfolding digits
drives = refl

-- ---- clocks

-- what each site's Clock inputs follow of the site around it
around : map (own_clocks circuit.modules) (sites_of circuit) ≡ (Some 0 ∷ Some 1 ∷ []) ∷ (Some 1 ∷ Some 0 ∷ []) ∷ (Some 0 ∷ []) ∷ []
around = refl

-- and of the circuit
led : map (site_clocks circuit.modules) (sites_of circuit) ≡ (Some 0 ∷ Some 1 ∷ []) ∷ (Some 1 ∷ Some 0 ∷ []) ∷ (Some 1 ∷ []) ∷ []
led = refl

-- the clock of `mid.low` isn't the top's of the same number
near-own-number : slice_index_or (map (site_clocks circuit.modules) (sites_of circuit)) 2 [] ≢ Some 0 ∷ []
near-own-number e = let never : ◌≡◌ {A = ℕ} 1 0 = same_Some 1 0 (ap (λ (l : List (Option ℕ)). slice_index_or l 0 None) e) in omega arith
