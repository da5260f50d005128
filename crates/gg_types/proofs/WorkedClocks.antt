-- The definition of the Clock input that a reference follows, on small modules.
use Rattle.std.proofs.Common.{◌≡◌, ◌≢◌, ℕ, true, List, [], ◌∷◌, None, Some, codes, refl}
use Rattle.gg_ast.specs.declared.expression.Reference.TheVariants.{Local, PortOf, FieldOf}
use Rattle.gg_ast.specs.declared.module.Direction.TheVariants.{Input, Output}
use Rattle.gg_ast.specs.declared.module.GroundType.{GroundType}
use Rattle.gg_ast.specs.declared.module.GroundType.TheVariants.{UInt, Clock}
use Rattle.gg_ast.specs.declared.module.Port.{Port}
use Rattle.gg_ast.specs.declared.statement.Stmt.{Stmt}
use Rattle.gg_ast.specs.declared.statement.StmtKind.{StmtKind}
use Rattle.gg_ast.specs.declared.statement.StmtKind.TheVariants.{Wire, Node, Connect, Invalid}
use Rattle.gg_ast.specs.Term.{Term, NamedTerm}
use Rattle.gg_ast.specs.Tree.{ModuleTree}
use Rattle.gg_types.specs.Clocks.{clock_followed, clock_inputs, leads_to_input, root_of}

abbrev on : StmtKind → Stmt
on kind = record { line = 0; kind = kind }

abbrev input : List ℕ → GroundType → Port
input name ty = record { line = 0; name = name; direction = Input; ty = ty }

abbrev local : List ℕ → Term
local name = NamedTerm (Local name)

-- two Clock inputs with another input between them and an output behind them:
--
--      input c : Clock
--      input x : UInt<1>
--      input d : Clock
--      output y : UInt<1>
abbrev with : List Stmt → ModuleTree
with statements = record {
  line = 0;
  name = codes "M";
  ports = input (codes "c") Clock ∷ input (codes "x") (UInt 1) ∷ input (codes "d") Clock ∷ (record { line = 0; name = codes "y"; direction = Output; ty = UInt 1 }) ∷ [];
  statements = statements;
}

-- `wire k : Clock`, `node n = d`, `k <= n`, `wire l : Clock`, `l <= c`
abbrev chains : ModuleTree
chains = with (on (Wire (codes "k") Clock) ∷ on (Node (codes "n") (local (codes "d"))) ∷ on (Connect (Local (codes "k")) (local (codes "n")))
    ∷ on (Wire (codes "l") Clock) ∷ on (Connect (Local (codes "l")) (local (codes "c"))) ∷ [])

-- the Clock inputs are counted without the other ports
inputs : clock_inputs chains.ports ≡ codes "c" ∷ codes "d" ∷ []
inputs = refl

-- a Clock input follows itself
first_input : clock_followed chains (Local (codes "c")) ≡ Some 0
first_input = refl

second_input : clock_followed chains (Local (codes "d")) ≡ Some 1
second_input = refl

-- it isn't the place among all ports
not_by_port : clock_followed chains (Local (codes "d")) ≢ Some 2
not_by_port h = cc

-- through a wire and a node, whichever is written first
through_both : clock_followed chains (Local (codes "k")) ≡ Some 1
through_both = refl

other_wire : clock_followed chains (Local (codes "l")) ≡ Some 0
other_wire = refl

root_is : root_of chains (codes "k") ≡ codes "d"
root_is = refl

-- an input that is no Clock is none, though a name may lead to it
no_clock : clock_followed chains (Local (codes "x")) ≡ None
no_clock = refl

it_leads : leads_to_input chains (codes "x") ≡ true
it_leads = refl

-- nor is a name that isn't there, a port of an instance or a field of a memory
unknown : clock_followed chains (Local (codes "z")) ≡ None
unknown = refl

of_instance : clock_followed chains (PortOf (codes "i") (codes "c")) ≡ None
of_instance = refl

of_memory : clock_followed chains (FieldOf (codes "m") (codes "r") (codes "clk")) ≡ None
of_memory = refl

-- a ring of wires, and an invalid one, lead to none
ring : clock_followed (with (on (Wire (codes "k") Clock) ∷ on (Wire (codes "l") Clock) ∷ on (Connect (Local (codes "k")) (local (codes "l"))) ∷ on (Connect (Local (codes "l")) (local (codes "k"))) ∷ [])) (Local (codes "k")) ≡ None
ring = refl

invalid : clock_followed (with (on (Wire (codes "k") Clock) ∷ on (Invalid (Local (codes "k"))) ∷ [])) (Local (codes "k")) ≡ None
invalid = refl
