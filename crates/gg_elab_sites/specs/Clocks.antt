-- Which clock of the circuit each Clock input of a site follows.
-- Source: FIRRTL Specification, "Clock" types, "Instances" (an instance's input is connected in the module that holds the
-- instance), "Memories" (`clk`). The circuit's clocks are the Clock inputs of the top, in port order.
-- The definitions are total. What follows no Clock input follows no clock of the circuit, and goes on in every tick. This
-- never occurs in a circuit that passed the checks.
use Rattle.std.specs.Prelude.{ℕ, List, [], ◌∷◌, Option, None, Some, length, map, codes}
use Rattle.gg_ast.specs.Term.{Term, NamedTerm, ConstantTerm, UnaryTerm, BinaryTerm, FixedTerm, MuxTerm}
use Rattle.gg_ast.specs.Tree.{ModuleTree}
use Rattle.gg_flat_tree.specs.Clocked.{clock_at, clocks_from}
use Rattle.gg_types.specs.Clocks.{clock_followed, clock_inputs}
use Rattle.gg_elab_sites.specs.Sites.{Site, Step, module_at}
use Rattle.gg_elab_sites.specs.Connection.{Connection, ConnectedTo, Zeroed, connection_in}
use Rattle.gg_elab_sites.specs.Signals.{dotted, field_name}

-- ---- within a module

-- The Clock input of a module that an expression follows, by its number. Only a reference follows one.
abbrev pub clock_of : ModuleTree → Term → Option ℕ
clock_of m (NamedTerm r) = clock_followed m r
clock_of m (ConstantTerm l) = None
clock_of m (UnaryTerm op a) = None
clock_of m (BinaryTerm op a b) = None
clock_of m (FixedTerm op a n k) = None
clock_of m (MuxTerm c a b) = None

-- `clock_of` for what a sink is connected to; without a connection, and by `is invalid`, it follows none
abbrev pub clock_connected : ModuleTree → Option Connection → Option ℕ
clock_connected m None = None
clock_connected m (Some Zeroed) = None
clock_connected m (Some (ConnectedTo e)) = clock_of m e

-- the Clock input that a port of a memory follows
abbrev pub port_clock : ModuleTree → List ℕ → List ℕ → Option ℕ
port_clock m memory port = clock_connected m (connection_in m.statements (field_name memory port (codes "clk")))

-- ---- from a module to what holds it

-- for each Clock input of an instance of module m with this name in `around`, the Clock input of `around` that it follows
abbrev pub clocks_given : ModuleTree → List ℕ → ModuleTree → List (Option ℕ)
clocks_given around name m = map (λ port. clock_connected around (connection_in around.statements (dotted name port))) (clock_inputs m.ports)

-- the Clock inputs of the top are the circuit's clocks
abbrev pub clocks_of_top : ModuleTree → List (Option ℕ)
clocks_of_top m = clocks_from 0 (length (clock_inputs m.ports))

-- for each Clock input of the module at a place, the Clock input that it follows of the module one step up, where these steps lead to the top
abbrev pub clocks_around : List ModuleTree → ℕ → List Step → List (Option ℕ)
clocks_around modules number [] = clocks_of_top (module_at modules number)
clocks_around modules number (step ∷ steps) = clocks_given (module_at modules step.number) step.name (module_at modules number)

-- for each of these Clock inputs, the clock of the circuit that it leads to
abbrev pub clocks_led : List ModuleTree → ℕ → List Step → List (Option ℕ)
clocks_led modules number [] = clocks_of_top (module_at modules number)
clocks_led modules number (step ∷ steps) =
    map (clock_at (clocks_led modules step.number steps)) (clocks_given (module_at modules step.number) step.name (module_at modules number))

-- ---- sites

-- for each Clock input of a site, in port order, the Clock input that it follows of the site that holds it
abbrev pub own_clocks : List ModuleTree → Site → List (Option ℕ)
own_clocks modules site = clocks_around modules site.number site.steps

-- for each Clock input of a site, in port order, the clock of the circuit that it follows
abbrev pub site_clocks : List ModuleTree → Site → List (Option ℕ)
site_clocks modules site = clocks_led modules site.number site.steps
