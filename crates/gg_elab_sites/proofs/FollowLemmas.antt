-- What the parts of a module follow is one of its Clock inputs, and what these lead to is one of the circuit's clocks.
use Rattle.std.proofs.Common.{◌≡◌, ◌⊎◌, inl, inr, ℕ, zero, suc, ◌+◌, ◌<◌, ◌≤◌, List, [], ◌∷◌, Option, Some, None, length, get_or, codes, refl, sym, ap, subst, arith}
use Rattle.std.specs.Prelude.{All, Contains}
use Rattle.std.proofs.lemmas.Bool.{cases_lt}
use Rattle.std.proofs.lemmas.List.{length-map, get_or_past}
use Rattle.std.proofs.lemmas.List.Elements.{All-map, All-nil, All-cons}
use Rattle.gg_ast.specs.declared.expression.Reference.{Reference}
use Rattle.gg_ast.specs.declared.expression.Reference.TheVariants as reference
use Rattle.gg_ast.specs.Term.{Term, NamedTerm, ConstantTerm, UnaryTerm, BinaryTerm, FixedTerm, MuxTerm}
use Rattle.gg_ast.specs.Tree.{ModuleTree}
use Rattle.gg_flat_tree.specs.Clocked.{clock_at, clocks_from}
use Rattle.gg_flat.specs.WellFormed.{IsClock}
use Rattle.gg_types.specs.Clocks.{clock_followed, clock_inputs, clock_named, root_of}
use Rattle.gg_types.proofs.InputLemmas.{clock-below}
use Rattle.gg_elab_sites.specs.Sites.{Site, Step, held_at, module_at, all_sites, site_below, sites, top_site}
use Rattle.gg_elab_sites.specs.Clocks.{clock_connected, clock_of, clocks_around, clocks_given, clocks_led, port_clock, site_clocks}
use Rattle.gg_elab_sites.specs.Connection.{Connection, ConnectedTo, Zeroed, connection_in}
use Rattle.gg_elab_sites.specs.Signals.{dotted, field_name}
use Rattle.gg_elab_sites.proofs.AmongLemmas.{from-flat_map}

-- how many Clock inputs a module has
abbrev pub input_count : ModuleTree → ℕ
input_count m = length (clock_inputs m.ports)

-- ---- within a module

pub is-clock : (count : ℕ) (clock : Option ℕ) → ((j : ℕ) → clock ≡ Some j → j < count) → IsClock count clock
is-clock count None h = tt
is-clock count (Some j) h = h j refl

reference-below : (m : ModuleTree) (r : Reference) → IsClock (input_count m) (clock_followed m r)
reference-below m (reference.Local name) = is-clock (input_count m) (clock_named m.ports (root_of m name)) (λ j is. clock-below m.ports (root_of m name) j is)
reference-below m (reference.PortOf instance port) = tt
reference-below m (reference.FieldOf memory port field) = tt

-- what an expression follows is one of the module's Clock inputs
pub term-below : (m : ModuleTree) (e : Term) → IsClock (input_count m) (clock_of m e)
term-below m (NamedTerm r) = reference-below m r
term-below m (ConstantTerm l) = tt
term-below m (UnaryTerm op a) = tt
term-below m (BinaryTerm op a b) = tt
term-below m (FixedTerm op a n k) = tt
term-below m (MuxTerm c a b) = tt

connected-below : (m : ModuleTree) (c : Option Connection) → IsClock (input_count m) (clock_connected m c)
connected-below m None = tt
connected-below m (Some Zeroed) = tt
connected-below m (Some (ConnectedTo e)) = term-below m e

-- and so is what a port of a memory follows
pub port-below : (m : ModuleTree) (memory port : List ℕ) → IsClock (input_count m) (port_clock m memory port)
port-below m memory port = connected-below m (connection_in m.statements (field_name memory port (codes "clk")))

-- what the Clock inputs of an instance follow is one of those of what holds it
pub given-below : (around : ModuleTree) (name : List ℕ) (m : ModuleTree) → All (IsClock (input_count around)) (clocks_given around name m)
given-below around name m =
    All-map (IsClock (input_count around)) (λ port. clock_connected around (connection_in around.statements (dotted name port))) (clock_inputs m.ports)
    (λ k d lt. connected-below around (connection_in around.statements (dotted name (get_or (clock_inputs m.ports) k d))))

-- ---- of a site

from-length : (number count : ℕ) → length (clocks_from number count) ≡ count
from-length number zero = refl
from-length number (suc count) = ap (λ n. suc n) (from-length (suc number) count)

-- a site follows one for each of its Clock inputs
pub around-length : (modules : List ModuleTree) (number : ℕ) (steps : List Step) → length (clocks_around modules number steps) ≡ input_count (module_at modules number)
around-length modules number [] = from-length 0 (input_count (module_at modules number))
around-length modules number (step ∷ steps) =
    length-map (clock_inputs (module_at modules number).ports) (λ port. clock_connected (module_at modules step.number) (connection_in (module_at modules step.number).statements (dotted step.name port)))

-- ---- the circuit's clocks

from-below : (number count all : ℕ) → number + count ≤ all → All (IsClock all) (clocks_from number count)
from-below number zero all le = All-nil (IsClock all)
from-below number (suc count) all le = All-cons (IsClock all) (Some number) (clocks_from (suc number) count) (omega (arith, le)) (from-below (suc number) count all (omega (arith, le)))

-- a clock of a list of clocks, or none
pub at-below : (count : ℕ) (clocks : List (Option ℕ)) (clock : Option ℕ) → All (IsClock count) clocks → IsClock count (clock_at clocks clock)
at-below count clocks None h = tt
at-below count clocks (Some j) h = go (cases_lt j (length clocks))
  where
    go : (j < length clocks) ⊎ (length clocks ≤ j) → IsClock count (get_or clocks j None)
    go (inl lt) = h j None lt
    go (inr ge) = subst (IsClock count) (sym (get_or_past clocks j None ge)) tt

-- the module that steps lead to from that at a place
abbrev pub led_to : ℕ → List Step → ℕ
led_to number [] = number
led_to number (step ∷ steps) = led_to step.number steps

-- what a site's Clock inputs lead to are Clock inputs of the module at the end of its steps
pub led-below : (modules : List ModuleTree) (number : ℕ) (steps : List Step) → All (IsClock (input_count (module_at modules (led_to number steps)))) (clocks_led modules number steps)
led-below modules number [] = from-below 0 (input_count (module_at modules number)) (input_count (module_at modules number)) (omega arith)
led-below modules number (step ∷ steps) =
    All-map (IsClock (input_count (module_at modules (led_to step.number steps)))) (clock_at (clocks_led modules step.number steps)) (clocks_given (module_at modules step.number) step.name (module_at modules number))
    (λ k d lt. at-below (input_count (module_at modules (led_to step.number steps))) (clocks_led modules step.number steps) (get_or (clocks_given (module_at modules step.number) step.name (module_at modules number)) k d) (led-below modules step.number steps))

-- the steps of all sites below one lead where its own do
below-led : (n : ℕ) (modules : List ModuleTree) (x y : Site) → Contains (sites n modules x) y → led_to y.number y.steps ≡ led_to x.number x.steps
below-led zero modules x y (zero, lt, is) = sym (ap (λ (s : Site). led_to s.number s.steps) is)
below-led zero modules x y (suc i, lt, is) = absurd (omega (arith, lt))
below-led (suc n) modules x y (zero, lt, is) = sym (ap (λ (s : Site). led_to s.number s.steps) is)
below-led (suc n) modules x y (suc i, lt, is) =
    let m = from-flat_map (λ h. sites n modules (site_below x h)) (held_at modules x.number) y (i, omega (arith, lt), is) in
    below-led n modules (site_below x m.of) y m.made

-- the clocks of each site are Clock inputs of the top
pub sites-below : (modules : List ModuleTree) (top : ℕ) (y : Site) → Contains (all_sites modules top) y → All (IsClock (input_count (module_at modules top))) (site_clocks modules y)
sites-below modules top y c =
    subst (λ n. All (IsClock (input_count (module_at modules n))) (site_clocks modules y)) (below-led (length modules) modules (top_site top) y c) (led-below modules y.number y.steps)
