use Rattle.std.proofs.Common.{◌≡◌, ℕ, List, Option, None, get_or, length, map, subst, sym, ap, ◌∙◌}
use Rattle.std.specs.List.{flat_map}
use Rattle.gg_ast.specs.Places.{place_of}
use Rattle.gg_ast.specs.Tree.{ModuleTree}
use Rattle.gg_ast.specs.declared.statement.Stmt.{Stmt}
use Rattle.gg_shape_names.specs.Modules.{module_at}
use Rattle.gg_types.specs.declared.way.Way.{Way}
use Rattle.gg_types.specs.inside.Clocks.{clock_numbers}
use Rattle.gg_types.specs.Clocks.{leads, ways_by, ways_of}
use Rattle.gg_types.specs.inside.Named.{flag_at, number_at}
use Rattle.gg_types.specs.inside.Places.{Reaches, TellsNext}
use Rattle.gg_types.proofs.ClockLemmas.{traced}
use Rattle.gg_types.proofs.InputLemmas.{clocks-told}
use Rattle.gg_types_rules.proofs.WayLemmas.{ways-names}
use Rattle.gg_types_rules.proofs.clocks.trace.Goals as goal

pub returns-clause-flags : goal.returns-clause-flags
returns-clause-flags c = λ name.
    let m = module_at c.args.names.now.modules c.args.number in
    let w = c.in_ok-ways.ways in
    let ss = c.statements.result.now in
    let flags = c.in_ok-flags.flags.items in
    let next = c.in_ok-next.next.items in
    let reached = c.in_ok-reached.reached.items in
    let statements-are : ss ≡ m.statements = c.statements.ensures ∙ ap (λ (x : ModuleTree). x.statements) c.module_of-this.ensures in
    ap (λ l. flag_at flags (place_of name l)) (sym (ways-names m) ∙ ap (map (λ (x : List ℕ × Way). x.0)) (sym c.in_ok-ways.ensures))
    ∙ traced w ss next reached flags c.in_ok-next.ensures (subst (λ n. Reaches n next reached) c.len.ensures c.in_ok-reached.ensures) c.in_ok-flags.ensures name
    ∙ ap (λ l. leads l ss name) c.in_ok-ways.ensures
    ∙ ap (λ l. leads (ways_of m) l name) statements-are

pub returns-clause-clocks : goal.returns-clause-clocks
returns-clause-clocks c = λ name.
    let m = module_at c.args.names.now.modules c.args.number in
    let clocks = c.in_ok-clocks.clocks.items in
    let next = c.in_ok-next.next.items in
    let reached = c.in_ok-reached.reached.items in
    let statements-are : c.statements.result.now ≡ m.statements = c.statements.ensures ∙ ap (λ (x : ModuleTree). x.statements) c.module_of-this.ensures in
    let inputs-are : c.as_slice.result.now ≡ clock_numbers 0 m.ports = c.as_slice.ensures.value ∙ c.in_ok-inputs.ensures ∙ ap (clock_numbers 0) (c.ports.ensures ∙ ap (λ (x : ModuleTree). x.ports) c.module_of-this.ensures) in
    let tells = subst (λ l. TellsNext (ways_of m) l next) statements-are (subst (λ w. TellsNext w c.statements.result.now next) c.in_ok-ways.ensures c.in_ok-next.ensures) in
    let reaches = subst (λ n. Reaches n next reached) (c.len.ensures ∙ ap (λ w. length w) c.in_ok-ways.ensures) c.in_ok-reached.ensures in
    let is : clocks ≡ map (λ k. get_or (clock_numbers 0 m.ports) k None) reached = c.in_ok-clocks.ensures ∙ ap (λ (l : List (Option ℕ)). map (λ k. get_or l k None) reached) inputs-are in
    ap (λ l. number_at clocks (place_of name l)) (sym (ways-names m))
    ∙ clocks-told (flat_map (λ (s : Stmt). ways_by s.kind) m.statements) m.ports m.statements next reached clocks tells reaches is name
