use Rattle.std.proofs.Common.{◌≡◌, rules, List, ◌++◌, map, filter_map, flat_map, sym, ap, ◌∙◌, append_assoc}
use Rattle.std.proofs.lemmas.Simd.{map-map}
use Rattle.gg_ast.specs.declared.statement.Stmt.{Stmt}
use Rattle.gg_elab_sites.specs.Known.{types_of}
use Rattle.gg_elab_sites.specs.Signals.{Own, own_of_port, own_of_kind, own_stops, stop_signal}
use Rattle.gg_elab_sites.specs.inside.Views.{own_of, own_stop_of}
use Rattle.gg_elab_sites.proofs.own.own_signals.Goals as goal

pub returns : goal.returns
returns c =
    let types = types_of c.args.typed.now.circuit in
    let number = c.args.number in
    let body = c.args.body.now in
    let ports = filter_map own_of_port body.ports in
    let declared = flat_map (λ (s : Stmt). own_of_kind types number s.kind) body.statements in
    let stops = map stop_signal (own_stops body.statements) in
    let first : map own_of c.add_ports.new.signals.items ≡ ports = first_of (cc, search rules) in
    c.in_ok-add_stops.ensures
    ∙ ap (λ (l : List Own). l ++ map (λ stop. stop_signal (own_stop_of stop)) c.args.stops.now)
    (c.in_ok-add_statements.ensures
    ∙ ap (λ (l : List Own). l ++ flat_map (λ (s : Stmt). own_of_kind types number s.kind) c.statements.result.now) first
    ∙ ap (λ l. ports ++ flat_map (λ (s : Stmt). own_of_kind types number s.kind) l) c.statements.ensures)
    ∙ ap (λ (l : List Own). (ports ++ declared) ++ l) (sym (map-map stop_signal own_stop_of c.args.stops.now) ∙ ap (map stop_signal) c.requires.stops)
    ∙ append_assoc ports declared stops
