use Rattle.std.proofs.Common.{◌+◌, [], ◌∷◌, ◌++◌, length, map, take, Some, refl, sym, ap, ◌∙◌, rules}
use Rattle.gg_shape.proofs.FlatLemmas.{rest-more, rest-refused}
use Rattle.gg_types.specs.declared.sort.Own.TheVariants.{Single}
use Rattle.gg_types_rules.specs.inside.Known.{names_seen}
use Rattle.gg_types.specs.inside.Named.{owned}
use Rattle.gg_types.specs.Owned.{port_own}
use Rattle.gg_types.specs.Types.{port_faults}
use Rattle.gg_types_rules.proofs.KnownLemmas.{names-same}
use Rattle.gg_types.proofs.OwnLemmas.{owned-empty}
use Rattle.gg_types.proofs.StepLemmas.{ports-more, port-next}
use Rattle.gg_types_rules.proofs.module.judge_ports.Goals as goal

pub loop-port-init : goal.loop-port-init
loop-port-init c =
    let names = names_seen c.args.known.now in
    (refl, refl, refl, ap length c.requires.empty, ap (owned names) c.requires.empty ∙ owned-empty names, refl)

pub returns-in_err-judge_port-clause-answers : goal.returns-in_err-judge_port-clause-answers
returns-in_err-judge_port-clause-answers c =
    let inv = c.loop-port.invariant in
    let h = rest-refused port_faults c.args.ports.now c.loop-port.port-index c.port-item.result c.port-item.result c.in_err-judge_port.field-0.0 c.loop-port-test.true c.port-item.is inv.5 c.in_err-judge_port.ensures in
    search (rules, h)

pub loop-port-preserved : goal.loop-port-preserved
loop-port-preserved c =
    let inv = c.loop-port.invariant in
    let i = c.loop-port.port-index in
    let p = c.port-item.result in
    let k = c.loop-port.known in
    let next = port-next c.args.ports.now c.args._statements.now (names_seen k) i (length k.own.items) p (names-same k c.args.known.now inv.0 inv.1 ∙ c.requires.names) inv.3 c.loop-port-test.true c.port-item.is in (
      c.declare.ensures.names ∙ inv.0,
      c.declare.ensures.number ∙ inv.1,
      c.declare.ensures.traced ∙ inv.2,
      c.in_ok-declare.ensures.count ∙ ap (λ n. n + 1) inv.3,
      c.in_ok-declare.ensures.own p.name next
          ∙ ap (λ l. l ++ (p.name, Some (Single c.sort_of.result)) ∷ []) inv.4
          ∙ ap (λ s. map port_own (take i c.args.ports.now) ++ (p.name, Some (Single s)) ∷ []) c.sort_of.ensures
          ∙ sym (ports-more c.args.ports.now i p c.loop-port-test.true c.port-item.is),
      rest-more port_faults c.args.ports.now i p p c.loop-port-test.true c.port-item.is c.in_ok-judge_port.ensures inv.5,
    )
