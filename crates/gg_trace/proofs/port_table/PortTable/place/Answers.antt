use Rattle.std.proofs.Common.{MatchOption, length, sym, ◌∙◌, subst}
use Rattle.gg_trace.specs.Ports.{IsNamed}
use Rattle.gg_trace.specs.inside.Ports.{NamesNone}
use Rattle.gg_trace.proofs.NameLaws.{all_told, Tells}
use Rattle.gg_trace.proofs.port_table.PortTable.place.Goals as goal

pub returns : goal.returns
returns c =
    let ports = c.self.inside.ports.now in
    let name = c.args.name.now in
    subst (λ ps. MatchOption c.copied.result (NamesNone ps name) (IsNamed ps name)) c.self.view_is
    (all_told ports name c.copied.result (subst (Tells ports (length ports) name) (sym (c.copied.ensures ∙ c.get.ensures.value)) (c.self.invariant name)))
