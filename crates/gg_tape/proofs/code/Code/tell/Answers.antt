use Rattle.std.proofs.Common.{◌≡◌, length, ◌∙◌, arith}
use Rattle.gg_tape.proofs.CodeLemmas.{Grows-added, line-made}
use Rattle.gg_tape.proofs.code.Code.tell.Goals as goal

pub returns-clause-told : goal.returns-clause-told
returns-clause-told c =
    let old = c.args.self.now in
    let new = c.add.new.self in
    let begins : c.in_ok-from.from ≡ length old.instructions.items = omega (arith, c.in_ok-from.ensures {u = tt}, c.len.ensures, old.instructions.ok.0) in
    let ends : c.in_ok-to.to ≡ length new.instructions.items = omega (arith, c.in_ok-to.ensures {u = tt}, c.len-2.ensures, new.instructions.ok.0) in
    record {
      tells = line-made c.args.signals old new _ c.args.line.now c.in_ok-add.ensures.told (c.of.ensures ∙ c.ty.ensures) begins ends;
      sink_is = c.of-2.ensures;
    }

pub returns-clause-grown : goal.returns-clause-grown
returns-clause-grown c = Grows-added c.args.line.now c.args.signals c.args.self.now c.add.new.self c.in_ok-add.ensures.told
