use Rattle.std.proofs.Common.{List, ℕ, refl, ap, ◌∙◌, subst}
use Rattle.gg_cut_plan.specs.declared.plan.Channel.{Channel}
use Rattle.gg_io.specs.inside.Endings.{PrintsOn}
use Rattle.gg_io.proofs.EndingLemmas.{exit-is}
use Rattle.golden_commands.proofs.NetLemmas.{line-of}
use Rattle.gg_io.proofs.WritingLemmas.{none-front}
use Rattle.golden_commands.proofs.network.print_channel.Goals as goal

pub returns-in_err-line-clause-prints : goal.returns-in_err-line-clause-prints
returns-in_err-line-clause-prints g c =
    rw (exit-is c.from_residual.ensures.1) (none-front _ _ _ refl)

pub returns-clause-prints : goal.returns-clause-prints
returns-clause-prints g c =
    subst
    (λ (t : List ℕ). PrintsOn g.K.Sink c.args.out.now c.put.new.out t c.put.result)
    (c.as_bytes.ensures.value ∙ c.in_ok-line.ensures
    ∙ line-of c.args.plan.now g.Z.Streams.flow c.args.log.now c.args.net.now c.args.channel c.as_slice.result.now c.index-as_slice-channel.result c.as_str.result.now c.tokens.result.now _ c.puts.result c.takes.result
    c.as_slice.ensures c.requires.known c.requires.wires c.requires.logged (c.as_str.ensures ∙ ap (λ (x : Channel). x.name) c.index-as_slice-channel.is) (ap (λ (x : Channel). x.ty.width) c.index-as_slice-channel.is) c.puts.ensures c.takes.ensures c.tokens.ensures)
    c.put.ensures.prints
