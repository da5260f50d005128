use Rattle.std.proofs.Common.{sym, ap, ◌∙◌}
use Rattle.std.specs.List.{position}
use Rattle.std.specs.Str.{bytes_eq}
use Rattle.gg_replay.proofs.StepsFileLemmas.PlaceLaws.{first_place-some}
use Rattle.gg_replay.proofs.steps_file.table.NameTable.place.Goals as goal

pub returns : goal.returns
returns c =
    let word = c.args.word.now in
    c.copied.ensures ∙ c.get.ensures.value ∙ c.self.invariant word ∙ ap (position (bytes_eq word)) c.self.view_is
    ∙ sym (first_place-some word c.args.self.now (sym c.is_empty.ensures ∙ c.if-is_empty.false))
