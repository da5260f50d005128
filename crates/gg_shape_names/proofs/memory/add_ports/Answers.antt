use Rattle.std.proofs.Common.{◌≡◌, [], ◌++◌, rules, sym, ap, subst, ◌∙◌}
use Rattle.std.proofs.lemmas.Result.{on_ok_weaker}
use Rattle.gg_shape_names.specs.Memory.{readers_in, writers_in}
use Rattle.gg_shape_names.specs.inside.Repetitions.{Tells}
use Rattle.gg_shape_names.specs.Repetitions.{ports_in_field}
use Rattle.gg_shape_names.specs.inside.Tables.{HaveSame}
use Rattle.gg_shape_names.proofs.PortLemmas.{ports_of, readers-either, writers-either, ports-in-field, ports-same, readers-more, writers-more}
use Rattle.gg_shape_names.proofs.memory.add_ports.Goals as goal

pub returns-in-Readers-clause-tells : goal.returns-in-Readers-clause-tells
returns-in-Readers-clause-tells c = λ before have.
    subst (λ l. Tells l c.add_words.result)
    (sym (ports-in-field before c.args.field.now c.as_slice.result.now (ap ports_in_field c.in-Readers.is ∙ sym c.as_slice.ensures)))
    (c.add_words.ensures.tells (ports_of before) (readers-either before c.args.ports.now.readers c.args.ports.now.writers have))

pub returns-in-Readers-clause-ports : goal.returns-in-Readers-clause-ports
returns-in-Readers-clause-ports c = λ before have.
    on_ok_weaker c.add_words.result
    (λ (more : HaveSame c.add_words.new.words (c.args.ports.now.readers ++ c.as_slice.result.now)).
    readers-more before c.args.field.now c.in-Readers.names c.args.ports.now.readers c.args.ports.now.writers c.add_words.new.words c.in-Readers.is
    (subst (λ l. HaveSame c.add_words.new.words (c.args.ports.now.readers ++ l)) c.as_slice.ensures more) have)
    c.add_words.ensures.words

pub returns-in-Writers-clause-tells : goal.returns-in-Writers-clause-tells
returns-in-Writers-clause-tells c = λ before have.
    subst (λ l. Tells l c.add_words-in-Writers.result)
    (sym (ports-in-field before c.args.field.now c.as_slice-in-Writers.result.now (ap ports_in_field c.in-Writers.is ∙ sym c.as_slice-in-Writers.ensures)))
    (c.add_words-in-Writers.ensures.tells (ports_of before) (writers-either before c.args.ports.now.readers c.args.ports.now.writers have))

pub returns-in-Writers-clause-ports : goal.returns-in-Writers-clause-ports
returns-in-Writers-clause-ports c = λ before have.
    on_ok_weaker c.add_words-in-Writers.result
    (λ (more : HaveSame c.add_words-in-Writers.new.words (c.args.ports.now.writers ++ c.as_slice-in-Writers.result.now)).
    writers-more before c.args.field.now c.in-Writers.names c.args.ports.now.readers c.args.ports.now.writers c.add_words-in-Writers.new.words c.in-Writers.is
    (subst (λ l. HaveSame c.add_words-in-Writers.new.words (c.args.ports.now.writers ++ l)) c.as_slice-in-Writers.ensures more) have)
    c.add_words-in-Writers.ensures.words

pub returns-in-DataType-clause-ports : goal.returns-in-DataType-clause-ports
returns-in-DataType-clause-ports c =
    let no_readers : readers_in c.args.field.now.kind ≡ [] = search rules in
    let no_writers : writers_in c.args.field.now.kind ≡ [] = search rules in
    λ before have. ports-same before c.args.field.now c.args.ports.now.readers c.args.ports.now.writers no_readers no_writers have
