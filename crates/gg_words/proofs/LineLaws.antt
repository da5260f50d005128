-- The program's command line, with one command after another.
use Rattle.std.proofs.Common.{◌≡◌, ℕ, ◌+◌, ◌<◌, List, length, get_or, drop, sym, ap, ◌∙◌}
use Rattle.std.proofs.lemmas.List.{drop_more}
use Rattle.clap.specs.Simple.{App, with_subcommand}
use Rattle.gg_words.specs.inside.Line.{Line, shape_for, with_commands}

-- with the next command the program has the rest of them still to come
pub commands-next : (commands : List Line) (i : ℕ) (d : Line) (app more all : App) → i < length commands → more ≡ with_subcommand app (shape_for (get_or commands i d)) → with_commands app (drop i commands) ≡ all → with_commands more (drop (i + 1) commands) ≡ all
commands-next commands i d app more all lt grown before =
    ap (λ (a : App). with_commands a (drop (i + 1) commands)) grown ∙ sym (ap (with_commands app) (drop_more commands i d lt)) ∙ before
