-- More on Line: what no promise of the program reaches.
-- Source: the definitions of `clap` (`with_rule`, `with_subcommand`), which say what `arg` and `subcommand` add to a command.
use Rattle.std.specs.Prelude.{◌≡◌, true, false, List, [], ◌∷◌}
use Rattle.std.specs.Borrow.{Bor}
use Rattle.clap.specs.Walk.{Rule, Text}
use Rattle.clap.specs.Simple.{App, Shape, app_of, new_app, with_rule, with_subcommand}
use Rattle.clap.specs.declared.builder.command.Command.{Command}
use Rattle.clap.specs.declared.builder.command.Command.TheViews.{out-Command}
use Rattle.gg_words.specs.Line.{word_rule, value_rule, flag_rule, golden_app}
use Rattle.gg_words.specs.declared.line.Kind.{Kind}
use Rattle.gg_words.specs.declared.line.Kind.TheVariants.{Word, Value, Flag}

-- `clap` reads the command as this, and none of its arguments is global
pub record IsReadAs (app : App) (command : Command) : Type 0 where
  pub is : app_of command ≡ app
  pub local : (out-Command command).has_globals ≡ false

-- the program without its commands
abbrev pub bare_app : App
bare_app = record { top = record golden_app.top { is_leaf = true }; subs = [] }

-- an argument of this kind
abbrev pub rule_for : Kind → Text → Rule
rule_for Word id = word_rule id
rule_for Value name = value_rule name
rule_for Flag name = flag_rule name

-- with these arguments, one after another
abbrev pub with_rules : App → List (Kind × Bor Text) → App
with_rules app [] = app
with_rules app (argument ∷ more) = with_rules (with_rule app (rule_for argument.0 argument.1.now)) more

-- a command's name, and its arguments
abbrev pub Line : Type 0
Line = Bor Text × Bor (List (Kind × Bor Text))

-- the command of a line
abbrev pub shape_for : Line → Shape
shape_for line = (with_rules (new_app line.0.now) line.1.now).top

-- with these commands, one after another
abbrev pub with_commands : App → List Line → App
with_commands app [] = app
with_commands app (line ∷ more) = with_commands (with_subcommand app (shape_for line)) more
