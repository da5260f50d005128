-- The command line as `clap` sees it: the program's commands, and what each takes.
-- Source: the definitions of `clap` (`new_shape`, `new_rule`), which say what `Command::new` and `Arg::new` make.
use Rattle.std.specs.Prelude.{List, [], ◌∷◌, Some, true, false, codes}
use Rattle.clap.specs.Walk.{Rule, Text}
use Rattle.clap.specs.Simple.{App, Shape, new_rule, new_shape}
use Rattle.clap.specs.declared.builder.action.ArgAction.TheVariants.{SetTrue}

-- a required word by its place: a file, or a number
abbrev pub word_rule : Text → Rule
word_rule id = record (new_rule id) { required = true }

-- an option with a value: `--NAME VALUE` or `--NAME=VALUE`
abbrev pub value_rule : Text → Rule
value_rule name = record (new_rule name) { long = Some name }

-- an option without a value: `--NAME`
abbrev pub flag_rule : Text → Rule
flag_rule name = record (new_rule name) { long = Some name; action = Some SetTrue }

-- `run CIRCUIT PARTITION TRACE [--capacity K] [--workers W] [--mono]`
abbrev pub run_rules : List Rule
run_rules =
    word_rule (codes "circuit") ∷ word_rule (codes "partition") ∷ word_rule (codes "trace")
    ∷ value_rule (codes "capacity") ∷ value_rule (codes "workers") ∷ flag_rule (codes "mono") ∷ []

-- `replay CIRCUIT PARTITION TRACE STEPS [--capacity K]`
abbrev pub replay_rules : List Rule
replay_rules =
    word_rule (codes "circuit") ∷ word_rule (codes "partition") ∷ word_rule (codes "trace") ∷ word_rule (codes "steps")
    ∷ value_rule (codes "capacity") ∷ []

-- `check CIRCUIT PARTITION [--capacity K]`
abbrev pub check_rules : List Rule
check_rules = word_rule (codes "circuit") ∷ word_rule (codes "partition") ∷ value_rule (codes "capacity") ∷ []

-- `demo SEED SIZE [--workers W]`
abbrev pub demo_rules : List Rule
demo_rules = word_rule (codes "seed") ∷ word_rule (codes "size") ∷ value_rule (codes "workers") ∷ []

-- `save CIRCUIT PARTITION TRACE AT [--capacity K] [--workers W]`
abbrev pub save_rules : List Rule
save_rules =
    word_rule (codes "circuit") ∷ word_rule (codes "partition") ∷ word_rule (codes "trace") ∷ word_rule (codes "at")
    ∷ value_rule (codes "capacity") ∷ value_rule (codes "workers") ∷ []

-- `resume CIRCUIT PARTITION TRACE SNAP [--capacity K] [--workers W]`
abbrev pub resume_rules : List Rule
resume_rules =
    word_rule (codes "circuit") ∷ word_rule (codes "partition") ∷ word_rule (codes "trace") ∷ word_rule (codes "snap")
    ∷ value_rule (codes "capacity") ∷ value_rule (codes "workers") ∷ []

-- a command with this name, which takes what these rules say
abbrev pub command_shape : Text → List Rule → Shape
command_shape name rules = record (new_shape name) { rules = rules }

-- `run`, with its rules
abbrev pub run_shape : Shape
run_shape = command_shape (codes "run") run_rules

-- `replay`, with its rules
abbrev pub replay_shape : Shape
replay_shape = command_shape (codes "replay") replay_rules

-- `check`, with its rules
abbrev pub check_shape : Shape
check_shape = command_shape (codes "check") check_rules

-- `demo`, with its rules
abbrev pub demo_shape : Shape
demo_shape = command_shape (codes "demo") demo_rules

-- `save`, with its rules
abbrev pub save_shape : Shape
save_shape = command_shape (codes "save") save_rules

-- `resume`, with its rules
abbrev pub resume_shape : Shape
resume_shape = command_shape (codes "resume") resume_rules

-- The program: it requires a command, and has no words for help.
abbrev pub golden_app : App
golden_app = record {
  top = record (new_shape (codes "golden")) {
    is_leaf = false;
    disable_help_flag = true;
    disable_help_subcommand = true;
    subcommand_required = true;
  };
  subs = run_shape ∷ replay_shape ∷ check_shape ∷ demo_shape ∷ save_shape ∷ resume_shape ∷ [];
}
