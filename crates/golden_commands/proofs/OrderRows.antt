-- What commands ask of files, by hand.
use Rattle.std.proofs.Common.{◌≡◌, [], None, Some, codes, refl, true}
use Rattle.std.specs.Prelude.{false}
use Rattle.gg_words.specs.declared.command.Cmd.TheVariants.{Check, Demo, Resume, Run, Save}
use Rattle.golden_commands.specs.Commands.{asked_by, asking, known_of, trace_of}

-- a demo has no files
demo-has-none : asked_by (Demo 0 1 0) ≡ None
demo-has-none = refl

demo-has-no-trace : trace_of (Demo 0 1 0) ≡ None
demo-has-no-trace = refl

-- a near miss: the other commands have
check-has-files : asked_by (Check (codes "c") (codes "p") 2) ≡ Some (asking (codes "c") (codes "p") 2)
check-has-files = refl

near-none : asked_by (Check (codes "c") (codes "p") 2) ≡ None → ⊥
near-none e = absurd (cc)

-- `save` and `resume` take no bridges
save-saves : (known_of [] (Save (codes "c") (codes "p") (codes "t") 3 2 1)).saves ≡ true
save-saves = refl

resume-saves : (known_of [] (Resume (codes "c") (codes "p") (codes "t") (codes "s") 2 1)).saves ≡ true
resume-saves = refl

-- a near miss: `run` does
run-saves-none : (known_of [] (Run (codes "c") (codes "p") (codes "t") 2 1 false)).saves ≡ true → ⊥
run-saves-none e = absurd (cc)
