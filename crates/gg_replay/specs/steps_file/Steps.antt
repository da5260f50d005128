-- A steps file: one step on each line.
-- Source: this program's own form. A line is `latch CHANNEL`, `fire CHANNEL`, `serve MACHINE PORT` or `finish MACHINE`,
-- with one blank, a space or a tab, between words. Lines are as in gg_trace: each ends with LF or CR LF, and the last
-- line end is optional. A CR without an LF after it belongs to the line.
use Rattle.std.specs.Prelude.{ℕ, List, [], ◌∷◌, Option, Some, None, if◌then◌else◌, codes, map, option_map}
use Rattle.std.specs.Str.{bytes_eq}
use Rattle.gg_net.specs.declared.event.Event.{Event}
use Rattle.gg_net.specs.declared.event.Event.TheVariants.{Latch, Fire, Serve, Finish}
use Rattle.gg_trace.specs.Fields.{text_lines}
use Rattle.gg_replay.specs.steps_file.Naming.{Naming, first_place, ports_at}
use Rattle.gg_replay.specs.steps_file.Words.{words}

-- the step that a word and one name give
abbrev pub named_step : Naming → List ℕ → List ℕ → Option Event
named_step naming word name =
    if bytes_eq word (codes "latch") then option_map (λ channel. Latch channel) (first_place name naming.channels)
    else if bytes_eq word (codes "fire") then option_map (λ channel. Fire channel) (first_place name naming.channels)
    else if bytes_eq word (codes "finish") then option_map (λ machine. Finish machine) (first_place name naming.machines)
    else None

-- the step that serves a port of a machine, if there is such a machine
abbrev pub served_step : Naming → Option ℕ → List ℕ → Option Event
served_step naming None port = None
served_step naming (Some machine) port = option_map (λ number. Serve machine number) (first_place port (ports_at naming machine))

-- the step that a list of words gives
abbrev pub step_of_words : Naming → List (List ℕ) → Option Event
step_of_words naming [] = None
step_of_words naming (word ∷ []) = None
step_of_words naming (word ∷ name ∷ []) = named_step naming word name
step_of_words naming (word ∷ machine ∷ port ∷ []) =
    if bytes_eq word (codes "serve") then served_step naming (first_place machine naming.machines) port else None
step_of_words naming (word ∷ name ∷ port ∷ more ∷ rest) = None

-- The step that a line is, or None if it isn't a step.
abbrev pub step_of : Naming → List ℕ → Option Event
step_of naming line = step_of_words naming (words line)

-- The steps of a file, one for each line: line k, counted from 1, is step k.
abbrev pub steps_of : Naming → List ℕ → List (Option Event)
steps_of naming text = map (step_of naming) (text_lines text)
