-- More on Spelling: definitions that no promise of the program reaches.
-- Source: this program's own form of a steps file.
use Rattle.std.specs.Prelude.{◌≡◌, ◌≢◌, ℕ, ◌+◌, ◌<◌, ◌≤◌, true, List, ◌∷◌, ◌++◌, Some, All, AllPairs, codes, length, slice_get}
use Rattle.gg_net.specs.declared.event.Event.{Event}
use Rattle.gg_net.specs.declared.event.Event.TheVariants.{Latch, Fire, Serve, Finish}
use Rattle.gg_trace.specs.Fields.{is_blank}
use Rattle.gg_trace.specs.inside.Lined.{HasNoFeed}
use Rattle.gg_trace.specs.inside.Parted.{HasNoBlank}
use Rattle.gg_replay.specs.steps_file.Naming.{Naming, ports_at}

-- A number goes by a name: it has the name, no smaller number has it, and the name isn't empty and has no blank.
pub record GoesBy (names : List (List ℕ)) (number : ℕ) (name : List ℕ) : Type 0 where
  pub has : slice_get names number ≡ Some name
  pub first : (k : ℕ) → slice_get names k ≡ Some name → number ≤ k
  pub some : 0 < length name
  pub plain : HasNoBlank name

-- The text starts with a word and one blank, and this is the rest.
pub record StartsWith (text word rest : List ℕ) : Type 0 where
  pub blank : ℕ
  pub splits : is_blank blank ≡ true
  pub whole : text ≡ word ++ blank ∷ rest

-- The line spells the step. Each of its blanks may be a space or a tab.
abbrev pub Spells : Naming → List ℕ → Event → Type 0
Spells naming line (Latch channel) = (name : List ℕ) × GoesBy naming.channels channel name × StartsWith line (codes "latch") name
Spells naming line (Fire channel) = (name : List ℕ) × GoesBy naming.channels channel name × StartsWith line (codes "fire") name
Spells naming line (Finish machine) = (name : List ℕ) × GoesBy naming.machines machine name × StartsWith line (codes "finish") name
Spells naming line (Serve machine port) =
    (name : List ℕ) × (own : List ℕ) × (names : List ℕ) × GoesBy naming.machines machine name × GoesBy (ports_at naming machine) port own
    × StartsWith line (codes "serve") names × StartsWith names name own

-- ---- which steps have a line

-- Names that can be used in a line: they differ, and none of them is empty or has a blank or a line feed.
pub record AreUsable (names : List (List ℕ)) : Type 0 where
  pub differ : AllPairs (λ a b. a ≢ b) names
  pub some : All (λ name. 0 < length name) names
  pub plain : All HasNoBlank names
  pub inline : All HasNoFeed names

-- The names of channels, of machines, and of each machine's ports can be used in a line.
pub record IsUsable (naming : Naming) : Type 0 where
  pub channels : AreUsable naming.channels
  pub machines : AreUsable naming.machines
  pub ports : (machine : ℕ) → AreUsable (ports_at naming machine)

-- the channel, machine or port of an event has a name
abbrev pub HasNames : Naming → Event → Type 0
HasNames naming (Latch channel) = channel < length naming.channels
HasNames naming (Fire channel) = channel < length naming.channels
HasNames naming (Finish machine) = machine < length naming.machines
HasNames naming (Serve machine port) = (machine < length naming.machines) × (port < length (ports_at naming machine))

-- ---- one more line

-- one line, without its line end
pub record IsLine (line : List ℕ) : Type 0 where
  pub some : 0 < length line
  pub inline : HasNoFeed line
