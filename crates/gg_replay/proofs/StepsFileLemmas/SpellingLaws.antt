-- A line is read as a step just if it spells that step.
use Rattle.std.proofs.Common.{◌≡◌, ℕ, List, [], ◌∷◌, codes, Option, None, Some, Bool, true, false, refl, ap, ◌∙◌, subst}
use Rattle.std.specs.Prelude.{option_map, if◌then◌else◌}
use Rattle.std.specs.Bool.{Decides}
use Rattle.std.specs.Str.{bytes_eq}
use Rattle.std.proofs.lemmas.Slice.Eq.{bytes_eq-Decides}
use Rattle.gg_net.specs.declared.event.Event.{Event}
use Rattle.gg_net.specs.declared.event.Event.TheVariants.{Latch, Fire, Serve, Finish}
use Rattle.gg_trace.specs.inside.Parted.{HasNoBlank}
use Rattle.gg_replay.specs.steps_file.Naming.{Naming, first_place, ports_at}
use Rattle.gg_replay.specs.steps_file.Words.{words}
use Rattle.gg_replay.specs.steps_file.Steps.{named_step, served_step, step_of_words, step_of}
use Rattle.gg_replay.specs.inside.Spelling.{StartsWith, Spells}
use Rattle.gg_replay.proofs.StepsFileLemmas.NamedLaws.{AreWordsOf, names-goes, goes-names, words-are, latch-plain, fire-plain, finish-plain, serve-plain, words-two, words-three}

of_some : {A B : Type 0} (f : A → B) (o : Option A) (y : B) → option_map f o ≡ Some y → (x : A) × (o ≡ Some x) × (f x ≡ y)
of_some f None y e = absurd (cc)
of_some f (Some x) y e = (x, refl, cc)

-- ---- a line that is read as a step spells it

latch-spelt : (naming : Naming) (line word name : List ℕ) (event : Event) → HasNoBlank name → StartsWith line word name → word ≡ codes "latch"
    → option_map (λ channel. Latch channel) (first_place name naming.channels) ≡ Some event → Spells naming line event
latch-spelt naming line word name event plain start is e =
    let r = of_some (λ channel. Latch channel) (first_place name naming.channels) event e in
    subst (Spells naming line) r.2 (name, names-goes naming.channels name r.0 plain r.1, subst (λ w. StartsWith line w name) is start)

fire-spelt : (naming : Naming) (line word name : List ℕ) (event : Event) → HasNoBlank name → StartsWith line word name → word ≡ codes "fire"
    → option_map (λ channel. Fire channel) (first_place name naming.channels) ≡ Some event → Spells naming line event
fire-spelt naming line word name event plain start is e =
    let r = of_some (λ channel. Fire channel) (first_place name naming.channels) event e in
    subst (Spells naming line) r.2 (name, names-goes naming.channels name r.0 plain r.1, subst (λ w. StartsWith line w name) is start)

finish-spelt : (naming : Naming) (line word name : List ℕ) (event : Event) → HasNoBlank name → StartsWith line word name → word ≡ codes "finish"
    → option_map (λ machine. Finish machine) (first_place name naming.machines) ≡ Some event → Spells naming line event
finish-spelt naming line word name event plain start is e =
    let r = of_some (λ machine. Finish machine) (first_place name naming.machines) event e in
    subst (Spells naming line) r.2 (name, names-goes naming.machines name r.0 plain r.1, subst (λ w. StartsWith line w name) is start)

named-spelt : (naming : Naming) (line word name : List ℕ) (event : Event) → HasNoBlank name → StartsWith line word name → named_step naming word name ≡ Some event → Spells naming line event
named-spelt naming line word name event plain start e =
    by_latch (bytes_eq word (codes "latch")) (bytes_eq-Decides word (codes "latch")) e
  where
    channel_of : Option ℕ
    channel_of = first_place name naming.channels

    machine_of : Option ℕ
    machine_of = first_place name naming.machines

    by_finish : (b : Bool) → Decides b (word ≡ codes "finish") → (if b then option_map (λ machine. Finish machine) machine_of else None) ≡ Some event → Spells naming line event
    by_finish true d h = finish-spelt naming line word name event plain start (d.0 refl) h
    by_finish false d h = absurd (cc)

    by_fire : (b : Bool) → Decides b (word ≡ codes "fire")
        → (if b then option_map (λ channel. Fire channel) channel_of else if bytes_eq word (codes "finish") then option_map (λ machine. Finish machine) machine_of else None) ≡ Some event
        → Spells naming line event
    by_fire true d h = fire-spelt naming line word name event plain start (d.0 refl) h
    by_fire false d h = by_finish (bytes_eq word (codes "finish")) (bytes_eq-Decides word (codes "finish")) h

    by_latch : (b : Bool) → Decides b (word ≡ codes "latch")
        → (if b then option_map (λ channel. Latch channel) channel_of
        else if bytes_eq word (codes "fire") then option_map (λ channel. Fire channel) channel_of
        else if bytes_eq word (codes "finish") then option_map (λ machine. Finish machine) machine_of else None) ≡ Some event
        → Spells naming line event
    by_latch true d h = latch-spelt naming line word name event plain start (d.0 refl) h
    by_latch false d h = by_fire (bytes_eq word (codes "fire")) (bytes_eq-Decides word (codes "fire")) h

port-spelt : (naming : Naming) (line names name own : List ℕ) (event : Event) (o : Option ℕ) → HasNoBlank name → HasNoBlank own → StartsWith line (codes "serve") names
    → StartsWith names name own → first_place name naming.machines ≡ o → served_step naming o own ≡ Some event → Spells naming line event
port-spelt naming line names name own event None plain plain_own start start_name at e = absurd (cc)
port-spelt naming line names name own event (Some machine) plain plain_own start start_name at e =
    let r = of_some (λ port. Serve machine port) (first_place own (ports_at naming machine)) event e in
    subst (Spells naming line) r.2
    (name, own, names, names-goes naming.machines name machine plain at, names-goes (ports_at naming machine) own r.0 plain_own r.1, start, start_name)

serve-spelt : (naming : Naming) (line word names name own : List ℕ) (event : Event) (b : Bool) → HasNoBlank name → HasNoBlank own → StartsWith line word names
    → StartsWith names name own → Decides b (word ≡ codes "serve")
    → (if b then served_step naming (first_place name naming.machines) own else None) ≡ Some event → Spells naming line event
serve-spelt naming line word names name own event true plain plain_own start start_name d e =
    port-spelt naming line names name own event (first_place name naming.machines) plain plain_own (subst (λ w. StartsWith line w names) (d.0 refl) start) start_name refl e
serve-spelt naming line word names name own event false plain plain_own start start_name d e = absurd (cc)

-- the last word is all of what is left
starts-last : (line word rest name : List ℕ) → StartsWith line word rest → rest ≡ name → StartsWith line word name
starts-last line word rest name start last = subst (λ r. StartsWith line word r) last start

words-spelt : (naming : Naming) (line : List ℕ) (parts : List (List ℕ)) (event : Event) → AreWordsOf line parts → step_of_words naming parts ≡ Some event → Spells naming line event
words-spelt naming line [] event are e = absurd (cc)
words-spelt naming line (word ∷ []) event are e = absurd (cc)
words-spelt naming line (word ∷ name ∷ []) event are e =
    named-spelt naming line word name event are.3.1 (starts-last line word are.0 name are.1 are.3.0) e
words-spelt naming line (word ∷ name ∷ own ∷ []) event are e =
    let behind = are.3 in
    serve-spelt naming line word are.0 name own event (bytes_eq word (codes "serve")) behind.2 behind.3.1 are.1
    (starts-last are.0 name behind.0 own behind.1 behind.3.0) (bytes_eq-Decides word (codes "serve")) e
words-spelt naming line (word ∷ name ∷ own ∷ more ∷ rest) event are e = absurd (cc)

pub step-spelt : (naming : Naming) (line : List ℕ) (event : Event) → step_of naming line ≡ Some event → Spells naming line event
step-spelt naming line event e = words-spelt naming line (words line) event (words-are line) e

-- ---- a line that spells a step is read as it

pub step-read : (naming : Naming) (line : List ℕ) (event : Event) → Spells naming line event → step_of naming line ≡ Some event
step-read naming line (Latch channel) s =
    ap (step_of_words naming) (words-two line (codes "latch") s.0 latch-plain s.2 s.1.plain)
    ∙ ap (option_map (λ n. Latch n)) (goes-names naming.channels s.0 channel s.1)
step-read naming line (Fire channel) s =
    ap (step_of_words naming) (words-two line (codes "fire") s.0 fire-plain s.2 s.1.plain)
    ∙ ap (option_map (λ n. Fire n)) (goes-names naming.channels s.0 channel s.1)
step-read naming line (Finish machine) s =
    ap (step_of_words naming) (words-two line (codes "finish") s.0 finish-plain s.2 s.1.plain)
    ∙ ap (option_map (λ n. Finish n)) (goes-names naming.machines s.0 machine s.1)
step-read naming line (Serve machine port) s =
    ap (step_of_words naming) (words-three line (codes "serve") s.2 s.0 s.1 serve-plain s.5 s.3.plain s.6 s.4.plain)
    ∙ ap (λ o. served_step naming o s.1) (goes-names naming.machines s.0 machine s.3)
    ∙ ap (option_map (λ n. Serve machine n)) (goes-names (ports_at naming machine) s.1 port s.4)
