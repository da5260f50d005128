-- The cause of each status of an outcome.
use Rattle.std.proofs.Common.{◌≡◌, ◌≢◌, ℕ, List, [], refl, ap, sym, ◌∙◌, subst, inl, inr, arith, ◌⊎◌}
use Rattle.std.specs.Prelude.{Result, Ok}
use Rattle.gg_io.specs.Said.{Said, cannot_load}
use Rattle.gg_io.specs.Order.{StopsAt, DueAt, IsDueAccepted, IsExact, IsJudgement, OfNone}
use Rattle.gg_io.specs.Ends.{Loads, NoneLost}
use Rattle.gg_io.specs.inside.Endings.{IfRefused}
use Rattle.gg_io.specs.declared.endings.Ending.{Ending}
use Rattle.gg_io.proofs.EndingLemmas.{IfRefused-map}
use Rattle.gg_io.proofs.EndsLemmas.{WhyEnds, Stopped, Wrote, Failed, Wanted, SaysDue, complete-ends, due-ends, ends-why, unjudged-0, unjudged-2, unjudged-3, unjudged-4, unjudged-5, unjudged-8}
use Rattle.gg_io.proofs.OrderLemmas.{Why, Lost, Cut, Judged, why-stops}
use Rattle.gg_words.specs.Meaning as command_line
use Rattle.gg_words.specs.Meaning.{IsCommand, Says}
use Rattle.gg_words.specs.declared.command.Cmd.{Cmd}
use Rattle.gg_words.specs.declared.command.WordFault.{WordFault}
use Rattle.gg_words.specs.declared.command.WordFault.TheVariants as word
use Rattle.gg_cut_plan.specs.Bridges.{Models}
use Rattle.golden_commands.specs.Commands.{order_of}
use Rattle.golden_commands.specs.Outcome.{Outcome, Asked, Unasked, WantsMemoryFirst}
use Rattle.golden_commands.specs.Words.{AskForCommand, TellsUnasked, TellsWords}

-- words mean at most one thing
abbrev pub OneMeaning : Type 0
OneMeaning = (words : List (List ℕ)) (one other : Result Cmd (List ℕ)) → Says words one → Says words other → one ≡ other

-- so words ask for at most one command
pub asks-once : OneMeaning → (words : List (List ℕ)) (one other : Cmd) → IsCommand words one → IsCommand words other → one ≡ other
asks-once once words one other asks others = let e = once words (Ok one) (Ok other) asks others in cc

-- a fault that isn't `NoMemory` is a fault of the words
pub word-fault : (words : List (List ℕ)) (fault : WordFault) → fault ≢ word.NoMemory → command_line.IfWordFault words fault → command_line.IsWordFault words fault
word-fault words (word.Unexpected text) some h = h
word-fault words (word.Refused kind) some h = h
word-fault words (word.WrongNumber value) some h = h
word-fault words word.NoMemory some h = absurd (some refl)

-- so what is reported for such a fault is reported for words that are no command
pub refused-unasked : (words : List (List ℕ)) (fault : WordFault) (ending : Ending) → (fault ≢ word.NoMemory → (command : Cmd) → IsCommand words command → ⊥) → command_line.IfWordFault words fault
    → IfRefused (λ said. (fault ≢ word.NoMemory) × TellsWords fault said) ending → IfRefused (λ said. (¬ AskForCommand words) × TellsUnasked words said) ending
refused-unasked words fault ending none has = IfRefused-map (λ said h. ((λ asked. none h.0 asked.0 asked.1), (fault, word-fault words fault h.0 has, h.1))) ending

-- what is reported for words that are no command has the status 2
fault-status : (fault : WordFault) (said : Said) → TellsWords fault said → said.status ≡ 2
fault-status (word.Unexpected text) said tells = ap (λ (s : Said). s.status) tells
fault-status (word.Refused kind) said tells = ap (λ (s : Said). s.status) tells
fault-status (word.WrongNumber value) said tells = ap (λ (s : Said). s.status) tells
fault-status word.NoMemory said tells = absurd tells

pub unasked-status : (words : List (List ℕ)) (said : Said) → TellsUnasked words said → said.status ≡ 2
unasked-status words said (fault, has, tells) = fault-status fault said tells

-- each command's order is exact
abbrev pub ExactOrders : Models → Type 0
ExactOrders models = (command : Cmd) → IsExact (order_of models command)

module _ (models : Models) (loads : Loads) (unwritten : Type 0) where
  -- The cause of each status.
  pub data Cause (words : List (List ℕ)) (status : ℕ) (text line : List ℕ) : Type 0 where
    IsLost : (is : status ≡ 3) (name : List ℕ) (rose : loads.lost name) (tells : line ≡ (cannot_load name).line) (none : text ≡ []) → Cause words status text line
    IsCut : (is : status ≡ 8) (name : List ℕ) (rose : loads.cut name) (command : Cmd) (said : Said) (asks : IsCommand words command) (stops : StopsAt loads.files OfNone loads.cut (order_of models command) said) (at : said.status ≡ 8) (tells : line ≡ said.line) (none : text ≡ []) → Cause words status text line
    IsJudged : (judged : IsJudgement status) (command : Cmd) (said : Said) (asks : IsCommand words command) (stops : StopsAt loads.files OfNone OfNone (order_of models command) said) (is : status ≡ said.status) (tells : line ≡ said.line) (none : text ≡ []) → Cause words status text line
    IsNoCommand : (is : status ≡ 2) (unasked : ¬ AskForCommand words) (said : Said) (told : TellsUnasked words said) (tells : line ≡ said.line) (none : text ≡ []) → Cause words status text line
    IsDone : (is : status ≡ 0) → Cause words status text line
    IsUnwritten : (is : status ≡ 4) (failed : unwritten) → Cause words status text line
    IsWanting : (is : status ≡ 5) → Cause words status text line

  cause-stopped : (words : List (List ℕ)) (status : ℕ) (text line : List ℕ) (command : Cmd) (said : Said) → IsCommand words command
      → status ≡ said.status → line ≡ said.line → text ≡ [] → Why loads.files loads.lost loads.cut (order_of models command) said → Cause words status text line
  cause-stopped words status text line command said asks is tells none (Lost name e rose) = IsLost (is ∙ ap (λ (s : Said). s.status) e) name rose (tells ∙ ap (λ (s : Said). s.line) e) none
  cause-stopped words status text line command said asks is tells none (Cut e name rose stops) = IsCut (is ∙ e) name rose command said asks stops e tells none
  cause-stopped words status text line command said asks is tells none (Judged e stops) = IsJudged (subst IsJudgement (sym is) e) command said asks stops is tells none

  cause-ends : ExactOrders models → (words : List (List ℕ)) (status : ℕ) (text line : List ℕ) (command : Cmd) → IsCommand words command
      → WhyEnds loads unwritten (order_of models command) status text line → Cause words status text line
  cause-ends exact words status text line command asks (Stopped said stops is tells none) =
      cause-stopped words status text line command said asks is tells none (why-stops loads.files loads.lost loads.cut (order_of models command) said (exact command) stops)
  cause-ends exact words status text line command asks (Wrote written is) = IsDone is
  cause-ends exact words status text line command asks (Failed failed whole written is) = IsUnwritten is failed
  cause-ends exact words status text line command asks (Wanted is) = IsWanting is

  pub cause : ExactOrders models → (words : List (List ℕ)) (status : ℕ) (text line : List ℕ) → Outcome models words loads unwritten status text line → Cause words status text line
  cause exact words status text line (Asked command asks ends) = cause-ends exact words status text line command asks (ends-why loads unwritten (order_of models command) status text line ends)
  cause exact words status text line (Unasked unasked said tells says none) = IsNoCommand (says.0 ∙ unasked-status words said tells) unasked said tells says.1 none
  cause exact words status text line (WantsMemoryFirst says none) = IsWanting says.0

  module _ (words : List (List ℕ)) (status : ℕ) (text line : List ℕ) where
    pub lost-3 : Cause words status text line → status ≡ 3 → (name : List ℕ) × loads.lost name × (status ≡ (cannot_load name).status) × (line ≡ (cannot_load name).line)
    lost-3 (IsLost is name rose tells none) e = (name, rose, is, tells)
    lost-3 (IsCut is name rose command said asks stops at tells none) e = absurd (omega arith)
    lost-3 (IsJudged judged command said asks stops is tells none) e = absurd (unjudged-3 (subst IsJudgement e judged))
    lost-3 (IsNoCommand is unasked said told tells none) e = absurd (omega arith)
    lost-3 (IsDone is) e = absurd (omega arith)
    lost-3 (IsUnwritten is failed) e = absurd (omega arith)
    lost-3 (IsWanting is) e = absurd (omega arith)

    pub cut-8 : Cause words status text line → status ≡ 8 → ((name : List ℕ) × loads.cut name)
        × ((command : Cmd) × IsCommand words command × ((said : Said) × StopsAt loads.files OfNone loads.cut (order_of models command) said × (status ≡ said.status) × (line ≡ said.line)))
    cut-8 (IsLost is name rose tells none) e = absurd (omega arith)
    cut-8 (IsCut is name rose command said asks stops at tells none) e = ((name, rose), (command, asks, (said, stops, e ∙ sym at, tells)))
    cut-8 (IsJudged judged command said asks stops is tells none) e = absurd (unjudged-8 (subst IsJudgement e judged))
    cut-8 (IsNoCommand is unasked said told tells none) e = absurd (omega arith)
    cut-8 (IsDone is) e = absurd (omega arith)
    cut-8 (IsUnwritten is failed) e = absurd (omega arith)
    cut-8 (IsWanting is) e = absurd (omega arith)

    pub unwritten-4 : Cause words status text line → status ≡ 4 → unwritten
    unwritten-4 (IsLost is name rose tells none) e = absurd (omega arith)
    unwritten-4 (IsCut is name rose command said asks stops at tells none) e = absurd (omega arith)
    unwritten-4 (IsJudged judged command said asks stops is tells none) e = absurd (unjudged-4 (subst IsJudgement e judged))
    unwritten-4 (IsNoCommand is unasked said told tells none) e = absurd (omega arith)
    unwritten-4 (IsDone is) e = absurd (omega arith)
    unwritten-4 (IsUnwritten is failed) e = failed
    unwritten-4 (IsWanting is) e = absurd (omega arith)

    pub judged-file : Cause words status text line → IsJudgement status
        → (command : Cmd) × IsCommand words command × ((said : Said) × StopsAt loads.files OfNone OfNone (order_of models command) said × (status ≡ said.status) × (line ≡ said.line))
    judged-file (IsLost is name rose tells none) j = absurd (unjudged-3 (subst IsJudgement is j))
    judged-file (IsCut is name rose command said asks stops at tells none) j = absurd (unjudged-8 (subst IsJudgement is j))
    judged-file (IsJudged judged command said asks stops is tells none) j = (command, asks, (said, stops, is, tells))
    judged-file (IsNoCommand is unasked said told tells none) j = absurd (unjudged-2 (subst IsJudgement is j))
    judged-file (IsDone is) j = absurd (unjudged-0 (subst IsJudgement is j))
    judged-file (IsUnwritten is failed) j = absurd (unjudged-4 (subst IsJudgement is j))
    judged-file (IsWanting is) j = absurd (unjudged-5 (subst IsJudgement is j))

    pub no_command-2 : Cause words status text line → status ≡ 2 → (¬ AskForCommand words) × ((said : Said) × TellsUnasked words said × (line ≡ said.line))
    no_command-2 (IsLost is name rose tells none) e = absurd (omega arith)
    no_command-2 (IsCut is name rose command said asks stops at tells none) e = absurd (omega arith)
    no_command-2 (IsJudged judged command said asks stops is tells none) e = absurd (unjudged-2 (subst IsJudgement e judged))
    no_command-2 (IsNoCommand is unasked said told tells none) e = (unasked, (said, told, tells))
    no_command-2 (IsDone is) e = absurd (omega arith)
    no_command-2 (IsUnwritten is failed) e = absurd (omega arith)
    no_command-2 (IsWanting is) e = absurd (omega arith)

    pub none-written : Cause words status text line → status ≢ 0 → status ≢ 4 → status ≢ 5 → text ≡ []
    none-written (IsLost is name rose tells none) a b c = none
    none-written (IsCut is name rose command said asks stops at tells none) a b c = none
    none-written (IsJudged judged command said asks stops is tells none) a b c = none
    none-written (IsNoCommand is unasked said told tells none) a b c = none
    none-written (IsDone is) a b c = absurd (a is)
    none-written (IsUnwritten is failed) a b c = absurd (b is)
    none-written (IsWanting is) a b c = absurd (c is)

    pub unasked-2 : Outcome models words loads unwritten status text line → ¬ AskForCommand words → (status ≡ 2) ⊎ (status ≡ 5)
    unasked-2 (Asked command asks ends) unasked = absurd (unasked (command, asks))
    unasked-2 (Unasked none said tells says nothing) unasked = inl (says.0 ∙ unasked-status words said tells)
    unasked-2 (WantsMemoryFirst says nothing) unasked = inr says.0

    pub due-said : ExactOrders models → OneMeaning → Outcome models words loads unwritten status text line → NoneLost loads
        → (command : Cmd) (due : Said) → IsCommand words command → DueAt loads.files (order_of models command) due → SaysDue loads unwritten status line (order_of models command) due
    due-said exact once (Asked command asks ends) none other due others d =
        let same = asks-once once words other command others asks in
        subst (λ (c : Cmd). SaysDue loads unwritten status line (order_of models c) due) (sym same)
        (due-ends loads unwritten status text line (order_of models command) due (exact command) (subst (λ (c : Cmd). DueAt loads.files (order_of models c) due) same d) none (ends-why loads unwritten (order_of models command) status text line ends))
    due-said exact once (Unasked unasked said tells says nothing) none other due others d = absurd (unasked (other, others))
    due-said exact once (WantsMemoryFirst says nothing) none other due others d = inr says.0

    pub complete-status : ExactOrders models → OneMeaning → Outcome models words loads unwritten status text line → NoneLost loads → (unwritten → ⊥)
        → (command : Cmd) → IsCommand words command → IsDueAccepted loads.files (order_of models command) → (status ≡ 0) ⊎ (status ≡ 5)
    complete-status exact once (Asked command asks ends) none wrote other others d =
        let same = asks-once once words other command others asks in
        complete-ends loads unwritten status text line (order_of models command) (exact command) (subst (λ (c : Cmd). IsDueAccepted loads.files (order_of models c)) same d) none wrote (ends-why loads unwritten (order_of models command) status text line ends)
    complete-status exact once (Unasked unasked said tells says nothing) none wrote other others d = absurd (unasked (other, others))
    complete-status exact once (WantsMemoryFirst says nothing) none wrote other others d = inr says.0
