-- The order of refusals: what the shelf tells of the files decides what is reported.
use Rattle.std.proofs.Common.{◌≡◌, ℕ, ◌<◌, ◌≤◌, List, sym, ap, ◌∙◌, subst, inl, inr, length, arith}
use Rattle.gg_io.specs.Told.{Told, Holds, CanHold, CanBeOver}
use Rattle.gg_io.specs.Said.{Said, cannot_load}
use Rattle.gg_io.specs.Order.{File, Order, Load, Write, CanBe, IsRefused, StopsAt, IsWritten, IsTold, IsDueOf, DueAt, IsDueAccepted, IsExactFile, IsExact, IsJudgement, OfNone}

-- a file is exact if all that is reported for its bytes has this status
pub exact-by : {file : File} (status : ℕ) → IsJudgement status → ((bytes : List ℕ) (said : Said) → file.accepts bytes → file.refuses bytes said → ⊥)
    → ((bytes : List ℕ) (said : Said) → file.refuses bytes said → said.status ≡ status) → IsExactFile file
exact-by status judgement apart is = record {
  apart = apart;
  one_status = λ bytes said other x y. is bytes said x ∙ sym (is bytes other y);
  judges = λ bytes said x. subst IsJudgement (sym (is bytes said x)) judgement;
}

module _ (files : List ℕ → Told) where
  -- a told file can only have the bytes that are told
  pub told-bytes : (file : File) (bytes other : List ℕ) → IsTold files file bytes → CanBe files file other → other ≡ bytes
  told-bytes file bytes other told can = let held = can.held in let h : CanHold (Holds bytes) other = subst (λ t. CanHold t other) told held in h

  -- only one text is told of a file
  told-once : (file : File) (bytes other : List ℕ) → IsTold files file bytes → IsTold files file other → other ≡ bytes
  told-once file bytes other told told' = let e : Holds other ≡ Holds bytes = sym told' ∙ told in cc

  -- if the first file is told and accepted, what is due is due for what follows it
  pub due-behind : (file : File) (next : List ℕ → Order) (bytes : List ℕ) (said : Said) → IsExactFile file → IsTold files file bytes
      → length bytes ≤ file.limit → file.accepts bytes → DueAt files (Load file next) said → DueAt files (next bytes) said
  due-behind file next bytes said exact told fits accepts (other, told', inl (inl o)) =
      let e = told-once file bytes other told told' in let short : length other ≤ file.limit = subst (λ (b : List ℕ). length b ≤ file.limit) (sym e) fits in let long = o.0 in absurd (omega arith)
  due-behind file next bytes said exact told fits accepts (other, told', inl (inr o)) =
      absurd (exact.apart bytes said accepts (subst (λ b. file.refuses b said) (told-once file bytes other told told') o.1))
  due-behind file next bytes said exact told fits accepts (other, told', inr (short, accepts', d)) =
      subst (λ b. DueAt files (next b) said) (told-once file bytes other told told') d

  -- if the first file is told and refused, what is due may be reported for its bytes
  pub due-refused : (file : File) (next : List ℕ → Order) (bytes : List ℕ) (due said : Said) → IsExactFile file → IsTold files file bytes
      → length bytes ≤ file.limit → file.refuses bytes due → DueAt files (Load file next) said → file.refuses bytes said
  due-refused file next bytes due said exact told fits refuses (other, told', inl (inl o)) =
      let e = told-once file bytes other told told' in let short : length other ≤ file.limit = subst (λ (b : List ℕ). length b ≤ file.limit) (sym e) fits in let long = o.0 in absurd (omega arith)
  due-refused file next bytes due said exact told fits refuses (other, told', inl (inr o)) = subst (λ b. file.refuses b said) (told-once file bytes other told told') o.1
  due-refused file next bytes due said exact told fits refuses (other, told', inr (short, accepts, d)) =
      absurd (exact.apart bytes due (subst file.accepts (told-once file bytes other told told') accepts) refuses)

  -- a told file that can be over its limit has more bytes than the limit
  pub told-over : (file : File) (bytes : List ℕ) → IsTold files file bytes → CanBeOver (files file.name) file.limit → file.limit < length bytes
  told-over file bytes told over = let h : CanBeOver (Holds bytes) file.limit = subst (λ t. CanBeOver t file.limit) told over in h

  -- a told file for which a refusal is due isn't accepted
  pub due-not_accepted : (file : File) (bytes other : List ℕ) (due : Said) → IsExactFile file → IsTold files file bytes
      → IsDueOf files file bytes due → CanBe files file other → file.accepts other → ⊥
  due-not_accepted file bytes other due exact told (inl o) can accepts =
      let e = told-bytes file bytes other told can in let short = can.within in let fits : length bytes ≤ file.limit = subst (λ (b : List ℕ). length b ≤ file.limit) e short in let long = o.0 in absurd (omega arith)
  due-not_accepted file bytes other due exact told (inr o) can accepts =
      exact.apart bytes due (subst file.accepts (told-bytes file bytes other told can) accepts) o.1

  -- if a refusal is due, nothing is written
  pub written-due : (order : Order) (due : Said) (text : List ℕ) → IsExact order → DueAt files order due → IsWritten files order text → ⊥
  written-due (Load file next) due text exact (bytes, told, inl d) (other, can, accepts, later) = due-not_accepted file bytes other due exact.0 told d can accepts
  written-due (Load file next) due text exact (bytes, told, inr (short, accepts, d)) (other, can, accepts', later) =
      written-due (next bytes) due text (exact.1 bytes) d (subst (λ b. IsWritten files (next b) text) (told-bytes file bytes other told can) later)
  written-due (Write IsText) due text exact d written = d

  -- This report is due, and no other.
  pub record IsOnlyDue (order : Order) (due : Said) : Type 0 where
    pub is : DueAt files order due
    pub only : (other : Said) → DueAt files order other → other ≡ due

  -- the first file is told, and it is refused with nothing but this report
  pub first-only : (file : File) (next : List ℕ → Order) (bytes : List ℕ) (due : Said) → IsExactFile file → IsTold files file bytes → length bytes ≤ file.limit
      → file.refuses bytes due → ((other : Said) → file.refuses bytes other → other ≡ due) → IsOnlyDue (Load file next) due
  first-only file next bytes due exact told fits refuses only =
      record { is = (bytes, told, inl (inr (fits, refuses))); only = λ other d. only other (due-refused file next bytes due other exact told fits refuses d) }

  -- the first file is told and accepted, and only this report is due for what follows it
  pub later-only : (file : File) (next : List ℕ → Order) (bytes : List ℕ) (due : Said) → IsExactFile file → IsTold files file bytes → length bytes ≤ file.limit
      → file.accepts bytes → IsOnlyDue (next bytes) due → IsOnlyDue (Load file next) due
  later-only file next bytes due exact told fits accepts later =
      record { is = (bytes, told, inr (fits, accepts, later.is)); only = λ other d. later.only other (due-behind file next bytes other exact told fits accepts d) }

  module _ (lost cut : List ℕ → Type 0) where
    -- if no load fails, what is reported for a told file for which a refusal is due is due itself, with the same status
    pub refused-due : (file : File) (bytes : List ℕ) (due said : Said) → IsExactFile file → ((name : List ℕ) → lost name → ⊥) → IsTold files file bytes
        → IsDueOf files file bytes due → IsRefused files lost cut file said → IsDueOf files file bytes said × (said.status ≡ due.status)
    refused-due file bytes due said exact none told d (inl (inl h)) = absurd (none file.name h.0)
    refused-due file bytes due said exact none told (inl o) (inl (inr h)) = (inl (o.0, h.2), ap (λ (s : Said). s.status) (h.2 ∙ sym o.1))
    refused-due file bytes due said exact none told (inr o) (inl (inr h)) = let long = told-over file bytes told h.1 in let short = o.0 in absurd (omega arith)
    refused-due file bytes due said exact none told (inl o) (inr (other, can, refuses)) =
        let e = told-bytes file bytes other told can in let short = can.within in let fits : length bytes ≤ file.limit = subst (λ (b : List ℕ). length b ≤ file.limit) e short in let long = o.0 in absurd (omega arith)
    refused-due file bytes due said exact none told (inr o) (inr (other, can, refuses)) =
        let refused : file.refuses bytes said = subst (λ b. file.refuses b said) (told-bytes file bytes other told can) refuses in
        (inr (o.0, refused), exact.one_status bytes said due refused o.1)

    -- if no load fails, a told file that is accepted isn't refused
    pub accepted-not_refused : (file : File) (bytes : List ℕ) (said : Said) → IsExactFile file → ((name : List ℕ) → lost name → ⊥) → IsTold files file bytes
        → length bytes ≤ file.limit → file.accepts bytes → IsRefused files lost cut file said → ⊥
    accepted-not_refused file bytes said exact none told short accepts (inl (inl h)) = none file.name h.0
    accepted-not_refused file bytes said exact none told short accepts (inl (inr h)) = let long = told-over file bytes told h.1 in absurd (omega arith)
    accepted-not_refused file bytes said exact none told short accepts (inr (other, can, refuses)) =
        exact.apart bytes said accepts (subst (λ b. file.refuses b said) (told-bytes file bytes other told can) refuses)

    -- if no load fails and a refusal is due, what is reported is due, with the same status
    pub stops-due : (order : Order) (due said : Said) → IsExact order → ((name : List ℕ) → lost name → ⊥) → DueAt files order due → StopsAt files lost cut order said
        → DueAt files order said × (said.status ≡ due.status)
    stops-due (Load file next) due said exact none (bytes, told, inl d) (inl refused) =
        let r = refused-due file bytes due said exact.0 none told d refused in ((bytes, told, inl r.0), r.1)
    stops-due (Load file next) due said exact none (bytes, told, inl d) (inr (other, can, accepts, later)) = absurd (due-not_accepted file bytes other due exact.0 told d can accepts)
    stops-due (Load file next) due said exact none (bytes, told, inr (short, accepts, d)) (inl refused) = absurd (accepted-not_refused file bytes said exact.0 none told short accepts refused)
    stops-due (Load file next) due said exact none (bytes, told, inr (short, accepts, d)) (inr (other, can, accepts', later)) =
        let r = stops-due (next bytes) due said (exact.1 bytes) none d (subst (λ b. StopsAt files lost cut (next b) said) (told-bytes file bytes other told can) later) in
        ((bytes, told, inr (short, accepts, r.0)), r.1)
    stops-due (Write IsText) due said exact none d stops = absurd stops

    -- if no load fails, files that are told and accepted aren't refused
    pub stops-accepted : (order : Order) (said : Said) → IsExact order → ((name : List ℕ) → lost name → ⊥) → IsDueAccepted files order → StopsAt files lost cut order said → ⊥
    stops-accepted (Load file next) said exact none (bytes, told, short, accepts, d) (inl refused) = accepted-not_refused file bytes said exact.0 none told short accepts refused
    stops-accepted (Load file next) said exact none (bytes, told, short, accepts, d) (inr (other, can, accepts', later)) =
        stops-accepted (next bytes) said (exact.1 bytes) none d (subst (λ b. StopsAt files lost cut (next b) said) (told-bytes file bytes other told can) later)
    stops-accepted (Write IsText) said exact none d stops = stops

-- what may be reported may be reported too if more was lost or cut, as in a longer call
pub stops-more : (files : List ℕ → Told) (lost lost' cut cut' : List ℕ → Type 0) → ((name : List ℕ) → lost name → lost' name) → ((name : List ℕ) → cut name → cut' name) → (order : Order) (said : Said)
    → StopsAt files lost cut order said → StopsAt files lost' cut' order said
stops-more files lost lost' cut cut' f g (Load file next) said (inl (inl (inl h))) = inl (inl (inl (f file.name h.0, h.1)))
stops-more files lost lost' cut cut' f g (Load file next) said (inl (inl (inr h))) = inl (inl (inr (g file.name h.0, h.1, h.2)))
stops-more files lost lost' cut cut' f g (Load file next) said (inl (inr h)) = inl (inr h)
stops-more files lost lost' cut cut' f g (Load file next) said (inr (bytes, can, accepts, later)) = inr (bytes, can, accepts, stops-more files lost lost' cut cut' f g (next bytes) said later)
stops-more files lost lost' cut cut' f g (Write IsText) said stops = stops

-- Why a file was refused, by the status of what is reported.
pub data Why (files : List ℕ → Told) (lost cut : List ℕ → Type 0) (order : Order) (said : Said) : Type 0 where
  Lost : (name : List ℕ) (is : said ≡ cannot_load name) (rose : lost name) → Why files lost cut order said
  Cut : (status : said.status ≡ 8) (name : List ℕ) (rose : cut name) (stops : StopsAt files OfNone cut order said) → Why files lost cut order said
  Judged : (status : IsJudgement said.status) (stops : StopsAt files OfNone OfNone order said) → Why files lost cut order said

pub why-later : (files : List ℕ → Told) (lost cut : List ℕ → Type 0) (file : File) (next : List ℕ → Order) (bytes : List ℕ) (said : Said)
    → CanBe files file bytes → file.accepts bytes → Why files lost cut (next bytes) said → Why files lost cut (Load file next) said
why-later files lost cut file next bytes said can accepts (Lost name is rose) = Lost name is rose
why-later files lost cut file next bytes said can accepts (Cut status name rose stops) = Cut status name rose (inr (bytes, can, accepts, stops))
why-later files lost cut file next bytes said can accepts (Judged status stops) = Judged status (inr (bytes, can, accepts, stops))

pub why-stops : (files : List ℕ → Told) (lost cut : List ℕ → Type 0) (order : Order) (said : Said) → IsExact order → StopsAt files lost cut order said
    → Why files lost cut order said
why-stops files lost cut (Load file next) said exact (inl (inl (inl h))) = Lost file.name h.1 h.0
why-stops files lost cut (Load file next) said exact (inl (inl (inr h))) = Cut (ap (λ (s : Said). s.status) h.2) file.name h.0 (inl (inl (inr h)))
why-stops files lost cut (Load file next) said exact (inl (inr h)) = Judged (exact.0.judges h.0 said h.2) (inl (inr h))
why-stops files lost cut (Load file next) said exact (inr (bytes, can, accepts, later)) =
    why-later files lost cut file next bytes said can accepts (why-stops files lost cut (next bytes) said (exact.1 bytes) later)
why-stops files lost cut (Write IsText) said exact stops = absurd stops
