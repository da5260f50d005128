-- How a command ends, file by file.
use Rattle.std.proofs.Common.{◌≡◌, ℕ, List, [], refl, sym, ap, ◌∙◌, subst, inl, inr}
use Rattle.std.specs.Prelude.{Result, Ok, Err, IsErrAnd}
use Rattle.gg_io.specs.declared.files.Shelf
use Rattle.gg_io.specs.Said.{Said}
use Rattle.gg_io.specs.Order.{File, IsOnly, Order, Load, Write, CanBe, IsWritten}
use Rattle.gg_io.specs.Ends.{Ends, Loads, Puts, loads_of}
use Rattle.gg_io.specs.inside.Endings.{IfRefused, Prints, PrintsOrStops, PrintsText, Stops, Wants, StopsBy, EndedOn}
use Rattle.gg_io.specs.WentOn.{ShelfWentOn}
use Rattle.gg_io.specs.declared.endings.Ending.{Ending}
use Rattle.gg_io.specs.declared.endings.Ending.TheVariants.{Refused, Unwritten, NoMemory}
use Rattle.gg_io.proofs.OrderLemmas.{stops-more}
use Rattle.gg_io.proofs.WritingLemmas.{append_known-nil, rose-earlier}

-- a `?` returns the ending that it caught
pub exit-is : {T : Type 0} {r : Result T Ending} {ending : Ending} → IsErrAnd r (λ y. y ≡ ending) → r ≡ Err ending
exit-is {r = Ok done} is = absurd is
exit-is {r = Err y} is = ap Err is

-- what holds of a reported refusal may be replaced by what follows from it
pub IfRefused-map : {P Q : Said → Type 0} → ((said : Said) → P said → Q said) → (ending : Ending) → IfRefused P ending → IfRefused Q ending
IfRefused-map f (Refused said) h = f said h
IfRefused-map f Unwritten h = h
IfRefused-map f NoMemory h = h

-- the same of what was printed or refused
pub judged-map : {T : Type 0} {out : Puts} {A B : List ℕ → Type 0} {P Q : Said → Type 0} {r : Result T Ending} → ((text : List ℕ) → A text → B text) → ((said : Said) → P said → Q said)
    → PrintsOrStops out A P r → PrintsOrStops out B Q r
judged-map f g (PrintsText text is prints) = PrintsText text (f text is) prints
judged-map f g (Stops ending ends says none) = Stops ending ends (IfRefused-map g ending says) none
judged-map f g (Wants ends none) = Wants ends none

-- ---- a file after another

-- These loads go on with those: the files are the same, and what failed there failed here.
pub record GoOn (whole rest : Loads) : Type 0 where
  pub files : rest.files ≡ whole.files
  pub lost : (name : List ℕ) → rest.lost name → whole.lost name
  pub cut : (name : List ℕ) → rest.cut name → whole.cut name

-- the loads of a shelf since an earlier moment
pub loads-on : {S : Type 0} {shelf : Shelf.Ghosts S} {s s' : S} (s'' : S) → ShelfWentOn shelf s s' → GoOn (loads_of shelf s s'') (loads_of shelf s' s'')
loads-on s'' on = record { files = on.files_stay; lost = λ name. rose-earlier _ _ _ (on.faults_stay_or_rise name); cut = λ name. rose-earlier _ _ _ (on.cuts_stay_or_rise name) }

-- the same loads
pub loads-same : {loads : Loads} → GoOn loads loads
loads-same = record { files = refl; lost = λ name x. x; cut = λ name x. x }

module _ {whole rest : Loads} (on : GoOn whole rest) where
  -- what a file can hold later, it could hold before
  pub can-before : {file : File} {bytes : List ℕ} → CanBe rest.files file bytes → CanBe whole.files file bytes
  can-before can = rw (← on.files) can

  -- a file was accepted, and then one that follows it was refused
  pub later-stops : {file : File} {said : Said} (next : List ℕ → Order) (bytes : List ℕ) → CanBe whole.files file bytes → file.accepts bytes
      → StopsBy rest (next bytes) said → StopsBy whole (Load file next) said
  later-stops {said = said} next bytes can accepts stops =
      inr (bytes, can, accepts, stops-more whole.files rest.lost whole.lost rest.cut whole.cut on.lost on.cut (next bytes) said (rw (← on.files) stops))

  written-so : (order : Order) (text : List ℕ) → IsWritten rest.files order text → IsWritten whole.files order text
  written-so order text written = subst (λ f. IsWritten f order text) on.files written

  accepted-so : {unwritten : Type 0} {file : File} {next : List ℕ → Order} {status : ℕ} {text line : List ℕ} (bytes : List ℕ) → CanBe whole.files file bytes → file.accepts bytes
      → Ends rest unwritten (next bytes) status text line → Ends whole unwritten (Load file next) status text line
  accepted-so {next = next} bytes can accepts (Ends.Refused said stops says none) = Ends.Refused said (later-stops next bytes can accepts stops) says none
  accepted-so {next = next} {text = text} bytes can accepts (Ends.Done written says) = Ends.Done (bytes, can, accepts, written-so (next bytes) text written) says
  accepted-so {next = next} bytes can accepts (Ends.Unwritten failed text written front says) = Ends.Unwritten failed text (bytes, can, accepts, written-so (next bytes) text written) front says
  accepted-so bytes can accepts (Ends.WantsMemory (inl none) says) = Ends.WantsMemory (inl none) says
  accepted-so {next = next} bytes can accepts (Ends.WantsMemory (inr front) says) = Ends.WantsMemory (inr (front.0, (bytes, can, accepts, written-so (next bytes) front.0 front.1), front.2)) says

  -- a file was accepted, and what follows it has ended
  pub accepted-ends : {T : Type 0} {out : Puts} {file : File} {next : List ℕ → Order} {r : Result T Ending} (bytes : List ℕ)
      → CanBe whole.files file bytes → file.accepts bytes → EndedOn rest out (next bytes) r → EndedOn whole out (Load file next) r
  accepted-ends bytes can accepts ended = record { text = ended.text; written = ended.written; ends = accepted-so bytes can accepts ended.ends }

-- ---- ends

module _ {T : Type 0} {loads : Loads} {out : Puts} where
  -- memory ran out, and nothing was written
  pub wants-ends : {order : Order} {r : Result T Ending} → out.after ≡ out.before → r ≡ Err NoMemory → EndedOn loads out order r
  wants-ends same is = rw is (record { text = []; written = same ∙ sym (append_known-nil _); ends = Ends.WantsMemory (inl refl) (refl, refl) })

  stopped-so : {order : Order} (ending : Ending) → out.after ≡ out.before → IfRefused (StopsBy loads order) ending → EndedOn {T = T} loads out order (Err ending)
  stopped-so (Refused said) same stops = record { text = []; written = same ∙ sym (append_known-nil _); ends = Ends.Refused said stops (refl, refl) refl }
  stopped-so Unwritten same stops = absurd stops
  stopped-so NoMemory same stops = wants-ends same refl

  -- a file was refused, and nothing was written
  pub stopped-ends : {order : Order} {r : Result T Ending} {ending : Ending} → out.after ≡ out.before → r ≡ Err ending → IfRefused (StopsBy loads order) ending
      → EndedOn loads out order r
  stopped-ends {ending = ending} same is stops = rw is (stopped-so ending same stops)

  -- the whole text was written, or writing stopped
  pub printed-ends : {order : Order} (whole : List ℕ) (r : Result T Ending) → IsWritten loads.files order whole → Prints out.before out.after out.failed whole r
      → EndedOn loads out order r
  printed-ends whole (Ok done) written prints = record { text = whole; written = prints; ends = Ends.Done written (refl, refl) }
  printed-ends whole (Err (Refused said)) written prints = absurd prints
  printed-ends whole (Err Unwritten) written (failed, front) = record { text = front.0; written = front.2; ends = Ends.Unwritten failed whole written front.1 (refl, refl) }
  printed-ends whole (Err NoMemory) written front = record { text = front.0; written = front.2; ends = Ends.WantsMemory (inr (whole, written, front.1)) (refl, refl) }

  -- the same of an order that is only a text
  pub only-ends : {IsText : List ℕ → Type 0} (r : Result T Ending) → (whole : List ℕ) × IsOnly IsText whole × Prints out.before out.after out.failed whole r
      → EndedOn loads out (Write IsText) r
  only-ends r (whole, only, prints) = printed-ends whole r only prints

  -- a last file was judged: it was accepted, and the text was printed, or it was refused
  pub judged-ends : {file : File} {IsText : List ℕ → List ℕ → Type 0} {bytes : List ℕ} {r : Result T Ending} → CanBe loads.files file bytes
      → PrintsOrStops out (λ text. file.accepts bytes × IsOnly (IsText bytes) text) (file.refuses bytes) r → EndedOn loads out (Load file (λ b. Write (IsText b))) r
  judged-ends {bytes = bytes} {r = r} can (PrintsText text is prints) = printed-ends text r (bytes, can, is.0, is.1) prints
  judged-ends {bytes = bytes} can (Stops ending ends says none) = stopped-ends none ends (IfRefused-map (λ said h. inl (inr (bytes, can, h))) ending says)
  judged-ends can (Wants ends none) = wants-ends none ends
