-- What is on an output after a put, and after one text and then another.
use Rattle.std.proofs.Common.{◌≡◌, ℕ, ◌≤◌, List, [], ◌++◌, None, Some, Result, Ok, Err, refl, sym, ap, ◌∙◌, inl, inr, append-nil, append_assoc, take, drop, take-append-drop, OnOk, IfErr, arith}
use Rattle.std.specs.Prelude.{Option}
use Rattle.std.specs.Io.KnownBytes.{append_known}
use Rattle.gg_io.specs.Count.{Rose}
use Rattle.gg_io.specs.declared.output.PutFail.{PutFail}
use Rattle.gg_io.specs.declared.output.PutFail.TheVariants as put
use Rattle.gg_io.specs.declared.output.Sink
use Rattle.gg_io.specs.PutFail.{HasPutCause, LeavesFront}
use Rattle.gg_io.specs.Ends.{IsFront, StandsFront, Reports, puts_of}
use Rattle.gg_io.specs.inside.Endings.{Prints}
use Rattle.gg_io.specs.WentOn.{SinkWentOn}
use Rattle.gg_io.specs.declared.endings.Ending.{Ending}
use Rattle.gg_io.specs.declared.endings.Ending.TheVariants.{Refused, Unwritten, NoMemory}

-- an empty text changes nothing of what is known
pub append_known-nil : (known : Option (List ℕ)) → append_known known [] ≡ known
append_known-nil None = refl
append_known-nil (Some xs) = ap (λ ys. Some ys) (append-nil xs)

-- one text and then another are both together
pub append_known-append : (known : Option (List ℕ)) (xs ys : List ℕ) → append_known (append_known known xs) ys ≡ append_known known (xs ++ ys)
append_known-append None xs ys = refl
append_known-append (Some zs) xs ys = ap (λ w. Some w) (append_assoc zs xs ys)

-- ---- one put

-- the first bytes of a text are a front part
pub take-front : (before now : Option (List ℕ)) (piece : List ℕ) (n : ℕ) → now ≡ append_known before (take n piece) → StandsFront before now piece
take-front before now piece n e = (take n piece, (drop n piece, take-append-drop n piece), e)

-- if nothing was added, a front part of the text is there: the empty one
pub none-front : (before now : Option (List ℕ)) (piece : List ℕ) → now ≡ before → StandsFront before now piece
none-front before now piece e = ([], (piece, refl), e ∙ sym (append_known-nil before))

-- a failed put leaves a front part of the text
pub failed-front : (before now : Option (List ℕ)) (piece : List ℕ) → LeavesFront before now piece put.Failed → StandsFront before now piece
failed-front before now piece h = take-front before now piece h.0 h.2

-- after a put of a line the line is there, or there was trouble and a front part of the line is there
pub put-reports : {K T : Type 0} (sink : Sink.Ghosts K) (err err' : K) (r : Result T PutFail) (line : List ℕ)
    → OnOk r (sink.written err' ≡ append_known (sink.written err) line) → IfErr r (HasPutCause (sink.faults err) (sink.faults err') (sink.refused err) (sink.refused err'))
    → IfErr r (LeavesFront (sink.written err) (sink.written err') line) → Reports (puts_of sink err err') line
put-reports sink err err' (Ok done) line whole caused front = inl whole
put-reports sink err err' (Err put.Failed) line whole caused front = inr (inl caused, failed-front _ _ line front)
put-reports sink err err' (Err put.NoMemory) line whole caused front = inr (inr caused, none-front _ _ line front)

-- ---- one text and then another

-- a count that rose since some time rose since an earlier one
pub rose-earlier : (a b c : ℕ) → a ≤ b → Rose b c → Rose a c
rose-earlier a b c le rose = omega arith

-- an output that went on, and then went on, went on
pub on-then : {K : Type 0} {sink : Sink.Ghosts K} {a b c : K} → SinkWentOn sink a b → SinkWentOn sink b c → SinkWentOn sink a c
on-then one other =
    let f = one.faults_stay_or_rise in
    let g = other.faults_stay_or_rise in
    let x = one.refused_stay_or_rise in
    let y = other.refused_stay_or_rise in
    record { faults_stay_or_rise = omega arith; refused_stay_or_rise = omega arith }

-- a front part of a piece, after a text, is a front part of the whole text
pub stands-within : (base now now' : Option (List ℕ)) (text piece whole : List ℕ) → now ≡ append_known base text → IsFront (text ++ piece) whole
    → StandsFront now now' piece → StandsFront base now' whole
stands-within base now now' text piece whole is front (part, rest, puts) = (
  text ++ part,
  (
    rest.0 ++ front.0,
    sym (append_assoc (text ++ part) rest.0 front.0)
        ∙ ap (λ (x : List ℕ). x ++ front.0) (append_assoc text part rest.0 ∙ ap (λ (x : List ℕ). text ++ x) rest.1) ∙ front.1,
  ),
  puts ∙ ap (λ (w : Option (List ℕ)). append_known w part) is ∙ append_known-append base text part,
)

-- if a piece stops, a front part of the whole text is there
pub stop-within : (T : Type 0) (base now now' : Option (List ℕ)) (failed failed' : Type 0) (text piece whole : List ℕ) (ending : Ending)
    → now ≡ append_known base text → (failed → failed') → IsFront (text ++ piece) whole
    → Prints {T = T} now now' failed piece (Err ending) → Prints {T = T} base now' failed' whole (Err ending)
stop-within T base now now' failed failed' text piece whole (Refused said) is more front prints = prints
stop-within T base now now' failed failed' text piece whole Unwritten is more front prints = (more prints.0, stands-within base now now' text piece whole is front prints.1)
stop-within T base now now' failed failed' text piece whole NoMemory is more front prints = stands-within base now now' text piece whole is front prints

-- a failed put of a part of a call is one of the whole call
pub prints-more : (T : Type 0) (before now : Option (List ℕ)) (failed failed' : Type 0) (text : List ℕ) (r : Result T Ending) → (failed → failed')
    → Prints before now failed text r → Prints before now failed' text r
prints-more T before now failed failed' text (Ok done) more prints = prints
prints-more T before now failed failed' text (Err (Refused said)) more prints = prints
prints-more T before now failed failed' text (Err Unwritten) more prints = (more prints.0, prints.1)
prints-more T before now failed failed' text (Err NoMemory) more prints = prints

-- if a text was printed after another, both together were printed
pub prints-then : (T : Type 0) (before now now' : Option (List ℕ)) (b b' b'' : ℕ) (one other : List ℕ) (r : Result T Ending) → b ≤ b' → now ≡ append_known before one
    → Prints now now' (Rose b' b'') other r → Prints before now' (Rose b b'') (one ++ other) r
prints-then T before now now' b b' b'' one other (Ok done) le e prints = prints ∙ ap (λ w. append_known w other) e ∙ append_known-append before one other
prints-then T before now now' b b' b'' one other (Err ending) le e prints =
    stop-within T before now now' (Rose b' b'') (Rose b b'') one other (one ++ other) ending e (rose-earlier b b' b'' le) ([], append-nil (one ++ other)) prints

-- if the first of two texts stopped, both together stopped there
pub prints-first : (T : Type 0) (before now : Option (List ℕ)) (failed : Type 0) (one other : List ℕ) (ending : Ending)
    → Prints {T = T} before now failed one (Err ending) → Prints {T = T} before now failed (one ++ other) (Err ending)
prints-first T before now failed one other ending prints =
    stop-within T before before now failed failed [] one (one ++ other) ending (sym (append_known-nil before)) (λ x. x) (other, refl) prints
