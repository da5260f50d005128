-- One line after another.
use Rattle.std.proofs.Common.{◌≡◌, ℕ, List, ◌++◌, ap, ◌∙◌}
use Rattle.std.specs.Prelude.{Result, Err}
use Rattle.std.specs.Io.KnownBytes.{append_known}
use Rattle.gg_io.specs.declared.output.Sink
use Rattle.gg_io.specs.inside.Endings.{PrintsOn}
use Rattle.gg_io.specs.WentOn.{SinkWentOn}
use Rattle.gg_io.specs.declared.endings.Ending.{Ending}
use Rattle.gg_io.proofs.WritingLemmas.{append_known-append, on-then, prints-first, prints-then}

-- the text is on the output, after what was there before
pub record Stands {K : Type 0} (sink : Sink.Ghosts K) (out out' : K) (text : List ℕ) : Type 0 where
  pub written : sink.written out' ≡ append_known (sink.written out) text
  pub on : SinkWentOn sink out out'

module _ {K : Type 0} (sink : Sink.Ghosts K) (a b : K) (one other : List ℕ) where
  -- one more text
  pub stands-more : (c : K) → Stands sink a b one → sink.written c ≡ append_known (sink.written b) other → SinkWentOn sink b c → Stands sink a c (one ++ other)
  stands-more c stands e on = record {
    written = e ∙ ap (λ w. append_known w other) stands.written ∙ append_known-append (sink.written a) one other;
    on = on-then stands.on on;
  }

  -- one more text is printed, or stops
  pub prints-next : (T : Type 0) (c : K) (r : Result T Ending) → Stands sink a b one → PrintsOn {T = T} sink b c other r → PrintsOn {T = T} sink a c (one ++ other) r
  prints-next T c r stands prints =
      prints-then T (sink.written a) (sink.written b) (sink.written c) (sink.faults a) (sink.faults b) (sink.faults c) one other r stands.on.faults_stay_or_rise stands.written prints

  -- a text that stops, stops with another behind it
  pub stops-so : (T : Type 0) (r : Result T Ending) (ending : Ending) → r ≡ Err ending → PrintsOn {T = T} sink a b one (Err ending) → PrintsOn {T = T} sink a b (one ++ other) r
  stops-so T r ending e prints = rw e (prints-first T (sink.written a) (sink.written b) _ one other ending prints)
