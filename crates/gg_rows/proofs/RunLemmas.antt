-- Windows, one after another: the network stands at the end of each, and the rows before it were taken and came to the trays.
use Rattle.std.proofs.Common.{◌≡◌, ℕ, suc, ◌+◌, ◌-◌, ◌*◌, ◌<◌, ◌≤◌, ◌⊎◌, inl, inr, List, Bool, true, false, refl, sym, ap, ◌∙◌, subst, ⊎_elim, arith}
use Rattle.std.specs.Prelude.{Result, Ok, Err}
use Rattle.std.proofs.lemmas.Bool.{cases_lt}
use Rattle.gg_flat.specs.Run.{Start}
use Rattle.gg_flat.specs.Streams.{Flow}
use Rattle.gg_build.specs.Build.{IsOpeningFrom, IsToRunFrom, run_token}
use Rattle.gg_cut_plan.specs.Ports.{first_kept_tray, plan_bridges}
use Rattle.gg_cut_plan.specs.declared.plan.Plan.{Plan}
use Rattle.gg_net.specs.Network.{AllStandAt, Frame, Network, frame_of}
use Rattle.gg_net.specs.Kept.{Kept}
use Rattle.gg_bits.specs.Limits.{tray_rows}
use Rattle.gg_io.specs.declared.endings.Ending.{Ending}
use Rattle.gg_io.specs.declared.endings.Ending.TheVariants.{NoMemory}
use Rattle.gg_rows.specs.inside.Rows.{AreTraysOf, run_row}
use Rattle.gg_rows.specs.Rows.{TraysKeep}
use Rattle.gg_build.specs.StandsAt.{StandsAt}
use Rattle.gg_rows.specs.inside.RunTaken.{TakesTheRow, TakesTheRun, TakesTheWindow}
use Rattle.gg_rows.specs.inside.Taken.{IsLastOf, IsRanOut, Ran, StopsIn, TakesAt, TakesSome, Took, TookTo, WentBy}
use Rattle.gg_rows.specs.inside.Taken.Took.{Wants}
use Rattle.gg_rows.specs.inside.Window.{window_end}
use Rattle.gg_rows.proofs.OpeningLemmas.{begins-so}
use Rattle.gg_rows.proofs.OutputLemmas.{net-stays, opening-is-net}
use Rattle.gg_rows.proofs.TakenLemmas.{count-within, ended-within, row-there, took-all, took-fails, took-last, took-next, went-more, went-none, went-on, went-on-so, went-then}
use Rattle.gg_rows.proofs.TrayKeepLemmas.{trays-keep}

-- ---- the network

-- the network of a plan before its first step stands at the cycle of the start
pub opening-stands : (plan : Plan) (start : Start) (columns : List (List ℕ)) (n : ℕ) (flow : Flow) (net : Network) (run : IsToRunFrom plan start columns n flow) → IsOpeningFrom plan start (run_token run) columns n net
    → StandsAt plan start (run_token run) columns n start.cycle net
opening-stands plan start columns n flow net run opens =
    record {
      of_plan = opening-is-net plan start (run_token run) columns n net opens;
      all = λ m lt.
          subst (AllStandAt start.cycle) (sym opens.is)
          (λ m lt. (begins-so plan start columns n flow run net opens m lt).cycle) m lt;
      within = run.given.run.begun;
    }

-- a network with the frame of one of a plan is one of the plan
stands-on : (plan : Plan) (start : Start) (token : ℕ → ℕ) (columns : List (List ℕ)) (n cycle cycle' : ℕ) (old new : Network) → StandsAt plan start token columns n cycle old → frame_of new ≡ frame_of old → AllStandAt cycle' new → cycle' ≤ old.end
    → StandsAt plan start token columns n cycle' new
stands-on plan start token columns n cycle cycle' old new stands same all le =
    record {
      of_plan = net-stays plan start token columns n old new stands.of_plan same;
      all = all;
      within = omega (arith, le, ap (λ (f : Frame). f.end) stands.of_plan.frame);
    }

-- what comes to the trays in the cycles from `begin` on and before t
abbrev pub KeptTo : (flow : Flow) (opening : Network) (plan : Plan) (start : Start) (columns : List (List ℕ)) (n begin t : ℕ) → IsToRunFrom plan start columns n flow → Type 0
KeptTo flow opening plan start columns n begin t run = (k : ℕ) → begin ≤ k → k < t → TraysKeep opening (first_kept_tray (plan_bridges run.design.circuit run.design.tree run.request)) k (run_row run k)

-- A window begins in this cycle, or it is the end of the run.
abbrev pub IsBegun : (begin end begun : ℕ) → Type 0
IsBegun begin end begun = (begun ≡ end) ⊎ ((windows : ℕ) × (begun ≡ begin + tray_rows * windows))

-- The network has been run from its first cycle, `begin`, up to one, and each time it was to go on.
pub record WindowsRan {T : Type 0} (takes : T → ℕ → List ℕ → T → Result Bool Ending → Type 0) (flow : Flow) (opening : Network) (first count begin : ℕ) (before now : T) (begun : ℕ) (net : Network) : Type 0 where
  pub frame : frame_of net ≡ frame_of opening
  pub all : AllStandAt begun net
  pub low : begin ≤ begun
  pub within : begun ≤ opening.end
  pub begins : IsBegun begin opening.end begun
  pub went : WentBy takes before now (Ok true)
  pub took : (plan : Plan) (start : Start) (columns : List (List ℕ)) (n : ℕ) (run : IsToRunFrom plan start columns n flow) → IsOpeningFrom plan start (run_token run) columns n opening → start.cycle ≡ begin
      → AreTraysOf run first count → TookTo takes (run_row run) begin before (begun - begin) now
  pub kept : (plan : Plan) (start : Start) (columns : List (List ℕ)) (n : ℕ) (run : IsToRunFrom plan start columns n flow) → IsOpeningFrom plan start (run_token run) columns n opening → start.cycle ≡ begin
      → KeptTo flow opening plan start columns n begin begun run

-- ---- the rows of a window

pub some-at : {T : Type 0} {takes : T → ℕ → List ℕ → T → Result Bool Ending → Type 0} {cycle : ℕ} {before after : T} {answer : Result Bool Ending} → TakesAt takes cycle before after answer → TakesSome takes before after answer
some-at {cycle = cycle} at = record { cycle = cycle; row = at.row; took = at.took }

-- The rows from `begun` on and before a cycle were taken.
pub record RowsTaken {T : Type 0} (takes : T → ℕ → List ℕ → T → Result Bool Ending → Type 0) (flow : Flow) (net : Network) (begun upto first count : ℕ) (middle now : T) (cycle : ℕ) : Type 0 where
  pub low : begun ≤ cycle
  pub went : WentBy takes middle now (Ok true)
  pub took : (plan : Plan) (start : Start) (columns : List (List ℕ)) (n : ℕ) (run : IsToRunFrom plan start columns n flow) (before : T) → StandsAt plan start (run_token run) columns n upto net
      → AreTraysOf run first count → start.cycle ≤ begun → begun ≤ upto → upto ≤ begun + tray_rows
      → TookTo takes (run_row run) start.cycle before (begun - start.cycle) middle → TookTo takes (run_row run) start.cycle before (cycle - start.cycle) now

pub taken-start : {T : Type 0} {takes : T → ℕ → List ℕ → T → Result Bool Ending → Type 0} {flow : Flow} {net : Network} {begun upto first count : ℕ} {middle : T} → RowsTaken takes flow net begun upto first count middle middle begun
taken-start = record { low = omega arith; went = went-none; took = λ plan start columns n run before stands counted from low near begins. begins }

module _ {T : Type 0} {takes : T → ℕ → List ℕ → T → Result Bool Ending → Type 0} {flow : Flow} {net : Network} {begun upto first count : ℕ} {middle now : T} {cycle : ℕ}
    (taken : RowsTaken takes flow net begun upto first count middle now cycle) where
  -- all rows of the window
  pub taken-all : upto ≤ cycle → cycle ≤ upto → TakesTheWindow takes flow net first count begun upto middle now (Ok true)
  taken-all ge le plan start columns n run before stands counted from low near begins =
      let begin = start.cycle in
      let all : cycle - begin ≡ upto - begin = omega (arith, ge, le) in
      (upto - begin, took-all takes (run_row run) begin before (cycle - begin) (upto - begin) now (taken.took plan start columns n run before stands counted from low near begins) all)

  module _ (lt : cycle < upto) (count' : ℕ) (same : count' ≡ count) (later : T) where
    -- the row of the cycle, by the number of rows before it
    row-so : (answer : Result Bool Ending) → TakesTheRow takes flow net first count' cycle now later answer
        → (plan : Plan) (start : Start) (columns : List (List ℕ)) (n : ℕ) (run : IsToRunFrom plan start columns n flow) → StandsAt plan start (run_token run) columns n upto net → AreTraysOf run first count → start.cycle ≤ begun → upto ≤ begun + tray_rows
        → takes now (start.cycle + (cycle - start.cycle)) (run_row run (start.cycle + (cycle - start.cycle))) later answer
    row-so answer row plan start columns n run stands counted from near =
        row-there takes (run_row run) start.cycle now cycle (cycle - start.cycle) now later answer (omega (arith, from, taken.low))
        (row plan start columns n upto run stands (omega (arith, from, taken.low)) (record { begin = counted.begin; many = same ∙ counted.many }) lt (omega (arith, near, taken.low)))

    pub taken-next : (goes_on : Bool) → goes_on ≡ true → TakesSome takes now later (Ok goes_on) → TakesTheRow takes flow net first count' cycle now later (Ok goes_on) → RowsTaken takes flow net begun upto first count middle later (cycle + 1)
    taken-next goes_on on some row =
        record {
          low = omega (arith, taken.low);
          went = went-on-so true (went-more taken.went some);
          took = λ plan start columns n run before stands counted from low near begins.
              let begin = start.cycle in
              let one : cycle - begin + 1 ≡ cycle + 1 - begin = omega (arith, from, taken.low) in
              subst (λ k. TookTo takes (run_row run) begin before k later) one
              (took-next takes (run_row run) begin before (cycle - begin) now later goes_on on (taken.took plan start columns n run before stands counted from low near begins) (row-so (Ok goes_on) row plan start columns n run stands counted from near));
        }

    pub taken-last : (goes_on : Bool) → goes_on ≡ false → TakesTheRow takes flow net first count' cycle now later (Ok goes_on) → TakesTheWindow takes flow net first count begun upto middle later (Ok false)
    taken-last goes_on off row plan start columns n run before stands counted from low near begins =
        let begin = start.cycle in
        let below : cycle - begin < upto - begin = omega (arith, lt, from, taken.low) in
        (suc (cycle - begin), took-last takes (run_row run) begin before (cycle - begin) (upto - begin) now later goes_on off below (taken.took plan start columns n run before stands counted from low near begins) (row-so (Ok goes_on) row plan start columns n run stands counted from near))

    pub taken-fails : (ending : Ending) (r : Result Bool Ending) → r ≡ Err ending → TakesTheRow takes flow net first count' cycle now later (Err ending) → TakesTheWindow takes flow net first count begun upto middle later r
    taken-fails ending r ends row plan start columns n run before stands counted from low near begins =
        let begin = start.cycle in
        let below : cycle - begin < upto - begin = omega (arith, lt, from, taken.low) in
        (cycle - begin, took-fails takes (run_row run) begin before (cycle - begin) (upto - begin) now later ending below (taken.took plan start columns n run before stands counted from low near begins) (row-so (Err ending) row plan start columns n run stands counted from near) r ends)

-- ---- one window after another

pub ran-start : {T : Type 0} {takes : T → ℕ → List ℕ → T → Result Bool Ending → Type 0} {flow : Flow} {opening : Network} {first count begin : ℕ} {before : T} → AllStandAt begin opening → begin ≤ opening.end → WindowsRan takes flow opening first count begin before before begin opening
ran-start {takes = takes} {begin = begin} {before = before} all within =
    record {
      frame = refl;
      all = all;
      low = omega arith;
      within = within;
      begins = inr (0, omega arith);
      went = went-none;
      took = λ plan start columns n run opens from counted. let none : 0 ≡ begin - begin = omega arith in subst (λ k. TookTo takes (run_row run) begin before k before) none refl;
      kept = λ plan start columns n run opens from k low lt. absurd (omega (arith, low, lt));
    }

module _ {T : Type 0} {takes : T → ℕ → List ℕ → T → Result Bool Ending → Type 0} {flow : Flow} {opening : Network} {first count begin : ℕ} {before now : T} {begun : ℕ} {net : Network}
    (ran : WindowsRan takes flow opening first count begin before now begun net) where
  -- all windows are done
  pub ran-all : opening.end ≤ begun → TakesTheRun takes flow opening begin first count before now (Ok true)
  ran-all past plan start columns n run opens from counted =
      let end : opening.end ≡ n = ap (λ (x : Network). x.end) opens.is in
      let all : begun ≡ n = omega (arith, past, ran.within, end) in
      record {
        count = n - begin;
        took = took-all takes (run_row run) begin before (begun - begin) (n - begin) now (ran.took plan start columns n run opens from counted) (ap (λ k. k - begin) all);
        kept = λ t lt. ran.kept plan start columns n run opens from (begin + t) (omega arith) (omega (arith, lt, all));
      }

  pub ran-out : opening.end ≤ begun → IsRanOut takes begin opening net now true
  ran-out past = let end : begun ≡ opening.end = omega (arith, past, ran.within) in record { frame = ran.frame; stands = λ e. subst (λ cycle. AllStandAt cycle net) end ran.all; stopped = λ e. absurd (cc) }

  -- the next can't be run for want of memory
  pub ran-wants : {r : Result Bool Ending} → r ≡ Err NoMemory → TakesTheRun takes flow opening begin first count before now r
  ran-wants e plan start columns n run opens from counted =
      record {
        count = begun - begin;
        took = Wants (omega (arith, ran.within, ap (λ (x : Network). x.end) opens.is)) (ran.took plan start columns n run opens from counted) e;
        kept = λ t lt. ran.kept plan start columns n run opens from (begin + t) (omega arith) (omega (arith, lt));
      }

  -- where the window ends that begins next, and the window of a cycle in it
  next-begun : (upto : ℕ) → begun < opening.end → upto ≡ window_end begun opening.end → IsBegun begin opening.end upto
  next-begun upto more ends =
      ⊎_elim
      (λ (last : opening.end < begun + tray_rows). inl (omega (arith, ends, last)))
      (λ (other : begun + tray_rows ≤ opening.end). by other ran.begins)
      (cases_lt opening.end (begun + tray_rows))
    where
      by : begun + tray_rows ≤ opening.end → IsBegun begin opening.end begun → IsBegun begin opening.end upto
      by other (inl end) = absurd (omega (arith, more, end))
      by other (inr (windows, is)) = inr (suc windows, omega (arith, ends, other, is))

  -- a row of the window that begins next is the last: the network stands at its end
  pub stops-in : (next : Network) (upto : ℕ) → begun < opening.end → upto ≡ window_end begun opening.end → AllStandAt upto next → (later : T) → IsLastOf takes begun upto later → StopsIn takes begin opening.end next later
  stops-in next upto more ends all later last = by ran.begins
    where
      by : IsBegun begin opening.end begun → StopsIn takes begin opening.end next later
      by (inl end) = absurd (omega (arith, more, end))
      by (inr (windows, is)) =
          record {
            cycle = last.cycle;
            before = last.before;
            last = last.last;
            upto = upto;
            window = record { windows = windows; low = omega (arith, is, last.low); high = last.high; is = omega (arith, ends, is) };
            stands = all;
          }

  module _ (next : Network) (upto : ℕ) (more : begun < opening.end) (ends : upto ≡ window_end begun opening.end) (same : frame_of next ≡ frame_of net) (all : AllStandAt upto next) (stays : Kept flow next) (count' : ℕ) (counts : count' ≡ count) where
    low : begun ≤ upto
    low = omega (arith, more, ends)

    near : upto ≤ begun + tray_rows
    near = omega (arith, ends)

    most : upto ≤ opening.end
    most = omega (arith, ends)

    next-stands : (plan : Plan) (start : Start) (columns : List (List ℕ)) (n : ℕ) (run : IsToRunFrom plan start columns n flow) → IsOpeningFrom plan start (run_token run) columns n opening → StandsAt plan start (run_token run) columns n upto next
    next-stands plan start columns n run opens = stands-on plan start (run_token run) columns n start.cycle upto opening next (opening-stands plan start columns n flow opening run opens) (same ∙ ran.frame) all most

    -- the rows of the window come to the trays
    next-kept : (plan : Plan) (start : Start) (columns : List (List ℕ)) (n : ℕ) (run : IsToRunFrom plan start columns n flow) → IsOpeningFrom plan start (run_token run) columns n opening → start.cycle ≡ begin → KeptTo flow opening plan start columns n begin upto run
    next-kept plan start columns n run opens from t there lt =
        ⊎_elim
        (λ (past : t < begun). ran.kept plan start columns n run opens from t there past)
        (λ (now : begun ≤ t). trays-keep plan start columns n flow run opening opens next stays (same ∙ ran.frame) upto t all (omega (arith, from, there)) lt (omega (arith, near, now)))
        (cases_lt t begun)

    window-so : (later : T) (r : Result Bool Ending) → TakesTheWindow takes flow next first count' begun upto now later r → (plan : Plan) (start : Start) (columns : List (List ℕ)) (n : ℕ) (run : IsToRunFrom plan start columns n flow) → IsOpeningFrom plan start (run_token run) columns n opening
        → start.cycle ≡ begin → AreTraysOf run first count → (taken : ℕ) × Took takes (run_row run) begin (upto - begin) taken before later r
    window-so later r window plan start columns n run opens from counted =
        let took = subst (λ b. TookTo takes (run_row run) b before (begun - b) now) (sym from) (ran.took plan start columns n run opens from counted) in
        subst (λ b. (taken : ℕ) × Took takes (run_row run) b (upto - b) taken before later r) from
        (window plan start columns n run before (next-stands plan start columns n run opens) (record { begin = counted.begin; many = counts ∙ counted.many }) (omega (arith, from, ran.low)) low near took)

    pub ran-next : (later : T) (goes_on : Bool) → goes_on ≡ true → WentBy takes now later (Ok goes_on) → TakesTheWindow takes flow next first count' begun upto now later (Ok goes_on) → WindowsRan takes flow opening first count begin before later upto next
    ran-next later goes_on on went window =
        record {
          frame = same ∙ ran.frame;
          all = all;
          low = omega (arith, ran.low, low);
          within = most;
          begins = next-begun upto more ends;
          went = went-on-so true (went-then ran.went went);
          took = λ plan start columns n run opens from counted.
              let so = window-so later (Ok goes_on) window plan start columns n run opens from counted in went-on takes (run_row run) begin before (upto - begin) so.0 later (Ok goes_on) (ap Ok on) so.1;
          kept = next-kept;
        }

    -- the rows end in this window: the last was taken, or one couldn't be taken
    pub ran-ends : (later : T) (r r' : Result Bool Ending) → r ≡ r' → (r ≡ Ok true → ⊥) → TakesTheWindow takes flow next first count' begun upto now later r → TakesTheRun takes flow opening begin first count before later r'
    ran-ends later r r' is ended window plan start columns n run opens from counted =
        let so = window-so later r window plan start columns n run opens from counted in
        let end : upto - begin ≤ n - begin = omega (arith, most, ap (λ (x : Network). x.end) opens.is) in
        let few = count-within takes (run_row run) begin before (upto - begin) so.0 later r so.1 in
        subst (λ x. Ran takes (run_row run) opening (first_kept_tray (plan_bridges run.design.circuit run.design.tree run.request)) begin (n - begin) before later x) is
        (record {
          count = so.0;
          took = ended-within takes (run_row run) begin before (upto - begin) (n - begin) so.0 later r end ended so.1;
          kept = λ t lt. next-kept plan start columns n run opens from (begin + t) (omega arith) (omega (arith, lt, few, low, ran.low));
        })
