-- The laws of every run, put together for one.
use Rattle.arj_law_parts.proofs.Words
use Words.{◌≡◌, ◌≤◌, ◌∙◌, ◌++◌, false, List, [], ◌∷◌, length-append, arith, sym, ap, subst, ◌⊎◌, inl, inr, ⊎_elim, AllByRecursion, Header}
use Words.{Line, World, format, Move, all_moved, journal_by, moved, world_by, world_from, most_events, IsInForm, AreGivenUp, NobodyWaits}
use Words.{HasAnswer, ℕ}
use Words.{IsPlainIn, AreUp, WaitsOvertaken, EndsQuiet, EndsAtRest}
use Rattle.arj_law_promise.proofs.Terms.{Holds, moves_asked, over_before, KnowsPrepared}
use Rattle.arj_class.specs.Forms.{FormatHolds}
use Rattle.arj_journal.specs.ScriptForm.{AreHeld, EventInForm, HeaderInForm}
use Rattle.arj_journal.specs.declared.header.ObjectLine.{ObjectLine}
use Rattle.arj_law_parts.proofs.moves.Moving.{more_moves, scripts_are_moves}
use Rattle.arj_law_promise.proofs.settling
use settling.{Aborting.runs_show, Idle.line_tells, Idle.quiesces_idle, Idle.rounds_idle, Last.idle_disks_hold, Settled.handlers_settle}
use settling.{Waiting.quiesces_answer_the_rest, Waiting.runs_leave_overtaken}
use Rattle.arj_law_promise.specs.settling.Last.{HoldTheLast}
use Rattle.arj_law_runs.proofs.{bindings.Events.as_many, calls.Reaching.moves_keep, resting.PlainRuns.quiesces_give_nothing_up}
use Rattle.arj_law_serial.proofs.holding.AlongMoves.{runs_hold_each}
use Rattle.arj_law_serial.proofs.joint
use joint.{BookRuns.lists_nodes, BookRuns.runs_keep_the_book, Clean.joined_runs_are_serial, Clean.runs_are_clean}
use joint.{DisksInTime.runs_exclude_on_disks, FitRuns.scripts_in_form, FitStops.script_stops}
use Rattle.arj_promise.specs.Promise.{CalmQuiescesEndAtRest, EndsInQuiesce, EndsInRound, KeptAfterEveryEvent, QuiescesAnswerWhoWaits}
use Rattle.arj_promise.specs.Promise.{QuiescesGiveUpNothing, QuiescesLeaveOvertaken, QuietDisksHoldAll, QuietLinesTell, RoundsEndAtRest}
use Rattle.arj_promise.specs.Promise.{RunsKeepThePromise, ScriptsAreRuns}
use Rattle.arj_promise.specs.Runs.{FirstsAreHeld, IsStoppedInForm, Run, header_fits, then}
use Rattle.arj_start.specs.Start.{Marks, none_written}
use Rattle.arj_promise.specs.Waiting.{OnlyOvertakenWait}

-- ---- the promise

pub runs_keep : RunsKeepThePromise
runs_keep hd r f = record {
  serial = joined_runs_are_serial hd r f;
  book = runs_keep_the_book hd r f;
  held = runs_hold_each hd r f;
  clean = λ disks are. runs_are_clean hd r disks f are;
  in_time = λ disks are. runs_exclude_on_disks hd r disks f are;
  outcome = runs_show hd r;
}

-- what holds of each of a list does of its front
all_front : {A : Type 0} (P : A → Type 0) (xs ys : List A) → AllByRecursion P (xs ++ ys) → AllByRecursion P xs
all_front P [] ys all = tt
all_front P (x ∷ xs) ys all = (all.0, all_front P xs ys all.1)

-- the front of a run in form is one
front_in_form : (hd : Header) (front : Run hd) (rest : List Move) → IsInForm hd (then front rest) → IsInForm hd front
front_in_form hd front rest f = record {
  header = f.header;
  held = f.held;
  events = all_front (λ (m : Move). let e = m.asked in EventInForm e.event) front.moves rest f.events;
  few = omega (arith, f.few, length-append front.moves rest);
  stops = all_front IsStoppedInForm front.moves rest f.stops;
}

pub fronts_keep : KeptAfterEveryEvent
fronts_keep hd front rest f = let g = front_in_form hd front rest f in (g, runs_keep hd front g)

-- states of a header's format hold its values
pub firsts_held : (hd : Header) (marks : Marks) → HeaderInForm hd → FirstsAreHeld hd marks
firsts_held hd marks form = each hd.objects form.held
  where
    each : (os : List ObjectLine) → AreHeld hd.format os →
        AllByRecursion (λ (o : ObjectLine). (let m = marks.states o.x in m.version) ≡ 0 → FormatHolds hd.format o.value) os
    each [] all = tt
    each (o ∷ os) all = ((λ first. all.0), each os all.1)

pub scripts_run : ScriptsAreRuns
scripts_run hd es form fit short = (
  record {
    header = header_fits hd form;
    held = firsts_held hd none_written form;
    events = scripts_in_form es (format hd) fit;
    few = subst (λ n. n ≤ most_events) (sym (as_many es (format hd))) short;
    stops = script_stops es (format hd) fit tt;
  },
  scripts_are_moves hd es,
)

-- ---- quiesces

-- where every node is idle, clean files hold the last states
pub quiet_hold : QuietDisksHoldAll
quiet_hold hd r disks f idle are = record {
  entries = held.entries;
  stores = λ x s listed. held.stores x s listed (lists_nodes hd f.header (world_by hd r) (moves_keep hd r) x s listed).0;
  nothing = held.nothing;
}
  where
    h : Holds hd (KnowsPrepared hd) (world_by hd r)
    h = moves_asked hd (KnowsPrepared hd) (handlers_settle hd f.header).0 r

    held : HoldTheLast hd r.start.marks (journal_by hd r) disks
    held = idle_disks_hold hd r.start.marks (journal_by hd r) h.sent (world_by hd r) disks f.header h.stands idle are
        (runs_are_clean hd r disks f are)

-- where the run has so ended
at_rest : (hd : Header) (r : Run hd) → IsInForm hd r → EndsQuiet (world_by hd r) → EndsAtRest hd r
at_rest hd r f quiet = record { quiet = quiet; last = λ disks are. quiet_hold hd r disks f quiet.idle are }

module _ (hd : Header) (r before : Run hd) (q : EndsInQuiesce hd r before) where
  -- the world at the end of the quiesce
  end_is : world_by hd r ≡ moved q.last (world_by hd before)
  end_is = ap (world_by hd) q.are ∙ more_moves before.moves (q.last ∷ []) (world_from hd before.start)

  open_at_end : (moved q.last (world_by hd before)).over ≡ false
  open_at_end = ap (λ (w : World). w.over) (sym end_is) ∙ q.unlimited

  open_before : (world_by hd before).over ≡ false
  open_before = over_before q.last (world_by hd before) open_at_end

  up_at_end : AreUp (moved q.last (world_by hd before))
  up_at_end = subst AreUp end_is q.up

pub overtaken : QuiescesLeaveOvertaken
overtaken hd r before f q = subst OnlyOvertakenWait (sym (end_is hd r before q))
    (runs_leave_overtaken hd f.header before q.last q.quiesces (open_at_end hd r before q) (up_at_end hd r before q))

pub who_waits_is_answered : QuiescesAnswerWhoWaits
who_waits_is_answered hd r before f q k c u d node coord does waits =
    subst (λ (v : World). WaitsOvertaken v k u d ⊎ HasAnswer d (journal_by hd before) v.lines) (sym (end_is hd r before q))
    (quiesces_answer_the_rest hd f.header before q.last k c u d q.quiesces (open_at_end hd r before q) (up_at_end hd r before q) node
    coord does waits)

pub nothing_given_up : QuiescesGiveUpNothing
nothing_given_up hd r before q = subst (λ (v : World). (more : List Line) × (v.lines ≡ journal_by hd before ++ more)
    × AllByRecursion (IsPlainIn v) more) (sym (end_is hd r before q))
    (let m = q.last in
    quiesces_give_nothing_up m.asked (record (world_by hd before) { arms = m.falls }) q.quiesces (open_before hd r before q))

pub calm_end : CalmQuiescesEndAtRest
calm_end hd r before f q calm = at_rest hd r f (subst EndsQuiet (sym (end_is hd r before q))
    (quiesces_idle hd f.header before q.last calm.1 calm.0 q.quiesces (open_at_end hd r before q) (up_at_end hd r before q)))

pub quiet_end : QuietLinesTell
quiet_end hd r before f q =
    let end : world_by hd r ≡ moved q.last (world_by hd before) = ap (world_by hd) q.are
    ∙ more_moves before.moves (q.last ∷ []) (world_from hd before.start) in
    let open_end : (moved q.last (world_by hd before)).over ≡ false = ap (λ (w : World). w.over) (sym end) ∙ q.unlimited in
    at_rest hd r f (subst EndsQuiet (sym end) (line_tells q.last (world_by hd before) q.quiesces
    (over_before q.last (world_by hd before) open_end) open_end q.front q.number (ap (λ (w : World). w.lines) (sym end) ∙ q.line)))

-- ---- the stated round

module _ (hd : Header) (r : Run hd) (f : IsInForm hd r) (round : EndsInRound hd r) where
  -- the worlds behind the first quiesce, and behind the giveups
  abbrev v : World
  v = moved round.first.last (world_by hd round.before)

  abbrev w : World
  w = all_moved round.giveups v

  v_is : world_by hd round.between ≡ v
  v_is = end_is hd round.between round.before round.first

  w_is : world_by hd (then round.between round.giveups) ≡ w
  w_is =
      more_moves (let q = round.between in q.moves) round.giveups (world_from hd (let q = round.between in q.start)) ∙ ap
      (all_moved round.giveups) v_is

  last_is : world_by hd r ≡ moved round.second.last w
  last_is = end_is hd r (then round.between round.giveups) round.second ∙ ap (moved round.second.last) w_is

  quiet_at_end : EndsQuiet (world_by hd r)
  quiet_at_end = subst EndsQuiet (sym last_is)
      (rounds_idle hd f.header round.before round.giveups round.first.last round.second.last round.first.quiesces round.give_up
      round.second.quiesces
      (up_at_end hd round.between round.before round.first) who open_last (subst AreUp last_is round.second.up))
    where
      open_last : (moved round.second.last w).over ≡ false
      open_last = ap (λ (x : World). x.over) (sym last_is) ∙ round.second.unlimited

      who : AreGivenUp round.giveups v ⊎ NobodyWaits w
      who = ⊎_elim (λ given. inl (subst (AreGivenUp round.giveups) v_is given)) (λ nobody. inr
          (subst NobodyWaits w_is nobody)) round.who_waits

pub rounds_end : RoundsEndAtRest
rounds_end hd r f round = at_rest hd r f (quiet_at_end hd r f round)
