-- That a journal tells who waits, who is up, which frames are open and whether a limit was met, as the nodes of its run have it.
use Rattle.std.specs.Prelude.{◌≡◌, ℕ, List, [], Bool, true, not, None, ◌∷◌, ◌++◌}
use Rattle.std.specs.List.{list_any}
use Rattle.arj_journal.specs.declared.body.Line.{Line}
use Rattle.arj_journal.specs.declared.header.Header.{Header}
use Rattle.arj_start.specs.Start.{Start}
use Rattle.arj_law_parts.specs.moves.With.{past_of}
use Rattle.arj_model.specs.Past.{Past, at_start}
use Rattle.arj_model.specs.Refusals.{is_down, is_node, open_frames}
use Rattle.arj_promise.specs.Runs.{IsInForm, Run, journal_by, world_by}
use Rattle.arj_protocol.specs.World.{World, is_up_at, lowest_from}
use Rattle.arj_law_cause.specs.kinds.Kinds.{is_limit}
use Rattle.arj_law_cause.specs.rounds.Quiesces.{QuiescesStep}
use Rattle.arj_law_cause.specs.rounds.Rounds.{Did, EndsRounds, IsRound, WasWritten, behind}
use Rattle.arj_model.specs.Disks.{Disks}
use Rattle.arj_promise.specs.Promise.{HasDisks}
use Rattle.arj_promise.specs.Resting.{HoldAllStates}
use Rattle.arj_law_cause.specs.waits.waiting.Waits.{WaitsAgree}
use Rattle.arj_law_runs.specs.follow.Frames.{run_events}
use Rattle.arj_model.specs.Follows.{Runs}

-- a limit was met, of labels or of frames
abbrev pub has_limit : List Line → Bool
has_limit lines = list_any (λ line. is_limit line.body) lines

-- What actions wait for, which nodes are up, and whether a frame is open, are at the nodes as the journal has them; and the run is over
-- exactly where the journal has a limit.
pub record IsKnown (hd : Header) (st : Start) (past : Past) (journal : List Line) (w : World) : Type 0 where
  pub waits : WaitsAgree past w
  pub ups : (n : ℕ) → is_node hd n ≡ true → is_up_at n w ≡ not (is_down st journal n)
  pub frames : (open_frames journal ≡ [] → lowest_from 1 w.frames ≡ None) × (lowest_from 1 w.frames ≡ None → open_frames journal ≡ [])
  pub limits : w.over ≡ has_limit journal

-- so it is behind each event of each run
abbrev pub RunsAreKnown : Type 0
RunsAreKnown = (hd : Header) (r : Run hd) → IsInForm hd r →
    IsKnown hd r.start (let g = past_of hd r in g.run) (journal_by hd r) (world_by hd r)

-- of every run in form, wherever it begins: each quiesce that nothing cuts short answers who waits
abbrev pub RunsAnswer : Type 0
RunsAnswer = (hd : Header) (r : Run hd) → IsInForm hd r → Runs (QuiescesStep hd) r.start (run_events hd r) (journal_by hd r)

-- and each round ends with a line that all is quiet
abbrev pub RunsEndRounds : Type 0
RunsEndRounds = (hd : Header) (r : Run hd) → IsInForm hd r → EndsRounds hd r.start (run_events hd r) (journal_by hd r)

-- Where events of the run are a round, and nothing was run behind it, disks hold every entry and, at each listed store, every last state, with
-- no exception, nothing is prepared on them, and no record is left.
pub record LeavesAll (hd : Header) (r : Run hd) : Type 0 where
  pub did : List Did
  pub written : WasWritten r.start (run_events hd r) (journal_by hd r) did
  pub last : (before : List Did) (first : Did) (giveups : List Did) (second : Did) → did ≡ before ++ (first ∷ (giveups ++ (second ∷ []))) →
      IsRound hd (behind (at_start r.start) before) first giveups second → (let w = written in w.ending) ≡ [] →
      (disks : Disks) → HasDisks hd r disks → HoldAllStates hd r.start.marks (journal_by hd r) disks

-- so it is of every run in form
abbrev pub RoundsLeaveAll : Type 0
RoundsLeaveAll = (hd : Header) (r : Run hd) → IsInForm hd r → LeavesAll hd r
