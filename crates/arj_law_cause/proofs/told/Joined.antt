-- Event by event, and of every run: what laws say of an event one by one holds of it together.
use Rattle.arj_law_parts.proofs.Words
use Words.{◌≡◌, ◌∙◌, ◌+◌, ◌++◌, ◌∷◌, ℕ, false, List, [], sym, ap, subst, AllByRecursion, append-nil, append_assoc, Body, Event, Header, Line, World, Move}
use Words.{journal_by, world_from}
use Rattle.arj_law_parts.specs.moves.Moments.{no_history}
use Rattle.arj_law_runs.proofs.follow.Along.{Ended, Outcome, Went, runs_along}
use Rattle.arj_law_runs.proofs.follow.Shorts as shorts
use Rattle.arj_law_runs.specs.follow.Frames.{run_events}
use Rattle.arj_model.specs.Follows.{Runs, Step, is_limited}
use Rattle.arj_model.specs.Past.{Along, Past, at_start, block, next}
use Rattle.arj_promise.specs.Runs.{HeaderFits, IsInForm, IsStoppedInForm, Run}
use Rattle.arj_promise.specs.Starts.{IsFormed}
use Rattle.arj_start.specs.Start.{Start}
use Rattle.arj_law_cause.proofs.follow.lines.Events as lines
use Rattle.arj_law_cause.proofs.operations.Running.{runs_answer}
use Rattle.arj_law_cause.proofs.told.Assembled.{assembled, back_all, front_all}
use Rattle.arj_law_cause.proofs.waits.commits.Fitting as commit_lines
use Rattle.arj_law_cause.proofs.waits.commits.Running as commits
use Rattle.arj_law_cause.proofs.waits.doomed.Running as dooms
use Rattle.arj_law_cause.proofs.waits.lost.Fitting as lost_lines
use Rattle.arj_law_cause.proofs.waits.lost.Running as losses
use Rattle.arj_law_cause.proofs.waits.lowest.Running as refusals
use Rattle.arj_law_cause.proofs.waits.lowest.Together.{both_go}
use Rattle.arj_law_cause.proofs.waits.replies.Running as replies
use Rattle.arj_law_cause.proofs.waits.waiting.Along as giving
use Rattle.arj_law_cause.specs.follow.lines.Lines.{LinesStep}
use Rattle.arj_law_cause.specs.operations.Runs.{AnswersIt}
use Rattle.arj_law_cause.specs.told.Runs.{RunsFollow}
use Rattle.arj_law_cause.specs.waits.commits.Commits.{CommitsStep}
use Rattle.arj_law_cause.specs.waits.doomed.Dooms.{DoomsStep}
use Rattle.arj_law_cause.specs.waits.lost.Lost.{LostStep}
use Rattle.arj_law_cause.specs.waits.lowest.Refusals.{RefusalsStep}
use Rattle.arj_law_cause.specs.waits.replies.Ends.{RepliesStep}

module _ (hd : Header) (form : HeaderFits hd) where
  -- ---- two laws, and two more

  abbrev Writes : Past → World → Type 0
  Writes p w = lines.Turned hd form p w × refusals.Inv hd form p w

  abbrev Commits : Past → World → Type 0
  Commits = giving.Inv hd form commit_lines.All (commit_lines.all_keep hd) (CommitsStep hd) (commits.refused_so hd) (commits.gives hd)

  abbrev Losses : Past → World → Type 0
  Losses = giving.Inv hd form (lost_lines.All hd) (lost_lines.all_keep hd form) (LostStep hd) (losses.refused_so hd) (losses.gives hd)

  abbrev Ends : Past → World → Type 0
  Ends p w = Commits p w × Losses p w

  abbrev Waits : Past → World → Type 0
  Waits p w = replies.Inv hd form p w × Ends p w

  abbrev Together : Past → World → Type 0
  Together p w = Writes p w × Waits p w

  abbrev pub Inv : Past → World → Type 0
  Inv p w = Together p w × dooms.Inv hd form p w

  abbrev WritesStep : Past → Event → List Body → Type 0
  WritesStep p e bodies = LinesStep hd p e bodies × RefusalsStep hd p e bodies

  abbrev EndsStep : Past → Event → List Body → Type 0
  EndsStep p e bodies = CommitsStep hd p e bodies × LostStep hd p e bodies

  abbrev WaitsStep : Past → Event → List Body → Type 0
  WaitsStep p e bodies = RepliesStep hd p e bodies × EndsStep p e bodies

  abbrev TogetherStep : Past → Event → List Body → Type 0
  TogetherStep p e bodies = WritesStep p e bodies × WaitsStep p e bodies

  abbrev AllStep : Past → Event → List Body → Type 0
  AllStep p e bodies = TogetherStep p e bodies × DoomsStep hd p e bodies

  -- a run that goes on, and what was written
  abbrev pub Said : Past → Event → List Body → Type 0
  Said p e bodies = (is_limited p.lines ≡ false) × AllStep p e bodies

  pub written_lines : (p : Past) (w : World) → lines.Turned hd form p w → p.lines ≡ w.lines
  written_lines p w x = (let s : shorts.Stands hd form p w = x.base in s.base.base.lines)

  refused_lines : (p : Past) (w : World) → refusals.Inv hd form p w → p.lines ≡ w.lines
  refused_lines p w s = let z = s.0.0 in z.base.lines

  replied_lines : (p : Past) (w : World) → replies.Inv hd form p w → p.lines ≡ w.lines
  replied_lines p w s = let z = s.1 in let b = z.base in b.base.base.lines

  committed_lines : (p : Past) (w : World) → Commits p w → p.lines ≡ w.lines
  committed_lines p w s = let z = s.1 in let b = z.base in b.base.base.lines

  lost_lines_are : (p : Past) (w : World) → Losses p w → p.lines ≡ w.lines
  lost_lines_are p w s = let z = s.1 in let b = z.base in b.base.base.lines

  writes_go : (m : Move) (p : Past) (w : World) → IsStoppedInForm m → Writes p w → w.over ≡ false → Outcome WritesStep Writes m p w
  writes_go m p w stops s on = both_go (LinesStep hd) (RefusalsStep hd) (lines.Turned hd form) (refusals.Inv hd form)
      written_lines refused_lines m p w (lines.goes hd form m p w stops s.0 on) (refusals.goes hd form m p w stops s.1 on)

  ends_go : (m : Move) (p : Past) (w : World) → IsStoppedInForm m → Ends p w → w.over ≡ false → Outcome EndsStep Ends m p w
  ends_go m p w stops s on = both_go (CommitsStep hd) (LostStep hd) Commits Losses committed_lines lost_lines_are m p w
      (giving.goes hd form commit_lines.All (commit_lines.all_keep hd) (CommitsStep hd) (commits.refused_so hd) (commits.gives hd) m p w stops s.0 on)
      (giving.goes hd form (lost_lines.All hd) (lost_lines.all_keep hd form) (LostStep hd) (losses.refused_so hd) (losses.gives hd) m p w stops s.1 on)

  waits_go : (m : Move) (p : Past) (w : World) → IsStoppedInForm m → Waits p w → w.over ≡ false → Outcome WaitsStep Waits m p w
  waits_go m p w stops s on = both_go (RepliesStep hd) EndsStep (replies.Inv hd form) Ends
      replied_lines (λ q v z. committed_lines q v z.0) m p w (replies.goes hd form m p w stops s.0 on) (ends_go m p w stops s.1 on)

  doomed_lines : (p : Past) (w : World) → dooms.Inv hd form p w → p.lines ≡ w.lines
  doomed_lines p w s = let z = s.1 in z.base.base.base.lines

  together_go : (m : Move) (p : Past) (w : World) → IsStoppedInForm m → Together p w → w.over ≡ false → Outcome TogetherStep Together m p w
  together_go m p w stops s on = both_go WritesStep WaitsStep Writes Waits (λ q v z. written_lines q v z.0) (λ q v z. replied_lines q v z.0)
      m p w (writes_go m p w stops s.0 on) (waits_go m p w stops s.1 on)

  all_go : (m : Move) (p : Past) (w : World) → IsStoppedInForm m → Inv p w → w.over ≡ false → Outcome AllStep Inv m p w
  all_go m p w stops s on = both_go TogetherStep (DoomsStep hd) Together (dooms.Inv hd form) (λ q v z. written_lines q v z.0.0) doomed_lines
      m p w (together_go m p w stops s.0 on) (dooms.goes hd form m p w stops s.1 on)

  pub goes : (m : Move) (p : Past) (w : World) → IsStoppedInForm m → Inv p w → w.over ≡ false → Outcome Said Inv m p w
  goes m p w stops s on = by (all_go m p w stops s on)
    where
      going : is_limited p.lines ≡ false
      going = let x = s.0.0.0 in let b : shorts.Stands hd form p w = x.base in ap is_limited b.base.base.lines ∙ b.limit on

      by : Outcome AllStep Inv m p w → Outcome Said Inv m p w
      by (Ended over event lines) = Ended over event lines
      by (Went bodies step after) = Went bodies (going, step) after

  pub first_stands : (st : Start) → IsFormed hd st → Inv (at_start st) (world_from hd st)
  first_stands st formed = (
    (
      (lines.first_turned hd form st formed, refusals.first_stands hd form st formed),
      (
        (no_history st, replies.first_stands hd form st formed),
        (
          (
            no_history st,
            giving.first_stands hd form commit_lines.All (commit_lines.all_keep hd) (CommitsStep hd) (commits.refused_so hd)
                (commits.gives hd) st formed,
          ),
          (
            no_history st,
            giving.first_stands hd form (lost_lines.All hd) (lost_lines.all_keep hd form) (LostStep hd) (losses.refused_so hd)
                (losses.gives hd) st formed,
          ),
        ),
      ),
    ),
    (no_history st, dooms.first_stands hd form st formed),
  )

  pub count_is : (p : Past) (w : World) → Inv p w → p.count ≡ w.event
  count_is p w s = let x = s.0.0.0 in (let b : shorts.Stands hd form p w = x.base in b.base.base.count)

all_said : (hd : Header) (r : Run hd) (form : IsInForm hd r) → Runs (Said hd form.header) r.start (run_events hd r) (journal_by hd r)
all_said hd r form =
    runs_along (Said hd form.header) (Inv hd form.header) IsStoppedInForm (λ p w s. written_lines hd form.header p w s.0.0.0)
    (count_is hd form.header) (goes hd form.header) r.start r.moves (world_from hd r.start) form.stops
    (first_stands hd form.header r.start r.formed)

-- ---- and what holds of each line

module _ (P Q : Past → Event → List Body → Type 0) (L : Body → Type 0)
    (gives : (p : Past) (e : Event) (bodies : List Body) → P p e bodies → AllByRecursion L bodies → Q p e bodies) where
  abbrev EachLine : List Line → Type 0
  EachLine ls = AllByRecursion (λ (l : Line). L l.body) ls

  -- the lines of a run are those before an event, and more
  more_lines : (p : Past) (es : List Event) (end : Past) → Along P p es end → (more : List Line) × (end.lines ≡ p.lines ++ more)
  more_lines p [] end is = ([], ap (λ (q : Past). q.lines) (sym is) ∙ sym (append-nil p.lines))
  more_lines p (e ∷ es) end h =
      let r = more_lines (next p e h.0) es end h.2 in
      (block (p.count + 1) h.0 ++ r.0, r.1 ∙ append_assoc p.lines (block (p.count + 1) h.0) r.0)

  of_bodies : (n : ℕ) (bodies : List Body) → EachLine (block n bodies) → AllByRecursion L bodies
  of_bodies n [] all = tt
  of_bodies n (b ∷ bodies) all = (all.0, of_bodies n bodies all.1)

  along : (p : Past) (es : List Event) (end : Past) → Along P p es end → EachLine end.lines → Along Q p es end
  along p [] end is all = is
  along p (e ∷ es) end h all =
      let r = more_lines (next p e h.0) es end h.2 in
      let its : AllByRecursion L h.0 = of_bodies (p.count + 1) h.0
      (back_all (λ (l : Line). L l.body) p.lines (block (p.count + 1) h.0)
      (front_all (λ (l : Line). L l.body) (p.lines ++ block (p.count + 1) h.0) r.0 (subst EachLine r.1 all))) in
      (h.0, gives p e h.0 h.1 its, along (next p e h.0) es end h.2 all)

  pub runs_each : (st : Start) (es : List Event) (journal : List Line) → EachLine journal → Runs P st es journal → Runs Q st es journal
  runs_each st es journal all h =
      (h.0, h.1, along (at_start st) es h.0 h.2 (front_all (λ (l : Line). L l.body) (let q = h.0 in q.lines) h.1 (subst EachLine h.3 all)), h.3, h.4)

-- In every run each event writes what it may.
pub journals_follow : RunsFollow
journals_follow hd r form =
    runs_each (Said hd form.header) (Step hd) AnswersIt
    (λ p e bodies s its. let q = s.1.0 in assembled hd p e bodies q.1.0 q.1.1.0 q.1.1.1 its s.1.1 s.0 q.0.0 q.0.1)
    r.start (run_events hd r) (journal_by hd r) (runs_answer hd r form) (all_said hd r form)
