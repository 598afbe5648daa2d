-- How a session goes on, and how it ends.
use Rattle.std.proofs.Common.{◌≡◌, ◌⊎◌, inl, inr, ℕ, ◌-◌, ◌≤◌, ◌<◌, List, [], ◌∷◌, ◌++◌, length, length-append, length-drop, take, drop}
use Rattle.std.proofs.Common.{Option, Some, None, Err, true, false, refl, sym, ◌∙◌, ap, subst, arith, append_assoc}
use Rattle.std.specs.Prelude.{◌==◌, ◌↔◌, IfSome}
use Rattle.std.proofs.Math.Logic.{⊎_elim}
use Rattle.std.proofs.lemmas.List.{append-nil, take-append-drop, take_rest}
use Rattle.std.proofs.lemmas.Bool.{eqb-true, eq-eqb, both_ways}
use Rattle.arj_base.specs.Count.{Rose}
use Rattle.arj_io.specs.Told.{Gives}
use Rattle.arj_io.specs.Told.{Takes as IsTaken}
use Rattle.arj_journal.specs.declared.body.Line.{Line}
use Rattle.arj_journal.specs.LineText.{text}
use Rattle.arj_script.specs.Cutting.{InHand, Takes, in_hand}
use Rattle.arj_script.specs.Grammar.{HasForm, IsBadLine, Place, Run, Running, Start}
use Rattle.arj_script.specs.Input.{AtEnd, AtFault, AtRunEnd, ended_from, ended_lines, rest_line, is_enough, last_line, lines_of}
use Rattle.arj_script.proofs.Cutting.{ended_from-append}
use Rattle.arj_script.specs.declared.cutter.Full.TheVariants as full
use Rattle.arj_loop.specs.declared.ending.BadLine.{BadLine}
use Rattle.arj_loop.specs.declared.ending.BadLine.TheVariants as why
use Rattle.arj_loop.specs.declared.ending.End.{End}
use Rattle.arj_loop.specs.declared.ending.End.TheVariants as ending
use Rattle.arj_loop.specs.declared.gather.Gather.{Gather}
use Rattle.arj_loop.specs.declared.run.Runner.{Runner}
use Rattle.arj_loop.specs.declared.session.Session.{Session}
use Rattle.arj_loop.specs.declared.machine.Machine.{Ghosts}
use Rattle.arj_loop.specs.Forms.{IsBadBy}
use Rattle.arj_loop.specs.Input.{Arrived, Came, SourceView, WentOn, ReadsFewPast, arrived, script, script_of, source_view}
use Rattle.arj_loop.specs.Replayed.{Answer, Closes, EndsSo, Outside, StopsShort, answer, outside}
use Rattle.arj_loop.specs.Running.{Stage, StageOf, Reached, Halfway, Hand, Gathers, Fronts, Work, IsGoing, IsAtLine, HasEnded, IsOverflown}
use Rattle.arj_loop.specs.Running.{ChangedBy, ChangedSince, end_of, hand, hand_of, header_at, lines_before, overflown, status_of, why_of}
use Rattle.arj_loop.specs.Running.{work}
use Rattle.arj_loop.specs.Written.{IsWritten}
use Rattle.arj_loop.proofs.Bytes.{short_of}
use Rattle.arj_script.proofs.Feeds.{fed_none, fed_line, fed_long, lines_line}
use Rattle.arj_loop.proofs.Cuts.{lines_long, lines_last, lines_none}
use Rattle.arj_loop.proofs.Stages.{Limited, unchanged}
use Rattle.arj_loop.proofs.Statuses.{Wanted, end_kinds}
use Rattle.arj_loop.proofs.Steps.{forms_length}
use Rattle.arj_loop.proofs.Whole.{IsEnd, all_short, end_reached, fault_reached, front_at_4, gathers_empty, gathers_first, gathers_front}
use Rattle.arj_loop.proofs.Whole.{gathers_taken, line_reached, stage_first, stage_start, takes_nothing, whole_front}

abbrev pub with_cutter : {M : Type 0} → Session M → InHand → Session M
with_cutter session cutter = record { runner = session.runner; cutter = cutter; gather = session.gather }

-- so many lines were run
pub stage_count : {D M : Type 0} (view : Ghosts M D) (first rack : List D) (lines : List (List ℕ)) (runner : Runner M) (journal : List Line) → StageOf view first rack lines runner journal → runner.lines ≡ length lines
stage_count view first rack lines runner journal s = s.counted ∙ forms_length Start lines s.forms runner.reader s.read

pub went_more : (given : Arrived) (m n : ℕ) → m ≤ n → WentOn given m → WentOn given n
went_more given m n more w = record { earlier = omega (arith, w.earlier, more); to_the_end = λ go. omega (arith, w.to_the_end go, more) }

went_as : (given : Arrived) (m n : ℕ) → n ≡ m → WentOn given m → WentOn given n
went_as given m n same w = subst (λ k. WentOn given k) (sym same) w

past_as : (given : Arrived) (m n : ℕ) → n ≡ m → ReadsFewPast given m → ReadsFewPast given n
past_as given m n same p = subst (λ k. ReadsFewPast given k) (sym same) p

-- it ended at its line, at the input's end or at a read
pub ended_reached : {D M : Type 0} (view : Ghosts M D) (first : List D) (before : Option (List ℕ)) (given : Arrived) (now : Work D M) (end : End)
    → (end ≡ ending.Write → ⊥) → (end ≡ ending.Memory → ⊥) → (end ≡ ending.Format → ⊥)
    → Reached view first now.rack (script_of given) (hand_of now) end → WentOn given (lines_before end now.session.runner.lines) →
    ReadsFewPast given (lines_before end now.session.runner.lines)
    → Gathers now.journal now.session.gather.waiting.items before now.taken → HasEnded view first before given now end
ended_reached view first before given now end w m f r went past g = record {
  reached = λ _ _ _. (r, went, past);
  none = λ e. absurd (f e);
  format = λ e. absurd (f e);
  gathers = λ _ _. g;
  memory = λ e. absurd (m e);
  write = λ e. absurd (w e);
}

-- memory was wanting at a line
pub ended_memory : {D M : Type 0} (view : Ghosts M D) (first rack : List D) (before : Option (List ℕ)) (given : Arrived) (done rest : List (List ℕ)) (runner : Runner M) (journal : List Line) (now : Work D M)
    → (let s = script_of given in s.lines) ≡ done ++ rest → (stage : StageOf view first rack done runner journal) →
    ChangedSince view stage.header runner.reader rest rack now.rack → WentOn given (length done)
    → Gathers journal now.session.gather.waiting.items before now.taken → (rest ≡ [] → ⊥) →
    HasEnded view first before given now ending.Memory
ended_memory {D} {M} view first rack before given done rest runner journal now whole s touches went g some =
    let at : Hand M = hand runner.machine runner.lines journal in
    let half : Halfway view first now.rack (script_of given) at =
    record { place = runner.reader; done = done; rest = rest; whole = whole; mid = rack; stage = s; since = touches } in
    record {
      reached = λ _ m. absurd (m refl);
      none = λ e. absurd (let never : ending.Memory ≡ ending.Format = e in cc);
      format = λ e. absurd (let never : ending.Memory ≡ ending.Format = e in cc);
      gathers = λ _ m. absurd (m refl);
      memory = λ _. (at, half, g, went_as given (length done) runner.lines (stage_count view first rack done runner journal s) went, λ none _. some none);
      write = λ e. absurd (let never : ending.Memory ≡ ending.Write = e in cc);
    }

-- a write failed behind a line
pub ended_write : {D M : Type 0} (view : Ghosts M D) (first : List D) (before : Option (List ℕ)) (given : Arrived) (done rest : List (List ℕ)) (now : Work D M)
    → (let s = script_of given in s.lines) ≡ done ++ rest → StageOf view first now.rack done now.session.runner now.journal →
    WentOn given (length done)
    → Fronts now.journal before now.taken → HasEnded view first before given now ending.Write
ended_write {D} {M} view first before given done rest now whole s went front =
    let half : Halfway view first now.rack (script_of given) (hand_of now) =
    record {
      place = now.session.runner.reader;
      done = done;
      rest = rest;
      whole = whole;
      mid = now.rack;
      stage = s;
      since =
          unchanged view s.header now.session.runner.reader rest now.rack;
    } in
    record {
      reached = λ w. absurd (w refl);
      none = λ e. absurd (let never : ending.Write ≡ ending.Format = e in cc);
      format = λ e. absurd (let never : ending.Write ≡ ending.Format = e in cc);
      gathers = λ w. absurd (w refl);
      memory = λ e. absurd (let never : ending.Write ≡ ending.Memory = e in cc);
      write = λ _. (hand_of now, half, front, went_as given (length done) now.session.runner.lines (stage_count view first now.rack done now.session.runner now.journal s) went);
    }

-- a frame didn't fit in a line that was run
pub ended_frames : {D M : Type 0} (view : Ghosts M D) (first : List D) (before : Option (List ℕ)) (given : Arrived) (done rest : List (List ℕ)) (line : List ℕ) (now : Work D M)
    → (let s = script_of given in s.lines) ≡ (done ++ line ∷ []) ++ rest →
    StageOf view first now.rack (done ++ line ∷ []) now.session.runner now.journal →
    IsOverflown view now.session.runner.machine now.journal → WentOn given (length done) → ReadsFewPast given (length done)
    → Gathers now.journal now.session.gather.waiting.items before now.taken → HasEnded view first before given now ending.Frames
ended_frames view first before given done rest line now whole s over went past g =
    let count : now.session.runner.lines - 1 ≡ length done =
    omega (arith, stage_count view first now.rack (done ++ line ∷ []) now.session.runner now.journal s, length-append done (line ∷ [])) in
    ended_reached view first before given now ending.Frames
    (λ e. (let never : ending.Frames ≡ ending.Write = e in cc)) (λ e. (let never : ending.Frames ≡ ending.Memory =
    e in cc)) (λ e. (let never : ending.Frames ≡ ending.Format = e in cc))
    (record {
      place = now.session.runner.reader;
      done = done ++ line ∷ [];
      rest = rest;
      whole = whole;
      stage = s;
      why = over;
      going =
          λ no. absurd (no refl);
    })
    (went_as given (length done) (now.session.runner.lines - 1) count went) (past_as given (length done) (now.session.runner.lines - 1) count past) g

-- a disk was stopped at `run`
bare_stage : {D M : Type 0} (view : Ghosts M D) (first rack : List D) (done : List (List ℕ)) (place : Place) (count : ℕ) (journal : List Line) → Stage view first rack done place (hand None count journal)
    → (rack ≡ first) × Stage view first first done place (hand None count journal)
bare_stage {D} {M} view first rack done place count journal s =
    (s.machine_is.1, subst (λ r. Stage view first r done place (hand None count journal)) s.machine_is.1 s)

pub ended_format : {D M : Type 0} (view : Ghosts M D) (first rack : List D) (before : Option (List ℕ)) (given : Arrived) (done : List (List ℕ)) (line : List ℕ) (tail : List (List ℕ)) (runner : Runner M) (journal : List Line) (now : Work D M)
    → (let s = script_of given in s.lines) ≡ done ++ line ∷ tail → StageOf view first rack done runner journal → now.journal ≡ journal →
    runner.machine ≡ None → now.session.runner.machine ≡ None → HasForm runner.reader line Run → runner.lines < 100000
    → view.stopped rack now.rack → view.moved (header_at runner.reader) [] rack now.rack → WentOn given (length done) →
    ReadsFewPast given (length done) → Gathers journal now.session.gather.waiting.items before now.taken →
    HasEnded view first before given now ending.Format
ended_format {D} {M} view first rack before given done line tail runner journal now whole s still none unmade form room rose moved went past g =
    let count = stage_count view first rack done runner journal s in
    let bare = bare_stage view first rack done runner.reader runner.lines journal (subst (λ en. Stage view first rack done runner.reader (hand en runner.lines journal)) none s) in
    let at : Reached view first first (script_of given) (hand None runner.lines now.journal) ending.Format = record {
      place = runner.reader;
      done = done;
      rest = line ∷ tail;
      whole = whole;
      stage = subst (λ js. Stage view first first done runner.reader (hand None runner.lines js)) (sym still) bare.1;
      why = (line, tail, refl, form, room, refl);
      going = λ _. refl;
    } in
    record {
      reached = λ _ _ f. absurd (f refl);
      none = λ _. unmade;
      format = λ _. (
        runner.lines,
        at,
        went_as given (length done) runner.lines count went,
        past_as given (length done) runner.lines count past,
        subst (λ r. view.stopped r now.rack) bare.0 rose,
        subst (λ r. view.moved (header_at runner.reader) [] r now.rack) bare.0 moved,
      );
      gathers = λ _ _. subst (λ js. Gathers js now.session.gather.waiting.items before now.taken) (sym still) g;
      memory = λ e. absurd (let never : ending.Format ≡ ending.Memory = e in cc);
      write = λ e. absurd (let never : ending.Format ≡ ending.Write = e in cc);
    }

-- it ended at a line that the runner didn't run
lines_same : {D M : Type 0} (view : Ghosts M D) (first rack after_rack : List D) (done : List (List ℕ)) (line : List ℕ) (before after : Runner M) (journal after_journal : List Line) (end : End)
    → StageOf view first rack done before journal
    → (((w : BadLine) × IsEnd end (ending.Bad w)) ⊎ IsEnd end ending.Lines →
    (after.machine ≡ before.machine) × (after.lines ≡ before.lines) × (after_rack ≡ rack))
    → (IsEnd end ending.Labels → Limited view first after_rack done after.reader after.machine after.lines after_journal line)
    → (end ≡ ending.Write → ⊥) → (end ≡ ending.Memory → ⊥) → (end ≡ ending.Format → ⊥) → (end ≡ ending.Whole → ⊥) →
    (end ≡ ending.Fault → ⊥) → (end ≡ ending.Frames → ⊥) → after.lines ≡ length done
lines_same view first rack after_rack done line before after journal after_journal (ending.Bad w) s kept labels a b c d e f =
    (let k = kept (inl (w, refl)) in k.1) ∙ stage_count view first rack done before journal s
lines_same view first rack after_rack done line before after journal after_journal ending.Lines s kept labels a b c d e f =
    (let k = kept (inr refl) in k.1) ∙ stage_count view first rack done before journal s
lines_same view first rack after_rack done line before after journal after_journal ending.Labels s kept labels a b c d e f =
    stage_count view first after_rack done after after_journal (let l = labels refl in l.0)
lines_same view first rack after_rack done line before after journal after_journal ending.Write s kept labels a b c d e f = absurd (a refl)
lines_same view first rack after_rack done line before after journal after_journal ending.Memory s kept labels a b c d e f = absurd (b refl)
lines_same view first rack after_rack done line before after journal after_journal ending.Format s kept labels a b c d e f = absurd (c refl)
lines_same view first rack after_rack done line before after journal after_journal ending.Whole s kept labels a b c d e f = absurd (d refl)
lines_same view first rack after_rack done line before after journal after_journal ending.Fault s kept labels a b c d e f = absurd (e refl)
lines_same view first rack after_rack done line before after journal after_journal ending.Frames s kept labels a b c d e f = absurd (f refl)

-- none of these ends is behind the line
same_before : (end : End) (count : ℕ) → (end ≡ ending.Frames → ⊥) → lines_before end count ≡ count
same_before ending.Whole count others = refl
same_before (ending.Bad w) count others = refl
same_before ending.Fault count others = refl
same_before ending.Write count others = refl
same_before ending.Memory count others = refl
same_before ending.Lines count others = refl
same_before ending.Labels count others = refl
same_before ending.Format count others = refl
same_before ending.Frames count others = absurd (others refl)

-- what the runner says of an end
pub record RunnerEnds {D M : Type 0} (view : Ghosts M D) (was : Work D M) (now : Work D M) (end : End) : Type 0 where
  pub bad : (w : BadLine) → IsEnd end (ending.Bad w) →
      (was.session.runner.lines < 100000 ⊎ (500 < length was.session.cutter.line)) × IsBadLine was.session.runner.reader was.session.cutter.line × IsBadBy w was.session.runner.reader was.session.cutter.line
  pub many : IsEnd end ending.Lines → (100000 ≤ was.session.runner.lines) × (length was.session.cutter.line ≤ 500)
  pub kept : ((w : BadLine) × IsEnd end (ending.Bad w)) ⊎ IsEnd end ending.Lines →
      (now.session.runner.machine ≡ was.session.runner.machine) × (now.session.runner.lines ≡ was.session.runner.lines) × (now.rack ≡ was.rack)
  pub labels : IsEnd end ending.Labels → (first : List D) (lines : List (List ℕ)) →
      StageOf view first was.rack lines was.session.runner was.journal
      → Limited view first now.rack lines now.session.runner.reader now.session.runner.machine now.session.runner.lines now.journal was.session.cutter.line
  pub labels_going : IsEnd end ending.Labels → overflown view now.session.runner.machine ≡ false
  pub format : IsEnd end ending.Format →
      HasForm was.session.runner.reader was.session.cutter.line Run × (was.session.runner.lines < 100000) × (was.session.runner.machine ≡ None) × (now.session.runner.machine ≡ None) × view.stopped was.rack now.rack × view.moved (header_at was.session.runner.reader) [] was.rack now.rack
  pub still : (end ≡ ending.Memory → ⊥) → now.journal ≡ was.journal
  pub only : (end ≡ ending.Whole → ⊥) × (end ≡ ending.Fault → ⊥) × (end ≡ ending.Write → ⊥) × (end ≡ ending.Frames → ⊥)
  pub moved : (first : List D) (lines : List (List ℕ)) (stage : StageOf view first was.rack lines was.session.runner was.journal) →
      ChangedBy view stage.header was.session.runner.reader was.session.cutter.line was.rack now.rack
  pub waits : now.session.gather.waiting.items ≡ was.session.gather.waiting.items
  pub taken : now.taken ≡ was.taken

pub ended_line : {D M : Type 0} (view : Ghosts M D) (first : List D) (before : Option (List ℕ)) (given : Arrived) (done : List (List ℕ)) (was now : Work D M) (end : End)
    → RunnerEnds view was now end → IsAtLine view first before given done was → HasEnded view first before given now end
ended_line {D} view first before given done was now end r at =
    ⊎_elim
    (λ stopped.
    let f = r.format (ap Err stopped) in
    subst (λ e. HasEnded view first before given now e) (sym stopped) (ended_format view first was.rack before given done was.session.cutter.line at.tail was.session.runner was.journal now at.cut at.stage
    (r.still (λ m. (let never : ending.Format ≡ ending.Memory =
    sym stopped ∙ m in cc))) f.2 f.3 f.0 f.1 f.4 f.5 at.went_on at.past gathers))
    (λ rest. ⊎_elim
    (λ wanting. subst (λ e. HasEnded view first before given now e) (sym wanting) (ended_memory view first was.rack before given done (was.session.cutter.line ∷ at.tail) was.session.runner was.journal now at.cut at.stage (r.moved first done at.stage) at.went_on gathers (λ none. cc none)))
    (λ more. ⊎_elim
    (λ failed. absurd (r.only.2 failed))
    (λ other.
    let same = lines_same view first was.rack now.rack done was.session.cutter.line was.session.runner now.session.runner was.journal now.journal end at.stage r.kept (λ is. r.labels is first done at.stage) other.write other.memory other.format r.only.0 r.only.1 r.only.3 in
    let before_is = same_before end now.session.runner.lines r.only.3 ∙ same in
    ended_reached view first before given now end other.write other.memory other.format
    (line_reached view first was.rack now.rack given.stopped (lines_of given.stopped given.came) done (was.session.cutter.line ∷ at.tail) was.session.cutter.line at.tail was.session.runner now.session.runner was.journal now.journal end at.cut refl at.stage (r.still other.memory)
    r.bad r.many r.kept (λ is. r.labels is first done at.stage) at.going r.labels_going other.write other.memory other.format r.only.0 r.only.1 r.only.3)
    (went_as given (length done) (lines_before end now.session.runner.lines) before_is at.went_on) (past_as given (length done) (lines_before end now.session.runner.lines) before_is at.past)
    (subst (λ js. Gathers js now.session.gather.waiting.items before now.taken) (sym (r.still other.memory)) gathers))
    more)
    rest)
    (end_kinds end)
  where
    gathers : Gathers was.journal now.session.gather.waiting.items before now.taken
    gathers = subst (λ w. Gathers was.journal w before now.taken) (sym r.waits) (subst (λ t. Gathers was.journal was.session.gather.waiting.items before t) (sym r.taken) at.gathers)

-- the end of what was put, one of two
pub put_ended : (end : End) (P : End → Type 0) → (end ≡ ending.Write) ⊎ (end ≡ ending.Memory) → (end ≡ ending.Write → P ending.Write) →
    (end ≡ ending.Memory → P ending.Memory) → P end
put_ended end P only write memory = ⊎_elim (λ is. subst P (sym is) (write is)) (λ is. subst P (sym is) (memory is)) only

-- a feed that ended no line
pub going_on : {D M : Type 0} (view : Ghosts M D) (first : List D) (before : Option (List ℕ)) (used bytes : List ℕ) (after : InHand) (was : Work D M) → Takes was.session.cutter.most was.session.cutter.line bytes full.No after.line → after.most ≡ was.session.cutter.most → IsGoing view first before used was
    → IsGoing view first before (used ++ bytes) (work was.rack (with_cutter was.session after) was.journal was.taken)
going_on view first before used bytes after was takes kept g =
    let fits : Takes 500 was.session.cutter.line bytes full.No after.line =
    subst (λ m. Takes m was.session.cutter.line bytes full.No after.line) g.room takes in
    let f = fed_none 500 used was.session.cutter.line bytes after.line g.in_hand fits in
    record {
      stage = subst (λ ls. StageOf view first was.rack ls was.session.runner was.journal) (sym f.0) g.stage;
      room = kept ∙ g.room;
      in_hand = f.1;
      short = fits.2;
      gathers = g.gathers;
      going = g.going;
    }

-- a line that was run, and cleared
pub going_behind : {D M : Type 0} (view : Ghosts M D) (first : List D) (before : Option (List ℕ)) (used bytes after : List ℕ) (was now : Work D M) → Takes was.session.cutter.most was.session.cutter.line bytes full.Line after → IsGoing view first before used was → now.session.cutter ≡ in_hand was.session.cutter.most [] → overflown view now.session.runner.machine ≡ false
    → StageOf view first now.rack (ended_lines used ++ after ∷ []) now.session.runner now.journal →
    Gathers now.journal now.session.gather.waiting.items before now.taken → IsGoing view first before (used ++ bytes) now
going_behind view first before used bytes after was now takes g cleared going stage gathers =
    let fits : Takes 500 was.session.cutter.line bytes full.Line after =
    subst (λ m. Takes m was.session.cutter.line bytes full.Line after) g.room takes in
    let f = fed_line 500 used was.session.cutter.line bytes after g.in_hand fits in
    let none : now.session.cutter.line ≡ [] = ap (λ h. h.line) cleared in
    record {
      stage = subst (λ ls. StageOf view first now.rack ls now.session.runner now.journal) (sym f.0) stage;
      room = ap (λ h. h.most) cleared ∙ g.room;
      in_hand = none ∙ sym f.1;
      short = omega (arith, ap length none);
      gathers = gathers;
      going = going;
    }

-- the line that a feed ended
pub at_line : {D M : Type 0} (view : Ghosts M D) (first : List D) (before : Option (List ℕ)) (used bytes earlier : List ℕ) (after : InHand) (count : ℕ) (was : Work D M) → Takes was.session.cutter.most was.session.cutter.line (take count bytes) full.Line after.line → IsGoing view first before used was
    → 0 < count → count ≤ length bytes → length bytes ≤ 512 → length (ended_lines earlier) ≤ length (ended_lines used)
    → IsAtLine view first before (arrived (used ++ bytes) earlier AtRunEnd) (ended_lines used) (work was.rack (with_cutter was.session after) was.journal was.taken)
at_line view first before used bytes earlier after count was takes g some within few no_more =
    let fits : Takes 500 was.session.cutter.line (take count bytes) full.Line after.line =
    subst (λ m. Takes m was.session.cutter.line (take count bytes) full.Line after.line) g.room takes in
    let f = fed_line 500 used was.session.cutter.line (take count bytes) after.line g.in_hand fits in
    let whole : (used ++ take count bytes) ++ drop count bytes ≡ used ++ bytes =
    append_assoc used (take count bytes) (drop count bytes) ∙ ap (λ bs. used ++ bs) (take-append-drop count bytes) in
    let cut = lines_line AtRunEnd (used ++ take count bytes) (drop count bytes) (ended_lines used) after.line f.0 in
    record {
      stage = g.stage;
      gathers = g.gathers;
      going = g.going;
      tail = cut.0;
      cut = ap (λ bs. lines_of AtRunEnd bs) (sym whole) ∙ cut.1;
      went_on = record { earlier = no_more; to_the_end = λ go. absurd (go refl) };
      past = λ _. (
        used ++ take count bytes,
        drop count bytes,
        sym whole,
        omega (arith, length-drop count bytes, some, within, few),
        inl (ap length f.0 ∙ length-append (ended_lines used) (after.line ∷ []), f.1),
      );
    }

-- a byte too many
pub ended_long : {D M : Type 0} (view : Ghosts M D) (first : List D) (before : Option (List ℕ)) (used bytes earlier : List ℕ) (after : InHand) (count : ℕ) (was : Work D M) → Takes was.session.cutter.most was.session.cutter.line (take count bytes) full.Long after.line → IsGoing view first before used was
    → 0 < count → count ≤ length bytes → length bytes ≤ 512 → length (ended_lines earlier) ≤ length (ended_lines used)
    → HasEnded view first before (arrived (used ++ bytes) earlier AtRunEnd) (work was.rack (with_cutter was.session after) was.journal was.taken) (ending.Bad why.TooLong)
ended_long view first before used bytes earlier after count was takes g some within few no_more =
    let fits : Takes 500 was.session.cutter.line (take count bytes) full.Long after.line =
    subst (λ m. Takes m was.session.cutter.line (take count bytes) full.Long after.line) g.room takes in
    let f = fed_long 500 used was.session.cutter.line (take count bytes) after.line g.in_hand fits in
    let whole : (used ++ take count bytes) ++ drop count bytes ≡ used ++ bytes =
    append_assoc used (take count bytes) (drop count bytes) ∙ ap (λ bs. used ++ bs) (take-append-drop count bytes) in
    let cut = lines_long (used ++ take count bytes) (drop count bytes) (ended_lines used) f.0 f.1 in
    let size = stage_count view first was.rack (ended_lines used) was.session.runner was.journal g.stage in
    ended_reached view first before (arrived (used ++ bytes) earlier AtRunEnd) (work was.rack (with_cutter was.session after) was.journal was.taken) (ending.Bad why.TooLong)
    (λ e. (let never : ending.Bad why.TooLong ≡ ending.Write = e in cc)) (λ e. (let never : ending.Bad why.TooLong ≡ ending.Memory =
    e in cc)) (λ e. (let never : ending.Bad why.TooLong ≡ ending.Format = e in cc))
    (record {
      place = was.session.runner.reader;
      done = ended_lines used;
      rest = cut.0 ∷ cut.1;
      whole = ap (λ bs. lines_of AtRunEnd bs) (sym whole) ∙ cut.2;
      stage = g.stage;
      why = inl (cut.0, cut.1, refl, inr cut.3, (λ form h. omega (arith, h.short, cut.3)), cut.3);
      going = λ _. g.going;
    })
    (record { earlier = omega (arith, no_more, size); to_the_end = λ go. absurd (go refl) })
    (λ _. (used ++ take count bytes, drop count bytes, sym whole, omega (arith, length-drop count bytes, some, within, few), inr (ap length f.0 ∙ sym size, f.1)))
    g.gathers

-- the line that the input's end leaves in hand
pub at_last : {D M : Type 0} (view : Ghosts M D) (first : List D) (before : Option (List ℕ)) (used earlier : List ℕ) (was : Work D M) →
    IsGoing view first before used was → (was.session.cutter.line ≡ [] → ⊥) → length (ended_lines earlier) ≤ length (ended_lines used)
    → IsAtLine view first before (arrived used earlier AtEnd) (ended_lines used) was
at_last view first before used earlier was g some no_more = record {
  stage = g.stage;
  gathers = g.gathers;
  going = g.going;
  tail = [];
  cut = lines_last used was.session.cutter.line g.in_hand some;
  went_on = record { earlier = no_more; to_the_end = λ _. omega arith };
  past = λ e. absurd (let never : AtEnd ≡ AtRunEnd = e in cc);
}

-- the input's end, where every line was run
not_others : {M : Type 0} (machine : Option M) →
    (end_of machine ≡ ending.Write → ⊥) × (end_of machine ≡ ending.Memory → ⊥) × (end_of machine ≡ ending.Format →
    ⊥) × (end_of machine ≡ ending.Frames → ⊥)
not_others None = (
  (λ e. (let never : ending.Bad why.Missing ≡ ending.Write = e in cc)),
  (λ e. (let never : ending.Bad why.Missing ≡ ending.Memory =
      e in cc)),
  (λ e. (let never : ending.Bad why.Missing ≡ ending.Format =
      e in cc)),
  (λ e. (let never : ending.Bad why.Missing ≡ ending.Frames = e in cc)),
)
not_others (Some machine) = (
  (λ e. (let never : ending.Whole ≡ ending.Write = e in cc)),
  (λ e. (let never : ending.Whole ≡ ending.Memory =
      e in cc)),
  (λ e. (let never : ending.Whole ≡ ending.Format = e in cc)),
  (λ e. (let never : ending.Whole ≡ ending.Frames = e in cc)),
)

pub ended_end : {D M : Type 0} (view : Ghosts M D) (first : List D) (before : Option (List ℕ)) (used earlier : List ℕ) (done : List (List ℕ)) (now : Work D M) (end : End) → end ≡ end_of now.session.runner.machine
    → lines_of AtEnd used ≡ done → StageOf view first now.rack done now.session.runner now.journal →
    overflown view now.session.runner.machine ≡ false → Gathers now.journal now.session.gather.waiting.items before now.taken →
    length (ended_lines earlier) ≤ length done → length (ended_lines used) ≤ length done
    → HasEnded view first before (arrived used earlier AtEnd) now end
ended_end view first before used earlier done now end is whole s going g no_more all =
    let size = stage_count view first now.rack done now.session.runner now.journal s in
    let others = not_others now.session.runner.machine in
    let before_is = same_before (end_of now.session.runner.machine) now.session.runner.lines others.3 in
    subst (λ e. HasEnded view first before (arrived used earlier AtEnd) now e) (sym is) (ended_reached view first before (arrived used earlier AtEnd) now (end_of now.session.runner.machine) others.0 others.1 others.2
    (end_reached view first now.rack (lines_of AtEnd used) done now.session.runner now.journal whole s going)
    (record { earlier = omega (arith, no_more, size, before_is); to_the_end = λ _. omega (arith, all, size, before_is) })
    (λ e. absurd (let never : AtEnd ≡ AtRunEnd = e in cc))
    g)

pub ended_none : {D M : Type 0} (view : Ghosts M D) (first : List D) (before : Option (List ℕ)) (used earlier : List ℕ) (now : Work D M) (end : End) → end ≡ end_of now.session.runner.machine
    → IsGoing view first before used now → now.session.cutter.line ≡ [] → length (ended_lines earlier) ≤ length (ended_lines used) →
    HasEnded view first before (arrived used earlier AtEnd) now end
ended_none view first before used earlier now end is g none no_more =
    ended_end view first before used earlier (ended_lines used) now end is (lines_none used now.session.cutter.line g.in_hand none) g.stage g.going g.gathers no_more (omega arith)

-- a read failed
pub ended_fault : {D M : Type 0} (view : Ghosts M D) (first : List D) (before : Option (List ℕ)) (used earlier : List ℕ) (now : Work D M)
    → StageOf view first now.rack (ended_lines used) now.session.runner now.journal → overflown view now.session.runner.machine ≡ false →
    Gathers now.journal now.session.gather.waiting.items before now.taken → length (ended_lines earlier) ≤ length (ended_lines used)
    → HasEnded view first before (arrived used earlier AtFault) now ending.Fault
ended_fault view first before used earlier now s going g no_more =
    let size = stage_count view first now.rack (ended_lines used) now.session.runner now.journal s in
    ended_reached view first before (arrived used earlier AtFault) now ending.Fault
    (λ e. (let never : ending.Fault ≡ ending.Write = e in cc)) (λ e. (let never : ending.Fault ≡ ending.Memory =
    e in cc)) (λ e. (let never : ending.Fault ≡ ending.Format = e in cc))
    (fault_reached view first now.rack (lines_of AtFault used) (ended_lines used) now.session.runner now.journal (append-nil (ended_lines used)) s going)
    (record { earlier = omega (arith, no_more, size); to_the_end = λ _. omega (arith, size) })
    (λ e. absurd (let never : AtFault ≡ AtRunEnd = e in cc))
    g

-- whether a line has a byte
pub empty_line : (line : List ℕ) → (length line == 0) ≡ true → line ≡ []
empty_line [] h = refl
empty_line (b ∷ bs) h = absurd (omega (arith, eqb-true (length (b ∷ bs)) 0 h))

pub some_line : (line : List ℕ) → (length line == 0) ≡ false → line ≡ [] → ⊥
some_line line h none = both_ways (length line == 0) h (ap (λ l. length l == 0) none)

-- so many bytes as have come aren't enough
pub going_short : {D M : Type 0} (view : Ghosts M D) (first : List D) (before : Option (List ℕ)) (used : List ℕ) (now : Work D M) →
    IsGoing view first before used now → is_enough used ≡ false
going_short view first before used now g =
    let s = g.stage in
    short_of used (record {
      few = omega (arith, s.within, stage_count view first now.rack (ended_lines used) now.session.runner now.journal s);
      short = all_short Start (ended_lines used) s.forms now.session.runner.reader s.read;
      rest = omega (arith, ap length g.in_hand, g.short);
    })

-- with a piece more
pub ended_lines_more : (used piece : List ℕ) → length (ended_lines used) ≤ length (ended_lines (used ++ piece))
ended_lines_more used piece =
    omega (arith, ap length (ended_from-append [] used piece), length-append (ended_lines used) (ended_from (rest_line used) piece))

-- what is taken of a piece and what is left
pub piece_more : (piece taken rest : List ℕ) (n : ℕ) → piece ≡ taken ++ rest →
    piece ≡ (taken ++ take n rest) ++ take (length rest - n) (drop n rest)
piece_more piece taken rest n is =
    is ∙ (ap (λ bs. taken ++ bs) (sym (take-append-drop n rest)) ∙ (sym (append_assoc taken (take n rest) (drop n rest)) ∙ ap (λ bs. (taken ++ take n rest) ++ bs) (sym (take_rest rest n))))

pub piece_whole : (piece taken rest : List ℕ) → piece ≡ taken ++ rest → length rest ≡ 0 → taken ≡ piece
piece_whole piece taken rest is none =
    sym (is ∙ (ap (λ bs. taken ++ bs) (empty_line rest (eq-eqb (length rest) 0 none)) ∙ append-nil taken))

pub no_more : (used earlier piece : List ℕ) → used ≡ earlier ++ piece → length (ended_lines earlier) ≤ length (ended_lines used)
no_more used earlier piece is =
    subst (λ bs. length (ended_lines earlier) ≤ length (ended_lines bs)) (sym is) (ended_lines_more earlier piece)

-- before the first read
pub gives_nothing : (left : Option (List ℕ)) → Gives left [] left
gives_nothing None = tt
gives_nothing (Some bytes) = refl

pub going_first : {D M : Type 0} (view : Ghosts M D) (was : Work D M) → view.ready was.rack → was.session.runner.reader ≡ Start →
    was.session.runner.machine ≡ None → was.session.runner.lines ≡ 0 → was.session.cutter ≡ in_hand 500 [] →
    was.session.gather.waiting.items ≡ [] → was.journal ≡ []
    → IsGoing view was.rack was.taken [] was
going_first view was ready place machine count line waiting journal = record {
  stage = stage_start view was.rack was.session.runner.reader was.session.runner.machine was.session.runner.lines was.journal ready place machine count journal;
  room = ap (λ h. h.most) line;
  in_hand = ap (λ h. h.line) line;
  short = omega (arith, ap (λ h. length h.line) line);
  gathers = gathers_first was.journal was.session.gather.waiting.items was.taken journal waiting;
  going = ap (overflown view) machine;
}

-- what waits is written
abbrev pub with_gather : {M : Type 0} → Session M → Gather → Session M
with_gather session gather = record { runner = session.runner; cutter = session.cutter; gather = gather }

pub going_flushed : {D M : Type 0} (view : Ghosts M D) (first : List D) (before : Option (List ℕ)) (used : List ℕ) (was : Work D M) (gather : Gather) (taken : Option (List ℕ)) → IsGoing view first before used was → gather.waiting.items ≡ []
    → IsTaken was.taken was.session.gather.waiting.items taken →
    IsGoing view first before used (work was.rack (with_gather was.session gather) was.journal taken)
going_flushed view first before used was gather taken g none took = record {
  stage = g.stage;
  room = g.room;
  in_hand = g.in_hand;
  short = g.short;
  gathers = gathers_empty was.journal was.session.gather.waiting.items gather.waiting.items before was.taken taken none g.gathers took;
  going = g.going;
}

-- where nothing waits the sink took all
pub all_written : (journal : List Line) (waiting : List ℕ) (before after : Option (List ℕ)) → Gathers journal waiting before after →
    waiting ≡ [] → IsWritten journal after
all_written journal waiting before after gathers none =
    (before, subst (λ bytes. IsTaken before bytes after) (sym (gathers.1 ∙ ap (λ w. gathers.0 ++ w) none ∙ append-nil gathers.0)) gathers.2)

-- or it isn't
pub ended_flush : {D M : Type 0} (view : Ghosts M D) (first : List D) (before : Option (List ℕ)) (used earlier : List ℕ) (was : Work D M) (gather : Gather) (taken : Option (List ℕ)) (count : ℕ) → IsGoing view first before used was → length (ended_lines earlier) ≤ length (ended_lines used)
    → IsTaken was.taken (take count was.session.gather.waiting.items) taken →
    HasEnded view first before (arrived used earlier AtRunEnd) (work was.rack (with_gather was.session gather) was.journal taken) ending.Write
ended_flush view first before used earlier was gather taken count g fewer took =
    ended_write view first before (arrived used earlier AtRunEnd) (ended_lines used) (last_line AtRunEnd (rest_line used)) (work was.rack (with_gather was.session gather) was.journal taken) refl g.stage
    (record {
      earlier = fewer;
      to_the_end =
          λ go. absurd (go refl);
    }) (gathers_front was.journal was.session.gather.waiting.items count before was.taken taken g.gathers took)

-- what came where the run ended
pub came_run : (before now : SourceView) (came earlier piece : List ℕ) → Gives before.left came now.left → now.faults ≡ before.faults →
    came ≡ earlier ++ piece → length piece ≤ 512 → is_enough earlier ≡ false → Came before now (arrived came earlier AtRunEnd)
came_run before now came earlier piece gives faults is few short = record {
  gives = gives;
  at_end = λ e. absurd (let never : AtRunEnd ≡ AtEnd = e in cc);
  at_fault = λ e. absurd (let never : AtRunEnd ≡ AtFault = e in cc);
  no_fault = λ _. faults;
  needed = (piece, is, few, short);
  not_enough = λ go. absurd (go refl);
}

-- where a read failed
pub came_fault : (before was now : SourceView) (came earlier piece : List ℕ) → Gives before.left came was.left → now.left ≡ was.left →
    was.faults ≡ before.faults → Rose was.faults now.faults → came ≡ earlier ++ piece → length piece ≤ 512 → is_enough earlier ≡ false →
    is_enough came ≡ false
    → Came before now (arrived came earlier AtFault)
came_fault before was now came earlier piece gives left faults rose is few short all = record {
  gives = subst (λ l. Gives before.left came l) (sym left) gives;
  at_end = λ e. absurd (let never : AtFault ≡ AtEnd = e in cc);
  at_fault = λ _. subst (λ n. Rose n now.faults) faults rose;
  no_fault = λ no. absurd (no refl);
  needed = (piece, is, few, short);
  not_enough = λ _. all;
}

-- where the input ended
end_left : (first old new : Option (List ℕ)) (used buf : List ℕ) → Gives first used old → Gives old (take 0 buf) new →
    IfSome old (λ bytes. (◌≡◌ {A = ℕ} 0 0) ↔ (bytes ≡ [])) → IfSome first (λ _. IfSome new (λ rest. rest ≡ [])) × Gives first used new
end_left None old new used buf gives moved end = (tt, tt)
end_left (Some all) None new used buf gives moved end = absurd gives
end_left (Some all) (Some left) None used buf gives moved end = absurd moved
end_left (Some all) (Some left) (Some rest) used buf gives moved end = (sym moved ∙ end.0 refl, gives ∙ ap (λ bs. used ++ bs) moved)

pub came_end : (before was now : SourceView) (came earlier piece buf : List ℕ) (count : ℕ) → count ≡ 0 → Gives before.left came was.left →
    Gives was.left (take count buf) now.left → IfSome was.left (λ bytes. (count ≡ 0) ↔ (bytes ≡ [])) → now.faults ≡ before.faults
    → came ≡ earlier ++ piece → length piece ≤ 512 → is_enough earlier ≡ false → is_enough came ≡ false →
    Came before now (arrived came earlier AtEnd)
came_end before was now came earlier piece buf count none gives moved end faults is few short all =
    let at = end_left before.left was.left now.left came buf gives (subst (λ n. Gives was.left (take n buf) now.left) none moved) (subst (λ n. IfSome was.left (λ bytes. (n ≡ 0) ↔ (bytes ≡ []))) none end) in
    record {
      gives = at.1;
      at_end = λ _. at.0;
      at_fault = λ e. absurd (let never : AtEnd ≡ AtFault = e in cc);
      no_fault = λ _. faults;
      needed = (piece, is, few, short);
      not_enough = λ _. all;
    }

-- few lines were run
pub few_lines : {D M : Type 0} (view : Ghosts M D) (first : List D) (before : Option (List ℕ)) (given : Arrived) (now : Work D M) (end : End) (w : BadLine) → HasEnded view first before given now end → end ≡ ending.Bad w → now.session.runner.lines ≤ 100000
few_lines view first before given now end w h is =
    let r = h.reached (λ e. (let never : ending.Bad w ≡ ending.Write = sym is ∙ e in cc)) (λ e. (let never : ending.Bad w ≡ ending.Memory =
    sym is ∙ e in cc)) (λ e. (let never : ending.Bad w ≡ ending.Format = sym is ∙ e in cc)) in
    let reached = r.0 in
    reached.stage.within

-- what the answer of a run shows
pub closes_of : {D M : Type 0} (view : Ghosts M D) (before after : Outside D) (given : Arrived) (end : End) (answer : Answer M) →
    Came (source_view before.left before.faults) (source_view after.left after.faults) given
    → answer.status ≡ status_of end → answer.why ≡ why_of end → (ends : EndsSo view given before.rack after.rack end answer.journal) →
    answer.machine ≡ (let at = ends.at in at.machine) → IsTaken before.taken (text answer.journal) after.taken
    → Closes view before after answer
closes_of view before after given end answer came status w ends machine wrote =
    record { given = given; reads = came; end = end; status_is = status; why_is = w; ends = ends; machine_is = machine; wrote = wrote }

pub short_5 : {D M : Type 0} (view : Ghosts M D) (before after : Outside D) (given : Arrived) (waiting : List ℕ) (u : Option (List ℕ)) →
    Came (source_view before.left before.faults) (source_view after.left after.faults) given →
    Wanted view given before.rack after.rack waiting before.taken u
    → IsTaken u waiting after.taken → StopsShort view before after 5
short_5 view before after given waiting u came w wrote = record {
  given = given;
  journal = w.at.journal;
  reads = came;
  run = inl (w.at, w.half, refl, w.went_on);
  cut = λ _. w.more;
  wrote = whole_front w.at.journal before.taken after.taken (gathers_taken w.at.journal waiting before.taken u after.taken w.gathers wrote);
}

pub short_4 : {D M : Type 0} (view : Ghosts M D) (before after : Outside D) (given : Arrived) (waiting : List ℕ) (u : Option (List ℕ)) (count : ℕ) → Came (source_view before.left before.faults) (source_view after.left after.faults) given → Wanted view given before.rack after.rack waiting before.taken u
    → IsTaken u (take count waiting) after.taken → StopsShort view before after 4
short_4 view before after given waiting u count came w wrote = record {
  given = given;
  journal = w.at.journal;
  reads = came;
  run = inl (w.at, w.half, refl, w.went_on);
  cut = λ five. absurd (omega (arith, five));
  wrote = front_at_4 w.at.journal before.taken after.taken (gathers_front w.at.journal waiting count before.taken u after.taken w.gathers wrote);
}

pub short_closed : {D M : Type 0} (view : Ghosts M D) (before after : Outside D) (given : Arrived) (end : End) (journal : List Line) (waiting : List ℕ) (u : Option (List ℕ)) (count : ℕ) → Came (source_view before.left before.faults) (source_view after.left after.faults) given
    → EndsSo view given before.rack after.rack end journal → Gathers journal waiting before.taken u →
    IsTaken u (take count waiting) after.taken → StopsShort view before after 4
short_closed view before after given end journal waiting u count came ends g wrote = record {
  given = given;
  journal = journal;
  reads = came;
  run = inr (refl, (end, ends));
  cut = λ five. absurd (omega (arith, five));
  wrote = front_at_4 journal before.taken after.taken (gathers_front journal waiting count before.taken u after.taken g wrote);
}

pub short_write : {D M : Type 0} (view : Ghosts M D) (before after : Outside D) (given : Arrived) (now : Work D M) (end : End) →
    Came (source_view before.left before.faults) (source_view after.left after.faults) given
    → HasEnded view before.rack before.taken given now end → end ≡ ending.Write → now.rack ≡ after.rack → now.taken ≡ after.taken →
    StopsShort view before after 4
short_write {D} {M} view before after given now end came h is rack taken =
    let w = h.write is in
    let at : Hand M = w.0 in
    record {
      given = given;
      journal = at.journal;
      reads = came;
      run = inl (at, subst (λ r. Halfway view before.rack r (script_of given) at) rack w.1, refl, w.3);
      cut = λ five. absurd (omega (arith, five));
      wrote = front_at_4 at.journal before.taken after.taken (subst (λ t. Fronts at.journal before.taken t) taken w.2);
    }

-- memory was wanting before the first read
pub short_first : {D M : Type 0} (view : Ghosts M D) (left : Option (List ℕ)) (faults : ℕ) (taken : Option (List ℕ)) (rack : List D) →
    view.ready rack → StopsShort view (outside left faults taken rack) (outside left faults taken rack) 5
short_first {D} {M} view left faults taken rack ready =
    let at : Hand M = hand None 0 [] in
    let half : Halfway view rack rack (script AtRunEnd (lines_of AtRunEnd [])) at =
    record {
      place = Start;
      done = [];
      rest = lines_of AtRunEnd [];
      whole = refl;
      mid = rack;
      stage = stage_first view rack ready;
      since =
          unchanged view (let s = stage_first view rack ready in s.header) Start (lines_of AtRunEnd []) rack;
    }
    in
    record {
      given = arrived [] [] AtRunEnd;
      journal = [];
      reads = came_run (source_view left faults) (source_view left faults) [] [] [] (gives_nothing left) refl refl (omega arith) refl;
      run = inl (at, half, refl, record { earlier = omega arith; to_the_end = λ go. absurd (go refl) });
      cut = λ _ _ running. (let never : Start ≡ Running = running in cc never);
      wrote = (0, takes_nothing taken, λ _. refl);
    }
