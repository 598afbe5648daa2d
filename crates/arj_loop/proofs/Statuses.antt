-- The status of an end, and what a run leaves when its last line is put.
use Rattle.std.proofs.Common.{◌⊎◌, ◌≡◌, ◌≢◌, inl, inr, ℕ, ◌≤◌, List, [], ◌∷◌, ◌++◌, Option, None, Some, refl, sym, ◌∙◌, ap, subst, arith}
use Rattle.std.proofs.lemmas.Bool.{cases_lt}
use Rattle.std.proofs.Math.Logic.{⊎_elim}
use Rattle.arj_journal.specs.declared.body.Line.{Line}
use Rattle.arj_journal.specs.LineText.{text}
use Rattle.arj_loop.specs.declared.ending.End.{End}
use Rattle.arj_loop.specs.declared.ending.End.TheVariants as ending
use Rattle.arj_loop.specs.declared.machine.Machine.{Ghosts}
use Rattle.arj_loop.specs.Input.{Arrived, WentOn, ReadsFewPast, script_of}
use Rattle.arj_loop.specs.Replayed.{EndsSo}
use Rattle.arj_journal.specs.declared.header.Header.{Header}
use Rattle.arj_script.specs.Grammar.{Place}
use Rattle.arj_script.specs.Input.{Stopped}
use Rattle.arj_loop.specs.Running.{Hand, HasEnded, Halfway, IsUnfinished, Reached, Gathers, Why, Work, hand, hand_of, last_body, last_lines}
use Rattle.arj_loop.specs.Running.{lines_before, status_of, events_run}
use Rattle.arj_loop.proofs.Stages.{format_since, unchanged}
use Rattle.arj_loop.proofs.Whole.{gathers_more}

pub status_fits : (end : End) → (status_of end ≤ 7) × (status_of end ≢ 1)
status_fits ending.Whole = (omega arith, λ e. absurd (omega (arith, e)))
status_fits (ending.Bad w) = (omega arith, λ e. absurd (omega (arith, e)))
status_fits ending.Fault = (omega arith, λ e. absurd (omega (arith, e)))
status_fits ending.Write = (omega arith, λ e. absurd (omega (arith, e)))
status_fits ending.Memory = (omega arith, λ e. absurd (omega (arith, e)))
status_fits ending.Lines = (omega arith, λ e. absurd (omega (arith, e)))
status_fits ending.Labels = (omega arith, λ e. absurd (omega (arith, e)))
status_fits ending.Frames = (omega arith, λ e. absurd (omega (arith, e)))
status_fits ending.Format = (omega arith, λ e. absurd (omega (arith, e)))

-- only a failed write has status 4
is_write : (end : End) → status_of end ≡ 4 → end ≡ ending.Write
is_write ending.Whole e = absurd (omega (arith, e))
is_write (ending.Bad w) e = absurd (omega (arith, e))
is_write ending.Fault e = absurd (omega (arith, e))
is_write ending.Write e = refl
is_write ending.Memory e = absurd (omega (arith, e))
is_write ending.Lines e = absurd (omega (arith, e))
is_write ending.Labels e = absurd (omega (arith, e))
is_write ending.Frames e = absurd (omega (arith, e))
is_write ending.Format e = absurd (omega (arith, e))

-- only the stop of a format has status 7
pub is_format : (end : End) → status_of end ≡ 7 → end ≡ ending.Format
is_format ending.Format e = refl
is_format ending.Whole e = absurd (omega (arith, e))
is_format (ending.Bad w) e = absurd (omega (arith, e))
is_format ending.Fault e = absurd (omega (arith, e))
is_format ending.Write e = absurd (omega (arith, e))
is_format ending.Memory e = absurd (omega (arith, e))
is_format ending.Lines e = absurd (omega (arith, e))
is_format ending.Labels e = absurd (omega (arith, e))
is_format ending.Frames e = absurd (omega (arith, e))

-- an end that is none of these
pub record IsOther (end : End) : Type 0 where
  pub write : end ≢ ending.Write
  pub memory : end ≢ ending.Memory
  pub format : end ≢ ending.Format

pub end_kinds : (end : End) → (end ≡ ending.Format) ⊎ ((end ≡ ending.Memory) ⊎ ((end ≡ ending.Write) ⊎ IsOther end))
end_kinds ending.Format = inl refl
end_kinds ending.Memory = inr (inl refl)
end_kinds ending.Write = inr (inr (inl refl))
end_kinds ending.Whole =
    inr (inr (inr (record {
      write = λ n. (let never : ending.Whole ≡ ending.Write = n in cc);
      memory =
          λ n. (let never : ending.Whole ≡ ending.Memory = n in cc);
      format = λ n. (let never : ending.Whole ≡ ending.Format = n in cc);
    })))
end_kinds (ending.Bad w) =
    inr (inr (inr (record {
      write = λ n. (let never : (ending.Bad w) ≡ ending.Write = n in cc);
      memory =
          λ n. (let never : (ending.Bad w) ≡ ending.Memory = n in cc);
      format = λ n. (let never : (ending.Bad w) ≡ ending.Format = n in cc);
    })))
end_kinds ending.Fault =
    inr (inr (inr (record {
      write = λ n. (let never : ending.Fault ≡ ending.Write = n in cc);
      memory =
          λ n. (let never : ending.Fault ≡ ending.Memory = n in cc);
      format = λ n. (let never : ending.Fault ≡ ending.Format = n in cc);
    })))
end_kinds ending.Lines =
    inr (inr (inr (record {
      write = λ n. (let never : ending.Lines ≡ ending.Write = n in cc);
      memory =
          λ n. (let never : ending.Lines ≡ ending.Memory = n in cc);
      format = λ n. (let never : ending.Lines ≡ ending.Format = n in cc);
    })))
end_kinds ending.Labels =
    inr (inr (inr (record {
      write = λ n. (let never : ending.Labels ≡ ending.Write = n in cc);
      memory =
          λ n. (let never : ending.Labels ≡ ending.Memory = n in cc);
      format = λ n. (let never : ending.Labels ≡ ending.Format = n in cc);
    })))
end_kinds ending.Frames =
    inr (inr (inr (record {
      write = λ n. (let never : ending.Frames ≡ ending.Write = n in cc);
      memory =
          λ n. (let never : ending.Frames ≡ ending.Memory = n in cc);
      format = λ n. (let never : ending.Frames ≡ ending.Format = n in cc);
    })))

-- the line outside events
abbrev LastOf : {D M : Type 0} → Ghosts M D → End → Hand M → List Line
LastOf view end at = last_lines (last_body end at.count) (events_run view at.machine)

format_last : {D M : Type 0} (view : Ghosts M D) (end : End) (at other : Hand M) → end ≡ ending.Format →
    LastOf view end at ≡ LastOf view end other
format_last view ending.Format at other is = refl
format_last view ending.Whole at other is = refl
format_last view (ending.Bad w) at other is = absurd (let never : (ending.Bad w) ≡ ending.Format = is in cc)
format_last view ending.Fault at other is = refl
format_last view ending.Write at other is = refl
format_last view ending.Memory at other is = refl
format_last view ending.Frames at other is = refl
format_last view ending.Lines at other is = absurd (let never : ending.Lines ≡ ending.Format = is in cc)
format_last view ending.Labels at other is = absurd (let never : ending.Labels ≡ ending.Format = is in cc)

format_before : (end : End) (count : ℕ) → end ≡ ending.Format → lines_before end count ≡ count
format_before ending.Format count is = refl
format_before ending.Whole count is = refl
format_before (ending.Bad w) count is = refl
format_before ending.Fault count is = refl
format_before ending.Write count is = refl
format_before ending.Memory count is = refl
format_before ending.Lines count is = refl
format_before ending.Labels count is = refl
format_before ending.Frames count is = absurd (let never : ending.Frames ≡ ending.Format = is in cc)

-- a run whose last line was put
closed_by : {D M : Type 0} (view : Ghosts M D) (given : Arrived) (first : List D) (before : Option (List ℕ)) (now : Work D M) (end : End) (journal : List Line) → HasEnded view first before given now end → end ≢ ending.Write → end ≢ ending.Memory
    → journal ≡ now.journal ++ LastOf view end (hand_of now) →
    (ends : EndsSo view given first now.rack end journal) × (now.session.runner.machine ≡ (let at = ends.at in at.machine))
closed_by {D} {M} view given first before now end journal h write memory is =
    ⊎_elim
    (λ stopped.
    let f = h.format stopped in
    let bare : Hand M = hand None f.0 now.journal in
    let count = sym (format_before end f.0 stopped) in (
      record {
        at = bare;
        mid = first;
        reached = subst (λ e. Reached view first first (script_of given) bare e) (sym stopped) f.1;
        racks = inl (stopped, f.4, f.5);
        journal_is = is ∙ ap (λ ls. now.journal ++ ls) (format_last view end (hand_of now) bare stopped);
        went_on = subst (λ n. WentOn given n) count f.2;
        past = subst (λ n. ReadsFewPast given n) count f.3;
      },
      h.none stopped,
    ))
    (λ rest. ⊎_elim
    (λ wanting. absurd (memory wanting))
    (λ more. ⊎_elim
    (λ failed. absurd (write failed))
    (λ other.
    let r = h.reached other.write other.memory other.format in (
      record {
        at = hand_of now;
        mid = now.rack;
        reached = r.0;
        racks = inr (other.format, refl);
        journal_is = is;
        went_on = r.1;
        past =
            r.2;
      },
      refl,
    ))
    more)
    rest)
    (end_kinds end)

pub closes : {D M : Type 0} (view : Ghosts M D) (given : Arrived) (first : List D) (before : Option (List ℕ)) (now : Work D M) (end : End) (journal : List Line) (after : List ℕ) (status : ℕ)
    → HasEnded view first before given now end → end ≢ ending.Write
    → (status ≢ 5 →
    (status ≡ status_of end) × (journal ≡ now.journal ++ LastOf view end (hand_of now)) × (after ≡ now.session.gather.waiting.items ++ text (LastOf view end (hand_of now))))
    → status ≢ 5
    → ((ends : EndsSo view given first now.rack end journal) × (now.session.runner.machine ≡ (let at =
    ends.at in at.machine))) × Gathers journal after before now.taken
closes view given first before now end journal after status h write put five =
    let p = put five in
    let memory : end ≢ ending.Memory = λ m. five (p.0 ∙ ap status_of m) in (
      closed_by view given first before now end journal h write memory p.1,
      subst (λ js. Gathers js after before now.taken) (sym p.1) (gathers_more now.journal (LastOf view end (hand_of now)) now.session.gather.waiting.items after before now.taken p.2 (h.gathers write memory)),
    )

-- a run whose last line wasn't put for want of memory, or that had met it before
pub record Wanted {D M : Type 0} (view : Ghosts M D) (given : Arrived) (first rack : List D) (waiting : List ℕ) (t u : Option (List ℕ)) : Type 0 where
  pub at : Hand M
  pub half : Halfway view first rack (script_of given) at
  pub more : IsUnfinished half.place half.rest
  pub went_on : WentOn given at.count
  pub gathers : Gathers at.journal waiting t u

-- so many lines were run before the end
fewer : (given : Arrived) (end : End) (count : ℕ) → WentOn given (lines_before end count) → WentOn given count
fewer given ending.Whole count w = w
fewer given (ending.Bad v) count w = w
fewer given ending.Fault count w = w
fewer given ending.Write count w = w
fewer given ending.Memory count w = w
fewer given ending.Lines count w = w
fewer given ending.Labels count w = w
fewer given ending.Format count w = w
fewer given ending.Frames count w = record { earlier = omega (arith, w.earlier); to_the_end = λ go. omega (arith, w.to_the_end go) }

-- a line is left where an end puts one outside of events, or `run` wasn't read
unfinished : {D M : Type 0} (view : Ghosts M D) (end : End) (stopped : Stopped) (rest : List (List ℕ)) (place : Place) (rack : List D) (at : Hand M) (header : Header) → (end ≢ ending.Whole) × (end ≢ ending.Fault) × (end ≢ ending.Frames)
    → Why view end stopped rest place rack at header → IsUnfinished place rest
unfinished view ending.Whole stopped rest place rack at header cut why none running = absurd (cut.0 refl)
unfinished view ending.Fault stopped rest place rack at header cut why none running = absurd (cut.1 refl)
unfinished view ending.Frames stopped rest place rack at header cut why none running = absurd (cut.2 refl)
unfinished view (ending.Bad w) stopped rest place rack at header cut why none running =
    ⊎_elim (λ line. let never : line.0 ∷ line.1 ≡ [] = sym line.2 ∙ none in cc never) (λ missing. missing.2 running) why
unfinished view ending.Lines stopped rest place rack at header cut why none running =
    let never : why.0 ∷ why.1 ≡ [] = sym why.2 ∙ none in cc never
unfinished view ending.Labels stopped rest place rack at header cut why none running =
    let never : why.0 ∷ why.1 ≡ [] = sym why.2 ∙ none in cc never
unfinished view ending.Format stopped rest place rack at header cut why none running =
    let never : why.0 ∷ why.1 ≡ [] = sym why.2 ∙ none in cc never
unfinished view ending.Write stopped rest place rack at header cut why none running = why
unfinished view ending.Memory stopped rest place rack at header cut why none running = why

pub wants : {D M : Type 0} (view : Ghosts M D) (given : Arrived) (first : List D) (before : Option (List ℕ)) (now : Work D M) (end : End) (after : List ℕ)
    → HasEnded view first before given now end → end ≢ ending.Write → (end ≢ ending.Whole) × (end ≢ ending.Fault) × (end ≢ ending.Frames) →
    after ≡ now.session.gather.waiting.items → Wanted view given first now.rack after before now.taken
wants {D} {M} view given first before now end after h write cut same =
    ⊎_elim
    (λ stopped.
    let f = h.format stopped in
    let r = f.1 in
    let why = r.why in
    record {
      at = hand None f.0 now.journal;
      half = record {
        place = r.place;
        done = r.done;
        rest = r.rest;
        whole = r.whole;
        mid = first;
        stage = r.stage;
        since =
            format_since view (let s = r.stage in s.header) r.place why.0 r.rest why.1 first now.rack why.2 why.3 f.5;
      };
      more = λ none. absurd (let never : why.0 ∷ why.1 ≡ [] = sym why.2 ∙ none in cc never);
      went_on = f.2;
      gathers = subst (λ w. Gathers now.journal w before now.taken) (sym same) (h.gathers write (λ m. (let never : ending.Format ≡ ending.Memory = sym stopped ∙ m in cc)));
    })
    (λ rest. ⊎_elim
    (λ wanting.
    let m = h.memory wanting in
    record {
      at = m.0;
      half = m.1;
      more = m.4;
      went_on = m.3;
      gathers =
          subst (λ w. Gathers (let at = m.0 in at.journal) w before now.taken) (sym same) m.2;
    })
    (λ more. ⊎_elim
    (λ failed. absurd (write failed))
    (λ other.
    let found = h.reached other.write other.memory other.format in
    let r = found.0 in
    record {
      at = hand_of now;
      half = record {
        place = r.place;
        done = r.done;
        rest = r.rest;
        whole = r.whole;
        mid = now.rack;
        stage = r.stage;
        since =
            unchanged view (let s = r.stage in s.header) r.place r.rest now.rack;
      };
      more = unfinished view end given.stopped r.rest r.place now.rack (hand_of now) (let s = r.stage in s.header) cut r.why;
      went_on = fewer given end now.session.runner.lines found.1;
      gathers = subst (λ w. Gathers now.journal w before now.taken) (sym same) (h.gathers other.write other.memory);
    })
    more)
    rest)
    (end_kinds end)

pub is_5 : (n : ℕ) → (n ≡ 5) ⊎ (n ≢ 5)
is_5 n = ⊎_elim (λ less. inr (λ e. absurd (omega (arith, less, e)))) (λ most. ⊎_elim (λ more. inr (λ e. absurd (omega (arith, more, e)))) (λ least. inl (omega (arith, most, least))) (cases_lt 5 n)) (cases_lt n 5)

-- so a run that goes on to its close has another
pub not_4 : (end : End) (status : ℕ) → end ≢ ending.Write → status ≡ 4 → (status ≢ 5 → status ≡ status_of end) → ⊥
not_4 end status write four same =
    let is : status_of end ≡ 4 = sym (same (λ e. absurd (omega (arith, e, four)))) ∙ four in
    write (is_write end is)
