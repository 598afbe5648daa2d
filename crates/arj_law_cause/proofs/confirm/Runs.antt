-- Whole runs: each line that says that naming refused a commit, for a listed store, since no store would be left, or for a row that the
-- top met, has its cause, and so much of it where a server or naming refused one since something is newer; and each that says that a store
-- did fits those before it.
use Rattle.arj_law_parts.proofs.Words
use Words.{⊤, ◌≡◌, ◌⊎◌, ◌∙◌, ◌+◌, ◌==◌, ◌++◌, ◌&&◌, ◌||◌, not, ℕ, Bool, true, false, cond, if◌then◌else◌, List, [], ◌∷◌, Option, Some}
use Words.{None, refl, sym}
use Words.{ap, subst, inl, inr, append_assoc, AllByRecursion, and_parts, list_all, Asked, Body, Event, Header, Kind, Label}
use Words.{Line, Message, Reply}
use Words.{answers, Disk, Do, Effect, Say, Send, worked, Parts, Took, handle, is_meant, with_coord, Input, Node, acts as does, again_all}
use Words.{begin_action}
use Words.{parent_of, parts_in, restart_outs, tick_outs, heard, frame_kind, is_serial, numbered, Post, Seen, Start, IsFormed, name}
use Words.{world_by}
use Words.{see, world_from}
use Words.body
use Words.cause
use Words.frame
use Rattle.arj_law_lock_view.proofs.moments.Answers.{answers_step, first_made, made_closes, made_later, made_opens}
use Rattle.arj_law_lock_view.specs.moments.Made.{AnswersAreMade, Saying}
use Rattle.arj_law_parts.proofs.moves.{Flat.post, Happens.Wide, Happens.wide_kept}
use Rattle.arj_law_parts.proofs.moves.{Together.with_both}
use Rattle.arj_law_parts.specs.moves.Keeps.{IsAtStarts}
use Rattle.arj_law_parts.specs.moves.Moments.{Moment, asks_now, fits, framed_if, given, posted, said, sent, up}
use Rattle.arj_law_parts.specs.moves.Seen.{In}
use Rattle.arj_law_parts.specs.moves.With.{ArePlain, KeepsSteps, KeepsWith, UpWith, WalksWith, is_plain_line}
use Rattle.arj_law_runs.proofs.bindings.Events.{moves_few}
use Rattle.arj_law_runs.proofs.follow.Frames.{frames_are_caused}
use Rattle.arj_law_runs.specs.follow.Frames.{FramesStep, are_so, run_events}
use Rattle.arj_law_serial.proofs.joint.FitRuns.{moves_fit}
use Rattle.arj_model.specs.CauseSpans.{Here, behind, here_at}
use Rattle.arj_model.specs.CauseCommits.{commit_differs, is_old}
use Rattle.arj_model.specs.Caused.{has_cause}
use Rattle.arj_model.specs.Follows.{Runs}
use Rattle.arj_model.specs.Past.{Along, Past, block, next}
use Rattle.arj_promise.specs.Runs.{HeaderFits, IsInForm, Run, journal_by}
use Rattle.arj_law_cause.proofs.votes.Lines as lines
use Rattle.arj_law_cause.specs.rows.Early.{IsEarly}
use Rattle.arj_law_cause.proofs.confirm.{Joined.early_before, Labels.runs_have_few, Plain.Ends, Plain.Heard, Plain.Plain}
use Rattle.arj_law_cause.proofs.confirm.{Changed.changed_row, Entries.BeganSo, Entries.began_so, Outdated.old_row, Plain.EndsChanged}
use Rattle.arj_law_cause.proofs.confirm.{Granting.GrantsAreHad, Granting.first_had, Granting.had_steps, Granting.more_had}
use Rattle.arj_law_cause.proofs.confirm.{Losing.old_so, Losing.old_tells, Plain.EndsLate, Plain.Rests}
use Rattle.arj_law_cause.proofs.confirm.{Plain.acts_plain}
use Rattle.arj_law_cause.proofs.confirm.{Plain.heard_is, Plain.parts_plain, Plain.plain, Reached.Reached}
use Rattle.arj_law_cause.proofs.confirm.{Reached.reached_kept}
use Rattle.arj_law_cause.proofs.confirm.{Refused.Fits, Refused.fits_line, Says.confirms_so, Says.tells}
use Rattle.arj_law_cause.proofs.kinds.Lines.{more_lines}
use Rattle.arj_law_cause.proofs.waits.commits.Serving as Serving
use Rattle.arj_law_cause.proofs.waits.commits.Serving.{AreStill, IsQuiet, goes_so, naming_quiet, quiet_plain, restart_still, tick_still}
use Rattle.arj_law_cause.specs.kinds.Kinds.{is_bare_abort, is_listed_abort, is_met_abort}
use Rattle.arj_law_cause.specs.kinds.Rows.{RowHolds, TestedStep, tested}
use Rattle.arj_law_parts.proofs.Terms.which
use Rattle.arj_law_parts.specs.moves.Moments.{no_history}
use Rattle.arj_law_serial.proofs.Terms.{up_of}
use Rattle.arj_law_cause.proofs.confirm.{Says.Shows}
use Rattle.arj_law_cause.proofs.rows.Running.{Beside, InEvent, event_step, first_so, moves_stand, none_fits, steps_both, tables_step}
use Rattle.arj_law_cause.specs.rows.Tables.{Tables}

module _ (hd : Header) (st : Start) where
  -- ---- lines

  -- each of these lines fits those before it
  abbrev pub AreFit : List Line → List Line → Type 0
  AreFit = lines.AreFit (Fits hd st)

  plain_fits : (lines : List Line) (b : Body) → plain b ≡ true → Fits hd st lines b
  plain_fits lines (body.Aborted l (cause.Listed x s)) is = absurd (cc is)
  plain_fits lines (body.Aborted l (cause.NoStores x)) is = absurd (cc is)
  plain_fits lines (body.Aborted l cause.Asked) is = tt
  plain_fits lines (body.Aborted l cause.Doomed) is = tt
  plain_fits lines (body.Aborted l (cause.Lost n)) is = tt
  plain_fits lines (body.Aborted l (cause.Conflict u m n)) is = absurd (cc is)
  plain_fits lines (body.Aborted l (cause.Changed n d)) is = absurd (cc is)
  plain_fits lines (body.Aborted l (cause.Old n x v)) is = absurd (cc is)
  plain_fits lines b is = tt

  all_fit : (lines : List Line) (e : ℕ) (bs : List Body) → list_all plain bs ≡ true → AreFit lines (numbered e bs)
  all_fit lines e [] all = tt
  all_fit lines e (b ∷ bs) all = let z = and_parts (plain b) (list_all plain bs) all in
      (plain_fits lines b z.0, all_fit (lines ++ record { event = e; body = b } ∷ []) e bs z.1)

  -- ---- moments

  -- each line so far fits those before it
  abbrev pub LinesFit : Moment → Type 0
  LinesFit M = AreFit [] M.seen.lines

  one_more : (b : Body) (M : Moment) → Fits hd st M.seen.lines b → LinesFit M → LinesFit (said (b ∷ []) M)
  one_more b M fit h = lines.fit_both (Fits hd st) [] M.seen.lines (numbered M.past.number (b ∷ [])) h (fit, tt)

  mute : (bs : List Body) (M : Moment) → list_all plain bs ≡ true → LinesFit M → LinesFit (said bs M)
  mute bs M all h = lines.fit_both (Fits hd st) [] M.seen.lines (numbered M.past.number bs) h (all_fit M.seen.lines M.past.number bs all)

  sent_fit : (p : Post) (M : Moment) → LinesFit M → LinesFit (sent p M)
  sent_fit p M h = by (p.to == p.from) (fits M)
    where
      lined : LinesFit (framed_if true p M)
      lined = mute (body.Sent (M.past.frames + 1) p.from p.to (frame_kind p.message) ∷ []) M refl h

      by : (self fit : Bool) → LinesFit (if self then posted p M else framed_if fit p M)
      by true fit = h
      by false true = lined
      by false false = h

  module _ (k : ℕ) (v : Parts) where
    rest_walk : (outs : List Effect) (d : Disk) (M : Moment) → Plain outs → LinesFit M → WalksWith LinesFit k outs (UpWith LinesFit k v) d M
    rest_walk [] d M all h = h
    rest_walk (Do w ∷ es) d M all h = ((λ how. mute (body.Halted k ∷ []) M refl h), rest_walk es (worked w d) M all.1 h)
    rest_walk (Say b ∷ es) d M all h = rest_walk es d (said (b ∷ []) M) all.1 (mute (b ∷ []) M (λ i. all.0 i && true) h)
    rest_walk (Send to m ∷ es) d M all h = rest_walk es d (sent (post k to m) M) all.1 (sent_fit (post k to m) M h)

  -- the effects say no refusal, or first of all one that fits
  abbrev Turn : List Line → List Effect → Type 0
  Turn lines outs = Plain outs ⊎ ((b : Body) × (rest : List Effect) × (outs ≡ Say b ∷ rest) × Fits hd st lines b × Plain rest)

  turn_walk : (k : ℕ) (v : Parts) (outs : List Effect) (d : Disk) (M : Moment) → Turn M.seen.lines outs → LinesFit M →
      WalksWith LinesFit k outs (UpWith LinesFit k v) d M
  turn_walk k v outs d M (inl all) h = rest_walk k v outs d M all h
  turn_walk k v outs d M (inr (b, rest, are, fit, all)) h = subst (λ es. WalksWith LinesFit k es (UpWith LinesFit k v) d M) (sym are)
      (rest_walk k v rest d (said (b ∷ []) M) all (one_more b M fit h))

  -- ---- what is known

  -- what is seen was reached, and naming's answers say what is so
  abbrev pub Given : Moment → Type 0
  Given M = Wide (Reached hd) M × (Wide (BeganSo st) M × AnswersAreMade (confirms_so hd st) M)

  -- in an event tables show locks, by moments that were reached, in a run with this start
  abbrev Knows : List Line → ℕ → Moment → Type 0
  Knows before event M = Shows hd before event M × Wide (BeganSo st) M

  -- answers say what is so, and what roots were granted stands in the journal
  abbrev Had : List Line → ℕ → Moment → Type 0
  Had before event M = (InEvent [] hd before event M × (Knows before event M × AnswersAreMade (confirms_so hd st) M)) × GrantsAreHad st M

  -- so do those of stores that refuse states as too late, and each line so far fits
  abbrev Inner : List Line → ℕ → Moment → Type 0
  Inner before event M = (Had before event M × AnswersAreMade (old_so st) M) × LinesFit M

  -- between events
  abbrev Between : Moment → Type 0
  Between M = ((Given M × GrantsAreHad st M) × AnswersAreMade (old_so st) M) × LinesFit M

  reached_wide : KeepsWith hd (IsAtStarts hd (Reached hd)) (Wide (Reached hd))
  reached_wide = wide_kept hd (IsAtStarts hd (Reached hd)) (Reached hd) (reached_kept hd)

  began_wide : KeepsWith hd ⊤ (Wide (BeganSo st))
  began_wide = wide_kept hd ⊤ (BeganSo st) (began_so hd st)

  plain_line : (b : Body) → is_plain_line b ≡ true → plain b ≡ true
  plain_line (body.Aborted l c) is = absurd (cc is)
  plain_line b is = refl

  plain_lines : (bs : List Body) → ArePlain bs → list_all plain bs ≡ true
  plain_lines [] all = refl
  plain_lines (b ∷ bs) all = let z = and_parts (is_plain_line b) (list_all is_plain_line bs) all in
      λ i. plain_line b z.0 i && plain_lines bs z.1 i

  module _ (form : HeaderFits hd) where
    heard_turn : (before : List Line) (event k : ℕ) (d : Disk) (t : Parts) (from : ℕ) (m : Message) (M : Moment) →
        Knows before event (up k d t M) → AnswersAreMade (confirms_so hd st) (up k d t M) → AnswersAreMade (old_so st) (up k d t M) →
        GrantsAreHad st (up k d t M) → In (record { from = from; to = k; message = m }) M.seen.sent → (a : Asked) (r : Reply) →
        answers m ≡ Some (a, r) → Turn M.seen.lines (heard from a r d.intents t.coord).outs
    heard_turn before event k d t from m M h made olds had there a r is =
        by (heard from a r d.intents t.coord).outs (heard_is from a r d.intents t.coord)
      where
        by : (outs : List Effect) → Heard from a r t.coord outs → Turn M.seen.lines outs
        by outs (Rests all) = inl all
        by outs (Ends w p q f rest found now waits reply why are all) = inr (
          f w.label,
          rest,
          are,
          fits_line hd st form before event k d t M h.0 made from m there a q (is ∙ ap (λ z. Some (a, z)) reply) w p found now
              (subst (λ z. Words.waits_for_commit from a z (Words.Confirming p) ≡ true) reply waits) f why,
          all,
        )
        by outs (EndsLate w p left y v rest found now waits reply are all) = inr (
          body.Aborted w.label (cause.Old from y v),
          rest,
          are,
          (λ settled g header starts at. subst (λ z. is_old z (name w.label) from y v ≡ true)
              (λ i. record g { header = sym header i; lines = sym at i })
              (old_row hd st form before event k d t M (h.0, h.1.2) olds from m there a y v (is ∙ ap (λ z. Some (a, z)) reply) w p left
              found now
              (subst (λ z. Words.waits_for_commit from a z (Words.Preparing p left) ≡ true) reply waits) settled g starts)),
          all,
        )
        by outs (EndsChanged w machine c n rest found now waits changes are all) = inr (
          body.Aborted w.label (cause.Changed n (Words.differs c)),
          rest,
          are,
          (λ settled rises g header starts at.
              subst (λ z. commit_differs z (name w.label) n (Words.differs c) ≡ true)
              (λ i. record g { header = sym header i; lines = sym at i })
              (changed_row hd st form before event k d t M (h.0, h.1.2) made from m there a r is w machine c n found now waits changes had g
              starts settled rises)),
          all,
        )

    message_turn : (before : List Line) (event k : ℕ) (d : Disk) (t v : Parts) (from : ℕ) (m : Message) (outs : List Effect) (M : Moment) →
        Knows before event (up k d t M) → AnswersAreMade (confirms_so hd st) (up k d t M) → AnswersAreMade (old_so st) (up k d t M) →
        GrantsAreHad st (up k d t M) → In (record { from = from; to = k; message = m }) M.seen.sent → handle k d t from m ≡ Took v outs →
        Turn M.seen.lines outs
    message_turn before event k d t v from m outs M h made olds had there is =
        subst (Serving.GoesSo (IsQuiet plain) (quiet_plain plain parts_plain) (Turn M.seen.lines)
        (λ es all. inl all) k d t (λ n at. naming_quiet plain parts_plain d.names n) from) is
        (goes_so (IsQuiet plain) (quiet_plain plain parts_plain) (Turn M.seen.lines) (λ es all. inl all) k d t
        (λ n at. naming_quiet plain parts_plain d.names n) from m
        (λ a r says. heard_turn before event k d t from m M h made olds had there a r says))

    module _ (before : List Line) (event : ℕ) (early : (j : ℕ) → (event == up_of j before) ≡ false) where
      abbrev Known_now : Moment → Type 0
      Known_now M = InEvent [] hd before event M × (Knows before event M × AnswersAreMade (confirms_so hd st) M)

      shows_steps : KeepsSteps hd (Knows before event)
      shows_steps = steps_both hd (Shows hd before event) (Wide (BeganSo st))
          (steps_both hd (Tables hd before event) (Wide (Reached hd)) (tables_step hd before event early)
          (let k = reached_wide in k.steps)) (let k = began_wide in k.steps)

      known_steps : KeepsSteps hd Known_now
      known_steps = steps_both hd (InEvent [] hd before event) (λ M. Knows before event M × AnswersAreMade (confirms_so hd st) M)
          (event_step [] hd before event early)
          (answers_step hd (confirms_so hd st) (Knows before event) shows_steps (λ M h. h.0.0.0.0)
          (λ k d t v from m h a r front M g there other meant asking new is.
          tells hd st form before event early k d t v from m h a r front M (g.0, g.1.2) there other meant asking new is))

      had_known : KeepsSteps hd (Had before event)
      had_known = had_steps st hd form Known_now known_steps (λ k d t M h. h.1.0.0.1) (λ k d t M h. h.1.0.1.2) (λ k d t M h. h.1.1)

      abbrev Known_all : Moment → Type 0
      Known_all M = Had before event M × AnswersAreMade (old_so st) M

      all_steps : KeepsSteps hd Known_all
      all_steps = answers_step hd (old_so st) (Had before event) had_known (λ M h. h.0.1.0.0.0.0.0)
          (old_tells hd st form (Had before event) (λ M h. (h.0.1.0.0.1, h.0.1.0.1.2, h.1)))

      inner_steps : KeepsSteps hd (Inner before event)
      inner_steps = let g = all_steps in record {
        quiet = λ bs M all h. (g.quiet bs M all h.0, mute bs M (plain_lines bs all) h.1);
        junk = λ n M fit h. (g.junk n M fit h.0, mute (body.Sent (M.past.frames + 1) 0 n frame.Junk ∷ []) M refl h.1);
        stop = λ k d live M h. (g.stop k d live M h.0, mute (body.Halted k ∷ []) M refl h.1);
        message = λ k d t v from m outs M h there meant may is.
            with_both Known_all LinesFit k outs (UpWith Known_all k v) (UpWith LinesFit k v) d M
            (g.message k d t v from m outs M h.0 there meant may is)
            (turn_walk k v outs d M (message_turn before event k d t v from m outs M h.0.0.0.1.0 h.0.0.0.1.1 h.0.1 h.0.0.1 there is) h.1);
        act = λ k d t i M is brings first asks free h. let did = does i d.intents t.coord in
            with_both Known_all LinesFit k did.outs (UpWith Known_all k (with_coord t did.part))
            (UpWith LinesFit k (with_coord t did.part)) d
            (asks_now i t.coord M) (g.act k d t i M is brings first asks free h.0)
            (rest_walk k (with_coord t did.part) did.outs d (asks_now i t.coord M) (acts_plain i d.intents t.coord is) h.1);
        begin = λ k d t l how parent M brings first new gives none h.
            let did = begin_action l how parent (parent_of parent t.coord) t.coord in
            let N = given l (record { node = k; serial = is_serial how }) M in
            with_both Known_all LinesFit k did.outs (UpWith Known_all k (with_coord t did.part))
            (UpWith LinesFit k (with_coord t did.part)) d
            N (g.begin k d t l how parent M brings first new gives none h.0)
            (rest_walk k (with_coord t did.part) did.outs d N (refl, tt) h.1);
        tick = λ k d t M h. let r = again_all t.coord.doings t.coord in
            let outs = tick_outs (record { number = k; disk = d; live = Some t }) t in
            with_both Known_all LinesFit k outs (UpWith Known_all k (with_coord t r.part)) (UpWith LinesFit k (with_coord t r.part)) d M
            (g.tick k d t M h.0)
            (rest_walk k (with_coord t r.part) outs d M (tick_still (IsQuiet plain) (quiet_plain plain parts_plain) k d t) h.1);
        restart = λ k d M now first h. let outs = restart_outs hd k (d.inc + 1) d in let v = parts_in k (d.inc + 1) d in
            with_both Known_all LinesFit k outs (UpWith Known_all k v) (UpWith LinesFit k v) d M (g.restart k d M now first h.0)
            (rest_walk k v outs d M (restart_still (IsQuiet plain) (quiet_plain plain parts_plain) hd k (d.inc + 1) d) h.1);
      }

    its_beside : Beside [] hd Between Inner
    its_beside = let k = reached_wide in let b = began_wide in record {
      inner = λ before event early. inner_steps before event early;
      knows = λ before event M h. h.0.0.0.0;
      opens = λ e M first number h. let g = h.0.0.0 in (
        (
          (
            (k.opens e M first number g.0, (b.opens e M first number g.1.0, made_opens (confirms_so hd st) e M first number g.1.1)),
            h.0.0.1,
          ),
          made_opens (old_so st) e M first number h.0.1,
        ),
        h.1,
      );
      enters = λ before event M number first lines i h. let g = h.0.0.0 in
          ((((i, (((i.0.0, g.0), g.1.0), g.1.1)), h.0.0.1), h.0.1), h.1);
      leaves = λ before event bodies M number lines h. let g = h.0.0.0.1 in (
        (
          (
            (
              k.closes bodies M number lines g.0.0.1,
              (b.closes bodies M number lines g.0.1, made_closes (confirms_so hd st) bodies M number lines g.1),
            ),
            h.0.0.1,
          ),
          made_closes (old_so st) bodies M number lines h.0.1,
        ),
        h.1,
      );
      labels = λ M h. let g = h.0.0.0 in (
        (
          (
            (
              (let s = k.steps in s.quiet (body.Limit which.Labels ∷ []) M refl g.0),
              (
                (let s = b.steps in s.quiet (body.Limit which.Labels ∷ []) M refl g.1.0),
                limit_made (confirms_so hd st) M g.1.1,
              ),
            ),
            λ j n t there live. more_had st M.seen.lines (numbered M.past.number (body.Limit which.Labels ∷ [])) t.coord
                (h.0.0.1 j n t there live),
          ),
          limit_made (old_so st) M h.0.1,
        ),
        mute (body.Limit which.Labels ∷ []) M refl h.1,
      );
    }
      where
        limit_made : (S : Saying) (M : Moment) → AnswersAreMade S M → AnswersAreMade S (said (body.Limit which.Labels ∷ []) M)
        limit_made S M h = made_later S M (said (body.Limit which.Labels ∷ []) M) (record {
          more = numbered M.past.number (body.Limit which.Labels ∷ []);
          lines = refl;
          askings = refl;
          sent = λ p i. i;
          full = λ f. f;
        }) (λ j. refl) (λ p i. i) h

    -- ---- runs

    pub lines_fit : (r : Run hd) → r.start ≡ st → AreFit [] (journal_by hd r)
    lines_fit r starts =
        let k = reached_wide in
        let z = moves_stand [] hd Between Inner its_beside (none_fits hd) r.moves (no_history r.start) (world_from hd r.start)
        (first_so [] hd Between Inner its_beside r.start r.formed (
          (
            (
              (
                ([], (λ p i. i), k.first r.start r.formed),
                (([], (λ p i. i), starts), first_made hd (confirms_so hd st) r.start r.formed),
              ),
              subst (λ s. GrantsAreHad s (record { past = no_history r.start; seen = see [] (world_from hd r.start) })) starts
                  (first_had hd r.start),
            ),
            first_made hd (old_so st) r.start r.formed,
          ),
          tt,
        )) in
        let h = z.holds in h.now.holds.1.1

-- a run's lines are early
pub runs_early : (hd : Header) (r : Run hd) → IsInForm hd r → IsEarly (journal_by hd r)
runs_early hd r form = record {
  few = moves_few hd r form.few;
  short = runs_have_few hd r;
  fit = λ x. moves_fit hd x r form.events;
}

-- ---- rows

-- so it is known of a line
abbrev pub IsSo : Header → Start → List Line → Body → Type 0
IsSo hd st before b = Fits hd st before b × IsEarly before

module _ (hd : Header) (st : Start) (So : List Line → Body → Type 0) (test of : Here → Body → Bool)
    (to : (h : Here) (b : Body) → h.header ≡ hd → h.start ≡ st → of h b ≡ true → So h.lines b → test h b ≡ true)
    (lines : List Line) (each : (before : List Line) (line : Line) (behind : List Line) → lines ≡ before ++ line ∷ behind →
    So before line.body) where
  lines_so : (h : Here) (bs : List Body) (more : List Line) → h.header ≡ hd → h.start ≡ st →
      lines ≡ h.lines ++ (numbered h.number bs ++ more) → are_so (tested test of) h bs ≡ true
  lines_so h [] more header starts is = refl
  lines_so h (b ∷ bs) more header starts is =
      λ i. one (of h b) refl i && lines_so (behind h b) bs more header starts
      (is ∙ sym (append_assoc h.lines (record { event = h.number; body = b } ∷ []) (numbered h.number bs ++ more))) i
    where
      one : (x : Bool) → of h b ≡ x → (not x || test h b) ≡ true
      one false other = refl
      one true its = to h b header starts its
          (each h.lines (record { event = h.number; body = b }) (numbered h.number bs ++ more) is)

  along_so : (P : Past → Event → List Body → Type 0) (es : List Event) (p end : Past) (ending : List Line) → p.start ≡ st →
      lines ≡ end.lines ++ ending → Along P p es end → Along (TestedStep test of hd) p es end
  along_so P [] p end ending starts is a = a
  along_so P (e ∷ es) p end ending starts is a =
      let r = more_lines P es (next p e a.0) end a.2 in (
        a.0,
        lines_so (here_at hd p e a.0) a.0 (r.0 ++ ending) refl starts
            (is ∙ ap (λ ls. ls ++ ending) r.1 ∙ append_assoc (p.lines ++ block (p.count + 1) a.0) r.0 ending
            ∙ append_assoc p.lines (block (p.count + 1) a.0) (r.0 ++ ending)),
        along_so P es (next p e a.0) end ending starts is a.2,
      )

  pub rows_so : (P : Past → Event → List Body → Type 0) (es : List Event) → Runs P st es lines → Runs (TestedStep test of hd) st es lines
  rows_so P es r = (r.0, r.1, along_so P es _ r.0 r.1 refl r.3 r.2, r.3, r.4)

pub each_line : (hd : Header) (r : Run hd) → IsInForm hd r → (before : List Line) (line : Line) (behind : List Line) →
    journal_by hd r ≡ before ++ line ∷ behind → IsSo hd r.start before line.body
each_line hd r form before line behind is = (
  lines.fit_at (Fits hd r.start) [] before line behind (subst (AreFit hd r.start []) is (lines_fit hd r.start form.header r refl)),
  early_before before (line ∷ behind) (subst IsEarly is (runs_early hd r form)),
)

listed_cause : (hd : Header) (st : Start) (h : Here) (b : Body) → h.header ≡ hd → h.start ≡ st → is_listed_abort b ≡ true →
    IsSo hd st h.lines b → has_cause h b ≡ true
listed_cause hd st h (body.Aborted l (cause.Listed x s)) header starts its so = so.0 so.1 h header refl
listed_cause hd st h b header starts its so = absurd (cc its)

bare_cause : (hd : Header) (st : Start) (h : Here) (b : Body) → h.header ≡ hd → h.start ≡ st → is_bare_abort b ≡ true →
    IsSo hd st h.lines b → has_cause h b ≡ true
bare_cause hd st h (body.Aborted l (cause.NoStores x)) header starts its so = so.0 so.1 h header refl
bare_cause hd st h b header starts its so = absurd (cc its)

met_cause : (hd : Header) (st : Start) (h : Here) (b : Body) → h.header ≡ hd → h.start ≡ st → is_met_abort b ≡ true →
    IsSo hd st h.lines b → has_cause h b ≡ true
met_cause hd st h (body.Aborted l (cause.Conflict u m n)) header starts its so = so.0 so.1 h header refl
met_cause hd st h b header starts its so = absurd (cc its)

pub listed_row : RowHolds is_listed_abort
listed_row hd r form = rows_so hd r.start (IsSo hd r.start) has_cause (λ h. is_listed_abort) (listed_cause hd r.start) (journal_by hd r)
    (each_line hd r form)
    (FramesStep hd) (run_events hd r) (frames_are_caused hd r form)

pub bare_row : RowHolds is_bare_abort
bare_row hd r form = rows_so hd r.start (IsSo hd r.start) has_cause (λ h. is_bare_abort) (bare_cause hd r.start) (journal_by hd r)
    (each_line hd r form)
    (FramesStep hd) (run_events hd r) (frames_are_caused hd r form)

pub met_row : RowHolds is_met_abort
met_row hd r form = rows_so hd r.start (IsSo hd r.start) has_cause (λ h. is_met_abort) (met_cause hd r.start) (journal_by hd r)
    (each_line hd r form)
    (FramesStep hd) (run_events hd r) (frames_are_caused hd r form)
