-- What is known of each event of a run: how many frames it sends, its lines, where the limit of frames is met, and that a node is greeted
-- only once a line says that one came up. So few events meet no limit.
use Rattle.arj_law_parts.proofs.Words
use Words.{◌≡◌, ◌∙◌, ◌+◌, ◌||◌, ℕ, Bool, true, false, List, [], ◌∷◌, refl, sym, ap, subst, IfSome, Option, Some}
use Words.{None}
use Words.{Body, Header, Line, Message, Frame, Move, at_place, frame_kind, journal_by, most_frames, moved, world_by}
use Words.body
use Words.message
use Rattle.arj_law_parts.proofs.Terms.which
use Rattle.arj_law_parts.proofs.moves.{Happens.keeps_asked, Moving.moves_asked, Places.all_placed}
use Rattle.arj_law_parts.specs.moves.Keeps.{IsSent}
use Rattle.arj_law_runs.proofs.Terms.{Holds}
use Rattle.arj_law_runs.proofs.follow.Along.{event_of}
use Rattle.arj_law_runs.proofs.follow.Telling.{frame_test}
use Rattle.arj_law_runs.specs.follow.Frames.{run_events}
use Rattle.arj_model.specs.Follows.{Runs, is_frame_limit, is_limited}
use Rattle.arj_model.specs.Past.{Past, next}
use Rattle.arj_model.specs.Refusals.{last_frame}
use Rattle.arj_promise.specs.Runs.{HeaderFits, IsInForm, Run}
use Rattle.arj_law_cause.proofs.kinds.Up.{up_row}
use Rattle.arj_law_cause.proofs.quiesces.Answered.{Kept}
use Rattle.arj_law_cause.proofs.quiesces.Framed.{sends_few}
use Rattle.arj_law_cause.proofs.quiesces.Limits.{over_full}
use Rattle.arj_law_cause.proofs.quiesces.Ties as ties
use Rattle.arj_law_cause.proofs.quiesces.Walked as walked
use Rattle.arj_law_cause.proofs.sending.Fits.{LightStep, few_fit, has_up}
use Rattle.arj_law_cause.proofs.sending.Greeted.{GreetsUp, greeted_keep, greets}
use Rattle.arj_law_cause.proofs.told.Joined as joined
use Rattle.arj_law_cause.specs.kinds.Kinds.{is_limit}
use Rattle.arj_law_cause.specs.rounds.Fits.{LightFit}
use Rattle.arj_law_cause.specs.rounds.Known.{has_limit}
use Rattle.arj_law_cause.specs.rounds.Sends.{carries, is_hello}

limit_of : (lines : List Line) → is_limited lines ≡ true → has_limit lines ≡ true
limit_of [] is = absurd (cc is)
limit_of (l ∷ lines) is = by (is_frame_limit l.body) refl is (limit_of lines)
  where
    either : (a b : Bool) → b ≡ true → a || b ≡ true
    either true b is = refl
    either false b is = is

    frames : (b : Body) → is_frame_limit b ≡ true → is_limit b ≡ true
    frames (body.Limit which.Frames) is = refl
    frames b is = absurd (cc is)

    by : (b : Bool) → is_frame_limit l.body ≡ b → b || is_limited lines ≡ true → (is_limited lines ≡ true → has_limit lines ≡ true) →
        is_limit l.body || has_limit lines ≡ true
    by true here is rest = λ i. frames l.body here i || has_limit lines
    by false none is rest = either (is_limit l.body) (has_limit lines) (rest is)

module _ (hd : Header) (form : HeaderFits hd) (front : Run hd) (m : Move) (p : Past) (bodies : List Body)
    (s : Kept hd form p (world_by hd front)) (on : (let w = world_by hd front in w.over) ≡ false)
    (step : joined.Said hd form p (event_of m) bodies) (after : Kept hd form (next p (event_of m) bodies) (moved m
    (world_by hd front))) where
  abbrev q : Past
  q = next p (event_of m) bodies

  -- the limit is met at so many frames
  pub full : is_limited (next p (event_of m) bodies).lines ≡ true → last_frame (next p (event_of m) bodies).lines ≡ most_frames
  full limited =
      let t = ties.told hd form p (world_by hd front) s.all in
      let base = ties.base hd form p (world_by hd front) s.all in
      let v = ties.told hd form q (moved m (world_by hd front)) after.all in
      let same = ties.same_lines hd form q (moved m (world_by hd front)) after.all in
      let over : (moved m (world_by hd front)).over ≡ true = after.limits ∙ ap has_limit (sym same) ∙ limit_of q.lines limited in
      let count : (moved m (world_by hd front)).event ≡ (let w = world_by hd front in w.event) + 1 =
      sym (joined.count_is hd form q (moved m (world_by hd front)) after.all)
      ∙ ap (λ n. n + 1) (joined.count_is hd form p (world_by hd front) s.all) in
      v.tells.last ∙ over_full m (world_by hd front) on (record {
        few = t.few;
        full = λ full. let no_way : true ≡ false = sym full ∙ base.full on in absurd (cc no_way);
      }) (sym s.limits ∙ on) over count

  -- a node is greeted only where one came up
  hello : (k : ℕ) → carries is_hello p.lines k ≡ true → has_up p.lines ≡ true
  hello k is =
      let t = ties.told hd form p (world_by hd front) s.all in
      let h : Holds hd GreetsUp (world_by hd front) = moves_asked hd GreetsUp (keeps_asked hd GreetsUp (greeted_keep hd)) front in
      ap has_up t.lines ∙ by h (has_up (let w = world_by hd front in w.lines)) refl
      (at_place k (let w = world_by hd front in w.frames)) refl (sym (t.tells.frames (λ from to what. is_hello what) k) ∙ is)
    where
      its : (x : Message) → is_hello (frame_kind x) ≡ true → greets x ≡ true
      its (message.Hello x) is = refl
      its x is = absurd (cc is)

      carried : (h : Holds hd GreetsUp (world_by hd front)) → has_up (let w = world_by hd front in w.lines) ≡ false → (f : Frame) →
          IsSent h.sent f → (o : Option Message) → f.message ≡ o → is_hello (Rattle.arj_law_runs.proofs.follow.Telling.carried_by o) ≡ true
          → has_up (let w = world_by hd front in w.lines) ≡ true
      carried h none f sent None what is = absurd (cc is)
      carried h none f sent (Some x) what is =
          let no_way : true ≡ false = sym (its x is) ∙ h.holds none (record { from = f.from; to = f.to; message = x })
          (subst (λ o. IfSome o (λ y. Rattle.arj_law_parts.specs.moves.Seen.In
          (record { from = f.from; to = f.to; message = y }) h.sent)) what sent) in
          absurd (cc no_way)

      by : (h : Holds hd GreetsUp (world_by hd front)) → (b : Bool) → has_up (let w = world_by hd front in w.lines) ≡ b →
          (o : Option Frame) →
          at_place k (let w = world_by hd front in w.frames) ≡ o → frame_test (λ from to what. is_hello what) o ≡ true →
          has_up (let w = world_by hd front in w.lines) ≡ true
      by h true up o there is = up
      by h false none None there is = absurd (cc is)
      by h false none (Some f) there is = carried h none f
          (all_placed (IsSent h.sent) k f (let w = world_by hd front in w.frames) h.stands.frames there) f.message refl is

  light : LightStep hd p (event_of m) bodies
  light = record {
    sends = sends_few hd form front m p bodies s after;
    lines = step.1.0.0.0;
    full = full;
    hello = hello;
  }

runs_light : (hd : Header) (r : Run hd) → IsInForm hd r → Runs (LightStep hd) r.start (run_events hd r) (journal_by hd r)
runs_light hd r its = walked.runs_so hd its.header (LightStep hd)
    (λ front m p bodies few s on step after. light hd its.header front m p bodies s on step after) r its

-- few events meet no limit of frames, where no node is greeted
pub light_fit : (hd : Header) (r : Run hd) → IsInForm hd r → LightFit (run_events hd r) (journal_by hd r)
light_fit hd r its = few_fit hd its.header r.start (run_events hd r) (journal_by hd r) (up_row hd r its) (runs_light hd r its)
