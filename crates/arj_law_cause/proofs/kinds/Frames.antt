-- The rows of frames, of stops to come and of halts: so much is known of these lines.
use Rattle.arj_law_parts.proofs.Words
use Words.{◌≡◌, Bool, true, refl, Body, and_parts}
use Words.body
use Rattle.arj_law_runs.proofs.follow.Frames.{frames_are_caused}
use Rattle.arj_law_runs.specs.follow.Frames.{FramesStep, frame_fits, run_events}
use Rattle.arj_model.specs.CauseSpans.{Here, here_at}
use Rattle.arj_promise.specs.Runs.{journal_by}
use Rattle.arj_law_cause.proofs.kinds.Forms.{runs_too, so_too}
use Rattle.arj_law_cause.specs.kinds.Kinds.{is_armed, is_dropped, is_got, is_halted, is_sent, is_void}
use Rattle.arj_law_cause.specs.kinds.Rows.{RowHolds, RowStep, row}

row_by : (of : Body → Bool) → ((h : Here) (b : Body) → frame_fits h b ≡ true → row (λ g. of) h b ≡ true) → RowHolds of
row_by of fits hd r form =
    runs_too (FramesStep hd) (RowStep (λ g. of) hd) (λ p e bs. so_too frame_fits (row (λ g. of)) fits (here_at hd p e bs) bs) r.start
    (run_events hd r)
    (journal_by hd r) (frames_are_caused hd r form)

sent_fits : (h : Here) (b : Body) → frame_fits h b ≡ true → row (λ g. is_sent) h b ≡ true
sent_fits h (body.Sent k from to carried) is = is
sent_fits h b is = refl

got_fits : (h : Here) (b : Body) → frame_fits h b ≡ true → row (λ g. is_got) h b ≡ true
got_fits h (body.Got k) is = is
got_fits h b is = refl

void_fits : (h : Here) (b : Body) → frame_fits h b ≡ true → row (λ g. is_void) h b ≡ true
void_fits h (body.Void k) is = is
void_fits h b is = refl

dropped_fits : (h : Here) (b : Body) → frame_fits h b ≡ true → row (λ g. is_dropped) h b ≡ true
dropped_fits h (body.Dropped k) is = is
dropped_fits h b is = refl

armed_fits : (h : Here) (b : Body) → frame_fits h b ≡ true → row (λ g. is_armed) h b ≡ true
armed_fits h (body.Armed n) is = is
armed_fits h b is = refl

halted_fits : (h : Here) (b : Body) → frame_fits h b ≡ true → row (λ g. is_halted) h b ≡ true
halted_fits h (body.Halted n) is = (and_parts _ _ is).0
halted_fits h b is = refl

pub sent_row : RowHolds is_sent
sent_row = row_by is_sent sent_fits

pub got_row : RowHolds is_got
got_row = row_by is_got got_fits

pub void_row : RowHolds is_void
void_row = row_by is_void void_fits

pub dropped_row : RowHolds is_dropped
dropped_row = row_by is_dropped dropped_fits

pub armed_row : RowHolds is_armed
armed_row = row_by is_armed armed_fits

pub halted_row : RowHolds is_halted
halted_row = row_by is_halted halted_fits
