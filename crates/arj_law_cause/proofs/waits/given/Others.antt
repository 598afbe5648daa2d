-- No other event names a node that is given up, and a giveup names none but at its beginning.
use Rattle.arj_law_parts.proofs.Words
use Words.{◌≡◌, ◌∙◌, ◌+◌, ◌++◌, ◌&&◌, not, ℕ, Bool, true, false, List, [], ◌∷◌, refl, sym, ap, inl, inr, and_parts}
use Words.{list_all, name, Body, Event, Header, Kind, Label, Option, Some, None}
use Words.body
use Words.cause
use Words.event
use Words.frame
use Words.kind
use Rattle.arj_law_parts.proofs.Terms.which
use Rattle.arj_law_runs.proofs.Terms.{Act}
use Rattle.arj_law_runs.specs.follow.Frames.{are_so}
use Rattle.arj_model.specs.Actions.{act_in, acts}
use Rattle.arj_model.specs.CauseSpans.{Here, here_at}
use Rattle.arj_model.specs.Caused.{has_cause}
use Rattle.arj_model.specs.Own.{AreAborted, Ends, MayMeetLimit, aborted_of, commit_line, may_stand}
use Rattle.arj_model.specs.Past.{Past}
use Rattle.arj_model.specs.Refusals.{frame_no, last_frame}
use Rattle.arj_law_cause.proofs.follow.lines.Saying as saying
use Rattle.arj_law_cause.proofs.follow.lines.Saying.{Goes, Halts, Through}
use Rattle.arj_law_cause.proofs.follow.lines.Steps.{loses}
use Rattle.arj_law_cause.proofs.kinds.Walks.{none_pass}
use Rattle.arj_law_cause.specs.follow.lines.Lines.{BeginsCommitSo, BeginsSo, HasLines, may_stand_or_lose}
use Rattle.arj_law_cause.specs.kinds.Kinds.{is_node_given_up}
use Rattle.arj_law_cause.specs.kinds.Rows.{row}

abbrev pub is_other : Body → Bool
is_other b = not (is_node_given_up b)

abbrev pub Others : List Body → Type 0
Others bs = list_all is_other bs ≡ true

-- what names none passes
pub others_so : (h : Here) (bs : List Body) → Others bs → are_so (row (λ g. is_node_given_up)) h bs ≡ true
others_so h bs none = none_pass has_cause (λ g. is_node_given_up) h bs (λ g. none)

both : (xs ys : List Body) → Others xs → Others ys → Others (xs ++ ys)
both xs ys a b = saying.list_both is_other xs ys a b

one_of : (bs : List Body) (b : Body) → bs ≡ b ∷ [] → is_other b ≡ true → Others bs
one_of bs b is none = ap (list_all is_other) is ∙ (λ i. none i && true)

-- ---- giveups

lost_other : (l : Label) (b : Body) → saying.fits (loses l) b ≡ true → is_other b ≡ true
lost_other l (body.GaveUp m n) is = absurd (cc is)
lost_other l b is = refl

all_lost : (l : Label) (bs : List Body) → list_all (saying.fits (loses l)) bs ≡ true → Others bs
all_lost l [] all = refl
all_lost l (b ∷ bs) all =
    let r = and_parts (saying.fits (loses l) b) (list_all (saying.fits (loses l)) bs) all in λ i. lost_other l b r.0 i && all_lost l bs
    r.1 i

-- behind its own lines
pub goes_other : (l : Label) (k : ℕ) (bs : List Body) → Goes (loses l) k bs → Others bs
goes_other l k bs (Through all) = all_lost l bs all
goes_other l k bs (Halts front all is) = ap (list_all is_other) is ∙ both front (body.Halted k ∷ []) (all_lost l front all) refl

pub limit_other : (last : List Body) → MayMeetLimit last → Others last
limit_other last (inl none) = ap (list_all is_other) none
limit_other last (inr met) = one_of last (body.Limit which.Frames) met refl

-- ---- other events

-- the event is a giveup
abbrev pub is_give_up : Event → Bool
is_give_up (event.GiveUp l) = true
is_give_up e = false

ends_other : (e : Event) (own last : List Body) → Ends e own last → Others last
ends_other event.Quiesce own last (inl quiet) = one_of last (body.Quiet quiet.0) quiet.1 refl
ends_other event.Quiesce own last (inr met) = one_of last (body.Limit which.Frames) met refl
ends_other (event.Junk n bytes) [] last ends = one_of last (body.Limit which.Frames) ends refl
ends_other (event.Junk n bytes) (b ∷ own) last ends = ap (list_all is_other) ends
ends_other (event.Call l x o) own last ends = limit_other last ends
ends_other (event.Include l x n) own last ends = limit_other last ends
ends_other (event.Commit l) own last ends = limit_other last ends
ends_other (event.Abort l) own last ends = limit_other last ends
ends_other (event.GiveUp l) own last ends = limit_other last ends
ends_other (event.Deliver k) own last ends = limit_other last ends
ends_other (event.Tick n) own last ends = limit_other last ends
ends_other event.Settle own last ends = limit_other last ends
ends_other (event.Restart n) own last ends = limit_other last ends
ends_other (event.Begin l n) own last ends = ap (list_all is_other) ends
ends_other (event.Serial l n) own last ends = ap (list_all is_other) ends
ends_other (event.BeginIn l p) own last ends = ap (list_all is_other) ends
ends_other (event.Top l p) own last ends = ap (list_all is_other) ends
ends_other (event.Lose k) own last ends = ap (list_all is_other) ends
ends_other (event.Crash n) own last ends = ap (list_all is_other) ends
ends_other (event.Stop n c k) own last ends = ap (list_all is_other) ends
ends_other (event.Show x) own last ends = ap (list_all is_other) ends

gaveup_never : (e : Event) (l : Label) (n : ℕ) → may_stand e (body.GaveUp l n) ≡ false
gaveup_never (event.Call m x op) l n = refl
gaveup_never e l n = refl

may_other : (e : Event) (b : Body) → may_stand_or_lose e b ≡ true → is_other b ≡ true
may_other e (body.GaveUp l n) may = absurd (cc (sym (gaveup_never e l n) ∙ may))
may_other e b may = refl

all_may : (e : Event) (bs : List Body) → list_all (may_stand_or_lose e) bs ≡ true → Others bs
all_may e [] all = refl
all_may e (b ∷ bs) all =
    let r = and_parts (may_stand_or_lose e b) (list_all (may_stand_or_lose e) bs) all in λ i. may_other e b r.0 i && all_may e bs r.1 i

commit_other : (l : Label) (k : Kind) → is_other (commit_line k l) ≡ true
commit_other l kind.Nested = refl
commit_other l kind.Serial = refl
commit_other l kind.Top = refl
commit_other l kind.Independent = refl
commit_other l kind.Constituent = refl

aborted_other : (xs : List Act) (bs : List Body) → AreAborted xs bs → Others bs
aborted_other [] [] all = refl
aborted_other (a ∷ xs) (body.Aborted l cause.Asked ∷ bs) all = aborted_other xs bs all.1
aborted_other [] (b ∷ bs) all = absurd all
aborted_other (a ∷ xs) [] all = absurd all
aborted_other (a ∷ xs) (b ∷ bs) all = absurd all

module _ (hd : Header) (past : Past) where
  own_other : (e : Event) → is_give_up e ≡ false → (own : List Body) → BeginsSo hd past e own → Others own
  own_other (event.Commit l) off own its = by (act_in (acts past.lines) (name l)) its
    where
      by : (o : Option Act) → BeginsCommitSo l o own → Others own
      by None none = absurd none
      by (Some a) (inl line) = one_of own (commit_line a.kind l) line (commit_other l a.kind)
      by (Some a) (inr doomed) = one_of own (body.Aborted l cause.Doomed) doomed refl
  own_other (event.Abort l) off own its = aborted_other (aborted_of past.lines (act_in (acts past.lines) (name l))) own its
  own_other (event.GiveUp l) off own its = absurd (cc off)
  own_other (event.Begin l n) off own its = ap (list_all is_other) its
  own_other (event.Serial l n) off own its = ap (list_all is_other) its
  own_other (event.BeginIn l p) off own its = ap (list_all is_other) its.2
  own_other (event.Top l p) off own its = ap (list_all is_other) its.2
  own_other (event.Deliver k) off own (inl got) = one_of own (body.Got (frame_no past.lines k)) got refl
  own_other (event.Deliver k) off own (inr void) = one_of own (body.Void (frame_no past.lines k)) void refl
  own_other (event.Lose k) off own its = one_of own (body.Dropped (frame_no past.lines k)) its refl
  own_other (event.Crash n) off own its = one_of own (body.Halted n) its refl
  own_other (event.Restart n) off own (inl up) = one_of own (body.Up n up.0) up.2 refl
  own_other (event.Restart n) off own (inr halted) = one_of own (body.Halted n) halted refl
  own_other (event.Stop n c k) off own its = one_of own (body.Armed n) its refl
  own_other (event.Junk n bytes) off own (inl sent) = one_of own (body.Sent (last_frame past.lines + 1) 0 n frame.Junk) sent refl
  own_other (event.Junk n bytes) off own (inr none) = ap (list_all is_other) none
  own_other (event.Call l x o) off own its = ap (list_all is_other) its
  own_other (event.Include l x n) off own its = ap (list_all is_other) its
  own_other (event.Tick n) off own its = ap (list_all is_other) its
  own_other event.Settle off own its = ap (list_all is_other) its
  own_other event.Quiesce off own its = ap (list_all is_other) its
  own_other (event.Show x) off own its = ap (list_all is_other) its

  -- all lines of an event that isn't one
  pub none_given : (e : Event) (bodies : List Body) → is_give_up e ≡ false → HasLines hd past e bodies → Others bodies
  none_given e bodies off h = ap (list_all is_other) h.parts
      ∙ both h.own (h.others ++ h.last) (own_other e off h.own h.begins)
      (both h.others h.last (all_may e h.others h.only) (ends_other e h.own h.last h.ends))

  pub lines_other : (e : Event) (bodies : List Body) → is_give_up e ≡ false → HasLines hd past e bodies →
      are_so (row (λ g. is_node_given_up)) (here_at hd past e bodies) bodies ≡ true
  lines_other e bodies off h = others_so (here_at hd past e bodies) bodies (none_given e bodies off h)
