-- Which events begin an action, and that actions so stay in turn.
use Rattle.arj_law_parts.proofs.Words
use Words.{◌≡◌, ◌∙◌, ◌+◌, ◌&&◌, ◌++◌, ℕ, Bool, true, false, List, [], ◌∷◌, refl, sym, ap, subst, inl, inr, Option, Some, None, cond}
use Words.{list_all, and_parts, append_assoc, append-nil, map-append, Body, Event, Header, Label, Kind, Line, Uid, name}
use Words.body
use Words.cause
use Words.event
use Words.frame
use Words.kind
use Rattle.arj_law_runs.proofs.Terms.{Act, acts}
use Rattle.arj_law_runs.proofs.Terms.which
use Rattle.arj_law_runs.proofs.journal.Owners.{acts_more}
use Rattle.arj_law_cause.proofs.follow.lines.Numbers.{AreInTurn}
use Rattle.arj_law_cause.proofs.follow.lines.Saying
use Saying.{list_both}
use Rattle.arj_law_cause.specs.follow.lines.Lines.{BeginsCommitSo, BeginsSo, HasLines, may_stand_or_lose}
use Rattle.arj_model.specs.Actions.{act_in, begun_of}
use Rattle.arj_model.specs.Actions as model
use Rattle.arj_model.specs.Own.{AreAborted, AreGiveUps, Ends, MayMeetLimit, aborted_of, commit_line}
use Rattle.arj_model.specs.Past.{Past, block}
use Rattle.arj_model.specs.Refusals.{frame_no, is_serializing, last_frame}
use Rattle.arj_model.specs.Refusals as model_refusals

-- no action begins in the line
abbrev pub begins_none : Body → Bool
begins_none (body.Began l k u p) = false
begins_none b = true

begun_none : (b : Body) → begins_none b ≡ true → begun_of b ≡ None
begun_none (body.Began l k u p) is = absurd (cc is)
begun_none b is = refl

acts_on : (n : ℕ) (b : Body) (ls : List Line) → acts (ls ++ record { event = n; body = b } ∷ []) ≡ model.acts_after (acts ls) b
acts_on n b ls = acts_more [] ls (record { event = n; body = b } ∷ [])

pub acts_same : (n : ℕ) (bs : List Body) (ls : List Line) → list_all begins_none bs ≡ true → acts (ls ++ block n bs) ≡ acts ls
acts_same n [] ls all = ap acts (append-nil ls)
acts_same n (b ∷ bs) ls all =
    let r = and_parts (begins_none b) (list_all begins_none bs) all in
    ap acts (sym (append_assoc ls (record { event = n; body = b } ∷ []) (block n bs)))
    ∙ acts_same n bs (ls ++ record { event = n; body = b } ∷ []) r.1 ∙ acts_on n b ls ∙ ap (model.numbered (acts ls)) (begun_none b r.0)

-- the event begins an action
abbrev pub begins_one : Event → Bool
begins_one (event.Begin l n) = true
begins_one (event.Serial l n) = true
begins_one (event.BeginIn l p) = true
begins_one (event.Top l p) = true
begins_one e = false

never : (e : Event) (l : Label) (k : Kind) (u : Uid) (p : Option Label) → may_stand_or_lose e (body.Began l k u p) ≡ false
never (event.Begin m n) l k u p = refl
never (event.Tick n) l k u p = refl
never e l k u p = refl

may_none : (e : Event) (b : Body) → may_stand_or_lose e b ≡ true → begins_none b ≡ true
may_none e (body.Began l k u p) is = absurd (cc (sym is ∙ never e l k u p))
may_none e b is = refl

all_may : (e : Event) (bs : List Body) → list_all (may_stand_or_lose e) bs ≡ true → list_all begins_none bs ≡ true
all_may e [] all = refl
all_may e (b ∷ bs) all =
    let r = and_parts (may_stand_or_lose e b) (list_all (may_stand_or_lose e) bs) all in λ i. may_none e b r.0 i && all_may e bs r.1 i

one_of : (bs : List Body) (b : Body) → bs ≡ b ∷ [] → begins_none b ≡ true → list_all begins_none bs ≡ true
one_of bs b is none = ap (list_all begins_none) is ∙ (λ i. none i && true)

limit_none : (last : List Body) → MayMeetLimit last → list_all begins_none last ≡ true
limit_none last (inl none) = ap (list_all begins_none) none
limit_none last (inr met) = one_of last (body.Limit which.Frames) met refl

ends_none : (e : Event) (own last : List Body) → Ends e own last → list_all begins_none last ≡ true
ends_none event.Quiesce own last (inl quiet) = one_of last (body.Quiet quiet.0) quiet.1 refl
ends_none event.Quiesce own last (inr met) = one_of last (body.Limit which.Frames) met refl
ends_none (event.Junk n bytes) [] last ends = one_of last (body.Limit which.Frames) ends refl
ends_none (event.Junk n bytes) (b ∷ own) last ends = ap (list_all begins_none) ends
ends_none (event.Call l x o) own last ends = limit_none last ends
ends_none (event.Include l x n) own last ends = limit_none last ends
ends_none (event.Commit l) own last ends = limit_none last ends
ends_none (event.Abort l) own last ends = limit_none last ends
ends_none (event.GiveUp l) own last ends = limit_none last ends
ends_none (event.Deliver k) own last ends = limit_none last ends
ends_none (event.Tick n) own last ends = limit_none last ends
ends_none event.Settle own last ends = limit_none last ends
ends_none (event.Restart n) own last ends = limit_none last ends
ends_none (event.Begin l n) own last ends = ap (list_all begins_none) ends
ends_none (event.Serial l n) own last ends = ap (list_all begins_none) ends
ends_none (event.BeginIn l p) own last ends = ap (list_all begins_none) ends
ends_none (event.Top l p) own last ends = ap (list_all begins_none) ends
ends_none (event.Lose k) own last ends = ap (list_all begins_none) ends
ends_none (event.Crash n) own last ends = ap (list_all begins_none) ends
ends_none (event.Stop n c k) own last ends = ap (list_all begins_none) ends
ends_none (event.Show x) own last ends = ap (list_all begins_none) ends

commit_none : (l : Label) (k : Kind) → begins_none (commit_line k l) ≡ true
commit_none l kind.Nested = refl
commit_none l kind.Serial = refl
commit_none l kind.Top = refl
commit_none l kind.Independent = refl
commit_none l kind.Constituent = refl

aborted_none : (xs : List Act) (bs : List Body) → AreAborted xs bs → list_all begins_none bs ≡ true
aborted_none [] [] all = refl
aborted_none (a ∷ xs) (body.Aborted l cause.Asked ∷ bs) all = aborted_none xs bs all.1
aborted_none [] (b ∷ bs) all = absurd all
aborted_none (a ∷ xs) [] all = absurd all
aborted_none (a ∷ xs) (b ∷ bs) all = absurd all

given_none : (l : Label) (bs : List Body) → AreGiveUps l bs → list_all begins_none bs ≡ true
given_none l [] its = absurd its
given_none l (body.GaveUp m n ∷ []) its = refl
given_none l (body.GaveUp m n ∷ body.GaveUp j i ∷ bs) its = given_none l (body.GaveUp j i ∷ bs) its.2
given_none l bs its = absurd its

module _ (hd : Header) (past : Past) where
  own_none : (e : Event) → begins_one e ≡ false → (own : List Body) → BeginsSo hd past e own → list_all begins_none own ≡ true
  own_none (event.Commit l) off own its = by (act_in (acts past.lines) (name l)) its
    where
      by : (o : Option Act) → BeginsCommitSo l o own → list_all begins_none own ≡ true
      by None none = absurd none
      by (Some a) (inl line) = one_of own (commit_line a.kind l) line (commit_none l a.kind)
      by (Some a) (inr doomed) = one_of own (body.Aborted l cause.Doomed) doomed refl
  own_none (event.Abort l) off own its = aborted_none (aborted_of past.lines (act_in (acts past.lines) (name l))) own its
  own_none (event.GiveUp l) off own its = given_none l own its
  own_none (event.Deliver k) off own (inl got) = one_of own (body.Got (frame_no past.lines k)) got refl
  own_none (event.Deliver k) off own (inr void) = one_of own (body.Void (frame_no past.lines k)) void refl
  own_none (event.Lose k) off own its = one_of own (body.Dropped (frame_no past.lines k)) its refl
  own_none (event.Crash n) off own its = one_of own (body.Halted n) its refl
  own_none (event.Restart n) off own (inl up) = one_of own (body.Up n up.0) up.2 refl
  own_none (event.Restart n) off own (inr halted) = one_of own (body.Halted n) halted refl
  own_none (event.Stop n c k) off own its = one_of own (body.Armed n) its refl
  own_none (event.Junk n bytes) off own (inl sent) = one_of own (body.Sent (last_frame past.lines + 1) 0 n frame.Junk) sent refl
  own_none (event.Junk n bytes) off own (inr none) = ap (list_all begins_none) none
  own_none (event.Call l x o) off own its = ap (list_all begins_none) its
  own_none (event.Include l x n) off own its = ap (list_all begins_none) its
  own_none (event.Tick n) off own its = ap (list_all begins_none) its
  own_none event.Settle off own its = ap (list_all begins_none) its
  own_none event.Quiesce off own its = ap (list_all begins_none) its
  own_none (event.Show x) off own its = ap (list_all begins_none) its
  own_none e off own its = absurd (cc off)

  -- an accepted event that begins no action has no such line
  pub lines_none : (e : Event) (bodies : List Body) → begins_one e ≡ false → HasLines hd past e bodies → list_all begins_none bodies ≡ true
  lines_none e bodies off h =
      ap (list_all begins_none) h.parts
      ∙ list_both begins_none h.own (h.others ++ h.last) (own_none e off h.own h.begins)
      (list_both begins_none h.others h.last (all_may e h.others h.only) (ends_none e h.own h.last h.ends))

  -- own lines, with which an action begins or none
  own_turn : (e : Event) (own : List Body) → BeginsSo hd past e own → AreInTurn (acts past.lines) →
      AreInTurn (acts (past.lines ++ block (past.count + 1) own))
  own_turn e own its turn = by (begins_one e) refl
    where
      began : (l : Label) (k : Kind) (n : ℕ) (p : Option Label) →
          own ≡ body.Began l k (model_refusals.next_uid past.start past.lines n) p ∷ [] →
          AreInTurn (acts (past.lines ++ block (past.count + 1) own))
      began l k n p is = subst (λ bs. AreInTurn (acts (past.lines ++ block (past.count + 1) bs))) (sym is)
          (subst AreInTurn (sym (acts_on (past.count + 1) (body.Began l k (model_refusals.next_uid past.start past.lines n) p) past.lines))
          (refl, turn))

      kinds : (e : Event) → begins_one e ≡ true → BeginsSo hd past e own → AreInTurn (acts (past.lines ++ block (past.count + 1) own))
      kinds (event.Begin l n) one its = began l kind.Top n None its
      kinds (event.Serial l n) one its = began l kind.Serial n None its
      kinds (event.BeginIn l p) one its = began l (cond (is_serializing past.lines (name p)) kind.Constituent kind.Nested) its.0
          (Some p) its.2
      kinds (event.Top l p) one its = began l kind.Independent its.0 (Some p) its.2
      kinds e one its = absurd (cc one)

      by : (z : Bool) → begins_one e ≡ z → AreInTurn (acts (past.lines ++ block (past.count + 1) own))
      by true one = kinds e one its
      by false off = subst AreInTurn (sym (acts_same (past.count + 1) own past.lines (own_none e off own its))) turn

  -- actions stay in turn
  pub turn_next : (e : Event) (bodies : List Body) → HasLines hd past e bodies → AreInTurn (acts past.lines) →
      AreInTurn (acts (past.lines ++ block (past.count + 1) bodies))
  turn_next e bodies h turn =
      let n = past.count + 1 in
      let rest = h.others ++ h.last in
      let none : list_all begins_none rest ≡ true = list_both begins_none h.others h.last (all_may e h.others h.only)
      (ends_none e h.own h.last h.ends) in
      subst (λ bs. AreInTurn (acts (past.lines ++ block n bs))) (sym h.parts)
      (subst (λ ls. AreInTurn (acts ls)) (append_assoc past.lines (block n h.own) (block n rest)
      ∙ ap (λ ls. past.lines ++ ls) (sym (map-append (λ (b : Body). record { event = n; body = b }) h.own rest)))
      (subst AreInTurn (sym (acts_same n rest (past.lines ++ block n h.own) none)) (own_turn e h.own h.begins turn)))

-- lines with which no action begins
pub turn_same : (past : Past) (bodies : List Body) → list_all begins_none bodies ≡ true → AreInTurn (acts past.lines) →
    AreInTurn (acts (past.lines ++ block (past.count + 1) bodies))
turn_same past bodies none turn = subst AreInTurn (sym (acts_same (past.count + 1) bodies past.lines none)) turn
