-- The row of lines that open an event: an action began, a commit was called, a serializing action ended, or the script aborts an action.
-- They are own lines of the event; and by the lines before it who is aborted was open.
use Rattle.arj_law.proofs.Reading.{read_none}
use Rattle.arj_law_parts.proofs.Words
use Words.{◌≡◌, ◌∙◌, ◌++◌, ◌&&◌, ◌||◌, ◌==◌, not, Bool, true, false, List, [], ◌∷◌, length, filter, Option, Some, None, refl, sym, ap, subst}
use Words.{append_assoc, inl, inr, In, cond, and_parts, list_all, is_on, arith, nat_tests, append-nil, Body, Event, Header, Kind, Label, Line}
use Words.{Start, bytes_eq, bytes_eq-Decides, name, is_serial, journal_by}
use Words.body
use Words.event
use Words.kind
use Rattle.arj_journal.specs.declared.body.Cause.TheVariants as cause
use Rattle.arj_law_runs.proofs.Terms.{Act, path, uids, AreDistinct}
use Rattle.arj_law_runs.proofs.follow.Walking.{behind_all}
use Rattle.arj_law_runs.proofs.journal.{Closed.one_act, Models.its_acts, Models.its_end, Models.its_sound, Models.named_in, Models.right_before}
use Rattle.arj_law_runs.proofs.journal.Owners.{acts_more}
use Rattle.arj_law_runs.proofs.journal.Ties.{named_label}
use Rattle.arj_law_runs.specs.follow.Frames.{are_so, run_events}
use Rattle.arj_law_runs.specs.journal.Book.{book, new_book}
use Rattle.arj_law_runs.specs.journal.Right.{AreRight, IsOpen, Right}
use Rattle.arj_model.specs.Actions.{act_in, acts, ended, halt_of, halts, has_end, is_halted, is_over}
use Rattle.arj_model.specs.CauseEnds.{aborts_on}
use Rattle.arj_model.specs.CauseSpans.{Here, behind, here_at}
use Rattle.arj_model.specs.Caused.{has_cause}
use Rattle.arj_model.specs.Follows.{Runs}
use Rattle.arj_model.specs.Own.{AreAborted, AreGiveUps, Ends, aborted_by, aborted_of, commit_line, may_stand}
use Rattle.arj_model.specs.Past.{Along, Past, is_refused, next}
use Rattle.arj_model.specs.Refusals.{holds_of, is_over_act}
use Rattle.arj_law_cause.proofs.follow.lines.Aborts.{on_in}
use Rattle.arj_law_cause.proofs.follow.lines.Events.{lines_follow}
use Rattle.arj_law_cause.proofs.follow.lines.Numbers.{aborted_so, ends_below, in_path}
use Rattle.arj_law_cause.proofs.kinds.Committed.{right_lines}
use Rattle.arj_law_cause.proofs.kinds.Lines.{more_lines, tested_row}
use Rattle.arj_law_cause.proofs.kinds.Walks.{none_pass, so_both}
use Rattle.arj_law_cause.proofs.waits.waiting.Lists.{any_in, found_there}
use Rattle.arj_law_cause.specs.follow.lines.Lines.{BeginsCommitSo, BeginsSo, HasLines, LinesStep, may_stand_or_lose}
use Rattle.arj_law_cause.specs.kinds.Kinds.{is_opening}
use Rattle.arj_law_cause.specs.kinds.Rows.{RowHolds, TestedStep, tested}

-- What the event shows of the line. Of an action that is aborted: the script aborts it or one above it, and its node hasn't halted since
-- it began.
abbrev fits : Here → Body → Bool
fits h (body.Aborted l cause.Asked) =
    aborts_on (path (acts h.lines) (name l)) h.event && holds_of (λ a. not (is_halted (halts h.lines) a)) (act_in (acts h.lines) (name l))
fits h b = has_cause h b

abbrev passes : Here → Body → Bool
passes = tested fits (λ h. is_opening)

abbrev of_opening : Here → Body → Bool
of_opening h = is_opening

-- none of these lines opens an event
abbrev others : List Body → Bool
others bs = list_all (λ b. not (is_opening b)) bs

others_so : (h : Here) (bs : List Body) → others bs ≡ true → are_so passes h bs ≡ true
others_so h bs none = none_pass fits of_opening h bs (λ g. none)

same_name : (l : Label) → bytes_eq (name l) (name l) ≡ true
same_name l = (bytes_eq-Decides (name l) (name l)).1 refl

-- no line that may stand between opens one
began_never : (e : Event) (l : Label) (k : Kind) (u : _) (p : _) → may_stand e (body.Began l k u p) ≡ false
began_never (event.Call m x op) l k u p = refl
began_never e l k u p = refl

committing_never : (e : Event) (l : Label) → may_stand e (body.Committing l) ≡ false
committing_never (event.Call m x op) l = refl
committing_never e l = refl

ended_never : (e : Event) (l : Label) → may_stand e (body.Ended l) ≡ false
ended_never (event.Call m x op) l = refl
ended_never e l = refl

asked_never : (e : Event) (l : Label) → may_stand e (body.Aborted l cause.Asked) ≡ false
asked_never (event.Call m x op) l = refl
asked_never e l = refl

between : (e : Event) (b : Body) → may_stand_or_lose e b ≡ true → not (is_opening b) ≡ true
between e (body.Began l k u p) may = absurd (cc (sym (began_never e l k u p) ∙ may))
between e (body.Committing l) may = absurd (cc (sym (committing_never e l) ∙ may))
between e (body.Ended l) may = absurd (cc (sym (ended_never e l) ∙ may))
between e (body.Aborted l cause.Asked) may = absurd (cc (sym (asked_never e l) ∙ may))
between e b may = refl

all_between : (e : Event) (bs : List Body) → list_all (may_stand_or_lose e) bs ≡ true → others bs ≡ true
all_between e [] may = refl
all_between e (b ∷ bs) may =
    let p = and_parts (may_stand_or_lose e b) (list_all (may_stand_or_lose e) bs) may in
    λ i. between e b p.0 i && all_between e bs p.1 i

-- nor does a line with which an event ends
end_never : (e : Event) (own last : List Body) → Ends e own last → others last ≡ true
end_never event.Quiesce own last (inl q) = ap others q.1
end_never event.Quiesce own last (inr met) = ap others met
end_never (event.Junk n bytes) [] last met = ap others met
end_never (event.Junk n bytes) (b ∷ own) last none = ap others none
end_never (event.Call l x op) own last (inl none) = ap others none
end_never (event.Call l x op) own last (inr met) = ap others met
end_never (event.Include l x n) own last (inl none) = ap others none
end_never (event.Include l x n) own last (inr met) = ap others met
end_never (event.Commit l) own last (inl none) = ap others none
end_never (event.Commit l) own last (inr met) = ap others met
end_never (event.Abort l) own last (inl none) = ap others none
end_never (event.Abort l) own last (inr met) = ap others met
end_never (event.GiveUp l) own last (inl none) = ap others none
end_never (event.GiveUp l) own last (inr met) = ap others met
end_never (event.Deliver k) own last (inl none) = ap others none
end_never (event.Deliver k) own last (inr met) = ap others met
end_never (event.Tick n) own last (inl none) = ap others none
end_never (event.Tick n) own last (inr met) = ap others met
end_never event.Settle own last (inl none) = ap others none
end_never event.Settle own last (inr met) = ap others met
end_never (event.Restart n) own last (inl none) = ap others none
end_never (event.Restart n) own last (inr met) = ap others met
end_never e own last none = ap others none

-- lines of a giveup
giveups_never : (l : Label) (own : List Body) → AreGiveUps l own → others own ≡ true
giveups_never l [] are = absurd are
giveups_never l (body.GaveUp m n ∷ []) are = refl
giveups_never l (body.GaveUp m n ∷ body.GaveUp k i ∷ own) are = giveups_never l (body.GaveUp k i ∷ own) are.2
giveups_never l (body.GaveUp m n ∷ b ∷ own) are = absurd are
giveups_never l (b ∷ own) are = absurd are

-- ---- aborts

-- who is left in a list passes the test
left_in : {A : Type 0} (q : A → Bool) (x : A) (xs : List A) → In x (filter q xs) → In x xs × (q x ≡ true)
left_in q x [] i = absurd i
left_in q x (y ∷ ys) i = by (q y) refl i (left_in q x ys)
  where
    by : (z : Bool) → q y ≡ z → In x (cond z (y ∷ filter q ys) (filter q ys)) → (In x (filter q ys) → In x ys × (q x ≡ true)) →
        In x (y ∷ ys) × (q x ≡ true)
    by true is (inl same) rest = (inl same, ap q (sym same) ∙ is)
    by true is (inr j) rest = let r = rest j in (inr r.0, r.1)
    by false is j rest = let r = rest j in (inr r.0, r.1)

not_true : (b : Bool) → not b ≡ true → b ≡ false
not_true false is = refl
not_true true is = absurd (cc is)

neither : (a b : Bool) → (a || b) ≡ false → b ≡ false
neither false b is = is
neither true b is = absurd (cc is)

module _ (p : Past) (l : Label) (distinct : AreDistinct (acts p.lines)) where
  abbrev begun : List Act
  begun = acts p.lines

  -- what is known of an action that the abort ends
  record Its (a : Act) : Type 0 where
    there : In a begun
    on : aborts_on (path begun a.label) (event.Abort l) ≡ true
    up : is_halted (halts p.lines) a ≡ false

  its_all : (c : Act) → act_in begun (name l) ≡ Some c → (a : Act) → In a (aborted_by p.lines c.id begun) → Its a
  its_all c named a i =
      let c_there : In c begun = named_in begun (name l) c named in
      let r = left_in (ends_below p.lines begun c.uid) a begun
      (subst (In a) (aborted_so p.lines begun distinct c c_there begun distinct (λ b j. j)) i) in
      let parts = and_parts (not (is_over p.lines a)) (is_on (uids (path begun a.label)) c.uid) r.1 in
      let b = on_in (path begun a.label) c.uid parts.1 in
      let same : b.0 ≡ c = one_act begun distinct b.0 c (in_path begun a.label b.0 b.1) c_there b.2 in
      record {
        there = r.0;
        on = any_in (λ (x : Act). bytes_eq x.label (name l)) (path begun a.label) b.0 b.1
            ((bytes_eq-Decides (let x : Act = b.0 in x.label) (name l)).1 (ap (λ (x : Act). x.label) same ∙ named_label begun (name l) c named));
        up = neither (has_end (ended p.lines) a.id) (is_halted (halts p.lines) a) (not_true (is_over p.lines a) parts.0);
      }

  abort_so : (h : Here) → acts h.lines ≡ begun → halts h.lines ≡ halts p.lines → h.event ≡ event.Abort l → (acted : List Act) (own : List Body) →
      AreAborted acted own → ((a : Act) → In a acted → Its a) → are_so passes h own ≡ true
  abort_so h same_acts same_halts its [] [] are each = refl
  abort_so h same_acts same_halts its [] (b ∷ own) are each = absurd are
  abort_so h same_acts same_halts its (a ∷ acted) [] are each = absurd are
  abort_so h same_acts same_halts its (a ∷ acted) (body.Aborted m cause.Asked ∷ own) are each =
      let k = each a (inl refl) in
      λ i. (((λ j. aborts_on (path (same_acts j) (are.0 j)) (its j)) ∙ k.on) i && (found k i)) && abort_so (behind h line)
      (acts_more [] h.lines (record { event = h.number; body = line } ∷ []) ∙ same_acts) (read_none halt_of h.lines (record { event = h.number; body = line }) refl ∙ same_halts) its acted own
      are.1 (λ b j. each b (inr j)) i
    where
      line : Body
      line = body.Aborted m cause.Asked

      found : Its a → holds_of (λ (x : Act). not (is_halted (halts h.lines) x)) (act_in (acts h.lines) (name m)) ≡ true
      found k = (λ j. holds_of (λ (x : Act). not (is_halted (same_halts j) x)) (act_in (same_acts j) (are.0 j)))
          ∙ ap (holds_of (λ (x : Act). not (is_halted (halts p.lines) x))) (found_there begun distinct a k.there)
          ∙ ap not k.up
  abort_so h same_acts same_halts its (a ∷ acted) (b ∷ own) are each = absurd are

-- ---- events

module _ (hd : Header) (p : Past) (bodies : List Body) (distinct : AreDistinct (acts p.lines)) where
  abbrev at : Event → Here
  at e = here_at hd p e bodies

  first_there : (length p.lines == length p.lines) ≡ true
  first_there = grind (arith, nat_tests)

  commit_so : (l : Label) (found : Option Act) → act_in (acts p.lines) (name l) ≡ found → (own : List Body) → BeginsCommitSo l found own →
      are_so passes (at (event.Commit l)) own ≡ true
  commit_so l None there own none = absurd none
  commit_so l (Some a) there own (inr doomed) = others_so (at (event.Commit l)) own (ap others doomed)
  commit_so l (Some a) there own (inl is) = by a.kind refl
    where
      ends : a.kind ≡ kind.Serial → holds_of (λ (b : Act). is_serial b.kind) (act_in (acts p.lines) (name l)) ≡ true
      ends serial = ap (holds_of (λ (b : Act). is_serial b.kind)) there ∙ ap is_serial serial

      called : own ≡ body.Committing l ∷ [] → are_so passes (at (event.Commit l)) own ≡ true
      called line = ap (are_so passes (at (event.Commit l))) line ∙ (λ i. (same_name l i && first_there i) && true)

      by : (k : Kind) → a.kind ≡ k → are_so passes (at (event.Commit l)) own ≡ true
      by kind.Nested k = others_so (at (event.Commit l)) own (ap others (is ∙ ap (λ j. commit_line j l ∷ []) k))
      by kind.Serial k = ap (are_so passes (at (event.Commit l))) (is ∙ ap (λ j. commit_line j l ∷ []) k)
          ∙ (λ i. (same_name l i && ends k i) && true)
      by kind.Top k = called (is ∙ ap (λ j. commit_line j l ∷ []) k)
      by kind.Independent k = called (is ∙ ap (λ j. commit_line j l ∷ []) k)
      by kind.Constituent k = called (is ∙ ap (λ j. commit_line j l ∷ []) k)

  -- an action began
  began_so : (e : Event) (l : Label) (k : Kind) (u : _) (q : _) (own : List Body) → own ≡ body.Began l k u q ∷ [] →
      has_cause (at e) (body.Began l k u q) ≡ true → are_so passes (at e) own ≡ true
  began_so e l k u q own is its = ap (are_so passes (at e)) is ∙ (λ i. its i && true)

  own_so : (e : Event) (own : List Body) → BeginsSo hd p e own → are_so passes (at e) own ≡ true
  own_so (event.Begin l n) own is = began_so (event.Begin l n) l _ _ _ own is (same_name l)
  own_so (event.Serial l n) own is = began_so (event.Serial l n) l _ _ _ own is (same_name l)
  own_so (event.BeginIn l q) own is = began_so (event.BeginIn l q) l _ _ _ own is.2 (same_name l)
  own_so (event.Top l q) own is = began_so (event.Top l q) l _ _ _ own is.2 (same_name l)
  own_so (event.Commit l) own is = commit_so l (act_in (acts p.lines) (name l)) refl own is
  own_so (event.Abort l) own are = by (act_in (acts p.lines) (name l)) refl are
    where
      by : (found : Option Act) → act_in (acts p.lines) (name l) ≡ found → AreAborted (aborted_of p.lines found) own →
          are_so passes (at (event.Abort l)) own ≡ true
      by None named so = abort_so p l distinct (at (event.Abort l)) refl refl refl [] own so (λ a i. absurd i)
      by (Some c) named so = abort_so p l distinct (at (event.Abort l)) refl refl refl (aborted_by p.lines c.id (acts p.lines)) own so
          (its_all p l distinct c named)
  own_so (event.GiveUp l) own are = others_so (at (event.GiveUp l)) own (giveups_never l own are)
  own_so (event.Deliver k) own (inl got) = others_so (at (event.Deliver k)) own (ap others got)
  own_so (event.Deliver k) own (inr void) = others_so (at (event.Deliver k)) own (ap others void)
  own_so (event.Lose k) own is = others_so (at (event.Lose k)) own (ap others is)
  own_so (event.Crash n) own is = others_so (at (event.Crash n)) own (ap others is)
  own_so (event.Restart n) own (inl up) = others_so (at (event.Restart n)) own (ap others up.2)
  own_so (event.Restart n) own (inr halted) = others_so (at (event.Restart n)) own (ap others halted)
  own_so (event.Stop n calls k) own is = others_so (at (event.Stop n calls k)) own (ap others is)
  own_so (event.Junk n bytes) own (inl sent) = others_so (at (event.Junk n bytes)) own (ap others sent)
  own_so (event.Junk n bytes) own (inr none) = others_so (at (event.Junk n bytes)) own (ap others none)
  own_so e own none = others_so (at e) own (ap others none)

  -- the lines of an accepted event
  lines_so : (e : Event) → HasLines hd p e bodies → are_so passes (at e) bodies ≡ true
  lines_so e h = subst (λ bs. are_so passes (at e) bs ≡ true) (sym h.parts)
      (so_both passes (at e) h.own (h.others ++ h.last) (own_so e h.own h.begins)
      (so_both passes (behind_all (at e) h.own) h.others h.last
      (others_so (behind_all (at e) h.own) h.others (all_between e h.others h.only))
      (others_so (behind_all (behind_all (at e) h.own) h.others) h.last (end_never e h.own h.last h.ends))))

  -- and the one of a refused event
  refused_none : (bs : List Body) → is_refused bs ≡ true → others bs ≡ true
  refused_none [] is = absurd (cc is)
  refused_none (body.Refused c ∷ []) is = refl
  refused_none (body.Refused c ∷ b ∷ bs) is = absurd (cc is)
  refused_none (b ∷ bs) is = absurd (cc is)

  opens_step : (e : Event) → LinesStep hd p e bodies → TestedStep fits of_opening hd p e bodies
  opens_step e s = by (is_refused bodies) refl
    where
      by : (b : Bool) → is_refused bodies ≡ b → TestedStep fits of_opening hd p e bodies
      by true is = others_so (at e) bodies (refused_none bodies is)
      by false is = lines_so e (s.lines is)

-- ---- runs

module _ (lines : List Line) (right : AreRight new_book lines) where
  -- so it is of lines that come before others
  front_right : (before rest : List Line) → AreRight new_book (before ++ rest) → AreRight new_book before
  front_right before [] r = subst (AreRight new_book) (append-nil before) r
  front_right before (line ∷ rest) r = (right_before new_book before line rest r).0

  along_known : (hd : Header) (es : List Event) (p end : Past) (ending : List Line) → lines ≡ end.lines ++ ending →
      Along (LinesStep hd) p es end → Along (TestedStep fits of_opening hd) p es end
  along_known hd [] p end ending is a = a
  along_known hd (e ∷ es) p end ending is a =
      let r = more_lines (LinesStep hd) (e ∷ es) p end a in
      let front : AreRight new_book p.lines = front_right p.lines (r.0 ++ ending)
      (subst (AreRight new_book) (is ∙ ap (λ ls. ls ++ ending) r.1 ∙ append_assoc p.lines r.0 ending) right) in
      (a.0, opens_step hd p a.0 (let s = its_sound p.lines front in s.distinct) e a.1, along_known hd es (next p e a.0) end ending is a.2)

  known : (hd : Header) (st : Start) (es : List Event) → Runs (LinesStep hd) st es lines → Runs (TestedStep fits of_opening hd) st es lines
  known hd st es r = (r.0, r.1, along_known hd es _ r.0 r.1 r.3 r.2, r.3, r.4)

-- what is known of a line by the lines before it
record IsRightLine (before : List Line) (b : Body) : Type 0 where
  pub right : AreRight new_book before
  pub its : Right (book before) b

-- who is aborted was open
asked_so : (h : Here) (l : Label) → AreRight new_book h.lines → (a : Act) × IsOpen (book h.lines) l a →
    fits h (body.Aborted l cause.Asked) ≡ true → has_cause h (body.Aborted l cause.Asked) ≡ true
asked_so h l right o is =
    let parts = and_parts (aborts_on (path (acts h.lines) (name l)) h.event)
    (holds_of (λ (x : Act). not (is_halted (halts h.lines) x)) (act_in (acts h.lines) (name l))) is in
    let a : Act = o.0 in
    let opened = o.1 in
    let named : act_in (acts h.lines) (name l) ≡ Some a = ap (λ xs. act_in xs (name l)) (sym (its_acts h.lines right)) ∙ opened.named in
    let unended : has_end (ended h.lines) a.id ≡ false =
    its_end h.lines right a (named_in (acts h.lines) (name l) a named) ∙ opened.unended in
    let up : is_halted (halts h.lines) a ≡ false = not_true (is_halted (halts h.lines) a)
    (ap (holds_of (λ (x : Act). not (is_halted (halts h.lines) x))) (sym named) ∙ parts.1) in
    λ i. not (((ap (is_over_act h.lines) named) ∙ (λ j. unended j || up j)) i) && parts.0 i

to_cause : (h : Here) (b : Body) → is_opening b ≡ true → IsRightLine h.lines b → fits h b ≡ true → has_cause h b ≡ true
to_cause h (body.Aborted l cause.Asked) its k is = asked_so h l k.right k.its is
to_cause h (body.Began l n u p) its k is = is
to_cause h (body.Committing l) its k is = is
to_cause h (body.Ended l) its k is = is
to_cause h b its k is = absurd (cc its)

pub opening_row : RowHolds is_opening
opening_row hd r form =
    let lines = journal_by hd r in
    let right = right_lines hd r in
    tested_row IsRightLine is_opening fits has_cause to_cause lines (λ before line behind is.
    let x = right_before new_book before line behind (subst (AreRight new_book) is right) in record { right = x.0; its = x.1 })
    hd r.start (run_events hd r) (known lines right hd r.start (run_events hd r) (lines_follow hd r form))
