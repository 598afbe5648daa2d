-- Lines of a giveup have their causes, where by the journal before them each node is one that the action may wait for.
use Rattle.arj_law.proofs.Reading.{read-append}
use Rattle.arj_law_parts.proofs.Words
use Words.{◌≡◌, ◌∙◌, ◌+◌, ◌<◌, ◌≤◌, ◌++◌, ◌==◌, ◌&&◌, ◌||◌, not, ℕ, Bool, true, false, if◌then◌else◌, List, [], ◌∷◌, map, length}
use Words.{append_assoc, append-nil, find, list_all, list_any, nat_lt, Option, Some, None, option_map, refl, sym, ap, subst, arith}
use Words.{nat_tests}
use Words.{AllByRecursion, In, inl, inr, bytes_eq, Body, Label, Line, name, numbered, or_right}
use Words.body
use Words.frame
use Rattle.std.specs.Prelude.{drop}
use Rattle.std.proofs.Math.Seq.{drop-append_seam}
use Rattle.arj_journal.specs.declared.body.FrameKind.{FrameKind}
use Rattle.arj_law_lock_view.proofs.asking.Tying.{NoReplies, answers_stay}
use Rattle.arj_law_parts.proofs.parts.Numbered.{AreUp}
use Rattle.arj_law_runs.proofs.Terms.{Act}
use Rattle.arj_law_runs.proofs.journal.Owners.{acts_more}
use Rattle.arj_law_runs.specs.follow.Frames.{are_so}
use Rattle.arj_model.specs.Actions.{Placed, act_in, acts, acts_from, ended, ended_of, halt_of, halts, has_end, is_halted, put, read, top_in}
use Rattle.arj_model.specs.Calls.{committing_of, committings}
use Rattle.arj_model.specs.CauseAnswers.{gives_up}
use Rattle.arj_model.specs.CauseEnds.{gaveup_caused, is_below, may_wait_for, was_asked}
use Rattle.arj_model.specs.CauseSpans.{Here, asking, behind, commit_here, holds_in, is_frame, of_event, was_sent}
use Rattle.arj_model.specs.Past.{Asked}
use Rattle.arj_model.specs.Refusals.{asks_by, last_asked, has_ended, holds_of, is_committing, is_over_act, unanswered, was_called}
use Rattle.arj_law_cause.proofs.waits.doomed.Giving.{in_drop}
use Rattle.arj_law_cause.proofs.waits.waiting.Lists.{any_in}
use Rattle.arj_law_cause.specs.kinds.Kinds.{is_node_given_up}
use Rattle.arj_law_cause.specs.kinds.Rows.{row}

-- ---- what lines of a giveup leave

-- a giveup says these lines
abbrev pub gave : Label → List ℕ → List Body
gave l ns = map (λ (n : ℕ). body.GaveUp l n) ns

gave_more : (l : Label) (ms ns : List ℕ) → gave l (ms ++ ns) ≡ gave l ms ++ gave l ns
gave_more l [] ns = refl
gave_more l (m ∷ ms) ns = ap (λ (bs : List Body). body.GaveUp l m ∷ bs) (gave_more l ms ns)

module _ (i : ℕ) (l : Label) where
  none_read : {A : Type 0} (f : List Act → Body → Option A) → ((us : List Act) (n : ℕ) → f us (body.GaveUp l n) ≡ None) →
      (us : List Act) (j : ℕ) (ns : List ℕ) → read f us j (numbered i (gave l ns)) ≡ []
  none_read f never us j [] = refl
  none_read f never us j (n ∷ ns) =
      (λ k. put j (never us n k) (read f us (j + 1) (numbered i (gave l ns)))) ∙ none_read f never us (j + 1) ns

  same_read : {A : Type 0} (f : List Act → Body → Option A) → ((us : List Act) (n : ℕ) → f us (body.GaveUp l n) ≡ None) →
      (ls : List Line) (ns : List ℕ) → read f [] 0 (ls ++ numbered i (gave l ns)) ≡ read f [] 0 ls
  same_read f never ls ns = read-append f [] 0 ls (numbered i (gave l ns))
      ∙ ap (λ xs. read f [] 0 ls ++ xs) (none_read f never (acts_from [] ls) (0 + length ls) ns) ∙ append-nil (read f [] 0 ls)

  same_from : (us : List Act) (ns : List ℕ) → acts_from us (numbered i (gave l ns)) ≡ us
  same_from us [] = refl
  same_from us (n ∷ ns) = same_from us ns

  no_replies : (ns : List ℕ) → NoReplies (gave l ns)
  no_replies [] = tt
  no_replies (n ∷ ns) = (refl, no_replies ns)

  module _ (ls : List Line) (ns : List ℕ) where
    abbrev now : List Line
    now = ls ++ numbered i (gave l ns)

    same_acts : acts now ≡ acts ls
    same_acts = acts_more [] ls (numbered i (gave l ns)) ∙ same_from (acts ls) ns

    same_calls : committings now ≡ committings ls
    same_calls = same_read committing_of (λ us n. refl) ls ns

    same_ends : ended now ≡ ended ls
    same_ends = same_read ended_of (λ us n. refl) ls ns

    same_halts : halts now ≡ halts ls
    same_halts = same_read halt_of (λ us n. refl) ls ns

    same_over : (o : Option Act) → is_over_act now o ≡ is_over_act ls o
    same_over None = refl
    same_over (Some a) = λ k. has_end (same_ends k) a.id || is_halted (same_halts k) a

    same_ended : (m : List ℕ) → has_ended now m ≡ has_ended ls m
    same_ended m = (λ k. is_over_act now (act_in (same_acts k) m)) ∙ same_over (act_in (acts ls) m)

    same_under : (m : List ℕ) → is_committing now m ≡ is_committing ls m
    same_under m = (λ k. holds_of (λ a. was_called (same_calls k) a.id && not (has_end (same_ends k) a.id || is_halted (same_halts k) a))
        (act_in (same_acts k) m))

    same_unanswered : (accepted : List Asked) (m : List ℕ) → unanswered accepted now m ≡ unanswered accepted ls m
    same_unanswered accepted m = λ k. if nat_lt (length (answers_stay ls i (gave l ns) m (no_replies ns) k)) (length (asks_by accepted m))
        then last_asked (asks_by accepted m) else None

-- ---- whom an action may wait for

-- such a frame was sent behind this place
pub record IsSince (ls : List Line) (at from to : ℕ) (kinds : List FrameKind) : Type 0 where
  pub before : List Line
  pub line : Line
  pub after : List Line
  pub are : ls ≡ before ++ line ∷ after
  pub low : at ≤ length before
  pub says : is_frame from to kinds line.body ≡ true

-- the frames by which calls and includes ask, and commits
abbrev pub of_calls : List FrameKind
of_calls = frame.Bind ∷ frame.Load ∷ frame.Activate ∷ frame.Record ∷ frame.Invoke ∷ []

abbrev pub of_commits : List FrameKind
of_commits = frame.Vote ∷ frame.Prepare ∷ frame.Confirm ∷ []

-- the place where the commit of the action with this label was called, by these calls
abbrev pub call_place : List (Placed (List Act)) → List ℕ → Option ℕ
call_place calls l = option_map (λ (m : Placed (List Act)). m.at)
    (find (λ (m : Placed (List Act)). holds_of (λ top. bytes_eq top.label l) (top_in m.it)) calls)

-- By these lines the action may wait for the node: it is its own, or was asked for what the action waits for.
pub data MayWait (accepted : List Asked) (ls : List Line) (l : List ℕ) (a : Act) (n : ℕ) : Type 0 where
  Own : n ≡ (let u = a.uid in u.node) → MayWait accepted ls l a n
  Calls : (k : Asked) → has_ended ls l ≡ false → unanswered accepted ls l ≡ Some k → IsSince ls k.at (let u = a.uid in u.node) n of_calls →
      MayWait accepted ls l a n
  Commits : (c : ℕ) → is_committing ls l ≡ true → call_place (committings ls) l ≡ Some c →
      IsSince ls c (let u = a.uid in u.node) n of_commits → MayWait accepted ls l a n

-- ---- lines

-- those nodes are below this one
all_below : (ms : List ℕ) (n : ℕ) (ns : List ℕ) → AreUp (ms ++ n ∷ ns) → (i : ℕ) (l : Label) →
    list_all (λ (line : Line). is_below n line.body) (numbered i (gave l ms)) ≡ true
all_below [] n ns up i l = refl
all_below (m ∷ ms) n ns up i l = λ j. low (within ms up.0) j && all_below ms n ns up.1 i l j
  where
    low : m < n → nat_lt m n ≡ true
    low less = grind (arith, nat_tests, less)

    within : (js : List ℕ) → AllByRecursion (λ (k : ℕ). m < k) (js ++ n ∷ ns) → m < n
    within [] all = all.0
    within (j ∷ js) all = within js all.1

module _ (accepted : List Asked) (ls : List Line) (l : Label) (a : Act) (named : act_in (acts ls) (name l) ≡ Some a) where
  module _ (h : Here) (asked : h.accepted ≡ accepted) (ns : List ℕ) (lines : h.lines ≡ ls ++ numbered h.number (gave l ns)) where
    sent_so : (at n : ℕ) (kinds : List FrameKind) → IsSince ls at (let u = a.uid in u.node) n kinds →
        list_any (λ (line : Line). is_frame (let u = a.uid in u.node) n kinds line.body) (drop at h.lines) ≡ true
    sent_so at n kinds s =
        any_in (λ (line : Line). is_frame (let u = a.uid in u.node) n kinds line.body) (drop at h.lines) s.line
        (subst (λ xs. In s.line (drop at xs))
        (sym (lines ∙ ap (λ xs. xs ++ numbered h.number (gave l ns)) s.are
        ∙ append_assoc s.before (s.line ∷ s.after) (numbered h.number (gave l ns))))
        (in_drop at s.before s.line (s.after ++ numbered h.number (gave l ns)) s.low)) s.says

    may_wait : (n : ℕ) → MayWait accepted ls (name l) a n → may_wait_for h (name l) n a ≡ true
    may_wait n (Own is) = same (let u = a.uid in u.node) is
      where
        same : (m : ℕ) → n ≡ m → ((n == m) || was_asked h (name l) n a) ≡ true
        same m e = λ i. it e i || was_asked h (name l) n a
          where
            it : n ≡ m → (n == m) ≡ true
            it e = grind (arith, nat_tests, e)
    may_wait n (Calls k opened one since) = or_right (n == (let u = a.uid in u.node)) (was_asked h (name l) n a)
        (first (holds_in (λ c. was_sent h c (let u = a.uid in u.node) n of_commits) (commit_here h (name l)))
        (ap (holds_in (λ (q : Asked). was_sent h q.at (let u = a.uid in u.node) n of_calls)) found
        ∙ sent_so k.at n of_calls since))
      where
        first : {x : Bool} (y : Bool) → x ≡ true → (x || y) ≡ true
        first y is = λ i. is i || y

        found : asking h (name l) ≡ Some k
        found = (λ i. if has_ended (lines i) (name l) then None else unanswered (asked i) (lines i) (name l))
            ∙ (λ i. if same_ended h.number l ls ns (name l) i then None else same_unanswered h.number l ls ns accepted (name l) i)
            ∙ (λ i. if opened i then None else one i)
    may_wait n (Commits c under called since) = or_right (n == (let u = a.uid in u.node)) (was_asked h (name l) n a)
        (or_right (holds_in (λ (q : Asked). was_sent h q.at (let u = a.uid in u.node) n of_calls)
        (asking h (name l)))
        (holds_in (λ d. was_sent h d (let u = a.uid in u.node) n of_commits) (commit_here h (name l)))
        (ap (holds_in (λ d. was_sent h d (let u = a.uid in u.node) n of_commits)) found
        ∙ sent_so c n of_commits since))
      where
        found : commit_here h (name l) ≡ Some c
        found = (λ i. if is_committing (lines i) (name l) then call_place (committings (lines i)) (name l) else None)
            ∙ (λ i. if same_under h.number l ls ns (name l) i then call_place (same_calls h.number l ls ns i) (name l) else None)
            ∙ (λ i. if under i then called i else None)

    -- one line
    line_so : (n : ℕ) (more : List ℕ) → h.first ≡ length ls → gives_up (name l) h.event ≡ true → AreUp (ns ++ n ∷ more) →
        MayWait accepted ls (name l) a n → gaveup_caused h (name l) n ≡ true
    line_so n more first gives up may = λ i. gives i && (waits i && below i)
      where
        waits : holds_of (may_wait_for h (name l) n) (act_in (acts h.lines) (name l)) ≡ true
        waits = ap (λ xs. holds_of (may_wait_for h (name l) n) (act_in (acts xs) (name l))) lines
            ∙ ap (λ us. holds_of (may_wait_for h (name l) n) (act_in us (name l))) (same_acts h.number l ls ns)
            ∙ ap (holds_of (may_wait_for h (name l) n)) named ∙ may_wait n may

        below : list_all (λ (line : Line). is_below n line.body) (of_event h) ≡ true
        below = (λ i. list_all (λ (line : Line). is_below n line.body) (drop (first i) (lines i)))
            ∙ ap (list_all (λ (line : Line). is_below n line.body)) (drop-append_seam ls (numbered h.number (gave l ns)))
            ∙ all_below ns n more up h.number l

  -- all of them
  pub lines_so : (h : Here) → h.accepted ≡ accepted → h.first ≡ length ls → gives_up (name l) h.event ≡ true → (ns more : List ℕ) →
      h.lines ≡ ls ++ numbered h.number (gave l ns) → AreUp (ns ++ more) → ((n : ℕ) → In n more → MayWait accepted ls (name l) a n) →
      are_so (row (λ g. is_node_given_up)) h (gave l more) ≡ true
  lines_so h asked first gives ns [] lines up each = refl
  lines_so h asked first gives ns (n ∷ more) lines up each = λ i.
      line_so h asked ns lines n more first gives up (each n (inl refl)) i
      && lines_so (behind h (body.GaveUp l n)) asked first gives (ns ++ n ∷ []) more behind_one (subst AreUp (sym (append_assoc ns (n ∷
      []) more)) up)
      (λ m j. each m (inr j)) i
    where
      behind_one : h.lines ++ record { event = h.number; body = body.GaveUp l n } ∷ [] ≡ ls ++ numbered h.number (gave l (ns ++ n ∷ []))
      behind_one = ap (λ xs. xs ++ record { event = h.number; body = body.GaveUp l n } ∷ []) lines
          ∙ append_assoc ls (numbered h.number (gave l ns)) (record { event = h.number; body = body.GaveUp l n } ∷ [])
          ∙ ap (λ xs. ls ++ xs) (sym (numbered_more (gave l ns)) ∙ ap (numbered h.number) (sym (gave_more l ns (n ∷ []))))
        where
          numbered_more : (bs : List Body) → numbered h.number (bs ++ body.GaveUp l n ∷ [])
              ≡ numbered h.number bs ++ record { event = h.number; body = body.GaveUp l n } ∷ []
          numbered_more [] = refl
          numbered_more (b ∷ bs) = ap (λ (xs : List Line). record { event = h.number; body = b } ∷ xs) (numbered_more bs)
