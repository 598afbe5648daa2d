-- Of each line that excludes a store: the store answered the Prepare by a doubt, or it was given up in the same event.
use Rattle.arj_law_parts.proofs.Words
use Words.{⊤, ◌≡◌, ◌⊎◌, ◌∙◌, ◌+◌, ◌==◌, ◌&&◌, ◌||◌, ◌++◌, not, ℕ, Bool, true, false, cond, if◌then◌else◌, List, [], ◌∷◌, Option, Some, None}
use Words.{refl, sym, ap, subst, inl, inr, ⊎_elim, and_parts, append-nil, append_assoc, bytes_eq, bytes_eq-Decides, list_all, list_any}
use Words.{list_any-append, AllByRecursion, IfSome, frame_kind, numbered, name, is_serial, journal_by, world_from}
use Words.{Asked, Body, Disk, Do, Effect, Say, Send, Header, Input, Kind, Label, Line, Message, Parts, Post, Reply, Uid, Took, handle}
use Words.{answers, Branch, CallEnd, Coord, Doing, Goal, Include, Run, Marked, Steps, actor, branch_named, doing_of, end_line, gaveup_lines}
use Words.{give_up, give_up_call, give_up_doing, gives_up, given_up, has, heard, heard_by, heard_call, heard_doing, heard_none, heard_now}
use Words.{is_free, kept_at, mark_lines, moved_commit, next_node, nodes_given_up, on_branch, on_root, root_at, root_lost, root_of, says}
use Words.{say_for, step_commit, waits_for_call, waits_for_commit, Calling, Committing, Idle, Now, Confirming, Machine, Plan, Preparing}
use Words.{map, Voting}
use Words.{Served, Intent, acts as does, again_all, begin_action, call, include, commit_action, abort_action, parent_of, parts_in}
use Words.{restart_outs, tick_outs, with_coord, worked}
use Words.body
use Words.calls
use Words.commit
use Words.frame
use Words.input
use Rattle.arj_law_lock_view.proofs.Terms.{same_number}
use Rattle.arj_law_lock_view.proofs.moments.Answers.{answers_step, first_made, made_closes, made_later, made_opens}
use Rattle.arj_law_lock_view.specs.moments.Made.{AnswersAreMade, BeginsWith}
use Rattle.arj_law_parts.proofs.Terms.which
use Rattle.arj_law_parts.proofs.moves.{Flat.post, Happens.Wide, Together.with_both}
use Rattle.arj_law_parts.specs.moves.Keeps.{is_act}
use Rattle.arj_law_parts.specs.moves.Moments.{Moment, asks_now, fits, framed_if, given, no_history, posted, said, sent, up}
use Rattle.arj_law_parts.specs.moves.Seen.{In}
use Rattle.arj_law_parts.specs.moves.With.{ArePlain, KeepsSteps, UpWith, WalksWith, is_plain_line}
use Rattle.arj_law_runs.proofs.follow.Along.{event_of}
use Rattle.arj_law_runs.proofs.follow.Frames as frames
use Rattle.arj_law_runs.proofs.journal.{Books.book_more, Models.its_acts}
use Rattle.arj_law_runs.specs.journal.Book.{book, new_book}
use Rattle.arj_law_runs.specs.journal.Right.{AreRight}
use Rattle.arj_law_serial.proofs.Terms.{up_of}
use Rattle.arj_law_serial.proofs.joint.MarkMoves.{acts_stay}
use Rattle.arj_law_serial.proofs.whole.CalledSays.{abort_fine, both, call_fine, commit_fine, is_apart, restart_fine, step_fine, tick_fine}
use Rattle.arj_law_serial.specs.whole.Called.{SayOf}
use Rattle.arj_model.specs.Actions.{Act, act_in}
use Rattle.arj_model.specs.CauseAnswers.{is_giveup}
use Rattle.arj_model.specs.Past.{Asked as AskedOf, at_start}
use Rattle.arj_promise.specs.Runs.{HeaderFits, IsInForm, Run as RunOf}
use Rattle.arj_law_cause.proofs.confirm.{Labels.right_rest, Reached.Reached, Spans.right_front}
use Rattle.arj_law_cause.proofs.rows.Running.{Beside, InEvent, Inner as Watching, event_step, first_so, inner_steps as watching_steps}
use Rattle.arj_law_cause.proofs.rows.Running.{steps_both, tables_step}
use Rattle.arj_law_cause.proofs.votes.Crashes.{Agrees, runs_so}
use Rattle.arj_law_cause.proofs.votes.{Doubted.WasDoubted, Doubted.doubts_so, Doubted.HasAct, Doubted.its_act, Doubted.tells_doubts}
use Rattle.arj_law_cause.proofs.votes.{Doubted.was_doubted}
use Rattle.arj_law_cause.proofs.votes.Doubts
use Doubts.{AreDoubts, Doubting, DoubtsAreSent, IsDoubt, IsLeftOr, answered_marks, doubts_steps, first_doubts, given_marks}
use Doubts.{own_of}
use Rattle.arj_law_cause.proofs.votes.{Excluded.exclusion, Lines.AreSo, Lines.so_both, Lines.so_each}
use Rattle.arj_law_cause.proofs.waits.commits.Serving as Serving
use Rattle.arj_law_cause.proofs.waits.commits.Serving.{AreStill, IsQuiet, goes_so, is_of_part, naming_quiet, quiet_plain}
use Rattle.arj_law_cause.proofs.waits.given.Lines.{gave}
use Rattle.arj_law_cause.specs.kinds.Kinds.{is_excluded}
use Rattle.arj_law_cause.specs.rows.Tables.{Tables}

-- ---- what a line says

-- in the event with this number a line says that the action was given up, which waited for the node
abbrev pub was_given : List Line → ℕ → Label → ℕ → Bool
was_given lines e l s = list_any (λ (g : Line). (g.event == e) && is_giveup (name l) s g.body) lines

-- of whom a store is excluded, and why
abbrev pub HasReason : List AskedOf → Header → ℕ → List Line → Label × ℕ × ℕ → Type 0
HasReason A hd e lines m = AreRight new_book lines → (a : Act) × (act_in (let B = book lines in B.acts) (name m.0) ≡ Some a)
    × (WasDoubted A hd lines a.uid m.2 ⊎ (was_given lines e m.0 m.2 ≡ true))

abbrev pub IsExcused : List AskedOf → Header → ℕ → List Line → Body → Type 0
IsExcused A hd e lines b = IfSome (exclusion b) (HasReason A hd e lines)

doubted_later : (A : List AskedOf) (hd : Header) (ls ms : List Line) (u : Uid) (s : ℕ) → WasDoubted A hd ls u s →
    WasDoubted A hd (ls ++ ms) u s
doubted_later A hd ls ms u s w = record {
  before = w.before;
  after = w.after ++ ms;
  are = ap (λ xs. xs ++ ms) w.are ∙ append_assoc w.before w.after ms;
  called = w.called;
  framed = ⊎_elim (λ same. inl same) (λ f. inr (later w.after f)) w.framed;
  object = w.object;
  of_header = w.of_header;
  stored = w.stored;
  holder = w.holder;
  head = w.head;
  asker = w.asker;
  states = w.states;
  so = w.so;
}
  where
    later : (xs : List Line) → BeginsWith s u.node frame.Prepared xs → BeginsWith s u.node frame.Prepared (xs ++ ms)
    later [] f = absurd f
    later (x ∷ xs) f = f

given_later : (ls ms : List Line) (e : ℕ) (l : Label) (s : ℕ) → was_given ls e l s ≡ true → was_given (ls ++ ms) e l s ≡ true
given_later ls ms e l s is = list_any-append (λ (g : Line). (g.event == e) && is_giveup (name l) s g.body) ls ms
    ∙ (λ i. is i || was_given ms e l s)

-- so it is by more lines
excused_later : (A : List AskedOf) (hd : Header) (e : ℕ) (ls ms : List Line) (b : Body) → IsExcused A hd e ls b →
    IsExcused A hd e (ls ++ ms) b
excused_later A hd e ls ms b = by (exclusion b)
  where
    by : (o : Option (Label × ℕ × ℕ)) → IfSome o (HasReason A hd e ls) → IfSome o (HasReason A hd e (ls ++ ms))
    by None so = tt
    by (Some m) so = λ right. let z = so (right_front ls ms right) in (
      z.0,
      ap (λ B. act_in B.acts (name m.0)) (book_more new_book ls ms)
          ∙ acts_stay (book ls) ms (right_rest new_book ls ms right) (name m.0) z.0 z.1,
      ⊎_elim (λ d. inl (doubted_later A hd ls ms (let a = z.0 in a.uid) m.2 d)) (λ g. inr (given_later ls ms e m.0 m.2 g)) z.2,
    )

-- ---- other lines

abbrev calm : Body → Bool
calm b = not (is_excluded b)

-- lines of the event with this number, behind those of a run of this header
module _ (A : List AskedOf) (hd : Header) (e : ℕ) where
  calm_so : (ls : List Line) (b : Body) → calm b ≡ true → IsExcused A hd e ls b
  calm_so ls (body.Excluded l x n) is = absurd (cc is)
  calm_so ls b is = tt

  apart_so : (ls : List Line) (b : Body) → is_apart b ≡ false → IsExcused A hd e ls b
  apart_so ls (body.Excluded l x n) is = absurd (cc is)
  apart_so ls b is = tt

  end_so : (ls : List Line) (x : ℕ) (g : Goal) (z : CallEnd) (l : Label) → IsExcused A hd e ls (end_line x g z l)
  end_so ls x (Run o) (calls.Answered a) l = tt
  end_so ls x (Include n) (calls.Answered a) l = tt
  end_so ls x g (calls.Included st) l = tt
  end_so ls x g (calls.Conflict h m n) l = tt
  end_so ls x g (calls.Changed n w) l = tt
  end_so ls x g (calls.Lost n b) l = tt

  -- the effects say such lines alone
  abbrev AreExcused : List Line → List Effect → Type 0
  AreExcused ls es = AllByRecursion (SayOf (IsExcused A hd e ls)) es

  grown : (es : List Effect) (ls ms : List Line) → AreExcused ls es → AreExcused (ls ++ ms) es
  grown [] ls ms so = tt
  grown (Say c ∷ es) ls ms so = (excused_later A hd e ls ms c so.0, grown es ls ms so.1)
  grown (Do w ∷ es) ls ms so = (tt, grown es ls ms so.1)
  grown (Send to m ∷ es) ls ms so = (tt, grown es ls ms so.1)

  quiet_so : (es : List Effect) (ls : List Line) → AreStill (IsQuiet calm) es → AreExcused ls es
  quiet_so [] ls all = tt
  quiet_so (Say c ∷ es) ls all = (calm_so ls c all.0, quiet_so es ls all.1)
  quiet_so (Do w ∷ es) ls all = (tt, quiet_so es ls all.1)
  quiet_so (Send to m ∷ es) ls all = (tt, quiet_so es ls all.1)

parts_calm : (b : Body) → is_of_part b ≡ true → calm b ≡ true
parts_calm (body.Excluded l x n) is = absurd (cc is)
parts_calm b is = refl

-- ---- lines so far

abbrev pub AreReasoned : List AskedOf → Header → List Line → List Line → Type 0
AreReasoned A hd = AreSo (λ ls l. IsExcused A hd l.event ls l.body)

abbrev pub LinesReasoned : List AskedOf → Header → Moment → Type 0
LinesReasoned A hd M = AreReasoned A hd [] M.seen.lines

module _ (A : List AskedOf) (hd : Header) where
  calm_lines : (bs : List Body) (M : Moment) → list_all calm bs ≡ true → LinesReasoned A hd M → LinesReasoned A hd (said bs M)
  calm_lines bs M all h = so_both (λ ls l. IsExcused A hd l.event ls l.body) [] M.seen.lines (numbered M.past.number bs) h
      (so_each (λ ls l. IsExcused A hd l.event ls l.body) M.seen.lines M.past.number bs (each bs all))
    where
      each : (xs : List Body) → list_all calm xs ≡ true → AllByRecursion (λ b. (ls : List Line) → IsExcused A hd M.past.number ls b) xs
      each [] all = tt
      each (b ∷ xs) all =
          let p = and_parts (calm b) (list_all calm xs) all in ((λ ls. calm_so A hd M.past.number ls b p.0), each xs p.1)

  plain_lines : (bs : List Body) → ArePlain bs → list_all calm bs ≡ true
  plain_lines [] all = refl
  plain_lines (b ∷ bs) all =
      let p = and_parts (is_plain_line b) (list_all is_plain_line bs) all in λ i. one b p.0 i && plain_lines bs p.1 i
    where
      one : (c : Body) → is_plain_line c ≡ true → calm c ≡ true
      one (body.Excluded l x n) is = absurd (cc is)
      one c is = refl

  one_line : (b : Body) (M : Moment) → IsExcused A hd M.past.number M.seen.lines b → LinesReasoned A hd M →
      LinesReasoned A hd (said (b ∷ []) M)
  one_line b M its h = so_both (λ ls l. IsExcused A hd l.event ls l.body) [] M.seen.lines (numbered M.past.number (b ∷ [])) h (its, tt)

  sent_lines : (p : Post) (M : Moment) → LinesReasoned A hd M → LinesReasoned A hd (sent p M)
  sent_lines p M h = by (p.to == p.from) (fits M)
    where
      lined : LinesReasoned A hd (framed_if true p M)
      lined = calm_lines (body.Sent (M.past.frames + 1) p.from p.to (frame_kind p.message) ∷ []) M refl h

      by : (self fit : Bool) → LinesReasoned A hd (if self then posted p M else framed_if fit p M)
      by true fit = h
      by false true = lined
      by false false = h

  sent_grown : (es : List Effect) (p : Post) (M : Moment) → AreExcused A hd M.past.number M.seen.lines es →
      (let N = sent p M in AreExcused A hd N.past.number N.seen.lines es)
  sent_grown es p M so = by (p.to == p.from) (fits M)
    where
      by : (self fit : Bool) → (let N = if self then posted p M else framed_if fit p M in AreExcused A hd N.past.number N.seen.lines es)
      by true fit = so
      by false true = grown A hd M.past.number es M.seen.lines
          (numbered M.past.number (body.Sent (M.past.frames + 1) p.from p.to (frame_kind p.message) ∷ [])) so
      by false false = so

  walk : (k : ℕ) (v : Parts) (outs : List Effect) (d : Disk) (M : Moment) → AreExcused A hd M.past.number M.seen.lines outs →
      LinesReasoned A hd M → WalksWith (LinesReasoned A hd) k outs (UpWith (LinesReasoned A hd) k v) d M
  walk k v [] d M so h = h
  walk k v (Do w ∷ es) d M so h = ((λ how. calm_lines (body.Halted k ∷ []) M refl h), walk k v es (worked w d) M so.1 h)
  walk k v (Say b ∷ es) d M so h = walk k v es d (said (b ∷ []) M)
      (grown A hd M.past.number es M.seen.lines (numbered M.past.number (b ∷ [])) so.1) (one_line b M so.0 h)
  walk k v (Send to m ∷ es) d M so h =
      walk k v es d (sent (post k to m) M) (sent_grown es (post k to m) M so.1) (sent_lines (post k to m) M h)

  -- lines of a giveup first
  given_walk : (k : ℕ) (v : Parts) (l : Label) (ns : List ℕ) (es : List Effect) (d : Disk) (M : Moment) →
      AreExcused A hd M.past.number (M.seen.lines ++ numbered M.past.number (gave l ns)) es → LinesReasoned A hd M →
      WalksWith (LinesReasoned A hd) k (Words.map Say (gave l ns) ++ es) (UpWith (LinesReasoned A hd) k v) d M
  given_walk k v l [] es d M so h =
      walk k v es d M (subst (λ ls. AreExcused A hd M.past.number ls es) (append-nil M.seen.lines) so) h
  given_walk k v l (n ∷ ns) es d M so h = given_walk k v l ns es d (said (body.GaveUp l n ∷ []) M)
      (subst (λ ls. AreExcused A hd M.past.number ls es) (sym (append_assoc M.seen.lines (numbered M.past.number (body.GaveUp l n ∷ []))
      (numbered M.past.number (gave l ns)))) so)
      (calm_lines (body.GaveUp l n ∷ []) M refl h)

-- ---- at a coordinator

module _ (A : List AskedOf) (hd : Header) (k : ℕ) (d : Disk) (t : Parts) (M : Moment) (known : Wide (Reached hd) (up k d t M))
    (made : AnswersAreMade (doubts_so A hd) (up k d t M)) (doubts : DoubtsAreSent (up k d t M)) where
  abbrev S : List Line → Body → Type 0
  S ls b = IsExcused A hd M.past.number ls b

  abbrev fine : (ls : List Line) (b : Body) → is_apart b ≡ false → IsExcused A hd M.past.number ls b
  fine = apart_so A hd M.past.number

  own : Doubting M.seen.sent k t.coord
  own = own_of k d t M doubts

  module _ (u : Uid) (w : Doing) (p : Plan) (left : List ℕ) (found : doing_of u t.coord ≡ Some w)
      (now : w.now ≡ Committing (Preparing p left)) where
    its : HasAct M.seen.lines u w
    its = its_act A hd k d t M known made u w p left found now

    its_doubts : AreDoubts M.seen.sent k u p.req p.excluded
    its_doubts = own u w (Preparing p left) found now

    named : AreRight new_book M.seen.lines → act_in (let B = book M.seen.lines in B.acts) (name w.label) ≡ Some (let s = its in s.act)
    named right = ap (λ xs. act_in xs (name w.label)) (its_acts M.seen.lines right) ∙ (let s = its in s.named)

    -- a store that answered with a doubt
    doubted : (s x : ℕ) → IsDoubt M.seen.sent k u p.req s → IsExcused A hd M.past.number M.seen.lines (body.Excluded w.label x s)
    doubted s x heard = λ right. (
      (let s = its in s.act),
      named right,
      inl (subst (λ v. WasDoubted A hd M.seen.lines v s) (sym (let s = its in s.uid))
          (was_doubted A hd k d t M known made u w p left found now s heard)),
    )

    -- a store that was given up, as lines behind say
    given_too : (ms : List Line) (s x : ℕ) → was_given (M.seen.lines ++ ms) M.past.number w.label s ≡ true →
        IsExcused A hd M.past.number (M.seen.lines ++ ms) (body.Excluded w.label x s)
    given_too ms s x gave = λ right. (
      (let s = its in s.act),
      ap (λ B. act_in B.acts (name w.label)) (book_more new_book M.seen.lines ms)
          ∙ acts_stay (book M.seen.lines) ms (right_rest new_book M.seen.lines ms right) (name w.label) (let s = its in s.act)
          (named (right_front M.seen.lines ms right)),
      inr gave,
    )

    marks_fine : (ls : List Line) (marks : List (ℕ × ℕ)) →
        AllByRecursion (λ (z : ℕ × ℕ). IsExcused A hd M.past.number ls (body.Excluded w.label z.0 z.1)) marks →
        AllByRecursion (SayOf (IsExcused A hd M.past.number ls)) (mark_lines u marks t.coord)
    marks_fine ls [] all = tt
    marks_fine ls (z ∷ marks) all = both (S ls) (fine ls) (says u (λ l. body.Excluded l z.0 z.1) t.coord) (mark_lines u marks t.coord)
        (subst (λ o. AllByRecursion (SayOf (IsExcused A hd M.past.number ls)) (say_for (λ l. body.Excluded l z.0 z.1) o)) (sym found)
        (all.0, tt)) (marks_fine ls marks all.1)

    doubts_fine : (marks : List (ℕ × ℕ)) → AreDoubts M.seen.sent k u p.req marks →
        AllByRecursion (λ (z : ℕ × ℕ). IsExcused A hd M.past.number M.seen.lines (body.Excluded w.label z.0 z.1)) marks
    doubts_fine [] all = tt
    doubts_fine (z ∷ marks) all = (doubted z.1 z.0 all.0, doubts_fine marks all.1)

    -- behind the lines of the giveup
    said_given : (n : ℕ) → has left n ≡ true →
        was_given (M.seen.lines ++ numbered M.past.number (gave w.label left)) M.past.number w.label n ≡ true
    said_given n there = list_any-append test M.seen.lines (numbered M.past.number (gave w.label left))
        ∙ last (list_any test M.seen.lines) (among left there)
      where
        test : Line → Bool
        test g = (g.event == M.past.number) && is_giveup (name w.label) n g.body

        last : (x : Bool) {y : Bool} → y ≡ true → (x || y) ≡ true
        last true is = refl
        last false is = is

        among : (ns : List ℕ) → has ns n ≡ true → list_any test (numbered M.past.number (gave w.label ns)) ≡ true
        among [] i = absurd (cc i)
        among (m ∷ ns) i = by (m == n) refl i (among ns)
          where
            by : (b : Bool) → (m == n) ≡ b → (b || has ns n) ≡ true →
                (has ns n ≡ true → list_any test (numbered M.past.number (gave w.label ns)) ≡ true) →
                (test (record { event = M.past.number; body = body.GaveUp w.label m })
                || list_any test (numbered M.past.number (gave w.label ns))) ≡ true
            by true same h rest = λ j. ((same_number M.past.number j)
                && ((bytes_eq-Decides (name w.label) (name w.label)).1 refl j && same j))
                || list_any test (numbered M.past.number (gave w.label ns))
            by false off h rest = last (test (record { event = M.past.number; body = body.GaveUp w.label m })) (rest h)

    left_fine : (marks : List (ℕ × ℕ)) → AllByRecursion (λ (m : ℕ × ℕ). IsLeftOr M.seen.sent k u p.req left m.1) marks →
        AllByRecursion (λ (z : ℕ × ℕ). IsExcused A hd M.past.number
        (M.seen.lines ++ numbered M.past.number (gave w.label left)) (body.Excluded w.label z.0 z.1)) marks
    left_fine [] all = tt
    left_fine (z ∷ marks) all = (
      ⊎_elim (λ there. given_too (numbered M.past.number (gave w.label left)) z.1 z.0 (said_given z.1 there))
          (λ heard. excused_later A hd M.past.number M.seen.lines (numbered M.past.number (gave w.label left))
          (body.Excluded w.label z.0 z.1) (doubted z.1 z.0 heard)) all.0,
      left_fine marks all.1,
    )

  -- ---- an answer

  heard_fine : (from : ℕ) (m : Message) → In (post from k m) M.seen.sent → (a : Asked) (r : Reply) → answers m ≡ Some (a, r) →
      AllByRecursion (SayOf (IsExcused A hd M.past.number M.seen.lines)) (heard from a r d.intents t.coord).outs
  heard_fine from m there a r answer = by (doing_of a.act t.coord) refl
    where
      L : List Line
      L = M.seen.lines

      moved : (w : Doing) (c : Machine) → doing_of a.act t.coord ≡ Some w → w.now ≡ Committing c → waits_for_commit from a r c ≡ true →
          AllByRecursion (SayOf (IsExcused A hd M.past.number L)) (mark_lines a.act (commit.answered from c r).marks t.coord)
      moved w (Preparing p left) found is waits = marks_fine a.act w p left found is L (commit.answered from (Preparing p left) r).marks
          (doubts_fine a.act w p left found is (commit.answered from (Preparing p left) r).marks
          (answered_marks M.seen.sent k a.act from m there a refl r answer p left waits (its_doubts a.act w p left found is)))
      moved w (Voting p left) found is waits = plain_vote r
        where
          plain_vote : (q : Reply) → AllByRecursion (SayOf (IsExcused A hd M.past.number L))
              (mark_lines a.act (commit.answered from (Voting p left) q).marks t.coord)
          plain_vote (Reply.Voted (Words.voted.Yes states)) = tt
          plain_vote (Reply.Voted (Words.voted.Changed z)) = tt
          plain_vote q = tt
      moved w (Confirming p) found is waits = plain_confirm r
        where
          plain_confirm : (q : Reply) → AllByRecursion (SayOf (IsExcused A hd M.past.number L))
              (mark_lines a.act (commit.answered from (Confirming p) q).marks t.coord)
          plain_confirm (Reply.Confirmed z) = tt
          plain_confirm q = tt

      now : (w : Doing) → doing_of a.act t.coord ≡ Some w → (z : Now) → w.now ≡ z →
          AllByRecursion (SayOf (IsExcused A hd M.past.number L)) (heard_now from a r d.intents t.coord z).outs
      now w found Idle is = tt
      now w found (Calling s) is = one (waits_for_call from a r s)
        where
          one : (b : Bool) → AllByRecursion (SayOf (IsExcused A hd M.past.number L))
              (cond {A = Served Coord (Unit {0})} b (heard_by (heard_call s r t.coord)) (heard_none t.coord)).outs
          one true = call_fine (S L) (fine L) s _ _ (λ e same l. end_so A hd M.past.number L s.x s.goal e l)
          one false = tt
      now w found (Committing c) is = one (waits_for_commit from a r c) refl
        where
          one : (b : Bool) → waits_for_commit from a r c ≡ b → AllByRecursion (SayOf (IsExcused A hd M.past.number L))
              (cond {A = Served Coord (Unit {0})} b (heard_by (moved_commit a.act (commit.answered from c r) d.intents t.coord))
              (heard_none t.coord)).outs
          one true waits = both (S L) (fine L) (mark_lines a.act (commit.answered from c r).marks t.coord)
              (step_commit a.act (commit.answered from c r).step d.intents t.coord).outs (moved w c found is waits)
              (step_fine (S L) (fine L) a.act (commit.answered from c r).step d.intents t.coord)
          one false waits = tt

      by : (o : Option Doing) → doing_of a.act t.coord ≡ o →
          AllByRecursion (SayOf (IsExcused A hd M.past.number L)) (heard_doing from a r d.intents t.coord o).outs
      by None is = tt
      by (Some w) is = now w is w.now refl

  message_fine : (v : Parts) (from : ℕ) (m : Message) (outs : List Effect) → In (post from k m) M.seen.sent →
      handle k d t from m ≡ Took v outs → AllByRecursion (SayOf (IsExcused A hd M.past.number M.seen.lines)) outs
  message_fine v from m outs there is =
      subst (Serving.GoesSo (IsQuiet calm) (quiet_plain calm parts_calm)
      (λ es. AllByRecursion (SayOf (IsExcused A hd M.past.number M.seen.lines)) es)
      (λ es all. quiet_so A hd M.past.number es M.seen.lines all) k d t (λ n at. naming_quiet calm parts_calm d.names n) from) is
      (goes_so (IsQuiet calm) (quiet_plain calm parts_calm) (λ es. AllByRecursion (SayOf (IsExcused A hd M.past.number M.seen.lines)) es)
      (λ es all. quiet_so A hd M.past.number es M.seen.lines all) k d t
      (λ n at. naming_quiet calm parts_calm d.names n) from m
      (λ a r says. heard_fine from m there a r says))

  -- ---- an input

  abbrev Walked : Input → List Effect → Parts → Type 0
  Walked j outs v = WalksWith (LinesReasoned A hd) k outs (UpWith (LinesReasoned A hd) k v) d (asks_now j t.coord M)

  gave_said : (u : Uid) (w : Doing) → doing_of u t.coord ≡ Some w → (ns : List ℕ) →
      gaveup_lines u ns t.coord ≡ Words.map Say (gave w.label ns)
  gave_said u w found [] = refl
  gave_said u w found (n ∷ ns) = λ i. ap (say_for (λ l. body.GaveUp l n)) found i ++ gave_said u w found ns i

  given_so : LinesReasoned A hd M → (j : Input) (u : Uid) (v : Parts) → Walked j (give_up u d.intents t.coord).outs v
  given_so h j u v = by (doing_of u t.coord) refl
    where
      -- lines of the giveup, and then such as are so
      behind : (w : Doing) → doing_of u t.coord ≡ Some w → (ns : List ℕ) (es : List Effect) →
          AllByRecursion (SayOf (IsExcused A hd M.past.number (M.seen.lines ++ numbered M.past.number (gave w.label ns)))) es →
          Walked j (gaveup_lines u ns t.coord ++ es) v
      behind w found ns es so = subst (λ gs. Walked j (gs ++ es) v) (sym (gave_said u w found ns)) (given_walk A hd k v w.label ns es d
          (asks_now j t.coord M) so h)

      machine : (w : Doing) → doing_of u t.coord ≡ Some w → (c : Machine) → w.now ≡ Committing c →
          Walked j (gaveup_lines u (nodes_given_up c) t.coord ++ (moved_commit u (commit.given_up c) d.intents t.coord).outs) v
      machine w found (Voting p left) is = behind w found (commit.first_of left ∷ [])
          (moved_commit u (commit.given_up (Voting p left)) d.intents t.coord).outs
          (let L = M.seen.lines ++ numbered M.past.number (gave w.label (commit.first_of left ∷ [])) in
          step_fine (S L) (fine L) u (commit.given_up (Voting p left)).step d.intents t.coord)
      machine w found (Preparing p left) is = behind w found left
          (moved_commit u (commit.given_up (Preparing p left)) d.intents t.coord).outs
          (let L = M.seen.lines ++ numbered M.past.number (gave w.label left) in
          both (S L) (fine L) (mark_lines u (commit.given_up (Preparing p left)).marks t.coord)
          (step_commit u (commit.given_up (Preparing p left)).step d.intents t.coord).outs
          (marks_fine u w p left found is L (commit.given_up (Preparing p left)).marks
          (left_fine u w p left found is (commit.given_up (Preparing p left)).marks
          (given_marks M.seen.sent k u p left (its_doubts u w p left found is))))
          (step_fine (S L) (fine L) u (commit.given_up (Preparing p left)).step d.intents t.coord))
      machine w found (Confirming p) is = behind w found (1 ∷ [])
          (moved_commit u (commit.given_up (Confirming p)) d.intents t.coord).outs
          (let L = M.seen.lines ++ numbered M.past.number (gave w.label (1 ∷ [])) in
          step_fine (S L) (fine L) u (commit.given_up (Confirming p)).step d.intents t.coord)

      now : (w : Doing) → doing_of u t.coord ≡ Some w → (z : Now) → w.now ≡ z → Walked j (gives_up u d.intents t.coord z).outs v
      now w found Idle is = walk A hd k v [] d (asks_now j t.coord M) tt h
      now w found (Calling s) is = behind w found (next_node s ∷ []) (give_up_call s t.coord).outs
          (let L = M.seen.lines ++ numbered M.past.number (gave w.label (next_node s ∷ [])) in
          call_fine (S L) (fine L) s (given_up s.at) (on_root (root_of s.path) (root_lost s (given_up s.at)) t.coord)
          (λ e same l. end_so A hd M.past.number L s.x s.goal e l))
      now w found (Committing c) is = machine w found c is

      by : (o : Option Doing) → doing_of u t.coord ≡ o → Walked j (give_up_doing u d.intents t.coord o).outs v
      by None is = walk A hd k v [] d (asks_now j t.coord M) tt h
      by (Some w) is = now w is w.now refl

  acts_so : LinesReasoned A hd M → (j : Input) → is_act j ≡ true →
      (let did = does j d.intents t.coord in Walked j did.outs (with_coord t did.part))
  acts_so h j is = by j is
    where
      L : List Line
      L = M.seen.lines

      through : (es : List Effect) (v : Parts) → AllByRecursion (SayOf (IsExcused A hd M.past.number L)) es → Walked j es v
      through es v so = walk A hd k v es d (asks_now j t.coord M) so h

      by : (i : Input) → is_act i ≡ true → (let did = does i d.intents t.coord in Walked j did.outs (with_coord t did.part))
      by (input.Call l x o) is = one (branch_named l t.coord)
        where
          one : (f : Option Branch) → (let did = on_branch (λ b. call b.path x o t.coord) t.coord f in
              Walked j did.outs (with_coord t did.part))
          one None = through [] (with_coord t t.coord) tt
          one (Some b) = through (call b.path x o t.coord).outs (with_coord t (call b.path x o t.coord).part) (tt, tt)
      by (input.Include l x n) is = one (branch_named l t.coord)
        where
          one : (f : Option Branch) → (let did = on_branch (λ b. include b.path x n t.coord) t.coord f in
              Walked j did.outs (with_coord t did.part))
          one None = through [] (with_coord t t.coord) tt
          one (Some b) = through (include b.path x n t.coord).outs (with_coord t (include b.path x n t.coord).part) (tt, tt)
      by (input.Commit l) is = one (branch_named l t.coord)
        where
          one : (f : Option Branch) → (let did = on_branch (λ b. commit_action b d.intents t.coord) t.coord f in
              Walked j did.outs (with_coord t did.part))
          one None = through [] (with_coord t t.coord) tt
          one (Some b) = through (commit_action b d.intents t.coord).outs
              (with_coord t (commit_action b d.intents t.coord).part) (commit_fine (S L) (fine L)
              (λ es. AllByRecursion (SayOf (IsExcused A hd M.past.number L)) es)
              (λ es all. all) b d.intents t.coord
              (λ es all. both (S L) (fine L) (says (actor b.path) body.Committing t.coord) es (called (doing_of (actor b.path) t.coord))
              all))
            where
              called : (o : Option Doing) → AllByRecursion (SayOf (IsExcused A hd M.past.number L)) (say_for body.Committing o)
              called None = tt
              called (Some w) = (tt, tt)
      by (input.Abort l) is = one (branch_named l t.coord)
        where
          one : (f : Option Branch) → (let did = on_branch (λ b. abort_action (actor b.path) d.intents t.coord) t.coord f in
              Walked j did.outs (with_coord t did.part))
          one None = through [] (with_coord t t.coord) tt
          one (Some b) = through (abort_action (actor b.path) d.intents t.coord).outs
              (with_coord t (abort_action (actor b.path) d.intents t.coord).part)
              (abort_fine (S L) (fine L) (actor b.path) d.intents t.coord)
      by (input.GiveUp l) is = one (branch_named l t.coord)
        where
          one : (f : Option Branch) → (let did = on_branch (λ b. give_up (actor b.path) d.intents t.coord) t.coord f in
              Walked j did.outs (with_coord t did.part))
          one None = through [] (with_coord t t.coord) tt
          one (Some b) = given_so h j (actor b.path) (with_coord t (give_up (actor b.path) d.intents t.coord).part)
      by i is = absurd (cc is)

-- ---- in every run

module _ (A : List AskedOf) (hd : Header) (form : HeaderFits hd) where
  -- between events, and inside of one
  abbrev Between : Moment → Type 0
  Between M = (AnswersAreMade (doubts_so A hd) M × DoubtsAreSent M) × LinesReasoned A hd M

  abbrev Tabled : List Line → ℕ → Moment → Type 0
  Tabled before event M = Tables hd before event M × Watching A hd M

  abbrev Base : List Line → ℕ → Moment → Type 0
  Base before event M = InEvent A hd before event M × ((Tabled before event M × AnswersAreMade (doubts_so A hd) M) × DoubtsAreSent M)

  abbrev Inner : List Line → ℕ → Moment → Type 0
  Inner before event M = Base before event M × LinesReasoned A hd M

  module _ (before : List Line) (event : ℕ) (early : (j : ℕ) → (event == up_of j before) ≡ false) where
    tabled_steps : KeepsSteps hd (Tabled before event)
    tabled_steps = steps_both hd (Tables hd before event) (Watching A hd) (tables_step hd before event early) (watching_steps A hd)

    made_steps : KeepsSteps hd (λ M. Tabled before event M × AnswersAreMade (doubts_so A hd) M)
    made_steps = answers_step hd (doubts_so A hd) (Tabled before event) tabled_steps (λ M h. h.0.0.0) (tells_doubts A hd form before event
        early)

    base_steps : KeepsSteps hd (Base before event)
    base_steps = steps_both hd (InEvent A hd before event)
        (λ M. (Tabled before event M × AnswersAreMade (doubts_so A hd) M) × DoubtsAreSent M)
        (event_step A hd before event early)
        (steps_both hd (λ M. Tabled before event M × AnswersAreMade (doubts_so A hd) M) DoubtsAreSent made_steps (doubts_steps hd))

    known_at : (k : ℕ) (d : Disk) (t : Parts) (M : Moment) → Base before event (up k d t M) → Wide (Reached hd) (up k d t M)
    known_at k d t M h = let z = h.0.0.1.0 in (z.0, z.1, z.2.1)

    inner_steps : KeepsSteps hd (Inner before event)
    inner_steps = let g = base_steps in record {
      quiet = λ bs M all h. (g.quiet bs M all h.0, calm_lines A hd bs M (plain_lines A hd bs all) h.1);
      junk = λ n M fit h. (
        g.junk n M fit h.0,
        calm_lines A hd (body.Sent (M.past.frames + 1) 0 n frame.Junk ∷ []) M refl h.1,
      );
      stop = λ k d live M h. (g.stop k d live M h.0, calm_lines A hd (body.Halted k ∷ []) M refl h.1);
      message = λ k d t v from m outs M h there meant may is.
          with_both (Base before event) (LinesReasoned A hd) k outs (UpWith (Base before event) k v) (UpWith (LinesReasoned A hd) k v) d M
          (g.message k d t v from m outs M h.0 there meant may is)
          (walk A hd k v outs d M (message_fine A hd k d t M (known_at k d t M h.0) h.0.1.0.1 h.0.1.1 v from m outs there is) h.1);
      act = λ k d t i M is brings first asks free h. let did = does i d.intents t.coord in
          with_both (Base before event) (LinesReasoned A hd) k did.outs (UpWith (Base before event) k (with_coord t did.part))
          (UpWith (LinesReasoned A hd) k (with_coord t did.part)) d
          (asks_now i t.coord M) (g.act k d t i M is brings first asks free h.0)
          (acts_so A hd k d t M (known_at k d t M h.0) h.0.1.0.1 h.0.1.1 h.1 i is);
      begin = λ k d t l how parent M brings first new gives none h.
          let did = begin_action l how parent (parent_of parent t.coord) t.coord in
          let N = given l (record { node = k; serial = is_serial how }) M in
          with_both (Base before event) (LinesReasoned A hd) k did.outs (UpWith (Base before event) k (with_coord t did.part))
          (UpWith (LinesReasoned A hd) k (with_coord t did.part)) d
          N (g.begin k d t l how parent M brings first new gives none h.0)
          (walk A hd k (with_coord t did.part) did.outs d N (tt, tt) h.1);
      tick = λ k d t M h. let r = again_all t.coord.doings t.coord in
          let outs = tick_outs (record { number = k; disk = d; live = Some t }) t in
          with_both (Base before event) (LinesReasoned A hd) k outs (UpWith (Base before event) k (with_coord t r.part))
          (UpWith (LinesReasoned A hd) k (with_coord t r.part)) d M
          (g.tick k d t M h.0)
          (walk A hd k (with_coord t r.part) outs d M (tick_fine (IsExcused A hd M.past.number M.seen.lines) (apart_so A hd M.past.number
          M.seen.lines)
          (record { number = k; disk = d; live = Some t }) t) h.1);
      restart = λ k d M now first h. let outs = restart_outs hd k (d.inc + 1) d in let v = parts_in k (d.inc + 1) d in
          with_both (Base before event) (LinesReasoned A hd) k outs (UpWith (Base before event) k v) (UpWith (LinesReasoned A hd) k v) d M
          (g.restart k d M now first h.0)
          (walk A hd k v outs d M (restart_fine (IsExcused A hd M.past.number M.seen.lines) (apart_so A hd M.past.number M.seen.lines)
          hd k (d.inc + 1) d) h.1);
    }

  its_beside : Beside A hd Between Inner
  its_beside = record {
    inner = λ before event early. inner_steps before event early;
    knows = λ before event M h. h.0.0;
    opens = λ e M first number h. ((made_opens (doubts_so A hd) e M first number h.0.0, h.0.1), h.1);
    enters = λ before event M number first lines i h. ((i, ((i.0, h.0.0), h.0.1)), h.1);
    leaves = λ before event bodies M number lines h. (
      (made_closes (doubts_so A hd) bodies M number lines h.0.1.0.1, h.0.1.1),
      h.1,
    );
    labels = λ M h. (
      (
        made_later (doubts_so A hd) M (said (body.Limit which.Labels ∷ []) M) (record {
          more = numbered M.past.number (body.Limit which.Labels ∷ []);
          lines = refl;
          askings = refl;
          sent = λ p i. i;
          full = λ f. f;
        }) (λ j. refl) (λ p i. i) h.0.0,
        h.0.1,
      ),
      calm_lines A hd (body.Limit which.Labels ∷ []) M refl h.1,
    );
  }

  pub lines_reasoned : (r : RunOf hd) → IsInForm hd r → Agrees A 0 (map event_of r.moves) → AreReasoned A hd [] (journal_by hd r)
  lines_reasoned r in_form agrees =
      let z = runs_so A hd form Between Inner its_beside r.moves in_form.stops (at_start r.start) (no_history r.start)
      (world_from hd r.start) (frames.first_stands hd form r.start r.formed) agrees
      (first_so A hd Between Inner its_beside r.start r.formed (
        (first_made hd (doubts_so A hd) r.start r.formed, first_doubts hd r.start r.formed),
        tt,
      )) in
      let h = z.holds in h.now.holds.1.1
