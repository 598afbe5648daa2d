-- The row of what is excluded: the store was given up, behind a Prepare that was sent since the commit was called, or answered its
-- Prepare by a doubt.
use Rattle.arj_law.proofs.Reading.{read-append}
use Rattle.arj_law_parts.proofs.Words
use Words.{◌≡◌, ◌⊎◌, ◌≤◌, ◌∙◌, ◌+◌, ◌==◌, ◌&&◌, ◌||◌, ◌++◌, not, ℕ, Bool, true, false, cond, List, [], ◌∷◌, length, Option, Some, None}
use Words.{refl}
use Words.{sym, ap, subst, inl, inr, ⊎_elim, arith, nat_tests, nat_le, and_parts, append_assoc, bytes_eq, bytes_eq-Decides, eqb-true, find}
use Words.{is_some, length-append, list_all, list_any, list_any-append, option_map, In, Body, Cause, Event, Header, Label, Line, Uid, actor}
use Words.{map, name, numbered, uid_eq, journal_by, Start}
use Words.body
use Words.frame
use Rattle.std.specs.Prelude.{drop}
use Rattle.arj_journal.specs.declared.header.ObjectLine.{ObjectLine}
use Rattle.arj_law_runs.proofs.journal.{Books.book_more, Closed.one_act, Models.act_there, Models.in_later, Models.its_acts}
use Rattle.arj_law_runs.proofs.journal.{Models.its_sound, Models.named_in, Models.tells, Books.sane_lines, Books.sane_new, Owners.acts_more}
use Rattle.arj_law_runs.proofs.follow.Along.{event_of}
use Rattle.arj_law_runs.specs.follow.Frames.{are_so, run_events}
use Rattle.arj_law_runs.specs.journal.Book.{book, new_book}
use Rattle.arj_law_runs.specs.journal.Right.{AreRight}
use Rattle.arj_law_serial.proofs.joint.MarkMoves.{acts_stay}
use Rattle.arj_law_serial.proofs.whole.CalledSays.{calls_commit}
use Rattle.arj_model.specs.Actions.{Act, Placed, act_in, acts, acts_from, ended, ended_of, has_end, halts, is_halted, is_over, put}
use Rattle.arj_model.specs.Calls.{committings}
use Rattle.arj_model.specs.CauseAnswers.{is_giveup}
use Rattle.arj_model.specs.CauseEnds.{is_given_up, is_in_doubt}
use Rattle.arj_model.specs.CausePends.{changes, has_written, is_crash_at, is_pending, may_store, pends}
use Rattle.arj_model.specs.CauseSpans.{Here, act_by, answered, behind, here_at, holds_in, is_frame, was_sent}
use Rattle.arj_model.specs.Caused.{has_cause}
use Rattle.arj_model.specs.Last.{is_among, joins_of, object_line}
use Rattle.arj_model.specs.Past.{Along, Asked as AskedOf, Past, at_start, block, next}
use Rattle.arj_model.specs.Refusals.{holds_of, is_committing, was_called}
use Rattle.arj_promise.specs.Runs.{HeaderFits, world_by}
use Rattle.arj_law_cause.proofs.confirm.{Called.called_back, Called.is_called, Joined.early_before, Labels.right_rest, Spans.commits_at}
use Rattle.arj_law_cause.proofs.confirm.{Spans.place, Spans.right_front}
use Rattle.arj_law_cause.proofs.kinds.{Lines.more_lines, Over.over_later}
use Rattle.arj_law_cause.proofs.rows.Spans.{answered_at, any_dropped, or_first, or_last}
use Rattle.arj_law_cause.proofs.votes.{Doubted.WasDoubted, Excluded.IsExcludedLine, Excluded.IsExcluding, Excluded.each_excluded}
use Rattle.arj_law_cause.proofs.votes.{Excluded.excluding, Lines.so_at, Reasons.AreReasoned, Reasons.IsExcused, Reasons.lines_reasoned}
use Rattle.arj_law_cause.proofs.votes.Crashes.{Accepts, Agrees, Covers, accepts_next, asked_from, covers_first, pends_fewer}
use Rattle.arj_law_cause.proofs.votes.Reasons.{was_given}
use Rattle.arj_law_cause.proofs.waits.given.{Asked.WasSent, Running.stores_run, Stores.EndsFirst, Stores.IsGivenSo, Stores.StoresStep}
use Rattle.arj_law_cause.proofs.waits.waiting.{Called.called_so, Lists.any_in}
use Rattle.arj_law_cause.specs.kinds.Kinds.{is_excluded, is_node_given_up}
use Rattle.arj_law_cause.specs.kinds.Rows.{RowHolds, RowStep, row}
use Rattle.arj_law_cause.specs.rows.Early.{IsEarly}
use Rattle.arj_law_cause.specs.rows.Says.{has_changed}

-- ---- lists

never : {P : Type 0} {b : Bool} → b ≡ true → b ≡ false → P
never holds fails = let no_way : true ≡ false = sym holds ∙ fails in absurd (cc no_way)

-- a front that passes is behind another decomposition's front, if what stands there doesn't
front_first : (T : Body → Bool) (gs front : List Body) (a b : Body) (xs ys : List Body) → gs ++ a ∷ xs ≡ front ++ b ∷ ys →
    list_all T gs ≡ true → T b ≡ false → (a ≡ b → ⊥) → (mid : List Body) × (front ≡ gs ++ a ∷ mid)
front_first T [] [] a b xs ys same all off apart = let one : a ≡ b = cc same in absurd (apart one)
front_first T [] (f ∷ fs) a b xs ys same all off apart = let one : a ≡ f = cc same in (fs, λ i. sym one i ∷ fs)
front_first T (g ∷ gs) [] a b xs ys same all off apart =
    let one : g ≡ b = cc same in never (ap T (sym one) ∙ (and_parts (T g) (list_all T gs) all).0) off
front_first T (g ∷ gs) (f ∷ fs) a b xs ys same all off apart =
    let one : g ≡ f = cc same in
    let rest : gs ++ a ∷ xs ≡ fs ++ b ∷ ys = cc same in
    let z = front_first T gs fs a b xs ys rest (and_parts (T g) (list_all T gs) all).1 off apart in
    (z.0, λ i. sym one i ∷ z.1 i)

numbered_more : (n : ℕ) (xs ys : List Body) → numbered n (xs ++ ys) ≡ numbered n xs ++ numbered n ys
numbered_more n [] ys = refl
numbered_more n (x ∷ xs) ys = ap (λ (ls : List Line). record { event = n; body = x } ∷ ls) (numbered_more n xs ys)

all_front : (T : Body → Bool) (xs ys : List Body) → list_all T (xs ++ ys) ≡ true → list_all T xs ≡ true
all_front T [] ys all = refl
all_front T (x ∷ xs) ys all =
    let p = and_parts (T x) (list_all T (xs ++ ys)) all in λ i. p.0 i && all_front T xs ys p.1 i

in_front : (xs ys : List Body) (b : Body) → In b xs → In b (xs ++ ys)
in_front [] ys b i = absurd i
in_front (x ∷ xs) ys b (inl same) = inl same
in_front (x ∷ xs) ys b (inr i) = inr (in_front xs ys b i)

-- lines by which no commit is called
called_before : (ls : List Line) (e : ℕ) (bs : List Body) (u : Uid) → list_all (λ b. not (calls_commit b)) bs ≡ true →
    is_called (ls ++ numbered e bs) u → is_called ls u
called_before ls e [] u all on = subst (λ xs. is_called xs u) (Words.append-nil ls) on
called_before ls e (b ∷ bs) u all on =
    let p = and_parts (not (calls_commit b)) (list_all (λ c. not (calls_commit c)) bs) all in
    called_back ls e b u (off (calls_commit b) p.0) (called_before (ls ++ numbered e (b ∷ [])) e bs u p.1
    (subst (λ xs. is_called xs u) (sym (append_assoc ls (numbered e (b ∷ [])) (numbered e bs))) on))
  where
    off : (x : Bool) → not x ≡ true → x ≡ false
    off true is = absurd (cc is)
    off false is = refl

-- ---- what ends an action

-- a line that says that the action aborted ends it
aborted_over : (ls : List Line) (e : ℕ) (l : Label) (c : Cause) (a : Act) → act_in (acts ls) (name l) ≡ Some a →
    is_over (ls ++ numbered e (body.Aborted l c ∷ [])) a ≡ true
aborted_over ls e l c a named = or_first (has_end (ended (ls ++ numbered e (body.Aborted l c ∷ []))) a.id)
    (is_halted (halts (ls ++ numbered e (body.Aborted l c ∷ []))) a)
    (ap (λ es. has_end es a.id) (read-append ended_of [] 0 ls (numbered e (body.Aborted l c ∷ [])))
    ∙ list_any-append test (ended ls) (put (0 + length ls) (option_map (λ (b : Act). b.id) (act_in (acts_from [] ls) (name l))) [])
    ∙ or_last (list_any test (ended ls)) _ (ap (λ o. list_any test (put (0 + length ls) (option_map (λ (b : Act). b.id) o) [])) named
    ∙ (λ i. itself a.id i || false)))
  where
    test : Placed ℕ → Bool
    test p = p.it == a.id

    itself : (n : ℕ) → (n == n) ≡ true
    itself n = grind (arith, nat_tests)

-- ---- one line

module _ (hd : Header) (h : Here) (header : h.header ≡ hd) (l : Label) (x n : ℕ) (k : IsExcludedLine h.lines (body.Excluded l x n)) where
  abbrev z : IsExcluding h.lines l x n
  z = excluding h.lines l x n k

  abbrev a : Act
  a = let y = excluding h.lines l x n k in y.act

  its_name : act_in (acts h.lines) (name l) ≡ Some (let y = excluding h.lines l x n k in y.act)
  its_name = let y = excluding h.lines l x n k in y.named

  there : In (let y = excluding h.lines l x n k in y.act) (acts h.lines)
  there = named_in (acts h.lines) (name l) (let y = excluding h.lines l x n k in y.act) its_name

  -- whoever has its name is it
  one_named : (b : Act) → act_in (let B = book h.lines in B.acts) (name l) ≡ Some b → b ≡ (let y = excluding h.lines l x n k in y.act)
  one_named b named =
      let e : ◌≡◌ {A = Option Act} (Some b) (Some (let y = excluding h.lines l x n k in y.act)) =
      sym named ∙ ap (λ xs. act_in xs (name l)) (its_acts h.lines k.right) ∙ its_name in cc e

  -- whoever had its name before is it
  named_before : (ls ms : List Line) → h.lines ≡ ls ++ ms → (b : Act) → act_in (acts ls) (name l) ≡ Some b →
      b ≡ (let y = excluding h.lines l x n k in y.act)
  named_before ls ms are b named =
      let right : AreRight new_book (ls ++ ms) = subst (AreRight new_book) are k.right in
      one_named b (ap (λ xs. act_in (let B = book xs in B.acts) (name l)) are ∙ ap (λ B. act_in B.acts (name l)) (book_more new_book ls ms)
      ∙ acts_stay (book ls) ms (right_rest new_book ls ms right) (name l) b
      (ap (λ xs. act_in xs (name l)) (its_acts ls (right_front ls ms right)) ∙ named))

  -- ---- a store that answered with a doubt

  module _ (A : List AskedOf) (w : WasDoubted A hd h.lines (let b = a in b.uid) n) (form : HeaderFits hd)
      (fewer : (m k : ℕ) → is_crash_at h.accepted m k ≡ true → is_crash_at A m k ≡ true) where
    front_right : AreRight new_book w.before
    front_right = right_front w.before w.after (subst (AreRight new_book) w.are k.right)

    early : IsEarly w.before
    early = early_before w.before w.after (subst IsEarly w.are k.early)

    -- it was there when the store answered
    there_then : In (let b = a in b) (acts w.before)
    there_then =
        let c : (b : Act) × In b (acts w.before) × (b.uid ≡ (let b = a in b.uid)) =
        (let y = act_there (let B = book w.before in B.acts) (let b = a in b.uid)
        (let s = sane_lines new_book w.before front_right sane_new in s.called (let b = a in b.uid) w.called) in
        (y.0, subst (In y.0) (its_acts w.before front_right) y.1, y.2)) in
        let later : In c.0 (acts h.lines) = subst (In c.0) (sym (acts_more [] w.before w.after) ∙ ap acts (sym w.are))
        (in_later w.after (acts w.before) c.0 c.1) in
        subst (λ (b : Act). In b (acts w.before)) (one_act (acts h.lines) (let s = its_sound h.lines k.right in s.distinct) c.0
        a later there c.2) c.1

    -- who changed the object
    changer : (u : Uid) → has_changed w.before u w.object ≡ true →
        (b : Act) × In b (acts w.before) × (b.uid ≡ u) × (changes w.before b.id w.object ≡ true)
    changer u is = by (act_by w.before u) refl is
      where
        by : (o : Option Act) → act_by w.before u ≡ o → holds_in (λ (b : Act). changes w.before b.id w.object) o ≡ true →
            (b : Act) × In b (acts w.before) × (b.uid ≡ u) × (changes w.before b.id w.object ≡ true)
        by None none e = absurd (cc e)
        by (Some b) some e = let f = Words.in_find (λ (c : Act). uid_eq c.uid u) b (acts w.before) some in
            (b, f.0, Words.uid_is b.uid u f.1, e)

    both : (has_changed w.before (let b = a in b.uid) w.object ≡ true) × (has_changed w.before w.holder w.object ≡ true)
    both =
        let p = and_parts (has_changed w.before (actor (let g = w.head in g.path)) w.object) (has_changed w.before w.holder w.object)
        (let s = w.so in s.2 form early) in
        (ap (λ u. has_changed w.before u w.object) (sym w.asker) ∙ p.0, p.1)

    mine : changes w.before (let b = a in b.id) w.object ≡ true
    mine = let c = changer (let b = a in b.uid) both.0 in
        ap (λ (b : Act). changes w.before b.id w.object) (sym (one_act (acts w.before)
        (let s = its_sound w.before front_right in s.distinct) c.0 a c.1 there_then c.2)) ∙ c.3

    other : (b : Act) × In b (acts w.before) × (b.uid ≡ w.holder) × (changes w.before b.id w.object ≡ true)
    other = changer w.holder both.1

    apart : (let b = other.0 in b.id == (let c = a in c.id)) ≡ false
    apart = tells w.before front_right a there_then other.0 other.1 ∙ ap (λ u. uid_eq u (let c = a in c.uid)) other.2
        ∙ ap (uid_eq w.holder) (sym w.asker) ∙ (let s = w.so in s.0)

    its_doubt : is_in_doubt h n (let b = a in b) w.before ≡ true
    its_doubt = of_object (object_line h.header w.object) refl (ap (λ g. is_some (object_line g w.object)) header ∙ w.of_header)
      where
        so : (o : ObjectLine) → o.x ≡ w.object → (changes w.before (let b = a in b.id) o.x
            && list_any (λ (c : Act). not (c.id == (let b = a in b.id)) && is_pending h.header h.accepted n c.uid o.x w.before)
            (acts w.before)) ≡ true
        so o same = ap (λ y. changes w.before (let b = a in b.id) y
            && list_any (λ (c : Act). not (c.id == (let b = a in b.id)) && is_pending h.header h.accepted n c.uid y w.before)
            (acts w.before)) same
            ∙ (λ i. mine i && any_in (λ (c : Act). not (c.id == (let b = a in b.id))
            && is_pending h.header h.accepted n c.uid w.object w.before) (acts w.before) other.0 other.1 its i)
          where
            its : (not (let b = other.0 in b.id == (let c = a in c.id))
                && is_pending h.header h.accepted n (let b = other.0 in b.uid) w.object w.before) ≡ true
            its = λ i. not (apart i) && ((ap (λ u. has_changed w.before u w.object) other.2 ∙ both.1) i
                && ((ap (λ g. may_store g w.before n w.object) header ∙ w.stored form) i
                && (ap (λ u. pends h.accepted n u w.before) other.2
                ∙ pends_fewer A h.accepted fewer n w.holder w.before (let s = w.so in s.1)) i))

        of_object : (o : Option ObjectLine) → object_line h.header w.object ≡ o → is_some o ≡ true →
            is_in_doubt h n (let b = a in b) w.before ≡ true
        of_object None none some = absurd (cc some)
        of_object (Some o) at some = let f = Words.in_find (λ (c : ObjectLine). c.x == w.object) o h.header.objects at in
            any_in (λ (c : ObjectLine). changes w.before (let b = a in b.id) c.x
            && list_any (λ (d : Act). not (d.id == (let b = a in b.id)) && is_pending h.header h.accepted n d.uid c.x w.before)
            (acts w.before)) h.header.objects o f.0 (so o (eqb-true o.x w.object f.1))

    doubted_so : has_cause h (body.Excluded l x n) ≡ true
    doubted_so = commits_at h (name l) w.before w.after w.are k.right a its_name (let y = z in y.under) w.called
        (λ b c. (has_written h.lines b.id x || is_among (joins_of h.lines b.id x) n)
        && (is_given_up h (name l) n b c || answered h c b.uid.node n (frame.Prepared ∷ []) (is_in_doubt h n b)))
        (λ i. (let y = z in y.changed) i && or_last (is_given_up h (name l) n (let b = a in b) (place h (name l) w.before w.after w.are
        k.right a its_name (let y = z in y.under) w.called).0) (answered h (place h (name l) w.before w.after w.are k.right a its_name
        (let y = z in y.under) w.called).0 (let b = a in b.uid.node) n (frame.Prepared ∷ []) (is_in_doubt h n (let b = a in b)))
        (answered_at h (place h (name l) w.before w.after w.are k.right a its_name (let y = z in y.under)
        w.called).0 (let b = a in b.uid.node) n frame.Prepared (frame.Prepared ∷ []) (is_in_doubt h n (let b = a in b)) w.before w.after
        w.are (place h (name l) w.before w.after w.are k.right a its_name (let y = z in y.under) w.called).2 w.framed refl its_doubt) i)

  -- ---- a store that was given up in the event

  module _ (p : Past) (bodies front rest : List Body) (step : (m : Label) (j : ℕ) → In (body.GaveUp m j) bodies → IsGivenSo p.lines m j
      bodies) (lines : h.lines ≡ p.lines ++ numbered h.number front) (are : bodies ≡ front ++ body.Excluded l x n ∷ rest)
      (low : list_any (λ (g : Line). (g.event == h.number) && is_giveup (name l) n g.body) p.lines ≡ false)
      (gave : was_given h.lines h.number l n ≡ true) where
    abbrev test : Line → Bool
    test g = (g.event == h.number) && is_giveup (name l) n g.body

    in_event : list_any (λ (g : Line). (g.event == h.number) && is_giveup (name l) n g.body) (numbered h.number front) ≡ true
    in_event = ap (λ b. b || list_any test (numbered h.number front)) (sym low)
        ∙ sym (ap (list_any test) lines ∙ list_any-append test p.lines (numbered h.number front)) ∙ gave

    -- its line
    said : (bs : List Body) → list_any (λ (g : Line). (g.event == h.number) && is_giveup (name l) n g.body) (numbered h.number bs) ≡ true →
        (m : Label) × In (body.GaveUp m n) bs × (name m ≡ name l)
    said [] is = absurd (cc is)
    said (b ∷ bs) is = by (is_giveup (name l) n b) refl is (said bs)
      where
        its : (c : Body) → is_giveup (name l) n c ≡ true → (m : Label) × (c ≡ body.GaveUp m n) × (name m ≡ name l)
        its (body.GaveUp m j) on =
            let q = and_parts (bytes_eq (name m) (name l)) (j == n) on in
            (m, ap (body.GaveUp m) (eqb-true j n q.1), (bytes_eq-Decides (name m) (name l)).0 q.0)
        its c on = absurd (cc on)

        by : (y : Bool) → is_giveup (name l) n b ≡ y → (((h.number == h.number) && y) || list_any test (numbered h.number bs)) ≡ true →
            (list_any test (numbered h.number bs) ≡ true → (m : Label) × In (body.GaveUp m n) bs × (name m ≡ name l)) →
            (m : Label) × In (body.GaveUp m n) (b ∷ bs) × (name m ≡ name l)
        by true on e rest = let r = its b on in (r.0, inl r.1, r.2)
        by false off e rest = let r = rest (second (h.number == h.number) e) in (r.0, inr r.1, r.2)
          where
            second : (q : Bool) {y : Bool} → ((q && false) || y) ≡ true → y ≡ true
            second true e = e
            second false e = e

    giver : (m : Label) × In (body.GaveUp m n) front × (name m ≡ name l)
    giver = said front in_event

    g : IsGivenSo p.lines giver.0 n bodies
    g = step giver.0 n (subst (In (body.GaveUp giver.0 n)) (sym are) (in_front front (body.Excluded l x n ∷ rest)
        (body.GaveUp giver.0 n) giver.1))

    named_then : act_in (acts p.lines) (name l) ≡ Some g.act
    named_then = ap (act_in (acts p.lines)) (sym giver.2) ∙ g.named

    same : g.act ≡ (let b = a in b)
    same = named_before p.lines (numbered h.number front) lines g.act named_then

    opened : is_over p.lines (let b = a in b) ≡ false
    opened = by (is_over p.lines (let b = a in b)) refl
      where
        by : (y : Bool) → is_over p.lines (let b = a in b) ≡ y → y ≡ false
        by false is = refl
        by true is = never (ap (λ ls. is_over ls (let b = a in b)) lines ∙ over_later p.lines (numbered h.number front) a is)
            (let y = z in y.opened)

    begun_then : In (let b = a in b) (acts p.lines)
    begun_then = subst (λ (b : Act). In b (acts p.lines)) same (named_in (acts p.lines) (name l) g.act named_then)

    past_right : AreRight new_book p.lines
    past_right = right_front p.lines (numbered h.number front) (subst (AreRight new_book) lines k.right)

    -- its commit was called before the event
    under_then : is_committing p.lines (name l) ≡ true
    under_then = ap (holds_of (λ (c : Act). was_called (committings p.lines) c.id && not (is_over p.lines c))) (named_then ∙ ap Some same)
        ∙ (λ i. (called_so p.lines past_right a begun_then ∙ called) i && not (opened i))
      where
        called : is_called p.lines (let b = a in b.uid)
        called = called_before p.lines h.number front (let b = a in b.uid)
            (all_front (λ b. not (calls_commit b)) front (body.Excluded l x n ∷ rest)
            (ap (list_all (λ b. not (calls_commit b))) (sym are) ∙ g.uncalled))
            (subst (λ ls. is_called ls (let b = a in b.uid)) lines (let y = z in y.called))

    -- it wasn't ended first
    unended : EndsFirst giver.0 bodies → ⊥
    unended e = never (ap (λ ls. is_over ls (let b = a in b)) whole ∙ over_later (ls ++ numbered h.number (body.Aborted giver.0 e.why ∷ []))
        (numbered h.number f.0) a (aborted_over ls h.number giver.0 e.why a its)) (let y = z in y.opened)
      where
        f : (mid : List Body) × (front ≡ e.front ++ body.Aborted giver.0 e.why ∷ mid)
        f = front_first is_node_given_up e.front front (body.Aborted giver.0 e.why) (body.Excluded l x n) e.rest rest
            (sym e.are ∙ are) e.gave refl (λ never_same. cc never_same)

        ls : List Line
        ls = p.lines ++ numbered h.number e.front

        whole : h.lines ≡ (ls ++ numbered h.number (body.Aborted giver.0 e.why ∷ [])) ++ numbered h.number f.0
        whole = lines ∙ ap (λ bs. p.lines ++ numbered h.number bs) f.1
            ∙ ap (λ xs. p.lines ++ xs) (numbered_more h.number e.front (body.Aborted giver.0 e.why ∷ f.0))
            ∙ sym (append_assoc p.lines (numbered h.number e.front) (numbered h.number (body.Aborted giver.0 e.why ∷ f.0)))
            ∙ sym (append_assoc ls (numbered h.number (body.Aborted giver.0 e.why ∷ [])) (numbered h.number f.0))

        right : AreRight new_book (ls ++ (numbered h.number (body.Aborted giver.0 e.why ∷ []) ++ numbered h.number f.0))
        right = subst (AreRight new_book) (whole ∙ append_assoc ls (numbered h.number (body.Aborted giver.0 e.why ∷ []))
            (numbered h.number f.0)) k.right

        its : act_in (acts ls) (name giver.0) ≡ Some (let b = a in b)
        its = ap (act_in (acts ls)) giver.2
            ∙ ap (λ xs. act_in xs (name l)) (sym (its_acts ls (right_front ls _ right)))
            ∙ ap (λ B. act_in B.acts (name l)) (book_more new_book p.lines (numbered h.number e.front))
            ∙ acts_stay (book p.lines) (numbered h.number e.front)
            (right_rest new_book p.lines (numbered h.number e.front) (right_front ls _ right)) (name l) a
            (ap (λ xs. act_in xs (name l)) (its_acts p.lines past_right) ∙ named_then ∙ ap Some same)

    -- a Prepare was sent to it
    sent : WasSent p.lines (let b = a in b.uid) n
    sent = ⊎_elim (λ w. subst (λ (b : Act). WasSent p.lines b.uid n) same w)
        (λ o. ⊎_elim (λ off. never under_then (ap (is_committing p.lines) (sym giver.2) ∙ off)) (λ e. absurd (unended e)) o) g.why

    its_lines : h.lines ≡ (let s = sent in s.before) ++ ((let s = sent in s.line) ∷ ((let s = sent in s.after) ++ numbered h.number front))
    its_lines = lines ∙ ap (λ ls. ls ++ numbered h.number front) (let s = sent in s.are)
        ∙ append_assoc (let s = sent in s.before) ((let s = sent in s.line) ∷ (let s = sent in s.after)) (numbered h.number front)

    given_so : has_cause h (body.Excluded l x n) ≡ true
    given_so = commits_at h (name l) (let s = sent in s.before)
        ((let s = sent in s.line) ∷ ((let s = sent in s.after) ++ numbered h.number front)) its_lines k.right a its_name (let y = z in
        y.under)
        (let s = sent in s.called)
        (λ b c. (has_written h.lines b.id x || is_among (joins_of h.lines b.id x) n)
        && (is_given_up h (name l) n b c || answered h c b.uid.node n (frame.Prepared ∷ [])
        (is_in_doubt h n b)))
        (λ i. (let y = z in y.changed) i && or_first (is_given_up h (name l) n (let b = a in b) c)
        (answered h c (let b = a in b.uid.node) n (frame.Prepared ∷ [])
        (is_in_doubt h n (let b = a in b))) (λ j. line_given j && was_asked j) i)
      where
        c : ℕ
        c = (place h (name l) (let s = sent in s.before) ((let s = sent in s.line) ∷ ((let s = sent in s.after) ++ numbered h.number front))
            its_lines k.right a its_name (let y = z in y.under) (let s = sent in s.called)).0

        low_c : c ≤ length (let s = sent in s.before)
        low_c = (place h (name l) (let s = sent in s.before) ((let s = sent in s.line) ∷ ((let s = sent in s.after)
            ++ numbered h.number front)) its_lines k.right a its_name (let y = z in y.under) (let s = sent in s.called)).2

        longer : c ≤ length p.lines
        longer = less c (length (let s = sent in s.before)) _ (length p.lines) low_c (ap length (let s = sent in s.are)
            ∙ length-append (let s = sent in s.before) ((let s = sent in s.line) ∷ (let s = sent in s.after)))
          where
            less : (j m q r : ℕ) → j ≤ m → r ≡ m + q → j ≤ r
            less j m q r low is = omega (arith, low, is)

        -- the line, whatever its number
        any_number : (bs : List Body) → list_any (λ (y : Line). (y.event == h.number) && is_giveup (name l) n y.body) (numbered h.number bs)
            ≡ true → list_any (λ (y : Line). is_giveup (name l) n y.body) (numbered h.number bs) ≡ true
        any_number [] is = absurd (cc is)
        any_number (b ∷ bs) is = by (h.number == h.number) (is_giveup (name l) n b) is (any_number bs)
          where
            by : (q r : Bool) → ((q && r) || list_any test (numbered h.number bs)) ≡ true → (list_any test (numbered h.number bs) ≡ true →
                list_any (λ (y : Line). is_giveup (name l) n y.body) (numbered h.number bs) ≡ true) →
                (r || list_any (λ (y : Line). is_giveup (name l) n y.body) (numbered h.number bs)) ≡ true
            by q true e rest = refl
            by true false e rest = rest e
            by false false e rest = rest e

        line_given : list_any (λ (y : Line). is_giveup (name l) n y.body) (drop c h.lines) ≡ true
        line_given = ap (λ ls. list_any (λ (y : Line). is_giveup (name l) n y.body) (drop c ls)) lines
            ∙ any_dropped (λ (y : Line). is_giveup (name l) n y.body) c p.lines (numbered h.number front) longer (any_number front in_event)

        was_asked : was_sent h c (let b = a in b.uid.node) n (frame.Prepare ∷ []) ≡ true
        was_asked = ap (λ ls. list_any (λ (y : Line). is_frame (let b = a in b.uid.node) n (frame.Prepare ∷ []) y.body) (drop c ls))
            its_lines
            ∙ any_dropped (λ (y : Line). is_frame (let b = a in b.uid.node) n (frame.Prepare ∷ []) y.body) c (let s = sent in s.before)
            ((let s = sent in s.line) ∷ ((let s = sent in s.after) ++ numbered h.number front)) low_c
            (or_first (is_frame (let b = a in b.uid.node) n (frame.Prepare ∷ []) (let s = sent in let y = s.line in y.body))
            (list_any (λ (y : Line). is_frame (let b = a in b.uid.node) n (frame.Prepare ∷ []) y.body)
            ((let s = sent in s.after) ++ numbered h.number front)) (let s = sent in s.says))

-- ---- lines of an event

-- what is known of a line
abbrev IsKnown : List AskedOf → Header → List Line → Line → Type 0
IsKnown A hd before line = IsExcludedLine before line.body × IsExcused A hd line.event before line.body

-- lines of earlier events have smaller numbers
abbrev AreLow : Past → Type 0
AreLow p = list_all (λ (g : Line). nat_le g.event p.count) p.lines ≡ true

none_now : (e : ℕ) (T : Line → Bool) (ls : List Line) → list_all (λ (g : Line). nat_le g.event e) ls ≡ true →
    list_any (λ (g : Line). (g.event == e + 1) && T g) ls ≡ false
none_now e T [] all = refl
none_now e T (g ∷ ls) all =
    let p = and_parts (nat_le g.event e) (list_all (λ (y : Line). nat_le y.event e) ls) all in
    λ i. (below p.0 i && T g) || none_now e T ls p.1 i
  where
    below : nat_le g.event e ≡ true → (g.event == e + 1) ≡ false
    below le = grind (arith, nat_tests, le)

next_low : (p : Past) (e : Event) (bodies : List Body) → AreLow p → AreLow (next p e bodies)
next_low p e bodies all = saying_both p.lines (block (p.count + 1) bodies) (more p.lines all) (new bodies)
  where
    T : Line → Bool
    T g = nat_le g.event (p.count + 1)

    saying_both : (xs ys : List Line) → list_all T xs ≡ true → list_all T ys ≡ true → list_all T (xs ++ ys) ≡ true
    saying_both [] ys q r = r
    saying_both (y ∷ xs) ys q r = let s = and_parts (T y) (list_all T xs) q in λ i. s.0 i && saying_both xs ys s.1 r i

    higher : (m n : ℕ) → nat_le m n ≡ true → nat_le m (n + 1) ≡ true
    higher m n is = grind (arith, nat_tests, is)

    more : (xs : List Line) → list_all (λ (g : Line). nat_le g.event p.count) xs ≡ true → list_all T xs ≡ true
    more [] q = refl
    more (y ∷ xs) q = let s = and_parts (nat_le y.event p.count) (list_all (λ (g : Line). nat_le g.event p.count) xs) q in
        λ i. higher y.event p.count s.0 i && more xs s.1 i

    itself : (m : ℕ) → nat_le m m ≡ true
    itself m = grind (arith, nat_tests)

    new : (bs : List Body) → list_all T (block (p.count + 1) bs) ≡ true
    new [] = refl
    new (b ∷ bs) = λ i. itself (p.count + 1) i && new bs i

module _ (A : List AskedOf) (hd : Header) (form : HeaderFits hd) (whole : List Line) (each : (before : List Line) (line : Line)
    (behind : List Line) → whole ≡ before ++ line ∷ behind → IsKnown A hd before line) where
  module _ (p : Past) (low : AreLow p) (bodies : List Body) (step : (m : Label) (j : ℕ) → In (body.GaveUp m j) bodies →
      IsGivenSo p.lines m j bodies) (more : List Line) where
    one_so : (h : Here) (b : Body) → ((n k : ℕ) → is_crash_at h.accepted n k ≡ true → is_crash_at A n k ≡ true) →
        h.header ≡ hd → h.number ≡ p.count + 1 → (front rest : List Body) →
        h.lines ≡ p.lines ++ numbered h.number front → bodies ≡ front ++ b ∷ rest →
        IsKnown A hd h.lines (record { event = h.number; body = b }) → is_excluded b ≡ true → has_cause h b ≡ true
    one_so h (body.Excluded l x n) fewer header number front rest lines are k its = ⊎_elim
        (λ w. doubted_so hd h header l x n k.0 A (subst (λ (b : Act). WasDoubted A hd h.lines b.uid n) same w) form fewer)
        (λ gave. given_so hd h header l x n k.0 p bodies front rest step lines are
        (subst (λ m. list_any (λ (g : Line). (g.event == m) && is_giveup (name l) n g.body) p.lines ≡ false) (sym number)
        (none_now p.count (λ (g : Line). is_giveup (name l) n g.body) p.lines low)) gave)
        r.2
      where
        r : (a : Act) × (act_in (let B = book h.lines in B.acts) (name l) ≡ Some a)
            × (WasDoubted A hd h.lines a.uid n ⊎ (was_given h.lines h.number l n ≡ true))
        r = k.1 (let y = k.0 in y.right)

        same : r.0 ≡ (let y = excluding h.lines l x n k.0 in y.act)
        same = one_named hd h header l x n k.0 r.0 r.1
    one_so h b fewer header number front rest lines are k its = absurd (cc its)

    lines_so : (h : Here) (front rest : List Body) → ((n k : ℕ) → is_crash_at h.accepted n k ≡ true → is_crash_at A n k ≡ true) →
        h.header ≡ hd → h.number ≡ p.count + 1 →
        h.lines ≡ p.lines ++ numbered h.number front → bodies ≡ front ++ rest → whole ≡ h.lines ++ (numbered h.number rest ++ more) →
        are_so (row (λ h. is_excluded)) h rest ≡ true
    lines_so h front [] fewer header number lines are is = refl
    lines_so h front (b ∷ rest) fewer header number lines are is =
        λ i. one (is_excluded b) refl i && lines_so (behind h b) (front ++ b ∷ []) rest fewer header number
        ((λ j. lines j ++ numbered h.number (b ∷ []))
        ∙ append_assoc p.lines (numbered h.number front) (numbered h.number (b ∷ []))
        ∙ ap (λ xs. p.lines ++ xs) (sym (numbered_more h.number front (b ∷ []))))
        (are ∙ sym (append_assoc front (b ∷ []) rest))
        (is ∙ sym (append_assoc h.lines (record { event = h.number; body = b } ∷ []) (numbered h.number rest ++ more))) i
      where
        one : (y : Bool) → is_excluded b ≡ y → (not y || has_cause h b) ≡ true
        one false off = refl
        one true on = one_so h b fewer header number front rest lines are
            (each h.lines (record { event = h.number; body = b }) (numbered h.number rest ++ more) is) on

  along_so : (es : List Event) (p end : Past) (ending : List Line) → AreLow p → Accepts A p → Covers A p.count es →
      whole ≡ end.lines ++ ending →
      Along (StoresStep hd) p es end → Along (RowStep (λ h. is_excluded) hd) p es end
  along_so [] p end ending low accepts covers is a = a
  along_so (e ∷ es) p end ending low accepts covers is a =
      let r = more_lines (StoresStep hd) es (next p e a.0) end a.2 in (
        a.0,
        lines_so p low a.0 a.1 (r.0 ++ ending) (here_at hd p e a.0) [] a.0 (accepts_next A p e a.0 accepts covers.0) refl refl
            (sym (Words.append-nil p.lines)) refl
            (is ∙ ap (λ ls. ls ++ ending) r.1 ∙ append_assoc (p.lines ++ block (p.count + 1) a.0) r.0 ending
            ∙ append_assoc p.lines (block (p.count + 1) a.0) (r.0 ++ ending)),
        along_so es (next p e a.0) end ending (next_low p e a.0 low) (accepts_next A p e a.0 accepts covers.0) covers.1 is a.2,
      )

-- ---- in every run

pub excluded_run : RowHolds is_excluded
excluded_run hd r form =
    let s = stores_run hd r form in
    let A = asked_from 0 (map event_of r.moves) in
    let agrees : Agrees A 0 (map event_of r.moves) = λ n k less. refl in (
      s.0,
      s.1,
      along_so A hd form.header (journal_by hd r) (λ before line behind is. (
        each_excluded hd r form before line behind is,
        so_at (λ ls l. IsExcused A hd l.event ls l.body) [] before line behind
            (subst (AreReasoned A hd []) is (lines_reasoned A hd form.header r form agrees)),
      )) (run_events hd r) (at_start r.start) s.0 s.1 refl (λ n k is. absurd (cc is)) (covers_first A 0 (let w = world_by hd r in w.event)
          (map event_of r.moves) agrees) s.3 s.2,
      s.3,
      s.4,
    )
