-- The row of committed lines: each store that is listed behind one of a top, of each object that this wrote, has prepared it since its
-- commit was called, or stopped at it.
use Rattle.arj_law_parts.proofs.Words
use Words.{◌≡◌, ◌⊎◌, ◌∙◌, ◌+◌, ◌<◌, ◌≤◌, ◌==◌, ◌&&◌, ◌||◌, ◌++◌, not, ℕ, Bool, true, false, cond, List, [], ◌∷◌, Option, Some, None, refl}
use Words.{sym}
use Words.{ap, subst, inl, inr, ⊎_elim, arith, and_parts, append_assoc, bytes_eq, bytes_eq-Decides, eq-eqb, find, list_all, map}
use Words.{numbered, option_map, or_cases, or_left, or_right, uid_eq, uid_is, uid_same, writes, In, Body, Event, Header, Kind, Label, Line}
use Words.{⊤, Node, ObjectState, Start}
use Words.{held_at, is_serial, is_some, journal_by, name, object, world_from}
use Words.body
use Words.kind
use Words.role
use Rattle.arj_law_parts.specs.moves.Moments.{no_history}
use Rattle.arj_law_parts.specs.moves.Seen.{is_quiet_line}
use Rattle.arj_law_runs.proofs.follow.Along.{event_of}
use Rattle.arj_law_runs.proofs.follow.Frames as frames
use Rattle.arj_law_runs.proofs.Terms.{Act, Placed, acts, new_book}
use Rattle.arj_law_runs.proofs.journal.{Books.open_is, Closed.one_act, Models.its_acts, Models.its_sound, Models.named_in}
use Rattle.arj_law_runs.proofs.journal.{Models.right_before, Ties.named_label}
use Rattle.arj_law_runs.specs.follow.Frames.{are_so, run_events}
use Rattle.arj_law_runs.specs.journal.Book.{book, is_decided, is_top}
use Rattle.arj_law_runs.specs.journal.Laws.{AreDistinct}
use Rattle.arj_law_runs.specs.journal.Right.{AreRight, Right}
use Rattle.arj_law_serial.proofs.Terms.{is_among}
use Rattle.arj_model.specs.Actions.{act_in, committed, has_end, top_in}
use Rattle.arj_model.specs.Calls.{Call, committed_calls, committings, surviving}
use Rattle.arj_model.specs.CauseEnds.{commit_caused, is_commit_of, is_prepared, prepared_in, stores_have}
use Rattle.arj_model.specs.CausePends.{called_at, halts_preparing, is_crash_at, pends_step}
use Rattle.arj_model.specs.CauseSpans.{Here, behind, commit_here, here_at, holds_in}
use Rattle.arj_model.specs.Caused.{has_cause}
use Rattle.arj_model.specs.Last.{count_tops, listed, object_line, writes_of}
use Rattle.arj_model.specs.Past.{Along, Asked as AskedOf, Past, at_start, block, next}
use Rattle.arj_model.specs.Refusals.{holds_of, is_committing}
use Rattle.arj_model.specs.Serial.{writes_on}
use Rattle.arj_promise.specs.Runs.{HeaderFits, IsInForm, Run as RunOf, world_by}
use Rattle.arj_protocol.specs.Tree.{is_nested}
use Rattle.arj_law_cause.proofs.confirm.{Joined.IsEarly, Joined.early_before, Runs.runs_early, Versions.held_low}
use Rattle.arj_law_cause.proofs.kinds.Committed.{right_lines}
use Rattle.arj_law_cause.proofs.kinds.Committing.{is_under_way, under_way_run}
use Rattle.arj_law_cause.proofs.kinds.Lines.{more_lines}
use Rattle.arj_law_cause.proofs.rows.{Pends.Pends, Pends.fold, Pends.item_there, Pends.pends_at, Running.InEvent, Running.first_so}
use Rattle.arj_law_cause.proofs.rows.Running.{none_beside}
use Rattle.arj_law_cause.proofs.stores.{Counting.fewer, Counting.has_top, Counting.survives_on, Counting.writer_later}
use Rattle.arj_law_cause.proofs.stores.{Counting.wrote_not, Counting.wrote_now, Holding.object_there, Holding.store_prepared}
use Rattle.arj_law_cause.proofs.stores.Moments.{AreCalm, AreSaid, IsSaidThen, said_at}
use Rattle.arj_law_cause.proofs.stores.Saying.{calm_listed, ended_by}
use Rattle.arj_law_cause.proofs.votes.Crashes.{Accepts, Agrees, Covers, accepts_next, asked_from, covers_first, halts_more, runs_so}
use Rattle.arj_law_cause.proofs.waits.waiting.Lists.{any_in, found_there, same_test}
use Rattle.arj_law_cause.specs.kinds.Kinds.{is_committed}
use Rattle.arj_law_cause.specs.kinds.Rows.{RowHolds, TestedStep, tested}
use Rattle.std.specs.Prelude.{drop, take}

-- ---- what may be pending was prepared, or the store stopped at it

module _ (A : List AskedOf) (a : Act) (n : ℕ) where
  step_some : (before : List Line) (e : ℕ) (b : Body) (on : Bool) →
      pends_step (halts_preparing A a.uid.node n before e) n a.uid b on ≡ true →
      (on ≡ true) ⊎ (is_prepared A a n before e b ≡ true)
  step_some before e (body.Prepared m v role.Store) on is = or_cases on ((m == n) && uid_eq v a.uid) is
  step_some before e (body.Prepared m v role.Names) on is = inl is
  step_some before e (body.Halted m) on is = or_cases on ((m == n) && halts_preparing A a.uid.node n before e) is
  step_some before e (body.Done m v role.Store f) on is = inl (and_parts on (not ((m == n) && uid_eq v a.uid)) is).0
  step_some before e (body.Done m v role.Names f) on is = inl is
  step_some before e b on is = inl is

  pend_some : (before : List Line) (on : Bool) (xs : List Line) → fold A n a.uid before on xs ≡ true →
      (on ≡ true) ⊎ (prepared_in A a n before xs ≡ true)
  pend_some before on [] is = inl is
  pend_some before on (x ∷ xs) is = ⊎_elim {C = (on ≡ true) ⊎ (prepared_in A a n before (x ∷ xs) ≡ true)}
      (λ was. ⊎_elim {C = (on ≡ true) ⊎ (prepared_in A a n before (x ∷ xs) ≡ true)} (λ old. inl old)
      (λ here. inr (or_left (is_prepared A a n before x.event x.body) (prepared_in A a n (before ++ x ∷ []) xs) here))
      (step_some before x.event x.body on was))
      (λ more. inr (or_right (is_prepared A a n before x.event x.body) (prepared_in A a n (before ++ x ∷ []) xs) more))
      (pend_some (before ++ x ∷ []) (pends_step (halts_preparing A a.uid.node n before x.event) n a.uid x.body on) xs is)

  calm_line : (before : List Line) (e : ℕ) (b : Body) → is_quiet_line b ≡ true → is_prepared A a n before e b ≡ false
  calm_line before e (body.Prepared m v r) is = absurd (cc is)
  calm_line before e (body.Halted m) is = absurd (cc is)
  calm_line before e b is = refl

  calm_none : (before xs : List Line) → AreCalm xs → prepared_in A a n before xs ≡ false
  calm_none before [] all = refl
  calm_none before (x ∷ xs) all = λ i. calm_line before x.event x.body all.0 i || calm_none (before ++ x ∷ []) xs all.1 i

  -- so it was since the place of the call, where only the line that says so, and quiet ones, stand behind these
  since : (before calm : List Line) (line : Line) (l : Label) → line.body ≡ body.Committed l → AreCalm calm →
      (m : Placed (List Act)) → called_at before a.uid ≡ Some m → Pends A (before ++ line ∷ calm) n a.uid →
      prepared_in A a n (take m.at before) (drop m.at before) ≡ true
  since before calm line l is quiet m at pend = ⊎_elim {C = prepared_in A a n (take m.at before) (drop m.at before) ≡ true}
      (λ was. ⊎_elim {C = prepared_in A a n (take m.at before) (drop m.at before) ≡ true} (λ never. absurd (cc never)) (λ yes. yes)
      (pend_some (take m.at before) false (drop m.at before) was))
      (λ here. let no_way : true ≡ false = sym here
      ∙ (λ i. is_prepared A a n before line.event (is i) || calm_none (before ++ line ∷ []) calm quiet i) in
      absurd (cc no_way))
      (pend_some before (fold A n a.uid (take m.at before) false (drop m.at before)) (line ∷ calm)
      (sym (pends_at A before (line ∷ calm) n a.uid m at) ∙ pend))

-- where fewer of the events count as crashes, it was so too
module _ (A B : List AskedOf) (fewer : (n k : ℕ) → is_crash_at B n k ≡ true → is_crash_at A n k ≡ true) (a : Act) (n : ℕ) where
  one_fewer : (before : List Line) (e : ℕ) (b : Body) → is_prepared A a n before e b ≡ true → is_prepared B a n before e b ≡ true
  one_fewer before e (body.Halted m) is = let p = and_parts (m == n) (halts_preparing A a.uid.node n before e) is in
      λ i. p.0 i && halts_more A B fewer a.uid.node n before e p.1 i
  one_fewer before e (body.Prepared m v role.Store) is = is
  one_fewer before e b is = is

  prepared_fewer : (before xs : List Line) → prepared_in A a n before xs ≡ true → prepared_in B a n before xs ≡ true
  prepared_fewer before [] is = is
  prepared_fewer before (x ∷ xs) is = ⊎_elim {C = prepared_in B a n before (x ∷ xs) ≡ true}
      (λ here. or_left (is_prepared B a n before x.event x.body) (prepared_in B a n (before ++ x ∷ []) xs)
      (one_fewer before x.event x.body here))
      (λ more. or_right (is_prepared B a n before x.event x.body) (prepared_in B a n (before ++ x ∷ []) xs)
      (prepared_fewer (before ++ x ∷ []) xs more))
      (or_cases (is_prepared A a n before x.event x.body) (prepared_in A a n (before ++ x ∷ []) xs) is)

-- ---- the place of the call

find_same : {A : Type 0} (f g : A → Bool) (xs : List A) → ((x : A) → In x xs → f x ≡ g x) → find f xs ≡ find g xs
find_same f g [] each = refl
find_same f g (x ∷ xs) each = λ i. cond (each x (inl refl) i) (Some x) (find_same f g xs (λ y j. each y (inr j)) i)

module _ (lines : List Line) (right : AreRight new_book lines) (l : List ℕ) (a : Act) (named : act_in (acts lines) l ≡ Some a)
    (there : In a (acts lines)) where
  distinct : AreDistinct (acts lines)
  distinct = let s = its_sound lines right in s.distinct

  same_top : (m : Placed (List Act)) → In m (committings lines) → (o : Option Act) → top_in m.it ≡ o →
      holds_of (λ (top : Act). bytes_eq top.label l) o ≡ holds_in (λ (top : Act). uid_eq top.uid a.uid) o
  same_top m i None is = refl
  same_top m i (Some t) is = same_test (bytes_eq t.label l) (uid_eq t.uid a.uid)
      (λ label. let e : ◌≡◌ {A = Option Act} (Some t) (Some a) = sym (found_there (acts lines) distinct t t_there)
      ∙ ap (act_in (acts lines)) ((bytes_eq-Decides t.label l).0 label) ∙ named in
      let it : t ≡ a = cc e in ap (λ (z : Act). uid_eq z.uid a.uid) it ∙ uid_same a.uid)
      (λ uid. let it : t ≡ a = one_act (acts lines) distinct t a t_there there (uid_is t.uid a.uid uid) in
      (bytes_eq-Decides t.label l).1 (ap (λ (z : Act). z.label) it ∙ named_label (acts lines) l a named))
    where
      t_there : In t (acts lines)
      t_there = item_there [] 0 lines m i t is

  call_place : (h : Here) → h.lines ≡ lines → (c : ℕ) → commit_here h l ≡ Some c →
      (m : Placed (List Act)) × (called_at lines a.uid ≡ Some m) × (m.at ≡ c)
  call_place h at c is = by (is_committing h.lines l) is
    where
      same : find (λ (m : Placed (List Act)). holds_of (λ (top : Act). bytes_eq top.label l) (top_in m.it)) (committings h.lines)
          ≡ called_at lines a.uid
      same = ap (λ ls. find (λ (m : Placed (List Act)). holds_of (λ (top : Act). bytes_eq top.label l) (top_in m.it)) (committings ls)) at
          ∙ find_same (λ (m : Placed (List Act)). holds_of (λ (top : Act). bytes_eq top.label l) (top_in m.it))
          (λ (m : Placed (List Act)). holds_in (λ (top : Act). uid_eq top.uid a.uid) (top_in m.it)) (committings lines)
          (λ m i. same_top m i (top_in m.it) refl)

      some : (o : Option (Placed (List Act))) → called_at lines a.uid ≡ o → option_map (λ (m : Placed (List Act)). m.at) o ≡ Some c →
          (m : Placed (List Act)) × (called_at lines a.uid ≡ Some m) × (m.at ≡ c)
      some None found e = absurd (cc e)
      some (Some m) found e = (m, found, (let k : ◌≡◌ {A = Option ℕ} (Some m.at) (Some c) = e in cc k))

      by : (b : Bool) → cond b (option_map (λ (m : Placed (List Act)). m.at) (find (λ (m : Placed (List Act)).
          holds_of (λ (top : Act). bytes_eq top.label l) (top_in m.it)) (committings h.lines))) None ≡ Some c →
          (m : Placed (List Act)) × (called_at lines a.uid ≡ Some m) × (m.at ≡ c)
      by false e = absurd (cc e)
      by true e = some (called_at lines a.uid) refl (ap (option_map (λ (m : Placed (List Act)). m.at)) (sym same) ∙ e)

-- ---- each store

all_true : {A : Type 0} (f : A → Bool) (xs : List A) → ((x : A) → In x xs → f x ≡ true) → list_all f xs ≡ true
all_true f [] each = refl
all_true f (x ∷ xs) each = λ i. each x (inl refl) i && all_true f xs (λ y j. each y (inr j)) i

module _ (A : List AskedOf) (hd : Header) (form : HeaderFits hd) (before : List Line) (line : Line) (rest : List Line) (l : Label)
    (is : line.body ≡ body.Committed l) (t : IsSaidThen A hd before line rest) (early : IsEarly (before ++ line ∷ rest)) (a : Act)
    (right : AreRight new_book before) (named : act_in (acts before) (name l) ≡ Some a) (there : In a (acts before))
    (undone : is_decided (book before) a.uid ≡ false) (kind : is_top a.kind ≡ true) where
  now_early : IsEarly (let N = t.now in N.lines)
  now_early = subst IsEarly (sym t.lines) (early_before (before ++ line ∷ t.calm) t.rest
      (subst IsEarly (ap (λ ls. before ++ line ∷ ls) t.behind_is ∙ sym (append_assoc before (line ∷ t.calm) t.rest)) early))

  first_early : IsEarly (let N = t.first in N.lines)
  first_early = early_before (let N = t.first in N.lines) t.more (subst IsEarly t.until (early_before before (line ∷ rest) early))

  -- the stores listed then are those listed behind the line
  lists : (x : ℕ) → listed hd (let N = t.now in N.lines) x ≡ listed hd (before ++ line ∷ []) x
  lists x = ap (λ ls. listed hd ls x) (t.lines ∙ sym (append_assoc before (line ∷ []) t.calm))
      ∙ calm_listed hd (before ++ line ∷ []) t.calm x t.quiet

  module _ (c : Call) (survives : In c (surviving before a.id)) (writing : writes c.op ≡ true) where
    on_it : writes_on c.x c ≡ true
    on_it = λ i. eq-eqb c.x c.x refl i && writing i

    ended : has_end (committed (before ++ line ∷ t.calm)) a.id ≡ true
    ended = ended_by before t.calm line l is t.quiet a named

    counts : In c (committed_calls (before ++ line ∷ t.calm)) × (c.top ≡ a.id)
    counts = survives_on before (line ∷ t.calm) a.id ended c survives

    -- one writer more
    more_now : count_tops (writes_of (let N = t.first in N.lines) c.x) < count_tops (writes_of (let N = t.now in N.lines) c.x)
    more_now = fewer (writes_of (let N = t.first in N.lines) c.x) (writes_of (let N = t.now in N.lines) c.x) a.id
        (λ m on. ap (λ ls. has_top m (writes_of ls c.x)) t.lines
        ∙ writer_later before (line ∷ t.calm) c.x m (ap (λ ls. has_top m (writes_of ls c.x)) t.until
        ∙ writer_later (let N = t.first in N.lines) t.more c.x m on))
        (ap (λ ls. has_top a.id (writes_of ls c.x)) t.lines
        ∙ ap (λ n. has_top n (writes_of (before ++ line ∷ t.calm) c.x)) (sym counts.1)
        ∙ wrote_now (before ++ line ∷ t.calm) c.x c counts.0 on_it)
        (by (has_top a.id (writes_of (let N = t.first in N.lines) c.x)) refl)
      where
        by : (b : Bool) → has_top a.id (writes_of (let N = t.first in N.lines) c.x) ≡ b → b ≡ false
        by false e = refl
        by true e = let no_way : true ≡ false = sym (ap (λ ls. has_top a.id (writes_of ls c.x)) t.until
            ∙ writer_later (let N = t.first in N.lines) t.more c.x a.id e) ∙ wrote_not before right a there undone c.x in absurd (cc no_way)

    object_line_there : is_some (object_line hd c.x) ≡ true
    object_line_there = object_there hd form t.now t.reached now_early before t.calm line l is t.quiet t.lines a named undone kind c
        survives writing

    -- no store held so late a version before
    low : (s : ℕ) (n : Node) (st : ObjectState) → (let N = t.now in N.nodes s) ≡ Some n →
        held_at (object c.x) (let d = n.disk in d.store) ≡ Some st →
        st.version < (let N = t.now in let m = N.start.marks.states c.x in m.version)
        + count_tops (writes_of (let N = t.now in N.lines) c.x)
    low s n st at held =
        let m = t.stores s n at in
        let le = held_low hd c.x form object_line_there t.first t.was first_early s m.0 st m.1
        (ap (λ d. held_at (object c.x) d) m.2 ∙ held) in
        sum st.version (let N = t.first in let k = N.start.marks.states c.x in k.version)
        (let N = t.now in let k = N.start.marks.states c.x in k.version)
        (count_tops (writes_of (let N = t.first in N.lines) c.x)) (count_tops (writes_of (let N = t.now in N.lines) c.x))
        (ap (λ (z : Start). let k = z.marks.states c.x in k.version) t.start) le more_now
      where
        sum : (v p q b d : ℕ) → q ≡ p → v ≤ p + b → b < d → v < q + d
        sum v p q b d same le less = omega (arith, same, le, less)

    pub each_store : (s : ℕ) → is_among (listed hd (before ++ line ∷ []) c.x) s ≡ true → Pends A (before ++ line ∷ t.calm) s a.uid
    each_store s among =
        let p = store_prepared hd form t.now t.reached now_early before t.calm line l is t.quiet t.lines a named undone kind c
        survives writing s
        (ap (λ ns. is_among ns s) (lists c.x) ∙ among) (λ n st at held. low s n st at held) in
        subst (λ ls. Pends A ls s a.uid) t.lines (t.pend s p.0 a.uid p.1 p.2)

  -- so each has prepared it since the place of the call, or stopped at it
  pub all_stores : (h : Here) → ((n k : ℕ) → is_crash_at h.accepted n k ≡ true → is_crash_at A n k ≡ true) → h.header ≡ hd →
      h.lines ≡ before → (c : ℕ) → commit_here h (name l) ≡ Some c → stores_have h a c (before ++ line ∷ []) ≡ true
  all_stores h fewer header at c place =
      (λ i. list_all (λ (call : Call). not (writes call.op) || list_all (λ s. prepared_in h.accepted a s (take c (at i)) (drop c (at i)))
      (listed (header i) (before ++ line ∷ []) call.x)) (surviving (at i) a.id))
      ∙ all_true (λ (call : Call). not (writes call.op) || list_all (λ s. prepared_in h.accepted a s (take c before) (drop c before))
      (listed hd (before ++ line ∷ []) call.x)) (surviving before a.id) (λ call i. one call i (writes call.op) refl)
    where
      m : (z : Placed (List Act)) × (called_at before a.uid ≡ Some z) × (z.at ≡ c)
      m = call_place before right (name l) a named there h at c place

      among_in : (ns : List ℕ) (s : ℕ) → In s ns → is_among ns s ≡ true
      among_in ns s i = any_in (λ n. n == s) ns s i (eq-eqb s s refl)

      one : (call : Call) → In call (surviving before a.id) → (b : Bool) → writes call.op ≡ b →
          (not b || list_all (λ s. prepared_in h.accepted a s (take c before) (drop c before)) (listed hd (before ++ line ∷ []) call.x))
          ≡ true
      one call i false e = refl
      one call i true e = all_true (λ s. prepared_in h.accepted a s (take c before) (drop c before))
          (listed hd (before ++ line ∷ []) call.x)
          (λ s j. prepared_fewer A h.accepted fewer a s (take c before) (drop c before)
          ((λ k. prepared_in A a s (take (sym m.2 k) before) (drop (sym m.2 k) before))
          ∙ since A a s before t.calm line l is t.quiet m.0 m.1
          (each_store call i e s (among_in (listed hd (before ++ line ∷ []) call.x) s j))))

-- ---- rows of what is known of each line, with its event's number

-- by the events that the list counts as crashes
module _ (hd : Header) (A : List AskedOf) (T : List Line → Line → Type 0) (of : Body → Bool) (test goal : Here → Body → Bool)
    (to : (h : Here) (b : Body) → h.header ≡ hd → ((n k : ℕ) → is_crash_at h.accepted n k ≡ true → is_crash_at A n k ≡ true) →
    of b ≡ true → T h.lines (record { event = h.number; body = b }) → test h b ≡ true → goal h b ≡ true)
    (lines : List Line) (each : (before : List Line) (line : Line) (behind : List Line) → lines ≡ before ++ line ∷ behind → T before line)
  where
    abbrev of_kind : Here → Body → Bool
    of_kind h = of

    so_with : (h : Here) (bs : List Body) (more : List Line) → h.header ≡ hd →
        ((n k : ℕ) → is_crash_at h.accepted n k ≡ true → is_crash_at A n k ≡ true) → lines ≡ h.lines ++ (numbered h.number bs ++ more) →
        are_so (tested test of_kind) h bs ≡ true → are_so (tested goal of_kind) h bs ≡ true
    so_with h [] more header fewer is passes = refl
    so_with h (b ∷ bs) more header fewer is passes =
        let p = and_parts (tested test of_kind h b) (are_so (tested test of_kind) (behind h b) bs) passes in
        λ i. one (of b) refl p.0 i && so_with (behind h b) bs more header fewer
        (is ∙ sym (append_assoc h.lines (record { event = h.number; body = b } ∷ []) (numbered h.number bs ++ more))) p.1 i
      where
        one : (x : Bool) → of b ≡ x → (not (of b) || test h b) ≡ true → (not x || goal h b) ≡ true
        one false other passed = refl
        one true its passed = to h b header fewer its (each h.lines (record { event = h.number; body = b })
            (numbered h.number bs ++ more) is) ((λ i. not (sym its i) || test h b) ∙ passed)

    along_with : (es : List Event) (p end : Past) (ending : List Line) → Accepts A p → Covers A p.count es → lines ≡ end.lines ++ ending →
        Along (TestedStep test of_kind hd) p es end → Along (TestedStep goal of_kind hd) p es end
    along_with [] p end ending accepts covers is a = a
    along_with (e ∷ es) p end ending accepts covers is a =
        let r = more_lines (TestedStep test of_kind hd) es (next p e a.0) end a.2 in
        let then = accepts_next A p e a.0 accepts covers.0 in (
          a.0,
          so_with (here_at hd p e a.0) a.0 (r.0 ++ ending) refl then
              (is ∙ ap (λ ls. ls ++ ending) r.1 ∙ append_assoc (p.lines ++ block (p.count + 1) a.0) r.0 ending
              ∙ append_assoc p.lines (block (p.count + 1) a.0) (r.0 ++ ending)) a.1,
          along_with es (next p e a.0) end ending then covers.1 is a.2,
        )

-- ---- the row

-- what is known of a line
record IsKnownLine (A : List AskedOf) (hd : Header) (before : List Line) (line : Line) : Type 0 where
  right : AreRight new_book before
  its : Right (book before) line.body
  rest : List Line
  early : IsEarly (before ++ line ∷ rest)
  said : (l : Label) → line.body ≡ body.Committed l → IsSaidThen A hd before line rest

top_or_nested : (k : Kind) → is_serial k ≡ false → is_nested k ≡ false → is_top k ≡ true
top_or_nested kind.Nested plain off = absurd (cc off)
top_or_nested kind.Serial plain off = absurd (cc plain)
top_or_nested kind.Top plain off = refl
top_or_nested kind.Independent plain off = refl
top_or_nested kind.Constituent plain off = refl

to_cause : (A : List AskedOf) (hd : Header) → HeaderFits hd → (h : Here) (b : Body) → h.header ≡ hd →
    ((n k : ℕ) → is_crash_at h.accepted n k ≡ true → is_crash_at A n k ≡ true) → is_committed b ≡ true →
    IsKnownLine A hd h.lines (record { event = h.number; body = b }) → is_under_way h b ≡ true → has_cause h b ≡ true
to_cause A hd form h (body.Committed l) header fewer of k is =
    ap (holds_of (λ (c : Act). commit_caused h (name l) c.kind c
    (h.lines ++ record { event = h.number; body = body.Committed l } ∷ []))) named ∙ by (let c = a in c.kind) refl
  where
    a : Act
    a = (let r = k.its in r.0)

    named : act_in (acts h.lines) (name l) ≡ Some a
    named = let r = k.its in let o = r.1 in ap (λ xs. act_in xs (name l)) (sym (its_acts h.lines k.right)) ∙ o.named

    there : In a (acts h.lines)
    there = named_in (acts h.lines) (name l) a named

    undone : is_decided (book h.lines) (let c = a in c.uid) ≡ false
    undone = let r = k.its in let o = r.1 in
        λ i. (open_is (book h.lines) (let c = r.0 in c.uid) o.unended).0 i || o.unfound i

    was : cond (is_nested (let c = a in c.kind)) (is_commit_of (name l) h.event) (holds_in (λ (n : ℕ). true) (commit_here h (name l)))
        ≡ true
    was = sym (ap (holds_of (λ (c : Act). cond (is_nested c.kind) (is_commit_of (name l) h.event)
        (holds_in (λ (n : ℕ). true) (commit_here h (name l))))) named) ∙ is

    of_top : is_nested (let c = a in c.kind) ≡ false →
        holds_in (λ (n : ℕ). stores_have h a n (h.lines ++ record { event = h.number; body = body.Committed l } ∷ []))
        (commit_here h (name l)) ≡ true
    of_top off = at (commit_here h (name l)) refl
        ((λ i. cond (sym off i) (is_commit_of (name l) h.event) (holds_in (λ (n : ℕ). true) (commit_here h (name l)))) ∙ was)
      where
        at : (o : Option ℕ) → commit_here h (name l) ≡ o → holds_in (λ (n : ℕ). true) o ≡ true →
            holds_in (λ (n : ℕ). stores_have h a n (h.lines ++ record { event = h.number; body = body.Committed l } ∷ [])) o ≡ true
        at None none on = absurd (cc on)
        at (Some c) some on = all_stores A hd form h.lines (record { event = h.number; body = body.Committed l }) k.rest l refl
            (k.said l refl) k.early a k.right named there undone
            (top_or_nested (let c = a in c.kind) (let r = k.its in r.2) off) h fewer header refl c some

    by : (q : Kind) → (let c = a in c.kind) ≡ q →
        commit_caused h (name l) q a (h.lines ++ record { event = h.number; body = body.Committed l } ∷ []) ≡ true
    by kind.Nested same = (λ i. cond (is_nested (sym same i)) (is_commit_of (name l) h.event)
        (holds_in (λ (n : ℕ). true) (commit_here h (name l)))) ∙ was
    by kind.Serial same = of_top (ap is_nested same)
    by kind.Top same = of_top (ap is_nested same)
    by kind.Independent same = of_top (ap is_nested same)
    by kind.Constituent same = of_top (ap is_nested same)
to_cause A hd form h b header fewer of k is = absurd (cc of)

-- of each line that says that an action committed, what was seen then
lines_said : (A : List AskedOf) (hd : Header) (r : RunOf hd) → IsInForm hd r → Agrees A 0 (map event_of r.moves) →
    AreSaid A hd [] (journal_by hd r)
lines_said A hd r form agrees =
    let z = runs_so A hd form.header (λ M. ⊤) (InEvent A hd) (none_beside A hd) r.moves form.stops (at_start r.start) (no_history r.start)
    (world_from hd r.start) (frames.first_stands hd form.header r.start r.formed) agrees
    (first_so A hd (λ M. ⊤) (InEvent A hd) (none_beside A hd) r.start r.formed tt) in
    let s = z.settled in s.pends.1

pub committed_run : RowHolds is_committed
committed_run hd r form =
    let u = under_way_run hd r form in
    let A = asked_from 0 (map event_of r.moves) in
    let agrees : Agrees A 0 (map event_of r.moves) = λ n k less. refl in (
      u.0,
      u.1,
      along_with hd A (IsKnownLine A hd) is_committed is_under_way has_cause (to_cause A hd form.header) (journal_by hd r)
          (λ before line rest is.
          let x = right_before new_book before line rest (subst (AreRight new_book) is (right_lines hd r)) in record {
            right = x.0;
            its = x.1;
            rest = rest;
            early = subst IsEarly is (runs_early hd r form);
            said = λ l it. said_at A hd [] before line rest (subst (AreSaid A hd []) is (lines_said A hd r form agrees)) l it;
          }) (run_events hd r) (at_start r.start) u.0 u.1 (λ n k is. absurd (cc is))
          (covers_first A 0 (let w = world_by hd r in w.event) (map event_of r.moves) agrees) u.3 u.2,
      u.3,
      u.4,
    )
