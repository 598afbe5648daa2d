-- A conflict, and an answer of an operation, has its cause by the journal where the line is written.
use Rattle.arj_law_parts.proofs.Words
use Words.{◌≡◌, ◌∙◌, ◌++◌, ◌&&◌, ◌||◌, not, ℕ, Bool, true, false, List, [], ◌∷◌, length, take, Option, Some, None, refl, sym}
use Words.{BoundReply, ObjectState, binding_eq, ◌⊎◌, ◌+◌, ap, subst, arith, eq-eqb, and_parts}
use Words.{list_any, Binding, In, End, Ask, Asked, Event, Header, Line}
use Words.{Mode, Op, Uid, entry, object}
use Rattle.arj_protocol.specs.Words.{FrameKind}
use Words.{Answer, Known, Label, leb-true, node_at, ◌≤◌, ◌<◌, is_nested, ask_at, op_mode, is_on}
use Rattle.std.specs.Prelude.{drop}
use Words.{last_uid, name, uid_eq, uid_same, uids_of, top_of, top_path, tops_of, actor, Reply, response, frame_kind}
use Words.{⊎_elim, ◌==◌, inl, inr, is_include, At, AtActivate, AtBind, AtInvoke, AtLoad, AtNote, Goal, Include, Run, Steps, Doing, nat_le}
use Words.{What, binding_eq, binding_less, binding_number, cond, differs, nat_lt, nat_tests, next_ask}
use Words.{two_incs, Path, suc, zero, tops_of}
use Rattle.arj_protocol.specs.Order.{greater_binding, lesser_binding}
use Words.ask
use Words.body
use Words.bound
use Words.frame
use Words.invoked
use Words.loaded
use Words.recorded
use Words.what
use Words.mode
use Rattle.arj_law_serial.proofs.Terms
use Terms.{Act, act_in, acts, any_in, has_act, uids, path}
use Rattle.arj_law_lock_view.specs.asking.Asked.{accepted_of, asks_goal}
use Rattle.arj_law_parts.specs.moves.Moments.{Moment}
use Rattle.arj_law_lock_view.specs.moments.Made.{BeginsWith}
use Rattle.arj_law_parts.specs.parts.Messages.{IsTopAction}
use Rattle.arj_law_runs.specs.addresses.Binds.{StandsOn}
use Rattle.arj_law_runs.specs.calls.Coords.{bare, head_of}
use Rattle.arj_model.specs.CauseAnswers.{conflict_caused, has_lock, includes_caused, meets, meets_at_naming, meets_at_server}
use Rattle.arj_model.specs.CauseAnswers.{meets_at_store}
use Rattle.arj_model.specs.CauseAnswers.{mode_of_call, modes_on_entry, ok_caused, was_told}
use Rattle.arj_promise.specs.Runs.{HeaderFits}
use Rattle.arj_model.specs.Actions.{Placed, root_in, top_in}
use Rattle.arj_model.specs.CausePends.{called_at, is_pending, may_store, pends, pends_from}
use Rattle.arj_model.specs.CauseAnswers as cause
use Rattle.arj_law_parts.proofs.parts.Begun.{path_some}
use Rattle.arj_law_runs.proofs.journal.{Models.in_later, Owners.acts_more, Ties.on_path}
use Rattle.arj_model.specs.CauseCopies.{had_both, has_entered_in, is_older, was_active_in, was_bound}
use Rattle.arj_law_runs.proofs.calls.WholeRuns.{few_before}
use Rattle.arj_law_runs.specs.calls.Bindings.{HasFewBindings, bindings_made}
use Rattle.arj_model.specs.CauseSpans.{Here, act_by, answered, asks_so, from_place, holds_in, is_call, is_call_of, is_include_of}
use Rattle.arj_model.specs.CauseSpans.{nodes_of, same_frame, same_mode, top_uids, was_sent}
use Rattle.arj_model.specs.Past.{Asked as AskedOf, label_of}
use Rattle.arj_model.specs.Refusals.{answers_to, asks_by, has_ended, holds_of, incarnation, last_asked, object_used}
use Rattle.arj_law_cause.proofs.bindings.Active.{older_is}
use Rattle.arj_law_cause.proofs.bindings.Asking.{BoundSo, IsAtSo, IsKeptSo, IsKnownSo, ReplySo}
use Rattle.arj_law_cause.proofs.bindings.Copies.{active_by}
use Rattle.arj_law_cause.proofs.bindings.Counted.{IsGiven}
use Rattle.arj_law_cause.proofs.bindings.Lines.{IsLined}
use Rattle.arj_law_cause.proofs.bindings.Ones.{one_binding}
use Rattle.arj_law_cause.proofs.bindings.Since.{AreLow, IsActiveIn, met_in}
use Rattle.arj_law_cause.proofs.rows.Differences.{activate_is, bound_then, record_is, shown_at, shown_later, two_differ}
use Rattle.arj_law_cause.proofs.rows.Differing.{Differs, says_differs}
use Rattle.arj_law_cause.proofs.rows.Ending.{IsOther, IsOtherInc, IsConflict, ByNaming, ByServer, ByStore}
use Rattle.arj_law_cause.proofs.rows.Ending.{IsChange, OnActivate, OnInvoke, OnLive, OnMake, OnNote}
use Rattle.arj_law_cause.proofs.rows.Meeting.{off_any, off_met}
use Rattle.arj_law_cause.proofs.rows.Holders.{any_later, off_path, one_found, one_passes, upper_from}
use Rattle.arj_law_cause.proofs.rows.Entered.{GrantsBegan, entered_then}
use Rattle.arj_law_cause.proofs.rows.Loading.{IsGrantOf, IsLocked, is_on_way}
use Rattle.arj_law_cause.proofs.rows.Paths.{one_top, top_is}
use Rattle.arj_law_cause.proofs.rows.Spans.{answered_at, in_range, op_same, or_first, or_last, rows_so, sent_to, shown_from}
use Rattle.arj_law_cause.proofs.rows.Pends.{IsCalledAt, called_act}
use Rattle.arj_law_cause.proofs.confirm.Joined.{early_before}
use Rattle.arj_law_cause.specs.rows.Early.{IsEarly}
use Rattle.arj_law_cause.specs.rows.Says.{entry_modes, has_changed, has_upper, meets_none, says_of}
use Rattle.arj_law_cause.proofs.rows.Taking.{AskedPaths, IsCaller, IsPathAt, IsTaken, IsTold, bind_is}
use Rattle.arj_law_cause.specs.rows.Lines.{answer_fits, include_is_free, ok_is_free}

-- ---- requests

-- an Invoke but for its ends
abbrev with_ends : List (Uid × End) → Ask → Ask
with_ends es (ask.Invoke x b i ends o) = ask.Invoke x b i es o
with_ends es a = a

invoke_is : (a : Ask) (x : ℕ) (b : Binding) (i : ℕ) (o : Op) → bare a ≡ ask.Invoke x b i [] o →
    (ends : List (Uid × End)) × (a ≡ ask.Invoke x b i ends o)
invoke_is (ask.Invoke y c j ends p) x b i o is = (ends, ap (with_ends ends) is)
invoke_is (ask.Bind y include avoid) x b i o is = absurd (cc is)
invoke_is (ask.Load y) x b i o is = absurd (cc is)
invoke_is (ask.Activate c st) x b i o is = absurd (cc is)
invoke_is (ask.Record y c j g) x b i o is = absurd (cc is)
invoke_is (ask.Vote j ties ends) x b i o is = absurd (cc is)
invoke_is (ask.Prepare states) x b i o is = absurd (cc is)
invoke_is (ask.Confirm grants excluded included) x b i o is = absurd (cc is)

load_is : (a : Ask) (x : ℕ) → bare a ≡ ask.Load x → a ≡ ask.Load x
load_is (ask.Load y) x is = is
load_is (ask.Invoke y c j ends p) x is = absurd (cc is)
load_is (ask.Bind y include avoid) x is = absurd (cc is)
load_is (ask.Activate c st) x is = absurd (cc is)
load_is (ask.Record y c j g) x is = absurd (cc is)
load_is (ask.Vote j ties ends) x is = absurd (cc is)
load_is (ask.Prepare states) x is = absurd (cc is)
load_is (ask.Confirm grants excluded included) x is = absurd (cc is)

-- ---- what was asked, in the journal's words

pub used_is : (e : Event) (l : Label) (x : ℕ) (g : Goal) → e ≡ asks_goal l x g → object_used e ≡ Some x
used_is e l x (Run o) is = ap object_used is
used_is e l x (Include n) is = ap object_used is

pub label_is : (e : Event) (l : Label) (x : ℕ) (g : Goal) → e ≡ asks_goal l x g → label_of e ≡ name l
label_is e l x (Run o) is = ap label_of is
label_is e l x (Include n) is = ap label_of is

modes_are : (e : Event) (l : Label) (x : ℕ) (g : Goal) → e ≡ asks_goal l x g → modes_on_entry e ≡ entry_modes (is_include g)
modes_are e l x (Run o) is = ap modes_on_entry is
modes_are e l x (Include n) is = ap modes_on_entry is

-- the top stands on its path
top_on : (p : Path) → is_on (uids_of p) (top_of p) ≡ true
top_on p = on_taken (tops_of p) (uids_of p) p.one_top (path_some p)
  where
    or_later : (a : Bool) {b : Bool} → b ≡ true → (a || b) ≡ true
    or_later true is = refl
    or_later false is = is

    on_taken : (n : ℕ) (us : List Uid) → 1 ≤ n → 1 ≤ length us → is_on us (last_uid (take n us)) ≡ true
    on_taken n [] one some = absurd (omega (arith, some))
    on_taken zero (u ∷ us) one some = absurd (omega (arith, one))
    on_taken (suc n) (u ∷ []) one some = by n
      where
        by : (m : ℕ) → is_on (u ∷ []) (last_uid (u ∷ take m [])) ≡ true
        by zero = λ i. uid_same u i || false
        by (suc m) = λ i. uid_same u i || false
    on_taken (suc zero) (u ∷ w ∷ us) one some = λ i. uid_same u i || is_on (w ∷ us) u
    on_taken (suc (suc n)) (u ∷ w ∷ us) one some =
        or_later (uid_eq u (last_uid (w ∷ take n us))) (on_taken (suc n) (w ∷ us) (omega arith) (omega arith))

-- an action that isn't nested began
began : (xs : List Act) (u : Uid) → has_upper xs u ≡ true → has_act xs u ≡ true
began xs u is =
    let q = one_passes (λ (a : Act). uid_eq a.uid u && not (is_nested a.kind)) xs is in
    any_in (λ (a : Act). uid_eq a.uid u) q.0 xs q.1 (and_parts (uid_eq (let a = q.0 in a.uid) u) _ q.2).0

-- only a call is run, and goes to a server
pub only_run : (g : Goal) (kept : Option Known) (at b : At) → StandsOn g kept at → at ≡ b →
    ((n : ℕ) → StandsOn (Include n) kept b → ⊥) → (o : Op) × (g ≡ Run o)
only_run (Run o) kept at b stands is never = (o, refl)
only_run (Include n) kept at b stands is never = absurd (never n (subst (StandsOn (Include n) kept) is stands))

runs_so : (g : Goal) → is_include g ≡ false → (o : Op) × (g ≡ Run o)
runs_so (Run o) is = (o, refl)
runs_so (Include n) is = let no_way : true ≡ false = is in absurd (cc no_way)

-- ---- the rows

module _ (A : List AskedOf) (hd : Header) (k : ℕ) (M : Moment) (h : Here) (header : h.header ≡ hd) (lines : h.lines ≡ M.seen.lines)
    (accepted : (l : List ℕ) → asks_by h.accepted l ≡ asks_by (accepted_of M.past.askings) l) (u : Uid) (w : Doing) (s : Steps)
    (c : IsCaller k M u w s)
    (paths : AskedPaths M) (kept : Option Known) (stands : StandsOn s.goal kept s.at) where
  abbrev q : AskedOf
  q = let a = c.asked in let z = a.asking in z.asked

  -- a row of the action and of what it asked
  row_so : (row : Act → AskedOf → Bool) → row c.act (let a = c.asked in let z = a.asking in z.asked) ≡ true →
      asks_so h (name w.label) row ≡ true
  row_so row is = rows_so h (name w.label) c.act (let a = c.asked in let z = a.asking in z.asked) row
      (ap (λ ls. act_in (acts ls) (name w.label)) lines ∙ c.named)
      (ap (λ ls. has_ended ls (name w.label)) lines ∙ c.stays)
      (ap length (accepted (name w.label)) ∙ c.more ∙ ap (λ ls. length (answers_to ls (name w.label)) + 1) (sym lines))
      (ap last_asked (accepted (name w.label)) ∙ (let a = c.asked in a.last)) is

  its_event : (let z = q in z.event) ≡ asks_goal (let g = c.asked.goal in g.0) s.x s.goal
  its_event = let g = c.asked.goal in g.2

  used : object_used (let z = q in z.event) ≡ Some s.x
  used = used_is (let z = q in z.event) (let g = c.asked.goal in g.0) s.x s.goal its_event

  its_path : uids (let z = q in z.path) ≡ uids_of s.path
  its_path = let a = c.asked in a.path

  -- who began before began by then
  known : (v : Uid) (before after : List Line) → M.seen.lines ≡ before ++ after → has_act (acts before) v ≡ true →
      holds_in (λ a. true) (act_by h.lines v) ≡ true
  known v before after are is = one_found (λ (a : Act). uid_eq a.uid v) (acts h.lines)
      (ap (λ ls. has_act (acts ls) v) (lines ∙ are) ∙ any_later (λ (a : Act). uid_eq a.uid v) before after is)

  -- its top's path is what the journal has
  tops : top_uids (let z = q in z.path) ≡ top_path s.path
  tops =
      let f = paths c.asked.asking c.asked.there in
      let l : label_of (let z = q in z.event) ≡ name w.label =
      label_is (let z = q in z.event) (let g = c.asked.goal in g.0) s.x s.goal its_event ∙ (let g = c.asked.goal in g.1) in
      let at_first : (let z = q in z.path) ≡ path (acts f.first) (name w.label) = f.path ∙ ap (path (acts f.first)) l in
      ap top_uids at_first
      ∙ top_is c.begun c.all M.seen.lines f.first f.more f.are c.distinct c.alike (name w.label) c.act c.named c.caller c.there
      (c.uid ∙ sym c.actor ∙ ap actor (sym c.path)) (ap uids (sym at_first) ∙ its_path ∙ ap uids_of (sym c.path))
      ∙ ap top_path c.path

  its_top : (top : Act) × (top_in (let z = q in z.path) ≡ Some top) × (top.uid ≡ top_of s.path)
  its_top =
      let f = paths c.asked.asking c.asked.there in
      let l : label_of (let z = q in z.event) ≡ name w.label =
      label_is (let z = q in z.event) (let g = c.asked.goal in g.0) s.x s.goal its_event ∙ (let g = c.asked.goal in g.1) in
      let at_first : (let z = q in z.path) ≡ path (acts f.first) (name w.label) = f.path ∙ ap (path (acts f.first)) l in
      let o = one_top c.begun c.all M.seen.lines f.first f.more f.are c.distinct c.alike (name w.label) c.act c.named c.caller c.there
      (c.uid ∙ sym c.actor ∙ ap actor (sym c.path)) c.formed c.unserial
      (ap uids (sym at_first) ∙ its_path ∙ ap uids_of (sym c.path)) in
      (o.0, ap top_in at_first ∙ o.1, o.2 ∙ ap top_of c.path)

  -- an include that is done in its top's lock, against which no other stands
  pub included_so : (n : ℕ) → s.goal ≡ Include n → IsLocked M.seen.start M.seen.lines M.past.askings w.label s →
      (includes_caused h (name w.label) s.x n && include_is_free h (name w.label) s.x n) ≡ true
  included_so n goal locked = λ i. caused i && free i
    where
      event_is : is_include_of s.x n (let z = q in z.event) ≡ true
      event_is = ap (is_include_of s.x n) (its_event ∙ ap (asks_goal (let g = c.asked.goal in g.0) s.x) goal)
          ∙ (λ i. eq-eqb s.x s.x refl i && eq-eqb n n refl i)

      -- where it was locked so much shows
      shown : (shows : List Line → Bool) → shows locked.before ≡ true → from_place h (let z = q in z.at) shows ≡ true
      shown shows is = shown_from h (let z = q in z.at) shows locked.before locked.after (lines ∙ locked.are)
          (locked.late (let z = q in z) (let a = c.asked in a.last)) is

      lock : has_lock 1 (let a = its_top.0 in a.uid) (entry s.x) mode.Write locked.before ≡ true
      lock = ap (λ v. has_lock 1 v (entry s.x) mode.Write locked.before) its_top.2 ∙ locked.lock

      caused : includes_caused h (name w.label) s.x n ≡ true
      caused = row_so (λ b z. is_include_of s.x n z.event
          && holds_of (λ top. from_place h z.at (has_lock 1 top.uid (entry s.x) mode.Write)) (top_in z.path))
          (λ j. event_is j && (ap (holds_of (λ top. from_place h (let z = q in z.at) (has_lock 1 top.uid (entry s.x) mode.Write))) its_top.1
          ∙ shown (has_lock 1 (let a = its_top.0 in a.uid) (entry s.x) mode.Write) lock) j)

      free : include_is_free h (name w.label) s.x n ≡ true
      free = row_so (λ b z. is_include_of s.x n z.event
          && holds_of (λ top. from_place h z.at (λ ls. has_lock 1 top.uid (entry s.x) mode.Write ls
          && meets_none 1 (top_uids z.path) (entry s.x) mode.Write ls)) (top_in z.path))
          (λ j. event_is j && (ap (holds_of (λ top. from_place h (let z = q in z.at) (λ ls. has_lock 1 top.uid (entry s.x) mode.Write ls
          && meets_none 1 (top_uids (let z = q in z.path)) (entry s.x) mode.Write ls))) its_top.1
          ∙ shown (λ ls. has_lock 1 (let a = its_top.0 in a.uid) (entry s.x) mode.Write ls
          && meets_none 1 (top_uids (let z = q in z.path)) (entry s.x) mode.Write ls)
          (λ i. lock i && (ap (λ us. meets_none 1 us (entry s.x) mode.Write locked.before) tops ∙ locked.free) i)) j)

  -- ---- an answer that it takes

  module _ (from : ℕ) (a : Asked) (r : Reply) (T : IsTaken A hd k from M s (let z = c.asked in z.asking) a r) where
    -- where a frame of this kind brought the answer, the row finds what shows there
    found_at : (what : FrameKind) → frame_kind (response a r) ≡ what → same_frame what what ≡ true → (shows : List Line → Bool) →
        shows T.before ≡ true → answered h (let z = q in z.at) (let v = c.act.uid in v.node) from (what ∷ []) shows ≡ true
    found_at what kind same shows is =
        subst (λ home. answered h (let z = q in z.at) home from (what ∷ []) shows ≡ true) (sym c.home)
        (answered_at h (let z = q in z.at) k from what (what ∷ []) shows T.before T.after (lines ∙ T.are) T.late
        (subst (λ z. (from ≡ k) ⊎ BeginsWith from k z T.after) kind T.framed) (λ i. same i || false) is)

    -- the answer came from a node
    among : In from (nodes_of h.header)
    among = subst (λ (z : Header). In from (nodes_of z)) (sym header) (in_range 1 hd.nodes from (leb-true 1 from p.0)
        (high from hd.nodes (leb-true from hd.nodes p.1)))
      where
        p : (nat_le 1 from ≡ true) × (nat_le from hd.nodes ≡ true)
        p = and_parts (nat_le 1 from) (nat_le from hd.nodes) T.sender

        high : (m n : ℕ) → m ≤ n → m < 1 + n
        high m n le = omega (arith, le)

    -- a conflict, by what the row finds of it
    conflict_by : (v : Uid) (m : Mode) → has_act (acts T.before) v ≡ true → is_on (uids_of s.path) v ≡ false →
        (meets_at_server h c.act (let z = c.asked in let y = z.asking in y.asked) s.x v m from
        || (meets_at_naming h c.act (let z = c.asked in let y = z.asking in y.asked) s.x v m from
        || meets_at_store h c.act (let z = c.asked in let y = z.asking in y.asked) s.x v m from)) ≡ true →
        conflict_caused h (name w.label) v m from ≡ true
    conflict_by v m there off is =
        let on_it = row_so (λ b z. not (is_on (uids z.path) v) && holds_in (λ x. meets_at_server h b z x v m from
        || (meets_at_naming h b z x v m from || meets_at_store h b z x v m from)) (object_used z.event))
        (λ i. (ap not (ap (λ us. is_on us v) its_path ∙ off)) i
        && (ap (holds_in (λ x. meets_at_server h c.act (let z = c.asked in let y = z.asking in y.asked) x v m from
        || (meets_at_naming h c.act (let z = c.asked in let y = z.asking in y.asked) x v m from
        || meets_at_store h c.act (let z = c.asked in let y = z.asking in y.asked) x v m from))) used ∙ is) i) in
        λ i. known v T.before T.after T.are there i && on_it i

    -- a server's conflict
    server_so : (x : Known) (i : ℕ) (v : Uid) (m : Mode) → s.at ≡ AtInvoke x i → r ≡ Reply.Invoked (invoked.Conflict v m) →
        conflict_caused h (name w.label) v m from ≡ true
    server_so x i v m at is = conflict_by v m so.1 (off_met from (uids_of s.path) (object s.x) (op_mode run.0) v m T.before so.0)
        (λ j. met j || (meets_at_naming h c.act (let z = c.asked in let y = z.asking in y.asked) s.x v m from
        || meets_at_store h c.act (let z = c.asked in let y = z.asking in y.asked) s.x v m from))
      where
        run : (o : Op) × (s.goal ≡ Run o)
        run = only_run s.goal kept s.at (AtInvoke x i) stands at (λ n off. off)

        request : (ends : List (Uid × End)) × (T.ask ≡ ask.Invoke s.x x.binding i ends run.0)
        request = invoke_is T.ask s.x x.binding i run.0 (T.same ∙ (λ j. ask_at s.x (run.1 j) [] (at j)))

        so : (meets from (uids_of s.path) (object s.x) (op_mode run.0) v m T.before ≡ true) × (has_act (acts T.before) v ≡ true)
        so = subst (λ z. says_of A hd from (head_of s) z (Reply.Invoked (invoked.Conflict v m)) T.before) request.1
            (subst (λ z. says_of A hd from (head_of s) T.ask z T.before) is T.so)

        its_mode : mode_of_call (let z = q in z.event) ≡ Some (op_mode run.0)
        its_mode = ap mode_of_call (its_event ∙ ap (asks_goal (let g = c.asked.goal in g.0) s.x) run.1)

        met : meets_at_server h c.act (let z = c.asked in let y = z.asking in y.asked) s.x v m from ≡ true
        met = ap (holds_in (λ asked. answered h (let z = q in z.at) (let b = c.act.uid in b.node) from (frame.Invoked ∷ [])
            (meets from (uids (let z = q in z.path)) (object s.x) asked v m))) its_mode
            ∙ found_at frame.Invoked (ap (λ z. frame_kind (response a z)) is) refl
            (meets from (uids (let z = q in z.path)) (object s.x) (op_mode run.0) v m)
            (ap (λ us. meets from us (object s.x) (op_mode run.0) v m T.before) its_path ∙ so.0)

    -- an operation that was run, in its lock, against which no other stood
    pub ok_so : (x : Known) (i : ℕ) (o : Op) (b : Answer) → s.at ≡ AtInvoke x i → s.goal ≡ Run o → r ≡ Reply.Invoked (invoked.Answered b) →
        (ok_caused h (name w.label) s.x o && ok_is_free h (name w.label) s.x o) ≡ true
    ok_so x i o b at goal is = λ l. caused l && free l
      where
        request : (ends : List (Uid × End)) × (T.ask ≡ ask.Invoke s.x x.binding i ends o)
        request = invoke_is T.ask s.x x.binding i o (T.same ∙ (λ j. ask_at s.x (goal j) [] (at j)))

        so : (has_lock from (actor s.path) (object s.x) (op_mode o) T.before ≡ true)
            × (meets_none from (uids_of s.path) (object s.x) (op_mode o) T.before ≡ true)
        so = subst (λ z. says_of A hd from (head_of s) z (Reply.Invoked (invoked.Answered b)) T.before) request.1
            (subst (λ z. says_of A hd from (head_of s) T.ask z T.before) is T.so)

        event_is : is_call_of s.x o (let z = q in z.event) ≡ true
        event_is = ap (is_call_of s.x o) (its_event ∙ ap (asks_goal (let g = c.asked.goal in g.0) s.x) goal)
            ∙ (λ l. eq-eqb s.x s.x refl l && op_same o l)

        -- the node that answered shows it
        shown : (shows : ℕ → List Line → Bool) → shows from T.before ≡ true →
            list_any (λ n. answered h (let z = q in z.at) (let y = c.act.uid in y.node) n (frame.Invoked ∷ []) (shows n))
            (nodes_of h.header) ≡ true
        shown shows it = any_in (λ n. answered h (let z = q in z.at) (let y = c.act.uid in y.node) n (frame.Invoked ∷ []) (shows n)) from
            (nodes_of h.header) among (found_at frame.Invoked (ap (λ z. frame_kind (response a z)) is) refl (shows from) it)

        lock : has_lock from c.act.uid (object s.x) (op_mode o) T.before ≡ true
        lock = ap (λ v. has_lock from v (object s.x) (op_mode o) T.before) (c.uid ∙ sym c.actor) ∙ so.0

        caused : ok_caused h (name w.label) s.x o ≡ true
        caused = row_so (λ y z. is_call_of s.x o z.event && list_any (λ n. answered h z.at y.uid.node n (frame.Invoked ∷ [])
            (has_lock n y.uid (object s.x) (op_mode o))) (nodes_of h.header))
            (λ j. event_is j && shown (λ n. has_lock n c.act.uid (object s.x) (op_mode o)) lock j)

        free : ok_is_free h (name w.label) s.x o ≡ true
        free = row_so (λ y z. is_call_of s.x o z.event && list_any (λ n. answered h z.at y.uid.node n (frame.Invoked ∷ [])
            (λ ls. has_lock n y.uid (object s.x) (op_mode o) ls && meets_none n (uids z.path) (object s.x) (op_mode o) ls))
            (nodes_of h.header))
            (λ j. event_is j && shown (λ n ls. has_lock n c.act.uid (object s.x) (op_mode o) ls
            && meets_none n (uids (let z = q in z.path)) (object s.x) (op_mode o) ls)
            (λ i. lock i && (ap (λ us. meets_none from us (object s.x) (op_mode o) T.before) its_path ∙ so.1) i) j)

    -- the node of the action
    abbrev its_home : ℕ
    its_home = let v = c.act.uid in v.node

    -- its frame was sent in the span, unless it's the action's own node
    sent_so : (what : FrameKind) (kinds : List FrameKind) → frame_kind (response a r) ≡ what →
        list_any (same_frame what) kinds ≡ true → (its_home ≡ from) ⊎ (was_sent h (let z = q in z.at) from its_home kinds ≡ true)
    sent_so what kinds kind among_them =
        ⊎_elim {C = (its_home ≡ from) ⊎ (was_sent h (let z = q in z.at) from its_home kinds ≡ true)}
        (λ same. inl (c.home ∙ sym same))
        (λ f. inr (subst (λ home. was_sent h (let z = q in z.at) from home kinds ≡ true) (sym c.home) f))
        (sent_to h (let z = q in z.at) k from what kinds (λ before. true) T.before T.after (lines ∙ T.are) T.late
        (subst (λ z. (from ≡ k) ⊎ BeginsWith from k z T.after) kind T.framed) among_them refl)

    -- a server of this number sent it, or naming did
    abbrev by_server : ℕ → Bool
    by_server n = was_sent h (let z = q in z.at) n its_home (frame.Activated ∷ frame.Invoked ∷ [])

    abbrev by_naming : Bool
    by_naming = was_sent h (let z = q in z.at) 1 its_home (frame.Bound ∷ frame.Recorded ∷ [])

    -- naming is at the action's node, or told it so
    abbrev naming_told : Here → Act → AskedOf → Bool
    naming_told g b z = (let v = b.uid in v.node == 1) || was_sent g z.at 1 (let v = b.uid in v.node) (frame.Bound ∷ frame.Recorded ∷ [])

    naming_says : (what : FrameKind) → from ≡ 1 → frame_kind (response a r) ≡ what →
        list_any (same_frame what) (frame.Bound ∷ frame.Recorded ∷ []) ≡ true → naming_told h c.act q ≡ true
    naming_says what one kind among_them = ⊎_elim {C = naming_told h c.act q ≡ true}
        (λ same. or_first (its_home == 1) by_naming (eq-eqb its_home 1 (same ∙ one)))
        (λ sent. or_last (its_home == 1) by_naming
        (subst (λ m. was_sent h (let z = q in z.at) m its_home (frame.Bound ∷ frame.Recorded ∷ []) ≡ true) one sent))
        (sent_so what (frame.Bound ∷ frame.Recorded ∷ []) kind among_them)

    naming_tells : (n : ℕ) → naming_told h c.act q ≡ true → was_told h n c.act q ≡ true
    naming_tells n told = by (its_home == 1) told
      where
        by : (b : Bool) → (b || by_naming) ≡ true → (b || ((its_home == n) || (by_server n || by_naming))) ≡ true
        by true is = refl
        by false is = or_last (its_home == n) (by_server n || by_naming) (or_last (by_server n) by_naming is)

    server_told : (n : ℕ) (what : FrameKind) → from ≡ n → frame_kind (response a r) ≡ what →
        list_any (same_frame what) (frame.Activated ∷ frame.Invoked ∷ []) ≡ true → was_told h n c.act q ≡ true
    server_told n what one kind among_them = or_last (its_home == 1) ((its_home == n) || (by_server n || by_naming))
        (⊎_elim {C = ((its_home == n) || (by_server n || by_naming)) ≡ true}
        (λ same. or_first (its_home == n) (by_server n || by_naming) (eq-eqb its_home n (same ∙ one)))
        (λ sent. or_last (its_home == n) (by_server n || by_naming) (or_first (by_server n) by_naming
        (subst (λ m. was_sent h (let z = q in z.at) m its_home (frame.Activated ∷ frame.Invoked ∷ []) ≡ true) one sent)))
        (sent_so what (frame.Activated ∷ frame.Invoked ∷ []) kind among_them))

    -- ---- what changed

    module _ (start : h.start ≡ M.seen.start) (few : HasFewBindings M.seen.lines) (given : IsGiven M.seen.start M.seen.lines)
        (begins : GrantsBegan M.seen.lines)
        (locked : is_on_way s.at ≡ true → IsLocked M.seen.start M.seen.lines M.past.askings w.label s)
        (keeper : (avoid : Binding) → s.at ≡ AtBind avoid → (old : Known) → kept ≡ Some old →
        list_any (cause.is_other_call (let z = c.asked in let y = z.asking in y.asked) s.x) h.accepted ≡ true)
        (D : IsTold from M s (let z = c.asked in z.asking) r)
        (at_so : IsAtSo (IsLined M.seen.lines) (active_by M.seen.lines) (met_in M.seen.start M.seen.lines) s.x s.goal s.at)
        (keeps_so : IsKeptSo (IsLined M.seen.lines) (active_by M.seen.lines) (met_in M.seen.start M.seen.lines) s.x kept)
        (replied : (asked : Ask) × (bare asked ≡ next_ask [] s)
        × ReplySo (IsLined M.seen.lines) (active_by M.seen.lines) (met_in M.seen.start M.seen.lines) from asked r)
        (invoke_kept : (o : Op) → s.goal ≡ Run o → (y : Known) (i : ℕ) → s.at ≡ AtInvoke y i →
        (old : Known) × (kept ≡ Some old) × (binding_number old.binding ≡ binding_number y.binding) × (old.inc ≡ Some i))
        (live_kept : (o : Op) → s.goal ≡ Run o → (avoid : Binding) → s.at ≡ AtBind avoid → (b : Binding) (server i g : ℕ)
        (stores : List ℕ) → r ≡ Reply.Bound (bound.Live b server i g stores) → (old : Known) (first : ℕ) → kept ≡ Some old →
        old.inc ≡ Some first → binding_eq old.binding b ≡ true → first ≡ i) where
      -- its line fits
      abbrev Fits : ℕ → What → Type 0
      Fits n v = answer_fits h (body.Changed w.label n (differs v)) ≡ true

      -- a call, that was told of the difference, and for which it shows
      caused : (n : ℕ) (v : What) (o : Op) → s.goal ≡ Run o → was_told h n c.act q ≡ true → cause.differs h q n s.x (differs v) ≡ true →
          Fits n v
      caused n v o goal told is =
          row_so (λ b z. is_call z.event && (was_told h n b z && holds_in (λ x. cause.differs h z n x (differs v)) (object_used z.event)))
          (λ j. ap is_call (its_event ∙ ap (asks_goal (let g = c.asked.goal in g.0) s.x) goal) j
          && (told j && (ap (holds_in (λ x. cause.differs h q n x (differs v))) used ∙ is) j))

      -- what M.seen has, the row has
      met_here : (n : ℕ) (b : Binding) (i : ℕ) → IsActiveIn M.seen.start M.seen.lines n s.x b i → IsActiveIn h.start h.lines n s.x b i
      met_here n b i met = subst (λ z. IsActiveIn h.start z n s.x b i) (sym lines)
          (subst (λ z. IsActiveIn z M.seen.lines n s.x b i) (sym start) met)

      -- ---- bindings that naming made

      -- naming answers with a binding only to a call
      bound_to : (avoid : Binding) (z : BoundReply) → s.at ≡ AtBind avoid → r ≡ Reply.Bound z →
          (says_of A hd from (head_of s) (ask.Bind s.x (is_include s.goal) avoid) (Reply.Bound z) T.before → is_include s.goal ≡ false) →
          (o : Op) × (s.goal ≡ Run o)
      bound_to avoid z at is says = runs_so s.goal (says (subst (λ y. says_of A hd from (head_of s) y (Reply.Bound z) T.before)
          (bind_is T.ask s.x (is_include s.goal) avoid (T.same ∙ (λ j. ask_at s.x s.goal [] (at j))))
          (subst (λ y. says_of A hd from (head_of s) T.ask y T.before) is T.so)))

      bound_says : (avoid : Binding) (z : BoundReply) → s.at ≡ AtBind avoid → r ≡ Reply.Bound z → naming_told h c.act q ≡ true
      bound_says avoid z at is = naming_says frame.Bound (sym T.node ∙ ap (λ y. node_at y) at) (ap (λ y. frame_kind (response a y)) is) refl

      bound_reply : (avoid : Binding) (z : BoundReply) → s.at ≡ AtBind avoid → r ≡ Reply.Bound z →
          BoundSo (IsLined M.seen.lines) (active_by M.seen.lines) (met_in M.seen.start M.seen.lines) s.x (is_include s.goal) z
      bound_reply avoid z at is = subst
          (λ y. ReplySo (IsLined M.seen.lines) (active_by M.seen.lines) (met_in M.seen.start M.seen.lines) from y (Reply.Bound z))
          (bind_is replied.0 s.x (is_include s.goal) avoid (replied.1 ∙ (λ j. ask_at s.x s.goal [] (at j))))
          (subst (ReplySo (IsLined M.seen.lines) (active_by M.seen.lines) (met_in M.seen.start M.seen.lines) from replied.0) is replied.2)

      count_low : (b : Binding) (n : ℕ) → IsLined M.seen.lines s.x b n → b.count < 4294967296
      count_low b n lined = under b.count (bindings_made M.seen.lines) (given.small s.x b n lined) few
        where
          under : (m k : ℕ) → m ≤ k → k < 4294967295 → m < 4294967296
          under m k le few = omega (arith, le, few)

      -- of two of them the older one comes first
      two_bound : (b g : Binding) (m n : ℕ) → IsLined M.seen.lines s.x b m → IsLined M.seen.lines s.x g n → binding_eq b g ≡ false →
          (is_older (lesser_binding b g) (greater_binding b g) && (was_bound h.lines s.x (lesser_binding b g)
          && was_bound h.lines s.x (greater_binding b g))) ≡ true
      two_bound b g m n lb lg off = by (binding_less g b) refl
        where
          above : (j k : ℕ) → nat_lt j k ≡ true → j < k
          above j k is = grind (arith, nat_tests, is)

          other : (j k : ℕ) → nat_lt k j ≡ false → (j == k) ≡ false → j < k
          other j k not_less off = grind (arith, nat_tests, not_less, off)

          its : (c : Binding) (k : ℕ) → IsLined M.seen.lines s.x c k → was_bound h.lines s.x c ≡ true
          its c k lined = ap (λ ls. was_bound ls s.x c) lines ∙ bound_then M.seen.lines s.x c k lined

          by : (t : Bool) → binding_less g b ≡ t → (is_older (cond t g b) (cond t b g) && (was_bound h.lines s.x (cond t g b)
              && was_bound h.lines s.x (cond t b g))) ≡ true
          by true less = λ i. older_is g b (count_low g n lg) (count_low b m lb) (above (binding_number g) (binding_number b) less) i
              && (its g n lg i && its b m lb i)
          by false less = λ i. older_is b g (count_low b m lb) (count_low g n lg)
              (other (binding_number b) (binding_number g) less off) i && (its b m lb i && its g n lg i)

      -- the root keeps another binding
      other_so : (avoid : Binding) (z : BoundReply) (b : Binding) (server n : ℕ) (v : What) (o : Op) → s.goal ≡ Run o → s.at ≡ AtBind
          avoid →
          r ≡ Reply.Bound z → IsLined M.seen.lines s.x b server → IsOther kept b n v → Fits n v
      other_so avoid z b server n v o goal at is lined (old, keeps, off, one, two) =
          let ks = subst (IsKeptSo (IsLined M.seen.lines) (active_by M.seen.lines) (met_in M.seen.start M.seen.lines) s.x) keeps keeps_so in
          let had = lesser_binding old.binding b in
          let now = greater_binding old.binding b in
          let p = and_parts (is_older had now) (was_bound h.lines s.x had && was_bound h.lines s.x now)
          (two_bound old.binding b old.server server ks.0 lined off) in
          let bound = and_parts (was_bound h.lines s.x had) (was_bound h.lines s.x now) p.1 in
          caused n v o goal (naming_tells n (bound_says avoid z at is))
          (subst (λ y. cause.differs h q n s.x (differs y) ≡ true) (sym two)
          (λ i. p.0 i && or_last (from_place h (let e = q in e.at) (had_both n s.x had now))
          ((n == 1) && (was_bound h.lines s.x had && (was_bound h.lines s.x now && list_any (cause.is_other_call q s.x) h.accepted)))
          (λ j. eq-eqb n 1 one j && (bound.0 j && (bound.1 j && keeper avoid at old keeps j))) i))

      -- ---- incarnations

      -- what the root keeps under the binding of a step is of its server
      one_server : (old y : Known) → IsKnownSo (IsLined M.seen.lines) (active_by M.seen.lines) (met_in M.seen.start M.seen.lines) s.x old →
          IsLined M.seen.lines s.x y.binding y.server → binding_eq old.binding y.binding ≡ true → old.server ≡ y.server
      one_server old y ks lined same = (given.one s.x s.x y.binding old.server y.server
          (subst (λ b. IsLined M.seen.lines s.x b old.server) (one_binding M.seen.start M.seen.lines given few s.x s.x old.binding y.binding
          old.server y.server ks.0 lined same) ks.0) lined).1

      -- a server in another incarnation than the one that the root keeps took a copy
      activated_so : (x : Known) (u : ObjectState) (i : ℕ) (o : Op) (n : ℕ) (v : What) → s.goal ≡ Run o → s.at ≡ AtActivate x u →
          r ≡ Reply.Activated i → IsOtherInc kept x.binding i n v → Fits n v
      activated_so x u i o n v goal at is (old, first, keeps, same, its, has, off, two) =
          subst (λ y. Fits n y) (sym two) (subst (λ m. Fits m (two_incs first i)) (sym (its ∙ server ∙ its_from)) (by (nat_lt i first)
          refl))
        where
          N : ℕ → Binding → ℕ → Type 0
          N = IsLined M.seen.lines

          its_from : x.server ≡ from
          its_from = ap (λ y. node_at y) (sym at) ∙ T.node

          ks : IsKnownSo N (active_by M.seen.lines) (met_in M.seen.start M.seen.lines) s.x old
          ks = subst (IsKeptSo N (active_by M.seen.lines) (met_in M.seen.start M.seen.lines) s.x) keeps keeps_so

          step : IsAtSo N (active_by M.seen.lines) (met_in M.seen.start M.seen.lines) s.x (Run o) (AtActivate x u)
          step = subst (λ y. IsAtSo N (active_by M.seen.lines) (met_in M.seen.start M.seen.lines) s.x (Run o) y) at
              (subst (λ g. IsAtSo N (active_by M.seen.lines) (met_in M.seen.start M.seen.lines) s.x g s.at) goal at_so)

          lined : IsLined M.seen.lines s.x x.binding x.server
          lined = let k = step.0 in k.0

          server : old.server ≡ x.server
          server = one_server old x ks lined same

          -- both incarnations had a copy there
          met_first : IsActiveIn h.start h.lines from s.x old.binding first
          met_first = met_here from old.binding first (subst (λ m. IsActiveIn M.seen.start M.seen.lines m s.x old.binding first)
              (server ∙ its_from) (ks.1 first has few))

          met_i : IsActiveIn h.start h.lines from s.x x.binding i
          met_i = met_here from x.binding i (subst (λ y. IsActiveIn M.seen.start M.seen.lines from y x.binding i) step.1 (so.1 few))
            where
              so : ReplySo N (active_by M.seen.lines) (met_in M.seen.start M.seen.lines) from (ask.Activate x.binding u) (Reply.Activated i)
              so = subst (λ y. ReplySo N (active_by M.seen.lines) (met_in M.seen.start M.seen.lines) from y (Reply.Activated i))
                  (activate_is replied.0 x.binding u (replied.1 ∙ (λ j. ask_at s.x s.goal [] (at j))))
                  (subst (ReplySo N (active_by M.seen.lines) (met_in M.seen.start M.seen.lines) from replied.0) is replied.2)

          -- it said its own
          said : (incarnation M.seen.start D.before from ≡ i) × AreLow M.seen.start D.before
          said = subst (λ y. says_differs M.seen.start from (head_of s) y (Reply.Activated i) D.before)
              (activate_is D.ask x.binding u (D.same ∙ (λ j. ask_at s.x s.goal [] (at j))))
              (subst (λ y. says_differs M.seen.start from (head_of s) D.ask y D.before) is D.so)

          level : incarnation h.start D.before from ≡ i
          level = ap (λ z. incarnation z D.before from) start ∙ said.0

          told_it : was_told h from c.act q ≡ true
          told_it = server_told from frame.Activated refl (ap (λ y. frame_kind (response a y)) is) refl

          above : nat_lt i first ≡ true → i < first
          above less = grind (arith, nat_tests, less)

          below : nat_lt i first ≡ false → first < i
          below not_less = grind (arith, nat_tests, not_less, off)

          by : (t : Bool) → nat_lt i first ≡ t → Fits from (cond t (what.Inc i first) (what.Inc first i))
          by true less = caused from (what.Inc i first) o goal told_it (two_differ h q from s.x i first x.binding (above less) met_i
              (shown_later h q from s.x D.before D.after (lines ∙ D.are) D.late (subst (λ z. AreLow z D.before) (sym start) said.1) i first
              level (above less) old.binding met_first))
          by false less = caused from (what.Inc first i) o goal told_it (two_differ h q from s.x first i old.binding (below less) met_first
              (shown_at h q from s.x D.before D.after (lines ∙ D.are) D.late i level))

      -- an Invoke found a difference
      invoked_so : (x : Known) (i : ℕ) (o : Op) (n : ℕ) (v : What) → s.goal ≡ Run o → s.at ≡ AtInvoke x i →
          r ≡ Reply.Invoked (invoked.Changed v) → n ≡ x.server → Fits n v
      invoked_so x i o n v goal at is its = subst (λ m. Fits m v) (sym (its ∙ its_from)) (by v refl)
        where
          its_from : x.server ≡ from
          its_from = ap (λ y. node_at y) (sym at) ∙ T.node

          step : IsAtSo (IsLined M.seen.lines) (active_by M.seen.lines) (met_in M.seen.start M.seen.lines) s.x (Run o) (AtInvoke x i)
          step = subst (λ y. IsAtSo (IsLined M.seen.lines) (active_by M.seen.lines) (met_in M.seen.start M.seen.lines) s.x (Run o) y) at
              (subst (λ g. IsAtSo (IsLined M.seen.lines) (active_by M.seen.lines) (met_in M.seen.start M.seen.lines) s.x g s.at) goal at_so)

          request : (ends : List (Uid × End)) × (D.ask ≡ ask.Invoke s.x x.binding i ends o)
          request = invoke_is D.ask s.x x.binding i o (D.same ∙ (λ j. ask_at s.x (goal j) [] (at j)))

          so : Differs M.seen.start from s.x v D.before × ((j k : ℕ) → v ≡ what.Inc j k → j ≡ i)
          so = (subst (λ y. says_differs M.seen.start from (head_of s) y (Reply.Invoked (invoked.Changed v)) D.before) request.1
              (subst (λ y. says_differs M.seen.start from (head_of s) D.ask y D.before) is D.so))
              (few_before D.before D.after (subst HasFewBindings D.are few))

          told_it : was_told h from c.act q ≡ true
          told_it = server_told from frame.Invoked refl (ap (λ y. frame_kind (response a y)) is) refl

          by : (y : What) → v ≡ y → Fits from v
          by (what.Inc had now) e = subst (λ z. Fits from z) (sym e) (caused from (what.Inc had now) o goal told_it
              (two_differ h q from s.x had now (let y = z.0 in y.binding) d.0 (met_here from (let y = z.0 in y.binding) had met)
              (shown_at h q from s.x D.before D.after (lines ∙ D.are) D.late now
              (ap (λ y. incarnation y D.before from) start ∙ d.1))))
            where
              d : Differs M.seen.start from s.x (what.Inc had now) D.before
              d = subst (λ z. Differs M.seen.start from s.x z D.before) e so.0

              had_is : had ≡ i
              had_is = so.1 had now e

              z : (old : Known) × (kept ≡ Some old) × (binding_number old.binding ≡ binding_number x.binding) × (old.inc ≡ Some i)
              z = invoke_kept o goal x i at

              ks : IsKnownSo (IsLined M.seen.lines) (active_by M.seen.lines) (met_in M.seen.start M.seen.lines) s.x z.0
              ks = subst (IsKeptSo (IsLined M.seen.lines) (active_by M.seen.lines) (met_in M.seen.start M.seen.lines) s.x) z.1 keeps_so

              server : (let y = z.0 in y.server) ≡ from
              server = one_server z.0 x ks (let y = step.0 in y.0)
                  (eq-eqb (binding_number (let y = z.0 in y.binding)) (binding_number x.binding) z.2) ∙ its_from

              met : IsActiveIn M.seen.start M.seen.lines from s.x (let y = z.0 in y.binding) had
              met = subst (IsActiveIn M.seen.start M.seen.lines from s.x (let y = z.0 in y.binding)) (sym had_is)
                  (subst (λ m. IsActiveIn M.seen.start M.seen.lines m s.x (let y = z.0 in y.binding) i) server (ks.1 i z.3 few))
          by (what.Bind had now) e = subst (λ z. Fits from z) (sym e) (caused from (what.Bind had now) o goal told_it
              (λ j. d.0 j && or_first (from_place h (let z = q in z.at) (had_both from s.x had now))
              ((from == 1) && (was_bound h.lines s.x had && (was_bound h.lines s.x now && list_any (cause.is_other_call q s.x) h.accepted)))
              (shown_from h (let z = q in z.at) (had_both from s.x had now) D.before D.after (lines ∙ D.are) D.late d.1) j))
            where
              d : Differs M.seen.start from s.x (what.Bind had now) D.before
              d = subst (λ z. Differs M.seen.start from s.x z D.before) e so.0

      -- its root has entered where naming granted the lock
      entered : (x : Known) (i : ℕ) (o : Op) → s.goal ≡ Run o → s.at ≡ AtNote x i →
          has_entered_in M.seen.start M.seen.lines s.x (root_in (let z = q in z.path)) x.grant ≡ true
      entered x i o goal at = subst (λ g. has_entered_in M.seen.start M.seen.lines s.x (root_in (let z = q in z.path)) g ≡ true) (sym granted)
          (entered_then M.seen.start M.seen.lines L.before L.after L.are c.begun c.all c.alike c.distinct c.caller c.there (top_of s.path)
          (ap (λ p. is_on (uids_of p) (top_of s.path)) c.path ∙ top_on s.path) (let z = q in z.path) (its_path ∙ ap uids_of (sym c.path))
          among_acts begins s.x mode.Write L.lock)
        where
          L : IsLocked M.seen.start M.seen.lines M.past.askings w.label s
          L = locked (ap is_on_way at)

          granted : x.grant ≡ incarnation M.seen.start L.before 1
          granted = subst (λ a. IsGrantOf M.seen.start L.before (Run o) a) at (subst (λ g. IsGrantOf M.seen.start L.before g s.at) goal L.inc)

          f : IsPathAt M.seen.lines c.asked.asking
          f = paths c.asked.asking c.asked.there

          among_acts : (z : Act) → In z (let y = q in y.path) → In z (acts M.seen.lines)
          among_acts z i = subst (In z) (sym (ap acts f.are ∙ acts_more [] f.first f.more)) (in_later f.more (acts f.first) z
              (on_path (acts f.first) (label_of (let y = q in y.event)) z (subst (In z) f.path i)))

      -- naming is of another incarnation than its grant
      noted_so : (x : Known) (i : ℕ) (o : Op) (n : ℕ) (v : What) → s.goal ≡ Run o → s.at ≡ AtNote x i →
          r ≡ Reply.Noted (recorded.Changed v) → n ≡ 1 → Fits n v
      noted_so x i o n v goal at is one = subst (λ z. Fits n z) (sym so.1) (subst (λ m. Fits m (what.Inc x.grant now)) (sym one)
          (caused 1 (what.Inc x.grant now) o goal (naming_tells 1 told_it)
          (λ j. lower x.grant now so.2 j && (shown_at h q 1 s.x D.before D.after (lines ∙ D.are) D.late now
          (ap (λ z. incarnation z D.before 1) start) j && or_last (was_active_in h.start h.lines 1 s.x x.grant)
          (has_entered_in h.start h.lines s.x (root_in (let z = q in z.path)) x.grant) its_entry j))))
        where
          so : (from ≡ 1) × (v ≡ what.Inc x.grant (incarnation M.seen.start D.before 1))
              × (x.grant < incarnation M.seen.start D.before 1)
          so = subst (λ y. says_differs M.seen.start from (head_of s) y (Reply.Noted (recorded.Changed v)) D.before)
              (record_is D.ask s.x x.binding i x.grant (D.same ∙ (λ j. ask_at s.x s.goal [] (at j))))
              (subst (λ y. says_differs M.seen.start from (head_of s) D.ask y D.before) is D.so)

          now : ℕ
          now = incarnation M.seen.start D.before 1

          its_entry : has_entered_in h.start h.lines s.x (root_in (let z = q in z.path)) x.grant ≡ true
          its_entry = (λ j. has_entered_in (start j) (lines j) s.x (root_in (let z = q in z.path)) x.grant) ∙ entered x i o goal at

          lower : (j k : ℕ) → j < k → nat_lt j k ≡ true
          lower j k is = grind (arith, nat_tests, is)

          told_it : naming_told h c.act q ≡ true
          told_it = naming_says frame.Recorded so.0 (ap (λ y. frame_kind (response a y)) is) refl

      -- what changed, in a call
      pub changed_so : (n : ℕ) (v : What) → IsChange kept s.at r n v → Fits n v
      changed_so n v (OnLive avoid b server i g stores at is (inl other)) =
          let run = bound_to avoid (bound.Live b server i g stores) at is (λ so. so.0) in
          let so = bound_reply avoid (bound.Live b server i g stores) at is in
          other_so avoid (bound.Live b server i g stores) b server n v run.0 run.1 at is so.1 other
      changed_so n v (OnLive avoid b server i g stores at is (inr (old, first, keeps, same, its, has, off, two))) =
          let run = bound_to avoid (bound.Live b server i g stores) at is (λ so. so.0) in
          let no_way : true ≡ false = sym (eq-eqb first i (live_kept run.0 run.1 avoid at b server i g stores is old first keeps has same))
          ∙ off in absurd (cc no_way)
      changed_so n v (OnMake avoid b server g stores at is other) =
          let run = bound_to avoid (bound.Make b server g stores) at is (λ so. so.0) in
          let so = bound_reply avoid (bound.Make b server g stores) at is in
          other_so avoid (bound.Make b server g stores) b server n v run.0 run.1 at is so.1 other
      changed_so n v (OnActivate x u i at is other) =
          let run = only_run s.goal kept s.at (AtActivate x u) stands at (λ m off. off) in
          activated_so x u i run.0 n v run.1 at is other
      changed_so n v (OnNote x i at is one) =
          let run = only_run s.goal kept s.at (AtNote x i) stands at (λ m off. off) in noted_so x i run.0 n v run.1 at is one
      changed_so n v (OnInvoke x i at is its) =
          let run = only_run s.goal kept s.at (AtInvoke x i) stands at (λ m off. off) in invoked_so x i run.0 n v run.1 at is its

    -- naming's conflict
    naming_so : (avoid : Binding) (v : Uid) (m : Mode) → s.at ≡ AtBind avoid → r ≡ Reply.Bound (bound.Conflict v m) →
        conflict_caused h (name w.label) v m from ≡ true
    naming_so avoid v m at is = conflict_by v m (began (acts T.before) v so.2) off (by (meets_at_server h c.act q s.x v m from))
      where
        request : T.ask ≡ ask.Bind s.x (is_include s.goal) avoid
        request = bind_is T.ask s.x (is_include s.goal) avoid (T.same ∙ (λ j. ask_at s.x s.goal [] (at j)))

        so : (from ≡ 1) × (list_any (λ asked. meets 1 (top_path s.path) (entry s.x) asked v m T.before) (entry_modes
            (is_include s.goal)) ≡ true)
            × (has_upper (acts T.before) v ≡ true)
        so = subst (λ z. says_of A hd from (head_of s) z (Reply.Bound (bound.Conflict v m)) T.before) request
            (subst (λ z. says_of A hd from (head_of s) T.ask z T.before) is T.so)

        upper : IsTopAction c.begun v
        upper = upper_from c.begun (acts M.seen.lines) c.alike v (ap (λ ls. has_upper (acts ls) v) T.are
            ∙ any_later (λ (y : Act). uid_eq y.uid v && not (is_nested y.kind)) T.before T.after so.2)

        off : is_on (uids_of s.path) v ≡ false
        off = ap (λ p. is_on (uids_of p) v) (sym c.path)
            ∙ off_path c.begun c.all v upper c.caller c.there (ap (λ p. is_on (take (tops_of p) (uids_of p)) v) c.path
            ∙ off_any (entry_modes (is_include s.goal)) (top_path s.path) (entry s.x) v m T.before so.1)

        met : meets_at_naming h c.act q s.x v m from ≡ true
        met =
            let one = one_passes (λ asked. meets 1 (top_path s.path) (entry s.x) asked v m T.before) (entry_modes
            (is_include s.goal)) so.1 in
            λ j. (eq-eqb from 1 so.0) j && any_in (λ asked. answered h (let z = q in z.at) (let y = c.act.uid in y.node) 1
            (frame.Bound ∷ [])
            (meets 1 (top_uids (let z = q in z.path)) (entry s.x) asked v m)) one.0 (modes_on_entry (let z = q in z.event))
            (subst (In one.0) (sym (modes_are (let z = q in z.event) (let g = c.asked.goal in g.0) s.x s.goal its_event)) one.1)
            (subst (λ n. answered h (let z = q in z.at) (let y = c.act.uid in y.node) n (frame.Bound ∷ [])
            (meets 1 (top_uids (let z = q in z.path)) (entry s.x) one.0 v m) ≡ true) so.0
            (found_at frame.Bound (ap (λ z. frame_kind (response a z)) is) refl
            (meets 1 (top_uids (let z = q in z.path)) (entry s.x) one.0 v m)
            (ap (λ us. meets 1 us (entry s.x) one.0 v m T.before) tops ∙ one.2))) j

        by : (b : Bool) → (b || (meets_at_naming h c.act q s.x v m from || meets_at_store h c.act q s.x v m from)) ≡ true
        by true = refl
        by false = λ j. met j || meets_at_store h c.act q s.x v m from

    -- a store's conflict, with one whose commit was called
    pub store_so : A ≡ h.accepted → HeaderFits hd → IsEarly M.seen.lines → ((v : Uid) (ls ms : List Line) → M.seen.lines ≡ ls ++ ms →
        IsCalledAt ls v → is_on (uids_of s.path) v ≡ false) → (x : Known) (n : ℕ) (rest : List ℕ) (v : Uid) (m : Mode) →
        s.at ≡ AtLoad x n rest →
        r ≡ Reply.Loaded (loaded.InDoubt v) → m ≡ mode.Write → conflict_caused h (name w.label) v m from ≡ true
    store_so same form early off x n rest v m at is write = conflict_by v m began_then (off v T.before T.after T.are called)
        (or_last (meets_at_server h c.act q s.x v m from) (meets_at_naming h c.act q s.x v m from || meets_at_store h c.act q s.x v m from)
        (or_last (meets_at_naming h c.act q s.x v m from) (meets_at_store h c.act q s.x v m from)
        (λ i. same_mode (write i) mode.Write && found i)))
      where
        request : T.ask ≡ ask.Load s.x
        request = load_is T.ask s.x (T.same ∙ (λ j. ask_at s.x s.goal [] (at j)))

        so : (pends A from v T.before ≡ true) × (HeaderFits hd → may_store hd T.before from s.x ≡ true)
            × (HeaderFits hd → IsEarly T.before → has_changed T.before v s.x ≡ true)
        so = subst (λ z. says_of A hd from (head_of s) z (Reply.Loaded (loaded.InDoubt v)) T.before) request
            (subst (λ z. says_of A hd from (head_of s) T.ask z T.before) is T.so)

        called : IsCalledAt T.before v
        called = by (called_at T.before v) refl so.0
          where
            by : (o : Option (Placed (List Act))) → called_at T.before v ≡ o →
                holds_in (λ (z : Placed (List Act)). pends_from A from v T.before z.at false (drop z.at T.before)) o ≡ true →
                IsCalledAt T.before v
            by None none e = absurd (cc e)
            by (Some z) some e = (z, some)

        began_then : has_act (acts T.before) v ≡ true
        began_then = let a = called_act T.before v called in any_in (λ (y : Act). uid_eq y.uid v) a.0 (acts T.before) a.1
            (ap (λ z. uid_eq z v) a.2 ∙ uid_same v)

        found : answered h (let z = q in z.at) (let y = c.act.uid in y.node) from (frame.Loaded ∷ [])
            (is_pending h.header h.accepted from v s.x) ≡ true
        found = found_at frame.Loaded (ap (λ z. frame_kind (response a z)) is) refl (is_pending h.header h.accepted from v s.x)
            (λ i. so.2 form (early_before T.before T.after (subst IsEarly T.are early)) i
            && ((ap (λ z. may_store z T.before from s.x) header ∙ so.1 form) i && (ap (λ z. pends z from v T.before) (sym same) ∙ so.0) i))

    -- any conflict's line
    pub conflict_so : A ≡ h.accepted → HeaderFits hd → IsEarly M.seen.lines → ((v : Uid) (ls ms : List Line) → M.seen.lines ≡ ls ++ ms →
        IsCalledAt ls v → is_on (uids_of s.path) v ≡ false) → (v : Uid) (m : Mode) (n : ℕ) → IsConflict s.at r v m n →
        conflict_caused h (name w.label) v m n ≡ true
    conflict_so same form early off v m n (ByNaming avoid at is one) =
        let its : n ≡ from = one ∙ ap (λ z. node_at z) (sym at) ∙ T.node in
        ap (conflict_caused h (name w.label) v m) its ∙ naming_so avoid v m at is
    conflict_so same form early off v m n (ByServer x i at is one) =
        let its : n ≡ from = one ∙ ap (λ z. node_at z) (sym at) ∙ T.node in
        ap (conflict_caused h (name w.label) v m) its ∙ server_so x i v m at is
    conflict_so same form early off v m n (ByStore x y rest at is write one) =
        let its : n ≡ from = one ∙ ap (λ z. node_at z) (sym at) ∙ T.node in
        ap (conflict_caused h (name w.label) v m) its ∙ store_so same form early off x y rest v m at is write
