-- Inside of an event that restarts no node tables show locks, so whoever answers a conflict, or runs an operation, says what the
-- journal's table has.
use Rattle.arj_law_parts.proofs.Words
use Words.{◌≡◌, ◌∙◌, ◌==◌, ◌++◌, ◌&&◌, ℕ, Bool, true, false, if◌then◌else◌, List, [], ◌∷◌, length, Option, Some, None, refl, sym, ap}
use Words.{subst, ⊤, list_all, and_parts}
use Words.{append-nil, append_assoc, map-append, option_map, is_some, eqb-true, entry, object, op_mode, uids_of, top_of, top_path, Ask}
use Words.{Asked}
use Words.{first_conflict, Body, Head, Header, Line, Message, Mode, Uid, Op, Binding, End}
use Words.{Reply, answers, asked_by, response, Disk, Do, Effect, Say, Send, worked, Naming, Handled, Parts, Took, Void, handle, serve}
use Words.{served, sends_answer, if_naming, Contains, In, Row, actor, at_number, in_find, in_to, is_against, last_uid, Copy, rows_in_copy}
use Words.{rows_in_named, Named, Node}
use Words.{at_uid, cond, find, holder_of, held_at, is_eq, is_prepared, load_by, load_held, names_object, uid_order, inl, inr, Look}
use Words.{ObjectState, Pair}
use Rattle.arj_law_parts.proofs.parts.Keys.{order_itself}
use Words.{with_naming, with_server, numbered, Post, Seen, InvokedReply, BoundReply, server_rows, is_meant}
use Words.{Already, InDoubt, Old, Prep, Prepare, PreparedReply, Ready, by_holder, either, first_refusal, is_old, prepare_answer, prepare_by}
use Words.{refusal_in, refusal_of, unwrap_or, uid_eq, uid_is}
use Words.ask
use Words.bound
use Words.body
use Words.invoked
use Words.loaded
use Words.mode
use Words.naming
use Words.prepared
use Words.role
use Words.server
use Rattle.arj_law_serial.proofs.Terms
use Terms.{ShowsLocks, rows_on, up_of, memory_of, named_locks, Walks, Up, AreAlike, IsMemory, IsUp, acts, has_act, HoldsNames, paths_of}
use Terms.{begun_tree, path_found}
use Rattle.arj_law_disk_view.proofs.running.HeardBinds.{bind_kind}
use Rattle.arj_law_lock_view.proofs.Terms.{same_number, some_is}
use Rattle.arj_law_lock_view.proofs.moments.{Later.AreSilent, Serving.IsServed, Serving.serves}
use Rattle.arj_law_lock_view.specs.moments.Made.{is_again, lines_behind}
use Rattle.arj_law_parts.proofs.moves.Flat.{post}
use Rattle.arj_law_parts.specs.moves.Moments.{Moment, is_restart, up}
use Rattle.arj_law_parts.specs.moves.Seen.{Within}
use Rattle.arj_law_parts.specs.moves.Seen as seen
use Rattle.arj_law_runs.proofs.calls.WorldSteps.{reads_back}
use Rattle.arj_law_serial.proofs.holding.{Lines.Since, Lines.since_all, Running.Showing, Running.showing_kept, Writes.none_starts}
use Rattle.arj_law_serial.proofs.holding.Says.{All, says}
use Rattle.arj_law_serial.proofs.holding.Sorts.{is_no_start}
use Rattle.arj_model.specs.CauseAnswers.{has_lock, meets}
use Rattle.arj_model.specs.Table.{table}
use Rattle.arj_protocol.specs.Laws.{naming_rows}
use Rattle.arj_law_cause.proofs.rows.Inside.{handle_starts}
use Rattle.arj_law_cause.proofs.rows.Holders.{begun_act, entry_upper, upper_act}
use Rattle.arj_law_cause.proofs.rows.Meeting.{Meets, bind_clears, bind_meets, bind_writes, free_by, invoke_meets}
use Rattle.arj_law_cause.proofs.rows.Meeting.{invoke_runs, is_write, lock_by, meets_by}
use Rattle.arj_promise.specs.Runs.{HeaderFits}
use Rattle.arj_model.specs.CausePends.{may_store}
use Rattle.arj_model.specs.CausePends.{pends}
use Rattle.arj_model.specs.Past.{Asked as AskedOf}
use Rattle.arj_law_cause.specs.rows.{Early.IsEarly, Says.has_changed, Says.has_upper, Says.meets_none, Says.says_of, Tables.Inside}
use Rattle.arj_law_parts.proofs.parts.LivesNamed.{all_found}
use Terms.{IsEntryRow}
use Terms.{HaveUpper}
use Rattle.arj_law_serial.proofs.holding.Running.{alike_of}
use Rattle.std.proofs.lemmas.List.Folds.{list_all-append}

-- ---- what is sent last

abbrev last_of : List Effect → Option Effect
last_of [] = None
last_of (e ∷ []) = Some e
last_of (e ∷ f ∷ es) = last_of (f ∷ es)

last_is : (es : List Effect) (e : Effect) → last_of (es ++ e ∷ []) ≡ Some e
last_is [] e = refl
last_is (a ∷ []) e = refl
last_is (a ∷ b ∷ es) e = last_is (b ∷ es) e

abbrev pub outs_in : Handled → List Effect
outs_in (Void outs) = outs
outs_in (Took v outs) = outs

abbrev parts_of : Parts → Handled → Parts
parts_of t (Void outs) = t
parts_of t (Took v outs) = v

abbrev reply_in : Effect → Option (Asked × Reply)
reply_in (Send to m) = answers m
reply_in e = None

-- an answer that is sent last is the part's
pub same_reply : (from : ℕ) (h : Head) (r q : Reply) (front outs : List Effect) → front ++ Send from (response (asked_by h) r) ∷ [] ≡
    outs ++ Send from (response (asked_by h) q) ∷ [] → r ≡ q
same_reply from h r q front outs same =
    let one : Send from (response (asked_by h) r) ≡ Send from (response (asked_by h) q) =
    some_is (sym (last_is front (Send from (response (asked_by h) r))) ∙ ap last_of same ∙ last_is outs
    (Send from (response (asked_by h) q))) in
    let two : ◌≡◌ {A = Option (Asked × Reply)} (Some (asked_by h, r)) (Some (asked_by h, q)) =
    sym (reads_back (asked_by h) r) ∙ ap reply_in one ∙ reads_back (asked_by h) q in
    ap (λ (z : Asked × Reply). z.1) (some_is two)

-- ---- what a request is served with

abbrev pub init_of : List Effect → List Effect
init_of [] = []
init_of (e ∷ []) = []
init_of (e ∷ f ∷ es) = e ∷ init_of (f ∷ es)

pub init_is : (es : List Effect) (e : Effect) → init_of (es ++ e ∷ []) ≡ es
init_is [] e = refl
init_is (a ∷ []) e = refl
init_is (a ∷ b ∷ es) e = ap (λ xs. a ∷ xs) (init_is (b ∷ es) e)

-- before its answer nothing is sent
pub silent_front : (k : ℕ) (d : Disk) (t v : Parts) (from : ℕ) (h : Head) (a : Ask) (r : Reply) (front : List Effect) →
    serve k d t from h a ≡ Took v (front ++ Send from (response (asked_by h) r) ∷ []) → AreSilent front
silent_front k d t v from h a r front is =
    let s = subst (IsServed from h a t) is (serves k d t from h a) in
    subst AreSilent (sym (init_is s.front (Send from (response (asked_by h) s.reply))) ∙ ap init_of (sym s.are)
    ∙ init_is front (Send from (response (asked_by h) r))) s.silent

-- ---- lines behind effects

abbrev said_by : List Effect → List Body
said_by [] = []
said_by (Say b ∷ es) = b ∷ said_by es
said_by (Send to m ∷ es) = said_by es
said_by (Do w ∷ es) = said_by es

pub behind_said : (e : ℕ) (es : List Effect) (ls : List Line) → lines_behind e es ls ≡ ls ++ numbered e (said_by es)
behind_said e [] ls = sym (append-nil ls)
behind_said e (Say b ∷ es) ls = behind_said e es (ls ++ numbered e (b ∷ [])) ∙ append_assoc ls (numbered e (b ∷ []))
    (numbered e (said_by es))
behind_said e (Send to m ∷ es) ls = behind_said e es ls
behind_said e (Do w ∷ es) ls = behind_said e es ls

said_none : (j : ℕ) (es fs : List Effect) → All (is_no_start j) (es ++ fs) → list_all (is_no_start j) (said_by es) ≡ true
said_none j [] fs all = refl
said_none j (Say b ∷ es) fs all = let q = and_parts (is_no_start j b) (list_all (says (is_no_start j)) (es ++ fs)) all in
    λ i. q.0 i && said_none j es fs q.1 i
said_none j (Send to m ∷ es) fs all = said_none j es fs all
said_none j (Do w ∷ es) fs all = said_none j es fs all

-- a walk comes to where its last effect is sent
walk_front : (P : Seen → Type 0) (e k : ℕ) (v : Parts) (front : List Effect) (to : ℕ) (m : Message) (d : Disk) (S : Seen) →
    AreSilent front →
    Walks P e k (front ++ Send to m ∷ []) (Up P k v) d S →
    (c : Disk) × P (seen.up k c v (record S { lines = lines_behind e front S.lines; sent = post k to m ∷ S.sent }))
walk_front P e k v [] to m d S silent w = (
  d,
  subst (λ ls. P (seen.up k d v (record S {
    lines = ls;
    sent =
        post k to m ∷ S.sent;
  }))) (append-nil S.lines) (w [] refl),
)
walk_front P e k v (Say b ∷ es) to m d S silent w = walk_front P e k v es to m d (seen.said e (b ∷ []) S) silent.1 w
walk_front P e k v (Send n x ∷ es) to m d S silent w = absurd silent.0
walk_front P e k v (Do x ∷ es) to m d S silent w = walk_front P e k v es to m (worked x d) S silent.1 w.1

-- the row that is met is there
met : (path : List Uid) (o : Uid) (asked : Mode) (u : Uid) (held : Mode) (rows : List Row) (m : Meets path o asked u held rows) →
    In m.row rows
met path o asked u held rows m = (in_find (is_against path o asked) m.row rows m.found).0

-- whom a store names as in doubt has something prepared there
holder_prepared : (x u : Uid) (d : Pair) → holder_of x d ≡ Some u → is_prepared u d ≡ true
holder_prepared x u d is = by (find (λ (p : Uid × List ObjectState). names_object x p.1) d.pend) refl is
  where
    at_is : (m : List (Uid × List ObjectState)) (p : Uid × List ObjectState) → In p m → is_some (at_uid p.0 m) ≡ true
    at_is [] p i = absurd i
    at_is (q ∷ m) p (inl same) = (λ i. is_some (cond (is_eq ((ap (λ (z : Uid × List ObjectState). uid_order p.0 z.0) same
        ∙ order_itself p.0) i)) (Some q.1) (at_uid p.0 m)))
    at_is (q ∷ m) p (inr i) = one (uid_order p.0 q.0) (at_is m p i)
      where
        one : (r : Words.Ordering) → is_some (at_uid p.0 m) ≡ true → is_some (cond (is_eq r) (Some q.1) (at_uid p.0 m)) ≡ true
        one Words.Less ih = ih
        one Words.Equal ih = refl
        one Words.Greater ih = ih

    by : (o : Option (Uid × List ObjectState)) → find (λ (p : Uid × List ObjectState). names_object x p.1) d.pend ≡ o →
        option_map (λ (p : Uid × List ObjectState). p.0) o ≡ Some u → is_prepared u d ≡ true
    by None none e = absurd (cc e)
    by (Some p) some e = subst (λ w. is_prepared w d ≡ true) (some_is e)
        (at_is d.pend p (in_find (λ (q : Uid × List ObjectState). names_object x q.1) p d.pend some).0)

-- a doubt is of a state that another action has prepared
pub doubt_found : (act : Uid) (d : Pair) (ss : List ObjectState) (u w : Uid) → first_refusal act d ss ≡ Some (InDoubt u w) →
    (s : ObjectState) × In s ss × (s.uid ≡ u) × (holder_of u d ≡ Some w)
doubt_found act d [] u w is = absurd (cc is)
doubt_found act d (s ∷ ss) u w is = by (refusal_in act d s) refl is (doubt_found act d ss u w)
  where
    its : (o : Option Uid) → holder_of s.uid d ≡ o → by_holder s o ≡ Some (InDoubt u w) → (s.uid ≡ u) × (holder_of u d ≡ Some w)
    its None at e = absurd (cc e)
    its (Some x) at e =
        let one : ◌≡◌ {A = Prep} (InDoubt s.uid x) (InDoubt u w) = some_is e in
        let same : s.uid ≡ u = cc one in
        let who : x ≡ w = cc one in (same, ap (λ z. holder_of z d) (sym same) ∙ at ∙ ap Some who)

    of : (held : Option ObjectState) → refusal_of act s held (holder_of s.uid d) ≡ Some (InDoubt u w) →
        (s.uid ≡ u) × (holder_of u d ≡ Some w)
    of None e = its (holder_of s.uid d) refl e
    of (Some q) e = one (uid_eq q.writer act) (is_old s q) e
      where
        one : (a b : Bool) → (if a then Some (Already s.uid) else if b then Some (Old s.uid q.version) else by_holder s (holder_of s.uid d))
            ≡ Some (InDoubt u w) → (s.uid ≡ u) × (holder_of u d ≡ Some w)
        one true b e = let no_way : ◌≡◌ {A = Prep} (Already s.uid) (InDoubt u w) = some_is e in absurd (cc no_way)
        one false true e = let no_way : ◌≡◌ {A = Prep} (Old s.uid q.version) (InDoubt u w) = some_is e in absurd (cc no_way)
        one false false e = its (holder_of s.uid d) refl e

    by : (o : Option Prep) → refusal_in act d s ≡ o → either o (first_refusal act d ss) ≡ Some (InDoubt u w) →
        (first_refusal act d ss ≡ Some (InDoubt u w) → (s : ObjectState) × In s ss × (s.uid ≡ u) × (holder_of u d ≡ Some w)) →
        (z : ObjectState) × In z (s ∷ ss) × (z.uid ≡ u) × (holder_of u d ≡ Some w)
    by None at e ih = let r = ih e in (r.0, inr r.1, r.2, r.3)
    by (Some a) at e ih = let r = of (held_at s.uid d) (at ∙ e) in (s, inl refl, r.0, r.1)

pub doubt_first : (o : Option Prep) (u w : Uid) → unwrap_or o Ready ≡ InDoubt u w → o ≡ Some (InDoubt u w)
doubt_first None u w e = absurd (cc e)
doubt_first (Some b) u w e = ap Some e

-- ---- tables

-- who has locks has begun by these lines, and on entries is no nested action
pub record AreHolders (v : Parts) (lines : List Line) : Type 0 where
  pub server : (x : ℕ) (r : Row) → In r (server_rows x v.server) → has_act (acts lines) (last_uid r.holder) ≡ true
  pub naming : (o : Naming) → v.naming ≡ Some o → (x : ℕ) (r : Row) → In r (naming_rows x o) →
      has_upper (acts lines) (last_uid r.holder) ≡ true

module _ (hd : Header) (before : List Line) (event : ℕ) (early : (j : ℕ) → (event == up_of j before) ≡ false) where
  -- what tables show, in the event behind these lines
  abbrev pub InTable : Seen → Type 0
  InTable = Showing hd (length before) event

  -- so it is of a node that is up
  holders_of : (k : ℕ) (v : Parts) (S : Seen) (n : Node) → S.nodes k ≡ Some n → n.live ≡ Some v → InTable S → AreHolders v S.lines
  holders_of k v S n there live z = record {
    server = λ x r i. at_server x r (at_number x v.server.objects) refl i;
    naming = λ o is x r i. at_entry o is x r (at_number x o.objects) refl i;
  }
    where
      alike : AreAlike z.0 (acts S.lines)
      alike = alike_of hd (length before) event z.0 S z.1.0

      its : (let d = n.disk in IsUp z.0 S.sent S.labels k d.inc v)
      its = let good = z.1.0.1.0 in let place = good.places k n there in
          subst (IsMemory z.0 S.sent S.labels k (let d = n.disk in d.inc)) live place.memory

      at_server : (x : ℕ) (r : Row) (o : Option Copy) → at_number x v.server.objects ≡ o → In r (rows_in_copy o) →
          has_act (acts S.lines) (last_uid r.holder) ≡ true
      at_server x r None at i = absurd i
      at_server x r (Some c) at i =
          let good = z.1.0.1.0 in
          let node = its.good (paths_of z.0) (begun_tree z.0 good.begun) (path_found z.0 good.begun) in
          let f = (let a = node.knows in a.rows x c r at (in_to r c.rows i)) in
          ap (λ us. has_act (acts S.lines) (last_uid us)) f.2 ∙ begun_act z.0 (acts S.lines) alike f.0 f.1

      at_entry : (o : Naming) → v.naming ≡ Some o → (x : ℕ) (r : Row) (f : Option Named) → at_number x o.objects ≡ f →
          In r (rows_in_named f) → has_upper (acts S.lines) (last_uid r.holder) ≡ true
      at_entry o is x r None at i = absurd i
      at_entry o is x r (Some q) at i =
          let upper = z.1.1.1.0 k n there in
          let h : HoldsNames z.0 o = upper.live v o live is in
          let rows = all_found (λ (q : Named). (r : Row) → Contains q.rows r → IsEntryRow z.0 r) x o.objects q h.entries at in
          let uppers = all_found (λ (q : Named). HaveUpper z.0 q.rows) x o.objects q
          (let b = h.objects in (let u = b.uppers in u.rows)) at in
          let c : Contains q.rows r = in_to r q.rows i in
          upper_act z.0 (acts S.lines) alike (last_uid r.holder) (entry_upper z.0 r (rows r c) (uppers r c))

  -- where a request is answered, the table has the locks that the node has then
  pub table_then : (k : ℕ) (d : Disk) (t v : Parts) (from : ℕ) (m : Message) (front : List Effect) (x : Message) (M : Moment)
      (sent : List Post) →
      Within M.seen.sent sent → InTable (seen.with_sent sent (let N = up k d t M in N.seen)) → Inside before event (up k d t M) →
      is_restart M.past.event ≡ false →
      seen.In (post from k m) M.seen.sent → is_meant t m ≡ true → handle k d t from m ≡ Took v (front ++ Send from x ∷ []) →
      AreSilent front →
      ShowsLocks k (lines_behind M.past.number front M.seen.lines) (Some v) × AreHolders v (lines_behind M.past.number front M.seen.lines)
  table_then k d t v from m front x M sent within shows inside other there meant is silent =
      let steps = showing_kept hd (length before) event ⊤ tt in
      let w = steps.message M.past.number k d t v from m (front ++ Send from x ∷ []) (seen.with_sent sent M.seen) shows
      (within (post from k m) there) meant is in
      let r = walk_front InTable M.past.number k v front from x d (seen.with_sent sent M.seen) silent w in
      let s = r.1.2 in
      let here : (if k == k then Some (record { number = k; disk = r.0; live = Some v }) else M.seen.nodes k) ≡
      Some (record { number = k; disk = r.0; live = Some v }) =
      λ i. if same_number k i then Some (record { number = k; disk = r.0; live = Some v }) else M.seen.nodes k in (
        subst (λ o. ShowsLocks k (lines_behind M.past.number front M.seen.lines) (memory_of o)) here
            (s.shown (subst (Since event (length before)) (sym its) (since_all event (inside.wrote ++ said_by front) before)) k
            ((λ i. event == up_of k (its i)) ∙ (λ i. event == none_starts k event (inside.wrote ++ said_by front) none before i)
            ∙ early k)),
        holders_of k v (seen.up k r.0 v (record M.seen {
          lines = lines_behind M.past.number front M.seen.lines;
          sent = post k from x ∷ sent;
        })) (record { number = k; disk = r.0; live = Some v }) here refl r.1,
      )
    where
      none : list_all (is_no_start k) (inside.wrote ++ said_by front) ≡ true
      none = list_all-append (is_no_start k) inside.wrote (said_by front) ∙ (λ i. inside.starts other k i && said_none k front
          (Send from x ∷ []) (handle_starts k d t v from m (front ++ Send from x ∷ []) is k) i)

      its : lines_behind M.past.number front M.seen.lines ≡ before ++ numbered event (inside.wrote ++ said_by front)
      its = behind_said M.past.number front M.seen.lines ∙ (λ i. inside.lines i ++ numbered (inside.number i) (said_by front))
          ∙ append_assoc before (numbered event inside.wrote) (numbered event (said_by front))
          ∙ ap (λ ls. before ++ ls) (sym (map-append (λ (b : Body). record { event = event; body = b }) inside.wrote (said_by front)))

  -- ---- a request that is served

  module _ (k : ℕ) (d : Disk) (t v : Parts) (from : ℕ) (h : Head) (r : Reply) (front : List Effect) (lines : List Line)
      (A : List AskedOf) (shown : ShowsLocks k lines (Some v)) (holders : AreHolders v lines) (place : is_some t.naming ≡ (k == 1))
      (doubts : (u : Uid) → ((n : ℕ) (ls : List Line) → lines_behind n front ls ≡ ls) → is_prepared u d.store ≡ true →
      pends A k u lines ≡ true) where
    -- what comes before the answer says nothing
    abbrev Unsaid : Type 0
    Unsaid = (n : ℕ) (ls : List Line) → lines_behind n front ls ≡ ls

    abbrev Sent : Handled → Type 0
    Sent a = a ≡ Took v (front ++ Send from (response (asked_by h) r) ∷ [])

    -- the part's reply is what is sent
    replied : (w : Parts) (outs : List Effect) (q : Reply) → Took w (outs ++ Send from (response (asked_by h) q) ∷ []) ≡
        Took v (front ++ Send from (response (asked_by h) r) ∷ []) → (r ≡ q) × (w ≡ v)
    replied w outs q same = (same_reply from h r q front outs (sym (ap outs_in same)), ap (parts_of t) same)

    abbrev After : ℕ → Binding → ℕ → List (Uid × End) → Op → Parts
    After x b i ends o = with_server t (server.invoke k h x b i ends o t.server).part

    abbrev Bound : ℕ → Bool → Binding → Naming → Parts
    Bound x include avoid o = with_naming t (naming.bind h.path x include avoid d.names o).part

    invoked_says : (x : ℕ) (b : Binding) (i : ℕ) (ends : List (Uid × End)) (o : Op) →
        is_again h (ask.Invoke x b i ends o) t.server ≡ false →
        Sent (serve k d t from h (ask.Invoke x b i ends o)) → says_of A hd k h (ask.Invoke x b i ends o) r lines
    invoked_says x b i ends o new is = by (server.invoke k h x b i ends o t.server).reply refl is
      where
        says : (q : InvokedReply) → (server.invoke k h x b i ends o t.server).reply ≡ Some q → After x b i ends o ≡ v →
            says_of A hd k h (ask.Invoke x b i ends o) (Reply.Invoked q) lines
        says (invoked.Answered a) at same =
            let run = invoke_runs k h x ends o a b i t.server new at in
            let rows = shown.server x ∙ ap (λ (z : Parts). server_rows x z.server) (sym same) in (
              lock_by k (actor h.path) (object x) (op_mode o) lines (server_rows x (let w = After x b i ends o in w.server)) rows run.0,
              free_by k (uids_of h.path) (object x) (op_mode o) lines (server_rows x (let w = After x b i ends o in w.server)) rows run.1,
            )
        says (invoked.Changed w) at same = tt
        says (invoked.Conflict u m) at same =
            let q = invoke_meets k h x ends o u m b i t.server new at in (
              meets_by k (uids_of h.path) (object x) (op_mode o) u m lines (server_rows x (let w = After x b i ends o in w.server))
                  (shown.server x ∙ ap (λ (z : Parts). server_rows x z.server) (sym same)) q,
              ap (has_act (acts lines)) (sym q.holder) ∙ holders.server x q.row (subst (λ (z : Parts). In q.row
                  (server_rows x z.server)) same
                  (met (uids_of h.path) (object x) (op_mode o) u m (server_rows x (let w = After x b i ends o in w.server)) q)),
            )

        by : (f : Option InvokedReply) → (server.invoke k h x b i ends o t.server).reply ≡ f →
            Sent (sends_answer from h (After x b i ends o) (server.invoke k h x b i ends o t.server).outs (option_map Reply.Invoked f)) →
            says_of A hd k h (ask.Invoke x b i ends o) r lines
        by None at e = let no_way : Void [] ≡ Took v (front ++ Send from (response (asked_by h) r) ∷ []) = e in absurd (cc no_way)
        by (Some q) at e = let z = replied (After x b i ends o) (server.invoke k h x b i ends o t.server).outs (Reply.Invoked q) e in
            subst (λ y. says_of A hd k h (ask.Invoke x b i ends o) y lines) (sym z.0) (says q at z.1)

    bound_says : (x : ℕ) (include : Bool) (avoid : Binding) → Sent (serve k d t from h (ask.Bind x include avoid)) →
        says_of A hd k h (ask.Bind x include avoid) r lines
    bound_says x include avoid is = with_it t.naming refl is
      where
        named : (o : Naming) → t.naming ≡ Some o →
            Sent (served from h (with_naming t) Reply.Bound (naming.bind h.path x include avoid d.names o)) →
            says_of A hd k h (ask.Bind x include avoid) r lines
        named o there e = by (naming.bind h.path x include avoid d.names o).reply refl e
          where
            one : (k == 1) ≡ true
            one = sym place ∙ ap is_some there

            -- under the write lock
            written : (q : BoundReply) → is_write q ≡ true → (naming.bind h.path x include avoid d.names o).reply ≡ Some q →
                Bound x include avoid o ≡ v → has_lock 1 (top_of h.path) (entry x) mode.Write lines ≡ true
            written q on at same =
                lock_by 1 (top_of h.path) (entry x) mode.Write lines (naming_rows x (naming.bind h.path x include avoid d.names o).part)
                (subst (λ n. rows_on (entry x) (table n lines) ≡ named_locks x v.naming) (eqb-true k 1 one) (shown.naming x one)
                ∙ ap (λ (y : Parts). named_locks x y.naming) (sym same))
                (bind_writes h.path x q include avoid d.names o on at)

            -- where no lock stands against it
            free : (m : Mode) → Bound x include avoid o ≡ v →
                first_conflict (top_path h.path) (entry x) m (naming_rows x (naming.bind h.path x include avoid d.names o).part) ≡ None →
                meets_none 1 (top_path h.path) (entry x) m lines ≡ true
            free m same none =
                free_by 1 (top_path h.path) (entry x) m lines (naming_rows x (naming.bind h.path x include avoid d.names o).part)
                (subst (λ n. rows_on (entry x) (table n lines) ≡ named_locks x v.naming) (eqb-true k 1 one) (shown.naming x one)
                ∙ ap (λ (y : Parts). named_locks x y.naming) (sym same)) none

            says : (q : BoundReply) → (naming.bind h.path x include avoid d.names o).reply ≡ Some q → Bound x include avoid o ≡ v →
                says_of A hd k h (ask.Bind x include avoid) (Reply.Bound q) lines
            says (bound.Live b s i g stores) at same = (
              bind_kind h.path x include avoid d.names o (bound.Live b s i g stores) at,
              free mode.Read same (bind_clears h.path x (bound.Live b s i g stores) include avoid d.names o at),
            )
            says (bound.Make b s g stores) at same = (
              bind_kind h.path x include avoid d.names o (bound.Make b s g stores) at,
              written (bound.Make b s g stores) refl at same,
              free mode.Write same (bind_clears h.path x (bound.Make b s g stores) include avoid d.names o at),
            )
            says (bound.Write g stores) at same = (
              written (bound.Write g stores) refl at same,
              free mode.Write same (bind_clears h.path x (bound.Write g stores) include avoid d.names o at),
            )
            says (bound.Conflict u m) at same =
                let z = bind_meets h.path x u m include avoid d.names o at in (
                  eqb-true k 1 one,
                  z.1.0 (λ w. meets 1 (top_path h.path) (entry x) w u m lines)
                      (meets_by 1 (top_path h.path) (entry x) z.0 u m lines
                      (naming_rows x (naming.bind h.path x include avoid d.names o).part)
                      (subst (λ n. rows_on (entry x) (table n lines) ≡ named_locks x v.naming) (eqb-true k 1 one) (shown.naming x one)
                      ∙ ap (λ (y : Parts). named_locks x y.naming) (sym same)) z.1.1),
                  (let q = z.1.1 in ap (has_upper (acts lines)) (sym q.holder) ∙ holders.naming
                      (naming.bind h.path x include avoid d.names o).part (ap (λ (y : Parts). y.naming) (sym same)) x q.row
                      (met (top_path h.path) (entry x) z.0 u m (naming_rows x (naming.bind h.path x include avoid d.names o).part) q)),
                )

            by : (f : Option BoundReply) → (naming.bind h.path x include avoid d.names o).reply ≡ f →
                Sent (sends_answer from h (Bound x include avoid o) (naming.bind h.path x include avoid d.names o).outs
                (option_map Reply.Bound f)) →
                says_of A hd k h (ask.Bind x include avoid) r lines
            by None at e = let no_way : Void [] ≡ Took v (front ++ Send from (response (asked_by h) r) ∷ []) = e in absurd (cc no_way)
            by (Some q) at e =
                let z = replied (Bound x include avoid o) (naming.bind h.path x include avoid d.names o).outs (Reply.Bound q) e in
                subst (λ y. says_of A hd k h (ask.Bind x include avoid) y lines) (sym z.0) (says q at z.1)

        with_it : (f : Option Naming) → t.naming ≡ f →
            Sent (if_naming (λ o. served from h (with_naming t) Reply.Bound (naming.bind h.path x include avoid d.names o)) f) →
            says_of A hd k h (ask.Bind x include avoid) r lines
        with_it None there e = let no_way : Void [] ≡ Took v (front ++ Send from (response (asked_by h) r) ∷ []) = e in absurd (cc no_way)
        with_it (Some o) there e = named o there e

    loaded_says : (x : ℕ) → (Unsaid → HeaderFits hd → may_store hd lines k x ≡ true) →
        ((u : Uid) → Unsaid → holder_of (object x) d.store ≡ Some u → HeaderFits hd → IsEarly lines → has_changed lines u x ≡ true) →
        Sent (serve k d t from h (ask.Load x)) → says_of A hd k h (ask.Load x) r lines
    loaded_says x stores changed is = by (holder_of (object x) d.store) refl is
      where
        held : (o : Option ObjectState) → Sent (load_held from h t o) → says_of A hd k h (ask.Load x) r lines
        held None e = let no_way : Void (Do Look ∷ []) ≡ Took v (front ++ Send from (response (asked_by h) r) ∷ []) = e in absurd
            (cc no_way)
        held (Some s) e = let z = replied t (Do Look ∷ []) (Reply.Loaded (loaded.State s)) e in
            subst (λ y. says_of A hd k h (ask.Load x) y lines) (sym z.0) tt

        by : (o : Option Uid) → holder_of (object x) d.store ≡ o → Sent (load_by x d.store from h t o) →
            says_of A hd k h (ask.Load x) r lines
        by None at e = held (held_at (object x) d.store) e
        by (Some u) at e = let z = replied t [] (Reply.Loaded (loaded.InDoubt u)) e in
            let none : front ≡ [] = sym (init_is front (Send from (response (asked_by h) r))) ∙ ap init_of (sym (ap outs_in e)) in
            subst (λ y. says_of A hd k h (ask.Load x) y lines) (sym z.0)
            (let quiet : Unsaid = (λ n ls. ap (λ es. lines_behind n es ls) none) in
            (doubts u quiet (holder_prepared (object x) u d.store at), (λ form. stores quiet form), changed u quiet at))

    prepared_says : (states : List ObjectState) → (Unsaid → (s : ObjectState) → In s states → (u : Uid) →
        holder_of s.uid d.store ≡ Some u → HeaderFits hd → IsEarly lines →
        (has_changed lines (actor h.path) (let w = s.uid in w.num) && has_changed lines u (let w = s.uid in w.num)) ≡ true) →
        Sent (serve k d t from h (ask.Prepare states)) → says_of A hd k h (ask.Prepare states) r lines
    prepared_says states changed is = by (is_prepared (actor h.path) d.store) (prepare_answer (actor h.path) states d.store) refl refl is
      where
        -- an answer that is no doubt
        other : (q : PreparedReply) → r ≡ Reply.Prepared q → ((y : ℕ) (u : Uid) → q ≡ prepared.InDoubt y u → ⊥) →
            says_of A hd k h (ask.Prepare states) r lines
        other prepared.Yes its off = subst (λ z. says_of A hd k h (ask.Prepare states) z lines) (sym its) tt
        other (prepared.Old y n) its off = subst (λ z. says_of A hd k h (ask.Prepare states) z lines) (sym its) tt
        other (prepared.InDoubt y u) its off = absurd (off y u refl)

        reply_of : (q : PreparedReply) (es : List Effect) → Took t (es ++ Send from (response (asked_by h) (Reply.Prepared q)) ∷ []) ≡
            Took v (front ++ Send from (response (asked_by h) r) ∷ []) → r ≡ Reply.Prepared q
        reply_of q es f = (replied t es (Reply.Prepared q) f).0

        by : (b : Bool) (a : Prep) → is_prepared (actor h.path) d.store ≡ b → prepare_answer (actor h.path) states d.store ≡ a →
            Sent (cond b (sends_answer from h t [] (Some (Reply.Prepared prepared.Yes))) (prepare_by k states from h t a)) →
            says_of A hd k h (ask.Prepare states) r lines
        by true a held at f = other prepared.Yes (reply_of prepared.Yes [] f) (λ y u z. cc z)
        by false Ready held at f = other prepared.Yes (reply_of prepared.Yes
            (Do Look ∷ Do (Prepare role.Store (actor h.path) states) ∷ Say (body.Prepared k (actor h.path) role.Store) ∷ []) f)
            (λ y u z. cc z)
        by false (Already u) held at f =
            let no_way : Void (Do Look ∷ []) ≡ Took v (front ++ Send from (response (asked_by h) r) ∷ []) = f in absurd (cc no_way)
        by false (Old u n) held at f = other (prepared.Old (let z = u in z.num) n) (reply_of (prepared.Old (let z = u in z.num) n)
            (Do Look ∷ []) f) (λ y w z. cc z)
        by false (InDoubt u w) held at f = subst (λ z. says_of A hd k h (ask.Prepare states) z lines)
            (sym (reply_of (prepared.InDoubt (let z = u in z.num) w) (Do Look ∷ []) f)) (
              apart,
              doubts w quiet (holder_prepared u w d.store found.3),
              λ form early. subst (λ (z : Uid). (has_changed lines (actor h.path) z.num && has_changed lines w z.num) ≡ true) found.2
                  (changed quiet found.0 found.1 w (ap (λ z. holder_of z d.store) found.2 ∙ found.3) form early),
            )
          where
            found : (s : ObjectState) × In s states × (s.uid ≡ u) × (holder_of u d.store ≡ Some w)
            found = doubt_found (actor h.path) d.store states u w
                (doubt_first (first_refusal (actor h.path) d.store states) u w at)

            quiet : Unsaid
            quiet = λ n ls. ap (λ es. lines_behind n es ls)
                (sym (init_is front (Send from (response (asked_by h) r))) ∙ ap init_of (sym (ap outs_in f)))

            apart : uid_eq w (actor h.path) ≡ false
            apart = of (uid_eq w (actor h.path)) refl
              where
                of : (b : Bool) → uid_eq w (actor h.path) ≡ b → b ≡ false
                of false e = refl
                of true e = let no_way : true ≡ false = sym (holder_prepared u w d.store found.3)
                    ∙ ap (λ z. is_prepared z d.store) (uid_is w (actor h.path) e) ∙ held in absurd (cc no_way)

    pub served_says : (a : Ask) → is_again h a t.server ≡ false →
        ((x : ℕ) → a ≡ ask.Load x → Unsaid → HeaderFits hd → may_store hd lines k x ≡ true) →
        ((x : ℕ) (u : Uid) → a ≡ ask.Load x → Unsaid → holder_of (object x) d.store ≡ Some u → HeaderFits hd → IsEarly lines →
        has_changed lines u x ≡ true) →
        ((states : List ObjectState) → a ≡ ask.Prepare states → Unsaid → (s : ObjectState) → In s states → (u : Uid) →
        holder_of s.uid d.store ≡ Some u → HeaderFits hd → IsEarly lines →
        (has_changed lines (actor h.path) (let w = s.uid in w.num) && has_changed lines u (let w = s.uid in w.num)) ≡ true) →
        Sent (serve k d t from h a) → says_of A hd k h a r lines
    served_says (ask.Invoke x b i ends o) new stores changed prepares is = invoked_says x b i ends o new is
    served_says (ask.Bind x include avoid) new stores changed prepares is = bound_says x include avoid is
    served_says (ask.Load x) new stores changed prepares is = loaded_says x (stores x refl) (λ u. changed x u refl) is
    served_says (ask.Activate b st) new stores changed prepares is = tt
    served_says (ask.Record x b i g) new stores changed prepares is = tt
    served_says (ask.Vote i ties ends) new stores changed prepares is = tt
    served_says (ask.Prepare states) new stores changed prepares is = prepared_says states (prepares states refl) is
    served_says (ask.Confirm grants excluded included) new stores changed prepares is = tt
