-- No handler of a node says a line of frames, of halts or of the world.
use Rattle.arj_law_parts.proofs.Words
use Words.{append-nil, append_assoc, ◌≡◌, ◌∙◌, ◌==◌, ◌&&◌, ℕ, zero, suc, Bool, true, false, cond, List, [], ◌∷◌, ◌++◌, map, filter, refl}
use Words.{sym, Option, Some}
use Words.{None, option_map, list_all, and_parts, acked_own, heard_own, query_own}
use Words.{activate_own, all_both, all_flat, bind_own, confirm_own, ends_own, invoke_own, note_own, told_own, vote_own, Reply, actor}
use Words.{answers, asked_by, last_end, response, heard, back_lines, confirm, Disk, Effect, Pair, Say, Send, Do}
use Words.{Served, Prep, Ready, Already, Old, InDoubt, held_at, holder_of, is_prepared, prepare_answer, worked, acked, answer_query}
use Words.{Named, Naming, Handled, Void, Took, Here, Parts, Ran, ack_told, by_reply, end_states, first_done, first_queued}
use Words.{handle, handle_all, handle_answer, handle_ask, handle_ends, handle_other, handle_told, holders, if_naming, is_earlier, is_meant}
use Words.{load_by, load_held, naming_told, next_round, prepare_by, prepare_states, query_about, ran, ran_handled, rounds}
use Words.{sends_answer, serve, served, store_told, taken, with_coord, with_naming, with_server, AreAll}
use Words.{is_coord_effect, is_coord_line, is_naming_effect, is_naming_line, is_server_effect, is_server_line}
use Words.{copy_line, entry_line}
use Words.{naming_back, show_entry, show_outs, shown}
use Words.{Uid, End, Head, Asked, ObjectState, Body, Message}
use Words.{object, entry, Ask, asks}
use Words.naming
use Words.server
use Words.ask
use Words.body
use Rattle.arj_protocol.specs.Words.{FrameKind, Which}
use Words.ending
use Words.message
use Words.prepared

-- The line is none of frames, of a node that halts or is up again, or of the world: it doesn't say more than a part does.
abbrev pub is_still : Body → Bool
is_still (body.Sent a b c d) = false
is_still (body.Got a) = false
is_still (body.Void a) = false
is_still (body.Dropped a) = false
is_still (body.Halted a) = false
is_still (body.Up a b) = false
is_still (body.Armed a) = false
is_still (body.Refused a) = false
is_still (body.Quiet a) = false
is_still (body.Bad a) = false
is_still (body.Limit a) = false
is_still _ = true

-- so it is of an effect
abbrev pub says_still : Effect → Bool
says_still (Say b) = is_still b
says_still _ = true

abbrev pub Still : List Effect → Type 0
Still outs = AreAll says_still outs

abbrev pub outs_of : Handled → List Effect
outs_of (Void outs) = outs
outs_of (Took t outs) = outs

-- a kind of lines to which none of those belongs
record Excludes (test : Body → Bool) : Type 0 where
  pub sent : (k from to : ℕ) (what : FrameKind) → test (body.Sent k from to what) ≡ false
  pub got : (k : ℕ) → test (body.Got k) ≡ false
  pub void : (k : ℕ) → test (body.Void k) ≡ false
  pub dropped : (k : ℕ) → test (body.Dropped k) ≡ false
  pub halted : (n : ℕ) → test (body.Halted n) ≡ false
  pub up : (n i : ℕ) → test (body.Up n i) ≡ false
  pub armed : (n : ℕ) → test (body.Armed n) ≡ false
  pub refused : (c : ℕ) → test (body.Refused c) ≡ false
  pub quiet : (q : Bool) → test (body.Quiet q) ≡ false
  pub bad : (n : ℕ) → test (body.Bad n) ≡ false
  pub limit : (l : Which) → test (body.Limit l) ≡ false

-- each of its lines is still
still_line : (test : Body → Bool) → Excludes test → (b : Body) → test b ≡ true → is_still b ≡ true
still_line test none (body.Began a b c d) is = refl
still_line test none (body.Ok a b c d) is = refl
still_line test none (body.Includes a b c) is = refl
still_line test none (body.Conflict a b c d) is = refl
still_line test none (body.Lost a b) is = refl
still_line test none (body.Changed a b c) is = refl
still_line test none (body.Committing a) is = refl
still_line test none (body.Committed a) is = refl
still_line test none (body.Ended a) is = refl
still_line test none (body.Aborted a b) is = refl
still_line test none (body.GaveUp a b) is = refl
still_line test none (body.Excluded a b c) is = refl
still_line test none (body.Granted a b c d) is = refl
still_line test none (body.Lowered a b c) is = refl
still_line test none (body.Bound a b c) is = refl
still_line test none (body.Active a b c) is = refl
still_line test none (body.Told a b c d) is = refl
still_line test none (body.Prepared a b c) is = refl
still_line test none (body.Done a b c d) is = refl
still_line test none (body.Sent a b c d) is = absurd (cc (sym is ∙ none.sent a b c d))
still_line test none (body.Got a) is = absurd (cc (sym is ∙ none.got a))
still_line test none (body.Void a) is = absurd (cc (sym is ∙ none.void a))
still_line test none (body.Dropped a) is = absurd (cc (sym is ∙ none.dropped a))
still_line test none (body.Halted a) is = absurd (cc (sym is ∙ none.halted a))
still_line test none (body.Up a b) is = absurd (cc (sym is ∙ none.up a b))
still_line test none (body.Armed a) is = absurd (cc (sym is ∙ none.armed a))
still_line test none (body.Recovered a b) is = refl
still_line test none (body.Refused a) is = absurd (cc (sym is ∙ none.refused a))
still_line test none (body.Entry a b c d) is = refl
still_line test none (body.Copy a b c d e) is = refl
still_line test none (body.Quiet a) is = absurd (cc (sym is ∙ none.quiet a))
still_line test none (body.Bad a) is = absurd (cc (sym is ∙ none.bad a))
still_line test none (body.Limit a) is = absurd (cc (sym is ∙ none.limit a))

-- effects of such a kind
still_all : (test : Effect → Bool) (line : Body → Bool) → ((b : Body) → test (Say b) ≡ line b) → Excludes line → (es : List Effect) →
    AreAll test es → Still es
still_all test line same none [] all = refl
still_all test line same none (Say b ∷ es) all =
    let own = and_parts (test (Say b)) (list_all test es) all in
    let good = still_line line none b (sym (same b) ∙ own.0) in
    λ i. good i && still_all test line same none es own.1 i
still_all test line same none (Send to m ∷ es) all =
    still_all test line same none es (and_parts (test (Send to m)) (list_all test es) all).1
still_all test line same none (Do w ∷ es) all =
    still_all test line same none es (and_parts (test (Do w)) (list_all test es) all).1

server_excludes : (n : ℕ) → Excludes (is_server_line n)
server_excludes n = record {
  sent = λ k from to what. refl;
  got = λ k. refl;
  void = λ k. refl;
  dropped = λ k. refl;
  halted = λ n. refl;
  up = λ n i. refl;
  armed = λ n. refl;
  refused = λ c. refl;
  quiet = λ q. refl;
  bad = λ n. refl;
  limit = λ l. refl;
}

naming_excludes : Excludes is_naming_line
naming_excludes = record {
  sent = λ k from to what. refl;
  got = λ k. refl;
  void = λ k. refl;
  dropped = λ k. refl;
  halted = λ n. refl;
  up = λ n i. refl;
  armed = λ n. refl;
  refused = λ c. refl;
  quiet = λ q. refl;
  bad = λ n. refl;
  limit = λ l. refl;
}

coord_excludes : Excludes is_coord_line
coord_excludes = record {
  sent = λ k from to what. refl;
  got = λ k. refl;
  void = λ k. refl;
  dropped = λ k. refl;
  halted = λ n. refl;
  up = λ n i. refl;
  armed = λ n. refl;
  refused = λ c. refl;
  quiet = λ q. refl;
  bad = λ n. refl;
  limit = λ l. refl;
}

server_good : (n : ℕ) (es : List Effect) → AreAll (is_server_effect n) es → Still es
server_good n = still_all (is_server_effect n) (is_server_line n) (λ b. refl) (server_excludes n)

naming_good : (es : List Effect) → AreAll is_naming_effect es → Still es
naming_good = still_all is_naming_effect is_naming_line (λ b. refl) naming_excludes

pub coord_good : (es : List Effect) → AreAll is_coord_effect es → Still es
coord_good = still_all is_coord_effect is_coord_line (λ b. refl) coord_excludes

pub map_good : {A : Type 0} (f : A → Effect) (items : List A) → ((a : A) → says_still (f a) ≡ true) → Still (map f items)
map_good f [] each = refl
map_good f (a ∷ rest) each = λ i. each a i && map_good f rest each i

-- ---- messages

module _ (from : ℕ) (h : Head) where
  answer_good : (t : Parts) (outs : List Effect) (r : Option Reply) → Still outs → Still (outs_of (sends_answer from h t outs r))
  answer_good t outs None all = refl
  answer_good t outs (Some r) all = all_both says_still outs (Send from (response (asked_by h) r) ∷ []) all refl

  served_good : {S R : Type 0} (put : S → Parts) (say : R → Reply) (r : Served S R) → Still r.outs → Still
      (outs_of (served from h put say r))
  served_good put say r all = answer_good (put r.part) r.outs (option_map say r.reply) all

  naming_served : {R : Type 0} (put : Naming → Parts) (say : R → Reply) (f : Naming → Served Naming R) (o : Option Naming) →
      ((n : Naming) → AreAll is_naming_effect (f n).outs) → Still (outs_of (if_naming (λ n. served from h put say (f n)) o))
  naming_served put say f None all = refl
  naming_served put say f (Some n) all = served_good put say (f n) (naming_good (f n).outs (all n))

  load_good : (x : ℕ) (d : Pair) (t : Parts) (holder : Option Uid) → Still (outs_of (load_by x d from h t holder))
  load_good x d t (Some holder) = refl
  load_good x d t None = by (held_at (object x) d)
    where
      by : (s : Option ObjectState) → Still (outs_of (load_held from h t s))
      by None = refl
      by (Some s) = refl

  prepare_good : (n : ℕ) (d : Pair) (states : List ObjectState) (t : Parts) → Still (outs_of (prepare_states n d states from h t))
  prepare_good n d states t = by (is_prepared (actor h.path) d)
    where
      answer : (p : Prep) → Still (outs_of (prepare_by n states from h t p))
      answer Ready = refl
      answer (Already u) = refl
      answer (Old u v) = refl
      answer (InDoubt u holder) = refl

      by : (b : Bool) → Still (outs_of (cond b (sends_answer from h t [] (Some (Reply.Prepared prepared.Yes)))
          (prepare_by n states from h t (prepare_answer (actor h.path) states d))))
      by true = refl
      by false = answer (prepare_answer (actor h.path) states d)

  serve_good : (n : ℕ) (d : Disk) (t : Parts) (a : Ask) → Still (outs_of (serve n d t from h a))
  serve_good n d t (ask.Bind x include avoid) = naming_served (with_naming t) Reply.Bound (naming.bind h.path x include avoid d.names)
      t.naming (bind_own h.path x include avoid d.names)
  serve_good n d t (ask.Load x) = load_good x d.store t (holder_of (object x) d.store)
  serve_good n d t (ask.Activate b st) = served_good (with_server t) Reply.Activated (server.activate n h.path b st t.server)
      (server_good n (server.activate n h.path b st t.server).outs (activate_own n h.path b st t.server))
  serve_good n d t (ask.Record x b i g) =
      naming_served (with_naming t) Reply.Noted (naming.note h.path x b i g) t.naming (note_own h.path x b i g)
  serve_good n d t (ask.Invoke x b i ends op) = served_good (with_server t) Reply.Invoked (server.invoke n h x b i ends op t.server)
      (server_good n (server.invoke n h x b i ends op t.server).outs (invoke_own n h x b i ends op t.server))
  serve_good n d t (ask.Vote i ties ends) = served_good (with_server t) Reply.Voted (server.vote n h.path i ties ends t.server)
      (server_good n (server.vote n h.path i ties ends t.server).outs (vote_own n h.path i ties ends t.server))
  serve_good n d t (ask.Prepare states) = prepare_good n d.store states t
  serve_good n d t (ask.Confirm grants excluded included) = naming_served (with_naming t) Reply.Confirmed
      (confirm h.path grants excluded included d.names) t.naming (confirm_own h.path grants excluded included d.names)

told_good : (n : ℕ) (d : Disk) (t : Parts) (from : ℕ) (ack : Bool) (ends : List (Uid × End)) (u : Uid) (e : End) →
    Still (outs_of (handle_told n d t from ack ends u e))
told_good n d t from ack ends u e =
    all_both says_still (store_told n u e d.store ++ (naming_told u e d.names t.naming).outs ++ (server.told n ends t.server).outs)
    (ack_told from u ack)
    (all_both says_still (store_told n u e d.store ++ (naming_told u e d.names t.naming).outs) (server.told n ends t.server).outs
    (all_both says_still (store_told n u e d.store) (naming_told u e d.names t.naming).outs (store (is_prepared u d.store) e)
    (names t.naming))
    (server_good n (server.told n ends t.server).outs (ends_own n ends t.server)))
    (acks ack)
  where
    store : (b : Bool) (e : End) → Still (cond b (end_states n u e) [])
    store false e = refl
    store true ending.Commit = refl
    store true ending.Abort = refl

    names : (o : Option Naming) → Still (naming_told u e d.names o).outs
    names None = refl
    names (Some o) = naming_good (naming.told u e d.names o).outs (told_own u e d.names o)

    acks : (b : Bool) → Still (ack_told from u b)
    acks true = refl
    acks false = refl

reply_good : (t : Parts) (outs : List Effect) (r : Option (Unit {0})) → Still outs → Still (outs_of (by_reply t outs r))
reply_good t outs None all = refl
reply_good t outs (Some u) all = all

other_good : (n : ℕ) (d : Disk) (t : Parts) (from : ℕ) (m : Message) → Still (outs_of (handle_other n d t from m))
other_good n d t from (message.Told m) = by (last_end m.ends)
  where
    by : (o : Option (Uid × End)) → Still (outs_of (handle_ends n d t from m.ack m.ends o))
    by None = refl
    by (Some e) = told_good n d t from m.ack m.ends e.0 e.1
other_good n d t from (message.Acked m) =
    reply_good (with_coord t (acked from m.act d.intents t.coord).part) (acked from m.act d.intents t.coord).outs (acked from m.act
    d.intents t.coord).reply (coord_good (acked from m.act d.intents t.coord).outs (acked_own from m.act d.intents t.coord))
other_good n d t from (message.Query m) = coord_good (answer_query from m.act d.intents t.coord) (query_own from m.act d.intents t.coord)
other_good n d t from (message.Hello m) = map_good query_about (filter (is_earlier m.node m.inc) (holders d t)) (λ u. refl)
other_good n d t from (message.Bind m) = refl
other_good n d t from (message.Bound m) = refl
other_good n d t from (message.Load m) = refl
other_good n d t from (message.Loaded m) = refl
other_good n d t from (message.Activate m) = refl
other_good n d t from (message.Activated m) = refl
other_good n d t from (message.RecordMsg m) = refl
other_good n d t from (message.Recorded m) = refl
other_good n d t from (message.Invoke m) = refl
other_good n d t from (message.Invoked m) = refl
other_good n d t from (message.Vote m) = refl
other_good n d t from (message.Voted m) = refl
other_good n d t from (message.Prepare m) = refl
other_good n d t from (message.Prepared m) = refl
other_good n d t from (message.Confirm m) = refl
other_good n d t from (message.Confirmed m) = refl

pub taken_good : (n : ℕ) (d : Disk) (t : Parts) (from : ℕ) (m : Message) → Still (outs_of (taken n d t from m))
taken_good n d t from m = by (is_meant t m)
  where
    answered : (a : Option (Asked × Reply)) → Still (outs_of (handle_answer n d t from m a))
    answered None = other_good n d t from m
    answered (Some a) =
        reply_good (with_coord t (heard from a.0 a.1 d.intents t.coord).part) (heard from a.0 a.1 d.intents t.coord).outs (heard from a.0
        a.1 d.intents t.coord).reply (coord_good (heard from a.0 a.1 d.intents t.coord).outs (heard_own from a.0 a.1 d.intents t.coord))

    asked : (a : Option (Head × Ask)) → Still (outs_of (handle_ask n d t from m a))
    asked None = answered (answers m)
    asked (Some a) = serve_good from a.0 n d t a.1

    by : (b : Bool) → Still (outs_of (cond b (handle n d t from m) (Void [])))
    by true = asked (asks m)
    by false = refl

-- ---- a whole step

pub ran_good : (n : ℕ) (t : Parts) (es : List Effect) (d : Disk) → Still es → Still (ran n t es d).outs
ran_good n t [] d all = refl
ran_good n t (Say b ∷ es) d all = let own = and_parts (is_still b) (list_all says_still es) all in
    λ i. own.0 i && ran_good n t es d own.1 i
ran_good n t (Do w ∷ es) d all = ran_good n t es (worked w d) all
ran_good n t (Send to m ∷ es) d all = by (to == n) (ran_good n t es d all)
  where
    by : (b : Bool) → Still (ran n t es d).outs → Still (cond b (first_queued m (ran n t es d))
        (first_done (Send to m) (ran n t es d))).outs
    by true rest = rest
    by false rest = rest

handled_good : (n : ℕ) (h : Here) (v : Handled) → Still (outs_of v) → Still (ran_handled n h v).outs
handled_good n h (Void outs) all = ran_good n h.parts outs h.disk all
handled_good n h (Took t outs) all = ran_good n t outs h.disk all

all_good : (n : ℕ) (ms : List Message) (h : Here) → Still (handle_all n ms h).outs
all_good n [] h = refl
all_good n (m ∷ ms) h =
    let r = ran_handled n h (taken n h.disk h.parts n m) in
    all_both says_still r.outs (handle_all n ms r.here).outs
    (handled_good n h (taken n h.disk h.parts n m) (taken_good n h.disk h.parts n m)) (all_good n ms r.here)

pub rounds_good : (n k : ℕ) (r : Ran) → Still r.outs → Still (rounds n k r).outs
rounds_good n zero r all = all
rounds_good n (suc k) r all = by r.queue
    (rounds_good n k (next_round n r) (all_both says_still r.outs (handle_all n r.queue r.here).outs all (all_good n r.queue r.here)))
  where
    after : List Message → Ran
    after q = elim q [ [] ↦ r | m ∷ ms ↦ rounds n k (next_round n r) ]

    by : (q : List Message) → Still (rounds n k (next_round n r)).outs → Still (after q).outs
    by [] more = all
    by (m ∷ ms) more = more

-- they go on with what was done first
pub rounds_more : (n k : ℕ) (r : Ran) → (more : List Effect) × ((rounds n k r).outs ≡ r.outs ++ more) × Still more
rounds_more n zero r = ([], sym (append-nil r.outs), refl)
rounds_more n (suc k) r = by r.queue (rounds_more n k (next_round n r))
  where
    turn : List Effect
    turn = (handle_all n r.queue r.here).outs

    after : List Message → Ran
    after q = elim q [ [] ↦ r | m ∷ ms ↦ rounds n k (next_round n r) ]

    by : (q : List Message) → (more : List Effect) × ((rounds n k (next_round n r)).outs ≡ (r.outs ++ turn) ++ more) × Still more →
        (more : List Effect) × ((after q).outs ≡ r.outs ++ more) × Still more
    by [] rest = ([], sym (append-nil r.outs), refl)
    by (m ∷ ms) rest =
        (turn ++ rest.0, rest.1 ∙ append_assoc r.outs turn rest.0, all_both says_still turn rest.0 (all_good n r.queue r.here) rest.2)

-- ---- what is shown, and given back

shown_good : (line : Option ObjectState → List Effect) (u : Uid) (d : Pair) → ((s : Option ObjectState) → Still (line s)) →
    Still (shown line u d (holder_of u d))
shown_good line u d each = by (holder_of u d)
  where
    by : (o : Option Uid) → Still (shown line u d o)
    by (Some holder) = refl
    by None = each (held_at u d)

pub show_good : (n x : ℕ) (d : Disk) → Still (show_outs n x d)
show_good n x d = all_both says_still (show_entry n x d.names) (shown (copy_line n x) (object x) d.store (holder_of (object x) d.store))
    (by (n == 1)) (shown_good (copy_line n x) (object x) d.store copy)
  where
    copy : (s : Option ObjectState) → Still (copy_line n x s)
    copy None = refl
    copy (Some s) = refl

    line : (s : Option ObjectState) → Still (entry_line x s)
    line None = refl
    line (Some s) = refl

    by : (b : Bool) → Still (cond b (shown (entry_line x) (entry x) d.names (holder_of (entry x) d.names)) [])
    by true = shown_good (entry_line x) (entry x) d.names line
    by false = refl

pub back_good : (o : Option Naming) → Still (naming_back o)
back_good None = refl
back_good (Some o) = all_flat says_still (λ (e : ℕ × Named). back_lines e.1) o.objects (λ e. map_good _ e.1.rows (λ r. refl))
