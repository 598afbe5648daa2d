-- What handlers and steps say, by a test that each kind of line passes.
use Rattle.arj_law_parts.proofs.Words
use Words.{◌≡◌, ◌∙◌, ◌==◌, ◌&&◌, ◌⊎◌, ℕ, zero, suc, Bool, true, false, cond, List, [], ◌∷◌, ◌++◌, ◌+◌, filter, map, refl, sym, inl, inr}
use Words.{⊎_elim, Option, Some, None, option_map, list_all, and_parts, acked_own, acts_own, again_own, heard_own, map_own, query_own}
use Words.{tolds_again_own, activate_own, all_both, all_flat, bind_own, confirm_own, ends_own, invoke_own, note_own, told_own, vote_own}
use Words.{Reply, actor, answers, asked_by, last_end, response, again_all, heard, back_lines, confirm, recovered_naming, Disk, Effect, Pair}
use Words.{Say, Send, Do, Look, PutInc, Served, Prep, Ready, Already, Old, InDoubt, held_at, holder_of, is_prepared, prepare_answer, worked}
use Words.{acked, Named, Naming, Handled, Void, Took, Here, Parts, Ran, prepared_actions, ack_told, by_reply, end_states, first_done}
use Words.{first_queued, handle, handle_all, handle_answer, handle_ask, handle_ends, handle_other, handle_told, holders, if_naming}
use Words.{is_earlier, is_meant, load_by, load_held, most_rounds, naming_told, next_round, prepare_by, prepare_states, query_about, ran}
use Words.{ran_handled, rounds, sends_answer, serve, served, store_told, taken, whole, with_coord, with_naming, with_server, uid_set}
use Words.{without_number, AreAll, is_coord_effect, is_coord_line, is_naming_effect, is_naming_line, is_server_effect, is_server_line}
use Words.{state_entry, Node, Input, Step, Begin, Call, GiveUp, Tick, Restart, Crash, Show, acts, copy_line, entry_line, frame_step}
use Words.{handled_step, hello_to, naming_at, naming_back, node_did, numbers_to, parts_in, recovered_records, refusal, restart_outs}
use Words.{show_entry, show_outs, shown, step_down, step_of, step_unless, step_up, tick_step, tolds_again, void_step, Uid, End, Head, Asked}
use Words.{ObjectState, Body, Message, Header, Mode, Role, object, entry, Ask, asks}
use Words.naming
use Words.server
use Words.input as step
use Words.ask
use Words.body
use Words.ending
use Words.message
use Words.prepared
use Words.role
use Rattle.arj_law_serial.proofs.Terms.{is_quiet_line}
use Rattle.arj_protocol.specs.Step.{Include, Commit, Abort, Frame}

-- the effects of one message
abbrev pub outs_of : Handled → List Effect
outs_of (Void outs) = outs
outs_of (Took t outs) = outs

module _ (test : Body → Bool) where
  -- an effect's line passes
  abbrev pub says : Effect → Bool
  says (Say b) = test b
  says _ = true

  abbrev pub All : List Effect → Type 0
  All outs = AreAll says outs

  -- effects of a kind of which each line passes
  pub kind_says : (kind : Effect → Bool) (line : Body → Bool) → ((b : Body) → kind (Say b) ≡ line b) →
      ((b : Body) → line b ≡ true → test b ≡ true) → (es : List Effect) → AreAll kind es → All es
  kind_says kind line same each [] all = refl
  kind_says kind line same each (Say b ∷ es) all =
      let own = and_parts (kind (Say b)) (list_all kind es) all in
      let good = each b (sym (same b) ∙ own.0) in
      λ i. good i && kind_says kind line same each es own.1 i
  kind_says kind line same each (Send to m ∷ es) all =
      kind_says kind line same each es (and_parts (kind (Send to m)) (list_all kind es) all).1
  kind_says kind line same each (Do w ∷ es) all = kind_says kind line same each es (and_parts (kind (Do w)) (list_all kind es) all).1

  pub map_says : {A : Type 0} (f : A → Effect) (items : List A) → ((a : A) → says (f a) ≡ true) → All (map f items)
  map_says f [] each = refl
  map_says f (a ∷ rest) each = λ i. each a i && map_says f rest each i

  -- ---- one message

  module _ (n : ℕ) (May : Type 0) (by_server : (b : Body) → is_server_line n b ≡ true → test b ≡ true) (by_naming : May → (b : Body) →
      is_naming_line b ≡ true → test b ≡ true)
      (prepares : (u : Uid) (r : Role) → test (body.Prepared n u r) ≡ true) (ends : (u : Uid) (r : Role) (e : End) →
      test (body.Done n u r e) ≡ true) where
    server_says : (es : List Effect) → AreAll (is_server_effect n) es → All es
    server_says = kind_says (is_server_effect n) (is_server_line n) (λ b. refl) by_server

    naming_says : May → (es : List Effect) → AreAll is_naming_effect es → All es
    naming_says may = kind_says is_naming_effect is_naming_line (λ b. refl) (by_naming may)

    module _ (from : ℕ) (h : Head) where
      answer_says : (t : Parts) (outs : List Effect) (r : Option Reply) → All outs → All (outs_of (sends_answer from h t outs r))
      answer_says t outs None all = refl
      answer_says t outs (Some r) all = all_both says outs (Send from (response (asked_by h) r) ∷ []) all refl

      served_says : {S R : Type 0} (put : S → Parts) (say : R → Reply) (r : Served S R) → All r.outs →
          All (outs_of (served from h put say r))
      served_says put say r all = answer_says (put r.part) r.outs (option_map say r.reply) all

      named_says : {R : Type 0} (put : Naming → Parts) (say : R → Reply) (f : Naming → Served Naming R) (o : Option Naming) →
          ((m : Naming) → o ≡ Some m → May) → ((m : Naming) → AreAll is_naming_effect (f m).outs) →
          All (outs_of (if_naming (λ m. served from h put say (f m)) o))
      named_says put say f None may all = refl
      named_says put say f (Some m) may all = served_says put say (f m) (naming_says (may m refl) (f m).outs (all m))

      load_says : (x : ℕ) (d : Pair) (t : Parts) (holder : Option Uid) → All (outs_of (load_by x d from h t holder))
      load_says x d t (Some holder) = refl
      load_says x d t None = by (held_at (object x) d)
        where
          by : (s : Option ObjectState) → All (outs_of (load_held from h t s))
          by None = refl
          by (Some s) = refl

      prepare_says : (d : Pair) (states : List ObjectState) (t : Parts) → All (outs_of (prepare_states n d states from h t))
      prepare_says d states t = by (is_prepared (actor h.path) d)
        where
          answer : (p : Prep) → All (outs_of (prepare_by n states from h t p))
          answer Ready = λ i. prepares (actor h.path) role.Store i && true
          answer (Already u) = refl
          answer (Old u v) = refl
          answer (InDoubt u holder) = refl

          by : (b : Bool) → All (outs_of (cond b (sends_answer from h t [] (Some (Reply.Prepared prepared.Yes)))
              (prepare_by n states from h t (prepare_answer (actor h.path) states d))))
          by true = refl
          by false = answer (prepare_answer (actor h.path) states d)

      serve_says : (d : Disk) (t : Parts) (a : Ask) → ((m : Naming) → t.naming ≡ Some m → May) → All (outs_of (serve n d t from h a))
      serve_says d t (ask.Bind x include avoid) may = named_says (with_naming t) Reply.Bound (naming.bind h.path x include avoid d.names)
          t.naming may (bind_own h.path x include avoid d.names)
      serve_says d t (ask.Load x) may = load_says x d.store t (holder_of (object x) d.store)
      serve_says d t (ask.Activate b st) may = served_says (with_server t) Reply.Activated (server.activate n h.path b st t.server)
          (server_says (server.activate n h.path b st t.server).outs (activate_own n h.path b st t.server))
      serve_says d t (ask.Record x b i g) may =
          named_says (with_naming t) Reply.Noted (naming.note h.path x b i g) t.naming may (note_own h.path x b i g)
      serve_says d t (ask.Invoke x b i es op) may = served_says (with_server t) Reply.Invoked (server.invoke n h x b i es op t.server)
          (server_says (server.invoke n h x b i es op t.server).outs (invoke_own n h x b i es op t.server))
      serve_says d t (ask.Vote i ties es) may = served_says (with_server t) Reply.Voted (server.vote n h.path i ties es t.server)
          (server_says (server.vote n h.path i ties es t.server).outs (vote_own n h.path i ties es t.server))
      serve_says d t (ask.Prepare states) may = prepare_says d.store states t
      serve_says d t (ask.Confirm grants excluded included) may = named_says (with_naming t) Reply.Confirmed
          (confirm h.path grants excluded included d.names) t.naming may (confirm_own h.path grants excluded included d.names)

    told_says : (d : Disk) (t : Parts) (from : ℕ) (ack : Bool) (es : List (Uid × End)) (u : Uid) (e : End) →
        ((m : Naming) → t.naming ≡ Some m → May) → All (outs_of (handle_told n d t from ack es u e))
    told_says d t from ack es u e may =
        all_both says (store_told n u e d.store ++ (naming_told u e d.names t.naming).outs ++ (server.told n es t.server).outs)
        (ack_told from u ack)
        (all_both says (store_told n u e d.store ++ (naming_told u e d.names t.naming).outs) (server.told n es t.server).outs
        (all_both says (store_told n u e d.store) (naming_told u e d.names t.naming).outs (store (is_prepared u d.store) e)
        (names t.naming may))
        (server_says (server.told n es t.server).outs (ends_own n es t.server)))
        (acks ack)
      where
        store : (b : Bool) (e : End) → All (cond b (end_states n u e) [])
        store false e = refl
        store true ending.Commit = λ i. ends u role.Store ending.Commit i && true
        store true ending.Abort = λ i. ends u role.Store ending.Abort i && true

        names : (o : Option Naming) → ((m : Naming) → o ≡ Some m → May) → All (naming_told u e d.names o).outs
        names None may = refl
        names (Some o) may = naming_says (may o refl) (naming.told u e d.names o).outs (told_own u e d.names o)

        acks : (b : Bool) → All (ack_told from u b)
        acks true = refl
        acks false = refl

    -- the coordinator's effects, or such as pass
    abbrev pub Either : List Effect → Type 0
    Either outs = AreAll is_coord_effect outs ⊎ All outs

    replied : (t : Parts) (outs : List Effect) (r : Option (Unit {0})) → AreAll is_coord_effect outs → Either (outs_of (by_reply t outs r))
    replied t outs None all = inr refl
    replied t outs (Some u) all = inl all

    other_says : (d : Disk) (t : Parts) (from : ℕ) (m : Message) → ((o : Naming) → t.naming ≡ Some o → May) →
        Either (outs_of (handle_other n d t from m))
    other_says d t from (message.Told m) may = inr (by (last_end m.ends))
      where
        by : (o : Option (Uid × End)) → All (outs_of (handle_ends n d t from m.ack m.ends o))
        by None = refl
        by (Some e) = told_says d t from m.ack m.ends e.0 e.1 may
    other_says d t from (message.Acked m) may = replied (with_coord t (acked from m.act d.intents t.coord).part)
        (acked from m.act d.intents t.coord).outs (acked from m.act d.intents t.coord).reply (acked_own from m.act d.intents t.coord)
    other_says d t from (message.Query m) may = inl (query_own from m.act d.intents t.coord)
    other_says d t from (message.Hello m) may = inl (map_own query_about (filter (is_earlier m.node m.inc) (holders d t)) (λ u. refl))
    other_says d t from (message.Bind m) may = inr refl
    other_says d t from (message.Bound m) may = inr refl
    other_says d t from (message.Load m) may = inr refl
    other_says d t from (message.Loaded m) may = inr refl
    other_says d t from (message.Activate m) may = inr refl
    other_says d t from (message.Activated m) may = inr refl
    other_says d t from (message.RecordMsg m) may = inr refl
    other_says d t from (message.Recorded m) may = inr refl
    other_says d t from (message.Invoke m) may = inr refl
    other_says d t from (message.Invoked m) may = inr refl
    other_says d t from (message.Vote m) may = inr refl
    other_says d t from (message.Voted m) may = inr refl
    other_says d t from (message.Prepare m) may = inr refl
    other_says d t from (message.Prepared m) may = inr refl
    other_says d t from (message.Confirm m) may = inr refl
    other_says d t from (message.Confirmed m) may = inr refl

    -- what a message leads to
    pub handle_says : (d : Disk) (t : Parts) (from : ℕ) (m : Message) → ((o : Naming) → t.naming ≡ Some o → May) →
        Either (outs_of (handle n d t from m))
    handle_says d t from m may = asked (asks m)
      where
        answered : (a : Option (Asked × Reply)) → Either (outs_of (handle_answer n d t from m a))
        answered None = other_says d t from m may
        answered (Some a) = replied (with_coord t (heard from a.0 a.1 d.intents t.coord).part) (heard from a.0 a.1 d.intents t.coord).outs
            (heard from a.0 a.1 d.intents t.coord).reply (heard_own from a.0 a.1 d.intents t.coord)

        asked : (a : Option (Head × Ask)) → Either (outs_of (handle_ask n d t from m a))
        asked None = answered (answers m)
        asked (Some a) = inr (serve_says from a.0 d t a.1 may)

  -- the effects of a restart
  pub restart_says : (hd : Header) (n inc : ℕ) (d : Disk) → ((b : Body) → is_coord_line b ≡ true → test b ≡ true) →
      ((n == 1) ≡ true → (u o : Uid) (how : Mode) → test (body.Granted 1 u o how) ≡ true) → ((u : Uid) → test (body.Recovered n u) ≡ true) →
      test (body.Up n inc) ≡ true → All (restart_outs hd n inc d)
  restart_says hd n inc d by_coord granted recovers ups =
      let back = naming_back (naming_at n inc d.names) in
      let records = Do Look ∷ recovered_records n d.intents in
      let questions = map query_about (uid_set (prepared_actions d.store ++ prepared_actions d.names)) in
      let hellos = map (hello_to n inc) (without_number n (numbers_to hd.nodes)) in
      let first = Do Look ∷ Do (PutInc inc) ∷ Say (body.Up n inc) ∷ Do Look ∷ back in
      all_both says (first ++ records ++ tolds_again d.intents ++ questions) hellos
      (all_both says (first ++ records ++ tolds_again d.intents) questions
      (all_both says (first ++ records) (tolds_again d.intents)
      (all_both says first records (λ i. ups i && named (n == 1) refl i) (map_says _ d.intents (λ e. recovers e.0)))
      (kind_says is_coord_effect is_coord_line (λ b. refl) by_coord (tolds_again d.intents) (tolds_again_own d.intents)))
      (map_says query_about (uid_set (prepared_actions d.store ++ prepared_actions d.names)) (λ u. refl)))
      (map_says (hello_to n inc) (without_number n (numbers_to hd.nodes)) (λ m. refl))
    where
      named : (b : Bool) → (n == 1) ≡ b → All (naming_back (cond b (Some (recovered_naming inc d.names)) None))
      named false is = refl
      named true is = let o = recovered_naming inc d.names in
          all_flat says (λ (e : ℕ × Named). back_lines e.1) o.objects (λ e. map_says _ e.1.rows (λ r. granted is _ _ _))

  -- ---- a whole step

  module _ (by_server : (n : ℕ) (b : Body) → is_server_line n b ≡ true → test b ≡ true) (by_naming : (b : Body) → is_naming_line b ≡ true →
      test b ≡ true) (by_coord : (b : Body) → is_coord_line b ≡ true → test b ≡ true) (quiet : (b : Body) → is_quiet_line b ≡ true →
      test b ≡ true)
      (prepares : (n : ℕ) (u : Uid) (r : Role) → test (body.Prepared n u r) ≡ true) (ends : (n : ℕ) (u : Uid) (r : Role) (e : End) →
      test (body.Done n u r e) ≡ true) where
    coord_says : (es : List Effect) → AreAll is_coord_effect es → All es
    coord_says = kind_says is_coord_effect is_coord_line (λ b. refl) by_coord

    taken_says : (n : ℕ) (d : Disk) (t : Parts) (from : ℕ) (m : Message) → All (outs_of (taken n d t from m))
    taken_says n d t from m = by (is_meant t m)
      where
        by : (b : Bool) → All (outs_of (cond b (handle n d t from m) (Void [])))
        by true = ⊎_elim (λ coord. coord_says (outs_of (handle n d t from m)) coord) (λ all. all)
            (handle_says n (Unit {0}) (by_server n) (λ may. by_naming) (prepares n) (ends n) d t from m (λ o is. tt))
        by false = refl

    ran_says : (n : ℕ) (t : Parts) (es : List Effect) (d : Disk) → All es → All (ran n t es d).outs
    ran_says n t [] d all = refl
    ran_says n t (Say b ∷ es) d all = let own = and_parts (test b) (list_all says es) all in λ i. own.0 i && ran_says n t es d own.1 i
    ran_says n t (Do w ∷ es) d all = ran_says n t es (worked w d) all
    ran_says n t (Send to m ∷ es) d all = by (to == n) (ran_says n t es d all)
      where
        by : (b : Bool) → All (ran n t es d).outs →
            All (cond b (first_queued m (ran n t es d)) (first_done (Send to m) (ran n t es d))).outs
        by true rest = rest
        by false rest = rest

    handled_says : (n : ℕ) (h : Here) (v : Handled) → All (outs_of v) → All (ran_handled n h v).outs
    handled_says n h (Void outs) all = ran_says n h.parts outs h.disk all
    handled_says n h (Took t outs) all = ran_says n t outs h.disk all

    each_says : (n : ℕ) (ms : List Message) (h : Here) → All (handle_all n ms h).outs
    each_says n [] h = refl
    each_says n (m ∷ ms) h =
        let r = ran_handled n h (taken n h.disk h.parts n m) in
        all_both says r.outs (handle_all n ms r.here).outs (handled_says n h (taken n h.disk h.parts n m) (taken_says n h.disk h.parts n m))
        (each_says n ms r.here)

    rounds_say : (n k : ℕ) (r : Ran) → All r.outs → All (rounds n k r).outs
    rounds_say n zero r all = all
    rounds_say n (suc k) r all = by r.queue
        (rounds_say n k (next_round n r) (all_both says r.outs (handle_all n r.queue r.here).outs all (each_says n r.queue r.here)))
      where
        after : List Message → Ran
        after q = elim q [ [] ↦ r | m ∷ ms ↦ rounds n k (next_round n r) ]

        by : (q : List Message) → All (rounds n k (next_round n r)).outs → All (after q).outs
        by [] more = all
        by (m ∷ ms) more = more

    -- of effects, with all messages to itself
    pub whole_says : (n : ℕ) (t : Parts) (outs : List Effect) (d : Disk) → All outs → All (whole n t outs d).outs
    whole_says n t outs d all = rounds_say n most_rounds (ran n t outs d) (ran_says n t outs d all)

    -- both of a step
    abbrev pub BothSay : Step → Type 0
    BothSay s = All s.outs × All s.halting

    did_both : (n : Node) (before : List Effect) (t : Parts) (outs : List Effect) → All before → All outs →
        BothSay (node_did n before t outs)
    did_both n before t outs first all =
        let one = all_both says before (whole n.number t outs n.disk).outs first (whole_says n.number t outs n.disk all) in (one, one)

    void_both : (k : ℕ) (n : Node) (outs : List Effect) → All outs → BothSay (void_step k n outs)
    void_both k n outs all =
        (all_both says outs (Say (body.Void k) ∷ []) all (λ i. quiet (body.Void k) refl i && true), λ i. quiet (body.Got k) refl i && all i)

    frame_both : (k from : ℕ) (n : Node) (t : Parts) (m : Option Message) → BothSay (frame_step k from n t m)
    frame_both k from n t None = void_both k n [] refl
    frame_both k from n t (Some m) = by (taken n.number n.disk t from m) (taken_says n.number n.disk t from m)
      where
        by : (v : Handled) → All (outs_of v) → BothSay (handled_step k n v)
        by (Void outs) all = void_both k n outs all
        by (Took u outs) all = did_both n (Say (body.Got k) ∷ []) u outs (λ i. quiet (body.Got k) refl i && true) all

    tick_both : (n : Node) (t : Parts) → BothSay (tick_step n t)
    tick_both n t =
        let d = again_all t.coord.doings t.coord in
        did_both n [] (with_coord t d.part) (d.outs ++ tolds_again t.coord.telling ++ map query_about (holders n.disk t)) refl
        (all_both says (d.outs ++ tolds_again t.coord.telling) (map query_about (holders n.disk t))
        (all_both says d.outs (tolds_again t.coord.telling) (coord_says d.outs (again_own t.coord.doings t.coord))
        (coord_says (tolds_again t.coord.telling) (tolds_again_own t.coord.telling)))
        (map_says query_about (holders n.disk t) (λ u. refl)))

    acts_both : (n : Node) (t : Parts) (i : Input) → BothSay (step.coord_did n t (acts i n.disk.intents t.coord))
    acts_both n t i = did_both n [] (with_coord t (acts i n.disk.intents t.coord).part) (acts i n.disk.intents t.coord).outs refl
        (coord_says (acts i n.disk.intents t.coord).outs (acts_own i n.disk.intents t.coord))

    shown_says : (line : Option ObjectState → List Effect) (u : Uid) (d : Pair) → ((s : Option ObjectState) → All (line s)) →
        All (shown line u d (holder_of u d))
    shown_says line u d each = by (holder_of u d)
      where
        by : (o : Option Uid) → All (shown line u d o)
        by (Some holder) = refl
        by None = each (held_at u d)

    show_says : (n x : ℕ) (d : Disk) → All (show_outs n x d)
    show_says n x d = all_both says (show_entry n x d.names) (shown (copy_line n x) (object x) d.store (holder_of (object x) d.store))
        (by (n == 1)) (shown_says (copy_line n x) (object x) d.store copy)
      where
        copy : (s : Option ObjectState) → All (copy_line n x s)
        copy None = refl
        copy (Some s) = λ i. quiet (body.Copy n x s.version s.writer s.payload) refl i && true

        line : (s : Option ObjectState) → All (entry_line x s)
        line None = refl
        line (Some s) =
            λ i. quiet (body.Entry x s.version (let e = state_entry s in e.servers) (let e = state_entry s in e.stores)) refl i && true

        by : (b : Bool) → All (cond b (shown (entry_line x) (entry x) d.names (holder_of (entry x) d.names)) [])
        by true = shown_says (entry_line x) (entry x) d.names line
        by false = refl

    -- a step of a node that is up
    crash_both : (n : Node) → test (body.Halted n.number) ≡ true → BothSay (step.crash_step n)
    crash_both n halts = ((λ i. halts i && true), λ i. halts i && true)

    up_both : (n : Node) (t : Parts) (i : Input) → test (body.Halted n.number) ≡ true → BothSay (step_up i n t)
    up_both n t (Frame k from m) halts = frame_both k from n t m
    up_both n t Tick halts = tick_both n t
    up_both n t Restart halts = (refl, refl)
    up_both n t Crash halts = crash_both n halts
    up_both n t (Show x) halts = (show_says n.number x n.disk, show_says n.number x n.disk)
    up_both n t (Begin l k p) halts = acts_both n t (Begin l k p)
    up_both n t (Call l x o) halts = acts_both n t (Call l x o)
    up_both n t (Include l x s) halts = acts_both n t (Include l x s)
    up_both n t (Commit l) halts = acts_both n t (Commit l)
    up_both n t (Abort l) halts = acts_both n t (Abort l)
    up_both n t (GiveUp l) halts = acts_both n t (GiveUp l)

    down_both : (hd : Header) (n : Node) (i : Input) → (i ≡ Restart → All (restart_outs hd n.number (n.disk.inc + 1) n.disk)) →
        BothSay (step_down hd i n)
    down_both hd n (Frame k from m) starts = void_both k n [] refl
    down_both hd n Restart starts =
        did_both n [] (parts_in n.number (n.disk.inc + 1) n.disk) (restart_outs hd n.number (n.disk.inc + 1) n.disk) refl (starts refl)
    down_both hd n Tick starts = (refl, refl)
    down_both hd n Crash starts = (refl, refl)
    down_both hd n (Show x) starts = (refl, refl)
    down_both hd n (Begin l k p) starts = (refl, refl)
    down_both hd n (Call l x o) starts = (refl, refl)
    down_both hd n (Include l x s) starts = (refl, refl)
    down_both hd n (Commit l) starts = (refl, refl)
    down_both hd n (Abort l) starts = (refl, refl)
    down_both hd n (GiveUp l) starts = (refl, refl)

    -- any step: of a restart, where its effects pass
    pub step_says : (hd : Header) (n : Node) (i : Input) → test (body.Halted n.number) ≡ true →
        (i ≡ Restart → All (restart_outs hd n.number (n.disk.inc + 1) n.disk)) → BothSay (step.step hd n i)
    step_says hd n i halts starts = by (refusal hd i n)
      where
        live : (o : Option Parts) → BothSay (step_of hd i n o)
        live None = down_both hd n i starts
        live (Some t) = up_both n t i halts

        by : (r : Option ℕ) → BothSay (step_unless hd i n r)
        by (Some c) = ((λ i. quiet (body.Refused c) refl i && true), λ i. quiet (body.Refused c) refl i && true)
        by None = live n.live
