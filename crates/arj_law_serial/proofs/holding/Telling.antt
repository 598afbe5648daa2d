-- A node that restarts sends tolds, acknowledgements and questions to itself alone, of actions, and begins none.
use Rattle.arj_law_parts.proofs.Words
use Words.{◌≡◌, ◌∙◌, ◌==◌, ◌&&◌, ◌++◌, ℕ, zero, suc, List, [], ◌∷◌, Bool, true, false, cond, map, Option, Some, None, refl, ⊤, not, ◌||◌}
use Words.{AllByRecursion, flat_map, list_all, and_parts, nobody, uid_eq, Body, End, Header, Message, Uid, last_end, back_lines, Coord}
use Words.{Disk, Do, Effect, Intent, Look, PutInc, Say, Send, is_prepared, worked, acked, acked_by, acked_left, answer_decided}
use Words.{answer_query, answer_recorded, is_deferred, is_kept_commit, tell_all, tolds_let_go, let_go, root_or_self, AreOfActions, Holders}
use Words.{Named, Naming, Handled, Here, Parts, Ran, Took, Void, ack_told, by_reply, end_states, first_done, first_queued, handle}
use Words.{handle_all, handle_ends, is_meant, naming_told, next_round, prepared_actions, query_about, ran, ran_handled, store_told, taken}
use Words.{with_coord, at_uid, has, uid_set, without_number, without_uid, AreAll, is_naming_effect, is_naming_line, is_server_effect}
use Words.{is_server_line, hello_to, naming_at, naming_back, numbers_to, recovered_records, restart_outs, tolds_again, Tree, at_place}
use Words.{branch_of, is_open, is_own, ends_own, told_own}
use Words.body
use Words.ending
use Words.message
use Words.naming
use Words.server
use Rattle.arj_law_serial.proofs.Terms.{all_set, begun_of, is_over}
use Rattle.arj_law_disk_view.proofs.running.Lists.{all_append}
use Rattle.arj_law_serial.proofs.holding.{Facts.someone, Lines.never, Says.outs_of}
use Rattle.arj_protocol.specs.Follow.{FitRounds, Fits}

-- what tells, asks or acknowledges ends of actions
abbrev pub IsTelling : Message → Type 0
IsTelling (message.Told m) = AreOfActions m.ends
IsTelling (message.Query m) = uid_eq nobody m.act ≡ false
IsTelling (message.Acked m) = ⊤
IsTelling m = ⊥

-- so it is of what is sent to this node; and at what is said no action begins
abbrev pub TellsTo : ℕ → Effect → Type 0
TellsTo n (Send to m) = (to == n) ≡ true → IsTelling m
TellsTo n (Say b) = begun_of b ≡ None
TellsTo n (Do w) = ⊤

abbrev pub Tells : ℕ → List Effect → Type 0
Tells n outs = AllByRecursion (TellsTo n) outs

-- such a message fits, by whatever paths
telling_fits : (h : Holders) (m : Message) → IsTelling m → Fits h m
telling_fits h (message.Told m) is = is
telling_fits h (message.Query m) is = tt
telling_fits h (message.Acked m) is = tt
telling_fits h (message.Hello m) is = absurd is
telling_fits h (message.Bind m) is = absurd is
telling_fits h (message.Bound m) is = absurd is
telling_fits h (message.Load m) is = absurd is
telling_fits h (message.Loaded m) is = absurd is
telling_fits h (message.Activate m) is = absurd is
telling_fits h (message.Activated m) is = absurd is
telling_fits h (message.RecordMsg m) is = absurd is
telling_fits h (message.Recorded m) is = absurd is
telling_fits h (message.Invoke m) is = absurd is
telling_fits h (message.Invoked m) is = absurd is
telling_fits h (message.Vote m) is = absurd is
telling_fits h (message.Voted m) is = absurd is
telling_fits h (message.Prepare m) is = absurd is
telling_fits h (message.Prepared m) is = absurd is
telling_fits h (message.Confirm m) is = absurd is
telling_fits h (message.Confirmed m) is = absurd is

-- no action begins at lines of servers and of naming
server_begins : (n : ℕ) (b : Body) → is_server_line n b ≡ true → begun_of b ≡ None
server_begins n (body.Began l k u p) is = absurd (cc is)
server_begins n b is = refl

naming_begins : (b : Body) → is_naming_line b ≡ true → begun_of b ≡ None
naming_begins (body.Began l k u p) is = absurd (cc is)
naming_begins b is = refl

module _ (n : ℕ) where
  none_sent : (test : Effect → Bool) → ((to : ℕ) (m : Message) → test (Send to m) ≡ false) →
      ((b : Body) → test (Say b) ≡ true → begun_of b ≡ None) → (es : List Effect) → AreAll test es → Tells n es
  none_sent test none begins [] all = tt
  none_sent test none begins (Say b ∷ es) all = let q = and_parts (test (Say b)) (list_all test es) all in
      (begins b q.0, none_sent test none begins es q.1)
  none_sent test none begins (Do w ∷ es) all = (tt, none_sent test none begins es (and_parts (test (Do w)) (list_all test es) all).1)
  none_sent test none begins (Send to m ∷ es) all =
      never (test (Send to m)) (and_parts (test (Send to m)) (list_all test es) all).0 (none to m)

  map_tells : {A : Type 0} (f : A → Effect) (items : List A) → ((a : A) → TellsTo n (f a)) → Tells n (map f items)
  map_tells f [] each = tt
  map_tells f (a ∷ rest) each = (each a, map_tells f rest each)

  -- of whom a record or a branch is
  over_one : (u : Uid) (t : Tree) → is_over (branch_of u t) ≡ true → uid_eq nobody u ≡ false
  over_one u t is = someone u (λ zero.
      never (is_over (branch_of u t)) is ((λ i. is_over (cond (is_own u t) (at_place (zero i) t.branches) None)) ∙ none (is_own u t)))
    where
      none : (b : Bool) → is_over (cond b None None) ≡ false
      none true = refl
      none false = refl

  all_tell : (root : Uid) (ack : Bool) (ends : List (Uid × End)) (nodes : List ℕ) → AreOfActions ends →
      Tells n (tell_all root ack ends nodes)
  all_tell root ack ends nodes of = map_tells _ nodes (λ to here. of)

  -- ---- one message

  told_tells : (d : Disk) (t : Parts) (from : ℕ) (ack : Bool) (ends : List (Uid × End)) (o : Option (Uid × End)) →
      Tells n (outs_of (handle_ends n d t from ack ends o))
  told_tells d t from ack ends None = tt
  told_tells d t from ack ends (Some e) =
      let a = store_told n e.0 e.1 d.store in
      let o = naming_told e.0 e.1 d.names t.naming in
      let s = server.told n ends t.server in
      all_append (TellsTo n) (a ++ o.outs ++ s.outs) (ack_told from e.0 ack)
      (all_append (TellsTo n) (a ++ o.outs) s.outs
      (all_append (TellsTo n) a o.outs (stored (is_prepared e.0 d.store) e.1) (names t.naming))
      (none_sent (is_server_effect n) (λ to m. refl) (server_begins n) s.outs (ends_own n ends t.server)))
      (acks ack)
    where
      stored : (b : Bool) (how : End) → Tells n (cond b (end_states n e.0 how) [])
      stored false how = tt
      stored true ending.Commit = (tt, (refl, tt))
      stored true ending.Abort = (tt, (refl, tt))

      names : (o : Option Naming) → Tells n (naming_told e.0 e.1 d.names o).outs
      names None = tt
      names (Some o) =
          none_sent is_naming_effect (λ to m. refl) naming_begins (naming.told e.0 e.1 d.names o).outs (told_own e.0 e.1 d.names o)

      acks : (b : Bool) → Tells n (ack_told from e.0 b)
      acks true = ((λ here. tt), tt)
      acks false = tt

  acked_tells : (from : ℕ) (u : Uid) (intents : List (Uid × Intent)) (c : Coord) → Tells n (acked from u intents c).outs
  acked_tells from u intents c = by (at_uid u c.telling)
    where
      gone : (i : Intent) → (a b : Bool) → is_over (branch_of i.root c.tree) ≡ b →
          Tells n (cond (a && b) (tell_all i.root false ((i.root, ending.Abort) ∷ []) (let_go i.root (without_uid u intents) c i.nodes)) [])
      gone i true true is = all_tell i.root false ((i.root, ending.Abort) ∷ []) (let_go i.root (without_uid u intents) c i.nodes)
          (over_one i.root c.tree is, tt)
      gone i true false is = tt
      gone i false b is = tt

      lets_go : (o : Option Intent) → Tells n (tolds_let_go u (without_uid u intents) c o)
      lets_go None = tt
      lets_go (Some i) = gone i (not (uid_eq i.root u)) (is_over (branch_of i.root c.tree)) refl

      left : (i : Intent) (ns : List ℕ) → Tells n (acked_left u i intents c ns).outs
      left i [] = (tt, lets_go (at_uid u intents))
      left i (m ∷ ms) = tt

      listed : (i : Intent) (b : Bool) →
          Tells n (cond b (acked_left u i intents c (without_number from i.nodes)) (record { part = c; outs = []; reply = None })).outs
      listed i true = left i (without_number from i.nodes)
      listed i false = tt

      by : (o : Option Intent) → Tells n (acked_by from u intents c o).outs
      by None = tt
      by (Some i) = listed i (has i.nodes from)

  query_tells : (from : ℕ) (u : Uid) (intents : List (Uid × Intent)) (c : Coord) → uid_eq nobody u ≡ false →
      Tells n (answer_query from u intents c)
  query_tells from u intents c one = by (is_open u c.tree || is_deferred u intents from)
    where
      kept : (b : Bool) → Tells n (cond b (tell_all (root_or_self u (branch_of u c.tree)) false ((u, ending.Commit) ∷ []) (from ∷ []))
          (tell_all (root_or_self u (branch_of u c.tree)) false ((u, ending.Abort) ∷ []) (from ∷ [])))
      kept true = ((λ here. (one, tt)), tt)
      kept false = ((λ here. (one, tt)), tt)

      decided : Tells n (answer_decided from u c)
      decided = kept (is_kept_commit from u c)

      listed : (i : Intent) (b : Bool) →
          Tells n (cond b (tell_all i.root true ((u, ending.Commit) ∷ []) (from ∷ [])) (answer_decided from u c))
      listed i true = ((λ here. (one, tt)), tt)
      listed i false = decided

      recorded : (o : Option Intent) → Tells n (answer_recorded from u c o)
      recorded None = decided
      recorded (Some i) = listed i (has i.nodes from)

      by : (b : Bool) → Tells n (cond b [] (answer_recorded from u c (at_uid u intents)))
      by true = tt
      by false = recorded (at_uid u intents)

  reply_tells : (t : Parts) (outs : List Effect) (r : Option (Unit {0})) → Tells n outs → Tells n (outs_of (by_reply t outs r))
  reply_tells t outs None all = tt
  reply_tells t outs (Some u) all = all

  pub handled_tells : (d : Disk) (t : Parts) (from : ℕ) (m : Message) → IsTelling m → Tells n (outs_of (handle n d t from m))
  handled_tells d t from (message.Told m) is = told_tells d t from m.ack m.ends (last_end m.ends)
  handled_tells d t from (message.Acked m) is = let r = acked from m.act d.intents t.coord in
      reply_tells (with_coord t r.part) r.outs r.reply (acked_tells from m.act d.intents t.coord)
  handled_tells d t from (message.Query m) is = query_tells from m.act d.intents t.coord is
  handled_tells d t from (message.Hello m) is = absurd is
  handled_tells d t from (message.Bind m) is = absurd is
  handled_tells d t from (message.Bound m) is = absurd is
  handled_tells d t from (message.Load m) is = absurd is
  handled_tells d t from (message.Loaded m) is = absurd is
  handled_tells d t from (message.Activate m) is = absurd is
  handled_tells d t from (message.Activated m) is = absurd is
  handled_tells d t from (message.RecordMsg m) is = absurd is
  handled_tells d t from (message.Recorded m) is = absurd is
  handled_tells d t from (message.Invoke m) is = absurd is
  handled_tells d t from (message.Invoked m) is = absurd is
  handled_tells d t from (message.Vote m) is = absurd is
  handled_tells d t from (message.Voted m) is = absurd is
  handled_tells d t from (message.Prepare m) is = absurd is
  handled_tells d t from (message.Prepared m) is = absurd is
  handled_tells d t from (message.Confirm m) is = absurd is
  handled_tells d t from (message.Confirmed m) is = absurd is

  pub taken_tells : (d : Disk) (t : Parts) (from : ℕ) (m : Message) → IsTelling m → Tells n (outs_of (taken n d t from m))
  taken_tells d t from m is = by (is_meant t m)
    where
      by : (b : Bool) → Tells n (outs_of (cond b (handle n d t from m) (Void [])))
      by true = handled_tells d t from m is
      by false = tt

  -- ---- rounds

  pub ran_queue : (t : Parts) (es : List Effect) (d : Disk) → Tells n es → AllByRecursion IsTelling (ran n t es d).queue
  ran_queue t [] d all = tt
  ran_queue t (Say b ∷ es) d all = ran_queue t es d all.1
  ran_queue t (Do w ∷ es) d all = ran_queue t es (worked w d) all.1
  ran_queue t (Send to m ∷ es) d all = by (to == n) refl (ran_queue t es d all.1)
    where
      by : (b : Bool) → (to == n) ≡ b → AllByRecursion IsTelling (ran n t es d).queue →
          AllByRecursion IsTelling (cond b (first_queued m (ran n t es d)) (first_done (Send to m) (ran n t es d))).queue
      by true is rest = (all.0 is, rest)
      by false is rest = rest

  each_queue : (h : Here) (v : Handled) → Tells n (outs_of v) → AllByRecursion IsTelling (ran_handled n h v).queue
  each_queue h (Void outs) all = ran_queue h.parts outs h.disk all
  each_queue h (Took t outs) all = ran_queue t outs h.disk all

  all_queue : (ms : List Message) (h : Here) → AllByRecursion IsTelling ms → AllByRecursion IsTelling (handle_all n ms h).queue
  all_queue [] h all = tt
  all_queue (m ∷ ms) h all =
      let r = ran_handled n h (taken n h.disk h.parts n m) in
      all_append IsTelling r.queue (handle_all n ms r.here).queue
      (each_queue h (taken n h.disk h.parts n m) (taken_tells h.disk h.parts n m all.0)) (all_queue ms r.here all.1)

  fits_all : (h : Holders) (ms : List Message) → AllByRecursion IsTelling ms → AllByRecursion (Fits h) ms
  fits_all h [] all = tt
  fits_all h (m ∷ ms) all = (telling_fits h m all.0, fits_all h ms all.1)

  pub rounds_fit : (h : Holders) (k : ℕ) (r : Ran) → AllByRecursion IsTelling r.queue → FitRounds h n k r
  rounds_fit h zero r all = tt
  rounds_fit h (suc k) r all = (fits_all h r.queue all, rounds_fit h k (next_round n r) (all_queue r.queue r.here all))

  -- ---- a restart

  pub restart_tells : (hd : Header) (inc : ℕ) (d : Disk) → AllByRecursion (λ (e : Uid × Intent). uid_eq nobody e.0 ≡ false) d.intents →
      AllByRecursion (λ (u : Uid). uid_eq nobody u ≡ false) (prepared_actions d.store) →
      AllByRecursion (λ (u : Uid). uid_eq nobody u ≡ false) (prepared_actions d.names) → Tells n (restart_outs hd n inc d)
  restart_tells hd inc d records store names =
      let first = Do Look ∷ Do (PutInc inc) ∷ Say (body.Up n inc) ∷ Do Look ∷ naming_back (naming_at n inc d.names) in
      let found = Do Look ∷ recovered_records n d.intents in
      let us = uid_set (prepared_actions d.store ++ prepared_actions d.names) in
      let hellos = map (hello_to n inc) (without_number n (numbers_to hd.nodes)) in
      all_append (TellsTo n) (first ++ found ++ tolds_again d.intents ++ map query_about us) hellos
      (all_append (TellsTo n) (first ++ found ++ tolds_again d.intents) (map query_about us)
      (all_append (TellsTo n) (first ++ found) (tolds_again d.intents)
      (all_append (TellsTo n) first found (tt, (tt, (refl, (tt, back (naming_at n inc d.names))))) (tt, map_tells _ d.intents (λ e. refl)))
      (again d.intents records))
      (questions us (all_set (λ (u : Uid). uid_eq nobody u ≡ false) (prepared_actions d.store ++ prepared_actions d.names)
      (all_append (λ (u : Uid). uid_eq nobody u ≡ false) (prepared_actions d.store) (prepared_actions d.names) store names))))
      (others (numbers_to hd.nodes))
    where
      objects : (os : List (ℕ × Named)) → Tells n (flat_map (λ (e : ℕ × Named). back_lines e.1) os)
      objects [] = tt
      objects (e ∷ es) = all_append (TellsTo n) (back_lines e.1) (flat_map (λ (q : ℕ × Named). back_lines q.1) es)
          (map_tells _ e.1.rows (λ r. refl)) (objects es)

      back : (o : Option Naming) → Tells n (naming_back o)
      back None = tt
      back (Some o) = objects o.objects

      again : (es : List (Uid × Intent)) → AllByRecursion (λ (e : Uid × Intent). uid_eq nobody e.0 ≡ false) es → Tells n (tolds_again es)
      again [] all = tt
      again (e ∷ es) all = all_append (TellsTo n) (tell_all e.1.root true ((e.0, ending.Commit) ∷ []) e.1.nodes) (tolds_again es)
          (all_tell e.1.root true ((e.0, ending.Commit) ∷ []) e.1.nodes (all.0, tt)) (again es all.1)

      questions : (us : List Uid) → AllByRecursion (λ (u : Uid). uid_eq nobody u ≡ false) us → Tells n (map query_about us)
      questions [] all = tt
      questions (u ∷ us) all = ((λ here. all.0), questions us all.1)

      others : (ks : List ℕ) → Tells n (map (hello_to n inc) (without_number n ks))
      others [] = tt
      others (k ∷ ks) = by (k == n) refl (others ks)
        where
          by : (b : Bool) → (k == n) ≡ b → Tells n (map (hello_to n inc) (without_number n ks)) →
              Tells n (map (hello_to n inc) (cond (not b) (k ∷ without_number n ks) (without_number n ks)))
          by true is rest = rest
          by false is rest = ((λ here. never (k == n) here is), rest)
