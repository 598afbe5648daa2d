-- What a node makes of a message, and what it does at a tick and as it comes up.
use Rattle.arj_law_parts.proofs.Words
use Words.{◌≡◌, ◌==◌, ◌+◌, ℕ, List, [], ◌∷◌, ◌++◌, Bool, true, false, cond, filter, map, Option, Some, None, refl, sym, subst, eqb-true, ⊤}
use Words.{IfSome}
use Words.{is_some, option_map, unwrap_or, match_ordering, Ordering, Less, Equal, Greater, uid_order, AllByRecursion, list_all, and_parts}
use Words.{is_server_line, activate_own, ends_own, invoke_own, vote_own, Ask, Asked, Body, BoundReply, End, Head, Header, Message}
use Words.{ObjectState, Uid, asks, entry}
use Words.{object, Reply, actor, answers, asked_by, last_end, response, again_all, heard, confirm, recovered_naming, Coord, Abort, After}
use Words.{Already, Before, Commit, Disk, Do, Effect, InDoubt, InPart, Intent, Look, Old, Pair, Prep, Prepare, PutInc, PutIntent, Ready}
use Words.{RemoveIntent, Say, Send, Served, Stop, Work, held_at, holder_of, is_prepared, moved_some, new_states, prepare_answer, stopped}
use Words.{worked, acked, tick_outs, Named, Naming, Handled, Parts, Took, Void, ack_told, by_reply, coord_heard, end_states, handle}
use Words.{handle_answer, handle_ask, handle_ends, handle_other, holders, if_naming, is_earlier, load_by, load_held, locks_of, naming_hello}
use Words.{naming_told, prepare_by, prepared_actions, query_about, sends_answer, serve, served, store_told, with_coord, with_naming}
use Words.{with_server, at_uid, put_uid, uid_set, without_number, AreAll, is_server_effect, Server, server_holders, Node, hello_to}
use Words.{naming_at, naming_back, numbers_to, parts_in, recovered_records, restart_outs, tolds_again}
use Words.ask
use Words.body
use Words.ending
use Words.message
use Words.prepared
use Words.role
use Words.naming
use Words.server
use Rattle.arj_law_runs.proofs.Terms
use Terms.{AllOf, AreOf, AskOf, BoundOf, CoordOf, CopiesOf, DiskOf, HasEntry, IsEntry, MessageOf, NamedOf, NamingOf, PartsOf, PathOf}
use Terms.{ReplyOf, StateOf, UidsOf, AnswersWaiting}
use Rattle.arj_law_runs.proofs.addresses
use addresses.{Servers.actor_of}
use addresses.CoordHears.{again_of, heard_of}
use addresses.CoordBegins.{acked_of, new_of, query_of, told_again_of}
use addresses.Lists.{all_append, all_at_uid, all_filter, all_key, all_map, all_put, all_uids, all_without, found_put}
use Rattle.arj_law_runs.specs.addresses.Addresses.{AnsweredOf, AskedOf, EffectOf, NamesOf, SaysOf, WorkOf}
use Rattle.arj_protocol.specs.Effect.{moved}
use Rattle.arj_law_runs.proofs.addresses.Namings as names
use Rattle.arj_law_runs.proofs.addresses.Servers as servers

module _ (G : ℕ → Type 0) (one : G 1) where
  both : (es fs : List Effect) → AllOf G es → AllOf G fs → AllOf G (es ++ fs)
  both es fs a b = all_append _ es fs a b

  -- a server's lines
  server_line : (n : ℕ) (b : Body) → G n → is_server_line n b ≡ true → SaysOf G b
  server_line n (body.Granted m u o how) its own = subst G (sym (eqb-true m n (and_parts (m == n) _ own).0)) its
  server_line n (body.Active m x c) its own = subst G (sym (eqb-true m n own)) its
  server_line n (body.Told m u e p) its own = subst G (sym (eqb-true m n (and_parts (m == n) _ own).0)) its
  server_line n b its own = absurd (cc own)

  server_lines : (n : ℕ) (es : List Effect) → G n → AreAll (is_server_effect n) es → AllOf G es
  server_lines n [] its own = tt
  server_lines n (Say b ∷ es) its own =
      let p = and_parts (is_server_effect n (Say b)) (list_all (is_server_effect n) es) own in
      (server_line n b its p.0, server_lines n es its p.1)
  server_lines n (Send to m ∷ es) its own = absurd (cc own)
  server_lines n (Do w ∷ es) its own = absurd (cc own)

  queries : (us : List Uid) → UidsOf G us → AllOf G (map query_about us)
  queries [] all = tt
  queries (u ∷ us) all = ((all.0, (tt, tt)), queries us all.1)

  response_of : (from : ℕ) (a : Asked) (r : Reply) → G from → ReplyOf G r → EffectOf G (Send from (response a r))
  response_of from a (Reply.Bound r) its so = (its, (tt, so))
  response_of from a (Reply.Loaded r) its so = (its, (tt, tt))
  response_of from a (Reply.Activated i) its so = (its, (tt, tt))
  response_of from a (Reply.Noted r) its so = (its, (tt, tt))
  response_of from a (Reply.Invoked r) its so = (its, (tt, tt))
  response_of from a (Reply.Voted r) its so = (its, (tt, tt))
  response_of from a (Reply.Prepared r) its so = (its, (tt, tt))
  response_of from a (Reply.Confirmed r) its so = (its, (tt, tt))

  -- ---- disks

  keys : (d : Pair) → AllByRecursion (λ (e : Uid × List ObjectState). G (let u = e.0 in u.node)) d.pend → UidsOf G (prepared_actions d)
  keys d all = all_map (λ (e : Uid × List ObjectState). G (let u = e.0 in u.node)) (λ (u : Uid). G u.node)
      (λ (e : Uid × List ObjectState). e.0) d.pend (λ e s. s) all

  firsts : (m : List (Uid × List ObjectState)) → AllByRecursion (λ (e : Uid × List ObjectState). G (let u = e.0 in u.node)
      × AllByRecursion (StateOf G) e.1) m → AllByRecursion (λ (e : Uid × List ObjectState). G (let u = e.0 in u.node)) m
  firsts [] all = tt
  firsts (e ∷ es) all = (all.0.0, firsts es all.1)

  seconds : (m : List (Uid × List ObjectState)) → AllByRecursion (λ (e : Uid × List ObjectState). G (let u = e.0 in u.node)
      × AllByRecursion (StateOf G) e.1) m → AllByRecursion (λ (e : Uid × List ObjectState). AllByRecursion (StateOf G) e.1) m
  seconds [] all = tt
  seconds (e ∷ es) all = (all.0.1, seconds es all.1)

  abbrev Held : List (Uid × ObjectState) → Type 0
  Held held = AllByRecursion (λ (e : Uid × ObjectState). IsEntry e.0 × StateOf G e.1) held

  moved_is : (ss : List ObjectState) (held : List (Uid × ObjectState)) → AllByRecursion (StateOf G) ss → Held held → Held (moved ss held)
  moved_is [] held all had = had
  moved_is (s ∷ ss) held all had = moved_is ss (put_uid s.uid s held) all.1 (all_key IsEntry (StateOf G) s.uid s held all.0.0 all.0 had)

  moved_some_is : (which : Uid → Bool) (ss : List ObjectState) (held : List (Uid × ObjectState)) → AllByRecursion (StateOf G) ss →
      Held held → Held (moved_some which ss held)
  moved_some_is which [] held all had = had
  moved_some_is which (s ∷ ss) held all had =
      moved_some_is which ss (cond (which s.uid) (put_uid s.uid s held) held) all.1 (by (which s.uid))
    where
      by : (b : Bool) → Held (cond b (put_uid s.uid s held) held)
      by true = all_key IsEntry (StateOf G) s.uid s held all.0.0 all.0 had
      by false = had

  new_is : (u : Uid) (d : Pair) → AllByRecursion (λ (e : Uid × List ObjectState). G (let v = e.0 in v.node)
      × AllByRecursion (StateOf G) e.1) d.pend → AllByRecursion (StateOf G) (new_states u d)
  new_is u d all = by (at_uid u d.pend) refl
    where
      by : (o : Option (List ObjectState)) → at_uid u d.pend ≡ o → AllByRecursion (StateOf G) (unwrap_or o [])
      by None is = tt
      by (Some ss) is = all_at_uid (AllByRecursion (StateOf G)) u ss d.pend (seconds d.pend all) is

  put_key : (u : Uid) (v : List ObjectState) (m : List (Uid × List ObjectState)) → G u.node →
      AllByRecursion (λ (e : Uid × List ObjectState). G (let w = e.0 in w.node)) m →
      AllByRecursion (λ (e : Uid × List ObjectState). G (let w = e.0 in w.node)) (put_uid u v m)
  put_key u v [] its all = (its, tt)
  put_key u v (e ∷ es) its all = by (uid_order u e.0) (put_key u v es its all.1)
    where
      by : (r : Ordering) → AllByRecursion (λ (z : Uid × List ObjectState). G (let w = z.0 in w.node)) (put_uid u v es) →
          AllByRecursion (λ (z : Uid × List ObjectState). G (let w = z.0 in w.node))
          (match_ordering r ((u, v) ∷ e ∷ es) ((e.0, v) ∷ es) (e ∷ put_uid u v es))
      by Less ih = (its, all)
      by Equal ih = (all.0, all.1)
      by Greater ih = (all.0, ih)

  pub worked_of : (w : Work) (d : Disk) → WorkOf G w → DiskOf G d → DiskOf G (worked w d)
  worked_of Look d its k = k
  worked_of (PutInc i) d its k = record { store = k.store; names = k.names; held = k.held; intents = k.intents }
  worked_of (Prepare role.Store u states) d its k =
      record { store = put_key u states d.store.pend its k.store; names = k.names; held = k.held; intents = k.intents }
  worked_of (Prepare role.Names u states) d its k = record {
    store = k.store;
    names = all_key (λ (w : Uid). G w.node) (AllByRecursion (StateOf G)) u states d.names.pend its.0 its.1 k.names;
    held = k.held;
    intents = k.intents;
  }
  worked_of (Commit role.Store u) d its k =
      record { store = all_without _ u d.store.pend k.store; names = k.names; held = k.held; intents = k.intents }
  worked_of (Commit role.Names u) d its k = record {
    store = k.store;
    names = all_without _ u d.names.pend k.names;
    held = moved_is (new_states u d.names) d.names.held (new_is u d.names k.names) k.held;
    intents = k.intents;
  }
  worked_of (Abort role.Store u) d its k =
      record { store = all_without _ u d.store.pend k.store; names = k.names; held = k.held; intents = k.intents }
  worked_of (Abort role.Names u) d its k =
      record { store = k.store; names = all_without _ u d.names.pend k.names; held = k.held; intents = k.intents }
  worked_of (PutIntent u i) d its k = record {
    store = k.store;
    names = k.names;
    held = k.held;
    intents = all_put (λ (e : Uid × Intent). AreOf G (let j = e.1 in j.nodes)) u i d.intents (λ w. its) k.intents;
  }
  worked_of (RemoveIntent u) d its k =
      record { store = k.store; names = k.names; held = k.held; intents = all_without _ u d.intents k.intents }

  pub stopped_of : (how : Stop) (w : Work) (d : Disk) → WorkOf G w → DiskOf G d → DiskOf G (stopped how w d)
  stopped_of Before w d its k = k
  stopped_of After w d its k = worked_of w d its k
  stopped_of (InPart which) (Commit role.Store u) d its k = record { store = k.store; names = k.names; held = k.held; intents = k.intents }
  stopped_of (InPart which) (Commit role.Names u) d its k = record {
    store = k.store;
    names = k.names;
    held = moved_some_is which (new_states u d.names) d.names.held (new_is u d.names k.names) k.held;
    intents = k.intents;
  }
  stopped_of (InPart which) Look d its k = k
  stopped_of (InPart which) (PutInc i) d its k = k
  stopped_of (InPart which) (Prepare r u states) d its k = k
  stopped_of (InPart which) (Abort r u) d its k = k
  stopped_of (InPart which) (PutIntent u i) d its k = k
  stopped_of (InPart which) (RemoveIntent u) d its k = k

  -- ---- entries stay

  abbrev IsFound : Uid → List (Uid × ObjectState) → Type 0
  IsFound u held = is_some (at_uid u held) ≡ true

  found_moved : (u : Uid) (ss : List ObjectState) (held : List (Uid × ObjectState)) → IsFound u held → IsFound u (moved ss held)
  found_moved u [] held found = found
  found_moved u (s ∷ ss) held found = found_moved u ss (put_uid s.uid s held) (found_put u s.uid s held found)

  entry_stays : (w : Work) (d : Disk) (x : ℕ) → HasEntry d.names x → HasEntry (worked w d).names x
  entry_stays Look d x has = has
  entry_stays (PutInc i) d x has = has
  entry_stays (Prepare role.Store u states) d x has = has
  entry_stays (Prepare role.Names u states) d x has = has
  entry_stays (Commit role.Store u) d x has = has
  entry_stays (Commit role.Names u) d x has = found_moved (entry x) (new_states u d.names) d.names.held has
  entry_stays (Abort role.Store u) d x has = has
  entry_stays (Abort role.Names u) d x has = has
  entry_stays (PutIntent u i) d x has = has
  entry_stays (RemoveIntent u) d x has = has

  pub parts_stay : (w : Work) (d : Disk) (t : Parts) → PartsOf G d t → PartsOf G (worked w d) t
  parts_stay w d t its = record { server = its.server; naming = by t.naming its.naming; coord = its.coord }
    where
      each : (es : List (ℕ × Named)) → AllByRecursion (λ (e : ℕ × Named). HasEntry d.names e.0 × NamedOf G e.1) es →
          AllByRecursion (λ (e : ℕ × Named). HasEntry (worked w d).names e.0 × NamedOf G e.1) es
      each [] all = tt
      each (e ∷ es) all = ((entry_stays w d e.0 all.0.0, all.0.1), each es all.1)

      by : (o : Option Naming) → NamesOf G d.names o → NamesOf G (worked w d).names o
      by None all = tt
      by (Some n) all = each n.objects all

  -- ---- who is asked about

  holders_of : (d : Disk) (t : Parts) → DiskOf G d → PartsOf G d t → UidsOf G (holders d t)
  holders_of d t disk parts = all_uids (λ (u : Uid). G u.node)
      (server_holders t.server ++ locks_of t.naming ++ prepared_actions d.store ++ prepared_actions d.names)
      (all_append _ (server_holders t.server ++ locks_of t.naming ++ prepared_actions d.store) (prepared_actions d.names)
      (all_append _ (server_holders t.server ++ locks_of t.naming) (prepared_actions d.store) (all_append _ (server_holders t.server)
      (locks_of t.naming) (servers.holders_of G t.server parts.server) (locks t.naming parts.naming)) (keys d.store disk.store))
      (keys d.names (firsts d.names.pend disk.names)))
    where
      locks : (o : Option Naming) → NamesOf G d.names o → UidsOf G (locks_of o)
      locks None its = tt
      locks (Some n) its = names.holders_of G one d.names n its

  -- ---- one message

  module _ (k : ℕ) (d : Disk) (t : Parts) (from : ℕ) (mine : G k) (sender : G from) (disk : DiskOf G d) (its : PartsOf G d t) where
    abbrev By : Handled → Type 0
    By (Void outs) = ⊤
    By (Took v outs) = PartsOf G d v × AllOf G outs

    answered : (h : Head) (v : Parts) (outs : List Effect) (o : Option Reply) → PartsOf G d v → AllOf G outs → IfSome o (ReplyOf G) →
        By (sends_answer from h v outs o)
    answered h v outs None part all so = tt
    answered h v outs (Some r) part all so =
        (part, both outs (Send from (response (asked_by h) r) ∷ []) all (response_of from (asked_by h) r sender so, tt))

    -- an answer of another kind names no node
    plain : {R : Type 0} (say : R → Reply) → ((r : R) → ReplyOf G (say r)) → (o : Option R) → IfSome (option_map say o) (ReplyOf G)
    plain say each None = tt
    plain say each (Some r) = each r

    bounds : (o : Option BoundReply) → IfSome o (BoundOf G) → IfSome (option_map Reply.Bound o) (ReplyOf G)
    bounds None so = tt
    bounds (Some r) so = so

    with_it : (f : Naming → Handled) (o : Option Naming) → NamesOf G d.names o → ((m : Naming) → NamingOf G d.names m → By (f m)) →
        By (if_naming f o)
    with_it f None is each = tt
    with_it f (Some m) is each = each m is

    served_so : (s : Server) → CopiesOf G s.objects → PartsOf G d (with_server t s)
    served_so s all = record { server = all; naming = its.naming; coord = its.coord }

    named_so : (n : Naming) → NamingOf G d.names n → PartsOf G d (with_naming t n)
    named_so n all = record { server = its.server; naming = all; coord = its.coord }

    asked : (h : Head) (a : Ask) → PathOf G h.path → AskOf G a → By (serve k d t from h a)
    asked h (ask.Bind x include avoid) path so =
        with_it (λ o. served from h (with_naming t) Reply.Bound (naming.bind h.path x include avoid d.names o)) t.naming its.naming
        (λ m all. let r = naming.bind h.path x include avoid d.names m in
        let b = names.bind_of G one h.path x include avoid d.names m path disk.held all in
        answered h (with_naming t r.part) r.outs (option_map Reply.Bound r.reply) (named_so r.part b.0) b.2 (bounds r.reply b.1))
    asked h (ask.Load x) path so = load (holder_of (object x) d.store)
      where
        held : (s : Option ObjectState) → By (load_held from h t s)
        held None = tt
        held (Some s) = (its, (tt, ((sender, (tt, tt)), tt)))

        load : (o : Option Uid) → By (load_by x d.store from h t o)
        load (Some u) = (its, ((sender, (tt, tt)), tt))
        load None = held (held_at (object x) d.store)
    asked h (ask.Activate b st) path so = let r = server.activate k h.path b st t.server in answered h (with_server t r.part) r.outs
        (option_map Reply.Activated r.reply) (served_so r.part (servers.activate_of G k h.path b st t.server its.server))
        (server_lines k r.outs mine (activate_own k h.path b st t.server)) (plain Reply.Activated (λ r. tt) r.reply)
    asked h (ask.Record x b i g) path so =
        with_it (λ o. served from h (with_naming t) Reply.Noted (naming.note h.path x b i g o)) t.naming its.naming
        (λ m all. let r = naming.note h.path x b i g m in let b = names.note_of G one h.path x b i g d.names m all in answered h
        (with_naming t r.part) r.outs (option_map Reply.Noted r.reply) (named_so r.part b.0) b.1 (plain Reply.Noted (λ r. tt) r.reply))
    asked h (ask.Invoke x b i ends o) path so = let r = server.invoke k h x b i ends o t.server in answered h (with_server t r.part) r.outs
        (option_map Reply.Invoked r.reply) (served_so r.part (servers.invoke_of G k h x b i ends o t.server path its.server))
        (server_lines k r.outs mine (invoke_own k h x b i ends o t.server)) (plain Reply.Invoked (λ r. tt) r.reply)
    asked h (ask.Vote i ties ends) path so = let r = server.vote k h.path i ties ends t.server in answered h (with_server t r.part) r.outs
        (option_map Reply.Voted r.reply) (served_so r.part (servers.vote_of G k h.path i ties ends t.server its.server))
        (server_lines k r.outs mine (vote_own k h.path i ties ends t.server)) (plain Reply.Voted (λ r. tt) r.reply)
    asked h (ask.Prepare states) path so = each (is_prepared (actor h.path) d.store)
      where
        new : (a : Prep) → By (prepare_by k states from h t a)
        new Ready = (its, (tt, (actor_of G h.path path, (mine, ((sender, (tt, tt)), tt)))))
        new (Already u) = tt
        new (Old u v) = (its, (tt, ((sender, (tt, tt)), tt)))
        new (InDoubt u holder) = (its, (tt, ((sender, (tt, tt)), tt)))

        each : (b : Bool) → By (cond b (sends_answer from h t [] (Some (Reply.Prepared prepared.Yes)))
            (prepare_by k states from h t (prepare_answer (actor h.path) states d.store)))
        each true = (its, ((sender, (tt, tt)), tt))
        each false = new (prepare_answer (actor h.path) states d.store)
    asked h (ask.Confirm grants excluded included) path so =
        with_it (λ o. served from h (with_naming t) Reply.Confirmed (confirm h.path grants excluded included d.names o)) t.naming its.naming
        (λ m all. let r = confirm h.path grants excluded included d.names m in let b = names.confirm_of G one h.path path
        (servers.top_is G h.path path) grants excluded included d.names m so disk.held all in answered h (with_naming t r.part) r.outs
        (option_map Reply.Confirmed r.reply) (named_so r.part b.0) b.1 (plain Reply.Confirmed (λ r. tt) r.reply))

    coord_left : (r : Served Coord (Unit {0})) → CoordOf G r.part × AllOf G r.outs → By (coord_heard t r)
    coord_left r so = by r.reply
      where
        by : (o : Option (Unit {0})) → By (by_reply (with_coord t r.part) r.outs o)
        by None = tt
        by (Some u) = (record { server = its.server; naming = its.naming; coord = so.0 }, so.1)

    ends_left : (ack : Bool) (ends : List (Uid × End)) (o : Option (Uid × End)) → By (handle_ends k d t from ack ends o)
    ends_left ack ends None = (its, tt)
    ends_left ack ends (Some e) =
        let s = server.told k ends t.server in
        let o = naming_told e.0 e.1 d.names t.naming in
        let n = named t.naming its.naming in (
          record { server = servers.told_of G k ends t.server its.server; naming = n.0; coord = its.coord },
          both (store_told k e.0 e.1 d.store ++ o.outs ++ s.outs) (ack_told from e.0 ack) (both (store_told k e.0 e.1 d.store ++ o.outs)
              s.outs (both (store_told k e.0 e.1 d.store) o.outs (stored (is_prepared e.0 d.store) e.1) n.1)
              (server_lines k s.outs mine (ends_own k ends t.server))) (acked_told ack),
        )
      where
        stored : (b : Bool) (how : End) → AllOf G (cond b (end_states k e.0 how) [])
        stored false how = tt
        stored true ending.Commit = (tt, (mine, tt))
        stored true ending.Abort = (tt, (mine, tt))

        named : (o : Option Naming) → NamesOf G d.names o →
            (let r = naming_told e.0 e.1 d.names o in NamesOf G d.names r.part × AllOf G r.outs)
        named None so = (tt, tt)
        named (Some m) so = names.told_of G one e.0 e.1 d.names m so

        acked_told : (b : Bool) → AllOf G (ack_told from e.0 b)
        acked_told true = ((sender, (tt, tt)), tt)
        acked_told false = tt

    hello_so : (node inc : ℕ) (o : Option Naming) → NamesOf G d.names o → NamesOf G d.names (naming_hello node inc o)
    hello_so node inc None so = tt
    hello_so node inc (Some m) so = names.hello_of G one node inc d.names m so

    other : (m : Message) → By (handle_other k d t from m)
    other (message.Told m) = ends_left m.ack m.ends (last_end m.ends)
    other (message.Acked m) =
        coord_left (acked from m.act d.intents t.coord) (acked_of G one from m.act d.intents t.coord disk.intents its.coord)
    other (message.Query m) = (its, query_of G one from m.act d.intents t.coord sender)
    other (message.Hello m) = (
      record { server = its.server; naming = hello_so m.node m.inc t.naming its.naming; coord = its.coord },
      queries (filter (is_earlier m.node m.inc) (holders d t))
          (all_filter (λ (u : Uid). G u.node) (is_earlier m.node m.inc) (holders d t) (holders_of d t disk its)),
    )
    other (message.Bind m) = tt
    other (message.Bound m) = tt
    other (message.Load m) = tt
    other (message.Loaded m) = tt
    other (message.Activate m) = tt
    other (message.Activated m) = tt
    other (message.RecordMsg m) = tt
    other (message.Recorded m) = tt
    other (message.Invoke m) = tt
    other (message.Invoked m) = tt
    other (message.Vote m) = tt
    other (message.Voted m) = tt
    other (message.Prepare m) = tt
    other (message.Prepared m) = tt
    other (message.Confirm m) = tt
    other (message.Confirmed m) = tt

    -- an answer that is waited for is one to the step that waits
    abbrev pub Hears : Message → Type 0
    Hears m = (a : Asked) (r : Reply) → answers m ≡ Some (a, r) → AnswersWaiting from a r t.coord

    handled : (m : Message) → Hears m → MessageOf G m → By (handle k d t from m)
    handled m hears so = by (asks m) so.0
      where
        answer : (o : Option (Asked × Reply)) → answers m ≡ o → AnsweredOf G o → By (handle_answer k d t from m o)
        answer None is its_reply = other m
        answer (Some a) is its_reply = coord_left (heard from a.0 a.1 d.intents t.coord)
            (heard_of G one from a.0 a.1 d.intents t.coord sender its.coord its_reply (hears a.0 a.1 is))

        by : (o : Option (Head × Ask)) → AskedOf G o → By (handle_ask k d t from m o)
        by None its_ask = answer (answers m) refl so.1
        by (Some a) its_ask = asked a.0 a.1 its_ask.0 its_ask.1

    pub handled_of : (m : Message) (v : Parts) (outs : List Effect) → Hears m → MessageOf G m → handle k d t from m ≡ Took v outs →
        PartsOf G d v × AllOf G outs
    handled_of m v outs hears so is = subst By is (handled m hears so)

  -- ---- ticks and restarts

  pub tick_of : (n : Node) (t : Parts) → DiskOf G n.disk → PartsOf G n.disk t →
      PartsOf G n.disk (with_coord t (again_all t.coord.doings t.coord).part) × AllOf G (tick_outs n t)
  tick_of n t disk its =
      let a = again_of G one t.coord its.coord in
      let q = again_all t.coord.doings t.coord in (
        record { server = its.server; naming = its.naming; coord = a.0 },
        both (q.outs ++ tolds_again t.coord.telling) (map query_about (holders n.disk t)) (both q.outs (tolds_again t.coord.telling) a.1
            (told_again_of G one t.coord.telling its.coord.telling)) (queries (holders n.disk t) (holders_of n.disk t disk its)),
      )

  pub starts_of : (k inc : ℕ) (d : Disk) → G k → DiskOf G d → PartsOf G d (parts_in k inc d)
  starts_of k inc d its disk = record { server = tt; naming = by (k == 1); coord = new_of G one k inc d.intents its disk.intents }
    where
      by : (b : Bool) → NamesOf G d.names (cond b (Some (recovered_naming inc d.names)) None)
      by true = names.recovered_of G one inc d.names disk.names disk.held
      by false = tt

  pub restart_of : (hd : Header) (k : ℕ) (d : Disk) → G k → AreOf G (numbers_to hd.nodes) → DiskOf G d →
      AllOf G (restart_outs hd k (d.inc + 1) d)
  restart_of hd k d mine all disk = both (first ++ second ++ tolds_again d.intents ++ asking) hellos
      (both (first ++ second ++ tolds_again d.intents) asking (both (first ++ second) (tolds_again d.intents) (both first second
      (tt, (tt, (mine, (tt, back (naming_at k (d.inc + 1) d.names))))) (tt, records d.intents)) (told_again_of G one d.intents disk.intents))
      (queries (uid_set (prepared_actions d.store ++ prepared_actions d.names))
      (all_uids (λ (u : Uid). G u.node) (prepared_actions d.store ++ prepared_actions d.names) (all_append _ (prepared_actions d.store)
      (prepared_actions d.names) (keys d.store disk.store) (keys d.names (firsts d.names.pend disk.names))))))
      (greets (without_number k (numbers_to hd.nodes)) (all_filter G _ (numbers_to hd.nodes) all))
    where
      first : List Effect
      first = Do Look ∷ Do (PutInc (d.inc + 1)) ∷ Say (body.Up k (d.inc + 1)) ∷ Do Look ∷ naming_back (naming_at k (d.inc + 1) d.names)

      second : List Effect
      second = Do Look ∷ recovered_records k d.intents

      asking : List Effect
      asking = map query_about (uid_set (prepared_actions d.store ++ prepared_actions d.names))

      hellos : List Effect
      hellos = map (hello_to k (d.inc + 1)) (without_number k (numbers_to hd.nodes))

      back : (o : Option Naming) → AllOf G (naming_back o)
      back None = tt
      back (Some n) = names.back_of G one n

      records : (intents : List (Uid × Intent)) → AllOf G (recovered_records k intents)
      records [] = tt
      records (e ∷ es) = (mine, records es)

      greets : (ns : List ℕ) → AreOf G ns → AllOf G (map (hello_to k (d.inc + 1)) ns)
      greets [] all = tt
      greets (n ∷ ns) all = ((all.0, (tt, tt)), greets ns all.1)
