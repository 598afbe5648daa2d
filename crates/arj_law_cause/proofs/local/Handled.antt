-- What a node says as it takes a message, and what messages to itself lead to: lines of its own.
use Rattle.arj_law_parts.proofs.Words
use Words.{◌≡◌, ◌==◌, ◌&&◌, ◌||◌, ◌++◌, ℕ, zero, suc, Bool, true, false, cond, List, [], ◌∷◌, filter, refl, sym, subst, nat_tests, arith}
use Words.{Option, Some, None, option_map, list_all, and_parts, all_both, AreAll, Body, Line, Message, Uid, End, Head, Asked, Ask, Reply}
use Words.{Intent}
use Words.{Coord, Served, Disk, Effect, Pair, Say, Send, Do, worked, Handled, Void, Took, Here, Parts, Ran, Naming, ObjectState, Prep}
use Words.{Ready}
use Words.{Already, Old, InDoubt, asks, answers, actor, last_end, response, asked_by, heard, acked, answer_query, answer_recorded}
use Words.{answer_decided, is_kept_commit, root_or_self, branch_of, is_open, is_deferred, at_uid, has, tell, handle, handle_ask}
use Words.{handle_answer}
use Words.{handle_other, handle_ends, handle_told, taken, by_reply, coord_heard, with_coord, with_naming, with_server, if_naming}
use Words.{query_about}
use Words.{is_earlier, holders, ran, ran_handled, handle_all, next_round, rounds, whole, most_rounds, first_done, first_queued}
use Words.{is_server_line, is_server_effect, is_naming_line, is_naming_effect, serve, served, sends_answer, load_by, load_held, prepare_by}
use Words.{prepare_states, prepare_answer, is_prepared, held_at, holder_of, object, store_told, naming_told, ack_told, end_states, confirm}
use Words.{activate_own, bind_own, confirm_own, ends_own, invoke_own, note_own, told_own, vote_own}
use Words.naming
use Words.server
use Words.ask
use Words.body
use Words.ending
use Words.message
use Words.prepared
use Rattle.arj_law_parts.proofs.coordinator.Walks.{heard_trace, acked_trace}
use Rattle.arj_law_parts.proofs.moves.Flat.{ran_parts}
use Rattle.arj_law_parts.proofs.moves.Rounds.{AreLooks, LooksAlone, handle_looks, is_look}
use Rattle.arj_law_runs.proofs.calls.LivedCounts.{GrowsBy, message_grows}
use Rattle.arj_law_runs.proofs.kept.Parted.{IsLeft, coord_kept}
use Rattle.arj_law_serial.proofs.holding.Says.{All, kind_says, map_says, outs_of, says}
use Rattle.arj_protocol.proofs.Taken.{taken_as}
use Rattle.arj_protocol.specs.Says.{is_entry, is_names, is_naming, is_object, is_server}
use Rattle.arj_law_cause.specs.told.Local.{is_own_line}
use Rattle.arj_law_cause.proofs.local.Labels.{AreHere, trace_own}

module _ (lines : List Line) (k : ℕ) where
  abbrev pub Own : List Effect → Type 0
  Own es = All (is_own_line lines k) es

  -- only node 1 has naming, and by these lines the actions at work began here
  abbrev pub HasNaming : Parts → Type 0
  HasNaming t = (o : Naming) → t.naming ≡ Some o → k ≡ 1

  abbrev pub IsHome : Parts → Type 0
  IsHome t = AreHere lines k t.coord × HasNaming t

  same : (k == k) ≡ true
  same = grind (arith, nat_tests)

  at_one : (m : ℕ) → k ≡ 1 → (m == 1) ≡ true → (m == k) ≡ true
  at_one m one is = subst (λ j. (m == j) ≡ true) (sym one) is

  by_server : (b : Body) → is_server_line k b ≡ true → is_own_line lines k b ≡ true
  by_server (body.Granted m u o how) is = (and_parts (m == k) (is_object o) is).0
  by_server (body.Active m x b) is = is
  by_server (body.Told m u e p) is = (and_parts (m == k) (is_server p) is).0
  by_server b is = absurd (cc is)

  by_naming : k ≡ 1 → (b : Body) → is_naming_line b ≡ true → is_own_line lines k b ≡ true
  by_naming one (body.Granted m u o how) is = at_one m one (and_parts (m == 1) (is_entry o) is).0
  by_naming one (body.Lowered m u o) is = at_one m one (and_parts (m == 1) (is_entry o) is).0
  by_naming one (body.Bound x b n) is = subst (λ j. (j == 1) ≡ true) (sym one) refl
  by_naming one (body.Told m u e p) is = at_one m one (and_parts (m == 1) (is_naming p) is).0
  by_naming one (body.Prepared m u r) is = at_one m one (and_parts (m == 1) (is_names r) is).0
  by_naming one (body.Done m u r e) is = at_one m one (and_parts (m == 1) (is_names r) is).0
  by_naming one b is = absurd (cc is)

  -- ---- requests, and who is told of ends

  abbrev n : ℕ
  n = k

  abbrev test : Body → Bool
  test = is_own_line lines k

  abbrev its_says : Effect → Bool
  its_says = says (is_own_line lines k)

  server_says : (es : List Effect) → AreAll (is_server_effect k) es → Own es
  server_says = kind_says test (is_server_effect k) (is_server_line k) (λ b. refl) by_server

  naming_says : k ≡ 1 → (es : List Effect) → AreAll is_naming_effect es → Own es
  naming_says may = kind_says test is_naming_effect is_naming_line (λ b. refl) (by_naming may)

  module _ (from : ℕ) (h : Head) where
    answer_says : (t : Parts) (outs : List Effect) (r : Option Reply) → Own outs → Own (outs_of (sends_answer from h t outs r))
    answer_says t outs None all = refl
    answer_says t outs (Some r) all = all_both its_says outs (Send from (response (asked_by h) r) ∷ []) all refl

    served_says : {S R : Type 0} (put : S → Parts) (say : R → Reply) (r : Served S R) → Own r.outs →
        Own (outs_of (served from h put say r))
    served_says put say r all = answer_says (put r.part) r.outs (option_map say r.reply) all

    named_says : {R : Type 0} (put : Naming → Parts) (say : R → Reply) (f : Naming → Served Naming R) (o : Option Naming) →
        ((m : Naming) → o ≡ Some m → k ≡ 1) → ((m : Naming) → AreAll is_naming_effect (f m).outs) →
        Own (outs_of (if_naming (λ m. served from h put say (f m)) o))
    named_says put say f None may all = refl
    named_says put say f (Some m) may all = served_says put say (f m) (naming_says (may m refl) (f m).outs (all m))

    load_says : (x : ℕ) (d : Pair) (t : Parts) (holder : Option Uid) → Own (outs_of (load_by x d from h t holder))
    load_says x d t (Some holder) = refl
    load_says x d t None = by (held_at (object x) d)
      where
        by : (s : Option ObjectState) → Own (outs_of (load_held from h t s))
        by None = refl
        by (Some s) = refl

    prepare_says : (d : Pair) (states : List ObjectState) (t : Parts) → Own (outs_of (prepare_states n d states from h t))
    prepare_says d states t = by (is_prepared (actor h.path) d)
      where
        answer : (p : Prep) → Own (outs_of (prepare_by n states from h t p))
        answer Ready = λ i. same i && true
        answer (Already u) = refl
        answer (Old u v) = refl
        answer (InDoubt u holder) = refl

        by : (b : Bool) → Own (outs_of (cond b (sends_answer from h t [] (Some (Reply.Prepared prepared.Yes)))
            (prepare_by n states from h t (prepare_answer (actor h.path) states d))))
        by true = refl
        by false = answer (prepare_answer (actor h.path) states d)

    serve_says : (d : Disk) (t : Parts) (a : Ask) → ((m : Naming) → t.naming ≡ Some m → k ≡ 1) → Own (outs_of (serve n d t from h a))
    serve_says d t (ask.Bind x include avoid) may = named_says (with_naming t) Reply.Bound (naming.bind h.path x include avoid d.names)
        t.naming may (bind_own h.path x include avoid d.names)
    serve_says d t (ask.Load x) may = load_says x d.store t (holder_of (object x) d.store)
    serve_says d t (ask.Activate b st) may = served_says (with_server t) Reply.Activated (server.activate n h.path b st t.server)
        (server_says (server.activate n h.path b st t.server).outs (activate_own n h.path b st t.server))
    serve_says d t (ask.Record x b i g) may =
        named_says (with_naming t) Reply.Noted (naming.note h.path x b i g) t.naming may (note_own h.path x b i g)
    serve_says d t (ask.Invoke x b i es op) may = served_says (with_server t) Reply.Invoked (server.invoke n h x b i es op t.server)
        (server_says (server.invoke n h x b i es op t.server).outs (invoke_own n h x b i es op t.server))
    serve_says d t (ask.Vote i ties es) may = served_says (with_server t) Reply.Voted (server.vote n h.path i ties es t.server)
        (server_says (server.vote n h.path i ties es t.server).outs (vote_own n h.path i ties es t.server))
    serve_says d t (ask.Prepare states) may = prepare_says d.store states t
    serve_says d t (ask.Confirm grants excluded included) may = named_says (with_naming t) Reply.Confirmed
        (confirm h.path grants excluded included d.names) t.naming may (confirm_own h.path grants excluded included d.names)

  told_says : (d : Disk) (t : Parts) (from : ℕ) (ack : Bool) (es : List (Uid × End)) (u : Uid) (e : End) →
      ((m : Naming) → t.naming ≡ Some m → k ≡ 1) → Own (outs_of (handle_told n d t from ack es u e))
  told_says d t from ack es u e may =
      all_both its_says (store_told n u e d.store ++ (naming_told u e d.names t.naming).outs ++ (server.told n es t.server).outs)
      (ack_told from u ack)
      (all_both its_says (store_told n u e d.store ++ (naming_told u e d.names t.naming).outs) (server.told n es t.server).outs
      (all_both its_says (store_told n u e d.store) (naming_told u e d.names t.naming).outs (store (is_prepared u d.store) e)
      (names t.naming may))
      (server_says (server.told n es t.server).outs (ends_own n es t.server)))
      (acks ack)
    where
      store : (b : Bool) (e : End) → Own (cond b (end_states n u e) [])
      store false e = refl
      store true ending.Commit = λ i. same i && true
      store true ending.Abort = λ i. same i && true

      names : (o : Option Naming) → ((m : Naming) → o ≡ Some m → k ≡ 1) → Own (naming_told u e d.names o).outs
      names None may = refl
      names (Some o) may = naming_says (may o refl) (naming.told u e d.names o).outs (told_own u e d.names o)

      acks : (b : Bool) → Own (ack_told from u b)
      acks true = refl
      acks false = refl

  -- ---- one message

  module _ (d : Disk) (t : Parts) (from : ℕ) (home : IsHome t) where
    replied : (r : Served Coord (Unit {0})) → Own r.outs → Own (outs_of (coord_heard t r))
    replied r all = by r.reply
      where
        by : (o : Option (Unit {0})) → Own (outs_of (by_reply (with_coord t r.part) r.outs o))
        by None = refl
        by (Some u) = all

    heard_own : (a : Asked) (r : Reply) →
        Own (heard from a r d.intents t.coord).outs × AreHere lines k (heard from a r d.intents t.coord).part
    heard_own a r = trace_own lines k tt (heard_trace t.coord from a r d.intents) home.0

    acked_own : (u : Uid) → Own (acked from u d.intents t.coord).outs × AreHere lines k (acked from u d.intents t.coord).part
    acked_own u = trace_own lines k tt (acked_trace t.coord from u d.intents) home.0

    query_own : (u : Uid) (c : Coord) → Own (answer_query from u d.intents c)
    query_own u c = either (is_open u c.tree || is_deferred u d.intents from) (recorded (at_uid u d.intents))
      where
        decided : (b : Bool) → Own (cond b (tell (root_or_self u (branch_of u c.tree)) false ((u, ending.Commit) ∷ []) from ∷ [])
            (tell (root_or_self u (branch_of u c.tree)) false ((u, ending.Abort) ∷ []) from ∷ []))
        decided true = refl
        decided false = refl

        listed : (i : Intent) (b : Bool) →
            Own (cond b (tell i.root true ((u, ending.Commit) ∷ []) from ∷ []) (answer_decided from u c))
        listed i true = refl
        listed i false = decided (is_kept_commit from u c)

        recorded : (o : Option Intent) → Own (answer_recorded from u c o)
        recorded None = decided (is_kept_commit from u c)
        recorded (Some i) = listed i (has i.nodes from)

        either : (b : Bool) → Own (answer_recorded from u c (at_uid u d.intents)) →
            Own (cond b [] (answer_recorded from u c (at_uid u d.intents)))
        either true all = refl
        either false all = all

    other_own : (m : Message) → Own (outs_of (handle_other k d t from m))
    other_own (message.Told m) = by (last_end m.ends)
      where
        by : (o : Option (Uid × End)) → Own (outs_of (handle_ends k d t from m.ack m.ends o))
        by None = refl
        by (Some e) = told_says d t from m.ack m.ends e.0 e.1 home.1
    other_own (message.Acked m) = replied (acked from m.act d.intents t.coord) (acked_own m.act).0
    other_own (message.Query m) = query_own m.act t.coord
    other_own (message.Hello m) =
        map_says (is_own_line lines k) query_about (filter (is_earlier m.node m.inc) (holders d t)) (λ u. refl)
    other_own m = refl

    handled_own : (m : Message) → Own (outs_of (handle k d t from m))
    handled_own m = asked (asks m)
      where
        answer : (a : Option (Asked × Reply)) → Own (outs_of (handle_answer k d t from m a))
        answer None = other_own m
        answer (Some a) = replied (heard from a.0 a.1 d.intents t.coord) (heard_own a.0 a.1).0

        asked : (a : Option (Head × Ask)) → Own (outs_of (handle_ask k d t from m a))
        asked None = answer (answers m)
        asked (Some a) = serve_says from a.0 d t a.1 home.1

    -- what it leaves, void or not
    abbrev pub Fine : Handled → Type 0
    Fine (Void outs) = AreLooks outs
    Fine (Took v outs) = Own outs × IsHome v

    pub taken_own : (m : Message) → Fine (taken k d t from m)
    taken_own m = taken_as Fine k d t from m refl (by (handle k d t from m) (handled_own m) (handle_looks k d t from m)
        (coord_kept (AreHere lines k) k d t from home.0 (λ a r. (heard_own a r).1) (λ u. (acked_own u).1) m) (message_grows k d t from m))
      where
        by : (h : Handled) → Own (outs_of h) → LooksAlone h → IsLeft (AreHere lines k) h → GrowsBy k d t from h → Fine h
        by (Void outs) all looks left grows = looks
        by (Took v outs) all looks left grows = (all, (left, λ p vp. let g = grows.1 p vp in home.1 g.0 g.1))

  -- ---- messages of a node to itself

  looks_own : (es : List Effect) → AreLooks es → Own es
  looks_own [] all = refl
  looks_own (Do w ∷ es) all = looks_own es (and_parts (is_look (Do w)) (list_all is_look es) all).1
  looks_own (Say b ∷ es) all = absurd (cc all)
  looks_own (Send to m ∷ es) all = absurd (cc all)

  ran_own : (t : Parts) (es : List Effect) (d : Disk) → Own es → Own (ran k t es d).outs
  ran_own t [] d all = refl
  ran_own t (Say b ∷ es) d all =
      let p = and_parts (is_own_line lines k b) (list_all (says (is_own_line lines k)) es) all in λ i. p.0 i && ran_own t es d p.1 i
  ran_own t (Do w ∷ es) d all = ran_own t es (worked w d) all
  ran_own t (Send to m ∷ es) d all = by (to == k) (ran_own t es d all)
    where
      by : (b : Bool) → Own (ran k t es d).outs → Own (cond b (first_queued m (ran k t es d)) (first_done (Send to m) (ran k t es d))).outs
      by true rest = rest
      by false rest = rest

  abbrev Good : Ran → Type 0
  Good r = Own r.outs × IsHome (let h = r.here in h.parts)

  ran_good : (t : Parts) (es : List Effect) (d : Disk) → Own es → IsHome t → Good (ran k t es d)
  ran_good t es d all home = (ran_own t es d all, subst IsHome (sym (ran_parts k t es d)) home)

  one_good : (m : Message) (h : Here) → IsHome h.parts → Good (ran_handled k h (taken k h.disk h.parts k m))
  one_good m h home = by (taken k h.disk h.parts k m) (taken_own h.disk h.parts k home m)
    where
      by : (v : Handled) → Fine h.disk h.parts k home v → Good (ran_handled k h v)
      by (Void outs) fine = ran_good h.parts outs h.disk (looks_own outs fine) home
      by (Took v outs) fine = ran_good v outs h.disk fine.0 fine.1

  all_good : (ms : List Message) (h : Here) → IsHome h.parts → Good (handle_all k ms h)
  all_good [] h home = (refl, home)
  all_good (m ∷ ms) h home =
      let r = ran_handled k h (taken k h.disk h.parts k m) in
      let one = one_good m h home in
      let rest = all_good ms r.here one.1 in
      (all_both (says (is_own_line lines k)) r.outs (handle_all k ms r.here).outs one.0 rest.0, rest.1)

  rounds_own : (j : ℕ) (r : Ran) → Good r → Own (rounds k j r).outs
  rounds_own zero r good = good.0
  rounds_own (suc j) r good = by r.queue (rounds_own j (next_round k r) next)
    where
      t : Ran
      t = handle_all k r.queue r.here

      turn : Good (handle_all k r.queue r.here)
      turn = all_good r.queue r.here good.1

      next : Good (next_round k r)
      next = (all_both (says (is_own_line lines k)) r.outs (handle_all k r.queue r.here).outs good.0 turn.0, turn.1)

      after : List Message → Ran
      after q = elim q [ [] ↦ r | m ∷ ms ↦ rounds k j (next_round k r) ]

      by : (q : List Message) → Own (rounds k j (next_round k r)).outs → Own (after q).outs
      by [] rest = good.0
      by (m ∷ ms) rest = rest

  -- all that it does says lines of its own
  pub whole_own : (t : Parts) (es : List Effect) (d : Disk) → Own es → IsHome t → Own (whole k t es d).outs
  whole_own t es d all home = rounds_own most_rounds (ran k t es d) (ran_good t es d all home)
