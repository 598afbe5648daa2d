-- What is known of servers is kept by each message that a node takes.
use Rattle.arj_law_parts.proofs.Words
use Words.{◌≡◌, ◌+◌, ℕ, List, [], ◌∷◌, ◌++◌, Bool, true, false, cond, Option, Some, None, refl, sym, ◌∙◌, ap, subst, map, filter, ⊤}
use Words.{if◌then◌else◌, option_map, Uid, Ask, Asked, Binding, End, Head, Message, ObjectState, PreparedReply, asks, object, Reply, actor}
use Words.{answers, asked_by, last_end, response, heard, confirm, Coord, Already, Disk, Do, Effect, InDoubt, Old, Prep, Ready, Say, Send}
use Words.{Served, held_at, holder_of, is_prepared, prepare_answer, acked, answer_query, Named, next_server, Naming, listed_entry, Handled}
use Words.{Parts, Took, Void, ack_told, by_reply, coord_heard, end_states, handle, handle_answer, handle_ask, handle_ends, handle_other}
use Words.{holders, if_naming, is_earlier, load_by, load_held, naming_hello, naming_told, prepare_by, query_about, sends_answer, serve}
use Words.{store_told, with_coord, with_naming, with_server, at_number, binding_number, AreAll, is_naming_effect, is_server_effect}
use Words.{activate_own, bind_own, confirm_own, ends_own, invoke_own, note_own, told_own, vote_own, Post}
use Words.ask
use Words.ending
use Words.loaded
use Words.message
use Words.prepared
use Words.naming
use Words.server
use Rattle.arj_law_runs.proofs.Terms
use Terms.{AreTrue, FitsCall, Homes, IsNamingSo, IsPastZero, KnowsServers, NamesAsked, NamesReply, Reach, all_both, all_quiet, In}
use Terms.{HasServers, NamesPost, Passes}
use Rattle.arj_law_parts.proofs.parts
use parts.{SaidIncs.activate_inc}
use parts.LivesCoords.{know_acked, know_heard}
use parts.LivesNamed.{bind_so, confirm_so, hello_so, note_so, told_so}
use Rattle.arj_law_parts.specs.parts.Lives.{AllName, IsReached, home_of}
use Rattle.arj_law_runs.proofs.calls
use calls.{CoordOuts.quiet_query, CoordSends.AllQuiet}
use calls.LivedWalks.{AllSent, NamesSent}
use calls.ServerCalls.{activate_reached, some_is}
use calls.WorldSteps.{no_answer, no_request, reads_back}

module _ (k : ℕ) (home : Homes) (reach : Reach) (sent : List Post) where
  none_is : {A : Type 0} {x : A} → None ≡ Some x → ⊥
  none_is {A} {x} is = let no_way : ◌≡◌ {A = Option A} None (Some x) = is in cc

  pub sent_both : (xs ys : List Effect) → AllSent k home reach sent xs → AllSent k home reach sent ys → AllSent k home reach sent (xs ++ ys)
  sent_both xs ys a b = all_both (NamesSent k home reach sent) xs ys a b

  pub server_sent : (n : ℕ) (outs : List Effect) → AreAll (is_server_effect n) outs → AllSent k home reach sent outs
  server_sent n outs all = all_quiet (NamesSent k home reach sent) (is_server_effect n) (λ to m. refl) each outs all
    where
      each : (e : Effect) → is_server_effect n e ≡ true → NamesSent k home reach sent e
      each (Say b) is = tt
      each (Send to m) is = absurd (cc is)
      each (Do w) is = tt

  pub naming_sent : (outs : List Effect) → AreAll is_naming_effect outs → AllSent k home reach sent outs
  naming_sent outs all = all_quiet (NamesSent k home reach sent) is_naming_effect (λ to m. refl) each outs all
    where
      each : (e : Effect) → is_naming_effect e ≡ true → NamesSent k home reach sent e
      each (Say b) is = tt
      each (Send to m) is = absurd (cc is)
      each (Do w) is = tt

  -- what a coordinator sends answers nothing
  pub coord_sent : (c : Coord) (outs : List Effect) → AreTrue c outs → AllName home reach outs → AllSent k home reach sent outs
  coord_sent c [] t names = tt
  coord_sent c (Send to m ∷ es) t names = let f = t.0 in
      (record { asking = names.0; answering = λ a r is. absurd (none_is (sym (no_answer m f.plain) ∙ is)) }, coord_sent c es t.1 names.1)
  coord_sent c (Say b ∷ es) t names = (tt, coord_sent c es t.1 names.1)
  coord_sent c (Do w ∷ es) t names = (tt, coord_sent c es t.1 names.1)

  -- and where it asks nothing
  pub quiet_sent : (c : Coord) (outs : List Effect) → AreTrue c outs → AllQuiet outs → AllSent k home reach sent outs
  quiet_sent c [] t quiet = tt
  quiet_sent c (Send to m ∷ es) t quiet = let f = t.0 in (
    record {
      asking = subst (NamesAsked home reach to) (sym quiet.0) tt;
      answering = λ a r is. absurd (none_is (sym (no_answer m f.plain) ∙ is));
    },
    quiet_sent c es t.1 quiet.1,
  )
  quiet_sent c (Say b ∷ es) t quiet = (tt, quiet_sent c es t.1 quiet.1)
  quiet_sent c (Do w ∷ es) t quiet = (tt, quiet_sent c es t.1 quiet.1)

  pub asks_sent : (us : List Uid) → AllSent k home reach sent (map query_about us)
  asks_sent [] = tt
  asks_sent (u ∷ us) = (record { asking = tt; answering = λ a r is. absurd (none_is is) }, asks_sent us)

  module _ (nobody : home 0 ≡ 0) (early : IsPastZero reach) (some_node : k ≡ 0 → ⊥) (d : Disk) (t : Parts) (from : ℕ)
      (mine : HasServers home reach t) (m : Message) (posted : In (record { from = from; to = k; message = m }) sent)
      (its : NamesPost home reach sent (record { from = from; to = k; message = m })) where
    -- an answer to the message's request
    answer_sent : (h : Head) (a : Ask) → asks m ≡ Some (h, a) → (r : Reply) → NamesReply home reach k a r →
        NamesPost home reach sent (record { from = k; to = from; message = response (asked_by h) r })
    answer_sent h a is r so = record {
      asking = subst (NamesAsked home reach from) (sym (no_request (asked_by h) r)) tt;
      answering = λ b q at. let same = some_is (sym (reads_back (asked_by h) r) ∙ at) in record {
        post = record { from = from; to = k; message = m };
        head = h;
        ask = a;
        posted = posted;
        asked = is;
        same = ap (λ (z : Asked × Reply). z.0) same;
        from = refl;
        so = subst (NamesReply home reach k a) (ap (λ (z : Asked × Reply). z.1) same) so;
      };
    }

    -- a binding that naming makes goes to its server
    abbrev pub Binds : Parts → Type 0
    Binds v = (o p : Naming) → t.naming ≡ Some o → v.naming ≡ Some p → p.count ≡ o.count + 1 →
        (h : Head) (x : ℕ) (include : Bool) (avoid : Binding) → asks m ≡ Some (h, ask.Bind x include avoid)
        → (named : Named) → at_number x o.objects ≡ Some named →
        home_of home (record { inc = o.inc; count = o.count + 1 }) ≡ next_server named.turn (listed_entry x d.names).servers

    abbrev pub By : Handled → Type 0
    By (Void outs) = ⊤
    By (Took v outs) = Binds v → Passes reach k t.server.inc (Some v) → HasServers home reach v × AllSent k home reach sent outs

    answered : (h : Head) (a : Ask) → asks m ≡ Some (h, a) → (v : Parts) (outs : List Effect) (o : Option Reply)
        → (Binds v → Passes reach k t.server.inc (Some v) → HasServers home reach v × AllSent k home reach sent outs
        × ((r : Reply) → o ≡ Some r → NamesReply home reach k a r)) → By (sends_answer from h v outs o)
    answered h a is v outs None f = tt
    answered h a is v outs (Some r) f = λ binds passes. let g = f binds passes in
        (g.0, sent_both outs (Send from (response (asked_by h) r) ∷ []) g.1 (answer_sent h a is r (g.2 r refl), tt))

    kinds : {R : Type 0} (a : Ask) (say : R → Reply) (o : Option R) → ((r : R) → o ≡ Some r → NamesReply home reach k a (say r)) →
        (q : Reply) → option_map say o ≡ Some q → NamesReply home reach k a q
    kinds a say None each q is = absurd (none_is is)
    kinds a say (Some r) each q is = subst (NamesReply home reach k a) (some_is is) (each r refl)

    -- with naming, where it is there
    with_it : (f : Naming → Handled) (o : Option Naming) → t.naming ≡ o → ((n : Naming) → t.naming ≡ Some n → By (f n)) → By (if_naming f o)
    with_it f None is each = tt
    with_it f (Some n) is each = each n is

    renamed : (n : Naming) → IsNamingSo home reach n → HasServers home reach (with_naming t n)
    renamed n so = (mine.0, λ o is. subst (IsNamingSo home reach) (some_is is) so)

    -- no binding of number 0 is asked for here
    some_number : (h : Head) (b : Binding) (st : ObjectState) → asks m ≡ Some (h, ask.Activate b st) → binding_number b ≡ 0 → ⊥
    some_number h b st is none = let here : k ≡ home_of home b = subst (NamesAsked home reach k) is its.asking in
        some_node (here ∙ ap home none ∙ nobody)

    asked : (h : Head) (a : Ask) → asks m ≡ Some (h, a) → By (serve k d t from h a)
    asked h (ask.Bind x include avoid) is = with_it _ t.naming refl (λ n at.
        let r = naming.bind h.path x include avoid d.names n in
        answered h (ask.Bind x include avoid) is (with_naming t r.part) r.outs (option_map Reply.Bound r.reply) (λ binds passes.
        let b = bind_so home reach h.path x include avoid d.names n (λ named there made.
        binds n (naming.bind h.path x include avoid d.names n).part at refl made h x include avoid is named there) (mine.1 n at) in (
          renamed r.part b.0,
          naming_sent r.outs (bind_own h.path x include avoid d.names n),
          kinds (ask.Bind x include avoid) Reply.Bound r.reply b.1,
        )))
    asked h (ask.Load x) is = load (holder_of (object x) d.store)
      where
        held : (s : Option ObjectState) → By (load_held from h t s)
        held None = tt
        held (Some s) = λ binds passes. (mine, (tt, (answer_sent h (ask.Load x) is (Reply.Loaded (loaded.State s)) tt, tt)))

        load : (o : Option Uid) → By (load_by x d.store from h t o)
        load (Some u) = λ binds passes. (mine, (answer_sent h (ask.Load x) is (Reply.Loaded (loaded.InDoubt u)) tt, tt))
        load None = held (held_at (object x) d.store)
    asked h (ask.Activate b st) is =
        let r = server.activate k h.path b st t.server in
        answered h (ask.Activate b st) is (with_server t r.part) r.outs (option_map Reply.Activated r.reply) (λ binds passes. (
          (mine.0, mine.1),
          server_sent k r.outs (activate_own k h.path b st t.server),
          kinds (ask.Activate b st) Reply.Activated r.reply (λ j at.
              let f = activate_reached k h.path b st t.server j (some_number h b st is) at in (
                subst (IsReached reach k st.uid.num b) (sym (activate_inc k h.path b st t.server j at))
                    (passes.here st.uid.num (binding_number b) f.0 f.1 f.2),
                tt,
              )),
        ))
    asked h (ask.Record x b i g) is = with_it _ t.naming refl (λ n at.
        let r = naming.note h.path x b i g n in
        answered h (ask.Record x b i g) is (with_naming t r.part) r.outs (option_map Reply.Noted r.reply) (λ binds passes. (
          renamed r.part (note_so home reach h.path x b i g n (subst (NamesAsked home reach k) is its.asking) (mine.1 n at)),
          naming_sent r.outs (note_own h.path x b i g n),
          kinds (ask.Record x b i g) Reply.Noted r.reply (λ a q. tt),
        )))
    asked h (ask.Invoke x b i ends o) is =
        let r = server.invoke k h x b i ends o t.server in
        answered h (ask.Invoke x b i ends o) is (with_server t r.part) r.outs (option_map Reply.Invoked r.reply) (λ binds passes. (
          (mine.0, mine.1),
          server_sent k r.outs (invoke_own k h x b i ends o t.server),
          kinds (ask.Invoke x b i ends o) Reply.Invoked r.reply (λ a q. tt),
        ))
    asked h (ask.Vote i ties ends) is =
        let r = server.vote k h.path i ties ends t.server in
        answered h (ask.Vote i ties ends) is (with_server t r.part) r.outs (option_map Reply.Voted r.reply) (λ binds passes. (
          (mine.0, mine.1),
          server_sent k r.outs (vote_own k h.path i ties ends t.server),
          kinds (ask.Vote i ties ends) Reply.Voted r.reply (λ a q. tt),
        ))
    asked h (ask.Prepare states) is = twice (is_prepared (actor h.path) d.store)
      where
        plain : (r : PreparedReply) →
            NamesPost home reach sent (record { from = k; to = from; message = response (asked_by h) (Reply.Prepared r) })
        plain r = answer_sent h (ask.Prepare states) is (Reply.Prepared r) tt

        new : (a : Prep) → By (prepare_by k states from h t a)
        new Ready = λ binds passes. (mine, (tt, (tt, (tt, (plain prepared.Yes, tt)))))
        new (Already u) = tt
        new (Old u w) = λ binds passes. (mine, (tt, (plain (prepared.Old u.num w), tt)))
        new (InDoubt u holder) = λ binds passes. (mine, (tt, (plain (prepared.InDoubt u.num holder), tt)))

        twice : (b : Bool) → By (cond b (sends_answer from h t [] (Some (Reply.Prepared prepared.Yes)))
            (prepare_by k states from h t (prepare_answer (actor h.path) states d.store)))
        twice true = λ binds passes. (mine, (plain prepared.Yes, tt))
        twice false = new (prepare_answer (actor h.path) states d.store)
    asked h (ask.Confirm grants excluded included) is = with_it _ t.naming refl (λ n at.
        let r = confirm h.path grants excluded included d.names n in
        answered h (ask.Confirm grants excluded included) is (with_naming t r.part) r.outs (option_map Reply.Confirmed r.reply)
        (λ binds passes. (
          renamed r.part (confirm_so home reach h.path grants excluded included d.names n (mine.1 n at)),
          naming_sent r.outs (confirm_own h.path grants excluded included d.names n),
          kinds (ask.Confirm grants excluded included) Reply.Confirmed r.reply (λ a q. tt),
        )))

    coord_left : (r : Served Coord (Unit {0})) → AreTrue r.part r.outs → KnowsServers home reach r.part × AllName home reach r.outs →
        By (coord_heard t r)
    coord_left r truly f = by r.reply
      where
        by : (o : Option (Unit {0})) → By (by_reply (with_coord t r.part) r.outs o)
        by None = tt
        by (Some u) = λ binds passes. ((f.0, mine.1), coord_sent r.part r.outs truly f.1)

    ends_left : (ack : Bool) (ends : List (Uid × End)) (o : Option (Uid × End)) → By (handle_ends k d t from ack ends o)
    ends_left ack ends None = λ binds passes. (mine, tt)
    ends_left ack ends (Some e) = λ binds passes.
        let s = server.told k ends t.server in
        let o = naming_told e.0 e.1 d.names t.naming in (
          (mine.0, named t.naming refl),
          sent_both (store_told k e.0 e.1 d.store ++ o.outs ++ s.outs) (ack_told from e.0 ack)
              (sent_both (store_told k e.0 e.1 d.store ++ o.outs) s.outs (sent_both (store_told k e.0 e.1 d.store) o.outs
              (stored (is_prepared e.0 d.store) e.1) (names t.naming)) (server_sent k s.outs (ends_own k ends t.server))) (acked_told ack),
        )
      where
        named : (o : Option Naming) → t.naming ≡ o → (n : Naming) → (naming_told e.0 e.1 d.names o).part ≡ Some n → IsNamingSo home reach n
        named None at n is = absurd (none_is is)
        named (Some p) at n is = subst (IsNamingSo home reach) (some_is is) (told_so home reach e.0 e.1 d.names p (mine.1 p at))

        stored : (b : Bool) (how : End) → AllSent k home reach sent (if b then end_states k e.0 how else [])
        stored false how = tt
        stored true ending.Commit = (tt, (tt, tt))
        stored true ending.Abort = (tt, (tt, tt))

        names : (o : Option Naming) → AllSent k home reach sent (naming_told e.0 e.1 d.names o).outs
        names None = tt
        names (Some p) = naming_sent (naming.told e.0 e.1 d.names p).outs (told_own e.0 e.1 d.names p)

        acked_told : (b : Bool) → AllSent k home reach sent (ack_told from e.0 b)
        acked_told true = (record { asking = tt; answering = λ a r is. absurd (none_is is) }, tt)
        acked_told false = tt

    hello_left : (node inc : ℕ) (o : Option Naming) → t.naming ≡ o → (n : Naming) → naming_hello node inc o ≡ Some n →
        IsNamingSo home reach n
    hello_left node inc None at n is = absurd (none_is is)
    hello_left node inc (Some p) at n is = subst (IsNamingSo home reach) (some_is is) (hello_so home reach node inc p (mine.1 p at))

    module _ (fits : (a : Asked) (r : Reply) → answers m ≡ Some (a, r) → FitsCall home reach from a r t.coord)
        (hears : (a : Asked) (r : Reply) → answers m ≡ Some (a, r) → (let q = heard from a r d.intents t.coord in AreTrue q.part q.outs))
        (acks : (u : Uid) → (let q = acked from u d.intents t.coord in AreTrue q.part q.outs)) (answers_it : (u : Uid) →
        AreTrue t.coord (answer_query from u d.intents t.coord)) where
      other : (n : Message) → By (handle_other k d t from n)
      other (message.Told n) = ends_left n.ack n.ends (last_end n.ends)
      other (message.Acked n) = coord_left (acked from n.act d.intents t.coord) (acks n.act)
          (know_acked home reach nobody early from n.act d.intents t.coord mine.0)
      other (message.Query n) = λ binds passes. (
        mine,
        quiet_sent t.coord (answer_query from n.act d.intents t.coord) (answers_it n.act) (quiet_query from n.act d.intents t.coord),
      )
      other (message.Hello n) =
          λ binds passes. ((mine.0, hello_left n.node n.inc t.naming refl), asks_sent (filter (is_earlier n.node n.inc) (holders d t)))
      other (message.Bind n) = tt
      other (message.Bound n) = tt
      other (message.Load n) = tt
      other (message.Loaded n) = tt
      other (message.Activate n) = tt
      other (message.Activated n) = tt
      other (message.RecordMsg n) = tt
      other (message.Recorded n) = tt
      other (message.Invoke n) = tt
      other (message.Invoked n) = tt
      other (message.Vote n) = tt
      other (message.Voted n) = tt
      other (message.Prepare n) = tt
      other (message.Prepared n) = tt
      other (message.Confirm n) = tt
      other (message.Confirmed n) = tt

      pub message_lived : By (handle k d t from m)
      message_lived = by (asks m) refl
        where
          answer : (o : Option (Asked × Reply)) → answers m ≡ o → By (handle_answer k d t from m o)
          answer None is = other m
          answer (Some a) is = coord_left (heard from a.0 a.1 d.intents t.coord) (hears a.0 a.1 is)
              (know_heard home reach nobody early from a.0 a.1 d.intents t.coord mine.0 (fits a.0 a.1 is))

          by : (o : Option (Head × Ask)) → asks m ≡ o → By (handle_ask k d t from m o)
          by None is = answer (answers m) refl
          by (Some a) is = asked a.0 a.1 is
