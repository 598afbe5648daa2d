-- What a node says of ends, as it handles a message.
use Rattle.arj_law_parts.proofs.Words
use Words.{option_map, AllByRecursion, ◌≡◌, ℕ, List, [], ◌∷◌, ◌++◌, Bool, true, false, cond, map, filter, Option, Some, None, refl, sym}
use Words.{subst, Uid, End, Head, Asked, Ask, Message, ObjectState, asks, object, Reply, actor, answers, asked_by, response, last_end}
use Words.{heard, confirm, Coord, Effect, Say, Send, Do, Work, Look, PutInc, Prepare, Commit, Abort, PutIntent, RemoveIntent, Served, Did}
use Words.{Disk, Prep, Ready, Already, Old, InDoubt, held_at, holder_of, is_prepared, prepare_answer, acked, answer_query, Naming, Parts}
use Words.{Handled, Took, sends_answer, with_server, with_naming, with_coord, served, if_naming, load_held, load_by, prepare_by, serve}
use Words.{end_states, store_told, naming_told, ack_told, handle_told, handle_ends, holders, query_about, is_earlier, naming_hello}
use Words.{by_reply, coord_heard, handle_other, handle_answer, handle_ask, handle, AreAll, is_server_effect, is_naming_effect}
use Words.{is_names_work, Server, Tree, ends_own, activate_own, invoke_own, vote_own, bind_own, note_own, confirm_own, told_own}
use Words.ask
use Words.ending
use Words.message
use Words.body
use Words.role
use Words.loaded
use Words.prepared
use Words.naming
use Words.server
use Rattle.arj_law_parts.proofs.Terms.{Action, IsGoodCoord, Paths, IsTree, AllSayEnds, AreOfCommits, IsSure, SaysEndsIn, IsDecided}
use Rattle.arj_law_parts.proofs.parts
use parts.{Decided.stand_acked, Decided.stand_heard}
use parts.EndsSaid.{sure_acked, sure_heard, sure_query}
use parts.SureCalls.{none_in}
use parts.SaidIncs.{all_both, all_map, all_quiet}
use Rattle.arj_law_parts.specs.parts.Ends.{Decides, IsOfCommit, IsSurelyHandled}

module _ (t : Tree) where
  abbrev Says : List Effect → Type 0
  Says outs = AllByRecursion (SaysEndsIn t) outs

  says_server : (k : ℕ) (outs : List Effect) → AreAll (is_server_effect k) outs → Says outs
  says_server k outs all = all_quiet (SaysEndsIn t) (is_server_effect k) (λ to m. refl) one outs all
    where
      one : (e : Effect) → is_server_effect k e ≡ true → SaysEndsIn t e
      one (Say b) is = tt
      one (Send to m) is = let no_way : false ≡ true = is in cc
      one (Do w) is = let no_way : false ≡ true = is in cc

  says_naming : (outs : List Effect) → AreAll is_naming_effect outs → Says outs
  says_naming outs all = all_quiet (SaysEndsIn t) is_naming_effect (λ to m. refl) one outs all
    where
      work : (w : Work) → is_names_work w ≡ true → IsOfCommit t w
      work Look is = tt
      work (Prepare r u states) is = tt
      work (Commit r u) is = tt
      work (Abort r u) is = tt
      work (PutInc j) is = tt
      work (RemoveIntent u) is = tt
      work (PutIntent u e) is = let no_way : false ≡ true = is in cc

      one : (e : Effect) → is_naming_effect e ≡ true → SaysEndsIn t e
      one (Say b) is = tt
      one (Send to m) is = let no_way : false ≡ true = is in cc
      one (Do w) is = work w is

  says_answer : (to : ℕ) (a : Asked) (r : Reply) → Says (Send to (response a r) ∷ [])
  says_answer to a (Reply.Bound r) = (record { brings = λ u e k. none_in u e k; tells = λ u e k. none_in u e k }, tt)
  says_answer to a (Reply.Loaded r) = (record { brings = λ u e k. none_in u e k; tells = λ u e k. none_in u e k }, tt)
  says_answer to a (Reply.Activated j) = (record { brings = λ u e k. none_in u e k; tells = λ u e k. none_in u e k }, tt)
  says_answer to a (Reply.Noted r) = (record { brings = λ u e k. none_in u e k; tells = λ u e k. none_in u e k }, tt)
  says_answer to a (Reply.Invoked r) = (record { brings = λ u e k. none_in u e k; tells = λ u e k. none_in u e k }, tt)
  says_answer to a (Reply.Voted r) = (record { brings = λ u e k. none_in u e k; tells = λ u e k. none_in u e k }, tt)
  says_answer to a (Reply.Prepared r) = (record { brings = λ u e k. none_in u e k; tells = λ u e k. none_in u e k }, tt)
  says_answer to a (Reply.Confirmed r) = (record { brings = λ u e k. none_in u e k; tells = λ u e k. none_in u e k }, tt)

  pub says_queries : (us : List Uid) → Says (map query_about us)
  says_queries us = all_map (SaysEndsIn t) query_about us (λ w. record { brings = λ u e k. none_in u e k; tells = λ u e k. none_in u e k })

module _ (n : ℕ) (t : Parts) where
  abbrev Well : Handled → Type 0
  Well h = IsSurelyHandled t h

  -- the coordinator is as it was
  took : (v : Parts) (outs : List Effect) → v.coord ≡ t.coord → IsSure t.coord → AllSayEnds t.coord.tree outs → Well (Took v outs)
  took v outs same sure says = (
    subst IsSure (sym same) sure,
    (λ u e d. subst (λ (c : Coord). Holds c u e) (sym same) d),
    subst (λ (c : Coord). AllSayEnds c.tree outs) (sym same) says,
  )
    where
      Holds : Coord → Uid → End → Type 0
      Holds c u e = IsDecided u e c.tree

  answered_well : (from : ℕ) (h : Head) (v : Parts) (outs : List Effect) (o : Option Reply) → v.coord ≡ t.coord → IsSure t.coord →
      AllSayEnds t.coord.tree outs → Well (sends_answer from h v outs o)
  answered_well from h v outs None same sure says = tt
  answered_well from h v outs (Some r) same sure says = took v (outs ++ Send from (response (asked_by h) r) ∷ []) same sure (all_both
      (SaysEndsIn t.coord.tree) outs (Send from (response (asked_by h) r) ∷ []) says (says_answer t.coord.tree from (asked_by h) r))

  serve_well : (d : Disk) (from : ℕ) (h : Head) (a : Ask) → IsSure t.coord → Well (serve n d t from h a)
  serve_well d from h (ask.Bind x include avoid) sure = by t.naming
    where
      by : (o : Option Naming) →
          Well (if_naming (λ m. served from h (with_naming t) Reply.Bound (naming.bind h.path x include avoid d.names m)) o)
      by None = tt
      by (Some m) = let r = naming.bind h.path x include avoid d.names m in answered_well from h (with_naming t r.part) r.outs
          (option_map Reply.Bound r.reply) refl sure (says_naming t.coord.tree r.outs (bind_own h.path x include avoid d.names m))
  serve_well d from h (ask.Load x) sure = load (holder_of (object x) d.store)
    where
      held : (s : Option ObjectState) → Well (load_held from h t s)
      held None = tt
      held (Some s) = answered_well from h t (Do Look ∷ []) (Some (Reply.Loaded (loaded.State s))) refl sure (tt, tt)

      load : (o : Option Uid) → Well (load_by x d.store from h t o)
      load (Some u) = answered_well from h t [] (Some (Reply.Loaded (loaded.InDoubt u))) refl sure tt
      load None = held (held_at (object x) d.store)
  serve_well d from h (ask.Activate b st) sure = let r = server.activate n h.path b st t.server in
      answered_well from h (with_server t r.part) r.outs (option_map Reply.Activated r.reply) refl sure
      (says_server t.coord.tree n r.outs (activate_own n h.path b st t.server))
  serve_well d from h (ask.Record x b i g) sure = by t.naming
    where
      by : (o : Option Naming) → Well (if_naming (λ m. served from h (with_naming t) Reply.Noted (naming.note h.path x b i g m)) o)
      by None = tt
      by (Some m) = let r = naming.note h.path x b i g m in answered_well from h (with_naming t r.part) r.outs
          (option_map Reply.Noted r.reply) refl sure (says_naming t.coord.tree r.outs (note_own h.path x b i g m))
  serve_well d from h (ask.Invoke x b i ends o) sure = let r = server.invoke n h x b i ends o t.server in
      answered_well from h (with_server t r.part) r.outs (option_map Reply.Invoked r.reply) refl sure
      (says_server t.coord.tree n r.outs (invoke_own n h x b i ends o t.server))
  serve_well d from h (ask.Vote i ties ends) sure = let r = server.vote n h.path i ties ends t.server in answered_well from h (with_server t
      r.part) r.outs (option_map Reply.Voted r.reply) refl sure (says_server t.coord.tree n r.outs (vote_own n h.path i ties ends t.server))
  serve_well d from h (ask.Prepare states) sure = by (is_prepared (actor h.path) d.store)
    where
      new : (a : Prep) → Well (prepare_by n states from h t a)
      new Ready = answered_well from h t (Do Look ∷ Do (Prepare role.Store (actor h.path) states)
          ∷ Say (body.Prepared n (actor h.path) role.Store) ∷ []) (Some (Reply.Prepared prepared.Yes)) refl sure (tt, (tt, (tt, tt)))
      new (Already u) = tt
      new (Old u v) = answered_well from h t (Do Look ∷ []) (Some (Reply.Prepared (prepared.Old u.num v))) refl sure (tt, tt)
      new (InDoubt u holder) =
          answered_well from h t (Do Look ∷ []) (Some (Reply.Prepared (prepared.InDoubt u.num holder))) refl sure (tt, tt)

      by : (b : Bool) → Well (cond b (sends_answer from h t [] (Some (Reply.Prepared prepared.Yes)))
          (prepare_by n states from h t (prepare_answer (actor h.path) states d.store)))
      by true = answered_well from h t [] (Some (Reply.Prepared prepared.Yes)) refl sure tt
      by false = new (prepare_answer (actor h.path) states d.store)
  serve_well d from h (ask.Confirm grants excluded included) sure = by t.naming
    where
      by : (o : Option Naming) →
          Well (if_naming (λ m. served from h (with_naming t) Reply.Confirmed (confirm h.path grants excluded included d.names m)) o)
      by None = tt
      by (Some m) = let r = confirm h.path grants excluded included d.names m in
          answered_well from h (with_naming t r.part) r.outs (option_map Reply.Confirmed r.reply) refl sure
          (says_naming t.coord.tree r.outs (confirm_own h.path grants excluded included d.names m))

  told_well : (d : Disk) (from : ℕ) (ack : Bool) (ends : List (Uid × End)) (u : Uid) (e : End) → IsSure t.coord →
      Well (handle_told n d t from ack ends u e)
  told_well d from ack ends u e sure = took (record { server = s.part; naming = o.part; coord = t.coord })
      (store_told n u e d.store ++ o.outs ++ s.outs ++ ack_told from u ack) refl sure (both (store_told n u e d.store ++ o.outs ++ s.outs)
      (ack_told from u ack) (both (store_told n u e d.store ++ o.outs) s.outs (both (store_told n u e d.store) o.outs
      (stored (is_prepared u d.store) e) (names t.naming)) (says_server t.coord.tree n s.outs (ends_own n ends t.server))) (acks ack))
    where
      o : Did (Option Naming)
      o = naming_told u e d.names t.naming

      s : Did Server
      s = server.told n ends t.server

      both : (es fs : List Effect) → AllSayEnds t.coord.tree es → AllSayEnds t.coord.tree fs → AllSayEnds t.coord.tree (es ++ fs)
      both = all_both (SaysEndsIn t.coord.tree)

      stored : (b : Bool) (f : End) → AllSayEnds t.coord.tree (cond b (end_states n u f) [])
      stored true ending.Commit = (tt, (tt, tt))
      stored true ending.Abort = (tt, (tt, tt))
      stored false f = tt

      names : (m : Option Naming) → AllSayEnds t.coord.tree (naming_told u e d.names m).outs
      names None = tt
      names (Some m) = says_naming t.coord.tree (naming.told u e d.names m).outs (told_own u e d.names m)

      acks : (b : Bool) → AllSayEnds t.coord.tree (ack_told from u b)
      acks true = (record { brings = λ w f k. none_in w f k; tells = λ w f k. none_in w f k }, tt)
      acks false = tt

  ends_well : (d : Disk) (from : ℕ) (ack : Bool) (ends : List (Uid × End)) → IsSure t.coord → (o : Option (Uid × End)) →
      Well (handle_ends n d t from ack ends o)
  ends_well d from ack ends sure None = took t [] refl sure tt
  ends_well d from ack ends sure (Some e) = told_well d from ack ends e.0 e.1 sure

  coord_well : (r : Served Coord (Unit {0})) → IsSure r.part → Decides t.coord.tree (let c = r.part in c.tree) →
      AllSayEnds (let c = r.part in c.tree) r.outs → Well (coord_heard t r)
  coord_well r sure stands says = by r.reply
    where
      by : (o : Option (Unit {0})) → Well (by_reply (with_coord t r.part) r.outs o)
      by None = tt
      by (Some u) = (sure, stands, says)

  module _ (actions : List Action) (paths : Paths) (tree : IsTree paths) (good : IsGoodCoord actions paths t.coord) (sure : IsSure t.coord)
      (d : Disk) (records : AreOfCommits d.intents t.coord.tree) where
    other_well : (from : ℕ) (m : Message) → Well (handle_other n d t from m)
    other_well from (message.Told m) = ends_well d from m.ack m.ends sure (last_end m.ends)
    other_well from (message.Acked m) = let q = sure_acked from m.act d.intents t.coord sure in
        coord_well (acked from m.act d.intents t.coord) q.0 (stand_acked actions paths tree from m.act d.intents t.coord).ends q.1
    other_well from (message.Query m) =
        took t (answer_query from m.act d.intents t.coord) refl sure (sure_query from m.act d.intents t.coord records)
    other_well from (message.Hello m) = took (record t { naming = naming_hello m.node m.inc t.naming }) (map query_about (filter
        (is_earlier m.node m.inc) (holders d t))) refl sure (says_queries t.coord.tree (filter (is_earlier m.node m.inc) (holders d t)))
    other_well from (message.Bind m) = tt
    other_well from (message.Bound m) = tt
    other_well from (message.Load m) = tt
    other_well from (message.Loaded m) = tt
    other_well from (message.Activate m) = tt
    other_well from (message.Activated m) = tt
    other_well from (message.RecordMsg m) = tt
    other_well from (message.Recorded m) = tt
    other_well from (message.Invoke m) = tt
    other_well from (message.Invoked m) = tt
    other_well from (message.Vote m) = tt
    other_well from (message.Voted m) = tt
    other_well from (message.Prepare m) = tt
    other_well from (message.Prepared m) = tt
    other_well from (message.Confirm m) = tt
    other_well from (message.Confirmed m) = tt

    pub surely_handled : (from : ℕ) (m : Message) → Well (handle n d t from m)
    surely_handled from m = by (asks m)
      where
        answer : (o : Option (Asked × Reply)) → Well (handle_answer n d t from m o)
        answer None = other_well from m
        answer (Some a) = let q = sure_heard actions paths tree from a.0 a.1 d.intents t.coord good sure in coord_well
            (heard from a.0 a.1 d.intents t.coord) q.0 (stand_heard actions paths tree from a.0 a.1 d.intents t.coord good).ends q.1

        by : (o : Option (Head × Ask)) → Well (handle_ask n d t from m o)
        by None = answer (answers m)
        by (Some a) = serve_well d from a.0 a.1 sure
