-- A node stays good at each message that fits.
use Rattle.arj_law_parts.proofs.Words
use Words.{◌≡◌, ◌≢◌, ◌+◌, arith, ℕ, List, [], ◌∷◌, ◌++◌, Bool, true, false, cond, map, filter, Option, Some, None, refl, sym, ◌∙◌, ap, inr}
use Words.{option_map, list_all, and_parts, Uid, End, Header, Label, Kind, Head, Asked, Ask, Message, ObjectState, Path, asks, object}
use Words.{uids_of, tops_of, Reply, actor, answers, asked_by, response, last_end, heard, again_all, begin_action, confirm, back_lines}
use Words.{Coord, new_coord, Effect, Say, Send, Do, Work, Look, PutInc, Prepare, Commit, Abort, PutIntent, RemoveIntent, Intent, Served}
use Words.{Did, Disk, Pair, Prep, Ready, Already, Old, InDoubt, held_at, holder_of, is_prepared, prepare_answer, acked, Naming, Parts}
use Words.{Handled, sends_answer, served, with_server, with_naming, with_coord, if_naming, load_held, load_by, prepare_by, prepare_states}
use Words.{serve, end_states, store_told, naming_told, ack_told, handle_told, handle_ends, holders, query_about, is_earlier}
use Words.{prepared_actions, by_reply, coord_heard, handle_other, handle_answer, handle_ask, handle, AreAll, is_server_effect}
use Words.{is_naming_effect, is_names_work, Node, Input, refusal_up, tolds_again, recovered_records, hello_to, numbers_to, naming_at}
use Words.{naming_back, parts_in, restart_outs, parent_of, begin_refusal, tick_outs, Named, uid_set, without_number, Server, ends_own}
use Words.{activate_own, invoke_own, vote_own, bind_own, note_own, confirm_own, told_own, path_below, next_uid, is_own, is_on, in_from}
use Words.{in_to}
use Words.ask
use Words.ending
use Words.message
use Words.body
use Words.role
use Words.loaded
use Words.prepared
use Words.naming
use Words.server
use Words.input as step
use Rattle.arj_law_parts.proofs.Terms
use Terms.{Action, AreBegun, Agree, AreCounted, MayBegin, IsGoodCoord, Paths, IsTree, IsAsker, FitsAsk, FitsOther, FitsAsked, FitsMessage}
use Terms.{FitsWork, AllFit, AreOfTops, AreInTurn, AreOrdered, IsBegun}
use Rattle.arj_law_parts.proofs.parts
use parts.CoordInputs.{good_acts, good_begins, good_more}
use parts.GoodCoords.{good_fresh, good_heard, good_acked, good_again}
use parts.GoodServers.{good_new, good_activate, good_invoke, good_vote, good_told}
use parts.InTurn.{in_turn, knows_more, knows_new, knows_activate, knows_invoke, knows_vote, knows_told}
use parts.Sends.{fit_both, fit_map, fit_flat, fit_acts, fit_again, fit_tolds_again, fit_heard, fit_acked, fit_query}
use parts.Tellings.{tops_heard, tops_acts, tops_acked, tops_again}
use Rattle.arj_law_parts.specs.parts.Nodes.{IsGoodNode, IsWellHandled}

-- records of tops stay so
pub tops_more : (a : Action) (acts : List Action) (m : List (Uid × Intent)) → AreOfTops acts m → AreOfTops (a ∷ acts) m
tops_more a acts [] all = tt
tops_more a acts (e ∷ es) all = let f = all.0 in
    ((f.0, in_to f.0 (a ∷ acts) (inr (in_from f.0 acts f.1)), f.2, f.3), tops_more a acts es all.1)

module _ (acts : List Action) where
  -- effects that send nothing
  fit_quiet : (test : Effect → Bool) → ((to : ℕ) (m : Message) → test (Send to m) ≡ false) →
      ((w : Work) → test (Do w) ≡ true → FitsWork acts w) → (outs : List Effect) → AreAll test outs → AllFit acts outs
  fit_quiet test silent work [] all = tt
  fit_quiet test silent work (Say b ∷ es) all = (tt, fit_quiet test silent work es (and_parts (test (Say b)) (list_all test es) all).1)
  fit_quiet test silent work (Do w ∷ es) all = (
    work w (and_parts (test (Do w)) (list_all test es) all).0,
    fit_quiet test silent work es (and_parts (test (Do w)) (list_all test es) all).1,
  )
  fit_quiet test silent work (Send to m ∷ es) all =
      let no_way : false ≡ true = sym (silent to m) ∙ (and_parts (test (Send to m)) (list_all test es) all).0 in cc

  -- naming writes no record
  names_work : (w : Work) → is_names_work w ≡ true → FitsWork acts w
  names_work Look is = tt
  names_work (Prepare r u states) is = tt
  names_work (Commit r u) is = tt
  names_work (Abort r u) is = tt
  names_work (PutInc i) is = tt
  names_work (RemoveIntent u) is = tt
  names_work (PutIntent u i) is = absurd (cc is)

  fit_server : (n : ℕ) (outs : List Effect) → AreAll (is_server_effect n) outs → AllFit acts outs
  fit_server n outs all = fit_quiet (is_server_effect n) (λ to m. refl) (λ w is. absurd (cc is)) outs all

  fit_naming : (outs : List Effect) → AreAll is_naming_effect outs → AllFit acts outs
  fit_naming outs all = fit_quiet is_naming_effect (λ to m. refl) names_work outs all

  -- an answer says nothing of ends
  fit_answer : (a : Asked) (r : Reply) → FitsMessage acts (response a r)
  fit_answer a (Reply.Bound r) = tt
  fit_answer a (Reply.Loaded r) = tt
  fit_answer a (Reply.Activated i) = tt
  fit_answer a (Reply.Noted r) = tt
  fit_answer a (Reply.Invoked r) = tt
  fit_answer a (Reply.Voted r) = tt
  fit_answer a (Reply.Prepared r) = tt
  fit_answer a (Reply.Confirmed r) = tt

module _ (acts : List Action) (begun : AreBegun acts) (paths : Paths) (tree : IsTree paths) (agree : Agree acts paths) where
  abbrev Well : Handled → Type 0
  Well h = IsWellHandled acts paths h

  answered_well : (from : ℕ) (h : Head) (v : Parts) (outs : List Effect) (o : Option Reply) →
      (o ≢ None → IsGoodNode acts paths v × AllFit acts outs) → Well (sends_answer from h v outs o)
  answered_well from h v outs None good = tt
  answered_well from h v outs (Some r) good = let g = good (λ is. let no_way : ◌≡◌ {A = Option Reply} (Some r) None = is in cc) in
      (g.0, fit_both acts outs _ g.1 (fit_answer acts (asked_by h) r, tt))

  -- ---- lists of ends

  turn_of : (n : ℕ) (t : Parts) (ends : List (Uid × End)) → IsGoodNode acts paths t → AreOrdered acts [] ends → AreInTurn n ends t.server
  turn_of n t ends good ordered =
      in_turn acts begun paths tree n [] ends t.server ordered (λ w is. let no_way : false ≡ true = is in cc) good.server good.knows

  asker_path : (p : Path) → IsAsker acts p → uids_of p ≡ paths (actor p)
  asker_path p a = ap uids_of (sym a.2) ∙ sym (agree a.0 a.1) ∙ ap (λ q. paths (actor q)) a.2

  asker_begun : (p : Path) → IsAsker acts p → IsBegun acts p
  asker_begun p a = (a.0, a.1, ap uids_of (sym a.2), ap tops_of (sym a.2))

  -- ---- requests

  load_well : (x : ℕ) (d : Pair) (from : ℕ) (h : Head) (t : Parts) → IsGoodNode acts paths t → (o : Option Uid) →
      Well (load_by x d from h t o)
  load_well x d from h t good (Some holder) = answered_well from h t [] (Some (Reply.Loaded (loaded.InDoubt holder))) (λ some. (good, tt))
  load_well x d from h t good None = by (held_at (object x) d)
    where
      by : (s : Option ObjectState) → Well (load_held from h t s)
      by None = tt
      by (Some s) = answered_well from h t (Do Look ∷ []) (Some (Reply.Loaded (loaded.State s))) (λ some. (good, (tt, tt)))

  prepare_well : (n : ℕ) (d : Pair) (states : List ObjectState) (from : ℕ) (h : Head) (t : Parts) → IsGoodNode acts paths t →
      Well (prepare_states n d states from h t)
  prepare_well n d states from h t good = by (is_prepared (actor h.path) d)
    where
      new : (a : Prep) → Well (prepare_by n states from h t a)
      new Ready = answered_well from h t (Do Look ∷ Do (Prepare role.Store (actor h.path) states) ∷ Say
          (body.Prepared n (actor h.path) role.Store) ∷ []) (Some (Reply.Prepared prepared.Yes)) (λ some. (good, (tt, (tt, (tt, tt)))))
      new (Already u) = tt
      new (Old u v) = answered_well from h t (Do Look ∷ []) (Some (Reply.Prepared (prepared.Old u.num v))) (λ some. (good, (tt, tt)))
      new (InDoubt u holder) =
          answered_well from h t (Do Look ∷ []) (Some (Reply.Prepared (prepared.InDoubt u.num holder))) (λ some. (good, (tt, tt)))

      by : (b : Bool) → Well (cond b (sends_answer from h t [] (Some (Reply.Prepared prepared.Yes)))
          (prepare_by n states from h t (prepare_answer (actor h.path) states d)))
      by true = answered_well from h t [] (Some (Reply.Prepared prepared.Yes)) (λ some. (good, tt))
      by false = new (prepare_answer (actor h.path) states d)

  named : (t : Parts) (o : Naming) → IsGoodNode acts paths t → IsGoodNode acts paths (with_naming t o)
  named t o good = record { server = good.server; knows = good.knows; coord = good.coord; telling = good.telling }

  serve_well : (n : ℕ) (d : Disk) (t : Parts) (from : ℕ) (h : Head) (a : Ask) → FitsAsk acts h a → IsGoodNode acts paths t →
      Well (serve n d t from h a)
  serve_well n d t from h (ask.Bind x include avoid) fits good = by t.naming
    where
      by : (o : Option Naming) →
          Well (if_naming (λ m. served from h (with_naming t) Reply.Bound (naming.bind h.path x include avoid d.names m)) o)
      by None = tt
      by (Some m) = let r = naming.bind h.path x include avoid d.names m in answered_well from h (with_naming t r.part) r.outs (option_map
          Reply.Bound r.reply) (λ some. (named t r.part good, fit_naming acts r.outs (bind_own h.path x include avoid d.names m)))
  serve_well n d t from h (ask.Load x) fits good = load_well x d.store from h t good (holder_of (object x) d.store)
  serve_well n d t from h (ask.Activate b st) fits good =
      let r = server.activate n h.path b st t.server in
      answered_well from h (with_server t r.part) r.outs (option_map Reply.Activated r.reply) (λ some. (
        record {
          server = good_activate paths n h.path b st t.server good.server;
          knows = knows_activate acts n h.path b st t.server good.knows;
          coord = good.coord;
          telling = good.telling;
        },
        fit_server acts n r.outs (activate_own n h.path b st t.server),
      ))
  serve_well n d t from h (ask.Record x b i g) fits good = by t.naming
    where
      by : (o : Option Naming) → Well (if_naming (λ m. served from h (with_naming t) Reply.Noted (naming.note h.path x b i g m)) o)
      by None = tt
      by (Some m) = let r = naming.note h.path x b i g m in answered_well from h (with_naming t r.part) r.outs
          (option_map Reply.Noted r.reply) (λ some. (named t r.part good, fit_naming acts r.outs (note_own h.path x b i g m)))
  serve_well n d t from h (ask.Invoke x b i ends o) fits good =
      let r = server.invoke n h x b i ends o t.server in
      answered_well from h (with_server t r.part) r.outs (option_map Reply.Invoked r.reply) (λ some. (
        record {
          server =
              good_invoke paths tree n h x b i ends o t.server (asker_path h.path fits.0) fits.1 (turn_of n t ends good fits.2) good.server;
          knows = knows_invoke acts begun n h x b i ends o t.server (asker_begun h.path fits.0) good.knows;
          coord = good.coord;
          telling = good.telling;
        },
        fit_server acts n r.outs (invoke_own n h x b i ends o t.server),
      ))
  serve_well n d t from h (ask.Vote i ties ends) fits good =
      let r = server.vote n h.path i ties ends t.server in
      answered_well from h (with_server t r.part) r.outs (option_map Reply.Voted r.reply) (λ some. (
        record {
          server = good_vote paths tree n h.path i ties ends t.server (turn_of n t ends good fits.2) good.server;
          knows = knows_vote acts begun n h.path i ties ends t.server fits.1 good.knows;
          coord = good.coord;
          telling = good.telling;
        },
        fit_server acts n r.outs (vote_own n h.path i ties ends t.server),
      ))
  serve_well n d t from h (ask.Prepare states) fits good = prepare_well n d.store states from h t good
  serve_well n d t from h (ask.Confirm grants excluded included) fits good = by t.naming
    where
      by : (o : Option Naming) →
          Well (if_naming (λ m. served from h (with_naming t) Reply.Confirmed (confirm h.path grants excluded included d.names m)) o)
      by None = tt
      by (Some m) = let r = confirm h.path grants excluded included d.names m in
          answered_well from h (with_naming t r.part) r.outs (option_map Reply.Confirmed r.reply)
          (λ some. (named t r.part good, fit_naming acts r.outs (confirm_own h.path grants excluded included d.names m)))

  -- ---- the other messages

  told_well : (n : ℕ) (d : Disk) (t : Parts) (from : ℕ) (ack : Bool) (ends : List (Uid × End)) (u : Uid) (e : End) →
      AreOrdered acts [] ends → IsGoodNode acts paths t → Well (handle_told n d t from ack ends u e)
  told_well n d t from ack ends u e ordered good = (
    record {
      server = good_told paths tree n ends t.server (turn_of n t ends good ordered) good.server;
      knows = knows_told acts begun n ends t.server good.knows;
      coord = good.coord;
      telling = good.telling;
    },
    fit_both acts (store_told n u e d.store ++ o.outs ++ s.outs) (ack_told from u ack) (fit_both acts (store_told n u e d.store ++ o.outs)
        s.outs (fit_both acts (store_told n u e d.store) o.outs (stored (is_prepared u d.store) e) (names t.naming))
        (fit_server acts n s.outs (ends_own n ends t.server))) (acks ack),
  )
    where
      o : Did (Option Naming)
      o = naming_told u e d.names t.naming

      s : Did Server
      s = server.told n ends t.server

      stored : (b : Bool) (f : End) → AllFit acts (cond b (end_states n u f) [])
      stored true ending.Commit = (tt, (tt, tt))
      stored true ending.Abort = (tt, (tt, tt))
      stored false f = tt

      names : (m : Option Naming) → AllFit acts (naming_told u e d.names m).outs
      names None = tt
      names (Some m) = fit_naming acts (naming.told u e d.names m).outs (told_own u e d.names m)

      acks : (b : Bool) → AllFit acts (ack_told from u b)
      acks true = (tt, tt)
      acks false = tt

  ends_well : (n : ℕ) (d : Disk) (t : Parts) (from : ℕ) (ack : Bool) (ends : List (Uid × End)) → AreOrdered acts [] ends →
      IsGoodNode acts paths t → (o : Option (Uid × End)) → Well (handle_ends n d t from ack ends o)
  ends_well n d t from ack ends ordered good None = (good, tt)
  ends_well n d t from ack ends ordered good (Some e) = told_well n d t from ack ends e.0 e.1 ordered good

  coord_well : (t : Parts) (r : Served Coord (Unit {0})) → IsGoodCoord acts paths r.part → AreOfTops acts r.part.telling →
      AllFit acts r.outs → IsGoodNode acts paths t → Well (coord_heard t r)
  coord_well t r coord telling fit good = by r.reply
    where
      by : (o : Option (Unit {0})) → Well (by_reply (with_coord t r.part) r.outs o)
      by None = tt
      by (Some u) = (record { server = good.server; knows = good.knows; coord = coord; telling = telling }, fit)

  fit_queries : (us : List Uid) → AllFit acts (map query_about us)
  fit_queries us = fit_map acts query_about us (λ u. tt)

  other_well : (n : ℕ) (d : Disk) (t : Parts) (from : ℕ) (m : Message) → FitsOther acts m → AreOfTops acts d.intents →
      IsGoodNode acts paths t → Well (handle_other n d t from m)
  other_well n d t from (message.Told m) fits tops good = ends_well n d t from m.ack m.ends fits good (last_end m.ends)
  other_well n d t from (message.Acked m) fits tops good =
      coord_well t (acked from m.act d.intents t.coord) (good_acked acts paths tree from m.act d.intents t.coord good.coord) (tops_acked
      acts begun paths tree from m.act d.intents t.coord good.telling) (fit_acked acts begun paths tree from m.act d.intents t.coord) good
  other_well n d t from (message.Query m) fits tops good =
      (good, fit_query acts begun paths tree from m.act d.intents t.coord tops good.coord)
  other_well n d t from (message.Hello m) fits tops good = (
    record { server = good.server; knows = good.knows; coord = good.coord; telling = good.telling },
    fit_queries (filter (is_earlier m.node m.inc) (holders d t)),
  )
  other_well n d t from (message.Bind m) fits tops good = tt
  other_well n d t from (message.Bound m) fits tops good = tt
  other_well n d t from (message.Load m) fits tops good = tt
  other_well n d t from (message.Loaded m) fits tops good = tt
  other_well n d t from (message.Activate m) fits tops good = tt
  other_well n d t from (message.Activated m) fits tops good = tt
  other_well n d t from (message.RecordMsg m) fits tops good = tt
  other_well n d t from (message.Recorded m) fits tops good = tt
  other_well n d t from (message.Invoke m) fits tops good = tt
  other_well n d t from (message.Invoked m) fits tops good = tt
  other_well n d t from (message.Vote m) fits tops good = tt
  other_well n d t from (message.Voted m) fits tops good = tt
  other_well n d t from (message.Prepare m) fits tops good = tt
  other_well n d t from (message.Prepared m) fits tops good = tt
  other_well n d t from (message.Confirm m) fits tops good = tt
  other_well n d t from (message.Confirmed m) fits tops good = tt

  pub message_well : (n : ℕ) (d : Disk) (t : Parts) (from : ℕ) (m : Message) → FitsMessage acts m → AreOfTops acts d.intents →
      IsGoodNode acts paths t → Well (handle n d t from m)
  message_well n d t from m fits tops good = by (asks m) fits
    where
      answer : (o : Option (Asked × Reply)) → FitsOther acts m → Well (handle_answer n d t from m o)
      answer None f = other_well n d t from m f tops good
      answer (Some a) f = coord_well t (heard from a.0 a.1 d.intents t.coord) (good_heard acts paths tree from a.0 a.1 d.intents t.coord
          good.coord) (tops_heard acts begun paths tree from a.0 a.1 d.intents t.coord good.coord good.telling)
          (fit_heard acts begun paths tree from a.0 a.1 d.intents t.coord good.coord) good

      by : (o : Option (Head × Ask)) → FitsAsked acts m o → Well (handle_ask n d t from m o)
      by None f = answer (answers m) f
      by (Some a) f = serve_well n d t from a.0 a.1 f good

  -- ---- inputs, ticks and restarts

  pub input_well : (d : Disk) (t : Parts) (hd : Header) (i : Input) → refusal_up hd i t.coord ≡ None →
      ((l : Label) (k : Kind) (parent : Option Label) → i ≢ step.Begin l k parent) → IsGoodNode acts paths t
      → (let r = step.acts i d.intents t.coord in IsGoodNode acts paths (with_coord t r.part) × AllFit acts r.outs)
  input_well d t hd i none other good = (
    record {
      server = good.server;
      knows = good.knows;
      coord = good_acts acts paths tree d.intents t.coord good.coord hd i none other;
      telling = tops_acts acts begun paths tree d.intents t.coord good.coord hd i none good.telling;
    },
    fit_acts acts begun paths tree d.intents t.coord good.coord hd i none,
  )

  pub tick_well : (n : Node) (t : Parts) → IsGoodNode acts paths t →
      (let r = again_all t.coord.doings t.coord in IsGoodNode acts paths (with_coord t r.part) × AllFit acts (tick_outs n t))
  tick_well n t good =
      let r = again_all t.coord.doings t.coord in (
        record {
          server = good.server;
          knows = good.knows;
          coord = good_again acts paths tree t.coord.doings t.coord good.coord;
          telling = tops_again acts begun paths tree t.coord.doings t.coord good.telling;
        },
        fit_both acts (r.outs ++ tolds_again t.coord.telling) (map query_about (holders n.disk t))
            (fit_both acts r.outs (tolds_again t.coord.telling) (fit_again acts begun paths tree t.coord good.coord)
            (fit_tolds_again acts begun paths tree t.coord.telling good.telling)) (fit_queries (holders n.disk t)),
      )

  pub restart_well : (hd : Header) (n count : ℕ) (d : Disk) → AreCounted n d.inc count acts → AreOfTops acts d.intents →
      IsGoodNode acts paths (parts_in n (d.inc + 1) d) × AllFit acts (restart_outs hd n (d.inc + 1) d)
  restart_well hd n count d counted tops = (
    record { server = good_new paths (d.inc + 1); knows = knows_new acts (d.inc + 1); coord = started; telling = tops },
    fit_both acts four hellos (fit_both acts three queries
        (fit_both acts two tolds (fit_both acts one records (tt, (tt, (tt, (tt, back (naming_at n (d.inc + 1) d.names)))))
        (tt, fit_map acts (λ (e : Uid × Intent). Say (body.Recovered n e.0)) d.intents (λ e. tt))) (fit_tolds_again acts begun paths tree
        d.intents tops)) (fit_queries (uid_set (prepared_actions d.store ++ prepared_actions d.names))))
        (fit_map acts (hello_to n (d.inc + 1)) (without_number n (numbers_to hd.nodes)) (λ k. tt)),
  )
    where
      started : IsGoodCoord acts paths (record (new_coord n (d.inc + 1)) { telling = d.intents })
      started = let g = good_fresh acts paths n d.inc (d.inc + 1) count counted (omega arith) in
          record { tree = g.tree; home = g.home; known = g.known; busy = g.busy }

      back : (o : Option Naming) → AllFit acts (naming_back o)
      back None = tt
      back (Some o) = fit_flat acts (λ (e : ℕ × Named). back_lines e.1) o.objects (λ e. fit_map acts _ e.1.rows (λ r. tt))

      one : List Effect
      one = Do Look ∷ Do (PutInc (d.inc + 1)) ∷ Say (body.Up n (d.inc + 1)) ∷ Do Look ∷ naming_back (naming_at n (d.inc + 1) d.names)

      records : List Effect
      records = Do Look ∷ recovered_records n d.intents

      two : List Effect
      two = one ++ records

      tolds : List Effect
      tolds = tolds_again d.intents

      three : List Effect
      three = two ++ tolds

      queries : List Effect
      queries = map query_about (uid_set (prepared_actions d.store ++ prepared_actions d.names))

      four : List Effect
      four = three ++ queries

      hellos : List Effect
      hellos = map (hello_to n (d.inc + 1)) (without_number n (numbers_to hd.nodes))

  -- an action that begins here, below no top for which the server voted
  pub begin_well : (l : Label) (k : Kind) (parent : Option Label) (t : Parts) → MayBegin acts k (parent_of parent t.coord) →
      begin_refusal k t.coord parent ≡ None
      → uids_of (path_below k (parent_of parent t.coord) (next_uid t.coord.tree)) ≡ paths (next_uid t.coord.tree)
      → ((w : Uid) → is_on t.server.voted w ≡ true →
      is_on (uids_of (path_below k (parent_of parent t.coord) (next_uid t.coord.tree))) w ≡ false)
      → IsGoodNode acts paths t → (let r = begin_action l k parent (parent_of parent t.coord) t.coord in IsGoodNode
      (record { path = path_below k (parent_of parent t.coord) (next_uid t.coord.tree); kind = k } ∷ acts) paths (with_coord t r.part))
  begin_well l k parent t may none path unvoted good =
      let a : Action = record { path = path_below k (parent_of parent t.coord) (next_uid t.coord.tree); kind = k } in
      record {
        server = good.server;
        knows = knows_more a acts t.server unvoted good.knows;
        coord = good_begins acts begun paths tree l k parent t.coord good.coord may none path;
        telling = tops_more a acts t.coord.telling good.telling;
      }

-- an action that begins elsewhere
pub elsewhere_well : (a : Action) (acts : List Action) (paths : Paths) (t : Parts) → ((u : Uid) → is_on (uids_of a.path) u ≡ true →
    is_own u t.coord.tree ≡ false) → ((w : Uid) → is_on t.server.voted w ≡ true → is_on (uids_of a.path) w ≡ false)
    → IsGoodNode acts paths t → IsGoodNode (a ∷ acts) paths t
elsewhere_well a acts paths t off unvoted good = record {
  server = good.server;
  knows = knows_more a acts t.server unvoted good.knows;
  coord = good_more a acts paths t.coord off good.coord;
  telling = tops_more a acts t.coord.telling good.telling;
}
