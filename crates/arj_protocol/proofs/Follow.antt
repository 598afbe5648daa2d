-- Over a whole step, with all messages that the node sends to itself, the locks of server and naming follow the lines.
use Rattle.std.proofs.Common.{◌≡◌, ℕ, zero, suc, List, [], ◌∷◌, ◌++◌, Bool, true, false, refl, sym, ◌∙◌, ap, subst, map, filter, Option}
use Rattle.std.proofs.Common.{Some, None, ◌==◌}
use Rattle.std.specs.Prelude.{if◌then◌else◌, option_map}
use Rattle.std.specs.List.{AllByRecursion}
use Rattle.arj_protocol.specs.Words.{Uid, End, Head, Asked, Ask, asks, Message, Row, ObjectState, Part, uid_eq, nobody, object, entry}
use Rattle.arj_protocol.specs.Words.ask
use Rattle.arj_protocol.specs.Words.ending
use Rattle.arj_protocol.specs.Words.body
use Rattle.arj_protocol.specs.Words.message
use Rattle.arj_protocol.specs.Words.part
use Rattle.arj_protocol.specs.Words.prepared
use Rattle.arj_protocol.specs.Words.loaded
use Rattle.arj_protocol.specs.Words.role
use Rattle.arj_protocol.specs.Effect.{Effect, Say, Send, Do, Look, Prepare, Disk, Pair, Prep, Ready, Already, Old, InDoubt, Served, worked}
use Rattle.arj_protocol.specs.Effect.{is_prepared, prepare_answer, holder_of, held_at}
use Rattle.arj_protocol.specs.Ask.{Reply, answers, actor, response, asked_by, last_end}
use Rattle.arj_protocol.specs.Server as server
use Rattle.arj_protocol.specs.Server.{Server}
use Rattle.arj_protocol.specs.Naming as naming
use Rattle.arj_protocol.specs.Naming.{Naming}
use Rattle.arj_protocol.specs.Confirm.{confirm}
use Rattle.arj_protocol.specs.Coord.{Coord}
use Rattle.arj_protocol.specs.Asking.{heard}
use Rattle.arj_protocol.specs.Ending.{acked, answer_query}
use Rattle.arj_protocol.specs.Node.{Parts, Handled, Void, Took, Here, Ran, ran, ran_handled, handle_all, next_round, rounds, whole}
use Rattle.arj_protocol.specs.Node.{most_rounds, first_done, first_queued, serve, served, sends_answer, with_server, with_naming}
use Rattle.arj_protocol.specs.Node.{with_coord, if_naming, load_by, load_held, prepare_by, prepare_states, handle, taken, handle_ask}
use Rattle.arj_protocol.specs.Node.{handle_answer, handle_other, handle_ends, handle_told, handle_hello, coord_heard, by_reply, end_states}
use Rattle.arj_protocol.specs.Node.{store_told, naming_told, ack_told, naming_hello, query_about, is_earlier, holders}
use Rattle.arj_protocol.specs.Says.{AreAll, is_server_effect, is_naming_effect, is_coord_effect}
use Rattle.arj_protocol.specs.Laws.{Holders, AreOfActions, ServerTable, NamingTable, server_rows, naming_rows, rows_by, rows_after}
use Rattle.arj_protocol.specs.Follow.{TablesFollow, NamingFollows, Fits, FitsAsked, FitsOther, FitsHead, FitRounds, ends_in}
use Rattle.arj_protocol.proofs.RowSteps.{after_both}
use Rattle.arj_protocol.proofs.Quiet.{all_quiet, server_quiet, naming_quiet, coord_quiet}
use Rattle.arj_protocol.proofs.PartSays.{activate_own, invoke_own, vote_own, ends_own, bind_own, note_own, confirm_own, told_own}
use Rattle.arj_protocol.proofs.CoordSays.{heard_own, acked_own, query_own, map_own}
use Rattle.arj_protocol.proofs.ServerTable.{activate_table, invoke_table, vote_table, ends_table}
use Rattle.arj_protocol.proofs.NamingTable.{bind_table, note_table, confirm_table, told_table, hello_table}
use Rattle.arj_protocol.proofs.Taken.{taken_as}

module _ (h : Holders) (n x : ℕ) where
  -- ---- effects in a row

  both_server : (s t v : Server) (es fs : List Effect) → ServerTable h n x s es t → ServerTable h n x t fs v →
      ServerTable h n x s (es ++ fs) v
  both_server s t v es fs a b =
      b ∙ ap (rows_after h n part.Server (object x) fs) a ∙ sym (after_both h n part.Server (object x) es fs (server_rows x s))

  both_naming : (a b c : Option Naming) (es fs : List Effect) → NamingFollows h x a es b → NamingFollows h x b fs c →
      NamingFollows h x a (es ++ fs) c
  both_naming None None None es fs p q = tt
  both_naming (Some a) (Some b) (Some c) es fs p q =
      q ∙ ap (rows_after h 1 part.Naming (entry x) fs) p ∙ sym (after_both h 1 part.Naming (entry x) es fs (naming_rows x a))
  both_naming None (Some b) c es fs p q = absurd p
  both_naming (Some a) None c es fs p q = absurd p
  both_naming None None (Some c) es fs p q = absurd q
  both_naming (Some a) (Some b) None es fs p q = absurd q

  pub follows_on : (t v w : Parts) (es fs : List Effect) → TablesFollow h n x t es v → TablesFollow h n x v fs w →
      TablesFollow h n x t (es ++ fs) w
  follows_on t v w es fs a b = record {
    server = both_server t.server v.server w.server es fs a.server b.server;
    naming = both_naming t.naming v.naming w.naming es fs a.naming b.naming;
  }

  -- effects that say nothing of locks
  still_naming : (o : Option Naming) (es : List Effect) → ((rows : List Row) → rows_after h 1 part.Naming (entry x) es rows ≡ rows) →
      NamingFollows h x o es o
  still_naming None es quiet = tt
  still_naming (Some m) es quiet = sym (quiet (naming_rows x m))

  coord_rows : (k : ℕ) (p : Part) (o : Uid) (es : List Effect) → AreAll is_coord_effect es → (rows : List Row) →
      rows_after h k p o es rows ≡ rows
  coord_rows k p o es own rows = all_quiet h k p o is_coord_effect (coord_quiet h k p o) es own rows

  pub coord_follows : (t : Parts) (c : Coord) (es : List Effect) → AreAll is_coord_effect es → TablesFollow h n x t es (with_coord t c)
  coord_follows t c es own = record {
    server = sym (coord_rows n part.Server (object x) es own (server_rows x t.server));
    naming = still_naming t.naming es (coord_rows 1 part.Naming (entry x) es own);
  }

  same_follows : (t : Parts) → TablesFollow h n x t [] t
  same_follows t = record { server = refl; naming = still_naming t.naming [] (λ rows. refl) }

  -- ---- one message

  -- what a handler leaves; a void message has no line
  abbrev HandledFollows : Parts → Handled → Type 0
  HandledFollows t (Void outs) = (p : Part) (k : ℕ) (o : Uid) (rows : List Row) → rows_after h k p o outs rows ≡ rows
  HandledFollows t (Took v outs) = TablesFollow h n x t outs v

  -- the answer is sent behind the part's effects
  sent_follows : (from : ℕ) (hd : Head) (t v : Parts) (outs : List Effect) (r : Option Reply) → TablesFollow h n x t outs v →
      HandledFollows t (sends_answer from hd v outs r)
  sent_follows from hd t v outs None follows = λ p k o rows. refl
  sent_follows from hd t v outs (Some r) follows =
      follows_on t v v outs (Send from (response (asked_by hd) r) ∷ []) follows (record {
        server = refl;
        naming =
            still_naming v.naming (Send from (response (asked_by hd) r) ∷ []) (λ rows. refl);
      })

  server_follows : {R : Type 0} (from : ℕ) (hd : Head) (t : Parts) (say : R → Reply) (r : Served Server R) →
      ServerTable h n x t.server r.outs r.part → AreAll (is_server_effect n) r.outs → HandledFollows t (served from hd (with_server t) say r)
  server_follows from hd t say r table own = sent_follows from hd t (with_server t r.part) r.outs (option_map say r.reply) (record {
    server = table;
    naming = still_naming t.naming r.outs (all_quiet h 1 part.Naming (entry x) (is_server_effect n) (server_quiet h n x) r.outs own);
  })

  naming_follows : {R : Type 0} (from : ℕ) (hd : Head) (t : Parts) (say : R → Reply) (f : Naming → Served Naming R) (o : Option Naming) →
      t.naming ≡ o
      → ((m : Naming) → NamingTable h x m (f m).outs (f m).part) → ((m : Naming) → AreAll is_naming_effect (f m).outs) →
      HandledFollows t (if_naming (λ m. served from hd (with_naming t) say (f m)) o)
  naming_follows from hd t say f None is table own = λ p k o rows. refl
  naming_follows from hd t say f (Some m) is table own =
      let r = f m in
      sent_follows from hd t (with_naming t r.part) r.outs (option_map say r.reply) (record {
        server = sym (all_quiet h n part.Server (object x) is_naming_effect (naming_quiet h n x) r.outs (own m) (server_rows x t.server));
        naming = subst (λ o. NamingFollows h x o r.outs (Some r.part)) (sym is) (table m);
      })

  -- effects without a line
  plain_follows : (from : ℕ) (hd : Head) (t : Parts) (outs : List Effect) (r : Reply) →
      ((p : Part) (k : ℕ) (o : Uid) (rows : List Row) → rows_after h k p o outs rows ≡ rows) →
      HandledFollows t (sends_answer from hd t outs (Some r))
  plain_follows from hd t outs r quiet =
      sent_follows from hd t t outs (Some r) (record {
        server = sym (quiet part.Server n (object x) (server_rows x t.server));
        naming =
            still_naming t.naming outs (quiet part.Naming 1 (entry x));
      })

  load_follows : (y : ℕ) (d : Pair) (from : ℕ) (hd : Head) (t : Parts) (o : Option Uid) → HandledFollows t (load_by y d from hd t o)
  load_follows y d from hd t (Some holder) = plain_follows from hd t [] (Reply.Loaded (loaded.InDoubt holder)) (λ p k o rows. refl)
  load_follows y d from hd t None = by (held_at (object y) d)
    where
      by : (s : Option ObjectState) → HandledFollows t (load_held from hd t s)
      by None = λ p k o rows. refl
      by (Some s) = plain_follows from hd t (Do Look ∷ []) (Reply.Loaded (loaded.State s)) (λ p k o rows. refl)

  prepare_follows : (d : Pair) (states : List ObjectState) (from : ℕ) (hd : Head) (t : Parts) →
      HandledFollows t (prepare_states n d states from hd t)
  prepare_follows d states from hd t = by (is_prepared (actor hd.path) d) (prepare_answer (actor hd.path) states d)
    where
      new : (a : Prep) → HandledFollows t (prepare_by n states from hd t a)
      new Ready = plain_follows from hd t (Do Look ∷ Do (Prepare role.Store (actor hd.path) states) ∷ Say (body.Prepared n (actor hd.path) role.Store) ∷ []) (Reply.Prepared prepared.Yes) (λ p k o rows. refl)
      new (Already u) = λ p k o rows. refl
      new (Old u v) = plain_follows from hd t (Do Look ∷ []) (Reply.Prepared (prepared.Old u.num v)) (λ p k o rows. refl)
      new (InDoubt u holder) = plain_follows from hd t (Do Look ∷ []) (Reply.Prepared (prepared.InDoubt u.num holder)) (λ p k o rows. refl)

      by : (b : Bool) (a : Prep) →
          HandledFollows t (if b then sends_answer from hd t [] (Some (Reply.Prepared prepared.Yes)) else prepare_by n states from hd t a)
      by true a = plain_follows from hd t [] (Reply.Prepared prepared.Yes) (λ p k o rows. refl)
      by false a = new a

  serve_follows : (d : Disk) (t : Parts) (from : ℕ) (hd : Head) (a : Ask) → FitsHead h hd → AreOfActions (ends_in a) →
      HandledFollows t (serve n d t from hd a)
  serve_follows d t from hd (ask.Bind y include avoid) fit ends =
      naming_follows from hd t Reply.Bound (naming.bind hd.path y include avoid d.names) t.naming refl (λ m. bind_table h x hd.path y include avoid d.names m fit.top_is) (bind_own hd.path y include avoid d.names)
  serve_follows d t from hd (ask.Load y) fit ends = load_follows y d.store from hd t (holder_of (object y) d.store)
  serve_follows d t from hd (ask.Activate b st) fit ends =
      server_follows from hd t Reply.Activated (server.activate n hd.path b st t.server) (activate_table h n x hd.path b st t.server) (activate_own n hd.path b st t.server)
  serve_follows d t from hd (ask.Record y b i g) fit ends =
      naming_follows from hd t Reply.Noted (naming.note hd.path y b i g) t.naming refl (note_table h x hd.path y b i g) (note_own hd.path y b i g)
  serve_follows d t from hd (ask.Invoke y b i es op) fit ends =
      server_follows from hd t Reply.Invoked (server.invoke n hd y b i es op t.server) (invoke_table h n x hd y b i es op t.server fit.actor_is ends) (invoke_own n hd y b i es op t.server)
  serve_follows d t from hd (ask.Vote i ties es) fit ends =
      server_follows from hd t Reply.Voted (server.vote n hd.path i ties es t.server) (vote_table h n x hd.path i ties es t.server ends) (vote_own n hd.path i ties es t.server)
  serve_follows d t from hd (ask.Prepare states) fit ends = prepare_follows d.store states from hd t
  serve_follows d t from hd (ask.Confirm grants excluded included) fit ends =
      naming_follows from hd t Reply.Confirmed (confirm hd.path grants excluded included d.names) t.naming refl (λ m. confirm_table h x hd.path grants excluded included d.names m fit.top_is) (confirm_own hd.path grants excluded included d.names)

  -- ---- told

  store_quiet : (u : Uid) (e : End) (d : Pair) (p : Part) (k : ℕ) (o : Uid) (rows : List Row) →
      rows_after h k p o (store_told n u e d) rows ≡ rows
  store_quiet u e d p k o rows = by (is_prepared u d) e
    where
      by : (b : Bool) (e : End) → rows_after h k p o (if b then end_states n u e else []) rows ≡ rows
      by true ending.Commit = refl
      by true ending.Abort = refl
      by false e = refl

  ack_quiet : (from : ℕ) (u : Uid) (ack : Bool) (p : Part) (k : ℕ) (o : Uid) (rows : List Row) →
      rows_after h k p o (ack_told from u ack) rows ≡ rows
  ack_quiet from u true p k o rows = refl
  ack_quiet from u false p k o rows = refl

  -- the naming part's own effects in a told
  told_naming : (u : Uid) (e : End) (d : Pair) (o : Option Naming) → uid_eq nobody u ≡ false →
      NamingFollows h x o (naming_told u e d o).outs (naming_told u e d o).part
  told_naming u e d None someone = tt
  told_naming u e d (Some m) someone = told_table h x u e d m someone

  told_names : (u : Uid) (e : End) (d : Pair) (o : Option Naming) → AreAll is_naming_effect (naming_told u e d o).outs
  told_names u e d None = refl
  told_names u e d (Some m) = told_own u e d m

  told_follows : (d : Disk) (t : Parts) (from : ℕ) (ack : Bool) (ends : List (Uid × End)) (u : Uid) (e : End) → AreOfActions ends →
      uid_eq nobody u ≡ false → HandledFollows t (handle_told n d t from ack ends u e)
  told_follows d t from ack ends u e actions someone =
      let o = naming_told u e d.names t.naming in
      let s = server.told n ends t.server in
      let a = store_told n u e d.store in
      let z = ack_told from u ack in
      let names_still : (rows : List Row) → rows_after h n part.Server (object x) o.outs rows ≡ rows =
      all_quiet h n part.Server (object x) is_naming_effect (naming_quiet h n x) o.outs (told_names u e d.names t.naming) in
      let server_still : (rows : List Row) → rows_after h 1 part.Naming (entry x) s.outs rows ≡ rows =
      all_quiet h 1 part.Naming (entry x) (is_server_effect n) (server_quiet h n x) s.outs (ends_own n ends t.server) in
      record {
        server =
            both_server t.server s.part s.part (a ++ o.outs ++ s.outs) z
            (both_server t.server t.server s.part (a ++ o.outs) s.outs
            (both_server t.server t.server t.server a o.outs (sym (store_quiet u e d.store part.Server n (object x) (server_rows x t.server))) (sym (names_still (server_rows x t.server))))
            (ends_table h n x ends t.server actions))
            (sym (ack_quiet from u ack part.Server n (object x) (server_rows x s.part)));
        naming =
            both_naming t.naming o.part o.part (a ++ o.outs ++ s.outs) z
            (both_naming t.naming o.part o.part (a ++ o.outs) s.outs
            (both_naming t.naming t.naming o.part a o.outs (still_naming t.naming a (store_quiet u e d.store part.Naming 1 (entry x))) (told_naming u e d.names t.naming someone))
            (still_naming o.part s.outs server_still))
            (still_naming o.part z (ack_quiet from u ack part.Naming 1 (entry x)));
      }

  last_someone : (ends : List (Uid × End)) (e : Uid × End) → AreOfActions ends → last_end ends ≡ Some e → uid_eq nobody e.0 ≡ false
  last_someone [] e actions is = absurd (cc is)
  last_someone (f ∷ []) e actions is =
      let same : f ≡ e = cc is in
      subst (λ g. uid_eq nobody g.0 ≡ false) same actions.0
  last_someone (f ∷ g ∷ es) e actions is = last_someone (g ∷ es) e actions.1 is

  ends_follow : (d : Disk) (t : Parts) (from : ℕ) (ack : Bool) (ends : List (Uid × End)) (o : Option (Uid × End)) → last_end ends ≡ o →
      AreOfActions ends → HandledFollows t (handle_ends n d t from ack ends o)
  ends_follow d t from ack ends None is actions = same_follows t
  ends_follow d t from ack ends (Some e) is actions = told_follows d t from ack ends e.0 e.1 actions (last_someone ends e actions is)

  -- ---- the other messages

  hello_naming : (node inc : ℕ) (o : Option Naming) (es : List Effect) →
      ((rows : List Row) → rows_after h 1 part.Naming (entry x) es rows ≡ rows) → NamingFollows h x o es (naming_hello node inc o)
  hello_naming node inc None es quiet = tt
  hello_naming node inc (Some m) es quiet = hello_table h x node inc m ∙ sym (quiet (naming_rows x m))

  hello_follows : (d : Disk) (t : Parts) (node inc : ℕ) → HandledFollows t (handle_hello d t node inc)
  hello_follows d t node inc =
      let asked = filter (is_earlier node inc) (holders d t) in
      let own : AreAll is_coord_effect (map query_about asked) = map_own query_about asked (λ u. refl) in
      record {
        server = sym (coord_rows n part.Server (object x) (map query_about asked) own (server_rows x t.server));
        naming = hello_naming node inc t.naming (map query_about asked) (coord_rows 1 part.Naming (entry x) (map query_about asked) own);
      }

  heard_follows : (t : Parts) (r : Served Coord (Unit {0})) → AreAll is_coord_effect r.outs → HandledFollows t (coord_heard t r)
  heard_follows t r own = by r.reply
    where
      by : (a : Option (Unit {0})) → HandledFollows t (by_reply (with_coord t r.part) r.outs a)
      by None = λ p k o rows. refl
      by (Some a) = coord_follows t r.part r.outs own

  other_follows : (d : Disk) (t : Parts) (from : ℕ) (m : Message) → FitsOther m → HandledFollows t (handle_other n d t from m)
  other_follows d t from (message.Told m) fit = ends_follow d t from m.ack m.ends (last_end m.ends) refl fit
  other_follows d t from (message.Acked m) fit =
      heard_follows t (acked from m.act d.intents t.coord) (acked_own from m.act d.intents t.coord)
  other_follows d t from (message.Query m) fit =
      coord_follows t t.coord (answer_query from m.act d.intents t.coord) (query_own from m.act d.intents t.coord)
  other_follows d t from (message.Hello m) fit = hello_follows d t m.node m.inc
  other_follows d t from (message.Bind m) fit = λ p k o rows. refl
  other_follows d t from (message.Bound m) fit = λ p k o rows. refl
  other_follows d t from (message.Load m) fit = λ p k o rows. refl
  other_follows d t from (message.Loaded m) fit = λ p k o rows. refl
  other_follows d t from (message.Activate m) fit = λ p k o rows. refl
  other_follows d t from (message.Activated m) fit = λ p k o rows. refl
  other_follows d t from (message.RecordMsg m) fit = λ p k o rows. refl
  other_follows d t from (message.Recorded m) fit = λ p k o rows. refl
  other_follows d t from (message.Invoke m) fit = λ p k o rows. refl
  other_follows d t from (message.Invoked m) fit = λ p k o rows. refl
  other_follows d t from (message.Vote m) fit = λ p k o rows. refl
  other_follows d t from (message.Voted m) fit = λ p k o rows. refl
  other_follows d t from (message.Prepare m) fit = λ p k o rows. refl
  other_follows d t from (message.Prepared m) fit = λ p k o rows. refl
  other_follows d t from (message.Confirm m) fit = λ p k o rows. refl
  other_follows d t from (message.Confirmed m) fit = λ p k o rows. refl

  answered_follows : (d : Disk) (t : Parts) (from : ℕ) (m : Message) (a : Option (Asked × Reply)) → FitsOther m →
      HandledFollows t (handle_answer n d t from m a)
  answered_follows d t from m None fit = other_follows d t from m fit
  answered_follows d t from m (Some a) fit =
      heard_follows t (heard from a.0 a.1 d.intents t.coord) (heard_own from a.0 a.1 d.intents t.coord)

  asked_follows : (d : Disk) (t : Parts) (from : ℕ) (m : Message) (a : Option (Head × Ask)) → FitsAsked h m a →
      HandledFollows t (handle_ask n d t from m a)
  asked_follows d t from m None fit = answered_follows d t from m (answers m) fit
  asked_follows d t from m (Some a) fit = serve_follows d t from a.0 a.1 fit.0 fit.1

  pub handle_follows : (d : Disk) (t : Parts) (from : ℕ) (m : Message) → Fits h m → HandledFollows t (handle n d t from m)
  handle_follows d t from m fit = asked_follows d t from m (asks m) fit

  pub taken_follows : (d : Disk) (t : Parts) (from : ℕ) (m : Message) → Fits h m → HandledFollows t (taken n d t from m)
  taken_follows d t from m fit = taken_as (HandledFollows t) n d t from m (λ p k o rows. refl) (handle_follows d t from m fit)

  -- ---- messages to itself

  -- what goes to the node itself says nothing
  ran_rows : (p : Part) (k : ℕ) (o : Uid) (t : Parts) (es : List Effect) (d : Disk) (rows : List Row) →
      rows_after h k p o (ran n t es d).outs rows ≡ rows_after h k p o es rows
  ran_rows p k o t [] d rows = refl
  ran_rows p k o t (Say b ∷ es) d rows = ran_rows p k o t es d (rows_by h k p o b rows)
  ran_rows p k o t (Do w ∷ es) d rows = ran_rows p k o t es (worked w d) rows
  ran_rows p k o t (Send to m ∷ es) d rows = by (to == n) (ran_rows p k o t es d rows)
    where
      r : Ran
      r = ran n t es d

      by : (b : Bool) → rows_after h k p o r.outs rows ≡ rows_after h k p o es rows →
          rows_after h k p o (if b then first_queued m r else first_done (Send to m) r).outs rows ≡ rows_after h k p o es rows
      by true ih = ih
      by false ih = ih

  ran_parts : (t : Parts) (es : List Effect) (d : Disk) → (ran n t es d).here.parts ≡ t
  ran_parts t [] d = refl
  ran_parts t (Say b ∷ es) d = ran_parts t es d
  ran_parts t (Do w ∷ es) d = ran_parts t es (worked w d)
  ran_parts t (Send to m ∷ es) d = by (to == n) (ran_parts t es d)
    where
      r : Ran
      r = ran n t es d

      by : (b : Bool) → r.here.parts ≡ t → (if b then first_queued m r else first_done (Send to m) r).here.parts ≡ t
      by true ih = ih
      by false ih = ih

  like_naming : (o q : Option Naming) (es fs : List Effect) →
      ((rows : List Row) → rows_after h 1 part.Naming (entry x) fs rows ≡ rows_after h 1 part.Naming (entry x) es rows) →
      NamingFollows h x o es q → NamingFollows h x o fs q
  like_naming None None es fs same p = tt
  like_naming (Some a) (Some b) es fs same p = p ∙ sym (same (naming_rows x a))
  like_naming None (Some b) es fs same p = absurd p
  like_naming (Some a) None es fs same p = absurd p

  pub ran_follows : (t v : Parts) (es : List Effect) (d : Disk) → TablesFollow h n x t es v →
      TablesFollow h n x t (ran n v es d).outs (ran n v es d).here.parts
  ran_follows t v es d follows = subst (λ w. TablesFollow h n x t (ran n v es d).outs w) (sym (ran_parts v es d)) (record {
    server = follows.server ∙ sym (ran_rows part.Server n (object x) v es d (server_rows x t.server));
    naming = like_naming t.naming v.naming es (ran n v es d).outs (ran_rows part.Naming 1 (entry x) v es d) follows.naming;
  })

  pub void_follows : (t : Parts) (outs : List Effect) →
      ((p : Part) (k : ℕ) (o : Uid) (rows : List Row) → rows_after h k p o outs rows ≡ rows) → TablesFollow h n x t outs t
  void_follows t outs quiet =
      record {
        server = sym (quiet part.Server n (object x) (server_rows x t.server));
        naming =
            still_naming t.naming outs (quiet part.Naming 1 (entry x));
      }

  handled_ran : (e : Here) (a : Handled) → HandledFollows e.parts a →
      TablesFollow h n x e.parts (ran_handled n e a).outs (ran_handled n e a).here.parts
  handled_ran e (Void outs) follows = ran_follows e.parts e.parts outs e.disk (void_follows e.parts outs follows)
  handled_ran e (Took v outs) follows = ran_follows e.parts v outs e.disk follows

  all_follow : (ms : List Message) (e : Here) → AllByRecursion (Fits h) ms →
      TablesFollow h n x e.parts (handle_all n ms e).outs (handle_all n ms e).here.parts
  all_follow [] e fit = same_follows e.parts
  all_follow (m ∷ ms) e fit =
      let r = ran_handled n e (taken n e.disk e.parts n m) in
      let t = handle_all n ms r.here in
      follows_on e.parts r.here.parts t.here.parts r.outs t.outs (handled_ran e (taken n e.disk e.parts n m) (taken_follows e.disk e.parts n m fit.0)) (all_follow ms r.here fit.1)

  round_follows : (t : Parts) (r : Ran) → AllByRecursion (Fits h) r.queue → TablesFollow h n x t r.outs r.here.parts →
      TablesFollow h n x t (next_round n r).outs (next_round n r).here.parts
  round_follows t r fit follows =
      let q = handle_all n r.queue r.here in
      follows_on t r.here.parts q.here.parts r.outs q.outs follows (all_follow r.queue r.here fit)

  pub rounds_follow : (k : ℕ) (t : Parts) (r : Ran) → FitRounds h n k r → TablesFollow h n x t r.outs r.here.parts →
      TablesFollow h n x t (rounds n k r).outs (rounds n k r).here.parts
  rounds_follow zero t r fit follows = follows
  rounds_follow (suc k) t r fit follows = by r.queue (rounds_follow k t (next_round n r) fit.1 (round_follows t r fit.0 follows))
    where
      picked : List Message → Ran
      picked ms = elim ms [ [] ↦ r | m ∷ ms ↦ rounds n k (next_round n r) ]

      by : (ms : List Message) → TablesFollow h n x t (rounds n k (next_round n r)).outs (rounds n k (next_round n r)).here.parts →
          TablesFollow h n x t (picked ms).outs (picked ms).here.parts
      by [] more = follows
      by (m ∷ ms) more = more

  pub whole_follows : (t v : Parts) (es : List Effect) (d : Disk) → TablesFollow h n x t es v → FitRounds h n most_rounds (ran n v es d) →
      TablesFollow h n x t (whole n v es d).outs (whole n v es d).here.parts
  whole_follows t v es d follows fit = rounds_follow most_rounds t (ran n v es d) fit (ran_follows t v es d follows)
