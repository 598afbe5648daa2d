-- A message is handled: how the calls of the node's coordinator go on.
use Rattle.arj_law_parts.proofs.Words
use Words.{◌≡◌, ◌++◌, ◌||◌, ℕ, Bool, true, false, cond, List, [], ◌∷◌, filter, map, Option, Some, None, refl, sym, subst, ⊤, option_map}
use Words.{and_parts, list_all}
use Words.{Ask, Asked, End, Head, Message, ObjectState, Uid, asks, object, Reply, actor, answers, asked_by, last_end, response, heard}
use Words.{CallEnd, Coord, Disk, Do, Effect, InDoubt, Intent, Steps}
use Words.{Look, Old, Already, Prep, Prepare, Ready, Say, Send, held_at, holder_of, is_prepared, prepare_answer, acked, answer_query}
use Words.{tell, Naming, Handled, Parts, Took}
use Words.{Void, ack_told, by_reply, confirm, end_states, handle, handle_answer, handle_ask, handle_ends, handle_other, holders}
use Words.{if_naming, is_earlier, load_by, load_held}
use Words.{naming_told, prepare_by, query_about, sends_answer, serve, store_told, with_coord, with_naming, with_server, AreAll}
use Words.{is_naming_effect, is_server_effect}
use Words.{is_naming_line, is_server_line, activate_own, bind_own, confirm_own, ends_own, invoke_own, note_own, told_own, vote_own}
use Words.{at_uid, has, is_open, is_kept_commit, Body}
use Words.{root_or_self, branch_of, naming_hello}
use Words.ask
use Words.body
use Words.ending
use Words.loaded
use Words.message
use Words.prepared
use Words.role
use Words.naming
use Words.server
use Rattle.arj_law_lock_view.proofs.Terms.{Action, IsGoodCoord, IsTree, AreNumbered}
use Rattle.arj_law_lock_view.proofs.facts.Onward.{further_acked, further_heard}
use Rattle.arj_law_parts.proofs.parts.SaidIncs.{all_map}
use Rattle.arj_law_parts.specs.parts.Copies.{Paths}
use Rattle.arj_protocol.specs.Ending.{answer_decided, answer_recorded, is_deferred}
use Rattle.arj_law_lock_view.proofs.asking.Dumb.{dumb_both}
use Rattle.arj_law_lock_view.proofs.asking.Turning.{acked_turn, came_same, heard_turn, rise_of, rise_same}
use Rattle.arj_law_lock_view.proofs.asking.Tying.{giveup_dumb}
use Rattle.arj_law_lock_view.specs.asking.Turns.{AreDumb, AreGiveups, AreLined, Ends, EndsSo, IsDumb, IsHeardBy, IsHeardIn, NumbersRise}
use Rattle.arj_law_lock_view.specs.asking.Turns.{Rests, RestsSo, Turns, TurnsSo, Why, is_reply}

-- ---- lines of servers and naming

server_line : (n : ℕ) (b : Body) → is_server_line n b ≡ true → is_reply b ≡ false
server_line n (body.Ok l x o a) is = absurd (cc is)
server_line n (body.Includes l x m) is = absurd (cc is)
server_line n (body.Conflict l u h m) is = absurd (cc is)
server_line n (body.Lost l m) is = absurd (cc is)
server_line n (body.Changed l m d) is = absurd (cc is)
server_line n b is = refl

naming_line : (b : Body) → is_naming_line b ≡ true → is_reply b ≡ false
naming_line (body.Ok l x o a) is = absurd (cc is)
naming_line (body.Includes l x m) is = absurd (cc is)
naming_line (body.Conflict l u h m) is = absurd (cc is)
naming_line (body.Lost l m) is = absurd (cc is)
naming_line (body.Changed l m d) is = absurd (cc is)
naming_line b is = refl

server_dumb : (n : ℕ) (es : List Effect) → AreAll (is_server_effect n) es → AreDumb es
server_dumb n [] own = tt
server_dumb n (Say b ∷ es) own = let q = and_parts (is_server_line n b) (list_all (is_server_effect n) es) own in
    (server_line n b q.0, server_dumb n es q.1)
server_dumb n (Send to m ∷ es) own = absurd (cc own)
server_dumb n (Do w ∷ es) own = absurd (cc own)

naming_dumb : (es : List Effect) → AreAll is_naming_effect es → AreDumb es
naming_dumb [] own = tt
naming_dumb (Say b ∷ es) own = let q = and_parts (is_naming_line b) (list_all is_naming_effect es) own in
    (naming_line b q.0, naming_dumb es q.1)
naming_dumb (Send to m ∷ es) own = absurd (cc own)
naming_dumb (Do w ∷ es) own = (tt, naming_dumb es (and_parts (is_naming_effect (Do w)) (list_all is_naming_effect es) own).1)

queries_dumb : (us : List Uid) → AreDumb (map query_about us)
queries_dumb us = all_map IsDumb query_about us (λ u. tt)

-- ---- one message

-- for another reason
turns_why : (V W : Why) (c : Coord) (outs : List Effect) (e : Coord) → ((u : Uid) (s : Steps) (g : CallEnd) → V u s g → W u s g) →
    TurnsSo V c outs e →
    TurnsSo W c outs e
turns_why V W c outs e why (RestsSo dumb came) = RestsSo dumb came
turns_why V W c outs e why (EndsSo u d s g front found is lined v are after) = EndsSo u d s g front found is lined (why u s g v) are after

module _ (W : Why) (k : ℕ) (d : Disk) (t : Parts) (from : ℕ) where
  -- the coordinator goes on
  abbrev pub GoesSo : Handled → Type 0
  GoesSo (Void outs) = ⊤
  GoesSo (Took v outs) = TurnsSo W t.coord outs v.coord × NumbersRise t.coord v.coord

  -- it stays as it is
  stays : (v : Parts) (outs : List Effect) → v.coord ≡ t.coord → AreDumb outs → GoesSo (Took v outs)
  stays v outs same dumb = subst (λ (e : Coord). TurnsSo W t.coord outs e × NumbersRise t.coord e) (sym same)
      (RestsSo dumb (came_same t.coord), rise_same t.coord)

  answered : (h : Head) (v : Parts) (outs : List Effect) (o : Option Reply) → v.coord ≡ t.coord → AreDumb outs →
      GoesSo (sends_answer from h v outs o)
  answered h v outs None same dumb = tt
  answered h v outs (Some r) same dumb =
      stays v (outs ++ Send from (response (asked_by h) r) ∷ []) same
      (dumb_both outs (Send from (response (asked_by h) r) ∷ []) dumb (tt, tt))

  with_it : (f : Naming → Handled) (o : Option Naming) → ((n : Naming) → GoesSo (f n)) → GoesSo (if_naming f o)
  with_it f None each = tt
  with_it f (Some n) each = each n

  asked : (h : Head) (a : Ask) → GoesSo (serve k d t from h a)
  asked h (ask.Bind x include avoid) = with_it _ t.naming (λ n. let r = naming.bind h.path x include avoid d.names n in
      answered h (with_naming t r.part) r.outs (option_map Reply.Bound r.reply) refl
      (naming_dumb r.outs (bind_own h.path x include avoid d.names n)))
  asked h (ask.Load x) = load (holder_of (object x) d.store)
    where
      held : (s : Option ObjectState) → GoesSo (load_held from h t s)
      held None = tt
      held (Some s) = answered h t (Do Look ∷ []) (Some (Reply.Loaded (loaded.State s))) refl (tt, tt)

      load : (o : Option Uid) → GoesSo (load_by x d.store from h t o)
      load (Some u) = answered h t [] (Some (Reply.Loaded (loaded.InDoubt u))) refl tt
      load None = held (held_at (object x) d.store)
  asked h (ask.Activate b st) = let r = server.activate k h.path b st t.server in
      answered h (with_server t r.part) r.outs (option_map Reply.Activated r.reply) refl
      (server_dumb k r.outs (activate_own k h.path b st t.server))
  asked h (ask.Record x b i g) = with_it _ t.naming (λ n. let r = naming.note h.path x b i g n in
      answered h (with_naming t r.part) r.outs (option_map Reply.Noted r.reply) refl (naming_dumb r.outs (note_own h.path x b i g n)))
  asked h (ask.Invoke x b i ends o) = let r = server.invoke k h x b i ends o t.server in
      answered h (with_server t r.part) r.outs (option_map Reply.Invoked r.reply) refl
      (server_dumb k r.outs (invoke_own k h x b i ends o t.server))
  asked h (ask.Vote i ties ends) = let r = server.vote k h.path i ties ends t.server in
      answered h (with_server t r.part) r.outs (option_map Reply.Voted r.reply) refl
      (server_dumb k r.outs (vote_own k h.path i ties ends t.server))
  asked h (ask.Prepare states) = each (is_prepared (actor h.path) d.store)
    where
      new : (a : Prep) → GoesSo (prepare_by k states from h t a)
      new Ready = answered h t (Do Look ∷ Do (Prepare role.Store (actor h.path) states) ∷ Say
          (body.Prepared k (actor h.path) role.Store) ∷ [])
          (Some (Reply.Prepared prepared.Yes)) refl (tt, (tt, (refl, tt)))
      new (Already u) = tt
      new (Old u v) = answered h t (Do Look ∷ []) (Some (Reply.Prepared (prepared.Old u.num v))) refl (tt, tt)
      new (InDoubt u holder) = answered h t (Do Look ∷ []) (Some (Reply.Prepared (prepared.InDoubt u.num holder))) refl (tt, tt)

      each : (b : Bool) → GoesSo (cond b (sends_answer from h t [] (Some (Reply.Prepared prepared.Yes)))
          (prepare_by k states from h t (prepare_answer (actor h.path) states d.store)))
      each true = answered h t [] (Some (Reply.Prepared prepared.Yes)) refl tt
      each false = new (prepare_answer (actor h.path) states d.store)
  asked h (ask.Confirm grants excluded included) = with_it _ t.naming (λ n. let r = confirm h.path grants excluded included d.names n in
      answered h (with_naming t r.part) r.outs (option_map Reply.Confirmed r.reply) refl
      (naming_dumb r.outs (confirm_own h.path grants excluded included d.names n)))

  coord_goes : (c : Coord) (outs : List Effect) (r : Option (Unit {0})) → TurnsSo W t.coord outs c → NumbersRise t.coord c →
      GoesSo (by_reply (with_coord t c) outs r)
  coord_goes c outs None turn further = tt
  coord_goes c outs (Some u) turn further = (turn, further)

  ends_go : (ack : Bool) (ends : List (Uid × End)) (o : Option (Uid × End)) → GoesSo (handle_ends k d t from ack ends o)
  ends_go ack ends None = stays t [] refl tt
  ends_go ack ends (Some e) =
      let s = server.told k ends t.server in
      let o = naming_told e.0 e.1 d.names t.naming in
      stays (record {
        server = s.part;
        naming = o.part;
        coord =
            t.coord;
      }) (store_told k e.0 e.1 d.store ++ o.outs ++ s.outs ++ ack_told from e.0 ack) refl
      (dumb_both (store_told k e.0 e.1 d.store ++ o.outs ++ s.outs) (ack_told from e.0 ack)
      (dumb_both (store_told k e.0 e.1 d.store ++ o.outs) s.outs
      (dumb_both (store_told k e.0 e.1 d.store) o.outs (stored (is_prepared e.0 d.store) e.1) (named t.naming))
      (server_dumb k s.outs (ends_own k ends t.server))) (acks ack))
    where
      stored : (b : Bool) (how : End) → AreDumb (cond b (end_states k e.0 how) [])
      stored false how = tt
      stored true ending.Commit = (tt, (refl, tt))
      stored true ending.Abort = (tt, (refl, tt))

      named : (o : Option Naming) → AreDumb (let r = naming_told e.0 e.1 d.names o in r.outs)
      named None = tt
      named (Some o) = naming_dumb (naming.told e.0 e.1 d.names o).outs (told_own e.0 e.1 d.names o)

      acks : (b : Bool) → AreDumb (ack_told from e.0 b)
      acks true = (tt, tt)
      acks false = tt

  query_dumb : (u : Uid) (intents : List (Uid × Intent)) (c : Coord) → AreDumb (answer_query from u intents c)
  query_dumb u intents c = by (is_open u c.tree || is_deferred u intents from)
    where
      decided : AreDumb (answer_decided from u c)
      decided = one (is_kept_commit from u c)
        where
          one : (b : Bool) → AreDumb (cond b (tell (root_or_self u (branch_of u c.tree)) false ((u, ending.Commit) ∷ []) from ∷ [])
              (tell (root_or_self u (branch_of u c.tree)) false ((u, ending.Abort) ∷ []) from ∷ []))
          one true = (tt, tt)
          one false = (tt, tt)

      recorded : (o : Option Intent) → AreDumb (answer_recorded from u c o)
      recorded None = decided
      recorded (Some i) = one (has i.nodes from)
        where
          one : (b : Bool) → AreDumb (cond b (tell i.root true ((u, ending.Commit) ∷ []) from ∷ []) (answer_decided from u c))
          one true = (tt, tt)
          one false = decided

      by : (b : Bool) → AreDumb (cond b [] (answer_recorded from u c (at_uid u intents)))
      by true = tt
      by false = recorded (at_uid u intents)

  other_goes : (m : Message) → GoesSo (handle_other k d t from m)
  other_goes (message.Told m) = ends_go m.ack m.ends (last_end m.ends)
  other_goes (message.Acked m) = let r = acked from m.act d.intents t.coord in
      coord_goes r.part r.outs r.reply (acked_turn t.coord W from m.act d.intents)
      (rise_of t.coord r.part (further_acked t.coord from m.act d.intents))
  other_goes (message.Query m) = stays t (answer_query from m.act d.intents t.coord) refl (query_dumb m.act d.intents t.coord)
  other_goes (message.Hello m) =
      stays (record t { naming = naming_hello m.node m.inc t.naming })
      (map query_about (filter (is_earlier m.node m.inc) (holders d t))) refl
      (queries_dumb (filter (is_earlier m.node m.inc) (holders d t)))
  other_goes m = tt

  pub goes_so : (actions : List Action) (paths : Paths) → IsTree paths → IsGoodCoord actions paths t.coord → AreNumbered t.coord →
      (m : Message) → ((u : Uid) (s : Steps) (g : CallEnd) → IsHeardIn from m u s g → W u s g) → GoesSo (handle k d t from m)
  goes_so actions paths tree good numbered m why = by (asks m)
    where
      by_answer : (o : Option (Asked × Reply)) → answers m ≡ o → GoesSo (handle_answer k d t from m o)
      by_answer None is = other_goes m
      by_answer (Some a) is = let r = heard from a.0 a.1 d.intents t.coord in
          coord_goes r.part r.outs r.reply (turns_why (IsHeardBy from a.0 a.1) W t.coord r.outs r.part
          (λ u s g h. why u s g (a.0, a.1, is, h)) (heard_turn t.coord actions paths tree good from a.0 a.1 d.intents))
          (rise_of t.coord r.part (further_heard t.coord actions paths tree good numbered from a.0 a.1 d.intents))

      by : (o : Option (Head × Ask)) → GoesSo (handle_ask k d t from m o)
      by None = by_answer (answers m) refl
      by (Some a) = asked a.0 a.1

-- ---- whatever the reason

lined_all : (outs : List Effect) → AreGiveups outs → AreLined outs
lined_all [] all = tt
lined_all (Say b ∷ es) all = (giveup_dumb b all.0, lined_all es all.1)
lined_all (Send to m ∷ es) all = absurd all.0
lined_all (Do w ∷ es) all = absurd all.0

turns_plain : (W : Why) (c : Coord) (outs : List Effect) (e : Coord) → TurnsSo W c outs e → Turns c outs e
turns_plain W c outs e (RestsSo dumb came) = Rests dumb came
turns_plain W c outs e (EndsSo u d s g front found is all why are after) = Ends u d s g front found is (lined_all front all) are after

module _ (k : ℕ) (d : Disk) (t : Parts) (from : ℕ) where
  -- the coordinator goes on
  abbrev pub Goes : Handled → Type 0
  Goes (Void outs) = ⊤
  Goes (Took v outs) = Turns t.coord outs v.coord × NumbersRise t.coord v.coord

  pub handle_goes : (actions : List Action) (paths : Paths) → IsTree paths → IsGoodCoord actions paths t.coord → AreNumbered t.coord →
      (m : Message) → Goes (handle k d t from m)
  handle_goes actions paths tree good numbered m = by (handle k d t from m)
      (goes_so (IsHeardIn from m) k d t from actions paths tree good numbered m (λ u s g h. h))
    where
      by : (z : Handled) → GoesSo (IsHeardIn from m) k d t from z → Goes z
      by (Void outs) goes = tt
      by (Took v outs) goes = (turns_plain (IsHeardIn from m) t.coord outs v.coord goes.0, goes.1)
