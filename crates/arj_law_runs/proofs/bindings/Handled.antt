-- What a node makes of a message weighs no more than the message: one for a Bind, else nothing.
use Rattle.arj_law_parts.proofs.Words
use Words.{◌≡◌, ◌≤◌, ◌+◌, ℕ, Bool, true, false, cond, List, [], ◌∷◌, ◌++◌, filter, Option, Some, None, refl, ap, arith, option_map, Uid}
use Words.{Ask, Asked, End, Head, Message, ObjectState, asks, object, Reply, actor, answers, asked_by, last_end, response, heard, confirm}
use Words.{Already, Disk, Effect, InDoubt, Old, Pair, Prep, Ready, Send, Served, held_at, holder_of, is_prepared, prepare_answer, acked}
use Words.{Naming, Handled, Parts, Took, Void, ack_told, by_reply, end_states, handle, handle_answer, handle_ask, handle_ends, handle_other}
use Words.{handle_told, holders, if_naming, is_earlier, is_meant, load_by, load_held, naming_told, prepare_by, prepare_states, query_about}
use Words.{sends_answer, serve, served, store_told, taken, with_coord, with_naming, with_server, AreAll, is_server_effect, is_server_line}
use Words.{activate_own, ends_own, invoke_own, vote_own}
use Words.ask
use Words.ending
use Words.loaded
use Words.message
use Words.prepared
use Words.naming
use Words.server
use Rattle.arj_law_runs.proofs.bindings
use bindings.CoordBinds.{acked_light, heard_light, query_light}
use bindings.NamingLight.{bind_one, confirm_light, note_light, told_light}
use bindings.Weights.{AllLight, IsLight, bind_by, binds, class_light, every_both, every_map, light_weighs, unsent, weigh, weigh_both}
use bindings.Weights.{weighs_less}
use Rattle.arj_law_runs.proofs.calls.WorldSteps.{no_request}

abbrev pub outs_of : Handled → List Effect
outs_of (Void outs) = outs
outs_of (Took t outs) = outs

server_light : (n : ℕ) (outs : List Effect) → AreAll (is_server_effect n) outs → AllLight outs
server_light n outs own = class_light (is_server_effect n) (is_server_line n) (λ b. refl) (λ x b s. refl) outs own
    (unsent (is_server_effect n) (λ to m. refl) outs own)

answer_light : (from : ℕ) (h : Head) (r : Reply) → AllLight (Send from (response (asked_by h) r) ∷ [])
answer_light from h r = (ap bind_by (no_request (asked_by h) r), tt)

module _ (from : ℕ) (h : Head) where
  sent_light : (t : Parts) (outs : List Effect) (r : Option Reply) → AllLight outs → AllLight (outs_of (sends_answer from h t outs r))
  sent_light t outs None light = tt
  sent_light t outs (Some r) light = every_both IsLight outs (Send from (response (asked_by h) r) ∷ []) light (answer_light from h r)

  served_light : {S R : Type 0} (put : S → Parts) (say : R → Reply) (r : Served S R) → AllLight r.outs →
      AllLight (outs_of (served from h put say r))
  served_light put say r light = sent_light (put r.part) r.outs (option_map say r.reply) light

  naming_light : {R : Type 0} (put : Naming → Parts) (say : R → Reply) (f : Naming → Served Naming R) (o : Option Naming) →
      ((n : Naming) → AllLight (f n).outs) → AllLight (outs_of (if_naming (λ n. served from h put say (f n)) o))
  naming_light put say f None each = tt
  naming_light put say f (Some n) each = served_light put say (f n) (each n)

  load_light : (x : ℕ) (d : Pair) (t : Parts) (holder : Option Uid) → AllLight (outs_of (load_by x d from h t holder))
  load_light x d t (Some holder) = answer_light from h (Reply.Loaded (loaded.InDoubt holder))
  load_light x d t None = by (held_at (object x) d)
    where
      by : (s : Option ObjectState) → AllLight (outs_of (load_held from h t s))
      by None = (tt, tt)
      by (Some s) = (tt, answer_light from h (Reply.Loaded (loaded.State s)))

  prepare_light : (n : ℕ) (d : Pair) (states : List ObjectState) (t : Parts) → AllLight (outs_of (prepare_states n d states from h t))
  prepare_light n d states t = by (is_prepared (actor h.path) d)
    where
      answer : (p : Prep) → AllLight (outs_of (prepare_by n states from h t p))
      answer Ready = (tt, (tt, (refl, answer_light from h (Reply.Prepared prepared.Yes))))
      answer (Already u) = (tt, tt)
      answer (Old u v) = (tt, answer_light from h (Reply.Prepared (prepared.Old u.num v)))
      answer (InDoubt u holder) = (tt, answer_light from h (Reply.Prepared (prepared.InDoubt u.num holder)))

      by : (b : Bool) → AllLight (outs_of (cond b (sends_answer from h t [] (Some (Reply.Prepared prepared.Yes)))
          (prepare_by n states from h t (prepare_answer (actor h.path) states d))))
      by true = answer_light from h (Reply.Prepared prepared.Yes)
      by false = answer (prepare_answer (actor h.path) states d)

  -- a Bind's answer, with one binding at most
  bound_one : (n : ℕ) (t : Parts) (outs : List Effect) (r : Option Reply) → weigh n outs ≤ 1 →
      weigh n (outs_of (sends_answer from h t outs r)) ≤ 1
  bound_one n t outs None one = omega arith
  bound_one n t outs (Some r) one = less (weigh n (outs ++ Send from (response (asked_by h) r) ∷ [])) (weigh n outs)
      (weigh n (Send from (response (asked_by h) r) ∷ [])) (weigh_both n outs (Send from (response (asked_by h) r) ∷ [])) one
      (light_weighs n (Send from (response (asked_by h) r) ∷ []) (answer_light from h r))
    where
      less : (a b c : ℕ) → a ≡ b + c → b ≤ 1 → c ≡ 0 → a ≤ 1
      less a b c is one none = omega (arith, is, one, none)

  serve_weigh : (n : ℕ) (d : Disk) (t : Parts) (a : Ask) → weigh n (outs_of (serve n d t from h a)) ≤ bind_by (Some (h, a))
  serve_weigh n d t (ask.Bind x include avoid) = by t.naming
    where
      by : (o : Option Naming) → weigh n
          (outs_of (if_naming (λ q. served from h (with_naming t) Reply.Bound (naming.bind h.path x include avoid d.names q)) o)) ≤ 1
      by None = omega arith
      by (Some q) = let r = naming.bind h.path x include avoid d.names q in
          bound_one n (with_naming t r.part) r.outs (option_map Reply.Bound r.reply) (bind_one n h.path x include avoid d.names q)
  serve_weigh n d t (ask.Load x) =
      weighs_less n 0 (outs_of (serve n d t from h (ask.Load x))) (load_light x d.store t (holder_of (object x) d.store))
  serve_weigh n d t (ask.Activate b st) =
      weighs_less n 0 (outs_of (serve n d t from h (ask.Activate b st))) (served_light (with_server t) Reply.Activated (server.activate n
      h.path b st t.server) (server_light n (server.activate n h.path b st t.server).outs (activate_own n h.path b st t.server)))
  serve_weigh n d t (ask.Record x b i g) = weighs_less n 0 (outs_of (serve n d t from h (ask.Record x b i g)))
      (naming_light (with_naming t) Reply.Noted (naming.note h.path x b i g) t.naming (note_light h.path x b i g))
  serve_weigh n d t (ask.Invoke x b i ends op) =
      weighs_less n 0 (outs_of (serve n d t from h (ask.Invoke x b i ends op))) (served_light (with_server t) Reply.Invoked (server.invoke n
      h x b i ends op t.server) (server_light n (server.invoke n h x b i ends op t.server).outs (invoke_own n h x b i ends op t.server)))
  serve_weigh n d t (ask.Vote i ties ends) =
      weighs_less n 0 (outs_of (serve n d t from h (ask.Vote i ties ends))) (served_light (with_server t) Reply.Voted (server.vote n h.path
      i ties ends t.server) (server_light n (server.vote n h.path i ties ends t.server).outs (vote_own n h.path i ties ends t.server)))
  serve_weigh n d t (ask.Prepare states) =
      weighs_less n 0 (outs_of (serve n d t from h (ask.Prepare states))) (prepare_light n d.store states t)
  serve_weigh n d t (ask.Confirm grants excluded included) =
      weighs_less n 0 (outs_of (serve n d t from h (ask.Confirm grants excluded included))) (naming_light (with_naming t) Reply.Confirmed
      (confirm h.path grants excluded included d.names) t.naming (confirm_light h.path grants excluded included d.names))

told_handled : (n : ℕ) (d : Disk) (t : Parts) (from : ℕ) (ack : Bool) (ends : List (Uid × End)) (u : Uid) (e : End) →
    AllLight (outs_of (handle_told n d t from ack ends u e))
told_handled n d t from ack ends u e =
    every_both IsLight (store_told n u e d.store ++ (naming_told u e d.names t.naming).outs ++ (server.told n ends t.server).outs)
    (ack_told from u ack)
    (every_both IsLight (store_told n u e d.store ++ (naming_told u e d.names t.naming).outs) (server.told n ends t.server).outs
    (every_both IsLight (store_told n u e d.store) (naming_told u e d.names t.naming).outs (store (is_prepared u d.store) e)
    (names t.naming))
    (server_light n (server.told n ends t.server).outs (ends_own n ends t.server)))
    (acks ack)
  where
    store : (b : Bool) (e : End) → AllLight (cond b (end_states n u e) [])
    store false e = tt
    store true ending.Commit = (tt, (refl, tt))
    store true ending.Abort = (tt, (refl, tt))

    names : (o : Option Naming) → AllLight (naming_told u e d.names o).outs
    names None = tt
    names (Some o) = told_light u e d.names o

    acks : (b : Bool) → AllLight (ack_told from u b)
    acks true = (refl, tt)
    acks false = tt

reply_light : (t : Parts) (outs : List Effect) (r : Option (Unit {0})) → AllLight outs → AllLight (outs_of (by_reply t outs r))
reply_light t outs None light = tt
reply_light t outs (Some u) light = light

other_light : (n : ℕ) (d : Disk) (t : Parts) (from : ℕ) (m : Message) → AllLight (outs_of (handle_other n d t from m))
other_light n d t from (message.Told m) = by (last_end m.ends)
  where
    by : (o : Option (Uid × End)) → AllLight (outs_of (handle_ends n d t from m.ack m.ends o))
    by None = tt
    by (Some e) = told_handled n d t from m.ack m.ends e.0 e.1
other_light n d t from (message.Acked m) = reply_light (with_coord t (acked from m.act d.intents t.coord).part)
    (acked from m.act d.intents t.coord).outs (acked from m.act d.intents t.coord).reply (acked_light from m.act d.intents t.coord)
other_light n d t from (message.Query m) = query_light from m.act d.intents t.coord
other_light n d t from (message.Hello m) = every_map IsLight query_about (filter (is_earlier m.node m.inc) (holders d t)) (λ u. refl)
other_light n d t from (message.Bind m) = tt
other_light n d t from (message.Bound m) = tt
other_light n d t from (message.Load m) = tt
other_light n d t from (message.Loaded m) = tt
other_light n d t from (message.Activate m) = tt
other_light n d t from (message.Activated m) = tt
other_light n d t from (message.RecordMsg m) = tt
other_light n d t from (message.Recorded m) = tt
other_light n d t from (message.Invoke m) = tt
other_light n d t from (message.Invoked m) = tt
other_light n d t from (message.Vote m) = tt
other_light n d t from (message.Voted m) = tt
other_light n d t from (message.Prepare m) = tt
other_light n d t from (message.Prepared m) = tt
other_light n d t from (message.Confirm m) = tt
other_light n d t from (message.Confirmed m) = tt

pub taken_weigh : (n : ℕ) (d : Disk) (t : Parts) (from : ℕ) (m : Message) → weigh n (outs_of (taken n d t from m)) ≤ binds m
taken_weigh n d t from m = by (is_meant t m)
  where
    answered : (a : Option (Asked × Reply)) → AllLight (outs_of (handle_answer n d t from m a))
    answered None = other_light n d t from m
    answered (Some a) = reply_light (with_coord t (heard from a.0 a.1 d.intents t.coord).part) (heard from a.0 a.1 d.intents t.coord).outs
        (heard from a.0 a.1 d.intents t.coord).reply (heard_light from a.0 a.1 d.intents t.coord)

    asked : (a : Option (Head × Ask)) → weigh n (outs_of (handle_ask n d t from m a)) ≤ bind_by a
    asked None = weighs_less n 0 (outs_of (handle_answer n d t from m (answers m))) (answered (answers m))
    asked (Some a) = serve_weigh from a.0 n d t a.1

    none : (k : ℕ) → 0 ≤ k
    none k = omega arith

    by : (b : Bool) → weigh n (outs_of (cond b (handle n d t from m) (Void []))) ≤ binds m
    by true = asked (asks m)
    by false = none (binds m)
