-- A request, and what a node is told, lead to work on states alone.
use Rattle.std.proofs.Common.{◌≡◌, ◌++◌, ◌&&◌, ℕ, Bool, true, false, cond, List, [], ◌∷◌, map, filter, refl, Option, Some, None}
use Rattle.std.specs.Prelude.{is_some, option_map}
use Rattle.arj_parts.specs.Works.{is_state_effect}
use Rattle.arj_parts.proofs.StateWorks.{naming_all, server_all}
use Rattle.arj_protocol.proofs.PartSays.{activate_own, all_both, bind_own, confirm_own, ends_own, invoke_own, note_own, told_own, vote_own}
use Rattle.arj_protocol.specs.Ask.{Reply, actor, asked_by, last_end, response}
use Rattle.arj_protocol.specs.Confirm.{confirm}
use Rattle.arj_protocol.specs.Effect.{Disk, Effect, Pair, Send, Served, Prep, Ready, Already, Old, InDoubt, held_at, holder_of, is_prepared}
use Rattle.arj_protocol.specs.Effect.{prepare_answer}
use Rattle.arj_protocol.specs.Naming as naming
use Rattle.arj_protocol.specs.Naming.{Naming}
use Rattle.arj_protocol.specs.Node.{Parts, ack_told, end_states, handle_ends, handle_other, handle_told, holders, if_naming, is_earlier}
use Rattle.arj_protocol.specs.Node.{load_by, load_held, naming_told, prepare_by, prepare_states, query_about, sends_answer, serve, served}
use Rattle.arj_protocol.specs.Node.{store_told, with_naming, with_server}
use Rattle.arj_protocol.specs.Says.{AreAll}
use Rattle.arj_protocol.specs.Server as server
use Rattle.arj_protocol.specs.Server.{Server}
use Rattle.arj_protocol.specs.Words.{Uid, End, Head, ObjectState, Message, object, Ask, asks}
use Rattle.arj_protocol.specs.Words.ask
use Rattle.arj_protocol.specs.Words.message
use Rattle.arj_msg.specs.declared.message.Hello.{Hello}
use Rattle.arj_msg.specs.declared.message.Told.{Told}
use Rattle.arj_protocol.specs.Words.ending
use Rattle.arj_protocol.specs.Words.prepared
use Rattle.arj_serve.specs.Asked.{asked, asked_by as asked_of}
use Rattle.arj_serve.specs.Did.{outs_of}

module _ (from : ℕ) (h : Head) where
  answer_all : (test : Effect → Bool) → ((to : ℕ) (m : Message) → test (Send to m) ≡ true) →
      (t : Parts) (outs : List Effect) (r : Option Reply) → AreAll test outs → AreAll test (outs_of (sends_answer from h t outs r))
  answer_all test sends t outs None all = refl
  answer_all test sends t outs (Some r) all =
      all_both test outs (Send from (response (asked_by h) r) ∷ []) all (λ i. sends from (response (asked_by h) r) i && true)

  served_all : {S R : Type 0} (named : Bool) (put : S → Parts) (say : R → Reply) (r : Served S R) → AreAll (is_state_effect named) r.outs →
      AreAll (is_state_effect named) (outs_of (served from h put say r))
  served_all named put say r all = answer_all (is_state_effect named) (λ to m. refl) (put r.part) r.outs (option_map say r.reply) all

  naming_served : {R : Type 0} (put : Naming → Parts) (say : R → Reply) (f : Naming → Served Naming R) (o : Option Naming) →
      ((n : Naming) → AreAll (is_state_effect true) (f n).outs)
      → AreAll (is_state_effect (is_some o)) (outs_of (if_naming (λ n. served from h put say (f n)) o))
  naming_served put say f None all = refl
  naming_served put say f (Some n) all = served_all true put say (f n) (all n)

  load_all : (named : Bool) (x : ℕ) (d : Pair) (t : Parts) (holder : Option Uid) →
      AreAll (is_state_effect named) (outs_of (load_by x d from h t holder))
  load_all named x d t (Some holder) = refl
  load_all named x d t None = by (held_at (object x) d)
    where
      by : (s : Option ObjectState) → AreAll (is_state_effect named) (outs_of (load_held from h t s))
      by None = refl
      by (Some s) = refl

  prepare_all : (named : Bool) (n : ℕ) (d : Pair) (states : List ObjectState) (t : Parts) →
      AreAll (is_state_effect named) (outs_of (prepare_states n d states from h t))
  prepare_all named n d states t = by (is_prepared (actor h.path) d)
    where
      answer : (p : Prep) → AreAll (is_state_effect named) (outs_of (prepare_by n states from h t p))
      answer Ready = refl
      answer (Already u) = refl
      answer (Old u v) = refl
      answer (InDoubt u holder) = refl

      by : (b : Bool) →
          AreAll (is_state_effect named) (outs_of (cond b (sends_answer from h t [] (Some (Reply.Prepared prepared.Yes))) (prepare_by n states from h t (prepare_answer (actor h.path) states d))))
      by true = refl
      by false = answer (prepare_answer (actor h.path) states d)

  serve_all : (n : ℕ) (d : Disk) (t : Parts) (a : Ask) → AreAll (is_state_effect (is_some t.naming)) (outs_of (serve n d t from h a))
  serve_all n d t (ask.Bind x include avoid) =
      naming_served (with_naming t) Reply.Bound (naming.bind h.path x include avoid d.names) t.naming (λ o. naming_all (naming.bind h.path x include avoid d.names o).outs (bind_own h.path x include avoid d.names o))
  serve_all n d t (ask.Load x) = load_all (is_some t.naming) x d.store t (holder_of (object x) d.store)
  serve_all n d t (ask.Activate b st) =
      served_all (is_some t.naming) (with_server t) Reply.Activated (server.activate n h.path b st t.server) (server_all (is_some t.naming) n (server.activate n h.path b st t.server).outs (activate_own n h.path b st t.server))
  serve_all n d t (ask.Record x b i g) =
      naming_served (with_naming t) Reply.Noted (naming.note h.path x b i g) t.naming (λ o. naming_all (naming.note h.path x b i g o).outs (note_own h.path x b i g o))
  serve_all n d t (ask.Invoke x b i ends op) =
      served_all (is_some t.naming) (with_server t) Reply.Invoked (server.invoke n h x b i ends op t.server) (server_all (is_some t.naming) n (server.invoke n h x b i ends op t.server).outs (invoke_own n h x b i ends op t.server))
  serve_all n d t (ask.Vote i ties ends) =
      served_all (is_some t.naming) (with_server t) Reply.Voted (server.vote n h.path i ties ends t.server) (server_all (is_some t.naming) n (server.vote n h.path i ties ends t.server).outs (vote_own n h.path i ties ends t.server))
  serve_all n d t (ask.Prepare states) = prepare_all (is_some t.naming) n d.store states t
  serve_all n d t (ask.Confirm grants excluded included) =
      naming_served (with_naming t) Reply.Confirmed (confirm h.path grants excluded included d.names) t.naming (λ o. naming_all (confirm h.path grants excluded included d.names o).outs (confirm_own h.path grants excluded included d.names o))

-- what follows of a request
pub asked_all : (n : ℕ) (d : Disk) (t : Parts) (from : ℕ) (m : Message) →
    AreAll (is_state_effect (is_some t.naming)) (outs_of (asked n d t from m))
asked_all n d t from m = by (asks m)
  where
    by : (a : Option (Head × Ask)) → AreAll (is_state_effect (is_some t.naming)) (outs_of (asked_of n d t from a))
    by None = refl
    by (Some a) = serve_all from a.0 n d t a.1

-- what follows of a told
pub told_all : (n : ℕ) (d : Disk) (t : Parts) (from : ℕ) (ack : Bool) (ends : List (Uid × End)) (u : Uid) (e : End) →
    AreAll (is_state_effect (is_some t.naming)) (outs_of (handle_told n d t from ack ends u e))
told_all n d t from ack ends u e =
    let test = is_state_effect (is_some t.naming) in
    all_both test (store_told n u e d.store ++ (naming_told u e d.names t.naming).outs ++ (server.told n ends t.server).outs) (ack_told from u ack)
    (all_both test (store_told n u e d.store ++ (naming_told u e d.names t.naming).outs) (server.told n ends t.server).outs
    (all_both test (store_told n u e d.store) (naming_told u e d.names t.naming).outs (store (is_prepared u d.store) e) (names t.naming))
    (server_all (is_some t.naming) n (server.told n ends t.server).outs (ends_own n ends t.server)))
    (acks ack)
  where
    store : (b : Bool) (e : End) → AreAll (is_state_effect (is_some t.naming)) (cond b (end_states n u e) [])
    store false e = refl
    store true ending.Commit = refl
    store true ending.Abort = refl

    names : (o : Option Naming) → AreAll (is_state_effect (is_some o)) (naming_told u e d.names o).outs
    names None = refl
    names (Some o) = naming_all (naming.told u e d.names o).outs (told_own u e d.names o)

    acks : (b : Bool) → AreAll (is_state_effect (is_some t.naming)) (ack_told from u b)
    acks true = refl
    acks false = refl

pub told_states : (n : ℕ) (d : Disk) (t : Parts) (from : ℕ) (m : Told) →
    AreAll (is_state_effect (is_some t.naming)) (outs_of (handle_other n d t from (message.Told m)))
told_states n d t from m = by (last_end m.ends)
  where
    by : (o : Option (Uid × End)) → AreAll (is_state_effect (is_some t.naming)) (outs_of (handle_ends n d t from m.ack m.ends o))
    by None = refl
    by (Some e) = told_all n d t from m.ack m.ends e.0 e.1

pub hello_states : (n : ℕ) (d : Disk) (t : Parts) (from : ℕ) (m : Hello) →
    AreAll (is_state_effect (is_some t.naming)) (outs_of (handle_other n d t from (message.Hello m)))
hello_states n d t from m = queries_all (filter (is_earlier m.node m.inc) (holders d t))
  where
    queries_all : (us : List Uid) → AreAll (is_state_effect (is_some t.naming)) (map query_about us)
    queries_all [] = refl
    queries_all (u ∷ us) = queries_all us
