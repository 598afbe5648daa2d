-- What a handler makes of the coordinator.
use Rattle.arj_law_parts.proofs.Words
use Words.{⊤, option_map, ℕ, List, [], Bool, true, false, cond, Option, Some, None, Uid, End, Head, Asked, Ask, Message, ObjectState, asks}
use Words.{object, Reply, actor, answers, last_end, heard, confirm, Coord, Effect, Served, Disk, Prep, Ready, Already, Old, InDoubt}
use Words.{held_at, holder_of, is_prepared, prepare_answer, acked, Naming, Parts, Handled, Void, Took, sends_answer, with_server}
use Words.{with_naming, with_coord, if_naming, load_held, load_by, prepare_by, serve, handle_ends, by_reply, coord_heard, handle_other}
use Words.{handle_answer, handle_ask, handle}
use Words.ask
use Words.message
use Words.prepared
use Words.naming
use Words.server

-- the coordinator that a handler leaves
abbrev pub IsLeft : (Coord → Type 0) → Handled → Type 0
IsLeft P (Void outs) = ⊤
IsLeft P (Took v outs) = P v.coord

module _ (P : Coord → Type 0) (n : ℕ) (d : Disk) (t : Parts) (from : ℕ) (same : P t.coord) (hears : (a : Asked) (r : Reply) →
    P (heard from a r d.intents t.coord).part) (acks : (u : Uid) → P (acked from u d.intents t.coord).part) where
  answered : (h : Head) (v : Parts) (outs : List Effect) (o : Option Reply) → P v.coord → IsLeft P (sends_answer from h v outs o)
  answered h v outs None so = tt
  answered h v outs (Some r) so = so

  named : (f : Naming → Handled) (o : Option Naming) → ((m : Naming) → IsLeft P (f m)) → IsLeft P (if_naming f o)
  named f None each = tt
  named f (Some m) each = each m

  asked : (h : Head) (a : Ask) → IsLeft P (serve n d t from h a)
  asked h (ask.Bind x include avoid) = named _ t.naming (λ m. let r = naming.bind h.path x include avoid d.names m in
      answered h (with_naming t r.part) r.outs (option_map Reply.Bound r.reply) same)
  asked h (ask.Load x) = load (holder_of (object x) d.store)
    where
      held : (s : Option ObjectState) → IsLeft P (load_held from h t s)
      held None = tt
      held (Some s) = same

      load : (o : Option Uid) → IsLeft P (load_by x d.store from h t o)
      load (Some u) = same
      load None = held (held_at (object x) d.store)
  asked h (ask.Activate b st) = let r = server.activate n h.path b st t.server in
      answered h (with_server t r.part) r.outs (option_map Reply.Activated r.reply) same
  asked h (ask.Record x b i g) = named _ t.naming (λ m. let r = naming.note h.path x b i g m in
      answered h (with_naming t r.part) r.outs (option_map Reply.Noted r.reply) same)
  asked h (ask.Invoke x b i ends o) = let r = server.invoke n h x b i ends o t.server in
      answered h (with_server t r.part) r.outs (option_map Reply.Invoked r.reply) same
  asked h (ask.Vote i ties ends) = let r = server.vote n h.path i ties ends t.server in
      answered h (with_server t r.part) r.outs (option_map Reply.Voted r.reply) same
  asked h (ask.Prepare states) = by (is_prepared (actor h.path) d.store)
    where
      new : (a : Prep) → IsLeft P (prepare_by n states from h t a)
      new Ready = same
      new (Already u) = tt
      new (Old u v) = same
      new (InDoubt u holder) = same

      by : (b : Bool) → IsLeft P (cond b (sends_answer from h t [] (Some (Reply.Prepared prepared.Yes)))
          (prepare_by n states from h t (prepare_answer (actor h.path) states d.store)))
      by true = same
      by false = new (prepare_answer (actor h.path) states d.store)
  asked h (ask.Confirm grants excluded included) = named _ t.naming (λ m. let r = confirm h.path grants excluded included d.names m in
      answered h (with_naming t r.part) r.outs (option_map Reply.Confirmed r.reply) same)

  coord_left : (r : Served Coord (Unit {0})) → P r.part → IsLeft P (coord_heard t r)
  coord_left r so = by r.reply
    where
      by : (o : Option (Unit {0})) → IsLeft P (by_reply (with_coord t r.part) r.outs o)
      by None = tt
      by (Some u) = so

  ends_left : (ack : Bool) (ends : List (Uid × End)) (o : Option (Uid × End)) → IsLeft P (handle_ends n d t from ack ends o)
  ends_left ack ends None = same
  ends_left ack ends (Some e) = same

  other : (m : Message) → IsLeft P (handle_other n d t from m)
  other (message.Told m) = ends_left m.ack m.ends (last_end m.ends)
  other (message.Acked m) = coord_left (acked from m.act d.intents t.coord) (acks m.act)
  other (message.Query m) = same
  other (message.Hello m) = same
  other (message.Bind m) = tt
  other (message.Bound m) = tt
  other (message.Load m) = tt
  other (message.Loaded m) = tt
  other (message.Activate m) = tt
  other (message.Activated m) = tt
  other (message.RecordMsg m) = tt
  other (message.Recorded m) = tt
  other (message.Invoke m) = tt
  other (message.Invoked m) = tt
  other (message.Vote m) = tt
  other (message.Voted m) = tt
  other (message.Prepare m) = tt
  other (message.Prepared m) = tt
  other (message.Confirm m) = tt
  other (message.Confirmed m) = tt

  -- what the coordinator keeps as it hears and is acknowledged, it keeps at each message
  pub coord_kept : (m : Message) → IsLeft P (handle n d t from m)
  coord_kept m = by (asks m)
    where
      answer : (o : Option (Asked × Reply)) → IsLeft P (handle_answer n d t from m o)
      answer None = other m
      answer (Some a) = coord_left (heard from a.0 a.1 d.intents t.coord) (hears a.0 a.1)

      by : (o : Option (Head × Ask)) → IsLeft P (handle_ask n d t from m o)
      by None = answer (answers m)
      by (Some a) = asked a.0 a.1
