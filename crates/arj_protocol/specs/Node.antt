-- One node: its disk, and while it is up its parts. How a message is handled, with all messages that the node sends to
-- itself by that.
use Rattle.arj_protocol.specs.Words.ask
use Rattle.std.specs.Prelude.{ℕ, zero, suc, Bool, true, not, ◌&&◌, ◌==◌, nat_lt, nat_le, if◌then◌else◌, List, [], ◌∷◌, ◌++◌, map, filter}
use Rattle.std.specs.Prelude.{Option, Some, None, option_map}
use Rattle.arj_journal.specs.declared.limits.TheConstants.{OBJECTS}
use Rattle.arj_protocol.specs.Words.{Uid, Head, Asked, End, ObjectState, Op, own_class, has_op, uid_eq, Message, object, Ask, asks}
use Rattle.arj_protocol.specs.Words.ending
use Rattle.arj_protocol.specs.Words.body
use Rattle.arj_protocol.specs.Words.role
use Rattle.arj_protocol.specs.Words.message
use Rattle.arj_protocol.specs.Words.loaded
use Rattle.arj_protocol.specs.Words.prepared
use Rattle.arj_protocol.specs.Order.{uid_set, at_number, has}
use Rattle.arj_protocol.specs.Copy.{Copy}
use Rattle.arj_protocol.specs.Effect.{Effect, Say, Send, Do, Look, Prepare, Commit, Abort, worked, Disk, Pair, Served, Did, did_nothing}
use Rattle.arj_protocol.specs.Effect.{held_at, holder_of, is_prepared, names_object, Prep, Ready, Already, Old, InDoubt, prepare_answer}
use Rattle.arj_protocol.specs.Ask.{Reply, answers, response, asked_by, actor, last_end}
use Rattle.arj_protocol.specs.Server as server
use Rattle.arj_protocol.specs.Server.{Server, server_holders}
use Rattle.arj_protocol.specs.Naming as naming
use Rattle.arj_protocol.specs.Naming.{Naming, naming_holders}
use Rattle.arj_protocol.specs.Confirm.{confirm}
use Rattle.arj_protocol.specs.Coord.{Coord, Doing, Now, Calling, doing_of}
use Rattle.arj_protocol.specs.Asking.{heard}
use Rattle.arj_protocol.specs.Ending.{acked, answer_query}

-- what a node that is up has in memory; the naming part is at node 1 alone
pub record Parts : Type 0 where
  pub server : Server
  pub naming : Option Naming
  pub coord : Coord

-- A void message changes nothing and sends nothing, but its test may have read the disk.
pub data Handled : Type 0 where
  Void : List Effect → Handled
  Took : Parts → List Effect → Handled

-- ---- requests

-- The part is put back, and the answer goes to who asked. Without an answer the message is void; a part that gives none has
-- no effects.
abbrev pub sends_answer : ℕ → Head → Parts → List Effect → Option Reply → Handled
sends_answer from h t outs None = Void []
sends_answer from h t outs (Some r) = Took t (outs ++ Send from (response (asked_by h) r) ∷ [])

-- a part's call for a request, as what the node makes of the message
abbrev pub served : {S R : Type 0} → ℕ → Head → (S → Parts) → (R → Reply) → Served S R → Handled
served from h put say r = sends_answer from h (put r.part) r.outs (option_map say r.reply)

-- the server part is this now
abbrev pub with_server : Parts → Server → Parts
with_server t s = record t { server = s }

-- the naming part is this now
abbrev pub with_naming : Parts → Naming → Parts
with_naming t n = record t { naming = Some n }

-- the coordinator is this now
abbrev pub with_coord : Parts → Coord → Parts
with_coord t c = record t { coord = c }

-- a request to naming is void at any other node
abbrev pub if_naming : (Naming → Handled) → Option Naming → Handled
if_naming f None = Void []
if_naming f (Some n) = f n

-- a committed state is read, where no action has prepared the object
abbrev pub load_held : ℕ → Head → Parts → Option ObjectState → Handled
load_held from h t None = Void (Do Look ∷ [])
load_held from h t (Some s) = sends_answer from h t (Do Look ∷ []) (Some (Reply.Loaded (loaded.State s)))

-- a Load is answered by the holder that is in doubt, or by the committed state
abbrev pub load_by : ℕ → Pair → ℕ → Head → Parts → Option Uid → Handled
load_by x d from h t (Some holder) = sends_answer from h t [] (Some (Reply.Loaded (loaded.InDoubt holder)))
load_by x d from h t None = load_held from h t (held_at (object x) d)

-- a store prepares states
abbrev pub prepare_by : ℕ → List ObjectState → ℕ → Head → Parts → Prep → Handled
prepare_by n states from h t Ready =
    sends_answer from h t (Do Look ∷ Do (Prepare role.Store (actor h.path) states) ∷ Say (body.Prepared n (actor h.path) role.Store) ∷ []) (Some (Reply.Prepared prepared.Yes))
prepare_by n states from h t (Already u) = Void (Do Look ∷ [])
prepare_by n states from h t (Old u v) = sends_answer from h t (Do Look ∷ []) (Some (Reply.Prepared (prepared.Old u.num v)))
prepare_by n states from h t (InDoubt u holder) =
    sends_answer from h t (Do Look ∷ []) (Some (Reply.Prepared (prepared.InDoubt u.num holder)))

-- what is prepared already is answered Yes again
abbrev pub prepare_states : ℕ → Pair → List ObjectState → ℕ → Head → Parts → Handled
prepare_states n d states from h t =
    if is_prepared (actor h.path) d then sends_answer from h t [] (Some (Reply.Prepared prepared.Yes))
    else prepare_by n states from h t (prepare_answer (actor h.path) states d)

-- a request by its kind
abbrev pub serve : ℕ → Disk → Parts → ℕ → Head → Ask → Handled
serve n d t from h (ask.Bind x include avoid) =
    if_naming (λ o. served from h (with_naming t) Reply.Bound (naming.bind h.path x include avoid d.names o)) t.naming
serve n d t from h (ask.Load x) = load_by x d.store from h t (holder_of (object x) d.store)
serve n d t from h (ask.Activate b st) = served from h (with_server t) Reply.Activated (server.activate n h.path b st t.server)
serve n d t from h (ask.Record x b i g) = if_naming (λ o. served from h (with_naming t) Reply.Noted (naming.note h.path x b i g o)) t.naming
serve n d t from h (ask.Invoke x b i ends op) = served from h (with_server t) Reply.Invoked (server.invoke n h x b i ends op t.server)
serve n d t from h (ask.Vote i ties ends) = served from h (with_server t) Reply.Voted (server.vote n h.path i ties ends t.server)
serve n d t from h (ask.Prepare states) = prepare_states n d.store states from h t
serve n d t from h (ask.Confirm grants excluded included) =
    if_naming (λ o. served from h (with_naming t) Reply.Confirmed (confirm h.path grants excluded included d.names o)) t.naming

-- ---- told

-- what a store has prepared of an action ends
abbrev pub end_states : ℕ → Uid → End → List Effect
end_states n u ending.Commit = Do (Commit role.Store u) ∷ Say (body.Done n u role.Store ending.Commit) ∷ []
end_states n u ending.Abort = Do (Abort role.Store u) ∷ Say (body.Done n u role.Store ending.Abort) ∷ []

-- a store ends what it has prepared of the action, if anything
abbrev pub store_told : ℕ → Uid → End → Pair → List Effect
store_told n u e d = if is_prepared u d then end_states n u e else []

-- naming takes the end of an action, at node 1
abbrev pub naming_told : Uid → End → Pair → Option Naming → Did (Option Naming)
naming_told u e d None = did_nothing None
naming_told u e d (Some n) = let t = naming.told u e d n in record { part = Some t.part; outs = t.outs }

-- the acknowledgement, where it is asked for
abbrev pub ack_told : ℕ → Uid → Bool → List Effect
ack_told from u ack = if ack then Send from (message.Acked (record { act = u })) ∷ [] else []

-- the store, naming, the server, and the acknowledgement
abbrev pub handle_told : ℕ → Disk → Parts → ℕ → Bool → List (Uid × End) → Uid → End → Handled
handle_told n d t from ack ends u e =
    let o = naming_told u e d.names t.naming in
    let s = server.told n ends t.server in
    Took (record {
      server = s.part;
      naming = o.part;
      coord =
          t.coord;
    }) (store_told n u e d.store ++ o.outs ++ s.outs ++ ack_told from u ack)

-- of a list of ends the store and naming act on the last one
abbrev pub handle_ends : ℕ → Disk → Parts → ℕ → Bool → List (Uid × End) → Option (Uid × End) → Handled
handle_ends n d t from ack ends None = Took t []
handle_ends n d t from ack ends (Some e) = handle_told n d t from ack ends e.0 e.1

-- ---- who is asked about

-- the actions that have something prepared in this pair
abbrev pub prepared_actions : Pair → List Uid
prepared_actions d = map (λ (p : Uid × List ObjectState). p.0) d.pend

-- the actions that hold locks at naming, at node 1
abbrev pub locks_of : Option Naming → List Uid
locks_of None = []
locks_of (Some n) = naming_holders n

-- the actions that hold a lock of server or naming, or are prepared, in increasing order; for a nested one its top
abbrev pub holders : Disk → Parts → List Uid
holders d t = uid_set (server_holders t.server ++ locks_of t.naming ++ prepared_actions d.store ++ prepared_actions d.names)

-- the question to the node of the action how it ended
abbrev pub query_about : Uid → Effect
query_about u = Send u.node (message.Query (record { act = u }))

-- an action of an earlier incarnation of the node
abbrev pub is_earlier : ℕ → ℕ → Uid → Bool
is_earlier node inc u = (u.node == node) && nat_lt u.inc inc

-- naming hears that the node is up again, at node 1
abbrev pub naming_hello : ℕ → ℕ → Option Naming → Option Naming
naming_hello node inc None = None
naming_hello node inc (Some n) = Some (naming.hello node inc n)

-- a node is up again: its earlier actions are asked about, and naming drops its live bindings
abbrev pub handle_hello : Disk → Parts → ℕ → ℕ → Handled
handle_hello d t node inc =
    Took (record t { naming = naming_hello node inc t.naming }) (map query_about (filter (is_earlier node inc) (holders d t)))

-- ---- one message

-- without a reply it is void
abbrev pub by_reply : Parts → List Effect → Option (Unit {0}) → Handled
by_reply t outs None = Void []
by_reply t outs (Some u) = Took t outs

-- what the coordinator made of a message, void or not
abbrev pub coord_heard : Parts → Served Coord (Unit {0}) → Handled
coord_heard t r = by_reply (with_coord t r.part) r.outs r.reply

-- messages that are neither requests nor answers
abbrev pub handle_other : ℕ → Disk → Parts → ℕ → Message → Handled
handle_other n d t from (message.Told m) = handle_ends n d t from m.ack m.ends (last_end m.ends)
handle_other n d t from (message.Acked m) = coord_heard t (acked from m.act d.intents t.coord)
handle_other n d t from (message.Query m) = Took t (answer_query from m.act d.intents t.coord)
handle_other n d t from (message.Hello m) = handle_hello d t m.node m.inc
handle_other n d t from m = Void []

-- an answer goes to the coordinator
abbrev pub handle_answer : ℕ → Disk → Parts → ℕ → Message → Option (Asked × Reply) → Handled
handle_answer n d t from m None = handle_other n d t from m
handle_answer n d t from m (Some a) = coord_heard t (heard from a.0 a.1 d.intents t.coord)

-- a request is served
abbrev pub handle_ask : ℕ → Disk → Parts → ℕ → Message → Option (Head × Ask) → Handled
handle_ask n d t from m None = handle_answer n d t from m (answers m)
handle_ask n d t from m (Some a) = serve n d t from a.0 a.1

-- what a node makes of a message, whatever it says
abbrev pub handle : ℕ → Disk → Parts → ℕ → Message → Handled
handle n d t from m = handle_ask n d t from m (asks m)

-- ---- what can be meant

-- the Uid is that of an object
abbrev pub is_object : Uid → Bool
is_object u = uid_eq u (object u.num) && (nat_le 1 u.num && nat_le u.num OBJECTS)

-- the states are of objects, each of another one
abbrev pub are_of_objects : List ObjectState → Bool
are_of_objects [] = true
are_of_objects (s ∷ ss) = is_object s.uid && (not (names_object s.uid ss) && are_of_objects ss)

-- no number stands twice
abbrev pub stand_once : List ℕ → Bool
stand_once [] = true
stand_once (x ∷ xs) = not (has xs x) && stand_once xs

-- an object of the active copy's own class has the operation, where there is a copy
abbrev pub copy_has_op : Op → Option Copy → Bool
copy_has_op o None = true
copy_has_op o (Some c) = has_op (own_class c.base.value) o

-- a request: its states are of objects, an operation is one of the object's class, and no object is confirmed twice
abbrev pub ask_is_meant : Server → Ask → Bool
ask_is_meant s (ask.Activate b st) = is_object st.uid
ask_is_meant s (ask.Invoke x b i ends op) = copy_has_op op (at_number x s.objects)
ask_is_meant s (ask.Prepare states) = are_of_objects states
ask_is_meant s (ask.Confirm grants excluded included) = stand_once (map (λ (g : ℕ × ℕ). g.0) grants)
ask_is_meant s _ = true

-- a state that a call waits for is of its object
abbrev pub is_loaded_in : ObjectState → Now → Bool
is_loaded_in st (Calling s) = uid_eq st.uid (object s.x)
is_loaded_in st _ = true

-- an action whose doing is known takes the state as that of its object
abbrev pub is_loaded_for : ObjectState → Option Doing → Bool
is_loaded_for st None = true
is_loaded_for st (Some d) = is_loaded_in st d.now

-- an answer can be meant: a loaded state is of the object for which it waits
abbrev pub reply_is_meant : Coord → Asked → Reply → Bool
reply_is_meant c a (Reply.Loaded (loaded.State st)) = is_loaded_for st (doing_of a.act c)
reply_is_meant c a _ = true

-- a request can be meant, and what is no request too
abbrev pub asked_is_meant : Server → Option (Head × Ask) → Bool
asked_is_meant s None = true
asked_is_meant s (Some a) = ask_is_meant s a.1

-- an answer can be meant, and what is no answer too
abbrev pub answer_is_meant : Coord → Option (Asked × Reply) → Bool
answer_is_meant c None = true
answer_is_meant c (Some a) = reply_is_meant c a.0 a.1

-- what a message says can be meant
abbrev pub is_meant : Parts → Message → Bool
is_meant t m = asked_is_meant t.server (asks m) && answer_is_meant t.coord (answers m)

-- What can't be meant is void, so that a node has an answer to every message.
abbrev pub taken : ℕ → Disk → Parts → ℕ → Message → Handled
taken n d t from m = if is_meant t m then handle n d t from m else Void []

-- ---- messages to itself

-- a node within a step
pub record Here : Type 0 where
  pub disk : Disk
  pub parts : Parts

-- what was done so far, and the messages to itself that wait, first sent first
pub record Ran : Type 0 where
  pub here : Here
  pub outs : List Effect
  pub queue : List Message

-- the effect was done before
abbrev pub first_done : Effect → Ran → Ran
first_done e r = record r { outs = e ∷ r.outs }

-- the message waits before the others
abbrev pub first_queued : Message → Ran → Ran
first_queued m r = record r { queue = m ∷ r.queue }

-- A handler's effects: work is done on the disk, and what goes to the node itself waits.
abbrev pub ran : ℕ → Parts → List Effect → Disk → Ran
ran n t [] d = record { here = record { disk = d; parts = t }; outs = []; queue = [] }
ran n t (Say b ∷ es) d = first_done (Say b) (ran n t es d)
ran n t (Do w ∷ es) d = first_done (Do w) (ran n t es (worked w d))
ran n t (Send to m ∷ es) d = let r = ran n t es d in if to == n then first_queued m r else first_done (Send to m) r

-- what a message led to, done on the disk and queued
abbrev pub ran_handled : ℕ → Here → Handled → Ran
ran_handled n h (Void outs) = ran n h.parts outs h.disk
ran_handled n h (Took t outs) = ran n t outs h.disk

-- the messages that wait, one after another
abbrev pub handle_all : ℕ → List Message → Here → Ran
handle_all n [] h = record { here = h; outs = []; queue = [] }
handle_all n (m ∷ ms) h =
    let r = ran_handled n h (taken n h.disk h.parts n m) in
    let t = handle_all n ms r.here in
    record { here = t.here; outs = r.outs ++ t.outs; queue = r.queue ++ t.queue }

-- all messages that wait are handled; what they lead to waits for the next round
abbrev pub next_round : ℕ → Ran → Ran
next_round n r =
    let t = handle_all n r.queue r.here in
    record { here = t.here; outs = r.outs ++ t.outs; queue = t.queue }

-- First sent first handled is round by round. What a message leads to stands further on in the protocol, so 24 rounds are
-- more than enough.
abbrev pub rounds : ℕ → ℕ → Ran → Ran
rounds n zero r = r
rounds n (suc k) r = elim r.queue [ [] ↦ r | m ∷ ms ↦ rounds n k (next_round n r) ]

-- as many rounds are there at most
abbrev pub most_rounds : ℕ
most_rounds = 24

-- what a node did, with all messages to itself
abbrev pub whole : ℕ → Parts → List Effect → Disk → Ran
whole n t outs d = rounds n most_rounds (ran n t outs d)
