-- The rounds of a step handle all messages that a node sends to itself.
use Rattle.std.proofs.Common.{◌≡◌, ◌≤◌, ℕ, zero, suc, ◌+◌, List, [], ◌∷◌, ◌++◌, Bool, true, false, refl, filter, Option, Some, None, ◌==◌}
use Rattle.std.proofs.Common.{arith}
use Rattle.std.proofs.lemmas.Bool.{and_parts}
use Rattle.std.specs.Prelude.{nat_lt, nat_le, if◌then◌else◌, option_map}
use Rattle.std.specs.List.{list_all}
use Rattle.arj_protocol.specs.Words.{Uid, End, Head, Asked, Ask, Message, ObjectState, object}
use Rattle.arj_protocol.specs.Words.ask
use Rattle.arj_protocol.specs.Words.ending
use Rattle.arj_protocol.specs.Words.body
use Rattle.arj_protocol.specs.Words.message
use Rattle.arj_protocol.specs.Words.loaded
use Rattle.arj_protocol.specs.Words.prepared
use Rattle.arj_protocol.specs.Words.role
use Rattle.arj_protocol.specs.Effect.{Effect, Say, Send, Do, Look, Prepare, Disk, Pair, Prep, Ready, Already, Old, InDoubt, Served, worked}
use Rattle.arj_protocol.specs.Effect.{is_prepared, prepare_answer, holder_of, held_at}
use Rattle.arj_protocol.specs.Ask.{Reply, actor, response, asked_by, ask_kind, reply_kind, last_end}
use Rattle.arj_protocol.specs.Server as server
use Rattle.arj_protocol.specs.Server.{Server}
use Rattle.arj_protocol.specs.Naming as naming
use Rattle.arj_protocol.specs.Naming.{Naming}
use Rattle.arj_protocol.specs.Confirm.{confirm}
use Rattle.arj_protocol.specs.Coord.{Coord}
use Rattle.arj_protocol.specs.Asking.{heard}
use Rattle.arj_protocol.specs.Ending.{acked}
use Rattle.arj_protocol.specs.Node.{Parts, Handled, Void, Took, Here, Ran, ran, ran_handled, handle_all, next_round, rounds, whole}
use Rattle.arj_protocol.specs.Node.{most_rounds, first_done, first_queued, serve, served, sends_answer, with_server, with_naming}
use Rattle.arj_protocol.specs.Node.{with_coord, if_naming, load_by, load_held, prepare_by, prepare_states, handle, taken, handle_other}
use Rattle.arj_protocol.specs.Node.{handle_ends, handle_told, coord_heard, by_reply, end_states, store_told, naming_told, ack_told}
use Rattle.arj_protocol.specs.Node.{query_about, is_earlier, holders}
use Rattle.arj_protocol.specs.Rank.{rank, ranks, told_rank, is_above}
use Rattle.arj_protocol.specs.Says.{is_server_effect, is_naming_effect}
use Rattle.arj_protocol.proofs.PartSays.{activate_own, invoke_own, vote_own, ends_own, bind_own, note_own, confirm_own, told_own}
use Rattle.arj_protocol.proofs.Ranks.{Above, both_above, weaker, server_above, naming_above, map_above, acked_above, query_above}
use Rattle.arj_protocol.proofs.Ranks.{heard_above, reply_rank}
use Rattle.arj_protocol.proofs.Taken.{taken_as}

-- what a handler sends stands further on than what it handles
abbrev HandledAbove : ℕ → Handled → Type 0
HandledAbove k (Void outs) = Above k outs
HandledAbove k (Took t outs) = Above k outs

-- an answer stands behind its request
answer_above : (k from : ℕ) (h : Head) (t : Parts) (outs : List Effect) (r : Reply) → k ≡ reply_kind r + reply_kind r → Above k outs →
    HandledAbove k (sends_answer from h t outs (Some r))
answer_above k from h t outs r is above =
    both_above k outs (Send from (response (asked_by h) r) ∷ []) above (rw (higher (rank (response (asked_by h) r)) (reply_rank (asked_by h) r)) refl)
  where
    higher : (n : ℕ) → n ≡ suc (reply_kind r + reply_kind r) → nat_lt k n ≡ true
    higher n e = grind arith

served_above : {S R : Type 0} (k from : ℕ) (h : Head) (put : S → Parts) (say : R → Reply) (r : Served S R) →
    ((a : R) → k ≡ reply_kind (say a) + reply_kind (say a)) → Above k r.outs → HandledAbove k (served from h put say r)
served_above {S} {R} k from h put say r is above = by r.reply
  where
    by : (a : Option R) → HandledAbove k (sends_answer from h (put r.part) r.outs (option_map say a))
    by None = refl
    by (Some a) = answer_above k from h (put r.part) r.outs (say a) (is a) above

if_above : (k : ℕ) (f : Naming → Handled) (o : Option Naming) → ((n : Naming) → HandledAbove k (f n)) → HandledAbove k (if_naming f o)
if_above k f None each = refl
if_above k f (Some n) each = each n

load_above : (x : ℕ) (d : Pair) (from : ℕ) (h : Head) (t : Parts) (o : Option Uid) → HandledAbove 4 (load_by x d from h t o)
load_above x d from h t (Some holder) = answer_above 4 from h t [] (Reply.Loaded (loaded.InDoubt holder)) refl refl
load_above x d from h t None = by (held_at (object x) d)
  where
    by : (s : Option ObjectState) → HandledAbove 4 (load_held from h t s)
    by None = refl
    by (Some s) = answer_above 4 from h t (Do Look ∷ []) (Reply.Loaded (loaded.State s)) refl refl

prepare_above : (n : ℕ) (d : Pair) (states : List ObjectState) (from : ℕ) (h : Head) (t : Parts) →
    HandledAbove 14 (prepare_states n d states from h t)
prepare_above n d states from h t = by (is_prepared (actor h.path) d) (prepare_answer (actor h.path) states d)
  where
    new : (a : Prep) → HandledAbove 14 (prepare_by n states from h t a)
    new Ready = answer_above 14 from h t (Do Look ∷ Do (Prepare role.Store (actor h.path) states) ∷ Say (body.Prepared n (actor h.path) role.Store) ∷ []) (Reply.Prepared prepared.Yes) refl refl
    new (Already u) = refl
    new (Old u v) = answer_above 14 from h t (Do Look ∷ []) (Reply.Prepared (prepared.Old u.num v)) refl refl
    new (InDoubt u holder) = answer_above 14 from h t (Do Look ∷ []) (Reply.Prepared (prepared.InDoubt u.num holder)) refl refl

    by : (b : Bool) (a : Prep) →
        HandledAbove 14 (if b then sends_answer from h t [] (Some (Reply.Prepared prepared.Yes)) else prepare_by n states from h t a)
    by true a = answer_above 14 from h t [] (Reply.Prepared prepared.Yes) refl refl
    by false a = new a

serve_above : (n : ℕ) (d : Disk) (t : Parts) (from : ℕ) (h : Head) (a : Ask) → HandledAbove (ask_kind a + ask_kind a) (serve n d t from h a)
serve_above n d t from h (ask.Bind x include avoid) =
    if_above 2 (λ o. served from h (with_naming t) Reply.Bound (naming.bind h.path x include avoid d.names o)) t.naming (λ o. served_above 2 from h (with_naming t) Reply.Bound (naming.bind h.path x include avoid d.names o) (λ r. refl) (weaker is_naming_effect (is_above 2) (naming_above 2) (naming.bind h.path x include avoid d.names o).outs (bind_own h.path x include avoid d.names o)))
serve_above n d t from h (ask.Load x) = load_above x d.store from h t (holder_of (object x) d.store)
serve_above n d t from h (ask.Activate b st) =
    served_above 6 from h (with_server t) Reply.Activated (server.activate n h.path b st t.server) (λ r. refl) (weaker (is_server_effect n) (is_above 6) (server_above 6 n) (server.activate n h.path b st t.server).outs (activate_own n h.path b st t.server))
serve_above n d t from h (ask.Record x b i g) =
    if_above 8 (λ o. served from h (with_naming t) Reply.Noted (naming.note h.path x b i g o)) t.naming (λ o. served_above 8 from h (with_naming t) Reply.Noted (naming.note h.path x b i g o) (λ r. refl) (weaker is_naming_effect (is_above 8) (naming_above 8) (naming.note h.path x b i g o).outs (note_own h.path x b i g o)))
serve_above n d t from h (ask.Invoke x b i ends o) =
    served_above 10 from h (with_server t) Reply.Invoked (server.invoke n h x b i ends o t.server) (λ r. refl) (weaker (is_server_effect n) (is_above 10) (server_above 10 n) (server.invoke n h x b i ends o t.server).outs (invoke_own n h x b i ends o t.server))
serve_above n d t from h (ask.Vote i ties ends) =
    served_above 12 from h (with_server t) Reply.Voted (server.vote n h.path i ties ends t.server) (λ r. refl) (weaker (is_server_effect n) (is_above 12) (server_above 12 n) (server.vote n h.path i ties ends t.server).outs (vote_own n h.path i ties ends t.server))
serve_above n d t from h (ask.Prepare states) = prepare_above n d.store states from h t
serve_above n d t from h (ask.Confirm grants excluded included) =
    if_above 16 (λ o. served from h (with_naming t) Reply.Confirmed (confirm h.path grants excluded included d.names o)) t.naming (λ o. served_above 16 from h (with_naming t) Reply.Confirmed (confirm h.path grants excluded included d.names o) (λ r. refl) (weaker is_naming_effect (is_above 16) (naming_above 16) (confirm h.path grants excluded included d.names o).outs (confirm_own h.path grants excluded included d.names o)))

-- ---- the other messages

coord_above : (k : ℕ) (t : Parts) (r : Served Coord (Unit {0})) → Above k r.outs → HandledAbove k (coord_heard t r)
coord_above k t r above = by r.reply
  where
    by : (a : Option (Unit {0})) → HandledAbove k (by_reply (with_coord t r.part) r.outs a)
    by None = refl
    by (Some a) = above

-- only an acknowledgement is sent, where one is asked for
told_above : (n : ℕ) (d : Disk) (t : Parts) (from : ℕ) (ack : Bool) (ends : List (Uid × End)) (u : Uid) (e : End) →
    HandledAbove (told_rank ack) (handle_told n d t from ack ends u e)
told_above n d t from ack ends u e =
    let k = told_rank ack in
    let o = naming_told u e d.names t.naming in
    let s = server.told n ends t.server in
    both_above k (store_told n u e d.store ++ o.outs ++ s.outs) (ack_told from u ack)
    (both_above k (store_told n u e d.store ++ o.outs) s.outs
    (both_above k (store_told n u e d.store) o.outs (stored (is_prepared u d.store) e) (names t.naming))
    (weaker (is_server_effect n) (is_above k) (server_above k n) s.outs (ends_own n ends t.server)))
    (acks ack)
  where
    stored : (b : Bool) (e : End) → Above (told_rank ack) (if b then end_states n u e else [])
    stored true ending.Commit = refl
    stored true ending.Abort = refl
    stored false e = refl

    names : (o : Option Naming) → Above (told_rank ack) (naming_told u e d.names o).outs
    names None = refl
    names (Some m) =
        weaker is_naming_effect (is_above (told_rank ack)) (naming_above (told_rank ack)) (naming.told u e d.names m).outs (told_own u e d.names m)

    acks : (b : Bool) → Above (told_rank b) (ack_told from u b)
    acks true = refl
    acks false = refl

ends_above : (n : ℕ) (d : Disk) (t : Parts) (from : ℕ) (ack : Bool) (ends : List (Uid × End)) (o : Option (Uid × End)) →
    HandledAbove (told_rank ack) (handle_ends n d t from ack ends o)
ends_above n d t from ack ends None = refl
ends_above n d t from ack ends (Some e) = told_above n d t from ack ends e.0 e.1

other_above : (n : ℕ) (d : Disk) (t : Parts) (from : ℕ) (m : Message) → HandledAbove (rank m) (handle_other n d t from m)
other_above n d t from (message.Told m) = ends_above n d t from m.ack m.ends (last_end m.ends)
other_above n d t from (message.Acked m) =
    coord_above 19 t (acked from m.act d.intents t.coord) (acked_above 19 from m.act d.intents t.coord (omega arith))
other_above n d t from (message.Query m) = query_above from m.act d.intents t.coord
other_above n d t from (message.Hello m) = map_above 0 query_about (filter (is_earlier m.node m.inc) (holders d t)) (λ u. refl)
other_above n d t from (message.Bind m) = refl
other_above n d t from (message.Bound m) = refl
other_above n d t from (message.Load m) = refl
other_above n d t from (message.Loaded m) = refl
other_above n d t from (message.Activate m) = refl
other_above n d t from (message.Activated m) = refl
other_above n d t from (message.RecordMsg m) = refl
other_above n d t from (message.Recorded m) = refl
other_above n d t from (message.Invoke m) = refl
other_above n d t from (message.Invoked m) = refl
other_above n d t from (message.Vote m) = refl
other_above n d t from (message.Voted m) = refl
other_above n d t from (message.Prepare m) = refl
other_above n d t from (message.Prepared m) = refl
other_above n d t from (message.Confirm m) = refl
other_above n d t from (message.Confirmed m) = refl

reply_above : (d : Disk) (t : Parts) (from : ℕ) (a : Asked) (r : Reply) →
    HandledAbove (suc (reply_kind r + reply_kind r)) (coord_heard t (heard from a r d.intents t.coord))
reply_above d t from a r =
    coord_above (suc (reply_kind r + reply_kind r)) t (heard from a r d.intents t.coord) (heard_above from a r d.intents t.coord)

handle_above : (n : ℕ) (d : Disk) (t : Parts) (from : ℕ) (m : Message) → HandledAbove (rank m) (handle n d t from m)
handle_above n d t from (message.Bind m) = serve_above n d t from m.head (ask.Bind m.x m.include m.avoid)
handle_above n d t from (message.Load m) = serve_above n d t from m.head (ask.Load m.x)
handle_above n d t from (message.Activate m) = serve_above n d t from m.head (ask.Activate m.binding m.state)
handle_above n d t from (message.RecordMsg m) = serve_above n d t from m.head (ask.Record m.x m.binding m.server_inc m.naming_inc)
handle_above n d t from (message.Invoke m) = serve_above n d t from m.head (ask.Invoke m.x m.binding m.server_inc m.ends m.op)
handle_above n d t from (message.Vote m) = serve_above n d t from m.head (ask.Vote m.server_inc m.objects m.ends)
handle_above n d t from (message.Prepare m) = serve_above n d t from m.head (ask.Prepare m.states)
handle_above n d t from (message.Confirm m) = serve_above n d t from m.head (ask.Confirm m.objects m.excluded m.included)
handle_above n d t from (message.Bound m) = reply_above d t from m.asked (Reply.Bound m.reply)
handle_above n d t from (message.Loaded m) = reply_above d t from m.asked (Reply.Loaded m.reply)
handle_above n d t from (message.Activated m) = reply_above d t from m.asked (Reply.Activated m.server_inc)
handle_above n d t from (message.Recorded m) = reply_above d t from m.asked (Reply.Noted m.reply)
handle_above n d t from (message.Invoked m) = reply_above d t from m.asked (Reply.Invoked m.reply)
handle_above n d t from (message.Voted m) = reply_above d t from m.asked (Reply.Voted m.reply)
handle_above n d t from (message.Prepared m) = reply_above d t from m.asked (Reply.Prepared m.reply)
handle_above n d t from (message.Confirmed m) = reply_above d t from m.asked (Reply.Confirmed m.reply)
handle_above n d t from (message.Told m) = other_above n d t from (message.Told m)
handle_above n d t from (message.Acked m) = other_above n d t from (message.Acked m)
handle_above n d t from (message.Query m) = other_above n d t from (message.Query m)
handle_above n d t from (message.Hello m) = other_above n d t from (message.Hello m)

-- ---- rounds

-- the messages stand at least so far on
abbrev From : ℕ → List Message → Type 0
From k ms = list_all (λ m. nat_le k (rank m)) ms ≡ true

from_both : (k : ℕ) (ms ns : List Message) → From k ms → From k ns → From k (ms ++ ns)
from_both k [] ns a b = b
from_both k (m ∷ ms) ns a b =
    let q = and_parts (nat_le k (rank m)) (list_all (λ m. nat_le k (rank m)) ms) a in
    rw q.0 (from_both k ms ns q.1 b)

queued_from : (k n : ℕ) (t : Parts) (es : List Effect) (d : Disk) → Above k es → From (suc k) (ran n t es d).queue
queued_from k n t [] d above = refl
queued_from k n t (Say b ∷ es) d above = queued_from k n t es d above
queued_from k n t (Do w ∷ es) d above = queued_from k n t es (worked w d) above
queued_from k n t (Send to m ∷ es) d above =
    let q = and_parts (nat_lt k (rank m)) (list_all (is_above k) es) above in
    by (to == n) (higher (rank m) q.0) (queued_from k n t es d q.1)
  where
    r : Ran
    r = ran n t es d

    higher : (j : ℕ) → nat_lt k j ≡ true → nat_le (suc k) j ≡ true
    higher j h = grind arith

    by : (b : Bool) → nat_le (suc k) (rank m) ≡ true → From (suc k) r.queue →
        From (suc k) (if b then first_queued m r else first_done (Send to m) r).queue
    by true h rest = rw h rest
    by false h rest = rest

lower_from : (j k : ℕ) (ms : List Message) → k ≤ j → From j ms → From k ms
lower_from j k [] low from = refl
lower_from j k (m ∷ ms) low from =
    let q = and_parts (nat_le j (rank m)) (list_all (λ m. nat_le j (rank m)) ms) from in
    rw (less (rank m) q.0) (lower_from j k ms low q.1)
  where
    less : (n : ℕ) → nat_le j n ≡ true → nat_le k n ≡ true
    less n h = grind arith

reached : (k n : ℕ) → nat_le k n ≡ true → suc k ≤ suc n
reached k n h = grind arith

taken_above : (n : ℕ) (d : Disk) (t : Parts) (from : ℕ) (m : Message) → HandledAbove (rank m) (taken n d t from m)
taken_above n d t from m = taken_as (HandledAbove (rank m)) n d t from m refl (handle_above n d t from m)

handled_from : (k n : ℕ) (e : Here) (m : Message) → nat_le k (rank m) ≡ true →
    From (suc k) (ran_handled n e (taken n e.disk e.parts n m)).queue
handled_from k n e m least =
    lower_from (suc (rank m)) (suc k) (ran_handled n e (taken n e.disk e.parts n m)).queue low (by (taken n e.disk e.parts n m) (taken_above n e.disk e.parts n m))
  where
    low : suc k ≤ suc (rank m)
    low = reached k (rank m) least

    by : (a : Handled) → HandledAbove (rank m) a → From (suc (rank m)) (ran_handled n e a).queue
    by (Void outs) above = queued_from (rank m) n e.parts outs e.disk above
    by (Took t outs) above = queued_from (rank m) n t outs e.disk above

all_from : (k n : ℕ) (ms : List Message) (e : Here) → From k ms → From (suc k) (handle_all n ms e).queue
all_from k n [] e from = refl
all_from k n (m ∷ ms) e from =
    let q = and_parts (nat_le k (rank m)) (list_all (λ m. nat_le k (rank m)) ms) from in
    let r = ran_handled n e (taken n e.disk e.parts n m) in
    from_both (suc k) r.queue (handle_all n ms r.here).queue (handled_from k n e m q.0) (all_from k n ms r.here q.1)

-- no message stands so far on
none_left : (m : Message) → nat_le ranks (rank m) ≡ true → ⊥
none_left (message.Told m) h = by m.ack h
  where
    by : (b : Bool) → nat_le ranks (told_rank b) ≡ true → ⊥
    by true h = cc h
    by false h = cc h
none_left (message.Hello m) h = cc h
none_left (message.Query m) h = cc h
none_left (message.Bind m) h = cc h
none_left (message.Bound m) h = cc h
none_left (message.Load m) h = cc h
none_left (message.Loaded m) h = cc h
none_left (message.Activate m) h = cc h
none_left (message.Activated m) h = cc h
none_left (message.RecordMsg m) h = cc h
none_left (message.Recorded m) h = cc h
none_left (message.Invoke m) h = cc h
none_left (message.Invoked m) h = cc h
none_left (message.Vote m) h = cc h
none_left (message.Voted m) h = cc h
none_left (message.Prepare m) h = cc h
none_left (message.Prepared m) h = cc h
none_left (message.Confirm m) h = cc h
none_left (message.Confirmed m) h = cc h
none_left (message.Acked m) h = cc h

empty_from : (ms : List Message) → From ranks ms → ms ≡ []
empty_from [] from = refl
empty_from (m ∷ ms) from = absurd (none_left m (and_parts (nat_le ranks (rank m)) (list_all (λ m. nat_le ranks (rank m)) ms) from).0)

rounds_empty : (n j k : ℕ) (r : Ran) → ranks ≤ k + j → From k r.queue → (rounds n j r).queue ≡ []
rounds_empty n zero k r enough from = empty_from r.queue (lower_from k ranks r.queue (omega arith) from)
rounds_empty n (suc j) k r enough from =
    by r.queue refl (rounds_empty n j (suc k) (next_round n r) (omega arith) (all_from k n r.queue r.here from))
  where
    picked : List Message → Ran
    picked ms = elim ms [ [] ↦ r | m ∷ ms ↦ rounds n j (next_round n r) ]

    by : (ms : List Message) → r.queue ≡ ms → (rounds n j (next_round n r)).queue ≡ [] → (picked ms).queue ≡ []
    by [] is more = is
    by (m ∷ ms) is more = more

every_rank : (ms : List Message) → From 0 ms
every_rank [] = refl
every_rank (m ∷ ms) = rw (least (rank m)) (every_rank ms)
  where
    least : (n : ℕ) → nat_le 0 n ≡ true
    least n = grind arith

pub whole_empty : (n : ℕ) (t : Parts) (outs : List Effect) (d : Disk) → (whole n t outs d).queue ≡ []
whole_empty n t outs d = rounds_empty n most_rounds 0 (ran n t outs d) (omega arith) (every_rank (ran n t outs d).queue)
