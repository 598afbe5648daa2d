-- A message that is void says and sends nothing: at most the disk was read for it.
use Rattle.std.proofs.Common.{◌≡◌, ℕ, Bool, true, false, cond, List, [], refl, Option, Some, None}
use Rattle.std.specs.Prelude.{⊤, option_map}
use Rattle.arj_node.specs.Outgoing.{loud}
use Rattle.arj_protocol.specs.Ask.{Reply, answers, last_end}
use Rattle.arj_protocol.specs.Effect.{Disk, Effect, Served, Pair, Prep, Ready, Already, Old, InDoubt, held_at, holder_of, is_prepared}
use Rattle.arj_protocol.specs.Effect.{prepare_answer}
use Rattle.arj_protocol.specs.Asking.{heard}
use Rattle.arj_protocol.specs.Confirm.{confirm}
use Rattle.arj_protocol.specs.Ending.{acked}
use Rattle.arj_protocol.specs.Naming as naming
use Rattle.arj_protocol.specs.Naming.{Naming}
use Rattle.arj_protocol.specs.Server as server
use Rattle.arj_protocol.specs.Coord.{Coord}
use Rattle.arj_protocol.specs.Node.{Handled, Void, Took, Parts, sends_answer, served, if_naming, load_held, load_by, prepare_by, serve}
use Rattle.arj_protocol.specs.Node.{handle_ends, handle_other, handle_answer, handle_ask, handle, by_reply, coord_heard, is_meant, taken}
use Rattle.arj_protocol.specs.Node.{with_coord, with_naming, with_server}
use Rattle.arj_protocol.specs.Words.{Ask, Asked, End, Head, Message, ObjectState, Uid, asks, object}
use Rattle.arj_protocol.specs.Words.ask
use Rattle.arj_protocol.specs.Words.prepared
use Rattle.arj_protocol.specs.Words.message
use Rattle.arj_protocol.specs.Ask.{actor}

abbrev pub IsQuiet : Handled → Type 0
IsQuiet (Void es) = loud es ≡ []
IsQuiet (Took t es) = ⊤

answered : (from : ℕ) (h : Head) (t : Parts) (outs : List Effect) (o : Option Reply) → IsQuiet (sends_answer from h t outs o)
answered from h t outs None = refl
answered from h t outs (Some r) = tt

served_quiet : {S R : Type 0} (from : ℕ) (h : Head) (put : S → Parts) (say : R → Reply) (r : Served S R) → IsQuiet (served from h put say r)
served_quiet from h put say r = answered from h (put r.part) r.outs (option_map say r.reply)

at_naming : (f : Naming → Handled) (o : Option Naming) → ((n : Naming) → IsQuiet (f n)) → IsQuiet (if_naming f o)
at_naming f None quiet = refl
at_naming f (Some n) quiet = quiet n

loaded_quiet : (from : ℕ) (h : Head) (t : Parts) (o : Option ObjectState) → IsQuiet (load_held from h t o)
loaded_quiet from h t None = refl
loaded_quiet from h t (Some s) = tt

load_quiet : (x : ℕ) (d : Pair) (from : ℕ) (h : Head) (t : Parts) (o : Option Uid) → IsQuiet (load_by x d from h t o)
load_quiet x d from h t (Some holder) = tt
load_quiet x d from h t None = loaded_quiet from h t (held_at (object x) d)

prepare_quiet : (n : ℕ) (states : List ObjectState) (from : ℕ) (h : Head) (t : Parts) (p : Prep) → IsQuiet (prepare_by n states from h t p)
prepare_quiet n states from h t Ready = tt
prepare_quiet n states from h t (Already u) = refl
prepare_quiet n states from h t (Old u v) = tt
prepare_quiet n states from h t (InDoubt u holder) = tt

one_of : (b : Bool) (x y : Handled) → IsQuiet x → IsQuiet y → IsQuiet (cond b x y)
one_of true x y first second = first
one_of false x y first second = second

serve_quiet : (n : ℕ) (d : Disk) (t : Parts) (from : ℕ) (h : Head) (a : Ask) → IsQuiet (serve n d t from h a)
serve_quiet n d t from h (ask.Bind x include avoid) =
    at_naming (λ o. served from h (with_naming t) Reply.Bound (naming.bind h.path x include avoid d.names o)) t.naming (λ o. served_quiet from h (with_naming t) Reply.Bound (naming.bind h.path x include avoid d.names o))
serve_quiet n d t from h (ask.Load x) = load_quiet x d.store from h t (holder_of (object x) d.store)
serve_quiet n d t from h (ask.Activate b st) = served_quiet from h (with_server t) Reply.Activated (server.activate n h.path b st t.server)
serve_quiet n d t from h (ask.Record x b i g) =
    at_naming (λ o. served from h (with_naming t) Reply.Noted (naming.note h.path x b i g o)) t.naming (λ o. served_quiet from h (with_naming t) Reply.Noted (naming.note h.path x b i g o))
serve_quiet n d t from h (ask.Invoke x b i ends op) =
    served_quiet from h (with_server t) Reply.Invoked (server.invoke n h x b i ends op t.server)
serve_quiet n d t from h (ask.Vote i ties ends) =
    served_quiet from h (with_server t) Reply.Voted (server.vote n h.path i ties ends t.server)
serve_quiet n d t from h (ask.Prepare states) =
    one_of (is_prepared (actor h.path) d.store) (sends_answer from h t [] (Some (Reply.Prepared prepared.Yes))) (prepare_by n states from h t (prepare_answer (actor h.path) states d.store)) tt (prepare_quiet n states from h t (prepare_answer (actor h.path) states d.store))
serve_quiet n d t from h (ask.Confirm grants excluded included) =
    at_naming (λ o. served from h (with_naming t) Reply.Confirmed (confirm h.path grants excluded included d.names o)) t.naming (λ o. served_quiet from h (with_naming t) Reply.Confirmed (confirm h.path grants excluded included d.names o))

replied : (t : Parts) (outs : List Effect) (o : Option (Unit {0})) → IsQuiet (by_reply t outs o)
replied t outs None = refl
replied t outs (Some u) = tt

heard_quiet : (t : Parts) (r : Served Coord (Unit {0})) → IsQuiet (coord_heard t r)
heard_quiet t r = replied (with_coord t r.part) r.outs r.reply

ends_quiet : (n : ℕ) (d : Disk) (t : Parts) (from : ℕ) (ack : Bool) (ends : List (Uid × End)) (o : Option (Uid × End)) →
    IsQuiet (handle_ends n d t from ack ends o)
ends_quiet n d t from ack ends None = tt
ends_quiet n d t from ack ends (Some e) = tt

other_quiet : (n : ℕ) (d : Disk) (t : Parts) (from : ℕ) (m : Message) → IsQuiet (handle_other n d t from m)
other_quiet n d t from (message.Told m) = ends_quiet n d t from m.ack m.ends (last_end m.ends)
other_quiet n d t from (message.Acked m) = heard_quiet t (acked from m.act d.intents t.coord)
other_quiet n d t from (message.Query m) = tt
other_quiet n d t from (message.Hello m) = tt
other_quiet n d t from (message.Bind m) = refl
other_quiet n d t from (message.Bound m) = refl
other_quiet n d t from (message.Load m) = refl
other_quiet n d t from (message.Loaded m) = refl
other_quiet n d t from (message.Activate m) = refl
other_quiet n d t from (message.Activated m) = refl
other_quiet n d t from (message.RecordMsg m) = refl
other_quiet n d t from (message.Recorded m) = refl
other_quiet n d t from (message.Invoke m) = refl
other_quiet n d t from (message.Invoked m) = refl
other_quiet n d t from (message.Vote m) = refl
other_quiet n d t from (message.Voted m) = refl
other_quiet n d t from (message.Prepare m) = refl
other_quiet n d t from (message.Prepared m) = refl
other_quiet n d t from (message.Confirm m) = refl
other_quiet n d t from (message.Confirmed m) = refl

answer_quiet : (n : ℕ) (d : Disk) (t : Parts) (from : ℕ) (m : Message) (o : Option (Asked × Reply)) → IsQuiet (handle_answer n d t from m o)
answer_quiet n d t from m None = other_quiet n d t from m
answer_quiet n d t from m (Some a) = heard_quiet t (heard from a.0 a.1 d.intents t.coord)

ask_quiet : (n : ℕ) (d : Disk) (t : Parts) (from : ℕ) (m : Message) (o : Option (Head × Ask)) → IsQuiet (handle_ask n d t from m o)
ask_quiet n d t from m None = answer_quiet n d t from m (answers m)
ask_quiet n d t from m (Some a) = serve_quiet n d t from a.0 a.1

pub taken_quiet : (n : ℕ) (d : Disk) (t : Parts) (from : ℕ) (m : Message) → IsQuiet (taken n d t from m)
taken_quiet n d t from m = one_of (is_meant t m) (handle n d t from m) (Void []) (ask_quiet n d t from m (asks m)) refl
