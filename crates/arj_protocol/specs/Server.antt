-- The server part of a node: active copies, the last answer of each action, the ends that it was told, and the tops that
-- it voted for.
use Rattle.std.specs.Prelude.{ℕ, Bool, false, not, ◌&&◌, ◌||◌, ◌==◌, nat_lt, if◌then◌else◌, List, [], ◌∷◌, ◌++◌, map, Option, Some, None}
use Rattle.std.specs.Prelude.{is_some}
use Rattle.std.specs.List.{list_any, flat_map, filter_map}
use Rattle.arj_protocol.specs.Words.{Uid, Binding, Path, Head, End, Op, ObjectState, Row, What, InvokedReply, VotedReply, uids_of, is_on}
use Rattle.arj_protocol.specs.Words.{top_uid}
use Rattle.arj_protocol.specs.Words.ending
use Rattle.arj_protocol.specs.Words.body
use Rattle.arj_protocol.specs.Words.part
use Rattle.arj_protocol.specs.Words.what
use Rattle.arj_protocol.specs.Words.invoked
use Rattle.arj_protocol.specs.Words.voted
use Rattle.arj_protocol.specs.Order.{at_number, put_number, each, at_uid, put_uid, without_uid, with_uid, drop_uid, binding_eq}
use Rattle.arj_protocol.specs.Order.{binding_less, unbound}
use Rattle.arj_protocol.specs.Effect.{Effect, Say, Served, Did, void, reply, did_nothing, either}
use Rattle.arj_protocol.specs.Ask.{actor}
use Rattle.arj_protocol.specs.Copy.{Copy, taken_copy, invoke_copy, end_copy, holds, is_top_in, changed_state}

-- the last request of an action, with its answer
pub record Kept : Type 0 where
  pub req : ℕ
  pub answer : InvokedReply

-- A server's memory: its incarnation, its copies by object, each action's last request, the ends that it was told, and the tops that it voted for.
pub record Server : Type 0 where
  pub inc : ℕ
  pub objects : List (ℕ × Copy)
  pub kept : List (Uid × Kept)
  pub ends : List (Uid × End)
  pub voted : List Uid

-- a server as its node starts: with nothing
abbrev pub new_server : ℕ → Server
new_server inc = record { inc = inc; objects = []; kept = []; ends = []; voted = [] }

-- the server was told of the action's end
abbrev pub is_told : Uid → Server → Bool
is_told u s = is_some (at_uid u s.ends)

-- it was told of the end of an action of the path
abbrev pub has_ended : Path → Server → Bool
has_ended p s = list_any (λ u. is_told u s) (uids_of p)

-- the binding of a copy, 0.0 where there is none
abbrev pub binding_of : Option Copy → Binding
binding_of None = unbound
binding_of (Some c) = c.binding

-- the active binding of an object, 0.0 where there is none
abbrev pub active_binding : ℕ → Server → Binding
active_binding x s = binding_of (at_number x s.objects)

-- ---- activate

-- the copy is active under this binding, with a line
abbrev pub took_copy : ℕ → ℕ → Binding → ObjectState → Server → Served Server ℕ
took_copy n x b st s = record {
  part = record s { objects = put_number x (taken_copy b st) s.objects };
  outs = Say (body.Active n x b) ∷ [];
  reply = Some s.inc;
}

-- A greater binding replaces the copy, an equal one is answered again, a lower one is void.
abbrev pub activate : ℕ → Path → Binding → ObjectState → Server → Served Server ℕ
activate n p b st s =
    if has_ended p s || binding_less b (active_binding st.uid.num s) then void s
    else (if binding_eq b (active_binding st.uid.num s) then reply s s.inc else took_copy n st.uid.num b st s)

-- ---- what differs from a request

-- the incarnations differ
abbrev pub other_inc : ℕ → ℕ → Option What
other_inc had now = if had == now then None else Some (what.Inc had now)

-- the bindings differ
abbrev pub other_binding : Binding → Binding → Option What
other_binding had now = if binding_eq had now then None else Some (what.Bind had now)

-- an object without a copy has changed whatever the request has
abbrev pub changed_copy : Binding → Option Copy → Option What
changed_copy b None = Some (what.Bind b unbound)
changed_copy b (Some c) = other_binding b c.binding

-- the incarnation, and then the binding
abbrev pub changed_by : ℕ → ℕ → Binding → Server → Option What
changed_by i x b s = either (other_inc i s.inc) (changed_copy b (at_number x s.objects))

-- ---- ends

-- the action is a top or a serializing action in the path of a lock
abbrev pub is_top : Uid → Server → Bool
is_top u s = list_any (λ (e : ℕ × Copy). is_top_in u e.1.rows) s.objects

-- the action, or one below it, holds a lock at the server
abbrev pub has_locks : Uid → Server → Bool
has_locks u s = list_any (λ (e : ℕ × Copy). holds u e.1.rows) s.objects

-- what an end is taken for: a top's commit only where the server voted for the top
abbrev pub taken_end : Uid → End → Server → End
taken_end u ending.Abort s = ending.Abort
taken_end u ending.Commit s = if is_top u s && not (is_on s.voted u) then ending.Abort else ending.Commit

-- the line that the server was told of an end, where it drops or passes a lock
abbrev pub end_lines : ℕ → Uid → End → Server → List Effect
end_lines n u e s = if has_locks u s then Say (body.Told n u e part.Server) ∷ [] else []

-- an end that is new: locks and overlays pass on or go, and the answer kept for the action is forgotten
abbrev pub end_new : ℕ → Uid → End → Server → Did Server
end_new n u e s = record {
  part = record s {
    objects = each (λ x. end_copy u e) s.objects;
    kept = without_uid u s.kept;
    ends = put_uid u e s.ends;
    voted =
        drop_uid u s.voted;
  };
  outs = end_lines n u e s;
}

-- one end: what was told before changes nothing
abbrev pub end_one : ℕ → Uid → End → Server → Did Server
end_one n u e s = if is_told u s then did_nothing s else end_new n u (taken_end u e s) s

-- ends one after another
abbrev pub apply_ends : ℕ → List (Uid × End) → Server → Did Server
apply_ends n [] s = did_nothing s
apply_ends n (e ∷ es) s =
    let d = end_one n e.0 e.1 s in
    let t = apply_ends n es d.part in
    record { part = t.part; outs = d.outs ++ t.outs }

-- a Told brings a list of ends
abbrev pub told : ℕ → List (Uid × End) → Server → Did Server
told n ends s = apply_ends n ends s

-- ---- invoke

-- the answer is kept
abbrev pub keeps : Uid → ℕ → Option InvokedReply → Server → Server
keeps act req None s = s
keeps act req (Some a) s = record s { kept = put_uid act (record { req = req; answer = a }) s.kept }

-- A call on one object's copy, put back. There is a copy, since the binding is active.
abbrev pub on_copy : ℕ → (Copy → Served Copy InvokedReply) → Server → Option Copy → Served Server InvokedReply
on_copy x f s None = reply s (invoked.Changed (what.Bind unbound unbound))
on_copy x f s (Some c) =
    let r = f c in record { part = record s { objects = put_number x r.part s.objects }; outs = r.outs; reply = r.reply }

-- the answer is kept with its request
abbrev pub kept_after : Head → Served Server InvokedReply → Served Server InvokedReply
kept_after h r = record { part = keeps (actor h.path) h.req r.reply r.part; outs = r.outs; reply = r.reply }

-- outs before those of a call
abbrev pub after_outs : {S R : Type 0} → List Effect → Served S R → Served S R
after_outs outs r = record { part = r.part; outs = outs ++ r.outs; reply = r.reply }

-- a request that wasn't run yet: the ends that are new, and then the operation in its lock
abbrev pub invoke_new : ℕ → Head → ℕ → List (Uid × End) → Op → Server → Served Server InvokedReply
invoke_new n h x ends op s =
    let d = apply_ends n ends s in
    let t = d.part in
    after_outs d.outs (kept_after h (on_copy x (invoke_copy n h.path x op) t (at_number x t.objects)))

-- the last request again is answered by what was kept
abbrev pub invoke_kept : ℕ → Head → ℕ → List (Uid × End) → Op → Server → Option Kept → Served Server InvokedReply
invoke_kept n h x ends op s None = invoke_new n h x ends op s
invoke_kept n h x ends op s (Some k) = if k.req == h.req then reply s k.answer else invoke_new n h x ends op s

-- what differs is answered; else the request is run, or answered by what was kept
abbrev pub invoke_now : ℕ → Head → ℕ → List (Uid × End) → Op → Server → Option What → Served Server InvokedReply
invoke_now n h x ends op s (Some w) = reply s (invoked.Changed w)
invoke_now n h x ends op s None = invoke_kept n h x ends op s (at_uid (actor h.path) s.kept)

-- a later request of the action was run
abbrev pub is_below : ℕ → Option Kept → Bool
is_below req None = false
is_below req (Some k) = nat_lt req k.req

-- Void, then incarnation and binding, then the kept answer, then the ends, then the lock.
abbrev pub invoke : ℕ → Head → ℕ → Binding → ℕ → List (Uid × End) → Op → Server → Served Server InvokedReply
invoke n h x b i ends op s =
    if has_ended h.path s || is_below h.req (at_uid (actor h.path) s.kept) then void s
    else invoke_now n h x ends op s (changed_by i x b s)

-- ---- vote

-- the first object whose active binding is another one
abbrev pub first_unbound : List (ℕ × Binding) → Server → Option What
first_unbound [] s = None
first_unbound (t ∷ ts) s = either (changed_copy t.1 (at_number t.0 s.objects)) (first_unbound ts s)

-- the states that a top made, by object
abbrev pub changed_states : Uid → Server → List ObjectState
changed_states top s = filter_map (λ (e : ℕ × Copy). changed_state top e.0 e.1) s.objects

-- the ends that are new are applied, and the states that the top changed are given
abbrev pub vote_yes : ℕ → Uid → List (Uid × End) → Server → Served Server VotedReply
vote_yes n top ends s =
    let d = apply_ends n ends s in
    let t = d.part in
    record { part = record t { voted = with_uid top t.voted }; outs = d.outs; reply = Some (voted.Yes (changed_states top t)) }

-- what differs is answered; else the vote is Yes
abbrev pub vote_now : ℕ → Uid → List (Uid × End) → Server → Option What → Served Server VotedReply
vote_now n top ends s (Some w) = reply s (voted.Changed w)
vote_now n top ends s None = vote_yes n top ends s

-- Void, then the incarnation, then the bindings by object; then the ends are applied.
abbrev pub vote : ℕ → Path → ℕ → List (ℕ × Binding) → List (Uid × End) → Server → Served Server VotedReply
vote n p i ties ends s = if has_ended p s then void s else vote_now n (actor p) ends s (either (other_inc i s.inc) (first_unbound ties s))

-- ---- who has locks

-- the top of each holder, each once, increasing; a serializing action counts as its own top
abbrev pub row_top : Row → Uid
row_top r = top_uid r.tops r.holder

-- the tops of all who hold locks on objects
abbrev pub server_holders : Server → List Uid
server_holders s = flat_map (λ (e : ℕ × Copy). map row_top e.1.rows) s.objects
