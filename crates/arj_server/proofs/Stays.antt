-- Each call of a server keeps the class of an object.
use Rattle.std.specs.Prelude.{IfSome, OnOk, Result, Ok, Err}
use Rattle.std.proofs.Common.{◌≡◌, ◌==◌, ◌||◌, ℕ, Bool, true, false, cond, List, Option, Some, None, ap, sym, ◌∙◌, subst}
use Rattle.arj_base.specs.declared.state.Class.{Class}
use Rattle.arj_class.specs.Table.{own_class, has_op, value_after}
use Rattle.arj_class.specs.declared.op.Op.{Op}
use Rattle.arj_class.specs.declared.value.Value.{Value}
use Rattle.arj_base.specs.declared.mode.End.{End}
use Rattle.arj_base.specs.declared.uid.Uid.{Uid}
use Rattle.arj_msg.specs.declared.message.Activate.{Activate}
use Rattle.arj_msg.specs.declared.message.Invoke.{Invoke}
use Rattle.arj_msg.specs.declared.message.InvokedReply.{InvokedReply}
use Rattle.arj_msg.specs.declared.message.Vote.{Vote}
use Rattle.arj_msg.specs.declared.message.What.{What}
use Rattle.arj_protocol.specs.Ask.{actor}
use Rattle.arj_protocol.specs.Copy.{Copy, taken_copy}
use Rattle.arj_protocol.specs.Effect.{either, reply, void}
use Rattle.arj_protocol.specs.Order.{at_number, at_uid, binding_eq, binding_less}
use Rattle.arj_protocol.specs.Server.{Kept, Server, active_binding, apply_ends, changed_by, first_unbound, has_ended, invoke_kept}
use Rattle.arj_protocol.specs.Server.{invoke_new, invoke_now, is_below, keeps, other_inc, took_copy, vote_now}
use Rattle.arj_protocol.specs.Values.{state_value}
use Rattle.arj_server.specs.Calls.{activated, invoked, ran, voted}
use Rattle.arj_server.specs.Classes.{HasOp, IsOfClass}
use Rattle.arj_server.proofs.Classes.{class_ends, class_invoked, class_put, of_invoked, of_put}
use Rattle.arj_server.proofs.Runs.{ran_part}

pub ends_stay : (n x : ℕ) (k : Class) (ends : List (Uid × End)) (s : Server) → IsOfClass x k s → IsOfClass x k (apply_ends n ends s).part
ends_stay n x k ends s is = let both = class_ends x (λ j. j ≡ k) n ends s (is.all, is.here) in record { all = both.0; here = both.1 }

pub vote_stays : (n x : ℕ) (k : Class) (m : Vote) (s : Server) → IsOfClass x k s → IsOfClass x k (voted n m s).part
vote_stays n x k m s is = by (has_ended m.head.path s) (either (other_inc m.server_inc s.inc) (first_unbound m.objects s))
  where
    by : (b : Bool) (w : Option What) → IsOfClass x k (cond b (void s) (vote_now n (actor m.head.path) m.ends s w)).part
    by true w = is
    by false (Some w) = is
    by false None = let t = ends_stay n x k m.ends s is in record { all = t.all; here = t.here }

-- an operation on the object's copy
ran_stays : ((op : Op) (v : Value) → own_class (value_after op v) ≡ own_class v) → (n x : ℕ) (k : Class) (m : Invoke) (s : Server) →
    IsOfClass x k s → IsOfClass x k (ran n m s).part
ran_stays same n x k m s is = subst (IsOfClass x k) (ran_part n m s) (record {
  all = of_invoked same n m.head.path m.x m.op s.objects is.all;
  here = class_invoked x (λ j. j ≡ k) n m.head.path m.x m.op s.objects is.here;
})

-- what is kept of an action says nothing of objects
keeps_stay : (x : ℕ) (k : Class) (act : Uid) (req : ℕ) (r : Option InvokedReply) (s : Server) → IsOfClass x k s →
    IsOfClass x k (keeps act req r s)
keeps_stay x k act req None s is = is
keeps_stay x k act req (Some a) s is = record { all = is.all; here = is.here }

new_stays : ((op : Op) (v : Value) → own_class (value_after op v) ≡ own_class v) → (n x : ℕ) (k : Class) (m : Invoke) (s : Server) →
    IsOfClass x k s
    → IsOfClass x k (invoke_new n m.head m.x m.ends m.op s).part
new_stays same n x k m s is =
    let t = (apply_ends n m.ends s).part in
    keeps_stay x k (actor m.head.path) m.head.req (ran n m t).reply (ran n m t).part (ran_stays same n x k m t (ends_stay n x k m.ends s is))

pub invoke_stays : ((op : Op) (v : Value) → own_class (value_after op v) ≡ own_class v) → (n x : ℕ) (k : Class) (m : Invoke) (s : Server) →
    IsOfClass x k s → IsOfClass x k (invoked n m s).part
invoke_stays same n x k m s is =
    by (has_ended m.head.path s || is_below m.head.req (at_uid (actor m.head.path) s.kept)) (changed_by m.server_inc m.x m.binding s) (at_uid (actor m.head.path) s.kept)
  where
    kept : (b : Bool) (a : InvokedReply) → IsOfClass x k (cond b (reply s a) (invoke_new n m.head m.x m.ends m.op s)).part
    kept true a = is
    kept false a = new_stays same n x k m s is

    now : (old : Option Kept) → IsOfClass x k (invoke_kept n m.head m.x m.ends m.op s old).part
    now None = new_stays same n x k m s is
    now (Some old) = kept (old.req == m.head.req) old.answer

    by : (b : Bool) (w : Option What) (old : Option Kept) → IsOfClass x k (cond b (void s) (invoke_now n m.head m.x m.ends m.op s w)).part
    by true w old = is
    by false (Some w) old = is
    by false None old = now (at_uid (actor m.head.path) s.kept)

pub activate_stays : (n x : ℕ) (k : Class) (m : Activate) (s : Server) → (x ≡ m.state.uid.num → own_class (state_value m.state) ≡ k) →
    IsOfClass x k s → IsOfClass x k (activated n m s).part
activate_stays n x k m s same is =
    by (has_ended m.head.path s || binding_less m.binding (active_binding m.state.uid.num s)) (binding_eq m.binding (active_binding m.state.uid.num s))
  where
    by : (b c : Bool) → IsOfClass x k (cond b (void s) (cond c (reply s s.inc) (took_copy n m.state.uid.num m.binding m.state s))).part
    by true c = is
    by false true = is
    by false false = record {
      all = of_put m.state.uid.num (taken_copy m.binding m.state) s.objects is.all tt;
      here = class_put x (λ j. j ≡ k) m.state.uid.num (taken_copy m.binding m.state) s.objects same is.here;
    }

pub has_class : (x : ℕ) (k : Class) (op : Op) (s : Server) → IsOfClass x k s → has_op k op ≡ true → HasOp x op s.objects
has_class x k op s is has = by (at_number x s.objects) is.here
  where
    by : (found : Option Copy) → IfSome found (λ c. own_class c.base.value ≡ k) →
        IfSome found (λ c. has_op (own_class c.base.value) op ≡ true)
    by None here = tt
    by (Some c) here = ap (λ j. has_op j op) here ∙ has

-- a call that was done keeps it
pub stays_ok : {T E : Type 0} (x : ℕ) (k : Class) (r : Result T E) (new part : Server) → OnOk r (new ≡ part) → IsOfClass x k part →
    OnOk r (IsOfClass x k new)
stays_ok x k (Ok t) new part same is = subst (IsOfClass x k) (sym same) is
stays_ok x k (Err e) new part same is = tt
