-- What the calls of a server mean, by their tests.
use Rattle.std.proofs.Common.{◌≡◌, ◌==◌, ◌||◌, ℕ, Bool, true, false, cond, List, [], ◌∷◌, Option, Some, None, refl, ◌∙◌, arith}
use Rattle.std.specs.Prelude.{is_some, IsSomeAnd, nat_lt}
use Rattle.std.proofs.lemmas.Bool.{eqb-true}
use Rattle.arj_base.specs.Path.{uids_of}
use Rattle.arj_base.specs.Rows.{Row, first_conflict}
use Rattle.arj_base.specs.Uid.{object}
use Rattle.arj_base.specs.declared.binding.Binding.{Binding}
use Rattle.arj_class.specs.Table.{op_mode}
use Rattle.arj_msg.specs.declared.message.Activate.{Activate}
use Rattle.arj_msg.specs.declared.message.Invoke.{Invoke}
use Rattle.arj_msg.specs.declared.message.Vote.{Vote}
use Rattle.arj_msg.specs.declared.message.VotedReply.TheVariants as voted_as
use Rattle.arj_base.specs.declared.state.ObjectState.{ObjectState}
use Rattle.arj_msg.specs.declared.message.What.{What}
use Rattle.arj_msg.specs.declared.message.What.TheVariants as what
use Rattle.arj_protocol.specs.Ask.{actor}
use Rattle.arj_protocol.specs.Copy.{Copy, ask_copy, invoke_copy}
use Rattle.arj_protocol.specs.Effect.{Served, either, reply, void}
use Rattle.arj_protocol.specs.Order.{at_number, at_uid, binding_eq, binding_less}
use Rattle.arj_protocol.specs.Server.{Kept, Server, active_binding, apply_ends, changed_by, changed_copy, first_unbound, has_ended}
use Rattle.arj_protocol.specs.Server.{invoke_kept, invoke_new, invoke_now, is_below, on_copy, other_inc, took_copy, vote_now}
use Rattle.arj_server.specs.Calls.{activated, invoked, voted}
use Rattle.arj_server.specs.Meaning.{AreBound, VoidWhere}

-- a void call, or another one that answers
void_or : {R : Type 0} (test : Bool) (s : Server) (r : Served Server R) → is_some r.reply ≡ true → VoidWhere test s (cond test (void s) r)
void_or true s r some = record { nothing = λ is. refl; answered = λ is. absurd (cc is) }
void_or false s r some = record { nothing = λ is. absurd (cc is); answered = λ is. some }

pub void_activate : (n : ℕ) (m : Activate) (s : Server) →
    VoidWhere (has_ended m.head.path s || binding_less m.binding (active_binding m.state.uid.num s)) s (activated n m s)
void_activate n m s =
    void_or (has_ended m.head.path s || binding_less m.binding (active_binding m.state.uid.num s)) s _ (by (binding_eq m.binding (active_binding m.state.uid.num s)))
  where
    by : (b : Bool) → is_some (cond b (reply s s.inc) (took_copy n m.state.uid.num m.binding m.state s)).reply ≡ true
    by true = refl
    by false = refl

asked_answers : (n : ℕ) (m : Invoke) (c : Copy) (r : Option Row) → is_some (ask_copy n m.head.path m.x m.op c r).reply ≡ true
asked_answers n m c None = refl
asked_answers n m c (Some r) = refl

new_answers : (n : ℕ) (m : Invoke) (s : Server) → is_some (invoke_new n m.head m.x m.ends m.op s).reply ≡ true
new_answers n m s = by (at_number m.x (apply_ends n m.ends s).part.objects)
  where
    by : (found : Option Copy) → is_some (on_copy m.x (invoke_copy n m.head.path m.x m.op) (apply_ends n m.ends s).part found).reply ≡ true
    by None = refl
    by (Some c) = asked_answers n m c (first_conflict (uids_of m.head.path) (object m.x) (op_mode m.op) c.rows)

kept_answers : (n : ℕ) (m : Invoke) (s : Server) (k : Option Kept) → is_some (invoke_kept n m.head m.x m.ends m.op s k).reply ≡ true
kept_answers n m s None = new_answers n m s
kept_answers n m s (Some k) = by (k.req == m.head.req)
  where
    by : (b : Bool) → is_some (cond b (reply s k.answer) (invoke_new n m.head m.x m.ends m.op s)).reply ≡ true
    by true = refl
    by false = new_answers n m s

pub void_invoke : (n : ℕ) (m : Invoke) (s : Server) →
    VoidWhere (has_ended m.head.path s || is_below m.head.req (at_uid (actor m.head.path) s.kept)) s (invoked n m s)
void_invoke n m s =
    void_or (has_ended m.head.path s || is_below m.head.req (at_uid (actor m.head.path) s.kept)) s _ (by (changed_by m.server_inc m.x m.binding s))
  where
    by : (w : Option What) → is_some (invoke_now n m.head m.x m.ends m.op s w).reply ≡ true
    by None = kept_answers n m s (at_uid (actor m.head.path) s.kept)
    by (Some w) = refl

pub void_vote : (n : ℕ) (m : Vote) (s : Server) → VoidWhere (has_ended m.head.path s) s (voted n m s)
void_vote n m s = void_or (has_ended m.head.path s) s _ (by (either (other_inc m.server_inc s.inc) (first_unbound m.objects s)))
  where
    by : (w : Option What) → is_some (vote_now n (actor m.head.path) m.ends s w).reply ≡ true
    by None = refl
    by (Some w) = refl

-- ---- a repeat

not_below : (req : ℕ) (k : Kept) → k.req ≡ req → nat_lt req k.req ≡ false
not_below req k is = rw is (itself req)
  where
    itself : (n : ℕ) → nat_lt n n ≡ false
    itself n = grind arith

same_req : (req : ℕ) (k : Kept) → k.req ≡ req → (k.req == req) ≡ true
same_req req k is = rw is (itself req)
  where
    itself : (n : ℕ) → (n == n) ≡ true
    itself n = grind arith

pub repeated : (n : ℕ) (m : Invoke) (s : Server) (k : Kept) → has_ended m.head.path s ≡ false →
    changed_by m.server_inc m.x m.binding s ≡ None → at_uid (actor m.head.path) s.kept ≡ Some k → k.req ≡ m.head.req
    → invoked n m s ≡ reply s k.answer
repeated n m s k open_path same kept req =
    (λ i. cond (open_path i || is_below m.head.req (kept i)) (void s) (invoke_now n m.head m.x m.ends m.op s (same i)))
    ∙ ((λ i. cond (not_below m.head.req k req i) (void s) (invoke_kept n m.head m.x m.ends m.op s (kept i)))
    ∙ (λ i. cond (same_req m.head.req k req i) (reply s k.answer) (invoke_new n m.head m.x m.ends m.op s)))

-- ---- a yes

first_none : (a b : Option What) → either a b ≡ None → (a ≡ None) × (b ≡ None)
first_none None b is = (refl, is)
first_none (Some w) b is = absurd (cc is)

bound_all : (s : Server) (ties : List (ℕ × Binding)) → first_unbound ties s ≡ None → AreBound s ties
bound_all s [] none = tt
bound_all s (t ∷ ts) none = (by (at_number t.0 s.objects) parts.0, bound_all s ts parts.1)
  where
    parts : (changed_copy t.1 (at_number t.0 s.objects) ≡ None) × (first_unbound ts s ≡ None)
    parts = first_none (changed_copy t.1 (at_number t.0 s.objects)) (first_unbound ts s) none

    equal : (c : Copy) (b : Bool) → cond b None (Some (what.Bind t.1 c.binding)) ≡ None → b ≡ true
    equal c true is = refl
    equal c false is = absurd (cc is)

    by : (found : Option Copy) → changed_copy t.1 found ≡ None → IsSomeAnd found (λ c. binding_eq t.1 c.binding ≡ true)
    by None is = absurd (cc is)
    by (Some c) is = equal c (binding_eq t.1 c.binding) is

same_inc : (had now : ℕ) → other_inc had now ≡ None → had ≡ now
same_inc had now none = eqb-true had now (by (had == now) none)
  where
    by : (b : Bool) → cond b None (Some (what.Inc had now)) ≡ None → b ≡ true
    by true is = refl
    by false is = absurd (cc is)

pub said_yes : (n : ℕ) (m : Vote) (s : Server) (states : List ObjectState) → (voted n m s).reply ≡ Some (voted_as.Yes states) →
    (m.server_inc ≡ s.inc) × AreBound s m.objects
said_yes n m s states is = by (has_ended m.head.path s) (either (other_inc m.server_inc s.inc) (first_unbound m.objects s)) refl is
  where
    by : (b : Bool) (w : Option What) → either (other_inc m.server_inc s.inc) (first_unbound m.objects s) ≡ w
        → (cond b (void s) (vote_now n (actor m.head.path) m.ends s w)).reply ≡ Some (voted_as.Yes states) →
        (m.server_inc ≡ s.inc) × AreBound s m.objects
    by true w e is = absurd (cc is)
    by false (Some w) e is = absurd (cc is)
    by false None e is =
        let parts = first_none (other_inc m.server_inc s.inc) (first_unbound m.objects s) e in
        (same_inc m.server_inc s.inc parts.0, bound_all s m.objects parts.1)
