-- What a server does with one object goes in the machine.
use Rattle.arj_law_parts.proofs.Words
use Words.{◌≡◌, ◌≢◌, ◌<◌, ◌∙◌, ◌==◌, ◌++◌, ℕ, List, [], ◌∷◌, Bool, true, false, cond, None, refl, sym, ap, subst, inl, inr, arith, eqb-true}
use Words.{append_assoc, uid_is, is_write, Path, Op, Uid, Value, ObjectState, Binding, Mode, object, last_uid, uids_of, tops_of, op_mode}
use Words.{writes, value_after, first_conflict, actor, Base, Copy, Over, current, is_of, run_copy, taken_copy, written, binding_number}
use Words.mode
use Rattle.arj_law_lock_view.proofs.Terms
use Terms.{Act, In, at_act, top, next, stay, step, Clear, raise, State, Entry, Request, Server, ActivateCopy, Apply, Refuse, at_here, Acts}
use Terms.{IsCaller, AreHeld, Codes, IsNew, IsOver, KeepsServer, OnlyServer, SeesCopy, SeesOvers, answer_for, request_for, base_code}
use Terms.{state_code, writer_in, Goes, SeesRows, strength}
use Terms.machine as state
use Rattle.arj_law_lock.specs.machine.{Actions.at, Machine.applied, Steps.value_over}
use Rattle.arj_law_lock_view.proofs.view.RowSteps.{clear_seen, raised_seen}
use Rattle.arj_law_lock_view.specs.view.Copies.{ActivationsAreSeen, OperationsAreSeen, RefusalsAreSeen}
use Rattle.arj_protocol.specs.Copy.{wrote}
use Rattle.arj_law_lock.specs.machine.Rows as machine

-- another server stays
pub server_else : (S : State) (n k : ℕ) (v : Server) → k ≢ n → at S.server n v k ≡ S.server k
server_else S n k v other = by (k == n) refl
  where
    by : (b : Bool) → (k == n) ≡ b → cond b v (S.server k) ≡ S.server k
    by true e = absurd (other (eqb-true k n e))
    by false e = refl

-- ---- modes

pub mode_is : (o : Op) → strength (op_mode o) ≡ machine.mode (writes o)
mode_is o = by (op_mode o)
  where
    by : (m : Mode) → strength m ≡ machine.mode (is_write m)
    by mode.Read = refl
    by mode.Exclude = refl
    by mode.Write = refl

-- ---- values

pub value_seen : (act : Acts) (code : Codes) (b : Base) (base : ℕ) (stack : List Over) (log : List Entry) → base ≡ base_code act code b →
    SeesOvers act code stack log → value_over base log ≡ code (current b stack) (writer_in act b stack)
value_seen act code b base [] log under none = ap (value_over base) none ∙ under
value_seen act code b base (o ∷ os) log under sees =
    let own = sees.0 in let over = sees.3 in
    ap (value_over base) (sees.2 ∙ ap (λ (es : List Entry). es ++ sees.1) over.are) ∙ over.value

-- what is held together
held_both : (a : Act) (es fs : List Entry) → AreHeld a es → AreHeld a fs → AreHeld a (es ++ fs)
held_both a [] fs h k = k
held_both a (e ∷ es) fs h k = (h.0, held_both a es fs h.1 k)

-- what an action writes, or gets of a nested one, is the newest
pub put_seen : (act : Acts) (code : Codes) (holder : List Uid) (tops : ℕ) (v : Value) (own : List Entry) (stack : List Over)
    (log : List Entry) → IsOver act code (record { holder = holder; tops = tops; value = v }) own → SeesOvers act code stack log
    → SeesOvers act code (written holder tops v stack) (own ++ log)
put_seen act code holder tops v own [] log over none = (own, [], ap (λ (es : List Entry). own ++ es) none, over, refl)
put_seen act code holder tops v own (o ∷ os) log over sees = by (is_of (last_uid holder) o) refl
  where
    by : (b : Bool) → is_of (last_uid holder) o ≡ b →
        SeesOvers act code (cond b (record o { value = v } ∷ os) (record { holder = holder; tops = tops; value = v } ∷ o ∷ os)) (own ++ log)
    by true same =
        let under = sees.3 in
        let mine : AreHeld (act (last_uid o.holder)) own = subst (λ (w : Uid). AreHeld (act w) own)
        (sym (uid_is (last_uid o.holder) (last_uid holder) same)) over.held in (
          own ++ sees.0,
          sees.1,
          ap (λ (es : List Entry). own ++ es) sees.2 ∙ sym (append_assoc own sees.0 sees.1),
          record {
            newest = over.newest;
            older = over.older ++ sees.0;
            are = ap (λ (es : List Entry). es ++ sees.0) over.are;
            held = held_both (act (last_uid o.holder)) own sees.0 mine under.held;
            value = over.value ∙ ap (λ (w : Uid). code v (top (act w))) (sym (uid_is (last_uid o.holder) (last_uid holder) same));
            deep = under.deep;
          },
          sees.4,
        )
    by false other = (own, log, refl, over, sees)

-- ---- an operation

module _ (act : Acts) (code : Codes) (n x number : ℕ) (p : Path) (o : Op) (c : Copy) (S : State) (caller : IsCaller act p)
    (free : first_conflict (uids_of p) (object x) (op_mode o) c.rows ≡ None) (sees : SeesCopy act code x c (S.server n))
    (new : IsNew S n (request_for act p number o c)) where
  abbrev q : Request
  q = request_for act p number o c

  abbrev met : Value
  met = current c.base c.stack

  abbrev left : ℕ
  left = code (value_after o met) (top (act (actor p)))

  abbrev T : State
  T = next (Apply n q left) S

  clear : Clear (let v = S.server n in v.rows) (act (actor p)) (machine.mode (writes o))
  clear = subst (Clear (let v = S.server n in v.rows) (act (actor p))) (mode_is o)
      (clear_seen act (object x) (uids_of p) (op_mode o) c.rows (let v = S.server n in v.rows) caller.along sees.rows free)

  value_met : value_over (let v = S.server n in v.base) (let v = S.server n in v.log) ≡ code met (writer_in act c.base c.stack)
  value_met = value_seen act code c.base (let v = S.server n in v.base) c.stack (let v = S.server n in v.log) sees.base sees.overs

  overs_after : SeesOvers act code (wrote p o met c.stack) (let v = applied (S.server n) q left in v.log)
  overs_after = by (writes o)
    where
      mine : Entry
      mine = record { holder = act (actor p); by = act (actor p); request = number; gives = left }

      by : (w : Bool) → SeesOvers act code (cond w (written (uids_of p) (tops_of p) (value_after o met) c.stack) c.stack)
          (cond w (mine ∷ (let v = S.server n in v.log)) (let v = S.server n in v.log))
      by true = put_seen act code (uids_of p) (tops_of p) (value_after o met) (mine ∷ []) c.stack (let v = S.server n in
          v.log) (record { newest = mine; older = []; are = refl; held = (refl, tt); value = refl; deep = caller.deep }) sees.overs
      by false = sees.overs

  rows_after :
      SeesRows act (object x) (let r = run_copy n p x o c in let d = r.part in d.rows) (let v = applied (S.server n) q left in v.rows)
  rows_after = subst (λ (k : ℕ). SeesRows act (object x) (let r = run_copy n p x o c in let d = r.part in
      d.rows) (raise (let v = S.server n in v.rows) (act (actor p)) k)) (mode_is o)
      (raised_seen act (object x) (uids_of p) (tops_of p) (op_mode o) c.rows (let v = S.server n in v.rows) sees.rows)

  copy_after : SeesCopy act code x (let r = run_copy n p x o c in r.part) (applied (S.server n) q left)
  copy_after = record { active = sees.active; base = sees.base; overs = overs_after; rows = rows_after }

  pub operation_goes : Goes S (λ V. SeesCopy act code x (let r = run_copy n p x o c in r.part) (V.server n) × OnlyServer n S V
      × KeepsServer (at_act (let v = S.server n in v.request) (act (actor p)) number) (S.server n) (V.server n)
      × In (state.Invoked (answer_for act code S q o c)) V.net)
  operation_goes = record {
    state = T;
    run = step (Apply n q left) (new.sent, new.here, new.later, clear) stay;
    holds = (
      subst (SeesCopy act code x (let r = run_copy n p x o c in r.part)) (sym (at_here S.server n (applied (S.server n) q left)))
          copy_after,
      record { rest = refl; others = λ k other. server_else S n k (applied (S.server n) q left) other; sent = λ m i. inr i },
      subst (KeepsServer (at_act (let v = S.server n in v.request) (act (actor p)) number) (S.server n))
          (sym (at_here S.server n (applied (S.server n) q left))) (record { incarnation = refl; voted = refl; request = refl }),
      inl (ap (λ (k : ℕ). state.Invoked (record { request = q; place = S.now; sees = k; gives = left })) (sym value_met)),
    );
  }

pub operations_are_seen : OperationsAreSeen
operations_are_seen act code n x number p o c S one caller free sees new = operation_goes act code n x number p o c S caller free sees new

-- ---- a refusal

module _ (act : Acts) (code : Codes) (n x number : ℕ) (p : Path) (o : Op) (c : Copy) (S : State) where
  -- the server that has seen the request
  abbrev heard : Server
  heard = let v = S.server n in record v { request = at_act v.request (act (actor p)) number }

  refusal_goes : SeesCopy act code x c (S.server n) → IsNew S n (request_for act p number o c)
      → Goes S (λ V. SeesCopy act code x c (V.server n) × OnlyServer n S V × KeepsServer (at_act (let v = S.server n in
      v.request) (act (actor p)) number) (S.server n) (V.server n) × In (state.Refused (request_for act p number o c)) V.net)
  refusal_goes sees new = record {
    state = next (Refuse n (request_for act p number o c)) S;
    run = step (Refuse n (request_for act p number o c)) (new.sent, new.here, new.later) stay;
    holds = (
      subst (SeesCopy act code x c) (sym (at_here S.server n heard))
          (record { active = sees.active; base = sees.base; overs = sees.overs; rows = sees.rows }),
      record { rest = refl; others = λ k other. server_else S n k heard other; sent = λ m i. inr i },
      subst (KeepsServer (at_act (let v = S.server n in v.request) (act (actor p)) number) (S.server n)) (sym (at_here S.server n heard))
          (record { incarnation = refl; voted = refl; request = refl }),
      inl refl,
    );
  }

pub refusals_are_seen : RefusalsAreSeen
refusals_are_seen act code n x number p o c S sees new = refusal_goes act code n x number p o c S sees new

-- ---- an activation

module _ (act : Acts) (code : Codes) (n x : ℕ) (b : Binding) (st : ObjectState) (S : State) where
  abbrev given : ℕ
  given = state_code act code st

  -- the server with the copy that it took
  abbrev taken : Server
  taken = let v = S.server n in record v { active = binding_number b; base = given; log = []; rows = λ a. 0 }

  activation_goes : In (state.Activate (binding_number b) given) S.net → (let c = S.binding (binding_number b) in c.server) ≡ n →
      (let v = S.server n in v.active) < binding_number b
      → Goes S (λ V. SeesCopy act code x (taken_copy b st) (V.server n) × OnlyServer n S V × KeepsServer (let v = S.server n in
      v.request) (S.server n) (V.server n) × In (state.Activated (binding_number b) (let v = S.server n in v.incarnation)) V.net)
  activation_goes sent server above = record {
    state = next (ActivateCopy n (binding_number b) given) S;
    run = step (ActivateCopy n (binding_number b) given) (sent, server, above) stay;
    holds = (
      subst (SeesCopy act code x (taken_copy b st)) (sym (at_here S.server n taken))
          (record { active = refl; base = refl; overs = refl; rows = λ a. omega arith }),
      record { rest = refl; others = λ k other. server_else S n k taken other; sent = λ m i. inr i },
      subst (KeepsServer (let v = S.server n in v.request) (S.server n)) (sym (at_here S.server n taken))
          (record { incarnation = refl; voted = refl; request = refl }),
      inl refl,
    );
  }

pub activations_are_seen : ActivationsAreSeen
activations_are_seen act code n x b st S sent server above = activation_goes act code n x b st S sent server above
