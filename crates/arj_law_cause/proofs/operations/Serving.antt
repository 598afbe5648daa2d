-- A server answers an Invoke by its operation, at the value in place.
use Rattle.arj_law_parts.proofs.Words
use Words.{◌≡◌, ◌∙◌, ◌==◌, ◌++◌, ◌&&◌, ◌||◌, not, ℕ, Bool, true, false, cond, List, [], ◌∷◌, Option, Some, None, refl, sym, ap, subst}
use Words.{option_map}
use Words.{AllByRecursion, and_parts, is_some, Answer, Ask, Binding, End, Head, Header, InvokedReply, Message, Op, Uid, What, asks}
use Words.{has_op, own_class, answer_of, asked_by, response, Reply, Copy, Over, current, invoke_copy, Served, reply, void, at_number}
use Words.{at_uid}
use Words.{Kept, Server, apply_ends, changed_by, changed_copy, either, has_ended, invoke, invoke_kept, invoke_new, invoke_now, is_below}
use Words.{on_copy}
use Words.{other_inc, copy_has_op, answer_is_meant, asked_is_meant, is_meant, answers, actor, Effect, Disk, Send, Parts, Took, Void}
use Words.{Handled, Row, serve}
use Words.{handle_ask, sends_answer, with_server, object, uids_of, first_conflict, op_mode, Seen}
use Words.ask
use Words.invoked
use Words.server
use Rattle.arj_law_serial.proofs.Terms.{AreSo, CopyIsSo, keyed_found, kind_of}
use Rattle.arj_law_serial.proofs.joint.FormServers.{told_so}
use Rattle.arj_law_serial.specs.joint.Forms.{IsCopyOf, Kind}
use Rattle.arj_law_lock_view.proofs.Terms.{same_number}
use Rattle.arj_law_lock_view.proofs.moments.Answers.{Known}
use Rattle.arj_law_lock_view.specs.moments.Made.{Tells, is_again, is_kept}
use Rattle.arj_law_parts.proofs.moves.Happens.{Wide}
use Rattle.arj_law_parts.specs.moves.Moments.{Moment, up}
use Rattle.arj_protocol.specs.Copy.{ask_copy}
use Rattle.arj_law_cause.proofs.rows.Telling.{outs_in, same_reply}
use Rattle.arj_law_cause.specs.operations.Says.{Gives, gives_of, gives_so}

some_is : {A : Type 0} {a b : A} → Some a ≡ Some b → a ≡ b
some_is {A} {a} {b} is = let k : ◌≡◌ {A = Option A} (Some a) (Some b) = is in cc

-- ---- an Invoke

module _ (n : ℕ) (h : Head) (x : ℕ) (ends : List (Uid × End)) (o : Op) (a : Answer) (k : Kind) (here : x ≡ k.x) where
  abbrev Says : Served Server InvokedReply → Type 0
  Says r = r.reply ≡ Some (invoked.Answered a) → Gives o a

  abbrev All : Server → Type 0
  All s = AllByRecursion (λ (e : ℕ × Copy). CopyIsSo k.x k.class e.0 e.1) s.objects

  no_way : {A : Type 0} (q : InvokedReply) → Some q ≡ Some (invoked.Answered a) → (q ≡ invoked.Answered a → ⊥) → A
  no_way q is never = absurd (never (some_is is))

  -- the value in place is of the class
  its_class : (c : Copy) → IsCopyOf k.class c → own_class (current c.base c.stack) ≡ k.class
  its_class c its = by c.stack its.over
    where
      by : (es : List Over) → AllByRecursion (λ (e : Over). own_class e.value ≡ k.class) es → own_class (current c.base es) ≡ k.class
      by [] all = its.base
      by (e ∷ es) all = all.0

  copy_says : has_op k.class o ≡ true → (s : Server) → All s → (f : Option Copy) → at_number x s.objects ≡ f →
      (on_copy x (invoke_copy n h.path x o) s f).reply ≡ Some (invoked.Answered a) → Gives o a
  copy_says has s all None there is = no_way _ is (λ e. absurd (cc e))
  copy_says has s all (Some c) there is = by (first_conflict (uids_of h.path) (object x) (op_mode o) c.rows) is
    where
      by : (r : Option Row) → (ask_copy n h.path x o c r).reply ≡ Some (invoked.Answered a) → Gives o a
      by (Some r) e = no_way _ e (λ q. absurd (cc q))
      by None e =
          let one : invoked.Answered (answer_of o (current c.base c.stack)) ≡ invoked.Answered a = some_is e in
          let same : answer_of o (current c.base c.stack) ≡ a = cc in (
            current c.base c.stack,
            (λ i. has_op (its_class c (keyed_found (CopyIsSo k.x k.class) x s.objects c all there here) i) o) ∙ has,
            sym same,
          )

  new_says : has_op k.class o ≡ true → (s : Server) → All s → Says (invoke_new n h x ends o s)
  new_says has s all is =
      let t = (apply_ends n ends s).part in
      copy_says has t (told_so k n ends s all) (at_number x t.objects) refl is

  kept_says : has_op k.class o ≡ true → (s : Server) → All s → (f : Option Kept) → is_kept h.req f ≡ false → Says
      (invoke_kept n h x ends o s f)
  kept_says has s all None other = new_says has s all
  kept_says has s all (Some q) other = by (q.req == h.req) other
    where
      by : (c : Bool) → c ≡ false → Says (cond {A = Served Server InvokedReply} c (reply s q.answer) (invoke_new n h x ends o s))
      by true e = absurd (cc e)
      by false e = new_says has s all

  pub invoke_says : (b : Binding) (i : ℕ) (s : Server) → All s → is_again h (ask.Invoke x b i ends o) s ≡ false →
      copy_has_op o (at_number x s.objects) ≡ true → Says (invoke n h x b i ends o s)
  invoke_says b i s all new has_it = by (has_ended h.path s || is_below h.req (at_uid (actor h.path) s.kept))
    where
      -- the object has a copy, where nothing differs
      class_has : changed_by i x b s ≡ None → has_op k.class o ≡ true
      class_has same = one (at_number x s.objects) refl same has_it
        where
          none_left : (w v : Option What) → either w v ≡ None → v ≡ None
          none_left None v e = e
          none_left (Some w) v e = let no : ◌≡◌ {A = Option What} (Some w) None = e in absurd (cc no)

          one : (f : Option Copy) → at_number x s.objects ≡ f → either (other_inc i s.inc) (changed_copy b f) ≡ None →
              copy_has_op o f ≡ true →
              has_op k.class o ≡ true
          one None there e has =
              let no : ◌≡◌ {A = Option What} (changed_copy b None) None = none_left (other_inc i s.inc) (changed_copy b None) e in
              absurd (cc no)
          one (Some c) there e has =
              let its = keyed_found (CopyIsSo k.x k.class) x s.objects c all there here in (λ j. has_op ((sym its.base) j) o) ∙ has

      now : (w : Option What) → changed_by i x b s ≡ w → (not (is_some w) && is_kept h.req (at_uid (actor h.path) s.kept)) ≡ false → Says
          (invoke_now n h x ends o s w)
      now (Some w) is other e = no_way _ e (λ q. absurd (cc q))
      now None is other e = kept_says (class_has is) s all (at_uid (actor h.path) s.kept) other e

      by : (c : Bool) → Says (cond {A = Served Server InvokedReply} c (void s) (invoke_now n h x ends o s (changed_by i x b s)))
      by true e = let no : ◌≡◌ {A = Option InvokedReply} None (Some (invoked.Answered a)) = e in absurd (cc no)
      by false e = now (changed_by i x b s) refl new e

-- ---- a request that is served

-- states of the object are of its class
abbrev pub Facts : Header → ℕ → Seen → Type 0
Facts hd x S = Known S × AreSo (kind_of hd x) S

module _ (hd : Header) (x : ℕ) (k : ℕ) (d : Disk) (t v : Parts) (from : ℕ) (m : Message) (h : Head) (r : Reply) (front : List Effect)
    (M : Moment)
    (known : Wide (Facts hd x) (up k d t M)) (meant : is_meant t m ≡ true) where
  abbrev Sent : Handled → Type 0
  Sent z = z ≡ Took v (front ++ Send from (response (asked_by h) r) ∷ [])

  copies : AllByRecursion (λ (e : ℕ × Copy). CopyIsSo (kind_of hd x).x (kind_of hd x).class e.0 e.1) (let s = t.server in s.objects)
  copies =
      let f = known.2.1.0 k (record { number = k; disk = d; live = Some t })
      (λ i. cond (same_number k i) (Some (record { number = k; disk = d; live = Some t })) (M.seen.nodes k)) in
      let up = f.1 in up.server

  invoked_gives : (y : ℕ) (b : Binding) (i : ℕ) (ends : List (Uid × End)) (o : Op) → asks m ≡ Some (h, ask.Invoke y b i ends o) →
      is_again h (ask.Invoke y b i ends o) t.server ≡ false →
      Sent (serve k d t from h (ask.Invoke y b i ends o)) → gives_of x (ask.Invoke y b i ends o) r
  invoked_gives y b i ends o asking new is = by (server.invoke k h y b i ends o t.server).reply refl is
    where
      has : copy_has_op o (at_number y t.server.objects) ≡ true
      has = ap (asked_is_meant t.server) (sym asking)
          ∙ (and_parts (asked_is_meant t.server (asks m)) (answer_is_meant t.coord (answers m)) meant).0

      says : (q : InvokedReply) → (server.invoke k h y b i ends o t.server).reply ≡ Some q →
          gives_of x (ask.Invoke y b i ends o) (Reply.Invoked q)
      says (invoked.Answered a) at = λ same. invoke_says k h y ends o a (kind_of hd x) same b i t.server copies new has at
      says (invoked.Conflict u w) at = tt
      says (invoked.Changed w) at = tt

      by : (f : Option InvokedReply) → (server.invoke k h y b i ends o t.server).reply ≡ f →
          Sent (sends_answer from h (with_server t (server.invoke k h y b i ends o t.server).part)
          (server.invoke k h y b i ends o t.server).outs (option_map Reply.Invoked f)) → gives_of x (ask.Invoke y b i ends o) r
      by None at e = let no : Void [] ≡ Took v (front ++ Send from (response (asked_by h) r) ∷ []) = e in absurd (cc no)
      by (Some q) at e = subst (gives_of x (ask.Invoke y b i ends o)) (sym (same_reply from h r (Reply.Invoked q) front
          (server.invoke k h y b i ends o t.server).outs (sym (ap outs_in e)))) (says q at)

  served_gives : (a : Ask) → asks m ≡ Some (h, a) → is_again h a t.server ≡ false → Sent (serve k d t from h a) → gives_of x a r
  served_gives (ask.Invoke y b i ends o) asking new is = invoked_gives y b i ends o asking new is
  served_gives (ask.Bind y include avoid) asking new is = tt
  served_gives (ask.Load y) asking new is = tt
  served_gives (ask.Activate b st) asking new is = tt
  served_gives (ask.Record y b i g) asking new is = tt
  served_gives (ask.Vote i ties ends) asking new is = tt
  served_gives (ask.Prepare states) asking new is = tt
  served_gives (ask.Confirm grants excluded included) asking new is = tt

pub tells_gives : (hd : Header) (x : ℕ) → Tells (Wide (Facts hd x)) (gives_so x)
tells_gives hd x k d t v from m h a r front M known there other meant asking new is =
    served_gives hd x k d t v from m h r front M known meant a asking new (sym (ap (handle_ask k d t from m) asking) ∙ is)
