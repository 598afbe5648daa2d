-- Bindings and incarnations at a server: of its copies, of what it is asked, and of what it answers.
use Rattle.arj_law_parts.proofs.Words
use Words.{◌≡◌, ◌==◌, ◌||◌, ℕ, Bool, true, false, cond, List, [], ◌∷◌, Option, Some, None, IfSome, refl, AllByRecursion}
use Words.{Binding, End, Head, InvokedReply, ObjectState, Op, Path, Row, Uid, VotedReply, What, object, uids_of, actor, op_mode}
use Words.{first_conflict, last_uid, Copy, Over, ask_copy, end_copy, invoke_copy, is_granted, is_top_over, over_of, overs_committed, settled}
use Words.{taken_copy, folded, Did, Say, Served, did_nothing, either, reply, void, at_number, at_uid, binding_eq, binding_less}
use Words.{Kept, Server, activate, active_binding, apply_ends, changed_by, changed_copy, end_new, end_one, first_unbound, has_ended, invoke}
use Words.{invoke_kept, invoke_new, invoke_now, is_below, is_told, keeps, new_server, on_copy, other_inc, took_copy, vote, vote_now}
use Words.body
use Words.ending
use Words.part
use Words.server
use Words.what
use Rattle.arj_law_parts.proofs.parts.LivesNamed.{keyed_each, keyed_found, keyed_put}
use Rattle.arj_law_runs.proofs.addresses.Lists.{all_at_uid, all_put, all_without}
use Rattle.arj_msg.specs.Fields.{BindingFits}
use Rattle.arj_msg.specs.InForm.{IsObject, IsShort, WhatFits}
use Rattle.arj_law_cause.proofs.numbers.Calls.{none_fits}
use Rattle.arj_law_cause.proofs.numbers.Fits.{AllNums, InvokedNums, VotedNums, both_nums}
use Rattle.arj_protocol.specs.Server.{taken_end}

abbrev CopyNums : ℕ → Copy → Type 0
CopyNums x c = BindingFits c.binding

abbrev KeptReply : Uid × Kept → Type 0
KeptReply k = InvokedNums (let q = k.1 in q.answer)

-- a server's own incarnation, the bindings of its copies, and what it answered
pub record ServerNums (s : Server) : Type 0 where
  pub inc : IsShort s.inc
  pub copies : AllByRecursion (λ (e : ℕ × Copy). CopyNums e.0 e.1) s.objects
  pub kept : AllByRecursion KeptReply s.kept

pub new_server_nums : (inc : ℕ) → IsShort inc → ServerNums (new_server inc)
new_server_nums inc its = record { inc = its; copies = tt; kept = tt }

-- ---- ends

committed_binding : (u : Uid) (o : Option Over) (c : Copy) → BindingFits c.binding → BindingFits (let d = overs_committed u o c in d.binding)
committed_binding u None c its = its
committed_binding u (Some e) c its = by (is_top_over e)
  where
    by : (b : Bool) → BindingFits (let d = cond {A = Copy} b (settled u e c) (record c { stack = folded u c.stack }) in d.binding)
    by true = its
    by false = its

ended_nums : (u : Uid) (e : End) (x : ℕ) (c : Copy) → CopyNums x c → CopyNums x (end_copy u e c)
ended_nums u ending.Commit x c its = committed_binding u (over_of u c.stack) c its
ended_nums u ending.Abort x c its = its

abbrev Does : {R : Type 0} → Served Server R → Type 0
Does r = ServerNums r.part × AllNums r.outs

end_one_nums : (n : ℕ) (u : Uid) (e : End) (s : Server) → ServerNums s → (let d = end_one n u e s in ServerNums d.part × AllNums d.outs)
end_one_nums n u e s its = by (is_told u s)
  where
    lines : (f : End) (b : Bool) → AllNums (cond b (Say (body.Told n u f part.Server) ∷ []) [])
    lines f true = (tt, tt)
    lines f false = tt

    by : (b : Bool) → (let d = cond {A = Did Server} b (did_nothing s) (end_new n u (taken_end u e s) s) in
        ServerNums d.part × AllNums d.outs)
    by true = (its, tt)
    by false = (
      record {
        inc = its.inc;
        copies = keyed_each CopyNums (λ x. end_copy u (taken_end u e s)) (ended_nums u (taken_end u e s)) s.objects its.copies;
        kept = all_without KeptReply u s.kept its.kept;
      },
      lines (taken_end u e s) (server.has_locks u s),
    )

pub ends_nums : (n : ℕ) (es : List (Uid × End)) (s : Server) → ServerNums s → (let d = apply_ends n es s in ServerNums d.part × AllNums d.outs)
ends_nums n [] s its = (its, tt)
ends_nums n (e ∷ es) s its =
    let f = end_one_nums n e.0 e.1 s its in
    let r = ends_nums n es (let d = end_one n e.0 e.1 s in d.part) f.0 in
    (r.0, both_nums (let d = end_one n e.0 e.1 s in d.outs) (let d = apply_ends n es (let z = end_one n e.0 e.1 s in z.part) in d.outs) f.1 r.1)

-- ---- a copy that is taken

pub activate_nums : (n : ℕ) (p : Path) (b : Binding) (st : ObjectState) (s : Server) → BindingFits b → IsObject st.uid.num → ServerNums s →
    (let r = activate n p b st s in Does r × IfSome r.reply IsShort)
activate_nums n p b st s fits object its =
    by (has_ended p s || binding_less b (active_binding st.uid.num s)) (binding_eq b (active_binding st.uid.num s))
  where
    by : (over equal : Bool) → (let r = cond {A = Served Server ℕ} over (void s)
        (cond equal (reply s s.inc) (took_copy n st.uid.num b st s)) in Does r × IfSome r.reply IsShort)
    by true equal = ((its, tt), tt)
    by false true = ((its, tt), its.inc)
    by false false = (
      (
        record { inc = its.inc; copies = keyed_put CopyNums st.uid.num (taken_copy b st) s.objects fits its.copies; kept = its.kept },
        ((object, fits), tt),
      ),
      its.inc,
    )

-- ---- what differs

inc_differs : (i j : ℕ) → IsShort i → IsShort j → IfSome (other_inc i j) WhatFits
inc_differs i j a b = by (i == j)
  where
    by : (c : Bool) → IfSome (cond {A = Option What} c None (Some (what.Inc i j))) WhatFits
    by true = tt
    by false = (a, b)

binding_differs : (b c : Binding) → BindingFits b → BindingFits c → IfSome (server.other_binding b c) WhatFits
binding_differs b c x y = by (binding_eq b c)
  where
    by : (q : Bool) → IfSome (cond {A = Option What} q None (Some (what.Bind b c))) WhatFits
    by true = tt
    by false = (x, y)

copy_differs : (x : ℕ) (b : Binding) (s : Server) → BindingFits b → ServerNums s → IfSome (changed_copy b (at_number x s.objects)) WhatFits
copy_differs x b s fits its = by (at_number x s.objects) refl
  where
    by : (o : Option Copy) → at_number x s.objects ≡ o → IfSome (changed_copy b o) WhatFits
    by None there = (fits, none_fits)
    by (Some c) there = binding_differs b c.binding fits (keyed_found CopyNums x s.objects c its.copies there)

first_differs : (o q : Option What) → IfSome o WhatFits → IfSome q WhatFits → IfSome (either o q) WhatFits
first_differs None q a b = b
first_differs (Some w) q a b = a

-- ---- calls

module _ (n : ℕ) (h : Head) (x : ℕ) (o : Op) where
  abbrev Left : Served Server InvokedReply → Type 0
  Left r = Does r × IfSome r.reply InvokedNums

  granted : (rows : List Row) → AllNums (cond (is_granted (object x) (last_uid (uids_of h.path)) (op_mode o) rows) []
      (Say (body.Granted n (last_uid (uids_of h.path)) (object x) (op_mode o)) ∷ []))
  granted rows = by (is_granted (object x) (last_uid (uids_of h.path)) (op_mode o) rows)
    where
      by : (b : Bool) → AllNums (cond b [] (Say (body.Granted n (last_uid (uids_of h.path)) (object x) (op_mode o)) ∷ []))
      by true = tt
      by false = (tt, tt)

  copy_nums : (c : Copy) → CopyNums x c → (r : Option Row) →
      (let a = ask_copy n h.path x o c r in (CopyNums x a.part × AllNums a.outs) × IfSome a.reply InvokedNums)
  copy_nums c its (Some r) = ((its, tt), tt)
  copy_nums c its None = ((its, granted c.rows), tt)

  on_copy_nums : (s : Server) → ServerNums s → (f : Option Copy) → at_number x s.objects ≡ f → Left (on_copy x (invoke_copy n h.path x o) s f)
  on_copy_nums s its None there = ((its, tt), (none_fits, none_fits))
  on_copy_nums s its (Some c) there =
      let a = copy_nums c (keyed_found CopyNums x s.objects c its.copies there) (first_conflict (uids_of h.path) (object x) (op_mode o) c.rows) in (
        (
          record {
            inc = its.inc;
            copies = keyed_put CopyNums x (let z = invoke_copy n h.path x o c in z.part) s.objects a.0.0 its.copies;
            kept = its.kept;
          },
          a.0.1,
        ),
        a.1,
      )

  pub invoke_nums : (b : Binding) (i : ℕ) (ends : List (Uid × End)) (s : Server) → BindingFits b → IsShort i → ServerNums s →
      Left (invoke n h x b i ends o s)
  invoke_nums b i ends s fits short its = by (has_ended h.path s || is_below h.req (at_uid (actor h.path) s.kept))
    where
      stays : (a : Option InvokedReply) (z : Server) → IfSome a InvokedNums → ServerNums z → ServerNums (keeps (actor h.path) h.req a z)
      stays None z says so = so
      stays (Some a) z says so = record {
        inc = so.inc;
        copies = so.copies;
        kept = all_put KeptReply (actor h.path) (record { req = h.req; answer = a }) z.kept (λ w. says) so.kept;
      }

      new : Left (invoke_new n h x ends o s)
      new =
          let d = apply_ends n ends s in
          let z = d.part in
          let r = on_copy x (invoke_copy n h.path x o) z (at_number x z.objects) in
          let t = ends_nums n ends s its in
          let a = on_copy_nums z t.0 (at_number x z.objects) refl in
          ((stays r.reply r.part a.1 a.0.0, both_nums d.outs r.outs t.1 a.0.1), a.1)

      again : (q : Option Kept) → at_uid (actor h.path) s.kept ≡ q → Left (invoke_kept n h x ends o s q)
      again None there = new
      again (Some q) there = one (q.req == h.req)
        where
          one : (c : Bool) → Left (cond {A = Served Server InvokedReply} c (reply s q.answer) (invoke_new n h x ends o s))
          one true = ((its, tt), all_at_uid (λ (k : Kept). InvokedNums k.answer) (actor h.path) q s.kept its.kept there)
          one false = new

      now : (w : Option What) → IfSome w WhatFits → Left (invoke_now n h x ends o s w)
      now (Some w) says = ((its, tt), says)
      now None says = again (at_uid (actor h.path) s.kept) refl

      by : (c : Bool) → Left (cond {A = Served Server InvokedReply} c (void s) (invoke_now n h x ends o s (changed_by i x b s)))
      by true = ((its, tt), tt)
      by false = now (changed_by i x b s) (first_differs (other_inc i s.inc) (changed_copy b (at_number x s.objects))
          (inc_differs i s.inc short its.inc) (copy_differs x b s fits its))

-- ---- votes

unbound_nums : (ties : List (ℕ × Binding)) (s : Server) → AllByRecursion (λ (e : ℕ × Binding). BindingFits e.1) ties → ServerNums s →
    IfSome (first_unbound ties s) WhatFits
unbound_nums [] s all its = tt
unbound_nums (t ∷ ts) s all its = first_differs (changed_copy t.1 (at_number t.0 s.objects)) (first_unbound ts s)
    (copy_differs t.0 t.1 s all.0 its) (unbound_nums ts s all.1 its)

pub vote_nums : (n : ℕ) (p : Path) (i : ℕ) (ties : List (ℕ × Binding)) (ends : List (Uid × End)) (s : Server) → IsShort i →
    AllByRecursion (λ (e : ℕ × Binding). BindingFits e.1) ties → ServerNums s →
    (let r = vote n p i ties ends s in Does r × IfSome r.reply VotedNums)
vote_nums n p i ties ends s short all its = by (has_ended p s)
  where
    Yes : Served Server VotedReply → Type 0
    Yes r = Does r × IfSome r.reply VotedNums

    now : (w : Option What) → IfSome w WhatFits → Yes (vote_now n (actor p) ends s w)
    now (Some w) says = ((its, tt), says)
    now None says = let t = ends_nums n ends s its in let f = t.0 in
        ((record { inc = f.inc; copies = f.copies; kept = f.kept }, t.1), tt)

    by : (c : Bool) → Yes (cond {A = Served Server VotedReply} c (void s)
        (vote_now n (actor p) ends s (either (other_inc i s.inc) (first_unbound ties s))))
    by true = ((its, tt), tt)
    by false = now (either (other_inc i s.inc) (first_unbound ties s)) (first_differs (other_inc i s.inc) (first_unbound ties s)
        (inc_differs i s.inc short its.inc) (unbound_nums ties s all its))
