-- Values where a request is applied, a commit comes to a copy, a binding is recorded.
use Rattle.arj_law_lock.proofs.Terms
use Terms.{◌≡◌, ◌≢◌, ◌≤◌, ◌<◌, ◌⊎◌, ℕ, List, [], ◌∷◌, Bool, true, false, inl, inr, refl, sym, ◌∙◌, ap, subst, arith, Act, Root, Sub, same}
use Terms.{on, root, top, is_action, In, mode, Entry, Server, Call, Request, Answer, Message, Recorded, Invoke, Invoked, State, Alive}
use Terms.{Newest, IsLast, Survives, IsCurrent, filter, not, cond, max, at, pass, Guard, next, applied, answer_of, Apply, PassTop, Record}
use Terms.{held_value, value_over, Naming, lowered}
use Rattle.arj_law_lock.proofs.machine
use machine.{CallSteps.top_acts, Later.Later, Rows.pass_other, ValueActions.fine_pending, ValueSteps.same_actions}
use machine.Claims.{server_of, IsUp, GoesOn, Pending, Asked, Holds}
use machine.Paths.{by_cases, differ, same_is, same_self, on_top, on_trans, top_root, top_of, on_root, on_self, above_top, at_here}
use machine.Paths.{act_cases, act_here, one_top}
use machine.ValueClaims.{Clean, Fine, Ok, Mine, Matches, rest, NoneWaits, Logged, calm, bad, waiting, EntryHolds, CopyHolds, Used, HasEntry}
use machine.ValueClaims.{SeesNow, NoEntry, Says, Values}
use machine.ValueJoin.{still_self, join_full, whole_on, logs_still, fresh_still, stay_still, fresh_log_still}
use machine.ValueLasts.{ValueLater, clean_alive, survives_clean, survives_ok}
use machine.ValueLogs.{in_filter, filter_in, not_true, true_not, logged_calm, folded, meets, dec_fine}
use machine.ValueServers.{server_values, copy_after, copy_like, here, survives_of}

-- Values where a request is applied, a top's commit comes to a copy, and a binding is recorded.

survives_all : (s : State) → Values s → (a : Act) → is_action a ≡ true → Survives s a → Fine s a × ((s.action (top a)).stage ≡ 3)
survives_all s v a act f = ((survives_ok s (survives_clean s v.doomed v.roots) a act f).0, f (top a) (on_top a) (top_acts a act))

held_none : (m : Act) (base : ℕ) (es : List Entry) → ((e : Entry) → In e es → same e.holder m ≡ false) → held_value m base es ≡ base
held_none m base [] f = refl
held_none m base (e ∷ es) f = (λ i. cond (f e (inl refl) i) e.gives (held_value m base es)) ∙ held_none m base es (λ d i. f d (inr i))

filter_all : (p : Entry → Bool) (es : List Entry) → ((e : Entry) → In e es → p e ≡ true) → filter p es ≡ es
filter_all p [] f = refl
filter_all p (e ∷ es) f =
    (λ i. cond (f e (inl refl) i) (e ∷ filter p es) (filter p es)) ∙ ap (λ (ds : List Entry). e ∷ ds) (filter_all p es (λ d i. f d (inr i)))

filter_none : (p : Entry → Bool) (es : List Entry) → ((e : Entry) → In e es → p e ≡ false) → filter p es ≡ []
filter_none p [] f = refl
filter_none p (e ∷ es) f = (λ i. cond (f e (inl refl) i) (e ∷ filter p es) (filter p es)) ∙ filter_none p es (λ d i. f d (inr i))

some_below : (m : Act) (es : List Entry) →
    ((e : Entry) → In e es → on e.holder m ≡ false) ⊎ ((e : Entry) × In e es × (on e.holder m ≡ true))
some_below m [] = inl (λ e i. absurd i)
some_below m (e ∷ es) = by (by_cases (on e.holder m)) (some_below m es)
  where
    by : (on e.holder m ≡ true) ⊎ (on e.holder m ≡ false) → ((d : Entry) → In d es → on d.holder m ≡ false) ⊎ ((d : Entry) × In d es × (on
        d.holder m ≡ true)) → ((d : Entry) → In d (e ∷ es) → on d.holder m ≡ false) ⊎ ((d : Entry) × In d (e ∷ es) × (on d.holder m ≡ true))
    by (inl t) r = inr (e, inl refl, t)
    by (inr f) (inl g) = inl (λ d i. elim i [ inl is ↦ subst (λ (x : Entry). on x.holder m ≡ false) (sym is) f | inr j ↦ g d j ])
    by (inr f) (inr g) = inr (g.0, inr g.1, g.2)

-- all writes of one log stand below one top
pub one_writer : (s : State) → Holds s → Values s → (n : ℕ) (d e : Entry) → In d (s.server n).log → In e (s.server n).log →
    top d.holder ≡ top e.holder
one_writer s h v n d e i j =
    let o = v.logs n d i in let p = v.logs n e j in
    elim (h.servers n d.holder e.holder o.row (let l = p.row in omega (arith, l)))
    [ inl q ↦ one_top d.holder e.holder p.holder q | inr q ↦ sym (one_top e.holder d.holder o.holder q) ]

pub value_pass_top : (s : State) (n u j : ℕ) → Guard (PassTop n u j) s → Holds s → Values s → Later s (next (PassTop n u j) s) →
    Values (next (PassTop n u j) s)
value_pass_top s n u j guard h v later = server_values s h v n x s.net later (inl (λ b. omega arith)) logs
    (copy_like s h v n x s.net later (inl (λ b. omega arith)) (λ one. refl)
    (λ current. let k = v.fresh n (one_of current) in subst (λ (y : ℕ). IsLast s y s.calls)
    (sym (held_none m (s.server n).base (s.server n).log (λ e i. absurd (k.log current e i)))) (k.base current))
    (λ current e i. (v.fresh n (one_of current)).log current e (in_filter p e (s.server n).log i).0))
    copy
    (λ b named e f i pend.
    inr (f, filter_in p f (s.server n).log i (true_not (on f.holder m) (pending_stays f i pend.waits pend.alive)), refl, refl, refl))
    (λ e i. inl (e, (in_filter p e (s.server n).log i).0, refl, refl, refl)) (λ y i. inl i)
  where
    m : Act
    m = Sub (Root u) j

    p : Entry → Bool
    p = λ e. not (on e.holder (Sub (Root u) j))

    x : Server
    x = record (s.server n) {
      rows = pass (s.server n).rows (Root u) j;
      base = held_value (Sub (Root u) j) (s.server n).base (s.server n).log;
      log = filter (λ e. not (on e.holder (Sub (Root u) j))) (s.server n).log;
    }

    t : State
    t = next (PassTop n u j) s

    one_of : IsCurrent s.naming (s.binding (s.server n).active).maker (s.server n).active → 1 ≤ (s.server n).active
    one_of current = let q = current.present in let f = h.naming.first_above in omega (arith, q, f)

    below : (e : Entry) → In e (s.server n).log → on e.holder m ≡ true → on e.by m ≡ true
    below e i o = on_trans e.by e.holder m (v.logs n e i).path o

    pending_stays : (e : Entry) → In e (s.server n).log → (s.action e.by).waits ≡ true → Alive s e.by → on e.holder m ≡ false
    pending_stays e i w alive = elim (by_cases (on e.holder m))
        [ inr f ↦ f | inl o ↦ absurd (let z = v.path e.by w alive m (below e i o) refl in let three = guard.0 in omega (arith, z, three)) ]

    not_m : (e : Entry) → on e.holder m ≡ false → same e.holder m ≡ false
    not_m e f = elim (by_cases (same e.holder m))
        [ inl q ↦ differ (subst (λ (y : Act). on e.holder y ≡ true) (same_is e.holder m q) (on_self e.holder)) f | inr g ↦ g ]

    no_root : (a : Act) → is_action a ≡ true → same a (Root u) ≡ false
    no_root (Root k) e = let never : false ≡ true = e in absurd (cc)
    no_root (Sub a k) e = refl

    logs : (e : Entry) → In e x.log → EntryHolds t n e
    logs e i =
        let q = in_filter p e (s.server n).log i in
        let o = v.logs n e q.0 in
        record {
          acts = o.acts;
          path = o.path;
          holder = o.holder;
          row = (let r : (at s.server n x n).rows e.holder ≡ pass (s.server n).rows (Root u) j e.holder = ap
              (λ (y : Server). y.rows e.holder) (at_here s.server n x) in let k = pass_other (s.server n).rows (Root u) j e.holder
              (not_m e (not_true (on e.holder m) q.1)) (no_root e.holder o.holder) in let l = o.row in omega (arith, r, k, l));
          merged = o.merged;
          request = (let l = o.request in let r : (at s.server n x n).request e.by ≡ (s.server n).request e.by = ap
              (λ (y : Server). y.request e.by) (at_here s.server n x) in omega (arith, l, r));
          asked = o.asked;
        }

    copy : (s.binding s.naming.recorded).server ≡ n → s.naming.first ≤ s.naming.recorded → IsUp t s.naming.recorded →
        IsUp s s.naming.recorded → Logged t x.base x.log s.calls
    copy e present up old = by (some_below m (s.server n).log)
      where
        by : ((d : Entry) → In d (s.server n).log → on d.holder m ≡ false)
            ⊎ ((d : Entry) × In d (s.server n).log × (on d.holder m ≡ true)) → Logged t x.base x.log s.calls
        by (inl none') =
            subst (λ (y : ℕ). Logged t y x.log s.calls) (sym (held_none m (s.server n).base (s.server n).log (λ d i. not_m d (none' d i))))
            (subst (λ (es : List Entry). Logged t (s.server n).base es s.calls)
            (sym (filter_all p (s.server n).log (λ d i. true_not (on d.holder m) (none' d i))))
            (copy_after s h v n x s.net later (inl (λ b. omega arith)) present old e))
        by (inr (d0, i0, o0)) = subst (λ (es : List Entry). Logged t x.base es s.calls)
            (sym (filter_none p (s.server n).log (λ d i. ap not (under' d i)))) (calm (λ d i. absurd i) (rest f.0 f.1))
          where
            under' : (d : Entry) → In d (s.server n).log → on d.holder m ≡ true
            under' d i =
                subst (λ (y : Act). on d.holder y ≡ true) (one_writer s h v n d d0 i i0 ∙ top_of d0.holder m refl o0) (on_top d.holder)

            matches : Matches s (s.server n).base (s.server n).log s.calls
            matches = logged_calm s (s.server n).base (s.server n).log s.calls
                (λ d i w fine. differ (under' d i) (pending_stays d i w.1 (clean_alive s d.by fine.0)))
                (subst (λ (k : ℕ). Logged s (s.server k).base (s.server k).log s.calls) e (v.copy present old))

            whole : (d : Entry) → In d (s.server n).log →
                ((same d.holder m ≡ true) × Survives s d.by) ⊎ ((same d.holder m ≡ false) × (Fine s d.by → ⊥))
            whole d i = elim (by_cases (same d.holder m)) [
              | inl q ↦ inl (q, λ y o act. held d (same_is d.holder m q) i y o act (by_cases (on d.holder y)))
              | inr q ↦ inr (
                q,
                λ fine. elim (guard.1 d i (under' d i)) [
                  | inl is ↦ differ (subst (λ (y : Act). same d.holder y ≡ true) is (same_self d.holder)) q
                  | inr sp ↦ elim sp.2
                      [ inl four ↦ (let l = (fine.0 sp.0 sp.1).0 in omega (arith, l, four)) | inr doom ↦ differ doom (fine.0 sp.0 sp.1).1 ]
                ],
              )
            ]
              where
                held : (d : Entry) → d.holder ≡ m → In d (s.server n).log → (y : Act) → on d.by y ≡ true → is_action y ≡ true →
                    (on d.holder y ≡ true) ⊎ (on d.holder y ≡ false) → (s.action y).stage ≡ 3
                held d is i y o act (inl q) = elim (above_top m y refl (subst (λ (z : Act). on z y ≡ true) is q))
                    [ inl k ↦ ap (λ (z : Act). (s.action z).stage) k ∙ guard.0 | inr k ↦ differ act (ap is_action k) ]
                held d is i y o act (inr q) = (v.logs n d i).merged y o q

            f : IsLast s (held_value m (s.server n).base (s.server n).log) s.calls
                × ((c : Call) → In c s.calls → c.write ≡ true → Ok s c.act → Survives s c.act)
            f = folded s m (s.server n).base (survives_all s v) (s.server n).log s.calls (λ d i. (v.logs n d i).acts)
                (λ c i. (h.calls c i).acts) whole matches

-- A request is applied.
module _ (s : State) (n : ℕ) (q : Request) (g : ℕ) (guard : Guard (Apply n q g) s) (h : Holds s) (v : Values s) where
  asked : Asked s q
  asked = h.mail (Invoke q) guard.0

  at_copy : server_of s q.binding ≡ s.server n
  at_copy = ap s.server guard.1.0

  -- whose write is granted beside is below every write over the copy
  above_all : (e : Entry) → In e (s.server n).log → on q.act e.holder ≡ true
  above_all e i = elim (by_cases (on q.act e.holder))
      [ inl t ↦ t | inr f ↦ absurd (let l = (guard.3 e.holder f).0 in let r = (v.logs n e i).row in omega (arith, l, r)) ]

  none_wait : (s.action q.act).waits ≡ true → Alive s q.act → q.number ≡ (s.action q.act).request → NoneWaits s (s.server n).log
  none_wait w alive last e i wt fine = omega (arith, l, r, k, number)
    where
      o : EntryHolds s n e
      o = v.logs n e i

      alive' : Alive s e.by
      alive' = clean_alive s e.by fine.0

      caller : on e.holder e.by ≡ true
      caller = elim (by_cases (on e.holder e.by)) [
        | inl t ↦ t
        | inr f ↦ absurd (let three = o.merged e.by (on_self e.by) f in let z = v.path e.by wt.1 alive' e.by (on_self e.by) o.acts in
            omega (arith, three, z))
      ]

      is : q.act ≡ e.by
      is = h.anti q.act e.by w alive wt.1 alive' (on_trans q.act e.holder e.by (above_all e i) caller)

      l : e.request ≤ (s.server n).request e.by
      l = o.request

      r : (s.server n).request e.by ≡ (s.server n).request q.act
      r = ap (s.server n).request (sym is)

      k : (s.server n).request q.act < q.number
      k = guard.2

      number : e.request ≡ q.number
      number = wt.0 ∙ ap (λ (y : Act). (s.action y).request) (sym is) ∙ sym last

  -- a request that comes first and is no longer waited for is spoilt
  still_waits : Fine s q.act → (q.number ≡ (s.action q.act).request) × ((s.action q.act).waits ≡ true)
  still_waits fine = elim (v.says (Invoke q) guard.0).1 [ inl w ↦ w | inr f ↦ absurd (never (f fine)) ]
    where
      never : Used s q → ⊥
      never (inl past) = elim (subst (λ (y : Server). ((s.binding q.binding).incarnation < y.incarnation)
          ⊎ (((s.binding q.binding).incarnation ≡ y.incarnation) × (q.binding < y.active))) at_copy past)
          [ inl l ↦ (let e = guard.1.1 in omega (arith, l, e)) | inr p ↦ (let e = guard.1.2 in let l = p.1 in omega (arith, e, l)) ]
      never (inr l) = let k = guard.2 in let e : (server_of s q.binding).request q.act ≡ (s.server n).request q.act = ap
          (λ (y : Server). y.request q.act) at_copy in omega (arith, l, k, e)

  -- what it meets counts for it
  all_mine : Clean s q.act → (e : Entry) → In e (s.server n).log → Clean s e.by × (top e.by ≡ top q.act) × (root e.by ≡ root q.act)
  all_mine clean e i = (
    clean',
    one_top e.by e.holder o.holder o.path ∙ sym (one_top q.act e.holder o.holder (above_all e i)),
    on_root e.by e.holder o.path ∙ sym (on_root q.act e.holder (above_all e i)),
  )
    where
      o : EntryHolds s n e
      o = v.logs n e i

      clean' : Clean s e.by
      clean' u p = elim (by_cases (on e.holder u))
          [ inl y ↦ clean u (on_trans q.act e.holder u (above_all e i) y) | inr f ↦ merged (o.merged u p f) (by_cases (s.action u).doomed) ]
        where
          merged : (s.action u).stage ≡ 3 → ((s.action u).doomed ≡ true) ⊎ ((s.action u).doomed ≡ false) →
              ((s.action u).stage ≤ 3) × ((s.action u).doomed ≡ false)
          merged three (inl d) = absurd (elim (v.doomed u d).1 [ inl z ↦ omega (arith, three, z) | inr z ↦ omega (arith, three, z) ])
          merged three (inr f) = (omega (arith, three), f)

  logged_here : s.naming.first ≤ s.naming.recorded → s.naming.recorded ≡ q.binding → Logged s (s.server n).base (s.server n).log s.calls
  logged_here present e = subst (λ (y : Server). Logged s y.base y.log s.calls) at_copy (subst
      (λ (b : ℕ). Logged s (server_of s b).base (server_of s b).log s.calls) e (v.copy present (subst (λ (b : ℕ). IsUp s b) (sym e) up)))
    where
      up : IsUp s q.binding
      up = subst (λ (y : Server). (y.incarnation ≡ (s.binding q.binding).incarnation) × (y.active ≡ q.binding)) (sym at_copy)
          (guard.1.1, guard.1.2)

  -- and so it sees the newest of that
  sees_right : Pending s q.act q.number → Clean s q.act → s.naming.first ≤ s.kept (root q.act) →
      Newest s.initial (Mine s q.act) (value_over (s.server n).base (s.server n).log) s.calls
  sees_right pending clean present = meets s q.act (s.server n).base (kept ∙ sym recorded) pending.going (survives_all s v) (s.server n).log
      s.calls (λ c i. (h.calls c i).acts) (all_mine clean)
      (logged_calm s (s.server n).base (s.server n).log s.calls (none_wait pending.waits pending.alive pending.last)
      (logged_here first recorded))
    where
      kept : s.kept (root q.act) ≡ q.binding
      kept = sym (asked.3 pending)

      top_kept : s.kept (root (top q.act)) ≡ s.kept (root q.act)
      top_kept = ap s.kept (top_root q.act)

      recorded : s.naming.recorded ≡ q.binding
      recorded = ((h.waits q.act pending.waits pending.alive pending.going).sure.here (let e = top_kept in
          omega (arith, present, e)) (subst (λ (u : ℕ). GoesOn s u) (sym (top_root q.act)) pending.going)).0 ∙ top_kept ∙ kept

      first : s.naming.first ≤ s.naming.recorded
      first = let e = recorded in let k = kept in omega (arith, present, e, k)

pub value_apply : (s : State) (n : ℕ) (q : Request) (g : ℕ) → Guard (Apply n q g) s → Holds s → Values s → Later s (next (Apply n q g) s) →
    Values (next (Apply n q g) s)
value_apply s n q g guard h v later = server_values s h v n x ms later (inl rise) logs
    (copy_like s h v n x ms later (inl rise) (λ one. refl) (λ current. (v.fresh n (one_of current)).base current)
    (λ current e i. recorded_copy current))
    copy
    (λ b named e f i pend. inr (f, old_in q.write f i, refl, refl, refl))
    (λ e i. elim (in_new q.write e i) [
      | inl p ↦ inr (subst (λ (y : Entry). (s.server n).request y.by < y.request) (sym p.0) guard.2)
      | inr j ↦ inl (e, j, refl, refl, refl)
    ])
    mail
  where
    x : Server
    x = applied (s.server n) q g

    r : Answer
    r = answer_of s n q g

    ms : List Message
    ms = Invoked r ∷ s.net

    t : State
    t = next (Apply n q g) s

    e0 : Entry
    e0 = record { holder = q.act; by = q.act; request = q.number; gives = g }

    rise : (a : Act) → (s.server n).request a ≤ x.request a
    rise = act_cases (λ (a : Act) (k : ℕ). (s.server n).request a ≤ k) (s.server n).request q.act q.number (let l = guard.2 in
        omega (arith, l)) (λ a f. omega arith)

    in_new : (b : Bool) (e : Entry) → In e (cond b (e0 ∷ (s.server n).log) (s.server n).log) →
        ((e ≡ e0) × (b ≡ true)) ⊎ In e (s.server n).log
    in_new true e (inl is) = inl (is, refl)
    in_new true e (inr i) = inr i
    in_new false e i = inr i

    old_in : (b : Bool) (e : Entry) → In e (s.server n).log → In e (cond b (e0 ∷ (s.server n).log) (s.server n).log)
    old_in true e i = inr i
    old_in false e i = i

    new_in : (b : Bool) → b ≡ true → In e0 (cond b (e0 ∷ (s.server n).log) (s.server n).log)
    new_in true e = inl refl
    new_in false e = let never : false ≡ true = e in absurd (cc)

    ask : Asked s q
    ask = asked s n q g guard h v

    one_of : IsCurrent s.naming (s.binding (s.server n).active).maker (s.server n).active → 1 ≤ (s.server n).active
    one_of current = let k = current.present in let f = h.naming.first_above in omega (arith, k, f)

    recorded_copy : IsCurrent s.naming (s.binding (s.server n).active).maker (s.server n).active → ⊥
    recorded_copy current = let l = (v.says (Invoke q) guard.0).0 in let e = guard.1.2 in let k = current.unrecorded in
        omega (arith, l, e, k)

    logs : (e : Entry) → In e x.log → EntryHolds t n e
    logs e i = elim (in_new q.write e i) [ inl p ↦ subst (λ (y : Entry). EntryHolds t n y) (sym p.0) (fresh p.1) | inr j ↦ old e j ]
      where
        rows_here : (a : Act) → (at s.server n x n).rows a ≡ x.rows a
        rows_here a = ap (λ (y : Server). y.rows a) (at_here s.server n x)

        requests : (a : Act) → (at s.server n x n).request a ≡ x.request a
        requests a = ap (λ (y : Server). y.request a) (at_here s.server n x)

        fresh : q.write ≡ true → EntryHolds t n e0
        fresh write = record {
          acts = ask.0;
          path = on_self q.act;
          holder = ask.0;
          row = (let k = rows_here q.act in let l = act_here (s.server n).rows q.act (max ((s.server n).rows q.act) (mode q.write)) in
              let w : mode q.write ≡ 2 = ap mode write in omega (arith, k, l, w));
          merged = λ u o f. differ o f;
          request = (let k = requests q.act in let l = act_here (s.server n).request q.act q.number in omega (arith, k, l));
          asked = ask.1;
        }

        old : (e : Entry) → In e (s.server n).log → EntryHolds t n e
        old e j =
            let o = v.logs n e j in
            record {
              acts = o.acts;
              path = o.path;
              holder = o.holder;
              row = (let k = rows_here e.holder in let l = o.row in let up = act_cases (λ (a : Act) (z : ℕ). (s.server n).rows a ≤ z)
                  (s.server n).rows q.act (max ((s.server n).rows q.act) (mode q.write)) (omega arith) (λ a f. omega arith) e.holder in
                  omega (arith, k, l, up));
              merged = o.merged;
              request = (let k = requests e.by in let l = o.request in let up = rise e.by in omega (arith, k, l, up));
              asked = o.asked;
            }

    copy : (s.binding s.naming.recorded).server ≡ n → s.naming.first ≤ s.naming.recorded → IsUp t s.naming.recorded →
        IsUp s s.naming.recorded → Logged t (s.server n).base x.log s.calls
    copy e present up old = by q.write
      where
        is : s.naming.recorded ≡ q.binding
        is = sym (subst (λ (k : ℕ). (s.server k).active ≡ s.naming.recorded) e old.1) ∙ guard.1.2

        before : Logged t (s.server n).base (s.server n).log s.calls
        before = copy_after s h v n x ms later (inl rise) present old e

        written : Fine s q.act ⊎ (Fine s q.act → ⊥) → Logged t (s.server n).base (e0 ∷ (s.server n).log) s.calls
        written (inr f) = bad e0 f before
        written (inl fine) =
            let w = still_waits s n q g guard h v fine in
            let none' = none_wait s n q g guard h v w.1 (clean_alive s q.act fine.0) w.0 in
            let pending = fine_pending s v q.act q.number ask.0 w.0 w.1 fine in
            waiting e0 (λ f. (w, sym (ask.3 pending) ∙ sym is)) none'
            (logged_calm t (s.server n).base (s.server n).log s.calls none' before)

        by : (b : Bool) → Logged t (s.server n).base (cond b (e0 ∷ (s.server n).log) (s.server n).log) s.calls
        by true = written (dec_fine s q.act)
        by false = before

    at_x : server_of t q.binding ≡ x
    at_x = here s h v n x ms later (inl rise) q.binding guard.1.0

    number : q.number ≤ x.request q.act
    number = let l = act_here (s.server n).request q.act q.number in omega (arith, l)

    mail : (m : Message) → In m ms → In m s.net ⊎ Says t m
    mail m (inr i) = inl i
    mail m (inl is) = inr (subst (λ (y : Message). Says t y) (sym is)
        (inr (subst (λ (y : Server). q.number ≤ y.request q.act) (sym at_x) number), entry, sees, none'))
      where
        entry : HasEntry t r
        entry write pending = inr (e0, subst (λ (y : Server). In e0 y.log) (sym at_x) (new_in q.write write), refl, refl, refl)

        sees : SeesNow t r
        sees pending clean present up = sees_right s n q g guard h v
            (record { last = pending.last; waits = pending.waits; alive = pending.alive; going = pending.going }) clean present

        none' : q.write ≡ false → NoEntry t q
        none' read = inr (subst (λ (y : Server). (q.number ≤ y.request q.act)
            × ((e : Entry) → In e y.log → e.by ≡ q.act → e.request ≢ q.number)) (sym at_x) (number, less))
          where
            less : (e : Entry) → In e x.log → e.by ≡ q.act → e.request ≢ q.number
            less e i a k = elim (in_new q.write e i) [
              | inl p ↦ differ p.1 read
              | inr j ↦ (let l = (v.logs n e j).request in let z : (s.server n).request e.by ≡ (s.server n).request q.act = ap
                  (s.server n).request a in let o = guard.2 in omega (arith, l, z, o, k))
            ]

-- A binding is recorded: its copy is the last committed value.
pub value_record : (s : State) (b : ℕ) → Guard (Record b) s → Holds s → Values s → Later s (next (Record b) s) → Values (next (Record b) s)
value_record s b guard h v later =
    join_full h v later w v.doomed v.roots refl v.waits v.path (λ c i alive one. whole_on h v later w v.doomed v.roots c i alive one)
    (λ k. logs_still h v later w v.doomed v.roots k (still_self (s.server k)))
    (λ k. fresh_still h v later w v.doomed v.roots k (still_self (s.server k)) refl) copy
    (stay_still h v later w v.doomed v.roots (λ k. still_self (s.server k)))
    (fresh_log_still h v later w v.doomed v.roots (λ k. still_self (s.server k))) (λ q i e z. inl (e, z)) mail
  where
    n : Naming
    n = record s.naming { rows = lowered s.naming (s.binding b).maker; recorded = b }

    ms : List Message
    ms = Recorded b ∷ s.net

    t : State
    t = next (Record b) s

    w : ValueLater s t
    w = same_actions s n ms

    copy : s.naming.first ≤ b → IsUp s b → Logged t (server_of s b).base (server_of s b).log s.calls
    copy present up = by (server_of s b).log (o.log current)
      where
        k : ℕ
        k = (s.binding b).server

        one : 1 ≤ (s.server k).active
        one = let p = (h.bindings b guard.0).positive in let e = up.1 in omega (arith, p, e)

        o : CopyHolds s k
        o = v.fresh k one

        current : IsCurrent s.naming (s.binding (s.server k).active).maker (s.server k).active
        current = subst (λ (j : ℕ). IsCurrent s.naming (s.binding j).maker j) (sym up.1) guard.1

        counted : (c : Call) → In c s.calls → c.write ≡ true → Ok t c.act → Survives s c.act
        counted c i write ok = elim ok.1 [
          | inl three ↦ survives_of s h v c i (clean_alive s c.act ok.0.0) three
          | inr kept ↦ elim ok.0.1 [
            | inr three ↦ survives_of s h v c i (clean_alive s c.act ok.0.0) three
            | inl goes ↦ absurd (let e : s.kept (root (top c.act)) ≡ s.kept (root c.act) = ap s.kept (top_root c.act) in
                let p = guard.1.present in
                let q = (((h.calls c i).sure (clean_alive s c.act ok.0.0)).here (omega (arith, e, kept, p))
                (subst (λ (u : ℕ). GoesOn s u) (sym (top_root c.act)) goes)).0 in
                let l = guard.1.unrecorded in omega (arith, q, e, kept, l))
          ]
        ]

        by : (es : List Entry) → ((e : Entry) → In e es → ⊥) → Logged t (server_of s b).base es s.calls
        by [] f = calm (λ e i. absurd i) (rest (o.base current) counted)
        by (e ∷ es) f = absurd (f e (inl refl))

    mail : (m : Message) → In m ms → In m s.net ⊎ Says t m
    mail m (inl is) = inr (subst (λ (y : Message). Says t y) (sym is) tt)
    mail m (inr i) = inl i
