-- Values where one copy or its log changes.
use Rattle.arj_law_lock.proofs.Terms
use Terms.{◌≡◌, ◌≤◌, ◌<◌, ◌⊎◌, ℕ, List, [], ◌∷◌, Bool, true, false, inl, inr, refl, sym, ◌∙◌, ap, subst, arith, Act, Root, Sub, same, on}
use Terms.{root, top, is_action, In, Entry, Server, Call, Message, Activate, Activated, State, Alive, Merged, IsLast, Survives, IsCurrent}
use Terms.{map, filter, not, cond, ◌==◌, at, pass, drop_below, Guard, next, handed, after_crash, CrashServer, ActivateCopy, PassRow}
use Terms.{DropRows}
use Rattle.arj_law_lock.proofs.machine
use machine.{Lasts.is_voted, Later.Later, Later.up_back, Rows.pass_here, Rows.pass_other, Rows.drop_other, ServerSteps.there}
use machine.{ValueSteps.same_server_actions}
use machine.Claims.{server_of, IsUp, Reached, IsPast, Pending, Mean, Holds}
use machine.Paths.{by_cases, differ, same_is, on_trans, top_is, top_of, top_action, on_root, on_self, on_up, on_above, above_top, at_here}
use machine.Paths.{same_number}
use machine.ValueClaims.{Fine, Ok, Logged, EntryHolds, CopyHolds, Says, Values}
use machine.ValueJoin.{Still, still_self, Like, join_full, whole_on, logs_still, fresh_still, copy_still, copy_loaded, oks}
use machine.ValueLasts.{ValueLater, clean_alive, logged_on}
use machine.ValueLogs.{in_map, map_in, in_filter, filter_in, not_true, true_not, logged_handed, logged_kept}

-- Values where one copy or its log changes.

-- a clean call of a committed top survives
pub survives_of : (s : State) → Holds s → Values s → (c : Call) → In c s.calls → Alive s c.act → (s.action (top c.act)).stage ≡ 3 →
    Survives s c.act
survives_of s h v c i alive three u o act = by (by_cases (on (top c.act) u))
  where
    by : (on (top c.act) u ≡ true) ⊎ (on (top c.act) u ≡ false) → (s.action u).stage ≡ 3
    by (inl p) = elim (above_top (top c.act) u (top_is c.act (h.calls c i).acts) p)
        [ inl is ↦ ap (λ (y : Act). (s.action y).stage) is ∙ three | inr is ↦ differ act (ap is_action is) ]
    by (inr p) = v.whole c i alive (omega (arith, three)) u o p

module _ (s : State) (h : Holds s) (v : Values s) (n : ℕ) (x : Server) (ms : List Message)
    (later : Later s (record s { server = at s.server n x; net = ms }))
    (rises : ((a : Act) → (s.server n).request a ≤ x.request a) ⊎ ((s.server n).incarnation < x.incarnation)) where
  w' : ValueLater s (record s { server = at s.server n x; net = ms })
  w' = same_server_actions s n x s.yes s.vote ms rises

  pub here : (b : ℕ) → (s.binding b).server ≡ n → server_of (record s { server = at s.server n x; net = ms }) b ≡ x
  here b e = there s n x s.yes s.vote ms b e

  away : (b : ℕ) → ((s.binding b).server == n) ≡ false → server_of (record s { server = at s.server n x; net = ms }) b ≡ server_of s b
  away b e = λ i. cond (e i) x (server_of s b)

  pub server_values : ((e : Entry) → In e x.log → EntryHolds (record s { server = at s.server n x; net = ms }) n e)
      → (1 ≤ x.active → CopyHolds (record s { server = at s.server n x; net = ms }) n)
      → ((s.binding s.naming.recorded).server ≡ n → s.naming.first ≤ s.naming.recorded →
      IsUp (record s { server = at s.server n x; net = ms }) s.naming.recorded → IsUp s s.naming.recorded →
      Logged (record s { server = at s.server n x; net = ms }) x.base x.log s.calls)
      → ((b : ℕ) → (s.binding b).named ≡ true → (s.binding b).server ≡ n → (e : Entry) → In e (s.server n).log →
      Pending s e.by e.request → IsPast (record s { server = at s.server n x; net = ms }) b ⊎ Like e x.log)
      → ((e : Entry) → In e x.log → Like e (s.server n).log ⊎ ((s.server n).request e.by < e.request))
      → ((m : Message) → In m ms → In m s.net ⊎ Says (record s { server = at s.server n x; net = ms }) m) →
      Values (record s { server = at s.server n x; net = ms })
  server_values logs copies copy stay fresh mail =
      join_full h v later w' v.doomed v.roots refl v.waits v.path (λ c i alive one. whole_on h v later w' v.doomed v.roots c i alive one)
      logs' copies' copy' stay' fresh' (λ q i e w. inl (e, w)) mail
    where
      t : State
      t = record s { server = at s.server n x; net = ms }

      is_n : (k : ℕ) → (k == n) ≡ true → at s.server n x k ≡ x
      is_n k e = ap (at s.server n x) (same_number k n e) ∙ at_here s.server n x

      not_n : (k : ℕ) → (k == n) ≡ false → at s.server n x k ≡ s.server k
      not_n k e = λ i. cond (e i) x (s.server k)

      still_n : (k : ℕ) → (k == n) ≡ false → Still (s.server k) (at s.server n x k)
      still_n k e = subst (λ (y : Server). Still (s.server k) y) (sym (not_n k e)) (still_self (s.server k))

      logs' : (k : ℕ) (e : Entry) → In e (at s.server n x k).log → EntryHolds t k e
      logs' k e i = elim (by_cases (k == n)) [
        | inl q ↦ subst (λ (j : ℕ). EntryHolds t j e) (sym (same_number k n q)) (logs e (subst (λ (y : Server). In e y.log) (is_n k q) i))
        | inr f ↦ logs_still h v later w' v.doomed v.roots k (still_n k f) e i
      ]

      copies' : (k : ℕ) → 1 ≤ (at s.server n x k).active → CopyHolds t k
      copies' k one = elim (by_cases (k == n)) [
        | inl q ↦ subst (λ (j : ℕ). CopyHolds t j) (sym (same_number k n q)) (copies (subst (λ (y : Server). 1 ≤ y.active) (is_n k q) one))
        | inr f ↦ fresh_still h v later w' v.doomed v.roots k (still_n k f) refl one
      ]

      b : ℕ
      b = s.naming.recorded

      copy' : s.naming.first ≤ s.naming.recorded → IsUp t s.naming.recorded →
          Logged t (server_of t s.naming.recorded).base (server_of t s.naming.recorded).log s.calls
      copy' present up = elim (by_cases ((s.binding s.naming.recorded).server == n)) [
        | inl q ↦ (let k : (s.binding s.naming.recorded).server ≡ n = same_number (s.binding s.naming.recorded).server n q in
            subst (λ (y : Server). Logged t y.base y.log s.calls) (sym (here s.naming.recorded k)) (copy k present up old_up))
        | inr f ↦ copy_still h v later w' v.doomed v.roots refl (still_n (s.binding s.naming.recorded).server f) refl
            (λ e act z fine e' i p u. z) present up
      ]
        where
          old_up : IsUp s s.naming.recorded
          old_up = let named = h.naming.known present in
              (up_back later s.naming.recorded named h.naming.recorded_below (h.bindings s.naming.recorded named).reached up).0

      stay' : (j : ℕ) → (s.binding j).named ≡ true → (e : Entry) → In e (server_of s j).log → Pending t e.by e.request →
          IsPast t j ⊎ Like e (server_of t j).log
      stay' j named e i p = elim (by_cases ((s.binding j).server == n)) [
        | inl q ↦ (let k : (s.binding j).server ≡ n = same_number (s.binding j).server n q in
            elim (stay j named k e (subst (λ (y : ℕ). In e (s.server y).log) k i)
            (record { last = p.last; waits = p.waits; alive = p.alive; going = p.going }))
            [ inl past ↦ inl past | inr l ↦ inr (subst (λ (y : Server). Like e y.log) (sym (here j k)) l) ])
        | inr f ↦ inr (e, subst (λ (y : Server). In e y.log) (sym (away j f)) i, refl, refl, refl)
      ]

      fresh' : (j : ℕ) → (s.binding j).named ≡ true → (e : Entry) → In e (server_of t j).log →
          IsPast t j ⊎ (Like e (server_of s j).log ⊎ ((server_of s j).request e.by < e.request))
      fresh' j named e i = elim (by_cases ((s.binding j).server == n)) [
        | inl q ↦ (let k : (s.binding j).server ≡ n = same_number (s.binding j).server n q in
            inr (subst (λ (y : ℕ). Like e (s.server y).log ⊎ ((s.server y).request e.by < e.request)) (sym k)
            (fresh e (subst (λ (y : Server). In e y.log) (here j k) i))))
        | inr f ↦ inr (inl (e, subst (λ (y : Server). In e y.log) (away j f) i, refl, refl, refl))
      ]

  -- the log of the recorded copy, in the state after
  pub copy_after : s.naming.first ≤ s.naming.recorded → IsUp s s.naming.recorded → (s.binding s.naming.recorded).server ≡ n →
      Logged (record s { server = at s.server n x; net = ms }) (s.server n).base (s.server n).log s.calls
  copy_after present up e = logged_on h v later w' refl present (oks h v later w' v.doomed v.roots) (s.server n).base (s.server n).log
      (λ f i. let q = v.logs n f i in (q.acts, q.asked)) (λ f i z fine k. z)
      (subst (λ (k : ℕ). Logged s (s.server k).base (s.server k).log s.calls) e (v.copy present up))

  -- a copy whose state and log come from the one before
  pub copy_like : (1 ≤ x.active → x.active ≡ (s.server n).active) → (IsCurrent s.naming (s.binding (s.server n).active).maker
      (s.server n).active → IsLast s x.base s.calls) → (IsCurrent s.naming (s.binding (s.server n).active).maker (s.server n).active →
      (e : Entry) → In e x.log → ⊥) → 1 ≤ x.active → CopyHolds (record s { server = at s.server n x; net = ms }) n
  copy_like same base log one = copy_loaded h v later w' v.doomed v.roots n (s.server n).active
      (ap (λ (y : Server). y.active) (at_here s.server n x) ∙ same one) o.below o.kept o.maker o.doubtless
      (λ current. subst (λ (y : Server). IsLast s y.base s.calls) (sym (at_here s.server n x)) (base current))
      (λ current e i. log current e (subst (λ (y : Server). In e y.log) (at_here s.server n x) i)) refl
    where
      o : CopyHolds s n
      o = v.fresh n (let e = same one in omega (arith, one, e))

pub value_crash_server : (s : State) (n i : ℕ) → Guard (CrashServer n i) s → Holds s → Values s → Later s (next (CrashServer n i) s) →
    Values (next (CrashServer n i) s)
value_crash_server s n i guard h v later =
    server_values s h v n (after_crash i) s.net later (inr guard) (λ e j. absurd j) (λ one. absurd (omega (arith, one)))
    (λ e present up old. absurd (let named = h.naming.known present in
    let q = (up_back later s.naming.recorded named h.naming.recorded_below (h.bindings s.naming.recorded named).reached up).1 in
    let k : (s.server n).incarnation ≡ (at s.server n (after_crash i) n).incarnation = subst
    (λ (j : ℕ). (s.server j).incarnation ≡ (at s.server n (after_crash i) j).incarnation) e q in
    let r : (at s.server n (after_crash i) n).incarnation ≡ i = ap (λ (y : Server). y.incarnation) (at_here s.server n (after_crash i)) in
    let g = guard in omega (arith, k, r, g)))
    (λ b named e f j p. inl (inl (subst (λ (y : Server). (s.binding b).incarnation < y.incarnation)
    (sym (here s h v n (after_crash i) s.net later (inr guard) b e)) (low b e (h.bindings b named).reached))))
    (λ e j. absurd j) (λ m j. inl j)
  where
    low : (b : ℕ) → (s.binding b).server ≡ n → Reached (server_of s b) (s.binding b).incarnation b → (s.binding b).incarnation < i
    low b e (inl l) = let q : (server_of s b).incarnation ≡ (s.server n).incarnation = ap (λ (k : ℕ). (s.server k).incarnation) e in
        let g = guard in omega (arith, l, q, g)
    low b e (inr (k, l)) = let q : (server_of s b).incarnation ≡ (s.server n).incarnation = ap (λ (k : ℕ). (s.server k).incarnation) e in
        let g = guard in omega (arith, k, q, g)

pub value_activate : (s : State) (n b w : ℕ) → Guard (ActivateCopy n b w) s → Holds s → Values s → Later s (next (ActivateCopy n b w) s) →
    Values (next (ActivateCopy n b w) s)
value_activate s n b w guard h v later = server_values s h v n x ms later (inl (λ a. omega arith)) (λ e j. absurd j)
    (λ one. copy_loaded h v later (same_server_actions s n x s.yes s.vote ms (inl (λ a. omega arith))) v.doomed v.roots n b
    (ap (λ (y : Server). y.active) (at_here s.server n x)) mean.1 mean.2 mean.3 mean.4
    (λ current. subst (λ (y : Server). IsLast s y.base s.calls) (sym (at_here s.server n x)) (v.says (Activate b w) guard.0 current))
    (λ current e j. absurd (subst (λ (y : Server). In e y.log) (at_here s.server n x) j)) refl)
    (λ e present up old.
    absurd (let a : (s.server n).active ≡ s.naming.recorded = subst (λ (k : ℕ). (s.server k).active ≡ s.naming.recorded) e old.1 in
    let c : b ≡ s.naming.recorded = sym (ap (λ (y : Server). y.active)
    (here s h v n x ms later (inl (λ a. omega arith)) s.naming.recorded e)) ∙ up.1 in let g = guard.2 in omega (arith, a, c, g)))
    (λ j named e f k p. inl (past j e (subst (λ (y : ℕ). Reached (s.server y) (s.binding j).incarnation j) e (h.bindings j named).reached)))
    (λ e j. absurd j) mail
  where
    x : Server
    x = record (s.server n) { active = b; base = w; log = []; rows = λ a. 0 }

    ms : List Message
    ms = Activated b (s.server n).incarnation ∷ s.net

    mean : Mean s (Activate b w)
    mean = h.mail (Activate b w) guard.0

    past : (j : ℕ) → (s.binding j).server ≡ n → Reached (s.server n) (s.binding j).incarnation j → IsPast (next (ActivateCopy n b w) s) j
    past j e r = subst (λ (y : Server). ((s.binding j).incarnation < y.incarnation) ⊎ (((s.binding j).incarnation ≡ y.incarnation)
        × (j < y.active))) (sym (here s h v n x ms later (inl (λ a. omega arith)) j e)) (by r)
      where
        by : Reached (s.server n) (s.binding j).incarnation j →
            ((s.binding j).incarnation < (s.server n).incarnation) ⊎ (((s.binding j).incarnation ≡ (s.server n).incarnation) × (j < b))
        by (inl l) = inl l
        by (inr (k, l)) = inr (k, (let g = guard.2 in omega (arith, l, g)))

    mail : (m : Message) → In m ms → In m s.net ⊎ Says (next (ActivateCopy n b w) s) m
    mail m (inl is) = inr (subst (λ (y : Message). Says (next (ActivateCopy n b w) s) y) (sym is) tt)
    mail m (inr j) = inl j

pub value_pass_row : (s : State) (n : ℕ) (a : Act) (j : ℕ) → Guard (PassRow n a j) s → Holds s → Values s →
    Later s (next (PassRow n a j) s) → Values (next (PassRow n a j) s)
value_pass_row s n a j guard h v later = server_values s h v n x s.net later (inl (λ b. omega arith)) logs
    (copy_like s h v n x s.net later (inl (λ b. omega arith)) (λ one. refl) (λ current. (v.fresh n (one_of current)).base current)
    (λ current e i.
    (v.fresh n (one_of current)).log current (in_map (handed a j) e (s.server n).log i).0 (in_map (handed a j) e (s.server n).log i).1))
    (λ e present up old. logged_handed t (s.server n).base a j (s.server n).log s.calls
    (copy_after s h v n x s.net later (inl (λ b. omega arith)) present old e))
    (λ b named e f i p. inr (handed a j f, map_in (handed a j) f (s.server n).log i, refl, refl, refl))
    (λ e i. let p = in_map (handed a j) e (s.server n).log i in
    inl (p.0, p.1, sym (ap (λ (y : Entry). y.by) p.2), sym (ap (λ (y : Entry). y.request) p.2), sym (ap (λ (y : Entry). y.gives) p.2)))
    (λ m i. inl i)
  where
    x : Server
    x = record (s.server n) { rows = pass (s.server n).rows a j; log = map (handed a j) (s.server n).log }

    t : State
    t = next (PassRow n a j) s

    one_of : IsCurrent s.naming (s.binding (s.server n).active).maker (s.server n).active → 1 ≤ (s.server n).active
    one_of current = let p = current.present in let f = h.naming.first_above in omega (arith, p, f)

    logs : (e : Entry) → In e x.log → EntryHolds t n e
    logs e i = subst (λ (y : Entry). EntryHolds t n y) (sym p.2)
        (entry p.0 (v.logs n p.0 p.1) (by_cases (same p.0.holder (Sub a j))) (by_cases (same p.0.holder a)))
      where
        p : (d : Entry) × In d (s.server n).log × (e ≡ handed a j d)
        p = in_map (handed a j) e (s.server n).log i

        rows_here : (k : Act) → (at s.server n x n).rows k ≡ pass (s.server n).rows a j k
        rows_here k = ap (λ (y : Server). y.rows k) (at_here s.server n x)

        requests : (k : Act) → (at s.server n x n).request k ≡ (s.server n).request k
        requests k = ap (λ (y : Server). y.request k) (at_here s.server n x)

        entry : (d : Entry) → EntryHolds s n d → (same d.holder (Sub a j) ≡ true) ⊎ (same d.holder (Sub a j) ≡ false) →
            (same d.holder a ≡ true) ⊎ (same d.holder a ≡ false) → EntryHolds t n (handed a j d)
        entry d o (inl q) w =
            let e' : (handed a j d).holder ≡ a = λ k. cond (q k) a d.holder in
            let hs : d.holder ≡ Sub a j = same_is d.holder (Sub a j) q in
            let up : on d.by (Sub a j) ≡ true = subst (λ (y : Act). on d.by y ≡ true) hs o.path in
            record {
              acts = o.acts;
              path = subst (λ (y : Act). on d.by y ≡ true) (sym e') (on_trans d.by (Sub a j) a up (on_above a j a (on_self a)));
              holder = ap is_action e' ∙ guard.0;
              row = subst (λ (y : Act). 2 ≤ (at s.server n x n).rows y) (sym e') (let r = rows_here a in
                  let k = pass_here (s.server n).rows a j in let l = o.row in
                  let z : (s.server n).rows d.holder ≡ (s.server n).rows (Sub a j) = ap (s.server n).rows hs in omega (arith, r, k, l, z));
              merged = subst (λ (y : Act). Merged s d.by y) (sym e') (λ u ou f. elim (by_cases (on (Sub a j) u)) [
                | inl y ↦ elim (on_up a j u y) [ inl is ↦ ap (λ (z : Act). (s.action z).stage) is ∙ guard.1 | inr z ↦ differ z f ]
                | inr z ↦ o.merged u ou (subst (λ (y : Act). on y u ≡ false) (sym hs) z)
              ]);
              request = (let l = o.request in let r = requests d.by in omega (arith, l, r));
              asked = o.asked;
            }
        entry d o (inr f) w =
            let e' : (handed a j d).holder ≡ d.holder = λ k. cond (f k) a d.holder in
            record {
              acts = o.acts;
              path = subst (λ (y : Act). on d.by y ≡ true) (sym e') o.path;
              holder = ap is_action e' ∙ o.holder;
              row = subst (λ (y : Act). 2 ≤ (at s.server n x n).rows y) (sym e') (let r = rows_here d.holder in let l = o.row in
                  let k = kept_row w in omega (arith, r, l, k));
              merged = subst (λ (y : Act). Merged s d.by y) (sym e') o.merged;
              request = (let l = o.request in let r = requests d.by in omega (arith, l, r));
              asked = o.asked;
            }
          where
            kept_row : (same d.holder a ≡ true) ⊎ (same d.holder a ≡ false) →
                (s.server n).rows d.holder ≤ pass (s.server n).rows a j d.holder
            kept_row (inl g) = let is = same_is d.holder a g in subst (λ (y : Act). (s.server n).rows y ≤ pass (s.server n).rows a j y)
                (sym is) (let k = pass_here (s.server n).rows a j in omega (arith, k))
            kept_row (inr g) = let k = pass_other (s.server n).rows a j d.holder f g in omega (arith, k)

-- what of a log is not below an action
module _ (s : State) (v : Values s) (n : ℕ) (a : Act) where
  pub gone_on : (e : Entry) → not (on e.holder a) ≡ false → on e.holder a ≡ true
  gone_on e q = by (on e.holder a) q
    where
      by : (b : Bool) → not b ≡ false → b ≡ true
      by true q' = refl
      by false q' = let never : true ≡ false = q' in absurd (cc)

pub value_drop_rows : (s : State) (n : ℕ) (a : Act) → Guard (DropRows n a) s → Holds s → Values s → Later s (next (DropRows n a) s) →
    Values (next (DropRows n a) s)
value_drop_rows s n a guard h v later = server_values s h v n x s.net later (inl (λ b. omega arith)) logs
    (copy_like s h v n x s.net later (inl (λ b. omega arith)) (λ one. refl) (λ current. (v.fresh n (one_of current)).base current)
    (λ current e i. (v.fresh n (one_of current)).log current e (in_filter p e (s.server n).log i).0))
    copy
    (λ b named e f i pend. inr (f, filter_in p f (s.server n).log i (true_not (on f.holder a) (pending_stays f i pend)), refl, refl, refl))
    (λ e i. inl (e, (in_filter p e (s.server n).log i).0, refl, refl, refl)) (λ m i. inl i)
  where
    p : Entry → Bool
    p = λ e. not (on e.holder a)

    x : Server
    x = record (s.server n) { rows = drop_below (s.server n).rows a; log = filter (λ e. not (on e.holder a)) (s.server n).log }

    t : State
    t = next (DropRows n a) s

    one_of : IsCurrent s.naming (s.binding (s.server n).active).maker (s.server n).active → 1 ≤ (s.server n).active
    one_of current = let q = current.present in let f = h.naming.first_above in omega (arith, q, f)

    logs : (e : Entry) → In e x.log → EntryHolds t n e
    logs e i =
        let q = in_filter p e (s.server n).log i in
        let o = v.logs n e q.0 in
        record {
          acts = o.acts;
          path = o.path;
          holder = o.holder;
          row = (let r : (at s.server n x n).rows e.holder ≡ drop_below (s.server n).rows a e.holder = ap (λ (y : Server). y.rows e.holder)
              (at_here s.server n x) in let k = drop_other (s.server n).rows a e.holder (not_true (on e.holder a) q.1) in let l = o.row in
              omega (arith, r, k, l));
          merged = o.merged;
          request = (let l = o.request in let r : (at s.server n x n).request e.by ≡ (s.server n).request e.by = ap
              (λ (y : Server). y.request e.by) (at_here s.server n x) in omega (arith, l, r));
          asked = o.asked;
        }

    below : (e : Entry) → In e (s.server n).log → on e.holder a ≡ true → on e.by a ≡ true
    below e i o = on_trans e.by e.holder a (v.logs n e i).path o

    pending_stays : (e : Entry) → In e (s.server n).log → Pending s e.by e.request → on e.holder a ≡ false
    pending_stays e i pend = elim (by_cases (on e.holder a)) [ inr f ↦ f | inl o ↦ absurd (never o guard) ]
      where
        act : is_action e.by ≡ true
        act = (v.logs n e i).acts

        never : on e.holder a ≡ true → Guard (DropRows n a) s → ⊥
        never o (inl four) = let l = pend.alive a (below e i o) in omega (arith, l, four)
        never o (inr (inl q)) = let g = pend.going in let three = q.0 in let r : (s.action (Root (root e.by))).stage ≡ (s.action
            (Root (root a))).stage = ap (λ (u : ℕ). (s.action (Root u)).stage) (on_root e.by a (below e i o)) in omega (arith, g, three, r)
        never o (inr (inr q)) = let z = v.path e.by pend.waits pend.alive a (below e i o) (top_action a q.0) in let three = q.1 in
            omega (arith, z, three)

    copy : (s.binding s.naming.recorded).server ≡ n → s.naming.first ≤ s.naming.recorded → IsUp t s.naming.recorded →
        IsUp s s.naming.recorded → Logged t (s.server n).base x.log s.calls
    copy e present up old = logged_kept t (s.server n).base p (s.server n).log s.calls lost
        (copy_after s h v n x s.net later (inl (λ b. omega arith)) present old e)
      where
        lost : (f : Entry) → In f (s.server n).log → p f ≡ false → (c : Call) → In c s.calls → f.by ≡ c.act → c.write ≡ true →
            (Fine t c.act → s.kept (root c.act) ≡ s.naming.recorded) → Ok t c.act → ⊥
        lost f i q c j by write kept ok = never guard
          where
            o : on c.act a ≡ true
            o = subst (λ (y : Act). on y a ≡ true) by (below f i (gone_on s v n a f q))

            alive : Alive s c.act
            alive = clean_alive s c.act ok.0.0

            -- the server is that of the call's binding, and voted for its top
            its_vote : (s.action (top c.act)).stage ≡ 3 → (s.server n).voted (top c.act) ≡ true
            its_vote three =
                let k = kept ok.0 in
                subst (λ (y : ℕ). (s.server y).voted (top c.act) ≡ true) e (subst (λ (b : ℕ). (server_of s b).voted (top c.act) ≡ true) k
                (is_voted h c j alive three (subst (λ (b : ℕ). IsUp s b) (sym k) old)))

            never : Guard (DropRows n a) s → ⊥
            never (inl four) = let l = alive a o in omega (arith, l, four)
            never (inr (inl g)) = elim ok.0.1 [
              | inl goes ↦ (let three = g.0 in let r : (s.action (Root (root c.act))).stage ≡ (s.action (Root (root a))).stage = ap
                  (λ (u : ℕ). (s.action (Root u)).stage) (on_root c.act a o) in omega (arith, goes, three, r))
              | inr three ↦ g.1 f i (gone_on s v n a f q) (ap (λ (y : Act). (s.action (top y)).stage) by ∙ three)
                  (subst (λ (y : Act). (s.server n).voted (top y) ≡ true) (sym by) (its_vote three)) c j write
                  (survives_of s h v c j alive three) (ap top (sym by))
            ]
            never (inr (inr g)) =
                let e' : top c.act ≡ a = top_of c.act a g.0 o in
                let three : (s.action (top c.act)).stage ≡ 3 = ap (λ (y : Act). (s.action y).stage) e' ∙ g.1 in
                differ (subst (λ (y : Act). (s.server n).voted y ≡ true) e' (its_vote three)) g.2
