-- Steps of servers.
use Rattle.arj_law_lock.proofs.Terms
use Terms.{◌≡◌, ◌≤◌, ◌<◌, ◌⊎◌, ℕ, List, [], ◌∷◌, Bool, true, false, inl, inr, refl, sym, ◌∙◌, ap, subst, arith, Act, Root, Sub, on, root}
use Terms.{top, is_top, is_action, In, Rows, mode, Apart, Server, Request, Answer, Message, Made, Activate, Activated, Invoke, Invoked}
use Terms.{Refused, Changed, Vote, Confirm, State, Alive, Merged, Passed, Clear, pass, drop_below, Guard, next, cond, max, ◌==◌, same, at}
use Terms.{at_act, Entry, CrashServer, ActivateCopy, Apply, Refuse, Change, PassRow, PassTop, DropRows, VoteTop, Load, SendVote}
use Terms.{SendConfirm, held_value, after_crash, answer_of, applied, handed, map, filter, not, Ballot, ballot}
use Rattle.arj_law_lock.proofs.machine
use machine.{Later.Later, Later.ServerLater, Later.up_back}
use machine.Claims.{server_of, IsUp, Reached, GoesOn, Covers, gone, over, dropped, stands, Anchor, Pending, Conflict, Order, Asked, Mean}
use machine.Claims.{NamingHolds, NamedHolds, TopHolds, Holds, own, unit, sibling}
use machine.Lasts.{join, top_on, wait_on, mean_on}
use machine.NamingSteps.{server_same, later_naming, join_naming}
use machine.Paths.{by_cases, differ, on_root, act_cases, act_here, act_other, at_cases, at_here, same_number, same_is, on_self, on_base}
use machine.Paths.{on_trans, on_above, on_up, top_of}
use machine.Rows.{apart_none, apart_less, apart_raise, apart_pass, pass_here, pass_other, drop_less, drop_other}
use Rattle.arj_law_lock.specs.machine.Steps.{IsAt}

-- Steps of servers, and messages that change no part.

-- an action that stands on one path and not on another of the same root is no root
pub no_base : (a b u : Act) → root a ≡ root b → on a u ≡ true → on b u ≡ false → is_action u ≡ true
no_base a b u kin o f = elim (by_cases (is_action u)) [
  | inl t ↦ t
  | inr e ↦ differ (subst (λ (x : Act). on b x ≡ true) (sym (root_is' u e ∙ ap Root (sym (on_root a u o) ∙ kin))) (on_base b)) f
]
  where
    root_is' : (x : Act) → is_action x ≡ false → x ≡ Root (root x)
    root_is' (Root v) e = refl
    root_is' (Sub y k) e = let never : true ≡ false = e in absurd (cc)

-- One server changes.
module _ (s : State) (n : ℕ) (v : Server) (ys : Act → ℕ) (vs : Act → Ballot) (ms : List Message) where
  pub there : (b : ℕ) → (s.binding b).server ≡ n → server_of (record s { server = at s.server n v; yes = ys; vote = vs; net = ms }) b ≡ v
  there b e = ap (at s.server n v) e ∙ at_here s.server n v

  elsewhere : (b : ℕ) → ((s.binding b).server == n) ≡ false →
      server_of (record s { server = at s.server n v; yes = ys; vote = vs; net = ms }) b ≡ server_of s b
  elsewhere b e = λ i. cond (e i) v (server_of s b)

  pub stands_by : (a : Act) (b k : ℕ) (h : Act) (w : Server) → server_of (record s
      { server = at s.server n v; yes = ys; vote = vs; net = ms }) b ≡ w → w.incarnation ≡ (s.binding b).incarnation → w.active ≡ b →
      on a h ≡ true → k ≤ w.rows h → Merged s a h → Covers (record s { server = at s.server n v; yes = ys; vote = vs; net = ms }) a b k
  stands_by a b k h w e inc act o row merged = stands h (subst (λ (x : Server). (x.incarnation ≡ (s.binding b).incarnation)
      × (x.active ≡ b)) (sym e) (inc, act)) o (subst (λ (x : Server). k ≤ x.rows h) (sym e) row) merged

  pub gone_by : (a : Act) (b k : ℕ) (w : Server) → server_of (record s { server = at s.server n v; yes = ys; vote = vs; net = ms }) b ≡ w →
      (((s.binding b).incarnation < w.incarnation) ⊎ (((s.binding b).incarnation ≡ w.incarnation) × (b < w.active))) →
      Covers (record s { server = at s.server n v; yes = ys; vote = vs; net = ms }) a b k
  gone_by a b k w e p = gone (subst (λ (x : Server). ((s.binding b).incarnation < x.incarnation)
      ⊎ (((s.binding b).incarnation ≡ x.incarnation) × (b < x.active))) (sym e) p)

  pub later_server : ServerLater (s.server n) v
      → ((a : Act) (b k : ℕ) (h : Act) → server_of (record s { server = at s.server n v; yes = ys; vote = vs; net = ms }) b ≡ v →
      (s.server n).incarnation ≡ (s.binding b).incarnation → (s.server n).active ≡ b → Alive s a → 1 ≤ k →
      ((s.action (top a)).stage ≡ 3 → (s.server n).voted (top a) ≡ true) → on a h ≡ true → k ≤ (s.server n).rows h → Merged s a h →
      Covers (record s { server = at s.server n v; yes = ys; vote = vs; net = ms }) a b k)
      → ((m : Act) (b : ℕ) → (s.binding b).named ≡ true → ys m ≡ b → (s.yes m ≡ b) ⊎ IsUp s b)
      → Later s (record s { server = at s.server n v; yes = ys; vote = vs; net = ms })
  later_server server covers votes = record {
    now = omega arith;
    first = inl refl;
    recorded = omega arith;
    bound = omega arith;
    made = λ b l. (refl, refl);
    named = λ b e. (e, refl);
    server = at_cases (λ (k : ℕ) (w : Server). ServerLater (s.server k) w) s.server n v server (λ k f. server_same (s.server k));
    stage = λ a. omega arith;
    ends = λ a e. (e, refl);
    fresh = λ a act e. inl e;
    place = λ a l. refl;
    placed = λ a l. l;
    going = λ x is l k. inl l;
    units = λ x is l k f. f l k;
    kept = λ u. omega arith;
    keeps = λ c i alive. refl;
    calls = λ c i. i;
    fresh_call = λ c i. inl i;
    includes = λ c i. i;
    fresh_include = λ c i. inl i;
    pend = λ a k l p. (record { last = p.last; waits = p.waits; alive = p.alive; going = p.going }, refl, refl);
    request = λ a. omega arith;
    own = λ x b is l o. o;
    wrote = λ x g is l w. w;
    anchored = anchored;
    same_recorded = λ x is e f a. refl;
    current =
        λ b l current. record { present = current.present; unrecorded = current.unrecorded; untold = current.untold; last = current.last };
    settled = λ e d. d;
    stays =
        λ a b k h e alive one voted up o row merged. stay a b k h alive one voted up o row merged (by_cases ((s.binding b).server == n));
    confirmed = λ x e. inl e;
    yes = votes;
    confirms = λ c i alive x is member e. inl e;
    confirms_include = λ c i alive x is member e. inl e;
  }
    where
      anchored : (k : ℕ) (x : Act) → is_top x ≡ true → 1 ≤ k → k ≤ 2 → s.naming.first ≡ s.naming.first → (s.action x).stage ≤ 3 →
          GoesOn s (root x) → ((s.action x).stage ≡ 3 → s.naming.confirmed x ≡ true) → Anchor s k x →
          Anchor (record s { server = at s.server n v; yes = ys; vote = vs; net = ms }) k x
      anchored k x is one two e alive goes conf (own p) = own p
      anchored k x is one two e alive goes conf (unit l) = unit l
      anchored k x is one two e alive goes conf (sibling z it r three c p) = sibling z it r three c p

      stay : (a : Act) (b k : ℕ) (h : Act) → Alive s a → 1 ≤ k → ((s.action (top a)).stage ≡ 3 → IsUp s b → (server_of s b).voted (top a)
          ≡ true) → IsUp s b → on a h ≡ true → k ≤ (server_of s b).rows h → Merged s a h → (((s.binding b).server == n) ≡ true)
          ⊎ (((s.binding b).server == n) ≡ false) → Covers (record s { server = at s.server n v; yes = ys; vote = vs; net = ms }) a b k
      stay a b k h alive one voted up o row merged (inr f) = stands_by a b k h (server_of s b) (elsewhere b f) up.0 up.1 o row merged
      stay a b k h alive one voted up o row merged (inl t) =
          let e : (s.binding b).server ≡ n = same_number (s.binding b).server n t in
          let w : server_of s b ≡ s.server n = ap s.server e in
          covers a b k h (there b e) (subst (λ (x : Server). x.incarnation ≡ (s.binding b).incarnation) w up.0)
          (subst (λ (x : Server). x.active ≡ b) w up.1) alive one (λ three.
          subst (λ (x : Server). x.voted (top a) ≡ true) w (voted three up)) o (subst (λ (x : Server). k ≤ x.rows h) w row) merged

  pub servers_apart : Holds s → Apart v.rows → (k : ℕ) → Apart (at s.server n v k).rows
  servers_apart h apart = at_cases (λ (k : ℕ) (w : Server). Apart w.rows) s.server n v apart (λ k f. h.servers k)

-- One server changes, and no vote is given.
module _ (s : State) (n : ℕ) (v : Server) (ms : List Message) where
  pub join_server : Holds s → Later s (record s { server = at s.server n v; net = ms }) → Apart v.rows → ((m : Message) → In m ms →
      In m s.net ⊎ Mean (record s { server = at s.server n v; net = ms }) m) → Holds (record s { server = at s.server n v; net = ms })
  join_server h later apart mail =
      join h later naming (λ b e. inl e) (servers_apart s n v s.yes s.vote ms h apart) (λ c i. i) (λ c i. inl i)
      (λ m is. top_on h later m is refl refl refl) h.turns h.ended
      (λ a. wait_on h later a (omega arith) (λ u o act e w alive. e) (λ c i. inl i)) h.anti mail
    where
      naming : NamingHolds (record s { server = at s.server n v; net = ms })
      naming = record {
        apart = h.naming.apart;
        told = h.naming.told;
        known = h.naming.known;
        recorded_below = h.naming.recorded_below;
        first_below = h.naming.first_below;
        first_above = h.naming.first_above;
        kept_below = h.naming.kept_below;
        made_below = h.naming.made_below;
        making = h.naming.making;
        doubt = h.naming.doubt;
      }

-- Nothing but a message changes.
pub later_send : (s : State) (ms : List Message) → Later s (record s { net = ms })
later_send s ms =
    later_naming s s.naming ms (inl refl) (omega arith) (omega arith) (λ m b is l o. o) (λ m g is l w. w) anchored (λ m is e f a. refl)
    (λ b l current. record { present = current.present; unrecorded = current.unrecorded; untold = current.untold; last = current.last })
    (λ m e. inl e)
  where
    anchored : (k : ℕ) (x : Act) → is_top x ≡ true → 1 ≤ k → k ≤ 2 → s.naming.first ≡ s.naming.first → (s.action x).stage ≤ 3 →
        GoesOn s (root x) → ((s.action x).stage ≡ 3 → s.naming.confirmed x ≡ true) → Anchor s k x → Anchor (record s { net = ms }) k x
    anchored k x is one two e alive goes conf (own p) = own p
    anchored k x is one two e alive goes conf (unit l) = unit l
    anchored k x is one two e alive goes conf (sibling z it r three c p) = sibling z it r three c p

pub send_one : (s : State) (m : Message) → Holds s → Mean (record s { net = m ∷ s.net }) m →
    Later s (record s { net = m ∷ s.net }) × Holds (record s { net = m ∷ s.net })
send_one s m h mean = (later_send s (m ∷ s.net), join_naming s s.naming (m ∷ s.net) h (later_send s (m ∷ s.net)) naming mail)
  where
    naming : NamingHolds (record s { net = m ∷ s.net })
    naming = record {
      apart = h.naming.apart;
      told = h.naming.told;
      known = h.naming.known;
      recorded_below = h.naming.recorded_below;
      first_below = h.naming.first_below;
      first_above = h.naming.first_above;
      kept_below = h.naming.kept_below;
      made_below = h.naming.made_below;
      making = h.naming.making;
      doubt = h.naming.doubt;
    }

    mail : (x : Message) → In x (m ∷ s.net) → In x s.net ⊎ Mean (record s { net = m ∷ s.net }) x
    mail x (inl is) = inr (subst (λ (y : Message). Mean (record s { net = m ∷ s.net }) y) (sym is) mean)
    mail x (inr i) = inl i

pub crash_server : (s : State) (n i : ℕ) → Guard (CrashServer n i) s → Holds s →
    Later s (next (CrashServer n i) s) × Holds (next (CrashServer n i) s)
crash_server s n i guard h = (later, join_server s n (after_crash i) s.net h later apart_none (λ m j. inl j))
  where
    later : Later s (next (CrashServer n i) s)
    later = later_server s n (after_crash i) s.yes s.vote s.net (record {
      rises = (let g = guard in omega (arith, g));
      active = λ e. absurd (let g = guard in omega (arith, g, e));
      voted = λ e m f. absurd (let g = guard in omega (arith, g, e));
    })
        (λ a b k x e inc act alive one voted o row merged.
        gone_by s n (after_crash i) s.yes s.vote s.net a b k (after_crash i) e (inl (let g = guard in omega (arith, g, inc))))
        (λ m b named e. inl e)

pub activate : (s : State) (n b w : ℕ) → Guard (ActivateCopy n b w) s → Holds s →
    Later s (next (ActivateCopy n b w) s) × Holds (next (ActivateCopy n b w) s)
activate s n b w guard h = (later, join_server s n v ms h later apart_none mail)
  where
    v : Server
    v = record (s.server n) { active = b; base = w; log = []; rows = λ a. 0 }

    ms : List Message
    ms = Activated b (s.server n).incarnation ∷ s.net

    t : State
    t = next (ActivateCopy n b w) s

    less : (s.server n).active < b
    less = guard.2

    later : Later s t
    later = later_server s n v s.yes s.vote ms
        (record { rises = omega arith; active = λ e. (let l = less in omega (arith, l)); voted = λ e m f. f })
        (λ a b' k x e inc act alive one voted o row merged.
        gone_by s n v s.yes s.vote ms a b' k v e (inr (sym inc, (let l = less in omega (arith, l, act)))))
        (λ m b' named e. inl e)

    mail : (m : Message) → In m ms → In m s.net ⊎ Mean t m
    mail m (inl is) = inr (subst (λ (x : Message). Mean t x) (sym is) (
      p.0,
      p.1,
      p.2,
      p.3,
      subst (λ (x : Server). Reached x (s.server n).incarnation b) (sym (there s n v s.yes s.vote ms b guard.1)) (inr (refl, omega arith)),
      p.4,
    ))
      where
        p : Mean t (Activate b w)
        p = mean_on h later (Activate b w) (h.mail (Activate b w) guard.0)
    mail m (inr i) = inl i

-- What a granted request meets at the copy: each conflicting call before it, of its unit, has passed to its path.
applied_order : (s : State) (n : ℕ) (q : Request) → Holds s → IsAt s n q.binding → Clear (s.server n).rows q.act (mode q.write) →
    Asked s q → Pending s q.act q.number → Order s q.act q.write s.now
applied_order s n q h here clear asked pending c i kin line conflict alive =
    by (subst (λ (b : ℕ). Covers s c.act b (mode c.write)) kept ((h.calls c i).covers alive))
  where
    kept : s.kept (root c.act) ≡ q.binding
    kept = ap s.kept kin ∙ sym (asked.3 pending)

    w : server_of s q.binding ≡ s.server n
    w = ap s.server here.0

    passed : (x : Act) → on c.act x ≡ true → mode c.write ≤ (s.server n).rows x → Merged s c.act x →
        (on q.act x ≡ true) ⊎ (on q.act x ≡ false) → Passed s c.act q.act s.now
    passed x o row merged (inr f) = absurd (fails conflict (clear x f))
      where
        fails : Conflict c.write q.write → ((s.server n).rows x ≤ 1) × (2 ≤ mode q.write → (s.server n).rows x ≡ 0) → ⊥
        fails (inl write) p = let e : mode c.write ≡ 2 = ap mode write in let l = p.0 in omega (arith, e, l, row)
        fails (inr write) p = let e : mode q.write ≡ 2 = ap mode write in let z = p.1 (omega (arith, e)) in let one = mode_one c.write in
            omega (arith, z, row, one)
          where
            mode_one : (b : Bool) → 1 ≤ mode b
            mode_one true = omega arith
            mode_one false = omega arith
    passed x o row merged (inl t) = λ u p f.
        let three = merged u p (elim (by_cases (on x u)) [ inl y ↦ differ (on_trans q.act x u t y) f | inr z ↦ z ]) in
        (three, h.ended u (no_base c.act q.act u kin p f) three)

    by : Covers s c.act q.binding (mode c.write) → Passed s c.act q.act s.now
    by (gone p) = absurd (elim (subst (λ (x : Server). ((s.binding q.binding).incarnation < x.incarnation)
        ⊎ (((s.binding q.binding).incarnation ≡ x.incarnation) × (q.binding < x.active))) w p)
        [ inl l ↦ (let e = here.1 in omega (arith, l, e)) | inr l ↦ (let e = here.2 in let k = l.1 in omega (arith, k, e)) ])
    by (over l) = absurd (let e : (s.action (Root (root c.act))).stage ≡ (s.action (Root (root q.act))).stage = ap
        (λ r. (s.action (Root r)).stage) kin in let g = pending.going in omega (arith, e, l, g))
    by (dropped u o l) = absurd (let k = alive u o in omega (arith, k, l))
    by (stands x up o row merged) = passed x o (subst (λ (y : Server). mode c.write ≤ y.rows x) w row) merged (by_cases (on q.act x))

pub apply : (s : State) (n : ℕ) (q : Request) (g : ℕ) → Guard (Apply n q g) s → Holds s →
    Later s (next (Apply n q g) s) × Holds (next (Apply n q g) s)
apply s n q g guard h =
    (later, join_server s n v ms h later (apart_raise (s.server n).rows q.act (mode q.write) (h.servers n) guard.3) mail)
  where
    v : Server
    v = applied (s.server n) q g

    r : Answer
    r = answer_of s n q g

    ms : List Message
    ms = Invoked r ∷ s.net

    t : State
    t = next (Apply n q g) s

    rise : (a : Act) → (s.server n).rows a ≤ v.rows a
    rise = act_cases (λ (a : Act) (k : ℕ). (s.server n).rows a ≤ k) (s.server n).rows q.act (max ((s.server n).rows q.act) (mode q.write))
        (omega arith) (λ a f. omega arith)

    later : Later s t
    later = later_server s n v s.yes s.vote ms (record { rises = omega arith; active = λ e. omega arith; voted = λ e m f. f })
        (λ a b k x e inc act alive one voted o row merged. stands_by s n v s.yes s.vote ms a b k x v e inc act o (let l = rise x in
        omega (arith, row, l)) merged)
        (λ m b named e. inl e)

    asked : Asked s q
    asked = h.mail (Invoke q) guard.0

    mail : (m : Message) → In m ms → In m s.net ⊎ Mean t m
    mail m (inl is) = inr (subst (λ (x : Message). Mean t x) (sym is) (mean_on h later (Invoke q) asked, omega arith, now))
      where
        now : Pending t q.act q.number →
            Covers t q.act q.binding (mode q.write) × ((s.action q.act).since ≤ s.now) × Order t q.act q.write s.now
        now pending =
            let old : Pending s q.act q.number =
            record { last = pending.last; waits = pending.waits; alive = pending.alive; going = pending.going } in (
              stands_by s n v s.yes s.vote ms q.act q.binding (mode q.write) q.act v (there s n v s.yes s.vote ms q.binding guard.1.0)
                  guard.1.1 guard.1.2 (on_self q.act) (let e = act_here (s.server n).rows q.act
                  (max ((s.server n).rows q.act) (mode q.write)) in omega (arith, e)) (λ u o f. differ o f),
              (h.waits q.act pending.waits pending.alive pending.going).since,
              applied_order s n q h guard.1 guard.3 asked old,
            )
    mail m (inr i) = inl i

pub refuse : (s : State) (n : ℕ) (q : Request) → Guard (Refuse n q) s → Holds s →
    Later s (next (Refuse n q) s) × Holds (next (Refuse n q) s)
refuse s n q guard h = (later, join_server s n v ms h later (h.servers n) mail)
  where
    v : Server
    v = record (s.server n) { request = at_act (s.server n).request q.act q.number }

    ms : List Message
    ms = Refused q ∷ s.net

    later : Later s (next (Refuse n q) s)
    later = later_server s n v s.yes s.vote ms (record { rises = omega arith; active = λ e. omega arith; voted = λ e m f. f })
        (λ a b k x e inc act alive one voted o row merged. stands_by s n v s.yes s.vote ms a b k x v e inc act o row merged)
        (λ m b named e. inl e)

    mail : (m : Message) → In m ms → In m s.net ⊎ Mean (next (Refuse n q) s) m
    mail m (inl is) = inr (subst (λ (x : Message). Mean (next (Refuse n q) s) x) (sym is) tt)
    mail m (inr i) = inl i

pub change : (s : State) (n : ℕ) (q : Request) → Guard (Change n q) s → Holds s →
    Later s (next (Change n q) s) × Holds (next (Change n q) s)
change s n q guard h = send_one s (Changed q.binding) h tt

-- Rows and log of one server change so that each row that covers something passes on.
module _ (s : State) (n : ℕ) (base : ℕ) (log : List Entry) (rows : Rows) where
  pub later_rows : ((a : Act) (k : ℕ) (x : Act) → Alive s a → 1 ≤ k → ((s.action (top a)).stage ≡ 3 → (s.server n).voted (top a) ≡ true) →
      on a x ≡ true → k ≤ (s.server n).rows x → Merged s a x → ((s.action (Root (root a))).stage ≡ 3) ⊎ ((y : Act) × (on a y ≡ true) × (k ≤
      rows y) × Merged s a y)) → Later s (record s { server = at s.server n (record (s.server n) { base = base; log = log; rows = rows }) })
  later_rows moves = later_server s n v s.yes s.vote s.net (record { rises = omega arith; active = λ e. omega arith; voted = λ e m f. f })
      (λ a b k x e inc act alive one voted o row merged. elim (moves a k x alive one voted o row merged)
      [ inl three ↦ over (omega (arith, three)) | inr p ↦ stands_by s n v s.yes s.vote s.net a b k p.0 v e inc act p.1 p.2 p.3 ])
      (λ m b named e. inl e)
    where
      v : Server
      v = record (s.server n) { base = base; log = log; rows = rows }

-- the row that covers an action after a pass
pub passed_row : (s : State) (rows : Rows) (x : Act) (j : ℕ) → (s.action (Sub x j)).stage ≡ 3 → (a : Act) (k : ℕ) (h : Act) →
    on a h ≡ true → k ≤ rows h → Merged s a h → (y : Act) × (on a y ≡ true) × (k ≤ pass rows x j y) × Merged s a y
passed_row s rows x j three a k h o row merged = by (by_cases (same h (Sub x j))) (by_cases (same h x))
  where
    by : (same h (Sub x j) ≡ true) ⊎ (same h (Sub x j) ≡ false) → (same h x ≡ true) ⊎ (same h x ≡ false) →
        (y : Act) × (on a y ≡ true) × (k ≤ pass rows x j y) × Merged s a y
    by (inl t) w =
        let e : h ≡ Sub x j = same_is h (Sub x j) t in
        let o' : on a (Sub x j) ≡ true = subst (λ (y : Act). on a y ≡ true) e o in
        let r : rows h ≡ rows (Sub x j) = ap rows e in (
          x,
          on_trans a (Sub x j) x o' (on_above x j x (on_self x)),
          (let p = pass_here rows x j in omega (arith, row, r, p)),
          λ u p f. elim (by_cases (on (Sub x j) u)) [
            | inl y ↦ elim (on_up x j u y) [ inl is ↦ ap (λ (z : Act). (s.action z).stage) is ∙ three | inr z ↦ differ z f ]
            | inr z ↦ merged u p (subst (λ (y : Act). on y u ≡ false) (sym e) z)
          ],
        )
    by (inr f) (inl t) =
        let e : h ≡ x = same_is h x t in
        let r : rows h ≡ rows x = ap rows e in (
          x,
          subst (λ (y : Act). on a y ≡ true) e o,
          (let p = pass_here rows x j in omega (arith, row, r, p)),
          subst (λ (y : Act). Merged s a y) e merged,
        )
    by (inr f) (inr g) = (h, o, (let p = pass_other rows x j h f g in omega (arith, row, p)), merged)

pub pass_row : (s : State) (n : ℕ) (x : Act) (j : ℕ) → Guard (PassRow n x j) s → Holds s →
    Later s (next (PassRow n x j) s) × Holds (next (PassRow n x j) s)
pass_row s n x j guard h = (later, join_server s n v s.net h later (apart_pass (s.server n).rows x j (h.servers n)) (λ m i. inl i))
  where
    v : Server
    v = record (s.server n) { rows = pass (s.server n).rows x j; log = map (handed x j) (s.server n).log }

    later : Later s (next (PassRow n x j) s)
    later = later_rows s n (s.server n).base (map (handed x j) (s.server n).log) (pass (s.server n).rows x j)
        (λ a k y alive one voted o row merged. inr (passed_row s (s.server n).rows x j guard.1 a k y o row merged))

pub pass_top : (s : State) (n u j : ℕ) → Guard (PassTop n u j) s → Holds s →
    Later s (next (PassTop n u j) s) × Holds (next (PassTop n u j) s)
pass_top s n u j guard h = (later, join_server s n v s.net h later (apart_pass (s.server n).rows (Root u) j (h.servers n)) (λ m i. inl i))
  where
    v : Server
    v = record (s.server n) {
      rows = pass (s.server n).rows (Root u) j;
      base = held_value (Sub (Root u) j) (s.server n).base (s.server n).log;
      log = filter (λ e. not (on e.holder (Sub (Root u) j))) (s.server n).log;
    }

    later : Later s (next (PassTop n u j) s)
    later = later_rows s n (held_value (Sub (Root u) j) (s.server n).base (s.server n).log)
        (filter (λ e. not (on e.holder (Sub (Root u) j))) (s.server n).log) (pass (s.server n).rows (Root u) j)
        (λ a k y alive one voted o row merged. inr (passed_row s (s.server n).rows (Root u) j guard.0 a k y o row merged))

pub drop_rows : (s : State) (n : ℕ) (x : Act) → Guard (DropRows n x) s → Holds s →
    Later s (next (DropRows n x) s) × Holds (next (DropRows n x) s)
drop_rows s n x guard h = (
  later,
  join_server s n v s.net h later
      (apart_less (s.server n).rows (drop_below (s.server n).rows x) (h.servers n) (drop_less (s.server n).rows x)) (λ m i. inl i),
)
  where
    v : Server
    v = record (s.server n) { rows = drop_below (s.server n).rows x; log = filter (λ e. not (on e.holder x)) (s.server n).log }

    later : Later s (next (DropRows n x) s)
    later = later_rows s n (s.server n).base (filter (λ e. not (on e.holder x)) (s.server n).log) (drop_below (s.server n).rows x)
        (λ a k y alive one voted o row merged. stay a k y alive one voted o row merged (by_cases (on y x)) guard)
      where
        stay : (a : Act) (k : ℕ) (y : Act) → Alive s a → 1 ≤ k → ((s.action (top a)).stage ≡ 3 → (s.server n).voted (top a) ≡ true) →
            on a y ≡ true → k ≤ (s.server n).rows y → Merged s a y → (on y x ≡ true) ⊎ (on y x ≡ false) → Guard (DropRows n x) s
            → ((s.action (Root (root a))).stage ≡ 3) ⊎ ((z : Act) × (on a z ≡ true) × (k ≤ drop_below (s.server n).rows x z) × Merged s a z)
        stay a k y alive one voted o row merged (inr f) g =
            inr (y, o, (let e = drop_other (s.server n).rows x y f in omega (arith, row, e)), merged)
        stay a k y alive one voted o row merged (inl t) (inl four) = absurd (let l = alive x (on_trans a y x o t) in omega (arith, l, four))
        stay a k y alive one voted o row merged (inl t) (inr (inl ended)) =
            inl (ap (λ (r : ℕ). (s.action (Root r)).stage) (on_root a x (on_trans a y x o t)) ∙ ended.0)
        stay a k y alive one voted o row merged (inl t) (inr (inr p)) =
            let e : top a ≡ x = top_of a x p.0 (on_trans a y x o t) in
            differ (subst (λ (z : Act). (s.server n).voted z ≡ true) e (voted (ap (λ (z : Act). (s.action z).stage) e ∙ p.1))) p.2

pub vote_top : (s : State) (n : ℕ) (m : Act) (b i : ℕ) → Guard (VoteTop n m b i) s → Holds s →
    Later s (next (VoteTop n m b i) s) × Holds (next (VoteTop n m b i) s)
vote_top s n m b i guard h = (
  later,
  join h later naming (λ j e. inl e) (servers_apart s n v ys vs s.net h (h.servers n)) (λ c j. j) (λ c j. inl j) tops h.turns h.ended
      (λ a. wait_on h later a (omega arith) (λ u o act e w alive. e) (λ c j. inl j)) h.anti (λ x j. inl j),
)
  where
    v : Server
    v = record (s.server n) { voted = at_act (s.server n).voted m true }

    ys : Act → ℕ
    ys = at_act s.yes m (max (s.yes m) b)

    vs : Act → Ballot
    vs = at_act s.vote m (ballot s n m b)

    t : State
    t = next (VoteTop n m b i) s

    mean : Mean s (Vote m b i)
    mean = h.mail (Vote m b i) guard.0

    bound : NamedHolds s b
    bound = h.bindings b mean.1

    -- the copy is up: the vote's incarnation isn't above the named one
    up : IsUp s b
    up = subst (λ (x : Server). (x.incarnation ≡ (s.binding b).incarnation) × (x.active ≡ b)) (sym (ap s.server guard.1))
        (inc (subst (λ (x : Server). Reached x (s.binding b).incarnation b) (ap s.server guard.1) bound.reached), guard.3)
      where
        inc : Reached (s.server n) (s.binding b).incarnation b → (s.server n).incarnation ≡ (s.binding b).incarnation
        inc (inl l) = absurd (let e = guard.2 in let k = mean.3 in omega (arith, l, e, k))
        inc (inr (e, l)) = sym e

    voted_more : (x : Act) → (s.server n).voted x ≡ true → v.voted x ≡ true
    voted_more =
        act_cases (λ (x : Act) (w : Bool). (s.server n).voted x ≡ true → w ≡ true) (s.server n).voted m true (λ e. refl) (λ x f e. e)

    later : Later s t
    later = later_server s n v ys vs s.net (record { rises = omega arith; active = λ e. omega arith; voted = λ e x f. voted_more x f })
        (λ a b' k x e inc act alive one voted o row merged. stands_by s n v ys vs s.net a b' k x v e inc act o row merged)
        votes
      where
        votes : (x : Act) (j : ℕ) → (s.binding j).named ≡ true → ys x ≡ j → (s.yes x ≡ j) ⊎ IsUp s j
        votes x j named = act_cases (λ (y : Act) (w : ℕ). w ≡ j → (s.yes y ≡ j) ⊎ IsUp s j) s.yes m (max (s.yes m) b)
            (λ e. elim (one_of (s.yes m) b j e) [ inl is ↦ inl is | inr is ↦ inr (subst (λ (k : ℕ). IsUp s k) is up) ]) (λ y f e. inl e) x
          where
            one_of : (x y z : ℕ) → max x y ≡ z → (x ≡ z) ⊎ (y ≡ z)
            one_of x y z e = grind arith

    naming : NamingHolds t
    naming = record {
      apart = h.naming.apart;
      told = h.naming.told;
      known = h.naming.known;
      recorded_below = h.naming.recorded_below;
      first_below = h.naming.first_below;
      first_above = h.naming.first_above;
      kept_below = h.naming.kept_below;
      made_below = h.naming.made_below;
      making = h.naming.making;
      doubt = h.naming.doubt;
    }

    tops : (x : Act) → is_top x ≡ true → TopHolds t x
    tops x is = elim (by_cases (same x m)) [
      | inl e ↦ subst (λ (y : Act). TopHolds t y) (sym (same_is x m e)) here
      | inr f ↦ top_on h later x is refl (act_other s.yes m (max (s.yes m) b) x f) refl
    ]
      where
        old : TopHolds s m
        old = h.tops m mean.0

        ym : t.yes m ≡ max (s.yes m) b
        ym = act_here s.yes m (max (s.yes m) b)

        pick : (x y : ℕ) → (max x y ≡ x) ⊎ (max x y ≡ y)
        pick x y = grind arith

        vote_here : (server_of t b).voted m ≡ true
        vote_here = subst (λ (x : Server). x.voted m ≡ true) (sym (there s n v ys vs s.net b guard.1)) (act_here (s.server n).voted m true)

        here : TopHolds t m
        here = record {
          before = old.before;
          ordered = old.ordered;
          goes = old.goes;
          called = λ two three c j alive covers. let p = old.called two three c j alive covers in
              ((let e = p.0 in let y = ym in let l = mean.2 in omega (arith, e, y, l)), p.1);
          included = old.included;
          asked = old.asked;
          confirmed = old.confirmed;
          voting = λ one. mean.4;
          named = λ one. named (pick (s.yes m) b) one;
          voted = λ one up'. voted (pick (s.yes m) b) one up';
        }
          where
            named : (max (s.yes m) b ≡ s.yes m) ⊎ (max (s.yes m) b ≡ b) → 1 ≤ t.yes m → (s.binding (t.yes m)).named ≡ true
            named (inl e) one = let y : t.yes m ≡ s.yes m = ym ∙ e in
                subst (λ (j : ℕ). (s.binding j).named ≡ true) (sym y) (old.named (omega (arith, one, y)))
            named (inr e) one = subst (λ (j : ℕ). (s.binding j).named ≡ true) (sym (ym ∙ e)) mean.1

            voted : (max (s.yes m) b ≡ s.yes m) ⊎ (max (s.yes m) b ≡ b) → 1 ≤ t.yes m → IsUp t (t.yes m) →
                (server_of t (t.yes m)).voted m ≡ true
            voted (inl e) one up' =
                let y : t.yes m ≡ s.yes m = ym ∙ e in
                let o : 1 ≤ s.yes m = omega (arith, one, y) in
                let named' = old.named o in
                let n' = h.bindings (s.yes m) named' in
                let u = up_back later (s.yes m) named' n'.below n'.reached (subst (λ (j : ℕ). IsUp t j) y up') in
                subst (λ (j : ℕ). (server_of t j).voted m ≡ true) (sym y)
                ((later.server (s.binding (s.yes m)).server).voted u.1 m (old.voted o u.0))
            voted (inr e) one up' = subst (λ (j : ℕ). (server_of t j).voted m ≡ true) (sym (ym ∙ e)) vote_here

-- Messages of coordinators and stores.

pub load : (s : State) (b w : ℕ) → Guard (Load b w) s → Holds s → Later s (next (Load b w) s) × Holds (next (Load b w) s)
load s b w guard h = send_one s (Activate b w) h (
  p.2,
  p.3,
  guard.1,
  p.0,
  λ current. (guard.2
      (record { present = current.present; unrecorded = current.unrecorded; untold = current.untold; last = current.last })).settled,
)
  where
    p : Mean s (Made (s.binding b).maker b)
    p = h.mail (Made (s.binding b).maker b) guard.0

pub send_vote : (s : State) (m : Act) (i : ℕ) → Guard (SendVote m i) s → Holds s →
    Later s (next (SendVote m i) s) × Holds (next (SendVote m i) s)
send_vote s m i guard h =
    send_one s (Vote m (s.kept (root m)) i) h (guard.0, guard.2, omega arith, guard.3, (let e = guard.1 in omega (arith, e)))

pub send_confirm : (s : State) (m : Act) (q : ℕ) → Guard (SendConfirm m q) s → Holds s →
    Later s (next (SendConfirm m q) s) × Holds (next (SendConfirm m q) s)
send_confirm s m q guard h =
    send_one s (Confirm m q) h (guard.0, (let e = guard.1 in omega (arith, e)), (λ c i alive covers. (guard.2 c i alive covers).1), guard.3)
