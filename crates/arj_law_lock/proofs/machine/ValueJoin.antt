-- Messages, copies and logs where a step leaves them alone.
use Rattle.arj_law_lock.proofs.Terms
use Terms.{◌≡◌, ◌≤◌, ◌<◌, ◌⊎◌, ℕ, List, true, false, inl, inr, refl, sym, ◌∙◌, ap, subst, arith, Act, Root, same, on, root, top, is_top}
use Terms.{is_action, In, Entry, Server, Call, Request, Answer, Message, Live, Made, Granted, Activate, Activated, Recorded, Invoke}
use Terms.{Invoked, Refused, Changed, Vote, Confirm, State, Alive, Merged, Newest, IsLast, Survives, IsCurrent}
use Rattle.arj_law_lock.proofs.machine
use machine.{Lasts.asked_on, Paths.top_is, Paths.top_root, Paths.on_root}
use machine.Claims.{server_of, IsUp, Reached, IsPast, Pending, Asked, Holds, Anchor, own, unit, sibling, Doubtless}
use machine.Later.{Later, alive_back, merged_on, first_rises, past_lasts, up_back, same_server, doubt_on}
use machine.ValueClaims.{Clean, Fine, Ok, Mine, IsWaiting, Logged, EntryHolds, CopyHolds, Seen, Used, Spent, HasEntry, NoEntry, Says}
use machine.ValueClaims.{Values}
use machine.ValueLasts.{ValueLater, clean_alive, survives_clean, survives_ok, last_on, sees_on, logged_on, fine_back, seen_on}

-- One server as another: its copy and log as they were, its rows and numbers not below.
pub record Still (v w : Server) : Type 0 where
  pub active : w.active ≡ v.active
  pub base : w.base ≡ v.base
  pub log : w.log ≡ v.log
  pub rows : (a : Act) → v.rows a ≤ w.rows a
  pub request : (a : Act) → v.request a ≤ w.request a

pub still_self : (v : Server) → Still v v
still_self v = record { active = refl; base = refl; log = refl; rows = λ a. omega arith; request = λ a. omega arith }

-- an entry of one log has its like in the other
abbrev pub Like : Entry → List Entry → Type 0
Like e es = (f : Entry) × In f es × (f.by ≡ e.by) × (f.request ≡ e.request) × (f.gives ≡ e.gives)

number_past : (a b c d : ℕ) → (a < b) ⊎ ((a ≡ b) ⊎ (b < a)) → (c < d) ⊎ (d ≤ c) →
    ((a < b) ⊎ ((a ≡ b) × (c < d))) ⊎ (((a < b) ⊎ ((a ≡ b) × (c < d))) → ⊥)
number_past a b c d (inl l) k = inl (inl l)
number_past a b c d (inr (inl e)) (inl k) = inl (inr (e, k))
number_past a b c d (inr (inl e)) (inr k) = inr (λ z. elim z [ inl l ↦ omega (arith, e, l) | inr p ↦ (let l = p.1 in omega (arith, l, k)) ])
number_past a b c d (inr (inr g)) k = inr (λ z. elim z [ inl l ↦ omega (arith, g, l) | inr p ↦ (let e = p.0 in omega (arith, g, e)) ])

pub past_or : (a b c d : ℕ) → ((a < b) ⊎ ((a ≡ b) × (c < d))) ⊎ (((a < b) ⊎ ((a ≡ b) × (c < d))) → ⊥)
past_or a b c d = number_past a b c d (three a b) (two c d)
  where
    three : (x y : ℕ) → (x < y) ⊎ ((x ≡ y) ⊎ (y < x))
    three x y = grind arith

    two : (x y : ℕ) → (x < y) ⊎ (y ≤ x)
    two x y = grind arith

module _ {s : State} (h : Holds s) where
  -- whose unit has a row on the entry is of the unit that has the write row
  anchor_root : (m x : Act) → 2 ≤ s.naming.rows m → Anchor s 1 x → root m ≡ root x
  anchor_root m x write (own p) = kin x p.0
    where
      kin : (a : Act) → 1 ≤ s.naming.rows a → root m ≡ root a
      kin a l = elim (h.naming.apart m a write l) [ inl o ↦ on_root m a o | inr o ↦ sym (on_root a m o) ]
  anchor_root m x write (unit l) =
      elim (h.naming.apart m (Root (root x)) write l) [ inl o ↦ on_root m (Root (root x)) o | inr o ↦ sym (on_root (Root (root x)) m o) ]
  anchor_root m x write (sibling z it r three c p) =
      elim (h.naming.apart m z write p.0) [ inl o ↦ on_root m z o | inr o ↦ sym (on_root z m o) ] ∙ r

  -- while a binding is current no top with a surviving write gets its committed line
  pub none_reported : (b : ℕ) → b ≤ s.kept (root (s.binding b).maker) → is_top (s.binding b).maker ≡ true → Doubtless s b → IsCurrent
      s.naming (s.binding b).maker b → (c : Call) → In c s.calls → c.write ≡ true → Alive s c.act → (s.action (top c.act)).stage ≡ 2 → ⊥
  none_reported b low is doubtless current c i write alive two =
      let tops = h.tops (top c.act) (top_is c.act (h.calls c i).acts) in
      let p = tops.called (omega (arith, two)) (omega (arith, two)) c i alive (sym (top_root c.act), inl refl) in
      let l = doubtless current c i write alive p.1 (omega (arith, two)) in
      let e : s.kept (root (top c.act)) ≡ s.kept (root c.act) = ap s.kept (top_root c.act) in
      let q = ((h.calls c i).sure alive).here (omega (arith, l, e)) (tops.goes (omega (arith, two)) (omega (arith, two))) in
      let row = h.naming.making (s.binding b).maker is current.untold (let a = current.last in let k = current.present in
      omega (arith, a, k)) (let a = current.last in let k = current.unrecorded in omega (arith, a, k)) in
      let r : s.kept (root (s.binding b).maker) ≡ s.kept (root (top c.act)) = ap s.kept
      (anchor_root (s.binding b).maker (top c.act) row q.1) in
      let f = q.0 in let k = current.unrecorded in omega (arith, low, r, f, k)

module _ {s t : State} (h : Holds s) (v : Values s) (later : Later s t) (w : ValueLater s t) (doomed : (a : Act) →
    (t.action a).doomed ≡ true → (is_action a ≡ true) × (((t.action a).stage ≡ 0) ⊎ ((t.action a).stage ≡ 4))) (roots : (a : Act) →
    is_action a ≡ false → (t.action a).stage ≤ 3) where
  pub cleans : (a : Act) → Survives t a → Clean t a
  cleans = survives_clean t doomed roots

  pub oks : (a : Act) → is_action a ≡ true → Survives t a → Ok t a
  oks = survives_ok t cleans

  -- what is loaded for a current binding stays the last committed value
  pub loaded_on : (b x : ℕ) → b < s.naming.bound → b ≤ s.kept (root (s.binding b).maker) → is_top (s.binding b).maker ≡ true → Doubtless s b
      → (IsCurrent s.naming (s.binding b).maker b → IsLast s x s.calls) → IsCurrent t.naming (t.binding b).maker b → IsLast t x s.calls
  loaded_on b x below low is doubtless l current =
      let old = later.current b below current in
      last_on h v later w x s.calls (λ c i write survives. elim (w.news c.act (h.calls c i).acts survives) [
        | inl f ↦ f
        | inr two ↦
            absurd (none_reported h b low is doubtless old c i write (clean_alive s c.act (w.clean c.act (cleans c.act survives))) two)
      ]) (l old)

  pub used_on : (q : Request) → Asked s q → Used s q → Used t q
  used_on q asked (inl past) = inl (past_lasts later q.binding asked.2 (h.bindings q.binding asked.2).below past)
  used_on q asked (inr l) = by (order_cases (server_of s q.binding).incarnation (t.server (s.binding q.binding).server).incarnation
      (later.server (s.binding q.binding).server).rises) (h.bindings q.binding asked.2).reached
    where
      below : q.binding < s.naming.bound
      below = (h.bindings q.binding asked.2).below

      at_server : (server_of t q.binding) ≡ t.server (s.binding q.binding).server
      at_server = same_server later q.binding asked.2 below

      order_cases : (x y : ℕ) → x ≤ y → (x ≡ y) ⊎ (x < y)
      order_cases x y l = grind arith

      by : ((server_of s q.binding).incarnation ≡ (t.server (s.binding q.binding).server).incarnation)
          ⊎ ((server_of s q.binding).incarnation < (t.server (s.binding q.binding).server).incarnation) →
          Reached (server_of s q.binding) (s.binding q.binding).incarnation q.binding → Used t q
      by (inl e) r = inr (subst (λ (x : Server). q.number ≤ x.request q.act) (sym at_server)
          (let k = w.request (s.binding q.binding).server e q.act in omega (arith, l, k)))
      by (inr up) (inl r) = inl (inl (subst (λ (x : Server). (t.binding q.binding).incarnation < x.incarnation) (sym at_server)
          (let e = (later.named q.binding asked.2).1 in omega (arith, e, r, up))))
      by (inr up) (inr (e', r)) = inl (inl (subst (λ (x : Server). (t.binding q.binding).incarnation < x.incarnation) (sym at_server)
          (let e = (later.named q.binding asked.2).1 in omega (arith, e, e', up))))

  -- no entry of a request comes later
  no_entry_on : ((b : ℕ) → (s.binding b).named ≡ true → (e : Entry) → In e (server_of t b).log → IsPast t b
      ⊎ (Like e (server_of s b).log ⊎ ((server_of s b).request e.by < e.request))) → (q : Request) → Asked s q → NoEntry s q → NoEntry t q
  no_entry_on fresh q asked (inl past) = inl (past_lasts later q.binding asked.2 (h.bindings q.binding asked.2).below past)
  no_entry_on fresh q asked (inr (l, none')) = elim (used_on q asked (inr l)) [
    | inl past ↦ inl past
    | inr l' ↦
        by_past (past_or (t.binding q.binding).incarnation (server_of t q.binding).incarnation q.binding (server_of t q.binding).active) l'
  ]
    where
      by_past : IsPast t q.binding ⊎ (IsPast t q.binding → ⊥) → q.number ≤ (server_of t q.binding).request q.act → NoEntry t q
      by_past (inl past) l' = inl past
      by_past (inr here) l' = inr (
        l',
        λ e k a n. elim (fresh q.binding asked.2 e k) [
          | inl past ↦ here past
          | inr k' ↦ elim k' [
            | inl f ↦ none' f.0 f.1 (f.2 ∙ a) (f.3 ∙ n)
            | inr new ↦ (let o : (server_of s q.binding).request q.act < e.request = subst
                (λ (x : Act). (server_of s q.binding).request x < e.request) a new in omega (arith, o, n, l))
          ]
        ],
      )

  pub says_on : ((q : Request) → In (Invoke q) s.net → q.number ≡ (s.action q.act).request → (s.action q.act).waits ≡ true → Spent t q)
      → ((b : ℕ) → (s.binding b).named ≡ true → (e : Entry) → In e (server_of s b).log → Pending t e.by e.request →
      IsPast t b ⊎ Like e (server_of t b).log)
      → ((b : ℕ) → (s.binding b).named ≡ true → (e : Entry) → In e (server_of t b).log →
      IsPast t b ⊎ (Like e (server_of s b).log ⊎ ((server_of s b).request e.by < e.request)))
      → ((x : ℕ) → IsLast t x s.calls → IsLast t x t.calls) → ((r : Answer) → In (Invoked r) s.net → Pending t r.request.act
      r.request.number → Clean t r.request.act → t.naming.first ≤ t.kept (root r.request.act) → IsUp t (t.kept (root r.request.act)) →
      Newest t.initial (Mine t r.request.act) r.sees s.calls → Newest t.initial (Mine t r.request.act) r.sees t.calls)
      → (m : Message) → In m s.net → Says s m → Says t m
  says_on spend stay fresh last sees (Live m b) i p = tt
  says_on spend stay fresh last sees (Made m b) i p = tt
  says_on spend stay fresh last sees (Granted m b) i p = tt
  says_on spend stay fresh last sees (Activate b x) i p = let k = h.mail (Activate b x) i in
      (λ current. last x (loaded_on b x k.1 k.2 k.3 k.4 p current))
  says_on spend stay fresh last sees (Activated b x) i p = tt
  says_on spend stay fresh last sees (Recorded b) i p = tt
  says_on spend stay fresh last sees (Invoke q) i p = ((let l = p.0 in let r = later.recorded in omega (arith, l, r)), by p.1)
    where
      by : Spent s q → Spent t q
      by (inl k) = spend q i k.0 k.1
      by (inr u) = inr (λ fine. used_on q (h.mail (Invoke q) i) (u (fine_back h v later w q.act (h.mail (Invoke q) i).0 fine)))
  says_on spend stay fresh last sees (Invoked r) i p = (
    used_on r.request asked p.0,
    entry,
    λ pt clean present up. sees r i pt clean present up (sees_on h v later w r i cleans p.2 pt clean present up),
    λ read. no_entry_on fresh r.request asked (p.3 read),
  )
    where
      asked : Asked s r.request
      asked = (h.mail (Invoked r) i).0

      entry : HasEntry t r
      entry write pt = by (p.1 write old)
        where
          old : Pending s r.request.act r.request.number
          old = (later.pend r.request.act r.request.number asked.1 pt).0

          by : IsPast s r.request.binding ⊎ ((e : Entry) × In e (server_of s r.request.binding).log × (e.by ≡ r.request.act)
              × (e.request ≡ r.request.number) × (e.gives ≡ r.gives)) → IsPast t r.request.binding ⊎ ((e : Entry)
              × In e (server_of t r.request.binding).log × (e.by ≡ r.request.act) × (e.request ≡ r.request.number) × (e.gives ≡ r.gives))
          by (inl past) = inl (past_lasts later r.request.binding asked.2 (h.bindings r.request.binding asked.2).below past)
          by (inr (e, k, a, n, g)) = elim (stay r.request.binding asked.2 e k
              (subst (λ (x : Act). Pending t x e.request) (sym a) (subst (λ (x : ℕ). Pending t r.request.act x) (sym n) pt)))
              [ inl past ↦ inl past | inr f ↦ inr (f.0, f.1, f.2 ∙ a, f.3 ∙ n, f.4 ∙ g) ]
  says_on spend stay fresh last sees (Refused q) i p = (asked_on h later q p.0, no_entry_on fresh q p.0 p.1)
  says_on spend stay fresh last sees (Changed b) i p = ((later.named b p.0).0, past_lasts later b p.0 (h.bindings b p.0).below p.1)
  says_on spend stay fresh last sees (Vote m b x) i p = tt
  says_on spend stay fresh last sees (Confirm m q) i p = tt

  -- Copies and logs of servers that stay as they are.

  pub logs_still : (n : ℕ) → Still (s.server n) (t.server n) → (e : Entry) → In e (t.server n).log → EntryHolds t n e
  logs_still n still e i = record {
    acts = o.acts;
    path = o.path;
    holder = o.holder;
    row = (let l = o.row in let r = still.rows e.holder in omega (arith, l, r));
    merged = merged_on later e.by e.holder o.merged;
    request = (let l = o.request in let r = still.request e.by in omega (arith, l, r));
    asked = (let l = o.asked in let r = later.request e.by in omega (arith, l, r));
  }
    where
      o : EntryHolds s n e
      o = v.logs n e (subst (λ (es : List Entry). In e es) still.log i)

  pub copy_loaded : (n b : ℕ) → (t.server n).active ≡ b → b < s.naming.bound → b ≤ s.kept (root (s.binding b).maker) →
      is_top (s.binding b).maker ≡ true → Doubtless s b → (IsCurrent s.naming (s.binding b).maker b → IsLast s (t.server n).base s.calls) →
      (IsCurrent s.naming (s.binding b).maker b → (e : Entry) → In e (t.server n).log → ⊥) → t.calls ≡ s.calls → CopyHolds t n
  copy_loaded n b e below low is doubtless base log same = here'
    where
      maker : (t.binding b).maker ≡ (s.binding b).maker
      maker = (later.made b below).1

      here' : CopyHolds t n
      here' = record {
        below = (let l = later.bound in omega (arith, l, e, below));
        kept = subst (λ (x : ℕ). x ≤ t.kept (root (t.binding x).maker)) (sym e)
            (subst (λ (m : Act). b ≤ t.kept (root m)) (sym maker) (let l = later.kept (root (s.binding b).maker) in omega (arith, l, low)));
        maker = subst (λ (x : ℕ). is_top (t.binding x).maker ≡ true) (sym e) (ap is_top maker ∙ is);
        doubtless = subst (λ (x : ℕ). Doubtless t x) (sym e) (doubt_on later b below doubtless);
        base = subst (λ (x : ℕ). IsCurrent t.naming (t.binding x).maker x →
            IsLast t (t.server n).base t.calls) (sym e) (subst (λ (cs : List Call). IsCurrent t.naming (t.binding b).maker b →
            IsLast t (t.server n).base cs) (sym same) (loaded_on b (t.server n).base below low is doubtless base));
        log = subst (λ (x : ℕ). IsCurrent t.naming (t.binding x).maker x → (f : Entry) → In f (t.server n).log →
            ⊥) (sym e) (λ current. log (later.current b below current));
      }

  pub fresh_still : (n : ℕ) → Still (s.server n) (t.server n) → t.calls ≡ s.calls → 1 ≤ (t.server n).active → CopyHolds t n
  fresh_still n still same one = copy_loaded n (s.server n).active still.active o.below o.kept o.maker o.doubtless
      (λ current. subst (λ (x : ℕ). IsLast s x s.calls) (sym still.base) (o.base current))
      (λ current e i. o.log current e (subst (λ (es : List Entry). In e es) still.log i)) same
    where
      o : CopyHolds s n
      o = v.fresh n (let e = still.active in omega (arith, one, e))

  pub copy_still : t.naming.recorded ≡ s.naming.recorded →
      Still (s.server (s.binding s.naming.recorded).server) (t.server (s.binding s.naming.recorded).server) → t.calls ≡ s.calls
      → ((e : Entry) → is_action e.by ≡ true → IsWaiting s e → Fine t e.by → s.kept (root e.by) ≡ s.naming.recorded →
      In e (server_of s s.naming.recorded).log → s.naming.first ≤ s.naming.recorded → IsUp s s.naming.recorded → IsWaiting t e)
      → t.naming.first ≤ t.naming.recorded → IsUp t t.naming.recorded →
      Logged t (server_of t t.naming.recorded).base (server_of t t.naming.recorded).log t.calls
  copy_still e still same waits present up = subst (λ (b : ℕ). Logged t (server_of t b).base (server_of t b).log t.calls) (sym e)
      (subst (λ (x : Server). Logged t x.base x.log t.calls) (sym (ap t.server (later.made s.naming.recorded h.naming.recorded_below).0))
      (subst (λ (cs : List Call). Logged t (t.server n).base (t.server n).log cs) (sym same)
      (subst (λ (b : ℕ). Logged t b (t.server n).log s.calls) (sym still.base)
      (subst (λ (es : List Entry). Logged t (s.server n).base es s.calls) (sym still.log)
      (logged_on h v later w e old_present oks (s.server n).base (s.server n).log (λ f i. let q = v.logs n f i in
      (q.acts, q.asked)) (λ f i x fine k. waits f (v.logs n f i).acts x fine k i old_present old_up) (v.copy old_present old_up))))))
    where
      n : ℕ
      n = (s.binding s.naming.recorded).server

      old_present : s.naming.first ≤ s.naming.recorded
      old_present = let l = first_rises later in omega (arith, present, l, e)

      named : (s.binding s.naming.recorded).named ≡ true
      named = h.naming.known old_present

      old_up : IsUp s s.naming.recorded
      old_up = (up_back later s.naming.recorded named h.naming.recorded_below (h.bindings s.naming.recorded named).reached
          (subst (λ (b : ℕ). IsUp t b) e up)).0

  at_server : (b : ℕ) → (s.binding b).named ≡ true → server_of t b ≡ t.server (s.binding b).server
  at_server b named = same_server later b named (h.bindings b named).below

  pub stay_still : ((n : ℕ) → Still (s.server n) (t.server n)) → (b : ℕ) → (s.binding b).named ≡ true → (f : Entry) →
      In f (server_of s b).log → Pending t f.by f.request → IsPast t b ⊎ Like f (server_of t b).log
  stay_still still b named f i p = inr (
    f,
    subst (λ (x : Server). In f x.log) (sym (at_server b named))
        (subst (λ (es : List Entry). In f es) (sym (still (s.binding b).server).log) i),
    refl,
    refl,
    refl,
  )

  pub fresh_log_still : ((n : ℕ) → Still (s.server n) (t.server n)) → (b : ℕ) → (s.binding b).named ≡ true → (f : Entry) →
      In f (server_of t b).log → IsPast t b ⊎ (Like f (server_of s b).log ⊎ ((server_of s b).request f.by < f.request))
  fresh_log_still still b named f i = inr (inl (
    f,
    subst (λ (es : List Entry). In f es) (still (s.binding b).server).log (subst (λ (x : Server). In f x.log) (at_server b named) i),
    refl,
    refl,
    refl,
  ))

  -- The whole, for a step that adds no call.
  pub join_full : t.calls ≡ s.calls
      → ((a : Act) → (t.action a).waits ≡ true → (is_action a ≡ true) × (((t.action a).stage ≡ 0) ⊎ ((t.action a).stage ≡ 4)))
      → ((a : Act) → (t.action a).waits ≡ true → Alive t a → (u : Act) → on a u ≡ true → is_action u ≡ true → (t.action u).stage ≡ 0)
      → ((c : Call) → In c s.calls → Alive t c.act → 1 ≤ (t.action (top c.act)).stage → Merged t c.act (top c.act))
      → ((n : ℕ) (e : Entry) → In e (t.server n).log → EntryHolds t n e)
      → ((n : ℕ) → 1 ≤ (t.server n).active → CopyHolds t n)
      → (t.naming.first ≤ t.naming.recorded → IsUp t t.naming.recorded →
      Logged t (server_of t t.naming.recorded).base (server_of t t.naming.recorded).log t.calls)
      → ((b : ℕ) → (s.binding b).named ≡ true → (e : Entry) → In e (server_of s b).log → Pending t e.by e.request →
      IsPast t b ⊎ Like e (server_of t b).log)
      → ((b : ℕ) → (s.binding b).named ≡ true → (e : Entry) → In e (server_of t b).log →
      IsPast t b ⊎ (Like e (server_of s b).log ⊎ ((server_of s b).request e.by < e.request)))
      → ((q : Request) → In (Invoke q) s.net → q.number ≡ (s.action q.act).request → (s.action q.act).waits ≡ true → Spent t q)
      → ((m : Message) → In m t.net → In m s.net ⊎ Says t m) → Values t
  join_full same waits path whole logs copies copy stay fresh spend mail = record {
    waits = waits;
    path = path;
    doomed = doomed;
    roots = roots;
    whole = λ c i. whole c (subst (λ (cs : List Call). In c cs) same i);
    logs = logs;
    fresh = copies;
    copy = copy;
    seen = subst (λ (cs : List Call). Seen t cs) (sym same) (seen_on h v later w s.calls (λ c i. i) cleans v.seen);
    says = λ m i. elim (mail m i) [
      | inl old ↦ says_on spend stay fresh (λ x l. subst (λ (cs : List Call). IsLast t x cs) (sym same) l) (λ r j pt clean present up z.
          subst (λ (cs : List Call). Newest t.initial (Mine t r.request.act) r.sees cs) (sym same) z) m old (v.says m old)
      | inr new ↦ new
    ];
  }

  -- The same for a step that leaves each copy and its log alone.
  pub join_still : t.calls ≡ s.calls → t.naming.recorded ≡ s.naming.recorded → ((n : ℕ) → Still (s.server n) (t.server n))
      → ((a : Act) → (t.action a).waits ≡ true → (is_action a ≡ true) × (((t.action a).stage ≡ 0) ⊎ ((t.action a).stage ≡ 4)))
      → ((a : Act) → (t.action a).waits ≡ true → Alive t a → (u : Act) → on a u ≡ true → is_action u ≡ true → (t.action u).stage ≡ 0)
      → ((c : Call) → In c s.calls → Alive t c.act → 1 ≤ (t.action (top c.act)).stage → Merged t c.act (top c.act))
      → ((e : Entry) → is_action e.by ≡ true → IsWaiting s e → Fine t e.by → s.kept (root e.by) ≡ s.naming.recorded →
      In e (server_of s s.naming.recorded).log → s.naming.first ≤ s.naming.recorded → IsUp s s.naming.recorded → IsWaiting t e)
      → ((q : Request) → In (Invoke q) s.net → q.number ≡ (s.action q.act).request → (s.action q.act).waits ≡ true → Spent t q)
      → ((m : Message) → In m t.net → In m s.net ⊎ Says t m) → Values t
  join_still same e still waits path whole waiting' spend mail =
      join_full same waits path whole (λ n. logs_still n (still n)) (λ n. fresh_still n (still n) same)
      (copy_still e (still (s.binding s.naming.recorded).server) same waiting') (stay_still still) (fresh_log_still still) spend mail

  pub whole_on : (c : Call) → In c s.calls → Alive t c.act → 1 ≤ (s.action (top c.act)).stage → Merged t c.act (top c.act)
  whole_on c i alive one = merged_on later c.act (top c.act) (v.whole c i (alive_back later c.act alive) one)
