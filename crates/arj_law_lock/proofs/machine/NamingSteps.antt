-- Naming's steps but those that make, record or confirm.
use Rattle.arj_law_lock.proofs.Terms
use Terms.{◌≡◌, ◌≤◌, ◌<◌, ◌⊎◌, ℕ, List, ◌∷◌, Bool, true, false, inl, inr, refl, sym, ◌∙◌, ap, subst, arith, Act, Root, Sub, on, root}
use Terms.{is_top, is_action, In, Rows, Apart, Naming, Server, Message, Live, Granted, State, raise, pass, drop_below, IsCurrent}
use Terms.{CrashNaming, BindLive, Grant, PassEntry, DropEntry, Guard, next, cond, max, same, at_act}
use Rattle.arj_law_lock.proofs.machine
use machine.{Lasts.join, Lasts.top_on, Lasts.wait_on, Later.Later, Later.ServerLater}
use machine.Claims.{GoesOn, stands, HoldsTop, Anchor, Own, Wrote, Mean, NamingHolds, Holds, own, unit, sibling}
use machine.Paths.{by_cases, differ, on_root, act_cases, act_here, same_is, above_top}
use machine.Rows.{apart_none, apart_less, apart_raise, apart_pass, pass_here, pass_other, pass_cases, drop_less, drop_other}
use Rattle.arj_law_lock.specs.machine.Steps.{IsGone}

-- Steps of naming.

pub server_same : (v : Server) → ServerLater v v
server_same v = record { rises = omega arith; active = λ e. omega arith; voted = λ e m f. f }

-- Naming's part alone changes.
module _ (s : State) (n : Naming) (ms : List Message) where
  pub later_naming : ((n.first ≡ s.naming.first) ⊎ ((s.naming.bound ≤ n.first) × (s.naming.first < n.first))) →
      s.naming.recorded ≤ n.recorded → s.naming.bound ≤ n.bound
      → ((m : Act) (b : ℕ) → is_top m ≡ true → b < s.naming.bound → Own s m b → Own (record s { naming = n; net = ms }) m b)
      → ((m : Act) (g : ℕ) → is_top m ≡ true → g ≤ s.naming.first → Wrote s m g → Wrote (record s { naming = n; net = ms }) m g)
      → ((k : ℕ) (m : Act) → is_top m ≡ true → 1 ≤ k → k ≤ 2 → n.first ≡ s.naming.first → (s.action m).stage ≤ 3 → GoesOn s (root m) →
      ((s.action m).stage ≡ 3 → s.naming.confirmed m ≡ true) → Anchor s k m → Anchor (record s { naming = n; net = ms }) k m)
      → ((m : Act) → is_top m ≡ true → n.first ≡ s.naming.first → s.naming.recorded ≡ s.kept (root m) → Anchor s 1 m →
      n.recorded ≡ s.naming.recorded)
      → ((b : ℕ) → b < s.naming.bound → IsCurrent n (s.binding b).maker b → IsCurrent s.naming (s.binding b).maker b)
      → ((m : Act) → s.naming.confirmed m ≡ true → (n.confirmed m ≡ true) ⊎ ((s.naming.bound ≤ n.first) × (s.naming.first < n.first)))
      → Later s (record s { naming = n; net = ms })
  later_naming first recorded bound own' wrote anchored same_recorded current' confirmed = record {
    now = omega arith;
    first = first;
    recorded = recorded;
    bound = bound;
    made = λ b l. (refl, refl);
    named = λ b e. (e, refl);
    server = λ k. server_same (s.server k);
    stage = λ a. omega arith;
    ends = λ a e. (e, refl);
    fresh = λ a act e. inl e;
    place = λ a l. refl;
    placed = λ a l. l;
    going = λ m is l k. inl l;
    units = λ m is l k f. f l k;
    kept = λ u. omega arith;
    keeps = λ c i alive. refl;
    calls = λ c i. i;
    fresh_call = λ c i. inl i;
    includes = λ c i. i;
    fresh_include = λ c i. inl i;
    pend = λ a k l p. (record { last = p.last; waits = p.waits; alive = p.alive; going = p.going }, refl, refl);
    request = λ a. omega arith;
    own = own';
    wrote = wrote;
    anchored = anchored;
    same_recorded = same_recorded;
    current = current';
    settled = λ e d c i w alive conf two. let l = d c i w alive conf two in omega (arith, l, e);
    stays = λ a b k h e alive one v up o row merged. stands h up o row merged;
    confirmed = confirmed;
    yes = λ m b e f. inl f;
    confirms = λ c i alive m is member e. inl e;
    confirms_include = λ c i alive m is member e. inl e;
  }

  pub join_naming : Holds s → Later s (record s { naming = n; net = ms }) → NamingHolds (record s { naming = n; net = ms }) →
      ((m : Message) → In m ms → In m s.net ⊎ Mean (record s { naming = n; net = ms }) m) → Holds (record s { naming = n; net = ms })
  join_naming h later naming mail =
      join h later naming (λ b e. inl e) h.servers (λ c i. i) (λ c i. inl i) (λ m is. top_on h later m is refl refl refl) h.turns h.ended
      (λ a. wait_on h later a (omega arith) (λ u o act e w alive. e) (λ c i. inl i)) h.anti mail

-- The rows of naming only rise, and all else stays.
module _ (s : State) (rows : Rows) (asked : Act → Bool) (ms : List Message) (rise : (a : Act) →
    s.naming.rows a ≤ rows a) (still : (a : Act) → s.naming.asked a ≡ true → asked a ≡ true) where
  holds_more : (k : ℕ) (m : Act) → HoldsTop s.naming k m → HoldsTop (record s.naming { rows = rows; asked = asked }) k m
  holds_more k m p = ((let l = p.0 in let r = rise m in omega (arith, l, r)), λ two. still m (p.1 two))

  pub later_grown : Later s (record s { naming = record s.naming { rows = rows; asked = asked }; net = ms })
  later_grown = later_naming s (record s.naming { rows = rows; asked = asked }) ms (inl refl) (omega arith) (omega arith)
      (λ m b is l o present untold. let p = o present untold in ((let l0 = p.0 in let r = rise m in omega (arith, l0, r)), p.1))
      (λ m g is l w present untold. holds_more 2 m (w present untold))
      anchored
      (λ m is e f a. refl)
      (λ b l current. (record { present = current.present; unrecorded = current.unrecorded; untold = current.untold; last = current.last }))
      (λ m e. inl e)
    where
      anchored : (k : ℕ) (m : Act) → is_top m ≡ true → 1 ≤ k → k ≤ 2 → s.naming.first ≡ s.naming.first → (s.action m).stage ≤ 3 →
          GoesOn s (root m) → ((s.action m).stage ≡ 3 → s.naming.confirmed m ≡ true) → Anchor s k m →
          Anchor (record s { naming = record s.naming { rows = rows; asked = asked }; net = ms }) k m
      anchored k m is one two e alive goes conf (own p) = own (holds_more k m p)
      anchored k m is one two e alive goes conf (unit l) = unit (let r = rise (Root (root m)) in omega (arith, l, r))
      anchored k m is one two e alive goes conf (sibling t it r three c p) = sibling t it r three c (holds_more k t p)

  naming_grown : Holds s → Apart rows → NamingHolds (record s { naming = record s.naming { rows = rows; asked = asked }; net = ms })
  naming_grown h apart = record {
    apart = apart;
    told = h.naming.told;
    known = h.naming.known;
    recorded_below = h.naming.recorded_below;
    first_below = h.naming.first_below;
    first_above = h.naming.first_above;
    kept_below = h.naming.kept_below;
    made_below = h.naming.made_below;
    making = λ m is untold present l. (let p = h.naming.making m is untold present l in let r = rise m in omega (arith, p, r));
    doubt = h.naming.doubt;
  }

pub raise_more : (rows : Rows) (m : Act) (k : ℕ) (a : Act) → rows a ≤ raise rows m k a
raise_more rows m k = act_cases (λ (a : Act) (v : ℕ). rows a ≤ v) rows m (max (rows m) k) (omega arith) (λ a apart. omega arith)

pub raise_least : (rows : Rows) (m : Act) (k : ℕ) → k ≤ raise rows m k m
raise_least rows m k = let e = act_here rows m (max (rows m) k) in omega (arith, e)

pub crash_naming : (s : State) (g : ℕ) → Guard (CrashNaming g) s → Holds s →
    Later s (next (CrashNaming g) s) × Holds (next (CrashNaming g) s)
crash_naming s g guard h = (later, join_naming s n s.net h later naming (λ m i. inl i))
  where
    n : Naming
    n = record s.naming { first = g; bound = g; rows = λ a. 0; told = λ a. false; confirmed = λ a. false; asked = λ a. false }

    low : s.naming.bound ≤ g
    low = guard.0

    up : s.naming.first < g
    up = guard.1

    later : Later s (record s { naming = n; net = s.net })
    later = later_naming s n s.net (inr guard) (omega arith) low
        (λ m b is l o present untold. absurd (let k = low in omega (arith, k, l, present)))
        (λ m f is l w present untold. absurd (let k = up in omega (arith, k, l, present)))
        (λ k m is one two e alive goes conf a. absurd (let l = up in omega (arith, l, e)))
        (λ m is e f a. refl)
        (λ b l current. absurd (let k = low in let p = current.present in omega (arith, k, l, p)))
        (λ m e. inr guard)

    naming : NamingHolds (record s { naming = n; net = s.net })
    naming = record {
      apart = apart_none;
      told = λ m is e. (let never : false ≡ true = e in absurd (cc));
      known = λ l. absurd (let k = low in let r = h.naming.recorded_below in omega (arith, l, k, r));
      recorded_below = (let k = low in let r = h.naming.recorded_below in omega (arith, k, r));
      first_below = omega arith;
      first_above = (let k = up in omega (arith, k));
      kept_below = λ u. (let k = low in let r = h.naming.kept_below u in omega (arith, k, r));
      made_below = λ m. (let k = low in let r = h.naming.made_below m in omega (arith, k, r));
      making = λ m is untold present l. absurd (let k = low in let r = h.naming.made_below m in omega (arith, k, r, present));
      doubt = λ l. absurd (let k = low in let r = h.naming.recorded_below in omega (arith, l, k, r));
    }

pub bind_live : (s : State) (m : Act) → Guard (BindLive m) s → Holds s → Later s (next (BindLive m) s) × Holds (next (BindLive m) s)
bind_live s m guard h = (
  later,
  join_naming s (record s.naming { rows = rows }) ms h later (naming_grown s rows s.naming.asked ms (raise_more s.naming.rows m 1)
      (λ a e. e) h (apart_raise s.naming.rows m 1 h.naming.apart guard.2)) mail,
)
  where
    rows : Rows
    rows = raise s.naming.rows m 1

    ms : List Message
    ms = Live m s.naming.recorded ∷ s.net

    later : Later s (next (BindLive m) s)
    later = later_grown s rows s.naming.asked ms (raise_more s.naming.rows m 1) (λ a e. e)

    mail : (x : Message) → In x ms → In x s.net ⊎ Mean (next (BindLive m) s) x
    mail x (inl is) = inr (subst (λ (y : Message). Mean (next (BindLive m) s) y) (sym is)
        (guard.0, h.naming.known guard.1, omega arith, λ present untold. (raise_least s.naming.rows m 1, inr (inl refl))))
    mail x (inr i) = inl i

pub grant : (s : State) (m : Act) → Guard (Grant m) s → Holds s → Later s (next (Grant m) s) × Holds (next (Grant m) s)
grant s m guard h = (
  later,
  join_naming s (record s.naming { rows = rows; asked = asked }) ms h later
      (naming_grown s rows asked ms (raise_more s.naming.rows m 2) still h (apart_raise s.naming.rows m 2 h.naming.apart guard.1)) mail,
)
  where
    rows : Rows
    rows = raise s.naming.rows m 2

    asked : Act → Bool
    asked = at_act s.naming.asked m true

    ms : List Message
    ms = Granted m s.naming.first ∷ s.net

    still : (a : Act) → s.naming.asked a ≡ true → asked a ≡ true
    still = act_cases (λ (a : Act) (v : Bool). s.naming.asked a ≡ true → v ≡ true) s.naming.asked m true (λ e. refl) (λ a apart e. e)

    later : Later s (next (Grant m) s)
    later = later_grown s rows asked ms (raise_more s.naming.rows m 2) still

    mail : (x : Message) → In x ms → In x s.net ⊎ Mean (next (Grant m) s) x
    mail x (inl is) = inr (subst (λ (y : Message). Mean (next (Grant m) s) y) (sym is)
        (guard.0, omega arith, λ present untold. (raise_least s.naming.rows m 2, λ two. act_here s.naming.asked m true)))
    mail x (inr i) = inl i

-- A committed top's row passes to its unit.
pub pass_entry : (s : State) (u j : ℕ) → Guard (PassEntry u j) s → Holds s →
    Later s (next (PassEntry u j) s) × Holds (next (PassEntry u j) s)
pass_entry s u j guard h = (later, join_naming s n s.net h later naming (λ x i. inl i))
  where
    T : Act
    T = Sub (Root u) j

    rows : Rows
    rows = pass s.naming.rows (Root u) j

    told : Act → Bool
    told = at_act s.naming.told T true

    n : Naming
    n = record s.naming { rows = rows; told = told }

    -- a top of which naming wasn't told is another, and its row stays
    apart : (m : Act) → is_top m ≡ true → told m ≡ false → (same m T ≡ false) × (s.naming.told m ≡ false)
    apart = λ m is. act_cases (λ (a : Act) (v : Bool). v ≡ false → (same a T ≡ false) × (s.naming.told a ≡ false)) s.naming.told T true
        (λ e. (let never : true ≡ false = e in absurd (cc))) (λ a f e. (f, e)) m

    no_root : (m : Act) → is_top m ≡ true → same m (Root u) ≡ false
    no_root (Root v) is = let never : false ≡ true = is in absurd (cc)
    no_root (Sub a k) is = refl

    row_same : (m : Act) → is_top m ≡ true → same m T ≡ false → rows m ≡ s.naming.rows m
    row_same m is f = pass_other s.naming.rows (Root u) j m f (no_root m is)

    unit_row : rows (Root u) ≡ max (s.naming.rows (Root u)) (s.naming.rows T)
    unit_row = pass_here s.naming.rows (Root u) j

    any_root : (v : ℕ) → s.naming.rows (Root v) ≤ rows (Root v)
    any_root v = pass_cases (λ (a : Act) (w : ℕ). is_action a ≡ false → s.naming.rows a ≤ w) s.naming.rows (Root u) j
        (λ e. (let never : true ≡ false = e in absurd (cc))) (λ e. omega arith) (λ a p q e. omega arith) (Root v) refl

    holder : (k : ℕ) (m x : Act) → is_top x ≡ true → root x ≡ root m → HoldsTop s.naming k x →
        (same x T ≡ true → Anchor (record s { naming = n; net = s.net }) k m)
    holder k m x is r p e =
        let xs : x ≡ T = same_is x T e in
        let w : s.naming.rows x ≡ s.naming.rows T = ap s.naming.rows xs in
        let q = unit_row in
        let l : k ≤ rows (Root u) = (let p0 = p.0 in omega (arith, p0, w, q)) in
        unit (subst (λ (v : ℕ). k ≤ rows (Root v)) (ap root (sym xs) ∙ r) l)

    keeps_holding : (k : ℕ) (x : Act) → is_top x ≡ true → HoldsTop s.naming k x → same x T ≡ false → HoldsTop n k x
    keeps_holding k x is p f = ((let e = row_same x is f in let l = p.0 in omega (arith, e, l)), p.1)

    anchored : (k : ℕ) (m : Act) → is_top m ≡ true → 1 ≤ k → k ≤ 2 → s.naming.first ≡ s.naming.first → (s.action m).stage ≤ 3 → GoesOn s
        (root m) → ((s.action m).stage ≡ 3 → s.naming.confirmed m ≡ true) → Anchor s k m → Anchor (record s { naming = n; net = s.net }) k m
    anchored k m is one two e alive goes conf (own p) =
        elim (by_cases (same m T)) [ inl t ↦ holder k m m is refl p t | inr f ↦ own (keeps_holding k m is p f) ]
    anchored k m is one two e alive goes conf (unit l) = unit (let r = any_root (root m) in omega (arith, l, r))
    anchored k m is one two e alive goes conf (sibling t it r three c p) =
        elim (by_cases (same t T)) [ inl w ↦ holder k m t it r p w | inr f ↦ sibling t it r three c (keeps_holding k t it p f) ]

    later : Later s (record s { naming = n; net = s.net })
    later = later_naming s n s.net (inl refl) (omega arith) (omega arith)
        (λ m b is l o present untold. let q = apart m is untold in let p = o present q.1 in
        ((let e = row_same m is q.0 in let l0 = p.0 in omega (arith, e, l0)), p.1))
        (λ m g is l w present untold. let q = apart m is untold in keeps_holding 2 m is (w present q.1) q.0)
        anchored
        (λ m is e f a. refl)
        (λ b l current. (record {
          present = current.present;
          unrecorded = current.unrecorded;
          untold = untold_before (s.binding b).maker current.untold;
          last = current.last;
        }))
        (λ m e. inl e)
      where
        untold_before : (m : Act) → told m ≡ false → s.naming.told m ≡ false
        untold_before = act_cases (λ (a : Act) (v : Bool). v ≡ false →
            s.naming.told a ≡ false) s.naming.told T true (λ e. (let never : true ≡ false = e in absurd (cc))) (λ a f e. e)

    naming : NamingHolds (record s { naming = n; net = s.net })
    naming = record {
      apart = apart_pass s.naming.rows (Root u) j h.naming.apart;
      told = λ m is.
          act_cases (λ (a : Act) (v : Bool). is_top a ≡ true → v ≡ true → (3 ≤ (s.action a).stage) ⊎ (3 ≤ (s.action (Root (root a))).stage))
          s.naming.told T true (λ it e. inl (let three = guard in omega (arith, three))) (λ a f it e. h.naming.told a it e) m is;
      known = h.naming.known;
      recorded_below = h.naming.recorded_below;
      first_below = h.naming.first_below;
      first_above = h.naming.first_above;
      kept_below = h.naming.kept_below;
      made_below = h.naming.made_below;
      making = λ m is untold present l. let q = apart m is untold in
          (let e = row_same m is q.0 in let p = h.naming.making m is q.1 present l in omega (arith, e, p));
      doubt = h.naming.doubt;
    }

-- The rows of an ended action go.
pub drop_entry : (s : State) (a : Act) → Guard (DropEntry a) s → Holds s → Later s (next (DropEntry a) s) × Holds (next (DropEntry a) s)
drop_entry s a guard h = (later, join_naming s n s.net h later naming (λ x i. inl i))
  where
    rows : Rows
    rows = drop_below s.naming.rows a

    told : Act → Bool
    told = λ b. cond (on b a) true (s.naming.told b)

    n : Naming
    n = record s.naming { rows = rows; told = told }

    untold_is : (m : Act) → told m ≡ false → (on m a ≡ false) × (s.naming.told m ≡ false)
    untold_is m = by (on m a) refl
      where
        by : (w : Bool) → on m a ≡ w → cond w true (s.naming.told m) ≡ false → (on m a ≡ false) × (s.naming.told m ≡ false)
        by true e f = (let never : true ≡ false = f in absurd (cc))
        by false e f = (e, f)

    -- a top that counts isn't below
    safe : (x : Act) → is_top x ≡ true → (s.action x).stage ≤ 3 → GoesOn s (root x) →
        ((s.action x).stage ≡ 3 → s.naming.confirmed x ≡ true) → on x a ≡ false
    safe x is alive goes conf = elim (by_cases (on x a)) [ inl o ↦ below o (above_top x a is o) guard | inr f ↦ f ]
      where
        below : on x a ≡ true → (a ≡ x) ⊎ (a ≡ Root (root x)) →
            IsGone s a ⊎ ((is_top a ≡ true) × ((s.action a).stage ≡ 3) × (s.naming.confirmed a ≡ false)) → on x a ≡ false
        below o w (inl (inr over')) = absurd (let e : (s.action (Root (root a))).stage ≡ (s.action (Root (root x))).stage = ap
            (λ r. (s.action (Root r)).stage) (sym (on_root x a o)) in omega (arith, e, over', goes))
        below o (inl is') (inl (inl four)) =
            absurd (let e : (s.action a).stage ≡ (s.action x).stage = ap (λ y. (s.action y).stage) is' in omega (arith, e, four, alive))
        below o (inr is') (inl (inl four)) = absurd (let e : (s.action a).stage ≡ (s.action (Root (root x))).stage = ap
            (λ y. (s.action y).stage) is' in omega (arith, e, four, goes))
        below o (inl is') (inr (it, three, un)) =
            differ (conf (ap (λ y. (s.action y).stage) (sym is') ∙ three)) (ap s.naming.confirmed (sym is') ∙ un)
        below o (inr is') (inr (it, three, un)) = differ it (ap is_top is')

    safe_unit : (v : ℕ) → GoesOn s v → on (Root v) a ≡ false
    safe_unit v goes = elim (by_cases (on (Root v) a)) [ inl o ↦ below (same_is (Root v) a o) guard | inr f ↦ f ]
      where
        below : Root v ≡ a → IsGone s a ⊎ ((is_top a ≡ true) × ((s.action a).stage ≡ 3) × (s.naming.confirmed a ≡ false)) →
            on (Root v) a ≡ false
        below is' (inl (inl four)) = absurd (let e : (s.action (Root v)).stage ≡ (s.action a).stage = ap (λ y. (s.action y).stage) is' in
            omega (arith, e, four, goes))
        below is' (inl (inr over')) = absurd (let e : (s.action (Root v)).stage ≡ (s.action (Root (root a))).stage = ap
            (λ y. (s.action (Root (root y))).stage) is' in omega (arith, e, over', goes))
        below is' (inr (it, three, un)) = differ it (ap is_top (sym is'))

    keeps_holding : (k : ℕ) (x : Act) → HoldsTop s.naming k x → on x a ≡ false → HoldsTop n k x
    keeps_holding k x p f = ((let e = drop_other s.naming.rows a x f in let l = p.0 in omega (arith, e, l)), p.1)

    anchored : (k : ℕ) (m : Act) → is_top m ≡ true → 1 ≤ k → k ≤ 2 → s.naming.first ≡ s.naming.first → (s.action m).stage ≤ 3 → GoesOn s
        (root m) → ((s.action m).stage ≡ 3 → s.naming.confirmed m ≡ true) → Anchor s k m → Anchor (record s { naming = n; net = s.net }) k m
    anchored k m is one two e alive goes conf (own p) = own (keeps_holding k m p (safe m is alive goes conf))
    anchored k m is one two e alive goes conf (unit l) =
        unit (let r = drop_other s.naming.rows a (Root (root m)) (safe_unit (root m) goes) in omega (arith, l, r))
    anchored k m is one two e alive goes conf (sibling t it r three c p) = sibling t it r three c
        (keeps_holding k t p (safe t it (omega (arith, three)) (subst (λ (v : ℕ). GoesOn s v) (sym r) goes) (λ w. c)))

    later : Later s (record s { naming = n; net = s.net })
    later = later_naming s n s.net (inl refl) (omega arith) (omega arith)
        (λ m b is l o present untold. let q = untold_is m untold in let p = o present q.1 in
        ((let e = drop_other s.naming.rows a m q.0 in let l0 = p.0 in omega (arith, e, l0)), p.1))
        (λ m g is l w present untold. let q = untold_is m untold in keeps_holding 2 m (w present q.1) q.0)
        anchored
        (λ m is e f x. refl)
        (λ b l current. (record {
          present = current.present;
          unrecorded = current.unrecorded;
          untold = (untold_is (s.binding b).maker current.untold).1;
          last = current.last;
        }))
        (λ m e. inl e)

    naming : NamingHolds (record s { naming = n; net = s.net })
    naming = record {
      apart = apart_less s.naming.rows rows h.naming.apart (drop_less s.naming.rows a);
      told = λ m is. told_is m is (on m a) refl;
      known = h.naming.known;
      recorded_below = h.naming.recorded_below;
      first_below = h.naming.first_below;
      first_above = h.naming.first_above;
      kept_below = h.naming.kept_below;
      made_below = h.naming.made_below;
      making = λ m is untold present l. let q = untold_is m untold in
          (let e = drop_other s.naming.rows a m q.0 in let p = h.naming.making m is q.1 present l in omega (arith, e, p));
      doubt = h.naming.doubt;
    }
      where
        ends : (m : Act) → on m a ≡ true → (a ≡ m) ⊎ (a ≡ Root (root m)) → IsGone s a ⊎ ((is_top a ≡ true) × ((s.action a).stage ≡ 3)
            × (s.naming.confirmed a ≡ false)) → (3 ≤ (s.action m).stage) ⊎ (3 ≤ (s.action (Root (root m))).stage)
        ends m o w (inl (inr over')) = inr (let e : (s.action (Root (root a))).stage ≡ (s.action (Root (root m))).stage = ap
            (λ r. (s.action (Root r)).stage) (sym (on_root m a o)) in omega (arith, e, over'))
        ends m o (inl is') (inl (inl four)) =
            inl (let e : (s.action a).stage ≡ (s.action m).stage = ap (λ y. (s.action y).stage) is' in omega (arith, e, four))
        ends m o (inr is') (inl (inl four)) =
            inr (let e : (s.action a).stage ≡ (s.action (Root (root m))).stage = ap (λ y. (s.action y).stage) is' in omega (arith, e, four))
        ends m o (inl is') (inr (it, three, un)) =
            inl (let e : (s.action a).stage ≡ (s.action m).stage = ap (λ y. (s.action y).stage) is' in omega (arith, e, three))
        ends m o (inr is') (inr (it, three, un)) = differ it (ap is_top is')

        told_is : (m : Act) → is_top m ≡ true → (w : Bool) → on m a ≡ w → cond w true (s.naming.told m) ≡ true →
            (3 ≤ (s.action m).stage) ⊎ (3 ≤ (s.action (Root (root m))).stage)
        told_is m is true o e = ends m o (above_top m a is o) guard
        told_is m is false o e = h.naming.told m is e
