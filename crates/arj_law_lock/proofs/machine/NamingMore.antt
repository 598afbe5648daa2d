-- Naming makes a binding, records one, and confirms a top.
use Rattle.arj_law_lock.proofs.Terms
use Terms.{◌≡◌, ◌≤◌, ◌<◌, ◌+◌, ◌⊎◌, ℕ, List, ◌∷◌, Bool, true, false, inl, inr, refl, sym, ◌∙◌, ap, subst, arith, Act, Root, Sub, root, top}
use Terms.{is_top, In, Rows, Binding, Naming, Call, Include, Message, Recorded, Confirm, State, Alive, Covered, NobodyInDoubt, IsCurrent}
use Terms.{raise, BindNew, Record, ConfirmTop, Guard, next, lowered, cond, min, ◌==◌, same, at_act}
use Rattle.arj_law_lock.proofs.machine
use machine.{Lasts.join, Lasts.top_on, Lasts.wait_on, Later.Later, Rows.apart_less, Rows.apart_raise}
use machine.Claims.{GoesOn, stands, HoldsTop, Anchor, Own, Mean, NamingHolds, NamedHolds, TopHolds, Member, Holds, own, unit, sibling}
use machine.NamingSteps.{server_same, later_naming, join_naming, raise_more, raise_least}
use machine.Paths.{by_cases, differ, top_root, on_root, act_cases, act_here, act_other, at_cases, at_here, same_number, same_is}

-- A top gets the write row and a new binding.
pub bind_new : (s : State) (m : Act) (b k : ℕ) → Guard (BindNew m b k) s → Holds s →
    Later s (next (BindNew m b k) s) × Holds (next (BindNew m b k) s)
bind_new s m b k guard h = (
  later,
  join h later naming bindings h.servers (λ c i. i) (λ c i. inl i) (λ x is. top_on h later x is refl refl refl) h.turns h.ended
      (λ a. wait_on h later a (omega arith) (λ u o act e w alive. e) (λ c i. inl i)) h.anti mail,
)
  where
    x : Binding
    x = record { server = k; maker = m; named = false; incarnation = 0 }

    rows : Rows
    rows = raise s.naming.rows m 2

    t : State
    t = next (BindNew m b k) s

    high : s.naming.bound ≤ b
    high = guard.1

    rise : (a : Act) → s.naming.rows a ≤ rows a
    rise = raise_more s.naming.rows m 2

    other : (j : ℕ) → j < s.naming.bound → t.binding j ≡ s.binding j
    other j l = λ i. cond (apart i) x (s.binding j)
      where
        apart : (j == b) ≡ false
        apart =
            elim (by_cases (j == b)) [ inl e ↦ absurd (let is = same_number j b e in let g = high in omega (arith, is, g, l)) | inr f ↦ f ]

    old_made : (a : Act) (j : ℕ) → j < s.naming.bound → at_act s.naming.made m b a ≡ j → s.naming.made a ≡ j
    old_made a j l = act_cases (λ (y : Act) (v : ℕ). v ≡ j →
        s.naming.made y ≡ j) s.naming.made m b (λ e. absurd (let g = high in omega (arith, e, g, l))) (λ y f e. e) a

    named_below : (j : ℕ) → (s.binding j).named ≡ true → j < s.naming.bound
    named_below j e = (h.bindings j e).below

    anchored : (k' : ℕ) (y : Act) → Anchor s k' y → Anchor t k' y
    anchored k' y (own p) = own ((let l = p.0 in let r = rise y in omega (arith, l, r)), p.1)
    anchored k' y (unit l) = unit (let r = rise (Root (root y)) in omega (arith, l, r))
    anchored k' y (sibling z it r three c p) = sibling z it r three c ((let l = p.0 in let q = rise z in omega (arith, l, q)), p.1)

    up_same : (j : ℕ) → j < s.naming.bound → (P : Binding → Type 0) → P (s.binding j) → P (t.binding j)
    up_same j l P p = subst P (sym (other j l)) p

    later : Later s t
    later = record {
      now = omega arith;
      first = inl refl;
      recorded = omega arith;
      bound = (let g = high in omega (arith, g));
      made = λ j l. (ap (λ (y : Binding). y.server) (other j l), ap (λ (y : Binding). y.maker) (other j l));
      named = λ j e.
          (ap (λ (y : Binding). y.named) (other j (named_below j e)) ∙ e, ap (λ (y : Binding). y.incarnation) (other j (named_below j e)));
      server = λ n. server_same (s.server n);
      stage = λ a. omega arith;
      ends = λ a e. (e, refl);
      fresh = λ a act e. inl e;
      place = λ a l. refl;
      placed = λ a l. l;
      going = λ y is l g. inl l;
      units = λ y is l k f. f l k;
      kept = λ u. omega arith;
      keeps = λ c i alive. refl;
      calls = λ c i. i;
      fresh_call = λ c i. inl i;
      includes = λ c i. i;
      fresh_include = λ c i. inl i;
      pend = λ a j l p. (record { last = p.last; waits = p.waits; alive = p.alive; going = p.going }, refl, refl);
      request = λ a. omega arith;
      own = λ y j is l o present untold. let p = o present untold in ((let l0 = p.0 in let r = rise y in omega (arith, l0, r)), p.1);
      wrote = λ y g is l w present untold. let p = w present untold in ((let l0 = p.0 in let r = rise y in omega (arith, l0, r)), p.1);
      anchored = λ k' y is one two e alive goes conf a. anchored k' y a;
      same_recorded = λ y is e f a. refl;
      current = λ j l current. before j l (other j l) current;
      settled = λ e d. d;
      stays = λ a j k' z e alive one v up o row merged. stands z
          (up_same j (named_below j e)
          (λ (y : Binding). ((s.server y.server).incarnation ≡ y.incarnation) × ((s.server y.server).active ≡ j)) up) o
          (up_same j (named_below j e) (λ (y : Binding). k' ≤ (s.server y.server).rows z) row) merged;
      confirmed = λ y e. inl e;
      yes = λ y j e f. inl f;
      confirms = λ c i alive y is member e. inl e;
      confirms_include = λ c i alive y is member e. inl e;
    }
      where
        before : (j : ℕ) → j < s.naming.bound → t.binding j ≡ s.binding j → IsCurrent t.naming (t.binding j).maker j →
            IsCurrent s.naming (s.binding j).maker j
        before j l e current = subst (λ (y : Binding). IsCurrent s.naming y.maker j) e (record {
          present = current.present;
          unrecorded = current.unrecorded;
          untold = current.untold;
          last = old_made (t.binding j).maker j l current.last;
        })

    naming : NamingHolds t
    naming = record {
      apart = apart_raise s.naming.rows m 2 h.naming.apart guard.2;
      told = h.naming.told;
      known = λ l. ap (λ (y : Binding). y.named) (other s.naming.recorded h.naming.recorded_below) ∙ h.naming.known l;
      recorded_below = (let g = high in let r = h.naming.recorded_below in omega (arith, g, r));
      first_below = (let g = high in let r = h.naming.first_below in omega (arith, g, r));
      first_above = h.naming.first_above;
      kept_below = λ u. (let g = high in let r = h.naming.kept_below u in omega (arith, g, r));
      made_below = act_cases (λ (y : Act) (v : ℕ). v < b + 1) s.naming.made m b (omega arith)
          (λ y f. (let g = high in let r = h.naming.made_below y in omega (arith, g, r)));
      making = λ y is. making y is;
      doubt = h.naming.doubt;
    }
      where
        making : (y : Act) → is_top y ≡ true → s.naming.told y ≡ false → s.naming.first ≤ at_act s.naming.made m b y →
            s.naming.recorded < at_act s.naming.made m b y → 2 ≤ rows y
        making = act_cases (λ (y : Act) (v : ℕ). is_top y ≡ true → s.naming.told y ≡ false → s.naming.first ≤ v → s.naming.recorded < v →
            2 ≤ rows y) s.naming.made m b
            (λ is untold present l. raise_least s.naming.rows m 2)
            (λ y f is untold present l. (let p = h.naming.making y is untold present l in let r = rise y in omega (arith, p, r)))

    bindings : (j : ℕ) → (t.binding j).named ≡ true → ((s.binding j).named ≡ true) ⊎ NamedHolds t j
    bindings = at_cases (λ (j : ℕ) (y : Binding). y.named ≡ true →
        ((s.binding j).named ≡ true) ⊎ NamedHolds t j) s.binding b x (λ e. (let never : false ≡ true = e in absurd (cc))) (λ j f e. inl e)

    mail : (y : Message) → In y t.net → In y s.net ⊎ Mean t y
    mail y (inl is) = inr (subst (λ (z : Message). Mean t z) (sym is) (
      guard.0,
      ap (λ (z : Binding). z.maker) (at_here s.binding b x),
      (let g = high in let f = h.naming.first_above in let l = h.naming.first_below in omega (arith, g, f, l)),
      omega arith,
      λ present untold. (raise_less, inl (let g = high in let r = h.naming.recorded_below in omega (arith, g, r))),
    ))
      where
        raise_less : 1 ≤ rows m
        raise_less = let l = raise_least s.naming.rows m 2 in omega (arith, l)
    mail y (inr i) = inl i

-- A binding is recorded.
pub record_binding : (s : State) (b : ℕ) → Guard (Record b) s → Holds s → Later s (next (Record b) s) × Holds (next (Record b) s)
record_binding s b guard h = (later, join_naming s n ms h later naming mail)
  where
    m : Act
    m = (s.binding b).maker

    rows : Rows
    rows = lowered s.naming m

    n : Naming
    n = record s.naming { rows = rows; recorded = b }

    ms : List Message
    ms = Recorded b ∷ s.net

    t : State
    t = record s { naming = n; net = ms }

    bound : NamedHolds s b
    bound = h.bindings b guard.0

    write : 2 ≤ s.naming.rows m
    write = h.naming.making m bound.maker guard.1.untold (let e = guard.1.last in let l = guard.1.present in
        omega (arith, e, l)) (let e = guard.1.last in let l = guard.1.unrecorded in omega (arith, e, l))

    less : (a : Act) → rows a ≤ s.naming.rows a
    less = act_cases (λ (a : Act) (v : ℕ). v ≤ s.naming.rows a) s.naming.rows m
        (cond (s.naming.asked m) (s.naming.rows m) (min (s.naming.rows m) 1)) (by (s.naming.asked m)) (λ a f. omega arith)
      where
        by : (w : Bool) → cond w (s.naming.rows m) (min (s.naming.rows m) 1) ≤ s.naming.rows m
        by true = omega arith
        by false = omega arith

    row_stays : (a : Act) → same a m ≡ false → rows a ≡ s.naming.rows a
    row_stays a f = act_other s.naming.rows m (cond (s.naming.asked m) (s.naming.rows m) (min (s.naming.rows m) 1)) a f

    holding : (k : ℕ) (x : Act) → 1 ≤ k → k ≤ 2 → HoldsTop s.naming k x → HoldsTop n k x
    holding k x one two p = (
      act_cases (λ (a : Act) (v : ℕ). k ≤ s.naming.rows a → (2 ≤ k → s.naming.asked a ≡ true) → k ≤ v) s.naming.rows m (cond (s.naming.asked
          m) (s.naming.rows m) (min (s.naming.rows m) 1)) (λ l ask. by (s.naming.asked m) refl l ask) (λ a f l ask. l) x p.0 p.1,
      p.1,
    )
      where
        two_cases : (j : ℕ) → 1 ≤ j → (j ≡ 1) ⊎ (2 ≤ j)
        two_cases j l = grind arith

        by : (w : Bool) → s.naming.asked m ≡ w → k ≤ s.naming.rows m → (2 ≤ k → s.naming.asked m ≡ true) →
            k ≤ cond w (s.naming.rows m) (min (s.naming.rows m) 1)
        by true e l ask = l
        by false e l ask = elim (two_cases k one) [ inl is ↦ omega (arith, is, l) | inr more ↦ differ (ask more) e ]

    unit_row : (v k : ℕ) → k ≤ s.naming.rows (Root v) → k ≤ rows (Root v)
    unit_row v k l = (let e = row_stays (Root v) (no_root v m bound.maker) in omega (arith, e, l))
      where
        no_root : (w : ℕ) (x : Act) → is_top x ≡ true → same (Root w) x ≡ false
        no_root w (Root z) is = let never : false ≡ true = is in absurd (cc)
        no_root w (Sub a j) is = refl

    one_row : (x : Act) → HoldsTop s.naming 1 x → 1 ≤ rows x
    one_row x p = (holding 1 x (omega arith) (omega arith) p).0

    anchored : (k : ℕ) (x : Act) → is_top x ≡ true → 1 ≤ k → k ≤ 2 → s.naming.first ≡ s.naming.first → (s.action x).stage ≤ 3 →
        GoesOn s (root x) → ((s.action x).stage ≡ 3 → s.naming.confirmed x ≡ true) → Anchor s k x → Anchor t k x
    anchored k x is one two e alive goes conf (own p) = own (holding k x one two p)
    anchored k x is one two e alive goes conf (unit l) = unit (unit_row (root x) k l)
    anchored k x is one two e alive goes conf (sibling z it r three c p) = sibling z it r three c (holding k z one two p)

    -- nobody else holds a row beside the maker's write row
    kin_root : (a : Act) → 1 ≤ s.naming.rows a → root m ≡ root a
    kin_root a l = elim (h.naming.apart m a write l) [ inl o ↦ on_root m a o | inr o ↦ sym (on_root a m o) ]

    anchor_root : (x : Act) → Anchor s 1 x → root m ≡ root x
    anchor_root x (own p) = kin_root x p.0
    anchor_root x (unit l) = kin_root (Root (root x)) l
    anchor_root x (sibling z it r three c p) = kin_root z p.0 ∙ r

    own_stays : (x : Act) (j : ℕ) → is_top x ≡ true → Own s x j → Own t x j
    own_stays x j is o present untold = (one_row x (p.0, λ two. absurd (omega (arith, two))), after (order_cases j b))
      where
        p : (1 ≤ s.naming.rows x) × ((s.naming.recorded < j) ⊎ ((s.naming.recorded ≡ j) ⊎ (j < s.kept (root x))))
        p = o present untold

        order_cases : (i k : ℕ) → (k < i) ⊎ ((k ≡ i) ⊎ (i < k))
        order_cases i k = grind arith

        after : (b < j) ⊎ ((b ≡ j) ⊎ (j < b)) → (b < j) ⊎ ((b ≡ j) ⊎ (j < s.kept (root x)))
        after (inl l) = inl l
        after (inr (inl e)) = inr (inl e)
        after (inr (inr l)) = let r : s.kept (root m) ≡ s.kept (root x) = ap s.kept (kin_root x p.0) in let q = bound.kept in
            inr (inr (omega (arith, l, r, q)))

    later : Later s t
    later = later_naming s n ms (inl refl) (let l = guard.1.unrecorded in omega (arith, l)) (omega arith)
        (λ x j is l o. own_stays x j is o)
        (λ x g is l w present untold. holding 2 x (omega arith) (omega arith) (w present untold))
        anchored
        (λ x is e f a. absurd (let r : s.kept (root m) ≡ s.kept (root x) = ap s.kept (anchor_root x a) in let q = bound.kept in
        let l = guard.1.unrecorded in omega (arith, f, r, q, l)))
        (λ j l current. (record {
          present = current.present;
          unrecorded = (let u = current.unrecorded in let q = guard.1.unrecorded in omega (arith, u, q));
          untold = current.untold;
          last = current.last;
        }))
        (λ x e. inl e)

    naming : NamingHolds t
    naming = record {
      apart = apart_less s.naming.rows rows h.naming.apart less;
      told = h.naming.told;
      known = λ l. guard.0;
      recorded_below = bound.below;
      first_below = h.naming.first_below;
      first_above = h.naming.first_above;
      kept_below = h.naming.kept_below;
      made_below = h.naming.made_below;
      making = λ x is untold present l. making x is untold present l (by_cases (same x m));
      doubt = λ l. bound.doubtless guard.1;
    }
      where
        making : (x : Act) → is_top x ≡ true → s.naming.told x ≡ false → s.naming.first ≤ s.naming.made x → b < s.naming.made x →
            (same x m ≡ true) ⊎ (same x m ≡ false) → 2 ≤ rows x
        making x is untold present l (inl e) = absurd (let q : s.naming.made x ≡ s.naming.made m = ap s.naming.made (same_is x m e) in
            let r = guard.1.last in omega (arith, q, r, l))
        making x is untold present l (inr f) = (let e = row_stays x f in
            let p = h.naming.making x is untold present (let q = guard.1.unrecorded in omega (arith, q, l)) in omega (arith, e, p))

    mail : (x : Message) → In x ms → In x s.net ⊎ Mean t x
    mail x (inl is) = inr (subst (λ (y : Message). Mean t y) (sym is) (guard.0, omega arith))
    mail x (inr i) = inl i

-- A top is confirmed.
pub confirm_top : (s : State) (m : Act) (q : ℕ) → Guard (ConfirmTop m q) s → Holds s →
    Later s (next (ConfirmTop m q) s) × Holds (next (ConfirmTop m q) s)
confirm_top s m q guard h = (
  later,
  join h later naming (λ b e. inl e) h.servers (λ c i. i) (λ c i. inl i) tops h.turns h.ended
      (λ a. wait_on h later a (omega arith) (λ u o act e w alive. e) (λ c i. inl i)) h.anti (λ x i. inl i),
)
  where
    t : State
    t = next (ConfirmTop m q) s

    mean : Mean s (Confirm m q)
    mean = h.mail (Confirm m q) guard.0

    line : 1 ≤ (s.action m).stage
    line = mean.1

    conf_more : (a : Act) → s.naming.confirmed a ≡ true → t.naming.confirmed a ≡ true
    conf_more =
        act_cases (λ (a : Act) (v : Bool). s.naming.confirmed a ≡ true → v ≡ true) s.naming.confirmed m true (λ e. refl) (λ a f e. e)

    history : (a : Act) → t.confirmed a ≡ true → (a ≡ m) ⊎ (s.confirmed a ≡ true)
    history =
        act_cases (λ (a : Act) (v : Bool). v ≡ true → (a ≡ m) ⊎ (s.confirmed a ≡ true)) s.confirmed m true (λ e. inl refl) (λ a f e. inr e)

    anchored : (k : ℕ) (x : Act) → Anchor s k x → Anchor t k x
    anchored k x (own p) = own p
    anchored k x (unit l) = unit l
    anchored k x (sibling z it r three c p) = sibling z it r three (conf_more z c) p

    -- its grants are of the present incarnation
    present : (c : Call) → In c s.calls → Alive s c.act → Covered s m c.act → s.naming.first ≤ s.kept (root m)
    present c i alive covers = let l = mean.2 c i alive covers in let g = guard.1 in omega (arith, l, g)

    settled : NobodyInDoubt s → NobodyInDoubt t
    settled d c i w alive conf two = elim (history (top c.act) conf) [
      | inl is ↦ subst (λ (u : ℕ). s.naming.first ≤ s.kept u) (sym (ap root is) ∙ top_root c.act)
          (present c i alive (sym (top_root c.act) ∙ ap root is, inl is))
      | inr e ↦ d c i w alive e two
    ]

    later : Later s t
    later = record {
      now = omega arith;
      first = inl refl;
      recorded = omega arith;
      bound = omega arith;
      made = λ b l. (refl, refl);
      named = λ b e. (e, refl);
      server = λ k. server_same (s.server k);
      stage = λ a. omega arith;
      ends = λ a e. (e, refl);
      fresh = λ a act e. inl e;
      place = λ a l. refl;
      placed = λ a l. l;
      going = λ x is l k. inl l;
      units = λ x is l k f. f l k;
      kept = λ u. omega arith;
      keeps = λ c i alive. refl;
      calls = λ c i. i;
      fresh_call = λ c i. inl i;
      includes = λ c i. i;
      fresh_include = λ c i. inl i;
      pend = λ a k l p. (record { last = p.last; waits = p.waits; alive = p.alive; going = p.going }, refl, refl);
      request = λ a. omega arith;
      own = λ x b is l o. o;
      wrote = λ x g is l w. w;
      anchored = λ k x is one two e alive goes conf a. anchored k x a;
      same_recorded = λ x is e f a. refl;
      current = λ b l current.
          record { present = current.present; unrecorded = current.unrecorded; untold = current.untold; last = current.last };
      settled = λ e d. settled d;
      stays = λ a b k z e alive one v up o row merged. stands z up o row merged;
      confirmed = λ x e. inl (conf_more x e);
      yes = λ x b e f. inl f;
      confirms = λ c i alive x is member e. elim (history x e) [
        | inl w ↦ inr (subst (λ (y : Act). s.naming.first ≤ s.kept (root y)) (sym w)
            (of_member c i alive (subst (λ (y : Act). Member s y c.act) w member)))
        | inr f ↦ inl f
      ];
      confirms_include = λ c i alive x is member e.
          elim (history x e) [ inl w ↦ inr (of_include c i alive (subst (λ (y : Act). Member s y c.act) w member)) | inr f ↦ inl f ];
    }
      where
        of_include : (c : Include) → In c s.includes → Alive s c.act → Member s m c.act → s.naming.first ≤ c.grant
        of_include c i alive (inl zero) = absurd (let l = line in omega (arith, l, zero))
        of_include c i alive (inr covers) = let l = mean.3 c i alive covers in let g = guard.1 in omega (arith, l, g)

        of_member : (c : Call) → In c s.calls → Alive s c.act → Member s m c.act → s.naming.first ≤ s.kept (root m)
        of_member c i alive (inl zero) = absurd (let l = line in omega (arith, l, zero))
        of_member c i alive (inr covers) = present c i alive covers

    naming : NamingHolds t
    naming = record {
      apart = h.naming.apart;
      told = h.naming.told;
      known = h.naming.known;
      recorded_below = h.naming.recorded_below;
      first_below = h.naming.first_below;
      first_above = h.naming.first_above;
      kept_below = h.naming.kept_below;
      made_below = h.naming.made_below;
      making = h.naming.making;
      doubt = λ l. settled (h.naming.doubt l);
    }

    tops : (x : Act) → is_top x ≡ true → TopHolds t x
    tops x is = elim (by_cases (same x m)) [
      | inl e ↦ subst (λ (y : Act). TopHolds t y) (sym (same_is x m e)) here
      | inr f ↦ top_on h later x is refl refl (act_other s.confirmed m true x f)
    ]
      where
        old : TopHolds s m
        old = h.tops m mean.0

        yes' : t.confirmed m ≡ true
        yes' = act_here s.confirmed m true

        here : TopHolds t m
        here = record {
          before = old.before;
          ordered = old.ordered;
          goes = old.goes;
          called = λ two three c i alive covers. ((old.called two three c i alive covers).0, yes');
          included = λ two three c i alive covers. yes';
          asked = λ e. line;
          confirmed = λ e. inl (act_here s.naming.confirmed m true);
          voting = old.voting;
          named = old.named;
          voted = old.voted;
        }
