-- Coordinators: commits of tops, units, bindings kept and named, includes.
use Rattle.arj_law_lock.proofs.Terms
use Terms.{◌≡◌, ◌≢◌, ◌≤◌, ◌<◌, ◌+◌, ◌⊎◌, ℕ, true, false, inl, inr, refl, sym, ◌∙◌, ap, subst, arith, Act, Root, root, top, is_top}
use Terms.{is_action, In, Action, Binding, Include, Live, Made, Granted, Activated, State, Covered, NobodyInDoubt, IsCurrent, Guard, next}
use Terms.{cond, ◌==◌, same, at_act, CommitTop, Decide, Report, EndUnit, Included, Keep, Name}
use Rattle.arj_law_lock.proofs.machine
use machine.{CallSteps.untold, Later.Later, Later.alive_back, Later.covered_back, NamingSteps.server_same}
use machine.ActionSteps.{Moves, acted_here, acted_other, alive_before, later_acted, join_action, tops_action, turns_action, waits_action}
use machine.ActionSteps.{anti_action, low_requests}
use machine.Claims.{Reached, GoesOn, stands, Anchor, Doubtless, Mean, NamingHolds, NamedHolds, IncludeHolds, TopHolds, Live3, Done, Turns}
use machine.Claims.{Holds, own, unit, sibling}
use machine.Lasts.{join, top_on, wait_on, top_gen, called_on, included_on}
use machine.Paths.{by_cases, differ, on_top, act_cases, at_cases, at_here, same_number, same_self, same_is, on_self, on_base, top_action}

-- Steps of coordinators: commits of tops, ends of units, bindings kept and named, includes.

-- A top changes its stage, and its turn stays.
module _ (s : State) (h : Holds s) (a : Act) (x : Action) (p : ℕ) (m : Moves s a x p s.calls s.net) where
  turns_top : ((t : Act) → is_top t ≡ true → root t ≡ root a → same t a ≡ false → Live3 s t → (1 ≤ x.stage) × (x.stage ≤ 3) →
      ((x.stage ≡ 3) × (x.done < (s.action t).place)) ⊎ Done s t x.place) → Turns (record s { action = at_act s.action a x; now = p })
  turns_top turn y z is it r apart ly lz = by (by_cases (same y a)) (by_cases (same z a))
    where
      t : State
      t = record s { action = at_act s.action a x; now = p }

      here : t.action a ≡ x
      here = acted_here s a x p s.calls s.net

      other : (b : Act) → same b a ≡ false → t.action b ≡ s.action b
      other b f = acted_other s a x p s.calls s.net b f

      at_a : (b : Act) → same b a ≡ true → t.action b ≡ x
      at_a b e = ap t.action (same_is b a e) ∙ here

      live : (b : Act) (v : Action) → t.action b ≡ v → Live3 t b → (1 ≤ v.stage) × (v.stage ≤ 3)
      live b v e l = subst (λ (w : Action). (1 ≤ w.stage) × (w.stage ≤ 3)) e l

      by : (same y a ≡ true) ⊎ (same y a ≡ false) → (same z a ≡ true) ⊎ (same z a ≡ false) →
          Done t y (t.action z).place ⊎ Done t z (t.action y).place
      by (inl e) (inl f) = absurd (apart (same_is y a e ∙ sym (same_is z a f)))
      by (inl e) (inr f) =
          let q = turn z it (sym r ∙ ap root (same_is y a e)) f (live z (s.action z) (other z f) lz) (live y x (at_a y e) ly) in
          subst (λ (v : Action). (((v.stage ≡ 3) × (v.done < (t.action z).place)) ⊎ Done t z v.place)) (sym (at_a y e))
          (subst (λ (v : Action). (((x.stage ≡ 3) × (x.done < v.place)) ⊎ ((v.stage ≡ 3) × (v.done < x.place)))) (sym (other z f)) q)
      by (inr f) (inl e) =
          let q = turn y is (r ∙ ap root (same_is z a e)) f (live y (s.action y) (other y f) ly) (live z x (at_a z e) lz) in
          subst (λ (v : Action). (((v.stage ≡ 3) × (v.done < (t.action z).place)) ⊎ Done t z v.place)) (sym (other y f))
          (subst (λ (v : Action). (Done s y v.place ⊎ ((v.stage ≡ 3) × (v.done < (s.action y).place)))) (sym (at_a z e))
          (elim q [ inl d ↦ inr d | inr d ↦ inl d ]))
      by (inr f) (inr g) = subst (λ (v : Action). (((v.stage ≡ 3) × (v.done < (t.action z).place)) ⊎ Done t z v.place)) (sym (other y f))
          (subst (λ (v : Action). (Done s y v.place ⊎ ((v.stage ≡ 3) × (v.done < (s.action y).place)))) (sym (other z g))
          (h.turns y z is it r apart (live y (s.action y) (other y f) ly) (live z (s.action z) (other z g) lz)))

pub commit_top : (s : State) (a : Act) (p : ℕ) → Guard (CommitTop a p) s → Holds s →
    Later s (next (CommitTop a p) s) × Holds (next (CommitTop a p) s)
commit_top s a p guard h = (
  later,
  join_action s h a x (p + 1) s.net m tops turns (λ act three. absurd (omega (arith, three)))
      (λ b. waits_action s h a x (p + 1) s.net m
      (λ c o act z v alive. absurd (guard.3.waits c o (waits_before c v) (alive_before s a x (p + 1) s.calls s.net m c alive))) b
      (low_requests s h a x (p + 1) s.net m (omega arith) b)) (anti_action s h a x (p + 1) s.net m (λ v. v)) (λ y i. inl i),
)
  where
    x : Action
    x = record (s.action a) { stage = 1; place = p }

    zero : (s.action a).stage ≡ 0
    zero = guard.1 a (on_self a)

    now : s.now ≤ p
    now = guard.5

    goes : GoesOn s (root a)
    goes = let z = guard.1 (Root (root a)) (on_base a) in omega (arith, z)

    waits_before : (b : Act) → ((at_act s.action a x) b).waits ≡ true → (s.action b).waits ≡ true
    waits_before = act_cases (λ (b : Act) (v : Action). v.waits ≡ true → (s.action b).waits ≡ true) s.action a x (λ w. w) (λ b f w. w)

    m : Moves s a x (p + 1) s.calls s.net
    m = record {
      now = (let n = now in omega (arith, n));
      stage = (let z = zero in omega (arith, z));
      ends = λ e. absurd (let z = zero in omega (arith, z, e));
      fresh = λ act e. absurd (omega (arith, e));
      place = λ l. absurd (let z = zero in omega (arith, z, l));
      placed = λ l. omega arith;
      going = λ is l g. inr goes;
      request = omega arith;
      unit = inr (inl (top_action a guard.0, λ l k f. goes));
      pend = λ j low e v. (e, v, refl);
    }

    t : State
    t = next (CommitTop a p) s

    later : Later s t
    later = later_acted s h a x (p + 1) s.net m

    here : t.action a ≡ x
    here = acted_here s a x (p + 1) s.calls s.net

    tops : (y : Act) → is_top y ≡ true → TopHolds t y
    tops y is = elim (by_cases (same y a)) [
      | inl e ↦ (let z : (t.action y).stage ≡ 1 = ap (λ (b : Act). (t.action b).stage) (same_is y a e)
          ∙ ap (λ (v : Action). v.stage) here in top_gen h later y is refl refl (λ three. absurd (omega (arith, three, z)))
          (λ two three. absurd (omega (arith, two, z))) (λ two three. absurd (omega (arith, two, z))))
      | inr f ↦ top_on h later y is (ap (λ (v : Action). v.stage) (acted_other s a x (p + 1) s.calls s.net y f)) refl refl
    ]

    turns : Turns t
    turns = turns_top s h a x (p + 1) m (λ z it r f l v. inr (three_of z it r l))
      where
        three : (n : ℕ) → 1 ≤ n → n ≤ 3 → n ≢ 1 → n ≢ 2 → n ≡ 3
        three n l k e f = omega (arith, l, k, e, f)

        three_of : (z : Act) → is_top z ≡ true → root z ≡ root a → Live3 s z → Done s z p
        three_of z it r l = let g = guard.4 z it r in let e = three (s.action z).stage l.0 l.1 g.0 g.1 in
            (e, (let d = h.ended z (top_action z it) e in let n = now in omega (arith, d, n)))

pub decide : (s : State) (a : Act) → Guard (Decide a) s → Holds s → Later s (next (Decide a) s) × Holds (next (Decide a) s)
decide s a guard h = (
  later,
  join_action s h a x s.now s.net m tops turns (λ act three. absurd (omega (arith, three)))
      (λ b. waits_action s h a x s.now s.net m (λ c o act z v alive. absurd (let e = one in omega (arith, e, z))) b
      (low_requests s h a x s.now s.net m (omega arith) b)) (anti_action s h a x s.now s.net m (λ v. v)) (λ y i. inl i),
)
  where
    x : Action
    x = record (s.action a) { stage = 2 }

    one : (s.action a).stage ≡ 1
    one = guard.1

    m : Moves s a x s.now s.calls s.net
    m = record {
      now = omega arith;
      stage = (let z = one in omega (arith, z));
      ends = λ e. absurd (let z = one in omega (arith, z, e));
      fresh = λ act e. absurd (omega (arith, e));
      place = λ l. refl;
      placed = λ l. l;
      going = λ is l g. inl (let z = one in omega (arith, z));
      request = omega arith;
      unit = inr (inl (top_action a guard.0, λ l k f. (let z = one in f (omega (arith, z)) (omega (arith, z)))));
      pend = λ j low e v. (e, v, refl);
    }

    t : State
    t = next (Decide a) s

    later : Later s t
    later = later_acted s h a x s.now s.net m

    covered : (b : Act) → is_action b ≡ true → Covered t a b → Covered s a b
    covered b act c = covered_back later a b act (let z = one in omega (arith, z)) ((h.tops a guard.0).before) c

    tops : (y : Act) → is_top y ≡ true → TopHolds t y
    tops y is = elim (by_cases (same y a)) [
      | inl e ↦ subst (λ (b : Act). TopHolds t b) (sym (same_is y a e)) (top_gen h later a guard.0 refl refl (λ three. absurd
          (let e : (t.action a).stage ≡ 2 = ap (λ (v : Action). v.stage) (acted_here s a x s.now s.calls s.net) in omega (arith, e, three)))
          (λ two three c i alive covers. guard.2 c i (alive_back later c.act alive) (covered c.act (h.calls c i).acts covers))
          (λ two three c i alive covers. guard.3 c i (alive_back later c.act alive) (covered c.act (h.includes c i).acts covers)))
      | inr f ↦ top_on h later y is (ap (λ (v : Action). v.stage) (acted_other s a x s.now s.calls s.net y f)) refl refl
    ]

    turns : Turns t
    turns = turns_top s h a x s.now m (λ z it r f l v.
        elim (h.turns a z guard.0 it (sym r) (λ e. differ (subst (λ (b : Act). same b a ≡ true) e (same_self a)) f) (let e = one in
        (omega (arith, e), omega (arith, e))) l) [ inl d ↦ absurd (let d0 = d.0 in let e = one in omega (arith, d0, e)) | inr d ↦ inr d ])

pub report : (s : State) (a : Act) (p : ℕ) → Guard (Report a p) s → Holds s → Later s (next (Report a p) s) × Holds (next (Report a p) s)
report s a p guard h = (
  later,
  join_action s h a x (p + 1) s.net m tops turns (λ act three. omega arith)
      (λ b. waits_action s h a x (p + 1) s.net m (λ c o act z v alive. absurd (let e = two in omega (arith, e, z))) b
      (low_requests s h a x (p + 1) s.net m (omega arith) b)) (anti_action s h a x (p + 1) s.net m (λ v. v)) (λ y i. inl i),
)
  where
    x : Action
    x = record (s.action a) { stage = 3; done = p }

    two : (s.action a).stage ≡ 2
    two = guard.1

    now : s.now ≤ p
    now = guard.2

    m : Moves s a x (p + 1) s.calls s.net
    m = record {
      now = (let n = now in omega (arith, n));
      stage = (let z = two in omega (arith, z));
      ends = λ e. absurd (let z = two in omega (arith, z, e));
      fresh = λ act e. inr now;
      place = λ l. refl;
      placed = λ l. (let n = now in omega (arith, n, l));
      going = λ is l g. inl (let z = two in omega (arith, z));
      request = omega arith;
      unit = inr (inl (top_action a guard.0, λ l k f. absurd (omega (arith, k))));
      pend = λ j low e v. (e, v, refl);
    }

    t : State
    t = next (Report a p) s

    later : Later s t
    later = later_acted s h a x (p + 1) s.net m

    down : (y : Act) → 2 ≤ (t.action y).stage → 2 ≤ (s.action y).stage
    down = act_cases (λ (b : Act) (v : Action). 2 ≤ v.stage →
        2 ≤ (s.action b).stage) s.action a x (λ l. (let z = two in omega (arith, z))) (λ b f l. l)

    tops : (y : Act) → is_top y ≡ true → TopHolds t y
    tops y is = top_gen h later y is refl refl (act_cases (λ (b : Act) (v : Action). is_top b ≡ true → v.stage ≡ 3 →
        v.place < v.done) s.action a x (λ it e. (let l = (h.tops a it).before in let n = now in omega (arith, l, n)))
        (λ b f it e. (h.tops b it).ordered e) y is) (called_on h later y is refl refl (down y)) (included_on h later y is refl (down y))

    turns : Turns t
    turns = turns_top s h a x (p + 1) m (λ z it r f l v.
        elim (h.turns a z guard.0 it (sym r) (λ e. differ (subst (λ (b : Act). same b a ≡ true) e (same_self a)) f) (let e = two in
        (omega (arith, e), omega (arith, e))) l) [ inl d ↦ absurd (let d0 = d.0 in let e = two in omega (arith, d0, e)) | inr d ↦ inr d ])

pub end_unit : (s : State) (u : ℕ) → Guard (EndUnit u) s → Holds s → Later s (next (EndUnit u) s) × Holds (next (EndUnit u) s)
end_unit s u guard h = (
  later_acted s h (Root u) x s.now s.net m,
  join_action s h (Root u) x s.now s.net m (tops_action s h (Root u) x s.now s.net m (inr refl)) (turns_action s h (Root u) x s.now s.net m
      (λ is. (let never : false ≡ true = is in absurd (cc)))) (λ act. (let never : false ≡ true = act in absurd (cc)))
      (λ b. waits_action s h (Root u) x s.now s.net m (λ c o act z v alive. (let never : false ≡ true = act in absurd (cc))) b
      (low_requests s h (Root u) x s.now s.net m (omega arith) b)) (anti_action s h (Root u) x s.now s.net m (λ v. v)) (λ y i. inl i),
)
  where
    x : Action
    x = record (s.action (Root u)) { stage = 3 }

    none : (t : Act) → is_top t ≡ true → root t ≡ u → 1 ≤ (s.action t).stage → (s.action t).stage ≤ 2 → ⊥
    none t is r l k = let g = guard.1 t is r in let g0 = g.0 in let g1 = g.1 in omega (arith, l, k, g0, g1)

    m : Moves s (Root u) x s.now s.calls s.net
    m = record {
      now = omega arith;
      stage = (let z = guard.0 in omega (arith, z));
      ends = λ e. (refl, refl);
      fresh = λ act. (let never : false ≡ true = act in absurd (cc));
      place = λ l. refl;
      placed = λ l. l;
      going = λ is. (let never : false ≡ true = is in absurd (cc));
      request = omega arith;
      unit = inr (inr (refl, λ t is r l k. none t is r l k));
      pend = λ j l e v. (e, v, refl);
    }

-- Bindings.

pub keep : (s : State) (m : Act) (b : ℕ) → Guard (Keep m b) s → Holds s → Later s (next (Keep m b) s) × Holds (next (Keep m b) s)
keep s m b guard h = (
  later,
  join h later naming (λ j e. inl e) h.servers (λ c i. i) (λ c i. inl i) (λ y is. top_on h later y is refl refl refl) h.turns h.ended
      (λ a. wait_on h later a (omega arith) (λ u o act e w alive. e) (λ c i. inl i)) h.anti (λ y i. inl i),
)
  where
    t : State
    t = next (Keep m b) s

    rise : (u : ℕ) → s.kept u ≤ t.kept u
    rise = at_cases (λ (u : ℕ) (v : ℕ). s.kept u ≤ v) s.kept (root m) b (let l = guard.1 in omega (arith, l)) (λ u f. omega arith)

    other : (u : ℕ) → (u ≡ root m → ⊥) → t.kept u ≡ s.kept u
    other u apart =
        elim (by_cases (u == root m)) [ inl e ↦ absurd (apart (same_number u (root m) e)) | inr f ↦ (λ i. cond (f i) b (s.kept u)) ]

    below : b < s.naming.bound
    below = elim guard.0 [ inl i ↦ (h.bindings b (h.mail (Live m b) i).1).below | inr i ↦ (h.mail (Made m b) i).3 ]

    settled : NobodyInDoubt s → NobodyInDoubt t
    settled d c i w alive conf two = let l = d c i w alive conf two in let r = rise (root c.act) in omega (arith, l, r)

    later : Later s t
    later = record {
      now = omega arith;
      first = inl refl;
      recorded = omega arith;
      bound = omega arith;
      made = λ j l. (refl, refl);
      named = λ j e. (e, refl);
      server = λ k. server_same (s.server k);
      stage = λ a. omega arith;
      ends = λ a e. (e, refl);
      fresh = λ a act e. inl e;
      place = λ a l. refl;
      placed = λ a l. l;
      going = λ x is l k. inl l;
      units = λ x is l k f. f l k;
      kept = rise;
      keeps = λ c i alive. other (root c.act) (λ e. guard.2.called c i e alive);
      calls = λ c i. i;
      fresh_call = λ c i. inl i;
      includes = λ c i. i;
      fresh_include = λ c i. inl i;
      pend = λ a k l p. (
        record { last = p.last; waits = p.waits; alive = p.alive; going = p.going },
        refl,
        other (root a) (λ e. guard.2.waits a e p.waits p.alive),
      );
      request = λ a. omega arith;
      own = λ y j is l o present untold'. (let p = o present untold' in (p.0, up y j p.1));
      wrote = λ y g is l w. w;
      anchored = anchored;
      same_recorded = λ y is e f a. refl;
      current = λ j l current.
          record { present = current.present; unrecorded = current.unrecorded; untold = current.untold; last = current.last };
      settled = λ e d. settled d;
      stays = λ a j k z e alive one v up' o row merged. stands z up' o row merged;
      confirmed = λ y e. inl e;
      yes = λ y j e f. inl f;
      confirms = λ c i alive y is member e. inl e;
      confirms_include = λ c i alive y is member e. inl e;
    }
      where
        up : (y : Act) (j : ℕ) → (s.naming.recorded < j) ⊎ ((s.naming.recorded ≡ j) ⊎ (j < s.kept (root y))) →
            (s.naming.recorded < j) ⊎ ((s.naming.recorded ≡ j) ⊎ (j < t.kept (root y)))
        up y j (inl l) = inl l
        up y j (inr (inl e)) = inr (inl e)
        up y j (inr (inr l)) = inr (inr (let r = rise (root y) in omega (arith, l, r)))

        anchored : (k : ℕ) (x : Act) → is_top x ≡ true → 1 ≤ k → k ≤ 2 → s.naming.first ≡ s.naming.first → (s.action x).stage ≤ 3 →
            GoesOn s (root x) → ((s.action x).stage ≡ 3 → s.naming.confirmed x ≡ true) → Anchor s k x → Anchor t k x
        anchored k x is one two e alive goes conf (own p) = own p
        anchored k x is one two e alive goes conf (unit l) = unit l
        anchored k x is one two e alive goes conf (sibling z it r three c p) = sibling z it r three c p

    naming : NamingHolds t
    naming = record {
      apart = h.naming.apart;
      told = h.naming.told;
      known = h.naming.known;
      recorded_below = h.naming.recorded_below;
      first_below = h.naming.first_below;
      first_above = h.naming.first_above;
      kept_below = at_cases (λ (u : ℕ) (v : ℕ). v < s.naming.bound) s.kept (root m) b below (λ u f. h.naming.kept_below u);
      made_below = h.naming.made_below;
      making = h.naming.making;
      doubt = λ l. settled (h.naming.doubt l);
    }

pub name_binding : (s : State) (b i : ℕ) → Guard (Name b i) s → Holds s → Later s (next (Name b i) s) × Holds (next (Name b i) s)
name_binding s b i guard h = (
  later,
  join h later naming bindings h.servers (λ c j. j) (λ c j. inl j) (λ y is. top_on h later y is refl refl refl) h.turns h.ended
      (λ a. wait_on h later a (omega arith) (λ u o act e w alive. e) (λ c j. inl j)) h.anti (λ y j. inl j),
)
  where
    x : Binding
    x = record (s.binding b) { named = true; incarnation = i }

    t : State
    t = next (Name b i) s

    other : (j : ℕ) → (s.binding j).named ≡ true → t.binding j ≡ s.binding j
    other j e = elim (by_cases (j == b))
        [ inl q ↦ differ e (ap (λ (k : ℕ). (s.binding k).named) (same_number j b q) ∙ guard.1) | inr f ↦ (λ k. cond (f k) x (s.binding j)) ]

    still : (j : ℕ) → ((t.binding j).server ≡ (s.binding j).server) × ((t.binding j).maker ≡ (s.binding j).maker)
    still = at_cases (λ (j : ℕ) (v : Binding). (v.server ≡ (s.binding j).server) × (v.maker ≡ (s.binding j).maker)) s.binding b x
        (refl, refl) (λ j f. (refl, refl))

    doubts : (j : ℕ) → Doubtless s j → Doubtless t j
    doubts j d current = d (subst (λ (y : Act). IsCurrent s.naming y j) (still j).1
        (record { present = current.present; unrecorded = current.unrecorded; untold = current.untold; last = current.last }))

    later : Later s t
    later = record {
      now = omega arith;
      first = inl refl;
      recorded = omega arith;
      bound = omega arith;
      made = λ j l. still j;
      named = λ j e. (ap (λ (y : Binding). y.named) (other j e) ∙ e, ap (λ (y : Binding). y.incarnation) (other j e));
      server = λ k. server_same (s.server k);
      stage = λ a. omega arith;
      ends = λ a e. (e, refl);
      fresh = λ a act e. inl e;
      place = λ a l. refl;
      placed = λ a l. l;
      going = λ y is l k. inl l;
      units = λ y is l k f. f l k;
      kept = λ u. omega arith;
      keeps = λ c j alive. refl;
      calls = λ c j. j;
      fresh_call = λ c j. inl j;
      includes = λ c j. j;
      fresh_include = λ c j. inl j;
      pend = λ a k l p. (record { last = p.last; waits = p.waits; alive = p.alive; going = p.going }, refl, refl);
      request = λ a. omega arith;
      own = λ y j is l o. o;
      wrote = λ y g is l w. w;
      anchored = anchored;
      same_recorded = λ y is e f a. refl;
      current = λ j l current. subst (λ (y : Act). IsCurrent s.naming y j) (still j).1
          (record { present = current.present; unrecorded = current.unrecorded; untold = current.untold; last = current.last });
      settled = λ e d. d;
      stays = λ a j k z e alive one v up o row merged. stands z
          (subst (λ (y : Binding). ((s.server y.server).incarnation ≡ y.incarnation) × ((s.server y.server).active ≡ j)) (sym (other j e))
          up) o
          (subst (λ (y : Binding). k ≤ (s.server y.server).rows z) (sym (other j e)) row) merged;
      confirmed = λ y e. inl e;
      yes = λ y j e f. inl f;
      confirms = λ c j alive y is member e. inl e;
      confirms_include = λ c j alive y is member e. inl e;
    }
      where
        anchored : (k : ℕ) (y : Act) → is_top y ≡ true → 1 ≤ k → k ≤ 2 → s.naming.first ≡ s.naming.first → (s.action y).stage ≤ 3 →
            GoesOn s (root y) → ((s.action y).stage ≡ 3 → s.naming.confirmed y ≡ true) → Anchor s k y → Anchor t k y
        anchored k y is one two e alive goes conf (own p) = own p
        anchored k y is one two e alive goes conf (unit l) = unit l
        anchored k y is one two e alive goes conf (sibling z it r three c p) = sibling z it r three c p

    naming : NamingHolds t
    naming = record {
      apart = h.naming.apart;
      told = h.naming.told;
      known = λ l. (let e = h.naming.known l in ap (λ (y : Binding). y.named) (other s.naming.recorded e) ∙ e);
      recorded_below = h.naming.recorded_below;
      first_below = h.naming.first_below;
      first_above = h.naming.first_above;
      kept_below = h.naming.kept_below;
      made_below = h.naming.made_below;
      making = h.naming.making;
      doubt = h.naming.doubt;
    }

    mean : Mean s (Activated b i)
    mean = h.mail (Activated b i) guard.0

    here : t.binding b ≡ x
    here = at_here s.binding b x

    bindings : (j : ℕ) → (t.binding j).named ≡ true → ((s.binding j).named ≡ true) ⊎ NamedHolds t j
    bindings j e = elim (by_cases (j == b)) [
      | inl q ↦ inr (subst (λ (k : ℕ). NamedHolds t k) (sym (same_number j b q)) named)
      | inr f ↦ inl (sym (λ k. (cond (f k) x (s.binding j)).named) ∙ e)
    ]
      where
        named : NamedHolds t b
        named = record {
          positive = mean.0;
          below = mean.1;
          kept = subst (λ (y : Act). b ≤ s.kept (root y)) (sym (still b).1) mean.2;
          maker = ap is_top (still b).1 ∙ mean.3;
          reached = subst (λ (y : Binding). Reached (s.server y.server) y.incarnation b) (sym here) mean.4;
          doubtless = doubts b mean.5;
        }

pub included : (s : State) (a : Act) (g p : ℕ) → Guard (Included a g p) s → Holds s →
    Later s (next (Included a g p) s) × Holds (next (Included a g p) s)
included s a g p guard h = (
  later,
  join h later naming (λ j e. inl e) h.servers (λ c i. i) includes (λ y is. top_on h later y is refl refl refl) h.turns
      (λ b act three. (let l = h.ended b act three in let n = now in omega (arith, l, n)))
      (λ b. wait_on h later b (omega arith) (λ u o act e w alive. e) (λ c i. inl i)) h.anti (λ y i. inl i),
)
  where
    t : State
    t = next (Included a g p) s

    now : s.now ≤ p
    now = guard.3

    c' : Include
    c' = record { act = a; line = p; grant = g }

    open_top : (s.action (top a)).stage ≡ 0
    open_top = guard.2 (top a) (on_top a)

    later : Later s t
    later = record {
      now = (let n = now in omega (arith, n));
      first = inl refl;
      recorded = omega arith;
      bound = omega arith;
      made = λ j l. (refl, refl);
      named = λ j e. (e, refl);
      server = λ k. server_same (s.server k);
      stage = λ b. omega arith;
      ends = λ b e. (e, refl);
      fresh = λ b act e. inl e;
      place = λ b l. refl;
      placed = λ b l. (let n = now in omega (arith, n, l));
      going = λ y is l k. inl l;
      units = λ y is l k f. f l k;
      kept = λ u. omega arith;
      keeps = λ c i alive. refl;
      calls = λ c i. i;
      fresh_call = λ c i. inl i;
      includes = λ c i. inr i;
      fresh_include = fresh;
      pend = λ b k l q. (record { last = q.last; waits = q.waits; alive = q.alive; going = q.going }, refl, refl);
      request = λ b. omega arith;
      own = λ y j is l o. o;
      wrote = λ y k is l w. w;
      anchored = anchored;
      same_recorded = λ y is e f b. refl;
      current = λ j l current.
          record { present = current.present; unrecorded = current.unrecorded; untold = current.untold; last = current.last };
      settled = λ e d. d;
      stays = λ b j k z e alive one v up o row merged. stands z up o row merged;
      confirmed = λ y e. inl e;
      yes = λ y j e f. inl f;
      confirms = λ c i alive y is member e. inl e;
      confirms_include = λ c i alive y is member e. inl e;
    }
      where
        fresh : (c : Include) → In c t.includes → In c s.includes ⊎ (((s.action (top c.act)).stage ≡ 0) × (s.now ≤ c.line))
        fresh c (inl is) = inr (subst (λ (d : Include). ((s.action (top d.act)).stage ≡ 0) × (s.now ≤ d.line)) (sym is) (open_top, now))
        fresh c (inr i) = inl i

        anchored : (k : ℕ) (y : Act) → is_top y ≡ true → 1 ≤ k → k ≤ 2 → s.naming.first ≡ s.naming.first → (s.action y).stage ≤ 3 →
            GoesOn s (root y) → ((s.action y).stage ≡ 3 → s.naming.confirmed y ≡ true) → Anchor s k y → Anchor t k y
        anchored k y is one two e alive goes conf (own q) = own q
        anchored k y is one two e alive goes conf (unit l) = unit l
        anchored k y is one two e alive goes conf (sibling z it r three c q) = sibling z it r three c q

    naming : NamingHolds t
    naming = record {
      apart = h.naming.apart;
      told = h.naming.told;
      known = h.naming.known;
      recorded_below = h.naming.recorded_below;
      first_below = h.naming.first_below;
      first_above = h.naming.first_above;
      kept_below = h.naming.kept_below;
      made_below = h.naming.made_below;
      making = h.naming.making;
      doubt = h.naming.doubt;
    }

    mean : Mean s (Granted (top a) g)
    mean = h.mail (Granted (top a) g) guard.1

    includes : (c : Include) → In c t.includes → In c s.includes ⊎ IncludeHolds t c
    includes c (inl is) = inr (subst (λ (d : Include). IncludeHolds t d) (sym is) (record {
      acts = guard.0;
      before = omega arith;
      granted = mean.1;
      entered = λ alive present goes. own (mean.2 present (untold s h a guard.0 guard.2));
    }))
    includes c (inr i) = inl i
