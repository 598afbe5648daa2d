-- The invariant lasts where a step leaves things alone, and what a step that adds something has to show.
use Rattle.arj_law_lock.proofs.Terms
use Terms.{◌≡◌, ◌≢◌, ◌≤◌, ◌<◌, ◌⊎◌, ℕ, Bool, true, false, inl, inr, refl, sym, ◌∙◌, ap, subst, arith, Act, Root, Sub, on, root, top, is_top}
use Terms.{is_action, In, mode, Apart, Action, Server, Call, Include, Request, Message, Live, Made, Granted, Activate, Activated, Recorded}
use Terms.{Invoke, Invoked, Refused, Changed, Vote, Confirm, State, Alive, Passed, Covered}
use Rattle.arj_law_lock.proofs.machine
use machine.{Paths.top_root, Paths.top_is, Paths.on_top}
use machine.Claims.{server_of, IsUp, Reached, Covers, Good, Pending, Conflict, Order, Asked, Mean, NamingHolds, NamedHolds, CallHolds}
use machine.Claims.{IncludeHolds, TopHolds, WaitHolds, Waits, Anti, Before, Turns, Member, Follows, Counts, Holds}
use machine.Later.{doubt_on, Later, alive_back, passed_on, done_on, before_on, covered_back, first_rises, same_server, reached_on}
use machine.Later.{reached_lasts, up_back, covers_on, mode_positive, sure_on, entered_on, good_back}

-- Facts of one state.

module _ {s : State} (h : Holds s) where
  pub kept_named : (c : Call) → In c s.calls → Alive s c.act → (s.binding (s.kept (root c.act))).named ≡ true
  kept_named c i alive = subst (λ (u : ℕ). (s.binding (s.kept u)).named ≡ true) (top_root c.act) ((h.calls c i).sure alive).named

  pub kept_holds : (c : Call) → In c s.calls → Alive s c.act → NamedHolds s (s.kept (root c.act))
  kept_holds c i alive = h.bindings (s.kept (root c.act)) (kept_named c i alive)

  -- a committed top with a call is confirmed in naming's present incarnation, if its binding is of that
  pub is_confirmed : (c : Call) → In c s.calls → Alive s c.act → (s.action (top c.act)).stage ≡ 3 → s.naming.first ≤ s.kept (root c.act) →
      s.naming.confirmed (top c.act) ≡ true
  is_confirmed c i alive three present = by (tops.confirmed (tops.called (omega (arith, three)) (omega (arith, three)) c i alive covers).1)
    where
      tops : TopHolds s (top c.act)
      tops = h.tops (top c.act) (top_is c.act (h.calls c i).acts)

      covers : Covered s (top c.act) c.act
      covers = (sym (top_root c.act), inl refl)

      by : (s.naming.confirmed (top c.act) ≡ true) ⊎ (((d : Call) → In d s.calls → Alive s d.act → Covered s (top c.act) d.act →
          s.kept (root (top c.act)) < s.naming.first) × ((d : Include) → In d s.includes → Alive s d.act → Covered s (top c.act) d.act →
          d.grant < s.naming.first)) → s.naming.confirmed (top c.act) ≡ true
      by (inl e) = e
      by (inr f) = let l = f.0 c i alive covers in let e : s.kept (root (top c.act)) ≡ s.kept (root c.act) = ap s.kept (top_root c.act) in
          absurd (omega (arith, l, e, present))

  pub is_voted : (c : Call) → In c s.calls → Alive s c.act → (s.action (top c.act)).stage ≡ 3 → IsUp s (s.kept (root c.act)) →
      (server_of s (s.kept (root c.act))).voted (top c.act) ≡ true
  is_voted c i alive three up =
      subst (λ (b : ℕ). (server_of s b).voted (top c.act) ≡ true) e (tops.voted one (subst (λ (b : ℕ). IsUp s b) (sym e) up))
    where
      tops : TopHolds s (top c.act)
      tops = h.tops (top c.act) (top_is c.act (h.calls c i).acts)

      e : s.yes (top c.act) ≡ s.kept (root c.act)
      e = (tops.called (omega (arith, three)) (omega (arith, three)) c i alive (sym (top_root c.act), inl refl)).0
          ∙ ap s.kept (top_root c.act)

      one : 1 ≤ s.yes (top c.act)
      one = let p = (kept_holds c i alive).positive in let q = e in omega (arith, p, q)

-- a call whose top is open isn't covered by one that isn't
not_fresh' : (x : Act → Action) (m a : Act) → (x (top a)).stage ≡ 0 →
    (root a ≡ root m) × ((top a ≡ m) ⊎ (((x (top a)).stage ≡ 3) × ((x (top a)).done < (x m).place))) → 1 ≤ (x m).stage → ⊥
not_fresh' x m a zero (r, inl e) one = let k : (x (top a)).stage ≡ (x m).stage = ap (λ y. (x y).stage) e in omega (arith, one, k, zero)
not_fresh' x m a zero (r, inr (three, less)) one = omega (arith, zero, three)

module _ {s t : State} (h : Holds s) (later : Later s t) where
  not_fresh : (m a : Act) → (t.action (top a)).stage ≡ 0 → Covered t m a → 1 ≤ (t.action m).stage → ⊥
  not_fresh m a zero covers one = not_fresh' t.action m a zero covers one

  -- Messages.

  pub order_on : (a : Act) (w : Bool) (p : ℕ) → p ≤ s.now → Order s a w p → Order t a w p
  order_on a w p low o c i same line conflict alive = by (later.fresh_call c i)
    where
      by : In c s.calls ⊎ (((t.action (top c.act)).stage ≡ 0) × (s.now ≤ c.line)) → Passed t c.act a p
      by (inl old) = passed_on later c.act a p (o c old same line conflict (alive_back later c.act alive))
      by (inr new) = let l = new.1 in absurd (omega (arith, l, line, low))

  pub asked_on : (q : Request) → Asked s q → Asked t q
  asked_on q m = (
    m.0,
    (let l = m.1 in let k = later.request q.act in omega (arith, l, k)),
    (later.named q.binding m.2).0,
    λ pending. let p = later.pend q.act q.number m.1 pending in m.3 p.0 ∙ sym p.2,
  )

  pub mean_on : (m : Message) → Mean s m → Mean t m
  mean_on (Live m b) p = (
    p.0,
    (later.named b p.1).0,
    (let l = p.2 in let k = later.recorded in omega (arith, l, k)),
    later.own m b p.0 (h.bindings b p.1).below p.3,
  )
  mean_on (Made m b) p =
      (p.0, (later.made b p.3).1 ∙ p.1, p.2, (let l = p.3 in let k = later.bound in omega (arith, l, k)), later.own m b p.0 p.3 p.4)
  mean_on (Granted m g) p = (p.0, (let l = p.1 in let k = first_rises later in omega (arith, l, k)), later.wrote m g p.0 p.1 p.2)
  mean_on (Activate b v) p =
      let same = (later.made b p.1).1 in (
        p.0,
        (let l = p.1 in let k = later.bound in omega (arith, l, k)),
        subst (λ (m : Act). b ≤ t.kept (root m)) (sym same) (let l = p.2 in let k = later.kept (root (s.binding b).maker) in
            omega (arith, l, k)),
        ap is_top same ∙ p.3,
        doubt_on later b p.1 p.4,
      )
  mean_on (Activated b i) p =
      let same = (later.made b p.1).1 in (
        p.0,
        (let l = p.1 in let k = later.bound in omega (arith, l, k)),
        subst (λ (m : Act). b ≤ t.kept (root m)) (sym same) (let l = p.2 in let k = later.kept (root (s.binding b).maker) in
            omega (arith, l, k)),
        ap is_top same ∙ p.3,
        subst (λ (n : ℕ). Reached (t.server n) i b) (sym (later.made b p.1).0) (reached_on later (s.binding b).server i b p.4),
        doubt_on later b p.1 p.5,
      )
  mean_on (Recorded b) p = ((later.named b p.0).0, (let l = p.1 in let k = later.recorded in omega (arith, l, k)))
  mean_on (Invoke q) p = asked_on q p
  mean_on (Invoked r) p = (asked_on r.request p.0, (let l = p.1 in let k = later.now in omega (arith, l, k)), now)
    where
      a : Act
      a = r.request.act

      b : ℕ
      b = r.request.binding

      named : (s.binding b).named ≡ true
      named = p.0.2

      now : Pending t a r.request.number →
          Covers t a b (mode r.request.write) × ((t.action a).since ≤ r.place) × Order t a r.request.write r.place
      now pending =
          let old = later.pend a r.request.number p.0.1 pending in
          let c = p.2 old.0 in
          let path = (h.waits a old.0.waits old.0.alive old.0.going).path (top a) (on_top a) (top_action' a p.0.0) in (
            covers_on later b named (h.bindings b named).below a (mode r.request.write) (mode_positive later r.request.write) pending.alive
                (λ three. absurd (omega (arith, three, path))) c.0,
            (let e = old.1 in let l = c.1 in omega (arith, e, l)),
            order_on a r.request.write r.place p.1 c.2,
          )
        where
          top_action' : (x : Act) → is_action x ≡ true → is_action (top x) ≡ true
          top_action' (Root u) e = e
          top_action' (Sub (Root u) n) e = refl
          top_action' (Sub (Sub y k) n) e = top_action' (Sub y k) refl
  mean_on (Refused q) p = tt
  mean_on (Changed b) p = tt
  mean_on (Vote m b i) p = (
    p.0,
    (later.named b p.1).0,
    (let l = p.2 in let k = later.kept (root m) in omega (arith, l, k)),
    (let l = p.3 in let e = (later.named b p.1).1 in omega (arith, l, e)),
    (let l = p.4 in let k = later.stage m in omega (arith, l, k)),
  )
  mean_on (Confirm m q) p = (p.0, (let l = p.1 in let k = later.stage m in omega (arith, l, k)), calls, includes)
    where
      line : (s.action m).place < s.now
      line = (h.tops m p.0).before

      not_new : (a : Act) → (t.action (top a)).stage ≡ 0 → Covered t m a → ⊥
      not_new a zero (r, inl is) = let k = later.stage m in let one = p.1 in
          let e : (t.action (top a)).stage ≡ (t.action m).stage = ap (λ x. (t.action x).stage) is in omega (arith, k, one, e, zero)
      not_new a zero (r, inr (three, less)) = omega (arith, zero, three)

      calls : (c : Call) → In c t.calls → Alive t c.act → Covered t m c.act → q ≤ t.kept (root m)
      calls c i alive covers = by (later.fresh_call c i)
        where
          by : In c s.calls ⊎ (((t.action (top c.act)).stage ≡ 0) × (s.now ≤ c.line)) → q ≤ t.kept (root m)
          by (inl old) = let l = p.2 c old (alive_back later c.act alive)
              (covered_back later m c.act (h.calls c old).acts p.1 line covers) in let k = later.kept (root m) in omega (arith, l, k)
          by (inr new) = absurd (not_new c.act new.0 covers)

      includes : (c : Include) → In c t.includes → Alive t c.act → Covered t m c.act → q ≤ c.grant
      includes c i alive covers = by (later.fresh_include c i)
        where
          by : In c s.includes ⊎ (((t.action (top c.act)).stage ≡ 0) × (s.now ≤ c.line)) → q ≤ c.grant
          by (inl old) = p.3 c old (alive_back later c.act alive) (covered_back later m c.act (h.includes c old).acts p.1 line covers)
          by (inr new) = absurd (not_new c.act new.0 covers)

  -- Calls, includes, bindings.

  pub call_on : (c : Call) → In c s.calls → CallHolds t c
  call_on c i = record {
    acts = old.acts;
    before = (let l = old.before in let k = later.now in omega (arith, l, k));
    sure = λ alive. sure_on later (top c.act) (top_is c.act old.acts) (alive (top c.act) (on_top c.act))
        (ap t.kept (top_root c.act) ∙ later.keeps c i alive ∙ ap s.kept (sym (top_root c.act))) (h.naming.kept_below (root (top c.act)))
        (λ three present. is_confirmed h c i (alive_back later c.act alive) three
        (subst (λ (u : ℕ). s.naming.first ≤ s.kept u) (top_root c.act) present)) (old.sure (alive_back later c.act alive));
    covers = λ alive. let back = alive_back later c.act alive in
        subst (λ (b : ℕ). Covers t c.act b (mode c.write)) (sym (later.keeps c i alive))
        (covers_on later (s.kept (root c.act)) (kept_named h c i back) (kept_holds h c i back).below c.act (mode c.write)
        (mode_positive later c.write) alive (λ three up. is_voted h c i back three up) (old.covers back));
  }
    where
      old : CallHolds s c
      old = h.calls c i

  pub include_on : (c : Include) → In c s.includes → IncludeHolds t c
  include_on c i = record {
    acts = old.acts;
    before = (let l = old.before in let k = later.now in omega (arith, l, k));
    granted = (let l = old.granted in let k = first_rises later in omega (arith, l, k));
    entered = λ alive. entered_on later (top c.act) c.grant (top_is c.act old.acts) old.granted (alive (top c.act) (on_top c.act))
        (confirmed (alive_back later c.act alive)) (old.entered (alive_back later c.act alive));
  }
    where
      old : IncludeHolds s c
      old = h.includes c i

      tops : TopHolds s (top c.act)
      tops = h.tops (top c.act) (top_is c.act old.acts)

      confirmed : Alive s c.act → (s.action (top c.act)).stage ≡ 3 → c.grant ≡ s.naming.first → s.naming.confirmed (top c.act) ≡ true
      confirmed alive three present = by (tops.confirmed (tops.included (omega (arith, three)) (omega (arith, three)) c i alive covers))
        where
          covers : Covered s (top c.act) c.act
          covers = (sym (top_root c.act), inl refl)

          by : (s.naming.confirmed (top c.act) ≡ true) ⊎ (((d : Call) → In d s.calls → Alive s d.act → Covered s (top c.act) d.act →
              s.kept (root (top c.act)) < s.naming.first) × ((d : Include) → In d s.includes → Alive s d.act → Covered s (top c.act) d.act →
              d.grant < s.naming.first)) → s.naming.confirmed (top c.act) ≡ true
          by (inl e) = e
          by (inr f) = let l = f.1 c i alive covers in absurd (omega (arith, l, present))

  pub binding_on : (b : ℕ) → (s.binding b).named ≡ true → NamedHolds t b
  binding_on b named = record {
    positive = old.positive;
    below = (let l = old.below in let k = later.bound in omega (arith, l, k));
    kept = subst (λ (m : Act). b ≤ t.kept (root m)) (sym same) (let l = old.kept in let k = later.kept (root (s.binding b).maker) in
        omega (arith, l, k));
    maker = ap is_top same ∙ old.maker;
    reached = reached_lasts later b named old.below old.reached;
    doubtless = doubt_on later b old.below old.doubtless;
  }
    where
      old : NamedHolds s b
      old = h.bindings b named

      same : (t.binding b).maker ≡ (s.binding b).maker
      same = (later.made b old.below).1

  -- Tops.

  pub top_gen : (m : Act) → is_top m ≡ true → t.yes m ≡ s.yes m → t.confirmed m ≡ s.confirmed m
      → ((t.action m).stage ≡ 3 → (t.action m).place < (t.action m).done)
      → (2 ≤ (t.action m).stage → (t.action m).stage ≤ 3 → (c : Call) → In c t.calls → Alive t c.act → Covered t m c.act →
      (t.yes m ≡ t.kept (root m)) × (t.confirmed m ≡ true))
      → (2 ≤ (t.action m).stage → (t.action m).stage ≤ 3 → (c : Include) → In c t.includes → Alive t c.act → Covered t m c.act →
      t.confirmed m ≡ true) → TopHolds t m
  top_gen m is votes conf ordered called included = record {
    before = later.placed m old.before;
    ordered = ordered;
    goes = λ l k. later.units m is l k old.goes;
    called = called;
    included = included;
    asked = λ e. let l = old.asked (sym conf ∙ e) in let k = later.stage m in omega (arith, l, k);
    confirmed = λ e. confirmed (old.asked (sym conf ∙ e)) (old.confirmed (sym conf ∙ e));
    voting = λ one. let l = old.voting (subst (λ (x : ℕ). 1 ≤ x) votes one) in let k = later.stage m in omega (arith, l, k);
    named = λ one. subst (λ (b : ℕ). (t.binding b).named ≡ true) (sym votes)
        (later.named (s.yes m) (old.named (subst (λ (x : ℕ). 1 ≤ x) votes one))).0;
    voted = λ one up. voted (subst (λ (x : ℕ). 1 ≤ x) votes one) (subst (λ (b : ℕ). IsUp t b) votes up);
  }
    where
      old : TopHolds s m
      old = h.tops m is

      not_new : (a : Act) → (t.action (top a)).stage ≡ 0 → Covered t m a → 1 ≤ (t.action m).stage → ⊥
      not_new a zero (r, inl e) one = let k : (t.action (top a)).stage ≡ (t.action m).stage = ap (λ x. (t.action x).stage) e in
          omega (arith, one, k, zero)
      not_new a zero (r, inr (three, less)) one = omega (arith, zero, three)

      old_call : (c : Call) → In c t.calls → Covered t m c.act → 1 ≤ (t.action m).stage → In c s.calls
      old_call c i covers one = elim (later.fresh_call c i) [ inl o ↦ o | inr new ↦ absurd (not_new c.act new.0 covers one) ]

      old_include : (c : Include) → In c t.includes → Covered t m c.act → 1 ≤ (t.action m).stage → In c s.includes
      old_include c i covers one = elim (later.fresh_include c i) [ inl o ↦ o | inr new ↦ absurd (not_new c.act new.0 covers one) ]

      back : (a : Act) → is_action a ≡ true → 1 ≤ (s.action m).stage → Covered t m a → Covered s m a
      back a act one covers = covered_back later m a act one old.before covers

      confirmed : 1 ≤ (s.action m).stage → (s.naming.confirmed m ≡ true)
          ⊎ (((c : Call) → In c s.calls → Alive s c.act → Covered s m c.act → s.kept (root m) < s.naming.first)
          × ((c : Include) → In c s.includes → Alive s c.act → Covered s m c.act → c.grant < s.naming.first))
          → (t.naming.confirmed m ≡ true) ⊎ (((c : Call) → In c t.calls → Alive t c.act → Covered t m c.act → t.kept (root m)
          < t.naming.first) × ((c : Include) → In c t.includes → Alive t c.act → Covered t m c.act → c.grant < t.naming.first))
      confirmed one (inl e) = elim (later.confirmed m e) [
        | inl f ↦ inl f
        | inr crash ↦ inr (
          (λ c i alive covers. let j = old_call c i covers (let k = later.stage m in omega (arith, one, k)) in
              let k : t.kept (root m) ≡ s.kept (root m) = ap t.kept (sym covers.0) ∙ later.keeps c j alive ∙ ap s.kept covers.0 in
              let l = h.naming.kept_below (root m) in let g = crash.0 in omega (arith, k, l, g)),
          (λ c i alive covers. let j = old_include c i covers (let k = later.stage m in omega (arith, one, k)) in
              let l = (h.includes c j).granted in let g = crash.1 in omega (arith, l, g)),
        )
      ]
      confirmed one (inr f) = let r = first_rises later in inr (
        (λ c i alive covers. let j = old_call c i covers (let k = later.stage m in omega (arith, one, k)) in
            let k : t.kept (root m) ≡ s.kept (root m) = ap t.kept (sym covers.0) ∙ later.keeps c j alive ∙ ap s.kept covers.0 in
            let l = f.0 c j (alive_back later c.act alive) (back c.act (h.calls c j).acts one covers) in omega (arith, k, l, r)),
        (λ c i alive covers. let j = old_include c i covers (let k = later.stage m in omega (arith, one, k)) in
            let l = f.1 c j (alive_back later c.act alive) (back c.act (h.includes c j).acts one covers) in omega (arith, l, r)),
      )

      voted : 1 ≤ s.yes m → IsUp t (s.yes m) → (server_of t (t.yes m)).voted m ≡ true
      voted one up =
          let named = old.named one in
          let n = h.bindings (s.yes m) named in
          let u = up_back later (s.yes m) named n.below n.reached up in
          subst (λ (b : ℕ). (server_of t b).voted m ≡ true) (sym votes) (subst (λ (v : Server). v.voted m ≡ true) (sym
          (same_server later (s.yes m) named n.below)) ((later.server (s.binding (s.yes m)).server).voted u.1 m (old.voted one u.0)))

  -- what the coordinator knew when it decided
  pub called_on : (m : Act) → is_top m ≡ true → t.yes m ≡ s.yes m → t.confirmed m ≡ s.confirmed m →
      (2 ≤ (t.action m).stage → 2 ≤ (s.action m).stage) → 2 ≤ (t.action m).stage → (t.action m).stage ≤ 3 → (c : Call) → In c t.calls →
      Alive t c.act → Covered t m c.act → (t.yes m ≡ t.kept (root m)) × (t.confirmed m ≡ true)
  called_on m is votes conf down two three c i alive covers = by (later.fresh_call c i)
    where
      old : TopHolds s m
      old = h.tops m is

      k : (s.action m).stage ≤ (t.action m).stage
      k = later.stage m

      by : In c s.calls ⊎ (((t.action (top c.act)).stage ≡ 0) × (s.now ≤ c.line)) → (t.yes m ≡ t.kept (root m)) × (t.confirmed m ≡ true)
      by (inl j) =
          let l = k in
          let p = old.called (down two) (omega (arith, l, three)) c j (alive_back later c.act alive)
          (covered_back later m c.act (h.calls c j).acts (let d = down two in omega (arith, d)) old.before covers) in
          (votes ∙ p.0 ∙ sym (ap t.kept (sym covers.0) ∙ later.keeps c j alive ∙ ap s.kept covers.0), conf ∙ p.1)
      by (inr new) = absurd (not_fresh m c.act new.0 covers (omega (arith, two)))

  pub included_on : (m : Act) → is_top m ≡ true → t.confirmed m ≡ s.confirmed m → (2 ≤ (t.action m).stage → 2 ≤ (s.action m).stage) →
      2 ≤ (t.action m).stage → (t.action m).stage ≤ 3 → (c : Include) → In c t.includes → Alive t c.act → Covered t m c.act →
      t.confirmed m ≡ true
  included_on m is conf down two three c i alive covers = by (later.fresh_include c i)
    where
      old : TopHolds s m
      old = h.tops m is

      k : (s.action m).stage ≤ (t.action m).stage
      k = later.stage m

      by : In c s.includes ⊎ (((t.action (top c.act)).stage ≡ 0) × (s.now ≤ c.line)) → t.confirmed m ≡ true
      by (inl j) = let l = k in conf ∙ old.included (down two) (omega (arith, l, three)) c j (alive_back later c.act alive)
          (covered_back later m c.act (h.includes c j).acts (let d = down two in omega (arith, d)) old.before covers)
      by (inr new) = absurd (not_fresh m c.act new.0 covers (omega (arith, two)))

  pub top_on : (m : Act) → is_top m ≡ true → (t.action m).stage ≡ (s.action m).stage → t.yes m ≡ s.yes m → t.confirmed m ≡ s.confirmed m →
      TopHolds t m
  top_on m is stage votes conf = top_gen m is votes conf (λ three. let z : (s.action m).stage ≡ 3 = sym stage ∙ three in
      let e = (later.ends m z).1 in let q = later.place m (omega (arith, z)) in let l = (h.tops m is).ordered z in omega (arith, e, q, l))
      (called_on m is votes conf (λ two. omega (arith, two, stage))) (included_on m is conf (λ two. omega (arith, two, stage)))

  -- Waiting actions.

  pub wait_on : (a : Act) → (t.action a).request ≤ (s.action a).request → ((u : Act) → on a u ≡ true → is_action u ≡ true →
      (s.action u).stage ≡ 0 → (t.action a).waits ≡ true → Alive t a → (t.action u).stage ≡ 0) →
      ((c : Call) → In c t.calls → In c s.calls ⊎ (on c.act a ≡ false)) → Waits t a
  wait_on a low path new waits alive going = record {
    acts = old.acts;
    sure = sure_on later (top a) (top_is a old.acts) (alive (top a) (on_top a))
        (ap t.kept (top_root a) ∙ p.2 ∙ ap s.kept (sym (top_root a))) (h.naming.kept_below (root (top a)))
        (λ three. absurd (let zero = old.path (top a) (on_top a) (top_act a old.acts) in omega (arith, three, zero))) old.sure;
    path = λ u o act. path u o act (old.path u o act) waits alive;
    since = (let e = p.1 in let l = old.since in let k = later.now in omega (arith, e, l, k));
    alone = λ c i line. elim (new c i) [ inl j ↦ old.alone c j (let e = p.1 in omega (arith, e, line)) | inr f ↦ f ];
  }
    where
      top_act : (x : Act) → is_action x ≡ true → is_action (top x) ≡ true
      top_act (Root u) e = e
      top_act (Sub (Root u) n) e = refl
      top_act (Sub (Sub y k) n) e = top_act (Sub y k) refl

      p : Pending s a (t.action a).request × ((t.action a).since ≡ (s.action a).since) × (t.kept (root a) ≡ s.kept (root a))
      p = later.pend a (t.action a).request low (record { last = refl; waits = waits; alive = alive; going = going })

      old : WaitHolds s a
      old = h.waits a p.0.waits p.0.alive p.0.going

  -- Pairs.

  pub member_back : (m a : Act) → is_top m ≡ true → is_action a ≡ true → Member t m a → Member s m a
  member_back m a is act (inl zero) = inl (let l = later.stage m in omega (arith, l, zero))
  member_back m a is act (inr covers) = elim (stage_cases (s.action m).stage)
      [ inl zero ↦ inl zero | inr one ↦ inr (covered_back later m a act one ((h.tops m is).before) covers) ]
    where
      stage_cases : (n : ℕ) → (n ≡ 0) ⊎ (1 ≤ n)
      stage_cases n = grind arith

  pub good_on : (c : Call) → In c s.calls → Alive t c.act → (m : Act) → is_top m ≡ true → root m ≡ root c.act → Member s m c.act →
      Good t m → Good s m
  good_on c i alive m is unit member good =
      let back = alive_back later c.act alive in
      good_back later c i alive m is unit member (subst (λ (u : ℕ). NamedHolds s (s.kept u)) (sym unit) (kept_holds h c i back))
      (subst (λ (u : ℕ). (s.binding (s.kept u)).named ≡ true) (sym unit) (kept_named h c i back)) good

  pub own_good : (c : Call) → In c s.calls → Alive t c.act → Good t (top c.act) → Good s (top c.act)
  own_good c i alive good =
      good_on c i alive (top c.act) (top_is c.act (h.calls c i).acts) (top_root c.act) (inr (sym (top_root c.act), inl refl)) good

  pub counts_back : (c : Call) (m : Act) → In c s.calls → Counts t c m → Counts s c m
  counts_back c m i k =
      let member = member_back m c.act k.top (h.calls c i).acts k.member in
      record {
        alive = alive_back later c.act k.alive;
        good = own_good c i k.alive k.good;
        top = k.top;
        unit = k.unit;
        member = member;
        counts = good_on c i k.alive m k.top k.unit member k.counts;
      }

  pub pairs_on : (c d : Call) (m : Act) → In c s.calls → In d s.calls → c.line < d.line → root c.act ≢ root d.act → Counts t c m →
      Alive t d.act → Good t (top d.act) → Follows t c d.act d.write d.line m
  pairs_on c d m i j line apart k alive good = record {
    node = node f.node;
    order = λ conflict. let o = f.order conflict in (before_on later m d.line o.0, λ write. done_on later (top c.act) d.line (o.1 write));
  }
    where
      f : Follows s c d.act d.write d.line m
      f = h.pairs c d m i j line apart (counts_back c m i k) (alive_back later d.act alive) (own_good d j alive good)

      node : Before s m d.line ⊎ (s.kept (root c.act) ≡ s.kept (root d.act)) →
          Before t m d.line ⊎ (t.kept (root c.act) ≡ t.kept (root d.act))
      node (inl b) = inl (before_on later m d.line b)
      node (inr e) = inr (later.keeps c i k.alive ∙ e ∙ sym (later.keeps d j alive))

  pub nested_on : (c d : Call) → In c s.calls → In d s.calls → c.line < d.line → root c.act ≡ root d.act → Conflict c.write d.write →
      Alive t c.act → Alive t d.act → Good t (top d.act) → Passed t c.act d.act d.line
  nested_on c d i j line same conflict a b good = passed_on later c.act d.act d.line
      (h.nested c d i j line same conflict (alive_back later c.act a) (alive_back later d.act b) (own_good d j b good))

  -- The whole, for a step that adds no call.

  pub join : NamingHolds t → ((b : ℕ) → (t.binding b).named ≡ true → ((s.binding b).named ≡ true) ⊎ NamedHolds t b) →
      ((n : ℕ) → Apart (t.server n).rows) → ((c : Call) → In c t.calls → In c s.calls) →
      ((c : Include) → In c t.includes → In c s.includes ⊎ IncludeHolds t c)
      → ((m : Act) → is_top m ≡ true → TopHolds t m) → Turns t → ((a : Act) → is_action a ≡ true → (t.action a).stage ≡ 3 →
      (t.action a).done < t.now) → ((a : Act) → Waits t a) → Anti t → ((m : Message) → In m t.net → In m s.net ⊎ Mean t m) → Holds t
  join naming bindings servers calls includes tops turns ended waits anti mail = record {
    naming = naming;
    bindings = λ b named. elim (bindings b named) [ inl old ↦ binding_on b old | inr new ↦ new ];
    servers = servers;
    calls = λ c i. call_on c (calls c i);
    includes = λ c i. elim (includes c i) [ inl old ↦ include_on c old | inr new ↦ new ];
    tops = tops;
    turns = turns;
    ended = ended;
    waits = waits;
    anti = anti;
    pairs = λ c d m i j. pairs_on c d m (calls c i) (calls d j);
    nested = λ c d i j. nested_on c d (calls c i) (calls d j);
    mail = λ m i. elim (mail m i) [ inl old ↦ mean_on m (h.mail m old) | inr new ↦ new ];
  }
