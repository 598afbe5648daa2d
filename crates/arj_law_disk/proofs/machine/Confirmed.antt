-- Confirmations, with the naming node's half.
use Rattle.arj_law_disk.proofs.Terms
use Terms.{◌≡◌, ◌⊎◌, ℕ, List, Bool, true, false, Option, Some, None, sym, ◌∙◌, ap, subst, inl, inr, ⊎_elim, Core, changed, marked}
use Terms.{entry_hold, HasRow, IsUntold, HasPresent, IsPresent, HasPart, MayConfirm, IsOver, Confirm, Named, Grants, IsLeaving, IsWide}
use Terms.{AnswerMeans, Plans, Names, Office, Answer, Bound, Loaded, acted, Do, State, Hold, decided, undecided, target, Listed, has, put}
use Terms.Effects
use Rattle.arj_law_disk.proofs.machine
use machine.{Entries.last_listed, Keeps.effect_keeps, Kin.near, Kin.open_untold, Restarts.open_begun}
use machine.Base.{put_same, put_true, put_rises, never, never_some, falls_to}
use machine.Booking.{begun, unconfirmed, undone, clear, kin, agree_locked, enter_locked, changes_part, join_row, enter_row, enter_free}
use machine.Booking.{granted}
use machine.Confirming.{marked_cases, marked_rises, marked_now}
use machine.Listing.{list_from, entry_content, join_target}
use Rattle.arj_law_disk.specs.machine.Effects.{CanAgree, CanPass, CanEnter}
use Rattle.arj_law_disk.specs.machine.Guards.{MayAgree, MayPass, MayEnter}

module _ (A : Office) (c : Named A) (t : ℕ) (may : MayConfirm A t) (present : HasPart (A.world.disk.plan t) →
    HasPresent A.world.disk A.names t) where
  abbrev S : State
  S = A.world.disk

  abbrev N : Names
  N = A.names

  core : Core S
  core = c.whole.core

  abbrev M : Names
  M = record N { confd = put t true N.confd }

  told_open : (x : ℕ) → N.told x ≡ true → (undecided S x ≡ false) × (S.serial x ≡ true → IsOver S x)
  told_open x h = let y = c.grants.told x h in (y.1, y.2)

  -- who asked the write lock for an include, and works or is in its commit, shares a root with it
  same_root : HasPart (S.plan t) → undecided S t ≡ true → (x : ℕ) → N.asked x ≡ true → IsUntold S N x → S.root x ≡ S.root t
  same_root part u x asked untold = near S N c.roots c.rows (S.root t) x (kin A c t may present part u) (c.rows.asked x asked untold)

  -- grants with one more confirmed
  grants_conf : (conf light : ℕ → Bool) → ((x : ℕ) → (conf x ≡ true) ⊎ (light x ≡ true) → ((S.conf x ≡ true) ⊎ (S.light x ≡ true))
      ⊎ ((x ≡ t) × (undecided S t ≡ true))) → ((x : ℕ) → (S.conf x ≡ true) ⊎ (S.light x ≡ true) → (conf x ≡ true) ⊎ (light x ≡ true))
      → (undecided S t ≡ true → (conf t ≡ true) ⊎ (light t ≡ true)) → (o : Option Hold) →
      Grants (record S { conf = conf; light = light; entry_pend = o }) M A.world.sent
  grants_conf conf light from rises now o = record {
    past = c.grants.past;
    row = c.grants.row;
    root = c.grants.root;
    conf = λ x y h. ⊎_elim (λ (z : (S.conf x ≡ true) ⊎ (S.light x ≡ true)). put_rises t N.confd x (c.grants.conf x z h))
        (λ (z : (x ≡ t) × (undecided S t ≡ true)). ap M.confd z.0 ∙ put_same t true N.confd) (from x y);
    part = λ x y p. ⊎_elim
        (λ (z : (S.conf x ≡ true) ⊎ (S.light x ≡ true)). let w = c.grants.part x z p in (w.0, w.1, λ e. put_rises t N.confd x (w.2 e)))
        (λ (z : (x ≡ t) × (undecided S t ≡ true)). (
          N.inc,
          subst (λ n. (N.had n N.inc ≡ true) ⊎ (N.had (S.root n) N.inc ≡ true)) (sym z.0)
              (granted A c t may present (subst (λ n. HasPart (S.plan n)) z.0 p) z.1),
          λ e. ap M.confd z.0 ∙ put_same t true N.confd,
        ))
        (from x y);
    yes = λ x h. ⊎_elim
        (λ (e : x ≡ t). subst (λ n. (S.begun n ≡ true) × (undecided S n ≡ true → (conf n ≡ true) ⊎ (light n ≡ true))) (sym e)
        (begun A c t may present, now))
        (λ (y : N.confd x ≡ true). let z = c.grants.yes x y in (z.0, λ u. rises x (z.1 u)))
        (put_true t N.confd x h);
    listed = c.grants.listed;
    acked = c.grants.acked;
    told = c.grants.told;
  }

  -- answers and plans with one more that counts
  answer_conf : HasPart (S.plan t) → (o : Option Hold) →
      ((r : ℕ) (l : List ℕ) → IsWide S r l → IsWide (record S { conf = marked S t S.conf; entry_pend = o }) r l) → (a : Answer) →
      AnswerMeans S N a → AnswerMeans (record S { conf = marked S t S.conf; entry_pend = o }) M a
  answer_conf part o wider (Bound x i b l) y = (y.0, y.1, λ q e u. let z = y.2 q e u in (z.0, z.1, wider (S.root x) l z.2, z.3))
  answer_conf part o wider (Loaded x i g) y = (
    y.0,
    y.1,
    y.2,
    λ q e u.
        let z = y.3 q e u in (
          z.0,
          (
            z.1.0,
            λ a ca ua. ⊎_elim (λ (k : S.conf a ≡ true). z.1.1 a k ua)
                (λ (k : (a ≡ t) × (undecided S t ≡ true)). ap S.root k.0 ∙ sym (same_root part k.1 x z.0 u)) (marked_cases S t S.conf a ca),
          ),
        ),
  )

  plans_conf : HasPart (S.plan t) → (o : Option Hold) → Plans (record S { conf = marked S t S.conf; entry_pend = o }) M
  plans_conf part o = record {
    writer = c.plans.writer;
    asked = c.plans.asked;
    loaded = λ x s u j p.
        let y = c.plans.loaded x s u j p in (
          y.0,
          λ z cz uz. ⊎_elim (λ (k : S.conf z ≡ true). y.1 z k uz) (λ (k : (z ≡ t) × (undecided S t ≡ true)). k.0 ∙ sym (own x s u j p k.1))
              (marked_cases S t S.conf z cz),
        );
  }
    where
      own : (x s : ℕ) → undecided S x ≡ true → has s (S.plan x).joins ≡ true → IsPresent S N x → undecided S t ≡ true → x ≡ t
      own x s u j p ut =
          let a = c.plans.asked x s (open_begun S core x u) j in
          let untold = open_untold S N c.roots told_open x u in
          c.roots.one x t u ut (same_root part ut x (a.2 (p a.0 (inl a.1)) untold) untold)

-- each confirmation is allowed, as an effect
pub can_agree : (A : Office) (t : ℕ) → MayAgree A t → Named A → CanAgree A.world t
can_agree A t may c = record {
  asked = may.confirm.asked;
  writes = may.writes;
  same = may.same;
  unlisted = may.confirm.unlisted;
  clear = clear A c t may.confirm (λ p. may.present);
  locked = agree_locked A c t may.confirm (λ p. may.present) may.writes may.same may.next;
}

pub can_pass : (A : Office) (t : ℕ) → MayPass A t → Named A → CanPass A.world t
can_pass A t may c = record {
  asked = may.confirm.asked;
  plain = may.plain;
  none = may.none;
  unlisted = may.idle;
  clear = clear A c t may.confirm may.present;
  unconfirmed = λ u. falls_to (A.world.disk.conf t) (λ h. let x = (c.whole.core.covered.plain t h u may.plain).0 in
      unconfirmed A c t may.confirm may.present (inr (x.0, x.1)) (inl h));
}

pub can_enter : (A : Office) (t : ℕ) → MayEnter A t → Named A → CanEnter A.world t
can_enter A t may c =
    let part = changes_part A c t may.confirm (λ p. may.present) may.other in
    let free = enter_free A c t may.confirm (λ p. may.present) may.other in
    record {
      asked = may.confirm.asked;
      free = free;
      other = may.other;
      stores = may.stores;
      undone = undone A c t may.confirm (λ p. may.present) part;
      unlisted = may.confirm.unlisted;
      locked = enter_locked A c t may.confirm (λ p. may.present) free part may.stores may.next;
    }

pub agreed_named : (A : Office) (t : ℕ) → MayAgree A t → Named A → Named (acted A (Do (Effects.Agree t)))
agreed_named A t may c = record {
  whole = effect_keeps A.world (Effects.Agree t) (can_agree A t may c) c.whole;
  roots = c.roots;
  rows = record {
    apart = c.rows.apart;
    alone = c.rows.alone;
    dead = c.rows.dead;
    given = c.rows.given;
    guard = λ h p. let y = c.rows.guard h p in (y.0, y.1, put_rises t A.names.confd h.top y.2);
    adds = c.rows.adds;
    out = c.rows.out;
    since = c.rows.since;
    asked = c.rows.asked;
  };
  grants = grants_conf A c t may.confirm here (marked V t V.conf) V.light from rises now V.entry_pend;
  lists = c.lists;
  answers = λ a m. answer_conf A c t may.confirm here part V.entry_pend (λ r l w. w) a (c.answers a m);
  plans = plans_conf A c t may.confirm here part V.entry_pend;
}
  where
    V : State
    V = A.world.disk

    part : HasPart (V.plan t)
    part = inl may.writes

    here : HasPart (V.plan t) → HasPresent V A.names t
    here p = may.present

    from : (x : ℕ) → (marked V t V.conf x ≡ true) ⊎ (V.light x ≡ true) →
        ((V.conf x ≡ true) ⊎ (V.light x ≡ true)) ⊎ ((x ≡ t) × (undecided V t ≡ true))
    from x (inl h) =
        ⊎_elim (λ (y : V.conf x ≡ true). inl (inl y)) (λ (y : (x ≡ t) × (undecided V t ≡ true)). inr y) (marked_cases V t V.conf x h)
    from x (inr h) = inl (inr h)

    rises : (x : ℕ) → (V.conf x ≡ true) ⊎ (V.light x ≡ true) → (marked V t V.conf x ≡ true) ⊎ (V.light x ≡ true)
    rises x (inl h) = inl (marked_rises V t V.conf x h)
    rises x (inr h) = inr h

    now : undecided V t ≡ true → (marked V t V.conf t ≡ true) ⊎ (V.light t ≡ true)
    now u = inl (marked_now V t V.conf u)

pub entered_named : (A : Office) (t : ℕ) → MayEnter A t → Named A → Named (acted A (Do (Effects.Enter t)))
entered_named A t may c = record {
  whole = effect_keeps A.world (Effects.Enter t) (can_enter A t may c) c.whole;
  roots = c.roots;
  rows = record {
    apart = c.rows.apart;
    alone = c.rows.alone;
    dead = c.rows.dead;
    given = c.rows.given;
    guard = λ h e. subst (λ (x : Hold). HasRow A.names x.top 1 × (A.names.told x.top ≡ false) × (put t true A.names.confd x.top ≡ true))
        (is h e) (enter_row A c t may.confirm here may.other, may.confirm.untold.0, put_same t true A.names.confd);
    adds = λ h s e i n. subst (λ (x : Hold). HasRow A.names x.top 2) (is h e)
        (adds s (subst (λ (x : Hold). has s x.new.content ≡ true) (sym (is h e)) i) n);
    out = λ h s e d j g. may.confirm.unlisted s (subst (λ (x : Hold). has s (V.plan x.top).joins ≡ true) (sym (is h e)) j)
        (subst (λ (x : Hold). V.got x.top s ≡ true) (sym (is h e)) g);
    since = λ h s e j. inr (subst (λ (x : Hold). HasRow A.names x.top 2) (is h e)
        (since s (subst (λ (x : Hold). has s (V.plan x.top).joins ≡ true) (sym (is h e)) j)));
    asked = c.rows.asked;
  };
  grants = grants_conf A c t may.confirm here (marked V t V.conf) V.light from rises now (Some (entry_hold V t));
  lists = record {
    had = c.lists.had;
    kept = λ h k e p u. ⊎_elim (λ (o : IsOver V (V.root h)). inl o) (λ (w : IsWide V (V.root h) k.list). inr (wider (V.root h) k.list w))
        (c.lists.kept h k e p u);
    plan = λ x u w. let y = c.lists.plan x u w in (y.0, y.1, λ p. wider (V.root x) (V.plan x).list (y.2 p));
    light = c.lists.light;
  };
  answers = λ a m. answer_conf A c t may.confirm here part (Some (entry_hold V t)) wider a (c.answers a m);
  plans = plans_conf A c t may.confirm here part (Some (entry_hold V t));
}
  where
    V : State
    V = A.world.disk

    here : HasPart (V.plan t) → HasPresent V A.names t
    here p = may.present

    -- with a store that it includes it has the write lock
    since : (s : ℕ) → has s (V.plan t).joins ≡ true → HasRow A.names t 2
    since s j = let a = c.plans.asked t s (c.whole.mail (Confirm t) may.confirm.asked).0 j in
        c.rows.asked t (a.2 (may.present.own a.0 a.1) may.confirm.untold) may.confirm.untold

    free : V.entry_pend ≡ None
    free = enter_free A c t may.confirm here may.other

    part : HasPart (V.plan t)
    part = changes_part A c t may.confirm here may.other

    is : (h : Hold) → ◌≡◌ {A = Option Hold} (Some (entry_hold V t)) (Some h) → entry_hold V t ≡ h
    is h e = cc

    adds : (s : ℕ) → has s (entry_hold V t).new.content ≡ true → has s V.entry.content ≡ false → HasRow A.names t 2
    adds s i n = ⊎_elim
        (λ (x : (has s V.entry.content ≡ true) × (target (V.plan t) s ≡ true → V.got t s ≡ true)). absurd (never x.0 n))
        (λ (x : (has s (V.plan t).joins ≡ true) × (V.got t s ≡ true)). join_row A c t may.confirm here s x.0)
        (list_from (V.plan t) (V.got t) V.entry.content s (subst (λ l. has s l ≡ true) (entry_content t (V.plan t) (V.got t) V.entry) i))

    wider : (r : ℕ) (l : List ℕ) → IsWide V r l → IsWide (record V { conf = marked V t V.conf; entry_pend = Some (entry_hold V t) }) r l
    wider r l w s i = ⊎_elim (λ (y : has s l ≡ true). inl y)
        (λ (y : IsLeaving V.root (decided V) V.entry_pend r s). absurd (never_some y.there free)) (w s i)

    from : (x : ℕ) → (marked V t V.conf x ≡ true) ⊎ (V.light x ≡ true) →
        ((V.conf x ≡ true) ⊎ (V.light x ≡ true)) ⊎ ((x ≡ t) × (undecided V t ≡ true))
    from x (inl h) =
        ⊎_elim (λ (y : V.conf x ≡ true). inl (inl y)) (λ (y : (x ≡ t) × (undecided V t ≡ true)). inr y) (marked_cases V t V.conf x h)
    from x (inr h) = inl (inr h)

    rises : (x : ℕ) → (V.conf x ≡ true) ⊎ (V.light x ≡ true) → (marked V t V.conf x ≡ true) ⊎ (V.light x ≡ true)
    rises x (inl h) = inl (marked_rises V t V.conf x h)
    rises x (inr h) = inr h

    now : undecided V t ≡ true → (marked V t V.conf t ≡ true) ⊎ (V.light t ≡ true)
    now u = inl (marked_now V t V.conf u)

pub passed_named : (A : Office) (t : ℕ) → MayPass A t → Named A → Named (acted A (Do (Effects.Pass t)))
passed_named A t may c = record {
  whole = effect_keeps A.world (Effects.Pass t) (can_pass A t may c) c.whole;
  roots = c.roots;
  rows = record {
    apart = c.rows.apart;
    alone = c.rows.alone;
    dead = c.rows.dead;
    given = c.rows.given;
    guard = λ h p. let y = c.rows.guard h p in (y.0, y.1, put_rises t A.names.confd h.top y.2);
    adds = c.rows.adds;
    out = c.rows.out;
    since = c.rows.since;
    asked = c.rows.asked;
  };
  grants = grants_conf A c t may.confirm may.present V.conf (marked V t V.light) from rises now V.entry_pend;
  lists = record {
    had = c.lists.had;
    kept = c.lists.kept;
    plan = c.lists.plan;
    light = λ x s l u p j i. ⊎_elim
        (λ (o : V.light x ≡ true). c.lists.light x s o u p j i)
        (λ (n : (x ≡ t) × (undecided V t ≡ true)). unlisted s (subst (λ y. has s (V.plan y).joins ≡ true) n.0 j) i)
        (marked_cases V t V.light x l);
  };
  answers = λ a m. answer a (c.answers a m);
  plans = record { writer = c.plans.writer; asked = c.plans.asked; loaded = c.plans.loaded };
}
  where
    V : State
    V = A.world.disk

    -- what it marks isn't listed
    unlisted : (s : ℕ) → has s (V.plan t).joins ≡ true → Listed V s → ⊥
    unlisted s j (inl i) = never i (may.idle s j)
    unlisted s j (inr i) = ⊎_elim
        (λ (e : has s V.entry.content ≡ true). never e (may.idle s j))
        (λ (x : (h : Hold) × (V.entry_pend ≡ Some h) × (decided V h.top ≡ true) × (has s h.new.content ≡ true)).
        never (clear A c t may.confirm may.present x.0 s x.1 x.3 (join_target (V.plan t) s j)) (may.none s))
        (last_listed V s c.whole.core i)

    from : (x : ℕ) → (V.conf x ≡ true) ⊎ (marked V t V.light x ≡ true) →
        ((V.conf x ≡ true) ⊎ (V.light x ≡ true)) ⊎ ((x ≡ t) × (undecided V t ≡ true))
    from x (inl h) = inl (inl h)
    from x (inr h) =
        ⊎_elim (λ (y : V.light x ≡ true). inl (inr y)) (λ (y : (x ≡ t) × (undecided V t ≡ true)). inr y) (marked_cases V t V.light x h)

    rises : (x : ℕ) → (V.conf x ≡ true) ⊎ (V.light x ≡ true) → (V.conf x ≡ true) ⊎ (marked V t V.light x ≡ true)
    rises x (inl h) = inl h
    rises x (inr h) = inr (marked_rises V t V.light x h)

    now : undecided V t ≡ true → (V.conf t ≡ true) ⊎ (marked V t V.light t ≡ true)
    now u = inr (marked_now V t V.light u)

    answer : (a : Answer) → AnswerMeans V A.names a → AnswerMeans (changed V (Effects.Pass t)) (acted A (Do (Effects.Pass t))).names a
    answer (Bound x i b l) y = y
    answer (Loaded x i g) y = y
