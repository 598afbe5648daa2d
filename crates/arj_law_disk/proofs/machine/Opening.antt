-- A commit begins, with the naming node's half: what its plan counts on.
use Rattle.arj_law_disk.proofs.Terms
use Terms.{List, ◌≡◌, ◌⊎◌, ℕ, Bool, true, false, cond, ◌==◌, Option, Some, None, is_some, nat_lt, refl, sym, ◌∙◌, ap, subst, inl, inr}
use Terms.{⊎_elim, Core, CanBegin, changed, IsUntold, IsPresent, HasPart, IsOver, Named, IsHeld, IsLeaving, IsWide, IsLoad, AnswerMeans}
use Terms.{Names, Office, Kept, Answer, Bound, Loaded, acted, Do, load_of, newer, written_in, State, Packed, Plan, Preparing, is_idle}
use Terms.{is_gone, open_by, decided, undecided, last, IsNew, Known, has, In, put}
use Terms.Effects
use Rattle.arj_law_disk.proofs.machine
use machine.{Keeps.effect_keeps, Restarts.written_known}
use machine.Base.{put_cases, put_true, put_rises, put_other, put_same, test_cases, test_not, never, falls_to}
use Rattle.arj_law_disk.specs.machine.Guards.{MayBegin}

-- the newer of two known states is known
newer_known : (S : State) (t : ℕ) (g : Packed) → Known S g → Known S (load_of S t g)
newer_known S t g k = by (written_in S.root (S.root t) S.tops) refl
  where
    by : (o : Option Packed) → written_in S.root (S.root t) S.tops ≡ o → Known S (newer g o)
    by None e = k
    by (Some x) e = at (nat_lt g.version x.version)
      where
        at : (b : Bool) → Known S (cond b x g)
        at true = inl (written_known S.root (S.root t) S.first S.tops x e)
        at false = k

-- a commit's beginning is allowed, as an effect
pub can_begin : (A : Office) (t : ℕ) (p : Plan) → MayBegin A t p → Named A → CanBegin A.world.disk t p
can_begin A t p may c = record {
  idle = may.idle;
  root = may.root;
  loaded = λ s j. let y = may.loaded s j in
      subst (Known A.world.disk) (sym y.4) (newer_known A.world.disk t y.1 (c.answers (Loaded t y.0 y.1) y.2).2);
}

pub begun_named : (A : Office) (t : ℕ) (p : Plan) → MayBegin A t p → Named A → Named (acted A (Do (Effects.Begin t p)))
begun_named A t p may c = record {
  whole = effect_keeps A.world (Effects.Begin t p) (can_begin A t p may c) c.whole;
  roots = record {
    serial = c.roots.serial;
    plain = c.roots.plain;
    idem = c.roots.idem;
    tops = λ x b. ⊎_elim (λ (e : x ≡ t). ap S.serial e ∙ may.top) (λ (o : S.begun x ≡ true). c.roots.tops x o) (put_true t S.begun x b);
    one = λ x z ux uz e. one x z (und x ux) (und z uz) e;
  };
  rows = record {
    apart = c.rows.apart;
    alone = c.rows.alone;
    dead = c.rows.dead;
    given = λ x g. let y = c.rows.given x g in (y.0, put_rises t S.begun x y.1, y.2);
    guard = c.rows.guard;
    adds = c.rows.adds;
    out = λ h s e d j.
        c.rows.out h s e d (subst (λ (q : Plan). has s q.joins ≡ true) (put_other t p S.plan h.top (other h.top (core.fresh.entry h e))) j);
    since = λ h s e j.
        c.rows.since h s e (subst (λ (q : Plan). has s q.joins ≡ true) (put_other t p S.plan h.top (other h.top (core.fresh.entry h e))) j);
    asked = c.rows.asked;
  };
  grants = record {
    past = c.grants.past;
    row = c.grants.row;
    root = λ r s h u. held r (c.grants.root r s h u);
    conf = c.grants.conf;
    part = λ x y q. c.grants.part x y (subst HasPart (put_other t p S.plan x (other x (taken_begun x y))) q);
    yes = λ x h. let y = c.grants.yes x h in (put_rises t S.begun x y.0, λ u. y.1 (old x y.0 u));
    listed = c.grants.listed;
    acked = c.grants.acked;
    told = λ x h. let y = c.grants.told x h in
        (gone x y.0, falls_to (undecided V x) (λ u. never (same x (gone_other x y.0) u) y.1), λ s. over x (y.2 s));
  };
  lists = record {
    had = c.lists.had;
    kept = λ h k e q u.
        ⊎_elim (λ (o : IsOver S (S.root h)). inl (over (S.root h) o)) (λ (w : IsWide S (S.root h) k.list). inr w) (c.lists.kept h k e q u);
    plan = λ x u w. plan x (und x u) w;
    light = λ x s l u q j. c.lists.light x s l (old x (core.fresh.light x l) u) q
        (subst (λ (y : Plan). has s y.joins ≡ true) (put_other t p S.plan x (other x (core.fresh.light x l))) j);
  };
  answers = λ a m. answer a (c.answers a m);
  plans = record {
    writer = λ x w b. put_cases (λ (q : Plan). q.writes ≡ Some w → (w.writer ≡ x) × IsNew S x) t p S.plan x
        (λ e h. let y = may.writer w h in (y.0 ∙ sym e, λ g i f. y.1 g i (f ∙ e)))
        (λ e h. c.plans.writer x w (begun_old x e b) h);
    asked = λ x s b. put_cases (λ (q : Plan). has s q.joins ≡ true →
        (i : ℕ) × (N.had x i ≡ true) × (i ≡ N.inc → IsUntold S N x → N.asked x ≡ true)) t p S.plan x
        (λ e j. let y = may.loaded s j in (
          y.0,
          ap (λ n. N.had n y.0) e ∙ y.3,
          λ f u. ap N.asked e ∙ ((c.answers (Loaded t y.0 y.1) y.2).3 (ap is_idle may.idle) f (subst (IsUntold S N) e u)).0,
        ))
        (λ e j. c.plans.asked x s (begun_old x e b) j);
    loaded = λ x s u j q. loaded x s (und x u) j q;
  };
}
  where
    S : State
    S = A.world.disk

    N : Names
    N = A.names

    V : State
    V = changed S (Effects.Begin t p)

    core : Core S
    core = c.whole.core

    taken_begun : (x : ℕ) → (S.conf x ≡ true) ⊎ (S.light x ≡ true) → S.begun x ≡ true
    taken_begun x (inl h) = core.fresh.conf x h
    taken_begun x (inr h) = core.fresh.light x h

    other : (x : ℕ) → S.begun x ≡ true → (x == t) ≡ false
    other x b = test_not x t (λ e. never (ap is_idle (ap S.stage e ∙ may.idle)) (core.fresh.begun x b))

    gone_other : (x : ℕ) → is_gone (S.stage x) ≡ true → (x == t) ≡ false
    gone_other x g = test_not x t (λ e. never g (ap is_gone (ap S.stage e ∙ may.idle)))

    gone : (x : ℕ) → is_gone (S.stage x) ≡ true → is_gone (V.stage x) ≡ true
    gone x g = subst (λ y. is_gone y ≡ true) (sym (put_other t Preparing S.stage x (gone_other x g))) g

    begun_old : (x : ℕ) → (x == t) ≡ false → put t true S.begun x ≡ true → S.begun x ≡ true
    begun_old x e b = sym (put_other t true S.begun x e) ∙ b

    same : (x : ℕ) → (x == t) ≡ false → undecided V x ≡ true → undecided S x ≡ true
    same x e u = subst (λ y. open_by (decided S x) y (S.intent x) ≡ true) (put_other t Preparing S.stage x e) u

    old : (x : ℕ) → S.begun x ≡ true → undecided V x ≡ true → undecided S x ≡ true
    old x b u = same x (other x b) u

    und : (x : ℕ) → undecided V x ≡ true → (x ≡ t) ⊎ (((x == t) ≡ false) × (undecided S x ≡ true))
    und x u = ⊎_elim (λ (e : x ≡ t). inl e) (λ (e : (x == t) ≡ false). inr (e, same x e u)) (test_cases x t)

    -- nobody else of the root is open
    first : (x : ℕ) → undecided S x ≡ true → S.root x ≡ S.root t → ⊥
    first x u e = never u (may.first x e)

    one : (x z : ℕ) → (x ≡ t) ⊎ (((x == t) ≡ false) × (undecided S x ≡ true)) → (z ≡ t) ⊎ (((z == t) ≡ false) × (undecided S z ≡ true)) →
        S.root x ≡ S.root z → x ≡ z
    one x z (inl e) (inl f) r = e ∙ sym f
    one x z (inl e) (inr f) r = absurd (first z f.1 (sym r ∙ ap S.root e))
    one x z (inr e) (inl f) r = absurd (first x e.1 (r ∙ ap S.root f))
    one x z (inr e) (inr f) r = c.roots.one x z e.1 f.1 r

    over : (r : ℕ) → IsOver S r → IsOver V r
    over r o = (gone r o.0, λ z e. falls_to (undecided V z) (λ u. by z e (und z u)))
      where
        by : (z : ℕ) → S.root z ≡ r → (z ≡ t) ⊎ (((z == t) ≡ false) × (undecided S z ≡ true)) → ⊥
        by z e (inl f) = never o.0 (ap (λ n. is_gone (S.stage n)) (sym e ∙ ap S.root f) ∙ may.root)
        by z e (inr f) = never f.1 (o.1 z e)

    held : (r : ℕ) → IsHeld S N r → IsHeld V N r
    held r (inl o) = inl (over r o)
    held r (inr (inl x)) = inr (inl x)
    held r (inr (inr x)) = inr (inr x)

    untold : (x : ℕ) → is_gone (S.stage x) ≡ false → N.told x ≡ false
    untold x n = falls_to (N.told x) (λ y. never (c.grants.told x y).0 n)

    untold_t : IsUntold S N t
    untold_t = (untold t (ap is_gone may.idle), untold (S.root t) may.root)

    not_over : IsOver S (S.root t) → ⊥
    not_over o = never o.0 may.root

    Listing : ℕ → Plan → Type 0
    Listing x q = (i : ℕ) × ((N.had x i ≡ true) ⊎ (N.had (S.root x) i ≡ true)) × (IsPresent S N x → IsWide S (S.root x) q.list)

    -- a list with more stores is as wide
    wider : (l : List ℕ) → ((s : ℕ) → has s l ≡ true → has s p.list ≡ true) → IsWide S (S.root t) l → IsWide S (S.root t) p.list
    wider l more w s i =
        ⊎_elim (λ (y : has s l ≡ true). inl (more s y)) (λ (y : IsLeaving S.root (decided S) S.entry_pend (S.root t) s). inr y) (w s i)

    mine : is_some p.writes ≡ true →
        (i : ℕ) × ((N.had t i ≡ true) ⊎ (N.had (S.root t) i ≡ true)) × (IsPresent S N t → IsWide S (S.root t) p.list)
    mine w = let y = may.list w in (y.0, y.1, λ q. (by (y.2 q)).2 q)
      where
        by : (h : ℕ) × ((h ≡ t) ⊎ (h ≡ S.root t)) × (k : Kept) × (N.kept h ≡ Some k) × ((s : ℕ) → has s k.list ≡ true → has s p.list
            ≡ true) → (i : ℕ) × ((N.had t i ≡ true) ⊎ (N.had (S.root t) i ≡ true)) × (IsPresent S N t → IsWide S (S.root t) p.list)
        by (h, inl e, k, kept, is) = (
          k.since,
          inl (ap (λ n. N.had n k.since) (sym e) ∙ c.lists.had h k kept),
          λ q.
              ⊎_elim (λ (o : IsOver S (S.root h)). absurd (not_over (subst (λ n. IsOver S (S.root n)) e o)))
              (λ (wide : IsWide S (S.root h) k.list). wider k.list is (subst (λ n. IsWide S (S.root n) k.list) e wide))
              (c.lists.kept h k kept (subst (IsPresent S N) (sym e) q) (subst (IsUntold S N) (sym e) untold_t)),
        )
        by (h, inr e, k, kept, is) = (
          k.since,
          inr (ap (λ n. N.had n k.since) (sym e) ∙ c.lists.had h k kept),
          λ q.
              ⊎_elim (λ (o : IsOver S (S.root h)). absurd (not_over (subst (IsOver S) (root_of) o)))
              (λ (wide : IsWide S (S.root h) k.list). wider k.list is (subst (λ n. IsWide S n k.list) root_of wide))
              (c.lists.kept h k kept (present q) (ap N.told e ∙ untold_t.1, ap N.told root_of ∙ untold_t.1)),
        )
          where
            root_of : S.root h ≡ S.root t
            root_of = ap S.root e ∙ c.roots.idem t

            present : IsPresent S N t → IsPresent S N h
            present q i (inl y) = q i (inr (ap (λ n. N.had n i) (sym e) ∙ y))
            present q i (inr y) = q i (inr (ap (λ n. N.had n i) (sym root_of) ∙ y))

    plan : (x : ℕ) → (x ≡ t) ⊎ (((x == t) ≡ false) × (undecided S x ≡ true)) → is_some (V.plan x).writes ≡ true →
        (i : ℕ) × ((N.had x i ≡ true) ⊎ (N.had (S.root x) i ≡ true)) × (IsPresent S N x → IsWide S (S.root x) (V.plan x).list)
    plan x (inl e) w = subst (Listing x) (sym (ap V.plan e ∙ put_same t p S.plan))
        (subst (λ n. (i : ℕ) × ((N.had n i ≡ true) ⊎ (N.had (S.root n) i ≡ true)) × (IsPresent S N n → IsWide S (S.root n) p.list)) (sym e)
        (mine (subst (λ (q : Plan). is_some q.writes ≡ true) (ap V.plan e ∙ put_same t p S.plan) w)))
    plan x (inr f) w = subst (Listing x) (sym (put_other t p S.plan x f.0))
        (c.lists.plan x f.1 (subst (λ (q : Plan). is_some q.writes ≡ true) (put_other t p S.plan x f.0) w))

    answer : (a : Answer) → AnswerMeans S N a → AnswerMeans V N a
    answer (Bound x i b l) y = (y.0, y.1, λ q. y.2 (idle x q))
      where
        idle : (x : ℕ) → is_idle (V.stage x) ≡ true → is_idle (S.stage x) ≡ true
        idle x = put_cases (λ g. is_idle g ≡ true → is_idle (S.stage x) ≡ true) t Preparing S.stage x (λ e h. let n : false ≡ true = h in
            cc) (λ e h. h)
    answer (Loaded x i g) y =
        (y.0, y.1, y.2, λ q e u. let z = y.3 (idle x q) e u in (z.0, (z.1.0, λ a ca ua. z.1.1 a ca (old a (core.fresh.conf a ca) ua))))
      where
        idle : (x : ℕ) → is_idle (V.stage x) ≡ true → is_idle (S.stage x) ≡ true
        idle x = put_cases (λ g. is_idle g ≡ true → is_idle (S.stage x) ≡ true) t Preparing S.stage x (λ e h. let n : false ≡ true = h in
            cc) (λ e h. h)

    loaded : (x s : ℕ) → (x ≡ t) ⊎ (((x == t) ≡ false) × (undecided S x ≡ true)) → has s (V.plan x).joins ≡ true → IsPresent S N x →
        ((V.plan x).loaded ≡ last S) × ((z : ℕ) → S.conf z ≡ true → undecided V z ≡ true → z ≡ x)
    loaded x s (inl e) j q = subst (λ (y : Plan). (y.loaded ≡ last S) × ((z : ℕ) → S.conf z ≡ true → undecided V z ≡ true → z ≡ x))
        (sym (ap V.plan e ∙ put_same t p S.plan))
        (is_last, λ z cz uz. absurd (first z (old z (core.fresh.conf z cz) uz) (load.1 z cz (old z (core.fresh.conf z cz) uz))))
      where
        from : (i : ℕ) × (g : Packed) × In (Loaded t i g) N.answers × (N.had t i ≡ true) × (p.loaded ≡ load_of S t g)
        from = may.loaded s (subst (λ (y : Plan). has s y.joins ≡ true) (ap V.plan e ∙ put_same t p S.plan) j)

        load : IsLoad S t from.1
        load = ((c.answers (Loaded t from.0 from.1) from.2).3 (ap is_idle may.idle) (q from.0 (inl (ap (λ n. N.had n from.0) e ∙ from.3)))
            untold_t).1

        is_last : p.loaded ≡ last S
        is_last = from.4 ∙ sym load.0
    loaded x s (inr f) j q = subst (λ (y : Plan). (y.loaded ≡ last S) × ((z : ℕ) → S.conf z ≡ true → undecided V z ≡ true → z ≡ x))
        (sym (put_other t p S.plan x f.0))
        (let y = c.plans.loaded x s f.1 (subst (λ (w : Plan). has s w.joins ≡ true) (put_other t p S.plan x f.0) j) q in
        (y.0, λ z cz uz. y.1 z cz (old z (core.fresh.conf z cz) uz)))
