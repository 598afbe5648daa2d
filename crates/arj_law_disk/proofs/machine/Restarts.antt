-- A restart of the naming node, and what coordinators take from its answers.
use Rattle.arj_law_disk.proofs.Terms
use Terms.{◌≡◌, ◌⊎◌, ℕ, ◌+◌, ◌≤◌, List, [], ◌∷◌, Bool, true, false, cond, ◌==◌, not, Option, Some, None, is_some, nat_lt, refl, sym, ◌∙◌}
use Terms.{ap, subst, inl, inr, ⊎_elim, arith, le_refl, ◌<◌, filter, Core, HasRow, IsUntold, IsPresent, Acked, IsOver, Named, IsHeld}
use Terms.{IsWide, IsLoad, AnswerMeans, IsLeaving, Names, Office, Kept, Answer, Bound, Loaded, acted, newer, written_in, or_else, load_of}
use Terms.{State, Packed, Hold, Done, naming, is_idle, is_gone, is_open, decided, undecided, last, last_entry, KnownIn, Below, IsExcused}
use Terms.{Listed, has, In, put, put2}
use Rattle.arj_law_disk.proofs.machine
use machine.{History.known_last, History.effective_none, Kin.one_top, Listing.has_filtered, Locks.some_nat, Locks.less_cases}
use machine.Base.{put_cases, put_other, put2_true, put2_rises, test_cases, test_is, test_same, differs, never, never_some, some_is, or_left}
use machine.Base.{or_right, or_cases, open_parts, falls_to, not_false}
use Rattle.arj_law_disk.specs.machine.Guards.{MayRestart, MayHear, MayKeepList, MayAnswerLoad}
use Rattle.arj_law_disk.specs.machine.Names.{given_mode, given_row, is_pending, Restart, Hear, KeepList, AnswerLoad, narrowed}
use Rattle.std.proofs.Common.{if◌then◌else◌}
use Rattle.std.specs.List.{list_any}

-- a top whose outcome is open has begun
pub open_begun : (S : State) → Core S → (t : ℕ) → undecided S t ≡ true → S.begun t ≡ true
open_begun S c t u = ⊎_elim
    (λ (o : is_open (S.stage t) ≡ true). c.fresh.open_begun t o)
    (λ (r : is_some (S.intent t) ≡ true).
    ⊎_elim (λ (h : S.conf t ≡ true). c.fresh.conf t h) (λ (h : S.light t ≡ true). c.fresh.light t h) (c.coordinators.record_taken t r))
    (open_parts (decided S t) (S.stage t) (S.intent t) u)

pending_is : (o : Option Hold) (t : ℕ) → is_pending o t ≡ true → (p : Hold) × (o ≡ Some p) × (t ≡ p.top)
pending_is None t h = let n : false ≡ true = h in cc
pending_is (Some p) t h = (p, refl, test_is t p.top h)

given_is : (entry : Packed) (o : Option Hold) (h a : ℕ) → given_row entry o h ≡ Some a →
    (p : Hold) × (o ≡ Some p) × (h ≡ p.top) × (a ≡ given_mode entry p)
given_is entry None h a e = let n : ◌≡◌ {A = Option ℕ} None (Some a) = e in cc
given_is entry (Some p) h a e = by (h == p.top) refl e
  where
    by : (b : Bool) → (h == p.top) ≡ b → cond b (Some (given_mode entry p)) None ≡ Some a →
        (q : Hold) × (◌≡◌ {A = Option Hold} (Some p) (Some q)) × (h ≡ q.top) × (a ≡ given_mode entry q)
    by true t e = (p, refl, test_is h p.top t, sym (some_nat e))
    by false t e = let n : ◌≡◌ {A = Option ℕ} None (Some a) = e in cc

given_has : (entry : Packed) (o : Option Hold) (p : Hold) → o ≡ Some p → given_row entry o p.top ≡ Some (given_mode entry p)
given_has entry o p e = subst (λ x. given_row entry x p.top ≡ Some (given_mode entry p)) (sym e)
    (ap (λ b. cond b (Some (given_mode entry p)) None) (test_same p.top))

any_true : (f : ℕ → Bool) (l : List ℕ) (s : ℕ) → has s l ≡ true → f s ≡ true → list_any f l ≡ true
any_true f [] s h p = h
any_true f (x ∷ l) s h p = ⊎_elim
    (λ (e : (x == s) ≡ true). or_left (f x) (list_any f l) (ap f (test_is x s e) ∙ p))
    (λ (e : has s l ≡ true). or_right (f x) (list_any f l) (any_true f l s e p))
    (or_cases (x == s) (has s l) h)

mode_low : (entry : Packed) (p : Hold) → 1 ≤ given_mode entry p
mode_low entry p = by (list_any (λ s. not (has s entry.content)) p.new.content)
  where
    by : (b : Bool) → 1 ≤ cond b 2 1
    by true = omega arith
    by false = le_refl 1

mode_adds : (entry : Packed) (p : Hold) (s : ℕ) → has s p.new.content ≡ true → has s entry.content ≡ false → 2 ≤ given_mode entry p
mode_adds entry p s i n = subst (λ b. 2 ≤ cond b 2 1)
    (sym (any_true (λ x. not (has x entry.content)) p.new.content s i (not_false (has s entry.content) n))) (le_refl 2)

pub restart_named : (A : Office) (yes_again : ℕ → Bool) → MayRestart A yes_again → Named A → Named (acted A (Restart yes_again))
restart_named A yes_again may c = record {
  whole = c.whole;
  roots = c.roots;
  rows = record {
    apart = λ h k m n p q less. let x = given_is S.entry S.entry_pend h m p in let y = given_is S.entry S.entry_pend k n q in
        inl (x.2 ∙ (ap (λ (z : Hold). z.top) (some_is x.1 y.1) ∙ sym y.2));
    alone = λ t h m g p. let x = given_is S.entry S.entry_pend h m p in let y = pending_is S.entry_pend t g in
        x.2 ∙ (ap (λ (z : Hold). z.top) (some_is x.1 y.1) ∙ sym y.2);
    dead = λ t g. refl;
    given = λ t g. let y = pending_is S.entry_pend t g in (
      subst (λ n. HasRow M n 1) (sym y.2) (row y.0 1 y.1 (mode_low S.entry y.0)),
      ap S.begun y.2 ∙ core.fresh.entry y.0 y.1,
      falls_to (N.had t (N.inc + 1)) (λ h. past t (N.inc + 1) h refl),
    );
    guard = λ h p. (row h 1 p (mode_low S.entry h), refl, may.pending h p);
    adds = λ h s p i n. row h 2 p (mode_adds S.entry h s i n);
    out = c.rows.out;
    since = λ h s p j. inl (subst (λ o. is_pending o h.top ≡ true) (sym p) (test_same h.top));
    asked = λ t a. let n : false ≡ true = a in cc;
  };
  grants = record {
    past = λ t i h. omega (arith, c.grants.past t i h);
    row = λ t s h. absurd (past t (N.inc + 1) h refl);
    root = λ r s h. absurd (past r (N.inc + 1) h refl);
    conf = λ t x h. absurd (past t (N.inc + 1) h refl);
    part = λ t x p. let y = c.grants.part t x p in (y.0, y.1, λ e. absurd (had_past t y.0 y.1 e));
    yes = λ t h. may.taken t h;
    listed = λ t d h. absurd (past t (N.inc + 1) h refl);
    acked = λ t m. inr (falls_to (N.had t (N.inc + 1)) (λ h. past t (N.inc + 1) h refl));
    told = λ t h. let n : false ≡ true = h in cc;
  };
  lists = record {
    had = c.lists.had;
    kept = λ h k e p. absurd (past h k.since (c.lists.had h k e) (p k.since (inl (c.lists.had h k e))));
    plan = λ t u w. let y = c.lists.plan t u w in (y.0, y.1, λ p. absurd (had_past t y.0 y.1 (p y.0 y.1)));
    light = λ t s l u p j. let y = c.grants.part t (inr l) (inr (s, j)) in absurd (had_past t y.0 y.1 (p y.0 y.1));
  };
  answers = λ a i. answer a (c.answers a i);
  plans = record {
    writer = c.plans.writer;
    asked = λ t s b j. let y = c.plans.asked t s b j in (y.0, y.1, λ e. absurd (past t y.0 y.1 e));
    loaded = λ t s u j p. let y = c.plans.asked t s (open_begun S core t u) j in absurd (past t y.0 y.1 (p y.0 (inl y.1)));
  };
}
  where
    S : State
    S = A.world.disk

    N : Names
    N = A.names

    M : Names
    M = (acted A (Restart yes_again)).names

    core : Core S
    core = c.whole.core

    -- no grant is of the new incarnation
    past : (t i : ℕ) → N.had t i ≡ true → i ≡ N.inc + 1 → ⊥
    past t i h e = absurd (omega (arith, c.grants.past t i h, e))

    had_past : (t i : ℕ) → (N.had t i ≡ true) ⊎ (N.had (S.root t) i ≡ true) → i ≡ N.inc + 1 → ⊥
    had_past t i (inl h) e = past t i h e
    had_past t i (inr h) e = past (S.root t) i h e

    row : (h : Hold) (n : ℕ) → S.entry_pend ≡ Some h → n ≤ given_mode S.entry h → HasRow M h.top n
    row h n p low = (given_mode S.entry h, given_has S.entry S.entry_pend h p, low)

    answer : (a : Answer) → AnswerMeans S N a → AnswerMeans S M a
    answer (Bound t i b l) y = (y.0, omega (arith, y.1), λ q e. absurd (omega (arith, y.1, e)))
    answer (Loaded t i g) y = (y.0, omega (arith, y.1), y.2, λ q e. absurd (omega (arith, y.1, e)))

put2_other : (k l : ℕ) (f : ℕ → ℕ → Bool) (n m : ℕ) → (n == k) ≡ false → put2 k l true f n m ≡ f n m
put2_other k l f n m e = ap (λ g. g m) (put_other k (put l true (f k)) f n e)

pub hear_named : (A : Office) (t i : ℕ) (b : Bool) (l : List ℕ) → MayHear A t i b l → Named A → Named (acted A (Hear t i b l))
hear_named A t i b l may c = record {
  whole = c.whole;
  roots = c.roots;
  rows = record {
    apart = c.rows.apart;
    alone = c.rows.alone;
    dead = c.rows.dead;
    given = λ x g. let y = c.rows.given x g in (y.0, y.1, put2_other t i N.had x N.inc (working x (core.fresh.begun x y.1)) ∙ y.2);
    guard = c.rows.guard;
    adds = c.rows.adds;
    out = c.rows.out;
    since = c.rows.since;
    asked = c.rows.asked;
  };
  grants = record {
    past = λ x j h. ⊎_elim (λ (e : (x ≡ t) × (j ≡ i)). subst (λ n. n ≤ N.inc) (sym e.1) answered.1)
        (λ (o : N.had x j ≡ true). c.grants.past x j o) (put2_true t i N.had x j h);
    row = λ x s h u. ⊎_elim
        (λ (e : (x ≡ t) × (N.inc ≡ i)). let y = answered.2 idle (sym e.1) (subst (IsUntold S N) e.0 u) in
        (subst (λ n. HasRow N n 0) (sym e.0) y.0, ap N.given e.0 ∙ y.1))
        (λ (o : N.had x N.inc ≡ true). c.grants.row x s o u)
        (put2_true t i N.had x N.inc h);
    root = λ r s h u. ⊎_elim (λ (e : (r ≡ t) × (N.inc ≡ i)). absurd (never s (ap S.serial e.0 ∙ answered.0)))
        (λ (o : N.had r N.inc ≡ true). held r (c.grants.root r s o u)) (put2_true t i N.had r N.inc h);
    conf = λ x y h. ⊎_elim (λ (e : (x ≡ t) × (N.inc ≡ i)). absurd (differs x t (working x (taken_not_idle x y)) e.0))
        (λ (o : N.had x N.inc ≡ true). c.grants.conf x y o) (put2_true t i N.had x N.inc h);
    part = λ x y p. let z = c.grants.part x y p in (z.0, either x z.0 z.1, z.2);
    yes = c.grants.yes;
    listed = λ x d h u. ⊎_elim
        (λ (e : (x ≡ t) × (N.inc ≡ i)). absurd (differs x t (working x (taken_not_idle x (core.coordinators.decided_taken x d))) e.0))
        (λ (o : N.had x N.inc ≡ true). c.grants.listed x d o u) (put2_true t i N.had x N.inc h);
    acked = λ x m. ⊎_elim
        (λ (h : N.told x ≡ true). inl h)
        (λ (h : N.had x N.inc ≡ false). inr (put2_other t i N.had x N.inc
        (working x (taken_not_idle x (core.coordinators.decided_taken x (c.whole.mail (Acked x naming) m).0))) ∙ h))
        (c.grants.acked x m);
    told = c.grants.told;
  };
  lists = record {
    had = λ h k e. put2_rises t i N.had h k.since (c.lists.had h k e);
    kept = λ h k e p. c.lists.kept h k e (present h p);
    plan = λ x u w. let y = c.lists.plan x u w in (y.0, either x y.0 y.1, λ p. y.2 (present x p));
    light = λ x s y u p. c.lists.light x s y u (present x p);
  };
  answers = λ a m. answer a (c.answers a m);
  plans = record {
    writer = c.plans.writer;
    asked = λ x s y j. let z = c.plans.asked x s y j in (z.0, put2_rises t i N.had x z.0 z.1, z.2);
    loaded = λ x s u j p. c.plans.loaded x s u j (present x p);
  };
}
  where
    S : State
    S = A.world.disk

    N : Names
    N = A.names

    M : Names
    M = (acted A (Hear t i b l)).names

    core : Core S
    core = c.whole.core

    answered : AnswerMeans S N (Bound t i b l)
    answered = c.answers (Bound t i b l) may.answered

    idle : is_idle (S.stage t) ≡ true
    idle = ap is_idle may.idle

    working : (x : ℕ) → is_idle (S.stage x) ≡ false → (x == t) ≡ false
    working x h = ⊎_elim (λ (e : x ≡ t). absurd (never idle (ap (λ n. is_idle (S.stage n)) (sym e) ∙ h))) (λ (e : (x == t) ≡ false). e)
        (test_cases x t)

    taken_not_idle : (x : ℕ) → (S.conf x ≡ true) ⊎ (S.light x ≡ true) → is_idle (S.stage x) ≡ false
    taken_not_idle x (inl h) = core.fresh.begun x (core.fresh.conf x h)
    taken_not_idle x (inr h) = core.fresh.begun x (core.fresh.light x h)

    present : (x : ℕ) → IsPresent S M x → IsPresent S N x
    present x p j h = p j (by h)
      where
        by : (N.had x j ≡ true) ⊎ (N.had (S.root x) j ≡ true) → (M.had x j ≡ true) ⊎ (M.had (S.root x) j ≡ true)
        by (inl o) = inl (put2_rises t i N.had x j o)
        by (inr o) = inr (put2_rises t i N.had (S.root x) j o)

    either : (x j : ℕ) → (N.had x j ≡ true) ⊎ (N.had (S.root x) j ≡ true) → (M.had x j ≡ true) ⊎ (M.had (S.root x) j ≡ true)
    either x j (inl o) = inl (put2_rises t i N.had x j o)
    either x j (inr o) = inr (put2_rises t i N.had (S.root x) j o)

    held : (r : ℕ) → IsHeld S N r → IsHeld S M r
    held r (inl x) = inl x
    held r (inr (inl x)) = inr (inl x)
    held r (inr (inr (y, e, done, told, had))) = inr (inr (y, e, done, told, put2_rises t i N.had y N.inc had))

    answer : (a : Answer) → AnswerMeans S N a → AnswerMeans S M a
    answer (Bound x j d k) y = y
    answer (Loaded x j g) y = y

pub keep_list_named : (A : Office) (h t i : ℕ) (l : List ℕ) → MayKeepList A h t i l → Named A → Named (acted A (KeepList h t i l))
keep_list_named A h t i l may c = record {
  whole = c.whole;
  roots = c.roots;
  rows = c.rows;
  grants = c.grants;
  lists = record {
    had = λ x k. put_cases (λ o. o ≡ Some k → N.had x k.since ≡ true) h (Some new) N.kept x
        (λ e q. subst (λ (y : Kept). N.had x y.since ≡ true) (same q) (ap (λ n. N.had n i) e ∙ may.had)) (λ e q. c.lists.had x k q);
    kept = λ x k. put_cases (λ o. o ≡ Some k → IsPresent S N x → IsUntold S N x →
        IsOver S (S.root x) ⊎ IsWide S (S.root x) k.list) h (Some new) N.kept x
        (λ e q p u.
        ⊎_elim (λ over. inl over) (λ wide. inr (subst (λ (y : Kept). IsWide S (S.root x) y.list) (same q) wide)) (narrow x e p u))
        (λ e q. c.lists.kept x k q);
    plan = c.lists.plan;
    light = c.lists.light;
  };
  answers = λ a m. answer a (c.answers a m);
  plans = c.plans;
}
  where
    S : State
    S = A.world.disk

    N : Names
    N = A.names

    M : Names
    M = (acted A (KeepList h t i l)).names

    new : Kept
    new = record { since = i; list = narrowed i l (N.kept h) }

    same : {k : Kept} → ◌≡◌ {A = Option Kept} (Some (record { since = i; list = narrowed i l (N.kept h) })) (Some k) →
        record { since = i; list = narrowed i l (N.kept h) } ≡ k
    same e = cc

    untold : (x : ℕ) → is_gone (S.stage x) ≡ false → N.told x ≡ false
    untold x n = falls_to (N.told x) (λ y. never (c.grants.told x y).0 n)

    wide : i ≡ N.inc → N.told (S.root t) ≡ false → IsWide S (S.root t) l
    wide e root =
        ((c.answers (Bound t i false l) may.hears.answered).2 (ap is_idle may.hears.idle) e (untold t (ap is_gone may.hears.idle), root)).2

    -- the answer's list is wide, and so is what is kept
    narrow : (x : ℕ) → x ≡ h → IsPresent S N x → IsUntold S N x → IsOver S (S.root x) ⊎ IsWide S (S.root x) (narrowed i l (N.kept h))
    narrow x e p u = by (N.kept h) refl
      where
        its : IsWide S (S.root x) l
        its = subst (λ r. IsWide S r l) (sym (ap S.root e ∙ may.family))
            (wide (p i (inl (ap (λ n. N.had n i) e ∙ may.had))) (ap N.told (sym (ap S.root e ∙ may.family)) ∙ u.1))

        both : (k : Kept) → IsWide S (S.root x) k.list → (s : ℕ) → Listed S s →
            (has s (filter (λ z. has z k.list) l) ≡ true) ⊎ IsLeaving S.root (decided S) S.entry_pend (S.root x) s
        both k old s listed = ⊎_elim (λ one. ⊎_elim (λ two. inl (has_filtered (λ z. has z k.list) s l one two)) (λ leaves. inr leaves)
            (old s listed)) (λ leaves. inr leaves) (its s listed)

        kept : (k : Kept) → N.kept h ≡ Some k → (b : Bool) →
            IsOver S (S.root x) ⊎ IsWide S (S.root x) (if b then filter (λ s. has s k.list) l else l)
        kept k is true = ⊎_elim (λ over. inl over) (λ old. inr (both k old)) (c.lists.kept x k (ap N.kept e ∙ is) p u)
        kept k is false = inr its

        by : (o : Option Kept) → N.kept h ≡ o → IsOver S (S.root x) ⊎ IsWide S (S.root x) (narrowed i l o)
        by None is = inr its
        by (Some k) is = kept k is (k.since == i)

    answer : (a : Answer) → AnswerMeans S N a → AnswerMeans S M a
    answer (Bound x j d k) y = y
    answer (Loaded x j g) y = y

-- beside a working top's write lock no entry is prepared
pub write_clears : (A : Office) (c : Named A) (t : ℕ) → A.world.disk.serial t ≡ false → is_idle (A.world.disk.stage t) ≡ true →
    HasRow A.names t 2 → (h : Hold) → A.world.disk.entry_pend ≡ Some h → ⊥
write_clears A c t top idle (n, row, high) h p = by (c.rows.guard h p).0
  where
    begun : A.world.disk.begun h.top ≡ true
    begun = c.whole.core.fresh.entry h p

    by : HasRow A.names h.top 1 → ⊥
    by (m, other, low) =
        let e = one_top A.world.disk c.roots t h.top top (c.roots.tops h.top begun)
        (c.rows.apart t h.top n m row other (omega (arith, high, low))) in
        never idle (ap (λ x. is_idle (A.world.disk.stage x)) e ∙ c.whole.core.fresh.begun h.top begun)

-- what a root's tops wrote was known
pub written_known : (root : ℕ → ℕ) (r : ℕ) (first : Packed) (ds : List Done) (k : Packed) → written_in root r ds ≡ Some k →
    KnownIn first ds k
written_known root r first [] k e = let n : ◌≡◌ {A = Option Packed} None (Some k) = e in cc
written_known root r first (d ∷ ds) k e = by (written_known root r first ds k) (root d.top == r) d.plan.writes refl e
  where
    by : (written_in root r ds ≡ Some k → KnownIn first ds k) → (b : Bool) (o : Option Packed) → d.plan.writes ≡ o →
        cond b (or_else o (written_in root r ds)) (written_in root r ds) ≡ Some k → (d.plan.writes ≡ Some k) ⊎ KnownIn first ds k
    by ih false o w e = inr (ih e)
    by ih true None w e = inr (ih e)
    by ih true (Some x) w e = inl (w ∙ e)

-- nothing newer is known than the last state
pub newer_last : (S : State) → Core S → (t : ℕ) → last S ≡ load_of S t (last S)
newer_last S c t = by (written_in S.root (S.root t) S.tops) refl
  where
    by : (o : Option Packed) → written_in S.root (S.root t) S.tops ≡ o → last S ≡ newer (last S) o
    by None e = refl
    by (Some k) e = at (less_cases (last S).version k.version)
        (known_last S.first S.tops k c.history.chain (written_known S.root (S.root t) S.first S.tops k e))
      where
        at : ((nat_lt (last S).version k.version ≡ true) × ((last S).version < k.version)) ⊎ ((nat_lt (last S).version k.version ≡ false)
            × (k.version ≤ (last S).version)) → Below k (last S) → last S ≡ cond (nat_lt (last S).version k.version) k (last S)
        at (inr x) b = rw x.0
        at (inl x) (inl less) = absurd (omega (arith, x.1, less))
        at (inl x) (inr is) = absurd (omega (arith, x.1, ap (λ (y : Packed). y.version) is))

pub answer_load_named : (A : Office) (t i s : ℕ) (l : List ℕ) (g : Packed) → MayAnswerLoad A t i s l g → Named A →
    Named (acted A (AnswerLoad t i s l g))
answer_load_named A t i s l g may c = record {
  whole = c.whole;
  roots = c.roots;
  rows = c.rows;
  grants = c.grants;
  lists = c.lists;
  answers = λ a m. by a m;
  plans = c.plans;
}
  where
    S : State
    S = A.world.disk

    N : Names
    N = A.names

    M : Names
    M = (acted A (AnswerLoad t i s l g)).names

    core : Core S
    core = c.whole.core

    bound : AnswerMeans S N (Bound t i true l)
    bound = c.answers (Bound t i true l) may.answered

    answer : (a : Answer) → AnswerMeans S N a → AnswerMeans S M a
    answer (Bound x j d k) y = y
    answer (Loaded x j e) y = y

    load : is_idle (S.stage t) ≡ true → i ≡ N.inc → IsUntold S N t → (N.asked t ≡ true) × IsLoad S t g
    load idle e u = (asked, (is_last, alone))
      where
        asked : N.asked t ≡ true
        asked = ((bound.2 idle e u).3 refl).0

        listed : has s (last_entry S).content ≡ true
        listed = ((bound.2 idle e u).3 refl).1 s may.listed

        held : g ≡ last S
        held = some_is may.held (sym (effective_none (decided S) Some (S.pend s) (S.held s) may.free) ∙ core.effective.store s listed)

        is_last : last S ≡ load_of S t g
        is_last = newer_last S core t ∙ ap (load_of S t) (sym held)

        clear : (h : Hold) → S.entry_pend ≡ Some h → ⊥
        clear = write_clears A c t bound.0 idle (c.rows.asked t asked u)

        alone : (z : ℕ) → S.conf z ≡ true → undecided S z ≡ true → S.root z ≡ S.root t
        alone z cz uz = wrote (S.plan z).writes refl
          where
            wrote : (o : Option Packed) → (S.plan z).writes ≡ o → S.root z ≡ S.root t
            wrote None w = let p = (core.covered.plain z cz uz w).1 in absurd (clear p.0 p.1)
            wrote (Some x) w = ⊎_elim
                (λ (got : S.got z s ≡ true). absurd (never_some (core.firm.kept z s uz got) may.free))
                (λ (y : IsExcused S z s). absurd (clear y.by_entry y.there))
                (core.covered.stores z s cz (inl uz) (ap is_some w) (inr listed))

    by : (a : Answer) → (Loaded t i g ≡ a) ⊎ In a N.answers → AnswerMeans S M a
    by a (inr m) = answer a (c.answers a m)
    by a (inl e) = subst (AnswerMeans S M) e (bound.0, bound.1, core.history.held s g may.held, load)
