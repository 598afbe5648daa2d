-- Locks at the naming node: granted, strengthened, lowered.
use Rattle.arj_law_disk.proofs.Terms
use Terms.{◌≡◌, ◌⊎◌, ℕ, ◌+◌, ◌<◌, ◌≤◌, List, Bool, true, false, cond, ◌==◌, ◌||◌, Option, Some, None, nat_lt, refl, sym, ◌∙◌, ap, subst}
use Terms.{inl, inr, ⊎_elim, arith, le_refl, nat_tests, Core, HasRow, Message, Named, Related, Roots, Rows, IsHeld, Grants, IsWide}
use Terms.{AnswerMeans, Plans, Names, Office, Answer, Bound, Loaded, raised, acted, State, Packed, Hold, is_idle, decided, last_entry, has}
use Terms.{In, put}
use Rattle.arj_law_disk.proofs.machine
use machine.{Entries.last_listed, History.effective_none, Kin.one_top}
use machine.Base.{bool_cases, put_cases, put_same, put_other, test_cases, never, or_right, falls_to}
use Rattle.arj_law_disk.specs.machine.Guards.{IsFree, MayLock, MayLower}
use Rattle.arj_law_disk.specs.machine.Names.{Read, Write, Exclude, Lower, Unbind}

pub some_nat : {m n : ℕ} → ◌≡◌ {A = Option ℕ} (Some m) (Some n) → m ≡ n
some_nat e = cc

pub less_cases : (n m : ℕ) → ((nat_lt n m ≡ true) × (n < m)) ⊎ ((nat_lt n m ≡ false) × (m ≤ n))
less_cases n m = grind (arith, nat_tests)

-- a lock that is strengthened is at least the mode, and at least what it was; and it is one of them
pub raised_mode : (o : Option ℕ) (m : ℕ) → m ≤ raised o m
raised_mode None m = le_refl m
raised_mode (Some n) m =
    ⊎_elim (λ (x : (nat_lt n m ≡ true) × (n < m)). rw x.0 (le_refl m)) (λ (x : (nat_lt n m ≡ false) × (m ≤ n)). rw x.0 x.1) (less_cases n m)

pub raised_old : (o : Option ℕ) (m n : ℕ) → o ≡ Some n → n ≤ raised o m
raised_old None m n e = let x : ◌≡◌ {A = Option ℕ} None (Some n) = e in cc
raised_old (Some k) m n e = subst (λ j. j ≤ raised (Some k) m) (some_nat e)
    (⊎_elim (λ (x : (nat_lt k m ≡ true) × (k < m)). rw x.0 (omega (arith, x.1)))
    (λ (x : (nat_lt k m ≡ false) × (m ≤ k)). rw x.0 (le_refl k)) (less_cases k m))

pub raised_is : (o : Option ℕ) (m : ℕ) → (o ≡ Some (raised o m)) ⊎ (raised o m ≡ m)
raised_is None m = inr refl
raised_is (Some k) m =
    ⊎_elim (λ (x : (nat_lt k m ≡ true) × (k < m)). inr (rw x.0)) (λ (x : (nat_lt k m ≡ false) × (m ≤ k)). inl (rw x.0)) (less_cases k m)

-- a top's lock becomes a stronger one
module _ (S : State) (N : Names) (t m : ℕ) (asked : ℕ → Bool)
    (rises : (n : ℕ) → N.row t ≡ Some n → n ≤ m)
    (free : (h n : ℕ) → N.row h ≡ Some n → 2 ≤ m + n → Related S.root t h)
    (alone : (x : ℕ) → N.given x ≡ true → t ≡ x)
    (asks : (x : ℕ) → asked x ≡ true → (N.asked x ≡ true) ⊎ ((x ≡ t) × (2 ≤ m)))
  where
    abbrev pub new_row : ℕ → Option ℕ
    new_row = put t (Some m) N.row

    abbrev pub Locked : Names
    Locked = record N { row = new_row; asked = asked }

    turned : (h k : ℕ) → Related S.root h k → Related S.root k h
    turned h k (inl e) = inl (sym e)
    turned h k (inr (inl e)) = inr (inr e)
    turned h k (inr (inr e)) = inr (inl e)

    pub row_rises : (h n : ℕ) → HasRow N h n → HasRow Locked h n
    row_rises h n (k, row, low) = put_cases (λ o. (j : ℕ) × (o ≡ Some j) × (n ≤ j)) t (Some m) N.row h
        (λ e. (m, refl, omega (arith, low, rises k (ap N.row (sym e) ∙ row))))
        (λ e. (k, row, low))

    pub locked_rows : Rows S N → Rows S Locked
    locked_rows c = record {
      apart = λ h k a b p q less. apart c h k a b (h_case h) (k_case k) p q less;
      alone = λ x h a g p. put_cases (λ o. o ≡ Some a → h ≡ x) t (Some m) N.row h (λ e q. e ∙ alone x g) (λ e q. c.alone x h a g q) p;
      dead = c.dead;
      given = λ x g. let y = c.given x g in (row_rises x 1 y.0, y.1, y.2);
      guard = λ h p. let y = c.guard h p in (row_rises h.top 1 y.0, y.1, y.2);
      adds = λ h s p i n. row_rises h.top 2 (c.adds h s p i n);
      out = c.out;
      since =
          λ h s p j. ⊎_elim (λ (g : N.given h.top ≡ true). inl g) (λ (r : HasRow N h.top 2). inr (row_rises h.top 2 r)) (c.since h s p j);
      asked = λ x a u. ⊎_elim (λ (y : N.asked x ≡ true). row_rises x 2 (c.asked x y u))
          (λ (y : (x ≡ t) × (2 ≤ m)). subst (λ n. HasRow Locked n 2) (sym y.0) (m, put_same t (Some m) N.row, y.1)) (asks x a);
    }
      where
        h_case : (h : ℕ) → (h ≡ t) ⊎ ((h == t) ≡ false)
        h_case h = test_cases h t

        k_case : (k : ℕ) → (k ≡ t) ⊎ ((k == t) ≡ false)
        k_case k = test_cases k t

        here : (h a : ℕ) → h ≡ t → new_row h ≡ Some a → m ≡ a
        here h a e p = some_nat (sym (put_same t (Some m) N.row) ∙ (ap new_row (sym e) ∙ p))

        there : (h a : ℕ) → (h == t) ≡ false → new_row h ≡ Some a → N.row h ≡ Some a
        there h a e p = sym (put_other t (Some m) N.row h e) ∙ p

        apart : Rows S N → (h k a b : ℕ) → (h ≡ t) ⊎ ((h == t) ≡ false) → (k ≡ t) ⊎ ((k == t) ≡ false) → new_row h ≡ Some a →
            new_row k ≡ Some b → 2 ≤ a + b → Related S.root h k
        apart c h k a b (inl e) (inl f) p q less = inl (e ∙ sym f)
        apart c h k a b (inl e) (inr f) p q less =
            subst (λ n. Related S.root n k) (sym e) (free k b (there k b f q) (omega (arith, less, here h a e p)))
        apart c h k a b (inr e) (inl f) p q less =
            turned k h (subst (λ n. Related S.root n h) (sym f) (free h a (there h a e p) (omega (arith, less, here k b f q))))
        apart c h k a b (inr e) (inr f) p q less = c.apart h k a b (there h a e p) (there k b f q) less

    is_held : (r : ℕ) → IsHeld S N r → IsHeld S Locked r
    is_held r (inl x) = inl x
    is_held r (inr (inl x)) = inr (inl (row_rises r 0 x))
    is_held r (inr (inr x)) = inr (inr x)

    pub locked_grants : (sent : List Message) → Grants S N sent → Grants S Locked sent
    locked_grants sent c = record {
      past = c.past;
      row = λ x s h u. let y = c.row x s h u in (row_rises x 0 y.0, y.1);
      root = λ r s h u. is_held r (c.root r s h u);
      conf = c.conf;
      part = c.part;
      yes = c.yes;
      listed = c.listed;
      acked = c.acked;
      told = c.told;
    }

    pub locked_answer : ((x : ℕ) → N.asked x ≡ true → asked x ≡ true) → (a : Answer) → AnswerMeans S N a → AnswerMeans S Locked a
    locked_answer stays (Bound x i b l) y =
        (y.0, y.1, λ q e u. let z = y.2 q e u in (row_rises x 0 z.0, z.1, z.2, λ w. let v = z.3 w in (stays x v.0, v.1)))
    locked_answer stays (Loaded x i g) y = (y.0, y.1, y.2, λ q e u. let z = y.3 q e u in (stays x z.0, z.1))

    pub locked_plans : ((x : ℕ) → N.asked x ≡ true → asked x ≡ true) → Plans S N → Plans S Locked
    locked_plans stays c = record {
      writer = c.writer;
      asked = λ x s b j. let y = c.asked x s b j in (y.0, y.1, λ e u. stays x (y.2 e u));
      loaded = c.loaded;
    }

-- what a granted lock gives: no other top's entry is prepared that conflicts
no_pending : (S : State) (N : Names) (c : Core S) → Roots S → Rows S N → (t m : ℕ) → S.serial t ≡ false → is_idle (S.stage t) ≡ true →
    IsFree S N t m → (h : Hold) (n : ℕ) → S.entry_pend ≡ Some h → HasRow N h.top n → 2 ≤ m + n → ⊥
no_pending S N c roots rows t m top idle free h n p (k, row, low) less = by (free h.top k row (omega (arith, low, less)))
  where
    begun : S.begun h.top ≡ true
    begun = c.fresh.entry h p

    by : (h.top ≡ t) ⊎ (h.top ≡ S.root t) → ⊥
    by (inl e) = never idle (ap (λ x. is_idle (S.stage x)) (sym e) ∙ c.fresh.begun h.top begun)
    by (inr e) =
        let same : S.root t ≡ t = roots.plain t (ap S.serial (sym e) ∙ roots.tops h.top begun) in
        never idle (ap (λ x. is_idle (S.stage x)) (sym (e ∙ same)) ∙ c.fresh.begun h.top begun)

-- the entry's list, answered with a lock that no prepared entry with a new store stands against
answer_wide : (S : State) (N : Names) (c : Core S) → Roots S → Rows S N → (t m : ℕ) → S.serial t ≡ false → is_idle (S.stage t) ≡ true →
    IsFree S N t m → IsWide S (S.root t) S.entry.content
answer_wide S N c roots rows t m top idle free s (inl i) = inl i
answer_wide S N c roots rows t m top idle free s (inr i) = ⊎_elim
    (λ (e : has s S.entry.content ≡ true). inl e)
    (λ (x : (h : Hold) × (S.entry_pend ≡ Some h) × (decided S h.top ≡ true) × (has s h.new.content ≡ true)). ⊎_elim
    (λ (e : has s S.entry.content ≡ true). inl e)
    (λ (e : has s S.entry.content ≡ false).
    absurd (no_pending S N c roots rows t m top idle free x.0 2 x.1 (rows.adds x.0 s x.1 x.3 e) (omega arith)))
    (bool_cases (has s S.entry.content)))
    (last_listed S s c i)

related_free : (S : State) (t h : ℕ) → (h ≡ t) ⊎ (h ≡ S.root t) → Related S.root t h
related_free S t h (inl e) = inl (sym e)
related_free S t h (inr e) = inr (inl (sym e))

-- with a given back lock only its holder gets one
given_is : (S : State) (N : Names) → Roots S → Rows S N → (t m : ℕ) → S.serial t ≡ false → 1 ≤ m → IsFree S N t m → (x : ℕ) →
    N.given x ≡ true → t ≡ x
given_is S N roots rows t m top low free x g = by (rows.given x g)
  where
    by : HasRow N x 1 × (S.begun x ≡ true) × (N.had x N.inc ≡ false) → t ≡ x
    by ((n, row, one), begun, none) =
        one_top S roots t x top (roots.tops x begun) (related_free S t x (free x n row (omega (arith, low, one))))

free_related : (S : State) (N : Names) → Rows S N → (t m : ℕ) → IsFree S N t m → (h n : ℕ) → N.row h ≡ Some n → 2 ≤ raised (N.row t) m + n →
    Related S.root t h
free_related S N rows t m free h n row less = ⊎_elim
    (λ (e : N.row t ≡ Some (raised (N.row t) m)). rows.apart t h (raised (N.row t) m) n e row less)
    (λ (e : raised (N.row t) m ≡ m). related_free S t h (free h n row (omega (arith, less, e))))
    (raised_is (N.row t) m)

pub read_named : (A : Office) (t : ℕ) → MayLock A t 0 → A.names.live ≡ true → Named A → Named (acted A (Read t))
read_named A t may live c = record {
  whole = c.whole;
  roots = c.roots;
  rows = locked_rows S N t m N.asked rises free alone (λ x a. inl a) c.rows;
  grants = locked_grants S N t m N.asked rises free alone (λ x a. inl a) A.world.sent c.grants;
  lists = c.lists;
  answers = λ a i. by a i;
  plans = locked_plans S N t m N.asked rises free alone (λ x a. inl a) (λ x a. a) c.plans;
}
  where
    S : State
    S = A.world.disk

    N : Names
    N = A.names

    m : ℕ
    m = raised (N.row t) 0

    rises : (n : ℕ) → N.row t ≡ Some n → n ≤ m
    rises n e = raised_old (N.row t) 0 n e

    free : (h n : ℕ) → N.row h ≡ Some n → 2 ≤ m + n → Related S.root t h
    free = free_related S N c.rows t 0 may.free

    alone : (x : ℕ) → N.given x ≡ true → t ≡ x
    alone x g = absurd (never live (c.rows.dead x g))

    by : (a : Answer) → (Bound t N.inc false S.entry.content ≡ a) ⊎ In a N.answers → AnswerMeans S (acted A (Read t)).names a
    by a (inr i) = locked_answer S N t m N.asked rises free alone (λ x y. inl y) (λ x y. y) a (c.answers a i)
    by a (inl e) = subst (AnswerMeans S (acted A (Read t)).names) e (
      may.top,
      le_refl N.inc,
      λ idle is untold. (
        (m, put_same t (Some m) N.row, raised_mode (N.row t) 0),
        falls_to (N.given t) (λ g. never live (c.rows.dead t g)),
        answer_wide S N c.whole.core c.roots c.rows t 0 may.top idle may.free,
        λ f. let n : false ≡ true = f in cc,
      ),
    )

pub write_named : (A : Office) (t : ℕ) (b : Bool) → MayLock A t 2 → Named A → Named (acted A (Write t b))
write_named A t b may c = record {
  whole = c.whole;
  roots = c.roots;
  rows = locked_rows S N t m asked rises free alone asks c.rows;
  grants = locked_grants S N t m asked rises free alone asks A.world.sent c.grants;
  lists = c.lists;
  answers = λ a i. by a i;
  plans = locked_plans S N t m asked rises free alone asks stays c.plans;
}
  where
    S : State
    S = A.world.disk

    N : Names
    N = A.names

    asked : ℕ → Bool
    asked = put t (N.asked t || b) N.asked

    m : ℕ
    m = raised (N.row t) 2

    rises : (n : ℕ) → N.row t ≡ Some n → n ≤ m
    rises n e = raised_old (N.row t) 2 n e

    free : (h n : ℕ) → N.row h ≡ Some n → 2 ≤ m + n → Related S.root t h
    free = free_related S N c.rows t 2 may.free

    alone : (x : ℕ) → N.given x ≡ true → t ≡ x
    alone = given_is S N c.roots c.rows t 2 may.top (omega arith) may.free

    asks : (x : ℕ) → asked x ≡ true → (N.asked x ≡ true) ⊎ ((x ≡ t) × (2 ≤ m))
    asks x = put_cases (λ y. y ≡ true →
        (N.asked x ≡ true) ⊎ ((x ≡ t) × (2 ≤ m))) t (N.asked t || b) N.asked x (λ e h. inr (e, raised_mode (N.row t) 2)) (λ e h. inl h)

    stays : (x : ℕ) → N.asked x ≡ true → asked x ≡ true
    stays x a = put_cases (λ y. y ≡ true) t (N.asked t || b) N.asked x (λ e. ap (λ y. y || b) (ap N.asked (sym e) ∙ a)) (λ e. a)

    none : is_idle (S.stage t) ≡ true → (h : Hold) → S.entry_pend ≡ Some h → ⊥
    none idle h p = no_pending S N c.whole.core c.roots c.rows t 2 may.top idle may.free h 1 p (c.rows.guard h p).0 (omega arith)

    kept : is_idle (S.stage t) ≡ true → (s : ℕ) → has s S.entry.content ≡ true → has s (last_entry S).content ≡ true
    kept idle s i = subst (λ (e : Packed). has s e.content ≡ true) (by_entry S.entry_pend refl) i
      where
        by_entry : (o : Option Hold) → S.entry_pend ≡ o → S.entry ≡ last_entry S
        by_entry None e = sym (effective_none (decided S) (λ (x : Packed). x) S.entry_pend S.entry e) ∙ c.whole.core.effective.entry
        by_entry (Some h) e = absurd (none idle h e)

    by : (a : Answer) → (Bound t N.inc b S.entry.content ≡ a) ⊎ In a N.answers → AnswerMeans S (acted A (Write t b)).names a
    by a (inr i) = locked_answer S N t m asked rises free alone asks stays a (c.answers a i)
    by a (inl e) = subst (AnswerMeans S (acted A (Write t b)).names) e (
      may.top,
      le_refl N.inc,
      λ idle is untold. (
        (m, put_same t (Some m) N.row, omega arith),
        given_not idle,
        answer_wide S N c.whole.core c.roots c.rows t 2 may.top idle may.free,
        λ f. (put_same t (N.asked t || b) N.asked ∙ or_right (N.asked t) b f, kept idle),
      ),
    )
      where
        given_not : is_idle (S.stage t) ≡ true → N.given t ≡ false
        given_not idle = falls_to (N.given t) (λ g. never idle (c.whole.core.fresh.begun t (c.rows.given t g).1))

pub exclude_named : (A : Office) (t : ℕ) → MayLock A t 1 → Named A → Named (acted A (Exclude t))
exclude_named A t may c = record {
  whole = c.whole;
  roots = c.roots;
  rows = locked_rows S N t m N.asked rises free alone (λ x a. inl a) c.rows;
  grants = locked_grants S N t m N.asked rises free alone (λ x a. inl a) A.world.sent c.grants;
  lists = c.lists;
  answers = λ a i. locked_answer S N t m N.asked rises free alone (λ x y. inl y) (λ x y. y) a (c.answers a i);
  plans = locked_plans S N t m N.asked rises free alone (λ x a. inl a) (λ x a. a) c.plans;
}
  where
    S : State
    S = A.world.disk

    N : Names
    N = A.names

    m : ℕ
    m = raised (N.row t) 1

    rises : (n : ℕ) → N.row t ≡ Some n → n ≤ m
    rises n e = raised_old (N.row t) 1 n e

    free : (h n : ℕ) → N.row h ≡ Some n → 2 ≤ m + n → Related S.root t h
    free = free_related S N c.rows t 1 may.free

    alone : (x : ℕ) → N.given x ≡ true → t ≡ x
    alone = given_is S N c.roots c.rows t 1 may.top (le_refl 1) may.free

pub unbind_named : (A : Office) → Named A → Named (acted A Unbind)
unbind_named A c = record {
  whole = c.whole;
  roots = c.roots;
  rows = record {
    apart = c.rows.apart;
    alone = c.rows.alone;
    dead = λ t g. refl;
    given = c.rows.given;
    guard = c.rows.guard;
    adds = c.rows.adds;
    out = c.rows.out;
    since = c.rows.since;
    asked = c.rows.asked;
  };
  grants = c.grants;
  lists = c.lists;
  answers = λ a i. by a (c.answers a i);
  plans = record { writer = c.plans.writer; asked = c.plans.asked; loaded = c.plans.loaded };
}
  where
    by : (a : Answer) → AnswerMeans A.world.disk A.names a → AnswerMeans A.world.disk (acted A Unbind).names a
    by (Bound t i b l) y = y
    by (Loaded t i g) y = y

-- a recorded binding: the write lock becomes a read lock, unless an include asked for it
pub lower_named : (A : Office) (t : ℕ) → MayLower A t → Named A → Named (acted A (Lower t))
lower_named A t may c = record {
  whole = c.whole;
  roots = c.roots;
  rows = record {
    apart = λ h k a b p q less. let x = old h a p in let y = old k b q in c.rows.apart h k x.0 y.0 x.1 y.1 (omega (arith, less, x.2, y.2));
    alone = λ x h a g p. let y = old h a p in c.rows.alone x h y.0 g y.1;
    dead = λ x g. absurd (not_given x g);
    given = λ x g. absurd (not_given x g);
    guard = λ h p. let y = c.rows.guard h p in (guarded h 1 p y.0, y.1, y.2);
    adds = λ h s p i n. guarded h 2 p (c.rows.adds h s p i n);
    out = c.rows.out;
    since = λ h s p j. ⊎_elim (λ g. absurd (not_given h.top g)) (λ r. inr (guarded h 2 p r)) (c.rows.since h s p j);
    asked = λ x a u. asked x a (c.rows.asked x a u);
  };
  grants = record {
    past = c.grants.past;
    row = λ x s h u. let y = c.grants.row x s h u in (any x y.0, y.1);
    root = λ r s h u. is_held r (c.grants.root r s h u);
    conf = c.grants.conf;
    part = c.grants.part;
    yes = c.grants.yes;
    listed = c.grants.listed;
    acked = c.grants.acked;
    told = c.grants.told;
  };
  lists = c.lists;
  answers = λ a i. by a (c.answers a i);
  plans = record { writer = c.plans.writer; asked = c.plans.asked; loaded = c.plans.loaded };
}
  where
    S : State
    S = A.world.disk

    N : Names
    N = A.names

    M : Names
    M = (acted A (Lower t)).names

    mode : ℕ
    mode = cond (N.asked t) 2 0

    at_most : (b : Bool) → cond b 2 0 ≤ 2
    at_most true = le_refl 2
    at_most false = omega arith

    -- each lock was at least as strong
    old : (h a : ℕ) → put t (Some mode) N.row h ≡ Some a → (n : ℕ) × (N.row h ≡ Some n) × (a ≤ n)
    old h a p = put_cases (λ o. o ≡ Some a → (n : ℕ) × (N.row h ≡ Some n) × (a ≤ n)) t (Some mode) N.row h
        (λ e q. (2, ap N.row e ∙ may.held, subst (λ n. n ≤ 2) (some_nat q) (at_most (N.asked t))))
        (λ e q. (a, q, le_refl a))
        p

    not_given : (x : ℕ) → N.given x ≡ true → ⊥
    not_given x g = never may.had (ap (λ n. N.had n N.inc) (c.rows.alone x t 2 g may.held) ∙ (c.rows.given x g).2)

    any : (h : ℕ) → HasRow N h 0 → HasRow M h 0
    any h (n, row, low) =
        put_cases (λ o. (j : ℕ) × (o ≡ Some j) × (0 ≤ j)) t (Some mode) N.row h (λ e. (mode, refl, omega arith)) (λ e. (n, row, low))

    guarded : (h : Hold) (n : ℕ) → S.entry_pend ≡ Some h → HasRow N h.top n → HasRow M h.top n
    guarded h n p r = ⊎_elim
        (λ (a : N.asked t ≡ true). ⊎_elim (λ (e : h.top ≡ t). subst (λ x. HasRow M x n) (sym e) (strong (subst (λ x. HasRow N x n) e r) a))
        (λ (e : (h.top == t) ≡ false). other h.top n e r) (test_cases h.top t))
        (λ (a : N.asked t ≡ false).
        ⊎_elim (λ (e : h.top ≡ t). absurd (may.clear a h p e)) (λ (e : (h.top == t) ≡ false). other h.top n e r) (test_cases h.top t))
        (bool_cases (N.asked t))
      where
        other : (x n : ℕ) → (x == t) ≡ false → HasRow N x n → HasRow M x n
        other x n e (k, row, low) = (k, put_other t (Some mode) N.row x e ∙ row, low)

        strong : HasRow N t n → N.asked t ≡ true → HasRow M t n
        strong (k, row, low) a =
            (2, put_same t (Some mode) N.row ∙ ap (λ b. Some (cond b 2 0)) a, omega (arith, low, some_nat (sym row ∙ may.held)))

    asked : (x : ℕ) → N.asked x ≡ true → HasRow N x 2 → HasRow M x 2
    asked x a (k, row, low) = put_cases (λ o. (j : ℕ) × (o ≡ Some j) × (2 ≤ j)) t (Some mode) N.row x
        (λ e. (2, ap (λ b. Some (cond b 2 0)) (ap N.asked (sym e) ∙ a), le_refl 2)) (λ e. (k, row, low))

    is_held : (r : ℕ) → IsHeld S N r → IsHeld S M r
    is_held r (inl x) = inl x
    is_held r (inr (inl x)) = inr (inl (any r x))
    is_held r (inr (inr x)) = inr (inr x)

    by : (a : Answer) → AnswerMeans S N a → AnswerMeans S M a
    by (Bound x i b l) y = (y.0, y.1, λ q e u. let z = y.2 q e u in (any x z.0, z.1, z.2, z.3))
    by (Loaded x i g) y = y
