-- The end of a top and of a serializing action at the naming node.
use Rattle.arj_law_disk.proofs.Terms
use Terms.{◌≡◌, ◌⊎◌, ℕ, ◌+◌, ◌≤◌, Bool, true, false, cond, ◌==◌, ◌&&◌, not, Option, Some, None, refl, sym, ◌∙◌, ap, subst, inl, inr, ⊎_elim}
use Terms.{arith, Core, HasRow, IsUntold, ToldCommit, ToldBare, ToldAbort, ToldSerial, IsOver, Named, Related, Rows, IsHeld, AnswerMeans}
use Terms.{Names, Office, Answer, Bound, Loaded, raised, acted, State, naming, is_gone, decided, undecided, In, put}
use Rattle.arj_law_disk.proofs.machine
use machine.{Locks.some_nat, Locks.raised_is, Locks.raised_old}
use machine.Base.{bool_cases, put_cases, put_same, put_other, put_true, put_rises, test_cases, test_not, differs, never, closed_done}
use machine.Base.{gone_closed}
use Rattle.arj_law_disk.specs.machine.{Guards.MayEndTop, Guards.MayEndSerial, Names.passed, Names.EndTop, Names.EndSerial}

-- who isn't told of after one more was
pub untold_old : (S : State) (N : Names) (t : ℕ) (told : ℕ → Bool) → ((x : ℕ) → told x ≡ false → (N.told x ≡ false)) → (x : ℕ) →
    (told x ≡ false) × (told (S.root x) ≡ false) → IsUntold S N x
untold_old S N t told old x u = (old x u.0, old (S.root x) u.1)

put_untold : (t : ℕ) (f : ℕ → Bool) (x : ℕ) → put t true f x ≡ false → ((x == t) ≡ false) × (f x ≡ false)
put_untold t f x =
    put_cases (λ b. b ≡ false → ((x == t) ≡ false) × (f x ≡ false)) t true f x (λ e h. let n : true ≡ false = h in cc) (λ e h. (e, h))

module _ (A : Office) (t : ℕ) (commits : Bool) (may : MayEndTop A t commits) (c : Named A) where
  abbrev S : State
  S = A.world.disk

  abbrev N : Names
  N = A.names

  abbrev M : Names
  M = (acted A (EndTop t commits)).names

  abbrev passes : Bool
  passes = commits && N.confd t && not (N.given t)

  abbrev r : ℕ
  r = S.root t

  gone : (is_gone (S.stage t) ≡ true) × (undecided S t ≡ false)
  gone = by (bool_cases commits)
    where
      core : Core S
      core = c.whole.core

      by : (commits ≡ true) ⊎ (commits ≡ false) → (is_gone (S.stage t) ≡ true) × (undecided S t ≡ false)
      by (inl e) = ⊎_elim
          (λ (m : In (ToldCommit t naming) A.world.sent). let d = c.whole.mail (ToldCommit t naming) m in
          (core.coordinators.decided_closed t d, closed_done (decided S t) (S.stage t) (S.intent t) d))
          (λ (m : In (ToldBare t naming) A.world.sent).
          let b = c.whole.mail (ToldBare t naming) m in
          let g = core.bare.gone t b in
          (g, rw (core.bare.undone t b, gone_closed (S.stage t) g, core.bare.no_record t b)))
          (may.told.0 e)
      by (inr e) = let m = c.whole.mail (ToldAbort t naming) (may.told.1 e) in (m.0, m.1)

  -- what is locked afterwards
  abbrev New : ℕ → ℕ → Type 0
  New h a = (N.row h ≡ Some a) ⊎ ((passes ≡ true) × (h ≡ r) × ((n : ℕ) × (N.row t ≡ Some n) × (a ≡ raised (N.row r) n)))

  new : (h a : ℕ) → M.row h ≡ Some a → ((h == t) ≡ false) × New h a
  new h a =
      put_cases (λ o. o ≡ Some a → ((h == t) ≡ false) × New h a) t None (cond passes (put r (passed (N.row t) (N.row r)) N.row) N.row) h
      (λ e p. let x : ◌≡◌ {A = Option ℕ} None (Some a) = p in cc)
      (λ e p. (e, by passes refl p))
    where
      at : passes ≡ true → (o : Option ℕ) → N.row t ≡ o → h ≡ r → passed o (N.row r) ≡ Some a → New h a
      at pass None q e p = inl (ap N.row e ∙ p)
      at pass (Some n) q e p = inr (pass, e, (n, q, sym (some_nat p)))

      by : (b : Bool) → passes ≡ b → cond b (put r (passed (N.row t) (N.row r)) N.row) N.row h ≡ Some a → New h a
      by true pass p =
          put_cases (λ o. o ≡ Some a → New h a) r (passed (N.row t) (N.row r)) N.row h (λ e q. at pass (N.row t) refl e q) (λ e q. inl q) p
      by false pass p = inl p

  keeps : (h n : ℕ) → (h == t) ≡ false → HasRow N h n → HasRow M h n
  keeps h n other (k, row, low) =
      put_cases (λ o. (j : ℕ) × (o ≡ Some j) × (n ≤ j)) t None (cond passes (put r (passed (N.row t) (N.row r)) N.row) N.row) h
      (λ e. absurd (differs h t other e))
      (λ e. by passes)
    where
      at : (o : Option ℕ) → h ≡ r → (j : ℕ) × (passed o (N.row r) ≡ Some j) × (n ≤ j)
      at None e = (k, ap N.row (sym e) ∙ row, low)
      at (Some m) e = (raised (N.row r) m, refl, omega (arith, low, raised_old (N.row r) m k (ap N.row (sym e) ∙ row)))

      by : (b : Bool) → (j : ℕ) × (cond b (put r (passed (N.row t) (N.row r)) N.row) N.row h ≡ Some j) × (n ≤ j)
      by true = put_cases (λ o. (j : ℕ) × (o ≡ Some j) × (n ≤ j)) r (passed (N.row t) (N.row r)) N.row h (λ e. at (N.row t) e)
          (λ e. (k, row, low))
      by false = (k, row, low)

  -- a root's lock after one was passed to it
  pass_row : passes ≡ true → (t ≡ r → ⊥) → HasRow N t 0 → HasRow M r 0
  pass_row pass other (n, row, low) = (
    raised (N.row r) n,
    put_other t None (cond passes (put r (passed (N.row t) (N.row r)) N.row) N.row) r (test_not r t (λ e. other (sym e)))
        ∙ (ap (λ b. cond b (put r (passed (N.row t) (N.row r)) N.row) N.row r) pass
        ∙ (put_same r (passed (N.row t) (N.row r)) N.row ∙ ap (λ o. passed o (N.row r)) row)),
    omega arith,
  )

  -- with the top's own lock, another one that conflicts is its root's
  passed_apart : (k n b : ℕ) → (k == t) ≡ false → N.row t ≡ Some n → N.row k ≡ Some b → 2 ≤ n + b → k ≡ r
  passed_apart k n b other row also less = by (c.rows.apart t k n b row also less)
    where
      by : Related S.root t k → k ≡ r
      by (inl e) = absurd (differs k t other (sym e))
      by (inr (inl e)) = sym e
      by (inr (inr e)) = absurd (differs k t other (sym (c.roots.plain k (ap S.serial e ∙ may.top)) ∙ e))

  raised_apart : (h a k b : ℕ) → h ≡ r → ((n : ℕ) × (N.row t ≡ Some n) × (a ≡ raised (N.row r) n)) → (k == t) ≡ false → N.row k ≡ Some b →
      2 ≤ a + b → Related S.root h k
  raised_apart h a k b e (n, row, is) other also less = ⊎_elim
      (λ (x : N.row r ≡ Some (raised (N.row r) n)).
      subst (λ y. Related S.root y k) (sym e) (c.rows.apart r k (raised (N.row r) n) b x also (omega (arith, less, is))))
      (λ (x : raised (N.row r) n ≡ n). inl (e ∙ sym (passed_apart k n b other row also (omega (arith, less, is, x)))))
      (raised_is (N.row r) n)

  turned : (h k : ℕ) → Related S.root h k → Related S.root k h
  turned h k (inl e) = inl (sym e)
  turned h k (inr (inl e)) = inr (inr e)
  turned h k (inr (inr e)) = inr (inl e)

  apart : (h k a b : ℕ) → ((h == t) ≡ false) × New h a → ((k == t) ≡ false) × New k b → 2 ≤ a + b → Related S.root h k
  apart h k a b (oh, inl p) (ok, inl q) less = c.rows.apart h k a b p q less
  apart h k a b (oh, inr (pass, e, x)) (ok, inl q) less = raised_apart h a k b e x ok q less
  apart h k a b (oh, inl p) (ok, inr (pass, f, y)) less = turned k h (raised_apart k b h a f y oh p (omega (arith, less)))
  apart h k a b (oh, inr (pass, e, x)) (ok, inr (also, f, y)) less = inl (e ∙ sym f)

  given_old : (x : ℕ) → put t false N.given x ≡ true → ((x == t) ≡ false) × (N.given x ≡ true)
  given_old x = put_cases (λ b. b ≡ true → ((x == t) ≡ false) × (N.given x ≡ true)) t false N.given x (λ e h. let n : false ≡ true = h in
      cc) (λ e h. (e, h))

  given_still : (x : ℕ) → N.given x ≡ false → put t false N.given x ≡ false
  given_still x h = put_cases (λ b. b ≡ false) t false N.given x (λ e. refl) (λ e. h)

  old : (x : ℕ) → IsUntold S M x → IsUntold S N x
  old = untold_old S N t M.told (λ x h. (put_untold t N.told x h).1)

  other : (x : ℕ) → IsUntold S M x → (x == t) ≡ false
  other x u = (put_untold t N.told x u.0).0

  alone : (x h a : ℕ) → ((x == t) ≡ false) × (N.given x ≡ true) → ((h == t) ≡ false) × New h a → h ≡ x
  alone x h a g (oh, inl p) = c.rows.alone x h a g.1 p
  alone x h a g (oh, inr (pass, e, (n, row, is))) = absurd (differs x t g.0 (sym (c.rows.alone x t n g.1 row)))

  rows : Rows S M
  rows = record {
    apart = λ h k a b p q less. apart h k a b (new h a p) (new k b q) less;
    alone = λ x h a g p. alone x h a (given_old x g) (new h a p);
    dead = λ x g. c.rows.dead x (given_old x g).1;
    given = λ x g. let y = given_old x g in let z = c.rows.given x y.1 in (keeps x 1 y.0 z.0, z.1, z.2);
    guard = λ h p. let z = c.rows.guard h p in let o = test_not h.top t (λ e. may.clear h p e) in
        (keeps h.top 1 o z.0, put_other t true N.told h.top o ∙ z.1, z.2);
    adds = λ h s p i n. keeps h.top 2 (test_not h.top t (λ e. may.clear h p e)) (c.rows.adds h s p i n);
    out = c.rows.out;
    since = λ h s p j. ⊎_elim (λ (g : N.given h.top ≡ true). inl (put_other t false N.given h.top (test_not h.top t (λ e. may.clear h p e))
        ∙ g)) (λ (r : HasRow N h.top 2). inr (keeps h.top 2 (test_not h.top t (λ e. may.clear h p e)) r)) (c.rows.since h s p j);
    asked = λ x a u. keeps x 2 (other x u) (c.rows.asked x a (old x u));
  }

  held : (x : ℕ) → S.serial x ≡ true → M.told x ≡ false → IsHeld S N x → IsHeld S M x
  held x s u (inl over) = inl over
  held x s u (inr (inl row)) = inr (inl (keeps x 0 (put_untold t N.told x u).0 row))
  held x s u (inr (inr (y, e, done, told, had))) = ⊎_elim
      (λ (is : y ≡ t). mine (subst (λ n. S.root n ≡ x) is e) (subst (λ n. (decided S n ≡ true) ⊎ (S.bare n ≡ true)) is done)
      (ap (λ n. N.had n N.inc) (sym is) ∙ had) (bool_cases commits))
      (λ (o : (y == t) ≡ false). inr (inr (y, e, done, put_other t true N.told y o ∙ told, had)))
      (test_cases y t)
    where
      core : Core S
      core = c.whole.core

      taken : (decided S t ≡ true) ⊎ (S.bare t ≡ true) → (S.conf t ≡ true) ⊎ (S.light t ≡ true)
      taken (inl d) = core.coordinators.decided_taken t d
      taken (inr b) = core.bare.taken t b

      mine : S.root t ≡ x → (decided S t ≡ true) ⊎ (S.bare t ≡ true) → N.had t N.inc ≡ true → (commits ≡ true) ⊎ (commits ≡ false) →
          IsHeld S M x
      mine is done_t had_t (inl yes_) =
          let row = c.grants.row t may.top had_t (may.untold, ap N.told is ∙ (put_untold t N.told x u).1) in
          let conf = c.grants.conf t (taken done_t) had_t in
          let pass : passes ≡ true = rw (yes_, conf, row.1) in
          inr (inl (subst (λ n. HasRow M n 0) is (pass_row pass (λ e. never s (ap S.serial (sym is ∙ sym e) ∙ may.top)) row.0)))
      mine is (inl d) had_t (inr ab) =
          absurd (never (c.grants.listed t d had_t may.untold) (c.whole.mail (ToldAbort t naming) (may.told.1 ab)).2)
      mine is (inr b) had_t (inr ab) = inl (subst (IsOver S) is ((c.whole.mail (ToldAbort t naming) (may.told.1 ab)).3 b))

  pub end_top_named : Named (acted A (EndTop t commits))
  end_top_named = record {
    whole = c.whole;
    roots = c.roots;
    rows = rows;
    grants = record {
      past = c.grants.past;
      row = λ x s h u. let y = c.grants.row x s h (old x u) in (keeps x 0 (other x u) y.0, given_still x y.1);
      root = λ x s h u. held x s u (c.grants.root x s h (put_untold t N.told x u).1);
      conf = c.grants.conf;
      part = c.grants.part;
      yes = c.grants.yes;
      listed = λ x d h u. c.grants.listed x d h (put_untold t N.told x u).1;
      acked =
          λ x m. ⊎_elim (λ (h : N.told x ≡ true). inl (put_rises t N.told x h)) (λ (h : N.had x N.inc ≡ false). inr h) (c.grants.acked x m);
      told = λ x h. ⊎_elim
          (λ (e : x ≡ t).
          (ap (λ n. is_gone (S.stage n)) e ∙ gone.0, ap (undecided S) e ∙ gone.1, λ s. absurd (never s (ap S.serial e ∙ may.top))))
          (λ (o : N.told x ≡ true). c.grants.told x o)
          (put_true t N.told x h);
    };
    lists = record { had = c.lists.had; kept = λ h k e p u. c.lists.kept h k e p (old h u); plan = c.lists.plan; light = c.lists.light };
    answers = λ a i. answer a (c.answers a i);
    plans = record {
      writer = c.plans.writer;
      asked = λ x s b j. let y = c.plans.asked x s b j in (y.0, y.1, λ e u. y.2 e (old x u));
      loaded = c.plans.loaded;
    };
  }
    where
      answer : (a : Answer) → AnswerMeans S N a → AnswerMeans S M a
      answer (Bound x i b l) y = (y.0, y.1, λ q e u. let z = y.2 q e (old x u) in (keeps x 0 (other x u) z.0, given_still x z.1, z.2, z.3))
      answer (Loaded x i g) y = (y.0, y.1, y.2, λ q e u. y.3 q e (old x u))

module _ (A : Office) (r : ℕ) (may : MayEndSerial A r) (c : Named A) where
  abbrev S2 : State
  S2 = A.world.disk

  abbrev N2 : Names
  N2 = A.names

  abbrev M2 : Names
  M2 = (acted A (EndSerial r)).names

  over : IsOver S2 r
  over = (c.whole.mail (ToldSerial r naming) may.told).0

  left : (h a : ℕ) → M2.row h ≡ Some a → N2.row h ≡ Some a
  left h a = by ((S2.root h == r) && not (N2.given h))
    where
      by : (b : Bool) → cond b None (N2.row h) ≡ Some a → N2.row h ≡ Some a
      by true p = let x : ◌≡◌ {A = Option ℕ} None (Some a) = p in cc
      by false p = p

  stays : (h n : ℕ) → (S2.root h ≡ r → N2.given h ≡ true) → HasRow N2 h n → HasRow M2 h n
  stays h n safe (k, row, low) = by (test_cases (S2.root h) r)
    where
      by : (S2.root h ≡ r) ⊎ ((S2.root h == r) ≡ false) → HasRow M2 h n
      by (inl e) = (
        k,
        ap (λ b. cond ((S2.root h == r) && not b) None (N2.row h)) (safe e)
            ∙ (ap (λ b. cond b None (N2.row h)) (false_right (S2.root h == r)) ∙ row),
        low,
      )
        where
          false_right : (b : Bool) → (b && not true) ≡ false
          false_right true = refl
          false_right false = refl
      by (inr e) = (k, ap (λ b. cond (b && not (N2.given h)) None (N2.row h)) e ∙ row, low)

  not_serial : (x : ℕ) → S2.serial x ≡ false → (x == r) ≡ false
  not_serial x s = test_not x r (λ e. never may.serial (ap S2.serial (sym e) ∙ s))

  was : (x : ℕ) → IsUntold S2 M2 x → IsUntold S2 N2 x
  was = untold_old S2 N2 r M2.told (λ x h. (put_untold r N2.told x h).1)

  apart_from : (x : ℕ) → IsUntold S2 M2 x → S2.root x ≡ r → N2.given x ≡ true
  apart_from x u e = absurd (differs (S2.root x) r (put_untold r N2.told (S2.root x) u.1).0 e)

  held_still : (x : ℕ) → S2.serial x ≡ true → M2.told x ≡ false → IsHeld S2 N2 x → IsHeld S2 M2 x
  held_still x s u (inl o) = inl o
  held_still x s u (inr (inl row)) =
      inr (inl (stays x 0 (λ e. absurd (differs x r (put_untold r N2.told x u).0 (sym (c.roots.serial x s) ∙ e))) row))
  held_still x s u (inr (inr (y, e, done, told, had))) = inr (inr (
    y,
    e,
    done,
    put_other r true N2.told y
        (test_not y r (λ is. differs x r (put_untold r N2.told x u).0 (sym e ∙ (ap S2.root is ∙ c.roots.serial r may.serial)))) ∙ told,
    had,
  ))

  pub end_serial_named : Named (acted A (EndSerial r))
  end_serial_named = record {
    whole = c.whole;
    roots = c.roots;
    rows = record {
      apart = λ h k a b p q less. c.rows.apart h k a b (left h a p) (left k b q) less;
      alone = λ x h a g p. c.rows.alone x h a g (left h a p);
      dead = c.rows.dead;
      given = λ x g. let y = c.rows.given x g in (stays x 1 (λ e. g) y.0, y.1, y.2);
      guard = λ h p. let z = c.rows.guard h p in (
        stays h.top 1 (λ e. may.clear h p e) z.0,
        put_other r true N2.told h.top (not_serial h.top (c.roots.tops h.top (c.whole.core.fresh.entry h p))) ∙ z.1,
        z.2,
      );
      adds = λ h s p i n. stays h.top 2 (λ e. may.clear h p e) (c.rows.adds h s p i n);
      out = c.rows.out;
      since = λ h s p j. ⊎_elim (λ g. inl g) (λ r. inr (stays h.top 2 (λ e. may.clear h p e) r)) (c.rows.since h s p j);
      asked = λ x a u. stays x 2 (apart_from x u) (c.rows.asked x a (was x u));
    };
    grants = record {
      past = c.grants.past;
      row = λ x s h u. let y = c.grants.row x s h (was x u) in (stays x 0 (apart_from x u) y.0, y.1);
      root = λ x s h u. held_still x s u (c.grants.root x s h (put_untold r N2.told x u).1);
      conf = c.grants.conf;
      part = c.grants.part;
      yes = c.grants.yes;
      listed = λ x d h u. c.grants.listed x d h (put_untold r N2.told x u).1;
      acked = λ x m.
          ⊎_elim (λ (h : N2.told x ≡ true). inl (put_rises r N2.told x h)) (λ (h : N2.had x N2.inc ≡ false). inr h) (c.grants.acked x m);
      told = λ x h. ⊎_elim
          (λ (e : x ≡ r). (
            ap (λ n. is_gone (S2.stage n)) e ∙ over.0,
            ap (undecided S2) e ∙ over.1 r (c.roots.serial r may.serial),
            λ s. subst (IsOver S2) (sym e) over,
          ))
          (λ (o : N2.told x ≡ true). c.grants.told x o)
          (put_true r N2.told x h);
    };
    lists = record { had = c.lists.had; kept = λ h k e p u. c.lists.kept h k e p (was h u); plan = c.lists.plan; light = c.lists.light };
    answers = λ a i. answer a (c.answers a i);
    plans = record {
      writer = c.plans.writer;
      asked = λ x s b j. let y = c.plans.asked x s b j in (y.0, y.1, λ e u. y.2 e (was x u));
      loaded = c.plans.loaded;
    };
  }
    where
      answer : (a : Answer) → AnswerMeans S2 N2 a → AnswerMeans S2 M2 a
      answer (Bound x i b l) y = (y.0, y.1, λ q e u. let z = y.2 q e (was x u) in (stays x 0 (apart_from x u) z.0, z.1, z.2, z.3))
      answer (Loaded x i g) y = (y.0, y.1, y.2, λ q e u. y.3 q e (was x u))
