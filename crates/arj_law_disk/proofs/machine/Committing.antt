-- A decision, with the naming node's half: what an open commit and its root's lists count on stays true.
use Rattle.arj_law_disk.proofs.Terms
use Terms.{◌≡◌, ◌⊎◌, ℕ, ◌<◌, ◌≤◌, List, Bool, true, false, cond, ◌==◌, not, Option, Some, None, is_some, nat_lt, unwrap_or, refl, sym, ◌∙◌}
use Terms.{ap, subst, inl, inr, ⊎_elim, arith, Core, Allowed, after, changed, HasRow, IsUntold, IsPresent, IsGranted, Acked, IsOver, Named}
use Terms.{Roots, IsHeld, IsLeaving, IsWide, IsLoad, AnswerMeans, Names, Office, Kept, Answer, Bound, Loaded, acted, Do, or_else, newer}
use Terms.{written_in, load_of, State, Packed, Hold, Gone, naming, is_idle, is_gone, decided, undecided, lists, listed_by, target}
use Terms.{list_after, entry_after, last, last_entry, Known, Below, Listed, IsExcused, has, In, put}
use Terms.Effects
use Rattle.arj_law_disk.proofs.machine
use machine.{History.known_below, History.known_more, Keeps.effect_keeps, Locks.less_cases, Mail.decide_falls, Plain.idle_old}
use machine.{Restarts.write_clears, Stages.Ages, Stages.ages_gone}
use machine.Base.{bool_cases, put_same, test_cases, test_is, test_same, differs, or_left, or_right, or_cases, never, some_is, open_done}
use machine.Base.{open_made, falls_to}
use machine.Kin.{one_top, near, Kin, kin_of, kin_granted, not_over, open_untold}
use machine.Listing.{list_from, list_keeps, list_joins, entry_content, plain_target, list_lacks}
use machine.Retaining.{had_after, had_cases, had_rises, had_root, had_top, kept_cases}
use Rattle.arj_law_disk.specs.machine.{Guards.IsUnretained, Names.Commit, Names.with_list, Names.lists_after}

module _ (A : Office) (c : Named A) (t : ℕ) (x : Allowed A.world (Effects.Decide t)) where
  abbrev S : State
  S = A.world.disk

  abbrev N : Names
  N = A.names

  abbrev V : State
  V = changed S (Effects.Decide t)

  core : Core S
  core = c.whole.core

  open_t : undecided S t ≡ true
  open_t = open_made (decided S t) (S.stage t) (S.intent t) x.1 (inr x.0)

  taken_t : (S.conf t ≡ true) ⊎ (S.light t ≡ true)
  taken_t = core.coordinators.record_taken t x.0

  taken_begun : (a : ℕ) → (S.conf a ≡ true) ⊎ (S.light a ≡ true) → S.begun a ≡ true
  taken_begun a (inl h) = core.fresh.conf a h
  taken_begun a (inr h) = core.fresh.light a h

  begun_t : S.begun t ≡ true
  begun_t = taken_begun t taken_t

  told_open : (a : ℕ) → N.told a ≡ true → (undecided S a ≡ false) × (S.serial a ≡ true → IsOver S a)
  told_open a h = let y = c.grants.told a h in (y.1, y.2)

  untold_t : IsUntold S N t
  untold_t = open_untold S N c.roots told_open t open_t

  ages : Ages S.stage (put t Gone S.stage)
  ages = ages_gone t S.stage

  falls : (a : ℕ) → undecided V a ≡ true → undecided S a ≡ true
  falls a u = decide_falls S t a u

  rises : (a : ℕ) → decided S a ≡ true → decided V a ≡ true
  rises a d = or_right (t == a) (decided S a) d

  now : decided V t ≡ true
  now = or_left (t == t) (decided S t) (test_same t)

  closed : (a : ℕ) → undecided V a ≡ true → a ≡ t → ⊥
  closed a u e = never (subst (λ n. decided V n ≡ true) (sym e) now) (open_done (decided V a) (V.stage a) (V.intent a) u)

  over : (r : ℕ) → IsOver S r → IsOver V r
  over r o = (ages.gone r o.0, λ z e. falls_to (undecided V z) (λ u. never (falls z u) (o.1 z e)))

  -- nobody else of its root is open
  alone : (a : ℕ) → undecided V a ≡ true → S.root a ≡ S.root t → ⊥
  alone a u e = closed a u (c.roots.one a t (falls a u) open_t e)

  -- with its coordinator gone, or as its own root, its root is over afterwards
  over_after : (is_gone (S.stage (S.root t)) ≡ true) ⊎ (S.root t ≡ t) → IsOver V (S.root t)
  over_after (inl g) = (ages.gone (S.root t) g, λ z e. falls_to (undecided V z) (λ u. alone z u e))
  over_after (inr e) =
      (ap (λ n. is_gone (V.stage n)) e ∙ ap is_gone (put_same t Gone S.stage), λ z f. falls_to (undecided V z) (λ u. alone z u f))

  leaving : (r s : ℕ) → IsLeaving S.root (decided S) S.entry_pend r s → IsLeaving S.root (decided V) S.entry_pend r s
  leaving r s y =
      record { by_entry = y.by_entry; there = y.there; done_by = rises y.by_entry.top y.done_by; of_root = y.of_root; lacks = y.lacks }

  entry_light : S.light t ≡ true → last_entry V ≡ last_entry S
  entry_light l = ap (λ b. cond (not b) (entry_after t (S.plan t) (S.got t) (last_entry S)) (last_entry S)) l

  entry_conf : S.light t ≡ false → last_entry V ≡ entry_after t (S.plan t) (S.got t) (last_entry S)
  entry_conf l = ap (λ b. cond (not b) (entry_after t (S.plan t) (S.got t) (last_entry S)) (last_entry S)) l

  -- a store that it includes was prepared with an entry of its own, under the write lock
  joined_row : (s : ℕ) → S.conf t ≡ true → has s (S.plan t).joins ≡ true → S.got t s ≡ true → HasRow N t 2
  joined_row s ct j g = subst (λ n. HasRow N n 2) own.2 (c.rows.adds own.0 s own.1 new (c.rows.out own.0 s own.1 (ap (decided S) own.2
      ∙ x.1) (subst (λ n. has s (S.plan n).joins ≡ true) (sym own.2) j) (subst (λ n. S.got n s ≡ true) (sym own.2) g)))
    where
      own : (h : Hold) × (S.entry_pend ≡ Some h) × (h.top ≡ t)
      own = core.covered.joins t s ct open_t j g

      new : has s own.0.new.content ≡ true
      new = subst (λ l. has s l ≡ true) (sym (ap (λ (e : Packed). e.content) (core.covered.own t own.0 ct open_t own.1 own.2)
          ∙ entry_content t (S.plan t) (S.got t) (last_entry S)))
          (list_joins (S.plan t) (S.got t) (last_entry S).content s j g)

  conf_of : S.light t ≡ false → S.conf t ≡ true
  conf_of l = ⊎_elim (λ (h : S.conf t ≡ true). h) (λ (h : S.light t ≡ true). absurd (never h l)) taken_t

  -- a store of the new last entry was in the old one, or it is included with the write lock
  last_new : (s : ℕ) → has s (last_entry V).content ≡ true → (has s (last_entry S).content ≡ true) ⊎ HasRow N t 2
  last_new s i = by (bool_cases (S.light t))
    where
      by : (S.light t ≡ true) ⊎ (S.light t ≡ false) → (has s (last_entry S).content ≡ true) ⊎ HasRow N t 2
      by (inl l) = inl (subst (λ (e : Packed). has s e.content ≡ true) (entry_light l) i)
      by (inr l) = ⊎_elim
          (λ (y : (has s (last_entry S).content ≡ true) × (target (S.plan t) s ≡ true → S.got t s ≡ true)). inl y.0)
          (λ (y : (has s (S.plan t).joins ≡ true) × (S.got t s ≡ true)). inr (joined_row s (conf_of l) y.0 y.1))
          (list_from (S.plan t) (S.got t) (last_entry S).content s (subst (λ k. has s k ≡ true)
          (ap (λ (e : Packed). e.content) (entry_conf l) ∙ entry_content t (S.plan t) (S.got t) (last_entry S)) i))

  listed_new : (s : ℕ) → Listed V s → Listed S s ⊎ HasRow N t 2
  listed_new s (inl i) = inl (inl i)
  listed_new s (inr i) = ⊎_elim (λ (y : has s (last_entry S).content ≡ true). inl (inr y)) (λ (y : HasRow N t 2). inr y) (last_new s i)

  -- a list that a lock stands behind stays wide
  wide_stays : (r : ℕ) (l : List ℕ) → (HasRow N t 2 → ⊥) → IsWide S r l → IsWide V r l
  wide_stays r l clash w s i = ⊎_elim
      (λ (y : Listed S s).
      ⊎_elim (λ (z : has s l ≡ true). inl z) (λ (z : IsLeaving S.root (decided S) S.entry_pend r s). inr (leaving r s z)) (w s y))
      (λ (y : HasRow N t 2). absurd (clash y))
      (listed_new s i)

  other_root : (r : ℕ) → Kin S N r → (S.root t ≡ r → ⊥) → HasRow N t 2 → ⊥
  other_root r k n row = n (near S N c.roots c.rows r t k row)

  -- a list of its root, with its exclusions taken out and its inclusions added
  family_wide : (l : List ℕ) → ((s : ℕ) → S.light t ≡ true → has s (S.plan t).joins ≡ true → Listed S s → ⊥) → IsWide S (S.root t) l →
      IsWide V (S.root t) (list_after (S.plan t) (S.got t) l)
  family_wide l unlisted w s i = by (bool_cases (S.light t)) i
    where
      Goal : Type 0
      Goal = (has s (list_after (S.plan t) (S.got t) l) ≡ true) ⊎ IsLeaving S.root (decided V) S.entry_pend (S.root t) s

      stays : (target (S.plan t) s ≡ true → S.got t s ≡ true) → (has s l ≡ true) ⊎ IsLeaving S.root (decided S) S.entry_pend (S.root t) s →
          Goal
      stays g (inl y) = inl (list_keeps (S.plan t) (S.got t) l s y g)
      stays g (inr y) = inr (leaving (S.root t) s y)

      light_listed : S.light t ≡ true → Listed S s → Goal
      light_listed y q = stays (λ goal. absurd (unlisted s y (plain_target (S.plan t) s (core.light.plain t y) goal) q)) (w s q)

      light : S.light t ≡ true → Listed V s → Goal
      light y (inl q) = light_listed y (inl q)
      light y (inr q) = light_listed y (inr (subst (λ (e : Packed). has s e.content ≡ true) (entry_light y) q))

      -- an excluded store of the held entry is about to leave it
      excluded : S.conf t ≡ true → has s S.entry.content ≡ true → target (S.plan t) s ≡ true → (o : Option Packed) → (S.plan t).writes ≡ o →
          (S.got t s ≡ true) ⊎ IsLeaving S.root (decided V) S.entry_pend (S.root t) s
      excluded ct q goal None e = ⊎_elim (λ (g : S.got t s ≡ true). inl g)
          (λ (g : S.got t s ≡ false). inr (own_leaves g (core.covered.plain t ct open_t e).1)) (bool_cases (S.got t s))
        where
          own_leaves : S.got t s ≡ false → (h : Hold) × (S.entry_pend ≡ Some h) × (h.top ≡ t) →
              IsLeaving S.root (decided V) S.entry_pend (S.root t) s
          own_leaves g h = record {
            by_entry = h.0;
            there = h.1;
            done_by = subst (λ n. decided V n ≡ true) (sym h.2) now;
            of_root = ap S.root h.2;
            lacks = ap (λ (k : Packed). has s k.content) (core.covered.own t h.0 ct open_t h.1 h.2) ∙ ap (has s)
                (entry_content t (S.plan t) (S.got t) (last_entry S)) ∙ list_lacks (S.plan t) (S.got t) (last_entry S).content s goal g;
          }
      excluded ct q goal (Some p) e = ⊎_elim (λ (g : S.got t s ≡ true). inl g) (λ (y : IsExcused S t s). inr (leaves y y.whose))
          (core.covered.stores t s ct (inl open_t) (ap is_some e) (inl q))
        where
          leaves : (y : IsExcused S t s) → (y.by_entry.top ≡ t) ⊎ ((decided S y.by_entry.top ≡ true) × (S.root y.by_entry.top ≡ S.root t)) →
              IsLeaving S.root (decided V) S.entry_pend (S.root t) s
          leaves y (inl own) = record {
            by_entry = y.by_entry;
            there = y.there;
            done_by = subst (λ n. decided V n ≡ true) (sym own) now;
            of_root = ap S.root own;
            lacks = y.lacks;
          }
          leaves y (inr d) =
              record { by_entry = y.by_entry; there = y.there; done_by = rises y.by_entry.top d.0; of_root = d.1; lacks = y.lacks }

      counts : S.light t ≡ false → Listed V s → Goal
      counts y (inl q) = ⊎_elim
          (λ (goal : target (S.plan t) s ≡ true). ⊎_elim (λ (g : S.got t s ≡ true). stays (λ h. g) (w s (inl q)))
          (λ (z : IsLeaving S.root (decided V) S.entry_pend (S.root t) s). inr z) (excluded (conf_of y) q goal (S.plan t).writes refl))
          (λ (goal : target (S.plan t) s ≡ false). stays (λ h. absurd (never h goal)) (w s (inl q)))
          (bool_cases (target (S.plan t) s))
      counts y (inr q) = ⊎_elim
          (λ (z : (has s (last_entry S).content ≡ true) × (target (S.plan t) s ≡ true → S.got t s ≡ true)). stays z.1 (w s (inr z.0)))
          (λ (z : (has s (S.plan t).joins ≡ true) × (S.got t s ≡ true)). inl (list_joins (S.plan t) (S.got t) l s z.0 z.1))
          (list_from (S.plan t) (S.got t) (last_entry S).content s (subst (λ k. has s k ≡ true)
          (ap (λ (e : Packed). e.content) (entry_conf y) ∙ entry_content t (S.plan t) (S.got t) (last_entry S)) q))

      by : (S.light t ≡ true) ⊎ (S.light t ≡ false) → Listed V s → Goal
      by (inl y) q = light y q
      by (inr y) q = counts y q

  -- which lists there were
  list_cases : (h : ℕ) (k : Kept) → lists_after S t N.kept h ≡ Some k → ((S.root h ≡ S.root t)
      × ((j : Kept) × (N.kept h ≡ Some j) × (k ≡ record { since = j.since; list = list_after (S.plan t) (S.got t) j.list })))
      ⊎ (((S.root h == S.root t) ≡ false) × (N.kept h ≡ Some k))
  list_cases h k = by (S.root h == S.root t) refl
    where
      with_old : S.root h ≡ S.root t → (o : Option Kept) → N.kept h ≡ o → with_list (S.plan t) (S.got t) o ≡ Some k
          → ((S.root h ≡ S.root t)
          × ((j : Kept) × (N.kept h ≡ Some j) × (k ≡ record { since = j.since; list = list_after (S.plan t) (S.got t) j.list })))
          ⊎ (((S.root h == S.root t) ≡ false) × (N.kept h ≡ Some k))
      with_old e None q p = let n : ◌≡◌ {A = Option Kept} None (Some k) = p in cc
      with_old e (Some j) q p = let is : record { since = j.since; list = list_after (S.plan t) (S.got t) j.list } ≡ k = some_is refl p in
          inl (e, (j, q, sym is))

      by : (b : Bool) → (S.root h == S.root t) ≡ b → cond b (with_list (S.plan t) (S.got t) (N.kept h)) (N.kept h) ≡ Some k
          → ((S.root h ≡ S.root t)
          × ((j : Kept) × (N.kept h ≡ Some j) × (k ≡ record { since = j.since; list = list_after (S.plan t) (S.got t) j.list })))
          ⊎ (((S.root h == S.root t) ≡ false) × (N.kept h ≡ Some k))
      by true e p = with_old (test_is (S.root h) (S.root t) e) (N.kept h) refl p
      by false e p = inr (e, p)

  -- a list of another root stays wide
  other_wide : (h : ℕ) (k : Kept) → N.kept h ≡ Some k → (S.root h == S.root t) ≡ false → IsPresent S N h → IsUntold S N h →
      IsOver V (S.root h) ⊎ IsWide V (S.root h) k.list
  other_wide h k old other p u = by (c.lists.kept h k old p u) (kin_of S N core c.roots c.grants.row c.grants.root h
      (subst (λ i. N.had h i ≡ true) (p k.since (inl (c.lists.had h k old))) (c.lists.had h k old)) u)
    where
      by : IsOver S (S.root h) ⊎ IsWide S (S.root h) k.list → IsOver S (S.root h) ⊎ Kin S N (S.root h) →
          IsOver V (S.root h) ⊎ IsWide V (S.root h) k.list
      by (inl o) kin = inl (over (S.root h) o)
      by (inr w) (inl o) = inl (over (S.root h) o)
      by (inr w) (inr kin) =
          inr (wide_stays (S.root h) k.list (other_root (S.root h) kin (λ e. differs (S.root h) (S.root t) other (sym e))) w)

  pub roots_decided : Roots V
  roots_decided = record {
    serial = c.roots.serial;
    plain = c.roots.plain;
    idem = c.roots.idem;
    tops = c.roots.tops;
    one = λ a z u v. c.roots.one a z (falls a u) (falls z v);
  }

  lists_naming : lists S t naming ≡ true
  lists_naming = at (S.intent t) refl x.0
    where
      at : (o : Option (List ℕ)) → S.intent t ≡ o → is_some o ≡ true → lists S t naming ≡ true
      at None e r = let n : false ≡ true = r in cc
      at (Some l) e r = ap (λ o. listed_by o naming) e ∙ core.coordinators.record_names t l e

  decided_cases : (a : ℕ) → decided V a ≡ true → (t ≡ a) ⊎ (decided S a ≡ true)
  decided_cases a d =
      ⊎_elim (λ (e : (t == a) ≡ true). inl (test_is t a e)) (λ (e : decided S a ≡ true). inr e) (or_cases (t == a) (decided S a) d)

  -- the naming node's half after it, with these grants and lists
  module _ (had : ℕ → ℕ → Bool) (kept : ℕ → Option Kept)
      (more : (a i : ℕ) → N.had a i ≡ true → had a i ≡ true)
      (tops : (a i : ℕ) → S.serial a ≡ false → had a i ≡ true → N.had a i ≡ true)
      (some : (a i : ℕ) → had a i ≡ true → (N.had a i ≡ true) ⊎ ((a ≡ S.root t) × (N.had t i ≡ true)))
      (since : (h : ℕ) (k : Kept) → kept h ≡ Some k → had h k.since ≡ true)
      (wide : (h : ℕ) (k : Kept) → kept h ≡ Some k → ((i : ℕ) → (had h i ≡ true) ⊎ (had (S.root h) i ≡ true) → i ≡ N.inc) → IsUntold S N h →
      IsOver V (S.root h) ⊎ IsWide V (S.root h) k.list)
    where
      abbrev M : Names
      M = record N { had = had; kept = kept }

      present : (a : ℕ) → IsPresent V M a → IsPresent S N a
      present a p i (inl h) = p i (inl (more a i h))
      present a p i (inr h) = p i (inr (more (S.root a) i h))

      either : (a i : ℕ) → (N.had a i ≡ true) ⊎ (N.had (S.root a) i ≡ true) → (had a i ≡ true) ⊎ (had (S.root a) i ≡ true)
      either a i (inl h) = inl (more a i h)
      either a i (inr h) = inr (more (S.root a) i h)

      held : (r : ℕ) → IsHeld S N r → IsHeld V M r
      held r (inl o) = inl (over r o)
      held r (inr (inl y)) = inr (inl y)
      held r (inr (inr (y, e, inl d, u, h))) = inr (inr (y, e, inl (rises y d), u, more y N.inc h))
      held r (inr (inr (y, e, inr d, u, h))) = inr (inr (y, e, inr d, u, more y N.inc h))

      top_of : (a : ℕ) → (S.conf a ≡ true) ⊎ (S.light a ≡ true) → S.serial a ≡ false
      top_of a y = c.roots.tops a (taken_begun a y)

      granted : (a i : ℕ) → (N.had a i ≡ true) ⊎ (N.had (S.root a) i ≡ true) → i ≡ N.inc → IsGranted S N a
      granted a i (inl h) e = inl (subst (λ n. N.had a n ≡ true) e h)
      granted a i (inr h) e = inr (subst (λ n. N.had (S.root a) n ≡ true) e h)

      -- an open top with a grant has a lock in its root that the write lock conflicts with
      clash_open : (a i : ℕ) → undecided V a ≡ true → (N.had a i ≡ true) ⊎ (N.had (S.root a) i ≡ true) → i ≡ N.inc → HasRow N t 2 → ⊥
      clash_open a i u h e = ⊎_elim
          (λ (o : IsOver S (S.root a)). absurd (not_over S a (falls a u) o))
          (λ (k : Kin S N (S.root a)). other_root (S.root a) k (λ f. alone a u (sym f)))
          (kin_granted S N core c.roots c.grants.row c.grants.root a (granted a i h e) (open_untold S N c.roots told_open a (falls a u)))

      idle : (a : ℕ) → is_idle (V.stage a) ≡ true → is_idle (S.stage a) ≡ true
      idle a q = idle_old S.stage (put t Gone S.stage) ages a q

      -- a loaded state is the last one, or the root has it now
      load : (a : ℕ) (g : Packed) → Known S g → IsLoad S a g → IsLoad V a g
      load a g known y = (by (bool_cases (S.light t)), λ z cz uz. y.1 z cz (falls z uz))
        where
          w0 : Option Packed
          w0 = written_in S.root (S.root a) S.tops

          none : (S.plan t).writes ≡ None → last V ≡ load_of V a g
          none e = ap (λ o. unwrap_or o (last S)) e
              ∙ (y.0 ∙ ap (newer g) (sym (ap (λ o. cond (S.root t == S.root a) (or_else o w0) w0) e ∙ same (S.root t == S.root a))))
            where
              same : (b : Bool) → cond b (or_else None w0) w0 ≡ w0
              same true = refl
              same false = refl

          some_written : (w : Packed) → (S.plan t).writes ≡ Some w → S.conf t ≡ true → last V ≡ load_of V a g
          some_written w e ct =
              ap (λ o. unwrap_or o (last S)) e ∙ (sym newest ∙ ap (newer g) (sym (ap (λ o. cond (S.root t == S.root a) (or_else o w0) w0) e
              ∙ ap (λ b. cond b (Some w) w0) (subst (λ n. (S.root t == n) ≡ true) (y.1 t ct open_t) (test_same (S.root t))))))
            where
              low : Below g (last S) → g.version < w.version
              low (inl less) = omega (arith, less, core.alone.next t w ct open_t e)
              low (inr is) = omega (arith, ap (λ (z : Packed). z.version) is, core.alone.next t w ct open_t e)

              newest : newer g (Some w) ≡ w
              newest = ⊎_elim
                  (λ (z : (nat_lt g.version w.version ≡ true) × (g.version < w.version)). ap (λ b. cond b w g) z.0)
                  (λ (z : (nat_lt g.version w.version ≡ false) × (w.version ≤ g.version)).
                  absurd (omega (arith, z.1, low (known_below S g core.history known))))
                  (less_cases g.version w.version)

          written : (o : Option Packed) → (S.plan t).writes ≡ o → S.conf t ≡ true → last V ≡ load_of V a g
          written None e ct = none e
          written (Some w) e ct = some_written w e ct

          by : (S.light t ≡ true) ⊎ (S.light t ≡ false) → last V ≡ load_of V a g
          by (inl l) = none (core.light.plain t l)
          by (inr l) = written (S.plan t).writes refl (conf_of l)

      answer : (a : Answer) → AnswerMeans S N a → AnswerMeans V M a
      answer (Bound a i b l) y = (
        y.0,
        y.1,
        λ q e u. let z = y.2 (idle a q) e u in (
          z.0,
          z.1,
          wide_stays (S.root a) l (clash q z.0) z.2,
          λ f. let v = z.3 f in (v.0, λ s k. stays q (c.rows.asked a v.0 u) s (v.1 s k)),
        ),
      )
        where
          clash : is_idle (V.stage a) ≡ true → HasRow N a 0 → HasRow N t 2 → ⊥
          clash q (m, row, low) (n, also, high) =
              let e = one_top S c.roots a t y.0 (c.roots.tops t begun_t) (c.rows.apart a t m n row also (omega (arith, high))) in
              never (idle a q) (ap (λ k. is_idle (S.stage k)) e ∙ core.fresh.begun t begun_t)

          stays : is_idle (V.stage a) ≡ true → HasRow N a 2 → (s : ℕ) → has s (last_entry S).content ≡ true →
              has s (last_entry V).content ≡ true
          stays q row s k = subst (λ (e : Packed). has s e.content ≡ true) (sym (by (bool_cases (S.light t)))) k
            where
              by : (S.light t ≡ true) ⊎ (S.light t ≡ false) → last_entry V ≡ last_entry S
              by (inl l2) = entry_light l2
              by (inr l2) = entry_conf l2 ∙ core.covered.rest t (conf_of l2) open_t (λ h p e. write_clears A c a y.0 (idle a q) row h p)
      answer (Loaded a i g) y = (y.0, y.1, known_more S t g y.2, λ q e u. let z = y.3 (idle a q) e u in (z.0, load a g y.2 z.1))

      pub decided_named : (acked : (a : ℕ) → In (Acked a naming) A.world.sent → (N.told a ≡ true) ⊎ (had a N.inc ≡ false)) →
          (root : (r : ℕ) → S.serial r ≡ true → had r N.inc ≡ true → N.told r ≡ false → IsHeld V M r)
          → Named (record { world = after A.world (Effects.Decide t); names = M })
      decided_named acked root = record {
        whole = effect_keeps A.world (Effects.Decide t) x c.whole;
        roots = roots_decided;
        rows = record {
          apart = c.rows.apart;
          alone = c.rows.alone;
          dead = c.rows.dead;
          given = λ a g. let y = c.rows.given a g in
              (y.0, y.1, falls_to (had a N.inc) (λ h. never (tops a N.inc (c.roots.tops a y.1) h) y.2));
          guard = c.rows.guard;
          adds = c.rows.adds;
          out = λ h s p d. c.rows.out h s p (falls_to (decided S h.top) (λ e. never (rises h.top e) d));
          since = c.rows.since;
          asked = c.rows.asked;
        };
        grants = record {
          past = λ a i h. ⊎_elim (λ (o : N.had a i ≡ true). c.grants.past a i o)
              (λ (o : (a ≡ S.root t) × (N.had t i ≡ true)). c.grants.past t i o.1) (some a i h);
          row = λ a s h u. c.grants.row a s (tops a N.inc s h) u;
          root = root;
          conf = λ a y h. c.grants.conf a y (tops a N.inc (top_of a y) h);
          part = λ a y p. let z = c.grants.part a y p in (z.0, either a z.0 z.1, z.2);
          yes = λ a h. let y = c.grants.yes a h in (y.0, λ u. y.1 (falls a u));
          listed = λ a d h u. ⊎_elim
              (λ (e : t ≡ a). subst (λ n. lists S n naming ≡ true) e lists_naming)
              (λ (e : decided S a ≡ true). c.grants.listed a e (tops a N.inc (top_of a (core.coordinators.decided_taken a e)) h) u)
              (decided_cases a d);
          acked = acked;
          told = λ a h. let y = c.grants.told a h in
              (ages.gone a y.0, falls_to (undecided V a) (λ u. never (falls a u) y.1), λ s. over a (y.2 s));
        };
        lists = record {
          had = since;
          kept = λ h k e p u. wide h k e p u;
          plan = λ a u w. let y = c.lists.plan a (falls a u) w in (
            y.0,
            either a y.0 y.1,
            λ p. wide_stays (S.root a) (S.plan a).list (clash_open a y.0 u y.1 (present a p y.0 y.1)) (y.2 (present a p)),
          );
          light = λ a s l u p j i. ⊎_elim
              (λ (o : Listed S s). c.lists.light a s l (falls a u) (present a p) j o)
              (λ (row : HasRow N t 2). let z = c.grants.part a (inr l) (inr (s, j)) in clash_open a z.0 u z.1 (present a p z.0 z.1) row)
              (listed_new s i);
        };
        answers = λ a m. answer a (c.answers a m);
        plans = record {
          writer = c.plans.writer;
          asked = λ a s b j. let y = c.plans.asked a s b j in (y.0, more a y.0 y.1, y.2);
          loaded = λ a s u j p. let y = c.plans.loaded a s (falls a u) j (present a p) in
              (y.0 ∙ same a u y.1, λ z cz uz. y.1 z cz (falls z uz));
        };
      }
        where
          -- the last state stays, since the one that is decided isn't confirmed as one that counts
          same : (a : ℕ) → undecided V a ≡ true → ((z : ℕ) → S.conf z ≡ true → undecided S z ≡ true → z ≡ a) → last S ≡ last V
          same a u only = ⊎_elim
              (λ (ct : S.conf t ≡ true). absurd (closed a u (sym (only t ct open_t))))
              (λ (l : S.light t ≡ true). sym (ap (λ o. unwrap_or o (last S)) (core.light.plain t l)))
              taken_t

pub decide_named : (A : Office) (t : ℕ) → Allowed A.world (Effects.Decide t) → IsUnretained A.world.disk t → Named A →
    Named (acted A (Do (Effects.Decide t)))
decide_named A t x free c =
    decided_named A c t x N.had (lists_after S t N.kept) (λ a i h. h) (λ a i s h. h) (λ a i h. inl h) since wide c.grants.acked (λ r s h u.
    held A c t x N.had (lists_after S t N.kept) (λ a i h. h) (λ a i s h. h) (λ a i h. inl h) since wide r (c.grants.root r s h u))
  where
    S : State
    S = A.world.disk

    N : Names
    N = A.names

    V : State
    V = changed S (Effects.Decide t)

    since : (h : ℕ) (k : Kept) → lists_after S t N.kept h ≡ Some k → N.had h k.since ≡ true
    since h k e = by (list_cases A c t x h k e)
      where
        by : ((S.root h ≡ S.root t)
            × ((j : Kept) × (N.kept h ≡ Some j) × (k ≡ record { since = j.since; list = list_after (S.plan t) (S.got t) j.list })))
            ⊎ (((S.root h == S.root t) ≡ false) × (N.kept h ≡ Some k)) → N.had h k.since ≡ true
        by (inl (f, (j, old, is))) = ap (λ (y : Kept). N.had h y.since) is ∙ c.lists.had h j old
        by (inr (f, old)) = c.lists.had h k old

    wide : (h : ℕ) (k : Kept) → lists_after S t N.kept h ≡ Some k → ((i : ℕ) → (N.had h i ≡ true) ⊎ (N.had (S.root h) i ≡ true) → i ≡ N.inc)
        → IsUntold S N h → IsOver V (S.root h) ⊎ IsWide V (S.root h) k.list
    wide h k e p u = by (list_cases A c t x h k e)
      where
        free_wide : S.root h ≡ S.root t →
            (j : Kept) × (N.kept h ≡ Some j) × (k ≡ record { since = j.since; list = list_after (S.plan t) (S.got t) j.list }) →
            IsUnretained S t → IsOver V (S.root h) ⊎ IsWide V (S.root h) k.list
        free_wide f j (inl gone) = inl (subst (IsOver V) (sym f) (over_after A c t x (inl gone)))
        free_wide f j (inr (inl own)) = inl (subst (IsOver V) (sym f) (over_after A c t x (inr own)))
        free_wide f (j, old, is) (inr (inr none)) = inr (subst (λ (y : Kept). IsWide V (S.root h) y.list) (sym is) (subst (λ n. IsWide V n
            (list_after (S.plan t) (S.got t) j.list)) (sym f) (family_wide A c t x j.list (λ s l q. absurd (none (inr (s, q)))) (⊎_elim
            (λ (o : IsOver S (S.root h)). absurd (not_over S t (open_t A c t x) (subst (IsOver S) f o)))
            (λ (w : IsWide S (S.root h) j.list). subst (λ n. IsWide S n j.list) f w)
            (c.lists.kept h j old p u)))))

        by : ((S.root h ≡ S.root t)
            × ((j : Kept) × (N.kept h ≡ Some j) × (k ≡ record { since = j.since; list = list_after (S.plan t) (S.got t) j.list })))
            ⊎ (((S.root h == S.root t) ≡ false) × (N.kept h ≡ Some k)) → IsOver V (S.root h) ⊎ IsWide V (S.root h) k.list
        by (inl (f, j)) = free_wide f j free
        by (inr (f, old)) = other_wide A c t x h k old f p u

pub commit_named : (A : Office) (t : ℕ) → Allowed A.world (Effects.Decide t) → Named A → Named (acted A (Commit t))
commit_named A t x c = decided_named A c t x had kept more (λ a i s h. had_top S t N.had c.roots a i s h)
    (λ a i h. had_cases S t N.had a i h) since wide acked root
  where
    S : State
    S = A.world.disk

    N : Names
    N = A.names

    V : State
    V = changed S (Effects.Decide t)

    r : ℕ
    r = S.root t

    had : ℕ → ℕ → Bool
    had = had_after S t N.had

    listed : ℕ → Option Kept
    listed = lists_after S t N.kept

    kept : ℕ → Option Kept
    kept = put r (or_else (listed r) (listed t)) listed

    more : (a i : ℕ) → N.had a i ≡ true → had a i ≡ true
    more a i h = had_rises S t N.had a i h

    -- with the root's grants of the present, the top's are
    present_t : (h : ℕ) → S.root h ≡ r → ((i : ℕ) → (had h i ≡ true) ⊎ (had (S.root h) i ≡ true) → i ≡ N.inc) → IsPresent S N t
    present_t h e p i (inl y) = p i (inr (ap (λ n. had n i) e ∙ had_root S t N.had i y))
    present_t h e p i (inr y) = p i (inr (ap (λ n. had n i) e ∙ more r i y))

    present : (h : ℕ) → ((i : ℕ) → (had h i ≡ true) ⊎ (had (S.root h) i ≡ true) → i ≡ N.inc) → IsPresent S N h
    present h p i (inl y) = p i (inl (more h i y))
    present h p i (inr y) = p i (inr (more (S.root h) i y))

    since_of : (a : ℕ) (k : Kept) → listed a ≡ Some k → N.had a k.since ≡ true
    since_of a k e = by (list_cases A c t x a k e)
      where
        by : ((S.root a ≡ S.root t)
            × ((j : Kept) × (N.kept a ≡ Some j) × (k ≡ record { since = j.since; list = list_after (S.plan t) (S.got t) j.list })))
            ⊎ (((S.root a == S.root t) ≡ false) × (N.kept a ≡ Some k)) → N.had a k.since ≡ true
        by (inl (f, (j, old, is))) = ap (λ (y : Kept). N.had a y.since) is ∙ c.lists.had a j old
        by (inr (f, old)) = c.lists.had a k old

    since : (h : ℕ) (k : Kept) → kept h ≡ Some k → had h k.since ≡ true
    since h k e = ⊎_elim
        (λ (y : listed h ≡ Some k). more h k.since (since_of h k y))
        (λ (y : (h ≡ r) × (listed t ≡ Some k)). ap (λ n. had n k.since) y.0 ∙ had_root S t N.had k.since (since_of t k y.1))
        (kept_cases S t listed h k e)

    -- a list of the root's actions
    own_wide : (a : ℕ) (k : Kept) → S.root a ≡ r → listed a ≡ Some k → IsPresent S N a → IsUntold S N a → IsPresent S N t →
        IsWide V r k.list
    own_wide a k e l p u pt = by (list_cases A c t x a k l)
      where
        by : ((S.root a ≡ S.root t)
            × ((j : Kept) × (N.kept a ≡ Some j) × (k ≡ record { since = j.since; list = list_after (S.plan t) (S.got t) j.list })))
            ⊎ (((S.root a == S.root t) ≡ false) × (N.kept a ≡ Some k)) → IsWide V r k.list
        by (inr (f, old)) = absurd (differs (S.root a) (S.root t) f e)
        by (inl (f, (j, old, is))) = subst (λ (y : Kept). IsWide V r y.list) (sym is)
            (family_wide A c t x j.list (λ s l q. c.lists.light t s l (open_t A c t x) pt q) (⊎_elim
            (λ (o : IsOver S (S.root a)). absurd (not_over S t (open_t A c t x) (subst (IsOver S) f o)))
            (λ (w : IsWide S (S.root a) j.list). subst (λ n. IsWide S n j.list) f w)
            (c.lists.kept a j old p u)))

    wide : (h : ℕ) (k : Kept) → kept h ≡ Some k → ((i : ℕ) → (had h i ≡ true) ⊎ (had (S.root h) i ≡ true) → i ≡ N.inc) → IsUntold S N h →
        IsOver V (S.root h) ⊎ IsWide V (S.root h) k.list
    wide h k e p u = by (kept_cases S t listed h k e)
      where
        from_root : (h ≡ r) × (listed t ≡ Some k) → IsOver V (S.root h) ⊎ IsWide V (S.root h) k.list
        from_root (is, l) =
            let f : S.root h ≡ r = ap S.root is ∙ c.roots.idem t in
            let pt = present_t h f p in
            inr (subst (λ n. IsWide V n k.list) (sym f) (own_wide t k refl l pt (untold_t A c t x) pt))

        at : listed h ≡ Some k → (S.root h ≡ r) ⊎ ((S.root h == r) ≡ false) → IsOver V (S.root h) ⊎ IsWide V (S.root h) k.list
        at l (inl f) = inr (subst (λ n. IsWide V n k.list) (sym f) (own_wide h k f l (present h p) u (present_t h f p)))
        at l (inr f) = other_wide A c t x h k (old (list_cases A c t x h k l)) f (present h p) u
          where
            old : ((S.root h ≡ S.root t)
                × ((j : Kept) × (N.kept h ≡ Some j) × (k ≡ record { since = j.since; list = list_after (S.plan t) (S.got t) j.list })))
                ⊎ (((S.root h == S.root t) ≡ false) × (N.kept h ≡ Some k)) → N.kept h ≡ Some k
            old (inl (g, j)) = absurd (differs (S.root h) (S.root t) f g)
            old (inr (g, o)) = o

        by : (listed h ≡ Some k) ⊎ ((h ≡ r) × (listed t ≡ Some k)) → IsOver V (S.root h) ⊎ IsWide V (S.root h) k.list
        by (inl l) = at l (test_cases (S.root h) r)
        by (inr y) = from_root y

    acked : (a : ℕ) → In (Acked a naming) A.world.sent → (N.told a ≡ true) ⊎ (had a N.inc ≡ false)
    acked a m = ⊎_elim
        (λ (h : N.told a ≡ true). inl h)
        (λ (h : N.had a N.inc ≡ false). inr (falls_to (had a N.inc) (λ y. never (had_top S t N.had c.roots a N.inc
        (c.roots.tops a (taken_begun A c t x a (c.whole.core.coordinators.decided_taken a (c.whole.mail (Acked a naming) m).0))) y) h)))
        (c.grants.acked a m)

    root : (a : ℕ) → S.serial a ≡ true → had a N.inc ≡ true → N.told a ≡ false → IsHeld V (record N { had = had; kept = kept }) a
    root a s h u = ⊎_elim
        (λ (y : N.had a N.inc ≡ true). held A c t x had kept more (λ b i z q. had_top S t N.had c.roots b i z q)
        (λ b i q. had_cases S t N.had b i q) since wide a (c.grants.root a s y u))
        (λ (y : (a ≡ r) × (N.had t N.inc ≡ true)). inr (inr (t, sym y.0, inl (now A c t x), (untold_t A c t x).0, more t N.inc y.1)))
        (had_cases S t N.had a N.inc h)
