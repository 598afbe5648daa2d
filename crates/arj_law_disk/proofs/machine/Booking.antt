-- What a confirmation counts on follows from the locks, the lists and the stores, with the next version, which servers give.
use Rattle.arj_law_disk.proofs.Terms
use Terms.{◌≡◌, ◌⊎◌, ℕ, ◌+◌, List, [], ◌∷◌, Bool, true, false, ◌==◌, ◌&&◌, not, Option, Some, None, is_some, refl, sym, ◌∙◌, ap, subst, inl}
use Terms.{inr, ⊎_elim, arith, bytes_eq, Core, Locked, IsClear, new_list, HasRow, HasPresent, IsPresent, IsGranted, HasPart, MayConfirm}
use Terms.{Confirm, IsOver, Named, IsLeaving, Names, Office, State, Packed, Plan, Hold, decided, undecided, target, list_after, last}
use Terms.{last_entry, Listed, IsExcused, has}
use Rattle.arj_law_disk.proofs.machine
use machine.{Entries.pending_last, History.effective_none, History.effective_open}
use machine.Base.{bool_cases, test_cases, differs, or_left, never, never_some, some_is, falls_to}
use machine.Kin.{one_top, near, weaker_row, Kin, kin_granted, not_over}
use machine.Listing.{find_true, list_from, list_lacks, list_same, list_is, same_list, plain_target}
use Rattle.arj_law_disk.specs.machine.Guards.{IsNext}

-- where the list stays, each listed target has prepared
pub unchanged_got : (p : Plan) (got : ℕ → Bool) (l : List ℕ) (s : ℕ) → bytes_eq (list_after p got l) l ≡ true → has s l ≡ true →
    target p s ≡ true → got s ≡ true
unchanged_got p got l s same i goal = ⊎_elim
    (λ (g : got s ≡ true). g)
    (λ (g : got s ≡ false).
    absurd (never (subst (λ k. has s k ≡ true) (sym (same_list (list_after p got l) l same)) i) (list_lacks p got l s goal g)))
    (bool_cases (got s))

-- a list has a number, or is empty
some_or_none : (l : List ℕ) → ((s : ℕ) × (has s l ≡ true)) ⊎ ((s : ℕ) → has s l ≡ false)
some_or_none [] = inr (λ s. refl)
some_or_none (x ∷ l) = inl (x, or_left (x == x) (has x l) (same x))
  where
    same : (n : ℕ) → (n == n) ≡ true
    same n = ⊎_elim (λ (e : n ≡ n). by_cases n) (λ (e : (n == n) ≡ false). absurd (differs n n e refl)) (test_cases n n)
      where
        by_cases : (n : ℕ) → (n == n) ≡ true
        by_cases n = ⊎_elim (λ (e : (n == n) ≡ true). e) (λ (e : (n == n) ≡ false). absurd (differs n n e refl)) (bool_cases (n == n))

written_target : (p : Plan) (s : ℕ) → is_some p.writes ≡ true → has s p.list ≡ true → target p s ≡ true
written_target p s w i = or_left (is_some p.writes && has s p.list) (has s p.joins) (rw (w, i))

module _ (A : Office) (c : Named A) (t : ℕ) (may : MayConfirm A t) (present : HasPart (A.world.disk.plan t) →
    HasPresent A.world.disk A.names t) where
  abbrev S : State
  S = A.world.disk

  abbrev N : Names
  N = A.names

  core : Core S
  core = c.whole.core

  pub begun : S.begun t ≡ true
  begun = (c.whole.mail (Confirm t) may.asked).0

  pub top : S.serial t ≡ false
  top = c.roots.tops t begun

  -- it wasn't confirmed before
  pub unconfirmed : HasPart (S.plan t) → (S.conf t ≡ true) ⊎ (S.light t ≡ true) → ⊥
  unconfirmed part taken = may.fresh part taken

  -- while its outcome is open all grants are of the present incarnation
  now_present : HasPart (S.plan t) → undecided S t ≡ true → IsPresent S N t
  now_present part u = (present part).all u

  pub undone : HasPart (S.plan t) → decided S t ≡ false
  undone part = falls_to (decided S t) (λ d. unconfirmed part (core.coordinators.decided_taken t d))

  -- no store that it marked stands in a prepared entry
  pub clear : IsClear S t
  clear h s p i goal = ⊎_elim (λ (g : S.got t s ≡ true). g)
      (λ (g : S.got t s ≡ false). absurd (by (may.exclude s goal g (inr (h, p, i))) (c.rows.guard h p))) (bool_cases (S.got t s))
    where
      by : HasRow N t 1 → HasRow N h.top 1 × (N.told h.top ≡ false) × (N.confd h.top ≡ true) → ⊥
      by (m, row, low) ((n, other, also), told, conf) =
          let e = one_top S c.roots t h.top top (c.roots.tops h.top (core.fresh.entry h p))
          (c.rows.apart t h.top m n row other (omega (arith, low, also))) in
          never conf (ap N.confd (sym e) ∙ may.new)

  -- it has a grant of the present incarnation, or its root retains one
  pub granted : HasPart (S.plan t) → undecided S t ≡ true → IsGranted S N t
  granted part u = of part
    where
      now : (i : ℕ) → (N.had t i ≡ true) ⊎ (N.had (S.root t) i ≡ true) → i ≡ N.inc → IsGranted S N t
      now i (inl h) e = inl (subst (λ n. N.had t n ≡ true) e h)
      now i (inr h) e = inr (subst (λ n. N.had (S.root t) n ≡ true) e h)

      of : HasPart (S.plan t) → IsGranted S N t
      of (inl wrote) = let x = c.lists.plan t u wrote in now x.0 x.1 (now_present part u x.0 x.1)
      of (inr (s, j)) = let x = c.plans.asked t s begun j in now x.0 (inl x.1) (now_present part u x.0 (inl x.1))

  -- its root has a lock
  pub kin : HasPart (S.plan t) → undecided S t ≡ true → Kin S N (S.root t)
  kin part u = ⊎_elim (λ (o : IsOver S (S.root t)). absurd (not_over S t u o)) (λ (k : Kin S N (S.root t)). k)
      (kin_granted S N core c.roots c.grants.row c.grants.root t (granted part u) may.untold)

  -- who has the write lock is of its root, and so not open beside it
  pub no_writer : HasPart (S.plan t) → undecided S t ≡ true → (z : ℕ) → undecided S z ≡ true → (z ≡ t → ⊥) → HasRow N z 2 → ⊥
  no_writer part u z uz other row = other (c.roots.one z t uz u (near S N c.roots c.rows (S.root t) z (kin part u) row))

  other_conf : HasPart (S.plan t) → (z : ℕ) → S.conf z ≡ true → z ≡ t → ⊥
  other_conf part z cz e = unconfirmed part (inl (ap S.conf (sym e) ∙ cz))

  -- another confirmed top that didn't write has its entry prepared, with the write lock, or with one that a restart gave back
  -- and beside which nobody has another
  plain_alone : HasPart (S.plan t) → undecided S t ≡ true → (z : ℕ) → S.conf z ≡ true → undecided S z ≡ true → (S.plan z).writes ≡ None → ⊥
  plain_alone part u z cz uz plain =
      by (c.rows.since own.0 joined.0 own.1 (subst (λ n. has joined.0 (S.plan n).joins ≡ true) (sym own.2) joined.1))
    where
      joined : (s : ℕ) × (has s (S.plan z).joins ≡ true)
      joined = (core.covered.plain z cz uz plain).0

      own : (h : Hold) × (S.entry_pend ≡ Some h) × (h.top ≡ z)
      own = (core.covered.plain z cz uz plain).1

      lone : N.given z ≡ true → Kin S N (S.root t) → z ≡ t
      lone given (h, of_root, (m, row, low)) = c.roots.one z t uz u (ap S.root (sym (c.rows.alone z h m given row)) ∙ of_root)

      by : (N.given own.0.top ≡ true) ⊎ HasRow N own.0.top 2 → ⊥
      by (inl given) = other_conf part z cz (lone (ap N.given (sym own.2) ∙ given) (kin part u))
      by (inr row) = no_writer part u z uz (other_conf part z cz) (subst (λ n. HasRow N n 2) own.2 row)

  -- a store that has prepared for it and is listed, and isn't about to leave for the other, shows that there is no other
  by_store : HasPart (S.plan t) → undecided S t ≡ true → (z s : ℕ) → S.conf z ≡ true → undecided S z ≡ true →
      is_some (S.plan z).writes ≡ true → has s (last_entry S).content ≡ true → S.got t s ≡ true → (IsExcused S z s → ⊥) → ⊥
  by_store part u z s cz uz wrote listed got unexcused = ⊎_elim
      (λ (g : S.got z s ≡ true).
      other_conf part z cz (ap (λ (h : Hold). h.top) (some_is (core.firm.kept z s uz g) (core.firm.kept t s u got))))
      (λ (x : IsExcused S z s). unexcused x)
      (core.covered.stores z s cz (inl uz) wrote (inr listed))

  -- what it includes is the last state, and then it is alone
  pub loaded : HasPart (S.plan t) → undecided S t ≡ true → (s : ℕ) → has s (S.plan t).joins ≡ true →
      ((S.plan t).loaded ≡ last S) × ((z : ℕ) → S.conf z ≡ true → undecided S z ≡ true → z ≡ t)
  loaded part u s j = c.plans.loaded t s u j (now_present part u)

  -- each listed store is in its list, or about to leave
  pub wide : HasPart (S.plan t) → undecided S t ≡ true → (s : ℕ) → is_some (S.plan t).writes ≡ true → Listed S s →
      (target (S.plan t) s ≡ true) ⊎ IsLeaving S.root (decided S) S.entry_pend (S.root t) s
  wide part u s wrote listed = ⊎_elim
      (λ (i : has s (S.plan t).list ≡ true). inl (written_target (S.plan t) s wrote i))
      (λ (x : IsLeaving S.root (decided S) S.entry_pend (S.root t) s). inr x)
      ((c.lists.plan t u wrote).2 (now_present part u) s listed)

  excuse : (s : ℕ) → IsLeaving S.root (decided S) S.entry_pend (S.root t) s → IsExcused S t s
  excuse s x = record { by_entry = x.by_entry; there = x.there; whose = inr (x.done_by, x.of_root); lacks = x.lacks }

  -- all that a confirmation counts on, from: for another one that wrote, such a store; and the next version
  locked_from : HasPart (S.plan t) → (u : undecided S t ≡ true)
      → (((s : ℕ) → has s (S.plan t).joins ≡ false) → (z : ℕ) → S.conf z ≡ true → undecided S z ≡ true →
      is_some (S.plan z).writes ≡ true → ⊥)
      → ((w : Packed) → (S.plan t).writes ≡ Some w → w.version ≡ (last S).version + 1) → Locked S t
  locked_from part u alone next = record {
    unconfirmed = falls_to (S.conf t) (λ h. unconfirmed part (inl h));
    not_light = falls_to (S.light t) (λ h. unconfirmed part (inr h));
    alone = λ z cz uz. ⊎_elim
        (λ (x : (s : ℕ) × (has s (S.plan t).joins ≡ true)). other_conf part z cz ((loaded part u x.0 x.1).1 z cz uz))
        (λ (none : (s : ℕ) → has s (S.plan t).joins ≡ false). by none z cz uz (S.plan z).writes refl)
        (some_or_none (S.plan t).joins);
    next = next;
    loaded = λ s j. (loaded part u s j).0;
    wide = λ s wrote l. ⊎_elim (λ (g : target (S.plan t) s ≡ true). inl g)
        (λ (x : IsLeaving S.root (decided S) S.entry_pend (S.root t) s). inr (excuse s x)) (wide part u s wrote l);
  }
    where
      by : ((s : ℕ) → has s (S.plan t).joins ≡ false) → (z : ℕ) → S.conf z ≡ true → undecided S z ≡ true → (o : Option Packed) →
          (S.plan z).writes ≡ o → ⊥
      by none z cz uz None e = plain_alone part u z cz uz e
      by none z cz uz (Some w) e = alone none z cz uz (ap is_some e)

  -- a writer whose list stays
  pub agree_locked : is_some (S.plan t).writes ≡ true → bytes_eq (new_list S t) S.entry.content ≡ true → IsNext S t → undecided S t ≡ true →
      Locked S t
  agree_locked wrote same next u = locked_from part u (λ none z cz uz wz. alone z cz uz wz S.entry_pend refl) (next u)
    where
      part : HasPart (S.plan t)
      part = inl wrote

      held_got : (s : ℕ) → has s S.entry.content ≡ true → (IsLeaving S.root (decided S) S.entry_pend (S.root t) s → ⊥) → S.got t s ≡ true
      held_got s i stays = ⊎_elim
          (λ (g : target (S.plan t) s ≡ true). unchanged_got (S.plan t) (S.got t) S.entry.content s same i g)
          (λ (x : IsLeaving S.root (decided S) S.entry_pend (S.root t) s). absurd (stays x))
          (wide part u s wrote (inl i))

      -- with a decided top's prepared entry: a store of it
      of_pending : (h : Hold) (s : ℕ) → S.entry_pend ≡ Some h → has s h.new.content ≡ true → Listed S s → S.got t s ≡ true
      of_pending h s p i l = ⊎_elim
          (λ (g : target (S.plan t) s ≡ true). clear h s p i g)
          (λ (x : IsLeaving S.root (decided S) S.entry_pend (S.root t) s).
          absurd (never i (ap (λ (k : Hold). has s k.new.content) (some_is p x.there) ∙ x.lacks)))
          (wide part u s wrote l)

      -- the entry that no decided top is about to replace is the last one
      is_last : (o : Option Hold) → S.entry_pend ≡ o → ((h : Hold) → S.entry_pend ≡ Some h → decided S h.top ≡ false) →
          S.entry ≡ last_entry S
      is_last None p n = sym (effective_none (decided S) (λ (e : Packed). e) S.entry_pend S.entry p) ∙ core.effective.entry
      is_last (Some h) p n = sym (effective_open (decided S) (λ (e : Packed). e) S.entry_pend h S.entry p (n h p)) ∙ core.effective.entry

      undecided_leaving : ((h : Hold) → S.entry_pend ≡ Some h → decided S h.top ≡ false) → (s : ℕ) →
          IsLeaving S.root (decided S) S.entry_pend (S.root t) s → ⊥
      undecided_leaving n s x = never x.done_by (n x.by_entry x.there)

      -- the entry's own store
      held_store : ((h : Hold) → S.entry_pend ≡ Some h → decided S h.top ≡ false) →
          (has core.pending.held.0 (last_entry S).content ≡ true) × (S.got t core.pending.held.0 ≡ true)
      held_store n = (
        subst (λ (e : Packed). has core.pending.held.0 e.content ≡ true) (is_last S.entry_pend refl n) core.pending.held.1,
        held_got core.pending.held.0 core.pending.held.1 (undecided_leaving n core.pending.held.0),
      )

      only : (h : Hold) → S.entry_pend ≡ Some h → decided S h.top ≡ false → (k : Hold) → S.entry_pend ≡ Some k → decided S k.top ≡ false
      only h p n k q = ap (λ (x : Hold). decided S x.top) (some_is q p) ∙ n

      alone : (z : ℕ) → S.conf z ≡ true → undecided S z ≡ true → is_some (S.plan z).writes ≡ true → (o : Option Hold) → S.entry_pend ≡ o → ⊥
      alone z cz uz wz None p = let x = held_store (λ h q. absurd (never_some q p)) in
          by_store part u z core.pending.held.0 cz uz wz x.0 x.1 (λ y. never_some y.there p)
      alone z cz uz wz (Some h) p = ⊎_elim (λ (d : decided S h.top ≡ true). decided_by d)
          (λ (d : decided S h.top ≡ false). open_by_other d (test_cases h.top z)) (bool_cases (decided S h.top))
        where
          s1 : (s : ℕ) × (has s h.new.content ≡ true)
          s1 = core.pending.stores h p

          lacks : IsExcused S z s1.0 → ⊥
          lacks y = never s1.1 (ap (λ (k : Hold). has s1.0 k.new.content) (some_is p y.there) ∙ y.lacks)

          decided_by : decided S h.top ≡ true → ⊥
          decided_by d = let l = subst (λ (y : Packed). has s1.0 y.content ≡ true) (pending_last S h p d core) s1.1 in
              by_store part u z s1.0 cz uz wz l (of_pending h s1.0 p s1.1 (inr l)) lacks

          open_by_other : decided S h.top ≡ false → (h.top ≡ z) ⊎ ((h.top == z) ≡ false) → ⊥
          open_by_other d (inr o) = let x = held_store (only h p d) in
              by_store part u z core.pending.held.0 cz uz wz x.0 x.1 (λ y. whose y y.whose)
            where
              whose : (y : IsExcused S z core.pending.held.0) →
                  (y.by_entry.top ≡ z) ⊎ ((decided S y.by_entry.top ≡ true) × (S.root y.by_entry.top ≡ S.root z)) → ⊥
              whose y (inl e) = differs h.top z o (ap (λ (k : Hold). k.top) (some_is p y.there) ∙ e)
              whose y (inr x) = never x.0 (only h p d y.by_entry y.there)
          open_by_other d (inl e) = ⊎_elim
              (λ (i : has s1.0 S.entry.content ≡ true).
              let l = subst (λ (y : Packed). has s1.0 y.content ≡ true) (is_last S.entry_pend refl (only h p d)) i in
              by_store part u z s1.0 cz uz wz l (held_got s1.0 i (undecided_leaving (only h p d) s1.0)) lacks)
              (λ (i : has s1.0 S.entry.content ≡ false).
              no_writer part u z uz (other_conf part z cz) (subst (λ n. HasRow N n 2) e (c.rows.adds h s1.0 p s1.1 i)))
              (bool_cases (has s1.0 S.entry.content))

  -- a top with a new entry has a part in it
  pub changes_part : bytes_eq (new_list S t) S.entry.content ≡ false → HasPart (S.plan t)
  changes_part other = ⊎_elim
      (λ (x : (s : ℕ) × (has s (S.plan t).joins ≡ true)). inr x)
      (λ (none : (s : ℕ) → has s (S.plan t).joins ≡ false). by none (S.plan t).writes refl)
      (some_or_none (S.plan t).joins)
    where
      by : ((s : ℕ) → has s (S.plan t).joins ≡ false) → (o : Option Packed) → (S.plan t).writes ≡ o → HasPart (S.plan t)
      by none (Some w) e = inl (ap is_some e)
      by none None e = absurd (never (list_is (new_list S t) S.entry.content (list_same (S.plan t) (S.got t) S.entry.content
          (λ s i goal. absurd (never (plain_target (S.plan t) s e goal) (none s))) (λ s j. absurd (never j (none s))))) other)

  -- a top with a new entry
  pub enter_locked : S.entry_pend ≡ None → HasPart (S.plan t) → (s : ℕ) × (has s (new_list S t) ≡ true)
      → IsNext S t → undecided S t ≡ true → Locked S t
  enter_locked free part stores next u = locked_from part u alone (next u)
    where
      is_last : S.entry ≡ last_entry S
      is_last = sym (effective_none (decided S) (λ (e : Packed). e) S.entry_pend S.entry free) ∙ core.effective.entry

      listed : (s : ℕ) → has s S.entry.content ≡ true → has s (last_entry S).content ≡ true
      listed s i = subst (λ (e : Packed). has s e.content ≡ true) is_last i

      alone : ((s : ℕ) → has s (S.plan t).joins ≡ false) → (z : ℕ) → S.conf z ≡ true → undecided S z ≡ true →
          is_some (S.plan z).writes ≡ true → ⊥
      alone none z cz uz wz = from (list_from (S.plan t) (S.got t) S.entry.content stores.0 stores.1)
        where
          wrote : HasPart (S.plan t) → is_some (S.plan t).writes ≡ true
          wrote (inl w) = w
          wrote (inr x) = absurd (never x.1 (none x.0))

          from : ((has stores.0 S.entry.content ≡ true) × (target (S.plan t) stores.0 ≡ true → S.got t stores.0 ≡ true))
              ⊎ ((has stores.0 (S.plan t).joins ≡ true) × (S.got t stores.0 ≡ true)) → ⊥
          from (inr x) = never x.0 (none stores.0)
          from (inl x) = ⊎_elim
              (λ (g : target (S.plan t) stores.0 ≡ true).
              by_store part u z stores.0 cz uz wz (listed stores.0 x.0) (x.1 g) (λ y. never_some y.there free))
              (λ (y : IsLeaving S.root (decided S) S.entry_pend (S.root t) stores.0). never_some y.there free)
              (wide part u stores.0 (wrote part) (inl x.0))

  -- a top that includes a store has the write lock
  pub join_row : (s : ℕ) → has s (S.plan t).joins ≡ true → HasRow N t 2
  join_row s j = let x = c.plans.asked t s begun j in c.rows.asked t (x.2 ((present (inr (s, j))).own x.0 x.1) may.untold) may.untold

  -- a new entry is guarded
  pub enter_row : bytes_eq (new_list S t) S.entry.content ≡ false → HasRow N t 1
  enter_row other = ⊎_elim
      (λ (x : (s : ℕ) × (has s S.entry.content ≡ true) × (lost s ≡ true)). let y = lost_parts x.0 x.2 in may.exclude x.0 y.0 y.1 (inl x.1))
      (λ (kept : (s : ℕ) → has s S.entry.content ≡ true → lost s ≡ false). ⊎_elim
      (λ (x : (s : ℕ) × (has s (S.plan t).joins ≡ true) × (S.got t s ≡ true)). weaker_row N t 2 1 (omega arith) (join_row x.0 x.1))
      (λ (none : (s : ℕ) → has s (S.plan t).joins ≡ true → S.got t s ≡ false). absurd (never (list_is (new_list S t) S.entry.content
      (list_same (S.plan t) (S.got t) S.entry.content (λ s i goal. lost_not s goal (kept s i)) none)) other))
      (find_true (S.got t) (S.plan t).joins))
      (find_true lost S.entry.content)
    where
      lost : ℕ → Bool
      lost s = target (S.plan t) s && not (S.got t s)

      lost_parts : (s : ℕ) → lost s ≡ true → (target (S.plan t) s ≡ true) × (S.got t s ≡ false)
      lost_parts s = by (target (S.plan t) s) (S.got t s)
        where
          by : (a b : Bool) → (a && not b) ≡ true → (a ≡ true) × (b ≡ false)
          by true true e = let n : false ≡ true = e in cc
          by true false e = (refl, refl)
          by false b e = let n : false ≡ true = e in cc

      lost_not : (s : ℕ) → target (S.plan t) s ≡ true → lost s ≡ false → S.got t s ≡ true
      lost_not s = by (target (S.plan t) s) (S.got t s)
        where
          by : (a b : Bool) → a ≡ true → (a && not b) ≡ false → b ≡ true
          by true true e n = refl
          by true false e n = let x : true ≡ false = n in cc
          by false b e n = let x : false ≡ true = e in cc

  -- where the entry changes, no other one is prepared: the naming node's prepare is never refused
  pub enter_free : bytes_eq (new_list S t) S.entry.content ≡ false → S.entry_pend ≡ None
  enter_free other = by S.entry_pend refl (enter_row other)
    where
      by : (o : Option Hold) → S.entry_pend ≡ o → HasRow N t 1 → S.entry_pend ≡ None
      by None p row = p
      by (Some h) p row = absurd (alone h p row (c.rows.guard h p))
        where
          alone : (k : Hold) → S.entry_pend ≡ Some k → HasRow N t 1 → HasRow N k.top 1 × (N.told k.top ≡ false) × (N.confd k.top ≡ true) → ⊥
          alone k q (m, mine, low) ((n, theirs, also), told, conf) =
              let e = one_top S c.roots t k.top top (c.roots.tops k.top (core.fresh.entry k q))
              (c.rows.apart t k.top m n mine theirs (omega (arith, low, also))) in
              never conf (ap N.confd (sym e) ∙ may.new)
