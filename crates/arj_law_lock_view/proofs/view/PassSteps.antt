-- What naming does with a commit goes in the machine.
use Rattle.arj_law_parts.proofs.Words
use Words.{◌≡◌, ◌≢◌, ◌≤◌, ◌⊎◌, ◌∙◌, ◌&&◌, ℕ, List, [], ◌∷◌, Bool, true, false, cond, max, Option, Some, None, refl, sym, ap, subst, inl}
use Words.{inr, ⊎_elim, arith, find, option_map, cons_option, filter_map, and_parts, stronger, strongest, goes_to, handed_on, is_heir}
use Words.{mode_of, passed, strengthened, uid_is, uid_same, IsOneEach, passing, passing_mode, In, in_find, in_find_none, in_to, only_found}
use Words.{pass_mode, Mode, Uid, Row, entry, is_held_by, is_row_of, last_uid, before_last, pass_rows, uid_eq, Named, end_named}
use Words.ending
use Rattle.arj_law_lock_view.proofs.Terms
use Terms.{Act, Root, Sub, on, same, next, stay, step, State, DropEntry, PassEntry, act_here, differ, not_below, on_same, on_self, same_is}
use Terms.{same_self, pass_cases, IsToldOf, Told, Owners, Acts, AreOne, IsGood, MayGo, MayPass, OnlyTold, Goes, OnlyNaming, SameConfirmed}
use Terms.{Place, SeesNamed, SeesRows, held_in, strength}
use Rattle.arj_law_lock_view.proofs.view
use view.EndSteps.{ended_seen, only_naming, told_below, told_itself, told_still}
use view.RowSteps.{counts, part_of, stronger_is}
use Rattle.arj_law_lock_view.specs.view.Ends.{CommitsAreSeen, PassesAreSeen}
use Rattle.arj_law_lock.specs.machine.Rows as machine

-- ---- what is held, row by row

-- a row of the object counts for its holder
pub row_holds : (act : Acts) (object u : Uid) (r : Row) (rows : List Row) → In r rows → is_row_of object u r ≡ true →
    strength r.mode ≤ held_in act object (act u) rows
row_holds act object u r [] i own = absurd i
row_holds act object u r (q ∷ qs) (inl is) own =
    let both = and_parts (uid_eq r.object object) (uid_eq (last_uid r.holder) u) own in
    let mine : counts act object (act u) r ≡ true = (λ i. both.0 i && same (act (uid_is (last_uid r.holder) u both.1 i)) (act u))
    ∙ same_self (act u) in
    subst (λ (p : Row). strength r.mode ≤ max (part_of act object (act u) p) (held_in act object (act u) qs)) (sym is)
    (subst (λ b. strength r.mode ≤ max (cond b (strength r.mode) 0) (held_in act object (act u) qs)) (sym mine) (omega arith))
row_holds act object u r (q ∷ qs) (inr i) own = let k = row_holds act object u r qs i own in omega (arith, k)

-- what is held is held by a row, or nothing is
pub held_by : (act : Acts) (object : Uid) (a : Act) (rows : List Row) → (held_in act object a rows ≡ 0)
    ⊎ ((r : Row) × In r rows × (counts act object a r ≡ true) × (held_in act object a rows ≤ strength r.mode))
held_by act object a [] = inl refl
held_by act object a (r ∷ rs) = by (counts act object a r) refl (held_by act object a rs)
  where
    larger : (m k : ℕ) → (max m k ≤ m) ⊎ (max m k ≤ k)
    larger m k = grind arith

    by : (b : Bool) → counts act object a r ≡ b →
        (held_in act object a rs ≡ 0) ⊎ ((q : Row) × In q rs × (counts act object a q ≡ true) × (held_in act object a rs ≤ strength q.mode))
        → (max (cond b (strength r.mode) 0) (held_in act object a rs) ≡ 0) ⊎ ((q : Row) × In q (r ∷ rs) × (counts act object a q ≡ true)
        × (max (cond b (strength r.mode) 0) (held_in act object a rs) ≤ strength q.mode))
    by false is (inl none) = inl (omega (arith, none))
    by false is (inr f) = inr (f.0, inr f.1, f.2, (let k = f.3 in omega (arith, k)))
    by true is (inl none) = inr (r, inl refl, is, omega (arith, none))
    by true is (inr f) = ⊎_elim (λ (most : max (strength r.mode) (held_in act object a rs) ≤ strength r.mode). inr (r, inl refl, is, most))
        (λ (most : max (strength r.mode) (held_in act object a rs) ≤ held_in act object a rs).
        inr (f.0, inr f.1, f.2, (let k = f.3 in omega (arith, most, k))))
        (larger (strength r.mode) (held_in act object a rs))

-- the mode of an action on the object is held
mode_holds : (act : Acts) (object u : Uid) (m : Mode) (rows : List Row) → mode_of object u rows ≡ Some m →
    strength m ≤ held_in act object (act u) rows
mode_holds act object u m rows is = by (find (is_row_of object u) rows) refl is
  where
    by : (v : Option Row) → find (is_row_of object u) rows ≡ v → option_map (λ (r : Row). r.mode) v ≡ Some m →
        strength m ≤ held_in act object (act u) rows
    by None found h = absurd (cc h)
    by (Some r) found h =
        let e : r.mode ≡ m = cc h in
        let f = in_find (is_row_of object u) r rows found in
        subst (λ (k : Mode). strength k ≤ held_in act object (act u) rows) e (row_holds act object u r rows f.0 f.1)

-- ---- a pass

module _ (act : Acts) (one : AreOne act) (object u : Uid) (all : List Row) where
  -- another action keeps what it has
  strong : (a : Act) (r : Row) (v : Option Row) → part_of act object a r ≤ part_of act object a (strengthened r v)
  strong a r None = omega arith
  strong a r (Some q) = by (counts act object a r)
    where
      by : (b : Bool) → cond b (strength r.mode) 0 ≤ cond b (strength (stronger r.mode q.mode)) 0
      by true = let k = stronger_is r.mode q.mode in omega (arith, k)
      by false = omega arith

  own_none : (a : Act) (r : Row) → (a ≡ act u → ⊥) → is_held_by u r ≡ true → part_of act object a r ≡ 0
  own_none a r other own = by (counts act object a r) refl
    where
      by : (b : Bool) → counts act object a r ≡ b → cond b (strength r.mode) 0 ≡ 0
      by true c =
          let both = and_parts (uid_eq r.object object) (same (act (last_uid r.holder)) a) c in
          absurd (other (sym (same_is (act (last_uid r.holder)) a both.1) ∙ ap act (uid_is (last_uid r.holder) u own)))
      by false c = refl

  pub others_keep : (a : Act) → (a ≡ act u → ⊥) → (rows : List Row) →
      held_in act object a rows ≤ held_in act object a (filter_map (passed u all) rows)
  others_keep a other [] = omega arith
  others_keep a other (r ∷ rs) = by (others_keep a other rs) (is_held_by u r) refl
    where
      gone : held_in act object a rs ≤ held_in act object a (filter_map (passed u all) rs) → part_of act object a r ≡ 0 → (v : Option Row) →
          passed u all r ≡ v
          → max (part_of act object a r) (held_in act object a rs) ≤ held_in act object a (filter_map (passed u all) (r ∷ rs))
      gone rest none None is = subst (λ (w : Option Row). max (part_of act object a r) (held_in act object a rs)
          ≤ held_in act object a (cons_option w (filter_map (passed u all) rs))) (sym is) (omega (arith, rest, none))
      gone rest none (Some q) is = subst (λ (w : Option Row). max (part_of act object a r) (held_in act object a rs)
          ≤ held_in act object a (cons_option w (filter_map (passed u all) rs))) (sym is) (omega (arith, rest, none))

      by : held_in act object a rs ≤ held_in act object a (filter_map (passed u all) rs) → (b : Bool) → is_held_by u r ≡ b →
          max (part_of act object a r) (held_in act object a rs) ≤ held_in act object a (filter_map (passed u all) (r ∷ rs))
      by rest true own = gone rest (own_none a r other own) (passed u all r) refl
      by rest false own =
          subst (λ b. max (part_of act object a r) (held_in act object a rs) ≤ held_in act object a (cons_option (cond b (handed_on all r
          (before_last r.holder)) (Some (strengthened r (find (goes_to u r) all)))) (filter_map (passed u all) rs))) (sym own)
          (let k = strong a r (find (goes_to u r) all) in omega (arith, rest, k))

  -- and the heir gets what the action had
  module _ (single : IsOneEach all) (s : Uid) (apart : uid_eq s u ≡ false) (r : Row) (there : In r all) (own : is_row_of object u r ≡ true)
      (heir : before_last r.holder ≡ Some s) where
    passes : (is_row_of object u r && is_heir (before_last r.holder) s) ≡ true
    passes = (λ i. own i && is_heir (heir i) s) ∙ uid_same s

    mode_passes : passing_mode u object s all ≡ Some r.mode
    mode_passes = by (passing u object s all) refl
      where
        by : (v : Option Row) → passing u object s all ≡ v → option_map (λ (q : Row). q.mode) (passing u object s all) ≡ Some r.mode
        by None none =
            absurd (cc (sym passes ∙ in_find_none (λ (q : Row). is_row_of object u q && is_heir (before_last q.holder) s) r all none there))
        by (Some q) some =
            let f = in_find (λ (p : Row). is_row_of object u p && is_heir (before_last p.holder) s) q all some in
            let both = and_parts (is_row_of object u q) (is_heir (before_last q.holder) s) f.1 in
            let twice : ◌≡◌ {A = Option Row} (Some q) (Some r) = sym (only_found object u q all single f.0 both.0)
            ∙ only_found object u r all single there own in
            ap (option_map (λ (p : Row). p.mode)) (some ∙ twice)

    at_least_one : (v : Option Mode) → (m : Mode) × (strongest v (Some r.mode) ≡ Some m) × (strength r.mode ≤ strength m)
    at_least_one None = (r.mode, refl, omega arith)
    at_least_one (Some k) = (stronger k r.mode, refl, (let e = stronger_is k r.mode in omega (arith, e)))

    pub heir_gets : strength r.mode ≤ held_in act object (act s) (pass_rows u all)
    heir_gets =
        let m = at_least_one (mode_of object s all) in
        let k = mode_holds act object s m.0 (pass_rows u all)
        (pass_mode u all single object s ∙ (λ i. cond (apart i) None (strongest (mode_of object s all) (mode_passes i))) ∙ m.1) in
        let l = m.2 in omega (arith, k, l)

-- A row of an action that the machine passes to the one above goes there in the protocol too, where each row has that one as its heir.
module _ (act : Acts) (one : AreOne act) (object u h : Uid) (all : List Row) (single : IsOneEach all) (up : Act) (number : ℕ)
    (above : act h ≡ up) (below : act u ≡ Sub up number) (heirs : (r : Row) → In r all → is_held_by u r ≡ true →
    before_last r.holder ≡ Some h) (seen : machine.Rows) (old : SeesRows act object all seen) where
  apart : h ≢ u
  apart is = let e : up ≡ Sub up number = sym above ∙ ap act is ∙ below in differ (on_same up (Sub up number) e) (not_below up number)

  apart_test : uid_eq h u ≡ false
  apart_test = by (uid_eq h u) refl
    where
      by : (b : Bool) → uid_eq h u ≡ b → b ≡ false
      by true e = absurd (apart (uid_is h u e))
      by false e = refl

  -- what the machine has of the action goes to the one above
  goes_up : seen (act u) ≤ held_in act object (act h) (pass_rows u all)
  goes_up = by (held_by act object (act u) all)
    where
      by : (held_in act object (act u) all ≡ 0) ⊎ ((r : Row) × In r all × (counts act object (act u) r ≡ true)
          × (held_in act object (act u) all ≤ strength r.mode)) → seen (act u) ≤ held_in act object (act h) (pass_rows u all)
      by (inl none) = let i = old (act u) in omega (arith, i, none)
      by (inr f) =
          let both = and_parts (uid_eq f.0.object object) (same (act (last_uid f.0.holder)) (act u)) f.2 in
          let holder : last_uid f.0.holder ≡ u = one (last_uid f.0.holder) u (same_is (act (last_uid f.0.holder)) (act u) both.1) in
          let held : is_held_by u f.0 ≡ true = ap (λ (w : Uid). uid_eq w u) holder ∙ uid_same u in
          let own : is_row_of object u f.0 ≡ true = λ i. both.0 i && held i in
          let i = old (act u) in let j = f.3 in
          let k = heir_gets act one object u all single h apart_test f.0 f.1 own (heirs f.0 f.1 held) in
          omega (arith, i, j, k)

  above_keeps : seen (act h) ≤ held_in act object (act h) (pass_rows u all)
  above_keeps = let i = old (act h) in let j = others_keep act one object u all (act h) (λ same. apart (one h u same)) all in
      omega (arith, i, j)

  pub passed_seen : SeesRows act object (pass_rows u all) (machine.pass seen up number)
  passed_seen = pass_cases (λ (a : Act) (v : ℕ). v ≤ held_in act object a (pass_rows u all)) seen up number
      (omega arith)
      (subst (λ (b : Act). max (seen b) (seen (Sub up number)) ≤ held_in act object b (pass_rows u all)) above
      (subst (λ (b : Act). max (seen (act h)) (seen b) ≤ held_in act object (act h) (pass_rows u all)) below (let i = goes_up in
      let j = above_keeps in omega (arith, i, j))))
      (λ a here under. (let other : a ≡ act u → ⊥ = λ is. (let s = same_self a in absurd (cc (sym s ∙ ap (same a) (is ∙ below) ∙ under))) in
      let i = old a in let j = others_keep act one object u all a other all in omega (arith, i, j)))

-- or the machine drops it, with all below
pub gone_seen : (act : Acts) (one : AreOne act) (object u : Uid) (all : List Row) (seen : machine.Rows) → SeesRows act object all seen →
    SeesRows act object (pass_rows u all) (machine.drop_below seen (act u))
gone_seen act one object u all seen old a = by (on a (act u)) refl
  where
    by : (w : Bool) → on a (act u) ≡ w → cond w 0 (seen a) ≤ held_in act object a (pass_rows u all)
    by true is = omega arith
    by false is =
        let other : a ≡ act u → ⊥ = λ same. (let up = on_self (act u) in absurd (cc (sym up ∙ ap (λ b. on b (act u)) (sym same) ∙ is))) in
        let i = old a in let j = others_keep act one object u all a other all in omega (arith, i, j)

-- ---- naming

module _ (act : Acts) (owner : Owners) (x : ℕ) (n : Place) (told : Told) (o : Named) (u : Uid) (S : State) (one : AreOne act)
    (later : IsToldOf n.told told u) (good : IsGood owner x n o) (sees : SeesNamed act x n o S) where
  -- ---- its rows go

  module _ (may : MayGo S (act u)) where
    abbrev T : State
    T = next (DropEntry (act u)) S

    pub commit_goes : Goes S (λ V. SeesNamed act x (record n { told = told }) (end_named u ending.Commit o) V × OnlyNaming S V
        × OnlyTold act u S V × SameConfirmed S V)
    commit_goes = record {
      state = T;
      run = step (DropEntry (act u)) may stay;
      holds = (
        ended_seen act owner x n told o u S later good sees (pass_rows u o.rows) T.naming.rows T.naming.told (λ top. told_itself act u S)
            (told_still act u S) (gone_seen act one (entry x) u o.rows S.naming.rows sees.rows),
        only_naming S T.naming,
        told_below act u S,
        (refl, refl),
      );
    }

  -- ---- or pass

  module _ (s : Uid) (may : MayPass act u s o S) where
    abbrev V : State
    V = next (PassEntry may.unit may.number) S

    rows_passed : SeesRows act (entry x) (pass_rows u o.rows) V.naming.rows
    rows_passed = passed_seen act one (entry x) u s o.rows good.rows.one (Root may.unit) may.number may.serial may.below
        (λ r i held. may.heirs r (in_to r o.rows i) held) S.naming.rows sees.rows

    told_now : V.naming.told (act u) ≡ true
    told_now = ap V.naming.told may.below ∙ act_here S.naming.told (Sub (Root may.unit) may.number) true

    told_before : (a : Act) → V.naming.told a ≡ false → S.naming.told a ≡ false
    told_before a off = by (same a (Sub (Root may.unit) may.number)) off
      where
        by : (w : Bool) → cond w true (S.naming.told a) ≡ false → S.naming.told a ≡ false
        by true is = absurd (cc is)
        by false is = is

    told_passed : OnlyTold act u S V
    told_passed a h = by (same a (Sub (Root may.unit) may.number)) refl h
      where
        by : (w : Bool) → same a (Sub (Root may.unit) may.number) ≡ w → cond w true (S.naming.told a) ≡ true →
            (S.naming.told a ≡ true) ⊎ (on a (act u) ≡ true)
        by true is h = inr
            (subst (λ (b : Act). on b (act u) ≡ true) (may.below ∙ sym (same_is a (Sub (Root may.unit) may.number) is)) (on_self (act u)))
        by false is h = inl h

    pub pass_goes : Goes S (λ W. SeesNamed act x (record n { told = told }) (end_named u ending.Commit o) W × OnlyNaming S W
        × OnlyTold act u S W × SameConfirmed S W)
    pass_goes = record {
      state = V;
      run = step (PassEntry may.unit may.number) (ap (λ (b : Act). (S.action b).stage) (sym may.below) ∙ may.committed) stay;
      holds = (
        ended_seen act owner x n told o u S later good sees (pass_rows u o.rows) V.naming.rows V.naming.told (λ top. told_now) told_before
            rows_passed,
        only_naming S V.naming,
        told_passed,
        (refl, refl),
      );
    }

pub commits_are_seen : CommitsAreSeen
commits_are_seen act owner x n told o u S one later may good sees = commit_goes act owner x n told o u S one later good sees may

pub passes_are_seen : PassesAreSeen
passes_are_seen act owner x n told o u s S one later may good sees = pass_goes act owner x n told o u S one later good sees s may
