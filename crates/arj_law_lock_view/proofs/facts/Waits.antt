-- Of two actions that wait none stands above the other, and calls ask by numbers from 1 on: kept by all that a coordinator does.
use Rattle.arj_law_parts.proofs.Words
use Words.{◌≡◌, ◌≢◌, ◌⊎◌, ◌≤◌, ◌+◌, ◌∙◌, ◌&&◌, ◌||◌, arith, ℕ, zero, suc, List, [], ◌∷◌, ◌++◌, Bool, true, false, cond, not, Option, Some}
use Words.{None, refl, sym, ap, subst, inl, inr, ⊎_elim, is_some, list_any, or_cases, or_parts, uid_cases, uid_is, none_in, Asked, Header}
use Words.{Kind, Label, Op, Uid, is_on, uid_eq, uids_of, Reply, actor, again_all, begin_action, heard, Steps, plan_of, Calling, Committing}
use Words.{Coord, Doing, Idle, Now, doing_of, new_coord, Intent, acked, Input, acts, branch_named, call_reasons, commit_reasons}
use Words.{include_reasons, is_waiting, is_waiting_now, parent_of, refusal_up, refused_by, sibling_waits, waits, waits_above, waits_below}
use Words.{Branch, at_place, branch_of, is_open_below, is_own, next_uid, path_below}
use Words.input
use Rattle.arj_law_lock_view.proofs.Terms
use Terms.{Action, IsAsking, IsBusy, IsGoodCoord, IsVoting, IsTree, Paths, behind, good_acts, named_found, off, good_heard, found_by}
use Terms.{get_more, grown_cases, not_yet, place_in, KnowsWaits}
use Rattle.arj_law_lock_view.proofs.facts
use facts.Turns.{Commits, GoesOn, Keeps, Rests, Starts, Turn, Turned, turned_acked, turned_acts, turned_again, turned_heard}
use Rattle.arj_law_lock_view.specs.facts.Works.{AskFromOne}
use Rattle.arj_law_runs.proofs.coordinators.{CoordRooms.acked_tree, CoordRooms.again_tree, CoordUses.some_is as one_is, RunCoords.IsKept}

never : {A : Type 0} {b : Bool} → b ≡ true → b ≡ false → A
never holds fails = let no_way : true ≡ false = sym holds ∙ fails in absurd (cc no_way)

some_is : {A : Type 0} {a b : A} → Some a ≡ Some b → a ≡ b
some_is {A} {a} {b} is = one_is a b is

-- ---- from one coordinator to the next

-- who starts waits neither above nor below any other
pub record IsFree (P : Uid → Type 0) (paths : Paths) (c : Coord) : Type 0 where
  pub one : (u w : Uid) → P u → P w → u ≡ w
  pub above : (u w : Uid) (e : Doing) → P u → doing_of w c ≡ Some e → is_waiting_now e.now ≡ true → is_on (paths u) w ≡ true → u ≡ w
  pub below : (u w : Uid) (d : Doing) → doing_of u c ≡ Some d → is_waiting_now d.now ≡ true → P w → is_on (paths u) w ≡ true → u ≡ w

module _ (P : Uid → Type 0) (c : Coord) where
  -- it waited before, or starts
  waited : (w : Uid) (n : Now) → Turn P c w n → is_waiting_now n ≡ true →
      ((d : Doing) × (doing_of w c ≡ Some d) × (is_waiting_now d.now ≡ true)) ⊎ P w
  waited w n (Keeps d m found is) waits_now = inl (d, found, ap is_waiting_now is ∙ waits_now)
  waited w Idle Rests waits_now = absurd (cc waits_now)
  waited w (Calling z) (GoesOn d s at found is) waits_now = inl (d, found, ap is_waiting_now is)
  waited w (Committing z) (Commits d k m found is) waits_now = inl (d, found, ap is_waiting_now is)
  waited w n (Starts m p low) waits_now = inr p

  numbered : AskFromOne c → (w : Uid) (n : Now) → Turn P c w n → (s : Steps) → n ≡ Calling s → 1 ≤ s.req
  numbered ones w n (Keeps d m found is) s same = ones w d s found (is ∙ same)
  numbered ones w Idle Rests s same = absurd (cc same)
  numbered ones w (Calling z) (GoesOn d y at found is) s same = one same
    where
      number : (i j : ℕ) → i ≡ j + 1 → 1 ≤ i
      number i j e = omega (arith, e)

      one : {z : Steps} → Calling (record y { req = y.req + 1; at = at }) ≡ Calling z → 1 ≤ z.req
      one {z} is = let its : record y { req = y.req + 1; at = at } ≡ z = cc in number z.req y.req (ap (λ (x : Steps). x.req) (sym its))
  numbered ones w (Committing z) (Commits d k m found is) s same = absurd (cc same)
  numbered ones w n (Starts m p low) s same = low s same

  module _ (actions more : List Action) (paths : Paths) (good : IsGoodCoord actions paths c) (e : Coord) (later : (u : Uid) (d : Doing)
      (b : Branch) → doing_of u e ≡ Some d → is_waiting_now d.now ≡ true → branch_of u e.tree ≡ Some b → uids_of b.path ≡ paths u) where
    -- who waits has its branch
    pub there : (u : Uid) (d : Doing) → doing_of u c ≡ Some d → is_waiting_now d.now ≡ true → (b : Branch) × (branch_of u c.tree ≡ Some b)
    there u d found waits_now = by d.now refl waits_now
      where
        by : (n : Now) → d.now ≡ n → is_waiting_now n ≡ true → (b : Branch) × (branch_of u c.tree ≡ Some b)
        by Idle is w = absurd (cc w)
        by (Calling s) is w = let a : IsAsking c.tree u s.path = subst (IsBusy c.tree u) is (good.busy u d found) in (a.branch, a.found)
        by (Committing m) is w = let a : IsVoting c.tree u (plan_of m) = subst (IsBusy c.tree u) is (good.busy u d found) in
            (a.asking.branch, a.asking.found)

    pub waits_on : Turned P c e → IsFree P paths c → KnowsWaits c → KnowsWaits e
    waits_on turned free knows = record {
      apart = λ u w d x b du dw wu ww found on. by u w (waited u d.now (turned u d du) wu) (waited w x.now (turned w x dw) ww)
          (ap (λ us. is_on us w) (sym (later u d b du wu found)) ∙ on);
      asks = λ u d s found is. numbered knows.asks u d.now (turned u d found) s is;
    }
      where
        by : (u w : Uid) → ((d : Doing) × (doing_of u c ≡ Some d) × (is_waiting_now d.now ≡ true)) ⊎ P u →
            ((d : Doing) × (doing_of w c ≡ Some d) × (is_waiting_now d.now ≡ true)) ⊎ P w → is_on (paths u) w ≡ true → u ≡ w
        by u w (inl o) (inl q) on = let b = there u o.0 o.1 o.2 in
            knows.apart u w o.0 q.0 b.0 o.1 q.1 o.2 q.2 b.1 (ap (λ us. is_on us w) (good.tree.lists.paths_are u b.0 b.1) ∙ on)
        by u w (inl o) (inr p) on = free.below u w o.0 o.1 o.2 p on
        by u w (inr p) (inl q) on = free.above u w q.0 p q.1 q.2 on
        by u w (inr p) (inr q) on = free.one u w p q

-- ---- nobody starts

abbrev Nobody : Uid → Type 0
Nobody u = ⊥

nobody_free : (paths : Paths) (c : Coord) → IsFree Nobody paths c
nobody_free paths c = record { one = λ u w p q. absurd p; above = λ u w e p found is on. absurd p; below = λ u w d found is p on. absurd p }

-- ---- one starts

module _ (actions : List Action) (paths : Paths) (c : Coord) (good : IsGoodCoord actions paths c) (b : Branch)
    (found : branch_of (actor b.path) c.tree ≡ Some b) (up : waits_above b c ≡ false) (down : waits_below b c ≡ false) where
  abbrev IsIt : Uid → Type 0
  IsIt w = w ≡ actor b.path

  quiet : (us : List Uid) (w : Uid) → list_any (waits c) us ≡ false → is_on us w ≡ true → waits c w ≡ false
  quiet [] w e on = absurd (cc on)
  quiet (x ∷ us) w e on = let q = or_parts (waits c x) (list_any (waits c) us) e in
      ⊎_elim (λ same. ap (waits c) (sym (uid_is x w same)) ∙ q.0) (λ rest. quiet us w q.1 rest) (or_cases (uid_eq x w) (is_on us w) on)

  pub one_free : IsFree IsIt paths c
  one_free = record {
    one = λ u w p q. p ∙ sym q;
    above = λ u w e p at is on. never (ap is_waiting at ∙ is) (quiet (uids_of b.path) w up
        (ap (λ us. is_on us w) (good.tree.lists.paths_are (actor b.path) b found) ∙ ap (λ v. is_on (paths v) w) (sym p) ∙ on));
    below = λ u w d at is p on. ⊎_elim (λ same. same ∙ sym p) (λ other. absurd (lower u d at is (ap (is_on (paths u)) (sym p) ∙ on) other))
        (uid_cases u (actor b.path));
  }
    where
      lower : (u : Uid) (d : Doing) → doing_of u c ≡ Some d → is_waiting_now d.now ≡ true → is_on (paths u) (actor b.path) ≡ true →
          u ≢ actor b.path → ⊥
      lower u d at is on other = by d.now refl is
        where
          clash : (a : Branch) → branch_of u c.tree ≡ Some a → is_some a.ended ≡ false → ⊥
          clash a there opened = never (both (ap (λ us. is_on us (actor b.path)) (good.tree.lists.paths_are u a there) ∙ on)
              (uid_apart (actor a.path) (actor b.path) (λ same. other (sym (good.tree.lists.places u a there) ∙ same))) opened
              (ap (waits c) (good.tree.lists.places u a there) ∙ ap is_waiting at ∙ is))
              (none_in (λ w. is_open_below (actor b.path) w && waits c (actor w.path)) a c.tree.branches down
              (place_in u.num a c.tree.branches (found_by u c.tree a there).1))
            where
              uid_apart : (x y : Uid) → x ≢ y → uid_eq x y ≡ false
              uid_apart x y apart = one (uid_eq x y) refl
                where
                  one : (q : Bool) → uid_eq x y ≡ q → uid_eq x y ≡ false
                  one true e = absurd (apart (uid_is x y e))
                  one false e = e

              both : {p q r s : Bool} → p ≡ true → q ≡ false → r ≡ false → s ≡ true → (((p && not q) && not r) && s) ≡ true
              both a b c d = λ i. ((a i && not (b i)) && not (c i)) && d i

          by : (n : Now) → d.now ≡ n → is_waiting_now n ≡ true → ⊥
          by Idle e w = absurd (cc w)
          by (Calling s) e w = let a : IsAsking c.tree u s.path = subst (IsBusy c.tree u) e (good.busy u d at) in
              clash a.branch a.found a.opened
          by (Committing m) e w = let a : IsVoting c.tree u (plan_of m) = subst (IsBusy c.tree u) e (good.busy u d at) in
              clash a.asking.branch a.asking.found a.asking.opened

-- ---- all that it does

module _ (actions : List Action) (paths : Paths) (tree : IsTree paths) (c : Coord) (good : IsGoodCoord actions paths c)
    (knows : KnowsWaits c) where
  by_good : (e : Coord) → IsGoodCoord actions paths e → (u : Uid) (d : Doing) (b : Branch) → doing_of u e ≡ Some d →
      is_waiting_now d.now ≡ true → branch_of u e.tree ≡ Some b → uids_of b.path ≡ paths u
  by_good e its u d b found is there = its.tree.lists.paths_are u b there

  waits_heard : (from : ℕ) (a : Asked) (r : Reply) (intents : List (Uid × Intent)) → KnowsWaits (heard from a r intents c).part
  waits_heard from a r intents = let e = (heard from a r intents c).part in
      waits_on Nobody c actions actions paths good e (by_good e (good_heard actions paths tree from a r intents c good))
      (turned_heard Nobody c actions paths tree good from a r intents) (nobody_free paths c) knows

  -- where these may start
  by_starts : (P : Uid → Type 0) → IsFree P paths c → (hd : Header) (i : Input) (intents : List (Uid × Intent)) → refusal_up hd i c ≡ None →
      ((l : Label) (k : Kind) (parent : Option Label) → i ≢ input.Begin l k parent)
      → ((l : Label) (x : ℕ) (o : Op) (b : Branch) → i ≡ input.Call l x o → branch_named l c ≡ Some b → P (actor b.path)) →
      ((l : Label) (x s : ℕ) (b : Branch) → i ≡ input.Include l x s → branch_named l c ≡ Some b → P (actor b.path)) →
      ((l : Label) (b : Branch) → i ≡ input.Commit l → branch_named l c ≡ Some b → P (actor b.path))
      → KnowsWaits (acts i intents c).part
  by_starts P free hd i intents none other calls incs coms = let e = (acts i intents c).part in
      waits_on P c actions actions paths good e (by_good e (good_acts actions paths tree intents c good hd i none other))
      (turned_acts P c actions paths tree good i intents other calls incs coms) free knows

  -- the action of the label alone may
  by_named : (l : Label) (reasons : Branch → Coord → List (ℕ × Bool)) → ((b : Branch) → refused_by reasons c (Some b) ≡ None →
      (waits_above b c ≡ false) × (waits_below b c ≡ false)) → refused_by reasons c (branch_named l c) ≡ None
      → (b : Branch) × (branch_named l c ≡ Some b) × IsFree (λ w. w ≡ actor b.path) paths c
  by_named l reasons quiet none = by (branch_named l c) refl none
    where
      by : (o : Option Branch) → branch_named l c ≡ o → refused_by reasons c o ≡ None →
          (b : Branch) × (branch_named l c ≡ Some b) × IsFree (λ w. w ≡ actor b.path) paths c
      by None is e = let no_way : ◌≡◌ {A = Option ℕ} (Some 6) None = e in absurd (cc no_way)
      by (Some b) is e = let q = quiet b e in
          (b, is, one_free actions paths c good b (named_found actions paths tree [] c good l b is) q.0 q.1)

  pub waits_acts : (hd : Header) (i : Input) (intents : List (Uid × Intent)) → refusal_up hd i c ≡ None →
      ((l : Label) (k : Kind) (parent : Option Label) → i ≢ input.Begin l k parent) → KnowsWaits (acts i intents c).part
  waits_acts hd (input.Begin l q parent) intents none other = absurd (other l q parent refl)
  waits_acts hd (input.Call l x o) intents none other =
      let f = by_named l (call_reasons hd x o) (λ b e. or_parts (waits_above b c) (waits_below b c)
      (off (behind (call_reasons hd x o b c)) (off (call_reasons hd x o b c) e).1).0) none in
      by_starts (λ w. w ≡ actor (let z = f.0 in z.path)) f.2 hd (input.Call l x o) intents none other
      (λ m y p b is named. ap (λ (z : Branch). actor z.path) (some_is (sym (ap (λ n. branch_named n c) (call_label is) ∙ named) ∙ f.1)))
      (λ m y s b is named. absurd (cc is)) (λ m b is named. absurd (cc is))
    where
      call_label : {m : Label} {y : ℕ} {p : Op} → input.Call l x o ≡ input.Call m y p → l ≡ m
      call_label is = cc
  waits_acts hd (input.Include l x s) intents none other =
      let f = by_named l (include_reasons hd x) (λ b e. or_parts (waits_above b c) (waits_below b c)
      (off (behind (include_reasons hd x b c)) (off (include_reasons hd x b c) e).1).0) none in
      by_starts (λ w. w ≡ actor (let z = f.0 in z.path)) f.2 hd (input.Include l x s) intents none other
      (λ m y p b is named. absurd (cc is)) (λ m y n b is named. ap (λ (z : Branch). actor z.path)
      (some_is (sym (ap (λ n. branch_named n c) (include_label is) ∙ named) ∙ f.1))) (λ m b is named. absurd (cc is))
    where
      include_label : {m : Label} {y n : ℕ} → input.Include l x s ≡ input.Include m y n → l ≡ m
      include_label is = cc
  waits_acts hd (input.Commit l) intents none other =
      let f = by_named l commit_reasons (λ b e. let q = or_parts (waits_above b c || waits_below b c) (sibling_waits b c)
      (off (behind (commit_reasons b c)) (off (commit_reasons b c) e).1).0 in or_parts (waits_above b c) (waits_below b c) q.0) none in
      by_starts (λ w. w ≡ actor (let z = f.0 in z.path)) f.2 hd (input.Commit l) intents none other (λ m y p b is named. absurd (cc is))
      (λ m y n b is named. absurd (cc is))
      (λ m b is named. ap (λ (z : Branch). actor z.path) (some_is (sym (ap (λ n. branch_named n c) (commit_label is) ∙ named) ∙ f.1)))
    where
      commit_label : {m : Label} → input.Commit l ≡ input.Commit m → l ≡ m
      commit_label is = cc
  waits_acts hd (input.Abort l) intents none other = by_starts Nobody (nobody_free paths c) hd (input.Abort l) intents none other
      (λ m y p b is named. absurd (cc is)) (λ m y s b is named. absurd (cc is)) (λ m b is named. absurd (cc is))
  waits_acts hd (input.GiveUp l) intents none other = by_starts Nobody (nobody_free paths c) hd (input.GiveUp l) intents none other
      (λ m y p b is named. absurd (cc is)) (λ m y s b is named. absurd (cc is)) (λ m b is named. absurd (cc is))
  waits_acts hd (input.Frame j from m) intents none other = knows
  waits_acts hd input.Tick intents none other = knows
  waits_acts hd input.Restart intents none other = knows
  waits_acts hd input.Crash intents none other = knows
  waits_acts hd (input.Show x) intents none other = knows

-- where the tree and all actions at work stay
waits_same : (c e : Coord) → ((u : Uid) (d : Doing) → doing_of u e ≡ Some d → (doing_of u c ≡ Some d) ⊎ (is_waiting_now d.now ≡ false)) →
    ((u : Uid) (d : Doing) (b : Branch) → doing_of u c ≡ Some d → is_waiting_now d.now ≡ true → branch_of u e.tree ≡ Some b →
    branch_of u c.tree ≡ Some b) → KnowsWaits c → KnowsWaits e
waits_same c e works trees knows = record {
  apart = λ u w d x b du dw wu ww found on. let f = was u d du wu in let g = was w x dw ww in
      knows.apart u w d x b f g wu ww (trees u d b f wu found) on;
  asks = λ u d s du is. knows.asks u d s (was u d du (ap is_waiting_now is)) is;
}
  where
    was : (u : Uid) (d : Doing) → doing_of u e ≡ Some d → is_waiting_now d.now ≡ true → doing_of u c ≡ Some d
    was u d du wu = ⊎_elim (λ old. old) (λ idle. never wu idle) (works u d du)

waits_begins : (actions : List Action) (paths : Paths) (l : Label) (k : Kind) (parent : Option Label) (c : Coord) →
    IsGoodCoord actions paths c → KnowsWaits c → KnowsWaits (begin_action l k parent (parent_of parent c) c).part
waits_begins actions paths l k parent c good knows = waits_same c v works trees knows
  where
    v : Coord
    v = (begin_action l k parent (parent_of parent c) c).part

    fresh : Doing
    fresh = record { label = l; req = 0; now = Idle; took = [] }

    works : (u : Uid) (d : Doing) → doing_of u v ≡ Some d → (doing_of u c ≡ Some d) ⊎ (is_waiting_now d.now ≡ false)
    works u d is = was (is_own u c.tree) u.num is
      where
        was : (b : Bool) (j : ℕ) → cond b (at_place j (c.doings ++ fresh ∷ [])) None ≡ Some d →
            (cond b (at_place j c.doings) None ≡ Some d) ⊎ (is_waiting_now d.now ≡ false)
        was true zero at = absurd (cc at)
        was true (suc j) at =
            ⊎_elim (λ old. inl old) (λ new. inr (ap (λ (y : Doing). is_waiting_now y.now) (sym new.1))) (get_more j fresh d c.doings at)
        was false j at = absurd (cc at)

    trees : (u : Uid) (d : Doing) (b : Branch) → doing_of u c ≡ Some d → is_waiting_now d.now ≡ true → branch_of u v.tree ≡ Some b →
        branch_of u c.tree ≡ Some b
    trees u d b found waits_now is = ⊎_elim (λ old. old) (λ new. absurd
        (none (there Nobody c actions actions paths good c (λ w x q dw ww at. good.tree.lists.paths_are w q at) u d found waits_now) new.0))
        (grown_cases k (path_below k (parent_of parent c) (next_uid c.tree)) c.tree u b is)
      where
        none : (b : Branch) × (branch_of u c.tree ≡ Some b) → u ≡ next_uid c.tree → ⊥
        none f same = let no_way : ◌≡◌ {A = Option Branch} None (Some f.0) = sym (not_yet k
            (path_below k (parent_of parent c) (next_uid c.tree)) c.tree) ∙ ap (λ x. branch_of x c.tree) (sym same) ∙ f.1 in cc no_way

pub waits_kept : IsKept KnowsWaits
waits_kept = record {
  new = λ node inc telling. record {
    apart = λ u w d e b du dw wu ww found on. absurd (no_doing node inc u d du);
    asks = λ u d s du is. absurd (no_doing node inc u d du);
  };
  hears = λ actions paths tree from a r intents c good knows. waits_heard actions paths tree c good knows from a r intents;
  acks = λ from u intents c knows.
      same_again c (acked from u intents c).part (turned_acked Nobody c from u intents) (acked_tree from u intents c) knows;
  does = λ actions paths tree intents c good knows hd i none other. waits_acts actions paths tree c good knows hd i intents none other;
  begins = λ actions begun paths tree l k parent c good may none knows. waits_begins actions paths l k parent c good knows;
  asks = λ ds c knows. same_again c (again_all ds c).part (turned_again Nobody c ds) (again_tree ds c) knows;
}
  where
    no_doing : (node inc : ℕ) (u : Uid) (d : Doing) → doing_of u (new_coord node inc) ≡ Some d → ⊥
    no_doing node inc u d is = by (is_own u (let c = new_coord node inc in c.tree)) u.num is
      where
        by : (x : Bool) (j : ℕ) → cond x (at_place j []) None ≡ Some d → ⊥
        by true zero e = cc e
        by true (suc j) e = cc e
        by false j e = cc e

    -- whose tree stays, and where nobody starts
    same_again : (c e : Coord) → Turned Nobody c e → e.tree ≡ c.tree → KnowsWaits c → KnowsWaits e
    same_again c e turned tree knows = record {
      apart = λ u w d x b du dw wu ww found on. by u w b (waited Nobody c u d.now (turned u d du) wu)
          (waited Nobody c w x.now (turned w x dw) ww) (ap (branch_of u) (sym tree) ∙ found) on;
      asks = λ u d s found is. numbered Nobody c knows.asks u d.now (turned u d found) s is;
    }
      where
        by : (u w : Uid) (b : Branch) → ((d : Doing) × (doing_of u c ≡ Some d) × (is_waiting_now d.now ≡ true)) ⊎ ⊥ →
            ((d : Doing) × (doing_of w c ≡ Some d) × (is_waiting_now d.now ≡ true)) ⊎ ⊥ → branch_of u c.tree ≡ Some b →
            is_on (uids_of b.path) w ≡ true → u ≡ w
        by u w b (inl o) (inl q) found on = knows.apart u w o.0 q.0 b o.1 q.1 o.2 q.2 found on
        by u w b (inl o) (inr none) found on = absurd none
        by u w b (inr none) q found on = absurd none
