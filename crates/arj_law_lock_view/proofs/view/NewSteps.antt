-- An action that begins is seen.
use Rattle.arj_law_parts.proofs.Words
use Words.{◌≡◌, ◌≤◌, ◌+◌, ◌⊎◌, ◌∙◌, ◌||◌, ◌++◌, zero, suc, ℕ, List, [], ◌∷◌, true, false, cond, length, Option, Some, None, is_some, refl}
use Words.{sym, ap, subst, inl, inr, ⊎_elim, arith, Contains, slice_get, before_last, first_uid, front, last_uid, in_from, Kind, Label}
use Words.{Path, Uid, uids_of, begin_action, Calling, Committing, Coord, Doing, Idle, Root, doing_of, new_coord, root_at, Branch, at_place}
use Words.{branch_of, ended_so, is_aborted, is_open, is_open_branch, is_own, is_spent, new_tree, next_uid, path_below, root_of}
use Words.ending
use Rattle.arj_law_lock_view.proofs.Terms
use Terms.{Act, root, Include, State, on_root as same_unit, Paths, doing_by, found_by, get_more, grown_cases, grown_still, new, not_yet}
use Terms.{place_in, Acts, IsHere, IsIdle, SeesAction, SeesActions, IsBeginning, Codes, IsNoted, SeesIncludes, SeesWhole, SeesCoord}
use Terms.{SeesRoot}
use Rattle.arj_law_lock_view.proofs.view.TreeSteps.{root_there}
use Rattle.arj_law_lock_view.specs.view.{Begins.NewCoordsAreSeen, Inputs.BeginsAreTaken}
use Rattle.arj_law_parts.proofs.parts.Begun.{before_on}
use Rattle.arj_law_lock.specs.machine.Actions as machine

-- ---- a coordinator that has just started

pub new_coords_are_seen : NewCoordsAreSeen
new_coords_are_seen act code x node inc S = record {
  actions = record {
    each = λ u b d there. absurd (none u b there);
    opened = λ u b r there. absurd (none u b there);
    quiet = λ u b there. absurd (none u b there);
    others = λ u b a there. absurd (none u b there);
  };
  roots = λ u b there. absurd (none u b there);
  calls = λ u d s o works. absurd (idle u d works);
  plain = λ u d s works. absurd (idle u d works);
}
  where
    none : (u : Uid) (b : Branch) → branch_of u (new_tree node inc) ≡ Some b → ⊥
    none u b there = place_in u.num b [] (found_by u (new_tree node inc) b there).1

    idle : (u : Uid) (d : Doing) → doing_of u (new_coord node inc) ≡ Some d → ⊥
    idle u d works = place_in u.num d [] (doing_by u (new_coord node inc) d works).1

-- ---- one more action

-- the first of a path that has a parent is the parent's first
first_front : (us : List Uid) (h : Uid) → before_last us ≡ Some h → first_uid us ≡ first_uid (front us)
first_front [] h is = absurd (let no_way : ◌≡◌ {A = Option Uid} None (Some h) = is in cc no_way)
first_front (u ∷ []) h is = absurd (let no_way : ◌≡◌ {A = Option Uid} None (Some h) = is in cc no_way)
first_front (u ∷ w ∷ us) h is = refl

-- the only one of a path that has none
first_only : (us : List Uid) → before_last us ≡ None → first_uid us ≡ last_uid us
first_only [] none = refl
first_only (u ∷ []) none = refl
first_only (u ∷ w ∷ us) none = absurd (more u w us none)
  where
    more : (u w : Uid) (us : List Uid) → before_last (u ∷ w ∷ us) ≡ None → ⊥
    more u w [] is = let no_way : ◌≡◌ {A = Option Uid} (Some u) None = is in cc no_way
    more u w (v ∷ us) is = more w v us is

module _ (act : Acts) (code : Codes) (paths : Paths) (x : ℕ) (l : Label) (k : Kind) (parent : Option Label) (above : Option Branch)
    (c : Coord) (S : State) (begins : IsBeginning act paths k above c S) (sees : SeesCoord act code x c S) where
  abbrev u : Uid
  u = next_uid c.tree

  abbrev p : Path
  p = path_below k above u

  abbrev e : Coord
  e = let t = begin_action l k parent above c in t.part

  abbrev fresh : Branch
  fresh = new k p c.tree

  abbrev idle : Doing
  idle = record { label = l; req = 0; now = Idle; took = [] }

  abbrev grows : (w : Uid) (b : Branch) → branch_of w c.tree ≡ Some b → branch_of w e.tree ≡ Some b
  grows = grown_still k p c.tree

  cases : (w : Uid) (b : Branch) → branch_of w e.tree ≡ Some b → (branch_of w c.tree ≡ Some b) ⊎ ((w ≡ u) × (fresh ≡ b))
  cases = grown_cases k p c.tree

  unborn : (w : Uid) (b : Branch) → w ≡ u → branch_of w c.tree ≡ Some b → ⊥
  unborn w b is there = let no_way : ◌≡◌ {A = Option Branch} None (Some b) = sym (not_yet k p c.tree)
      ∙ ap (λ (v : Uid). branch_of v c.tree) (sym is) ∙ there in cc no_way

  -- ---- who is at work

  place_cases : (j : ℕ) (d : Doing) → at_place j (c.doings ++ idle ∷ []) ≡ Some d →
      (at_place j c.doings ≡ Some d) ⊎ ((j ≡ length c.doings + 1) × (idle ≡ d))
  place_cases zero d is = absurd (let no_way : ◌≡◌ {A = Option Doing} None (Some d) = is in cc no_way)
  place_cases (suc j) d is = ⊎_elim (λ old. inl old) (λ f. inr (one j (length c.doings) f.0, f.1)) (get_more j idle d c.doings is)
    where
      one : (m n : ℕ) → m ≡ n → suc m ≡ n + 1
      one m n same = omega (arith, same)

  in_place : {A : Type 0} (j : ℕ) (a : A) (items : List A) → at_place j items ≡ Some a → j ≤ length items
  in_place zero a items is = omega arith
  in_place (suc j) a items is = got j a items is
    where
      got : {A : Type 0} (j : ℕ) (a : A) (items : List A) → slice_get items j ≡ Some a → suc j ≤ length items
      got {A} j a [] is = absurd (let no_way : ◌≡◌ {A = Option A} None (Some a) = is in cc no_way)
      got zero a (y ∷ ys) is = omega arith
      got (suc j) a (y ∷ ys) is = let g = got j a ys is in omega (arith, g)

  -- an action that was there works as it did, and the new one is idle
  old_work : (w : Uid) (d : Doing) (b : Branch) → branch_of w c.tree ≡ Some b → doing_of w e ≡ Some d → doing_of w c ≡ Some d
  old_work w d b there works = ⊎_elim
      (λ (old : at_place w.num c.doings ≡ Some d). (λ i. cond (own i) (at_place w.num c.doings) None) ∙ old)
      (λ (f : (w.num ≡ length c.doings + 1) × (idle ≡ d)). absurd (beyond w.num (length c.doings) (length (let t = c.tree in t.branches))
      f.0 begins.steady.works (in_place w.num b (let t = c.tree in t.branches) (found_by w c.tree b there).1)))
      (place_cases w.num d (doing_by w e d works).1)
    where
      own : is_own w c.tree ≡ true
      own = (found_by w c.tree b there).0

      beyond : (j m n : ℕ) → j ≡ m + 1 → m ≡ n → j ≤ n → ⊥
      beyond j m n is same low = omega (arith, is, same, low)

  new_work : (d : Doing) → doing_of u e ≡ Some d → d ≡ idle
  new_work d works = ⊎_elim
      (λ (old : at_place u.num c.doings ≡ Some d).
      absurd (beyond (length c.doings) (length (let t = c.tree in t.branches)) begins.steady.works (in_place u.num d c.doings old)))
      (λ f. sym f.1)
      (place_cases u.num d (doing_by u e d works).1)
    where
      beyond : (m n : ℕ) → m ≡ n → n + 1 ≤ m → ⊥
      beyond m n same low = omega (arith, same, low)

  waits_before : (w : Uid) (d : Doing) → doing_of w e ≡ Some d → (d ≡ idle) ⊎ (doing_of w c ≡ Some d)
  waits_before w d works = ⊎_elim
      (λ (old : at_place w.num c.doings ≡ Some d). inr ((λ i. cond ((doing_by w e d works).0 i) (at_place w.num c.doings) None) ∙ old))
      (λ f. inl (sym f.1))
      (place_cases w.num d (doing_by w e d works).1)

  -- ---- where it stands

  path_is : uids_of p ≡ paths u
  path_is = begins.stands.path

  -- it is a root, or stands in the root and unit of its parent
  pub record IsBelow : Type 0 where
    pub w : Uid
    pub b : Branch
    pub there : branch_of w c.tree ≡ Some b
    pub root_is : root_of p ≡ root_of b.path
    pub unit_is : root (act u) ≡ root (act w)

  pub place : (root_of p ≡ u) ⊎ IsBelow
  place = by (before_last (paths u)) refl
    where
      by : (o : Option Uid) → before_last (paths u) ≡ o → (root_of p ≡ u) ⊎ IsBelow
      by None none = inl (ap first_uid path_is ∙ first_only (paths u) none ∙ ap last_uid (sym path_is) ∙ begins.stands.uid)
      by (Some h) up = inr (at (branch_of h c.tree) refl (begins.stands.parent h (ap before_last path_is ∙ up)))
        where
          at : (o : Option Branch) → branch_of h c.tree ≡ o → is_open h c.tree ≡ true → IsBelow
          at None none opened = absurd (let no_way : false ≡ true = sym (ap is_open_branch none) ∙ opened in cc no_way)
          at (Some b) there opened = record {
            w = h;
            b = b;
            there = there;
            root_is = ap first_uid path_is ∙ first_front (paths u) h up
                ∙ ap first_uid ((begins.steady.whole.heir u h up).0 ∙ sym (begins.steady.good.tree.lists.paths_are h b there));
            unit_is = same_unit (act u) (act h) (begins.steady.alike.above u h ∙ before_on (paths u) h up);
          }

  -- ---- the actions

  actions : SeesActions act x e S.action
  actions = record {
    each = λ w b d there works action. ⊎_elim
        (λ (old : branch_of w c.tree ≡ Some b). sees.actions.each w b d old (old_work w d b old works) action)
        (λ (f : (w ≡ u) × (fresh ≡ b)). subst (λ (v : Branch). SeesAction x v d (S.action (act w))) f.1 (its w d f.0 works))
        (cases w b there);
    opened = λ w b r there root_is_there un. ⊎_elim
        (λ (old : branch_of w c.tree ≡ Some b). old_open w b r old root_is_there un)
        (λ (f : (w ≡ u) × (fresh ≡ b)). ⊎_elim
        (λ (own : root_of p ≡ u). let n = (begins.unit own).0 in
        ap (λ (v : Uid). (let a = S.action (machine.Root (root (act v))) in a.stage)) f.0 ∙ n.stage)
        (λ (below : IsBelow). ap (λ (v : Uid). (let a = S.action (machine.Root (root (act v))) in a.stage)) f.0
        ∙ ap (λ (n : ℕ). (let a = S.action (machine.Root n) in a.stage)) below.unit_is
        ∙ old_open below.w below.b r below.there
        (ap (λ (v : Uid). branch_of v e.tree) (sym below.root_is ∙ ap (λ (v : Branch). root_of v.path) f.1) ∙ root_is_there) un)
        place)
        (cases w b there);
    quiet = λ w b there. ⊎_elim
        (λ (old : branch_of w c.tree ≡ Some b). sees.actions.quiet w b old)
        (λ (f : (w ≡ u) × (fresh ≡ b)). ⊎_elim
        (λ (own : root_of p ≡ u). let n = (begins.unit own).0 in
        ap (λ (v : Uid). (let a = S.action (machine.Root (root (act v))) in a.waits)) f.0 ∙ n.waits)
        (λ (below : IsBelow). ap (λ (v : Uid). (let a = S.action (machine.Root (root (act v))) in a.waits)) f.0
        ∙ ap (λ (n : ℕ). (let a = S.action (machine.Root n) in a.waits)) below.unit_is ∙ sees.actions.quiet below.w below.b below.there)
        place)
        (cases w b there);
    others = λ w b a there home action. ⊎_elim
        (λ (old : branch_of w c.tree ≡ Some b). here a (sees.actions.others w b a old home action))
        (λ (f : (w ≡ u) × (fresh ≡ b)). ⊎_elim
        (λ (own : root_of p ≡ u). let n = (begins.unit own).0 in inr (n.idle a (home ∙ ap (λ (v : Uid). root (act v)) f.0) action))
        (λ (below : IsBelow).
        here a (sees.actions.others below.w below.b a below.there (home ∙ ap (λ (v : Uid). root (act v)) f.0 ∙ below.unit_is) action))
        place)
        (cases w b there);
  }
    where
      its : (w : Uid) (d : Doing) → w ≡ u → doing_of w e ≡ Some d → SeesAction x fresh d (S.action (act w))
      its w d is works =
          let i = new_work d (ap (λ (v : Uid). doing_of v e) (sym is) ∙ works) in
          subst (λ (v : Doing). SeesAction x fresh v (S.action (act w))) (sym i)
          (subst (λ (v : Uid). SeesAction x fresh idle (S.action (act v))) (sym is)
          (let n = begins.untouched in record {
            stage = n.stage;
            request = subst (λ (m : ℕ). m ≤ 0) (sym n.request) (omega arith);
            waits = λ h. n.waits;
            last = λ h. n.request;
            doomed = λ h. n.doomed;
          }))

      old_open : (w : Uid) (b r : Branch) → branch_of w c.tree ≡ Some b → branch_of (root_of b.path) e.tree ≡ Some r →
          is_some r.ended ≡ false → (let a = S.action (machine.Root (root (act w))) in a.stage) ≡ 0
      old_open w b r there root_is_there un =
          let q = root_there act paths x c S.action begins.steady sees.actions w b there in
          let two : ◌≡◌ {A = Option Branch} (Some q.0) (Some r) = sym (grows (root_of b.path) q.0 q.1) ∙ root_is_there in
          let one : q.0 ≡ r = cc two in
          sees.actions.opened w b q.0 there q.1 (ap (λ (v : Branch). is_some v.ended) one ∙ un)

      here : (a : Act) → IsHere act c.tree a ⊎ IsIdle (S.action a) → IsHere act e.tree a ⊎ IsIdle (S.action a)
      here a (inl h) = inl (h.0, h.1, grows h.0 h.1 h.2, h.3)
      here a (inr idle_one) = inr idle_one

  -- ---- the roots

  aborted_same : (w : Uid) → is_aborted w e.tree ≡ is_aborted w c.tree
  aborted_same w = by (branch_of w c.tree) refl
    where
      by : (o : Option Branch) → branch_of w c.tree ≡ o → is_aborted w e.tree ≡ is_aborted w c.tree
      by (Some b) there = ap (ended_so ending.Abort) (grows w b there ∙ sym there)
      by None none = at (branch_of w e.tree) refl
        where
          at : (o : Option Branch) → branch_of w e.tree ≡ o → is_aborted w e.tree ≡ is_aborted w c.tree
          at None is = ap (ended_so ending.Abort) (is ∙ sym none)
          at (Some b) is = ⊎_elim
              (λ (old : branch_of w c.tree ≡ Some b). ap (ended_so ending.Abort) (is ∙ sym old))
              (λ (f : (w ≡ u) × (fresh ≡ b)). ap (ended_so ending.Abort) is ∙ ap (λ (v : Branch). ended_so ending.Abort (Some v)) (sym f.1)
              ∙ sym (ap (ended_so ending.Abort) none))
              (cases w b is)

  spent_same : (us : List Uid) → is_spent us e.tree ≡ is_spent us c.tree
  spent_same [] = refl
  spent_same (w ∷ us) = λ i. aborted_same w i || spent_same us i

  old_root : (w : Uid) → SeesRoot act x w (root_at w c) c.tree S → SeesRoot act x w (root_at w c) e.tree S
  old_root w s = record {
    keeping = s.keeping;
    spent = λ none z i about. spent_same z.path ∙ s.spent none z i about;
    said = λ z i about. (let y = s.said z i about in record {
      branch = y.branch;
      there = grows (last_uid z.path) y.branch y.there;
      path = y.path;
      of = y.of;
      call = y.call;
      called = y.called;
      by = y.by;
    });
    calls = s.calls;
    heard = s.heard;
  }

  new_root : root_of p ≡ u → SeesRoot act x u (root_at u c) e.tree S
  new_root own = let n = begins.unit own in subst (λ (r : Root). SeesRoot act x u r e.tree S) (sym n.1) (record {
    keeping = subst (λ (m : ℕ). m ≤ 0) (sym n.0.kept) (omega arith);
    spent = λ none z i. absurd (in_from z [] i);
    said = λ z i. absurd (in_from z [] i);
    calls = λ d i home. absurd (n.0.calls d i home);
    heard = λ g b i. absurd (in_from g [] i);
  })

  action_begins : SeesCoord act code x e S
  action_begins = record {
    actions = actions;
    roots = λ w b there own. ⊎_elim
        (λ (old : branch_of w c.tree ≡ Some b). old_root w (sees.roots w b old own))
        (λ (f : (w ≡ u) × (fresh ≡ b)). let mine : root_of p ≡ u = ap (λ (v : Branch). root_of v.path) f.1 ∙ own ∙ f.0 in
        subst (λ (v : Uid). SeesRoot act x v (root_at v c) e.tree S) (sym f.0) (new_root mine))
        (cases w b there);
    calls = λ w d s o works calling. ⊎_elim
        (λ (is : d ≡ idle). absurd (let no_way = ap (λ (v : Doing). v.now) (sym is) ∙ calling in cc no_way))
        (λ (old : doing_of w c ≡ Some d). sees.calls w d s o old calling)
        (waits_before w d works);
    plain = λ w d s works calling. ⊎_elim
        (λ (is : d ≡ idle). absurd (let no_way = ap (λ (v : Doing). v.now) (sym is) ∙ calling in cc no_way))
        (λ (old : doing_of w c ≡ Some d). sees.plain w d s old calling)
        (waits_before w d works);
  }

  -- ---- and the whole coordinator

  module _ (whole : SeesWhole act code x c S) where
    inc : SeesIncludes act x c S
    inc = whole.includes

    -- who included was begun before
    noted : (w : Uid) (b : Branch) (i : Include) → branch_of w c.tree ≡ Some b → root_of b.path ≡ w → IsNoted act x i (root_at w c) c.tree →
        IsNoted act x i (root_at w c) e.tree
    noted w b i there own n = record {
      join = n.join;
      there = n.there;
      about = n.about;
      by = n.by;
      granted = λ q found. ⊎_elim
          (λ (old : branch_of (last_uid (let j = n.join in j.path)) c.tree ≡ Some q). n.granted q old)
          (λ (f : (last_uid (let j = n.join in j.path) ≡ u) × (fresh ≡ q)). absurd
          (let j = inc.joins w b n.join there own n.there n.about in unborn (last_uid (let y = n.join in y.path)) j.branch f.0 j.found))
          (cases (last_uid (let j = n.join in j.path)) q found);
    }

    mine : (w : Uid) (b : Branch) → root_of b.path ≡ w → (w ≡ u) × (fresh ≡ b) → root_of p ≡ u
    mine w b own f = ap (λ (v : Branch). root_of v.path) f.1 ∙ own ∙ f.0

    begins_whole : SeesWhole act code x e S
    begins_whole = record {
      coord = action_begins;
      includes = record {
        lines = λ w b i there own has home. ⊎_elim
            (λ (old : branch_of w c.tree ≡ Some b). noted w b i old own (inc.lines w b i old own has home))
            (λ (f : (w ≡ u) × (fresh ≡ b)). absurd (let n = (begins.unit (mine w b own f)).0 in
            n.includes i has (home ∙ ap (λ (v : Uid). root (act v)) f.0)))
            (cases w b there);
        joins = λ w b j there own has about. ⊎_elim
            (λ (old : branch_of w c.tree ≡ Some b). let n = inc.joins w b j old own has about in
            record { branch = n.branch; found = grows (last_uid j.path) n.branch n.found; path = n.path })
            (λ (f : (w ≡ u) × (fresh ≡ b)). absurd (let n = begins.unit (mine w b own f) in
            in_from j [] (subst (λ (r : Root). Contains r.joined j) (ap (λ (v : Uid). root_at v c) f.0 ∙ n.1) has)))
            (cases w b there);
        waits = λ w d s y works is load. ⊎_elim
            (λ (new : d ≡ idle). absurd (let bad : Idle ≡ Calling s = sym (ap (λ (v : Doing). v.now) new) ∙ is in cc bad))
            (λ (old : doing_of w c ≡ Some d). inc.waits w d s y old is load)
            (waits_before w d works);
      };
      commits = λ w d m works is. ⊎_elim
          (λ (new : d ≡ idle). absurd (let bad : Idle ≡ Committing m = sym (ap (λ (v : Doing). v.now) new) ∙ is in cc bad))
          (λ (old : doing_of w c ≡ Some d). whole.commits w d m old is)
          (waits_before w d works);
      units = λ w b there own gone. ⊎_elim
          (λ (old : branch_of w c.tree ≡ Some b). whole.units w b old own gone)
          (λ (f : (w ≡ u) × (fresh ≡ b)). absurd (let bad = ap (λ (v : Branch). is_some v.ended) f.1 ∙ gone in cc bad))
          (cases w b there);
    }

pub begins_are_taken : BeginsAreTaken
begins_are_taken act code paths x l k parent above c S begins whole =
    begins_whole act code paths x l k parent above c S begins whole.coord whole
