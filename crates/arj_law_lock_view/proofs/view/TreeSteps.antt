-- Ends of actions at their coordinator go in the machine.
use Rattle.arj_law_parts.proofs.Words
use Words.{◌≡◌, ◌≢◌, ◌≤◌, ◌⊎◌, ◌∙◌, ◌||◌, ℕ, zero, suc, List, [], ◌∷◌, Bool, true, false, length, Option, Some, None, refl, sym, ap, subst}
use Words.{inl, inr, ⊎_elim, arith, is_some, uid_same, uid_cases, Uid, End, Kind, is_on, first_uid, uids_of, Coord, Doing, Now, Idle}
use Words.{Calling, Committing, doing_of, on_doing, ended, is_committing_now, is_waiting_now, Branch, Tree, branch_of, has_end}
use Words.{has_open_child, root_of}
use Words.ending
use Words.kind
use Rattle.arj_law_lock_view.proofs.Terms
use Terms.{Act, Root, Sub, is_action, is_top, on, root, same, by_cases, differ, on_root, on_same, on_self, on_up, root_is, same_is}
use Terms.{top_action, IsTree, Paths, IsBusy, HasLists, path_some, above_of, all_over, over_below, shorter, work_there, Acts, IsHere}
use Terms.{IsIdle, IsLone, IsPlaced, IsSteady, SeesAction, SeesActions, invokes, stage_of}
use Rattle.arj_law_lock.specs.machine.State.{Action}
use Rattle.arj_law_lock_view.proofs.view.OneSteps as single

-- ---- paths

-- of two on a path one stands above the other
pub kin : (a b c : Act) → on a b ≡ true → on a c ≡ true → (on b c ≡ true) ⊎ (on c b ≡ true)
kin (Root u) b c p q = inl (on_same b c (sym (same_is (Root u) b p) ∙ same_is (Root u) c q))
kin (Sub a n) b c p q = by (kin a b c) (on_up a n b p) (on_up a n c q)
  where
    by : (on a b ≡ true → on a c ≡ true → (on b c ≡ true) ⊎ (on c b ≡ true)) → (b ≡ Sub a n) ⊎ (on a b ≡ true) →
        (c ≡ Sub a n) ⊎ (on a c ≡ true) → (on b c ≡ true) ⊎ (on c b ≡ true)
    by ih (inl is) r = inl (ap (λ (d : Act). on d c) is ∙ q)
    by ih (inr o) (inl is) = inr (ap (λ (d : Act). on d b) is ∙ p)
    by ih (inr o) (inr r) = ih o r

pub first_on : (us : List Uid) → 1 ≤ length us → is_on us (first_uid us) ≡ true
first_on [] some = absurd (omega (arith, some))
first_on (u ∷ us) some = ap (λ b. b || is_on us u) (uid_same u)

-- who stands above one of the tree's is of the tree
module _ (paths : Paths) (whole : IsTree paths) (t : Tree) (lists : HasLists paths t) (u : Uid) where
  there_by : (k : ℕ) (w : Uid) (b : Branch) → length (paths w) ≤ k → branch_of w t ≡ Some b → is_on (paths w) u ≡ true →
      (c : Branch) × (branch_of u t ≡ Some c)
  there_by zero w b short found above = absurd (none (paths w) short above)
    where
      none : (us : List Uid) → length us ≤ 0 → is_on us u ≡ true → ⊥
      none [] le o = cc o
      none (x ∷ us) le o = omega (arith, le)
  there_by (suc k) w b short found above = ⊎_elim
      (λ (is : w ≡ u). (b, ap (λ (v : Uid). branch_of v t) (sym is) ∙ found))
      (λ (other : w ≢ u). let up = above_of paths whole t lists u w b found above other in let p = lists.parents w up.0 b found up.1 in
      there_by k up.0 p.0 (shorter paths whole t lists w up.0 k up.1 up.3 short) p.1 up.2)
      (uid_cases w u)

  pub above_there : (w : Uid) (b : Branch) → branch_of w t ≡ Some b → is_on (paths w) u ≡ true → (c : Branch) × (branch_of u t ≡ Some c)
  above_there w b found above = there_by (length (paths w)) w b (omega arith) found above

-- ---- who does what

module _ (act : Acts) (paths : Paths) (x : ℕ) (c : Coord) (f : Act →
    Action) (steady : IsSteady act paths c) (sees : SeesActions act x c f) where
  abbrev t : Tree
  t = c.tree

  -- an action, with its work
  pub seen_at : (u : Uid) (b : Branch) → branch_of u t ≡ Some b → is_action (act u) ≡ true →
      (d : Doing) × (doing_of u c ≡ Some d) × SeesAction x b d (f (act u))
  seen_at u b found action = let d = work_there c steady.works u b found in (d.0, d.1, sees.each u b d.0 found d.1 action)

  -- the root's branch
  pub root_there : (u : Uid) (b : Branch) → branch_of u t ≡ Some b →
      (r : Branch) × (branch_of (root_of b.path) t ≡ Some r) × (is_on (paths u) (root_of b.path) ≡ true)
  root_there u b found =
      let up : is_on (paths u) (root_of b.path) ≡ true = ap (λ (us : List Uid). is_on us (root_of b.path))
      (sym (steady.good.tree.lists.paths_are u b found)) ∙ first_on (uids_of b.path) (path_some b.path) in
      let r = above_there paths steady.whole t steady.good.tree.lists (root_of b.path) u b found up in
      (r.0, r.1, up)

  -- above an open action all are open
  pub open_above : (u w : Uid) (b e : Branch) → branch_of u t ≡ Some b → is_some b.ended ≡ false → branch_of w t ≡ Some e →
      is_on (paths u) w ≡ true → is_some e.ended ≡ false
  open_above u w b e found unended there above = by (is_some e.ended) refl
    where
      by : (o : Bool) → is_some e.ended ≡ o → o ≡ false
      by true over = absurd (let k = over_below paths steady.whole t steady.good.tree.lists steady.good.tree.closed w e there over u b
          found above in cc (sym k ∙ unended))
      by false is = refl

  stage_open : (e : Branch) (d : Doing) (a : Action) → SeesAction x e d a → is_some e.ended ≡ false → is_committing_now d.now ≡ false →
      a.stage ≡ 0
  stage_open e d a s unended quiet = s.stage ∙ by e.ended d.now unended quiet
    where
      by : (o : Option End) (n : Now) → is_some o ≡ false → is_committing_now n ≡ false → stage_of o n ≡ 0
      by (Some k) n un q = absurd (cc un)
      by None Idle un q = refl
      by None (Calling k) un q = refl
      by None (Committing k) un q = absurd (cc q)

  pub stage_over : (e : Branch) (d : Doing) (a : Action) → SeesAction x e d a → is_some e.ended ≡ true → (a.stage ≡ 3) ⊎ (a.stage ≡ 4)
  stage_over = single.over_stage x

  not_waiting : (n : Now) → is_waiting_now n ≡ false → is_committing_now n ≡ false
  not_waiting Idle isnt = refl
  not_waiting (Calling s) isnt = absurd (cc isnt)
  not_waiting (Committing m) isnt = absurd (cc isnt)

  -- the path of an action that isn't at its commit is open, where nothing waits above it
  pub opens : (u : Uid) (b : Branch) (d : Doing) → branch_of u t ≡ Some b → is_some b.ended ≡ false → doing_of u c ≡ Some d →
      is_committing_now d.now ≡ false → IsLone paths u c → (a : Act) → on (act u) a ≡ true → (f a).stage ≡ 0
  opens u b d found unended works quiet lone a above = ⊎_elim action unit (by_cases (is_action a))
    where
      unit : is_action a ≡ false → (f a).stage ≡ 0
      unit isnt =
          let r = root_there u b found in
          let home : a ≡ Root (root (act u)) = root_is a isnt ∙ ap Root (sym (on_root (act u) a above)) in
          ap (λ (v : Act). (f v).stage) home ∙ sees.opened u b r.0 found r.1 (open_above u (root_of b.path) b r.0 found unended r.1 r.2)

      action : is_action a ≡ true → (f a).stage ≡ 0
      action holds =
          let w = steady.alike.filled u a above holds in
          let up : is_on (paths u) w.0 ≡ true = sym (steady.alike.above u w.0) ∙ ap (on (act u)) (sym w.1) ∙ above in
          let e = above_there paths steady.whole t steady.good.tree.lists w.0 u b found up in
          let s = seen_at w.0 e.0 e.1 (ap is_action (sym w.1) ∙ holds) in
          ap (λ (v : Act). (f v).stage) w.1
          ∙ stage_open e.0 s.0 (f (act w.0)) s.2 (open_above u w.0 b e.0 found unended e.1 up) (calm w.0 s.0 s.1 up (uid_cases w.0 u))
        where
          calm : (w : Uid) (e : Doing) → doing_of w c ≡ Some e → is_on (paths u) w ≡ true → (w ≡ u) ⊎ (w ≢ u) →
              is_committing_now e.now ≡ false
          calm w e it up (inl is) = let one : ◌≡◌ {A = Option Doing} (Some d) (Some e) = sym works ∙ ap (λ (v : Uid). doing_of v c) (sym is)
              ∙ it in let k : d ≡ e = cc one in ap (λ (v : Doing). is_committing_now v.now) (sym k) ∙ quiet
          calm w e it up (inr other) = by (is_waiting_now e.now) refl
            where
              by : (o : Bool) → is_waiting_now e.now ≡ o → is_committing_now e.now ≡ false
              by true holds = absurd (let l = lone w e it holds other in cc (sym up ∙ l.0))
              by false isnt = not_waiting e.now isnt

  -- Who waits in a unit of this coordinator is one of its actions, which is open and waits for an Invoke.
  pub record IsWaiter (a : Act) : Type 0 where
    pub who : Uid
    pub branch : Branch
    pub work : Doing
    pub is : a ≡ act who
    pub there : branch_of who t ≡ Some branch
    pub works : doing_of who c ≡ Some work
    pub invoking : invokes x work.now ≡ true
    pub unended : is_some branch.ended ≡ false

  unaborted : (e : Branch) (d : Doing) (a : Action) → SeesAction x e d a → a.stage ≤ 3 → has_end ending.Abort e.ended ≡ false
  unaborted e d a s low = by e.ended s.stage
    where
      by : (o : Option End) → a.stage ≡ stage_of o d.now → has_end ending.Abort o ≡ false
      by None st = refl
      by (Some ending.Commit) st = refl
      by (Some ending.Abort) st = absurd (omega (arith, st, low))

  -- who waits is open
  invoker_open : (w : Uid) (e : Branch) (d : Doing) → branch_of w t ≡ Some e → doing_of w c ≡ Some d → invokes x d.now ≡ true →
      is_some e.ended ≡ false
  invoker_open w e d there works busy = by d.now busy (steady.good.busy w d works)
    where
      by : (n : Now) → invokes x n ≡ true → IsBusy t w n → is_some e.ended ≡ false
      by Idle is asks = absurd (cc is)
      by (Committing m) is asks = absurd (cc is)
      by (Calling s) is asks = let one : ◌≡◌ {A = Option Branch} (Some asks.branch) (Some e) = sym asks.found ∙ there in
          let k : asks.branch ≡ e = cc one in ap (λ (v : Branch). is_some v.ended) (sym k) ∙ asks.opened

  pub waiter : (u : Uid) (b : Branch) (a : Act) → branch_of u t ≡ Some b → root a ≡ root (act u) → (f a).waits ≡ true → (f a).stage ≤ 3 →
      IsWaiter a
  waiter u b a found home waits alive = ⊎_elim action unit (by_cases (is_action a))
    where
      unit : is_action a ≡ false → IsWaiter a
      unit isnt =
          absurd (let q = sees.quiet u b found in cc (sym waits ∙ ap (λ (v : Act). (f v).waits) (root_is a isnt ∙ ap Root home) ∙ q))

      action : is_action a ≡ true → IsWaiter a
      action holds = by (sees.others u b a found home holds)
        where
          by : IsHere act t a ⊎ IsIdle (f a) → IsWaiter a
          by (inr idle) = absurd (let q = idle.waits in cc (sym waits ∙ q))
          by (inl (w, e, there, is)) =
              let s = seen_at w e there (ap is_action (sym is) ∙ holds) in
              let low : (f (act w)).stage ≤ 3 = subst (λ (v : Act). (f v).stage ≤ 3) is alive in
              let busy : invokes x (let d = s.0 in d.now) ≡ true = sym (s.2.waits (unaborted e s.0 (f (act w)) s.2 low))
              ∙ ap (λ (v : Act). (f v).waits) (sym is) ∙ waits in
              record {
                who = w;
                branch = e;
                work = s.0;
                is = is;
                there = there;
                works = s.1;
                invoking = busy;
                unended = invoker_open w e s.0 there s.1 busy;
              }

  -- ---- below an action in which nothing is open

  module _ (u : Uid) (b : Branch) (d : Doing) (found : branch_of u t ≡ Some b) (its : is_action (act u) ≡ true)
      (childless : has_open_child u t ≡ false) (works : doing_of u c ≡ Some d) (idle : d.now ≡ Idle) where
    pub over : (w : Uid) (e : Branch) → branch_of w t ≡ Some e → is_on (paths w) u ≡ true → w ≢ u → is_some e.ended ≡ true
    over w e there above other = all_over paths steady.whole t steady.good.tree.lists u steady.good.tree.closed childless w e there
        (ap (λ (us : List Uid). is_on us u) (steady.good.tree.lists.paths_are w e there) ∙ above) other

    below_action : (a m : Act) → is_action m ≡ true → on a m ≡ true → is_action a ≡ true
    below_action (Root n) m holds o = ap is_action (same_is (Root n) m o) ∙ holds
    below_action (Sub q n) m holds o = refl

    -- one that stands below it and isn't aborted is committed
    committed_below : (w : Uid) (e : Branch) → branch_of w t ≡ Some e → is_action (act w) ≡ true → on (act w) (act u) ≡ true → w ≢ u →
        (f (act w)).stage ≤ 3 → (f (act w)).stage ≡ 3
    committed_below w e there holds below other low =
        let s = seen_at w e there holds in
        ⊎_elim (λ (three : (f (act w)).stage ≡ 3). three) (λ (four : (f (act w)).stage ≡ 4). absurd (omega (arith, four, low)))
        (stage_over e s.0 (f (act w)) s.2 (over w e there (sym (steady.alike.above w u) ∙ below) other))

    pub merged_below : (w : Uid) (e : Branch) (a : Act) → branch_of w t ≡ Some e → on (act w) a ≡ true → on (act w) (act u) ≡ true →
        on (act u) a ≡ false → (f a).stage ≤ 3 → (f a).stage ≡ 3
    merged_below w e a there above below off low =
        ⊎_elim of (λ (up : on (act u) a ≡ true). differ up off) (kin (act w) a (act u) above below)
      where
        of : on a (act u) ≡ true → (f a).stage ≡ 3
        of down =
            let holds = below_action a (act u) its down in
            let v = steady.alike.filled w a above holds in
            let g = above_there paths steady.whole t steady.good.tree.lists v.0 w e there
            (sym (steady.alike.above w v.0) ∙ ap (on (act w)) (sym v.1) ∙ above) in
            let other : v.0 ≢ u = λ same_one. differ (ap (on (act u)) (v.1 ∙ ap act same_one) ∙ on_self (act u)) off in
            ap (λ (q : Act). (f q).stage) v.1 ∙ committed_below v.0 g.0 g.1 (ap is_action (sym v.1) ∙ holds)
            (ap (λ (q : Act). on q (act u)) (sym v.1) ∙ down) other (subst (λ (q : Act). (f q).stage ≤ 3) v.1 low)

    pub none_waits : (a : Act) → on a (act u) ≡ true → (f a).waits ≡ true → (f a).stage ≤ 3 → ⊥
    none_waits a below waiting low = by (waiter u b a found (on_root a (act u) below) waiting low)
      where
        by : IsWaiter a → ⊥
        by w = ⊎_elim
            (λ (same_one : w.who ≡ u).
            let one : ◌≡◌ {A = Option Doing} (Some d) (Some w.work) = sym works ∙ ap (λ (v : Uid). doing_of v c) (sym same_one) ∙ w.works in
            let k : d ≡ w.work = cc one in
            differ w.invoking (ap (λ (v : Doing). invokes x v.now) (sym k) ∙ ap (invokes x) idle))
            (λ (other : w.who ≢ u). let k = over w.who w.branch w.there
            (sym (steady.alike.above w.who u) ∙ ap (λ (q : Act). on q (act u)) (sym w.is) ∙ below) other in differ k w.unended)
            (uid_cases w.who u)

  -- ---- one action changes

  abbrev pub OnlyOne : Uid → Branch → Doing → Coord → Type 0
  OnlyOne u b d e = single.OnlyOne c u b d e

  module _ (u : Uid) (b0 b : Branch) (d : Doing) (e : Coord) (g : Act → Action) (found : branch_of u t ≡ Some b0) (only : OnlyOne u b d e)
      (path : b.path ≡ b0.path) (later : is_some b.ended ≡ false → is_some b0.ended ≡ false) where
    pub one_changed : (is_action (act u) ≡ true → SeesAction x b d (g (act u))) →
        ((a : Act) → same a (act u) ≡ false → is_action a ≡ true → g a ≡ f a)
        → ((w : Uid) (q r : Branch) → branch_of w e.tree ≡ Some q → branch_of (root_of q.path) e.tree ≡ Some r → is_some r.ended ≡ false →
        g (Root (root (act w))) ≡ f (Root (root (act w))))
        → ((n : ℕ) → (g (Root n)).waits ≡ (f (Root n)).waits) → SeesActions act x e g
    one_changed = single.one_changed c u b0 b d e found only path later act x f g steady.alike.one sees

-- ---- kinds

pub action_kind : (a : Act) (k : Kind) → k ≢ kind.Serial → IsPlaced a k → is_action a ≡ true
action_kind a kind.Serial isnt is = absurd (isnt refl)
action_kind a kind.Nested isnt is = is.0
action_kind a kind.Top isnt is = top_action a is
action_kind a kind.Constituent isnt is = top_action a is
action_kind a kind.Independent isnt is = top_action a is

pub top_kind : (a : Act) (k : Kind) → k ≢ kind.Serial → k ≢ kind.Nested → IsPlaced a k → is_top a ≡ true
top_kind a kind.Serial isnt not_nested is = absurd (isnt refl)
top_kind a kind.Nested isnt not_nested is = absurd (not_nested refl)
top_kind a kind.Top isnt not_nested is = is
top_kind a kind.Constituent isnt not_nested is = is
top_kind a kind.Independent isnt not_nested is = is

-- ---- an end in the coordinator

module _ (act : Acts) (paths : Paths) (x : ℕ) (c : Coord) (f : Act → Action) (steady : IsSteady act paths c) (sees : SeesActions act x c f)
    (u : Uid) (b : Branch) (d : Doing) (found : branch_of u c.tree ≡ Some b) (works : doing_of u c ≡ Some d) where
  -- its work after it changes
  pub work_changed : (h : Doing → Doing) → OnlyOne act paths x c f steady sees u b (h d) (on_doing u h c)
  work_changed = single.work_changed c u b d found works

  pub end_changed : (e : End) → OnlyOne act paths x c f steady sees u (record b { ended = Some e }) (record d { now = Idle }) (ended u e c)
  end_changed = single.end_changed c u b d found works
