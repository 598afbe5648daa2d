-- Where a call begins: its action stands in a top at work, and a binding that its root keeps has a list for it.
use Rattle.arj_law_parts.proofs.Words
use Words.{◌≡◌, ◌≢◌, ◌⊎◌, ℕ, ◌==◌, ◌&&◌, ◌||◌, if◌then◌else◌, not, Bool, true, false, List, [], ◌∷◌, Option, Some, None, is_some, refl, sym}
use Words.{◌∙◌, ap, subst, inl, inr, ⊎_elim, Contains, unwrap_or, list_all, and_parts, uid_is, In, in_from, in_to, Op, Path, Uid, uid_eq}
use Words.{actor, top_of, call, call_steps, given_away, known_at_start, next_req, renewed, was_named, Goal, Include, Known, Run}
use Words.{Steps, is_include, start_at, Machine, Calling, Committing, Coord, Doing, Grant, Keeping, Root, Said, doing_of, is_call, is_free}
use Words.{is_grant_of, keeping_of, kept_of, no_root, on_root, others_call, retains, root_at, said_of, with_keeping, Disk, Parts, at_number}
use Words.{uid_number, Node, Branch, branch_of, is_own, is_spent, root_of, uses_object, Post, Seen, is_binding}
use Words.list
use Words.kind
use Words.coord
use Rattle.arj_law_disk_view.proofs.Terms
use Terms.{IsAsking, IsBusy, paths_of, begun_tree, one_of, KnowsFew, IsGood, Names, Office, or_cases, some_is, test_is, test_same, up}
use Terms.{KnowsNode, Kinds, SeesBoth, HasCallList, HasList, SeesLists, SeesHeardAt, is_bound}
use Terms.disk
use Rattle.arj_law_disk_view.proofs.running
use running.{HeardGiveups.put_keeps, HeardServe.coord as good_coord}
use running.HeardCalls.{HasItsList, KeepsForOthers, goes_kept, root_put}
use running.HeardPlaces.{StandsIn, stands_in, top_idle, top_rooted, top_waits}
use Rattle.arj_law_disk_view.proofs.view.Frames.{node_here}
use Rattle.arj_law_runs.proofs.calls.{CoordKnown.loose_of, CoordSteps.IsLoose}

-- ---- where an action stands

module _ (tops : Kinds) (k : ℕ) (d : Disk) (t : Parts) (M : Seen) (good : IsGood (up k d t M)) (few : KnowsFew (up k d t M))
    (knows : KnowsNode tops k d t M) where
  abbrev Here : Node
  Here = record { number = k; disk = d; live = Some t }

  -- an open action that is no serializing one
  pub stands : (u : Uid) (b : Branch) → branch_of u t.coord.tree ≡ Some b → is_some b.ended ≡ false → b.kind ≢ kind.Serial →
      StandsIn tops t.coord b.path
  stands u b found opened unserial = stands_in few.1.1.0 few.1.1.1.begun tops knows.kinds d.intents t.coord
      (good_coord (up k d t M) good few k Here t (node_here M k Here) refl) knows.coord u b found opened unserial

  -- who waits in a step asks
  pub asking : (u : Uid) (q : Doing) (s : Steps) → doing_of u t.coord ≡ Some q → q.now ≡ Calling s → IsAsking t.coord.tree u s.path
  asking u q s does now = let g = good_coord (up k d t M) good few k Here t (node_here M k Here) refl in
      subst (IsBusy t.coord.tree u) now (g.busy u q does)

  pub step_stands : (u : Uid) (q : Doing) (s : Steps) → doing_of u t.coord ≡ Some q → q.now ≡ Calling s → StandsIn tops t.coord s.path
  step_stands u q s does now = let a = asking u q s does now in
      subst (StandsIn tops t.coord) a.path (stands u a.branch a.found a.opened a.unserial)

  -- its top works
  pub step_idle : (x : ℕ) (A : Office) → SeesBoth x tops A (up k d t M) → (u : Uid) (q : Doing) (s : Steps) → doing_of u t.coord ≡ Some q →
      q.now ≡ Calling s → A.world.disk.stage (uid_number (top_of s.path)) ≡ disk.Idle
  step_idle x A both u q s does now =
      let a = asking u q s does now in
      subst (λ p. A.world.disk.stage (uid_number (top_of p)) ≡ disk.Idle) a.path
      (top_idle few.1.1.0 few.1.1.1.begun tops knows.kinds d.intents t.coord (good_coord (up k d t M) good few k Here t (node_here M k Here)
      refl) knows.coord u a.branch a.found a.opened a.unserial x k d.inc A.world.disk
      (let s = both.disks in s.coords k Here t (node_here M k Here) refl) q does (λ m at. let n : Calling s ≡ Committing m = sym now ∙ at in
      cc))

  -- and its root is there
  pub step_rooted : (x : ℕ) (A : Office) → SeesBoth x tops A (up k d t M) → (u : Uid) (q : Doing) (s : Steps) → doing_of u t.coord
      ≡ Some q → q.now ≡ Calling s → disk.is_gone (A.world.disk.stage (A.world.disk.root (uid_number (top_of s.path)))) ≡ false
  step_rooted x A both u q s does now =
      let a = asking u q s does now in
      let sees = both.disks in
      subst (λ p. disk.is_gone (A.world.disk.stage (A.world.disk.root (uid_number (top_of p)))) ≡ false) a.path
      (top_rooted few.1.1.0 few.1.1.1.begun tops knows.kinds d.intents t.coord (good_coord (up k d t M) good few k Here t
      (node_here M k Here) refl) knows.coord u a.branch a.found a.opened a.unserial x k d.inc A.world.disk sees.fixed
      (sees.coords k Here t (node_here M k Here) refl)
      (subst (λ p. A.world.disk.stage (uid_number (top_of p)) ≡ disk.Idle) (sym a.path) (step_idle x A both u q s does now)))

  -- which has no commit under way
  pub top_apart : (u : Uid) (q : Doing) (s : Steps) → doing_of u t.coord ≡ Some q → q.now ≡ Calling s → (z : Doing) (m : Machine) →
      doing_of (top_of s.path) t.coord ≡ Some z → z.now ≡ Committing m → ⊥
  top_apart u q s does now z m there is =
      let a = asking u q s does now in
      top_waits few.1.1.0 few.1.1.1.begun tops knows.kinds d.intents t.coord
      (good_coord (up k d t M) good few k Here t (node_here M k Here) refl) knows.coord u a.branch a.found a.opened a.unserial q does
      (λ m at. let n : Calling s ≡ Committing m = sym now ∙ at in cc) z m
      (ap (λ v. doing_of (top_of v) t.coord) a.path ∙ there) is

  -- of a root that is free of what it keeps nobody else waits in a call on the object
  pub free_alone : (u : Uid) (b : Branch) → branch_of u t.coord.tree ≡ Some b → (x : ℕ) → is_free (root_of b.path) u x t.coord ≡ true
      → (w : Uid) (q : Doing) (s : Steps) → w ≢ u → doing_of w t.coord ≡ Some q → q.now ≡ Calling s → s.x ≡ x → is_call s.goal ≡ true →
      (let r = root_of s.path in r.num) ≡ (let r = root_of b.path in r.num) → ⊥
  free_alone u b found x free =
      let g = good_coord (up k d t M) good few k Here t (node_here M k Here) refl in
      let l : IsLoose t.coord.tree u t.coord (root_of b.path) x = loose_of few.1.1.0 (paths_of few.1.1.0)
      (begun_tree few.1.1.0 few.1.1.1.begun) t.coord g t.coord.tree (λ w same. same) u b found x free in
      l.alone

-- ---- a binding that is given up

pub renewed_keeps : (free : Bool) (k : Keeping) →
    ((renewed free k k.kept).kept ≡ k.kept) ⊎ (((renewed free k k.kept).kept ≡ None) × (free ≡ true))
renewed_keeps free k = by k.kept refl
  where
    one : (o : Known) (a b : Bool) → k.kept ≡ Some o →
        ((if a && b then given_away k o else k).kept ≡ k.kept) ⊎ (((if a && b then given_away k o else k).kept ≡ None) × (a ≡ true))
    one o true true is = inr (refl, refl)
    one o true false is = inl refl
    one o false b is = inl refl

    by : (o : Option Known) → k.kept ≡ o → ((renewed free k o).kept ≡ k.kept) ⊎ (((renewed free k o).kept ≡ None) × (free ≡ true))
    by None is = inl refl
    by (Some o) is = one o free k.spoiled is

all_so : (f : Said → Bool) (ss : List Said) → list_all f ss ≡ true → (s : Said) → list.In s ss → f s ≡ true
all_so f [] all s i = absurd i
all_so f (z ∷ ss) all s (inl same) = subst (λ y. f y ≡ true) same (and_parts (f z) (list_all f ss) all).0
all_so f (z ∷ ss) all s (inr more) = all_so f ss (and_parts (f z) (list_all f ss) all).1 s more

-- of a root that is free each call on the object is spent
pub free_spent : (root but : Uid) (x : ℕ) (c : Coord) → is_free root but x c ≡ true → (z : Said) → Contains (said_of root c) z → z.x ≡ x →
    is_spent z.path c.tree ≡ true
free_spent root but x c free z there of = by (z.x == x) (ap (λ n. n == x) of ∙ test_same x)
    (all_so (λ (s : Said). not (s.x == x) || is_spent s.path c.tree) (said_of root c) (and_parts (not (others_call root but x c))
    (list_all (λ (s : Said). not (s.x == x) || is_spent s.path c.tree) (said_of root c)) free).1 z (in_from z (said_of root c) there))
  where
    by : (b : Bool) → b ≡ true → (not b || is_spent z.path c.tree) ≡ true → is_spent z.path c.tree ≡ true
    by true is on = on
    by false is on = absurd (cc is)

-- ---- a call that begins

-- a call is no include
pub is_call_goal : (g : Goal) → is_include g ≡ false → is_call g ≡ true
is_call_goal (Run o) off = refl
is_call_goal (Include s) off = absurd (cc off)

-- it goes without a Bind where the last answer named the binding, or the root retains the object
known_cases : (top : Uid) (y : ℕ) (r : Root) (c : Coord) (o : Option Known) (q : Known) → known_at_start top y r c o ≡ Some q →
    (o ≡ Some q) × ((was_named top y q.binding r ≡ true) ⊎ (retains y r c ≡ true))
known_cases top y r c None q is = absurd (cc is)
known_cases top y r c (Some k) q is = by (k.recorded && (was_named top y k.binding r || retains y r c)) refl is
  where
    by : (b : Bool) → (k.recorded && (was_named top y k.binding r || retains y r c)) ≡ b → (if b then Some k else None) ≡ Some q →
        (Some k ≡ Some q) × ((was_named top y q.binding r ≡ true) ⊎ (retains y r c ≡ true))
    by false on at = absurd (cc at)
    by true on at = let same : k ≡ q = some_is refl at in (
      at,
      subst (λ (z : Known). (was_named top y z.binding r ≡ true) ⊎ (retains y r c ≡ true)) same (or_cases (was_named top y k.binding r)
          (retains y r c) (and_parts k.recorded (was_named top y k.binding r || retains y r c) on).1),
    )

start_known : (o : Option Known) (avoid : _) → is_bound (start_at o avoid) ≡ true → (q : Known) × (o ≡ Some q)
start_known None avoid on = absurd (cc on)
start_known (Some q) avoid on = (q, refl)

-- what a root keeps has a list for the top that it was named to, or one that is retained
pub known_list : (x : ℕ) (tops : Kinds) (root top : Uid) (c : Coord) (r : Root) (N : Names) → SeesLists x tops root c r N → (q : Known) →
    kept_of x r ≡ Some q → (was_named top x q.binding r ≡ true) ⊎ (retains x r c ≡ true) →
    HasCallList N (uid_number root) (uid_number top) q
known_list x tops root top c r N l q kept (inl named) =
    let g = one_of (λ (g : Grant). is_grant_of top x g && is_binding q.binding g.named) r.grants named in
    let a = and_parts (is_grant_of top x g.0) (is_binding q.binding (let z = g.0 in z.named)) g.2 in
    let b = and_parts (uid_eq (let z = g.0 in z.top) top) ((let z = g.0 in z.x) == x) a.0 in
    inl (subst (λ w. HasList N (uid_number w) q) (uid_is (let z = g.0 in z.top) top b.0)
    (l.named q g.0 kept (in_to g.0 r.grants g.1) (test_is (let z = g.0 in z.x) x b.1) a.1))
known_list x tops root top c r N l q kept (inr retained) =
    let s = one_of (λ (s : Said). (s.x == x) && coord.is_retained s.path c) r.said retained in
    let a = and_parts ((let z = s.0 in z.x) == x) (coord.is_retained (let z = s.0 in z.path) c) s.2 in
    inr (l.retained q s.0 kept (in_to s.0 r.said s.1) (test_is (let z = s.0 in z.x) x a.0) a.1)

module _ (x : ℕ) (tops : Kinds) (k : ℕ) (d : Disk) (t : Parts) (M : Seen) (good : IsGood (up k d t M)) (few : KnowsFew (up k d t M))
    (knows : KnowsNode tops k d t M) (u : Uid) (b : Branch) (found : branch_of u t.coord.tree ≡ Some b) (opened : is_some b.ended ≡ false)
    (unserial : b.kind ≢ kind.Serial) (own : actor b.path ≡ u)
    (y : ℕ) (op : Op) where
  abbrev p : Path
  p = b.path

  abbrev c : Coord
  c = t.coord

  abbrev r : Root
  r = root_at (root_of b.path) t.coord

  abbrev anew : Keeping
  anew = renewed (is_free (root_of b.path) (actor b.path) y t.coord) (keeping_of y (root_at (root_of b.path) t.coord))
      (let z = keeping_of y (root_at (root_of b.path) t.coord) in z.kept)

  abbrev mid : Coord
  mid = on_root (root_of b.path) (with_keeping y anew) (record t.coord { tree = uses_object b.path y t.coord.tree })

  abbrev s : Steps
  s = call_steps b.path y op (next_req (actor b.path) t.coord) (root_at (root_of b.path) t.coord) t.coord anew

  pub call_others : KeepsForOthers x (actor b.path) t.coord (call b.path y op t.coord).part
  call_others w q z other there now of calls = goes_kept x s mid (root_of z.path)
      ∙ by (root_put (root_of b.path) (with_keeping y anew) (record t.coord { tree = uses_object b.path y t.coord.tree }) (root_of z.path))
    where
      by : (((root_of b.path).num ≡ (root_of z.path).num) × (root_at (root_of z.path) mid
          ≡ with_keeping y anew (root_at (root_of z.path) t.coord))) ⊎ (root_at (root_of z.path) mid ≡ root_at (root_of z.path) t.coord) →
          kept_of x (root_at (root_of z.path) mid) ≡ kept_of x (root_at (root_of z.path) t.coord)
      by (inr same) = ap (kept_of x) same
      by (inl mine) = ap (kept_of x) mine.1 ∙ ⊎_elim
          (λ at. at.1 ∙ ⊎_elim
          (λ still. still ∙ (ap (λ n. kept_of n r) at.0 ∙ ap (λ n. kept_of x (unwrap_or (at_number n t.coord.roots) no_root)) mine.0))
          (λ none. absurd (free_alone tops k d t M good few knows u b found y (ap (λ v. is_free (root_of b.path) v y t.coord) (sym own)
          ∙ none.1) w q z (λ same. other (same ∙ sym own)) there now (of ∙ sym at.0) (is_call_goal z.goal calls) (sym mine.0)))
          (renewed_keeps (is_free (root_of b.path) (actor b.path) y t.coord) (keeping_of y (root_at (root_of b.path) t.coord))))
          (λ same. same)
          (put_keeps x y anew (root_at (root_of z.path) t.coord))

  pub call_list : (B : Office) (sent : List Post) → SeesHeardAt x k tops sent t.coord B → ((w : Uid) →
      is_own w (call b.path y op t.coord).part.tree ≡ is_own w t.coord.tree) → HasItsList x tops (call b.path y op t.coord).part s B.names
  call_list B sent p owns of calls past =
      let st = stands tops k d t M good few knows u b found opened unserial in
      let q = start_known (known_at_start (top_of b.path) y r t.coord anew.kept) anew.avoid past in
      let h = known_cases (top_of b.path) y r t.coord anew.kept q.0 q.1 in
      let its : kept_of x (root_at (root_of b.path) (call b.path y op t.coord).part) ≡ Some q.0 = goes_kept x s mid (root_of b.path)
      ∙ now_kept q.0 of h.0 in
      let roots = p.roots (root_of b.path) st.root in
      record {
        own = owns (top_of b.path) ∙ st.own;
        top = st.top;
        known = q.0;
        kept = its;
        list = known_list x tops (root_of b.path) (top_of b.path) t.coord r B.names roots.lists q.0 (was_kept q.0 of h.0)
            (subst (λ n. (was_named (top_of b.path) n (let z = q.0 in z.binding) r ≡ true) ⊎ (retains n r t.coord ≡ true)) of h.1);
      }
    where
      was_kept : (q : Known) → y ≡ x → anew.kept ≡ Some q → kept_of x r ≡ Some q
      was_kept q of is =
          ap (λ n. kept_of n r) (sym of) ∙ ⊎_elim (λ still. sym still ∙ is) (λ none. absurd (let n : None ≡ Some q = sym none.0 ∙ is in cc))
          (renewed_keeps (is_free (root_of b.path) (actor b.path) y t.coord) (keeping_of y (root_at (root_of b.path) t.coord)))

      now_kept : (q : Known) → y ≡ x → anew.kept ≡ Some q → kept_of x (root_at (root_of b.path) mid) ≡ Some q
      now_kept q of is = ⊎_elim
          (λ mine. ap (kept_of x) mine.1 ∙ ⊎_elim (λ at. at.1 ∙ is) (λ same. same ∙ was_kept q of is) (put_keeps x y anew r))
          (λ same. ap (kept_of x) same ∙ was_kept q of is)
          (root_put (root_of b.path) (with_keeping y anew) (record t.coord { tree = uses_object b.path y t.coord.tree }) (root_of b.path))
