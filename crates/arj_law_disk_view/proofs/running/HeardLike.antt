-- What a coordinator has of its roots, where nothing of them has changed that is looked at.
use Rattle.arj_law_parts.proofs.Words
use Words.{◌≡◌, ◌⊎◌, ℕ, zero, suc, ◌==◌, ◌&&◌, ◌||◌, if◌then◌else◌, Bool, true, false, not, List, [], ◌∷◌, ◌++◌, Option, Some, None, refl}
use Words.{sym, ◌∙◌, ap, subst, inl, inr, ⊎_elim, Contains, list_any, End, Kind, Label, Uid, is_on, uids_of, top_of, begin_action, Steps}
use Words.{Calling, Committing, Coord, Doing, Idle, Joined, Root, Said, Went, doing_of, is_constituent_branch, is_kept_top, kept_of}
use Words.{retained_in, root_at, second_uid, survives, top_uses, Branch, at_place, behind, branch_of, ended_so, has_end, is_committed}
use Words.{is_own, is_spent, next_uid, path_below, root_of, Post}
use Words.ending
use Words.coord
use Rattle.arj_law_disk_view.proofs.Terms.{Names, Office, some_is, Kinds, SeesRootOf, IsPathIn, IsWorkingRoot, SeesCall, SeesHeardAt}

-- an action that is new, and open
abbrev pub IsOpenNew : Option Branch → Type 0
IsOpenNew o = (b : Branch) × (o ≡ Some b) × (b.ended ≡ None)

-- the root but for the nodes to which something went
abbrev pub went_to : List Went → Root → Root
went_to w r = record r { went = w }

-- Of one coordinator what is looked at is that of another: its actions, but for open ones that are new; who waits; and roots, but for
-- the nodes to which something went.
pub record IsLike (c e : Coord) : Type 0 where
  pub own : (u : Uid) → is_own u e.tree ≡ is_own u c.tree
  pub branches : (w : Uid) → (branch_of w e.tree ≡ branch_of w c.tree) ⊎ ((branch_of w c.tree ≡ None) × IsOpenNew (branch_of w e.tree))
  pub works : (u : Uid) (q : Doing) → doing_of u e ≡ Some q → (doing_of u c ≡ Some q) ⊎ (q.now ≡ Idle)
  pub roots : (u : Uid) → (w : List Went) × (root_at u e ≡ went_to w (root_at u c))

-- what is looked at of a root stays, where each action's end does, and each committed constituent
module _ (c e : Coord) (ends : (k : End) (w : Uid) → ended_so k (branch_of w e.tree) ≡ ended_so k (branch_of w c.tree)) (kept : (w : Uid) →
    is_kept_top w e ≡ is_kept_top w c) where
  spent_ends : (path : List Uid) → is_spent path e.tree ≡ is_spent path c.tree
  spent_ends path = λ i. list_any (λ w. ends ending.Abort w i) path

  survives_ends : (t : Uid) (path : List Uid) → survives t path e ≡ survives t path c
  survives_ends t path = λ i. is_on path t && not (list_any (λ w. not (ends ending.Commit w i)) (behind t path))

  retained_ends : (path : List Uid) → coord.is_retained path e ≡ coord.is_retained path c
  retained_ends path = by (second_uid path)
    where
      by : (o : Option Uid) → retained_in path e o ≡ retained_in path c o
      by None = refl
      by (Some t) = λ i. kept t i && survives_ends t path i

  uses_ends : (t : Uid) (x : ℕ) (r : Root) → top_uses t x r e ≡ top_uses t x r c
  uses_ends t x r = λ i. list_any (λ (s : Said). (s.x == x) && survives_ends t s.path i) r.said
      || list_any (λ (j : Joined). (j.x == x) && survives_ends t j.path i) r.joined

  pub root_ends : (x : ℕ) (tops : Kinds) (root : Uid) (r : Root) (w : List Went) (B : Office) → SeesRootOf x tops root c r B →
      SeesRootOf x tops root e (went_to w r) B
  root_ends x tops root r w B s = record {
    grants = let g = s.grants in record {
      own = g.own;
      least = g.least;
      kept = λ i serial has. let k = g.kept i serial has in (k.0, (λ i. kept k.0 i && uses_ends k.0 x r i) ∙ k.1, k.2);
    };
    lists = let l = s.lists in record {
      agree = l.agree;
      family = l.family;
      granted = l.granted;
      named = l.named;
      short = l.short;
      called = λ k z t there_is there of alive on top. l.called k z t there_is there of (sym (spent_ends z.path) ∙ alive) on top;
      retained = λ k z there_is there of on. l.retained k z there_is there of (sym (retained_ends z.path) ∙ on);
      nothing = λ none z there of. spent_ends z.path ∙ l.nothing none z there of;
    };
    loads = s.loads;
    state = s.state;
  }

module _ (c e : Coord) (branches : (w : Uid) →
    (branch_of w e.tree ≡ branch_of w c.tree) ⊎ ((branch_of w c.tree ≡ None) × IsOpenNew (branch_of w e.tree))) where
  -- how an action ended
  ended_same : (k : End) (w : Uid) → ended_so k (branch_of w e.tree) ≡ ended_so k (branch_of w c.tree)
  ended_same k w = ⊎_elim (λ same. ap (ended_so k) same)
      (λ new. let b = new.1 in ap (ended_so k) b.1 ∙ (ap (has_end k) b.2 ∙ (none k ∙ ap (ended_so k) (sym new.0)))) (branches w)
    where
      none : (k : End) → has_end k None ≡ false
      none ending.Commit = refl
      none ending.Abort = refl

  kept_same : (w : Uid) → is_kept_top w e ≡ is_kept_top w c
  kept_same w = ⊎_elim (λ same. (λ i. is_constituent_branch (same i) && ended_so ending.Commit (same i)))
      (λ new. let b = new.1 in off (is_constituent_branch (branch_of w e.tree)) (is_committed w e.tree)
      (ap (ended_so ending.Commit) b.1 ∙ ap (has_end ending.Commit) b.2)
      ∙ sym (off (is_constituent_branch (branch_of w c.tree)) (is_committed w c.tree) (ap (ended_so ending.Commit) new.0))) (branches w)
    where
      off : (a b : Bool) → b ≡ false → (a && b) ≡ false
      off true b is = is
      off false b is = refl

  pub spent_same : (path : List Uid) → is_spent path e.tree ≡ is_spent path c.tree
  spent_same path = spent_ends c e ended_same kept_same path

  pub root_like : (x : ℕ) (tops : Kinds) (root : Uid) (r : Root) (w : List Went) (B : Office) → SeesRootOf x tops root c r B →
      SeesRootOf x tops root e (went_to w r) B
  root_like x tops root r w B s = root_ends c e ended_same kept_same x tops root r w B s

-- a call has its list still where its root keeps the same binding
pub call_same : (x : ℕ) (tops : Kinds) (c e : Coord) (s : Steps) (N : Names) → is_own (top_of s.path) e.tree ≡ is_own (top_of s.path) c.tree
    → kept_of x (root_at (root_of s.path) e) ≡ kept_of x (root_at (root_of s.path) c) → SeesCall x tops c s N → SeesCall x tops e s N
call_same x tops c e s N own kept z = record { own = own ∙ z.own; top = z.top; known = z.known; kept = kept ∙ z.kept; list = z.list }

-- an action's path stays
abbrev pub StaysOnPath : Option Branch → Option Branch → Type 0
StaysOnPath o n = (b : Branch) → o ≡ Some b → (y : Branch) × (n ≡ Some y) × (y.path ≡ b.path)

pub path_on : (c e : Coord) → ((w : Uid) → StaysOnPath (branch_of w c.tree) (branch_of w e.tree)) → (us : List Uid) → IsPathIn c.tree us →
    IsPathIn e.tree us
path_on c e stays us p = let y = stays p.uid p.branch p.found in
    record { uid = p.uid; branch = y.0; found = y.1; path = p.path ∙ ap uids_of (sym y.2) }

pub same_path : (o n : Option Branch) → n ≡ o → StaysOnPath o n
same_path o n same b is = (b, same ∙ is, refl)

-- where it is looked like the other
module _ (c e : Coord) (like : IsLike c e) where
  -- who is a root at work there is one here
  pub was_root : (tops : Kinds) (root : Uid) → IsWorkingRoot tops e root → IsWorkingRoot tops c root
  was_root tops root w = record {
    own = sym (like.own root) ∙ w.own;
    alone = w.alone;
    unended = λ b found.
        ⊎_elim (λ same. w.unended b (same ∙ found)) (λ new. absurd (let n : None ≡ Some b = sym new.0 ∙ found in cc)) (like.branches root);
  }

  pub at_like : (x k : ℕ) (tops : Kinds) (sent : List Post) (B : Office) → SeesHeardAt x k tops sent c B → SeesHeardAt x k tops sent e B
  at_like x k tops sent B p = record {
    roots = λ root w. let q = like.roots root in subst (λ z. SeesRootOf x tops root e z B) (sym q.1)
        (root_like c e like.branches x tops root (root_at root c) q.0 B (p.roots root (was_root tops root w)));
    steps = λ u q s does now of.
        ⊎_elim (λ old. p.steps u q s old now of) (λ idle. absurd (let n : Idle ≡ Calling s = sym idle ∙ now in cc)) (like.works u q does);
    calls = λ u q s does now of call past. ⊎_elim (λ old. call_same x tops c e s B.names (like.own (top_of s.path))
        (ap (kept_of x) (let r = like.roots (root_of s.path) in r.1)) (p.calls u q s old now of call past))
        (λ idle. absurd (let n : Idle ≡ Calling s = sym idle ∙ now in cc)) (like.works u q does);
    includes = λ root j i. path_on c e (λ w. ⊎_elim (λ same. same_path (branch_of w c.tree) (branch_of w e.tree) same)
        (λ new. λ b is. absurd (let n : None ≡ Some b = sym new.0 ∙ is in cc)) (like.branches w)) j.path
        (p.includes root j (subst (λ (r : Root). Contains r.joined j) (let q = like.roots root in q.1) i));
    plans = λ u q m does now.
        ⊎_elim (λ old. p.plans u q m old now) (λ idle. absurd (let n : Idle ≡ Committing m = sym idle ∙ now in cc)) (like.works u q does);
  }

-- ---- an action begins

-- what stands at a place of a list with one more at its end
place_more : {X : Type 0} (n : ℕ) (xs : List X) (y : X) →
    (at_place n (xs ++ y ∷ []) ≡ at_place n xs) ⊎ ((at_place n xs ≡ None) × (at_place n (xs ++ y ∷ []) ≡ Some y))
place_more zero xs y = inl refl
place_more (suc zero) [] y = inr (refl, refl)
place_more (suc (suc n)) [] y = inl refl
place_more (suc zero) (x ∷ xs) y = inl refl
place_more (suc (suc n)) (x ∷ xs) y = place_more (suc n) xs y

pub begin_like : (l : Label) (how : Kind) (parent : Option Label) (above : Option Branch) (c : Coord) →
    IsLike c (let did = begin_action l how parent above c in did.part)
begin_like l how parent above c = record {
  own = λ u. refl;
  branches = λ w. by w (is_own w c.tree);
  works = λ u q does. work u q (is_own u c.tree) does;
  roots = λ u. ((let r = root_at u c in r.went), refl);
}
  where
    new : Branch
    new = record { path = path_below how above (next_uid c.tree); kind = how; ended = None; doomed = false }

    by : (w : Uid) (b : Bool) →
        ((if b then at_place w.num (c.tree.branches ++ new ∷ []) else None) ≡ (if b then at_place w.num c.tree.branches else None))
        ⊎ (((if b then at_place w.num c.tree.branches else None) ≡ None)
        × IsOpenNew (if b then at_place w.num (c.tree.branches ++ new ∷ []) else None))
    by w true = ⊎_elim (λ same. inl same) (λ z. inr (z.0, (new, z.1, refl))) (place_more w.num c.tree.branches new)
    by w false = inl refl

    idle : Doing
    idle = record { label = l; req = 0; now = Idle; took = [] }

    work : (u : Uid) (q : Doing) (b : Bool) → (if b then at_place u.num (c.doings ++ idle ∷ []) else None) ≡ Some q →
        ((if b then at_place u.num c.doings else None) ≡ Some q) ⊎ (q.now ≡ Idle)
    work u q true at =
        ⊎_elim (λ same. inl (sym same ∙ at)) (λ z. inr (ap (λ (d : Doing). d.now) (sym (some_is z.1 at)))) (place_more u.num c.doings idle)
    work u q false at = absurd (cc at)
