-- What an action waits for, what its root has and the tree don't meet; and what an action waited for is forgotten where it
-- is set again.
use Rattle.std.proofs.Common.{◌≡◌, ℕ, zero, suc, List, [], ◌∷◌, ◌++◌, Bool, true, false, Option, Some, None, refl, ap, sym, ◌∙◌}
use Rattle.std.specs.Prelude.{slice_get, slice_set, option_map, nat_le, length, if◌then◌else◌}
use Rattle.arj_coord.proofs.Maps.{doings_at_once}
use Rattle.arj_coord.specs.Waiting.{idle_doing}
use Rattle.arj_protocol.specs.Coord.{Coord, Doing, Root, Now, doing_of, on_doing, change_doing, on_root, root_at}
use Rattle.arj_protocol.specs.Ending.{says, say_for, ended}
use Rattle.arj_protocol.specs.Tree.{Tree, Branch, at_place, set_place, is_own, branch_of, ended_at, ended_branch, family_of, listed_end}
use Rattle.arj_protocol.specs.Tree.{root_of, with_family}
use Rattle.arj_protocol.specs.Words.{Uid, Path, End, Label, Body, uids_of}

-- ---- places of a list

set_get : {A : Type 0} (xs : List A) (k : ℕ) (a b : A) → slice_get xs k ≡ Some a → slice_get (slice_set xs k b) k ≡ Some b
set_get [] k a b e = absurd cc
set_get (c ∷ xs) zero a b e = refl
set_get (c ∷ xs) (suc k) a b e = set_get xs k a b e

place_get : {A : Type 0} (k : ℕ) (xs : List A) (a b : A) → at_place k xs ≡ Some a → at_place k (set_place k b xs) ≡ Some b
place_get zero xs a b e = absurd cc
place_get (suc k) xs a b e = set_get xs k a b e

-- ---- an action at work

-- a changed action is found changed
own_get : (t : Bool) (k : ℕ) (ds : List Doing) (d e : Doing) → (if t then at_place k ds else None) ≡ Some d →
    (if t then at_place k (set_place k e ds) else None) ≡ Some e
own_get true k ds d e is = place_get k ds d e is
own_get false k ds d e is = absurd cc

found_by : (u : Uid) (f : Doing → Doing) (c : Coord) (o : Option Doing) → doing_of u c ≡ o →
    doing_of u (change_doing f u c o) ≡ option_map f o
found_by u f c None is = is
found_by u f c (Some d) is = own_get (is_own u c.tree) u.num c.doings d (f d) is

pub found_changed : (u : Uid) (f : Doing → Doing) (c : Coord) → doing_of u (on_doing u f c) ≡ option_map f (doing_of u c)
found_changed u f c = found_by u f c (doing_of u c) refl

-- what an action waited for is forgotten
pub waits_again : (u : Uid) (req : ℕ) (now : Now) (c : Coord)
    → on_doing u (λ (d : Doing). record d { req = req; now = now }) (on_doing u idle_doing c) ≡ on_doing u (λ (d : Doing). record d {
      req =
          req;
      now = now;
    }) c
waits_again u req now c = doings_at_once u (λ (d : Doing). record d { req = req; now = now }) idle_doing c

pub idle_again : (u : Uid) (c : Coord) → on_doing u idle_doing (on_doing u idle_doing c) ≡ on_doing u idle_doing c
idle_again u c = doings_at_once u idle_doing idle_doing c

-- ---- besides

same_tree_by : (u : Uid) (f : Doing → Doing) (c : Coord) (o : Option Doing) → (change_doing f u c o).tree ≡ c.tree
same_tree_by u f c None = refl
same_tree_by u f c (Some d) = refl

pub same_tree : (u : Uid) (f : Doing → Doing) (c : Coord) → (on_doing u f c).tree ≡ c.tree
same_tree u f c = same_tree_by u f c (doing_of u c)

same_roots_by : (root u : Uid) (f : Doing → Doing) (c : Coord) (o : Option Doing) → root_at root (change_doing f u c o) ≡ root_at root c
same_roots_by root u f c None = refl
same_roots_by root u f c (Some d) = refl

pub same_roots : (root u : Uid) (f : Doing → Doing) (c : Coord) → root_at root (on_doing u f c) ≡ root_at root c
same_roots root u f c = same_roots_by root u f c (doing_of u c)

root_behind_by : (u root : Uid) (f : Doing → Doing) (g : Root → Root) (c : Coord) (o : Option Doing)
    → on_root root g (change_doing f u c o) ≡ change_doing f u (on_root root g c) o
root_behind_by u root f g c None = refl
root_behind_by u root f g c (Some d) = refl

-- a root and an action at work don't meet
pub root_behind : (u root : Uid) (f : Doing → Doing) (g : Root → Root) (c : Coord) →
    on_root root g (on_doing u f c) ≡ on_doing u f (on_root root g c)
root_behind u root f g c = root_behind_by u root f g c (doing_of u c)

tree_behind_by : (u : Uid) (f : Doing → Doing) (t : Tree) (c : Coord) (o : Option Doing)
    → record (change_doing f u c o) { tree = t } ≡ change_doing f u (record c { tree = t }) o
tree_behind_by u f t c None = refl
tree_behind_by u f t c (Some d) = refl

-- nor do the tree and an action at work, as long as it is this incarnation's
pub tree_behind : (u : Uid) (f : Doing → Doing) (t : Tree) (c : Coord) → is_own u t ≡ is_own u c.tree
    → record (on_doing u f c) { tree = t } ≡ on_doing u f (record c { tree = t })
tree_behind u f t c own =
    tree_behind_by u f t c (doing_of u c)
    ∙ ap (change_doing f u (record c { tree = t })) (ap (λ (b : Bool). if b then at_place u.num c.doings else None) (sym own))

-- ---- lines

label_same : (f : Label → Body) (o : Option Doing) → say_for f (option_map idle_doing o) ≡ say_for f o
label_same f None = refl
label_same f (Some d) = refl

pub says_idle : (u : Uid) (f : Label → Body) (c : Coord) → says u f (on_doing u idle_doing c) ≡ says u f c
says_idle u f c = ap (say_for f) (found_changed u idle_doing c) ∙ label_same f (doing_of u c)

-- ---- ends

own_by : (u : Uid) (short : Bool) (s t : Tree) → is_own u s ≡ is_own u t → is_own u (if short then t else s) ≡ is_own u t
own_by u true s t same = refl
own_by u false s t same = same

own_listed : (u v : Uid) (e : End) (p : Path) (t : Tree) → is_own u (listed_end v e p t) ≡ is_own u t
own_listed u v e p t =
    own_by u (nat_le (length (uids_of p)) 1) (with_family (root_of p) (let f =
    family_of (root_of p) t in record f { ends = f.ends ++ (v, e) ∷ [] }) t) t refl

own_ended_by : (u v : Uid) (e : End) (t : Tree) (o : Option Branch) → is_own u (ended_branch v e t o) ≡ is_own u t
own_ended_by u v e t None = refl
own_ended_by u v e t (Some b) = own_listed u v e b.path (record t { branches = set_place v.num (record b { ended = Some e }) t.branches })

pub own_ended : (u v : Uid) (e : End) (t : Tree) → is_own u (ended_at v e t) ≡ is_own u t
own_ended u v e t = own_ended_by u v e t (branch_of v t)

pub ended_idle : (u : Uid) (e : End) (c : Coord) → ended u e (on_doing u idle_doing c) ≡ ended u e c
ended_idle u e c =
    ap (λ (t : Tree). on_doing u idle_doing (record (on_doing u idle_doing c) { tree = ended_at u e t })) (same_tree u idle_doing c)
    ∙ ap (on_doing u idle_doing) (tree_behind u idle_doing (ended_at u e c.tree) c (own_ended u u e c.tree))
    ∙ idle_again u (record c { tree = ended_at u e c.tree })
