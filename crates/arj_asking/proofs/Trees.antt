-- What is asked of a root depends on the coordinator's tree alone.
use Rattle.std.proofs.Common.{◌≡◌, ℕ, List, [], ◌++◌, Bool, false, Option, Some, None, refl, ap, ◌∙◌}
use Rattle.std.specs.Prelude.{filter, map, ◌==◌, ◌&&◌, ◌||◌, unwrap_or, if◌then◌else◌}
use Rattle.std.specs.List.{list_any}
use Rattle.arj_protocol.proofs.Maps.{put_same}
use Rattle.arj_protocol.specs.Ask.{actor}
use Rattle.arj_protocol.specs.Asking.{known_at_start, was_named}
use Rattle.arj_protocol.specs.Call.{Known}
use Rattle.arj_protocol.specs.Coord.{Coord, Joined, Keeping, Root, Said, counts, is_retained, joined_in, keeping_of, kept_of, known_for}
use Rattle.arj_protocol.specs.Coord.{nodes_sent, no_keeping, no_root, objects_in, on_root, plan_for, retained_in, retains, root_at, said_in}
use Rattle.arj_protocol.specs.Coord.{second_uid, survives, used_of, used_with, with_keeping}
use Rattle.arj_protocol.specs.Order.{number_set}
use Rattle.arj_protocol.specs.Tree.{Tree, ends_of, root_of}
use Rattle.arj_protocol.specs.Words.{Uid, Path}
use Rattle.arj_root.specs.Noted.{of_tree}

retained_by : (path : List Uid) (c : Coord) (o : Option Uid) → retained_in path (of_tree c.tree) o ≡ retained_in path c o
retained_by path c None = refl
retained_by path c (Some top) = refl

retained_same : (path : List Uid) (c : Coord) → is_retained path (of_tree c.tree) ≡ is_retained path c
retained_same path c = retained_by path c (second_uid path)

retains_same : (x : ℕ) (r : Root) (c : Coord) → retains x r (of_tree c.tree) ≡ retains x r c
retains_same x r c = λ i. list_any (λ (s : Said). (s.x == x) && retained_same s.path c i) r.said

-- ---- a call starts

known_by : (top : Uid) (x : ℕ) (k : Keeping) (r : Root) (c : Coord) (o : Option Known)
    → known_at_start top x (with_keeping x k r) (of_tree c.tree) o ≡ known_at_start top x r c o
known_by top x k r c None = refl
known_by top x k r c (Some known) =
    ap (λ (b : Bool). if known.recorded && (was_named top x known.binding r || b) then Some known else None) (retains_same x r c)

keeping_there : (x : ℕ) (k : Keeping) (r : Root) → keeping_of x (with_keeping x k r) ≡ k
keeping_there x k r = ap (λ (o : Option Keeping). unwrap_or o no_keeping) (put_same x k r.keeping)

-- what a root has, once it was changed
pub root_there : (root : Uid) (f : Root → Root) (c : Coord) → root_at root (on_root root f c) ≡ f (root_at root c)
root_there root f c = ap (λ (o : Option Root). unwrap_or o no_root) (put_same root.num (f (root_at root c)) c.roots)

-- what a call may start with is asked of the renewed root
pub known_so : (top : Uid) (x : ℕ) (k : Keeping) (r s : Root) (c : Coord) (t : Tree) → s ≡ with_keeping x k r → t ≡ c.tree
    → known_at_start top x s (of_tree t) (kept_of x s) ≡ known_at_start top x r c k.kept
known_so top x k r s c t is tree =
    (λ i. known_at_start top x (is i) (of_tree (tree i)) (kept_of x (is i)))
    ∙ ap (λ (l : Keeping). known_at_start top x (with_keeping x k r) (of_tree c.tree) l.kept) (keeping_there x k r)
    ∙ known_by top x k r c k.kept

-- and so is the binding to avoid
pub avoid_so : (x : ℕ) (k : Keeping) (r s : Root) → s ≡ with_keeping x k r → (keeping_of x s).avoid ≡ k.avoid
avoid_so x k r s is = ap (λ (t : Root). (keeping_of x t).avoid) is ∙ ap (λ (l : Keeping). l.avoid) (keeping_there x k r)

-- ---- the plan of a commit

counts_same : (top : Uid) (path : List Uid) (c : Coord) → counts top path (of_tree c.tree) ≡ counts top path c
counts_same top path c = ap (λ (b : Bool). survives top path c || b) (retained_same path c)

said_same : (top : Uid) (r : Root) (c : Coord) → said_in top r (of_tree c.tree) ≡ said_in top r c
said_same top r c = λ i. filter (λ (s : Said). counts_same top s.path c i) r.said

joined_same : (top : Uid) (r : Root) (c : Coord) → joined_in top r (of_tree c.tree) ≡ joined_in top r c
joined_same top r c = λ i. filter (λ (j : Joined). counts_same top j.path c i) r.joined

objects_same : (top : Uid) (r : Root) (c : Coord) → objects_in top r (of_tree c.tree) ≡ objects_in top r c
objects_same top r c = λ i. number_set (map (λ (s : Said). s.x) (said_same top r c i) ++ map (λ (j : Joined). j.x) (joined_same top r c i))

used_same : (top : Uid) (r : Root) (c : Coord) (x : ℕ) → used_of top r (of_tree c.tree) x ≡ used_of top r c x
used_same top r c x =
    ap (λ (said : List Said). let called : Bool =
    list_any (λ (s : Said). s.x == x) said in used_with x called top r c (known_for called x r)) (said_same top r c)

pub plan_same : (p : Path) (req : ℕ) (r : Root) (c : Coord) → plan_for p req r (of_tree c.tree) ≡ plan_for p req r c
plan_same p req r c =
    let top : Uid = actor p in
    λ i. record {
      path = p;
      req = req;
      ends = ends_of (root_of p) c.tree;
      used = map (λ (x : ℕ). used_same top r c x i) (objects_same top r c i);
      sent = nodes_sent top r;
      changed = [];
      prepared = [];
      excluded = [];
      confirmed = false;
    }
