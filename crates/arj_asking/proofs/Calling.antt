-- An action waits from now on, and calls and includes start.
use Rattle.std.proofs.Common.{◌≡◌, ℕ, List, [], ◌∷◌, ◌++◌, Bool, Option, Some, None, refl, ap, sym, ◌∙◌, subst}
use Rattle.std.specs.Prelude.{◌==◌, ◌&&◌, ◌||◌, if◌then◌else◌, IfSome, Result, Ok, Err}
use Rattle.std.specs.List.{list_any}
use Rattle.arj_asking.proofs.Changes.{root_behind, same_tree}
use Rattle.arj_asking.specs.Calls.{renewed_at}
use Rattle.arj_asking.specs.Sent.{waits_now}
use Rattle.arj_coord.specs.Fits.{IncludesNode, NowFits}
use Rattle.arj_protocol.specs.Ask.{actor, top_of}
use Rattle.arj_protocol.specs.Asking.{again_now, asks_all, asks_node, call_steps, is_invoke_ask, known_at_start, next_req, was_named}
use Rattle.arj_protocol.specs.Asking as asking
use Rattle.arj_protocol.specs.Call.{Include, Known, Run, Steps, next_ask, next_node, start}
use Rattle.arj_protocol.specs.Commit.{plan_of, waiting}
use Rattle.arj_protocol.specs.Coord.{Calling, Committing, Coord, Doing, Idle, Keeping, Now, Root, Said, is_free, on_doing, on_root}
use Rattle.arj_protocol.specs.Coord.{retained_in, retains, root_at, second_uid, with_keeping, with_went}
use Rattle.arj_protocol.specs.Effect.{Did, Effect, Send}
use Rattle.arj_protocol.specs.Order.{unbound}
use Rattle.arj_protocol.specs.Tree.{Branch, Tree, branch_of, ends_of, root_of, uses_object}
use Rattle.arj_protocol.specs.Words.{Uid, Ask, Op, Path, request, uids_of}
use Rattle.arj_tree.specs.Faults.{or_ended, use_fault, use_refusal}
use Rattle.arj_tree.specs.Stands.{object_used, path_of_branch, used_by}
use Rattle.arj_tree.specs.declared.fault.TreeFault.TheVariants as fault

-- ---- an action waits

asks_behind : (p : Path) (req : ℕ) (ws : List (ℕ × Ask)) (u : Uid) (f : Doing → Doing) (c : Coord)
    → (asks_all p req ws (on_doing u f c)).part ≡ on_doing u f ((asks_all p req ws c).part)
asks_behind p req [] u f c = refl
asks_behind p req (w ∷ ws) u f c =
    let went : Root → Root = with_went (record { path = uids_of p; node = w.0; invoke = is_invoke_ask w.1 }) in
    ap (λ (d : Coord). let s : Did Coord =
    asks_all p req ws d in s.part) (root_behind u (root_of p) f went c) ∙ asks_behind p req ws u f (on_root (root_of p) went c)

asks_same : (p : Path) (req : ℕ) (ws : List (ℕ × Ask)) (c d : Coord) → (asks_all p req ws c).outs ≡ (asks_all p req ws d).outs
asks_same p req [] c d = refl
asks_same p req (w ∷ ws) c d =
    let same = asks_same p req ws ((asks_node p req w c).part) ((asks_node p req w d).part) in
    λ i. Send w.0 (request (record { path = p; req = req }) w.1) ∷ same i

-- what is asked and an action at work don't meet
again_behind : (now : Now) (u : Uid) (f : Doing → Doing) (c : Coord) →
    (again_now (on_doing u f c) now).part ≡ on_doing u f ((again_now c now).part)
again_behind Idle u f c = refl
again_behind (Calling s) u f c =
    let ask : Ask = next_ask (ends_of (root_of s.path) c.tree) s in
    ap (λ (t : Tree). let d : Did Coord =
    asks_node s.path s.req (next_node s, next_ask (ends_of (root_of s.path) t) s) (on_doing u f c) in d.part) (same_tree u f c)
    ∙ root_behind u (root_of s.path) f (with_went (record { path = uids_of s.path; node = next_node s; invoke = is_invoke_ask ask })) c
again_behind (Committing m) u f c = asks_behind (plan_of m).path (plan_of m).req (waiting m) u f c

again_same : (now : Now) (u : Uid) (f : Doing → Doing) (c : Coord) → (again_now (on_doing u f c) now).outs ≡ (again_now c now).outs
again_same Idle u f c = refl
again_same (Calling s) u f c =
    ap (λ (t : Tree). let d : Did Coord =
    asks_node s.path s.req (next_node s, next_ask (ends_of (root_of s.path) t) s) c in d.outs) (same_tree u f c)
again_same (Committing m) u f c = asks_same (plan_of m).path (plan_of m).req (waiting m) (on_doing u f c) c

-- what it waits for is asked before it waits
pub wait_part : (now : Now) (u : Uid) (req : ℕ) (c d n : Coord) → d ≡ (again_now c now).part
    → n ≡ on_doing u (λ (e : Doing). record e { req = req; now = now }) d → n ≡ (waits_now u req now c).part
wait_part now u req c d n sent waits =
    let f : Doing → Doing = λ e. record e { req = req; now = now } in waits ∙ ap (on_doing u f) sent ∙ sym (again_behind now u f c)

pub wait_outs : (now : Now) (u : Uid) (req : ℕ) (c : Coord) (before outs : List Effect) → outs ≡ before ++ (again_now c now).outs
    → outs ≡ before ++ (waits_now u req now c).outs
wait_outs now u req c before outs sent =
    let f : Doing → Doing = λ e. record e { req = req; now = now } in sent ∙ ap (λ es. before ++ es) (sym (again_same now u f c))

-- ---- a call starts

retained_by : (path : List Uid) (p : Path) (x : ℕ) (c : Coord) (o : Option Uid) →
    retained_in path (record c { tree = uses_object p x c.tree }) o ≡ retained_in path c o
retained_by path p x c None = refl
retained_by path p x c (Some top) = refl

retains_used : (y : ℕ) (r : Root) (p : Path) (x : ℕ) (c : Coord) → retains y r (record c { tree = uses_object p x c.tree }) ≡ retains y r c
retains_used y r p x c = λ i. list_any (λ (s : Said). (s.x == y) && retained_by s.path p x c (second_uid s.path) i) r.said

known_used : (top : Uid) (y : ℕ) (r : Root) (p : Path) (x : ℕ) (c : Coord) (o : Option Known)
    → known_at_start top y r (record c { tree = uses_object p x c.tree }) o ≡ known_at_start top y r c o
known_used top y r p x c None = refl
known_used top y r p x c (Some known) =
    ap (λ (b : Bool). if known.recorded && (was_named top y known.binding r || b) then Some known else None) (retains_used y r p x c)

-- the steps are those of the tree before the object was used
steps_used : (p : Path) (x : ℕ) (o : Op) (req : ℕ) (r : Root) (k : Keeping) (c : Coord)
    → call_steps p x o req r (record c { tree = uses_object p x c.tree }) k ≡ call_steps p x o req r c k
steps_used p x o req r k c = ap (λ (known : Option Known). start p x (Run o) known k.avoid req) (known_used (top_of p) x r p x c k.kept)

pub call_so : (P : Did Coord → Type 0) (p : Path) (x : ℕ) (o : Op) (u : Uid) (free : Bool) (req : ℕ) (c used begun : Coord) (s : Steps)
    → actor p ≡ u → free ≡ is_free (root_of p) u x c → req ≡ next_req u c → used ≡ record c { tree = uses_object p x c.tree }
    → begun ≡ on_root (root_of p) (with_keeping x (renewed_at free p x used)) used
    → s ≡ call_steps p x o req (root_at (root_of p) used) used (renewed_at free p x used)
    → P (waits_now u req (Calling s) begun) → P (asking.call p x o c)
call_so P p x o u free req c used begun s named free_is req_is used_is begun_is steps_is so =
    let rt : Uid = root_of p in
    let v : Uid = actor p in
    let k : Keeping = renewed_at (is_free rt v x c) p x c in
    let free_so : free ≡ is_free rt v x c = free_is ∙ ap (λ w. is_free rt w x c) (sym named) in
    let req_so : req ≡ next_req v c = req_is ∙ ap (λ w. next_req w c) (sym named) in
    let begun_so : begun ≡ on_root rt (with_keeping x k) (record c { tree = uses_object p x c.tree }) =
    begun_is ∙ (λ i. on_root rt (with_keeping x (renewed_at (free_so i) p x (used_is i))) (used_is i)) in
    let steps_so : s ≡ call_steps p x o (next_req v c) (root_at rt c) c k =
    steps_is ∙ (λ i. call_steps p x o (req_so i) (root_at rt (used_is i)) (used_is i) (renewed_at (free_so i) p x (used_is i))) ∙ steps_used p x o (next_req v c) (root_at rt c) k c in
    subst P (λ i. waits_now (sym named i) (req_so i) (Calling (steps_so i)) (begun_so i)) so

-- ---- an include starts

pub include_so : (P : Did Coord → Type 0) (p : Path) (x store : ℕ) (u : Uid) (req : ℕ) (c used : Coord) (s : Steps)
    → actor p ≡ u → req ≡ next_req u c → used ≡ record c { tree = uses_object p x c.tree }
    → s ≡ start p x (Include store) None unbound req
    → P (waits_now u req (Calling s) used) → P (asking.include p x store c)
include_so P p x store u req c used s named req_is used_is steps_is so =
    let v : Uid = actor p in
    let req_so : req ≡ next_req v c = req_is ∙ ap (λ w. next_req w c) (sym named) in
    let steps_so : s ≡ start p x (Include store) None unbound (next_req v c) =
    steps_is ∙ ap (start p x (Include store) None unbound) req_so in
    subst P (λ i. waits_now (sym named i) (req_so i) (Calling (steps_so i)) (used_is i)) so

-- ---- what waits is the action's

pub call_waits : (u : Uid) (p : Path) (x : ℕ) (o : Op) (req : ℕ) (r : Root) (c : Coord) (k : Keeping) (s : Steps) →
    s ≡ call_steps p x o req r c k → actor p ≡ u → NowFits u req (Calling s)
call_waits u p x o req r c k s is named = subst (λ t. NowFits u req (Calling t)) (sym is) (named, (refl, tt))

pub include_waits : (u : Uid) (p : Path) (x store req : ℕ) (s : Steps) → s ≡ start p x (Include store) None unbound req → actor p ≡ u →
    IncludesNode (Include store) → NowFits u req (Calling s)
include_waits u p x store req s is named node = subst (λ t. NowFits u req (Calling t)) (sym is) (named, (refl, node))

-- ---- who calls

path_by : (Q : Path → Type 0) (o : Option Branch) (p : Path) → Some p ≡ path_of_branch o → Q p → IfSome o (λ b. Q b.path)
path_by Q None p is so = absurd cc
path_by Q (Some b) p is so = let same : p ≡ b.path = cc in subst Q same so

-- of the action with this path
pub with_path : (Q : Path → Type 0) (u : Uid) (t : Tree) (p : Path) → Some p ≡ path_of_branch (branch_of u t) → Q p →
    IfSome (branch_of u t) (λ b. Q b.path)
with_path Q u t p is so = path_by Q (branch_of u t) p is so

used_path : (x : ℕ) (t : Tree) (o : Option Branch) (p : Path) → Some p ≡ path_of_branch o → used_by x t o ≡ uses_object p x t
used_path x t None p is = absurd cc
used_path x t (Some b) p is = let same : b.path ≡ p = cc in ap (λ q. uses_object q x t) same

pub used_is : (u : Uid) (x : ℕ) (t : Tree) (p : Path) → Some p ≡ path_of_branch (branch_of u t) → object_used u x t ≡ uses_object p x t
used_is u x t p is = used_path x t (branch_of u t) p is

none_by : (x : ℕ) (t : Tree) (o : Option Branch) → None ≡ path_of_branch o → or_ended (λ b. use_fault x b t) o ≡ Some fault.Ended
none_by x t None is = refl
none_by x t (Some b) is = absurd cc

-- there is no such action
pub none_refused : (u : Uid) (x : ℕ) (t : Tree) → None ≡ path_of_branch (branch_of u t) → use_refusal u x t ≡ Some fault.Ended
none_refused u x t is = none_by x t (branch_of u t) is

pub not_refused : {T E : Type 0} (o : Option E) (was r : Result T E) (x : T) → was ≡ Ok x → IfSome o (λ e. was ≡ Err e) →
    IfSome o (λ e. r ≡ Err e)
not_refused None was r x ok is = tt
not_refused (Some e) was r x ok is = absurd cc
