-- What a coordinator does leaves room in its tree.
use Rattle.arj_law_parts.proofs.Words
use Words.{◌≡◌, ◌≢◌, ◌⊎◌, ◌∙◌, ◌≤◌, ◌<◌, ◌+◌, ◌==◌, ◌&&◌, ℕ, suc, Bool, true, false, cond, not, List, [], ◌∷◌, ◌++◌, filter, length, refl}
use Words.{sym, ap, subst, inl, inr, ⊎_elim, arith, Option, Some, None, is_some, slice_get, AllByRecursion, and_parts, length-append}
use Words.{uid_same, In, in_filter, in_from, in_to, path_is, Reply, actor, again_all, again_now, asks_all, asks_node, begin_action, call}
use Words.{call_steps, commit_action, commit_open, commit_top, commits_in, doomed_by, ends_call, give_up, give_up_doing, gives_up, goes_on}
use Words.{heard, heard_by, heard_call, heard_doing, heard_none, heard_now, include, kept_at, last_req, moved_commit, next_req, renewed}
use Words.{root_heard, root_lost, root_moved, step_call, step_commit, waits_for_call, waits_for_commit, Answered, CallEnd, CallStep}
use Words.{Changed, Conflict, Ended, Included, Lost, On, Steps, answered, given_up, start, Aborts, Asks, CommitStep, Decides, Plan, Stays}
use Words.{has_record, participants, plan_of, servers_of, Calling, Committing, Coord, Doing, Idle, Now, doing_of, is_free, keeping_of}
use Words.{on_doing, on_root, plan_for, root_at, with_keeping, Intent, Served, abort_action, acked, acked_by, acked_left, aborts_with}
use Words.{all_aborted, decide, ended, root_after, at_uid, has, put_uid, unbound, without_number, Input, abort_reasons, acts, begin_reasons}
use Words.{begin_refusal, branch_named, call_reasons, commit_reasons, first_reason, include_reasons, is_below_16, on_branch, parent_of}
use Words.{refusal_up, refused_by, Branch, Family, Tree, at_place, branch_of, ended_at, ended_branch, has_many_objects, is_open_below}
use Words.{latest_first, next_uid, open_below, path_below, root_of, uses_object, Asked, Ask, End, Header, Kind, Label, Op}
use Words.{Path, Uid, first_uid, is_on, path_of, tops_of, uid_eq, uids_of, most_actions}
use Words.calls
use Words.commit
use Words.input
use Words.cause
use Words.ending
use Words.kind
use Rattle.arj_law_runs.proofs.Terms
use Terms.{Action, AreBegun, MayBegin, action_of, IsAsking, IsBusy, IsGoodCoord, IsTree, Paths, path_length, path_some, serial_alone}
use Terms.{named_found, off, IsStepOf, actor_is, answer_step, giveup_step, on_tree, vote_step, at_others, found_by, place_in, placed}
use Terms.{is_below, HasRoom, actions_at}
use Rattle.arj_law_runs.proofs.coordinators.TreeRooms.{few_with, room_begun, room_doomed, room_ended, room_uses}
use Rattle.arj_protocol.specs.Tree.{has_many_actions}

-- where no reason is found none holds
none_holds : (rs : List (ℕ × Bool)) → first_reason rs ≡ None → AllByRecursion (λ (r : ℕ × Bool). r.1 ≡ false) rs
none_holds [] none = tt
none_holds (r ∷ rs) none = let one = off (r ∷ rs) none in (one.0, none_holds rs one.1)

abbrev pub Room : Coord → Type 0
Room c = HasRoom c.tree

room_same : (c e : Coord) → e.tree ≡ c.tree → Room c → Room e
room_same c e is room = subst HasRoom (sym is) room

-- the root of a branch is among those that were begun
old_root : (t : Tree) (u : Uid) (b : Branch) → branch_of u t ≡ Some b → HasRoom t → (root_of b.path).num ≤ length t.branches
old_root t u b found room = room.roots b (in_to b t.branches (place_in u.num b t.branches (found_by u t b found).1))

-- ---- calls

room_goes : (s : Steps) (c : Coord) → Room c → Room (goes_on s c).part
room_goes s c room = room_same c (on_doing (actor s.path) (λ (d : Doing). record d { req = s.req; now = Calling s }) c)
    (on_tree (actor s.path) (λ (d : Doing). record d { req = s.req; now = Calling s }) c) room

room_ends_call : (s : Steps) (e : CallEnd) (c : Coord) → Room c → Room (ends_call s e c).part
room_ends_call s e c room = by e
  where
    idle : Coord
    idle = on_root (root_of s.path) (root_heard s e) (on_doing (actor s.path) (λ (d : Doing). record d { now = Idle }) c)

    its : Room idle
    its = room_same c (on_doing (actor s.path) (λ (d : Doing). record d { now = Idle }) c)
        (on_tree (actor s.path) (λ (d : Doing). record d { now = Idle }) c) room

    by : (f : CallEnd) → Room (doomed_by (actor s.path) f idle)
    by (Answered a) = its
    by (Included st) = its
    by (Conflict h m n) = its
    by (Changed n w) = its
    by (Lost n false) = its
    by (Lost n true) = room_doomed (actor s.path) idle.tree its

room_step_call : (s : Steps) (t : CallStep) (c : Coord) → Room c → Room (step_call s t c).part
room_step_call s (On at) c room = room_goes (record s { req = s.req + 1; at = at }) c room
room_step_call s (Ended e) c room = room_ends_call s e c room

room_heard_call : (s : Steps) (r : Reply) (c : Coord) → Room c → Room (heard_call s r c).part
room_heard_call s r c room =
    let m = answered (is_free (root_of s.path) (actor s.path) s.x c) (kept_at s c) s.goal s.at r in
    room_step_call s m.step (on_root (root_of s.path) (root_moved s r m) c) room

-- an action that asks about an object has room for it
module _ (b : Branch) (u : Uid) (x : ℕ) (c : Coord) (found : branch_of u c.tree ≡ Some b) (free : has_many_objects b x c.tree ≡ false)
    (room : Room c) where
  room_used : HasRoom (uses_object b.path x c.tree)
  room_used = room_uses b.path x c.tree (old_root c.tree u b found room) (few_with x _ (room.objects (root_of b.path).num) free) room

  room_call : (o : Op) → Room (call b.path x o c).part
  room_call o =
      let p = b.path in
      let r = root_at (root_of p) c in
      let old = keeping_of x r in
      let k = renewed (is_free (root_of p) (actor p) x c) old old.kept in
      room_goes (call_steps p x o (next_req (actor p) c) r c k)
      (on_root (root_of p) (with_keeping x k) (record c { tree = uses_object p x c.tree })) room_used

  room_include : (s : ℕ) → Room (include b.path x s c).part
  room_include s = room_goes (start b.path x (calls.Include s) None unbound (next_req (actor b.path) c))
      (record c { tree = uses_object b.path x c.tree }) room_used

-- ---- ends

ended_tree : (u : Uid) (e : End) (c : Coord) → (ended u e c).tree ≡ ended_at u e c.tree
ended_tree u e c = on_tree u (λ (d : Doing). record d { now = Idle }) (record c { tree = ended_at u e c.tree })

-- the action is open there
abbrev IsOpenAt : Tree → Uid → Type 0
IsOpenAt t u = (b : Branch) × (branch_of u t ≡ Some b) × (is_some b.ended ≡ false)

room_end : (u : Uid) (e : End) (c : Coord) → IsOpenAt c.tree u → Room c → Room (ended u e c)
room_end u e c opened room = subst HasRoom (sym (ended_tree u e c)) (room_ended u e c.tree opened.0 opened.1 opened.2 room)

-- another one that is open stays so
open_still : (u w : Uid) (e : End) (t : Tree) → IsOpenAt t u → w ≢ u → IsOpenAt t w → IsOpenAt (ended_at u e t) w
open_still u w e t it other opened =
    subst (λ o. IsOpenAt (ended_branch u e t o) w) (sym it.1) (opened.0, at_others u e t it.0 it.1 w other ∙ opened.1, opened.2)

-- each is none of those behind it
abbrev AreApart : List Uid → Type 0
AreApart [] = Unit {0}
AreApart (u ∷ us) = AllByRecursion (λ w. w ≢ u) us × AreApart us

all_still : (u : Uid) (e : End) (c : Coord) (us : List Uid) → IsOpenAt c.tree u → AllByRecursion (λ w. w ≢ u) us →
    AllByRecursion (IsOpenAt c.tree) us → AllByRecursion (IsOpenAt (ended u e c).tree) us
all_still u e c [] it apart opened = tt
all_still u e c (w ∷ us) it apart opened = (
  subst (λ t. IsOpenAt t w) (sym (ended_tree u e c)) (open_still u w e c.tree it apart.0 opened.0),
  all_still u e c us it apart.1 opened.1,
)

room_all : (us : List Uid) (c : Coord) → AllByRecursion (IsOpenAt c.tree) us → AreApart us → Room c → Room (all_aborted us c).part
room_all [] c opened apart room = room
room_all (u ∷ us) c opened apart room = room_all us (ended u ending.Abort c) (all_still u ending.Abort c us opened.0 apart.0 opened.1)
    apart.1 (room_end u ending.Abort c opened.0 room)

-- ---- what is open below an action

-- the numbers of branches follow one another
abbrev AreNumbered : ℕ → List Branch → Type 0
AreNumbered k [] = Unit {0}
AreNumbered k (b ∷ bs) = ((actor b.path).num ≡ k) × AreNumbered (suc k) bs

module _ (u : Uid) where
  -- those of the list have lower numbers than this, and each none of those behind it
  abbrev AreBelow : ℕ → List Uid → Type 0
  AreBelow k us = AllByRecursion (λ (w : Uid). w.num < k) us × AreApart us

  lower_not : (k : ℕ) (v : Uid) (us : List Uid) → v.num ≡ k → AllByRecursion (λ (w : Uid). w.num < k) us → AllByRecursion (λ w. w ≢ v) us
  lower_not k v [] num all = tt
  lower_not k v (w ∷ us) num all = (λ same. omega (arith, all.0, num, ap (λ (x : Uid). x.num) same), lower_not k v us num all.1)

  lower_more : (k : ℕ) (us : List Uid) → AllByRecursion (λ (w : Uid). w.num < k) us → AllByRecursion (λ (w : Uid). w.num < suc k) us
  lower_more k [] all = tt
  lower_more k (w ∷ us) all = (omega (arith, all.0), lower_more k us all.1)

  found_apart : (k : ℕ) (bs : List Branch) (found : List Uid) → AreNumbered k bs → AreBelow k found →
      AreApart (latest_first (filter (is_open_below u) bs) found)
  found_apart k [] found numbers below = below.1
  found_apart k (b ∷ bs) found numbers below = by (is_open_below u b) (λ more. found_apart (suc k) bs more numbers.1)
    where
      by : (x : Bool) → ((more : List Uid) → AreBelow (suc k) more → AreApart (latest_first (filter (is_open_below u) bs) more)) →
          AreApart (latest_first (cond x (b ∷ filter (is_open_below u) bs) (filter (is_open_below u) bs)) found)
      by true rest = rest (actor b.path ∷ found)
          ((omega (arith, numbers.0), lower_more k found below.0), (lower_not k (actor b.path) found numbers.0 below.0, below.1))
      by false rest = rest found (lower_more k found below.0, below.1)

  -- what holds of each that is found
  found_all : (P : Uid → Type 0) (bs : List Branch) (found : List Uid) → ((b : Branch) → In b bs → P (actor b.path)) →
      AllByRecursion P found → AllByRecursion P (latest_first bs found)
  found_all P [] found each all = all
  found_all P (b ∷ bs) found each all = found_all P bs (actor b.path ∷ found) (λ c i. each c (inr i)) (each b (inl refl), all)

all_behind : (P : Uid → Type 0) (us : List Uid) (u : Uid) → AllByRecursion P us → P u → AllByRecursion P (us ++ u ∷ [])
all_behind P [] u all its = (its, tt)
all_behind P (w ∷ us) u all its = (all.0, all_behind P us u all.1 its)

apart_behind : (us : List Uid) (u : Uid) → AreApart us → AllByRecursion (λ w. w ≢ u) us → AreApart (us ++ u ∷ [])
apart_behind [] u apart others = (tt, tt)
apart_behind (w ∷ us) u apart others =
    (all_behind (λ x. x ≢ w) us u apart.0 (λ same. others.0 (sym same)), apart_behind us u apart.1 others.1)

is_off : (x : Bool) → not x ≡ true → x ≡ false
is_off true isnt = absurd (cc isnt)
is_off false isnt = refl

-- in a good tree they do
module _ (t : Tree) (places : (v : Uid) (b : Branch) → branch_of v t ≡ Some b → actor b.path ≡ v) where
  own_at : (k : ℕ) (b : Branch) → at_place k t.branches ≡ Some b →
      (let v : Uid = record { node = t.node; inc = t.inc; num = k } in branch_of v t) ≡ Some b
  own_at k b at = (λ i. cond (itself t.node i && itself t.inc i) (at_place k t.branches) None) ∙ at
    where
      itself : (n : ℕ) → (n == n) ≡ true
      itself n = grind arith

  numbered : (bs : List Branch) (k : ℕ) → ((i : ℕ) (b : Branch) → slice_get bs i ≡ Some b → at_place (k + i) t.branches ≡ Some b) →
      AreNumbered k bs
  numbered [] k at = tt
  numbered (b ∷ bs) k at =
      let here : k + 0 ≡ k = omega arith in (
        ap (λ (w : Uid). w.num) (places (record { node = t.node; inc = t.inc; num = k }) b
            (own_at k b (subst (λ n. at_place n t.branches ≡ Some b) here (at 0 b refl)))),
        numbered bs (suc k) (λ i c is. let next : k + suc i ≡ suc k + i = omega arith in
            subst (λ n. at_place n t.branches ≡ Some c) next (at (suc i) c is)),
      )

  all_numbered : AreNumbered 1 t.branches
  all_numbered =
      numbered t.branches 1 (λ i b is. let first : suc i ≡ 1 + i = omega arith in subst (λ n. at_place n t.branches ≡ Some b) first is)

  -- what is open below an action, and then the action, are open, and each is none of the others
  below_opened : (u : Uid) → IsOpenAt t u → AllByRecursion (IsOpenAt t) (open_below u t ++ u ∷ [])
  below_opened u it = all_behind (IsOpenAt t) (open_below u t) u
      (found_all u (IsOpenAt t) (filter (is_open_below u) t.branches) [] (λ b i. its b (in_filter (is_open_below u) b t.branches i)) tt) it
    where
      its : (b : Branch) → In b t.branches × (is_open_below u b ≡ true) → IsOpenAt t (actor b.path)
      its b i =
          let p = placed b t.branches i.0 in
          let v : Uid = record { node = t.node; inc = t.inc; num = p.0 } in
          let found = own_at p.0 b p.1 in (
            b,
            subst (λ w. branch_of w t ≡ Some b) (sym (places v b found)) found,
            is_off (is_some b.ended) (and_parts (is_below u b) (not (is_some b.ended)) i.1).1,
          )

  below_apart : (u : Uid) → AreApart (open_below u t ++ u ∷ [])
  below_apart u = apart_behind (open_below u t) u (found_apart u 1 t.branches [] all_numbered (tt, tt))
      (found_all u (λ w. w ≢ u) (filter (is_open_below u) t.branches) [] (λ b i. its b (in_filter (is_open_below u) b t.branches i).1) tt)
    where
      its : (b : Branch) → is_open_below u b ≡ true → actor b.path ≢ u
      its b is same =
          let below = (and_parts (is_below u b) (not (is_some b.ended)) is).0 in
          let other = (and_parts (is_on (uids_of b.path) u) (not (uid_eq (actor b.path) u)) below).1 in
          let no_way : false ≡ true = sym (λ i. not ((ap (λ w. uid_eq w u) same ∙ uid_same u) i)) ∙ other in
          cc

module _ (actions : List Action) (paths : Paths) where
  abbrev Good : Coord → Type 0
  Good c = IsGoodCoord actions paths c

  room_abort : (u : Uid) (intents : List (Uid × Intent)) (c : Coord) → Good c → IsOpenAt c.tree u → Room c →
      Room (abort_action u intents c).part
  room_abort u intents c good it room = room_all (open_below u c.tree ++ u ∷ []) c (below_opened c.tree good.tree.lists.places u it)
      (below_apart c.tree good.tree.lists.places u) room

  -- ---- commits

  asks_tree : (p : Path) (req : ℕ) (asked : List (ℕ × Ask)) (c : Coord) →
      (let d = asks_all p req asked c in let e = d.part in e.tree) ≡ c.tree
  asks_tree p req [] c = refl
  asks_tree p req (a ∷ rest) c = let d = asks_node p req a c in asks_tree p req rest d.part

  room_decided : (p : Plan) (c : Coord) → IsOpenAt c.tree (actor p.path) → Room c → Room (decide p c).part
  room_decided p c it room = by (has_record p)
    where
      u : Uid
      u = actor p.path

      took : Coord
      took = on_doing u (λ (d : Doing). record d { took = participants p }) (ended u ending.Commit c)

      r : Coord
      r = on_root (root_of p.path) (root_after p) took

      its : Room r
      its = room_same (ended u ending.Commit c) took
          (on_tree u (λ (d : Doing). record d { took = participants p }) (ended u ending.Commit c)) (room_end u ending.Commit c it room)

      by : (b : Bool) →
          Room (cond b (record r { telling = put_uid u (record { root = root_of p.path; nodes = participants p }) r.telling }) r)
      by true = its
      by false = its

  room_step_commit : (u : Uid) (p : Plan) (s : CommitStep) (intents : List (Uid × Intent)) (c : Coord) → actor p.path ≡ u →
      IsOpenAt c.tree u → (tree : IsTree paths) → IsStepOf actions paths tree p s → Room c → Room (step_commit u s intents c).part
  room_step_commit u p (Stays m) intents c its it tree same room =
      room_same c (commits_in u m c) (on_tree u (λ (d : Doing). record d { req = (plan_of m).req; now = Committing m }) c) room
  room_step_commit u p (Asks m) intents c its it tree same room =
      room_same c (step_commit u (Asks m) intents c).part (asks_tree (plan_of m).path (plan_of m).req (commit.waiting m) (commits_in u m c)
      ∙ on_tree u (λ (d : Doing). record d { req = (plan_of m).req; now = Committing m }) c) room
  room_step_commit u p (Decides q) intents c its it tree same room =
      room_decided q c (subst (IsOpenAt c.tree) (sym (ap actor same.0 ∙ its)) it) room
  room_step_commit u p (Aborts why q) intents c its it tree same room = room_end u ending.Abort c it room

  room_commit : (tree : IsTree paths) (b : Branch) (intents : List (Uid × Intent)) (c : Coord) → IsOpenAt c.tree (actor b.path) → Room c →
      Room (commit_action b intents c).part
  room_commit tree b intents c it room = by b.doomed
    where
      top : Room (commit_top b.path intents c).part
      top =
          let p = plan_for b.path (last_req (doing_of (actor b.path) c)) (root_at (root_of b.path) c) c in
          room_step_commit (actor b.path) p (commit.start p).step intents c refl it tree
          (vote_step actions paths tree (servers_of p) p p (refl, refl)) room

      kinds : (k : Kind) → Room (commit_open b intents c k).part
      kinds kind.Nested = room_end (actor b.path) ending.Commit c it room
      kinds kind.Serial = room_end (actor b.path) ending.Commit c it room
      kinds kind.Top = top
      kinds kind.Independent = top
      kinds kind.Constituent = top

      by : (x : Bool) → Room (cond x (aborts_with (actor b.path) cause.Doomed intents c) (commit_open b intents c b.kind)).part
      by true = room_end (actor b.path) ending.Abort c it room
      by false = kinds b.kind

  -- ---- answers and giveups

  asking_open : (u : Uid) (p : Path) (c : Coord) → IsAsking c.tree u p → IsOpenAt c.tree u
  asking_open u p c a = (a.branch, a.found, a.opened)

  pub room_heard : (tree : IsTree paths) (from : ℕ) (a : Asked) (r : Reply) (intents : List (Uid × Intent)) (c : Coord) → Good c → Room c →
      Room (heard from a r intents c).part
  room_heard tree from a r intents c good room = by (doing_of a.act c) refl
    where
      now : (n : Now) → IsBusy c.tree a.act n → Room (heard_now from a r intents c n).part
      now Idle b = room
      now (Calling s) b = one (waits_for_call from a r s)
        where
          one : (w : Bool) → Room (cond {A = Served Coord (Unit {0})} w (heard_by (heard_call s r c)) (heard_none c)).part
          one true = room_heard_call s r c room
          one false = room
      now (Committing m) b = one (waits_for_commit from a r m)
        where
          one : (w : Bool) → Room (cond {A = Served Coord (Unit {0})} w (heard_by (moved_commit a.act (commit.answered from m r) intents c))
              (heard_none c)).part
          one true = room_step_commit a.act (plan_of m) (commit.answered from m r).step intents c
              (actor_is actions paths tree a.act (plan_of m).path c good b.asking) (asking_open a.act (plan_of m).path c b.asking) tree
              (answer_step actions paths tree from m r) room
          one false = room

      by : (o : Option Doing) → doing_of a.act c ≡ o → Room (heard_doing from a r intents c o).part
      by None is = room
      by (Some d) is = now d.now (good.busy a.act d is)

  room_give_up : (tree : IsTree paths) (u : Uid) (intents : List (Uid × Intent)) (c : Coord) → Good c → Room c →
      Room (give_up u intents c).part
  room_give_up tree u intents c good room = by (doing_of u c) refl
    where
      now : (n : Now) → IsBusy c.tree u n → Room (gives_up u intents c n).part
      now Idle b = room
      now (Calling s) b = room_step_call s (given_up s.at) (on_root (root_of s.path) (root_lost s (given_up s.at)) c) room
      now (Committing m) b = room_step_commit u (plan_of m) (commit.given_up m).step intents c (actor_is actions paths tree u
          (plan_of m).path c good b.asking) (asking_open u (plan_of m).path c b.asking) tree (giveup_step actions paths tree m) room

      by : (o : Option Doing) → doing_of u c ≡ o → Room (give_up_doing u intents c o).part
      by None is = room
      by (Some d) is = now d.now (good.busy u d is)

  -- ---- inputs about an action

  module _ (tree : IsTree paths) (intents : List (Uid × Intent)) (c : Coord) (good : Good c) (room : Room c) where
    its_branch : (l : Label) (b : Branch) → branch_named l c ≡ Some b → branch_of (actor b.path) c.tree ≡ Some b
    its_branch l b is = named_found actions paths tree intents c good l b is

    pub room_acts : (hd : Header) (i : Input) → refusal_up hd i c ≡ None →
        ((l : Label) (k : Kind) (parent : Option Label) → i ≢ input.Begin l k parent) → Room (acts i intents c).part
    room_acts hd (input.Begin l k parent) none other = absurd (other l k parent refl)
    room_acts hd (input.Call l x o) none other = by (branch_named l c) refl none
      where
        by : (f : Option Branch) → branch_named l c ≡ f → refused_by (call_reasons hd x o) c f ≡ None →
            Room (on_branch (λ b. call b.path x o c) c f).part
        by None is e = room
        by (Some b) is e =
            room_call b (actor b.path) x c (its_branch l b is) (none_holds (call_reasons hd x o b c) e).1.1.1.1.1.1.0 room o
    room_acts hd (input.Include l x s) none other = by (branch_named l c) refl none
      where
        by : (f : Option Branch) → branch_named l c ≡ f → refused_by (include_reasons hd x) c f ≡ None →
            Room (on_branch (λ b. include b.path x s c) c f).part
        by None is e = room
        by (Some b) is e =
            room_include b (actor b.path) x c (its_branch l b is) (none_holds (include_reasons hd x b c) e).1.1.1.1.1.0 room s
    room_acts hd (input.Commit l) none other = by (branch_named l c) refl none
      where
        by : (f : Option Branch) → branch_named l c ≡ f → refused_by commit_reasons c f ≡ None →
            Room (on_branch (λ b. commit_action b intents c) c f).part
        by None is e = room
        by (Some b) is e = room_commit tree b intents c (b, its_branch l b is, (none_holds (commit_reasons b c) e).0) room
    room_acts hd (input.Abort l) none other = by (branch_named l c) refl none
      where
        by : (f : Option Branch) → branch_named l c ≡ f → refused_by abort_reasons c f ≡ None →
            Room (on_branch (λ b. abort_action (actor b.path) intents c) c f).part
        by None is e = room
        by (Some b) is e = room_abort (actor b.path) intents c good (b, its_branch l b is, (none_holds (abort_reasons b c) e).0) room
    room_acts hd (input.GiveUp l) none other = by (branch_named l c)
      where
        by : (f : Option Branch) → Room (on_branch (λ b. give_up (actor b.path) intents c) c f).part
        by None = room
        by (Some b) = room_give_up tree (actor b.path) intents c good room
    room_acts hd (input.Frame k from m) none other = room
    room_acts hd input.Tick none other = room
    room_acts hd input.Restart none other = room
    room_acts hd input.Crash none other = room
    room_acts hd (input.Show x) none other = room

-- ---- ticks and acknowledgements

pub again_tree : (ds : List Doing) (c : Coord) → (let d = again_all ds c in let e = d.part in e.tree) ≡ c.tree
again_tree [] c = refl
again_tree (d ∷ ds) c = let t = again_now c d.now in again_tree ds t.part ∙ now d.now
  where
    all_asked : (p : Path) (req : ℕ) (asked : List (ℕ × Ask)) (x : Coord) →
        (let f = asks_all p req asked x in let e = f.part in e.tree) ≡ x.tree
    all_asked p req [] x = refl
    all_asked p req (a ∷ rest) x = let f = asks_node p req a x in all_asked p req rest f.part

    now : (n : Now) → (let f = again_now c n in let e = f.part in e.tree) ≡ c.tree
    now Idle = refl
    now (Calling s) = refl
    now (Committing m) = all_asked (plan_of m).path (plan_of m).req (commit.waiting m) c

pub acked_tree : (from : ℕ) (u : Uid) (intents : List (Uid × Intent)) (c : Coord) →
    (let s = acked from u intents c in let e = s.part in e.tree) ≡ c.tree
acked_tree from u intents c = by (at_uid u c.telling)
  where
    left : (i : Intent) (ns : List ℕ) → (let s = acked_left u i intents c ns in let e = s.part in e.tree) ≡ c.tree
    left i [] = refl
    left i (n ∷ ns) = refl

    listed : (i : Intent) (x : Bool) → (let s : Served Coord (Unit {0}) = cond x (acked_left u i intents c (without_number from i.nodes))
        (record { part = c; outs = []; reply = None }) in let e = s.part in e.tree) ≡ c.tree
    listed i true = left i (without_number from i.nodes)
    listed i false = refl

    by : (o : Option Intent) → (let s = acked_by from u intents c o in let e = s.part in e.tree) ≡ c.tree
    by None = refl
    by (Some i) = listed i (has i.nodes from)

pub room_again : (ds : List Doing) (c : Coord) → Room c → Room (again_all ds c).part
room_again ds c room = room_same c (again_all ds c).part (again_tree ds c) room

pub room_acked : (from : ℕ) (u : Uid) (intents : List (Uid × Intent)) (c : Coord) → Room c → Room (acked from u intents c).part
room_acked from u intents c room = room_same c (acked from u intents c).part (acked_tree from u intents c) room

-- ---- an action begins

-- the root of a next action: itself, or the root of the action in which it begins
next_root : (actions : List Action) → AreBegun actions → (k : Kind) (parent : Option Branch) (t : Tree) → MayBegin actions k parent
    → (root_of (path_below k parent (next_uid t)) ≡ next_uid t)
    ⊎ ((b : Branch) × (parent ≡ Some b) × (root_of (path_below k parent (next_uid t)) ≡ root_of b.path) × (is_below_16 k ≡ true))
next_root actions begun k parent t may = by k parent may
  where
    u : Uid
    u = next_uid t

    alone : root_of (path_of (u ∷ []) 1) ≡ u
    alone = let m = path_is (u ∷ []) 1 (omega arith) (omega arith) (omega arith) (omega arith) (omega arith) in ap first_uid m.has

    first_more : (us : List Uid) → 1 ≤ length us → first_uid (us ++ u ∷ []) ≡ first_uid us
    first_more [] some = absurd (omega (arith, some))
    first_more (v ∷ vs) some = refl

    longer : (us : List Uid) → length (us ++ u ∷ []) ≡ length us + 1
    longer us = length-append us (u ∷ [])

    by : (k' : Kind) (o : Option Branch) → MayBegin actions k' o → (root_of (path_below k' o u) ≡ u)
        ⊎ ((b : Branch) × (o ≡ Some b) × (root_of (path_below k' o u) ≡ root_of b.path) × (is_below_16 k' ≡ true))
    by kind.Nested None m = absurd m
    by kind.Nested (Some b) m =
        let us = uids_of b.path in
        let long = longer us in
        let made = path_is (us ++ u ∷ []) (tops_of b.path) (omega (arith, long)) (omega (arith, long, m.2)) b.path.one_top b.path.two_tops
        (omega (arith, long, b.path.within, path_length b.path)) in
        inr (b, refl, ap first_uid made.has ∙ first_more us (path_some b.path), refl)
    by kind.Constituent None m = absurd m
    by kind.Constituent (Some b) m =
        let up = serial_alone actions begun (action_of b) (in_from (action_of b) actions m.0) m.1 in
        let us = uids_of b.path in
        let long : length (us ++ u ∷ []) ≡ 2 = longer us ∙ ap (λ vs. length vs + 1) up.0 in
        let made = path_is (us ++ u ∷ []) 2 (omega (arith, long)) (omega (arith, long)) (omega arith) (omega arith) (omega (arith, long)) in
        inr (b, refl, ap first_uid made.has ∙ first_more us (path_some b.path), refl)
    by kind.Top None m = inl alone
    by kind.Top (Some b) m = inl alone
    by kind.Serial None m = inl alone
    by kind.Serial (Some b) m = inl alone
    by kind.Independent None m = inl alone
    by kind.Independent (Some b) m = inl alone

module _ (actions : List Action) (begun : AreBegun actions) (paths : Paths) (tree : IsTree paths) (l : Label) (k : Kind)
    (parent : Option Label) (c : Coord) (good : IsGoodCoord actions paths c)
    (may : MayBegin actions k (parent_of parent c)) (none : begin_refusal k c parent ≡ None) (room : Room c) where
  -- a parent has room for one more
  parent_room : (b : Branch) → parent_of parent c ≡ Some b → is_below_16 k ≡ true →
      (branch_of (actor b.path) c.tree ≡ Some b) × (actions_at (root_of b.path).num c.tree < most_actions)
  parent_room b is below = by parent is none
    where
      by : (q : Option Label) → parent_of q c ≡ Some b → begin_refusal k c q ≡ None →
          (branch_of (actor b.path) c.tree ≡ Some b) × (actions_at (root_of b.path).num c.tree < most_actions)
      by None e f = let no_way : ◌≡◌ {A = Option Branch} None (Some b) = e in cc
      by (Some x) e f =
          let g : refused_by (begin_reasons k) c (Some b) ≡ None = ap (refused_by (begin_reasons k) c) (sym e) ∙ f in
          let few : has_many_actions b c.tree ≡ false = (λ i. sym below i && has_many_actions b c.tree)
          ∙ (none_holds (begin_reasons k b c) g).1.1.1.1.1.0 in
          (named_found actions paths tree [] c good x b e, grind (arith, few))

  pub room_begin : Room (begin_action l k parent (parent_of parent c) c).part
  room_begin = ⊎_elim
      (λ own. room_begun k p c.tree (omega (arith, ap (λ (w : Uid). w.num) own)) (let none_yet = room.fresh (root_of p).num
      (omega (arith, ap (λ (w : Uid). w.num) own)) in omega (arith, ap (λ (f : Family). f.actions) none_yet)) room)
      (λ below.
      let has_room = parent_room below.0 below.1 below.3 in
      let num = ap (λ (w : Uid). w.num) below.2 in
      room_begun k p c.tree (omega (arith, num, old_root c.tree (actor below.0.path) below.0 has_room.0 room))
      (subst (λ n. actions_at n c.tree < most_actions) (sym num) has_room.1) room)
      (next_root actions begun k (parent_of parent c) c.tree may)
    where
      p : Path
      p = path_below k (parent_of parent c) (next_uid c.tree)
