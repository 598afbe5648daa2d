-- At each moment the tree of a coordinator has of each root the objects that its accepted calls and includes used.
use Rattle.arj_law_parts.proofs.Words
use Words.{◌≡◌, ◌⊎◌, ◌∙◌, ◌==◌, ◌&&◌, ◌+◌, ◌<◌, ◌≤◌, ◌++◌, inl, inr, ℕ, Bool, true, false, cond, if◌then◌else◌, List, [], ◌∷◌, Option, Some, None, refl, sym, ap, subst, arith}
use Words.{nat_tests, ⊎_elim, eqb-true, and_parts, AllByRecursion, In, first_uid, uid_eq, uid_is, uid_same, Uid, Body, Event, Header, Kind, Label, Line, Op, Path}
use Words.{name, uids_of, actor, Doing, doing_of, Coord, Did, Disk, Do, Effect, Say, Send, stopped, worked, Parts, Node, with_coord, Input}
use Words.{acts as does, refusal_up, refused_by, again_all, begin_action, branch_named, call, include, call_reasons, include_reasons, on_branch}
use Words.{on_doing, on_root, heard, acked, Branch, branch_of, is_own, parent_of, path_below, next_uid, parts_in, restart_outs, tick_outs}
use Words.{frame_kind, goes_on, call_steps, start, next_req, keeping_of, root_at, renewed, is_free, with_keeping, unbound, is_serial, numbered}
use Words.{Post, Seen, Steps, Calling, Tree, root_of, uses_object, give_up, abort_action, commit_action, open_below, handle, see, world_from, Start}
use Words.body
use Words.calls
use Words.event
use Words.frame
use Words.input
use Rattle.arj_law_runs.proofs.Terms
use Terms.{Act, acts, path, uids, paths_of, on_tree, own_is, IsGoodCoord, IsTree, IsWritten, IsCounted, book}
use Rattle.arj_law_runs.proofs.addresses.Lists.{all_append}
use Rattle.arj_law_runs.proofs.calls.CoordKnown.{root_own}
use Rattle.arj_law_runs.proofs.coordinators.CoordRooms.{acked_tree, again_tree}
use Rattle.arj_law_runs.proofs.journal.{Beginning.IsNamed, Beginning.named_at, Models.in_later, Models.its_acts, Owners.acts_more, Owners.all_in}
use Rattle.arj_law_runs.proofs.kept.{Parted.IsLeft, Parted.coord_kept, Starts.first_up}
use Rattle.arj_law_runs.specs.coordinators.Rooms.{objects_at}
use Rattle.arj_law_cause.proofs.follow.causes.Roots.{root_there}
use Rattle.arj_law_cause.proofs.follow.causes.Turning.{of_all, of_commit, of_give_up, of_heard}
use Rattle.arj_law_lock_view.proofs.Terms.{same_number}
use Rattle.arj_law_parts.proofs.moves.{Flat.post, Together.with_both}
use Rattle.arj_law_parts.specs.moves.Keeps.{is_act}
use Rattle.arj_law_parts.specs.moves.Moments as moments
use Rattle.arj_law_parts.specs.moves.Moments.{Asking, Moment, asks_now, at, closed, fits, framed_if, given, halted, posted, said, sent, up}
use Rattle.arj_law_parts.specs.moves.Seen as seen
use Rattle.arj_law_parts.specs.moves.With.{Brings, IsFirst, KeepsAll, KeepsSteps, UpWith, WalksWith}
use Rattle.arj_law_parts.specs.steps.Named.{HasNames}
use Rattle.arj_model.specs.Last.{insert_number}
use Rattle.arj_model.specs.Past.{Asked as AskedOf, asked_of, label_of}
use Rattle.arj_model.specs.Refusals.{object_used, with_object}
use Rattle.arj_law_lock_view.specs.asking.Asked.{accepted_of}
use Rattle.arj_law_cause.proofs.waits.waiting.Acting as acting
use Rattle.arj_law_cause.proofs.waits.waiting.Knowing.{Core, core_keep}
use Rattle.arj_law_cause.proofs.waits.objects.Used
use Used.{IsLike, is_rooted, its_root, like_begun, like_doomed, like_ended, like_itself, none_used, other_root, used_in}
use Used.{uses_elsewhere, uses_there}

-- ---- what is kept

-- the root of this number, in this tree
abbrev pub root_at_number : Tree → ℕ → Uid
root_at_number t q = record { node = t.node; inc = t.inc; num = q }

-- the tree has of each root the objects that these have used
abbrev pub HasUsed : List AskedOf → Tree → Type 0
HasUsed acc t = (q : ℕ) → objects_at q t ≡ used_in (root_at_number t q) acc

-- the event is a call or an include
abbrev pub is_ask : Event → Bool
is_ask (event.Call l x o) = true
is_ask (event.Include l x n) = true
is_ask e = false

-- the path of an action that was asked begins with one of the journal
abbrev pub IsRooted : List Line → AskedOf → Type 0
IsRooted ls a = is_ask (let z = a in z.event) ≡ true → (r : Act) × In r (acts ls) × (rest : List Act) × ((let z = a in z.path) ≡ r ∷ rest)

abbrev AreRooted : List Line → List AskedOf → Type 0
AreRooted ls acc = AllByRecursion (IsRooted ls) acc

pub record UsedAgree (M : Moment) : Type 0 where
  pub used : (j : ℕ) (n : Node) (t : Parts) → M.seen.nodes j ≡ Some n → n.live ≡ Some t → HasUsed (accepted_of M.past.askings) t.coord.tree
  pub paths : AreRooted M.seen.lines (accepted_of M.past.askings)

-- ---- more lines

rooted_more : (ls more : List Line) (acc : List AskedOf) → AreRooted ls acc → AreRooted (ls ++ more) acc
rooted_more ls more [] all = tt
rooted_more ls more (a ∷ acc) all = (
  (λ is. let r = all.0 is in (r.0, subst (In r.0) (sym (acts_more [] ls more)) (in_later more (acts ls) r.0 r.1), r.2, r.3)),
  rooted_more ls more acc all.1,
)

-- a tree that is like another
like_used : (acc : List AskedOf) (t s : Tree) → IsLike t s → HasUsed acc t → HasUsed acc s
like_used acc t s like h q = like.objects q ∙ h q
    ∙ (λ i. used_in (record { node = sym like.node i; inc = sym like.inc i; num = q }) acc)

-- ---- a node that goes on

-- what is carried through what node k does, which is up with these parts in the end
record Carried (k : ℕ) (v : Parts) (N : Moment) : Type 0 where
  its : HasUsed (accepted_of N.past.askings) v.coord.tree
  rest : (j : ℕ) (n : Node) (t : Parts) → (j == k) ≡ false → N.seen.nodes j ≡ Some n → n.live ≡ Some t →
      HasUsed (accepted_of N.past.askings) t.coord.tree
  paths : AreRooted N.seen.lines (accepted_of N.past.askings)

some_is : {A : Type 0} {a b : A} → Some a ≡ Some b → a ≡ b
some_is {A} {a} {b} is = let k : ◌≡◌ {A = Option A} (Some a) (Some b) = is in cc

carried_of : (k : ℕ) (d : Disk) (live : Option Parts) (v : Parts) (M : Moment) → HasUsed (accepted_of M.past.askings) v.coord.tree →
    UsedAgree (at k d live M) → Carried k v M
carried_of k d live v M its h = record {
  its = its;
  rest = λ j n t apart there up. h.used j n t
      ((λ i. cond (apart i) (Some (record { number = k; disk = d; live = live })) (M.seen.nodes j)) ∙ there) up;
  paths = h.paths;
}

own_used : (k : ℕ) (d : Disk) (t : Parts) (M : Moment) → UsedAgree (up k d t M) → HasUsed (accepted_of M.past.askings) t.coord.tree
own_used k d t M h = h.used k (record { number = k; disk = d; live = Some t }) t
    (λ i. cond (same_number k i) (Some (record { number = k; disk = d; live = Some t })) (M.seen.nodes k)) refl

back : (k : ℕ) (d : Disk) (live : Option Parts) (v : Parts) (N : Moment) → ((t : Parts) → live ≡ Some t → v ≡ t) → Carried k v N →
    UsedAgree (at k d live N)
back k d live v N same c = record { used = λ j n t there up. by j n t up (j == k) refl there; paths = c.paths }
  where
    x : Node
    x = record { number = k; disk = d; live = live }

    by : (j : ℕ) (n : Node) (t : Parts) → n.live ≡ Some t → (b : Bool) → (j == k) ≡ b → cond b (Some x) (N.seen.nodes j) ≡ Some n →
        HasUsed (accepted_of N.past.askings) t.coord.tree
    by j n t up true at there = let here : x ≡ n = some_is there in
        subst (λ (z : Parts). HasUsed (accepted_of N.past.askings) z.coord.tree) (same t (ap (λ (z : Node). z.live) here ∙ up)) c.its
    by j n t up false apart there = c.rest j n t apart there up

carried_said : (k : ℕ) (v : Parts) (bs : List Body) (N : Moment) → Carried k v N → Carried k v (said bs N)
carried_said k v bs N c = record {
  its = c.its;
  rest = c.rest;
  paths = rooted_more N.seen.lines (numbered N.past.number bs) (accepted_of N.past.askings) c.paths;
}

carried_sent : (k : ℕ) (v : Parts) (p : Post) (N : Moment) → Carried k v N → Carried k v (sent p N)
carried_sent k v p N c = by (p.to == p.from) (fits N)
  where
    by : (self fit : Bool) → Carried k v (if self then posted p N else framed_if fit p N)
    by true fit = record { its = c.its; rest = c.rest; paths = c.paths }
    by false true = let o = carried_said k v (body.Sent (N.past.frames + 1) p.from p.to (frame_kind p.message) ∷ []) N c in
        record { its = o.its; rest = o.rest; paths = o.paths }
    by false false = c

stop_used : (k : ℕ) (d : Disk) (v : Parts) (N : Moment) → Carried k v N → UsedAgree (halted k d N)
stop_used k d v N c = let z = carried_said k v (body.Halted k ∷ []) N c in
    let o = back k d None v (said (body.Halted k ∷ []) N) (λ t is. absurd (cc is)) z in record { used = o.used; paths = o.paths }

walk : (k : ℕ) (v : Parts) (outs : List Effect) (d : Disk) (N : Moment) → Carried k v N → WalksWith UsedAgree k outs (UpWith UsedAgree k v) d N
walk k v [] d N c = back k d (Some v) v N (λ t is. some_is is) c
walk k v (Do w ∷ es) d N c = ((λ how. stop_used k (stopped how w d) v N c), walk k v es (worked w d) N c)
walk k v (Say b ∷ es) d N c = walk k v es d (said (b ∷ []) N) (carried_said k v (b ∷ []) N c)
walk k v (Send to m ∷ es) d N c = walk k v es d (sent (post k to m) N) (carried_sent k v (post k to m) N c)

-- where nothing is asked, and the tree is like it was
like_walk : (k : ℕ) (t v : Parts) (outs : List Effect) (d : Disk) (M : Moment) → IsLike t.coord.tree v.coord.tree → UsedAgree (up k d t M) →
    WalksWith UsedAgree k outs (UpWith UsedAgree k v) d M
like_walk k t v outs d M like h = walk k v outs d M (carried_of k d (Some t) v M
    (like_used (accepted_of M.past.askings) t.coord.tree v.coord.tree like (own_used k d t M h)) h)

-- ---- what the events ask

call_brings : (e : Event) (l : Label) (x : ℕ) (o : Op) → Brings e (input.Call l x o) → (label_of e ≡ name l) × (object_used e ≡ Some x)
call_brings (event.Call m y p) l x o is =
    let a : l ≡ m = cc is in let b : x ≡ y = cc is in (ap name (sym a), ap Some (sym b))
call_brings (event.Include m y n) l x o is = absurd (cc is)
call_brings (event.Begin m n) l x o is = absurd (cc is)
call_brings (event.Serial m n) l x o is = absurd (cc is)
call_brings (event.BeginIn m p) l x o is = absurd (cc is.1)
call_brings (event.Top m p) l x o is = absurd (cc is)
call_brings (event.Commit m) l x o is = absurd (cc is)
call_brings (event.Abort m) l x o is = absurd (cc is)
call_brings (event.GiveUp m) l x o is = absurd (cc is)
call_brings e l x o is = absurd is

include_brings : (e : Event) (l : Label) (x s : ℕ) → Brings e (input.Include l x s) → (label_of e ≡ name l) × (object_used e ≡ Some x)
include_brings (event.Include m y n) l x s is =
    let a : l ≡ m = cc is in let b : x ≡ y = cc is in (ap name (sym a), ap Some (sym b))
include_brings (event.Call m y p) l x s is = absurd (cc is)
include_brings (event.Begin m n) l x s is = absurd (cc is)
include_brings (event.Serial m n) l x s is = absurd (cc is)
include_brings (event.BeginIn m p) l x s is = absurd (cc is.1)
include_brings (event.Top m p) l x s is = absurd (cc is)
include_brings (event.Commit m) l x s is = absurd (cc is)
include_brings (event.Abort m) l x s is = absurd (cc is)
include_brings (event.GiveUp m) l x s is = absurd (cc is)
include_brings e l x s is = absurd is

commit_brings : (e : Event) (l : Label) → Brings e (input.Commit l) → (object_used e ≡ None) × (is_ask e ≡ false)
commit_brings (event.Call m y p) l is = absurd (cc is)
commit_brings (event.Include m y n) l is = absurd (cc is)
commit_brings e l is = (refl, refl)

-- ---- one node

module _ (k : ℕ) (d : Disk) (t : Parts) (M : Moment) (h : Core (up k d t M)) (agree : UsedAgree (up k d t M)) where
  abbrev S : Seen
  S = let N = up k d t M in seen.with_sent h.0.0 N.seen

  abbrev mine : Node
  mine = record { number = k; disk = d; live = Some t }

  here : (let N = up k d t M in N.seen.nodes k) ≡ Some (record { number = k; disk = d; live = Some t })
  here = λ i. cond (same_number k i) (Some (record { number = k; disk = d; live = Some t })) (M.seen.nodes k)

  tree_is : IsTree (paths_of h.0.2.1.0.0.0)
  tree_is = acting.tree S h.0.2.1 k mine t here refl

  coord_is : IsGoodCoord h.0.2.1.0.0.0 (paths_of h.0.2.1.0.0.0) t.coord
  coord_is = acting.coord S h.0.2.1 k mine t here refl

  abbrev acc : List AskedOf
  acc = accepted_of M.past.askings

  -- a call or an include is asked, on an object
  module _ (l : Label) (b : Branch) (named : branch_named l t.coord ≡ Some b) (x : ℕ) (first : IsFirst M)
      (label : label_of M.past.event ≡ name l) (uses : object_used M.past.event ≡ Some x) where
    abbrev a : AskedOf
    a = asked_of M.past.run M.past.event

    n : IsNamed t.coord l b
    n = named_at t.coord (let names : HasNames t.coord = h.0.2.0.0.1 k mine t here refl in names) l b named

    stands : acting.Stands S h.0.2.1 k mine t here refl (let z = n in z.act) (let z = n in z.doing)
    stands = acting.stands S h.0.2.1 k mine t here refl n.act n.doing n.does

    branch_is : stands.branch ≡ b
    branch_is = some_is (sym stands.found ∙ n.found)

    path_is : a.path ≡ path (acts M.seen.lines) (name (let z = n in let y = z.doing in y.label))
    path_is = (λ i. path (acts (first i)) ((label ∙ sym n.name_is) i))

    uids_are : uids a.path ≡ uids_of b.path
    uids_are = ap uids path_is ∙ stands.path ∙ ap (λ (z : Branch). uids_of z.path) branch_is

    root_is : first_uid (uids a.path) ≡ root_of b.path
    root_is = ap first_uid uids_are

    root_is_own : is_own (root_of b.path) t.coord.tree ≡ true
    root_is_own = root_own h.0.2.1.0.0.0 (paths_of h.0.2.1.0.0.0) tree_is t.coord coord_is n.act b n.found

    rooted : AreRooted M.seen.lines (acc ++ a ∷ [])
    rooted = all_append (IsRooted M.seen.lines) acc (a ∷ []) agree.paths (
      (λ is.
          let r = root_there (acts M.seen.lines) (name (let z = n in let y = z.doing in y.label)) stands.act stands.named in
          (r.0, r.1, r.2, path_is ∙ r.3)),
      tt,
    )

    -- the root that has this number
    root_here : (q : ℕ) → (q == (root_of b.path).num) ≡ true → root_at_number t.coord.tree q ≡ root_of b.path
    root_here q is = own_is (root_at_number t.coord.tree q) (root_of b.path) t.coord.tree
        (λ i. same_number t.coord.tree.node i && same_number t.coord.tree.inc i) root_is_own (eqb-true q (root_of b.path).num is)

    on : (q : ℕ) → (q == (root_of b.path).num) ≡ true → is_rooted (root_at_number t.coord.tree q) a ≡ true
    on q is = (λ i. uid_eq (root_is i) (root_here q is i)) ∙ uid_same (root_of b.path)

    off : (q : ℕ) → (q == (root_of b.path).num) ≡ false → is_rooted (root_at_number t.coord.tree q) a ≡ false
    off q is = ap (λ u. uid_eq u (root_at_number t.coord.tree q)) root_is ∙ by (uid_eq (root_of b.path) (root_at_number t.coord.tree q)) refl
      where
        by : (z : Bool) → uid_eq (root_of b.path) (root_at_number t.coord.tree q) ≡ z → z ≡ false
        by false e = refl
        by true e = absurd (cc (sym (same_number q) ∙ ap (λ (u : Uid). q == u.num)
            (sym (uid_is (root_of b.path) (root_at_number t.coord.tree q) e)) ∙ is))

    its_used : HasUsed (acc ++ a ∷ []) (uses_object b.path x t.coord.tree)
    its_used q = by (q == (root_of b.path).num) refl
      where
        by : (z : Bool) → (q == (root_of b.path).num) ≡ z →
            objects_at q (uses_object b.path x t.coord.tree) ≡ used_in (root_at_number t.coord.tree q) (acc ++ a ∷ [])
        by true is = uses_there b.path x t.coord.tree q is ∙ ap (insert_number x) (own_used k d t M agree q)
            ∙ sym (its_root (root_at_number t.coord.tree q) acc a x (on q is) uses)
        by false is = uses_elsewhere b.path x t.coord.tree q is ∙ own_used k d t M agree q
            ∙ sym (other_root (root_at_number t.coord.tree q) acc a (off q is))

    -- other nodes have other roots
    apart_off : (j : ℕ) (m : Node) (s : Parts) → (j == k) ≡ false → M.seen.nodes j ≡ Some m → m.live ≡ Some s → (q : ℕ) →
        is_rooted (root_at_number s.coord.tree q) a ≡ false
    apart_off j m s apart there live q =
        ap (λ u. uid_eq u (root_at_number s.coord.tree q)) root_is ∙ by (uid_eq (root_of b.path) (root_at_number s.coord.tree q)) refl
      where
        its_node : s.coord.tree.node ≡ j
        its_node = acting.node_is S h.0.2.1 j m s ((λ i. cond (apart i) (Some (record { number = k; disk = d; live = Some t }))
            (M.seen.nodes j)) ∙ there) live

        root_node : (root_of b.path).node ≡ k
        root_node = eqb-true (root_of b.path).node t.coord.tree.node (and_parts ((root_of b.path).node == t.coord.tree.node)
            ((root_of b.path).inc == t.coord.tree.inc) root_is_own).0 ∙ acting.node_is S h.0.2.1 k mine t here refl

        by : (z : Bool) → uid_eq (root_of b.path) (root_at_number s.coord.tree q) ≡ z → z ≡ false
        by false e = refl
        by true e = absurd (cc (sym (same_number k) ∙ ap (λ i. i == k)
            (sym root_node ∙ ap (λ (u : Uid). u.node) (uid_is (root_of b.path) (root_at_number s.coord.tree q) e) ∙ its_node) ∙ apart))

    -- the coordinator goes on with the object used
    pub asked_walk : (v : Parts) (outs : List Effect) (N : Moment) → N.seen ≡ M.seen → accepted_of N.past.askings ≡ acc ++ a ∷ [] →
        v.coord.tree ≡ uses_object b.path x t.coord.tree → WalksWith UsedAgree k outs (UpWith UsedAgree k v) d N
    asked_walk v outs N same asked tree = walk k v outs d N (record {
      its = subst (λ xs. HasUsed xs v.coord.tree) (sym asked) (subst (HasUsed (acc ++ a ∷ [])) (sym tree) its_used);
      rest = λ j m s apart there live. subst (λ xs. HasUsed xs s.coord.tree) (sym asked) (λ q. agree.used j m s
          ((λ i. cond (apart i) (Some (record { number = k; disk = d; live = Some t })) (M.seen.nodes j))
          ∙ (λ i. (sym same i).nodes j) ∙ there) live q
          ∙ sym (other_root (root_at_number s.coord.tree q) acc a
          (apart_off j m s apart ((λ i. (sym same i).nodes j) ∙ there) live q)));
      paths = subst (AreRooted N.seen.lines) (sym asked) (subst (λ (z : Seen). AreRooted z.lines (acc ++ a ∷ [])) (sym same) rooted);
    })

  -- ---- inputs

  act_walk : (hd : Header) (i : Input) → is_act i ≡ true → Brings M.past.event i → IsFirst M → refusal_up hd i t.coord ≡ None →
      (let did = does i d.intents t.coord in
      WalksWith UsedAgree k did.outs (UpWith UsedAgree k (with_coord t did.part)) d (asks_now i t.coord M))
  act_walk hd (input.Call l x o) is brings first free = by (branch_named l t.coord) refl free
    where
      by : (f : Option Branch) → branch_named l t.coord ≡ f → refused_by (call_reasons hd x o) t.coord f ≡ None →
          (let did = on_branch (λ b. call b.path x o t.coord) t.coord f in
          WalksWith UsedAgree k did.outs (UpWith UsedAgree k (with_coord t did.part)) d (asks_now (input.Call l x o) t.coord M))
      by None named none = absurd (cc none)
      by (Some b) named none =
          let q = call_brings M.past.event l x o brings in
          let did = call b.path x o t.coord in
          let p = b.path in
          let r = root_at (root_of p) t.coord in
          let old = keeping_of x r in
          let s = call_steps p x o (next_req (actor p) t.coord) r t.coord (renewed (is_free (root_of p) (actor p) x t.coord) old old.kept) in
          asked_walk l b named x first q.0 q.1 (with_coord t did.part) did.outs (asks_now (input.Call l x o) t.coord M) refl refl
          (on_tree (actor s.path) (λ (z : Doing). record z { req = s.req; now = Calling s })
          (on_root (root_of p) (with_keeping x (renewed (is_free (root_of p) (actor p) x t.coord) old old.kept))
          (record t.coord { tree = uses_object p x t.coord.tree })))
  act_walk hd (input.Include l x m) is brings first free = by (branch_named l t.coord) refl free
    where
      by : (f : Option Branch) → branch_named l t.coord ≡ f → refused_by (include_reasons hd x) t.coord f ≡ None →
          (let did = on_branch (λ b. include b.path x m t.coord) t.coord f in
          WalksWith UsedAgree k did.outs (UpWith UsedAgree k (with_coord t did.part)) d (asks_now (input.Include l x m) t.coord M))
      by None named none = absurd (cc none)
      by (Some b) named none =
          let q = include_brings M.past.event l x m brings in
          let did = include b.path x m t.coord in
          let s = start b.path x (calls.Include m) None unbound (next_req (actor b.path) t.coord) in
          asked_walk l b named x first q.0 q.1 (with_coord t did.part) did.outs (asks_now (input.Include l x m) t.coord M) refl refl
          (on_tree (actor s.path) (λ (z : Doing). record z { req = s.req; now = Calling s })
          (record t.coord { tree = uses_object b.path x t.coord.tree }))
  act_walk hd (input.Commit l) is brings first free =
      let did = does (input.Commit l) d.intents t.coord in
      let a = asked_of M.past.run M.past.event in
      let q = commit_brings M.past.event l brings in
      walk k (with_coord t did.part) did.outs d (asks_now (input.Commit l) t.coord M) (record {
        its = λ z. like_used acc t.coord.tree did.part.tree (like (branch_named l t.coord)) (own_used k d t M agree) z
            ∙ sym (none_used (root_at_number did.part.tree z) acc a q.0);
        rest = λ j m s apart there live z. agree.used j m s
            ((λ i. cond (apart i) (Some (record { number = k; disk = d; live = Some t })) (M.seen.nodes j)) ∙ there) live z
            ∙ sym (none_used (root_at_number s.coord.tree z) acc a q.0);
        paths = all_append (IsRooted M.seen.lines) acc (a ∷ []) agree.paths ((λ e. absurd (cc (sym e ∙ q.1))), tt);
      })
    where
      like : (f : Option Branch) → IsLike t.coord.tree (let c = on_branch (λ b. commit_action b d.intents t.coord) t.coord f in
          let e = c.part in e.tree)
      like None = like_itself t.coord.tree
      like (Some b) = of_commit (IsLike t.coord.tree) (like_ended t.coord.tree) b d.intents t.coord
          (like_itself t.coord.tree)
  act_walk hd (input.Abort l) is brings first free = let did = does (input.Abort l) d.intents t.coord in
      like_walk k t (with_coord t did.part) did.outs d M (like (branch_named l t.coord)) agree
    where
      like : (f : Option Branch) → IsLike t.coord.tree (let c = on_branch (λ b. abort_action (actor b.path) d.intents t.coord) t.coord f in
          let e = c.part in e.tree)
      like None = like_itself t.coord.tree
      like (Some b) = of_all (IsLike t.coord.tree) (like_ended t.coord.tree)
          (open_below (actor b.path) t.coord.tree ++ actor b.path ∷ []) t.coord (like_itself t.coord.tree)
  act_walk hd (input.GiveUp l) is brings first free = let did = does (input.GiveUp l) d.intents t.coord in
      like_walk k t (with_coord t did.part) did.outs d M (like (branch_named l t.coord)) agree
    where
      like : (f : Option Branch) → IsLike t.coord.tree (let c = on_branch (λ b. give_up (actor b.path) d.intents t.coord) t.coord f in
          let e = c.part in e.tree)
      like None = like_itself t.coord.tree
      like (Some b) = of_give_up (IsLike t.coord.tree) (like_ended t.coord.tree) (actor b.path) d.intents t.coord
          (λ q s does now waits z it. like_doomed t.coord.tree (actor s.path) z it) (like_itself t.coord.tree)
  act_walk hd i is brings first free = absurd (cc is)

  -- a message
  handled : (v : Parts) (from : ℕ) (m : Words.Message) (outs : List Effect) → handle k d t from m ≡ Words.Took v outs →
      IsLike t.coord.tree v.coord.tree
  handled v from m outs is = subst (IsLeft (λ (c : Coord). IsLike t.coord.tree c.tree)) is
      (coord_kept (λ (c : Coord). IsLike t.coord.tree c.tree) k d t from (like_itself t.coord.tree)
      (λ a r. of_heard (IsLike t.coord.tree) (like_ended t.coord.tree) from a r d.intents t.coord
      (like_itself t.coord.tree))
      (λ u. subst (IsLike t.coord.tree) (sym (acked_tree from u d.intents t.coord)) (like_itself t.coord.tree)) m)

-- ---- a restart

pub ask_uses : (e : Event) → is_ask e ≡ false → object_used e ≡ None
ask_uses (event.Call l x o) is = absurd (cc is)
ask_uses (event.Include l x n) is = absurd (cc is)
ask_uses e is = refl

-- a root of which nothing was asked has used nothing
none_rooted : (r : Uid) (acc : List AskedOf) → AllByRecursion (λ (a : AskedOf). is_ask a.event ≡ true → is_rooted r a ≡ false) acc →
    used_in r acc ≡ []
none_rooted r [] all = refl
none_rooted r (a ∷ acc) all = ap (λ used. Used.used_from r used acc) (by (is_ask a.event) refl) ∙ none_rooted r acc all.1
  where
    either : (b : Bool) → ◌≡◌ {A = List ℕ} (cond b [] []) []
    either true = refl
    either false = refl

    by : (b : Bool) → is_ask a.event ≡ b → Used.used_step r a [] ≡ []
    by true is = ap (λ z. cond z (with_object [] (object_used a.event)) []) (all.0 is)
    by false is = (λ i. cond (is_rooted r a) (with_object [] (ask_uses a.event is i)) []) ∙ either (is_rooted r a)

module _ (k : ℕ) (d : Disk) (M : Moment) (h : Core (moments.down k d M)) (agree : UsedAgree (moments.down k d M)) where
  abbrev Z : Seen
  Z = let N = moments.down k d M in seen.with_sent h.0.0 N.seen

  new_root : (q : ℕ) → used_in (record { node = k; inc = d.inc + 1; num = q }) (accepted_of M.past.askings) ≡ []
  new_root q = none_rooted (record { node = k; inc = d.inc + 1; num = q }) (accepted_of M.past.askings)
      (each (accepted_of M.past.askings) agree.paths)
    where
      u : Uid
      u = record { node = k; inc = d.inc + 1; num = q }

      none : (a : Act) → In a (acts M.seen.lines) → uid_eq a.uid (record { node = k; inc = d.inc + 1; num = q }) ≡ false
      none a i = by (uid_eq a.uid (record { node = k; inc = d.inc + 1; num = q })) refl
        where
          written : IsWritten Z
          written = h.0.2.1.0.1

          counts : (count : ℕ) × AllByRecursion (λ (x : Act). IsCounted k d.inc count x.uid) (let B = book M.seen.lines in B.acts)
          counts = let p = written.nodes k (record { number = k; disk = d; live = None })
              (λ j. cond (same_number k j) (Some (record { number = k; disk = d; live = None })) (M.seen.nodes k)) in p.counts

          counted : IsCounted k d.inc counts.0 a.uid
          counted = all_in (λ (x : Act). IsCounted k d.inc counts.0 x.uid) (let B = book M.seen.lines in B.acts) counts.1 a
              (subst (In a) (sym (its_acts M.seen.lines written.right)) i)

          high : (m : ℕ) → m ≡ d.inc + 1 → (m < d.inc) ⊎ ((m ≡ d.inc) × ((let w = a.uid in w.num) ≤ counts.0)) → ⊥
          high m is (inl low) = omega (arith, is, low)
          high m is (inr same) = let e = same.0 in omega (arith, is, e)

          by : (b : Bool) → uid_eq a.uid (record { node = k; inc = d.inc + 1; num = q }) ≡ b → b ≡ false
          by false e = refl
          by true e = let same = uid_is a.uid (record { node = k; inc = d.inc + 1; num = q }) e in
              absurd (high (let w = a.uid in w.inc) (ap (λ (w : Uid). w.inc) same) (counted (ap (λ (w : Uid). w.node) same)))

      each : (xs : List AskedOf) → AreRooted M.seen.lines xs → AllByRecursion (λ (a : AskedOf). is_ask a.event ≡ true →
          is_rooted (record { node = k; inc = d.inc + 1; num = q }) a ≡ false) xs
      each [] all = tt
      each (a ∷ xs) all = (
        (λ is. let r = all.0 is in
            ap (λ us. uid_eq (first_uid (uids us)) (record { node = k; inc = d.inc + 1; num = q })) r.3 ∙ none r.0 r.1),
        each xs all.1,
      )

-- ---- every handler

-- what is known, and that objects agree
abbrev pub All : Moment → Type 0
All M = Core M × UsedAgree M

all_step : (hd : Header) → KeepsSteps hd All
all_step hd = let core = core_keep hd in let steps = core.steps in record {
  quiet = λ bs M plain h. (
    steps.quiet bs M plain h.0,
    record { used = h.1.used; paths = rooted_more M.seen.lines (numbered M.past.number bs) (accepted_of M.past.askings) h.1.paths },
  );
  junk = λ n M fit h. (
    steps.junk n M fit h.0,
    record {
      used = h.1.used;
      paths = rooted_more M.seen.lines (numbered M.past.number (body.Sent (M.past.frames + 1) 0 n frame.Junk ∷ []))
          (accepted_of M.past.askings) h.1.paths;
    },
  );
  stop = λ k d live M h. (steps.stop k d live M h.0, stopped_used k d live M h.1);
  message = λ k d t v from m outs M h there meant may is. both k outs v d M (steps.message k d t v from m outs M h.0 there meant may is)
      (like_walk k t v outs d M (handled k d t M h.0 h.1 v from m outs is) h.1);
  act = λ k d t i M is brings first asks free h. let did = does i d.intents t.coord in
      both k did.outs (with_coord t did.part) d (asks_now i t.coord M) (steps.act k d t i M is brings first asks free h.0)
      (act_walk k d t M h.0 h.1 hd i is brings first free);
  begin = λ k d t l how parent M brings first new gives none h.
      let did = begin_action l how parent (parent_of parent t.coord) t.coord in
      let N = given l (record { node = k; serial = is_serial how }) M in
      both k did.outs (with_coord t did.part) d N (steps.begin k d t l how parent M brings first new gives none h.0)
      (like_walk k t (with_coord t did.part) did.outs d N
      (like_begun t.coord.tree how (path_below how (parent_of parent t.coord) (next_uid t.coord.tree)) t.coord.tree
      (like_itself t.coord.tree)) (record { used = h.1.used; paths = h.1.paths }));
  tick = λ k d t M h.
      let r = again_all t.coord.doings t.coord in
      let outs = tick_outs (record { number = k; disk = d; live = Some t }) t in
      both k outs (with_coord t r.part) d M (steps.tick k d t M h.0)
      (like_walk k t (with_coord t r.part) outs d M
      (subst (IsLike t.coord.tree) (sym (again_tree t.coord.doings t.coord)) (like_itself t.coord.tree)) h.1);
  restart = λ k d M event first h. let v = parts_in k (d.inc + 1) d in
      both k (restart_outs hd k (d.inc + 1) d) v d M (steps.restart k d M event first h.0)
      (walk k v (restart_outs hd k (d.inc + 1) d) d M (carried_of k d None v M (λ q. sym (new_root k d M h.0 h.1 q)) h.1));
}
  where
    stopped_used : (k : ℕ) (d : Disk) (live : Option Parts) (M : Moment) → UsedAgree (at k d live M) → UsedAgree (halted k d M)
    stopped_used k d live M h = record {
      used = λ j n t there up. by j n t up (j == k) refl there;
      paths = rooted_more M.seen.lines (numbered M.past.number (body.Halted k ∷ [])) (accepted_of M.past.askings) h.paths;
    }
      where
        by : (j : ℕ) (n : Node) (t : Parts) → n.live ≡ Some t → (b : Bool) → (j == k) ≡ b →
            cond b (Some (record { number = k; disk = d; live = None })) (M.seen.nodes j) ≡ Some n →
            HasUsed (accepted_of M.past.askings) t.coord.tree
        by j n t up true at there = let same = some_is there in
            let no_way : ◌≡◌ {A = Option Parts} None (Some t) = ap (λ (z : Node). z.live) same ∙ up in absurd (cc no_way)
        by j n t up false apart there = h.used j n t
            ((λ i. cond (apart i) (Some (record { number = k; disk = d; live = live })) (M.seen.nodes j)) ∙ there) up

    both : (k : ℕ) (outs : List Effect) (v : Parts) (d : Disk) (M : Moment) → WalksWith Core k outs (UpWith Core k v) d M →
        WalksWith UsedAgree k outs (UpWith UsedAgree k v) d M → WalksWith All k outs (UpWith All k v) d M
    both k outs v d M a b = with_both Core UsedAgree k outs (UpWith Core k v) (UpWith UsedAgree k v) d M a b

pub all_keep : (hd : Header) → KeepsAll hd All
all_keep hd = let core = core_keep hd in record {
  opens = λ e M first number h. (core.opens e M first number h.0, record { used = h.1.used; paths = h.1.paths });
  closes = λ bodies M number lines h. (core.closes bodies M number lines h.0, record { used = h.1.used; paths = h.1.paths });
  steps = all_step hd;
  first = λ st formed. (
    core.first st formed,
    record {
      used = λ j n t there live. subst (λ (x : Parts). HasUsed [] x.coord.tree) (first_up hd st j n t there live) (λ q. refl);
      paths = tt;
    },
  );
}
