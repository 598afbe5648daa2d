-- A vote has at most 16 states: what a top has written is of objects that its root uses, and a root uses no more.
use Rattle.arj_law_parts.proofs.Words
use Words.{⊎_elim, ◌⊎◌, ◌≡◌, ◌≤◌, ◌<◌, ◌∙◌, ◌+◌, ◌==◌, ◌++◌, ◌&&◌, arith, ℕ, Bool, true, false, cond, List, [], ◌∷◌, length, length-map, map, refl}
use Words.{sym, ap, subst, inl, inr, ⊤, Option, Some, None, option_map, filter_map, cons_option, AllByRecursion, and_parts, eqb-true, uid_same}
use Words.{in_to, Ask, Asked, Head, Header, Message, ObjectState, Uid, first_uid, is_on}
use Words.{uid_eq, uids_of, Reply, actor, answers, again_all, begin_action, is_serial, tick_outs, At, AtActivate, AtBind, AtInvoke, AtLoad}
use Words.{AtNote, Goal, Steps, ask_at, Calling, Coord, Doing, doing_of, Copy, Over, changed_state, over_of, state_over}
use Words.{changed_states, Server, Disk, Do, Effect, Say, Send, stopped, worked, acts, parent_of, parts_in}
use Words.{restart_outs, heard, acked, answer_query, Parts, with_coord, has, Tree}
use Words.{is_own, root_of, Node, node_by, Start, Post, Seen, ◌||◌}
use Words.list
use Words.voted
use Rattle.arj_law_promise.proofs.Terms
use Terms.{Action, paths_of, AllSo, In, IsAsking, IsBusy, IsGood, IsGoodCoord, IsSentBy, IsUp, IsUsedIn}
use Terms.{IsMemory, KeepsAsked, Up, Walks, at, disk_by, down, first_at, given, good_coord, it, keyed_found, posted}
use Terms.{restart_silent, said, some_is, up, walks_both}
use Rattle.arj_law_promise.proofs.meant.Posts.{act_sends, end_of, message_sends, tick_sends}
use Rattle.arj_law_promise.proofs.waiting
use waiting.AskedEffects.{acked_quiet, acts_quiet, heard_quiet, query_quiet, tick_quiet}
use waiting.Serving.{quiet_silent, restart_asks}
use Rattle.arj_law_parts.proofs.moves.EachNode as at_each
use Rattle.arj_law_parts.proofs.parts.Begun.{path_some}
use Rattle.arj_law_parts.specs.parts.{AskedObjects.IsNowOf, Servers.IsGoodServer}
use Rattle.arj_law_runs.proofs.calls.CoordKnown.{root_own}
use Rattle.arj_law_runs.proofs.calls.CoordSends.{asked_call, call_bare}
use Rattle.arj_law_runs.proofs.calls.WorldVotes.{asker_of, fits_asked, voted_over}
use Rattle.arj_law_runs.proofs.kept.Handled.{counted_of, one_agrees, one_tree}
use Rattle.arj_law_runs.specs.calls.Calls.{Call, call_in, call_of}
use Rattle.arj_law_runs.specs.calls.Worlds.{AreKeyed}
use Rattle.arj_law_runs.specs.coordinators.Rooms.{AreFewObjects, AreRising, HasRoom, objects_at}
use Rattle.arj_law_cause.proofs.spelled.Called.{AllVoteSo, AreCalled, By, IsCalledOver, IsUnder, called_more}
use Rattle.arj_law_cause.proofs.spelled.Called.{message_calls, silent_vote}
use Rattle.arj_law_cause.proofs.spelled.Grown.{BecomesSo, acts_become, again_become, begins_become, message_becomes}
use Rattle.arj_law_cause.proofs.spelled.Lists.{few_among}

-- ---- what is so

-- the object was called by a path of this root
pub record IsCalled (sent : List Post) (root : Uid) (x : ℕ) : Type 0 where
  pub post : Post
  pub call : Call
  pub posted : In post sent
  pub asked : call_of post.message ≡ Some call
  pub root_is : root_of (let h = call.head in h.path) ≡ root
  pub object : call.x ≡ x

-- few objects were called by paths of the root
abbrev pub HasFewCalled : List Post → Uid → Type 0
HasFewCalled sent root = (xs : List ℕ) × AreFewObjects xs × ((x : ℕ) → IsCalled sent root x → has xs x ≡ true)

-- what was called by paths of a coordinator's roots these use
abbrev pub UsesCalled : List Post → Coord → Type 0
UsesCalled sent c = (root : Uid) (x : ℕ) → is_own root c.tree ≡ true → IsCalled sent root x → IsUsedIn c.tree root.num x

abbrev pub NodeCalled : List Post → Node → Type 0
NodeCalled sent n = (t : Parts) → n.live ≡ Some t → UsesCalled sent t.coord × AreCalled sent t.server

-- a vote of this message has few states
abbrev pub IsVotedFew : Message → Type 0
IsVotedFew m = (a : Asked) (states : List ObjectState) → answers m ≡ Some (a, Reply.Voted (voted.Yes states)) → length states ≤ 16

-- a vote that is sent has few states
abbrev SendsFew : Effect → Type 0
SendsFew (Send to m) = IsVotedFew m
SendsFew (Say b) = ⊤
SendsFew (Do w) = ⊤

abbrev pub VotesAreFew : Seen → Type 0
VotesAreFew M = ((root : Uid) → HasFewCalled M.sent root) × at_each.Each (NodeCalled M.sent) M
    × ((p : Post) → In p M.sent → IsVotedFew p.message)

-- ---- how many states a vote has

abbrev nums : List ObjectState → List ℕ
nums states = map (λ (st : ObjectState). st.uid.num) states

abbrev states_of : Uid → List (ℕ × Copy) → List ObjectState
states_of top m = filter_map (λ (e : ℕ × Copy). changed_state top e.0 e.1) m

above_states : (top : Uid) (k : ℕ) (m : List (ℕ × Copy)) → AllByRecursion (λ (e : ℕ × Copy). k < e.0) m →
    AllByRecursion (λ (n : ℕ). k < n) (nums (states_of top m))
above_states top k [] all = tt
above_states top k (e ∷ es) all = by (over_of top (let c = e.1 in c.stack)) (above_states top k es all.1)
  where
    by : (o : Option Over) → AllByRecursion (λ (n : ℕ). k < n) (nums (states_of top es)) →
        AllByRecursion (λ (n : ℕ). k < n) (nums (cons_option (option_map (state_over top e.0 e.1) o) (states_of top es)))
    by None ih = ih
    by (Some x) ih = (all.0, ih)

rising_states : (top : Uid) (m : List (ℕ × Copy)) → AreKeyed m → AreRising (nums (states_of top m))
rising_states top [] keyed = tt
rising_states top (e ∷ es) keyed = by (over_of top (let c = e.1 in c.stack)) (rising_states top es keyed.1)
  where
    by : (o : Option Over) → AreRising (nums (states_of top es)) →
        AreRising (nums (cons_option (option_map (state_over top e.0 e.1) o) (states_of top es)))
    by None ih = ih
    by (Some x) ih = (above_states top e.0 es keyed.0, ih)

each_num : (P : ℕ → Type 0) (states : List ObjectState) → ((st : ObjectState) → list.In st states → P st.uid.num) →
    AllByRecursion P (nums states)
each_num P [] each = tt
each_num P (st ∷ states) each = (each st (inl refl), each_num P states (λ z i. each z (inr i)))

one_of : {A : Type 0} (P : A → Type 0) (xs : List A) → AllByRecursion P xs → (a : A) → list.In a xs → P a
one_of P [] all a i = absurd i
one_of P (x ∷ xs) all a (inl is) = subst P is all.0
one_of P (x ∷ xs) all a (inr i) = one_of P xs all.1 a i

-- a path has a first Uid
path_first : (acts : List Action) (u : Uid) → 1 ≤ length (paths_of acts u)
path_first [] u = omega arith
path_first (a ∷ acts) u = by (uid_eq (actor a.path) u) (path_first acts u)
  where
    by : (b : Bool) → 1 ≤ length (paths_of acts u) → 1 ≤ length (cond b (uids_of a.path) (paths_of acts u))
    by true ih = path_some a.path
    by false ih = ih

first_is : (us vs : List Uid) → 1 ≤ length us → first_uid (us ++ vs) ≡ first_uid us
first_is [] vs some = absurd (omega (arith, some))
first_is (u ∷ us) vs some = refl

module _ (begun : List Action) (sent : List Post) (s : Server) (called : AreCalled sent s) (good : IsGoodServer (paths_of begun) s) where
  few_states : (top : Uid) → HasFewCalled sent (first_uid (paths_of begun top)) → length (changed_states top s) ≤ 16
  few_states top few =
      let r = few.1 in
      let least = few_among few.0 (nums (changed_states top s)) r.1 (rising_states top s.objects called.1)
      (each_num (λ n. has few.0 n ≡ true) (changed_states top s) used) in
      let same = length-map {A = ObjectState} {B = ℕ} (changed_states top s) (λ (st : ObjectState). st.uid.num) in
      let most = r.0 in
      omega (arith, least, same, most)
    where
      used : (st : ObjectState) → list.In st (changed_states top s) → has few.0 st.uid.num ≡ true
      used st i =
          let v = voted_over top s called.1 st i in
          let c = good.copies v.0 v.1 v.3 in
          let holder : (let o = v.2 in o.holder) ≡ paths_of begun top
          = c.overs v.2 (in_to v.2 (let z = v.1 in z.stack) v.4) ∙ ap (paths_of begun) v.5 in
          let under = one_of (λ (o : Over). IsUnder sent v.0 o.holder) (let z = v.1 in z.stack)
          (keyed_found (IsCalledOver sent) v.0 s.objects v.1 called.0 v.3) v.2 v.4 in
          subst (λ x. has few.0 x ≡ true) (sym v.6) (few.2 v.0 (record {
            post = under.post;
            call = under.call;
            posted = under.posted;
            asked = under.asked;
            root_is = ap first_uid (under.path ∙ ap (λ us. us ++ under.rest) holder)
                ∙ first_is (paths_of begun top) under.rest (path_first begun top);
            object = under.object;
          }))

  few_votes : ((root : Uid) → HasFewCalled sent root) → (outs : List Effect) → AllVoteSo s outs →
      AllByRecursion SendsFew outs
  few_votes few [] all = tt
  few_votes few (Say b ∷ es) all = (tt, few_votes few es all.1)
  few_votes few (Do w ∷ es) all = (tt, few_votes few es all.1)
  few_votes few (Send to m ∷ es) all = (
    λ a states is. let v = all.0 a (Reply.Voted (voted.Yes states)) is in
        subst (λ (ss : List ObjectState). length ss ≤ 16) (sym v.1) (few_states v.0 (few (first_uid (paths_of begun v.0)))),
    few_votes few es all.1,
  )

-- ---- a call that is sent

-- its root is the coordinator's own, and uses the object
abbrev IsOwnCall : Coord → Call → Type 0
IsOwnCall c q = (is_own (root_of (let h = q.head in h.path)) c.tree ≡ true) × IsUsedIn c.tree (root_of (let h = q.head in h.path)).num q.x

abbrev SendsOwn : Coord → Effect → Type 0
SendsOwn c (Send to m) = (q : Call) → call_of m ≡ Some q → IsOwnCall c q
SendsOwn c (Say b) = ⊤
SendsOwn c (Do w) = ⊤

-- only an Invoke is one, of the object of the call
call_object : (x : ℕ) (g : Goal) (at : At) (h : Head) (q : Call) → call_in h (ask_at x g [] at) ≡ Some q → q.x ≡ x
call_object x g (AtInvoke k i) h q is = ap (λ (z : Call). z.x) (sym (some_is is))
call_object x g (AtBind avoid) h q is = let no_way : ◌≡◌ {A = Option Call} None (Some q) = is in absurd (cc no_way)
call_object x g (AtLoad k s rest) h q is = let no_way : ◌≡◌ {A = Option Call} None (Some q) = is in absurd (cc no_way)
call_object x g (AtActivate k st) h q is = let no_way : ◌≡◌ {A = Option Call} None (Some q) = is in absurd (cc no_way)
call_object x g (AtNote k i) h q is = let no_way : ◌≡◌ {A = Option Call} None (Some q) = is in absurd (cc no_way)

module _ (e k : ℕ) (d : Disk) (t : Parts) (M : Seen) (good : IsGood (up k d t M)) where
  abbrev begun : List Action
  begun = good.0

  coord_is : IsGoodCoord begun (paths_of begun) t.coord
  coord_is = good_coord e k d t M good

  its_up : IsUp begun M.sent M.labels k d.inc t
  its_up = it e k d t M good

  server_is : IsGoodServer (paths_of begun) t.server
  server_is = let n = its_up.good (paths_of begun) (one_tree e k d t M good) (one_agrees e k d t M good) in n.server

  own_call : (to : ℕ) (h : Head) (a : Ask) → IsSentBy t.coord to h a → (q : Call) → call_in h a ≡ Some q → q.head ≡ h → IsOwnCall t.coord q
  own_call to h a s q is head =
      let w = s.call q is in
      let o = s.step w.0 w.1 in
      let busy : IsAsking t.coord.tree (actor h.path) (let z = w.0 in z.path) = subst (IsBusy t.coord.tree (actor h.path)) w.1
      (coord_is.busy (actor h.path) s.doing s.found) in
      let own = root_own begun (paths_of begun) (one_tree e k d t M good) t.coord coord_is (actor h.path) busy.branch busy.found in
      let path : (let z = w.0 in z.path) ≡ (let z = q.head in z.path) = sym (ap (λ (z : Head). z.path) (head ∙ o.head)) in
      let used : IsUsedIn t.coord.tree (root_of (let z = w.0 in z.path)).num (let z = w.0 in z.x) = objects_at_work w.0 s.doing s.found w.1 in (
        subst (λ p. is_own (root_of p) t.coord.tree ≡ true) (busy.path ∙ path) own,
        subst (λ x. IsUsedIn t.coord.tree (root_of (let z = q.head in z.path)).num x)
            (sym (call_object (let z = w.0 in z.x) (let z = w.0 in z.goal) (let z = w.0 in z.at) h q
            (ap (call_in h) (sym o.same) ∙ call_bare h a ∙ is)))
            (subst (λ p. IsUsedIn t.coord.tree (root_of p).num (let z = w.0 in z.x)) path used),
      )
    where
      objects_at_work : (w : Steps) (q : Doing) → doing_of (actor h.path) t.coord ≡ Some q → q.now ≡ Calling w →
          IsUsedIn t.coord.tree (root_of w.path).num w.x
      objects_at_work w q found now = let o = its_up.objects in subst (IsNowOf t.coord.tree) now (o.works (actor h.path) q found)

  own_calls : (outs : List Effect) → AllSo t.coord outs → AllByRecursion (SendsOwn t.coord) outs
  own_calls [] all = tt
  own_calls (Say b ∷ es) all = (tt, own_calls es all.1)
  own_calls (Do w ∷ es) all = (tt, own_calls es all.1)
  own_calls (Send to m ∷ es) all = (
    λ q is. let c = asked_call m q is in own_call to (let z = q in z.head) c.0 (all.0 (let z = q in z.head) c.0 c.1) q c.2 refl,
    own_calls es all.1,
  )

-- ---- a node's effects

abbrev OthersCalled : ℕ → List Post → (ℕ → Option Node) → Type 0
OthersCalled k sent nodes = (j : ℕ) (n : Node) → (j == k) ≡ false → nodes j ≡ Some n → NodeCalled sent n

-- other nodes have trees of their own
abbrev OthersAtHome : ℕ → (ℕ → Option Node) → Type 0
OthersAtHome k nodes = (j : ℕ) (n : Node) (t : Parts) → (j == k) ≡ false → nodes j ≡ Some n → n.live ≡ Some t → t.coord.tree.node ≡ j

-- so much is so along a node's effects
record Along (k : ℕ) (v : Parts) (sent : List Post) (nodes : ℕ → Option Node) : Type 0 where
  few : (root : Uid) → HasFewCalled sent root
  uses : UsesCalled sent v.coord
  server : AreCalled sent v.server
  others : OthersCalled k sent nodes
  votes : (p : Post) → In p sent → IsVotedFew p.message

module _ (e k : ℕ) (v : Parts) (room : HasRoom v.coord.tree) (home : v.coord.tree.node ≡ k) where
  own_node : (root : Uid) (t : Tree) → is_own root t ≡ true → root.node ≡ t.node
  own_node root t own = eqb-true root.node t.node (and_parts (root.node == t.node) (root.inc == t.inc) own).0

  -- one more message
  module _ (p : Post) (sent : List Post) (nodes : ℕ → Option Node) (mine : (q : Call) → call_of p.message ≡ Some q → IsOwnCall v.coord q)
      (few_too : IsVotedFew p.message) (homes : OthersAtHome k nodes) (g : Along k v sent nodes) where
    -- it is this call, or an earlier one
    new_or_old : (root : Uid) (x : ℕ) → IsCalled (p ∷ sent) root x →
        ((q : Call) × IsOwnCall v.coord q × (root_of (let h = q.head in h.path) ≡ root) × (q.x ≡ x)) ⊎ IsCalled sent root x
    new_or_old root x c = ⊎_elim
        (λ (same : p ≡ c.post). inl (c.call, mine c.call (ap (λ (z : Post). call_of z.message) same ∙ c.asked), c.root_is, c.object))
        (λ old. inr (record { post = c.post; call = c.call; posted = old; asked = c.asked; root_is = c.root_is; object = c.object }))
        c.posted

    uses_more : UsesCalled (p ∷ sent) v.coord
    uses_more root x own c = ⊎_elim
        (λ (q : (q : Call) × IsOwnCall v.coord q × (root_of (let h = q.head in h.path) ≡ root) × (q.x ≡ x)).
        subst (λ y. IsUsedIn v.coord.tree root.num y) q.3 (subst (λ (u : Uid). IsUsedIn v.coord.tree u.num (let z = q.0 in z.x)) q.2
        (let o = q.1 in o.1)))
        (λ old. g.uses root x own old) (new_or_old root x c)

    few_more : (root : Uid) → HasFewCalled (p ∷ sent) root
    few_more root = by (is_own root v.coord.tree) refl
      where
        by : (b : Bool) → is_own root v.coord.tree ≡ b → HasFewCalled (p ∷ sent) root
        by true own = (objects_at root.num v.coord.tree, room.objects root.num, λ x c. uses_more root x own c)
        by false apart = let f = g.few root in (
          f.0,
          f.1,
          λ x c. ⊎_elim
              (λ (q : (q : Call) × IsOwnCall v.coord q × (root_of (let h = q.head in h.path) ≡ root) × (q.x ≡ x)).
              let no_way : true ≡ false = sym (subst (λ (u : Uid). is_own u v.coord.tree ≡ true) q.2 (let o = q.1 in o.0)) ∙ apart in
              absurd (cc no_way))
              (λ old. f.2 x old) (new_or_old root x c),
        )

    others_more : OthersCalled k (p ∷ sent) nodes
    others_more j n apart at t live = let o = g.others j n apart at t live in (
      λ root x own c. ⊎_elim
          (λ (q : (q : Call) × IsOwnCall v.coord q × (root_of (let h = q.head in h.path) ≡ root) × (q.x ≡ x)).
          absurd (never (sym (homes j n t apart at live) ∙ sym (own_node root t.coord.tree own)
          ∙ own_node root v.coord.tree (subst (λ (u : Uid). is_own u v.coord.tree ≡ true) q.2 (let m = q.1 in m.0)) ∙ home)))
          (λ old. o.0 root x own old) (new_or_old root x c),
      called_more p sent t.server o.1,
    )
      where
        never : j ≡ k → ⊥
        never same = let no_way : true ≡ false = sym (same_test k) ∙ ap (λ m. m == k) (sym same) ∙ apart in cc no_way
          where
            same_test : (m : ℕ) → (m == m) ≡ true
            same_test m = grind arith

    more : Along k v (p ∷ sent) nodes
    more = record {
      few = few_more;
      uses = uses_more;
      server = called_more p sent v.server g.server;
      others = others_more;
      votes = λ q. ⊎_elim (λ same. subst (λ (z : Post). IsVotedFew z.message) same few_too) (λ old. g.votes q old);
    }

  walk : (outs : List Effect) (d : Disk) (M : Seen) → AllByRecursion (SendsOwn v.coord) outs → AllByRecursion SendsFew outs →
      OthersAtHome k M.nodes → Along k v M.sent M.nodes → Walks VotesAreFew e k outs (Up VotesAreFew k v) d M
  walk [] d M own few homes g = (
    g.few,
    at_each.back (NodeCalled M.sent) k d (Some v) M (λ t is. subst (λ (z : Parts). UsesCalled M.sent z.coord × AreCalled M.sent z.server)
        (some_is is) (g.uses, g.server)) g.others,
    g.votes,
  )
  walk (Do w ∷ es) d M own few homes g = (
    λ how. (
      g.few,
      at_each.back (NodeCalled M.sent) k (stopped how w d) None M (λ t is. none_is is) g.others,
      g.votes,
    ),
    walk es (worked w d) M own.1 few.1 homes g,
  )
    where
      none_is : {t : Parts} {P : Type 0} → None ≡ Some t → P
      none_is {t} is = let no_way : ◌≡◌ {A = Option Parts} None (Some t) = is in absurd (cc no_way)
  walk (Say b ∷ es) d M own few homes g = walk es d (said e (b ∷ []) M) own.1 few.1 homes g
  walk (Send to m ∷ es) d M own few homes g = λ lines quiet.
      walk es d (said e lines (posted (record { from = k; to = to; message = m }) M)) own.1 few.1 homes
      (more (record { from = k; to = to; message = m }) M.sent M.nodes own.0 few.0 homes g)

-- ---- in every run

module _ (hd : Header) (R : Seen → Type 0) (keeps : KeepsAsked hd R) (good : (M : Seen) → R M → IsGood M)
    (room : (k : ℕ) (d : Disk) (t : Parts) (M : Seen) → R (up k d t M) → HasRoom t.coord.tree) where
  homes : (k : ℕ) (d : Disk) (live : Option Parts) (M : Seen) → R (at k d live M) → OthersAtHome k M.nodes
  homes k d live M r j n t apart at_j up_j =
      let g = good (at k d live M) r in
      let w = g.1 in
      let p = w.places j n ((λ i. cond (apart i) (Some (record { number = k; disk = d; live = live })) (M.nodes j)) ∙ at_j) in
      let u : IsUp g.0 M.sent M.labels j n.disk.inc t = subst (IsMemory g.0 M.sent M.labels j n.disk.inc) up_j p.memory in
      u.node

  -- a node goes on with these parts
  go : (e k : ℕ) (v : Parts) (outs : List Effect) (d : Disk) (M : Seen) → Walks R e k outs (Up R k v) d M → AllSo v.coord outs →
      OthersAtHome k M.nodes → UsesCalled M.sent v.coord → AreCalled M.sent v.server → AllVoteSo v.server outs →
      ((root : Uid) → HasFewCalled M.sent root) → OthersCalled k M.sent M.nodes → ((p : Post) → In p M.sent → IsVotedFew p.message) →
      Walks (λ N. R N × VotesAreFew N) e k outs (Up (λ N. R N × VotesAreFew N) k v) d M
  go e k v outs d M walked so at_home uses called vote few others votes =
      let z = end_of R e k v outs d M walked in
      let b = good (up k z.0 v z.1) z.2 in
      walks_both R VotesAreFew e k outs (Up R k v) (Up VotesAreFew k v) d M walked
      (walk e k v (room k z.0 v z.1 z.2) (let u = its_up e k z.0 v z.1 b in u.node) outs d M (own_calls e k z.0 v z.1 b outs so)
      (few_votes b.0 M.sent v.server called (server_is e k z.0 v z.1 b) few outs vote) at_home
      (record { few = few; uses = uses; server = called; others = others; votes = votes }))

  -- what goes on uses what it used
  uses_on : (sent : List Post) (c f : Coord) → BecomesSo c.tree f.tree → UsesCalled sent c → UsesCalled sent f
  uses_on sent c f b uses root x own called = b.uses root.num x (uses root x (own_before own) called)
    where
      own_before : is_own root f.tree ≡ true → is_own root c.tree ≡ true
      own_before is = (λ i. (root.node == sym b.node i) && (root.inc == sym b.inc i)) ∙ is

  its : (k : ℕ) (d : Disk) (t : Parts) (M : Seen) → VotesAreFew (up k d t M) → UsesCalled M.sent t.coord × AreCalled M.sent t.server
  its k d t M all = at_each.own (NodeCalled M.sent) k d (Some t) M all.1 t refl

  others : (k : ℕ) (d : Disk) (live : Option Parts) (M : Seen) → VotesAreFew (at k d live M) → OthersCalled k M.sent M.nodes
  others k d live M all = at_each.others (NodeCalled M.sent) k d live M all.1

  -- nobody has called by a root of an incarnation to come
  none_anew : (k : ℕ) (d : Disk) (M : Seen) → R (down k d M) → UsesCalled M.sent (let v = parts_in k (d.inc + 1) d in v.coord)
  none_anew k d M r root x own c =
      let g = good (down k d M) r in
      let w = g.1 in
      let q = asked_call (let p = c.post in p.message) c.call c.asked in
      let asker = asker_of g.0 (let z = c.call in z.head) q.0
      (fits_asked g.0 (let p = c.post in p.message) (let z = c.call in z.head) q.0 q.1 (w.fits c.post c.posted)) in
      let count = counted_of k d None M g in
      let on : is_on (uids_of (let a = asker.0 in a.path)) root ≡ true
      = subst (λ p. is_on (uids_of p) root ≡ true) (sym asker.2)
      (subst (λ u. is_on (uids_of (let h = (let z = c.call in z.head) in h.path)) u ≡ true) c.root_is
      (first_on (uids_of (let h = (let z = c.call in z.head) in h.path)) (path_some (let h = (let z = c.call in z.head) in h.path)))) in
      let both = and_parts (root.node == k) (root.inc == (d.inc + 1)) own in
      absurd (⊎_elim (late root.inc (eqb-true root.inc (d.inc + 1) both.1))
      (λ now. late_too root.inc (eqb-true root.inc (d.inc + 1) both.1) now.0)
      (count.1 asker.0 root asker.1 on (eqb-true root.node k both.0)))
    where
      first_on : (us : List Uid) → 1 ≤ length us → is_on us (first_uid us) ≡ true
      first_on [] some = absurd (omega (arith, some))
      first_on (u ∷ us) some = first (uid_eq u u) (uid_same u)
        where
          first : (b : Bool) → b ≡ true → (b || is_on us u) ≡ true
          first true same = refl
          first false same = absurd (cc same)

      late : (i : ℕ) → i ≡ d.inc + 1 → i < d.inc → ⊥
      late i same less = omega (arith, same, less)

      late_too : (i : ℕ) → i ≡ d.inc + 1 → i ≡ d.inc → ⊥
      late_too i same less = omega (arith, same, less)

  pub votes_keep : KeepsAsked hd (λ M. R M × VotesAreFew M)
  votes_keep = record {
    quiet = λ e bs M quiet g. (keeps.quiet e bs M quiet g.0, g.1);
    stop = λ e k d live M g. (
      keeps.stop e k d live M g.0,
      (let all = g.1 in (all.0, at_each.back (NodeCalled M.sent) k d None M (λ t is. absurd (cc is)) (others k d live M all), all.2)),
    );
    message = λ e k d t v from m outs M g there meant is.
        let b = good (up k d t M) g.0 in
        let all = g.1 in
        let own = its k d t M all in
        let made = subst (By M.sent k d t from own.1) is (message_calls M.sent k d t from own.1 m there
        (λ a q. quiet_silent (heard from a q d.intents t.coord).outs (heard_quiet b.0 e k d t M b.1 from a q))
        (λ u. quiet_silent (acked from u d.intents t.coord).outs (acked_quiet b.0 e k d t M b.1 from u))
        (λ u. quiet_silent (answer_query from u d.intents t.coord) (query_quiet b.0 e k d t M b.1 from u))) in
        go e k v outs d M (keeps.message e k d t v from m outs M g.0 there meant is) (message_sends b.0 e k d t M b.1 from m v outs is)
        (homes k d (Some t) M g.0) (uses_on M.sent t.coord v.coord (message_becomes k d t v from m outs is) own.0) made.0 made.1 all.0
        (others k d (Some t) M all) all.2;
    act = λ e k d t i M is asks free g.
        let b = good (up k d t M) g.0 in
        let all = g.1 in
        let own = its k d t M all in
        let did = acts i d.intents t.coord in
        go e k (with_coord t did.part) did.outs d M (keeps.act e k d t i M is asks free g.0) (act_sends b.0 e k d t M b.1 i is)
        (homes k d (Some t) M g.0) (uses_on M.sent t.coord did.part (acts_become i d.intents t.coord) own.0) own.1
        (silent_vote t.server did.outs (quiet_silent did.outs (acts_quiet b.0 e k d t M b.1 hd i is free))) all.0
        (others k d (Some t) M all) all.2;
    begin = λ e k d t l how parent M new may free g.
        let all = g.1 in
        let own = its k d t M all in
        let did = begin_action l how parent (parent_of parent t.coord) t.coord in
        go e k (with_coord t did.part) did.outs d (given l (record { node = k; serial = is_serial how }) M)
        (keeps.begin e k d t l how parent M new may free g.0) (tt, tt) (homes k d (Some t) M g.0)
        (uses_on M.sent t.coord did.part (begins_become how parent t.coord) own.0) own.1 (tt, tt) all.0 (others k d (Some t) M all) all.2;
    tick = λ e k d t M g.
        let b = good (up k d t M) g.0 in
        let all = g.1 in
        let own = its k d t M all in
        let outs = tick_outs (record { number = k; disk = d; live = Some t }) t in
        let next = again_all t.coord.doings t.coord in
        go e k (with_coord t next.part) outs d M (keeps.tick e k d t M g.0) (tick_sends b.0 e k d t M b.1) (homes k d (Some t) M g.0)
        (uses_on M.sent t.coord next.part (again_become t.coord) own.0) own.1
        (silent_vote t.server outs (quiet_silent outs (tick_quiet b.0 e k d t M b.1))) all.0 (others k d (Some t) M all) all.2;
    restart = λ e k d M g.
        let all = g.1 in
        let outs = restart_outs hd k (d.inc + 1) d in
        let v = parts_in k (d.inc + 1) d in
        go e k v outs d M (keeps.restart e k d M g.0) (restart_asks hd k (d.inc + 1) d) (homes k d None M g.0) (none_anew k d M g.0) (tt, tt)
        (silent_vote v.server outs (restart_silent hd k (d.inc + 1) d)) all.0 (others k d None M all) all.2;
    first = λ st formed. (
      keeps.first st formed,
      (
        λ root. ([], (omega arith, tt), λ x c. absurd c.posted),
        λ j n is. subst (NodeCalled []) (first_at hd st j n is) (first_so st j),
        λ p there. absurd there,
      ),
    );
  }
    where
      first_so : (st : Start) (j : ℕ) → NodeCalled [] (node_by hd st j)
      first_so st j = by (st.up j)
        where
          by : (b : Bool) → (t : Parts) → cond b (Some (parts_in j (st.incs j + 1) (disk_by hd st j))) None ≡ Some t →
              UsesCalled [] t.coord × AreCalled [] t.server
          by true t is = subst (λ (z : Parts). UsesCalled [] z.coord × AreCalled [] z.server) (some_is is)
              ((λ root x own c. absurd c.posted), (tt, tt))
          by false t is = let no_way : ◌≡◌ {A = Option Parts} None (Some t) = is in absurd (cc no_way)
