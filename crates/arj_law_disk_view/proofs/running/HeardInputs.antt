-- What coordinators have of naming's answers is kept by inputs about actions: calls and includes that begin, commits, aborts and giveups.
use Rattle.arj_law_parts.proofs.Words
use Words.{◌≡◌, ◌≢◌, ◌⊎◌, ◌+◌, ℕ, ◌&&◌, ◌||◌, if◌then◌else◌, Bool, true, false, not, List, [], ◌∷◌, ◌++◌, Option, Some, None, refl, sym}
use Words.{◌∙◌, ap, subst, inl, inr, ⊎_elim, arith, is_some, slice_get, suc, Contains, unwrap_or, AllByRecursion, and_parts, or_parts}
use Words.{Binding, Op, Path, Uid, End, Cause, Kind, Reply, actor, top_of, call, call_steps, commit_action, commit_open, commit_top}
use Words.{gaveup_lines, give_up, give_up_doing, gives_up, goes_on, include, known_at_start, last_req, next_req, renewed, Goal, Include}
use Words.{Known, Run, Steps, next_ask, next_node, start, is_include, Calling, Committing, Coord, Doing, Keeping, Root, Went, doing_of}
use Words.{is_free, keeping_of, kept_of, no_root, on_doing, on_root, root_at, with_keeping, Idle, Now, Did, Disk, Effect, Parts, with_coord}
use Words.{at_number, put_number, unbound, uid_number, Header, Input, acts, branch_named, call_reasons, class_at, first_reason, lacks_op}
use Words.{include_reasons, on_branch, refusal_up, refused_by, abort_reasons, waits_above, waits_below, commit_reasons, sibling_waits}
use Words.{giveup_reasons, waits, number_of, Branch, ends_of, root_of, uses_object, branch_of, is_committed, ended_so, is_open_below}
use Words.{has_end, at_place, open_below, has_many_objects, has_open_child, Post, Seen, abort_action}
use Words.{aborts_with, ended, says, tolds_of, Confirming, Preparing, Voting, first_of, is_constituent, is_serial}
use Words.input
use Words.ending
use Words.body
use Words.kind
use Words.cause
use Rattle.arj_law_disk_view.proofs.Terms
use Terms.{is_act, is_below, IsGood, KnowsFew, Names, Office, never, test_same, up, IsBefore, KnowsNode, IsOfKind, Kinds, SeesBoth, MayGoOn}
use Terms.{Quietly, IsToStep, SeesHeard, SeesHeardAt, SeesStep, HasHeard, going_of}
use Rattle.arj_law_disk_view.proofs.names.Heard.{none_heard}
use Rattle.arj_law_disk_view.proofs.running
use running.{FirstCommits.input_first, HeardCoord.mine, HeardCoord.quiet_step, HeardEnds.heard_ends, HeardGoing.old_goes_on}
use running.{HeardQuiet.fixed_in, HeardTick.request_says, HeardTick.step_claims, HeardTops.heard_commit, HeardTops.heard_give_prepare}
use running.HeardAborts.{IsFewer, abort_says, all_fewer, at_fewer, ended_fewer, fewer_none, says_say, tolds_of_say}
use running.HeardCalls.{HasItsList, IsCalled, KeepsForOthers, KeepsOrNone, at_called, fresh, goes_called, goes_kept, keeps_to, root_put}
use running.HeardGiveups.{heard_give_call, put_keeps}
use running.HeardPosts.{SaysHeard, all_flat, all_join}
use running.HeardStarts.{call_list, call_others, free_spent, renewed_keeps}
use running.HeardStays.{at_stays, memory_goes, memory_stays, was_to}
use Rattle.arj_law_disk_view.proofs.view
use view.ActionAborts.{all_both_lists, latest_all}
use view.WholeWalks.{no_reason, placed, waits_not}

-- ---- a step that begins

-- a step that begins stands on nothing, and nothing was sent to it
new_step : (x k : ℕ) (sent : List Post) (p : Path) (y : ℕ) (g : Goal) (o : Option Known) (avoid : Binding) (req : ℕ) (N : Names) →
    ((z : Known) → o ≡ Some z → is_include g ≡ true → ⊥) → ((r : Reply) → IsToStep k sent (start p y g o avoid req) r → ⊥) →
    SeesStep x k sent (start p y g o avoid req) N
new_step x k sent p y g None avoid req N calls none = record {
  stands = λ i at. absurd (cc at);
  listed = λ q n rest at. absurd (cc at);
  goal = λ including. refl;
  bound = λ r to. absurd (none (Reply.Bound r) to);
  named = λ r to. absurd (none (Reply.Bound r) to);
  loaded = λ q n rest st at. absurd (cc at);
}
new_step x k sent p y g (Some z) avoid req N calls none = record {
  stands = λ i at. absurd (cc at);
  listed = λ q n rest at. absurd (cc at);
  goal = λ including. absurd (calls z refl including);
  bound = λ r to. absurd (none (Reply.Bound r) to);
  named = λ r to. absurd (none (Reply.Bound r) to);
  loaded = λ q n rest st at. absurd (cc at);
}

-- ---- the coordinator

module _ (x : ℕ) (c : Coord) (p : Path) (d : Doing) (found : doing_of (actor p) c ≡ Some d) where
  call_called : (y : ℕ) (op : Op) → IsCalled x (let r = root_at (root_of p) c in let old = keeping_of y r in
      call_steps p y op (next_req (actor p) c) r c (renewed (is_free (root_of p) (actor p) y c) old old.kept)) c (call p y op c).part
  call_called y op = goes_called x (call_steps p y op (next_req (actor p) c) r c k) c
      (on_root (root_of p) (with_keeping y k) (record c { tree = uses_object p y c.tree })) d found (λ u. refl) (λ u. refl) refl
      (λ u. by u (root_put (root_of p) (with_keeping y k) (record c { tree = uses_object p y c.tree }) u))
    where
      r : Root
      r = root_at (root_of p) c

      k : Keeping
      k = renewed (is_free (root_of p) (actor p) y c) (keeping_of y (root_at (root_of p) c))
          (let z = keeping_of y (root_at (root_of p) c) in z.kept)

      by : (u : Uid) → (((let z = root_of p in z.num) ≡ u.num) × (root_at u
          (on_root (root_of p) (with_keeping y k) (record c { tree = uses_object p y c.tree })) ≡ with_keeping y k (root_at u c)))
          ⊎ (root_at u (on_root (root_of p) (with_keeping y k) (record c { tree = uses_object p y c.tree })) ≡ root_at u c)
          → (ks : List (ℕ × Keeping)) × (w : List Went)
          × (root_at u (on_root (root_of p) (with_keeping y k) (record c { tree = uses_object p y c.tree }))
          ≡ keeps_to ks w (root_at u c)) × KeepsOrNone x c.tree (root_at u c) (keeps_to ks w (root_at u c))
      by u (inl mine_is) = (put_number y k (root_at u c).keeping, (root_at u c).went, mine_is.1, keeps (put_keeps x y k (root_at u c)))
        where
          same_root : root_at u c ≡ root_at (root_of p) c
          same_root = ap (λ n. unwrap_or (at_number n c.roots) no_root) (sym mine_is.0)

          keeps : ((y ≡ x) × (kept_of x (with_keeping y k (root_at u c)) ≡ k.kept))
              ⊎ (kept_of x (with_keeping y k (root_at u c)) ≡ kept_of x (root_at u c)) →
              KeepsOrNone x c.tree (root_at u c) (keeps_to (put_number y k (root_at u c).keeping) (root_at u c).went (root_at u c))
          keeps (inr same) = inl same
          keeps (inl (of, is)) = ⊎_elim
              (λ still. inl (is ∙ (still ∙ (ap (λ n. kept_of n (root_at (root_of p) c)) of ∙ ap (kept_of x) (sym same_root)))))
              (λ none. inr (
                is ∙ none.0,
                λ z there about. free_spent (root_of p) (actor p) y c none.1 z (subst (λ (q : Root). Contains q.said z) same_root there)
                    (about ∙ sym of),
              ))
              (renewed_keeps (is_free (root_of p) (actor p) y c) (keeping_of y (root_at (root_of p) c)))
      by u (inr other) = ((root_at u c).keeping, (root_at u c).went, other, inl refl)

  include_called : (y s : ℕ) → IsCalled x (start p y (Include s) None unbound (next_req (actor p) c)) c (include p y s c).part
  include_called y s =
      goes_called x (start p y (Include s) None unbound (next_req (actor p) c)) c (record c { tree = uses_object p y c.tree }) d found
      (λ u. refl) (λ u. refl) refl (λ u. ((root_at u c).keeping, (root_at u c).went, refl, inl refl))

-- ---- the input

module _ (x : ℕ) (tops : Kinds) (e k : ℕ) (d : Disk) (t : Parts) (M : Seen) (A : Office) (good : IsGood (up k d t M)) (few : KnowsFew
    (up k d t M)) (knows : KnowsNode tops k d t M) (both : SeesBoth x tops A (up k d t M)) (h : SeesHeard x tops A (up k d t M)) where
  -- what a coordinator's part of a step has to give
  abbrev pub Heard_by : Did Coord → Type 0
  Heard_by did = (g : HasHeard (SeesHeard x) x tops Quietly A (going_of e k d t did, M)) × MayGoOn x g.office did.part

  -- an action begins to wait
  waits_anew : (p : Path) (y : ℕ) (g : Goal) (o : Option Known) (avoid : Binding) (w : Coord) (q : Doing) →
      ((z : Known) → o ≡ Some z → is_include g ≡ true → ⊥) → doing_of (actor p) t.coord ≡ Some q →
      let s = start p y g o avoid (next_req (actor p) t.coord) in IsCalled x s t.coord (goes_on s w).part
      → KeepsForOthers x (actor p) t.coord (goes_on s w).part → ((B : Office) (sent : List Post) → SeesHeardAt x k tops sent t.coord B →
      HasItsList x tops (goes_on s w).part s B.names) → Heard_by (goes_on s w)
  waits_anew p y g o avoid w q calls does called others list = (
    record {
      office = A;
      only = none_heard A;
      both = both;
      along = quiet_step x tops k d t M A both h (with_coord t gone)
          (λ N B only fixed more.
          let before = at_stays x tops A B (fixed_in x tops A (up k d t M) both) fixed (memory_goes A B only) k M.sent N.sent t.coord
          more (λ u own kind. memory_stays tops A B only (tops.root (uid_number u))) (mine x tops k d t M A both h) in
          at_called x k tops N.sent s t.coord gone B called others (λ of. new_step x k N.sent p y g o avoid (next_req (actor p) t.coord)
          B.names calls (λ r to. none r (was_to x B k M.sent N.sent s more r to))) (list B N.sent before) before)
          e (goes_on s w).outs M refl refl
          (request_says x d.inc k M.sent A p (next_req (actor p) t.coord) (next_node s, next_ask (ends_of (root_of p) mid.tree) s) mid
          (step_claims x d.inc k M.sent A s (ends_of (root_of p) mid.tree)
          (λ of. new_step x k M.sent p y g o avoid (next_req (actor p) t.coord) A.names calls none)));
    },
    old_goes_on x tops k d t M A knows both gone (λ u z m at now past.
        ⊎_elim (λ old. old.1) (λ new. absurd (let n : Calling s ≡ Committing m = sym new ∙ now in cc)) (called.works u z at)),
  )
    where
      s : Steps
      s = start p y g o avoid (next_req (actor p) t.coord)

      gone : Coord
      gone = (goes_on (start p y g o avoid (next_req (actor p) t.coord)) w).part

      mid : Coord
      mid = on_doing (actor p)
          (λ (z : Doing). record z { req = next_req (actor p) t.coord; now = Calling (start p y g o avoid (next_req (actor p) t.coord)) }) w

      none : (r : Reply) → IsToStep k M.sent s r → ⊥
      none r to = fresh x tops k d t M A good few h (actor p) q s does refl
          (let n : next_req (actor p) t.coord ≡ q.req + 1 = ap (λ z. last_req z + 1) does in omega arith) r to

  pub heard_call : (b : Branch) (y : ℕ) (op : Op) (q : Doing) → branch_of (actor b.path) t.coord.tree ≡ Some b → is_some b.ended ≡ false →
      is_serial b.kind ≡ false → doing_of (actor b.path) t.coord ≡ Some q → Heard_by (call b.path y op t.coord)
  heard_call b y op q found opened plain does =
      let called = call_called x t.coord b.path q does y op in
      waits_anew b.path y (Run op) (known_at_start (top_of b.path) y r t.coord anew.kept) anew.avoid (on_root (root_of b.path) (with_keeping
      y anew) (record t.coord { tree = uses_object b.path y t.coord.tree })) q (λ z is including. cc including) does called
      (call_others x tops k d t M good few knows (actor b.path) b found opened (no_serial b.kind plain) refl y op)
      (λ B sent before.
      call_list x tops k d t M good few knows (actor b.path) b found opened (no_serial b.kind plain) refl y op B sent before called.own)
    where
      r : Root
      r = root_at (root_of b.path) t.coord

      anew : Keeping
      anew = renewed (is_free (root_of b.path) (actor b.path) y t.coord) (keeping_of y (root_at (root_of b.path) t.coord))
          (let z = keeping_of y (root_at (root_of b.path) t.coord) in z.kept)

      no_serial : (z : Kind) → is_serial z ≡ false → z ≢ kind.Serial
      no_serial z off same = never (ap is_serial same) off

  pub heard_include : (p : Path) (y s : ℕ) (q : Doing) → doing_of (actor p) t.coord ≡ Some q → Heard_by (include p y s t.coord)
  heard_include p y s q does = waits_anew p y (Include s) None unbound (record t.coord { tree = uses_object p y t.coord.tree }) q
      (λ z is including. cc is) does (include_called x t.coord p q does y s)
      (λ w z v other there now of calls. goes_kept x (start p y (Include s) None unbound (next_req (actor p) t.coord))
      (record t.coord { tree = uses_object p y t.coord.tree }) (root_of v.path))
      (λ B sent before of calls. absurd (cc calls))

  -- actions are aborted, or none is
  acts_fewer : (did : Did Coord) → IsFewer t.coord did.part → AllByRecursion (SaysHeard x d.inc A) did.outs → Heard_by did
  acts_fewer did few2 says = (
    record {
      office = A;
      only = none_heard A;
      both = both;
      along = quiet_step x tops k d t M A both h (with_coord t did.part)
          (λ N B only fixed more. at_fewer t.coord did.part few2 x k tops N.sent B
          (at_stays x tops A B (fixed_in x tops A (up k d t M) both) fixed (memory_goes A B only) k M.sent N.sent t.coord more
          (λ u own kind. memory_stays tops A B only (tops.root (uid_number u))) (mine x tops k d t M A both h)))
          e did.outs M refl refl says;
    },
    old_goes_on x tops k d t M A knows both did.part (λ u z m at now past.
        ⊎_elim (λ old. old) (λ idle. absurd (let n : Idle ≡ Committing m = sym idle ∙ now in cc)) (few2.works u z at)),
  )

  -- who is open has not committed
  not_committed : (u : Uid) (b : Branch) → branch_of u t.coord.tree ≡ Some b → b.ended ≡ None → is_committed u t.coord.tree ≡ false
  not_committed u b found unended = ap (ended_so ending.Commit) found ∙ ap (has_end ending.Commit) unended

  none_so : (o : Option End) → is_some o ≡ false → o ≡ None
  none_so None off = refl
  none_so (Some how) off = absurd (cc off)

  unended_of : (o : Option End) → not (is_some o) ≡ true → o ≡ None
  unended_of None on = refl
  unended_of (Some how) on = absurd (cc on)

  heard_abort : (u : Uid) (b : Branch) → branch_of u t.coord.tree ≡ Some b → b.ended ≡ None → Heard_by (abort_action u d.intents t.coord)
  heard_abort u b found unended = acts_fewer (abort_action u d.intents t.coord) (all_fewer (open_below u t.coord.tree ++ u ∷ []) t.coord
      (all_both_lists (λ w. is_committed w t.coord.tree ≡ false) (open_below u t.coord.tree) (u ∷ []) (latest_all (λ w. is_committed w
      t.coord.tree ≡ false) (is_open_below u) t.coord.tree.branches [] at_place_open tt) (not_committed u b found unended, tt)))
      (abort_says x d.inc A u d.intents t.coord)
    where
      at_place_open : (j : ℕ) (z : Branch) → slice_get t.coord.tree.branches j ≡ Some z → is_open_below u z ≡ true →
          is_committed (actor z.path) t.coord.tree ≡ false
      at_place_open j z is on =
          let w : Uid = record { node = t.coord.tree.node; inc = t.coord.tree.inc; num = suc j } in
          let there : branch_of w t.coord.tree ≡ Some z = ap (λ c. if c then at_place (suc j) t.coord.tree.branches else None)
          (λ i. test_same t.coord.tree.node i && test_same t.coord.tree.inc i) ∙ is in
          subst (λ v. is_committed v t.coord.tree ≡ false) (sym (let c = knows.coord in c.path w z there))
          (not_committed w z there (unended_of z.ended (and_parts (is_below u z) (not (is_some z.ended)) on).1))

  -- one action is aborted, with lines before
  pub heard_aborted : (u : Uid) (why : Cause) (b : Branch) (ns : List ℕ) → branch_of u t.coord.tree ≡ Some b → b.ended ≡ None →
      Heard_by (record {
        part = (aborts_with u why d.intents t.coord).part;
        outs = gaveup_lines u ns t.coord ++ (aborts_with u why d.intents t.coord).outs;
      })
  heard_aborted u why b ns found unended = acts_fewer (record {
    part = (aborts_with u why d.intents t.coord).part;
    outs = gaveup_lines u ns t.coord ++ (aborts_with u why d.intents t.coord).outs;
  }) (ended_fewer t.coord u (not_committed u b found unended))
      (all_join Q (gaveup_lines u ns t.coord) (aborts_with u why d.intents t.coord).outs
      (all_flat Q (λ n. says u (λ l. body.GaveUp l n) t.coord) ns (λ n. says_say x d.inc A u (λ l. body.GaveUp l n) t.coord))
      (all_join Q (says u (λ l. body.Aborted l why) t.coord) (tolds_of d.intents (ended u ending.Abort t.coord) u)
      (says_say x d.inc A u (λ l. body.Aborted l why) t.coord) (tolds_of_say x d.inc A d.intents (ended u ending.Abort t.coord) u)))
    where
      Q : Effect → Type 0
      Q f = SaysHeard x d.inc A f

  -- where nothing waits there is nothing to give up, a call is given up, a Prepare goes on, and in a vote or at naming it is the action's
  -- abort
  heard_gives : (u : Uid) (b : Branch) → branch_of u t.coord.tree ≡ Some b → b.ended ≡ None → Heard_by (give_up u d.intents t.coord)
  heard_gives u b found unended = by (doing_of u t.coord) refl
    where
      none : Heard_by (record { part = t.coord; outs = [] })
      none = acts_fewer (record { part = t.coord; outs = [] }) (fewer_none t.coord) tt

      by_now : (q : Doing) (now : Now) → doing_of u t.coord ≡ Some q → q.now ≡ now → Heard_by (gives_up u d.intents t.coord now)
      by_now q Idle does is = none
      by_now q (Calling s) does is = heard_give_call x tops e k d t M A good few knows both h u q s does is
      by_now q (Committing (Voting p left)) does is = heard_aborted u (cause.Lost (first_of left)) b (first_of left ∷ []) found unended
      by_now q (Committing (Preparing p left)) does is = heard_give_prepare x tops e k d t M A good few knows both h u q p left does is
      by_now q (Committing (Confirming p)) does is = heard_aborted u (cause.Lost 1) b (1 ∷ []) found unended

      by : (o : Option Doing) → doing_of u t.coord ≡ o → Heard_by (give_up u d.intents t.coord)
      by None is = subst (λ o. Heard_by (give_up_doing u d.intents t.coord o)) (sym is) none
      by (Some q) is = subst (λ o. Heard_by (give_up_doing u d.intents t.coord o)) (sym is) (by_now q q.now is refl)

  -- it begins, of the action of a label
  pub heard_starts : (hd : Header) (i : Input) → is_act i ≡ true → refusal_up hd i t.coord ≡ None → Heard_by (acts i d.intents t.coord)
  heard_starts hd (input.Call l y op) act free = by (branch_named l t.coord) refl free
    where
      by : (o : Option Branch) → branch_named l t.coord ≡ o → refused_by (call_reasons hd y op) t.coord o ≡ None →
          Heard_by (on_branch (λ b. call b.path y op t.coord) t.coord o)
      by None is none = absurd (cc none)
      by (Some b) is none =
          let there = placed hd x tops e k d t M knows.kinds knows.coord A.world both.disks (number_of l t.coord) b is in
          let w = (let c = knows.coord in c.at_work (actor b.path) b there) in
          let one = no_reason 6 (is_some b.ended) ((7, waits_above b t.coord || waits_below b t.coord) ∷ (11, is_serial b.kind)
          ∷ (12, b.doomed) ∷ (13, not (is_some (class_at y hd))) ∷ (14, lacks_op op (class_at y hd))
          ∷ (16, has_many_objects b y t.coord.tree) ∷ []) none in
          let two = no_reason 7 (waits_above b t.coord || waits_below b t.coord) ((11, is_serial b.kind) ∷ (12, b.doomed)
          ∷ (13, not (is_some (class_at y hd))) ∷ (14, lacks_op op (class_at y hd)) ∷ (16, has_many_objects b y t.coord.tree) ∷ [])
          one.1 in
          let three = no_reason 11 (is_serial b.kind) ((12, b.doomed) ∷ (13, not (is_some (class_at y hd)))
          ∷ (14, lacks_op op (class_at y hd)) ∷ (16, has_many_objects b y t.coord.tree) ∷ []) two.1 in
          heard_call b y op w.0 there one.0 three.0 w.1
  heard_starts hd (input.Include l y s) act free = by (branch_named l t.coord) refl free
    where
      by : (o : Option Branch) → branch_named l t.coord ≡ o → refused_by (include_reasons hd y) t.coord o ≡ None →
          Heard_by (on_branch (λ b. include b.path y s t.coord) t.coord o)
      by None is none = absurd (cc none)
      by (Some b) is none = let w = (let c = knows.coord in c.at_work (actor b.path) b (placed hd x tops e k d t M knows.kinds knows.coord
          A.world both.disks (number_of l t.coord) b is)) in heard_include b.path y s w.0 w.1
  heard_starts hd (input.Commit l) act free = by (branch_named l t.coord) refl free
    where
      by : (o : Option Branch) → branch_named l t.coord ≡ o → refused_by commit_reasons t.coord o ≡ None →
          Heard_by (on_branch (λ b. commit_action b d.intents t.coord) t.coord o)
      by None is none = absurd (cc none)
      by (Some b) is none = doomed b.doomed refl
        where
          six : (is_some b.ended ≡ false) × (first_reason ((7, waits_above b t.coord || waits_below b t.coord || sibling_waits b t.coord)
              ∷ (9, has_open_child (actor b.path) t.coord.tree) ∷ []) ≡ None)
          six = no_reason 6 (is_some b.ended) ((7, waits_above b t.coord || waits_below b t.coord || sibling_waits b t.coord)
              ∷ (9, has_open_child (actor b.path) t.coord.tree) ∷ []) none

          one : is_some b.ended ≡ false
          one = six.0

          -- nobody above waits
          above : waits_above b t.coord ≡ false
          above =
              let two = no_reason 7 (waits_above b t.coord || waits_below b t.coord || sibling_waits b t.coord)
              ((9, has_open_child (actor b.path) t.coord.tree) ∷ []) six.1 in
              (or_parts (waits_above b t.coord) (waits_below b t.coord)
              (or_parts (waits_above b t.coord || waits_below b t.coord) (sibling_waits b t.coord) two.0).0).0

          doomed : (z : Bool) → b.doomed ≡ z → Heard_by (commit_action b d.intents t.coord)
          doomed true on = subst (λ y. Heard_by
              (if y then aborts_with (actor b.path) cause.Doomed d.intents t.coord else commit_open b d.intents t.coord b.kind)) (sym on)
              (heard_aborted (actor b.path) cause.Doomed b []
              (placed hd x tops e k d t M knows.kinds knows.coord A.world both.disks (number_of l t.coord) b is) (none_so b.ended one))
          doomed false off = subst (λ y. Heard_by (if y then aborts_with (actor b.path) cause.Doomed d.intents t.coord else commit_open b
              d.intents t.coord b.kind)) (sym off) (of_kind b.kind refl)
            where
              there : branch_of (actor b.path) t.coord.tree ≡ Some b
              there = placed hd x tops e k d t M knows.kinds knows.coord A.world both.disks (number_of l t.coord) b is

              starts : tops.is_top (uid_number (actor b.path)) ≡ true → b.kind ≢ kind.Nested → b.kind ≢ kind.Serial →
                  Heard_by (commit_top b.path d.intents t.coord)
              starts top unnested unserial =
                  let w = (let c = knows.coord in c.at_work (actor b.path) b there) in
                  heard_commit x tops e k d t M A good few knows both h b there (none_so b.ended one) top w.0 w.1
                  (subst IsBefore (sym (waits_not hd x tops e k d t M knows.kinds knows.coord A.world both.disks b w.0 there w.1 above)) tt)
                  (input_first good.0 k d t M good.1 hd (input.Commit l) free b is unnested unserial)

              its_kind : IsOfKind tops (actor b.path) b.kind b.path
              its_kind = let c = knows.coord in c.kind (actor b.path) b there

              of_kind : (z : Kind) → b.kind ≡ z → Heard_by (commit_open b d.intents t.coord b.kind)
              of_kind kind.Nested at_kind = subst (λ y. Heard_by (commit_open b d.intents t.coord y)) (sym at_kind) (heard_ends x tops e k d
                  t M A good few knows both h (actor b.path) b body.Committed there (none_so b.ended one) (ap is_constituent at_kind))
              of_kind kind.Serial at_kind = subst (λ y. Heard_by (commit_open b d.intents t.coord y)) (sym at_kind) (heard_ends x tops e k d
                  t M A good few knows both h (actor b.path) b body.Ended there (none_so b.ended one) (ap is_constituent at_kind))
              of_kind kind.Top at_kind = subst (λ y. Heard_by (commit_open b d.intents t.coord y)) (sym at_kind)
                  (starts (subst (λ y. IsOfKind tops (actor b.path) y b.path) at_kind its_kind).0 (λ same. let n : kind.Top ≡ kind.Nested =
                  sym at_kind ∙ same in cc n) (λ same. let n : kind.Top ≡ kind.Serial = sym at_kind ∙ same in cc n))
              of_kind kind.Independent at_kind = subst (λ y. Heard_by (commit_open b d.intents t.coord y)) (sym at_kind)
                  (starts (subst (λ y. IsOfKind tops (actor b.path) y b.path) at_kind its_kind).0
                  (λ same. let n : kind.Independent ≡ kind.Nested = sym at_kind ∙ same in
                  cc n) (λ same. let n : kind.Independent ≡ kind.Serial = sym at_kind ∙ same in cc n))
              of_kind kind.Constituent at_kind = subst (λ y. Heard_by (commit_open b d.intents t.coord y)) (sym at_kind)
                  (starts (subst (λ y. IsOfKind tops (actor b.path) y b.path) at_kind its_kind).0
                  (λ same. let n : kind.Constituent ≡ kind.Nested = sym at_kind ∙ same in
                  cc n) (λ same. let n : kind.Constituent ≡ kind.Serial = sym at_kind ∙ same in cc n))
  heard_starts hd (input.Abort l) act free = by (branch_named l t.coord) refl free
    where
      by : (o : Option Branch) → branch_named l t.coord ≡ o → refused_by abort_reasons t.coord o ≡ None →
          Heard_by (on_branch (λ b. abort_action (actor b.path) d.intents t.coord) t.coord o)
      by None is none = absurd (cc none)
      by (Some b) is none =
          let one = no_reason 6 (is_some b.ended) ((7, waits_above b t.coord || waits_below b t.coord) ∷ []) none in
          heard_abort (actor b.path) b (placed hd x tops e k d t M knows.kinds knows.coord A.world both.disks (number_of l t.coord) b is)
          (none_so b.ended one.0)
  heard_starts hd (input.GiveUp l) act free = by (branch_named l t.coord) refl free
    where
      by : (o : Option Branch) → branch_named l t.coord ≡ o → refused_by giveup_reasons t.coord o ≡ None →
          Heard_by (on_branch (λ b. give_up (actor b.path) d.intents t.coord) t.coord o)
      by None is none = absurd (cc none)
      by (Some b) is none =
          let one = no_reason 6 (is_some b.ended) ((8, not (waits t.coord (actor b.path))) ∷ []) none in
          heard_gives (actor b.path) b (placed hd x tops e k d t M knows.kinds knows.coord A.world both.disks (number_of l t.coord) b is)
          (none_so b.ended one.0)
  heard_starts hd (input.Begin l how parent) act free = absurd (cc act)
  heard_starts hd (input.Frame n from m) act free = absurd (cc act)
  heard_starts hd input.Tick act free = absurd (cc act)
  heard_starts hd input.Restart act free = absurd (cc act)
  heard_starts hd input.Crash act free = absurd (cc act)
  heard_starts hd (input.Show y) act free = absurd (cc act)
