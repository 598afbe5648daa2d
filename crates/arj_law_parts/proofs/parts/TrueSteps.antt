-- What a coordinator says at its inputs, and as it hears, is true, and stays so.
use Rattle.arj_law_parts.proofs.Words
use Words.{◌≡◌, ◌≢◌, ◌≤◌, ◌<◌, ◌+◌, ◌==◌, arith, zero, suc, ℕ, List, [], ◌∷◌, ◌++◌, length, Bool, true, false, cond, not, ◌&&◌, ◌||◌}
use Words.{Option, Some, None, slice_get, refl, sym, ◌∙◌, ap, subst, inl, inr, ⊎_elim, is_some, list_any, is_eq, match_ordering, Ordering}
use Words.{Less, Equal, Greater, and_parts, or_parts, or_cases, eqb-true, false_from_ne_true, length-append, uid_order, is_on, uid_is}
use Words.{uid_cases, In, in_from, in_to, Uid, End, Kind, Path, Ask, Asked, Label, Header, Message, uid_eq, uids_of, Reply, actor}
use Words.{begin_action, asks_node, asks_all, call, include, step_call, root_moved, kept_at, heard_call, commit_top, commit_open}
use Words.{commit_action, last_req, moved_commit, heard_now, heard_doing, heard, heard_by, heard_none, waits_for_call, waits_for_commit}
use Words.{gaveup_lines, root_lost, gives_up, give_up_doing, give_up, again_now, again_all, Steps, Moved, answered, given_up, next_node}
use Words.{Plan, plan_of, servers_of, nodes_given_up, Coord, new_coord, Doing, Now, Idle, Calling, Committing, doing_of, on_root, root_at}
use Words.{plan_for, is_free, is_kept_top, is_constituent_branch, Did, Served, Intent, Work, Look, PutInc, Prepare, Commit, Abort}
use Words.{PutIntent, RemoveIntent, Disk, Stop, Before, After, InPart, worked, stopped, says, tell, tell_all, aborts_with, abort_action}
use Words.{is_deferred, let_go, tolds_let_go, acked_left, acked_by, acked, root_or_self, took_part, is_kept_commit, answer_decided}
use Words.{answer_recorded, answer_query, at_uid, put_uid, has, without_uid, without_number, Input, acts, branch_named, on_branch}
use Words.{is_waiting, is_waiting_now, waits, waits_above, waits_below, refusal_up, refused_by, call_reasons, include_reasons}
use Words.{commit_reasons, tolds_again, parent_of, begin_refusal, Tree, Branch, branch_of, is_own, at_place, ends_of, is_open}
use Words.{is_open_branch, is_committed, ended_so, has_end, root_of, has_open_child, path_below, next_uid}
use Words.ending
use Words.kind
use Words.body
use Words.cause
use Words.commit
use Words.role
use Words.input
use Rattle.arj_law_parts.proofs.Terms
use Terms.{is_over, Action, AreBegun, AreCounted, MayBegin, IsClaimed, AreTrue, GoesOn, AreOfNode, IsOwnRecord, IsSettled, IsBusy, IsVoting}
use Terms.{IsOver, IsGoodCoord, Paths, IsTree, IsTopAction, AreOfTops, FitsMessage, Seals, has_commit_of, HasLists}
use Rattle.arj_law_parts.proofs.parts
use parts.{Begun.on_own, Decided.message_more, Keys.at_in, Sends.again_tree}
use parts.CoordInputs.{named_found, behind, off, off_third, next_path, parent_found, none_above}
use parts.GoodCoords.{actor_is, answer_step, giveup_step, vote_step, voting_at}
use parts.GoodTrees.{found_by, placed, grown_still, above_of, shorter}
use parts.Settled.{claim_on, then_on, same_on, over_claim}
use parts.Truths.{put_in, true_on, true_both, true_flat, true_says, true_tells, abort_none, commit_one, IsFree, IsWell, listed_of}
use parts.Truths.{well_step, well_call, well_include, well_step_call, well_ends, well_abort, well_machine, well_moved}
use Rattle.arj_law_parts.specs.parts.Claims.{IsFaithful, IsOfNode}

never : {P : Type 0} (b : Bool) → b ≡ true → b ≡ false → P
never b holds fails = let no_way : true ≡ false = sym holds ∙ fails in cc

-- ---- maps

pub without_in : (u : Uid) (e : Uid × Intent) (m : List (Uid × Intent)) → In e (without_uid u m) → In e m
without_in u e [] is = is
without_in u e (f ∷ es) is = by (uid_order u f.0) (without_in u e es) is
  where
    by : (r : Ordering) → (In e (without_uid u es) → In e es) → In e (cond (is_eq r) es (f ∷ without_uid u es)) → In e (f ∷ es)
    by Equal ih i = inr i
    by Less ih (inl same) = inl same
    by Less ih (inr i) = inr (ih i)
    by Greater ih (inl same) = inl same
    by Greater ih (inr i) = inr (ih i)

pub top_in : (actions : List Action) (w : Uid) (j : Intent) (m : List (Uid × Intent)) → AreOfTops actions m → In (w, j) m →
    IsTopAction actions w
top_in actions w j [] all k = absurd k
top_in actions w j (e ∷ es) all (inl same) = subst (λ (f : Uid × Intent). IsTopAction actions f.0) same all.0
top_in actions w j (e ∷ es) all (inr k) = top_in actions w j es all.1 k

node_in : (n i : ℕ) (w : Uid) (j : Intent) (m : List (Uid × Intent)) → AreOfNode n i m → In (w, j) m → IsOfNode n i w
node_in n i w j [] all k = absurd k
node_in n i w j (e ∷ es) all (inl same) = subst (λ (f : Uid × Intent). IsOfNode n i f.0) same all.0
node_in n i w j (e ∷ es) all (inr k) = node_in n i w j es all.1 k

-- ---- work entries

get_both : {A B : Type 0} (xs : List A) (ys : List B) (k : ℕ) (a : A) → length ys ≡ length xs → slice_get xs k ≡ Some a →
    (b : B) × (slice_get ys k ≡ Some b)
get_both {A} [] ys k a long is = let no_way : ◌≡◌ {A = Option A} None (Some a) = is in cc
get_both (x ∷ xs) [] k a long is = absurd (omega (arith, long))
get_both (x ∷ xs) (y ∷ ys) zero a long is = (y, refl)
get_both (x ∷ xs) (y ∷ ys) (suc k) a long is = get_both xs ys k a (omega (arith, long)) is

-- each action has its work entry
pub work_there : (c : Coord) → length c.doings ≡ length c.tree.branches → (u : Uid) (b : Branch) → branch_of u c.tree ≡ Some b →
    (d : Doing) × (doing_of u c ≡ Some d)
work_there c long u b found = let q = found_by u c.tree b found in let p = by u.num q.1 in
    (p.0, (λ i. cond (q.0 i) (at_place u.num c.doings) None) ∙ p.1)
  where
    by : (k : ℕ) → at_place k c.tree.branches ≡ Some b → (d : Doing) × (at_place k c.doings ≡ Some d)
    by zero is = let no_way : ◌≡◌ {A = Option Branch} None (Some b) = is in cc
    by (suc k) is = get_both c.tree.branches c.doings k b long is

-- who calls isn't at a commit
calls_free : (c : Coord) (u w : Uid) (d : Doing) (s : Steps) → w ≡ u → doing_of u c ≡ Some d → d.now ≡ Calling s → IsFree w c
calls_free c u w d s same found is e m at commits =
    let k : ◌≡◌ {A = Option Doing} (Some e) (Some d) = sym at ∙ ap (λ v. doing_of v c) same ∙ found in
    let one : e ≡ d = cc in
    let no_way : ◌≡◌ {A = Now} (Calling s) (Committing m) = sym is ∙ ap (λ (x : Doing). x.now) (sym one) ∙ commits in
    cc

-- nor is who doesn't wait
waits_free : (c : Coord) (b : Branch) → waits_above b c ≡ false → IsFree (actor b.path) c
waits_free c b none d m found is =
    never (waits c (actor b.path)) (ap is_waiting found ∙ ap is_waiting_now is) (quiet (uids_of b.path) none (on_own b.path))
  where
    quiet : (us : List Uid) → list_any (waits c) us ≡ false → is_on us (actor b.path) ≡ true → waits c (actor b.path) ≡ false
    quiet [] e on = let no_way : false ≡ true = on in cc
    quiet (x ∷ us) e on = let q = or_parts (waits c x) (list_any (waits c) us) e in ⊎_elim (λ same. ap (waits c) (sym
        (uid_is x (actor b.path) same)) ∙ q.0) (λ rest. quiet us q.1 rest) (or_cases (uid_eq x (actor b.path)) (is_on us (actor b.path)) on)

module _ (actions : List Action) (paths : Paths) (tree : IsTree paths) where
  abbrev Good : Coord → Type 0
  Good c = IsGoodCoord actions paths c

  -- the coordinator goes on, and what it says is true then
  abbrev Goes : Coord → Did Coord → Type 0
  Goes c d = GoesOn c d.part × AreTrue d.part d.outs

  abbrev Serves : Coord → Served Coord (Unit {0}) → Type 0
  Serves c d = GoesOn c d.part × AreTrue d.part d.outs

  both_of : (c : Coord) (d : Did Coord) → IsWell actions paths tree c d → Goes c d
  both_of c d w = (w.on, w.outs)

  itself : (c : Coord) → GoesOn c c
  itself c = same_on c c refl refl refl refl

  after : (c e : Coord) (d : Did Coord) → GoesOn c e → IsWell actions paths tree e d → Goes c d
  after c e d on w = (then_on c e d.part on w.on, w.outs)

  -- ---- answers and giveups

  pub well_heard : (from : ℕ) (a : Asked) (r : Reply) (intents : List (Uid × Intent)) (c : Coord) → Good c →
      Serves c (heard from a r intents c)
  well_heard from a r intents c good = by (doing_of a.act c) refl
    where
      now : (d : Doing) → doing_of a.act c ≡ Some d → (n : Now) → d.now ≡ n → IsBusy c.tree a.act n →
          Serves c (heard_now from a r intents c n)
      now d found Idle is b = (itself c, tt)
      now d found (Calling s) is b = one (waits_for_call from a r s)
        where
          m : Moved
          m = answered (is_free (root_of s.path) (actor s.path) s.x c) (kept_at s c) s.goal s.at r

          one : (w : Bool) → Serves c (cond {A = Served Coord (Unit {0})} w (heard_by (heard_call s r c)) (heard_none c))
          one true = let t : Coord = on_root (root_of s.path) (root_moved s r m) c in
              after c t (heard_call s r c) (same_on c t refl refl refl refl) (well_step_call actions paths tree s m.step t (calls_free c
              a.act (actor s.path) d s (actor_is actions paths tree a.act s.path c good b) found is) (listed_of actions paths tree c good))
          one false = (itself c, tt)
      now d found (Committing m) is b = one (waits_for_commit from a r m)
        where
          one : (w : Bool) → Serves c
              (cond {A = Served Coord (Unit {0})} w (heard_by (moved_commit a.act (commit.answered from m r) intents c)) (heard_none c))
          one true = let w = well_moved actions paths tree a.act (plan_of m) (commit.answered from m r) intents c d found b
              (answer_step actions paths tree from m r) good in (w.on, w.outs)
          one false = (itself c, tt)

      by : (o : Option Doing) → doing_of a.act c ≡ o → Serves c (heard_doing from a r intents c o)
      by None is = (itself c, tt)
      by (Some d) is = now d is d.now refl (good.busy a.act d is)

  well_give_up : (u : Uid) (intents : List (Uid × Intent)) (c : Coord) → Good c → Goes c (give_up u intents c)
  well_give_up u intents c good = by (doing_of u c) refl
    where
      lines : (e : Coord) (nodes : List ℕ) → AreTrue e (gaveup_lines u nodes c)
      lines e nodes = true_flat e (λ n. says u (λ l. body.GaveUp l n) c) nodes (λ n. true_says e u (λ l. body.GaveUp l n) c)

      with_lines : (nodes : List ℕ) (d : Did Coord) → Goes c d → Goes c (record { part = d.part; outs = gaveup_lines u nodes c ++ d.outs })
      with_lines nodes d w = (w.0, true_both d.part (gaveup_lines u nodes c) d.outs (lines d.part nodes) w.1)

      now : (d : Doing) → doing_of u c ≡ Some d → (n : Now) → d.now ≡ n → IsBusy c.tree u n → Goes c (gives_up u intents c n)
      now d found Idle is b = (itself c, tt)
      now d found (Calling s) is b =
          let t : Coord = on_root (root_of s.path) (root_lost s (given_up s.at)) c in
          let x = step_call s (given_up s.at) t in
          with_lines (next_node s ∷ []) x
          (after c t x (same_on c t refl refl refl refl) (well_step_call actions paths tree s (given_up s.at) t (calls_free c u
          (actor s.path) d s (actor_is actions paths tree u s.path c good b) found is) (listed_of actions paths tree c good)))
      now d found (Committing m) is b = let x = moved_commit u (commit.given_up m) intents c in with_lines (nodes_given_up m) x (both_of c x
          (well_moved actions paths tree u (plan_of m) (commit.given_up m) intents c d found b (giveup_step actions paths tree m) good))

      by : (o : Option Doing) → doing_of u c ≡ o → Goes c (give_up_doing u intents c o)
      by None is = (itself c, tt)
      by (Some d) is = now d is d.now refl (good.busy u d is)

  -- ---- what is sent again

  asks_doings : (p : Path) (req : ℕ) (as_asked : List (ℕ × Ask)) (c : Coord) →
      (let d = asks_all p req as_asked c in let e = d.part in e.doings) ≡ c.doings
  asks_doings p req [] c = refl
  asks_doings p req (a ∷ rest) c = asks_doings p req rest (asks_node p req a c).part

  again_doings : (c : Coord) (n : Now) → (let d = again_now c n in let e = d.part in e.doings) ≡ c.doings
  again_doings c Idle = refl
  again_doings c (Calling s) = refl
  again_doings c (Committing m) = asks_doings (plan_of m).path (plan_of m).req (commit.waiting m) c

  again_from : (first : Coord) → Good first → (ds : List Doing) (c : Coord) → c.tree ≡ first.tree → c.doings ≡ first.doings →
      ((d : Doing) → In d ds → (u : Uid) × (doing_of u first ≡ Some d)) → Goes c (again_all ds c)
  again_from first good [] c same_tree same_doings there = (itself c, tt)
  again_from first good (d ∷ ds) c same_tree same_doings there =
      let a = again_now c d.now in
      let q = again_all ds a.part in
      let p = there d (inl refl) in
      let w = now p.0 p.1 d.now refl (good.busy p.0 d p.1) in
      let rest = again_from first good ds a.part (again_tree c d.now ∙ same_tree) (again_doings c d.now ∙ same_doings)
      (λ e i. there e (inr i)) in
      (then_on c a.part q.part w.0 rest.0, true_both q.part a.outs q.outs (true_on a.part q.part rest.0 a.outs w.1) rest.1)
    where
      same_doing : (u : Uid) → doing_of u c ≡ doing_of u first
      same_doing u = λ i. cond (is_own u (same_tree i)) (at_place u.num (same_doings i)) None

      now : (u : Uid) → doing_of u first ≡ Some d → (n : Now) → d.now ≡ n → IsBusy first.tree u n → Goes c (again_now c n)
      now u found Idle is b = (itself c, tt)
      now u found (Calling s) is b = both_of c (again_now c (Calling s)) (well_step actions paths tree s c (subst (λ t. (r w : Uid) →
          has_commit_of w (ends_of r t) ≡ true → IsOver w t) (sym same_tree) (listed_of actions paths tree first good)))
      now u found (Committing m) is b =
          both_of c (again_now c (Committing m)) (well_machine actions paths tree c u m (subst (λ t. IsVoting t u (plan_of m))
          (sym same_tree) b) (actor_is actions paths tree u (plan_of m).path first good b.asking) (d, m, same_doing u ∙ found, is))

  pub well_again : (c : Coord) → Good c → Goes c (again_all c.doings c)
  well_again c good = again_from c good c.doings c refl refl (λ d i. by d (placed d c.doings i))
    where
      same : (n : ℕ) → (n == n) ≡ true
      same n = grind arith

      by : (d : Doing) → (k : ℕ) × (at_place k c.doings ≡ Some d) → (u : Uid) × (doing_of u c ≡ Some d)
      by d p = (
        record { node = c.tree.node; inc = c.tree.inc; num = p.0 },
        (λ i. cond (same c.tree.node i && same c.tree.inc i) (at_place p.0 c.doings) None) ∙ p.1,
      )

  -- ---- inputs

  well_commit : (b : Branch) (intents : List (Uid × Intent)) (c : Coord) (d : Doing) → doing_of (actor b.path) c ≡ Some d →
      branch_of (actor b.path) c.tree ≡ Some b → is_some b.ended ≡ false → has_open_child (actor b.path) c.tree ≡ false → Good c →
      Goes c (commit_action b intents c)
  well_commit b intents c d work found opened none good = by b.doomed
    where
      u : Uid
      u = actor b.path

      plan : Plan
      plan = plan_for b.path (last_req (doing_of u c)) (root_at (root_of b.path) c) c

      top : b.kind ≢ kind.Serial → b.kind ≢ kind.Nested → Goes c (commit_top b.path intents c)
      top unserial unnested =
          let x = moved_commit u (commit.start plan) intents c in
          let w = well_moved actions paths tree u plan (commit.start plan) intents c d work (voting_at actions paths tree b c found opened
          none unserial unnested good) (vote_step actions paths tree (servers_of plan) plan plan (refl, refl)) good in
          (w.on, true_both x.part (says u body.Committing c) x.outs (true_says x.part u body.Committing c) w.outs)

      kinds : (k : Kind) → b.kind ≡ k → Goes c (commit_open b intents c k)
      kinds kind.Nested is =
          both_of c (commit_open b intents c kind.Nested) (well_ends actions paths tree u ending.Commit body.Committed intents c none good)
      kinds kind.Serial is =
          both_of c (commit_open b intents c kind.Serial) (well_ends actions paths tree u ending.Commit body.Ended intents c none good)
      kinds kind.Top is =
          top (λ e. let no_way : kind.Top ≡ kind.Serial = sym is ∙ e in cc) (λ e. let no_way : kind.Top ≡ kind.Nested = sym is ∙ e in cc)
      kinds kind.Independent is = top (λ e. let no_way : kind.Independent ≡ kind.Serial = sym is ∙ e in
          cc) (λ e. let no_way : kind.Independent ≡ kind.Nested = sym is ∙ e in cc)
      kinds kind.Constituent is = top (λ e. let no_way : kind.Constituent ≡ kind.Serial = sym is ∙ e in
          cc) (λ e. let no_way : kind.Constituent ≡ kind.Nested = sym is ∙ e in cc)

      by : (w : Bool) → Goes c (cond {A = Did Coord} w (aborts_with u cause.Doomed intents c) (commit_open b intents c b.kind))
      by true = both_of c (aborts_with u cause.Doomed intents c)
          (well_ends actions paths tree u ending.Abort (λ l. body.Aborted l cause.Doomed) intents c none good)
      by false = kinds b.kind refl

  -- the second reason is that it waits
  above_quiet : (b : Branch) (c : Coord) (rs : List (ℕ × Bool)) →
      input.first_reason ((6, is_some b.ended) ∷ (7, waits_above b c || waits_below b c) ∷ rs) ≡ None → waits_above b c ≡ false
  above_quiet b c rs is =
      let first = off ((6, is_some b.ended) ∷ (7, waits_above b c || waits_below b c) ∷ rs) is in
      (or_parts (waits_above b c) (waits_below b c) (off ((7, waits_above b c || waits_below b c) ∷ rs) first.1).0).0

  pub well_acts : (intents : List (Uid × Intent)) (c : Coord) → Good c → length c.doings ≡ length c.tree.branches →
      (hd : Header) (i : Input) → refusal_up hd i c ≡ None → ((l : Label) (k : Kind) (parent : Option Label) → i ≢ input.Begin l k parent) →
      Goes c (acts i intents c)
  well_acts intents c good works hd (input.Begin l k parent) none other = absurd (other l k parent refl)
  well_acts intents c good works hd (input.Call l x o) none other = by (branch_named l c) none
    where
      by : (f : Option Branch) → refused_by (call_reasons hd x o) c f ≡ None → Goes c (on_branch (λ b. call b.path x o c) c f)
      by None e = (itself c, tt)
      by (Some b) e = both_of c (call b.path x o c)
          (well_call actions paths tree b.path x o c (waits_free c b (above_quiet b c (behind (behind (call_reasons hd x o b c))) e)) good)
  well_acts intents c good works hd (input.Include l x s) none other = by (branch_named l c) none
    where
      by : (f : Option Branch) → refused_by (include_reasons hd x) c f ≡ None → Goes c (on_branch (λ b. include b.path x s c) c f)
      by None e = (itself c, tt)
      by (Some b) e = both_of c (include b.path x s c) (well_include actions paths tree b.path x s c
          (waits_free c b (above_quiet b c (behind (behind (include_reasons hd x b c))) e)) good)
  well_acts intents c good works hd (input.Commit l) none other = by (branch_named l c) refl none
    where
      by : (f : Option Branch) → branch_named l c ≡ f → refused_by commit_reasons c f ≡ None →
          Goes c (on_branch (λ b. commit_action b intents c) c f)
      by None is e = (itself c, tt)
      by (Some b) is e =
          let r6 : is_some b.ended ≡ false = (off (commit_reasons b c) e).0 in
          let r9 : has_open_child (actor b.path) c.tree ≡ false = off_third (commit_reasons b c) e in
          let found = named_found actions paths tree intents c good l b is in
          let d = work_there c works (actor b.path) b found in
          well_commit b intents c d.0 d.1 found r6 r9 good
  well_acts intents c good works hd (input.Abort l) none other = by (branch_named l c)
    where
      by : (f : Option Branch) → Goes c (on_branch (λ b. abort_action (actor b.path) intents c) c f)
      by None = (itself c, tt)
      by (Some b) = both_of c (abort_action (actor b.path) intents c) (well_abort actions paths tree (actor b.path) intents c good)
  well_acts intents c good works hd (input.GiveUp l) none other = by (branch_named l c)
    where
      by : (f : Option Branch) → Goes c (on_branch (λ b. give_up (actor b.path) intents c) c f)
      by None = (itself c, tt)
      by (Some b) = well_give_up (actor b.path) intents c good
  well_acts intents c good works hd (input.Frame k from m) none other = (itself c, tt)
  well_acts intents c good works hd input.Tick none other = (itself c, tt)
  well_acts intents c good works hd input.Restart none other = (itself c, tt)
  well_acts intents c good works hd input.Crash none other = (itself c, tt)
  well_acts intents c good works hd (input.Show x) none other = (itself c, tt)

  -- ---- acknowledgements, queries and records

  pub well_acked : (from : ℕ) (u : Uid) (intents : List (Uid × Intent)) (c : Coord) → Serves c (acked from u intents c)
  well_acked from u intents c = by (at_uid u c.telling) refl
    where
      told_on : (m : List (Uid × Intent)) → ((w : Uid) (j : Intent) → In (w, j) m → (k : Intent) × In (w, k) c.telling) →
          GoesOn c (record c { telling = m })
      told_on m old = record {
        settled = λ w s. s;
        own = λ w. refl;
        works = refl;
        branches = refl;
        labels = refl;
        kinds = λ w b f. (b, f, refl);
        told = λ w j k. let o = old w j (in_from (w, j) m k) in inl (o.0, in_to (w, o.0) c.telling o.1);
      }

      gone : (e : Coord) (o : Option Intent) → AreTrue e (tolds_let_go u (without_uid u intents) c o)
      gone e None = tt
      gone e (Some i) = one (not (uid_eq i.root u) && is_over (branch_of i.root c.tree))
        where
          one : (b : Bool) →
              AreTrue e (cond b (tell_all i.root false ((i.root, ending.Abort) ∷ []) (let_go i.root (without_uid u intents) c i.nodes)) [])
          one true = true_tells e i.root false ((i.root, ending.Abort) ∷ []) (let_go i.root (without_uid u intents) c i.nodes)
              (λ w is. abort_none w i.root is)
          one false = tt

      left : (i : Intent) → at_uid u c.telling ≡ Some i → (ns : List ℕ) → Serves c (acked_left u i intents c ns)
      left i is [] = (
        told_on (without_uid u c.telling) (λ w j k. (j, without_in u (w, j) c.telling k)),
        (tt, gone (record c { telling = without_uid u c.telling }) (at_uid u intents)),
      )
      left i is (n ∷ ns) = (
        told_on (put_uid u (record i { nodes = n ∷ ns }) c.telling)
            (λ w j k. ⊎_elim (λ same. (i, subst (λ x. In (x, i) c.telling) (sym same) (at_in u i c.telling is))) (λ old. old)
            (put_in u (record i { nodes = n ∷ ns }) w j c.telling k)),
        tt,
      )

      by : (o : Option Intent) → at_uid u c.telling ≡ o → Serves c (acked_by from u intents c o)
      by None is = (itself c, tt)
      by (Some i) is = one (has i.nodes from)
        where
          one : (b : Bool) → Serves c (cond {A = Served Coord (Unit {0})} b (acked_left u i intents c (without_number from i.nodes))
              (record { part = c; outs = []; reply = None }))
          one true = left i is (without_number from i.nodes)
          one false = (itself c, tt)

  -- an own top that was begun, and that isn't open, is over
  top_over : (c : Coord) → Good c → (u : Uid) → IsTopAction actions u → is_open u c.tree ≡ false → is_own u c.tree ≡ true → IsOver u c.tree
  top_over c good u top closed own =
      let a = top.0 in
      let f = good.home a u top.1 (subst (λ w. is_on (uids_of a.path) w ≡ true) top.2 (on_own a.path)) own in
      let found : branch_of u c.tree ≡ Some f.0 = ap (λ w. branch_of w c.tree) (sym top.2) ∙ f.1 in
      (f.0, found, ended (is_some (let b = f.0 in b.ended)) (ap is_open_branch (sym found) ∙ closed))
    where
      ended : (b : Bool) → not b ≡ false → b ≡ true
      ended true e = refl
      ended false e = let no_way : true ≡ false = e in cc

  pub true_query : (from : ℕ) (u : Uid) (intents : List (Uid × Intent)) (c : Coord) → AreOfTops actions intents →
      AreOfNode c.tree.node c.tree.inc intents → Good c → AreTrue c (answer_query from u intents c)
  true_query from u intents c tops home good = first (is_open u c.tree || is_deferred u intents from) refl
    where
      aborts : (r : Uid) → AreTrue c (tell r false ((u, ending.Abort) ∷ []) from ∷ [])
      aborts r = true_tells c r false ((u, ending.Abort) ∷ []) (from ∷ []) (λ w is. abort_none w u is)

      commits : (r : Uid) (ack : Bool) → IsClaimed u c → AreTrue c (tell r ack ((u, ending.Commit) ∷ []) from ∷ [])
      commits r ack claim =
          true_tells c r ack ((u, ending.Commit) ∷ []) (from ∷ []) (λ w is. subst (λ x. IsClaimed x c) (commit_one w u is) claim)

      kept : (o : Option Branch) → branch_of u c.tree ≡ o → ended_so ending.Commit o ≡ true → IsOver u c.tree
      kept None is e = let no_way : false ≡ true = e in cc
      kept (Some b) is e = (b, is, over b.ended e)
        where
          over : (x : Option End) → has_end ending.Commit x ≡ true → is_some x ≡ true
          over None f = let no_way : false ≡ true = f in cc
          over (Some y) f = refl

      decided : AreTrue c (answer_decided from u c)
      decided = one (is_kept_commit from u c) refl
        where
          one : (b : Bool) → is_kept_commit from u c ≡ b → AreTrue c (cond b (tell (root_or_self u (branch_of u c.tree)) false
              ((u, ending.Commit) ∷ []) from ∷ []) (tell (root_or_self u (branch_of u c.tree)) false ((u, ending.Abort) ∷ []) from ∷ []))
          one true is =
              let k = (and_parts (is_kept_top u c) (is_open (root_or_self u (branch_of u c.tree)) c.tree && took_part from (doing_of u c))
              is).0 in
              commits (root_or_self u (branch_of u c.tree)) false (over_claim c u
              (kept (branch_of u c.tree) refl (and_parts (is_constituent_branch (branch_of u c.tree)) (is_committed u c.tree) k).1))
          one false is = aborts (root_or_self u (branch_of u c.tree))

      recorded : is_open u c.tree ≡ false → (o : Option Intent) → at_uid u intents ≡ o → AreTrue c (answer_recorded from u c o)
      recorded closed None is = decided
      recorded closed (Some i) is = one (has i.nodes from)
        where
          one : (b : Bool) → AreTrue c (cond b (tell i.root true ((u, ending.Commit) ∷ []) from ∷ []) (answer_decided from u c))
          one true = let q = node_in c.tree.node c.tree.inc u i intents home (at_in u i intents is) in commits i.root true
              (q.0, λ own. inl (top_over c good u (top_in actions u i intents tops (at_in u i intents is)) closed own), q.1)
          one false = decided

      first : (b : Bool) → (is_open u c.tree || is_deferred u intents from) ≡ b →
          AreTrue c (cond b [] (answer_recorded from u c (at_uid u intents)))
      first true is = tt
      first false is = recorded (or_parts (is_open u c.tree) (is_deferred u intents from) is).0 (at_uid u intents) refl

-- the tolds of records
pub true_records : (c : Coord) → IsFaithful c → AreTrue c (tolds_again c.telling)
true_records c f = by c.telling (λ e i. f.told e.0 e.1 (in_to e c.telling i))
  where
    by : (es : List (Uid × Intent)) → ((e : Uid × Intent) → In e es → IsClaimed e.0 c) → AreTrue c (tolds_again es)
    by [] each = tt
    by (e ∷ es) each =
        true_both c (tell_all e.1.root true ((e.0, ending.Commit) ∷ []) e.1.nodes) _ (true_tells c e.1.root true ((e.0, ending.Commit) ∷ [])
        e.1.nodes (λ w is. subst (λ x. IsClaimed x c) (commit_one w e.0 is) (each e (inl refl)))) (by es (λ d i. each d (inr i)))

-- ---- what is kept

pub faithful_on : (c e : Coord) → GoesOn c e → IsFaithful c → IsFaithful e
faithful_on c e g f = record {
  works = g.works ∙ f.works ∙ sym g.branches;
  told = λ u i k. ⊎_elim (λ old. claim_on c e g u (f.told u old.0 old.1)) (λ new. new) (g.told u i k);
}

-- what was begun isn't of a later incarnation
pub not_own : (actions : List Action) (node inc later count : ℕ) → AreCounted node inc count actions → inc < later → (u : Uid) →
    is_own u (let c = new_coord node later in c.tree) ≡ true → IsTopAction actions u → ⊥
not_own actions node inc later count counted up u own top =
    let q = and_parts (u.node == node) (u.inc == later) own in
    let a = top.0 in
    let at_inc : u.inc ≡ later = eqb-true u.inc later q.1 in
    ⊎_elim (λ less. omega (arith, less, up, at_inc)) (λ same. let is : u.inc ≡ inc = same.0 in omega (arith, is, up, at_inc))
    (counted a u top.1 (subst (λ w. is_on (uids_of a.path) w ≡ true) top.2 (on_own a.path)) (eqb-true u.node node q.0))

-- a coordinator that starts with the records of earlier incarnations
pub faithful_new : (actions : List Action) (node inc later count : ℕ) (intents : List (Uid × Intent)) → AreCounted node inc count actions →
    inc < later → AreOfTops actions intents → AreOfNode node inc intents → IsFaithful (record (new_coord node later) { telling = intents })
faithful_new actions node inc later count intents counted up tops home = record {
  works = refl;
  told = λ u i k. let q = node_in node inc u i intents home (in_from (u, i) intents k) in (
    q.0,
    λ own. absurd (not_own actions node inc later count counted up u own (top_in actions u i intents tops (in_from (u, i) intents k))),
    omega (arith, q.1, up),
  );
}

-- ---- an action begins

get_still : {A : Type 0} (xs : List A) (k : ℕ) (a b : A) → slice_get xs k ≡ Some a → slice_get (xs ++ b ∷ []) k ≡ Some a
get_still {A} [] k a b is = let no_way : ◌≡◌ {A = Option A} None (Some a) = is in cc
get_still (x ∷ xs) zero a b is = is
get_still (x ∷ xs) (suc k) a b is = get_still xs k a b is

place_still : {A : Type 0} (xs : List A) (k : ℕ) (a b : A) → at_place k xs ≡ Some a → at_place k (xs ++ b ∷ []) ≡ Some a
place_still {A} xs zero a b is = let no_way : ◌≡◌ {A = Option A} None (Some a) = is in cc
place_still xs (suc k) a b is = get_still xs k a b is

module _ (l : Label) (k : Kind) (parent : Option Label) (c : Coord) where
  abbrev begun_c : Coord
  begun_c = (begin_action l k parent (parent_of parent c) c).part

  pub claim_begins : (u : Uid) → IsClaimed u c → IsClaimed u begun_c
  claim_begins u claim = (
    claim.0,
    λ own. ⊎_elim (λ o. inl (o.0, grown_still k (path_below k (parent_of parent c) (next_uid c.tree)) c.tree u o.0 o.1, o.2))
        (λ q. inr (q.0, q.1, by (is_own u c.tree) q.0 q.2, q.3)) (claim.1 own),
    claim.2,
  )
    where
      fresh : Doing
      fresh = record { label = l; req = 0; now = Idle; took = [] }

      by : (b : Bool) (d : Doing) → cond b (at_place u.num c.doings) None ≡ Some d →
          cond b (at_place u.num (c.doings ++ fresh ∷ [])) None ≡ Some d
      by true d is = place_still c.doings u.num d fresh is
      by false d is = is

  pub faithful_begins : IsFaithful c → IsFaithful begun_c
  faithful_begins f = record {
    works = length-append c.doings _ ∙ ap (λ n. n + 1) f.works ∙ sym (length-append c.tree.branches _);
    told = λ u i j. claim_begins u (f.told u i j);
  }

-- ---- messages and an action that begins

-- what stands above an action of this coordinator is its own
own_above : (paths : Paths) → IsTree paths → (t : Tree) → HasLists paths t → (u : Uid) (n : ℕ) (w : Uid) (b : Branch) →
    length (paths w) ≤ n → branch_of w t ≡ Some b → is_on (paths w) u ≡ true → is_own u t ≡ true
own_above paths tree t lists u zero w b short found on = absurd (empty (paths w) short on)
  where
    empty : (us : List Uid) → length us ≤ 0 → is_on us u ≡ true → ⊥
    empty [] le o = let no_way : false ≡ true = o in cc
    empty (x ∷ us) le o = absurd (omega (arith, le))
own_above paths tree t lists u (suc n) w b short found on =
    ⊎_elim (λ same. ap (λ v. is_own v t) (sym same) ∙ (found_by w t b found).0)
    (λ other. let up = above_of paths tree t lists u w b found on other in let p = lists.parents w up.0 b found up.1 in
    own_above paths tree t lists u n up.0 p.0 (shorter paths tree t lists w up.0 n up.1 up.3 short) p.1 up.2) (uid_cases w u)

module _ (actions : List Action) (begun : AreBegun actions) (paths : Paths) (tree : IsTree paths) (l : Label) (k : Kind) (parent : Option
    Label) (c : Coord) (good : IsGoodCoord actions paths c) (may : MayBegin actions k (parent_of parent c)) (none : begin_refusal k c parent
    ≡ None) (agree : uids_of (path_below k (parent_of parent c) (next_uid c.tree)) ≡ paths (next_uid c.tree)) where
  abbrev p : Path
  p = path_below k (parent_of parent c) (next_uid c.tree)

  same : (n : ℕ) → (n == n) ≡ true
  same n = grind arith

  -- all on the path of the new action are this coordinator's
  pub own_on : (u : Uid) → is_on (uids_of p) u ≡ true → is_own u c.tree ≡ true
  own_on u on = ⊎_elim (λ new. ap (λ v. is_own v c.tree) new ∙ (λ i. same c.tree.node i && same c.tree.inc i)) (λ other. above other)
      (uid_cases u (next_uid c.tree))
    where
      above : u ≢ next_uid c.tree → is_own u c.tree ≡ true
      above other =
          let its = next_path actions begun k (parent_of parent c) c.tree may in
          let b = its.above u on other in
          let found = parent_found actions begun paths tree l k parent c good may none agree b.0 b.1 in
          own_above paths tree c.tree good.tree.lists u (length (paths (actor (let x = b.0 in x.path)))) (actor (let x = b.0 in x.path)) b.0
          (omega arith) found (ap (λ us. is_on us u) (sym (good.tree.lists.paths_are (actor (let x = b.0 in x.path)) b.0 found)) ∙ b.2)

  -- and none of them has ended or is at its commit
  pub begins_clear : (u : Uid) → (is_own u c.tree ≡ true → IsSettled u c) → is_on (uids_of p) u ≡ false
  begins_clear u claim = by (is_own u c.tree) refl
    where
      by : (o : Bool) → is_own u c.tree ≡ o → is_on (uids_of p) u ≡ false
      by true own = none_above actions begun paths tree l k parent c good may none agree u (claim own)
      by false own = false_from_ne_true (is_on (uids_of p) u) (λ on. never (is_own u c.tree) (own_on u on) own)

  pub fits_begins : (m : Message) → ((u : Uid) → Seals m u → is_own u c.tree ≡ true → IsSettled u c) → FitsMessage actions m →
      FitsMessage (record { path = p; kind = k } ∷ actions) m
  fits_begins m t fits = message_more (record { path = p; kind = k }) actions m (λ u s. begins_clear u (t u s)) fits

-- ---- records on disk

put_home : (n h : ℕ) (u : Uid) (i : Intent) (m : List (Uid × Intent)) → IsOfNode n h u → AreOfNode n h m → AreOfNode n h (put_uid u i m)
put_home n h u i [] its all = (its, tt)
put_home n h u i (e ∷ es) its all = by (uid_order u e.0) (put_home n h u i es its all.1)
  where
    by : (r : Ordering) → AreOfNode n h (put_uid u i es) →
        AreOfNode n h (match_ordering r ((u, i) ∷ e ∷ es) ((e.0, i) ∷ es) (e ∷ put_uid u i es))
    by Less ih = (its, all)
    by Equal ih = (all.0, all.1)
    by Greater ih = (all.0, ih)

without_home : (n h : ℕ) (u : Uid) (m : List (Uid × Intent)) → AreOfNode n h m → AreOfNode n h (without_uid u m)
without_home n h u [] all = tt
without_home n h u (e ∷ es) all = by (uid_order u e.0) (without_home n h u es all.1)
  where
    by : (r : Ordering) → AreOfNode n h (without_uid u es) → AreOfNode n h (cond (is_eq r) es (e ∷ without_uid u es))
    by Less ih = (all.0, ih)
    by Equal ih = all.1
    by Greater ih = (all.0, ih)

pub worked_home : (n h : ℕ) (w : Work) (d : Disk) → IsOwnRecord n h w → AreOfNode n h d.intents →
    AreOfNode n h (let e = worked w d in e.intents)
worked_home n h Look d fits home = home
worked_home n h (PutInc i) d fits home = home
worked_home n h (Prepare role.Store u states) d fits home = home
worked_home n h (Prepare role.Names u states) d fits home = home
worked_home n h (Commit role.Store u) d fits home = home
worked_home n h (Commit role.Names u) d fits home = home
worked_home n h (Abort role.Store u) d fits home = home
worked_home n h (Abort role.Names u) d fits home = home
worked_home n h (PutIntent u i) d fits home = put_home n h u i d.intents fits home
worked_home n h (RemoveIntent u) d fits home = without_home n h u d.intents home

pub stopped_home : (n h : ℕ) (how : Stop) (w : Work) (d : Disk) → IsOwnRecord n h w → AreOfNode n h d.intents →
    AreOfNode n h (let e = stopped how w d in e.intents)
stopped_home n h Before w d fits home = home
stopped_home n h After w d fits home = worked_home n h w d fits home
stopped_home n h (InPart which) Look d fits home = home
stopped_home n h (InPart which) (PutInc i) d fits home = home
stopped_home n h (InPart which) (Prepare r u states) d fits home = home
stopped_home n h (InPart which) (Commit role.Store u) d fits home = home
stopped_home n h (InPart which) (Commit role.Names u) d fits home = home
stopped_home n h (InPart which) (Abort r u) d fits home = home
stopped_home n h (InPart which) (PutIntent u i) d fits home = home
stopped_home n h (InPart which) (RemoveIntent u) d fits home = home

-- in a later incarnation the records are of this one or earlier ones
pub later_home : (n h i : ℕ) (m : List (Uid × Intent)) → h ≤ i → AreOfNode n h m → AreOfNode n i m
later_home n h i [] up all = tt
later_home n h i (e ∷ es) up all = ((all.0.0, omega (arith, all.0.1, up)), later_home n h i es up all.1)
