-- A coordinator hears an answer, takes an input, or sends again, and decides nothing: what holds of outcomes goes on.
use Rattle.arj_law_parts.proofs.Words
use Words.{◌≡◌, ◌≢◌, ◌∙◌, ◌++◌, ◌==◌, ◌&&◌, ◌||◌, ℕ, Bool, true, false, cond, length, List, [], ◌∷◌, map, Option, Some, None, refl, sym, ap}
use Words.{subst, ⊎_elim, is_some, AllByRecursion, and_parts, Line, Asked, Body, End, Header, Kind, Label, Message, Uid, Reply, actor}
use Words.{answers, ask_kind, reply_kind, again_all, again_now, gaveup_lines, give_up_doing, gives_up, heard, heard_by, heard_doing}
use Words.{heard_none, heard_now, last_req, mark_lines, moved_commit, step_commit, waits_for_commit, Machine, Plan, ask_of, left_of}
use Words.{nodes_given_up, plan_of, Calling, Committing, Coord, Doing, Idle, Now, doing_of, plan_for, root_at, Did, Disk, Do, Effect}
use Words.{Intent, Say, Send, Served, decide, tell_all, tick_outs, Parts, holders, query_about, with_coord, has, Input, acts, branch_named}
use Words.{commit_reasons, on_branch, refusal_up, refused_by, tolds_again, waits_above, waits_below, Branch, root_of, Seen}
use Words.body
use Words.ending
use Words.kind
use Words.commit
use Words.input
use Rattle.arj_law_promise.proofs.Terms
use Terms.{Action, paths_of, AreTrue, GoesOn, IsBusy, IsGoodCoord, IsVoting, IsTree, AreNumbered, begun_tree, named_found, off, found_by}
use Terms.{asks_telling, well_acts, well_again, well_heard, IsGoodOf, is_act, In, up, Up, Walks, book, is_top, new_book, IsKnown, AreRight}
use Terms.{was_excluded, AreAt, IsNext, at_again, at_heard, came_acts, waits_not, some_is}
use Rattle.arj_law_promise.proofs.settling
use settling.{Cores.HasMarks, Cores.IsWatched, Cores.marks_on, Milds.here_is, Milds.the_node}
use settling.Calms.{AllCalm, Decided, Goes, IsYes, Still, acts_goes, again_calm, calm_both, calm_tells, heard_goes}
use settling.Knowns.{Known, asked_settled, coord, knows, node_is, never, numbers, works}
use settling.Marks.{answer_marks, excluded_line, excludes, giveup_marks, start_marks}
use settling.Stills.{IsPlainSend, IsRight, Unasked, coord_plain, still_walk}
use settling.Trails.{HasLine, SaysIn, says_left, says_right}
use settling.Yeses.{AskedFrom, Votes, answer_votes, giveup_votes, start_votes}

pub plain_sends : (c : Coord) (outs : List Effect) → AreTrue c outs → AllByRecursion IsPlainSend outs
plain_sends c [] all = tt
plain_sends c (Say b ∷ es) all = (tt, plain_sends c es all.1)
plain_sends c (Do w ∷ es) all = (tt, plain_sends c es all.1)
plain_sends c (Send to m ∷ es) all = (coord_plain m (let z = all.0 in z.plain), plain_sends c es all.1)

-- ---- what a tick sends

again_telling : (ds : List Doing) (c : Coord) → (again_all ds c).part.telling ≡ c.telling
again_telling [] c = refl
again_telling (q ∷ ds) c = again_telling ds (again_now c q.now).part ∙ now q.now
  where
    now : (n : Now) → (again_now c n).part.telling ≡ c.telling
    now Idle = refl
    now (Calling s) = refl
    now (Committing m) = asks_telling (plan_of m).path (plan_of m).req (commit.waiting m) c

pub plain_both : (xs ys : List Effect) → AllByRecursion IsPlainSend xs → AllByRecursion IsPlainSend ys →
    AllByRecursion IsPlainSend (xs ++ ys)
plain_both [] ys a b = b
plain_both (x ∷ xs) ys a b = (a.0, plain_both xs ys a.1 b)

pub queries_plain : (us : List Uid) → AllByRecursion IsPlainSend (map query_about us)
queries_plain [] = tt
queries_plain (u ∷ us) = (((λ a q. cc q), (λ w q. cc q)), queries_plain us)

pub tolds_plain : (telling : List (Uid × Intent)) → AllByRecursion IsPlainSend (tolds_again telling)
tolds_plain [] = tt
tolds_plain (x ∷ es) = let i = x.1 in
    plain_both (tell_all i.root true ((x.0, ending.Commit) ∷ []) i.nodes) (tolds_again es) (one i.nodes) (tolds_plain es)
  where
    one : (ns : List ℕ) → AllByRecursion IsPlainSend (tell_all (let i = x.1 in i.root) true ((x.0, ending.Commit) ∷ []) ns)
    one [] = tt
    one (n ∷ ns) = (((λ a q. cc q), (λ w q. cc q)), one ns)

module _ (U : Uid → Type 0) (c e : Coord) where
  pub queries_calm : (us : List Uid) → AllCalm U c e (map query_about us)
  queries_calm [] = tt
  queries_calm (u ∷ us) = (((λ h states q. absurd (cc q)), (λ w q. absurd (cc q))), queries_calm us)

  pub tolds_calm : (telling : List (Uid × Intent)) → AllCalm U c e (tolds_again telling)
  tolds_calm [] = tt
  tolds_calm (x ∷ es) = let i = x.1 in calm_both U c e (tell_all i.root true ((x.0, ending.Commit) ∷ []) i.nodes) (tolds_again es)
      (calm_tells U c e i.root true ((x.0, ending.Commit) ∷ []) i.nodes
      (λ w last. absurd (let z : ending.Commit ≡ ending.Abort = ap (λ (y : Uid × End). y.1) (some_is last) in cc z))) (tolds_calm es)

module _ (k : ℕ) (d : Disk) (t : Parts) (M : Seen) (right : IsRight (up k d t M)) (e : ℕ) where
  abbrev Start : Seen
  Start = up k d t M

  here : Start.nodes k ≡ Some (the_node k d (Some t))
  here = here_is k d (Some t) M

  abbrev pub begun : List Action
  begun = right.0.0.0.0.0.0

  good : IsGoodOf begun Start
  good = right.0.0.0.0.0.1

  pub tree : IsTree (paths_of begun)
  tree = begun_tree begun good.begun

  pub coords : IsGoodCoord begun (paths_of begun) t.coord
  coords = coord Start right.0 k (the_node k d (Some t)) t here refl

  pub long : length t.coord.doings ≡ length t.coord.tree.branches
  long = works Start right.0 k (the_node k d (Some t)) t here refl

  pub uses : (u : Uid) (q : Doing) (m : Machine) → doing_of u t.coord ≡ Some q → q.now ≡ Committing m → (let p = plan_of m in p.used) ≢ []
  uses u q m found now = let l = knows Start right.0 k (the_node k d (Some t)) t here refl in let z = l.tops in let y = z.uses in
      y.plans u q m found now

  watched : IsWatched Start k (the_node k d (Some t)) t
  watched = let core = right.1 in core.coords k (the_node k d (Some t)) t here refl

  -- a line that excludes a node is about the top that commits
  module _ (u : Uid) (q : Doing) (found : doing_of u t.coord ≡ Some q) (m : Machine) (now : q.now ≡ Committing m) where
    excluded_here : (x n : ℕ) (lines : List Line) → HasLine M.lines lines (body.Excluded q.label x n) → AreRight new_book lines →
        was_excluded lines n u ≡ true
    excluded_here x n lines has_it its =
        let v : IsVoting t.coord.tree u (plan_of m) = subst (IsBusy t.coord.tree u) now (coords.busy u q found) in
        let a = v.asking in
        let b : Branch = a.branch in
        let g = knows Start right.0 k (the_node k d (Some t)) t here refl in
        let w = g.knows in
        let s : IsKnown (book M.lines) u b.kind b.ended q.label = w.acts u b q a.found found in
        subst (λ z. was_excluded lines n z ≡ true) s.uid
        (excluded_line M.lines lines q.label s.act x n its s.named (ap is_top s.kind ∙ top b.kind (v.top b a.found) a.unserial) has_it)
      where
        top : (z : Kind) → z ≢ kind.Nested → z ≢ kind.Serial → is_top z ≡ true
        top kind.Nested n s = absurd (n refl)
        top kind.Serial n s = absurd (s refl)
        top kind.Top n s = refl
        top kind.Independent n s = refl
        top kind.Constituent n s = refl

  -- ---- an answer

  module _ (from : ℕ) (m : Message) (there : In (record { from = from; to = k; message = m }) M.sent) (a : Asked) (r : Reply)
      (of : answers m ≡ Some (a, r)) where
    abbrev pub its : Served Coord (Unit {0})
    its = heard from a r d.intents t.coord

    -- what is said of a commit that goes on
    its_outs : (q : Doing) (z : Machine) → doing_of a.act t.coord ≡ Some q → q.now ≡ Committing z → waits_for_commit from a r z ≡ true →
        its.outs ≡ (moved_commit a.act (commit.answered from z r) d.intents t.coord).outs
    its_outs q z found now waiting = ap (λ o. (heard_doing from a r d.intents t.coord o).outs) found
        ∙ ap (λ n. (heard_now from a r d.intents t.coord n).outs) now ∙ ap (λ b. (cond {A = Served Coord (Unit {0})} b
        (heard_by (moved_commit a.act (commit.answered from z r) d.intents t.coord)) (heard_none t.coord)).outs) waiting

    its_votes : AreAt (Votes k M.sent) its.part
    its_votes = at_heard (Votes k M.sent) t.coord watched.votes from a r d.intents
        (λ q z found now waiting v. answer_votes k M.sent a.act from z r (λ yes.
        (record { from = from; to = k; message = m }, there, refl, a, of ∙ ap (λ (y : Reply). Some (a, y)) yes, refl)) (left z waiting) v)
      where
        left : (z : Machine) → waits_for_commit from a r z ≡ true → has (left_of z) from ≡ true
        left z waiting = (and_parts (reply_kind r == ask_kind (ask_of z from)) (has (left_of z) from)
            (and_parts ((plan_of z).req == a.req) ((reply_kind r == ask_kind (ask_of z from)) && has (left_of z) from) waiting).1).1

    its_marks : (lines more : List Line) → lines ≡ M.lines ++ more → ((b : Body) → SaysIn b its.outs → HasLine M.lines lines b) →
        AreRight new_book lines → AreAt (HasMarks lines) its.part
    its_marks lines more are said rights = at_heard (HasMarks lines) t.coord (λ u q z found now.
        subst (λ ls. HasMarks ls u z) (sym are) (marks_on M.lines more u z (watched.marked u q z found now))) from a r d.intents
        (λ q z found now waiting v. answer_marks lines a.act from z r v
        (excludes lines a.act t.coord q found (commit.answered from z r).marks (λ x n says. excluded_here a.act q found z now x n lines
        (said (body.Excluded q.label x n) (subst (SaysIn (body.Excluded q.label x n)) (sym (its_outs q z found now waiting))
        (says_left (body.Excluded q.label x n) (mark_lines a.act (commit.answered from z r).marks t.coord) _ says))) rights)))

    pub goes : Goes (Unasked k d t M right) (IsYes a r) t.coord its.part its.outs
    goes = heard_goes (Unasked k d t M right) begun (paths_of begun) tree t.coord coords long uses from a r d.intents

    pub well : GoesOn t.coord its.part × AreTrue its.part its.outs
    well = well_heard begun (paths_of begun) tree from a r d.intents t.coord coords

    heard_still : its.part.telling ≡ t.coord.telling → AllCalm (Unasked k d t M right) t.coord its.part its.outs → Walks Known e k its.outs
        (Up Known k (with_coord t its.part)) d M → Walks IsRight e k its.outs (Up IsRight k (with_coord t its.part)) d M
    heard_still telling calm known = still_walk k d t M right (with_coord t its.part) (λ u. let g = well.0 in
        g.own u) telling its_votes e its.outs calm (plain_sends its.part its.outs well.1) its_marks known

    pub heard_walk : ((u : Uid) (q : Doing) (p : Plan) → doing_of u t.coord ≡ Some q → q.now ≡ Committing (commit.Confirming p) → its.part
        ≡ (decide (record p { confirmed = true }) t.coord).part → its.outs ≡ (decide (record p { confirmed = true }) t.coord).outs →
        Walks IsRight e k its.outs (Up IsRight k (with_coord t its.part)) d M) → Walks Known e k its.outs
        (Up Known k (with_coord t its.part)) d M → Walks IsRight e k its.outs (Up IsRight k (with_coord t its.part)) d M
    heard_walk decides known = by goes
      where
        by : Goes (Unasked k d t M right) (IsYes a r) t.coord its.part its.outs →
            Walks IsRight e k its.outs (Up IsRight k (with_coord t its.part)) d M
        by (Still telling calm) = heard_still telling calm known
        by (Decided u q p found now part outs heard_it) = decides u q p found now part outs

  -- ---- an input

  module _ (hd : Header) (i : Input) (is : is_act i ≡ true) (free : refusal_up hd i t.coord ≡ None) where
    abbrev does : Did Coord
    does = acts i d.intents t.coord

    pub other : (l : Label) (how : Kind) (parent : Option Label) → i ≢ input.Begin l how parent
    other l how parent same = let no_way : false ≡ true = sym (ap is_act same) ∙ is in cc no_way

    its_home : (l : Label) (b : Branch) → branch_named l t.coord ≡ Some b → (actor b.path).node ≡ k
    its_home l b named = node_is Start right.0 k (the_node k d (Some t)) t here refl (actor b.path) b
        (named_found begun (paths_of begun) tree d.intents t.coord coords l b named)

    -- a store that was asked stands against a new commit
    none_asked : (l : Label) (b : Branch) → i ≡ input.Commit l → branch_named l t.coord ≡ Some b → Unasked k d t M right (actor b.path)
    none_asked l b same named n asked =
        let free_it : refused_by commit_reasons t.coord (Some b) ≡ None = ap (refused_by commit_reasons t.coord) (sym named)
        ∙ sym (ap (λ z. refusal_up hd z t.coord) same) ∙ free in
        let r = off (commit_reasons b t.coord) free_it in
        let r7 = off ((7, waits_above b t.coord || waits_below b t.coord || input.sibling_waits b t.coord) ∷ (9, _) ∷ []) r.1 in
        let found = named_found begun (paths_of begun) tree d.intents t.coord coords l b named in
        let home = node_is Start right.0 k (the_node k d (Some t)) t here refl (actor b.path) b found in
        let own = (found_by (actor b.path) t.coord.tree b found).0 in
        ⊎_elim
        (λ over. let one : over.0 ≡ b = some_is (sym over.1 ∙ found) in never (ap (λ (z : Branch). is_some z.ended) (sym one) ∙ over.2) r.0)
        (λ at. waits_not t.coord b (first (waits_above b t.coord) (waits_below b t.coord) (input.sibling_waits b t.coord) r7.0) at)
        (asked_settled Start right.0 k (the_node k d (Some t)) t here refl (actor b.path) n
        (subst (λ j. AskedFrom j M.sent (actor b.path) n) home asked) own)
      where
        first : (x y z : Bool) → (x || y || z) ≡ false → x ≡ false
        first true y z q = absurd (cc q)
        first false y z q = refl

    pub act_well : GoesOn t.coord does.part × AreTrue does.part does.outs
    act_well = well_acts begun (paths_of begun) tree d.intents t.coord coords long hd i free other

    pub act_goes : Goes (Unasked k d t M right) (λ u. ⊥) t.coord does.part does.outs
    act_goes = acts_goes (Unasked k d t M right) begun (paths_of begun) tree t.coord coords long uses i d.intents other
        (λ l b same found named. none_asked l b same named)

    -- a step given up
    lost_outs : (l : Label) (b : Branch) (q : Doing) (z : Machine) → i ≡ input.GiveUp l → branch_named l t.coord ≡ Some b →
        doing_of (actor b.path) t.coord ≡ Some q → q.now ≡ Committing z → does.outs
        ≡ gaveup_lines (actor b.path) (nodes_given_up z) t.coord ++ (moved_commit (actor b.path) (commit.given_up z) d.intents t.coord).outs
    lost_outs l b q z same named found now = ap (λ w. (acts w d.intents t.coord).outs) same ∙ ap (λ f. (on_branch
        (λ (x : Branch). give_up_doing (actor x.path) d.intents t.coord (doing_of (actor x.path) t.coord)) t.coord f).outs) named ∙ ap (λ o.
        (give_up_doing (actor b.path) d.intents t.coord o).outs) found ∙ ap (λ n. (gives_up (actor b.path) d.intents t.coord n).outs) now

    act_votes : AreAt (Votes k M.sent) does.part
    act_votes w q z found now = ⊎_elim (λ old. watched.votes w old.0 z old.1 old.2) (λ new. new)
        (came_acts (Votes k M.sent) t.coord i d.intents other lost starts w z (q, found, now))
      where
        lost : (l : Label) (b : Branch) (q0 : Doing) (z0 : Machine) → i ≡ input.GiveUp l → branch_named l t.coord ≡ Some b → doing_of
            (actor b.path) t.coord ≡ Some q0 → q0.now ≡ Committing z0 → IsNext (Votes k M.sent) (actor b.path) (commit.given_up z0).step
        lost l b q0 z0 same named found0 now0 = giveup_votes k M.sent (actor b.path) z0 (watched.votes (actor b.path) q0 z0 found0 now0)

        starts : (l : Label) (b : Branch) → i ≡ input.Commit l → branch_named l t.coord ≡ Some b → IsNext (Votes k M.sent) (actor b.path)
            (commit.start (plan_for b.path (last_req (doing_of (actor b.path) t.coord)) (root_at (root_of b.path) t.coord) t.coord)).step
        starts l b same named = start_votes k M.sent (actor b.path) b.path (last_req (doing_of (actor b.path) t.coord))
            (root_at (root_of b.path) t.coord) t.coord
            (λ n asked. none_asked l b same named n (subst (λ j. AskedFrom j M.sent (actor b.path) n) (sym (its_home l b named)) asked))

    act_marks : (lines more : List Line) → lines ≡ M.lines ++ more → ((b : Body) → SaysIn b does.outs → HasLine M.lines lines b) →
        AreRight new_book lines → AreAt (HasMarks lines) does.part
    act_marks lines more are said rights w q z found now = ⊎_elim
        (λ old. subst (λ ls. HasMarks ls w z) (sym are) (marks_on M.lines more w z (watched.marked w old.0 z old.1 old.2))) (λ new. new)
        (came_acts (HasMarks lines) t.coord i d.intents other lost starts w z (q, found, now))
      where
        lost : (l : Label) (b : Branch) (q0 : Doing) (z0 : Machine) → i ≡ input.GiveUp l → branch_named l t.coord ≡ Some b → doing_of
            (actor b.path) t.coord ≡ Some q0 → q0.now ≡ Committing z0 → IsNext (HasMarks lines) (actor b.path) (commit.given_up z0).step
        lost l b q0 z0 same named found0 now0 =
            giveup_marks lines (actor b.path) z0 (excludes lines (actor b.path) t.coord q0 found0 (commit.given_up z0).marks
            (λ x n says. excluded_here (actor b.path) q0 found0 z0 now0 x n lines (said (body.Excluded q0.label x n) (subst (SaysIn
            (body.Excluded q0.label x n)) (sym (lost_outs l b q0 z0 same named found0 now0)) (says_right (body.Excluded q0.label x n)
            (gaveup_lines (actor b.path) (nodes_given_up z0) t.coord) (moved_commit (actor b.path) (commit.given_up z0) d.intents
            t.coord).outs (says_left (body.Excluded q0.label x n) (mark_lines (actor b.path) (commit.given_up z0).marks t.coord)
            (step_commit (actor b.path) (commit.given_up z0).step d.intents t.coord).outs says)))) rights))

        starts : (l : Label) (b : Branch) → i ≡ input.Commit l → branch_named l t.coord ≡ Some b → IsNext (HasMarks lines) (actor b.path)
            (commit.start (plan_for b.path (last_req (doing_of (actor b.path) t.coord)) (root_at (root_of b.path) t.coord) t.coord)).step
        starts l b same named =
            start_marks lines (actor b.path) b.path (last_req (doing_of (actor b.path) t.coord)) (root_at (root_of b.path) t.coord) t.coord

    act_still : does.part.telling ≡ t.coord.telling → AllCalm (Unasked k d t M right) t.coord does.part does.outs → Walks Known e k
        does.outs (Up Known k (with_coord t does.part)) d M → Walks IsRight e k does.outs (Up IsRight k (with_coord t does.part)) d M
    act_still telling calm known = still_walk k d t M right (with_coord t does.part) (λ u. let g = act_well.0 in
        g.own u) telling act_votes e does.outs calm (plain_sends does.part does.outs act_well.1) act_marks known

    pub act_walk : Walks Known e k does.outs (Up Known k (with_coord t does.part)) d M →
        Walks IsRight e k does.outs (Up IsRight k (with_coord t does.part)) d M
    act_walk known = by act_goes
      where
        by : Goes (Unasked k d t M right) (λ u. ⊥) t.coord does.part does.outs →
            Walks IsRight e k does.outs (Up IsRight k (with_coord t does.part)) d M
        by (Still telling calm) = act_still telling calm known
        by (Decided u q p found now part outs nobody) = absurd nobody

  -- ---- a tick

  pub tick_walk : let r = again_all t.coord.doings t.coord in
      Walks Known e k (tick_outs (record { number = k; disk = d; live = Some t }) t) (Up Known k (with_coord t r.part)) d M →
      Walks IsRight e k (tick_outs (record { number = k; disk = d; live = Some t }) t) (Up IsRight k (with_coord t r.part)) d M
  tick_walk known =
      let r = again_all t.coord.doings t.coord in
      let tolds = tolds_again t.coord.telling in
      let queries = map query_about (holders d t) in
      let U = Unasked k d t M right in
      let well = well_again begun (paths_of begun) tree t.coord coords in
      still_walk k d t M right (with_coord t r.part) (λ u. let g = well.0 in g.own u) (again_telling t.coord.doings t.coord)
      (at_again (Votes k M.sent) t.coord.doings t.coord watched.votes) e (r.outs ++ tolds ++ queries)
      (calm_both U t.coord r.part (r.outs ++ tolds) queries (calm_both U t.coord r.part r.outs tolds
      (again_calm U begun (paths_of begun) tree t.coord coords long uses numbered) (tolds_calm U t.coord r.part t.coord.telling))
      (queries_calm U t.coord r.part (holders d t)))
      (plain_both (r.outs ++ tolds) queries (plain_both r.outs tolds (plain_sends r.part r.outs well.1) (tolds_plain t.coord.telling))
      (queries_plain (holders d t)))
      (λ lines more are said rights. at_again (HasMarks lines) t.coord.doings t.coord
      (λ u q z found now. subst (λ ls. HasMarks ls u z) (sym are) (marks_on M.lines more u z (watched.marked u q z found now)))) known
    where
      numbered : AreNumbered t.coord
      numbered = numbers Start right.0 k (the_node k d (Some t)) t here refl
