-- Commits of tops go in the whole world: they are called, answered, given up, decided.
use Rattle.arj_law_parts.proofs.Words
use Words.{◌≡◌, ◌≢◌, ◌≤◌, ◌<◌, ◌∙◌, ◌+◌, ◌++◌, ℕ, List, [], ◌∷◌, map, Bool, true, false, cond, Some, refl, sym, ap, subst, inr, arith}
use Words.{length, ⊤, in_from, Ask, Binding, Body, End, Head, Kind, Label, Path, Uid, request, actor, asks_all, asks_machine, asks_node}
use Words.{commit_action, commit_open, commit_top, commits_in, moved_commit, gives_up, mark_lines, step_commit, AtBind, Steps, Aborts, Asks}
use Words.{CommitStep, Confirming, Decides, Machine, Marked, Plan, Preparing, Stays, Voting, ask_of, begin_vote, has_record, left_of}
use Words.{nodes_given_up, participants, plan_of, servers_of, waiting, Calling, Committing, Coord, Doing, doing_of, on_doing, on_root, Did}
use Words.{Do, Effect, Intent, PutIntent, Say, Send, aborts_with, decide, decided, decided_told, ended, root_after, say_for, says, tell}
use Words.{tolds_of, binding_number, has, put_uid, Branch, branch_of, root_of, request_reads_back, numbered}
use Words.body
use Words.cause
use Words.ending
use Words.kind
use Words.commit
use Rattle.arj_law_lock_view.proofs.Terms
use Terms.{Act, is_top, root, State, IsBusy, IsVoting, IsStepOf, answer_step, giveup_step, on_tree, KnowsEnds, IsBacked, Acts, ends_in}
use Terms.{IsReached, ChangesOne, called_at, moved_by, now_by, Goes, OnlyEnded, SeesWhole, plan_now, OnlySent, SeesNext, HaveEnded}
use Terms.{IsDecided, HasEnded, IsTiedToLines, ArePlain, Case, HoldsNamingIn, IsSeenIn, Spot, view_in, world_at, HasStepped, IsAtCommit}
use Terms.{IsSendShown, KnowsAsks, KnowsCoord, StepGoes, coord_at, records_at, family_of, IsAskedSeen, SeesUp, AreTied, BeginNone}
use Rattle.arj_law_lock_view.proofs.facts.Given.{brought_unserial}
use Rattle.arj_law_lock_view.proofs.journal
use journal.{Pages.append_nil, Pages.behind, Pages.pages_plain, Saying.said_by}
use journal.EndTies.{calls_stay, first_stays, open_low, said_twice, step_tied, top_said}
use Rattle.arj_law_lock_view.proofs.running
use running.{AskedSteps.commit_names, AskedSteps.commit_says, DecideSteps.decides_walk, GoodSteps.steady, OtherSteps.here_of}
use running.{StepSteps.ended_stepped}
use running.CoordSteps.{coords_go, length_one, length_said, says_as, says_more, says_then}
use running.TieSteps.{none_both, on_page, page_at, plain_none}
use running.ToldSteps.{AreShownSends, ended_here, flat_plain, flat_says, one_told, plain_app, telling, tolds_shown}
use Rattle.arj_law_lock_view.proofs.view
use view.{OneSteps.work_changed, TopInputSteps.top_commits_are_taken, TreeSteps.top_kind}
use view.HeardSteps.{commit_answers_are_heard, commits_are_lost}
use view.ListedSteps.{decided_have_ended, listed_have_ended}
use view.PlanSteps.{commit_answers_are_taken, commits_are_given_up}
use Rattle.arj_law_lock_view.specs.running.Coordinating.{CommitAnswersGo, LostCommitsGo, TopCommitsGo}
use Rattle.arj_law_lock_view.specs.view.Listed.{AreUnserial}
use Rattle.arj_law_parts.specs.parts.Ends.{AreDecided}
use Rattle.arj_law_lock_view.proofs.view.HeardSteps as heard

-- ---- a coordinator's works

asks_doing : (p : Path) (req : ℕ) (asked : List (ℕ × Ask)) (c : Coord) (v : Uid) →
    doing_of v (let d = asks_all p req asked c in d.part) ≡ doing_of v c
asks_doing p req [] c v = refl
asks_doing p req (a ∷ rest) c v = asks_doing p req rest (let d = asks_node p req a c in d.part) v

-- a decided action
decided_there : (v : Uid) (q : Plan) (c : Coord) (b : Branch) (d : Doing) → branch_of v c.tree ≡ Some b → doing_of v c ≡ Some d →
    branch_of v (let e = decided v q c in e.tree) ≡ Some (record b { ended = Some ending.Commit })
decided_there v q c b d found works = by (has_record q)
  where
    E : Coord
    E = ended v ending.Commit c

    took : Coord
    took = on_doing v (λ (y : Doing). record y { took = participants q }) E

    noted : Coord
    noted = on_root (root_of q.path) (root_after q) took

    base : branch_of v noted.tree ≡ Some (record b { ended = Some ending.Commit })
    base = ap (branch_of v) (on_tree v (λ (y : Doing). record y { took = participants q }) E) ∙ ended_here c v b d ending.Commit found works

    by : (t : Bool) → branch_of v (let e = cond t
        (record noted { telling = put_uid v (record { root = root_of q.path; nodes = participants q }) noted.telling }) noted in e.tree)
        ≡ Some (record b { ended = Some ending.Commit })
    by true = base
    by false = base

-- ---- requests of a commit

module _ (c : Case) (s : Spot) (is_seen : IsSeenIn c (world_at s)) (u : Uid) (C : Coord) (knows : KnowsCoord c s C) (asked : KnowsAsks c C)
    (brings : KnowsEnds C) (T : State) (coord : SeesWhole (let f = c.fixed in f.act) (let f = c.fixed in f.code) c.x C T)
    (same_naming : T.naming ≡ (let S = c.state in S.naming))
    (d : Doing) (m : Machine) (works : doing_of u C ≡ Some d) (at : d.now ≡ Committing m) where
  abbrev h : Head
  h = record { path = (let p = plan_of m in p.path); req = (let p = plan_of m in p.req) }

  voting : IsVoting C.tree u (plan_of m)
  voting = subst (IsBusy C.tree u) at (knows.good.busy u d works)

  its : actor (let p = plan_of m in p.path) ≡ u
  its = let a = voting.asking in ap actor (sym a.path) ∙ knows.good.tree.lists.places u a.branch a.found

  works_there : doing_of (actor (let p = plan_of m in p.path)) C ≡ Some d
  works_there = ap (λ (v : Uid). doing_of v C) its ∙ works

  ended_by : (n : ℕ) (k : Machine) → m ≡ k → HaveEnded (view_in c n) (ends_in (ask_of k n)) T
  ended_by n (Voting p left) is w e there = listed_have_ended (view_in c s.node) C p.ends T (telling c s is_seen C knows T coord)
      (subst (λ (k : Machine). AreDecided (let q = plan_of k in q.ends) C.tree) is (let k = knows.sure in k.plans u d m works at))
      (subst (λ (k : Machine). AreUnserial C (let q = plan_of k in q.ends)) is (brought_unserial (family_of (let f = c.fixed in f) c.begun)
      C u d m (record { whole = (let a = is_seen.agrees in a.whole); good = knows.good }) brings works at)) w e there
  ended_by n (Preparing p left) is w e there = absurd (in_from {X = Uid × End} (w, e) [] there)
  ended_by n (Confirming p) is w e there = absurd (in_from {X = Uid × End} (w, e) [] there)

  asked_shown : (n : ℕ) → IsSendShown c s T (Send n (request h (ask_of m n)))
  asked_shown n wide within = subst (IsAskedSeen (view_in c n) wide (record { from = s.node; to = n; message = request h (ask_of m n) }) T)
      (sym (request_reads_back h (ask_of m n))) (record {
        says = λ mine. commit_says (let f = c.fixed in f) c.x c.begun s.node T C (let a = is_seen.agrees in
            a.whole) knows.good (let z = telling c s is_seen C knows T coord in
            z.works) coord binds_made asked.states n h (ask_of m n) d m works_there at (record { path = refl; same = refl });
        names = commit_names (let f = c.fixed in f) c.x c.begun s.node T C (let a = is_seen.agrees in
            a.whole) knows.good (let z = telling c s is_seen C knows T coord in
            z.works) coord binds_made asked.states n h (ask_of m n) d m works_there at (record { path = refl; same = refl });
        ended = ended_by n m refl;
      })
    where
      binds_made : (v : Uid) (y : Doing) (w : Steps) (avoid : Binding) → doing_of v C ≡ Some y → y.now ≡ Calling w → w.x ≡ c.x →
          w.at ≡ AtBind avoid → binding_number avoid < (let z = T.naming in z.bound)
      binds_made v y w avoid does calls about is =
          subst (λ (z : ℕ). binding_number avoid < z) (ap (λ n. n.bound) (sym same_naming)) (asked.avoids v y w avoid does calls is about)

  machine_shown : (ns : List ℕ) (c1 : Coord) → AreShownSends c s T
      (let e = asks_all (let p = plan_of m in p.path) (let p = plan_of m in p.req) (map (λ n. (n, ask_of m n)) ns) c1 in e.outs)
  machine_shown [] c1 = (tt, tt)
  machine_shown (n ∷ ns) c1 = let r = machine_shown ns (let e = asks_node (let p = plan_of m in p.path) (let p = plan_of m in
      p.req) (n, ask_of m n) c1 in e.part) in ((tt, r.0), (asked_shown n, r.1))

-- ---- what is told of a decision

decision_told : (c : Case) (s : Spot) (T : State) (v : Uid) (q : Plan) → HasEnded (view_in c s.node) T v ending.Commit →
    is_top (let f = c.fixed in f.act v) ≡ true → (ns : List ℕ) → AreShownSends c s T (map (decided_told (root_of q.path) v q) ns)
decision_told c s T v q so top [] = (tt, tt)
decision_told c s T v q so top (n ∷ ns) = let r = decision_told c s T v q so top ns in by (has (participants q) n) r
  where
    by : (t : Bool) → AreShownSends c s T (map (decided_told (root_of q.path) v q) ns) →
        AreShownSends c s T (cond t (tell (root_of q.path) (has_record q) ((v, ending.Commit) ∷ []) n)
        (tell (root_of q.path) false ((v, ending.Abort) ∷ []) n) ∷ map (decided_told (root_of q.path) v q) ns)
    by true r = ((tt, r.0), (λ wide within. one_told (view_in c s.node) T v ending.Commit so, r.1))
    by false r = ((tt, r.0), (λ wide within. one_told (view_in c s.node) T v ending.Abort (inr (inr (top, so.committed))), r.1))

-- ---- a step of a commit

-- how many lines a step says
abbrev lines_by : CommitStep → ℕ
lines_by (Stays m) = 0
lines_by (Asks m) = 0
lines_by (Decides q) = 1
lines_by (Aborts why q) = 1

module _ (c : Case) (s : Spot) (e : ℕ) (is_seen : IsSeenIn c (world_at s)) (holds : HoldsNamingIn c s.node (let t = s.parts in t.naming))
    (b : Branch) (d : Doing) (unserial : b.kind ≢ kind.Serial) (unnested : b.kind ≢ kind.Nested) where
  abbrev c0 : Coord
  c0 = coord_at s

  -- a decision, by a record or without one
  decides_goes : (q : Plan) (pre : List Body) (T : State) → branch_of (actor q.path) c0.tree ≡ Some b → doing_of (actor q.path) c0
      ≡ Some d → (has_record q ≡ true → IsDecided (let f = c.fixed in f.act) c0 (actor q.path) c.state) → let D = decide q c0 in
      KnowsCoord c s D.part → HasStepped c s (actor q.path) (length pre + 1) D.part T
      → (has_record q ≡ true → ArePlain pre) → BeginNone pre → AreTied c.fixed c.x ((let M = s.seen in M.lines)
      ++ numbered e (pre ++ body.Committed d.label ∷ [])) T → StepGoes c s e (record { part = D.part; outs = map Say pre ++ D.outs })
  decides_goes q pre T found works backed knows has plain none tied = by (has_record q) refl
    where
      v : Uid
      v = actor q.path

      D : Did Coord
      D = decide q c0

      so : HasEnded (view_in c s.node) T v ending.Commit
      so = decided_have_ended (view_in c s.node) D.part v ending.Commit (record b { ended = Some ending.Commit }) T
          (telling c s is_seen D.part knows T has.coord) (decided_there v q c0 b d found works) refl unserial

      told : AreShownSends c s T (map (decided_told (root_of q.path) v q) q.sent)
      told = decision_told c s T v q so
          (top_kind (let f = c.fixed in f.act v) b.kind unserial unnested (let z = steady c s is_seen in z.placed v b found)) q.sent

      work : Effect
      work = Do (PutIntent v (record { root = root_of q.path; nodes = participants q }))

      by : (t : Bool) → has_record q ≡ t → StepGoes c s e (record { part = D.part; outs = map Say pre ++ D.outs })
      by false is = subst (λ (es : List Effect). StepGoes c s e (record { part = D.part; outs = es }))
          (sym ((λ i. map Say pre ++ (cond (is i) (work ∷ []) [] ++ say_for body.Committed (works i) ++ map (decided_told (root_of q.path) v
          q) q.sent)) ∙ says_then pre (body.Committed d.label) (map (decided_told (root_of q.path) v q) q.sent)))
          (coords_go c s e v b (pre ++ body.Committed d.label ∷ []) (map (decided_told (root_of q.path) v q) q.sent) D.part T is_seen found
          knows.on told.0 (says_as c s v (length pre + 1) (length (pre ++ body.Committed d.label ∷ [])) D.part T (sym
          (length_one pre (body.Committed d.label))) has) told.1 (none_both pre (body.Committed d.label ∷ []) none (refl, tt)) tied)
      by true is = subst (λ (es : List Effect). StepGoes c s e (record { part = D.part; outs = es }))
          (sym (λ i. map Say pre
          ++ (cond (is i) (work ∷ []) [] ++ say_for body.Committed (works i) ++ map (decided_told (root_of q.path) v q) q.sent)))
          (decides_walk c s is_seen holds v (record { root = root_of q.path; nodes = participants q }) b found D.part knows.on pre T has
          (backed is) so e (body.Committed d.label) (map (decided_told (root_of q.path) v q) q.sent) told.0 told.1 (plain is) refl tied)

  module _ (u : Uid) (found : branch_of u c0.tree ≡ Some b) (works : doing_of u c0 ≡ Some d) where
    -- a decision is that of this top, and stands on votes where it has a record
    abbrev IfDecides : CommitStep → Type 0
    IfDecides (Decides q) = (actor q.path ≡ u) × (has_record q ≡ true → IsDecided (let f = c.fixed in f.act) c0 u c.state)
    IfDecides st = ⊤

    abbrev waits_in : (m : Machine) → Doing → Doing
    waits_in m y = record y { req = (let p = plan_of m in p.req); now = Committing m }

    step_walk : (st : CommitStep) (pre : List Body) (T : State) → IfDecides st → let D = step_commit u st (records_at s) c0 in
        KnowsCoord c s D.part → KnowsAsks c D.part → KnowsEnds D.part → HasStepped c s u (length pre + lines_by st) D.part T
        → ((q : Plan) → st ≡ Decides q → has_record q ≡ true → ArePlain pre) → BeginNone pre → AreTied c.fixed c.x ((let M = s.seen in
        M.lines) ++ numbered e (pre ++ said_by st d.label)) T → StepGoes c s e (record { part = D.part; outs = map Say pre ++ D.outs })
    step_walk (Stays m) pre T decides knows asked brings has plain none tied = coords_go c s e u b pre [] (commits_in u m c0) T is_seen
        found knows.on tt (says_as c s u (length pre + 0) (length pre) (commits_in u m c0) T (omega arith) has) tt none
        (subst (λ bs. AreTied c.fixed c.x ((let M = s.seen in M.lines) ++ numbered e bs) T) (append_nil pre) tied)
    step_walk (Asks m) pre T decides knows asked brings has plain none tied =
        let C : Coord = (let D = asks_machine m (commits_in u m c0) in D.part) in
        let o = work_changed c0 u b d found works (waits_in m) in
        let shown = machine_shown c s is_seen u C knows asked brings T has.coord (let y = has.only in
        y.naming) (waits_in m d) m (asks_doing (let p = plan_of m in p.path) (let p = plan_of m in
        p.req) (waiting m) (commits_in u m c0) u ∙ o.doing) refl (left_of m) (commits_in u m c0) in
        coords_go c s e u b pre (let D = asks_machine m (commits_in u m c0) in
        D.outs) C T is_seen found knows.on shown.0 (says_as c s u (length pre + 0) (length pre) C T (omega arith) has) shown.1 none
        (subst (λ bs. AreTied c.fixed c.x ((let M = s.seen in M.lines) ++ numbered e bs) T) (append_nil pre) tied)
    step_walk (Decides q) pre T decides knows asked brings has plain none tied =
        let who : u ≡ actor q.path = sym decides.0 in
        decides_goes q pre T (ap (λ (v : Uid). branch_of v c0.tree) decides.0 ∙ found) (ap (λ (v : Uid). doing_of v c0) decides.0 ∙ works)
        (λ is. subst (λ (v : Uid). IsDecided (let f = c.fixed in f.act) c0 v c.state) who (decides.1 is)) knows
        (subst (λ (v : Uid). HasStepped c s v (length pre + 1) (let D = decide q c0 in D.part) T) who has) (plain q refl) none tied
    step_walk (Aborts why q) pre T decides knows asked brings has plain none tied =
        let C : Coord = ended u ending.Abort c0 in
        let l : Body = body.Aborted d.label why in
        let told = tolds_shown c s is_seen C knows T has.coord (records_at s) u (record b { ended = Some ending.Abort })
        (ended_here c0 u b d ending.Abort found works) ending.Abort refl (inr (inr refl)) in
        subst (λ (es : List Effect). StepGoes c s e (record { part = C; outs = es })) (sym ((λ i. map Say pre ++ (say_for
        (λ (n : Label). body.Aborted n why) (works i) ++ tolds_of (records_at s) C u)) ∙ says_then pre l (tolds_of (records_at s) C u)))
        (coords_go c s e u b (pre ++ l ∷ []) (tolds_of (records_at s) C u) C T is_seen found knows.on told.0 (says_as c s u (length pre + 1)
        (length (pre ++ l ∷ [])) C T (sym (length_one pre l)) has) told.1 (none_both pre (l ∷ []) none (refl, tt)) tied)

-- ---- answers, and what is given up

-- what stands behind a decision did before more was sent
backed_before : (m : Act) (S T : State) → OnlySent S T → IsBacked m T → IsBacked m S
backed_before m S T sent backed = let z : IsBacked m (record S { net = T.net }) = subst (IsBacked m) sent.rest backed in
    record { calls = z.calls; includes = z.includes }

now_of : (st : CommitStep) (p now n : ℕ) → now ≤ p → n ≡ now_by st p now → n ≤ p + lines_by st
now_of (Stays m) p now n low is = omega (arith, low, is)
now_of (Asks m) p now n low is = omega (arith, low, is)
now_of (Decides q) p now n low is = omega (arith, is)
now_of (Aborts why q) p now n low is = omega (arith, low, is)

module _ (c : Case) (s : Spot) (e : ℕ) (is_seen : IsSeenIn c (world_at s)) (holds : HoldsNamingIn c s.node (let t = s.parts in t.naming))
    (u : Uid) (b : Branch) (d : Doing) (k : Machine) (its : IsAtCommit s u b d k) where
  abbrev its_coord : Coord
  its_coord = coord_at s

  abbrev act : Acts
  act = let f = c.fixed in f.act

  abbrev S : State
  S = c.state

  here : SeesUp (view_in c s.node) c.state s.disk s.parts
  here = here_of c.fixed c.x c.begun s.node s.disk (Some s.parts) c.state s.seen is_seen.sees

  reached_S : IsReached c.state
  reached_S = let z = is_seen.sees in (let f = c.fixed in f.first, z.run)

  -- where the step's own line stands
  abbrev place : List Body → ℕ
  place pre = length (let M = s.seen in M.lines) + length pre + 1

  low : (pre : List Body) → S.now ≤ place pre
  low pre = let z = is_seen.sees in let n = z.now in omega (arith, n)

  unserial : b.kind ≢ kind.Serial
  unserial = heard.unserial act (let f = c.fixed in f.code) (let f = c.fixed in f.paths) c.x (place []) its_coord u b d k (records_at s) S
      reached_S (steady c s is_seen) its.there its.unended its.works its.at its.number (low []) here.coord

  unnested : b.kind ≢ kind.Nested
  unnested = heard.unnested act (let f = c.fixed in f.code) (let f = c.fixed in f.paths) c.x (place []) its_coord u b d k (records_at s) S
      reached_S (steady c s is_seen) its.there its.unended its.works its.at its.number (low []) here.coord

  its_path : actor (let q = plan_of k in q.path) ≡ u
  its_path = heard.its_path act (let f = c.fixed in f.code) (let f = c.fixed in f.paths) c.x (place []) its_coord u b d k (records_at s) S
      reached_S (steady c s is_seen) its.there its.unended its.works its.at its.number (low []) here.coord

  at_one : (S.action (act u)).stage ≡ 1
  at_one = heard.at_one act (let f = c.fixed in f.code) (let f = c.fixed in f.paths) c.x (place []) its_coord u b d k (records_at s) S
      reached_S (steady c s is_seen) its.there its.unended its.works its.at its.number (low []) here.coord

  -- a decision stands on votes
  decided_now : IsBacked (act u) S → IsDecided act its_coord u S
  decided_now backed = record {
    branch = b;
    work = d;
    plan = k;
    there = its.there;
    unended = its.unended;
    unserial = unserial;
    unnested = unnested;
    works = its.works;
    at_commit = its.at;
    backed = backed;
  }

  if_decides : (st : CommitStep) → IsStepOf c.begun (let f = c.fixed in f.paths) (let z = steady c s is_seen in z.whole) (plan_of k) st →
      Goes S (λ T. SeesNext c.x (act u) st T × OnlySent S T) → IfDecides c s e is_seen holds b d unserial unnested u its.there its.works st
  if_decides (Stays m) of g = tt
  if_decides (Asks m) of g = tt
  if_decides (Decides q) of g = (ap actor of.0 ∙ its_path, λ is. decided_now (let h = g.holds in backed_before (act u) S g.state h.1 h.0))
  if_decides (Aborts why q) of g = tt

  -- the journal is tied with its lines
  moved_tied : (m : Marked) (bs : List Body) (T : State) → ArePlain bs → OnlyEnded (root (act u)) S T →
      T.now ≡ now_by m.step (place bs) S.now → ChangesOne (act u) (moved_by m.step (place bs) (S.action (act u))) S T →
      AreTied c.fixed c.x ((let M = s.seen in M.lines) ++ numbered e (bs ++ said_by m.step d.label)) T
  moved_tied m bs T plain only now changes values is =
      let code = (let f = c.fixed in f.code) in
      let q = behind (page_at s e values) bs in
      let on = pages_plain act code c.x its_coord S bs (page_at s e values) plain (on_page c s e is_seen values is) in
      let same : place bs ≡ length q.lines + 1 = ap (λ n. n + 1) (sym (length_said e bs (let M = s.seen in M.lines))) in
      subst (λ ls. IsTiedToLines act code values c.x ls T) (said_twice e bs (said_by m.step d.label) (let M = s.seen in M.lines))
      (step_tied act code c.x q its_coord u b d its.there its.works S T on m.step (first_stays (root (act u)) S T only)
      (calls_stay (root (act u)) S T only) (now ∙ ap (λ n. now_by m.step n S.now) same)
      (subst (λ n. ChangesOne (act u) (moved_by m.step n (S.action (act u))) S T) same changes)
      (open_low act code c.x its_coord u b d S its.there its.unended its.works here.coord))

  -- a step with its lines, behind others
  moved_walk : (m : Marked) (pre marks : List Body) → mark_lines u m.marks its_coord ≡ map Say marks →
      IfDecides c s e is_seen holds b d unserial unnested u its.there its.works m.step
      → (D : Did Coord) → (let t = moved_commit u m (records_at s) its_coord in D ≡ record { part = t.part; outs = map Say pre ++ t.outs })
      → (let p = place (pre ++ marks) in
      Goes S (λ T. SeesWhole act (let f = c.fixed in f.code) c.x (let t = moved_commit u m (records_at s) its_coord in t.part) T ×
      (OnlyEnded (root (act u)) S T × (T.now ≡ now_by m.step p S.now) × ChangesOne (act u) (moved_by m.step p (S.action (act u))) S T)))
      → KnowsCoord c s D.part → KnowsAsks c D.part → KnowsEnds D.part → ArePlain (pre ++ marks) → StepGoes c s e D
  moved_walk m pre marks marked decides D is g knows asked brings plain =
      let C : Coord = (let t = step_commit u m.step (records_at s) its_coord in t.part) in
      let p : ℕ = place (pre ++ marks) in
      let T : State = g.state in
      let h = g.holds in
      let outs_is : D.outs ≡ map Say (pre ++ marks) ++ (let t = step_commit u m.step (records_at s) its_coord in t.outs) = ap
      (λ (q : Did Coord). q.outs) is ∙ (λ i. map Say pre ++ (marked i ++ (let t = step_commit u m.step (records_at s) its_coord in
      t.outs))) ∙ says_more pre marks (let t = step_commit u m.step (records_at s) its_coord in t.outs) in
      let part_is : D.part ≡ C = ap (λ (q : Did Coord). q.part) is in
      let n = now_of m.step p S.now T.now (low (pre ++ marks)) h.1.1 in
      subst (StepGoes c s e) (sym (λ i. record { part = part_is i; outs = outs_is i }))
      (step_walk c s e is_seen holds b d unserial unnested u its.there its.works m.step (pre ++ marks) T decides
      (subst (KnowsCoord c s) part_is knows) (subst (KnowsAsks c) part_is asked) (subst KnowsEnds part_is brings)
      (ended_stepped c s is_seen u b its.there (length (pre ++ marks) + lines_by m.step) C T (moved_by m.step p (S.action (act u))) g.run
      h.0 h.1.0 h.1.2 (omega (arith, n)))
      (λ q it recorded. plain) (plain_none (pre ++ marks) plain) (moved_tied m (pre ++ marks) T plain h.1.0 h.1.1 h.1.2))

pub commit_answers_go : CommitAnswersGo
commit_answers_go c s e from u b d k r is_seen holds its shows knows asked brings =
    let c0 = coord_at s in
    let act : Acts = (let f = c.fixed in f.act) in
    let S : State = c.state in
    let m : Marked = commit.answered from k r in
    let marks = flat_says u c0 (λ (q : ℕ × ℕ) (l : Label). body.Excluded l q.0 q.1) m.marks in
    moved_walk c s e is_seen holds u b d k its m [] marks.0 marks.1
    (if_decides c s e is_seen holds u b d k its m.step (answer_step c.begun (let f = c.fixed in f.paths) (let z = steady c s is_seen in
    z.whole) from k r) (commit_answers_are_taken c.x (act u) k from r S (reached_S c s e is_seen holds u b d k its)
    (at_one c s e is_seen holds u b d k its) shows (let y = here c s e is_seen holds u b d k its in let z = y.coord in
    z.commits u d k its.works its.at)))
    (moved_commit u m (records_at s) c0) refl
    (commit_answers_are_heard act (let f = c.fixed in f.code) (let f = c.fixed in
    f.paths) c.x (place c s e is_seen holds u b d k its marks.0) from c0 u b d k r (records_at s) S
    (reached_S c s e is_seen holds u b d k its) (steady c s is_seen) its.there its.unended its.works its.at its.number
    (low c s e is_seen holds u b d k its marks.0) shows (let y = here c s e is_seen holds u b d k its in y.coord))
    knows asked brings (flat_plain u c0 (λ (q : ℕ × ℕ) (l : Label). body.Excluded l q.0 q.1) (λ q l. refl) m.marks)

pub lost_commits_go : LostCommitsGo
lost_commits_go c s e u b d k is_seen holds its knows asked brings =
    let c0 = coord_at s in
    let act : Acts = (let f = c.fixed in f.act) in
    let S : State = c.state in
    let m : Marked = commit.given_up k in
    let gone = flat_says u c0 (λ (n : ℕ) (l : Label). body.GaveUp l n) (nodes_given_up k) in
    let marks = flat_says u c0 (λ (q : ℕ × ℕ) (l : Label). body.Excluded l q.0 q.1) m.marks in
    moved_walk c s e is_seen holds u b d k its m gone.0 marks.0 marks.1
    (if_decides c s e is_seen holds u b d k its m.step (giveup_step c.begun (let f = c.fixed in f.paths) (let z = steady c s is_seen in
    z.whole) k) (commits_are_given_up c.x (act u) k S (reached_S c s e is_seen holds u b d k its) (at_one c s e is_seen holds u b d k
    its) (let y = here c s e is_seen holds u b d k its in let z = y.coord in z.commits u d k its.works its.at)))
    (gives_up u (records_at s) c0 (Committing k)) (λ i. record {
      part = (let t = moved_commit u m (records_at s) c0 in t.part);
      outs = gone.1 i ++ (let t = moved_commit u m (records_at s) c0 in t.outs);
    })
    (commits_are_lost act (let f = c.fixed in f.code) (let f = c.fixed in
    f.paths) c.x (place c s e is_seen holds u b d k its (gone.0 ++ marks.0)) c0 u b d k (records_at s) S
    (reached_S c s e is_seen holds u b d k its) (steady c s is_seen) its.there its.unended its.works its.at its.number
    (low c s e is_seen holds u b d k its (gone.0 ++ marks.0)) (let y = here c s e is_seen holds u b d k its in y.coord))
    knows asked brings (plain_app gone.0 marks.0 (flat_plain u c0 (λ (n : ℕ) (l : Label). body.GaveUp l n) (λ n l. refl) (nodes_given_up k))
    (flat_plain u c0 (λ (q : ℕ × ℕ) (l : Label). body.Excluded l q.0 q.1) (λ q l. refl) m.marks))

-- ---- a commit is called

open_did : (b : Branch) (intents : List (Uid × Intent)) (c : Coord) (k : Kind) → k ≢ kind.Serial → k ≢ kind.Nested →
    commit_open b intents c k ≡ commit_top b.path intents c
open_did b intents c kind.Serial s n = absurd (s refl)
open_did b intents c kind.Nested s n = absurd (n refl)
open_did b intents c kind.Top s n = refl
open_did b intents c kind.Constituent s n = refl
open_did b intents c kind.Independent s n = refl

-- who sets out to decide has no record
sets_plain : (p : Plan) → has_record p ≡ false → (st : CommitStep) → begin_vote (servers_of p) p ≡ st → (q : Plan) → st ≡ Decides q → q ≡ p
sets_plain p none st is q decides = vote (servers_of p) (is ∙ decides)
  where
    confirm : (us : List commit.Used) → commit.begin_confirm us p ≡ Decides q → q ≡ p
    confirm [] y = sym (cc y)
    confirm (v ∷ us) y = absurd (cc y)

    prepare : (ns : List ℕ) → commit.begin_prepare ns p ≡ Decides q → q ≡ p
    prepare [] y = confirm p.used y
    prepare (n ∷ ns) y = absurd (cc y)

    vote : (ns : List ℕ) → begin_vote ns p ≡ Decides q → q ≡ p
    vote [] y = prepare (commit.targets_of p) y
    vote (n ∷ ns) y = absurd (cc y)

pub top_commits_go : TopCommitsGo
top_commits_go c s e u b d is_seen holds free begun topped unserial unnested undoomed childless first low keeps knows asked brings =
    subst (StepGoes c s e) (sym did_is)
    (step_walk c s e is_seen holds b d unserial unnested u free.there free.works st (body.Committing d.label ∷ []) T
    (if_decides_now st refl) (subst (KnowsCoord c s) part_is knows) (subst (KnowsAsks c) part_is asked) (subst KnowsEnds part_is brings)
    (ended_stepped c s is_seen u b free.there (1 + lines_by st) C T (moved_by st (p + 1) (called_at p (S.action (act u)))) g.run
    (subst (λ (q : Coord). SeesWhole act (let f = c.fixed in f.code) c.x q T) part_is h.0) h.1.0 h.1.2
    (let n = now_of st (p + 1) (p + 1) T.now (omega arith) h.1.1 in omega (arith, n)))
    (λ q is recorded. absurd (let bad : false ≡ true = sym (ap has_record (sets_plain pl refl st refl q is)) ∙ recorded in cc bad))
    (refl, tt)
    (λ values is. top_said act (let f = c.fixed in f.code) (let f = c.fixed in
    f.paths) c.x (page_at s e values) c0 u b d st S T free (on_page c s e is_seen values is) here.coord h.1.0 h.1.1 h.1.2))
  where
    act : Acts
    act = let f = c.fixed in f.act

    S : State
    S = c.state

    c0 : Coord
    c0 = coord_at s

    p : ℕ
    p = length (let M = s.seen in M.lines) + 1

    pl : Plan
    pl = plan_now b c0

    st : CommitStep
    st = begin_vote (servers_of pl) pl

    C : Coord
    C = let t = step_commit u st (records_at s) c0 in t.part

    here : SeesUp (view_in c s.node) S s.disk s.parts
    here = here_of c.fixed c.x c.begun s.node s.disk (Some s.parts) S s.seen is_seen.sees

    its : actor b.path ≡ u
    its = free.steady.good.tree.lists.places u b free.there

    did_is : commit_action b (records_at s) c0
        ≡ record { part = C; outs = Say (body.Committing d.label) ∷ (let t = step_commit u st (records_at s) c0 in t.outs) }
    did_is = (λ i. cond (undoomed i) (aborts_with (actor b.path) cause.Doomed (records_at s) c0) (commit_open b (records_at s) c0 b.kind))
        ∙ open_did b (records_at s) c0 b.kind unserial unnested
        ∙ (λ i. record {
          part = (let t = step_commit (its i) st (records_at s) c0 in t.part);
          outs = says (its i) body.Committing c0 ++ (let t = step_commit (its i) st (records_at s) c0 in t.outs);
        })
        ∙ (λ i.
        record { part = C; outs = say_for body.Committing (free.works i) ++ (let t = step_commit u st (records_at s) c0 in t.outs) })

    part_is : (let D = commit_action b (records_at s) c0 in D.part) ≡ C
    part_is = ap (λ (q : Did Coord). q.part) did_is

    g : Goes S (λ T. SeesWhole act (let f = c.fixed in f.code) c.x (let D = commit_action b (records_at s) c0 in D.part) T
        × (OnlyEnded (root (act u)) S T × (T.now ≡ now_by st (p + 1) (p + 1))
        × ChangesOne (act u) (moved_by st (p + 1) (called_at p (S.action (act u)))) S T))
    g = top_commits_are_taken act (let f = c.fixed in f.code) (let f = c.fixed in
        f.paths) c.x p c0 u b d (records_at s) S (let z = is_seen.sees in (let f = c.fixed in f.first, z.run)) free begun topped unserial
        unnested undoomed childless first (let z = is_seen.sees in z.now) low keeps here.coord

    T : State
    T = g.state

    h : SeesWhole act (let f = c.fixed in f.code) c.x (let D = commit_action b (records_at s) c0 in D.part) T × (OnlyEnded (root (act u))
        S T × (T.now ≡ now_by st (p + 1) (p + 1)) × ChangesOne (act u) (moved_by st (p + 1) (called_at p (S.action (act u)))) S T)
    h = g.holds

    if_decides_now : (z : CommitStep) → begin_vote (servers_of pl) pl ≡ z →
        IfDecides c s e is_seen holds b d unserial unnested u free.there free.works z
    if_decides_now (Stays m) is = tt
    if_decides_now (Asks m) is = tt
    if_decides_now (Aborts why q) is = tt
    if_decides_now (Decides q) is =
        let same : q ≡ pl = sets_plain pl refl (Decides q) is q refl in (
          ap (λ (y : Plan). actor y.path) same ∙ its,
          λ recorded. absurd (let bad : false ≡ true = sym (ap has_record same) ∙ recorded in cc bad),
        )
