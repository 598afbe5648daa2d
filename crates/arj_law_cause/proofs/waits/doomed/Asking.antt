-- Which calls wait for what they asked a server to run, and commits for what they asked: what they ask goes out as they come to it, and
-- they stay at it.
use Rattle.arj_law_parts.proofs.Words
use Words.{◌≡◌, ◌⊎◌, ◌∙◌, ◌+◌, ℕ, zero, suc, Bool, true, false, cond, List, [], ◌∷◌, ◌++◌, Option, Some, None, refl, sym, ap, subst, inl}
use Words.{inr, ⊎_elim, ⊤, nat_le}
use Words.{Ask, End, Head, Kind, Label, Path, Uid, Body, asks, path_of, request, request_reads_back, actor, ask_kind, is_invoke_ask}
use Words.{in_right}
use Words.{again_all, asks_machine, begin_action, call, call_steps, commit_action, commit_open, commit_top, commits_in, doomed_by}
use Words.{ends_call}
use Words.{gaveup_lines, give_up, has, mark_lines, moved_commit, nodes_given_up, says}
use Words.{give_up_doing, gives_up, goes_on, include, last_req, next_req, renewed, root_heard, root_lost, step_call, step_commit, At}
use Words.{AtActivate}
use Words.{AtBind, AtInvoke, AtLoad, AtNote, CallEnd, CallStep, Ended, Goal, On, Steps, ask_at, given_up, is_invoke, next_ask, next_node}
use Words.{start}
use Words.{Aborts, Asks, Marked, Used, left_of, CommitStep, Decides, Machine, Plan, Stays, Confirming, Preparing, Voting, ask_of}
use Words.{has_record, participants}
use Words.{plan_of, waiting}
use Words.{Calling, Committing, Coord, Doing, Idle, Now, doing_of, is_free, keeping_of, on_doing, on_root, plan_for, root_at, with_keeping}
use Words.{Effect, Intent}
use Words.{abort_action, aborts_with, all_aborted, decide, ended, root_after, put_uid, unbound, Input, acts, branch_named, on_branch}
use Words.{parent_of, Branch}
use Words.{at_place, ended_at, is_own, open_below, root_of, uses_object, Post, IsToSettle}
use Words.body
use Words.calls
use Words.cause
use Words.commit
use Words.ending
use Words.input
use Words.kind
use Rattle.arj_law_runs.proofs.Terms.{AreBrought, Asking, HasWay, Want, is_act, uses_same, want_of_call, want_of_commit}
use Rattle.arj_law_runs.proofs.coordinators.CoordUses.{on_cases, some_is}
use Rattle.arj_law_runs.proofs.resting
use resting.Hearing.{AsksIn, IsHome, all_doing, asks_for, doomed_work, end_work, machine_asked, step_asked}
use resting.Quiesces.{again_doing}
use resting.Ways.{Then, post_of}
use Rattle.arj_law_lock_view.proofs.asking.Turning.{still_there}

-- ---- ways

-- the request isn't that an operation be run, nor one of a commit
abbrev pub IsOther : Post → Type 0
IsOther p = (x : Head × Ask) × (asks p.message ≡ Some x) × (is_invoke_ask x.1 ≡ false) × (nat_le 6 (ask_kind x.1) ≡ false)

-- such a request is under way in any case
module _ (F : Post → Type 0) (others : (p : Post) → IsOther p → F p) where
  pub free_way : (k : ℕ) (u : Uid) (req n : ℕ) (a : Ask) → is_invoke_ask a ≡ false → nat_le 6 (ask_kind a) ≡ false →
      HasWay F k (record { act = u; req = req; kind = ask_kind a; node = n })
  free_way k u req n a off low =
      let p : Path = path_of (u ∷ []) 1 in
      let h : Head = record { path = p; req = req } in
      record {
        post = post_of k n (request h a);
        under_way = others (post_of k n (request h a)) ((h, a), request_reads_back h a, off, low);
        brings = Asking refl refl (asks_for (record { act = u; req = req; kind = ask_kind a; node = n }) p a refl refl);
      }

plain_at : (x : ℕ) (g : Goal) (at : At) → is_invoke at ≡ false → is_invoke_ask (ask_at x g [] at) ≡ false
plain_at x g (AtBind b) off = refl
plain_at x g (AtLoad k n rest) off = refl
plain_at x g (AtActivate k st) off = refl
plain_at x g (AtNote k i) off = refl
plain_at x g (AtInvoke k i) off = absurd (cc off)

-- requests of calls and includes are of lower kinds than those of commits
pub step_kind : (x : ℕ) (g : Goal) (at : At) → nat_le 6 (ask_kind (ask_at x g [] at)) ≡ false
step_kind x g (AtBind b) = refl
step_kind x g (AtLoad k n rest) = refl
step_kind x g (AtActivate k st) = refl
step_kind x g (AtNote k i) = refl
step_kind x g (AtInvoke k i) = refl

pub machine_kind : (m : Machine) (n : ℕ) → nat_le 6 (ask_kind (ask_of m n)) ≡ true
machine_kind (Voting p left) n = refl
machine_kind (Preparing p left) n = refl
machine_kind (Confirming p) n = refl

never_settles : (at : At) (k : calls.Known) → is_invoke at ≡ true → IsToSettle at k → ⊥
never_settles (AtBind b) k is to = to
never_settles (AtLoad q n rest) k is to = to
never_settles (AtActivate q st) k is to = cc is
never_settles (AtNote q i) k is to = cc is
never_settles (AtInvoke q i) k is to = to

-- each call that waits for its operation has what answers it under way, and so has each commit of each node for which it waits
pub record AreUnderWay (k : ℕ) (c : Coord) (F : Post → Type 0) : Type 0 where
  pub calls : (u : Uid) (q : Doing) (s : Steps) → doing_of u c ≡ Some q → q.now ≡ Calling s → is_invoke s.at ≡ true →
      HasWay F k (want_of_call u s)
  pub commits : (u : Uid) (q : Doing) (m : Machine) (j : ℕ) → doing_of u c ≡ Some q → q.now ≡ Committing m →
      has (left_of m) j ≡ true → HasWay F k (want_of_commit u m j)

pub to_brought : (n : ℕ) (c : Coord) (cs : ℕ → Option Coord) (F : Post → Type 0) → ((p : Post) → IsOther p → F p) → cs n ≡ Some c →
    AreUnderWay n c F → AreBrought (λ j. j ≡ n) cs F (λ b. ⊤)
to_brought n c cs F others here its = record {
  calls = λ k e u q s at found does now. inr (subst (λ j. HasWay F j (want_of_call u s)) (sym at)
      (call_way u q s (ap (doing_of u) (mine k e at found) ∙ does) now (is_invoke s.at) refl));
  commits = λ k e u q m j at found does now left. subst (λ i. HasWay F i (want_of_commit u m j)) (sym at)
      (its.commits u q m j (ap (doing_of u) (mine k e at found) ∙ does) now left);
}
  where
    mine : (k : ℕ) (e : Coord) → k ≡ n → cs k ≡ Some e → c ≡ e
    mine k e at found = some_is c e (sym here ∙ ap cs (sym at) ∙ found)

    call_way : (u : Uid) (q : Doing) (s : Steps) → doing_of u c ≡ Some q → q.now ≡ Calling s → (b : Bool) → is_invoke s.at ≡ b →
        HasWay F n (want_of_call u s)
    call_way u q s does now true is = its.calls u q s does now is
    call_way u q s does now false off =
        free_way F others n u s.req (next_node s) (next_ask [] s) (plain_at s.x s.goal s.at off) (step_kind s.x s.goal s.at)

pub from_brought : (n : ℕ) (c : Coord) (cs : ℕ → Option Coord) (F : Post → Type 0) (B : Body → Type 0) → cs n ≡ Some c →
    AreBrought (λ j. j ≡ n) cs F B → AreUnderWay n c F
from_brought n c cs F B here b = record {
  calls = λ u q s does now is.
      ⊎_elim (λ o. absurd (never_settles s.at o.known is o.step)) (λ w. w) (b.calls n c u q s refl here does now);
  commits = λ u q m j does now left. b.commits n c u q m j refl here does now left;
}

-- ---- what a coordinator does

-- of each node that the action waits for by this these effects ask it
abbrev pub AsksAll : List Effect → Uid → Now → Type 0
AsksAll outs w Idle = ⊤
AsksAll outs w (Calling s) = AsksIn outs (want_of_call w s)
AsksAll outs w (Committing m) = (j : ℕ) → has (left_of m) j ≡ true → AsksIn outs (want_of_commit w m j)

-- Each action does what it did before, or these effects ask for all that it waits for.
abbrev pub GoOn : Coord → Coord → List Effect → Type 0
GoOn c e outs = (w : Uid) (q : Doing) → doing_of w e ≡ Some q →
    ((d : Doing) × (doing_of w c ≡ Some d) × (d.now ≡ q.now)) ⊎ AsksAll outs w q.now

pub gone_on : (n : ℕ) (c e : Coord) (outs : List Effect) (F : Post → Type 0) → GoOn c e outs → AreUnderWay n c F →
    AreUnderWay n e (Then F n outs)
gone_on n c e outs F go its = record {
  calls = λ u q s does now is. ⊎_elim (λ old. more (want_of_call u s) (its.calls u old.0 s old.1 (old.2 ∙ now) is))
      (λ all. asked (want_of_call u s) (a_call u s (subst (AsksAll outs u) now all))) (go u q does);
  commits = λ u q m j does now left. ⊎_elim (λ old. more (want_of_commit u m j) (its.commits u old.0 m j old.1 (old.2 ∙ now) left))
      (λ all. asked (want_of_commit u m j) (a_commit u m j left (subst (AsksAll outs u) now all))) (go u q does);
}
  where
    more : (w : Want) → HasWay F n w → HasWay (Then F n outs) n w
    more w h = record { post = h.post; under_way = inl h.under_way; brings = h.brings }

    asked : (w : Want) → AsksIn outs w → HasWay (Then F n outs) n w
    asked w a = record { post = post_of n w.node a.message; under_way = inr (refl, a.sent); brings = Asking refl refl a.asks }

    a_call : (u : Uid) (s : Steps) → AsksAll outs u (Calling s) → AsksIn outs (want_of_call u s)
    a_call u s a = a

    a_commit : (u : Uid) (m : Machine) (j : ℕ) → has (left_of m) j ≡ true → AsksAll outs u (Committing m) → AsksIn outs
        (want_of_commit u m j)
    a_commit u m j left a = a j left

more_asked : (front outs : List Effect) (x : Want) → AsksIn outs x → AsksIn (front ++ outs) x
more_asked front outs x a = record { message = a.message; sent = in_right (Effect.Send x.node a.message) front outs a.sent; asks = a.asks }

more_asks : (front outs : List Effect) (w : Uid) (n : Now) → AsksAll outs w n → AsksAll (front ++ outs) w n
more_asks front outs w Idle all = tt
more_asks front outs w (Calling s) all = more_asked front outs (want_of_call w s) all
more_asks front outs w (Committing m) all = λ j left. more_asked front outs (want_of_commit w m j) (all j left)

none_asks : (outs : List Effect) (w : Uid) (n : Now) → AsksAll [] w n → AsksAll outs w n
none_asks outs w Idle all = tt
none_asks outs w (Calling s) all = absurd (let a = all in a.sent)
none_asks outs w (Committing m) all = λ j left. (let a = all j left in absurd a.sent)

stays : (c : Coord) (outs : List Effect) → GoOn c c outs
stays c outs w q does = inl (q, does, refl)

any_outs : (c e : Coord) (outs : List Effect) → GoOn c e [] → GoOn c e outs
any_outs c e outs go w q does = ⊎_elim (λ old. inl old) (λ all. inr (none_asks outs w q.now all)) (go w q does)

behind_lines : (c e : Coord) (front outs : List Effect) → GoOn c e outs → GoOn c e (front ++ outs)
behind_lines c e front outs go w q does = ⊎_elim (λ old. inl old) (λ all. inr (more_asks front outs w q.now all)) (go w q does)

same_before : (c e g : Coord) (outs : List Effect) → ((w : Uid) → doing_of w e ≡ doing_of w c) → GoOn e g outs → GoOn c g outs
same_before c e g outs same go w q does =
    ⊎_elim (λ old. inl (old.0, sym (same w) ∙ old.1, old.2)) (λ all. inr all) (go w q does)

same_after : (c e g : Coord) (outs : List Effect) → ((w : Uid) → doing_of w g ≡ doing_of w e) → GoOn c e outs → GoOn c g outs
same_after c e g outs same go w q does = go w q (sym (same w) ∙ does)

both_go_on : (c e g : Coord) (outs : List Effect) → GoOn c e [] → GoOn e g outs → GoOn c g outs
both_go_on c e g outs one two w q does = ⊎_elim
    (λ old. ⊎_elim (λ older. inl (older.0, older.1, older.2 ∙ old.2))
    (λ all. inr (none_asks outs w q.now (subst (AsksAll [] w) old.2 all))) (one w old.0 old.1))
    (λ all. inr all) (two w q does)

-- an action that goes on as it did, or rests
rests_on : (v : Uid) (f : Doing → Doing) (c : Coord) (outs : List Effect) →
    ((d : Doing) → ((f d).now ≡ d.now) ⊎ ((f d).now ≡ Idle)) → GoOn c (on_doing v f c) outs
rests_on v f c outs keeps w q does = ⊎_elim
    (λ same. ⊎_elim (λ on. inl (same.1, same.2, sym on ∙ ap (λ (d : Doing). d.now) same.3))
    (λ idle. inr (subst (AsksAll outs w) (sym idle ∙ ap (λ (d : Doing). d.now) same.3) tt)) (keeps same.1))
    (λ old. inl (q, old.1, refl)) (on_cases v f c w q does)

goes_so : (s : Steps) (c : Coord) → GoOn c (goes_on s c).part (goes_on s c).outs
goes_so s c w q does = ⊎_elim
    (λ same. inr (subst (AsksAll (goes_on s c).outs w) (ap (λ (d : Doing). d.now) same.3)
    (step_asked w s _ (goes_on s c).outs (sym same.0) (inl refl))))
    (λ old. inl (q, old.1, refl)) (on_cases (actor s.path) (λ (d : Doing). record d { req = s.req; now = Calling s }) c w q does)

ends_so : (s : Steps) (e : CallEnd) (c : Coord) (outs : List Effect) → GoOn c (ends_call s e c).part outs
ends_so s e c outs =
    let idle : Coord = on_doing (actor s.path) (λ (d : Doing). record d { now = Idle }) c in
    let noted : Coord = on_root (root_of s.path) (root_heard s e) idle in
    same_after c idle (doomed_by (actor s.path) e noted) outs (λ w. doomed_work (actor s.path) e noted w)
    (rests_on (actor s.path) (λ (d : Doing). record d { now = Idle }) c outs (λ d. inr refl))

step_so : (s : Steps) (st : CallStep) (c : Coord) → GoOn c (step_call s st c).part (step_call s st c).outs
step_so s (On at) c = goes_so (record s { req = s.req + 1; at = at }) c
step_so s (Ended e) c = ends_so s e c (ends_call s e c).outs

end_so : (u : Uid) (e : End) (c : Coord) (outs : List Effect) → GoOn c (ended u e c) outs
end_so u e c outs =
    let mid : Coord = record c { tree = ended_at u e c.tree } in
    same_before c mid (ended u e c) outs (end_work u e c)
    (rests_on u (λ (d : Doing). record d { now = Idle }) mid outs (λ d. inr refl))

aborted_so : (us : List Uid) (c : Coord) → GoOn c (all_aborted us c).part []
aborted_so [] c = stays c []
aborted_so (u ∷ us) c = both_go_on c (ended u ending.Abort c) (all_aborted us (ended u ending.Abort c)).part []
    (end_so u ending.Abort c []) (aborted_so us (ended u ending.Abort c))

decided_so : (p : Plan) (c : Coord) → GoOn c (decide p c).part []
decided_so p c = same_after c took (decide p c).part [] (λ w. awaited w (has_record p))
    (both_go_on c (ended u ending.Commit c) took [] (end_so u ending.Commit c [])
    (rests_on u (λ (d : Doing). record d { took = participants p }) (ended u ending.Commit c) [] (λ d. inl refl)))
  where
    u : Uid
    u = actor p.path

    took : Coord
    took = on_doing u (λ (d : Doing). record d { took = participants p }) (ended u ending.Commit c)

    awaited : (w : Uid) (b : Bool) → doing_of w (cond b (record (on_root (root_of p.path) (root_after p) took) {
      telling = put_uid u (record { root = root_of p.path; nodes = participants p }) (on_root (root_of p.path) (root_after p) took).telling;
    }) (on_root (root_of p.path) (root_after p) took)) ≡ doing_of w took
    awaited w true = refl
    awaited w false = refl

-- a commit that begins or goes on as it is given up doesn't wait as before
abbrev IsFresh : Uid → CommitStep → Type 0
IsFresh u (Stays m) = ⊥
IsFresh u (Asks m) = actor (plan_of m).path ≡ u
IsFresh u step = ⊤

commit_so : (u : Uid) (st : CommitStep) (intents : List (Uid × Intent)) (c : Coord) → IsFresh u st →
    GoOn c (step_commit u st intents c).part (step_commit u st intents c).outs
commit_so u (Stays m) intents c fresh = absurd fresh
commit_so u (Asks m) intents c fresh = same_after c e (step_commit u (Asks m) intents c).part (step_commit u (Asks m) intents c).outs
    (λ w. all_doing (plan_of m).path (plan_of m).req (waiting m) e w) (λ w q does. ⊎_elim
    (λ same. inr (subst (AsksAll (asks_machine m e).outs w) (ap (λ (d : Doing). d.now) same.3) (λ j left.
    subst (λ x. AsksIn (asks_machine m e).outs (want_of_commit x m j)) (sym same.0) (machine_asked u m e j fresh left))))
    (λ old. inl (q, old.1, refl)) (on_cases u (λ (d : Doing). record d { req = (plan_of m).req; now = Committing m }) c w q does))
  where
    e : Coord
    e = commits_in u m c
commit_so u (Decides p) intents c fresh = any_outs c (decide p c).part (step_commit u (Decides p) intents c).outs (decided_so p c)
commit_so u (Aborts why p) intents c fresh = end_so u ending.Abort c (step_commit u (Aborts why p) intents c).outs

moved_so : (u : Uid) (m : Marked) (intents : List (Uid × Intent)) (c : Coord) → IsFresh u m.step →
    GoOn c (moved_commit u m intents c).part (moved_commit u m intents c).outs
moved_so u m intents c fresh = behind_lines c (moved_commit u m intents c).part (mark_lines u m.marks c)
    (step_commit u m.step intents c).outs
    (commit_so u m.step intents c fresh)

confirm_fresh : (u : Uid) (used : List Used) (p : Plan) → actor p.path ≡ u → IsFresh u (commit.begin_confirm used p)
confirm_fresh u [] p who = tt
confirm_fresh u (x ∷ xs) p who = who

prepare_fresh : (u : Uid) (targets : List ℕ) (p : Plan) → actor p.path ≡ u → IsFresh u (commit.begin_prepare targets p)
prepare_fresh u [] p who = confirm_fresh u p.used p who
prepare_fresh u (n ∷ ns) p who = who

vote_fresh : (u : Uid) (servers : List ℕ) (p : Plan) → actor p.path ≡ u → IsFresh u (commit.begin_vote servers p)
vote_fresh u [] p who = prepare_fresh u (commit.targets_of p) p who
vote_fresh u (n ∷ ns) p who = who

marked_path : (ns : List ℕ) (p : Plan) → (let q = commit.marks_stores ns p in q.path) ≡ p.path
marked_path [] p = refl
marked_path (n ∷ ns) p = marked_path ns (commit.marks_store n p)

given_fresh : (u : Uid) (m : Machine) → actor (plan_of m).path ≡ u → IsFresh u (let g = commit.given_up m in g.step)
given_fresh u (Voting p left) who = tt
given_fresh u (Preparing p left) who = let q = commit.marks_stores left p in
    confirm_fresh u q.used q (ap actor (marked_path left p) ∙ who)
given_fresh u (Confirming p) who = tt

action_so : (b : Branch) (intents : List (Uid × Intent)) (c : Coord) → GoOn c (commit_action b intents c).part
    (commit_action b intents c).outs
action_so b intents c = by b.doomed
  where
    p : Plan
    p = plan_for b.path (last_req (doing_of (actor b.path) c)) (root_at (root_of b.path) c) c

    top : GoOn c (commit_top b.path intents c).part (commit_top b.path intents c).outs
    top = let t = moved_commit (actor b.path) (commit.start (plan_for b.path (last_req (doing_of (actor b.path) c))
        (root_at (root_of b.path) c) c))
        intents c in behind_lines c t.part (says (actor b.path) body.Committing c) t.outs
        (moved_so (actor b.path) (commit.start (plan_for b.path (last_req (doing_of (actor b.path) c)) (root_at (root_of b.path) c) c))
        intents c
        (vote_fresh (actor b.path) (commit.servers_of (plan_for b.path (last_req (doing_of (actor b.path) c))
        (root_at (root_of b.path) c) c))
        (plan_for b.path (last_req (doing_of (actor b.path) c)) (root_at (root_of b.path) c) c) refl))

    kinds : (k : Kind) → GoOn c (commit_open b intents c k).part (commit_open b intents c k).outs
    kinds kind.Nested = end_so (actor b.path) ending.Commit c (commit_open b intents c kind.Nested).outs
    kinds kind.Serial = end_so (actor b.path) ending.Commit c (commit_open b intents c kind.Serial).outs
    kinds kind.Top = top
    kinds kind.Independent = top
    kinds kind.Constituent = top

    by : (x : Bool) → (let d = cond x (aborts_with (actor b.path) cause.Doomed intents c) (commit_open b intents c b.kind) in
        GoOn c d.part d.outs)
    by true = end_so (actor b.path) ending.Abort c (aborts_with (actor b.path) cause.Doomed intents c).outs
    by false = kinds b.kind

giveup_so : (u : Uid) (intents : List (Uid × Intent)) (c : Coord) → IsHome c → GoOn c (give_up u intents c).part (give_up u intents c).outs
giveup_so u intents c home = by (doing_of u c) refl
  where
    now : (d : Doing) → doing_of u c ≡ Some d → (n : Now) → d.now ≡ n → GoOn c (gives_up u intents c n).part (gives_up u intents c n).outs
    now d does Idle is = stays c []
    now d does (Calling s) is =
        let t = step_call s (given_up s.at) (on_root (root_of s.path) (root_lost s (given_up s.at)) c) in
        behind_lines c t.part (gaveup_lines u (next_node s ∷ []) c) t.outs
        (step_so s (given_up s.at) (on_root (root_of s.path) (root_lost s (given_up s.at)) c))
    now d does (Committing m) is =
        let t = moved_commit u (commit.given_up m) intents c in
        behind_lines c t.part (gaveup_lines u (nodes_given_up m) c) t.outs
        (moved_so u (commit.given_up m) intents c (given_fresh u m (home.commits u d m does is)))

    by : (o : Option Doing) → doing_of u c ≡ o → GoOn c (give_up_doing u intents c o).part (give_up_doing u intents c o).outs
    by None none = stays c []
    by (Some d) does = now d does d.now refl

pub acts_go : (i : Input) (intents : List (Uid × Intent)) (c : Coord) → IsHome c → is_act i ≡ true →
    GoOn c (acts i intents c).part (acts i intents c).outs
acts_go (input.Call l x o) intents c home is = by (branch_named l c)
  where
    by : (f : Option Branch) → GoOn c (on_branch (λ b. call b.path x o c) c f).part (on_branch (λ b. call b.path x o c) c f).outs
    by None = stays c []
    by (Some b) =
        let p = b.path in
        let r = root_at (root_of p) c in
        let old = keeping_of x r in
        let k = renewed (is_free (root_of p) (actor p) x c) old old.kept in
        let t = on_root (root_of p) (with_keeping x k) (record c { tree = uses_object p x c.tree }) in
        let s = call_steps p x o (next_req (actor p) c) r c k in
        same_before c t (goes_on s t).part (goes_on s t).outs
        (λ w. let same = uses_same p x c.tree in λ i. cond (same.own w i) (at_place w.num c.doings) None) (goes_so s t)
acts_go (input.Include l x n) intents c home is = by (branch_named l c)
  where
    by : (f : Option Branch) → GoOn c (on_branch (λ b. include b.path x n c) c f).part (on_branch (λ b. include b.path x n c) c f).outs
    by None = stays c []
    by (Some b) =
        let p = b.path in
        let t = record c { tree = uses_object p x c.tree } in
        let s = start p x (calls.Include n) None unbound (next_req (actor p) c) in
        same_before c t (goes_on s t).part (goes_on s t).outs
        (λ w. let same = uses_same p x c.tree in λ i. cond (same.own w i) (at_place w.num c.doings) None) (goes_so s t)
acts_go (input.Commit l) intents c home is = by (branch_named l c)
  where
    by : (f : Option Branch) →
        GoOn c (on_branch (λ b. commit_action b intents c) c f).part (on_branch (λ b. commit_action b intents c) c f).outs
    by None = stays c []
    by (Some b) = action_so b intents c
acts_go (input.Abort l) intents c home is = by (branch_named l c)
  where
    by : (f : Option Branch) → GoOn c (on_branch (λ b. abort_action (actor b.path) intents c) c f).part
        (on_branch (λ b. abort_action (actor b.path) intents c) c f).outs
    by None = stays c []
    by (Some b) = any_outs c (abort_action (actor b.path) intents c).part (abort_action (actor b.path) intents c).outs
        (aborted_so (open_below (actor b.path) c.tree ++ actor b.path ∷ []) c)
acts_go (input.GiveUp l) intents c home is = by (branch_named l c)
  where
    by : (f : Option Branch) → GoOn c (on_branch (λ b. give_up (actor b.path) intents c) c f).part
        (on_branch (λ b. give_up (actor b.path) intents c) c f).outs
    by None = stays c []
    by (Some b) = giveup_so (actor b.path) intents c home
acts_go i intents c home is = absurd (cc is)

pub begins_go : (l : Label) (k : Kind) (parent : Option Label) (c : Coord) (outs : List Effect) →
    GoOn c (begin_action l k parent (parent_of parent c) c).part outs
begins_go l k parent c outs w q does = by (is_own w c.tree) refl w.num does
  where
    fresh : Doing
    fresh = record { label = l; req = 0; now = Idle; took = [] }

    by : (b : Bool) → is_own w c.tree ≡ b → (j : ℕ) → cond b (at_place j (c.doings ++ fresh ∷ [])) None ≡ Some q →
        ((d : Doing) × (cond b (at_place j c.doings) None ≡ Some d) × (d.now ≡ q.now)) ⊎ AsksAll outs w q.now
    by false own j at = absurd (cc at)
    by true own zero at = absurd (cc at)
    by true own (suc j) at = ⊎_elim (λ old. inl (q, old, refl))
        (λ new. inr (subst (AsksAll outs w) (ap (λ (d : Doing). d.now) new.1) tt)) (still_there fresh q c.doings j at)

pub again_goes : (c : Coord) (outs : List Effect) → GoOn c (again_all c.doings c).part outs
again_goes c outs = same_after c c (again_all c.doings c).part outs (λ w. again_doing c.doings c w) (stays c outs)
