-- A whole coordinator goes in the machine: the commit of a top is called.
use Rattle.arj_law_parts.proofs.Words
use Words.{◌≡◌, ◌≢◌, ◌≤◌, ◌+◌, ◌*◌, ◌⊎◌, ◌∙◌, ℕ, zero, suc, List, [], ◌∷◌, true, false, cond, length, Option, Some, refl, sym, ap, subst}
use Words.{inl, inr, ⊎_elim, arith, Contains, slice_set, in_from, Kind, Uid, actor, asks_machine, commit_action, commit_open, commit_top}
use Words.{commits_in, last_req, step_commit, Asks, CommitStep, Confirming, Decides, Machine, Plan, Preparing, Used, Voting, begin_confirm}
use Words.{begin_prepare, begin_vote, further, participants, plan_of, servers_of, targets_of, waiting, Calling, Committing, Coord, Doing}
use Words.{Idle, change_doing, doing_of, on_doing, on_root, set_doing, Intent, aborts_with, decide, ended, root_after, Branch, branch_of}
use Words.{ended_at, has_open_child, root_of, set_place}
use Words.cause
use Words.ending
use Words.kind
use Rattle.arj_law_lock_view.proofs.Terms
use Terms.{Act, In, root, same, top, Run, Alive, Call, Covered, Include, State, go_on, by_cases, same_is, AreBegun, Paths, IsVoting}
use Terms.{good_on, doing_put, place_length, IsFirst, IsFreeToEnd, OnlyActed, IsSteady, SeesAction, stage_of, Acts, IsReached, Codes}
use Terms.{ChangesOne, called_at, committed_at, moved_by, now_by, Goes, HasOfUnit, AreTopped, HasLowGrant, IsOfUnit, OnlyEnded, SeesWhole}
use Terms.{plan_now, AreKept, OnlySent, SeesMachine, SeesNext, SeesPlan, SeesCoord}
use Rattle.arj_law_lock.specs.machine.State.{Action}
use Rattle.arj_law_lock_view.proofs.view
use view.{AskSteps.commits_ask_only, CallInputSteps.quiet_whole, IncludeSteps.nobody, MoveSteps.moves_doing, PlanSteps.commits_set_out}
use view.{WholeSteps.commits_keep_roots}
use view.ActingSteps.{tops_begin, unended_none}
use view.CoverSteps.{plans_cover_units, plans_say_low}
use view.HeardSteps.{coord_sent, moves_asks, step_goes}
use view.InputSteps.{callers_here, then_run, to_run, whole_stays}
use view.OneSteps.{OnlyOne, ended_is, work_changed}
use view.TreeSteps.{action_kind, top_kind}
use Rattle.arj_law_lock_view.specs.view.Inputs.{TopCommitsAreTaken}
use Rattle.arj_law_parts.proofs.parts.GoodCoords.{voting_at}

-- ---- where a commit sets out to

-- it asks with the next number, or is decided since it uses nothing
sets_confirm : (us : List Used) (p : Plan) → p.used ≡ us → ((m : Machine) × (begin_confirm us p ≡ Asks m)
    × ((let q = plan_of m in q.req) ≡ p.req + 1)) ⊎ ((begin_confirm us p ≡ Decides p) × (p.used ≡ []))
sets_confirm [] p is = inr (refl, is)
sets_confirm (u ∷ us) p is = inl (Confirming (further (1 ∷ []) p), refl, refl)

sets_prepare : (ns : List ℕ) (p : Plan) → ((m : Machine) × (begin_prepare ns p ≡ Asks m) × ((let q = plan_of m in q.req) ≡ p.req + 1))
    ⊎ ((begin_prepare ns p ≡ Decides p) × (p.used ≡ []))
sets_prepare [] p = sets_confirm p.used p refl
sets_prepare (n ∷ ns) p = inl (Preparing (further (n ∷ ns) p) (n ∷ ns), refl, refl)

sets_vote : (ns : List ℕ) (p : Plan) → ((m : Machine) × (begin_vote ns p ≡ Asks m) × ((let q = plan_of m in q.req) ≡ p.req + 1))
    ⊎ ((begin_vote ns p ≡ Decides p) × (p.used ≡ []))
sets_vote [] p = sets_prepare (targets_of p) p
sets_vote (n ∷ ns) p = inl (Voting (further (n ∷ ns) p) (n ∷ ns), refl, refl)

-- ---- lists

set_twice : {A : Type 0} (k : ℕ) (a b : A) (items : List A) → slice_set (slice_set items k a) k b ≡ slice_set items k b
set_twice k a b [] = refl
set_twice zero a b (y ∷ ys) = refl
set_twice (suc k) a b (y ∷ ys) = ap (λ zs. y ∷ zs) (set_twice k a b ys)

place_twice : {A : Type 0} (k : ℕ) (a b : A) (items : List A) → set_place k b (set_place k a items) ≡ set_place k b items
place_twice zero a b items = refl
place_twice (suc k) a b items = set_twice k a b items

-- ---- the commit is called

open_top : (b : Branch) (intents : List (Uid × Intent)) (c : Coord) (k : Kind) → k ≢ kind.Serial → k ≢ kind.Nested →
    (let e = commit_open b intents c k in e.part) ≡ (let e = commit_top b.path intents c in e.part)
open_top b intents c kind.Serial s n = absurd (s refl)
open_top b intents c kind.Nested s n = absurd (n refl)
open_top b intents c kind.Top s n = refl
open_top b intents c kind.Constituent s n = refl
open_top b intents c kind.Independent s n = refl

module _ (act : Acts) (code : Codes) (paths : Paths) (x p : ℕ) (c : Coord) (u : Uid) (b : Branch) (d : Doing) (intents : List (Uid ×
    Intent)) (S : State) (reached : IsReached S) (free : IsFreeToEnd act paths c u b d) (unserial : b.kind ≢ kind.Serial) (unnested : b.kind
    ≢ kind.Nested) (undoomed : b.doomed ≡ false) (childless : has_open_child u c.tree ≡ false) (first : IsFirst act c u) (now : S.now ≤ p)
    (begun : AreBegun (let k = free.steady in k.actions)) (topped : AreTopped act c) (low : HasLowGrant x (act u) (plan_now b c) S)
    (keeps : AreKept x (act u) (plan_now b c) S) (whole : SeesWhole act code x c S) where
  abbrev unit : ℕ
  unit = root (act u)

  abbrev pl : Plan
  pl = plan_now b c

  abbrev h : Machine → Doing → Doing
  h m q = record q { req = (let v = plan_of m in v.req); now = Committing m }

  its : actor b.path ≡ u
  its = free.steady.good.tree.lists.places u b free.there

  req_is : pl.req ≡ d.req
  req_is = ap last_req (ap (λ (v : Uid). doing_of v c) its ∙ free.works)

  was : SeesAction x b d (S.action (act u))
  was = let k = whole.coord in let a = k.actions in
      a.each u b d free.there free.works (action_kind (act u) b.kind unserial (free.steady.placed u b free.there))

  zero_now : (S.action (act u)).stage ≡ 0
  zero_now = was.stage ∙ (λ i. stage_of (unended_none b.ended free.unended i) (free.idle i))

  covered : HasOfUnit x (act u) (plan_now b c) S
  covered = plans_cover_units act code paths x c u b d S free begun unserial unnested childless whole

  -- its line stands
  record IsCalled (m : Machine) (T : State) : Type 0 where
    coord : SeesCoord act code x (commits_in u m c) T
    only : OnlyActed unit S T
    then : T.now ≡ p + 1
    one : (T.action (act u)).stage ≡ 1
    changed : ChangesOne (act u) (called_at p (S.action (act u))) S T
    plan : SeesPlan x (act u) pl T
    kept : AreKept x (act u) pl T

  called : (m : Machine) → d.req ≤ (let q = plan_of m in q.req) → Goes S (IsCalled m)
  called m more = to_run (tops_begin act paths x p c u b d m S free unserial unnested undoomed childless
      (callers_here act code paths x c S free.steady whole.coord) first more now (let k = whole.coord in k.actions)) (λ T run y. record {
        coord = commits_keep_roots act code paths x unit c u b d m S T
            (record { steady = free.steady; there = free.there; unended = free.unended; works = free.works }) whole.coord y.1 y.0;
        only = y.1;
        then = y.2;
        one = y.3;
        changed = record { one = λ its_one. y.4; others = λ a its_one other. y.5 a other };
        plan = plan_T T y.1 y.3 y.5;
        kept = subst (AreKept x (act u) pl) (sym (let o = y.1 in o.rest)) keeps;
      })
    where
      plan_T : (T : State) → OnlyActed unit S T → (T.action (act u)).stage ≡ 1 →
          ((a : Act) → same a (act u) ≡ false → T.action a ≡ S.action a) → SeesPlan x (act u) pl T
      plan_T T only one others = record {
        top = top_kind (act u) b.kind unserial unnested (free.steady.placed u b free.there);
        begun = omega (arith, one);
        calls = λ k i. covered.0 k (calls_S k i.there) (alive_S k.act i.alive) (unit_S k.act i.covered);
        includes = λ k i. covered.1 k (includes_S k i.there) (alive_S k.act i.alive) (unit_S k.act i.covered);
        below = λ q k there about i. subst (λ (s : State). q.grant * 4294967296 ≤ s.kept (root (act u))) (sym only.rest)
            (low q k there about (calls_S k i.there) (alive_S k.act i.alive) (unit_S k.act i.covered));
        granted = λ q k there about i. plans_say_low act code paths x c u b d S free begun topped unserial unnested childless whole q k
            there about (includes_S k i.there) (alive_S k.act i.alive) (unit_S k.act i.covered);
      }
        where
          calls_S : (k : Call) → In k T.calls → In k S.calls
          calls_S k i = subst (λ (s : State). In k s.calls) only.rest i

          includes_S : (k : Include) → In k T.includes → In k S.includes
          includes_S k i = subst (λ (s : State). In k s.includes) only.rest i

          alive_S : (a : Act) → Alive T a → Alive S a
          alive_S a alive v on_it = ⊎_elim
              (λ (is : same v (act u) ≡ true). let e : (S.action v).stage ≡ (S.action (act u)).stage = ap (λ (y : Act). (S.action y).stage)
              (same_is v (act u) is) in let z = zero_now in omega (arith, e, z))
              (λ (isnt : same v (act u) ≡ false). subst (λ (y : Action). y.stage ≤ 3) (others v isnt) (alive v on_it))
              (by_cases (same v (act u)))

          unit_S : (a : Act) → Covered T (act u) a → IsOfUnit (act u) a S
          unit_S a (r, inl is) = (r, inl is)
          unit_S a (r, inr (three, less)) = (
            r,
            inr (⊎_elim
                (λ (is : same (top a) (act u) ≡ true). absurd (let e : (T.action (top a)).stage ≡ (T.action (act u)).stage = ap
                (λ (y : Act). (T.action y).stage) (same_is (top a) (act u) is) in omega (arith, e, three, one)))
                (λ (isnt : same (top a) (act u) ≡ false). ap (λ (y : Action). y.stage) (sym (others (top a) isnt)) ∙ three)
                (by_cases (same (top a) (act u)))),
          )

  abbrev After : CommitStep → Coord → State → Type 0
  After st e V = SeesWhole act code x e V × (OnlyEnded unit S V × (V.now ≡ now_by st (p + 1) (p + 1))
      × ChangesOne (act u) (moved_by st (p + 1) (called_at p (S.action (act u)))) S V)

  -- an action's work by then
  its_work : (m : Machine) (w : Uid) (q : Doing) → w ≡ u → doing_of w (commits_in u m c) ≡ Some q → q.now ≡ Committing m
  its_work m w q is has_it = let two : ◌≡◌ {A = Option Doing} (Some (h m d)) (Some q) = sym one.doing ∙ ap (λ (v : Uid).
      doing_of v (commits_in u m c)) (sym is) ∙ has_it in let same_one : h m d ≡ q = cc two in ap (λ (v : Doing). v.now) (sym same_one)
    where
      one : OnlyOne c u b (h m d) (commits_in u m c)
      one = work_changed c u b d free.there free.works (h m)

  whole_at : (m : Machine) (T : State) → Run S T → T.includes ≡ S.includes → SeesCoord act code x (commits_in u m c) T →
      SeesMachine x (act u) m T → SeesWhole act code x (commits_in u m c) T
  whole_at m T run same_includes coord seen = whole_stays act code x c (commits_in u m c) S T nobody (λ w. w ≡ u) reached run
      (moves_doing x c nobody (λ w. w ≡ u) u (h m) refl) same_includes whole coord
      (λ w q s l new has_it is. absurd (let bad : Committing m ≡ Calling s = sym (its_work m w q new has_it) ∙ is in cc bad))
      (λ w q m' new has_it is. subst (λ (y : Machine). SeesMachine x (act w) y T) (same_machine m' (sym (its_work m w q new has_it) ∙ is))
      (subst (λ (v : Uid). SeesMachine x (act v) m T) (sym new) seen))
      (λ w q new. absurd new)
    where
      same_machine : (m' : Machine) → Committing m ≡ Committing m' → m ≡ m'
      same_machine m' y = cc y

  only_all : (T V : State) → OnlyActed unit S T → OnlySent T V → OnlyEnded unit S V
  only_all T V o sent = record {
    rest = sent.rest ∙ ap (λ (s : State). record s { net = V.net }) o.rest ∙ (λ i. record S
        { action = sym (ap (λ (s : State). s.action) sent.rest) i; now = sym (ap (λ (s : State). s.now) sent.rest) i; net = V.net });
    others = λ a away. ap (λ (s : State). s.action a) sent.rest ∙ o.others a away;
    ended = λ a over. ap (λ (s : State). s.action a) sent.rest ∙ o.ended a over;
  }

  -- it asks
  asks : (m : Machine) → begin_vote (servers_of pl) pl ≡ Asks m → (let q = plan_of m in q.req) ≡ pl.req + 1 →
      Goes S (After (Asks m) (let a = asks_machine m (commits_in u m c) in a.part))
  asks m is number = then_run (called m (let e = req_is in omega (arith, e, number))) (λ T run y.
      to_run (commits_set_out x (act u) pl T (reached.0, go_on reached.1 run) y.one y.kept y.plan) (λ V run_V z.
      let sent = z.1 in
      let coord_V : SeesCoord act code x (commits_in u m c) V = subst (SeesCoord act code x (commits_in u m c)) (sym sent.rest)
      (coord_sent act code x (commits_in u m c) T V.net sent.sent y.coord) in
      let at_V = whole_at m V (go_on run run_V) (ap (λ (s : State). s.includes) sent.rest ∙ ap (λ (s : State). s.includes)
      (let o = y.only in o.rest)) coord_V (subst (λ (t : CommitStep). SeesNext x (act u) t V) is z.0) in (
        quiet_whole act code x (commits_in u m c) (let a = asks_machine m (commits_in u m c) in
            a.part) V (reached.0, go_on reached.1 (go_on run run_V)) (moves_asks x (let q = plan_of m in q.path) (let q = plan_of m in
            q.req) (waiting m) (commits_in u m c) nobody nobody) at_V (commits_ask_only act code x m (commits_in u m c) V coord_V),
        (
          only_all T V y.only sent,
          ap (λ (s : State). s.now) sent.rest ∙ y.then,
          record {
            one = λ its_one. ap (λ (s : State). s.action (act u)) sent.rest ∙ (let o = y.changed in o.one its_one);
            others = λ a its_one other. ap (λ (s : State). s.action a) sent.rest ∙ (let o = y.changed in o.others a its_one other);
          },
        ),
      )))

  -- or is decided
  module _ (unused : pl.used ≡ []) where
    abbrev m0 : Machine
    m0 = Confirming pl

    abbrev c' : Coord
    c' = commits_in u m0 c

    c'_is : c' ≡ set_doing u (h m0 d) c
    c'_is = λ i. change_doing (h m0) u c (free.works i)

    voting : IsVoting c.tree u pl
    voting = subst (λ (v : Uid). IsVoting c.tree v pl) its
        (voting_at free.steady.actions paths free.steady.whole b c (ap (λ (v : Uid). branch_of v c.tree) its ∙ free.there) free.unended
        (ap (λ (v : Uid). has_open_child v c.tree) its ∙ childless) unserial unnested free.steady.good)

    steady' : IsSteady act paths c'
    steady' = record {
      actions = free.steady.actions;
      good = good_on free.steady.actions paths u (h m0) c (λ q. voting) free.steady.good;
      alike = free.steady.alike;
      whole = free.steady.whole;
      works = subst (λ (e : Coord). length e.doings ≡ length (let t = e.tree in t.branches)) (sym c'_is)
          (place_length u.num (h m0 d) c.doings ∙ free.steady.works);
      placed = λ w q there. free.steady.placed w q (ap (λ (e : Coord). branch_of w e.tree) (sym c'_is) ∙ there);
    }

    decides : begin_vote (servers_of pl) pl ≡ Decides pl → Goes S (After (Decides pl) (let v = decide pl c' in v.part))
    decides is = then_run (called m0 (let e = req_is in omega (arith, e))) (λ T run y.
        to_run (step_goes act code paths x (p + 1) c' u b (h m0 d) m0 intents T (reached.0, go_on reached.1 run) steady'
        (ap (λ (e : Coord). branch_of u e.tree) c'_is ∙ free.there) free.unended
        (ap (doing_of u) c'_is ∙ doing_put u (h m0 d) d c free.works) refl (omega arith) (let e = y.then in omega (arith, e))
        (whole_at m0 T run (ap (λ (s : State). s.includes) (let o = y.only in o.rest)) y.coord
        (y.plan, λ q there. absurd (in_from q [] (subst (λ (us : List Used). Contains us q) unused there))))
        (Decides pl) (refl, refl) tt (subst (λ (t : CommitStep). Goes T (λ V. SeesNext x (act u) t V × OnlySent T V)) is
        (commits_set_out x (act u) pl T (reached.0, go_on reached.1 run) y.one y.kept y.plan)))
        (λ V run_V z. (
          z.0,
          (
            both T V y.only z.1.0,
            z.1.1,
            record {
              one = λ its_one. (let o = z.1.2 in o.one its_one) ∙ ap (committed_at (p + 1)) (let o = y.changed in o.one its_one);
              others = λ a its_one other. (let o = z.1.2 in o.others a its_one other) ∙ (let o = y.changed in o.others a its_one other);
            },
          ),
        )))
      where
        both : (T V : State) → OnlyActed unit S T → OnlyEnded unit T V → OnlyEnded unit S V
        both T V o e = record {
          rest = e.rest ∙ ap (λ (s : State). record s { action = V.action; now = V.now; net = V.net }) o.rest;
          others = λ a away. e.others a away ∙ o.others a away;
          ended = λ a over. e.ended a (subst (λ (q : Action). 3 ≤ q.stage) (sym (o.ended a over)) over) ∙ o.ended a over;
        }

    -- the end is that of the action as it was
    same_end : ended u ending.Commit c' ≡ ended u ending.Commit c
    same_end = ap (ended u ending.Commit) c'_is
        ∙ ended_is (set_doing u (h m0 d) c) u b (h m0 d) free.there (doing_put u (h m0 d) d c free.works) ending.Commit
        ∙ (λ i. record c
        { tree = ended_at u ending.Commit c.tree; doings = place_twice u.num (h m0 d) (record (h m0 d) { now = Idle }) c.doings i })
        ∙ (λ i. set_doing u (record d { req = req_is i; now = Idle }) (record c { tree = ended_at u ending.Commit c.tree }))
        ∙ sym (ended_is c u b d free.there free.works ending.Commit)

  top_goes : Goes S (After (begin_vote (servers_of pl) pl) (let e = commit_action b intents c in e.part))
  top_goes = subst (λ (e : Coord). Goes S (After (begin_vote (servers_of pl) pl) e)) (sym part_is) (⊎_elim
      (λ f. subst (λ (t : CommitStep). Goes S (After t (let e = step_commit u t intents c in e.part))) (sym f.1) (asks f.0 f.1 f.2))
      (λ f. subst (λ (t : CommitStep). Goes S (After t (let e = step_commit u t intents c in e.part))) (sym f.0)
      (subst (λ (e : Coord). Goes S (After (Decides pl) e)) (decided_same f.1) (decides f.1 f.0)))
      (sets_vote (servers_of pl) pl))
    where
      part_is : (let e = commit_action b intents c in e.part) ≡ (let e = step_commit u (begin_vote (servers_of pl) pl) intents c in e.part)
      part_is = (λ i. (let e = cond (undoomed i) (aborts_with (actor b.path) cause.Doomed intents c) (commit_open b intents c b.kind) in
          e.part)) ∙ open_top b intents c b.kind unserial unnested
          ∙ ap (λ (v : Uid). (let e = step_commit v (begin_vote (servers_of pl) pl) intents c in e.part)) its

      decided_same : (unused : pl.used ≡ []) →
          (let v = decide pl (commits_in u (Confirming pl) c) in v.part) ≡ (let v = decide pl c in v.part)
      decided_same unused = ap (λ (e : Coord).
          on_root (root_of b.path) (root_after pl) (on_doing (actor b.path) (λ (q : Doing). record q { took = participants pl }) e)) (subst
          (λ (v : Uid). ended v ending.Commit (commits_in u (Confirming pl) c) ≡ ended v ending.Commit c) (sym its) (same_end unused))

pub top_commits_are_taken : TopCommitsAreTaken
top_commits_are_taken act code paths x p c u b d intents S reached free begun topped unserial unnested undoomed childless first now low
    keeps whole =
    top_goes act code paths x p c u b d intents S reached free unserial unnested undoomed childless first now begun topped low keeps whole
