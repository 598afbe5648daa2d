-- What a coordinator knows of bindings and incarnations, through all that it does; and what its requests and its lines say of them.
use Rattle.arj_law_parts.proofs.Words
use Words.{⊤, ◌≡◌, ◌&&◌, ◌||◌, ◌++◌, nat_le, ℕ, Bool, true, false, cond, List, [], ◌∷◌, Option, Some, None, IfSome, arith, filter, map, min}
use Words.{refl, subst, sym, unwrap_or, list_any, AllByRecursion, Binding, Body, Label, Path, Reply, Uid, VotedReply}
use Words.{ConfirmedReply, PreparedReply, actor, top_of, uids_of, known_at_start, renewed, given_away, root_heard, root_moved, kept_at, keeps_after}
use Words.{notes_grant, granted_by, granted_with, is_grant_of, named_last, was_named, last_req, root_lost, is_ended, is_invoke_ask}
use Words.{end_line, Known, Steps, CallStep, CallEnd, Answered, Included, Conflict, Changed, Lost, Moved, Goal, Run, Include, given_up}
use Words.{next_ask, spoils, has_changed, Used, Plan, Machine, Voting, Preparing, Confirming, plan_of, ask_of, is_at_server, least_of, Marked, Aborts}
use Words.{CommitStep, begin_confirm, begin_prepare, begin_vote, stores_left, votes_left, servers_of, targets_of, marks_store, marks_stores}
use Words.{with_number, with_states, without_number, Coord, new_coord, Doing, Now, Idle, Calling, Committing, Root, Keeping, Went, Said, Grant}
use Words.{no_root, root_at, no_keeping, keeping_of, kept_of, is_free, known_for, nothing_known, objects_in, plan_for, retains, used_of, used_with}
use Words.{is_called, least_grant, counts_grant, with_keeping, with_went, with_said, same_went, same_said, root_after, keeping_after, kept_after}
use Words.{ends_of, root_of, Effect, Intent, doing_of, begin_action, Branch, Kind}
use Words.bound
use Words.commit
use Words.confirmed
use Words.prepared
use Words.voted
use Rattle.arj_law_parts.proofs.coordinator
use coordinator.Trace.{ActionEnds, AnswersCommit, BeginsCommit, CallEnds, CommitBegins, CommitTurn, EndsAsked, EndsDecided, EndsDoomed, EndsFailed}
use coordinator.Trace.{EndsNested, EndsSerial, Ends, Excludes, GaveUpCall, GaveUpCommit, GivesCommitUp, Lines}
use coordinator.Trace.{Came, Hears, turned, kept_at_start, CallTurn, Answers, GivesUp, Calls, StartsCall, StartsInclude, GoesOn, CallsAgain}
use coordinator.Trace.{PlanFrom, NewPlan, OldPlan, PlanMove, Marks, Plans, plan_keeps, Commits, CommitsOn, CommitsAgain, OfCall, OfCommit}
use coordinator.Trace.{Move, Out, AsksIt, Trace, trace_says}
use coordinator.Trace as trace
use coordinator.Works.{KeepsWorks, works_begun, works_move, works_new, KeepsRoots, its_root, roots_move}
use Rattle.arj_law_parts.proofs.parts.LivesNamed.{all_at, all_each, all_put}
use Rattle.arj_law_runs.proofs.addresses.Lists.{all_filter, all_map}
use Rattle.arj_msg.specs.Fields.{BindingFits}
use Rattle.arj_msg.specs.InForm.{IsShort}
use Rattle.arj_law_cause.proofs.numbers.Calls.{AtNums, EndNums, KeptNums, KnownNums, MovedNums, StepNums, answered_nums, asks_nums}
use Rattle.arj_law_cause.proofs.numbers.Calls.{given_up_nums, none_fits, some_inc, start_nums}
use Rattle.arj_law_cause.proofs.numbers.Fits.{AllNums, AskNums, BodyNums, CauseNums, EffectNums, ReplyNums, VersionFits}
use Rattle.arj_law_cause.proofs.numbers.Fits.{difference_fits, request_nums}

-- ---- what is known

-- what a root keeps of an object, and the binding that it avoids
abbrev pub KeepNums : Keeping → Type 0
KeepNums k = KeptNums k.kept × BindingFits k.avoid

-- what it keeps, and the incarnations of its grants
pub record RootNums (r : Root) : Type 0 where
  pub keeping : AllByRecursion (λ (e : ℕ × Keeping). KeepNums e.1) r.keeping
  pub grants : AllByRecursion (λ (g : Grant). IsShort g.least) r.grants

-- an object of a plan
abbrev pub UsedNums : Used → Type 0
UsedNums u = BindingFits u.binding × IsShort u.inc × IsShort u.grant

abbrev pub PlanNums : Plan → Type 0
PlanNums p = AllByRecursion UsedNums p.used

-- what an action is at
abbrev pub NowNums : Now → Type 0
NowNums Idle = ⊤
NowNums (Calling s) = AtNums s.at
NowNums (Committing m) = PlanNums (plan_of m)

abbrev DoingNums : Uid → Doing → Type 0
DoingNums u d = NowNums d.now

-- a coordinator's bindings and incarnations fit
pub record CoordNums (c : Coord) : Type 0 where
  pub works : (u : Uid) (d : Doing) → doing_of u c ≡ Some d → NowNums d.now
  pub roots : AllByRecursion (λ (e : ℕ × Root). RootNums e.1) c.roots

no_root_nums : RootNums no_root
no_root_nums = record { keeping = tt; grants = tt }

no_keep_nums : KeepNums no_keeping
no_keep_nums = (tt, none_fits)

-- ---- what a root keeps

keep_of : (x : ℕ) (r : Root) → RootNums r → KeepNums (keeping_of x r)
keep_of x r so = all_at KeepNums no_keeping no_keep_nums x r.keeping so.keeping

keep_put : (x : ℕ) (k : Keeping) (r : Root) → KeepNums k → RootNums r → RootNums (with_keeping x k r)
keep_put x k r its so = record { keeping = all_put KeepNums x k r.keeping its so.keeping; grants = so.grants }

went_nums : (w : Went) (r : Root) → RootNums r → RootNums (with_went w r)
went_nums w r so = by (list_any (same_went w) r.went)
  where
    by : (b : Bool) → RootNums (cond b r (record r { went = r.went ++ w ∷ [] }))
    by true = so
    by false = record { keeping = so.keeping; grants = so.grants }

said_nums : (s : Said) (r : Root) → RootNums r → RootNums (with_said s r)
said_nums s r so = by (list_any (same_said s) r.said)
  where
    by : (b : Bool) → RootNums (cond b r (record r { said = r.said ++ s ∷ [] }))
    by true = so
    by false = record { keeping = so.keeping; grants = so.grants }

heard_nums : (s : Steps) (e : CallEnd) (r : Root) → RootNums r → RootNums (root_heard s e r)
heard_nums s (Answered a) r so = said_nums (record { path = uids_of s.path; x = s.x }) r so
heard_nums s (Included st) r so = record { keeping = so.keeping; grants = so.grants }
heard_nums s (Conflict h m n) r so = so
heard_nums s (Changed n w) r so = so
heard_nums s (Lost n b) r so = so

after_nums : (g : Goal) (spoilt : Bool) (kept : Option Known) (k : Keeping) → KeptNums kept → KeepNums k → KeepNums (keeps_after g spoilt kept k)
after_nums (Run o) spoilt kept k a b = (a, b.1)
after_nums (Include s) spoilt kept k a b = b

known_nums : (top : Uid) (x : ℕ) (r : Root) (c : Coord) (o : Option Known) → KeptNums o → KeptNums (known_at_start top x r c o)
known_nums top x r c None so = tt
known_nums top x r c (Some k) so = by (k.recorded && (was_named top x k.binding r || retains x r c))
  where
    by : (b : Bool) → KeptNums (cond b (Some k) None)
    by true = so
    by false = tt

renewed_nums : (free : Bool) (k : Keeping) (o : Option Known) → KeptNums o → KeepNums k → KeepNums (renewed free k o)
renewed_nums free k None its so = so
renewed_nums free k (Some old) its so = by (free && k.spoiled)
  where
    by : (b : Bool) → KeepNums (cond b (given_away k old) k)
    by true = (tt, its.0)
    by false = so

lesser : (P : ℕ → Type 0) (a b : ℕ) → P a → P b → P (min a b)
lesser P a b x y = by (nat_le a b) refl
  where
    left : nat_le a b ≡ true → min a b ≡ a
    left is = grind (arith, is)

    right : nat_le a b ≡ false → min a b ≡ b
    right is = grind (arith, is)

    by : (q : Bool) → nat_le a b ≡ q → P (min a b)
    by true is = subst P (sym (left is)) x
    by false is = subst P (sym (right is)) y

least_nums : (ns : List ℕ) → AllByRecursion IsShort ns → IsShort (least_of ns)
least_nums [] all = omega arith
least_nums (i ∷ []) all = all.0
least_nums (i ∷ j ∷ ns) all = lesser IsShort i (least_of (j ∷ ns)) all.0 (least_nums (j ∷ ns) all.1)

granted_nums : (g : Grant) (gs : List Grant) → IsShort g.least → AllByRecursion (λ (h : Grant). IsShort h.least) gs →
    AllByRecursion (λ (h : Grant). IsShort h.least) (granted_with g gs)
granted_nums g [] its all = (its, tt)
granted_nums g (h ∷ hs) its all = by (is_grant_of g.top g.x h) (granted_nums g hs its all.1)
  where
    by : (b : Bool) → AllByRecursion (λ (k : Grant). IsShort k.least) (granted_with g hs) → AllByRecursion (λ (k : Grant). IsShort k.least)
        (cond b (record h { least = min h.least g.least; named = named_last g.named h.named } ∷ hs) (h ∷ granted_with g hs))
    by true ih = (lesser IsShort h.least g.least all.0 its, all.1)
    by false ih = (all.0, ih)

notes_nums : (o : Option Grant) (r : Root) → IfSome o (λ (g : Grant). IsShort g.least) → RootNums r → RootNums (notes_grant o r)
notes_nums None r its so = so
notes_nums (Some g) r its so = record { keeping = so.keeping; grants = granted_nums g r.grants its so.grants }

grant_nums : (top : Uid) (x : ℕ) (r : Reply) → ReplyNums r → IfSome (granted_by top x r) (λ (g : Grant). IsShort g.least)
grant_nums top x (Reply.Bound (bound.Live b server i g stores)) rs = rs.2
grant_nums top x (Reply.Bound (bound.Make b server g stores)) rs = rs.1
grant_nums top x (Reply.Bound (bound.Write g stores)) rs = rs
grant_nums top x (Reply.Bound (bound.Conflict holder m)) rs = tt
grant_nums top x (Reply.Loaded r) rs = tt
grant_nums top x (Reply.Activated i) rs = tt
grant_nums top x (Reply.Noted r) rs = tt
grant_nums top x (Reply.Invoked r) rs = tt
grant_nums top x (Reply.Voted r) rs = tt
grant_nums top x (Reply.Prepared r) rs = tt
grant_nums top x (Reply.Confirmed r) rs = tt

lists_nums : (p : Plan) (r : Root) → RootNums r → RootNums (root_after p r)
lists_nums p r so = record { keeping = all_each KeepNums (keeping_after p) (λ x q s. (by x q.kept s.0, s.1)) r.keeping so.keeping; grants = so.grants }
  where
    by : (x : ℕ) (o : Option Known) → KeptNums o → KeptNums (kept_after p x o)
    by x None s = tt
    by x (Some k) s = s

lost_nums : (s : Steps) (t : CallStep) (q : Root) → RootNums q → RootNums (root_lost s t q)
lost_nums s t q so =
    let k = keeping_of s.x q in
    let kept = keep_of s.x q so in
    keep_put s.x (keeps_after s.goal (is_ended t && spoils s.at) k.kept k) q
    (after_nums s.goal (is_ended t && spoils s.at) k.kept k kept.0 kept) so

moved_nums : (s : Steps) (r : Reply) (m : Moved) → ReplyNums r → MovedNums m → (q : Root) → RootNums q →
    RootNums (root_moved s r m q)
moved_nums s r m rs its q so =
    let k = keeping_of s.x q in
    keep_put s.x (keeps_after s.goal (has_changed m.step) m.kept k) (notes_grant (granted_by (top_of s.path) s.x r) q)
    (after_nums s.goal (has_changed m.step) m.kept k its.1 (keep_of s.x q so))
    (notes_nums (granted_by (top_of s.path) s.x r) q (grant_nums (top_of s.path) s.x r rs) so)

-- ---- plans

used_nums : (top : Uid) (r : Root) (c : Coord) (x : ℕ) → RootNums r → UsedNums (used_of top r c x)
used_nums top r c x so = by (is_called x top r c)
  where
    nothing : KnownNums nothing_known
    nothing = (none_fits, tt, (omega arith))

    kept : (o : Option Known) → KeptNums o → KnownNums (unwrap_or o nothing_known)
    kept None s = nothing
    kept (Some k) s = s

    least : IsShort (least_grant top x r c)
    least = least_nums (map (λ (g : Grant). g.least) (filter (counts_grant top x r c) r.grants)) (all_map (λ (g : Grant). IsShort g.least) IsShort
        (λ (g : Grant). g.least) (filter (counts_grant top x r c) r.grants) (λ g its. its)
        (all_filter (λ (g : Grant). IsShort g.least) (counts_grant top x r c) r.grants so.grants))

    with_it : (b : Bool) (k : Known) → KnownNums k → UsedNums (used_with x b top r c k)
    with_it b k its = (its.0, some_inc k.inc its.1, least)

    by : (b : Bool) → UsedNums (used_with x b top r c (known_for b x r))
    by true = with_it true (unwrap_or (kept_of x r) nothing_known) (kept (kept_of x r) (let k = keep_of x r so in k.0))
    by false = with_it false nothing_known nothing

plan_nums : (p : Path) (req : ℕ) (r : Root) (c : Coord) → RootNums r → PlanNums (plan_for p req r c)
plan_nums p req r c so = by (objects_in (actor p) r c)
  where
    by : (xs : List ℕ) → AllByRecursion UsedNums (map (used_of (actor p) r c) xs)
    by [] = tt
    by (x ∷ xs) = (used_nums (actor p) r c x so, by xs)

machine_nums : (m : Machine) (n : ℕ) → PlanNums (plan_of m) → AskNums (ask_of m n)
machine_nums (Voting p left) n so =
    let here = all_filter UsedNums (is_at_server n) p.used so in (
      least_nums (map (λ (u : Used). u.inc) (filter (is_at_server n) p.used))
          (all_map UsedNums IsShort (λ (u : Used). u.inc) (filter (is_at_server n) p.used) (λ u its. its.1) here),
      all_map UsedNums (λ (e : ℕ × Binding). BindingFits e.1) (λ (u : Used). (u.x, u.binding)) (filter (is_at_server n) p.used) (λ u its. its.0) here,
    )
machine_nums (Preparing p left) n so = tt
machine_nums (Confirming p) n so = all_map UsedNums (λ (g : ℕ × ℕ). IsShort g.1) (λ (u : Used). (u.x, u.grant)) p.used (λ u its. its.2) so

-- ---- small steps

-- what the answer is known to say
abbrev pub CameNums : Came → Type 0
CameNums (Hears from a r intents) = ReplyNums r × VersionFits r
CameNums came = ⊤

answer_so : (r : Reply) (s : Steps) (c : Coord) → CoordNums c → ReplyNums r × VersionFits r → AtNums s.at → MovedNums (turned s r c)
answer_so r s c k rs at = answered_nums (is_free (root_of s.path) (actor s.path) s.x c) (kept_at s c) s.goal s.at r
    (let q = keep_of s.x (root_at (root_of s.path) c) (its_root RootNums no_root_nums (root_of s.path) c k.roots) in q.0) at rs.0

turn_so : {c : Coord} {came : Came} {s : Steps} {t : CallStep} {e : Coord} → CoordNums c → CameNums came → CallTurn c came s t e → StepNums t
turn_so {c} k fits (Answers from a r intents d s found is waits) =
    (answer_so r s c k fits (subst NowNums is (k.works a.act d found))).0
turn_so k fits (GivesUp l b intents d s named found is) = given_up_nums s.at (subst NowNums is (k.works (actor b.path) d found))

calls_so : {c : Coord} {came : Came} {e : Coord} {u : Uid} {s : Steps} → CoordNums c → CameNums came → Calls c came e u s → AtNums s.at
calls_so {c} k fits (StartsCall l x o b intents named) =
    let r = root_at (root_of b.path) c in
    let kept = kept_at_start b.path x c in
    let old = keep_of x r (its_root RootNums no_root_nums (root_of b.path) c k.roots) in
    let new = renewed_nums (is_free (root_of b.path) (actor b.path) x c) (keeping_of x r) (kept_of x r) old.0 old in
    start_nums (known_at_start (top_of b.path) x r c kept.kept) kept.avoid (known_nums (top_of b.path) x r c kept.kept new.0) new.1
calls_so k fits (StartsInclude l x store b intents named) = none_fits
calls_so k fits (GoesOn s t e at turn is) = subst (StepNums) is (turn_so k fits turn)
calls_so {c} k fits (CallsAgain u d s found is) = subst NowNums is (k.works u d found)

plans_so : {c : Coord} {came : Came} {u : Uid} {p q : Plan} {left : List ℕ} → CoordNums c → PlanFrom c came u p left → Plans came p q →
    PlanNums q
plans_so {c} k from plans = plan_keeps PlanNums move plans (before from)
  where
    before : {came : Came} {u : Uid} {p : Plan} {left : List ℕ} → PlanFrom c came u p left → PlanNums p
    before (NewPlan l b intents named) = plan_nums b.path (last_req (doing_of (actor b.path) c)) (root_at (root_of b.path) c) c
        (its_root RootNums no_root_nums (root_of b.path) c k.roots)
    before (OldPlan u d m found is) = subst NowNums is (k.works u d found)

    move : {came : Came} (p q : Plan) → PlanMove came p q → PlanNums p → PlanNums q
    move _ _ (Marks n p) so = so
    move _ _ _ so = so

commits_so : {c : Coord} {came : Came} {u : Uid} {m : Machine} → CoordNums c → Commits c came u m → PlanNums (plan_of m)
commits_so k (CommitsOn u m on) = plans_so k on.from on.plans
commits_so {c} k (CommitsAgain u d m found is) = subst NowNums is (k.works u d found)

move_so : {c : Coord} {came : Came} → CoordNums c → CameNums came → (e f : Coord) → Move c came e f → CoordNums e → CoordNums f
move_so {c} {came} k fits e f m h =
    record { works = works_move DoingNums works e f m h.works; roots = roots_move RootNums no_root_nums roots e f m h.roots }
  where
    works : KeepsWorks DoingNums c came
    works = record {
      fresh = λ u l. tt;
      rests = λ u d so. tt;
      takes = λ u d ns so. so;
      calls = λ s d e is so. calls_so k fits is;
      commits = λ u m d on so. plans_so k on.from on.plans;
    }

    roots : KeepsRoots RootNums c came
    roots = record {
      renews = λ x free r so. let old = keep_of x r so in
          keep_put x (renewed free (keeping_of x r) (kept_of x r)) r (renewed_nums free (keeping_of x r) (kept_of x r) old.0 old) so;
      answers = λ from a r intents d s found is waits came so.
          let rs = subst CameNums came fits in
          moved_nums s r (turned s r c) rs.0 (answer_so r s c k rs (subst NowNums is (k.works a.act d found)))
          (root_at (root_of s.path) c) so;
      loses = λ s r so. lost_nums s (given_up s.at) r so;
      hears = λ s t f g turn is r so. heard_nums s g r so;
      decides = λ u p ends r so. lists_nums p r so;
      sent = λ p req n a e q r so. went_nums (record { path = uids_of p; node = n; invoke = is_invoke_ask a }) r so;
    }

-- ---- lines

end_so : (x : ℕ) (g : Goal) (e : CallEnd) (l : Label) → EndNums e → BodyNums (end_line x g e l)
end_so x (Run o) (Answered a) l its = tt
end_so x (Include s) (Answered a) l its = tt
end_so x g (Included st) l its = tt
end_so x g (Conflict holder m n) l its = tt
end_so x g (Changed n w) l its = difference_fits w its
end_so x g (Lost n sent) l its = tt

-- where a step of a commit aborts
abbrev NextNums : CommitStep → Type 0
NextNums (Aborts why p) = CauseNums why
NextNums s = ⊤

confirm_so : (us : List Used) (p : Plan) → NextNums (begin_confirm us p)
confirm_so [] p = tt
confirm_so (u ∷ us) p = tt

prepare_so : (ns : List ℕ) (p : Plan) → NextNums (begin_prepare ns p)
prepare_so [] p = confirm_so p.used p
prepare_so (n ∷ ns) p = tt

vote_so : (ns : List ℕ) (p : Plan) → NextNums (begin_vote ns p)
vote_so [] p = prepare_so (targets_of p) p
vote_so (n ∷ ns) p = tt

votes_so : (ns : List ℕ) (p : Plan) → NextNums (votes_left ns p)
votes_so [] p = prepare_so (targets_of p) p
votes_so (n ∷ ns) p = tt

stores_so : (ns : List ℕ) (p : Plan) → NextNums (let k = stores_left ns p in k.step)
stores_so [] p = confirm_so p.used p
stores_so (n ∷ ns) p = tt

voted_so : (from : ℕ) (left : List ℕ) (p : Plan) (r : VotedReply) → ReplyNums (Reply.Voted r) →
    NextNums (let k = commit.voted_by from left p r in k.step)
voted_so from left p (voted.Yes states) rs = votes_so (without_number from left) (record p { changed = with_states states p.changed })
voted_so from left p (voted.Changed w) rs = difference_fits w rs

prepared_so : (from : ℕ) (left : List ℕ) (p : Plan) (r : PreparedReply) → VersionFits (Reply.Prepared r) →
    NextNums (let k = commit.prepared_by from left p r in k.step)
prepared_so from left p prepared.Yes says = stores_so (without_number from left) (record p { prepared = with_number from p.prepared })
prepared_so from left p (prepared.InDoubt x holder) says = stores_so (without_number from left) (marks_store from p)
prepared_so from left p (prepared.Old x v) says = says

confirmed_so : (p : Plan) (r : ConfirmedReply) → ReplyNums (Reply.Confirmed r) → NextNums (commit.confirmed_by p r)
confirmed_so p confirmed.Yes rs = tt
confirmed_so p (confirmed.Conflict holder m) rs = tt
confirmed_so p (confirmed.Changed w) rs = difference_fits w rs
confirmed_so p (confirmed.NoStores x) rs = tt
confirmed_so p (confirmed.Listed x n) rs = tt

next_so : (from : ℕ) (m : Machine) (r : Reply) → ReplyNums r × VersionFits r → NextNums (let k = commit.answered from m r in k.step)
next_so from (Voting p left) (Reply.Voted r) rs = voted_so from left p r rs.0
next_so from (Preparing p left) (Reply.Prepared r) rs = prepared_so from left p r rs.1
next_so from (Confirming p) (Reply.Confirmed r) rs = confirmed_so p r rs.0
next_so from m r rs = tt

given_so : (m : Machine) → NextNums (let k = commit.given_up m in k.step)
given_so (Voting p left) = tt
given_so (Preparing p left) = stores_so [] (marks_stores left p)
given_so (Confirming p) = tt

commit_so : {c : Coord} {came : Came} {u : Uid} {t : Marked} → CameNums came → CommitTurn c came u t → NextNums t.step
commit_so {c} fits (BeginsCommit l b intents named going top plain) =
    let p = plan_for b.path (last_req (doing_of (actor b.path) c)) (root_at (root_of b.path) c) c in vote_so (servers_of p) p
commit_so fits (AnswersCommit from a r intents d m found is waits) = next_so from m r fits
commit_so fits (GivesCommitUp l b intents d m named found is) = given_so m

ends_so : {c : Coord} {came : Came} {u : Uid} {how : _} {f : Label → Body} → CameNums came → Ends c came u how f → (l : Label) →
    BodyNums (f l)
ends_so fits (EndsNested m b intents named going nested) l = tt
ends_so fits (EndsSerial m b intents named going serial) l = tt
ends_so fits (EndsDoomed m b intents named doomed) l = tt
ends_so fits (EndsAsked m b intents u named below) l = tt
ends_so fits (EndsFailed u t why p turn is) l = subst NextNums is (commit_so fits turn)
ends_so fits (EndsDecided u p decided) l = tt

lines_so : {c : Coord} {came : Came} {u : Uid} {f : Label → Body} → CoordNums c → CameNums came → Lines c came u f → (l : Label) →
    BodyNums (f l)
lines_so k fits (CallEnds s t e g turn is) l = end_so s.x s.goal g l (subst (StepNums) is (turn_so k fits turn))
lines_so k fits (Excludes u t m turn marked) l = tt
lines_so k fits (GaveUpCall m b intents d s named found is) l = tt
lines_so k fits (GaveUpCommit m b intents d w n named found is given) l = tt
lines_so k fits (CommitBegins m b intents named going top plain) l = tt
lines_so k fits (ActionEnds u how f ends) l = ends_so fits ends l

-- ---- what is put out

out_so : {c : Coord} {came : Came} → CoordNums c → CameNums came → (e : Coord) (x : Effect) → Out c came e x → CoordNums e → EffectNums x
out_so k fits _ _ (AsksIt _ _ _ _ _ (OfCall u s f e is tree at)) h =
    request_nums (record { path = s.path; req = s.req }) (next_ask (ends_of (root_of s.path) e.tree) s)
    (asks_nums s.x s.goal (ends_of (root_of s.path) e.tree) s.at (calls_so k fits is))
out_so k fits _ _ (AsksIt _ _ _ _ _ (OfCommit u m n e is i tree at)) h =
    request_nums (record { path = (plan_of m).path; req = (plan_of m).req }) (ask_of m n) (machine_nums m n (commits_so k is))
out_so k fits e x (trace.Says u f d g lines found) h = lines_so k fits lines d.label
out_so k fits e x (trace.SaysBegan l how parent intents) h = tt
out_so k fits e x (trace.TellsNested u how f b n g ends so at nested sent) h = (tt, tt)
out_so k fits e x (trace.TellsSerial u how f b n g ends so at serial sent off) h = (tt, tt)
out_so k fits e x (trace.TellsTop u how f b n g ends so at top plain sent) h = (tt, tt)
out_so k fits e x (trace.PutsRecord u p decided has) h = tt
out_so k fits e x (trace.TellsCommitted u p n g decided sent took) h = (tt, tt)
out_so k fits e x (trace.TellsLeft u p n g decided sent off) h = (tt, tt)
out_so k fits e x (trace.RemovesRecord from u intents i at has none) h = tt
out_so k fits e x (trace.TellsLetGo from u intents i n g at over let_go) h = (tt, tt)

-- what a coordinator did
pub coord_nums : {c : Coord} {came : Came} {e : Coord} {outs : List Effect} → CoordNums c → CameNums came → Trace c came c outs e →
    CoordNums e × AllNums outs
coord_nums k fits t = trace_says CoordNums (move_so k fits) (EffectNums) (out_so k fits) t k

pub begins_nums : (l : Label) (k : Kind) (parent : Option Label) (above : Option Branch) (c : Coord) → CoordNums c →
    CoordNums (let d = begin_action l k parent above c in d.part)
begins_nums l k parent above c so =
    record { works = works_begun DoingNums l k parent above c (λ u. tt) so.works; roots = so.roots }

pub new_nums : (node inc : ℕ) (records : List (Uid × Intent)) → CoordNums (record (new_coord node inc) { telling = records })
new_nums node inc records = record { works = works_new DoingNums node inc records; roots = tt }
