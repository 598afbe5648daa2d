-- A whole coordinator goes in the machine: the commit of a top, from answer to answer.
use Rattle.arj_law_parts.proofs.Words
use Words.{◌≡◌, ◌≢◌, ◌≤◌, ◌∙◌, ℕ, List, [], ◌∷◌, Bool, true, false, cond, Option, Some, None, refl, sym, ap, subst, arith, is_some, Ask}
use Words.{Binding, Cause, Path, Uid, uids_of, Reply, actor, asks_all, asks_machine, asks_node, commits_in, is_invoke_ask, step_commit}
use Words.{Known, Aborts, Asks, CommitStep, Confirming, Decides, Machine, Plan, Preparing, Stays, Used, Voting, begin_confirm}
use Words.{begin_prepare, has_record, marks_store, marks_stores, participants, plan_of, stores_left, targets_of, votes_left, waiting}
use Words.{with_states, Calling, Committing, Coord, Doing, Idle, Root, Went, change_doing, doing_of, keeping_of, kept_of, on_doing, on_root}
use Words.{root_at, with_went, Intent, decide, decided, ended, root_after, binding_number, put_uid, with_number, without_number, Branch}
use Words.{branch_of, root_of}
use Words.confirmed
use Words.ending
use Words.kind
use Words.prepared
use Words.voted
use Rattle.arj_law_lock_view.proofs.Terms
use Terms.{answered, given_up, Act, In, is_action, root, Run, stay, Message, State, go_on, Paths, IsBusy, IsVoting, IsStepOf, answer_step}
use Terms.{giveup_step, doing_put, IsBacked, OnlyActed, IsSteady, SeesAction, SeesActions, invokes, stage_of, Acts, IsReached, OnlyCalled}
use Terms.{Codes, ChangesOne, aborted, committed_at, moved_by, now_by, Goes, OnlyEnded, SeesWhole, OnlySent, SeesMachine, SeesNext}
use Terms.{SeesCoord, SeesKeeping, SeesRoot}
use Rattle.arj_law_lock.specs.machine.State.{Action}
use Rattle.arj_law_lock_view.proofs.view
use view.{AbortSteps.acted_none, AskSteps.commits_ask_only, IncludeSteps.nobody, RunSteps.goes_to, TreeSteps.action_kind}
use view.ActingSteps.{decisions_are_seen, unended_none}
use view.Looked.{called_none, kept_same}
use view.InputSteps.{abort_whole, end_goes, only_ended, then_run, to_run, whole_stays}
use view.MoveSteps.{Moves, grows_decided, grows_went, moves_both, moves_doing, moves_none, moves_root, moves_told}
use view.OneSteps.{OnlyOne, end_changed, one_changed, work_changed}
use view.PlanSteps.{commit_answers_are_taken, commits_are_given_up}
use view.RootSteps.{heard_later, step_later}
use view.WholeSteps.{commits_keep_roots, decisions_keep_roots}
use Rattle.arj_law_lock_view.specs.view.Inputs.{CommitAnswersAreHeard, CommitsAreLost}

-- ---- the numbers of requests

-- a step's requests have no lesser number
abbrev pub IsLaterStep : Plan → CommitStep → Type 0
IsLaterStep p (Stays m) = p.req ≤ (let q = plan_of m in q.req)
IsLaterStep p (Asks m) = p.req ≤ (let q = plan_of m in q.req)
IsLaterStep p (Decides q) = Unit {0}
IsLaterStep p (Aborts why q) = Unit {0}

later_confirm : (us : List Used) (p q : Plan) → p.req ≤ q.req → IsLaterStep p (begin_confirm us q)
later_confirm [] p q low = tt
later_confirm (u ∷ us) p q low = omega (arith, low)

later_prepare : (ns : List ℕ) (p q : Plan) → p.req ≤ q.req → IsLaterStep p (begin_prepare ns q)
later_prepare [] p q low = later_confirm q.used p q low
later_prepare (n ∷ ns) p q low = omega (arith, low)

later_votes : (ns : List ℕ) (p q : Plan) → p.req ≤ q.req → IsLaterStep p (votes_left ns q)
later_votes [] p q low = later_prepare (targets_of q) p q low
later_votes (n ∷ ns) p q low = low

later_stores : (ns : List ℕ) (p q : Plan) → p.req ≤ q.req → IsLaterStep p (let k = stores_left ns q in k.step)
later_stores [] p q low = later_confirm q.used p q low
later_stores (n ∷ ns) p q low = low

marks_later : (ns : List ℕ) (p q : Plan) → p.req ≤ q.req → p.req ≤ (let k = marks_stores ns q in k.req)
marks_later [] p q low = low
marks_later (n ∷ ns) p q low = marks_later ns p (marks_store n q) low

later_answer : (from : ℕ) (m : Machine) (r : Reply) → IsLaterStep (plan_of m) (let k = answered from m r in k.step)
later_answer from (Voting p left) (Reply.Voted (voted.Yes states)) =
    later_votes (without_number from left) p (record p { changed = with_states states p.changed }) (omega arith)
later_answer from (Voting p left) (Reply.Voted (voted.Changed w)) = tt
later_answer from (Voting p left) (Reply.Bound r) = omega arith
later_answer from (Voting p left) (Reply.Loaded r) = omega arith
later_answer from (Voting p left) (Reply.Activated r) = omega arith
later_answer from (Voting p left) (Reply.Noted r) = omega arith
later_answer from (Voting p left) (Reply.Invoked r) = omega arith
later_answer from (Voting p left) (Reply.Prepared r) = omega arith
later_answer from (Voting p left) (Reply.Confirmed r) = omega arith
later_answer from (Preparing p left) (Reply.Prepared prepared.Yes) =
    later_stores (without_number from left) p (record p { prepared = with_number from p.prepared }) (omega arith)
later_answer from (Preparing p left) (Reply.Prepared (prepared.InDoubt y h)) =
    later_stores (without_number from left) p (marks_store from p) (omega arith)
later_answer from (Preparing p left) (Reply.Prepared (prepared.Old y v)) = tt
later_answer from (Preparing p left) (Reply.Bound r) = omega arith
later_answer from (Preparing p left) (Reply.Loaded r) = omega arith
later_answer from (Preparing p left) (Reply.Activated r) = omega arith
later_answer from (Preparing p left) (Reply.Noted r) = omega arith
later_answer from (Preparing p left) (Reply.Invoked r) = omega arith
later_answer from (Preparing p left) (Reply.Voted r) = omega arith
later_answer from (Preparing p left) (Reply.Confirmed r) = omega arith
later_answer from (Confirming p) (Reply.Confirmed confirmed.Yes) = tt
later_answer from (Confirming p) (Reply.Confirmed (confirmed.Conflict h m)) = tt
later_answer from (Confirming p) (Reply.Confirmed (confirmed.Changed w)) = tt
later_answer from (Confirming p) (Reply.Confirmed (confirmed.NoStores y)) = tt
later_answer from (Confirming p) (Reply.Confirmed (confirmed.Listed y s)) = tt
later_answer from (Confirming p) (Reply.Bound r) = omega arith
later_answer from (Confirming p) (Reply.Loaded r) = omega arith
later_answer from (Confirming p) (Reply.Activated r) = omega arith
later_answer from (Confirming p) (Reply.Noted r) = omega arith
later_answer from (Confirming p) (Reply.Invoked r) = omega arith
later_answer from (Confirming p) (Reply.Voted r) = omega arith
later_answer from (Confirming p) (Reply.Prepared r) = omega arith

later_given_up : (m : Machine) → IsLaterStep (plan_of m) (let k = given_up m in k.step)
later_given_up (Voting p left) = tt
later_given_up (Preparing p left) = later_stores [] p (marks_stores left p) (marks_later left p p (omega arith))
later_given_up (Confirming p) = tt

-- ---- requests go out

pub moves_asks : (x : ℕ) (p : Path) (number : ℕ) (asked : List (ℕ × Ask)) (c : Coord) (Ends New : Uid → Type 0) →
    Moves x c (let e = asks_all p number asked c in e.part) Ends New
moves_asks x p number [] c Ends New = moves_none x c Ends New
moves_asks x p number (a ∷ rest) c Ends New = moves_both x c (let e = asks_node p number a c in e.part)
    (let e = asks_all p number (a ∷ rest) c in e.part) Ends New (moves_root x c Ends New (root_of p) (with_went note) (grows_went x note))
    (moves_asks x p number rest (let e = asks_node p number a c in e.part) Ends New)
  where
    note : Went
    note = record { path = uids_of p; node = a.0; invoke = is_invoke_ask a.1 }

-- ---- messages are nothing to a coordinator

module _ (act : Acts) (code : Codes) (x : ℕ) (c : Coord) (S : State) (net : List Message) (sent : (m : Message) → In m S.net →
    In m net) (sees : SeesCoord act code x c S) where
  abbrev T : State
  T = record S { net = net }

  only : (unit : ℕ) → OnlyCalled unit S T
  only unit = let o = called_none unit S in record {
    rest = refl;
    actions = o.actions;
    ended = o.ended;
    kept = o.kept;
    bindings = o.bindings;
    named = o.named;
    calls = o.calls;
    fresh = o.fresh;
    sent = sent;
  }

  keeps : (v : ℕ) (o : Option Known) (avoid : Binding) → SeesKeeping v o avoid S → SeesKeeping v o avoid T
  keeps v None avoid low = low
  keeps v (Some k) avoid seen = kept_same v k S T refl (λ n. refl) sent seen

  root_sent : (u : Uid) (r : Root) → SeesRoot act x u r c.tree S → SeesRoot act x u r c.tree T
  root_sent u r s = record {
    keeping = keeps (root (act u)) (kept_of x r) (let k = keeping_of x r in k.avoid) s.keeping;
    spent = s.spent;
    said = λ z there about. (let y = s.said z there about in
        record { branch = y.branch; there = y.there; path = y.path; of = y.of; call = y.call; called = y.called; by = y.by });
    calls = s.calls;
    heard = λ g b there about named. heard_later 0 S T (only 0) (act g.top) (binding_number b) (s.heard g b there about named);
  }

  pub coord_sent : SeesCoord act code x c T
  coord_sent = record {
    actions = let a = sees.actions in record { each = a.each; opened = a.opened; quiet = a.quiet; others = a.others };
    roots = λ u b there own. root_sent u (root_at u c) (sees.roots u b there own);
    calls = λ u d s o works calling about goal. step_later 0 S T (only 0) act code s o (keeping_of x (root_at (root_of s.path) c))
        (keeping_of x (root_at (root_of s.path) c)) (λ k t. t) (λ none. (none, refl)) s.at (sees.calls u d s o works calling about goal);
    plain = sees.plain;
  }

-- ---- a step of a commit

module _ (act : Acts) (code : Codes) (paths : Paths) (x p : ℕ) (c : Coord) (u : Uid) (b : Branch) (d : Doing) (k : Machine)
    (intents : List (Uid × Intent)) (S : State) (reached : IsReached S) (steady : IsSteady act paths c)
    (found : branch_of u c.tree ≡ Some b) (unended : is_some b.ended ≡ false) (works : doing_of u c ≡ Some d) (at : d.now ≡ Committing k)
    (number : (let q = plan_of k in d.req ≤ q.req)) (now : S.now ≤ p) (whole : SeesWhole act code x c S) where
  abbrev unit : ℕ
  unit = root (act u)

  voting : IsVoting c.tree u (plan_of k)
  voting = let g = steady.good in subst (IsBusy c.tree u) at (g.busy u d works)

  its_branch : (let v = voting in let a = v.asking in a.branch) ≡ b
  its_branch = let v = voting in let a = v.asking in let two : ◌≡◌ {A = Option Branch} (Some a.branch) (Some b) = sym a.found ∙ found in
      cc two

  pub unserial : b.kind ≢ kind.Serial
  unserial is = let v = voting in let a = v.asking in a.unserial (ap (λ (q : Branch). q.kind) its_branch ∙ is)

  pub unnested : b.kind ≢ kind.Nested
  unnested is = let v = voting in v.top b found is

  pub its_path : actor (let q = plan_of k in q.path) ≡ u
  its_path = let v = voting in let a = v.asking in
      ap actor (sym a.path) ∙ ap (λ (q : Branch). actor q.path) its_branch ∙ steady.good.tree.lists.places u b found

  acts : is_action (act u) ≡ true
  acts = action_kind (act u) b.kind unserial (steady.placed u b found)

  was : SeesAction x b d (S.action (act u))
  was = let a = whole.coord in let s = a.actions in s.each u b d found works acts

  none : b.ended ≡ None
  none = unended_none b.ended unended

  pub at_one : (S.action (act u)).stage ≡ 1
  at_one = was.stage ∙ (λ i. stage_of (none i) (at i))

  -- a state in which more was sent
  module _ (T : State) (run : Run S T) (sent : OnlySent S T) where
    whole_T : SeesWhole act code x c T
    whole_T = whole_stays act code x c c S T nobody nobody reached run (moves_none x c nobody nobody)
        (ap (λ (s : State). s.includes) sent.rest) whole
        (subst (SeesCoord act code x c) (sym sent.rest) (coord_sent act code x c S T.net sent.sent whole.coord)) (λ w e s l new. absurd new)
        (λ w e m new. absurd new) (λ w q new. absurd new)

    reached_T : IsReached T
    reached_T = (reached.0, go_on reached.1 run)

    now_T : T.now ≤ p
    now_T = let e : T.now ≡ S.now = ap (λ (s : State). s.now) sent.rest in omega (arith, e, now)

    only_sent : OnlyEnded unit S T
    only_sent = record {
      rest = sent.rest ∙ (λ i. record S
          { action = sym (ap (λ (s : State). s.action) sent.rest) i; now = sym (ap (λ (s : State). s.now) sent.rest) i; net = T.net });
      others = λ a away. ap (λ (s : State). s.action a) sent.rest;
      ended = λ a over. ap (λ (s : State). s.action a) sent.rest;
    }

    only_then : (V : State) → OnlyActed unit T V → OnlyEnded unit S V
    only_then V o = let e = only_ended unit T V o in let f = only_sent in record {
      rest = e.rest ∙ ap (λ (s : State). record s { action = V.action; now = V.now; net = V.net }) sent.rest;
      others = λ a away. e.others a away ∙ f.others a away;
      ended = λ a over. e.ended a (subst (λ (q : Action). 3 ≤ q.stage) (sym (f.ended a over)) over) ∙ f.ended a over;
    }

    abbrev After : CommitStep → Coord → State → Type 0
    After st e V = SeesWhole act code x e V
        × (OnlyEnded unit S V × (V.now ≡ now_by st p S.now) × ChangesOne (act u) (moved_by st p (S.action (act u))) S V)

    -- the machine's actions are as they were
    same_actions : (a : Act) → T.action a ≡ S.action a
    same_actions a = ap (λ (s : State). s.action a) sent.rest

    same_now : T.now ≡ S.now
    same_now = ap (λ (s : State). s.now) sent.rest

    -- it waits on
    module _ (m : Machine) (later : d.req ≤ (let q = plan_of m in q.req)) (next : SeesMachine x (act u) m T) where
      abbrev h : Doing → Doing
      h q = record q { req = (let v = plan_of m in v.req); now = Committing m }

      abbrev e : Coord
      e = commits_in u m c

      one : OnlyOne c u b (h d) e
      one = work_changed c u b d found works h

      seen : SeesActions act x c T.action
      seen = let v = whole_T in let q = v.coord in q.actions

      its_now : SeesAction x b d (T.action (act u))
      its_now = let s = seen in s.each u b d found works acts

      seen_e : SeesActions act x e T.action
      seen_e = one_changed c u b b (h d) e found one refl (λ un. un) act x T.action T.action steady.alike.one seen
          (λ hh. record {
            stage = its_now.stage ∙ (λ i. stage_of (none i) (at i)) ∙ (λ i. stage_of (sym none i) (Committing m));
            request = (let r = its_now.request in omega (arith, r, later));
            waits = λ y. its_now.waits y ∙ ap (invokes x) at;
            last = λ y. absurd (cc y);
            doomed = its_now.doomed;
          })
          (λ v other hh. refl) (λ w r s there root_is_there un. refl) (λ n. refl)

      coord_e : SeesCoord act code x e T
      coord_e = commits_keep_roots act code paths x unit c u b d m T T
          (record { steady = steady; there = found; unended = unended; works = works }) (let v = whole_T in
          v.coord) (acted_none unit T) seen_e

      its_work : (w : Uid) (q : Doing) → w ≡ u → doing_of w e ≡ Some q → q.now ≡ Committing m
      its_work w q is has_it = let two : ◌≡◌ {A = Option Doing} (Some (h d)) (Some q) = sym one.doing
          ∙ ap (λ (v : Uid). doing_of v e) (sym is) ∙ has_it in let same : h d ≡ q = cc two in ap (λ (v : Doing). v.now) (sym same)

      same_machine : (m' : Machine) → Committing m ≡ Committing m' → m ≡ m'
      same_machine m' y = cc y

      whole_e : SeesWhole act code x e T
      whole_e = whole_stays act code x c e T T nobody (λ w. w ≡ u) reached_T stay (moves_doing x c nobody (λ w. w ≡ u) u h refl) refl
          whole_T coord_e
          (λ w q s l new has_it is. absurd (let bad : Committing m ≡ Calling s = sym (its_work w q new has_it) ∙ is in cc bad))
          (λ w q m' new has_it is. subst (λ (y : Machine). SeesMachine x (act w) y T) (same_machine m' (sym (its_work w q new has_it) ∙ is))
          (subst (λ (v : Uid). SeesMachine x (act v) m T) (sym new) next))
          (λ w q new. absurd new)

      stays_goes : Goes T (After (Stays m) e)
      stays_goes = record {
        state = T;
        run = stay;
        holds = (whole_e, (only_sent, same_now, record { one = λ its. same_actions (act u); others = λ a its other. same_actions a }));
      }

      -- and asks
      asks_goes : Goes T (After (Asks m) (let a = asks_machine m e in a.part))
      asks_goes = record {
        state = T;
        run = stay;
        holds = (
          whole_stays act code x e (let a = asks_machine m e in a.part) T T nobody nobody reached_T stay
              (moves_asks x (let v = plan_of m in v.path) (let v = plan_of m in v.req) (waiting m) e nobody nobody) refl whole_e
              (commits_ask_only act code x m e T coord_e) (λ w q s l new. absurd new) (λ w q m' new. absurd new) (λ w q new. absurd new),
          (only_sent, same_now, record { one = λ its. same_actions (act u); others = λ a its other. same_actions a }),
        );
      }

    -- it is aborted
    aborts_goes : (why : Cause) (q : Plan) → Goes T (After (Aborts why q) (ended u ending.Abort c))
    aborts_goes why q = goes_to
        (abort_whole act code paths x c u b d T reached_T steady found unended works (let v = voting in v.childless) whole_T) (λ V y. (
          y.0.0,
          (
            only_then V y.0.1,
            y.1 ∙ same_now,
            record {
              one = λ its. (let o = y.2 in o.one its) ∙ ap aborted (same_actions (act u));
              others = λ a its other. (let o = y.2 in o.others a its other) ∙ same_actions a;
            },
          ),
        ))

    -- it is decided
    module _ (q : Plan) (who : actor q.path ≡ u) (backed : IsBacked (act u) T) where
      abbrev E : Coord
      E = ended u ending.Commit c

      abbrev idle : Doing
      idle = record d { now = Idle }

      one_E : OnlyOne c u (record b { ended = Some ending.Commit }) idle E
      one_E = end_changed c u b d found works ending.Commit

      moves_E : Moves x E (decided u q c) nobody (λ w. w ≡ u)
      moves_E = by (has_record q)
        where
          took : Coord
          took = on_doing u (λ (y : Doing). record y { took = participants q }) E

          noted : Coord
          noted = on_root (root_of q.path) (root_after q) took

          plain : Moves x E noted nobody (λ w. w ≡ u)
          plain = moves_both x E took noted nobody (λ w. w ≡ u)
              (moves_doing x E nobody (λ w. w ≡ u) u (λ (y : Doing). record y { took = participants q }) refl)
              (moves_root x took nobody (λ w. w ≡ u) (root_of q.path) (root_after q) (λ r. grows_decided x q r))

          by : (t : Bool) → Moves x E (cond t (record noted
              { telling = put_uid u (record { root = root_of q.path; nodes = participants q }) noted.telling }) noted) nobody (λ w. w ≡ u)
          by true = moves_both x E noted
              (record noted { telling = put_uid u (record { root = root_of q.path; nodes = participants q }) noted.telling }) nobody
              (λ w. w ≡ u) plain (moves_told x noted
              (record noted { telling = put_uid u (record { root = root_of q.path; nodes = participants q }) noted.telling }) nobody
              (λ w. w ≡ u) refl (λ w. refl) (λ w. refl))
          by false = plain

      idle_after : (w : Uid) (y : Doing) → w ≡ u → doing_of w (decided u q c) ≡ Some y → y.now ≡ Idle
      idle_after w y is has_it = let two : ◌≡◌ {A = Option Doing} (Some (record idle { took = participants q })) (Some y) = sym
          (by (has_record q)) ∙ ap (λ (v : Uid). doing_of v (decided u q c)) (sym is) ∙ has_it in
          let same : record idle { took = participants q } ≡ y = cc two in ap (λ (v : Doing). v.now) (sym same)
        where
          took : Coord
          took = on_doing u (λ (z : Doing). record z { took = participants q }) E

          put : doing_of u took ≡ Some (record idle { took = participants q })
          put = (λ i. doing_of u (change_doing (λ (z : Doing). record z { took = participants q }) u E (one_E.doing i)))
              ∙ doing_put u (record idle { took = participants q }) idle E one_E.doing

          noted : Coord
          noted = on_root (root_of q.path) (root_after q) took

          by : (t : Bool) → doing_of u
              (cond t (record noted { telling = put_uid u (record { root = root_of q.path; nodes = participants q }) noted.telling }) noted)
              ≡ Some (record idle { took = participants q })
          by true = put
          by false = put

      decides_goes : Goes T (After (Decides q) (let v = decide q c in v.part))
      decides_goes = then_run (decisions_are_seen act paths x p c u b d k T steady found unended works at unserial unnested backed now_T
          (let v = whole_T in let w = v.coord in w.actions)) (λ V run_V y.
          to_run (end_goes act code paths x c u b d ending.Commit T V reached_T run_V steady found unended works (let v = voting in
          v.childless) whole_T y.0 y.1 (λ holds. y.2.2) (λ isnt. absurd (cc (sym acts ∙ isnt))))
          (λ W run_W z. (
            whole_W W (go_on run_V run_W) z.0,
            (
              only_then W z.1,
              z.2 ∙ y.2.0,
              record {
                one = λ its. z.3 (act u) its ∙ (let o = y.2.3 in o.one its) ∙ ap (committed_at p) (same_actions (act u));
                others = λ a its other. z.3 a its ∙ (let o = y.2.3 in o.others a its other) ∙ same_actions a;
              },
            ),
          )))
        where
          whole_W : (W : State) → Run T W → SeesWhole act code x E W → SeesWhole act code x (let v = decide q c in v.part) W
          whole_W W run_W seen = subst (λ (v : Uid). SeesWhole act code x (decided v q c) W) (sym who)
              (whole_stays act code x E (decided u q c) W W nobody (λ w. w ≡ u) (reached_T.0, go_on reached_T.1 run_W) stay moves_E refl
              seen (decisions_keep_roots act code x c u idle q W one_E.doing refl seen.coord)
              (λ w y s l new has_it is. absurd (let bad : Idle ≡ Calling s = sym (idle_after w y new has_it) ∙ is in cc bad))
              (λ w y m new has_it is. absurd (let bad : Idle ≡ Committing m = sym (idle_after w y new has_it) ∙ is in cc bad))
              (λ w y new. absurd new))

  -- whatever the step is
  pub step_goes : (st : CommitStep) → IsStepOf steady.actions paths steady.whole (plan_of k) st → IsLaterStep (plan_of k) st →
      Goes S (λ T. SeesNext x (act u) st T × OnlySent S T) → Goes S (λ V. SeesWhole act code x (let e = step_commit u st intents c in
      e.part) V × (OnlyEnded unit S V × (V.now ≡ now_by st p S.now) × ChangesOne (act u) (moved_by st p (S.action (act u))) S V))
  step_goes (Stays m) same later g = then_run g (λ T run h. stays_goes T run h.1 m (omega (arith, number, later)) h.0)
  step_goes (Asks m) same later g = then_run g (λ T run h. asks_goes T run h.1 m (omega (arith, number, later)) h.0)
  step_goes (Decides q) same later g = then_run g (λ T run h. decides_goes T run h.1 q (ap actor same.0 ∙ its_path) h.0)
  step_goes (Aborts why q) same later g = then_run g (λ T run h. aborts_goes T run h.1 why q)

pub commit_answers_are_heard : CommitAnswersAreHeard
commit_answers_are_heard act code paths x p from c u b d k r intents S reached steady found unended works at number now shows whole =
    step_goes act code paths x p c u b d k intents S reached steady found unended works at number now whole (let j = answered from k r in
    j.step) (answer_step steady.actions paths steady.whole from k r) (later_answer from k r)
    (commit_answers_are_taken x (act u) k from r S reached (at_one act code paths x p c u b d k intents S reached steady found unended works
    at number now whole) shows (whole.commits u d k works at))

pub commits_are_lost : CommitsAreLost
commits_are_lost act code paths x p c u b d k intents S reached steady found unended works at number now whole =
    step_goes act code paths x p c u b d k intents S reached steady found unended works at number now whole (let j = given_up k in
    j.step) (giveup_step steady.actions paths steady.whole k) (later_given_up k)
    (commits_are_given_up x (act u) k S reached (at_one act code paths x p c u b d k intents S reached steady found unended works at number
    now whole) (whole.commits u d k works at))
