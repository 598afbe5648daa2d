-- Whatever a coordinator does and hears, its lines are right, and it knows the book after them.
use Rattle.arj_law_parts.proofs.Words
use Words.{ℕ, ◌≡◌, ◌≢◌, ◌⊎◌, ◌+◌, ◌||◌, List, [], ◌∷◌, ◌++◌, length, map, Bool, true, false, cond, nat_le, Option, Some, None, refl, sym}
use Words.{◌∙◌, ap, subst, inl, inr, ⊎_elim, if◌then◌else◌, is_some, AllByRecursion, flat_map, list_any, or_cases, or_parts, uid_cases}
use Words.{uid_is, is_on, in_from, in_to, Asked, Body, Cause, End, Header, Kind, Label, Path, Uid, uid_eq, uids_of, Reply}
use Words.{actor, call, commit_action, commit_open, commit_top, commits_in}
use Words.{gaveup_lines, give_up, give_up_doing, gives_up, heard, heard_by, heard_call, heard_doing, heard_none, heard_now}
use Words.{include, kept_at, last_req, mark_lines, moved_commit, root_lost, root_moved}
use Words.{step_call, step_commit, waits_for_call, waits_for_commit}
use Words.{Ended, Include, Steps, answered, given_up, next_node}
use Words.{start, Aborts, Asks, CommitStep, Decides, Machine, Plan, Stays, has_record}
use Words.{nodes_given_up, participants, plan_of, servers_of, Calling, Committing, Coord, Doing, Idle, Now, change_doing, doing_of, is_free}
use Words.{on_doing, on_root, plan_for, root_at, set_doing, Root, Did, Effect, Intent, PutIntent}
use Words.{Do, Say, Served, abort_action, aborts_with, all_aborted, decide, decided_told, ended, ends_with, record_work, root_after}
use Words.{tell, tolds_by, tolds_of, tolds_of_branch, up_to, has, put_uid, Input, acts, branch_named, call_reasons}
use Words.{commit_reasons, abort_reasons, include_reasons, is_waiting, is_waiting_now, on_branch, refusal_up, refused_by, waits}
use Words.{waits_above, waits_below, is_committing_now, Branch, branch_of, ends_of, has_open_child, is_own, open_below, root_of}
use Words.{ended_at, ended_branch, is_serial}
use Words.body
use Words.cause
use Words.ending
use Words.kind
use Words.commit
use Words.input
use Rattle.arj_law_runs.proofs.Terms
use Terms.{Action, AreBegun, action_of, IsAsking, IsBusy, IsGoodCoord, IsVoting, IsTree, Paths, on_own, serial_alone, behind}
use Terms.{named_found, off, off_third, IsStepOf, actor_is, answer_step, giveup_step, on_tree, vote_step, voting_at}
use Terms.{found_by, at_u, ended_b, doing_other, doing_put, work_there, put_in, Book, is_decided, is_over, is_top, turned}
use Terms.{AreSaid, Calls, Ties, EachRecord, IsEnd, IsKnown, IsLined, Knows, HasBranch, AreIdle, IsClosed, IsSaid, IsOpenSo}
use Rattle.arj_law_parts.proofs.parts.Truths.{IsFree}
use Rattle.arj_law_runs.proofs.coordinators.CoordUses.{moved_keeps, on_roots}
use Rattle.arj_law_runs.proofs.journal
use journal.Answering.{goes_line, says_is}
use journal.Books.{over_by_abort, over_by_commit, over_by_end, committed_decided, decided_later, later_turn, named_is, never, on_here}
use journal.Books.{on_other}
use journal.Effects.{ArePartly, Goes, IsPartly, are_later, all_flat, all_map, goes_before, goes_behind, goes_partly, partly_after}
use journal.Effects.{sends_partly, tells_idle}
use journal.Endings.{CallsBut, Ends, about_it, aborts, calls_ended, commits, finishes, knows_ended, open_act, plain_act}
use journal.Likes.{Alike, alike_calls, alike_knows, alike_on, alike_root, alike_then}
use journal.Likes.{not_committing, same_now, some_is}
use journal.Opens.{AreApart, IsAtWork, all_still, below_all, below_apart, none_of}
use Rattle.arj_law_runs.specs.journal.Knows.{after, IsIdle}
use Rattle.arj_law_runs.proofs.journal.CoordCalls.{machine_partly, tolds_partly, marks_partly, gaveup_partly, alike_asks, like_goes}
use Rattle.arj_law_runs.proofs.journal.CoordCalls.{goes_call_step, goes_call, goes_include}

-- ---- ends

-- who has ended is still there
ended_there : (k : ℕ) (c : Coord) (u : Uid) (e : End) → IsAtWork k c u → HasBranch (ended u e c) u
ended_there k c u e w = (
  ended_b u e c.tree w.branch w.found,
  ap (branch_of u) (on_tree u (λ (d : Doing). record d { now = Idle }) (record c { tree = ended_at u e c.tree })
      ∙ ap (λ o. ended_branch u e c.tree o) w.found) ∙ at_u u e c.tree w.branch w.found,
)

-- the tolds of an end do nothing on the disk
tolds_idle : (intents : List (Uid × Intent)) (c : Coord) (u : Uid) → AreIdle (tolds_of intents c u)
tolds_idle intents c u = by (branch_of u c.tree)
  where
    kinds : (h : Kind) (p : Path) → AreIdle (tolds_by u h p intents c)
    kinds kind.Nested p = tells_idle (root_of p) false (up_to u (ends_of (root_of p) c.tree)) _
    kinds kind.Serial p = tells_idle u false ((u, ending.Abort) ∷ []) _
    kinds kind.Top p = tells_idle (root_of p) false ((u, ending.Abort) ∷ []) _
    kinds kind.Independent p = tells_idle (root_of p) false ((u, ending.Abort) ∷ []) _
    kinds kind.Constituent p = tells_idle (root_of p) false ((u, ending.Abort) ∷ []) _

    by : (b : Option Branch) → AreIdle (tolds_of_branch u intents c b)
    by None = tt
    by (Some b) = kinds b.kind b.path

module _ (k : ℕ) (actions : List Action) (begun : AreBegun actions) (paths : Paths) (tree : IsTree paths) where
  abbrev pub Good : Coord → Type 0
  Good c = IsGoodCoord actions paths c

  -- the action's own node
  abbrev pub Mine : Coord → Type 0
  Mine c = (w : Uid) → is_own w c.tree ≡ true → w.node ≡ k

  -- a serializing action stands alone
  alone : (c : Coord) → Good c → (u : Uid) (b : Branch) → branch_of u c.tree ≡ Some b → is_serial b.kind ≡ true →
      nat_le (length (uids_of b.path)) 1 ≡ true
  alone c good u b found serial = let s = serial_alone actions begun (action_of b) (in_from (action_of b) actions (good.known u b found))
      (kind_is b.kind serial) in ap (λ us. nat_le (length us) 1) s.0
    where
      kind_is : (h : Kind) → is_serial h ≡ true → h ≡ kind.Serial
      kind_is kind.Serial is = refl
      kind_is kind.Top is = absurd (cc is)
      kind_is kind.Nested is = absurd (cc is)
      kind_is kind.Constituent is = absurd (cc is)
      kind_is kind.Independent is = absurd (cc is)

  abbrev at_work : (c : Coord) → length c.doings ≡ length c.tree.branches → Mine c → (u : Uid) (b : Branch) → branch_of u c.tree ≡ Some b →
      is_some b.ended ≡ false → IsAtWork k c u
  at_work c works mine u b found opened = let d = work_there c works u b found in record {
    branch = b;
    doing = d.0;
    found = found;
    opened = none_of b.ended opened;
    does = d.1;
    here = mine u (found_by u c.tree b found).0;
  }

  module _ (B : Book) (c : Coord) (u : Uid) (w : IsAtWork k c u) (knows : Knows B c) where
    its : IsKnown B u (let b = w.branch in b.kind) None (let q = w.doing in q.label)
    its = subst (λ o. IsKnown B u (let b = w.branch in b.kind) o (let q = w.doing in q.label)) w.opened
        (knows.acts u w.branch w.doing w.found w.does)

    -- an end with its line
    module _ (e : End) (line : Body) (ends : Ends k B u (let b = w.branch in b.kind) e line) (listed : nat_le
        (length (uids_of (let b = w.branch in b.path))) 1 ≡ false → IsSaid (turned B line) u e) (calls : CallsBut u B c) where
      end_knows : Knows (turned B line) (ended u e c)
      end_knows = knows_ended k B u e c line w.branch w.doing knows w.found w.does ends listed

      end_calls : Calls (turned B line) (ended u e c)
      end_calls = calls_ended k B u e c line w.branch w.doing knows w.found w.does ends listed calls

      end_goes : (intents : List (Uid × Intent)) → Goes k B (Say line ∷ tolds_of intents (ended u e c) u) (ended u e c)
      end_goes intents = goes_line k B line (tolds_of intents (ended u e c) u) (ended u e c) (ends.right, ends.about) ends.acts
          (λ x is. (subst (HasBranch (ended u e c)) (sym (ends.only x is)) (ended_there k c u e w), tolds_idle intents (ended u e c) u))
          (goes_partly k (turned B line) (tolds_of intents (ended u e c) u) (ended u e c)
          (tolds_partly k (turned B line) intents (ended u e c) u (let n = end_knows in n.lists)) end_knows end_calls)

  but : (u : Uid) (B : Book) (c : Coord) → Calls B c → CallsBut u B c
  but u B c calls w b q other found does opened = calls w b q found does opened

  goes_aborts : (B : Book) (c : Coord) (u : Uid) (why : Cause) (intents : List (Uid × Intent)) → IsAtWork k c u → Knows B c →
      CallsBut u B c → Goes k B (aborts_with u why intents c).outs (aborts_with u why intents c).part
  goes_aborts B c u why intents w knows calls =
      let q = w.doing in
      let line : Body = body.Aborted q.label why in
      subst (λ es. Goes k B (es ++ tolds_of intents (ended u ending.Abort c) u) (ended u ending.Abort c))
      (sym (says_is u (λ l. body.Aborted l why) c q w.does))
      (end_goes B c u w knows ending.Abort line (aborts k B u _ q.label (its B c u w knows) w.here why) (λ long. tt) calls intents)

  -- a nested action's commit, and a serializing action's end
  goes_nested : (B : Book) (c : Coord) (u : Uid) (intents : List (Uid × Intent)) (w : IsAtWork k c u) →
      (let b = w.branch in b.kind) ≡ kind.Nested → IsFree u c → Knows B c → Calls B c →
      Goes k B (ends_with u ending.Commit body.Committed intents c).outs (ended u ending.Commit c)
  goes_nested B c u intents w nested free knows calls =
      let q = w.doing in
      let line : Body = body.Committed q.label in
      let quiet : is_on B.called u ≡ false = calls u w.branch q w.found w.does w.opened
      ∙ not_committing q.now (λ m is. free q m w.does is) in
      let ends : Ends k B u (let b = w.branch in b.kind) ending.Commit line = commits k B u _ q.label (its B c u w knows) w.here
      (ap is_serial nested) (quiet ∙ sym (ap is_top nested)) in
      subst (λ es. Goes k B (es ++ tolds_of intents (ended u ending.Commit c) u) (ended u ending.Commit c))
      (sym (says_is u body.Committed c q w.does))
      (end_goes B c u w knows ending.Commit line ends
      (λ long. decided_here (turned B line) (let b = w.branch in b.kind) (ap is_serial nested) ends.here) (but u B c calls) intents)
    where
      decided_here : (V : Book) (h : Kind) → is_serial h ≡ false → (if is_serial h then is_on V.ended u else is_on V.committed u) ≡ true →
          is_decided V u ≡ true
      decided_here V h plain is = committed_decided V u (sym (ap (λ x. if x then is_on V.ended u else is_on V.committed u) plain) ∙ is)

  goes_serial : (B : Book) (c : Coord) (u : Uid) (intents : List (Uid × Intent)) (w : IsAtWork k c u) → Good c →
      (let b = w.branch in b.kind) ≡ kind.Serial → Knows B c → Calls B c →
      Goes k B (ends_with u ending.Commit body.Ended intents c).outs (ended u ending.Commit c)
  goes_serial B c u intents w good serial knows calls =
      let q = w.doing in
      let line : Body = body.Ended q.label in
      subst (λ es. Goes k B (es ++ tolds_of intents (ended u ending.Commit c) u) (ended u ending.Commit c))
      (sym (says_is u body.Ended c q w.does))
      (end_goes B c u w knows ending.Commit line (finishes k B u _ q.label (its B c u w knows) w.here (ap is_serial serial))
      (λ long. never (alone c good u w.branch w.found (ap is_serial serial)) long) (but u B c calls) intents)

  -- ---- an abort with all that is open below

  all_goes : (us : List Uid) (B : Book) (c : Coord) → Knows B c → Calls B c → AllByRecursion (IsAtWork k c) us → AreApart us →
      Goes k B (all_aborted us c).outs (all_aborted us c).part
  all_goes [] B c knows calls at apart = goes_partly k B [] c tt knows calls
  all_goes (u ∷ us) B c knows calls at apart =
      let w = at.0 in
      let q = w.doing in
      let line : Body = body.Aborted q.label cause.Asked in
      let ends : Ends k B u (let b = w.branch in
      b.kind) ending.Abort line = aborts k B u _ q.label (its B c u w knows) w.here cause.Asked in
      subst (λ es. Goes k B (es ++ (all_aborted us (ended u ending.Abort c)).outs) (all_aborted us (ended u ending.Abort c)).part)
      (sym (says_is u (λ l. body.Aborted l cause.Asked) c q w.does))
      (goes_line k B line (all_aborted us (ended u ending.Abort c)).outs (all_aborted us (ended u ending.Abort c)).part
      (ends.right, ends.about) ends.acts (λ x is. absurd (cc is))
      (all_goes us (turned B line) (ended u ending.Abort c) (end_knows B c u w knows ending.Abort line ends (λ long. tt) (but u B c calls))
      (end_calls B c u w knows ending.Abort line ends (λ long. tt) (but u B c calls)) (all_still k c u ending.Abort us w apart.0 at.1)
      apart.1))

  goes_abort : (B : Book) (c : Coord) (u : Uid) (intents : List (Uid × Intent)) → Good c → length c.doings ≡ length c.tree.branches →
      Mine c → IsAtWork k c u → Knows B c → Calls B c → Goes k B (abort_action u intents c).outs (abort_action u intents c).part
  goes_abort B c u intents good works mine w knows calls =
      let us : List Uid = open_below u c.tree ++ u ∷ [] in
      let places = good.tree.lists.places in
      let g = all_goes us B c knows calls (below_all c.tree places (IsAtWork k c) u
      (λ x b found opened. at_work c works mine x b found opened) w) (below_apart c.tree places u) in
      let t = (all_aborted us c).part in
      goes_before k B (all_aborted us c).outs (flat_map (tolds_of intents t) us) t g (all_flat
      (IsPartly k (after B (all_aborted us c).outs)) (tolds_of intents t) us (λ x i. tolds_partly k (after B (all_aborted us c).outs)
      intents t x (let n = g.knows in n.lists))) (all_flat IsIdle (tolds_of intents t) us (λ x i. tolds_idle intents t x))

  -- ---- the decision

  goes_decide : (B : Book) (c : Coord) (p : Plan) (w : IsAtWork k c (actor p.path)) → is_serial (let b = w.branch in b.kind) ≡ false →
      is_on B.called (actor p.path) ≡ true → is_top (let b = w.branch in b.kind) ≡ true → Knows B c → CallsBut (actor p.path) B c →
      Goes k B (decide p c).outs (decide p c).part
  goes_decide B c p w plain called top knows calls = subst (λ es. Goes k B (record_work u p ++ es
      ++ map (decided_told (root_of p.path) u p) p.sent) (decide p c).part) (sym (says_is u body.Committed c q w.does)) (by (has_record p))
    where
      u : Uid
      u = actor p.path

      q : Doing
      q = w.doing

      i : Intent
      i = record { root = root_of p.path; nodes = participants p }

      line : Body
      line = body.Committed (let d = w.doing in d.label)

      V : Book
      V = turned B (body.Committed (let d = w.doing in d.label))

      ends : Ends k B (actor p.path) (let b = w.branch in b.kind) ending.Commit (body.Committed (let d = w.doing in d.label))
      ends = commits k B (actor p.path) _ (let d = w.doing in d.label) (its B c (actor p.path) w knows) w.here plain (called ∙ sym top)

      decided_now : is_decided (turned B (body.Committed (let d = w.doing in d.label))) (actor p.path) ≡ true
      decided_now = let X : Book = turned B (body.Committed (let d = w.doing in d.label)) in committed_decided X (actor p.path)
          (sym (ap (λ x. if x then is_on X.ended (actor p.path) else is_on X.committed (actor p.path)) plain) ∙ ends.here)

      e : Coord
      e = ended (actor p.path) ending.Commit c

      took : Coord
      took = on_doing (actor p.path) (λ (d : Doing). record d { took = participants p }) (ended (actor p.path) ending.Commit c)

      r : Coord
      r = on_root (root_of p.path) (root_after p) took

      like : Alike e r
      like = alike_then e took r (alike_on (actor p.path) (λ (d : Doing). record d { took = participants p }) e (λ d found.
          (refl, same_now d.now))) (alike_root (root_of p.path) (root_after p) took (record { said = λ q. refl; joined = λ q. refl }))

      knows_r : Knows V r
      knows_r = alike_knows V e r like (end_knows B c (actor p.path) w knows ending.Commit (body.Committed (let d = w.doing in d.label))
          ends (λ long. decided_now) calls)

      calls_r : Calls V r
      calls_r = alike_calls V e r like (end_calls B c (actor p.path) w knows ending.Commit (body.Committed (let d = w.doing in d.label))
          ends (λ long. decided_now) calls)

      told : Coord
      told = record r { telling = put_uid (actor p.path) i r.telling }

      knows_told : Knows V told
      knows_told = record {
        acts = knows_r.acts;
        lists = knows_r.lists;
        plans = knows_r.plans;
        telling = λ x j there. ⊎_elim (λ same. subst (λ y. is_decided V y ≡ true) (sym same) decided_now)
            (λ old. knows_r.telling x old.0 (in_to (x, old.0) r.telling old.1))
            (put_in (actor p.path) i x j r.telling (in_from (x, j) (put_uid (actor p.path) i r.telling) there));
        ties = knows_r.ties;
      }

      tolds : List Effect
      tolds = map (decided_told (root_of p.path) (actor p.path) p) p.sent

      tolds_all : ArePartly k V tolds
      tolds_all = all_map (IsPartly k V) (decided_told (root_of p.path) (actor p.path) p) p.sent (λ n j. one n (has (participants p) n))
        where
          one : (n : ℕ) (x : Bool) → IsPartly k V (cond x (tell (root_of p.path) (has_record p) ((actor p.path, ending.Commit) ∷ []) n)
              (tell (root_of p.path) false ((actor p.path, ending.Abort) ∷ []) n))
          one n true = sends_partly k V n _ (tt, (decided_now, tt))
          one n false = sends_partly k V n _ (tt, (tt, tt))

      tolds_wait : AreIdle tolds
      tolds_wait = all_map IsIdle (decided_told (root_of p.path) (actor p.path) p) p.sent (λ n j. one n (has (participants p) n))
        where
          one : (n : ℕ) (x : Bool) → IsIdle (cond x (tell (root_of p.path) (has_record p) ((actor p.path, ending.Commit) ∷ []) n)
              (tell (root_of p.path) false ((actor p.path, ending.Abort) ∷ []) n))
          one n true = tt
          one n false = tt

      there : HasBranch r (actor p.path)
      there = let h = ended_there k c (actor p.path) ending.Commit w in
          (h.0, ap (branch_of (actor p.path)) (on_tree (actor p.path) (λ (d : Doing). record d { took = participants p }) e) ∙ h.1)

      behind_line : (x : Coord) → HasBranch x (actor p.path) → Knows V x → Calls V x → Goes k B (Say line ∷ tolds) x
      behind_line x has_it kn ca = goes_line k B line tolds x (ends.right, ends.about) ends.acts
          (λ z is. (subst (HasBranch x) (sym (ends.only z is)) has_it, tolds_wait)) (goes_partly k V tolds x tolds_all kn ca)

      by : (x : Bool) → Goes k B (cond x (Do (PutIntent (actor p.path) i) ∷ []) [] ++ (Say line ∷ []) ++ tolds) (cond x told r)
      by true =
          let g = behind_line told there knows_told calls_r in
          let same : after V tolds ≡ V = partly_after k V tolds tolds_all in
          record {
            lined = ((w.here, called), g.lined);
            knows = g.knows;
            calls = g.calls;
            puts = (subst (λ X. is_decided X (actor p.path) ≡ true) (sym same) decided_now, g.puts);
            acts = g.acts;
            late = g.late;
          }
      by false = behind_line r there knows_r calls_r

  -- ---- commits

  plain : (h : Kind) → h ≢ kind.Serial → is_serial h ≡ false
  plain kind.Serial un = absurd (un refl)
  plain kind.Top un = refl
  plain kind.Nested un = refl
  plain kind.Constituent un = refl
  plain kind.Independent un = refl

  -- who votes is at work, and no nested or serializing action
  voting_at_work : (c : Coord) (u : Uid) (p : Plan) → Mine c → length c.doings ≡ length c.tree.branches → IsVoting c.tree u p →
      (w : IsAtWork k c u) × (is_serial (let b = w.branch in b.kind) ≡ false) × (is_top (let b = w.branch in b.kind) ≡ true)
  voting_at_work c u p mine works v =
      let a = v.asking in (
        at_work c works mine u a.branch a.found a.opened,
        plain (let b = a.branch in b.kind) a.unserial,
        top (let b = a.branch in b.kind) a.unserial (v.top a.branch a.found),
      )
    where
      top : (h : Kind) → h ≢ kind.Serial → h ≢ kind.Nested → is_top h ≡ true
      top kind.Serial un unnested = absurd (un refl)
      top kind.Nested un unnested = absurd (unnested refl)
      top kind.Top un unnested = refl
      top kind.Constituent un unnested = refl
      top kind.Independent un unnested = refl

  -- the action waits in a step of its commit
  goes_commits : (B : Book) (c : Coord) (u : Uid) (m : Machine) → IsAtWork k c u → AreSaid B (let p = plan_of m in p.ends) →
      is_on B.called u ≡ true → Knows B c → CallsBut u B c → Knows B (commits_in u m c) × Calls B (commits_in u m c)
  goes_commits B c u m w said called knows calls = (
    record {
      acts = λ x b q found does. let o = cases x q does in let h = on_tree u f c in
          known_label x b q (subst (λ t. branch_of x t ≡ Some b) h found) o;
      lists = λ r. subst (λ t. AreSaid B (ends_of r t)) (sym (on_tree u f c)) (knows.lists r);
      plans = λ x q h does is. ⊎_elim (λ same. subst (λ (z : Machine). AreSaid B (let p = plan_of z in p.ends))
          (machine_is h (ap (λ (d : Doing). d.now) same.1 ∙ is)) said) (λ other. knows.plans x q h other.1 is) (cases x q does);
      telling = subst (EachRecord (λ z. is_decided B z ≡ true)) (sym telling) knows.telling;
      ties = subst (λ t. Ties B.acts B.accesses t (commits_in u m c).roots) (sym (on_tree u f c))
          (subst (λ rs. Ties B.acts B.accesses c.tree rs) (sym (on_roots u f c)) knows.ties);
    },
    λ x b q found does opened. ⊎_elim
        (λ same. ap (is_on B.called) same.0 ∙ called ∙ ap (λ (d : Doing). is_committing_now d.now) same.1)
        (λ other. calls x b q other.0 (subst (λ t. branch_of x t ≡ Some b) (on_tree u f c) found) other.1 opened) (cases x q does),
  )
    where
      f : Doing → Doing
      f d = record d { req = (plan_of m).req; now = Committing m }

      old : Doing
      old = w.doing

      machine_is : (h : Machine) → Committing m ≡ Committing h → m ≡ h
      machine_is h is = let e : ◌≡◌ {A = Now} (Committing m) (Committing h) = is in cc

      cases : (x : Uid) (q : Doing) → doing_of x (commits_in u m c) ≡ Some q →
          ((x ≡ u) × (f (let d = w.doing in d) ≡ q)) ⊎ ((x ≢ u) × (doing_of x c ≡ Some q))
      cases x q does = ⊎_elim
          (λ same. inl (
            same,
            some_is (f (let d = w.doing in d)) q (sym (doing_put u (f (let d = w.doing in d)) (let d = w.doing in d) c w.does)
                ∙ ap (λ v. doing_of v (set_doing u (f (let d = w.doing in d)) c)) (sym same) ∙ by x q does),
          ))
          (λ other. inr (other, sym (doing_other u x (f (let d = w.doing in d)) (let d = w.doing in d) c w.does other) ∙ by x q does))
          (uid_cases x u)
        where
          by : (x : Uid) (q : Doing) → doing_of x (commits_in u m c) ≡ Some q →
              doing_of x (set_doing u (f (let d = w.doing in d)) c) ≡ Some q
          by x q is = subst (λ o. doing_of x (change_doing f u c o) ≡ Some q) w.does is

      known_label : (x : Uid) (b : Branch) (q : Doing) → branch_of x c.tree ≡ Some b →
          ((x ≡ u) × (f (let d = w.doing in d) ≡ q)) ⊎ ((x ≢ u) × (doing_of x c ≡ Some q)) → IsKnown B x b.kind b.ended q.label
      known_label x b q found (inl same) = subst (λ l. IsKnown B x b.kind b.ended l) (ap (λ (d : Doing). d.label) same.1)
          (knows.acts x b (let d = w.doing in d) found (ap (λ v. doing_of v c) same.0 ∙ w.does))
      known_label x b q found (inr other) = knows.acts x b q found other.1

      telling : (commits_in u m c).telling ≡ c.telling
      telling = tell_by (doing_of u c)
        where
          tell_by : (o : Option Doing) → (let x = change_doing f u c o in x.telling) ≡ c.telling
          tell_by None = refl
          tell_by (Some d) = refl

  goes_step_commit : (B : Book) (c : Coord) (u : Uid) (p : Plan) (s : CommitStep) (intents : List (Uid × Intent)) → Good c → Mine c →
      length c.doings ≡ length c.tree.branches → IsVoting c.tree u p → IsStepOf actions paths tree p s → AreSaid B p.ends →
      is_on B.called u ≡ true → Knows B c → CallsBut u B c
      → Goes k B (step_commit u s intents c).outs (step_commit u s intents c).part
  goes_step_commit B c u p (Stays m) intents good mine works v same said called knows calls =
      let w = voting_at_work c u p mine works v in
      let g = goes_commits B c u m w.0 (subst (AreSaid B) (sym same.1) said) called knows calls in
      goes_partly k B [] (commits_in u m c) tt g.0 g.1
  goes_step_commit B c u p (Asks m) intents good mine works v same said called knows calls =
      let w = voting_at_work c u p mine works v in
      let now : AreSaid B (let q = plan_of m in q.ends) = subst (AreSaid B) (sym same.1) said in
      let g = goes_commits B c u m w.0 now called knows calls in
      like_goes k B (commits_in u m c) (step_commit u (Asks m) intents c).part (step_commit u (Asks m) intents c).outs (machine_partly k B m
      (commits_in u m c) now) (alike_asks (plan_of m).path (plan_of m).req (commit.waiting m) (commits_in u m c)) g.0 g.1
  goes_step_commit B c u p (Decides q) intents good mine works v same said called knows calls =
      let is : actor q.path ≡ u = ap actor same.0 ∙ actor_is actions paths tree u p.path c good v.asking in
      decides (actor q.path) refl is
    where
      decides : (x : Uid) → x ≡ actor q.path → x ≡ u → Goes k B (decide q c).outs (decide q c).part
      decides x at is =
          let own : u ≡ actor q.path = sym is ∙ at in
          let w = voting_at_work c u p mine works v in
          let moved = subst (λ y. (z : IsAtWork k c y) × (is_serial (let b = z.branch in b.kind) ≡ false)
          × (is_top (let b = z.branch in b.kind) ≡ true)) own w in
          goes_decide B c q moved.0 moved.1 (subst (λ y. is_on B.called y ≡ true) own called) moved.2 knows
          (subst (λ y. CallsBut y B c) own calls)
  goes_step_commit B c u p (Aborts why q) intents good mine works v same said called knows calls =
      let w = voting_at_work c u p mine works v in goes_aborts B c u why intents w.0 knows calls

  goes_moved : (B : Book) (c : Coord) (u : Uid) (p : Plan) (m : commit.Marked) (intents : List (Uid × Intent)) → Good c → Mine c →
      length c.doings ≡ length c.tree.branches → IsVoting c.tree u p → IsStepOf actions paths tree p m.step → AreSaid B p.ends →
      is_on B.called u ≡ true → Knows B c → CallsBut u B c
      → Goes k B (moved_commit u m intents c).outs (moved_commit u m intents c).part
  goes_moved B c u p m intents good mine works v same said called knows calls =
      let t = step_commit u m.step intents c in
      let at = voting_at_work c u p mine works v in
      let w = at.0 in
      let q = w.doing in
      let s = its B c u w knows in
      let timely : IsOpenSo true B q.label =
      (s.act, plain_act k B u (let b = w.branch in b.kind) q.label s w.here at.1, ap (is_on B.called) s.uid ∙ called) in
      goes_behind k B (mark_lines u m.marks c) t.outs t.part (marks_partly k B u m.marks c q w.does timely)
      (goes_step_commit B c u p m.step intents good mine works v same said called knows calls)

  -- a commit that is under way was called
  was_called : (B : Book) (c : Coord) (u : Uid) (d : Doing) (m : Machine) → Calls B c → doing_of u c ≡ Some d → d.now ≡ Committing m →
      IsVoting c.tree u (plan_of m) → is_on B.called u ≡ true
  was_called B c u d m calls does is v = let a = v.asking in
      calls u a.branch d a.found does (none_of (let b = a.branch in b.ended) a.opened) ∙ ap is_committing_now is

  -- ---- answers and giveups

  -- whatever the root takes note of
  on_its_root : (c : Coord) (u w : Uid) (r : Uid) (f : Root → Root) → w ≡ u → IsAtWork k c u → IsAtWork k (on_root r f c) w
  on_its_root c u w r f same at =
      let z = subst (IsAtWork k c) (sym same) at in
      record { branch = z.branch; doing = z.doing; found = z.found; opened = z.opened; does = z.does; here = z.here }

  -- who asks is there with its path, and isn't serializing
  asks_so : (c : Coord) (u : Uid) (p : Path) → Good c → IsAsking c.tree u p → (z : Branch) → branch_of (actor p) c.tree ≡ Some z →
      (z.path ≡ p) × (is_serial z.kind ≡ false)
  asks_so c u p good a z at =
      let same = some_is z a.branch (sym at ∙ ap (λ v. branch_of v c.tree) (actor_is actions paths tree u p c good a) ∙ a.found) in (
        ap (λ (b : Branch). b.path) same ∙ a.path,
        ap (λ (b : Branch). is_serial b.kind) same ∙ plain (let b = a.branch in b.kind) a.unserial,
      )

  calling_free : (c : Coord) (u w : Uid) (d : Doing) (s : Steps) → w ≡ u → doing_of u c ≡ Some d → d.now ≡ Calling s → IsFree w c
  calling_free c u w d s same found is e m at commits =
      let one : e ≡ d = some_is e d (sym at ∙ ap (λ v. doing_of v c) same ∙ found) in
      let no_way : ◌≡◌ {A = Now} (Calling s) (Committing m) = sym is ∙ ap (λ (x : Doing). x.now) (sym one) ∙ commits in
      absurd (cc no_way)

  pub goes_heard : (B : Book) (from : ℕ) (a : Asked) (r : Reply) (intents : List (Uid × Intent)) (c : Coord) → Good c → Mine c → length
      c.doings ≡ length c.tree.branches → Knows B c → Calls B c → Goes k B (heard from a r intents c).outs (heard from a r intents c).part
  goes_heard B from a r intents c good mine works knows calls = by (doing_of a.act c) refl
    where
      Serves : Served Coord (Unit {0}) → Type 0
      Serves d = Goes k B d.outs d.part

      nothing : Serves (heard_none c)
      nothing = goes_partly k B [] c tt knows calls

      now : (d : Doing) → doing_of a.act c ≡ Some d → (n : Now) → d.now ≡ n → IsBusy c.tree a.act n →
          Serves (heard_now from a r intents c n)
      now d found Idle is b = nothing
      now d found (Calling s) is b = one (waits_for_call from a r s)
        where
          its_step : Serves (heard_by (heard_call s r c))
          its_step =
              let m = answered (is_free (root_of s.path) (actor s.path) s.x c) (kept_at s c) s.goal s.at r in
              let t : Coord = on_root (root_of s.path) (root_moved s r m) c in
              goes_call_step k B s m.step c t (alike_root (root_of s.path) (root_moved s r m) c (moved_keeps s r m)) (calling_free c a.act
              (actor s.path) d s (actor_is actions paths tree a.act s.path c good b) found is) (on_its_root c a.act (actor s.path)
              (root_of s.path) (root_moved s r m) (actor_is actions paths tree a.act s.path c good b) (at_work c works mine a.act
              b.branch b.found b.opened)) (asks_so c a.act s.path good b) (let l = good.tree.lists in l.places) knows calls

          one : (w : Bool) → Serves (cond {A = Served Coord (Unit {0})} w (heard_by (heard_call s r c)) (heard_none c))
          one true = its_step
          one false = nothing
      now d found (Committing m) is b = one (waits_for_commit from a r m)
        where
          its_step : Serves (heard_by (moved_commit a.act (commit.answered from m r) intents c))
          its_step = goes_moved B c a.act (plan_of m) (commit.answered from m r) intents good mine works b (answer_step actions paths tree
              from m r) (knows.plans a.act d m found is) (was_called B c a.act d m calls found is b) knows (but a.act B c calls)

          one : (w : Bool) → Serves
              (cond {A = Served Coord (Unit {0})} w (heard_by (moved_commit a.act (commit.answered from m r) intents c)) (heard_none c))
          one true = its_step
          one false = nothing

      by : (o : Option Doing) → doing_of a.act c ≡ o → Serves (heard_doing from a r intents c o)
      by None is = nothing
      by (Some d) is = now d is d.now refl (good.busy a.act d is)

  abbrev DidGo : Book → Did Coord → Type 0
  DidGo B d = Goes k B d.outs d.part

  goes_give_up : (B : Book) (u : Uid) (intents : List (Uid × Intent)) (c : Coord) → Good c → Mine c →
      length c.doings ≡ length c.tree.branches → Knows B c → Calls B c → DidGo B (give_up u intents c)
  goes_give_up B u intents c good mine works knows calls = by (doing_of u c) refl
    where
      nothing : DidGo B (record { part = c; outs = [] })
      nothing = goes_partly k B [] c tt knows calls

      with_lines : {p : Path} (q : Doing) → doing_of u c ≡ Some q → IsAsking c.tree u p → (nodes : List ℕ) (d : Did Coord) → DidGo B d →
          DidGo B (record { part = d.part; outs = gaveup_lines u nodes c ++ d.outs })
      with_lines q does a nodes d g =
          let s = knows.acts u a.branch q a.found does in
          goes_behind k B (gaveup_lines u nodes c) d.outs d.part (gaveup_partly k B u nodes c q does (s.act, s.named)) g

      now : (d : Doing) → doing_of u c ≡ Some d → (n : Now) → d.now ≡ n → IsBusy c.tree u n → DidGo B (gives_up u intents c n)
      now d found Idle is b = nothing
      now d found (Calling s) is b =
          let t : Coord = on_root (root_of s.path) (root_lost s (given_up s.at)) c in
          with_lines d found b (next_node s ∷ []) (step_call s (given_up s.at) t) (goes_call_step k B s (given_up s.at) c t
          (alike_root (root_of s.path) (root_lost s (given_up s.at)) c (record { said = λ q. refl; joined = λ q. refl }))
          (calling_free c u (actor s.path) d s (actor_is actions paths tree u s.path c good b) found is) (on_its_root c u (actor s.path)
          (root_of s.path) (root_lost s (given_up s.at)) (actor_is actions paths tree u s.path c good b) (at_work c works mine u
          b.branch b.found b.opened)) (asks_so c u s.path good b) (let l = good.tree.lists in l.places) knows calls)
      now d found (Committing m) is b =
          with_lines d found b.asking (nodes_given_up m) (moved_commit u (commit.given_up m) intents c)
          (goes_moved B c u (plan_of m) (commit.given_up m) intents good mine works b (giveup_step actions paths tree m)
          (knows.plans u d m found is) (was_called B c u d m calls found is b) knows (but u B c calls))

      by : (o : Option Doing) → doing_of u c ≡ o → DidGo B (give_up_doing u intents c o)
      by None is = nothing
      by (Some d) is = now d is d.now refl (good.busy u d is)

  -- ---- inputs

  -- ---- inputs

  -- the line that a commit is called, and the book after it
  module _ (B : Book) (c : Coord) (u : Uid) (w : IsAtWork k c u) (knows : Knows B c) (calls : Calls B c) (free : IsFree u c) where
    abbrev asks_line : Body
    asks_line = body.Committing (let q = w.doing in q.label)

    abbrev asked_book : Book
    asked_book = turned B asks_line

    called_is : (x : Uid) → is_on (let V = asked_book in V.called) x ≡ is_on (u ∷ B.called) x
    called_is x = let s = its B c u w knows in
        ap (λ us. is_on us x) (named_is B.acts (let q = w.doing in q.label) B.called s.act s.named) ∙ ap (λ y. is_on (y ∷ B.called) x) s.uid

    called_right : is_top (let b = w.branch in b.kind) ≡ true → IsClosed B u → IsLined k B (Say asks_line)
    called_right top closed =
        let s = its B c u w knows in
        let q = w.doing in (
          (
            s.act,
            open_act k B u _ q.label s w.here,
            ap is_top s.kind ∙ top,
            ap (is_on B.called) s.uid ∙ calls u w.branch q w.found w.does w.opened ∙ not_committing q.now (λ m is. free q m w.does is),
            subst (IsClosed B) (sym s.uid) closed,
          ),
          about_it k B u _ q.label s w.here,
        )

    end_called : (x : Uid) (h : Kind) (o : Option End) → IsEnd B x h o → IsEnd asked_book x h o
    end_called x h None is = is
    end_called x h (Some ending.Commit) is = is
    end_called x h (Some ending.Abort) is = is

    called_knows : Knows asked_book c
    called_knows = record {
      acts = λ x b q found does. let s = knows.acts x b q found does in
          record { act = s.act; named = s.named; uid = s.uid; kind = s.kind; end = end_called x b.kind b.ended s.end };
      lists = λ r. are_later B asked_book (later_turn B asks_line) (ends_of r c.tree) (knows.lists r);
      plans = λ x q m does is. are_later B asked_book (later_turn B asks_line) _ (knows.plans x q m does is);
      telling = λ x i there. decided_later B asked_book (later_turn B asks_line) x (knows.telling x i there);
      ties = knows.ties;
    }

    called_now : is_on (let V = asked_book in V.called) u ≡ true
    called_now = called_is u ∙ on_here u B.called

    called_but : CallsBut u asked_book c
    called_but x b q other found does opened =
        called_is x ∙ on_other u x B.called (λ same. other (sym same)) ∙ calls x b q found does opened

  -- what is below who commits has ended
  closed_below : (B : Book) (c : Coord) (u : Uid) {p : Plan} → length c.doings ≡ length c.tree.branches → IsVoting c.tree u p → Knows B c →
      IsClosed B u
  closed_below B c u works v knows a there on other =
      let own = (found_by u c.tree (let z = v.asking in z.branch) (let z = v.asking in z.found)).0 in
      let home = knows.ties.homes a u there on own in
      let at = knows.ties.paths a home.0 there home.1 in
      let over = v.over a.uid (v.below a.uid home.0 home.1 (ap (λ us. is_on us u) (sym at) ∙ on) other) in
      let work = work_there c works a.uid over.0 over.1 in
      let s = knows.acts a.uid over.0 work.0 over.1 work.1 in
      by over.0 (let b = over.0 in b.ended) over.2 s.end
    where
      by : (b : Branch) (o : Option End) → is_some o ≡ true → IsEnd B a.uid b.kind o → is_over B a.uid ≡ true
      by b None e i = absurd (cc e)
      by b (Some ending.Abort) e i = over_by_abort B a.uid i
      by b (Some ending.Commit) e i = kinds (is_serial b.kind) i
        where
          kinds : (x : Bool) → cond x (is_on B.ended a.uid) (is_on B.committed a.uid) ≡ true → is_over B a.uid ≡ true
          kinds true is = over_by_end B a.uid is
          kinds false is = over_by_commit B a.uid is

  -- a top's commit is called
  goes_top : (B : Book) (b : Branch) (intents : List (Uid × Intent)) (c : Coord) → Good c → Mine c → length c.doings ≡ length
      c.tree.branches → branch_of (actor b.path) c.tree ≡ Some b → is_some b.ended ≡ false → has_open_child (actor b.path) c.tree ≡ false →
      b.kind ≢ kind.Serial → b.kind ≢ kind.Nested → IsFree (actor b.path) c → Knows B c → Calls B c → DidGo B (commit_top b.path intents c)
  goes_top B b intents c good mine works found opened none unserial unnested free knows calls =
      let u = actor b.path in
      let plan = plan_for b.path (last_req (doing_of u c)) (root_at (root_of b.path) c) c in
      let voting = voting_at actions paths tree b c found opened none unserial unnested good in
      let v = voting_at_work c u plan mine works voting in
      let w = v.0 in
      let V : Book = asked_book B c u w knows calls free in
      let t = moved_commit u (commit.start plan) intents c in
      let now = called_knows B c u w knows calls free in
      subst (λ es. Goes k B (es ++ t.outs) t.part) (sym (says_is u body.Committing c w.doing w.does))
      (goes_line k B (asks_line B c u w knows calls free) t.outs t.part
      (called_right B c u w knows calls free v.2 (closed_below B c u works voting knows)) refl (λ x is. absurd (cc is))
      (goes_moved V c u plan (commit.start plan) intents good mine works voting (vote_step actions paths tree (servers_of plan) plan plan
      (refl, refl)) (now.lists (root_of b.path)) (called_now B c u w knows calls free) now (called_but B c u w knows calls free)))

  goes_commit : (B : Book) (b : Branch) (intents : List (Uid × Intent)) (c : Coord) → Good c → Mine c →
      length c.doings ≡ length c.tree.branches → branch_of (actor b.path) c.tree ≡ Some b → is_some b.ended ≡ false →
      has_open_child (actor b.path) c.tree ≡ false → IsFree (actor b.path) c → Knows B c → Calls B c → DidGo B (commit_action b intents c)
  goes_commit B b intents c good mine works found opened none free knows calls = by b.doomed
    where
      u : Uid
      u = actor b.path

      w : IsAtWork k c (actor b.path)
      w = at_work c works mine (actor b.path) b found opened

      top : b.kind ≢ kind.Serial → b.kind ≢ kind.Nested → DidGo B (commit_top b.path intents c)
      top unserial unnested = goes_top B b intents c good mine works found opened none unserial unnested free knows calls

      kinds : (h : Kind) → b.kind ≡ h → DidGo B (commit_open b intents c h)
      kinds kind.Nested is = goes_nested B c (actor b.path) intents (at_work c works mine (actor b.path) b found opened) is free knows calls
      kinds kind.Serial is = goes_serial B c (actor b.path) intents (at_work c works mine (actor b.path) b found opened) good is knows calls
      kinds kind.Top is = top (λ e. absurd (cc (sym is ∙ e))) (λ e. absurd (cc (sym is ∙ e)))
      kinds kind.Independent is = top (λ e. absurd (cc (sym is ∙ e))) (λ e. absurd (cc (sym is ∙ e)))
      kinds kind.Constituent is = top (λ e. absurd (cc (sym is ∙ e))) (λ e. absurd (cc (sym is ∙ e)))

      by : (x : Bool) →
          DidGo B (cond {A = Did Coord} x (aborts_with (actor b.path) cause.Doomed intents c) (commit_open b intents c b.kind))
      by true = goes_aborts B c (actor b.path) cause.Doomed intents w knows (but (actor b.path) B c calls)
      by false = kinds b.kind refl

  -- who doesn't wait isn't at its commit
  pub waits_free : (c : Coord) (b : Branch) → waits_above b c ≡ false → IsFree (actor b.path) c
  waits_free c b none d m found is = never (ap is_waiting found ∙ ap is_waiting_now is) (quiet (uids_of b.path) none (on_own b.path))
    where
      quiet : (us : List Uid) → list_any (waits c) us ≡ false → is_on us (actor b.path) ≡ true → waits c (actor b.path) ≡ false
      quiet [] e on = absurd (cc on)
      quiet (x ∷ us) e on = let q = or_parts (waits c x) (list_any (waits c) us) e in ⊎_elim (λ same. ap (waits c) (sym (uid_is x
          (actor b.path) same)) ∙ q.0) (λ rest. quiet us q.1 rest) (or_cases (uid_eq x (actor b.path)) (is_on us (actor b.path)) on)

  -- the second reason is that it waits
  above_quiet : (b : Branch) (c : Coord) (also : Bool) (rs : List (ℕ × Bool)) →
      input.first_reason ((6, is_some b.ended) ∷ (7, (waits_above b c || waits_below b c) || also) ∷ rs) ≡ None → waits_above b c ≡ false
  above_quiet b c also rs is =
      let first = off ((6, is_some b.ended) ∷ (7, (waits_above b c || waits_below b c) || also) ∷ rs) is in
      (or_parts (waits_above b c) (waits_below b c)
      (or_parts (waits_above b c || waits_below b c) also (off ((7, (waits_above b c || waits_below b c) || also) ∷ rs) first.1).0).0).0

  call_quiet : (b : Branch) (c : Coord) (rs : List (ℕ × Bool)) →
      input.first_reason ((6, is_some b.ended) ∷ (7, waits_above b c || waits_below b c) ∷ rs) ≡ None → waits_above b c ≡ false
  call_quiet b c rs is =
      let first = off ((6, is_some b.ended) ∷ (7, waits_above b c || waits_below b c) ∷ rs) is in
      (or_parts (waits_above b c) (waits_below b c) (off ((7, waits_above b c || waits_below b c) ∷ rs) first.1).0).0

  pub goes_acts : (B : Book) (intents : List (Uid × Intent)) (c : Coord) → Good c → Mine c → length c.doings ≡ length c.tree.branches →
      Knows B c → Calls B c → (hd : Header) (i : Input) → refusal_up hd i c ≡ None →
      ((l : Label) (h : Kind) (parent : Option Label) → i ≢ input.Begin l h parent) → DidGo B (acts i intents c)
  goes_acts B intents c good mine works knows calls hd i refused other = by i refused other
    where
      nothing : DidGo B (record { part = c; outs = [] })
      nothing = goes_partly k B [] c tt knows calls

      by : (i : Input) → refusal_up hd i c ≡ None → ((l : Label) (h : Kind) (parent : Option Label) → i ≢ input.Begin l h parent) →
          DidGo B (acts i intents c)
      by (input.Begin l h parent) none isnt = absurd (isnt l h parent refl)
      by (input.Call l x o) none isnt = one (branch_named l c) none
        where
          one : (f : Option Branch) → refused_by (call_reasons hd x o) c f ≡ None → DidGo B (on_branch (λ b. call b.path x o c) c f)
          one None e = nothing
          one (Some b) e =
              goes_call k B b.path x o c (waits_free c b (call_quiet b c (behind (behind (call_reasons hd x o b c))) e)) knows calls
      by (input.Include l x s) none isnt = one (branch_named l c) none
        where
          one : (f : Option Branch) → refused_by (include_reasons hd x) c f ≡ None → DidGo B (on_branch (λ b. include b.path x s c) c f)
          one None e = nothing
          one (Some b) e =
              goes_include k B b.path x s c (waits_free c b (call_quiet b c (behind (behind (include_reasons hd x b c))) e)) knows calls
      by (input.Commit l) none isnt = one (branch_named l c) refl none
        where
          one : (f : Option Branch) → branch_named l c ≡ f → refused_by commit_reasons c f ≡ None →
              DidGo B (on_branch (λ b. commit_action b intents c) c f)
          one None is e = nothing
          one (Some b) is e = goes_commit B b intents c good mine works (named_found actions paths tree intents c good l b is)
              (off (commit_reasons b c) e).0 (off_third (commit_reasons b c) e)
              (waits_free c b (above_quiet b c _ (behind (behind (commit_reasons b c))) e)) knows calls
      by (input.Abort l) none isnt = one (branch_named l c) refl none
        where
          one : (f : Option Branch) → branch_named l c ≡ f → refused_by abort_reasons c f ≡ None →
              DidGo B (on_branch (λ b. abort_action (actor b.path) intents c) c f)
          one None is e = nothing
          one (Some b) is e = goes_abort B c (actor b.path) intents good works mine (at_work c works mine (actor b.path) b
              (named_found actions paths tree intents c good l b is) (off (abort_reasons b c) e).0) knows calls
      by (input.GiveUp l) none isnt = one (branch_named l c)
        where
          one : (f : Option Branch) → DidGo B (on_branch (λ b. give_up (actor b.path) intents c) c f)
          one None = nothing
          one (Some b) = goes_give_up B (actor b.path) intents c good mine works knows calls
      by (input.Frame n from m) none isnt = nothing
      by input.Tick none isnt = nothing
      by input.Restart none isnt = nothing
      by input.Crash none isnt = nothing
      by (input.Show x) none isnt = nothing
