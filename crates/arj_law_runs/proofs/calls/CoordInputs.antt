-- A coordinator knows its calls, whatever it hears, does and begins.
use Rattle.arj_law_parts.proofs.Words
use Words.{◌≡◌, ◌≢◌, ◌⊎◌, ◌≤◌, ◌<◌, ◌==◌, ◌&&◌, ◌||◌, ◌+◌, ℕ, zero, suc, List, [], ◌∷◌, ◌++◌, Bool, true, false, cond, Option, Some, None}
use Words.{refl, sym, ◌∙◌, ap, subst, inl, inr, ⊎_elim, arith, length, slice_get, is_some, list_any, and_parts, eqb-true, or_cases}
use Words.{or_parts, uid_is, Uid, Asked, Binding, Header, InvokedReply, Kind, Label, Path, Message, ObjectState, is_on, uid_eq, uids_of}
use Words.{Reply, actor, ask_kind, answers, asked_by, reply_kind, begin_action, call, commit_action, commit_open, give_up, give_up_doing}
use Words.{gives_up, heard, heard_by, heard_call, heard_doing, heard_none, heard_now, include, kept_at, moved_commit, step_commit}
use Words.{waits_for_call, waits_for_commit, Known, Steps, next_ask, next_node, Aborts, Asks, CommitStep, Decides, Machine, Plan, Stays}
use Words.{plan_of, Calling, Committing, Coord, Doing, Idle, Now, doing_of, Did, Intent, Served, abort_action, aborts_with, acked, acked_by}
use Words.{acked_left, at_uid, binding_number, has, put_uid, without_number, without_uid, Input, acts, branch_named, call_reasons}
use Words.{commit_reasons, first_reason, include_reasons, is_waiting, is_waiting_now, on_branch, parent_of, refusal_up, refused_by}
use Words.{sibling_waits, waits, waits_above, waits_below, Branch, at_place, branch_of, has_open_child, is_own, next_uid, open_below}
use Words.{path_below, Post}
use Words.list
use Words.ending
use Words.cause
use Words.voted
use Words.commit
use Words.input
use Rattle.arj_law_runs.proofs.Terms
use Terms.{Action, IsSettled, IsAsking, IsBusy, IsGoodCoord, IsVoting, IsTree, Paths, AreNumbered, IsNumbered, on_own, behind, named_found}
use Terms.{off, off_third, stand_begins, IsStepOf, actor_is, answer_step, doing_by, giveup_step, found_by, get_more, own_is, work_there, In}
use Terms.{Call, IsRefused, is_refusal, refused_by as refusal_by, IsCalledBy, IsOwn, IsPlanned, IsUsed, KnowsCalls, head_of, NamesIn}
use Rattle.arj_law_runs.proofs.calls.CommitPlans.{IsNextOf, answer_next, changed_from, giveup_next, heard_plan, heard_same}
use Rattle.arj_law_runs.proofs.calls.CoordCalls.{idle_not, not_both, not_idle}
use Rattle.arj_law_runs.proofs.calls.CoordCommits.{open_known, step_known}
use Rattle.arj_law_runs.proofs.calls.CoordEnds.{aborts_ended, all_known, ended_known}
use Rattle.arj_law_runs.proofs.calls.CoordHeard.{given_up_known, heard_known}
use Rattle.arj_law_runs.proofs.calls.CoordKnown.{knows_of, paths_same}
use Rattle.arj_law_runs.proofs.calls.CoordStarts.{call_known, include_known, telling_known}
use Rattle.arj_law_runs.proofs.calls.CoordSteps.{Goes, goes_by, knowing_of, knowing_on}
use Rattle.arj_law_runs.proofs.calls.CoordTrees.{KeepsDoom, doom_begun}
use Rattle.arj_law_runs.proofs.calls.ServerCalls.{never, some_is}

decides_path : (acts : List Action) (paths : Paths) (tree : IsTree paths) (p : Plan) (s : CommitStep) → IsStepOf acts paths tree p s →
    (q : Plan) → s ≡ Decides q → q.path ≡ p.path
decides_path acts paths tree p (Decides z) same q is = let e : z ≡ q = decides_is is in ap (λ (y : Plan). y.path) (sym e) ∙ same.0
  where
    decides_is : {a b : Plan} → Decides a ≡ Decides b → a ≡ b
    decides_is is = cc
decides_path acts paths tree p (Stays m) same q is = absurd (cc is)
decides_path acts paths tree p (Asks m) same q is = absurd (cc is)
decides_path acts paths tree p (Aborts why z) same q is = absurd (cc is)

-- an action on whose path nobody waits is at rest
at_rest : (b : Branch) (c : Coord) (d : Doing) → waits_above b c ≡ false → doing_of (actor b.path) c ≡ Some d → d.now ≡ Idle
at_rest b c d quiet found = by d.now refl
  where
    alone : (us : List Uid) → list_any (waits c) us ≡ false → is_on us (actor b.path) ≡ true → waits c (actor b.path) ≡ false
    alone [] e on = let no_way : false ≡ true = on in cc
    alone (x ∷ us) e on = let q = or_parts (waits c x) (list_any (waits c) us) e in ⊎_elim (λ same. ap (waits c) (sym
        (uid_is x (actor b.path) same)) ∙ q.0) (λ rest. alone us q.1 rest) (or_cases (uid_eq x (actor b.path)) (is_on us (actor b.path)) on)

    off_it : is_waiting_now d.now ≡ false
    off_it = ap is_waiting (sym found) ∙ alone (uids_of b.path) quiet (on_own b.path)

    by : (n : Now) → d.now ≡ n → d.now ≡ Idle
    by Idle is = is
    by (Calling s) is = let no_way : true ≡ false = sym (ap is_waiting_now is) ∙ off_it in absurd (cc no_way)
    by (Committing m) is = let no_way : true ≡ false = sym (ap is_waiting_now is) ∙ off_it in absurd (cc no_way)

-- the second reason is that it waits
above_quiet : (b : Branch) (c : Coord) (rest : Bool) (rs : List (ℕ × Bool)) →
    first_reason ((6, is_some b.ended) ∷ (7, waits_above b c || rest) ∷ rs) ≡ None → waits_above b c ≡ false
above_quiet b c rest rs is =
    let first = off ((6, is_some b.ended) ∷ (7, waits_above b c || rest) ∷ rs) is in
    (or_parts (waits_above b c) rest (off ((7, waits_above b c || rest) ∷ rs) first.1).0).0

module _ (acts_begun : List Action) (paths : Paths) (tree : IsTree paths) (sent : List Post) (c : Coord) (good : IsGoodCoord acts_begun
    paths c) (numbered : AreNumbered c) (works : length c.doings ≡ length c.tree.branches) (knows : KnowsCalls paths sent c)
    (here : (to : ℕ) (k : Call) → IsOwn sent c to k → (q : Branch) × (branch_of (actor (let h = k.head in h.path)) c.tree ≡ Some q)
    × (q.path ≡ (let h = k.head in h.path))) (voted_of : (from : ℕ) (m : Message) (a : Asked) (states : List ObjectState) →
    In (record { from = from; to = c.tree.node; message = m }) sent → answers m ≡ Some (a, Reply.Voted (voted.Yes states)) →
    is_own a.act c.tree ≡ true → IsSettled a.act c) where
  last_call : (u : Uid) (d : Doing) (s : Steps) → doing_of u c ≡ Some d → d.now ≡ Calling s → d.req < s.req + 1
  last_call u d s found now = number d.req s.req (subst (IsNumbered d.req) now (numbered u d found))
    where
      number : (i j : ℕ) → j ≡ i → i < j + 1
      number i j is = omega (arith, is)

  last_plan : (u : Uid) (d : Doing) (m : Machine) → doing_of u c ≡ Some d → d.now ≡ Committing m → d.req ≤ (plan_of m).req
  last_plan u d m found now = let f = subst (IsNumbered d.req) now (numbered u d found) in number d.req (plan_of m).req f.0
    where
      number : (i j : ℕ) → j ≡ i → i ≤ j
      number i j is = omega (arith, is)

  later : (i j l : ℕ) → i ≤ j → j ≤ l → i ≤ l
  later i j l a b = omega (arith, a, b)

  -- a commit under way goes a step
  moved : (u : Uid) (d : Doing) (m : Machine) (p : Plan) (step : CommitStep) (intents : List (Uid × Intent)) → doing_of u c ≡ Some d →
      d.now ≡ Committing m → (p.used ≡ (plan_of m).used) × ((plan_of m).req ≤ p.req) × (p.path ≡ (plan_of m).path) →
      ((s : ObjectState) → list.In s p.changed → IsCalledBy sent c (uids_of (plan_of m).path) s.uid.num) → IsNextOf p step →
      IsStepOf acts_begun paths tree (plan_of m) step → KnowsCalls paths sent (step_commit u step intents c).part
  moved u d m p step intents found now its called next same =
      let v : IsVoting c.tree u (plan_of m) = subst (IsBusy c.tree u) now (good.busy u d found) in
      let k = knows.plans u d m found now in
      step_known paths sent c knows u d found (λ s is. not_both (sym is ∙ now)) p step intents (later d.req (plan_of m).req p.req (last_plan
      u d m found now) its.1) k.free (λ to q o on. subst (λ us. IsPlanned sent c.tree c us to q) (sym its.0) (k.calls to q o on))
      (λ from z a states i is at s j. let r = k.votes from z a states i is at s j in
      (subst (λ us. IsUsed us s.uid.num from) (sym its.0) r.0, subst (λ q. IsCalledBy sent c (uids_of q) s.uid.num) (sym its.2) r.1))
      (λ s i. subst (λ q. IsCalledBy sent c (uids_of q) s.uid.num) (sym its.2) (called s i)) next
      (λ q is. ap actor (decides_path acts_begun paths tree (plan_of m) step same q is)
      ∙ actor_is acts_begun paths tree u (plan_of m).path c good v.asking)
      (λ b f. ap (λ (z : Branch). is_some z.ended) (sym (some_is (sym v.asking.found ∙ f))) ∙ v.asking.opened)

  -- ---- answers

  pub known_heard : (from : ℕ) (a : Asked) (r : Reply) (intents : List (Uid × Intent)) (m : Message) → In
      (record { from = from; to = c.tree.node; message = m }) sent → answers m ≡ Some (a, r) → ((d : Doing) (s : Steps) → doing_of a.act c ≡
      Some d → d.now ≡ Calling s → waits_for_call from a r s ≡ true → (old : Known) (b : Binding) (n : ℕ) → kept_at s c ≡ Some old → NamesIn
      r b n → binding_number old.binding ≡ binding_number b → old.server ≡ n) → KnowsCalls paths sent (heard from a r intents c).part
  known_heard from a r intents m posted is sure = by (doing_of a.act c) refl
    where
      by_now : (d : Doing) → doing_of a.act c ≡ Some d → (n : Now) → d.now ≡ n → KnowsCalls paths sent (heard_now from a r intents c n).part
      by_now d found Idle at = knows
      by_now d found (Calling s) at = one (waits_for_call from a r s) refl
        where
          asking : IsAsking c.tree a.act s.path
          asking = subst (IsBusy c.tree a.act) at (good.busy a.act d found)

          who : actor s.path ≡ a.act
          who = actor_is acts_begun paths tree a.act s.path c good asking

          answered : waits_for_call from a r s ≡ true → (q : InvokedReply) → r ≡ Reply.Invoked q → is_refusal q ≡ true →
              IsRefused sent (next_node s) (asked_by (head_of s))
          answered on q q_is bad =
              let p = and_parts (s.req == a.req) ((reply_kind r == ask_kind (next_ask [] s)) && (next_node s == from)) on in
              let node : next_node s ≡ from = eqb-true (next_node s) from
              (and_parts (reply_kind r == ask_kind (next_ask [] s)) (next_node s == from) p.1).1 in
              let asked : asked_by (head_of s) ≡ a = λ i. record { act = who i; req = eqb-true s.req a.req p.0 i } in
              record {
                to = c.tree.node;
                message = m;
                posted = subst (λ n. In (record { from = n; to = c.tree.node; message = m }) sent) (sym node) posted;
                refusal = ap refusal_by (is ∙ ap (λ z. Some (a, z)) q_is) ∙ (λ i. cond (bad i) (Some a) None) ∙ ap Some (sym asked);
              }

          one : (w : Bool) → waits_for_call from a r s ≡ w →
              KnowsCalls paths sent (cond {A = Served Coord (Unit {0})} w (heard_by (heard_call s r c)) (heard_none c)).part
          one true on = heard_known acts_begun paths tree sent c good knows s d (ap (λ z. doing_of z c) who ∙ found) at (last_call a.act d s
              found at) (subst (λ z. IsAsking c.tree z s.path) (sym who) asking) r from a on (sure d s found at on) (answered on)
          one false off_it = knows
      by_now d found (Committing n) at = one (waits_for_commit from a r n)
        where
          called : (d : Doing) (n : Machine) → doing_of a.act c ≡ Some d → d.now ≡ Committing n → (s : ObjectState) →
              list.In s (plan_of n).changed ⊎ ((states : List ObjectState) × (r ≡ Reply.Voted (voted.Yes states)) × list.In s states) →
              IsCalledBy sent c (uids_of (plan_of n).path) s.uid.num
          called d n found at s (inl old) = let k = knows.plans a.act d n found at in k.changed s old
          called d n found at s (inr (states, voted_so, new)) = let k = knows.plans a.act d n found at in
              (k.votes from m a states posted (is ∙ ap (λ z. Some (a, z)) voted_so) refl s new).1

          one : (w : Bool) → KnowsCalls paths sent (cond {A = Served Coord (Unit {0})} w
              (heard_by (moved_commit a.act (commit.answered from n r) intents c)) (heard_none c)).part
          one true = moved a.act d n (heard_plan n r) (commit.answered from n r).step intents found at (heard_same n r)
              (λ s i. called d n found at s (changed_from n r s i)) (answer_next from n r) (answer_step acts_begun paths tree from n r)
          one false = knows

      by : (o : Option Doing) → doing_of a.act c ≡ o → KnowsCalls paths sent (heard_doing from a r intents c o).part
      by None none = knows
      by (Some d) found = by_now d found d.now refl

  pub known_acked : (from : ℕ) (u : Uid) (intents : List (Uid × Intent)) → KnowsCalls paths sent (acked from u intents c).part
  known_acked from u intents = by (at_uid u c.telling)
    where
      left : (i : Intent) (ns : List ℕ) → KnowsCalls paths sent (acked_left u i intents c ns).part
      left i [] = telling_known paths sent c (without_uid u c.telling) knows
      left i (n ∷ ns) = telling_known paths sent c (put_uid u (record i { nodes = n ∷ ns }) c.telling) knows

      by : (o : Option Intent) → KnowsCalls paths sent (acked_by from u intents c o).part
      by None = knows
      by (Some i) = one (has i.nodes from)
        where
          one : (b : Bool) → KnowsCalls paths sent (cond {A = Served Coord (Unit {0})} b
              (acked_left u i intents c (without_number from i.nodes)) (record { part = c; outs = []; reply = None })).part
          one true = left i (without_number from i.nodes)
          one false = knows

  -- ---- inputs

  give_up_known : (u : Uid) (intents : List (Uid × Intent)) → KnowsCalls paths sent (give_up u intents c).part
  give_up_known u intents = by (doing_of u c) refl
    where
      by_now : (d : Doing) → doing_of u c ≡ Some d → (n : Now) → d.now ≡ n → KnowsCalls paths sent (gives_up u intents c n).part
      by_now d found Idle at = knows
      by_now d found (Calling s) at =
          let asking : IsAsking c.tree u s.path = subst (IsBusy c.tree u) at (good.busy u d found) in
          let who = actor_is acts_begun paths tree u s.path c good asking in
          given_up_known acts_begun paths tree sent c good knows s d (ap (λ z. doing_of z c) who ∙ found) at (last_call u d s found at)
          (subst (λ z. IsAsking c.tree z s.path) (sym who) asking)
      by_now d found (Committing n) at = moved u d n (plan_of n) (commit.given_up n).step intents found at (refl, omega arith, refl)
          (let k = knows.plans u d n found at in k.changed) (giveup_next n) (giveup_step acts_begun paths tree n)

      by : (o : Option Doing) → doing_of u c ≡ o → KnowsCalls paths sent (give_up_doing u intents c o).part
      by None none = knows
      by (Some d) found = by_now d found d.now refl

  commit_action_known : (b : Branch) (intents : List (Uid × Intent)) (d : Doing) → branch_of (actor b.path) c.tree ≡ Some b →
      is_some b.ended ≡ false → has_open_child (actor b.path) c.tree ≡ false → doing_of (actor b.path) c ≡ Some d → d.now ≡ Idle →
      KnowsCalls paths sent (commit_action b intents c).part
  commit_action_known b intents d found opened childless work rest = by b.doomed refl
    where
      by : (w : Bool) → b.doomed ≡ w → KnowsCalls paths sent
          (cond {A = Did Coord} w (aborts_with (actor b.path) cause.Doomed intents c) (commit_open b intents c b.kind)).part
      by true on = ended_known paths sent (actor b.path) ending.Abort c (aborts_ended (actor b.path) c.tree)
          (λ is. let no_way : ending.Abort ≡ ending.Commit = is in
          cc) (λ z s at now. absurd (not_idle (sym rest ∙ ap (λ (y : Doing). y.now) (some_is (sym work ∙ at)) ∙ now))) knows
      by false off_it =
          open_known acts_begun paths tree sent c good knows here b found opened childless off_it d work rest unvoted intents b.kind
        where
          unsettled : IsSettled (actor b.path) c → ⊥
          unsettled (inl o) = never o.2 (ap (λ (z : Branch). is_some z.ended) (some_is (sym o.1 ∙ found)) ∙ opened)
          unsettled (inr q) = idle_not (sym rest ∙ ap (λ (z : Doing). z.now) (some_is (sym work ∙ q.2)) ∙ q.3)

          unvoted : (from : ℕ) (m : Message) (a : Asked) (states : List ObjectState) →
              In (record { from = from; to = c.tree.node; message = m }) sent → answers m ≡ Some (a, Reply.Voted (voted.Yes states)) →
              a.act ≡ actor b.path → ⊥
          unvoted from m a states i is same = unsettled (subst (λ z. IsSettled z c) same
              (voted_of from m a states i is (ap (λ z. is_own z c.tree) same ∙ (found_by (actor b.path) c.tree b found).0)))

  pub known_acts : (hd : Header) (i : Input) (intents : List (Uid × Intent)) → refusal_up hd i c ≡ None →
      ((l : Label) (k : Kind) (parent : Option Label) → i ≢ input.Begin l k parent) → KnowsCalls paths sent (acts i intents c).part
  known_acts hd (input.Begin l k parent) intents free other = absurd (other l k parent refl)
  known_acts hd (input.Call l x o) intents free other = by (branch_named l c) refl free
    where
      by : (f : Option Branch) → branch_named l c ≡ f → refused_by (call_reasons hd x o) c f ≡ None →
          KnowsCalls paths sent (on_branch (λ b. call b.path x o c) c f).part
      by None is e = knows
      by (Some b) is e =
          let found = named_found acts_begun paths tree intents c good l b is in
          let d = work_there c works (actor b.path) b found in
          call_known acts_begun paths tree sent c good knows b found d.0 d.1
          (at_rest b c d.0 (above_quiet b c (waits_below b c) (behind (behind (call_reasons hd x o b c))) e) d.1) x o
  known_acts hd (input.Include l x s) intents free other = by (branch_named l c) refl free
    where
      by : (f : Option Branch) → branch_named l c ≡ f → refused_by (include_reasons hd x) c f ≡ None →
          KnowsCalls paths sent (on_branch (λ b. include b.path x s c) c f).part
      by None is e = knows
      by (Some b) is e =
          let found = named_found acts_begun paths tree intents c good l b is in
          let d = work_there c works (actor b.path) b found in
          include_known acts_begun paths tree sent c good knows b found d.0 d.1
          (at_rest b c d.0 (above_quiet b c (waits_below b c) (behind (behind (include_reasons hd x b c))) e) d.1) x s
  known_acts hd (input.Commit l) intents free other = by (branch_named l c) refl free
    where
      by : (f : Option Branch) → branch_named l c ≡ f → refused_by commit_reasons c f ≡ None →
          KnowsCalls paths sent (on_branch (λ b. commit_action b intents c) c f).part
      by None is e = knows
      by (Some b) is e =
          let found = named_found acts_begun paths tree intents c good l b is in
          let d = work_there c works (actor b.path) b found in
          commit_action_known b intents d.0 found (off (commit_reasons b c) e).0 (off_third (commit_reasons b c) e) d.1
          (at_rest b c d.0 (quiet b e) d.1)
        where
          quiet : (b : Branch) → first_reason (commit_reasons b c) ≡ None → waits_above b c ≡ false
          quiet b e = above_quiet b c (waits_below b c || sibling_waits b c) (behind (behind (commit_reasons b c)))
              (ap (λ z. first_reason ((6, is_some b.ended) ∷ (7, z) ∷ behind (behind (commit_reasons b c))))
              (assoc (waits_above b c) (waits_below b c) (sibling_waits b c)) ∙ e)
            where
              assoc : (p q r : Bool) → (p || (q || r)) ≡ ((p || q) || r)
              assoc true q r = refl
              assoc false q r = refl
  known_acts hd (input.Abort l) intents free other = by (branch_named l c)
    where
      by : (f : Option Branch) → KnowsCalls paths sent (on_branch (λ b. abort_action (actor b.path) intents c) c f).part
      by None = knows
      by (Some b) = all_known paths sent (open_below (actor b.path) c.tree ++ actor b.path ∷ []) c
          (λ w d s at now. let a : IsAsking c.tree w s.path = subst (IsBusy c.tree w) now (good.busy w d at) in (a.branch, a.found)) knows
  known_acts hd (input.GiveUp l) intents free other = by (branch_named l c)
    where
      by : (f : Option Branch) → KnowsCalls paths sent (on_branch (λ b. give_up (actor b.path) intents c) c f).part
      by None = knows
      by (Some b) = give_up_known (actor b.path) intents
  known_acts hd (input.Frame k from m) intents free other = knows
  known_acts hd input.Tick intents free other = knows
  known_acts hd input.Restart intents free other = knows
  known_acts hd input.Crash intents free other = knows
  known_acts hd (input.Show x) intents free other = knows

-- ---- an action begins

get_none : {A : Type 0} (xs : List A) (k : ℕ) → length xs ≤ k → slice_get xs k ≡ None
get_none [] k long = refl
get_none (x ∷ xs) zero long = absurd (let z = long in omega (arith, z))
get_none (x ∷ xs) (suc k) long = get_none xs k (omega (arith, long))

get_same : {A : Type 0} (a : A) (xs : List A) (k : ℕ) → k ≢ length xs → slice_get (xs ++ a ∷ []) k ≡ slice_get xs k
get_same a [] zero other = absurd (other refl)
get_same a [] (suc k) other = refl
get_same a (x ∷ xs) zero other = refl
get_same a (x ∷ xs) (suc k) other = get_same a xs k (λ same. other (ap suc same))

pub known_begins : (paths : Paths) (sent : List Post) (l : Label) (k : Kind) (parent : Option Label) (c : Coord) → length c.doings
    ≡ length c.tree.branches → KnowsCalls paths sent c → KnowsCalls paths sent (begin_action l k parent (parent_of parent c) c).part
known_begins paths sent l k parent c works knows =
    knows_of paths sent u (λ to q. ⊥) c v g (λ d at. absurd (fresh d at)) knows (knowing_on sent v.tree u (λ to q. ⊥) c v g
    (knowing_of paths sent v.tree u (λ to q. ⊥) c (λ w d. (stand_begins k p c.tree).ends w ending.Abort d) doom.doomed
    (λ w d m other at now f. doom.free w other f) (λ to q w same. fresh w.doing (ap (λ z. doing_of z c) (sym same) ∙ w.found)) knows))
    (λ to q o none. absurd none) (λ d s at now. absurd (not_idle (sym (here d at) ∙ now)))
    (λ d m at now. absurd (idle_not (sym (here d at) ∙ now))) (paths_same paths c v refl knows.said)
  where
    u : Uid
    u = next_uid c.tree

    p : Path
    p = path_below k (parent_of parent c) (next_uid c.tree)

    new : Doing
    new = record { label = l; req = 0; now = Idle; took = [] }

    v : Coord
    v = (begin_action l k parent (parent_of parent c) c).part

    doom : KeepsDoom (next_uid c.tree) c.tree (begin_action l k parent (parent_of parent c) c).part.tree
    doom = doom_begun (next_uid c.tree) k (path_below k (parent_of parent c) (next_uid c.tree)) c.tree

    itself : (n : ℕ) → (n == n) ≡ true
    itself n = grind arith

    own_new : is_own (next_uid c.tree) c.tree ≡ true
    own_new = λ i. itself c.tree.node i && itself c.tree.inc i

    place_new : (length c.tree.branches + 1) ≡ suc (length c.doings)
    place_new = omega (arith, works)

    fresh : (d : Doing) → doing_of (next_uid c.tree) c ≡ Some d → ⊥
    fresh d at = let q = doing_by (next_uid c.tree) c d at in let no_way : ◌≡◌ {A = Option Doing} None (Some d) = sym
        (ap (λ n. at_place n c.doings) place_new ∙ get_none c.doings (length c.doings) (omega arith)) ∙ q.1 in absurd (cc no_way)

    others : (w : Uid) → w ≢ next_uid c.tree → doing_of w (begin_action l k parent (parent_of parent c) c).part ≡ doing_of w c
    others w other = one (is_own w c.tree) refl
      where
        places : (n : ℕ) → (n ≡ length c.tree.branches + 1 → ⊥) → at_place n (c.doings ++ new ∷ []) ≡ at_place n c.doings
        places zero apart = refl
        places (suc n) apart = get_same new c.doings n (λ same. apart (ap suc same ∙ sym place_new))

        one : (b : Bool) → is_own w c.tree ≡ b → cond b (at_place w.num (c.doings ++ new ∷ [])) None ≡ cond b (at_place w.num c.doings) None
        one true own = places w.num (λ same. other (own_is w (next_uid c.tree) c.tree own own_new same))
        one false own = refl

    g : Goes v.tree (next_uid c.tree) c v
    g = goes_by v.tree (next_uid c.tree) c v refl (λ w. refl) others refl

    here : (d : Doing) → doing_of (next_uid c.tree) (begin_action l k parent (parent_of parent c) c).part ≡ Some d → d.now ≡ Idle
    here d at = ⊎_elim (λ old. absurd (never_there old)) (λ its. ap (λ (z : Doing). z.now) (sym its.1))
        (get_more (length c.doings) new d c.doings (sym (ap (λ n. at_place n (c.doings ++ new ∷ [])) place_new)
        ∙ sym (λ i. cond (own_new i) (at_place (length c.tree.branches + 1) (c.doings ++ new ∷ [])) None) ∙ at))
      where
        never_there : slice_get c.doings (length c.doings) ≡ Some d → ⊥
        never_there is = let no_way : ◌≡◌ {A = Option Doing} None (Some d) = sym (get_none c.doings (length c.doings) (omega arith)) ∙ is in
            absurd (cc no_way)
