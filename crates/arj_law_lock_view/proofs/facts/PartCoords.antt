-- Whatever a coordinator hears, does and begins, who is part of a commit stays so.
use Rattle.arj_law_parts.proofs.Words
use Words.{◌≡◌, ◌≢◌, ◌∙◌, ◌||◌, ℕ, zero, suc, List, [], ◌∷◌, ◌++◌, Bool, true, false, cond, Option, Some, None, refl, sym, ap, subst, inl}
use Words.{inr, ⊎_elim, is_some, slice_get, list_any, or_cases, or_parts, uid_is, Ask, Asked, Header, Kind, Label, Uid, is_on, uid_eq}
use Words.{uids_of, Reply, actor, again_all, again_now, begin_action, call, call_steps, commit_action, commit_open, commit_top, give_up}
use Words.{give_up_doing, gives_up, heard, heard_by, heard_call, heard_doing, heard_none, heard_now, include, kept_at, last_req}
use Words.{moved_commit, next_req, renewed, root_lost, root_moved, waits_for_call, waits_for_commit, Moved, Steps, answered, given_up}
use Words.{start, CommitStep, Decides, Machine, Plan, plan_of, servers_of, Calling, Committing, Coord, Doing, Idle, Now, doing_of, is_free}
use Words.{keeping_of, on_root, plan_for, root_at, with_keeping, Did, Intent, Served, abort_action, acked, acked_by, acked_left}
use Words.{aborts_with, at_uid, has, unbound, without_number, Input, acts, branch_named, call_reasons, commit_reasons, include_reasons}
use Words.{is_waiting, is_waiting_now, on_branch, parent_of, refusal_up, refused_by, sibling_waits, waits, waits_above, waits_below, Branch}
use Words.{at_place, branch_of, is_own, next_uid, open_below, path_below, root_of, uses_object}
use Words.cause
use Words.ending
use Words.kind
use Words.calls
use Words.commit
use Words.input
use Rattle.arj_law_lock_view.proofs.Terms
use Terms.{Action, IsAsking, IsBusy, IsGoodCoord, IsVoting, IsTree, Paths, on_own, behind, named_found, off, IsStepOf, actor_is}
use Terms.{answer_step, giveup_step, uses_same, vote_step, grown_still, IsPart}
use Rattle.arj_law_lock_view.proofs.facts
use facts.PartSteps.{StaysPart, StepsOn, answer_on, comes_on, giveup_on, part_all, part_aside, part_asked, part_ended, part_goes, part_step}
use facts.PartSteps.{part_step_call, part_then, part_tree}

some_is : {A : Type 0} {a b : A} → Some a ≡ Some b → a ≡ b
some_is {A} {a} {b} is = let k : ◌≡◌ {A = Option A} (Some a) (Some b) = is in cc

none_at : {A P : Type 0} {o : Option A} {x : A} → o ≡ None → o ≡ Some x → P
none_at {A} {P} {o} {x} none is = let no_way : ◌≡◌ {A = Option A} None (Some x) = sym none ∙ is in absurd (cc no_way)

never : {A : Type 0} {b : Bool} → b ≡ true → b ≡ false → A
never holds fails = let no_way : true ≡ false = sym holds ∙ fails in absurd (cc no_way)

-- what stands at a place stands there when more comes
get_on : {A : Type 0} (k : ℕ) (a x : A) (items : List A) → slice_get items k ≡ Some x → slice_get (items ++ a ∷ []) k ≡ Some x
get_on k a x [] is = none_at refl is
get_on zero a x (b ∷ items) is = is
get_on (suc k) a x (b ∷ items) is = get_on k a x items is

stays : (c : Coord) → StaysPart c c
stays c u to a is = is

-- ---- acknowledgements, and what is sent again

pub part_acked : (from : ℕ) (u : Uid) (intents : List (Uid × Intent)) (c : Coord) → StaysPart c (acked from u intents c).part
part_acked from u intents c = by (at_uid u c.telling)
  where
    left : (i : Intent) (ns : List ℕ) → StaysPart c (acked_left u i intents c ns).part
    left i [] = part_aside c (acked_left u i intents c []).part refl refl
    left i (n ∷ ns) = part_aside c (acked_left u i intents c (n ∷ ns)).part refl refl

    by : (o : Option Intent) → StaysPart c (acked_by from u intents c o).part
    by None = stays c
    by (Some i) = one (has i.nodes from)
      where
        one : (b : Bool) → StaysPart c (cond {A = Served Coord (Unit {0})} b (acked_left u i intents c (without_number from i.nodes))
            (record { part = c; outs = []; reply = None })).part
        one true = left i (without_number from i.nodes)
        one false = stays c

pub part_again : (ds : List Doing) (c : Coord) → StaysPart c (again_all ds c).part
part_again [] c = stays c
part_again (d ∷ ds) c = let t = again_now c d.now in part_then c t.part (again_all ds t.part).part (now d.now) (part_again ds t.part)
  where
    now : (q : Now) → StaysPart c (again_now c q).part
    now Idle = stays c
    now (Calling s) = part_aside c (again_now c (Calling s)).part refl refl
    now (Committing m) = part_asked (plan_of m).path (plan_of m).req (commit.waiting m) c

-- ---- a beginning

pub part_begins : (l : Label) (k : Kind) (parent : Option Label) (c : Coord) →
    StaysPart c (begin_action l k parent (parent_of parent c) c).part
part_begins l k parent c u to a is = by is
  where
    fresh : Doing
    fresh = record { label = l; req = 0; now = Idle; took = [] }

    place : (j : ℕ) (d : Doing) → at_place j c.doings ≡ Some d → at_place j (c.doings ++ fresh ∷ []) ≡ Some d
    place zero d at = none_at refl at
    place (suc j) d at = get_on j fresh d c.doings at

    works : (d : Doing) (b : Bool) → cond b (at_place u.num c.doings) None ≡ Some d →
        cond b (at_place u.num (c.doings ++ fresh ∷ [])) None ≡ Some d
    works d true at = place u.num d at
    works d false at = at

    by : IsPart c u to a → IsPart (begin_action l k parent (parent_of parent c) c).part u to a
    by (inl s) = inl
        (record { doing = s.doing; machine = s.machine; works = works s.doing (is_own u c.tree) s.works; now = s.now; sought = s.sought })
    by (inr h) = inr (record {
      branch = h.branch;
      doing = h.doing;
      found = grown_still k (path_below k (parent_of parent c) (next_uid c.tree)) c.tree u h.branch h.found;
      works = works h.doing (is_own u c.tree) h.works;
      ended = h.ended;
      took = h.took;
    })

-- ---- answers, inputs and giveups

module _ (actions : List Action) (paths : Paths) (tree : IsTree paths) (c : Coord) (good : IsGoodCoord actions paths c) where
  decides_who : (u : Uid) (p : Plan) (s : CommitStep) → actor p.path ≡ u → IsStepOf actions paths tree p s → (q : Plan) → s ≡ Decides q →
      actor q.path ≡ u
  decides_who u p (commit.Decides z) who same q is = ap actor (ap (λ (y : Plan). y.path) (sym (its is)) ∙ same.0) ∙ who
    where
      its : {x y : Plan} → Decides x ≡ Decides y → x ≡ y
      its e = cc e
  decides_who u p (commit.Stays z) who same q is = absurd (cc is)
  decides_who u p (commit.Asks z) who same q is = absurd (cc is)
  decides_who u p (commit.Aborts why z) who same q is = absurd (cc is)

  voting : (u : Uid) (d : Doing) (m : Machine) → doing_of u c ≡ Some d → d.now ≡ Committing m → actor (plan_of m).path ≡ u
  voting u d m found now = let v : IsVoting c.tree u (plan_of m) = subst (IsBusy c.tree u) now (good.busy u d found) in
      actor_is actions paths tree u (plan_of m).path c good v.asking

  calling : (u : Uid) (d : Doing) (s : Steps) → doing_of u c ≡ Some d → d.now ≡ Calling s → actor s.path ≡ u
  calling u d s found now = let v : IsAsking c.tree u s.path = subst (IsBusy c.tree u) now (good.busy u d found) in
      actor_is actions paths tree u s.path c good v

  -- who calls isn't at a commit
  apart : (u : Uid) (d : Doing) (s : Steps) → doing_of u c ≡ Some d → d.now ≡ Calling s → (e : Doing) (m : Machine) →
      doing_of (actor s.path) c ≡ Some e → e.now ≡ Committing m → ⊥
  apart u d s found now e m at is = not_both
      (sym now ∙ ap (λ (x : Doing). x.now) (some_is (sym found ∙ ap (λ v. doing_of v c) (sym (calling u d s found now)) ∙ at)) ∙ is)
    where
      not_both : Calling s ≡ Committing m → ⊥
      not_both same = cc same

  moved : (u : Uid) (d : Doing) (m : Machine) (s : CommitStep) (intents : List (Uid × Intent)) → doing_of u c ≡ Some d →
      d.now ≡ Committing m → StepsOn m s → IsStepOf actions paths tree (plan_of m) s →
      StaysPart c (moved_commit u (record { step = s; marks = [] }) intents c).part
  moved u d m s intents found now on of = part_step u s intents c good.busy (decides_who u (plan_of m) s (voting u d m found now) of)
      (comes_on c good.busy u d m found now s on)

  pub part_heard : (from : ℕ) (a : Asked) (r : Reply) (intents : List (Uid × Intent)) → StaysPart c (heard from a r intents c).part
  part_heard from a r intents = by (doing_of a.act c) refl
    where
      now : (d : Doing) → doing_of a.act c ≡ Some d → (q : Now) → d.now ≡ q → StaysPart c (heard_now from a r intents c q).part
      now d found Idle is = stays c
      now d found (Calling s) is = one (waits_for_call from a r s)
        where
          m : Moved
          m = answered (is_free (root_of s.path) (actor s.path) s.x c) (kept_at s c) s.goal s.at r

          e : Coord
          e = on_root (root_of s.path) (root_moved s r m) c

          one : (w : Bool) → StaysPart c (cond {A = Served Coord (Unit {0})} w (heard_by (heard_call s r c)) (heard_none c)).part
          one true = part_then c e (heard_call s r c).part (part_aside c e refl refl) (part_step_call s m.step e (apart a.act d s found is))
          one false = stays c
      now d found (Committing m) is = one (waits_for_commit from a r m)
        where
          one : (w : Bool) → StaysPart c (cond {A = Served Coord (Unit {0})} w
              (heard_by (moved_commit a.act (commit.answered from m r) intents c)) (heard_none c)).part
          one true = moved a.act d m (commit.answered from m r).step intents found is (answer_on from m r)
              (answer_step actions paths tree from m r)
          one false = stays c

      by : (o : Option Doing) → doing_of a.act c ≡ o → StaysPart c (heard_doing from a r intents c o).part
      by None is = stays c
      by (Some d) is = now d is d.now refl

  part_give_up : (u : Uid) (intents : List (Uid × Intent)) → StaysPart c (give_up u intents c).part
  part_give_up u intents = by (doing_of u c) refl
    where
      now : (d : Doing) → doing_of u c ≡ Some d → (q : Now) → d.now ≡ q → StaysPart c (gives_up u intents c q).part
      now d found Idle is = stays c
      now d found (Calling s) is =
          let e = on_root (root_of s.path) (root_lost s (given_up s.at)) c in
          part_then c e (gives_up u intents c (Calling s)).part (part_aside c e refl refl)
          (part_step_call s (given_up s.at) e (apart u d s found is))
      now d found (Committing m) is = moved u d m (commit.given_up m).step intents found is (giveup_on m) (giveup_step actions paths tree m)

      by : (o : Option Doing) → doing_of u c ≡ o → StaysPart c (give_up_doing u intents c o).part
      by None is = stays c
      by (Some d) is = now d is d.now refl

  -- who isn't refused is open, and isn't at a commit
  still : (b : Branch) → branch_of (actor b.path) c.tree ≡ Some b → waits_above b c ≡ false → (d : Doing) (m : Machine) →
      doing_of (actor b.path) c ≡ Some d → d.now ≡ Committing m → ⊥
  still b found up d m at is = never (ap is_waiting at ∙ ap is_waiting_now is) (quiet (uids_of b.path) up on_path)
    where
      on_path : is_on (uids_of b.path) (actor b.path) ≡ true
      on_path = on_own b.path

      quiet : (us : List Uid) → list_any (waits c) us ≡ false → is_on us (actor b.path) ≡ true → waits c (actor b.path) ≡ false
      quiet [] e on = absurd (cc on)
      quiet (x ∷ us) e on = let q = or_parts (waits c x) (list_any (waits c) us) e in ⊎_elim (λ same. ap (waits c) (sym (uid_is x
          (actor b.path) same)) ∙ q.0) (λ rest. quiet us q.1 rest) (or_cases (uid_eq x (actor b.path)) (is_on us (actor b.path)) on)

  not_part : (b : Branch) → branch_of (actor b.path) c.tree ≡ Some b → is_some b.ended ≡ false → waits_above b c ≡ false →
      (to : ℕ) (a : Ask) → IsPart c (actor b.path) to a → ⊥
  not_part b found opened up to a (inl s) = still b found up s.doing s.machine s.works s.now
  not_part b found opened up to a (inr h) = never h.ended (ap (λ (x : Branch). is_some x.ended) (some_is (sym h.found ∙ found)) ∙ opened)

  pub part_acts : (hd : Header) (i : Input) (intents : List (Uid × Intent)) → refusal_up hd i c ≡ None →
      ((l : Label) (k : Kind) (parent : Option Label) → i ≢ input.Begin l k parent) → StaysPart c (acts i intents c).part
  part_acts hd (input.Begin l q parent) intents none other = absurd (other l q parent refl)
  part_acts hd (input.Call l x o) intents none other = by (branch_named l c) refl none
    where
      by : (f : Option Branch) → branch_named l c ≡ f → refused_by (call_reasons hd x o) c f ≡ None →
          StaysPart c (on_branch (λ b. call b.path x o c) c f).part
      by None is e = stays c
      by (Some b) is e =
          let p = b.path in
          let r = root_at (root_of p) c in
          let old = keeping_of x r in
          let k = renewed (is_free (root_of p) (actor p) x c) old old.kept in
          let used : Coord = record c { tree = uses_object p x c.tree } in
          let t : Coord = on_root (root_of p) (with_keeping x k) used in
          let up = (or_parts (waits_above b c) (waits_below b c)
          (off (behind (call_reasons hd x o b c)) (off (call_reasons hd x o b c) e).1).0).0 in
          let same = uses_same p x c.tree in
          part_then c used (call p x o c).part (part_tree c (uses_object p x c.tree) same)
          (part_then used t (call p x o c).part (part_aside used t refl refl) (part_goes (call_steps p x o (next_req (actor p) c) r c k)
          t (λ d m at now. still b (named_found actions paths tree [] c good l b is) up d m
          ((λ i. cond (sym (same.own (actor p)) i) (at_place (actor p).num c.doings) None) ∙ at) now)))
  part_acts hd (input.Include l x s) intents none other = by (branch_named l c) refl none
    where
      by : (f : Option Branch) → branch_named l c ≡ f → refused_by (include_reasons hd x) c f ≡ None →
          StaysPart c (on_branch (λ b. include b.path x s c) c f).part
      by None is e = stays c
      by (Some b) is e =
          let p = b.path in
          let used : Coord = record c { tree = uses_object p x c.tree } in
          let up = (or_parts (waits_above b c) (waits_below b c)
          (off (behind (include_reasons hd x b c)) (off (include_reasons hd x b c) e).1).0).0 in
          let same = uses_same p x c.tree in
          part_then c used (include p x s c).part (part_tree c (uses_object p x c.tree) same) (part_goes (start p x (calls.Include s) None
          unbound (next_req (actor p) c)) used (λ d m at now. still b (named_found actions paths tree [] c good l b is) up d m
          ((λ i. cond (sym (same.own (actor p)) i) (at_place (actor p).num c.doings) None) ∙ at) now))
  part_acts hd (input.Commit l) intents none other = by (branch_named l c) refl none
    where
      by : (f : Option Branch) → branch_named l c ≡ f → refused_by commit_reasons c f ≡ None →
          StaysPart c (on_branch (λ b. commit_action b intents c) c f).part
      by None is e = stays c
      by (Some b) is e = doomed b.doomed
        where
          u : Uid
          u = actor b.path

          found : branch_of (actor b.path) c.tree ≡ Some b
          found = named_found actions paths tree [] c good l b is

          opened : is_some b.ended ≡ false
          opened = (off (commit_reasons b c) e).0

          up : waits_above b c ≡ false
          up = (or_parts (waits_above b c) (waits_below b c) (or_parts (waits_above b c || waits_below b c) (sibling_waits b c)
              (off (behind (commit_reasons b c)) (off (commit_reasons b c) e).1).0).0).0

          nobody : (to : ℕ) (a : Ask) → IsPart c u to a → ⊥
          nobody = not_part b found opened up

          plan : Plan
          plan = plan_for b.path (last_req (doing_of u c)) (root_at (root_of b.path) c) c

          top : StaysPart c (commit_top b.path intents c).part
          top = part_step u (commit.start plan).step intents c good.busy (decides_who u plan (commit.start plan).step refl
              (vote_step actions paths tree (servers_of plan) plan plan (refl, refl))) (λ to a part. absurd (nobody to a part))

          kinds : (q : Kind) → StaysPart c (commit_open b intents c q).part
          kinds kind.Nested = part_ended u ending.Commit c good.busy (λ same. nobody)
          kinds kind.Serial = part_ended u ending.Commit c good.busy (λ same. nobody)
          kinds kind.Top = top
          kinds kind.Independent = top
          kinds kind.Constituent = top

          doomed : (d : Bool) →
              StaysPart c (cond {A = Did Coord} d (aborts_with u cause.Doomed intents c) (commit_open b intents c b.kind)).part
          doomed true = part_ended u ending.Abort c good.busy (λ same. absurd (cc same))
          doomed false = kinds b.kind
  part_acts hd (input.Abort l) intents none other = by (branch_named l c)
    where
      by : (f : Option Branch) → StaysPart c (on_branch (λ b. abort_action (actor b.path) intents c) c f).part
      by None = stays c
      by (Some b) = part_all actions paths tree (open_below (actor b.path) c.tree ++ actor b.path ∷ []) c good.busy
  part_acts hd (input.GiveUp l) intents none other = by (branch_named l c)
    where
      by : (f : Option Branch) → StaysPart c (on_branch (λ b. give_up (actor b.path) intents c) c f).part
      by None = stays c
      by (Some b) = part_give_up (actor b.path) intents
  part_acts hd (input.Frame j from m) intents none other = stays c
  part_acts hd input.Tick intents none other = stays c
  part_acts hd input.Restart intents none other = stays c
  part_acts hd input.Crash intents none other = stays c
  part_acts hd (input.Show x) intents none other = stays c
