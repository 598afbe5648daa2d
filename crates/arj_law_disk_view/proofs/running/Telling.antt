-- What a coordinator tells again has its record, after each thing that it does.
use Rattle.arj_law_parts.proofs.Words
use Words.{◌≡◌, ◌≢◌, ℕ, List, [], ◌∷◌, ◌++◌, Bool, true, false, cond, Option, Some, None, refl, sym, ◌∙◌, ap, subst, ⊎_elim, append-nil}
use Words.{map, ◌&&◌, ◌||◌, if◌then◌else◌, is_some, not, match_ordering, nat_cmp, Ordering, Less, Equal, Greater, uid_cases, flat_map, Uid}
use Words.{End, Kind, Label, Body, Asked, Header, Reply, actor, call, call_steps, renewed, next_req, include, step_call, root_moved}
use Words.{kept_at, heard_call, commits_in, step_commit, moved_commit, mark_lines, gaveup_lines, commit_top, commit_open, commit_action}
use Words.{last_req, heard_now, heard_doing, heard, heard_by, heard_none, waits_for_call, waits_for_commit, root_lost, gives_up}
use Words.{give_up_doing, give_up, again_now, again_all, Moved, answered, given_up, next_node, start, Plan, CommitStep, Stays, Asks}
use Words.{Decides, Aborts, nodes_given_up, plan_of, servers_of, naming_node, participants, has_record, Coord, Doing, Now, Idle, Calling}
use Words.{Committing, doing_of, on_doing, on_root, root_at, plan_for, keeping_of, with_keeping, is_free, Did, Effect, Served, Do, Intent}
use Words.{PutIntent, ended, ends_with, aborts_with, all_aborted, abort_action, decide, decided_told, acked, acked_by, acked_left}
use Words.{root_after, says, tolds_let_go, tolds_of, at_uid, put_uid, without_uid, has, number_set, with_number, without_number, unbound}
use Words.{Input, acts, branch_named, on_branch, refusal_up, refused_by, commit_reasons, Branch, branch_of, root_of, open_below}
use Words.{has_open_child, is_empty, uses_object}
use Words.ending
use Words.body
use Words.kind
use Words.cause
use Words.calls
use Words.commit
use Words.input
use Rattle.arj_law_disk_view.proofs.Terms
use Terms.{Action, action_of, IsVoting, IsBusy, IsGoodCoord, Paths, IsTree, named_found, answer_step, giveup_step, vote_step, IsStepOf}
use Terms.{AreSorted, HaveRecords, IsRooted, LeavesRecords}
use Rattle.arj_law_disk_view.proofs.running
use running.Plain.{Plain, leaves_behind, plain_aborted, plain_asks, plain_both, plain_decided, plain_gaveup, plain_let_go, plain_marks}
use running.Plain.{plain_says, plain_step, plain_tolds_all, plain_tolds_of}
use Rattle.arj_law_parts.proofs.parts
use parts.{GoodCoords.voting_at}
use parts.CoordInputs.{off, off_third}
use parts.Tellings.{aborted_telling, asks_telling, doing_telling, ended_telling, goes_telling, step_telling}
use Rattle.arj_law_disk_view.proofs.view.Keys as keys

-- What a coordinator makes of its records: of whatever records suit what it tells again, those after its effects do again.
abbrev pub Keeps : List Action → Coord → Coord → List Effect → Type 0
Keeps actions c e outs = AreSorted c.telling → (intents : List (Uid × Intent)) → AreSorted intents → HaveRecords intents c.telling →
    AreSorted e.telling × LeavesRecords actions e.telling outs intents

module _ (actions : List Action) where
  -- nothing of it changes
  pub same_kept : (c e : Coord) (outs : List Effect) → e.telling ≡ c.telling → Plain outs → Keeps actions c e outs
  same_kept c e outs same plain sorted intents order held = (
    subst AreSorted (sym same) sorted,
    subst (λ es. LeavesRecords actions e.telling es intents) (append-nil outs)
        (leaves_behind actions e.telling outs [] intents plain (subst (λ t. HaveRecords intents t) (sym same) held)),
  )

  -- lines before
  lines_kept : (c e : Coord) (lines outs : List Effect) → Plain lines → Keeps actions c e outs → Keeps actions c e (lines ++ outs)
  lines_kept c e lines outs plain keeps sorted intents order held = let r = keeps sorted intents order held in
      (r.0, leaves_behind actions e.telling lines outs intents plain r.1)

  -- a record is written, and told again
  put_held : (u : Uid) (i : Intent) (intents telling : List (Uid × Intent)) → i.nodes ≢ [] → HaveRecords intents telling →
      HaveRecords (put_uid u i intents) (put_uid u i telling)
  put_held u i intents telling some held = record {
    told = λ w j is. ⊎_elim (λ same. (i, ap (λ z. at_uid z (put_uid u i intents)) same.0 ∙ keys.put_same u i intents))
        (λ other. let r = held.told w j other.1 in (r.0, keys.put_other w u i intents other.0 ∙ r.1)) (keys.put_cases w u i j telling is);
    again = λ w j is. ⊎_elim (λ same. (i, ap (λ z. at_uid z (put_uid u i telling)) same.0 ∙ keys.put_same u i telling))
        (λ other. let r = held.again w j other.1 in (r.0, keys.put_other w u i telling other.0 ∙ r.1)) (keys.put_cases w u i j intents is);
    awaited = λ w j is. ⊎_elim (λ same none. some (ap (λ (x : Intent). x.nodes) same.1 ∙ none)) (λ other. held.awaited w j other.1)
        (keys.put_cases w u i j telling is);
  }

  -- and it goes
  without_held : (u : Uid) (intents telling : List (Uid × Intent)) → AreSorted telling → AreSorted intents → HaveRecords intents telling →
      HaveRecords (without_uid u intents) (without_uid u telling)
  without_held u intents telling sorted order held = record {
    told = λ w j is. let p = keys.without_cases w u j telling sorted is in let r = held.told w j p.1 in
        (r.0, keys.without_other w u intents p.0 ∙ r.1);
    again = λ w j is. let p = keys.without_cases w u j intents order is in let r = held.again w j p.1 in
        (r.0, keys.without_other w u telling p.0 ∙ r.1);
    awaited = λ w j is. held.awaited w j (keys.without_cases w u j telling sorted is).1;
  }

  -- somebody takes part in a commit that has a record
  some_part : (p : Plan) → has_record p ≡ true → participants p ≢ []
  some_part p is none = by p.prepared (p.confirmed) is (set_none (servers_of p ++ p.prepared ++ naming_node p) none)
    where
      more_some : (n : ℕ) (ns : List ℕ) → with_number n ns ≢ []
      more_some n [] is = absurd (cc is)
      more_some n (m ∷ ms) is = one (nat_cmp n m) is
        where
          one : (r : Ordering) → match_ordering r (n ∷ m ∷ ms) (m ∷ ms) (m ∷ with_number n ms) ≡ [] → ⊥
          one Less is = absurd (cc is)
          one Equal is = absurd (cc is)
          one Greater is = absurd (cc is)

      set_none : (ns : List ℕ) → number_set ns ≡ [] → ns ≡ []
      set_none [] is = refl
      set_none (n ∷ ns) is = absurd (more_some n (number_set ns) is)

      last_none : (xs ys : List ℕ) → xs ++ ys ≡ [] → ys ≡ []
      last_none [] ys is = is
      last_none (x ∷ xs) ys is = absurd (cc is)

      first_none : (xs ys : List ℕ) → xs ++ ys ≡ [] → xs ≡ []
      first_none [] ys is = refl
      first_none (x ∷ xs) ys is = absurd (cc is)

      by : (ps : List ℕ) (b : Bool) → (not (is_empty ps) || (b && not (is_empty p.excluded
          && is_empty (commit.included_of p)))) ≡ true → servers_of p ++ ps ++ (if b then 1 ∷ [] else []) ≡ [] → ⊥
      by (n ∷ ns) b is none =
          absurd (cc (last_none (servers_of p) (n ∷ ns) (first_none (servers_of p ++ n ∷ ns) (if b then 1 ∷ [] else []) none)))
      by [] true is none = absurd (cc (last_none (servers_of p ++ []) (1 ∷ []) none))
      by [] false is none = absurd (cc is)

  -- ---- the decision

  module _ (paths : Paths) (tree : IsTree paths) where
    abbrev Good : Coord → Type 0
    Good c = IsGoodCoord actions paths c

    rooted : (u : Uid) (p : Plan) (c : Coord) → Good c → IsVoting c.tree u p →
        IsRooted actions u (record { root = root_of p.path; nodes = participants p })
    rooted u p c good v = (
      action_of v.asking.branch,
      good.known u v.asking.branch v.asking.found,
      good.tree.lists.places u v.asking.branch v.asking.found,
      ap root_of v.asking.path,
    )

    decide_kept : (u : Uid) (p : Plan) (c : Coord) → actor p.path ≡ u → Good c →
        IsRooted actions u (record { root = root_of p.path; nodes = participants p }) → Keeps actions c (decide p c).part (decide p c).outs
    decide_kept u p c its good root sorted intents order held = by (has_record p) refl
      where
        a : Uid
        a = actor p.path

        took : Coord
        took = on_doing (actor p.path) (λ (d : Doing). record d { took = participants p }) (ended (actor p.path) ending.Commit c)

        r : Coord
        r = on_root (root_of p.path) (root_after p) took

        same : r.telling ≡ c.telling
        same = doing_telling (actor p.path) (λ (d : Doing). record d { took = participants p }) (ended (actor p.path) ending.Commit c)
            ∙ ended_telling (actor p.path) c ending.Commit

        i : Intent
        i = record { root = root_of p.path; nodes = participants p }

        plain : Plain (says (actor p.path) body.Committed c ++ map (decided_told (root_of p.path) (actor p.path) p) p.sent)
        plain = plain_both (says (actor p.path) body.Committed c) (map (decided_told (root_of p.path) (actor p.path) p) p.sent)
            (plain_says (actor p.path) body.Committed c) (plain_decided (root_of p.path) (actor p.path) p p.sent)

        all_rest : (t d : List (Uid × Intent)) → HaveRecords d t →
            LeavesRecords actions t (says (actor p.path) body.Committed c ++ map (decided_told (root_of p.path) (actor p.path) p) p.sent) d
        all_rest t d h = subst (λ es. LeavesRecords actions t es d)
            (append-nil (says (actor p.path) body.Committed c ++ map (decided_told (root_of p.path) (actor p.path) p) p.sent))
            (leaves_behind actions t (says (actor p.path) body.Committed c ++ map (decided_told (root_of p.path) (actor p.path) p) p.sent)
            [] d plain h)

        by : (b : Bool) → has_record p ≡ b → let t =
            (if b then put_uid (actor p.path) (record { root = root_of p.path; nodes = participants p }) r.telling else r.telling) in
            AreSorted (let q = (if b then record r
            { telling = put_uid (actor p.path) (record { root = root_of p.path; nodes = participants p }) r.telling } else r) in
            q.telling)
            × LeavesRecords actions (let q = (if b then record r
            { telling = put_uid (actor p.path) (record { root = root_of p.path; nodes = participants p }) r.telling } else r) in
            q.telling)
            ((if b then Do (PutIntent (actor p.path) (record { root = root_of p.path; nodes = participants p })) ∷ [] else [])
            ++ says (actor p.path) body.Committed c ++ map (decided_told (root_of p.path) (actor p.path) p) p.sent) intents
        by true has_it = (
          keys.sorted_put (actor p.path) (record { root = root_of p.path; nodes = participants p }) r.telling
              (subst AreSorted (sym same) sorted),
          (
            (subst (λ w. IsRooted actions w (record { root = root_of p.path; nodes = participants p })) (sym its) root, some_part p has_it),
            all_rest (put_uid (actor p.path) (record { root = root_of p.path; nodes = participants p }) r.telling)
                (put_uid (actor p.path) (record { root = root_of p.path; nodes = participants p }) intents)
                (put_held (actor p.path) (record { root = root_of p.path; nodes = participants p }) intents r.telling (some_part p has_it)
                (subst (λ t. HaveRecords intents t) (sym same) held)),
          ),
        )
        by false none = (subst AreSorted (sym same) sorted, all_rest r.telling intents (subst (λ t. HaveRecords intents t) (sym same) held))

    end_kept : (u : Uid) (how : End) (line : Label → Body) (intents : List (Uid × Intent)) (c : Coord) →
        Keeps actions c (ends_with u how line intents c).part (ends_with u how line intents c).outs
    end_kept u how line intents c =
        same_kept c (ended u how c) (says u line c ++ tolds_of intents (ended u how c) u) (ended_telling u c how)
        (plain_both (says u line c) (tolds_of intents (ended u how c) u) (plain_says u line c) (plain_tolds_of intents (ended u how c) u))

    step_kept : (u : Uid) (p : Plan) (s : CommitStep) (intents : List (Uid × Intent)) (c : Coord) → IsVoting c.tree u p →
        IsStepOf actions paths tree p s → Good c → Keeps actions c (step_commit u s intents c).part (step_commit u s intents c).outs
    step_kept u p (Stays m) intents c v same good =
        same_kept c (commits_in u m c) [] (doing_telling u (λ (d : Doing). record d { req = (plan_of m).req; now = Committing m }) c) refl
    step_kept u p (Asks m) intents c v same good =
        same_kept c (step_commit u (Asks m) intents c).part (step_commit u (Asks m) intents c).outs
        (asks_telling (plan_of m).path (plan_of m).req (commit.waiting m) (commits_in u m c)
        ∙ doing_telling u (λ (d : Doing). record d { req = (plan_of m).req; now = Committing m }) c)
        (plain_asks (plan_of m).path (plan_of m).req (commit.waiting m) (commits_in u m c))
    step_kept u p (Decides q) intents c v same good =
        let r = rooted u p c good v in
        decide_kept u q c (ap actor same.0 ∙ ap actor (sym v.asking.path) ∙ good.tree.lists.places u v.asking.branch v.asking.found) good
        (r.0, r.1, r.2, r.3 ∙ ap root_of (sym same.0))
    step_kept u p (Aborts why q) intents c v same good = end_kept u ending.Abort (λ l. body.Aborted l why) intents c

    moved_kept : (u : Uid) (p : Plan) (m : commit.Marked) (intents : List (Uid × Intent)) (c : Coord) → IsVoting c.tree u p →
        IsStepOf actions paths tree p m.step → Good c → Keeps actions c (moved_commit u m intents c).part (moved_commit u m intents c).outs
    moved_kept u p m intents c v same good = lines_kept c (step_commit u m.step intents c).part (mark_lines u m.marks c)
        (step_commit u m.step intents c).outs (plain_marks u m.marks c) (step_kept u p m.step intents c v same good)

    -- ---- answers

    pub heard_kept : (from : ℕ) (a : Asked) (r : Reply) (intents : List (Uid × Intent)) (c : Coord) → Good c →
        let h = heard from a r intents c in Keeps actions c h.part h.outs
    heard_kept from a r intents c good = by (doing_of a.act c) refl
      where
        nothing : Keeps actions c c []
        nothing = same_kept c c [] refl refl

        now : (n : Now) → IsBusy c.tree a.act n → let h = heard_now from a r intents c n in Keeps actions c h.part h.outs
        now Idle b = nothing
        now (Calling s) b = one (waits_for_call from a r s)
          where
            m : Moved
            m = answered (is_free (root_of s.path) (actor s.path) s.x c) (kept_at s c) s.goal s.at r

            one : (w : Bool) → let h = cond {A = Served Coord (Unit {0})} w (heard_by (heard_call s r c)) (heard_none c) in
                Keeps actions c h.part h.outs
            one true = same_kept c (heard_call s r c).part (heard_call s r c).outs (step_telling s m.step
                (on_root (root_of s.path) (root_moved s r m) c)) (plain_step s m.step (on_root (root_of s.path) (root_moved s r m) c))
            one false = nothing
        now (Committing m) b = one (waits_for_commit from a r m)
          where
            one : (w : Bool) → let h = cond {A = Served Coord (Unit {0})} w
                (heard_by (moved_commit a.act (commit.answered from m r) intents c)) (heard_none c) in Keeps actions c h.part h.outs
            one true = moved_kept a.act (plan_of m) (commit.answered from m r) intents c b (answer_step actions paths tree from m r) good
            one false = nothing

        by : (o : Option Doing) → doing_of a.act c ≡ o → let h = heard_doing from a r intents c o in Keeps actions c h.part h.outs
        by None is = nothing
        by (Some d) is = now d.now (good.busy a.act d is)

    give_up_kept : (u : Uid) (intents : List (Uid × Intent)) (c : Coord) → Good c →
        Keeps actions c (give_up u intents c).part (give_up u intents c).outs
    give_up_kept u intents c good = by (doing_of u c) refl
      where
        now : (n : Now) → IsBusy c.tree u n → Keeps actions c (gives_up u intents c n).part (gives_up u intents c n).outs
        now Idle b = same_kept c c [] refl refl
        now (Calling s) b = lines_kept c (gives_up u intents c (Calling s)).part (gaveup_lines u (next_node s ∷ []) c) (step_call s
            (given_up s.at) (on_root (root_of s.path) (root_lost s (given_up s.at)) c)).outs (plain_gaveup u (next_node s ∷ []) c)
            (same_kept c (gives_up u intents c (Calling s)).part (step_call s (given_up s.at) (on_root (root_of s.path) (root_lost s
            (given_up s.at)) c)).outs (step_telling s (given_up s.at) (on_root (root_of s.path) (root_lost s (given_up s.at)) c))
            (plain_step s (given_up s.at) (on_root (root_of s.path) (root_lost s (given_up s.at)) c)))
        now (Committing m) b = lines_kept c (gives_up u intents c (Committing m)).part (gaveup_lines u (nodes_given_up m) c)
            (moved_commit u (commit.given_up m) intents c).outs (plain_gaveup u (nodes_given_up m) c)
            (moved_kept u (plan_of m) (commit.given_up m) intents c b (giveup_step actions paths tree m) good)

        by : (o : Option Doing) → doing_of u c ≡ o → Keeps actions c (give_up_doing u intents c o).part (give_up_doing u intents c o).outs
        by None is = same_kept c c [] refl refl
        by (Some d) is = now d.now (good.busy u d is)

    commit_kept : (b : Branch) (intents : List (Uid × Intent)) (c : Coord) → branch_of (actor b.path) c.tree ≡ Some b →
        is_some b.ended ≡ false → has_open_child (actor b.path) c.tree ≡ false → Good c →
        Keeps actions c (commit_action b intents c).part (commit_action b intents c).outs
    commit_kept b intents c found opened none good = by b.doomed
      where
        u : Uid
        u = actor b.path

        plan : Plan
        plan = plan_for b.path (last_req (doing_of u c)) (root_at (root_of b.path) c) c

        top : b.kind ≢ kind.Serial → b.kind ≢ kind.Nested →
            Keeps actions c (commit_top b.path intents c).part (commit_top b.path intents c).outs
        top unserial unnested = lines_kept c (commit_top b.path intents c).part (says (actor b.path) body.Committing c)
            (moved_commit (actor b.path) (commit.start plan) intents c).outs (plain_says (actor b.path) body.Committing c)
            (moved_kept u plan (commit.start plan) intents c (voting_at actions paths tree b c found opened none unserial unnested good)
            (vote_step actions paths tree (servers_of plan) plan plan (refl, refl)) good)

        kinds : (k : Kind) → b.kind ≡ k → Keeps actions c (commit_open b intents c k).part (commit_open b intents c k).outs
        kinds kind.Nested is = end_kept u ending.Commit body.Committed intents c
        kinds kind.Serial is = end_kept u ending.Commit body.Ended intents c
        kinds kind.Top is =
            top (λ e. let no_way : kind.Top ≡ kind.Serial = sym is ∙ e in cc) (λ e. let no_way : kind.Top ≡ kind.Nested = sym is ∙ e in cc)
        kinds kind.Independent is = top (λ e. let no_way : kind.Independent ≡ kind.Serial = sym is ∙ e in
            cc) (λ e. let no_way : kind.Independent ≡ kind.Nested = sym is ∙ e in cc)
        kinds kind.Constituent is = top (λ e. let no_way : kind.Constituent ≡ kind.Serial = sym is ∙ e in
            cc) (λ e. let no_way : kind.Constituent ≡ kind.Nested = sym is ∙ e in cc)

        by : (d : Bool) → let t = cond {A = Did Coord} d (aborts_with u cause.Doomed intents c) (commit_open b intents c b.kind) in
            Keeps actions c t.part t.outs
        by true = end_kept u ending.Abort (λ l. body.Aborted l cause.Doomed) intents c
        by false = kinds b.kind refl

    -- ---- inputs

    pub acts_kept : (intents : List (Uid × Intent)) (c : Coord) → Good c → (hd : Header) (i : Input) → refusal_up hd i c ≡ None →
        let t = acts i intents c in Keeps actions c t.part t.outs
    acts_kept intents c good hd (input.Begin l k parent) none =
        same_kept c (acts (input.Begin l k parent) intents c).part (acts (input.Begin l k parent) intents c).outs refl refl
    acts_kept intents c good hd (input.Call l x o) none = by (branch_named l c)
      where
        by : (f : Option Branch) → let t = on_branch (λ b. call b.path x o c) c f in Keeps actions c t.part t.outs
        by None = same_kept c c [] refl refl
        by (Some b) =
            let r = root_at (root_of b.path) c in
            let old = keeping_of x r in
            let k = renewed (is_free (root_of b.path) (actor b.path) x c) old old.kept in
            let t : Coord = on_root (root_of b.path) (with_keeping x k) (record c { tree = uses_object b.path x c.tree }) in
            same_kept c (call b.path x o c).part (call b.path x o c).outs
            (goes_telling (call_steps b.path x o (next_req (actor b.path) c) r c k) t) refl
    acts_kept intents c good hd (input.Include l x s) none = by (branch_named l c)
      where
        by : (f : Option Branch) → let t = on_branch (λ b. include b.path x s c) c f in Keeps actions c t.part t.outs
        by None = same_kept c c [] refl refl
        by (Some b) = same_kept c (include b.path x s c).part (include b.path x s c).outs (goes_telling (start b.path x (calls.Include s)
            None unbound (next_req (actor b.path) c)) (record c { tree = uses_object b.path x c.tree })) refl
    acts_kept intents c good hd (input.Commit l) none = by (branch_named l c) refl none
      where
        by : (f : Option Branch) → branch_named l c ≡ f → refused_by commit_reasons c f ≡ None →
            let t = on_branch (λ b. commit_action b intents c) c f in Keeps actions c t.part t.outs
        by None is e = same_kept c c [] refl refl
        by (Some b) is e =
            let r6 : is_some b.ended ≡ false = (off (commit_reasons b c) e).0 in
            let r9 : has_open_child (actor b.path) c.tree ≡ false = off_third (commit_reasons b c) e in
            commit_kept b intents c (named_found actions paths tree intents c good l b is) r6 r9 good
    acts_kept intents c good hd (input.Abort l) none = by (branch_named l c)
      where
        by : (f : Option Branch) → let t = on_branch (λ b. abort_action (actor b.path) intents c) c f in Keeps actions c t.part t.outs
        by None = same_kept c c [] refl refl
        by (Some b) =
            let us = open_below (actor b.path) c.tree ++ actor b.path ∷ [] in
            let t = all_aborted us c in
            same_kept c t.part (t.outs ++ flat_map (tolds_of intents t.part) us) (aborted_telling us c)
            (plain_both t.outs (flat_map (tolds_of intents t.part) us) (plain_aborted us c) (plain_tolds_all intents t.part us))
    acts_kept intents c good hd (input.GiveUp l) none = by (branch_named l c)
      where
        by : (f : Option Branch) → let t = on_branch (λ b. give_up (actor b.path) intents c) c f in Keeps actions c t.part t.outs
        by None = same_kept c c [] refl refl
        by (Some b) = give_up_kept (actor b.path) intents c good
    acts_kept intents c good hd (input.Frame k from m) none = same_kept c c [] refl refl
    acts_kept intents c good hd input.Tick none = same_kept c c [] refl refl
    acts_kept intents c good hd input.Restart none = same_kept c c [] refl refl
    acts_kept intents c good hd input.Crash none = same_kept c c [] refl refl
    acts_kept intents c good hd (input.Show x) none = same_kept c c [] refl refl

  -- ---- acknowledgements

  pub acked_kept : (from : ℕ) (u : Uid) (intents : List (Uid × Intent)) (c : Coord) → let a = acked from u intents c in
      Keeps actions c a.part a.outs
  acked_kept from u intents c = by (at_uid u c.telling) refl
    where
      -- the record stays
      still : (i : Intent) → at_uid u c.telling ≡ Some i → (j : Intent) (d : List (Uid × Intent)) → j.nodes ≢ [] → HaveRecords d c.telling →
          HaveRecords d (put_uid u j c.telling)
      still i is j d some held = record {
        told = λ w q found. ⊎_elim (λ same. let r = held.told u i is in
            (r.0, ap (λ z. at_uid z d) same.0 ∙ r.1)) (λ other. held.told w q other.1) (keys.put_cases w u j q c.telling found);
        again = λ w q found. ⊎_elim (λ same. (j, ap (λ z. at_uid z (put_uid u j c.telling)) same ∙ keys.put_same u j c.telling))
            (λ other. let r = held.again w q found in (r.0, keys.put_other w u j c.telling other ∙ r.1)) (uid_cases w u);
        awaited = λ w q found. ⊎_elim (λ same none. some (ap (λ (x : Intent). x.nodes) same.1 ∙ none)) (λ other. held.awaited w q other.1)
            (keys.put_cases w u j q c.telling found);
      }

      left : (i : Intent) → at_uid u c.telling ≡ Some i → (ns : List ℕ) → let a = acked_left u i intents c ns in
          Keeps actions c a.part a.outs
      left i is [] sorted d order held = (
        keys.sorted_without u c.telling sorted,
        (
          tt,
          subst (λ es. LeavesRecords actions (without_uid u c.telling) es (without_uid u d))
              (append-nil (tolds_let_go u (without_uid u intents) c (at_uid u intents)))
              (leaves_behind actions (without_uid u c.telling) (tolds_let_go u (without_uid u intents) c (at_uid u intents)) [] (without_uid
              u d) (plain_let_go u (without_uid u intents) c (at_uid u intents)) (without_held u d c.telling sorted order held)),
        ),
      )
      left i is (n ∷ ns) sorted d order held = (
        keys.sorted_put u (record i { nodes = n ∷ ns }) c.telling sorted,
        still i is (record i { nodes = n ∷ ns }) d (λ none. absurd (cc none)) held,
      )

      by : (o : Option Intent) → at_uid u c.telling ≡ o → let a = acked_by from u intents c o in Keeps actions c a.part a.outs
      by None is = same_kept c c [] refl refl
      by (Some i) is = one (has i.nodes from)
        where
          one : (b : Bool) → let a = cond {A = Served Coord (Unit {0})} b (acked_left u i intents c (without_number from i.nodes))
              (record { part = c; outs = []; reply = None }) in Keeps actions c a.part a.outs
          one true = left i is (without_number from i.nodes)
          one false = same_kept c c [] refl refl

  -- ---- a tick

  pub again_telling : (ds : List Doing) (c : Coord) → (let t = again_all ds c in let e = t.part in e.telling) ≡ c.telling
  again_telling [] c = refl
  again_telling (d ∷ ds) c = let t = again_now c d.now in again_telling ds t.part ∙ now d.now
    where
      now : (n : Now) → (let x = again_now c n in let e = x.part in e.telling) ≡ c.telling
      now Idle = refl
      now (Calling s) = refl
      now (Committing m) = asks_telling (plan_of m).path (plan_of m).req (commit.waiting m) c

  pub again_plain : (ds : List Doing) (c : Coord) → Plain (again_all ds c).outs
  again_plain [] c = refl
  again_plain (d ∷ ds) c = let t = again_now c d.now in plain_both t.outs (again_all ds t.part).outs (now d.now) (again_plain ds t.part)
    where
      now : (n : Now) → Plain (again_now c n).outs
      now Idle = refl
      now (Calling s) = refl
      now (Committing m) = plain_asks (plan_of m).path (plan_of m).req (commit.waiting m) c
