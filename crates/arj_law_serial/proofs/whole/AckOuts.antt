-- What a coordinator does with its records where it hears, acts and asks again: it tells as they stand, or writes one first, of a top that
-- it decides.
use Rattle.arj_law_parts.proofs.Words
use Words.{◌≡◌, ◌≢◌, ◌∙◌, ◌+◌, ◌==◌, ◌&&◌, arith, ℕ, List, [], ◌∷◌, ◌++◌, length, map, filter, Bool, true, false, cond, not, Option, Some}
use Words.{None, refl, sym, ap, subst, ⊎_elim, ⊤, is_some, if◌then◌else◌, AllByRecursion, flat_map, and_parts, append_assoc, in_filter, Ask}
use Words.{Asked, Body, End, Header, Kind, Label, Path, Uid, Reply, actor, again_all, again_now, asks_all, asks_node, asks_step, call}
use Words.{call_steps, commit_action, commit_open, commit_top, commits_in, gaveup_lines, give_up, give_up_doing, gives_up, goes_on, heard}
use Words.{heard_by, heard_call, heard_doing, heard_none, heard_now, include, kept_at, last_req, mark_lines, moved_commit, next_req}
use Words.{renewed, root_lost, root_moved, step_call, step_commit, waits_for_call, waits_for_commit, end_line, CallStep, Ended, Moved, On}
use Words.{Steps, answered, given_up, next_ask, next_node, start, Aborts, Asks, CommitStep, Decides, Marked, Plan, Stays, has_record}
use Words.{nodes_given_up, participants, plan_of, servers_of, waiting, Calling, Committing, Coord, Doing, Idle, Now, doing_of, is_free}
use Words.{keeping_of, on_doing, on_root, plan_for, root_at, with_keeping, Did, Do, Effect, Intent, PutIntent, Say, Send, Served}
use Words.{abort_action, aborts_with, all_aborted, decide, ended, ends_with, root_after, say_for, says, tell, tolds_of, at_uid, has}
use Words.{put_uid, unbound, Input, acts, branch_named, commit_reasons, abort_reasons, on_branch, refusal_up, refused_by, Branch, at_place}
use Words.{branch_of, ends_of, has_open_child, is_open_below, open_below, root_of, uses_object}
use Words.list
use Words.body
use Words.cause
use Words.ending
use Words.kind
use Words.calls
use Words.commit
use Words.input
use Rattle.arj_law_serial.proofs.Terms
use Terms.{Action, AreBegun, action_of, paths_of, IsBusy, IsVoting, IsTree, named_found, off, off_third, IsDecided, IsStepOf, actor_is}
use Terms.{answer_step, giveup_step, on_tree, vote_step, voting_at, work_there, doing_here, IsRooted}
use Terms.keys
use Rattle.arj_law_lock_view.proofs.view.OneSteps.{end_changed}
use Rattle.arj_law_parts.proofs.parts
use parts.GoodTrees.{in_latest, in_more, placed}
use parts.Tellings.{aborted_telling, asks_telling, doing_telling, ended_telling, goes_telling, step_telling}
use Rattle.arj_law_serial.proofs.whole
use whole.AckTells.{AllTell, Teller, TellSo, Unlisted, abort_so, commit_so, known, open_none, own_home, plain_unlisted, request_so}
use whole.AckTells.{tell_both, tell_flat, tell_lines, tell_map, tolds_so}
use Rattle.arj_protocol.specs.Tree.{is_below}

some_is : {A : Type 0} {a b : A} → Some a ≡ Some b → a ≡ b
some_is {A} {a} {b} is = let k : ◌≡◌ {A = Option A} (Some a) (Some b) = is in cc

never : {A : Type 0} {b : Bool} → b ≡ true → b ≡ false → A
never a b = let no_way : true ≡ false = sym a ∙ b in absurd (cc no_way)

-- ---- lines

abbrev pub IsLine : Effect → Type 0
IsLine (Say b) = ⊤
IsLine _ = ⊥

abbrev pub AreLines : List Effect → Type 0
AreLines outs = AllByRecursion IsLine outs

lines_both : (xs ys : List Effect) → AreLines xs → AreLines ys → AreLines (xs ++ ys)
lines_both [] ys a b = b
lines_both (x ∷ xs) ys a b = (a.0, lines_both xs ys a.1 b)

says_lines : (u : Uid) (f : Label → Body) (c : Coord) → AreLines (says u f c)
says_lines u f c = by (doing_of u c)
  where
    by : (o : Option Doing) → AreLines (say_for f o)
    by None = tt
    by (Some x) = (tt, tt)

flat_lines : {A : Type 0} (u : Uid) (f : A → Label → Body) (c : Coord) (items : List A) →
    AreLines (flat_map (λ (a : A). says u (f a) c) items)
flat_lines u f c [] = tt
flat_lines u f c (a ∷ items) =
    lines_both (says u (f a) c) (flat_map (λ a. says u (f a) c) items) (says_lines u (f a) c) (flat_lines u f c items)

-- ---- what a step does

-- A record is written: of a top that was open, with those who took part.
pub record IsPut (c e : Coord) (u : Uid) (i : Intent) : Type 0 where
  pub branch : Branch
  pub found : branch_of u c.tree ≡ Some branch
  pub opened : is_some branch.ended ≡ false
  pub doing : Doing
  pub works : doing_of u e ≡ Some doing
  pub idle : doing.now ≡ Idle
  pub took : doing.took ≡ i.nodes
  pub ended : IsDecided u ending.Commit e.tree

module _ (begun : List Action) (all : AreBegun begun) (tree : IsTree (paths_of begun)) (k : ℕ) (intents : List (Uid × Intent))
    (rooted : (u : Uid) (i : Intent) → at_uid u intents ≡ Some i → IsRooted begun u i) where
  abbrev Fine : List Effect → Type 0
  Fine outs = AllTell begun all k intents outs

  abbrev Knows : Coord → Type 0
  Knows c = Teller begun all k intents c

  pub data Stepped (c e : Coord) (outs : List Effect) : Type 0 where
    Plainly : e.telling ≡ c.telling → Fine outs → Stepped c e outs
    Puts : (lines : List Effect) (u : Uid) (i : Intent) (rest : List Effect) → outs ≡ lines ++ Do (PutIntent u i) ∷ rest → AreLines lines →
        AllTell begun all k (put_uid u i intents) rest → e.telling ≡ put_uid u i c.telling → IsPut c e u i → Stepped c e outs

  fine_lines : (lines : List Effect) → AreLines lines → Fine lines
  fine_lines [] all_say = tt
  fine_lines (Say b ∷ es) all_say = (tt, fine_lines es all_say.1)
  fine_lines (Do w ∷ es) all_say = absurd all_say.0
  fine_lines (Send to m ∷ es) all_say = absurd all_say.0

  -- lines before
  before : (c e : Coord) (lines outs : List Effect) → AreLines lines → Stepped c e outs → Stepped c e (lines ++ outs)
  before c e lines outs say (Plainly same fine) = Plainly same (tell_both begun all k intents lines outs (fine_lines lines say) fine)
  before c e lines outs say (Puts more u i rest is said fine same put) = Puts (lines ++ more) u i rest
      (ap (λ es. lines ++ es) is ∙ sym (append_assoc lines more (Do (PutIntent u i) ∷ rest))) (lines_both lines more say said) fine same put

  -- ---- the decision

  module _ (p : Plan) (c : Coord) (knows : Knows c) (b : Branch) (d : Doing) (found : branch_of (actor p.path) c.tree ≡ Some b)
      (opened : is_some b.ended ≡ false) (plain : b.kind ≢ kind.Serial) (works : doing_of (actor p.path) c ≡ Some d) where
    abbrev u : Uid
    u = actor p.path

    abbrev i : Intent
    i = record { root = root_of p.path; nodes = participants p }

    abbrev took : Coord
    took = on_doing (actor p.path) (λ (d : Doing). record d { took = participants p }) (ended (actor p.path) ending.Commit c)

    abbrev r : Coord
    r = on_root (root_of p.path) (root_after p) took

    same : r.telling ≡ c.telling
    same = doing_telling (actor p.path) (λ (d : Doing). record d { took = participants p }) (ended (actor p.path) ending.Commit c)
        ∙ ended_telling (actor p.path) c ending.Commit

    work : doing_of (actor p.path) took ≡ Some (record d { now = Idle; took = participants p })
    work = doing_here (actor p.path) (λ (d : Doing). record d { took = participants p }) (ended (actor p.path) ending.Commit c)
        (record d { now = Idle }) (let o = end_changed c (actor p.path) b d found works ending.Commit in o.doing)

    home : u.node ≡ k
    home = own_home begun all k intents c knows u b found

    -- whom it tells, where a record lists nobody but those who take part
    tolds : (js : List (Uid × Intent)) (ack : Bool) → (ack ≡ true → (j : Intent) × (at_uid u js ≡ Some j)) →
        ((n : ℕ) (j : Intent) → has (participants p) n ≡ false → at_uid u js ≡ Some j → has j.nodes n ≡ true → ⊥)
        → AllTell begun all k js (map (λ n. cond (has (participants p) n) (tell (root_of p.path) ack ((u, ending.Commit) ∷ []) n)
        (tell (root_of p.path) false ((u, ending.Abort) ∷ []) n)) p.sent)
    tolds js ack has_it none = tell_map begun all k js (λ n. cond (has (participants p) n) (tell (root_of p.path) ack ((u, ending.Commit)
        ∷ []) n) (tell (root_of p.path) false ((u, ending.Abort) ∷ []) n)) p.sent (λ n z. one n (has (participants p) n) refl)
      where
        one : (n : ℕ) (t : Bool) → has (participants p) n ≡ t → TellSo begun all k js
            (cond t (tell (root_of p.path) ack ((u, ending.Commit) ∷ []) n) (tell (root_of p.path) false ((u, ending.Abort) ∷ []) n))
        one n true on = commit_so begun all k js (root_of p.path) u ack n home has_it
        one n false isnt =
            let z = known begun all k intents c knows u b found in
            abort_so begun all k js (root_of p.path) u n home (subst (λ w. Unlisted begun all k js w n) z.1 (plain_unlisted begun all k js
            (action_of b) n z.0 plain (λ j at on. none n j isnt (ap (λ w. at_uid w js) (sym z.1) ∙ at) on)))

    abbrev outs_by : Bool → List Effect
    outs_by t = (if t then Do (PutIntent (actor p.path) (record { root = root_of p.path; nodes = participants p })) ∷ [] else [])
        ++ says (actor p.path) body.Committed c ++ map (λ n. cond (has (participants p) n)
        (tell (root_of p.path) t ((u, ending.Commit) ∷ []) n) (tell (root_of p.path) false ((u, ending.Abort) ∷ []) n)) p.sent

    abbrev part_by : Bool → Coord
    part_by t =
        if t then record r { telling = put_uid (actor p.path) (record { root = root_of p.path; nodes = participants p }) r.telling } else r

    decide_by : (t : Bool) → Stepped c (part_by t) (outs_by t)
    decide_by true = Puts [] u i (says u body.Committed c ++ map (λ n. cond (has (participants p) n)
        (tell (root_of p.path) true ((u, ending.Commit) ∷ []) n) (tell (root_of p.path) false ((u, ending.Abort) ∷ []) n)) p.sent) refl tt
        (tell_both begun all k (put_uid u i intents) (says u body.Committed c) (map (λ n. cond (has (participants p) n)
        (tell (root_of p.path) true ((u, ending.Commit) ∷ []) n) (tell (root_of p.path) false ((u, ending.Abort) ∷ []) n)) p.sent)
        (tell_lines begun all k (put_uid u i intents) u body.Committed c)
        (tolds (put_uid u i intents) true (λ is. (i, keys.put_same u i intents))
        (λ n j off at on. never (ap (λ (z : Intent). has z.nodes n) (some_is (sym (keys.put_same u i intents) ∙ at)) ∙ on) off)))
        (ap (put_uid u i) same) (record {
          branch = b;
          found = found;
          opened = opened;
          doing = record d { now = Idle; took = participants p };
          works = work;
          idle = refl;
          took = refl;
          ended = (
            record b { ended = Some ending.Commit },
            ap (branch_of u) (on_tree u (λ (d : Doing). record d { took = participants p }) (ended u ending.Commit c))
                ∙ (let o = end_changed c (actor p.path) b d found works ending.Commit in o.branch),
            refl,
          );
        })
    decide_by false = Plainly same (tell_both begun all k intents (says u body.Committed c) (map (λ n. cond (has (participants p) n)
        (tell (root_of p.path) false ((u, ending.Commit) ∷ []) n) (tell (root_of p.path) false ((u, ending.Abort) ∷ []) n)) p.sent)
        (tell_lines begun all k intents u body.Committed c)
        (tolds intents false (λ is. absurd (cc is)) (λ n j off at on. open_none begun all k intents c knows u b j found opened at)))

    decide_stepped : Stepped c (decide p c).part (decide p c).outs
    decide_stepped = decide_by (has_record p)

  -- ---- ends

  ends_stepped : (u : Uid) (how : End) (f : Label → Body) (c : Coord) → Knows c → (b : Branch) → branch_of u c.tree ≡ Some b →
      is_some b.ended ≡ false → Knows (ended u how c) → Stepped c (ends_with u how f intents c).part (ends_with u how f intents c).outs
  ends_stepped u how f c knows b found opened now = Plainly (ended_telling u c how)
      (tell_both begun all k intents (says u f c) (tolds_of intents (ended u how c) u) (tell_lines begun all k intents u f c)
      (tolds_so begun all k intents rooted (ended u how c) now u (λ i at. open_none begun all k intents c knows u b i found opened at)))

  abort_stepped : (u : Uid) (c : Coord) → Knows c → (b : Branch) → branch_of u c.tree ≡ Some b → is_some b.ended ≡ false →
      Knows (abort_action u intents c).part → Stepped c (abort_action u intents c).part (abort_action u intents c).outs
  abort_stepped u c knows b found opened now = Plainly (aborted_telling us c)
      (tell_both begun all k intents t.outs (flat_map (tolds_of intents t.part) us) (fine_lines t.outs (lines us c))
      (tell_flat begun all k intents (tolds_of intents t.part) us (λ w j. tolds_so begun all k intents rooted t.part now w (none w j))))
    where
      us : List Uid
      us = open_below u c.tree ++ u ∷ []

      t : Did Coord
      t = all_aborted us c

      lines : (ws : List Uid) (e : Coord) → AreLines (all_aborted ws e).outs
      lines [] e = tt
      lines (w ∷ ws) e = lines_both (says w (λ l. body.Aborted l cause.Asked) e) (all_aborted ws (ended w ending.Abort e)).outs
          (says_lines w (λ l. body.Aborted l cause.Asked) e) (lines ws (ended w ending.Abort e))

      itself : (n : ℕ) → (n == n) ≡ true
      itself n = grind arith

      off_some : (x : Bool) → not x ≡ true → x ≡ false
      off_some true is = absurd (cc is)
      off_some false is = refl

      -- a branch of the list is found by its Uid
      listed : (q : Branch) → list.In q c.tree.branches → branch_of (actor q.path) c.tree ≡ Some q
      listed q j =
          let s = placed q c.tree.branches j in
          let w : Uid = record { node = c.tree.node; inc = c.tree.inc; num = s.0 } in
          let here : branch_of w c.tree ≡ Some q =
          (λ z. cond (itself c.tree.node z && itself c.tree.inc z) (at_place s.0 c.tree.branches) None) ∙ s.1 in
          ap (λ v. branch_of v c.tree) (knows.good.tree.lists.places w q here) ∙ here

      none : (w : Uid) → list.In w us → (i : Intent) → at_uid w intents ≡ Some i → ⊥
      none w j i at = ⊎_elim (λ below. ⊎_elim (λ none_in. absurd none_in) (λ f. of_open f.0 f.1 f.2)
          (in_latest w (filter (is_open_below u) c.tree.branches) [] below)) (λ same. open_none begun all k intents c knows u b i found
          opened (ap (λ z. at_uid z intents) same ∙ at)) (in_more w (open_below u c.tree) u j)
        where
          of_open : (q : Branch) → list.In q (filter (is_open_below u) c.tree.branches) → actor q.path ≡ w → ⊥
          of_open q l same =
              let f = in_filter (is_open_below u) q c.tree.branches l in
              open_none begun all k intents c knows w q i (ap (λ v. branch_of v c.tree) (sym same) ∙ listed q f.0)
              (off_some (is_some q.ended) (and_parts (is_below u q) (not (is_some q.ended)) f.1).1) at

  -- ---- calls and commits

  asks_fine : (p : Path) (req : ℕ) (as_asked : List (ℕ × Ask)) (c : Coord) → Fine (asks_all p req as_asked c).outs
  asks_fine p req [] c = tt
  asks_fine p req (a ∷ rest) c =
      (request_so begun all k intents a.0 (record { path = p; req = req }) a.1, asks_fine p req rest (asks_node p req a c).part)

  step_fine : (s : Steps) (c : Coord) → Fine (asks_step s c).outs
  step_fine s c = (
    request_so begun all k intents (next_node s) (record { path = s.path; req = s.req }) (next_ask (ends_of (root_of s.path) c.tree) s),
    tt,
  )

  goes_stepped : (s : Steps) (c e : Coord) → e.telling ≡ c.telling → Stepped c (goes_on s e).part (goes_on s e).outs
  goes_stepped s c e same =
      Plainly (goes_telling s e ∙ same) (step_fine s (on_doing (actor s.path) (λ (d : Doing). record d { req = s.req; now = Calling s }) e))

  call_stepped : (s : Steps) (n : CallStep) (c e : Coord) → e.telling ≡ c.telling → Stepped c (step_call s n e).part (step_call s n e).outs
  call_stepped s (On at) c e same = Plainly (step_telling s (On at) e ∙ same) (step_fine (record s { req = s.req + 1; at = at })
      (on_doing (actor s.path) (λ (d : Doing). record d { req = s.req + 1; now = Calling (record s { req = s.req + 1; at = at }) }) e))
  call_stepped s (Ended g) c e same =
      Plainly (step_telling s (Ended g) e ∙ same) (tell_lines begun all k intents (actor s.path) (end_line s.x s.goal g) e)

  commit_stepped : (u : Uid) (p : Plan) (s : CommitStep) (c : Coord) → Knows c → (d : Doing) → doing_of u c ≡ Some d → IsVoting c.tree u p →
      IsStepOf begun (paths_of begun) tree p s → Knows (step_commit u s intents c).part →
      Stepped c (step_commit u s intents c).part (step_commit u s intents c).outs
  commit_stepped u p (Stays m) c knows d works v step now =
      Plainly (doing_telling u (λ (d : Doing). record d { req = (plan_of m).req; now = Committing m }) c) tt
  commit_stepped u p (Asks m) c knows d works v step now =
      Plainly (asks_telling (plan_of m).path (plan_of m).req (waiting m) (commits_in u m c) ∙ doing_telling u (λ (d : Doing).
      record d { req = (plan_of m).req; now = Committing m }) c) (asks_fine (plan_of m).path (plan_of m).req (waiting m) (commits_in u m c))
  commit_stepped u p (Decides q) c knows d works v step now =
      let its : actor q.path ≡ u = ap actor step.0 ∙ actor_is begun (paths_of begun) tree u p.path c knows.good v.asking in
      decide_stepped q c knows v.asking.branch d (ap (λ w. branch_of w c.tree) its ∙ v.asking.found) v.asking.opened v.asking.unserial
      (ap (λ w. doing_of w c) its ∙ works)
  commit_stepped u p (Aborts why q) c knows d works v step now =
      ends_stepped u ending.Abort (λ l. body.Aborted l why) c knows v.asking.branch v.asking.found v.asking.opened now

  moved_stepped : (u : Uid) (p : Plan) (m : Marked) (c : Coord) → Knows c → (d : Doing) → doing_of u c ≡ Some d → IsVoting c.tree u p →
      IsStepOf begun (paths_of begun) tree p m.step → Knows (moved_commit u m intents c).part →
      Stepped c (moved_commit u m intents c).part (moved_commit u m intents c).outs
  moved_stepped u p m c knows d works v step now =
      before c (moved_commit u m intents c).part (mark_lines u m.marks c) (step_commit u m.step intents c).outs
      (flat_lines u (λ (k : ℕ × ℕ) l. body.Excluded l k.0 k.1) c m.marks) (commit_stepped u p m.step c knows d works v step now)

  -- ---- answers

  pub heard_stepped : (from : ℕ) (a : Asked) (r : Reply) (c : Coord) → Knows c → Knows (heard from a r intents c).part →
      Stepped c (heard from a r intents c).part (heard from a r intents c).outs
  heard_stepped from a r c knows now = by (doing_of a.act c) refl now
    where
      nothing : Stepped c c []
      nothing = Plainly refl tt

      by_now : (d : Doing) → doing_of a.act c ≡ Some d → (n : Now) → IsBusy c.tree a.act n → Knows (heard_now from a r intents c n).part →
          Stepped c (heard_now from a r intents c n).part (heard_now from a r intents c n).outs
      by_now d found Idle b z = nothing
      by_now d found (Calling s) b z = one (waits_for_call from a r s)
        where
          m : Moved
          m = answered (is_free (root_of s.path) (actor s.path) s.x c) (kept_at s c) s.goal s.at r

          one : (w : Bool) → let q = cond {A = Served Coord (Unit {0})} w (heard_by (heard_call s r c)) (heard_none c) in
              Stepped c q.part q.outs
          one true = call_stepped s m.step c (on_root (root_of s.path) (root_moved s r m) c) refl
          one false = nothing
      by_now d found (Committing m) b z = one (waits_for_commit from a r m) z
        where
          one : (w : Bool) → Knows (cond {A = Served Coord (Unit {0})} w (heard_by
              (moved_commit a.act (commit.answered from m r) intents c)) (heard_none c)).part → let q = cond {A = Served Coord (Unit {0})} w
              (heard_by (moved_commit a.act (commit.answered from m r) intents c)) (heard_none c) in Stepped c q.part q.outs
          one true z = moved_stepped a.act (plan_of m) (commit.answered from m r) c knows d found b
              (answer_step begun (paths_of begun) tree from m r) z
          one false z = nothing

      by : (o : Option Doing) → doing_of a.act c ≡ o → Knows (heard_doing from a r intents c o).part →
          Stepped c (heard_doing from a r intents c o).part (heard_doing from a r intents c o).outs
      by None is z = nothing
      by (Some d) is z = by_now d is d.now (knows.good.busy a.act d is) z

  -- ---- inputs

  give_up_stepped : (u : Uid) (c : Coord) → Knows c → Knows (give_up u intents c).part →
      Stepped c (give_up u intents c).part (give_up u intents c).outs
  give_up_stepped u c knows now = by (doing_of u c) refl now
    where
      lines : (nodes : List ℕ) → AreLines (gaveup_lines u nodes c)
      lines nodes = flat_lines u (λ (n : ℕ) l. body.GaveUp l n) c nodes

      by_now : (d : Doing) → doing_of u c ≡ Some d → (n : Now) → IsBusy c.tree u n → Knows (gives_up u intents c n).part →
          Stepped c (gives_up u intents c n).part (gives_up u intents c n).outs
      by_now d found Idle b z = Plainly refl tt
      by_now d found (Calling s) b z =
          let t = step_call s (given_up s.at) (on_root (root_of s.path) (root_lost s (given_up s.at)) c) in
          before c t.part (gaveup_lines u (next_node s ∷ []) c) t.outs (lines (next_node s ∷ []))
          (call_stepped s (given_up s.at) c (on_root (root_of s.path) (root_lost s (given_up s.at)) c) refl)
      by_now d found (Committing m) b z =
          let t = moved_commit u (commit.given_up m) intents c in
          before c t.part (gaveup_lines u (nodes_given_up m) c) t.outs (lines (nodes_given_up m))
          (moved_stepped u (plan_of m) (commit.given_up m) c knows d found b (giveup_step begun (paths_of begun) tree m) z)

      by : (o : Option Doing) → doing_of u c ≡ o → Knows (give_up_doing u intents c o).part →
          Stepped c (give_up_doing u intents c o).part (give_up_doing u intents c o).outs
      by None is z = Plainly refl tt
      by (Some d) is z = by_now d is d.now (knows.good.busy u d is) z

  module _ (c : Coord) (knows : Knows c) (works : length c.doings ≡ length c.tree.branches) where
    commits_stepped : (b : Branch) → branch_of (actor b.path) c.tree ≡ Some b → is_some b.ended ≡ false →
        has_open_child (actor b.path) c.tree ≡ false → Knows (commit_action b intents c).part →
        Stepped c (commit_action b intents c).part (commit_action b intents c).outs
    commits_stepped b found opened none now = by b.doomed now
      where
        u : Uid
        u = actor b.path

        plan : Plan
        plan = plan_for b.path (last_req (doing_of u c)) (root_at (root_of b.path) c) c

        work : (d : Doing) × (doing_of u c ≡ Some d)
        work = work_there c works u b found

        top : b.kind ≢ kind.Serial → b.kind ≢ kind.Nested → Knows (commit_top b.path intents c).part →
            Stepped c (commit_top b.path intents c).part (commit_top b.path intents c).outs
        top unserial unnested z = before c (commit_top b.path intents c).part (says u body.Committing c)
            (moved_commit u (commit.start plan) intents c).outs (says_lines u body.Committing c)
            (moved_stepped u plan (commit.start plan) c knows work.0 work.1 (voting_at begun (paths_of begun) tree b c found opened none
            unserial unnested knows.good) (vote_step begun (paths_of begun) tree (servers_of plan) plan plan (refl, refl)) z)

        kinds : (kd : Kind) → b.kind ≡ kd → Knows (commit_open b intents c kd).part →
            Stepped c (commit_open b intents c kd).part (commit_open b intents c kd).outs
        kinds kind.Nested is z = ends_stepped u ending.Commit body.Committed c knows b found opened z
        kinds kind.Serial is z = ends_stepped u ending.Commit body.Ended c knows b found opened z
        kinds kind.Top is z = top (λ e. cc (sym is ∙ e)) (λ e. cc (sym is ∙ e)) z
        kinds kind.Independent is z = top (λ e. cc (sym is ∙ e)) (λ e. cc (sym is ∙ e)) z
        kinds kind.Constituent is z = top (λ e. cc (sym is ∙ e)) (λ e. cc (sym is ∙ e)) z

        by : (w : Bool) → Knows (cond {A = Did Coord} w (aborts_with u cause.Doomed intents c) (commit_open b intents c b.kind)).part →
            let q = cond {A = Did Coord} w (aborts_with u cause.Doomed intents c) (commit_open b intents c b.kind) in
            Stepped c q.part q.outs
        by true z = ends_stepped u ending.Abort (λ l. body.Aborted l cause.Doomed) c knows b found opened z
        by false z = kinds b.kind refl z

    pub acts_stepped : (hd : Header) (i : Input) → refusal_up hd i c ≡ None → Knows (acts i intents c).part →
        Stepped c (acts i intents c).part (acts i intents c).outs
    acts_stepped hd (input.Begin l how parent) none now = Plainly refl (tt, tt)
    acts_stepped hd (input.Call l x o) none now = by (branch_named l c)
      where
        by : (f : Option Branch) → let q = on_branch (λ b. call b.path x o c) c f in Stepped c q.part q.outs
        by None = Plainly refl tt
        by (Some b) =
            let r = root_at (root_of b.path) c in
            let old = keeping_of x r in
            let z = renewed (is_free (root_of b.path) (actor b.path) x c) old old.kept in
            goes_stepped (call_steps b.path x o (next_req (actor b.path) c) r c z) c
            (on_root (root_of b.path) (with_keeping x z) (record c { tree = uses_object b.path x c.tree })) refl
    acts_stepped hd (input.Include l x s) none now = by (branch_named l c)
      where
        by : (f : Option Branch) → let q = on_branch (λ b. include b.path x s c) c f in Stepped c q.part q.outs
        by None = Plainly refl tt
        by (Some b) = goes_stepped (start b.path x (calls.Include s) None unbound (next_req (actor b.path) c)) c
            (record c { tree = uses_object b.path x c.tree }) refl
    acts_stepped hd (input.Commit l) none now = by (branch_named l c) refl none now
      where
        by : (f : Option Branch) → branch_named l c ≡ f → refused_by commit_reasons c f ≡ None → Knows (on_branch
            (λ b. commit_action b intents c) c f).part → let q = on_branch (λ b. commit_action b intents c) c f in Stepped c q.part q.outs
        by None is e z = Plainly refl tt
        by (Some b) is e z = commits_stepped b (named_found begun (paths_of begun) tree intents c knows.good l b is)
            (off (commit_reasons b c) e).0 (off_third (commit_reasons b c) e) z
    acts_stepped hd (input.Abort l) none now = by (branch_named l c) refl none now
      where
        by : (f : Option Branch) → branch_named l c ≡ f → refused_by abort_reasons c f ≡ None → Knows (on_branch (λ b. abort_action (actor
            b.path) intents c) c f).part → let q = on_branch (λ b. abort_action (actor b.path) intents c) c f in Stepped c q.part q.outs
        by None is e z = Plainly refl tt
        by (Some b) is e z = abort_stepped (actor b.path) c knows b (named_found begun (paths_of begun) tree intents c knows.good l b is)
            (off (abort_reasons b c) e).0 z
    acts_stepped hd (input.GiveUp l) none now = by (branch_named l c) now
      where
        by : (f : Option Branch) → Knows (on_branch (λ b. give_up (actor b.path) intents c) c f).part →
            let q = on_branch (λ b. give_up (actor b.path) intents c) c f in Stepped c q.part q.outs
        by None z = Plainly refl tt
        by (Some b) z = give_up_stepped (actor b.path) c knows z
    acts_stepped hd (input.Frame n from m) none now = Plainly refl tt
    acts_stepped hd input.Tick none now = Plainly refl tt
    acts_stepped hd input.Restart none now = Plainly refl tt
    acts_stepped hd input.Crash none now = Plainly refl tt
    acts_stepped hd (input.Show x) none now = Plainly refl tt

  -- ---- a tick

  pub asked_again : (ds : List Doing) (c : Coord) → Fine (again_all ds c).outs
  asked_again [] c = tt
  asked_again (d ∷ ds) c = tell_both begun all k intents (again_now c d.now).outs (again_all ds (again_now c d.now).part).outs (now d.now)
      (asked_again ds (again_now c d.now).part)
    where
      now : (n : Now) → Fine (again_now c n).outs
      now Idle = tt
      now (Calling s) = step_fine s c
      now (Committing m) = asks_fine (plan_of m).path (plan_of m).req (waiting m) c
