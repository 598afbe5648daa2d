-- Inputs about actions go in the whole world: what isn't refused fits the actions that are there.
use Rattle.arj_law_parts.proofs.Words
use Words.{◌≡◌, ◌≢◌, ◌⊎◌, ◌∙◌, ◌||◌, ℕ, Bool, true, false, not, Option, Some, None, refl, sym, ap, subst, inl, inr, arith, is_some}
use Words.{or_parts, Header, Kind, Label, Op, Uid, actor, call, commit_action, give_up, give_up_doing, gives_up, include, Goal}
use Words.{Include as IncludeStore, Run, Calling, Committing, Coord, Doing, Idle, Now, doing_of, Did, abort_action, Input, abort_reasons}
use Words.{acts, branch_named, call_reasons, commit_reasons, giveup_reasons, include_reasons, is_waiting, is_waiting_now, on_branch}
use Words.{refused_by, refusal_up, sibling_waits, waits, waits_above, waits_below, Branch, branch_of, has_open_child, is_serial}
use Words.kind
use Words.input
use Rattle.arj_law_lock_view.proofs.Terms
use Terms.{IsGoodCoord, GoesOn, IsSure, behind, named_found, off, well_acts, work_there, is_act, IsFreeToEnd, IsWaiting, AreOneTree, Family}
use Terms.{Case, HoldsNamingIn, IsSeenIn, Spot, world_at, IsWorking, StepGoes, coord_at, records_at, Fixed, family_of, KnowsAfter}
use Rattle.arj_law_lock_view.proofs.facts
use facts.{Keeping.plans_have_kept, LowGrants.plans_grant_low}
use facts.Given.{actions_topped, commits_first, free_alone}
use Rattle.arj_law_lock_view.proofs.running
use running.{CommitGoes.lost_commits_go, CommitGoes.top_commits_go}
use running.CallGoes.{calls_go, includes_go, lost_calls_go, other_lost_go}
use running.GoodSteps.{good_node, its, steady, steady_begun}
use running.ToldSteps.{aborts_go, doomed_commits_go, nested_commits_go}
use running.WorkSteps.{Behind, at_commit, behind_step, here, placed, reached_S, waits_in, working, works_in}
use Rattle.arj_law_lock_view.specs.running.Inputs.{InputsGo, KnowsInput}
use Rattle.arj_law_parts.proofs.parts.{EndsSaid.sure_acts, GoodNodes.input_well}

unserial_is : (k : Kind) → is_serial k ≡ false → k ≢ kind.Serial
unserial_is k off_it is = let bad : true ≡ false = sym (ap is_serial is) ∙ off_it in cc bad

module _ (c : Case) (s : Spot) (e : ℕ) (is_seen : IsSeenIn c (world_at s)) (holds : HoldsNamingIn c s.node (let t = s.parts in t.naming))
    (knows : KnowsInput s) where
  abbrev f : Fixed
  f = c.fixed

  abbrev C : Coord
  C = coord_at s

  abbrev g : Family
  g = family_of f c.begun

  -- ---- an action that isn't refused

  module _ (b : Branch) (there : branch_of (actor b.path) C.tree ≡ Some b) (unended : is_some b.ended ≡ false) where
    abbrev u : Uid
    u = actor b.path

    does : (d : Doing) × (doing_of u C ≡ Some d)
    does = work_there C (let z = steady c s is_seen in z.works) u b there

    free : (up : waits_above b C ≡ false) (down : waits_below b C ≡ false) → IsFreeToEnd f.act f.paths C u b does.0
    free up down = let a = free_alone g C b does.0 (placed c s is_seen) there does.1 up down in
        record { steady = steady c s is_seen; there = there; unended = unended; works = does.1; idle = a.0; lone = a.1 }

    -- what waits is given up
    given_up_now : (d : Doing) (n : Now) → doing_of u C ≡ Some d → d.now ≡ n → is_waiting_now n ≡ true →
        let D = gives_up u (records_at s) C n in Behind c s D.part → StepGoes c s e D
    given_up_now d Idle works is waits_it after = absurd (cc waits_it)
    given_up_now d (Calling w) works is waits_it after = by w.goal refl (about w.x c.x)
      where
        work : IsWorking c s u b d
        work = works_in c s is_seen u b there knows.waits d w works is

        waiting : IsWaiting b d w
        waiting = waits_in c s is_seen u b there knows.waits d w works is

        about : (m n : ℕ) → (m ≡ n) ⊎ (m ≢ n)
        about m n = grind arith

        by : (goal : Goal) → w.goal ≡ goal → (w.x ≡ c.x) ⊎ (w.x ≢ c.x) → StepGoes c s e (gives_up u (records_at s) C (Calling w))
        by goal goal_is (inr away) = other_lost_go c s e u b d w is_seen work waiting (inl away) after.coord after.asks
        by (Run o) goal_is (inl mine) = lost_calls_go c s e u b d w o is_seen work
            (record { calling = is; about = mine; goal = goal_is; path = waiting.path; last = waiting.last }) after.coord after.asks
        by (IncludeStore store) goal_is (inl mine) =
            other_lost_go c s e u b d w is_seen work waiting (inr (store, goal_is)) after.coord after.asks
    given_up_now d (Committing m) works is waits_it after =
        lost_commits_go c s e u b d m is_seen holds (at_commit c s is_seen u b there d m works is) after.coord after.asks after.ends

    -- the action commits
    commits : (up : waits_above b C ≡ false) (down : waits_below b C ≡ false) → sibling_waits b C ≡ false →
        has_open_child u C.tree ≡ false → let D = commit_action b (records_at s) C in Behind c s D.part → StepGoes c s e D
    commits up down siblings childless after = by b.doomed refl
      where
        fr : IsFreeToEnd f.act f.paths C u b does.0
        fr = free up down

        top : b.doomed ≡ false → b.kind ≢ kind.Serial → b.kind ≢ kind.Nested → StepGoes c s e (commit_action b (records_at s) C)
        top undoomed unserial unnested = commits_top
            (record { steady = steady c s is_seen; there = there; unended = unended; works = does.1; idle = fr.idle; lone = fr.lone })
          where
            commits_top : IsFreeToEnd f.act f.paths C u b does.0 → StepGoes c s e (commit_action b (records_at s) C)
            commits_top z0 =
                let z : IsFreeToEnd f.act f.paths C u b does.0 =
                record { steady = steady c s is_seen; there = there; unended = unended; works = does.1; idle = z0.idle; lone = z0.lone }
                in
                top_commits_go c s e u b does.0 is_seen holds z (steady_begun c s is_seen) (actions_topped g C (placed c s is_seen))
                unserial unnested undoomed childless
                (commits_first g C b (placed c s is_seen) there unserial unnested up siblings)
                (plans_grant_low f.act f.code f.paths c.x (let M = s.seen in M.sent) s.node C u b does.0 c.state (reached_S c s is_seen) z
                (steady_begun c s is_seen) (actions_topped g C (placed c s is_seen)) unserial unnested childless knows.binds
                knows.grants (let h = here c s is_seen in h.coord))
                (plans_have_kept f.act f.code f.paths c.x (let M = s.seen in M.sent) s.node C u b does.0 c.state (reached_S c s is_seen) z
                unserial knows.binds (let h = here c s is_seen in h.coord))
                after.coord after.asks after.ends

        kinds : b.doomed ≡ false → (k : Kind) → b.kind ≡ k → StepGoes c s e (commit_action b (records_at s) C)
        kinds undoomed kind.Nested is = nested_commits_go c s e u b does.0 is_seen fr (inl is) undoomed childless after.coord
        kinds undoomed kind.Serial is = nested_commits_go c s e u b does.0 is_seen fr (inr is) undoomed childless after.coord
        kinds undoomed kind.Top is = top undoomed (λ bad. cc (sym is ∙ bad)) (λ bad. cc (sym is ∙ bad))
        kinds undoomed kind.Constituent is = top undoomed (λ bad. cc (sym is ∙ bad)) (λ bad. cc (sym is ∙ bad))
        kinds undoomed kind.Independent is = top undoomed (λ bad. cc (sym is ∙ bad)) (λ bad. cc (sym is ∙ bad))

        by : (t : Bool) → b.doomed ≡ t → StepGoes c s e (commit_action b (records_at s) C)
        by true doomed = doomed_commits_go c s e u b does.0 is_seen fr doomed childless after.coord
        by false undoomed = kinds undoomed b.kind refl

  -- ---- an input, by the branch of its label

  named : (l : Label) (b : Branch) → branch_named l C ≡ Some b → branch_of (actor b.path) C.tree ≡ Some b
  named l b is = named_found c.begun f.paths (let a = is_seen.agrees in let w = a.whole in
      w.tree) (records_at s) C (let p = placed c s is_seen in p.good) l b is

  calls : (hd : Header) (l : Label) (x : ℕ) (o : Op) (q : Option Branch) → branch_named l C ≡ q →
      refused_by (call_reasons hd x o) C q ≡ None → let D = on_branch (λ b. call b.path x o C) C q in Behind c s D.part → StepGoes c s e D
  calls hd l x o None is none after = absurd (cc none)
  calls hd l x o (Some b) is unrefused after =
      let rs = call_reasons hd x o b C in
      let one = off rs unrefused in
      let two = off (behind rs) one.1 in
      let three = off (behind (behind rs)) two.1 in
      let quiet = or_parts (waits_above b C) (waits_below b C) two.0 in
      let there = named l b is in
      let fr = free b there one.0 quiet.0 quiet.1 in
      let unserial = unserial_is b.kind three.0 in
      calls_go c s e x (actor b.path) b (does b there one.0).0 o is_seen (working c s is_seen (actor b.path) b there (does b there one.0).0
      one.0 fr.works fr.lone unserial) fr.idle unserial after.coord after.asks

  includes : (hd : Header) (l : Label) (x store : ℕ) (q : Option Branch) → branch_named l C ≡ q → refused_by (include_reasons hd x) C q
      ≡ None → let D = on_branch (λ b. include b.path x store C) C q in Behind c s D.part → StepGoes c s e D
  includes hd l x store None is none after = absurd (cc none)
  includes hd l x store (Some b) is unrefused after =
      let rs = include_reasons hd x b C in
      let one = off rs unrefused in
      let two = off (behind rs) one.1 in
      let three = off (behind (behind rs)) two.1 in
      let quiet = or_parts (waits_above b C) (waits_below b C) two.0 in
      let there = named l b is in
      let fr = free b there one.0 quiet.0 quiet.1 in
      let unserial = unserial_is b.kind three.0 in
      includes_go c s e x store (actor b.path) b (does b there one.0).0 is_seen (working c s is_seen (actor b.path) b there
      (does b there one.0).0 one.0 fr.works fr.lone unserial) fr.idle unserial after.coord after.asks

  commits_named : (l : Label) (q : Option Branch) → branch_named l C ≡ q → refused_by commit_reasons C q ≡ None →
      let D = on_branch (λ b. commit_action b (records_at s) C) C q in Behind c s D.part → StepGoes c s e D
  commits_named l None is none after = absurd (cc none)
  commits_named l (Some b) is unrefused after =
      let rs = commit_reasons b C in
      let one = off rs unrefused in
      let two = off (behind rs) one.1 in
      let three = off (behind (behind rs)) two.1 in
      let more = or_parts (waits_above b C || waits_below b C) (sibling_waits b C) two.0 in
      let quiet = or_parts (waits_above b C) (waits_below b C) more.0 in
      commits b (named l b is) one.0 quiet.0 quiet.1 more.1 three.0 after

  aborts : (l : Label) (q : Option Branch) → branch_named l C ≡ q → refused_by abort_reasons C q ≡ None →
      let D = on_branch (λ b. abort_action (actor b.path) (records_at s) C) C q in Behind c s D.part → StepGoes c s e D
  aborts l None is none after = absurd (cc none)
  aborts l (Some b) is unrefused after =
      aborts_go c s e (actor b.path) b is_seen (named l b is) (off (abort_reasons b C) unrefused).0 after.coord

  gives : (l : Label) (q : Option Branch) → branch_named l C ≡ q → refused_by giveup_reasons C q ≡ None →
      let D = on_branch (λ b. give_up (actor b.path) (records_at s) C) C q in Behind c s D.part → StepGoes c s e D
  gives l None is none after = absurd (cc none)
  gives l (Some b) is unrefused after =
      let rs = giveup_reasons b C in
      let one = off rs unrefused in
      let two = off (behind rs) one.1 in
      let there = named l b is in
      let d = does b there one.0 in
      let same : give_up (actor b.path) (records_at s) C ≡ gives_up (actor b.path) (records_at s) C (now_of d.0) =
      (λ i. give_up_doing (actor b.path) (records_at s) C (d.1 i)) in
      subst (StepGoes c s e) (sym same) (given_up_now b there one.0 d.0 (now_of d.0) d.1 refl
      (ap is_waiting (sym d.1) ∙ waiting (waits C (actor b.path)) two.0) (subst (λ (z : Did Coord). Behind c s z.part) same after))
    where
      now_of : Doing → Now
      now_of d = d.now

      waiting : (t : Bool) → not t ≡ false → t ≡ true
      waiting true h = refl
      waiting false h = absurd (cc h)

input_goes : (hd : Header) (c : Case) (s : Spot) (e : ℕ) (i : Input) → IsSeenIn c (world_at s) →
    HoldsNamingIn c s.node (let t = s.parts in t.naming) → KnowsInput s → is_act i ≡ true → refusal_up hd i (coord_at s) ≡ None →
    let D = acts i (records_at s) (coord_at s) in Behind c s D.part → StepGoes c s e D
input_goes hd c s e (input.Call l x o) is_seen holds knows act unrefused after =
    calls c s e is_seen holds knows hd l x o (branch_named l (coord_at s)) refl unrefused after
input_goes hd c s e (input.Include l x store) is_seen holds knows act unrefused after =
    includes c s e is_seen holds knows hd l x store (branch_named l (coord_at s)) refl unrefused after
input_goes hd c s e (input.Commit l) is_seen holds knows act unrefused after =
    commits_named c s e is_seen holds knows l (branch_named l (coord_at s)) refl unrefused after
input_goes hd c s e (input.Abort l) is_seen holds knows act unrefused after =
    aborts c s e is_seen holds knows l (branch_named l (coord_at s)) refl unrefused after
input_goes hd c s e (input.GiveUp l) is_seen holds knows act unrefused after =
    gives c s e is_seen holds knows l (branch_named l (coord_at s)) refl unrefused after
input_goes hd c s e (input.Begin l k parent) is_seen holds knows act unrefused after = absurd (cc act)
input_goes hd c s e (input.Frame k from m) is_seen holds knows act unrefused after = absurd (cc act)
input_goes hd c s e input.Tick is_seen holds knows act unrefused after = absurd (cc act)
input_goes hd c s e input.Restart is_seen holds knows act unrefused after = absurd (cc act)
input_goes hd c s e input.Crash is_seen holds knows act unrefused after = absurd (cc act)
input_goes hd c s e (input.Show x) is_seen holds knows act unrefused after = absurd (cc act)

-- it goes on, is good and sure, by the protocol alone
behind_it : (hd : Header) (c : Case) (s : Spot) (i : Input) → IsSeenIn c (world_at s) → is_act i ≡ true →
    refusal_up hd i (coord_at s) ≡ None → let D = acts i (records_at s) (coord_at s) in KnowsAfter c D.part → Behind c s D.part
behind_it hd c s i is_seen act unrefused after = behind_step c s is_seen D.part on good_after sure_after after
  where
    D : Did Coord
    D = acts i (records_at s) (coord_at s)

    whole : AreOneTree (family_of (let f = c.fixed in f) c.begun)
    whole = let a = is_seen.agrees in a.whole

    other : (l : Label) (k : Kind) (parent : Option Label) → i ≢ input.Begin l k parent
    other l k parent same = let bad : true ≡ false = sym act ∙ ap is_act same in cc bad

    good : IsGoodCoord c.begun (let f = c.fixed in f.paths) (coord_at s)
    good = let n = good_node c s is_seen in n.coord

    on : GoesOn (coord_at s) D.part
    on = (well_acts c.begun (let f = c.fixed in f.paths) whole.tree (records_at s) (coord_at s) good (let z = steady c s is_seen in
        z.works) hd i unrefused other).0

    good_after : IsGoodCoord c.begun (let f = c.fixed in f.paths) D.part
    good_after = let n = (input_well c.begun whole.begun (let f = c.fixed in
        f.paths) whole.tree whole.agree s.disk s.parts hd i unrefused other (good_node c s is_seen)).0 in n.coord

    sure_after : IsSure D.part
    sure_after = (sure_acts c.begun (let f = c.fixed in f.paths) whole.tree (records_at s) (coord_at s) good (let q = its c s is_seen in
        q.sure) hd i unrefused other).0

pub inputs_go : InputsGo
inputs_go hd c s e i is_seen holds knows act unrefused after =
    input_goes hd c s e i is_seen holds knows act unrefused (behind_it hd c s i is_seen act unrefused after)
