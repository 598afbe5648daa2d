-- An input about an action, walked with both halves.
use Rattle.arj_law_parts.proofs.Words
use Words.{◌≡◌, ◌⊎◌, ℕ, List, [], ◌∷◌, ◌++◌, ◌||◌, Bool, true, false, Option, Some, None, refl, sym, ◌∙◌, ap, subst, inl, inr, is_some, map}
use Words.{filter, if◌then◌else◌, flat_map, Cause, Header, Kind, Label, Uid, actor, commit_action, commit_open, commit_top, gaveup_lines}
use Words.{give_up, give_up_doing, gives_up, last_req, moved_commit, Decides, Machine, Used, Voting, Preparing, Confirming, begin_confirm}
use Words.{begin_prepare, begin_vote, changed_of, first_of, plainly, servers_of, stores_by, Coord, Doing, Now, Idle, Calling, Committing}
use Words.{doing_of, plan_for, root_at, Did, Disk, Effect, aborts_with, says, Parts, with_coord, number_set, uid_number, AreAll}
use Words.{is_coord_effect, Input, acts, branch_named, commit_reasons, giveup_reasons, on_branch, refusal_up, refused_by, sibling_waits}
use Words.{waits_above, waits_below, number_of, Branch, branch_of, has_open_child, root_of, acts_own, Seen}
use Words.body
use Words.cause
use Words.ending
use Words.kind
use Words.commit
use Words.input
use Rattle.arj_law_disk_view.proofs.Terms
use Terms.{start, Begins, only_begins, Office, never, some_is, test_same, is_act, up, DidIsWalked, IsOfKind, KnowsCoord, KnowsKinds}
use Terms.{KnowsPlan, Kinds, SeesDisks, Walk, Works, followed, SeesBoth, MayGoOn}
use Rattle.arj_law_disk_view.proofs.names
use names.{StepsBoth.walks_start, StepsFollowed.inputs_are_followed}
use names.CommitBoth.{begun_both, coord_leaves, going_both, plain_both, says_say, says_work, vote_goes}
use Rattle.arj_law_disk_view.proofs.view
use view.{CallWalks.calls_are_given_up, CommitWalks.aborts, DecideWalks.confirming_of, Followed.coord_on, Followed.kinds_on}
use view.{Frames.node_here, OneEnd.actions_end, UnusedWalks.unused_are_decided}
use view.HeardWalks.{gaveup_say, preparing_of, say_walk}
use view.WholeWalks.{no_reason, placed, unended}
use Rattle.arj_law_disk_view.specs.names.{Handlers.DidKeepsBoth, Handlers.InputsKeepBoth, Steps.DidIsFollowed}

-- ---- inputs by which a commit goes on

abbrev goes_on : Input → Bool
goes_on (input.Commit l) = true
goes_on (input.GiveUp l) = true
goes_on _ = false

abbrev label_in : Label → Input → Label
label_in z (input.Commit l) = l
label_in z (input.GiveUp l) = l
label_in z _ = z

goes_by : (i : Input) (l : Label) → (i ≡ input.Commit l) ⊎ (i ≡ input.GiveUp l) → (goes_on i ≡ true) × ((z : Label) → label_in z i ≡ l)
goes_by i l (inl is) = (ap goes_on is, λ z. ap (label_in z) is)
goes_by i l (inr is) = (ap goes_on is, λ z. ap (label_in z) is)

-- ---- a plan that uses nothing

pub start_unused : (p : commit.Plan) → p.used ≡ [] → start p ≡ plainly (Decides p)
start_unused p is = ap plainly (
    ap (λ us. begin_vote (number_set (map (λ (u : Used). u.server) (filter (λ (u : Used). u.called) us))) p) is
    ∙ ap (λ us. begin_prepare (number_set (flat_map (λ (u : Used). stores_by u (changed_of u.x p)) us)) p) is
    ∙ ap (λ us. begin_confirm us p) is)

module _ (hd : Header) (x : ℕ) (tops : Kinds) (unwalked : tops.walk ≡ None) (e k : ℕ) (d : Disk) (t : Parts) (A : Office) (M : Seen)
    (kinds : KnowsKinds tops) (knows : KnowsCoord tops d.intents t.coord) (both : SeesBoth x tops A (up k d t M)) where
  abbrev Plain_tops : Kinds
  Plain_tops = followed tops A.world (λ n. false)

  abbrev Plain_walk : Option Walk
  Plain_walk = Some (record { from = A.world; noted = λ n. false })

  plain_kinds : KnowsKinds Plain_tops
  plain_kinds = kinds_on tops Plain_walk kinds

  plain_coord : KnowsCoord Plain_tops d.intents t.coord
  plain_coord = coord_on tops Plain_walk d.intents t.coord knows

  plain_sees : SeesDisks x Plain_tops A.world (up k d t M)
  plain_sees = walks_start x tops (λ n. false) A (up k d t M) both

  module _ (i : Input) where
    abbrev Own_of : Did Coord → Type 0
    Own_of did = AreAll is_coord_effect did.outs

    abbrev Kept : Did Coord → Type 0
    Kept did = MayGoOn x A did.part → DidKeepsBoth x tops A e k d t did M

    own : Own_of (acts i d.intents t.coord)
    own = acts_own i d.intents t.coord

    -- what needs no beginning
    settles : (did : Did Coord) → acts i d.intents t.coord ≡ did → DidIsWalked x (followed tops A.world (λ n. false)) e k d t did M →
        Kept (acts i d.intents t.coord)
    settles did is walk = subst Kept (sym is) (λ may. plain_both x tops unwalked e k d t A M both (with_coord t did.part) did.outs
        (coord_leaves did.outs (subst Own_of is own)) refl walk)

    quiet : goes_on i ≡ false → is_act i ≡ true → refusal_up hd i t.coord ≡ None → Kept (acts i d.intents t.coord)
    quiet stays act free =
        settles (acts i d.intents t.coord) refl (inputs_are_followed hd x tops (λ n. false) e k d t i A M kinds knows act free
        (λ l b which at. absurd (never (goes_by i l which).0 stays)) both)

    -- the walk where the beginning may be noted of the action of the label
    begins_walk : (l : Label) (b : Branch) → label_in l i ≡ l → branch_named l t.coord ≡ Some b → is_act i ≡ true → refusal_up hd i t.coord
        ≡ None → DidIsFollowed (only_begins (uid_number (actor b.path))) x tops A e k d t (acts i d.intents t.coord) M
    begins_walk l b mine named act free =
        inputs_are_followed hd x tops (only_begins (uid_number (actor b.path))) e k d t i A M kinds knows act free
        (λ z c which at.
        let same : z ≡ l = sym ((goes_by i z which).1 l) ∙ mine in
        let one : c ≡ b = some_is at (ap (λ y. branch_named y t.coord) same ∙ named) in
        ap (λ (y : Branch). only_begins (uid_number (actor b.path)) (Begins (uid_number (actor y.path)))) one
        ∙ test_same (uid_number (actor b.path))) both

    -- a commit that has begun
    past : (u : Uid) → A.world.disk.begun (uid_number u) ≡ true →
        DidIsFollowed (only_begins (uid_number u)) x tops A e k d t (acts i d.intents t.coord) M → Kept (acts i d.intents t.coord)
    past u begun walk may = let did = acts i d.intents t.coord in begun_both x tops unwalked e k d t A M both (uid_number u)
        (with_coord t did.part) did.outs begun (coord_leaves did.outs own) refl walk

  -- ---- a giveup

  module _ (l : Label) (free : refusal_up hd (input.GiveUp l) t.coord ≡ None) where
    abbrev Goal : Type 0
    Goal = Kept (input.GiveUp l) (acts (input.GiveUp l) d.intents t.coord)

    gives : (b : Branch) → branch_named l t.coord ≡ Some b → branch_of (actor b.path) t.coord.tree ≡ Some b → Goal
    gives b named found = by q.now refl
      where
        u : Uid
        u = actor b.path

        w : (r : Doing) × (doing_of (actor b.path) t.coord ≡ Some r)
        w = knows.at_work (actor b.path) b found

        q : Doing
        q = w.0

        is_that : (now : Now) → q.now ≡ now → acts (input.GiveUp l) d.intents t.coord ≡ gives_up u d.intents t.coord now
        is_that now is = ap (on_branch (λ (z : Branch). give_up (actor z.path) d.intents t.coord) t.coord) named
            ∙ ap (give_up_doing u d.intents t.coord) w.1 ∙ ap (gives_up u d.intents t.coord) is

        lost : (m : Machine) → q.now ≡ Committing m → (nodes : List ℕ) (why : Cause) → acts (input.GiveUp l) d.intents t.coord ≡ record {
          part = (aborts_with u why d.intents t.coord).part;
          outs = gaveup_lines u nodes t.coord ++ (aborts_with u why d.intents t.coord).outs;
        } → Goal
        lost m now nodes why is =
            let did = aborts_with u why d.intents t.coord in
            settles (input.GiveUp l) (record { part = did.part; outs = gaveup_lines u nodes t.coord ++ did.outs }) is
            (say_walk x k Plain_tops e t (with_coord t did.part) (gaveup_lines u nodes t.coord) did.outs d A.world
            (gaveup_say u nodes t.coord)
            (λ N s. aborts x Plain_tops e k d t 0 u q N plain_kinds plain_coord w.1 A.world s m (plain_coord.machines u q m w.1 now) why) M
            plain_sees)

        works : (c : Branch) (r : Doing) → branch_of u t.coord.tree ≡ Some c → c.ended ≡ None → doing_of u t.coord ≡ Some r →
            Works x tops A.world.disk (uid_number u) c.kind r.now
        works = (both.disks.coords k (record { number = k; disk = d; live = Some t }) t
            (node_here M k (record { number = k; disk = d; live = Some t })) refl).working u

        by : (now : Now) → q.now ≡ now → Goal
        by Idle is = settles (input.GiveUp l) (gives_up u d.intents t.coord Idle) (is_that Idle is) (A.world, plain_sees)
        by (Calling s) is = settles (input.GiveUp l) (gives_up u d.intents t.coord (Calling s)) (is_that (Calling s) is)
            (calls_are_given_up x Plain_tops e k d t u q s M plain_coord w.1 is A.world plain_sees)
        by (Committing (Voting p left)) is =
            lost (Voting p left) is (first_of left ∷ []) (cause.Lost (first_of left)) (is_that (Committing (Voting p left)) is)
        by (Committing (Preparing p left)) is =
            let m = knows.machines u q (Preparing p left) w.1 is in
            past (input.GiveUp l) u (preparing_of x tops A.world.disk (uid_number u) (let z = m.branch in z.kind) q.now p left m.top is
            (works m.branch q m.found m.unended w.1)).begun (begins_walk (input.GiveUp l) l b refl named refl free)
        by (Committing (Confirming p)) is =
            let m = knows.machines u q (Confirming p) w.1 is in
            past (input.GiveUp l) u (confirming_of x tops A.world.disk (uid_number u) (let z = m.branch in z.kind) q.now p m.top is
            (works m.branch q m.found m.unended w.1)).begun (begins_walk (input.GiveUp l) l b refl named refl free)

    pub gives_up_both : Goal
    gives_up_both = by (branch_named l t.coord) refl free
      where
        by : (o : Option Branch) → branch_named l t.coord ≡ o → refused_by giveup_reasons t.coord o ≡ None → Goal
        by None is h = absurd (cc h)
        by (Some b) is h = gives b is (placed hd x tops e k d t M kinds knows A.world both.disks (number_of l t.coord) b is)

  -- ---- a commit

  module _ (l : Label) (free : refusal_up hd (input.Commit l) t.coord ≡ None) where
    abbrev Commit_goal : Type 0
    Commit_goal = Kept (input.Commit l) (acts (input.Commit l) d.intents t.coord)

    module _ (b : Branch) (named : branch_named l t.coord ≡ Some b) (found : branch_of (actor b.path) t.coord.tree ≡ Some b)
        (open_yet : b.ended ≡ None) (childless : has_open_child (actor b.path) t.coord.tree ≡ false) where
      abbrev u : Uid
      u = actor b.path

      abbrev Plan_of : commit.Plan
      Plan_of = plan_for b.path (last_req (doing_of (actor b.path) t.coord)) (root_at (root_of b.path) t.coord) t.coord

      that : (z : Bool) → b.doomed ≡ z → acts (input.Commit l) d.intents t.coord
          ≡ (if z then aborts_with (actor b.path) cause.Doomed d.intents t.coord else commit_open b d.intents t.coord b.kind)
      that z is = ap (on_branch (λ (c : Branch). commit_action c d.intents t.coord) t.coord) named
          ∙ ap (λ z. if z then aborts_with (actor b.path) cause.Doomed d.intents t.coord else commit_open b d.intents t.coord b.kind) is

      -- a top
      tops_commit : tops.is_top (uid_number (actor b.path)) ≡ true →
          acts (input.Commit l) d.intents t.coord ≡ commit_top b.path d.intents t.coord → Commit_goal
      tops_commit top is = by (let p = Plan_of in p.used) refl
        where
          line : List Effect
          line = says u body.Committing t.coord

          work : (r : Doing) × (doing_of (actor b.path) t.coord ≡ Some r)
          work = knows.at_work (actor b.path) b found

          by : (us : List Used) → (let p = Plan_of in p.used) ≡ us → Commit_goal
          by [] none =
              let did = moved_commit u (plainly (Decides Plan_of)) d.intents t.coord in
              settles (input.Commit l) (record { part = did.part; outs = line ++ did.outs })
              (is ∙ ap (λ m. let z = moved_commit u m d.intents t.coord in
              record { part = z.part; outs = line ++ z.outs }) (start_unused Plan_of none))
              (say_walk x k Plain_tops e t (with_coord t did.part) line did.outs d A.world (says_say u body.Committing t.coord)
              (λ N s. unused_are_decided x Plain_tops e k d t u b Plan_of N plain_coord found open_yet top (plan.actor_is)
              (record { used = none; changed = refl; prepared = refl; confirmed = refl }) A.world s) M plain_sees)
            where
              plan : KnowsPlan (actor b.path) Plan_of
              plan = knows.starts (actor b.path) b (last_req (doing_of (actor b.path) t.coord)) found top
          by (v ∷ vs) some = subst (Kept (input.Commit l)) (sym is)
              (λ may. going_both x tops unwalked e k d t A M both line u b work.0 (begin_vote (servers_of Plan_of) Plan_of) [] d.intents
              (says_work u body.Committing t.coord) found open_yet work.1 top (vote_goes (servers_of Plan_of) Plan_of v vs some) may
              (subst (λ did. DidIsFollowed (only_begins (uid_number u)) x tops A e k d t did M) is
              (begins_walk (input.Commit l) l b refl named refl free)))

      by_kind : (kd : Kind) → IsOfKind tops (actor b.path) kd b.path →
          acts (input.Commit l) d.intents t.coord ≡ commit_open b d.intents t.coord kd → Commit_goal
      by_kind kind.Nested of is = settles (input.Commit l) (commit_open b d.intents t.coord kind.Nested) is (actions_end x Plain_tops e k d
          t u b ending.Commit body.Committed M plain_kinds plain_coord found open_yet (λ s. childless) A.world plain_sees)
      by_kind kind.Serial of is = settles (input.Commit l) (commit_open b d.intents t.coord kind.Serial) is (actions_end x Plain_tops e k d
          t u b ending.Commit body.Ended M plain_kinds plain_coord found open_yet (λ s. childless) A.world plain_sees)
      by_kind kind.Top of is = tops_commit of.0 is
      by_kind kind.Independent of is = tops_commit of.0 is
      by_kind kind.Constituent of is = tops_commit of.0 is

      pub commits : Commit_goal
      commits = by b.doomed refl
        where
          by : (z : Bool) → b.doomed ≡ z → Commit_goal
          by true is =
              settles (input.Commit l) (aborts_with u cause.Doomed d.intents t.coord) (that true is) (actions_end x Plain_tops e k d t u b
              ending.Abort (λ q. body.Aborted q cause.Doomed) M plain_kinds plain_coord found open_yet (λ s. childless) A.world plain_sees)
          by false is = by_kind b.kind (knows.kind (actor b.path) b found) (that false is)

    pub commits_both : Commit_goal
    commits_both = by (branch_named l t.coord) refl free
      where
        by : (o : Option Branch) → branch_named l t.coord ≡ o → refused_by commit_reasons t.coord o ≡ None → Commit_goal
        by None is h = absurd (cc h)
        by (Some b) is h =
            let one = no_reason 6 (is_some b.ended) ((7, waits_above b t.coord || waits_below b t.coord || sibling_waits b t.coord)
            ∷ (9, has_open_child (actor b.path) t.coord.tree) ∷ []) h in
            let two = no_reason 7 (waits_above b t.coord || waits_below b t.coord || sibling_waits b t.coord)
            ((9, has_open_child (actor b.path) t.coord.tree) ∷ []) one.1 in
            let three = no_reason 9 (has_open_child (actor b.path) t.coord.tree) [] two.1 in
            commits b is (placed hd x tops e k d t M kinds knows A.world both.disks (number_of l t.coord) b is) (unended b.ended one.0)
            three.0

pub inputs_keep_both : InputsKeepBoth
inputs_keep_both hd x tops e k d t (input.Call l y o) A M unwalked kinds knows act free may both =
    quiet hd x tops unwalked e k d t A M kinds knows both (input.Call l y o) refl act free may
inputs_keep_both hd x tops e k d t (input.Include l y s) A M unwalked kinds knows act free may both =
    quiet hd x tops unwalked e k d t A M kinds knows both (input.Include l y s) refl act free may
inputs_keep_both hd x tops e k d t (input.Commit l) A M unwalked kinds knows act free may both =
    commits_both hd x tops unwalked e k d t A M kinds knows both l free may
inputs_keep_both hd x tops e k d t (input.Abort l) A M unwalked kinds knows act free may both =
    quiet hd x tops unwalked e k d t A M kinds knows both (input.Abort l) refl act free may
inputs_keep_both hd x tops e k d t (input.GiveUp l) A M unwalked kinds knows act free may both =
    gives_up_both hd x tops unwalked e k d t A M kinds knows both l free may
inputs_keep_both hd x tops e k d t (input.Begin l how parent) A M unwalked kinds knows act free may both = absurd (cc act)
inputs_keep_both hd x tops e k d t (input.Frame n from m) A M unwalked kinds knows act free may both = absurd (cc act)
inputs_keep_both hd x tops e k d t input.Tick A M unwalked kinds knows act free may both = absurd (cc act)
inputs_keep_both hd x tops e k d t input.Restart A M unwalked kinds knows act free may both = absurd (cc act)
inputs_keep_both hd x tops e k d t input.Crash A M unwalked kinds knows act free may both = absurd (cc act)
inputs_keep_both hd x tops e k d t (input.Show y) A M unwalked kinds knows act free may both = absurd (cc act)
