-- How a commit's steps go on with what is marked, and which commits a coordinator has under way behind what it does.
use Rattle.arj_law_parts.proofs.Words
use Words.{◌≡◌, ◌≢◌, ◌⊎◌, ◌||◌, ◌==◌, ◌&&◌, ◌++◌, ◌∙◌, ℕ, zero, suc, Bool, true, false, cond, List, [], ◌∷◌, Option, Some, None, ap, inl}
use Words.{inr, refl, subst, sym, ⊎_elim, ◌+◌, ⊤, list_any, Ask, Kind, Label, PreparedReply, Uid, VotedReply, name, End, Path, Aborts, Asks}
use Words.{CommitStep, Confirming, Decides, Machine, Marked, Plan, Preparing, Stays, Used, Voting, begin_confirm, begin_prepare, begin_vote}
use Words.{is_marked, marks_stores, participants, servers_of, stores_left, targets_of, votes_left, waiting, has_record, plan_of}
use Words.{Reply, actor, again_all, again_now, asks_all, asks_node, begin_action, commits_in, doomed_by, goes_on, moved_commit, root_heard}
use Words.{step_call, step_commit, at_place, doomed_at, ended_at, is_own, root_of, at_uid, has, put_uid, without_number, Calling}
use Words.{Committing, Coord, Idle, Now, doing_of, new_coord, on_doing, on_root, Doing, acked, acked_by, acked_left, all_aborted, decide}
use Words.{ended, root_after, CallEnd, CallStep, Ended, On, Steps, Intent, Served, parent_of, is_empty}
use Words.confirmed
use Words.ending
use Words.prepared
use Words.voted
use Words.calls
use Words.commit
use Rattle.arj_law_serial.proofs.Terms.{on_cases, get_more, end_tree_on, doomed_same, FitsMarks}

-- ---- the steps of a commit

-- among these marks
abbrev pub among : List (ℕ × ℕ) → ℕ → ℕ → Bool
among marks x s = list_any (λ (m : ℕ × ℕ). (m.0 == x) && (m.1 == s)) marks

-- with these marks said
abbrev pub plus : (ℕ → ℕ → Bool) → List (ℕ × ℕ) → ℕ → ℕ → Bool
plus f marks x s = f x s || among marks x s

-- a step goes on so, or the commit is over and says no mark
abbrev pub FitsStep : (ℕ → ℕ → Bool) → List (ℕ × ℕ) → CommitStep → Type 0
FitsStep f marks (Stays m) = FitsMarks (plus f marks) m
FitsStep f marks (Asks m) = FitsMarks (plus f marks) m
FitsStep f marks (Decides p) = marks ≡ []
FitsStep f marks (Aborts why p) = marks ≡ []

abbrev pub FitsMoved : (ℕ → ℕ → Bool) → Marked → Type 0
FitsMoved f m = FitsStep f m.marks m.step

or_none : (a b : Bool) → a ≡ false → b ≡ false → (a || b) ≡ false
or_none a b one two = (λ i. one i || two i)

pub or_false : (b : Bool) → (b || false) ≡ b
or_false true = refl
or_false false = refl

or_left_none : (a b : Bool) → a ≡ false → (a || b) ≡ b
or_left_none a b none = λ i. none i || b

-- of another function with the same values
pub fits_same : (f g : ℕ → ℕ → Bool) → ((x s : ℕ) → g x s ≡ f x s) → (m : Machine) → FitsMarks f m → FitsMarks g m
fits_same f g same (Voting p left) (none, empty) = ((λ x s. same x s ∙ none x s), empty)
fits_same f g same (Preparing p left) (none, used) = ((λ x s. same x s ∙ none x s), used)
fits_same f g same (Confirming p) is = λ x s. same x s ∙ is x s

module _ (f : ℕ → ℕ → Bool) where
  -- naming is asked, where all marks are said
  confirm_fits : (marks : List (ℕ × ℕ)) (p : Plan) → ((x s : ℕ) → plus f marks x s ≡ is_marked x s p) →
      (is_empty p.used ≡ false) ⊎ (marks ≡ []) → FitsStep f marks (begin_confirm p.used p)
  confirm_fits marks p said some = by p.used some
    where
      by : (us : List Used) → (is_empty us ≡ false) ⊎ (marks ≡ []) → FitsStep f marks (begin_confirm us p)
      by [] (inl never) = absurd (cc never)
      by [] (inr none) = none
      by (u ∷ us) any = said

  module _ (none : (x s : ℕ) → f x s ≡ false) where
    prepare_fits : (p : Plan) → p.excluded ≡ [] → FitsStep f [] (begin_prepare (targets_of p) p)
    prepare_fits p fresh = by (targets_of p) refl
      where
        by : (ns : List ℕ) → targets_of p ≡ ns → FitsStep f [] (begin_prepare ns p)
        by [] is = confirm_fits [] p (λ x s. or_none (f x s) false (none x s) refl ∙ ap (λ z. among z x s) (sym fresh)) (inr refl)
        by (n ∷ ns) is = ((λ x s. or_none (f x s) false (none x s) refl), used p.used is)
          where
            used : (us : List Used) → (let q = record p { used = us } in targets_of q) ≡ n ∷ ns → is_empty us ≡ false
            used [] e = absurd (cc e)
            used (u ∷ us) e = refl

    votes_fit : (p : Plan) → p.excluded ≡ [] → (left : List ℕ) → FitsStep f [] (votes_left left p)
    votes_fit p fresh [] = prepare_fits p fresh
    votes_fit p fresh (n ∷ ns) = ((λ x s. or_none (f x s) false (none x s) refl), fresh)

    start_fits : (p : Plan) → p.excluded ≡ [] → FitsMoved f (commit.start p)
    start_fits p fresh = by (servers_of p)
      where
        by : (ns : List ℕ) → FitsStep f [] (begin_vote ns p)
        by [] = prepare_fits p fresh
        by (n ∷ ns) = ((λ x s. or_none (f x s) false (none x s) refl), fresh)

    stores_fit : (p : Plan) → is_empty p.used ≡ false → (left : List ℕ) → FitsMoved f (stores_left left p)
    stores_fit p used [] = confirm_fits p.excluded p (λ x s. or_left_none (f x s) (is_marked x s p) (none x s)) (inl used)
    stores_fit p used (n ∷ ns) = ((λ x s. or_none (f x s) false (none x s) refl), used)

    all_marked : (ns : List ℕ) (p : Plan) → is_empty p.used ≡ false → is_empty (marks_stores ns p).used ≡ false
    all_marked [] p used = used
    all_marked (n ∷ ns) p used = all_marked ns (commit.marks_store n p) used

  stays_fits : (m : Machine) → FitsMarks f m → FitsMarks (plus f []) m
  stays_fits m is = fits_same f (plus f []) (λ x s. or_false (f x s)) m is

  voted_fits : (from : ℕ) (left : List ℕ) (p : Plan) → ((x s : ℕ) → f x s ≡ false) → p.excluded ≡ [] → (r : VotedReply) →
      FitsMoved f (commit.voted_by from left p r)
  voted_fits from left p none fresh (voted.Yes states) = votes_fit none (record p { changed = commit.with_states states p.changed }) fresh _
  voted_fits from left p none fresh (voted.Changed w) = refl

  prepared_fits : (from : ℕ) (left : List ℕ) (p : Plan) → ((x s : ℕ) → f x s ≡ false) → is_empty p.used ≡ false → (r : PreparedReply) →
      FitsMoved f (commit.prepared_by from left p r)
  prepared_fits from left p none used prepared.Yes = stores_fit none _ used _
  prepared_fits from left p none used (prepared.InDoubt x holder) = stores_fit none (commit.marks_store from p) used _
  prepared_fits from left p none used (prepared.Old x v) = refl

  -- an answer
  pub answered_fits : (from : ℕ) (m : Machine) (r : Reply) → FitsMarks f m → FitsMoved f (commit.answered from m r)
  answered_fits from (Voting p left) (Reply.Voted r) is = voted_fits from left p is.0 is.1 r
  answered_fits from (Preparing p left) (Reply.Prepared r) is = prepared_fits from left p is.0 is.1 r
  answered_fits from (Confirming p) (Reply.Confirmed confirmed.Yes) is = refl
  answered_fits from (Confirming p) (Reply.Confirmed (confirmed.Conflict h m)) is = refl
  answered_fits from (Confirming p) (Reply.Confirmed (confirmed.Changed w)) is = refl
  answered_fits from (Confirming p) (Reply.Confirmed (confirmed.NoStores x)) is = refl
  answered_fits from (Confirming p) (Reply.Confirmed (confirmed.Listed x s)) is = refl
  answered_fits from m r is = stays_fits m is

  -- a giveup
  pub lost_fits : (m : Machine) → FitsMarks f m → FitsMoved f (commit.given_up m)
  lost_fits (Voting p left) is = refl
  lost_fits (Preparing p left) is = stores_fit is.0 (marks_stores left p) (all_marked is.0 left p is.1) []
  lost_fits (Confirming p) is = refl

  -- and the start
  pub begin_fits : (p : Plan) → ((x s : ℕ) → f x s ≡ false) → p.excluded ≡ [] → FitsMoved f (commit.start p)
  begin_fits p none fresh = start_fits none p fresh

-- ---- coordinators

-- a step goes on so
abbrev pub GoesOn : (ℕ → ℕ → Bool) → CommitStep → Type 0
GoesOn f (Stays m) = FitsMarks f m
GoesOn f (Asks m) = FitsMarks f m
GoesOn f _ = ⊤

-- the marks of an action, by its name
module _ (F : List ℕ → ℕ → ℕ → Bool) where
  abbrev pub Says : Doing → Type 0
  Says d = (m : Machine) → d.now ≡ Committing m → FitsMarks (F (name d.label)) m

  abbrev pub All : Coord → Type 0
  All c = (u : Uid) (d : Doing) → doing_of u c ≡ Some d → Says d

  -- of all but this action
  abbrev pub AllBut : Uid → Coord → Type 0
  AllBut u c = (w : Uid) (d : Doing) → w ≢ u → doing_of w c ≡ Some d → Says d

  idle : (d : Doing) → Says (record d { now = Idle })
  idle d m is = let no_way : ◌≡◌ {A = Now} Idle (Committing m) = is in absurd (cc no_way)

  calling : (d : Doing) (req : ℕ) (s : Steps) → Says (record d { req = req; now = Calling s })
  calling d req s m is = let no_way : ◌≡◌ {A = Now} (Calling s) (Committing m) = is in absurd (cc no_way)

  committing : (d : Doing) (req : ℕ) (m : Machine) → FitsMarks (F (name d.label)) m → Says (record d { req = req; now = Committing m })
  committing d req m fits h is = let e : ◌≡◌ {A = Now} (Committing m) (Committing h) = is in let same : m ≡ h = cc e in
      subst (FitsMarks (F (name d.label))) same fits

  work : (u : Uid) (f : Doing → Doing) (e : Coord) → ((d : Doing) → doing_of u e ≡ Some d → Says (f d)) → AllBut u e → All (on_doing u f e)
  work u f e its a w q found = ⊎_elim (λ same. subst Says same.3 (its same.1 (ap (λ v. doing_of v e) (sym same.0) ∙ same.2)))
      (λ other. a w q other.0 other.1) (on_cases u f e w q found)

  pub but : (u : Uid) (e : Coord) → All e → AllBut u e
  but u e a w d other found = a w d found

  own_but : (u : Uid) (e f : Coord) → ((w : Uid) → is_own w f.tree ≡ is_own w e.tree) → f.doings ≡ e.doings → AllBut u e → AllBut u f
  own_but u e f own doings a w d other found = a w d other ((λ i. cond (sym (own w) i) (at_place w.num (sym doings i)) None) ∙ found)

  pub own_all : (e f : Coord) → ((w : Uid) → is_own w f.tree ≡ is_own w e.tree) → f.doings ≡ e.doings → All e → All f
  own_all e f own doings a w d found = a w d ((λ i. cond (sym (own w) i) (at_place w.num (sym doings i)) None) ∙ found)

  pub ended_all : (u : Uid) (how : End) (e : Coord) → AllBut u e → All (ended u how e)
  ended_all u how e a = let g = end_tree_on u how e in work u (λ (d : Doing). record d { now = Idle })
      (record e { tree = ended_at u how e.tree }) (λ d found. idle d) (own_but u e (record e { tree = ended_at u how e.tree }) g.own refl a)

  pub aborted_all : (us : List Uid) (e : Coord) → All e → All (all_aborted us e).part
  aborted_all [] e a = a
  aborted_all (u ∷ us) e a = aborted_all us (ended u ending.Abort e) (ended_all u ending.Abort e (but u e a))

  asks_all_all : (p : Path) (req : ℕ) (asked : List (ℕ × Ask)) (e : Coord) → All e → All (asks_all p req asked e).part
  asks_all_all p req [] e a = a
  asks_all_all p req (q ∷ rest) e a = asks_all_all p req rest (asks_node p req q e).part (λ w d found. a w d found)

  decide_all : (p : Plan) (e : Coord) → All e → All (decide p e).part
  decide_all p e a = by (has_record p)
    where
      u : Uid
      u = actor p.path

      one : Coord
      one = ended u ending.Commit e

      two : Coord
      two = on_doing u (λ (d : Doing). record d { took = participants p }) one

      its_one : All one
      its_one = ended_all u ending.Commit e (but u e a)

      its_two : All two
      its_two = work u (λ (d : Doing). record d { took = participants p }) one (λ d found m is. its_one u d found m is) (but u one its_one)

      by : (b : Bool) → All (cond b (record (on_root (root_of p.path) (root_after p) two) {
        telling = put_uid u
            (record { root = root_of p.path; nodes = participants p }) (on_root (root_of p.path) (root_after p) two).telling;
      })
          (on_root (root_of p.path) (root_after p) two))
      by true w d found = its_two w d found
      by false w d found = its_two w d found

  pub goes_all : (s : Steps) (e : Coord) → All e → All (goes_on s e).part
  goes_all s e a u d found = work (actor s.path) (λ (d : Doing). record d { req = s.req; now = Calling s }) e (λ q at. calling q s.req s)
      (but (actor s.path) e a) u d found

  pub call_all : (s : Steps) (n : CallStep) (e : Coord) → All e → All (step_call s n e).part
  call_all s (On at) e a = goes_all (record s { req = s.req + 1; at = at }) e a
  call_all s (Ended g) e a = by g
    where
      told : Coord
      told = on_root (root_of s.path) (root_heard s g) (on_doing (actor s.path) (λ (d : Doing). record d { now = Idle }) e)

      so : All told
      so u d found = work (actor s.path) (λ (d : Doing). record d { now = Idle }) e (λ q at. idle q) (but (actor s.path) e a) u d found

      by : (h : CallEnd) → All (doomed_by (actor s.path) h told)
      by (calls.Answered x) = so
      by (calls.Included st) = so
      by (calls.Conflict h x n) = so
      by (calls.Changed n w) = so
      by (calls.Lost n false) = so
      by (calls.Lost n true) = let q = doomed_same (actor s.path) told.tree in
          own_all told (record told { tree = doomed_at (actor s.path) told.tree }) q.own refl so

  -- a commit's step, after which the other actions are as they were
  pub moved_all : (u : Uid) (m : Marked) (intents : List (Uid × Intent)) (e : Coord) → AllBut u e → ((p : Plan) → m.step ≡ Decides p →
      All e) → ((d : Doing) → doing_of u e ≡ Some d → GoesOn (F (name d.label)) m.step) → All (moved_commit u m intents e).part
  moved_all u m intents e others whole its = by m.step whole its
    where
      by : (s : CommitStep) → ((p : Plan) → s ≡ Decides p → All e) → ((d : Doing) → doing_of u e ≡ Some d → GoesOn (F (name d.label)) s) →
          All (step_commit u s intents e).part
      by (Stays n) w its = work u (λ (d : Doing). record d { req = (plan_of n).req; now = Committing n }) e
          (λ d found. committing d (plan_of n).req n (its d found)) others
      by (Asks n) w its = asks_all_all (plan_of n).path (plan_of n).req (waiting n) (commits_in u n e) (work u (λ (d : Doing).
          record d { req = (plan_of n).req; now = Committing n }) e (λ d found. committing d (plan_of n).req n (its d found)) others)
      by (Decides p) w its = decide_all p e (w p refl)
      by (Aborts why p) w its = ended_all u ending.Abort e others

  pub again_same : (ds : List Doing) (e : Coord) → All e → All (again_all ds e).part
  again_same [] e a = a
  again_same (d ∷ ds) e a = again_same ds (again_now e d.now).part (by d.now)
    where
      by : (n : Now) → All (again_now e n).part
      by Idle = a
      by (Calling z) = λ w q found. a w q found
      by (Committing m) = asks_all_all (plan_of m).path (plan_of m).req (waiting m) e a

  pub acked_same : (from : ℕ) (u : Uid) (intents : List (Uid × Intent)) (e : Coord) → All e → All (acked from u intents e).part
  acked_same from u intents e a = by (at_uid u e.telling)
    where
      left : (i : Intent) (ns : List ℕ) → All (acked_left u i intents e ns).part
      left i [] w q found = a w q found
      left i (n ∷ ns) w q found = a w q found

      by : (o : Option Intent) → All (acked_by from u intents e o).part
      by None = a
      by (Some i) = one (has i.nodes from)
        where
          one : (b : Bool) → All (cond {A = Served Coord (Unit {0})} b (acked_left u i intents e (without_number from i.nodes))
              (record { part = e; outs = []; reply = None })).part
          one true = left i (without_number from i.nodes)
          one false = a

  pub begins_all : (l : Label) (how : Kind) (parent : Option Label) (e : Coord) → All e →
      All (begin_action l how parent (parent_of parent e) e).part
  begins_all l how parent e a u d found m is = ⊎_elim (λ old. a u d old m is)
      (λ last. let no_way : ◌≡◌ {A = Now} Idle (Committing m) = sym last ∙ is in absurd (cc no_way)) (was (is_own u e.tree) u.num found)
    where
      fresh : Doing
      fresh = record { label = l; req = 0; now = Idle; took = [] }

      was : (b : Bool) (j : ℕ) → cond b (at_place j (e.doings ++ fresh ∷ [])) None ≡ Some d →
          (cond b (at_place j e.doings) None ≡ Some d) ⊎ (d.now ≡ Idle)
      was true zero at = absurd (cc at)
      was true (suc j) at = ⊎_elim (λ old. inl old) (λ its. inr (ap (λ (z : Doing). z.now) (sym its.1))) (get_more j fresh d e.doings at)
      was false j at = absurd (cc at)

  pub new_all : (node inc : ℕ) (telling : List (Uid × Intent)) → All (record (new_coord node inc) { telling = telling })
  new_all node inc telling u d found m is = absurd (by (is_own u (let c = new_coord node inc in c.tree)) u.num found)
    where
      by : (x : Bool) (j : ℕ) → cond x (at_place j []) None ≡ Some d → ⊥
      by true zero e = cc e
      by true (suc j) e = cc e
      by false j e = cc e

-- of other marks with the same values
pub all_same : (F G : List ℕ → ℕ → ℕ → Bool) (c : Coord) → ((l : List ℕ) (x s : ℕ) → G l x s ≡ F l x s) → All F c → All G c
all_same F G c same a u d found m is = fits_same (F (name d.label)) (G (name d.label)) (same (name d.label)) m (a u d found m is)
