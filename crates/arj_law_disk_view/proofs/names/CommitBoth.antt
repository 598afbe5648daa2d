-- A commit's steps at a coordinator, walked with both halves.
use Rattle.arj_law_parts.proofs.Words
use Words.{◌≡◌, ◌⊎◌, ℕ, List, [], ◌∷◌, ◌++◌, ◌&&◌, true, false, Option, Some, None, refl, sym, ◌∙◌, ap, subst, inl, inr, ⊎_elim, list_all}
use Words.{and_parts, Uid, Ask, Body, Label, Path, asks_all, asks_machine, asks_node, commits_in, mark_lines, moved_commit, CommitStep}
use Words.{Asks, Stays, Machine, Used, Voting, Preparing, Confirming, begin_confirm, begin_prepare, begin_vote, further, plan_of}
use Words.{targets_of, votes_left, waiting, Coord, Doing, Committing, doing_of, Disk, Effect, Intent, Say, Send, Do, Work, Look, PutInc}
use Words.{Prepare, Commit, Abort, PutIntent, RemoveIntent, say_for, says, Parts, with_coord, uid_number, AreAll, is_coord_effect, Branch}
use Words.{branch_of, all_both, Seen}
use Words.body
use Words.commit
use Rattle.arj_law_disk_view.proofs.Terms
use Terms.{World, Follows, Whole, after, run, AreOnlyOf, only_begins, Office, is_idle, falls_to, never, put_same, effect_keeps, up, Up}
use Terms.{walks_to, plan_at, Along, IsLater, IsSeenByDisks, Kinds, SeesDisks, Works, followed, BothWalk, DisksWalk, SeesBoth, is_no_work}
use Terms.{leaves_the_inc, BeginsLater, MayGoOn, is_voting}
use Terms.machine
use Terms.disk
use Rattle.arj_law_disk_view.proofs.names.CoordBoth.{begin_of, beginnings_keep_both, no_work}
use Rattle.arj_law_disk_view.proofs.names.Pairing.{quiet_walks_keep_both, unfollowed}
use Rattle.arj_law_disk_view.proofs.view
use view.{BeginWalks.before_idle, DecideWalks.confirming_of, Doings.doing_here, Doings.doing_tree, Follows.walks_are_followed}
use view.{Frames.node_here, Later.effects_are_later}
use view.HeardWalks.{asks_roots, is_say, preparing_of}
use Rattle.arj_protocol.specs.Says.{is_intent_work}

-- ---- a coordinator leaves the incarnation

intents_leave : (w : Work) → is_intent_work w ≡ true → leaves_the_inc (Do w) ≡ true
intents_leave Look is = refl
intents_leave (PutInc i) is = absurd (never is refl)
intents_leave (Prepare r u states) is = refl
intents_leave (Commit r u) is = refl
intents_leave (Abort r u) is = refl
intents_leave (PutIntent u i) is = refl
intents_leave (RemoveIntent u) is = refl

pub coord_leaves : (es : List Effect) → AreAll is_coord_effect es → AreAll leaves_the_inc es
coord_leaves [] all = refl
coord_leaves (Say b ∷ es) all = coord_leaves es (and_parts (is_coord_effect (Say b)) (list_all is_coord_effect es) all).1
coord_leaves (Send to m ∷ es) all = coord_leaves es (and_parts (is_coord_effect (Send to m)) (list_all is_coord_effect es) all).1
coord_leaves (Do w ∷ es) all = let p = and_parts (is_coord_effect (Do w)) (list_all is_coord_effect es) all in
    all_both leaves_the_inc (Do w ∷ []) es (ap (λ b. b && true) (intents_leave w p.0)) (coord_leaves es p.1)

-- ---- what needs no beginning

-- once a top's commit has begun it begins no more
begun_plain : (t : ℕ) (W : World) (es : List machine.Effect) → Whole W → W.disk.begun t ≡ true → Follows W es →
    AreOnlyOf (only_begins t) es → AreOnlyOf (λ n. false) es
begun_plain t W [] whole begun follows only = tt
begun_plain t W (a ∷ es) whole begun follows only = (
  ⊎_elim (λ plain. plain) (λ q. absurd (again (subst (λ z. machine.Allowed W z) q.1 follows.0))) (begin_of t a only.0),
  begun_plain t (after W a) es (effect_keeps W a follows.0 whole) ((effects_are_later W (a ∷ []) (follows.0, tt) whole).begun t begun)
      follows.1 only.1,
)
  where
    again : {p : disk.Plan} → machine.CanBegin W.disk t p → ⊥
    again can = never (ap is_idle can.idle) (whole.core.fresh.begun t begun)

-- and where it hasn't begun in the end it didn't
unbegun_plain : (t : ℕ) (W : World) (es : List machine.Effect) → Whole W → Follows W es → AreOnlyOf (only_begins t) es →
    (run W es).disk.begun t ≡ false → AreOnlyOf (λ n. false) es
unbegun_plain t W [] whole follows only none = tt
unbegun_plain t W (a ∷ es) whole follows only none = (
  ⊎_elim (λ plain. plain) (λ q. absurd (never (later.begun t (subst (λ z. (after W z).disk.begun t ≡ true) (sym q.1) (begins q.0))) none))
      (begin_of t a only.0),
  unbegun_plain t (after W a) es kept follows.1 only.1 none,
)
  where
    kept : Whole (after W a)
    kept = effect_keeps W a follows.0 whole

    later : IsLater (after W a) (run (after W a) es)
    later = effects_are_later (after W a) es follows.1 kept

    begins : (p : disk.Plan) → (after W (machine.Begin t p)).disk.begun t ≡ true
    begins p = put_same t true W.disk.begun

-- ---- what has no work

work_leaves : (es : List Effect) → AreAll is_no_work es → AreAll leaves_the_inc es
work_leaves [] all = refl
work_leaves (Say b ∷ es) all = work_leaves es all
work_leaves (Send to m ∷ es) all = work_leaves es all
work_leaves (Do w ∷ es) all = absurd (never all refl)

pub says_work : (u : Uid) (f : Label → Body) (c : Coord) → AreAll is_no_work (says u f c)
says_work u f c = by (doing_of u c)
  where
    by : (o : Option Doing) → AreAll is_no_work (say_for f o)
    by None = refl
    by (Some q) = refl

pub says_say : (u : Uid) (f : Label → Body) (c : Coord) → AreAll is_say (says u f c)
says_say u f c = by (doing_of u c)
  where
    by : (o : Option Doing) → AreAll is_say (say_for f o)
    by None = refl
    by (Some q) = refl

marks_work : (u : Uid) (marks : List (ℕ × ℕ)) (c : Coord) → AreAll is_no_work (mark_lines u marks c)
marks_work u [] c = refl
marks_work u (m ∷ ms) c = all_both is_no_work (says u (λ l. body.Excluded l m.0 m.1) c) (mark_lines u ms c)
    (says_work u (λ l. body.Excluded l m.0 m.1) c) (marks_work u ms c)

asks_work : (p : Path) (req : ℕ) (left : List (ℕ × Ask)) (c : Coord) → AreAll is_no_work (let z = asks_all p req left c in z.outs)
asks_work p req [] c = refl
asks_work p req (a ∷ rest) c = asks_work p req rest (asks_node p req a c).part

-- ---- a step that asks further, or stays

abbrev pub GoesOn : CommitStep → Type 0
GoesOn step = (m : Machine) × ((step ≡ Asks m) ⊎ (step ≡ Stays m))

begin_goes : (ts : List ℕ) (p : commit.Plan) (u : Used) (us : List Used) → p.used ≡ u ∷ us → GoesOn (begin_prepare ts p)
begin_goes [] p u us is = subst (λ z. GoesOn (begin_confirm z p)) (sym is) (Confirming (further (1 ∷ []) p), inl refl)
begin_goes (s ∷ ss) p u us is = (Preparing (further (s ∷ ss) p) (s ∷ ss), inl refl)

pub vote_goes : (ss : List ℕ) (p : commit.Plan) (u : Used) (us : List Used) → p.used ≡ u ∷ us → GoesOn (begin_vote ss p)
vote_goes [] p u us is = begin_goes (targets_of p) p u us is
vote_goes (s ∷ ss) p u us is = (Voting (further (s ∷ ss) p) (s ∷ ss), inl refl)

pub left_goes : (rest : List ℕ) (p : commit.Plan) (u : Used) (us : List Used) → p.used ≡ u ∷ us → GoesOn (votes_left rest p)
left_goes [] p u us is = begin_goes (targets_of p) p u us is
left_goes (n ∷ ns) p u us is = (Voting p (n ∷ ns), inr refl)

-- ---- the walk

module _ (x : ℕ) (tops : Kinds) (unwalked : tops.walk ≡ None) (e k : ℕ) (d : Disk) (t : Parts) (A : Office) (M : Seen)
    (both : SeesBoth x tops A (up k d t M)) where
  abbrev Noted : ℕ → Seen → Type 0
  Noted u = IsSeenByDisks x (followed tops A.world (only_begins u))

  abbrev Plainly : Seen → Type 0
  Plainly = IsSeenByDisks x (followed tops A.world (λ n. false))

  to_plain : (u : ℕ) (W : World) (N : Seen) →
      ((es : List machine.Effect) → Follows A.world es → AreOnlyOf (only_begins u) es → run A.world es ≡ W → AreOnlyOf (λ n. false) es)
      → SeesDisks x (followed tops A.world (only_begins u)) W N → Plainly N
  to_plain u W N turn s =
      let a : Along (record { from = A.world; noted = only_begins u }) W = s.along in (
        W,
        walks_are_followed x (followed tops A.world (only_begins u)) (Some (record { from = A.world; noted = λ n. false })) W N
            (record { effects = a.effects; allowed = a.allowed; here = a.here; only = turn a.effects a.allowed a.only a.here }) s,
      )

  pub plain_both : (v : Parts) (outs : List Effect) → AreAll leaves_the_inc outs → v.naming ≡ t.naming →
      DisksWalk (λ n. false) x tops A e k outs v d M → BothWalk x tops A e k outs v d M
  plain_both v outs all naming walk = quiet_walks_keep_both x tops e k d t v outs A M unwalked all naming both walk

  -- a commit that has begun, whatever the step
  pub begun_both : (u : ℕ) (v : Parts) (outs : List Effect) → A.world.disk.begun u ≡ true → AreAll leaves_the_inc outs →
      v.naming ≡ t.naming → DisksWalk (only_begins u) x tops A e k outs v d M → BothWalk x tops A e k outs v d M
  begun_both u v outs begun all naming walk = plain_both v outs all naming (walks_to (Noted u) Plainly e k outs (Up (Noted u) k v)
      (Up Plainly k v) d M (λ N s. turned N s) (λ c N s. turned (up k c v N) s) walk)
    where
      turned : (N : Seen) → Noted u N → Plainly N
      turned N (W, s) = to_plain u W N (λ es follows only is. begun_plain u A.world es (let c = both.disks in c.whole) begun follows only) s

  -- one that hasn't begun in the end
  unbegun_both : (u : ℕ) (v : Parts) (outs : List Effect) → AreAll is_no_work outs → v.naming ≡ t.naming →
      ((W : World) (N : Seen) → SeesDisks x tops W (up k d v N) → W.disk.begun u ≡ false) →
      DisksWalk (only_begins u) x tops A e k outs v d M → BothWalk x tops A e k outs v d M
  unbegun_both u v outs all naming none walk = plain_both v outs (work_leaves outs all) naming
      (no_work e k M (Noted u) Plainly (Up (Noted u) k v) (Up Plainly k v) d (λ L same s. turned L s) outs all M refl walk)
    where
      turned : (L : Seen) → Noted u (up k d v L) → Plainly (up k d v L)
      turned L (W, s) = to_plain u W (up k d v L) (λ es follows only is. unbegun_plain u A.world es (let c = both.disks in c.whole) follows
          only (ap (λ (V : World). V.disk.begun u) is ∙ none W L (unfollowed x tops unwalked (only_begins u) A.world W (up k d v L) s))) s

  -- an open top whose commit goes on
  open_both : (v : Parts) (outs : List Effect) (u : Uid) (b : Branch) (q : Doing) (m : Machine) → AreAll is_no_work outs →
      v.naming ≡ t.naming → branch_of u v.coord.tree ≡ Some b → b.ended ≡ None → doing_of u v.coord ≡ Some q → q.now ≡ Committing m →
      tops.is_top (uid_number u) ≡ true
      → MayGoOn x A v.coord → DisksWalk (only_begins (uid_number u)) x tops A e k outs v d M → BothWalk x tops A e k outs v d M
  open_both v outs u b q m all naming found unended at_work now top may walk = by m now
    where
      works : (W : World) (N : Seen) → SeesDisks x tops W (up k d v N) → Works x tops W.disk (uid_number u) b.kind q.now
      works W N s = (s.coords k (record { number = k; disk = d; live = Some v }) v
          (node_here N k (record { number = k; disk = d; live = Some v })) refl).working u b q found unended at_work

      begins : (m : Machine) (p : commit.Plan) → plan_of m ≡ p → q.now ≡ Committing m → is_voting m ≡ false → ((W : World) (N : Seen) →
          SeesDisks x tops W (up k d v N) → W.disk.plan (uid_number u) ≡ plan_at x p) → BothWalk x tops A e k outs v d M
      begins m p same is past planned = beginnings_keep_both x tops e k d t v outs (uid_number u) (plan_at x p) A M unwalked all naming both
          (λ W N s begun. planned W N s)
          (λ C c names later still none can.
          subst (λ z. BeginsLater x A u z) same (may u q m at_work is past) C c names later still none can) walk

      by : (m : Machine) → q.now ≡ Committing m → BothWalk x tops A e k outs v d M
      by (Voting p left) is = unbegun_both (uid_number u) v outs all naming
          (λ W N s. falls_to (W.disk.begun (uid_number u)) (λ begun. never (ap is_idle (before_idle x tops W.disk (uid_number u) b.kind
          (Committing (Voting p left)) tt top (subst (λ n. Works x tops W.disk (uid_number u) b.kind n) is (works W N s))))
          (s.whole.core.fresh.begun (uid_number u) begun))) walk
      by (Preparing p left) is = begins (Preparing p left) p refl is refl
          (λ W N s. (preparing_of x tops W.disk (uid_number u) b.kind q.now p left top is (works W N s)).plan)
      by (Confirming p) is = begins (Confirming p) p refl is refl
          (λ W N s. (confirming_of x tops W.disk (uid_number u) b.kind q.now p top is (works W N s)).plan)

  abbrev Went : List Effect → Uid → List (ℕ × ℕ) → List (Uid × Intent) → CommitStep → Type 0
  Went first u marks intents s = let did = moved_commit u (record { step = s; marks = marks }) intents t.coord in
      MayGoOn x A did.part → DisksWalk (only_begins (uid_number u)) x tops A e k (first ++ did.outs) (with_coord t did.part) d M →
      BothWalk x tops A e k (first ++ did.outs) (with_coord t did.part) d M

  -- and that takes such a step, with something said before
  pub going_both : (first : List Effect) (u : Uid) (b : Branch) (q : Doing) (step : CommitStep) (marks : List (ℕ × ℕ))
      (intents : List (Uid × Intent)) → AreAll is_no_work first → branch_of u t.coord.tree ≡ Some b → b.ended ≡ None →
      doing_of u t.coord ≡ Some q → tops.is_top (uid_number u) ≡ true → GoesOn step
      → Went first u marks intents step
  going_both first u b q step marks intents quiet found unended at_work top (m, kind) = ⊎_elim
      (λ same. subst (Went first u marks intents) (sym same) asked) (λ same. subst (Went first u marks intents) (sym same) stayed) kind
    where
      c1 : Coord
      c1 = commits_in u m t.coord

      tree : branch_of u c1.tree ≡ Some b
      tree = ap (branch_of u) (doing_tree u (λ (r : Doing). record r { req = (plan_of m).req; now = Committing m }) t.coord) ∙ found

      doing : doing_of u c1 ≡ Some (record q { req = (plan_of m).req; now = Committing m })
      doing = doing_here u (λ (r : Doing). record r { req = (plan_of m).req; now = Committing m }) t.coord q at_work

      asked : Went first u marks intents (Asks m)
      asked may walk =
          let parts = asks_roots (plan_of m).path (plan_of m).req (waiting m) c1 in
          open_both (with_coord t (asks_machine m c1).part) (first ++ (mark_lines u marks t.coord ++ (asks_machine m c1).outs)) u b
          (record q { req = (plan_of m).req; now = Committing m }) m
          (all_both is_no_work first (mark_lines u marks t.coord ++ (asks_machine m c1).outs) quiet (all_both is_no_work (mark_lines u marks
          t.coord) (asks_machine m c1).outs (marks_work u marks t.coord) (asks_work (plan_of m).path (plan_of m).req (waiting m) c1)))
          refl
          (ap (λ (c : Coord). branch_of u c.tree) parts ∙ tree) unended (ap (λ (c : Coord). doing_of u c) parts ∙ doing) refl top may walk

      stayed : Went first u marks intents (Stays m)
      stayed may walk = open_both (with_coord t c1) (first ++ (mark_lines u marks t.coord ++ [])) u b
          (record q { req = (plan_of m).req; now = Committing m }) m
          (all_both is_no_work first (mark_lines u marks t.coord ++ []) quiet (all_both is_no_work (mark_lines u marks t.coord) []
          (marks_work u marks t.coord) refl)) refl tree unended doing refl top may walk
