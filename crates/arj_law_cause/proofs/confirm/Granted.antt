-- What roots were granted on entries, and what plans of commits under way use, through all that a coordinator does.
use Rattle.arj_law_parts.proofs.Words
use Words.{⊤, ◌≡◌, ◌⊎◌, ◌∙◌, ◌==◌, ◌&&◌, ◌++◌, nat_le, ℕ, Bool, true, false, cond, List, [], ◌∷◌, Option, Some, None, IfSome, arith, min}
use Words.{refl}
use Words.{ap, subst, sym, inl, inr, and_parts, eqb-true, list_any, AllByRecursion, Label, Path, Reply, Uid, uid_eq, uid_is, uids_of}
use Words.{actor, top_of, granted_by, granted_with, is_grant_of, named_last, notes_grant, last_req, root_heard, root_lost, root_moved}
use Words.{is_invoke_ask, keeps_after, has_changed, keeping_of, renewed, is_ended, spoils, given_up, Asked, waits_for_call}
use Words.{CallEnd, Answered, Included, Conflict, Changed, Lost, CallStep, Steps, Moved, Used, Plan, Machine, Voting, Preparing, Confirming}
use Words.{plan_of, CommitStep, Stays, Asks, begin_confirm, begin_prepare, begin_vote, stores_left, votes_left, servers_of, targets_of}
use Words.{marks_store, marks_stores, with_number, with_states, without_number, Coord, new_coord, Doing, Now, Idle, Calling, Committing}
use Words.{Root, Went, Said, Grant, no_root, root_at, on_root, on_doing, is_free, plan_for, with_keeping, with_went, with_said, same_went}
use Words.{same_said}
use Words.{root_after, root_of, Intent, Input, doing_of, begin_action, Branch, Kind, is_nested, is_serial, branch_named, Effect, heard}
use Words.{acts, acked}
use Words.{again_all, change_doing, ended, participants}
use Words.bound
use Words.calls
use Words.commit
use Words.confirmed
use Words.input
use Words.prepared
use Words.voted
use Words.ending
use Rattle.arj_law_parts.proofs.coordinator
use coordinator.Trace.{Came, Takes, Hears, turned, kept_at_start, used_at, rested, took_part}
use coordinator.Trace.{CallTurn, Answers, GivesUp, CommitTurn, BeginsCommit, AnswersCommit, GivesCommitUp}
use coordinator.Trace.{Move, Renews, Turns, Notes, KeepsAfter, SentTo, Rests, Waits, CommitsIn, EndsAt, TakesPart, Trace, trace_keeps}
use coordinator.Walks.{acked_trace, acts_trace, again_trace, heard_trace}
use coordinator.Works.{KeepsWorks, works_begun, works_move, works_new}
use Rattle.arj_law_parts.proofs.parts.LivesNamed.{keyed_at, keyed_put}

-- ---- what is known

module _ (H : ℕ → Uid → ℕ → ℕ → Type 0) (P : Uid → Used → Type 0) where
  -- of a lock that a top of the root with this number was granted
  abbrev pub IsHad : ℕ → Grant → Type 0
  IsHad k g = H k g.top g.x g.least

  -- of all that the root was granted
  abbrev pub AreHad : ℕ → List Grant → Type 0
  AreHad k gs = AllByRecursion (IsHad k) gs

  -- what an action is at
  abbrev pub NowHad : Uid → Now → Type 0
  NowHad u Idle = ⊤
  NowHad u (Calling s) = ⊤
  NowHad u (Committing m) = AllByRecursion (P u) (let p = plan_of m in p.used)

  -- a coordinator's roots, and its commits under way
  pub record CoordHad (c : Coord) : Type 0 where
    pub works : (u : Uid) (d : Doing) → doing_of u c ≡ Some d → NowHad u d.now
    pub roots : AllByRecursion (λ (e : ℕ × Root). AreHad e.0 (let r = e.1 in r.grants)) c.roots

  -- what comes to it: an answer grants what is so, and of a commit that is called so is all that its plan uses
  abbrev pub CameHad : Came → Coord → Type 0
  CameHad (Hears from a r intents) c = (d : Doing) (s : Steps) → doing_of a.act c ≡ Some d → d.now ≡ Calling s →
      waits_for_call from a r s ≡ true → IfSome (granted_by (top_of s.path) s.x r) (IsHad (let u = root_of s.path in u.num))
  CameHad (Takes (input.Commit l) intents) c = (b : Branch) → branch_named l c ≡ Some b → is_nested b.kind ≡ false → is_serial b.kind ≡ false →
      AllByRecursion (P (actor b.path))
      (let p = plan_for b.path (last_req (doing_of (actor b.path) c)) (root_at (root_of b.path) c) c in p.used)
  CameHad came c = ⊤

  -- ---- roots

  lesser : (Q : ℕ → Type 0) (a b : ℕ) → Q a → Q b → Q (min a b)
  lesser Q a b x y = by (nat_le a b) refl
    where
      left : nat_le a b ≡ true → min a b ≡ a
      left is = grind (arith, is)

      right : nat_le a b ≡ false → min a b ≡ b
      right is = grind (arith, is)

      by : (q : Bool) → nat_le a b ≡ q → Q (min a b)
      by true is = subst Q (sym (left is)) x
      by false is = subst Q (sym (right is)) y

  granted_had : (k : ℕ) (g : Grant) (gs : List Grant) → IsHad k g → AreHad k gs → AreHad k (granted_with g gs)
  granted_had k g [] its all = (its, tt)
  granted_had k g (h ∷ hs) its all = by (is_grant_of g.top g.x h) refl (granted_had k g hs its all.1)
    where
      its_too : is_grant_of g.top g.x h ≡ true → H k h.top h.x g.least
      its_too is = let p = and_parts (uid_eq h.top g.top) (h.x == g.x) is in
          subst (λ t. H k t h.x g.least) (sym (uid_is h.top g.top p.0)) (subst (λ y. H k g.top y g.least) (sym (eqb-true h.x g.x p.1)) its)

      by : (b : Bool) → is_grant_of g.top g.x h ≡ b → AreHad k (granted_with g hs) →
          AreHad k (cond b (record h { least = min h.least g.least; named = named_last g.named h.named } ∷ hs) (h ∷ granted_with g hs))
      by true is ih = (lesser (H k h.top h.x) h.least g.least all.0 (its_too is), all.1)
      by false is ih = (all.0, ih)

  notes_had : (k : ℕ) (o : Option Grant) (r : Root) → IfSome o (IsHad k) → AreHad k r.grants → AreHad k (notes_grant o r).grants
  notes_had k None r its all = all
  notes_had k (Some g) r its all = granted_had k g r.grants its all

  went_had : (k : ℕ) (w : Went) (r : Root) → AreHad k r.grants → AreHad k (with_went w r).grants
  went_had k w r all = by (list_any (same_went w) r.went)
    where
      by : (b : Bool) → AreHad k (cond b r (record r { went = r.went ++ w ∷ [] })).grants
      by true = all
      by false = all

  said_had : (k : ℕ) (s : Said) (r : Root) → AreHad k r.grants → AreHad k (with_said s r).grants
  said_had k s r all = by (list_any (same_said s) r.said)
    where
      by : (b : Bool) → AreHad k (cond b r (record r { said = r.said ++ s ∷ [] })).grants
      by true = all
      by false = all

  heard_had : (k : ℕ) (s : Steps) (e : CallEnd) (r : Root) → AreHad k r.grants → AreHad k (root_heard s e r).grants
  heard_had k s (Answered a) r all = said_had k (record { path = uids_of s.path; x = s.x }) r all
  heard_had k s (Included st) r all = all
  heard_had k s (Conflict h m n) r all = all
  heard_had k s (Changed n w) r all = all
  heard_had k s (Lost n b) r all = all

  abbrev RootsHad : Coord → Type 0
  RootsHad c = AllByRecursion (λ (e : ℕ × Root). AreHad e.0 (let r = e.1 in r.grants)) c.roots

  pub its_grants : (root : Uid) (c : Coord) → AllByRecursion (λ (e : ℕ × Root). AreHad e.0 (let r = e.1 in r.grants)) c.roots →
      AreHad root.num (root_at root c).grants
  its_grants root c all = keyed_at (λ k (r : Root). AreHad k r.grants) no_root root.num tt c.roots all

  roots_put : (root : Uid) (f : Root → Root) (c : Coord) → (AreHad root.num (root_at root c).grants →
      AreHad root.num (f (root_at root c)).grants) → RootsHad c → RootsHad (on_root root f c)
  roots_put root f c step all =
      keyed_put (λ k (r : Root). AreHad k r.grants) root.num (f (root_at root c)) c.roots (step (its_grants root c all)) all

  roots_do : (u : Uid) (f : Doing → Doing) (c : Coord) → RootsHad c → RootsHad (on_doing u f c)
  roots_do u f c all = by (doing_of u c)
    where
      by : (o : Option Doing) → RootsHad (change_doing f u c o)
      by None = all
      by (Some d) = all

  roots_turn : {c : Coord} {came : Came} (s : Steps) (t : CallStep) (e : Coord) → CameHad came c → CallTurn c came s t e → RootsHad c →
      RootsHad e
  roots_turn {c} s _ _ fits (Answers from a r intents d _ found is waits) all = roots_put (root_of s.path) (root_moved s r (turned s r c)) c
      (λ had. notes_had (root_of s.path).num (granted_by (top_of s.path) s.x r) (root_at (root_of s.path) c) (fits d s found is waits) had) all
  roots_turn {c} s _ _ fits (GivesUp l b intents d _ named found is) all =
      roots_put (root_of s.path) (root_lost s (given_up s.at)) c (λ had. had) all

  roots_move : {c : Coord} {came : Came} → CameHad came c → (e f : Coord) → Move c came e f → RootsHad e → RootsHad f
  roots_move {c} fits _ _ (Renews p x) all = roots_put (root_of p) (with_keeping x (kept_at_start p x c)) (used_at p x c) (λ had. had) all
  roots_move fits _ _ (Turns s t e turn) all = roots_turn s t e fits turn all
  roots_move fits _ _ (Notes s t e g turn is) all = roots_put (root_of s.path) (root_heard s g) (rested s e)
      (heard_had (root_of s.path).num s g (root_at (root_of s.path) (rested s e))) all
  roots_move {c} fits _ _ (KeepsAfter u p ends) all =
      roots_put (root_of p.path) (root_after p) (took_part p c) (λ had. had) all
  roots_move fits _ _ (SentTo p req n a e q) all =
      let w : Went = record { path = uids_of p; node = n; invoke = is_invoke_ask a } in
      roots_put (root_of p) (with_went w) e (went_had (root_of p).num w (root_at (root_of p) e)) all
  roots_move fits _ _ (Rests s t e g turn is) all = roots_do (actor s.path) (λ (d : Doing). record d { now = Idle }) e all
  roots_move fits _ _ (Waits s e is) all = roots_do (actor s.path) (λ (d : Doing). record d { req = s.req; now = Calling s }) e all
  roots_move {c} fits _ _ (CommitsIn u m on) all =
      roots_do u (λ (d : Doing). record d { req = (plan_of m).req; now = Committing m }) c all
  roots_move fits _ _ (EndsAt u how f e ends) all = roots_do u (λ (d : Doing). record d { now = Idle })
      (record e { tree = Words.ended_at u how e.tree }) all
  roots_move {c} fits _ _ (TakesPart u p ends) all =
      roots_do (actor p.path) (λ (d : Doing). record d { took = participants p }) (ended (actor p.path) ending.Commit c) all
  roots_move fits _ _ _ all = all

  -- ---- plans

  -- where a commit goes on its plan uses the same
  abbrev UsesStill : List Used → CommitStep → Type 0
  UsesStill us (Stays m) = (let p = plan_of m in p.used) ≡ us
  UsesStill us (Asks m) = (let p = plan_of m in p.used) ≡ us
  UsesStill us s = ⊤

  confirm_uses : (us : List Used) (p : Plan) → UsesStill p.used (begin_confirm us p)
  confirm_uses [] p = tt
  confirm_uses (u ∷ us) p = refl

  prepare_uses : (ns : List ℕ) (p : Plan) → UsesStill p.used (begin_prepare ns p)
  prepare_uses [] p = confirm_uses p.used p
  prepare_uses (n ∷ ns) p = refl

  vote_uses : (ns : List ℕ) (p : Plan) → UsesStill p.used (begin_vote ns p)
  vote_uses [] p = prepare_uses (targets_of p) p
  vote_uses (n ∷ ns) p = refl

  votes_use : (ns : List ℕ) (p : Plan) → UsesStill p.used (votes_left ns p)
  votes_use [] p = prepare_uses (targets_of p) p
  votes_use (n ∷ ns) p = refl

  stores_use : (ns : List ℕ) (p : Plan) → UsesStill p.used (let k = stores_left ns p in k.step)
  stores_use [] p = confirm_uses p.used p
  stores_use (n ∷ ns) p = refl

  marks_use : (ns : List ℕ) (p : Plan) → (marks_stores ns p).used ≡ p.used
  marks_use [] p = refl
  marks_use (n ∷ ns) p = marks_use ns (marks_store n p)

  answered_uses : (from : ℕ) (m : Machine) (r : Reply) →
      UsesStill (let p = plan_of m in p.used) (let k = commit.answered from m r in k.step)
  answered_uses from (Voting p left) (Reply.Voted (voted.Yes states)) =
      votes_use (without_number from left) (record p { changed = with_states states p.changed })
  answered_uses from (Voting p left) (Reply.Voted (voted.Changed w)) = tt
  answered_uses from (Preparing p left) (Reply.Prepared prepared.Yes) =
      stores_use (without_number from left) (record p { prepared = with_number from p.prepared })
  answered_uses from (Preparing p left) (Reply.Prepared (prepared.InDoubt x holder)) =
      stores_use (without_number from left) (marks_store from p)
  answered_uses from (Preparing p left) (Reply.Prepared (prepared.Old x v)) = tt
  answered_uses from (Confirming p) (Reply.Confirmed confirmed.Yes) = tt
  answered_uses from (Confirming p) (Reply.Confirmed (confirmed.Conflict holder k)) = tt
  answered_uses from (Confirming p) (Reply.Confirmed (confirmed.Changed w)) = tt
  answered_uses from (Confirming p) (Reply.Confirmed (confirmed.NoStores x)) = tt
  answered_uses from (Confirming p) (Reply.Confirmed (confirmed.Listed x n)) = tt
  answered_uses from m r = refl

  given_uses : (m : Machine) → UsesStill (let p = plan_of m in p.used) (let k = commit.given_up m in k.step)
  given_uses (Voting p left) = tt
  given_uses (Preparing p left) = subst (λ us. UsesStill us (let k = stores_left [] (marks_stores left p) in k.step)) (marks_use left p)
      (stores_use [] (marks_stores left p))
  given_uses (Confirming p) = tt

  goes_with : (us : List Used) (s : CommitStep) (m : Machine) → (s ≡ Stays m) ⊎ (s ≡ Asks m) → UsesStill us s →
      (let p = plan_of m in p.used) ≡ us
  goes_with us s m (inl is) its = subst (UsesStill us) is its
  goes_with us s m (inr is) its = subst (UsesStill us) is its

  turn_had : {c : Coord} {came : Came} {u : Uid} {t : commit.Marked} → CoordHad c → CameHad came c → CommitTurn c came u t → (m : Machine) →
      (t.step ≡ Stays m) ⊎ (t.step ≡ Asks m) → AllByRecursion (P u) (let p = plan_of m in p.used)
  turn_had {c} k fits (BeginsCommit l b intents named going top plain) m on =
      let p = plan_for b.path (last_req (doing_of (actor b.path) c)) (root_at (root_of b.path) c) c in
      subst (AllByRecursion (P (actor b.path))) (sym (goes_with p.used (begin_vote (servers_of p) p) m on (vote_uses (servers_of p) p)))
      (fits b named top plain)
  turn_had k fits (AnswersCommit from a r intents d w found is waits) m on = subst (AllByRecursion (P a.act))
      (sym (goes_with (let p = plan_of w in p.used) (let z = commit.answered from w r in z.step) m on (answered_uses from w r)))
      (subst (NowHad a.act) is (k.works a.act d found))
  turn_had k fits (GivesCommitUp l b intents d w named found is) m on = subst (AllByRecursion (P (actor b.path)))
      (sym (goes_with (let p = plan_of w in p.used) (let z = commit.given_up w in z.step) m on (given_uses w)))
      (subst (NowHad (actor b.path)) is (k.works (actor b.path) d found))

  -- ---- a coordinator

  move_had : {c : Coord} {came : Came} → CoordHad c → CameHad came c → (e f : Coord) → Move c came e f → CoordHad e → CoordHad f
  move_had {c} {came} k fits e f m h = record {
    works = works_move (λ u (d : Doing). NowHad u d.now) works e f m h.works;
    roots = roots_move fits e f m h.roots;
  }
    where
      works : KeepsWorks (λ u (d : Doing). NowHad u d.now) c came
      works = record {
        fresh = λ u l. tt;
        rests = λ u d so. tt;
        takes = λ u d ns so. so;
        calls = λ s d e is so. tt;
        commits = λ u m d on so. turn_had k fits on.turns m on.on;
      }

  does_had : {c : Coord} {came : Came} {e : Coord} {outs : List Effect} → CoordHad c → CameHad came c → Trace c came c outs e → CoordHad e
  does_had k fits t = trace_keeps CoordHad (move_had k fits) t k

  pub had_heard : (from : ℕ) (a : Asked) (r : Reply) (intents : List (Uid × Intent)) (c : Coord) → CoordHad c →
      CameHad (Hears from a r intents) c → CoordHad (heard from a r intents c).part
  had_heard from a r intents c k fits = does_had k fits (heard_trace c from a r intents)

  pub had_acts : (i : Input) (intents : List (Uid × Intent)) (c : Coord) → CoordHad c → CameHad (Takes i intents) c →
      CoordHad (acts i intents c).part
  had_acts i intents c k fits = does_had k fits (acts_trace c i intents)

  pub had_acked : (from : ℕ) (u : Uid) (intents : List (Uid × Intent)) (c : Coord) → CoordHad c → CoordHad (acked from u intents c).part
  had_acked from u intents c k = does_had k tt (acked_trace c from u intents)

  pub had_again : (c : Coord) → CoordHad c → CoordHad (again_all c.doings c).part
  had_again c k = does_had k tt (again_trace c)

  pub had_begins : (l : Label) (k : Kind) (parent : Option Label) (above : Option Branch) (c : Coord) → CoordHad c →
      CoordHad (begin_action l k parent above c).part
  had_begins l k parent above c so =
      record { works = works_begun (λ u (d : Doing). NowHad u d.now) l k parent above c (λ u. tt) so.works; roots = so.roots }

  pub had_new : (node inc : ℕ) (records : List (Uid × Intent)) → CoordHad (record (new_coord node inc) { telling = records })
  had_new node inc records = record { works = works_new (λ u (d : Doing). NowHad u d.now) node inc records; roots = tt }

-- where more is known
module _ (H J : ℕ → Uid → ℕ → ℕ → Type 0) (P Q : Uid → Used → Type 0) (more : (k : ℕ) (t : Uid) (x g : ℕ) → H k t x g → J k t x g)
    (most : (u : Uid) (w : Used) → P u w → Q u w) where
  grants_map : (k : ℕ) (gs : List Grant) → AreHad H P k gs → AreHad J Q k gs
  grants_map k [] all = tt
  grants_map k (g ∷ gs) all = (more k g.top g.x g.least all.0, grants_map k gs all.1)

  roots_map : (rs : List (ℕ × Root)) → AllByRecursion (λ (e : ℕ × Root). AreHad H P e.0 (let r = e.1 in r.grants)) rs →
      AllByRecursion (λ (e : ℕ × Root). AreHad J Q e.0 (let r = e.1 in r.grants)) rs
  roots_map [] all = tt
  roots_map (e ∷ es) all = (grants_map e.0 (let r = e.1 in r.grants) all.0, roots_map es all.1)

  pub used_map : (u : Uid) (us : List Used) → AllByRecursion (P u) us → AllByRecursion (Q u) us
  used_map u [] all = tt
  used_map u (w ∷ us) all = (most u w all.0, used_map u us all.1)

  now_map : (u : Uid) (n : Now) → NowHad H P u n → NowHad J Q u n
  now_map u Idle its = tt
  now_map u (Calling s) its = tt
  now_map u (Committing m) its = used_map u (let p = plan_of m in p.used) its

  pub had_map : (c : Coord) → CoordHad H P c → CoordHad J Q c
  had_map c h = record { works = λ u d found. now_map u d.now (h.works u d found); roots = roots_map c.roots h.roots }
