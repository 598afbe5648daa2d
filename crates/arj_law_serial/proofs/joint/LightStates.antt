-- Tops that change nothing of an object, while naming may confirm them and once it did: what is kept of them, and what keeps others from
-- counting then.
use Rattle.arj_law_parts.proofs.Words
use Words.{◌≡◌, ◌≢◌, ◌⊎◌, ◌≤◌, ◌<◌, ◌&&◌, ◌||◌, ◌∙◌, not, ℕ, Bool, true, false, List, Option, Some, None, is_some, ap, arith, inl, inr}
use Words.{refl, subst, sym, ⊎_elim, is_on, Kind, Line, ObjectState, Uid, Confirming, Machine, Preparing, Used, Voting, plan_of, Calling}
use Words.{Committing, Doing, Idle as Waiting, Now, doing_of, Parts, at_uid, uid_number, Node, is_committing_now, Branch, branch_of}
use Words.{is_open_branch, Seen}
use Words.kind
use Words.commit
use Rattle.arj_law_serial.proofs.Terms
use Terms.{in_at, work_there, Core, HasRow, IsGranted, IsPresent, IsUntold, Named, Names, Office, Packed, Stage, decided, is_gone, is_idle}
use Terms.{is_open, is_sealed, undecided, has, bool_cases, falls_to, never, or_right, some_is, in_decided, Kin, kin_granted, near, not_over}
use Terms.{open_untold, SeesConfirming, SeesRecords, nodes_of, used_at, Kinds, SeesCoord, Works, WorksBy, SeesBoth, IsHadBy, SeesHeard}
use Terms.{SeesPlan, IsGood, IsMemory, IsUp, book, IsKept, KnowsUp, IncludesNone, IsCalledBefore, IsRecordedAt, IsSplit, AreAt}
use Terms.disk
use Rattle.arj_law_disk.specs.machine.State.{State}
use Rattle.arj_law_disk_view.specs.view.Sees.{SeesDown}
use Rattle.arj_law_serial.proofs.joint
use joint.{JoinUses.UsesSo}
use joint.JoinFresh.{committing_there, not_ended, not_some, some_or_none}
use joint.JoinStep.{EachUp, KeepTurns, plan_includes_none}
use joint.JoinTurns.{IsFine, Settled, UsesNone, called_first, changes_nothing, counts_on_old, includes_none, root_is_gone}
use Rattle.arj_law_serial.specs.joint.Lights.{AreBefore}

-- ---- the tops

-- Naming confirmed it as one that changes nothing; it includes a store, its node is there, and its outcome is open, or it is decided.
pub record IsPassed (A : Office) (M : Seen) (w : Uid) : Type 0 where
  pub node : Node
  pub there : M.nodes w.node ≡ Some node
  pub light : A.world.disk.light (uid_number w) ≡ true
  pub store : ℕ
  pub joins : has store (let p = A.world.disk.plan (uid_number w) in p.joins) ≡ true
  pub stands : (undecided A.world.disk (uid_number w) ≡ true) ⊎ (decided A.world.disk (uid_number w) ≡ true)

-- Naming may confirm it so: its prepare step has ended, its outcome is open, it includes a store, and each grant that counts is of the
-- present incarnation.
pub record IsPassing (A : Office) (M : Seen) (w : Uid) : Type 0 where
  pub node : Node
  pub there : M.nodes w.node ≡ Some node
  pub begun : A.world.disk.begun (uid_number w) ≡ true
  pub sealed : is_sealed (A.world.disk.stage (uid_number w)) ≡ true
  pub opened : undecided A.world.disk (uid_number w) ≡ true
  pub unconfirmed : A.world.disk.conf (uid_number w) ≡ false
  pub unlit : A.world.disk.light (uid_number w) ≡ false
  pub store : ℕ
  pub joins : has store (let p = A.world.disk.plan (uid_number w) in p.joins) ≡ true
  pub present : IsPresent A.world.disk A.names (uid_number w)

-- two roots
abbrev pub AreOfTwo : Office → Uid → Uid → Type 0
AreOfTwo A u w = A.world.disk.root (uid_number u) ≡ A.world.disk.root (uid_number w) → ⊥

-- the second top is another one, and the first one is decided, or of another root
abbrev pub IsApart : Office → Uid → Uid → Type 0
IsApart A w u = (u ≢ w) × ((decided A.world.disk (uid_number w) ≡ true) ⊎ AreOfTwo A u w)

-- so much holds of each top at its commit, by what that uses, against each of these
abbrev pub AreBeside : ℕ → Office → List Line → (Uid → Uid → Type 0) → Parts → Type 0
AreBeside x A lines D t = AreAt (UsesSo (λ u used. (w : Uid) → D w u → IsFine x A lines w u used)) t.coord

-- Against each top that naming confirmed so, tops at their commits, and those with a record that isn't decided, won't count or were called
-- later, where they conflict; each such top's commit was called, and what was decided before and behind is as its place asks.
pub record KeepLights (x : ℕ) (A : Office) (M : Seen) : Type 0 where
  pub works : EachUp (AreBeside x A M.lines (λ w u. IsPassed A M w × IsApart A w u)) M
  pub records : (u : Uid) → IsRecordedAt M u → decided A.world.disk (uid_number u) ≡ false → (w : Uid) → IsPassed A M w → IsApart A w u →
      Settled A M.lines w u
  pub called : (w : Uid) → IsPassed A M w → is_on (let B = book M.lines in B.called) w ≡ true
  pub splits : (w : Uid) → IsPassed A M w →
      IsSplit A.world.disk.first_entry M.lines w (let p = A.world.disk.plan (uid_number w) in p.joins) (let W = A.world in W.disk.tops)

-- ---- one that may be confirmed so

module _ (x : ℕ) (tops : Kinds) (A : Office) (M : Seen) (both : SeesBoth x tops A M) where
  -- a grant is none of a later incarnation
  pub past : (t i : ℕ) → IsHadBy A t i → i ≤ (let N = A.names in N.inc)
  past t i h = ⊎_elim (λ own. let n = both.named in let g = n.grants in g.past t i own) (λ kept. let n = both.named in let g = n.grants in
      g.past (A.world.disk.root t) i kept) h

  -- a record is there in the machine
  pub recorded_some : (u : Uid) → IsRecordedAt M u → is_some (A.world.disk.intent (uid_number u)) ≡ true
  recorded_some u r = ap is_some (sees.is u (sees.own u r.intent at) ∙ ap nodes_of at)
    where
      sees : SeesRecords r.place (let d = (let n = r.node in n.disk) in d.intents) A.world.disk
      sees = let s = both.disks in s.records r.place r.node r.here

      at : at_uid u (let d = (let n = r.node in n.disk) in d.intents) ≡ Some r.intent
      at = in_at (u, r.intent) (let d = (let n = r.node in n.disk) in d.intents) sees.sorted r.there

  -- a record's top that isn't decided is open
  pub recorded_open : (u : Uid) → IsRecordedAt M u → decided A.world.disk (uid_number u) ≡ false →
      undecided A.world.disk (uid_number u) ≡ true
  recorded_open u r undone i = not (undone i)
      && or_right (is_open (A.world.disk.stage (uid_number u))) (is_some (A.world.disk.intent (uid_number u))) (recorded_some u r) i

module _ (x : ℕ) (tops : Kinds) (A : Office) (M : Seen) (both : SeesBoth x tops A M) (w : Uid) (its : IsPassing A M w) where
  abbrev S : State
  S = A.world.disk

  abbrev N : Names
  N = A.names

  c : Named A
  c = both.named

  core : Core S
  core = let k = c.whole in k.core

  untold_of : (t : ℕ) → undecided S t ≡ true → IsUntold S N t
  untold_of t uu = open_untold S N c.roots (λ a h. let g = c.grants in let y = g.told a h in (y.1, y.2)) t uu

  -- it has the write lock
  row : HasRow N (uid_number w) 2
  row =
      let q = c.plans in
      let a = q.asked (uid_number w) its.store its.begun its.joins in
      let r = c.rows in
      r.asked (uid_number w) (a.2 (its.present a.0 (inl a.1)) (untold_of (uid_number w) its.opened)) (untold_of (uid_number w) its.opened)

  its_root : (t : ℕ) → Kin S N (S.root t) → S.root (uid_number w) ≡ S.root t
  its_root t kin = near S N c.roots c.rows (S.root t) (uid_number w) kin row

  -- nobody else is confirmed as one that counts
  alone : (z : ℕ) → S.conf z ≡ true → undecided S z ≡ true → z ≡ uid_number w
  alone z conf uu = (let q = c.plans in q.loaded (uid_number w) its.store its.opened its.joins its.present).1 z conf uu

  now_or_old : (t i : ℕ) → IsHadBy A t i → (i ≡ N.inc) ⊎ (i < N.inc)
  now_or_old t i h = by (past x tops A M both t i h)
    where
      by : i ≤ N.inc → (i ≡ N.inc) ⊎ (i < N.inc)
      by l = grind (arith, l)

  granted : (t i : ℕ) → IsHadBy A t i → i ≡ N.inc → IsGranted S N t
  granted t i (inl own) same = inl (ap (N.had t) (sym same) ∙ own)
  granted t i (inr kept) same = inr (ap (N.had (S.root t)) (sym same) ∙ kept)

  module _ (lines : List Line) (u : Uid) (two : AreOfTwo A u w) where
    abbrev t : ℕ
    t = uid_number u

    unconfirmed : undecided S t ≡ true → S.conf t ≡ false
    unconfirmed uu = falls_to (S.conf t) (λ on. two (ap S.root (alone t on uu)))

    -- a top whose commit has begun
    module _ (begun : S.begun t ≡ true) (uu : undecided S t ≡ true) where
      by_had : (i : ℕ) → IsHadBy A t i → Settled A lines w u
      by_had i h = ⊎_elim
          (λ same. absurd (two (sym (its_root t (⊎_elim (λ over. absurd (not_over S t uu over)) (λ kin. kin) (kin_granted S N core c.roots
          (let g = c.grants in g.row) (let g = c.grants in g.root) t (granted t i h same) (untold_of t uu)))))))
          (λ less. counts_on_old (unconfirmed uu) (i, h, less))
          (now_or_old t i h)

      begun_settled : Settled A lines w u
      begun_settled = ⊎_elim (λ (j : (s : ℕ) × (has s (let p = S.plan t in p.joins) ≡ true)). let a = (let q = c.plans in
          q.asked t j.0 begun j.1) in by_had a.0 (inl a.1)) (λ without. changes without (let p = S.plan t in p.writes) refl)
          (some_or_none (let p = S.plan t in p.joins))
        where
          changes : ((s : ℕ) → has s (let p = S.plan t in p.joins) ≡ true → ⊥) → (o : Option Packed) → (let p = S.plan t in p.writes) ≡ o →
              Settled A lines w u
          changes without None is = includes_none begun (without, inl is)
          changes without (Some g) is = let l = (let z = c.lists in z.plan t uu (ap is_some is)) in by_had l.0 l.1

    -- one with a record
    pub passing_recorded : IsRecordedAt M u → decided S t ≡ false → Settled A lines w u
    passing_recorded r undone = ⊎_elim (λ on. absurd (never on (unconfirmed (recorded_open x tops A M both u r undone))))
        (λ light. changes_nothing light) (let k = core.coordinators in k.record_taken t (recorded_some x tops A M both u r))

    -- one at its commit
    module _ (heard : SeesHeard x tops A M) (good : IsGood M) (j : ℕ) (n : Node) (parts : Parts) (here : M.nodes j ≡ Some n)
        (live : n.live ≡ Some parts) (q : Doing) (m : Machine) (works : doing_of u parts.coord ≡ Some q) (now : q.now ≡ Committing m) where
      plan_seen : SeesPlan x tops u m A
      plan_seen = let h = heard.coords j n parts here live in h.plans u q m works now

      -- while it votes
      module _ (p : commit.Plan) (left : List ℕ) (plan : SeesPlan x tops u (Voting p left) A) (idle : S.stage t ≡ disk.Idle) where
        unbegun : S.begun t ≡ false
        unbegun = falls_to (S.begun t) (λ on. never (ap is_idle idle) (let f = core.fresh in f.begun t on))

        off : S.conf t ≡ false
        off = falls_to (S.conf t) (λ on. never (let f = core.fresh in f.conf t on) unbegun)

        own_untold : N.told t ≡ false
        own_untold = falls_to (N.told t) (λ on. never ((let g = c.grants in g.told t on).0) (ap is_gone idle))

        by_root : (N.told (S.root t) ≡ false → Settled A lines w u) → Settled A lines w u
        by_root f = ⊎_elim (λ on. root_is_gone unbegun (let g = c.grants in g.told (S.root t) on).0) f (bool_cases (N.told (S.root t)))

        by_grant : (i : ℕ) → IsHadBy A t i → Settled A lines w u
        by_grant i h = ⊎_elim
            (λ same. by_root (λ out. ⊎_elim
            (λ over. root_is_gone unbegun over.0)
            (λ kin. absurd (two (sym (its_root t kin))))
            (kin_granted S N core c.roots (let g = c.grants in g.row) (let g = c.grants in
            g.root) t (granted t i h same) (own_untold, out))))
            (λ less. counts_on_old off (i, h, less))
            (now_or_old t i h)

        voting_fine : IsFine x A lines w u p.used
        voting_fine = by (used_at x p.used) refl
          where
            only : (v : Used) → used_at x p.used ≡ Some v → v.loaded ≡ None → v.called ≡ false → UsesNone x (S.plan (uid_number w)) p.used
            only v is unloaded uncalled y at = subst (λ (z : Used). ((z.loaded ≡ None) ⊎ ((s : ℕ) → has s z.joins ≡ true → ⊥)) × ((z.called
                ≡ false) ⊎ (is_some (let q = S.plan (uid_number w) in q.writes) ≡ true))) (some_is is at) (inl unloaded, inl uncalled)

            loads : (v : Used) → used_at x p.used ≡ Some v → (o : Option ObjectState) → v.loaded ≡ o → IsFine x A lines w u p.used
            loads v is (Some st) loaded = let h = plan.loaded v st refl is loaded in
                inl (by_grant (let l = h.load in l.inc) (inl (let l = h.load in l.had)))
            loads v is None unloaded = ⊎_elim (λ called. let l = plan.list v refl is called in
                inl (by_grant l.inc l.had)) (λ uncalled. inr (only v is unloaded uncalled)) (bool_cases v.called)

            by : (o : Option Used) → used_at x p.used ≡ o → IsFine x A lines w u p.used
            by None is = inr (λ v at. not_some is at)
            by (Some v) is = loads v is v.loaded refl

      module _ (begun : S.begun t ≡ true) (opened : is_open (S.stage t) ≡ true) (ungone : is_gone (S.stage t) ≡ false) where
        undone : decided S t ≡ false
        undone = falls_to (decided S t) (λ on. never (let k = core.coordinators in k.decided_closed t on) ungone)

        uu : undecided S t ≡ true
        uu i = not (undone i) && (opened i || is_some (S.intent t))

      pub passing_fine : IsFine x A lines w u (let p = plan_of m in p.used)
      passing_fine = by m plan_seen (committing_there x tops A M both heard good j n parts here live u q m works now)
        where
          by : (k : Machine) → SeesPlan x tops u k A → WorksBy x S t (Committing k) → IsFine x A lines w u (let p = plan_of k in p.used)
          by (Voting p left) plan idle = voting_fine p left plan idle
          by (Preparing p left) plan sees = inl (begun_settled sees.begun (uu sees.begun (ap is_open sees.stage) (ap is_gone sees.stage)))
          by (Confirming p) plan sees = inl (begun_settled sees.begun (uu sees.begun (ap is_open sees.stage) (ap is_gone sees.stage)))

  -- ---- its own commit

  stage_is : S.stage (uid_number w) ≡ disk.Confirming
  stage_is = by (S.stage (uid_number w)) refl
    where
      recorded : is_some (S.intent (uid_number w)) ≡ true → {X : Type 0} → X
      recorded some = absurd (⊎_elim (λ on. never on its.unconfirmed) (λ on. never on its.unlit) (let k = core.coordinators in
          k.record_taken (uid_number w) some))

      both_of : (a b : Bool) → (a && b) ≡ true → b ≡ true
      both_of true b is = is
      both_of false b is = absurd (cc is)

      by : (s : Stage) → S.stage (uid_number w) ≡ s → S.stage (uid_number w) ≡ disk.Confirming
      by disk.Idle is = absurd (never its.sealed (ap is_sealed is))
      by disk.Preparing is = absurd (never its.sealed (ap is_sealed is))
      by disk.Confirming is = is
      by disk.Gone is = recorded (both_of (not (decided S (uid_number w))) (is_some (S.intent (uid_number w)))
          (ap (λ z. not (decided S (uid_number w)) && (is_open z || is_some (S.intent (uid_number w)))) (sym is) ∙ its.opened))

  -- an action of that stage waits for naming
  waits_by : (k : Kind) (now : Now) → tops.is_top (uid_number w) ≡ true → Works x tops S (uid_number w) k now →
      (p : commit.Plan) × (now ≡ Committing (Confirming p)) × SeesConfirming x S (uid_number w) p
  waits_by k now top works = of_kind k works
    where
      other : {X : Type 0} {s : Stage} → S.stage (uid_number w) ≡ s → (is_sealed s ≡ false) → X
      other is off = absurd (never its.sealed (ap is_sealed is ∙ off))

      of_now : (n : Now) → now ≡ n → WorksBy x S (uid_number w) n →
          (p : commit.Plan) × (now ≡ Committing (Confirming p)) × SeesConfirming x S (uid_number w) p
      of_now Waiting is v = other v refl
      of_now (Calling s) is v = other v refl
      of_now (Committing (Voting p left)) is v = other v refl
      of_now (Committing (Preparing p left)) is v = other v.stage refl
      of_now (Committing (Confirming p)) is v = (p, is, v)

      of_kind : (k : Kind) → Works x tops S (uid_number w) k now →
          (p : commit.Plan) × (now ≡ Committing (Confirming p)) × SeesConfirming x S (uid_number w) p
      of_kind kind.Nested v = absurd (never top v)
      of_kind kind.Serial v = absurd (never top v.0)
      of_kind kind.Top v = of_now now refl v.1
      of_kind kind.Independent v = of_now now refl v.1
      of_kind kind.Constituent v = of_now now refl v.1

  -- its coordinator is up, where it waits for naming; and its commit was called
  record IsThere : Type 0 where
    parts : Parts
    live : (let n = its.node in n.live) ≡ Some parts
    doing : Doing
    plan : commit.Plan
    works : doing_of w parts.coord ≡ Some doing
    now : doing.now ≡ Committing (Confirming plan)
    sees : SeesConfirming x S (uid_number w) plan
    called : is_on (let B = book M.lines in B.called) w ≡ true

  is_there : IsKept M → IsThere
  is_there kept = by (let n = its.node in n.live) refl
    where
      ungone : is_gone (S.stage (uid_number w)) ≡ false
      ungone = ap is_gone stage_is

      by : (o : Option Parts) → (let n = its.node in n.live) ≡ o → IsThere
      by None down = let s = both.disks in let d : SeesDown w.node (let k = (let n = its.node in n.disk) in
          k.inc) S = s.downs w.node its.node its.there down in absurd (never (d.closed w refl its.begun) ungone)
      by (Some v) live = opens (branch_of w v.coord.tree) refl
        where
          sees_coord : SeesCoord x w.node (let k = (let n = its.node in n.disk) in k.inc) tops v.coord S
          sees_coord = let s = both.disks in s.coords w.node its.node v its.there live

          up_now : IsUp (let g = kept.0 in g.0) M.sent M.labels w.node (let k = (let n = its.node in n.disk) in k.inc) v
          up_now = subst (IsMemory (let g = kept.0 in g.0) M.sent M.labels w.node (let k = (let n = its.node in n.disk) in k.inc)) live
              (let g = kept.0.1 in let p = g.places w.node its.node its.there in p.memory)

          knows : KnowsUp (book M.lines) (let k = (let n = its.node in n.disk) in k.intents) v.coord
          knows = let k = kept.1 in let n = k.nodes w.node its.node its.there in n.live v live

          opens : (o : Option Branch) → branch_of w v.coord.tree ≡ o → IsThere
          opens None none = absurd (never (sees_coord.closed w refl (ap is_open_branch none) its.begun) ungone)
          opens (Some b) found = made (bool_cases (is_some b.ended))
            where
              made : (is_some b.ended ≡ true) ⊎ (is_some b.ended ≡ false) → IsThere
              made (inl over) = absurd (never (sees_coord.closed w refl (ap is_open_branch found ∙ ap not over) its.begun) ungone)
              made (inr off) =
                  let work = work_there v.coord (let f = up_now.faithful in f.works) w b found in
                  let s = both.disks in
                  let q = waits_by b.kind (let d = work.0 in
                  d.now) (s.kinds (uid_number w) its.begun).0 (sees_coord.working w b work.0 found (not_ended b.ended off) work.1) in
                  record {
                    parts = v;
                    live = live;
                    doing = work.0;
                    plan = q.0;
                    works = work.1;
                    now = q.1;
                    sees = q.2;
                    called = knows.calls w b work.0 found work.1 (not_ended b.ended off) ∙ ap is_committing_now q.1;
                  }

  pub passing_called : IsKept M → is_on (let B = book M.lines in B.called) w ≡ true
  passing_called kept = let i = is_there kept in i.called

  -- who counts and is decided had its commit called before
  pub passing_before : IsKept M → SeesHeard x tops A M → KeepTurns x A M → AreBefore M.lines w S.tops
  passing_before kept heard turns d v i counts number = by
      (turns.works w.node its.node y.parts its.there y.live w y.doing (Confirming y.plan) y.works y.now v (d, i, counts, sym number) apart)
    where
      y : IsThere
      y = is_there kept

      apart : w ≢ v
      apart same = never (in_decided S.tops d i) (undone (decided S d.top) refl)
        where
          undone : (b : Bool) → decided S d.top ≡ b → decided S d.top ≡ false
          undone false is = is
          undone true is = absurd (never its.opened (ap (λ (z : Uid). undecided S (uid_number z)) same ∙ ap (λ z. undecided S z) number
              ∙ ap (λ b. not b && (is_open (S.stage d.top) || is_some (S.intent d.top))) is))

      none : IncludesNone (S.plan (uid_number w)) (S.plan (uid_number v)) → {X : Type 0} → X
      none n = absurd (n.0 its.store its.joins)

      by : IsFine x A M.lines v w (let p = y.plan in p.used) → IsCalledBefore M.lines v w
      by (inl (called_first b)) = b
      by (inl (changes_nothing on)) = absurd (never on its.unlit)
      by (inl (counts_on_old off s)) = absurd (let same = its.present s.0 s.1 in let less = s.2 in omega (arith, same, less))
      by (inl (root_is_gone off gone)) = absurd (never its.begun off)
      by (inl (includes_none begun n)) = none n
      by (inr uses) = none (plan_includes_none x tops A w y.plan (S.plan (uid_number v)) y.sees
          (let h = heard.coords w.node its.node y.parts its.there y.live in h.plans w y.doing (Confirming y.plan) y.works y.now) uses)
