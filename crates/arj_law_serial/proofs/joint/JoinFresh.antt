-- Where a top that counts is about to be decided, each other one at its commit won't count, or uses nothing of the object that conflicts
-- with it.
use Rattle.arj_law_parts.proofs.Words
use Words.{◌≡◌, ◌≢◌, ◌⊎◌, ◌≤◌, ◌<◌, ◌==◌, ◌&&◌, ◌||◌, ◌∙◌, not, ℕ, zero, suc, true, false, List, [], ◌∷◌, Option, Some, None, is_some, ap}
use Words.{arith, inl, inr, refl, subst, sym, ⊎_elim, Kind, Line, ObjectState, Uid, Confirming, Machine, Preparing, Used, Voting, plan_of}
use Words.{Committing, Doing, Now, doing_of, Parts, at_uid, uid_number, Node, number_tells, Seen}
use Words.kind
use Words.commit
use Rattle.arj_law_serial.proofs.Terms
use Terms.{AreBegun, paths_of, IsBusy, IsGoodCoord, IsVoting, begun_tree, path_found, in_at, Core, HasRow, IsGranted, IsPresent, IsUntold}
use Terms.{Named, Names, Office, Hold, Packed, decided, is_gone, is_idle, is_open, undecided, has, bool_cases, falls_to, never, or_left}
use Terms.{or_right, some_is, test_same, Kin, kin_granted, near, not_over, open_untold, SeesRecords, nodes_of, used_at, Kinds, SeesCoord}
use Terms.{Works, WorksBy, SeesBoth, IsHadBy, SeesHeard, SeesPlan, IsGood, IsMemory, IsRecordedAt}
use Rattle.arj_law_disk.specs.machine.{Names.Loaded, State.Idle, State.State}
use Rattle.arj_law_disk_view.specs.names.Loads.{HasLoaded}
use Rattle.arj_law_serial.proofs.joint
use joint.JoinTurns.{IsFine, IsStale, Settled, UsesNone, changes_nothing, counts_on_old, includes_none, root_is_gone}

pub some_or_none : (l : List ℕ) → ((s : ℕ) × (has s l ≡ true)) ⊎ ((s : ℕ) → has s l ≡ true → ⊥)
some_or_none [] = inr (λ s on. absurd (cc on))
some_or_none (y ∷ l) = inl (y, or_left (y == y) (has y l) (test_same y))

pub not_some : {X P : Type 0} {o : Option X} {v : X} → o ≡ None → o ≡ Some v → P
not_some {X} {P} {o} {v} none is = let no_way : ◌≡◌ {A = Option X} None (Some v) = sym none ∙ is in absurd (cc no_way)

-- an open top, by its kind
works_by : (x : ℕ) (tops : Kinds) (S : State) (t : ℕ) (k : Kind) (now : Now) (m : Machine) → tops.is_top t ≡ true → now ≡ Committing m →
    Works x tops S t k now → WorksBy x S t (Committing m)
works_by x tops S t kind.Nested now m top is w = absurd (never top w)
works_by x tops S t kind.Serial now m top is w = absurd (never top w.0)
works_by x tops S t kind.Top now m top is w = subst (λ n. WorksBy x S t n) is w.1
works_by x tops S t kind.Independent now m top is w = subst (λ n. WorksBy x S t n) is w.1
works_by x tops S t kind.Constituent now m top is w = subst (λ n. WorksBy x S t n) is w.1

pub not_ended : {X : Type 0} (o : Option X) → is_some o ≡ false → o ≡ None
not_ended None is = refl
not_ended (Some e) is = absurd (cc is)

-- a commit under way, as the machine has it
module _ (x : ℕ) (tops : Kinds) (A : Office) (M : Seen) (both : SeesBoth x tops A M) (heard : SeesHeard x tops A M) (good : IsGood M)
    (j : ℕ) (n : Node) (parts : Parts) (here : M.nodes j ≡ Some n) (live : n.live ≡ Some parts) (u : Uid) (q : Doing) (m : Machine)
    (works : doing_of u parts.coord ≡ Some q) (now : q.now ≡ Committing m) where
  begun_acts : AreBegun good.0
  begun_acts = let g = good.1 in g.begun

  memory : IsMemory good.0 M.sent M.labels j (let d = n.disk in d.inc) (Some parts)
  memory =
      subst (IsMemory good.0 M.sent M.labels j (let d = n.disk in d.inc)) live (let g = good.1 in let p = g.places j n here in p.memory)

  coord : IsGoodCoord good.0 (paths_of good.0) parts.coord
  coord = let g = memory.good (paths_of good.0) (begun_tree good.0 begun_acts) (path_found good.0 begun_acts) in g.coord

  voting : IsVoting parts.coord.tree u (plan_of m)
  voting = subst (IsBusy parts.coord.tree u) now (coord.busy u q works)

  is_top : tops.is_top (uid_number u) ≡ true
  is_top = let h = heard.coords j n parts here live in let p = h.plans u q m works now in p.top

  coord_seen : SeesCoord x j (let d = n.disk in d.inc) tops parts.coord A.world.disk
  coord_seen = let s = both.disks in s.coords j n parts here live

  pub committing_there : WorksBy x A.world.disk (uid_number u) (Committing m)
  committing_there = let a = voting.asking in let b = a.branch in works_by x tops A.world.disk (uid_number u) b.kind q.now m is_top now
      (coord_seen.working u b q a.found (not_ended b.ended a.opened) works)

module _ (x : ℕ) (tops : Kinds) (A : Office) (M : Seen) (both : SeesBoth x tops A M) (lines : List Line) (w : Uid)
    (conf : A.world.disk.conf (uid_number w) ≡ true) (open_w : undecided A.world.disk (uid_number w) ≡ true) where
  abbrev S : State
  S = A.world.disk

  abbrev N : Names
  N = A.names

  c : Named A
  c = both.named

  core : Core S
  core = let k = c.whole in k.core

  -- ---- grants

  module _ (t : ℕ) where
    -- one of an earlier incarnation is found, or there is none
    below : (n : ℕ) → ((i : ℕ) × IsHadBy A t i × (i < n)) ⊎ ((i : ℕ) → IsHadBy A t i → i < n → ⊥)
    below zero = inr (λ i h less. absurd (omega (arith, less)))
    below (suc n) = ⊎_elim (λ r. inl (r.0, r.1, (let l = r.2 in omega (arith, l))))
        (λ none. by none (bool_cases (N.had t n)) (bool_cases (N.had (S.root t) n))) (below n)
      where
        cases : (i : ℕ) → i < suc n → (i ≡ n) ⊎ (i < n)
        cases i l = grind (arith, l)

        by : ((i : ℕ) → IsHadBy A t i → i < n → ⊥) → (N.had t n ≡ true) ⊎ (N.had t n ≡ false) → (N.had (S.root t) n ≡ true)
            ⊎ (N.had (S.root t) n ≡ false) → ((i : ℕ) × IsHadBy A t i × (i < suc n)) ⊎ ((i : ℕ) → IsHadBy A t i → i < suc n → ⊥)
        by none (inl on) k = inl (n, inl on, omega arith)
        by none (inr off) (inl on) = inl (n, inr on, omega arith)
        by none (inr off) (inr out) = inr (λ i h less. ⊎_elim (λ (same : i ≡ n).
            ⊎_elim (λ (own : N.had t i ≡ true). never (ap (N.had t) (sym same) ∙ own) off) (λ (kept : N.had (S.root t) i ≡ true).
            never (ap (N.had (S.root t)) (sym same) ∙ kept) out) h) (λ (l : i < n). none i h l) (cases i less))

    past : (i : ℕ) → IsHadBy A t i → i ≤ N.inc
    past i h = ⊎_elim (λ own. let g = c.grants in g.past t i own) (λ kept. let g = c.grants in g.past (S.root t) i kept) h

    now_or_old : (i : ℕ) → IsHadBy A t i → (i ≡ N.inc) ⊎ (i < N.inc)
    now_or_old i h = by (past i h)
      where
        by : i ≤ N.inc → (i ≡ N.inc) ⊎ (i < N.inc)
        by l = grind (arith, l)

    stale_or_present : IsStale A t ⊎ IsPresent S N t
    stale_or_present =
        ⊎_elim (λ r. inl r) (λ none. inr (λ i h. ⊎_elim (λ same. same) (λ less. absurd (none i h less)) (now_or_old i h))) (below N.inc)

    granted : (i : ℕ) → IsHadBy A t i → i ≡ N.inc → IsGranted S N t
    granted i (inl own) same = inl (ap (N.had t) (sym same) ∙ own)
    granted i (inr kept) same = inr (ap (N.had (S.root t)) (sym same) ∙ kept)

  -- ---- one that changed nothing has its entry prepared, and keeps other roots away

  module _ (none : (let p = S.plan (uid_number w) in p.writes) ≡ None) where
    its_root : (t : ℕ) → Kin S N (S.root t) → S.root (uid_number w) ≡ S.root t
    its_root t kin = by (let v = core.covered in v.plain (uid_number w) conf open_w none).0 (let v = core.covered in
        v.plain (uid_number w) conf open_w none).1
      where
        by : (s : ℕ) × (has s (let p = S.plan (uid_number w) in p.joins) ≡ true) →
            (h : Hold) × (S.entry_pend ≡ Some h) × (h.top ≡ uid_number w) → S.root (uid_number w) ≡ S.root t
        by (s, j) (h, pend, top) = ⊎_elim
            (λ (given : N.given h.top ≡ true). ap S.root (sym top) ∙ ap S.root (sym (alone given kin)) ∙ kin.1)
            (λ (row : HasRow N h.top 2). ap S.root (sym top) ∙ near S N c.roots c.rows (S.root t) h.top kin row)
            (let r = c.rows in r.since h s pend (ap (λ z. has s (let p = S.plan z in p.joins)) top ∙ j))
          where
            alone : N.given h.top ≡ true → (k : Kin S N (S.root t)) → k.0 ≡ h.top
            alone given (z, of_root, (n, row, low)) = let r = c.rows in r.alone h.top z n given row

  -- ---- a top that is open in the machine

  module _ (u : Uid) (apart : u ≢ w) where
    abbrev t : ℕ
    t = uid_number u

    not_it : uid_number u ≡ uid_number w → ⊥
    not_it same = apart (number_tells u w same)

    unconfirmed : undecided S t ≡ true → S.conf t ≡ false
    unconfirmed uu = falls_to (S.conf t) (λ on. not_it (let a = core.alone in a.one t (uid_number w) on uu conf open_w))

    module _ (begun : S.begun t ≡ true) (uu : undecided S t ≡ true) where
      untold : IsUntold S N t
      untold = open_untold S N c.roots (λ a h. let g = c.grants in let y = g.told a h in (y.1, y.2)) t uu

      other_root : S.root (uid_number w) ≡ S.root t → ⊥
      other_root same = not_it (let r = c.roots in r.one t (uid_number w) uu open_w (sym same))

      begun_settled : Settled A lines w u
      begun_settled = ⊎_elim includes changes (some_or_none (let p = S.plan t in p.joins))
        where
          includes : (s : ℕ) × (has s (let p = S.plan t in p.joins) ≡ true) → Settled A lines w u
          includes (s, j) = ⊎_elim
              (λ stale. counts_on_old (unconfirmed uu) stale)
              (λ present. absurd (not_it (sym ((let p = c.plans in p.loaded t s uu j present).1 (uid_number w) conf open_w))))
              (stale_or_present t)

          changes : ((s : ℕ) → has s (let p = S.plan t in p.joins) ≡ true → ⊥) → Settled A lines w u
          changes without = own (let p = S.plan t in p.writes) refl
            where
              own : (o : Option Packed) → (let p = S.plan t in p.writes) ≡ o → Settled A lines w u
              own None is = includes_none begun (without, inl is)
              own (Some g) is = other (let p = S.plan (uid_number w) in p.writes) refl
                where
                  other : (o : Option Packed) → (let p = S.plan (uid_number w) in p.writes) ≡ o → Settled A lines w u
                  other (Some k) wrote = includes_none begun (without, inr (ap is_some wrote))
                  other None none =
                      let l = (let z = c.lists in z.plan t uu (ap is_some is)) in
                      ⊎_elim
                      (λ same. absurd (other_root (its_root none t (⊎_elim (λ over. absurd (not_over S t uu over)) (λ kin. kin) (kin_granted
                      S N core c.roots (let g = c.grants in g.row) (let g = c.grants in g.root) t (granted t l.0 l.1 same) untold)))))
                      (λ less. counts_on_old (unconfirmed uu) (l.0, l.1, less))
                      (now_or_old t l.0 l.1)

    -- one with a record
    recorded_settled : IsRecordedAt M u → decided S t ≡ false → Settled A lines w u
    recorded_settled r undone = ⊎_elim (λ on. absurd (never on (unconfirmed uu))) (λ light. changes_nothing light)
        (let k = core.coordinators in k.record_taken t some)
      where
        sees : SeesRecords r.place (let d = (let n = r.node in n.disk) in d.intents) S
        sees = let s = both.disks in s.records r.place r.node r.here

        at : at_uid u (let d = (let n = r.node in n.disk) in d.intents) ≡ Some r.intent
        at = in_at (u, r.intent) (let d = (let n = r.node in n.disk) in d.intents) sees.sorted r.there

        some : is_some (S.intent t) ≡ true
        some = ap is_some (sees.is u (sees.own u r.intent at) ∙ ap nodes_of at)

        uu : undecided S t ≡ true
        uu i = not (undone i) && or_right (is_open (S.stage t)) (is_some (S.intent t)) some i

  -- ---- one at its commit

  module _ (heard : SeesHeard x tops A M) (good : IsGood M) (j : ℕ) (n : Node) (parts : Parts) (here : M.nodes j ≡ Some n) (live : n.live
      ≡ Some parts) (u : Uid) (q : Doing) (m : Machine) (works : doing_of u parts.coord ≡ Some q) (now : q.now ≡ Committing m)
      (apart : u ≢ w) (alone : S.root (uid_number u) ≡ S.root (uid_number w) → S.stage (uid_number u) ≡ Idle → ⊥) where
    plan_seen : SeesPlan x tops u m A
    plan_seen = let h = heard.coords j n parts here live in h.plans u q m works now

    seen : WorksBy x S (uid_number u) (Committing m)
    seen = committing_there x tops A M both heard good j n parts here live u q m works now

    -- while it votes
    module _ (p : commit.Plan) (left : List ℕ) (plan : SeesPlan x tops u (Voting p left) A) (idle : S.stage (uid_number u) ≡ Idle) where
      unbegun : S.begun (uid_number u) ≡ false
      unbegun = falls_to (S.begun (uid_number u)) (λ on. never (ap is_idle idle) (let f = core.fresh in f.begun (uid_number u) on))

      off : S.conf (uid_number u) ≡ false
      off = falls_to (S.conf (uid_number u)) (λ on. never (let f = core.fresh in f.conf (uid_number u) on) unbegun)

      own_untold : N.told (uid_number u) ≡ false
      own_untold = falls_to (N.told (uid_number u)) (λ on. never ((let g = c.grants in g.told (uid_number u) on).0) (ap is_gone idle))

      by_root : (N.told (S.root (uid_number u)) ≡ false → Settled A lines w u) → Settled A lines w u
      by_root f = ⊎_elim (λ on. root_is_gone unbegun (let g = c.grants in g.told (S.root (uid_number u)) on).0) f
          (bool_cases (N.told (S.root (uid_number u))))

      by_load : {st : ObjectState} → HasLoaded S N (uid_number u) st → Settled A lines w u
      by_load h = ⊎_elim
          (λ same. by_root (λ out. absurd (alone (sym (other same (own_untold, out))) idle)))
          (λ less. counts_on_old off ((let l = h.load in l.inc), inl (let l = h.load in l.had), less))
          (now_or_old (uid_number u) (let l = h.load in l.inc) (inl (let l = h.load in l.had)))
        where
          other : (let l = h.load in l.inc) ≡ N.inc → IsUntold S N (uid_number u) → S.root (uid_number w) ≡ S.root (uid_number u)
          other same untold = ((c.answers (Loaded (uid_number u) (let l = h.load in l.inc) h.state) (let l = h.load in l.answered)).3
              (ap is_idle idle) same untold).1.1 (uid_number w) conf open_w

      by_grant : (let q = S.plan (uid_number w) in q.writes) ≡ None → (i : ℕ) → IsHadBy A (uid_number u) i → Settled A lines w u
      by_grant none i h = ⊎_elim
          (λ same. by_root (λ out. ⊎_elim
          (λ over. root_is_gone unbegun over.0)
          (λ kin. absurd (alone (sym (its_root none (uid_number u) kin)) idle))
          (kin_granted S N core c.roots (let g = c.grants in g.row) (let g = c.grants in
          g.root) (uid_number u) (granted (uid_number u) i h same) (own_untold, out))))
          (λ less. counts_on_old off (i, h, less))
          (now_or_old (uid_number u) i h)

      voting_fine : IsFine x A lines w u p.used
      voting_fine = by (used_at x p.used) refl
        where
          only : (v : Used) → used_at x p.used ≡ Some v → ((v.loaded ≡ None) ⊎ ((s : ℕ) → has s v.joins ≡ true → ⊥)) × ((v.called ≡ false)
              ⊎ (is_some (let q = S.plan (uid_number w) in q.writes) ≡ true)) → UsesNone x (S.plan (uid_number w)) p.used
          only v is its y at = subst (λ (z : Used). ((z.loaded ≡ None) ⊎ ((s : ℕ) → has s z.joins ≡ true → ⊥))
              × ((z.called ≡ false) ⊎ (is_some (let q = S.plan (uid_number w) in q.writes) ≡ true))) (some_is is at) its

          writes : (v : Used) → used_at x p.used ≡ Some v → v.loaded ≡ None → v.called ≡ true → (o : Option Packed) →
              (let q = S.plan (uid_number w) in q.writes) ≡ o → IsFine x A lines w u p.used
          writes v is unloaded called (Some g) wrote = inr (only v is (inl unloaded, inr (ap is_some wrote)))
          writes v is unloaded called None none = let l = plan.list v refl is called in inl (by_grant none l.inc l.had)

          loads : (v : Used) → used_at x p.used ≡ Some v → (o : Option ObjectState) → v.loaded ≡ o → IsFine x A lines w u p.used
          loads v is (Some st) loaded = inl (by_load (plan.loaded v st refl is loaded))
          loads v is None unloaded = ⊎_elim (λ called. writes v is unloaded called (let q = S.plan (uid_number w) in q.writes) refl)
              (λ uncalled. inr (only v is (inl unloaded, inl uncalled))) (bool_cases v.called)

          by : (o : Option Used) → used_at x p.used ≡ o → IsFine x A lines w u p.used
          by None is = inr (λ v at. not_some is at)
          by (Some v) is = loads v is v.loaded refl

    module _ (begun : S.begun (uid_number u) ≡ true) (opened : is_open (S.stage (uid_number u)) ≡ true)
        (ungone : is_gone (S.stage (uid_number u)) ≡ false) where
      undone : decided S (uid_number u) ≡ false
      undone = falls_to (decided S (uid_number u)) (λ on. never (let k = core.coordinators in k.decided_closed (uid_number u) on) ungone)

      uu : undecided S (uid_number u) ≡ true
      uu i = not (undone i) && (opened i || is_some (S.intent (uid_number u)))

    pub fine : IsFine x A lines w u (let p = plan_of m in p.used)
    fine = by m plan_seen seen
      where
        by : (k : Machine) → SeesPlan x tops u k A → WorksBy x S (uid_number u) (Committing k) →
            IsFine x A lines w u (let p = plan_of k in p.used)
        by (Voting p left) plan idle = voting_fine p left plan idle
        by (Preparing p left) plan sees =
            inl (begun_settled u apart sees.begun (uu sees.begun (ap is_open sees.stage) (ap is_gone sees.stage)))
        by (Confirming p) plan sees = inl (begun_settled u apart sees.begun (uu sees.begun (ap is_open sees.stage) (ap is_gone sees.stage)))

  pub recorded_fine : (u : Uid) → u ≢ w → IsRecordedAt M u → decided S (uid_number u) ≡ false → Settled A lines w u
  recorded_fine u apart r undone = recorded_settled u apart r undone
