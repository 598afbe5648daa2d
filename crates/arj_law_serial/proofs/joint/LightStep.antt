-- A step of the disk machine keeps what is kept of tops that naming confirmed as ones that change nothing.
use Rattle.arj_law_parts.proofs.Words
use Words.{◌≡◌, ◌≢◌, ◌⊎◌, ◌==◌, ◌&&◌, ◌||◌, ◌++◌, ◌∙◌, not, ℕ, Bool, true, false, List, [], ◌∷◌, Some, is_some, ap, arith, inl, inr, refl}
use Words.{subst, sym, ⊎_elim, eqb-true, eq-eqb, append_assoc, is_on, Uid, plan_of, uid_number, Node, number_tells, Seen}
use Rattle.arj_law_serial.proofs.Terms
use Terms.{Core, IsPresent, Office, Done, Packed, Plan, decided, decided_in, entry_in, is_open, undecided, has, bool_cases, never, or_cases}
use Terms.{in_decided, Kinds, IsPassedNow, SeesBoth, SeesHeard, called_later, in_both, in_front, IsStep, book, IsKept, IsCalledBefore}
use Terms.{IsRecordedAt, AddsNone, IsSplit}
use Rattle.arj_law_disk.specs.machine.{State.State, Words.In}
use Rattle.arj_law_disk_view.proofs.deciding_lines.Steps.{HasKept}
use Rattle.arj_law_serial.proofs.joint
use joint.{Recording.AreRecordedBy}
use joint.JoinStep.{EachUp, IsGrown, KeepTurns}
use joint.JoinTurns.{IsFine, IsFurther, Settled, before_more, called_first, changes_nothing, counts_on_old, fine_later, had_later}
use joint.JoinTurns.{includes_none, root_is_gone, settled_later}
use joint.LightStates.{AreBeside, AreOfTwo, IsApart, IsPassed, IsPassing, KeepLights, passing_before, passing_called, passing_recorded}
use joint.LightStates.{past, recorded_open}

-- It was confirmed so, or may be; and it is decided, or may be now, or the other one is of another root.
abbrev pub IsWatched : (Uid → Type 0) → Office → Seen → Uid → Uid → Type 0
IsWatched Cand A M w u =
    (IsPassed A M w ⊎ IsPassing A M w) × (u ≢ w) × ((decided A.world.disk (uid_number w) ≡ true) ⊎ (Cand w ⊎ AreOfTwo A u w))

-- of two roots, or of one
pub two_of : (A : Office) (u w : Uid) → AreOfTwo A u w ⊎ (A.world.disk.root (uid_number u) ≡ A.world.disk.root (uid_number w))
two_of A u w = ⊎_elim (λ same. inr (eqb-true (A.world.disk.root (uid_number u)) (A.world.disk.root (uid_number w)) same))
    (λ off. inl (λ same. never (eq-eqb (A.world.disk.root (uid_number u)) (A.world.disk.root (uid_number w)) same) off))
    (bool_cases (A.world.disk.root (uid_number u) == A.world.disk.root (uid_number w)))

-- whose outcome is open isn't decided
pub not_decided : (S : State) (t : ℕ) → undecided S t ≡ true → decided S t ≡ true → {X : Type 0} → X
not_decided S t open_t on = absurd (never open_t (ap (λ b. not b && (is_open (S.stage t) || is_some (S.intent t))) on))

-- a decided top has its decision
pub decided_out : (ds : List Done) (t : ℕ) → decided_in ds t ≡ true → (d : Done) × In d ds × (d.top ≡ t)
decided_out [] t on = absurd (cc on)
decided_out (e ∷ ds) t on = ⊎_elim (λ here. (e, inl refl, eqb-true e.top t here)) (λ there. let r = decided_out ds t there in
    (r.0, inr r.1, r.2)) (or_cases (e.top == t) (decided_in ds t) on)

module _ (x : ℕ) (tops : Kinds) (D : Office → Type 0) (C Cand : Uid → Type 0) (A : Office) (M : Seen) (both : SeesBoth x tops A M)
    (heard : SeesHeard x tops A M) (kept : IsKept M) (turns : KeepTurns x A M) (further : (B : Office) → D B →
    IsFurther A B) (grown : (B : Office) → D B → IsGrown Cand A.world B.world)
    (opened : (w : Uid) → Cand w → undecided A.world.disk (uid_number w) ≡ true) (cand : (w : Uid) → Cand w → IsRecordedAt M w ⊎ C w)
    (before : KeepLights x A M) (waiting : (u : Uid) → C u → (w : Uid) → IsWatched Cand A M w u → Settled A M.lines w u) where
  abbrev S : State
  S = A.world.disk

  core : Core S
  core = (let n = both.named in let k = n.whole in k.core)

  -- of a top with a record, or one that waits, that isn't decided
  settled : (u : Uid) → IsRecordedAt M u ⊎ C u → decided S (uid_number u) ≡ false → (w : Uid) → IsWatched Cand A M w u →
      Settled A M.lines w u
  settled u (inr c) undone w watched = waiting u c w watched
  settled u (inl r) undone w (either, apart, how) = by either how
    where
      two_so : IsPassed A M w ⊎ IsPassing A M w → AreOfTwo A u w → Settled A M.lines w u
      two_so (inl passed) two = before.records u r undone w passed (apart, inr two)
      two_so (inr passing) two = passing_recorded x tops A M both w passing M.lines u two r undone

      by : IsPassed A M w ⊎ IsPassing A M w → (decided S (uid_number w) ≡ true) ⊎ (Cand w ⊎ AreOfTwo A u w) → Settled A M.lines w u
      by (inl passed) (inl on) = before.records u r undone w passed (apart, inl on)
      by (inr passing) (inl on) = not_decided S (uid_number w) passing.opened on
      by e (inr (inr two)) = two_so e two
      by e (inr (inl c)) = ⊎_elim (λ two. two_so e two)
          (λ same. absurd (apart (number_tells u w (let n = both.named in let k = n.roots in
          k.one (uid_number u) (uid_number w) (recorded_open x tops A M both u r undone) (opened w c) same))))
          (two_of A u w)

  begun_of : (w : Uid) → IsPassed A M w ⊎ IsPassing A M w → S.begun (uid_number w) ≡ true
  begun_of w (inl passed) = let f = core.fresh in f.light (uid_number w) passed.light
  begun_of w (inr passing) = passing.begun

  module _ (B : Office) (into : D B) (Z : Seen) (now : SeesBoth x tops B Z) (step : IsStep M Z) where
    abbrev f : IsFurther A B
    f = further B into

    abbrev g : IsGrown Cand A.world B.world
    g = grown B into

    core_now : Core B.world.disk
    core_now = (let n = now.named in let k = n.whole in k.core)

    -- who is decided was so, or may be now
    decided_now : (w : Uid) → decided B.world.disk (uid_number w) ≡ true → (decided S (uid_number w) ≡ true) ⊎ Cand w
    decided_now w on = ⊎_elim new old (in_both d.0 g.new S.tops (subst (In d.0) g.are d.1))
      where
        d : (d : Done) × In d B.world.disk.tops × (d.top ≡ uid_number w)
        d = decided_out B.world.disk.tops (uid_number w) on

        new : In d.0 g.new → (decided S (uid_number w) ≡ true) ⊎ Cand w
        new i = let h = g.whose d.0 i in inr (subst Cand (number_tells h.0 w (h.2 ∙ d.2)) h.1)

        old : In d.0 S.tops → (decided S (uid_number w) ≡ true) ⊎ Cand w
        old i = inl (subst (λ z. decided S z ≡ true) d.2 (in_decided S.tops d.0 i))

    -- naming confirmed it so in this step, in which nothing was decided
    record IsNew (w : Uid) : Type 0 where
      passing : IsPassing A M w
      same : B.world.disk.tops ≡ S.tops
      present : IsPresent B.world.disk B.names (uid_number w)

    passed_before : (w : Uid) → IsPassed B Z w → IsPassed A M w ⊎ IsNew w
    passed_before w p = by (f.lit (uid_number w) p.light)
      where
        there : (m : Node) × (M.nodes w.node ≡ Some m) × HasKept m p.node
        there = step.nodes w.node p.node p.there

        plan_same : S.begun (uid_number w) ≡ true → B.world.disk.plan (uid_number w) ≡ S.plan (uid_number w)
        plan_same begun = let l = f.later in l.plan (uid_number w) begun

        joins : S.begun (uid_number w) ≡ true → has p.store (let q = S.plan (uid_number w) in q.joins) ≡ true
        joins begun = sym (ap (λ (q : Plan). has p.store q.joins) (plan_same begun)) ∙ p.joins

        old : S.light (uid_number w) ≡ true → IsPassed A M w
        old on =
            let begun = (let k = core.fresh in k.light (uid_number w) on) in
            record {
              node = there.0;
              there = there.1;
              light = on;
              store = p.store;
              joins = joins begun;
              stands = ⊎_elim (λ o. inl (let l = f.later in l.opened (uid_number w) begun o))
                  (λ d. ⊎_elim (λ was. inr was) (λ c. inl (opened w c)) (decided_now w d)) p.stands;
            }

        by : (S.light (uid_number w) ≡ true) ⊎ ((B.world.disk.tops ≡ S.tops) × IsPassedNow S B.world.disk B.names (uid_number w)) →
            IsPassed A M w ⊎ IsNew w
        by (inl on) = inl (old on)
        by (inr (same, n)) = ⊎_elim (λ on. inl (old on)) (λ off. inr (new off)) (bool_cases (S.light (uid_number w)))
          where
            present : IsPresent B.world.disk B.names (uid_number w)
            present = n.present (inr (p.store, joins n.begun))

            new : S.light (uid_number w) ≡ false → IsNew w
            new off = record {
              passing = record {
                node = there.0;
                there = there.1;
                begun = n.begun;
                sealed = n.sealed;
                opened = n.opened;
                unconfirmed = n.unconfirmed;
                unlit = off;
                store = p.store;
                joins = joins n.begun;
                present = λ i h. (let later = present i (had_later A B f (uid_number w) i h) in
                    let low = past x tops A M both (uid_number w) i h in let l = f.inc in omega (arith, later, low, l));
              };
              same = same;
              present = present;
            }

    either_before : (w : Uid) → IsPassed B Z w → IsPassed A M w ⊎ IsPassing A M w
    either_before w p = ⊎_elim (λ passed. inl passed) (λ (n : IsNew w). inr n.passing) (passed_before w p)

    root_same : B.world.disk.root ≡ S.root
    root_same = let l = f.later in l.root

    watched_of : (w u : Uid) → IsPassed B Z w → IsApart B w u → IsWatched Cand A M w u
    watched_of w u p (apart, how) = (
      either_before w p,
      apart,
      ⊎_elim (λ on. ⊎_elim (λ was. inl was) (λ c. inr (inl c)) (decided_now w on)) (λ (two : AreOfTwo B u w).
          inr (inr (λ same. two (ap (λ r. r (uid_number u)) root_same ∙ same ∙ ap (λ r. r (uid_number w)) (sym root_same))))) how,
    )

    more_before : (v w : Uid) → IsCalledBefore M.lines v w → IsCalledBefore Z.lines v w
    more_before v w b = subst (λ ls. IsCalledBefore ls v w) (sym step.lines) (before_more M.lines step.more v w b)

    -- ---- a decision behind its confirmation

    module _ (w : Uid) (passed : IsPassed A M w) (d : Done) (v : Uid) (i : In d g.new) (counts : d.counts ≡ true)
        (number : uid_number v ≡ d.top) where
      there_now : In d B.world.disk.tops
      there_now = subst (In d) (sym g.are) (in_front d g.new S.tops i)

      conf : S.conf (uid_number v) ≡ true
      conf = ap S.conf number ∙ g.conf d i d.top (let k = core_now.journal in k.counted d there_now counts)

      dark : S.light (uid_number v) ≡ true → {X : Type 0} → X
      dark on = absurd (never conf (let l = core.light in l.other (uid_number v) on))

      undone : decided S (uid_number v) ≡ false
      undone = ap (decided S) number ∙ g.undone d i

      its : Cand v
      its = let h = g.whose d i in subst Cand (number_tells h.0 v (h.2 ∙ sym number)) h.1

      apart : v ≢ w
      apart same = dark (ap (λ (y : Uid). S.light (uid_number y)) same ∙ passed.light)

      watched : IsWatched Cand A M w v
      watched = (
        inl passed,
        apart,
        ⊎_elim (λ two. inr (inr two)) (λ same. ⊎_elim (λ open_w. absurd (apart (number_tells v w (let n = both.named in let k = n.roots in
            k.one (uid_number v) (uid_number w) (opened v its) open_w same)))) (λ on. inl on) passed.stands) (two_of A v w),
      )

      new_behind : IsCalledBefore Z.lines w v ⊎ AddsNone d
      new_behind = by (settled v (cand v its) undone w watched)
        where
          by : Settled A M.lines w v → IsCalledBefore Z.lines w v ⊎ AddsNone d
          by (called_first c) = inl (more_before w v c)
          by (changes_nothing on) = dark on
          by (counts_on_old off s) = absurd (never conf off)
          by (root_is_gone off gone) = absurd (never (let k = core.fresh in k.conf (uid_number v) conf) off)
          by (includes_none begun none) =
              let l = f.later in
              let mine : S.plan (uid_number v) ≡ d.plan = sym (l.plan (uid_number v) begun) ∙ ap B.world.disk.plan number
              ∙ sym (let k = core_now.journal in k.plan d there_now) in
              inr (λ s on. none.0 s (ap (λ (q : Plan). has s q.joins) mine ∙ on))

    -- ---- the whole

    -- the stores that a top includes
    abbrev JoinsOf : Office → Uid → List ℕ
    JoinsOf G w = (let q = G.world.disk.plan (uid_number w) in q.joins)

    old_split : (w : Uid) → IsPassed A M w → IsSplit S.first_entry M.lines w (JoinsOf A w) S.tops →
        IsSplit B.world.disk.first_entry Z.lines w (JoinsOf B w) B.world.disk.tops
    old_split w passed s = record {
      later = g.new ++ s.later;
      earlier = s.earlier;
      are = g.are ∙ ap (λ ds. g.new ++ ds) s.are ∙ sym (append_assoc g.new s.later s.earlier);
      unlisted = λ y on listed. s.unlisted y (ap (λ (q : Plan). has y q.joins) (sym plan_same) ∙ on)
          (ap (λ (e : Packed). has y (let z = entry_in e s.earlier in z.content)) (let l = f.later in sym l.first_entry) ∙ listed);
      before = λ d v i counts number. more_before v w (s.before d v i counts number);
      behind = λ d v i counts number. ⊎_elim (λ (j : In d g.new). new_behind w passed d v j counts number) (λ (j : In d s.later).
          ⊎_elim (λ c. inl (more_before w v c)) (λ n. inr n) (s.behind d v j counts number)) (in_both d g.new s.later i);
    }
      where
        plan_same : B.world.disk.plan (uid_number w) ≡ S.plan (uid_number w)
        plan_same = let l = f.later in l.plan (uid_number w) (let k = core.fresh in k.light (uid_number w) passed.light)

    new_split : (w : Uid) → IsPassed B Z w → IsNew w → IsSplit B.world.disk.first_entry Z.lines w (JoinsOf B w) B.world.disk.tops
    new_split w p n = record {
      later = [];
      earlier = B.world.disk.tops;
      are = refl;
      unlisted =
          λ y on listed. (let k = now.named in let l = k.lists in l.light (uid_number w) y p.light still_open n.present on (inr listed));
      before = λ d v i counts number.
          more_before v w (passing_before x tops A M both w n.passing kept heard turns d v (subst (In d) n.same i) counts number);
      behind = λ d v i. absurd i;
    }
      where
        still_open : undecided B.world.disk (uid_number w) ≡ true
        still_open = ⊎_elim (λ o. o) (λ on. (let ps = n.passing in
            not_decided S (uid_number w) ps.opened (ap (λ ds. decided_in ds (uid_number w)) (sym n.same) ∙ on))) p.stands

    undone_before : (z : ℕ) → decided B.world.disk z ≡ false → decided S z ≡ false
    undone_before z off = by (decided S z) refl
      where
        by : (b : Bool) → decided S z ≡ b → decided S z ≡ false
        by false is = is
        by true is = absurd (never (let l = f.later in l.decided z is) off)

    pub keeps : EachUp (AreBeside x A M.lines (IsWatched Cand A M)) Z → AreRecordedBy C M Z → KeepLights x B Z
    keeps up_now recs = record {
      works = λ j n t here live u q m works at w how.
          let watched = watched_of w u how.0 how.1 in
          subst (λ ls. IsFine x B ls w u (let p = plan_of m in p.used)) (sym step.lines) (fine_later A B f w (begun_of w watched.0) x
          M.lines step.more u (let p = plan_of m in p.used) (up_now j n t here live u q m works at w watched));
      records = λ u r undone w passed apart.
          let watched = watched_of w u passed apart in
          subst (λ ls. Settled B ls w u) (sym step.lines) (settled_later A B f w (begun_of w watched.0) M.lines step.more u
          (settled u (recs u r) (undone_before (uid_number u) undone) w watched));
      called = λ w p. subst (λ ls. is_on (let K = book ls in K.called) w ≡ true) (sym step.lines) (called_later M.lines step.more w
          (⊎_elim (λ passed. before.called w passed) (λ passing. passing_called x tops A M both w passing kept) (either_before w p)));
      splits = λ w p. ⊎_elim (λ passed. old_split w passed (before.splits w passed)) (λ n. new_split w p n) (passed_before w p);
    }
