-- A step of the disk machine keeps what keeps tops from counting, and so includers stand in the order of their commit calls.
use Rattle.arj_law_parts.proofs.Words
use Words.{◌≡◌, ◌≢◌, ◌⊎◌, ◌==◌, ◌++◌, ◌∙◌, ℕ, Bool, true, false, cond, List, [], ◌∷◌, Option, Some, None, is_some, ap, inl, inr, refl}
use Words.{subst, sym, ⊎_elim, option_map, uid_is, in_find, Line, ObjectState, Uid, object, uid_eq, Confirming, Used, changed_of, plan_of}
use Words.{Disk, Do, Effect, Say, Send, stopped, worked, Parts, uid_number, Node, number_tells, Seen}
use Words.commit
use Rattle.arj_law_serial.proofs.Terms
use Terms.{Core, World, Office, Done, Plan, decided, decided_in, undecided, has, falls_to, never, some_is, in_decided, at, posted, said, up}
use Terms.{Up, Walks, halted, SeesConfirming, packed, IsTidy, plan_by, used_at, Kinds, has_same, used_there, SeesBoth, AreOnce, SeesPlan}
use Terms.{in_both, in_front, IsStep, AreAt, IncludersTakeTurns, IncludesNone, IsCalledBefore, IsRecordedAt}
use Rattle.arj_law_disk.specs.machine.{State.State, Words.In}
use Rattle.arj_law_serial.proofs.joint
use joint.{JoinFresh.not_some, JoinFresh.recorded_fine, JoinUses.UsesSo, Joining.among_of, Recording.AreRecordedBy}
use joint.JoinTurns.{IsFine, IsFurther, Settled, UsesNone, before_more, called_first, changes_nothing, counts_on_old, fine_later}
use joint.JoinTurns.{includes_none, root_is_gone, settled_later}
use Rattle.arj_law_serial.specs.joint.Includers.{IncludersAreCalledFirst}

-- ---- what is kept

-- it is decided, and counts
abbrev pub IsCounted : Office → Uid → Type 0
IsCounted A w = (d : Done) × In d (let W = A.world in W.disk.tops) × (d.counts ≡ true) × (d.top ≡ uid_number w)

-- so much holds of a top at its commit against each of these
abbrev pub IsAgainst : ℕ → Office → List Line → (Uid → Type 0) → Uid → List Used → Type 0
IsAgainst x A lines D u used = (w : Uid) → D w → u ≢ w → IsFine x A lines w u used

-- of each node that is up
abbrev pub EachUp : (Parts → Type 0) → Seen → Type 0
EachUp P M = (j : ℕ) (n : Node) (t : Parts) → M.nodes j ≡ Some n → n.live ≡ Some t → P t

abbrev pub AreAgainst : ℕ → Office → List Line → (Uid → Type 0) → Parts → Type 0
AreAgainst x A lines D t = AreAt (UsesSo (IsAgainst x A lines D)) t.coord

-- Against each decided top that counts, tops at their commits, and those with a record that isn't decided, won't count or were called
-- later, where they conflict; and of decided ones it is so.
pub record KeepTurns (x : ℕ) (A : Office) (M : Seen) : Type 0 where
  pub works : EachUp (AreAgainst x A M.lines (IsCounted A)) M
  pub records : (u : Uid) → IsRecordedAt M u → decided A.world.disk (uid_number u) ≡ false → (w : Uid) → IsCounted A w →
      Settled A M.lines w u
  pub turns : IncludersTakeTurns M.lines (let W = A.world in W.disk.tops)

-- ---- nodes that are up, along a step

module _ (P : Parts → Type 0) (k : ℕ) where
  abbrev pub OthersUp : Seen → Type 0
  OthersUp N = (j : ℕ) (n : Node) (t : Parts) → (j == k) ≡ false → N.nodes j ≡ Some n → n.live ≡ Some t → P t

  pub ups_at : (d : Disk) (live : Option Parts) (N Z : Seen) → ((j : ℕ) → Z.nodes j ≡ (at k d live N).nodes j) → OthersUp N →
      ((t : Parts) → live ≡ Some t → P t) → EachUp P Z
  ups_at d live N Z same others own j n t here up_is = by (j == k) refl (sym (same j) ∙ here)
    where
      by : (b : Bool) → (j == k) ≡ b → cond b (Some (record { number = k; disk = d; live = live })) (N.nodes j) ≡ Some n → P t
      by true is e =
          own t (ap (λ (z : Node). z.live) (let one : record { number = k; disk = d; live = live } ≡ n = some_is refl e in one) ∙ up_is)
      by false is e = others j n t is e up_is

  pub ups_walk : (e : ℕ) (v : Parts) → P v → (es : List Effect) (d : Disk) (N : Seen) → OthersUp N →
      Walks (EachUp P) e k es (Up (EachUp P) k v) d N
  ups_walk e v own [] d N others =
      ups_at d (Some v) N (up k d v N) (λ j. refl) others (λ t is. (let same : v ≡ t = some_is refl is in subst P same own))
  ups_walk e v own (Do w ∷ es) d N others = (
    λ how. ups_at (stopped how w d) None N (halted e k (stopped how w d) N) (λ j. refl) others (λ t is. not_some refl is),
    ups_walk e v own es (worked w d) N others,
  )
  ups_walk e v own (Say b ∷ es) d N others = ups_walk e v own es d (said e (b ∷ []) N) others
  ups_walk e v own (Send to m ∷ es) d N others =
      λ more quiet. ups_walk e v own es d (said e more (posted (record { from = k; to = to; message = m }) N)) others

  pub others_up : (d : Disk) (live : Option Parts) (M : Seen) → EachUp P (at k d live M) → OthersUp M
  others_up d live M each j n t other here =
      each j n t ((λ i. cond (other i) (Some (record { number = k; disk = d; live = live })) (M.nodes j)) ∙ here)

-- ---- a top that waits for naming

-- by its plan in the machine
pub plan_includes_none : (x : ℕ) (tops : Kinds) (A : Office) (u : Uid) (p : commit.Plan) (q : Plan) → SeesConfirming x A.world.disk
    (uid_number u) p → SeesPlan x tops u (Confirming p) A → UsesNone x q p.used → IncludesNone (A.world.disk.plan (uid_number u)) q
plan_includes_none x tops A u p q sees plan none = subst (λ (z : Plan). IncludesNone z q) (sym sees.plan) (by (used_at x p.used) refl)
  where
    by : (o : Option Used) → used_at x p.used ≡ o → IncludesNone (plan_by o (changed_of x p)) q
    by None is = ((λ s on. cc on), inl refl)
    by (Some v) is = (joins (none v is).0, writes (none v is).1 (changed_of x p) refl)
      where
        joins : (v.loaded ≡ None) ⊎ ((s : ℕ) → has s v.joins ≡ true → ⊥) → (s : ℕ) → has s v.joins ≡ true → ⊥
        joins (inl unloaded) s on = let t : IsTidy p = sees.tidy in
            let l = t.loaded v s (used_there x p.used v is).0 (sym (has_same s v.joins) ∙ on) in not_some unloaded l.1
        joins (inr without) s on = without s on

        writes : (v.called ≡ false) ⊎ (is_some q.writes ≡ true) → (o : Option ObjectState) → changed_of x p ≡ o →
            (option_map packed o ≡ None) ⊎ (is_some q.writes ≡ true)
        writes its None same = inl refl
        writes (inl off) (Some st) same =
            let g = in_find (λ (y : ObjectState). uid_eq y.uid (object x)) st p.changed same in
            let r = plan.changed v st is (among_of st p.changed g.0) (uid_is st.uid (object x) g.1) in absurd (never r.0 off)
        writes (inr on) (Some st) same = inr on

-- ---- a step

-- Of the newly decided ones each is one of these tops; who is confirmed behind it was so before.
pub record IsGrown (Cand : Uid → Type 0) (W V : World) : Type 0 where
  pub new : List Done
  pub are : V.disk.tops ≡ new ++ W.disk.tops
  pub undone : (d : Done) → In d new → decided W.disk d.top ≡ false
  pub whose : (d : Done) → In d new → (w : Uid) × Cand w × (uid_number w ≡ d.top)
  pub conf : (d : Done) → In d new → (z : ℕ) → V.disk.conf z ≡ true → W.disk.conf z ≡ true

-- such a top, which is confirmed as one that counts
abbrev pub IsFresh : (Uid → Type 0) → Office → Uid → Type 0
IsFresh Cand A w = Cand w × (A.world.disk.conf (uid_number w) ≡ true)

-- a decided one that counts, or such a top
abbrev pub IsEither : (Uid → Type 0) → Office → Uid → Type 0
IsEither Cand A w = IsCounted A w ⊎ IsFresh Cand A w

module _ (x : ℕ) (tops : Kinds) (D : Office → Type 0) (C Cand : Uid → Type 0) (A : Office) (M : Seen) (both : SeesBoth x tops A M)
    (further : (B : Office) → D B → IsFurther A B) (grown : (B : Office) → D B → IsGrown Cand A.world B.world)
    (opened : (w : Uid) → Cand w → undecided A.world.disk (uid_number w) ≡ true) (cand : (w : Uid) → Cand w → IsRecordedAt M w ⊎ C w)
    (before : KeepTurns x A M) (waiting : (u : Uid) → C u → (w : Uid) → IsEither Cand A w → u ≢ w → Settled A M.lines w u) where
  abbrev S : State
  S = A.world.disk

  core : Core S
  core = (let n = both.named in let k = n.whole in k.core)

  begun_by : (z : ℕ) → decided S z ≡ true → S.begun z ≡ true
  begun_by z on = ⊎_elim (λ conf. let f = core.fresh in f.conf z conf) (λ light. let f = core.fresh in
      f.light z light) (let k = core.coordinators in k.decided_taken z on)

  counted_decided : (w : Uid) → IsCounted A w → decided S (uid_number w) ≡ true
  counted_decided w (d, i, counts, top) = subst (λ z. decided S z ≡ true) top (in_decided S.tops d i)

  either_begun : (w : Uid) → IsEither Cand A w → S.begun (uid_number w) ≡ true
  either_begun w (inl counted) = begun_by (uid_number w) (counted_decided w counted)
  either_begun w (inr fresh) = let f = core.fresh in f.conf (uid_number w) fresh.1

  -- of a top with a record, or one that waits, that isn't decided
  settled : (u : Uid) → IsRecordedAt M u ⊎ C u → decided S (uid_number u) ≡ false → (w : Uid) → IsEither Cand A w → u ≢ w →
      Settled A M.lines w u
  settled u (inl r) undone w (inl counted) apart = before.records u r undone w counted
  settled u (inl r) undone w (inr fresh) apart = recorded_fine x tops A M both M.lines w fresh.1 (opened w fresh.0) u apart r undone
  settled u (inr c) undone w either apart = waiting u c w either apart

  module _ (B : Office) (into : D B) (Z : Seen) (now : SeesBoth x tops B Z) (once : AreOnce B.world.disk.tops) (step : IsStep M Z) where
    abbrev f : IsFurther A B
    f = further B into

    abbrev g : IsGrown Cand A.world B.world
    g = grown B into

    core_now : Core B.world.disk
    core_now = (let n = now.named in let k = n.whole in k.core)

    -- who is decided now, and counts
    either_of : (w : Uid) → IsCounted B w → IsEither Cand A w
    either_of w (d, i, counts, top) = ⊎_elim new old (in_both d g.new S.tops (subst (In d) g.are i))
      where
        new : In d g.new → IsEither Cand A w
        new j =
            let h = g.whose d j in
            let same : h.0 ≡ w = number_tells h.0 w (h.2 ∙ top) in
            inr (
              subst Cand same h.1,
              g.conf d j (uid_number w) (subst (λ z. B.world.disk.conf z ≡ true) top (let k = core_now.journal in k.counted d i counts)),
            )

        old : In d S.tops → IsEither Cand A w
        old j = inl (d, j, counts, top)

    undone_before : (z : ℕ) → decided B.world.disk z ≡ false → decided S z ≡ false
    undone_before z off = falls_to (decided S z) (λ on. never (let l = f.later in l.decided z on) off)

    -- ---- decided tops

    -- it counts, and so what keeps it from that doesn't hold
    turn : (d e : Done) → In d g.new → In e S.tops → In d B.world.disk.tops → IncludersAreCalledFirst Z.lines e d
    turn d e i j there t u d_counts e_counts te ud =
        by (settled u whose (ap (decided S) ud ∙ g.undone d i) t (inl (e, j, e_counts, sym te)) (λ same. never (counted_decided t
        (e, j, e_counts, sym te)) (ap (λ (y : Uid). decided S (uid_number y)) (sym same) ∙ ap (decided S) ud ∙ g.undone d i)))
      where
        whose : IsRecordedAt M u ⊎ C u
        whose = let h = g.whose d i in subst (λ (y : Uid). IsRecordedAt M y ⊎ C y) (number_tells h.0 u (h.2 ∙ sym ud)) (cand h.0 h.1)

        conf_now : B.world.disk.conf (uid_number u) ≡ true
        conf_now = ap B.world.disk.conf ud ∙ (let k = core_now.journal in k.counted d there d_counts)

        conf : S.conf (uid_number u) ≡ true
        conf = g.conf d i (uid_number u) conf_now

        by : Settled A M.lines t u → IsCalledBefore Z.lines t u ⊎ IncludesNone d.plan e.plan
        by (called_first c) = inl (subst (λ ls. IsCalledBefore ls t u) (sym step.lines) (before_more M.lines step.more t u c))
        by (changes_nothing on) =
            absurd (never conf_now (let l = core_now.light in l.other (uid_number u) (let o = f.onward in o.light (uid_number u) on)))
        by (counts_on_old off s) = absurd (never conf off)
        by (root_is_gone off gone) = absurd (never (let k = core.fresh in k.conf (uid_number u) conf) off)
        by (includes_none begun none) =
            let l = f.later in
            let mine : S.plan (uid_number u) ≡ d.plan = sym (l.plan (uid_number u) begun) ∙ ap B.world.disk.plan ud
            ∙ sym (let k = core_now.journal in k.plan d there) in
            let theirs : S.plan (uid_number t) ≡ e.plan = ap S.plan te ∙ sym (let k = core.journal in k.plan e j) in
            inr (subst (λ p. IncludesNone p e.plan) mine (subst (λ q. IncludesNone (S.plan (uid_number u)) q) theirs none))

    -- two new ones that count are one
    one_new : (d e : Done) → In d g.new → In e g.new → In d B.world.disk.tops → In e B.world.disk.tops → d.counts ≡ true → e.counts ≡ true →
        d.top ≡ e.top
    one_new d e i j di ej dc ec =
        let h = g.whose d i in
        let k = g.whose e j in
        let a = core.alone in
        let cd = g.conf d i d.top (let y = core_now.journal in y.counted d di dc) in
        let ce = g.conf e j e.top (let y = core_now.journal in y.counted e ej ec) in
        a.one d.top e.top cd (subst (λ z. undecided S z ≡ true) h.2 (opened h.0 h.1)) ce
        (subst (λ z. undecided S z ≡ true) k.2 (opened k.0 k.1))

    old_turns : (ds : List Done) → IncludersTakeTurns M.lines ds → IncludersTakeTurns Z.lines ds
    old_turns [] its = tt
    old_turns (d ∷ ds) its = (
      λ e i t u dc ec te ud. ⊎_elim (λ c. inl (subst (λ ls. IsCalledBefore ls t u) (sym step.lines) (before_more M.lines step.more t u c)))
          (λ n. inr n) (its.0 e i t u dc ec te ud),
      old_turns ds its.1,
    )

    grow : (new : List Done) → ((d : Done) → In d new → In d g.new × In d B.world.disk.tops) → AreOnce (new ++ S.tops) →
        IncludersTakeTurns Z.lines (new ++ S.tops)
    grow [] each apart = old_turns S.tops before.turns
    grow (d ∷ new) each apart = (
      λ e i t u dc ec te ud. ⊎_elim
          (λ (j : In e new). absurd (never (subst (λ z. decided_so z) (sym (let a = each d (inl refl) in let b = each e (inr j) in
          one_new d e a.0 b.0 a.1 b.1 dc ec)) (in_decided (new ++ S.tops) e i)) apart.0))
          (λ (j : In e S.tops). let a = each d (inl refl) in turn d e a.0 j a.1 t u dc ec te ud)
          (in_both e new S.tops i),
      grow new (λ e i. each e (inr i)) apart.1,
    )
      where
        decided_so : ℕ → Type 0
        decided_so z = decided_in (new ++ S.tops) z ≡ true

    turns_now : IncludersTakeTurns Z.lines B.world.disk.tops
    turns_now = subst (IncludersTakeTurns Z.lines) (sym g.are)
        (grow g.new (λ d i. (i, subst (In d) (sym g.are) (in_front d g.new S.tops i))) (subst AreOnce g.are once))

    -- ---- the whole

    pub keeps : EachUp (AreAgainst x A M.lines (IsEither Cand A)) Z → AreRecordedBy C M Z → KeepTurns x B Z
    keeps up_now recs = record {
      works = λ j n t here live u q m works at w counted apart.
          let either = either_of w counted in
          subst (λ ls. IsFine x B ls w u (let p = plan_of m in p.used)) (sym step.lines) (fine_later A B f w (either_begun w either) x
          M.lines step.more u (let p = plan_of m in p.used) (up_now j n t here live u q m works at w either apart));
      records = λ u r undone w counted.
          let either = either_of w counted in
          subst (λ ls. Settled B ls w u) (sym step.lines) (settled_later A B f w (either_begun w either) M.lines step.more u
          (settled u (recs u r) (undone_before (uid_number u) undone) w either (apart_of u w undone counted)));
      turns = turns_now;
    }
      where
        apart_of : (u w : Uid) → decided B.world.disk (uid_number u) ≡ false → IsCounted B w → u ≢ w
        apart_of u w undone (d, i, counts, top) same = never (subst (λ z. decided B.world.disk z ≡ true) top
            (in_decided B.world.disk.tops d i)) (ap (λ (y : Uid). decided B.world.disk (uid_number y)) (sym same) ∙ undone)
