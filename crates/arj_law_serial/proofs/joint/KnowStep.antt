-- A step of the disk machine keeps that decided tops which only include a store were called when those that wrote the object before them
-- had been said: what a commit loaded was known when it was called, and at its decision it is the last state.
use Rattle.arj_law_parts.proofs.Words
use Words.{◌≡◌, ◌⊎◌, ◌≤◌, ◌<◌, ◌++◌, ◌∙◌, ℕ, true, List, [], ◌∷◌, Option, Some, None, is_some, ap, arith, inl, inr, refl, subst, sym}
use Words.{unwrap_or, ⊎_elim, ⊤, append_assoc, Line, ObjectState, Uid, Used, uid_number, Node, number_tells, Seen}
use Rattle.arj_law_serial.proofs.Terms
use Terms.{Chain, Core, Office, Done, Known, KnownIn, Packed, Plan, decided_in, last, last_in, undecided, has, never, in_decided, packed}
use Terms.{used_at, Kinds, IsLater, SeesBoth, AreOnce, in_both, in_front, IsStep, IsRecordedAt, IsSaidFirst}
use Rattle.arj_law_disk.proofs.machine.History.{below_last}
use Rattle.arj_law_disk.specs.machine.{State.Below, State.IsPast, State.State, Words.In}
use Rattle.arj_law_serial.proofs.joint
use joint.{JoinStep.IsGrown, JoinTurns.IsFurther, Recording.AreRecordedBy}
use joint.JoinBeside.{EachCommit, Goes}

-- ---- what is kept

-- each of these decided tops, whose node is there, was said before the commit of this action was called
abbrev pub WereSaidFirst : Seen → Uid → List Done → Type 0
WereSaidFirst M u ds = (e : Done) → In e ds → (t : Uid) (n : Node) → M.nodes t.node ≡ Some n → uid_number t ≡ e.top →
    IsSaidFirst M.lines t u

-- The state was the last one once, by such decisions, which are the oldest ones, or is older than the first.
pub record WasKnown (A : Office) (M : Seen) (u : Uid) (g : Packed) : Type 0 where
  pub since : List Done
  pub before : List Done
  pub are : (let W = A.world in W.disk.tops) ≡ since ++ before
  pub known : Known (let W = A.world in record W.disk { tops = before }) g
  pub said : WereSaidFirst M u before

-- so it is of what a top's commit loaded
abbrev pub LoadedKnown : ℕ → Kinds → Office → Seen → Uid → List Used → Type 0
LoadedKnown x tops A M u used = tops.is_top (uid_number u) ≡ true → (v : Used) (st : ObjectState) → used_at x used ≡ Some v →
    v.loaded ≡ Some st → WasKnown A M u (packed st)

-- and of what the machine's plan includes
abbrev pub PlanKnown : Office → Seen → Uid → Type 0
PlanKnown A M u = (let W = A.world in W.disk.begun (uid_number u) ≡ true) × ((s : ℕ) → has s (let p = (let W = A.world in
    W.disk.plan (uid_number u)) in p.joins) ≡ true → WasKnown A M u (let p = (let W = A.world in W.disk.plan (uid_number u)) in p.loaded))

-- the first of two decided tops is said before the second one's commit was called, where it wrote and its node is there
abbrev pub KnowsThere : Seen → Done → Done → Type 0
KnowsThere M e d = (t u : Uid) (n : Node) → M.nodes t.node ≡ Some n → d.counts ≡ true → e.counts ≡ true → is_some (let p = e.plan in
    p.writes) ≡ true → (let p = d.plan in p.writes) ≡ None → uid_number t ≡ e.top → uid_number u ≡ d.top → IsSaidFirst M.lines t u

-- so it is of each two, the newest first
abbrev pub AllKnow : Seen → List Done → Type 0
AllKnow M [] = ⊤
AllKnow M (d ∷ ds) = ((e : Done) → In e ds → KnowsThere M e d) × AllKnow M ds

-- What commits under way loaded was known when they were called, and what those with a record include; and so of each two decided tops.
pub record KeepKnown (x : ℕ) (tops : Kinds) (A : Office) (M : Seen) : Type 0 where
  pub works : EachCommit (LoadedKnown x tops A M) M
  pub records : (u : Uid) → IsRecordedAt M u → PlanKnown A M u
  pub know : AllKnow M (let W = A.world in W.disk.tops)

-- ---- versions

chain_behind : (first : Packed) (xs ys : List Done) → Chain first (xs ++ ys) → Chain first ys
chain_behind first [] ys chain = chain
chain_behind first (x ∷ xs) ys chain = chain_behind first xs ys chain.1

-- more decisions have no lower version
rises : (first : Packed) (xs ys : List Done) → Chain first (xs ++ ys) → (last_in first ys).version ≤ (last_in first (xs ++ ys)).version
rises first [] ys chain = omega arith
rises first (d ∷ xs) ys chain = by (let p = d.plan in p.writes) refl (rises first xs ys chain.1)
  where
    by : (o : Option Packed) → (let p = d.plan in p.writes) ≡ o → (last_in first ys).version ≤ (last_in first (xs ++ ys)).version →
        (last_in first ys).version ≤ (unwrap_or o (last_in first (xs ++ ys))).version
    by None is low = low
    by (Some w) is low = let next = chain.0 w is in omega (arith, next, low)

-- and where one wrote a higher one
above : (first : Packed) (xs ys : List Done) (e : Done) → Chain first (xs ++ ys) → In e xs → is_some (let p = e.plan in p.writes) ≡ true →
    (last_in first ys).version < (last_in first (xs ++ ys)).version
above first [] ys e chain i wrote = absurd i
above first (d ∷ xs) ys e chain i wrote = by (let p = d.plan in p.writes) refl i (λ j. above first xs ys e chain.1 j wrote)
  where
    Low : Option Packed → Type 0
    Low o = (last_in first ys).version < (unwrap_or o (last_in first (xs ++ ys))).version

    by : (o : Option Packed) → (let p = d.plan in p.writes) ≡ o → (d ≡ e) ⊎ In e xs →
        (In e xs → (last_in first ys).version < (last_in first (xs ++ ys)).version) → Low o
    by None none (inl same) ih = absurd (never wrote (ap is_some (ap (λ (z : Done). let p = z.plan in p.writes) (sym same) ∙ none)))
    by None none (inr j) ih = ih j
    by (Some w) is j ih = let next = chain.0 w is in let low = rises first xs ys chain.1 in omega (arith, next, low)

-- who wrote isn't among those behind which the last state is known
none_since : (first : Packed) (past : List Packed) (xs ys : List Done) (g : Packed) → Chain first (xs ++ ys) → IsPast first past →
    KnownIn first ys g ⊎ In g past → g ≡ last_in first (xs ++ ys) → (e : Done) → In e xs → is_some (let p = e.plan in p.writes) ≡ true → ⊥
none_since first past xs ys g chain older known same e i wrote =
    by (below_last first past ys g (chain_behind first xs ys chain) older known)
  where
    high : (last_in first ys).version < (last_in first (xs ++ ys)).version
    high = above first xs ys e chain i wrote

    by : Below g (last_in first ys) → ⊥
    by (inl less) = absurd (omega (arith, less, high, ap (λ (p : Packed). p.version) same))
    by (inr is) = absurd (omega (arith, high, ap (λ (p : Packed). p.version) same, ap (λ (p : Packed). p.version) is))

-- ---- more lines

said_more : (ls ks : List Line) (t u : Uid) → IsSaidFirst ls t u → IsSaidFirst (ls ++ ks) t u
said_more ls ks t u (before, behind, is, on, off) = (before, behind ++ ks, ap (λ l. l ++ ks) is ∙ append_assoc before behind ks, on, off)

module _ (M Z : Seen) (step : IsStep M Z) where
  said_later : (t u : Uid) → IsSaidFirst M.lines t u → IsSaidFirst Z.lines t u
  said_later t u s = subst (λ ls. IsSaidFirst ls t u) (sym step.lines) (said_more M.lines step.more t u s)

  all_later : (ds : List Done) → AllKnow M ds → AllKnow Z ds
  all_later [] know = tt
  all_later (d ∷ ds) know = (
    λ e i t u n here dc ec wrote none te ud. let m = step.nodes t.node n here in
        said_later t u (know.0 e i t u m.0 m.1 dc ec wrote none te ud),
    all_later ds know.1,
  )

  known_later : (A B : Office) (new : List Done) → (let W = B.world in W.disk.tops) ≡ new ++ (let W = A.world in W.disk.tops) →
      IsLater A.world B.world → (u : Uid) (g : Packed) → WasKnown A M u g → WasKnown B Z u g
  known_later A B new are later u g k = record {
    since = new ++ k.since;
    before = k.before;
    are = are ∙ ap (λ ds. new ++ ds) k.are ∙ sym (append_assoc new k.since k.before);
    known = subst (λ (f : Packed × List Packed). KnownIn f.0 k.before g ⊎ In g f.1) (sym (λ i. (later.first i, later.past i))) k.known;
    said = λ e i t n here number. let m = step.nodes t.node n here in said_later t u (k.said e i t m.0 m.1 number);
  }

-- ---- a step

module _ (x : ℕ) (tops : Kinds) (D : Office → Type 0) (C Cand : Uid → Type 0) (A : Office) (M : Seen) (both : SeesBoth x tops A M)
    (goes : Goes x D C Cand A M) (before : KeepKnown x tops A M) (waiting : (u : Uid) → C u → PlanKnown A M u)
    (B : Office) (into : D B) (Z : Seen) (now : SeesBoth x tops B Z) (once : AreOnce (let W = B.world in W.disk.tops))
    (step : IsStep M Z) where
  abbrev S : State
  S = A.world.disk

  abbrev f : IsFurther A B
  f = goes.further B into

  abbrev g : IsGrown Cand A.world B.world
  g = goes.grown B into

  core : Core S
  core = (let n = both.named in let k = n.whole in k.core)

  core_now : Core B.world.disk
  core_now = (let n = now.named in let k = n.whole in k.core)

  later : (u : Uid) (h : Packed) → WasKnown A M u h → WasKnown B Z u h
  later = known_later M Z step A B g.new g.are f.later

  plan_later : (u : Uid) → PlanKnown A M u → PlanKnown B Z u
  plan_later u (begun, known) =
      let l = f.later in
      let same : B.world.disk.plan (uid_number u) ≡ S.plan (uid_number u) = l.plan (uid_number u) begun in (
        l.begun (uid_number u) begun,
        subst (λ (p : Plan). (s : ℕ) → has s p.joins ≡ true →
            WasKnown B Z u p.loaded) (sym same) (λ s on. later u (let p = S.plan (uid_number u) in p.loaded) (known s on)),
      )

  -- one that may be decided
  planned : (w : Uid) → Cand w → PlanKnown A M w
  planned w c = ⊎_elim (λ (r : IsRecordedAt M w). before.records w r) (λ (h : C w). waiting w h) (goes.cand w c)

  -- one that is, and only includes a store, knew each that wrote
  knows : (d e : Done) → In d g.new → In e S.tops → In d B.world.disk.tops → KnowsThere Z e d
  knows d e i j there t u n here d_counts e_counts wrote none te ud = said_later M Z step t u (⊎_elim
      (λ new. absurd (none_since S.first S.past k.since k.before (let p = S.plan (uid_number u) in p.loaded) (subst (Chain S.first) k.are
      (let h = core.history in h.chain)) (let h = core.history in h.past) k.known (last_now ∙ ap (last_in S.first) k.are) e new wrote))
      (λ old. let m = step.nodes t.node n here in k.said e old t m.0 m.1 te)
      (in_both e k.since k.before (subst (In e) k.are j)))
    where
      w : (y : Uid) × Cand y × (uid_number y ≡ d.top)
      w = g.whose d i

      same : w.0 ≡ u
      same = number_tells w.0 u (w.2 ∙ sym ud)

      plan_known : PlanKnown A M u
      plan_known = subst (PlanKnown A M) same (planned w.0 w.1)

      opened : undecided S (uid_number u) ≡ true
      opened = subst (λ (y : Uid). undecided S (uid_number y) ≡ true) same (goes.opened w.0 w.1)

      conf : S.conf (uid_number u) ≡ true
      conf = g.conf d i (uid_number u) (ap B.world.disk.conf ud ∙ (let q = core_now.journal in q.counted d there d_counts))

      plain : (let p = S.plan (uid_number u) in p.writes) ≡ None
      plain =
          let l = f.later in
          ap (λ (p : Plan). p.writes)
          (sym (l.plan (uid_number u) plan_known.0) ∙ ap B.world.disk.plan ud ∙ sym (let q = core_now.journal in q.plan d there)) ∙ none

      joins : (s : ℕ) × (has s (let p = S.plan (uid_number u) in p.joins) ≡ true)
      joins = (let v = core.covered in v.plain (uid_number u) conf opened plain).0

      last_now : (let p = S.plan (uid_number u) in p.loaded) ≡ last S
      last_now = let a = core.alone in a.loaded (uid_number u) joins.0 conf opened joins.1

      k : WasKnown A M u (let p = S.plan (uid_number u) in p.loaded)
      k = plan_known.1 joins.0 joins.1

  -- two new ones that count are one
  one_new : (d e : Done) → In d g.new → In e g.new → In d B.world.disk.tops → In e B.world.disk.tops → d.counts ≡ true → e.counts ≡ true →
      d.top ≡ e.top
  one_new d e i j di ej dc ec =
      let h = g.whose d i in
      let k = g.whose e j in
      let q = core_now.journal in
      let a = core.alone in
      a.one d.top e.top (g.conf d i d.top (q.counted d di dc)) (subst (λ z. undecided S z ≡ true) h.2 (goes.opened h.0 h.1))
      (g.conf e j e.top (q.counted e ej ec)) (subst (λ z. undecided S z ≡ true) k.2 (goes.opened k.0 k.1))

  grow : (new : List Done) → ((d : Done) → In d new → In d g.new × In d B.world.disk.tops) → AreOnce (new ++ S.tops) →
      AllKnow Z (new ++ S.tops)
  grow [] each apart = all_later M Z step S.tops before.know
  grow (d ∷ new) each apart = (
    λ e i. ⊎_elim
        (λ (j : In e new). λ t u n here dc ec wrote none te ud. absurd (never (subst (λ z. decided_in (new ++ S.tops) z ≡ true) (sym (let a
        = each d (inl refl) in let b = each e (inr j) in one_new d e a.0 b.0 a.1 b.1 dc ec)) (in_decided (new ++ S.tops) e i)) apart.0))
        (λ (j : In e S.tops). let a = each d (inl refl) in knows d e a.0 j a.1)
        (in_both e new S.tops i),
    grow new (λ e i. each e (inr i)) apart.1,
  )

  pub known_next : EachCommit (LoadedKnown x tops A M) Z → AreRecordedBy C M Z → KeepKnown x tops B Z
  known_next ups recs = record {
    works =
        λ j n t here live u q m works at top v st is loaded. later u (packed st) (ups j n t here live u q m works at top v st is loaded);
    records = λ u r. plan_later u (⊎_elim (λ (old : IsRecordedAt M u). before.records u old) (λ (h : C u). waiting u h) (recs u r));
    know = subst (AllKnow Z) (sym g.are)
        (grow g.new (λ d i. (i, subst (In d) (sym g.are) (in_front d g.new S.tops i))) (subst AreOnce g.are once));
  }
