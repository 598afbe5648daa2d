-- What keeps a top from counting once another one was decided that conflicts with it, and that it stays so.
use Rattle.arj_law_parts.proofs.Words
use Words.{◌≡◌, ◌⊎◌, ◌≤◌, ◌<◌, ◌++◌, ◌∙◌, ◌==◌, ℕ, Bool, true, false, List, Some, None, is_some, ap, arith, inl, inr, refl, subst, sym}
use Words.{⊎_elim, append_assoc, Line, Uid, Used, uid_number}
use Rattle.arj_law_serial.proofs.Terms
use Terms.{Whole, World, IsPresent, only_decides, Names, Office, Plan, is_gone, has, falls_to, never, used_at, IsLater, effects_are_later}
use Terms.{IsPassedNow, OnlyAnswers, OnlyFound, Answering, Change, Changes, Deciding, Quietly, IsHadBy, IncludesNone, IsCalledBefore}
use Rattle.arj_law_disk_view.proofs.names.Onward.{goes_onward, none_passed}
use Rattle.arj_law_disk_view.specs.names.Both.{GoesOnward, OnlyDecided, OnlyMemory}

-- ---- what keeps it

-- a grant that counts for the top is of an earlier incarnation
abbrev pub IsStale : Office → ℕ → Type 0
IsStale A t = (i : ℕ) × IsHadBy A t i × (i < A.names.inc)

-- Where the first top was decided and counts, the second one's commit was called later; or it won't count: it was confirmed as one that
-- changes nothing, or it counts on an old grant and wasn't confirmed, or its root is at its end before its commit began, or its plan
-- includes no store, and changed nothing, or so did the first one.
pub data Settled (A : Office) (lines : List Line) (w u : Uid) : Type 0 where
  called_first : IsCalledBefore lines w u → Settled A lines w u
  changes_nothing : A.world.disk.light (uid_number u) ≡ true → Settled A lines w u
  counts_on_old : A.world.disk.conf (uid_number u) ≡ false → IsStale A (uid_number u) → Settled A lines w u
  root_is_gone : A.world.disk.begun (uid_number u) ≡ false → is_gone (A.world.disk.stage (A.world.disk.root (uid_number u))) ≡ true →
      Settled A lines w u
  includes_none : A.world.disk.begun (uid_number u) ≡ true →
      IncludesNone (A.world.disk.plan (uid_number u)) (A.world.disk.plan (uid_number w)) → Settled A lines w u

-- what is used of the object is no include, and no call, or the other plan changed it
abbrev pub UsesNone : ℕ → Plan → List Used → Type 0
UsesNone x q used = (v : Used) → used_at x used ≡ Some v →
    ((v.loaded ≡ None) ⊎ ((s : ℕ) → has s v.joins ≡ true → ⊥)) × ((v.called ≡ false) ⊎ (is_some q.writes ≡ true))

-- of a top at its commit, by what that uses
abbrev pub IsFine : ℕ → Office → List Line → Uid → Uid → List Used → Type 0
IsFine x A lines w u used = Settled A lines w u ⊎ UsesNone x (A.world.disk.plan (uid_number w)) used

-- ---- it stays

-- Who was confirmed as one that changes nothing was so before, or is so since, and nothing was decided.
abbrev pub IsLitOn : World → Office → Type 0
IsLitOn W B = (t : ℕ) → B.world.disk.light t ≡ true →
    (W.disk.light t ≡ true) ⊎ ((B.world.disk.tops ≡ W.disk.tops) × IsPassedNow W.disk B.world.disk B.names t)

-- A step has gone on: who is confirmed since is so with present grants, grants and decisions stay, and naming's incarnation doesn't fall.
pub record IsFurther (A B : Office) : Type 0 where
  pub onward : GoesOnward A B
  pub lit : IsLitOn A.world B
  pub had : (h i : ℕ) → A.names.had h i ≡ true → B.names.had h i ≡ true
  pub inc : A.names.inc ≤ B.names.inc
  pub later : IsLater A.world B.world

pub before_more : (ls ks : List Line) (w u : Uid) → IsCalledBefore ls w u → IsCalledBefore (ls ++ ks) w u
before_more ls ks w u (before, behind, is, on, off) = (before, behind ++ ks, ap (λ l. l ++ ks) is ∙ append_assoc before behind ks, on, off)

module _ (A B : Office) (f : IsFurther A B) where
  root_same : (t : ℕ) → B.world.disk.root t ≡ A.world.disk.root t
  root_same t = let l = f.later in ap (λ r. r t) l.root

  pub had_later : (t i : ℕ) → IsHadBy A t i → IsHadBy B t i
  had_later t i h =
      ⊎_elim (λ own. inl (f.had t i own)) (λ kept. inr (ap (λ r. B.names.had r i) (root_same t) ∙ f.had (A.world.disk.root t) i kept)) h

  pub stale_later : (t : ℕ) → IsStale A t → IsStale B t
  stale_later t s = (s.0, had_later t s.0 s.1, (let less = s.2 in let more = f.inc in omega (arith, less, more)))

  still_unconfirmed : (t : ℕ) → A.world.disk.conf t ≡ false → IsStale A t → B.world.disk.conf t ≡ false
  still_unconfirmed t off s = falls_to (B.world.disk.conf t) (λ on. ⊎_elim
      (λ old. never old off)
      (λ (present : IsPresent B.world.disk B.names t). absurd (let n = stale_later t s in let same = present n.0 n.1 in let less = n.2 in
      omega (arith, same, less)))
      (let o = f.onward in o.conf t on))

  module _ (w : Uid) (begun : A.world.disk.begun (uid_number w) ≡ true) where
    same_plan : B.world.disk.plan (uid_number w) ≡ A.world.disk.plan (uid_number w)
    same_plan = let l = f.later in l.plan (uid_number w) begun

    pub settled_later : (ls ks : List Line) (u : Uid) → Settled A ls w u → Settled B (ls ++ ks) w u
    settled_later ls ks u (called_first c) = called_first (before_more ls ks w u c)
    settled_later ls ks u (changes_nothing on) = changes_nothing (let o = f.onward in o.light (uid_number u) on)
    settled_later ls ks u (counts_on_old off s) = counts_on_old (still_unconfirmed (uid_number u) off s) (stale_later (uid_number u) s)
    settled_later ls ks u (root_is_gone off gone) = root_is_gone
        (falls_to (B.world.disk.begun (uid_number u))
        (λ on. ⊎_elim (λ old. never old off) (λ there. never gone there) (let o = f.onward in o.begins (uid_number u) on)))
        (ap (λ r. is_gone (B.world.disk.stage r)) (root_same (uid_number u))
        ∙ (let o = f.onward in o.gone (A.world.disk.root (uid_number u)) gone))
    settled_later ls ks u (includes_none on none) = let l = f.later in includes_none (l.begun (uid_number u) on)
        (subst (λ p. IncludesNone p (B.world.disk.plan (uid_number w))) (sym (l.plan (uid_number u) on))
        (subst (λ q. IncludesNone (A.world.disk.plan (uid_number u)) q) (sym same_plan) none))

    pub fine_later : (x : ℕ) (ls ks : List Line) (u : Uid) (used : List Used) → IsFine x A ls w u used → IsFine x B (ls ++ ks) w u used
    fine_later x ls ks u used (inl s) = inl (settled_later ls ks u s)
    fine_later x ls ks u used (inr n) = inr (subst (λ q. UsesNone x q used) (sym same_plan) n)

-- ---- by the changes of a step

same_inc : (m n : ℕ) → m ≡ n → m ≤ n
same_inc m n e = omega (arith, e)

pub further_on : (A B C : Office) → A.world ≡ B.world → ((h i : ℕ) → A.names.had h i ≡ true → B.names.had h i ≡ true) →
    B.names.inc ≡ A.names.inc → IsFurther B C → IsFurther A C
further_on A B C world had inc f = record {
  onward = (let o = f.onward in record {
    conf = λ t on. ⊎_elim (λ old. inl (ap (λ (W : _). W.disk.conf t) world ∙ old)) (λ present. inr present) (o.conf t on);
    passed = λ t on. subst (λ (W : World). (W.disk.light t ≡ true) ⊎ IsPassedNow W.disk C.world.disk C.names t) (sym world) (o.passed t on);
    light = λ t on. o.light t (ap (λ (W : _). W.disk.light t) (sym world) ∙ on);
    gone = λ t on. o.gone t (ap (λ (W : _). is_gone (W.disk.stage t)) (sym world) ∙ on);
    begins = λ t on. ⊎_elim (λ old. inl (ap (λ (W : _). W.disk.begun t) world ∙ old))
        (λ there. inr (ap (λ (W : _). is_gone (W.disk.stage (W.disk.root t))) world ∙ there)) (o.begins t on);
  });
  lit = subst (λ W. IsLitOn W C) (sym world) f.lit;
  had = λ h i on. f.had h i (had h i on);
  inc = (let l = f.inc in omega (arith, l, inc));
  later = subst (λ W. IsLater W C.world) (sym world) f.later;
}

pub further_answers : (A C B : Office) → OnlyAnswers A C → IsFurther C B → IsFurther A B
further_answers A C B o f = further_on A C B (sym o.world) o.grows (ap (λ (N : Names). N.inc) o.names) f

pub further_memory : (A B : Office) → OnlyMemory A B → IsFurther A B
further_memory A B o = record {
  onward = o.onward;
  lit = λ t on. ⊎_elim (λ old. inl old) (λ n. inr (o.tops, n)) (let g = o.onward in g.passed t on);
  had = λ h i on. ap (λ g. g h i) o.had ∙ on;
  inc = same_inc A.names.inc B.names.inc (sym o.inc);
  later = o.later;
}

pub further_decided : (g keeps : ℕ → Bool) (A B : Office) → Whole A.world → OnlyDecided g keeps A B → IsFurther A B
further_decided g keeps A B whole o = record {
  onward = goes_onward (only_decides g) (λ z. refl) A B o.along;
  lit = λ t on. inl (none_passed (only_decides g) t refl A.world B.world o.along on);
  had = (let r = o.only in r.grows);
  inc = same_inc A.names.inc B.names.inc (sym (let r = o.only in ap (λ (N : Names). N.inc) r.names));
  later = (let a = o.along in subst (IsLater A.world) a.here (effects_are_later A.world a.effects a.allowed whole));
}

pub further_found : (g : ℕ → Bool) (A B : Office) → Whole A.world → OnlyFound g A B → IsFurther A B
further_found g A B whole o = record {
  onward = goes_onward (only_decides g) (λ z. refl) A B o.along;
  lit = λ t on. inl (none_passed (only_decides g) t refl A.world B.world o.along on);
  had = (let r = o.only in r.grows);
  inc = o.inc;
  later = (let a = o.along in subst (IsLater A.world) a.here (effects_are_later A.world a.effects a.allowed whole));
}

pub further_by : (o : Change) (A B : Office) → Whole A.world → Changes o A B → IsFurther A B
further_by Quietly A B whole c = further_memory A B c
further_by (Answering t r) A B whole c = further_memory A B c.0
further_by (Deciding t keeps) A B whole c = further_decided (λ z. z == t) (λ z. keeps) A B whole c
