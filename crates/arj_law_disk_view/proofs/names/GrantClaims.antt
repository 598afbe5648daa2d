-- What a Confirm says of its grants stays true.
use Rattle.arj_law_parts.proofs.Words.{◌≡◌, ◌⊎◌, ◌≤◌, ◌==◌, ℕ, Bool, true, false, sym, ◌∙◌, ap, subst, inl, inr, ⊎_elim, arith, Grants}
use Rattle.arj_law_disk_view.proofs.Terms
use Terms.{HasPart, only_decides, Named, Names, Office, State, Idle, is_idle, undecided, In, never, Along, IsLater, CountsOnGrants}
use Terms.{HasGrant, NamesGrants, IsFrom, OnlyMemory, IsAfter, Answering, Deciding, Quietly}
use Rattle.arj_law_disk_view.proofs.view.Later.{effects_are_later, later_same}
use Rattle.arj_law_disk_view.specs.names.Claims.{AnswersAreAfter, ChangesAreAfter, GrantsAreCountedOn, GrantsStayCountedOn, IsHadBefore}
use Rattle.arj_law_disk_view.specs.names.Claims.{RestartsAreAfter}

-- ---- changes

memory_after : (A B : Office) → OnlyMemory A B → IsAfter A B
memory_after A B m = record {
  later = m.later;
  grows = λ h i on. ap (λ f. f h i) m.had ∙ on;
  from = λ h i on. inl (ap (λ f. f h i) (sym m.had) ∙ on);
  answers = m.answers;
  inc = subst (λ j. A.names.inc ≤ j) (sym m.inc) (omega arith);
  confd = λ same t on. m.confd t on;
}

-- who retains what a decided top had
retained_from : (g : ℕ → Bool) (A B : Office) → IsFrom g A B → (h i : ℕ) → B.names.had h i ≡ true → IsHadBefore A h i
retained_from g A B from h i on = ⊎_elim (λ old. inl old) (λ its. inr (inr (its.0, its.2, its.3, its.4))) (from h i on)

went_on : (g : ℕ → Bool) (A B : Office) → Named A → Along (record { from = A.world; noted = only_decides g }) B.world →
    IsLater A.world B.world
went_on g A B named a = subst (IsLater A.world) a.here (effects_are_later A.world a.effects a.allowed named.whole)

pub changes_are_after : ChangesAreAfter
changes_are_after Quietly A B named c = memory_after A B c
changes_are_after (Answering t r) A B named c = memory_after A B c.0
changes_are_after (Deciding t keeps) A B named c = let o = c.only in record {
  later = went_on (λ z. z == t) A B named c.along;
  grows = o.grows;
  from = retained_from (λ z. z == t) A B o.from;
  answers = λ a i. subst (λ (N : Names). In a N.answers) (sym o.names) i;
  inc = subst (λ j. A.names.inc ≤ j) (sym (ap (λ (N : Names). N.inc) o.names)) (omega arith);
  confd = λ same z on. ap (λ (N : Names). N.confd z) o.names ∙ on;
}

pub restarts_are_after : RestartsAreAfter
restarts_are_after g A B named c = let o = c.only in record {
  later = went_on g A B named c.along;
  grows = o.grows;
  from = retained_from g A B c.from;
  answers = o.answers;
  inc = c.inc;
  confd = c.confd;
}

pub answers_are_after : AnswersAreAfter
answers_are_after A B o = record {
  later = subst (IsLater A.world) (sym o.world) (later_same A.world);
  grows = o.grows;
  from = λ h i on. ⊎_elim (λ old. inl old) (λ new. inr (inl new)) (o.heard h i on);
  answers = o.answers;
  inc = subst (λ j. A.names.inc ≤ j) (sym (ap (λ (N : Names). N.inc) o.names)) (omega arith);
  confd = λ same z on. ap (λ (N : Names). N.confd z) o.names ∙ on;
}

-- ---- grants

-- who was confirmed counts on a grant of a named incarnation, or of a later one
module _ (x t : ℕ) (grants : Grants) (A : Office) (named : Named A) (names_it : NamesGrants x A.world.disk A.names t grants) where
  confirmed_with : HasPart (A.world.disk.plan t) → (A.world.disk.conf t ≡ true) ⊎ (A.world.disk.light t ≡ true) →
      (g : ℕ) × HasGrant x g grants × (g ≤ A.names.inc) × (g ≡ A.names.inc → A.names.confd t ≡ true)
  confirmed_with part taken =
      let p = named.grants.part t taken part in
      let g = names_it part p.0 p.1 in
      let past : p.0 ≤ A.names.inc = ⊎_elim (λ own. named.grants.past t p.0 own) (λ kept. named.grants.past (A.world.disk.root t) p.0 kept)
      p.1 in
      (g.0, g.1, omega (arith, g.2, past), λ same. p.2 (omega (arith, g.2, past, same)))

  pub counted_on : CountsOnGrants x A.world.disk A.names t grants
  counted_on = record { own = λ part i had. names_it part i (inl had); unsettled = λ u. names_it; taken = confirmed_with }

pub grants_are_counted_on : GrantsAreCountedOn
grants_are_counted_on x t grants A named names_it = counted_on x t grants A named names_it

module _ (x t : ℕ) (grants : Grants) (A B : Office) (named : Named A) (held : Named B) (begun : A.world.disk.begun t ≡ true)
    (after : IsAfter A B) (counts : CountsOnGrants x A.world.disk A.names t grants) where
  abbrev S : State
  S = A.world.disk

  plain : S.serial t ≡ false
  plain = named.roots.tops t begun

  not_idle : S.stage t ≡ Idle → ⊥
  not_idle is = never (ap is_idle is) (named.whole.core.fresh.begun t begun)

  -- what the top has it had
  had_own : (i : ℕ) → B.names.had t i ≡ true → A.names.had t i ≡ true
  had_own i on = ⊎_elim (λ old. old) (λ m. ⊎_elim (λ z. absurd (not_idle z.0)) (λ z. by z.0 z.2 z.3) m) (after.from t i on)
    where
      by : (z : ℕ) → S.root z ≡ t → A.names.had z i ≡ true → A.names.had t i ≡ true
      by z root had = ap (λ n. A.names.had n i) (sym root ∙ named.roots.plain z (ap S.serial root ∙ plain)) ∙ had

  -- and so had its root, or the top, while its outcome is open
  had_root : undecided S t ≡ true → (i : ℕ) → B.names.had (S.root t) i ≡ true → (A.names.had t i ≡ true) ⊎ (A.names.had (S.root t) i ≡ true)
  had_root u i on = ⊎_elim (λ old. inr old)
      (λ m. ⊎_elim (λ z. absurd (not_idle (ap S.stage (sym (named.roots.plain t z.1)) ∙ z.0)))
      (λ z. inl (ap (λ n. A.names.had n i) (named.roots.one t z.0 u z.1 (sym z.2)) ∙ z.3)) m) (after.from (S.root t) i on)

  plan_same : B.world.disk.plan t ≡ S.plan t
  plan_same = let l = after.later in l.plan t begun

  root_same : B.world.disk.root t ≡ S.root t
  root_same = let l = after.later in ap (λ f. f t) l.root

  part_then : HasPart (B.world.disk.plan t) → HasPart (S.plan t)
  part_then part = subst HasPart plan_same part

  either_had : undecided S t ≡ true → (i : ℕ) → (B.names.had t i ≡ true) ⊎ (B.names.had (B.world.disk.root t) i ≡ true) →
      (A.names.had t i ≡ true) ⊎ (A.names.had (S.root t) i ≡ true)
  either_had u i h = ⊎_elim (λ own. inl (had_own i own)) (λ kept. had_root u i (ap (λ n. B.names.had n i) (sym root_same) ∙ kept)) h

  names_then : undecided S t ≡ true → NamesGrants x B.world.disk B.names t grants
  names_then u part i h = counts.unsettled u (part_then part) i (either_had u i h)

  taken_then : HasPart (B.world.disk.plan t) → (B.world.disk.conf t ≡ true) ⊎ (B.world.disk.light t ≡ true) →
      (g : ℕ) × HasGrant x g grants × (g ≤ B.names.inc) × (g ≡ B.names.inc → B.names.confd t ≡ true)
  taken_then part taken = ⊎_elim
      (λ old. let g = counts.taken (part_then part) old in (
        g.0,
        g.1,
        omega (arith, g.2, after.inc),
        λ same. after.confd (omega (arith, g.2, after.inc, same)) t (g.3 (omega (arith, g.2, after.inc, same))),
      ))
      (λ u. confirmed_with x t grants B held (names_then u) part taken) (let l = after.later in l.taken t begun taken)

  pub stays_counted : CountsOnGrants x B.world.disk B.names t grants
  stays_counted = record {
    own = λ part i had. counts.own (part_then part) i (had_own i had);
    unsettled = λ u. names_then (let l = after.later in l.opened t begun u);
    taken = taken_then;
  }

pub grants_stay_counted_on : GrantsStayCountedOn
grants_stay_counted_on x t grants A B named held begun after counts = stays_counted x t grants A B named held begun after counts
