-- What a serializing action retains at a constituent's commit: grants and lists grow, and no more than these.
use Rattle.arj_law_disk.proofs.Terms
use Terms.{◌≡◌, ◌⊎◌, ℕ, Bool, true, false, ◌||◌, Option, Some, None, refl, sym, ◌∙◌, ap, inl, inr, ⊎_elim, Roots, Kept, or_else, State, put}
use Rattle.arj_law_disk.proofs.machine.Base.{put_cases, put_same, or_cases, or_left, or_right}

-- the grants after it
abbrev pub had_after : State → ℕ → (ℕ → ℕ → Bool) → ℕ → ℕ → Bool
had_after S t had = put (S.root t) (λ i. had (S.root t) i || had t i) had

pub had_cases : (S : State) (t : ℕ) (had : ℕ → ℕ → Bool) (x i : ℕ) → had_after S t had x i ≡ true →
    (had x i ≡ true) ⊎ ((x ≡ S.root t) × (had t i ≡ true))
had_cases S t had x i =
    put_cases (λ f. f i ≡ true → (had x i ≡ true) ⊎ ((x ≡ S.root t) × (had t i ≡ true))) (S.root t) (λ j. had (S.root t) j || had t j) had x
    (λ e h. ⊎_elim (λ (o : had (S.root t) i ≡ true). inl (ap (λ n. had n i) e ∙ o)) (λ (o : had t i ≡ true). inr (e, o))
    (or_cases (had (S.root t) i) (had t i) h))
    (λ e h. inl h)

pub had_rises : (S : State) (t : ℕ) (had : ℕ → ℕ → Bool) (x i : ℕ) → had x i ≡ true → had_after S t had x i ≡ true
had_rises S t had x i h = put_cases (λ f. f i ≡ true) (S.root t) (λ j. had (S.root t) j || had t j) had x
    (λ e. or_left (had (S.root t) i) (had t i) (ap (λ n. had n i) (sym e) ∙ h)) (λ e. h)

-- the root has what the top has
pub had_root : (S : State) (t : ℕ) (had : ℕ → ℕ → Bool) (i : ℕ) → had t i ≡ true → had_after S t had (S.root t) i ≡ true
had_root S t had i h = ap (λ f. f i) (put_same (S.root t) (λ j. had (S.root t) j || had t j) had) ∙ or_right (had (S.root t) i) (had t i) h

-- a top's own grants stay as they were
pub had_top : (S : State) (t : ℕ) (had : ℕ → ℕ → Bool) → Roots S → (x i : ℕ) → S.serial x ≡ false → had_after S t had x i ≡ true →
    had x i ≡ true
had_top S t had roots x i top h = ⊎_elim
    (λ (o : had x i ≡ true). o)
    (λ (n : (x ≡ S.root t) × (had t i ≡ true)). ap (λ m. had m i) (n.0 ∙ roots.plain t (ap S.serial (sym n.0) ∙ top)) ∙ n.1)
    (had_cases S t had x i h)

-- the lists after it
pub kept_cases : (S : State) (t : ℕ) (kept : ℕ → Option Kept) (x : ℕ) (k : Kept) →
    put (S.root t) (or_else (kept (S.root t)) (kept t)) kept x ≡ Some k → (kept x ≡ Some k) ⊎ ((x ≡ S.root t) × (kept t ≡ Some k))
kept_cases S t kept x k = put_cases (λ o. o ≡ Some k → (kept x ≡ Some k) ⊎ ((x ≡ S.root t) × (kept t ≡ Some k))) (S.root t)
    (or_else (kept (S.root t)) (kept t)) kept x (λ e. by e (kept (S.root t)) refl) (λ e h. inl h)
  where
    by : x ≡ S.root t → (o : Option Kept) → kept (S.root t) ≡ o → or_else o (kept t) ≡ Some k →
        (kept x ≡ Some k) ⊎ ((x ≡ S.root t) × (kept t ≡ Some k))
    by e None q h = inr (e, h)
    by e (Some j) q h = inl (ap kept e ∙ (q ∙ h))
