-- Roots, and the locks of a root's actions.
use Rattle.arj_law_disk.proofs.Terms
use Terms.{◌≡◌, ◌⊎◌, ℕ, ◌≤◌, true, false, refl, sym, ◌∙◌, ap, subst, inl, inr, ⊎_elim, arith, Core, HasRow, IsUntold, IsGranted, IsOver}
use Terms.{Related, Roots, Rows, IsHeld, Names, State, decided, undecided}
use Rattle.arj_law_disk.proofs.machine.Base.{bool_cases, never}

-- two related tops are one
pub one_top : (S : State) → Roots S → (t z : ℕ) → S.serial t ≡ false → S.serial z ≡ false → Related S.root t z → t ≡ z
one_top S r t z top other (inl e) = e
one_top S r t z top other (inr (inl e)) = sym (r.plain t (ap S.serial e ∙ other)) ∙ e
one_top S r t z top other (inr (inr e)) = sym e ∙ r.plain z (ap S.serial e ∙ top)

-- an action of a root has a lock
abbrev pub Kin : State → Names → ℕ → Type 0
Kin S N r = (h : ℕ) × (S.root h ≡ r) × HasRow N h 0

-- who has the write lock beside it is of that root
pub near : (S : State) (N : Names) → Roots S → Rows S N → (r z : ℕ) → Kin S N r → HasRow N z 2 → S.root z ≡ r
near S N roots rows r z (h, of_root, (m, row, low)) (n, other, high) = by (rows.apart h z m n row other (omega (arith, high)))
  where
    by : Related S.root h z → S.root z ≡ r
    by (inl e) = ap S.root (sym e) ∙ of_root
    by (inr (inl e)) = ap S.root (sym e) ∙ (roots.idem h ∙ of_root)
    by (inr (inr e)) = sym (roots.idem z) ∙ (ap S.root e ∙ of_root)

pub weaker_row : (N : Names) (h m n : ℕ) → n ≤ m → HasRow N h m → HasRow N h n
weaker_row N h m n less (k, row, high) = (k, row, omega (arith, less, high))

-- a grant of the present incarnation stands as a lock of its root
pub kin_of : (S : State) (N : Names) (c : Core S) (roots : Roots S) (row : (t : ℕ) → S.serial t ≡ false → N.had t N.inc ≡ true →
    IsUntold S N t → HasRow N t 0 × (N.given t ≡ false))
    (root : (r : ℕ) → S.serial r ≡ true → N.had r N.inc ≡ true → N.told r ≡ false → IsHeld S N r) → (h : ℕ) → N.had h N.inc ≡ true →
    IsUntold S N h → IsOver S (S.root h) ⊎ Kin S N (S.root h)
kin_of S N c roots row root h had untold = ⊎_elim (λ (s : S.serial h ≡ true). serial s (root h s had untold.0))
    (λ (s : S.serial h ≡ false). inr (h, refl, (row h s had untold).0)) (bool_cases (S.serial h))
  where
    taken_begun : (y : ℕ) → (S.conf y ≡ true) ⊎ (S.light y ≡ true) → S.begun y ≡ true
    taken_begun y (inl t) = c.fresh.conf y t
    taken_begun y (inr t) = c.fresh.light y t

    begun : (y : ℕ) → (decided S y ≡ true) ⊎ (S.bare y ≡ true) → S.begun y ≡ true
    begun y (inl d) = taken_begun y (c.coordinators.decided_taken y d)
    begun y (inr b) = taken_begun y (c.bare.taken y b)

    serial : S.serial h ≡ true → IsHeld S N h → IsOver S (S.root h) ⊎ Kin S N (S.root h)
    serial s (inl over) = inl (subst (IsOver S) (sym (roots.serial h s)) over)
    serial s (inr (inl r)) = inr (h, refl, r)
    serial s (inr (inr (y, of_root, done, untold_y, had_y))) =
        let is : S.root y ≡ S.root h = of_root ∙ sym (roots.serial h s) in
        let told_root : N.told (S.root y) ≡ false = ap N.told of_root ∙ untold.0 in
        inr (y, is, (row y (roots.tops y (begun y done)) had_y (untold_y, told_root)).0)

-- the same for a top with a grant, or whose root retains one
pub kin_granted : (S : State) (N : Names) (c : Core S) (roots : Roots S) (row : (t : ℕ) → S.serial t ≡ false → N.had t N.inc ≡ true →
    IsUntold S N t → HasRow N t 0 × (N.given t ≡ false))
    (root : (r : ℕ) → S.serial r ≡ true → N.had r N.inc ≡ true → N.told r ≡ false → IsHeld S N r) → (t : ℕ) → IsGranted S N t →
    IsUntold S N t → IsOver S (S.root t) ⊎ Kin S N (S.root t)
kin_granted S N c roots row root t (inl had) untold = kin_of S N c roots row root t had untold
kin_granted S N c roots row root t (inr had) untold =
    let k = kin_of S N c roots row root (S.root t) had (untold.1, ap N.told (roots.idem t) ∙ untold.1) in
    subst (λ r. IsOver S r ⊎ Kin S N r) (roots.idem t) k

-- whose outcome is open, its root isn't over, and neither was told of
pub not_over : (S : State) (t : ℕ) → undecided S t ≡ true → IsOver S (S.root t) → ⊥
not_over S t u over = never u (over.1 t refl)

pub open_untold : (S : State) (N : Names) → Roots S → ((t : ℕ) → N.told t ≡ true →
    (undecided S t ≡ false) × (S.serial t ≡ true → IsOver S t)) → (t : ℕ) → undecided S t ≡ true → IsUntold S N t
open_untold S N roots told t u = (of_told t (λ h. (told t h).0) u, by (bool_cases (N.told (S.root t))) (bool_cases (S.serial (S.root t))))
  where
    of_told : (a : ℕ) → (N.told a ≡ true → undecided S a ≡ false) → undecided S a ≡ true → N.told a ≡ false
    of_told a closed o = ⊎_elim (λ (h : N.told a ≡ true). absurd (never o (closed h))) (λ (h : N.told a ≡ false). h) (bool_cases (N.told a))

    by : (N.told (S.root t) ≡ true) ⊎ (N.told (S.root t) ≡ false) → (S.serial (S.root t) ≡ true) ⊎ (S.serial (S.root t) ≡ false) →
        N.told (S.root t) ≡ false
    by (inr h) s = h
    by (inl h) (inl s) = absurd (not_over S t u ((told (S.root t) h).1 s))
    by (inl h) (inr s) = absurd (never u (ap (undecided S) (sym (roots.plain t s)) ∙ (told (S.root t) h).0))
