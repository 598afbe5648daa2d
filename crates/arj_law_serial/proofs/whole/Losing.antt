-- Whoever loses a row at naming with another action stands below that.
use Rattle.arj_law_parts.proofs.Words
use Words.{Contains, ◌≡◌, ◌∙◌, ◌||◌, ℕ, List, [], ◌∷◌, Bool, true, false, refl, sym, ap, subst, inl, inr, ⊎_elim, AllByRecursion, list_any}
use Words.{and_parts, or_cases, uid_is, In, in_to, Row, Uid, is_held_by, is_on, last_uid, uid_eq, uids_of, Named, Naming, loses, loses_row}
use Words.kind
use Rattle.arj_law_serial.proofs.Terms.{Action, AreBegun, act_of, AreEntryRows, IsEntryRow, Stood, stood}

-- one of the list passes the test
some_of : {X : Type 0} (test : X → Bool) (xs : List X) → list_any test xs ≡ true → (x : X) × In x xs × (test x ≡ true)
some_of test [] any = absurd (cc any)
some_of test (x ∷ xs) any = ⊎_elim (λ here. (x, inl refl, here)) (λ more. (let r = some_of test xs more in (r.0, inr r.1, r.2)))
    (or_cases (test x) (list_any test xs) any)

all_in : {X : Type 0} (P : X → Type 0) (xs : List X) → AllByRecursion P xs → (x : X) → In x xs → P x
all_in P [] all x i = absurd i
all_in P (y ∷ ys) all x (inl is) = subst P is all.0
all_in P (y ∷ ys) all x (inr i) = all_in P ys all.1 x i

module _ (acts : List Action) (begun : AreBegun acts) where
  one_row : (w u : Uid) (r : Row) → uid_eq u w ≡ false → last_uid r.holder ≡ u → is_on r.holder w ≡ true → IsEntryRow acts r →
      (a : Action) × Contains acts a × (act_of a ≡ u) × (is_on (uids_of a.path) w ≡ true)
  one_row w u r apart own on (inl (v, known, holder, tops)) =
      absurd (let itself : is_on (v ∷ []) w ≡ true = sym (ap (λ us. is_on us w) holder) ∙ on in let its : u ≡ v = sym own
      ∙ ap last_uid holder in let bad : false ≡ true = sym apart ∙ (ap (λ z. uid_eq z w) its ∙ only (uid_eq v w) itself) in cc bad)
    where
      only : (b : Bool) → (b || false) ≡ true → b ≡ true
      only true is = refl
      only false is = is
  one_row w u r apart own on (inr (a, known, how, path, tops)) =
      let up : Stood acts a kind.Constituent = subst (Stood acts a) how (stood acts begun a known) in
      (a, known, sym (ap last_uid up.3) ∙ sym (ap last_uid path) ∙ own, sym (ap (λ us. is_on us w) path) ∙ on)

  pub whose_loss : (n : Naming) → AreEntryRows acts n.objects → (w u : Uid) → uid_eq u w ≡ false → loses_row w u n ≡ true →
      (a : Action) × Contains acts a × (act_of a ≡ u) × (is_on (uids_of a.path) w ≡ true)
  whose_loss n rows w u apart any =
      let e = some_of (λ (e : ℕ × Named). list_any (loses w u) e.1.rows) n.objects any in
      let r = some_of (loses w u) (let o = e.0.1 in o.rows) e.2 in
      let p = and_parts (is_held_by u r.0) (is_on (let z = r.0 in z.holder) w) r.2 in
      one_row w u r.0 apart (uid_is (last_uid (let z = r.0 in z.holder)) u p.0) p.1 (all_in (λ (e : ℕ × Named). (r : Row) →
      Contains (let o = e.1 in o.rows) r → IsEntryRow acts r) n.objects rows e.0 e.1 r.0 (in_to r.0 (let o = e.0.1 in o.rows) r.1))
