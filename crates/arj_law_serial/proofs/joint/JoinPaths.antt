-- The paths of a journal: what stands below a top has that top, and what is below it by Uids or by actions is the same.
use Rattle.arj_law_parts.proofs.Words
use Words.{◌≡◌, ◌⊎◌, ◌||◌, ◌&&◌, ◌++◌, ◌∙◌, ℕ, Bool, true, false, not, cond, List, [], ◌∷◌, Option, Some, None, ap, inl, inr, refl, subst}
use Words.{sym, ⊎_elim, AllByRecursion, list_all, list_any, bytes_eq, uid_is, is_on, uid_eq, In, behind, Kind, Uid, is_serial}
use Words.kind
use Rattle.arj_law_serial.proofs.Terms
use Terms.{Act, behind_first, chain_in, path, path_in, top_in, uids, upwards, is_top, AreDistinct, AreFormed, one_act, on_path}
use Terms.{path_new, path_old, lasts_in}
use Rattle.arj_law_runs.proofs.journal.Books.{never}
use Rattle.arj_law_serial.proofs.order.Paths.{IsShaped, chain_on, well}

-- ---- one action more

in_last : (xs : List Act) (a b : Act) → In b (xs ++ a ∷ []) → (b ≡ a) ⊎ In b xs
in_last [] a b (inl same) = inl (sym same)
in_last [] a b (inr i) = absurd i
in_last (x ∷ xs) a b (inl same) = inr (inl same)
in_last (x ∷ xs) a b (inr i) = ⊎_elim (λ same. inl same) (λ j. inr (inr j)) (in_last xs a b i)

-- what is below the top of a path with one more is that, or was below it
chain_front : (q : List Act) (a b : Act) → In b (chain_in (q ++ a ∷ [])) → (b ≡ a) ⊎ In b (chain_in q)
chain_front [] a b i = by (is_serial a.kind) i
  where
    by : (s : Bool) → In b (cond s [] []) → (b ≡ a) ⊎ In b (chain_in [])
    by true j = absurd j
    by false j = absurd j
chain_front (r ∷ []) a b i = by (is_serial r.kind) i
  where
    by : (s : Bool) → In b (cond s [] (a ∷ [])) → (b ≡ a) ⊎ In b (cond s [] [])
    by true j = absurd j
    by false (inl same) = inl (sym same)
    by false (inr j) = absurd j
chain_front (r ∷ c ∷ rest) a b i = by (is_serial r.kind) i
  where
    by : (s : Bool) → In b (cond s (rest ++ a ∷ []) (c ∷ (rest ++ a ∷ []))) → (b ≡ a) ⊎ In b (cond s rest (c ∷ rest))
    by true j = in_last rest a b j
    by false (inl same) = inr (inl same)
    by false (inr j) = ⊎_elim (λ same. inl same) (λ k. inr (inr k)) (in_last rest a b j)

-- a path with something below its top has the same top with one more
top_front : (q : List Act) (a b t : Act) → In b (chain_in q) → top_in (q ++ a ∷ []) ≡ Some t → top_in q ≡ Some t
top_front [] a b t i e = absurd i
top_front (r ∷ []) a b t i e = absurd (by (is_serial r.kind) i)
  where
    by : (s : Bool) → In b (cond s [] []) → ⊥
    by true j = j
    by false j = j
top_front (r ∷ c ∷ rest) a b t i e = e

-- what is below the top of a path has this top
pub chain_above : (acts : List Act) → AreDistinct acts → (l : List ℕ) (t b : Act) → top_in (path acts l) ≡ Some t →
    In b (chain_in (path acts l)) → top_in (path acts b.label) ≡ Some t
chain_above [] apart l t b top i = absurd i
chain_above (a ∷ older) apart l t b top i = by (bytes_eq a.label l) top i (λ m. chain_above older apart.3 m t b)
  where
    -- so it was of the older ones
    old : (m : List ℕ) → In b (chain_in (path older m)) → top_in (path older b.label) ≡ Some t → top_in (path (a ∷ older) b.label) ≡ Some t
    old m j e = ap top_in (path_old a older b apart.1 (on_path older m b (chain_on (path older m) b j))) ∙ e

    up : ((m : List ℕ) → top_in (path older m) ≡ Some t → In b (chain_in (path older m)) → top_in (path older b.label) ≡ Some t) →
        (o : Option (List ℕ)) (k : Kind) → top_in (upwards o k (path older) ++ a ∷ []) ≡ Some t → In b (chain_in (upwards o k (path older)))
        → top_in (path (a ∷ older) b.label) ≡ Some t
    up ih None k e j = absurd j
    up ih (Some p) kind.Independent e j = absurd j
    up ih (Some p) kind.Top e j = old p j (ih p (top_front (path older p) a b t j e) j)
    up ih (Some p) kind.Serial e j = old p j (ih p (top_front (path older p) a b t j e) j)
    up ih (Some p) kind.Nested e j = old p j (ih p (top_front (path older p) a b t j e) j)
    up ih (Some p) kind.Constituent e j = old p j (ih p (top_front (path older p) a b t j e) j)

    by : (x : Bool) → top_in (cond x (path_in older a) (path older l)) ≡ Some t → In b (chain_in (cond x (path_in older a) (path older l)))
        → ((m : List ℕ) → top_in (path older m) ≡ Some t → In b (chain_in (path older m)) → top_in (path older b.label) ≡ Some t) →
        top_in (path (a ∷ older) b.label) ≡ Some t
    by true e j ih = ⊎_elim
        (λ same. ap (λ (y : Act). top_in (path (a ∷ older) y.label)) same ∙ ap top_in (path_new a older) ∙ e)
        (λ below. up ih a.parent a.kind e below)
        (chain_front (upwards a.parent a.kind (path older)) a b j)
    by false e j ih = old l j (ih l e j)

-- ---- by Uids, or by actions

none_is_all : (f : Uid → Bool) (xs : List Act) → not (list_any (λ (w : Uid). not (f w)) (uids xs)) ≡ list_all (λ (b : Act). f b.uid) xs
none_is_all f [] = refl
none_is_all f (x ∷ xs) = by (f x.uid) (none_is_all f xs)
  where
    by : (b : Bool) → not (list_any (λ (w : Uid). not (f w)) (uids xs)) ≡ list_all (λ (b : Act). f b.uid) xs →
        not (not b || list_any (λ (w : Uid). not (f w)) (uids xs)) ≡ (b && list_all (λ (b : Act). f b.uid) xs)
    by true ih = ih
    by false ih = refl

module _ (acts : List Act) (apart : AreDistinct acts) (formed : AreFormed acts) (u : Act) (there : In u acts)
    (top : is_top u.kind ≡ true) where
  -- one of another kind isn't the top
  another : (x : Act) → In x acts → is_top x.kind ≡ false → uid_eq x.uid u.uid ≡ false
  another x i other = by (uid_eq x.uid u.uid) refl
    where
      by : (b : Bool) → uid_eq x.uid u.uid ≡ b → b ≡ false
      by false is = refl
      by true is = absurd (never (ap (λ (y : Act). is_top y.kind) (one_act acts apart x u i there (uid_is x.uid u.uid is)) ∙ top) other)

  never_on : (xs : List Act) → AllByRecursion (λ (x : Act). x.kind ≡ kind.Nested) xs → ((x : Act) → In x xs → In x acts) →
      is_on (uids xs) u.uid ≡ false
  never_on [] nested all = refl
  never_on (x ∷ xs) nested all = λ i. another x (all x (inl refl)) (ap is_top nested.0) i || never_on xs nested.1 (λ y j. all y (inr j)) i

  serial_other : (k : Kind) → is_serial k ≡ true → is_top k ≡ false
  serial_other kind.Serial is = refl
  serial_other kind.Nested is = refl
  serial_other kind.Top is = absurd (cc is)
  serial_other kind.Independent is = absurd (cc is)
  serial_other kind.Constituent is = absurd (cc is)

  -- who is on a path behind the top, by Uids, and all below it
  pub lasts_same : (l : List ℕ) (f : Uid → Bool) → (is_on (uids (path acts l)) u.uid && not
      (list_any (λ (w : Uid). not (f w)) (behind u.uid (uids (path acts l))))) ≡ lasts_in f u.uid (path acts l) (top_in (path acts l))
  lasts_same l f = by (path acts l) (well acts formed l).0 (λ x i. on_path acts l x i)
    where
      by : (p : List Act) → IsShaped p → ((x : Act) → In x p → In x acts) →
          (is_on (uids p) u.uid && not (list_any (λ (w : Uid). not (f w)) (behind u.uid (uids p)))) ≡ lasts_in f u.uid p (top_in p)
      by [] shape all = refl
      by (r ∷ []) shape all = one (is_serial r.kind) refl
        where
          none_below : (x : Bool) → list_all (λ (b : Act). f b.uid) (cond x (behind_first []) []) ≡ true
          none_below true = refl
          none_below false = refl

          two : (y : Bool) → ((y || false) && not (list_any (λ (w : Uid). not (f w)) (cond y [] [])))
              ≡ (y && list_all (λ (b : Act). f b.uid) (chain_in (r ∷ [])))
          two true = sym (none_below (is_serial r.kind))
          two false = refl

          one : (x : Bool) → is_serial r.kind ≡ x → (is_on (uids (r ∷ [])) u.uid
              && not (list_any (λ (w : Uid). not (f w)) (behind u.uid (uids (r ∷ []))))) ≡ lasts_in f u.uid (r ∷ []) (cond x None (Some r))
          one true is = λ i. (another r (all r (inl refl)) (serial_other r.kind is) i || false)
              && not (list_any (λ (w : Uid). not (f w)) (cond (another r (all r (inl refl)) (serial_other r.kind is) i) [] []))
          one false is = two (uid_eq r.uid u.uid)
      by (r ∷ b ∷ rest) shape all = many (is_serial r.kind) refl
        where
          many : (x : Bool) → is_serial r.kind ≡ x → (is_on (uids (r ∷ b ∷ rest)) u.uid && not (list_any (λ (w : Uid). not (f w))
              (behind u.uid (uids (r ∷ b ∷ rest))))) ≡ lasts_in f u.uid (r ∷ b ∷ rest) (cond x (Some b) (Some r))
          many true is = (λ i. (off i || (uid_eq b.uid u.uid || below i)) && not (list_any (λ (w : Uid). not (f w)) (cond (off i)
              (b.uid ∷ uids rest) (cond (uid_eq b.uid u.uid) (uids rest) (behind u.uid (uids rest)))))) ∙ two (uid_eq b.uid u.uid)
            where
              chain_is : chain_in (r ∷ b ∷ rest) ≡ rest
              chain_is = ap (λ z. cond z rest (b ∷ rest)) is

              off : uid_eq r.uid u.uid ≡ false
              off = another r (all r (inl refl)) (serial_other r.kind is)

              below : is_on (uids rest) u.uid ≡ false
              below = never_on rest (subst (λ xs. AllByRecursion (λ (x : Act). x.kind ≡ kind.Nested) xs) chain_is shape.below)
                  (λ x i. all x (inr (inr i)))

              two : (y : Bool) → ((y || false) && not (list_any (λ (w : Uid). not (f w)) (cond y (uids rest) (behind u.uid (uids rest)))))
                  ≡ (y && list_all (λ (c : Act). f c.uid) (chain_in (r ∷ b ∷ rest)))
              two true = none_is_all f rest ∙ sym (ap (λ xs. list_all (λ (c : Act). f c.uid) xs) chain_is)
              two false = refl
          many false is = (λ i. (uid_eq r.uid u.uid || below i) && not (list_any (λ (w : Uid). not (f w))
              (cond (uid_eq r.uid u.uid) (b.uid ∷ uids rest) (behind u.uid (b.uid ∷ uids rest))))) ∙ two (uid_eq r.uid u.uid)
            where
              chain_is : chain_in (r ∷ b ∷ rest) ≡ b ∷ rest
              chain_is = ap (λ z. cond z rest (b ∷ rest)) is

              below : is_on (uids (b ∷ rest)) u.uid ≡ false
              below = never_on (b ∷ rest) (subst (λ xs. AllByRecursion (λ (x : Act). x.kind ≡ kind.Nested) xs) chain_is shape.below)
                  (λ x i. all x (inr i))

              two : (y : Bool) → ((y || false) && not (list_any (λ (w : Uid). not (f w)) (cond y (b.uid ∷ uids rest)
                  (behind u.uid (b.uid ∷ uids rest))))) ≡ (y && list_all (λ (c : Act). f c.uid) (chain_in (r ∷ b ∷ rest)))
              two true = none_is_all f (b ∷ rest) ∙ sym (ap (λ xs. list_all (λ (c : Act). f c.uid) xs) chain_is)
              two false = refl
