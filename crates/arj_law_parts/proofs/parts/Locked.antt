-- The exclude locks of a Confirm, one after another.
use Rattle.arj_law_parts.proofs.Words
use Words.{◌≡◌, ℕ, List, [], ◌∷◌, Bool, true, false, cond, Option, Some, None, refl, sym, ◌∙◌, ap, subst, inl, inr, ⊎_elim, arith, In}
use Words.{grant_clear, Uid, Path, entry, is_on, grant_row, first_conflict, top_path, top_of, lock_in, lock_all, conflict_in, is_granted}
use Words.{Pair, Did, Named, entry_row, conflict_on, locked, Naming, at_number, put_number, put_same, put_other, one_or_two}
use Words.mode
use Rattle.arj_law_parts.proofs.Terms.{Owners, Fits, Untold, names_after, HasLockOn, Past, IsGoodNaming, guard_of}
use Rattle.arj_law_parts.proofs.parts
use parts.{GoodCalls.lock_put, GoodCalls.good_put, Pairs.names_both, Pairs.names_no_line, Stands.stands_asked, Stands.asked_has}
use parts.GoodObjects.{on_own, good_locked}

module _ (owner : Owners) (past : Past) (p : Path) (d : Pair) (fits : Fits owner p) where
  -- What the locks on these objects leave: naming is good, each lock stands, the top has a lock on each of the objects,
  -- and no conflict is new.
  pub record AreLocked (xs : List ℕ) (n : Naming) (t : Did Naming) : Type 0 where
    pub good : IsGoodNaming owner past t.part d
    pub told : t.part.told ≡ n.told
    pub confirmed : t.part.confirmed ≡ n.confirmed
    pub locks : (u : Uid) (k y : ℕ) → HasLockOn u k y n → HasLockOn u k y t.part
    pub have : (x : ℕ) → In x xs → (o : Named) → at_number x n.objects ≡ Some o → HasLockOn (top_of p) 1 x t.part
    pub clear : (y : ℕ) → conflict_in y p (at_number y n.objects) ≡ None → conflict_in y p (at_number y t.part.objects) ≡ None
    pub there : (y : ℕ) (o : Named) → at_number y n.objects ≡ Some o → (q : Named) × (at_number y t.part.objects ≡ Some q)
    pub quiet : names_after t.outs d ≡ d

  still_clear : (x : ℕ) (o : Named) → conflict_on x p mode.Exclude o ≡ None →
      conflict_on x p mode.Exclude (locked x p mode.Exclude o) ≡ None
  still_clear x o free = by (is_granted (entry x) (top_of p) mode.Exclude o.rows)
    where
      by : (b : Bool) →
          first_conflict (top_path p) (entry x) mode.Exclude (cond b o.rows (grant_row (entry_row x p mode.Exclude) o.rows)) ≡ None
      by true = free
      by false =
          grant_clear (top_path p) (entry x) mode.Exclude (entry_row x p mode.Exclude) o.rows (on_own owner (top_path p) fits.holder) free

  one_locked : (x : ℕ) (n : Naming) (o : Option Named) → at_number x n.objects ≡ o → conflict_in x p o ≡ None → Untold (is_on n.told) p →
      IsGoodNaming owner past n d → AreLocked (x ∷ []) n (lock_in x p n o)
  one_locked x n None found free untold good = record {
    good = good;
    told = refl;
    confirmed = refl;
    locks = λ u k y h. h;
    have = λ y i o is. let same : x ≡ y = ⊎_elim (λ e. e) (λ never. absurd never) i in
        let no_way : ◌≡◌ {A = Option Named} None (Some o) = sym found ∙ ap (λ j. at_number j n.objects) same ∙ is in cc;
    clear = λ y h. h;
    there = λ y o is. (o, is);
    quiet = refl;
  }
  one_locked x n (Some o) found free untold good = record {
    good = good_put x o new n.count n found owner past d (omega arith)
        (good_locked owner (is_on n.told) x p fits untold n.inc n.count mode.Exclude o (good.objects x o found) free)
        (λ a s has h. stands_asked a (guard_of x s d) (entry_row x p mode.Exclude) o.rows h) good;
    told = refl;
    confirmed = refl;
    locks = λ u k y h.
        lock_put x o new n.count n found u k k y (λ same q. stands_asked u k (entry_row x p mode.Exclude) o.rows q) (omega arith) h;
    have = λ y i q is. ⊎_elim (λ same. record {
      named = new;
      there = ap (λ j. at_number j (put_number x new n.objects)) (sym same) ∙ put_same x new n.objects;
      lock = asked_has (entry_row x p mode.Exclude) o.rows;
    }) (λ never. absurd never) i;
    clear = λ y h. ⊎_elim (λ same. subst (λ j. conflict_in j p (at_number j (put_number x new n.objects)) ≡ None) same
        (ap (conflict_in x p) (put_same x new n.objects) ∙ still_clear x o free))
        (λ apart. ap (conflict_in y p) (put_other x y new n.objects apart.0) ∙ h) (one_or_two x y);
    there = λ y q is. ⊎_elim (λ same. (new, ap (λ j. at_number j (put_number x new n.objects)) (sym same) ∙ put_same x new n.objects))
        (λ apart. (q, put_other x y new n.objects apart.0 ∙ is)) (one_or_two x y);
    quiet = names_no_line _ _ d;
  }
    where
      new : Named
      new = locked x p mode.Exclude o

  pub all_locked : (xs : List ℕ) (n : Naming) → ((x : ℕ) → In x xs → conflict_in x p (at_number x n.objects) ≡ None) →
      Untold (is_on n.told) p → IsGoodNaming owner past n d → AreLocked xs n (lock_all xs p n)
  all_locked [] n free untold good = record {
    good = good;
    told = refl;
    confirmed = refl;
    locks = λ u k y h. h;
    have = λ x i o is. absurd i;
    clear = λ y h. h;
    there = λ y o is. (o, is);
    quiet = refl;
  }
  all_locked (x ∷ xs) n free untold good =
      both (all_locked xs a.part (λ y i. one.clear y (free y (inr i))) (subst (λ us. Untold (is_on us) p) (sym one.told) untold) one.good)
    where
      a : Did Naming
      a = lock_in x p n (at_number x n.objects)

      one : AreLocked (x ∷ []) n a
      one = one_locked x n (at_number x n.objects) refl (free x (inl refl)) untold good

      both : AreLocked xs a.part (lock_all xs p a.part) → AreLocked (x ∷ xs) n (lock_all (x ∷ xs) p n)
      both rest = record {
        good = rest.good;
        told = rest.told ∙ one.told;
        confirmed = rest.confirmed ∙ one.confirmed;
        locks = λ u k y h. rest.locks u k y (one.locks u k y h);
        have = λ y i o is. ⊎_elim (λ same. rest.locks (top_of p) 1 y (one.have y (inl same) o is)) (λ j. let q = one.there y o is in
            rest.have y j q.0 q.1) i;
        clear = λ y h. rest.clear y (one.clear y h);
        there = λ y o is. let q = one.there y o is in rest.there y q.0 q.1;
        quiet = names_both a.outs (lock_all xs p a.part).outs d ∙ ap (names_after (lock_all xs p a.part).outs) one.quiet ∙ rest.quiet;
      }
