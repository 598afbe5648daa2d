-- Which actions of a coordinator's tree are doomed: only those of which this holds.
use Rattle.arj_law_parts.proofs.Words
use Words.{◌≡◌, ◌≢◌, ◌∙◌, ◌==◌, ℕ, zero, suc, Bool, true, false, cond, [], ◌∷◌, ◌++◌, length, refl, sym, ap, subst, arith, nat_tests}
use Words.{⊎_elim, Option, Some, None, nat_le, eqb-true, place_other, Branch, End, Kind, Path, Tree, Uid, at_place, begun, branch_of}
use Words.{doomed_at, doomed_branch}
use Words.{ended_at, ended_branch, family_of, is_own, new_tree, next_uid, path_below, root_of, set_place, uids_of, uses_object, with_family}
use Rattle.arj_law_runs.proofs.Terms.{found_by, own_is, place_same}
use Rattle.arj_law_runs.proofs.journal.Begun.{place_cases}

some_is : {A : Type 0} {a b : A} → Some a ≡ Some b → a ≡ b
some_is {A} {a} {b} is = let k : ◌≡◌ {A = Option A} (Some a) (Some b) = is in cc

module _ (D : Uid → Type 0) where
  -- of each that is doomed it holds
  abbrev pub Flags : Tree → Type 0
  Flags t = (u : Uid) (b : Branch) → branch_of u t ≡ Some b → b.doomed ≡ true → D u

  -- another branch in its place, of which it holds if that is doomed
  flags_set : (t : Tree) (w : Uid) (b c : Branch) → branch_of w t ≡ Some b → (c.doomed ≡ true → D w) → Flags t →
      Flags (record t { branches = set_place w.num c t.branches })
  flags_set t w b c found may its u x there doomed = by (u.num == w.num) refl
    where
      at : (is_own u t ≡ true) × (at_place u.num (set_place w.num c t.branches) ≡ Some x)
      at = found_by u (record t { branches = set_place w.num c t.branches }) x there

      was : (is_own w t ≡ true) × (at_place w.num t.branches ≡ Some b)
      was = found_by w t b found

      apart : (u.num == w.num) ≡ false → u.num ≢ w.num
      apart e = grind (arith, nat_tests, e)

      by : (z : Bool) → (u.num == w.num) ≡ z → D u
      by true e =
          let same : u.num ≡ w.num = eqb-true u.num w.num e in
          let one : c ≡ x = some_is (sym (place_same w.num c b t.branches was.1)
          ∙ ap (λ j. at_place j (set_place w.num c t.branches)) (sym same) ∙ at.1) in
          subst D (sym (own_is u w t at.0 was.0 same)) (may (ap (λ (y : Branch). y.doomed) one ∙ doomed))
      by false e = its u x (ap (λ z. cond z (at_place u.num t.branches) None) at.0 ∙ sym (place_other w.num u.num c t.branches (apart e))
          ∙ at.1)
          doomed

  pub flags_new : (n inc : ℕ) → Flags (new_tree n inc)
  flags_new n inc u b there doomed = by (is_own u (new_tree n inc)) u.num there
    where
      by : (z : Bool) (j : ℕ) → cond z (at_place {A = Branch} j []) None ≡ Some b → D u
      by true zero is = absurd (cc is)
      by true (suc j) is = absurd (cc is)
      by false j is = absurd (cc is)

  pub flags_uses : (p : Path) (x : ℕ) (t : Tree) → Flags t → Flags (uses_object p x t)
  flags_uses p x t its u b there doomed = its u b there doomed

  pub flags_begun : (how : Kind) (parent : Option Branch) (t : Tree) → Flags t → Flags (begun how parent t)
  flags_begun how parent t its u b there doomed = by (is_own u t) refl there
    where
      fresh : Branch
      fresh = record { path = path_below how parent (next_uid t); kind = how; ended = None; doomed = false }

      by : (z : Bool) → is_own u t ≡ z → cond z (at_place u.num (t.branches ++ fresh ∷ [])) None ≡ Some b → D u
      by true own at = ⊎_elim (λ old. its u b (ap (λ z. cond z (at_place u.num t.branches) None) own ∙ old) doomed)
          (λ last. absurd (cc (ap (λ (y : Branch). y.doomed) last.1 ∙ doomed)))
          (place_cases t.branches fresh b u.num at)
      by false own at = absurd (cc at)

  pub flags_ended : (w : Uid) (e : End) (t : Tree) → Flags t → Flags (ended_at w e t)
  flags_ended w e t its = by (branch_of w t) refl
    where
      by : (o : Option Branch) → branch_of w t ≡ o → Flags (ended_branch w e t o)
      by None is = its
      by (Some b) is = listed (nat_le (length (uids_of b.path)) 1)
        where
          c : Branch
          c = record b { ended = Some e }

          m : Tree
          m = record t { branches = set_place w.num (record b { ended = Some e }) t.branches }

          shut : Flags (record t { branches = set_place w.num (record b { ended = Some e }) t.branches })
          shut = flags_set t w b (record b { ended = Some e }) is (λ doomed. its w b is doomed) its

          listed : (x : Bool) → Flags (cond x m (with_family (root_of b.path)
              (let g = family_of (root_of b.path) m in record g { ends = g.ends ++ (w, e) ∷ [] }) m))
          listed true = shut
          listed false = λ u x there doomed. shut u x there doomed

  pub flags_doomed : (w : Uid) (t : Tree) → D w → Flags t → Flags (doomed_at w t)
  flags_doomed w t may its = by (branch_of w t) refl
    where
      by : (o : Option Branch) → branch_of w t ≡ o → Flags (doomed_branch w t o)
      by None is = its
      by (Some b) is = flags_set t w b (record b { doomed = true }) is (λ doomed. may) its
