-- States that are held are of the header's objects exactly where those of all files are.
use Rattle.std.proofs.Common.{◌≡◌, ℕ, List, [], ◌∷◌, map, Bool, true, false, cond, ◌&&◌, ◌==◌, Option, Some, None, refl, sym, ◌∙◌, ap}
use Rattle.std.specs.Prelude.{MatchBool, is_some}
use Rattle.std.specs.List.{list_all}
use Rattle.std.specs.Option.{option_or}
use Rattle.arj_base.proofs.Uids.{uid_is, uid_same}
use Rattle.arj_base.specs.State.{state_bytes}
use Rattle.arj_base.specs.Uid.{uid_eq}
use Rattle.arj_base.specs.declared.state.ObjectState.{ObjectState}
use Rattle.arj_base.specs.declared.uid.Uid.{Uid}
use Rattle.arj_disk.specs.Says.{new_of, role_eq}
use Rattle.arj_disk.specs.declared.slot.Role.{Role}
use Rattle.arj_image.specs.declared.image.NodeFile.{NodeFile}
use Rattle.arj_journal.specs.declared.header.ObjectLine.{ObjectLine}
use Rattle.arj_law.proofs.Common.{never}
use Rattle.arj_past.specs.Past.{IsOfHeader, has_name}
use Rattle.arj_past.specs.Rows.{row_fits, states_fit}
use Rattle.arj_saved.specs.Saved.{disks_of, held_among, rows_of, segments_in, state_in_rows}
use Rattle.arj_saved.specs.declared.kept.Kept.{Kept}
use Rattle.arj_store.specs.Pair.{packed}

and_left : (a b : Bool) → (a && b) ≡ true → a ≡ true
and_left true b e = refl
and_left false b e = e

and_right : (a b : Bool) → (a && b) ≡ true → b ≡ true
and_right true b e = e
and_right false b e = cc e

later_there : {A : Type 0} (a b : Option A) → is_some a ≡ true → is_some (option_or a b) ≡ true
later_there (Some a) b e = refl
later_there None b e = cc e

earlier_there : {A : Type 0} (a b : Option A) → is_some b ≡ true → is_some (option_or a b) ≡ true
earlier_there (Some a) b e = refl
earlier_there None b e = e

module _ (objects : List ObjectLine) (n : ℕ) (role : Role) where
  -- what is found among states that fit
  state_fits : (states : List ObjectState) (u : Uid) → states_fit objects role states ≡ true → is_some (new_of (packed states) u) ≡ true →
      has_name objects role u ≡ true
  state_fits [] u fit there = cc there
  state_fits (s ∷ states) u fit there =
      by (uid_eq u s.uid) refl there (state_fits states u (and_right (has_name objects role s.uid) (states_fit objects role states) fit))
    where
      by : (b : Bool) → uid_eq u s.uid ≡ b → is_some (cond b (Some (state_bytes s)) (new_of (packed states) u)) ≡ true
          → (is_some (new_of (packed states) u) ≡ true → has_name objects role u ≡ true) → has_name objects role u ≡ true
      by true same e more = ap (has_name objects role) (uid_is u s.uid same) ∙ and_left (has_name objects role s.uid) (states_fit objects role states) fit
      by false other e more = more e

  file_fits : (k : Kept) (u : Uid) → row_fits objects n role k ≡ true → is_some (state_in_rows n role u (rows_of k)) ≡ true → has_name objects role u ≡ true
  file_fits k u = by ((k.node == n) && role_eq k.role role)
    where
      by : (b : Bool) → cond b (states_fit objects role k.states) true ≡ true → is_some (cond b (new_of (packed k.states) u) None) ≡ true → has_name objects role u ≡ true
      by true fit there = state_fits k.states u fit there
      by false fit there = cc there

  held_fits : (ks : List Kept) (u : Uid) → list_all (row_fits objects n role) ks ≡ true → is_some (held_among (map rows_of ks) n role u) ≡ true →
      has_name objects role u ≡ true
  held_fits [] u fit there = cc there
  held_fits (k ∷ ks) u fit there =
      by (held_among (map rows_of ks) n role u) refl there (held_fits ks u (and_right (row_fits objects n role k) (list_all (row_fits objects n role) ks) fit))
    where
      by : (o : Option (List ℕ)) → held_among (map rows_of ks) n role u ≡ o → is_some (option_or o (state_in_rows n role u (rows_of k))) ≡ true
          → (is_some (held_among (map rows_of ks) n role u) ≡ true → has_name objects role u ≡ true) → has_name objects role u ≡ true
      by None is e more = file_fits k u (and_left (row_fits objects n role k) (list_all (row_fits objects n role) ks) fit) e
      by (Some s) is e more = more (ap is_some is)

  -- a Uid of another object, among these
  abbrev Stray : (Uid → Bool) → Type 0
  Stray there = (u : Uid) × (there u ≡ true) × (has_name objects role u ≡ false)

  state_strays : (states : List ObjectState) → states_fit objects role states ≡ false → Stray (λ u. is_some (new_of (packed states) u))
  state_strays [] fails = cc fails
  state_strays (s ∷ states) fails = by (has_name objects role s.uid) refl fails (state_strays states)
    where
      more : Stray (λ u. is_some (new_of (packed states) u)) → Stray (λ u. is_some (new_of (packed (s ∷ states)) u))
      more (u, there, name) = (u, to (uid_eq u s.uid), name)
        where
          to : (b : Bool) → is_some (cond b (Some (state_bytes s)) (new_of (packed states) u)) ≡ true
          to true = refl
          to false = there

      by : (b : Bool) → has_name objects role s.uid ≡ b → (b && states_fit objects role states) ≡ false
          → (states_fit objects role states ≡ false → Stray (λ u. is_some (new_of (packed states) u))) → Stray (λ u. is_some (new_of (packed (s ∷ states)) u))
      by false name e others = (s.uid, (λ i. is_some (cond (uid_same s.uid i) (Some (state_bytes s)) (new_of (packed states) s.uid))), name)
      by true name e others = more (others e)

  file_strays : (k : Kept) → row_fits objects n role k ≡ false → Stray (λ u. is_some (state_in_rows n role u (rows_of k)))
  file_strays k = by ((k.node == n) && role_eq k.role role) refl
    where
      by : (b : Bool) → ((k.node == n) && role_eq k.role role) ≡ b → cond b (states_fit objects role k.states) true ≡ false
          → Stray (λ u. is_some (state_in_rows n role u (rows_of k)))
      by true is fails = to (state_strays k.states fails)
        where
          to : Stray (λ u. is_some (new_of (packed k.states) u)) → Stray (λ u. is_some (state_in_rows n role u (rows_of k)))
          to (u, there, name) = (u, (λ i. is_some (cond (is i) (new_of (packed k.states) u) None)) ∙ there, name)
      by false is fails = cc fails

  held_strays : (ks : List Kept) → list_all (row_fits objects n role) ks ≡ false → Stray (λ u. is_some (held_among (map rows_of ks) n role u))
  held_strays [] fails = cc fails
  held_strays (k ∷ ks) fails = by (row_fits objects n role k) refl fails (held_strays ks)
    where
      here : Stray (λ u. is_some (state_in_rows n role u (rows_of k))) → Stray (λ u. is_some (held_among (map rows_of (k ∷ ks)) n role u))
      here (u, there, name) = (u, earlier_there (held_among (map rows_of ks) n role u) (state_in_rows n role u (rows_of k)) there, name)

      later : Stray (λ u. is_some (held_among (map rows_of ks) n role u)) → Stray (λ u. is_some (held_among (map rows_of (k ∷ ks)) n role u))
      later (u, there, name) = (u, later_there (held_among (map rows_of ks) n role u) (state_in_rows n role u (rows_of k)) there, name)

      by : (b : Bool) → row_fits objects n role k ≡ b → (b && list_all (row_fits objects n role) ks) ≡ false
          → (list_all (row_fits objects n role) ks ≡ false → Stray (λ u. is_some (held_among (map rows_of ks) n role u)))
          → Stray (λ u. is_some (held_among (map rows_of (k ∷ ks)) n role u))
      by false is e others = here (file_strays k is)
      by true is e others = later (others e)

  pub named_test : (b : Bool) (files : List NodeFile) (ks : List Kept) → map rows_of ks ≡ segments_in files → b ≡ list_all (row_fits objects n role) ks →
      MatchBool b (IsOfHeader objects (disks_of files n) role) (IsOfHeader objects (disks_of files n) role → ⊥)
  named_test true files ks are is = λ u there. held_fits ks u (sym is) (ap (λ rs. is_some (held_among rs n role u)) are ∙ there)
  named_test false files ks are is = λ known. by (held_strays ks (sym is)) known
    where
      by : Stray (λ u. is_some (held_among (map rows_of ks) n role u)) → IsOfHeader objects (disks_of files n) role → ⊥
      by (u, there, name) known = never (has_name objects role u) (known u (ap (λ rs. is_some (held_among rs n role u)) (sym are) ∙ there)) name
