-- Objects at which a Confirm excludes and includes nothing keep their entries, and want no lock.
use Rattle.std.proofs.Common.{◌≡◌, ◌∙◌, ◌==◌, ◌&&◌, ◌||◌, ℕ, Bool, true, false, cond, List, [], ◌∷◌, map, filter, refl, sym, subst, Option}
use Rattle.std.proofs.Common.{Some, None}
use Rattle.std.specs.List.{IsDistinct, cons_option, list_any}
use Rattle.std.proofs.lemmas.Bool.{eq-eqb, or_parts}
use Rattle.arj_base.specs.Uid.{entry, uid_eq}
use Rattle.arj_base.specs.declared.state.ObjectState.{ObjectState}
use Rattle.arj_base.specs.declared.uid.Uid.{Uid}
use Rattle.arj_naming.specs.Entries.{IsOnce}
use Rattle.arj_naming.proofs.Confirms.{distinct_entries, once_filter}
use Rattle.arj_protocol.specs.Confirm.{Grants, Marks, entries_after, entry_after, entry_by, entry_state, is_wanted, marked, same_nodes}
use Rattle.arj_protocol.specs.Confirm.{wanted, wants_lock, with_stores, without_stores}
use Rattle.arj_protocol.specs.Effect.{Pair, held_at}
use Rattle.arj_protocol.specs.Values.{state_entry}

no_marks : (x : ℕ) (marks : Marks) → list_any (λ (k : ℕ × ℕ). k.0 == x) marks ≡ false → marked x marks ≡ []
no_marks x [] none = refl
no_marks x (k ∷ ks) none =
    let p = or_parts (k.0 == x) (list_any (λ (l : ℕ × ℕ). l.0 == x) ks) none in
    (λ i. map (λ (l : ℕ × ℕ). l.1) (cond (p.0 i) (k ∷ filter (λ (l : ℕ × ℕ). l.0 == x) ks) (filter (λ (l : ℕ × ℕ). l.0 == x) ks))) ∙ no_marks x ks p.1

same_itself : (ns : List ℕ) → same_nodes ns ns ≡ true
same_itself [] = refl
same_itself (n ∷ ns) = λ i. eq-eqb n n refl i && same_itself ns i

module _ (top : Uid) (ex inc : Marks) (d : Pair) where
  abbrev is_at : ℕ × ℕ → Bool
  is_at g = list_any (λ (k : ℕ × ℕ). k.0 == g.0) ex || list_any (λ (k : ℕ × ℕ). k.0 == g.0) inc

  stays : (x : ℕ) (held : Option ObjectState) → (list_any (λ (k : ℕ × ℕ). k.0 == x) ex || list_any (λ (k : ℕ × ℕ). k.0 == x) inc) ≡ false →
      entry_after top ex inc x held ≡ None
  stays x None none = refl
  stays x (Some s) none =
      let p = or_parts (list_any (λ (k : ℕ × ℕ). k.0 == x) ex) (list_any (λ (k : ℕ × ℕ). k.0 == x) inc) none in
      let old : List ℕ = (state_entry s).stores in
      (λ i. entry_by x top s (with_stores (no_marks x inc p.1 i) (without_stores (no_marks x ex p.0 i) old))) ∙ (λ i. cond (same_itself old i) None (Some (entry_state x top s old)))

  no_lock : (x : ℕ) → (list_any (λ (k : ℕ × ℕ). k.0 == x) ex || list_any (λ (k : ℕ × ℕ). k.0 == x) inc) ≡ false →
      wants_lock top ex d x ≡ false
  no_lock x none =
      let p = or_parts (list_any (λ (k : ℕ × ℕ). k.0 == x) ex) (list_any (λ (k : ℕ × ℕ). k.0 == x) inc) none in
      λ i. list_any (is_wanted x top d) (no_marks x ex p.0 i)

  same_entries : (gs : Grants) → entries_after top gs ex inc d ≡ entries_after top (filter is_at gs) ex inc d
  same_entries [] = refl
  same_entries (g ∷ gs) = by (is_at g) refl (same_entries gs)
    where
      by : (b : Bool) → is_at g ≡ b → entries_after top gs ex inc d ≡ entries_after top (filter is_at gs) ex inc d
          → cons_option (entry_after top ex inc g.0 (held_at (entry g.0) d)) (entries_after top gs ex inc d) ≡ entries_after top (cond b (g ∷ filter is_at gs) (filter is_at gs)) ex inc d
      by true is rest = λ i. cons_option (entry_after top ex inc g.0 (held_at (entry g.0) d)) (rest i)
      by false isnt rest = (λ i. cons_option (stays g.0 (held_at (entry g.0) d) isnt i) (entries_after top gs ex inc d)) ∙ rest

  same_wanted : (gs : Grants) → wanted top gs ex d ≡ wanted top (filter is_at gs) ex d
  same_wanted [] = refl
  same_wanted (g ∷ gs) = by (is_at g) refl (same_wanted gs)
    where
      by : (b : Bool) → is_at g ≡ b → wanted top gs ex d ≡ wanted top (filter is_at gs) ex d
          → cond (wants_lock top ex d g.0) (g.0 ∷ wanted top gs ex d) (wanted top gs ex d) ≡ wanted top (cond b (g ∷ filter is_at gs) (filter is_at gs)) ex d
      by true is rest = λ i. cond (wants_lock top ex d g.0) (g.0 ∷ rest i) (rest i)
      by false isnt rest = (λ i. cond (no_lock g.0 isnt i) (g.0 ∷ wanted top gs ex d) (wanted top gs ex d)) ∙ rest

  -- where no object at which it excludes or includes a store stands twice, no lock is wanted twice, and no entry changes twice
  pub wanted_once : (gs : Grants) → IsOnce (map (λ (g : ℕ × ℕ). g.0) (filter is_at gs)) → IsOnce (wanted top gs ex d)
  wanted_once gs once =
      subst IsOnce (sym (same_wanted gs)) (once_filter (wants_lock top ex d) (map (λ (g : ℕ × ℕ). g.0) (filter is_at gs)) once)

  pub entries_once : (gs : Grants) → IsOnce (map (λ (g : ℕ × ℕ). g.0) (filter is_at gs)) →
      IsDistinct uid_eq (map (λ (s : ObjectState). s.uid) (entries_after top gs ex inc d))
  entries_once gs once =
      subst (λ ss. IsDistinct uid_eq (map (λ (s : ObjectState). s.uid) ss)) (sym (same_entries gs)) (distinct_entries top ex inc d (filter is_at gs) once)
