-- The two views under a write and under the ends.
use Rattle.std.proofs.Common.{◌≡◌, ◌⊎◌, ℕ, Bool, true, false, List, [], ◌∷◌, Option, None, Some, cond, ap, sym, ◌∙◌, refl, inl, inr, find}
use Rattle.std.proofs.Common.{not, min, length, ◌++◌}
use Rattle.std.specs.List.{list_any, list_all}
use Rattle.std.specs.Option.{option_map, option_or}
use Rattle.std.proofs.lemmas.Bool.{and_parts, or_parts}
use Rattle.arj_base.specs.declared.uid.Uid.{Uid}
use Rattle.arj_base.specs.Rows.{last_uid, front, is_on}
use Rattle.arj_base.specs.Uid.{uid_eq}
use Rattle.arj_base.proofs.Uids.{uid_is, uid_same, uid_sym}
use Rattle.arj_class.specs.declared.value.Value.{Value}
use Rattle.arj_protocol.specs.Copy.{Over, Base, current, is_of, over_of, written, folded, undone}
use Rattle.arj_manager.specs.Views.{overlay, image, IsOneOver, MayWrite, older}

-- who wrote nothing has no image
pub no_image : (base : Base) (u : Uid) (es : List Over) → over_of u es ≡ None → image base es u ≡ None
no_image base u [] none = refl
no_image base u (e ∷ es) none = by (is_of u e) (no_image base u es) none
  where
    by : (b : Bool) → (over_of u es ≡ None → image base es u ≡ None) → cond b (Some e) (find (is_of u) es) ≡ None →
        cond b (Some (current base es)) (image base es u) ≡ None
    by true ih none = absurd (cc none)
    by false ih none = ih none

-- a value that a write leaves in place
pub now_written : (base : Base) (holder : List Uid) (tops : ℕ) (v : Value) (es : List Over) → current base (written holder tops v es) ≡ v
now_written base holder tops v [] = refl
now_written base holder tops v (e ∷ es) = by (is_of (last_uid holder) e)
  where
    by : (b : Bool) → current base (cond b (record e { value = v } ∷ es) (record { holder = holder; tops = tops; value = v } ∷ e ∷ es)) ≡ v
    by true = refl
    by false = refl

pub over_written : (holder : List Uid) (tops : ℕ) (v : Value) (es : List Over) (b : Uid) →
    overlay (written holder tops v es) b ≡ cond (uid_eq (last_uid holder) b) (Some v) (overlay es b)
over_written holder tops v [] b = by (uid_eq (last_uid holder) b)
  where
    by : (t : Bool) →
        option_map (λ (e : Over). e.value) (cond t (Some (record { holder = holder; tops = tops; value = v })) None) ≡ cond t (Some v) None
    by true = refl
    by false = refl
over_written holder tops v (e ∷ es) b = by (is_of (last_uid holder) e) refl
  where
    new : Over
    new = record { holder = holder; tops = tops; value = v }

    pick : (t s : Bool) (o : Over) → t ≡ s →
        option_map (λ (e : Over). e.value) (cond t (Some (record o {
          value =
              v;
        })) (find (is_of b) es)) ≡ cond s (Some v) (option_map (λ (e : Over). e.value) (cond t (Some o) (find (is_of b) es)))
    pick true true o is = refl
    pick true false o is = absurd (cc is)
    pick false true o is = absurd (cc is)
    pick false false o is = refl

    fresh : (t : Bool) → option_map (λ (e : Over). e.value) (cond t (Some new) (over_of b (e ∷ es))) ≡ cond t (Some v) (overlay (e ∷ es) b)
    fresh true = refl
    fresh false = refl

    by : (t : Bool) → is_of (last_uid holder) e ≡ t
        → overlay (cond t (record e { value = v } ∷ es) (new ∷ e ∷ es)) b ≡ cond (uid_eq (last_uid holder) b) (Some v) (overlay (e ∷ es) b)
    by true is = pick (is_of b e) (uid_eq (last_uid holder) b) e (ap (λ w. uid_eq w b) (uid_is (last_uid e.holder) (last_uid holder) is))
    by false is = fresh (uid_eq (last_uid holder) b)

pub image_written : (base : Base) (holder : List Uid) (tops : ℕ) (v : Value) (es : List Over) → MayWrite (last_uid holder) es → (b : Uid)
    → image base (written holder tops v es) b ≡ cond (uid_eq (last_uid holder) b) (Some (older (image base es (last_uid holder)) (current base es))) (image base es b)
image_written base holder tops v [] may b = by (uid_eq (last_uid holder) b)
  where
    by : (t : Bool) → cond t (Some base.value) None ≡ cond t (Some base.value) None
    by t = refl
image_written base holder tops v (e ∷ es) may b = by (is_of (last_uid holder) e) refl may
  where
    u : Uid
    u = last_uid holder

    new : Over
    new = record { holder = holder; tops = tops; value = v }

    pick : (t s : Bool) → t ≡ s →
        cond t (Some (current base es)) (image base es b) ≡ cond s (Some (current base es)) (cond t (Some (current base es)) (image base es b))
    pick true true is = refl
    pick true false is = absurd (cc is)
    pick false true is = absurd (cc is)
    pick false false is = refl

    own : (t : Bool) → t ≡ true → older (cond t (Some (current base es)) (image base es u)) e.value ≡ current base es
    own true is = refl
    own false is = absurd (cc is)

    by : (t : Bool) → is_of u e ≡ t → (t ≡ true) ⊎ (over_of u (e ∷ es) ≡ None)
        → image base (cond t (record e {
          value =
              v;
        } ∷ es) (new ∷ e ∷ es)) b ≡ cond (uid_eq u b) (Some (older (image base (e ∷ es) u) (current base (e ∷ es)))) (image base (e ∷ es) b)
    by true is may =
        pick (is_of b e) (uid_eq u b) (ap (λ w. uid_eq w b) (uid_is (last_uid e.holder) u is))
        ∙ (λ i. cond (uid_eq u b) (Some (sym (own (is_of u e) is) i)) (image base (e ∷ es) b))
    by false is (inl same) = absurd (cc same)
    by false is (inr none) = λ i. cond (uid_eq u b) (Some (older (sym (no_image base u (e ∷ es) none) i) e.value)) (image base (e ∷ es) b)

-- ---- a nested commit

pub older_is : (old : Option Value) (now : Value) → Some (older old now) ≡ option_or old (Some now)
older_is None now = refl
older_is (Some image) now = refl

module _ (e : Over) (es : List Over) (none : over_of (last_uid e.holder) es ≡ None) (apart : uid_eq (last_uid e.holder) (last_uid (front e.holder)) ≡ false) where
  -- whose overlay is the deepest
  abbrev u : Uid
  u = last_uid e.holder

  -- its parent
  abbrev h : Uid
  h = last_uid (front e.holder)

  folded_is : folded u (e ∷ es) ≡ written (front e.holder) (min e.tops (length (front e.holder))) e.value es
  folded_is = λ i. cond (uid_same u i) (written (front e.holder) (min e.tops (length (front e.holder))) e.value es) (e ∷ es)

  pub now_folded : (base : Base) → current base (folded u (e ∷ es)) ≡ current base (e ∷ es)
  now_folded base = ap (current base) folded_is ∙ now_written base (front e.holder) (min e.tops (length (front e.holder))) e.value es

  pub over_folded : (b : Uid) →
      overlay (folded u (e ∷ es)) b ≡ cond (uid_eq h b) (overlay (e ∷ es) u) (cond (uid_eq u b) None (overlay (e ∷ es) b))
  over_folded b =
      ap (λ s. overlay s b) folded_is
      ∙ (over_written (front e.holder) (min e.tops (length (front e.holder))) e.value es b
      ∙ ((λ i. cond (uid_eq h b) (option_map (λ (e : Over). e.value) (cond (sym (uid_same u) i) (Some e) (over_of u es))) (overlay es b))
      ∙ ap (λ x. cond (uid_eq h b) (overlay (e ∷ es) u) x) (rest (uid_eq u b) refl)))
    where
      rest : (t : Bool) → uid_eq u b ≡ t → overlay es b ≡ cond t None (option_map (λ (e : Over). e.value) (cond t (Some e) (over_of b es)))
      rest true is = ap (λ w. overlay es w) (sym (uid_is u b is)) ∙ ap (option_map (λ (e : Over). e.value)) none
      rest false is = refl

  pub image_folded : (base : Base) → MayWrite h es → (b : Uid)
      → image base (folded u (e ∷ es)) b ≡ cond (uid_eq h b) (option_or (image base (e ∷ es) h) (image base (e ∷ es) u)) (cond (uid_eq u b) None (image base (e ∷ es) b))
  image_folded base may b =
      ap (λ s. image base s b) folded_is
      ∙ (image_written base (front e.holder) (min e.tops (length (front e.holder))) e.value es may b
      ∙ ((λ i. cond (uid_eq h b) (older_is (image base es h) (current base es) i) (image base es b))
      ∙ ((λ i. cond (uid_eq h b) (option_or (cond (sym apart i) (Some (current base es)) (image base es h)) (cond (sym (uid_same u) i) (Some (current base es)) (image base es u))) (image base es b))
      ∙ ap (λ x. cond (uid_eq h b) (option_or (image base (e ∷ es) h) (image base (e ∷ es) u)) x) (rest (uid_eq u b) refl))))
    where
      rest : (t : Bool) → uid_eq u b ≡ t → image base es b ≡ cond t None (cond t (Some (current base es)) (image base es b))
      rest true is = ap (λ w. image base es w) (sym (uid_is u b is)) ∙ no_image base u es none
      rest false is = refl

-- ---- an abort

undone_none : (u : Uid) (stays : List Over) → list_any (λ (e : Over). is_on e.holder u) stays ≡ false → undone u stays ≡ stays
undone_none u [] none = refl
undone_none u (e ∷ es) none =
    let p = or_parts (is_on e.holder u) (list_any (λ (e : Over). is_on e.holder u) es) none in
    λ i. cond (not (p.0 i)) (e ∷ undone_none u es p.1 i) (undone u es)

pub undone_is : (u : Uid) (gone stays : List Over) → list_all (λ (e : Over). is_on e.holder u) gone ≡ true →
    list_any (λ (e : Over). is_on e.holder u) stays ≡ false → undone u (gone ++ stays) ≡ stays
undone_is u [] stays all none = undone_none u stays none
undone_is u (e ∷ gone) stays all none =
    let p = and_parts (is_on e.holder u) (list_all (λ (e : Over). is_on e.holder u) gone) all in
    (λ i. cond (not (p.0 i)) (e ∷ undone u (gone ++ stays)) (undone u (gone ++ stays))) ∙ undone_is u gone stays p.1 none

none_here : (a : Uid) (e : Over) (gone stays : List Over) → over_of a (gone ++ e ∷ stays) ≡ None → is_of a e ≡ false
none_here a e [] stays none = by (is_of a e) none
  where
    by : (t : Bool) → cond t (Some e) (over_of a stays) ≡ None → t ≡ false
    by true none = absurd (cc none)
    by false none = refl
none_here a e (g ∷ gone) stays none = by (is_of a g) (none_here a e gone stays) none
  where
    by : (t : Bool) → (over_of a (gone ++ e ∷ stays) ≡ None → is_of a e ≡ false) → cond t (Some g) (over_of a (gone ++ e ∷ stays)) ≡ None →
        is_of a e ≡ false
    by true ih none = absurd (cc none)
    by false ih none = ih none

pub lowest_image : (base : Base) (gone : List Over) (e : Over) (stays : List Over) → IsOneOver (gone ++ e ∷ stays) →
    image base (gone ++ e ∷ stays) (last_uid e.holder) ≡ Some (current base stays)
lowest_image base [] e stays one =
    λ i. cond (uid_same (last_uid e.holder) i) (Some (current base stays)) (image base stays (last_uid e.holder))
lowest_image base (g ∷ gone) e stays one =
    let other : is_of (last_uid e.holder) g ≡ false =
    uid_sym (last_uid g.holder) (last_uid e.holder) ∙ none_here (last_uid g.holder) e gone stays one.0 in
    (λ i. cond (other i) (Some (current base (gone ++ e ∷ stays))) (image base (gone ++ e ∷ stays) (last_uid e.holder))) ∙ lowest_image base gone e stays one.1
