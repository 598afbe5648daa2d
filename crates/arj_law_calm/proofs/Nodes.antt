-- Stores that are listed behind the journal of a calm image are nodes.
use Rattle.std.proofs.Common.{◌≡◌, ◌+◌, ◌==◌, ◌&&◌, ℕ, List, [], ◌∷◌, ◌++◌, Bool, true, false, not, Option, Some, None, refl, sym, ◌∙◌}
use Rattle.std.proofs.Common.{ap, subst}
use Rattle.std.proofs.Common.{arith, if◌then◌else◌, eqb-true, inl, inr}
use Rattle.std.specs.List.{AllByRecursion, cons_option, list_all}
use Rattle.std.specs.Option.{option_or}
use Rattle.std.proofs.lemmas.Bool.{and_parts}
use Rattle.arj_audit.specs.Calm.{IsCalm}
use Rattle.arj_base.specs.Uid.{entry, object}
use Rattle.arj_base.specs.declared.uid.Uid.{Uid}
use Rattle.arj_clean.specs.Clean.{HoldsLast}
use Rattle.arj_disk.specs.Says.{names, new_of, role_eq}
use Rattle.arj_disk.specs.declared.slot.Role.{Role}
use Rattle.arj_disk.specs.declared.slot.Role.TheVariants.{Names, Store}
use Rattle.arj_disk.specs.declared.slot.Slot.{Slot}
use Rattle.arj_disk.specs.declared.slot.Slot.TheVariants as slot
use Rattle.arj_image.specs.Grammar.{FileFits}
use Rattle.arj_image.specs.Written.{AreInTurn, ImageInForm}
use Rattle.arj_image.specs.declared.image.Image.{Image}
use Rattle.arj_image.specs.declared.image.NodeFile.{NodeFile}
use Rattle.arj_journal.specs.declared.header.ObjectLine.{ObjectLine}
use Rattle.arj_journal.specs.declared.limits.TheConstants.{STORES}
use Rattle.arj_lock.proofs.Members.{In}
use Rattle.arj_model.specs.Disks.{InDoubt, held}
use Rattle.arj_model.specs.Last.{is_among, listed}
use Rattle.arj_rest.specs.Nodes.{are_distinct, is_listing}
use Rattle.arj_saved.specs.Files.{are_in_place, is_in_place}
use Rattle.arj_saved.specs.Saved.{Rows, disks_of, held_among, join_states, pend_among, pend_at, segment_at, segments_in, state_in_rows}
use Rattle.arj_saved.specs.Rows.{is_segment}
use Rattle.arj_segment_file.specs.Format.{states_in}
use Rattle.arj_text.specs.Fields.{IsWithin, NodesInForm, is_distinct}
use Rattle.arj_law_calm.proofs.Fit.{nodes_in_form}
use Rattle.arj_law_calm.proofs.Formed.{line_there}

-- ---- nothing is prepared

none_at : (n m : ℕ) (role : Role) (a : Uid) (q : Slot) (bytes : List ℕ) → is_in_place m q bytes ≡ true → pend_at n role a m q bytes ≡ None
none_at n m role a (slot.Pending r b) bytes place = absurd (cc place)
none_at n m role a q bytes place = refl

none_pends : (files : List NodeFile) → are_in_place files ≡ true → (n : ℕ) (role : Role) (a : Uid) → pend_among files n role a ≡ None
none_pends [] place n role a = refl
none_pends (f ∷ fs) place n role a =
    let parts = and_parts (is_in_place f.node f.slot f.bytes) (are_in_place fs) place in
    (λ i. join_states (none_at n f.node role a f.slot f.bytes parts.0 i) (none_pends fs parts.1 n role a i))

-- ---- what is held is of a node

module _ (nodes : ℕ) where
  row_node : (n s : ℕ) (role : Role) (u : Uid) (q : Slot) (bytes b : List ℕ) → IsWithin 1 nodes n → (r : Rows) →
      segment_at n q bytes ≡ Some r →
      state_in_rows s role u r ≡ Some b → IsWithin 1 nodes s
  row_node n s role u (slot.Segment k j) bytes b within r is has = by (is_segment bytes) is
    where
      by : (t : Bool) → (if t then Some (record { node = n; role = k; states = states_in bytes }) else None) ≡ Some r → IsWithin 1 nodes s
      by false e = absurd (cc e)
      by true e =
          let same : record { node = n; role = k; states = states_in bytes } ≡ r = cc e in
          from ((r.node == s) && role_eq r.role role) refl has (ap (λ (z : Rows). z.node) same)
        where
          from : (t : Bool) → ((r.node == s) && role_eq r.role role) ≡ t → (if t then new_of r.states u else None) ≡ Some b → n ≡ r.node →
              IsWithin 1 nodes s
          from true t h at =
              subst (IsWithin 1 nodes) (at ∙ eqb-true r.node s (and_parts (r.node == s) (role_eq r.role role) t).0) within
          from false t h at = absurd (cc h)
  row_node n s role u q bytes b within r is has = absurd (cc is)

  held_node : (before files : List NodeFile) → AreInTurn (FileFits nodes) before files → (s : ℕ) (role : Role) (u : Uid) (b : List ℕ) →
      held_among (segments_in files) s role u ≡ Some b → IsWithin 1 nodes s
  held_node before [] turn s role u b is = absurd (cc is)
  held_node before (f ∷ fs) turn s role u b is = by (segment_at f.node f.slot f.bytes) refl is
      (held_node (before ++ f ∷ []) fs turn.1 s role u b)
    where
      by : (o : Option Rows) → segment_at f.node f.slot f.bytes ≡ o → held_among (cons_option o (segments_in fs)) s role u ≡ Some b →
          (held_among (segments_in fs) s role u ≡ Some b → IsWithin 1 nodes s) → IsWithin 1 nodes s
      by None e h ih = ih h
      by (Some r) e h ih = from (held_among (segments_in fs) s role u) refl h
        where
          from : (o : Option (List ℕ)) → held_among (segments_in fs) s role u ≡ o → option_or o (state_in_rows s role u r) ≡ Some b →
              IsWithin 1 nodes s
          from None g k = row_node f.node s role u f.slot f.bytes b turn.0.0.0 r e k
          from (Some c) g k = ih (g ∙ k)

-- ---- lists

same_distinct : (ns : List ℕ) → are_distinct ns ≡ is_distinct ns
same_distinct [] = refl
same_distinct (n ∷ ns) = λ i. not (is_among ns n) && same_distinct ns i

module _ (image : Image) (form : ImageInForm image) (calm : IsCalm image) where
  free : (s : ℕ) (role : Role) (u : Uid) → InDoubt (disks_of image.files s) role u → ⊥
  free s role u doubt =
      subst (λ p. names p u) (none_pends image.files (let st = calm.stopped in st.files) s role doubt.0) doubt.1

  one_fits : (o : ObjectLine) → In o (let h = image.header in h.objects) → is_listing (listed image.header image.journal o.x) ≡ true →
      NodesInForm (let h = image.header in h.nodes) STORES (listed image.header image.journal o.x)
  one_fits o there is = by (listed image.header image.journal o.x) is
      (calm.clean o.x (line_there image.header o there) (free 1 Names (entry o.x))).1
    where
      each : (ns : List ℕ) → AllByRecursion (HoldsLast image.header image.journal (disks_of image.files) o.x) ns →
          AllByRecursion (IsWithin 1 (let h = image.header in h.nodes)) ns
      each [] all = tt
      each (n ∷ ns) all = (
        held_node (let h = image.header in h.nodes) [] image.files form.files n Store (object o.x) _ (all.0 (free n Store (object o.x))),
        each ns all.1,
      )

      by : (ns : List ℕ) → is_listing ns ≡ true → AllByRecursion (HoldsLast image.header image.journal (disks_of image.files) o.x) ns →
          NodesInForm (let h = image.header in h.nodes) STORES ns
      by [] listing all = absurd (cc listing)
      by (n ∷ ns) listing all = nodes_in_form (let h = image.header in h.nodes) (n ∷ ns) (let w = form.nodes in w.1) (omega arith)
          (each (n ∷ ns) all) (sym (same_distinct (n ∷ ns)) ∙ listing)

  -- the stores listed for an object are nodes in form
  abbrev pub IsStored : ObjectLine → Type 0
  IsStored o = NodesInForm (let h = image.header in h.nodes) STORES (listed image.header image.journal o.x)

  pub stores_fit : AllByRecursion IsStored
      (let h = image.header in h.objects)
  stores_fit = each (let h = image.header in h.objects) (λ o i. i) (let st = calm.stopped in st.listed)
    where
      each : (os : List ObjectLine) → ((o : ObjectLine) → In o os → In o (let h = image.header in h.objects)) →
          list_all (λ (o : ObjectLine). is_listing (listed image.header image.journal o.x)) os ≡ true →
          AllByRecursion IsStored os
      each [] inside all = tt
      each (o ∷ os) inside all =
          let parts = and_parts (is_listing (listed image.header image.journal o.x))
          (list_all (λ (p : ObjectLine). is_listing (listed image.header image.journal p.x)) os) all in
          (one_fits o (inside o (inl refl)) parts.0, each os (λ p i. inside p (inr i)) parts.1)
