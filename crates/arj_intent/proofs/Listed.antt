-- The names of a disk, gone through in their order, give its records by their tops.
use Rattle.std.proofs.Common.{◌≡◌, ◌⊎◌, ◌∙◌, List, [], ◌∷◌, ◌++◌, ℕ, zero, suc, ◌≤◌, take, length, arith, refl, sym, ap, subst, inl, inr}
use Rattle.std.proofs.Common.{⊎_elim, Option, Some, None}
use Rattle.std.specs.Prelude.{◌≢◌, IsSome, is_some, option_map, flat_map, Contains, false}
use Rattle.std.specs.List.{AllByRecursion}
use Rattle.std.specs.List.Sorted.{IsStrictlySortedBy}
use Rattle.std.specs.Option.{option_to_list}
use Rattle.std.specs.Ordering.{is_eq}
use Rattle.std.specs.declared.cmp.Ordering.{Ordering}
use Rattle.std.specs.declared.cmp.Ordering.TheVariants.{Less, Equal, Greater}
use Rattle.arj_base.specs.Order.{uid_order}
use Rattle.arj_base.specs.declared.uid.Uid.{Uid}
use Rattle.std.proofs.lemmas.List.{take_all}
use Rattle.arj_disk.specs.Disk.{Lists, Same}
use Rattle.arj_disk.specs.FileMap.{FileMap}
use Rattle.arj_disk.specs.Slot.{slot_order}
use Rattle.arj_disk.specs.declared.slot.Slot.{Slot}
use Rattle.arj_disk.specs.declared.slot.Slot.TheVariants as slot
use Rattle.arj_intent.specs.Records.{AreRecords, record_at, entries_at, under}
use Rattle.arj_intent.proofs.Entries.{Rises, IsBelowAll, order_exact, order_itself}
use Rattle.arj_protocol.specs.Effect as protocol
use Rattle.arj_protocol.specs.Order.{at_uid}

abbrev pub Entries : Type 0
Entries = List (Uid × protocol.Intent)

abbrev pub listed : FileMap → List Slot → Entries
listed file names = flat_map (entries_at file) names

-- an entry of this record, if there is one
abbrev one_of : Uid → Option protocol.Intent → Entries
one_of top o = option_to_list (option_map (under top) o)

-- ---- the entries rise

below_one : (top b : Uid) (o : Option protocol.Intent) (es : Entries) → uid_order top b ≡ Less → IsBelowAll top es →
    IsBelowAll top (one_of b o ++ es)
below_one top b None es less all = all
below_one top b (Some i) es less all = (less, all)

below_slot : (file : FileMap) (top : Uid) (q : Slot) (es : Entries) → slot_order (slot.Intent top) q ≡ Less → IsBelowAll top es →
    IsBelowAll top (entries_at file q ++ es)
below_slot file top slot.Incarnation es less all = all
below_slot file top slot.Tmp es less all = all
below_slot file top (slot.Committed u) es less all = all
below_slot file top (slot.Shadow u) es less all = all
below_slot file top (slot.Prepared r u) es less all = all
below_slot file top (slot.Pending r u) es less all = all
below_slot file top (slot.Segment r k) es less all = all
below_slot file top (slot.Intent b) es less all = below_one top b (record_at file b) es less all

below_names : (file : FileMap) (top : Uid) (names : List Slot) → AllByRecursion (λ q. slot_order (slot.Intent top) q ≡ Less) names →
    IsBelowAll top (listed file names)
below_names file top [] all = tt
below_names file top (q ∷ qs) all = below_slot file top q (listed file qs) all.0 (below_names file top qs all.1)

rises_one : (b : Uid) (o : Option protocol.Intent) (es : Entries) → IsBelowAll b es → Rises es → Rises (one_of b o ++ es)
unfolding IsStrictlySortedBy
rises_one b None es all rises = rises
rises_one b (Some i) es all rises = (all, rises)

listed_rises : (file : FileMap) (names : List Slot) → IsStrictlySortedBy slot_order names → Rises (listed file names)
unfolding IsStrictlySortedBy
listed_rises file [] sorted = tt
listed_rises file (q ∷ qs) sorted = by q sorted.0 (listed_rises file qs sorted.1)
  where
    by : (q : Slot) → AllByRecursion (λ p. slot_order q p ≡ Less) qs → Rises (listed file qs) → Rises (entries_at file q ++ listed file qs)
    by slot.Incarnation all rises = rises
    by slot.Tmp all rises = rises
    by (slot.Committed u) all rises = rises
    by (slot.Shadow u) all rises = rises
    by (slot.Prepared r u) all rises = rises
    by (slot.Pending r u) all rises = rises
    by (slot.Segment r k) all rises = rises
    by (slot.Intent b) all rises = rises_one b (record_at file b) (listed file qs) (below_names file b qs all) rises

-- ---- the entries are the records

-- what has been gone through has the record of this top, or it isn't among it and none is listed
abbrev Found : FileMap → Uid → List Slot → Entries → Type 0
Found file top names es = (at_uid top es ≡ record_at file top) ⊎ ((at_uid top es ≡ None) × (Contains names (slot.Intent top) → ⊥))

in_rest : (q x : Slot) (qs : List Slot) → q ≢ x → Contains (q ∷ qs) x → Contains qs x
in_rest q x qs apart (zero, within, is) = absurd (apart is)
in_rest q x qs apart (suc k, within, is) = (k, omega arith, is)

-- the order tells their files apart
apart : (top b : Uid) (o : Ordering) → uid_order top b ≡ o → (o ≡ Equal → ⊥) → slot.Intent b ≢ slot.Intent top
apart top b o is unequal same = let e : b ≡ top = cc in unequal (sym is ∙ ap (uid_order top) e ∙ order_itself top)

passed : (top b : Uid) (o : Option protocol.Intent) (es : Entries) → is_eq (uid_order top b) ≡ false →
    at_uid top (one_of b o ++ es) ≡ at_uid top es
passed top b None es isnt = refl
passed top b (Some i) es isnt = rw isnt refl

met : (file : FileMap) (top : Uid) (o : Option protocol.Intent) (qs : List Slot) (es : Entries) → record_at file top ≡ o →
    Found file top qs es → at_uid top (one_of top o ++ es) ≡ o
met file top None qs es is found =
    ⊎_elim (λ (h : at_uid top es ≡ record_at file top). h ∙ is) (λ (h : (at_uid top es ≡ None) × (Contains qs (slot.Intent top) →
    ⊥)). h.0) found
met file top (Some i) qs es is found = rw (order_itself top) refl

skipped : (file : FileMap) (top : Uid) (q : Slot) (qs : List Slot) (es es' : Entries) → q ≢ slot.Intent top →
    at_uid top es' ≡ at_uid top es → Found file top qs es → Found file top (q ∷ qs) es'
skipped file top q qs es es' apart same = ⊎_elim (λ (h : at_uid top es ≡ record_at file top). inl (same ∙ h))
    (λ (h : (at_uid top es ≡ None) × (Contains qs (slot.Intent top) →
    ⊥)). inr (same ∙ h.0, λ has. h.1 (in_rest q (slot.Intent top) qs apart has)))

found_by : (file : FileMap) (top b : Uid) (qs : List Slot) (es : Entries) (o : Ordering) → uid_order top b ≡ o → Found file top qs es →
    Found file top (slot.Intent b ∷ qs) (one_of b (record_at file b) ++ es)
found_by file top b qs es Less is found =
    skipped file top (slot.Intent b) qs es (one_of b (record_at file b) ++ es) (apart top b Less is (λ (e : Less ≡ Equal). cc)) (passed top b (record_at file b) es (ap is_eq is)) found
found_by file top b qs es Greater is found =
    skipped file top (slot.Intent b) qs es (one_of b (record_at file b) ++ es) (apart top b Greater is (λ (e : Greater ≡ Equal). cc)) (passed top b (record_at file b) es (ap is_eq is)) found
found_by file top b qs es Equal is found =
    let P : Uid → Type 0 = λ w. at_uid top (one_of w (record_at file w) ++ es) ≡ record_at file top in
    inl (subst P (order_exact top b is) (met file top (record_at file top) qs es refl found))

found_in : (file : FileMap) (top : Uid) (names : List Slot) → Found file top names (listed file names)
found_in file top [] = inr (refl, λ has. omega (arith, has.1))
found_in file top (q ∷ qs) = by q (found_in file top qs)
  where
    by : (q : Slot) → Found file top qs (listed file qs) → Found file top (q ∷ qs) (entries_at file q ++ listed file qs)
    by slot.Incarnation found =
        skipped file top slot.Incarnation qs (listed file qs) (listed file qs) (λ (e : slot.Incarnation ≡ slot.Intent top). cc) refl found
    by slot.Tmp found = skipped file top slot.Tmp qs (listed file qs) (listed file qs) (λ (e : slot.Tmp ≡ slot.Intent top). cc) refl found
    by (slot.Committed u) found =
        skipped file top (slot.Committed u) qs (listed file qs) (listed file qs) (λ (e : slot.Committed u ≡ slot.Intent top). cc) refl found
    by (slot.Shadow u) found =
        skipped file top (slot.Shadow u) qs (listed file qs) (listed file qs) (λ (e : slot.Shadow u ≡ slot.Intent top). cc) refl found
    by (slot.Prepared r u) found =
        skipped file top (slot.Prepared r u) qs (listed file qs) (listed file qs) (λ (e : slot.Prepared r u ≡ slot.Intent top). cc) refl found
    by (slot.Pending r u) found =
        skipped file top (slot.Pending r u) qs (listed file qs) (listed file qs) (λ (e : slot.Pending r u ≡ slot.Intent top). cc) refl found
    by (slot.Segment r k) found =
        skipped file top (slot.Segment r k) qs (listed file qs) (listed file qs) (λ (e : slot.Segment r k ≡ slot.Intent top). cc) refl found
    by (slot.Intent b) found = found_by file top b qs (listed file qs) (uid_order top b) refl found

no_record : (file : FileMap) (top : Uid) (o : Option (List ℕ)) → file (slot.Intent top) ≡ o → (IsSome (file (slot.Intent top)) → ⊥) →
    record_at file top ≡ None
no_record file top None is none = rw is refl
no_record file top (Some bytes) is none = absurd (none (ap is_some is))

pub list_is : (file : FileMap) (names : List Slot) → Lists file names → AreRecords file (listed file names)
list_is file names lists = record {
  there = λ top. ⊎_elim (λ (h : at_uid top (listed file names) ≡ record_at file top). h)
      (λ (h : (at_uid top (listed file names) ≡ None) × (Contains names (slot.Intent top) →
      ⊥)). h.0 ∙ sym (no_record file top (file (slot.Intent top)) refl (λ some. h.1 ((lists.there (slot.Intent top)).0 some)))) (found_in file top names);
  rises = listed_rises file names lists.increasing;
}

-- all names were gone through
pub all_found : (file mid : FileMap) (names items : List Slot) (k : ℕ) (found : Entries) → Same file mid → Lists file names →
    items ≡ names → length items ≤ k → found ≡ listed mid (take k items) → AreRecords file found
all_found file mid names items k found same lists are whole is =
    let files : mid ≡ file = λ i q. same q i in
    subst (AreRecords file) (sym (is ∙ ap (λ f. listed f (take k items)) files ∙ ap (listed file) (take_all k items whole ∙ are))) (list_is file names lists)
