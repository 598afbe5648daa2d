-- Which names of files have no text among those that were tried; and no two names have one text.
use Rattle.std.proofs.Common.{◌≡◌, ◌≢◌, ℕ, List, [], ◌∷◌, ◌++◌, Bool, true, false, None, refl, sym, ◌∙◌, ap, arith}
use Rattle.std.specs.Prelude.{codes}
use Rattle.std.specs.Fmt.{decimal}
use Rattle.std.proofs.lemmas.Bool.{both_ways}
use Rattle.arj_base.specs.declared.uid.Uid.{Uid}
use Rattle.arj_base.specs.Uid.{UidFits, uid_text}
use Rattle.arj_disk.specs.declared.slot.Role.{Role}
use Rattle.arj_disk.specs.declared.slot.Role.TheVariants.{Store, Names}
use Rattle.arj_disk.specs.declared.slot.Slot.{Slot}
use Rattle.arj_disk.specs.declared.slot.Slot.TheVariants as slot
use Rattle.arj_image.specs.Known.{HasNoRole, IsBareSlot, IsOwned, IsOwnedSlot, IsUidSlot}
use Rattle.arj_image.specs.Texts.{SlotInForm, owned_text, role_text, slot_text}
use Rattle.arj_journal_reader.proofs.ByKind.{Once}
use Rattle.arj_journal_reader.proofs.Leaves.{number_once, uid_once}
use Rattle.arj_text.proofs.Texts.{same_rest}
use Rattle.arj_text.specs.Fields.{IsRead, NumberInForm, behind}

-- a name of no kind
pub no_slot : (bytes : List ℕ) → IsRead IsBareSlot slot_text bytes None → IsRead IsUidSlot slot_text bytes None →
    IsRead IsOwnedSlot slot_text bytes None → IsRead SlotInForm slot_text bytes None
no_slot bytes bares uids owned = λ s h e. cases s h e
  where
    cases : (s : Slot) → SlotInForm s → bytes ≢ slot_text s
    cases slot.Incarnation h e = bares slot.Incarnation refl e
    cases slot.Tmp h e = bares slot.Tmp refl e
    cases (slot.Committed u) h e = uids (slot.Committed u) (h, refl) e
    cases (slot.Shadow u) h e = uids (slot.Shadow u) (h, refl) e
    cases (slot.Prepared r u) h e = owned (slot.Prepared r u) (h, refl) e
    cases (slot.Intent u) h e = uids (slot.Intent u) (h, refl) e
    cases (slot.Pending r u) h e = owned (slot.Pending r u) (h, refl) e
    cases (slot.Segment r k) h e = owned (slot.Segment r k) (h, refl) e

-- no name with a Uid alone
pub no_uid_slot : (bytes : List ℕ) → IsRead UidFits (behind (codes "committed ") uid_text) bytes None →
    IsRead UidFits (behind (codes "shadow ") uid_text) bytes None → IsRead UidFits (behind (codes "intent ") uid_text) bytes None →
    IsRead IsUidSlot slot_text bytes None
no_uid_slot bytes committed shadow intent = λ s h e. cases s h e
  where
    cases : (s : Slot) → IsUidSlot s → bytes ≢ slot_text s
    cases (slot.Committed u) h e = committed u h.0 e
    cases (slot.Shadow u) h e = shadow u h.0 e
    cases (slot.Intent u) h e = intent u h.0 e
    cases _ h e = both_ways false refl h.1

-- no name that says whose the file is
pub no_owned_slot : (bytes : List ℕ) → IsRead (IsOwned UidFits) (behind (codes "prepared ") (owned_text uid_text)) bytes None →
    IsRead (IsOwned UidFits) (behind (codes "pending ") (owned_text uid_text)) bytes None →
    IsRead (IsOwned NumberInForm) (behind (codes "segment ") (owned_text decimal)) bytes None → IsRead IsOwnedSlot slot_text bytes None
no_owned_slot bytes prepared pending segment = λ s h e. cases s h e
  where
    cases : (s : Slot) → IsOwnedSlot s → bytes ≢ slot_text s
    cases (slot.Prepared r u) h e = prepared (r, u) h.0 e
    cases (slot.Pending r u) h e = pending (r, u) h.0 e
    cases (slot.Segment r k) h e = segment (r, k) h.0 e
    cases _ h e = both_ways false refl h.1

-- neither role
pub no_role : (bytes : List ℕ) → ((rest : List ℕ) → bytes ≢ codes "store " ++ rest) → ((rest : List ℕ) → bytes ≢ codes "names " ++ rest) →
    HasNoRole bytes
no_role bytes store names Store rest e = store rest e
no_role bytes store names Names rest e = names rest e

-- A role and what stands behind it have one text.
abbrev first : List ℕ → ℕ
first [] = 0
first (b ∷ bs) = b

pub owned_once : {A : Type 0} (InForm : A → Type 0) (text : A → List ℕ) → Once InForm text → Once (IsOwned InForm) (owned_text text)
owned_once {A = A} InForm text once p q hp hq e = by p q hp hq e
  where
    by : (p q : Role × A) → InForm p.1 → InForm q.1 → owned_text text p ≡ owned_text text q → p ≡ q
    by (Store, a) (Store, b) ha hb e = ap (λ c. (Store, c)) (once a b ha hb (same_rest (codes "store ") (text a) (text b) e))
    by (Names, a) (Names, b) ha hb e = ap (λ c. (Names, c)) (once a b ha hb (same_rest (codes "names ") (text a) (text b) e))
    by (Store, a) (Names, b) ha hb e = absurd (omega (arith, ap first e))
    by (Names, a) (Store, b) ha hb e = absurd (omega (arith, ap first e))

-- the third letter tells a kind
abbrev third : List ℕ → ℕ
third (a ∷ b ∷ c ∷ cs) = c
third _ = 0

pub slot_once : Once SlotInForm slot_text
slot_once slot.Incarnation t hs ht e = by t (ap third e)
  where
    by : (t : Slot) → 99 ≡ third (slot_text t) → slot.Incarnation ≡ t
    by slot.Incarnation _ = refl
    by _ e = absurd (omega (arith, e))
slot_once slot.Tmp t hs ht e = by t (ap third e)
  where
    by : (t : Slot) → 112 ≡ third (slot_text t) → slot.Tmp ≡ t
    by slot.Tmp _ = refl
    by _ e = absurd (omega (arith, e))
slot_once (slot.Committed u) t hs ht e = by t ht e (ap third e)
  where
    by : (t : Slot) → SlotInForm t → slot_text (slot.Committed u) ≡ slot_text t → 109 ≡ third (slot_text t) → slot.Committed u ≡ t
    by (slot.Committed w) ht e _ = ap slot.Committed (uid_once u w hs ht (same_rest (codes "committed ") (uid_text u) (uid_text w) e))
    by _ ht e l = absurd (omega (arith, l))
slot_once (slot.Shadow u) t hs ht e = by t ht e (ap third e)
  where
    by : (t : Slot) → SlotInForm t → slot_text (slot.Shadow u) ≡ slot_text t → 97 ≡ third (slot_text t) → slot.Shadow u ≡ t
    by (slot.Shadow w) ht e _ = ap slot.Shadow (uid_once u w hs ht (same_rest (codes "shadow ") (uid_text u) (uid_text w) e))
    by _ ht e l = absurd (omega (arith, l))
slot_once (slot.Intent u) t hs ht e = by t ht e (ap third e)
  where
    by : (t : Slot) → SlotInForm t → slot_text (slot.Intent u) ≡ slot_text t → 116 ≡ third (slot_text t) → slot.Intent u ≡ t
    by (slot.Intent w) ht e _ = ap slot.Intent (uid_once u w hs ht (same_rest (codes "intent ") (uid_text u) (uid_text w) e))
    by _ ht e l = absurd (omega (arith, l))
slot_once (slot.Prepared r u) t hs ht e = by t ht e (ap third e)
  where
    by : (t : Slot) → SlotInForm t → slot_text (slot.Prepared r u) ≡ slot_text t → 101 ≡ third (slot_text t) → slot.Prepared r u ≡ t
    by (slot.Prepared q w) ht e _ =
        ap (λ (p : Role × Uid). slot.Prepared p.0 p.1) (owned_once UidFits uid_text uid_once (r, u) (q, w) hs ht
        (same_rest (codes "prepared ") (owned_text uid_text (r, u)) (owned_text uid_text (q, w)) e))
    by _ ht e l = absurd (omega (arith, l))
slot_once (slot.Pending r u) t hs ht e = by t ht e (ap third e)
  where
    by : (t : Slot) → SlotInForm t → slot_text (slot.Pending r u) ≡ slot_text t → 110 ≡ third (slot_text t) → slot.Pending r u ≡ t
    by (slot.Pending q w) ht e _ =
        ap (λ (p : Role × Uid). slot.Pending p.0 p.1) (owned_once UidFits uid_text uid_once (r, u) (q, w) hs ht
        (same_rest (codes "pending ") (owned_text uid_text (r, u)) (owned_text uid_text (q, w)) e))
    by _ ht e l = absurd (omega (arith, l))
slot_once (slot.Segment r k) t hs ht e = by t ht e (ap third e)
  where
    by : (t : Slot) → SlotInForm t → slot_text (slot.Segment r k) ≡ slot_text t → 103 ≡ third (slot_text t) → slot.Segment r k ≡ t
    by (slot.Segment q j) ht e _ =
        ap (λ (p : Role × ℕ). slot.Segment p.0 p.1) (owned_once NumberInForm decimal number_once (r, k) (q, j) hs ht
        (same_rest (codes "segment ") (owned_text decimal (r, k)) (owned_text decimal (q, j)) e))
    by _ ht e l = absurd (omega (arith, l))
