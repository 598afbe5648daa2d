-- A prepare, from the files before the call to those after it.
use Rattle.std.proofs.Common.{◌≡◌, ◌⊎◌, true, false, List, [], ◌∷◌, sym, subst, inl, inr, ⊎_elim, map, Option, Some, None, Bor}
use Rattle.std.specs.Prelude.{is_some, option_copied, Contains}
use Rattle.std.specs.List.{AllByRecursion}
use Rattle.arj_base.specs.declared.state.ObjectState.{ObjectState}
use Rattle.arj_base.specs.declared.uid.Uid.{Uid}
use Rattle.arj_disk.specs.declared.slot.Role.{Role}
use Rattle.arj_disk.specs.FileMap.{FileMap}
use Rattle.arj_disk.specs.Formed.{AtMost}
use Rattle.arj_store.specs.Formed.{FormedFor, IsKnown}
use Rattle.arj_disk.specs.Says.{role_of, OnlyOfRole}
use Rattle.arj_store.specs.Says.{pend}
use Rattle.arj_store.specs.declared.answer.Prep.{Prep}
use Rattle.arj_store.specs.declared.answer.Prep.TheVariants as prep
use Rattle.arj_store.specs.declared.memory.Holding.{Holding}
use Rattle.arj_store.specs.declared.prepare.Place.TheVariants as place
use Rattle.arj_store.specs.OfFiles.{SamePair, IsClear, IsRefused, Prepares, AnswersPrepare}
use Rattle.arj_store.specs.Pair.{uid_of}
use Rattle.arj_store.specs.Shadow.{objects_of, Keeps, HoldsAll, PutsStates, PutsAll}
use Rattle.arj_store.specs.Table.{Sets}
use Rattle.arj_store.proofs.Ends.{same_pair}
use Rattle.arj_store.proofs.Keeping.{put_keeps}
use Rattle.arj_store.specs.Named.{pend_none}
use Rattle.arj_store.proofs.Prepared.{shadows_pair, shadows_formed, shadows_of_role, put_adds, put_formed, put_of_role}

-- nothing is kept for the action
pub none_kept : {T : Type 0} (r : Option (Bor T)) (kept : Option T) → option_copied r ≡ kept → is_some r ≡ false → kept ≡ None
none_kept None kept is none = sym is
none_kept (Some x) kept is none = let never : true ≡ false = none in cc

-- Prepared is no refusal
no_refusal : (file : FileMap) (role : Role) (act : Uid) (states : List ObjectState) → IsRefused file role act states prep.Prepared → ⊥
no_refusal file role act [] is = is
no_refusal file role act (s ∷ ss) is =
    ⊎_elim (λ (h : ⊥). h) (λ (h : IsClear file role act s × IsRefused file role act ss prep.Prepared). no_refusal file role act ss h.1) is

pub answers_refusal : (role : Role) (old new : FileMap) (act : Uid) (states : List ObjectState) (answer : Prep) → pend old role act ≡ None →
    IsRefused old role act states answer → new ≡ old → AnswersPrepare role old new act states answer
answers_refusal role old new act states prep.Prepared first is same = absurd (no_refusal old role act states is)
answers_refusal role old new act states (prep.InDoubt uid holder) first is same =
    (first, is, subst (λ file. SamePair role old file) (sym same) (same_pair role old))
answers_refusal role old new act states (prep.Old uid v) first is same =
    (first, is, subst (λ file. SamePair role old file) (sym same) (same_pair role old))
answers_refusal role old new act states (prep.Already uid by) first is same =
    (first, is, subst (λ file. SamePair role old file) (sym same) (same_pair role old))

module _ (role : Role) (act : Uid) (states : List ObjectState) (old new : FileMap) (formed : FormedFor old role) (clear : AllByRecursion (IsClear old role act) states) (owns : AllByRecursion (λ s. role_of s.uid ≡ role) states)
    (first : objects_of old role act ≡ None) where
  pub prepared_now : PutsAll role act states old new → Prepares role old new act states
  prepared_now puts =
      record { first = pend_none old role act first; clear = clear; adds = put_adds role act states old new formed clear owns puts }

  pub prepare_fault : PutsStates place.Shadow (map uid_of states) old new ⊎ PutsAll role act states old new →
      SamePair role old new ⊎ Prepares role old new act states
  prepare_fault =
      ⊎_elim (λ (puts : PutsStates place.Shadow (map uid_of states) old new). inl (shadows_pair role act states old new formed clear owns puts))
      (λ (puts : PutsAll role act states old new). inr (prepared_now puts))

  pub prepare_formed : AtMost 65535 (λ u. IsKnown old role u ⊎ Contains (map uid_of states) u) →
      PutsStates place.Shadow (map uid_of states) old new ⊎ PutsAll role act states old new → FormedFor new role
  prepare_formed few =
      ⊎_elim (λ (puts : PutsStates place.Shadow (map uid_of states) old new). shadows_formed role act states old new formed clear owns puts)
      (λ (puts : PutsAll role act states old new). put_formed role act states old new formed clear owns puts few)

  pub prepare_others : PutsStates place.Shadow (map uid_of states) old new ⊎ PutsAll role act states old new → OnlyOfRole role old new
  prepare_others =
      ⊎_elim (λ (puts : PutsStates place.Shadow (map uid_of states) old new). shadows_of_role role act states old new formed clear owns puts)
      (λ (puts : PutsAll role act states old new). put_of_role role act states old new formed clear owns puts)

  pub prepare_keeps : (objects : List Uid) → objects ≡ map uid_of states → PutsAll role act states old new →
      (actions actions' : Uid → Option (List Uid)) (holdings holdings' : Uid → Option Holding) → Keeps role actions holdings old
      → Sets actions actions' act (Some objects) → HoldsAll objects act true holdings holdings' → Keeps role actions' holdings' new
  prepare_keeps objects is puts actions actions' holdings holdings' keeps set holds =
      put_keeps role act states old new formed clear owns puts first actions actions' holdings holdings' keeps
      (subst (λ us. Sets actions actions' act (Some us)) is set) (subst (λ us. HoldsAll us act true holdings holdings') is holds)

  -- the files as they were put, from those before the reads
  pub put_from : (read : FileMap) (slice : List ObjectState) → read ≡ old → slice ≡ states →
      PutsStates place.Shadow (map uid_of slice) read new ⊎ PutsAll role act slice read new →
      PutsStates place.Shadow (map uid_of states) old new ⊎ PutsAll role act states old new
  put_from read slice same is puts =
      subst (λ file. PutsStates place.Shadow (map uid_of states) file new ⊎ PutsAll role act states file new) same (subst (λ ss. PutsStates place.Shadow (map uid_of ss) read new ⊎ PutsAll role act ss read new) is puts)

  pub all_from : (read : FileMap) (slice : List ObjectState) → read ≡ old → slice ≡ states → PutsAll role act slice read new →
      PutsAll role act states old new
  all_from read slice same is puts =
      subst (λ file. PutsAll role act states file new) same (subst (λ ss. PutsAll role act ss read new) is puts)
