-- What changes files of one role alone leaves those of the other, and naming or the store with them.
use Rattle.std.proofs.Common.{◌≡◌, ◌≢◌, ◌∙◌, Bool, true, false, refl, sym, ap, subst, Option, Some, None}
use Rattle.std.specs.Prelude.{is_some}
use Rattle.arj_disk.specs.FileMap.{FileMap}
use Rattle.arj_disk.specs.Says.{OnlyOfRole, SameOfRole, slot_role}
use Rattle.arj_disk.specs.declared.slot.Role.{Role}
use Rattle.arj_disk.specs.declared.slot.Role.TheVariants.{Store, Names}
use Rattle.arj_disk.specs.declared.slot.Slot.TheVariants.{Tmp}
use Rattle.arj_naming.specs.Files.{GivesEntries}
use Rattle.arj_naming.specs.Kept as naming
use Rattle.arj_law_store.specs.store.Files.{IsPairOf}
use Rattle.arj_law_store.proofs.store.Pairs.{pair_same}
use Rattle.arj_protocol.specs.Effect.{Disk, Pair}
use Rattle.arj_serve.specs.Kept.{Kept, NamesOn, IsDiskOf, IsFormed, Leaves, NamingStands, OnlyStates, Stands, StandsOn}
use Rattle.arj_store.specs.Pair as files
use Rattle.arj_store.specs.declared.store.ObjectStore.{Ghosts}

-- a name of one role is no name of the other, and not the one of a file in the making
pub other_role : (r w : Role) (old new : FileMap) → r ≢ w → OnlyOfRole r old new → SameOfRole w old new
other_role r w old new apart only q of = only q (λ own. apart (cc (sym own ∙ of))) (λ tmp. no_role (sym (ap slot_role tmp) ∙ of))
  where
    no_role : slot_role Tmp ≡ Some w → ⊥
    no_role e = absurd (cc e)

names_apart : Store ≢ Names
names_apart e = cc e

store_apart : Names ≢ Store
store_apart e = cc e

pub names_stay : (old new : FileMap) → OnlyOfRole Store old new → SameOfRole Names old new
names_stay old new only = other_role Store Names old new names_apart only

pub store_stays : (old new : FileMap) → OnlyOfRole Names old new → SameOfRole Store old new
store_stays old new only = other_role Names Store old new store_apart only

-- the files of the store changed alone
pub only_store : (named : Bool) (old new : FileMap) → OnlyOfRole Store old new → OnlyStates named old new
only_store true old new only = λ q none tmp. only q (λ own. absurd (cc (sym none ∙ own))) tmp
only_store false old new only = only

-- and those of the entries
pub only_names : (old new : FileMap) → OnlyOfRole Names old new → OnlyStates true old new
only_names old new only q none tmp = only q (λ own. absurd (cc (sym none ∙ own))) tmp

pub gives_same : (p q : files.Pair) → files.SamePair p q → GivesEntries p → GivesEntries q
gives_same p q same gives = record {
  held = λ s held. gives.held s (record { bytes = sym (same.committed s.uid) ∙ held.bytes; in_form = held.in_form; own = held.own });
  pend = λ a states is. gives.pend a states (sym (same.prepared a) ∙ is);
}

-- what the store's trait promises of files of other roles
abbrev pub KeepsOn : {O : Type 0} → Ghosts O → Type 0
KeepsOn {O} o = (store : O) (old new : FileMap) → SameOfRole (o.own_role store) old new → o.keeps store old → o.keeps store new

abbrev pub Stays : {O : Type 0} → Ghosts O → Type 0
Stays o = (r : Role) (old new : FileMap) → SameOfRole r old new → o.formed old r →
    o.formed new r × files.SamePair (o.pair old r) (o.pair new r)

module _ {O : Type 0} (o : Ghosts O) (keeps_on : KeepsOn o) (stays : Stays o) (old new : FileMap) where
  pub naming_goes_on : (n : Option (naming.Kept O)) (p : Pair) → SameOfRole Names old new → NamingStands o n old p → NamingStands o n new p
  naming_goes_on None p same stands = stands
  naming_goes_on (Some n) p same (stands, is, gives) =
      let formed = stays Names old new same stands.formed in (
        record {
          role_is = stands.role_is;
          keeps = keeps_on n.store old new (subst (λ r. SameOfRole r old new) (sym stands.role_is) same) stands.keeps;
          formed = formed.0;
          pair = pair_same (o.pair old Names) (o.pair new Names) n.pair formed.1 stands.pair;
        },
        is,
        gives_same (o.pair old Names) (o.pair new Names) formed.1 gives,
      )

  -- the entries on the disk, where the files of their role stay
  pub names_go_on : (n : Option (naming.Kept O)) (p : Pair) → SameOfRole Names old new → NamingStands o n old p →
      NamesOn (is_some n) o new p
  names_go_on None p same stands = stands
  names_go_on (Some n) p same (stands, is, gives) =
      let formed = stays Names old new same stands.formed in
      (subst (IsPairOf (o.pair new Names)) is (pair_same (o.pair old Names) (o.pair new Names) n.pair formed.1 stands.pair), gives_same (o.pair old Names) (o.pair new Names) formed.1 gives)

  pub formed_with : (n : Option (naming.Kept O)) (p : Pair) → SameOfRole Names old new → NamingStands o n old p → o.formed new Store →
      IsFormed o (is_some n) new
  formed_with None p same stands formed = formed
  formed_with (Some n) p same (stands, is, gives) formed = (formed, (stays Names old new same stands.formed).0)

module _ {O : Type 0} (o : Ghosts O) (s : Kept O) (file : FileMap) (d : Disk) (stands : StandsOn o s file d) where
  names_of : (n : Option (naming.Kept O)) (p : Pair) → NamingStands o n file p → NamesOn (is_some n) o file p
  names_of None p named = named
  names_of (Some n) p (named, is, gives) = (subst (IsPairOf (o.pair file Names)) is named.pair, gives)

  -- what the files of standing services say
  pub disk_is : IsDiskOf o (is_some s.naming) file d
  disk_is = record { store = stands.pair; objects = stands.objects; names = names_of s.naming d.names stands.naming }

  formed_by : (n : Option (naming.Kept O)) (p : Pair) → NamingStands o n file p → IsFormed o (is_some n) file
  formed_by None p named = stands.formed
  formed_by (Some n) p (named, is, gives) = (stands.formed, named.formed)

  -- nothing was done on the disk
  pub nothing_left : Leaves o (is_some s.naming) file file
  nothing_left = record { formed = formed_by s.naming d.names stands.naming; others = nothing_else (is_some s.naming) }
    where
      nothing_else : (named : Bool) → OnlyStates named file file
      nothing_else true = λ q none tmp. refl
      nothing_else false = λ q other tmp. refl

-- nothing was done on the disk of standing services
pub left_as_was : {O : Type 0} (o : Ghosts O) (s : Kept O) (file : FileMap) → Stands o s file → Leaves o (is_some s.naming) file file
left_as_was o s file stands = nothing_left o s file stands.0 stands.1

-- where the services stand, their naming does
pub named_stands : {O : Type 0} (o : Ghosts O) (old now : Kept O) → old ≡ now → (n : naming.Kept O) → old.naming ≡ Some n →
    (file : FileMap) → Stands o now file → naming.StandsOn o n file
named_stands {O} o old now view n was file (d, stands) =
    let named : NamingStands o (Some n) file d.names =
    subst (λ x. NamingStands o x file d.names) (sym (ap (λ (k : Kept O). k.naming) view) ∙ was) stands.naming in
    named.0
