-- Reads leave all files as they are, and balances add up.
use Rattle.std.proofs.Common.{◌≡◌, ℕ, zero, suc, ◌+◌, ◌-◌, List, [], ◌∷◌, true, false, Option, Some, None, if◌then◌else◌, refl, sym, ◌∙◌}
use Rattle.std.proofs.Common.{ap, subst}
use Rattle.std.specs.Prelude.{◌≤◌, Contains, IsSome, nat_le, slice_get, slice_set}
use Rattle.std.proofs.Common.{arith}
use Rattle.std.proofs.lemmas.Bool.{and_parts}
use Rattle.arj_gen.specs.declared.bank.TheConstants.{NODES}
use Rattle.std.proofs.Math.Numerals.{add-one}
use Rattle.arj_bank.specs.Balances.{AddUpTo, Held, IsBalance, capped, files_in, held_by, is_number, no_files, node_files}
use Rattle.arj_base.specs.declared.uid.Uid.{Uid}
use Rattle.arj_disk.specs.Disk.{Same}
use Rattle.arj_disk.specs.FileMap.{FileMap}
use Rattle.arj_disk.specs.Says.{slot_role}
use Rattle.arj_disk.specs.declared.slot.Role.{Role}
use Rattle.arj_disk.specs.declared.slot.Slot.{Slot}
use Rattle.arj_store.specs.Pair.{HasOnly, Packs, Pair}
use Rattle.arj_store.specs.declared.store.ObjectStore.{Ghosts}
use Rattle.arj_world.proofs.Disks.{some_one}

-- a number of a node of the bank
pub is_one : (node : ℕ) → is_number node ≡ true → (1 ≤ node) × (node ≤ NODES)
is_one node is = let parts = and_parts (nat_le 1 node) (nat_le node NODES) is in (grind (arith, parts.0), grind (arith, parts.1))

module _ {D : Type 0} (file : D → FileMap) where
  -- a disk in the place of one with the same files
  set_one : (i k : ℕ) (rack : List D) (d e : D) → slice_get rack i ≡ Some d → file e ≡ file d →
      files_in file (slice_get (slice_set rack i e) k) ≡ files_in file (slice_get rack k)
  set_one i k [] d e at same = refl
  set_one zero zero (x ∷ rack) d e at same = same ∙ ap file (sym (some_one x d at))
  set_one zero (suc k) (x ∷ rack) d e at same = refl
  set_one (suc i) zero (x ∷ rack) d e at same = refl
  set_one (suc i) (suc k) (x ∷ rack) d e at same = set_one i k rack d e at same

  pub files_stay : (node : ℕ) (rack : List D) (d e : D) → slice_get rack (node - 1) ≡ Some d → Same (file d) (file e) →
      node_files file (slice_set rack (node - 1) e) ≡ node_files file rack
  files_stay node rack d e at same =
      let one : file e ≡ file d = λ i slot. same slot i in
      λ i k. if is_number k then set_one (node - 1) (k - 1) rack d e at one i else no_files

  -- the files of a node are those of its disk
  pub files_of : (node : ℕ) (rack : List D) (d : D) → is_number node ≡ true → slice_get rack (node - 1) ≡ Some d →
      node_files file rack node ≡ file d
  files_of node rack d is at = λ i. if is i then files_in file (at i) else no_files

  pub no_files_of : (node : ℕ) (rack : List D) → is_number node ≡ false → node_files file rack node ≡ no_files
  no_files_of node rack is = λ i. if is i then files_in file (slice_get rack (node - 1)) else no_files

-- what the store's trait promises of files among which there is none of a role
abbrev pub IsBlank : {O : Type 0} → Ghosts O → Type 0
IsBlank o = (r : Role) (file : FileMap) → ((q : Slot) → slot_role q ≡ Some r → file q ≡ None) → o.formed file r × HasOnly (o.pair file r) []

no_element : (uid : Uid) → Contains [] uid → ⊥
no_element uid is = omega (arith, is.1)

only_none : (p : Pair) → HasOnly p [] → (uid : Uid) (bytes : Option (List ℕ)) → p.held uid ≡ bytes → Packs bytes None
only_none p only uid None is = refl
only_none p only uid (Some bytes) is = absurd (no_element uid (only.others uid (subst IsSome (sym is) refl)))

-- of no files a store reads no state
pub packs_none : {O : Type 0} (o : Ghosts O) → IsBlank o → (file : FileMap) (r : Role) (uid : Uid) → file ≡ no_files →
    Packs (held_by o file r uid) None
packs_none o blank file r uid same =
    subst (λ f. Packs (held_by o f r uid) None) (sym same) (only_none (o.pair no_files r) (blank r no_files (λ q of. refl)).1 uid (held_by o no_files r uid) refl)

pub add_more : (held now : Held) (k before balance sum : ℕ) → now ≡ held → AddUpTo held k before → IsBalance now (k + 1) balance →
    sum ≡ capped (before + balance) → AddUpTo held (k + 1) sum
add_more held now k before balance sum same adds is sum_is =
    subst (λ j. AddUpTo held j sum) (sym (add-one k)) (before, balance, adds, subst (λ h. IsBalance h (k + 1) balance) same is, sum_is)
