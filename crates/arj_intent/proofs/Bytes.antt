-- The file of a record gives back what it was written from.
use Rattle.std.proofs.Common.{◌≡◌, ◌∙◌, List, [], ◌∷◌, ◌++◌, ℕ, sym, ap, length, arith, take, drop, get_or, Some}
use Rattle.std.proofs.lemmas.List.{take_all}
use Rattle.std.proofs.lemmas.Nat.{from_be_bytes-to_be_bytes_4, from_be_bytes-to_be_bytes_8}
use Rattle.arj_base.specs.Uid.{uid_bytes, UidFits}
use Rattle.arj_base.specs.declared.uid.Uid.{Uid}
use Rattle.arj_disk.specs.Formed.{intent_bytes}
use Rattle.arj_disk.specs.Says.{uid_in}
use Rattle.arj_disk.specs.FileMap.{FileMap}
use Rattle.arj_disk.specs.declared.slot.Slot.TheVariants as slot
use Rattle.arj_intent.specs.Records.{record_at}
use Rattle.arj_protocol.specs.Effect as protocol

pub uid_back : (u : Uid) (rest : List ℕ) → UidFits u → uid_in (take 16 (uid_bytes u ++ rest)) ≡ u
uid_back u rest fits =
    λ i. record {
      node = from_be_bytes-to_be_bytes_4 u.node fits.0 i;
      inc = from_be_bytes-to_be_bytes_4 u.inc fits.1 i;
      num =
          from_be_bytes-to_be_bytes_8 u.num fits.2 i;
    }

-- a Uid is told by its bytes
pub uid_once : (u w : Uid) → UidFits u → UidFits w → uid_bytes u ≡ uid_bytes w → u ≡ w
uid_once u w fits fits' same = sym (uid_back u [] fits) ∙ ap (λ bytes. uid_in (take 16 (bytes ++ []))) same ∙ uid_back w [] fits'

-- what is said of a file that was written so
abbrev pub written : Uid → List ℕ → protocol.Intent
written root nodes = record { root = root; nodes = nodes }

abbrev pub read : List ℕ → protocol.Intent
read bytes = record { root = uid_in (take 16 (drop 4 bytes)); nodes = take (get_or bytes 36 0) (drop 37 bytes) }

pub record_back : (root top : Uid) (nodes : List ℕ) → UidFits root → read (intent_bytes root top nodes) ≡ written root nodes
record_back root top nodes fits =
    λ i. record {
      root = uid_back root (uid_bytes top ++ (length nodes ∷ nodes)) fits i;
      nodes =
          take_all (length nodes) nodes (omega arith) i;
    }

pub record_is : (file : FileMap) (root top : Uid) (nodes : List ℕ) → UidFits root →
    file (slot.Intent top) ≡ Some (intent_bytes root top nodes) → record_at file top ≡ Some (written root nodes)
record_is file root top nodes fits is = rw is (ap Some (record_back root top nodes fits))
