-- What the next incarnation's file makes of what a disk says, put or stopped.
use Rattle.std.proofs.Common.{◌≡◌, ◌∙◌, ◌<◌, ◌+◌, ℕ, List, [], ◌∷◌, ◌++◌, arith, refl, sym, ap, subst, ⊎_elim, Some, None}
use Rattle.std.proofs.lemmas.List.{append-nil}
use Rattle.std.proofs.lemmas.Nat.{from_be_bytes-to_be_bytes_4}
use Rattle.arj_disk.specs.Disk.{Puts, PutsOrNot, Same}
use Rattle.arj_disk.specs.FileMap.{FileMap}
use Rattle.std.specs.Prelude.{IfSome}
use Rattle.std.specs.List.Sorted.{IsStrictlySortedBy}
use Rattle.arj_disk.specs.Formed.{incarnation_bytes, IsIntentOf}
use Rattle.arj_disk.specs.Says.{inc}
use Rattle.arj_disk.specs.declared.slot.Role.TheVariants as role
use Rattle.arj_disk.specs.declared.slot.Slot.TheVariants as slot
use Rattle.arj_intent.specs.Records.{AreRecords, record_at}
use Rattle.arj_journal.specs.declared.body.Line.{Line}
use Rattle.arj_protocol.specs.Effect as protocol
use Rattle.arj_protocol.specs.Effect.{Disk, Do, Say, Look, PutInc, Before, After, Stop, Work, stopped}
use Rattle.arj_protocol.specs.Words.{Uid}
use Rattle.arj_protocol.specs.Words.body
use Rattle.arj_recover.specs.Done.{IsCut, IsCutOf, begins_again, begins_on}
use Rattle.arj_recover.specs.OnDisk.{HasIncarnation, IsDiskOf, IsFirst, IsFormed, IsWorked, MayRaise, MayRise, SaysSame}
use Rattle.arj_recover.proofs.Disks.{Stays, OnlyOwn, only_own, inc_same, formed_on, said_on, same_pair, says_on}
use Rattle.arj_store.specs.declared.store.ObjectStore.{Ghosts}

pub inc_is : (file : FileMap) (n : ℕ) → n < 4294967296 → file slot.Incarnation ≡ Some (incarnation_bytes n) → inc file ≡ n
inc_is file n less is = rw is (from_be_bytes-to_be_bytes_4 n less)

pub has_put : (file : FileMap) (n : ℕ) → n < 4294967296 → file slot.Incarnation ≡ Some (incarnation_bytes n) → HasIncarnation file
has_put file n less is = (incarnation_bytes n, is, (n, less, refl))

module _ {O : Type 0} (o : Ghosts O) (stays : Stays o) (old new : FileMap) (formed : IsFormed o old) where
  abbrev next : ℕ
  next = inc old + 1

  fits : inc old < 4294967295 → next < 4294967296
  fits less = omega (arith, less)

  same_own : Same old new → OnlyOwn old new
  same_own same = only_own old new (λ q _ _. same q)

  pub formed_raised : MayRaise old new → IsFormed o new
  formed_raised = ⊎_elim
      (λ (same : Same old new). formed_on o stays old new formed (same_own same) (formed.incarnation.0, same slot.Incarnation ∙ formed.incarnation.1, formed.incarnation.2))
      (λ (put : (inc old < 4294967295) × PutsOrNot old new slot.Incarnation (incarnation_bytes next)). formed_on o stays old new formed (only_own old new put.1.others)
      (⊎_elim (λ (same : new slot.Incarnation ≡ old slot.Incarnation). (formed.incarnation.0, same ∙ formed.incarnation.1, formed.incarnation.2))
      (λ (here : new slot.Incarnation ≡ Some (incarnation_bytes next)). has_put new next (fits put.0) here) put.1.here))

  raised_here : inc old < 4294967295 → new slot.Incarnation ≡ Some (incarnation_bytes next) → OnlyOwn old new →
      IsWorked o (PutInc next) old new
  raised_here less here same d are = said_on o stays old new formed next d same (sym (inc_is new next (fits less) here)) are

  pub worked_raised : inc old < 4294967295 → Puts old new slot.Incarnation (incarnation_bytes next) → IsWorked o (PutInc next) old new
  worked_raised less puts = raised_here less puts.here (only_own old new puts.others)

  -- the next incarnation of a disk is that of its files
  next_of : (d : Disk) → IsDiskOf o old d → d.inc + 1 ≡ next
  next_of d are = ap (λ i. i + 1) are.inc

  cut_at : (n : ℕ) (lines : List Line) (d : Disk) (how : Stop) → IsDiskOf o new (stopped how (PutInc (d.inc + 1)) d) →
      IsCut o (begins_again n (d.inc + 1)) d new (record { before = lines; after = lines })
  cut_at n lines d how left = record {
    front = Do Look ∷ [];
    work = PutInc (d.inc + 1);
    back = Say (body.Up n (d.inc + 1)) ∷ Do Look ∷ [];
    how = how;
    are = refl;
    disk = left;
    lines = sym (append-nil lines);
  }

  cut_before : (n : ℕ) (lines : List Line) (d : Disk) → OnlyOwn old new → new slot.Incarnation ≡ old slot.Incarnation → IsDiskOf o old d →
      IsCut o (begins_again n (d.inc + 1)) d new (record { before = lines; after = lines })
  cut_before n lines d own same are = cut_at n lines d Before (says_on o stays old new formed own same d are)

  pub cut_raised : (n : ℕ) (lines : List Line) → MayRaise old new → IsCutOf o (begins_on n) old new lines lines
  cut_raised n lines files d are = ⊎_elim
      (λ (same : Same old new). cut_before n lines d (same_own same) (same slot.Incarnation) are)
      (λ (put : (inc old < 4294967295) × PutsOrNot old new slot.Incarnation (incarnation_bytes next)). ⊎_elim
      (λ (same : new slot.Incarnation ≡ old slot.Incarnation). cut_before n lines d (only_own old new put.1.others) same are)
      (λ (here : new slot.Incarnation ≡ Some (incarnation_bytes next)). cut_at n lines d After
      (subst (λ i. IsDiskOf o new (record d {
        inc =
            i;
      })) (sym (next_of d are)) (raised_here put.0 here (only_own old new put.1.others) d are))) put.1.here) files

  -- the store's recovery is stopped, once the node is up
  pub cut_up : (n : ℕ) (mid : FileMap) (before after : List Line) → IsWorked o (PutInc next) old mid → SaysSame o mid new →
      after ≡ before ++ record { event = 0; body = body.Up n next } ∷ [] → IsCutOf o (begins_on n) old new before after
  cut_up n mid before after worked same lines d are = record {
    front = Do Look ∷ Do (PutInc (d.inc + 1)) ∷ Say (body.Up n (d.inc + 1)) ∷ [];
    work = Look;
    back = [];
    how = Before;
    are = refl;
    disk = subst (λ i. IsDiskOf o new (record d { inc = i })) (sym (next_of d are)) (same (record d { inc = next }) (worked d are));
    lines = lines ∙ ap (λ k. before ++ record { event = 0; body = body.Up n k } ∷ []) (sym (next_of d are));
  }

rises_same : (old new : FileMap) → inc new ≡ inc old → MayRise old new
rises_same old new same = (omega (arith, same), omega (arith, same))

-- the incarnation stays or rises by one
pub rises : (old new : FileMap) → MayRaise old new → MayRise old new
rises old new = ⊎_elim
    (λ (same : Same old new). rises_same old new (inc_same old new (same slot.Incarnation)))
    (λ (put : (inc old < 4294967295) × PutsOrNot old new slot.Incarnation (incarnation_bytes (inc old + 1))). ⊎_elim
    (λ (same : new slot.Incarnation ≡ old slot.Incarnation). rises_same old new (inc_same old new same))
    (λ (here : new slot.Incarnation ≡ Some (incarnation_bytes (inc old + 1))). let is : inc new ≡ inc old + 1 =
    inc_is new (inc old + 1) (omega (arith, put.0)) here in (omega (arith, is), omega (arith, is))) put.1.here)

-- what stays behind the work leaves it done
pub worked_on : {O : Type 0} (o : Ghosts O) (w : Work) (old mid new : FileMap) → IsWorked o w old mid → SaysSame o mid new →
    IsWorked o w old new
worked_on o w old mid new worked same d are = same (protocol.worked w d) (worked d are)

-- the first incarnation is put behind the first states
module _ {O : Type 0} (o : Ghosts O) (stays : Stays o) (old new : FileMap) (store : o.formed old role.Store) (names : o.formed old role.Names) (none : (u : Uid) → old (slot.Intent u) ≡ None) (puts : Puts old new slot.Incarnation (incarnation_bytes 1)) where
  abbrev own : OnlyOwn old new
  own = only_own old new puts.others

  pub first_formed : IsFormed o new
  first_formed = record {
    store = (stays role.Store old new own.store store).0;
    names = (stays role.Names old new own.names names).0;
    incarnation = has_put new 1 (omega arith) puts.here;
    intents = λ u. subst (λ f. IfSome f (IsIntentOf u)) (sym (own.intents u ∙ none u)) tt;
  }

  no_record : (u : Uid) → new (slot.Intent u) ≡ None → record_at new u ≡ None
  no_record u gone = rw gone refl

  no_records : AreRecords new []
  unfolding IsStrictlySortedBy
  no_records = record { there = λ u. sym (no_record u (own.intents u ∙ none u)); rises = tt }

  pub first_said : IsFirst o old new
  first_said s n is_store is_names = record {
    inc = sym (inc_is new 1 (omega arith) puts.here);
    store = same_pair (o.pair old role.Store) (o.pair new role.Store) s (stays role.Store old new own.store store).1 is_store;
    names = same_pair (o.pair old role.Names) (o.pair new role.Names) n (stays role.Names old new own.names names).1 is_names;
    intents = no_records;
  }
