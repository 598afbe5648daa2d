-- Both halves of the object's machine are carried by each handler, and so they are there in each world that is reached; and copies agree in
-- it.
use Rattle.arj_law_parts.proofs.Words
use Words.{◌≡◌, ◌==◌, ℕ, [], true, Option, Some, None, refl, ap, subst, is_some, option_map, in_from, Header, Message, ObjectState, entry}
use Words.{top_of, Disk, held_at, Naming, Parts, Seen}
use Rattle.arj_law_disk_view.proofs.Terms
use Terms.{IsAtStarts, World, Office, Packed, Keeps, up, KnowsNode, packed_entry, Kinds, SeesBoth, CountsOn, IsForGrants, MayRecord}
use Terms.{kept_both}
use Terms.{keeps_given, HaveEntries, IsInStep, KnowsEntries, Agrees, AreOfTops, kinds_of, KeepsPart}
use Rattle.arj_law_disk_view.proofs.running.{Begun.kinds_agree, EntryKeeps.HoldsFirst, EntryKeeps.keeps_entries, EntryWalks.mine_of}
use Rattle.arj_law_disk_view.proofs.running.{HeardMessage.of_top}

-- ---- what naming's half counts on

pub counted : (x : ℕ) (tops : Kinds) (k : ℕ) (d : Disk) (t : Parts) (M : Seen) (m : Message) (A : Office) (n : Naming) →
    KnowsNode tops k d t M → HaveEntries x (up k d t M) → SeesBoth x tops A (up k d t M) → AreOfTops tops m → t.naming ≡ Some n
    → MayRecord x d n m A × IsForGrants x d n m A → CountsOn x tops d n m A
counted x tops k d t M m A n knows have both of is it = record {
  path = λ h a asked. of_top tops A.world.disk h.path knows.kinds (let s = both.disks in s.fixed) (of h a asked);
  recorded = it.0;
  taken = λ h grants excluded included asked on. here.taken (top_of h.path) on;
  confirmed = it.1;
  there = here.there;
}
  where
    here : IsInStep x n d.names
    here = let e = mine_of x k d (Some t) M have (ap (λ z. 1 == z) (knows.naming_here n is).0) in
        subst (λ o. KnowsEntries x o d.names) is (e.live t refl)

-- entries at naming are kept beside, where both halves of the object are seen at first
pub with_entries : (hd : Header) (x : ℕ) (R : Seen → Type 0) (S : World → Seen → Type 0) (P : Kinds → Office → Seen → Type 0) →
    KeepsPart hd x S P → Keeps hd R → Keeps hd (λ M. R M × HaveEntries x M)
with_entries hd x R S P parts kept = kept_both hd R (HaveEntries x) kept (keeps_given hd R (HaveEntries x) (keeps_entries x hd there))
  where
    none : Agrees (kinds_of []) []
    none = kinds_agree [] tt (λ a w c on. absurd (in_from a [] c))

    there : IsAtStarts hd (HoldsFirst x)
    there st formed n is =
        let f = parts.first (kinds_of []) none.unwalked none.kinds st formed in
        let e = (let both = f.1 in let s = both.disks in s.entry n is) in
        let p = e.pair in
        held (held_at (entry x) (let d = n.disk in d.names)) p.held_is
      where
        held : {p : Packed} (o : Option ObjectState) → option_map packed_entry o ≡ Some p → is_some o ≡ true
        held None h = absurd (cc h)
        held (Some st) h = refl
