-- What a tree keeps through each of its steps.
use Rattle.std.proofs.Common.{◌≡◌, ℕ, ◌+◌, List, [], ◌∷◌, ◌++◌, length, refl, ap, sym, ◌∙◌, subst, true, false, Bool, Some, None, arith}
use Rattle.std.proofs.Common.{nat_eq, nat_le, length-append}
use Rattle.std.proofs.lemmas.List.{length-set}
use Rattle.std.specs.Prelude.{slice_get, slice_set}
use Rattle.arj_protocol.specs.Ask.{actor}
use Rattle.arj_protocol.specs.Tree.{Tree, Branch, Family, ended_at, ended_branch, listed_end, doomed_at, doomed_branch}
use Rattle.arj_protocol.specs.Words.{Uid, Path, End, Kind, uids_of}
use Rattle.arj_tree.specs.Open.{Opens, opens}
use Rattle.indexmap.specs.IndexMap.{insert_entry, shift_remove_entry}
use Rattle.arj_tree.specs.Stands.{IsPlace, Stands, with_branch}
use Rattle.arj_tree.specs.Tally.{Families, family_in, changed, with_action, AreWithin}
use Rattle.arj_tree.proofs.Maps.{within_changed}
use Rattle.arj_tree.proofs.Named.{named_begun, named_changed, place_is}
use Rattle.arj_tree.proofs.Opens.{inserted_last, opens_begun, opens_ended, opens_doomed}
use Rattle.arj_start.specs.Kinds.{is_serial}

-- what equals what a tree keeps is kept too
pub same_stands : (node inc : ℕ) (bs cs : List Branch) (o q : Opens) (m n : Families) → cs ≡ bs → q ≡ o → n ≡ m → Stands node inc bs o m →
    Stands node inc cs q n
same_stands node inc bs cs o q m n bs_is o_is m_is s =
    subst (λ cs. Stands node inc cs q n) (sym bs_is) (subst (λ q. Stands node inc bs q n) (sym o_is) (subst (λ n. Stands node inc bs o n) (sym m_is) s))

-- an action begins
pub stands_begun : (node inc : ℕ) (bs : List Branch) (o : Opens) (m : Families) (u : Uid) (p : Path) (k : Kind) (root : ℕ) →
    Stands node inc bs o m
    → u ≡ record { node = node; inc = inc; num = length bs + 1 } → actor p ≡ u → (is_serial k ≡ true → length (uids_of p) ≡ 1)
    → Stands node inc (bs ++ record {
      path = p;
      kind = k;
      ended = None;
      doomed =
          false;
    } ∷ []) (insert_entry nat_eq o u.num p) (changed with_action root m)
stands_begun node inc bs o m u p k root s named last single =
    let b : Branch = record { path = p; kind = k; ended = None; doomed = false } in
    let place : 1 + length bs ≡ length bs + 1 = omega arith in
    let num : u.num ≡ 1 + length bs = ap (λ (u : Uid). u.num) named ∙ sym place in
    let more : length (bs ++ b ∷ []) ≡ length bs + 1 = length-append bs (b ∷ []) in
    record {
      kept = ap (λ es. insert_entry nat_eq es u.num p) s.kept ∙ ap (λ n. insert_entry nat_eq (opens 1 bs) n p) num
          ∙ inserted_last (1 + length bs) 1 p bs (omega arith) ∙ sym (opens_begun 1 bs b refl);
      named = named_begun node inc 1 bs b s.named (last ∙ named ∙ ap (λ (n : ℕ). record {
        node = node;
        inc = inc;
        num =
            n;
      }) (sym place)) single;
      within = subst (λ n. AreWithin n (changed with_action root m)) (sym more) (within_changed with_action (length bs) (length bs + 1) root m s.within (omega arith) (omega (arith, s.within root)));
    }

-- what a root has changes, but not the count of its actions
pub stands_changed : (node inc : ℕ) (bs : List Branch) (o : Opens) (m : Families) (f : Family → Family) (root : ℕ) →
    Stands node inc bs o m → (f (family_in root m)).actions ≡ (family_in root m).actions
    → Stands node inc bs o (changed f root m)
stands_changed node inc bs o m f root s same = record {
  kept = s.kept;
  named = s.named;
  within = within_changed f (length bs) (length bs) root m s.within (omega arith) (omega (arith, s.within root, same));
}

-- an action ends
pub stands_ended : (node inc k : ℕ) (bs : List Branch) (o left : Opens) (m : Families) (b c : Branch) (e : End) → Stands node inc bs o m →
    slice_get bs k ≡ Some b → c ≡ record b { ended = Some e } → left ≡ shift_remove_entry (nat_eq (k + 1)) o
    → Stands node inc (slice_set bs k c) left m
stands_ended node inc k bs o left m b c e s at is left_is =
    let place : k + 1 ≡ 1 + k = omega arith in
    record {
      kept = left_is ∙ ap (shift_remove_entry (nat_eq (k + 1))) s.kept ∙ ap (λ n. shift_remove_entry (nat_eq n) (opens 1 bs)) place ∙ sym (opens_ended 1 k bs b e at) ∙ ap (λ c. opens 1 (slice_set bs k c)) (sym is);
      named = named_changed node inc 1 k bs b c s.named at (ap (λ (x : Branch). x.path) is) (ap (λ (x : Branch). x.kind) is);
      within = subst (λ n. AreWithin n m) (sym (length-set bs k c)) s.within;
    }

-- an action is doomed
pub stands_doomed : (node inc k : ℕ) (bs : List Branch) (o : Opens) (m : Families) (b c : Branch) → Stands node inc bs o m →
    slice_get bs k ≡ Some b → c ≡ record b { doomed = true } → Stands node inc (slice_set bs k c) o m
stands_doomed node inc k bs o m b c s at is = record {
  kept = s.kept ∙ sym (opens_doomed 1 k bs b at) ∙ ap (λ c. opens 1 (slice_set bs k c)) (sym is);
  named = named_changed node inc 1 k bs b c s.named at (ap (λ (x : Branch). x.path) is) (ap (λ (x : Branch). x.kind) is);
  within = subst (λ n. AreWithin n m) (sym (length-set bs k c)) s.within;
}

-- an end that was listed and noted is the protocol's
pub ended_is : (u : Uid) (e : End) (t mid : Tree) (k : ℕ) (b : Branch) → IsPlace u k t → slice_get t.branches k ≡ Some b →
    mid ≡ listed_end u e b.path t → with_branch k (record b { ended = Some e }) mid ≡ ended_at u e t
ended_is u e t mid k b is at mid_is =
    ap (with_branch k (record b {
      ended =
          Some e;
    })) mid_is ∙ by (nat_le (length (uids_of b.path)) 1) refl ∙ ap (ended_branch u e t) (sym (place_is u t k is ∙ at))
  where
    by : (short : Bool) → nat_le (length (uids_of b.path)) 1 ≡ short →
        with_branch k (record b { ended = Some e }) (listed_end u e b.path t) ≡ ended_branch u e t (Some b)
    by true short = rw (short, is.number) refl
    by false short = rw (short, is.number) refl

-- and so is an action that is doomed
pub doomed_is : (u : Uid) (t : Tree) (k : ℕ) (b c : Branch) → IsPlace u k t → slice_get t.branches k ≡ Some b →
    c ≡ record b { doomed = true } → with_branch k c t ≡ doomed_at u t
doomed_is u t k b c is at c_is =
    ap (λ c. with_branch k c t) c_is ∙ rw is.number refl ∙ ap (doomed_branch u t) (sym (place_is u t k is ∙ at))
