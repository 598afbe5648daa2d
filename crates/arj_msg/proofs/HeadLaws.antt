-- The laws of paths and of heads.
use Rattle.std.proofs.Common.{◌≡◌, ℕ, ◌≤◌, List, length, min, Ok, sym, ap, subst, refl, ◌∙◌, arith}
use Rattle.std.proofs.Math.Nat.{min-le_left, min-le_right, le-min}
use Rattle.arj_base.specs.declared.path.Path.{Path}
use Rattle.arj_base.specs.declared.uid.Uid.{Uid}
use Rattle.arj_base.specs.Path.{uids_of, tops_of}
use Rattle.arj_msg.specs.Format.{byte, both, many, read_many}
use Rattle.arj_msg.specs.Fields.{uid}
use Rattle.arj_msg.specs.Head.{path, path_form, path_made, path_of, path_parts, head, asked}
use Rattle.arj_msg.proofs.Laws.{IsBytes, bytes_of_rest, Lawful, chain_lawful, image_lawful, shaped_lawful, many_lawful, made}
use Rattle.arj_msg.proofs.FieldLaws.{byte_lawful, between_le, both_lawful, uid_lawful, number4_lawful}
use Rattle.arj_msg.proofs.PathLaws.{Makes, path_is, path_again}

one_more : (count : ℕ) → 1 ≤ count → 1 ≤ min count 2
one_more count le = le-min le (omega arith)

counts_of : (low high n : ℕ) → (byte low high).Fits n → (low ≤ n) × (n ≤ high)
unfolding byte
counts_of low high n fits = between_le low high n fits

path_form_lawful : Lawful path_form
unfolding byte
path_form_lawful = chain_lawful (byte 1 16) (λ count. both (many uid count) (byte 1 (min count 2))) (byte_lawful 1 16 (omega arith))
    (λ count fits. both_lawful (many_lawful uid uid_lawful count) (byte_lawful 1 (min count 2) (one_more count (between_le 1 16 count fits).0)))

path_made_is : (p : (count : ℕ) × (List Uid × ℕ)) → path_form.Fits p → Makes (path_made p) p.1.0 p.1.1 × (length p.1.0 ≡ p.0)
unfolding byte
path_made_is p fits =
    let count = between_le 1 16 p.0 fits.0 in
    let tops = between_le 1 (min p.0 2) p.1.1 fits.1.1 in
    let size : length p.1.0 ≡ p.0 = fits.1.0.0 in
    (path_is p.1.0 p.1.1 (omega (arith, size, count.0)) (omega (arith, size, count.1)) tops.0 (omega (arith, tops.1, min-le_right p.0 2)) (omega (arith, size, tops.1, min-le_left p.0 2)), size)

path_forth : (p : (count : ℕ) × (List Uid × ℕ)) → path_form.Fits p →
    path.Fits (path_made p) × (path.spell (path_made p) ≡ path_form.spell p) × (path.fields (path_made p) ≡ path_form.fields p)
unfolding path
path_forth p fits =
    let is = path_made_is p fits in
    let there : path_parts (path_made p) ≡ p = λ i. ((ap length is.0.has ∙ is.1) i, (is.0.has i, is.0.ends_with i)) in
    (subst path_form.Fits (sym there) fits, ap path_form.spell there, ap path_form.fields there)

path_back : (p : Path) → path.Fits p → (q : (count : ℕ) × (List Uid × ℕ)) × path_form.Fits q × (path_made q ≡ p)
unfolding path
path_back p fits = (path_parts p, fits, sym (path_again p (uids_of p) (tops_of p) refl refl))

path_reads : (bytes : List ℕ) → path.read bytes ≡ made path_made (path_form.read bytes)
unfolding path
path_reads bytes = refl

pub path_lawful : Lawful path
path_lawful = image_lawful path_made path_form path path_form_lawful path_reads path_forth path_back

-- what the three parts of a path say, once they are read
pub record ReadsPath (bytes : List ℕ) (us : List Uid) (tops : ℕ) (rest : List ℕ) : Type 0 where
  pub some : 1 ≤ length us
  pub most : length us ≤ 16
  pub one_top : 1 ≤ tops
  pub two_tops : tops ≤ 2
  pub within : tops ≤ length us
  pub read : path.read bytes ≡ Ok (path_of us tops, rest)

path_read : (bytes : List ℕ) (count : ℕ) (r1 : List ℕ) (us : List Uid) (r2 : List ℕ) (tops : ℕ) (r3 : List ℕ) → IsBytes bytes →
    (byte 1 16).read bytes ≡ Ok (count, r1) → read_many uid count r1 ≡ Ok (us, r2) → (byte 1 (min count 2)).read r2 ≡ Ok (tops, r3)
    → ReadsPath bytes us tops r3
unfolding path
path_read bytes count r1 us r2 tops r3 are e1 e2 e3 =
    let first = (byte_lawful 1 16 (omega arith)).found bytes count r1 are e1 in
    let counts = counts_of 1 16 count first.0 in
    let are1 = bytes_of_rest bytes ((byte 1 16).spell count) r1 are first.1 in
    let second = (many_lawful uid uid_lawful count).found r1 us r2 are1 e2 in
    let are2 = bytes_of_rest r1 ((many uid count).spell us) r2 are1 second.1 in
    let third = (byte_lawful 1 (min count 2) (one_more count counts.0)).found r2 tops r3 are2 e3 in
    let size : length us ≡ count = second.0.0 in
    let limits = counts_of 1 (min count 2) tops third.0 in record {
      some = omega (arith, size, counts.0);
      most = omega (arith, size, counts.1);
      one_top = limits.0;
      two_tops = omega (arith, limits.1, min-le_right count 2);
      within = omega (arith, size, limits.1, min-le_left count 2);
      read = rw (e1, e2, e3) refl;
    }

pub reads_path : (bytes : List ℕ) (count n limit : ℕ) (r1 : List ℕ) (us now : List Uid) (r2 : List ℕ) (tops : ℕ) (r3 : List ℕ) →
    IsBytes bytes → n ≡ count → limit ≡ min count 2 → now ≡ us → (byte 1 16).read bytes ≡ Ok (count, r1)
    → read_many uid n r1 ≡ Ok (us, r2) → (byte 1 limit).read r2 ≡ Ok (tops, r3) → ReadsPath bytes now tops r3
reads_path bytes count n limit r1 us now r2 tops r3 are n_is limit_is now_is e1 e2 e3 =
    subst (λ ws. ReadsPath bytes ws tops r3) (sym now_is)
    (path_read bytes count r1 us r2 tops r3 are e1 (subst (λ m. read_many uid m r1 ≡ Ok (us, r2)) n_is e2) (subst (λ m. (byte 1 m).read r2 ≡ Ok (tops, r3)) limit_is e3))

pub head_lawful : Lawful head
unfolding head
head_lawful = shaped_lawful _ _ (both_lawful path_lawful number4_lawful) (λ p fits. refl) (λ h fits. refl)

pub asked_lawful : Lawful asked
unfolding asked
asked_lawful = shaped_lawful _ _ (both_lawful uid_lawful number4_lawful) (λ p fits. refl) (λ a fits. refl)
