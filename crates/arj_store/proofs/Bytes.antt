-- The file of a prepared action gives back its objects.
use Rattle.std.proofs.Common.{◌≡◌, ◌∙◌, List, [], ◌∷◌, ◌++◌, ℕ, zero, suc, ◌*◌, ◌+◌, ◌<◌, ◌≤◌, refl, sym, ap, length, arith, take, drop}
use Rattle.std.proofs.Common.{get_or}
use Rattle.std.proofs.lemmas.List.{drop-drop, take_more, append_assoc, take_all}
use Rattle.std.proofs.lemmas.Grind.{flat_map-append}
use Rattle.std.specs.Prelude.{flat_map}
use Rattle.std.specs.List.{AllByRecursion}
use Rattle.std.proofs.lemmas.Nat.{from_be_bytes-to_be_bytes_4, from_be_bytes-to_be_bytes_8}
use Rattle.arj_base.specs.Uid.{uid_bytes, UidFits}
use Rattle.arj_base.specs.declared.uid.Uid.{Uid}
use Rattle.arj_store.specs.Formed.{prepared_bytes}
use Rattle.arj_disk.specs.Says.{uid_in, uids_in}
use Rattle.arj_store.specs.Says.{named_in}
use Rattle.arj_store.proofs.Lists.{all_take_more, all_at}

pub uid_back : (u : Uid) (rest : List ℕ) → UidFits u → uid_in (take 16 (uid_bytes u ++ rest)) ≡ u
uid_back u rest fits =
    λ i. record {
      node = from_be_bytes-to_be_bytes_4 u.node fits.0 i;
      inc = from_be_bytes-to_be_bytes_4 u.inc fits.1 i;
      num =
          from_be_bytes-to_be_bytes_8 u.num fits.2 i;
    }

pub uids_back : (us : List Uid) → AllByRecursion UidFits us → uids_in (length us) (flat_map uid_bytes us) ≡ us
uids_back [] fit = refl
uids_back (u ∷ us) fit = λ i. uid_back u (flat_map uid_bytes us) fit.0 i ∷ uids_back us fit.1 i

pub named_back : (a : Uid) (us : List Uid) → AllByRecursion UidFits us → named_in (prepared_bytes a us) ≡ us
named_back a us fit = uids_back us fit

-- a Uid is told by its bytes
pub uid_once : (u w : Uid) → UidFits u → UidFits w → uid_bytes u ≡ uid_bytes w → u ≡ w
uid_once u w fits fits' same = sym (uid_back u [] fits) ∙ ap (λ bytes. uid_in (take 16 (bytes ++ []))) same ∙ uid_back w [] fits'

pub length_uids : (us : List Uid) → length (flat_map uid_bytes us) ≡ 16 * length us
length_uids [] = refl
length_uids (u ∷ us) = let rest = length_uids us in omega (arith, rest)

-- the bytes of the k-th Uid
pub uid_at_place : (us : List Uid) (k : ℕ) (d : Uid) → k < length us →
    take 16 (drop (16 * k) (flat_map uid_bytes us)) ≡ uid_bytes (get_or us k d)
uid_at_place [] k d within = let never : ⊥ = omega arith in absurd never
uid_at_place (u ∷ us) zero d within = refl
uid_at_place (u ∷ us) (suc k) d within =
    let sum : 16 * suc k ≡ 16 + 16 * k = omega arith in
    ap (λ n. take 16 (drop n (flat_map uid_bytes (u ∷ us)))) sum ∙ ap (take 16) (sym (drop-drop (16 * k) 16 (flat_map uid_bytes (u ∷ us)))) ∙ uid_at_place us k d (omega arith)

pub fits_at : (us : List Uid) (k : ℕ) (d : Uid) → AllByRecursion UidFits us → k < length us → UidFits (get_or us k d)
fits_at us k d fit within = all_at UidFits us k d within fit

module _ (a : Uid) (us : List Uid) (bytes : List ℕ) (is : bytes ≡ prepared_bytes a us) (fit : AllByRecursion UidFits us) where
  pub count_is : get_or bytes 20 0 ≡ length us
  count_is = ap (λ bs. get_or bs 20 0) is

  pub length_is : length bytes ≡ 21 + 16 * length us
  length_is = let rest = length_uids us in ap length is ∙ omega (arith, rest)

  pub objects_are : named_in bytes ≡ us
  objects_are = ap named_in is ∙ named_back a us fit

  pub place_is : (k : ℕ) (d : Uid) → k < length us → take 16 (drop (21 + 16 * k) bytes) ≡ uid_bytes (get_or us k d)
  place_is k d within =
      ap (λ bs. take 16 (drop (21 + 16 * k) bs)) is ∙ ap (take 16) (sym (drop-drop (16 * k) 21 (prepared_bytes a us))) ∙ uid_at_place us k d within

  -- one more object is read
  pub object_next : (i : ℕ) (r : Uid) → i < length us → uid_bytes r ≡ take 16 (drop (21 + 16 * i) bytes) → UidFits r →
      take i (named_in bytes) ++ r ∷ [] ≡ take (i + 1) (named_in bytes)
  object_next i r within read fits =
      let same : r ≡ get_or us i r = uid_once r (get_or us i r) fits (fits_at us i r fit within) (read ∙ place_is i r within) in
      ap (λ ws. take i ws ++ r ∷ []) objects_are ∙ ap (λ w. take i us ++ w ∷ []) same ∙ sym (take_more us i r within) ∙ ap (take (i + 1)) (sym objects_are)

  pub objects_all : (i : ℕ) → length us ≤ i → take i (named_in bytes) ≡ named_in bytes
  objects_all i whole = let long : length (named_in bytes) ≤ i = omega (arith, ap length objects_are) in take_all i (named_in bytes) long

-- one more Uid is written
pub bytes_more : (front : List ℕ) (us : List Uid) (i : ℕ) (d : Uid) → i < length us →
    (front ++ flat_map uid_bytes (take i us)) ++ uid_bytes (get_or us i d) ≡ front ++ flat_map uid_bytes (take (i + 1) us)
bytes_more front us i d within =
    append_assoc front (flat_map uid_bytes (take i us)) (uid_bytes (get_or us i d)) ∙ ap (λ bytes. front ++ bytes) (one (take i us) (get_or us i d) ∙ ap (flat_map uid_bytes) (sym (take_more us i d within)))
  where
    one : (ws : List Uid) (u : Uid) → flat_map uid_bytes ws ++ uid_bytes u ≡ flat_map uid_bytes (ws ++ u ∷ [])
    one ws u = sym (flat_map-append uid_bytes ws (u ∷ []))

pub fit_more : (us : List Uid) (i : ℕ) (d : Uid) → i < length us → AllByRecursion UidFits (take i us) → UidFits (get_or us i d) →
    AllByRecursion UidFits (take (i + 1) us)
fit_more us i d within fit fits = all_take_more UidFits us i d within fit fits
